-- A shard got a new configuration: the places change one after the other.
use Rattle.std.proofs.Common.{◌≡◌, ℕ, zero, suc, ◌+◌, ◌<◌, ◌≤◌, Bool, true, false, cond, List, [], ◌∷◌, ◌++◌, length, map, filter, get_or, take, Option, None, Some, refl, sym, ◌∙◌, ap, arith, add-one, append-nil, append_assoc}
use Rattle.std.specs.Prelude.{flat_map}
use Rattle.std.proofs.Math.ListN.{set}
use Rattle.std.proofs.Math.Seq.{map-set_same}
use Rattle.tcs_terms.specs.declared.ids.TxId.{TxId}
use Rattle.tcs_terms.specs.declared.messages.Outgoing.{Outgoing}
use Rattle.tcs_terms.specs.Places.{Membership}
use Rattle.protocol.specs.Records.{Case}
use Rattle.protocol.specs.Cases.{prepare, send_case}
use Rattle.protocol.specs.Coordination.{ask_again, has_part}
use Rattle.coordinator.specs.OpenCases.{taken, txn_at, asked_at, asks_at, sends_at}

module _ {X : Type 0} (f : X → X) where
  -- a list with the first so many elements changed
  abbrev pub changed_until : ℕ → List X → List X
  changed_until zero xs = xs
  changed_until (suc i) [] = []
  changed_until (suc i) (x ∷ xs) = f x ∷ changed_until i xs

  pub length-changed_until : (i : ℕ) (xs : List X) → length (changed_until i xs) ≡ length xs
  length-changed_until zero xs = refl
  length-changed_until (suc i) [] = refl
  length-changed_until (suc i) (x ∷ xs) = ap suc (length-changed_until i xs)

  pub next_unchanged : (i : ℕ) (xs : List X) (d : X) → get_or (changed_until i xs) i d ≡ get_or xs i d
  next_unchanged zero xs d = refl
  next_unchanged (suc i) [] d = refl
  next_unchanged (suc i) (x ∷ xs) d = next_unchanged i xs d

  one_more : (i : ℕ) (xs : List X) (d y : X) → i < length xs → y ≡ f (get_or xs i d) → set (changed_until i xs) i y ≡ changed_until (suc i) xs
  one_more i [] d y h e = absurd (omega arith)
  one_more zero (x ∷ xs) d y h e = ap (λ (z : X). z ∷ xs) e
  one_more (suc i) (x ∷ xs) d y h e = ap (λ (zs : List X). f x ∷ zs) (one_more i xs d y (omega arith) e)

  pub changed_one_more : (i : ℕ) (xs : List X) (d y : X) → i < length xs → y ≡ f (get_or xs i d) → set (changed_until i xs) i y ≡ changed_until (i + 1) xs
  changed_one_more i xs d y h e = rw add-one (one_more i xs d y h e)

  pub all_changed : (i : ℕ) (xs : List X) → length xs ≤ i → changed_until i xs ≡ map f xs
  all_changed zero [] h = refl
  all_changed zero (x ∷ xs) h = absurd (omega arith)
  all_changed (suc i) [] h = refl
  all_changed (suc i) (x ∷ xs) h = ap (λ (zs : List X). f x ∷ zs) (all_changed i xs (omega arith))

pub asked_txn : (shard : ℕ) (slot : Option (TxId × Case)) → txn_at (asked_at shard slot) ≡ txn_at slot
asked_txn shard None = refl
asked_txn shard (Some e) = refl

pub asked_until : (shard i : ℕ) (slots : List (Option (TxId × Case))) → map txn_at (changed_until (asked_at shard) i slots) ≡ map txn_at slots
asked_until shard zero slots = refl
asked_until shard (suc i) [] = refl
asked_until shard (suc i) (s ∷ slots) = rw (asked_txn shard s, asked_until shard i slots) refl

pub asked_taken : (shard : ℕ) (slots : List (Option (TxId × Case))) → taken (map (asked_at shard) slots) ≡ map (λ e. (e.0, ask_again shard e.1)) (taken slots)
asked_taken shard [] = refl
asked_taken shard (None ∷ slots) = asked_taken shard slots
asked_taken shard (Some e ∷ slots) = ap (λ (zs : List (TxId × Case)). (e.0, ask_again shard e.1) ∷ zs) (asked_taken shard slots)

pub asks_all : (n : ℕ) (config : Membership) (slots : List (Option (TxId × Case)))
    → flat_map (asks_at n config) slots ≡ flat_map (λ e. prepare n e.0 e.1 (Some config)) (filter (λ e. has_part e.1 config.shard) (taken slots))
asks_all n config [] = refl
asks_all n config (None ∷ slots) = asks_all n config slots
asks_all n config (Some e ∷ slots) = go (has_part e.1 config.shard) (asks_all n config slots) where
  go : (b : Bool) → flat_map (asks_at n config) slots ≡ flat_map (λ e. prepare n e.0 e.1 (Some config)) (filter (λ e. has_part e.1 config.shard) (taken slots))
      → cond b (prepare n e.0 e.1 (Some config)) [] ++ flat_map (asks_at n config) slots
      ≡ flat_map (λ e. prepare n e.0 e.1 (Some config)) (cond b (e ∷ filter (λ e. has_part e.1 config.shard) (taken slots)) (filter (λ e. has_part e.1 config.shard) (taken slots)))
  go true more = ap (λ (zs : List Outgoing). prepare n e.0 e.1 (Some config) ++ zs) more
  go false more = more

pub sends_all : (views : List Membership) (slots : List (Option (TxId × Case))) → flat_map (sends_at views) slots ≡ flat_map (λ e. send_case views e.0 e.1) (taken slots)
sends_all views [] = refl
sends_all views (None ∷ slots) = sends_all views slots
sends_all views (Some e ∷ slots) = ap (λ (zs : List Outgoing). send_case views e.0 e.1 ++ zs) (sends_all views slots)

module _ {X Y : Type 0} (f : X → List Y) where
  flat_next : (i : ℕ) (xs : List X) (d : X) → i < length xs → flat_map f (take (suc i) xs) ≡ flat_map f (take i xs) ++ f (get_or xs i d)
  flat_next i [] d h = absurd (omega arith)
  flat_next zero (x ∷ xs) d h = append-nil (f x)
  flat_next (suc i) (x ∷ xs) d h = ap (λ (ys : List Y). f x ++ ys) (flat_next i xs d (omega arith)) ∙ sym (append_assoc (f x) (flat_map f (take i xs)) (f (get_or xs i d)))

  pub flat_one_more : (i : ℕ) (xs : List X) (d : X) → i < length xs → flat_map f (take (i + 1) xs) ≡ flat_map f (take i xs) ++ f (get_or xs i d)
  flat_one_more i xs d h = rw add-one (flat_next i xs d h)

-- a place that keeps its transaction leaves the transactions as they are
pub keeps_txns : (slots : List (Option (TxId × Case))) (at : ℕ) (old new : Option (TxId × Case)) → txn_at new ≡ txn_at old → old ≡ get_or slots at old
    → map txn_at (set slots at new) ≡ map txn_at slots
keeps_txns slots at old new same here = map-set_same txn_at slots at new old (same ∙ ap txn_at here)
