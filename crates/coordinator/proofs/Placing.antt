-- An answer for the case that stands at a transaction's place: what it comes to, and what the places are then.
use Rattle.std.proofs.Common.{◌≡◌, ℕ, ◌+◌, ◌<◌, Bool, true, false, cond, List, [], ◌∷◌, ◌++◌, length, map, get_or, Option, Some, None, refl, sym, ◌∙◌, ap, subst}
use Rattle.std.specs.Map.{lookup, set_value}
use Rattle.std.proofs.Math.ListN.{set}
use Rattle.tcs_terms.specs.declared.ids.TxId.{TxId}
use Rattle.tcs_terms.specs.declared.inputs.Handled.TheVariants.{Acted}
use Rattle.tcs_terms.specs.Logs.{same_txn}
use Rattle.tcs_terms.specs.Places.{Membership}
use Rattle.tcs_terms.specs.Preparations.{Preparation}
use Rattle.protocol.specs.Records.{Case}
use Rattle.protocol.specs.Views.{view_of}
use Rattle.protocol.specs.Cases.{part_of, is_complete}
use Rattle.protocol.specs.Coordination.{case_of, with_case, without_case, on_prepare_ack, on_accept_ack}
use Rattle.coordinator.specs.Acknowledged.{having, both_pass, takes_vote, takes_ack, voted_case, acknowledged_case, send_one, told, noted}
use Rattle.coordinator.specs.OpenCases.{taken, txn_at, IsPlaced}
use Rattle.coordinator.proofs.Closing.{checked}
use Rattle.coordinator.proofs.HeardRules.{vote_goes_on, ack_goes_on}
use Rattle.coordinator.proofs.Slots.{stands_at, not_found, placed_put, placed_clear, closed_at}

key_is : {X : Type 0} (o : Option (TxId × X)) (t u : TxId) (x y : X) → o ≡ Some (t, x) → o ≡ Some (u, y) → t ≡ u
key_is {X} None t u x y e f = absurd cc
key_is {X} (Some p) t u x y e f = let one : (t, x) ≡ (u, y) = cc in ap (λ (q : TxId × X). q.0) one

value_is : {X : Type 0} (o : Option (TxId × X)) (t u : TxId) (x y : X) → o ≡ Some (t, x) → o ≡ Some (u, y) → x ≡ y
value_is {X} None t u x y e f = absurd cc
value_is {X} (Some p) t u x y e f = let one : (t, x) ≡ (u, y) = cc in ap (λ (q : TxId × X). q.1) one

-- a transaction without a place has no case
module _ (views : List Membership) (places : List (TxId × ℕ)) (slots : List (Option (TxId × Case))) (placed : IsPlaced places (map txn_at slots)) (txn : TxId) where
  pub no_case : lookup (same_txn txn) places ≡ None → case_of (having views (taken slots)) txn ≡ None
  no_case e = not_found txn 0 slots (sym (placed.found txn) ∙ e)

-- what was read at the transaction's place is its case
pub record Reads (places : List (TxId × ℕ)) (slots : List (Option (TxId × Case))) (txn key : TxId) (at : ℕ) (case : Case) : Type 0 where
  pub placed : IsPlaced places (map txn_at slots)
  pub there : lookup (same_txn txn) places ≡ Some at
  pub own : key ≡ txn
  pub is_case : lookup (same_txn txn) (taken slots) ≡ Some case
  pub within : at < length slots

pub reads : (places : List (TxId × ℕ)) (slots : List (Option (TxId × Case))) (txn key : TxId) (at : ℕ) (case : Case) (read : Option (TxId × Case))
    → IsPlaced places (map txn_at slots) → lookup (same_txn txn) places ≡ Some at → read ≡ get_or slots at read → read ≡ Some (key, case)
    → Reads places slots txn key at case
reads places slots txn key at case read placed there here is =
    let s = stands_at places slots placed txn at there in
    let found = here ∙ s.here read in
    record {
      placed = placed;
      there = there;
      own = key_is read key txn case s.value is found;
      is_case = s.found ∙ ap (λ (c : Case). Some c) (value_is read txn key s.value case found is);
      within = s.within;
    }

-- nothing stands at no transaction's place
pub reads_none : (places : List (TxId × ℕ)) (slots : List (Option (TxId × Case))) (txn : TxId) (at : ℕ) (read : Option (TxId × Case))
    → IsPlaced places (map txn_at slots) → lookup (same_txn txn) places ≡ Some at → read ≡ get_or slots at read → read ≡ None → ⊥
reads_none places slots txn at read placed there here none =
    let s = stands_at places slots placed txn at there in
    let found : read ≡ Some (txn, s.value) = here ∙ s.here read in
    absurd cc

module _ (views : List Membership) (places : List (TxId × ℕ)) (slots : List (Option (TxId × Case))) (txn key : TxId) (at : ℕ) (case : Case) (r : Reads places slots txn key at case) where
  pub still_placed : (y : Case) → IsPlaced places (map txn_at (set slots at (Some (key, y))))
  still_placed y = subst (λ (k : TxId). IsPlaced places (map txn_at (set slots at (Some (k, y))))) (sym r.own) (placed_put places slots r.placed txn at y r.there)

  pub less_placed : (next : List (TxId × ℕ)) (y : Case) → ((q : TxId) → lookup (same_txn q) next ≡ cond (same_txn txn q) None (lookup (same_txn q) places)) → length next + 1 ≡ length places
      → IsPlaced next (map txn_at (set (set slots at (Some (key, y))) at None))
  less_placed next y finds shorter =
      subst (λ (k : TxId). IsPlaced next (map txn_at (set (set slots at (Some (k, y))) at None))) (sym r.own) (placed_clear places slots r.placed next txn at y r.there finds shorter)

  pub put_case : (y : Case) → having views (taken (set slots at (Some (key, y)))) ≡ with_case (having views (taken slots)) txn y
  put_case y = ap (λ (k : TxId). having views (taken (set slots at (Some (k, y))))) r.own ∙ ap (having views) ((stands_at places slots r.placed txn at r.there).put y)

  -- the same case put back
  pub same_case : (y : Case) → y ≡ case → having views (taken (set slots at (Some (key, y)))) ≡ having views (taken slots)
  same_case y same = put_case y ∙ ap (with_case (having views (taken slots)) txn) same ∙ ap (having views) (set_same (taken slots) case r.is_case) where
    set_same : (es : List (TxId × Case)) (x : Case) → lookup (same_txn txn) es ≡ Some x → set_value (same_txn txn) es x ≡ es
    set_same [] x e = refl
    set_same (e ∷ es) x h = go (same_txn txn e.0) (set_same es x) h where
      go : (b : Bool) → (lookup (same_txn txn) es ≡ Some x → set_value (same_txn txn) es x ≡ es)
          → cond b (Some e.1) (lookup (same_txn txn) es) ≡ Some x → cond b ((e.0, x) ∷ es) (e ∷ set_value (same_txn txn) es x) ≡ e ∷ es
      go true more h = let own : e.1 ≡ x = cc in ap (λ (y : Case). (e.0, y) ∷ es) (sym own)
      go false more h = ap (λ (zs : List (TxId × Case)). e ∷ zs) (more h)

  pub close_case : (y : Case) → having views (taken (set (set slots at (Some (key, y))) at None)) ≡ without_case (having views (taken slots)) txn
  close_case y = ap (λ (k : TxId). having views (taken (set (set slots at (Some (k, y))) at None))) r.own ∙ ap (having views) (closed_at places slots r.placed txn at y r.there)

  -- ACCEPT_ACK that acts
  module _ (from shard epoch slot : ℕ) where
    pub record Accepts : Type 0 where
      pub answer : (on_accept_ack (having views (taken slots)) from shard epoch slot txn).answer ≡ Acted
      pub closed : is_complete views (acknowledged_case shard from case) ≡ true
          → (on_accept_ack (having views (taken slots)) from shard epoch slot txn).kept ≡ without_case (having views (taken slots)) txn
      pub kept_open : is_complete views (acknowledged_case shard from case) ≡ false
          → (on_accept_ack (having views (taken slots)) from shard epoch slot txn).kept ≡ with_case (having views (taken slots)) txn (acknowledged_case shard from case)
      pub sends : (on_accept_ack (having views (taken slots)) from shard epoch slot txn).sends ≡ told views txn (acknowledged_case shard from case)
      pub notes : (on_accept_ack (having views (taken slots)) from shard epoch slot txn).notes ≡ noted views txn (acknowledged_case shard from case)

    pub accepts : both_pass (takes_ack from epoch slot) (part_of case.parts shard) (view_of views shard) ≡ true → Accepts
    accepts h =
        let row = ack_goes_on (having views (taken slots)) from shard epoch slot txn case r.is_case h in
        let k = checked (having views (taken slots)) txn (acknowledged_case shard from case) [] in
        record { answer = rw row k.answer; closed = rw row k.closed; kept_open = rw row k.kept_open; sends = rw row k.sends; notes = rw row k.notes }

-- PREPARE_ACK that acts
module _ (views : List Membership) (places : List (TxId × ℕ)) (slots : List (Option (TxId × Case))) (entry : Preparation) (key : TxId) (at : ℕ) (case : Case)
    (r : Reads places slots entry.txn key at case) (from shard epoch : ℕ) where
  abbrev next : Case
  next = voted_case shard entry case

  pub record Votes : Type 0 where
    pub answer : (on_prepare_ack (having views (taken slots)) from shard epoch entry).answer ≡ Acted
    pub closed : is_complete views (voted_case shard entry case) ≡ true
        → (on_prepare_ack (having views (taken slots)) from shard epoch entry).kept ≡ without_case (having views (taken slots)) entry.txn
    pub kept_open : is_complete views (voted_case shard entry case) ≡ false
        → (on_prepare_ack (having views (taken slots)) from shard epoch entry).kept ≡ with_case (having views (taken slots)) entry.txn (voted_case shard entry case)
    pub sends : (on_prepare_ack (having views (taken slots)) from shard epoch entry).sends
        ≡ send_one views entry.txn (voted_case shard entry case) (part_of (voted_case shard entry case).parts shard) ++ told views entry.txn (voted_case shard entry case)
    pub notes : (on_prepare_ack (having views (taken slots)) from shard epoch entry).notes ≡ noted views entry.txn (voted_case shard entry case)

  pub votes : both_pass (takes_vote from epoch entry.slot) (part_of case.parts shard) (view_of views shard) ≡ true → Votes
  votes h =
      let row = vote_goes_on (having views (taken slots)) from shard epoch entry case r.is_case h in
      let k = checked (having views (taken slots)) entry.txn next (send_one views entry.txn next (part_of next.parts shard)) in
      record { answer = rw row k.answer; closed = rw row k.closed; kept_open = rw row k.kept_open; sends = rw row k.sends; notes = rw row k.notes }
