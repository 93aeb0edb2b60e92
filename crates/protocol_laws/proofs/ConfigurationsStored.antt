-- What the configuration service stores in one event.
use Rattle.std.proofs.Common.{◌≡◌, ℕ, zero, suc, ◌+◌, Bool, true, false, cond, List, [], ◌∷◌, ◌++◌, map, filter, Option, Some, None, ◌⊎◌, inl, inr, sym, ◌∙◌, subst, ap, refl, arith, ◌==◌, eqb-true}
use Rattle.std.proofs.lemmas.List.{map-append, append-nil}
use Rattle.std.proofs.lemmas.List.Elements.{filter-append}
use Rattle.std.specs.List.{range_with_len, last_or}
use Rattle.tcs_terms.specs.declared.messages.Message.{Message}
use Rattle.tcs_terms.specs.declared.messages.Message.TheVariants.{Cas}
use Rattle.tcs_terms.specs.Places.{Membership}
use Rattle.protocol.specs.Outcomes.{Out}
use Rattle.protocol.specs.Views.{epoch_of}
use Rattle.protocol.specs.Invariant.Time.{StandsIn}
use Rattle.protocol.proofs.Lists.{StandsIn-append}
use Rattle.protocol_laws.specs.Change.{Serves}
use Rattle.protocol_laws.specs.Change.Serves.{HoldsBack, Tells, Stores}
use Rattle.protocol_laws.proofs.Standing.{StandsIn-left}

-- the epochs of one shard's configurations are 1 to the last one
abbrev pub EpochsFit : List Membership → Type 0
EpochsFit cs = map (λ c. c.epoch) cs ≡ range_with_len 1 (epoch_of (last_or None cs))

-- what is stored stays
pub service_keeps : (nodes : ℕ) (configs : List Membership) (from : ℕ) (message : Message) (out : Out (List Membership)) → Serves nodes configs from message out
    → (c : Membership) → StandsIn c configs → StandsIn c out.kept
service_keeps nodes configs from message out (HoldsBack m answer notices n) c s = s
service_keeps nodes configs from message out (Tells m d k) c s = s
service_keeps nodes configs from message out (Stores d last n l e) c s = StandsIn-left configs (d ∷ []) c s

-- what is stored afterwards was stored, or was proposed
pub service_stored : (nodes : ℕ) (configs : List Membership) (from : ℕ) (message : Message) (out : Out (List Membership)) → Serves nodes configs from message out
    → (c : Membership) → StandsIn c out.kept → StandsIn c configs ⊎ (message ≡ Cas c)
service_stored nodes configs from message out (HoldsBack m answer notices n) c s = inl s
service_stored nodes configs from message out (Tells m d k) c s = inl s
service_stored nodes configs from message out (Stores d last n l e) c s = elim (StandsIn-append configs (d ∷ []) c s) [
  | inl q ↦ inl q
  | inr (inl q) ↦ inr (ap (λ m. Cas m) (sym q))
  | inr (inr q) ↦ absurd q
]

last_or-snoc : {X : Type 0} (o : Option X) (xs : List X) (x : X) → last_or o (xs ++ x ∷ []) ≡ Some x
last_or-snoc o [] x = refl
last_or-snoc o (y ∷ ys) x = last_or-snoc (Some y) ys x

range-snoc : (from n : ℕ) → range_with_len from (suc n) ≡ range_with_len from n ++ (from + n) ∷ []
range-snoc from zero = let e : from ≡ from + 0 = omega arith in ap (λ m. m ∷ []) e
range-snoc from (suc n) =
    let e : from + 1 + n ≡ from + suc n = omega arith in
    ap (λ ms. from ∷ ms) (range-snoc (from + 1) n ∙ ap (λ m. range_with_len (from + 1) n ++ m ∷ []) e)

epochs-snoc : (cs : List Membership) (c : Membership) → EpochsFit cs → c.epoch ≡ epoch_of (last_or None cs) + 1 → EpochsFit (cs ++ c ∷ [])
epochs-snoc cs c f e =
    let k : ℕ = epoch_of (last_or None cs) in
    let a : c.epoch ≡ 1 + k = omega (arith, e) in
    let b : suc k ≡ c.epoch = omega (arith, e) in
    let last : c.epoch ≡ epoch_of (last_or None (cs ++ c ∷ [])) = ap epoch_of (sym (last_or-snoc None cs c)) in
    map-append (λ d. d.epoch) cs (c ∷ []) ∙ ap (λ ms. ms ++ c.epoch ∷ []) f ∙ ap (λ m. range_with_len 1 k ++ m ∷ []) a ∙ sym (range-snoc 1 k) ∙ ap (λ m. range_with_len 1 m) (b ∙ last)

-- the epochs of each shard stay 1 to its last one
pub service_epochs : (nodes : ℕ) (configs : List Membership) (from : ℕ) (message : Message) (out : Out (List Membership)) → Serves nodes configs from message out
    → (shard : ℕ) → EpochsFit (filter (λ c. c.shard == shard) configs) → EpochsFit (filter (λ c. c.shard == shard) out.kept)
service_epochs nodes configs from message out (HoldsBack m answer notices n) shard f = f
service_epochs nodes configs from message out (Tells m d k) shard f = f
service_epochs nodes configs from message out (Stores c last n l e) shard f =
    subst EpochsFit (sym (filter-append (λ d. d.shard == shard) configs (c ∷ []))) (go (c.shard == shard) refl)
  where
    go : (b : Bool) → (c.shard == shard) ≡ b → EpochsFit (filter (λ d. d.shard == shard) configs ++ cond b (c ∷ []) [])
    go true q =
        let m : last_or None (filter (λ d. d.shard == shard) configs) ≡ Some last = subst (λ k. last_or None (filter (λ d. d.shard == k) configs) ≡ Some last) (eqb-true c.shard shard q) l in
        epochs-snoc (filter (λ d. d.shard == shard) configs) c f (e ∙ ap (λ o. epoch_of o + 1) (sym m))
    go false q = subst EpochsFit (sym (append-nil (filter (λ d. d.shard == shard) configs))) f
