-- Entries in order: slots ascend within their range, transactions are distinct; and which lists stay so.
use Rattle.std.proofs.Common.{◌≡◌, ◌<◌, Bool, true, false, cond, not, List, [], ◌∷◌, ◌++◌, map, filter, ◌&&◌, ◌||◌, inl, inr, sym, ◌∙◌, ap, subst, refl, arith, lt-ltb, nat_le, nat_lt}
use Rattle.std.specs.List.{list_all, list_any}
use Rattle.tcs_terms.specs.declared.ids.TxId.{TxId}
use Rattle.tcs_terms.specs.declared.limits.TheConstants.{MAX_SLOT}
use Rattle.tcs_terms.specs.declared.logs.Row.{Row}
use Rattle.tcs_terms.specs.Logs.{same_txn, txns_differ, AreRows}
use Rattle.tcs_terms.specs.Order.{ascends}
use Rattle.tcs_terms.specs.Preparations.{Preparation}
use Rattle.tcs_terms.proofs.BoolLaws.{both, left_of, right_of}
use Rattle.protocol.specs.Invariant.Logs.{entries_of}
use Rattle.protocol.specs.Invariant.Time.{StandsIn}
use Rattle.protocol.proofs.Lists.{StandsIn-append}
use Rattle.protocol_laws.proofs.Standing.{StandsIn-left, IsMapped, map-StandsIn}
use Rattle.protocol_laws.proofs.SameTxn.{same_txn-eq}
use Rattle.protocol_laws.proofs.Ascending.{tail-ascends, tail-above, txn_apart}
use Rattle.protocol_laws.proofs.LogRows.{filtered-StandsIn}

-- a slot in its range
abbrev pub slot_fits : Preparation → Bool
slot_fits x = nat_le 1 x.slot && nat_le x.slot MAX_SLOT

-- an entry before others: of a lower slot, and of another transaction
pub record StandsBefore (x : Preparation) (xs : List Preparation) : Type 0 where
  pub fits : slot_fits x ≡ true
  pub lower : (y : Preparation) → StandsIn y xs → x.slot < y.slot
  pub apart : (y : Preparation) → StandsIn y xs → x.txn ≡ y.txn → ⊥

abbrev pub InOrder : List Preparation → Type 0
InOrder [] = Unit {0}
InOrder (x ∷ xs) = StandsBefore x xs × InOrder xs

-- the entries of rows that may stand in a log are in order
pub rows-in_order : (rows : List Row) → AreRows rows → InOrder (entries_of rows)
rows-in_order [] a = tt
rows-in_order (r ∷ rs) a = (
  record {
    fits = left_of (slot_fits r.entry) (list_all (λ q. slot_fits q.entry) rs) a.slots;
    lower = λ y s. (let m : IsMapped (λ (q : Row). q.entry) rs y = map-StandsIn (λ (q : Row). q.entry) rs y s in
        subst (λ (z : Preparation). r.entry.slot < z.slot) (sym m.is) (tail-above (λ (q : Row). q.entry.slot) r rs m.from a.slots_ascend m.there));
    apart = λ y s e. (let m : IsMapped (λ (q : Row). q.entry) rs y = map-StandsIn (λ (q : Row). q.entry) rs y s in
        txn_apart (λ (q : Row). q.entry.txn) r rs m.from a.txns_differ m.there (sym (e ∙ ap (λ (z : Preparation). z.txn) m.is)));
  },
  rows-in_order rs (record {
    slots_ascend = tail-ascends (λ (q : Row). q.entry.slot) r rs a.slots_ascend;
    slots = right_of (slot_fits r.entry) (list_all (λ q. slot_fits q.entry) rs) a.slots;
    txns_differ = right_of (not (list_any (same_txn r.entry.txn) (map (λ q. q.entry.txn) rs))) (txns_differ (map (λ q. q.entry.txn) rs)) a.txns_differ;
  }),
)

apart-none : (t : TxId) (rows : List Row) → ((y : Preparation) → StandsIn y (entries_of rows) → t ≡ y.txn → ⊥) → list_any (same_txn t) (map (λ q. q.entry.txn) rows) ≡ false
apart-none t [] h = refl
apart-none t (r ∷ rs) h = go (same_txn t r.entry.txn) refl (apart-none t rs (λ y s. h y (inr s)))
  where
    go : (b : Bool) → same_txn t r.entry.txn ≡ b → list_any (same_txn t) (map (λ q. q.entry.txn) rs) ≡ false → (b || list_any (same_txn t) (map (λ q. q.entry.txn) rs)) ≡ false
    go true e ih = absurd (h r.entry (inl refl) (same_txn-eq t r.entry.txn e))
    go false e ih = ih

in_order-ascends : (rows : List Row) → InOrder (entries_of rows) → ascends (map (λ r. r.entry.slot) rows) ≡ true
in_order-ascends [] o = refl
in_order-ascends (r ∷ []) o = refl
in_order-ascends (r ∷ q ∷ rs) o =
    both (nat_lt r.entry.slot q.entry.slot) (ascends (q.entry.slot ∷ map (λ x. x.entry.slot) rs)) (lt-ltb r.entry.slot q.entry.slot (o.0.lower q.entry (inl refl))) (in_order-ascends (q ∷ rs) o.1)

-- rows whose entries are in order may stand in a log
pub in_order-rows : (rows : List Row) → InOrder (entries_of rows) → AreRows rows
in_order-rows [] o = record { slots_ascend = refl; slots = refl; txns_differ = refl }
in_order-rows (r ∷ rs) o =
    let rest : AreRows rs = in_order-rows rs o.1 in
    let txns : List TxId = map (λ q. q.entry.txn) rs in
    record {
      slots_ascend = in_order-ascends (r ∷ rs) o;
      slots = both (slot_fits r.entry) (list_all (λ q. slot_fits q.entry) rs) o.0.fits rest.slots;
      txns_differ = both (not (list_any (same_txn r.entry.txn) txns)) (txns_differ txns) (ap not (apart-none r.entry.txn rs o.0.apart)) rest.txns_differ;
    }

-- one list after another
pub in_order-join : (xs ys : List Preparation) → InOrder xs → InOrder ys → ((x y : Preparation) → StandsIn x xs → StandsIn y ys → (x.slot < y.slot) × (x.txn ≡ y.txn → ⊥)) → InOrder (xs ++ ys)
in_order-join [] ys p q h = q
in_order-join (x ∷ xs) ys p q h = (
  record {
    fits = p.0.fits;
    lower = λ y s. elim (StandsIn-append xs ys y s) [ inl a ↦ p.0.lower y a | inr b ↦ (h x y (inl refl) b).0 ];
    apart = λ y s. elim (StandsIn-append xs ys y s) [ inl a ↦ p.0.apart y a | inr b ↦ (h x y (inl refl) b).1 ];
  },
  in_order-join xs ys p.1 q (λ a b s r. h a b (inr s) r),
)

before-fewer : (x : Preparation) (xs ys : List Preparation) → ((y : Preparation) → StandsIn y ys → StandsIn y xs) → StandsBefore x xs → StandsBefore x ys
before-fewer x xs ys h b = record { fits = b.fits; lower = λ y s. b.lower y (h y s); apart = λ y s. b.apart y (h y s) }

-- the parts of a list
pub in_order-left : (xs ys : List Preparation) → InOrder (xs ++ ys) → InOrder xs
in_order-left [] ys o = tt
in_order-left (x ∷ xs) ys o = (before-fewer x (xs ++ ys) xs (StandsIn-left xs ys) o.0, in_order-left xs ys o.1)

pub in_order-right : (xs ys : List Preparation) → InOrder (xs ++ ys) → InOrder ys
in_order-right [] ys o = o
in_order-right (x ∷ xs) ys o = in_order-right xs ys o.1

-- what passes a test
pub in_order-filter : (p : Row → Bool) (rows : List Row) → InOrder (entries_of rows) → InOrder (entries_of (filter p rows))
in_order-filter p [] o = tt
in_order-filter p (r ∷ rs) o = go (p r) (in_order-filter p rs o.1)
  where
    go : (b : Bool) → InOrder (entries_of (filter p rs)) → InOrder (entries_of (cond b (r ∷ filter p rs) (filter p rs)))
    go true ih = (before-fewer r.entry (entries_of rs) (entries_of (filter p rs)) (filtered-StandsIn p rs) o.0, ih)
    go false ih = ih

-- entries of different slots are of different transactions
pub in_order-apart : (xs : List Preparation) (x y : Preparation) → InOrder xs → StandsIn x xs → StandsIn y xs → x.slot < y.slot → x.txn ≡ y.txn → ⊥
in_order-apart [] x y o s r l e = absurd s
in_order-apart (z ∷ zs) x y o (inl p) (inl q) l e = let k : x.slot ≡ y.slot = ap (λ m. m.slot) (p ∙ sym q) in absurd (omega (arith, k, l))
in_order-apart (z ∷ zs) x y o (inl p) (inr r) l e = o.0.apart y r (ap (λ m. m.txn) (sym p) ∙ e)
in_order-apart (z ∷ zs) x y o (inr s) (inl q) l e = let k : z.slot < x.slot = o.0.lower x s in let m : y.slot ≡ z.slot = ap (λ m. m.slot) q in absurd (omega (arith, k, l, m))
in_order-apart (z ∷ zs) x y o (inr s) (inr r) l e = in_order-apart zs x y o.1 s r l e

-- a slot of an entry in order is in its range
pub in_order-fits : (xs : List Preparation) (x : Preparation) → InOrder xs → StandsIn x xs → slot_fits x ≡ true
in_order-fits [] x o s = absurd s
in_order-fits (z ∷ zs) x o (inl e) = subst (λ m. slot_fits m ≡ true) (sym e) o.0.fits
in_order-fits (z ∷ zs) x o (inr s) = in_order-fits zs x o.1 s
