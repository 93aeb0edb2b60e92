-- A value that is read takes its place by name.
use Rattle.std.proofs.Common.{◌≡◌, ℕ, suc, ◌+◌, ◌<◌, ◌≤◌, Bool, true, false, cond, List, [], ◌∷◌, length, map, refl, ◌∙◌, ap, arith}
use Rattle.std.specs.Prelude.{Option, Some, None, is_some, nat_lt}
use Rattle.std.specs.List.{insert, prefix_len, position, position_or_len, list_any}
use Rattle.std.proofs.lemmas.Bool.Decides.{nat_tests}
use Rattle.tcs_terms.specs.declared.limits.TheConstants.{MAX_READS}
use Rattle.tcs_terms.specs.Order.{name_before, names_ascend}
use Rattle.tcs_terms.specs.Payloads.{same_name}
use Rattle.tcs_terms.proofs.BoolLaws.{both, left_of, right_of, neither_left, neither_right}
use Rattle.store_client.specs.declared.parts.Part.{Part}
use Rattle.store_client.specs.Parts.{has, with_read, AreParts}
use Rattle.store_client.proofs.Names.{otherwise_after}

abbrev named : List Part → List ℕ → Bool
named parts name = list_any (λ (p : Part). same_name p.name name) parts

none_before_the_end : (name : List ℕ) (parts : List Part) → length parts ≤ position_or_len (λ (p : Part). same_name p.name name) parts → named parts name ≡ false
none_before_the_end name [] past = refl
none_before_the_end name (p ∷ ps) past = go (same_name p.name name) refl (none_before_the_end name ps)
  where
    go : (b : Bool) → same_name p.name name ≡ b → (length ps ≤ position_or_len (λ (p : Part). same_name p.name name) ps → named ps name ≡ false) → named (p ∷ ps) name ≡ false
    go true is rest = absurd (let h = rw is at past in omega arith)
    go false is rest = let h = rw is at past in rw is (rest (omega arith))

-- an object without a place is not among the parts
nowhere : (name : List ℕ) (parts : List Part) → position (λ (p : Part). same_name p.name name) parts ≡ None → named parts name ≡ false
nowhere name parts none = go (nat_lt (position_or_len (λ (p : Part). same_name p.name name) parts) (length parts)) refl
  where
    go : (b : Bool) → nat_lt (position_or_len (λ (p : Part). same_name p.name name) parts) (length parts) ≡ b → named parts name ≡ false
    go true is = absurd (let h = rw is at none in cc)
    go false is = none_before_the_end name parts (grind (arith, nat_tests))

-- the place behind the parts whose names stand before
inserted : (new : Part) (parts : List Part) → insert parts (prefix_len (λ (p : Part). name_before p.name new.name) parts) new ≡ with_read new parts
inserted new [] = refl
inserted new (p ∷ ps) = go (name_before p.name new.name) refl (inserted new ps)
  where
    go : (b : Bool) → name_before p.name new.name ≡ b → insert ps (prefix_len (λ (p : Part). name_before p.name new.name) ps) new ≡ with_read new ps
        → insert (p ∷ ps) (cond (name_before p.name new.name) (1 + prefix_len (λ (p : Part). name_before p.name new.name) ps) 0) new ≡ cond (name_before p.name new.name) (p ∷ with_read new ps) (new ∷ p ∷ ps)
    go true is rest =
        let k = prefix_len (λ (p : Part). name_before p.name new.name) ps in
        let e : 1 + k ≡ suc k = omega arith in
        rw (is, e) (ap (λ (xs : List Part). p ∷ xs) rest)
    go false is rest = rw is refl

-- behind a name that stands before the new one
ascends_after : (x : List ℕ) (new : Part) (parts : List Part) → names_ascend (x ∷ map (λ (p : Part). p.name) parts) ≡ true → name_before x new.name ≡ true → named parts new.name ≡ false
    → names_ascend (x ∷ map (λ (p : Part). p.name) (with_read new parts)) ≡ true
ascends_after x new [] ascend first other = both (name_before x new.name) true first refl
ascends_after x new (p ∷ ps) ascend first other =
    go (name_before p.name new.name) refl (λ before. ascends_after p.name new ps rest before (neither_right (same_name p.name new.name) (named ps new.name) other))
  where
    rest : names_ascend (p.name ∷ map (λ (p : Part). p.name) ps) ≡ true
    rest = right_of (name_before x p.name) (names_ascend (p.name ∷ map (λ (p : Part). p.name) ps)) ascend

    go : (b : Bool) → name_before p.name new.name ≡ b → (name_before p.name new.name ≡ true → names_ascend (p.name ∷ map (λ (p : Part). p.name) (with_read new ps)) ≡ true)
        → names_ascend (x ∷ map (λ (p : Part). p.name) (cond (name_before p.name new.name) (p ∷ with_read new ps) (new ∷ p ∷ ps))) ≡ true
    go true is later = rw is (both (name_before x p.name) (names_ascend (p.name ∷ map (λ (p : Part). p.name) (with_read new ps)))
        (left_of (name_before x p.name) (names_ascend (p.name ∷ map (λ (p : Part). p.name) ps)) ascend) (later is))
    go false is later = rw is (both (name_before x new.name) (names_ascend (new.name ∷ p.name ∷ map (λ (p : Part). p.name) ps)) first
        (both (name_before new.name p.name) (names_ascend (p.name ∷ map (λ (p : Part). p.name) ps))
        (otherwise_after p.name new.name is (neither_left (same_name p.name new.name) (named ps new.name) other)) rest))

with_read_ascends : (new : Part) (parts : List Part) → names_ascend (map (λ (p : Part). p.name) parts) ≡ true → named parts new.name ≡ false → names_ascend (map (λ (p : Part). p.name) (with_read new parts)) ≡ true
with_read_ascends new [] ascend other = refl
with_read_ascends new (p ∷ ps) ascend other = go (name_before p.name new.name) refl
  where
    go : (b : Bool) → name_before p.name new.name ≡ b → names_ascend (map (λ (p : Part). p.name) (cond (name_before p.name new.name) (p ∷ with_read new ps) (new ∷ p ∷ ps))) ≡ true
    go true is = rw is (ascends_after p.name new ps ascend is (neither_right (same_name p.name new.name) (named ps new.name) other))
    go false is = rw is (both (name_before new.name p.name) (names_ascend (p.name ∷ map (λ (p : Part). p.name) ps))
        (otherwise_after p.name new.name is (neither_left (same_name p.name new.name) (named ps new.name) other)) ascend)

length-with_read : (new : Part) (parts : List Part) → length (with_read new parts) ≡ length parts + 1
length-with_read new [] = refl
length-with_read new (p ∷ ps) = go (name_before p.name new.name) refl (length-with_read new ps)
  where
    go : (b : Bool) → name_before p.name new.name ≡ b → length (with_read new ps) ≡ length ps + 1 → length (cond (name_before p.name new.name) (p ∷ with_read new ps) (new ∷ p ∷ ps)) ≡ length (p ∷ ps) + 1
    go true is rest = rw is (omega (arith, rest))
    go false is rest = rw is (omega arith)

nothing_there : (place : Option ℕ) → is_some place ≡ false → place ≡ None
nothing_there None h = refl
nothing_there (Some i) h = absurd cc

pub inserted_at : (new : Part) (parts seen after : List Part) (place : ℕ) → seen ≡ parts → place ≡ prefix_len (λ (p : Part). name_before p.name new.name) seen → after ≡ insert parts place new
    → after ≡ with_read new parts
inserted_at new parts seen after place same at is =
    is ∙ ap (λ i. insert parts i new) (at ∙ ap (prefix_len (λ (p : Part). name_before p.name new.name)) same) ∙ inserted new parts

-- a part more is at its place by name, and there are no more than may be
pub with_read_are : (new : Part) (parts after : List Part) → after ≡ with_read new parts → AreParts parts → has parts new.name ≡ false → length parts < MAX_READS → AreParts after
with_read_are new parts after is are other room = rw is (record {
  ascend = with_read_ascends new parts are.ascend (nowhere new.name parts (nothing_there (position (λ (p : Part). same_name p.name new.name) parts) other));
  few = let h = length-with_read new parts in omega (arith, h, room);
})
