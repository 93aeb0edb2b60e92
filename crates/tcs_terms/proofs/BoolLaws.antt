-- What follows from tests that are joined or chained.
use Rattle.std.proofs.Common.{◌≡◌, Bool, true, false, not, ◌||◌, ◌&&◌, cond, Option, Some, None, refl}

pub both : (a b : Bool) → a ≡ true → b ≡ true → (a && b) ≡ true
both true b p q = q
both false b p q = absurd cc

pub left_of : (a b : Bool) → (a && b) ≡ true → a ≡ true
left_of true b h = refl
left_of false b h = h

pub right_of : (a b : Bool) → (a && b) ≡ true → b ≡ true
right_of true b h = h
right_of false b h = absurd cc

pub not_true : (a : Bool) → not a ≡ false → a ≡ true
not_true true h = refl
not_true false h = absurd cc

pub not_false : (a : Bool) → not a ≡ true → a ≡ false
not_false true h = absurd cc
not_false false h = refl

pub neither_left : (a b : Bool) → (a || b) ≡ false → a ≡ false
neither_left true b h = h
neither_left false b h = refl

pub neither_right : (a b : Bool) → (a || b) ≡ false → b ≡ false
neither_right true b h = absurd cc
neither_right false b h = h

-- a test whose answer would be a fault was not met, where there is no fault
pub passed : {A : Type 0} (b : Bool) (x : A) (y : Option A) → cond b (Some x) y ≡ None → (b ≡ false) × (y ≡ None)
passed true x y h = absurd cc
passed false x y h = (refl, h)
