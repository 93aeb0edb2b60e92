-- Steps of reading, and what they give.
use Rattle.std.proofs.Common.{◌≡◌, Bool, true, false, cond, Result, Ok, Err, refl}
use Rattle.text_words.specs.PayloadWords.{◌>>=◌}

-- what a step gave, and what the next one made of it
pub bind_ok : {A B E : Type 0} (r : Result A E) (f : A → Result B E) (y : B) → (r >>= f) ≡ Ok y → (x : A) × (r ≡ Ok x) × (f x ≡ Ok y)
bind_ok (Ok x) f y e = (x, refl, e)
bind_ok (Err d) f y e = absurd cc

abbrev done : {A E : Type 0} → A → Result A E
done x = Ok x

pub ok_is : {A E : Type 0} (x y : A) → done {E = E} x ≡ done {E = E} y → x ≡ y
ok_is x y e = cc

-- a test whose answer would be a fault was not met
pub guard_ok : {A E : Type 0} (b : Bool) (fault : E) (x y : A) → cond b (Err fault) (Ok x) ≡ Ok y → (b ≡ false) × (x ≡ y)
guard_ok true fault x y e = absurd cc
guard_ok false fault x y e = (refl, cc)

-- a test that was met, since its other answer would be a fault
pub met : {A E : Type 0} (b : Bool) (fault : E) (x y : A) → cond b (Ok x) (Err fault) ≡ Ok y → (b ≡ true) × (x ≡ y)
met true fault x y e = (refl, cc)
met false fault x y e = absurd cc

-- one of two readings that was done, since the other would be a fault
pub chosen : {A E : Type 0} (b : Bool) (fault : E) (r : Result A E) (y : A) → cond b r (Err fault) ≡ Ok y → (b ≡ true) × (r ≡ Ok y)
chosen true fault r y e = (refl, e)
chosen false fault r y e = absurd cc

-- what is read is not refused
pub not_both : {A E : Type 0} (r : Result A E) (x : A) (fault : E) → r ≡ Ok x → r ≡ Err fault → ⊥
not_both (Ok y) x fault p q = absurd cc
not_both (Err e) x fault p q = absurd cc
