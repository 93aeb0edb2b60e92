-- A choice between two values, shut until a proof opens it: rules of the protocol stand as guards before two outcomes.
use Rattle.std.specs.Prelude.{Bool, true, false}

-- the first where the test holds, else the second
unfoldable pub when : {A : Type 0} → Bool → A → A → A
when true x y = x
when false x y = y
