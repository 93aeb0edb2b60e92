-- A list still begins with what it held.
use Rattle.std.proofs.Common.{◌≡◌, List, [], ◌++◌, Result, Ok, Err, sym, ap, ◌∙◌, append_assoc}
use Rattle.std.specs.Prelude.{OnErr}
use Rattle.std.proofs.lemmas.List.{append-nil}
use Rattle.tcs_terms.specs.Appends.{Begins}

pub begins_same : {A : Type 0} (front all : List A) → all ≡ front → Begins front all
begins_same front all e = record { more = []; whole = e ∙ sym (append-nil front) }

pub begins_behind : {A : Type 0} (front items mid all : List A) → mid ≡ front ++ items → Begins mid all → Begins front all
begins_behind front items mid all e b =
    record { more = items ++ b.more; whole = b.whole ∙ ap (λ (xs : List _). xs ++ b.more) e ∙ append_assoc front items b.more }

-- the same where only an error says so
pub stops_behind : {A T E : Type 0} (r : Result T E) (front items mid all : List A) → mid ≡ front ++ items → Begins mid all → OnErr r (Begins front all)
stops_behind (Ok u) front items mid all e b = tt
stops_behind (Err x) front items mid all e b = begins_behind front items mid all e b

-- the same of an error of the last step
pub err_behind : {A T E : Type 0} (r : Result T E) (front items mid all : List A) → mid ≡ front ++ items → OnErr r (Begins mid all) → OnErr r (Begins front all)
err_behind (Ok u) front items mid all e b = b
err_behind (Err x) front items mid all e b = begins_behind front items mid all e b
