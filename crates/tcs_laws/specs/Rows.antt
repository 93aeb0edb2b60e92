-- How the rows of a log change: one more row in its place, and a mark that is set.
use Rattle.std.specs.Prelude.{ℕ, Bool, not, ◌==◌, nat_lt, if◌then◌else◌, List, ◌∷◌, ◌++◌, filter, map}
use Rattle.std.specs.List.{list_any}
use Rattle.tcs_terms.specs.declared.logs.Row.{Row}
use Rattle.tcs_terms.specs.declared.logs.Mark.{Mark}
use Rattle.tcs_terms.specs.declared.logs.Mark.TheVariants.{Undecided, Committed, Aborted}

-- whether no row has the slot
abbrev pub is_free : List Row → ℕ → Bool
is_free rows slot = not (list_any (λ r. r.entry.slot == slot) rows)

-- the rows with one more, in its place among the slots
abbrev pub put_row : List Row → Row → List Row
put_row rows row =
    filter (λ r. nat_lt r.entry.slot row.entry.slot) rows ++ row ∷ filter (λ r. nat_lt row.entry.slot r.entry.slot) rows

-- a mark is set once: the first one stays
abbrev pub first_mark : Mark → Mark → Mark
first_mark Undecided mark = mark
first_mark Committed mark = Committed
first_mark Aborted mark = Aborted

abbrev pub set_mark : Mark → Row → Row
set_mark mark row = record { entry = row.entry; mark = first_mark row.mark mark }

-- the rows with the mark set at a slot
abbrev pub marked : List Row → ℕ → Mark → List Row
marked rows slot mark = map (λ r. if r.entry.slot == slot then set_mark mark r else r) rows
