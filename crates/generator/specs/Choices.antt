-- What comes next, at fixed places of the schedule and by a word.
use Rattle.std.specs.Prelude.{ℕ, ◌+◌, ◌*◌, ◌/◌, ◌==◌, if◌then◌else◌, Option, Some, None}
use Rattle.generator.specs.declared.doings.Doing.{Doing}
use Rattle.generator.specs.declared.doings.Doing.TheVariants.{Stop, FirstMove, TakeOver, SecondMove}

-- what stands at a place of a schedule of so many events, whatever the words
abbrev pub fixed_at : ℕ → ℕ → Option Doing
fixed_at count place =
    if place == count / 3 then Some Stop
    else if place == count / 3 + 1 then Some FirstMove
    else if place == count / 2 then Some TakeOver
    else if place == 2 * count / 3 then Some SecondMove
    else None
