-- What the code tells of an event's outcome is what the event comes to.
use Rattle.std.specs.Prelude.{◌≡◌}
use Rattle.world.specs.Casts.{Cast as Players, Doing}
use Rattle.world.specs.declared.casts.Doing.{Doing as Told}

pub record IsDone (told : Told) (now : Players) (d : Doing) : Type 0 where
  pub result : told.result ≡ d.result
  pub from : told.from ≡ d.from
  pub sends : told.sends.items ≡ d.sends
  pub notes : told.notes.items ≡ d.notes
  pub after : now ≡ d.after
