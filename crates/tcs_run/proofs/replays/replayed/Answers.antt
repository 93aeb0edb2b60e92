use Rattle.std.proofs.Common.{inl, inr, refl, sym, ◌∙◌, ap, subst}
use Rattle.replay_core.specs.declared.stops.ReplayStop.TheVariants.{Bad, Full, OutOfMemory}
use Rattle.replay_core.specs.Replays.{Ends}
use Rattle.tcs_run.specs.Status.{status_of}
use Rattle.tcs_run.proofs.Statuses.{one_of_two, stop_told, stop_not_ok}
use Rattle.tcs_run.proofs.replays.replayed.Goals as goal

pub returns-in-Ok-clause-does : goal.returns-in-Ok-clause-does
returns-in-Ok-clause-does g c = λ bytes before told holds. record {
  whole = λ ok. c.in-Ok.ensures.whole bytes before told holds;
  stopped = λ stop is. absurd (stop_not_ok stop is);
  complete = λ quiet d es text live. inl refl;
  bad = λ quiet line reason is bad within. absurd (c.in-Ok.ensures.bad bytes before told holds quiet.0 quiet.1 line reason is bad within);
  full = λ quiet sum is full. absurd (c.in-Ok.ensures.full bytes before told holds quiet.0 quiet.1 sum is full);
}

pub returns-in-Err-clause-does : goal.returns-in-Err-clause-does
returns-in-Err-clause-does g c = λ bytes before told holds. record {
  whole = λ ok. absurd (stop_not_ok c.in-Err.stop (sym ok ∙ c.from.ensures));
  stopped = λ stop is. subst (Ends bytes before _ _) (stop_told c.in-Err.stop stop (sym c.from.ensures ∙ is)) (c.in-Err.ensures.stopped bytes before told holds);
  complete = λ quiet d es text live. inr (c.from.ensures ∙ ap status_of (c.in-Err.ensures.complete bytes before told holds quiet.0 quiet.1 d es text live));
  bad = λ quiet line reason is bad within. one_of_two status_of c.from.result c.in-Err.stop (Bad line reason) OutOfMemory c.from.ensures
      (c.in-Err.ensures.bad bytes before told holds quiet.0 quiet.1 line reason is bad within);
  full = λ quiet sum is full. one_of_two status_of c.from.result c.in-Err.stop (Full sum) OutOfMemory c.from.ensures
      (c.in-Err.ensures.full bytes before told holds quiet.0 quiet.1 sum is full);
}
