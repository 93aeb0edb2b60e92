use Rattle.std.proofs.Common.{inl, inr, refl, sym, ◌∙◌, ap, subst}
use Rattle.text_words.specs.declared.words.Reason.TheVariants.{Word}
use Rattle.replay_core.specs.declared.stops.ReplayStop.TheVariants.{Bad, Full, OutOfMemory}
use Rattle.totals_core.specs.Totalling.{Ends}
use Rattle.tcs_run.specs.Status.{status_of}
use Rattle.tcs_run.proofs.Statuses.{one_of_two, stop_told, stop_not_ok}
use Rattle.tcs_run.proofs.totals.totalled.Goals as goal

pub returns-in-Ok-clause-does : goal.returns-in-Ok-clause-does
returns-in-Ok-clause-does g c = λ bytes before told holds. record {
  whole = λ ok. c.in-Ok.ensures.whole bytes before told holds;
  stopped = λ stop is. absurd (stop_not_ok stop is);
  complete = λ quiet d es text commute live. inl refl;
  other = λ quiet names. absurd (c.in-Ok.ensures.other bytes before told holds quiet.0 quiet.1 names);
  bad = λ quiet line reason is bad within alike. absurd (c.in-Ok.ensures.bad bytes before told holds quiet.0 quiet.1 line reason is bad within alike);
  full = λ quiet sum is full alike. absurd (c.in-Ok.ensures.full bytes before told holds quiet.0 quiet.1 sum is full alike);
}

pub returns-in-Err-clause-does : goal.returns-in-Err-clause-does
returns-in-Err-clause-does g c = λ bytes before told holds. record {
  whole = λ ok. absurd (stop_not_ok c.in-Err.stop (sym ok ∙ c.from.ensures));
  stopped = λ stop is. subst (Ends bytes before _ _) (stop_told c.in-Err.stop stop (sym c.from.ensures ∙ is)) (c.in-Err.ensures.stopped bytes before told holds);
  complete = λ quiet d es text commute live. inr (c.from.ensures ∙ ap status_of (c.in-Err.ensures.complete bytes before told holds quiet.0 quiet.1 d es text commute live));
  other = λ quiet names. one_of_two status_of c.from.result c.in-Err.stop (Bad 2 Word) OutOfMemory c.from.ensures
      (c.in-Err.ensures.other bytes before told holds quiet.0 quiet.1 names);
  bad = λ quiet line reason is bad within alike. one_of_two status_of c.from.result c.in-Err.stop (Bad line reason) OutOfMemory c.from.ensures
      (c.in-Err.ensures.bad bytes before told holds quiet.0 quiet.1 line reason is bad within alike);
  full = λ quiet sum is full alike. one_of_two status_of c.from.result c.in-Err.stop (Full sum) OutOfMemory c.from.ensures
      (c.in-Err.ensures.full bytes before told holds quiet.0 quiet.1 sum is full alike);
}
