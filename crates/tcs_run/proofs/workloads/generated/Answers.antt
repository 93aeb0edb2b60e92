use Rattle.std.proofs.Common.{inl, inr, refl, sym, ◌∙◌, ap, subst}
use Rattle.workload.specs.declared.stops.GenStop.TheVariants.{Full, OutOfMemory}
use Rattle.workload.specs.Outcomes.{Stopped}
use Rattle.tcs_run.specs.Status.{status_of_generation}
use Rattle.tcs_run.proofs.Statuses.{one_of_two, generation_stop_told, generation_stop_not_ok}
use Rattle.tcs_run.proofs.workloads.generated.Goals as goal

pub returns-in-Ok-clause-does : goal.returns-in-Ok-clause-does
returns-in-Ok-clause-does g c = λ before holds. record {
  whole = λ ok. rw (← c.numbers.view_is) (c.in-Ok.ensures.whole before holds);
  stopped = λ stop is. absurd (generation_stop_not_ok stop is);
}

pub returns-in-Ok-clause-answers : goal.returns-in-Ok-clause-answers
returns-in-Ok-clause-answers g c = record {
  one_of = inl refl;
  complete = λ quiet within. inl refl;
  full = λ quiet place sum. rw (← c.numbers.view_is) (λ is. absurd (c.in-Ok.ensures.full quiet place sum is));
}

pub returns-in-Err-clause-does : goal.returns-in-Err-clause-does
returns-in-Err-clause-does g c = λ before holds. record {
  whole = λ ok. absurd (generation_stop_not_ok c.in-Err.stop (sym ok ∙ c.from.ensures));
  stopped = λ stop is. rw (← c.numbers.view_is)
      (subst (Stopped c.numbers.inside.seed c.numbers.inside.count before _) (generation_stop_told c.in-Err.stop stop (sym c.from.ensures ∙ is)) (c.in-Err.ensures.stopped before holds));
}

pub returns-in-Err-clause-answers : goal.returns-in-Err-clause-answers
returns-in-Err-clause-answers g c = record {
  one_of = inr (c.in-Err.stop, c.from.ensures);
  complete = λ quiet. rw (← c.numbers.view_is) (λ within. inr (c.from.ensures ∙ ap status_of_generation (c.in-Err.ensures.complete quiet within)));
  full = λ quiet place sum. rw (← c.numbers.view_is) (λ is. one_of_two status_of_generation c.from.result c.in-Err.stop (Full sum) OutOfMemory c.from.ensures
      (c.in-Err.ensures.full quiet place sum is));
}
