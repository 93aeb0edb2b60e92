use Rattle.std.proofs.Common.{inl, sym, ◌∙◌, ap, subst}
use Rattle.audit_core.specs.Audits.{Stopped}
use Rattle.tcs_run.specs.Status.{status_of_answer}
use Rattle.tcs_run.proofs.Statuses.{audit_stop_told, stop_is_no_verdict, stop_not_judged}
use Rattle.tcs_run.proofs.Answered.{answered_by, own_is_correct}
use Rattle.tcs_run.proofs.audits.audited.Goals as goal

pub returns-in-Ok-clause-does : goal.returns-in-Ok-clause-does
returns-in-Ok-clause-does g c = λ bytes before told holds. record {
  judged = λ either. record { verdict = c.in-Ok.verdict; told = c.from.ensures; finished = c.in-Ok.ensures.whole bytes before told holds };
  broken_off = λ stop is. absurd (stop_is_no_verdict stop c.in-Ok.verdict (sym c.from.ensures ∙ is));
  answered = λ quiet. inl (c.from.ensures ∙ ap status_of_answer (sym (c.in-Ok.ensures.complete bytes told quiet.0 quiet.1)));
  own = λ quiet d es events few same within. own_is_correct bytes c.from.result d es events few same within
      (inl (c.from.ensures ∙ ap status_of_answer (sym (c.in-Ok.ensures.complete bytes told quiet.0 quiet.1))));
}

pub returns-in-Err-clause-does : goal.returns-in-Err-clause-does
returns-in-Err-clause-does g c = λ bytes before told holds. record {
  judged = λ either. absurd (stop_not_judged c.in-Err.stop _ c.from-in-Err.ensures either);
  broken_off = λ stop is. subst (Stopped bytes before _ _) (audit_stop_told c.in-Err.stop stop (sym c.from-in-Err.ensures ∙ is)) (c.in-Err.ensures.stopped bytes before told holds);
  answered = λ quiet. answered_by bytes _ c.in-Err.stop c.from-in-Err.ensures (c.in-Err.ensures.complete bytes told quiet.0 quiet.1);
  own = λ quiet d es events few same within. own_is_correct bytes c.from-in-Err.result d es events few same within
      (answered_by bytes _ c.in-Err.stop c.from-in-Err.ensures (c.in-Err.ensures.complete bytes told quiet.0 quiet.1));
}
