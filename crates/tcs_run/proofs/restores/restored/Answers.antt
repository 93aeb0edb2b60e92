use Rattle.std.proofs.Common.{inl, refl, sym, ◌∙◌, subst}
use Rattle.restore_core.specs.Files.{answer_of}
use Rattle.restore_core.specs.Restores.{Stopped}
use Rattle.tcs_run.specs.Restored.{ToldBy}
use Rattle.tcs_run.proofs.Restoring.{stop_told_by}
use Rattle.tcs_run.proofs.Statuses.{restore_stop_told, restore_stop_not_ok}
use Rattle.tcs_run.proofs.restores.restored.Goals as goal

pub returns-in-Ok-clause-does : goal.returns-in-Ok-clause-does
returns-in-Ok-clause-does g c = λ bytes before told holds. record {
  whole = λ ok. c.in-Ok.ensures.whole bytes before told holds;
  stopped = λ stop is. absurd (restore_stop_not_ok stop is);
  answered = λ quiet. subst (ToldBy _) (sym (c.in-Ok.ensures.complete bytes told quiet.0 quiet.1).1) (inl refl);
}

pub returns-in-Err-clause-does : goal.returns-in-Err-clause-does
returns-in-Err-clause-does g c = λ bytes before told holds. record {
  whole = λ ok. absurd (restore_stop_not_ok c.in-Err.stop (sym ok ∙ c.from.ensures));
  stopped = λ stop is. subst (Stopped bytes before _ _) (restore_stop_told c.in-Err.stop stop (sym c.from.ensures ∙ is)) (c.in-Err.ensures.stopped bytes before told holds);
  answered = λ quiet. subst (λ status. ToldBy status (answer_of bytes)) (sym c.from.ensures)
      (stop_told_by (answer_of bytes) c.in-Err.stop (c.in-Err.ensures.complete bytes told quiet.0 quiet.1));
}
