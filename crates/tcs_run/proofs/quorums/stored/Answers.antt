use Rattle.std.proofs.Common.{inl, inr, refl, sym, ◌∙◌, ap, subst}
use Rattle.quorum_config.specs.declared.stops.QuorumStop.TheVariants.{Bad, OutOfMemory}
use Rattle.quorum_config.specs.Runs.{Ends}
use Rattle.tcs_run.specs.Status.{status_of_quorum}
use Rattle.tcs_run.proofs.Statuses.{one_of_two, quorum_stop_told, quorum_stop_not_ok}
use Rattle.tcs_run.proofs.quorums.stored.Goals as goal

pub returns-in-Ok-clause-does : goal.returns-in-Ok-clause-does
returns-in-Ok-clause-does g c = λ bytes before told holds. record {
  agreed = λ ok. c.in-Ok.ensures.whole bytes before told holds;
  cut_short = λ stop is. absurd (quorum_stop_not_ok stop is);
  carried_out = λ quiet acceptors es is. inl refl;
  refused = λ quiet line es is. absurd (c.in-Ok.ensures.bad bytes before told holds quiet.0 quiet.1 line es is);
}

pub returns-in-Err-clause-does : goal.returns-in-Err-clause-does
returns-in-Err-clause-does g c = λ bytes before told holds. record {
  agreed = λ ok. absurd (quorum_stop_not_ok c.in-Err.stop (sym ok ∙ c.from.ensures));
  cut_short = λ stop is. subst (Ends bytes before _ _) (quorum_stop_told c.in-Err.stop stop (sym c.from.ensures ∙ is)) (c.in-Err.ensures.stopped bytes before told holds);
  carried_out = λ quiet acceptors es is. inr (c.from.ensures ∙ ap status_of_quorum (c.in-Err.ensures.complete bytes before told holds quiet.0 quiet.1 acceptors es is));
  refused = λ quiet line es is. one_of_two status_of_quorum c.from.result c.in-Err.stop (Bad line) OutOfMemory c.from.ensures
      (c.in-Err.ensures.bad bytes before told holds quiet.0 quiet.1 line es is);
}
