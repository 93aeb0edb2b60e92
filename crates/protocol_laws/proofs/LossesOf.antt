-- Each entry that was lost was appended by a PREPARE that found nothing, since the invariant says so between two worlds.
use Rattle.std.proofs.Common.{ℕ, List, subst}
use Rattle.tcs_terms.specs.declared.inputs.Event.{Event}
use Rattle.tcs_terms.specs.declared.messages.Message.TheVariants.{PrepareAck, Accept, NewState, StatePiece}
use Rattle.tcs_terms.specs.Preparations.{Preparation}
use Rattle.tcs_terms.specs.Setups.{Deployment}
use Rattle.tcs_laws.specs.Certification.{Tests}
use Rattle.protocol.specs.Invariant.{InvariantHolds}
use Rattle.protocol.specs.Invariant.Time.{Moment, time_after}
use Rattle.protocol.specs.Invariant.Transactions.{EntryFits}
use Rattle.protocol.specs.Run.{run}
use Rattle.protocol.proofs.Moments.{time_after-now}
use Rattle.protocol_laws.specs.Losses.{IsFoundMissing, LossesWereCaused}
use Rattle.tcs_terms.specs.Runs.{AreEventsOf}
use Rattle.protocol_laws.proofs.RunInduction.{invariant_at}
use Rattle.protocol_laws.proofs.RunMoments.{found-by_event}

pub run-losses : (tests : Tests) (setup : Deployment) (events : List Event) → AreEventsOf setup events → LossesWereCaused tests setup events (run tests setup events)
run-losses tests setup events a = subst (LossesWereCaused tests setup events) (time_after-now tests setup events) (record {
  rows = λ node r n s. of (i.transactions.rows node r n s);
  cases = λ node txn case p entry n s m e. of ((i.transactions.cases node txn case n s).voted p entry m e);
  answers = λ from node shard epoch entry n s. of (i.transactions.messages from node (PrepareAck shard epoch entry) n (record { sent = s }));
  accepts = λ from node epoch entry n s. of (i.transactions.messages from node (Accept epoch entry) n (record { sent = s }));
  states = λ from node config rows r n s m. of (i.transactions.messages from node (NewState config rows) n (record { sent = s }) r m);
  pieces = λ from node config number pieces rows r n s m. of (i.transactions.messages from node (StatePiece config number pieces rows) n (record { sent = s }) r m);
})
  where
    t : Moment
    t = time_after tests setup events

    i : InvariantHolds tests setup (time_after tests setup events)
    i = invariant_at tests setup events a

    of : {shard : ℕ} {entry : Preparation} → EntryFits setup.shards (time_after tests setup events) shard entry → IsFoundMissing tests setup events shard entry
    of {shard = shard} {entry = entry} f lost = found-by_event tests setup events entry.txn shard a (f.lost lost)
