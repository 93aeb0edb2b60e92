-- What statuses tell of the stops that they stand for.
use Rattle.std.proofs.Common.{◌≡◌, ◌⊎◌, inl, inr, ◌∙◌, ap, refl, sym}
use Rattle.replay_core.specs.declared.stops.ReplayStop.{ReplayStop}
use Rattle.replay_core.specs.declared.stops.ReplayStop.TheVariants as stops
use Rattle.judge.specs.declared.verdicts.Clause.TheVariants.{Agreement}
use Rattle.judge.specs.declared.verdicts.Verdict.{Verdict}
use Rattle.judge.specs.declared.verdicts.Verdict.TheVariants.{Correct, Incorrect}
use Rattle.audit_core.specs.declared.stops.AuditStop.{AuditStop}
use Rattle.audit_core.specs.declared.stops.AuditStop.TheVariants as audits
use Rattle.quorum_config.specs.declared.stops.QuorumStop.{QuorumStop}
use Rattle.quorum_config.specs.declared.stops.QuorumStop.TheVariants as quorums
use Rattle.restore_core.specs.declared.stops.RestoreStop.{RestoreStop}
use Rattle.restore_core.specs.declared.stops.RestoreStop.TheVariants as restores
use Rattle.workload.specs.declared.stops.GenStop.{GenStop}
use Rattle.workload.specs.declared.stops.GenStop.TheVariants as generations
use Rattle.tcs_run.specs.declared.status.Status.{Status}
use Rattle.tcs_run.specs.declared.status.Status.TheVariants as statuses
use Rattle.tcs_run.specs.Status.{status_of, status_of_audit, status_of_generation, status_of_quorum, status_of_restore, status_of_verdict}

-- the status of a stop that is one of two
pub one_of_two : {Stop : Type 0} (view : Stop → Status) (status : Status) (told x y : Stop) → status ≡ view told → (told ≡ x) ⊎ (told ≡ y)
    → (status ≡ view x) ⊎ (status ≡ view y)
one_of_two view status told x y is (inl same) = inl (is ∙ ap view same)
one_of_two view status told x y is (inr same) = inr (is ∙ ap view same)

-- a view that can be undone tells its stop
told_by : {Stop : Type 0} (view : Stop → Status) (back : Status → Stop) → ((x : Stop) → back (view x) ≡ x) → (a b : Stop) → view a ≡ view b → a ≡ b
told_by view back undone a b same = sym (undone a) ∙ ap back same ∙ undone b

-- ---- `replay`

abbrev stop_of : Status → ReplayStop
stop_of statuses.Ok = stops.OutOfMemory
stop_of statuses.Incorrect = stops.OutOfMemory
stop_of statuses.BadWords = stops.OutOfMemory
stop_of (statuses.Bad line reason) = stops.Bad line reason
stop_of (statuses.BadTrace line) = stops.OutOfMemory
stop_of (statuses.BadQuorum line) = stops.OutOfMemory
stop_of (statuses.BadBackup line) = stops.OutOfMemory
stop_of statuses.ReadFault = stops.ReadFault
stop_of statuses.WriteFault = stops.WriteFault
stop_of statuses.OutOfMemory = stops.OutOfMemory
stop_of (statuses.Full bytes) = stops.Full bytes

stop_undone : (stop : ReplayStop) → stop_of (status_of stop) ≡ stop
stop_undone (stops.Bad line reason) = refl
stop_undone stops.ReadFault = refl
stop_undone stops.WriteFault = refl
stop_undone (stops.Full bytes) = refl
stop_undone stops.OutOfMemory = refl

pub stop_told : (a b : ReplayStop) → status_of a ≡ status_of b → a ≡ b
stop_told a b same = told_by status_of stop_of stop_undone a b same

pub stop_not_ok : (stop : ReplayStop) → statuses.Ok ≡ status_of stop → ⊥
stop_not_ok (stops.Bad line reason) same = absurd cc
stop_not_ok stops.ReadFault same = absurd cc
stop_not_ok stops.WriteFault same = absurd cc
stop_not_ok (stops.Full bytes) same = absurd cc
stop_not_ok stops.OutOfMemory same = absurd cc

-- ---- `audit`

abbrev audit_stop_of : Status → AuditStop
audit_stop_of statuses.Ok = audits.OutOfMemory
audit_stop_of statuses.Incorrect = audits.OutOfMemory
audit_stop_of statuses.BadWords = audits.OutOfMemory
audit_stop_of (statuses.Bad line reason) = audits.OutOfMemory
audit_stop_of (statuses.BadTrace line) = audits.BadTrace line
audit_stop_of (statuses.BadQuorum line) = audits.OutOfMemory
audit_stop_of (statuses.BadBackup line) = audits.OutOfMemory
audit_stop_of statuses.ReadFault = audits.ReadFault
audit_stop_of statuses.WriteFault = audits.WriteFault
audit_stop_of statuses.OutOfMemory = audits.OutOfMemory
audit_stop_of (statuses.Full bytes) = audits.OutOfMemory

audit_stop_undone : (stop : AuditStop) → audit_stop_of (status_of_audit stop) ≡ stop
audit_stop_undone (audits.BadTrace line) = refl
audit_stop_undone audits.ReadFault = refl
audit_stop_undone audits.WriteFault = refl
audit_stop_undone audits.OutOfMemory = refl

pub audit_stop_told : (a b : AuditStop) → status_of_audit a ≡ status_of_audit b → a ≡ b
audit_stop_told a b same = told_by status_of_audit audit_stop_of audit_stop_undone a b same

-- a stop is no verdict
pub stop_is_no_verdict : (stop : AuditStop) (verdict : Verdict) → status_of_verdict verdict ≡ status_of_audit stop → ⊥
stop_is_no_verdict (audits.BadTrace line) (Correct d c a) same = absurd cc
stop_is_no_verdict audits.ReadFault (Correct d c a) same = absurd cc
stop_is_no_verdict audits.WriteFault (Correct d c a) same = absurd cc
stop_is_no_verdict audits.OutOfMemory (Correct d c a) same = absurd cc
stop_is_no_verdict (audits.BadTrace line) (Incorrect which txn) same = absurd cc
stop_is_no_verdict audits.ReadFault (Incorrect which txn) same = absurd cc
stop_is_no_verdict audits.WriteFault (Incorrect which txn) same = absurd cc
stop_is_no_verdict audits.OutOfMemory (Incorrect which txn) same = absurd cc

-- the status of a stop is neither of the two of verdicts
pub stop_not_judged : (stop : AuditStop) (status : Status) → status ≡ status_of_audit stop → (status ≡ statuses.Ok) ⊎ (status ≡ statuses.Incorrect) → ⊥
stop_not_judged stop status is (inl ok) = stop_is_no_verdict stop (Correct 0 0 0) (sym ok ∙ is)
stop_not_judged stop status is (inr incorrect) = stop_is_no_verdict stop (Incorrect Agreement (record { home = 0; seq = 0 })) (sym incorrect ∙ is)

-- ---- `quorum`

abbrev quorum_stop_of : Status → QuorumStop
quorum_stop_of statuses.Ok = quorums.OutOfMemory
quorum_stop_of statuses.Incorrect = quorums.OutOfMemory
quorum_stop_of statuses.BadWords = quorums.OutOfMemory
quorum_stop_of (statuses.Bad line reason) = quorums.OutOfMemory
quorum_stop_of (statuses.BadTrace line) = quorums.OutOfMemory
quorum_stop_of (statuses.BadQuorum line) = quorums.Bad line
quorum_stop_of (statuses.BadBackup line) = quorums.OutOfMemory
quorum_stop_of statuses.ReadFault = quorums.ReadFault
quorum_stop_of statuses.WriteFault = quorums.WriteFault
quorum_stop_of statuses.OutOfMemory = quorums.OutOfMemory
quorum_stop_of (statuses.Full bytes) = quorums.OutOfMemory

quorum_stop_undone : (stop : QuorumStop) → quorum_stop_of (status_of_quorum stop) ≡ stop
quorum_stop_undone (quorums.Bad line) = refl
quorum_stop_undone quorums.ReadFault = refl
quorum_stop_undone quorums.WriteFault = refl
quorum_stop_undone quorums.OutOfMemory = refl

pub quorum_stop_told : (a b : QuorumStop) → status_of_quorum a ≡ status_of_quorum b → a ≡ b
quorum_stop_told a b same = told_by status_of_quorum quorum_stop_of quorum_stop_undone a b same

pub quorum_stop_not_ok : (stop : QuorumStop) → statuses.Ok ≡ status_of_quorum stop → ⊥
quorum_stop_not_ok (quorums.Bad line) same = absurd cc
quorum_stop_not_ok quorums.ReadFault same = absurd cc
quorum_stop_not_ok quorums.WriteFault same = absurd cc
quorum_stop_not_ok quorums.OutOfMemory same = absurd cc

-- ---- `gen` and `soak`

abbrev generation_stop_of : Status → GenStop
generation_stop_of statuses.Ok = generations.OutOfMemory
generation_stop_of statuses.Incorrect = generations.OutOfMemory
generation_stop_of statuses.BadWords = generations.OutOfMemory
generation_stop_of (statuses.Bad line reason) = generations.OutOfMemory
generation_stop_of (statuses.BadTrace line) = generations.OutOfMemory
generation_stop_of (statuses.BadQuorum line) = generations.OutOfMemory
generation_stop_of (statuses.BadBackup line) = generations.OutOfMemory
generation_stop_of statuses.ReadFault = generations.OutOfMemory
generation_stop_of statuses.WriteFault = generations.WriteFault
generation_stop_of statuses.OutOfMemory = generations.OutOfMemory
generation_stop_of (statuses.Full bytes) = generations.Full bytes

generation_stop_undone : (stop : GenStop) → generation_stop_of (status_of_generation stop) ≡ stop
generation_stop_undone generations.WriteFault = refl
generation_stop_undone (generations.Full bytes) = refl
generation_stop_undone generations.OutOfMemory = refl

pub generation_stop_told : (a b : GenStop) → status_of_generation a ≡ status_of_generation b → a ≡ b
generation_stop_told a b same = told_by status_of_generation generation_stop_of generation_stop_undone a b same

pub generation_stop_not_ok : (stop : GenStop) → statuses.Ok ≡ status_of_generation stop → ⊥
generation_stop_not_ok generations.WriteFault same = absurd cc
generation_stop_not_ok (generations.Full bytes) same = absurd cc
generation_stop_not_ok generations.OutOfMemory same = absurd cc

-- ---- `restore`

abbrev restore_stop_of : Status → RestoreStop
restore_stop_of statuses.Ok = restores.OutOfMemory
restore_stop_of statuses.Incorrect = restores.OutOfMemory
restore_stop_of statuses.BadWords = restores.OutOfMemory
restore_stop_of (statuses.Bad line reason) = restores.OutOfMemory
restore_stop_of (statuses.BadTrace line) = restores.OutOfMemory
restore_stop_of (statuses.BadQuorum line) = restores.OutOfMemory
restore_stop_of (statuses.BadBackup line) = restores.BadBackup line
restore_stop_of statuses.ReadFault = restores.ReadFault
restore_stop_of statuses.WriteFault = restores.WriteFault
restore_stop_of statuses.OutOfMemory = restores.OutOfMemory
restore_stop_of (statuses.Full bytes) = restores.OutOfMemory

restore_stop_undone : (stop : RestoreStop) → restore_stop_of (status_of_restore stop) ≡ stop
restore_stop_undone (restores.BadBackup line) = refl
restore_stop_undone restores.ReadFault = refl
restore_stop_undone restores.WriteFault = refl
restore_stop_undone restores.OutOfMemory = refl

pub restore_stop_told : (a b : RestoreStop) → status_of_restore a ≡ status_of_restore b → a ≡ b
restore_stop_told a b same = told_by status_of_restore restore_stop_of restore_stop_undone a b same

pub restore_stop_not_ok : (stop : RestoreStop) → statuses.Ok ≡ status_of_restore stop → ⊥
restore_stop_not_ok (restores.BadBackup line) same = absurd cc
restore_stop_not_ok restores.ReadFault same = absurd cc
restore_stop_not_ok restores.WriteFault same = absurd cc
restore_stop_not_ok restores.OutOfMemory same = absurd cc
