-- What the program says of how it ended.
use Rattle.std.specs.Prelude.{ℕ, List, ◌++◌, codes, decimal}
use Rattle.text_words.specs.Words.{reason_text}
use Rattle.replay_core.specs.declared.stops.ReplayStop.{ReplayStop}
use Rattle.replay_core.specs.declared.stops.ReplayStop.TheVariants as stops
use Rattle.judge.specs.declared.verdicts.Verdict.{Verdict}
use Rattle.judge.specs.declared.verdicts.Verdict.TheVariants.{Correct, Incorrect}
use Rattle.audit_core.specs.declared.stops.AuditStop.{AuditStop}
use Rattle.audit_core.specs.declared.stops.AuditStop.TheVariants as audits
use Rattle.audit_core.specs.Audits.{Answer, Judged, BadLine}
use Rattle.quorum_config.specs.declared.stops.QuorumStop.{QuorumStop}
use Rattle.quorum_config.specs.declared.stops.QuorumStop.TheVariants as quorums
use Rattle.restore_core.specs.declared.stops.RestoreStop.{RestoreStop}
use Rattle.restore_core.specs.declared.stops.RestoreStop.TheVariants as restores
use Rattle.workload.specs.declared.stops.GenStop.{GenStop}
use Rattle.workload.specs.declared.stops.GenStop.TheVariants as generations
use Rattle.tcs_run.specs.declared.status.Status.{Status}
use Rattle.tcs_run.specs.declared.status.Status.TheVariants as statuses

-- the number with which the program exits
abbrev pub exit_number : Status → ℕ
exit_number statuses.Ok = 0
exit_number statuses.Incorrect = 1
exit_number statuses.BadWords = 2
exit_number (statuses.Bad line reason) = 3
exit_number (statuses.BadTrace line) = 3
exit_number (statuses.BadQuorum line) = 3
exit_number (statuses.BadBackup line) = 3
exit_number statuses.ReadFault = 4
exit_number statuses.WriteFault = 5
exit_number statuses.OutOfMemory = 6
exit_number (statuses.Full bytes) = 7

-- the text of a status
abbrev pub status_text : Status → List ℕ
status_text statuses.Ok = codes "ok"
status_text statuses.Incorrect = codes "incorrect"
status_text statuses.BadWords = codes "bad words"
status_text (statuses.Bad line reason) = codes "bad line " ++ (decimal line ++ (codes ": " ++ reason_text reason))
status_text (statuses.BadTrace line) = codes "bad trace line " ++ decimal line
status_text (statuses.BadQuorum line) = codes "bad quorum line " ++ decimal line
status_text (statuses.BadBackup line) = codes "bad backup line " ++ decimal line
status_text statuses.ReadFault = codes "read fault"
status_text statuses.WriteFault = codes "write fault"
status_text statuses.OutOfMemory = codes "out of memory"
status_text (statuses.Full bytes) = codes "full: " ++ (decimal bytes ++ codes " bytes")

-- the status of a replay that stopped
abbrev pub status_of : ReplayStop → Status
status_of (stops.Bad line reason) = statuses.Bad line reason
status_of stops.ReadFault = statuses.ReadFault
status_of stops.WriteFault = statuses.WriteFault
status_of (stops.Full bytes) = statuses.Full bytes
status_of stops.OutOfMemory = statuses.OutOfMemory

-- the status of a run of the quorum store that stopped
abbrev pub status_of_quorum : QuorumStop → Status
status_of_quorum (quorums.Bad line) = statuses.BadQuorum line
status_of_quorum quorums.ReadFault = statuses.ReadFault
status_of_quorum quorums.WriteFault = statuses.WriteFault
status_of_quorum quorums.OutOfMemory = statuses.OutOfMemory

-- the status of a verdict
abbrev pub status_of_verdict : Verdict → Status
status_of_verdict (Correct decided committed aborted) = statuses.Ok
status_of_verdict (Incorrect which txn) = statuses.Incorrect

-- the status of the answer to the bytes of a trace
abbrev pub status_of_answer : Answer → Status
status_of_answer (Judged verdict) = status_of_verdict verdict
status_of_answer (BadLine line) = statuses.BadTrace line

-- the status of an audit that stopped
abbrev pub status_of_audit : AuditStop → Status
status_of_audit (audits.BadTrace line) = statuses.BadTrace line
status_of_audit audits.ReadFault = statuses.ReadFault
status_of_audit audits.WriteFault = statuses.WriteFault
status_of_audit audits.OutOfMemory = statuses.OutOfMemory

-- the status of a generated run that stopped
abbrev pub status_of_generation : GenStop → Status
status_of_generation generations.WriteFault = statuses.WriteFault
status_of_generation (generations.Full bytes) = statuses.Full bytes
status_of_generation generations.OutOfMemory = statuses.OutOfMemory

-- the status of a restore that stopped
abbrev pub status_of_restore : RestoreStop → Status
status_of_restore (restores.BadBackup line) = statuses.BadBackup line
status_of_restore restores.ReadFault = statuses.ReadFault
status_of_restore restores.WriteFault = statuses.WriteFault
status_of_restore restores.OutOfMemory = statuses.OutOfMemory
