-- Every generated run whose events may stand keeps its promises, and reads in it are those of one copy of the data.
use Rattle.std.proofs.Common.{◌≡◌, ℕ, true, sym, subst}
use Rattle.cert_serial.specs.Serial.{serial}
use Rattle.cert_serial.specs.SerialLaws.{serial_lawful, serial_checks_reads}
use Rattle.tcs_terms.specs.Runs.{AreEventsOf}
use Rattle.protocol.specs.OneCopy.{is_one_copy}
use Rattle.protocol_laws.specs.Promises.{KeepsItsPromises, world_of}
use Rattle.protocol_laws.proofs.PromisesOfRun.{run_keeps_promises}
use Rattle.generated_runs.specs.Setup.{setup}
use Rattle.generated_runs.specs.Runs.{generated, events_until}
use Rattle.generated_runs.proofs.Events.{run_is}
use Rattle.generated_runs.proofs.Honest.{always_honest}

pub kept : (seed count place : ℕ) → AreEventsOf setup (events_until seed count place) → KeepsItsPromises serial setup (events_until seed count place) (generated seed count place).progress
kept seed count place a =
    let events = events_until seed count place in
    subst (KeepsItsPromises serial setup events) (sym (run_is seed count place)) (run_keeps_promises serial setup events serial_lawful a)

pub copied : (seed count place : ℕ) → AreEventsOf setup (events_until seed count place) → is_one_copy (world_of (generated seed count place).progress).history ≡ true
copied seed count place a = (kept seed count place a).one_copy serial_checks_reads (always_honest seed count place).honest
