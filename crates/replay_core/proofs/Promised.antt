-- Each run of a schedule keeps its promises.
use Rattle.std.proofs.Common.{◌≡◌, true, List, [], ◌∷◌, length, sym, ◌∙◌, ap, arith}
use Rattle.tcs_terms.specs.declared.inputs.Event.{Event}
use Rattle.tcs_terms.specs.declared.setups.Rule.{Rule}
use Rattle.tcs_terms.specs.declared.setups.Rule.TheVariants.{Serial, Snapshot, Commute}
use Rattle.tcs_terms.specs.Runs.{AreEventsOf}
use Rattle.tcs_terms.specs.Setups.{Deployment, IsDeployment}
use Rattle.tcs_laws.specs.Laws.{IsLawful}
use Rattle.cert_commute.specs.CommuteLaws.{commute_lawful}
use Rattle.cert_serial.specs.SerialLaws.{serial_lawful}
use Rattle.cert_snapshot.specs.SnapshotLaws.{snapshot_lawful}
use Rattle.schedule_text.specs.declared.places.Place.{Place}
use Rattle.schedule_text.specs.declared.places.Place.TheVariants as places
use Rattle.schedule_text.specs.declared.reader.LineItem.{LineItem}
use Rattle.schedule_text.specs.Bytes.{events_on, setups_on}
use Rattle.schedule_text.proofs.BytesRead.{known, events_stand, setups_by}
use Rattle.schedule_text.proofs.HeaderReadings.{HeadStands}
use Rattle.protocol_laws.proofs.PromisesOfRun.{run_keeps_promises}
use Rattle.replay_core.specs.declared.reading.Reading.{Reading}
use Rattle.replay_core.specs.Trace.{tests_of, run_of, is_live}
use Rattle.replay_core.specs.Replays.{Kept}
use Rattle.replay_core.specs.Standing.{Standing}

-- each rule is lawful
lawful : (rule : Rule) → IsLawful (tests_of rule)
lawful Serial = serial_lawful
lawful Snapshot = snapshot_lawful
lawful Commute = commute_lawful

pub kept : (d : Deployment) (es : List Event) → AreEventsOf d es → is_live (run_of d es) ≡ true → Kept d es
kept d es a live = record { within = live; promises = run_keeps_promises (tests_of d.rule) d es (lawful d.rule) a }

no_setup : (d : Deployment) → d ∷ [] ≡ [] → ⊥
no_setup d e = absurd (omega (arith, ap length e))

whole_by : (place : Place) (d : Deployment) (ds : List Deployment) → HeadStands place d → ds ≡ d ∷ [] → ds ≡ setups_by place d → IsDeployment d
whole_by places.Version d ds h one is = absurd (no_setup d (sym one ∙ is))
whole_by places.Certifier d ds h one is = absurd (no_setup d (sym one ∙ is))
whole_by places.Shards d ds h one is = absurd (no_setup d (sym one ∙ is))
whole_by places.Parts d ds h one is = absurd (no_setup d (sym one ∙ is))
whole_by places.Events d ds h one is = h
whole_by places.Ended d ds h one is = h

-- where the setup is whole, the events on the lines so far are events of it
pub are_events : (r : Reading) (is : List LineItem) → Standing r is → setups_on is ≡ r.reader.head.setup ∷ [] → AreEventsOf r.reader.head.setup (events_on is)
are_events r is s begun =
    let k = known s.lines is r.reader s.read in
    record {
      deployment = whole_by r.reader.head.place r.reader.head.setup (setups_on is) k.stands.head begun k.setups;
      events = events_stand s.lines is r.reader s.read;
    }
