use Rattle.tcs_terms.proofs.RunLaws.{no_events, event_joins, front_stands}
use Rattle.tcs_terms.proofs.runs.events_come_one_by_one.Goals as goal

pub returns : goal.returns
returns c = record { none = no_events; more = event_joins; front = front_stands }
