-- A run without events sends and notes nothing.
use Rattle.std.specs.Prelude.{List, [], ◌∷◌}
use Rattle.tcs_terms.specs.declared.ids.TxId.{TxId}
use Rattle.tcs_terms.specs.declared.inputs.Event.{Event}
use Rattle.tcs_terms.specs.declared.inputs.Note.{Note}
use Rattle.tcs_terms.specs.declared.inputs.Result1.{Result1}
use Rattle.tcs_terms.specs.declared.setups.Rule.TheVariants.{Serial}
use Rattle.tcs_terms.specs.Setups.{Deployment}
use Rattle.cert_serial.specs.Serial.{serial}
use Rattle.protocol.specs.World.{Sent}
use Rattle.protocol.specs.Worked.Words.{deployment, config, Shows}

abbrev pub setup : Deployment
setup = deployment 1 Serial (1 ∷ []) (config 1 1 (1 ∷ []) 1 0 ∷ [])

-- what happens
abbrev pub events : List Event
events = []

-- what each event comes to
abbrev pub results : List Result1
results = []

-- what is noted
abbrev pub history : List Note
history = []

-- what is sent, from message 1 on
abbrev pub messages : List Sent
messages = []

-- the transactions that commit, by their first decisions
abbrev pub order : List TxId
order = []

abbrev pub NoEventsShows : Type 0
NoEventsShows = Shows serial setup events results history messages order
