-- How a message came to be sent, by the moment after an event.
use Rattle.std.proofs.Common.{◌≡◌, ℕ, ◌⊎◌, inl, inr, sym}
use Rattle.tcs_terms.specs.declared.inputs.Event.{Event}
use Rattle.tcs_terms.specs.declared.inputs.Input.{Input}
use Rattle.tcs_terms.specs.declared.messages.Message.{Message}
use Rattle.tcs_terms.specs.Setups.{Deployment}
use Rattle.tcs_laws.specs.Certification.{Tests}
use Rattle.protocol.specs.Records.{NodeRecord}
use Rattle.protocol.specs.World.{Happening}
use Rattle.protocol.specs.Invariant.Time.{Moment, IsNode, WasSent, goes_to}
use Rattle.protocol_laws.specs.Change.{Change}
use Rattle.protocol_laws.proofs.ConfigurationsSaid.{Says, says}
use Rattle.protocol_laws.proofs.ServiceSays.{ServiceSays}
use Rattle.protocol_laws.proofs.Came.{Acting, effect_name, message_by}

-- a node said it, or the service
pub data SentHow (t u : Moment) (from : ℕ) (m : Message) : Type 0 where
  ByNode : (node kept : NodeRecord) (input : Input) → IsNode t node → IsNode u kept → node.name ≡ from → kept.name ≡ node.name → Says node kept input m → SentHow t u from m
  ByService : ServiceSays u.now.configs m → SentHow t u from m

-- a message that was sent by now was sent before, or now
pub sent_how : (tests : Tests) (setup : Deployment) (t : Moment) (event : Event) (h : Happening) → Change tests setup.version t.now event h
    → (from to : ℕ) (m : Message) → WasSent (goes_to t h.after) from to m → WasSent t from to m ⊎ SentHow t (goes_to t h.after) from m
sent_how tests setup t event h change from to m s = elim (message_by tests setup t event h change from to m s) [
  | inl q ↦ inl q
  | inr (inl q) ↦ (let a : Acting tests setup t event h = q.acting in
      inr (ByNode a.node a.out.kept a.input a.is a.there (sym q.sender) (effect_name tests setup.version a.node a.input a.out a.effect) (says tests setup.version a.node a.input a.out a.effect _ q.among)))
  | inr (inr q) ↦ inr (ByService q)
]
