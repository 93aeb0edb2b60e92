-- One event keeps a world in range.
use Rattle.std.proofs.Common.{ℕ, ◌≤◌, cond, ◌==◌, List, length, inl, inr, sym, subst, arith}
use Rattle.std.specs.Prelude.{All}
use Rattle.std.proofs.lemmas.List.{length-map}
use Rattle.std.proofs.lemmas.List.Elements.{All-nil, All-append}
use Rattle.tcs_terms.specs.declared.inputs.Event.{Event}
use Rattle.tcs_terms.specs.declared.inputs.Input.{Input}
use Rattle.tcs_terms.specs.declared.inputs.Input.TheVariants as inputs
use Rattle.tcs_terms.specs.declared.limits.TheConstants.{MAX_NODES}
use Rattle.tcs_terms.specs.declared.messages.Message.{Message}
use Rattle.tcs_terms.specs.declared.messages.Outgoing.{Outgoing}
use Rattle.tcs_terms.specs.Messages.{InRange}
use Rattle.tcs_terms.specs.Places.{Membership, IsMembership}
use Rattle.tcs_laws.specs.Certification.{Tests}
use Rattle.protocol.specs.Outcomes.{Out}
use Rattle.protocol.specs.Records.{NodeRecord}
use Rattle.protocol.specs.Service.{serve}
use Rattle.protocol.specs.Table.{step}
use Rattle.protocol.specs.World.{World, Happening, put_node, sent_by, happens_at, happens_at_service, world_step}
use Rattle.protocol_laws.specs.Change.{Comes, Serves, Change}
use Rattle.protocol_laws.specs.Change.Change.{Passes, Stops, Acts, AtService}
use Rattle.protocol_laws.specs.Change.Comes.{ByCall, ByMessage}
use Rattle.protocol_laws.specs.Effect.{Effect}
use Rattle.protocol_laws.specs.Ranges.{IsNodeInRange, IsInputInRange, ComesFromNode, IsNoteInRange, IsOutInRange, IsSentInRange, IsWorldInRange, IsEventInRange, IsHappeningInRange}
use Rattle.protocol_laws.proofs.After.{put_node-back}
use Rattle.protocol_laws.proofs.AllOf.{all-at, all-of}
use Rattle.protocol_laws.proofs.ChangeOf.{change_of}
use Rattle.protocol_laws.proofs.EffectOf.{effect_of}
use Rattle.protocol_laws.proofs.RangesKept.{kept-in_range}
use Rattle.protocol_laws.proofs.RangesSends.{node-few}
use Rattle.protocol_laws.proofs.RangesSent.{sent-in_range, noted-in_range}
use Rattle.protocol_laws.proofs.RangesService.{served-kept, served-sent, served-notes}
use Rattle.protocol_laws.proofs.Sendable.{sendable-in_range, sendable-to}
use Rattle.protocol_laws.proofs.ServesOf.{serves_of}
use Rattle.protocol_laws.proofs.Standing.{map-StandsIn, IsMapped}

effect-in_range : (tests : Tests) (version : ℕ) (node : NodeRecord) (input : Input) (out : Out NodeRecord) → Effect tests version node input out → IsNodeInRange node → IsInputInRange input → IsOutInRange IsNodeInRange (ComesFromNode input) out
effect-in_range tests version node input out e k i =
    let s = sent-in_range tests version node input out e k i in
    record { kept = kept-in_range tests version node input out e k i; sends = sendable-in_range input out.sends s; to = sendable-to input out.sends s; notes = noted-in_range tests version node input out e k i }

-- what a node does with an input
pub step-in_range : (tests : Tests) (version : ℕ) (node : NodeRecord) (input : Input) → IsNodeInRange node → IsInputInRange input → IsOutInRange IsNodeInRange (ComesFromNode input) (step tests version node input)
step-in_range tests version node input k i = effect-in_range tests version node input (step tests version node input) (effect_of tests version node input) k i

serves-in_range : (nodes : ℕ) (configs : List Membership) (from : ℕ) (message : Message) (out : Out (List Membership)) → Serves nodes configs from message out → nodes ≤ MAX_NODES → All IsMembership configs → InRange message
    → IsOutInRange (All IsMembership) (from ≤ MAX_NODES) out
serves-in_range nodes configs from message out e few k i =
    let s = served-sent nodes configs from message out e few k i in
    let input : Input = inputs.Deliver from message in
    record { kept = served-kept nodes configs from message out e k i; sends = sendable-in_range input out.sends s; to = sendable-to input out.sends s; notes = served-notes nodes configs from message out e }

-- what the service does with a message
pub serve-in_range : (nodes : ℕ) (configs : List Membership) (from : ℕ) (message : Message) → nodes ≤ MAX_NODES → All IsMembership configs → InRange message → IsOutInRange (All IsMembership) (from ≤ MAX_NODES) (serve nodes configs from message)
serve-in_range nodes configs from message few k i = serves-in_range nodes configs from message (serve nodes configs from message) (serves_of nodes configs from message) few k i

-- ---- the world

-- messages that a node or the service sent
sent_by-in_range : {A : Type 0} (Kept : A → Type 0) (From : Type 0) (from : ℕ) (out : Out A) → from ≤ MAX_NODES → From → IsOutInRange Kept From out → All IsSentInRange (sent_by from out.sends)
sent_by-in_range Kept From from out few source k = all-of IsSentInRange (sent_by from out.sends) (λ s m. (
    let i : IsMapped (λ (o : Outgoing). record { from = from; to = o.to; message = o.message }) out.sends s = map-StandsIn (λ (o : Outgoing). record { from = from; to = o.to; message = o.message }) out.sends s m in
    subst IsSentInRange (sym i.is) (record { from = few; to = all-at (λ (o : Outgoing). o.to ≤ MAX_NODES) out.sends (k.to source) i.from i.there; message = all-at (λ (o : Outgoing). InRange o.message) out.sends k.sends i.from i.there })))

put-in_range : (node : NodeRecord) (nodes : List NodeRecord) → IsNodeInRange node → All IsNodeInRange nodes → All IsNodeInRange (put_node node nodes)
put-in_range node nodes k h = all-of IsNodeInRange (put_node node nodes) (λ n s. (elim (put_node-back node nodes n s) [ inl e ↦ subst IsNodeInRange (sym e) k | inr r ↦ all-at IsNodeInRange nodes h n r.0 ]))

put-few : (node : NodeRecord) (nodes : List NodeRecord) → length nodes ≤ MAX_NODES → length (put_node node nodes) ≤ MAX_NODES
put-few node nodes h = subst (λ n. n ≤ MAX_NODES) (sym (length-map nodes (λ (n : NodeRecord). cond (n.name == node.name) node n))) h

-- how an input came
came-in_range : (w : World) (name : ℕ) (event : Event) (input : Input) → Comes w name event input → IsWorldInRange w → IsEventInRange event → IsInputInRange input × ComesFromNode input
came-in_range w name _ _ (ByCall input) k i = i
came-in_range w name _ _ (ByMessage number from message sent is found s) k i =
    let m : IsSentInRange (record { from = from; to = name; message = message }) = subst IsSentInRange is (all-at IsSentInRange w.messages k.messages sent s) in
    ((m.message, tt), m.from)

acted-in_range : (w : World) (name : ℕ) (input : Input) (out : Out NodeRecord) → name ≤ MAX_NODES → IsWorldInRange w → ComesFromNode input → IsOutInRange IsNodeInRange (ComesFromNode input) out → IsHappeningInRange (happens_at w name out)
acted-in_range w name input out few k from o =
    let sent : All IsSentInRange (sent_by name out.sends) = sent_by-in_range IsNodeInRange (ComesFromNode input) name out few from o in
    record {
      notes = o.notes;
      sent = sent;
      after = record {
        few = put-few out.kept w.nodes k.few;
        nodes = put-in_range out.kept w.nodes o.kept k.nodes;
        configs = k.configs;
        messages = All-append IsSentInRange w.messages (sent_by name out.sends) k.messages sent;
        history = All-append IsNoteInRange w.history out.notes k.history o.notes;
      };
    }

served-in_range : (w : World) (from : ℕ) (out : Out (List Membership)) → IsWorldInRange w → from ≤ MAX_NODES → IsOutInRange (All IsMembership) (from ≤ MAX_NODES) out → IsHappeningInRange (happens_at_service w out)
served-in_range w from out k few o =
    let sent : All IsSentInRange (sent_by 0 out.sends) = sent_by-in_range (All IsMembership) (from ≤ MAX_NODES) 0 out (omega arith) few o in
    record {
      notes = o.notes;
      sent = sent;
      after = record {
        few = k.few;
        nodes = k.nodes;
        configs = o.kept;
        messages = All-append IsSentInRange w.messages (sent_by 0 out.sends) k.messages sent;
        history = All-append IsNoteInRange w.history out.notes k.history o.notes;
      };
    }

change-in_range : (tests : Tests) (version : ℕ) (w : World) (event : Event) (h : Happening) → Change tests version w event h → IsWorldInRange w → IsEventInRange event → IsHappeningInRange h
change-in_range tests version w event h (Passes _ result q) k i = record { notes = All-nil IsNoteInRange; sent = All-nil IsSentInRange; after = k }
change-in_range tests version w event h (Stops name) k i = record {
  notes = All-nil IsNoteInRange;
  sent = All-nil IsSentInRange;
  after = record { few = k.few; nodes = k.nodes; configs = k.configs; messages = k.messages; history = k.history };
}
change-in_range tests version w event h (Acts _ name node input out comes found there named runs effect) k i =
    let is : IsNodeInRange node = all-at IsNodeInRange w.nodes k.nodes node there in
    let c : IsInputInRange input × ComesFromNode input = came-in_range w name event input comes k i in
    acted-in_range w name input out (subst (λ n. n ≤ MAX_NODES) named (node-few node.name is.name)) k c.1 (effect-in_range tests version node input out effect is c.0)
change-in_range tests version w event h (AtService number from message sent out is found there serves) k i =
    let m : IsSentInRange (record { from = from; to = 0; message = message }) = subst IsSentInRange is (all-at IsSentInRange w.messages k.messages sent there) in
    served-in_range w from out k m.from (serves-in_range (length w.nodes) w.configs from message out serves k.few k.configs m.message)

pub world_step-in_range : (tests : Tests) (version : ℕ) (w : World) (event : Event) → IsWorldInRange w → IsEventInRange event → IsHappeningInRange (world_step tests version w event)
world_step-in_range tests version w event k i = change-in_range tests version w event (world_step tests version w event) (change_of tests version w event) k i
