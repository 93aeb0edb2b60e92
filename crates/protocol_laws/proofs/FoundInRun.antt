-- Where a leader found nothing of a transaction, an event of the run delivered it a PREPARE without payload, and it acted.
use Rattle.std.proofs.Common.{◌≡◌, ℕ, true, ◌&&◌, ◌==◌, List, [], ◌∷◌, ◌++◌, Some, None, is_none, inl, inr, ◌⊎◌, sym, ◌∙◌, ap, subst, refl, eq-eqb}
use Rattle.std.proofs.lemmas.Bool.{and_from}
use Rattle.tcs_terms.specs.declared.ids.TxId.{TxId}
use Rattle.tcs_terms.specs.declared.inputs.Event.{Event}
use Rattle.tcs_terms.specs.declared.inputs.Event.TheVariants.{DeliverNumber}
use Rattle.tcs_terms.specs.declared.inputs.Input.{Input}
use Rattle.tcs_terms.specs.declared.inputs.Result1.TheVariants.{Node}
use Rattle.tcs_terms.specs.declared.messages.Message.{Message}
use Rattle.tcs_terms.specs.declared.messages.Message.TheVariants.{Prepare}
use Rattle.tcs_terms.specs.Events.{event_fits, input_fits}
use Rattle.tcs_terms.specs.Logs.{same_txn}
use Rattle.tcs_terms.specs.Preparations.{Preparation}
use Rattle.tcs_terms.specs.Setups.{Deployment, has_node}
use Rattle.tcs_laws.specs.Certification.{Tests}
use Rattle.protocol.specs.FoundNothing.{asks_without_payload, holds_nothing, is_unprepared, finds_nothing, has_acted}
use Rattle.protocol.specs.Invariant.Time.{StandsIn}
use Rattle.protocol.specs.Log.{row_of, undecided}
use Rattle.protocol.specs.Outcomes.{Out}
use Rattle.protocol.specs.Records.{NodeRecord}
use Rattle.protocol.specs.ShardRules.{is_leader}
use Rattle.protocol.specs.World.{World, Sent, Happening, node_of, message_of}
use Rattle.protocol_laws.specs.Change.{Change, Passes, Stops, Acts, AtService, Comes, ByCall, ByMessage}
use Rattle.protocol_laws.proofs.After.{put_node-back}
use Rattle.protocol_laws.proofs.AppendedBy.{AsksWithout, effect_appends, one_more}
use Rattle.protocol_laws.proofs.Numbered.{AreNumbered, numbered-one}
use Rattle.protocol_laws.proofs.SameTxn.{same_txn-self}
use Rattle.protocol_laws.proofs.Came.{effect_name}
use Rattle.tcs_terms.proofs.BoolLaws.{right_of}

-- a leader of the shard that held no row of the transaction before, and has one more without payload after
pub record FoundBetween (before after : World) (txn : TxId) (shard : ℕ) : Type 0 where
  pub node : NodeRecord
  pub there : StandsIn node before.nodes
  pub of_shard : node.shard ≡ shard
  pub leads : is_leader node.role ≡ true
  pub nothing : row_of node.rows txn ≡ None
  pub grown : NodeRecord
  pub grown_there : StandsIn grown after.nodes
  pub grown_name : grown.name ≡ node.name
  pub still : grown.role ≡ node.role
  pub entry : Preparation
  pub appended : grown.rows ≡ node.rows ++ undecided entry ∷ []
  pub of_txn : entry.txn ≡ txn
  pub empty : entry.payload ≡ None

-- what is found in an event
pub record IsFound (w : World) (h : Happening) (txn : TxId) (shard : ℕ) (event : Event) : Type 0 where
  pub finds : finds_nothing w txn shard event ≡ true
  pub acted : has_acted h.result ≡ true

-- a node that is as before has no row more
not_same : (w after : World) (count : ℕ) (txn : TxId) (shard : ℕ) → AreNumbered (λ n. n.name) w.nodes 1 count → (f : FoundBetween w after txn shard) → StandsIn f.grown w.nodes → ⊥
not_same w after count txn shard names f s =
    let same : f.grown ≡ f.node = numbered-one (λ n. n.name) w.nodes 1 count f.grown f.node names s f.there f.grown_name in
    one_more f.node.rows f.entry (ap (λ m. m.rows) (sym same) ∙ f.appended)

-- the message of such a PREPARE
unprepared : (w : World) (txn : TxId) (shard number from name epoch : ℕ) (shards : List ℕ) (message : Message) (sent : Sent) (node : NodeRecord)
    → sent ≡ record { from = from; to = name; message = message } → message_of w.messages number ≡ Some sent → message ≡ Prepare epoch txn shards None → node_of w.nodes name ≡ Some node → node.shard ≡ shard → row_of node.rows txn ≡ None
    → finds_nothing w txn shard (DeliverNumber number) ≡ true
unprepared w txn shard number from name epoch shards message sent node is found asks at of nothing =
    subst (λ o. is_unprepared w txn shard o ≡ true) (sym found)
    (subst (λ x. (asks_without_payload txn x.message && holds_nothing txn shard (node_of w.nodes x.to)) ≡ true) (sym is)
    (and_from (asks_without_payload txn message) (holds_nothing txn shard (node_of w.nodes name))
    (subst (λ m. asks_without_payload txn m ≡ true) (sym asks) (and_from (same_txn txn txn) true (same_txn-self txn) refl))
    (subst (λ o. holds_nothing txn shard o ≡ true) (sym at) (and_from (node.shard == shard) (is_none (row_of node.rows txn)) (eq-eqb node.shard shard of) (ap (λ o. is_none o) nothing)))))

found_by : (setup : Deployment) (w : World) (txn : TxId) (shard name : ℕ) (event : Event) (input : Input) (node : NodeRecord) (out : Out NodeRecord) → event_fits setup event ≡ true → Comes w name event input
    → node_of w.nodes name ≡ Some node → node.shard ≡ shard → row_of node.rows txn ≡ None → AsksWithout txn input out → finds_nothing w txn shard event ≡ true
found_by setup w txn shard name e i node out fits (ByCall input) at of nothing a =
    let f : input_fits setup input ≡ true = right_of (has_node setup.nodes name) (input_fits setup input) fits in
    absurd (cc (subst (λ x. input_fits setup x ≡ true) a.is f))
found_by setup w txn shard name e i node out fits (ByMessage number from message sent is found s) at of nothing a =
    unprepared w txn shard number from name a.epoch a.shards message sent node is found (cc a.is) at of nothing

pub found_in_change : (tests : Tests) (setup : Deployment) (w : World) (event : Event) (h : Happening) (count : ℕ) (txn : TxId) (shard : ℕ) → AreNumbered (λ n. n.name) w.nodes 1 count → event_fits setup event ≡ true
    → Change tests setup.version w event h → FoundBetween w h.after txn shard → IsFound w h txn shard event
found_in_change tests setup w e h count txn shard names fits (Passes event result a) f = absurd (not_same w h.after count txn shard names f f.grown_there)
found_in_change tests setup w e h count txn shard names fits (Stops name) f = absurd (not_same w h.after count txn shard names f f.grown_there)
found_in_change tests setup w e h count txn shard names fits (AtService number from message sent out is found s serves) f = absurd (not_same w h.after count txn shard names f f.grown_there)
found_in_change tests setup w e h count txn shard names fits (Acts event name node input out comes at there named up effect) f = go (put_node-back out.kept w.nodes f.grown f.grown_there)
  where
    go : (f.grown ≡ out.kept) ⊎ (StandsIn f.grown w.nodes × (f.grown.name ≡ out.kept.name → ⊥)) → IsFound w h txn shard event
    go (inr p) = absurd (not_same w h.after count txn shard names f p.0)
    go (inl k) =
        let kept : out.kept.name ≡ node.name = effect_name tests setup.version node input out effect in
        let same : node ≡ f.node = numbered-one (λ n. n.name) w.nodes 1 count node f.node names there f.there (sym kept ∙ ap (λ m. m.name) (sym k) ∙ f.grown_name) in
        let leads : is_leader node.role ≡ true = subst (λ m. is_leader m.role ≡ true) (sym same) f.leads in
        let still : out.kept.role ≡ node.role = ap (λ m. m.role) (sym k) ∙ f.still ∙ ap (λ m. m.role) (sym same) in
        let more : out.kept.rows ≡ node.rows ++ undecided f.entry ∷ [] = ap (λ m. m.rows) (sym k) ∙ f.appended ∙ ap (λ m. m.rows ++ undecided f.entry ∷ []) (sym same) in
        let asks : AsksWithout txn input out = subst (λ x. AsksWithout x input out) f.of_txn (effect_appends tests setup.version node input out f.entry effect leads still more f.empty) in
        record {
          finds = found_by setup w txn shard name event input node out fits comes at (ap (λ m. m.shard) same ∙ f.of_shard) (subst (λ m. row_of m.rows txn ≡ None) (sym same) f.nothing) asks;
          acted = ap (λ a. has_acted (Node a)) asks.acted;
        }
