-- The rules for what clients ask, read backwards.
use Rattle.std.proofs.Common.{◌≡◌, ℕ, List, length, Some, None, is_none, ◌&&◌, refl, leb-true, ltb-true, nat_le, nat_lt}
use Rattle.std.proofs.lemmas.Bool.{and_parts}
use Rattle.tcs_terms.specs.declared.limits.TheConstants.{MAX_SEQUENCE}
use Rattle.tcs_terms.specs.declared.ids.TxId.{TxId}
use Rattle.tcs_terms.specs.declared.inputs.Handled.TheVariants.{Held, Full}
use Rattle.tcs_terms.specs.declared.inputs.Input.TheVariants as inputs
use Rattle.tcs_terms.specs.Payloads.{Accesses}
use Rattle.tcs_terms.specs.Shards.{shards_of, lies_in}
use Rattle.tcs_laws.specs.Certification.{Tests}
use Rattle.protocol.specs.Cases.{new_case}
use Rattle.protocol.specs.ClientRules.{probes, is_undecided, may_exist, take_row, certify, take, nudge, move, go_lower, read, ask}
use Rattle.protocol.specs.Coordination.{case_of, begin_case, take_over}
use Rattle.protocol.specs.Log.{row_of}
use Rattle.protocol.specs.Outcomes.{Out}
use Rattle.protocol.specs.Probing.{start_move, lower}
use Rattle.protocol.specs.Records.{Stage, NodeRecord}
use Rattle.protocol.specs.Records.Stage.{Idle, AskedLast, Probing, AskedLower, CasSent}
use Rattle.protocol_laws.specs.Effect.{Effect, Certifies, TakesOver, Nudges, Moves, Lowers, Reads, Asks}
use Rattle.protocol_laws.proofs.Guards.{by_guard, by_option, is_none-None, rests_quietly, prober_rests, stage-mark}
use Rattle.protocol_laws.specs.Effect.IsMark.{NoMark, Reached}

pub certify_effect : (tests : Tests) (version : ℕ) (node : NodeRecord) (payload : Accesses) → Effect tests version node (inputs.Certify payload) (certify node payload)
unfolding certify begin_case
certify_effect tests version node payload =
    by_guard (Effect tests version node (inputs.Certify payload)) (nat_le node.next MAX_SEQUENCE)
    (λ e. Certifies payload (leb-true node.next MAX_SEQUENCE e) (new_case (shards_of (length node.coordinator.views) payload) (Some payload)) refl)
    (λ e. rests_quietly tests version node (inputs.Certify payload) Full tt refl)

pub take_effect : (tests : Tests) (version : ℕ) (node : NodeRecord) (txn : TxId) → Effect tests version node (inputs.Take txn) (take node txn)
unfolding take take_over
take_effect tests version node txn =
    let P : Out NodeRecord → Type 0 = Effect tests version node (inputs.Take txn) in
    by_option P (take_row node txn) (row_of node.rows txn)
    (λ none. rests_quietly tests version node (inputs.Take txn) (Held node.state) Reached refl)
    (λ row some. by_guard P (is_undecided row.mark && is_none (case_of node.coordinator txn) && may_exist node txn)
    (λ e. let p = and_parts (is_undecided row.mark && is_none (case_of node.coordinator txn)) (may_exist node txn) e in
    let q = and_parts (is_undecided row.mark) (is_none (case_of node.coordinator txn)) p.0 in
    TakesOver txn row some q.0 (is_none-None (case_of node.coordinator txn) q.1) p.1 (new_case row.entry.shards None) refl)
    (λ e. rests_quietly tests version node (inputs.Take txn) (Held node.state) Reached refl))

pub nudge_effect : (tests : Tests) (version : ℕ) (node : NodeRecord) → Effect tests version node inputs.Nudge (nudge node)
unfolding nudge
nudge_effect tests version node = Nudges

pub move_effect : (tests : Tests) (version : ℕ) (node : NodeRecord) (shard : ℕ) (want : List ℕ) → Effect tests version node (inputs.Move shard want) (move node shard want)
unfolding move start_move
move_effect tests version node shard want = Moves shard want

pub lower_effect : (tests : Tests) (version : ℕ) (node : NodeRecord) → Effect tests version node inputs.Lower (go_lower node)
unfolding go_lower lower
lower_effect tests version node = go node.prober refl
  where
    go : (stage : Stage) → node.prober ≡ stage → Effect tests version node inputs.Lower (probes node (lower stage))
    go Idle e = prober_rests tests version node inputs.Lower (Held 0) Idle e NoMark refl
    go (AskedLast shard want) e = prober_rests tests version node inputs.Lower (Held 0) (AskedLast shard want) e NoMark refl
    go (Probing shard want epoch probed low) e =
        by_guard (λ out. Effect tests version node inputs.Lower (probes node out)) (nat_lt 0 (length low) && nat_lt 1 probed.epoch)
        (λ g. let p = and_parts (nat_lt 0 (length low)) (nat_lt 1 probed.epoch) g in
        Lowers shard want epoch probed low e (ltb-true 0 (length low) p.0) (ltb-true 1 probed.epoch p.1))
        (λ g. prober_rests tests version node inputs.Lower (Held epoch) (Probing shard want epoch probed low) e (stage-mark node (Probing shard want epoch probed low) e) refl)
    go (AskedLower shard want epoch asked) e = prober_rests tests version node inputs.Lower (Held epoch) (AskedLower shard want epoch asked) e (stage-mark node (AskedLower shard want epoch asked) e) refl
    go (CasSent config) e = prober_rests tests version node inputs.Lower (Held config.epoch) (CasSent config) e (stage-mark node (CasSent config) e) refl

pub read_effect : (tests : Tests) (version : ℕ) (node : NodeRecord) (name : List ℕ) → Effect tests version node (inputs.ReadName name) (read node name)
unfolding read
read_effect tests version node name =
    by_guard (Effect tests version node (inputs.ReadName name)) (lies_in (length node.coordinator.views) node.shard name)
    (λ e. Reads name e)
    (λ e. rests_quietly tests version node (inputs.ReadName name) (Held node.state) Reached refl)

pub ask_effect : (tests : Tests) (version : ℕ) (node : NodeRecord) (shard : ℕ) → Effect tests version node (inputs.Ask shard) (ask node shard)
unfolding ask
ask_effect tests version node shard = Asks shard
