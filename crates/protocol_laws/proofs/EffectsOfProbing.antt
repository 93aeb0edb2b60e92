-- The rules of a node that moves a shard, read backwards.
use Rattle.std.proofs.Common.{◌≡◌, ℕ, List, [], ◌&&◌, ◌==◌, subst, sym, refl, eqb-true, leb-true, leb-false, nat_le}
use Rattle.std.proofs.lemmas.Bool.{and_parts}
use Rattle.tcs_terms.specs.declared.inputs.Input.TheVariants as inputs
use Rattle.tcs_terms.specs.declared.messages.Message.TheVariants.{ProbeAck}
use Rattle.tcs_terms.specs.Places.{Membership, is_among}
use Rattle.tcs_laws.specs.Certification.{Tests}
use Rattle.protocol.specs.ClientRules.{probes}
use Rattle.protocol.specs.Coordination.{add_once}
use Rattle.protocol.specs.Outcomes.{Out, acts}
use Rattle.protocol.specs.Probing.{on_probe_ack}
use Rattle.protocol.specs.Records.{Stage, NodeRecord}
use Rattle.protocol.specs.Records.Stage.{Idle, AskedLast, Probing, AskedLower, CasSent}
use Rattle.protocol_laws.specs.Effect.{NoMark, Effect, with_stage, Chooses, FindsLow}
use Rattle.protocol_laws.proofs.Guards.{by_guard, Receives, no_notice, prober_refuses, stage-mark}

-- while probing, the answer is of the wanted epoch
probing_effect : (tests : Tests) (version : ℕ) (node : NodeRecord) (from epoch state shard : ℕ) (want : List ℕ) (wanted : ℕ) (probed : Membership) (low : List ℕ)
    → node.prober ≡ Probing shard want wanted probed low
    → Receives tests version node from 7 (ProbeAck epoch state) (probes node (on_probe_ack node.name (Probing shard want wanted probed low) from epoch state))
unfolding on_probe_ack
probing_effect tests version node from epoch state shard want wanted probed low at =
    let P : Out Stage → Type 0 = λ out. Receives tests version node from 7 (ProbeAck epoch state) (probes node out) in
    let E : Out NodeRecord → Type 0 = Effect tests version node (inputs.Deliver from (ProbeAck epoch state)) in
    by_guard P ((epoch == wanted) && is_among probed.members from)
    (λ e. let p = and_parts (epoch == wanted) (is_among probed.members from) e in
    let same : wanted ≡ epoch = sym (eqb-true epoch wanted p.0) in
    let here : node.prober ≡ Probing shard want epoch probed low = subst (λ n. node.prober ≡ Probing shard want n probed low) same at in
    by_guard P (nat_le probed.epoch state)
    (λ le. no_notice E from 7 node.promised _ _ _ (Chooses from state shard want epoch probed low here p.1 (leb-true probed.epoch state le)))
    (λ lt. no_notice E from 7 node.promised _ _ _
    (subst (λ n. E (acts (with_stage node (Probing shard want n probed (add_once low from))) [])) (sym same)
    (FindsLow from state shard want epoch probed low here p.1 (leb-false probed.epoch state lt)))))
    (λ e. prober_refuses tests version node from 7 (ProbeAck epoch state) epoch wanted (Probing shard want wanted probed low) at (stage-mark node (Probing shard want wanted probed low) at) (record { answered = refl; kind = refl }))

pub probe_ack_effect : (tests : Tests) (version : ℕ) (node : NodeRecord) (from epoch state : ℕ)
    → Receives tests version node from 7 (ProbeAck epoch state) (probes node (on_probe_ack node.name node.prober from epoch state))
unfolding on_probe_ack
probe_ack_effect tests version node from epoch state = go node.prober refl
  where
    go : (stage : Stage) → node.prober ≡ stage → Receives tests version node from 7 (ProbeAck epoch state) (probes node (on_probe_ack node.name stage from epoch state))
    go Idle e = prober_refuses tests version node from 7 (ProbeAck epoch state) epoch 0 Idle e NoMark (record { answered = refl; kind = refl })
    go (AskedLast shard want) e = prober_refuses tests version node from 7 (ProbeAck epoch state) epoch 0 (AskedLast shard want) e NoMark (record { answered = refl; kind = refl })
    go (Probing shard want wanted probed low) e = probing_effect tests version node from epoch state shard want wanted probed low e
    go (AskedLower shard want wanted asked) e =
        prober_refuses tests version node from 7 (ProbeAck epoch state) epoch wanted (AskedLower shard want wanted asked) e (stage-mark node (AskedLower shard want wanted asked) e) (record { answered = refl; kind = refl })
    go (CasSent config) e = prober_refuses tests version node from 7 (ProbeAck epoch state) epoch config.epoch (CasSent config) e (stage-mark node (CasSent config) e) (record { answered = refl; kind = refl })
