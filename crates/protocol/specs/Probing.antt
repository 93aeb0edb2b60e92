-- Moving a shard to a new configuration, stage by stage (after Bravo and Gotsman, PODC 2019; the stages are this
-- project's own).
use Rattle.std.specs.Prelude.{ℕ, ◌+◌, ◌-◌, Bool, false, ◌&&◌, ◌==◌, nat_lt, nat_le, List, [], ◌∷◌, ◌++◌, filter, map, length}
use Rattle.tcs_terms.specs.declared.limits.TheConstants.{MAX_EPOCH}
use Rattle.tcs_terms.specs.declared.inputs.Handled.TheVariants.{Held}
use Rattle.tcs_terms.specs.declared.messages.Message.TheVariants.{Last, At, Cas, Probe, NewConfig}
use Rattle.tcs_terms.specs.declared.messages.Outgoing.{Outgoing}
use Rattle.tcs_terms.specs.Places.{Membership, is_among}
use Rattle.protocol.specs.Choices.{when}
use Rattle.protocol.specs.Outcomes.{Out, to, acts, rests, refuses}
use Rattle.protocol.specs.Records.{Stage}
use Rattle.protocol.specs.Records.Stage.{Idle, AskedLast, Probing, AskedLower, CasSent}
use Rattle.protocol.specs.Coordination.{add_once}

-- the epoch that a prober wants to make, 0 before it knows it
abbrev pub prober_epoch : Stage → ℕ
prober_epoch Idle = 0
prober_epoch (AskedLast shard want) = 0
prober_epoch (Probing shard want epoch probed low) = epoch
prober_epoch (AskedLower shard want epoch asked) = epoch
prober_epoch (CasSent config) = config.epoch

-- A move begins, whatever the prober did before: LAST to the configuration service.
unfoldable pub start_move : ℕ → List ℕ → Out Stage
start_move shard want = acts (AskedLast shard want) (to 0 (Last shard) ∷ [])

-- PROBE to each member
unfoldable pub probe : ℕ → List ℕ → List Outgoing
probe epoch members = map (λ node. to node (Probe epoch)) members

-- what the stage waits for is asked again
unfoldable pub ask_stage : Stage → List Outgoing
ask_stage Idle = []
ask_stage (AskedLast shard want) = to 0 (Last shard) ∷ []
ask_stage (Probing shard want epoch probed low) = probe epoch probed.members
ask_stage (AskedLower shard want epoch asked) = to 0 (At shard asked) ∷ []
ask_stage (CasSent config) = to 0 (Cas config) ∷ []

-- Whether the stage awaits a stored configuration; the number is the epoch of its shard's view.
abbrev pub awaits : Stage → Membership → ℕ → Bool
awaits Idle c view = false
awaits (AskedLast shard want) c view = (c.shard == shard) && nat_le view c.epoch && nat_lt c.epoch MAX_EPOCH
awaits (Probing shard want epoch probed low) c view = false
awaits (AskedLower shard want epoch asked) c view = (c.shard == shard) && (c.epoch == asked)
awaits (CasSent config) c view = (c.shard == config.shard) && (c.epoch == config.epoch)

-- NEW_CONFIG to the leader of a configuration, where this node proposed it
unfoldable pub tell_leader : ℕ → Membership → List Outgoing
tell_leader me c = when (c.by == me) (to c.leader (NewConfig c) ∷ []) []

-- The stage after the stored configuration that it awaits: it probes that configuration's members, or is done.
unfoldable pub on_stored : ℕ → Stage → Membership → Out Stage
on_stored me Idle c = acts Idle []
on_stored me (AskedLast shard want) c =
    acts (Probing shard want (c.epoch + 1) c []) (probe (c.epoch + 1) c.members)
on_stored me (Probing shard want epoch probed low) c = acts (Probing shard want epoch probed low) []
on_stored me (AskedLower shard want epoch asked) c = acts (Probing shard want epoch c []) (probe epoch c.members)
on_stored me (CasSent config) c = acts Idle (tell_leader me c)

-- the wanted nodes and one more, ascending
abbrev pub joined : ℕ → List ℕ → List ℕ
joined node nodes = filter (λ m. nat_lt m node) nodes ++ node ∷ filter (λ m. nat_lt node m) nodes

-- the configuration that a member is to lead, with the wanted nodes beside it
abbrev pub proposed : ℕ → ℕ → ℕ → List ℕ → ℕ → Membership
proposed me shard epoch want leader =
    record { shard = shard; epoch = epoch; members = joined leader want; leader = leader; by = me }

-- CAS of a configuration
abbrev pub propose : Membership → Out Stage
propose config = acts (CasSent config) (to 0 (Cas config) ∷ [])

-- PROBE_ACK while probing: a member that was initialised at or above the probed epoch is to lead the new one, with the
-- wanted nodes beside it; any other member is marked low.
unfoldable pub on_probe_ack : ℕ → Stage → ℕ → ℕ → ℕ → Out Stage
on_probe_ack me Idle from epoch state = refuses epoch 0 Idle
on_probe_ack me (AskedLast shard want) from epoch state = refuses epoch 0 (AskedLast shard want)
on_probe_ack me (Probing shard want wanted_epoch probed low) from epoch state =
    when ((epoch == wanted_epoch) && is_among probed.members from)
    (when (nat_le probed.epoch state)
    (propose (proposed me shard epoch want from))
    (acts (Probing shard want wanted_epoch probed (add_once low from)) []))
    (refuses epoch wanted_epoch (Probing shard want wanted_epoch probed low))
on_probe_ack me (AskedLower shard want wanted_epoch asked) from epoch state =
    refuses epoch wanted_epoch (AskedLower shard want wanted_epoch asked)
on_probe_ack me (CasSent config) from epoch state = refuses epoch config.epoch (CasSent config)

-- Down one epoch, once a member of the probed configuration answered low: AT to the configuration service.
unfoldable pub lower : Stage → Out Stage
lower Idle = rests (Held 0) Idle
lower (AskedLast shard want) = rests (Held 0) (AskedLast shard want)
lower (Probing shard want epoch probed low) =
    when (nat_lt 0 (length low) && nat_lt 1 probed.epoch)
    (acts (AskedLower shard want epoch (probed.epoch - 1)) (to 0 (At shard (probed.epoch - 1)) ∷ []))
    (rests (Held epoch) (Probing shard want epoch probed low))
lower (AskedLower shard want epoch asked) = rests (Held epoch) (AskedLower shard want epoch asked)
lower (CasSent config) = rests (Held config.epoch) (CasSent config)
