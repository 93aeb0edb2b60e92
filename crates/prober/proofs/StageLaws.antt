-- The rules lead from sound stages to sound stages, and their messages are in range.
use Rattle.std.proofs.Common.{◌≡◌, ℕ, ◌+◌, ◌-◌, ◌≤◌, Bool, true, false, ◌&&◌, ◌==◌, IsTrue, List, [], ◌∷◌, length, Result, Ok, Err, OnOk, OnErr, refl, sym, subst, eqb-true, arith}
use Rattle.std.specs.Prelude.{nat_lt, nat_le}
use Rattle.std.specs.List.{list_all}
use Rattle.std.proofs.lemmas.Bool.Decides.{nat_tests}
use Rattle.std.proofs.lemmas.List.Elements.{All-nil, All-cons, All-map}
use Rattle.tcs_terms.specs.declared.limits.TheConstants.{MAX_NODES, MAX_EPOCH, MAX_WANTED}
use Rattle.tcs_terms.specs.declared.inputs.Input.TheVariants.{Move}
use Rattle.tcs_terms.specs.declared.inputs.Handled.{Handled}
use Rattle.tcs_terms.specs.declared.messages.Message.{Message}
use Rattle.tcs_terms.specs.declared.messages.Message.TheVariants.{Last, At, Cas, Probe, NewConfig}
use Rattle.tcs_terms.specs.Events.{InputInRange}
use Rattle.tcs_terms.specs.Messages.{InRange}
use Rattle.tcs_terms.specs.Order.{ascends}
use Rattle.tcs_terms.specs.Places.{Membership, IsMembership, is_shard, is_node, is_epoch, is_among}
use Rattle.tcs_terms.proofs.BoolLaws.{left_of, right_of}
use Rattle.protocol.specs.Choices.{when}
use Rattle.protocol.specs.Outcomes.{Out, to, acts, rests, refuses}
use Rattle.protocol.specs.Records.{Stage}
use Rattle.protocol.specs.Records.Stage.{Idle, AskedLast, Probing, AskedLower, CasSent}
use Rattle.protocol.specs.Coordination.{add_once}
use Rattle.protocol.specs.Probing.{awaits, probe, ask_stage, tell_leader, on_stored, on_probe_ack, lower, propose, proposed}
use Rattle.protocol.proofs.Lists.{all-StandsIn, among-StandsIn}
use Rattle.prober.specs.Soundness.{IsSound, AreInRange}
use Rattle.prober.proofs.ProposalLaws.{proposed-IsMembership}

-- a stage that follows, or stays, by what a call returned
pub sound_after : {A E : Type 0} (r : Result A E) (before next now : Stage) → OnOk r (now ≡ next) → OnErr r (now ≡ before) → IsSound before → IsSound next → IsSound now
sound_after (Ok x) before next now ok err p q = subst IsSound (sym ok) q
sound_after (Err e) before next now ok err p q = subst IsSound (sym err) p

-- what a rule keeps is sound, and what it sends is in range
pub record IsSafe (out : Out Stage) : Type 0 where
  pub kept : IsSound out.kept
  pub sends : AreInRange out.sends

none_in_range : AreInRange []
none_in_range = All-nil (λ sent. InRange sent.message)

one_in_range : (node : ℕ) (message : Message) → InRange message → AreInRange (to node message ∷ [])
one_in_range node message h = All-cons (λ sent. InRange sent.message) (to node message) [] h none_in_range

probe_in_range : (epoch : ℕ) (members : List ℕ) → IsTrue (is_epoch epoch) → AreInRange (probe epoch members)
unfolding probe
probe_in_range epoch members h =
    All-map (λ sent. InRange sent.message) (λ node. to node (Probe epoch)) members (λ k d inside. h)

rests_safely : (h : Handled) (s : Stage) → IsSound s → IsSafe (rests h s)
rests_safely h s sound = record { kept = sound; sends = none_in_range }

-- one of two safe outcomes
when_safe : (b : Bool) (x y : Out Stage) → (b ≡ true → IsSafe x) → (b ≡ false → IsSafe y) → IsSafe (when b x y)
unfolding when
when_safe true x y f g = f refl
when_safe false x y f g = g refl

is_shard-moved : (shard : ℕ) (want : List ℕ) → InputInRange (Move shard want) → IsTrue (is_shard shard)
is_shard-moved shard want h =
    left_of (is_shard shard) (nat_le (length want) MAX_WANTED) (left_of (is_shard shard && nat_le (length want) MAX_WANTED) (list_all is_node want) (left_of (is_shard shard && nat_le (length want) MAX_WANTED && list_all is_node want) (ascends want) h))

-- a member of a configuration is a node
pub is_node-member : (c : Membership) (n : ℕ) → IsMembership c → is_among c.members n ≡ true → IsTrue (is_node n)
is_node-member c n h among = all-StandsIn is_node c.members n h.each (among-StandsIn c.members n among)

pub ask_stage_in_range : (s : Stage) → IsSound s → AreInRange (ask_stage s)
unfolding ask_stage
ask_stage_in_range Idle sound = none_in_range
ask_stage_in_range (AskedLast shard want) sound = one_in_range 0 (Last shard) (is_shard-moved shard want sound)
ask_stage_in_range (Probing shard want epoch probed low) sound = probe_in_range epoch probed.members sound.1
ask_stage_in_range (AskedLower shard want epoch asked) sound =
    one_in_range 0 (At shard asked) (is_shard-moved shard want sound.0, sound.2)
ask_stage_in_range (CasSent config) sound = one_in_range 0 (Cas config) sound

tell_leader_in_range : (me : ℕ) (c : Membership) → IsMembership c → AreInRange (tell_leader me c)
unfolding tell_leader when
tell_leader_in_range me c h = go (c.by == me)
  where
    go : (b : Bool) → AreInRange (when b (to c.leader (NewConfig c) ∷ []) [])
    go true = one_in_range c.leader (NewConfig c) h
    go false = none_in_range

pub on_stored-IsSafe : (me view : ℕ) (s : Stage) (c : Membership) → IsMembership c → IsTrue (awaits s c view) → IsSound s → IsSafe (on_stored me s c)
unfolding on_stored
on_stored-IsSafe me view Idle c h awaited sound = record { kept = tt; sends = none_in_range }
on_stored-IsSafe me view (AskedLast shard want) c h awaited sound =
    let at = h.epoch in
    let room = right_of ((c.shard == shard) && nat_le view c.epoch) (nat_lt c.epoch MAX_EPOCH) awaited in
    let next : IsTrue (is_epoch (c.epoch + 1)) = grind (arith, nat_tests) in
    record { kept = (sound, next, h); sends = probe_in_range (c.epoch + 1) c.members next }
on_stored-IsSafe me view (Probing shard want epoch probed low) c h awaited sound =
    record { kept = sound; sends = none_in_range }
on_stored-IsSafe me view (AskedLower shard want epoch asked) c h awaited sound =
    record { kept = (sound.0, sound.1, h); sends = probe_in_range epoch c.members sound.1 }
on_stored-IsSafe me view (CasSent config) c h awaited sound =
    record { kept = tt; sends = tell_leader_in_range me c h }

propose_safely : (config : Membership) → IsMembership config → IsSafe (propose config)
propose_safely config h = record { kept = h; sends = one_in_range 0 (Cas config) h }

pub on_probe_ack-IsSafe : (me : ℕ) (s : Stage) (from epoch state : ℕ) → me ≤ MAX_NODES → IsSound s → IsSafe (on_probe_ack me s from epoch state)
unfolding on_probe_ack
on_probe_ack-IsSafe me Idle from epoch state proposer sound = rests_safely _ Idle tt
on_probe_ack-IsSafe me (AskedLast shard want) from epoch state proposer sound =
    rests_safely _ (AskedLast shard want) sound
on_probe_ack-IsSafe me (Probing shard want wanted probed low) from epoch state proposer sound =
    let answered = when (nat_le probed.epoch state) (propose (proposed me shard epoch want from)) (acts (Probing shard want wanted probed (add_once low from)) []) in
    when_safe ((epoch == wanted) && is_among probed.members from) answered (refuses epoch wanted (Probing shard want wanted probed low))
    (λ e.
    let same = eqb-true epoch wanted (left_of (epoch == wanted) (is_among probed.members from) e) in
    let member = right_of (epoch == wanted) (is_among probed.members from) e in
    let chosen = proposed-IsMembership me shard epoch want from proposer sound.0 (rw same sound.1) (is_node-member probed from sound.2 member) in
    when_safe (nat_le probed.epoch state) (propose (proposed me shard epoch want from)) (acts (Probing shard want wanted probed (add_once low from)) [])
    (λ _. propose_safely (proposed me shard epoch want from) chosen)
    (λ _. record { kept = sound; sends = none_in_range }))
    (λ _. rests_safely _ (Probing shard want wanted probed low) sound)
on_probe_ack-IsSafe me (AskedLower shard want wanted asked) from epoch state proposer sound =
    rests_safely _ (AskedLower shard want wanted asked) sound
on_probe_ack-IsSafe me (CasSent config) from epoch state proposer sound = rests_safely _ (CasSent config) sound

pub lower-IsSafe : (s : Stage) → IsSound s → IsSafe (lower s)
unfolding lower
lower-IsSafe Idle sound = rests_safely _ Idle tt
lower-IsSafe (AskedLast shard want) sound = rests_safely _ (AskedLast shard want) sound
lower-IsSafe (Probing shard want epoch probed low) sound =
    let asks = acts (AskedLower shard want epoch (probed.epoch - 1)) (to 0 (At shard (probed.epoch - 1)) ∷ []) in
    when_safe (nat_lt 0 (length low) && nat_lt 1 probed.epoch) asks (rests _ (Probing shard want epoch probed low))
    (λ e.
    let above = right_of (nat_lt 0 (length low)) (nat_lt 1 probed.epoch) e in
    let at = sound.2.epoch in
    let asked : IsTrue (is_epoch (probed.epoch - 1)) = grind (arith, nat_tests) in
    record {
      kept = (sound.0, sound.1, asked);
      sends = one_in_range 0 (At shard (probed.epoch - 1)) (is_shard-moved shard want sound.0, asked);
    })
    (λ _. rests_safely _ (Probing shard want epoch probed low) sound)
lower-IsSafe (AskedLower shard want epoch asked) sound = rests_safely _ (AskedLower shard want epoch asked) sound
lower-IsSafe (CasSent config) sound = rests_safely _ (CasSent config) sound
