-- Each part of the node does its rule; most rules note nothing, and some send nothing.
use Rattle.std.proofs.Common.{◌≡◌, List, [], ◌++◌, Result, Ok, Err, OnOk, ◌≤◌, refl, sym, subst, append-nil}
use Rattle.tcs_terms.specs.declared.limits.TheConstants.{MAX_NODES}
use Rattle.protocol.specs.Records.{NodeRecord}
use Rattle.node_core.specs.Parts.{node_of}
use Rattle.node_core.proofs.Heard.{hear_silent, outcome_unsent, decision_unsent, new_state_unsent, state_piece_unsent}
use Rattle.node_core.proofs.Keeping.{name_fits}
use Rattle.node_core.proofs.parts.Parts.hear.Goals as goal

none_more : {T E X : Type 0} (r : Result T E) (xs more : List X) → more ≡ [] → OnOk r (xs ≡ xs ++ more)
none_more (Ok x) xs more none = rw none (sym (append-nil xs))
none_more (Err e) xs more none = record {}

-- ---- the replica

pub returns-in-Prepare-clause-answer : goal.returns-in-Prepare-clause-answer
returns-in-Prepare-clause-answer g c = let s = c.self.inside in
    rw (c.in-Prepare.is, ← c.self.view_is) (c.prepare.ensures.answer (node_of s.replica s.next s.coordinator.kept s.prober s.outcomes.entries))

pub returns-in-Prepare-clause-kept : goal.returns-in-Prepare-clause-kept
returns-in-Prepare-clause-kept g c = let s = c.self.inside in
    rw (c.in-Prepare.is, ← c.self.view_is) (c.prepare.ensures.kept (node_of s.replica s.next s.coordinator.kept s.prober s.outcomes.entries))

pub returns-in-Prepare-clause-sends : goal.returns-in-Prepare-clause-sends
returns-in-Prepare-clause-sends g c = let s = c.self.inside in
    rw (c.in-Prepare.is, ← c.self.view_is) (c.prepare.ensures.sends (node_of s.replica s.next s.coordinator.kept s.prober s.outcomes.entries))

pub returns-in-Accept-clause-answer : goal.returns-in-Accept-clause-answer
returns-in-Accept-clause-answer g c = let s = c.self-in-Accept.inside in
    rw (c.in-Accept.is, ← c.self-in-Accept.view_is) (c.accept.ensures.answer (node_of s.replica s.next s.coordinator.kept s.prober s.outcomes.entries))

pub returns-in-Accept-clause-kept : goal.returns-in-Accept-clause-kept
returns-in-Accept-clause-kept g c = let s = c.self-in-Accept.inside in
    rw (c.in-Accept.is, ← c.self-in-Accept.view_is) (c.accept.ensures.kept (node_of s.replica s.next s.coordinator.kept s.prober s.outcomes.entries))

pub returns-in-Accept-clause-sends : goal.returns-in-Accept-clause-sends
returns-in-Accept-clause-sends g c = let s = c.self-in-Accept.inside in
    rw (c.in-Accept.is, ← c.self-in-Accept.view_is) (c.accept.ensures.sends (node_of s.replica s.next s.coordinator.kept s.prober s.outcomes.entries))

pub returns-in-DecisionFor-clause-answer : goal.returns-in-DecisionFor-clause-answer
returns-in-DecisionFor-clause-answer g c = let s = c.self-in-DecisionFor.inside in
    rw (c.in-DecisionFor.is, ← c.self-in-DecisionFor.view_is) (c.decide.ensures.answer (node_of s.replica s.next s.coordinator.kept s.prober s.outcomes.entries))

pub returns-in-DecisionFor-clause-kept : goal.returns-in-DecisionFor-clause-kept
returns-in-DecisionFor-clause-kept g c = let s = c.self-in-DecisionFor.inside in
    rw (c.in-DecisionFor.is, ← c.self-in-DecisionFor.view_is) (c.decide.ensures.kept (node_of s.replica s.next s.coordinator.kept s.prober s.outcomes.entries))

pub returns-in-Probe-clause-answer : goal.returns-in-Probe-clause-answer
returns-in-Probe-clause-answer g c = let s = c.self-in-Probe.inside in
    rw (c.in-Probe.is, ← c.self-in-Probe.view_is) (c.probe.ensures.answer (node_of s.replica s.next s.coordinator.kept s.prober s.outcomes.entries))

pub returns-in-Probe-clause-kept : goal.returns-in-Probe-clause-kept
returns-in-Probe-clause-kept g c = let s = c.self-in-Probe.inside in
    rw (c.in-Probe.is, ← c.self-in-Probe.view_is) (c.probe.ensures.kept (node_of s.replica s.next s.coordinator.kept s.prober s.outcomes.entries))

pub returns-in-Probe-clause-sends : goal.returns-in-Probe-clause-sends
returns-in-Probe-clause-sends g c = let s = c.self-in-Probe.inside in
    rw (c.in-Probe.is, ← c.self-in-Probe.view_is) (c.probe.ensures.sends (node_of s.replica s.next s.coordinator.kept s.prober s.outcomes.entries))

pub returns-in-NewConfig-clause-answer : goal.returns-in-NewConfig-clause-answer
returns-in-NewConfig-clause-answer g c = let s = c.self-in-NewConfig.inside in
    rw (c.in-NewConfig.is, ← c.self-in-NewConfig.view_is) (c.new_config.ensures.answer (node_of s.replica s.next s.coordinator.kept s.prober s.outcomes.entries))

pub returns-in-NewConfig-clause-kept : goal.returns-in-NewConfig-clause-kept
returns-in-NewConfig-clause-kept g c = let s = c.self-in-NewConfig.inside in
    rw (c.in-NewConfig.is, ← c.self-in-NewConfig.view_is) (c.new_config.ensures.kept (node_of s.replica s.next s.coordinator.kept s.prober s.outcomes.entries))

pub returns-in-NewConfig-clause-sends : goal.returns-in-NewConfig-clause-sends
returns-in-NewConfig-clause-sends g c = let s = c.self-in-NewConfig.inside in
    rw (c.in-NewConfig.is, ← c.self-in-NewConfig.view_is) (c.new_config.ensures.sends (node_of s.replica s.next s.coordinator.kept s.prober s.outcomes.entries))

pub returns-in-NewState-clause-answer : goal.returns-in-NewState-clause-answer
returns-in-NewState-clause-answer g c = let s = c.self-in-NewState.inside in
    rw (c.in-NewState.is, ← c.self-in-NewState.view_is) (c.new_state.ensures.answer (node_of s.replica s.next s.coordinator.kept s.prober s.outcomes.entries))

pub returns-in-NewState-clause-kept : goal.returns-in-NewState-clause-kept
returns-in-NewState-clause-kept g c = let s = c.self-in-NewState.inside in
    rw (c.in-NewState.is, ← c.self-in-NewState.view_is) (c.new_state.ensures.kept (node_of s.replica s.next s.coordinator.kept s.prober s.outcomes.entries))

pub returns-in-StatePiece-clause-answer : goal.returns-in-StatePiece-clause-answer
returns-in-StatePiece-clause-answer g c = let s = c.self-in-StatePiece.inside in
    rw (c.in-StatePiece.is, ← c.self-in-StatePiece.view_is) (c.state_piece.ensures.answer (node_of s.replica s.next s.coordinator.kept s.prober s.outcomes.entries))

pub returns-in-StatePiece-clause-kept : goal.returns-in-StatePiece-clause-kept
returns-in-StatePiece-clause-kept g c = let s = c.self-in-StatePiece.inside in
    rw (c.in-StatePiece.is, ← c.self-in-StatePiece.view_is) (c.state_piece.ensures.kept (node_of s.replica s.next s.coordinator.kept s.prober s.outcomes.entries))

-- ---- the prober

pub on_probe_ack-requires : goal.on_probe_ack-requires
on_probe_ack-requires g c =
    rw c.name-me.ensures (subst (λ (n : NodeRecord). n.name ≤ MAX_NODES) (sym c.self-in-ProbeAck.view_is) (name_fits c.args.self.now c.requires.kept))

-- ---- what is not noted, and not sent

pub returns-in-Prepare-clause-notes : goal.returns-in-Prepare-clause-notes
returns-in-Prepare-clause-notes g c = none_more _ _ _ (hear_silent _ _ c.args.self.now c.args.from c.args.message (rw c.in-Prepare.is refl))

pub returns-in-Accept-clause-notes : goal.returns-in-Accept-clause-notes
returns-in-Accept-clause-notes g c = none_more _ _ _ (hear_silent _ _ c.args.self.now c.args.from c.args.message (rw c.in-Accept.is refl))

pub returns-in-DecisionFor-clause-notes : goal.returns-in-DecisionFor-clause-notes
returns-in-DecisionFor-clause-notes g c = none_more _ _ _ (hear_silent _ _ c.args.self.now c.args.from c.args.message (rw c.in-DecisionFor.is refl))

pub returns-in-Probe-clause-notes : goal.returns-in-Probe-clause-notes
returns-in-Probe-clause-notes g c = none_more _ _ _ (hear_silent _ _ c.args.self.now c.args.from c.args.message (rw c.in-Probe.is refl))

pub returns-in-ProbeAck-clause-notes : goal.returns-in-ProbeAck-clause-notes
returns-in-ProbeAck-clause-notes g c = none_more _ _ _ (hear_silent _ _ c.args.self.now c.args.from c.args.message (rw c.in-ProbeAck.is refl))

pub returns-in-NewConfig-clause-notes : goal.returns-in-NewConfig-clause-notes
returns-in-NewConfig-clause-notes g c = none_more _ _ _ (hear_silent _ _ c.args.self.now c.args.from c.args.message (rw c.in-NewConfig.is refl))

pub returns-in-NewState-clause-notes : goal.returns-in-NewState-clause-notes
returns-in-NewState-clause-notes g c = none_more _ _ _ (hear_silent _ _ c.args.self.now c.args.from c.args.message (rw c.in-NewState.is refl))

pub returns-in-StatePiece-clause-notes : goal.returns-in-StatePiece-clause-notes
returns-in-StatePiece-clause-notes g c = none_more _ _ _ (hear_silent _ _ c.args.self.now c.args.from c.args.message (rw c.in-StatePiece.is refl))

pub returns-in-ConfigChange-clause-notes : goal.returns-in-ConfigChange-clause-notes
returns-in-ConfigChange-clause-notes g c = none_more _ _ _ (hear_silent _ _ c.args.self.now c.args.from c.args.message (rw c.in-ConfigChange.is refl))

pub returns-in-Stored-clause-notes : goal.returns-in-Stored-clause-notes
returns-in-Stored-clause-notes g c = none_more _ _ _ (hear_silent _ _ c.args.self.now c.args.from c.args.message (rw c.in-Stored.is refl))

pub returns-in-OutcomeOf-clause-notes : goal.returns-in-OutcomeOf-clause-notes
returns-in-OutcomeOf-clause-notes g c = none_more _ _ _ (hear_silent _ _ c.args.self.now c.args.from c.args.message (rw c.in-OutcomeOf.is refl))

pub returns-in-OutcomeOf-clause-sends : goal.returns-in-OutcomeOf-clause-sends
returns-in-OutcomeOf-clause-sends g c = rw c.in-OutcomeOf.is (none_more _ _ _ (outcome_unsent _ _ _))

pub returns-in-DecisionFor-clause-sends : goal.returns-in-DecisionFor-clause-sends
returns-in-DecisionFor-clause-sends g c = rw c.in-DecisionFor.is (none_more _ _ _ (decision_unsent _ _ _ _ _))

pub returns-in-NewState-clause-sends : goal.returns-in-NewState-clause-sends
returns-in-NewState-clause-sends g c = rw c.in-NewState.is (none_more _ _ _ (new_state_unsent _ _ _ _))

pub returns-in-StatePiece-clause-sends : goal.returns-in-StatePiece-clause-sends
returns-in-StatePiece-clause-sends g c = rw c.in-StatePiece.is (none_more _ _ _ (state_piece_unsent _ _ _ _ _))
