use Rattle.std.proofs.Common.{◌≡◌, ℕ, ◌-◌, ◌<◌, ◌≤◌, ◌++◌, List, Result, Ok, Err, IfOk, Some, length, get_or, set, map, ap, ◌∙◌, arith}
use Rattle.std.specs.Prelude.{OnOk}
use Rattle.std.proofs.lemmas.List.{map-set, length-map}
use Rattle.tcs_terms.specs.Versions.{version_number}
use Rattle.protocol.specs.Records.{NodeRecord}
use Rattle.protocol.specs.Table.{step}
use Rattle.node_core.specs.State.{NodeState}
use Rattle.world.specs.Casts.{Peers, peer_of}
use Rattle.world.proofs.PeerLaws.{Kept, peer_found, each-at, with_peer}
use Rattle.world.proofs.peers.Peers.step.Given.{Over}
use Rattle.world.proofs.peers.Peers.step.Goals as goal

on_ok : {T E P Q : Type 0} (r : Result T E) → OnOk r P → (P → Q) → OnOk r Q
on_ok (Ok x) p f = f p
on_ok (Err e) p f = p

found : (g : Over) (c : goal.After-self-1 g) (node : NodeRecord) → peer_of c.args.self.now c.args.name ≡ Some node → Kept (version_number c.self.inside.version) c.index_mut.result.now node
found g c node e =
    peer_found (version_number c.self.inside.version) c.self.inside.nodes.items (c.args.name - 1) c.index_mut.result.now node c.self.invariant (rw (← c.self.view_is) at e)
    (c.index_mut.ensures.value ∙ ap (λ (i : ℕ). get_or c.self.inside.nodes.items (i - 1) c.index_mut.result.now) c.from.ensures)

if_ok : {T E : Type 0} {P Q : T → Type 0} (r : Result T E) → IfOk r P → ((x : T) → P x → Q x) → IfOk r Q
if_ok (Ok x) p f = f x p
if_ok (Err e) p f = p

pub invariant_of-self : goal.invariant_of-self
invariant_of-self g c =
    let nodes = c.self.inside.nodes.items in
    let version = version_number c.self.inside.version in
    let last : c.args.name ≤ length (map (λ (n : NodeState). n.kept) nodes) = rw (← c.self.view_is) at c.requires.to_last in
    let within : c.from.result - 1 < length nodes = omega (arith, last, length-map nodes (λ (n : NodeState). n.kept), c.from.ensures, c.requires.from_one) in
    with_peer version nodes (c.from.result - 1) c.step.new.self c.self.invariant
    (c.step.ensures.version ∙ ap (λ (n : NodeState). n.version) c.index_mut.ensures.value
    ∙ each-at (λ (n : NodeState). n.version ≡ version) nodes (c.from.result - 1) c.index_mut.result.now c.self.invariant.versions within)

pub returns-clause-answer : goal.returns-clause-answer
returns-clause-answer g c = λ node e.
    let k = found g c node e in
    let x = c.index_mut.result.now in
    let version = version_number c.self.inside.version in
    rw (← c.self.view_is) (if_ok c.step.result c.step.ensures.answer (λ h p.
    p ∙ ap (λ (v : ℕ). (step g.G.Rule.Certifier.tests v x.kept c.args.input).answer) k.version_is
    ∙ ap (λ (n : NodeRecord). (step g.G.Rule.Certifier.tests version n c.args.input).answer) k.record_is))

pub returns-clause-kept : goal.returns-clause-kept
returns-clause-kept g c = λ node e.
    let k = found g c node e in
    let f = λ (n : NodeState). n.kept in
    let x = c.index_mut.result.now in
    let nodes = c.self.inside.nodes.items in
    let version = version_number c.self.inside.version in
    let i = c.args.name - 1 in
    rw (← c.self.view_is) (on_ok c.step.result c.step.ensures.kept (λ p.
    ap (λ (ns : List NodeRecord). let q : Peers = record { version = version; nodes = ns } in q)
    (ap (λ (j : ℕ). map f (set nodes (j - 1) c.step.new.self)) c.from.ensures
    ∙ map-set f nodes i c.step.new.self
    ∙ ap (λ (n : NodeRecord). set (map f nodes) i n)
    (p ∙ ap (λ (v : ℕ). (step g.G.Rule.Certifier.tests v x.kept c.args.input).kept) k.version_is
    ∙ ap (λ (n : NodeRecord). (step g.G.Rule.Certifier.tests version n c.args.input).kept) k.record_is))))

pub returns-clause-sends : goal.returns-clause-sends
returns-clause-sends g c = λ node e.
    let k = found g c node e in
    let x = c.index_mut.result.now in
    rw (← c.self.view_is) (on_ok c.step.result c.step.ensures.sends (λ p.
    p ∙ ap (λ (v : ℕ). c.args.out.now.items ++ (step g.G.Rule.Certifier.tests v x.kept c.args.input).sends) k.version_is
    ∙ ap (λ (n : NodeRecord). c.args.out.now.items ++ (step g.G.Rule.Certifier.tests (version_number c.self.inside.version) n c.args.input).sends) k.record_is))

pub returns-clause-notes : goal.returns-clause-notes
returns-clause-notes g c = λ node e.
    let k = found g c node e in
    let x = c.index_mut.result.now in
    rw (← c.self.view_is) (on_ok c.step.result c.step.ensures.notes (λ p.
    p ∙ ap (λ (v : ℕ). c.args.notes.now.items ++ (step g.G.Rule.Certifier.tests v x.kept c.args.input).notes) k.version_is
    ∙ ap (λ (n : NodeRecord). c.args.notes.now.items ++ (step g.G.Rule.Certifier.tests (version_number c.self.inside.version) n c.args.input).notes) k.record_is))
