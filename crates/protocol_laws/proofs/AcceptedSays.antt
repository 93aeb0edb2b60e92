-- What an accepted entry says of its transaction is so, and how a listed entry was appended.
use Rattle.std.proofs.Common.{◌≡◌, ℕ, ◌-◌, true, List, [], ◌∷◌, ◌++◌, ◌==◌, map, length, slice_index, inl, inr, sym, ◌∙◌, ap, subst, refl, eqb-true}
use Rattle.tcs_terms.specs.Places.{Membership}
use Rattle.tcs_terms.specs.Preparations.{Preparation}
use Rattle.tcs_terms.specs.Setups.{Deployment, has_node, is_node_of}
use Rattle.tcs_laws.specs.Certification.{Tests}
use Rattle.protocol.specs.Invariant.{InvariantHolds}
use Rattle.protocol.specs.Invariant.Configurations.{HasMembers}
use Rattle.protocol.specs.Invariant.Logs.{Held, Accepted}
use Rattle.protocol.specs.Invariant.Time.{Moment, worlds, StandsIn}
use Rattle.protocol.specs.Records.{NodeRecord}
use Rattle.protocol.specs.World.{World}
use Rattle.protocol.proofs.Lists.{all-StandsIn}
use Rattle.protocol_laws.proofs.Numbered.{numbered-index}
use Rattle.protocol_laws.proofs.PastKept.{EntrySays, WorldHolds, PastHolds}
use Rattle.protocol_laws.proofs.Standing.{IsMapped, map-StandsIn, StandsIn-right}
use Rattle.protocol_laws.proofs.Stored.{leads_member}
use Rattle.tcs_terms.proofs.BoolLaws.{right_of}

-- a node of a past world is of the shard that the setup says
past_shard : (setup : Deployment) (t : Moment) (w : World) (node : NodeRecord) (shard : ℕ) → PastHolds setup t → StandsIn w (worlds t) → StandsIn node w.nodes → is_node_of setup.nodes shard node.name ≡ true → node.shard ≡ shard
past_shard setup t w node shard p past there of =
    let h : WorldHolds setup t w = p.each w past in
    let at : slice_index (map (λ n. n.shard) w.nodes) (node.name - 1) ≡ node.shard = numbered-index (λ n. n.name) (λ n. n.shard) w.nodes 1 (length setup.nodes) node h.names there in
    let is : slice_index setup.nodes (node.name - 1) ≡ shard = eqb-true (slice_index setup.nodes (node.name - 1)) shard (right_of (has_node setup.nodes node.name) (slice_index setup.nodes (node.name - 1) == shard) of) in
    sym at ∙ ap (λ ns. slice_index ns (node.name - 1)) h.shards ∙ is

pub accepted-says : (tests : Tests) (setup : Deployment) (t : Moment) (c : Membership) (x : Preparation) → InvariantHolds tests setup t → PastHolds setup t → Accepted t c x → EntrySays setup.shards t c.shard x
accepted-says tests setup t c x i p a =
    let member : StandsIn c.leader c.members = leads_member setup t i.configurations c a.stored in
    let held : Held t c.epoch c.leader x = a.held c.leader member in
    let m : HasMembers setup c = i.configurations.members c a.stored in
    let of : is_node_of setup.nodes c.shard c.leader ≡ true = all-StandsIn (is_node_of setup.nodes c.shard) c.members c.leader m.nodes member in
    let row : IsMapped (λ r. r.entry) held.node.rows x = map-StandsIn (λ r. r.entry) held.node.rows x held.holds in
    let h : WorldHolds setup t held.was.moment = p.each held.was.moment held.was.past in
    let shard : held.node.shard ≡ c.shard = past_shard setup t held.was.moment held.node c.shard p held.was.past held.was.there (subst (λ n. is_node_of setup.nodes c.shard n ≡ true) (sym held.was.named) of) in
    subst (λ y. EntrySays setup.shards t c.shard y) (sym row.is)
    (subst (λ s. EntrySays setup.shards t s row.from.entry) shard (h.rows held.node row.from held.was.there row.there))

-- of two worlds that follow each other, the first is of the past
pub before-past : (now after before : World) (past later earlier : List World) → now ∷ past ≡ later ++ (after ∷ before ∷ earlier) → StandsIn before past
before-past now after before past [] earlier h = let e : past ≡ before ∷ earlier = cc h in subst (λ ws. StandsIn before ws) (sym e) (inl refl)
before-past now after before past (x ∷ later) earlier h =
    let e : past ≡ later ++ (after ∷ before ∷ earlier) = cc h in
    subst (λ ws. StandsIn before ws) (sym e) (StandsIn-right later (after ∷ before ∷ earlier) before (inr (inl refl)))
