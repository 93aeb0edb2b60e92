-- Accepted entries of one shard stand in one list, and a transaction has one accepted entry in a shard.
use Rattle.std.proofs.Common.{◌≡◌, ℕ, ◌<◌, sym, ◌∙◌, subst, refl, arith, Bool, true, false, nat_lt, ltb-true, ltb-false}
use Rattle.tcs_terms.specs.declared.ids.TxId.{TxId}
use Rattle.tcs_terms.specs.Places.{Membership}
use Rattle.tcs_terms.specs.Preparations.{Preparation}
use Rattle.tcs_terms.specs.Setups.{Deployment}
use Rattle.tcs_laws.specs.Certification.{Tests}
use Rattle.protocol.specs.Invariant.{InvariantHolds}
use Rattle.protocol.specs.Invariant.Decisions.{IsAcceptedIn}
use Rattle.protocol.specs.Invariant.Logs.{Reached, Held, HasInitial, Listed, Accepted}
use Rattle.protocol.specs.Invariant.Time.{Moment, StandsIn}
use Rattle.protocol.specs.Invariant.Transfer.{IsHandedOn}
use Rattle.protocol_laws.proofs.Stored.{one_config, leads_member}

-- who held something in an epoch reached it
held-reached : (t : Moment) (epoch name : ℕ) (x : Preparation) → Held t epoch name x → Reached t epoch name
held-reached t epoch name x h = record { node = h.node; was = h.was; some = h.some }

-- an accepted entry is listed
pub accepted-listed : (tests : Tests) (setup : Deployment) (t : Moment) (c : Membership) (x : Preparation) → InvariantHolds tests setup t → Accepted t c x → Listed t c x
accepted-listed tests setup t c x i a =
    let held : Held t c.epoch c.leader x = a.held c.leader (leads_member setup t i.configurations c a.stored) in
    record { initial = i.transfer.led c a.stored (held-reached t c.epoch c.leader x held); held = held }

-- an accepted entry is listed in every later configuration that has a list
accepted-later : (tests : Tests) (setup : Deployment) (t : Moment) (c d : Membership) (x : Preparation) → InvariantHolds tests setup t → Accepted t c x → HasInitial t d → c.shard ≡ d.shard → c.epoch < d.epoch → Listed t d x
accepted-later tests setup t c d x i a h s l =
    let on : IsHandedOn t c h.0 = i.transfer.handed_on d c h.0 h.1 a.stored s l in
    let initial : StandsIn x h.0 = on.inside x (a.held on.node.name on.member) in
    let reached : Reached t d.epoch d.leader = i.transfer.leader_reached d h in
    record { initial = h; held = i.transfer.at_least d d.leader h.0 x h.1 (leads_member setup t i.configurations d h.1.stored) reached initial }

-- two entries that stand in the list of one configuration of the shard
pub record AreInOneList (t : Moment) (shard : ℕ) (x y : Preparation) : Type 0 where
  pub config : Membership
  pub of_shard : config.shard ≡ shard
  pub first : Listed t config x
  pub second : Listed t config y

-- two accepted entries of one shard stand in the list of the later configuration
pub common_list : (tests : Tests) (setup : Deployment) (t : Moment) (c d : Membership) (x y : Preparation) → InvariantHolds tests setup t → Accepted t c x → Accepted t d y → c.shard ≡ d.shard → AreInOneList t c.shard x y
common_list tests setup t c d x y i a b s = go (nat_lt c.epoch d.epoch) (nat_lt d.epoch c.epoch) refl refl
  where
    listed : Listed t c x
    listed = accepted-listed tests setup t c x i a

    other : Listed t d y
    other = accepted-listed tests setup t d y i b

    go : (p q : Bool) → nat_lt c.epoch d.epoch ≡ p → nat_lt d.epoch c.epoch ≡ q → AreInOneList t c.shard x y
    go true q e f = record { config = d; of_shard = sym s; first = accepted-later tests setup t c d x i a other.initial s (ltb-true c.epoch d.epoch e); second = other }
    go false true e f = record { config = c; of_shard = refl; first = listed; second = accepted-later tests setup t d c y i b listed.initial (sym s) (ltb-true d.epoch c.epoch f) }
    go false false e f =
        let same : c ≡ d = one_config setup t c d i.configurations a.stored b.stored s (omega (arith, ltb-false c.epoch d.epoch e, ltb-false d.epoch c.epoch f)) in
        record { config = d; of_shard = sym s; first = subst (λ k. Listed t k x) same listed; second = other }

-- two accepted entries of one transaction in one shard are one
pub one_entry : (tests : Tests) (setup : Deployment) (t : Moment) (txn : TxId) (shard : ℕ) (x y : Preparation) → InvariantHolds tests setup t → IsAcceptedIn t txn shard x → IsAcceptedIn t txn shard y → x ≡ y
one_entry tests setup t txn shard x y i a b =
    let l : AreInOneList t a.config.shard x y = common_list tests setup t a.config b.config x y i a.accepted b.accepted (a.of_shard ∙ sym b.of_shard) in
    i.entries.txns l.config x y l.first l.second (a.of_txn ∙ sym b.of_txn)
