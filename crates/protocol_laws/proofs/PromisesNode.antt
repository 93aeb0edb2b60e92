-- Roles, membership and rows of a node after one event.
use Rattle.std.proofs.Common.{◌≡◌, ℕ, ◌≤◌, Bool, true, false, cond, not, List, Option, Some, None, inl, inr, sym, ◌∙◌, ap, subst, refl, arith, ◌==◌, nat_lt, IsTrue}
use Rattle.tcs_terms.specs.declared.inputs.Input.{Input}
use Rattle.tcs_terms.specs.declared.inputs.Input.TheVariants as inputs
use Rattle.tcs_terms.specs.declared.logs.Row.{Row}
use Rattle.tcs_terms.specs.declared.messages.Message.TheVariants.{Accept, NewConfig, NewState, StatePiece}
use Rattle.tcs_terms.specs.Logs.{AreRows}
use Rattle.tcs_terms.specs.Places.{Membership, is_among}
use Rattle.tcs_terms.specs.Preparations.{Preparation}
use Rattle.tcs_terms.specs.Setups.{Deployment}
use Rattle.tcs_laws.specs.Certification.{Tests}
use Rattle.tcs_terms.proofs.BoolLaws.{left_of}
use Rattle.protocol.specs.Log.{row_of, mark_of}
use Rattle.protocol.specs.Outcomes.{Out}
use Rattle.protocol.specs.Pieces.{rows_of, gathered_from}
use Rattle.protocol.specs.Records.{Role, Gathering, NodeRecord}
use Rattle.protocol.specs.Records.Role.{Fenced, Leader, Follower}
use Rattle.protocol.specs.Views.{is_follower}
use Rattle.protocol.specs.Invariant.Configurations.{HasMembers}
use Rattle.protocol.specs.Invariant.Promises.{FitsRole, IsMemberAt}
use Rattle.protocol.specs.Invariant.Time.{Moment, StandsIn, IsStored}
use Rattle.protocol.proofs.Lists.{among-StandsIn}
use Rattle.protocol_laws.specs.Effect.{MayFollow, Effect}
use Rattle.protocol_laws.specs.Effect.Effect.{Rests, Appends, Accepts, Marks, Promises, Leads, Follows, Gathers, FollowsPieces}
use Rattle.protocol_laws.proofs.ConfigurationsHad.{Heard}
use Rattle.protocol_laws.proofs.PromisesOrder.{slot_fits}
use Rattle.protocol_laws.proofs.PromisesRows.{appended-rows, accepted-rows, same_entries-rows}
use Rattle.protocol_laws.proofs.PromisesPieces.{gathered-rows}
use Rattle.protocol_laws.proofs.EntriesKept.{entries_of-marked}

-- the role of a node fits another one of the same name, shard, state epoch and promise
fits_as : (a b : NodeRecord) (role : Role) → b.name ≡ a.name → b.shard ≡ a.shard → b.state ≡ a.state → b.promised ≡ a.promised → FitsRole a role → FitsRole b role
fits_as a b Fenced n s e p (inl h) = inl (omega (arith, e, p, h))
fits_as a b Fenced n s e p (inr h) = inr (e ∙ h.0, p ∙ h.1)
fits_as a b (Leader c) n s e p h = (record { shard = h.0.shard ∙ sym s; epoch = h.0.epoch ∙ sym e; promise = p ∙ h.0.promise ∙ sym e }, h.1 ∙ sym n)
fits_as a b (Follower c) n s e p h = (record { shard = h.0.shard ∙ sym s; epoch = h.0.epoch ∙ sym e; promise = p ∙ h.0.promise ∙ sym e }, subst (λ m. IsTrue (is_follower c m)) (sym n) h.1)

follows-fits : (node kept : NodeRecord) (c : Membership) → MayFollow node c → kept.name ≡ node.name → kept.shard ≡ node.shard → kept.state ≡ c.epoch → kept.promised ≡ c.epoch → FitsRole kept (Follower c)
follows-fits node kept c m n s e p = (record { shard = m.shard ∙ sym s; epoch = sym e; promise = p ∙ sym e }, subst (λ k. IsTrue (is_follower c k)) (sym n) m.follower)

-- the role fits
pub role_fits : (tests : Tests) (version : ℕ) (node : NodeRecord) (input : Input) (out : Out NodeRecord) → Effect tests version node input out → FitsRole node node.role → FitsRole out.kept out.kept.role
role_fits tests version node input out (Rests i answer notices n) k = fits_as node _ node.role refl refl refl refl k
role_fits tests version node input out (Promises from epoch l) k = inl (omega (arith, l))
role_fits tests version node input out (Leads from config q r p l) k = (record { shard = q; epoch = refl; promise = p }, l)
role_fits tests version node input out (Follows from config rows v m) k = follows-fits node _ config m refl refl refl refl
role_fits tests version node input out (FollowsPieces from config number pieces rows gathering v m t g w) k = follows-fits node _ config m refl refl refl refl
role_fits tests version node input out _ k = fits_as node _ node.role refl refl refl refl k

pub member_as : (t u : Moment) (a b : NodeRecord) → ((c : Membership) → IsStored t c → IsStored u c) → b.name ≡ a.name → b.shard ≡ a.shard → b.state ≡ a.state → IsMemberAt t a → IsMemberAt u b
member_as t u a b on n s e m = record { config = m.config; stored = on m.config m.stored; shard = m.shard ∙ sym s; epoch = m.epoch ∙ sym e; member = subst (λ k. StandsIn k m.config.members) (sym n) m.member }

-- who follows a stored configuration is a member of it
follows-member : (u : Moment) (node kept : NodeRecord) (c : Membership) → IsStored u c → MayFollow node c → kept.name ≡ node.name → kept.shard ≡ node.shard → kept.state ≡ c.epoch → IsMemberAt u kept
follows-member u node kept c k m n s e = record {
  config = c;
  stored = k;
  shard = m.shard ∙ sym s;
  epoch = sym e;
  member = subst (λ x. StandsIn x c.members) (sym n) (among-StandsIn c.members node.name (left_of (is_among c.members node.name) (not (node.name == c.leader)) m.follower));
}

-- who leads one is
leads-member : (setup : Deployment) (node : NodeRecord) (c : Membership) → HasMembers setup c → c.leader ≡ node.name → StandsIn node.name c.members
leads-member setup node c h e = subst (λ x. StandsIn x c.members) e (among-StandsIn c.members c.leader h.leader)

-- the node is a member at its state epoch
pub member_kept : (setup : Deployment) (t u : Moment) (tests : Tests) (version : ℕ) (node : NodeRecord) (input : Input) (out : Out NodeRecord) → Effect tests version node input out
    → ((c : Membership) → IsStored t c → IsStored u c) → ((c : Membership) → Heard input c → IsStored u c × HasMembers setup c) → (1 ≤ node.state → IsMemberAt t node) → 1 ≤ out.kept.state → IsMemberAt u out.kept
member_kept setup old new tests version node input out (Rests i answer notices n) on known k some = member_as old new node _ on refl refl refl (k some)
member_kept setup old new tests version node input out (Leads from config q r p l) on known k some = let c : IsStored new config × HasMembers setup config = known config (record { from = from; message = NewConfig config; is = refl; told = refl }) in record { config = config; stored = c.0; shard = q; epoch = refl; member = leads-member setup node config c.1 l }
member_kept setup old new tests version node input out (Follows from config rows v m) on known k some = follows-member new node _ config (known config (record { from = from; message = NewState config rows; is = refl; told = refl })).0 m refl refl refl
member_kept setup old new tests version node input out (FollowsPieces from config number pieces rows gathering v m t g w) on known k some = follows-member new node _ config (known config (record { from = from; message = StatePiece config number pieces rows; is = refl; told = refl })).0 m refl refl refl
member_kept setup old new tests version node input out _ on known k some = member_as old new node _ on refl refl refl (k some)

-- what the input brings may stand in a log
pub record BringsRows (input : Input) : Type 0 where
  pub state : (from : ℕ) (c : Membership) (rows : List Row) → input ≡ inputs.Deliver from (NewState c rows) → AreRows rows
  pub piece : (from number pieces : ℕ) (c : Membership) (rows : List Row) → input ≡ inputs.Deliver from (StatePiece c number pieces rows) → AreRows rows
  pub accept : (from epoch : ℕ) (x : Preparation) → input ≡ inputs.Deliver from (Accept epoch x) → slot_fits x ≡ true

-- the rows that a node gathers may stand in a log
abbrev pub GathersRows : NodeRecord → Type 0
GathersRows node = (g : Gathering) → node.gathering ≡ Some g → AreRows (rows_of g.kept)

-- the rows may stand in a log
pub rows_kept : (tests : Tests) (version : ℕ) (node : NodeRecord) (input : Input) (out : Out NodeRecord) → Effect tests version node input out → BringsRows input → GathersRows node → AreRows node.rows → AreRows out.kept.rows
rows_kept tests version node input out (Rests i answer notices n) b k x = x
rows_kept tests version node input out (Appends from epoch txn shards part l e a r f entry n) b k x = appended-rows node.rows entry x (subst (λ y. row_of node.rows y ≡ None) (sym (ap (λ y. y.txn) n)) r) f (ap (λ y. y.slot) n)
rows_kept tests version node input out (Accepts from epoch entry f e t) b k x = accepted-rows node.rows entry x t (b.accept from epoch entry refl)
rows_kept tests version node input out (Marks from epoch slot txn commit e h) b k x = same_entries-rows node.rows _ (sym (entries_of-marked node.rows slot (mark_of commit))) x
rows_kept tests version node input out (Follows from config rows v m) b k x = b.state from config rows refl
rows_kept tests version node input out (FollowsPieces from config number pieces rows gathering v m t g w) b k x = subst (λ y. AreRows (rows_of y.kept)) (sym g) (gathered-rows node.gathering config pieces (record { number = number; rows = rows }) t (b.piece from number pieces config rows refl) k)
rows_kept tests version node input out _ b k x = x

pub gathered_from-is : (epoch : ℕ) (g : Option Gathering) (kept : Gathering) → gathered_from epoch g ≡ Some kept → g ≡ Some kept
gathered_from-is epoch None kept e = e
gathered_from-is epoch (Some g) kept e = go (nat_lt g.config.epoch epoch) e
  where
    go : (b : Bool) → cond b None (Some g) ≡ Some kept → Some g ≡ Some kept
    go true h = absurd (cc h)
    go false h = h

some-is : (a b : Gathering) → Some a ≡ Some b → a ≡ b
some-is a b e = cc e

pub gathered_kept : (tests : Tests) (version : ℕ) (node : NodeRecord) (input : Input) (out : Out NodeRecord) → Effect tests version node input out → BringsRows input → GathersRows node → GathersRows out.kept
gathered_kept tests version node input out (Rests i answer notices n) b k s is = k s is
gathered_kept tests version node input out (Promises from epoch l) b k s is = k s (gathered_from-is epoch node.gathering s is)
gathered_kept tests version node input out (Follows from config rows v m) b k s is = k s (gathered_from-is config.epoch node.gathering s is)
gathered_kept tests version node input out (Gathers from config number pieces rows gathering v m t g w) b k s is = subst (λ y. AreRows (rows_of y.kept)) (sym g ∙ some-is gathering s is) (gathered-rows node.gathering config pieces (record { number = number; rows = rows }) t (b.piece from number pieces config rows refl) k)
gathered_kept tests version node input out (FollowsPieces from config number pieces rows gathering v m t g w) b k s is = absurd (cc is)
gathered_kept tests version node input out _ b k s is = k s is
