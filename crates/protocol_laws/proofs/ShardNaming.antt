-- Whatever is prepared in a shard is of a transaction that has the shard.
use Rattle.std.proofs.Common.{◌≡◌, ℕ, Bool, true, false, cond, ◌==◌, List, [], ◌∷◌, filter, length, Option, Some, None, is_some, option_and_then, inl, inr, sym, ◌∙◌, ap, subst, refl, eqb-true}
use Rattle.tcs_terms.specs.declared.ids.TxId.{TxId}
use Rattle.tcs_terms.specs.declared.inputs.Event.{Event}
use Rattle.tcs_terms.specs.declared.inputs.Input.{Input}
use Rattle.tcs_terms.specs.declared.inputs.Input.TheVariants as inputs
use Rattle.tcs_terms.specs.declared.logs.Row.{Row}
use Rattle.tcs_terms.specs.declared.messages.Message.{Message}
use Rattle.tcs_terms.specs.declared.messages.Message.TheVariants.{Prepare, PrepareAck, Accept, ConfigChange, NewState, Stored, StatePiece}
use Rattle.tcs_terms.specs.declared.messages.Outgoing.{Outgoing}
use Rattle.tcs_terms.specs.Logs.{same_txn}
use Rattle.tcs_terms.specs.Payloads.{Accesses}
use Rattle.tcs_terms.specs.Places.{Membership, is_among}
use Rattle.tcs_terms.specs.Preparations.{Preparation}
use Rattle.tcs_terms.specs.Setups.{Deployment}
use Rattle.tcs_terms.specs.Shards.{restricted, shards_of}
use Rattle.tcs_laws.specs.Certification.{Tests}
use Rattle.protocol.specs.Cases.{asked, new_case, part_of, accept, send_part, send_case, decision_of}
use Rattle.protocol.specs.ClientRules.{next_txn}
use Rattle.protocol.specs.Coordination.{begins, with_part, voted, acknowledged, first_entry, resend, ask_leader, ask_again, change_view, has_part}
use Rattle.protocol.specs.Log.{undecided}
use Rattle.protocol.specs.Outcomes.{Out, to}
use Rattle.protocol.specs.Pieces.{is_kept, with_piece, with_one_more, begun, is_gathering_of, gathering_for}
use Rattle.protocol.specs.Probing.{ask_stage}
use Rattle.protocol.specs.Records.{Part, Case, Coordinator, Gathering, Piece, NodeRecord}
use Rattle.protocol.specs.Run.{run}
use Rattle.protocol.specs.Views.{view_of, followers}
use Rattle.protocol.specs.World.{Happening, first_node, first_world}
use Rattle.protocol.specs.Invariant.Configurations.{ConfigurationsHold}
use Rattle.protocol.specs.Invariant.Time.{Moment, goes_to, time_after, StandsIn, IsNode, IsStored, WasSent}
use Rattle.protocol.proofs.FirstNodes.{IsFirst, first_nodes-IsFirst}
use Rattle.protocol.proofs.Lists.{StandsIn-append, find-StandsIn}
use Rattle.protocol.proofs.Moments.{time_after-now}
use Rattle.protocol_laws.specs.Effect.{GoesOn, OpenPart, Sees, Effect}
use Rattle.protocol_laws.specs.Effect.Effect.{Rests, Certifies, TakesOver, Nudges, Moves, Lowers, Asks, AnswersAgain, Appends, Votes, Acknowledges, Changes, Learns, Accepts, Marks, Promises, Chooses, Leads, Follows, Gathers, FollowsPieces}
use Rattle.protocol_laws.specs.Effect.GoesOn.{Waiting, Decides}
use Rattle.protocol_laws.specs.Effect.Sees.{Replaces, Keeps as KeepsView}
use Rattle.protocol_laws.specs.NamedShards.{IsOfShard, AreOfShard, NamesShard, IsPartOfCase, ShardsAreNamed}
use Rattle.tcs_terms.specs.Runs.{AreEventsOf}
use Rattle.protocol_laws.specs.Turn.{Turn, GrewFrom}
use Rattle.protocol_laws.proofs.ByTransaction.{set_value-StandsIn, remove_entry-StandsIn, lookup-StandsIn}
use Rattle.protocol_laws.proofs.Came.{effect_shard, node_back, message_back, Acting}
use Rattle.protocol_laws.proofs.CaseParts.{IsPartOf, part_is, put-StandsIn}
use Rattle.protocol_laws.proofs.ConfigurationsInputs.{delivered}
use Rattle.protocol_laws.proofs.LogRows.{accepted_came}
use Rattle.protocol_laws.proofs.OnwardOf.{onward_of}
use Rattle.protocol_laws.proofs.PromisesNode.{gathered_from-is}
use Rattle.protocol_laws.proofs.RunInduction.{run_induction}
use Rattle.protocol_laws.proofs.Sends.{Each, each-none, each-one, each-both, each-flat_map, each-prepare, each-part, each-accept, each-sees, each-goes_on, each-decision, each-stage, each-hears, each-state, each-notice}
use Rattle.protocol_laws.proofs.ServiceSays.{ServiceSays}
use Rattle.protocol_laws.proofs.ServiceSays.ServiceSays.{TellsStored, TellsChange, Refuses}
use Rattle.protocol_laws.proofs.Standing.{StandsIn-among, IsMapped, map-StandsIn, IsPiece, flat_map-StandsIn, filter-StandsIn}
use Rattle.protocol_laws.proofs.Stored.{member_shard, leads_member, follower_member}
use Rattle.protocol_laws.proofs.TransactionsRows.{marked_came, PieceCame, piece_came}
use Rattle.protocol_laws.proofs.TransactionsRows.PieceCame.{IsNewPiece, IsOldPiece}
use Rattle.protocol_laws.proofs.TransferPieces.{piece_row, same_config-is}
use Rattle.protocol_laws.proofs.ViewsStored.{IsView, view_is}

abbrev AreParts : Case → Type 0
AreParts case = (p : Part) → StandsIn p case.parts → IsPartOfCase case.shards p

abbrev AreCases : Coordinator → Type 0
AreCases c = (txn : TxId) (case : Case) → StandsIn (txn, case) c.cases → AreParts case

-- ---- cases

asked-named : (shards : List ℕ) (shard : ℕ) → is_among shards shard ≡ true → IsPartOfCase shards (asked shard)
asked-named shards shard h = record { shard = h; entry = λ x e. absurd (cc e) }

new_case-named : (shards : List ℕ) (payload : Option Accesses) → AreParts (new_case shards payload)
new_case-named shards payload p s = let m : IsMapped asked shards p = map-StandsIn asked shards p s in subst (IsPartOfCase shards) (sym m.is) (asked-named shards m.from (StandsIn-among shards m.from m.there))

begins-named : (c : Coordinator) (txn : TxId) (case : Case) → AreCases c → AreParts case → AreCases (begins c txn case)
begins-named c txn case k new t x s = elim (StandsIn-append c.cases ((txn, case) ∷ []) (t, x) s) [
  | inl old ↦ k t x old
  | inr (inl e) ↦ subst (λ (y : TxId × Case). AreParts y.1) (sym e) new
  | inr (inr n) ↦ absurd n
]

goes_on-named : (c : Coordinator) (txn : TxId) (case : Case) (sends : List Outgoing) (out : Out Coordinator) → GoesOn c txn case sends out → AreCases c → AreParts case → AreCases out.kept
goes_on-named c txn case sends _ (Waiting w) k new t x s = elim (set_value-StandsIn txn c.cases case (t, x) s) [ inl old ↦ k t x old | inr e ↦ subst (λ (y : TxId × Case). AreParts y.1) (sym e) new ]
goes_on-named c txn case sends _ (Decides d) k new t x s = k t x (remove_entry-StandsIn txn c.cases (t, x) s)

with_part-named : (case : Case) (part : Part) → AreParts case → IsPartOfCase case.shards part → AreParts (with_part case part)
with_part-named case part k new p s = elim (put-StandsIn part case.parts p s) [ inl old ↦ k p old | inr e ↦ subst (IsPartOfCase case.shards) (sym e) new ]

-- the part that an answer is about
opened-part : (c : Coordinator) (txn : TxId) (shard : ℕ) (case : Case) (part : Part) (view : Membership) → AreCases c → OpenPart c txn shard case part view → AreParts case × IsPartOfCase case.shards part × (part.shard ≡ shard)
opened-part c txn shard case part view k o =
    let is : IsPartOf case.parts shard part = part_is case.parts shard part o.has in
    let parts : AreParts case = k txn case (lookup-StandsIn txn c.cases case o.opened) in
    (parts, parts part is.among, is.of_shard)

first-named : (kept : Option Preparation) (entry : Preparation) (shard : ℕ) → ((x : Preparation) → kept ≡ Some x → IsOfShard shard x) → IsOfShard shard entry → IsOfShard shard (first_entry kept entry)
first-named None entry shard k new = new
first-named (Some x) entry shard k new = k x refl

some-entry : (a b : Preparation) → Some a ≡ Some b → a ≡ b
some-entry a b e = cc e

voted-named : (case : Case) (part : Part) (entry : Preparation) → AreParts case → IsPartOfCase case.shards part → IsOfShard part.shard entry → AreParts (with_part case (voted part entry))
voted-named case part entry k p new = with_part-named case (voted part entry) k (record {
  shard = p.shard;
  entry = λ x e. subst (IsOfShard part.shard) (some-entry (first_entry part.entry entry) x e) (first-named part.entry entry part.shard p.entry new);
})

acknowledged-named : (case : Case) (part : Part) (from : ℕ) → AreParts case → IsPartOfCase case.shards part → AreParts (with_part case (acknowledged part from))
acknowledged-named case part from k p = with_part-named case (acknowledged part from) k (record { shard = p.shard; entry = p.entry })

ask_again-named : (shard : ℕ) (case : Case) → AreParts case → AreParts (ask_again shard case)
ask_again-named shard case k p s = go m.from (m.from.shard == shard) refl m.there m.is
  where
    m : IsMapped (λ (q : Part). cond (q.shard == shard) (asked shard) q) case.parts p
    m = map-StandsIn (λ (q : Part). cond (q.shard == shard) (asked shard) q) case.parts p s

    go : (q : Part) (b : Bool) → (q.shard == shard) ≡ b → StandsIn q case.parts → p ≡ cond b (asked shard) q → IsPartOfCase case.shards p
    go q true e t is = subst (IsPartOfCase case.shards) (sym is) (asked-named case.shards shard (subst (λ n. is_among case.shards n ≡ true) (eqb-true q.shard shard e) (k q t).shard))
    go q false e t is = subst (IsPartOfCase case.shards) (sym is) (k q t)

change_view-named : (c : Coordinator) (config : Membership) → AreCases c → AreCases (change_view c config)
unfolding change_view
change_view-named c config k t x s =
    let m : IsMapped (λ (e : TxId × Case). (e.0, ask_again config.shard e.1)) c.cases (t, x) = map-StandsIn (λ (e : TxId × Case). (e.0, ask_again config.shard e.1)) c.cases (t, x) s in
    subst (λ (y : TxId × Case). AreParts y.1) (sym m.is) (ask_again-named config.shard m.from.1 (k m.from.0 m.from.1 m.there))

-- ---- what a node knows when it acts

record Knows (setup : Deployment) (t : Moment) (node : NodeRecord) (input : Input) : Type 0 where
  configurations : ConfigurationsHold setup t
  is : IsNode t node
  rows : AreOfShard node.shard node.rows
  gathered : (g : Gathering) (p : Piece) → node.gathering ≡ Some g → StandsIn p g.kept → AreOfShard g.config.shard p.rows
  cases : AreCases node.coordinator
  stored : (from : ℕ) (c : Membership) → (input ≡ inputs.Deliver from (ConfigChange c) → IsStored t c) × (input ≡ inputs.Deliver from (Stored c) → IsStored t c)
  message : (from : ℕ) (m : Message) → input ≡ inputs.Deliver from m → NamesShard node.shard m

-- a message to a node says what is of its shard
abbrev Named : Moment → Outgoing → Type 0
Named t o = (n : NodeRecord) → IsNode t n → n.name ≡ o.to → NamesShard n.shard o.message

leader-shard : (setup : Deployment) (t : Moment) (v : Membership) (n : NodeRecord) → ConfigurationsHold setup t → IsStored t v → IsNode t n → n.name ≡ v.leader → n.shard ≡ v.shard
leader-shard setup t v n k s i e = member_shard setup t k v n s i (subst (λ x. StandsIn x v.members) (sym e) (leads_member setup t k v s))

follower-shard : (setup : Deployment) (t : Moment) (v : Membership) (n : NodeRecord) (name : ℕ) → ConfigurationsHold setup t → IsStored t v → IsNode t n → StandsIn name (followers v) → n.name ≡ name → n.shard ≡ v.shard
follower-shard setup t v n name k s i f e = member_shard setup t k v n s i (subst (λ x. StandsIn x v.members) (sym e) (follower_member v name f))

accept-named : (setup : Deployment) (t : Moment) (v : Membership) (shard : ℕ) (x : Preparation) (name : ℕ) → ConfigurationsHold setup t → IsView t shard v → IsOfShard shard x → StandsIn name (followers v) → Named t (to name (Accept v.epoch x))
accept-named setup t v shard x name k view h f n i e = subst (λ s. IsOfShard s x) (sym (follower-shard setup t v n name k view.stored i f e ∙ view.of_shard)) h

prepare-named : (setup : Deployment) (t : Moment) (views : ℕ) (v : Membership) (shard : ℕ) (txn : TxId) (case : Case) → ConfigurationsHold setup t → IsView t shard v → is_among case.shards shard ≡ true
    → Named t (to v.leader (Prepare v.epoch txn case.shards (option_and_then (restricted views v.shard) case.payload)))
prepare-named setup t views v shard txn case k view h n i e = subst (λ s. is_among case.shards s ≡ true) (sym (leader-shard setup t v n k view.stored i e ∙ view.of_shard)) h

case-names : (setup : Deployment) (t : Moment) (node : NodeRecord) (txn : TxId) (case : Case) → ConfigurationsHold setup t → IsNode t node → AreParts case → Each (Named t) (send_case node.coordinator.views txn case)
unfolding send_case
case-names setup t node txn case k i parts = each-flat_map (Named t) (λ p. send_part (length node.coordinator.views) txn case p.entry p.acks (view_of node.coordinator.views p.shard)) case.parts (λ p s.
    each-part (Named t) (length node.coordinator.views) txn case p.entry p.acks (view_of node.coordinator.views p.shard)
    (λ v e. prepare-named setup t (length node.coordinator.views) v p.shard txn case k (view_is setup t node p.shard v k i e) (parts p s).shard)
    (λ x v name q e f. accept-named setup t v p.shard x name k (view_is setup t node p.shard v k i e) ((parts p s).entry x q) f))

resend-names : (setup : Deployment) (t : Moment) (node : NodeRecord) → ConfigurationsHold setup t → IsNode t node → AreCases node.coordinator → Each (Named t) (resend node.coordinator)
unfolding resend
resend-names setup t node k i cases = each-flat_map (Named t) (λ e. send_case node.coordinator.views e.0 e.1) node.coordinator.cases (λ e s. case-names setup t node e.0 e.1 k i (cases e.0 e.1 s))

has_part-shard : (case : Case) (shard : ℕ) → AreParts case → has_part case shard ≡ true → is_among case.shards shard ≡ true
has_part-shard case shard k h = go (part_of case.parts shard) refl h
  where
    go : (o : Option Part) → part_of case.parts shard ≡ o → is_some o ≡ true → is_among case.shards shard ≡ true
    go None e q = absurd (cc q)
    go (Some p) e q = let i : IsPartOf case.parts shard p = part_is case.parts shard p e in subst (λ n. is_among case.shards n ≡ true) i.of_shard (k p i.among).shard

leader-names : (setup : Deployment) (t : Moment) (c : Coordinator) (config : Membership) → ConfigurationsHold setup t → IsStored t config → AreCases c → Each (Named t) (ask_leader c config)
unfolding ask_leader
leader-names setup t c config k stored cases = each-flat_map (Named t) _ (filter (λ e. has_part e.1 config.shard) c.cases) (λ e s. (
    let f = filter-StandsIn (λ (x : TxId × Case). has_part x.1 config.shard) c.cases e s in
    each-prepare (Named t) (length c.views) e.0 e.1 (Some config) (λ v q. (let same : config ≡ v = cc q in
    subst (λ (w : Membership). Named t (to w.leader (Prepare w.epoch e.0 e.1.shards (option_and_then (restricted (length c.views) w.shard) e.1.payload)))) same
    (prepare-named setup t (length c.views) config config.shard e.0 e.1 k (record { stored = stored; of_shard = refl }) (has_part-shard e.1 config.shard (cases e.0 e.1 f.0) f.1))))))

going-names : (setup : Deployment) (t : Moment) (c : Coordinator) (txn : TxId) (case : Case) (sends : List Outgoing) (out : Out Coordinator) → GoesOn c txn case sends out → Each (Named t) sends → Each (Named t) out.sends
going-names setup t c txn case sends out goes s = each-goes_on (Named t) c txn case sends out goes s (λ complete noted. each-decision (Named t) c.views txn case.parts (decision_of case.parts) (λ p x v n q e w m a b d. tt) (λ a b d. tt))

-- the entry that a shard has when it voted
voted-entry : (node : NodeRecord) (shard : ℕ) (entry : Preparation) (part : Part) → IsOfShard shard entry → part.shard ≡ shard → ((x : Preparation) → part.entry ≡ Some x → IsOfShard part.shard x) → IsOfShard shard (first_entry part.entry entry)
voted-entry node shard entry part new e k = first-named part.entry entry shard (λ x q. subst (λ s. IsOfShard s x) e (k x q)) new

effect-names : (setup : Deployment) (t : Moment) (tests : Tests) (version : ℕ) (node : NodeRecord) (input : Input) (out : Out NodeRecord) → Effect tests version node input out → Knows setup t node input → Each (Named t) out.sends
effect-names setup t tests version node input out (Rests _ answer notices r) k = each-notice (Named t) notices r (λ n kind mark why a b c. tt)
effect-names setup t tests version node input out (Certifies payload l case e) k = case-names setup t node (next_txn node) case k.configurations k.is (subst AreParts (sym e) (new_case-named (shards_of (length node.coordinator.views) payload) (Some payload)))
effect-names setup t tests version node input out (TakesOver txn row found unknown none may case e) k = case-names setup t node txn case k.configurations k.is (subst AreParts (sym e) (new_case-named row.entry.shards None))
effect-names setup t tests version node input out Nudges k =
    each-both (Named t) (resend node.coordinator) (ask_stage node.prober) (resend-names setup t node k.configurations k.is k.cases)
    (each-stage (Named t) node.prober (λ n epoch a b c. tt) (λ shard a b c. tt) (λ shard epoch a b c. tt) (λ config e a b c. tt))
effect-names setup t tests version node input out (Moves shard want) k = each-one (Named t) _ (λ a b c. tt)
effect-names setup t tests version node input out (Lowers shard want epoch probed low e some above) k = each-one (Named t) _ (λ a b c. tt)
effect-names setup t tests version node input out (Asks shard) k = each-one (Named t) _ (λ a b c. tt)
effect-names setup t tests version node input out (AnswersAgain from epoch txn shards part row l e a found) k =
    each-one (Named t) _ (λ n i q. k.rows row (find-StandsIn (λ (r : Row). same_txn r.entry.txn txn) node.rows row found).0)
effect-names setup t tests version node input out (Appends from epoch txn shards part l e a none room entry is) k = each-one (Named t) _ (λ n i q. subst (IsOfShard node.shard) (sym is) a)
effect-names setup t tests version node input out (Votes from shard epoch entry case part view opened at leads fits after goes) k =
    let o = opened-part node.coordinator entry.txn shard case part view k.cases opened in
    going-names setup t node.coordinator entry.txn (with_part case (voted part entry)) (accept (first_entry part.entry entry) part.acks (Some view)) after goes
    (each-accept (Named t) (first_entry part.entry entry) part.acks view (λ name s. accept-named setup t view shard (first_entry part.entry entry) name k.configurations (view_is setup t node shard view k.configurations k.is opened.sees)
    (voted-entry node shard entry part (k.message from (PrepareAck shard epoch entry) refl) o.2 o.1.entry) s))
effect-names setup t tests version node input out (Acknowledges from shard epoch slot txn case part view opened at follows votes after goes) k =
    going-names setup t node.coordinator txn (with_part case (acknowledged part from)) [] after goes (each-none (Named t))
effect-names setup t tests version node input out (Changes from config n) k = leader-names setup t node.coordinator config k.configurations ((k.stored from config).0 refl) k.cases
effect-names setup t tests version node input out (Learns from config coordinator sent stage asked sees hears) k =
    each-both (Named t) sent asked (each-sees (Named t) node.coordinator config coordinator sent sees (leader-names setup t node.coordinator config k.configurations ((k.stored from config).1 refl) k.cases))
    (each-hears (Named t) node.name config _ node.prober stage asked hears (λ n epoch a b c. tt) (λ a b c. tt))
effect-names setup t tests version node input out (Accepts from epoch entry f e free) k = each-one (Named t) _ (λ a b c. tt)
effect-names setup t tests version node input out (Promises from epoch l) k = each-one (Named t) _ (λ a b c. tt)
effect-names setup t tests version node input out (Chooses from state shard want epoch probed low e member le) k = each-one (Named t) _ (λ a b c. tt)
effect-names setup t tests version node input out (Leads from config s r p l) k =
    each-state (Named t) version config node.rows (λ name n i e q m. of q m) (λ name number m n i e q s. of q (piece_row node.rows number q s))
  where
    of : (q : Row) → StandsIn q node.rows → IsOfShard config.shard q.entry
    of q m = subst (λ x. IsOfShard x q.entry) (sym s) (k.rows q m)
effect-names setup t tests version node input out _ k = each-none (Named t)

-- ---- what a node keeps

-- a row of pieces, one of them new
pieces-named : (g : Option Gathering) (config : Membership) (pieces : ℕ) (piece p : Piece) → ((old : Gathering) (q : Piece) → g ≡ Some old → StandsIn q old.kept → AreOfShard old.config.shard q.rows) → AreOfShard config.shard piece.rows
    → PieceCame g config piece p → AreOfShard config.shard p.rows
pieces-named g config pieces piece p k new (IsNewPiece e) r s = new r (subst (λ (q : Piece). StandsIn r q.rows) e s)
pieces-named g config pieces piece p k new (IsOldPiece old e t shard epoch) r s = subst (λ n. IsOfShard n r.entry) shard (k old p e t r s)

rows-named : (setup : Deployment) (t : Moment) (tests : Tests) (version : ℕ) (node : NodeRecord) (input : Input) (out : Out NodeRecord) → Effect tests version node input out → Knows setup t node input → AreOfShard node.shard out.kept.rows
rows-named setup t tests version node input out (Appends from epoch txn shards part l e a none room entry is) k r s = elim (StandsIn-append node.rows (undecided entry ∷ []) r s) [
  | inl old ↦ k.rows r old
  | inr (inl q) ↦ subst (λ (x : Row). IsOfShard node.shard x.entry) (sym q) (subst (IsOfShard node.shard) (sym is) a)
  | inr (inr q) ↦ absurd q
]
rows-named setup t tests version node input out (Accepts from epoch entry f e free) k r s = elim (accepted_came node.rows entry r s) [
  | inl old ↦ k.rows r old
  | inr q ↦ subst (λ (x : Row). IsOfShard node.shard x.entry) (sym q) (k.message from (Accept epoch entry) refl)
]
rows-named setup t tests version node input out (Marks from epoch slot txn commit e h) k r s = elim (marked_came node.rows slot commit r s) [
  | inl old ↦ k.rows r old
  | inr m ↦ subst (λ (x : Row). IsOfShard node.shard x.entry) (sym m.is) (k.rows m.old m.among)
]
rows-named setup t tests version node input out (Follows from config rows v m) k r s = subst (λ n. IsOfShard n r.entry) m.shard (k.message from (NewState config rows) refl r s)
rows-named setup t tests version node input out (FollowsPieces from config number pieces rows gathering v m takes is whole) k r s =
    let piece : Piece = record { number = number; rows = rows } in
    let i : IsPiece (λ (p : Piece). p.rows) gathering.kept r = flat_map-StandsIn (λ (p : Piece). p.rows) gathering.kept r s in
    subst (λ n. IsOfShard n r.entry) m.shard
    (pieces-named node.gathering config pieces piece i.source k.gathered (k.message from (StatePiece config number pieces rows) refl) (piece_came node.gathering config pieces piece i.source (subst (λ (g : Gathering). StandsIn i.source g.kept) is i.among)) r i.within)
rows-named setup t tests version node input out _ k r s = k.rows r s

-- what is gathered with a piece more is for the piece's configuration
more-config : (g : Gathering) (piece : Piece) → (with_one_more g piece).config ≡ g.config
more-config g piece = go (is_kept g.kept piece.number)
  where
    go : (b : Bool) → (cond b g (record { config = g.config; pieces = g.pieces; kept = with_piece g.kept piece })).config ≡ g.config
    go true = refl
    go false = refl

about-shard : (g : Option Gathering) (config : Membership) (pieces : ℕ) (piece : Piece) → (with_one_more (gathering_for g config pieces) piece).config.shard ≡ config.shard
about-shard g config pieces piece = ap (λ (c : Membership). c.shard) (more-config (gathering_for g config pieces) piece) ∙ at g
  where
    go : (old : Gathering) (b : Bool) → is_gathering_of old config ≡ b → (cond b old (begun config pieces)).config.shard ≡ config.shard
    go old true e = ap (λ (c : Membership). c.shard) (same_config-is old.config config e)
    go old false e = refl

    at : (o : Option Gathering) → (gathering_for o config pieces).config.shard ≡ config.shard
    at None = refl
    at (Some old) = go old (is_gathering_of old config) refl

abbrev GathersNamed : NodeRecord → Type 0
GathersNamed node = (g : Gathering) (p : Piece) → node.gathering ≡ Some g → StandsIn p g.kept → AreOfShard g.config.shard p.rows

some-gathering : (a b : Gathering) → Some a ≡ Some b → a ≡ b
some-gathering a b e = cc e

gathered-named : (setup : Deployment) (t : Moment) (tests : Tests) (version : ℕ) (node : NodeRecord) (input : Input) (out : Out NodeRecord) → Effect tests version node input out → Knows setup t node input → GathersNamed out.kept
gathered-named setup t tests version node input out (Promises from epoch l) k g p e s = k.gathered g p (gathered_from-is epoch node.gathering g e) s
gathered-named setup t tests version node input out (Follows from config rows v m) k g p e s = k.gathered g p (gathered_from-is config.epoch node.gathering g e) s
gathered-named setup t tests version node input out (FollowsPieces from config number pieces rows gathering v m takes is whole) k g p e s = absurd (cc e)
gathered-named setup t tests version node input out (Gathers from config number pieces rows gathering v m takes is part) k g p e s = λ r q. (
    let piece : Piece = record { number = number; rows = rows } in
    let same : gathering ≡ g = some-gathering gathering g e in
    subst (λ n. IsOfShard n r.entry) (sym (ap (λ (x : Gathering). x.config.shard) (sym same ∙ is) ∙ about-shard node.gathering config pieces piece))
    (pieces-named node.gathering config pieces piece p k.gathered (k.message from (StatePiece config number pieces rows) refl) (piece_came node.gathering config pieces piece p (subst (λ (x : Gathering). StandsIn p x.kept) (sym same ∙ is) s)) r q))
gathered-named setup t tests version node input out _ k g p e s = k.gathered g p e s

cases-named : (setup : Deployment) (t : Moment) (tests : Tests) (version : ℕ) (node : NodeRecord) (input : Input) (out : Out NodeRecord) → Effect tests version node input out → Knows setup t node input → AreCases out.kept.coordinator
cases-named setup t tests version node input out (Certifies payload l case e) k = begins-named node.coordinator (next_txn node) case k.cases (subst AreParts (sym e) (new_case-named (shards_of (length node.coordinator.views) payload) (Some payload)))
cases-named setup t tests version node input out (TakesOver txn row found unknown none may case e) k = begins-named node.coordinator txn case k.cases (subst AreParts (sym e) (new_case-named row.entry.shards None))
cases-named setup t tests version node input out (Votes from shard epoch entry case part view opened at leads fits after goes) k =
    let o = opened-part node.coordinator entry.txn shard case part view k.cases opened in
    goes_on-named node.coordinator entry.txn _ _ after goes k.cases (voted-named case part entry o.0 o.1 (subst (λ n. IsOfShard n entry) (sym o.2) (k.message from (PrepareAck shard epoch entry) refl)))
cases-named setup t tests version node input out (Acknowledges from shard epoch slot txn case part view opened at follows votes after goes) k =
    let o = opened-part node.coordinator txn shard case part view k.cases opened in
    goes_on-named node.coordinator txn _ _ after goes k.cases (acknowledged-named case part from o.0 o.1)
cases-named setup t tests version node input out (Changes from config n) k = change_view-named node.coordinator config k.cases
cases-named setup t tests version node input out (Learns from config coordinator sent stage asked sees hears) k = go coordinator sent sees
  where
    go : (new : Coordinator) (sent : List Outgoing) → Sees node.coordinator config new sent → AreCases new
    go _ _ (Replaces n) = change_view-named node.coordinator config k.cases
    go _ _ (KeepsView n) = k.cases
cases-named setup t tests version node input out _ k = k.cases

-- ---- one event more

record EachNamed (t : Moment) : Type 0 where
  rows : (node : NodeRecord) → IsNode t node → AreOfShard node.shard node.rows
  gathered : (node : NodeRecord) → IsNode t node → GathersNamed node
  cases : (node : NodeRecord) → IsNode t node → AreCases node.coordinator
  messages : (from : ℕ) (node : NodeRecord) (m : Message) → IsNode t node → WasSent t from node.name m → NamesShard node.shard m

knows-then : (tests : Tests) (setup : Deployment) (t : Moment) (event : Event) (h : Happening) → Turn tests setup t event h → EachNamed t → (a : Acting tests setup t event h) → Knows setup t a.node a.input
knows-then tests setup t event h turn k a = record {
  configurations = turn.before.configurations;
  is = a.is;
  rows = k.rows a.node a.is;
  gathered = k.gathered a.node a.is;
  cases = k.cases a.node a.is;
  stored = λ from c. (λ e. turn.before.configurations.in_messages from a.node.name (ConfigChange c) c (was from (ConfigChange c) e) refl, λ e. turn.before.configurations.in_messages from a.node.name (Stored c) c (was from (Stored c) e) refl);
  message = λ from m e. k.messages from a.node m a.is (was from m e);
}
  where
    was : (from : ℕ) (m : Message) → a.input ≡ inputs.Deliver from m → WasSent t from a.node.name m
    was from m e = delivered setup t a.node.name event a.input a.comes turn.fits from m e

service-names : (kept : List Membership) (shard : ℕ) (m : Message) → ServiceSays kept m → NamesShard shard m
service-names kept shard _ (TellsStored c s) = tt
service-names kept shard _ (TellsChange c s) = tt
service-names kept shard _ (Refuses kind why mark) = tt

turn-named : (tests : Tests) (setup : Deployment) (t : Moment) (event : Event) (h : Happening) → Turn tests setup t event h → EachNamed t → EachNamed (goes_to t h.after)
turn-named tests setup t event h turn k = record {
  rows = λ node n. elim (node_back tests setup t event h turn node n) [
    | inl old ↦ k.rows node old
    | inr o ↦ (subst (λ (x : NodeRecord). AreOfShard x.shard x.rows) (sym o.is) (subst (λ shard. AreOfShard shard o.acting.out.kept.rows) (sym (effect_shard tests setup.version o.acting.node o.acting.input o.acting.out o.acting.effect))
        (rows-named setup t tests setup.version o.acting.node o.acting.input o.acting.out o.acting.effect (knows-then tests setup t event h turn k o.acting))))
  ];
  gathered = λ node n. elim (node_back tests setup t event h turn node n) [
    | inl old ↦ k.gathered node old
    | inr o ↦ (subst GathersNamed (sym o.is) (gathered-named setup t tests setup.version o.acting.node o.acting.input o.acting.out o.acting.effect (knows-then tests setup t event h turn k o.acting)))
  ];
  cases = λ node n. elim (node_back tests setup t event h turn node n) [
    | inl old ↦ k.cases node old
    | inr o ↦ (subst (λ (x : NodeRecord). AreCases x.coordinator) (sym o.is) (cases-named setup t tests setup.version o.acting.node o.acting.input o.acting.out o.acting.effect (knows-then tests setup t event h turn k o.acting)))
  ];
  messages = λ from node m n s. message from node m n s;
}
  where
    message : (from : ℕ) (node : NodeRecord) (m : Message) → IsNode (goes_to t h.after) node → WasSent (goes_to t h.after) from node.name m → NamesShard node.shard m
    message from node m n s =
        let g : GrewFrom t node = (onward_of tests setup t event h turn).back node n in
        subst (λ shard. NamesShard shard m) (sym g.grows.shard) (elim (message_back tests setup t event h turn from node.name m s) [
          | inl old ↦ k.messages from g.old m g.is (subst (λ name. WasSent t from name m) g.grows.name old)
          | inr (inl b) ↦ effect-names setup t tests setup.version b.acting.node b.acting.input b.acting.out b.acting.effect (knows-then tests setup t event h turn k b.acting) (to node.name m) b.among g.old g.is (sym g.grows.name)
          | inr (inr says) ↦ service-names h.after.configs g.old.shard m says
        ])

-- a node begins with no rows, no cases and nothing gathered
first-of : (setup : Deployment) (P : NodeRecord → Type 0) → ((name shard : ℕ) → P (first_node setup.configs name shard)) → (node : NodeRecord) → StandsIn node (first_world setup).nodes → P node
unfolding first_world
first-of setup P h node s = let f : IsFirst setup.configs 1 node = first_nodes-IsFirst setup.configs 1 setup.nodes node s in subst P (sym f.is) (h f.name f.shard)

first-rows : (setup : Deployment) (name shard : ℕ) → AreOfShard (first_node setup.configs name shard).shard (first_node setup.configs name shard).rows
unfolding first_node
first-rows setup name shard r s = absurd s

first-gathered : (setup : Deployment) (name shard : ℕ) → GathersNamed (first_node setup.configs name shard)
unfolding first_node
first-gathered setup name shard g p e s = absurd (cc e)

first-cases : (setup : Deployment) (name shard : ℕ) → AreCases (first_node setup.configs name shard).coordinator
unfolding first_node
first-cases setup name shard t x s = absurd s

no-messages : (setup : Deployment) (from to : ℕ) (m : Message) → WasSent (record { now = first_world setup; before = [] }) from to m → ⊥
unfolding first_world
no-messages setup from to m s = s.sent

first-named-all : (setup : Deployment) → EachNamed (record { now = first_world setup; before = [] })
first-named-all setup = record {
  rows = first-of setup (λ n. AreOfShard n.shard n.rows) (first-rows setup);
  gathered = first-of setup GathersNamed (first-gathered setup);
  cases = first-of setup (λ n. AreCases n.coordinator) (first-cases setup);
  messages = λ from node m n s. absurd (no-messages setup from node.name m s);
}

pub run-names_shards : (tests : Tests) (setup : Deployment) (events : List Event) → AreEventsOf setup events → ShardsAreNamed (run tests setup events)
run-names_shards tests setup events a =
    let k : EachNamed (time_after tests setup events) = run_induction tests setup EachNamed (λ t event h turn after may k. turn-named tests setup t event h turn k) (first-named-all setup) events a in
    subst ShardsAreNamed (time_after-now tests setup events) (record {
      rows = k.rows;
      cases = λ node txn case p n s m. k.cases node n txn case s p m;
      messages = λ from node m n s. k.messages from node m n (record { sent = s });
    })
