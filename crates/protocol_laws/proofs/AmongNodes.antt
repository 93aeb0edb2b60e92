-- Homes are nodes, and what names a transaction goes from node to node.
use Rattle.std.proofs.Common.{◌≡◌, ℕ, ◌+◌, ◌<◌, ◌≤◌, Bool, true, false, cond, not, ◌&&◌, ◌==◌, nat_le, List, [], ◌∷◌, map, flat_map, length, Some, None, inl, inr, sym, subst, refl, arith}
use Rattle.std.specs.List.{range_with_len}
use Rattle.std.proofs.lemmas.Bool.Decides.{nat_tests}
use Rattle.tcs_terms.specs.declared.ids.TxId.{TxId}
use Rattle.tcs_terms.specs.declared.inputs.Event.{Event}
use Rattle.tcs_terms.specs.declared.inputs.Input.{Input}
use Rattle.tcs_terms.specs.declared.inputs.Input.TheVariants as inputs
use Rattle.tcs_terms.specs.declared.inputs.Note.{Note}
use Rattle.tcs_terms.specs.declared.inputs.Note.TheVariants.{Begin, Take, ReadValue, Decide}
use Rattle.tcs_terms.specs.declared.logs.Row.{Row}
use Rattle.tcs_terms.specs.declared.messages.Message.{Message}
use Rattle.tcs_terms.specs.declared.messages.Message.TheVariants.{Prepare, Accept, NewConfig, NewState, ConfigChange, Stored, StatePiece}
use Rattle.tcs_terms.specs.declared.messages.Outgoing.{Outgoing}
use Rattle.tcs_terms.specs.Logs.{same_txn}
use Rattle.tcs_terms.specs.Payloads.{Accesses}
use Rattle.tcs_terms.specs.Places.{Membership}
use Rattle.tcs_terms.specs.Setups.{Deployment, has_node, is_node_of}
use Rattle.tcs_laws.specs.Certification.{Tests}
use Rattle.tcs_terms.proofs.BoolLaws.{left_of}
use Rattle.protocol.specs.Cases.{accept, send_case, decision_of}
use Rattle.protocol.specs.ClientRules.{next_txn}
use Rattle.protocol.specs.Coordination.{with_part, voted, acknowledged, first_entry, resend, ask_leader}
use Rattle.protocol.specs.History.{first_some, payload_in, begins_with}
use Rattle.protocol.specs.Outcomes.{Out, to}
use Rattle.protocol.specs.Pieces.{piece_count, piece_of}
use Rattle.protocol.specs.Probing.{ask_stage}
use Rattle.protocol.specs.Records.{Part, Case, Coordinator, NodeRecord}
use Rattle.protocol.specs.Run.{run}
use Rattle.protocol.specs.ShardRules.{state_to}
use Rattle.protocol.specs.Views.{view_of, followers}
use Rattle.protocol.specs.World.{Happening, first_world}
use Rattle.protocol.specs.Invariant.Configurations.{ConfigurationsHold, HasMembers, told_config}
use Rattle.protocol.specs.Invariant.Time.{Moment, goes_to, time_after, StandsIn, IsNode, IsStored, WasSent, WasNoted}
use Rattle.protocol.proofs.Lists.{all-StandsIn, among-StandsIn, find-StandsIn}
use Rattle.protocol.proofs.Moments.{time_after-now}
use Rattle.protocol_laws.specs.Addresses.{names_txn, IsBetweenNodes, TransactionsStayAmongNodes}
use Rattle.protocol_laws.specs.Effect.{GoesOn, OpenPart, Effect}
use Rattle.protocol_laws.specs.Effect.Effect.{Rests, Certifies, TakesOver, Nudges, Moves, Lowers, Asks, AnswersAgain, Appends, Votes, Acknowledges, Changes, Learns, Accepts, Promises, Chooses, Leads}
use Rattle.tcs_terms.specs.Runs.{AreEventsOf}
use Rattle.protocol_laws.specs.Turn.{Turn}
use Rattle.protocol_laws.proofs.ByTransaction.{lookup-StandsIn}
use Rattle.protocol_laws.proofs.Came.{message_back, Acting, IsSentBy}
use Rattle.protocol_laws.proofs.ConfigurationsInputs.{delivered}
use Rattle.protocol_laws.proofs.Noted.{note_came, NoteCame, WasNotedBefore, NodeNoted}
use Rattle.protocol_laws.proofs.Numbered.{numbered-above, numbered-below}
use Rattle.protocol_laws.proofs.RunInduction.{run_induction}
use Rattle.protocol_laws.proofs.SameTxn.{same_txn-eq}
use Rattle.protocol_laws.proofs.Sends.{Each, each-none, each-one, each-both, each-map, each-flat_map, each-when, each-accept, each-case, each-resend, each-ask_leader, each-sees, each-goes_on, each-decision, each-stage, each-hears, each-notice}
use Rattle.protocol_laws.proofs.ServiceSays.{ServiceSays}
use Rattle.protocol_laws.proofs.ServiceSays.ServiceSays.{TellsStored, TellsChange, Refuses}
use Rattle.protocol_laws.proofs.Standing.{filter-StandsIn}
use Rattle.protocol_laws.proofs.TransactionsNotes.{BeginsNext, begins_next}
use Rattle.protocol_laws.proofs.ViewsStored.{view_stored}

-- a message that names a transaction goes to a node
abbrev ToNode : Deployment → Outgoing → Type 0
ToNode setup o = names_txn o.message ≡ true → has_node setup.nodes o.to ≡ true

-- the members of a configuration, and its leader, are nodes
record HasNodes (setup : Deployment) (c : Membership) : Type 0 where
  members : (n : ℕ) → StandsIn n c.members → has_node setup.nodes n ≡ true
  leader : has_node setup.nodes c.leader ≡ true

members-nodes : (setup : Deployment) (c : Membership) → HasMembers setup c → HasNodes setup c
members-nodes setup c h = record { members = one; leader = one c.leader (among-StandsIn c.members c.leader h.leader) }
  where
    one : (n : ℕ) → StandsIn n c.members → has_node setup.nodes n ≡ true
    one n s = left_of (has_node setup.nodes n) _ (all-StandsIn (is_node_of setup.nodes c.shard) c.members n h.nodes s)

stored-nodes : (setup : Deployment) (t : Moment) (c : Membership) → ConfigurationsHold setup t → IsStored t c → HasNodes setup c
stored-nodes setup t c k s = members-nodes setup c (k.members c s)

node-named : (setup : Deployment) (t : Moment) (node : NodeRecord) → ConfigurationsHold setup t → IsNode t node → has_node setup.nodes node.name ≡ true
node-named setup t node k s =
    go node.name (length setup.nodes) (numbered-above (λ (n : NodeRecord). n.name) t.now.nodes 1 (length setup.nodes) node k.names s) (numbered-below (λ (n : NodeRecord). n.name) t.now.nodes 1 (length setup.nodes) node k.names s)
  where
    go : (n count : ℕ) → 1 ≤ n → n < 1 + count → (nat_le 1 n && nat_le n count) ≡ true
    go n count low high = grind (arith, nat_tests)

follower-node : (setup : Deployment) (v : Membership) (n : ℕ) → HasNodes setup v → StandsIn n (followers v) → has_node setup.nodes n ≡ true
follower-node setup v n k s = k.members n (filter-StandsIn (λ m. not (m == v.leader)) v.members n s).0

-- what a node knows when it acts: its views and what it is told are configurations of nodes, and who sent it a message
-- that names a transaction, and the homes of its cases, are nodes
record Knows (setup : Deployment) (node : NodeRecord) (input : Input) : Type 0 where
  views : (v : Membership) → StandsIn v node.coordinator.views → HasNodes setup v
  told : (from : ℕ) (m : Message) (c : Membership) → input ≡ inputs.Deliver from m → told_config m ≡ Some c → HasNodes setup c
  asked : (from : ℕ) (m : Message) → input ≡ inputs.Deliver from m → names_txn m ≡ true → has_node setup.nodes from ≡ true
  homes : (txn : TxId) (case : Case) → StandsIn (txn, case) node.coordinator.cases → has_node setup.nodes txn.home ≡ true

seen : (setup : Deployment) (node : NodeRecord) (input : Input) (shard : ℕ) (v : Membership) → Knows setup node input → view_of node.coordinator.views shard ≡ Some v → HasNodes setup v
seen setup node input shard v k e = k.views v (find-StandsIn (λ (c : Membership). c.shard == shard) node.coordinator.views v e).0

case-to : (setup : Deployment) (node : NodeRecord) (input : Input) (txn : TxId) (case : Case) → Knows setup node input → Each (ToNode setup) (send_case node.coordinator.views txn case)
case-to setup node input txn case k =
    each-case (ToNode setup) node.coordinator.views txn case (λ shard v e h. (seen setup node input shard v k e).leader) (λ p x v n s q e m h. follower-node setup v n (seen setup node input p.shard v k e) m)

leader-to : (setup : Deployment) (c : Coordinator) (config : Membership) → HasNodes setup config → Each (ToNode setup) (ask_leader c config)
leader-to setup c config k = each-ask_leader (ToNode setup) c config (λ txn case s h. k.leader)

going-to : (setup : Deployment) (node : NodeRecord) (input : Input) (txn : TxId) (case : Case) (sends : List Outgoing) (out : Out Coordinator) → Knows setup node input → GoesOn node.coordinator txn case sends out
    → has_node setup.nodes txn.home ≡ true → Each (ToNode setup) sends → Each (ToNode setup) out.sends
going-to setup node input txn case sends out k goes home s = each-goes_on (ToNode setup) node.coordinator txn case sends out goes s (λ complete noted.
    each-decision (ToNode setup) node.coordinator.views txn case.parts (decision_of case.parts) (λ p x v n q e w m h. (seen setup node input p.shard v k w).members n m) (λ h. home))

open-home : (setup : Deployment) (node : NodeRecord) (input : Input) (txn : TxId) (shard : ℕ) (case : Case) (part : Part) (view : Membership) → Knows setup node input → OpenPart node.coordinator txn shard case part view → has_node setup.nodes txn.home ≡ true
open-home setup node input txn shard case part view k o = k.homes txn case (lookup-StandsIn txn node.coordinator.cases case o.opened)

-- rows that are sent
state-sent : (setup : Deployment) (version : ℕ) (config : Membership) (rows : List Row) → HasNodes setup config → Each (ToNode setup) (flat_map (state_to version config rows) (followers config))
unfolding state_to
state-sent setup version config rows k = each-flat_map (ToNode setup) (state_to version config rows) (followers config) (λ node s.
    each-when (ToNode setup) (version == 2) (map (λ n. to node (StatePiece config n (piece_count rows) (piece_of rows n))) (range_with_len 1 (piece_count rows))) (to node (NewState config rows) ∷ [])
    (each-map (ToNode setup) (λ n. to node (StatePiece config n (piece_count rows) (piece_of rows n))) (range_with_len 1 (piece_count rows)) (λ n m h. follower-node setup config node k s))
    (each-one (ToNode setup) _ (λ h. follower-node setup config node k s)))

effect-to : (setup : Deployment) (tests : Tests) (version : ℕ) (node : NodeRecord) (input : Input) (out : Out NodeRecord) → Effect tests version node input out → Knows setup node input → Each (ToNode setup) out.sends
effect-to setup tests version node input out (Rests _ answer notices r) k = each-notice (ToNode setup) notices r (λ n kind mark why h. absurd (cc h))
effect-to setup tests version node input out (Certifies payload l case e) k = case-to setup node _ (next_txn node) case k
effect-to setup tests version node input out (TakesOver txn row found unknown none may case e) k = case-to setup node _ txn case k
effect-to setup tests version node input out Nudges k =
    each-both (ToNode setup) (resend node.coordinator) (ask_stage node.prober) (each-resend (ToNode setup) node.coordinator (λ txn case s. case-to setup node _ txn case k))
    (each-stage (ToNode setup) node.prober (λ n epoch h. absurd (cc h)) (λ shard h. absurd (cc h)) (λ shard epoch h. absurd (cc h)) (λ config e h. absurd (cc h)))
effect-to setup tests version node input out (Moves shard want) k = each-one (ToNode setup) _ (λ h. absurd (cc h))
effect-to setup tests version node input out (Lowers shard want epoch probed low e some above) k = each-one (ToNode setup) _ (λ h. absurd (cc h))
effect-to setup tests version node input out (Asks shard) k = each-one (ToNode setup) _ (λ h. absurd (cc h))
effect-to setup tests version node input out (AnswersAgain from epoch txn shards part row l e a found) k = each-one (ToNode setup) _ (λ h. k.asked from (Prepare epoch txn shards part) refl refl)
effect-to setup tests version node input out (Appends from epoch txn shards part l e a none room entry is) k = each-one (ToNode setup) _ (λ h. k.asked from (Prepare epoch txn shards part) refl refl)
effect-to setup tests version node input out (Votes from shard epoch entry case part view opened at leads fits after goes) k =
    going-to setup node _ entry.txn (with_part case (voted part entry)) (accept (first_entry part.entry entry) part.acks (Some view)) after k goes (open-home setup node _ entry.txn shard case part view k opened)
    (each-accept (ToNode setup) (first_entry part.entry entry) part.acks view (λ n s h. follower-node setup view n (seen setup node _ shard view k opened.sees) s))
effect-to setup tests version node input out (Acknowledges from shard epoch slot txn case part view opened at follows votes after goes) k =
    going-to setup node _ txn (with_part case (acknowledged part from)) [] after k goes (open-home setup node _ txn shard case part view k opened) (each-none (ToNode setup))
effect-to setup tests version node input out (Changes from config n) k = leader-to setup node.coordinator config (k.told from (ConfigChange config) config refl refl)
effect-to setup tests version node input out (Learns from config coordinator sent stage asked sees hears) k =
    each-both (ToNode setup) sent asked (each-sees (ToNode setup) node.coordinator config coordinator sent sees (leader-to setup node.coordinator config (k.told from (Stored config) config refl refl)))
    (each-hears (ToNode setup) node.name config _ node.prober stage asked hears (λ n epoch h. absurd (cc h)) (λ h. absurd (cc h)))
effect-to setup tests version node input out (Accepts from epoch entry f e t) k = each-one (ToNode setup) _ (λ h. k.asked from (Accept epoch entry) refl refl)
effect-to setup tests version node input out (Promises from epoch l) k = each-one (ToNode setup) _ (λ h. absurd (cc h))
effect-to setup tests version node input out (Chooses from state shard want epoch probed low e member le) k = each-one (ToNode setup) _ (λ h. absurd (cc h))
effect-to setup tests version node input out (Leads from config s r p l) k = state-sent setup version config node.rows (k.told from (NewConfig config) config refl refl)
effect-to setup tests version node input out _ k = each-none (ToNode setup)

-- ---- one event more

begun-noted : (h : List Note) (txn : TxId) (payload : Accesses) → payload_in h txn ≡ Some payload → StandsIn (Begin txn payload) h
begun-noted [] txn payload e = absurd (cc e)
begun-noted (n ∷ ns) txn payload e = go n (begun-noted ns txn payload) e
  where
    at : (other : TxId) (p : Accesses) (b : Bool) → same_txn other txn ≡ b → (payload_in ns txn ≡ Some payload → StandsIn (Begin txn payload) ns) → first_some (cond b (Some p) None) (payload_in ns txn) ≡ Some payload
        → StandsIn (Begin txn payload) (Begin other p ∷ ns)
    at other p true s ih q = inl (let same : p ≡ payload = cc q in let is : other ≡ txn = same_txn-eq other txn s in cc (same, is))
    at other p false s ih q = inr (ih q)

    go : (n : Note) → (payload_in ns txn ≡ Some payload → StandsIn (Begin txn payload) ns) → first_some (begins_with txn n) (payload_in ns txn) ≡ Some payload → StandsIn (Begin txn payload) (n ∷ ns)
    go (Begin other p) ih q = at other p (same_txn other txn) refl ih q
    go (Take other) ih q = inr (ih q)
    go (ReadValue name version value) ih q = inr (ih q)
    go (Decide other decision) ih q = inr (ih q)

-- the same of a moment
record AmongNodes (setup : Deployment) (t : Moment) : Type 0 where
  homes : (txn : TxId) (payload : Accesses) → WasNoted t (Begin txn payload) → has_node setup.nodes txn.home ≡ true
  messages : (from dest : ℕ) (m : Message) → WasSent t from dest m → names_txn m ≡ true → IsBetweenNodes setup from dest

knows-now : (tests : Tests) (setup : Deployment) (t : Moment) (event : Event) (h : Happening) → Turn tests setup t event h → AmongNodes setup t → (a : Acting tests setup t event h) → Knows setup a.node a.input
knows-now tests setup t event h turn k a = record {
  views = λ v s. stored-nodes setup t v c (view_stored setup t a.node v c a.is s);
  told = λ from m config is told. stored-nodes setup t config c (c.in_messages from a.node.name m config (delivered setup t a.node.name event a.input a.comes turn.fits from m is) told);
  asked = λ from m is names. (k.messages from a.node.name m (delivered setup t a.node.name event a.input a.comes turn.fits from m is) names).sender;
  homes = λ txn case s. (let f = turn.before.transactions.cases a.node txn case a.is s in k.homes txn f.payload (begun-noted t.now.history txn f.payload f.begun.first));
}
  where
    c : ConfigurationsHold setup t
    c = turn.before.configurations

home-now : (tests : Tests) (setup : Deployment) (t : Moment) (event : Event) (h : Happening) → Turn tests setup t event h → AmongNodes setup t → (txn : TxId) (payload : Accesses) → WasNoted (goes_to t h.after) (Begin txn payload) → has_node setup.nodes txn.home ≡ true
home-now tests setup t event h turn k txn payload s = go (note_came tests setup t event h (Begin txn payload) turn s)
  where
    go : NoteCame tests setup t event h (Begin txn payload) → has_node setup.nodes txn.home ≡ true
    go (WasNotedBefore old) = k.homes txn payload old
    go (NodeNoted a new) =
        let b : BeginsNext a.node a.out.kept txn = begins_next tests setup.version a.node a.input a.out txn payload a.effect new in
        subst (λ (x : TxId). has_node setup.nodes x.home ≡ true) (sym b.is) (node-named setup t a.node turn.before.configurations a.is)

service-silent : (kept : List Membership) (m : Message) → ServiceSays kept m → names_txn m ≡ true → ⊥
service-silent kept _ (TellsStored c s) h = cc h
service-silent kept _ (TellsChange c s) h = cc h
service-silent kept _ (Refuses kind why mark) h = cc h

message-now : (tests : Tests) (setup : Deployment) (t : Moment) (event : Event) (h : Happening) → Turn tests setup t event h → AmongNodes setup t → (from dest : ℕ) (m : Message) → WasSent (goes_to t h.after) from dest m → names_txn m ≡ true → IsBetweenNodes setup from dest
message-now tests setup t event h turn k from dest m s names = elim (message_back tests setup t event h turn from dest m s) [
  | inl old ↦ k.messages from dest m old names
  | inr (inl b) ↦ now b
  | inr (inr says) ↦ absurd (service-silent h.after.configs m says names)
]
  where
    now : IsSentBy tests setup t event h from dest m → IsBetweenNodes setup from dest
    now b = record {
      sender = subst (λ n. has_node setup.nodes n ≡ true) (sym b.sender) (node-named setup t b.acting.node turn.before.configurations b.acting.is);
      receiver = effect-to setup tests setup.version b.acting.node b.acting.input b.acting.out b.acting.effect (knows-now tests setup t event h turn k b.acting) (to dest m) b.among names;
    }

first-among : (setup : Deployment) → AmongNodes setup (record { now = first_world setup; before = [] })
unfolding first_world
first-among setup = record { homes = λ txn payload s. absurd s; messages = λ from dest m s names. absurd s.sent }

pub run-among_nodes : (tests : Tests) (setup : Deployment) (events : List Event) → AreEventsOf setup events → TransactionsStayAmongNodes setup (run tests setup events)
run-among_nodes tests setup events a =
    let k : AmongNodes setup (time_after tests setup events)
    = run_induction tests setup (AmongNodes setup) (λ t event h turn after may k. record { homes = λ txn payload s. home-now tests setup t event h turn k txn payload s; messages = λ from dest m s names. message-now tests setup t event h turn k from dest m s names })
    (first-among setup) events a in
    subst (TransactionsStayAmongNodes setup) (time_after-now tests setup events) (record { homes = k.homes; messages = λ from dest m s names. k.messages from dest m (record { sent = s }) names })
