-- Whatever a node does with an input in range, what it sends and notes is in range.
use Rattle.std.proofs.Common.{ℕ, ◌-◌, List, [], ◌∷◌, Some, subst}
use Rattle.std.specs.Prelude.{All}
use Rattle.std.proofs.lemmas.List.Elements.{All-nil, All-cons}
use Rattle.tcs_terms.specs.declared.ids.TxId.{TxId}
use Rattle.tcs_terms.specs.declared.inputs.Input.{Input}
use Rattle.tcs_terms.specs.declared.inputs.Input.TheVariants as inputs
use Rattle.tcs_terms.specs.declared.inputs.Note.{Note}
use Rattle.tcs_terms.specs.declared.messages.Message.{Message}
use Rattle.tcs_terms.specs.declared.messages.Message.TheVariants.{Prepare, PrepareAck, Accept, AcceptAck, Probe, ProbeAck, ConfigChange, Last, At, Cas, Stored}
use Rattle.tcs_terms.specs.declared.messages.Outgoing.{Outgoing}
use Rattle.tcs_terms.specs.Messages.{InRange}
use Rattle.tcs_terms.specs.Places.{Membership, IsMembership}
use Rattle.tcs_laws.specs.Certification.{Tests}
use Rattle.protocol.specs.Cases.{accept}
use Rattle.protocol.specs.ClientRules.{next_txn}
use Rattle.protocol.specs.Coordination.{with_part, voted, acknowledged, first_entry, resend}
use Rattle.protocol.specs.Outcomes.{Out, to}
use Rattle.protocol.specs.Probing.{ask_stage, proposed}
use Rattle.protocol.specs.Records.{Case, Coordinator, NodeRecord}
use Rattle.protocol.specs.Records.Stage.{Probing}
use Rattle.protocol_laws.specs.Effect.{Sees, GoesOn, Effect}
use Rattle.protocol_laws.specs.Effect.Effect.{Rests, Certifies, TakesOver, Nudges, Moves, Lowers, Reads, Asks, AnswersAgain, Appends, Votes, Acknowledges, Changes, Learns, Keeps, Accepts, Marks, Promises, Chooses, FindsLow, Leads, Follows, Gathers, FollowsPieces}
use Rattle.protocol_laws.specs.Effect.GoesOn.{Waiting, Decides}
use Rattle.protocol_laws.specs.Effect.Sees.{Replaces, Keeps as KeepsView}
use Rattle.protocol_laws.specs.Ranges.{IsCaseInRange, IsCoordinatorInRange, IsStageInRange, IsNodeInRange, IsInputInRange, IsNoteInRange}
use Rattle.protocol_laws.proofs.RangesCases.{open-in_range, voted-in_range, acknowledged-in_range, first_entry-in_range}
use Rattle.protocol_laws.proofs.RangesKept.{next_txn-in_range, row-in_range, held_txn-in_range, certified-in_range, taken-in_range}
use Rattle.protocol_laws.proofs.RangesRefused.{notices-sendable, epoch-small, mark-few}
use Rattle.protocol_laws.proofs.RangesRows.{appended-in_range}
use Rattle.protocol_laws.proofs.RangesSends.{case-sends, resends, asks-leader, accepts-sent, decision-in_range, decision-sends, to_service, stage-sends, heard-sends, shard-of_move, state-sends}
use Rattle.protocol_laws.proofs.RangesStage.{epoch-below, proposed-in_range}
use Rattle.protocol_laws.proofs.Sendable.{IsSendable}
use Rattle.protocol_laws.proofs.Sends.{Each, each-none, each-one, each-both, each-goes_on}

-- an answer to the sender of a message
answer : (from : ℕ) (message told : Message) → InRange told → Each (IsSendable (inputs.Deliver from message)) (to from told ∷ [])
answer from message told k = each-one (IsSendable (inputs.Deliver from message)) _ (record { message = k; to = λ sender. sender })

seen-sends : (input : Input) (c : Coordinator) (config : Membership) (new : Coordinator) (sent : List Outgoing) → Sees c config new sent → IsCoordinatorInRange c → IsMembership config → Each (IsSendable input) sent
seen-sends input c config _ _ (Replaces n) k m = asks-leader input c config k m
seen-sends input c config _ _ (KeepsView n) k m = each-none (IsSendable input)

-- a case that goes on
going-sends : (input : Input) (c : Coordinator) (txn : TxId) (case : Case) (sends : List Outgoing) (out : Out Coordinator) → GoesOn c txn case sends out → IsCoordinatorInRange c → IsCaseInRange txn case → Each (IsSendable input) sends
    → Each (IsSendable input) out.sends
going-sends input c txn case sends out goes k new s = each-goes_on (IsSendable input) c txn case sends out goes s (λ complete noted. decision-sends input c.views txn case k.views new)

going-notes : (c : Coordinator) (txn : TxId) (case : Case) (sends : List Outgoing) (out : Out Coordinator) → GoesOn c txn case sends out → IsCaseInRange txn case → All IsNoteInRange out.notes
going-notes c txn case sends _ (Waiting w) new = All-nil IsNoteInRange
going-notes c txn case sends _ (Decides d) new = All-cons IsNoteInRange _ [] (new.txn, decision-in_range case.parts new.parts) (All-nil IsNoteInRange)

one-note : (note : Note) → IsNoteInRange note → All IsNoteInRange (note ∷ [])
one-note note k = All-cons IsNoteInRange note [] k (All-nil IsNoteInRange)

pub sent-in_range : (tests : Tests) (version : ℕ) (node : NodeRecord) (input : Input) (out : Out NodeRecord) → Effect tests version node input out → IsNodeInRange node → IsInputInRange input → Each (IsSendable input) out.sends
sent-in_range tests version node input out (Rests _ told notices r) k i = notices-sendable notices r (mark-few node k) (epoch-small node.promised k.promised)
sent-in_range tests version node input out (Certifies payload l case e) k i = case-sends (inputs.Certify payload) node.coordinator.views (next_txn node) case k.coordinator.views (certified-in_range node payload case k l e i.1)
sent-in_range tests version node input out (TakesOver txn row found unknown none may case e) k i = case-sends (inputs.Take txn) node.coordinator.views txn case k.coordinator.views (taken-in_range node txn row case k found e)
sent-in_range tests version node input out Nudges k i =
    each-both (IsSendable inputs.Nudge) (resend node.coordinator) (ask_stage node.prober) (resends inputs.Nudge node.coordinator k.coordinator) (stage-sends inputs.Nudge node.prober k.prober)
sent-in_range tests version node input out (Moves shard want) k i = each-one (IsSendable (inputs.Move shard want)) _ (to_service (inputs.Move shard want) (Last shard) (shard-of_move shard want i.0))
sent-in_range tests version node input out (Lowers shard want epoch probed low e some above) k i =
    let s : IsStageInRange (Probing shard want epoch probed low) = subst IsStageInRange e k.prober in
    each-one (IsSendable inputs.Lower) _ (to_service inputs.Lower (At shard (probed.epoch - 1)) (shard-of_move shard want s.0, epoch-below probed.epoch s.2.epoch above))
sent-in_range tests version node input out (Reads name lies) k i = each-none (IsSendable (inputs.ReadName name))
sent-in_range tests version node input out (Asks shard) k i = each-one (IsSendable (inputs.Ask shard)) _ (to_service (inputs.Ask shard) (Last shard) i.0)
sent-in_range tests version node input out (AnswersAgain from epoch txn shards part row l e a found) k i =
    answer from (Prepare epoch txn shards part) (PrepareAck node.shard epoch row.entry) (k.shard, i.0.0, row-in_range node.rows txn row k.rows found)
sent-in_range tests version node input out (Appends from epoch txn shards part l e a none room entry is) k i =
    answer from (Prepare epoch txn shards part) (PrepareAck node.shard epoch entry) (k.shard, i.0.0, (appended-in_range tests node.rows txn shards part entry is none room i.0.1 i.0.2 i.0.3 k.rows).1)
sent-in_range tests version node input out (Votes from shard epoch entry case part view opened at leads fits after goes) k i =
    let o = open-in_range node.coordinator entry.txn shard case part view k.coordinator opened in
    let message : Message = PrepareAck shard epoch entry in
    going-sends (inputs.Deliver from message) node.coordinator entry.txn (with_part case (voted part entry)) (accept (first_entry part.entry entry) part.acks (Some view)) after goes k.coordinator
    (voted-in_range entry.txn case part entry o.case o.part i.0.2)
    (accepts-sent (inputs.Deliver from message) (first_entry part.entry entry) part.acks view (first_entry-in_range part.entry entry o.part.entry i.0.2) o.view)
sent-in_range tests version node input out (Acknowledges from shard epoch slot txn case part view opened at follows votes after goes) k i =
    let o = open-in_range node.coordinator txn shard case part view k.coordinator opened in
    let input : Input = inputs.Deliver from (AcceptAck shard epoch slot txn) in
    going-sends input node.coordinator txn (with_part case (acknowledged part from)) [] after goes k.coordinator (acknowledged-in_range txn case part from o.case o.part) (each-none (IsSendable input))
sent-in_range tests version node input out (Changes from config n) k i = asks-leader (inputs.Deliver from (ConfigChange config)) node.coordinator config k.coordinator i.0
sent-in_range tests version node input out (Learns from config coordinator sent stage asked sees hears) k i =
    let input : Input = inputs.Deliver from (Stored config) in
    each-both (IsSendable input) sent asked (seen-sends input node.coordinator config coordinator sent sees k.coordinator i.0) (heard-sends input node.name config _ node.prober stage asked hears i.0 k.prober)
sent-in_range tests version node input out (Keeps from txn decision h s) k i = each-none (IsSendable _)
sent-in_range tests version node input out (Accepts from epoch entry f e t) k i = answer from (Accept epoch entry) (AcceptAck node.shard epoch entry.slot entry.txn) (k.shard, i.0.0, i.0.1.slot, i.0.1.txn)
sent-in_range tests version node input out (Marks from epoch slot txn commit e h) k i = each-none (IsSendable _)
sent-in_range tests version node input out (Promises from epoch l) k i = answer from (Probe epoch) (ProbeAck epoch node.state) (i.0, k.state)
sent-in_range tests version node input out (Chooses from state shard want epoch probed low e member le) k i =
    let input : Input = inputs.Deliver from (ProbeAck epoch state) in
    each-one (IsSendable input) _ (to_service input (Cas (proposed node.name shard epoch want from)) (proposed-in_range node shard want epoch probed low from k e member))
sent-in_range tests version node input out (FindsLow from state shard want epoch probed low e member lt) k i = each-none (IsSendable _)
sent-in_range tests version node input out (Leads from config s r p l) k i = state-sends _ version config node.rows i.0 k.rows
sent-in_range tests version node input out (Follows from config rows v m) k i = each-none (IsSendable _)
sent-in_range tests version node input out (Gathers from config number pieces rows gathering v m t g w) k i = each-none (IsSendable _)
sent-in_range tests version node input out (FollowsPieces from config number pieces rows gathering v m t g w) k i = each-none (IsSendable _)

pub noted-in_range : (tests : Tests) (version : ℕ) (node : NodeRecord) (input : Input) (out : Out NodeRecord) → Effect tests version node input out → IsNodeInRange node → IsInputInRange input → All IsNoteInRange out.notes
noted-in_range tests version node input out (Certifies payload l case e) k i = one-note _ (next_txn-in_range node k l, i.1)
noted-in_range tests version node input out (TakesOver txn row found unknown none may case e) k i = one-note _ (held_txn-in_range node.rows txn row k.rows found)
noted-in_range tests version node input out (Reads name lies) k i = one-note _ tt
noted-in_range tests version node input out (Votes from shard epoch entry case part view opened at leads fits after goes) k i =
    let o = open-in_range node.coordinator entry.txn shard case part view k.coordinator opened in
    going-notes node.coordinator entry.txn _ _ after goes (voted-in_range entry.txn case part entry o.case o.part i.0.2)
noted-in_range tests version node input out (Acknowledges from shard epoch slot txn case part view opened at follows votes after goes) k i =
    let o = open-in_range node.coordinator txn shard case part view k.coordinator opened in
    going-notes node.coordinator txn _ _ after goes (acknowledged-in_range txn case part from o.case o.part)
noted-in_range tests version node input out _ k i = All-nil IsNoteInRange
