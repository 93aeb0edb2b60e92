-- What a node hears, and the notice to who sent it.
use Rattle.std.proofs.Common.{◌≡◌, ℕ, Bool, true, false, cond, List, [], ◌∷◌, ◌++◌, refl, sym, ◌∙◌, ap, append_assoc, append-nil}
use Rattle.tcs_terms.specs.declared.ids.TxId.{TxId}
use Rattle.tcs_terms.specs.declared.inputs.Handled.{Handled}
use Rattle.tcs_terms.specs.declared.inputs.Handled.TheVariants.{Acted, Stale, Held, Full}
use Rattle.tcs_terms.specs.declared.inputs.Input.{Input}
use Rattle.tcs_terms.specs.declared.inputs.Input.TheVariants as inputs
use Rattle.tcs_terms.specs.declared.inputs.Result1.TheVariants as results
use Rattle.tcs_terms.specs.declared.logs.Row.{Row}
use Rattle.tcs_terms.specs.declared.messages.Message.{Message}
use Rattle.tcs_terms.specs.declared.messages.Message.TheVariants.{Prepare, PrepareAck, Accept, AcceptAck, DecisionFor, Probe, ProbeAck, NewConfig, NewState, ConfigChange, Last, At, Cas, Stored, OutcomeOf, Refused, StatePiece}
use Rattle.tcs_terms.specs.declared.messages.Outgoing.{Outgoing}
use Rattle.tcs_terms.specs.declared.votes.Decision.{Decision}
use Rattle.tcs_terms.specs.Places.{Membership}
use Rattle.tcs_laws.specs.Certification.{Tests}
use Rattle.wire_frame.specs.Spelling.{kind_of}
use Rattle.protocol.specs.Choices.{when}
use Rattle.protocol.specs.FoundNothing.{has_acted}
use Rattle.protocol.specs.Notices.{notice_of, with_notice}
use Rattle.protocol.specs.Outcomes.{Out}
use Rattle.protocol.specs.Records.{Piece, NodeRecord}
use Rattle.protocol.specs.ShardRules.{on_decision, on_new_state, on_state_piece}
use Rattle.protocol.specs.Table.{on_outcome, receive, step}
use Rattle.protocol_laws.specs.Effect.{is_answered, notices_to, Effect, Certifies, TakesOver, Reads, Votes, Acknowledges}
use Rattle.protocol_laws.proofs.EffectOf.{effect_of}
use Rattle.protocol_laws.proofs.RefusedInputs.{step-refused}
use Rattle.node_core.specs.Hearing.{hear}

-- `receive` is `hear`, with the notice in front of what it sends
pub record IsHeard (tests : Tests) (version : ℕ) (node : NodeRecord) (from : ℕ) (message : Message) : Type 0 where
  pub answer : (receive tests version node from message).answer ≡ (hear tests version node from message).answer
  pub kept : (receive tests version node from message).kept ≡ (hear tests version node from message).kept
  pub sends : (receive tests version node from message).sends
      ≡ notices_to from message (hear tests version node from message).answer node.promised ++ (hear tests version node from message).sends
  pub notes : (receive tests version node from message).notes ≡ (hear tests version node from message).notes

pub is_heard : (tests : Tests) (version : ℕ) (node : NodeRecord) (from : ℕ) (message : Message) → IsHeard tests version node from message
unfolding receive with_notice
is_heard tests version node from (Prepare epoch txn shards part) = record { answer = refl; kept = refl; sends = refl; notes = refl }
is_heard tests version node from (PrepareAck shard epoch entry) = record { answer = refl; kept = refl; sends = refl; notes = refl }
is_heard tests version node from (Accept epoch entry) = record { answer = refl; kept = refl; sends = refl; notes = refl }
is_heard tests version node from (AcceptAck shard epoch slot txn) = record { answer = refl; kept = refl; sends = refl; notes = refl }
is_heard tests version node from (DecisionFor epoch slot txn commit) = record { answer = refl; kept = refl; sends = refl; notes = refl }
is_heard tests version node from (Probe epoch) = record { answer = refl; kept = refl; sends = refl; notes = refl }
is_heard tests version node from (ProbeAck epoch state) = record { answer = refl; kept = refl; sends = refl; notes = refl }
is_heard tests version node from (NewConfig config) = record { answer = refl; kept = refl; sends = refl; notes = refl }
is_heard tests version node from (NewState config rows) = record { answer = refl; kept = refl; sends = refl; notes = refl }
is_heard tests version node from (ConfigChange config) = record { answer = refl; kept = refl; sends = refl; notes = refl }
is_heard tests version node from (Last shard) = record { answer = refl; kept = refl; sends = refl; notes = refl }
is_heard tests version node from (At shard epoch) = record { answer = refl; kept = refl; sends = refl; notes = refl }
is_heard tests version node from (Cas config) = record { answer = refl; kept = refl; sends = refl; notes = refl }
is_heard tests version node from (Stored config) = record { answer = refl; kept = refl; sends = refl; notes = refl }
is_heard tests version node from (OutcomeOf txn decision) = record { answer = refl; kept = refl; sends = refl; notes = refl }
is_heard tests version node from (Refused kind why mark) = record { answer = refl; kept = refl; sends = refl; notes = refl }
is_heard tests version node from (StatePiece config number pieces rows) = record { answer = refl; kept = refl; sends = refl; notes = refl }

-- where nothing more is sent than stands in front, nothing is sent
none_behind : {X : Type 0} (front back : List X) → front ++ back ≡ front → back ≡ []
none_behind [] back h = h
none_behind (x ∷ front) back h = none_behind front back (cc h)

receive_refused : (tests : Tests) (version : ℕ) (node : NodeRecord) (from : ℕ) (message : Message) → has_acted (results.Node (receive tests version node from message).answer) ≡ false
    → (receive tests version node from message).sends ≡ notices_to from message (receive tests version node from message).answer node.promised
unfolding step
receive_refused tests version node from message h = (step-refused tests version node (inputs.Deliver from message) h).sent

-- a rule that does not act sends nothing of its own
hear_refused : (tests : Tests) (version : ℕ) (node : NodeRecord) (from : ℕ) (message : Message) → has_acted (results.Node (hear tests version node from message).answer) ≡ false
    → (hear tests version node from message).sends ≡ []
hear_refused tests version node from message h =
    let heard = is_heard tests version node from message in
    none_behind (notices_to from message (hear tests version node from message).answer node.promised) (hear tests version node from message).sends
    (sym heard.sends ∙ rw (← heard.answer) (receive_refused tests version node from message (rw heard.answer h)))

-- so that its notice may stand behind
notice_last : (message : Message) (answer : Handled) (from mark : ℕ) (sends : List Outgoing) → (has_acted (results.Node answer) ≡ false → sends ≡ [])
    → sends ++ notices_to from message answer mark ≡ notices_to from message answer mark ++ sends
notice_last message answer from mark sends refused = go (is_answered message) answer refused where
  rests : (front : List Outgoing) → sends ≡ [] → sends ++ front ≡ front ++ sends
  rests front none = rw none (sym (append-nil front))

  go : (b : Bool) (told : Handled) → (has_acted (results.Node told) ≡ false → sends ≡ [])
      → sends ++ cond b (notice_of told from (kind_of message) mark) [] ≡ cond b (notice_of told from (kind_of message) mark) [] ++ sends
  go true Acted refused = append-nil sends
  go true (Stale m) refused = rests _ (refused refl)
  go true (Held m) refused = rests _ (refused refl)
  go true Full refused = rests _ (refused refl)
  go false told refused = append-nil sends

-- what was sent before, by the rule, and by the notice
pub received : (tests : Tests) (version : ℕ) (node : NodeRecord) (from : ℕ) (message : Message) (before after told : List Outgoing) (handled : Handled) (promised : ℕ)
    → handled ≡ (hear tests version node from message).answer → promised ≡ node.promised
    → after ≡ before ++ (hear tests version node from message).sends
    → told ≡ after ++ notices_to from message handled promised
    → told ≡ before ++ (receive tests version node from message).sends
received tests version node from message before after told handled promised answer mark ruled noticed =
    let out = hear tests version node from message in
    noticed ∙ rw (ruled, answer, mark, (is_heard tests version node from message).sends)
    (append_assoc before out.sends _
    ∙ ap (λ (more : List Outgoing). before ++ more) (notice_last message out.answer from node.promised out.sends (hear_refused tests version node from message)))

-- ---- what the rule of a message notes, and what some send

-- whether a message may end a case, which is noted
abbrev pub may_decide : Message → Bool
may_decide (Prepare epoch txn shards part) = false
may_decide (PrepareAck shard epoch entry) = true
may_decide (Accept epoch entry) = false
may_decide (AcceptAck shard epoch slot txn) = true
may_decide (DecisionFor epoch slot txn commit) = false
may_decide (Probe epoch) = false
may_decide (ProbeAck epoch state) = false
may_decide (NewConfig config) = false
may_decide (NewState config rows) = false
may_decide (ConfigChange config) = false
may_decide (Last shard) = false
may_decide (At shard epoch) = false
may_decide (Cas config) = false
may_decide (Stored config) = false
may_decide (OutcomeOf txn decision) = false
may_decide (Refused kind why mark) = false
may_decide (StatePiece config number pieces rows) = false

-- whether an input is a message that may not
abbrev only_hears : Input → Bool
only_hears (inputs.Certify payload) = false
only_hears (inputs.Take txn) = false
only_hears inputs.Nudge = false
only_hears (inputs.Move shard want) = false
only_hears inputs.Lower = false
only_hears (inputs.ReadName name) = false
only_hears (inputs.Ask shard) = false
only_hears (inputs.Deliver from message) = cond (may_decide message) false true

effect_silent : (tests : Tests) (version : ℕ) (node : NodeRecord) (input : Input) (out : Out NodeRecord) → only_hears input ≡ true → Effect tests version node input out → out.notes ≡ []
effect_silent tests version node input out h (Certifies payload low case is) = absurd (cc h)
effect_silent tests version node input out h (TakesOver txn row found undecided none exists case is) = absurd (cc h)
effect_silent tests version node input out h (Reads name lies) = absurd (cc h)
effect_silent tests version node input out h (Votes from shard epoch entry case part view opened a b c after goes) = absurd (cc h)
effect_silent tests version node input out h (Acknowledges from shard epoch slot txn case part view opened a b c after goes) = absurd (cc h)
effect_silent tests version node input out h _ = refl

pub hear_silent : (tests : Tests) (version : ℕ) (node : NodeRecord) (from : ℕ) (message : Message) → may_decide message ≡ false → (hear tests version node from message).notes ≡ []
unfolding step
hear_silent tests version node from message h =
    sym (is_heard tests version node from message).notes
    ∙ effect_silent tests version node (inputs.Deliver from message) _ (rw h refl) (effect_of tests version node (inputs.Deliver from message))

when_unsent : {A : Type 0} (b : Bool) (x y : Out A) → x.sends ≡ [] → y.sends ≡ [] → (when b x y).sends ≡ []
unfolding when
when_unsent true x y one other = one
when_unsent false x y one other = other

pub outcome_unsent : (node : NodeRecord) (txn : TxId) (decision : Decision) → (on_outcome node txn decision).sends ≡ []
unfolding on_outcome
outcome_unsent node txn decision = when_unsent _ _ _ refl refl

pub decision_unsent : (node : NodeRecord) (epoch slot : ℕ) (txn : TxId) (commit : Bool) → (on_decision node epoch slot txn commit).sends ≡ []
unfolding on_decision
decision_unsent node epoch slot txn commit = when_unsent _ _ _ refl refl

pub new_state_unsent : (version : ℕ) (node : NodeRecord) (config : Membership) (rows : List Row) → (on_new_state version node config rows).sends ≡ []
unfolding on_new_state
new_state_unsent version node config rows = when_unsent _ _ _ refl refl

pub state_piece_unsent : (version : ℕ) (node : NodeRecord) (config : Membership) (pieces : ℕ) (piece : Piece) → (on_state_piece version node config pieces piece).sends ≡ []
unfolding on_state_piece
state_piece_unsent version node config pieces piece = when_unsent _ _ _ (when_unsent _ _ _ refl refl) refl
