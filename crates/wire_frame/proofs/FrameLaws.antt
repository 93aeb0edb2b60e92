-- What is read is spelled so, and what is spelled so is read.
use Rattle.std.proofs.Common.{◌≡◌, ℕ, ◌<◌, ◌≤◌, Bool, true, false, cond, eqb, List, [], ◌∷◌, ◌++◌, length, Option, Some, None, Result, Ok, Err, refl, sym, ap, subst, ◌∙◌, arith, ◌⊎◌, inl, inr}
use Rattle.std.specs.Prelude.{slice_index, IsTrue, IfOk}
use Rattle.std.proofs.lemmas.Bool.{eqb-true, eqb-false}
use Rattle.std.proofs.lemmas.List.{append-nil, nil_from_length}
use Rattle.tcs_terms.specs.declared.kinds.Kind.{Kind}
use Rattle.tcs_terms.specs.declared.kinds.Kind.TheVariants as kinds
use Rattle.tcs_terms.specs.declared.messages.Message.{Message}
use Rattle.tcs_terms.specs.declared.messages.Message.TheVariants.{Prepare, PrepareAck, Accept, AcceptAck, DecisionFor, Probe, ProbeAck, NewConfig, NewState, ConfigChange, Last, At, Cas, Stored, OutcomeOf, Refused, StatePiece}
use Rattle.tcs_terms.specs.Kinds as Kinds
use Rattle.tcs_terms.specs.Kinds.{kind_number}
use Rattle.tcs_terms.specs.Messages.{InRange}
use Rattle.wire_frame.specs.declared.faults.FrameReason.{FrameReason}
use Rattle.wire_frame.specs.declared.faults.FrameReason.TheVariants as reasons
use Rattle.wire_frame.specs.declared.faults.FrameReason.TheVariants.{Trailing}
use Rattle.wire_frame.specs.declared.faults.Fault.{Fault}
use Rattle.wire_frame.specs.declared.faults.DecodeFault.{DecodeFault}
use Rattle.wire_frame.specs.declared.faults.DecodeFault.TheVariants.{Bad, OutOfMemory}
use Rattle.wire_frame.specs.Spelling.{kind_of, spell_rest, spell}
use Rattle.wire_frame.specs.Reading.{Reads, fault_at, ◌>>=◌}
use Rattle.wire_frame.specs.Parts.{is_up_to}
use Rattle.wire_frame.specs.Frames.{body_at, message_at, read_frame, reason_and_place, fault, Decodes, IsMemoryOr}
use Rattle.wire_frame.proofs.Fields.{IsBytes, Takes, Takes-then, nothing_yet, on, bind_ok, tested_ok, goes}
use Rattle.wire_frame.proofs.KindFields.{numbered, is_numbered, kind_field}
use Rattle.wire_frame.proofs.MessageFields as fields
use Rattle.wire_frame.proofs.MessageFields.{TakesKind}

body_takes : (kind : Kind) → TakesKind kind (body_at kind)
unfolding body_at
body_takes kinds.Prepare bytes x fits e = fields.prepare_takes bytes x fits e
body_takes kinds.PrepareAck bytes x fits e = fields.prepare_ack_takes bytes x fits e
body_takes kinds.Accept bytes x fits e = fields.accept_takes bytes x fits e
body_takes kinds.AcceptAck bytes x fits e = fields.accept_ack_takes bytes x fits e
body_takes kinds.Decision bytes x fits e = fields.decision_for_takes bytes x fits e
body_takes kinds.Probe bytes x fits e = fields.probe_takes bytes x fits e
body_takes kinds.ProbeAck bytes x fits e = fields.probe_ack_takes bytes x fits e
body_takes kinds.NewConfig bytes x fits e = fields.new_config_takes bytes x fits e
body_takes kinds.NewState bytes x fits e = fields.new_state_takes bytes x fits e
body_takes kinds.ConfigChange bytes x fits e = fields.config_change_takes bytes x fits e
body_takes kinds.Last bytes x fits e = fields.last_takes bytes x fits e
body_takes kinds.At bytes x fits e = fields.at_takes bytes x fits e
body_takes kinds.Cas bytes x fits e = fields.cas_takes bytes x fits e
body_takes kinds.Stored bytes x fits e = fields.stored_takes bytes x fits e
body_takes kinds.Outcome bytes x fits e = fields.outcome_takes bytes x fits e
body_takes kinds.Refused bytes x fits e = fields.refused_takes bytes x fits e
body_takes kinds.StatePiece bytes x fits e = fields.state_piece_takes bytes x fits e

body_again : (m : Message) (rest : List ℕ) → InRange m → body_at (Kinds.kind_of m) (spell_rest m ++ rest) ≡ Ok (m, rest)
unfolding body_at
body_again (Prepare epoch txn shards payload) rest is = fields.prepare_again epoch txn shards payload rest is
body_again (PrepareAck shard epoch entry) rest is = fields.prepare_ack_again shard epoch entry rest is
body_again (Accept epoch entry) rest is = fields.accept_again epoch entry rest is
body_again (AcceptAck shard epoch slot txn) rest is = fields.accept_ack_again shard epoch slot txn rest is
body_again (DecisionFor epoch slot txn commit) rest is = fields.decision_for_again epoch slot txn commit rest is
body_again (Probe epoch) rest is = fields.probe_again epoch rest is
body_again (ProbeAck epoch state) rest is = fields.probe_ack_again epoch state rest is
body_again (NewConfig config) rest is = fields.new_config_again config rest is
body_again (NewState config rows) rest is = fields.new_state_again config rows rest is
body_again (ConfigChange config) rest is = fields.config_change_again config rest is
body_again (Last shard) rest is = fields.last_again shard rest is
body_again (At shard epoch) rest is = fields.at_again shard epoch rest is
body_again (Cas config) rest is = fields.cas_again config rest is
body_again (Stored config) rest is = fields.stored_again config rest is
body_again (OutcomeOf txn decision) rest is = fields.outcome_again txn decision rest is
body_again (Refused kind why mark) rest is = fields.refused_again kind why mark rest is
body_again (StatePiece config piece pieces rows) rest is = fields.state_piece_again config piece pieces rows rest is

-- the first byte of a message's spelling is its kind
pub kind_is : (m : Message) → slice_index (spell m) 0 ≡ kind_of m
unfolding spell
kind_is m = refl

-- it is from 1 to 17
pub is_kind_of : (m : Message) → IsTrue (is_up_to 17 (kind_of m))
is_kind_of m = is_numbered (Kinds.kind_of m)

message_takes : (bytes : List ℕ) (x : Message × List ℕ) → IsBytes bytes → message_at bytes ≡ Ok x → Takes bytes (spell x.0) x.1 × InRange x.0
unfolding message_at spell
message_takes bytes x fits e =
    on (kind_field reasons.Kind) _ x bytes [] bytes (nothing_yet bytes fits) e (λ kind mid so_far is_kind e.
    let t = body_takes kind mid x so_far.rest_fits e in
    (subst (λ (k : Kind). Takes bytes (kind_number k ∷ spell_rest x.0) x.1) (sym t.1.1) (Takes-then bytes (numbered kind) mid (spell_rest x.0) x.1 so_far t.0), t.1.0))

message_again : (m : Message) (rest : List ℕ) → InRange m → message_at (spell m ++ rest) ≡ Ok (m, rest)
unfolding message_at spell
message_again m rest is = goes (kind_field reasons.Kind) _ (Kinds.kind_of m) (spell_rest m ++ rest) tt ∙ body_again m rest is

-- ---- frames

pub frame_takes : (bytes : List ℕ) (m : Message) → IsBytes bytes → read_frame bytes ≡ Ok m → InRange m × (bytes ≡ spell m)
unfolding read_frame
frame_takes bytes m fits e =
    let b = bind_ok (message_at bytes) (λ x. cond (eqb (length x.1) 0) (Ok x.0) (Err (fault_at Trailing x.1))) m e in
    let g = tested_ok (eqb (length b.0.1) 0) (fault_at Trailing b.0.1) b.0.0 m b.2 in
    let t = message_takes bytes b.0 fits b.1 in
    let nothing : b.0.1 ≡ [] = nil_from_length b.0.1 (eqb-true _ _ g.0) in
    let whole : bytes ≡ spell b.0.0 = t.0.parts ∙ ap (λ (r : List ℕ). spell b.0.0 ++ r) nothing ∙ append-nil (spell b.0.0) in
    subst (λ (n : Message). InRange n × (bytes ≡ spell n)) g.1 (t.1, whole)

whole_message : (m : Message) → InRange m → message_at (spell m) ≡ Ok (m, [])
whole_message m is = ap message_at (sym (append-nil (spell m))) ∙ message_again m [] is

pub frame_again : (m : Message) → InRange m → read_frame (spell m) ≡ Ok m
unfolding read_frame
frame_again m is = ap (λ (r : Reads Message). r >>= λ x. cond (eqb (length x.1) 0) (Ok x.0) (Err (fault_at Trailing x.1))) (whole_message m is)

-- ---- the laws of spelling

abbrev message_of : Message → Result Message Fault → Message
message_of m (Ok n) = n
message_of m (Err f) = m

pub one_message : (m n : Message) → InRange m → InRange n → spell m ≡ spell n → m ≡ n
one_message m n is_m is_n same =
    ap (message_of m) (sym (frame_again m is_m) ∙ ap read_frame same ∙ frame_again n is_n)

abbrev read_of : Message × List ℕ → Reads Message → Message × List ℕ
read_of x (Ok y) = y
read_of x (Err f) = x

pub begins_none : (m n : Message) (more : List ℕ) → InRange m → InRange n → spell m ++ more ≡ spell n → (m ≡ n) × (more ≡ [])
begins_none m n more is_m is_n same =
    let e : (m, more) ≡ (n, []) = ap (read_of (m, more)) (sym (message_again m more is_m) ∙ ap message_at same ∙ whole_message n is_n) in
    (ap (λ (x : Message × List ℕ). x.0) e, ap (λ (x : Message × List ℕ). x.1) e)

-- ---- what decoding comes to

pub is_found : (bytes : List ℕ) (r : Result Message DecodeFault) → IsBytes bytes → Decodes bytes r → IfOk r (λ m. InRange m × (bytes ≡ spell m))
is_found bytes (Ok m) fits e = frame_takes bytes m fits e
is_found bytes (Err f) fits e = tt

no_fault : (bytes : List ℕ) (m : Message) → read_frame bytes ≡ Ok m → fault bytes ≡ None
unfolding fault
no_fault bytes m e = ap (reason_and_place bytes) e

not_both : (o : Option (FrameReason × ℕ)) (x : FrameReason × ℕ) → o ≡ None → o ≡ Some x → ⊥
not_both o x none some = cc

pub is_only : (bytes : List ℕ) (m : Message) (r : Result Message DecodeFault) → InRange m → bytes ≡ spell m → Decodes bytes r → IsMemoryOr m r
is_only bytes m (Ok n) is same e = ap (message_of m) (sym e ∙ ap read_frame same ∙ frame_again m is)
is_only bytes m (Err (Bad reason place)) is same e =
    not_both (fault bytes) (reason, place) (no_fault bytes m (ap read_frame same ∙ frame_again m is)) e
is_only bytes m (Err OutOfMemory) is same e = tt
