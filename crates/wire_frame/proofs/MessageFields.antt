-- Messages of each kind are read as they are spelled.
use Rattle.std.proofs.Common.{◌≡◌, ℕ, ◌≤◌, Bool, ◌&&◌, leb, List, [], ◌∷◌, ◌++◌, Option, Ok, refl, ap, ◌∙◌, append_assoc, arith}
use Rattle.std.specs.Prelude.{IsTrue}
use Rattle.std.proofs.lemmas.Bool.{and_parts, and_from, le-leb, leb-true}
use Rattle.tcs_terms.specs.declared.kinds.Kind.{Kind}
use Rattle.tcs_terms.specs.declared.kinds.Kind.TheVariants as kinds
use Rattle.tcs_terms.specs.declared.messages.Message.{Message}
use Rattle.tcs_terms.specs.declared.messages.Message.TheVariants.{Prepare, PrepareAck, Accept, AcceptAck, DecisionFor, Probe, ProbeAck, NewConfig, NewState, ConfigChange, Last, At, Cas, Stored, OutcomeOf, Refused, StatePiece}
use Rattle.tcs_terms.specs.Kinds.{kind_of, kind_number}
use Rattle.tcs_terms.specs.Messages.{InRange}
use Rattle.wire_frame.specs.declared.faults.FrameReason.TheVariants.{Range}
use Rattle.wire_frame.specs.Spelling.{two, four, counted, spell_txn, spell_maybe, spell_entry, spell_rows, spell_config, spell_decision, spell_rest}
use Rattle.wire_frame.specs.Reading.{Reads}
use Rattle.wire_frame.specs.Parts.{is_up_to}
use Rattle.wire_frame.specs.Frames.{state_at, piece_at, pieces_at, prepare_at, prepare_ack_at, accept_at, accept_ack_at, decision_for_at, probe_at, probe_ack_at, new_config_at, new_state_at, config_change_at, last_at, at_at, cas_at, stored_at, outcome_at, refused_at, state_piece_at}
use Rattle.wire_frame.proofs.Counts.{few_rows}
use Rattle.wire_frame.proofs.Fields.{IsBytes, Takes, IsField, nothing_yet, on, all_read, goes, tested_field, restated, regroup3, regroup4}
use Rattle.wire_frame.proofs.KindFields.{is_numbered, kind_there, kind_field}
use Rattle.wire_frame.proofs.NumberFields.{up_to, two_field, four_field, epoch_field, slot_field, shard_field, txn_field}
use Rattle.wire_frame.proofs.SetFields.{shards_field, config_field}
use Rattle.wire_frame.proofs.PayloadFields.{maybe_field}
use Rattle.wire_frame.proofs.EntryFields.{entry_field, rows_field}
use Rattle.wire_frame.proofs.OutcomeFields.{committed, reasoned, decision_field, commit_field, why_field}

-- a message of a kind, in range
abbrev pub OfKind : Kind → Message → Type 0
OfKind kind m = InRange m × (kind_of m ≡ kind)

-- a reader of the messages of a kind gives what is spelled so
abbrev pub TakesKind : Kind → (List ℕ → Reads Message) → Type 0
TakesKind kind read = (bytes : List ℕ) (x : Message × List ℕ) → IsBytes bytes → read bytes ≡ Ok x → Takes bytes (spell_rest x.0) x.1 × OfKind kind x.0

-- a message is read again
abbrev pub ReadAgain : (List ℕ → Reads Message) → Message → Type 0
ReadAgain read m = (rest : List ℕ) → InRange m → read (spell_rest m ++ rest) ≡ Ok (m, rest)

pub prepare_takes : TakesKind kinds.Prepare prepare_at
unfolding prepare_at
prepare_takes bytes x fits e =
    on epoch_field _ x bytes [] bytes (nothing_yet bytes fits) e (λ epoch mid so_far is_epoch e.
    on txn_field _ x bytes _ mid so_far e (λ txn mid so_far is_txn e.
    on shards_field _ x bytes _ mid so_far e (λ shards mid so_far are e.
    on maybe_field _ x bytes _ mid so_far e (λ payload rest so_far is e.
    all_read spell_rest (OfKind kinds.Prepare) bytes (Prepare epoch txn shards payload) rest x e so_far ((is_epoch, is_txn, are, is), refl)))))

pub prepare_again : (epoch : ℕ) (txn : _) (shards : List ℕ) (payload : Option _) → ReadAgain prepare_at (Prepare epoch txn shards payload)
unfolding prepare_at
prepare_again epoch txn shards payload rest is =
    ap prepare_at (regroup4 (four epoch) (spell_txn txn) (counted shards) (spell_maybe payload) rest)
    ∙ goes epoch_field _ epoch (spell_txn txn ++ (counted shards ++ (spell_maybe payload ++ rest))) is.0
    ∙ goes txn_field _ txn (counted shards ++ (spell_maybe payload ++ rest)) is.1
    ∙ goes shards_field _ shards (spell_maybe payload ++ rest) is.2
    ∙ goes maybe_field _ payload rest is.3

pub prepare_ack_takes : TakesKind kinds.PrepareAck prepare_ack_at
unfolding prepare_ack_at
prepare_ack_takes bytes x fits e =
    on shard_field _ x bytes [] bytes (nothing_yet bytes fits) e (λ shard mid so_far is_shard e.
    on epoch_field _ x bytes _ mid so_far e (λ epoch mid so_far is_epoch e.
    on entry_field _ x bytes _ mid so_far e (λ entry rest so_far is e.
    all_read spell_rest (OfKind kinds.PrepareAck) bytes (PrepareAck shard epoch entry) rest x e so_far ((is_shard, is_epoch, is), refl))))

pub prepare_ack_again : (shard epoch : ℕ) (entry : _) → ReadAgain prepare_ack_at (PrepareAck shard epoch entry)
unfolding prepare_ack_at
prepare_ack_again shard epoch entry rest is =
    ap (λ (w : List ℕ). prepare_ack_at (shard ∷ w)) (append_assoc (four epoch) (spell_entry entry) rest)
    ∙ goes shard_field _ shard (four epoch ++ (spell_entry entry ++ rest)) is.0
    ∙ goes epoch_field _ epoch (spell_entry entry ++ rest) is.1
    ∙ goes entry_field _ entry rest is.2

pub accept_takes : TakesKind kinds.Accept accept_at
unfolding accept_at
accept_takes bytes x fits e =
    on epoch_field _ x bytes [] bytes (nothing_yet bytes fits) e (λ epoch mid so_far is_epoch e.
    on entry_field _ x bytes _ mid so_far e (λ entry rest so_far is e.
    all_read spell_rest (OfKind kinds.Accept) bytes (Accept epoch entry) rest x e so_far ((is_epoch, is), refl)))

pub accept_again : (epoch : ℕ) (entry : _) → ReadAgain accept_at (Accept epoch entry)
unfolding accept_at
accept_again epoch entry rest is =
    ap accept_at (append_assoc (four epoch) (spell_entry entry) rest)
    ∙ goes epoch_field _ epoch (spell_entry entry ++ rest) is.0
    ∙ goes entry_field _ entry rest is.1

pub accept_ack_takes : TakesKind kinds.AcceptAck accept_ack_at
unfolding accept_ack_at
accept_ack_takes bytes x fits e =
    on shard_field _ x bytes [] bytes (nothing_yet bytes fits) e (λ shard mid so_far is_shard e.
    on epoch_field _ x bytes _ mid so_far e (λ epoch mid so_far is_epoch e.
    on slot_field _ x bytes _ mid so_far e (λ slot mid so_far is_slot e.
    on txn_field _ x bytes _ mid so_far e (λ txn rest so_far is e.
    all_read spell_rest (OfKind kinds.AcceptAck) bytes (AcceptAck shard epoch slot txn) rest x e so_far ((is_shard, is_epoch, is_slot, is), refl)))))

pub accept_ack_again : (shard epoch slot : ℕ) (txn : _) → ReadAgain accept_ack_at (AcceptAck shard epoch slot txn)
unfolding accept_ack_at
accept_ack_again shard epoch slot txn rest is =
    ap (λ (w : List ℕ). accept_ack_at (shard ∷ w)) (regroup3 (four epoch) (two slot) (spell_txn txn) rest)
    ∙ goes shard_field _ shard (four epoch ++ (two slot ++ (spell_txn txn ++ rest))) is.0
    ∙ goes epoch_field _ epoch (two slot ++ (spell_txn txn ++ rest)) is.1
    ∙ goes slot_field _ slot (spell_txn txn ++ rest) is.2
    ∙ goes txn_field _ txn rest is.3

pub decision_for_takes : TakesKind kinds.Decision decision_for_at
unfolding decision_for_at
decision_for_takes bytes x fits e =
    on epoch_field _ x bytes [] bytes (nothing_yet bytes fits) e (λ epoch mid so_far is_epoch e.
    on slot_field _ x bytes _ mid so_far e (λ slot mid so_far is_slot e.
    on txn_field _ x bytes _ mid so_far e (λ txn mid so_far is e.
    on commit_field _ x bytes _ mid so_far e (λ commit rest so_far is_commit e.
    all_read spell_rest (OfKind kinds.Decision) bytes (DecisionFor epoch slot txn commit) rest x e so_far ((is_epoch, is_slot, is), refl)))))

pub decision_for_again : (epoch slot : ℕ) (txn : _) (commit : Bool) → ReadAgain decision_for_at (DecisionFor epoch slot txn commit)
unfolding decision_for_at
decision_for_again epoch slot txn commit rest is =
    ap decision_for_at (regroup4 (four epoch) (two slot) (spell_txn txn) (committed commit) rest)
    ∙ goes epoch_field _ epoch (two slot ++ (spell_txn txn ++ (committed commit ++ rest))) is.0
    ∙ goes slot_field _ slot (spell_txn txn ++ (committed commit ++ rest)) is.1
    ∙ goes txn_field _ txn (committed commit ++ rest) is.2
    ∙ goes commit_field _ commit rest tt

pub probe_takes : TakesKind kinds.Probe probe_at
unfolding probe_at
probe_takes bytes x fits e =
    on epoch_field _ x bytes [] bytes (nothing_yet bytes fits) e (λ epoch rest so_far is e.
    all_read spell_rest (OfKind kinds.Probe) bytes (Probe epoch) rest x e so_far (is, refl))

pub probe_again : (epoch : ℕ) → ReadAgain probe_at (Probe epoch)
unfolding probe_at
probe_again epoch rest is = goes epoch_field _ epoch rest is

state_field : IsField four (λ n. n ≤ 1000000) state_at
unfolding state_at
state_field = restated (λ n. n ≤ 1000000) (λ n h. leb-true n 1000000 h.1) (λ n h. (omega (arith, h), le-leb n 1000000 h)) (tested_field Range (λ n. leb n 1000000) four_field)

pub probe_ack_takes : TakesKind kinds.ProbeAck probe_ack_at
unfolding probe_ack_at
probe_ack_takes bytes x fits e =
    on epoch_field _ x bytes [] bytes (nothing_yet bytes fits) e (λ epoch mid so_far is_epoch e.
    on state_field _ x bytes _ mid so_far e (λ state rest so_far is e.
    all_read spell_rest (OfKind kinds.ProbeAck) bytes (ProbeAck epoch state) rest x e so_far ((is_epoch, is), refl)))

pub probe_ack_again : (epoch state : ℕ) → ReadAgain probe_ack_at (ProbeAck epoch state)
unfolding probe_ack_at
probe_ack_again epoch state rest is =
    ap probe_ack_at (append_assoc (four epoch) (four state) rest)
    ∙ goes epoch_field _ epoch (four state ++ rest) is.0
    ∙ goes state_field _ state rest is.1

pub new_config_takes : TakesKind kinds.NewConfig new_config_at
unfolding new_config_at
new_config_takes bytes x fits e =
    on config_field _ x bytes [] bytes (nothing_yet bytes fits) e (λ config rest so_far is e.
    all_read spell_rest (OfKind kinds.NewConfig) bytes (NewConfig config) rest x e so_far (is, refl))

pub new_config_again : (config : _) → ReadAgain new_config_at (NewConfig config)
unfolding new_config_at
new_config_again config rest is = goes config_field _ config rest is

pub new_state_takes : TakesKind kinds.NewState new_state_at
unfolding new_state_at
new_state_takes bytes x fits e =
    on config_field _ x bytes [] bytes (nothing_yet bytes fits) e (λ config mid so_far is_config e.
    on (rows_field 4096 (omega arith)) _ x bytes _ mid so_far e (λ rows rest so_far is e.
    all_read spell_rest (OfKind kinds.NewState) bytes (NewState config rows) rest x e so_far ((is_config, is.0), refl)))

pub new_state_again : (config : _) (rows : List _) → ReadAgain new_state_at (NewState config rows)
unfolding new_state_at
new_state_again config rows rest is =
    ap new_state_at (append_assoc (spell_config config) (spell_rows rows) rest)
    ∙ goes config_field _ config (spell_rows rows ++ rest) is.0
    ∙ goes (rows_field 4096 (omega arith)) _ rows rest (is.1, few_rows rows is.1.in_order)

pub config_change_takes : TakesKind kinds.ConfigChange config_change_at
unfolding config_change_at
config_change_takes bytes x fits e =
    on config_field _ x bytes [] bytes (nothing_yet bytes fits) e (λ config rest so_far is e.
    all_read spell_rest (OfKind kinds.ConfigChange) bytes (ConfigChange config) rest x e so_far (is, refl))

pub config_change_again : (config : _) → ReadAgain config_change_at (ConfigChange config)
unfolding config_change_at
config_change_again config rest is = goes config_field _ config rest is

pub last_takes : TakesKind kinds.Last last_at
unfolding last_at
last_takes bytes x fits e =
    on shard_field _ x bytes [] bytes (nothing_yet bytes fits) e (λ shard rest so_far is e.
    all_read spell_rest (OfKind kinds.Last) bytes (Last shard) rest x e so_far (is, refl))

pub last_again : (shard : ℕ) → ReadAgain last_at (Last shard)
unfolding last_at
last_again shard rest is = goes shard_field _ shard rest is

pub at_takes : TakesKind kinds.At at_at
unfolding at_at
at_takes bytes x fits e =
    on shard_field _ x bytes [] bytes (nothing_yet bytes fits) e (λ shard mid so_far is_shard e.
    on epoch_field _ x bytes _ mid so_far e (λ epoch rest so_far is e.
    all_read spell_rest (OfKind kinds.At) bytes (At shard epoch) rest x e so_far ((is_shard, is), refl)))

pub at_again : (shard epoch : ℕ) → ReadAgain at_at (At shard epoch)
unfolding at_at
at_again shard epoch rest is = goes shard_field _ shard (four epoch ++ rest) is.0 ∙ goes epoch_field _ epoch rest is.1

pub cas_takes : TakesKind kinds.Cas cas_at
unfolding cas_at
cas_takes bytes x fits e =
    on config_field _ x bytes [] bytes (nothing_yet bytes fits) e (λ config rest so_far is e.
    all_read spell_rest (OfKind kinds.Cas) bytes (Cas config) rest x e so_far (is, refl))

pub cas_again : (config : _) → ReadAgain cas_at (Cas config)
unfolding cas_at
cas_again config rest is = goes config_field _ config rest is

pub stored_takes : TakesKind kinds.Stored stored_at
unfolding stored_at
stored_takes bytes x fits e =
    on config_field _ x bytes [] bytes (nothing_yet bytes fits) e (λ config rest so_far is e.
    all_read spell_rest (OfKind kinds.Stored) bytes (Stored config) rest x e so_far (is, refl))

pub stored_again : (config : _) → ReadAgain stored_at (Stored config)
unfolding stored_at
stored_again config rest is = goes config_field _ config rest is

pub outcome_takes : TakesKind kinds.Outcome outcome_at
unfolding outcome_at
outcome_takes bytes x fits e =
    on txn_field _ x bytes [] bytes (nothing_yet bytes fits) e (λ txn mid so_far is_txn e.
    on decision_field _ x bytes _ mid so_far e (λ decision rest so_far is e.
    all_read spell_rest (OfKind kinds.Outcome) bytes (OutcomeOf txn decision) rest x e so_far ((is_txn, is), refl)))

pub outcome_again : (txn : _) (decision : _) → ReadAgain outcome_at (OutcomeOf txn decision)
unfolding outcome_at
outcome_again txn decision rest is =
    ap outcome_at (append_assoc (spell_txn txn) (spell_decision decision) rest)
    ∙ goes txn_field _ txn (spell_decision decision ++ rest) is.0
    ∙ goes decision_field _ decision rest is.1

pub refused_takes : TakesKind kinds.Refused refused_at
unfolding refused_at
refused_takes bytes x fits e =
    on (kind_field Range) _ x bytes [] bytes (nothing_yet bytes fits) e (λ kind mid so_far is_kind e.
    on why_field _ x bytes _ mid so_far e (λ why mid so_far is_why e.
    on four_field _ x bytes _ mid so_far e (λ mark rest so_far is e.
    all_read spell_rest (OfKind kinds.Refused) bytes (Refused (kind_number kind) why mark) rest x e so_far ((is_numbered kind, is), refl))))

pub refused_again : (number : ℕ) (why : _) (mark : ℕ) → ReadAgain refused_at (Refused number why mark)
unfolding refused_at
refused_again number why mark rest is =
    let k = kind_there number is.0 in
    rw k.2 (goes (kind_field Range) _ k.0 (reasoned why ++ (four mark ++ rest)) tt
    ∙ goes why_field _ why (four mark ++ rest) tt
    ∙ goes four_field _ mark rest is.1)

piece_field : IsField two (λ n. IsTrue (is_up_to 171 n)) piece_at
unfolding piece_at
piece_field = restated (λ n. IsTrue (is_up_to 171 n)) (λ n h. h.1) (λ n h. (omega (arith, up_to 171 n h), h)) (tested_field Range (is_up_to 171) two_field)

pieces_field : (piece : ℕ) → IsField two (λ n. IsTrue (leb piece n && leb n 171)) (pieces_at piece)
unfolding pieces_at
pieces_field piece = restated (λ n. IsTrue (leb piece n && leb n 171)) (λ n h. h.1)
    (λ n h. (omega (arith, leb-true n 171 (and_parts (leb piece n) (leb n 171) h).1), h)) (tested_field Range (λ n. leb piece n && leb n 171) two_field)

pub state_piece_takes : TakesKind kinds.StatePiece state_piece_at
unfolding state_piece_at
state_piece_takes bytes x fits e =
    on config_field _ x bytes [] bytes (nothing_yet bytes fits) e (λ config mid so_far is_config e.
    on piece_field _ x bytes _ mid so_far e (λ piece mid so_far is_piece e.
    on (pieces_field piece) _ x bytes _ mid so_far e (λ pieces mid so_far is_pieces e.
    on (rows_field 24 (omega arith)) _ x bytes _ mid so_far e (λ rows rest so_far is e.
    let numbered = and_from (leb 1 piece) (leb piece pieces && leb pieces 171) (and_parts (leb 1 piece) (leb piece 171) is_piece).0 is_pieces in
    all_read spell_rest (OfKind kinds.StatePiece) bytes (StatePiece config piece pieces rows) rest x e so_far ((is_config, numbered, is.0, is.1), refl)))))

pub state_piece_again : (config : _) (piece pieces : ℕ) (rows : List _) → ReadAgain state_piece_at (StatePiece config piece pieces rows)
unfolding state_piece_at
state_piece_again config piece pieces rows rest is =
    let n = and_parts (leb 1 piece) (leb piece pieces && leb pieces 171) is.1 in
    let m = and_parts (leb piece pieces) (leb pieces 171) n.1 in
    let low : IsTrue (is_up_to 171 piece) = and_from (leb 1 piece) (leb piece 171) n.0 (le-leb piece 171 (omega (arith, leb-true piece pieces m.0, leb-true pieces 171 m.1))) in
    ap state_piece_at (regroup4 (spell_config config) (two piece) (two pieces) (spell_rows rows) rest)
    ∙ goes config_field _ config (two piece ++ (two pieces ++ (spell_rows rows ++ rest))) is.0
    ∙ goes piece_field _ piece (two pieces ++ (spell_rows rows ++ rest)) low
    ∙ goes (pieces_field piece) _ pieces (spell_rows rows ++ rest) n.1
    ∙ goes (rows_field 24 (omega arith)) _ rows rest (is.2, is.3)
