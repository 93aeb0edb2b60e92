-- Frames behind the names of their kinds: what is read is spelled so, and what is spelled so is read.
use Rattle.std.proofs.Common.{◌≡◌, ℕ, ◌<◌, Bool, true, not, ◌&&◌, List, ◌∷◌, ◌++◌, Option, Some, None, Result, Ok, Err, refl, sym, ap, subst, ◌∙◌, arith}
use Rattle.std.specs.Prelude.{◌==◌, nat_le, slice_index}
use Rattle.std.specs.List.{list_all}
use Rattle.std.proofs.lemmas.Bool.Decides.{nat_tests}
use Rattle.std.specs.Result.{result_ok}
use Rattle.std.specs.Cmp.Lexicographic.{bytes_decides}
use Rattle.hex.specs.Hex.{encode_lower}
use Rattle.tcs_terms.specs.declared.kinds.Kind.{Kind}
use Rattle.tcs_terms.specs.declared.kinds.Kind.TheVariants as kinds
use Rattle.tcs_terms.specs.declared.messages.Message.{Message}
use Rattle.tcs_terms.specs.Kinds.{kind_of, kind_word, kind_numbered}
use Rattle.tcs_terms.proofs.BoolLaws.{left_of, right_of}
use Rattle.wire_frame.specs.declared.faults.Fault.{Fault}
use Rattle.wire_frame.specs.Spelling.{spell}
use Rattle.wire_frame.specs.Frames.{read_frame}
use Rattle.wire_frame.proofs.KindFields.{numbered_again}
use Rattle.wire_frame.proofs.FrameLaws.{kind_is, frame_takes, frame_again}
use Rattle.trace_text.specs.Texts.{name_of, kind_text}
use Rattle.trace_text.specs.Versions.{message_fits}
use Rattle.trace_text.specs.Lines.{IsFrame}
use Rattle.trace_text.specs.Words.{cut, is_word}
use Rattle.text_words.specs.HexWords.{bytes_in}
use Rattle.trace_text.specs.Readings.{frame_in}
use Rattle.trace_text.proofs.Steps.{bind_some, kept}
use Rattle.trace_text.proofs.Cuts.{lacks, cut_takes, cut_again}
use Rattle.trace_text.proofs.PlainWords.{word_is, weaker}
use Rattle.text_words.proofs.HexLaws.{bytes_takes, bytes_again}

-- the text of a frame behind the name of its kind
abbrev pub frame_text : List ℕ → List ℕ
frame_text frame = kind_text (slice_index frame 0) ++ 32 ∷ encode_lower frame

is_read : (r : Result Message Fault) (m : Message) → result_ok r ≡ Some m → r ≡ Ok m
is_read (Ok n) m e = cc
is_read (Err f) m e = absurd cc

-- the first byte of a frame names its kind
frame_names : (frame : List ℕ) (m : Message) → frame ≡ spell m → kind_text (slice_index frame 0) ≡ kind_word (kind_of m)
frame_names frame m spelled = ap (λ (f : List ℕ). kind_text (slice_index f 0)) spelled ∙ ap kind_text (kind_is m) ∙ ap name_of (numbered_again (kind_of m))

pub frame_takes_text : (version : ℕ) (text frame : List ℕ) → frame_in version text ≡ Some frame → (text ≡ frame_text frame) × IsFrame version frame
unfolding frame_in
frame_takes_text version text frame h =
    let words = bind_some (cut 32 text) _ frame h in
    let bytes = bind_some (bytes_in words.0.1) _ frame words.2 in
    let message = bind_some (result_ok (read_frame bytes.0)) _ frame bytes.2 in
    let c = cut_takes 32 text words.0 words.1 in
    let b = bytes_takes words.0.1 bytes.0 bytes.1 in
    let m = frame_takes bytes.0 message.0 b.1 (is_read (read_frame bytes.0) message.0 message.1) in
    let k = kept (is_word (kind_word (kind_of message.0)) words.0.0 && message_fits version message.0) bytes.0 frame message.2 in
    let named = word_is (kind_word (kind_of message.0)) words.0.0 (left_of (is_word (kind_word (kind_of message.0)) words.0.0) (message_fits version message.0) k.0) in
    let first : kind_word (kind_of message.0) ≡ kind_text (slice_index bytes.0 0) = sym (frame_names bytes.0 message.0 m.1) in
    subst (λ (f : List ℕ). (text ≡ frame_text f) × IsFrame version f) k.1 (
      c.whole ∙ ap (λ (v : List ℕ). v ++ 32 ∷ words.0.1) (named ∙ first) ∙ ap (λ (v : List ℕ). kind_text (slice_index bytes.0 0) ++ 32 ∷ v) b.0,
      record {
        are_bytes = b.1;
        message = message.0;
        in_range = m.0;
        spelled = m.1;
        fits = right_of (is_word (kind_word (kind_of message.0)) words.0.0) (message_fits version message.0) k.0;
      },
    )

same_word : (word : List ℕ) → is_word word word ≡ true
same_word word = (bytes_decides word word).1 refl

abbrev are_letters : List ℕ → Bool
are_letters text = list_all (λ b. nat_le 65 b) text

word_letters : (kind : Kind) → are_letters (kind_word kind) ≡ true
word_letters kinds.Prepare = refl
word_letters kinds.PrepareAck = refl
word_letters kinds.Accept = refl
word_letters kinds.AcceptAck = refl
word_letters kinds.Decision = refl
word_letters kinds.Probe = refl
word_letters kinds.ProbeAck = refl
word_letters kinds.NewConfig = refl
word_letters kinds.NewState = refl
word_letters kinds.ConfigChange = refl
word_letters kinds.Last = refl
word_letters kinds.At = refl
word_letters kinds.Cas = refl
word_letters kinds.Stored = refl
word_letters kinds.Outcome = refl
word_letters kinds.Refused = refl
word_letters kinds.StatePiece = refl

name_letters : (kind : Option Kind) → are_letters (name_of kind) ≡ true
name_letters None = refl
name_letters (Some kind) = word_letters kind

pub kind_lacks : (byte kind : ℕ) → byte < 65 → lacks byte (kind_text kind) ≡ true
kind_lacks byte kind low = weaker (λ b. nat_le 65 b) (λ b. not (b == byte)) (λ b h. grind (arith, nat_tests)) (kind_text kind) (name_letters (kind_numbered kind))

pub frame_reads_again : (version : ℕ) (frame : List ℕ) → IsFrame version frame → frame_in version (frame_text frame) ≡ Some frame
unfolding frame_in
frame_reads_again version frame h =
    let first : kind_text (slice_index frame 0) ≡ kind_word (kind_of h.message) = frame_names frame h.message h.spelled in
    let read : read_frame frame ≡ Ok h.message = ap read_frame h.spelled ∙ frame_again h.message h.in_range in
    let named : is_word (kind_word (kind_of h.message)) (kind_text (slice_index frame 0)) ≡ true = rw first (same_word (kind_word (kind_of h.message))) in
    rw (cut_again 32 (kind_text (slice_index frame 0)) (encode_lower frame) (kind_lacks 32 (slice_index frame 0) (omega arith)), bytes_again frame h.are_bytes, read, named, h.fits) refl
