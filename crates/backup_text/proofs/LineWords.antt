-- Lines: what is read is spelled so and may stand there, and what may stand there is read from its text.
use Rattle.std.proofs.Common.{◌≡◌, ℕ, ◌^◌, ◌<◌, ◌≤◌, Bool, true, false, cond, ◌&&◌, List, ◌∷◌, ◌++◌, Option, Some, None, refl, sym, ap, subst, ◌∙◌, append_assoc, arith, inl, inr}
use Rattle.std.specs.Prelude.{◌==◌, nat_le, nat_lt, codes, decimal}
use Rattle.std.specs.Option.{option_map}
use Rattle.std.proofs.lemmas.Bool.{eqb-true, eq-eqb}
use Rattle.std.proofs.lemmas.Bool.Decides.{nat_tests}
use Rattle.tcs_terms.specs.declared.ids.TxId.{TxId}
use Rattle.tcs_terms.specs.Messages.{is_txn}
use Rattle.tcs_terms.specs.Objects.{IsName, IsValue}
use Rattle.tcs_terms.specs.Order.{name_before}
use Rattle.tcs_terms.proofs.BoolLaws.{left_of, right_of}
use Rattle.text_words.specs.HexWords.{value_in}
use Rattle.text_words.specs.PayloadText.{value_text}
use Rattle.text_words.specs.PayloadWords.{name_in, number_in}
use Rattle.text_words.specs.Texts.{txn_text}
use Rattle.text_words.proofs.ValueLaws.{value_in_takes, value_in_again}
use Rattle.text_words.proofs.WordReadings.{number_in_takes, number_in_again, name_in_takes, name_in_again}
use Rattle.backup_text.specs.Words.{cut, is_word, txn_in}
use Rattle.backup_text.proofs.Steps.{bind_some, some_is, kept, either}
use Rattle.backup_text.proofs.Cuts.{lacks, cut_takes, cut_again}
use Rattle.backup_text.proofs.PlainWords.{word_is, decimal_lacks, name_lacks, txn_takes, txn_again, txn_lacks}
use Rattle.backup_machine.specs.declared.objects.Kept.{Kept}
use Rattle.backup_machine.specs.declared.objects.TheConstants.{MAX_OBJECTS}
use Rattle.backup_machine.specs.Objects.{comes_after}
use Rattle.backup_text.specs.declared.limits.TheConstants.{MAX_CALLS}
use Rattle.backup_text.specs.declared.stages.Stage.{Stage}
use Rattle.backup_text.specs.declared.stages.Stage.TheVariants.{Start, Begun, AtPlace, NoPlace, Ended}
use Rattle.backup_text.specs.declared.stages.Span.{Span}
use Rattle.backup_text.specs.Lines.{Line, HeadLine, CallLine, PlaceLine, ObjectLine, EndLine, line_text, place_text, Standing, IsStanding, MayStand, IsPlace, in_span, has_place, is_call}
use Rattle.backup_text.specs.Readings.{is_start, is_begun, is_at_place, span_in, head_of, call_of, place_in, place_of, object_in, takes_object, object_of, end_of, line_of, line_in}

-- ---- the parts of the texts

head_parts : (from upto : List ℕ) → line_text (HeadLine from upto) ≡ codes "backup" ++ 32 ∷ (codes "1" ++ 32 ∷ (from ++ 32 ∷ upto))
head_parts from upto = simp append_assoc

object_parts : (o : Kept) → line_text (ObjectLine o) ≡ codes "obj" ++ 32 ∷ (o.name ++ 32 ∷ (decimal o.version ++ 32 ∷ value_text o.value))
object_parts o = simp append_assoc

-- ---- stages

starts : (stage : Stage) → is_start stage ≡ true → stage ≡ Start
starts Start h = refl
starts Begun h = absurd cc
starts AtPlace h = absurd cc
starts NoPlace h = absurd cc
starts Ended h = absurd cc

begins : (stage : Stage) → is_begun stage ≡ true → stage ≡ Begun
begins Start h = absurd cc
begins Begun h = refl
begins AtPlace h = absurd cc
begins NoPlace h = absurd cc
begins Ended h = absurd cc

is_placed : (stage : Stage) → is_at_place stage ≡ true → stage ≡ AtPlace
is_placed Start h = absurd cc
is_placed Begun h = absurd cc
is_placed AtPlace h = refl
is_placed NoPlace h = absurd cc
is_placed Ended h = absurd cc

-- ---- what is read

-- two names of a range
record ReadSpan (text : List ℕ) (span : Span) : Type 0 where
  spelled : text ≡ span.from ++ 32 ∷ span.upto
  from_is : IsName span.from
  upto_is : IsName span.upto
  before : name_before span.from span.upto ≡ true

span_takes : (text : List ℕ) (span : Span) → span_in text ≡ Some span → ReadSpan text span
unfolding span_in
span_takes text span h =
    let names = bind_some (cut 32 text) _ span h in
    let from = bind_some (name_in names.0.0) _ span names.2 in
    let upto = bind_some (name_in names.0.1) _ span from.2 in
    let c = cut_takes 32 text names.0 names.1 in
    let f = name_in_takes names.0.0 from.0 from.1 in
    let u = name_in_takes names.0.1 upto.0 upto.1 in
    let made : Span = record { from = from.0; upto = upto.0 } in
    let k = kept (name_before from.0 upto.0) made span upto.2 in
    subst (ReadSpan text) k.1 (record {
      spelled = c.whole ∙ ap (λ (x : List ℕ). x ++ 32 ∷ names.0.1) f.0 ∙ ap (λ (x : List ℕ). from.0 ++ 32 ∷ x) u.0;
      from_is = f.1;
      upto_is = u.1;
      before = k.0;
    })

-- a line that was read behind its first word
record Read (s : Standing) (word text : List ℕ) (line : Line) : Type 0 where
  stands : MayStand s line
  spelled : word ++ 32 ∷ text ≡ line_text line

head_takes : (s : Standing) (text : List ℕ) (line : Line) → head_of s text ≡ Some line → Read s (codes "backup") text line
unfolding head_of
head_takes s text line h =
    let words = bind_some (cut 32 text) _ line h in
    let span = bind_some (span_in words.0.1) _ line words.2 in
    let k = kept (is_start s.stage && is_word (codes "1") words.0.0) (HeadLine span.0.from span.0.upto) line span.2 in
    let c = cut_takes 32 text words.0 words.1 in
    let form = word_is (codes "1") words.0.0 (right_of (is_start s.stage) (is_word (codes "1") words.0.0) k.0) in
    let names = span_takes words.0.1 span.0 span.1 in
    subst (Read s (codes "backup") text) k.1 (record {
      stands = (starts s.stage (left_of (is_start s.stage) (is_word (codes "1") words.0.0) k.0), names.from_is, names.upto_is, names.before);
      spelled = ap (λ (x : List ℕ). codes "backup" ++ 32 ∷ x) (c.whole ∙ ap (λ (x : List ℕ). x ++ 32 ∷ words.0.1) form ∙ ap (λ (x : List ℕ). codes "1" ++ 32 ∷ x) names.spelled)
          ∙ sym (head_parts span.0.from span.0.upto);
    })

call_takes : (s : Standing) (text : List ℕ) (line : Line) → call_of s text ≡ Some line → Read s (codes "did") text line
unfolding call_of
call_takes s text line h =
    let k = kept (is_begun s.stage && nat_lt s.calls MAX_CALLS && is_call text) (CallLine text) line h in
    let first = left_of (is_begun s.stage && nat_lt s.calls MAX_CALLS) (is_call text) k.0 in
    let room = right_of (is_begun s.stage) (nat_lt s.calls MAX_CALLS) first in
    subst (Read s (codes "did") text) k.1 (record {
      stands = (begins s.stage (left_of (is_begun s.stage) (nat_lt s.calls MAX_CALLS) first), right_of (is_begun s.stage && nat_lt s.calls MAX_CALLS) (is_call text) k.0, grind (arith, nat_tests));
      spelled = refl;
    })

mapped : (o : Option TxId) (p : Option TxId) → option_map (λ txn. Some txn) o ≡ Some p → (t : TxId) × (o ≡ Some t) × (Some t ≡ p)
mapped (Some t) p h = (t, refl, some_is (Some t) p h)
mapped None p h = absurd cc

place_takes : (text : List ℕ) (place : Option TxId) → place_in text ≡ Some place → (text ≡ place_text place) × IsPlace place
unfolding place_in
place_takes text place h = elim (either (is_word (codes "-") text) (Some None) _ place h) [
  | inl a ↦ subst (λ (p : Option TxId). (text ≡ place_text p) × IsPlace p) (some_is None place a.1) (word_is (codes "-") text a.0, tt)
  | inr b ↦ (let txn = mapped (txn_in text) place b.1 in subst (λ (p : Option TxId). (text ≡ place_text p) × IsPlace p) txn.2 (txn_takes text txn.0 txn.1))
]

place_line_takes : (s : Standing) (text : List ℕ) (line : Line) → place_of s text ≡ Some line → Read s (codes "cut") text line
unfolding place_of
place_line_takes s text line h =
    let place = bind_some (place_in text) _ line h in
    let k = kept (is_begun s.stage) (PlaceLine place.0) line place.2 in
    let p = place_takes text place.0 place.1 in
    subst (Read s (codes "cut") text) k.1 (record {
      stands = (begins s.stage k.0, p.1);
      spelled = ap (λ (x : List ℕ). codes "cut" ++ 32 ∷ x) p.0;
    })

-- an object, by its words
record ReadObject (text : List ℕ) (o : Kept) : Type 0 where
  spelled : text ≡ o.name ++ 32 ∷ (decimal o.version ++ 32 ∷ value_text o.value)
  name_is : IsName o.name
  least : 1 ≤ o.version
  small : o.version < 2 ^ 64
  value_is : IsValue o.value

object_takes : (text : List ℕ) (o : Kept) → object_in text ≡ Some o → ReadObject text o
unfolding object_in
object_takes text o h =
    let words = bind_some (cut 32 text) _ o h in
    let others = bind_some (cut 32 words.0.1) _ o words.2 in
    let name = bind_some (name_in words.0.0) _ o others.2 in
    let version = bind_some (number_in others.0.0) _ o name.2 in
    let value = bind_some (value_in others.0.1) _ o version.2 in
    let c = cut_takes 32 text words.0 words.1 in
    let d = cut_takes 32 words.0.1 others.0 others.1 in
    let n = name_in_takes words.0.0 name.0 name.1 in
    let v = number_in_takes others.0.0 version.0 version.1 in
    let w = value_in_takes others.0.1 value.0 value.1 in
    let made : Kept = record { name = name.0; version = version.0; value = value.0 } in
    let k = kept (nat_le 1 version.0) made o value.2 in
    let above = k.0 in
    subst (ReadObject text) k.1 (record {
      spelled = c.whole ∙ ap (λ (x : List ℕ). x ++ 32 ∷ words.0.1) n.0 ∙ ap (λ (x : List ℕ). name.0 ++ 32 ∷ x)
          (d.whole ∙ ap (λ (x : List ℕ). x ++ 32 ∷ others.0.1) v.0 ∙ ap (λ (x : List ℕ). decimal version.0 ++ 32 ∷ x) w.0);
      name_is = n.1;
      least = grind (arith, nat_tests);
      small = v.1;
      value_is = w.1;
    })

object_line_takes : (s : Standing) (text : List ℕ) (line : Line) → object_of s text ≡ Some line → Read s (codes "obj") text line
unfolding object_of
object_line_takes s text line h =
    let object = bind_some (object_in text) _ line h in
    let k = kept (takes_object s object.0.name) (ObjectLine object.0) line object.2 in
    let o = object_takes text object.0 object.1 in
    let placed = is_at_place s.stage in
    let few = nat_lt s.objects MAX_OBJECTS in
    let within = in_span s.span object.0.name in
    let behind = comes_after s.last object.0.name in
    let first = left_of (placed && few && within) behind k.0 in
    let start = left_of (placed && few) within first in
    let room = right_of placed few start in
    subst (Read s (codes "obj") text) k.1 (record {
      stands = (is_placed s.stage (left_of placed few start), o.name_is, right_of (placed && few) within first, right_of (placed && few && within) behind k.0, o.least, o.small, o.value_is, grind (arith, nat_tests));
      spelled = ap (λ (x : List ℕ). codes "obj" ++ 32 ∷ x) o.spelled ∙ sym (object_parts object.0);
    })

end_takes : (s : Standing) (text : List ℕ) (line : Line) → end_of s text ≡ Some line → Read s (codes "end") text line
unfolding end_of
end_takes s text line h =
    let count = bind_some (number_in text) _ line h in
    let k = kept (has_place s.stage && (count.0 == s.objects)) (EndLine count.0) line count.2 in
    let n = number_in_takes text count.0 count.1 in
    subst (Read s (codes "end") text) k.1 (record {
      stands = (left_of (has_place s.stage) (count.0 == s.objects) k.0, eqb-true count.0 s.objects (right_of (has_place s.stage) (count.0 == s.objects) k.0));
      spelled = ap (λ (x : List ℕ). codes "end" ++ 32 ∷ x) n.0;
    })

-- ---- whole lines

-- a line begins with this word, or is read as one of the others
branch : (s : Standing) (wanted word text : List ℕ) (line : Line) (o r : Option Line) → (o ≡ Some line → Read s wanted text line) → (r ≡ Some line → Read s word text line)
    → cond (is_word wanted word) o r ≡ Some line → Read s word text line
branch s wanted word text line o r this others h = elim (either (is_word wanted word) o r line h) [
  | inl a ↦ subst (λ (w : List ℕ). Read s w text line) (sym (word_is wanted word a.0)) (this a.1)
  | inr b ↦ others b.1
]

words_take : (s : Standing) (word text : List ℕ) (line : Line) → line_of s word text ≡ Some line → Read s word text line
unfolding line_of
words_take s word text line h =
    branch s (codes "backup") word text line (head_of s text) _ (head_takes s text line)
    (branch s (codes "did") word text line (call_of s text) _ (call_takes s text line)
    (branch s (codes "cut") word text line (place_of s text) _ (place_line_takes s text line)
    (branch s (codes "obj") word text line (object_of s text) _ (object_line_takes s text line)
    (branch s (codes "end") word text line (end_of s text) None (end_takes s text line) (λ none. absurd cc))))) h

pub line_takes : (s : Standing) (text : List ℕ) (line : Line) → line_in s text ≡ Some line → MayStand s line × (text ≡ line_text line)
unfolding line_in
line_takes s text line h =
    let words = bind_some (cut 32 text) _ line h in
    let c = cut_takes 32 text words.0 words.1 in
    let r = words_take s words.0.0 words.0.1 line words.2 in
    (r.stands, c.whole ∙ r.spelled)

-- ---- what is spelled

enter : (s : Standing) (word text : List ℕ) → lacks 32 word ≡ true → line_in s (word ++ 32 ∷ text) ≡ line_of s word text
unfolding line_in
enter s word text h = rw (cut_again 32 word text h) refl

span_again : (from upto : List ℕ) → IsName from → IsName upto → name_before from upto ≡ true → span_in (from ++ 32 ∷ upto) ≡ Some (record { from = from; upto = upto })
unfolding span_in
span_again from upto f u before = rw (cut_again 32 from upto (name_lacks 32 from (omega arith) f), name_in_again from f, name_in_again upto u, before) refl

head_again : (s : Standing) (from upto : List ℕ) → MayStand s (HeadLine from upto) → line_of s (codes "backup") (codes "1" ++ 32 ∷ (from ++ 32 ∷ upto)) ≡ Some (HeadLine from upto)
unfolding line_of head_of
head_again s from upto h = rw (cut_again 32 (codes "1") (from ++ 32 ∷ upto) refl, span_again from upto h.1 h.2 h.3, h.0) refl

call_again : (s : Standing) (event : List ℕ) → MayStand s (CallLine event) → line_of s (codes "did") event ≡ Some (CallLine event)
unfolding line_of call_of
call_again s event h =
    let room = h.2 in
    let below : nat_lt s.calls MAX_CALLS ≡ true = grind (arith, nat_tests) in
    rw (h.0, below, h.1) refl

no_dash : (t : TxId) → is_txn t ≡ true → is_word (codes "-") (txn_text t) ≡ false
no_dash t h = go (is_word (codes "-") (txn_text t)) refl where
  go : (b : Bool) → is_word (codes "-") (txn_text t) ≡ b → is_word (codes "-") (txn_text t) ≡ false
  go false e = e
  go true e = absurd (let lacking : lacks 45 (codes "-") ≡ true = ap (lacks 45) (sym (word_is (codes "-") (txn_text t) e)) ∙ txn_lacks 45 t (omega arith) h in cc)

place_again : (place : Option TxId) → IsPlace place → place_in (place_text place) ≡ Some place
unfolding place_in
place_again None h = refl
place_again (Some t) h = rw (no_dash t h, txn_again t h) refl

place_line_again : (s : Standing) (place : Option TxId) → MayStand s (PlaceLine place) → line_of s (codes "cut") (place_text place) ≡ Some (PlaceLine place)
unfolding line_of place_of
place_line_again s place h = rw (place_again place h.1, h.0) refl

object_again : (o : Kept) → IsName o.name → 1 ≤ o.version → o.version < 2 ^ 64 → IsValue o.value → object_in (o.name ++ 32 ∷ (decimal o.version ++ 32 ∷ value_text o.value)) ≡ Some o
unfolding object_in
object_again o name least small value =
    let above : nat_le 1 o.version ≡ true = grind (arith, nat_tests) in
    rw (
      cut_again 32 o.name (decimal o.version ++ 32 ∷ value_text o.value) (name_lacks 32 o.name (omega arith) name),
      cut_again 32 (decimal o.version) (value_text o.value) (decimal_lacks 32 o.version (omega arith) small),
      name_in_again o.name name,
      number_in_again o.version small,
      value_in_again o.value value,
      above,
    ) refl

object_line_again : (s : Standing) (o : Kept) → MayStand s (ObjectLine o)
    → line_of s (codes "obj") (o.name ++ 32 ∷ (decimal o.version ++ 32 ∷ value_text o.value)) ≡ Some (ObjectLine o)
unfolding line_of object_of
object_line_again s o (stage, name, within, behind, least, small, value, room) =
    let below : nat_lt s.objects MAX_OBJECTS ≡ true = grind (arith, nat_tests) in
    rw (object_again o name least small value, stage, below, within, behind) refl

end_again : (s : Standing) (count : ℕ) → IsStanding s → MayStand s (EndLine count) → line_of s (codes "end") (decimal count) ≡ Some (EndLine count)
unfolding line_of end_of
end_again s count i h =
    let few = i.few in
    let same = h.1 in
    let small : count < 2 ^ 64 = omega arith in
    rw (number_in_again count small, h.0, eq-eqb count s.objects h.1) refl

pub line_again : (s : Standing) (line : Line) → IsStanding s → MayStand s line → line_in s (line_text line) ≡ Some line
line_again s (HeadLine from upto) i h = ap (line_in s) (head_parts from upto) ∙ enter s (codes "backup") (codes "1" ++ 32 ∷ (from ++ 32 ∷ upto)) refl ∙ head_again s from upto h
line_again s (CallLine event) i h = enter s (codes "did") event refl ∙ call_again s event h
line_again s (PlaceLine place) i h = enter s (codes "cut") (place_text place) refl ∙ place_line_again s place h
line_again s (ObjectLine o) i h =
    ap (line_in s) (object_parts o) ∙ enter s (codes "obj") (o.name ++ 32 ∷ (decimal o.version ++ 32 ∷ value_text o.value)) refl ∙ object_line_again s o h
line_again s (EndLine count) i h = enter s (codes "end") (decimal count) refl ∙ end_again s count i h
