-- Exact answers are right at words in plain form.
use Rattle.std.proofs.Common.{◌≡◌, ◌∙◌, ◌<◌, ◌≤◌, ◌^◌, ◌++◌, ap, ap₂, sym, subst, refl, arith, ℕ, true, false, List, [], ◌∷◌, Option, Some, None, codes}
use Rattle.std.specs.Prelude.{Ok, Err, Result, unwrap_or}
use Rattle.std.specs.Str.{bytes_eq}
use Rattle.std.specs.Str.Parse.{digits_value}
use Rattle.std.proofs.lemmas.Fmt.{decimal_is_IsNumeral}
use Rattle.clap.specs.ValueTests.{accepts}
use Rattle.clap.specs.Walk.{Text}
use Rattle.clap.specs.Words.{fault_of, matches_of}
use Rattle.clap.specs.declared.builder.value_parser.ValueParser.TheVariants.{Names}
use Rattle.clap.proofs.WalkLemmas.{list_any-map}
use Rattle.std.specs.List.{list_any}
use Rattle.net_words.specs.Definition.{Lent, definition, mode_words, numbers}
use Rattle.net_words.specs.Modes.{mode_word}
use Rattle.net_words.specs.Refusals.{Refuses}
use Rattle.net_words.specs.Requests.{Answers, Holds, IsInRange, Plain, TakesPlain, number_in, number_or, option_words, plain_request, plain_words}
use Rattle.net_words.specs.declared.mode.Mode.{Mode}
use Rattle.net_words.specs.declared.mode.Mode.TheVariants.{Cluster, Node, Guard}
use Rattle.net_words.specs.declared.refusal.Refusal.{Refusal}
use Rattle.net_words.specs.declared.refusal.Refusal.TheVariants.{BadWords, Shown, OutOfMemory}
use Rattle.net_words.specs.declared.request.Request.{Request}
use Rattle.net_words.proofs.ModeNames.{same_mode}
use Rattle.net_words.proofs.PlainForm.{no_fault, passes, read_with, rows_hold, solid_words, written}
use Rattle.net_words.proofs.SolidText.{Solid, as_written, decimal_is_solid, decimal_passes, mode_is_solid, number_is, text_of}

-- ---- a mode

mode_is_known : (mode : Mode) → list_any (λ t. bytes_eq t (mode_word mode)) mode_words ≡ true
mode_is_known Cluster = refl
mode_is_known Node = refl
mode_is_known Guard = refl

mode_passes : (modes : Lent mode_words) (mode : Mode) → accepts false (Names modes.list) (mode_word mode) ≡ true
mode_passes modes mode =
    list_any-map (λ t. bytes_eq t (mode_word mode)) (λ s. s.now) modes.list.now ∙ (ap (list_any (λ t. bytes_eq t (mode_word mode))) modes.are ∙ mode_is_known mode)

-- ---- an option

record IsWritten (name : Text) (least most otherwise : ℕ) (o : Option ℕ) : Type 0 where
  solid : Option Solid
  words : option_words name o ≡ written name solid
  ok : passes (numbers least most) solid ≡ true
  value : number_or (read_with (numbers least most) solid) otherwise ≡ unwrap_or o otherwise

option_is_written : (name : Text) (least most otherwise : ℕ) (o : Option ℕ) → most < 2 ^ 63
    → least ≤ unwrap_or o otherwise → unwrap_or o otherwise ≤ most
    → IsWritten name least most otherwise o
option_is_written name least most otherwise None small low high = record { solid = None; words = refl; ok = refl; value = refl }
option_is_written name least most otherwise (Some n) small low high =
    let n_small : n < 2 ^ 64 = omega arith in
    let s = decimal_is_solid n n_small in
    record {
      solid = Some s.0;
      words = ap (λ (t : Text). name ∷ t ∷ []) s.1;
      ok = subst (λ (t : Text). accepts false (numbers least most) t ≡ true) s.1 (decimal_passes least most n small low high);
      value = ap number_in (as_written s.0) ∙ (number_is s.0 ∙ (ap (digits_value 10) (sym s.1) ∙ (decimal_is_IsNumeral n n_small).1));
    }

-- ---- the answer

-- matches with these values are of the request that was written
same_request : (p : Plain) (r : Request) → mode_word p.mode ≡ mode_word r.mode → r.id ≡ unwrap_or p.id 0
    → r.port ≡ unwrap_or p.port 47000 → r.miss ≡ unwrap_or p.miss 100
    → r ≡ plain_request p
same_request p r mode id port miss = rw (sym (same_mode p.mode r.mode mode)) (rw (id, port, miss) refl)

module _ (modes : Lent mode_words) (p : Plain) (ranges : IsInRange (plain_request p)) where
  id_written : IsWritten (codes "--id") 0 64 0 p.id
  id_written = option_is_written (codes "--id") 0 64 0 p.id (omega arith) (omega arith) ranges.id

  port_written : IsWritten (codes "--port") 1024 65000 47000 p.port
  port_written = option_is_written (codes "--port") 1024 65000 47000 p.port (omega arith) ranges.port.0 ranges.port.1

  miss_written : IsWritten (codes "--miss") 1 1000000 100 p.miss
  miss_written = option_is_written (codes "--miss") 1 1000000 100 p.miss (omega arith) ranges.miss.0 ranges.miss.1

  abbrev solid_of_it : List Text
  solid_of_it = solid_words (mode_is_solid p.mode).0 id_written.solid port_written.solid miss_written.solid

  words_are : plain_words p ≡ solid_of_it
  words_are = ap₂ (λ (w : Text) (ws : List Text). w ∷ ws) (mode_is_solid p.mode).1
      (ap₂ (λ (a b : List Text). a ++ b) id_written.words (ap₂ (λ (a b : List Text). a ++ b) port_written.words miss_written.words))

  mode_ok : accepts false (Names modes.list) (text_of (mode_is_solid p.mode).0) ≡ true
  mode_ok = subst (λ (t : Text). accepts false (Names modes.list) t ≡ true) (mode_is_solid p.mode).1 (mode_passes modes p.mode)

  none_fails : fault_of (definition modes) (plain_words p) ≡ []
  none_fails = ap (fault_of (definition modes)) words_are
      ∙ no_fault (Names modes.list) (numbers 0 64) (numbers 1024 65000) (numbers 1 1000000) (mode_is_solid p.mode).0 mode_ok
      id_written.solid port_written.solid miss_written.solid id_written.ok port_written.ok miss_written.ok

  holds_it : (r : Request) → Holds (matches_of (definition modes) (plain_words p)) r → r ≡ plain_request p
  holds_it r h =
      let rows = rows_hold (Names modes.list) (numbers 0 64) (numbers 1024 65000) (numbers 1 1000000) (mode_is_solid p.mode).0 mode_ok
      id_written.solid port_written.solid miss_written.solid id_written.ok port_written.ok miss_written.ok in
      let there : Holds (matches_of (definition modes) solid_of_it) r = subst (λ (ws : List Text). Holds (matches_of (definition modes) ws) r) words_are h in
      let mode : Some (mode_word p.mode) ≡ Some (mode_word r.mode) = ap (λ (t : Text). Some t) (mode_is_solid p.mode).1 ∙ (sym rows.mode ∙ there.mode) in
      same_request p r (ap (λ (o : Option Text). unwrap_or o []) mode)
      (there.id ∙ (ap (λ (o : Option Text). number_or o 0) rows.id ∙ id_written.value))
      (there.port ∙ (ap (λ (o : Option Text). number_or o 47000) rows.port ∙ port_written.value))
      (there.miss ∙ (ap (λ (o : Option Text). number_or o 100) rows.miss ∙ miss_written.value))

  refused_for_memory : (e : Refusal) → Refuses (fault_of (definition modes) (plain_words p)) e → e ≡ OutOfMemory
  refused_for_memory BadWords h = absurd (rw none_fails at h).1
  refused_for_memory (Shown text) h = absurd (rw none_fails at h).1
  refused_for_memory OutOfMemory h = refl

pub plain_answers : (words : List Text) (result : Result Request Refusal) → Answers words result
    → TakesPlain words result
plain_answers words (Ok r) answers p ranges is =
    holds_it answers.0 p ranges r (subst (λ (ws : List Text). Holds (matches_of (definition answers.0) ws) r) is answers.1.values)
plain_answers words (Err e) answers p ranges is =
    refused_for_memory answers.0 p ranges e (subst (λ (ws : List Text). Refuses (fault_of (definition answers.0) ws) e) is answers.1)
