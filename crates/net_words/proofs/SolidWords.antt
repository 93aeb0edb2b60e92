-- What the walk over words makes of a word that begins with no hyphen.
use Rattle.std.proofs.Common.{◌≡◌, ◌∙◌, ◌&&◌, ap, ap₂, refl, ℕ, Bool, false, List, [], ◌∷◌, Option, None}
use Rattle.std.specs.Prelude.{if◌then◌else◌, option_and_then, fold}
use Rattle.std.specs.Option.{option_map_or}
use Rattle.std.specs.Str.{bytes_eq}
use Rattle.clap.specs.Lexer.{long_of, long_of_rest, short_of, short_of_rest, strip_byte}
use Rattle.clap.specs.Faults.{bundle_fault, flag_word_fault, other_fault, turn_fault, walk_fault, word_fault}
use Rattle.clap.specs.Kinds.{or_else}
use Rattle.clap.specs.Simple.{Shape}
use Rattle.clap.specs.Walk.{Held, Rule, Text, Waiting, Walk, idle, long_or_other, option, plain_word, positional, short_or_plain, subcommand_met, subcommand_or_other, trailing, walked, word_met}
use Rattle.net_words.proofs.SolidText.{Solid, no_strip, text_of}

no_subcommand : (waiting : Waiting) (word : Text) → subcommand_met [] waiting word ≡ None
no_subcommand idle word = refl
no_subcommand (option id) word = refl
no_subcommand positional word = refl

no_dashes : (s : Solid) → bytes_eq (text_of s) (45 ∷ 45 ∷ []) ≡ false
no_dashes s = ap (λ (b : Bool). b && bytes_eq s.rest (45 ∷ [])) s.no_minus

no_long : (s : Solid) → long_of (text_of s) ≡ None
no_long s = ap (λ (o : Option Text). option_and_then long_of_rest (option_and_then (strip_byte 45) o)) (no_strip s)

no_short : (s : Solid) → short_of (text_of s) ≡ None
no_short s = ap (λ (o : Option Text). option_and_then short_of_rest o) (no_strip s)

-- it is no flag
pub solid_is_plain : (c : List Rule) (waiting : Waiting) (position : ℕ) (s : Solid) (h : Held)
    → word_met c [] false waiting position (text_of s) h ≡ plain_word c waiting (text_of s) h
solid_is_plain c waiting position s h =
    ap (λ (o : Option Text). subcommand_or_other c o waiting position (text_of s) h) (no_subcommand waiting (text_of s))
    ∙ (ap (λ (b : Bool). if b then (h, trailing position) else long_or_other c waiting (text_of s) (long_of (text_of s)) h) (no_dashes s)
    ∙ (ap (λ (o : Option (Text × Option Text)). long_or_other c waiting (text_of s) o h) (no_long s)
    ∙ ap (λ (o : Option Text). short_or_plain c waiting (text_of s) o h) (no_short s)))

-- and no flag at fault
pub solid_is_quiet : (s : Shape) (waiting : Waiting) (t : Solid) (h : Held)
    → word_fault s [] false waiting (text_of t) h ≡ []
solid_is_quiet s waiting t h =
    ap (λ (o : Option Text). other_fault s o (text_of t) h) (no_subcommand waiting (text_of t))
    ∙ (ap (λ (b : Bool). if b then [] else flag_word_fault s.rules s.args_override_self (long_of (text_of t)) (text_of t) h) (no_dashes t)
    ∙ (ap (λ (o : Option (Text × Option Text)). flag_word_fault s.rules s.args_override_self o (text_of t) h) (no_long t)
    ∙ ap (λ (o : Option Text). option_map_or (λ flags. bundle_fault s.rules s.args_override_self flags h) o []) (no_short t)))

-- ---- walks

-- the walk over these words comes to this place, with no fault
pub record Reaches (s : Shape) (from : Walk) (words : List Text) (to : Walk) : Type 0 where
  pub place : fold (walked s.rules []) from words ≡ to
  pub quiet : walk_fault s [] from words ≡ []

pub stays : (s : Shape) (w : Walk) → Reaches s w [] w
unfolding walk_fault
stays s w = record { place = refl; quiet = refl }

pub one_more : (s : Shape) (from next to : Walk) (word : Text) (rest : List Text)
    → walked s.rules [] from word ≡ next → turn_fault s [] from word ≡ []
    → Reaches s next rest to → Reaches s from (word ∷ rest) to
unfolding walk_fault
one_more s from next to word rest step quiet after = record {
  place = ap (λ (w : Walk). fold (walked s.rules []) w rest) step ∙ after.place;
  quiet = ap₂ or_else quiet (ap (λ (w : Walk). walk_fault s [] w rest) step) ∙ after.quiet;
}
