-- The arguments of a command with the program's definition.
use Rattle.std.proofs.Common.{◌≡◌, ◌∙◌, ◌<◌, ◌≤◌, ap, sym, subst, refl, inl, inr, arith, ℕ, zero, suc, true, false, not, List, [], ◌∷◌, map, length, is_some, true≢false, Option, Some, None, codes}
use Rattle.std.specs.Prelude.{if◌then◌else◌}
use Rattle.std.specs.List.{slice_index_or}
use Rattle.std.specs.Str.{bytes_eq}
use Rattle.std.proofs.lemmas.List.{length-map}
use Rattle.std.proofs.lemmas.Slice.Eq.{bytes_eq-Decides}
use Rattle.clap.specs.Facts.{args_of, unwrap_or_range}
use Rattle.clap.specs.Built.{IsPlain, IsPlainArg}
use Rattle.clap.specs.Walk.{Rule, Text, is_empty, is_free_arg, is_simple_arg, rule_of}
use Rattle.clap.specs.Simple.{App, app_of}
use Rattle.clap.specs.declared.builder.action.ArgAction.TheVariants.{Set}
use Rattle.clap.specs.declared.builder.arg.Arg.{Arg}
use Rattle.clap.specs.declared.builder.command.Command.{Command}
use Rattle.clap.specs.declared.builder.command.Command.TheViews.{out-Command}
use Rattle.clap.specs.declared.builder.range.ValueRange.{ValueRange}
use Rattle.clap.specs.declared.builder.value_parser.ValueParser.{ValueParser}
use Rattle.clap.proofs.SimpleLemmas.{is_false, is_nil}
use Rattle.clap.proofs.WalkLemmas.{both}
use Rattle.net_words.specs.Definition.{option, positional, with_parsers}
use Rattle.net_words.proofs.GivenValues.{IsOwn}

-- ---- one argument, from its rule

none_of : {X : Type 0} (o : Option X) → not (is_some o) ≡ true → o ≡ None
none_of None h = refl
none_of (Some x) h = absurd (true≢false (sym h))

-- a simple argument splits no value, and is of its own command alone
pub simple_parts : (a : Arg) → is_simple_arg a ≡ true → (a.val_delim ≡ None) × (a.global ≡ false)
simple_parts a simple =
    let ifs = both (is_empty a.overrides.items) _ simple in
    let groups = both (is_empty a.default_vals_ifs.items) _ ifs.1 in
    let delimiter = both (is_empty a.groups.items) _ groups.1 in
    let terminator = both (not (is_some a.val_delim)) _ delimiter.1 in
    let hyphens = both (not (is_some a.terminator)) _ terminator.1 in
    let negatives = both (not a.allow_hyphen_values) _ hyphens.1 in
    let equals = both (not a.allow_negative_numbers) _ negatives.1 in
    let last = both (not a.require_equals) _ equals.1 in
    let local = both (not a.last) _ last.1 in
    (none_of _ terminator.0, is_false _ local.1)

plain_arg : (a : Arg) → is_simple_arg a ≡ true → is_free_arg a ≡ true → IsPlainArg a
plain_arg a simple free =
    let overrides = both _ _ simple in
    let ifs = both _ _ overrides.1 in
    let groups = both _ _ ifs.1 in
    let exclusive = both _ _ free in
    let conflicts = both _ _ exclusive.1 in
    (is_false _ exclusive.0, is_nil _ conflicts.0, is_nil _ overrides.0, is_nil _ groups.0)

-- ---- the four rules

abbrev pub four_rules : ValueParser → ValueParser → ValueParser → ValueParser → List Rule
four_rules q0 q1 q2 q3 = positional (codes "mode") q0 ∷ option (codes "id") q1 ∷ option (codes "port") q2 ∷ option (codes "miss") q3 ∷ []

-- what holds of each of them
record IsPlainRule (r : Rule) : Type 0 where
  action : r.action ≡ Some Set
  range : r.range ≡ None
  case : r.ignore_case ≡ false
  simple : r.is_simple ≡ true
  free : r.is_free ≡ true

each_is_plain : (q0 q1 q2 q3 : ValueParser) (k : ℕ) (r : Rule) → k < 4
    → IsPlainRule (slice_index_or (four_rules q0 q1 q2 q3) k r)
each_is_plain q0 q1 q2 q3 zero r lt = record { action = refl; range = refl; case = refl; simple = refl; free = refl }
each_is_plain q0 q1 q2 q3 (suc zero) r lt = record { action = refl; range = refl; case = refl; simple = refl; free = refl }
each_is_plain q0 q1 q2 q3 (suc (suc zero)) r lt = record { action = refl; range = refl; case = refl; simple = refl; free = refl }
each_is_plain q0 q1 q2 q3 (suc (suc (suc zero))) r lt = record { action = refl; range = refl; case = refl; simple = refl; free = refl }
each_is_plain q0 q1 q2 q3 (suc (suc (suc (suc k)))) r lt = absurd (omega arith)

-- the place of an id among them, and 4 where it is none of theirs
abbrev place : Text → ℕ
place id = if bytes_eq id (codes "mode") then 0 else (if bytes_eq id (codes "id") then 1
    else (if bytes_eq id (codes "port") then 2 else (if bytes_eq id (codes "miss") then 3 else 4)))

placed : (q0 q1 q2 q3 : ValueParser) (k : ℕ) (r : Rule) → k < 4
    → place (slice_index_or (four_rules q0 q1 q2 q3) k r).id ≡ k
placed q0 q1 q2 q3 zero r lt = refl
placed q0 q1 q2 q3 (suc zero) r lt = refl
placed q0 q1 q2 q3 (suc (suc zero)) r lt = refl
placed q0 q1 q2 q3 (suc (suc (suc zero))) r lt = refl
placed q0 q1 q2 q3 (suc (suc (suc (suc k)))) r lt = absurd (omega arith)

-- ---- the arguments of a command that has them

rule_at : (xs : List Arg) (k : ℕ) (d : Arg)
    → rule_of (slice_index_or xs k d) ≡ slice_index_or (map rule_of xs) k (rule_of d)
rule_at [] k d = refl
rule_at (x ∷ xs) zero d = refl
rule_at (x ∷ xs) (suc k) d = rule_at xs k d

module _ (old : Command) (q0 q1 q2 q3 : ValueParser) (is : app_of old ≡ with_parsers q0 q1 q2 q3) where
  rules_are : map rule_of (args_of old) ≡ four_rules q0 q1 q2 q3
  rules_are = ap (λ (a : App). a.top.rules) is

  pub count : length (args_of old) ≡ 4
  count = sym (length-map (args_of old) rule_of) ∙ ap length rules_are

  pub rule_is : (k : ℕ) (d : Arg)
      → rule_of (slice_index_or (args_of old) k d) ≡ slice_index_or (four_rules q0 q1 q2 q3) k (rule_of d)
  rule_is k d = rule_at (args_of old) k d ∙ ap (λ (rs : List Rule). slice_index_or rs k (rule_of d)) rules_are

  place_is : (k : ℕ) (d : Arg) → k < 4 → place (slice_index_or (args_of old) k d).id.now ≡ k
  place_is k d lt = ap (λ (r : Rule). place r.id) (rule_is k d) ∙ placed q0 q1 q2 q3 k (rule_of d) lt

  plain_at : (k : ℕ) (d : Arg) → k < 4 → IsPlainRule (rule_of (slice_index_or (args_of old) k d))
  plain_at k d lt = subst IsPlainRule (sym (rule_is k d)) (each_is_plain q0 q1 q2 q3 k (rule_of d) lt)

  pub no_globals : (out-Command old).has_globals ≡ false
  no_globals =
      let fields = both _ _ (ap (λ (a : App). a.top.is_plain) is) in
      is_false _ (both _ _ (both _ _ fields.1).1).0

  pub no_negates : (out-Command old).subcommand_negates_reqs ≡ false
  no_negates = ap (λ (a : App). a.top.subcommand_negates_reqs) is

  pub excludes_nothing : IsPlain old
  excludes_nothing = (
    λ k d lt. let plain = plain_at k d (rw (← count) lt) in plain_arg (slice_index_or (args_of old) k d) plain.simple plain.free,
    is_nil _ (both _ _ (ap (λ (a : App). a.top.is_plain) is)).0,
  )

  pub own_argument : (k : ℕ) (d : Arg) (q : ValueParser) → k < 4
      → (slice_index_or (four_rules q0 q1 q2 q3) k (rule_of d)).parser ≡ Some q → IsOwn old k d q
  own_argument k d q lt parser =
      let plain = plain_at k d lt in
      let here = place_is k d lt in
      record {
        lt = rw count lt;
        unique = λ j e low same.
            let there = place_is j e (rw (← count) low) in
            sym there ∙ (ap place ((bytes_eq-Decides (slice_index_or (args_of old) j e).id.now (slice_index_or (args_of old) k d).id.now).0 same) ∙ here);
        named = λ none. let bad : k ≡ 4 = sym here ∙ ap place none in absurd (omega arith);
        own = λ auto. elim auto [
          | inl help ↦
              let bad : k ≡ 4 = sym here ∙ ap place help in
              absurd (omega arith)
          | inr version ↦
              let bad : k ≡ 4 = sym here ∙ ap place version in
              absurd (omega arith)
        ];
        action = plain.action;
        delimiter = (simple_parts (slice_index_or (args_of old) k d) plain.simple).0;
        least = subst (λ (range : Option ValueRange). 1 ≤ (unwrap_or_range range).start_inclusive) (sym plain.range) (omega arith);
        parser = ap (λ (r : Rule). r.parser) (rule_is k d) ∙ parser;
        case = plain.case;
      }
