-- The matches of a command with the program's definition can be read.
use Rattle.std.proofs.Common.{◌≡◌, ◌⊎◌, ◌∙◌, ◌<◌, ◌||◌, ap, sym, subst, refl, inl, inr, arith, ℕ, Bool, true, false, List, [], ◌∷◌, length, is_some, Option, Some, None, codes}
use Rattle.std.specs.List.{list_any, slice_index_or}
use Rattle.std.specs.Str.{bytes_eq}
use Rattle.std.proofs.lemmas.Slice.Eq.{bytes_eq-Decides}
use Rattle.clap.specs.Facts.{args_of, groups_of}
use Rattle.clap.specs.Built.{IsParsedFrom}
use Rattle.clap.specs.Matches.{first_value, found_of, matched_of, one_text}
use Rattle.clap.specs.Simple.{app_of}
use Rattle.clap.specs.Walk.{Rule, Text, rule_of}
use Rattle.clap.specs.Values.{Accepts, read_as, reading_of}
use Rattle.clap.specs.declared.builder.arg.Arg.{Arg}
use Rattle.clap.specs.declared.builder.command.Command.{Command}
use Rattle.clap.specs.declared.builder.value_parser.ValueParser.{ValueParser}
use Rattle.clap.specs.declared.builder.value_parser.ValueParser.TheVariants.{Names}
use Rattle.clap.specs.declared.parser.matches.ArgMatches.{ArgMatches}
use Rattle.clap.specs.declared.parser.matches.MatchedArg.{MatchedArg}
use Rattle.clap.proofs.CallerLemmas.{present_has_entry, required_present}
use Rattle.clap.proofs.WalkLemmas.{list_any-map}
use Rattle.net_words.specs.Definition.{Lent, definition, mode_words, numbers}
use Rattle.net_words.specs.Modes.{mode_word}
use Rattle.net_words.specs.Readings.{IsReadable, NamesMode, ReadsIn}
use Rattle.net_words.specs.declared.mode.Mode.{Mode}
use Rattle.net_words.specs.declared.mode.Mode.TheVariants.{Cluster, Node, Guard}
use Rattle.net_words.proofs.GivenValues.{given_value, own_id}
use Rattle.net_words.proofs.OwnArguments.{count, excludes_nothing, four_rules, no_globals, no_negates, own_argument, rule_is}

some_arg : (xs : List Arg) → length xs ≡ 4 → Arg
some_arg [] four = absurd cc
some_arg (x ∷ xs) four = x

-- ---- the words of modes

one_of_three : (a b c : Bool) → (a || (b || (c || false))) ≡ true → (a ≡ true) ⊎ ((b ≡ true) ⊎ (c ≡ true))
one_of_three true b c h = inl refl
one_of_three false true c h = inr (inl refl)
one_of_three false false true h = inr (inr refl)
one_of_three false false false h = cc

names_mode : (v : Text) → list_any (λ t. bytes_eq t v) mode_words ≡ true → (mode : Mode) × (v ≡ mode_word mode)
names_mode v h = elim (one_of_three (bytes_eq (codes "cluster") v) (bytes_eq (codes "node") v) (bytes_eq (codes "guard") v) h) [
  | inl a ↦ (Cluster, sym ((bytes_eq-Decides _ _).0 a))
  | inr (inl b) ↦ (Node, sym ((bytes_eq-Decides _ _).0 b))
  | inr (inr c) ↦ (Guard, sym ((bytes_eq-Decides _ _).0 c))
]

accepted_names_mode : (modes : Lent mode_words) (v : Text) → Accepts false (Names modes.list) v
    → (mode : Mode) × (v ≡ mode_word mode)
accepted_names_mode modes v h =
    names_mode v (sym (list_any-map (λ t. bytes_eq t v) (λ s. s.now) modes.list.now ∙ ap (list_any (λ t. bytes_eq t v)) modes.are) ∙ h)

-- ---- the matches

module _ (old : Command) (m : ArgMatches) (modes : Lent mode_words) (is : app_of old ≡ definition modes) (p : IsParsedFrom old m) where
  abbrev rules_of_it : List Rule
  rules_of_it = four_rules (Names modes.list) (numbers 0 64) (numbers 1024 65000) (numbers 1 1000000)

  abbrev an_arg : Arg
  an_arg = some_arg (args_of old) (count old (Names modes.list) (numbers 0 64) (numbers 1024 65000) (numbers 1 1000000) is)

  abbrev id_at : ℕ → Text
  id_at k = own_id old k an_arg

  id_is : (k : ℕ) → id_at k ≡ (slice_index_or rules_of_it k (rule_of an_arg)).id
  id_is k = ap (λ (r : Rule). r.id) (rule_is old (Names modes.list) (numbers 0 64) (numbers 1024 65000) (numbers 1 1000000) is k an_arg)

  no_groups : groups_of p.built ≡ []
  no_groups = (p.from.plain (excludes_nothing old (Names modes.list) (numbers 0 64) (numbers 1024 65000) (numbers 1 1000000) is)).1

  value_at : (k : ℕ) (q : ValueParser) → k < 4 → (slice_index_or rules_of_it k (rule_of an_arg)).parser ≡ Some q
      → (x : MatchedArg) → matched_of (found_of m) (id_at k) ≡ Some x
      → (v : Text) × (first_value (found_of m) (id_at k) ≡ Some v)
      × (one_text (found_of m) (id_at k) ≡ Some (read_as (reading_of q) v)) × Accepts false q v
  value_at k q lt parser x met = given_value old m p k an_arg q
      (own_argument old (Names modes.list) (numbers 0 64) (numbers 1024 65000) (numbers 1 1000000) is k an_arg q lt parser)
      (no_globals old (Names modes.list) (numbers 0 64) (numbers 1024 65000) (numbers 1 1000000) is) no_groups x met

  reads : (k least most : ℕ) → k < 4
      → (slice_index_or rules_of_it k (rule_of an_arg)).parser ≡ Some (numbers least most)
      → ReadsIn (found_of m) (id_at k) least most
  reads k least most lt parser = go (matched_of (found_of m) (id_at k)) refl
    where
      go : (o : Option MatchedArg) → matched_of (found_of m) (id_at k) ≡ o → ReadsIn (found_of m) (id_at k) least most
      go None e = inl (rw e refl)
      go (Some x) e =
          let given = value_at k (numbers least most) lt parser x e in
          inr (given.0, given.2, given.3)

  names : (first_value (found_of m) (id_at 0) ≡ first_value (found_of m) (codes "mode")) → NamesMode (found_of m)
  names same = go (matched_of (found_of m) (id_at 0)) refl
      (present_has_entry (found_of m) (id_at 0) (required_present old m p
      (excludes_nothing old (Names modes.list) (numbers 0 64) (numbers 1024 65000) (numbers 1 1000000) is)
      (no_globals old (Names modes.list) (numbers 0 64) (numbers 1024 65000) (numbers 1 1000000) is)
      (no_negates old (Names modes.list) (numbers 0 64) (numbers 1024 65000) (numbers 1 1000000) is)
      0 an_arg (rw (count old (Names modes.list) (numbers 0 64) (numbers 1024 65000) (numbers 1 1000000) is) (omega arith))
      (ap (λ (r : Rule). r.required) (rule_is old (Names modes.list) (numbers 0 64) (numbers 1024 65000) (numbers 1 1000000) is 0 an_arg))))
    where
      go : (o : Option MatchedArg) → matched_of (found_of m) (id_at 0) ≡ o
          → is_some (matched_of (found_of m) (id_at 0)) ≡ true → NamesMode (found_of m)
      go None e has =
          let bad : false ≡ true = rw e at has in
          cc
      go (Some x) e has =
          let given = value_at 0 (Names modes.list) (omega arith) refl x e in
          let mode = accepted_names_mode modes given.0 given.3 in
          (mode.0, sym same ∙ (given.1 ∙ ap (λ (t : Text). Some t) mode.1))

  pub readable : IsReadable (found_of m)
  readable = record {
    mode = names (ap (first_value (found_of m)) (id_is 0));
    id = subst (λ (name : Text). ReadsIn (found_of m) name 0 64) (id_is 1) (reads 1 0 64 (omega arith) refl);
    port = subst (λ (name : Text). ReadsIn (found_of m) name 1024 65000) (id_is 2) (reads 2 1024 65000 (omega arith) refl);
    miss = subst (λ (name : Text). ReadsIn (found_of m) name 1 1000000) (id_is 3) (reads 3 1 1000000 (omega arith) refl);
  }
