-- What a parse holds of an argument of the caller's: its values are of the argument's own parser.
use Rattle.std.proofs.Common.{◌≡◌, ◌∙◌, ◌<◌, ◌≤◌, ap, sym, subst, refl, inl, inr, arith, ℕ, Bool, true, false, List, [], ◌∷◌, length, Some, None}
use Rattle.std.specs.Prelude.{option_map, option_and_then, slice_get, unwrap_or}
use Rattle.std.specs.List.{All, Any, slice_index_or}
use Rattle.std.specs.Str.{bytes_eq}
use Rattle.std.specs.Borrow.{Bor}
use Rattle.std.proofs.lemmas.Slice.Eq.{bytes_eq-Decides}
use Rattle.clap.specs.Facts.{AllowsNone, Entry, EntryPasses, HasReading, IsCountArg, IsKnownGroup, MayBeEmpty, PassesArg, args_of, groups_of, least_values, parser_of, parser_of_value}
use Rattle.clap.specs.Built.{IsAuto, IsParsedFrom, SameRules}
use Rattle.clap.specs.Matches.{first_value, found_of, matched_of, one_text}
use Rattle.clap.specs.Values.{Accepts, read_as, reading_of}
use Rattle.clap.specs.declared.builder.action.ArgAction.TheVariants.{Count, Set}
use Rattle.clap.specs.declared.builder.arg.Arg.{Arg}
use Rattle.clap.specs.declared.builder.command.Command.{Command}
use Rattle.clap.specs.declared.builder.command.Command.TheViews.{out-Command}
use Rattle.clap.specs.declared.builder.value_parser.Reading.{Reading}
use Rattle.clap.specs.declared.builder.value_parser.ValueParser.{ValueParser}
use Rattle.clap.specs.declared.parser.matches.ArgMatches.{ArgMatches}
use Rattle.clap.specs.declared.parser.matches.MatchedArg.{MatchedArg}
use Rattle.clap.proofs.CallerLemmas.{entry_by_id, same_rules_by_id}

abbrev pub own_id : Command → ℕ → Arg → List ℕ
own_id old k d = (slice_index_or (args_of old) k d).id.now

-- the k-th argument takes one value, which this parser reads, and no other argument has its id
pub record IsOwn (old : Command) (k : ℕ) (d : Arg) (q : ValueParser) : Type 0 where
  pub lt : k < length (args_of old)
  pub unique : (j : ℕ) (e : Arg) → j < length (args_of old)
      → bytes_eq (slice_index_or (args_of old) j e).id.now (slice_index_or (args_of old) k d).id.now ≡ true → j ≡ k
  pub named : (slice_index_or (args_of old) k d).id.now ≡ [] → ⊥
  pub own : IsAuto (slice_index_or (args_of old) k d) → ⊥
  pub action : (slice_index_or (args_of old) k d).action ≡ Some Set
  pub delimiter : (slice_index_or (args_of old) k d).val_delim ≡ None
  pub least : 1 ≤ least_values (slice_index_or (args_of old) k d)
  pub parser : (slice_index_or (args_of old) k d).value_parser ≡ Some q
  pub case : (slice_index_or (args_of old) k d).ignore_case ≡ false

-- any built argument with its id has its rules
same_rules : (old : Command) (m : ArgMatches) (p : IsParsedFrom old m) (k : ℕ) (d : Arg) (q : ValueParser)
    → IsOwn old k d q
    → (P : Arg → Type 0) (any : Any (λ a. (bytes_eq a.id.now (own_id old k d) ≡ true) × P a) (args_of p.built))
    → SameRules (slice_index_or (args_of old) k d) any.1
same_rules old m p k d q w P any = same_rules_by_id old m p k d w.lt w.unique w.own any.0 any.1 any.2 any.3 any.4.0

accepted : (old : Command) (m : ArgMatches) (p : IsParsedFrom old m) (k : ℕ) (d : Arg) (q : ValueParser)
    → IsOwn old k d q
    → (v : List ℕ) → PassesArg p.built (own_id old k d) v → Accepts false q v
accepted old m p k d q w v any =
    let s = same_rules old m p k d q w (λ a. Accepts a.ignore_case (parser_of a) v) any in
    let is_q : parser_of any.1 ≡ q = ap parser_of_value (s.parser q w.parser) in
    let as_q : Accepts any.1.ignore_case q v = subst (λ (x : ValueParser). Accepts any.1.ignore_case x v) is_q any.4.1 in
    subst (λ (b : Bool). Accepts b q v) (s.ignore_case ∙ w.case) as_q

read_by : (old : Command) (m : ArgMatches) (p : IsParsedFrom old m) (k : ℕ) (d : Arg) (q : ValueParser)
    → IsOwn old k d q
    → (r : Reading) → HasReading p.built (own_id old k d) r → r ≡ reading_of q
read_by old m p k d q w r any =
    let s = same_rules old m p k d q w (λ a. reading_of (parser_of a) ≡ r) any in
    sym any.4.1 ∙ ap reading_of (ap parser_of_value (s.parser q w.parser))

never_counts : (old : Command) (m : ArgMatches) (p : IsParsedFrom old m) (k : ℕ) (d : Arg) (q : ValueParser)
    → IsOwn old k d q
    → IsCountArg p.built (own_id old k d) → ⊥
never_counts old m p k d q w any =
    let s = same_rules old m p k d q w (λ a. unwrap_or a.action Set ≡ Count) any in
    let is_set : any.1.action ≡ Some Set = s.action Set w.action in
    let bad : Set ≡ Count = rw is_set at any.4.1 in
    absurd cc

never_empty : (old : Command) (m : ArgMatches) (p : IsParsedFrom old m) (k : ℕ) (d : Arg) (q : ValueParser)
    → IsOwn old k d q
    → AllowsNone p.built (own_id old k d) → ⊥
never_empty old m p k d q w any =
    let s = same_rules old m p k d q w MayBeEmpty any in
    elim any.4.1 [
      | inl none ↦
          let one = s.least w.action w.least in
          absurd (omega arith)
      | inr has ↦
          let bad : false ≡ true = rw (s.val_delim, w.delimiter) at has in
          absurd cc
    ]

no_group : (old : Command) (m : ArgMatches) (p : IsParsedFrom old m) (k : ℕ) (d : Arg) (q : ValueParser)
    → IsOwn old k d q → groups_of p.built ≡ []
    → IsKnownGroup p.built (own_id old k d) → ⊥
no_group old m p k d q w no_groups (inl empty) = w.named empty
no_group old m p k d q w no_groups (inr some) =
    let bad : 0 < 0 = rw no_groups at some in
    absurd (omega arith)

-- what holds of an entry, where its id is the argument's
pub record HasValues (q : ValueParser) (x : MatchedArg) : Type 0 where
  pub some : 0 < length x.vals.items
  pub each : All (λ v. Accepts false q v.now) x.vals.items
  pub reading : x.reading ≡ reading_of q

entry_values : (old : Command) (m : ArgMatches) (p : IsParsedFrom old m) (k : ℕ) (d : Arg) (q : ValueParser)
    → IsOwn old k d q → groups_of p.built ≡ []
    → (e : Entry) → e.0.now ≡ own_id old k d → EntryPasses p.built e → HasValues q e.1
entry_values old m p k d q w no_groups e key pass =
    let alone : e.1.is_group ≡ true → ⊥ = λ g. no_group old m p k d q w no_groups (subst (λ (u : List ℕ). IsKnownGroup p.built u) key (pass.3 g)) in
    record {
      some = elim pass.1 [
        | inl g ↦ absurd (alone g.0)
        | inr (inl some) ↦ some
        | inr (inr (inl count)) ↦ absurd (never_counts old m p k d q w (subst (λ (u : List ℕ). IsCountArg p.built u) key count.1))
        | inr (inr (inr none)) ↦ absurd (never_empty old m p k d q w (subst (λ (u : List ℕ). AllowsNone p.built u) key none))
      ];
      each = elim pass.0 [
        | inl g ↦ absurd (alone g)
        | inr all ↦ λ i v lt. accepted old m p k d q w (slice_index_or e.1.vals.items i v).now
            (subst (λ (u : List ℕ). PassesArg p.built u (slice_index_or e.1.vals.items i v).now) key (all i v lt))
      ];
      reading = elim pass.4 [
        | inl g ↦ absurd (alone g)
        | inr h ↦ read_by old m p k d q w e.1.reading (subst (λ (u : List ℕ). HasReading p.built u e.1.reading) key h)
      ];
    }

head_of : (vs : List (Bor (List ℕ))) → 0 < length vs
    → (v : Bor (List ℕ)) × (slice_get vs 0 ≡ Some v) × (slice_index_or vs 0 v ≡ v)
head_of [] lt = absurd (omega arith)
head_of (v ∷ vs) lt = (v, refl, refl)

-- an argument of the caller's that was met has a first value, which passed its parser and is read as the parser says
pub given_value : (old : Command) (m : ArgMatches) (p : IsParsedFrom old m) (k : ℕ) (d : Arg) (q : ValueParser)
    → IsOwn old k d q
    → (out-Command old).has_globals ≡ false → groups_of p.built ≡ []
    → (x : MatchedArg) → matched_of (found_of m) (own_id old k d) ≡ Some x
    → (v : List ℕ) × (first_value (found_of m) (own_id old k d) ≡ Some v)
    × (one_text (found_of m) (own_id old k d) ≡ Some (read_as (reading_of q) v)) × Accepts false q v
given_value old m p k d q w globals no_groups x met =
    let parsed = p.parsed (p.from.globals ∙ globals) in
    let got = entry_by_id (EntryPasses p.built) (found_of m).entries.items (own_id old k d) x parsed.values met in
    let key : got.0.0.now ≡ own_id old k d = (bytes_eq-Decides _ _).0 got.2 in
    let has : HasValues q x = subst (HasValues q) got.1 (entry_values old m p k d q w no_groups got.0 key got.3) in
    let head = head_of x.vals.items has.some in (
      head.0.now,
      ap (option_and_then (λ (a : MatchedArg). option_map (λ s. s.now) (slice_get a.vals.items 0))) met ∙ ap (option_map (λ s. s.now)) head.1,
      ap (option_and_then (λ (a : MatchedArg). option_map (λ s. read_as a.reading s.now) (slice_get a.vals.items 0))) met
          ∙ (ap (option_map (λ s. read_as x.reading s.now)) head.1 ∙ ap (λ (how : Reading). Some (read_as how head.0.now)) has.reading),
      subst (λ (s : Bor (List ℕ)). Accepts false q s.now) head.2 (has.each 0 head.0 has.some),
    )
