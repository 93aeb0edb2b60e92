-- The committed test is distributive over shards, where it asks of each object that the older payload writes whether
-- the newer one, as it saw that object, is hit.
use Rattle.std.proofs.Common.{◌≡◌, ℕ, ◌≤◌, Bool, true, false, not, List, [], ◌∷◌, refl, sym, ap, ◌∙◌, inl, inr}
use Rattle.std.specs.Prelude.{filter, Some, None, All}
use Rattle.std.specs.List.{list_all, list_any, range_with_len}
use Rattle.std.proofs.lemmas.Bool.{not-true, not_from_false, or_cases, or_left, or_right, cond_both, cond-true, both_ways, false_from_ne_true}
use Rattle.std.proofs.lemmas.List.Elements.{All-head, All-tail}
use Rattle.tcs_terms.specs.declared.payloads.WritePart.{WritePart}
use Rattle.tcs_terms.specs.Payloads.{Accesses, IsPayload}
use Rattle.tcs_terms.specs.Shards.{shard_of, lies_in, part_in, restricted, seen}
use Rattle.tcs_laws.specs.Certification.{Tests, committed_passes, committed_passes_in, committed_passes_in_each, parts_ok}
use Rattle.tcs_laws.proofs.ListLemmas.{same_truth, any-filter_agree, any-filter_none, any-filter_less, all_hold, all_agree, all_both, all_range}
use Rattle.tcs_laws.proofs.PartLemmas.{lies_in_own, shard_within, restricted_cases, absent_sees_nothing, absent_writes_nothing}

-- whether the newer payload is hit by a write of an object at a version
abbrev pub Hit : Type 0
Hit = Accesses → ℕ → List ℕ → Bool

-- the test passes where no write hits; a part is hit as the whole is; what was not seen is not hit
pub record AsksPerWrite (ok : Accesses → Accesses → Bool) (hit : Hit) : Type 0 where
  pub test : (old new : Accesses) → ok old new ≡ not (list_any (λ w. hit new old.version w.name) old.writes)
  pub in_part : (n shard : ℕ) (new : Accesses) (version : ℕ) (name : List ℕ) → lies_in n shard name ≡ true
      → hit (part_in n shard new) version name ≡ hit new version name
  pub unseen : (new : Accesses) (version : ℕ) (name : List ℕ) → seen new name ≡ None → hit new version name ≡ false

-- the writes that lie in a shard
abbrev writes_in : ℕ → ℕ → List WritePart → List WritePart
writes_in n shard ws = filter (λ w. lies_in n shard w.name) ws

-- what hits lies in some shard
hit_somewhere : (n : ℕ) (hits : List ℕ → Bool) (ws : List WritePart) → list_any (λ w. hits w.name) ws ≡ true
    → (name : List ℕ) × (list_any (λ w. hits w.name) (writes_in n (shard_of name n) ws) ≡ true)
hit_somewhere n hits [] h = absurd (let no : false ≡ true = h in cc)
hit_somewhere n hits (w ∷ ws) h =
    elim (or_cases (hits w.name) (list_any (λ w. hits w.name) ws) h) [
      | inl here ↦ (
        w.name,
        let own : lies_in n (shard_of w.name n) w.name ≡ true = lies_in_own w.name n in
            ap (λ kept. list_any (λ w. hits w.name) kept) (cond-true (lies_in n (shard_of w.name n) w.name) (w ∷ writes_in n (shard_of w.name n) ws) (writes_in n (shard_of w.name n) ws) own)
            ∙ or_left (hits w.name) _ here,
      )
      | inr later ↦ let found = hit_somewhere n hits ws later in (
        found.0,
        cond_both (lies_in n (shard_of found.0 n) w.name) (w ∷ writes_in n (shard_of found.0 n) ws) (writes_in n (shard_of found.0 n) ws)
            (λ kept. list_any (λ w. hits w.name) kept ≡ true)
            (λ _. or_right (hits w.name) _ found.1) (λ _. found.1),
      )
    ]

-- no write hits exactly where none hits in any shard
no_hit_by_shards : (n : ℕ) → 1 ≤ n → (hits : List ℕ → Bool) (ws : List WritePart)
    → not (list_any (λ w. hits w.name) ws)
    ≡ list_all (λ shard. not (list_any (λ w. hits w.name) (writes_in n shard ws))) (range_with_len 1 n)
no_hit_by_shards n some hits ws =
    same_truth _ _
    (λ none. all_hold _ (λ shard. not_from_false _ (false_from_ne_true _ (λ there.
    both_ways _ (not-true _ none) (any-filter_less (λ w. hits w.name) (λ w. lies_in n shard w.name) ws there)))) _)
    (λ each. not_from_false _ (false_from_ne_true _ (λ there.
    let found = hit_somewhere n hits ws there in
    let within = shard_within found.0 n some in
    let here = all_range (λ shard. not (list_any (λ w. hits w.name) (writes_in n shard ws))) 1 n each (shard_of found.0 n) within.0 within.1 in
    both_ways _ (not-true _ here) found.1)))

-- one older payload, in one shard
abbrev in_shard : (Accesses → Accesses → Bool) → ℕ → ℕ → Accesses → Accesses → Bool
in_shard ok n shard old new = parts_ok ok (restricted n shard old) (restricted n shard new)

in_one_shard : (ok : Accesses → Accesses → Bool) (hit : Hit) → AsksPerWrite ok hit → (n shard : ℕ) (old new : Accesses)
    → IsPayload old
    → in_shard ok n shard old new ≡ not (list_any (λ w. hit new old.version w.name) (writes_in n shard old.writes))
in_one_shard ok hit asks n shard old new formed =
    let hits : WritePart → Bool = λ w. hit new old.version w.name in
    let none : Bool = not (list_any hits (writes_in n shard old.writes)) in
    restricted_cases n shard old (λ o. parts_ok ok o (restricted n shard new) ≡ none)
    (λ no_reads _. ap (λ ws. not (list_any hits ws))
    (sym (absent_writes_nothing n shard old.reads old.writes no_reads formed.writes_read)))
    (restricted_cases n shard new (λ o. parts_ok ok (Some (part_in n shard old)) o ≡ none)
    (λ no_reads no_ranges. ap not (sym (any-filter_none hits (λ w. lies_in n shard w.name)
    (λ w there. asks.unseen new old.version w.name (absent_sees_nothing n shard new no_reads no_ranges w.name there)) old.writes)))
    (asks.test (part_in n shard old) (part_in n shard new)
    ∙ ap not (any-filter_agree (λ w. hit (part_in n shard new) old.version w.name) hits (λ w. lies_in n shard w.name)
    (λ w there. asks.in_part n shard new old.version w.name there) old.writes)))

in_each_shard : (ok : Accesses → Accesses → Bool) (hit : Hit) → AsksPerWrite ok hit → (n : ℕ) → 1 ≤ n → (old new : Accesses)
    → IsPayload old → ok old new ≡ list_all (λ shard. in_shard ok n shard old new) (range_with_len 1 n)
in_each_shard ok hit asks n some old new formed =
    asks.test old new ∙ no_hit_by_shards n some (hit new old.version) old.writes
    ∙ all_agree _ _ (λ shard. sym (in_one_shard ok hit asks n shard old new formed)) (range_with_len 1 n)

-- a test against a list of older payloads is distributive over shards
pub by_shards : (tests : Tests) (hit : Hit) → AsksPerWrite tests.committed_ok hit → (n : ℕ) → 1 ≤ n
    → (olds : List Accesses) (new : Accesses) → All IsPayload olds
    → committed_passes tests olds new ≡ committed_passes_in_each tests n olds new
by_shards tests hit asks n some [] new formed = sym (all_hold _ (λ _. refl) (range_with_len 1 n))
by_shards tests hit asks n some (old ∷ olds) new formed =
    let head : IsPayload old = All-head IsPayload old olds formed in
    let here = in_each_shard tests.committed_ok hit asks n some old new head in
    let later = by_shards tests hit asks n some olds new (All-tail IsPayload old olds formed) in
    rw (here, later) (sym (all_both (λ shard. in_shard tests.committed_ok n shard old new) (λ shard. committed_passes_in tests n shard olds new) (range_with_len 1 n)))
