-- What the part of a payload in a shard keeps of it.
use Rattle.std.proofs.Common.{◌≡◌, ℕ, ◌+◌, ◌<◌, ◌≤◌, Bool, true, false, ◌&&◌, List, [], ◌∷◌, length, refl, sym, ap, ◌∙◌, subst, arith}
use Rattle.std.specs.Prelude.{filter, find, Option, Some, None, ◌==◌}
use Rattle.std.specs.List.{list_all, list_any}
use Rattle.std.specs.Cmp.Lexicographic.{same_text}
use Rattle.std.proofs.lemmas.Bool.{cond_both, and_parts, eqb-true, eq-eqb}
use Rattle.std.proofs.lemmas.Map.Views.{any-filter_same}
use Rattle.tcs_terms.specs.declared.payloads.ReadPart.{ReadPart}
use Rattle.tcs_terms.specs.declared.payloads.WritePart.{WritePart}
use Rattle.tcs_terms.specs.Payloads.{Accesses, same_name, reads_name}
use Rattle.tcs_terms.specs.Shards.{shard_of, lies_in, part_in, restricted, seen, version_seen, range_version, in_range_part}
use Rattle.tcs_laws.specs.Writing.{writes_name}
use Rattle.tcs_laws.proofs.ListLemmas.{find-filter_same}

-- names that a test takes for one lie in one shard
pub lies_with : (n shard : ℕ) (a b : List ℕ) → same_name a b ≡ true → lies_in n shard b ≡ true → lies_in n shard a ≡ true
lies_with n shard a b same there =
    let one : a ≡ b = same_text a b (sym same) in
    subst (λ x. lies_in n shard x ≡ true) (sym one) there

-- each name lies in one of the shards
pub shard_within : (name : List ℕ) (n : ℕ) → 1 ≤ n → (1 ≤ shard_of name n) × (shard_of name n < 1 + n)
shard_within name n some = (omega arith, omega arith)

pub lies_in_own : (name : List ℕ) (n : ℕ) → lies_in n (shard_of name n) name ≡ true
lies_in_own name n = eq-eqb (shard_of name n) (shard_of name n) refl

-- the part in a shard saw the objects of that shard as the whole payload did
pub part_sees : (n shard : ℕ) (p : Accesses) (name : List ℕ) → lies_in n shard name ≡ true
    → seen (part_in n shard p) name ≡ seen p name
part_sees n shard p name there =
    ap (λ r. version_seen r (range_version (find (in_range_part name) p.ranges)))
    (find-filter_same (λ r. same_name r.name name) (λ r. lies_in n shard r.name)
    (λ r same. lies_with n shard r.name name same there) p.reads)

-- and writes those of them that it does
pub part_writes : (n shard : ℕ) (p : Accesses) (name : List ℕ) → lies_in n shard name ≡ true
    → writes_name (part_in n shard p).writes name ≡ writes_name p.writes name
part_writes n shard p name there =
    any-filter_same (λ w. same_name w.name name) (λ w. lies_in n shard w.name) true
    (λ w same. lies_with n shard w.name name same there) p.writes

none_long : {X : Type 0} (xs : List X) → (length xs == 0) ≡ true → xs ≡ []
none_long [] e = refl
none_long (x ∷ xs) e = absurd (let none : length (x ∷ xs) ≡ 0 = eqb-true (length (x ∷ xs)) 0 e in omega arith)

-- a payload has no part in a shard where it has no read there and no range, and else it has one
pub restricted_cases : (n shard : ℕ) (p : Accesses) (P : Option Accesses → Type 0)
    → ((part_in n shard p).reads ≡ [] → p.ranges ≡ [] → P None) → P (Some (part_in n shard p))
    → P (restricted n shard p)
restricted_cases n shard p P absent present =
    cond_both ((length (part_in n shard p).reads == 0) && (length p.ranges == 0)) None (Some (part_in n shard p)) P
    (λ e. let parts = and_parts (length (part_in n shard p).reads == 0) (length p.ranges == 0) e in
    absent (none_long (part_in n shard p).reads parts.0) (none_long p.ranges parts.1))
    (λ _. present)

-- where it has none, it saw nothing that lies there
pub absent_sees_nothing : (n shard : ℕ) (p : Accesses) → (part_in n shard p).reads ≡ [] → p.ranges ≡ []
    → (name : List ℕ) → lies_in n shard name ≡ true → seen p name ≡ None
absent_sees_nothing n shard p no_reads no_ranges name there =
    let whole : seen (part_in n shard p) name ≡ seen p name = part_sees n shard p name there in
    let reads : find (λ r. same_name r.name name) (part_in n shard p).reads ≡ None =
    ap (λ rs. find (λ r. same_name r.name name) rs) no_reads in
    let ranges : find (in_range_part name) p.ranges ≡ None = ap (λ qs. find (in_range_part name) qs) no_ranges in
    sym whole ∙ ap (λ r. version_seen r (range_version (find (in_range_part name) p.ranges))) reads ∙ ap range_version ranges

-- and where each written name is read, it writes nothing there
pub absent_writes_nothing : (n shard : ℕ) (reads : List ReadPart) (writes : List WritePart)
    → filter (λ r. lies_in n shard r.name) reads ≡ [] → list_all (λ w. reads_name reads w.name) writes ≡ true
    → filter (λ w. lies_in n shard w.name) writes ≡ []
absent_writes_nothing n shard reads [] none all_read = refl
absent_writes_nothing n shard reads (w ∷ ws) none all_read =
    let parts = and_parts (reads_name reads w.name) (list_all (λ w. reads_name reads w.name) ws) all_read in
    let later : filter (λ w. lies_in n shard w.name) ws ≡ [] = absent_writes_nothing n shard reads ws none parts.1 in
    cond_both (lies_in n shard w.name) (w ∷ filter (λ w. lies_in n shard w.name) ws) (filter (λ w. lies_in n shard w.name) ws) (λ kept. kept ≡ [])
    (λ there.
    let test : ReadPart → Bool = λ r. same_name r.name w.name in
    let kept : list_any test (filter (λ r. lies_in n shard r.name) reads) ≡ list_any test reads =
    any-filter_same test (λ r. lies_in n shard r.name) true (λ r same. lies_with n shard r.name w.name same there) reads in
    let lost : list_any test (filter (λ r. lies_in n shard r.name) reads) ≡ false = ap (λ rs. list_any test rs) none in
    let here = parts.0 in
    absurd (let no : true ≡ false = sym here ∙ sym kept ∙ lost in cc))
    (λ _. later)
