-- Shards, members and configurations are read as they are spelled.
use Rattle.std.proofs.Common.{◌≡◌, ℕ, ◌<◌, ◌≤◌, ltb, leb, eqb, List, [], ◌∷◌, ◌++◌, length, Ok, refl, ap, subst, ◌∙◌, append_assoc, arith, inl, inr}
use Rattle.std.specs.Prelude.{IsTrue}
use Rattle.std.specs.List.{flat_map, list_all}
use Rattle.std.proofs.lemmas.Bool.{and_parts, and_from, lt-ltb, le-leb, or_cases, eqb-true}
use Rattle.tcs_terms.specs.Order.{ascends}
use Rattle.tcs_terms.specs.Places.{is_node, is_among, IsShardSet, Membership, IsMembership}
use Rattle.wire_frame.specs.declared.faults.FrameReason.TheVariants.{Range, Order}
use Rattle.wire_frame.specs.Spelling.{four, counted, spell_config}
use Rattle.wire_frame.specs.Reading.{byte_at, tested, each_at}
use Rattle.wire_frame.specs.Parts.{is_up_to, epoch_at, shard_at, next_at, ascending_at, shards_at, members_at, config_at}
use Rattle.wire_frame.proofs.Counts.{few_shards}
use Rattle.wire_frame.proofs.Fields.{IsBytes, Takes, Takes-then, IsField, nothing_yet, on, all_read, goes, tested_field, restated, Chain, each_takes, each_again}
use Rattle.wire_frame.proofs.NumberFields.{one, up_to, small_field, at_most_field, epoch_field, shard_field}

pub ones : (xs : List ℕ) → flat_map one xs ≡ xs
ones [] = refl
ones (x ∷ xs) = ap (λ (t : List ℕ). x ∷ t) (ones xs)

-- ascending numbers from 1 to the most, at least one and not too many
pub record AreNumbers (many most : ℕ) (xs : List ℕ) : Type 0 where
  pub some : 1 ≤ length xs
  pub few : length xs ≤ many
  pub each : IsTrue (list_all (is_up_to most) xs)
  pub ascend : IsTrue (ascends xs)

abbrev next_good : ℕ → ℕ → ℕ → Type 0
next_good most last n = IsTrue (is_up_to most n) × IsTrue (ltb last n)

next_field : (most : ℕ) → most < 256 → (last : ℕ) → IsField one (next_good most last) (next_at most last)
unfolding next_at
next_field most small last = tested_field Order (ltb last) (small_field (is_up_to most) (λ n h. omega (arith, up_to most n h)))

abbrev later : ℕ → ℕ → ℕ
later last n = n

chain_ascends : (most last : ℕ) (xs : List ℕ) → Chain (next_good most) later last xs → IsTrue (list_all (is_up_to most) xs) × IsTrue (ascends (last ∷ xs))
chain_ascends most last [] chain = (refl, refl)
chain_ascends most last (x ∷ xs) chain =
    let r = chain_ascends most x xs chain.1 in
    (and_from (is_up_to most x) (list_all (is_up_to most) xs) chain.0.0 r.0, and_from (ltb last x) (ascends (x ∷ xs)) chain.0.1 r.1)

ascends_chain : (most last : ℕ) (xs : List ℕ) → IsTrue (list_all (is_up_to most) xs) → IsTrue (ascends (last ∷ xs)) → Chain (next_good most) later last xs
ascends_chain most last [] each up = tt
ascends_chain most last (x ∷ xs) each up =
    let e = and_parts (is_up_to most x) (list_all (is_up_to most) xs) each in
    let u = and_parts (ltb last x) (ascends (x ∷ xs)) up in
    ((e.0, u.0), ascends_chain most x xs e.1 u.1)

pub without_zero : (xs : List ℕ) → IsTrue (ascends (0 ∷ xs)) → IsTrue (ascends xs)
without_zero [] up = refl
without_zero (x ∷ xs) up = (and_parts (ltb 0 x) (ascends (x ∷ xs)) up).1

pub with_zero : (most : ℕ) (xs : List ℕ) → IsTrue (list_all (is_up_to most) xs) → IsTrue (ascends xs) → IsTrue (ascends (0 ∷ xs))
with_zero most [] each up = refl
with_zero most (x ∷ xs) each up =
    let e = and_parts (is_up_to most x) (list_all (is_up_to most) xs) each in
    and_from (ltb 0 x) (ascends (x ∷ xs)) (lt-ltb 0 x (omega (arith, up_to most x e.0))) up

module _ (many most : ℕ) (small_many : many < 256) (small_most : most < 256) where
  count_field : IsField one (λ n. IsTrue (is_up_to many n)) (tested Range (is_up_to many) byte_at)
  count_field = small_field (is_up_to many) (λ n h. omega (arith, up_to many n h))

  ascending_takes : (bytes : List ℕ) (x : List ℕ × List ℕ) → IsBytes bytes → ascending_at many most bytes ≡ Ok x → Takes bytes (counted x.0) x.1 × AreNumbers many most x.0
  unfolding ascending_at
  ascending_takes bytes x fits e =
      on count_field _ x bytes [] bytes (nothing_yet bytes fits) e (λ count mid so_far is_count e.
      let t = each_takes later (next_field most small_most) count 0 mid x so_far.rest_fits e in
      let c = chain_ascends most 0 x.0 t.2 in
      let n = up_to many count is_count in
      let text : count ∷ flat_map one x.0 ≡ counted x.0 = rw (t.1, ones x.0) refl in
      (subst (λ (w : List ℕ). Takes bytes w x.1) text (Takes-then bytes (one count) mid (flat_map one x.0) x.1 so_far t.0), record { some = omega (arith, t.1); few = omega (arith, t.1); each = c.0; ascend = without_zero x.0 c.1 }))

  ascending_again : (xs : List ℕ) (rest : List ℕ) → AreNumbers many most xs → ascending_at many most (counted xs ++ rest) ≡ Ok (xs, rest)
  unfolding ascending_at
  ascending_again xs rest are =
      let count : IsTrue (is_up_to many (length xs)) = and_from (leb 1 (length xs)) (leb (length xs) many) (le-leb _ _ are.some) (le-leb _ _ are.few) in
      goes count_field _ (length xs) (xs ++ rest) count
      ∙ subst (λ (w : List ℕ). each_at (next_at most) later (length xs) 0 (w ++ rest) ≡ Ok (xs, rest)) (ones xs)
      (each_again later (next_field most small_most) 0 xs rest (ascends_chain most 0 xs are.each (with_zero most xs are.each are.ascend)))

  pub ascending_field : IsField counted (AreNumbers many most) (ascending_at many most)
  ascending_field = record { takes = ascending_takes; again = ascending_again }

pub shards_field : IsField counted IsShardSet shards_at
shards_field = restated IsShardSet
    (λ xs are. record { some = are.some; each = are.each; ascend = are.ascend })
    (λ xs set. record { some = set.some; few = few_shards xs set; each = set.each; ascend = set.ascend })
    (ascending_field 16 16 (omega arith) (omega arith))

pub members_field : IsField counted (AreNumbers 7 64) members_at
members_field = ascending_field 7 64 (omega arith) (omega arith)

-- ---- configurations

leader_small : (members : List ℕ) → IsTrue (list_all is_node members) → (n : ℕ) → IsTrue (is_among members n) → n < 256
leader_small [] each n among = absurd cc
leader_small (m ∷ members) each n among =
    let e = and_parts (is_node m) (list_all is_node members) each in
    elim (or_cases (eqb m n) (is_among members n) among) [
      | inl same ↦ omega (arith, eqb-true m n same, up_to 64 m e.0)
      | inr more ↦ leader_small members e.1 n more
    ]

config_takes : (bytes : List ℕ) (x : Membership × List ℕ) → IsBytes bytes → config_at bytes ≡ Ok x → Takes bytes (spell_config x.0) x.1 × IsMembership x.0
unfolding config_at spell_config
config_takes bytes x fits e =
    on shard_field _ x bytes [] bytes (nothing_yet bytes fits) e (λ shard mid so_far is_shard e.
    on epoch_field _ x bytes _ mid so_far e (λ epoch mid so_far is_epoch e.
    on members_field _ x bytes _ mid so_far e (λ members mid so_far are e.
    on (small_field (is_among members) (leader_small members are.each)) _ x bytes _ mid so_far e (λ leader mid so_far leads e.
    on (at_most_field 64 (omega arith)) _ x bytes _ mid so_far e (λ by rest so_far is_by e.
    all_read spell_config IsMembership bytes _ rest x e so_far (record { some = are.some; few = are.few; each = are.each; ascend = are.ascend; leads = leads; shard = is_shard; epoch = is_epoch; by = is_by }))))))

config_again : (c : Membership) (rest : List ℕ) → IsMembership c → config_at (spell_config c ++ rest) ≡ Ok (c, rest)
unfolding config_at spell_config
config_again c rest is =
    let regrouped : spell_config c ++ rest ≡ c.shard ∷ (four c.epoch ++ (counted c.members ++ (c.leader ∷ c.by ∷ rest))) = simp append_assoc in
    ap config_at regrouped
    ∙ goes shard_field _ c.shard (four c.epoch ++ (counted c.members ++ (c.leader ∷ c.by ∷ rest))) is.shard
    ∙ goes epoch_field _ c.epoch (counted c.members ++ (c.leader ∷ c.by ∷ rest)) is.epoch
    ∙ goes members_field _ c.members (c.leader ∷ c.by ∷ rest) (record { some = is.some; few = is.few; each = is.each; ascend = is.ascend })
    ∙ goes (small_field (is_among c.members) (leader_small c.members is.each)) _ c.leader (c.by ∷ rest) is.leads
    ∙ goes (at_most_field 64 (omega arith)) _ c.by rest is.by

pub config_field : IsField spell_config IsMembership config_at
config_field = record { takes = config_takes; again = config_again }

-- what is read part by part is a configuration
pub is_config : (bytes after_shard after_epoch after_members after_leader rest : List ℕ) (c : Membership) → IsBytes bytes → shard_at bytes ≡ Ok (c.shard, after_shard)
    → epoch_at after_shard ≡ Ok (c.epoch, after_epoch) → members_at after_epoch ≡ Ok (c.members, after_members) → tested Range (is_among c.members) byte_at after_members ≡ Ok (c.leader, after_leader)
    → tested Range (λ n. leb n 64) byte_at after_leader ≡ Ok (c.by, rest) → IsMembership c
unfolding config_at
is_config bytes after_shard after_epoch after_members after_leader rest c fits shard epoch members leader by =
    let read : config_at bytes ≡ Ok (c, rest) = rw (shard, epoch, members, leader, by) refl in
    (config_field.takes bytes (c, rest) fits read).1
