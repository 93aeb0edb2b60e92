-- What a payload's part in a shard adds to an object is at most what the payload adds.
use Rattle.std.proofs.Common.{◌≡◌, ℕ, ◌≤◌, Bool, true, false, cond, List, [], ◌∷◌, find, filter, refl, sym, ap, ◌∙◌, subst, inl, inr, arith}
use Rattle.std.specs.Prelude.{Option, Some, None}
use Rattle.std.specs.Cmp.Lexicographic.{same_text}
use Rattle.std.specs.Option.{option_map, unwrap_or}
use Rattle.std.proofs.lemmas.Bool.{cases_Bool, cond-true, cond-false, cond_both}
use Rattle.tcs_terms.specs.declared.payloads.WritePart.{WritePart}
use Rattle.tcs_terms.specs.Payloads.{Accesses, same_name}
use Rattle.tcs_terms.specs.Shards.{lies_in, part_in, restricted}
use Rattle.tcs_laws.proofs.PartLemmas.{restricted_cases}
use Rattle.cert_commute.specs.Commute.{is_counter}
use Rattle.counters.specs.Amounts.{amount, amount_of}

module _ (n shard : ℕ) (name : List ℕ) where
  abbrev lies : WritePart → Bool
  lies w = lies_in n shard w.name

  abbrev named : WritePart → Bool
  named w = same_name w.name name

  -- the write of an object is found in the part where the object lies there, and else none is
  found : (ws : List WritePart) → find named (filter lies ws) ≡ cond (lies_in n shard name) (find named ws) None
  found [] = sym (cond_both (lies_in n shard name) None None (λ o. o ≡ None) (λ _. refl) (λ _. refl))
  found (w ∷ ws) = elim (cases_Bool (lies w)) [
    | inl kept ↦ ap (find named) (cond-true (lies w) (w ∷ filter lies ws) (filter lies ws) kept) ∙ (elim (cases_Bool (named w)) [
      | inl same ↦ cond-true (named w) (Some w) (find named (filter lies ws)) same
          ∙ sym (cond-true (lies_in n shard name) (find named (w ∷ ws)) None (there same kept) ∙ cond-true (named w) (Some w) (find named ws) same)
      | inr apart ↦ cond-false (named w) (Some w) (find named (filter lies ws)) apart ∙ found ws
          ∙ ap (λ o. cond (lies_in n shard name) o None) (sym (cond-false (named w) (Some w) (find named ws) apart))
    ])
    | inr left ↦ ap (find named) (cond-false (lies w) (w ∷ filter lies ws) (filter lies ws) left) ∙ found ws ∙ (elim (cases_Bool (named w)) [
      | inl same ↦ (let out : lies_in n shard name ≡ false = subst (λ x. lies_in n shard x ≡ false) (same_text w.name name (sym same)) left in
          cond-false (lies_in n shard name) (find named ws) None out ∙ sym (cond-false (lies_in n shard name) (find named (w ∷ ws)) None out))
      | inr apart ↦ ap (λ o. cond (lies_in n shard name) o None) (sym (cond-false (named w) (Some w) (find named ws) apart))
    ])
  ]
    where
      there : named w ≡ true → lies w ≡ true → lies_in n shard name ≡ true
      there same kept = subst (λ x. lies_in n shard x ≡ true) (same_text w.name name (sym same)) kept

  abbrev worth : WritePart → ℕ
  worth w = amount_of w.value

  smaller : (b c : Bool) (o : Option WritePart)
      → unwrap_or (cond b (option_map worth (cond c o None)) None) 0 ≤ unwrap_or (cond b (option_map worth o) None) 0
  smaller false c o = omega arith
  smaller true false o = omega arith
  smaller true true o = omega arith

  pub part_adds_less : (p : Accesses) → amount (part_in n shard p) name ≤ amount p name
  part_adds_less p =
      let one = smaller (is_counter name) (lies_in n shard name) (find named p.writes) in
      subst (λ o. unwrap_or (cond (is_counter name) (option_map worth o) None) 0 ≤ amount p name) (sym (found p.writes)) one

  -- it is as much, where the object lies in the shard
  pub part_adds_same : (p : Accesses) → lies_in n shard name ≡ true → amount (part_in n shard p) name ≡ amount p name
  part_adds_same p here =
      ap (λ o. unwrap_or (cond (is_counter name) (option_map worth o) None) 0) (found p.writes ∙ cond-true (lies_in n shard name) (find named p.writes) None here)

  -- so it is with the payload of a row
  pub row_adds_less : (p q : Accesses) → Some q ≡ restricted n shard p → amount q name ≤ amount p name
  row_adds_less p q is = restricted_cases n shard p (λ o. Some q ≡ o → amount q name ≤ amount p name)
      (λ reads ranges e. absurd (let no : Some q ≡ None = e in cc))
      (λ e. let same : q ≡ part_in n shard p = cc in subst (λ x. amount x name ≤ amount p name) (sym same) (part_adds_less p))
      is
