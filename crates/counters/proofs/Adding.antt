-- Sums with the amounts of writes and of payloads more.
use Rattle.std.proofs.Common.{◌≡◌, ℕ, ◌+◌, ◌*◌, ◌-◌, ◌^◌, ◌<◌, ◌≤◌, Bool, true, false, ◌&&◌, ◌==◌, cond, List, [], ◌∷◌, ◌++◌, length, take, get_or, find, refl, sym, ap, ◌∙◌, subst, inl, inr, arith}
use Rattle.std.specs.Prelude.{Option, Some, None, fold, nat_le, map, min}
use Rattle.std.specs.BTreeMap.{is_at, Updates}
use Rattle.std.specs.Cmp.Lexicographic.{texts_ties, same_text, bytes_decides}
use Rattle.std.specs.Int.{w64, from_be_bytes}
use Rattle.std.specs.Option.{option_map, option_or, unwrap_or}
use Rattle.std.proofs.lemmas.Bool.{cases_Bool, cond-true, cond-false, cond_both, and_parts, leb-true}
use Rattle.std.proofs.lemmas.List.{take_more}
use Rattle.std.proofs.lemmas.List.Folds.{find-append}
use Rattle.std.proofs.lemmas.List.Sums.{fold-append}
use Rattle.tcs_terms.specs.declared.payloads.WritePart.{WritePart}
use Rattle.tcs_terms.specs.Order.{names_ascend}
use Rattle.tcs_terms.specs.Payloads.{Accesses, same_name}
use Rattle.cert_commute.specs.Commute.{is_counter}
use Rattle.counters.specs.declared.limits.TheConstants.{MAX_AMOUNT, MAX_PAYLOADS}
use Rattle.counters.specs.Amounts.{amount, amount_of, added_by, plus, sum_of, total_of}
use Rattle.counters.specs.Sums.{Sums, name_cmp, sum_at, AddsWrites, AreSums}
use Rattle.counters.proofs.NamesApart.{none_before}

-- ---- sums of what may be there

plus_none : (a : Option ℕ) → plus a None ≡ a
plus_none None = refl
plus_none (Some a) = refl

plus_some : (a : Option ℕ) (b : ℕ) → plus a (Some b) ≡ Some (unwrap_or a 0 + b)
plus_some None b = ap (λ n. Some n) (omega arith)
plus_some (Some a) b = refl

plus_again : (a b c : Option ℕ) → plus (plus a b) c ≡ plus a (plus b c)
plus_again None b c = refl
plus_again (Some a) None c = refl
plus_again (Some a) (Some b) None = refl
plus_again (Some a) (Some b) (Some c) = ap (λ n. Some n) (omega arith)

pub plus_worth : (a b : Option ℕ) → unwrap_or (plus a b) 0 ≡ unwrap_or a 0 + unwrap_or b 0
plus_worth None b = omega arith
plus_worth (Some a) None = omega arith
plus_worth (Some a) (Some b) = refl

-- ---- one write

-- one write adds to its own object alone
added_own : (w : WritePart) (name : List ℕ) → is_counter w.name ≡ true → same_name w.name name ≡ true → added_by (w ∷ []) name ≡ Some (amount_of w.value)
added_own w name counter same =
    subst (λ n. added_by (w ∷ []) n ≡ Some (amount_of w.value)) (same_text w.name name (sym same))
    (cond-true (is_counter w.name) _ None counter
    ∙ ap (λ o. option_map (λ (x : WritePart). amount_of x.value) o) (cond-true (same_name w.name w.name) (Some w) None ((bytes_decides w.name w.name).1 refl)))

added_other : (w : WritePart) (name : List ℕ) → same_name w.name name ≡ false → added_by (w ∷ []) name ≡ None
added_other w name apart = cond_both (is_counter name) (option_map (λ (x : WritePart). amount_of x.value) (find (λ (x : WritePart). same_name x.name name) (w ∷ []))) None (λ o. o ≡ None)
    (λ _. ap (λ o. option_map (λ (x : WritePart). amount_of x.value) o) (cond-false (same_name w.name name) (Some w) None apart))
    (λ _. refl)

-- the sum of its object with a write more
pub adds_one : (before after : Sums) (w : WritePart) → is_counter w.name ≡ true
    → Updates name_cmp before after w.name (Some (min (unwrap_or (sum_at before w.name) 0 + amount_of w.value) (2 ^ 64 - 1)))
    → AddsWrites before after (w ∷ [])
adds_one before after w counter updates name fits = updates.0 name ∙ (elim (cases_Bool (same_name w.name name)) [
  | inl same ↦ cond-true (is_at (name_cmp w.name) name) _ (sum_at before name) (sym (texts_ties w.name name) ∙ same) ∙ own same
  | inr apart ↦ cond-false (is_at (name_cmp w.name) name) _ (sum_at before name) (sym (texts_ties w.name name) ∙ apart)
      ∙ sym (ap (plus (sum_at before name)) (added_other w name apart) ∙ plus_none (sum_at before name))
])
  where
    own : same_name w.name name ≡ true
        → Some (min (unwrap_or (sum_at before w.name) 0 + amount_of w.value) (2 ^ 64 - 1)) ≡ plus (sum_at before name) (added_by (w ∷ []) name)
    own same =
        let whole : plus (sum_at before name) (added_by (w ∷ []) name) ≡ Some (unwrap_or (sum_at before name) 0 + amount_of w.value)
        = ap (plus (sum_at before name)) (added_own w name counter same) ∙ plus_some (sum_at before name) (amount_of w.value) in
        let small : unwrap_or (sum_at before name) 0 + amount_of w.value < 2 ^ 64 = subst (λ o. unwrap_or o 0 < 2 ^ 64) whole fits in
        ap (λ n. Some (min (unwrap_or (sum_at before n) 0 + amount_of w.value) (2 ^ 64 - 1))) (same_text w.name name (sym same))
        ∙ ap (λ n. Some n) (omega arith) ∙ sym whole

-- ---- writes, one after the other

pub adds_none : (sums : Sums) → AddsWrites sums sums []
adds_none sums name fits = sym (ap (plus (sum_at sums name)) (cond_both (is_counter name) None None (λ o. o ≡ None) (λ _. refl) (λ _. refl)) ∙ plus_none (sum_at sums name))

added_more : (ws : List WritePart) (i : ℕ) (w : WritePart) (name : List ℕ) → names_ascend (map (λ (x : WritePart). x.name) ws) ≡ true → i < length ws → w ≡ get_or ws i w
    → added_by (take (i + 1) ws) name ≡ plus (added_by (take i ws) name) (added_by (w ∷ []) name)
added_more ws i w name ascend within is = elim (cases_Bool (is_counter name)) [
  | inl counter ↦ rw counter (ap (λ o. option_map worth o) found ∙ both (find test (take i ws)) (same_name w.name name) apart)
  | inr other ↦ rw other refl
]
  where
    worth : WritePart → ℕ
    worth x = amount_of x.value

    test : WritePart → Bool
    test x = same_name x.name name

    found : find test (take (i + 1) ws) ≡ option_or (find test (take i ws)) (find test (w ∷ []))
    found = ap (find test) (take_more ws i w within ∙ ap (λ (x : WritePart). take i ws ++ x ∷ []) (sym is)) ∙ find-append test (take i ws) (w ∷ [])

    apart : same_name w.name name ≡ true → find test (take i ws) ≡ None
    apart same = subst (λ n. find (λ (x : WritePart). same_name x.name n) (take i ws) ≡ None) (same_text w.name name (sym same))
        (subst (λ (x : WritePart). find (λ (y : WritePart). same_name y.name x.name) (take i ws) ≡ None) (sym is)
        (none_before (λ (x : WritePart). x.name) ws i w ascend within))

    both : (o : Option WritePart) (b : Bool) → (b ≡ true → o ≡ None)
        → option_map worth (option_or o (cond b (Some w) None)) ≡ plus (option_map worth o) (option_map worth (cond b (Some w) None))
    both None b alone = refl
    both (Some x) false alone = refl
    both (Some x) true alone = absurd (let no : Some x ≡ None = alone refl in cc)

pub adds_more : (a b c : Sums) (ws : List WritePart) (i : ℕ) (w : WritePart) → names_ascend (map (λ (x : WritePart). x.name) ws) ≡ true → i < length ws → w ≡ get_or ws i w
    → AddsWrites a b (take i ws) → AddsWrites b c (w ∷ []) → AddsWrites a c (take (i + 1) ws)
adds_more a b c ws i w ascend within is first second name fits =
    second name (subst (λ o. unwrap_or (plus o W) 0 < 2 ^ 64) (sym at_b) (subst (λ o. unwrap_or o 0 < 2 ^ 64) split fits))
    ∙ ap (λ o. plus o W) at_b ∙ sym split
  where
    A : Option ℕ
    A = added_by (take i ws) name

    W : Option ℕ
    W = added_by (w ∷ []) name

    split : plus (sum_at a name) (added_by (take (i + 1) ws) name) ≡ plus (plus (sum_at a name) A) W
    split = ap (plus (sum_at a name)) (added_more ws i w name ascend within is) ∙ sym (plus_again (sum_at a name) A W)

    low : unwrap_or (plus (sum_at a name) A) 0 < 2 ^ 64
    low = let all = subst (λ n. n < 2 ^ 64) (plus_worth (plus (sum_at a name) A) W) (subst (λ o. unwrap_or o 0 < 2 ^ 64) split fits) in omega arith

    at_b : sum_at b name ≡ plus (sum_at a name) A
    at_b = first name low

-- ---- payloads, one after the other

amount_few : (value : List ℕ) → amount_of value ≤ MAX_AMOUNT
amount_few value = cond_both ((length value == 8) && nat_le (from_be_bytes w64 value) MAX_AMOUNT) (from_be_bytes w64 value) 0 (λ n. n ≤ MAX_AMOUNT)
    (λ yes. leb-true (from_be_bytes w64 value) MAX_AMOUNT (and_parts (length value == 8) (nat_le (from_be_bytes w64 value) MAX_AMOUNT) yes).1)
    (λ _. omega arith)

pub added_few : (ws : List WritePart) (name : List ℕ) → unwrap_or (added_by ws name) 0 ≤ MAX_AMOUNT
added_few ws name = cond_both (is_counter name) (option_map worth found) None (λ o. unwrap_or o 0 ≤ MAX_AMOUNT) (λ _. go found) (λ _. omega arith)
  where
    worth : WritePart → ℕ
    worth x = amount_of x.value

    found : Option WritePart
    found = find (λ x. same_name x.name name) ws

    go : (o : Option WritePart) → unwrap_or (option_map worth o) 0 ≤ MAX_AMOUNT
    go None = omega arith
    go (Some x) = amount_few x.value

pub sum_more : (ps : List Accesses) (p : Accesses) (name : List ℕ) → sum_of (ps ++ p ∷ []) name ≡ plus (sum_of ps name) (added_by p.writes name)
sum_more ps p name = fold-append (λ sum (x : Accesses). plus sum (added_by x.writes name)) None ps (p ∷ [])

pub total_more : (ps : List Accesses) (p : Accesses) (name : List ℕ) → total_of (ps ++ p ∷ []) name ≡ total_of ps name + amount p name
total_more ps p name = ap (λ o. unwrap_or o 0) (sum_more ps p name) ∙ plus_worth (sum_of ps name) (added_by p.writes name)

pub total_few : (ps : List Accesses) (name : List ℕ) → total_of ps name ≤ length ps * MAX_AMOUNT
total_few ps name = let all = go None ps in omega arith
  where
    go : (sum : Option ℕ) (xs : List Accesses) → unwrap_or (fold (λ s x. plus s (added_by x.writes name)) sum xs) 0 ≤ unwrap_or sum 0 + length xs * MAX_AMOUNT
    go sum [] = omega arith
    go sum (x ∷ xs) =
        let rest = go (plus sum (added_by x.writes name)) xs in
        let here = plus_worth sum (added_by x.writes name) in
        let few = added_few x.writes name in
        omega arith

-- a payload more
pub sums_with : (before after : Sums) (p : Accesses) → AddsWrites before after p.writes
    → (ps : List Accesses) → length ps < MAX_PAYLOADS → AreSums before ps → AreSums after (ps ++ p ∷ [])
sums_with before after p adds ps few are name =
    adds name (subst (λ o. unwrap_or (plus o (added_by p.writes name)) 0 < 2 ^ 64) (sym (are name)) small)
    ∙ ap (λ o. plus o (added_by p.writes name)) (are name) ∙ sym (sum_more ps p name)
  where
    small : unwrap_or (plus (sum_of ps name) (added_by p.writes name)) 0 < 2 ^ 64
    small =
        let worth = plus_worth (sum_of ps name) (added_by p.writes name) in
        let total = total_few ps name in
        let own = added_few p.writes name in
        omega arith
