-- The objects that are left are cut in two: the next slice, and what is left then.
use Rattle.std.proofs.Common.{◌≡◌, ℕ, suc, ◌+◌, ◌-◌, ◌<◌, ◌≤◌, false, List, [], ◌∷◌, ◌++◌, length, take, drop, get_or, refl, sym, ap, ◌∙◌, arith, append_assoc, length-append, length-drop}
use Rattle.std.specs.Prelude.{nat_le}
use Rattle.std.proofs.lemmas.Bool.Decides.{nat_tests}
use Rattle.tcs_terms.specs.Payloads.{Accesses}
use Rattle.backup_machine.specs.declared.objects.Kept.{Kept}
use Rattle.backup_machine.specs.Slices.{slice_payload, slices}
use Rattle.backup_machine.proofs.Cutting.{cut_here, named_first}
use Rattle.backup_machine.proofs.slices.all_slices.Goals as goal

slices_go_on : (most width : ℕ) (from upto : List ℕ) (kept front back : List Kept) (k : Kept) → width < length kept → front ≡ take width kept → back ≡ drop width kept
    → slices (suc most) width from upto kept ≡ slice_payload from (get_or back 0 k).name front ∷ slices most width (get_or back 0 k).name upto back
slices_go_on most width from upto kept front back k more f b =
    let test : nat_le (length kept) width ≡ false = grind (arith, nat_tests) in
    rw (f, b, named_first (drop width kept) k (let h = length-drop width kept in omega (arith, h, more)), test) refl

one_more : (total width : ℕ) (from upto : List ℕ) (kept front back : List Kept) (k : Kept) (all before after : List Accesses) (p : Accesses) → width < length kept → length before + length kept ≤ total
    → front ≡ take width kept → back ≡ drop width kept → p ≡ slice_payload from (get_or back 0 k).name front → after ≡ before ++ p ∷ []
    → before ++ slices (suc (total - length before)) width from upto kept ≡ all → after ++ slices (suc (total - length after)) width (get_or back 0 k).name upto back ≡ all
one_more total width from upto kept front back k all before after p more fewer f b is grown so_far =
    let n : suc (total - length after) ≡ total - length before = let h = length-append before (p ∷ []) in let g = ap length grown in omega (arith, h, g, more, fewer) in
    let rest = λ (most : ℕ). slices most width (get_or back 0 k).name upto back in
    ap (λ (most : ℕ). after ++ rest most) n ∙ ap (λ (ps : List Accesses). ps ++ rest (total - length before)) grown ∙ append_assoc before (p ∷ []) (rest (total - length before))
    ∙ ap (λ (x : Accesses). before ++ x ∷ rest (total - length before)) is ∙ ap (λ (ps : List Accesses). before ++ ps) (sym (slices_go_on (total - length before) width from upto kept front back k more f b)) ∙ so_far

pub slice_payload-requires-clause-are : goal.slice_payload-requires-clause-are
slice_payload-requires-clause-are c =
    (cut_here c.loop-rest.from.now c.args.upto.now c.args.width c.loop-rest.rest.now c.split_at.result.0.now c.split_at.result.1.now c.index-others-0.result c.requires.least c.loop-rest-test.true
    c.split_at.ensures.front c.split_at.ensures.back c.loop-rest.invariant.are).0

pub loop-rest-preserved : goal.loop-rest-preserved
loop-rest-preserved c = record {
  are = (cut_here c.loop-rest.from.now c.args.upto.now c.args.width c.loop-rest.rest.now c.split_at.result.0.now c.split_at.result.1.now c.index-others-0.result c.requires.least c.loop-rest-test.true
      c.split_at.ensures.front c.split_at.ensures.back c.loop-rest.invariant.are).1;
  fewer = let h = length-append c.loop-rest.payloads.items (c.in_ok-slice_payload.field-0 ∷ []) in let g = ap length c.in_ok-push.ensures.items in let d = length-drop c.args.width c.loop-rest.rest.now in
      let e = ap length c.split_at.ensures.back in omega (arith, h, g, d, e);
  all = one_more (length c.args.kept.now) c.args.width c.loop-rest.from.now c.args.upto.now c.loop-rest.rest.now c.split_at.result.0.now c.split_at.result.1.now c.index-others-0.result _
      c.loop-rest.payloads.items c.push.new.self.items c.in_ok-slice_payload.field-0 c.loop-rest-test.true c.loop-rest.invariant.fewer c.split_at.ensures.front c.split_at.ensures.back
      c.in_ok-slice_payload.ensures c.in_ok-push.ensures.items c.loop-rest.invariant.all;
}
