-- The objects of lines that may stand: no more than may be, names strictly ascending, each of which can be put back.
use Rattle.std.proofs.Common.{◌≡◌, ℕ, ◌+◌, ◌≤◌, true, false, List, [], ◌∷◌, ◌++◌, map, refl, sym, ap, ◌∙◌, subst, append-nil, length-append, arith}
use Rattle.std.specs.Prelude.{Option, Some, None}
use Rattle.std.proofs.lemmas.List.Elements.{All-nil, All-cons, All-append}
use Rattle.tcs_terms.specs.declared.ids.TxId.{TxId}
use Rattle.tcs_terms.specs.Order.{name_before, names_ascend}
use Rattle.tcs_terms.proofs.BoolLaws.{both, left_of, right_of}
use Rattle.backup_machine.specs.declared.objects.Kept.{Kept}
use Rattle.backup_machine.specs.Objects.{comes_after}
use Rattle.backup_text.specs.declared.stages.Stage.{Stage}
use Rattle.backup_text.specs.declared.stages.Stage.TheVariants.{Start, Begun, AtPlace, NoPlace, Ended}
use Rattle.backup_text.specs.Lines.{Line, HeadLine, CallLine, PlaceLine, ObjectLine, EndLine, Standing, MayStand, after, at_start, has_place, item_of, stage_behind}
use Rattle.restore_core.specs.Files.{IsPut, AreRestored, is_ended, kept_on}
use Rattle.restore_core.specs.Steps.{Behind, ended_with, last_name, other_lines}

abbrev names_of : List Kept → List (List ℕ)
names_of kept = map (λ (k : Kept). k.name) kept

last_push : (kept : List Kept) (k : Kept) → Some k.name ≡ last_name (kept ++ k ∷ [])
last_push [] k = refl
last_push (x ∷ []) k = refl
last_push (x ∷ y ∷ ys) k = last_push (y ∷ ys) k

-- a name behind the last one
ascend_push : (kept : List Kept) (k : Kept) → names_ascend (names_of kept) ≡ true → comes_after (last_name kept) k.name ≡ true
    → names_ascend (names_of (kept ++ k ∷ [])) ≡ true
ascend_push [] k ascend behind = refl
ascend_push (x ∷ []) k ascend behind = both (name_before x.name k.name) true behind refl
ascend_push (x ∷ y ∷ ys) k ascend behind =
    both (name_before x.name y.name) (names_ascend (names_of (y ∷ ys ++ k ∷ [])))
    (left_of (name_before x.name y.name) (names_ascend (names_of (y ∷ ys))) ascend)
    (ascend_push (y ∷ ys) k (right_of (name_before x.name y.name) (names_ascend (names_of (y ∷ ys))) ascend) behind)

-- no object more
same_objects : (s t : Standing) (kept kept' : List Kept) → Behind s kept → kept ≡ kept' → t.calls ≡ s.calls → t.objects ≡ s.objects → t.last ≡ s.last → Behind t kept'
same_objects s t kept kept' b same calls objects last = subst (Behind t) same (record {
  calls = let most = b.calls in omega (arith, calls);
  counted = objects ∙ b.counted;
  few = let most = b.few in omega (arith, objects);
  last = last ∙ b.last;
  ascend = b.ascend;
  each = b.each;
})

pub behind_more : (s : Standing) (kept : List Kept) (line : Line) → Behind s kept → MayStand s line → Behind (after s line) (kept_on kept line)
behind_more s kept (HeadLine from upto) b may = same_objects s (after s (HeadLine from upto)) kept (kept ++ []) b (sym (append-nil kept)) refl refl refl
behind_more s kept (CallLine event) b may =
    let few = may.2 in
    subst (Behind (after s (CallLine event))) (sym (append-nil kept)) (record {
      calls = omega (arith, few);
      counted = b.counted;
      few = b.few;
      last = b.last;
      ascend = b.ascend;
      each = b.each;
    })
behind_more s kept (PlaceLine txn) b may = same_objects s (after s (PlaceLine txn)) kept (kept ++ []) b (sym (append-nil kept)) refl refl refl
behind_more s kept (ObjectLine k) b (stage, name, within, behind, least, small, value, room) = record {
  calls = b.calls;
  counted = let many = b.counted in omega (arith, many, length-append kept (k ∷ []));
  few = omega (arith, room);
  last = last_push kept k;
  ascend = ascend_push kept k b.ascend (ap (λ (o : Option (List ℕ)). comes_after o k.name) (sym b.last) ∙ behind);
  each = All-append IsPut kept (k ∷ []) b.each (All-cons IsPut k [] (record { name = name; positive = least; fits = omega (arith, small); value = value }) (All-nil IsPut));
}
behind_more s kept (EndLine count) b may = same_objects s (after s (EndLine count)) kept (kept ++ []) b (sym (append-nil kept)) refl refl refl

pub none_behind : Behind at_start []
none_behind = record { calls = omega arith; counted = refl; few = omega arith; last = refl; ascend = refl; each = All-nil IsPut }

pub are_restored : (s : Standing) (kept : List Kept) → Behind s kept → AreRestored kept
are_restored s kept b = record { can_be = record { few = (let many = b.counted in let most = b.few in omega (arith, many, most)); ascend = b.ascend }; each = b.each }

-- ---- lines are counted

placed : (stage : Stage) → has_place stage ≡ true → other_lines stage ≡ 2
placed Start h = absurd cc
placed Begun h = absurd cc
placed AtPlace h = refl
placed NoPlace h = refl
placed Ended h = absurd cc

place_lines : (txn : Option TxId) → other_lines (stage_behind txn) ≡ 2
place_lines None = refl
place_lines (Some txn) = refl

abbrev pub lines_behind : Standing → ℕ
lines_behind s = other_lines s.stage + (s.calls + s.objects)

pub one_line_more : (s : Standing) (line : Line) → MayStand s line → lines_behind (after s line) ≡ lines_behind s + 1
one_line_more s (HeadLine from upto) may = let none : other_lines s.stage ≡ 0 = ap other_lines may.0 in omega (arith, none)
one_line_more s (CallLine event) may = omega arith
one_line_more s (PlaceLine txn) may = let one : other_lines s.stage ≡ 1 = ap other_lines may.0 in omega (arith, one, place_lines txn)
one_line_more s (ObjectLine k) may = omega arith
one_line_more s (EndLine count) may = omega (arith, placed s.stage may.0)

few_others : (stage : Stage) → other_lines stage ≤ 3
few_others Start = omega arith
few_others Begun = omega arith
few_others AtPlace = omega arith
few_others NoPlace = omega arith
few_others Ended = omega arith

pub few_lines : (s : Standing) (kept : List Kept) → Behind s kept → lines_behind s ≤ 104099
few_lines s kept b = let calls = b.calls in let objects = b.few in omega (arith, few_others s.stage, calls, objects)

-- ---- the end

not_yet : (txn : Option TxId) → is_ended (stage_behind txn) ≡ false
not_yet None = refl
not_yet (Some txn) = refl

pub ended_more : (s : Standing) (line : Line) → MayStand s line → is_ended (after s line).stage ≡ ended_with (is_ended s.stage) (item_of line)
ended_more s (HeadLine from upto) may = sym (ap is_ended may.0)
ended_more s (CallLine event) may = refl
ended_more s (PlaceLine txn) may = not_yet txn ∙ sym (ap is_ended may.0)
ended_more s (ObjectLine k) may = refl
ended_more s (EndLine count) may = refl
