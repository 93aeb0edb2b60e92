-- A value that is taken leaves a backup.
use Rattle.std.proofs.Common.{◌≡◌, ℕ, ◌<◌, Bool, true, false, not, ◌&&◌, cond, List, [], ◌∷◌, ◌++◌, length, map, refl, ap, ◌∙◌, arith, length-append}
use Rattle.std.specs.Prelude.{Option, Some, None, nat_eq}
use Rattle.std.specs.List.{list_all}
use Rattle.std.proofs.lemmas.Bool.Decides.{nat_tests}
use Rattle.std.proofs.lemmas.List.Folds.{list_all-append}
use Rattle.tcs_terms.specs.Order.{name_before, names_ascend}
use Rattle.tcs_terms.proofs.BoolLaws.{both, left_of, right_of, not_false}
use Rattle.backup_machine.specs.declared.objects.Kept.{Kept}
use Rattle.backup_machine.specs.declared.objects.TheConstants.{MAX_OBJECTS}
use Rattle.backup_machine.specs.Objects.{in_range, is_kept_version, comes_after, none_behind}
use Rattle.backup_machine.specs.Backups.{BackupRecord, IsBackup, with_object, with_value}
use Rattle.backup_machine.proofs.Names.{least_before, not_both, not_itself}

-- an element more that passes a test
all_push : (p : Kept → Bool) (kept : List Kept) (k : Kept) → list_all p kept ≡ true → p k ≡ true → list_all p (kept ++ k ∷ []) ≡ true
all_push p kept k h one = list_all-append p kept (k ∷ []) ∙ both (list_all p kept) (p k && true) h (both (p k) true one refl)

-- a name behind all others
ascend_push : (kept : List Kept) (k : Kept) → names_ascend (map (λ (o : Kept). o.name) kept) ≡ true → list_all (λ (o : Kept). name_before o.name k.name) kept ≡ true
    → names_ascend (map (λ (o : Kept). o.name) (kept ++ k ∷ [])) ≡ true
ascend_push [] k ascend before = refl
ascend_push (x ∷ []) k ascend before = before
ascend_push (x ∷ y ∷ ys) k ascend before =
    both (name_before x.name y.name) (names_ascend (map (λ (o : Kept). o.name) (y ∷ ys ++ k ∷ []))) (left_of (name_before x.name y.name) (names_ascend (map (λ (o : Kept). o.name) (y ∷ ys))) ascend)
    (ascend_push (y ∷ ys) k (right_of (name_before x.name y.name) (names_ascend (map (λ (o : Kept). o.name) (y ∷ ys))) ascend)
    (right_of (name_before x.name k.name) (list_all (λ (o : Kept). name_before o.name k.name) (y ∷ ys)) before))

-- a name behind the last one is behind all that are kept
all_before : (last name : List ℕ) (kept : List Kept) → list_all (λ (o : Kept). not (name_before last o.name)) kept ≡ true → name_before last name ≡ true → list_all (λ (o : Kept). name_before o.name name) kept ≡ true
all_before last name [] h after = refl
all_before last name (k ∷ ks) h after =
    both (name_before k.name name) (list_all (λ (o : Kept). name_before o.name name) ks)
    (least_before last k.name name (not_false (name_before last k.name) (left_of (not (name_before last k.name)) (list_all (λ (o : Kept). not (name_before last o.name)) ks) h)) after)
    (all_before last name ks (right_of (not (name_before last k.name)) (list_all (λ (o : Kept). not (name_before last o.name)) ks) h) after)

kept_before : (last : Option (List ℕ)) (name : List ℕ) (kept : List Kept) → none_behind last kept ≡ true → comes_after last name ≡ true → list_all (λ (o : Kept). name_before o.name name) kept ≡ true
kept_before None name [] h after = refl
kept_before None name (k ∷ ks) h after = absurd cc
kept_before (Some last) name kept h after = all_before last name kept h after

none_after : (name : List ℕ) (kept : List Kept) → list_all (λ (o : Kept). name_before o.name name) kept ≡ true → list_all (λ (o : Kept). not (name_before name o.name)) kept ≡ true
none_after name [] h = refl
none_after name (k ∷ ks) h =
    both (not (name_before name k.name)) (list_all (λ (o : Kept). not (name_before name o.name)) ks)
    (ap not (not_both k.name name (left_of (name_before k.name name) (list_all (λ (o : Kept). name_before o.name name) ks) h)))
    (none_after name ks (right_of (name_before k.name name) (list_all (λ (o : Kept). name_before o.name name) ks) h))

-- what is known where a value is taken
record IsTaken (b : BackupRecord) (k : Kept) : Type 0 where
  within : in_range b.from b.upto k.name ≡ true
  after : comes_after b.last k.name ≡ true
  below : k.version < 18446744073709551615
  room : 0 < k.version → length b.kept < MAX_OBJECTS

with_one_more : (b : BackupRecord) (k : Kept) → IsBackup b → IsTaken b k → 0 < k.version → IsBackup (record b { last = Some k.name; kept = b.kept ++ k ∷ [] })
with_one_more b k is t some = record {
  least = is.least;
  most = is.most;
  few = let h = length-append b.kept (k ∷ []) in let r = t.room some in omega (arith, h, r);
  are = record {
    span = is.are.span;
    ascend = ascend_push b.kept k is.are.ascend before;
    within = all_push (λ (o : Kept). in_range b.from b.upto o.name) b.kept k is.are.within t.within;
    versions = all_push (λ (o : Kept). is_kept_version o.version) b.kept k is.are.versions (let v = t.below in grind (arith, nat_tests));
  };
  behind = all_push (λ (o : Kept). not (name_before k.name o.name)) b.kept k (none_after k.name b.kept before) (ap not (not_itself k.name));
}
  where
    before : list_all (λ (o : Kept). name_before o.name k.name) b.kept ≡ true
    before = kept_before b.last k.name b.kept is.behind t.after

with_none_more : (b : BackupRecord) (k : Kept) → IsBackup b → IsTaken b k → IsBackup (record b { last = Some k.name })
with_none_more b k is t = record {
  least = is.least;
  most = is.most;
  few = is.few;
  are = is.are;
  behind = none_after k.name b.kept (kept_before b.last k.name b.kept is.behind t.after);
}

taken_leaves : (b : BackupRecord) (k : Kept) → IsBackup b → IsTaken b k → IsBackup (with_value b k)
taken_leaves b k is t = go (nat_eq k.version 0) refl
  where
    go : (e : Bool) → nat_eq k.version 0 ≡ e → IsBackup (record b { last = Some k.name; kept = cond e b.kept (b.kept ++ k ∷ []) })
    go true h = with_none_more b k is t
    go false h = with_one_more b k is t (grind (arith, nat_tests))

pub value_leaves_a_backup : (b : BackupRecord) (k : Kept) (last : List ℕ) (kept : List Kept) → IsBackup b → in_range b.from b.upto k.name ≡ true → comes_after b.last k.name ≡ true
    → k.version < 18446744073709551615 → (0 < k.version → length b.kept < MAX_OBJECTS) → last ≡ k.name → kept ≡ with_object k b.kept → IsBackup (record b { last = Some last; kept = kept })
value_leaves_a_backup b k last kept is within after below room l e = rw (l, e) (taken_leaves b k is (record { within = within; after = after; below = below; room = room }))
