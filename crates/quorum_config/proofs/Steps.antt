-- Lines that were taken, and one line more.
use Rattle.std.proofs.Common.{◌≡◌, ℕ, List, [], ◌∷◌, ◌++◌, length, Option, Some, None, refl, sym, ◌∙◌, ap, subst, append_assoc}
use Rattle.std.specs.List.{flat_map, AllByRecursion}
use Rattle.std.proofs.lemmas.Grind.{flat_map-append}
use Rattle.std.proofs.lemmas.List.{append-nil}
use Rattle.schedule_text.specs.declared.lines.Got.TheVariants.{Whole}
use Rattle.schedule_text.specs.Bytes.{IsNext}
use Rattle.schedule_text.specs.Lines.{IsLine}
use Rattle.schedule_text.specs.Text.{with_feed}
use Rattle.schedule_text.proofs.BytesRead.{all_end}
use Rattle.quorum_protocol.specs.declared.terms.Event.{Event}
use Rattle.quorum_config.specs.declared.places.Progress.{Progress}
use Rattle.quorum_config.specs.declared.places.Item.{Item}
use Rattle.quorum_config.specs.Readings.{◌>>=◌, reads, events_of, line_reading, at_start}
use Rattle.quorum_config.specs.Runs.{Taken}

-- ---- steps of reading that gave something

-- what a step gave, and what the next one made of it
pub bind_some : {A B : Type 0} (o : Option A) (f : A → Option B) (y : B) → (o >>= f) ≡ Some y → (x : A) × (o ≡ Some x) × (f x ≡ Some y)
bind_some (Some x) f y e = (x, refl, e)
bind_some None f y e = absurd cc

abbrev there : {A : Type 0} → A → Option A
there x = Some x

pub some_is : {A : Type 0} (x y : A) → there x ≡ there y → x ≡ y
some_is x y e = cc

-- ---- lines

-- no line is taken yet
pub none_taken : (bytes : List ℕ) → Taken bytes [] [] at_start bytes
none_taken bytes = record { each = tt; front = refl; read = refl }

pub reads_more : (lines : List (List ℕ)) (p q r : Progress) (es : List Event) (line : List ℕ) (item : Item) → reads p lines ≡ Some (es, q)
    → line_reading q line ≡ Some (item, r) → reads p (lines ++ line ∷ []) ≡ Some (es ++ events_of item, r)
reads_more [] p q r es line item h k =
    let e : ([], p) ≡ (es, q) = some_is ([], p) (es, q) h in
    let none : [] ≡ es = ap (λ (x : List Event × Progress). x.0) e in
    let at : p ≡ q = ap (λ (x : List Event × Progress). x.1) e in
    rw (at, k, ← none) (ap (λ (fs : List Event). Some (fs, r)) (append-nil (events_of item)))
reads_more (l ∷ lines) p q r es line item h k =
    let a = bind_some (line_reading p l) _ (es, q) h in
    let b = bind_some (reads a.0.1 lines) _ (es, q) a.2 in
    let e : (events_of a.0.0 ++ b.0.0, b.0.1) ≡ (es, q) = some_is (events_of a.0.0 ++ b.0.0, b.0.1) (es, q) b.2 in
    let all : events_of a.0.0 ++ b.0.0 ≡ es = ap (λ (x : List Event × Progress). x.0) e in
    let at : b.0.1 ≡ q = ap (λ (x : List Event × Progress). x.1) e in
    let more = reads_more lines a.0.1 b.0.1 r b.0.0 line item b.1 (rw at k) in
    ap (λ (o : Option (Item × Progress)). o >>= λ x. reads x.1 (lines ++ line ∷ []) >>= λ y. Some (events_of x.0 ++ y.0, y.1)) a.1
    ∙ ap (λ (o : Option (List Event × Progress)). o >>= λ y. Some (events_of a.0.0 ++ y.0, y.1)) more
    ∙ ap (λ (fs : List Event). Some (fs, r)) (sym (append_assoc (events_of a.0.0) b.0.0 (events_of item)) ∙ ap (λ (fs : List Event). fs ++ events_of item) all)

regroup : (a line b : List ℕ) → a ++ (line ++ 10 ∷ b) ≡ (a ++ (line ++ 10 ∷ [])) ++ b
regroup a line b = simp append_assoc

fronts : (lines : List (List ℕ)) (line rest : List ℕ) → flat_map with_feed lines ++ (line ++ 10 ∷ rest) ≡ flat_map with_feed (lines ++ line ∷ []) ++ rest
fronts lines line rest =
    regroup (flat_map with_feed lines) line rest
    ∙ ap (λ (b : List ℕ). b ++ rest) (sym (flat_map-append with_feed lines (line ∷ []) ∙ ap (λ (b : List ℕ). flat_map with_feed lines ++ b) (append-nil (line ++ 10 ∷ []))))

-- the next line is taken
pub one_taken : (bytes : List ℕ) (lines : List (List ℕ)) (es : List Event) (p q : Progress) (behind line rest : List ℕ) (item : Item)
    → Taken bytes lines es p behind → IsNext behind Whole line rest → line_reading p line ≡ Some (item, q)
    → Taken bytes (lines ++ line ∷ []) (es ++ events_of item) q rest
one_taken bytes lines es p q behind line rest item t next h = record {
  each = all_end IsLine lines line t.each next.0;
  front = t.front ∙ ap (λ (b : List ℕ). flat_map with_feed lines ++ b) next.1 ∙ fronts lines line rest;
  read = reads_more lines at_start p q es line item t.read h;
}
