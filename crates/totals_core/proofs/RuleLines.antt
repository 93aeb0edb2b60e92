-- The second line of a schedule names its rule, and no line behind it changes that.
use Rattle.std.proofs.Common.{◌≡◌, ℕ, ◌≤◌, List, [], ◌∷◌, ◌++◌, length, Ok, refl, sym, ◌∙◌, ap, subst, append_assoc, length-append, arith}
use Rattle.std.specs.List.{flat_map, AllByRecursion}
use Rattle.tcs_terms.specs.declared.inputs.Event.{Event}
use Rattle.tcs_terms.specs.declared.setups.Rule.{Rule}
use Rattle.tcs_terms.specs.declared.setups.Rule.TheVariants as rules
use Rattle.tcs_terms.specs.Setups.{Deployment}
use Rattle.schedule_text.specs.declared.lines.Got.TheVariants.{Whole}
use Rattle.schedule_text.specs.declared.places.Place.{Place}
use Rattle.schedule_text.specs.declared.places.Place.TheVariants as places
use Rattle.schedule_text.specs.declared.reader.LineItem.{LineItem}
use Rattle.schedule_text.specs.Bytes.{IsText, Taken}
use Rattle.schedule_text.specs.Lines.{IsLine, line_feed}
use Rattle.schedule_text.specs.Schedules.{Progress, at_start, line_reading}
use Rattle.schedule_text.specs.Text.{with_feed, certifier_line, setup_lines, schedule_lines}
use Rattle.schedule_text.specs.Whole.{reads, at_end}
use Rattle.schedule_text.proofs.BytesRead.{reads_more}
use Rattle.schedule_text.proofs.FirstBadLines.{text_taken}
use Rattle.schedule_text.proofs.LineLemmas.{one_first_line}
use Rattle.schedule_text.proofs.ScheduleReadings.{lines_at, reads_take, start_stands}

-- ---- the second of the lines

abbrev pub second : List (List ℕ) → List ℕ
second [] = []
second (a ∷ []) = []
second (a ∷ b ∷ more) = b

second_at : (place : Place) (d : Deployment) (es : List Event) → 2 ≤ length (lines_at place d es) → second (lines_at place d es) ≡ certifier_line d.rule
unfolding setup_lines
second_at places.Version d es many = absurd (omega (arith, many))
second_at places.Certifier d es many = absurd (omega (arith, many))
second_at places.Shards d es many = refl
second_at places.Parts d es many = refl
second_at places.Events d es many = refl
second_at places.Ended d es many = refl

-- it names the rule that a reader holds then
pub second_names : (lines : List (List ℕ)) (is : List LineItem) (p : Progress) → reads at_start lines ≡ Ok (is, p) → 2 ≤ length lines → second lines ≡ certifier_line p.head.setup.rule
second_names lines is p read many =
    let r = reads_take lines at_start [] (is, p) start_stands read in
    subst (λ (ls : List (List ℕ)). second ls ≡ certifier_line p.head.setup.rule) r.lines_are
    (second_at p.head.place p.head.setup r.more (subst (λ (ls : List (List ℕ)). 2 ≤ length ls) (sym r.lines_are) many))

one_rule : (r s : Rule) → certifier_line r ≡ certifier_line s → r ≡ s
one_rule rules.Serial rules.Serial e = refl
one_rule rules.Serial rules.Snapshot e = absurd (omega (arith, ap length e))
one_rule rules.Serial rules.Commute e = absurd (omega (arith, ap length e))
one_rule rules.Snapshot rules.Serial e = absurd (omega (arith, ap length e))
one_rule rules.Snapshot rules.Snapshot e = refl
one_rule rules.Snapshot rules.Commute e = absurd (omega (arith, ap length e))
one_rule rules.Commute rules.Serial e = absurd (omega (arith, ap length e))
one_rule rules.Commute rules.Snapshot e = absurd (omega (arith, ap length e))
one_rule rules.Commute rules.Commute e = refl

second_front : (lines more : List (List ℕ)) → 2 ≤ length lines → second (lines ++ more) ≡ second lines
second_front [] more many = absurd (omega (arith, many))
second_front (a ∷ []) more many = absurd (omega (arith, many))
second_front (a ∷ b ∷ lines) more many = refl

-- a further line leaves the rule as it is
pub rule_stays : (lines : List (List ℕ)) (is : List LineItem) (p q : Progress) (line : List ℕ) (item : LineItem) → reads at_start lines ≡ Ok (is, p) → 2 ≤ length lines
    → line_reading p Whole line ≡ Ok (item, q) → q.head.setup.rule ≡ p.head.setup.rule
rule_stays lines is p q line item read many next =
    let more = reads_more lines is p q line item read next in
    let still : 2 ≤ length (lines ++ line ∷ []) = omega (arith, many, length-append lines (line ∷ [])) in
    one_rule q.head.setup.rule p.head.setup.rule
    (sym (second_names (lines ++ line ∷ []) (is ++ item ∷ []) q more still) ∙ second_front lines (line ∷ []) many ∙ second_names lines is p read many)

-- ---- of the same bytes

front_of : (x : List ℕ) (xs : List (List ℕ)) (b : List ℕ) → flat_map with_feed (x ∷ xs) ++ b ≡ x ++ line_feed ∷ (flat_map with_feed xs ++ b)
front_of x xs b = append_assoc (x ++ 10 ∷ []) (flat_map with_feed xs) b ∙ append_assoc x (10 ∷ []) (flat_map with_feed xs ++ b)

second_same : (xs ys : List (List ℕ)) (b c : List ℕ) → AllByRecursion IsLine xs → AllByRecursion IsLine ys → 2 ≤ length xs → 2 ≤ length ys
    → flat_map with_feed xs ++ b ≡ flat_map with_feed ys ++ c → second xs ≡ second ys
second_same [] ys b c each all many some same = absurd (omega (arith, many))
second_same (x ∷ []) ys b c each all many some same = absurd (omega (arith, many))
second_same (x ∷ w ∷ xs) [] b c each all many some same = absurd (omega (arith, some))
second_same (x ∷ w ∷ xs) (y ∷ []) b c each all many some same = absurd (omega (arith, some))
second_same (x ∷ w ∷ xs) (y ∷ v ∷ ys) b c each all many some same =
    let first = one_first_line x y (flat_map with_feed (w ∷ xs) ++ b) (flat_map with_feed (v ∷ ys) ++ c) each.0.no_feed all.0.no_feed
    (sym (front_of x (w ∷ xs) b) ∙ same ∙ front_of y (v ∷ ys) c) in
    let next = one_first_line w v (flat_map with_feed xs ++ b) (flat_map with_feed ys ++ c) each.1.0.no_feed all.1.0.no_feed
    (sym (front_of w xs b) ∙ first.1 ∙ front_of v ys c) in
    next.0

-- two readers that have taken two lines of them, or more, hold the same rule
pub same_rule : (bytes : List ℕ) (xs ys : List (List ℕ)) (is js : List LineItem) (p q : Progress) (b c : List ℕ) → Taken bytes xs is p b → Taken bytes ys js q c
    → 2 ≤ length xs → 2 ≤ length ys → p.head.setup.rule ≡ q.head.setup.rule
same_rule bytes xs ys is js p q b c t u many some =
    one_rule p.head.setup.rule q.head.setup.rule
    (sym (second_names xs is p t.read many) ∙ second_same xs ys b c t.each u.each many some (sym t.front ∙ u.front) ∙ second_names ys js q u.read some)

many_lines : (d : Deployment) (es : List Event) → 2 ≤ length (schedule_lines d es)
unfolding setup_lines
many_lines d es = omega arith

-- so does the setup of a text
pub text_rule : (bytes : List ℕ) (d : Deployment) (es : List Event) (ys : List (List ℕ)) (js : List LineItem) (q : Progress) (c : List ℕ) → IsText bytes d es → Taken bytes ys js q c
    → 2 ≤ length ys → d.rule ≡ q.head.setup.rule
text_rule bytes d es ys js q c t u some =
    same_rule bytes (schedule_lines d es) ys _ js (at_end d (length es)) q [] c (text_taken bytes d es t) u (many_lines d es) some

-- ---- behind the line `events`

begun_many : (place : Place) (d : Deployment) (es : List Event) → place ≡ places.Events → 3 ≤ length (lines_at place d es)
unfolding setup_lines
begun_many places.Version d es at = absurd cc
begun_many places.Certifier d es at = absurd cc
begun_many places.Shards d es at = absurd cc
begun_many places.Parts d es at = absurd cc
begun_many places.Events d es at = omega arith
begun_many places.Ended d es at = absurd cc

-- there stand three lines or more
pub many_begun : (lines : List (List ℕ)) (is : List LineItem) (p : Progress) → reads at_start lines ≡ Ok (is, p) → p.head.place ≡ places.Events → 3 ≤ length lines
many_begun lines is p read at =
    let r = reads_take lines at_start [] (is, p) start_stands read in
    subst (λ (ls : List (List ℕ)). 3 ≤ length ls) r.lines_are (begun_many p.head.place p.head.setup r.more at)
