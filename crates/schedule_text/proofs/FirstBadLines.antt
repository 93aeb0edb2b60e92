-- The first bad line of some bytes is one, and the text of a schedule has none.
use Rattle.std.proofs.Common.{◌≡◌, ℕ, ◌+◌, ◌≤◌, true, false, nat_eq, List, [], ◌∷◌, ◌++◌, length, take, Result, Ok, Err, refl, sym, ◌∙◌, ap, subst, append_assoc, length-append, arith}
use Rattle.std.specs.List.{flat_map, AllByRecursion}
use Rattle.std.proofs.lemmas.Bool.{or_parts, eq-eqb}
use Rattle.std.proofs.lemmas.List.{append-nil, nil_from_length, take_at}
use Rattle.tcs_terms.specs.declared.inputs.Event.{Event}
use Rattle.text_words.specs.declared.words.Reason.{Reason}
use Rattle.text_words.specs.declared.words.Reason.TheVariants as reasons
use Rattle.tcs_terms.specs.Setups.{Deployment}
use Rattle.schedule_text.specs.declared.lines.Got.{Got}
use Rattle.schedule_text.specs.declared.lines.Got.TheVariants.{Whole, Cut, Long, Nothing}
use Rattle.schedule_text.specs.declared.places.Place.{Place}
use Rattle.schedule_text.specs.declared.places.Place.TheVariants as places
use Rattle.schedule_text.specs.declared.reader.LineItem.{LineItem}
use Rattle.schedule_text.specs.Lines.{IsLine, has_feed, line_feed}
use Rattle.schedule_text.specs.Schedules.{Progress, at_start, line_reading}
use Rattle.schedule_text.specs.Text.{with_feed, schedule_lines, schedule_text}
use Rattle.schedule_text.specs.Whole.{IsSchedule, reads, schedule_items, at_end}
use Rattle.schedule_text.specs.Bytes.{IsText, Taken, IsNext, FirstBad, events_on}
use Rattle.schedule_text.proofs.BytesRead.{events_of_schedule}
use Rattle.schedule_text.proofs.LineLemmas.{feed_shows, one_first_line}
use Rattle.schedule_text.proofs.ScheduleReadings.{read_to_the_end}
use Rattle.schedule_text.proofs.ScheduleSpellings.{schedule_read, one_schedule}
use Rattle.schedule_text.proofs.ShortLines.{lines_fit}
use Rattle.text_words.proofs.Steps.{bind_ok, ok_is, not_both}

-- ---- one next line

-- a front without a line feed is no longer than the first line
feedless_front : (line rest front more : List ℕ) → has_feed front ≡ false → line ++ line_feed ∷ rest ≡ front ++ more → length front ≤ length line
feedless_front line rest [] more none same = omega arith
feedless_front [] rest (b ∷ front) more none same =
    let head : b ≡ line_feed = cc in
    let here : nat_eq b 10 ≡ false = (or_parts (nat_eq b 10) (has_feed front) none).0 in
    let there : nat_eq b 10 ≡ true = eq-eqb b 10 head in
    absurd cc
feedless_front (c ∷ line) rest (b ∷ front) more none same =
    let tail : line ++ line_feed ∷ rest ≡ front ++ more = cc in
    omega (arith, feedless_front line rest front more (or_parts (nat_eq b 10) (has_feed front) none).1 tail)

-- bytes that begin with a line
abbrev IsBegun : List ℕ → Type 0
IsBegun bytes = (line : List ℕ) × (rest : List ℕ) × IsLine line × (bytes ≡ line ++ line_feed ∷ rest)

not_empty : (line rest : List ℕ) → [] ≡ line ++ line_feed ∷ rest → ⊥
not_empty line rest same = absurd (omega (arith, ap length same, length-append line (line_feed ∷ rest)))

some_feed : (line rest bytes : List ℕ) → bytes ≡ line ++ line_feed ∷ rest → has_feed bytes ≡ false → ⊥
some_feed line rest bytes same none = let shown = feed_shows line rest in absurd cc

not_long : (line rest front more : List ℕ) (most : ℕ) → length line ≤ most → has_feed front ≡ false → length front ≡ most + 1 → line ++ line_feed ∷ rest ≡ front ++ more → ⊥
not_long line rest front more most short none long same = absurd (omega (arith, feedless_front line rest front more none same))

-- what comes next is one answer and one line
pub one_next : (bytes : List ℕ) (got other : Got) (line rest out more : List ℕ) → IsNext bytes got line rest → IsNext bytes other out more → (got ≡ other) × (line ≡ out)
one_next bytes Whole Whole line rest out more n m = (refl, (one_first_line line out rest more n.0.no_feed m.0.no_feed (sym n.1 ∙ m.1)).0)
one_next bytes Whole Cut line rest out more n m = absurd (some_feed line rest out (sym m.1.0 ∙ n.1) m.0.0.no_feed)
one_next bytes Whole Long line rest out more n m = absurd (not_long line rest out more _ n.0.short m.0.0 m.0.1 (sym n.1 ∙ m.1))
one_next bytes Whole Nothing line rest out more n m = absurd (not_empty line rest (sym m.1.0 ∙ n.1))
one_next bytes Cut Whole line rest out more n m = absurd (some_feed out more line (sym n.1.0 ∙ m.1) n.0.0.no_feed)
one_next bytes Cut Cut line rest out more n m = (refl, sym n.1.0 ∙ m.1.0)
one_next bytes Cut Long line rest out more n m = absurd (omega (arith, n.0.0.short, ap length (sym n.1.0 ∙ m.1), length-append out more, m.0.1))
one_next bytes Cut Nothing line rest out more n m = absurd (omega (arith, n.0.1, ap length (sym n.1.0 ∙ m.1.0)))
one_next bytes Long Whole line rest out more n m = absurd (not_long out more line rest _ m.0.short n.0.0 n.0.1 (sym m.1 ∙ n.1))
one_next bytes Long Cut line rest out more n m = absurd (omega (arith, m.0.0.short, ap length (sym m.1.0 ∙ n.1), length-append line rest, n.0.1))
one_next bytes Long Long line rest out more n m =
    let many = n.0.1 in
    let least = m.0.1 in
    (refl, sym (take_at line rest (length line) refl) ∙ ap (take (length line)) (sym n.1 ∙ m.1) ∙ take_at out more (length line) (omega arith))
one_next bytes Long Nothing line rest out more n m = absurd (omega (arith, ap length (sym m.1.0 ∙ n.1), length-append line rest, n.0.1))
one_next bytes Nothing Whole line rest out more n m = absurd (not_empty out more (sym n.1.0 ∙ m.1))
one_next bytes Nothing Cut line rest out more n m = absurd (omega (arith, m.0.1, ap length (sym m.1.0 ∙ n.1.0)))
one_next bytes Nothing Long line rest out more n m = absurd (omega (arith, ap length (sym n.1.0 ∙ m.1), length-append out more, m.0.1))
one_next bytes Nothing Nothing line rest out more n m = (refl, n.0 ∙ sym m.0)

-- ---- as far as it goes

-- no line that stands first in these bytes may stand here
abbrev pub Stuck : Progress → List ℕ → Type 0
Stuck p behind = (line rest : List ℕ) (x : LineItem × Progress) → IsLine line → behind ≡ line ++ line_feed ∷ rest → line_reading p Whole line ≡ Ok x → ⊥

pub stuck_at_bad : (p : Progress) (behind : List ℕ) (got : Got) (line rest : List ℕ) (reason : Reason) → IsNext behind got line rest → line_reading p got line ≡ Err reason → Stuck p behind
stuck_at_bad p behind got line rest reason next refused out more x is same read =
    let one = one_next behind got Whole line rest out more next (is, same) in
    not_both (line_reading p Whole out) x reason read (ap (λ (g : Got). line_reading p g out) (sym one.0) ∙ ap (line_reading p got) (sym one.1) ∙ refused)

-- lines that are taken of some bytes go on from others that are
pub record GoesOn (xs ys : List (List ℕ)) (is js : List LineItem) (from to : Progress) (back behind : List ℕ) : Type 0 where
  pub more : List (List ℕ)
  pub kinds : List LineItem
  pub lines : xs ≡ ys ++ more
  pub items : is ≡ js ++ kinds
  pub read : reads from more ≡ Ok (kinds, to)
  pub bytes : back ≡ flat_map with_feed more ++ behind

abbrev pair : List LineItem → Progress → List LineItem × Progress
pair is p = (is, p)

front_of : (x : List ℕ) (xs : List (List ℕ)) (b : List ℕ) → flat_map with_feed (x ∷ xs) ++ b ≡ x ++ line_feed ∷ (flat_map with_feed xs ++ b)
front_of x xs b = append_assoc (x ++ 10 ∷ []) (flat_map with_feed xs) b ∙ append_assoc x (10 ∷ []) (flat_map with_feed xs ++ b)

-- where the first lines end at bytes that are stuck, no other lines go further
pub reaches : (xs ys : List (List ℕ)) (p q r : Progress) (is js : List LineItem) (b c : List ℕ) → AllByRecursion IsLine xs → AllByRecursion IsLine ys
    → reads p xs ≡ Ok (is, q) → reads p ys ≡ Ok (js, r) → flat_map with_feed xs ++ b ≡ flat_map with_feed ys ++ c → Stuck q b → GoesOn xs ys is js r q c b
reaches xs [] p q r is js b c each all h k same stuck =
    let e : ◌≡◌ {A = List LineItem × Progress} ([], p) (js, r) = ok_is ([], p) (js, r) k in
    let none : [] ≡ js = ap (λ (x : List LineItem × Progress). x.0) e in
    let at : p ≡ r = ap (λ (x : List LineItem × Progress). x.1) e in
    record { more = xs; kinds = is; lines = refl; items = rw (← none) refl; read = rw (← at) h; bytes = sym same }
reaches [] (y ∷ ys) p q r is js b c each all h k same stuck =
    let e : ◌≡◌ {A = List LineItem × Progress} ([], p) (is, q) = ok_is ([], p) (is, q) h in
    let at : p ≡ q = ap (λ (x : List LineItem × Progress). x.1) e in
    let a = bind_ok (line_reading p Whole y) _ (js, r) k in
    absurd (stuck y (flat_map with_feed ys ++ c) a.0 all.0 (same ∙ front_of y ys c) (rw (← at) a.1))
reaches (x ∷ xs) (y ∷ ys) p q r is js b c each all h k same stuck =
    let split = one_first_line x y (flat_map with_feed xs ++ b) (flat_map with_feed ys ++ c) each.0.no_feed all.0.no_feed (sym (front_of x xs b) ∙ same ∙ front_of y ys c) in
    let a = bind_ok (line_reading p Whole x) _ (is, q) h in
    let d = bind_ok (line_reading p Whole y) _ (js, r) k in
    let one : ◌≡◌ {A = LineItem × Progress} a.0 d.0 = ok_is a.0 d.0 (sym a.1 ∙ ap (line_reading p Whole) split.0 ∙ d.1) in
    let f = bind_ok (reads a.0.1 xs) _ (is, q) a.2 in
    let g = bind_ok (reads d.0.1 ys) _ (js, r) d.2 in
    let fe : ◌≡◌ {A = List LineItem × Progress} (a.0.0 ∷ f.0.0, f.0.1) (is, q) = ok_is (a.0.0 ∷ f.0.0, f.0.1) (is, q) f.2 in
    let ge : ◌≡◌ {A = List LineItem × Progress} (d.0.0 ∷ g.0.0, g.0.1) (js, r) = ok_is (d.0.0 ∷ g.0.0, g.0.1) (js, r) g.2 in
    let fat : f.0.1 ≡ q = ap (λ (z : List LineItem × Progress). z.1) fe in
    let gat : g.0.1 ≡ r = ap (λ (z : List LineItem × Progress). z.1) ge in
    let next : reads a.0.1 ys ≡ Ok (g.0.0, r) = ap (λ (z : LineItem × Progress). reads z.1 ys) one ∙ g.1 ∙ ap (λ (z : Progress). Ok (g.0.0, z)) gat in
    let rest = reaches xs ys a.0.1 q r f.0.0 g.0.0 b c each.1 all.1 (f.1 ∙ ap (λ (z : Progress). Ok (f.0.0, z)) fat) next split.1 stuck in
    let first : a.0.0 ≡ d.0.0 = ap (λ (z : LineItem × Progress). z.0) one in
    let is_are : a.0.0 ∷ f.0.0 ≡ is = ap (λ (z : List LineItem × Progress). z.0) fe in
    let js_are : d.0.0 ∷ g.0.0 ≡ js = ap (λ (z : List LineItem × Progress). z.0) ge in
    record {
      more = rest.more;
      kinds = rest.kinds;
      lines = ap (λ (ls : List (List ℕ)). x ∷ ls) rest.lines ∙ ap (λ (l : List ℕ). l ∷ (ys ++ rest.more)) split.0;
      items = sym is_are ∙ ap (λ (ks : List LineItem). a.0.0 ∷ ks) rest.items ∙ ap (λ (i : LineItem). i ∷ (g.0.0 ++ rest.kinds)) first
          ∙ ap (λ (ks : List LineItem). ks ++ rest.kinds) js_are;
      read = rest.read;
      bytes = rest.bytes;
    }

-- no lines go further than bytes that are stuck
pub goes_no_further : (bytes : List ℕ) (xs ys : List (List ℕ)) (is js : List LineItem) (q r : Progress) (b c : List ℕ) → Taken bytes xs is q b → Taken bytes ys js r c → Stuck q b
    → GoesOn xs ys is js r q c b
goes_no_further bytes xs ys is js q r b c t u stuck = reaches xs ys at_start q r is js b c t.each u.each t.read u.read (sym t.front ∙ u.front) stuck

-- ---- the text of a schedule

pub text_taken : (bytes : List ℕ) (d : Deployment) (es : List Event) → IsText bytes d es → Taken bytes (schedule_lines d es) (schedule_items d es) (at_end d (length es)) []
text_taken bytes d es t = record {
  each = lines_fit d es t.schedule;
  front = t.text ∙ sym (append-nil (schedule_text d es));
  read = schedule_read d es t.schedule;
}

stuck_by : (place : Place) (p : Progress) (behind : List ℕ) → p.head.place ≡ place → place ≡ places.Ended → Stuck p behind
stuck_by places.Version p behind h e = absurd cc
stuck_by places.Certifier p behind h e = absurd cc
stuck_by places.Shards p behind h e = absurd cc
stuck_by places.Parts p behind h e = absurd cc
stuck_by places.Events p behind h e = absurd cc
stuck_by places.Ended p behind h e = λ line rest x is same read. not_both (line_reading p Whole line) x reasons.Extra read (rw h refl)

pub stuck_at_end : (p : Progress) (behind : List ℕ) → p.head.place ≡ places.Ended → Stuck p behind
stuck_at_end p behind e = stuck_by p.head.place p behind refl e

-- the lines of a text begin with all lines that are taken of it
pub text_goes_on : (bytes : List ℕ) (d : Deployment) (es : List Event) (ys : List (List ℕ)) (js : List LineItem) (r : Progress) (c : List ℕ) → IsText bytes d es → Taken bytes ys js r c
    → GoesOn (schedule_lines d es) ys (schedule_items d es) js r (at_end d (length es)) c []
text_goes_on bytes d es ys js r c t u =
    goes_no_further bytes (schedule_lines d es) ys (schedule_items d es) js (at_end d (length es)) r [] c (text_taken bytes d es t) u (stuck_at_end (at_end d (length es)) [] refl)

-- lines that are taken to the end are the text of a schedule
pub taken_to_the_end : (bytes : List ℕ) (lines : List (List ℕ)) (is : List LineItem) (p : Progress) → Taken bytes lines is p [] → p.head.place ≡ places.Ended → IsText bytes p.head.setup (events_on is)
taken_to_the_end bytes lines is p t ended =
    let r = read_to_the_end lines is p t.read ended in
    let events : events_on is ≡ r.events = ap events_on r.items_are ∙ events_of_schedule p.head.setup r.events in
    record {
      schedule = subst (IsSchedule p.head.setup) (sym events) r.schedule;
      text = t.front ∙ append-nil (flat_map with_feed lines) ∙ ap (flat_map with_feed) r.lines_are ∙ ap (schedule_text p.head.setup) (sym events);
    }

pub one_text : (bytes : List ℕ) (d e : Deployment) (es fs : List Event) → IsText bytes d es → IsText bytes e fs → (d ≡ e) × (es ≡ fs)
one_text bytes d e es fs t u =
    let g = text_goes_on bytes d es (schedule_lines e fs) (schedule_items e fs) (at_end e (length fs)) [] t (text_taken bytes e fs u) in
    let h = text_goes_on bytes e fs (schedule_lines d es) (schedule_items d es) (at_end d (length es)) [] u (text_taken bytes d es t) in
    let none : g.more ≡ [] = nil_from_length g.more (omega (arith, ap length g.lines, length-append (schedule_lines e fs) g.more, ap length h.lines, length-append (schedule_lines d es) h.more)) in
    one_schedule d e es fs t.schedule u.schedule (g.lines ∙ ap (λ (ls : List (List ℕ)). schedule_lines e fs ++ ls) none ∙ append-nil (schedule_lines e fs))

-- ---- the first bad line

nothing_more : (d : Deployment) (count : ℕ) (more : List (List ℕ)) (x : List LineItem × Progress) → reads (at_end d count) more ≡ Ok x → (more ≡ []) × (x.1 ≡ at_end d count)
nothing_more d count [] x h = (refl, sym (ap (λ (y : List LineItem × Progress). y.1) (ok_is ([], at_end d count) x h)))
nothing_more d count (line ∷ more) x h = absurd cc

-- where a text has ended, nothing else comes next, and that is no bad line
good_end : (d : Deployment) (count : ℕ) (got : Got) (line rest : List ℕ) (reason : Reason) → IsNext [] got line rest → line_reading (at_end d count) got line ≡ Err reason → ⊥
good_end d count Whole line rest reason n h = not_empty line rest n.1
good_end d count Cut line rest reason n h = absurd (omega (arith, n.0.1, ap length n.1.0))
good_end d count Long line rest reason n h = absurd (omega (arith, ap length n.1, length-append line rest, n.0.1))
good_end d count Nothing line rest reason n h = absurd cc

pub no_text_is_bad : (bytes : List ℕ) (number : ℕ) (reason : Reason) (is : List LineItem) (d : Deployment) (es : List Event) → FirstBad bytes number reason is → IsText bytes d es → ⊥
no_text_is_bad bytes number reason is d es bad t =
    let g = goes_no_further bytes bad.lines (schedule_lines d es) is (schedule_items d es) bad.progress (at_end d (length es)) bad.behind [] bad.taken (text_taken bytes d es t)
    (stuck_at_bad bad.progress bad.behind bad.got bad.line bad.rest reason bad.next bad.refused) in
    let n = nothing_more d (length es) g.more (g.kinds, bad.progress) g.read in
    let behind : bad.behind ≡ [] = sym (g.bytes ∙ ap (λ (ls : List (List ℕ)). flat_map with_feed ls ++ bad.behind) n.0) in
    good_end d (length es) bad.got bad.line bad.rest reason (subst (λ (b : List ℕ). IsNext b bad.got bad.line bad.rest) behind bad.next)
    (ap (λ (p : Progress). line_reading p bad.got bad.line) (sym n.1) ∙ bad.refused)

err_is : {A : Type 0} (x y : Reason) → ◌≡◌ {A = Result A Reason} (Err x) (Err y) → x ≡ y
err_is x y e = cc

pub one_first_bad : (bytes : List ℕ) (m n : ℕ) (x y : Reason) (is js : List LineItem) → FirstBad bytes m x is → FirstBad bytes n y js → (m ≡ n) × (x ≡ y) × (is ≡ js)
one_first_bad bytes m n x y is js a b =
    let g = goes_no_further bytes a.lines b.lines is js a.progress b.progress a.behind b.behind a.taken b.taken (stuck_at_bad a.progress a.behind a.got a.line a.rest x a.next a.refused) in
    let h = goes_no_further bytes b.lines a.lines js is b.progress a.progress b.behind a.behind b.taken a.taken (stuck_at_bad b.progress b.behind b.got b.line b.rest y b.next b.refused) in
    let many = ap length g.lines ∙ length-append b.lines g.more in
    let others = ap length h.lines ∙ length-append a.lines h.more in
    let none : g.more ≡ [] = nil_from_length g.more (omega (arith, many, others)) in
    let read : reads b.progress [] ≡ Ok (g.kinds, a.progress) = ap (reads b.progress) (sym none) ∙ g.read in
    let e : ◌≡◌ {A = List LineItem × Progress} ([], b.progress) (g.kinds, a.progress) = ok_is ([], b.progress) (g.kinds, a.progress) read in
    let at : b.progress ≡ a.progress = ap (λ (z : List LineItem × Progress). z.1) e in
    let kinds : [] ≡ g.kinds = ap (λ (z : List LineItem × Progress). z.0) e in
    let behind : b.behind ≡ a.behind = g.bytes ∙ ap (λ (ls : List (List ℕ)). flat_map with_feed ls ++ a.behind) none in
    let one = one_next b.behind a.got b.got a.line a.rest b.line b.rest (subst (λ (z : List ℕ). IsNext z a.got a.line a.rest) (sym behind) a.next) b.next in
    let reason : x ≡ y =
    err_is x y (sym a.refused ∙ ap (λ (p : Progress). line_reading p a.got a.line) (sym at) ∙ ap (λ (g : Got). line_reading b.progress g a.line) one.0
    ∙ ap (line_reading b.progress b.got) one.1 ∙ b.refused) in
    (omega (arith, a.numbered, b.numbered, many, ap length none), reason, g.items ∙ ap (λ (ks : List LineItem). js ++ ks) (sym kinds) ∙ append-nil js)
