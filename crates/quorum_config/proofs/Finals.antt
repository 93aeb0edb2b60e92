-- Of some bytes, only one line is the first that may not stand where it stands, or they are an input.
use Rattle.std.proofs.Common.{◌≡◌, ◌⊎◌, inl, inr, ℕ, ◌+◌, List, [], ◌∷◌, ◌++◌, length, Option, Some, None, Result, Ok, Err, OnOk, IfErr, refl, sym, ◌∙◌, ap, subst, append_assoc, arith}
use Rattle.std.specs.Prelude.{IsErrOf}
use Rattle.std.specs.List.{flat_map, AllByRecursion}
use Rattle.tcs_io.specs.Faults.{Rose}
use Rattle.schedule_text.specs.declared.lines.Got.{Got}
use Rattle.schedule_text.specs.declared.lines.Got.TheVariants.{Whole, Cut, Long, Nothing}
use Rattle.schedule_text.specs.Bytes.{IsNext}
use Rattle.schedule_text.specs.Lines.{IsLine, line_feed}
use Rattle.schedule_text.specs.Text.{with_feed}
use Rattle.schedule_text.proofs.FirstBadLines.{one_next}
use Rattle.schedule_text.proofs.LineLemmas.{one_first_line}
use Rattle.quorum_config.proofs.Steps.{bind_some, some_is}
use Rattle.quorum_protocol.specs.declared.terms.Event.{Event}
use Rattle.quorum_config.specs.declared.places.Place.{Place}
use Rattle.quorum_config.specs.declared.places.Place.TheVariants as places
use Rattle.quorum_config.specs.declared.places.Progress.{Progress}
use Rattle.quorum_config.specs.declared.places.Item.{Item}
use Rattle.quorum_config.specs.declared.stops.QuorumStop.{QuorumStop}
use Rattle.quorum_config.specs.declared.stops.QuorumStop.TheVariants as stops
use Rattle.quorum_config.specs.Readings.{◌>>=◌, reads, line_reading, at_start, read_at}
use Rattle.quorum_config.specs.Runs.{Taken, IsInput, FirstBad, next_reading, IsEnd, Finishes, Ends, Stayed, RunsFully, StopsBy}

-- lines were read, and what comes next may not stand there
record Final (p : Progress) (bytes : List ℕ) (lines : List (List ℕ)) (q : Progress) (got : Got) : Type 0 where
  behind : List ℕ
  each : AllByRecursion IsLine lines
  front : bytes ≡ flat_map with_feed lines ++ behind
  es : List Event
  read : reads p lines ≡ Some (es, q)
  line : List ℕ
  rest : List ℕ
  next : IsNext behind got line rest
  refused : next_reading q got line ≡ None

front_of : (x : List ℕ) (xs : List (List ℕ)) (b : List ℕ) → flat_map with_feed (x ∷ xs) ++ b ≡ x ++ line_feed ∷ (flat_map with_feed xs ++ b)
front_of x xs b = append_assoc (x ++ 10 ∷ []) (flat_map with_feed xs) b ∙ append_assoc x (10 ∷ []) (flat_map with_feed xs ++ b)

not_both : {A : Type 0} (o : Option A) (x : A) → o ≡ Some x → o ≡ None → ⊥
not_both {A = A} o x e f = differ (sym f ∙ e) where
  differ : ◌≡◌ {A = Option A} None (Some x) → ⊥
  differ h = absurd cc

-- where one ends, the other one goes no further
ends_there : (p q r : Progress) (bytes : List ℕ) (y : List ℕ) (ys : List (List ℕ)) (got other : Got) → Final p bytes [] q got → Final p bytes (y ∷ ys) r other → ⊥
ends_there p q r bytes y ys got other f g =
    let e : ([], p) ≡ (f.es, q) = some_is ([], p) (f.es, q) f.read in
    let at : p ≡ q = ap (λ (x : List Event × Progress). x.1) e in
    let a = bind_some (line_reading p y) _ (g.es, r) g.read in
    let here : IsNext f.behind Whole y (flat_map with_feed ys ++ g.behind) = (g.each.0, sym f.front ∙ g.front ∙ front_of y ys g.behind) in
    let one = one_next f.behind got Whole f.line f.rest y (flat_map with_feed ys ++ g.behind) f.next here in
    not_both (line_reading p y) a.0 a.1
    (ap (λ (x : Progress). line_reading x y) at ∙ ap (next_reading q Whole) (sym one.1) ∙ ap (λ (x : Got). next_reading q x f.line) (sym one.0) ∙ f.refused)

record Same (xs ys : List (List ℕ)) (q r : Progress) (got other : Got) : Type 0 where
  lines : xs ≡ ys
  progress : q ≡ r
  gots : got ≡ other

one_final : (xs ys : List (List ℕ)) (p q r : Progress) (bytes : List ℕ) (got other : Got) → Final p bytes xs q got → Final p bytes ys r other → Same xs ys q r got other
one_final [] [] p q r bytes got other f g =
    let e : ([], p) ≡ (f.es, q) = some_is ([], p) (f.es, q) f.read in
    let d : ([], p) ≡ (g.es, r) = some_is ([], p) (g.es, r) g.read in
    let one = one_next f.behind got other f.line f.rest g.line g.rest f.next (subst (λ (b : List ℕ). IsNext b other g.line g.rest) (sym g.front ∙ f.front) g.next) in
    record {
      lines = refl;
      progress = sym (ap (λ (x : List Event × Progress). x.1) e) ∙ ap (λ (x : List Event × Progress). x.1) d;
      gots = one.0;
    }
one_final [] (y ∷ ys) p q r bytes got other f g = absurd (ends_there p q r bytes y ys got other f g)
one_final (x ∷ xs) [] p q r bytes got other f g = absurd (ends_there p r q bytes x xs other got g f)
one_final (x ∷ xs) (y ∷ ys) p q r bytes got other f g =
    let split = one_first_line x y (flat_map with_feed xs ++ f.behind) (flat_map with_feed ys ++ g.behind) f.each.0.no_feed g.each.0.no_feed (sym (front_of x xs f.behind) ∙ sym f.front ∙ g.front ∙ front_of y ys g.behind) in
    let a = bind_some (line_reading p x) _ (f.es, q) f.read in
    let d = bind_some (line_reading p y) _ (g.es, r) g.read in
    let one : a.0 ≡ d.0 = some_is a.0 d.0 (sym a.1 ∙ ap (line_reading p) split.0 ∙ d.1) in
    let b = bind_some (reads a.0.1 xs) _ (f.es, q) a.2 in
    let c = bind_some (reads d.0.1 ys) _ (g.es, r) d.2 in
    let bat : b.0.1 ≡ q = ap (λ (x : List Event × Progress). x.1) (some_is _ (f.es, q) b.2) in
    let cat : c.0.1 ≡ r = ap (λ (x : List Event × Progress). x.1) (some_is _ (g.es, r) c.2) in
    let more = one_final xs ys a.0.1 q r (flat_map with_feed xs ++ f.behind) got other
    (record { behind = f.behind; each = f.each.1; front = refl; es = b.0.0; read = b.1 ∙ ap (λ (z : Progress). Some (b.0.0, z)) bat; line = f.line; rest = f.rest; next = f.next; refused = f.refused })
    (record {
      behind = g.behind;
      each = g.each.1;
      front = split.1;
      es = c.0.0;
      read = ap (λ (z : Item × Progress). reads z.1 ys) one ∙ c.1 ∙ ap (λ (z : Progress). Some (c.0.0, z)) cat;
      line = g.line;
      rest = g.rest;
      next = g.next;
      refused = g.refused;
    }) in
    record {
      lines = ap (λ (ls : List (List ℕ)). x ∷ ls) more.lines ∙ ap (λ (l : List ℕ). l ∷ ys) split.0;
      progress = more.progress;
      gots = more.gots;
    }

-- ---- inputs, and first bad lines

final_of_bad : (bytes : List ℕ) (number : ℕ) (es : List Event) → (b : FirstBad bytes number es) → Final at_start bytes b.lines b.progress b.got
final_of_bad bytes number es b =
    record { behind = b.behind; each = b.taken.each; front = b.taken.front; es = es; read = b.taken.read; line = b.line; rest = b.rest; next = b.next; refused = b.refused }

final_of_input : (bytes : List ℕ) (acceptors : ℕ) (es : List Event) → (i : IsInput bytes acceptors es) → Final at_start bytes i.lines i.progress Nothing
final_of_input bytes acceptors es i =
    record { behind = []; each = i.taken.each; front = i.taken.front; es = es; read = i.taken.read; line = []; rest = []; next = (refl, (refl, refl, refl)); refused = refl }

no_input_is_bad : (bytes : List ℕ) (acceptors number : ℕ) (es fs : List Event) → IsInput bytes acceptors es → FirstBad bytes number fs → ⊥
no_input_is_bad bytes acceptors number es fs i b =
    let s = one_final i.lines b.lines at_start i.progress b.progress bytes Nothing b.got (final_of_input bytes acceptors es i) (final_of_bad bytes number fs b) in
    b.not_the_end (sym s.gots, ap (λ (p : Progress). p.place) (sym s.progress) ∙ i.ended)

one_first_bad : (bytes : List ℕ) (m n : ℕ) (es fs : List Event) → FirstBad bytes m es → FirstBad bytes n fs → m ≡ n
one_first_bad bytes m n es fs a b =
    let s = one_final a.lines b.lines at_start a.progress b.progress bytes a.got b.got (final_of_bad bytes m es a) (final_of_bad bytes n fs b) in
    a.numbered ∙ ap (λ (ls : List (List ℕ)). length ls + 1) s.lines ∙ sym b.numbered

-- ---- the answers

pub completes : {X : Type 0} (bytes before : List ℕ) (left held : Option (List ℕ)) (a b m n acceptors : ℕ) (es : List Event) (result : Result X QuorumStop) → IfErr result (Ends bytes before left held)
    → (IsErrOf result stops.ReadFault → Rose a b) → (IsErrOf result stops.WriteFault → Rose m n) → Stayed a b → Stayed m n
    → IsInput bytes acceptors es → RunsFully result
completes bytes before left held a b m n acceptors es (Ok done) x read wrote calm quiet i = tt
completes bytes before left held a b m n acceptors es (Err (stops.Bad number)) x read wrote calm quiet i =
    absurd (no_input_is_bad bytes acceptors number es x.stopped.events i x.stopped.bad)
completes bytes before left held a b m n acceptors es (Err stops.ReadFault) x read wrote calm quiet i = absurd (calm (read refl))
completes bytes before left held a b m n acceptors es (Err stops.WriteFault) x read wrote calm quiet i = absurd (quiet (wrote refl))
completes bytes before left held a b m n acceptors es (Err stops.OutOfMemory) x read wrote calm quiet i = refl

pub stops_at_bad : {X : Type 0} (bytes before : List ℕ) (left held : Option (List ℕ)) (a b m n number : ℕ) (es : List Event) (result : Result X QuorumStop)
    → OnOk result (Finishes bytes before left held) → IfErr result (Ends bytes before left held)
    → (IsErrOf result stops.ReadFault → Rose a b) → (IsErrOf result stops.WriteFault → Rose m n) → Stayed a b → Stayed m n
    → FirstBad bytes number es → StopsBy (stops.Bad number) result
stops_at_bad bytes before left held a b m n number es (Ok done) f x read wrote calm quiet bad =
    no_input_is_bad bytes f.runs.acceptors number f.runs.events es f.runs.input bad
stops_at_bad bytes before left held a b m n number es (Err (stops.Bad k)) f x read wrote calm quiet bad =
    inl (ap stops.Bad (one_first_bad bytes k number x.stopped.events es x.stopped.bad bad))
stops_at_bad bytes before left held a b m n number es (Err stops.ReadFault) f x read wrote calm quiet bad = absurd (calm (read refl))
stops_at_bad bytes before left held a b m n number es (Err stops.WriteFault) f x read wrote calm quiet bad = absurd (quiet (wrote refl))
stops_at_bad bytes before left held a b m n number es (Err stops.OutOfMemory) f x read wrote calm quiet bad = inr refl
