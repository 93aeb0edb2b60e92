-- What a line adds to the text of a run, and to its world.
use Rattle.std.proofs.Common.{◌≡◌, ℕ, ◌+◌, List, [], ◌∷◌, ◌++◌, length, refl, sym, ◌∙◌, ap, subst, append_assoc, length-append, arith}
use Rattle.std.proofs.lemmas.List.{append-nil}
use Rattle.quorum_protocol.specs.declared.terms.Event.{Event}
use Rattle.quorum_protocol.specs.World.{World, first_world, run, run_from, history, step}
use Rattle.quorum_protocol.proofs.Invariant.{Invariant}
use Rattle.quorum_protocol.proofs.Carried.{chosen_agree}
use Rattle.quorum_protocol.proofs.Events.{run_has, step_turns}
use Rattle.quorum_config.specs.declared.places.Place.{Place}
use Rattle.quorum_config.specs.declared.places.Place.TheVariants as places
use Rattle.quorum_config.specs.declared.places.Progress.{Progress}
use Rattle.quorum_config.specs.declared.places.Item.{Item}
use Rattle.quorum_config.specs.declared.places.Item.TheVariants as items
use Rattle.quorum_config.specs.Readings.{events_of}
use Rattle.quorum_config.specs.Runs.{shown, shown_at, KeepsItsPromises}
use Rattle.quorum_config.specs.Standing.{IsWorldAt, world_after, text_after}
use Rattle.quorum_config.specs.Texts.{events_text, happening_text, run_front, head_text}
use Rattle.quorum_config.specs.Walks.{InHeader, Leads}

-- ---- one event more

run_more : (w : World) (es : List Event) (e : Event) → run_from w (es ++ e ∷ []) ≡ (step (run_from w es) e).after
run_more w [] e = refl
run_more w (x ∷ es) e = run_more (step w x).after es e

text_more : (w : World) (k : ℕ) (es : List Event) (e : Event)
    → events_text w k (es ++ e ∷ []) ≡ events_text w k es ++ happening_text (k + length es) (length (run_from w es).messages + 1) (step (run_from w es) e)
text_more w k [] e =
    let none : k ≡ k + 0 = omega arith in
    append-nil (happening_text k (length w.messages + 1) (step w e)) ∙ ap (λ (n : ℕ). happening_text n (length w.messages + 1) (step w e)) none
text_more w k (x ∷ es) e =
    let here = happening_text k (length w.messages + 1) (step w x) in
    let w' = (step w x).after in
    let many : k + 1 + length es ≡ k + length (x ∷ es) = omega arith in
    ap (λ (t : List ℕ). here ++ t) (text_more w' (k + 1) es e)
    ∙ sym (append_assoc here (events_text w' (k + 1) es) (happening_text (k + 1 + length es) (length (run_from w' es).messages + 1) (step (run_from w' es) e)))
    ∙ ap (λ (n : ℕ). (here ++ events_text w' (k + 1) es) ++ happening_text n (length (run_from w' es).messages + 1) (step (run_from w' es) e)) many

front_more : (acceptors : ℕ) (es : List Event) (e : Event)
    → run_front acceptors (es ++ e ∷ []) ≡ run_front acceptors es ++ happening_text (length es + 1) (length (run acceptors es).messages + 1) (step (run acceptors es) e)
unfolding run
front_more acceptors es e =
    let w = first_world acceptors in
    let more = happening_text (length es + 1) (length (run_from w es).messages + 1) (step (run_from w es) e) in
    let many : 1 + length es ≡ length es + 1 = omega arith in
    ap (λ (t : List ℕ). head_text acceptors ++ t) (text_more w 1 es e ∙ ap (λ (n : ℕ). events_text w 1 es ++ happening_text n (length (run_from w es).messages + 1) (step (run_from w es) e)) many)
    ∙ sym (append_assoc (head_text acceptors) (events_text w 1 es) more)

run_front_none : (acceptors : ℕ) → run_front acceptors [] ≡ head_text acceptors
run_front_none acceptors = append-nil (head_text acceptors)

run_none : (acceptors : ℕ) → first_world acceptors ≡ run acceptors []
unfolding run
run_none acceptors = refl

run_one : (acceptors : ℕ) (es : List Event) (e : Event) → (step (run acceptors es) e).after ≡ run acceptors (es ++ e ∷ [])
unfolding run
run_one acceptors es e = sym (run_more (first_world acceptors) es e)

-- ---- one line more

in_header : (place : Place) (acceptors : ℕ) (es : List Event) (w : World) → InHeader place → IsWorldAt place acceptors es w → es ≡ []
in_header places.Version acceptors es w h x = x
in_header places.Acceptors acceptors es w h x = x
in_header places.Proposers acceptors es w h x = x
in_header places.Shards acceptors es w h x = x
in_header places.Configs acceptors es w h x = x
in_header places.Begin acceptors es w h x = x
in_header places.Events acceptors es w h x = absurd h
in_header places.Ended acceptors es w h x = absurd h

still_header : (place : Place) (acceptors : ℕ) (es : List Event) (w : World) → InHeader place → es ≡ [] → IsWorldAt place acceptors es w
still_header places.Version acceptors es w h x = x
still_header places.Acceptors acceptors es w h x = x
still_header places.Proposers acceptors es w h x = x
still_header places.Shards acceptors es w h x = x
still_header places.Configs acceptors es w h x = x
still_header places.Begin acceptors es w h x = x
still_header places.Events acceptors es w h x = absurd h
still_header places.Ended acceptors es w h x = absurd h

shows_none : (place : Place) (acceptors : ℕ) (es : List Event) → InHeader place → shown_at place acceptors es ≡ []
shows_none places.Version acceptors es h = refl
shows_none places.Acceptors acceptors es h = refl
shows_none places.Proposers acceptors es h = refl
shows_none places.Shards acceptors es h = refl
shows_none places.Configs acceptors es h = refl
shows_none places.Begin acceptors es h = refl
shows_none places.Events acceptors es h = absurd h
shows_none places.Ended acceptors es h = absurd h

-- what a line does to all that is kept
pub record Added (p q : Progress) (item : Item) (es : List Event) (w : World) : Type 0 where
  pub text : shown q (es ++ events_of item) ≡ shown p es ++ text_after w item q
  pub world : IsWorldAt q.place q.acceptors (es ++ events_of item) (world_after w item q)
  pub many : q.events ≡ length (es ++ events_of item)

pub adds : (p q : Progress) (item : Item) (es : List Event) (w : World) → Leads p item q → IsWorldAt p.place p.acceptors es w → p.events ≡ length es → Added p q item es w
adds p q items.Header es w l at many =
    let none = in_header p.place p.acceptors es w l.0 at in
    record {
      text = shows_none q.place q.acceptors (es ++ []) l.1 ∙ sym (append-nil (shown p es) ∙ shows_none p.place p.acceptors es l.0);
      world = still_header q.place q.acceptors (es ++ []) w l.1 (append-nil es ∙ none);
      many = l.2 ∙ many ∙ ap length (sym (append-nil es));
    }
adds p q items.Begun es w l at many =
    let none = in_header p.place p.acceptors es w l.0 at in
    let all : es ++ [] ≡ [] = append-nil es ∙ none in
    record {
      text = ap (λ (x : Place). shown_at x q.acceptors (es ++ [])) l.1 ∙ ap (run_front q.acceptors) all ∙ run_front_none q.acceptors
          ∙ ap (λ (t : List ℕ). t ++ head_text q.acceptors) (sym (shows_none p.place p.acceptors es l.0));
      world = subst (λ (x : Place). IsWorldAt x q.acceptors (es ++ []) (first_world q.acceptors)) (sym l.1) (run_none q.acceptors ∙ ap (run q.acceptors) (sym all));
      many = l.2 ∙ many ∙ ap length (sym (append-nil es));
    }
adds p q (items.Event e) es w l at many =
    let here : w ≡ run p.acceptors es = subst (λ (x : Place). IsWorldAt x p.acceptors es w) l.0 at in
    let count : q.events ≡ length es + 1 = l.3 ∙ ap (λ (n : ℕ). n + 1) many in
    record {
      text = ap (λ (x : Place). shown_at x q.acceptors (es ++ e ∷ [])) l.1 ∙ ap (λ (a : ℕ). run_front a (es ++ e ∷ [])) l.2 ∙ front_more p.acceptors es e
          ∙ ap (λ (x : Place). shown_at x p.acceptors es ++ happening_text (length es + 1) (length (run p.acceptors es).messages + 1) (step (run p.acceptors es) e)) (sym l.0)
          ∙ ap (λ (v : World). shown p es ++ happening_text (length es + 1) (length v.messages + 1) (step v e)) (sym here)
          ∙ ap (λ (n : ℕ). shown p es ++ happening_text n (length w.messages + 1) (step w e)) (sym count);
      world = subst (λ (x : Place). IsWorldAt x q.acceptors (es ++ e ∷ []) (step w e).after) (sym l.1)
          (ap (λ (v : World). (step v e).after) here ∙ run_one p.acceptors es e ∙ ap (λ (a : ℕ). run a (es ++ e ∷ [])) (sym l.2));
      many = count ∙ sym (length-append es (e ∷ []));
    }
adds p q items.End es w l at many =
    let here : w ≡ run p.acceptors es = subst (λ (x : Place). IsWorldAt x p.acceptors es w) l.0 at in
    record {
      text = ap (λ (x : Place). shown_at x q.acceptors (es ++ [])) l.1 ∙ ap (λ (a : ℕ). run_front a (es ++ [])) l.2 ∙ ap (run_front p.acceptors) (append-nil es)
          ∙ ap (λ (x : Place). shown_at x p.acceptors es) (sym l.0) ∙ sym (append-nil (shown p es));
      world = subst (λ (x : Place). IsWorldAt x q.acceptors (es ++ []) w) (sym l.1) (here ∙ ap (run p.acceptors) (sym (append-nil es)) ∙ ap (λ (a : ℕ). run a (es ++ [])) (sym l.2));
      many = l.3 ∙ many ∙ ap length (sym (append-nil es));
    }

-- ---- the promises of every run

pub kept : (acceptors : ℕ) (es : List Event) → KeepsItsPromises acceptors es
kept n es = record {
  agree = λ a b s t shard epoch.
      let i : Invariant (run n es) es (history n es) = run_has n es in
      chosen_agree (run n es) es (history n es) i a.config b.config (i.chosen a s) (i.chosen b t) shard epoch;
  proposed = λ front rest e same note h. ((step_turns (run n front) front (history n front) (run_has n front) e).note note h).proposed;
  climbed = λ front rest e same note below h top above. ((step_turns (run n front) front (history n front) (run_has n front) e).note note h).climbed below above (omega (arith, top));
}
