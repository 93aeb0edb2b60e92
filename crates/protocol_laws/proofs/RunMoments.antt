-- Two worlds that follow each other in a run are joined by one of its events; so of what is lost the run found nothing.
use Rattle.std.proofs.Common.{◌≡◌, ℕ, true, List, [], ◌∷◌, ◌++◌, fold, length, inl, inr, ◌⊎◌, sym, ◌∙◌, ap, subst, refl}
use Rattle.std.specs.List.{list_any, AllByRecursion}
use Rattle.std.proofs.lemmas.Bool.{and_from}
use Rattle.tcs_terms.specs.declared.ids.TxId.{TxId}
use Rattle.tcs_terms.specs.declared.inputs.Event.{Event}
use Rattle.tcs_terms.specs.declared.inputs.Note.TheVariants.{Decide}
use Rattle.tcs_terms.specs.declared.votes.Cause.TheVariants.{Lost}
use Rattle.tcs_terms.specs.declared.votes.Decision.TheVariants.{Abort}
use Rattle.tcs_terms.specs.Events.{event_fits}
use Rattle.tcs_terms.specs.Runs.{AreEventsOf, MayStand}
use Rattle.tcs_terms.specs.Setups.{Deployment}
use Rattle.tcs_laws.specs.Certification.{Tests}
use Rattle.protocol.specs.FoundNothing.{has_acted, finds_nothing, finds_nothing_in, found_nothing}
use Rattle.protocol.specs.Invariant.Time.{Moment, worlds, goes_to, time_after, WasNoted}
use Rattle.protocol.specs.Invariant.Transactions.{FoundNothingBy}
use Rattle.protocol.specs.Past.{with_past}
use Rattle.protocol.specs.Run.{world_after, run}
use Rattle.protocol.specs.World.{World, first_world, world_step}
use Rattle.protocol_laws.proofs.HistoryAt.{Remembers, remembers_at}
use Rattle.protocol_laws.proofs.AcceptedSays.{before-past}
use Rattle.protocol_laws.proofs.CausesNow.{lost-found}
use Rattle.protocol_laws.proofs.ChangeOf.{change_of}
use Rattle.protocol_laws.proofs.FoundInRun.{FoundBetween, IsFound, found_in_change}
use Rattle.protocol_laws.proofs.PastKept.{WorldHolds}
use Rattle.protocol_laws.proofs.RunInduction.{invariant_at}
use Rattle.protocol_laws.proofs.WithPast.{any-with_past}

-- what holds of each element holds of one that stands between others
all-between : {X : Type 0} (P : X → Type 0) (xs : List X) (x : X) (ys : List X) → AllByRecursion P (xs ++ (x ∷ ys)) → P x
all-between P [] x ys h = h.0
all-between P (z ∷ zs) x ys h = all-between P zs x ys h.1

-- the event between two worlds of a run that began with another one
record EventBetween (tests : Tests) (version : ℕ) (first : World) (events : List Event) (before after : World) : Type 0 where
  past : List Event
  event : Event
  rest : List Event
  is : events ≡ past ++ (event ∷ rest)
  before_is : before ≡ world_after tests version first past
  after_is : after ≡ (world_step tests version before event).after

-- two worlds follow each other in a moment's past
record FollowIn (ws : List World) (before after : World) : Type 0 where
  later : List World
  earlier : List World
  is : ws ≡ later ++ (after ∷ before ∷ earlier)

one_back : (tests : Tests) (version : ℕ) (t : Moment) (event : Event) (rest : List Event) (before after : World) → FollowIn ((world_step tests version t.now event).after ∷ worlds t) before after → EventBetween tests version t.now (event ∷ rest) before after ⊎ FollowIn (worlds t) before after
unfolding world_after
one_back tests version t event rest before after f = go f.later f.is
  where
    go : (later : List World) → (world_step tests version t.now event).after ∷ t.now ∷ t.before ≡ later ++ (after ∷ before ∷ f.earlier) → EventBetween tests version t.now (event ∷ rest) before after ⊎ FollowIn (worlds t) before after
    go [] e =
        let same : before ≡ t.now = cc e in
        let new : (world_step tests version t.now event).after ≡ after = cc e in
        inl (record { past = []; event = event; rest = rest; is = refl; before_is = same; after_is = sym new ∙ ap (λ w. (world_step tests version w event).after) (sym same) })
    go (x ∷ xs) e = inr (record { later = xs; earlier = f.earlier; is = cc e })

event_between : (tests : Tests) (version : ℕ) (t : Moment) (events : List Event) (before after : World) → FollowIn (worlds (fold (λ m e. goes_to m (world_step tests version m.now e).after) t events)) before after
    → EventBetween tests version t.now events before after ⊎ FollowIn (worlds t) before after
unfolding world_after
event_between tests version t [] before after f = inr f
event_between tests version t (e ∷ es) before after f = elim (event_between tests version (goes_to t (world_step tests version t.now e).after) es before after f) [
  | inl b ↦ inl (record { past = e ∷ b.past; event = b.event; rest = b.rest; is = ap (λ xs. e ∷ xs) b.is; before_is = b.before_is; after_is = b.after_is })
  | inr g ↦ one_back tests version t e es before after g
]

not_first : (w before after : World) → FollowIn (w ∷ []) before after → ⊥
not_first w before after f = go f.later f.is
  where
    go : (later : List World) → w ∷ [] ≡ later ++ (after ∷ before ∷ f.earlier) → ⊥
    go [] e = cc e
    go (x ∷ []) e = cc e
    go (x ∷ y ∷ xs) e = cc e

run_between : (tests : Tests) (setup : Deployment) (events : List Event) (before after : World) → FollowIn (worlds (time_after tests setup events)) before after → EventBetween tests setup.version (first_world setup) events before after
unfolding time_after
run_between tests setup events before after f = elim (event_between tests setup.version (record { now = first_world setup; before = [] }) events before after f) [
  | inl b ↦ b
  | inr g ↦ absurd (not_first (first_world setup) before after g)
]

-- of what a shard of a run found nothing between two worlds, an event of the run found nothing
pub found-by_event : (tests : Tests) (setup : Deployment) (events : List Event) (txn : TxId) (shard : ℕ) → AreEventsOf setup events
    → FoundNothingBy (time_after tests setup events) txn shard → found_nothing tests setup events txn shard ≡ true
unfolding run
found-by_event tests setup events txn shard a f =
    go (remembers_at tests setup events a) f (run_between tests setup events f.before f.after (record { later = f.later; earlier = f.earlier; is = f.moments }))
  where
    go : Remembers tests setup (time_after tests setup events) → (f : FoundNothingBy (time_after tests setup events) txn shard) → EventBetween tests setup.version (first_world setup) events f.before f.after → found_nothing tests setup events txn shard ≡ true
    go r f b =
        let t : Moment = time_after tests setup events in
        let w : WorldHolds setup t f.before = r.past.each f.before (inr (before-past t.now f.after f.before t.before f.later f.earlier f.moments)) in
        let fits : event_fits setup b.event ≡ true = (all-between (MayStand setup) b.past b.event b.rest (subst (λ xs. AllByRecursion (MayStand setup) xs) b.is a.events)).fits in
        let found : FoundBetween f.before f.after txn shard = record { node = f.node; there = f.there; of_shard = f.of_shard; leads = f.leads; nothing = f.nothing; grown = f.grown; grown_there = f.grown_there; grown_name = f.grown_name; still = f.still; entry = f.entry; appended = f.appended; of_txn = f.of_txn; empty = f.empty } in
        let i : IsFound f.before (world_step tests setup.version f.before b.event) txn shard b.event =
        found_in_change tests setup f.before b.event (world_step tests setup.version f.before b.event) (length setup.nodes) txn shard w.names fits (change_of tests setup.version f.before b.event) (subst (λ x. FoundBetween f.before x txn shard) b.after_is found) in
        subst (λ xs. list_any (λ e. finds_nothing_in tests setup.version (run tests setup e.0) txn shard e.1) (with_past xs) ≡ true) (sym b.is)
        (any-with_past (λ e. finds_nothing_in tests setup.version (run tests setup e.0) txn shard e.1) b.past b.event b.rest
        (subst (λ x. finds_nothing_in tests setup.version x txn shard b.event ≡ true) b.before_is
        (and_from (finds_nothing f.before txn shard b.event) (has_acted (world_step tests setup.version f.before b.event).result) i.finds i.acted)))

-- of what a run decided to be lost, an event of it found nothing in the named shard
pub run-found_nothing : (tests : Tests) (setup : Deployment) (events : List Event) (txn : TxId) (shard : ℕ) → AreEventsOf setup events
    → WasNoted (time_after tests setup events) (Decide txn (Abort shard Lost)) → found_nothing tests setup events txn shard ≡ true
run-found_nothing tests setup events txn shard a noted =
    found-by_event tests setup events txn shard a (lost-found tests setup (time_after tests setup events) txn shard (invariant_at tests setup events a) (remembers_at tests setup events a).past noted)
