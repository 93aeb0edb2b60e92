-- KEPT keeps the invariant: a proposer waits on, or learns that what it put is stored.
use Rattle.std.proofs.Common.{◌≡◌, ◌∙◌, refl, sym, ap, subst, ℕ, ◌+◌, ◌<◌, true, List, [], ◌∷◌, ◌++◌, length, Option, Some, None, ◌⊎◌, inl, inr, arith}
use Rattle.std.proofs.lemmas.List.{append-nil}
use Rattle.std.specs.Prelude.{nat_eq}
use Rattle.tcs_terms.specs.Places.{Membership}
use Rattle.quorum_protocol.specs.declared.terms.Ballot.{Ballot}
use Rattle.quorum_protocol.specs.declared.terms.Knows.{Knows}
use Rattle.quorum_protocol.specs.declared.terms.Message.{Message}
use Rattle.quorum_protocol.specs.declared.terms.Say.TheVariants.{Kept}
use Rattle.quorum_protocol.specs.declared.terms.Event.{Event}
use Rattle.quorum_protocol.specs.declared.terms.Stored.{Stored}
use Rattle.quorum_protocol.specs.Ballots.{is_majority, put, same_knows, or_else}
use Rattle.quorum_protocol.specs.Rules.{add_once, is_asking}
use Rattle.quorum_protocol.specs.Rules.Stage.{Putting, Ended}
use Rattle.quorum_protocol.specs.World.{World, attempt_of, known_of, knows}
use Rattle.quorum_protocol.specs.Theorem.{StandsIn, HasNote}
use Rattle.quorum_protocol.proofs.Tables.{get_put, exact_knows}
use Rattle.quorum_protocol.proofs.Standing.{stands_back, stands_either}
use Rattle.quorum_protocol.proofs.Invariant.{Keeps, Chosen, PutFits, AttemptFits, Climbed, Invariant, Grows}
use Rattle.quorum_protocol.proofs.Kept.{note_on, keeps_on, chosen_on}
use Rattle.quorum_protocol.proofs.Carried.{put_fits}
use Rattle.quorum_protocol.proofs.Turns.{NoteFits, Turn}
use Rattle.quorum_protocol.proofs.Lasting.{accepted_lasts, chosen_lasts, known_lasts, no_note}
use Rattle.quorum_protocol.proofs.Changing.{some_is, staged, changed_grows, asking_changed, attempts_changed}
use Rattle.quorum_protocol.proofs.Hearing.{OfAttempt, keeps_more}

below_or_same : (f n : ℕ) → f < n + 1 → (f < n) ⊎ (f ≡ n)
below_or_same f n h = grind arith

module _ (w : World) (es : List Event) (notes : List Stored) (i : Invariant w es notes) (e : Event) (m : Message) (s : StandsIn m w.messages)
    (say : m.say ≡ Kept) (b : Ballot) (c : Membership) (value : Membership) (keepers : List ℕ)
    (is : attempt_of w m.to ≡ Some (staged b c (Putting value keepers))) (of : OfAttempt m b c) where
  own : AttemptFits w es notes m.to (staged b c (Putting value keepers))
  own = i.attempts m.to (staged b c (Putting value keepers)) is

  abbrev keepers' : List ℕ
  keepers' = add_once keepers m.from

  keeps' : Keeps w c.shard c.epoch b value (add_once keepers m.from)
  keeps' = keeps_more w c.shard c.epoch b value keepers own.stage m.from
      (record { sent = m; stands = s; say_is = say; from_is = refl; ballot_is = of.ballot_is; shard_is = of.shard_is; epoch_is = of.epoch_is })

  -- ---- it waits

  abbrev waits_on : World
  waits_on = record w { attempts = put nat_eq w.attempts m.to (staged b c (Putting value (add_once keepers m.from))) }

  waits_grows : Grows w waits_on
  waits_grows = changed_grows w es notes i e m.to b c (Putting value keepers) (Putting value keepers') is w.messages (λ k t. t) w.known

  pub waits_turn : Turn w es notes e waits_on [] None
  waits_turn = record {
    grows = waits_grows;
    messages_are = sym (append-nil w.messages);
    kept_above = λ k t h. absurd t;
    asking = asking_changed w es notes i e m.to b c (Putting value keepers) (Putting value keepers') is w.messages (λ k t. t) w.known (λ h. h);
    put_now = λ k d t h. absurd t;
    fresh = λ k t. absurd t;
    accepted = accepted_lasts w es notes i e waits_on waits_grows (λ q. refl);
    attempts = attempts_changed w es notes i e m.to b c (Putting value keepers) (Putting value keepers') is w.messages (λ k t. t) w.known []
        (keeps_on w waits_on waits_grows c.shard c.epoch b value keepers' keeps');
    chosen = chosen_lasts w es notes i e waits_on waits_grows;
    known = known_lasts w es notes i e waits_on waits_grows [];
    note = no_note es notes;
  }

  -- ---- it learns

  put_value : PutFits w es own.stage.put.sent value
  put_value = put_fits w es notes i own.stage.put.sent value own.stage.put.stands own.stage.put.say_is

  shard_is : value.shard ≡ c.shard
  shard_is = put_value.shard_is ∙ own.stage.put.shard_is

  epoch_is : value.epoch ≡ c.epoch
  epoch_is = put_value.epoch_is ∙ own.stage.put.epoch_is

  -- its proposer learned of the epochs below before
  climbed : Climbed notes m.to value.shard value.epoch
  climbed f l h =
      subst (λ (z : ℕ). HasNote notes m.to z f) (sym shard_is) (own.climbed f l (subst (λ (z : ℕ). f < z) epoch_is h))

  abbrev learned : Stored
  learned = record { proposer = m.to; config = value }

  abbrev ends : World
  ends = record w { attempts = put nat_eq w.attempts m.to (staged b c Ended); known = put same_knows w.known (knows m.to value) value.epoch }

  ends_grows : Grows w ends
  ends_grows = changed_grows w es notes i e m.to b c (Putting value keepers) Ended is w.messages (λ k t. t) (put same_knows w.known (knows m.to value) value.epoch)

  known_now : (k : Knows) → Climbed (notes ++ learned ∷ []) k.proposer k.shard (known_of ends k + 1)
  known_now k = elim (get_put same_knows exact_knows w.known (knows m.to value) value.epoch k) [
    | inl n ↦ (λ f l h.
        let top : known_of ends k ≡ value.epoch = ap (λ (o : Option ℕ). or_else 1 o) n.1 in
        subst (λ (z : Knows). HasNote (notes ++ learned ∷ []) z.proposer z.shard f) (sym n.0) (elim (below_or_same f value.epoch (subst (λ (z : ℕ). f < z + 1) top h)) [
          | inl u ↦ note_on notes (learned ∷ []) m.to value.shard f (climbed f l u)
          | inr q ↦ record { note = learned; stands = stands_back notes (learned ∷ []) learned (inl refl); proposer_is = refl; shard_is = refl; epoch_is = sym q }
        ]))
    | inr o ↦ (λ f l h.
        let same : known_of ends k ≡ known_of w k = ap (λ (x : Option ℕ). or_else 1 x) o in
        known_lasts w es notes i e ends ends_grows (learned ∷ []) k f l (subst (λ (z : ℕ). f < z + 1) same h))
  ]

  ended_never_asks : is_asking Ended ≡ true → is_asking (Putting value keepers) ≡ true
  ended_never_asks h = h

  note_fits : (n : Stored) → Some learned ≡ Some n → NoteFits es notes n
  note_fits n h = subst (λ (z : Stored). NoteFits es notes z) (some_is learned n h) (record { proposed = put_value.proposed; climbed = climbed })

  module _ (many : is_majority w.acceptors (length (add_once keepers m.from)) ≡ true) where
    chosen_value : Chosen ends value
    chosen_value = record {
      ballot = b;
      keepers = keepers';
      keep = keeps_on w ends ends_grows value.shard value.epoch b value keepers'
          (subst (λ (z : ℕ). Keeps w value.shard z b value keepers') (sym epoch_is) (subst (λ (z : ℕ). Keeps w z c.epoch b value keepers') (sym shard_is) keeps'));
      many = many;
    }

    chosen_now : (n : Stored) → StandsIn n (notes ++ learned ∷ []) → Chosen ends n.config
    chosen_now n t = elim (stands_either notes (learned ∷ []) n t) [
      | inl o ↦ chosen_on w ends ends_grows n.config (i.chosen n o)
      | inr l ↦ elim l [ inl q ↦ subst (λ (z : Stored). Chosen ends z.config) (sym q) chosen_value | inr z ↦ absurd z ]
    ]

    pub ends_turn : Turn w es notes e ends [] (Some learned)
    ends_turn = record {
      grows = ends_grows;
      messages_are = sym (append-nil w.messages);
      kept_above = λ k t h. absurd t;
      asking = asking_changed w es notes i e m.to b c (Putting value keepers) Ended is w.messages (λ k t. t) (put same_knows w.known (knows m.to value) value.epoch) ended_never_asks;
      put_now = λ k d t h. absurd t;
      fresh = λ k t. absurd t;
      accepted = accepted_lasts w es notes i e ends ends_grows (λ q. refl);
      attempts = attempts_changed w es notes i e m.to b c (Putting value keepers) Ended is w.messages (λ k t. t) (put same_knows w.known (knows m.to value) value.epoch) (learned ∷ []) tt;
      chosen = chosen_now;
      known = known_now;
      note = note_fits;
    }
