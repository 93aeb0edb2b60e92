-- What was sent stays sent: what follows from messages alone lasts.
use Rattle.std.proofs.Common.{◌≡◌, ℕ, true, List, ◌++◌, length, Option}
use Rattle.tcs_terms.specs.Places.{Membership}
use Rattle.quorum_protocol.specs.declared.terms.Ballot.{Ballot}
use Rattle.quorum_protocol.specs.declared.terms.Accepted.{Accepted}
use Rattle.quorum_protocol.specs.declared.terms.Event.{Event}
use Rattle.quorum_protocol.specs.declared.terms.Stored.{Stored}
use Rattle.quorum_protocol.specs.Ballots.{is_majority}
use Rattle.quorum_protocol.specs.Rules.{Stage, Attempt}
use Rattle.quorum_protocol.specs.Rules.Stage.{Asking, Putting, Ended}
use Rattle.quorum_protocol.specs.World.{World}
use Rattle.quorum_protocol.specs.Theorem.{IsProposed, HasNote}
use Rattle.quorum_protocol.proofs.Standing.{stands_front}
use Rattle.quorum_protocol.proofs.Invariant.{WasPut, WasKept, HasTold, Heard, Safe, Keeps, Chosen, StageFits, AttemptFits, Grows, IsAcceptor}

pub proposed_on : (es more : List Event) (c : Membership) → IsProposed es c → IsProposed (es ++ more) c
proposed_on es more c h = record { round = h.round; stands = stands_front es more _ h.stands }

pub note_on : (notes more : List Stored) (p s e : ℕ) → HasNote notes p s e → HasNote (notes ++ more) p s e
note_on notes more p s e h =
    record { note = h.note; stands = stands_front notes more _ h.stands; proposer_is = h.proposer_is; shard_is = h.shard_is; epoch_is = h.epoch_is }

module _ (w w' : World) (g : Grows w w') where
  pub put_on : (s e : ℕ) (b : Ballot) (c : Membership) → WasPut w s e b c → WasPut w' s e b c
  put_on s e b c h =
      record { sent = h.sent; stands = g.messages h.sent h.stands; say_is = h.say_is; ballot_is = h.ballot_is; shard_is = h.shard_is; epoch_is = h.epoch_is }

  pub kept_on : (s e : ℕ) (b : Ballot) (a : ℕ) → WasKept w s e b a → WasKept w' s e b a
  kept_on s e b a h =
      record { sent = h.sent; stands = g.messages h.sent h.stands; say_is = h.say_is; from_is = h.from_is; ballot_is = h.ballot_is; shard_is = h.shard_is; epoch_is = h.epoch_is }

  pub told_on : (s e : ℕ) (b : Ballot) (x : Option Accepted) (a : ℕ) → HasTold w s e b x a → HasTold w' s e b x a
  told_on s e b x a h = record {
    sent = h.sent;
    stands = g.messages h.sent h.stands;
    pair = h.pair;
    say_is = h.say_is;
    from_is = h.from_is;
    ballot_is = h.ballot_is;
    shard_is = h.shard_is;
    epoch_is = h.epoch_is;
    covered = h.covered;
  }

  pub heard_on : (s e : ℕ) (b : Ballot) (told : List ℕ) (x : Option Accepted) → Heard w s e b told x → Heard w' s e b told x
  heard_on s e b told x h = record {
    distinct = h.distinct;
    each = λ a i. told_on s e b x a (h.each a i);
    put = λ y i. put_on s e y.ballot y.config (h.put y i);
    below = h.below;
  }

  pub majority_on : (n : ℕ) → is_majority w.acceptors n ≡ true → is_majority w'.acceptors n ≡ true
  majority_on n h = rw g.acceptors h

  pub safe_on : (s e : ℕ) (b : Ballot) (c : Membership) → Safe w s e b c → Safe w' s e b c
  safe_on s e b c h = record {
    told = h.told;
    greatest = h.greatest;
    heard = heard_on s e b h.told h.greatest h.heard;
    many = majority_on (length h.told) h.many;
    value = h.value;
  }

  pub keeps_on : (s e : ℕ) (b : Ballot) (c : Membership) (ks : List ℕ) → Keeps w s e b c ks → Keeps w' s e b c ks
  keeps_on s e b c ks h = record { put = put_on s e b c h.put; distinct = h.distinct; each = λ a i. kept_on s e b a (h.each a i) }

  pub chosen_on : (c : Membership) → Chosen w c → Chosen w' c
  chosen_on c h = record {
    ballot = h.ballot;
    keepers = h.keepers;
    keep = keeps_on c.shard c.epoch h.ballot c h.keepers h.keep;
    many = majority_on (length h.keepers) h.many;
  }

  pub acceptor_on : (a : ℕ) → IsAcceptor w a → IsAcceptor w' a
  acceptor_on a h = rw g.acceptors h

  pub stage_on : (a : Attempt) (st : Stage) → StageFits w a st → StageFits w' a st
  stage_on a (Asking told x) h = heard_on a.config.shard a.config.epoch a.ballot told x h
  stage_on a (Putting value ks) h = keeps_on a.config.shard a.config.epoch a.ballot value ks h
  stage_on a Ended h = tt

  pub attempt_on : (es es' : List Event) (notes notes' : List Stored) (p : ℕ) (a : Attempt) → AttemptFits w es notes p a → AttemptFits w' (es ++ es') (notes ++ notes') p a
  attempt_on es es' notes notes' p a h = record {
    proposer_is = h.proposer_is;
    proposed = proposed_on es es' a.config h.proposed;
    climbed = λ e i j. note_on notes notes' p a.config.shard e (h.climbed e i j);
    stage = stage_on a a.stage h.stage;
  }
