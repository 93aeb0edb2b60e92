-- Whatever the configuration service does with a message is one of three things.
use Rattle.std.proofs.Common.{◌≡◌, ℕ, ◌+◌, true, false, List, [], ◌∷◌, ◌++◌, Option, Some, None, ◌==◌, ◌&&◌, filter, inl, inr, refl, eqb-true}
use Rattle.tcs_terms.specs.declared.inputs.Handled.TheVariants.{Held}
use Rattle.tcs_terms.specs.declared.messages.Message.{Message}
use Rattle.tcs_terms.specs.declared.messages.Message.TheVariants.{Prepare, PrepareAck, Accept, AcceptAck, DecisionFor, Probe, ProbeAck, NewConfig, NewState, ConfigChange, Last, At, Cas, Stored, OutcomeOf, Refused, StatePiece}
use Rattle.tcs_terms.specs.Places.{Membership}
use Rattle.protocol.specs.Invariant.Time.{StandsIn}
use Rattle.protocol.specs.Notices.{notice_of, with_notice}
use Rattle.protocol.specs.Outcomes.{Out, to, acts}
use Rattle.protocol.specs.Service.{last_config, config_at, last_epoch, holds_back, answer_stored, tell_nodes, is_next, store, compare_and_set, serve}
use Rattle.protocol.proofs.Lists.{find-StandsIn}
use Rattle.protocol_laws.specs.Change.{IsServiceMark, NoMark, LastEpoch, Serves, HoldsBack, Tells, Stores}
use Rattle.protocol_laws.specs.Effect.{is_answered}
use Rattle.protocol_laws.proofs.Guards.{by_guard, by_option, no_notice, IsKind, notices-sent}
use Rattle.protocol_laws.proofs.Standing.{last_or-StandsIn, filter-StandsIn}

-- a message that the service holds back
holds_quietly : (nodes : ℕ) (configs : List Membership) (from : ℕ) (message : Message) (mark : ℕ) → IsServiceMark configs mark → is_answered message ≡ false
    → Serves nodes configs from message (holds_back configs mark)
holds_quietly nodes configs from message mark m q = HoldsBack message (Held mark) [] (record { mark = m; only = rw q refl })

-- the same, with a notice
holds_noticed : (nodes : ℕ) (configs : List Membership) (from : ℕ) (message : Message) (kind mark : ℕ) → IsServiceMark configs mark → IsKind message kind
    → Serves nodes configs from message (with_notice from kind 0 (holds_back configs mark))
unfolding with_notice
holds_noticed nodes configs from message kind mark m k =
    HoldsBack message (Held mark) (notice_of (Held mark) from kind 0 ++ []) (record { mark = m; only = notices-sent from message kind (Held mark) 0 k })

-- a shard's last configuration is stored
pub last_config-StandsIn : (configs : List Membership) (shard : ℕ) (c : Membership) → last_config configs shard ≡ Some c → StandsIn c configs
last_config-StandsIn configs shard c h = elim (last_or-StandsIn None (filter (λ d. d.shard == shard) configs) c h) [
  | inl e ↦ absurd (cc e)
  | inr s ↦ (filter-StandsIn (λ d. d.shard == shard) configs c s).0
]

-- STORED of a configuration that is stored
answer_serves : (nodes : ℕ) (configs : List Membership) (from : ℕ) (message : Message) (kind mark : ℕ) (o : Option Membership) → IsServiceMark configs mark → IsKind message kind → ((c : Membership) → o ≡ Some c → StandsIn c configs)
    → Serves nodes configs from message (with_notice from kind 0 (answer_stored configs from mark o))
unfolding answer_stored
answer_serves nodes configs from message kind mark None m k h = holds_noticed nodes configs from message kind mark m k
answer_serves nodes configs from message kind mark (Some c) m k h = no_notice (Serves nodes configs from message) from kind 0 _ _ _ (Tells message c (h c refl))

cas_serves : (nodes : ℕ) (configs : List Membership) (from : ℕ) (c : Membership)
    → Serves nodes configs from (Cas c) (with_notice from 13 0 (compare_and_set nodes configs from c (config_at configs c.shard c.epoch)))
unfolding compare_and_set store
cas_serves nodes configs from c =
    let S : Out (List Membership) → Type 0 = Serves nodes configs from (Cas c) in
    let P : Out (List Membership) → Type 0 = λ out. S (with_notice from 13 0 out) in
    by_option P (compare_and_set nodes configs from c) (config_at configs c.shard c.epoch)
    (λ free. by_guard P (is_next (last_config configs c.shard) c)
    (λ e. no_notice S from 13 0 _ _ _ (go (last_config configs c.shard) refl free e))
    (λ e. holds_noticed nodes configs from (Cas c) 13 (last_epoch configs c.shard) (LastEpoch c.shard) (record { answered = refl; kind = refl })))
    (λ kept e. no_notice S from 13 0 _ _ _ (Tells (Cas c) kept (find-StandsIn (λ d. (d.shard == c.shard) && (d.epoch == c.epoch)) configs kept e).0))
  where
    go : (o : Option Membership) → last_config configs c.shard ≡ o → config_at configs c.shard c.epoch ≡ None → is_next o c ≡ true
        → Serves nodes configs from (Cas c) (acts (configs ++ c ∷ []) (to from (Stored c) ∷ tell_nodes nodes c))
    go None l free e = absurd (cc e)
    go (Some last) l free e = Stores c last free l (eqb-true c.epoch (last.epoch + 1) e)

pub serves_of : (nodes : ℕ) (configs : List Membership) (from : ℕ) (message : Message) → Serves nodes configs from message (serve nodes configs from message)
unfolding serve
serves_of nodes configs from (Last shard) =
    answer_serves nodes configs from (Last shard) 11 0 (last_config configs shard) NoMark (record { answered = refl; kind = refl })
    (λ c e. last_config-StandsIn configs shard c e)
serves_of nodes configs from (At shard epoch) =
    answer_serves nodes configs from (At shard epoch) 12 (last_epoch configs shard) (config_at configs shard epoch) (LastEpoch shard) (record { answered = refl; kind = refl })
    (λ c e. (find-StandsIn (λ d. (d.shard == shard) && (d.epoch == epoch)) configs c e).0)
serves_of nodes configs from (Cas c) = cas_serves nodes configs from c
serves_of nodes configs from (Prepare epoch txn shards part) = holds_noticed nodes configs from (Prepare epoch txn shards part) 1 0 NoMark (record { answered = refl; kind = refl })
serves_of nodes configs from (PrepareAck shard epoch entry) = holds_noticed nodes configs from (PrepareAck shard epoch entry) 2 (last_epoch configs shard) (LastEpoch shard) (record { answered = refl; kind = refl })
serves_of nodes configs from (Accept epoch entry) = holds_noticed nodes configs from (Accept epoch entry) 3 0 NoMark (record { answered = refl; kind = refl })
serves_of nodes configs from (AcceptAck shard epoch slot txn) = holds_noticed nodes configs from (AcceptAck shard epoch slot txn) 4 (last_epoch configs shard) (LastEpoch shard) (record { answered = refl; kind = refl })
serves_of nodes configs from (DecisionFor epoch slot txn commit) = holds_noticed nodes configs from (DecisionFor epoch slot txn commit) 5 0 NoMark (record { answered = refl; kind = refl })
serves_of nodes configs from (Probe epoch) = holds_noticed nodes configs from (Probe epoch) 6 0 NoMark (record { answered = refl; kind = refl })
serves_of nodes configs from (ProbeAck epoch state) = holds_noticed nodes configs from (ProbeAck epoch state) 7 0 NoMark (record { answered = refl; kind = refl })
serves_of nodes configs from (NewConfig c) = holds_noticed nodes configs from (NewConfig c) 8 (last_epoch configs c.shard) (LastEpoch c.shard) (record { answered = refl; kind = refl })
serves_of nodes configs from (NewState c rows) = holds_noticed nodes configs from (NewState c rows) 9 (last_epoch configs c.shard) (LastEpoch c.shard) (record { answered = refl; kind = refl })
serves_of nodes configs from (ConfigChange c) = holds_quietly nodes configs from (ConfigChange c) (last_epoch configs c.shard) (LastEpoch c.shard) refl
serves_of nodes configs from (Stored c) = holds_quietly nodes configs from (Stored c) (last_epoch configs c.shard) (LastEpoch c.shard) refl
serves_of nodes configs from (OutcomeOf txn decision) = holds_quietly nodes configs from (OutcomeOf txn decision) 0 NoMark refl
serves_of nodes configs from (Refused kind why mark) = holds_quietly nodes configs from (Refused kind why mark) 0 NoMark refl
serves_of nodes configs from (StatePiece c number pieces rows) = holds_noticed nodes configs from (StatePiece c number pieces rows) 17 (last_epoch configs c.shard) (LastEpoch c.shard) (record { answered = refl; kind = refl })
