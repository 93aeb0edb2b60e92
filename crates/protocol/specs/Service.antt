-- The configuration service (the external one of Bravo and Gotsman, PODC 2019; its messages are this project's own).
use Rattle.std.specs.Prelude.{ℕ, ◌+◌, Bool, false, ◌&&◌, ◌==◌, List, [], ◌∷◌, ◌++◌, filter, find, map, Option, Some, None}
use Rattle.std.specs.List.{range_with_len, last_or}
use Rattle.tcs_terms.specs.declared.inputs.Handled.TheVariants.{Held}
use Rattle.tcs_terms.specs.declared.messages.Message.{Message}
use Rattle.tcs_terms.specs.declared.messages.Message.TheVariants.{Prepare, PrepareAck, Accept, AcceptAck, DecisionFor, Probe, ProbeAck, NewConfig, NewState, ConfigChange, Last, At, Cas, Stored, OutcomeOf, Refused, StatePiece}
use Rattle.tcs_terms.specs.declared.messages.Outgoing.{Outgoing}
use Rattle.tcs_terms.specs.Places.{Membership}
use Rattle.protocol.specs.Choices.{when}
use Rattle.protocol.specs.Outcomes.{Out, to, acts, rests}
use Rattle.protocol.specs.Notices.{with_notice}
use Rattle.protocol.specs.Views.{epoch_of}

-- the last configuration of a shard among those that are stored
abbrev pub last_config : List Membership → ℕ → Option Membership
last_config configs shard = last_or None (filter (λ c. c.shard == shard) configs)

-- the configuration of a shard's epoch
abbrev pub config_at : List Membership → ℕ → ℕ → Option Membership
config_at configs shard epoch = find (λ c. (c.shard == shard) && (c.epoch == epoch)) configs

-- the last epoch of a shard, 0 where the run does not have the shard
abbrev pub last_epoch : List Membership → ℕ → ℕ
last_epoch configs shard = epoch_of (last_config configs shard)

-- a message is held, against that mark
abbrev pub holds_back : List Membership → ℕ → Out (List Membership)
holds_back configs mark = rests (Held mark) configs

-- STORED of a configuration to whoever asked, if there is one
unfoldable pub answer_stored : List Membership → ℕ → ℕ → Option Membership → Out (List Membership)
answer_stored configs from mark None = holds_back configs mark
answer_stored configs from mark (Some c) = acts configs (to from (Stored c) ∷ [])

-- CONFIG_CHANGE to every node, from 1 on
unfoldable pub tell_nodes : ℕ → Membership → List Outgoing
tell_nodes nodes c = map (λ node. to node (ConfigChange c)) (range_with_len 1 nodes)

-- whether a configuration is the next one of a shard of the run
abbrev pub is_next : Option Membership → Membership → Bool
is_next None c = false
is_next (Some last) c = c.epoch == last.epoch + 1

-- a configuration of an epoch that is not stored: the next one is, and every node hears of it; any other is held back
unfoldable pub store : ℕ → List Membership → ℕ → Membership → Out (List Membership)
store nodes configs from c =
    when (is_next (last_config configs c.shard) c)
    (acts (configs ++ c ∷ []) (to from (Stored c) ∷ tell_nodes nodes c))
    (holds_back configs (last_epoch configs c.shard))

-- CAS: an epoch is stored once. Where it is stored already, what was stored is answered.
unfoldable pub compare_and_set : ℕ → List Membership → ℕ → Membership → Option Membership → Out (List Membership)
compare_and_set nodes configs from c (Some kept) = acts configs (to from (Stored kept) ∷ [])
compare_and_set nodes configs from c None = store nodes configs from c

-- What the service does with a message, given how many nodes there are and what is stored. Only LAST, AT and CAS act.
-- The mark is the last epoch of the shard that the message names, 0 where it names none.
unfoldable pub serve : ℕ → List Membership → ℕ → Message → Out (List Membership)
serve nodes configs from (Last shard) = with_notice from 11 0 (answer_stored configs from 0 (last_config configs shard))
serve nodes configs from (At shard epoch) =
    with_notice from 12 0 (answer_stored configs from (last_epoch configs shard) (config_at configs shard epoch))
serve nodes configs from (Cas c) = with_notice from 13 0 (compare_and_set nodes configs from c (config_at configs c.shard c.epoch))
serve nodes configs from (Prepare epoch txn shards part) = with_notice from 1 0 (holds_back configs 0)
serve nodes configs from (PrepareAck shard epoch entry) = with_notice from 2 0 (holds_back configs (last_epoch configs shard))
serve nodes configs from (Accept epoch entry) = with_notice from 3 0 (holds_back configs 0)
serve nodes configs from (AcceptAck shard epoch slot txn) = with_notice from 4 0 (holds_back configs (last_epoch configs shard))
serve nodes configs from (DecisionFor epoch slot txn commit) = with_notice from 5 0 (holds_back configs 0)
serve nodes configs from (Probe epoch) = with_notice from 6 0 (holds_back configs 0)
serve nodes configs from (ProbeAck epoch state) = with_notice from 7 0 (holds_back configs 0)
serve nodes configs from (NewConfig c) = with_notice from 8 0 (holds_back configs (last_epoch configs c.shard))
serve nodes configs from (NewState c rows) = with_notice from 9 0 (holds_back configs (last_epoch configs c.shard))
serve nodes configs from (ConfigChange c) = holds_back configs (last_epoch configs c.shard)
serve nodes configs from (Stored c) = holds_back configs (last_epoch configs c.shard)
serve nodes configs from (OutcomeOf txn decision) = holds_back configs 0
serve nodes configs from (Refused kind why mark) = holds_back configs 0
serve nodes configs from (StatePiece c number pieces rows) = with_notice from 17 0 (holds_back configs (last_epoch configs c.shard))
