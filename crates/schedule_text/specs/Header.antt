-- How the lines of a header are read. A setup is put together from them, line by line.
use Rattle.std.specs.Prelude.{ℕ, ◌+◌, Bool, true, ◌&&◌, not, ◌==◌, nat_le, nat_lt, if◌then◌else◌, is_none, List, [], ◌∷◌, ◌++◌, length, codes, Option, Some, None, Result, Ok, Err}
use Rattle.tcs_terms.specs.declared.limits.TheConstants.{MAX_SHARDS, MAX_NODES, MAX_MEMBERS}
use Rattle.tcs_terms.specs.declared.setups.Rule.{Rule}
use Rattle.tcs_terms.specs.declared.setups.Rule.TheVariants as rules
use Rattle.text_words.specs.declared.words.Reason.{Reason}
use Rattle.text_words.specs.declared.words.Reason.TheVariants as reasons
use Rattle.tcs_terms.specs.ConfigFaults.{config_fault}
use Rattle.tcs_terms.specs.Places.{Membership}
use Rattle.tcs_terms.specs.SetupFaults.{setup_fault}
use Rattle.tcs_terms.specs.Rules.{rule_in}
use Rattle.tcs_terms.specs.Setups.{Deployment}
use Rattle.text_words.specs.Words.{begins, after}
use Rattle.schedule_text.specs.declared.places.Place.{Place}
use Rattle.schedule_text.specs.declared.places.Place.TheVariants as places
use Rattle.schedule_text.specs.Words.{fixed_at, end_at, number_at, between_at, node_of_at, nodes_at}
use Rattle.text_words.specs.PayloadWords.{◌>>=◌}

-- where a reader stands, and the parts of the setup so far
pub record Head : Type 0 where
  pub place : Place
  pub setup : Deployment

-- nothing is read yet
abbrev pub no_parts : Deployment
no_parts = record { version = 1; rule = rules.Serial; shards = 0; nodes = []; configs = [] }

-- what a line of the header is: the last one, with which the setup is whole, or another
abbrev pub HeadRead : Type 0
HeadRead = Result (Option Deployment × Head) Reason

-- a line that is not the last
abbrev pub goes_on : Place → Deployment → HeadRead
goes_on place d = Ok (None, record { place = place; setup = d })

-- ---- the lines before the nodes

-- the version is 1 or 2
unfoldable pub version_at : Deployment → List (List ℕ) → HeadRead
version_at d words = do
  begun ← fixed_at (codes "tcs") words
  version ← between_at 1 2 begun.1
  end ← end_at version.1
  goes_on places.Certifier (record d { version = version.0 })

abbrev pub rule_or : Option Rule → List (List ℕ) → Result (Rule × List (List ℕ)) Reason
rule_or (Some rule) words = Ok (rule, words)
rule_or None words = Err reasons.Word

unfoldable pub rule_at : List (List ℕ) → Result (Rule × List (List ℕ)) Reason
rule_at [] = Err reasons.Word
rule_at (w ∷ ws) = rule_or (rule_in w) ws

unfoldable pub certifier_at : Deployment → List (List ℕ) → HeadRead
certifier_at d words = do
  begun ← fixed_at (codes "certifier") words
  rule ← rule_at begun.1
  end ← end_at rule.1
  goes_on places.Shards (record d { rule = rule.0 })

-- 1 to 16 shards
unfoldable pub shards_at : Deployment → List (List ℕ) → HeadRead
shards_at d words = do
  begun ← fixed_at (codes "shards") words
  shards ← between_at 1 MAX_SHARDS begun.1
  end ← end_at shards.1
  goes_on places.Parts (record d { shards = shards.0 })

-- ---- nodes and configurations

-- the number of the next node: there are at most 64, and they stand in order
unfoldable pub next_at : ℕ → List (List ℕ) → Result (ℕ × List (List ℕ)) Reason
next_at count words = do
  n ← number_at words
  if nat_le MAX_NODES count then Err reasons.Many else if n.0 == count + 1 then Ok n else Err reasons.Order

-- a node, after its first word: its number and its shard
unfoldable pub node_at : Deployment → List (List ℕ) → HeadRead
node_at d words = do
  node ← next_at (length d.nodes) words
  shard ← between_at 1 d.shards node.1
  end ← end_at shard.1
  goes_on places.Parts (record d { nodes = d.nodes ++ shard.0 ∷ [] })

-- the number of the next configuration's shard
unfoldable pub shard_in_order_at : Deployment → List (List ℕ) → Result (ℕ × List (List ℕ)) Reason
shard_in_order_at d words = do
  shard ← between_at 1 d.shards words
  if shard.0 == length d.configs + 1 then Ok shard else Err reasons.Order

-- the members, of whom there is at least one
unfoldable pub members_at : Deployment → ℕ → List (List ℕ) → Result (List ℕ) Reason
members_at d shard words = if length words == 0 then Err reasons.Word else nodes_at d.nodes shard MAX_MEMBERS 0 words

-- the first configuration of a shard; the leader must be one of the members, which is seen once these are read
abbrev pub config_or : Membership → Result Membership Reason
config_or c = if is_none (config_fault c) then Ok c else Err reasons.Range

unfoldable pub first_config_at : Deployment → List (List ℕ) → Result Membership Reason
first_config_at d words = do
  shard ← shard_in_order_at d words
  leader ← node_of_at d.nodes shard.0 shard.1
  members ← members_at d shard.0 leader.1
  config_or (record { shard = shard.0; epoch = 1; members = members; leader = leader.0; by = 0 })

-- a configuration, after its first word
unfoldable pub config_at : Deployment → List (List ℕ) → HeadRead
config_at d words = do
  c ← first_config_at d words
  goes_on places.Parts (record d { configs = d.configs ++ c ∷ [] })

-- ---- the line `events`

-- the setup of these parts, where they are those of one
abbrev pub setup_or : Deployment → Result Deployment Reason
setup_or d = if is_none (setup_fault d) then Ok d else Err reasons.Word

-- the line may stand where the parts so far are those of a setup
unfoldable pub begun_at : Deployment → List (List ℕ) → Result (Deployment × List (List ℕ)) Reason
begun_at d words = do
  begun ← fixed_at (codes "events") words
  setup ← setup_or d
  Ok (setup, begun.1)

-- a script for one node alone is for a node of the setup, or for the service, which has the number 0
abbrev pub has_place_for : Option ℕ → Deployment → Bool
has_place_for None d = true
has_place_for (Some only) d = nat_le only (length d.nodes)

unfoldable pub events_at : Option ℕ → Deployment → List (List ℕ) → HeadRead
events_at only d words = do
  begun ← begun_at d words
  end ← end_at begun.1
  if has_place_for only d then Ok (Some begun.0, record { place = places.Events; setup = d }) else Err reasons.Range

-- ---- any line of the header

-- a node may follow nodes; a configuration may follow a node or a configuration, as long as a shard is without one
unfoldable pub part_at : Option ℕ → Deployment → List (List ℕ) → HeadRead
part_at only d words =
    if (length d.configs == 0) && begins (codes "node") words then node_at d (after words)
    else if (not (length d.nodes == 0) && nat_lt (length d.configs) d.shards) && begins (codes "config") words then config_at d (after words)
    else events_at only d words

-- after the line `events` no line is one of the header
abbrev pub head_at : Option ℕ → Place → Deployment → List (List ℕ) → HeadRead
head_at only places.Version d words = version_at d words
head_at only places.Certifier d words = certifier_at d words
head_at only places.Shards d words = shards_at d words
head_at only places.Parts d words = part_at only d words
head_at only places.Events d words = Err reasons.Word
head_at only places.Ended d words = Err reasons.Word
