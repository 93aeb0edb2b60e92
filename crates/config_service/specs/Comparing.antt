-- What becomes of a configuration that is to be stored.
use Rattle.std.specs.Prelude.{ℕ, Bool, true, false, List, [], ◌∷◌, ◌++◌, Option, Some, None}
use Rattle.tcs_terms.specs.Places.{Membership}
use Rattle.protocol.specs.Service.{last_config, last_epoch, config_at, is_next}
use Rattle.config_service.specs.declared.comparing.CasAnswer.{CasAnswer}
use Rattle.config_service.specs.declared.comparing.CasAnswer.TheVariants.{Stored, Already, Ahead}

-- an epoch is stored once, and only the next one; told otherwise is the shard's last epoch
abbrev pub answer_by : Option Membership → Bool → ℕ → CasAnswer
answer_by (Some kept) next last = Already
answer_by None true last = Stored
answer_by None false last = Ahead last

abbrev pub configs_by : Option Membership → Bool → List Membership → Membership → List Membership
configs_by (Some kept) next configs c = configs
configs_by None true configs c = configs ++ c ∷ []
configs_by None false configs c = configs

abbrev pub cas_answer : List Membership → Membership → CasAnswer
cas_answer configs c = answer_by (config_at configs c.shard c.epoch) (is_next (last_config configs c.shard) c) (last_epoch configs c.shard)

-- and what is stored then
abbrev pub cas_configs : List Membership → Membership → List Membership
cas_configs configs c = configs_by (config_at configs c.shard c.epoch) (is_next (last_config configs c.shard) c) configs c
