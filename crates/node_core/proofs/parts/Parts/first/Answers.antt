use Rattle.std.proofs.Common.{◌≡◌, ◌∙◌, ap}
use Rattle.std.specs.Option.{option_copied}
use Rattle.protocol.specs.Views.{view_of}
use Rattle.protocol.specs.World.{first_node}
use Rattle.node_core.proofs.Beginning.{first_of_shard}
use Rattle.node_core.proofs.parts.Parts.first.Goals as goal

pub first-requires : goal.first-requires
first-requires g c =
    let found : option_copied c.config_of.result ≡ view_of c.args.configs.items c.args.shard = c.config_of.ensures ∙ ap (λ vs. view_of vs c.args.shard) c.deref.ensures.value in
    rw found (first_of_shard c.args.configs.items c.args.shard c.requires.first)

pub returns : goal.returns
unfolding first_node
returns g c =
    let found : option_copied c.config_of.result ≡ view_of c.args.configs.items c.args.shard = c.config_of.ensures ∙ ap (λ vs. view_of vs c.args.shard) c.deref.ensures.value in
    rw (c.new.ensures.kept, c.new-2.ensures, c.new-3.ensures.empty, ← found) (c.in_ok-replica.ensures.node c.args.configs.items)
