-- Who sent a datagram, by the port that it came from.
use Rattle.std.specs.Prelude.{ℕ, ◌-◌, ◌&&◌, nat_le, if◌then◌else◌}
use Rattle.tcs_terms.specs.declared.limits.TheConstants.{MAX_NODES}

-- the node of a port, where that of node 0 is the base; 255 where it is the port of no node
abbrev pub node_at : ℕ → ℕ → ℕ
node_at base port = if nat_le base port && nat_le (port - base) MAX_NODES then port - base else 255
