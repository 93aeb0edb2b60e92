-- The words that name modes.
use Rattle.std.specs.Prelude.{List, ℕ, Option, Some, None, codes, if◌then◌else◌}
use Rattle.std.specs.Str.{bytes_eq}
use Rattle.net_words.specs.declared.mode.Mode.{Mode}
use Rattle.net_words.specs.declared.mode.Mode.TheVariants.{Cluster, Node, Guard}

abbrev pub mode_word : Mode → List ℕ
mode_word Cluster = codes "cluster"
mode_word Node = codes "node"
mode_word Guard = codes "guard"

-- the mode that a word names
abbrev pub mode_in : List ℕ → Option Mode
mode_in word =
    if bytes_eq word (codes "cluster") then Some Cluster
    else if bytes_eq word (codes "node") then Some Node
    else if bytes_eq word (codes "guard") then Some Guard
    else None
