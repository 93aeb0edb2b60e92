-- The word of each rule.
use Rattle.std.specs.Prelude.{ℕ, List, if◌then◌else◌, codes, Option, Some, None}
use Rattle.tcs_terms.specs.declared.setups.Rule.{Rule}
use Rattle.tcs_terms.specs.declared.setups.Rule.TheVariants as rules
use Rattle.tcs_terms.specs.Payloads.{same_name}

-- the word of a rule
abbrev pub rule_text : Rule → List ℕ
rule_text rules.Serial = codes "serial"
rule_text rules.Snapshot = codes "snapshot"
rule_text rules.Commute = codes "commute"

-- the rule that a word names
unfoldable pub rule_in : List ℕ → Option Rule
rule_in word =
    if same_name word (codes "serial") then Some rules.Serial
    else if same_name word (codes "snapshot") then Some rules.Snapshot
    else if same_name word (codes "commute") then Some rules.Commute
    else None
