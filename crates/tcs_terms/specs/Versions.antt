-- The versions of the protocol and their numbers.
use Rattle.std.specs.Prelude.{ℕ, ◌==◌, if◌then◌else◌, Option, Some, None}
use Rattle.tcs_terms.specs.declared.versions.Version.{Version}
use Rattle.tcs_terms.specs.declared.versions.Version.TheVariants.{One, Two}

-- the number of a version
abbrev pub version_number : Version → ℕ
version_number One = 1
version_number Two = 2

-- the version of a number
abbrev pub version_numbered : ℕ → Option Version
version_numbered number = if number == 1 then Some One else if number == 2 then Some Two else None
