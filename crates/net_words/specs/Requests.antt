-- What words ask for.
use Rattle.std.specs.Prelude.{◌≡◌, ◌≤◌, ◌++◌, ℕ, List, [], ◌∷◌, Option, Some, None}
use Rattle.std.specs.Prelude.{Result, MatchResult, codes, decimal, option_map, unwrap_or}
use Rattle.std.specs.Str.Parse.{digits_value, without_leading_plus}
use Rattle.clap.specs.Words.{App, Row, Text, fault_of, first_of, matches_of, one_of}
use Rattle.net_words.specs.Definition.{Lent, definition, mode_words}
use Rattle.net_words.specs.Modes.{mode_word}
use Rattle.net_words.specs.Refusals.{Refuses}
use Rattle.net_words.specs.declared.mode.Mode.{Mode}
use Rattle.net_words.specs.declared.refusal.Refusal.{Refusal}
use Rattle.net_words.specs.declared.refusal.Refusal.TheVariants.{OutOfMemory}
use Rattle.net_words.specs.declared.request.Request.{Request}

-- ---- the values of matches

-- the number that a text writes
abbrev pub number_in : Text → ℕ
number_in text = digits_value 10 (without_leading_plus text)

-- the number that an option has, and what it is where the option was left out
abbrev pub number_or : Option Text → ℕ → ℕ
number_or text otherwise = unwrap_or (option_map number_in text) otherwise

-- the request has the values of the matches, and the defaults for the options that were left out
pub record Holds (rows : List Row) (r : Request) : Type 0 where
  pub mode : first_of (codes "mode") rows ≡ Some (mode_word r.mode)
  pub id : r.id ≡ number_or (one_of (codes "id") rows) 0
  pub port : r.port ≡ number_or (one_of (codes "port") rows) 47000
  pub miss : r.miss ≡ number_or (one_of (codes "miss") rows) 100

pub record IsInRange (r : Request) : Type 0 where
  pub id : r.id ≤ 64
  pub port : (1024 ≤ r.port) × (r.port ≤ 65000)
  pub miss : (1 ≤ r.miss) × (r.miss ≤ 1000000)

-- ---- answers

-- the command takes the words, and the request has what they say
pub record Asks (command : App) (words : List Text) (r : Request) : Type 0 where
  pub taken : fault_of command words ≡ []
  pub values : Holds (matches_of command words) r
  pub ranges : IsInRange r

abbrev pub Answers : List Text → Result Request Refusal → Type 0
Answers words result = (modes : Lent mode_words) × MatchResult result
    (Asks (definition modes) words)
    (Refuses (fault_of (definition modes) words))

-- ---- words in plain form

-- a mode, and the numbers that are written
pub record Plain : Type 0 where
  pub mode : Mode
  pub id : Option ℕ
  pub port : Option ℕ
  pub miss : Option ℕ

abbrev pub option_words : Text → Option ℕ → List Text
option_words name None = []
option_words name (Some n) = name ∷ decimal n ∷ []

abbrev pub plain_words : Plain → List Text
plain_words p = mode_word p.mode ∷ (option_words (codes "--id") p.id
    ++ (option_words (codes "--port") p.port ++ option_words (codes "--miss") p.miss))

-- what these words ask for
abbrev pub plain_request : Plain → Request
plain_request p = record {
  mode = p.mode;
  id = unwrap_or p.id 0;
  port = unwrap_or p.port 47000;
  miss = unwrap_or p.miss 100;
}

-- words in plain form get what they ask for, unless memory runs out
abbrev pub TakesPlain : List Text → Result Request Refusal → Type 0
TakesPlain words result = (p : Plain) → IsInRange (plain_request p) → words ≡ plain_words p
    → MatchResult result (λ r. r ≡ plain_request p) (λ e. e ≡ OutOfMemory)
