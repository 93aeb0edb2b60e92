-- How the words of a line are read, from left to right: each reading gives a value and the words after it, or the
-- reason why the first word that does not fit does not.
use Rattle.std.specs.Prelude.{◌≡◌, ℕ, zero, suc, ◌+◌, Bool, true, ◌&&◌, ◌==◌, nat_le, nat_lt, if◌then◌else◌, List, [], ◌∷◌, length, position, take, drop, Option, Some, None, Result, Ok, Err}
use Rattle.tcs_terms.specs.declared.ids.TxId.{TxId}
use Rattle.tcs_terms.specs.declared.limits.TheConstants.{MAX_SEQUENCE}
use Rattle.text_words.specs.declared.words.Reason.{Reason}
use Rattle.text_words.specs.declared.words.Reason.TheVariants as reasons
use Rattle.text_words.specs.declared.words.Stop.{Stop}
use Rattle.text_words.specs.declared.words.Stop.TheVariants as stops
use Rattle.text_words.specs.PayloadWords.{Misfit, ◌>>=◌, is_numeral, number_in, fixed_word, all_read, number_word, name_word, payload_at}
use Rattle.tcs_terms.specs.Payloads.{Accesses}
use Rattle.tcs_terms.specs.Setups.{has_node, is_node_of}
use Rattle.schedule_text.specs.declared.faults.LineFault.{LineFault}
use Rattle.schedule_text.specs.declared.faults.LineFault.TheVariants as faults

-- a reading by the words of a payload, where it is of interest only why the first word does not fit
abbrev pub reasoned : {A : Type 0} → Result A Misfit → Result A Reason
reasoned (Ok x) = Ok x
reasoned (Err m) = Err m.reason

-- ---- one word

-- a word that is fixed
abbrev pub fixed_at : List ℕ → List (List ℕ) → Result (Unit {0} × List (List ℕ)) Reason
fixed_at word words = reasoned (fixed_word word words)

-- no word may be left over
abbrev pub end_at : List (List ℕ) → Result (Unit {0} × List (List ℕ)) Reason
end_at words = reasoned (all_read words)

-- a number
abbrev pub number_at : List (List ℕ) → Result (ℕ × List (List ℕ)) Reason
number_at words = reasoned (number_word words)

-- a number from the first to the last one
unfoldable pub between_at : ℕ → ℕ → List (List ℕ) → Result (ℕ × List (List ℕ)) Reason
between_at first last words = do
  n ← number_at words
  if nat_le first n.0 && nat_le n.0 last then Ok n else Err reasons.Range

-- whether a line may be of a node: the lines of some scripts are for one node alone
abbrev pub is_for : Option ℕ → ℕ → Bool
is_for None node = true
is_for (Some only) node = node == only

-- the node that a line is for
unfoldable pub caller_at : Option ℕ → List ℕ → List (List ℕ) → Result (ℕ × List (List ℕ)) Reason
caller_at only nodes words = do
  n ← number_at words
  if has_node nodes n.0 && is_for only n.0 then Ok n else Err reasons.Range

-- a node of the shard
unfoldable pub node_of_at : List ℕ → ℕ → List (List ℕ) → Result (ℕ × List (List ℕ)) Reason
node_of_at nodes shard words = do
  n ← number_at words
  if is_node_of nodes shard n.0 then Ok n else Err reasons.Range

-- a name
abbrev pub name_at : List (List ℕ) → Result (List ℕ × List (List ℕ)) Reason
name_at words = reasoned (name_word [] words)

-- a payload, which is all that is left
abbrev pub payload_words_at : ℕ → List (List ℕ) → Result Accesses Reason
payload_words_at version words = reasoned (payload_at version words)

-- ---- a transaction

-- a node of the setup as home, and a number from 1 to 1,000,000
abbrev pub txn_numbers : List ℕ → Option ℕ → Option ℕ → Result TxId Reason
txn_numbers nodes None seq = Err reasons.Number
txn_numbers nodes (Some home) None = Err reasons.Number
txn_numbers nodes (Some home) (Some seq) =
    if has_node nodes home && (nat_le 1 seq && nat_le seq MAX_SEQUENCE) then Ok (record { home = home; seq = seq }) else Err reasons.Range

-- two words that have the form of numbers
abbrev pub txn_parts : List ℕ → (home seq : List ℕ) → Result TxId Reason
txn_parts nodes home seq = if is_numeral home && is_numeral seq then txn_numbers nodes (number_in home) (number_in seq) else Err reasons.Word

-- what stands before and after the first dot
abbrev pub txn_in : List ℕ → List ℕ → Option ℕ → Result TxId Reason
txn_in nodes word None = Err reasons.Word
txn_in nodes word (Some dot) = txn_parts nodes (take dot word) (drop (dot + 1) word)

-- a transaction
unfoldable pub txn_at : List ℕ → List (List ℕ) → Result (TxId × List (List ℕ)) Reason
txn_at nodes [] = Err reasons.Word
txn_at nodes (w ∷ ws) = do
  txn ← txn_in nodes w (position (λ b. b == 46) w)
  Ok (txn, ws)

-- ---- nodes of a shard

-- a node of the shard, above the last one
unfoldable pub next_node_at : List ℕ → ℕ → ℕ → List (List ℕ) → Result (ℕ × List (List ℕ)) Reason
next_node_at nodes shard last words = do
  n ← node_of_at nodes shard words
  if nat_lt last n.0 then Ok n else Err reasons.Order

-- one node too many, unless its word is missing
abbrev pub no_room : List (List ℕ) → Result (List ℕ) Reason
no_room [] = Ok []
no_room (w ∷ ws) = if length w == 0 then Err reasons.Word else Err reasons.Many

-- ascending nodes of the shard, above the last one, as all the words that are left; there is room for so many
unfoldable pub nodes_at : List ℕ → ℕ → ℕ → ℕ → List (List ℕ) → Result (List ℕ) Reason
nodes_at nodes shard zero last words = no_room words
nodes_at nodes shard (suc room) last words =
    if length words == 0 then Ok []
    else (next_node_at nodes shard last words >>= λ n. nodes_at nodes shard room n.0 n.1 >>= λ others. Ok (n.0 ∷ others))

-- ---- what the code answers

-- the fault of a line, where a word does not fit
abbrev pub line_fault : Stop → LineFault
line_fault stops.OutOfMemory = faults.OutOfMemory
line_fault (stops.Misfit left reason) = faults.Bad reason

-- a reader's error is the reason, unless memory ran out
abbrev pub Fails : {Y : Type 0} → LineFault → Result Y Reason → Type 0
Fails faults.OutOfMemory read = Unit {0}
Fails (faults.Bad reason) read = read ≡ Err reason

-- a reader's answer, seen by view, and what it leaves are what reading gives, unless memory ran out
abbrev pub Tells : {X Y Z : Type 0} → (X → Y) → Result X LineFault → Z → Result (Y × Z) Reason → Type 0
Tells view (Ok x) left read = read ≡ Ok (view x, left)
Tells view (Err fault) left read = Fails fault read

-- the same of a reader that leaves nothing
abbrev pub Gives : {X Y : Type 0} → (X → Y) → Result X LineFault → Result Y Reason → Type 0
Gives view (Ok x) read = read ≡ Ok (view x)
Gives view (Err fault) read = Fails fault read
