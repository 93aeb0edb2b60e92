-- The words of each line.
use Rattle.std.proofs.Common.{◌≡◌, ℕ, ◌^◌, ◌<◌, List, [], ◌∷◌, ◌++◌, map, All, refl, ◌∙◌, ap, arith, codes, decimal}
use Rattle.tcs_terms.specs.declared.inputs.Input.{Input}
use Rattle.tcs_terms.specs.declared.inputs.Input.TheVariants.{Certify, Take, Nudge, Move, Lower, ReadName, Ask, Deliver}
use Rattle.tcs_terms.specs.declared.inputs.Event.{Event}
use Rattle.tcs_terms.specs.declared.inputs.Event.TheVariants.{Call, DeliverNumber, Stop}
use Rattle.tcs_terms.specs.declared.setups.Rule.{Rule}
use Rattle.tcs_terms.specs.declared.setups.Rule.TheVariants as rules
use Rattle.tcs_terms.specs.Objects.{IsName}
use Rattle.tcs_terms.specs.Payloads.{IsPayload}
use Rattle.text_words.specs.PayloadText.{payload_text}
use Rattle.tcs_terms.specs.Places.{Membership}
use Rattle.text_words.specs.Words.{words_of}
use Rattle.text_words.proofs.PayloadReadings.{payload_words}
use Rattle.text_words.proofs.PayloadSpelling.{words_of_payload}
use Rattle.text_words.specs.Texts.{txn_text}
use Rattle.tcs_terms.specs.Rules.{rule_text}
use Rattle.schedule_text.specs.Text.{numbers_text, version_line, certifier_line, shards_line, node_line, config_line, call_line, event_line}
use Rattle.schedule_text.proofs.Spaces.{Free, free_decimal, free_name, free_append, words_then, word_alone, words_of_numbers}

-- a word, and one number
pub word_and_number : (w : List ℕ) (n : ℕ) → Free 32 w → n < 2 ^ 64 → words_of (w ++ 32 ∷ decimal n) ≡ w ∷ decimal n ∷ []
word_and_number w n free small = words_then w (decimal n) free ∙ ap (λ (ws : List (List ℕ)). w ∷ ws) (word_alone (decimal n) (free_decimal 32 n (omega arith) small))

-- a word, a number, and what comes after
pub word_number_then : (w : List ℕ) (n : ℕ) (rest : List ℕ) → Free 32 w → n < 2 ^ 64 → words_of (w ++ 32 ∷ (decimal n ++ 32 ∷ rest)) ≡ w ∷ decimal n ∷ words_of rest
word_number_then w n rest free small =
    words_then w (decimal n ++ 32 ∷ rest) free ∙ ap (λ (ws : List (List ℕ)). w ∷ ws) (words_then (decimal n) rest (free_decimal 32 n (omega arith) small))

-- a word, two numbers, and then numbers
pub words_of_listed : (w : List ℕ) (m n : ℕ) (ns : List ℕ) → Free 32 w → m < 2 ^ 64 → n < 2 ^ 64 → All (λ k. k < 2 ^ 64) ns
    → words_of (w ++ 32 ∷ (decimal m ++ (32 ∷ (decimal n ++ numbers_text ns)))) ≡ w ∷ decimal m ∷ decimal n ∷ map decimal ns
words_of_listed w m n ns free small less each =
    word_number_then w m (decimal n ++ numbers_text ns) free small
    ∙ ap (λ (ws : List (List ℕ)). w ∷ decimal m ∷ ws) (words_of_numbers (decimal n) ns (free_decimal 32 n (omega arith) less) each)

-- ---- the header

pub words_of_version : (n : ℕ) → n < 2 ^ 64 → words_of (version_line n) ≡ codes "tcs" ∷ decimal n ∷ []
words_of_version n small = word_and_number (codes "tcs") n refl small

pub words_of_certifier : (r : Rule) → words_of (certifier_line r) ≡ codes "certifier" ∷ rule_text r ∷ []
words_of_certifier rules.Serial = refl
words_of_certifier rules.Snapshot = refl
words_of_certifier rules.Commute = refl

pub words_of_shards : (n : ℕ) → n < 2 ^ 64 → words_of (shards_line n) ≡ codes "shards" ∷ decimal n ∷ []
words_of_shards n small = word_and_number (codes "shards") n refl small

pub words_of_node : (n s : ℕ) → n < 2 ^ 64 → s < 2 ^ 64 → words_of (node_line n s) ≡ codes "node" ∷ decimal n ∷ decimal s ∷ []
words_of_node n s small less =
    word_number_then (codes "node") n (decimal s) refl small
    ∙ ap (λ (ws : List (List ℕ)). codes "node" ∷ decimal n ∷ ws) (word_alone (decimal s) (free_decimal 32 s (omega arith) less))

pub words_of_config : (c : Membership) → c.shard < 2 ^ 64 → c.leader < 2 ^ 64 → All (λ n. n < 2 ^ 64) c.members
    → words_of (config_line c) ≡ codes "config" ∷ decimal c.shard ∷ decimal c.leader ∷ map decimal c.members
words_of_config c shard leader members =
    words_of_listed (codes "config") c.shard c.leader c.members refl shard leader members

-- ---- events

-- the words of a call
abbrev pub call_words : ℕ → Input → List (List ℕ)
call_words node (Certify payload) = codes "certify" ∷ decimal node ∷ payload_words payload
call_words node (Take txn) = codes "take" ∷ decimal node ∷ txn_text txn ∷ []
call_words node Nudge = codes "nudge" ∷ decimal node ∷ []
call_words node (Move shard want) = codes "move" ∷ decimal node ∷ decimal shard ∷ map decimal want
call_words node Lower = codes "lower" ∷ decimal node ∷ []
call_words node (ReadName name) = codes "read" ∷ decimal node ∷ name ∷ []
call_words node (Ask shard) = codes "ask" ∷ decimal node ∷ decimal shard ∷ []
call_words node (Deliver from message) = [] ∷ []

abbrev pub event_words : Event → List (List ℕ)
event_words (Call node input) = call_words node input
event_words (DeliverNumber number) = codes "deliver" ∷ decimal number ∷ []
event_words (Stop node) = codes "stop" ∷ decimal node ∷ []

-- numbers that are printed are below 2 ^ 64, and the rest is well formed
abbrev pub IsSpellable : Input → Type 0
IsSpellable (Certify payload) = IsPayload payload
IsSpellable (Take txn) = (txn.home < 2 ^ 64) × (txn.seq < 2 ^ 64)
IsSpellable Nudge = Unit {0}
IsSpellable (Move shard want) = (shard < 2 ^ 64) × All (λ n. n < 2 ^ 64) want
IsSpellable Lower = Unit {0}
IsSpellable (ReadName name) = IsName name
IsSpellable (Ask shard) = shard < 2 ^ 64
IsSpellable (Deliver from message) = Unit {0}

abbrev pub IsSpellableEvent : Event → Type 0
IsSpellableEvent (Call node input) = (node < 2 ^ 64) × IsSpellable input
IsSpellableEvent (DeliverNumber number) = number < 2 ^ 64
IsSpellableEvent (Stop node) = node < 2 ^ 64

pub words_of_call : (node : ℕ) (input : Input) → node < 2 ^ 64 → IsSpellable input → words_of (call_line node input) ≡ call_words node input
unfolding call_line
words_of_call node (Certify payload) small h =
    word_number_then (codes "certify") node (payload_text payload) refl small ∙ ap (λ (ws : List (List ℕ)). codes "certify" ∷ decimal node ∷ ws) (words_of_payload payload h)
words_of_call node (Take txn) small h =
    let free = free_append 32 (decimal txn.home) (46 ∷ decimal txn.seq) (free_decimal 32 txn.home (omega arith) h.0) (free_decimal 32 txn.seq (omega arith) h.1) in
    word_number_then (codes "take") node (txn_text txn) refl small ∙ ap (λ (ws : List (List ℕ)). codes "take" ∷ decimal node ∷ ws) (word_alone (txn_text txn) free)
words_of_call node Nudge small h = word_and_number (codes "nudge") node refl small
words_of_call node (Move shard want) small h = words_of_listed (codes "move") node shard want refl small h.0 h.1
words_of_call node Lower small h = word_and_number (codes "lower") node refl small
words_of_call node (ReadName name) small h =
    word_number_then (codes "read") node name refl small ∙ ap (λ (ws : List (List ℕ)). codes "read" ∷ decimal node ∷ ws) (word_alone name (free_name 32 name (omega arith) h))
words_of_call node (Ask shard) small h =
    word_number_then (codes "ask") node (decimal shard) refl small
    ∙ ap (λ (ws : List (List ℕ)). codes "ask" ∷ decimal node ∷ ws) (word_alone (decimal shard) (free_decimal 32 shard (omega arith) h))
words_of_call node (Deliver from message) small h = refl

pub words_of_event : (e : Event) → IsSpellableEvent e → words_of (event_line e) ≡ event_words e
words_of_event (Call node input) h = words_of_call node input h.0 h.1
words_of_event (DeliverNumber number) h = word_and_number (codes "deliver") number refl h
words_of_event (Stop node) h = word_and_number (codes "stop") node refl h
