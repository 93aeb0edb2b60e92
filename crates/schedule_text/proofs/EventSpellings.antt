-- The words of an event are read as it.
use Rattle.std.proofs.Common.{◌≡◌, ℕ, zero, suc, ◌-◌, ◌^◌, ◌<◌, ◌≤◌, Bool, true, false, List, [], ◌∷◌, length, map, All, Option, Ok, refl, arith, decimal}
use Rattle.std.specs.Prelude.{nat_le, ◌==◌, ◌&&◌, ◌||◌}
use Rattle.std.specs.List.{list_all}
use Rattle.std.proofs.lemmas.Bool.{eqb-true}
use Rattle.std.proofs.lemmas.Bool.Decides.{nat_tests}
use Rattle.std.proofs.lemmas.List.{nil_from_length}
use Rattle.tcs_terms.specs.declared.inputs.Input.{Input}
use Rattle.tcs_terms.specs.declared.inputs.Input.TheVariants as inputs
use Rattle.tcs_terms.specs.declared.inputs.Event.{Event}
use Rattle.tcs_terms.specs.declared.inputs.Event.TheVariants as events
use Rattle.tcs_terms.specs.declared.limits.TheConstants.{MAX_WANTED}
use Rattle.tcs_terms.specs.Events.{has_shard, input_fits, event_fits}
use Rattle.tcs_terms.specs.Order.{ascends}
use Rattle.tcs_terms.specs.Payloads.{Accesses}
use Rattle.text_words.specs.PayloadWords.{FitsVersion}
use Rattle.tcs_terms.specs.Setups.{Deployment, has_node, is_node_of}
use Rattle.tcs_terms.proofs.BoolLaws.{left_of, right_of}
use Rattle.text_words.proofs.PayloadReadings.{payload_words, payload_again}
use Rattle.schedule_text.specs.declared.verbs.CallVerb.{CallVerb}
use Rattle.schedule_text.specs.declared.verbs.CallVerb.TheVariants as calls
use Rattle.schedule_text.specs.declared.verbs.Verb.{Verb}
use Rattle.schedule_text.specs.declared.verbs.Verb.TheVariants as verbs
use Rattle.text_words.specs.Texts.{txn_text}
use Rattle.tcs_terms.specs.Runs.{IsInput, IsEvent}
use Rattle.schedule_text.specs.Events.{alone_at, certify_at, take_at, move_at, read_at, ask_at, input_at, call_at, delivery_at, stop_at, event_at, names_only}
use Rattle.schedule_text.proofs.NameReadings.{name_at_again}
use Rattle.schedule_text.proofs.EventReadings.{call_word, verb_word, ascend_from_zero}
use Rattle.schedule_text.proofs.LineWords.{call_words, event_words, IsSpellable, IsSpellableEvent}
use Rattle.schedule_text.proofs.NumberReadings.{between_again, caller_again}
use Rattle.schedule_text.proofs.NodeReadings.{nodes_again, small_node}
use Rattle.schedule_text.proofs.TxnReadings.{small_txn, txn_again}

-- the numbers of the setup are small
pub record Small (d : Deployment) : Type 0 where
  pub nodes : length d.nodes < 2 ^ 64
  pub shards : d.shards < 2 ^ 64

-- ---- what fits can be spelled

small_shard : (d : Deployment) (s : ℕ) → d.shards < 2 ^ 64 → has_shard d s ≡ true → s < 2 ^ 64
small_shard d s few has = grind (arith, nat_tests)

pub small_nodes : (nodes : List ℕ) (shard : ℕ) (ns : List ℕ) → length nodes < 2 ^ 64 → list_all (is_node_of nodes shard) ns ≡ true → All (λ n. n < 2 ^ 64) ns
small_nodes nodes shard [] few each k d lt = absurd (omega arith)
small_nodes nodes shard (n ∷ ns) few each zero d lt =
    small_node nodes n few (left_of (has_node nodes n) _ (left_of (is_node_of nodes shard n) (list_all (is_node_of nodes shard) ns) each))
small_nodes nodes shard (n ∷ ns) few each (suc k) d lt = small_nodes nodes shard ns few (right_of (is_node_of nodes shard n) (list_all (is_node_of nodes shard) ns) each) k d (omega arith)

pub record MoveFits (d : Deployment) (shard : ℕ) (want : List ℕ) : Type 0 where
  pub has : has_shard d shard ≡ true
  pub few : nat_le (length want) MAX_WANTED ≡ true
  pub ascend : ascends want ≡ true
  pub each : list_all (is_node_of d.nodes shard) want ≡ true

pub move_fits : (d : Deployment) (shard : ℕ) (want : List ℕ) → input_fits d (inputs.Move shard want) ≡ true → MoveFits d shard want
move_fits d shard want h =
    let a = left_of (has_shard d shard && nat_le (length want) MAX_WANTED && ascends want) (list_all (is_node_of d.nodes shard) want) h in
    let b = left_of (has_shard d shard && nat_le (length want) MAX_WANTED) (ascends want) a in
    record {
      has = left_of (has_shard d shard) (nat_le (length want) MAX_WANTED) b;
      few = right_of (has_shard d shard) (nat_le (length want) MAX_WANTED) b;
      ascend = right_of (has_shard d shard && nat_le (length want) MAX_WANTED) (ascends want) a;
      each = right_of (has_shard d shard && nat_le (length want) MAX_WANTED && ascends want) (list_all (is_node_of d.nodes shard) want) h;
    }

spellable_input : (d : Deployment) (i : Input) → Small d → IsInput i → input_fits d i ≡ true → IsSpellable i
spellable_input d (inputs.Certify p) small is h = is
spellable_input d (inputs.Take txn) small is h = small_txn d.nodes txn small.nodes h
spellable_input d inputs.Nudge small is h = tt
spellable_input d (inputs.Move shard want) small is h =
    let m = move_fits d shard want h in
    (small_shard d shard small.shards m.has, small_nodes d.nodes shard want small.nodes m.each)
spellable_input d inputs.Lower small is h = tt
spellable_input d (inputs.ReadName name) small is h = is
spellable_input d (inputs.Ask shard) small is h = small_shard d shard small.shards h
spellable_input d (inputs.Deliver from message) small is h = tt

pub spellable : (d : Deployment) (e : Event) → Small d → IsEvent e → event_fits d e ≡ true → IsSpellableEvent e
spellable d (events.Call node i) small is h =
    (small_node d.nodes node small.nodes (left_of (has_node d.nodes node) (input_fits d i) h), spellable_input d i small is (right_of (has_node d.nodes node) (input_fits d i) h))
spellable d (events.DeliverNumber m) small is h = omega arith
spellable d (events.Stop node) small is h = small_node d.nodes node small.nodes h

-- ---- calls

record InputAgain (d : Deployment) (i : Input) : Type 0 where
  verb : CallVerb
  rest : List (List ℕ)
  spelled : (node : ℕ) → call_words node i ≡ call_word verb ∷ decimal node ∷ rest
  read : input_at d verb rest ≡ Ok i

version_fits : (d : Deployment) (p : Accesses) → ((length p.ranges == 0) || (d.version == 2)) ≡ true → FitsVersion d.version p
version_fits d p h one = go (length p.ranges == 0) refl h where
  go : (b : Bool) → (length p.ranges == 0) ≡ b → (b || (d.version == 2)) ≡ true → p.ranges ≡ []
  go true e k = nil_from_length p.ranges (eqb-true _ _ e)
  go false e k = let two = eqb-true d.version 2 k in absurd (omega (arith, one, two))

certify_again : (d : Deployment) (p : Accesses) → IsInput (inputs.Certify p) → input_fits d (inputs.Certify p) ≡ true → certify_at d (payload_words p) ≡ Ok (inputs.Certify p)
unfolding certify_at
certify_again d p is h = rw (payload_again d.version p is (version_fits d p h)) refl

input_again : (d : Deployment) (i : Input) → Small d → IsInput i → input_fits d i ≡ true → InputAgain d i
unfolding alone_at take_at move_at read_at ask_at
input_again d (inputs.Certify p) small is h = record { verb = calls.Certify; rest = payload_words p; spelled = λ node. refl; read = certify_again d p is h }
input_again d (inputs.Take txn) small is h =
    record { verb = calls.Take; rest = txn_text txn ∷ []; spelled = λ node. refl; read = rw (txn_again d.nodes txn [] small.nodes h) refl }
input_again d inputs.Nudge small is h = record { verb = calls.Nudge; rest = []; spelled = λ node. refl; read = refl }
input_again d (inputs.Move shard want) small is h =
    let m = move_fits d shard want h in
    let has = m.has in
    let few = m.few in
    let low : 1 ≤ shard = grind (arith, nat_tests) in
    let high : shard ≤ d.shards = grind (arith, nat_tests) in
    let room : length want ≤ MAX_WANTED = grind (arith, nat_tests) in
    let read_shard = between_again 1 d.shards shard (map decimal want) (small_shard d shard small.shards m.has) low high in
    let read_want = nodes_again d.nodes shard MAX_WANTED 0 want small.nodes room m.each (ascend_from_zero d.nodes shard want m.each m.ascend) in
    record { verb = calls.Move; rest = decimal shard ∷ map decimal want; spelled = λ node. refl; read = rw (read_shard, read_want) refl }
input_again d inputs.Lower small is h = record { verb = calls.Lower; rest = []; spelled = λ node. refl; read = refl }
input_again d (inputs.ReadName name) small is h = record { verb = calls.Read; rest = name ∷ []; spelled = λ node. refl; read = rw (name_at_again name [] is) refl }
input_again d (inputs.Ask shard) small is h =
    let low : 1 ≤ shard = grind (arith, nat_tests) in
    let high : shard ≤ d.shards = grind (arith, nat_tests) in
    let read_shard = between_again 1 d.shards shard [] (small_shard d shard small.shards h) low high in
    record { verb = calls.Ask; rest = decimal shard ∷ []; spelled = λ node. refl; read = rw read_shard refl }
input_again d (inputs.Deliver from message) small is h = absurd cc

-- ---- events

pub record EventAgain (only : Option ℕ) (d : Deployment) (e : Event) : Type 0 where
  pub verb : Verb
  pub rest : List (List ℕ)
  pub spelled : event_words e ≡ verb_word verb ∷ rest
  pub read : event_at only d verb rest ≡ Ok e

pub event_again : (only : Option ℕ) (d : Deployment) (e : Event) → Small d → IsEvent e → event_fits d e ≡ true → names_only only e ≡ true → EventAgain only d e
unfolding call_at delivery_at stop_at
event_again only d (events.Call node i) small is h mine =
    let has = left_of (has_node d.nodes node) (input_fits d i) h in
    let a = input_again d i small is (right_of (has_node d.nodes node) (input_fits d i) h) in
    let read_node = caller_again only d.nodes node a.rest (small_node d.nodes node small.nodes has) has mine in
    record { verb = verbs.Call a.verb; rest = decimal node ∷ a.rest; spelled = a.spelled node; read = rw (read_node, a.read) refl }
event_again only d (events.DeliverNumber m) small is h mine =
    let low : 1 ≤ m = grind (arith, nat_tests) in
    let high : m ≤ 2 ^ 32 - 1 = omega (arith, is) in
    let read_number = between_again 1 (2 ^ 32 - 1) m [] (omega (arith, is)) low high in
    record { verb = verbs.Deliver; rest = decimal m ∷ []; spelled = refl; read = rw read_number refl }
event_again only d (events.Stop node) small is h mine =
    let read_node = caller_again only d.nodes node [] (small_node d.nodes node small.nodes h) h mine in
    record { verb = verbs.Stop; rest = decimal node ∷ []; spelled = refl; read = rw read_node refl }
