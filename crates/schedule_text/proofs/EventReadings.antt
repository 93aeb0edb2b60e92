-- The line of an event is read as it, and a line that is read as an event is its line.
use Rattle.std.proofs.Common.{◌≡◌, inl, inr, ℕ, ◌-◌, ◌^◌, Bool, true, false, List, [], ◌∷◌, length, Option, Some, None, Ok, refl, ◌∙◌, ap, subst, arith, codes, decimal}
use Rattle.std.specs.Prelude.{nat_le, nat_lt, ◌==◌, ◌&&◌, ◌||◌}
use Rattle.std.specs.List.{list_all}
use Rattle.std.proofs.lemmas.Bool.{eqb-true}
use Rattle.std.proofs.lemmas.Bool.Decides.{nat_tests}
use Rattle.tcs_terms.specs.declared.inputs.Input.{Input}
use Rattle.tcs_terms.specs.declared.inputs.Input.TheVariants as inputs
use Rattle.tcs_terms.specs.declared.inputs.Event.{Event}
use Rattle.tcs_terms.specs.declared.inputs.Event.TheVariants as events
use Rattle.tcs_terms.specs.declared.limits.TheConstants.{MAX_WANTED}
use Rattle.tcs_terms.specs.Events.{has_shard, input_fits, event_fits}
use Rattle.tcs_terms.specs.Order.{ascends}
use Rattle.tcs_terms.specs.Payloads.{Accesses, same_name}
use Rattle.text_words.specs.PayloadWords.{payload_at, FitsVersion, name_word}
use Rattle.tcs_terms.specs.Setups.{Deployment, has_node, is_node_of}
use Rattle.tcs_terms.proofs.BoolLaws.{both, left_of, right_of}
use Rattle.text_words.proofs.PayloadReadings.{payload_takes}
use Rattle.text_words.proofs.WordReadings.{name_takes}
use Rattle.tcs_terms.proofs.RuleReadings.{named}
use Rattle.schedule_text.specs.declared.verbs.CallVerb.{CallVerb}
use Rattle.schedule_text.specs.declared.verbs.CallVerb.TheVariants as calls
use Rattle.schedule_text.specs.declared.verbs.Verb.{Verb}
use Rattle.schedule_text.specs.declared.verbs.Verb.TheVariants as verbs
use Rattle.text_words.specs.Texts.{txn_text}
use Rattle.tcs_terms.specs.Runs.{IsInput, IsEvent}
use Rattle.schedule_text.specs.Words.{is_for, end_at, between_at, caller_at, name_at, payload_words_at, txn_at, nodes_at}
use Rattle.schedule_text.specs.Events.{call_verb, verb_or, verb_of, alone_at, certify_at, take_at, move_at, read_at, ask_at, input_at, call_at, delivery_at, stop_at, event_at, names_only}
use Rattle.schedule_text.proofs.LineWords.{call_words, event_words}
use Rattle.schedule_text.proofs.Steps.{reasoned_ok}
use Rattle.text_words.proofs.Steps.{bind_ok, ok_is}
use Rattle.schedule_text.proofs.NumberReadings.{end_takes, between_takes, caller_takes}
use Rattle.schedule_text.proofs.NodeReadings.{nodes_take}
use Rattle.schedule_text.proofs.TxnReadings.{txn_takes}

-- ---- first words

abbrev pub call_word : CallVerb → List ℕ
call_word calls.Certify = codes "certify"
call_word calls.Take = codes "take"
call_word calls.Nudge = codes "nudge"
call_word calls.Move = codes "move"
call_word calls.Lower = codes "lower"
call_word calls.Read = codes "read"
call_word calls.Ask = codes "ask"

abbrev pub verb_word : Verb → List ℕ
verb_word (verbs.Call call) = call_word call
verb_word verbs.Deliver = codes "deliver"
verb_word verbs.Stop = codes "stop"

pub some_is : {A : Type 0} (x y : A) → Some x ≡ Some y → x ≡ y
some_is x y e = cc

is_call : (w : List ℕ) (c d : CallVerb) → (w ≡ call_word c) × (c ≡ d) → w ≡ call_word d
is_call w c d (e, same) = e ∙ ap call_word same

call_named : (w : List ℕ) (c : CallVerb) → call_verb w ≡ Some c → w ≡ call_word c
call_named w c h = elim (named (same_name w (codes "certify")) w _ calls.Certify c _ refl h) [
  | inl p ↦ is_call w calls.Certify c p
  | inr h ↦ elim (named (same_name w (codes "take")) w _ calls.Take c _ refl h) [
    | inl p ↦ is_call w calls.Take c p
    | inr h ↦ elim (named (same_name w (codes "nudge")) w _ calls.Nudge c _ refl h) [
      | inl p ↦ is_call w calls.Nudge c p
      | inr h ↦ elim (named (same_name w (codes "move")) w _ calls.Move c _ refl h) [
        | inl p ↦ is_call w calls.Move c p
        | inr h ↦ elim (named (same_name w (codes "lower")) w _ calls.Lower c _ refl h) [
          | inl p ↦ is_call w calls.Lower c p
          | inr h ↦ elim (named (same_name w (codes "read")) w _ calls.Read c _ refl h) [
            | inl p ↦ is_call w calls.Read c p
            | inr h ↦ elim (named (same_name w (codes "ask")) w _ calls.Ask c None refl h) [
              | inl p ↦ is_call w calls.Ask c p
              | inr h ↦ absurd cc
            ]
          ]
        ]
      ]
    ]
  ]
]

or_named : (w : List ℕ) (c : Option CallVerb) (v : Verb) → call_verb w ≡ c → verb_or c ≡ Some v → w ≡ verb_word v
or_named w (Some c) v e h = call_named w c e ∙ ap verb_word (some_is (verbs.Call c) v h)
or_named w None v e h = absurd cc

-- a first word that names a kind of event is the word of that kind
pub verb_named : (w : List ℕ) (v : Verb) → verb_of w ≡ Some v → w ≡ verb_word v
verb_named w v h = elim (named (same_name w (codes "deliver")) w _ verbs.Deliver v _ refl h) [
  | inl p ↦ p.0 ∙ ap verb_word p.1
  | inr h ↦ elim (named (same_name w (codes "stop")) w _ verbs.Stop v _ refl h) [
    | inl p ↦ p.0 ∙ ap verb_word p.1
    | inr h ↦ or_named w (call_verb w) v refl h
  ]
]

pub names_verb : (v : Verb) → verb_of (verb_word v) ≡ Some v
names_verb (verbs.Call calls.Certify) = refl
names_verb (verbs.Call calls.Take) = refl
names_verb (verbs.Call calls.Nudge) = refl
names_verb (verbs.Call calls.Move) = refl
names_verb (verbs.Call calls.Lower) = refl
names_verb (verbs.Call calls.Read) = refl
names_verb (verbs.Call calls.Ask) = refl
names_verb verbs.Deliver = refl
names_verb verbs.Stop = refl

-- ---- calls that are read

pub record InputTaken (d : Deployment) (v : CallVerb) (words : List (List ℕ)) (i : Input) : Type 0 where
  pub spelled : (node : ℕ) → call_word v ∷ decimal node ∷ words ≡ call_words node i
  pub fits : input_fits d i ≡ true
  pub is : IsInput i

or_true : (x : Bool) → (x || true) ≡ true
or_true true = refl
or_true false = refl

fits_version : (d : Deployment) (p : Accesses) → ((d.version == 1) || (d.version == 2)) ≡ true → FitsVersion d.version p → ((length p.ranges == 0) || (d.version == 2)) ≡ true
fits_version d p known fits = go (d.version == 1) (d.version == 2) refl refl known where
  go : (a b : Bool) → (d.version == 1) ≡ a → (d.version == 2) ≡ b → (a || b) ≡ true → ((length p.ranges == 0) || b) ≡ true
  go true true e f h = or_true (length p.ranges == 0)
  go true false e f h = let none : p.ranges ≡ [] = fits (eqb-true d.version 1 e) in rw none refl
  go false true e f h = or_true (length p.ranges == 0)
  go false false e f h = absurd cc

alone_takes : (d : Deployment) (v : CallVerb) (i j : Input) (words : List (List ℕ)) → ((node : ℕ) → call_word v ∷ decimal node ∷ [] ≡ call_words node i) → input_fits d i ≡ true → IsInput i
    → alone_at i words ≡ Ok j → InputTaken d v words j
unfolding alone_at
alone_takes d v i j words spelled fits is h =
    let a = bind_ok (end_at words) _ j h in
    let none = end_takes words a.0 a.1 in
    subst (InputTaken d v words) (ok_is i j a.2) (record { spelled = λ node. ap (λ (ws : List (List ℕ)). call_word v ∷ decimal node ∷ ws) none ∙ spelled node; fits = fits; is = is })

certify_takes : (d : Deployment) (words : List (List ℕ)) (i : Input) → ((d.version == 1) || (d.version == 2)) ≡ true → certify_at d words ≡ Ok i → InputTaken d calls.Certify words i
unfolding certify_at
certify_takes d words i known h =
    let a = bind_ok (payload_words_at d.version words) _ i h in
    let t = payload_takes d.version words a.0 (reasoned_ok (payload_at d.version words) a.0 a.1) in
    subst (InputTaken d calls.Certify words) (ok_is (inputs.Certify a.0) i a.2)
    (record { spelled = λ node. ap (λ (ws : List (List ℕ)). codes "certify" ∷ decimal node ∷ ws) t.0; fits = fits_version d a.0 known t.2; is = t.1 })

take_takes : (d : Deployment) (words : List (List ℕ)) (i : Input) → take_at d words ≡ Ok i → InputTaken d calls.Take words i
unfolding take_at
take_takes d words i h =
    let a = bind_ok (txn_at d.nodes words) _ i h in
    let b = bind_ok (end_at a.0.1) _ i a.2 in
    let t = txn_takes d.nodes words a.0 a.1 in
    let none = end_takes a.0.1 b.0 b.1 in
    subst (InputTaken d calls.Take words) (ok_is (inputs.Take a.0.0) i b.2)
    (record { spelled = λ node. ap (λ (ws : List (List ℕ)). codes "take" ∷ decimal node ∷ ws) (t.0 ∙ ap (λ (ws : List (List ℕ)). txn_text a.0.0 ∷ ws) none); fits = t.1; is = tt })

-- the last node is above 0, and so are those that ascend from it
ascend_alone : (ns : List ℕ) → ascends (0 ∷ ns) ≡ true → ascends ns ≡ true
ascend_alone [] h = refl
ascend_alone (n ∷ ns) h = right_of (nat_lt 0 n) (ascends (n ∷ ns)) h

pub ascend_from_zero : (nodes : List ℕ) (shard : ℕ) (ns : List ℕ) → list_all (is_node_of nodes shard) ns ≡ true → ascends ns ≡ true → ascends (0 ∷ ns) ≡ true
ascend_from_zero nodes shard [] each h = refl
ascend_from_zero nodes shard (n ∷ ns) each h =
    let has = left_of (has_node nodes n) _ (left_of (is_node_of nodes shard n) (list_all (is_node_of nodes shard) ns) each) in
    let least = left_of (nat_le 1 n) (nat_le n (length nodes)) has in
    let above : nat_lt 0 n ≡ true = grind (arith, nat_tests) in
    both (nat_lt 0 n) (ascends (n ∷ ns)) above h

move_takes : (d : Deployment) (words : List (List ℕ)) (i : Input) → move_at d words ≡ Ok i → InputTaken d calls.Move words i
unfolding move_at
move_takes d words i h =
    let a = bind_ok (between_at 1 d.shards words) _ i h in
    let b = bind_ok (nodes_at d.nodes a.0.0 MAX_WANTED 0 a.0.1) _ i a.2 in
    let t = between_takes 1 d.shards words a.0 a.1 in
    let u = nodes_take d.nodes a.0.0 MAX_WANTED 0 a.0.1 b.0 b.1 in
    let few : nat_le (length b.0) MAX_WANTED ≡ true = let f = u.few in grind (arith, nat_tests) in
    let has = t.passes in
    subst (InputTaken d calls.Move words) (ok_is (inputs.Move a.0.0 b.0) i b.2) (record {
      spelled = λ node. ap (λ (ws : List (List ℕ)). codes "move" ∷ decimal node ∷ ws) (t.word ∙ ap (λ (ws : List (List ℕ)). decimal a.0.0 ∷ ws) u.spelled);
      fits = both (has_shard d a.0.0 && nat_le (length b.0) MAX_WANTED && ascends b.0) (list_all (is_node_of d.nodes a.0.0) b.0)
          (both (has_shard d a.0.0 && nat_le (length b.0) MAX_WANTED) (ascends b.0) (both (has_shard d a.0.0) (nat_le (length b.0) MAX_WANTED) has few) (ascend_alone b.0 u.ascend)) u.each;
      is = tt;
    })

read_takes : (d : Deployment) (words : List (List ℕ)) (i : Input) → read_at words ≡ Ok i → InputTaken d calls.Read words i
unfolding read_at
read_takes d words i h =
    let a = bind_ok (name_at words) _ i h in
    let b = bind_ok (end_at a.0.1) _ i a.2 in
    let t = name_takes [] words a.0 (reasoned_ok (name_word [] words) a.0 a.1) in
    let none = end_takes a.0.1 b.0 b.1 in
    subst (InputTaken d calls.Read words) (ok_is (inputs.ReadName a.0.0) i b.2)
    (record { spelled = λ node. ap (λ (ws : List (List ℕ)). codes "read" ∷ decimal node ∷ ws) (t.0 ∙ ap (λ (ws : List (List ℕ)). a.0.0 ∷ ws) none); fits = refl; is = t.1 })

ask_takes : (d : Deployment) (words : List (List ℕ)) (i : Input) → ask_at d words ≡ Ok i → InputTaken d calls.Ask words i
unfolding ask_at
ask_takes d words i h =
    let a = bind_ok (between_at 1 d.shards words) _ i h in
    let b = bind_ok (end_at a.0.1) _ i a.2 in
    let t = between_takes 1 d.shards words a.0 a.1 in
    let none = end_takes a.0.1 b.0 b.1 in
    subst (InputTaken d calls.Ask words) (ok_is (inputs.Ask a.0.0) i b.2)
    (record { spelled = λ node. ap (λ (ws : List (List ℕ)). codes "ask" ∷ decimal node ∷ ws) (t.word ∙ ap (λ (ws : List (List ℕ)). decimal a.0.0 ∷ ws) none); fits = t.passes; is = tt })

input_takes : (d : Deployment) (v : CallVerb) (words : List (List ℕ)) (i : Input) → ((d.version == 1) || (d.version == 2)) ≡ true → input_at d v words ≡ Ok i → InputTaken d v words i
input_takes d calls.Certify words i known h = certify_takes d words i known h
input_takes d calls.Take words i known h = take_takes d words i h
input_takes d calls.Nudge words i known h = alone_takes d calls.Nudge inputs.Nudge i words (λ node. refl) refl tt h
input_takes d calls.Move words i known h = move_takes d words i h
input_takes d calls.Lower words i known h = alone_takes d calls.Lower inputs.Lower i words (λ node. refl) refl tt h
input_takes d calls.Read words i known h = read_takes d words i h
input_takes d calls.Ask words i known h = ask_takes d words i h

-- ---- events that are read

pub record EventTaken (only : Option ℕ) (d : Deployment) (v : Verb) (words : List (List ℕ)) (e : Event) : Type 0 where
  pub spelled : verb_word v ∷ words ≡ event_words e
  pub fits : event_fits d e ≡ true
  pub is : IsEvent e
  pub own : names_only only e ≡ true

pub event_takes : (only : Option ℕ) (d : Deployment) (v : Verb) (words : List (List ℕ)) (e : Event) → ((d.version == 1) || (d.version == 2)) ≡ true → event_at only d v words ≡ Ok e → EventTaken only d v words e
unfolding call_at delivery_at stop_at
event_takes only d (verbs.Call v) words e known h =
    let a = bind_ok (caller_at only d.nodes words) _ e h in
    let b = bind_ok (input_at d v a.0.1) _ e a.2 in
    let t = caller_takes only d.nodes words a.0 a.1 in
    let u = input_takes d v a.0.1 b.0 known b.1 in
    subst (EventTaken only d (verbs.Call v) words) (ok_is (events.Call a.0.0 b.0) e b.2) (record {
      spelled = ap (λ (ws : List (List ℕ)). call_word v ∷ ws) t.word ∙ u.spelled a.0.0;
      fits = both (has_node d.nodes a.0.0) (input_fits d b.0) (left_of (has_node d.nodes a.0.0) (is_for only a.0.0) t.passes) u.fits;
      is = u.is;
      own = right_of (has_node d.nodes a.0.0) (is_for only a.0.0) t.passes;
    })
event_takes only d verbs.Deliver words e known h =
    let a = bind_ok (between_at 1 (2 ^ 32 - 1) words) _ e h in
    let b = bind_ok (end_at a.0.1) _ e a.2 in
    let t = between_takes 1 (2 ^ 32 - 1) words a.0 a.1 in
    let none = end_takes a.0.1 b.0 b.1 in
    let low = left_of (nat_le 1 a.0.0) (nat_le a.0.0 (2 ^ 32 - 1)) t.passes in
    let high = right_of (nat_le 1 a.0.0) (nat_le a.0.0 (2 ^ 32 - 1)) t.passes in
    subst (EventTaken only d verbs.Deliver words) (ok_is (events.DeliverNumber a.0.0) e b.2) (record {
      spelled = ap (λ (ws : List (List ℕ)). codes "deliver" ∷ ws) (t.word ∙ ap (λ (ws : List (List ℕ)). decimal a.0.0 ∷ ws) none);
      fits = low;
      is = grind (arith, nat_tests);
      own = refl;
    })
event_takes only d verbs.Stop words e known h =
    let a = bind_ok (caller_at only d.nodes words) _ e h in
    let b = bind_ok (end_at a.0.1) _ e a.2 in
    let t = caller_takes only d.nodes words a.0 a.1 in
    let none = end_takes a.0.1 b.0 b.1 in
    subst (EventTaken only d verbs.Stop words) (ok_is (events.Stop a.0.0) e b.2) (record {
      spelled = ap (λ (ws : List (List ℕ)). codes "stop" ∷ ws) (t.word ∙ ap (λ (ws : List (List ℕ)). decimal a.0.0 ∷ ws) none);
      fits = left_of (has_node d.nodes a.0.0) (is_for only a.0.0) t.passes;
      is = tt;
      own = right_of (has_node d.nodes a.0.0) (is_for only a.0.0) t.passes;
    })
