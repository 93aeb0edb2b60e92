-- What is kept of the notes so far, with one note more.
use Rattle.std.proofs.Common.{◌≡◌, ℕ, Bool, true, false, not, ◌&&◌, ◌||◌, ◌==◌, cond, List, [], ◌∷◌, ◌++◌, refl, sym, ap, ◌∙◌, subst, inl, inr, eqb-true}
use Rattle.std.specs.Prelude.{Option, Some, None, is_some}
use Rattle.std.specs.List.{list_all, list_any}
use Rattle.std.specs.Map.{lookup}
use Rattle.std.proofs.lemmas.Bool.{cond-true, cond-false, cases_Bool, and_parts}
use Rattle.std.proofs.lemmas.List.Folds.{list_all-append, list_any-append}
use Rattle.tcs_terms.specs.declared.ids.TxId.{TxId}
use Rattle.tcs_terms.specs.declared.inputs.Note.{Note}
use Rattle.tcs_terms.specs.declared.inputs.Note.TheVariants.{Begin, Take, ReadValue, Decide}
use Rattle.tcs_terms.specs.declared.votes.Cause.{Cause}
use Rattle.tcs_terms.specs.declared.votes.Cause.TheVariants.{Clash, Lost}
use Rattle.tcs_terms.specs.declared.votes.Decision.{Decision}
use Rattle.tcs_terms.specs.declared.votes.Decision.TheVariants.{Commit, Abort}
use Rattle.tcs_terms.specs.Logs.{same_txn}
use Rattle.tcs_terms.specs.Payloads.{Accesses}
use Rattle.protocol.specs.History.{begins_with, first_some, payload_in, has_begun, takes}
use Rattle.tcs_laws.specs.Certification.{Tests}
use Rattle.protocol.specs.CorrectHistory.{same_cause, same_decision, agrees_with, agrees_after, clash_in, has_cause, clash_after_by, clash_after, was_taken, lost_after_by, lost_after}
use Rattle.protocol_laws.proofs.Fronts.{payload_in-append}
use Rattle.protocol_laws.proofs.SameTxn.{same_txn-eq}
use Rattle.judge.proofs.Firsts.{same_turned}
use Rattle.judge.specs.Watching.{with_first, with_txn, payloads_with, begun_with, decisions_with, taken_with, decided_so, agrees_now, clash_named, clash_decided, clash_now, loss_named, loss_decided, lost_now, ArePayloads, AreDecisions, AreTaken}

-- what begins with a note, where nothing stands behind it
first_or_none : {X : Type 0} (o : Option X) → first_some o None ≡ o
first_or_none None = refl
first_or_none (Some x) = refl

payload_with : (past : List Note) (n : Note) (t : TxId) → payload_in (past ++ n ∷ []) t ≡ first_some (payload_in past t) (begins_with t n)
payload_with past n t =
    payload_in-append past (n ∷ []) t ∙ ap (λ o. first_some (payload_in past t) o) (first_or_none (begins_with t n))

-- a note that begins nothing
abbrev BeginsNone : Note → Type 0
BeginsNone n = (t : TxId) → begins_with t n ≡ None

payload_rests : (past : List Note) (n : Note) → BeginsNone n → (t : TxId) → payload_in (past ++ n ∷ []) t ≡ payload_in past t
payload_rests past n none t =
    payload_with past n t ∙ ap (λ o. first_some (payload_in past t) o) (none t) ∙ first_or_none (payload_in past t)

and_true : (b : Bool) → (b && true) ≡ b
and_true true = refl
and_true false = refl

or_false : (b : Bool) → (b || false) ≡ b
or_false true = refl
or_false false = refl

-- with one note more a test holds of all where it holds of the note
all_with : (test : Note → Bool) (past : List Note) (n : Note) → list_all test (past ++ n ∷ []) ≡ (list_all test past && test n)
all_with test past n = list_all-append test past (n ∷ []) ∙ ap (λ b. list_all test past && b) (and_true (test n))

any_with : {X : Type 0} (test : X → Bool) (past : List X) (n : X) → list_any test (past ++ n ∷ []) ≡ (list_any test past || test n)
any_with test past n = list_any-append test past (n ∷ []) ∙ ap (λ b. list_any test past || b) (or_false (test n))

-- ---- look-ups, with one transaction more

lookup_last : {V : Type 0} (test : TxId → Bool) (kept : List (TxId × V)) (txn : TxId) (value : V)
    → lookup test (kept ++ (txn, value) ∷ []) ≡ first_some (lookup test kept) (cond (test txn) (Some value) None)
lookup_last test [] txn value = refl
lookup_last test (e ∷ es) txn value = elim (cases_Bool (test e.0)) [
  | inl here ↦ rw (here) refl
  | inr past ↦ rw (past) (lookup_last test es txn value)
]

stays_first : {X : Type 0} (o later : Option X) → is_some o ≡ true → first_some o later ≡ o
stays_first None later e = absurd cc
stays_first (Some x) later e = refl

pub lookup_first : {V : Type 0} (kept : List (TxId × V)) (txn : TxId) (value : V) (t : TxId)
    → lookup (same_txn t) (with_first kept txn value) ≡ first_some (lookup (same_txn t) kept) (cond (same_txn txn t) (Some value) None)
lookup_first {V} kept txn value t = elim (cases_Bool (is_some (lookup (same_txn txn) kept))) [
  | inl there ↦ ap (λ es. lookup (same_txn t) es) (cond-true (is_some (lookup (same_txn txn) kept)) kept (kept ++ (txn, value) ∷ []) there)
      ∙ (elim (cases_Bool (same_txn txn t)) [
        | inl same ↦ sym (stays_first (lookup (same_txn t) kept) (cond (same_txn txn t) (Some value) None)
            (subst (λ u. is_some (lookup (same_txn u) kept) ≡ true) (same_txn-eq txn t same) there))
        | inr apart ↦ sym (ap (λ b. first_some (lookup (same_txn t) kept) (cond b (Some value) None)) apart ∙ first_or_none (lookup (same_txn t) kept))
      ])
  | inr new ↦ ap (λ es. lookup (same_txn t) es) (cond-false (is_some (lookup (same_txn txn) kept)) kept (kept ++ (txn, value) ∷ []) new)
      ∙ lookup_last (same_txn t) kept txn value
      ∙ ap (λ b. first_some (lookup (same_txn t) kept) (cond b (Some value) None)) (same_turned t txn)
]

pub any_txn : (kept : List TxId) (txn t : TxId) → list_any (same_txn t) (with_txn kept txn) ≡ (list_any (same_txn t) kept || same_txn txn t)
any_txn kept txn t = elim (cases_Bool (list_any (same_txn txn) kept)) [
  | inl there ↦ ap (λ es. list_any (same_txn t) es) (cond-true (list_any (same_txn txn) kept) kept (kept ++ txn ∷ []) there)
      ∙ (elim (cases_Bool (same_txn txn t)) [
        | inl same ↦ (let here : list_any (same_txn t) kept ≡ true = subst (λ u. list_any (same_txn u) kept ≡ true) (same_txn-eq txn t same) there in
            here ∙ sym (ap (λ b. b || same_txn txn t) here))
        | inr apart ↦ sym (ap (λ b. list_any (same_txn t) kept || b) apart ∙ or_false (list_any (same_txn t) kept))
      ])
  | inr new ↦ ap (λ es. list_any (same_txn t) es) (cond-false (list_any (same_txn txn) kept) kept (kept ++ txn ∷ []) new)
      ∙ any_with (same_txn t) kept txn
      ∙ ap (λ b. list_any (same_txn t) kept || b) (same_turned t txn)
]

-- ---- payloads

pub payloads_none : (payloads : List (TxId × Accesses)) → payloads ≡ [] → ArePayloads payloads []
payloads_none payloads none = record { has = λ t. ap (λ es. lookup (same_txn t) es) none }

payloads_rest : (payloads : List (TxId × Accesses)) (past : List Note) (n : Note) → BeginsNone n
    → ArePayloads payloads past → ArePayloads payloads (past ++ n ∷ [])
payloads_rest payloads past n none are = record { has = λ t. are.has t ∙ sym (payload_rests past n none t) }

pub payloads_step : (payloads : List (TxId × Accesses)) (past : List Note) (n : Note)
    → ArePayloads payloads past → ArePayloads (payloads_with payloads n) (past ++ n ∷ [])
payloads_step payloads past (Begin txn payload) are = record {
  has = λ t. lookup_first payloads txn payload t
      ∙ ap (λ o. first_some o (begins_with t (Begin txn payload))) (are.has t)
      ∙ sym (payload_with past (Begin txn payload) t);
}
payloads_step payloads past (Take txn) are = payloads_rest payloads past (Take txn) (λ t. refl) are
payloads_step payloads past (ReadValue name version value) are = payloads_rest payloads past (ReadValue name version value) (λ t. refl) are
payloads_step payloads past (Decide txn decision) are = payloads_rest payloads past (Decide txn decision) (λ t. refl) are

-- ---- decisions

pub decisions_none : (begun : List TxId) (decisions : List (TxId × Decision)) → begun ≡ [] → decisions ≡ [] → AreDecisions begun decisions []
decisions_none begun decisions no_begun none = record {
  has = λ t. ap (λ es. list_any (same_txn t) es) no_begun;
  agree = λ t d. sym (ap (λ es. decided_so d (lookup (same_txn t) es)) none);
}

pub agrees_same : (begun : List TxId) (decisions : List (TxId × Decision)) (past : List Note) (n : Note)
    → AreDecisions begun decisions past → agrees_now begun decisions n ≡ agrees_after past n
agrees_same begun decisions past (Begin txn payload) are = refl
agrees_same begun decisions past (Take txn) are = refl
agrees_same begun decisions past (ReadValue name version value) are = refl
agrees_same begun decisions past (Decide txn decision) are =
    ap (λ b. b && decided_so decision (lookup (same_txn txn) decisions)) (are.has txn)
    ∙ ap (λ b. has_begun past txn && b) (sym (are.agree txn decision))

decisions_rest : (begun : List TxId) (decisions : List (TxId × Decision)) (past : List Note) (n : Note) → BeginsNone n
    → ((t : TxId) (d : Decision) → agrees_with t d n ≡ true) → AreDecisions begun decisions past → AreDecisions begun decisions (past ++ n ∷ [])
decisions_rest begun decisions past n none passes are = record {
  has = λ t. are.has t ∙ sym (ap is_some (payload_rests past n none t));
  agree = λ t d. all_with (agrees_with t d) past n ∙ ap (λ b. list_all (agrees_with t d) past && b) (passes t d)
      ∙ and_true (list_all (agrees_with t d) past) ∙ are.agree t d;
}

-- whether a transaction has begun, once another one or it begins
begun_or : (o : Option Accesses) (b : Bool) (payload : Accesses) → (is_some o || b) ≡ is_some (first_some o (cond b (Some payload) None))
begun_or None true payload = refl
begun_or None false payload = refl
begun_or (Some p) b payload = refl

same_cause-eq : (a b : Cause) → same_cause a b ≡ true → a ≡ b
same_cause-eq (Clash t) (Clash u) e = ap (λ x. Clash x) (same_txn-eq t u e)
same_cause-eq (Clash t) Lost e = absurd cc
same_cause-eq Lost (Clash u) e = absurd cc
same_cause-eq Lost Lost e = refl

same_decision-eq : (a b : Decision) → same_decision a b ≡ true → a ≡ b
same_decision-eq Commit Commit e = refl
same_decision-eq Commit (Abort s c) e = absurd cc
same_decision-eq (Abort s c) Commit e = absurd cc
same_decision-eq (Abort s c) (Abort t d) e =
    let parts = and_parts (s == t) (same_cause c d) e in
    ap (λ x. Abort x c) (eqb-true s t parts.0) ∙ ap (λ x. Abort t x) (same_cause-eq c d parts.1)

-- one decision more, which is the one that was kept, if one was
kept_so : (kept : Option Decision) (d other : Decision) → decided_so d kept ≡ true
    → (decided_so other kept && same_decision d other) ≡ same_decision d other
kept_so None d other e = refl
kept_so (Some k) d other e =
    subst (λ x. (same_decision x other && same_decision d other) ≡ same_decision d other) (sym (same_decision-eq k d e)) (twice (same_decision d other))
  where
    twice : (b : Bool) → (b && b) ≡ b
    twice true = refl
    twice false = refl

pub decisions_step : (begun : List TxId) (decisions : List (TxId × Decision)) (past : List Note) (n : Note)
    → AreDecisions begun decisions past → agrees_now begun decisions n ≡ true
    → AreDecisions (begun_with begun n) (decisions_with decisions n) (past ++ n ∷ [])
decisions_step begun decisions past (Begin txn payload) are passes = record {
  has = λ t. any_txn begun txn t ∙ ap (λ b. b || same_txn txn t) (are.has t) ∙ begun_or (payload_in past t) (same_txn txn t) payload
      ∙ sym (ap is_some (payload_with past (Begin txn payload) t));
  agree = λ t d. all_with (agrees_with t d) past (Begin txn payload) ∙ and_true (list_all (agrees_with t d) past) ∙ are.agree t d;
}
decisions_step begun decisions past (Take txn) are passes = decisions_rest begun decisions past (Take txn) (λ t. refl) (λ t d. refl) are
decisions_step begun decisions past (ReadValue name version value) are passes =
    decisions_rest begun decisions past (ReadValue name version value) (λ t. refl) (λ t d. refl) are
decisions_step begun decisions past (Decide txn d) are passes = record {
  has = λ t. are.has t ∙ sym (ap is_some (payload_rests past (Decide txn d) (λ u. refl) t));
  agree = λ t other. all_with (agrees_with t other) past (Decide txn d)
      ∙ ap (λ b. b && (not (same_txn txn t) || same_decision d other)) (are.agree t other)
      ∙ sym (ap (decided_so other) (lookup_first decisions txn d t) ∙ one_more t other);
}
  where
    so : decided_so d (lookup (same_txn txn) decisions) ≡ true
    so = (and_parts (list_any (same_txn txn) begun) (decided_so d (lookup (same_txn txn) decisions)) passes).1

    put : (o : Option Decision) (other : Decision) → decided_so d o ≡ true → decided_so other (first_some o (Some d)) ≡ (decided_so other o && same_decision d other)
    put None other e = refl
    put (Some k) other e = ap (λ x. same_decision x other) (same_decision-eq k d e) ∙ sym (kept_so (Some k) d other e)

    one_more : (t : TxId) (other : Decision) → decided_so other (first_some (lookup (same_txn t) decisions) (cond (same_txn txn t) (Some d) None))
        ≡ (decided_so other (lookup (same_txn t) decisions) && (not (same_txn txn t) || same_decision d other))
    one_more t other = elim (cases_Bool (same_txn txn t)) [
      | inl same ↦ ap (λ b. decided_so other (first_some (lookup (same_txn t) decisions) (cond b (Some d) None))) same
          ∙ put (lookup (same_txn t) decisions) other (subst (λ u. decided_so d (lookup (same_txn u) decisions) ≡ true) (same_txn-eq txn t same) so)
          ∙ sym (ap (λ b. decided_so other (lookup (same_txn t) decisions) && (not b || same_decision d other)) same)
      | inr apart ↦ ap (λ b. decided_so other (first_some (lookup (same_txn t) decisions) (cond b (Some d) None))) apart
          ∙ ap (decided_so other) (first_or_none (lookup (same_txn t) decisions))
          ∙ sym (and_true (decided_so other (lookup (same_txn t) decisions)))
          ∙ sym (ap (λ b. decided_so other (lookup (same_txn t) decisions) && (not b || same_decision d other)) apart)
    ]

-- ---- causes of aborts

module _ (tests : Tests) (n : ℕ) (payloads : List (TxId × Accesses)) (past : List Note) (are : ArePayloads payloads past) where
  named_same : (txn : TxId) (shard : ℕ) (cause : Cause) → clash_named tests n payloads txn shard cause ≡ has_cause tests n past txn shard cause
  named_same txn shard (Clash other) =
      ap (λ o. not (same_txn other txn) && clash_in tests n shard o (lookup (same_txn txn) payloads)) (are.has other)
      ∙ ap (λ o. not (same_txn other txn) && clash_in tests n shard (payload_in past other) o) (are.has txn)
  named_same txn shard Lost = refl

  decided_same : (txn : TxId) (decision : Decision) → clash_decided tests n payloads txn decision ≡ clash_after_by tests n past txn decision
  decided_same txn Commit = refl
  decided_same txn (Abort shard cause) = named_same txn shard cause

  pub clash_same : (note : Note) → clash_now tests n payloads note ≡ clash_after tests n past note
  clash_same (Begin txn payload) = refl
  clash_same (Take txn) = refl
  clash_same (ReadValue name version value) = refl
  clash_same (Decide txn decision) = decided_same txn decision

pub taken_none : (taken : List TxId) → taken ≡ [] → AreTaken taken []
taken_none taken none = record { has = λ t. ap (λ es. list_any (same_txn t) es) none }

taken_rest : (taken : List TxId) (past : List Note) (n : Note) → ((t : TxId) → takes t n ≡ false)
    → AreTaken taken past → AreTaken taken (past ++ n ∷ [])
taken_rest taken past n none are = record {
  has = λ t. are.has t ∙ sym (any_with (takes t) past n ∙ ap (λ b. list_any (takes t) past || b) (none t) ∙ or_false (list_any (takes t) past));
}

pub taken_step : (taken : List TxId) (past : List Note) (n : Note) → AreTaken taken past → AreTaken (taken_with taken n) (past ++ n ∷ [])
taken_step taken past (Begin txn payload) are = taken_rest taken past (Begin txn payload) (λ t. refl) are
taken_step taken past (Take txn) are = record {
  has = λ t. any_txn taken txn t ∙ ap (λ b. b || same_txn txn t) (are.has t) ∙ sym (any_with (takes t) past (Take txn));
}
taken_step taken past (ReadValue name version value) are = taken_rest taken past (ReadValue name version value) (λ t. refl) are
taken_step taken past (Decide txn decision) are = taken_rest taken past (Decide txn decision) (λ t. refl) are

module _ (taken : List TxId) (past : List Note) (are : AreTaken taken past) where
  loss_same : (txn : TxId) (cause : Cause) → loss_named taken txn cause ≡ was_taken past txn cause
  loss_same txn (Clash other) = refl
  loss_same txn Lost = are.has txn

  loss_decided_same : (txn : TxId) (decision : Decision) → loss_decided taken txn decision ≡ lost_after_by past txn decision
  loss_decided_same txn Commit = refl
  loss_decided_same txn (Abort shard cause) = loss_same txn cause

  pub lost_same : (n : Note) → lost_now taken n ≡ lost_after past n
  lost_same (Begin txn payload) = refl
  lost_same (Take txn) = refl
  lost_same (ReadValue name version value) = refl
  lost_same (Decide txn decision) = loss_decided_same txn decision
