-- A transaction that a node begins has begun then, once.
use Rattle.std.proofs.Common.{◌≡◌, ◌+◌, ◌<◌, Bool, true, false, cond, List, [], ◌∷◌, ◌++◌, filter, length, Some, None, is_some, ◌⊎◌, inl, inr, sym, ◌∙◌, ap, subst, refl, arith}
use Rattle.tcs_terms.specs.declared.ids.TxId.{TxId}
use Rattle.tcs_terms.specs.declared.inputs.Event.{Event}
use Rattle.tcs_terms.specs.declared.inputs.Note.{Note}
use Rattle.tcs_terms.specs.declared.inputs.Note.TheVariants as notes
use Rattle.tcs_terms.specs.Logs.{same_txn}
use Rattle.tcs_terms.specs.Payloads.{Accesses}
use Rattle.tcs_terms.specs.Setups.{Deployment}
use Rattle.tcs_laws.specs.Certification.{Tests}
use Rattle.protocol.specs.ClientRules.{next_txn}
use Rattle.protocol.specs.History.{begins_with, payload_in, first_some}
use Rattle.protocol.specs.Records.{NodeRecord}
use Rattle.protocol.specs.World.{Happening}
use Rattle.protocol.specs.Invariant.Time.{Moment, goes_to, StandsIn}
use Rattle.protocol.specs.Invariant.Transactions.{IsBegun}
use Rattle.protocol_laws.specs.Turn.{Turn}
use Rattle.protocol_laws.proofs.TransactionsNotes.{BeginsNext, begins_next}
use Rattle.protocol_laws.proofs.Came.{effect_name, Acting, acted_back}
use Rattle.protocol_laws.proofs.SameTxn.{same_txn-self, same_txn-eq}

-- where no note begins a transaction
abbrev NotBegun : List Note → TxId → Type 0
NotBegun h txn = (payload : Accesses) → StandsIn (notes.Begin txn payload) h → ⊥

not_begins : (txn : TxId) (n : Note) (h : List Note) → NotBegun (n ∷ h) txn → begins_with txn n ≡ None
not_begins txn (notes.Begin other payload) h k = go (same_txn other txn) refl
  where
    go : (b : Bool) → same_txn other txn ≡ b → cond b (Some payload) None ≡ None
    go true e = absurd (k payload (inl (ap (λ x. notes.Begin x payload) (sym (same_txn-eq other txn e)))))
    go false e = refl
not_begins txn (notes.Take other) h k = refl
not_begins txn (notes.ReadValue name v value) h k = refl
not_begins txn (notes.Decide other d) h k = refl

begins_it : (txn : TxId) (payload : Accesses) → begins_with txn (notes.Begin txn payload) ≡ Some payload
begins_it txn payload = ap (λ b. cond b (Some payload) None) (same_txn-self txn)

first_begun : (h : List Note) (txn : TxId) (payload : Accesses) → NotBegun h txn → payload_in (h ++ notes.Begin txn payload ∷ []) txn ≡ Some payload
first_begun [] txn payload k = ap (λ o. first_some o None) (begins_it txn payload)
first_begun (n ∷ ns) txn payload k = ap (λ o. first_some o (payload_in (ns ++ notes.Begin txn payload ∷ []) txn)) (not_begins txn n ns k) ∙ first_begun ns txn payload (λ p s. k p (inr s))

once_begun : (h : List Note) (txn : TxId) (payload : Accesses) → NotBegun h txn → length (filter (λ n. is_some (begins_with txn n)) (h ++ notes.Begin txn payload ∷ [])) ≡ 1
once_begun [] txn payload k = ap (λ o. length (cond (is_some o) (notes.Begin txn payload ∷ []) [])) (begins_it txn payload)
once_begun (n ∷ ns) txn payload k =
    ap (λ o. length (cond (is_some o) (n ∷ filter (λ n. is_some (begins_with txn n)) (ns ++ notes.Begin txn payload ∷ [])) (filter (λ n. is_some (begins_with txn n)) (ns ++ notes.Begin txn payload ∷ [])))) (not_begins txn n ns k)
    ∙ once_begun ns txn payload (λ p s. k p (inr s))

-- the transaction that a node begins has begun then
pub begun_now : (tests : Tests) (setup : Deployment) (t : Moment) (event : Event) (h : Happening) → Turn tests setup t event h → (a : Acting tests setup t event h) → (payload : Accesses)
    → a.out.notes ≡ notes.Begin (next_txn a.node) payload ∷ [] → IsBegun (goes_to t h.after) (next_txn a.node) payload
begun_now tests setup t event h turn a payload e =
    let history : h.after.history ≡ t.now.history ++ notes.Begin (next_txn a.node) payload ∷ [] = ap (λ (x : Happening). x.after.history) a.happens ∙ ap (λ ns. t.now.history ++ ns) e in
    let fresh : NotBegun t.now.history (next_txn a.node) = λ p s. (let l : a.node.next < a.node.next = turn.before.transactions.numbers (next_txn a.node) p a.node s a.is refl in omega (arith, l)) in
    record {
      first = subst (λ ns. payload_in ns (next_txn a.node) ≡ Some payload) (sym history) (first_begun t.now.history (next_txn a.node) payload fresh);
      once = subst (λ ns. length (filter (λ n. is_some (begins_with (next_txn a.node) n)) ns) ≡ 1) (sym history) (once_begun t.now.history (next_txn a.node) payload fresh);
      given = λ node n q. given node q (acted_back tests setup t event h node a n);
    }
  where
    begins : BeginsNext a.node a.out.kept (next_txn a.node)
    begins = begins_next tests setup.version a.node a.input a.out (next_txn a.node) payload a.effect (subst (λ ns. StandsIn (notes.Begin (next_txn a.node) payload) ns) (sym e) (inl refl))

    given : (node : NodeRecord) → node.name ≡ a.node.name → (node ≡ a.out.kept) ⊎ (StandsIn node t.now.nodes × (node.name ≡ a.out.kept.name → ⊥)) → a.node.next < node.next
    given node q (inl k) = let next : node.next ≡ a.node.next + 1 = ap (λ x. x.next) k ∙ begins.next in omega (arith, next)
    given node q (inr p) = absurd (p.1 (q ∙ sym (effect_name tests setup.version a.node a.input a.out a.effect)))
