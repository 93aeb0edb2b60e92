-- What a node notes when it acts, and that no transaction begins twice.
use Rattle.std.proofs.Common.{◌≡◌, ℕ, ◌+◌, ◌<◌, ◌≤◌, Bool, true, false, cond, List, [], ◌∷◌, ◌++◌, filter, length, Some, None, is_some, ◌⊎◌, inl, inr, sym, ◌∙◌, ap, refl, arith}
use Rattle.tcs_terms.specs.declared.ids.TxId.{TxId}
use Rattle.tcs_terms.specs.declared.inputs.Event.{Event}
use Rattle.tcs_terms.specs.declared.inputs.Input.{Input}
use Rattle.tcs_terms.specs.declared.inputs.Note.{Note}
use Rattle.tcs_terms.specs.declared.inputs.Note.TheVariants as notes
use Rattle.tcs_terms.specs.declared.messages.Outgoing.{Outgoing}
use Rattle.tcs_terms.specs.Logs.{same_txn}
use Rattle.tcs_terms.specs.Payloads.{Accesses}
use Rattle.tcs_terms.specs.Setups.{Deployment}
use Rattle.tcs_laws.specs.Certification.{Tests}
use Rattle.protocol.specs.ClientRules.{next_txn}
use Rattle.protocol.specs.History.{begins_with}
use Rattle.protocol.specs.Outcomes.{Out}
use Rattle.protocol.specs.Records.{Case, Coordinator, NodeRecord}
use Rattle.protocol.specs.World.{Happening}
use Rattle.protocol.specs.Invariant.Time.{Moment, goes_to, StandsIn, IsNode, WasNoted}
use Rattle.protocol.specs.Invariant.Transactions.{IsBegun}
use Rattle.protocol_laws.specs.Effect.{Effect, GoesOn}
use Rattle.protocol_laws.specs.Effect.GoesOn.{Waiting, Decides}
use Rattle.protocol_laws.specs.Effect.Effect.{Certifies, TakesOver, Reads, Votes, Acknowledges}
use Rattle.protocol_laws.specs.Turn.{Turn, GrewFrom}
use Rattle.protocol_laws.proofs.OnwardOf.{onward_of}
use Rattle.protocol_laws.proofs.TransactionsLast.{Goes}
use Rattle.protocol_laws.proofs.Noted.HistoryCame.{NothingNoted, NodeNotes}
use Rattle.protocol_laws.proofs.Noted.NoteCame.{WasNotedBefore, NodeNoted}
use Rattle.protocol_laws.proofs.Came.{effect_name, Acting, acted_back}
use Rattle.protocol_laws.proofs.SameTxn.{same_txn-eq}
use Rattle.protocol_laws.proofs.Noted.{HistoryCame, history_came, NoteCame, note_came}

-- a case that goes on notes no beginning
pub goes_on-begins : (c : Coordinator) (txn : TxId) (case : Case) (sends : List Outgoing) (out : Out Coordinator) (begun : TxId) (payload : Accesses) → GoesOn c txn case sends out
    → StandsIn (notes.Begin begun payload) out.notes → ⊥
goes_on-begins c txn case sends _ begun payload (Waiting h) s = s
goes_on-begins c txn case sends _ begun payload (Decides h) (inl e) = cc e
goes_on-begins c txn case sends _ begun payload (Decides h) (inr s) = s

-- the transaction that a node notes as begun is its next one
pub record BeginsNext (node new : NodeRecord) (txn : TxId) : Type 0 where
  pub is : txn ≡ next_txn node
  pub next : new.next ≡ node.next + 1

pub begins_next : (tests : Tests) (version : ℕ) (node : NodeRecord) (input : Input) (out : Out NodeRecord) (txn : TxId) (payload : Accesses) → Effect tests version node input out
    → StandsIn (notes.Begin txn payload) out.notes → BeginsNext node out.kept txn
begins_next tests version node _ _ txn payload (Certifies p l case e) (inl q) = record { is = cc q; next = refl }
begins_next tests version node _ _ txn payload (Certifies p l case e) (inr s) = absurd s
begins_next tests version node _ _ txn payload (TakesOver t row a b c d case e) (inl q) = absurd (cc q)
begins_next tests version node _ _ txn payload (TakesOver t row a b c d case e) (inr s) = absurd s
begins_next tests version node _ _ txn payload (Reads name h) (inl q) = absurd (cc q)
begins_next tests version node _ _ txn payload (Reads name h) (inr s) = absurd s
begins_next tests version node _ _ txn payload (Votes from shard epoch entry case part view o a b c out g) s = absurd (goes_on-begins _ _ _ _ out txn payload g s)
begins_next tests version node _ _ txn payload (Acknowledges from shard epoch slot t case part view o a b c out g) s = absurd (goes_on-begins _ _ _ _ out txn payload g s)
begins_next tests version node _ _ txn payload _ s = absurd s

-- notes of which none passes add nothing to a count
count_more : (p : Note → Bool) (h more : List Note) → ((n : Note) → StandsIn n more → p n ≡ false) → length (filter p (h ++ more)) ≡ length (filter p h)
count_more p [] [] k = refl
count_more p [] (m ∷ ms) k = ap (λ b. length (cond b (m ∷ filter p ms) (filter p ms))) (k m (inl refl)) ∙ count_more p [] ms (λ n s. k n (inr s))
count_more p (n ∷ ns) more k = go (p n) (count_more p ns more k)
  where
    go : (b : Bool) → length (filter p (ns ++ more)) ≡ length (filter p ns) → length (cond b (n ∷ filter p (ns ++ more)) (filter p (ns ++ more))) ≡ length (cond b (n ∷ filter p ns) (filter p ns))
    go true e = let q : length (filter p (ns ++ more)) + 1 ≡ length (filter p ns) + 1 = ap (λ k. k + 1) e in omega (arith, q)
    go false e = e

-- what a node notes begins no transaction that had begun
begins_none : (tests : Tests) (setup : Deployment) (t : Moment) (event : Event) (h : Happening) (txn : TxId) (payload : Accesses) (note : Note) → IsBegun t txn payload → (a : Acting tests setup t event h)
    → StandsIn note a.out.notes → is_some (begins_with txn note) ≡ false
begins_none tests setup t event h txn payload (notes.Begin other p) b a s = go (same_txn other txn) refl
  where
    go : (v : Bool) → same_txn other txn ≡ v → is_some (cond v (Some p) None) ≡ false
    go true e =
        let i : BeginsNext a.node a.out.kept other = begins_next tests setup.version a.node a.input a.out other p a.effect s in
        let same : txn ≡ next_txn a.node = sym (same_txn-eq other txn e) ∙ i.is in
        let home : a.node.name ≡ txn.home = ap (λ x. x.home) (sym same) in
        let seq : txn.seq ≡ a.node.next = ap (λ x. x.seq) same in
        absurd (omega (arith, b.given a.node a.is home, seq))
    go false e = refl
begins_none tests setup t event h txn payload (notes.Take other) b a s = refl
begins_none tests setup t event h txn payload (notes.ReadValue name v value) b a s = refl
begins_none tests setup t event h txn payload (notes.Decide other d) b a s = refl

-- one event takes nothing away, and what had begun does not begin again
pub goes_of : (tests : Tests) (setup : Deployment) (t : Moment) (event : Event) (h : Happening) → Turn tests setup t event h → Goes t (goes_to t h.after)
goes_of tests setup t event h turn = record {
  onward = onward_of tests setup t event h turn;
  once = λ txn payload b. again txn payload b (history_came tests setup t event h turn);
}
  where
    again : (txn : TxId) (payload : Accesses) → IsBegun t txn payload → HistoryCame tests setup t event h → length (filter (λ n. is_some (begins_with txn n)) h.after.history) ≡ 1
    again txn payload b (NothingNoted e) = rw e b.once
    again txn payload b (NodeNotes a e) = rw e (count_more (λ n. is_some (begins_with txn n)) t.now.history a.out.notes (λ n s. begins_none tests setup t event h txn payload n b a s) ∙ b.once)

-- each transaction that began has a number that its home gave
pub numbers_kept : (tests : Tests) (setup : Deployment) (t : Moment) (event : Event) (h : Happening) → Turn tests setup t event h
    → (txn : TxId) (payload : Accesses) (node : NodeRecord) → WasNoted (goes_to t h.after) (notes.Begin txn payload) → IsNode (goes_to t h.after) node → node.name ≡ txn.home → txn.seq < node.next
numbers_kept tests setup t event h turn txn payload node noted n e = go (note_came tests setup t event h (notes.Begin txn payload) turn noted)
  where
    grown : GrewFrom t node
    grown = (onward_of tests setup t event h turn).back node n

    go : NoteCame tests setup t event h (notes.Begin txn payload) → txn.seq < node.next
    go (WasNotedBefore s) =
        let below : txn.seq < grown.old.next = turn.before.transactions.numbers txn payload grown.old s grown.is (sym grown.grows.name ∙ e) in
        let rise : grown.old.next ≤ node.next = grown.grows.next in omega (arith, below, rise)
    go (NodeNoted a s) = fresh a (begins_next tests setup.version a.node a.input a.out txn payload a.effect s) (acted_back tests setup t event h node a n)
      where
        fresh : (a : Acting tests setup t event h) → BeginsNext a.node a.out.kept txn → (node ≡ a.out.kept) ⊎ (StandsIn node t.now.nodes × (node.name ≡ a.out.kept.name → ⊥)) → txn.seq < node.next
        fresh a i (inl q) =
            let seq : txn.seq ≡ a.node.next = ap (λ x. x.seq) i.is in
            let next : node.next ≡ a.node.next + 1 = ap (λ x. x.next) q ∙ i.next in
            omega (arith, seq, next)
        fresh a i (inr p) = absurd (p.1 (e ∙ ap (λ x. x.home) i.is ∙ sym (effect_name tests setup.version a.node a.input a.out a.effect)))
