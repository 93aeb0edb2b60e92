-- Whatever a client began is a payload, if it asked to certify payloads.
use Rattle.std.proofs.Common.{◌≡◌, ℕ, ◌++◌, inl, inr, sym, ap, subst, ◌∙◌, append-nil, length}
use Rattle.tcs_terms.specs.declared.ids.TxId.{TxId}
use Rattle.tcs_terms.specs.declared.inputs.Event.{Event}
use Rattle.tcs_terms.specs.declared.inputs.Event.TheVariants.{Call}
use Rattle.tcs_terms.specs.declared.inputs.Input.{Input}
use Rattle.tcs_terms.specs.declared.inputs.Input.TheVariants as inputs
use Rattle.tcs_terms.specs.declared.inputs.Note.TheVariants.{Begin}
use Rattle.tcs_terms.specs.Payloads.{Accesses, IsPayload}
use Rattle.tcs_terms.specs.Runs.{IsEvent}
use Rattle.tcs_laws.specs.Certification.{Tests}
use Rattle.protocol.specs.Invariant.Time.{StandsIn}
use Rattle.protocol.specs.Outcomes.{Out}
use Rattle.protocol.specs.Records.{NodeRecord}
use Rattle.protocol.specs.World.{World, Happening}
use Rattle.protocol.proofs.Lists.{StandsIn-append}
use Rattle.protocol_laws.specs.Change.{Change, Passes, Stops, Acts, AtService, Comes, ByCall, ByMessage}
use Rattle.protocol_laws.specs.Effect.{Effect, Rests, Certifies, TakesOver, Reads, Votes, Acknowledges}
use Rattle.protocol_laws.proofs.HistoryKept.{ArePayloads}
use Rattle.protocol_laws.proofs.TransactionsNotes.{goes_on-begins}
use Rattle.protocol_laws.proofs.ServiceSays.{serves_no_notes}

-- what begins was asked to be certified
effect-begins : (tests : Tests) (version : ℕ) (node : NodeRecord) (input : Input) (out : Out NodeRecord) (begun : TxId) (whole : Accesses) → Effect tests version node input out → StandsIn (Begin begun whole) out.notes → inputs.Certify whole ≡ input
effect-begins tests version node i o begun whole (Rests input answer notices h) s = absurd s
effect-begins tests version node i o begun whole (Certifies payload h case e) s = elim s [ inl k ↦ ap (λ x. inputs.Certify x) (cc k) | inr z ↦ absurd z ]
effect-begins tests version node i o begun whole (TakesOver txn row a b c d case e) s = elim s [ inl k ↦ absurd (cc k) | inr z ↦ absurd z ]
effect-begins tests version node i o begun whole (Reads name a) s = elim s [ inl k ↦ absurd (cc k) | inr z ↦ absurd z ]
effect-begins tests version node i o begun whole (Votes from shard epoch entry case part view a b c d out g) s = absurd (goes_on-begins _ _ _ _ out begun whole g s)
effect-begins tests version node i o begun whole (Acknowledges from shard epoch slot txn case part view a b c d out g) s = absurd (goes_on-begins _ _ _ _ out begun whole g s)
effect-begins tests version node i o begun whole _ s = absurd s

came : (w : World) (name : ℕ) (event : Event) (input : Input) (whole : Accesses) → Comes w name event input → inputs.Certify whole ≡ input → event ≡ Call name (inputs.Certify whole)
came w name e i whole (ByCall input) h = ap (λ x. Call name x) (sym h)
came w name e i whole (ByMessage number from message sent is found s) h = absurd (cc h)

pub payloads_kept : (tests : Tests) (version : ℕ) (w : World) (event : Event) (h : Happening) → Change tests version w event h → IsEvent event → ArePayloads w.history → ArePayloads h.after.history
payloads_kept tests version w e h (Passes event result a) formed p = p
payloads_kept tests version w e h (Stops name) formed p = p
payloads_kept tests version w e h (Acts event name node input out comes found s named up effect) formed p = go
  where
    go : (txn : TxId) (whole : Accesses) → StandsIn (Begin txn whole) (w.history ++ out.notes) → IsPayload whole
    go txn whole s = elim (StandsIn-append w.history out.notes (Begin txn whole) s) [
      | inl old ↦ p txn whole old
      | inr new ↦ subst IsEvent (came w name event input whole comes (effect-begins tests version node input out txn whole effect new)) formed
    ]
payloads_kept tests version w e h (AtService number from message sent out is found s serves) formed p = λ txn whole s.
    p txn whole (subst (λ ns. StandsIn (Begin txn whole) ns) (ap (λ ns. w.history ++ ns) (serves_no_notes (length w.nodes) w.configs from message out serves) ∙ append-nil w.history) s)
