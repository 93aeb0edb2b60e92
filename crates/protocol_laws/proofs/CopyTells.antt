-- One copy: what a committed transaction reads is what the copy has where it stands in the order.
use Rattle.std.proofs.Common.{◌≡◌, ℕ, ◌<◌, ◌≤◌, true, List, [], ◌∷◌, ◌++◌, find, Some, ◌⊎◌, inl, inr, sym, ◌∙◌, ap, subst, arith, append_assoc}
use Rattle.tcs_terms.specs.declared.ids.TxId.{TxId}
use Rattle.tcs_terms.specs.declared.inputs.Note.{Note}
use Rattle.tcs_terms.specs.declared.inputs.Note.TheVariants.{ReadValue, Decide}
use Rattle.tcs_terms.specs.declared.payloads.ReadPart.{ReadPart}
use Rattle.tcs_terms.specs.declared.payloads.WritePart.{WritePart}
use Rattle.tcs_terms.specs.declared.votes.Decision.TheVariants.{Commit}
use Rattle.tcs_terms.specs.Payloads.{Accesses, same_name}
use Rattle.tcs_laws.specs.Certification.{Tests}
use Rattle.tcs_laws.specs.Laws.{ChecksReads}
use Rattle.tcs_laws.specs.Writing.{writes_name}
use Rattle.protocol.specs.History.{order_of, payload_in, payloads_of}
use Rattle.protocol.specs.Invariant.Readings.{IsWrittenBefore}
use Rattle.protocol.specs.Invariant.Time.{StandsIn}
use Rattle.protocol.specs.OneCopy.{before_begin, copy_after}
use Rattle.protocol_laws.proofs.BeforeBegin.{before_begin-front, committed-before}
use Rattle.protocol_laws.proofs.BegunFirst.{BegunFirst}
use Rattle.protocol_laws.proofs.CopyAfter.{copy-unwritten, copy-written}
use Rattle.protocol_laws.proofs.Fronts.{IsFront, payload_in-kept}
use Rattle.protocol_laws.proofs.LegalOrder.{IsPayloadOf, legal-each, payloads-append, payloads-first, payload-of}
use Rattle.protocol_laws.proofs.NamesOnce.{same_name-self}
use Rattle.protocol_laws.proofs.PayloadReads.{checks-orders, reads-bound, write-found}
use Rattle.protocol_laws.proofs.Standing.{StandsIn-left, StandsIn-right, any-from}
use Rattle.protocol_laws.proofs.WithPast.{StandsBetween, stands_between}
use Rattle.protocol_laws.proofs.WritersRise.{IsLegal, rise-in-order}
use Rattle.std.proofs.lemmas.Bool.{false_from_ne_true}

-- what readings tell: nothing that was never written, or what a transaction wrote that was committed before
abbrev pub TellsWritten : List Note → Type 0
TellsWritten h = (earlier later : List Note) (name : List ℕ) (version : ℕ) (value : List ℕ) → h ≡ earlier ++ (ReadValue name version value ∷ later)
    → ((version ≡ 0) × (value ≡ [])) ⊎ IsWrittenBefore earlier name version value

-- a transaction's place in the order of a legal history
pub record Place (tests : Tests) (h : List Note) (past : List TxId) (t : TxId) (p : Accesses) : Type 0 where
  pub legal : IsLegal tests h
  pub begun : BegunFirst h
  pub told : TellsWritten h
  pub checks : ChecksReads tests
  pub after : List TxId
  pub order : order_of h ≡ past ++ (t ∷ after)
  pub payload : payload_in h t ≡ Some p

-- what a reading before the transaction began told
pub data Told (h : List Note) (past : List TxId) (name : List ℕ) (version : ℕ) (value : List ℕ) : Type 0 where
  Never : version ≡ 0 → value ≡ [] → Told h past name version value
  Written : (w : TxId) (q : Accesses) → StandsIn w past → payload_in h w ≡ Some q → q.version ≡ version → StandsIn (record { name = name; value = value }) q.writes → Told h past name version value

pub reading-Told : (tests : Tests) (h : List Note) (past : List TxId) (t : TxId) (p : Accesses) (name : List ℕ) (version : ℕ) (value : List ℕ) → Place tests h past t p
    → StandsIn (ReadValue name version value) (before_begin h t) → Told h past name version value
reading-Told tests h past t p name version value l s =
    let cut : IsFront (before_begin h t) h = before_begin-front h t in
    let at : StandsBetween (ReadValue name version value) (before_begin h t) = stands_between (before_begin h t) (ReadValue name version value) s in
    let whole : h ≡ at.before ++ (ReadValue name version value ∷ (at.after ++ cut.rest)) =
    cut.is ∙ ap (λ ns. ns ++ cut.rest) at.is ∙ append_assoc at.before (ReadValue name version value ∷ at.after) cut.rest in
    go at whole (l.told at.before (at.after ++ cut.rest) name version value whole)
  where
    go : (at : StandsBetween (ReadValue name version value) (before_begin h t)) → h ≡ at.before ++ (ReadValue name version value ∷ (at.after ++ (before_begin-front h t).rest))
        → ((version ≡ 0) × (value ≡ [])) ⊎ IsWrittenBefore at.before name version value → Told h past name version value
    go at whole (inl n) = Never n.0 n.1
    go at whole (inr w) =
        let decided : StandsIn (Decide w.txn Commit) (before_begin h t) =
        subst (λ ns. StandsIn (Decide w.txn Commit) ns) (sym at.is) (StandsIn-left at.before (ReadValue name version value ∷ at.after) (Decide w.txn Commit) w.decided) in
        let payload : payload_in h w.txn ≡ Some w.payload =
        ap (λ ns. payload_in ns w.txn) whole ∙ payload_in-kept at.before (ReadValue name version value ∷ (at.after ++ (before_begin-front h t).rest)) w.txn w.payload w.begun in
        Written w.txn w.payload (committed-before h t w.txn past l.after l.begun l.order decided) payload w.at_version w.writes

-- an older writer of an object that is read has at most the version that was read
older-bound : (tests : Tests) (h : List Note) (past : List TxId) (t : TxId) (p : Accesses) (r : ReadPart) (x : Accesses) → Place tests h past t p → StandsIn r p.reads → StandsIn x (payloads_of h past)
    → writes_name x.writes r.name ≡ true → x.version ≤ r.version
older-bound tests h past t p r x l s o w =
    let of : IsPayloadOf h past x = payload-of h past x o in
    reads-bound tests x p r l.checks (l.legal.payloads of.txn x of.payload) (l.legal.payloads t p l.payload) (legal-each tests h past t l.after x p l.legal.legal l.order l.payload o) w s

-- what a reading told at the version that the transaction read is what the copy has
pub copy-told : (tests : Tests) (h : List Note) (past : List TxId) (t : TxId) (p : Accesses) (r : ReadPart) (value : List ℕ) → Place tests h past t p → StandsIn r p.reads → Told h past r.name r.version value
    → copy_after (payloads_of h past) r.name ≡ record { version = r.version; value = value }
copy-told tests h past t p r value l s (Never z e) =
    copy-unwritten r.name (payloads_of h past) (λ x o. false_from_ne_true (writes_name x.writes r.name) (λ w.
    let bound : x.version ≤ r.version = older-bound tests h past t p r x l s o w in
    let of : IsPayloadOf h past x = payload-of h past x o in
    let some : 1 ≤ x.version = (l.legal.payloads of.txn x of.payload).positive in
    omega (arith, bound, some, z)))
    ∙ ap (λ n. record { version = n; value = [] }) (sym z) ∙ ap (λ v. record { version = r.version; value = v }) (sym e)
copy-told tests h past t p r value l s (Written w q there payload version writes) =
    let at : StandsBetween w past = stands_between past w there in
    let one : WritePart = record { name = r.name; value = value } in
    let wrote : writes_name q.writes r.name ≡ true = any-from (λ (v : WritePart). same_name v.name r.name) q.writes one writes (same_name-self r.name) in
    let found : find (λ (v : WritePart). same_name v.name r.name) q.writes ≡ Some one = write-found q one (l.legal.payloads w q payload) writes in
    let split : payloads_of h past ≡ payloads_of h at.before ++ (q ∷ payloads_of h at.after) =
    ap (λ ts. payloads_of h ts) at.is ∙ payloads-append h at.before (w ∷ at.after) ∙ ap (λ ps. payloads_of h at.before ++ ps) (payloads-first h w at.after q payload) in
    let place : order_of h ≡ at.before ++ (w ∷ (at.after ++ (t ∷ l.after))) =
    l.order ∙ ap (λ ts. ts ++ (t ∷ l.after)) at.is ∙ append_assoc at.before (w ∷ at.after) (t ∷ l.after) in
    ap (λ ps. copy_after ps r.name) split
    ∙ copy-written r.name (payloads_of h at.before) q (payloads_of h at.after) one found (λ x o. false_from_ne_true (writes_name x.writes r.name) (λ k.
    let later : StandsIn x (payloads_of h (at.after ++ (t ∷ l.after))) =
    subst (λ ps. StandsIn x ps) (sym (payloads-append h at.after (t ∷ l.after))) (StandsIn-left (payloads_of h at.after) (payloads_of h (t ∷ l.after)) x o) in
    let rise : q.version < x.version = rise-in-order tests h at.before w (at.after ++ (t ∷ l.after)) q x r.name (checks-orders tests l.checks) l.legal place payload later wrote k in
    let old : StandsIn x (payloads_of h past) = subst (λ ps. StandsIn x ps) (sym split) (StandsIn-right (payloads_of h at.before) (q ∷ payloads_of h at.after) x (inr o)) in
    let bound : x.version ≤ r.version = older-bound tests h past t p r x l s old k in
    omega (arith, rise, bound, version)))
    ∙ ap (λ n. record { version = n; value = value }) version
