-- One copy: each committed transaction, with honest reads, finds in the copy what it read.
use Rattle.std.proofs.Common.{◌≡◌, ℕ, ◌≤◌, Bool, true, false, not, List, [], ◌∷◌, ◌&&◌, ◌||◌, ◌==◌, find, flat_map, fold, nat_le, nat_eq, Option, Some, None, is_some, inl, inr, sym, ◌∙◌, ap, subst, refl, arith, eq-eqb, eqb-true, IfSome}
use Rattle.std.proofs.lemmas.Bool.{le-leb}
use Rattle.std.specs.Cmp.Lexicographic.{pointwise}
use Rattle.std.specs.List.{list_all, list_any}
use Rattle.tcs_terms.proofs.BoolLaws.{both, left_of, right_of}
use Rattle.tcs_terms.specs.declared.ids.TxId.{TxId}
use Rattle.tcs_terms.specs.declared.inputs.Note.{Note}
use Rattle.tcs_terms.specs.declared.inputs.Note.TheVariants.{Begin, Take, ReadValue, Decide}
use Rattle.tcs_terms.specs.declared.payloads.RangePart.{RangePart}
use Rattle.tcs_terms.specs.declared.payloads.ReadPart.{ReadPart}
use Rattle.tcs_terms.specs.declared.payloads.WritePart.{WritePart}
use Rattle.tcs_terms.specs.Payloads.{Accesses, IsPayload, same_name, reads_name}
use Rattle.tcs_terms.specs.Shards.{in_range_part, range_version, seen, version_seen}
use Rattle.tcs_laws.proofs.ListLemmas.{find_some}
use Rattle.tcs_laws.specs.Certification.{Tests}
use Rattle.tcs_laws.specs.Writing.{writes_name}
use Rattle.protocol.proofs.Lists.{all-StandsIn, find-StandsIn}
use Rattle.protocol.specs.History.{payload_in, payloads_of}
use Rattle.protocol.specs.Invariant.Time.{StandsIn}
use Rattle.protocol.specs.OneCopy.{Copied, before_begin, copy_after, fits_copy, honest_after, overwritten, range_fits, read_fits, tells_value, tells_version}
use Rattle.protocol_laws.proofs.CopyTells.{Place, copy-told, reading-Told}
use Rattle.protocol_laws.proofs.LegalOrder.{IsPayloadOf, payload-of, legal-each}
use Rattle.protocol_laws.proofs.NamesOnce.{same_name-eq, same_name-self}
use Rattle.protocol_laws.proofs.RangesOnce.{find-range}
use Rattle.protocol_laws.proofs.Standing.{all-from, any-from, Passing, any-Passing}

-- a reading of an object at a version, with the value that it told
record IsReading (name : List ℕ) (version : ℕ) (n : Note) : Type 0 where
  value : List ℕ
  is : n ≡ ReadValue name version value

tells_version-is : (name : List ℕ) (version : ℕ) (n : Note) → tells_version name version n ≡ true → IsReading name version n
tells_version-is name version (Begin txn payload) h = absurd (cc h)
tells_version-is name version (Take txn) h = absurd (cc h)
tells_version-is name version (Decide txn decision) h = absurd (cc h)
tells_version-is name version (ReadValue other v value) h =
    let a : other ≡ name = same_name-eq other name (left_of (same_name other name) (v == version) h) in
    let b : v ≡ version = eqb-true v version (right_of (same_name other name) (v == version) h) in
    record { value = value; is = ap (λ x. ReadValue x v value) a ∙ ap (λ x. ReadValue name x value) b }

tells_value-of : (name : List ℕ) (version : ℕ) (value : List ℕ) (n : Note) → ((other : List ℕ) → n ≡ ReadValue name version other → other ≡ value) → tells_value name version value n ≡ true
tells_value-of name version value (Begin txn payload) h = refl
tells_value-of name version value (Take txn) h = refl
tells_value-of name version value (Decide txn decision) h = refl
tells_value-of name version value (ReadValue other v told) h = go (same_name other name && (v == version)) refl
  where
    go : (b : Bool) → (same_name other name && (v == version)) ≡ b → (not b || pointwise nat_eq told value) ≡ true
    go false e = refl
    go true e =
        let r : IsReading name version (ReadValue other v told) = tells_version-is name version (ReadValue other v told) e in
        let same : told ≡ r.value = cc r.is in
        subst (λ x. pointwise nat_eq told x ≡ true) (same ∙ h r.value r.is) (same_name-self told)

-- a read, where its object was read before at its version
read-fits : (tests : Tests) (h : List Note) (past : List TxId) (t : TxId) (p : Accesses) (r : ReadPart) → Place tests h past t p → StandsIn r p.reads
    → list_any (tells_version r.name r.version) (before_begin h t) ≡ true → read_fits (before_begin h t) (payloads_of h past) r ≡ true
read-fits tests h past t p r l s a =
    let one : Passing (tells_version r.name r.version) (before_begin h t) = any-Passing (tells_version r.name r.version) (before_begin h t) a in
    let reading : IsReading r.name r.version one.one = tells_version-is r.name r.version one.one one.passes in
    let copy : copy_after (payloads_of h past) r.name ≡ record { version = r.version; value = reading.value } =
    copy-told tests h past t p r reading.value l s (reading-Told tests h past t p r.name r.version reading.value l (subst (λ n. StandsIn n (before_begin h t)) reading.is one.there)) in
    both ((copy_after (payloads_of h past) r.name).version == r.version) (list_all (tells_value r.name r.version (copy_after (payloads_of h past) r.name).value) (before_begin h t))
    (eq-eqb (copy_after (payloads_of h past) r.name).version r.version (ap (λ c. c.version) copy))
    (all-from (tells_value r.name r.version (copy_after (payloads_of h past) r.name).value) (before_begin h t) (λ n there. tells_value-of r.name r.version (copy_after (payloads_of h past) r.name).value n (λ other is.
    let same : copy_after (payloads_of h past) r.name ≡ record { version = r.version; value = other } =
    copy-told tests h past t p r other l s (reading-Told tests h past t p r.name r.version other l (subst (λ m. StandsIn m (before_begin h t)) is there)) in
    sym (ap (λ c. c.value) same))))

-- a bound on all writers of an object is one on the copy's version
copy-bound : (name : List ℕ) (most : ℕ) (old : Copied) (ps : List Accesses) → old.version ≤ most → ((x : Accesses) → StandsIn x ps → writes_name x.writes name ≡ true → x.version ≤ most)
    → (fold (λ c x. overwritten c x.version (find (λ w. same_name w.name name) x.writes)) old ps).version ≤ most
copy-bound name most old [] b h = b
copy-bound name most old (x ∷ xs) b h = copy-bound name most (overwritten old x.version (find (λ w. same_name w.name name) x.writes)) xs (go (find (λ w. same_name w.name name) x.writes) refl) (λ y s. h y (inr s))
  where
    wrote : (ws : List WritePart) (w : WritePart) → find (λ v. same_name v.name name) ws ≡ Some w → writes_name ws name ≡ true
    wrote ws w e = let f : StandsIn w ws × (same_name w.name name ≡ true) = find-StandsIn (λ v. same_name v.name name) ws w e in any-from (λ v. same_name v.name name) ws w f.0 f.1

    go : (o : Option WritePart) → find (λ w. same_name w.name name) x.writes ≡ o → (overwritten old x.version o).version ≤ most
    go None e = b
    go (Some w) e = h x (inl refl) (wrote x.writes w e)

-- what lies in a range and is not read by name is seen at the range's version
range-seen : (p : Accesses) (q : RangePart) (name : List ℕ) → IsPayload p → StandsIn q p.ranges → in_range_part name q ≡ true → reads_name p.reads name ≡ false → seen p name ≡ Some q.version
range-seen p q name i s h n =
    ap (λ o. version_seen o (range_version (find (in_range_part name) p.ranges))) (none (find (λ (r : ReadPart). same_name r.name name) p.reads) (find_some (λ (r : ReadPart). same_name r.name name) p.reads ∙ n))
    ∙ ap range_version (find-range p.ranges q name i.ranges_ascend i.ranges_whole s h)
  where
    none : (o : Option ReadPart) → is_some o ≡ false → o ≡ None
    none None e = refl
    none (Some r) e = absurd (cc e)

-- a range
range-fits : (tests : Tests) (h : List Note) (past : List TxId) (t : TxId) (p : Accesses) (q : RangePart) → Place tests h past t p → StandsIn q p.ranges → range_fits (payloads_of h past) p.reads q ≡ true
range-fits tests h past t p q l s =
    all-from (λ (w : WritePart). not (in_range_part w.name q) || reads_name p.reads w.name || nat_le (copy_after (payloads_of h past) w.name).version q.version) (flat_map (λ (x : Accesses). x.writes) (payloads_of h past))
    (λ w there. go w.name (in_range_part w.name q) (reads_name p.reads w.name) refl refl)
  where
    bound : (name : List ℕ) → in_range_part name q ≡ true → reads_name p.reads name ≡ false → (x : Accesses) → StandsIn x (payloads_of h past) → writes_name x.writes name ≡ true → x.version ≤ q.version
    bound name a b x there w =
        let of : IsPayloadOf h past x = payload-of h past x there in
        let is : IsPayload p = l.legal.payloads t p l.payload in
        subst (λ o. IfSome o (λ v. x.version ≤ v)) (range-seen p q name is s a b)
        (l.checks.above x p (l.legal.payloads of.txn x of.payload) is (legal-each tests h past t l.after x p l.legal.legal l.order l.payload there) name w)

    go : (name : List ℕ) (a b : Bool) → in_range_part name q ≡ a → reads_name p.reads name ≡ b → (not a || b || nat_le (copy_after (payloads_of h past) name).version q.version) ≡ true
    go name false b e f = refl
    go name true true e f = refl
    go name true false e f =
        le-leb (copy_after (payloads_of h past) name).version q.version (copy-bound name q.version (record { version = 0; value = [] }) (payloads_of h past) (omega arith) (bound name e f))

-- what a transaction read, where it was read before
pub copy-fits : (tests : Tests) (h : List Note) (past : List TxId) (t : TxId) (p : Accesses) → Place tests h past t p → honest_after (before_begin h t) (Begin t p) ≡ true
    → fits_copy (before_begin h t) (payloads_of h past) (payload_in h t) ≡ true
copy-fits tests h past t p l honest =
    subst (λ o. fits_copy (before_begin h t) (payloads_of h past) o ≡ true) (sym l.payload)
    (both (list_all (read_fits (before_begin h t) (payloads_of h past)) p.reads) (list_all (range_fits (payloads_of h past) p.reads) p.ranges)
    (all-from (read_fits (before_begin h t) (payloads_of h past)) p.reads (λ r s. read-fits tests h past t p r l s (all-StandsIn (λ (x : ReadPart). list_any (tells_version x.name x.version) (before_begin h t)) p.reads r honest s)))
    (all-from (range_fits (payloads_of h past) p.reads) p.ranges (λ q s. range-fits tests h past t p q l s)))
