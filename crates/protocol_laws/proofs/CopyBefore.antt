-- A transaction of the order finds in the copy of the data before it what it read.
use Rattle.std.proofs.Common.{◌≡◌, Bool, true, false, cond, not, ◌&&◌, ◌==◌, List, [], ◌∷◌, ◌++◌, ◌||◌, ℕ, nat_eq, eq-eqb, Some, inl, inr, sym, ◌∙◌, ap, subst, refl, eqb-true, take_while}
use Rattle.std.specs.Cmp.Lexicographic.{pointwise}
use Rattle.std.specs.List.{list_all}
use Rattle.std.proofs.lemmas.List.Sums.{take_while-cons}
use Rattle.tcs_terms.specs.declared.ids.TxId.{TxId}
use Rattle.tcs_terms.specs.declared.inputs.Note.{Note}
use Rattle.tcs_terms.specs.declared.inputs.Note.TheVariants.{ReadValue}
use Rattle.tcs_terms.specs.declared.payloads.ReadPart.{ReadPart}
use Rattle.tcs_terms.specs.Logs.{same_txn}
use Rattle.tcs_terms.specs.Payloads.{Accesses, same_name}
use Rattle.tcs_terms.proofs.BoolLaws.{both, left_of, right_of}
use Rattle.protocol.specs.History.{order_of, payload_in, payloads_of}
use Rattle.protocol.specs.Invariant.Time.{StandsIn}
use Rattle.protocol.specs.OneCopy.{Copied, before_begin, copy_after, fits_copy, is_one_copy, range_fits, read_fits, tells_value}
use Rattle.protocol.proofs.Lists.{all-StandsIn}
use Rattle.protocol_laws.specs.Exchange.{Finds, standing_before}
use Rattle.protocol_laws.proofs.NamesOnce.{same_name-eq, same_name-self}
use Rattle.protocol_laws.proofs.SameTxn.{same_txn-eq, same_txn-self}
use Rattle.protocol_laws.proofs.WithPast.{with_past-each}

-- a list is what stands before a transaction of it, the transaction, and others
record Parted (ts : List TxId) (txn : TxId) : Type 0 where
  after : List TxId
  is : ts ≡ take_while (λ t. not (same_txn txn t)) ts ++ (txn ∷ after)

parted : (ts : List TxId) (txn : TxId) → StandsIn txn ts → Parted ts txn
parted [] txn s = absurd s
parted (t ∷ ts) txn s = go (same_txn txn t) refl s (λ k. parted ts txn k)
  where
    go : (b : Bool) → same_txn txn t ≡ b → StandsIn txn (t ∷ ts) → (StandsIn txn ts → Parted ts txn) → Parted (t ∷ ts) txn
    go true e s ih = record {
      after = ts;
      is = ap (λ u. u ∷ ts) (sym (same_txn-eq txn t e)) ∙ ap (λ b. cond (not b) (t ∷ take_while (λ u. not (same_txn txn u)) ts) [] ++ (txn ∷ ts)) (sym e) ∙ ap (λ us. us ++ (txn ∷ ts)) (sym (take_while-cons (λ u. not (same_txn txn u)) t ts));
    }
    go false e (inl q) ih = absurd (let k : same_txn txn t ≡ true = subst (λ u. same_txn txn u ≡ true) q (same_txn-self txn) in cc (k, e))
    go false e (inr s) ih =
        let p : Parted ts txn = ih s in
        record {
          after = p.after;
          is = ap (λ us. t ∷ us) p.is ∙ ap (λ b. cond (not b) (t ∷ take_while (λ u. not (same_txn txn u)) ts) [] ++ (txn ∷ p.after)) (sym e) ∙ ap (λ us. us ++ (txn ∷ p.after)) (sym (take_while-cons (λ u. not (same_txn txn u)) t ts));
        }

-- a reading at that object and version told the value
told : (name : List ℕ) (version : ℕ) (copied value : List ℕ) → tells_value name version copied (ReadValue name version value) ≡ true → copied ≡ value
told name version copied value h = go (same_name name name && (version == version)) (both (same_name name name) (version == version) (same_name-self name) (eq-eqb version version refl)) h
  where
    go : (b : Bool) → b ≡ true → (not b || pointwise nat_eq value copied) ≡ true → copied ≡ value
    go true e k = sym (same_name-eq value copied k)
    go false e k = absurd (cc e)

pub copy-found : (h : List Note) (txn : TxId) (payload : Accesses) (read : ReadPart) → is_one_copy h ≡ true → StandsIn txn (order_of h) → payload_in h txn ≡ Some payload → StandsIn read payload.reads → Finds h txn read
copy-found h txn payload read one s begun r =
    let p : Parted (order_of h) txn = parted (order_of h) txn s in
    let olds : List Accesses = payloads_of h (standing_before h txn) in
    let past : List Note = before_begin h txn in
    let copied : Copied = copy_after olds read.name in
    let fits : fits_copy past olds (Some payload) ≡ true =
    subst (λ o. fits_copy past olds o ≡ true) begun
    (with_past-each (λ e. fits_copy (before_begin h e.1) (payloads_of h e.0) (payload_in h e.1)) (order_of h) (standing_before h txn) txn p.after one p.is) in
    let all : list_all (read_fits past olds) payload.reads ≡ true = left_of (list_all (read_fits past olds) payload.reads) (list_all (range_fits olds payload.reads) payload.ranges) fits in
    let at : read_fits past olds read ≡ true = all-StandsIn (read_fits past olds) payload.reads read all r in
    let tells : list_all (tells_value read.name read.version copied.value) past ≡ true =
    right_of (copied.version == read.version) (list_all (tells_value read.name read.version copied.value) past) at in
    record {
      version = eqb-true copied.version read.version (left_of (copied.version == read.version) (list_all (tells_value read.name read.version copied.value) past) at);
      value = λ value there. told read.name read.version copied.value value
          (all-StandsIn (tells_value read.name read.version copied.value) past (ReadValue read.name read.version value) tells there);
    }
