-- The order of committed transactions: each stands there at the place of its first decision to commit.
use Rattle.std.proofs.Common.{◌≡◌, Bool, true, false, cond, not, List, [], ◌∷◌, ◌++◌, filter, filter_map, Option, Some, None, inl, inr, ◌⊎◌, sym, ◌∙◌, ap, subst, refl}
use Rattle.std.specs.List.{cons_option}
use Rattle.std.proofs.lemmas.Bool.{both_ways, not-true}
use Rattle.tcs_terms.specs.declared.ids.TxId.{TxId}
use Rattle.tcs_terms.specs.declared.inputs.Note.{Note}
use Rattle.tcs_terms.specs.declared.inputs.Note.TheVariants.{Begin, Take, ReadValue, Decide}
use Rattle.tcs_terms.specs.declared.votes.Decision.TheVariants.{Commit, Abort}
use Rattle.tcs_terms.specs.Logs.{same_txn}
use Rattle.protocol.specs.History.{commit_in, first_of_each, order_of}
use Rattle.protocol.specs.Invariant.Time.{StandsIn}
use Rattle.protocol_laws.proofs.SameTxn.{same_txn-self}

-- where an element of a filtered list stands in the whole list
record StoodIn {X : Type 0} (p : X → Bool) (ys before : List X) (x : X) : Type 0 where
  front : List X
  back : List X
  is : ys ≡ front ++ (x ∷ back)
  passes : p x ≡ true
  among : (u : X) → StandsIn u before → StandsIn u front

stood_in : {X : Type 0} (p : X → Bool) (ys before : List X) (x : X) (after : List X) → filter p ys ≡ before ++ (x ∷ after) → StoodIn p ys before x
stood_in p [] [] x after h = absurd (cc h)
stood_in p [] (b ∷ bs) x after h = absurd (cc h)
stood_in {X} p (y ∷ ys) before x after h = go (p y) refl before h (λ bs k. stood_in p ys bs x after k)
  where
    go : (b : Bool) → p y ≡ b → (bs : List X) → cond b (y ∷ filter p ys) (filter p ys) ≡ bs ++ (x ∷ after) → ((cs : List X) → filter p ys ≡ cs ++ (x ∷ after) → StoodIn p ys cs x) → StoodIn p (y ∷ ys) bs x
    go false e bs k ih =
        let r : StoodIn p ys bs x = ih bs k in
        record {
          front = y ∷ r.front;
          back = r.back;
          is = ap (λ zs. y ∷ zs) r.is;
          passes = r.passes;
          among = λ u s. inr (r.among u s);
        }
    go true e [] k ih = record { front = []; back = ys; is = cc k; passes = let q : y ≡ x = cc k in subst (λ z. p z ≡ true) q e; among = λ u s. s }
    go true e (b ∷ bs) k ih =
        let r : StoodIn p ys bs x = ih bs (cc k) in
        let q : y ≡ b = cc k in
        record {
          front = y ∷ r.front;
          back = r.back;
          is = ap (λ zs. y ∷ zs) r.is;
          passes = r.passes;
          among = λ u s. elim s [ inl m ↦ inl (m ∙ sym q) | inr m ↦ inr (r.among u m) ];
        }

-- where a transaction first stands in a list, of which the first of each are told
record FirstStands (xs before : List TxId) (x : TxId) : Type 0 where
  front : List TxId
  back : List TxId
  is : xs ≡ front ++ (x ∷ back)
  new : StandsIn x front → ⊥
  among : (u : TxId) → StandsIn u before → StandsIn u front

first_stands : (xs before : List TxId) (x : TxId) (after : List TxId) → first_of_each xs ≡ before ++ (x ∷ after) → FirstStands xs before x
first_stands [] [] x after h = absurd (cc h)
first_stands [] (b ∷ bs) x after h = absurd (cc h)
first_stands (y ∷ ys) [] x after h = record { front = []; back = ys; is = let q : y ≡ x = cc h in ap (λ z. z ∷ ys) q; new = λ s. s; among = λ u s. s }
first_stands (y ∷ ys) (b ∷ bs) x after h =
    let f : StoodIn (λ u. not (same_txn y u)) (first_of_each ys) bs x = stood_in (λ u. not (same_txn y u)) (first_of_each ys) bs x after (cc h) in
    go f (first_stands ys f.front x f.back f.is)
  where
    q : y ≡ b
    q = cc h

    go : (f : StoodIn (λ u. not (same_txn y u)) (first_of_each ys) bs x) → FirstStands ys f.front x → FirstStands (y ∷ ys) (b ∷ bs) x
    go f r = record {
      front = y ∷ r.front;
      back = r.back;
      is = ap (λ zs. y ∷ zs) r.is;
      new = λ s. elim s [ inl m ↦ both_ways (same_txn y x) (not-true (same_txn y x) f.passes) (subst (λ z. same_txn y z ≡ true) (sym m) (same_txn-self y)) | inr m ↦ r.new m ];
      among = λ u s. elim s [ inl m ↦ inl (m ∙ sym q) | inr m ↦ inr (r.among u (f.among u m)) ];
    }

-- where a decision to commit stands in a history, of which the committed ones are told
record CommitStands (h : List Note) (before : List TxId) (x : TxId) : Type 0 where
  front : List Note
  back : List Note
  is : h ≡ front ++ (Decide x Commit ∷ back)
  told : filter_map commit_in front ≡ before

commit_stands : (h : List Note) (before : List TxId) (x : TxId) (after : List TxId) → filter_map commit_in h ≡ before ++ (x ∷ after) → CommitStands h before x
commit_stands [] [] x after e = absurd (cc e)
commit_stands [] (b ∷ bs) x after e = absurd (cc e)
commit_stands (n ∷ ns) before x after e = go n before e (λ bs k. commit_stands ns bs x after k)
  where
    more : (n : Note) (bs : List TxId) → commit_in n ≡ None → CommitStands ns bs x → CommitStands (n ∷ ns) bs x
    more n bs none r = record { front = n ∷ r.front; back = r.back; is = ap (λ zs. n ∷ zs) r.is; told = ap (λ o. cons_option o (filter_map commit_in r.front)) none ∙ r.told }

    commit : (txn : TxId) (bs : List TxId) → txn ∷ filter_map commit_in ns ≡ bs ++ (x ∷ after) → ((cs : List TxId) → filter_map commit_in ns ≡ cs ++ (x ∷ after) → CommitStands ns cs x) → CommitStands (Decide txn Commit ∷ ns) bs x
    commit txn [] k ih = record { front = []; back = ns; is = let q : txn ≡ x = cc k in ap (λ z. Decide z Commit ∷ ns) q; told = refl }
    commit txn (b ∷ bs) k ih =
        let r : CommitStands ns bs x = ih bs (cc k) in
        let q : txn ≡ b = cc k in
        record { front = Decide txn Commit ∷ r.front; back = r.back; is = ap (λ zs. Decide txn Commit ∷ zs) r.is; told = ap (λ zs. txn ∷ zs) r.told ∙ ap (λ z. z ∷ bs) q }

    go : (n : Note) (bs : List TxId) → cons_option (commit_in n) (filter_map commit_in ns) ≡ bs ++ (x ∷ after) → ((cs : List TxId) → filter_map commit_in ns ≡ cs ++ (x ∷ after) → CommitStands ns cs x) → CommitStands (n ∷ ns) bs x
    go (Begin txn payload) bs k ih = more (Begin txn payload) bs refl (ih bs k)
    go (Take txn) bs k ih = more (Take txn) bs refl (ih bs k)
    go (ReadValue name version value) bs k ih = more (ReadValue name version value) bs refl (ih bs k)
    go (Decide txn Commit) bs k ih = commit txn bs k ih
    go (Decide txn (Abort shard cause)) bs k ih = more (Decide txn (Abort shard cause)) bs refl (ih bs k)

-- a transaction is told as committed exactly where its commit is decided
pub commit-told : (h : List Note) (txn : TxId) → StandsIn (Decide txn Commit) h → StandsIn txn (filter_map commit_in h)
commit-told [] txn s = absurd s
commit-told (n ∷ ns) txn (inl e) = subst (λ m. StandsIn txn (cons_option (commit_in m) (filter_map commit_in ns))) e (inl refl)
commit-told (n ∷ ns) txn (inr s) = go (commit_in n) (commit-told ns txn s)
  where
    go : (o : Option TxId) → StandsIn txn (filter_map commit_in ns) → StandsIn txn (cons_option o (filter_map commit_in ns))
    go None r = r
    go (Some x) r = inr r

pub told-commit : (h : List Note) (txn : TxId) → StandsIn txn (filter_map commit_in h) → StandsIn (Decide txn Commit) h
told-commit [] txn s = absurd s
told-commit (n ∷ ns) txn s = go n s (told-commit ns txn)
  where
    go : (n : Note) → StandsIn txn (cons_option (commit_in n) (filter_map commit_in ns)) → (StandsIn txn (filter_map commit_in ns) → StandsIn (Decide txn Commit) ns) → (Decide txn Commit ≡ n) ⊎ StandsIn (Decide txn Commit) ns
    go (Begin other payload) s ih = inr (ih s)
    go (Take other) s ih = inr (ih s)
    go (ReadValue name version value) s ih = inr (ih s)
    go (Decide other Commit) (inl e) ih = inl (ap (λ z. Decide z Commit) e)
    go (Decide other Commit) (inr s) ih = inr (ih s)
    go (Decide other (Abort shard cause)) s ih = inr (ih s)

-- A place in the order: the history before the transaction's first decision to commit, in which those before it in the
-- order are decided to commit.
pub record IsOrdered (h : List Note) (before : List TxId) (txn : TxId) : Type 0 where
  pub earlier : List Note
  pub later : List Note
  pub is : h ≡ earlier ++ (Decide txn Commit ∷ later)
  pub first : StandsIn (Decide txn Commit) earlier → ⊥
  pub committed : (u : TxId) → StandsIn u before → StandsIn (Decide u Commit) earlier

pub is_ordered : (h : List Note) (before : List TxId) (txn : TxId) (after : List TxId) → order_of h ≡ before ++ (txn ∷ after) → IsOrdered h before txn
is_ordered h before txn after e =
    let f : FirstStands (filter_map commit_in h) before txn = first_stands (filter_map commit_in h) before txn after e in
    let c : CommitStands h f.front txn = commit_stands h f.front txn f.back f.is in
    record {
      earlier = c.front;
      later = c.back;
      is = c.is;
      first = λ s. f.new (subst (λ zs. StandsIn txn zs) c.told (commit-told c.front txn s));
      committed = λ u s. told-commit c.front u (subst (λ zs. StandsIn u zs) (sym c.told) (f.among u s));
    }
