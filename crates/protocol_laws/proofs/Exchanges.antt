-- Neighbours of a list that may commit may be exchanged where the first one passes against the second; the order of a
-- legal history is such a list.
use Rattle.std.proofs.Common.{◌≡◌, Bool, true, false, cond, ◌&&◌, List, [], ◌∷◌, ◌++◌, Option, Some, None, is_some, sym, ◌∙◌, ap, subst, refl}
use Rattle.std.specs.List.{cons_option, list_all}
use Rattle.std.proofs.lemmas.Bool.{and_from, false_from_ne_true}
use Rattle.std.proofs.lemmas.List.Folds.{list_all-append}
use Rattle.tcs_terms.specs.declared.ids.TxId.{TxId}
use Rattle.tcs_terms.specs.declared.inputs.Note.{Note}
use Rattle.tcs_terms.specs.declared.payloads.WritePart.{WritePart}
use Rattle.tcs_terms.specs.Payloads.{Accesses, IsPayload, same_name}
use Rattle.tcs_terms.specs.Shards.{seen}
use Rattle.tcs_terms.proofs.BoolLaws.{left_of, right_of}
use Rattle.tcs_laws.specs.Certification.{Tests, committed_passes}
use Rattle.tcs_laws.specs.Laws.{IsLawful}
use Rattle.tcs_laws.specs.Writing.{writes_name}
use Rattle.tcs_laws.proofs.SightLaws.{none_below}
use Rattle.cert_commute.specs.Commute.{adds_to, commute, truly_seen, writes_truly_seen}
use Rattle.protocol.specs.CorrectHistory.{is_legal, passes_after}
use Rattle.protocol.specs.History.{order_of, payload_in, payloads_of}
use Rattle.protocol.specs.Invariant.Time.{StandsIn}
use Rattle.protocol.specs.Past.{after_past}
use Rattle.protocol_laws.specs.Exchange.{may_commit, OnlyAdds}
use Rattle.protocol_laws.proofs.LegalOrder.{payloads-append, payloads-first}
use Rattle.protocol_laws.proofs.NamesOnce.{same_name-self}
use Rattle.protocol_laws.proofs.Standing.{Passing, any-from, any-Passing}

-- whether one passes against those before it
abbrev Passes : Tests → List Accesses → Accesses → Type 0
Passes tests past x = committed_passes tests past x ≡ true

passes_both : (tests : Tests) (xs ys : List Accesses) (x : Accesses) → Passes tests xs x → Passes tests ys x → Passes tests (xs ++ ys) x
passes_both tests xs ys x p q =
    list_all-append (λ old. tests.committed_ok old x) xs ys ∙ and_from (committed_passes tests xs x) (committed_passes tests ys x) p q

passes_first : (tests : Tests) (xs ys : List Accesses) (x : Accesses) → Passes tests (xs ++ ys) x → Passes tests xs x
passes_first tests xs ys x p = left_of (committed_passes tests xs x) (committed_passes tests ys x) (sym (list_all-append (λ old. tests.committed_ok old x) xs ys) ∙ p)

passes_second : (tests : Tests) (xs ys : List Accesses) (x : Accesses) → Passes tests (xs ++ ys) x → Passes tests ys x
passes_second tests xs ys x p = right_of (committed_passes tests xs x) (committed_passes tests ys x) (sym (list_all-append (λ old. tests.committed_ok old x) xs ys) ∙ p)

-- whatever passes against some passes against others
abbrev Serves : Tests → List Accesses → List Accesses → Type 0
Serves tests past others = (x : Accesses) → Passes tests past x → Passes tests others x

-- those that come after may come after the others
after_others : (tests : Tests) (past others back : List Accesses) → Serves tests past others
    → list_all (λ e. committed_passes tests e.0 e.1) (after_past past back) ≡ true → list_all (λ e. committed_passes tests e.0 e.1) (after_past others back) ≡ true
after_others tests past others [] s h = refl
after_others tests past others (y ∷ ys) s h =
    and_from (committed_passes tests others y) (list_all (λ e. committed_passes tests e.0 e.1) (after_past (others ++ y ∷ []) ys))
    (s y (left_of (committed_passes tests past y) (list_all (λ e. committed_passes tests e.0 e.1) (after_past (past ++ y ∷ []) ys)) h))
    (after_others tests (past ++ y ∷ []) (others ++ y ∷ []) ys
    (λ x p. passes_both tests others (y ∷ []) x (s x (passes_first tests past (y ∷ []) x p)) (passes_second tests past (y ∷ []) x p))
    (right_of (committed_passes tests past y) (list_all (λ e. committed_passes tests e.0 e.1) (after_past (past ++ y ∷ []) ys)) h))

turned : (tests : Tests) (past : List Accesses) (a b : Accesses) → Serves tests ((past ++ a ∷ []) ++ b ∷ []) ((past ++ b ∷ []) ++ a ∷ [])
turned tests past a b x p =
    let first : Passes tests (past ++ a ∷ []) x = passes_first tests (past ++ a ∷ []) (b ∷ []) x p in
    passes_both tests (past ++ b ∷ []) (a ∷ []) x
    (passes_both tests past (b ∷ []) x (passes_first tests past (a ∷ []) x first) (passes_second tests (past ++ a ∷ []) (b ∷ []) x p))
    (passes_second tests past (a ∷ []) x first)

exchange_after : (tests : Tests) (past front : List Accesses) (a b : Accesses) (back : List Accesses) → tests.committed_ok b a ≡ true
    → list_all (λ e. committed_passes tests e.0 e.1) (after_past past (front ++ (a ∷ b ∷ back))) ≡ true → list_all (λ e. committed_passes tests e.0 e.1) (after_past past (front ++ (b ∷ a ∷ back))) ≡ true
exchange_after tests past [] a b back ok h =
    let rest_ab : Bool = list_all (λ e. committed_passes tests e.0 e.1) (after_past ((past ++ a ∷ []) ++ b ∷ []) back) in
    let rest_ba : Bool = list_all (λ e. committed_passes tests e.0 e.1) (after_past ((past ++ b ∷ []) ++ a ∷ []) back) in
    let first : Passes tests past a = left_of (committed_passes tests past a) (committed_passes tests (past ++ a ∷ []) b && rest_ab) h in
    let later : (committed_passes tests (past ++ a ∷ []) b && rest_ab) ≡ true = right_of (committed_passes tests past a) (committed_passes tests (past ++ a ∷ []) b && rest_ab) h in
    let second : Passes tests (past ++ a ∷ []) b = left_of (committed_passes tests (past ++ a ∷ []) b) rest_ab later in
    and_from (committed_passes tests past b) (committed_passes tests (past ++ b ∷ []) a && rest_ba) (passes_first tests past (a ∷ []) b second)
    (and_from (committed_passes tests (past ++ b ∷ []) a) rest_ba
    (passes_both tests past (b ∷ []) a first (and_from (tests.committed_ok b a) true ok refl))
    (after_others tests ((past ++ a ∷ []) ++ b ∷ []) ((past ++ b ∷ []) ++ a ∷ []) back (turned tests past a b) (right_of (committed_passes tests (past ++ a ∷ []) b) rest_ab later)))
exchange_after tests past (f ∷ fs) a b back ok h =
    and_from (committed_passes tests past f) (list_all (λ e. committed_passes tests e.0 e.1) (after_past (past ++ f ∷ []) (fs ++ (b ∷ a ∷ back))))
    (left_of (committed_passes tests past f) (list_all (λ e. committed_passes tests e.0 e.1) (after_past (past ++ f ∷ []) (fs ++ (a ∷ b ∷ back)))) h)
    (exchange_after tests (past ++ f ∷ []) fs a b back ok (right_of (committed_passes tests past f) (list_all (λ e. committed_passes tests e.0 e.1) (after_past (past ++ f ∷ []) (fs ++ (a ∷ b ∷ back)))) h))

pub exchange-prepared : (tests : Tests) (front : List Accesses) (a b : Accesses) (back : List Accesses) → IsLawful tests → IsPayload a → IsPayload b → tests.prepared_ok b a ≡ true
    → may_commit tests (front ++ (a ∷ b ∷ back)) ≡ true → may_commit tests (front ++ (b ∷ a ∷ back)) ≡ true
exchange-prepared tests front a b back lawful p q ok h = exchange_after tests [] front a b back (lawful.prepared_commits b a q p ok) h

pub exchange-unread : (front : List Accesses) (a b : Accesses) (back : List Accesses) → writes_truly_seen b a ≡ false
    → may_commit commute (front ++ (a ∷ b ∷ back)) ≡ true → may_commit commute (front ++ (b ∷ a ∷ back)) ≡ true
exchange-unread front a b back unread h = exchange_after commute [] front a b back (none_below truly_seen b a unread) h

-- what is only added to is not truly read
only-unread : (writer reader : Accesses) → OnlyAdds writer reader → writes_truly_seen writer reader ≡ false
only-unread writer reader only =
    false_from_ne_true (writes_truly_seen writer reader) (λ h. seen_by (any-Passing (λ w. is_some (truly_seen reader w.name)) writer.writes h))
  where
    at : (w : WritePart) → StandsIn w writer.writes → (a : Bool) → adds_to reader w.name ≡ a → is_some (cond a None (seen reader w.name)) ≡ true → ⊥
    at w there true e p = cc p
    at w there false e p =
        let written : writes_name writer.writes w.name ≡ true = any-from (λ v. same_name v.name w.name) writer.writes w there (same_name-self w.name) in
        let adds : adds_to reader w.name ≡ true = (only w.name written p).1 in
        cc (adds, e)

    seen_by : Passing (λ w. is_some (truly_seen reader w.name)) writer.writes → ⊥
    seen_by k = at k.one k.there (adds_to reader k.one.name) refl k.passes

pub exchange-additions : (front : List Accesses) (a b : Accesses) (back : List Accesses) → OnlyAdds b a
    → may_commit commute (front ++ (a ∷ b ∷ back)) ≡ true → may_commit commute (front ++ (b ∷ a ∷ back)) ≡ true
exchange-additions front a b back only h = exchange-unread front a b back (only-unread b a only) h

-- the payloads of a legal order may commit in it
legal-after : (tests : Tests) (h : List Note) (past ts : List TxId) → list_all (λ e. passes_after tests (payloads_of h e.0) (payload_in h e.1)) (after_past past ts) ≡ true
    → list_all (λ e. committed_passes tests e.0 e.1) (after_past (payloads_of h past) (payloads_of h ts)) ≡ true
legal-after tests h past [] l = refl
legal-after tests h past (t ∷ ts) l = go (payload_in h t) refl l (legal-after tests h (past ++ t ∷ []) ts)
  where
    legal_from : List TxId → Bool
    legal_from us = list_all (λ e. passes_after tests (payloads_of h e.0) (payload_in h e.1)) (after_past us ts)

    may_from : List Accesses → Bool
    may_from ps = list_all (λ e. committed_passes tests e.0 e.1) (after_past ps (payloads_of h ts))

    go : (o : Option Accesses) → payload_in h t ≡ o → (passes_after tests (payloads_of h past) o && legal_from (past ++ t ∷ [])) ≡ true
        → (legal_from (past ++ t ∷ []) ≡ true → may_from (payloads_of h (past ++ t ∷ [])) ≡ true)
        → list_all (λ e. committed_passes tests e.0 e.1) (after_past (payloads_of h past) (cons_option o (payloads_of h ts))) ≡ true
    go None e k ih = absurd (cc k)
    go (Some p) e k ih =
        let longer : payloads_of h (past ++ t ∷ []) ≡ payloads_of h past ++ p ∷ [] =
        payloads-append h past (t ∷ []) ∙ ap (λ ps. payloads_of h past ++ ps) (payloads-first h t [] p e) in
        and_from (committed_passes tests (payloads_of h past) p) (may_from (payloads_of h past ++ p ∷ []))
        (left_of (committed_passes tests (payloads_of h past) p) (legal_from (past ++ t ∷ [])) k)
        (subst (λ ps. may_from ps ≡ true) longer (ih (right_of (committed_passes tests (payloads_of h past) p) (legal_from (past ++ t ∷ [])) k)))

pub legal-may_commit : (tests : Tests) (h : List Note) → is_legal tests h ≡ true → may_commit tests (payloads_of h (order_of h)) ≡ true
legal-may_commit tests h l = legal-after tests h [] (order_of h) l
