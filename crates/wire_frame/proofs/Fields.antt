-- What it means that a part is read as it is spelled, and how such parts follow each other.
use Rattle.std.proofs.Common.{◌≡◌, ℕ, zero, suc, ◌+◌, ◌<◌, Bool, true, false, cond, List, [], ◌∷◌, ◌++◌, length, get_or, take, drop, Result, Ok, Err, refl, sym, ap, subst, ◌∙◌, append_assoc, arith, inl, inr}
use Rattle.std.specs.Prelude.{IsTrue}
use Rattle.std.specs.List.{flat_map}
use Rattle.std.proofs.lemmas.Bool.{cases_lt}
use Rattle.std.proofs.lemmas.List.{get_or-drop, get_or-take, get_or_past, length-take}
use Rattle.wire_frame.specs.declared.faults.FrameReason.{FrameReason}
use Rattle.wire_frame.specs.declared.faults.Fault.{Fault}
use Rattle.wire_frame.specs.Reading.{Reads, fault_at, ◌>>=◌, tested, each_at}

pub regroup3 : (a b c d : List ℕ) → ((a ++ b) ++ c) ++ d ≡ a ++ (b ++ (c ++ d))
regroup3 a b c d = simp append_assoc

pub regroup4 : (a b c d e : List ℕ) → (((a ++ b) ++ c) ++ d) ++ e ≡ a ++ (b ++ (c ++ (d ++ e)))
regroup4 a b c d e = simp append_assoc

pub regroup5 : (a b c d e f : List ℕ) → ((((a ++ b) ++ c) ++ d) ++ e) ++ f ≡ a ++ (b ++ (c ++ (d ++ (e ++ f))))
regroup5 a b c d e f = simp append_assoc

abbrev pub IsBytes : List ℕ → Type 0
IsBytes bytes = (i : ℕ) → get_or bytes i 0 < 256

pub IsBytes-drop : (n : ℕ) (bytes : List ℕ) → IsBytes bytes → IsBytes (drop n bytes)
IsBytes-drop n bytes h i = rw get_or-drop (h (n + i))

pub IsBytes-take : (n : ℕ) (bytes : List ℕ) → IsBytes bytes → IsBytes (take n bytes)
IsBytes-take n bytes h i =
    elim (cases_lt i n) [
      | inl lt ↦ rw (get_or-take n bytes i 0 lt) (h i)
      | inr le ↦ rw (get_or_past (take n bytes) i 0 (omega (arith, length-take n bytes))) (omega arith)
    ]

pub IsBytes-rest : (b : ℕ) (bytes : List ℕ) → IsBytes (b ∷ bytes) → IsBytes bytes
IsBytes-rest b bytes h i = h (suc i)

-- the bytes are a text and the rest
pub record Takes (bytes text rest : List ℕ) : Type 0 where
  pub parts : bytes ≡ text ++ rest
  pub rest_fits : IsBytes rest

pub Takes-then : (a x b y c : List ℕ) → Takes a x b → Takes b y c → Takes a (x ++ y) c
Takes-then a x b y c p q = record { parts = p.parts ∙ ap (λ (t : List ℕ). x ++ t) q.parts ∙ sym (append_assoc x y c); rest_fits = q.rest_fits }

pub nothing_yet : (bytes : List ℕ) → IsBytes bytes → Takes bytes [] bytes
nothing_yet bytes fits = record { parts = refl; rest_fits = fits }

-- the first byte was read
pub after_first : (b : ℕ) (bytes : List ℕ) → IsBytes (b ∷ bytes) → Takes (b ∷ bytes) (b ∷ []) bytes
after_first b bytes fits = record { parts = refl; rest_fits = IsBytes-rest b bytes fits }

-- what is read is spelled so and is good, and what is good is read again
pub record IsField {X : Type 0} (spell : X → List ℕ) (good : X → Type 0) (read : List ℕ → Reads X) : Type 0 where
  pub takes : (bytes : List ℕ) (x : X × List ℕ) → IsBytes bytes → read bytes ≡ Ok x → Takes bytes (spell x.0) x.1 × good x.0
  pub again : (x : X) (rest : List ℕ) → good x → read (spell x ++ rest) ≡ Ok (x, rest)

pub bind_ok : {A B : Type 0} (r : Result A Fault) (f : A → Result B Fault) (y : B) → (r >>= f) ≡ Ok y → (x : A) × (r ≡ Ok x) × (f x ≡ Ok y)
bind_ok (Ok x) f y e = (x, refl, e)
bind_ok (Err d) f y e = absurd cc

abbrev ok : {A : Type 0} → A → Result A Fault
ok x = Ok x

pub ok_is : {A : Type 0} (x y : A) → ok x ≡ ok y → x ≡ y
ok_is x y e = cc

-- a part was read, and reading goes on
pub on : {X Y C : Type 0} {spell : X → List ℕ} {good : X → Type 0} {read : List ℕ → Reads X} (field : IsField spell good read) (go : X × List ℕ → Result Y Fault) (y : Y) (bytes front mid : List ℕ)
    → Takes bytes front mid → (read mid >>= go) ≡ Ok y
    → ((x : X) (rest : List ℕ) → Takes bytes (front ++ spell x) rest → good x → go (x, rest) ≡ Ok y → C) → C
on {spell = spell} {read = read} field go y bytes front mid so_far e and_then =
    let b = bind_ok (read mid) go y e in
    let t = field.takes mid b.0 so_far.rest_fits b.1 in
    and_then b.0.0 b.0.1 (Takes-then bytes front mid (spell b.0.0) b.0.1 so_far t.0) t.1 b.2

-- all parts were read
pub all_read : {X : Type 0} (spell : X → List ℕ) (good : X → Type 0) (bytes : List ℕ) (x : X) (rest : List ℕ) (y : X × List ℕ)
    → ok (x, rest) ≡ Ok y → Takes bytes (spell x) rest → good x → Takes bytes (spell y.0) y.1 × good y.0
all_read spell good bytes x rest y e takes is = subst (λ (z : _). Takes bytes (spell z.0) z.1 × good z.0) (ok_is (x, rest) y e) (takes, is)

-- a good part is read, and reading goes on after it
pub goes : {X Y : Type 0} {spell : X → List ℕ} {good : X → Type 0} {read : List ℕ → Reads X} (field : IsField spell good read) (go : X × List ℕ → Result Y Fault) (x : X) (rest : List ℕ)
    → good x → (read (spell x ++ rest) >>= go) ≡ go (x, rest)
goes field go x rest is = ap (λ r. r >>= go) (field.again x rest is)

-- ---- a part that is tested

pub tested_ok : {X : Type 0} (b : Bool) (d : Fault) (x y : X) → cond b (Ok x) (Err d) ≡ Ok y → (b ≡ true) × (x ≡ y)
tested_ok true d x y e = (refl, cc)
tested_ok false d x y e = absurd cc

pub tested_field : {X : Type 0} {spell : X → List ℕ} {good : X → Type 0} {read : List ℕ → Reads X} (reason : FrameReason) (test : X → Bool)
    → IsField spell good read → IsField spell (λ x. good x × IsTrue (test x)) (tested reason test read)
tested_field {spell = spell} {good = good} {read = read} reason test field = record {
  takes = λ bytes x fits e.
      let b = bind_ok (read bytes) (λ x. cond (test x.0) (Ok x) (Err (fault_at reason bytes))) x e in
      let t = tested_ok (test b.0.0) (fault_at reason bytes) b.0 x b.2 in
      let f = field.takes bytes b.0 fits b.1 in
      subst (λ (y : _). Takes bytes (spell y.0) y.1 × (good y.0 × IsTrue (test y.0))) t.1 (f.0, (f.1, t.0));
  again = λ x rest is. goes field (λ y. cond (test y.0) (Ok y) (Err (fault_at reason (spell x ++ rest)))) x rest is.0 ∙ rw is.1 refl;
}

-- the same part, with what is good said in another way
pub restated : {X : Type 0} {spell : X → List ℕ} {good : X → Type 0} {read : List ℕ → Reads X} (also : X → Type 0) → ((x : X) → good x → also x) → ((x : X) → also x → good x)
    → IsField spell good read → IsField spell also read
restated also there back field = record {
  takes = λ bytes x fits e. let t = field.takes bytes x fits e in (t.0, there x.0 t.1);
  again = λ x rest is. field.again x rest (back x is);
}

-- ---- parts one after the other

-- each part is good by what is known of those before it
abbrev pub Chain : {K X : Type 0} → (K → X → Type 0) → (K → X → K) → K → List X → Type 0
Chain good more known [] = Unit {0}
Chain good more known (x ∷ xs) = good known x × Chain good more (more known x) xs

pub each_takes : {K X : Type 0} {spell : X → List ℕ} {good : K → X → Type 0} {one : K → List ℕ → Reads X} (more : K → X → K) → ((known : K) → IsField spell (good known) (one known))
    → (n : ℕ) (known : K) (bytes : List ℕ) (x : List X × List ℕ) → IsBytes bytes → each_at one more n known bytes ≡ Ok x → Takes bytes (flat_map spell x.0) x.1 × (length x.0 ≡ n) × Chain good more known x.0
unfolding each_at
each_takes {spell = spell} {good = good} more field zero known bytes x fits e =
    subst (λ (y : _). Takes bytes (flat_map spell y.0) y.1 × (length y.0 ≡ 0) × Chain good more known y.0) (ok_is ([], bytes) x e) (nothing_yet bytes fits, refl, tt)
each_takes {spell = spell} {good = good} {one = one} more field (suc n) known bytes x fits e =
    let a = bind_ok (one known bytes) (λ first. each_at one more n (more known first.0) first.1 >>= λ others. Ok (first.0 ∷ others.0, others.1)) x e in
    let b = bind_ok (each_at one more n (more known a.0.0) a.0.1) (λ others. Ok (a.0.0 ∷ others.0, others.1)) x a.2 in
    let first = (field known).takes bytes a.0 fits a.1 in
    let second = each_takes more field n (more known a.0.0) a.0.1 b.0 first.0.rest_fits b.1 in
    let both = Takes-then bytes (spell a.0.0) a.0.1 (flat_map spell b.0.0) b.0.1 first.0 second.0 in
    subst (λ (y : _). Takes bytes (flat_map spell y.0) y.1 × (length y.0 ≡ suc n) × Chain good more known y.0) (ok_is (a.0.0 ∷ b.0.0, b.0.1) x b.2) (both, ap suc second.1, (first.1, second.2))

pub each_again : {K X : Type 0} {spell : X → List ℕ} {good : K → X → Type 0} {one : K → List ℕ → Reads X} (more : K → X → K) → ((known : K) → IsField spell (good known) (one known))
    → (known : K) (xs : List X) (rest : List ℕ) → Chain good more known xs → each_at one more (length xs) known (flat_map spell xs ++ rest) ≡ Ok (xs, rest)
unfolding each_at
each_again more field known [] rest chain = refl
each_again {spell = spell} {one = one} more field known (x ∷ xs) rest chain =
    let regrouped : flat_map spell (x ∷ xs) ++ rest ≡ spell x ++ (flat_map spell xs ++ rest) = append_assoc (spell x) (flat_map spell xs) rest in
    ap (each_at one more (suc (length xs)) known) regrouped
    ∙ goes (field known) (λ first. each_at one more (length xs) (more known first.0) first.1 >>= λ others. Ok (first.0 ∷ others.0, others.1)) x (flat_map spell xs ++ rest) chain.0
    ∙ ap (λ r. r >>= λ others. Ok (x ∷ others.0, others.1)) (each_again more field (more known x) xs rest chain.1)

pub each_field : {K X : Type 0} {spell : X → List ℕ} {good : K → X → Type 0} {one : K → List ℕ → Reads X} (more : K → X → K) → ((known : K) → IsField spell (good known) (one known))
    → (n : ℕ) (known : K) → IsField (flat_map spell) (λ xs. (length xs ≡ n) × Chain good more known xs) (each_at one more n known)
each_field {spell = spell} {one = one} more field n known = record {
  takes = λ bytes x fits e. let t = each_takes more field n known bytes x fits e in (t.0, (t.1, t.2));
  again = λ xs rest is. subst (λ (k : ℕ). each_at one more k known (flat_map spell xs ++ rest) ≡ Ok (xs, rest)) is.0 (each_again more field known xs rest is.1);
}
