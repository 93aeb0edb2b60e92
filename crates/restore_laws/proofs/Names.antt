-- Objects whose names differ do not stand in each other's way.
use Rattle.std.proofs.Common.{◌≡◌, ℕ, ◌||◌, Bool, true, false, not, cond, List, [], ◌∷◌, map, find, Option, Some, None, is_some, inr, sym, ap, ap₂, subst, refl, ◌∙◌}
use Rattle.std.proofs.lemmas.Bool.{false_from_ne_true}
use Rattle.tcs_terms.proofs.BoolLaws.{right_of}
use Rattle.tcs_terms.specs.Order.{name_before, names_ascend}
use Rattle.tcs_terms.specs.Payloads.{same_name}
use Rattle.tcs_terms.specs.Shards.{version_seen}
use Rattle.tcs_laws.specs.Votes.{clashes}
use Rattle.cert_serial.specs.Serial.{serial}
use Rattle.protocol.specs.Invariant.Time.{StandsIn}
use Rattle.protocol.specs.Log.{undecided}
use Rattle.protocol.specs.Worked.Words.{reads}
use Rattle.protocol_laws.proofs.NamesOnce.{find-once, same_name-eq, same_name-self}
use Rattle.protocol_laws.proofs.Standing.{StandsIn-map}
use Rattle.backup_machine.specs.declared.objects.Kept.{Kept}
use Rattle.restore_laws.specs.Schedules.{payload_of}
use Rattle.restore_laws.proofs.Worlds.{entry_of}

abbrev pub name_of : Kept → List ℕ
name_of k = k.name

-- objects whose names strictly ascend
abbrev pub Ascend : List Kept → Type 0
Ascend ks = names_ascend (map name_of ks) ≡ true

pub rest_ascends : (k : Kept) (ks : List Kept) → Ascend (k ∷ ks) → Ascend ks
rest_ascends k [] h = refl
rest_ascends k (y ∷ ys) h = right_of (name_before k.name y.name) (names_ascend (map name_of (y ∷ ys))) h

abbrev tagged_name : Bool × Kept → List ℕ
tagged_name e = e.1.name

tagged_names : (ks : List Kept) → map tagged_name (map (λ (y : Kept). (false, y)) ks) ≡ map name_of ks
tagged_names [] = refl
tagged_names (k ∷ ks) = ap (λ (ns : List (List ℕ)). k.name ∷ ns) (tagged_names ks)

-- The first name is none of the others: with the first object marked, a search for another one's name finds that one.
pub first_differs : (k : Kept) (ks : List Kept) (y : Kept) → Ascend (k ∷ ks) → StandsIn y ks → same_name k.name y.name ≡ false
first_differs k ks y h s = false_from_ne_true (same_name k.name y.name) same
  where
    found : find (λ (e : Bool × Kept). same_name (tagged_name e) y.name) ((true, k) ∷ map (λ (z : Kept). (false, z)) ks) ≡ Some (false, y)
    found = find-once tagged_name ((true, k) ∷ map (λ (z : Kept). (false, z)) ks) (false, y)
        (subst (λ (ns : List (List ℕ)). names_ascend (k.name ∷ ns) ≡ true) (sym (tagged_names ks)) h)
        (inr (StandsIn-map (λ (z : Kept). (false, z)) ks y s))

    is_marked : Option (Bool × Kept) → Bool
    is_marked None = false
    is_marked (Some e) = e.0

    same : same_name k.name y.name ≡ true → ⊥
    same e =
        let marked : true ≡ false = ap (λ (b : Bool). is_marked (cond b (Some (true, k)) (find (λ (e : Bool × Kept). same_name (tagged_name e) y.name) (map (λ (z : Kept). (false, z)) ks)))) (sym e) ∙ ap is_marked found in
        absurd (cc marked)

pub differ_turned : (a b : List ℕ) → same_name a b ≡ false → same_name b a ≡ false
differ_turned a b h = false_from_ne_true (same_name b a) (λ e. absurd (cc (sym h ∙ subst (λ c. same_name c b ≡ true) (same_name-eq b a e) (same_name-self b))))

-- a prepared object does not stand in the way of one of another name
pub no_clash : (n : ℕ) (k y : Kept) → same_name k.name y.name ≡ false → clashes serial (undecided (entry_of n (payload_of k))) (payload_of y) ≡ false
no_clash n k y h = ap₂
    (λ (a b : Bool). not (not ((is_some (version_seen (cond a (Some (reads y.name 0)) None) None) || false) || (is_some (version_seen (cond b (Some (reads k.name 0)) None) None) || false))))
    (differ_turned k.name y.name h) h
