-- What one copy of the data has of an object: what the last payload that writes it wrote.
use Rattle.std.proofs.Common.{◌≡◌, ℕ, Bool, true, false, List, [], ◌∷◌, ◌++◌, ◌||◌, cond, find, fold, Some, None, inl, inr, ◌∙◌, ap, refl}
use Rattle.std.proofs.lemmas.List.Sums.{fold-append}
use Rattle.tcs_terms.specs.declared.payloads.WritePart.{WritePart}
use Rattle.tcs_terms.specs.Payloads.{Accesses, same_name}
use Rattle.tcs_laws.specs.Writing.{writes_name}
use Rattle.protocol.specs.Invariant.Time.{StandsIn}
use Rattle.protocol.specs.OneCopy.{Copied, overwritten, copy_after}

-- an object of the copy after one more payload
abbrev written_by : List ℕ → Copied → Accesses → Copied
written_by name old p = overwritten old p.version (find (λ w. same_name w.name name) p.writes)

-- what does not write an object leaves it
unwritten : (name : List ℕ) (ws : List WritePart) → writes_name ws name ≡ false → find (λ w. same_name w.name name) ws ≡ None
unwritten name [] h = refl
unwritten name (w ∷ ws) h = go (same_name w.name name) h (unwritten name ws)
  where
    go : (b : Bool) → (b || writes_name ws name) ≡ false → (writes_name ws name ≡ false → find (λ w. same_name w.name name) ws ≡ None) → cond b (Some w) (find (λ w. same_name w.name name) ws) ≡ None
    go true k ih = absurd (cc k)
    go false k ih = ih k

untouched : (name : List ℕ) (old : Copied) (ps : List Accesses) → ((p : Accesses) → StandsIn p ps → writes_name p.writes name ≡ false) → fold (written_by name) old ps ≡ old
untouched name old [] h = refl
untouched name old (p ∷ ps) h =
    ap (λ o. fold (written_by name) (overwritten old p.version o) ps) (unwritten name p.writes (h p (inl refl)))
    ∙ untouched name old ps (λ q s. h q (inr s))

-- an object that nobody writes
pub copy-unwritten : (name : List ℕ) (ps : List Accesses) → ((p : Accesses) → StandsIn p ps → writes_name p.writes name ≡ false) → copy_after ps name ≡ record { version = 0; value = [] }
copy-unwritten name ps h = untouched name (record { version = 0; value = [] }) ps h

-- an object after its last writer
pub copy-written : (name : List ℕ) (before : List Accesses) (p : Accesses) (after : List Accesses) (w : WritePart) → find (λ v. same_name v.name name) p.writes ≡ Some w
    → ((q : Accesses) → StandsIn q after → writes_name q.writes name ≡ false) → copy_after (before ++ (p ∷ after)) name ≡ record { version = p.version; value = w.value }
copy-written name before p after w f h =
    fold-append (written_by name) (record { version = 0; value = [] }) before (p ∷ after)
    ∙ untouched name (written_by name (copy_after before name) p) after h
    ∙ ap (λ o. overwritten (copy_after before name) p.version o) f
