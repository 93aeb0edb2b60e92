-- Versions of an object rise along the order.
use Rattle.std.specs.Prelude.{◌≡◌, ◌<◌, ℕ, true, List, ◌∷◌, ◌++◌, Some}
use Rattle.tcs_terms.specs.declared.ids.TxId.{TxId}
use Rattle.tcs_terms.specs.declared.inputs.Note.{Note}
use Rattle.tcs_terms.specs.Payloads.{Accesses}
use Rattle.tcs_laws.specs.Writing.{writes_name}
use Rattle.protocol.specs.History.{order_of, payload_in}

-- of two committed transactions that write one object, the one that stands later in the order has the greater commit
-- version
abbrev pub VersionsRise : List Note → Type 0
VersionsRise h = (front : List TxId) (x : TxId) (between : List TxId) (y : TxId) (back : List TxId) (old new : Accesses) (name : List ℕ)
    → order_of h ≡ front ++ (x ∷ (between ++ (y ∷ back))) → payload_in h x ≡ Some old → payload_in h y ≡ Some new
    → writes_name old.writes name ≡ true → writes_name new.writes name ≡ true → old.version < new.version
