-- What an index map has under a key, in the words of the rules.
use Rattle.std.proofs.Common.{◌≡◌, refl, ap, ◌∙◌, Bool, true, false, List, [], ◌∷◌, Option, Some, None}
use Rattle.std.specs.Prelude.{if◌then◌else◌, ◌==◌, ◌&&◌}
use Rattle.std.specs.Map.{lookup}
use Rattle.indexmap.specs.IndexMap.{insert_entry}
use Rattle.quorum_protocol.specs.declared.terms.Place.{Place}
use Rattle.quorum_protocol.specs.Ballots.{get, put, same_place}

pub lookup_gets : {K X : Type 0} (same : K → K → Bool) (es : List (K × X)) (k : K) → lookup (same k) es ≡ get same es k
lookup_gets same [] k = refl
lookup_gets same (e ∷ es) k = ap (λ o. if same k e.0 then Some e.1 else o) (lookup_gets same es k)

pub insert_puts : {K X : Type 0} (same : K → K → Bool) (es : List (K × X)) (k : K) (x : X) → insert_entry same es k x ≡ put same es k x
insert_puts same [] k x = refl
insert_puts same (e ∷ es) k x = ap (λ os. if same k e.0 then (e.0, x) ∷ es else e ∷ os) (insert_puts same es k x)

-- ---- places, whose three numbers are compared from the right

abbrev pub is_place : Place → Place → Bool
is_place p q = (p.acceptor == q.acceptor) && ((p.shard == q.shard) && (p.epoch == q.epoch))

both_ways : (x y z : Bool) → (x && (y && z)) ≡ ((x && y) && z)
both_ways true y z = refl
both_ways false y z = refl

pub lookup_place : {X : Type 0} (es : List (Place × X)) (k : Place) → lookup (is_place k) es ≡ get same_place es k
lookup_place [] k = refl
lookup_place (e ∷ es) k =
    ap (λ (o : Option _). if is_place k e.0 then Some e.1 else o) (lookup_place es k)
    ∙ ap (λ (b : Bool). if b then Some e.1 else get same_place es k) (both_ways (k.acceptor == e.0.acceptor) (k.shard == e.0.shard) (k.epoch == e.0.epoch))

pub insert_place : {X : Type 0} (es : List (Place × X)) (k : Place) (x : X) → insert_entry is_place es k x ≡ put same_place es k x
insert_place [] k x = refl
insert_place (e ∷ es) k x =
    ap (λ (os : List (Place × _)). if is_place k e.0 then (e.0, x) ∷ es else e ∷ os) (insert_place es k x)
    ∙ ap (λ (b : Bool). if b then (e.0, x) ∷ es else e ∷ put same_place es k x) (both_ways (k.acceptor == e.0.acceptor) (k.shard == e.0.shard) (k.epoch == e.0.epoch))
