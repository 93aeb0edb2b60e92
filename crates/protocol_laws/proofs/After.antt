-- The nodes and messages of a world after a node or the service acted: what was there, and what is new.
use Rattle.std.proofs.Common.{◌≡◌, ℕ, Bool, true, false, cond, List, [], ◌∷◌, ◌++◌, ◌==◌, ◌⊎◌, inl, inr, sym, ◌∙◌, ap, refl, eqb-true, eq-eqb}
use Rattle.tcs_terms.specs.declared.messages.Outgoing.{Outgoing}
use Rattle.protocol.specs.Records.{NodeRecord}
use Rattle.protocol.specs.World.{Sent, put_node, sent_by}
use Rattle.protocol.specs.Invariant.Time.{StandsIn}
use Rattle.protocol.proofs.Lists.{StandsIn-append}
use Rattle.protocol_laws.proofs.Standing.{IsMapped, map-StandsIn}

-- a node after one was put in its place: that one, or another one as it was
pub put_node-back : (node : NodeRecord) (nodes : List NodeRecord) (new : NodeRecord) → StandsIn new (put_node node nodes)
    → (new ≡ node) ⊎ (StandsIn new nodes × (new.name ≡ node.name → ⊥))
put_node-back node [] new s = absurd s
put_node-back node (x ∷ xs) new (inl e) = go (x.name == node.name) refl e
  where
    go : (b : Bool) → (x.name == node.name) ≡ b → new ≡ cond b node x → (new ≡ node) ⊎ (StandsIn new (x ∷ xs) × (new.name ≡ node.name → ⊥))
    go true k q = inl q
    go false k q = inr (inl q, λ n. absurd (cc (k, eq-eqb x.name node.name (ap (λ m. m.name) (sym q) ∙ n))))
put_node-back node (x ∷ xs) new (inr s) = elim (put_node-back node xs new s) [
  | inl e ↦ inl e
  | inr r ↦ inr (inr r.0, r.1)
]

-- the node that was put stands there, where one of its name stood
pub put_node-there : (node old : NodeRecord) (nodes : List NodeRecord) → StandsIn old nodes → old.name ≡ node.name → StandsIn node (put_node node nodes)
put_node-there node old [] s e = absurd s
put_node-there node old (x ∷ xs) (inl q) e = inl (sym (ap (λ b. cond b node x) (eq-eqb x.name node.name (ap (λ m. m.name) (sym q) ∙ e))))
put_node-there node old (x ∷ xs) (inr s) e = inr (put_node-there node old xs s e)

-- every other node stays
pub put_node-other : (node other : NodeRecord) (nodes : List NodeRecord) → StandsIn other nodes → (other.name ≡ node.name → ⊥) → StandsIn other (put_node node nodes)
put_node-other node other [] s e = absurd s
put_node-other node other (x ∷ xs) (inl q) e = inl (go (x.name == node.name) refl)
  where
    go : (b : Bool) → (x.name == node.name) ≡ b → other ≡ cond b node x
    go true k = absurd (e (ap (λ m. m.name) q ∙ eqb-true x.name node.name k))
    go false k = q
put_node-other node other (x ∷ xs) (inr s) e = inr (put_node-other node other xs s e)

-- a message that was just sent
pub record IsNew (from : ℕ) (sends : List Outgoing) (s : Sent) : Type 0 where
  pub outgoing : Outgoing
  pub among : StandsIn outgoing sends
  pub is : s ≡ record { from = from; to = outgoing.to; message = outgoing.message }

-- a message after some were sent: an old one, or one of those
pub sent-back : (messages : List Sent) (from : ℕ) (sends : List Outgoing) (s : Sent) → StandsIn s (messages ++ sent_by from sends) → StandsIn s messages ⊎ IsNew from sends s
sent-back messages from sends s h = elim (StandsIn-append messages (sent_by from sends) s h) [
  | inl old ↦ inl old
  | inr new ↦ inr (among new)
]
  where
    among : StandsIn s (sent_by from sends) → IsNew from sends s
    among new =
        let m : IsMapped (λ o. record { from = from; to = o.to; message = o.message }) sends s = map-StandsIn (λ o. record { from = from; to = o.to; message = o.message }) sends s new in
        record { outgoing = m.from; among = m.there; is = m.is }
