-- What the configuration service sends: configurations that are stored then, and refusals.
use Rattle.std.proofs.Common.{◌≡◌, ℕ, List, [], ◌∷◌, ◌++◌, inl, inr, sym, subst, refl}
use Rattle.std.specs.List.{range_with_len}
use Rattle.tcs_terms.specs.declared.messages.Message.{Message}
use Rattle.tcs_terms.specs.declared.messages.Message.TheVariants.{ConfigChange, Stored, Refused}
use Rattle.tcs_terms.specs.declared.messages.Outgoing.{Outgoing}
use Rattle.tcs_terms.specs.declared.messages.Why.{Why}
use Rattle.tcs_terms.specs.Places.{Membership}
use Rattle.protocol.specs.Outcomes.{Out, to}
use Rattle.protocol.specs.Service.{tell_nodes}
use Rattle.protocol.specs.Invariant.Time.{StandsIn}
use Rattle.protocol_laws.specs.Change.{Serves}
use Rattle.protocol_laws.specs.Change.Serves.{HoldsBack, Tells, Stores}
use Rattle.protocol_laws.proofs.Sends.{each-notice}
use Rattle.protocol_laws.proofs.Standing.{IsMapped, map-StandsIn, StandsIn-right}

pub data ServiceSays (kept : List Membership) : Message → Type 0 where
  TellsStored : (c : Membership) → StandsIn c kept → ServiceSays kept (Stored c)
  TellsChange : (c : Membership) → StandsIn c kept → ServiceSays kept (ConfigChange c)
  Refuses : (kind : ℕ) (why : Why) (mark : ℕ) → ServiceSays kept (Refused kind why mark)

nodes-said : (kept : List Membership) (nodes : ℕ) (c : Membership) (o : Outgoing) → StandsIn c kept → StandsIn o (tell_nodes nodes c) → ServiceSays kept o.message
unfolding tell_nodes
nodes-said kept nodes c o k s =
    let i : IsMapped (λ node. to node (ConfigChange c)) (range_with_len 1 nodes) o = map-StandsIn (λ node. to node (ConfigChange c)) (range_with_len 1 nodes) o s in
    subst (λ q. ServiceSays kept q.message) (sym i.is) (TellsChange c k)

pub service_says : (nodes : ℕ) (configs : List Membership) (from : ℕ) (message : Message) (out : Out (List Membership)) → Serves nodes configs from message out
    → (o : Outgoing) → StandsIn o out.sends → ServiceSays out.kept o.message
service_says nodes configs from message out (HoldsBack m answer notices n) o s = each-notice (λ o. ServiceSays configs o.message) notices n (λ node kind mark why. Refuses kind why mark) o s
service_says nodes configs from message out (Tells m c k) o (inl e) = subst (λ q. ServiceSays configs q.message) (sym e) (TellsStored c k)
service_says nodes configs from message out (Tells m c k) o (inr s) = absurd s
service_says nodes configs from message out (Stores c last n l e) o (inl q) = subst (λ p. ServiceSays (configs ++ c ∷ []) p.message) (sym q) (TellsStored c (StandsIn-right configs (c ∷ []) c (inl refl)))
service_says nodes configs from message out (Stores c last n l e) o (inr s) = nodes-said (configs ++ c ∷ []) nodes c o (StandsIn-right configs (c ∷ []) c (inl refl)) s

-- it notes nothing
pub serves_no_notes : (nodes : ℕ) (configs : List Membership) (from : ℕ) (message : Message) (out : Out (List Membership)) → Serves nodes configs from message out → out.notes ≡ []
serves_no_notes nodes configs from _ _ (HoldsBack message answer notices a) = refl
serves_no_notes nodes configs from _ _ (Tells message c s) = refl
serves_no_notes nodes configs from _ _ (Stores c last a b e) = refl
