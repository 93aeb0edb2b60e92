-- Whoever leads, goes on leading and has one row more, without payload, was asked to prepare it without payload.
use Rattle.std.proofs.Common.{◌≡◌, ℕ, true, if◌then◌else◌, ◌==◌, List, [], ◌∷◌, ◌++◌, length, None, sym, ◌∙◌, ap, refl, arith, length-append}
use Rattle.std.proofs.lemmas.List.{length-map}
use Rattle.tcs_terms.specs.declared.ids.TxId.{TxId}
use Rattle.tcs_terms.specs.declared.inputs.Handled.TheVariants.{Acted}
use Rattle.tcs_terms.specs.declared.inputs.Input.{Input}
use Rattle.tcs_terms.specs.declared.inputs.Input.TheVariants as inputs
use Rattle.tcs_terms.specs.declared.logs.Row.{Row}
use Rattle.tcs_terms.specs.declared.messages.Message.TheVariants.{Prepare}
use Rattle.tcs_terms.specs.Preparations.{Preparation}
use Rattle.tcs_laws.specs.Certification.{Tests}
use Rattle.protocol.specs.Log.{undecided, set_mark, marked, mark_of}
use Rattle.protocol.specs.Outcomes.{Out}
use Rattle.protocol.specs.Records.{Role, NodeRecord}
use Rattle.protocol.specs.Records.Role.{Fenced, Leader, Follower}
use Rattle.protocol.specs.ShardRules.{is_leader, is_following}
use Rattle.protocol_laws.specs.Effect.{Effect, Rests, Appends, Accepts, Marks, Leads, Follows, Gathers, FollowsPieces}

-- an input that asks to prepare a transaction without payload, and that acted
pub record AsksWithout (txn : TxId) (input : Input) (out : Out NodeRecord) : Type 0 where
  pub from : ℕ
  pub epoch : ℕ
  pub shards : List ℕ
  pub is : input ≡ inputs.Deliver from (Prepare epoch txn shards None)
  pub acted : out.answer ≡ Acted

-- as many rows are not one more
more_rows : (rows others : List Row) (entry : Preparation) → length others ≡ length rows → others ≡ rows ++ undecided entry ∷ [] → ⊥
more_rows rows others entry l h = omega (arith, l, ap length h ∙ length-append rows (undecided entry ∷ []))

pub one_more : (rows : List Row) (entry : Preparation) → rows ≡ rows ++ undecided entry ∷ [] → ⊥
one_more rows entry h = more_rows rows rows entry refl h

same_last : (rows : List Row) (a b : Preparation) → rows ++ undecided a ∷ [] ≡ rows ++ undecided b ∷ [] → a ≡ b
same_last [] a b h = let q : undecided a ≡ undecided b = cc h in ap (λ r. r.entry) q
same_last (r ∷ rs) a b h = same_last rs a b (cc h)

follower : (role : Role) → is_leader role ≡ true → is_following role ≡ true → ⊥
follower Fenced l f = cc l
follower (Leader c) l f = cc f
follower (Follower c) l f = cc l

pub effect_appends : (tests : Tests) (version : ℕ) (node : NodeRecord) (input : Input) (out : Out NodeRecord) (entry : Preparation) → Effect tests version node input out
    → is_leader node.role ≡ true → out.kept.role ≡ node.role → out.kept.rows ≡ node.rows ++ undecided entry ∷ [] → entry.payload ≡ None → AsksWithout entry.txn input out
effect_appends tests version node i o entry (Rests input answer notices h) l s more none = absurd (one_more node.rows entry more)
effect_appends tests version node i o entry (Appends from epoch txn shards part a b c d g made e) l s more none =
    let same : made ≡ entry = same_last node.rows made entry more in
    let txns : txn ≡ entry.txn = ap (λ x. x.txn) (sym e ∙ same) in
    let parts : part ≡ None = ap (λ x. x.payload) (sym e ∙ same) ∙ none in
    record { from = from; epoch = epoch; shards = shards; is = ap (λ x. inputs.Deliver from (Prepare epoch x shards part)) txns ∙ ap (λ x. inputs.Deliver from (Prepare epoch entry.txn shards x)) parts; acted = refl }
effect_appends tests version node i o entry (Accepts from epoch x a b t) l s more none = absurd (follower node.role l a)
effect_appends tests version node i o entry (Marks from epoch slot txn commit a b) l s more none = absurd (more_rows node.rows (marked node.rows slot (mark_of commit)) entry (length-map node.rows (λ r. if r.entry.slot == slot then set_mark (mark_of commit) r else r)) more)
effect_appends tests version node i o entry (Leads from config a b c d) l s more none = absurd (cc (l, ap (λ x. is_leader x) b))
effect_appends tests version node i o entry (Follows from config rows a b) l s more none = absurd (cc (l, ap (λ x. is_leader x) s))
effect_appends tests version node i o entry (Gathers from config number pieces rows gathering a b c d e) l s more none = absurd (one_more node.rows entry more)
effect_appends tests version node i o entry (FollowsPieces from config number pieces rows gathering a b c d e) l s more none = absurd (cc (l, ap (λ x. is_leader x) s))
effect_appends tests version node i o entry _ l s more none = absurd (one_more node.rows entry more)
