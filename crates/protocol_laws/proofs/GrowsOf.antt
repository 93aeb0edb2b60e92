-- A node grows with whatever it does.
use Rattle.std.proofs.Common.{◌≡◌, ℕ, ◌<◌, ◌≤◌, List, [], ◌∷◌, ◌++◌, ◌⊎◌, inl, inr, sym, subst, refl, arith}
use Rattle.std.proofs.lemmas.List.{map-append}
use Rattle.tcs_terms.specs.declared.inputs.Input.{Input}
use Rattle.tcs_terms.specs.declared.inputs.Input.TheVariants as inputs
use Rattle.tcs_terms.specs.declared.logs.Row.{Row}
use Rattle.tcs_terms.specs.declared.messages.Message.TheVariants.{NewConfig}
use Rattle.tcs_terms.specs.Places.{Membership}
use Rattle.tcs_terms.specs.Preparations.{Preparation}
use Rattle.tcs_laws.specs.Certification.{Tests}
use Rattle.protocol.specs.Invariant.Logs.{entries_of}
use Rattle.protocol.specs.Invariant.Promises.{FitsRole}
use Rattle.protocol.specs.Invariant.Time.{StandsIn}
use Rattle.protocol.specs.Log.{undecided, accepted, marked, mark_of}
use Rattle.protocol.specs.Outcomes.{Out}
use Rattle.protocol.specs.Records.{NodeRecord}
use Rattle.protocol.specs.Records.Role.{Fenced}
use Rattle.protocol.specs.ShardRules.{least, with_rows}
use Rattle.protocol_laws.specs.Effect.{Effect, Rests, Certifies, Appends, Accepts, Marks, Promises, Leads, Follows, FollowsPieces}
use Rattle.protocol_laws.specs.Turn.{Grows}
use Rattle.protocol_laws.proofs.EntriesKept.{entries_of-marked, accepted-keeps}
use Rattle.protocol_laws.proofs.Standing.{StandsIn-left}

-- a node that keeps its name, shard, promise, state epoch and rows
same_log : (old new : NodeRecord) → new.name ≡ old.name → new.shard ≡ old.shard → new.promised ≡ old.promised → new.state ≡ old.state → new.rows ≡ old.rows → old.next ≤ new.next → Grows old new
same_log old new n s p st r x = record {
  name = n;
  shard = s;
  promised = omega (arith, p);
  state = inl st;
  next = x;
  entries = λ e y h. subst (λ rows. StandsIn y (entries_of rows)) (sym r) h;
}

-- a node that keeps those, and the number of its next transaction
quiet : (old new : NodeRecord) → new.name ≡ old.name → new.shard ≡ old.shard → new.promised ≡ old.promised → new.state ≡ old.state → new.rows ≡ old.rows → new.next ≡ old.next → Grows old new
quiet old new n s p st r x = same_log old new n s p st r (omega (arith, x))

-- a node that changes its rows alone
new_rows : (node : NodeRecord) (rows : List Row) → ((x : Preparation) → StandsIn x (entries_of node.rows) → StandsIn x (entries_of rows)) → Grows node (with_rows node rows)
new_rows node rows h = record { name = refl; shard = refl; promised = omega arith; state = inl refl; next = omega arith; entries = λ e x s. h x s }

-- a node that comes to another state epoch
new_state : (old new : NodeRecord) → new.name ≡ old.name → new.shard ≡ old.shard → old.promised ≤ new.promised → least old ≤ new.state → old.next ≤ new.next → Grows old new
new_state old new n s p l x = record { name = n; shard = s; promised = p; state = inr l; next = x; entries = λ e y h. absurd (omega (arith, l, e)) }

-- a fenced node that promised an epoch may still reach it
may_lead : (node : NodeRecord) (epoch : ℕ) → FitsRole node node.role → node.role ≡ Fenced → node.promised ≡ epoch → 1 ≤ epoch → least node ≤ epoch
may_lead node epoch f r p l = go (subst (λ role. FitsRole node role) r f)
  where
    go : (node.state < node.promised) ⊎ ((node.state ≡ 0) × (node.promised ≡ 0)) → least node ≤ epoch
    go (inl h) = omega (arith, h, p)
    go (inr h) = absurd (let z : node.promised ≡ 0 = h.1 in omega (arith, z, p, l))

-- what a node that is to lead has to know: epochs of configurations begin at 1
abbrev pub StartsAtOne : Input → Type 0
StartsAtOne input = (from : ℕ) (config : Membership) → input ≡ inputs.Deliver from (NewConfig config) → 1 ≤ config.epoch

pub grows_of : (tests : Tests) (version : ℕ) (node : NodeRecord) (input : Input) (out : Out NodeRecord) → FitsRole node node.role → StartsAtOne input → Effect tests version node input out → Grows node out.kept
grows_of tests version node i o f l (Rests input answer notices h) = quiet node node refl refl refl refl refl refl
grows_of tests version node i o f l (Certifies payload h case e) = same_log node o.kept refl refl refl refl refl (omega arith)
grows_of tests version node i o f l (Appends from epoch txn shards part a b c d g entry e) =
    new_rows node (node.rows ++ undecided entry ∷ []) (λ x s. subst (λ xs. StandsIn x xs) (sym (map-append (λ r. r.entry) node.rows (undecided entry ∷ []))) (StandsIn-left (entries_of node.rows) (entry ∷ []) x s))
grows_of tests version node i o f l (Accepts from epoch entry a b t) = new_rows node (accepted node.rows entry) (λ x s. accepted-keeps node.rows entry x t s)
grows_of tests version node i o f l (Marks from epoch slot txn commit a b) = new_rows node (marked node.rows slot (mark_of commit)) (λ x s. subst (λ xs. StandsIn x xs) (sym (entries_of-marked node.rows slot (mark_of commit))) s)
grows_of tests version node i o f l (Promises from epoch a) = record { name = refl; shard = refl; promised = omega (arith, a); state = inl refl; next = omega arith; entries = λ e x s. s }
grows_of tests version node i o f l (Leads from config a b c d) = new_state node o.kept refl refl (omega arith) (may_lead node config.epoch f b c (l from config refl)) (omega arith)
grows_of tests version node i o f l (Follows from config rows a b) = new_state node o.kept refl refl (let m : least node ≤ config.epoch = b.epoch in omega (arith, m)) b.epoch (omega arith)
grows_of tests version node i o f l (FollowsPieces from config number pieces rows gathering a b c d e) = new_state node o.kept refl refl (let m : least node ≤ config.epoch = b.epoch in omega (arith, m)) b.epoch (omega arith)
grows_of tests version node i o f l _ = quiet node o.kept refl refl refl refl refl refl
