-- What the rules of clients leave as it was, and do not send or note.
use Rattle.std.proofs.Common.{◌≡◌, ℕ, Bool, true, false, List, [], refl}
use Rattle.protocol.specs.Choices.{when}
use Rattle.protocol.specs.ClientRules.{go_lower, read}
use Rattle.protocol.specs.Outcomes.{Out}
use Rattle.protocol.specs.Probing.{lower}
use Rattle.protocol.specs.Records.{Stage, NodeRecord}
use Rattle.protocol.specs.Records.Stage.{Idle, AskedLast, Probing, AskedLower, CasSent}

when_both : {A : Type 0} (P : Out A → Type 0) (b : Bool) (x y : Out A) → P x → P y → P (when b x y)
unfolding when
when_both P true x y one other = one
when_both P false x y one other = other

stage_silent : (stage : Stage) → (lower stage).notes ≡ []
unfolding lower
stage_silent Idle = refl
stage_silent (AskedLast shard want) = refl
stage_silent (Probing shard want epoch probed low) = when_both (λ out. out.notes ≡ []) _ _ _ refl refl
stage_silent (AskedLower shard want epoch asked) = refl
stage_silent (CasSent config) = refl

pub lower_silent : (node : NodeRecord) → (go_lower node).notes ≡ []
unfolding go_lower
lower_silent node = stage_silent node.prober

pub read_kept : (node : NodeRecord) (name : List ℕ) → (read node name).kept ≡ node
unfolding read
read_kept node name = when_both (λ out. out.kept ≡ node) _ _ _ refl refl

pub read_unsent : (node : NodeRecord) (name : List ℕ) → (read node name).sends ≡ []
unfolding read
read_unsent node name = when_both (λ out. out.sends ≡ []) _ _ _ refl refl
