use Rattle.std.proofs.Common.{◌≡◌, ◌+◌, ap, ◌∙◌, arith}
use Rattle.protocol.specs.Limit.{frame_bytes}
use Rattle.protocol.specs.World.{sent_by}
use Rattle.world.specs.Frames.{read_all}
use Rattle.world.proofs.Letters.{limit_is, arena_sum}
use Rattle.world.proofs.Writing.{kept_all}
use Rattle.world.proofs.arena.Arena.post.Goals as goal
use Rattle.world.proofs.arena.Arena.post.Goals.{in-Ok+else-sum-le-FRAME_LIMIT, in-Err}

pub invariant_of-self : goal.invariant_of-self
invariant_of-self c =
    let k = kept_all _ _ _ _ _ _ _ c.self.invariant c.requires c.in-Ok.ensures.grown (omega (arith, limit_is)) in k.arena

pub returns-then-sum-le-FRAME_LIMIT-clause-ok : goal.returns-then-sum-le-FRAME_LIMIT-clause-ok
returns-then-sum-le-FRAME_LIMIT-clause-ok c =
    let k = kept_all _ _ _ _ _ _ _ c.self.invariant c.requires c.in-Ok.ensures.grown (omega (arith, limit_is)) in
    rw (← c.self.view_is) k.seen

pub returns-then-sum-le-FRAME_LIMIT-clause-within : goal.returns-then-sum-le-FRAME_LIMIT-clause-within
returns-then-sum-le-FRAME_LIMIT-clause-within c =
    let k = kept_all _ _ _ _ _ _ _ c.self.invariant c.requires c.in-Ok.ensures.grown (omega (arith, limit_is)) in
    rw (← c.self.view_is, k.sum_is) (omega (arith, limit_is))

pub returns-clause-full : goal.returns-clause-full
returns-clause-full c = elim c.match-write_all.branch [
  | in-Ok+else-sum-le-FRAME_LIMIT w ↦
      let all = frame_bytes (sent_by c.args.from c.args.sends.now) in
      let sum : w.in-Ok.sum ≡ frame_bytes (read_all c.self.inside.bytes.items c.self.inside.letters.items) + all =
      w.in-Ok.ensures.grown.sum_is ∙ ap (λ n. n + all) (arena_sum _ _ c.self.invariant) in
      rw (w.stop-is, ← c.self.view_is) (sum, omega (arith, limit_is, sum))
  | in-Err w ↦ rw w.stop-is tt
]
