use Rattle.std.proofs.Common.{◌≡◌, ◌<◌, true, false, refl, arith}
use Rattle.protocol.specs.Limit.{limited_step}
use Rattle.world.proofs.Standing.{standing}
use Rattle.world.proofs.Steps.{may_reach, sends_in_range, promises_after}
use Rattle.world.proofs.Views.{kept_events}
use Rattle.world.proofs.WholeSteps.{goes_to, ends_with}
use Rattle.world.proofs.worlds.World.step.Goals as goal

-- ---- a spent world

pub returns-then-self-clause-record : goal.returns-then-self-clause-record
returns-then-self-clause-record g c = λ live. let spent : c.args.self.now.spent ≡ true = rw (← c.self.view_is) c.if-self.true in absurd cc

pub returns-then-self-clause-setup : goal.returns-then-self-clause-setup
returns-then-self-clause-setup g c = refl

pub returns-then-self-clause-spent : goal.returns-then-self-clause-spent
returns-then-self-clause-spent g c = rw (← c.self.view_is) c.if-self.true

pub returns-then-self-clause-stays : goal.returns-then-self-clause-stays
returns-then-self-clause-stays g c = λ h. h

pub returns-then-self-clause-promises : goal.returns-then-self-clause-promises
returns-then-self-clause-promises g c = λ events are is live. let spent : c.args.self.now.spent ≡ true = rw (← c.self.view_is) c.if-self.true in absurd cc

-- ---- a world that has ended

pub returns-in-Some-clause-answer : goal.returns-in-Some-clause-answer
unfolding limited_step
returns-in-Some-clause-answer g c = rw (← c.self.view_is, c.in-Some.is) refl

pub returns-in-Some-clause-record : goal.returns-in-Some-clause-record
unfolding limited_step
returns-in-Some-clause-record g c = λ live. rw (← c.self.view_is, c.in-Some.is) refl

pub returns-in-Some-clause-setup : goal.returns-in-Some-clause-setup
returns-in-Some-clause-setup g c = refl

pub returns-in-Some-clause-spent : goal.returns-in-Some-clause-spent
returns-in-Some-clause-spent g c = rw (← c.self.view_is) c.if-self.false

pub returns-in-Some-clause-stays : goal.returns-in-Some-clause-stays
returns-in-Some-clause-stays g c = λ h. h

pub returns-in-Some-clause-promises : goal.returns-in-Some-clause-promises
unfolding limited_step
returns-in-Some-clause-promises g c = λ events are is live.
    promises_after _ _ events _ _ _ g.met.G.Rule.Certifier.lawful c.requires.may are is (rw (← c.self.view_is, c.in-Some.is) refl)

-- ---- a turn

pub take_turn-requires-clause-may : goal.take_turn-requires-clause-may
take_turn-requires-clause-may g c =
    let s = standing _ _ _ _ _ c.self.invariant c.if-self.false c.in_default.is in
    may_reach c.self.inside.setup c.args.event s.goes_on.deployment (rw (← c.self.view_is) at c.requires.may)

pub take_turn-requires-clause-range : goal.take_turn-requires-clause-range
take_turn-requires-clause-range g c =
    let s = standing _ _ _ _ _ c.self.invariant c.if-self.false c.in_default.is in
    sends_in_range _ c.self.inside.setup c.self.inside.cast c.self.inside.ledger.messages c.self.inside.ledger.history c.args.event s.goes_on (rw (← c.self.view_is) at c.requires.may)

pub overflow_add-self : goal.overflow_add-self
overflow_add-self g c =
    let few : c.self.inside.events < 1000000 = rw (kept_events c.self.inside.full _ c.self.inside.events _) at (rw (← c.self.view_is) at c.requires.few) in
    omega arith

pub invariant_of-self : goal.invariant_of-self
invariant_of-self g c =
    let k = goes_to _ _ _ _ c.self.inside.events _ _ _ _ (standing _ _ _ _ _ c.self.invariant c.if-self.false c.in_default.is)
    (rw (← c.self.view_is) at c.requires.may) c.in-Ok.ensures.turned in
    rw c.in_default.is k.sound

pub returns-in-Ok-clause-answer : goal.returns-in-Ok-clause-answer
returns-in-Ok-clause-answer g c =
    let k = goes_to _ _ _ _ c.self.inside.events _ _ _ _ (standing _ _ _ _ _ c.self.invariant c.if-self.false c.in_default.is)
    (rw (← c.self.view_is) at c.requires.may) c.in-Ok.ensures.turned in
    rw (← c.self.view_is, c.in_default.is) k.answer

pub returns-in-Ok-clause-record : goal.returns-in-Ok-clause-record
returns-in-Ok-clause-record g c = λ live.
    let k = goes_to _ _ _ _ c.self.inside.events _ _ _ _ (standing _ _ _ _ _ c.self.invariant c.if-self.false c.in_default.is)
    (rw (← c.self.view_is) at c.requires.may) c.in-Ok.ensures.turned in
    rw (← c.self.view_is, c.in_default.is) k.progress

pub returns-in-Ok-clause-setup : goal.returns-in-Ok-clause-setup
returns-in-Ok-clause-setup g c = rw (← c.self.view_is) refl

pub returns-in-Ok-clause-spent : goal.returns-in-Ok-clause-spent
returns-in-Ok-clause-spent g c = refl

pub returns-in-Ok-clause-stays : goal.returns-in-Ok-clause-stays
returns-in-Ok-clause-stays g c = λ h. let live : c.args.self.now.spent ≡ false = rw (← c.self.view_is) c.if-self.false in absurd cc

pub returns-in-Ok-clause-promises : goal.returns-in-Ok-clause-promises
returns-in-Ok-clause-promises g c = λ events are is live.
    let k = goes_to _ _ _ _ c.self.inside.events _ _ _ _ (standing _ _ _ _ _ c.self.invariant c.if-self.false c.in_default.is)
    (rw (← c.self.view_is) at c.requires.may) c.in-Ok.ensures.turned in
    promises_after _ _ events _ _ _ g.met.G.Rule.Certifier.lawful c.requires.may are is (rw (← c.self.view_is, c.in_default.is) k.progress)

-- ---- a full soup

pub invariant_of-self-in-Err-SoupFull : goal.invariant_of-self-in-Err-SoupFull
invariant_of-self-in-Err-SoupFull g c =
    let k = ends_with _ _ _ _ c.self.inside.events _ _ _ _ (standing _ _ _ _ _ c.self.invariant c.if-self.false c.in_default.is)
    (rw (← c.self.view_is) at c.requires.may) (rw c.in-Err-SoupFull.field-0-is at c.in-Err-SoupFull.ensures.full) in
    k.sound

pub returns-in-Err-SoupFull-clause-answer : goal.returns-in-Err-SoupFull-clause-answer
returns-in-Err-SoupFull-clause-answer g c =
    let k = ends_with _ _ _ _ c.self.inside.events _ _ _ _ (standing _ _ _ _ _ c.self.invariant c.if-self.false c.in_default.is)
    (rw (← c.self.view_is) at c.requires.may) (rw c.in-Err-SoupFull.field-0-is at c.in-Err-SoupFull.ensures.full) in
    rw (← c.self.view_is, c.in_default.is) k.answer

pub returns-in-Err-SoupFull-clause-record : goal.returns-in-Err-SoupFull-clause-record
returns-in-Err-SoupFull-clause-record g c = λ live.
    let k = ends_with _ _ _ _ c.self.inside.events _ _ _ _ (standing _ _ _ _ _ c.self.invariant c.if-self.false c.in_default.is)
    (rw (← c.self.view_is) at c.requires.may) (rw c.in-Err-SoupFull.field-0-is at c.in-Err-SoupFull.ensures.full) in
    rw (← c.self.view_is, c.in_default.is) k.progress

pub returns-in-Err-SoupFull-clause-setup : goal.returns-in-Err-SoupFull-clause-setup
returns-in-Err-SoupFull-clause-setup g c = rw (← c.self.view_is) refl

pub returns-in-Err-SoupFull-clause-spent : goal.returns-in-Err-SoupFull-clause-spent
returns-in-Err-SoupFull-clause-spent g c = refl

pub returns-in-Err-SoupFull-clause-stays : goal.returns-in-Err-SoupFull-clause-stays
returns-in-Err-SoupFull-clause-stays g c = λ h. let live : c.args.self.now.spent ≡ false = rw (← c.self.view_is) c.if-self.false in absurd cc

pub returns-in-Err-SoupFull-clause-promises : goal.returns-in-Err-SoupFull-clause-promises
returns-in-Err-SoupFull-clause-promises g c = λ events are is live.
    let k = ends_with _ _ _ _ c.self.inside.events _ _ _ _ (standing _ _ _ _ _ c.self.invariant c.if-self.false c.in_default.is)
    (rw (← c.self.view_is) at c.requires.may) (rw c.in-Err-SoupFull.field-0-is at c.in-Err-SoupFull.ensures.full) in
    promises_after _ _ events _ _ _ g.met.G.Rule.Certifier.lawful c.requires.may are is (rw (← c.self.view_is, c.in_default.is) k.progress)

-- ---- want of memory

pub returns-in-Err-OutOfMemory-clause-record : goal.returns-in-Err-OutOfMemory-clause-record
returns-in-Err-OutOfMemory-clause-record g c = λ bad. absurd cc

pub returns-in-Err-OutOfMemory-clause-setup : goal.returns-in-Err-OutOfMemory-clause-setup
returns-in-Err-OutOfMemory-clause-setup g c = rw (← c.self.view_is) refl

pub returns-in-Err-OutOfMemory-clause-spent : goal.returns-in-Err-OutOfMemory-clause-spent
returns-in-Err-OutOfMemory-clause-spent g c = refl

pub returns-in-Err-OutOfMemory-clause-stays : goal.returns-in-Err-OutOfMemory-clause-stays
returns-in-Err-OutOfMemory-clause-stays g c = λ h. refl

pub returns-in-Err-OutOfMemory-clause-promises : goal.returns-in-Err-OutOfMemory-clause-promises
returns-in-Err-OutOfMemory-clause-promises g c = λ events are is bad. absurd cc
