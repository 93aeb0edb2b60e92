-- An undecided row changes nothing that is read.
use Rattle.std.proofs.Common.{◌≡◌, false}
use Rattle.tcs_terms.specs.Logs.{AreRows}
use Rattle.protocol.specs.Log.{is_taken, accepted}
use Rattle.follower_part.specs.Following.{FollowerState}
use Rattle.version_store.specs.Keeping.{StandsFor}
use Rattle.version_store.proofs.Undecided.{stands_accepted}
use Rattle.replica.proofs.Standing.{stands_after}
use Rattle.replica.proofs.duties.Duty.accept.Goals as goal

pub invariant_of-self : goal.invariant_of-self
invariant_of-self g c =
    let before : FollowerState = c.in-Follower.follower in
    let stands : StandsFor c.self.inside.versions before.rows = rw c.in-Follower.is at c.self.invariant in
    let are : AreRows before.rows = rw (c.log.ensures, c.in-Follower.is) at c.rows-rows.ensures.are_rows in
    let free : is_taken before.rows c.args.entry ≡ false = rw (← c.self.view_is, c.in-Follower.is) at c.requires.free in
    stands_after (λ (s : FollowerState). s.rows) c.accept.result c.self.inside.versions before
    (record before { rows = accepted before.rows c.args.entry }) c.accept.new.self c.accept.ensures.rows c.accept.ensures.err stands
    (stands_accepted c.self.inside.versions before.rows stands are.slots_ascend c.args.entry free)
