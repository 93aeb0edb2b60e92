-- What the rules of clients leave as it was.
use Rattle.std.proofs.Common.{◌≡◌, List, [], ◌++◌, Result, Ok, Err, OnOk, refl, sym, ap, append-nil}
use Rattle.std.proofs.lemmas.Result.{on_ok_weaker}
use Rattle.protocol.specs.ClientRules.{nudge, move, ask}
use Rattle.protocol.specs.Probing.{start_move}
use Rattle.protocol.specs.Table.{step}
use Rattle.node_core.specs.Parts.{node_of}
use Rattle.node_core.proofs.Given.{next_absent}
use Rattle.node_core.proofs.ClientRules.{lower_silent, read_kept, read_unsent}
use Rattle.node_core.proofs.parts.Parts.take_input.Goals as goal

on_ok : {T E P : Type 0} (r : Result T E) → P → OnOk r P
on_ok (Ok x) p = p
on_ok (Err e) p = record {}

none_more : {X : Type 0} (xs more : List X) → more ≡ [] → xs ≡ xs ++ more
none_more xs more none = rw none (sym (append-nil xs))

pub certify-requires : goal.certify-requires
certify-requires g c = next_absent c.args.self.now c.requires.kept.given

pub returns-in-Nudge-clause-kept : goal.returns-in-Nudge-clause-kept
unfolding step nudge
returns-in-Nudge-clause-kept g c = rw c.in-Nudge.is (on_ok c.nudge.result c.nudge.ensures.kept)

pub returns-in-Nudge-clause-notes : goal.returns-in-Nudge-clause-notes
unfolding step nudge
returns-in-Nudge-clause-notes g c = rw c.in-Nudge.is (on_ok c.nudge.result (none_more _ _ refl))

pub returns-in-Move-clause-answer : goal.returns-in-Move-clause-answer
unfolding step move
returns-in-Move-clause-answer g c = rw c.in-Move.is c.start_move.ensures.answer

pub returns-in-Move-clause-kept : goal.returns-in-Move-clause-kept
unfolding step move
returns-in-Move-clause-kept g c = let s = c.self.inside in
    rw (c.in-Move.is, ← c.self.view_is)
    (on_ok_weaker c.start_move.result (λ kept. ap (λ p. node_of s.replica s.next s.coordinator.kept p s.outcomes.entries) kept) c.start_move.ensures.kept)

pub returns-in-Move-clause-sends : goal.returns-in-Move-clause-sends
unfolding step move
returns-in-Move-clause-sends g c = rw c.in-Move.is c.start_move.ensures.sends

pub returns-in-Move-clause-notes : goal.returns-in-Move-clause-notes
unfolding step move start_move
returns-in-Move-clause-notes g c = rw c.in-Move.is (on_ok c.start_move.result (none_more _ _ refl))

pub returns-in-Lower-clause-notes : goal.returns-in-Lower-clause-notes
unfolding step
returns-in-Lower-clause-notes g c = rw c.in-Lower.is (on_ok c.lower.result (none_more _ _ (lower_silent c.args.self.now)))

pub returns-in-ReadName-clause-kept : goal.returns-in-ReadName-clause-kept
unfolding step
returns-in-ReadName-clause-kept g c = rw c.in-ReadName.is (on_ok c.read.result (sym (read_kept c.args.self.now _)))

pub returns-in-ReadName-clause-sends : goal.returns-in-ReadName-clause-sends
unfolding step
returns-in-ReadName-clause-sends g c = rw c.in-ReadName.is (on_ok c.read.result (none_more _ _ (read_unsent c.args.self.now _)))

pub returns-in-Ask-clause-kept : goal.returns-in-Ask-clause-kept
unfolding step ask
returns-in-Ask-clause-kept g c = rw c.in-Ask.is (on_ok c.ask.result refl)

pub returns-in-Ask-clause-notes : goal.returns-in-Ask-clause-notes
unfolding step ask
returns-in-Ask-clause-notes g c = rw c.in-Ask.is (on_ok c.ask.result (none_more _ _ refl))
