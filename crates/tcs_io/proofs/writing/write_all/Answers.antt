-- The bytes before `done + n` are those before `done` and the n that the write took.
use Rattle.std.proofs.Common.{◌≡◌, ℕ, ◌+◌, ◌-◌, List, ◌++◌, length, Option, Some, take, drop, arith, append_assoc}
use Rattle.std.proofs.Math.Seq.{take-add}
use Rattle.std.proofs.lemmas.Grind.{common_steps}
use Rattle.std.proofs.lemmas.List.{take_rest}
use Rattle.tcs_io.proofs.writing.write_all.Goals as goal

longer : (bytes piece : List ℕ) (done n : ℕ) (held : Option (List ℕ)) →
    held ≡ Some ((bytes ++ take done piece) ++ take n (take (length piece - done) (drop done piece))) →
    held ≡ Some (bytes ++ take (done + n) piece)
longer bytes piece done n held known =
    rw (take-add done n piece, ← append_assoc bytes (take done piece) (take n (drop done piece)))
    (rw take_rest at known)

pub loop-done-preserved : goal.loop-done-preserved
loop-done-preserved g c = record {
  within = grind (arith, common_steps);
  front = λ bytes known. longer bytes _ _ _ _ (c.in_ok-done.ensures.appended _ (c.loop-done.invariant.front bytes known));
  untold = λ unknown. c.write.ensures.untold (c.loop-done.invariant.untold unknown);
  count = omega arith;
}
