-- A transaction of which nothing is kept stands last.
use Rattle.std.proofs.Common.{◌≡◌, Option, None, Some, false, refl, sym, ◌∙◌}
use Rattle.std.specs.Option.{is_some}
use Rattle.std.specs.Map.{lookup}
use Rattle.tcs_terms.specs.Logs.{same_txn}
use Rattle.indexmap.proofs.CallerLemmas.{insert_entry-new}
use Rattle.judge.proofs.payloads.keep_first.Goals as goal

none_there : {X : Type 0} (o : Option X) → is_some o ≡ false → o ≡ None
none_there None h = refl
none_there (Some x) h = absurd cc

pub returns-in_ok-insert : goal.returns-in_ok-insert
returns-in_ok-insert g c =
    let absent : is_some (lookup (same_txn c.args.txn) c.args.kept.now.entries) ≡ false = sym c.contains_key.ensures ∙ c.if-not-contains_key.true in
    rw absent (c.in_ok-insert.ensures.entries ∙ insert_entry-new same_txn c.args.kept.now c.args.txn c.args.value (none_there _ absent))
