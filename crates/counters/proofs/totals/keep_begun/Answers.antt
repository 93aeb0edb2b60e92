-- A payload is kept where there was none.
use Rattle.std.proofs.Common.{◌≡◌, false, sym, ◌∙◌, refl}
use Rattle.std.specs.Prelude.{Option, Some, None, is_some}
use Rattle.std.specs.Map.{lookup}
use Rattle.tcs_terms.specs.Logs.{same_txn}
use Rattle.indexmap.proofs.CallerLemmas.{insert_entry-new}
use Rattle.counters.proofs.Noting.{first_kept, later_left}
use Rattle.counters.proofs.totals.keep_begun.Goals as goal

none_there : {X : Type 0} (o : Option X) → is_some o ≡ false → o ≡ None
none_there None none = refl
none_there (Some x) none = absurd cc

pub returns-in_ok-insert : goal.returns-in_ok-insert
returns-in_ok-insert c =
    let absent : is_some (lookup (same_txn c.args.txn) c.args.begun.now.entries) ≡ false = sym c.contains_key.ensures ∙ c.if-not-contains_key.true in
    first_kept c.args.begun.now.entries c.insert.new.self.entries c.args.txn c.args.payload
    (c.in_ok-insert.ensures.entries ∙ insert_entry-new same_txn c.args.begun.now c.args.txn c.args.payload (none_there _ absent))

pub returns-else-not-contains_key : goal.returns-else-not-contains_key
returns-else-not-contains_key c =
    later_left c.args.begun.now.entries c.args.txn c.args.payload (sym c.contains_key.ensures ∙ c.if-not-contains_key.false)
