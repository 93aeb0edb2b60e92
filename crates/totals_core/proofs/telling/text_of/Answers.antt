-- The lines that were put together tell of the world.
use Rattle.std.proofs.Common.{List, refl, subst}
use Rattle.tcs_terms.specs.declared.inputs.Note.{Note}
use Rattle.protocol.specs.History.{order_of, payloads_of}
use Rattle.counters.specs.Sums.{AreSums}
use Rattle.totals_core.specs.Holdings.{held_by}
use Rattle.totals_core.proofs.Countable.{few_notes}
use Rattle.totals_core.proofs.HeldBy.{is_held}
use Rattle.totals_core.proofs.telling.text_of.Goals as goal

pub totals_of-requires : goal.totals_of-requires
totals_of-requires g c = rw c.history.ensures (few_notes _ c.requires.countable)

pub returns : goal.returns
returns g c = record {
  sums = c.sums-sums.result.now;
  are = subst (λ (h : List Note). AreSums c.sums-sums.result.now (payloads_of h (order_of h))) c.history.ensures (c.sums-sums.ensures _ c.in_ok-totals.ensures);
  ordered = c.len.ensures.ordered;
  held = held_by c.args.world.now.setup.shards c.in_ok-holdings.holdings.items;
  greatest = is_held c.args.world.now.setup.shards c.in_ok-holdings.holdings.items _ c.in_ok-holdings.ensures;
  whole = rw (c.in_ok-put_end.ensures, c.in_ok-put_totals.ensures, c.new-text.ensures.items, c.deref.ensures.value, c.shards.ensures.shards, c.setup.ensures, c.len.ensures.len) refl;
}
