-- What is prepared without payload was taken over, since the payload has a part in each of its shards.
use Rattle.std.proofs.Common.{◌≡◌, ℕ, true, List, Option, Some, None, inl, inr, sym, ◌∙◌, subst, refl}
use Rattle.tcs_terms.specs.declared.ids.TxId.{TxId}
use Rattle.tcs_terms.specs.declared.inputs.Event.{Event}
use Rattle.tcs_terms.specs.declared.messages.Message.TheVariants.{Prepare}
use Rattle.tcs_terms.specs.Payloads.{Accesses}
use Rattle.tcs_terms.specs.Places.{is_among}
use Rattle.tcs_terms.specs.Setups.{Deployment}
use Rattle.tcs_terms.specs.Shards.{part_in, restricted, shards_of}
use Rattle.tcs_laws.specs.Certification.{Tests}
use Rattle.protocol.specs.Invariant.{InvariantHolds}
use Rattle.protocol.specs.Invariant.Time.{Moment, time_after}
use Rattle.protocol.specs.Invariant.Transactions.{IsPart, WasTaken, EntryFits, PrepareFits}
use Rattle.protocol.specs.Run.{run}
use Rattle.protocol.proofs.Lists.{among-StandsIn}
use Rattle.protocol.proofs.Moments.{time_after-now}
use Rattle.protocol_laws.specs.NamedShards.{ShardsAreNamed, EmptyAfterTakeOver}
use Rattle.tcs_terms.specs.Runs.{AreEventsOf}
use Rattle.protocol_laws.proofs.PartsOf.{shard-part}
use Rattle.protocol_laws.proofs.RunInduction.{invariant_at}
use Rattle.protocol_laws.proofs.ShardNaming.{run-names_shards}

taken-without : (t : Moment) (n shard : ℕ) (txn : TxId) (whole : Accesses) (part : Option Accesses) → IsPart t n shard txn whole part → is_among (shards_of n whole) shard ≡ true → part ≡ None → WasTaken t txn
taken-without t n shard txn whole part (inl e) among none =
    absurd (let some : restricted n shard whole ≡ Some (part_in n shard whole) = shard-part n shard whole (among-StandsIn (shards_of n whole) shard among) in cc (sym none ∙ e ∙ some))
taken-without t n shard txn whole part (inr p) among none = p.1

pub run-empty_parts : (tests : Tests) (setup : Deployment) (events : List Event) → AreEventsOf setup events → EmptyAfterTakeOver (run tests setup events)
run-empty_parts tests setup events a = subst EmptyAfterTakeOver (time_after-now tests setup events) (record {
  rows = λ node r n s none. (let f : EntryFits setup.shards t node.shard r.entry = i.transactions.rows node r n s in
      taken-without t setup.shards node.shard r.entry.txn f.payload r.entry.payload f.part (subst (λ xs. is_among xs node.shard ≡ true) f.shards (named.rows node n r s)) none);
  asked = λ from node epoch txn shards n s. (let f : PrepareFits setup.shards t node.shard txn shards None = i.transactions.messages from node (Prepare epoch txn shards None) n (record { sent = s }) in
      taken-without t setup.shards node.shard txn f.payload None f.is_part (subst (λ xs. is_among xs node.shard ≡ true) f.of_shards (named.messages from node (Prepare epoch txn shards None) n s)) refl);
})
  where
    t : Moment
    t = time_after tests setup events

    i : InvariantHolds tests setup (time_after tests setup events)
    i = invariant_at tests setup events a

    named : ShardsAreNamed (time_after tests setup events).now
    named = subst ShardsAreNamed (sym (time_after-now tests setup events)) (run-names_shards tests setup events a)
