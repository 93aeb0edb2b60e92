-- What is so of transactions, entries and cases stays so.
use Rattle.std.proofs.Common.{◌≡◌, ℕ, ◌<◌, ◌≤◌, List, ◌∷◌, filter, length, Option, Some, None, is_some, ◌⊎◌, inl, inr, sym, ◌∙◌, ap, subst, arith}
use Rattle.tcs_terms.specs.declared.ids.TxId.{TxId}
use Rattle.tcs_terms.specs.declared.inputs.Note.{Note}
use Rattle.tcs_terms.specs.declared.messages.Message.{Message}
use Rattle.tcs_terms.specs.declared.messages.Message.TheVariants.{Prepare, PrepareAck, Accept, AcceptAck, DecisionFor, NewState, OutcomeOf, StatePiece}
use Rattle.tcs_terms.specs.declared.votes.Cause.{Cause}
use Rattle.tcs_terms.specs.declared.votes.Cause.TheVariants as causes
use Rattle.tcs_terms.specs.declared.votes.Decision.{Decision}
use Rattle.tcs_terms.specs.declared.votes.Decision.TheVariants as decisions
use Rattle.tcs_terms.specs.declared.votes.Vote.{Vote}
use Rattle.tcs_terms.specs.declared.votes.Vote.TheVariants as votes
use Rattle.tcs_terms.specs.Payloads.{Accesses}
use Rattle.tcs_terms.specs.Preparations.{Preparation}
use Rattle.protocol.specs.History.{begins_with, payload_in}
use Rattle.protocol.specs.Records.{Case}
use Rattle.protocol.specs.Invariant.Time.{Moment, StandsIn, WasNoted}
use Rattle.protocol.specs.Invariant.Transactions.{IsBegun, HasBegun, WasTaken, FoundNothingBy, IsPart, VoteNames, CauseNames, DecisionNames, EntryFits, PrepareFits, MessageFits, CaseFits}
use Rattle.protocol_laws.specs.Turn.{Onward, GrewFrom}
use Rattle.protocol_laws.proofs.Fronts.{payload_in-kept}
use Rattle.protocol_laws.proofs.Standing.{StandsIn-left}

-- One event later: nothing is taken away, and what had begun did not begin again.
pub record Goes (t u : Moment) : Type 0 where
  pub onward : Onward t u
  pub once : (txn : TxId) (payload : Accesses) → IsBegun t txn payload → length (filter (λ n. is_some (begins_with txn n)) u.now.history) ≡ 1

pub noted-on : (t u : Moment) (note : Note) → Onward t u → WasNoted t note → WasNoted u note
noted-on t u note o s = subst (λ h. StandsIn note h) (sym o.history) (StandsIn-left t.now.history o.notes note s)

pub is_begun-on : (t u : Moment) (txn : TxId) (payload : Accesses) → Goes t u → IsBegun t txn payload → IsBegun u txn payload
is_begun-on t u txn payload g b = record {
  first = subst (λ h. payload_in h txn ≡ Some payload) (sym g.onward.history) (payload_in-kept t.now.history g.onward.notes txn payload b.first);
  once = g.once txn payload b;
  given = λ node n e. (
      let f : GrewFrom t node = g.onward.back node n in
      let below : txn.seq < f.old.next = b.given f.old f.is (sym f.grows.name ∙ e) in
      let rise : f.old.next ≤ node.next = f.grows.next in
      omega (arith, below, rise));
}

pub has_begun-on : (t u : Moment) (txn : TxId) → Goes t u → HasBegun t txn → HasBegun u txn
has_begun-on t u txn g b = (b.0, is_begun-on t u txn b.0 g b.1)

pub found_nothing-on : (t u : Moment) (txn : TxId) (shard : ℕ) → Onward t u → FoundNothingBy t txn shard → FoundNothingBy u txn shard
found_nothing-on t u txn shard o f = record {
  later = u.now ∷ f.later;
  after = f.after;
  before = f.before;
  earlier = f.earlier;
  moments = ap (λ ws. u.now ∷ ws) (o.past ∙ f.moments);
  node = f.node;
  there = f.there;
  of_shard = f.of_shard;
  leads = f.leads;
  nothing = f.nothing;
  grown = f.grown;
  grown_there = f.grown_there;
  grown_name = f.grown_name;
  still = f.still;
  entry = f.entry;
  appended = f.appended;
  of_txn = f.of_txn;
  empty = f.empty;
}

pub is_part-on : (t u : Moment) (n shard : ℕ) (txn : TxId) (whole : Accesses) (part : Option Accesses) → Onward t u → IsPart t n shard txn whole part → IsPart u n shard txn whole part
is_part-on t u n shard txn whole part o (inl e) = inl e
is_part-on t u n shard txn whole part o (inr p) = inr (p.0, noted-on t u _ o p.1)

vote_names-on : (t u : Moment) (vote : Vote) → Goes t u → VoteNames t vote → VoteNames u vote
vote_names-on t u votes.Commit g v = tt
vote_names-on t u (votes.Clash txn) g v = has_begun-on t u txn g v
vote_names-on t u votes.Lost g v = tt

cause_names-on : (t u : Moment) (cause : Cause) → Goes t u → CauseNames t cause → CauseNames u cause
cause_names-on t u (causes.Clash txn) g v = has_begun-on t u txn g v
cause_names-on t u causes.Lost g v = tt

decision_names-on : (t u : Moment) (decision : Decision) → Goes t u → DecisionNames t decision → DecisionNames u decision
decision_names-on t u decisions.Commit g v = tt
decision_names-on t u (decisions.Abort shard cause) g v = cause_names-on t u cause g v

pub entry_fits-on : (n : ℕ) (t u : Moment) (shard : ℕ) (entry : Preparation) → Goes t u → EntryFits n t shard entry → EntryFits n u shard entry
entry_fits-on n t u shard entry g f = record {
  payload = f.payload;
  begun = is_begun-on t u entry.txn f.payload g f.begun;
  shards = f.shards;
  part = is_part-on t u n shard entry.txn f.payload entry.payload g.onward f.part;
  keeps = f.keeps;
  lost = λ e. found_nothing-on t u entry.txn shard g.onward (f.lost e);
  vote = vote_names-on t u entry.vote g f.vote;
}

prepare_fits-on : (n : ℕ) (t u : Moment) (shard : ℕ) (txn : TxId) (shards : List ℕ) (part : Option Accesses) → Goes t u → PrepareFits n t shard txn shards part → PrepareFits n u shard txn shards part
prepare_fits-on n t u shard txn shards part g f = record {
  payload = f.payload;
  begun = is_begun-on t u txn f.payload g f.begun;
  of_shards = f.of_shards;
  is_part = is_part-on t u n shard txn f.payload part g.onward f.is_part;
}

pub message_fits-on : (n : ℕ) (t u : Moment) (shard : ℕ) (m : Message) → Goes t u → MessageFits n t shard m → MessageFits n u shard m
message_fits-on n t u s (Prepare epoch txn shards part) g f = prepare_fits-on n t u s txn shards part g f
message_fits-on n t u s (PrepareAck shard epoch entry) g f = entry_fits-on n t u shard entry g f
message_fits-on n t u s (Accept epoch entry) g f = entry_fits-on n t u s entry g f
message_fits-on n t u s (AcceptAck shard epoch slot txn) g f = has_begun-on t u txn g f
message_fits-on n t u s (DecisionFor epoch slot txn commit) g f = has_begun-on t u txn g f
message_fits-on n t u s (NewState config rows) g f = λ r k. entry_fits-on n t u config.shard r.entry g (f r k)
message_fits-on n t u s (OutcomeOf txn decision) g f = (has_begun-on t u txn g f.0, decision_names-on t u decision g f.1)
message_fits-on n t u s (StatePiece config number pieces rows) g f = λ r k. entry_fits-on n t u config.shard r.entry g (f r k)
message_fits-on n t u s _ g f = tt

whole-on : (t u : Moment) (txn : TxId) (payload : Accesses) (kept : Option Accesses) → Onward t u → (kept ≡ Some payload) ⊎ ((kept ≡ None) × WasTaken t txn) → (kept ≡ Some payload) ⊎ ((kept ≡ None) × WasTaken u txn)
whole-on t u txn payload kept o (inl e) = inl e
whole-on t u txn payload kept o (inr p) = inr (p.0, noted-on t u _ o p.1)

pub case_fits-on : (n : ℕ) (t u : Moment) (txn : TxId) (case : Case) → Goes t u → CaseFits n t txn case → CaseFits n u txn case
case_fits-on n t u txn case g f = record {
  payload = f.payload;
  begun = is_begun-on t u txn f.payload g f.begun;
  shards = f.shards;
  whole = whole-on t u txn f.payload case.payload g.onward f.whole;
  voted = λ p entry s e. entry_fits-on n t u p.shard entry g (f.voted p entry s e);
}
