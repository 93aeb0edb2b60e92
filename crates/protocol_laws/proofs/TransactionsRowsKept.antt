-- Rows fit, one event later: a leader's new entry too.
use Rattle.std.proofs.Common.{◌≡◌, ℕ, true, false, is_none, List, [], ◌∷◌, ◌++◌, find, Option, Some, None, sym, ap, subst, refl}
use Rattle.tcs_terms.specs.declared.ids.TxId.{TxId}
use Rattle.tcs_terms.specs.declared.inputs.Event.{Event}
use Rattle.tcs_terms.specs.declared.inputs.Input.{Input}
use Rattle.tcs_terms.specs.declared.logs.Row.{Row}
use Rattle.tcs_terms.specs.declared.messages.Message.TheVariants.{Prepare, Accept, NewState, StatePiece}
use Rattle.tcs_terms.specs.declared.votes.Vote.TheVariants as votes
use Rattle.tcs_terms.specs.Payloads.{Accesses}
use Rattle.tcs_terms.specs.Places.{Membership}
use Rattle.tcs_terms.specs.Preparations.{Preparation, is_lost}
use Rattle.tcs_terms.specs.Setups.{Deployment}
use Rattle.tcs_laws.specs.Certification.{Tests}
use Rattle.tcs_laws.specs.Votes.{clashes, vote_by, vote_on}
use Rattle.protocol.specs.Log.{row_of, new_entry, undecided, vote_on_part}
use Rattle.protocol.specs.ShardRules.{is_leader}
use Rattle.protocol.specs.World.{Happening}
use Rattle.protocol.specs.Invariant.Time.{Moment, goes_to, StandsIn, WasSent}
use Rattle.protocol.specs.Invariant.Transactions.{HasBegun, VoteNames, EntryFits, PrepareFits, MessageFits}
use Rattle.protocol.proofs.Lists.{find-StandsIn}
use Rattle.protocol_laws.specs.Turn.{Turn}
use Rattle.protocol_laws.proofs.TransactionsLast.{Goes, is_begun-on, is_part-on, entry_fits-on, has_begun-on}
use Rattle.protocol_laws.proofs.TransactionsNotes.{goes_of}
use Rattle.protocol_laws.proofs.TransactionsRows.{RowCame, row_came}
use Rattle.protocol_laws.proofs.TransactionsRows.RowCame.{WasThere, WasMarked, WasAppended, WasAccepted, WasWhole, WasInPiece, WasKept}
use Rattle.protocol_laws.proofs.Came.{effect_name, Acting}
use Rattle.tcs_terms.specs.declared.inputs.Input.TheVariants as inputs
use Rattle.tcs_terms.specs.declared.messages.Message.{Message}
use Rattle.protocol_laws.proofs.ConfigurationsInputs.{delivered}

not_lost : (row : Option Row) → is_lost (vote_by row) ≡ false
not_lost None = refl
not_lost (Some row) = refl

vote_not_lost : (tests : Tests) (rows : List Row) (p : Accesses) → is_lost (vote_on tests rows p) ≡ false
unfolding vote_on
vote_not_lost tests rows p = not_lost (find (λ row. clashes tests row p) rows)

vote_names : (tests : Tests) (t : Moment) (rows : List Row) (p : Accesses) → ((r : Row) → StandsIn r rows → HasBegun t r.entry.txn) → VoteNames t (vote_on tests rows p)
unfolding vote_on
vote_names tests t rows p k = go (find (λ row. clashes tests row p) rows) refl
  where
    go : (row : Option Row) → find (λ row. clashes tests row p) rows ≡ row → VoteNames t (vote_by row)
    go None e = tt
    go (Some row) e = k row (find-StandsIn (λ row. clashes tests row p) rows row e).0

-- a new entry, where its payload is lost or not
pub keeps_payload : (tests : Tests) (rows : List Row) (part : Option Accesses) → is_none part ≡ is_lost (vote_on_part tests rows part)
keeps_payload tests rows None = refl
keeps_payload tests rows (Some p) = sym (vote_not_lost tests rows p)

part_vote_names : (tests : Tests) (t : Moment) (rows : List Row) (part : Option Accesses) → ((r : Row) → StandsIn r rows → HasBegun t r.entry.txn) → VoteNames t (vote_on_part tests rows part)
part_vote_names tests t rows None k = tt
part_vote_names tests t rows (Some p) k = vote_names tests t rows p k

lost_is_none : (tests : Tests) (rows : List Row) (part : Option Accesses) → vote_on_part tests rows part ≡ votes.Lost → part ≡ None
lost_is_none tests rows None e = refl
lost_is_none tests rows (Some p) e = absurd (let a : is_lost (vote_on tests rows p) ≡ true = ap is_lost e in let b : is_lost (vote_on tests rows p) ≡ false = vote_not_lost tests rows p in cc (a, b))

-- what a leader appends fits, and if it has no payload, this is the event at which the shard found nothing
new_entry_fits : (tests : Tests) (setup : Deployment) (t : Moment) (event : Event) (h : Happening) → Turn tests setup t event h → (a : Acting tests setup t event h)
    → (txn : TxId) (shards : List ℕ) (part : Option Accesses) → is_leader a.node.role ≡ true → row_of a.node.rows txn ≡ None → a.out.kept.rows ≡ a.node.rows ++ undecided (new_entry tests a.node.rows txn shards part) ∷ [] → a.out.kept.role ≡ a.node.role
    → PrepareFits setup.shards t a.node.shard txn shards part → EntryFits setup.shards (goes_to t h.after) a.node.shard (new_entry tests a.node.rows txn shards part)
new_entry_fits tests setup t event h turn a txn shards part lead none rows still f =
    let g : Goes t (goes_to t h.after) = goes_of tests setup t event h turn in record {
      payload = f.payload;
      begun = is_begun-on t (goes_to t h.after) txn f.payload g f.begun;
      shards = f.of_shards;
      part = is_part-on t (goes_to t h.after) setup.shards a.node.shard txn f.payload part g.onward f.is_part;
      keeps = keeps_payload tests a.node.rows part;
      lost = λ e. record {
        later = [];
        after = h.after;
        before = t.now;
        earlier = t.before;
        moments = refl;
        node = a.node;
        there = a.is;
        of_shard = refl;
        leads = lead;
        nothing = none;
        grown = a.out.kept;
        grown_there = a.there;
        grown_name = effect_name tests setup.version a.node a.input a.out a.effect;
        still = still;
        entry = new_entry tests a.node.rows txn shards part;
        appended = rows;
        of_txn = refl;
        empty = lost_is_none tests a.node.rows part e;
      };
      vote = part_vote_names tests (goes_to t h.after) a.node.rows part (λ r s.
          let e : EntryFits setup.shards t a.node.shard r.entry = turn.before.transactions.rows a.node r a.is s in
          has_begun-on t (goes_to t h.after) r.entry.txn g (e.payload, e.begun));
    }

-- what a message that a node takes says of transactions was so
received_fits : (tests : Tests) (setup : Deployment) (t : Moment) (event : Event) (h : Happening) (from : ℕ) (m : Message) → Turn tests setup t event h → (a : Acting tests setup t event h)
    → a.input ≡ inputs.Deliver from m → MessageFits setup.shards t a.node.shard m
received_fits tests setup t event h from m turn a e = turn.before.transactions.messages from a.node m a.is (delivered setup t a.node.name event a.input a.comes turn.fits from m e)

-- each row of a node that acted fits
pub acted_rows_fit : (tests : Tests) (setup : Deployment) (t : Moment) (event : Event) (h : Happening) → Turn tests setup t event h → (a : Acting tests setup t event h) → (r : Row) → StandsIn r a.out.kept.rows
    → EntryFits setup.shards (goes_to t h.after) a.node.shard r.entry
acted_rows_fit tests setup t event h turn a r s =
    go a.input refl (row_came tests setup.version a.node a.input a.out r (turn.before.promises.roles a.node a.is) a.effect s)
  where
    u : Moment
    u = goes_to t h.after

    on : (x : Preparation) → EntryFits setup.shards t a.node.shard x → EntryFits setup.shards (goes_to t h.after) a.node.shard x
    on x f = entry_fits-on setup.shards t (goes_to t h.after) a.node.shard x (goes_of tests setup t event h turn) f

    of_state : (c : Membership) → c.shard ≡ a.node.shard → EntryFits setup.shards t c.shard r.entry → EntryFits setup.shards (goes_to t h.after) a.node.shard r.entry
    of_state c e f = on r.entry (subst (λ k. EntryFits setup.shards t k r.entry) e f)

    go : (input : Input) → a.input ≡ input → RowCame tests a.node a.out.kept r input → EntryFits setup.shards (goes_to t h.after) a.node.shard r.entry
    go _ e (WasThere input k l) = on r.entry (turn.before.transactions.rows a.node r a.is k)
    go _ e (WasMarked from epoch slot txn commit old l q has k at is) =
        subst (λ (x : Row). EntryFits setup.shards (goes_to t h.after) a.node.shard x.entry) (sym is) (on old.entry (turn.before.transactions.rows a.node old a.is k))
    go _ e (WasAppended from epoch txn shards part lead none rows still is) =
        subst (λ (x : Row). EntryFits setup.shards (goes_to t h.after) a.node.shard x.entry) (sym is)
        (new_entry_fits tests setup t event h turn a txn shards part lead none rows still (received_fits tests setup t event h from (Prepare epoch txn shards part) turn a e))
    go _ e (WasAccepted from epoch entry is) =
        subst (λ (x : Row). EntryFits setup.shards (goes_to t h.after) a.node.shard x.entry) (sym is) (on entry (received_fits tests setup t event h from (Accept epoch entry) turn a e))
    go _ e (WasWhole from c rows k shard epoch) = of_state c shard (received_fits tests setup t event h from (NewState c rows) turn a e r k)
    go _ e (WasInPiece from c number pieces rows k shard epoch) = of_state c shard (received_fits tests setup t event h from (StatePiece c number pieces rows) turn a e r k)
    go _ e (WasKept input g piece is k q shard epoch) =
        let kept : (from : ℕ) × WasSent t from a.node.name (StatePiece g.config piece.number g.pieces piece.rows) = turn.before.transfer.kept a.node g piece a.is is k in
        of_state g.config shard (turn.before.transactions.messages kept.0 a.node (StatePiece g.config piece.number g.pieces piece.rows) a.is kept.1 r q)
