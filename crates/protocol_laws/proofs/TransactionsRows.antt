-- Where each row of a node comes from, after it acted.
use Rattle.std.proofs.Common.{◌≡◌, ℕ, ◌≤◌, Bool, true, false, cond, List, [], ◌∷◌, ◌++◌, Option, Some, None, ◌==◌, ◌⊎◌, inl, inr, sym, ◌∙◌, ap, subst, refl, arith, eqb-true}
use Rattle.tcs_terms.specs.declared.ids.TxId.{TxId}
use Rattle.tcs_terms.specs.declared.inputs.Input.{Input}
use Rattle.tcs_terms.specs.declared.inputs.Input.TheVariants as inputs
use Rattle.tcs_terms.specs.declared.logs.Row.{Row}
use Rattle.tcs_terms.specs.declared.messages.Message.TheVariants.{Prepare, Accept, DecisionFor, NewState, StatePiece}
use Rattle.tcs_terms.specs.Payloads.{Accesses}
use Rattle.tcs_terms.specs.Places.{Membership}
use Rattle.tcs_terms.specs.Preparations.{Preparation}
use Rattle.tcs_laws.specs.Certification.{Tests}
use Rattle.protocol.specs.Log.{row_of, new_entry, undecided, has_at, set_mark, marked, mark_of}
use Rattle.protocol.specs.Outcomes.{Out}
use Rattle.protocol.specs.Pieces.{is_kept, with_piece, rows_of, with_one_more, begun, is_gathering_of, gathering_for}
use Rattle.protocol.specs.Records.{Role, Gathering, Piece, NodeRecord}
use Rattle.protocol.specs.Records.Role.{Fenced}
use Rattle.protocol.specs.ShardRules.{is_leader}
use Rattle.protocol.specs.Invariant.Promises.{FitsRole}
use Rattle.protocol.specs.Invariant.Time.{StandsIn}
use Rattle.protocol.proofs.Lists.{StandsIn-append}
use Rattle.protocol_laws.proofs.TransferPieces.{with_piece-StandsIn, same_config-is}
use Rattle.protocol_laws.specs.Effect.{Effect}
use Rattle.protocol_laws.specs.Effect.Effect.{Appends, Accepts, Marks, Leads, Follows, FollowsPieces}
use Rattle.protocol_laws.proofs.Standing.{IsMapped, map-StandsIn, IsPiece, flat_map-StandsIn}
use Rattle.protocol_laws.proofs.LogRows.{accepted_came}

-- A row that a node has after an input: it was there, got a mark, or came with the input or a piece that was kept.
pub data RowCame (tests : Tests) (node new : NodeRecord) (r : Row) : Input → Type 0 where
  WasThere : (input : Input) → StandsIn r node.rows → node.state ≤ new.state → RowCame tests node new r input
  WasMarked : (from epoch slot : ℕ) (txn : TxId) (commit : Bool) (old : Row) → epoch ≤ node.state → new.state ≡ node.state → has_at node.rows slot txn ≡ true → StandsIn old node.rows → old.entry.slot ≡ slot → r ≡ set_mark (mark_of commit) old
      → RowCame tests node new r (inputs.Deliver from (DecisionFor epoch slot txn commit))
  WasAppended : (from epoch : ℕ) (txn : TxId) (shards : List ℕ) (part : Option Accesses) → is_leader node.role ≡ true → row_of node.rows txn ≡ None
      → new.rows ≡ node.rows ++ undecided (new_entry tests node.rows txn shards part) ∷ [] → new.role ≡ node.role → r ≡ undecided (new_entry tests node.rows txn shards part)
      → RowCame tests node new r (inputs.Deliver from (Prepare epoch txn shards part))
  WasAccepted : (from epoch : ℕ) (entry : Preparation) → r ≡ undecided entry → RowCame tests node new r (inputs.Deliver from (Accept epoch entry))
  WasWhole : (from : ℕ) (c : Membership) (rows : List Row) → StandsIn r rows → c.shard ≡ node.shard → c.epoch ≡ new.state → RowCame tests node new r (inputs.Deliver from (NewState c rows))
  WasInPiece : (from : ℕ) (c : Membership) (number pieces : ℕ) (rows : List Row) → StandsIn r rows → c.shard ≡ node.shard → c.epoch ≡ new.state
      → RowCame tests node new r (inputs.Deliver from (StatePiece c number pieces rows))
  WasKept : (input : Input) (g : Gathering) (piece : Piece) → node.gathering ≡ Some g → StandsIn piece g.kept → StandsIn r piece.rows → g.config.shard ≡ node.shard → g.config.epoch ≡ new.state
      → RowCame tests node new r input

-- a piece among those of a gathering with one more
pub data PieceCame (gathering : Option Gathering) (config : Membership) (piece p : Piece) : Type 0 where
  IsNewPiece : p ≡ piece → PieceCame gathering config piece p
  IsOldPiece : (g : Gathering) → gathering ≡ Some g → StandsIn p g.kept → g.config.shard ≡ config.shard → g.config.epoch ≡ config.epoch → PieceCame gathering config piece p

one_more_came : (g : Gathering) (piece p : Piece) → StandsIn p (with_one_more g piece).kept → StandsIn p g.kept ⊎ (p ≡ piece)
one_more_came g piece p s = go (is_kept g.kept piece.number) s
  where
    go : (b : Bool) → StandsIn p (cond b g (record { config = g.config; pieces = g.pieces; kept = with_piece g.kept piece })).kept → StandsIn p g.kept ⊎ (p ≡ piece)
    go true k = inl k
    go false k = with_piece-StandsIn g.kept piece p k

pub piece_came : (gathering : Option Gathering) (config : Membership) (pieces : ℕ) (piece p : Piece) → StandsIn p (with_one_more (gathering_for gathering config pieces) piece).kept → PieceCame gathering config piece p
piece_came None config pieces piece p s = elim (one_more_came (begun config pieces) piece p s) [ inr e ↦ IsNewPiece e | inl k ↦ absurd k ]
piece_came (Some g) config pieces piece p s = go (is_gathering_of g config) refl s
  where
    go : (b : Bool) → is_gathering_of g config ≡ b → StandsIn p (with_one_more (cond b g (begun config pieces)) piece).kept → PieceCame (Some g) config piece p
    go true e k = elim (one_more_came g piece p k) [ inr q ↦ IsNewPiece q | inl q ↦ IsOldPiece g refl q (ap (λ (c : Membership). c.shard) (same_config-is g.config config e)) (ap (λ (c : Membership). c.epoch) (same_config-is g.config config e)) ]
    go false e k = elim (one_more_came (begun config pieces) piece p k) [ inr q ↦ IsNewPiece q | inl q ↦ absurd q ]

-- a row among those in which a slot was marked
pub record IsMarked (rows : List Row) (slot : ℕ) (commit : Bool) (r : Row) : Type 0 where
  pub old : Row
  pub among : StandsIn old rows
  pub at_slot : old.entry.slot ≡ slot
  pub is : r ≡ set_mark (mark_of commit) old

pub marked_came : (rows : List Row) (slot : ℕ) (commit : Bool) (r : Row) → StandsIn r (marked rows slot (mark_of commit)) → StandsIn r rows ⊎ IsMarked rows slot commit r
marked_came rows slot commit r s = go (map-StandsIn (λ (q : Row). cond (q.entry.slot == slot) (set_mark (mark_of commit) q) q) rows r s)
  where
    at : (old : Row) (b : Bool) → StandsIn old rows → (old.entry.slot == slot) ≡ b → r ≡ cond b (set_mark (mark_of commit) old) old → StandsIn r rows ⊎ IsMarked rows slot commit r
    at old true k e q = inr (record { old = old; among = k; at_slot = eqb-true old.entry.slot slot e; is = q })
    at old false k e q = inl (subst (λ x. StandsIn x rows) (sym q) k)

    go : IsMapped (λ (q : Row). cond (q.entry.slot == slot) (set_mark (mark_of commit) q) q) rows r → StandsIn r rows ⊎ IsMarked rows slot commit r
    go i = at i.from (i.from.entry.slot == slot) i.there refl i.is

-- a node's state epoch is at most its promise
state_promised : (node : NodeRecord) (role : Role) → FitsRole node role → role ≡ Fenced → node.state ≤ node.promised
state_promised node Fenced (inl l) e = omega (arith, l)
state_promised node Fenced (inr z) e = omega (arith, z.0)
state_promised node (Role.Leader c) f e = absurd (cc e)
state_promised node (Role.Follower c) f e = absurd (cc e)

pub row_came : (tests : Tests) (version : ℕ) (node : NodeRecord) (input : Input) (out : Out NodeRecord) (r : Row) → FitsRole node node.role → Effect tests version node input out → StandsIn r out.kept.rows → RowCame tests node out.kept r input
row_came tests version node _ _ r f (Appends from epoch txn shards part lead state among none room entry e) s = elim (StandsIn-append node.rows (undecided entry ∷ []) r s) [
  | inl k ↦ WasThere _ k (omega arith)
  | inr (inl q) ↦ WasAppended from epoch txn shards part lead none (ap (λ x. node.rows ++ undecided x ∷ []) e) refl (q ∙ ap undecided e)
  | inr (inr k) ↦ absurd k
]
row_came tests version node _ _ r f (Accepts from epoch entry a b c) s = elim (accepted_came node.rows entry r s) [ inl k ↦ WasThere _ k (omega arith) | inr e ↦ WasAccepted from epoch entry e ]
row_came tests version node _ _ r f (Marks from epoch slot txn commit low has) s = elim (marked_came node.rows slot commit r s) [
  | inl k ↦ WasThere _ k (omega arith)
  | inr m ↦ WasMarked from epoch slot txn commit m.old low refl has m.among m.at_slot m.is
]
row_came tests version node _ _ r f (Leads from config shard role promised leader) s = WasThere _ s (let l : node.state ≤ node.promised = state_promised node node.role f role in omega (arith, l, promised))
row_came tests version node _ _ r f (Follows from config rows v may) s = WasWhole from config rows s may.shard refl
row_came tests version node _ _ r f (FollowsPieces from config number pieces rows gathering v may takes is whole) s =
    go (flat_map-StandsIn (λ (p : Piece). p.rows) gathering.kept r s)
  where
    piece : Piece
    piece = record { number = number; rows = rows }

    new : NodeRecord
    new = record node { role = Role.Follower config; state = config.epoch; promised = config.epoch; rows = rows_of gathering.kept; gathering = None }

    at : (p : Piece) → StandsIn r p.rows → PieceCame node.gathering config piece p → RowCame tests node new r (inputs.Deliver from (StatePiece config number pieces rows))
    at p k (IsNewPiece e) = WasInPiece from config number pieces rows (subst (λ q. StandsIn r q.rows) e k) may.shard refl
    at p k (IsOldPiece g e q shard epoch) = WasKept _ g p e q k (shard ∙ may.shard) epoch

    go : IsPiece (λ (p : Piece). p.rows) gathering.kept r → RowCame tests node new r (inputs.Deliver from (StatePiece config number pieces rows))
    go i = at i.source i.within (piece_came node.gathering config pieces piece i.source (subst (λ g. StandsIn i.source g.kept) is i.among))
row_came tests version node _ _ r f _ s = WasThere _ s (omega arith)
