-- What a node gathers: pieces that were sent to it, in order; and all of them are what was sent.
use Rattle.std.proofs.Common.{◌≡◌, ℕ, ◌<◌, ◌≤◌, Bool, true, false, cond, ◌&&◌, ◌||◌, ◌==◌, nat_lt, nat_le, List, map, length, Option, Some, None, ◌⊎◌, inl, inr, sym, ◌∙◌, subst, refl, arith, eqb-true, ltb-true}
use Rattle.std.specs.Prelude.{IsTrue}
use Rattle.tcs_terms.specs.declared.inputs.Event.{Event}
use Rattle.tcs_terms.specs.declared.inputs.Input.{Input}
use Rattle.tcs_terms.specs.declared.inputs.Input.TheVariants.{Deliver}
use Rattle.tcs_terms.specs.declared.logs.Row.{Row}
use Rattle.tcs_terms.specs.declared.messages.Message.TheVariants.{StatePiece}
use Rattle.tcs_terms.specs.Order.{ascends}
use Rattle.tcs_terms.specs.Places.{Membership}
use Rattle.tcs_terms.specs.Setups.{Deployment}
use Rattle.tcs_terms.proofs.BoolLaws.{left_of, right_of}
use Rattle.tcs_laws.specs.Certification.{Tests}
use Rattle.protocol.specs.Invariant.Logs.{entries_of, Initial}
use Rattle.protocol.specs.Invariant.Time.{Moment, goes_to, StandsIn, IsNode, WasSent}
use Rattle.protocol.specs.Invariant.Transfer.{IsKeptOf, IsSentInPieces, TransferHolds}
use Rattle.protocol.specs.Outcomes.{Out}
use Rattle.protocol.specs.Pieces.{piece_count, is_kept, with_piece, rows_of, are_whole, fits, with_one_more, is_whole, begun, is_gathering_of, takes_piece, gathering_for}
use Rattle.protocol.specs.Records.{Piece, Gathering, NodeRecord}
use Rattle.protocol.specs.World.{Happening}
use Rattle.protocol_laws.specs.Effect.{Effect}
use Rattle.protocol_laws.specs.Effect.Effect.{Rests, Promises, Follows, Gathers, FollowsPieces}
use Rattle.protocol_laws.specs.Turn.{Turn, Onward}
use Rattle.protocol_laws.proofs.ConfigurationsInputs.{delivered}
use Rattle.protocol_laws.proofs.Lasting.{sent-on}
use Rattle.protocol_laws.proofs.Came.{node_back, Acting, effect_name}
use Rattle.protocol_laws.proofs.TransferPieces.{pieces-all, with_piece-ascends, with_piece-StandsIn, same_config-is}
use Rattle.protocol_laws.proofs.PromisesNode.{gathered_from-is}

-- pieces of a configuration that were sent to a node, ascending
pub record IsGathered (t : Moment) (name : ℕ) (config : Membership) (pieces : ℕ) (g : Gathering) : Type 0 where
  pub of_config : g.config ≡ config
  pub of_pieces : g.pieces ≡ pieces
  pub kept : (p : Piece) → StandsIn p g.kept → (from : ℕ) × WasSent t from name (StatePiece config p.number pieces p.rows)
  pub in_order : IsTrue (ascends (map (λ p. p.number) g.kept))

nothing_yet : (t : Moment) (name : ℕ) (config : Membership) (pieces : ℕ) → IsGathered t name config pieces (begun config pieces)
nothing_yet t name config pieces = record { of_config = refl; of_pieces = refl; kept = λ p s. absurd s; in_order = refl }

not_below : (n : ℕ) (b : Bool) → (nat_lt n n || b) ≡ true → b ≡ true
not_below n b h = go (nat_lt n n) refl h
  where
    go : (v : Bool) → nat_lt n n ≡ v → (v || b) ≡ true → b ≡ true
    go true e k = absurd (let l : n < n = ltb-true n n e in omega (arith, l))
    go false e k = k

-- what is gathered already for a configuration whose piece may be taken
gathered_so_far : (t : Moment) (transfer : TransferHolds t) (node : NodeRecord) (config : Membership) (pieces : ℕ) (piece : Piece) → IsNode t node → (o : Option Gathering) → node.gathering ≡ o → takes_piece o config pieces piece ≡ true
    → IsGathered t node.name config pieces (gathering_for o config pieces)
gathered_so_far t transfer node config pieces piece n None e h = nothing_yet t node.name config pieces
gathered_so_far t transfer node config pieces piece n (Some g) e h = go (is_gathering_of g config) refl
  where
    go : (b : Bool) → is_gathering_of g config ≡ b → IsGathered t node.name config pieces (cond b g (begun config pieces))
    go true f =
        let of : g.config ≡ config = same_config-is g.config config f in
        let both : (is_gathering_of g config && fits g pieces piece) ≡ true = not_below config.epoch (is_gathering_of g config && fits g pieces piece) (subst (λ (m : Membership). (nat_lt m.epoch config.epoch || (is_gathering_of g config && fits g pieces piece)) ≡ true) of h) in
        let fit : fits g pieces piece ≡ true = right_of (is_gathering_of g config) (fits g pieces piece) both in
        let count : g.pieces ≡ pieces = eqb-true g.pieces pieces (left_of (g.pieces == pieces) (nat_le 1 piece.number) (left_of ((g.pieces == pieces) && nat_le 1 piece.number) (nat_le piece.number pieces) (left_of ((g.pieces == pieces) && nat_le 1 piece.number && nat_le piece.number pieces) (is_kept g.kept piece.number || are_whole (rows_of (with_piece g.kept piece))) fit))) in
        record {
          of_config = of;
          of_pieces = count;
          kept = λ p s. let k : IsKeptOf t node g p = transfer.kept node g p n e s in (k.0, subst (λ n. WasSent t k.0 node.name (StatePiece config p.number n p.rows)) count (subst (λ (m : Membership). WasSent t k.0 node.name (StatePiece m p.number g.pieces p.rows)) of k.1));
          in_order = transfer.in_order node g n e;
        }
    go false f = nothing_yet t node.name config pieces

-- and with one more piece
one_more : (t : Moment) (name : ℕ) (config : Membership) (pieces from : ℕ) (g : Gathering) (piece : Piece) → IsGathered t name config pieces g → WasSent t from name (StatePiece config piece.number pieces piece.rows)
    → IsGathered t name config pieces (with_one_more g piece)
one_more t name config pieces from g piece so_far sent = go (is_kept g.kept piece.number) refl
  where
    go : (b : Bool) → is_kept g.kept piece.number ≡ b → IsGathered t name config pieces (cond b g (record { config = g.config; pieces = g.pieces; kept = with_piece g.kept piece }))
    go true e = so_far
    go false e = record {
      of_config = so_far.of_config;
      of_pieces = so_far.of_pieces;
      kept = λ p s. elim (with_piece-StandsIn g.kept piece p s) [
        | inl k ↦ so_far.kept p k
        | inr q ↦ (from, subst (λ (x : Piece). WasSent t from name (StatePiece config x.number pieces x.rows)) (sym q) sent)
      ];
      in_order = with_piece-ascends g.kept piece so_far.in_order;
    }

-- what a node gathered after it took a piece
pub gathered : (t : Moment) (transfer : TransferHolds t) (node : NodeRecord) (from : ℕ) (config : Membership) (number pieces : ℕ) (rows : List Row) → IsNode t node → WasSent t from node.name (StatePiece config number pieces rows)
    → takes_piece node.gathering config pieces (record { number = number; rows = rows }) ≡ true
    → IsGathered t node.name config pieces (with_one_more (gathering_for node.gathering config pieces) (record { number = number; rows = rows }))
gathered t transfer node from config number pieces rows n sent takes =
    one_more t node.name config pieces from (gathering_for node.gathering config pieces) (record { number = number; rows = rows })
    (gathered_so_far t transfer node config pieces (record { number = number; rows = rows }) n node.gathering refl takes) sent

-- all pieces together are the initial entries
pub whole-Initial : (t : Moment) (transfer : TransferHolds t) (name from to : ℕ) (config : Membership) (number pieces : ℕ) (rows : List Row) (g : Gathering) → IsGathered t name config pieces g
    → WasSent t from to (StatePiece config number pieces rows) → is_whole g ≡ true → Initial t config (entries_of (rows_of g.kept))
whole-Initial t transfer name from to config number pieces rows g gathered sent whole = go (transfer.pieces from to number pieces config rows sent)
  where
    go : (all : List Row) × IsSentInPieces t config all → Initial t config (entries_of (rows_of g.kept))
    go (all, sent_all) =
        let count : pieces ≡ piece_count all = (sent_all.pieces from to number pieces rows sent).0 in
        let long : length g.kept ≡ g.pieces = eqb-true (length g.kept) g.pieces whole in
        let is : rows_of g.kept ≡ all = pieces-all all g.kept (long ∙ (gathered.of_pieces ∙ count)) gathered.in_order
        (λ p s. let k = gathered.kept p s in let h = sent_all.pieces k.0 name p.number pieces p.rows k.1 in (h.1, subst (λ n. p.number ≤ n) count h.2, h.3)) in
        subst (λ rows. Initial t config (entries_of rows)) (sym is) sent_all.initial

-- a node took a piece, and gathers this now
record TookPiece (node : NodeRecord) (input : Input) (g : Gathering) : Type 0 where
  from : ℕ
  config : Membership
  number : ℕ
  pieces : ℕ
  rows : List Row
  delivers : input ≡ Deliver from (StatePiece config number pieces rows)
  takes : takes_piece node.gathering config pieces (record { number = number; rows = rows }) ≡ true
  is : g ≡ with_one_more (gathering_for node.gathering config pieces) (record { number = number; rows = rows })

gathering_by : (tests : Tests) (version : ℕ) (node : NodeRecord) (input : Input) (out : Out NodeRecord) → Effect tests version node input out → (g : Gathering) → out.kept.gathering ≡ Some g
    → (node.gathering ≡ Some g) ⊎ TookPiece node input g
gathering_by tests version node input out (Promises from epoch l) g h = inl (gathered_from-is epoch node.gathering g h)
gathering_by tests version node input out (Follows from config rows v m) g h = inl (gathered_from-is config.epoch node.gathering g h)
gathering_by tests version node input out (Gathers from config number pieces rows new v m takes e w) g h =
    inr (record { from = from; config = config; number = number; pieces = pieces; rows = rows; delivers = refl; takes = takes; is = let k : new ≡ g = cc h in sym k ∙ e })
gathering_by tests version node input out (FollowsPieces from config number pieces rows new v m takes e w) g h = absurd (cc h)
gathering_by tests version node input out (Rests i answer notices n) g h = inl h
gathering_by tests version node input out _ g h = inl h

-- what a node gathers after an event: as before, or it took a piece
record GathersNow (t : Moment) (new : NodeRecord) (g : Gathering) : Type 0 where
  config : Membership
  pieces : ℕ
  gathered : IsGathered t new.name config pieces g

-- what a node gathered before, that gathers the same now
record GatheredBefore (t : Moment) (new : NodeRecord) (g : Gathering) : Type 0 where
  old : NodeRecord
  is : IsNode t old
  named : old.name ≡ new.name
  gathers : old.gathering ≡ Some g

gathering_of : (tests : Tests) (setup : Deployment) (t : Moment) (event : Event) (h : Happening) → Turn tests setup t event h → (a : Acting tests setup t event h) (g : Gathering) → a.out.kept.gathering ≡ Some g
    → GatheredBefore t a.out.kept g ⊎ GathersNow t a.out.kept g
gathering_of tests setup t event h turn a g e = elim (gathering_by tests setup.version a.node a.input a.out a.effect g e) [
  | inl k ↦ inl (record { old = a.node; is = a.is; named = sym (effect_name tests setup.version a.node a.input a.out a.effect); gathers = k })
  | inr k ↦ inr (record {
    config = k.config;
    pieces = k.pieces;
    gathered =
        (let sent : WasSent t k.from a.node.name (StatePiece k.config k.number k.pieces k.rows) = delivered setup t a.node.name event a.input a.comes turn.fits k.from (StatePiece k.config k.number k.pieces k.rows) k.delivers in
        subst (λ (n : ℕ). IsGathered t n k.config k.pieces g) (sym (effect_name tests setup.version a.node a.input a.out a.effect))
        (subst (λ (f : Gathering). IsGathered t a.node.name k.config k.pieces f) (sym k.is) (gathered t turn.before.transfer a.node k.from k.config k.number k.pieces k.rows a.is sent k.takes)));
  })
]

gathering_back : (tests : Tests) (setup : Deployment) (t : Moment) (event : Event) (h : Happening) → Turn tests setup t event h → (new : NodeRecord) (g : Gathering) → IsNode (goes_to t h.after) new → new.gathering ≡ Some g
    → GatheredBefore t new g ⊎ GathersNow t new g
gathering_back tests setup t event h turn new g n e = elim (node_back tests setup t event h turn new n) [
  | inl k ↦ inl (record { old = new; is = k; named = refl; gathers = e })
  | inr k ↦ subst (λ (m : NodeRecord). GatheredBefore t m g ⊎ GathersNow t m g) (sym k.is) (gathering_of tests setup t event h turn k.acting g (subst (λ (m : NodeRecord). m.gathering ≡ Some g) k.is e))
]

-- each kept piece was sent
pub kept_then : (tests : Tests) (setup : Deployment) (t : Moment) (event : Event) (h : Happening) → Turn tests setup t event h → Onward t (goes_to t h.after) → (new : NodeRecord) (g : Gathering) (piece : Piece) → IsNode (goes_to t h.after) new
    → new.gathering ≡ Some g → StandsIn piece g.kept → IsKeptOf (goes_to t h.after) new g piece
kept_then tests setup t event h turn onward new g piece n e s = elim (gathering_back tests setup t event h turn new g n e) [
  | inl k ↦ (let old : IsKeptOf t k.old g piece = turn.before.transfer.kept k.old g piece k.is k.gathers s in
      (old.0, sent-on t (goes_to t h.after) old.0 new.name (StatePiece g.config piece.number g.pieces piece.rows) onward (subst (λ (n : ℕ). WasSent t old.0 n (StatePiece g.config piece.number g.pieces piece.rows)) k.named old.1)))
  | inr k ↦ (let it = k.gathered.kept piece s in (
    it.0,
    sent-on t (goes_to t h.after) it.0 new.name (StatePiece g.config piece.number g.pieces piece.rows) onward
        (subst (λ (c : Membership). WasSent t it.0 new.name (StatePiece c piece.number g.pieces piece.rows)) (sym k.gathered.of_config) (subst (λ (p : ℕ). WasSent t it.0 new.name (StatePiece k.config piece.number p piece.rows)) (sym k.gathered.of_pieces) it.1)),
  ))
]

-- and the pieces ascend
pub in_order_then : (tests : Tests) (setup : Deployment) (t : Moment) (event : Event) (h : Happening) → Turn tests setup t event h → (new : NodeRecord) (g : Gathering) → IsNode (goes_to t h.after) new
    → new.gathering ≡ Some g → IsTrue (ascends (map (λ (p : Piece). p.number) g.kept))
in_order_then tests setup t event h turn new g n e = elim (gathering_back tests setup t event h turn new g n e) [
  | inl k ↦ turn.before.transfer.in_order k.old g k.is k.gathers
  | inr k ↦ k.gathered.in_order
]
