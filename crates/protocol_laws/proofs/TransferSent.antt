-- State that is sent is the initial entries of a configuration: whole, or cut in pieces from one list.
use Rattle.std.proofs.Common.{◌≡◌, ℕ, ◌≤◌, List, ◌⊎◌, inl, inr, sym, ◌∙◌, ap, subst, refl}
use Rattle.tcs_terms.specs.declared.inputs.Event.{Event}
use Rattle.tcs_terms.specs.declared.inputs.Input.{Input}
use Rattle.tcs_terms.specs.declared.logs.Row.{Row}
use Rattle.tcs_terms.specs.declared.messages.Message.{Message}
use Rattle.tcs_terms.specs.declared.messages.Message.TheVariants.{NewState, StatePiece}
use Rattle.tcs_terms.specs.Places.{Membership}
use Rattle.tcs_terms.specs.Setups.{Deployment}
use Rattle.tcs_laws.specs.Certification.{Tests}
use Rattle.protocol.specs.Invariant.Logs.{entries_of, Initial}
use Rattle.protocol.specs.Invariant.Time.{Moment, goes_to, WasSent}
use Rattle.protocol.specs.Invariant.Transfer.{IsSentInPieces}
use Rattle.protocol.specs.Outcomes.{to}
use Rattle.protocol.specs.Pieces.{piece_count, piece_of}
use Rattle.protocol.specs.Records.{NodeRecord}
use Rattle.protocol.specs.World.{Happening}
use Rattle.protocol_laws.specs.Turn.{Turn, Onward}
use Rattle.protocol_laws.proofs.Lasting.{one_node, initial-on}
use Rattle.protocol_laws.proofs.Came.{message_back, Acting}
use Rattle.protocol_laws.proofs.TransferEnters.{BecomesLeader, LeadsAs, Leading, leading_of}
use Rattle.protocol_laws.proofs.TransferInitial.{no_initial, initial_now}
use Rattle.protocol_laws.proofs.TransferSending.{Sending, sending_by, SaysNothing}
use Rattle.protocol_laws.proofs.TransferSending.Sending.{Says, SendsWhole, SendsPiece}
use Rattle.protocol_laws.proofs.ServiceSays.{ServiceSays}
use Rattle.protocol_laws.proofs.ServiceSays.ServiceSays.{TellsStored, TellsChange, Refuses}

served-says : (kept : List Membership) (m : Message) → ServiceSays kept m → SaysNothing m
served-says kept _ (TellsStored c k) = tt
served-says kept _ (TellsChange c k) = tt
served-says kept _ (Refuses kind why mark) = tt

-- a message that speaks of entries, sent in an event
pub record SentNow (tests : Tests) (setup : Deployment) (t : Moment) (event : Event) (h : Happening) (from dest : ℕ) (m : Message) : Type 0 where
  pub acting : Acting tests setup t event h
  pub sender : from ≡ acting.node.name
  pub why : Sending acting.node acting.input acting.out.kept dest m

-- a message that speaks of entries was sent before, or a node sent it for one of the reasons
pub sent_why : (tests : Tests) (setup : Deployment) (t : Moment) (event : Event) (h : Happening) → Turn tests setup t event h → (from dest : ℕ) (m : Message) → (SaysNothing m → ⊥) → WasSent (goes_to t h.after) from dest m
    → WasSent t from dest m ⊎ SentNow tests setup t event h from dest m
sent_why tests setup t event h turn from dest m speaks s = elim (message_back tests setup t event h turn from dest m s) [
  | inl k ↦ inl k
  | inr (inl k) ↦ inr (record { acting = k.acting; sender = k.sender; why = sending_by tests setup.version k.acting.node k.acting.input k.acting.out k.acting.effect (to dest m) k.among })
  | inr (inr k) ↦ absurd (speaks (served-says h.after.configs m k))
]

-- state is sent by who becomes leader
record WholeBy (node : NodeRecord) (input : Input) (new : NodeRecord) (c : Membership) (rows : List Row) : Type 0 where
  leads : BecomesLeader node input new
  is : leads.config ≡ c
  all : node.rows ≡ rows

whole_by : (node : NodeRecord) (input : Input) (new : NodeRecord) (dest : ℕ) (c : Membership) (rows : List Row) → Sending node input new dest (NewState c rows) → WholeBy node input new c rows
whole_by node input new dest c rows (Says m h) = absurd h
whole_by node input new dest c rows (SendsWhole b) = record { leads = b; is = refl; all = refl }

record PieceBy (node : NodeRecord) (input : Input) (new : NodeRecord) (c : Membership) (number pieces : ℕ) (rows : List Row) : Type 0 where
  leads : BecomesLeader node input new
  is : leads.config ≡ c
  some : 1 ≤ number
  few : number ≤ pieces
  count : pieces ≡ piece_count node.rows
  piece : rows ≡ piece_of node.rows number

piece_by : (node : NodeRecord) (input : Input) (new : NodeRecord) (dest : ℕ) (c : Membership) (number pieces : ℕ) (rows : List Row) → Sending node input new dest (StatePiece c number pieces rows) → PieceBy node input new c number pieces rows
piece_by node input new dest c number pieces rows (Says m h) = absurd h
piece_by node input new dest c number pieces rows (SendsPiece b n some few) = record { leads = b; is = refl; some = some; few = few; count = refl; piece = refl }

module _ (tests : Tests) (setup : Deployment) (t : Moment) (event : Event) (h : Happening) (turn : Turn tests setup t event h) (onward : Onward t (goes_to t h.after)) where
  -- who becomes leader of a configuration
  record Leads (a : Acting tests setup t event h) (c : Membership) : Type 0 where
    leading : Leading t (goes_to t h.after) c
    rows : a.node.rows ≡ leading.node.rows

  leads : (a : Acting tests setup t event h) (b : BecomesLeader a.node a.input a.out.kept) (c : Membership) → b.config ≡ c → Leads a c
  leads a b c e =
      let l : LeadsAs t (goes_to t h.after) b.config a.out.kept = leading_of tests setup t event h turn a b in
      subst (λ (d : Membership). Leads a d) e (record { leading = l.leading; rows = ap (λ (n : NodeRecord). n.rows) (sym b.is ∙ l.is) })

  -- rows that are sent whole are the initial entries
  pub whole_then : (from dest : ℕ) (c : Membership) (rows : List Row) → WasSent (goes_to t h.after) from dest (NewState c rows) → Initial (goes_to t h.after) c (entries_of rows)
  whole_then from dest c rows s = elim (sent_why tests setup t event h turn from dest (NewState c rows) (λ x. x) s) [
    | inl k ↦ initial-on t (goes_to t h.after) c (entries_of rows) onward (turn.before.transfer.whole from dest c rows k)
    | inr k ↦ (let w : WholeBy k.acting.node k.acting.input k.acting.out.kept c rows = whole_by k.acting.node k.acting.input k.acting.out.kept dest c rows k.why in
        let l : Leads k.acting c = leads k.acting w.leads c w.is in
        subst (λ xs. Initial (goes_to t h.after) c (entries_of xs)) (sym l.rows ∙ w.all) (initial_now t h.after c onward l.leading))
  ]

  -- where the leader became leader now, it cut the pieces
  pieces_now : (c : Membership) (l : Leading t (goes_to t h.after) c) → IsSentInPieces (goes_to t h.after) c l.node.rows
  pieces_now c l = record {
    initial = initial_now t h.after c onward l;
    pieces = λ from dest number pieces rows s. elim (sent_why tests setup t event h turn from dest (StatePiece c number pieces rows) (λ x. x) s) [
      | inl k ↦ absurd (let all = turn.before.transfer.pieces from dest number pieces c rows k in no_initial tests setup t event h turn c l (entries_of all.0, all.1.initial))
      | inr k ↦ by_acting from dest number pieces rows k (piece_by k.acting.node k.acting.input k.acting.out.kept dest c number pieces rows k.why)
    ];
  }
    where
      by_acting : (from dest number pieces : ℕ) (rows : List Row) (k : SentNow tests setup t event h from dest (StatePiece c number pieces rows)) → PieceBy k.acting.node k.acting.input k.acting.out.kept c number pieces rows
          → (pieces ≡ piece_count l.node.rows) × (1 ≤ number) × (number ≤ pieces) × (rows ≡ piece_of l.node.rows number)
      by_acting from dest number pieces rows k p =
          let same : k.acting.node ≡ l.node = one_node setup t k.acting.node l.node turn.before.configurations k.acting.is l.is (sym p.leads.leader ∙ (ap (λ (d : Membership). d.leader) p.is ∙ l.leader)) in
          (p.count ∙ ap (λ (n : NodeRecord). piece_count n.rows) same, p.some, p.few, p.piece ∙ ap (λ (n : NodeRecord). piece_of n.rows number) same)

  -- pieces that are sent are of one list, the initial entries
  pub pieces_then : (from dest number pieces : ℕ) (c : Membership) (rows : List Row) → WasSent (goes_to t h.after) from dest (StatePiece c number pieces rows) → (all : List Row) × IsSentInPieces (goes_to t h.after) c all
  pieces_then from dest number pieces c rows s = elim (sent_why tests setup t event h turn from dest (StatePiece c number pieces rows) (λ x. x) s) [
    | inl k ↦ pieces_on (turn.before.transfer.pieces from dest number pieces c rows k)
    | inr k ↦ (let p : PieceBy k.acting.node k.acting.input k.acting.out.kept c number pieces rows = piece_by k.acting.node k.acting.input k.acting.out.kept dest c number pieces rows k.why in
        let l : Leads k.acting c = leads k.acting p.leads c p.is in
        (l.leading.node.rows, pieces_now c l.leading))
  ]
    where
      pieces_on : (all : List Row) × IsSentInPieces t c all → (all : List Row) × IsSentInPieces (goes_to t h.after) c all
      pieces_on (all, k) = (
        all,
        record {
          initial = initial-on t (goes_to t h.after) c (entries_of all) onward k.initial;
          pieces = λ from dest number pieces rows s. elim (sent_why tests setup t event h turn from dest (StatePiece c number pieces rows) (λ x. x) s) [
            | inl old ↦ k.pieces from dest number pieces rows old
            | inr new ↦ absurd (let p : PieceBy new.acting.node new.acting.input new.acting.out.kept c number pieces rows = piece_by new.acting.node new.acting.input new.acting.out.kept dest c number pieces rows new.why in
                no_initial tests setup t event h turn c (leads new.acting p.leads c p.is).leading (entries_of all, k.initial))
          ];
        },
      )
