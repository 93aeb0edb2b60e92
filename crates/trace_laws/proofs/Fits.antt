-- Each message of a run may stand in a trace of its version: its kind is of the version, and its payloads are parts of
-- payloads with which transactions began.
use Rattle.std.proofs.Common.{◌≡◌, ℕ, ◌+◌, ◌<◌, ◌≤◌, Bool, true, false, cond, ◌&&◌, ◌||◌, ◌==◌, List, [], length, Option, Some, None, inl, inr, sym, ap, subst, refl, arith, eqb-true}
use Rattle.std.specs.List.{list_all}
use Rattle.std.proofs.lemmas.Bool.{and_from}
use Rattle.std.proofs.lemmas.Bool.Decides.{nat_tests}
use Rattle.tcs_terms.specs.declared.ids.TxId.{TxId}
use Rattle.tcs_terms.specs.declared.inputs.Note.TheVariants.{Begin}
use Rattle.tcs_terms.specs.declared.logs.Row.{Row}
use Rattle.tcs_terms.specs.declared.messages.Message.{Message}
use Rattle.tcs_terms.specs.declared.messages.Message.TheVariants.{Prepare, PrepareAck, Accept, AcceptAck, DecisionFor, Probe, ProbeAck, NewConfig, NewState, ConfigChange, Last, At, Cas, Stored, OutcomeOf, Refused, StatePiece}
use Rattle.tcs_terms.specs.declared.payloads.RangePart.{RangePart}
use Rattle.tcs_terms.specs.Payloads.{Accesses}
use Rattle.tcs_terms.specs.Preparations.{Preparation}
use Rattle.tcs_terms.specs.Setups.{Deployment, IsDeployment, has_node}
use Rattle.tcs_terms.specs.Shards.{part_in}
use Rattle.trace_text.specs.Versions.{payload_fits, row_fits, message_fits}
use Rattle.tcs_laws.specs.Certification.{Tests}
use Rattle.protocol.specs.Records.{NodeRecord}
use Rattle.protocol.specs.Invariant.{InvariantHolds}
use Rattle.protocol.specs.Invariant.Configurations.{ConfigurationsHold}
use Rattle.protocol.specs.Invariant.Time.{Moment, StandsIn, IsNode, WasSent}
use Rattle.protocol.specs.Invariant.Transactions.{IsBegun, IsPart, EntryFits, MessageFits}
use Rattle.protocol_laws.specs.Addresses.{names_txn, TransactionsStayAmongNodes}
use Rattle.protocol_laws.proofs.HistoryKept.{payload-begun}
use Rattle.protocol_laws.proofs.Numbered.{numbered_there}
use Rattle.protocol_laws.proofs.Standing.{all-from}
use Rattle.trace_laws.proofs.Asked.{AllFit}
use Rattle.trace_laws.proofs.OfVersion.{IsOfVersion, AllOfVersion}

-- ---- payloads

-- there are no ranges but in version 2
ranges-fit : (version : ℕ) (ranges : List RangePart) → ((version == 1) || (version == 2)) ≡ true → (version ≡ 1 → ranges ≡ []) → ((version == 2) || (length ranges == 0)) ≡ true
ranges-fit version ranges v fits = go (version == 1) (version == 2) refl v
  where
    go : (a b : Bool) → (version == 1) ≡ a → (a || b) ≡ true → (b || (length ranges == 0)) ≡ true
    go a true e h = refl
    go true false e h = ap (λ (qs : List RangePart). length qs == 0) (fits (eqb-true version 1 e))
    go false false e h = absurd (cc h)

-- what begins fits
begun-fits : (setup : Deployment) (t : Moment) (txn : TxId) (payload : Accesses) → IsDeployment setup → AllFit setup.version t → IsBegun t txn payload → ((setup.version == 2) || (length payload.ranges == 0)) ≡ true
begun-fits setup t txn payload d fit begun =
    let b : (other : TxId) × StandsIn (Begin other payload) t.now.history = payload-begun t.now.history txn payload begun.first in
    ranges-fit setup.version payload.ranges d.version (fit (Begin b.0 payload) b.1)

-- so do its parts
part-fits : (version n shard : ℕ) (t : Moment) (txn : TxId) (whole : Accesses) (part : Option Accesses) → ((version == 2) || (length whole.ranges == 0)) ≡ true → IsPart t n shard txn whole part → payload_fits version part ≡ true
part-fits version n shard t txn whole part h (inl e) = subst (λ o. payload_fits version o ≡ true) (sym e) (go ((length (part_in n shard whole).reads == 0) && (length whole.ranges == 0)))
  where
    go : (b : Bool) → payload_fits version (cond b None (Some (part_in n shard whole))) ≡ true
    go true = refl
    go false = h
part-fits version n shard t txn whole part h (inr p) = subst (λ o. payload_fits version o ≡ true) (sym p.0) refl

entry-fits : (setup : Deployment) (t : Moment) (shard : ℕ) (entry : Preparation) → IsDeployment setup → AllFit setup.version t → EntryFits setup.shards t shard entry → payload_fits setup.version entry.payload ≡ true
entry-fits setup t shard entry d fit e = part-fits setup.version setup.shards shard t entry.txn e.payload entry.payload (begun-fits setup t entry.txn e.payload d fit e.begun) e.part

rows-fit : (setup : Deployment) (t : Moment) (shard : ℕ) (rows : List Row) → IsDeployment setup → AllFit setup.version t → ((r : Row) → StandsIn r rows → EntryFits setup.shards t shard r.entry) → list_all (row_fits setup.version) rows ≡ true
rows-fit setup t shard rows d fit k = all-from (row_fits setup.version) rows (λ r s. entry-fits setup t shard r.entry d fit (k r s))

-- ---- messages

-- what says of transactions what is so
said-fits : (setup : Deployment) (t : Moment) (shard : ℕ) (m : Message) → IsDeployment setup → AllFit setup.version t → IsOfVersion setup.version m → MessageFits setup.shards t shard m → message_fits setup.version m ≡ true
said-fits setup t shard (Prepare epoch txn shards payload) d fit v k =
    part-fits setup.version setup.shards shard t txn k.payload payload (begun-fits setup t txn k.payload d fit k.begun) k.is_part
said-fits setup t shard (PrepareAck of_shard epoch entry) d fit v k = entry-fits setup t of_shard entry d fit k
said-fits setup t shard (Accept epoch entry) d fit v k = entry-fits setup t shard entry d fit k
said-fits setup t shard (AcceptAck of_shard epoch slot txn) d fit v k = refl
said-fits setup t shard (DecisionFor epoch slot txn commit) d fit v k = refl
said-fits setup t shard (Probe epoch) d fit v k = refl
said-fits setup t shard (ProbeAck epoch state) d fit v k = refl
said-fits setup t shard (NewConfig config) d fit v k = refl
said-fits setup t shard (NewState config rows) d fit v k = and_from (setup.version == 1) (list_all (row_fits setup.version) rows) (one (setup.version == 1) (setup.version == 2) d.version v) (rows-fit setup t config.shard rows d fit k)
  where
    one : (a b : Bool) → (a || b) ≡ true → b ≡ false → a ≡ true
    one true b h e = refl
    one false b h e = absurd (cc (h, e))
said-fits setup t shard (ConfigChange config) d fit v k = refl
said-fits setup t shard (Last of_shard) d fit v k = refl
said-fits setup t shard (At of_shard epoch) d fit v k = refl
said-fits setup t shard (Cas config) d fit v k = refl
said-fits setup t shard (Stored config) d fit v k = refl
said-fits setup t shard (OutcomeOf txn decision) d fit v k = refl
said-fits setup t shard (Refused kind why mark) d fit v k = refl
said-fits setup t shard (StatePiece config piece pieces rows) d fit v k = v

-- what names no transaction
unnamed-fits : (version : ℕ) (m : Message) → names_txn m ≡ false → message_fits version m ≡ true
unnamed-fits version (Prepare epoch txn shards payload) e = absurd (cc e)
unnamed-fits version (PrepareAck shard epoch entry) e = absurd (cc e)
unnamed-fits version (Accept epoch entry) e = absurd (cc e)
unnamed-fits version (NewState config rows) e = absurd (cc e)
unnamed-fits version (StatePiece config piece pieces rows) e = absurd (cc e)
unnamed-fits version _ e = refl

-- the node of a name
node-at : (setup : Deployment) (t : Moment) (name : ℕ) → ConfigurationsHold setup t → has_node setup.nodes name ≡ true → (node : NodeRecord) × IsNode t node × (node.name ≡ name)
node-at setup t name k h = numbered_there (λ (n : NodeRecord). n.name) t.now.nodes 1 (length setup.nodes) name k.names (low h) (high h)
  where
    low : has_node setup.nodes name ≡ true → 1 ≤ name
    low p = grind (arith, nat_tests)

    high : has_node setup.nodes name ≡ true → name < 1 + length setup.nodes
    high p = grind (arith, nat_tests)

pub sent-fits : (tests : Tests) (setup : Deployment) (t : Moment) → IsDeployment setup → InvariantHolds tests setup t → TransactionsStayAmongNodes setup t.now → AllFit setup.version t → AllOfVersion setup.version t
    → (from dest : ℕ) (m : Message) → WasSent t from dest m → message_fits setup.version m ≡ true
sent-fits tests setup t d holds among fit kinds from dest m s = go (names_txn m) refl
  where
    to_node : (node : NodeRecord) → IsNode t node → node.name ≡ dest → message_fits setup.version m ≡ true
    to_node node is named = said-fits setup t node.shard m d fit (kinds from dest m s) (holds.transactions.messages from node m is (subst (λ n. WasSent t from n m) (sym named) s))

    go : (b : Bool) → names_txn m ≡ b → message_fits setup.version m ≡ true
    go true e = let n = node-at setup t dest holds.configurations (among.messages from dest m s.sent e).receiver in to_node n.0 n.1 n.2
    go false e = unnamed-fits setup.version m e
