-- Small histories: correct ones, and ones that are correct but for one thing.
use Rattle.std.specs.Prelude.{◌≡◌, ℕ, ◌-◌, List, [], ◌∷◌, ◌++◌, Some, codes, true, false}
use Rattle.tcs_terms.specs.declared.votes.Decision.{Decision}
use Rattle.tcs_terms.specs.Payloads.{Accesses}
use Rattle.cert_serial.specs.Serial.{serial}
use Rattle.protocol.specs.Steps.Nodes.{writes_b, reads_both}
use Rattle.protocol.specs.Worked.Words.{txn, reads, range, writes, payload, begin, took, found, decide, certify, deliver, stop, take}
use Rattle.protocol.specs.History.{order_of, payload_in}
use Rattle.protocol.specs.CorrectHistory.{agrees, is_legal, keeps_time, names_clashes, names_losses}
use Rattle.protocol.specs.OneCopy.{is_honest, is_one_copy}
use Rattle.protocol.specs.FoundNothing.{found_nothing}
use Rattle.tcs_terms.specs.declared.inputs.Note.{Note}
use Rattle.tcs_terms.specs.declared.ids.TxId.{TxId}
use Rattle.tcs_terms.specs.declared.votes.Cause.TheVariants as causes
use Rattle.tcs_terms.specs.declared.votes.Decision.TheVariants as decisions
use Rattle.protocol.specs.Worked.LostPreparation as lost_preparation
use Rattle.protocol.specs.Worked.OneCommit as one_commit

-- two transactions that write one object, and one that writes another
abbrev pub first : TxId
first = txn 1 1

abbrev pub second : TxId
second = txn 1 2

abbrev pub third : TxId
third = txn 1 3

abbrev pub writes_a : List ℕ → ℕ → Accesses
writes_a value version = payload (reads (codes "a") (version - 1) ∷ []) [] (writes (codes "a") value ∷ []) version

-- both have begun
abbrev pub begun : List Note
begun = begin first (writes_a (5 ∷ []) 1) ∷ begin second (writes_a (6 ∷ []) 1) ∷ begin third writes_b ∷ []

abbrev pub clash : TxId → Decision
clash other = decisions.Abort 1 (causes.Clash other)

abbrev pub lost : Decision
lost = decisions.Abort 1 causes.Lost

-- All decisions of one transaction are equal, and each stands after its beginning.
pub record Agreeing : Type 0 where
  pub twice_the_same : agrees (begun ++ decide first decisions.Commit ∷ decide first decisions.Commit ∷ []) ≡ true
  pub of_two : agrees (begun ++ decide first decisions.Commit ∷ decide second (clash first) ∷ []) ≡ true
  pub commit_and_abort : agrees (begun ++ decide first decisions.Commit ∷ decide first lost ∷ []) ≡ false
  pub other_cause : agrees (begun ++ decide second (clash first) ∷ decide second lost ∷ []) ≡ false
  pub other_clash : agrees (begun ++ decide second (clash first) ∷ decide second (clash third) ∷ []) ≡ false
  pub other_shard : agrees (begun ++ decide second lost ∷ decide second (decisions.Abort 2 causes.Lost) ∷ []) ≡ false
  pub before_its_beginning : agrees (decide first decisions.Commit ∷ begun) ≡ false

-- The committed transactions pass the committed test one after the other, in the order of their first decisions.
pub record Ordering : Type 0 where
  pub in_order : order_of (begun ++ decide third decisions.Commit ∷ decide first decisions.Commit ∷ decide third decisions.Commit ∷ [])
      ≡ third ∷ first ∷ []
  pub aborted_are_left_out : order_of (begun ++ decide second (clash first) ∷ decide first decisions.Commit ∷ [])
      ≡ first ∷ []
  pub first_beginning_counts : payload_in (begun ++ begin first writes_b ∷ []) first ≡ Some (writes_a (5 ∷ []) 1)
  pub legal : is_legal serial (begun ++ decide third decisions.Commit ∷ decide first decisions.Commit ∷ []) ≡ true
  pub read_before_the_write : is_legal serial (begun ++ decide first decisions.Commit ∷ decide second decisions.Commit ∷ [])
      ≡ false
  pub read_after_the_write : is_legal serial (begun ++ decide first decisions.Commit ∷ begin (txn 1 4) (writes_a (7 ∷ []) 2) ∷ decide (txn 1 4) decisions.Commit ∷ [])
      ≡ true
  pub committed_but_never_begun : is_legal serial (decide first decisions.Commit ∷ []) ≡ false
  pub real_time : keeps_time (begin first (writes_a (5 ∷ []) 1) ∷ decide first decisions.Commit ∷ begin third writes_b ∷ decide third decisions.Commit ∷ [])
      ≡ true
  pub real_time_broken : keeps_time (begin third writes_b ∷ decide first decisions.Commit ∷ decide third decisions.Commit ∷ begin first (writes_a (5 ∷ []) 1) ∷ [])
      ≡ false

-- An abort by a clash names another transaction that began before, and whose part in the shard truly clashes.
pub record Clashing : Type 0 where
  pub named : names_clashes serial 1 (begun ++ decide second (clash first) ∷ []) ≡ true
  pub itself : names_clashes serial 1 (begun ++ decide second (clash second) ∷ []) ≡ false
  pub not_begun : names_clashes serial 1 (begun ++ decide second (clash (txn 2 1)) ∷ []) ≡ false
  pub begun_later : names_clashes serial 1 (begin second (writes_a (6 ∷ []) 1) ∷ decide second (clash first) ∷ begin first (writes_a (5 ∷ []) 1) ∷ [])
      ≡ false
  pub other_object : names_clashes serial 1 (begun ++ decide second (clash third) ∷ []) ≡ false
  pub other_shard : names_clashes serial 2 (begun ++ decide second (clash first) ∷ []) ≡ false

-- An abort of a lost transaction stands after a take-over of it.
pub record Losing : Type 0 where
  pub taken : names_losses (begun ++ took first ∷ decide first lost ∷ []) ≡ true
  pub not_taken : names_losses (begun ++ decide first lost ∷ []) ≡ false
  pub other_taken : names_losses (begun ++ took second ∷ decide first lost ∷ []) ≡ false
  pub taken_later : names_losses (begun ++ decide first lost ∷ took first ∷ []) ≡ false

-- a transaction that commits, and another that reads what it wrote
abbrev pub one_after_the_other : List ℕ → ℕ → List Note
one_after_the_other value version =
    found (codes "a") 0 []
    ∷ begin first (writes_a (5 ∷ []) 1)
    ∷ decide first decisions.Commit
    ∷ found (codes "a") version value
    ∷ begin third (writes_a (6 ∷ []) 2)
    ∷ decide third decisions.Commit
    ∷ []

-- the first transaction, and one with a range read at that version
abbrev pub range_after : Accesses → List Note
range_after p = begin first (writes_a (5 ∷ []) 1) ∷ decide first decisions.Commit ∷ begin third p ∷ decide third decisions.Commit ∷ []

-- Reads are honest where each was made before its transaction began. One copy of the data then has, before each
-- committed transaction, what that transaction read.
pub record Copying : Type 0 where
  pub honest : is_honest (one_after_the_other (5 ∷ []) 1) ≡ true
  pub not_read : is_honest begun ≡ false
  pub other_version : is_honest (one_after_the_other (5 ∷ []) 2) ≡ false
  pub read_too_late : is_honest (begin first (writes_a (5 ∷ []) 1) ∷ found (codes "a") 0 [] ∷ []) ≡ false
  pub one_copy : is_one_copy (one_after_the_other (5 ∷ []) 1) ≡ true
  pub other_value : is_one_copy (one_after_the_other (7 ∷ []) 1) ≡ false
  pub overwritten : is_one_copy (begun ++ decide first decisions.Commit ∷ decide second decisions.Commit ∷ []) ≡ false
  pub range_saw_it : is_one_copy (range_after (payload [] (range (codes "a") (codes "c") 1 ∷ []) [] 2)) ≡ true
  pub range_saw_less : is_one_copy (range_after (payload [] (range (codes "a") (codes "c") 0 ∷ []) [] 1)) ≡ false
  pub outside_the_range : is_one_copy (range_after (payload [] (range (codes "b") (codes "c") 0 ∷ []) [] 1)) ≡ true
  pub read_by_name : is_one_copy (range_after (payload (reads (codes "a") 1 ∷ []) (range (codes "a") (codes "c") 0 ∷ []) [] 2))
      ≡ true

-- A run with a take-over that found a preparation in the first shard and none in the second.
pub record FindingNothing : Type 0 where
  pub in_the_second : found_nothing serial lost_preparation.setup lost_preparation.events (txn 3 1) 2 ≡ true
  pub not_in_the_first : found_nothing serial lost_preparation.setup lost_preparation.events (txn 3 1) 1 ≡ false
  pub not_before_it_acts : found_nothing serial lost_preparation.setup (certify 3 reads_both ∷ deliver 1 ∷ stop 3 ∷ take 1 (txn 3 1) ∷ deliver 4 ∷ []) (txn 3 1) 2
      ≡ false
  pub not_of_another : found_nothing serial lost_preparation.setup lost_preparation.events (txn 1 1) 2 ≡ false
  pub not_with_a_payload : found_nothing serial one_commit.setup one_commit.events (txn 1 1) 1 ≡ false
