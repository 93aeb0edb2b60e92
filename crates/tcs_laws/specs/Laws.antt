-- What certifiers obey. Generic code and the protocol's proofs know a certifier by these laws alone.
use Rattle.std.specs.Prelude.{◌≡◌, ℕ, ◌≤◌, List, IsTrue, All, IfSome}
use Rattle.tcs_terms.specs.declared.limits.TheConstants.{MAX_SHARDS}
use Rattle.tcs_terms.specs.Payloads.{Accesses, IsPayload}
use Rattle.tcs_terms.specs.Shards.{seen}
use Rattle.tcs_laws.specs.Certification.{Tests, committed_passes, committed_passes_in_each}
use Rattle.tcs_laws.specs.Writing.{writes_name}

-- The three laws of a certifier (after Chockler and Gotsman, DISC 2018), asked of payloads alone. Its committed test is
-- distributive over shards: it passes on whole payloads exactly where it passes on their parts in every shard, whatever
-- the number of shards. What passes the prepared test passes the committed test, and also with the roles exchanged.
pub record IsLawful (tests : Tests) : Type 0 where
  pub by_shards : (n : ℕ) → 1 ≤ n → n ≤ MAX_SHARDS → (olds : List Accesses) (new : Accesses) → All IsPayload olds → IsPayload new
      → committed_passes tests olds new ≡ committed_passes_in_each tests n olds new
  pub prepared_commits : (old new : Accesses) → IsPayload old → IsPayload new → IsTrue (tests.prepared_ok old new)
      → IsTrue (tests.committed_ok old new)
  pub prepared_commits_turned : (old new : Accesses) → IsPayload old → IsPayload new → IsTrue (tests.prepared_ok old new)
      → IsTrue (tests.committed_ok new old)

-- Of two payloads that write one object and pass the committed test, the older has a commit version of at most the
-- version at which the newer saw the object. So versions of an object increase.
pub record OrdersWrites (tests : Tests) : Type 0 where
  pub above : (old new : Accesses) → IsPayload old → IsPayload new → IsTrue (tests.committed_ok old new) → (name : List ℕ)
      → IsTrue (writes_name old.writes name) → IsTrue (writes_name new.writes name)
      → IfSome (seen new name) (λ version. old.version ≤ version)

-- The same for each object that the older payload writes and the newer one saw, by name or in a range. So what a
-- transaction read is what it finds at its place in the order.
pub record ChecksReads (tests : Tests) : Type 0 where
  pub above : (old new : Accesses) → IsPayload old → IsPayload new → IsTrue (tests.committed_ok old new) → (name : List ℕ)
      → IsTrue (writes_name old.writes name) → IfSome (seen new name) (λ version. old.version ≤ version)
