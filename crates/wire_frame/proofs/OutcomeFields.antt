-- Decisions and refusals are read as they are spelled.
use Rattle.std.proofs.Common.{◌≡◌, ℕ, zero, suc, Bool, true, false, List, [], ◌∷◌, ◌++◌, Ok, refl, ◌∙◌}
use Rattle.tcs_terms.specs.declared.votes.Cause.{Cause}
use Rattle.tcs_terms.specs.declared.votes.Cause.TheVariants as causes
use Rattle.tcs_terms.specs.declared.votes.Decision.{Decision}
use Rattle.tcs_terms.specs.declared.votes.Decision.TheVariants.{Commit, Abort}
use Rattle.tcs_terms.specs.declared.messages.Why.{Why}
use Rattle.tcs_terms.specs.declared.messages.Why.TheVariants.{Stale, Held, Full}
use Rattle.tcs_terms.specs.Messages.{IsCause, IsDecision}
use Rattle.wire_frame.specs.Spelling.{spell_cause, spell_decision, spell_commit, spell_why}
use Rattle.wire_frame.specs.Parts.{cause_at, decision_at, commit_at, why_at}
use Rattle.wire_frame.proofs.Fields.{IsBytes, after_first, Takes, IsField, on, all_read, goes}
use Rattle.wire_frame.proofs.NumberFields.{shard_field, txn_field}

cause_takes : (bytes : List ℕ) (x : Cause × List ℕ) → IsBytes bytes → cause_at bytes ≡ Ok x → Takes bytes (spell_cause x.0) x.1 × IsCause x.0
unfolding cause_at
cause_takes [] x fits e = absurd cc
cause_takes (zero ∷ bytes) x fits e = absurd cc
cause_takes (suc zero ∷ bytes) x fits e =
    on txn_field _ x (1 ∷ bytes) (1 ∷ []) bytes (after_first 1 bytes fits) e (λ t rest so_far is e.
    all_read spell_cause IsCause (1 ∷ bytes) (causes.Clash t) rest x e so_far is)
cause_takes (suc (suc zero) ∷ bytes) x fits e = all_read spell_cause IsCause (2 ∷ bytes) causes.Lost bytes x e (after_first 2 bytes fits) tt
cause_takes (suc (suc (suc b)) ∷ bytes) x fits e = absurd cc

cause_again : (c : Cause) (rest : List ℕ) → IsCause c → cause_at (spell_cause c ++ rest) ≡ Ok (c, rest)
unfolding cause_at
cause_again (causes.Clash t) rest is = goes txn_field _ t rest is
cause_again causes.Lost rest is = refl

cause_field : IsField spell_cause IsCause cause_at
cause_field = record { takes = cause_takes; again = cause_again }

decision_takes : (bytes : List ℕ) (x : Decision × List ℕ) → IsBytes bytes → decision_at bytes ≡ Ok x → Takes bytes (spell_decision x.0) x.1 × IsDecision x.0
unfolding decision_at
decision_takes [] x fits e = absurd cc
decision_takes (zero ∷ bytes) x fits e = all_read spell_decision IsDecision (0 ∷ bytes) Commit bytes x e (after_first 0 bytes fits) tt
decision_takes (suc zero ∷ bytes) x fits e =
    on shard_field _ x (1 ∷ bytes) (1 ∷ []) bytes (after_first 1 bytes fits) e (λ shard mid so_far is_shard e.
    on cause_field _ x (1 ∷ bytes) _ mid so_far e (λ cause rest so_far is e.
    all_read spell_decision IsDecision (1 ∷ bytes) (Abort shard cause) rest x e so_far (is_shard, is)))
decision_takes (suc (suc b) ∷ bytes) x fits e = absurd cc

decision_again : (d : Decision) (rest : List ℕ) → IsDecision d → decision_at (spell_decision d ++ rest) ≡ Ok (d, rest)
unfolding decision_at
decision_again Commit rest is = refl
decision_again (Abort shard cause) rest is = goes shard_field _ shard (spell_cause cause ++ rest) is.0 ∙ goes cause_field _ cause rest is.1

pub decision_field : IsField spell_decision IsDecision decision_at
decision_field = record { takes = decision_takes; again = decision_again }

abbrev pub committed : Bool → List ℕ
committed c = spell_commit c ∷ []

commit_takes : (bytes : List ℕ) (x : Bool × List ℕ) → IsBytes bytes → commit_at bytes ≡ Ok x → Takes bytes (committed x.0) x.1 × Unit {0}
unfolding commit_at
commit_takes [] x fits e = absurd cc
commit_takes (zero ∷ bytes) x fits e = absurd cc
commit_takes (suc zero ∷ bytes) x fits e = all_read committed (λ c. Unit {0}) (1 ∷ bytes) true bytes x e (after_first 1 bytes fits) tt
commit_takes (suc (suc zero) ∷ bytes) x fits e = all_read committed (λ c. Unit {0}) (2 ∷ bytes) false bytes x e (after_first 2 bytes fits) tt
commit_takes (suc (suc (suc b)) ∷ bytes) x fits e = absurd cc

commit_again : (c : Bool) (rest : List ℕ) → Unit {0} → commit_at (committed c ++ rest) ≡ Ok (c, rest)
unfolding commit_at
commit_again true rest is = refl
commit_again false rest is = refl

pub commit_field : IsField committed (λ c. Unit {0}) commit_at
commit_field = record { takes = commit_takes; again = commit_again }

abbrev pub reasoned : Why → List ℕ
reasoned w = spell_why w ∷ []

why_takes : (bytes : List ℕ) (x : Why × List ℕ) → IsBytes bytes → why_at bytes ≡ Ok x → Takes bytes (reasoned x.0) x.1 × Unit {0}
unfolding why_at
why_takes [] x fits e = absurd cc
why_takes (zero ∷ bytes) x fits e = absurd cc
why_takes (suc zero ∷ bytes) x fits e = all_read reasoned (λ w. Unit {0}) (1 ∷ bytes) Stale bytes x e (after_first 1 bytes fits) tt
why_takes (suc (suc zero) ∷ bytes) x fits e = all_read reasoned (λ w. Unit {0}) (2 ∷ bytes) Held bytes x e (after_first 2 bytes fits) tt
why_takes (suc (suc (suc zero)) ∷ bytes) x fits e = all_read reasoned (λ w. Unit {0}) (3 ∷ bytes) Full bytes x e (after_first 3 bytes fits) tt
why_takes (suc (suc (suc (suc b))) ∷ bytes) x fits e = absurd cc

why_again : (w : Why) (rest : List ℕ) → Unit {0} → why_at (reasoned w ++ rest) ≡ Ok (w, rest)
unfolding why_at
why_again Stale rest is = refl
why_again Held rest is = refl
why_again Full rest is = refl

pub why_field : IsField reasoned (λ w. Unit {0}) why_at
why_field = record { takes = why_takes; again = why_again }
