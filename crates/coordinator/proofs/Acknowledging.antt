-- The rules about acknowledgements, by whether they act.
use Rattle.std.proofs.Common.{◌≡◌, ℕ, Bool, true, false, cond, List, [], ◌∷◌, map, Option, Some, None, refl, ap, eq-eqb}
use Rattle.std.specs.Prelude.{◌==◌, find, option_and_then, if◌then◌else◌}
use Rattle.tcs_terms.specs.declared.ids.TxId.{TxId}
use Rattle.tcs_terms.specs.Places.{Membership}
use Rattle.protocol.specs.Choices.{when}
use Rattle.protocol.specs.Outcomes.{Out, refuses}
use Rattle.protocol.specs.Records.{Part, Case, Coordinator}
use Rattle.protocol.specs.Views.{view_of, view_epoch, epoch_of}
use Rattle.protocol.specs.Cases.{part_of, put_part}
use Rattle.protocol.specs.Coordination.{case_of, in_case, in_part, in_view}
use Rattle.coordinator.specs.Acknowledged.{part_in, both_pass}

-- a rule about a shard of a case, that acts where a test of the part and the view passes
module _ (c : Coordinator) (epoch shard : ℕ) (txn : TxId) (test : Part → Membership → Bool) (act : Case → Part → Membership → Out Coordinator) where
  abbrev pub rule : Case → Part → Membership → Out Coordinator
  rule case part view = when (test part view) (act case part view) (refuses epoch view.epoch c)

  refused_view : (case : Case) (part : Part) (view : Option Membership) → both_pass test (Some part) view ≡ false
      → in_view c epoch (rule case part) view ≡ refuses epoch (epoch_of view) c
  unfolding when
  refused_view case part None h = refl
  refused_view case part (Some view) h = rw h refl

  refused_part : (case : Case) (part : Option Part) → both_pass test part (view_of c.views shard) ≡ false
      → in_part c epoch shard (rule case) part ≡ refuses epoch (view_epoch c.views shard) c
  refused_part case None h = refl
  refused_part case (Some part) h = refused_view case part (view_of c.views shard) h

  refused_case : (case : Option Case) → both_pass test (option_and_then (λ x. part_of x.parts shard) case) (view_of c.views shard) ≡ false
      → in_case c epoch shard rule case ≡ refuses epoch (view_epoch c.views shard) c
  refused_case None h = refl
  refused_case (Some case) h = refused_part case (part_of case.parts shard) h

  pub refused : both_pass test (part_in c.cases txn shard) (view_of c.views shard) ≡ false
      → in_case c epoch shard rule (case_of c txn) ≡ refuses epoch (view_epoch c.views shard) c
  refused h = refused_case (case_of c txn) h

  -- where the test passes
  pub record Acts : Type 0 where
    pub case : Case
    pub part : Part
    pub view : Membership
    pub of_txn : case_of c txn ≡ Some case
    pub of_shard : part_of case.parts shard ≡ Some part
    pub seen : view_of c.views shard ≡ Some view
    pub row : in_case c epoch shard rule (case_of c txn) ≡ act case part view

  acts_view : (case : Case) (part : Part) (view : Option Membership) → case_of c txn ≡ Some case → part_of case.parts shard ≡ Some part → view_of c.views shard ≡ view
      → both_pass test (Some part) view ≡ true → Acts
  unfolding when
  acts_view case part None p q r h = absurd cc
  acts_view case part (Some view) p q r h = record {
    case = case;
    part = part;
    view = view;
    of_txn = p;
    of_shard = q;
    seen = r;
    row = rw (p, q, r, h) refl;
  }

  acts_part : (case : Case) (part : Option Part) → case_of c txn ≡ Some case → part_of case.parts shard ≡ part → both_pass test part (view_of c.views shard) ≡ true → Acts
  acts_part case None p q h = absurd cc
  acts_part case (Some part) p q h = acts_view case part (view_of c.views shard) p q refl h

  acts_case : (case : Option Case) → case_of c txn ≡ case → both_pass test (option_and_then (λ x. part_of x.parts shard) case) (view_of c.views shard) ≡ true → Acts
  acts_case None p h = absurd cc
  acts_case (Some case) p h = acts_part case (part_of case.parts shard) p refl h

  pub acts : both_pass test (part_in c.cases txn shard) (view_of c.views shard) ≡ true → Acts
  acts h = acts_case (case_of c txn) refl h

-- the part that was put is the one that is found
found_after_put_at : (shard k : ℕ) (new : Part) (parts : List Part) (was : Part) → k ≡ shard → (new.shard == shard) ≡ true → part_of parts shard ≡ Some was
    → find (λ p. p.shard == shard) (map (λ x. if x.shard == k then new else x) parts) ≡ Some new
found_after_put_at shard k new [] was same own h = absurd cc
found_after_put_at shard k new (p ∷ ps) was same own h = go (p.shard == shard) refl (found_after_put_at shard k new ps was same own) h where
  tests : (p.shard == k) ≡ (p.shard == shard)
  tests = ap (λ (n : ℕ). p.shard == n) same

  go : (b : Bool) → (p.shard == shard) ≡ b
      → (part_of ps shard ≡ Some was → find (λ p. p.shard == shard) (map (λ x. if x.shard == k then new else x) ps) ≡ Some new)
      → cond b (Some p) (part_of ps shard) ≡ Some was
      → find (λ p. p.shard == shard) (map (λ x. if x.shard == k then new else x) (p ∷ ps)) ≡ Some new
  go true first more e = rw (tests, first, own) refl
  go false other more e = rw (tests, other, other) (more e)

pub found_after_put : (shard : ℕ) (new : Part) (parts : List Part) (was : Part) → new.shard ≡ shard → part_of parts shard ≡ Some was → part_of (put_part new parts) shard ≡ Some new
found_after_put shard new parts was own h = found_after_put_at shard new.shard new parts was own (eq-eqb new.shard shard own) h
