-- The map has the better write at its name, whether there was one before or not.
use Rattle.std.proofs.Common.{rules, ◌≡◌, ℕ, List, subst, ◌∙◌, sym}
use Rattle.std.specs.Prelude.{Some, None}
use Rattle.std.specs.BTreeMap.{UpdatesBy}
use Rattle.std.specs.Ordering.{nat_cmp}
use Rattle.std.specs.Cmp.Lexicographic.{slice_cmp}
use Rattle.version_store.specs.Keeping.{kept_at, after_write}
use Rattle.version_store.proofs.Updates.{after_better, first_kept}
use Rattle.version_store.proofs.writes.take_write.Goals as goal

pub returns-in_ok-improve-in-Some : goal.returns-in_ok-improve-in-Some
returns-in_ok-improve-in-Some c = λ name.
    after_better c.args.writes.now (c.get_mut.follows.lender c.improve.new.kept) c.args.slot c.args.version c.args.part.now
    (Some c.in-Some.kept.now) (Some c.improve.new.kept) (search (rules, c.in-Some.ensures.value)) c.in_ok-improve-in-Some.ensures
    ((c.get_mut.follows.holds c.improve.new.kept).3 (search (rules, c.in-Some.ensures.value))) name

pub returns-in_ok-insert-in-None : goal.returns-in_ok-insert-in-None
returns-in_ok-insert-in-None c = λ name.
    let before = c.get_mut.follows.lender-at-none in
    let none : kept_at c.args.writes.now c.args.part.now.name ≡ None = search (rules, c.in-None.ensures.value) in
    subst (λ m. kept_at c.insert.new.self name ≡ after_write name c.args.slot c.args.version (kept_at m name) c.args.part.now)
    c.get_mut.follows.holds-at-none
    (after_better before c.insert.new.self c.args.slot c.args.version c.args.part.now None (Some c.in_ok-kept-in-None.kept)
    (subst (λ m. kept_at m c.args.part.now.name ≡ None) (sym c.get_mut.follows.holds-at-none) none)
    (c.in_ok-kept-in-None.ensures ∙ first_kept c.args.slot c.args.version c.args.part.now c.if-version-gt0.true)
    (subst (λ (bs : List ℕ). UpdatesBy (slice_cmp nat_cmp) (slice_cmp nat_cmp bs) before c.insert.new.self (Some c.in_ok-kept-in-None.kept))
    c.again.ensures c.in_ok-insert-in-None.ensures.updates) name)
