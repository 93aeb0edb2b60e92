use Rattle.std.proofs.Common.{◌≡◌, ℕ, ◌+◌, ◌-◌, ◌≤◌, List, [], ◌++◌, length, take, drop, Some, refl, sym, ap, ◌∙◌, arith, rules, append_assoc}
use Rattle.std.proofs.lemmas.List.{take-append-drop, length-take-le, length-drop, drop_all}
use Rattle.schedule_text.proofs.BufferLemmas.{filled}
use Rattle.schedule_text.proofs.lines.Lines.fill.Goals as goal

pub returns-clause-grew : goal.returns-clause-grew
returns-clause-grew g c =
    let f = c.self.inside in
    let held = f.end - f.start in
    let new = c.read_after.new.buffer.items in
    let n = c.in_ok-count.count in
    let front : take held new ≡ c.args.self.now = c.read_after.ensures.same ∙ c.move_to_front.ensures.moved ∙ c.self.view_is in
    let within : held + n ≤ length new = search rules in
    record {
      more = take n (drop held new);
      many = length-take-le n (drop held new) (omega (arith, length-drop held new, within));
      grown = filled c.args.self.now new held n front within (take n (drop held new)) refl;
    }

pub returns-clause-kept : goal.returns-clause-kept
returns-clause-kept g c = λ rest told.
    let f = c.self.inside in
    let held = f.end - f.start in
    let new = c.read_after.new.buffer.items in
    let n = c.in_ok-count.count in
    let front : take held new ≡ c.args.self.now = c.read_after.ensures.same ∙ c.move_to_front.ensures.moved ∙ c.self.view_is in
    let moves = c.in_ok-count.ensures.moved rest told in
    let within : held + n ≤ length new = search rules in
    record {
      rest = drop n rest;
      told = moves.left;
      whole = ap (λ (xs : List ℕ). c.args.self.now ++ xs) (sym (take-append-drop n rest))
          ∙ sym (append_assoc c.args.self.now (take n rest) (drop n rest))
          ∙ ap (λ (xs : List ℕ). xs ++ drop n rest) (sym (filled c.args.self.now new held n front within (take n rest) moves.given));
    }

pub returns-clause-end : goal.returns-clause-end
returns-clause-end g c = λ rest told none.
    let moves = c.in_ok-count.ensures.moved rest told in
    let ended : rest ≡ [] = c.in_ok-count.ensures.end rest told none in
    moves.left ∙ ap Some (drop_all _ rest (omega (arith, ap length ended)))
