use Rattle.std.proofs.Common.{◌+◌, ◌-◌, ◌≤◌, length, drop, arith, ap, ◌∙◌}
use Rattle.std.proofs.lemmas.List.{length-take, length-drop}
use Rattle.schedule_text.proofs.BufferLemmas.{passed}
use Rattle.schedule_text.proofs.lines.Lines.pass.Goals as goal

pub returns : goal.returns
returns c =
    let f = c.self.inside in
    let bytes = f.buffer.items in
    let inside : f.start + c.args.count ≤ f.end =
    omega (arith, c.requires, ap length c.self.view_is, length-take (f.end - f.start) (drop f.start bytes), length-drop f.start bytes) in
    passed bytes f.start f.end c.args.count inside ∙ ap (drop c.args.count) c.self.view_is
