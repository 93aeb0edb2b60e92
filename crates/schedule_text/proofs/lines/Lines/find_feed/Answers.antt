use Rattle.std.proofs.lemmas.List.{take_rest}
use Rattle.schedule_text.proofs.BufferLemmas.{first, no_first}
use Rattle.schedule_text.proofs.lines.Lines.find_feed.Goals as goal

pub returns-in-Some-clause-first : goal.returns-in-Some-clause-first
returns-in-Some-clause-first c = first c.args.self.now c.args.searched c.in-Some.at c.requires.inside c.requires.none_before (rw (c.held-held.ensures.bytes, take_rest) at c.in-Some.ensures)

pub returns-in-None-clause-first : goal.returns-in-None-clause-first
returns-in-None-clause-first c = no_first c.args.self.now c.args.searched c.requires.none_before (rw (c.held-held.ensures.bytes, take_rest) at c.in-None.ensures)
