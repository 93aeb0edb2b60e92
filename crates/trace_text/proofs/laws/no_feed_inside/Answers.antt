use Rattle.trace_text.proofs.Feeds.{line_has_no_feed}
use Rattle.trace_text.proofs.laws.no_feed_inside.Goals as goal

pub returns : goal.returns
returns c = line_has_no_feed
