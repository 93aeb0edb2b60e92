use Rattle.state_transfer.proofs.copies.copied.Goals as goal

pub of-requires : goal.of-requires
of-requires c = rw (c.in_ok-push_copies.ensures, c.new-copies.ensures.items) c.requires
