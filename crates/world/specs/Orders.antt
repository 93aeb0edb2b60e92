-- The order of commits, kept note by note.
use Rattle.std.specs.Prelude.{List, fold}
use Rattle.tcs_terms.specs.declared.ids.TxId.{TxId}
use Rattle.tcs_terms.specs.declared.inputs.Note.{Note}
use Rattle.protocol.specs.History.{commit_in}
use Rattle.protocol_laws.specs.Growth.{with_commit}

-- the order after these notes
abbrev pub with_commits : List TxId → List Note → List TxId
with_commits order notes = fold (λ so_far note. with_commit so_far (commit_in note)) order notes
