use Rattle.backup_text.proofs.Answering.{is_found, is_only}
use Rattle.backup_text.proofs.reader.BackupReader.take.Goals as goal

pub returns-clause-found : goal.returns-clause-found
returns-clause-found c = is_found c.args.self.now c.answer.new.self c.args.line.now c.answer.result c.answer.ensures.exact

pub returns-clause-only : goal.returns-clause-only
returns-clause-only c = λ line stands same. is_only c.args.self.now c.answer.new.self c.args.line.now c.answer.result line c.answer.ensures.standing stands same c.answer.ensures.exact
