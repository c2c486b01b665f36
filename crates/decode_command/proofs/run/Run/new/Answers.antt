-- A new run has taken no byte.
use Rattle.decode_command.proofs.Runs.{reads-nothing}
use Rattle.decode_command.proofs.run.Run.new.Goals as goal

pub returns-clause-reads : goal.returns-clause-reads
returns-clause-reads c = reads-nothing _ c.new.ensures.stands c.requires.follow
