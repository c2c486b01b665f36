-- The law is a lemma.
use Rattle.message_lines.proofs.Written.{written_again}
use Rattle.message_lines.proofs.list_laws.written_messages_are_read_back.Goals as goal

pub returns : goal.returns
returns c = written_again
