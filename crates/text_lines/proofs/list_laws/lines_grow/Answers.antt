-- The law is a lemma.
use Rattle.text_lines.proofs.Stays.{stays}
use Rattle.text_lines.proofs.list_laws.lines_grow.Goals as goal

pub returns : goal.returns
returns c = stays
