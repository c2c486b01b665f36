-- The law is a lemma.
use Rattle.text_lines.proofs.Cutting.{lines_joined, lines_free}
use Rattle.text_lines.proofs.list_laws.lines_are_cut_at_each_line_feed.Goals as goal

pub returns-clause-joined : goal.returns-clause-joined
returns-clause-joined c = lines_joined

pub returns-clause-no_line_feed : goal.returns-clause-no_line_feed
returns-clause-no_line_feed c = lines_free
