use Rattle.std.proofs.Common.{◌∙◌, ap}
use Rattle.text_lines.specs.Lines.{without_cr}
use Rattle.text_lines.specs.Readers.{content_in}
use Rattle.text_lines.proofs.reader.LineReader.content.Goals as goal

pub returns : goal.returns
unfolding content_in
returns c = c.content_of.ensures ∙ ap without_cr c.as_slice.ensures
