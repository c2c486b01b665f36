use Rattle.std.proofs.Common.{refl}
use Rattle.text_lines.proofs.Feeding.{new_stands}
use Rattle.text_lines.proofs.reader.LineReader.new.Goals as goal

pub returns : goal.returns
returns c = record { stands = new_stands _ refl refl refl refl }
