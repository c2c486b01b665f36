use Rattle.std.proofs.Common.{refl}
use Rattle.message_lines.proofs.Standing.{new_stands}
use Rattle.message_lines.proofs.reader.MessageReader.new.Goals as goal

pub returns : goal.returns
returns c = record { stands = new_stands c.args.setup _ refl refl c.new.ensures.stands }
