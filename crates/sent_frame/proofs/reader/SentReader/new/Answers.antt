-- A new reader stands for no edge.
use Rattle.std.proofs.Common.{refl}
use Rattle.sent_frame.proofs.Pushes.{fresh}
use Rattle.sent_frame.proofs.reader.SentReader.new.Goals as goal

pub returns : goal.returns
returns c = fresh c.args.setup c.args.setup refl
