-- A new receiver stands for no items.
use Rattle.receiver_core.proofs.Links.{receiver-none}
use Rattle.receiver_core.proofs.receiver.Receiver.new.Goals as goal

pub returns : goal.returns
returns c = receiver-none c.args.setup c.new.result c.new.ensures
