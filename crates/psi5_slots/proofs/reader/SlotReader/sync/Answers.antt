-- One sync pulse more.
use Rattle.psi5_slots.proofs.Standing.{synced-stands}
use Rattle.psi5_slots.proofs.reader.SlotReader.sync.Goals as goal

pub returns : goal.returns
returns c = λ setup history before. synced-stands setup c.self.inside.setup c.self.inside.last c.self.inside.answered _ history c.args.time c.self.invariant c.self.view_is before
