-- There was a sync pulse where one is kept.
use Rattle.std.proofs.Common.{◌∙◌}
use Rattle.psi5_slots.proofs.Standing.{says-synced}
use Rattle.psi5_slots.proofs.reader.SlotReader.synced.Goals as goal

pub returns : goal.returns
returns c = λ setup history before. c.is_some.ensures ∙ says-synced setup c.self.inside.setup c.self.inside.last c.self.inside.answered _ history c.self.view_is before
