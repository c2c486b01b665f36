-- One start more.
use Rattle.psi5_slots.proofs.Standing.{first-placed, first-stands, later-placed, later-stands}
use Rattle.psi5_slots.proofs.reader.SlotReader.place.Goals as goal

pub returns-in-None-clause-placed : goal.returns-in-None-clause-placed
returns-in-None-clause-placed c = λ setup history before.
    first-placed setup c.self.inside.setup c.self.inside.last c.self.inside.answered _ history c.args.time c.self.view_is c.in-None.is before

pub returns-in-None-clause-stands : goal.returns-in-None-clause-stands
returns-in-None-clause-stands c = λ setup history before.
    first-stands setup c.self.inside.setup c.self.inside.last c.self.inside.answered _ history c.args.time c.self.view_is c.in-None.is before

pub returns-in-Some-clause-placed : goal.returns-in-Some-clause-placed
returns-in-Some-clause-placed c = λ setup history before.
    later-placed setup c.self.inside.setup c.self.inside.last c.self.inside.answered _ history c.in-Some.sync c.args.time c.placed.result c.self.view_is c.in-Some.is
    (rw c.saturating_sub.ensures at c.placed.ensures.value) before

pub returns-in-Some-clause-stands : goal.returns-in-Some-clause-stands
returns-in-Some-clause-stands c = λ setup history before.
    later-stands setup c.self.inside.setup c.self.inside.last c.self.inside.answered c.placed.new.answered _ history c.in-Some.sync c.args.time c.self.view_is c.in-Some.is
    (rw c.saturating_sub.ensures at c.placed.ensures.kept) before
