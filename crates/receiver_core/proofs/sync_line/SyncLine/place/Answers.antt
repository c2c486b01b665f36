-- A rise is placed by the slots, and a fall by whether a sync came before.
use Rattle.receiver_core.proofs.SyncLines.{line-risen, line-fallen, place-risen, place-fallen}
use Rattle.receiver_core.proofs.sync_line.SyncLine.place.Goals as goal

pub returns-then-edge-clause-place : goal.returns-then-edge-clause-place
returns-then-edge-clause-place c = λ s slots seen before.
    place-risen s slots c.args.self.now seen (record { number = c.args.number; edge = c.args.edge }) c.place-placed.result c.placed_at.result before c.if-edge.true
    c.place-placed.ensures.placed c.placed_at.ensures.place

pub returns-then-edge-clause-stands : goal.returns-then-edge-clause-stands
returns-then-edge-clause-stands c = λ s slots seen before off begins.
    line-risen s slots c.args.self.now seen (record { number = c.args.number; edge = c.args.edge }) c.args.number c.place-placed.new.self before off c.if-edge.true begins
    (c.place-placed.ensures.stands slots.setup _ before.reads)

pub returns-then-synced-clause-place : goal.returns-then-synced-clause-place
returns-then-synced-clause-place c = λ s slots seen before.
    place-fallen s slots c.args.self.now seen (record { number = c.args.number; edge = c.args.edge }) _ before c.if-edge.false c.if-synced.ensures

pub returns-then-synced-clause-stands : goal.returns-then-synced-clause-stands
returns-then-synced-clause-stands c = λ s slots seen before off begins.
    line-fallen s slots c.args.self.now seen (record { number = c.args.number; edge = c.args.edge }) before off c.if-edge.false

pub returns-else-synced-clause-place : goal.returns-else-synced-clause-place
returns-else-synced-clause-place c = λ s slots seen before.
    place-fallen s slots c.args.self.now seen (record { number = c.args.number; edge = c.args.edge }) _ before c.if-edge.false c.if-synced.ensures

pub returns-else-synced-clause-stands : goal.returns-else-synced-clause-stands
returns-else-synced-clause-stands c = λ s slots seen before off begins.
    line-fallen s slots c.args.self.now seen (record { number = c.args.number; edge = c.args.edge }) before off c.if-edge.false
