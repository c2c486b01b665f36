-- The opening and a fall add nothing, and a rise adds the report of its step.
use Rattle.receiver_core.specs.ToothReports.{rises_of}
use Rattle.receiver_core.proofs.ToothReports.{rises-open, rises-fall, rises-rise, tooth-open, tooth-fall, tooth-read, level-low, level-high}
use Rattle.receiver_core.proofs.tooth_channel.ToothChannel.push.Goals as goal

pub returns-then-not-self-clause-stands : goal.returns-then-not-self-clause-stands
returns-then-not-self-clause-stands c = λ s seen before. rises-open s c.args.self.now seen (record { number = c.args.number; edge = c.args.edge }) before c.if-not-self.true

pub returns-then-not-self-clause-grows : goal.returns-then-not-self-clause-grows
returns-then-not-self-clause-grows c = λ s seen before. tooth-open s c.args.self.now seen (record { number = c.args.number; edge = c.args.edge }) c.args.reports.now.items before c.if-not-self.true c.requires.empty

pub returns-then-not-edge-clause-stands : goal.returns-then-not-edge-clause-stands
returns-then-not-edge-clause-stands c = λ s seen before. rises-fall s c.args.self.now seen (record { number = c.args.number; edge = c.args.edge }) before c.if-not-self.false (level-low c.args.edge.level c.if-not-edge.true)

pub returns-then-not-edge-clause-grows : goal.returns-then-not-edge-clause-grows
returns-then-not-edge-clause-grows c = λ s seen before.
    tooth-fall s c.args.self.now seen (record { number = c.args.number; edge = c.args.edge }) c.args.reports.now.items before c.if-not-self.false (level-low c.args.edge.level c.if-not-edge.true) c.requires.empty

pub returns-clause-stands : goal.returns-clause-stands
returns-clause-stands c = λ s seen before.
    rises-rise s c.args.self.now seen (record { number = c.args.number; edge = c.args.edge }) c.take_rise.new.reader before c.if-not-self.false (level-high c.args.edge.level c.if-not-edge.false)
    (c.take_rise.ensures.stands s (rises_of seen) before.reads)

pub returns-clause-grows : goal.returns-clause-grows
returns-clause-grows c = λ s seen before.
    tooth-read s c.args.self.now seen (record { number = c.args.number; edge = c.args.edge }) c.take_rise.new.reports.items before c.if-not-self.false (level-high c.args.edge.level c.if-not-edge.false)
    (c.take_rise.ensures.grows s (rises_of seen) before.reads)
