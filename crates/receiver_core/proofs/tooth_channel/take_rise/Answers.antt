-- A rise that is passed adds nothing, and another one the report of its step.
use Rattle.std.proofs.Common.{sym, ◌∙◌, ap, subst, flat_map, ◌++◌, append-nil}
use Rattle.psi5_downlink.specs.Reading.{tooth_reading}
use Rattle.psi5_downlink.specs.Readers.{StandsFor}
use Rattle.receiver_core.specs.ToothReports.{down_report}
use Rattle.receiver_core.proofs.tooth_channel.take_rise.Goals as goal

pub returns-then-not-passes-clause-stands : goal.returns-then-not-passes-clause-stands
returns-then-not-passes-clause-stands c = λ s seen before.
    c.read.ensures.stands s seen (subst (λ r. StandsFor s r seen) (sym (c.passes.ensures.left c.if-not-passes.true)) before)

pub returns-then-not-passes-clause-grows : goal.returns-then-not-passes-clause-grows
returns-then-not-passes-clause-grows c = λ s seen before.
    c.read.ensures.grows s seen (subst (λ r. StandsFor s r seen) (sym (c.passes.ensures.left c.if-not-passes.true)) before)

pub returns-else-not-passes-clause-stands : goal.returns-else-not-passes-clause-stands
returns-else-not-passes-clause-stands c = λ s seen before. c.passes.ensures.stands c.if-not-passes.false s seen c.args.number before

pub returns-else-not-passes-clause-grows : goal.returns-else-not-passes-clause-grows
returns-else-not-passes-clause-grows c = λ s seen before.
    ap (flat_map down_report) (c.passes.ensures.quiet c.if-not-passes.false s seen c.args.number before)
    ∙ sym (append-nil (flat_map down_report (tooth_reading s seen)))
    ∙ ap (λ l. flat_map down_report (tooth_reading s seen) ++ l) (sym c.requires.empty)
