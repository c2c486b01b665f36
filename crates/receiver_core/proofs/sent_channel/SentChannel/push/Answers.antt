-- An edge that is passed tells nothing; any other is read.
use Rattle.std.proofs.Common.{[], ◌++◌, ap, subst, sym, ◌∙◌, append-nil}
use Rattle.sent_frame.specs.Reading.{sent_reading}
use Rattle.receiver_core.specs.SentReports.{sent_reports}
use Rattle.sent_frame.specs.declared.reader.SentReader.{SentReader}
use Rattle.receiver_core.specs.SentStretches.{StandsForStretch}
use Rattle.receiver_core.proofs.SentStretches.{passed}
use Rattle.receiver_core.proofs.sent_channel.SentChannel.push.Goals as goal

pub returns-then-passes-clause-stands : goal.returns-then-passes-clause-stands
returns-then-passes-clause-stands c = λ setup layout serial seen before.
    passed setup layout serial c.args.self.now c.passes.new.self seen (record { number = c.args.number; edge = c.args.edge }) before
    (c.passes.ensures.quiet c.if-passes.true setup seen c.args.number before.reads) (c.passes.ensures.stands c.if-passes.true setup seen c.args.number before.reads)

pub returns-then-passes-clause-grows : goal.returns-then-passes-clause-grows
returns-then-passes-clause-grows c = λ setup layout serial seen before.
    let all = sent_reports layout serial [] (sent_reading setup seen) in
    ap (sent_reports layout serial []) (c.passes.ensures.quiet c.if-passes.true setup seen c.args.number before.reads) ∙ sym (append-nil all) ∙ ap (λ l. all ++ l) (sym c.requires.empty)

pub returns-clause-stands : goal.returns-clause-stands
returns-clause-stands c = λ setup layout serial seen before.
    c.read.ensures.stands setup layout serial seen
    (subst (λ (reader : SentReader). StandsForStretch setup layout serial (record c.args.self.now { reader = reader }) seen) (sym (c.passes.ensures.left c.if-passes.false)) before)
