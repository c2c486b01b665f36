-- The edge goes on with a burst that isn't read, or with one that is.
use Rattle.std.proofs.Common.{◌≡◌, ◌-◌, false, sym, ◌∙◌, ap, ap₂}
use Rattle.line_base.specs.Edges.{NumberedEdge}
use Rattle.link_math.specs.Manchester.{halves_in}
use Rattle.psi5_frame.specs.Intervals.{is_quiet}
use Rattle.psi5_frame.proofs.Leading.{leads-skipped, leads-extended}
use Rattle.psi5_frame.proofs.reader.goes_on.Goals as goal

pub returns-else-is_quiet-clause-leads : goal.returns-else-is_quiet-clause-leads
returns-else-is_quiet-clause-leads c = λ _ seen agrees.
    let e : NumberedEdge = record { number = c.args.number; edge = c.args.edge } in
    let before = c.in-Skipping.time in
    let interval_is : c.halves_of-interval.result ≡ halves_in (c.args.edge.time - before) c.args.setup.now.bit =
    c.halves_of-interval.ensures.value ∙ ap₂ halves_in c.saturating_sub.ensures c.bit.ensures.value in
    let loud : is_quiet (halves_in (c.args.edge.time - before) c.args.setup.now.bit) ≡ false =
    ap is_quiet (sym interval_is) ∙ sym c.is_quiet.ensures ∙ c.if-is_quiet.false in
    rw c.in-Skipping.is (leads-skipped c.args.setup.now before e seen loud (rw c.in-Skipping.is at agrees))

pub returns-else-is_quiet-2-clause-leads : goal.returns-else-is_quiet-2-clause-leads
returns-else-is_quiet-2-clause-leads c = λ _ seen agrees.
    let e : NumberedEdge = record { number = c.args.number; edge = c.args.edge } in
    let before = c.in-Open.time in
    let interval_is : c.halves_of-interval-in-Open.result ≡ halves_in (c.args.edge.time - before) c.args.setup.now.bit =
    c.halves_of-interval-in-Open.ensures.value ∙ ap₂ halves_in c.saturating_sub-in-Open.ensures c.bit-in-Open.ensures.value in
    let loud : is_quiet (halves_in (c.args.edge.time - before) c.args.setup.now.bit) ≡ false =
    ap is_quiet (sym interval_is) ∙ sym c.is_quiet-in-Open.ensures ∙ c.if-is_quiet-2.false in
    rw c.in-Open.is
    (leads-extended c.args.setup.now before c.in-Open.burst c.extend.new.burst e seen loud (rw c.in-Open.is at agrees)
    (rw (c.requires.counted, interval_is) at c.extend.ensures.agrees))
