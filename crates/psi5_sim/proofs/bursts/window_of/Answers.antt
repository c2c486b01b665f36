-- Windows that are accepted are long enough, and late enough.
use Rattle.std.proofs.Common.{◌≡◌, ◌+◌, ◌*◌, ◌≤◌, slice_index_or, ap, ap₂, subst, sym, ◌∙◌, arith}
use Rattle.line_base.specs.declared.edge.Span.{Span}
use Rattle.line_base.specs.Spans.{no_span}
use Rattle.psi5_frame.specs.Setup.{Settings}
use Rattle.psi5_tolerance.proofs.Windows.{window-long, window-low, windows-accepted}
use Rattle.psi5_sim.proofs.bursts.window_of.Goals as goal

pub returns-clause-late : goal.returns-clause-late
returns-clause-late c =
    let s = c.args.slots.now in
    let bit : c.bit.result ≡ s.frame.bit = c.bit.ensures.value ∙ ap (λ (f : Settings). f.bit) c.frame.ensures.value in
    let low = window-low s.frame.bit (4 * s.frame.bit) s.windows c.args.slot (windows-accepted s.frame s.windows c.windows.ensures.range) c.requires in
    subst (λ (w : Span). 21200 ≤ w.low) (sym (ap₂ (λ w n. slice_index_or w n no_span) c.windows.ensures.value c.from.ensures)) (omega (arith, low, bit, c.if-prove.false))

pub returns-clause-long : goal.returns-clause-long
returns-clause-long c =
    let s = c.args.slots.now in
    let bit : c.bit.result ≡ s.frame.bit = c.bit.ensures.value ∙ ap (λ (f : Settings). f.bit) c.frame.ensures.value in
    let long = window-long s.frame.bit (4 * s.frame.bit) s.windows c.args.slot (windows-accepted s.frame s.windows c.windows.ensures.range) c.requires in
    subst (λ (w : Span). w.low + 5300 ≤ w.high) (sym (ap₂ (λ w n. slice_index_or w n no_span) c.windows.ensures.value c.from.ensures)) (omega (arith, long, bit, c.if-prove.false))
