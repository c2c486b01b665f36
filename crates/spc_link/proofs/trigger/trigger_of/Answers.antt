-- A width in a window is in no other.
use Rattle.std.proofs.Common.{◌≡◌, ℕ, List, get_or, true, ap₂, sym, ◌∙◌}
use Rattle.line_base.specs.Spans.{no_span}
use Rattle.line_base.specs.declared.edge.Span.{Span}
use Rattle.spc_link.specs.Reading.{lasts}
use Rattle.spc_link.proofs.Windows.{window-asks}
use Rattle.spc_link.proofs.trigger.trigger_of.Goals as goal

pub returns-clause-asks : goal.returns-clause-asks
returns-clause-asks c = λ width some inside.
    let s = c.args.setup.now in
    let there : lasts s.sent.tick (get_or s.windows c.args.code no_span) width ≡ true =
    ap₂ (λ (windows : List Span) (code : ℕ). lasts s.sent.tick (get_or windows code no_span) width) (sym c.windows.ensures.value) (sym c.from.ensures) ∙ inside in
    window-asks s c.args.code width c.windows.ensures.range some (record { there = c.requires; inside = there })
