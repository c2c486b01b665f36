-- A message is sent, but where it comes too late.
use Rattle.std.proofs.Common.{◌≡◌, ◌/◌, ◌++◌, false, length, ap, ap₂, subst, ◌∙◌}
use Rattle.sim_base.specs.declared.sim_fault.SimFault.TheVariants as fault
use Rattle.sim_base.specs.Outcomes.{Refused}
use Rattle.sim_base.specs.Recordings.{opening_of, recorded_by, rises_with_falls}
use Rattle.sim_base.specs.Wobbles.{past, words}
use Rattle.psi5_downlink_sim.specs.ToothSims.{down_next}
use Rattle.psi5_downlink_sim.specs.ToothStates.{ToothState}
use Rattle.psi5_downlink_sim.proofs.ToothOutcomes.{refuses-late, sends-rises}
use Rattle.psi5_downlink_sim.proofs.tooth_sim.ToothSim.send.Goals as goal

pub returns-then-drawn-gt-MAX_IDEAL : goal.returns-then-drawn-gt-MAX_IDEAL
returns-then-drawn-gt-MAX_IDEAL c =
    let before : ToothState = record { line = c.self.inside.line; setup = c.self.inside.setup; last = c.self.inside.last } in
    let drawn = c.draw_message-drawn in
    subst (λ (s : ToothState). Refused fault.Late s drawn.new.wobble ≡ down_next s c.args.down.now c.args.wobble.now) c.self.view_is
    (refuses-late before c.args.down.now c.args.wobble.now drawn.result.rises.items drawn.result.last drawn.new.wobble drawn.ensures.drawn c.if-drawn-gt-MAX_IDEAL.true drawn.ensures.next)

pub returns : goal.returns
returns c =
    let before : ToothState = record { line = c.self.inside.line; setup = c.self.inside.setup; last = c.self.inside.last } in
    let drawn = c.draw_message-drawn in
    let high = ap (λ n. n / 10) (c.from.ensures ∙ c.period.ensures.value) in
    let edges =
    c.push_edges.ensures.edges
    ∙ ap₂ (λ first rises. first ++ rises_with_falls before.line (c.from.result / 10) (recorded_by c.jitter.result rises (words (length rises) drawn.new.wobble))) c.opening-edges.ensures c.as_slice.ensures.value
    ∙ ap₂ (λ width jitter. opening_of before.line false before.last ++ rises_with_falls before.line width (recorded_by jitter drawn.result.rises.items (words (length drawn.result.rises.items) drawn.new.wobble))) high c.jitter.ensures.value in
    sends-rises before c.args.down.now c.args.wobble.now drawn.result.rises.items drawn.result.last drawn.new.wobble c.push_edges.new.wobble c.push_edges.new.edges.items drawn.ensures.drawn c.if-drawn-gt-MAX_IDEAL.false drawn.ensures.next
    edges (c.push_edges.ensures.next ∙ ap (λ l. past (length l) drawn.new.wobble) c.as_slice.ensures.value)
    ∙ ap (λ s. down_next s c.args.down.now c.args.wobble.now) c.self.view_is
