-- The trigger that is drawn is sent.
use Rattle.std.proofs.Common.{ap, ◌∙◌}
use Rattle.spc_tolerance.specs.Trains.{Unanswered}
use Rattle.spc_sim.specs.SpcSims.{next_sent, trigger_sent, trigger_words}
use Rattle.spc_sim.specs.SpcStates.{SpcState, trigger_at}
use Rattle.spc_sim.proofs.SpcOutcomes.{silent-is, silent-times}
use Rattle.spc_sim.proofs.spc_sim.SpcSim.silent.Goals as goal

pub returns : goal.returns
returns c =
    let state = c.args.self.now in
    let g = c.args.wobble.now in
    let fall = c.trigger_at-fall.ensures.value ∙ ap (λ (s : SpcState). trigger_at s.setup s.next) c.self.view_is in
    let rise = c.draw_trigger-trigger.ensures.rise ∙ ap (λ (s : SpcState). (trigger_sent s.setup c.trigger_at-fall.result c.args.code (trigger_words g)).rise) c.self.view_is in
    c.send.ensures (Unanswered (next_sent state c.args.code g)) (silent-times state c.args.code g c.trigger_at-fall.result c.draw_trigger-trigger.result.rise fall rise)
    ∙ silent-is state c.args.code g c.draw_trigger-trigger.new.wobble c.draw_trigger-trigger.ensures.next
