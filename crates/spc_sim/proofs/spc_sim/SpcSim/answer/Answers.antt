-- The trigger and the answer that are drawn are sent.
use Rattle.std.proofs.Common.{◌≡◌, ap, subst, sym, ◌∙◌}
use Rattle.rand_pcg.specs.Lcg.{Lcg}
use Rattle.spc_link.specs.Setup.{Settings}
use Rattle.spc_tolerance.specs.Trains.{Answered, Transaction}
use Rattle.spc_sim.specs.SpcSims.{IsDrawnAnswer, IsOfTimes, answer_sent, answer_words, next_sent, past_answer, past_trigger, trigger_sent, trigger_words}
use Rattle.spc_sim.specs.SpcStates.{SpcState, trigger_at}
use Rattle.spc_sim.proofs.SpcOutcomes.{answer-is, answer-times, next-rise}
use Rattle.spc_sim.proofs.spc_sim.SpcSim.answer.Goals as goal

pub returns : goal.returns
returns c =
    let state = c.args.self.now in
    let g = c.args.wobble.now in
    let code = c.args.code in
    let frame = c.args.frame.now in
    let trigger = c.draw_trigger-trigger in
    let answer = c.draw_answer-answer in
    let setup : c.self.inside.setup ≡ state.setup = ap (λ (s : SpcState). s.setup) c.self.view_is in
    let fall = c.trigger_at-fall.ensures.value ∙ ap (λ (s : SpcState). trigger_at s.setup s.next) c.self.view_is in
    let rise = trigger.ensures.rise ∙ ap (λ (s : Settings). (trigger_sent s c.trigger_at-fall.result code (trigger_words g)).rise) setup in
    let word = (trigger_words g).tick in
    let drawn = answer.ensures.drawn (next_sent state code g) word (sym (next-rise state code g c.trigger_at-fall.result trigger.result.rise fall rise)) (sym trigger.ensures.tick) in
    let by_state = subst (λ (s : Settings). IsDrawnAnswer s (answer_sent s (next_sent state code g) frame word (answer_words s trigger.new.wobble)) answer.result.falls.items answer.result.last) setup drawn in
    let by_words = subst (λ (b : Lcg). IsDrawnAnswer state.setup (answer_sent state.setup (next_sent state code g) frame word (answer_words state.setup b)) answer.result.falls.items answer.result.last) trigger.ensures.next by_state in
    let times = answer-times state code g c.trigger_at-fall.result trigger.result.rise fall rise frame answer.result.falls.items answer.result.last by_words in
    let sent : Transaction = Answered (next_sent state code g) (answer_sent state.setup (next_sent state code g) frame word (answer_words state.setup (past_trigger g))) in
    c.send.ensures sent (subst (λ l. IsOfTimes state.setup sent c.trigger_at-fall.result trigger.result.rise l answer.result.last 5) (sym c.as_slice.ensures.value) times)
    ∙ answer-is state code frame g trigger.new.wobble answer.new.wobble trigger.ensures.next (answer.ensures.next ∙ ap (λ (s : Settings). past_answer s trigger.new.wobble) setup)
