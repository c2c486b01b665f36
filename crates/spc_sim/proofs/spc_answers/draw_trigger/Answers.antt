-- A trigger in the window of its code.
use Rattle.std.proofs.Common.{◌+◌, ◌≤◌, ap, ap₂, subst, sym, ◌∙◌}
use Rattle.line_base.specs.declared.edge.Span.{Span}
use Rattle.spc_tolerance.proofs.NominalTrains.{windows_wide}
use Rattle.sim_base.specs.DrawnTicks.{any_tick}
use Rattle.spc_sim.specs.SpcSims.{inside, past_trigger, trigger_sent, trigger_words}
use Rattle.sim_base.specs.Wobbles.{behind_word, word}
use Rattle.spc_sim.proofs.spc_answers.draw_trigger.Goals as goal

pub inside-requires : goal.inside-requires
inside-requires c = subst (λ (span : Span). span.low + 10 ≤ span.high) (sym c.trigger_of.ensures.window) (windows_wide c.args.setup.now c.args.code c.sent.ensures.range c.requires.code)

pub returns-clause-tick : goal.returns-clause-tick
unfolding trigger_words
returns-clause-tick c = c.any_tick-tick.ensures.value ∙ ap (λ n. any_tick n (word c.args.wobble.now)) (c.tick.ensures.value ∙ ap (λ s. s.tick) c.sent.ensures.value)

pub returns-clause-rise : goal.returns-clause-rise
unfolding trigger_sent trigger_words
returns-clause-rise c = ap (λ n. c.args.fall + n) (c.inside.ensures.value ∙ ap₂ (λ span g. inside c.args.setup.now span (word g)) c.trigger_of.ensures.window c.any_tick-tick.ensures.next)

pub returns-clause-next : goal.returns-clause-next
unfolding past_trigger
returns-clause-next c = c.inside.ensures.next ∙ ap behind_word c.any_tick-tick.ensures.next
