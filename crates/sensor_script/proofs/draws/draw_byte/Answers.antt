-- With bits and without.
use Rattle.std.proofs.Common.{◌%◌, ap, ◌∙◌}
use Rattle.sim_base.specs.Wobbles.{word}
use Rattle.sensor_script.proofs.DrawnValues.{behind-none, behind-some, value-none, value-some}
use Rattle.sensor_script.proofs.draws.draw_byte.Goals as goal

pub returns-then-width-eq0-clause-value : goal.returns-then-width-eq0-clause-value
returns-then-width-eq0-clause-value c = value-none c.args.width c.args.wobble.now c.if-width-eq0.true

pub returns-then-width-eq0-clause-next : goal.returns-then-width-eq0-clause-next
returns-then-width-eq0-clause-next c = behind-none c.args.width c.args.wobble.now c.if-width-eq0.true

pub returns-clause-value : goal.returns-clause-value
returns-clause-value c = c.pick.ensures.value ∙ ap (λ n. word c.args.wobble.now % n) c.values_of.ensures.value ∙ value-some c.args.width c.args.wobble.now c.if-width-eq0.false

pub returns-clause-next : goal.returns-clause-next
returns-clause-next c = c.pick.ensures.next ∙ behind-some c.args.width c.args.wobble.now c.if-width-eq0.false
