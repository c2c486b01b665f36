-- A message is sent, and others up to a counted one; or one is refused.
use Rattle.std.proofs.Common.{ℕ, ◌<◌, cond, ◌++◌, sym, subst, ◌∙◌}
use Rattle.sensor_script.specs.Scripts.{script_next}
use Rattle.sensor_script.specs.Counted.{is_counted}
use Rattle.loop_command.proofs.Turns.{comes-nearer, counted-sent, given-refused, on-err, on-ok, other-sent}
use Rattle.loop_command.proofs.script_loop.ScriptLoop.+send_counted.Goals as goal

pub returns-then-is_counted-clause-sent : goal.returns-then-is_counted-clause-sent
returns-then-is_counted-clause-sent t c = λ seed count left setup before.
    counted-sent c.args.self.now seed count setup left before c.send.new.self c.next-message.result c.next-message.new.self c.next-message.ensures.message c.next-message.ensures.script
    (c.in-Ok.ensures.sent setup before.edges before.sent) (sym c.is_counted.ensures ∙ c.if-is_counted.true)

pub send_counted-requires : goal.send_counted-requires
send_counted-requires t c =
    let sends = c.in-Ok.ensures.sent c.requires.0 c.requires.1 c.requires.2 in (
      subst (λ (n : ℕ). cond (is_counted (script_next c.next-message.new.self).message) 0 1 < n) c.decreases
          (comes-nearer c.args.self.now.script c.next-message.new.self c.next-message.result c.next-message.ensures.message c.next-message.ensures.script (sym c.is_counted.ensures ∙ c.if-is_counted.false)),
      (c.requires.0, c.requires.1 ++ sends.more, sends.sent),
    )

pub returns-else-is_counted-clause-sent : goal.returns-else-is_counted-clause-sent
returns-else-is_counted-clause-sent t c = on-ok c.send_counted.result (λ then seed count left setup before.
    then seed count left setup
    (other-sent c.args.self.now seed count setup left before c.send.new.self c.next-message.result c.next-message.new.self c.next-message.ensures.message c.next-message.ensures.script
    (c.in-Ok.ensures.sent setup before.edges before.sent) (sym c.is_counted.ensures ∙ c.if-is_counted.false))) c.send_counted.ensures.sent

pub returns-else-is_counted-clause-refused : goal.returns-else-is_counted-clause-refused
returns-else-is_counted-clause-refused t c = on-err c.send_counted.result (λ then seed count left setup before.
    then seed count left setup
    (other-sent c.args.self.now seed count setup left before c.send.new.self c.next-message.result c.next-message.new.self c.next-message.ensures.message c.next-message.ensures.script
    (c.in-Ok.ensures.sent setup before.edges before.sent) (sym c.is_counted.ensures ∙ c.if-is_counted.false))) c.send_counted.ensures.refused

pub returns-in-Err-clause-refused : goal.returns-in-Err-clause-refused
returns-in-Err-clause-refused t c = λ seed count left setup before.
    given-refused c.args.self.now seed count setup left before c.send.new.self c.next-message.result c.next-message.new.self c.next-message.ensures.message c.next-message.ensures.script
    (c.in-Err.ensures.refused setup before.edges before.sent)
