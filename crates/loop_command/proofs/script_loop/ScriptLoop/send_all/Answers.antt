-- Message for message, up to the last or to one that is refused.
use Rattle.std.proofs.Common.{◌≡◌, ℕ, suc, ◌+◌, ◌-◌, subst, arith}
use Rattle.loop_command.specs.Running.{HasLeft}
use Rattle.loop_command.proofs.Turns.{all-sent}
use Rattle.loop_command.proofs.script_loop.ScriptLoop.send_all.Goals as goal

pub loop-sent-init : goal.loop-sent-init
loop-sent-init c = λ seed setup before. let whole : c.args.count ≡ c.args.count - 0 = omega arith in subst (λ (left : ℕ). HasLeft c.args.self.now seed c.args.count setup left) whole before

pub send_counted-requires : goal.send_counted-requires
send_counted-requires c = (let left = c.loop-sent.invariant c.requires.0 c.requires.1 c.requires.2 in (c.requires.1, left.edges, left.sent))

pub returns-in-Err : goal.returns-in-Err
returns-in-Err c = λ seed setup before.
    let one : c.args.count - c.loop-sent._sent ≡ suc (c.args.count - (c.loop-sent._sent + 1)) = omega (arith, c.loop-sent-test.true) in
    c.in-Err.ensures.refused seed c.args.count (c.args.count - (c.loop-sent._sent + 1)) setup (subst (λ (left : ℕ). HasLeft c.loop-sent.self seed c.args.count setup left) one (c.loop-sent.invariant seed setup before))

pub loop-sent-preserved : goal.loop-sent-preserved
loop-sent-preserved c = λ seed setup before.
    let one : c.args.count - c.loop-sent._sent ≡ suc (c.args.count - (c.loop-sent._sent + 1)) = omega (arith, c.loop-sent-test.true) in
    c.in_default.ensures.sent seed c.args.count (c.args.count - (c.loop-sent._sent + 1)) setup (subst (λ (left : ℕ). HasLeft c.loop-sent.self seed c.args.count setup left) one (c.loop-sent.invariant seed setup before))

pub returns : goal.returns
returns c = λ seed setup before.
    let none : c.args.count - c.loop-sent._sent ≡ 0 = omega (arith, c.loop-sent-test.false) in
    all-sent c.loop-sent.self seed c.args.count setup (subst (λ (left : ℕ). HasLeft c.loop-sent.self seed c.args.count setup left) none (c.loop-sent.invariant seed setup before))
