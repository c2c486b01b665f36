-- A start in a window, or in none.
use Rattle.std.proofs.Common.{rules, sym}
use Rattle.psi5_slots.proofs.Slots.{answered-found, more-none, placed-found, placed-none}
use Rattle.psi5_slots.proofs.reader.placed.Goals as goal

pub returns-then-offset-from-clause-kept : goal.returns-then-offset-from-clause-kept
returns-then-offset-from-clause-kept c = λ earlier answered. more-none c.args.setup.now.windows c.args.answered.now earlier c.args.offset answered (search (rules, c.in_default.ensures.number))

pub returns-in_default-clause-value : goal.returns-in_default-clause-value
returns-in_default-clause-value c = λ earlier answered.
    sym (placed-none c.args.setup.now.windows earlier c.args.offset (search (rules, c.if-offset-from.false)) (search (rules, c.in_default.ensures.number)))

pub returns-in_default-clause-kept : goal.returns-in_default-clause-kept
returns-in_default-clause-kept c = λ earlier answered. more-none c.args.setup.now.windows c.args.answered.now earlier c.args.offset answered (search (rules, c.in_default.ensures.number))

pub returns-then-twice-clause-value : goal.returns-then-twice-clause-value
returns-then-twice-clause-value c = λ earlier answered.
    sym (rw c.if-twice.true at (placed-found c.args.setup.now.frame c.args.setup.now.windows c.args.answered.now earlier c.in-Some.slot c.args.offset c.windows-windows.ensures.range answered (search (rules, c.in-Some.ensures.number))))

pub returns-then-twice-clause-kept : goal.returns-then-twice-clause-kept
returns-then-twice-clause-kept c = λ earlier answered.
    answered-found c.args.setup.now.frame c.args.setup.now.windows c.args.answered.now earlier c.in-Some.slot c.args.offset c.windows-windows.ensures.range answered (search (rules, c.in-Some.ensures.number))

pub returns-clause-value : goal.returns-clause-value
returns-clause-value c = λ earlier answered.
    sym (rw c.if-twice.false at (placed-found c.args.setup.now.frame c.args.setup.now.windows c.args.answered.now earlier c.in-Some.slot c.args.offset c.windows-windows.ensures.range answered (search (rules, c.in-Some.ensures.number))))

pub returns-clause-kept : goal.returns-clause-kept
returns-clause-kept c = λ earlier answered.
    answered-found c.args.setup.now.frame c.args.setup.now.windows c.args.answered.now earlier c.in-Some.slot c.args.offset c.windows-windows.ensures.range answered (search (rules, c.in-Some.ensures.number))
