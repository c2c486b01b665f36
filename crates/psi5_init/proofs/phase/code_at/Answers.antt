-- Behind the phase, at its end, and in a block.
use Rattle.std.proofs.Common.{◌≡◌, ◌*◌, ◌/◌, ◌<◌, Some, get_or, sym, ◌∙◌, ap, length, arith}
use Rattle.psi5_init.proofs.PhaseCodes.{class-ready, class-id, class-value, code-behind, code-end, code-id, code-value, index_within}
use Rattle.psi5_init.proofs.phase.code_at.Goals as goal

pub returns-then-place-end-clause-class : goal.returns-then-place-end-clause-class
returns-then-place-end-clause-class c = sym (code-behind c.args.repeats 0 c.args.place c.args.nibbles.now (rw c.from-period.ensures at c.if-place-end.true))

pub returns-then-place-end-2-clause-class : goal.returns-then-place-end-2-clause-class
returns-then-place-end-2-clause-class c =
    ap Some class-ready ∙ sym (code-end c.args.repeats 0 c.args.place c.args.nibbles.now (rw c.from-period.ensures at c.if-place-end-2.true))

pub returns-then-place-eq0-clause-class : goal.returns-then-place-eq0-clause-class
returns-then-place-eq0-clause-class c =
    let inside : c.args.place < 2 * c.from-period.result * length c.args.nibbles.now = omega (arith, c.if-place-end.false, c.if-place-end-2.false) in
    let few = rw c.from-period.ensures at inside in
    rw c.from-period.ensures
    (ap Some (class-id (c.args.place / (2 * c.args.repeats))) ∙ sym (code-id c.args.repeats c.args.place c.args.nibbles.now few c.if-place-eq0.true))

pub returns-else-place-eq0-clause-class : goal.returns-else-place-eq0-clause-class
returns-else-place-eq0-clause-class c =
    let inside : c.args.place < 2 * c.from-period.result * length c.args.nibbles.now = omega (arith, c.if-place-end.false, c.if-place-end-2.false) in
    let few = rw c.from-period.ensures at inside in
    let index = c.args.place / (2 * c.args.repeats) in
    let nibble : c.from.result ≡ get_or c.args.nibbles.now index 0 = rw c.from-period.ensures at c.from.ensures in
    rw nibble
    (ap Some (class-value (get_or c.args.nibbles.now index 0) (c.requires.nibbles index 0 (index_within c.args.repeats c.args.place (length c.args.nibbles.now) few)))
    ∙ sym (code-value c.args.repeats c.args.place c.args.nibbles.now few c.if-place-eq0.false))
