-- What is kept of a burst says what the burst says.
use Rattle.std.proofs.Common.{◌<◌, ◌≤◌, ◌-◌, ◌*◌, sym, ◌∙◌, ap, arith}
use Rattle.psi5_frame.specs.Setup.{bit_count}
use Rattle.psi5_frame.specs.Bursts.{checked}
use Rattle.psi5_frame.proofs.KeptBits.{rest_of_bits}
use Rattle.psi5_frame.proofs.Judged.{judged-violated, judged-few, judged-high, judged-checked}
use Rattle.psi5_frame.proofs.open.concluded.Goals as goal

pub returns-in-Violated : goal.returns-in-Violated
returns-in-Violated c = λ first later agrees. sym (judged-violated c.args.setup.now first later _ (rw c.in-Violated.is at agrees))

pub returns-then-last-bit_count : goal.returns-then-last-bit_count
returns-then-last-bit_count c = λ first later agrees.
    let s = c.args.setup.now in
    let few : c.in-Sound.place < 2 * bit_count s - 1 = omega (arith, c.if-last-bit_count.true, c.bit_count.ensures.value) in
    sym (judged-few s c.in-Sound.number c.in-Sound.place c.in-Sound.level c.in-Sound.bits first later (rw c.in-Sound.is at agrees) few)

pub returns-then-level : goal.returns-then-level
returns-then-level c = λ first later agrees.
    let s = c.args.setup.now in
    let enough : 2 * bit_count s - 1 ≤ c.in-Sound.place = omega (arith, c.if-last-bit_count.false, c.bit_count.ensures.value) in
    sym (judged-high s c.in-Sound.number c.in-Sound.place c.in-Sound.level c.in-Sound.bits first later (rw c.in-Sound.is at agrees) enough c.if-level.true)

pub returns : goal.returns
returns c = λ first later agrees.
    let s = c.args.setup.now in
    let enough : 2 * bit_count s - 1 ≤ c.in-Sound.place = omega (arith, c.if-last-bit_count.false, c.bit_count.ensures.value) in
    rw c.as_slice.ensures.value at (c.checked_frame.ensures) ∙ ap (checked s c.in-Sound.number) (rest_of_bits 2 c.in-Sound.bits)
    ∙ sym (judged-checked s c.in-Sound.number c.in-Sound.place c.in-Sound.level c.in-Sound.bits first later (rw c.in-Sound.is at agrees) enough c.if-level.false)
