-- The next edge violates a rule, or is in the middle of a bit, or at the boundary of two.
use Rattle.std.proofs.Common.{◌∷◌, [], ◌++◌, Some, sym, ◌∙◌, subst}
use Rattle.psi5_frame.specs.declared.open.OpenBurst.{OpenBurst}
use Rattle.psi5_frame.specs.Edges.{Change}
use Rattle.psi5_frame.specs.Kept.{Agrees}
use Rattle.psi5_frame.proofs.Growing.{edge_fault-stays, edge_fault-push, sound-middle, sound-boundary}
use Rattle.psi5_frame.proofs.open.extend.Goals as goal

pub returns-in_default-clause-agrees : goal.returns-in_default-clause-agrees
returns-in_default-clause-agrees c = λ first later agrees.
    let edge : Change = record { number = c.args.number; level = c.args.level; interval = c.args.interval } in
    subst (λ (b : OpenBurst). Agrees c.args.count b first (later ++ edge ∷ [])) (sym c.in_default.is)
    (edge_fault-stays c.args.count first later edge _ (rw c.in_default.is at agrees))

pub returns-in-Some-clause-agrees : goal.returns-in-Some-clause-agrees
returns-in-Some-clause-agrees c = λ first later agrees.
    let edge : Change = record { number = c.args.number; level = c.args.level; interval = c.args.interval } in
    let sound = rw c.in-Sound.is at agrees in
    edge_fault-push c.args.count c.in-Sound.place first later edge (Some c.in-Some.rule) sound.unbroken sound.place_is (sym c.fault.ensures ∙ c.in-Some.is)

pub returns-then-place-eq1-clause-agrees : goal.returns-then-place-eq1-clause-agrees
returns-then-place-eq1-clause-agrees c = λ first later agrees.
    let edge : Change = record { number = c.args.number; level = c.args.level; interval = c.args.interval } in
    let sound = rw c.in-Sound.is at agrees in
    let odd = rw c.half_bits.ensures.value at c.if-place-eq1.true in
    rw (c.push.ensures, c.half_bits.ensures.value)
    (sound-middle c.args.count c.in-Sound.last c.in-Sound.place c.in-Sound.high c.in-Sound.bits first later edge sound c.requires.loud (sym c.fault.ensures ∙ c.in_default-fault.is) odd)

pub returns-else-place-eq1-clause-agrees : goal.returns-else-place-eq1-clause-agrees
returns-else-place-eq1-clause-agrees c = λ first later agrees.
    let edge : Change = record { number = c.args.number; level = c.args.level; interval = c.args.interval } in
    let sound = rw c.in-Sound.is at agrees in
    let even = rw c.half_bits.ensures.value at c.if-place-eq1.false in
    rw c.half_bits.ensures.value
    (sound-boundary c.args.count c.in-Sound.last c.in-Sound.place c.in-Sound.high c.in-Sound.bits first later edge sound c.requires.loud (sym c.fault.ensures ∙ c.in_default-fault.is) even)
