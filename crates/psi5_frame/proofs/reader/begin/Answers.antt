-- The edge is an opening, or the first of a burst.
use Rattle.std.proofs.Common.{◌-◌}
use Rattle.line_base.specs.Edges.{NumberedEdge}
use Rattle.link_math.specs.Manchester.{halves_in}
use Rattle.psi5_frame.proofs.Leading.{leads-opened, leads-begun-skipping, leads-begun-open}
use Rattle.psi5_frame.proofs.reader.begin.Goals as goal

pub returns-in-Fresh-clause-leads : goal.returns-in-Fresh-clause-leads
returns-in-Fresh-clause-leads c = λ seen agrees.
    let e : NumberedEdge = record { number = c.args.number; edge = c.args.edge } in
    rw c.in-Fresh.is (leads-opened c.args.setup.now e seen (rw c.in-Fresh.is at agrees))

pub returns-in-Skipping-clause-leads : goal.returns-in-Skipping-clause-leads
returns-in-Skipping-clause-leads c = λ seen agrees.
    let e : NumberedEdge = record { number = c.args.number; edge = c.args.edge } in
    let before = c.in-Skipping.time in
    let agreed = rw c.bit_count.ensures.value at (c.begun-burst.ensures.agrees (halves_in (c.args.edge.time - before) c.args.setup.now.bit)) in
    rw c.in-Skipping.is (leads-begun-skipping c.args.setup.now before c.begun-burst.result e seen (rw c.in-Skipping.is at c.requires.anew) (rw c.in-Skipping.is at agrees) agreed)

pub returns-in-Open-clause-leads : goal.returns-in-Open-clause-leads
returns-in-Open-clause-leads c = λ seen agrees.
    let e : NumberedEdge = record { number = c.args.number; edge = c.args.edge } in
    let before = c.in-Open.time in
    let agreed = rw c.bit_count.ensures.value at (c.begun-burst.ensures.agrees (halves_in (c.args.edge.time - before) c.args.setup.now.bit)) in
    rw c.in-Open.is
    (leads-begun-open c.args.setup.now before c.in-Open.last c.begun-burst.result c.concluded-ended.result e seen (rw c.in-Open.is at c.requires.anew) (rw c.in-Open.is at agrees) c.concluded-ended.ensures agreed)
