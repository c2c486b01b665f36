-- A serial message begins where none is on its way.
use Rattle.std.proofs.Common.{◌≡◌, ◌+◌, ◌≤◌, ◌++◌, [], length, ap, ap₂, subst, sym, ◌∙◌, eqb-true, arith}
use Rattle.std.proofs.lemmas.List.{nil_from_length}
use Rattle.sim_base.specs.declared.sim_fault.SimFault.TheVariants as fault
use Rattle.sim_base.specs.Outcomes.{Refused, Sent}
use Rattle.sent_sim.specs.SentSims.{begun}
use Rattle.sent_sim.specs.SentStates.{SentState}
use Rattle.sent_sim.proofs.SentOutcomes.{at_ok, begins-now, refuses-order}
use Rattle.sent_sim.proofs.sent_sim.SentSim.begin.Goals as goal

pub returns-then-not-is_empty : goal.returns-then-not-is_empty
returns-then-not-is_empty c = λ g. subst (λ s. Refused fault.Order s g ≡ begun s c.args.statuses.now g) c.self.view_is (refuses-order _ c.args.statuses.now g (sym c.is_empty.ensures ∙ c.if-not-is_empty.true))

pub returns : goal.returns
returns c = λ g.
    let before : SentState = record { line = c.self.inside.line; setup = c.self.inside.setup; serial = c.self.inside.serial; last = c.self.inside.last; tick = c.self.inside.tick; left = c.self.inside.left.items } in
    let empty = sym c.is_empty.ensures ∙ c.if-not-is_empty.false in
    let none : c.self.inside.left.items ≡ [] = nil_from_length c.self.inside.left.items (eqb-true _ 0 empty) in
    let room : length c.self.inside.left.items + length c.args.statuses.now ≤ 18 = omega (arith, ap length none, c.requires.few) in
    let left : c.try_extend_from_slice.new.self.items ≡ c.args.statuses.now =
    at_ok c.try_extend_from_slice.result (c.try_extend_from_slice.ensures.variant.1 room) c.try_extend_from_slice.ensures.ok ∙ ap (λ l. l ++ c.args.statuses.now) none in
    ap₂ (λ edges statuses. Sent edges (record before { left = statuses }) g) c.new.ensures left
    ∙ begins-now before c.args.statuses.now g empty ∙ ap (λ s. begun s c.args.statuses.now g) c.self.view_is
