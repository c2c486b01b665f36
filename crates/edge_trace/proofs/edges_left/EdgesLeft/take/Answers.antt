-- Lines without an edge are passed over, and the first with one is taken.
use Rattle.std.proofs.Common.{◌∙◌, arith, inl, inr}
use Rattle.edge_trace.proofs.LeftEdges.{left_passed, left_first, none_left, no_digit_left}
use Rattle.edge_trace.proofs.edges_left.EdgesLeft.take.Goals as goal
use Rattle.edge_trace.proofs.edges_left.EdgesLeft.take.Goals.{then-empty-test+then-levels-gt0+else-levels-eq0, then-empty-test+else-levels-gt0, else-empty-test}

pub empty-preserved : goal.empty-preserved
empty-preserved c = c.empty.invariant ∙ left_passed c.empty.line c.self.inside.time c.empty.levels c.empty-test.true c.if-levels-eq0.true

pub returns-then-line-ge16-clause-taken : goal.returns-then-line-ge16-clause-taken
returns-then-line-ge16-clause-taken c = elim c.then-line-ge16.either [
  | inl past ↦ c.empty.invariant ∙ none_left c.empty.line c.self.inside.time c.empty.levels past
  | inr none ↦ c.empty.invariant ∙ no_digit_left c.empty.line c.self.inside.time c.empty.levels none.1
]

pub returns-clause-taken : goal.returns-clause-taken
returns-clause-taken c = c.empty.invariant ∙ left_first c.empty.line c.self.inside.time c.empty.levels c.if-line-ge16.false (
    elim c.empty-test.branch [
      | then-empty-test+then-levels-gt0+else-levels-eq0 w ↦ (let some = w.if-levels-eq0.false in omega arith)
      | then-empty-test+else-levels-gt0 w ↦ (let none = w.if-levels-gt0.false in let some = c.if-levels-eq0-2.false in omega arith)
      | else-empty-test w ↦ (let past = w.empty-test.false in let before = c.if-line-ge16.false in omega arith)
    ])
