use Rattle.std.proofs.Common.{◌∷◌, [], ◌++◌, List, sym, ap, ◌∙◌, subst, arith}
use Rattle.line_base.specs.declared.edge.Edge.{Edge}
use Rattle.edge_trace.specs.RowEdges.{AreBelow}
use Rattle.edge_trace.proofs.ToldLevels.{has_put}
use Rattle.edge_trace.proofs.row.RowEdges.push.Goals as goal

pub overflow_add-self : goal.overflow_add-self
overflow_add-self c =
    let put = has_put c.self.inside.time c.args.edge.time c.args.edge.line c.self.inside.levels c.args.edge.level c.self.invariant c.requires.line (omega arith)
    (subst (AreBelow c.args.edge.line c.args.edge.time) (sym c.self.view_is) c.requires.below) in
    rw (c.from.ensures, c.digit_of.ensures) (omega (arith, put.fits))

pub returns : goal.returns
returns c =
    rw (c.from.ensures, c.digit_of.ensures) ((has_put c.self.inside.time c.args.edge.time c.args.edge.line c.self.inside.levels c.args.edge.level c.self.invariant c.requires.line (omega arith)
    (subst (AreBelow c.args.edge.line c.args.edge.time) (sym c.self.view_is) c.requires.below)).edges
    ∙ ap (λ (es : List Edge). es ++ c.args.edge ∷ []) c.self.view_is)

pub invariant_of-self : goal.invariant_of-self
invariant_of-self c =
    rw (c.from.ensures, c.digit_of.ensures) (has_put c.self.inside.time c.args.edge.time c.args.edge.line c.self.inside.levels c.args.edge.level c.self.invariant c.requires.line (omega arith)
    (subst (AreBelow c.args.edge.line c.args.edge.time) (sym c.self.view_is) c.requires.below)).is_kept
