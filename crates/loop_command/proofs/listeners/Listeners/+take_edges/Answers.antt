-- Both get the first edge, and then the others.
use Rattle.std.proofs.Common.{◌≡◌, ◌+◌, [], ◌∷◌, ◌++◌, length, ap, sym, subst, ◌∙◌, arith, append_assoc, append-nil, length-append}
use Rattle.loop_command.specs.Listened.{AreInRange, HaveGot}
use Rattle.loop_command.proofs.LostEdges.{no-edges}
use Rattle.loop_command.proofs.listeners.Listeners.+take_edges.Goals as goal

pub returns-in-Some : goal.returns-in-Some
returns-in-Some t c = λ setup edges before.
    let edge = c.in-Some.edge.now in
    subst (HaveGot c.take_edges.new.self setup) (append_assoc edges (edge ∷ []) c.in-Some.others.now ∙ ap (λ l. edges ++ l) (sym c.in-Some.ensures.cases.0))
    (c.take_edges.ensures setup (edges ++ edge ∷ []) (c.take_edge.ensures setup edges before))

pub returns-in_default : goal.returns-in_default
returns-in_default t c = λ setup edges before. subst (HaveGot c.args.self.now setup) (sym (append-nil edges) ∙ ap (λ l. edges ++ l) (sym (no-edges c.args.more.now c.in_default.ensures.cases))) before

pub take_edges-requires : goal.take_edges-requires
take_edges-requires t c =
    let setup = c.requires.takeable.0 in
    let edges = c.requires.takeable.1 in
    let edge = c.in-Some.edge.now in
    let parts = c.in-Some.ensures.cases.0 in
    let few = c.requires.takeable.3 in
    let long : length c.args.more.now ≡ length c.in-Some.others.now + 1 = ap length parts ∙ (let e : length (edge ∷ c.in-Some.others.now) ≡ length c.in-Some.others.now + 1 = omega arith in e) in
    let one = length-append edges (edge ∷ []) in
    let ranges = subst AreInRange parts c.requires.in_range in (
      omega (arith, long),
      ((setup, edges ++ edge ∷ [], c.take_edge.ensures setup edges c.requires.takeable.2, omega (arith, few, long, one)), ranges.1),
    )
