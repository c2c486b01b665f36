-- One code more.
use Rattle.psi5_init.proofs.Standing.{pushed-stands, pushed-grows}
use Rattle.psi5_init.proofs.reader.InitReader.push.Goals as goal

pub returns-clause-stands : goal.returns-clause-stands
returns-clause-stands c = λ k seen before.
    pushed-stands k c.self.inside.repeats c.self.inside.state c.after_code-state.result.0 c.after_code-state.result.1 _ seen c.args.code c.self.view_is before
    c.after_code-state.ensures.led c.after_code-state.ensures.blocks

pub returns-clause-grows : goal.returns-clause-grows
returns-clause-grows c = λ k seen before.
    pushed-grows k c.self.inside.repeats c.self.inside.state c.after_code-state.result.0 c.after_code-state.result.1 _ seen c.args.code c.self.view_is before
    c.after_code-state.ensures.led c.after_code-state.ensures.blocks
