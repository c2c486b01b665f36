-- Each message by what it is.
use Rattle.std.proofs.Common.{ap, sym, ◌∙◌}
use Rattle.spc_sim.specs.SpcSims.{fits_answer, fits_code}
use Rattle.spc_sim.specs.SpcStates.{SpcState}
use Rattle.spc_sim.proofs.SpcOutcomes.{refuses-answer, refuses-code, refuses-other, sends-answer, sends-silent}
use Rattle.spc_sim.proofs.spc_sim.SpcSim.next.Goals as goal

pub returns-then-not-fits_answer : goal.returns-then-not-fits_answer
returns-then-not-fits_answer c =
    refuses-answer c.args.self.now c.args.wobble.now c.args.message.now c.in-Answer.code c.in-Answer.frame c.in-Answer.is
    (ap (λ (s : SpcState). fits_answer s.setup c.in-Answer.code c.in-Answer.frame) (sym c.self.view_is) ∙ sym c.fits_answer.ensures ∙ c.if-not-fits_answer.true)

pub returns-else-not-fits_answer : goal.returns-else-not-fits_answer
returns-else-not-fits_answer c =
    c.answer.ensures
    ∙ sends-answer c.args.self.now c.args.wobble.now c.args.message.now c.in-Answer.code c.in-Answer.frame c.in-Answer.is
    (ap (λ (s : SpcState). fits_answer s.setup c.in-Answer.code c.in-Answer.frame) (sym c.self.view_is) ∙ sym c.fits_answer.ensures ∙ c.if-not-fits_answer.false)

pub returns-then-not-fits_code : goal.returns-then-not-fits_code
returns-then-not-fits_code c =
    refuses-code c.args.self.now c.args.wobble.now c.args.message.now c.in-Silent.code c.in-Silent.is
    (ap (λ (s : SpcState). fits_code s.setup c.in-Silent.code) (sym c.self-in-Silent.view_is) ∙ sym c.fits_code.ensures ∙ c.if-not-fits_code.true)

pub returns-else-not-fits_code : goal.returns-else-not-fits_code
returns-else-not-fits_code c =
    c.silent.ensures
    ∙ sends-silent c.args.self.now c.args.wobble.now c.args.message.now c.in-Silent.code c.in-Silent.is
    (ap (λ (s : SpcState). fits_code s.setup c.in-Silent.code) (sym c.self-in-Silent.view_is) ∙ sym c.fits_code.ensures ∙ c.if-not-fits_code.false)

pub returns-in_default : goal.returns-in_default
returns-in_default c = refuses-other c.args.self.now c.args.wobble.now c.args.message.now c.in_default.not-Answer c.in_default.not-Silent
