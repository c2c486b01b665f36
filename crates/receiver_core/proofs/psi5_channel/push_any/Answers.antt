-- What is told at once.
use Rattle.std.proofs.Common.{List, sym, subst, ◌∙◌}
use Rattle.receiver_core.specs.declared.psi5_burst.Told.{Told}
use Rattle.receiver_core.specs.Psi5Stretches.{ReadsCodes}
use Rattle.receiver_core.proofs.Psi5Reports.{reports-one, reports-nil, past-one, past-nil}
use Rattle.receiver_core.proofs.psi5_channel.push_any.Goals as goal

pub returns-in-None-clause-stands : goal.returns-in-None-clause-stands
returns-in-None-clause-stands c = λ s repeats since before. rw c.in-None.is (subst (λ (l : List Told). ReadsCodes s repeats c.args.has_codes c.args.init.now l) (sym (past-nil since)) before)

pub returns-in-None-clause-reports : goal.returns-in-None-clause-reports
returns-in-None-clause-reports c = λ s repeats since before. rw c.in-None.is (c.requires.empty ∙ sym (reports-nil s repeats since))

pub returns-in-Some-clause-stands : goal.returns-in-Some-clause-stands
returns-in-Some-clause-stands c = λ s repeats since before.
    rw c.in-Some.is (subst (λ (l : List Told). ReadsCodes s repeats c.args.has_codes c.push_told.new.init l) (sym (past-one since c.in-Some.next)) (c.push_told.ensures.stands s repeats since before))

pub returns-in-Some-clause-reports : goal.returns-in-Some-clause-reports
returns-in-Some-clause-reports c = λ s repeats since before. rw c.in-Some.is (c.push_told.ensures.reports s repeats since before ∙ sym (reports-one s repeats since c.in-Some.next))
