-- What is told of the burst, if there is one.
use Rattle.std.proofs.Common.{List, sym, subst, ◌∙◌}
use Rattle.receiver_core.specs.declared.psi5_burst.Told.{Told}
use Rattle.receiver_core.specs.Psi5Stretches.{ReadsCodes}
use Rattle.receiver_core.proofs.Psi5Reports.{reports-nil, past-nil}
use Rattle.receiver_core.proofs.psi5_channel.tell.Goals as goal

pub returns-in-None-clause-stands : goal.returns-in-None-clause-stands
returns-in-None-clause-stands c = λ s repeats since before. rw c.in-None.is (subst (λ (l : List Told). ReadsCodes s repeats c.args.has_codes c.args.init.now l) (sym (past-nil since)) before)

pub returns-in-None-clause-reports : goal.returns-in-None-clause-reports
returns-in-None-clause-reports c = λ s repeats since before. rw c.in-None.is (c.requires.empty ∙ sym (reports-nil s repeats since))

pub returns-in-Some-clause-stands : goal.returns-in-Some-clause-stands
returns-in-Some-clause-stands c = λ s repeats since before. rw (c.in-Some.is, sym c.what_is_told.ensures.value) (c.push_any.ensures.stands s repeats since before)

pub returns-in-Some-clause-reports : goal.returns-in-Some-clause-reports
returns-in-Some-clause-reports c = λ s repeats since before. rw (c.in-Some.is, sym c.what_is_told.ensures.value) (c.push_any.ensures.reports s repeats since before)
