-- The first channel is marked, or another one is.
use Rattle.std.proofs.Common.{Bool, sym, ap, ◌∙◌, ◌||◌}
use Rattle.decode_command.specs.Channels.{is_marked}
use Rattle.decode_command.specs.Followed.{setups_of}
use Rattle.decode_command.proofs.Taking.{marked-none, marked-parts, none-left, counted-parts}
use Rattle.decode_command.proofs.channels.+are_marked.Goals as goal

pub returns-in-None : goal.returns-in-None
returns-in-None t c = λ edges counted. marked-none c.args.channels.now edges (none-left c.args.channels.now c.in-None.ensures.cases)

pub returns-then-has_marks : goal.returns-then-has_marks
returns-then-has_marks t c = λ edges counted.
    c.if-has_marks.true ∙ sym (ap (λ (b : Bool). b || is_marked (setups_of c.in-Some.others.now) edges) (sym c.has_marks.ensures ∙ c.if-has_marks.true))
    ∙ marked-parts c.args.channels.now c.in-Some.channel.now c.in-Some.others.now edges c.in-Some.ensures.cases.0 counted

pub returns-else-has_marks : goal.returns-else-has_marks
returns-else-has_marks t c = λ edges counted.
    c.are_marked.ensures edges (counted-parts c.args.channels.now c.in-Some.channel.now c.in-Some.others.now edges c.in-Some.ensures.cases.0 counted)
    ∙ sym (ap (λ (b : Bool). b || is_marked (setups_of c.in-Some.others.now) edges) (sym c.has_marks.ensures ∙ c.if-has_marks.false))
    ∙ marked-parts c.args.channels.now c.in-Some.channel.now c.in-Some.others.now edges c.in-Some.ensures.cases.0 counted
