-- Which reports an SPC channel gives of a stretch of its edges, and what each stands for (the frame of an answer: SAE J2716; the rules: this project's own).
use Rattle.std.specs.Prelude.{ℕ, ◌⊎◌, List, [], ◌∷◌, flat_map}
use Rattle.line_base.specs.Edges.{NumberedEdge}
use Rattle.spc_link.specs.declared.step.SpcStep.{SpcStep}
use Rattle.spc_link.specs.declared.step.SpcStep.TheVariants.{Nothing, Good, Bad, NoAnswer}
use Rattle.spc_link.specs.Setup.{Settings}
use Rattle.spc_link.specs.Reading.{spc_reading, spc_ends}
use Rattle.spc_link.specs.Readers.{StandsFor}
use Rattle.spc_link.specs.Transactions.{HasFrame, HasNoAnswer, EndsSilent, MeansFault}
use Rattle.receiver_core.specs.declared.report.Report.{Report}
use Rattle.receiver_core.specs.declared.report.What.{What}
use Rattle.receiver_core.specs.declared.report.What.TheVariants as what
use Rattle.receiver_core.specs.declared.spc_channel.SpcChannel.{SpcChannel}
use Rattle.receiver_core.specs.SentReports.{report}

-- the report of a step, at its place; nothing where there is none
abbrev pub answer_report : SpcStep → List Report
answer_report Nothing = []
answer_report (Good place code frame) = report place (what.Answer code frame) ∷ []
answer_report (Bad place rule) = report place (what.Bad rule) ∷ []
answer_report (NoAnswer place code) = report place (what.NoAnswer code) ∷ []

-- the reports of a stretch of an SPC channel's edges so far
unfoldable pub spc_so_far : Settings → List NumberedEdge → List Report
spc_so_far s edges = flat_map answer_report (spc_reading s edges)

-- the reports that the end adds to those
unfoldable pub spc_end : Settings → List NumberedEdge → List Report
spc_end s edges = flat_map answer_report (spc_ends s edges)

-- the channel has this setup and stands for these edges
abbrev pub StandsForAnswers : Settings → SpcChannel → List NumberedEdge → Type 0
StandsForAnswers s channel seen = StandsFor s channel.reader seen

-- what is said at this place stands for: an answer for a trigger of its code and a frame of SENT behind it, a missing answer for a trigger and the next fall after quiet, or for a trigger at the end, and a violated rule for what breaks it
abbrev pub AnswerStands : Settings → List NumberedEdge → ℕ → What → Type 0
AnswerStands s edges place (what.Answer code frame) = HasFrame s edges place code frame
AnswerStands s edges place (what.NoAnswer code) = HasNoAnswer s edges place code ⊎ EndsSilent s edges place code
AnswerStands s edges place (what.Bad rule) = MeansFault s edges place rule
AnswerStands s edges place (what.Frame frame) = ⊥
AnswerStands s edges place (what.Fast value) = ⊥
AnswerStands s edges place (what.Counter before now) = ⊥
AnswerStands s edges place (what.Short id value) = ⊥
AnswerStands s edges place (what.Enhanced id value wide) = ⊥
AnswerStands s edges place (what.Burst slot payload code) = ⊥
AnswerStands s edges place (what.Block id value) = ⊥
AnswerStands s edges place (what.Done blocks) = ⊥
AnswerStands s edges place (what.Down down) = ⊥
AnswerStands s edges place (what.Gap count) = ⊥
