-- Which reports a tooth-gap channel gives of a stretch of its edges, and what each stands for (the method: PSI5 V2.1, base standard; the frames and rules: this project's own).
use Rattle.std.specs.Prelude.{◌≡◌, ℕ, Bool, true, false, List, [], ◌∷◌, flat_map, if◌then◌else◌}
use Rattle.line_base.specs.Edges.{NumberedEdge}
use Rattle.psi5_downlink.specs.declared.step.ToothStep.{ToothStep}
use Rattle.psi5_downlink.specs.declared.step.ToothStep.TheVariants.{Nothing, Good, Bad}
use Rattle.psi5_downlink.specs.Setup.{Settings}
use Rattle.psi5_downlink.specs.Rises.{Rise}
use Rattle.psi5_downlink.specs.Reading.{tooth_reading}
use Rattle.psi5_downlink.specs.Readers.{StandsFor}
use Rattle.psi5_downlink.specs.Meanings.{Means}
use Rattle.receiver_core.specs.declared.report.Report.{Report}
use Rattle.receiver_core.specs.declared.report.What.{What}
use Rattle.receiver_core.specs.declared.report.What.TheVariants as what
use Rattle.receiver_core.specs.declared.tooth_channel.ToothChannel.{ToothChannel}
use Rattle.receiver_core.specs.SentReports.{report}

-- the rise that an edge is, where it is one
abbrev pub rise_at : NumberedEdge → List Rise
rise_at e = if e.edge.level then record { number = e.number; time = e.edge.time } ∷ [] else []

-- the rises of a line: the first edge is an opening, and none
abbrev pub rises_of : List NumberedEdge → List Rise
rises_of [] = []
rises_of (opening ∷ edges) = flat_map rise_at edges

-- the report of a step, at its place; nothing where there is none
abbrev pub down_report : ToothStep → List Report
down_report Nothing = []
down_report (Good place down) = report place (what.Down down) ∷ []
down_report (Bad place rule) = report place (what.Bad rule) ∷ []

-- the reports of a stretch of a tooth-gap channel's edges
unfoldable pub tooth_so_far : Settings → List NumberedEdge → List Report
tooth_so_far s edges = flat_map down_report (tooth_reading s (rises_of edges))

-- there is an edge
abbrev pub has_edge : List NumberedEdge → Bool
has_edge [] = false
has_edge (edge ∷ edges) = true

-- the channel has this setup and stands for these edges: it knows whether the opening was seen, and its reader stands for the rises
pub record StandsForRises (s : Settings) (channel : ToothChannel) (seen : List NumberedEdge) : Type 0 where
  pub opened : channel.opened ≡ has_edge seen
  pub reads : StandsFor s channel.reader (rises_of seen)

-- what is said at this place stands for among the rises: a frame for the bits of what it says, and a violated rule for what breaks it
abbrev pub DownStands : Settings → List NumberedEdge → ℕ → What → Type 0
DownStands s edges place (what.Down down) = Means s (rises_of edges) (Good place down)
DownStands s edges place (what.Bad rule) = Means s (rises_of edges) (Bad place rule)
DownStands s edges place (what.Frame frame) = ⊥
DownStands s edges place (what.Fast value) = ⊥
DownStands s edges place (what.Counter before now) = ⊥
DownStands s edges place (what.Short id value) = ⊥
DownStands s edges place (what.Enhanced id value wide) = ⊥
DownStands s edges place (what.Answer code frame) = ⊥
DownStands s edges place (what.NoAnswer code) = ⊥
DownStands s edges place (what.Burst slot payload code) = ⊥
DownStands s edges place (what.Block id value) = ⊥
DownStands s edges place (what.Done blocks) = ⊥
DownStands s edges place (what.Gap count) = ⊥
