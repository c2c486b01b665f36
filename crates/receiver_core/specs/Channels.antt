-- Which reports a channel gives of its items; this project's own.
use Rattle.std.specs.Prelude.{ℕ, ◌+◌, List, [], ◌∷◌, ◌++◌}
use Rattle.line_base.specs.Edges.{NumberedEdge}
use Rattle.line_base.specs.declared.edge.Item.{Item}
use Rattle.line_base.specs.declared.edge.Item.TheVariants as item
use Rattle.sent_frame.specs.Reading.{sent_reading}
use Rattle.receiver_core.specs.declared.report.Report.{Report}
use Rattle.receiver_core.specs.declared.report.What.TheVariants as what
use Rattle.receiver_core.specs.declared.setup.ChannelSetup.{ChannelSetup}
use Rattle.receiver_core.specs.declared.setup.ChannelSetup.TheVariants.{Sent, Psi5, Spc, Tooth}
use Rattle.receiver_core.specs.SentReports.{report, sent_reports}
use Rattle.receiver_core.specs.SpcReports.{spc_so_far, spc_end}
use Rattle.receiver_core.specs.ToothReports.{tooth_so_far}
use Rattle.receiver_core.specs.Psi5Places.{grown}
use Rattle.receiver_core.specs.Psi5Reports.{psi5_so_far, psi5_at_end}

-- the reports of a stretch of edges, which no gap parts
unfoldable pub stretch_reports : ChannelSetup → List NumberedEdge → List Report
stretch_reports (Sent line setup layout serial) edges = sent_reports layout serial [] (sent_reading setup edges)
stretch_reports (Psi5 line setup slots init) edges = psi5_so_far setup slots init edges
stretch_reports (Spc line setup) edges = spc_so_far setup edges
stretch_reports (Tooth line setup) edges = tooth_so_far setup edges

-- the reports that the end adds to those of the last stretch: none for SENT and the tooth gap, for PSI5 those of the last burst, and for SPC that of a trigger without an answer
unfoldable pub end_reports : ChannelSetup → List NumberedEdge → List Report
end_reports (Sent line setup layout serial) edges = []
end_reports (Psi5 line setup slots init) edges = grown (psi5_so_far setup slots init edges) (psi5_at_end setup slots init edges)
end_reports (Spc line setup) edges = spc_end setup edges
end_reports (Tooth line setup) edges = []

-- the reports of the last edges since a gap and of these items, which come after so many edges: each stretch is read from its start, each gap is told between two, and nothing is read after an end
unfoldable pub reports_from : ChannelSetup → ℕ → List NumberedEdge → List Item → List Report
reports_from setup number stretch [] = stretch_reports setup stretch
reports_from setup number stretch (item.Edge edge ∷ items) =
    reports_from setup (number + 1) (stretch ++ record { number = number; edge = edge } ∷ []) items
reports_from setup number stretch (item.Gap first count ∷ items) =
    stretch_reports setup stretch ++ report first (what.Gap count) ∷ reports_from setup (number + count) [] items
reports_from setup number stretch (item.End ∷ items) = stretch_reports setup stretch ++ end_reports setup stretch
reports_from setup number stretch (item.Cut ∷ items) = stretch_reports setup stretch

-- the reports of the items of a channel so far
unfoldable pub so_far : ChannelSetup → List Item → List Report
so_far setup items = reports_from setup 0 [] items

-- the reports of the items of a channel, with those that the end adds
unfoldable pub final : ChannelSetup → List Item → List Report
final setup items = so_far setup (items ++ item.End ∷ [])
