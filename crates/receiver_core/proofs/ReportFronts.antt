-- What was reported stays when more items come.
use Rattle.std.proofs.Common.{◌≡◌, ℕ, ◌+◌, List, [], ◌∷◌, ◌++◌, ap, ◌∙◌}
use Rattle.line_base.specs.Edges.{NumberedEdge}
use Rattle.line_base.specs.Streams.{IsFrontOf}
use Rattle.line_base.specs.declared.edge.Item.{Item}
use Rattle.line_base.specs.declared.edge.Item.TheVariants as item
use Rattle.line_base.proofs.Fronts.{IsFrontOf-refl, IsFrontOf-append, IsFrontOf-trans, IsFrontOf-after}
use Rattle.sent_frame.specs.Reading.{sent_reading}
use Rattle.sent_frame.proofs.Prefixes.{reading-front}
use Rattle.receiver_core.specs.declared.report.What.TheVariants as what
use Rattle.receiver_core.specs.declared.setup.ChannelSetup.{ChannelSetup}
use Rattle.receiver_core.specs.declared.setup.ChannelSetup.TheVariants.{Sent, Psi5, Spc, Tooth}
use Rattle.receiver_core.specs.SentReports.{report, sent_reports, frames_past}
use Rattle.receiver_core.specs.Channels.{stretch_reports, end_reports, reports_from, so_far, final}
use Rattle.receiver_core.proofs.SentReports.{sent_reports-append}
use Rattle.receiver_core.proofs.SpcReports.{spc-front}
use Rattle.receiver_core.proofs.ToothReports.{tooth-front}
use Rattle.receiver_core.proofs.Psi5Stretches.{psi5-front}
use Rattle.receiver_core.proofs.Links.{stretch-none}

-- no items have no reports
pub so_far-none : (setup : ChannelSetup) → so_far setup [] ≡ []
unfolding so_far reports_from
so_far-none setup = stretch-none setup

-- the reports of a stretch are a front of those of a longer one
pub stretch-front : (setup : ChannelSetup) (stretch more : List NumberedEdge) → IsFrontOf (stretch_reports setup stretch) (stretch_reports setup (stretch ++ more))
unfolding stretch_reports
stretch-front (Sent line s layout serial) stretch more =
    let steps = reading-front s stretch more in
    record {
      rest = sent_reports layout serial (frames_past [] (sent_reading s stretch)) steps.rest;
      is = ap (sent_reports layout serial []) steps.is ∙ sent_reports-append layout serial [] (sent_reading s stretch) steps.rest;
    }
stretch-front (Psi5 line s slots init) stretch more = psi5-front s slots init stretch more
stretch-front (Spc line s) stretch more = spc-front s stretch more
stretch-front (Tooth line s) stretch more = tooth-front s stretch more

stretch-first : (setup : ChannelSetup) (number : ℕ) (stretch : List NumberedEdge) (more : List Item) → IsFrontOf (stretch_reports setup stretch) (reports_from setup number stretch more)
unfolding reports_from
stretch-first setup number stretch [] = IsFrontOf-refl (stretch_reports setup stretch)
stretch-first setup number stretch (item.Edge edge ∷ more) =
    let next : List NumberedEdge = record { number = number; edge = edge } ∷ [] in
    IsFrontOf-trans (stretch-front setup stretch next) (stretch-first setup (number + 1) (stretch ++ next) more)
stretch-first setup number stretch (item.Gap first count ∷ more) = IsFrontOf-append (stretch_reports setup stretch) (report first (what.Gap count) ∷ reports_from setup (number + count) [] more)
stretch-first setup number stretch (item.End ∷ more) = IsFrontOf-append (stretch_reports setup stretch) (end_reports setup stretch)
stretch-first setup number stretch (item.Cut ∷ more) = IsFrontOf-refl (stretch_reports setup stretch)

-- the reports from anywhere on are a front of those with more items
pub reports_from-front : (setup : ChannelSetup) (number : ℕ) (stretch : List NumberedEdge) (items more : List Item)
    → IsFrontOf (reports_from setup number stretch items) (reports_from setup number stretch (items ++ more))
unfolding reports_from
reports_from-front setup number stretch [] more = stretch-first setup number stretch more
reports_from-front setup number stretch (item.Edge edge ∷ items) more = reports_from-front setup (number + 1) (stretch ++ record { number = number; edge = edge } ∷ []) items more
reports_from-front setup number stretch (item.Gap first count ∷ items) more =
    IsFrontOf-after (stretch_reports setup stretch) (IsFrontOf-after (report first (what.Gap count) ∷ []) (reports_from-front setup (number + count) [] items more))
reports_from-front setup number stretch (item.End ∷ items) more = IsFrontOf-refl (stretch_reports setup stretch ++ end_reports setup stretch)
reports_from-front setup number stretch (item.Cut ∷ items) more = IsFrontOf-refl (stretch_reports setup stretch)

-- the reports so far are a front of those of these and more items
pub so_far-front : (setup : ChannelSetup) (items more : List Item) → IsFrontOf (so_far setup items) (so_far setup (items ++ more))
unfolding so_far
so_far-front setup items more = reports_from-front setup 0 [] items more

-- the reports so far are a front of the final ones
pub final-front : (setup : ChannelSetup) (items : List Item) → IsFrontOf (so_far setup items) (final setup items)
unfolding final
final-front setup items = so_far-front setup items (item.End ∷ [])
