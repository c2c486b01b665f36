-- Each report of a channel's items stands for something in them.
--     items-mean      all final reports
use Rattle.std.proofs.Common.{◌≡◌, ◌≢◌, ℕ, ◌+◌, List, [], ◌∷◌, ◌++◌, refl, sym, ◌∙◌, subst, append_assoc}
use Rattle.std.specs.List.{All, Contains}
use Rattle.std.proofs.lemmas.List.Elements.{All-append, All-cons, All-nil, All-push, All-weaker, Contains-append_left, Contains-append_right, Contains-push}
use Rattle.line_base.specs.Edges.{NumberedEdge}
use Rattle.line_base.specs.declared.edge.Item.{Item}
use Rattle.line_base.specs.declared.edge.Item.TheVariants as item
use Rattle.receiver_core.specs.declared.report.Report.{Report}
use Rattle.receiver_core.specs.declared.report.What.{What}
use Rattle.receiver_core.specs.declared.report.What.TheVariants as what
use Rattle.receiver_core.specs.declared.setup.ChannelSetup.{ChannelSetup}
use Rattle.receiver_core.specs.declared.setup.ChannelSetup.TheVariants.{Sent, Psi5, Spc, Tooth}
use Rattle.receiver_core.specs.SentReports.{report}
use Rattle.receiver_core.specs.Stretches.{stretches_from, stretches_of}
use Rattle.receiver_core.specs.Channels.{stretch_reports, end_reports, reports_from, so_far, final}
use Rattle.receiver_core.specs.Meanings.{StretchStands, ItemsStand, ReportMeans}
use Rattle.receiver_core.proofs.Meanings.{stretch-stands, end-stands}

-- neither an end nor a cut
abbrev IsNoEnd : Item → Type 0
IsNoEnd taken = (taken ≢ item.End) × (taken ≢ item.Cut)

-- the last items are to be read behind these before, none of which is an end, and their stretches are the last of all
record IsReached (all : List Item) (number : ℕ) (stretch : List NumberedEdge) (items : List Item) : Type 0 where
  pub before : List Item
  pub stands : all ≡ before ++ items
  pub no_end : All IsNoEnd before
  pub closed : List (List NumberedEdge)
  pub stretches : stretches_of all ≡ closed ++ stretches_from number stretch items

past-edge : (all : List Item) (number : ℕ) (stretch : List NumberedEdge) (edge : _) (items : List Item) → IsReached all number stretch (item.Edge edge ∷ items)
    → IsReached all (number + 1) (stretch ++ record { number = number; edge = edge } ∷ []) items
unfolding stretches_from
past-edge all number stretch edge items reached = record {
  before = reached.before ++ item.Edge edge ∷ [];
  stands = reached.stands ∙ sym (append_assoc reached.before (item.Edge edge ∷ []) items);
  no_end = All-push IsNoEnd reached.before (item.Edge edge) reached.no_end (λ e. cc, λ e. cc);
  closed = reached.closed;
  stretches = reached.stretches;
}

past-gap : (all : List Item) (number : ℕ) (stretch : List NumberedEdge) (first count : ℕ) (items : List Item) → IsReached all number stretch (item.Gap first count ∷ items) → IsReached all (number + count) [] items
unfolding stretches_from
past-gap all number stretch first count items reached = record {
  before = reached.before ++ item.Gap first count ∷ [];
  stands = reached.stands ∙ sym (append_assoc reached.before (item.Gap first count ∷ []) items);
  no_end = All-push IsNoEnd reached.before (item.Gap first count) reached.no_end (λ e. cc, λ e. cc);
  closed = reached.closed ++ stretch ∷ [];
  stretches = reached.stretches ∙ sym (append_assoc reached.closed (stretch ∷ []) (stretches_from (number + count) [] items));
}

-- ---- a stretch
says-so : (setup : ChannelSetup) (items : List Item) (stretch : List NumberedEdge) (place : ℕ) (says : What) → Contains (stretches_of items) stretch → StretchStands setup stretch place says → ItemsStand setup items place says
says-so (Sent line s l f) items stretch place (what.Gap count) is_one stands = absurd stands
says-so (Psi5 line s slots init) items stretch place (what.Gap count) is_one stands = absurd stands
says-so (Spc line s) items stretch place (what.Gap count) is_one stands = absurd stands
says-so (Tooth line s) items stretch place (what.Gap count) is_one stands = absurd stands
says-so setup items stretch place (what.Frame frame) is_one stands = record { stretch = stretch; is_one = is_one; stands = stands }
says-so setup items stretch place (what.Fast value) is_one stands = record { stretch = stretch; is_one = is_one; stands = stands }
says-so setup items stretch place (what.Counter before now) is_one stands = record { stretch = stretch; is_one = is_one; stands = stands }
says-so setup items stretch place (what.Short id value) is_one stands = record { stretch = stretch; is_one = is_one; stands = stands }
says-so setup items stretch place (what.Enhanced id value wide) is_one stands = record { stretch = stretch; is_one = is_one; stands = stands }
says-so setup items stretch place (what.Answer code frame) is_one stands = record { stretch = stretch; is_one = is_one; stands = stands }
says-so setup items stretch place (what.NoAnswer code) is_one stands = record { stretch = stretch; is_one = is_one; stands = stands }
says-so setup items stretch place (what.Burst slot payload code) is_one stands = record { stretch = stretch; is_one = is_one; stands = stands }
says-so setup items stretch place (what.Block id value) is_one stands = record { stretch = stretch; is_one = is_one; stands = stands }
says-so setup items stretch place (what.Done blocks) is_one stands = record { stretch = stretch; is_one = is_one; stands = stands }
says-so setup items stretch place (what.Down down) is_one stands = record { stretch = stretch; is_one = is_one; stands = stands }
says-so setup items stretch place (what.Bad rule) is_one stands = record { stretch = stretch; is_one = is_one; stands = stands }

stretch-means : (setup : ChannelSetup) (all : List Item) (stretch : List NumberedEdge) (closed others : List (List NumberedEdge)) → stretches_of all ≡ closed ++ stretch ∷ others → All (ReportMeans setup all) (stretch_reports setup stretch)
stretch-means setup all stretch closed others are =
    let here : Contains (stretches_of all) stretch =
    subst (λ (l : List (List NumberedEdge)). Contains l stretch) (sym are) (Contains-append_right closed (stretch ∷ others) stretch (Contains-append_left (stretch ∷ []) others stretch (Contains-push [] stretch))) in
    All-weaker (λ (r : Report). StretchStands setup stretch r.place r.what) (ReportMeans setup all) (λ r stands. says-so setup all stretch r.place r.what here stands) (stretch_reports setup stretch) (stretch-stands setup stretch)

end-means : (setup : ChannelSetup) (all : List Item) (stretch : List NumberedEdge) (closed others : List (List NumberedEdge)) → stretches_of all ≡ closed ++ stretch ∷ others → All (ReportMeans setup all) (end_reports setup stretch)
end-means setup all stretch closed others are =
    let here : Contains (stretches_of all) stretch =
    subst (λ (l : List (List NumberedEdge)). Contains l stretch) (sym are) (Contains-append_right closed (stretch ∷ others) stretch (Contains-append_left (stretch ∷ []) others stretch (Contains-push [] stretch))) in
    All-weaker (λ (r : Report). StretchStands setup stretch r.place r.what) (ReportMeans setup all) (λ r stands. says-so setup all stretch r.place r.what here stands) (end_reports setup stretch) (end-stands setup stretch)

last-means : (setup : ChannelSetup) (all : List Item) (stretch : List NumberedEdge) (closed others : List (List NumberedEdge)) → stretches_of all ≡ closed ++ stretch ∷ others
    → All (ReportMeans setup all) (stretch_reports setup stretch ++ end_reports setup stretch)
last-means setup all stretch closed others are =
    All-append (ReportMeans setup all) (stretch_reports setup stretch) (end_reports setup stretch) (stretch-means setup all stretch closed others are) (end-means setup all stretch closed others are)

-- ---- all items
rest-means : (setup : ChannelSetup) (all : List Item) (number : ℕ) (stretch : List NumberedEdge) (items : List Item) → IsReached all number stretch items
    → All (ReportMeans setup all) (reports_from setup number stretch (items ++ item.End ∷ []))
unfolding reports_from stretches_from
rest-means setup all number stretch [] reached = last-means setup all stretch reached.closed [] reached.stretches
rest-means setup all number stretch (item.Edge edge ∷ items) reached =
    rest-means setup all (number + 1) (stretch ++ record { number = number; edge = edge } ∷ []) items (past-edge all number stretch edge items reached)
rest-means setup all number stretch (item.Gap first count ∷ items) reached =
    All-append (ReportMeans setup all) (stretch_reports setup stretch) (report first (what.Gap count) ∷ reports_from setup (number + count) [] (items ++ item.End ∷ []))
    (stretch-means setup all stretch reached.closed (stretches_from (number + count) [] items) reached.stretches)
    (All-cons (ReportMeans setup all) (report first (what.Gap count)) (reports_from setup (number + count) [] (items ++ item.End ∷ []))
    (record { before = reached.before; after = items; stands = reached.stands; no_end = reached.no_end })
    (rest-means setup all (number + count) [] items (past-gap all number stretch first count items reached)))
rest-means setup all number stretch (item.End ∷ items) reached = last-means setup all stretch reached.closed [] reached.stretches
rest-means setup all number stretch (item.Cut ∷ items) reached = stretch-means setup all stretch reached.closed [] reached.stretches

all-reached : (all : List Item) → IsReached all 0 [] all
unfolding stretches_of
all-reached all = record { before = []; stands = refl; no_end = All-nil IsNoEnd; closed = []; stretches = refl }

-- each final report of a channel's items stands for something in them
pub items-mean : (setup : ChannelSetup) (items : List Item) → All (ReportMeans setup items) (final setup items)
unfolding final so_far
items-mean setup items = rest-means setup items 0 [] items (all-reached items)
