-- What one item more adds to the reports of what a link has open, and what a receiver stands for then.
use Rattle.std.proofs.Common.{◌≡◌, ◌≢◌, ℕ, ◌+◌, ◌^◌, ◌≤◌, List, [], ◌∷◌, ◌++◌, Option, None, Some, refl, ap, sym, ◌∙◌, subst, append-nil, arith}
use Rattle.line_base.specs.Edges.{NumberedEdge}
use Rattle.line_base.specs.declared.edge.Edge.{Edge}
use Rattle.line_base.specs.declared.edge.Item.{Item}
use Rattle.line_base.specs.declared.edge.Item.TheVariants as item
use Rattle.sent_frame.specs.Setup.{Settings}
use Rattle.line_base.specs.Readings.{read_past}
use Rattle.sent_frame.specs.Reading.{sent_reading}
use Rattle.sent_fast.specs.declared.layout.Layout.{Layout}
use Rattle.receiver_core.specs.declared.report.Report.{Report}
use Rattle.receiver_core.specs.declared.report.What.TheVariants as what
use Rattle.receiver_core.specs.declared.setup.Serial.{Serial}
use Rattle.receiver_core.specs.declared.setup.ChannelSetup.{ChannelSetup}
use Rattle.receiver_core.specs.declared.setup.ChannelSetup.TheVariants.{Sent, Psi5, Spc, Tooth}
use Rattle.psi5_frame.specs.Setup as frames
use Rattle.receiver_core.specs.declared.setup.SyncSlots.{SyncSlots}
use Rattle.receiver_core.specs.declared.sent_channel.SentChannel.{SentChannel}
use Rattle.receiver_core.specs.declared.psi5_channel.Psi5Channel.{Psi5Channel}
use Rattle.receiver_core.specs.Psi5Reports.{psi5_so_far, psi5_at_end, burst_reports}
use Rattle.receiver_core.specs.Psi5Stretches.{StandsForBursts}
use Rattle.spc_link.specs.Setup as spc_setup
use Rattle.psi5_downlink.specs.Setup as downlink
use Rattle.receiver_core.specs.declared.spc_channel.SpcChannel.{SpcChannel}
use Rattle.receiver_core.specs.declared.tooth_channel.ToothChannel.{ToothChannel}
use Rattle.receiver_core.specs.SpcReports.{spc_so_far, spc_end, StandsForAnswers}
use Rattle.receiver_core.specs.ToothReports.{tooth_so_far, StandsForRises}
use Rattle.receiver_core.proofs.SpcReports.{spc-none}
use Rattle.receiver_core.proofs.ToothReports.{tooth-none}
use Rattle.receiver_core.proofs.Psi5Places.{grown-by}
use Rattle.receiver_core.proofs.Psi5Stretches.{none-told}
use Rattle.receiver_core.specs.declared.receiver.Link.{Link}
use Rattle.receiver_core.specs.declared.receiver.Link.TheVariants as link
use Rattle.receiver_core.specs.declared.receiver.Receiver.{Receiver}
use Rattle.receiver_core.specs.SentReports.{report, sent_reports}
use Rattle.receiver_core.specs.SentStretches.{StandsForStretch}
use Rattle.line_base.specs.Items.{edges_counted}
use Rattle.receiver_core.specs.Channels.{stretch_reports, end_reports, reports_from, so_far}
use Rattle.receiver_core.specs.OpenStretches.{open_with, open_from, open_stretch, resumed}
use Rattle.receiver_core.specs.Readers.{LinkStandsFor, StandsFor, IsTakeable}
use Rattle.receiver_core.proofs.OpenStretches.{counted-more, open_stretch-more, so_far-more}

-- the edge adds these reports to those of any edges that the channel stands for
abbrev pub Adds : SentChannel → ℕ → Edge → List Report → Type 0
Adds channel number edge answers = (s : Settings) (layout : Layout) (serial : Serial) (seen : List NumberedEdge) → StandsForStretch s layout serial channel seen
    → sent_reports layout serial [] (sent_reading s (seen ++ record { number = number; edge = edge } ∷ [])) ≡ sent_reports layout serial [] (sent_reading s seen) ++ answers

-- an edge adds to the open ones what it adds to the stretch
pub edge-adds : (setup : ChannelSetup) (number : ℕ) (channel : SentChannel) (stretch : Option (List NumberedEdge)) (edge : Edge) (answers : List Report)
    → LinkStandsFor setup (link.Sent channel) stretch → Adds channel number edge answers
    → resumed setup number stretch (item.Edge edge ∷ []) ≡ resumed setup number stretch [] ++ answers
unfolding reports_from stretch_reports
edge-adds (Sent line s layout serial) number channel None edge answers stands adds = absurd stands
edge-adds (Sent line s layout serial) number channel (Some seen) edge answers stands adds = adds s layout serial seen stands
edge-adds (Psi5 line s slots init) number channel None edge answers stands adds = absurd stands
edge-adds (Psi5 line s slots init) number channel (Some seen) edge answers stands adds = absurd stands
edge-adds (Spc line s) number channel None edge answers stands adds = absurd stands
edge-adds (Spc line s) number channel (Some seen) edge answers stands adds = absurd stands
edge-adds (Tooth line s) number channel None edge answers stands adds = absurd stands
edge-adds (Tooth line s) number channel (Some seen) edge answers stands adds = absurd stands

-- the edge adds these reports to those of any edges that the PSI5 channel stands for
abbrev pub AddsBursts : Psi5Channel → ℕ → Edge → List Report → Type 0
AddsBursts channel number edge answers = (s : frames.Settings) (slots : Option SyncSlots) (init : Option ℕ) (seen : List NumberedEdge) → StandsForBursts s slots init channel seen
    → psi5_so_far s slots init (seen ++ record { number = number; edge = edge } ∷ []) ≡ psi5_so_far s slots init seen ++ answers

-- and so does an edge of a PSI5 channel
pub psi5-edge-adds : (setup : ChannelSetup) (number : ℕ) (channel : Psi5Channel) (stretch : Option (List NumberedEdge)) (edge : Edge) (answers : List Report)
    → LinkStandsFor setup (link.Psi5 channel) stretch → AddsBursts channel number edge answers
    → resumed setup number stretch (item.Edge edge ∷ []) ≡ resumed setup number stretch [] ++ answers
unfolding reports_from stretch_reports
psi5-edge-adds (Sent line s layout serial) number channel None edge answers stands adds = absurd stands
psi5-edge-adds (Sent line s layout serial) number channel (Some seen) edge answers stands adds = absurd stands
psi5-edge-adds (Psi5 line s slots init) number channel None edge answers stands adds = absurd stands
psi5-edge-adds (Psi5 line s slots init) number channel (Some seen) edge answers stands adds = adds s slots init seen stands
psi5-edge-adds (Spc line s) number channel None edge answers stands adds = absurd stands
psi5-edge-adds (Spc line s) number channel (Some seen) edge answers stands adds = absurd stands
psi5-edge-adds (Tooth line s) number channel None edge answers stands adds = absurd stands
psi5-edge-adds (Tooth line s) number channel (Some seen) edge answers stands adds = absurd stands

-- the edge adds these reports to those of any edges that the SPC channel stands for
abbrev pub AddsAnswers : SpcChannel → ℕ → Edge → List Report → Type 0
AddsAnswers channel number edge answers = (s : spc_setup.Settings) (seen : List NumberedEdge) → StandsForAnswers s channel seen
    → spc_so_far s (seen ++ record { number = number; edge = edge } ∷ []) ≡ spc_so_far s seen ++ answers

-- and so does an edge of an SPC channel
pub spc-edge-adds : (setup : ChannelSetup) (number : ℕ) (channel : SpcChannel) (stretch : Option (List NumberedEdge)) (edge : Edge) (answers : List Report)
    → LinkStandsFor setup (link.Spc channel) stretch → AddsAnswers channel number edge answers
    → resumed setup number stretch (item.Edge edge ∷ []) ≡ resumed setup number stretch [] ++ answers
unfolding reports_from stretch_reports
spc-edge-adds (Sent line s layout serial) number channel None edge answers stands adds = absurd stands
spc-edge-adds (Sent line s layout serial) number channel (Some seen) edge answers stands adds = absurd stands
spc-edge-adds (Psi5 line s slots init) number channel None edge answers stands adds = absurd stands
spc-edge-adds (Psi5 line s slots init) number channel (Some seen) edge answers stands adds = absurd stands
spc-edge-adds (Spc line s) number channel None edge answers stands adds = absurd stands
spc-edge-adds (Spc line s) number channel (Some seen) edge answers stands adds = adds s seen stands
spc-edge-adds (Tooth line s) number channel None edge answers stands adds = absurd stands
spc-edge-adds (Tooth line s) number channel (Some seen) edge answers stands adds = absurd stands

-- the edge adds these reports to those of any edges that the tooth-gap channel stands for
abbrev pub AddsDowns : ToothChannel → ℕ → Edge → List Report → Type 0
AddsDowns channel number edge answers = (s : downlink.Settings) (seen : List NumberedEdge) → StandsForRises s channel seen
    → tooth_so_far s (seen ++ record { number = number; edge = edge } ∷ []) ≡ tooth_so_far s seen ++ answers

-- and so does an edge of a tooth-gap channel
pub tooth-edge-adds : (setup : ChannelSetup) (number : ℕ) (channel : ToothChannel) (stretch : Option (List NumberedEdge)) (edge : Edge) (answers : List Report)
    → LinkStandsFor setup (link.Tooth channel) stretch → AddsDowns channel number edge answers
    → resumed setup number stretch (item.Edge edge ∷ []) ≡ resumed setup number stretch [] ++ answers
unfolding reports_from stretch_reports
tooth-edge-adds (Sent line s layout serial) number channel None edge answers stands adds = absurd stands
tooth-edge-adds (Sent line s layout serial) number channel (Some seen) edge answers stands adds = absurd stands
tooth-edge-adds (Psi5 line s slots init) number channel None edge answers stands adds = absurd stands
tooth-edge-adds (Psi5 line s slots init) number channel (Some seen) edge answers stands adds = absurd stands
tooth-edge-adds (Spc line s) number channel None edge answers stands adds = absurd stands
tooth-edge-adds (Spc line s) number channel (Some seen) edge answers stands adds = absurd stands
tooth-edge-adds (Tooth line s) number channel None edge answers stands adds = absurd stands
tooth-edge-adds (Tooth line s) number channel (Some seen) edge answers stands adds = adds s seen stands

none-reported : (s : Settings) (layout : Layout) (serial : Serial) → sent_reports layout serial [] (sent_reading s []) ≡ []
unfolding sent_reports read_past
none-reported s layout serial = refl

no-bursts-reported : (s : frames.Settings) (slots : Option SyncSlots) (init : Option ℕ) → psi5_so_far s slots init [] ≡ []
unfolding psi5_so_far burst_reports
no-bursts-reported s slots init = ap (burst_reports s init []) (none-told s slots)

-- no edges have no reports
pub stretch-none : (setup : ChannelSetup) → stretch_reports setup [] ≡ []
unfolding stretch_reports
stretch-none (Sent line s layout serial) = none-reported s layout serial
stretch-none (Psi5 line s slots init) = no-bursts-reported s slots init
stretch-none (Spc line s) = spc-none s
stretch-none (Tooth line s) = tooth-none s

-- a link of these edges that hasn't ended
pub is-open : (setup : ChannelSetup) (l : Link) → LinkStandsFor setup l None → l ≡ link.Ended
is-open (Sent line s layout serial) (link.Sent channel) stands = absurd stands
is-open (Sent line s layout serial) (link.Psi5 channel) stands = absurd stands
is-open (Sent line s layout serial) (link.Spc channel) stands = absurd stands
is-open (Sent line s layout serial) (link.Tooth channel) stands = absurd stands
is-open (Sent line s layout serial) link.Ended stands = refl
is-open (Psi5 line s slots init) (link.Sent channel) stands = absurd stands
is-open (Psi5 line s slots init) (link.Psi5 channel) stands = absurd stands
is-open (Psi5 line s slots init) (link.Spc channel) stands = absurd stands
is-open (Psi5 line s slots init) (link.Tooth channel) stands = absurd stands
is-open (Psi5 line s slots init) link.Ended stands = refl
is-open (Spc line s) (link.Sent channel) stands = absurd stands
is-open (Spc line s) (link.Psi5 channel) stands = absurd stands
is-open (Spc line s) (link.Spc channel) stands = absurd stands
is-open (Spc line s) (link.Tooth channel) stands = absurd stands
is-open (Spc line s) link.Ended stands = refl
is-open (Tooth line s) (link.Sent channel) stands = absurd stands
is-open (Tooth line s) (link.Psi5 channel) stands = absurd stands
is-open (Tooth line s) (link.Spc channel) stands = absurd stands
is-open (Tooth line s) (link.Tooth channel) stands = absurd stands
is-open (Tooth line s) link.Ended stands = refl

-- a link that reads hasn't ended
pub no-sent : (channel : SentChannel) → link.Sent channel ≢ link.Ended
no-sent channel ended = absurd cc

pub no-psi5 : (channel : Psi5Channel) → link.Psi5 channel ≢ link.Ended
no-psi5 channel ended = absurd cc

pub no-spc : (channel : SpcChannel) → link.Spc channel ≢ link.Ended
no-spc channel ended = absurd cc

pub no-tooth : (channel : ToothChannel) → link.Tooth channel ≢ link.Ended
no-tooth channel ended = absurd cc

-- a gap adds its report
pub gap-adds : (setup : ChannelSetup) (number : ℕ) (l : Link) (stretch : Option (List NumberedEdge)) (first count : ℕ)
    → LinkStandsFor setup l stretch → l ≢ link.Ended
    → resumed setup number stretch (item.Gap first count ∷ []) ≡ resumed setup number stretch [] ++ report first (what.Gap count) ∷ []
unfolding reports_from
gap-adds setup number l None first count stands goes_on = absurd (goes_on (is-open setup l stands))
gap-adds setup number l (Some seen) first count stands goes_on =
    ap (λ r. stretch_reports setup seen ++ report first (what.Gap count) ∷ r) (stretch-none setup)

-- the end adds no report to those of a SENT channel
pub end-adds : (setup : ChannelSetup) (number : ℕ) (channel : SentChannel) (stretch : Option (List NumberedEdge)) → LinkStandsFor setup (link.Sent channel) stretch
    → resumed setup number stretch (item.End ∷ []) ≡ resumed setup number stretch []
unfolding reports_from end_reports
end-adds (Sent line s layout serial) number channel None stands = absurd stands
end-adds (Sent line s layout serial) number channel (Some seen) stands = append-nil (stretch_reports (Sent line s layout serial) seen)
end-adds (Psi5 line s slots init) number channel None stands = absurd stands
end-adds (Psi5 line s slots init) number channel (Some seen) stands = absurd stands
end-adds (Spc line s) number channel None stands = absurd stands
end-adds (Spc line s) number channel (Some seen) stands = absurd stands
end-adds (Tooth line s) number channel None stands = absurd stands
end-adds (Tooth line s) number channel (Some seen) stands = absurd stands

-- the end adds these reports to those of any edges that the PSI5 channel stands for
abbrev pub EndsBursts : Psi5Channel → List Report → Type 0
EndsBursts channel answers = (s : frames.Settings) (slots : Option SyncSlots) (init : Option ℕ) (seen : List NumberedEdge) → StandsForBursts s slots init channel seen
    → psi5_at_end s slots init seen ≡ psi5_so_far s slots init seen ++ answers

-- and those of the last burst to those of a PSI5 channel
pub psi5-end-adds : (setup : ChannelSetup) (number : ℕ) (channel : Psi5Channel) (stretch : Option (List NumberedEdge)) (answers : List Report) → LinkStandsFor setup (link.Psi5 channel) stretch → EndsBursts channel answers
    → resumed setup number stretch (item.End ∷ []) ≡ resumed setup number stretch [] ++ answers
unfolding reports_from stretch_reports end_reports
psi5-end-adds (Sent line s layout serial) number channel None answers stands ends = absurd stands
psi5-end-adds (Sent line s layout serial) number channel (Some seen) answers stands ends = absurd stands
psi5-end-adds (Psi5 line s slots init) number channel None answers stands ends = absurd stands
psi5-end-adds (Psi5 line s slots init) number channel (Some seen) answers stands ends =
    ap (λ l. psi5_so_far s slots init seen ++ l) (grown-by (psi5_so_far s slots init seen) (psi5_at_end s slots init seen) answers (ends s slots init seen stands))
psi5-end-adds (Spc line s) number channel None answers stands ends = absurd stands
psi5-end-adds (Spc line s) number channel (Some seen) answers stands ends = absurd stands
psi5-end-adds (Tooth line s) number channel None answers stands ends = absurd stands
psi5-end-adds (Tooth line s) number channel (Some seen) answers stands ends = absurd stands

-- and that of a trigger without an answer to those of an SPC channel
pub spc-end-adds : (setup : ChannelSetup) (number : ℕ) (channel : SpcChannel) (stretch : Option (List NumberedEdge)) (answers : List Report) → LinkStandsFor setup (link.Spc channel) stretch
    → ((s : spc_setup.Settings) (seen : List NumberedEdge) → StandsForAnswers s channel seen → answers ≡ spc_end s seen)
    → resumed setup number stretch (item.End ∷ []) ≡ resumed setup number stretch [] ++ answers
unfolding reports_from stretch_reports end_reports
spc-end-adds (Sent line s layout serial) number channel None answers stands ends = absurd stands
spc-end-adds (Sent line s layout serial) number channel (Some seen) answers stands ends = absurd stands
spc-end-adds (Psi5 line s slots init) number channel None answers stands ends = absurd stands
spc-end-adds (Psi5 line s slots init) number channel (Some seen) answers stands ends = absurd stands
spc-end-adds (Spc line s) number channel None answers stands ends = absurd stands
spc-end-adds (Spc line s) number channel (Some seen) answers stands ends = ap (λ l. spc_so_far s seen ++ l) (sym (ends s seen stands))
spc-end-adds (Tooth line s) number channel None answers stands ends = absurd stands
spc-end-adds (Tooth line s) number channel (Some seen) answers stands ends = absurd stands

-- and none to those of a tooth-gap channel
pub tooth-end-adds : (setup : ChannelSetup) (number : ℕ) (channel : ToothChannel) (stretch : Option (List NumberedEdge)) → LinkStandsFor setup (link.Tooth channel) stretch
    → resumed setup number stretch (item.End ∷ []) ≡ resumed setup number stretch []
unfolding reports_from end_reports
tooth-end-adds (Sent line s layout serial) number channel None stands = absurd stands
tooth-end-adds (Sent line s layout serial) number channel (Some seen) stands = absurd stands
tooth-end-adds (Psi5 line s slots init) number channel None stands = absurd stands
tooth-end-adds (Psi5 line s slots init) number channel (Some seen) stands = absurd stands
tooth-end-adds (Spc line s) number channel None stands = absurd stands
tooth-end-adds (Spc line s) number channel (Some seen) stands = absurd stands
tooth-end-adds (Tooth line s) number channel None stands = absurd stands
tooth-end-adds (Tooth line s) number channel (Some seen) stands = append-nil (stretch_reports (Tooth line s) seen)

-- and none behind another end
pub ended-adds : (setup : ChannelSetup) (number : ℕ) (stretch : Option (List NumberedEdge)) → LinkStandsFor setup link.Ended stretch
    → resumed setup number stretch (item.End ∷ []) ≡ resumed setup number stretch []
ended-adds setup number None stands = refl
ended-adds (Sent line s layout serial) number (Some seen) stands = absurd stands
ended-adds (Psi5 line s slots init) number (Some seen) stands = absurd stands
ended-adds (Spc line s) number (Some seen) stands = absurd stands
ended-adds (Tooth line s) number (Some seen) stands = absurd stands

-- a cut adds no report
pub cut-adds : (setup : ChannelSetup) (number : ℕ) (stretch : Option (List NumberedEdge)) → resumed setup number stretch (item.Cut ∷ []) ≡ resumed setup number stretch []
unfolding reports_from
cut-adds setup number None = refl
cut-adds setup number (Some seen) = refl

-- an item that changes no report adds none
pub no-more : (setup : ChannelSetup) (number : ℕ) (stretch : Option (List NumberedEdge)) (taken : Item)
    → resumed setup number stretch (taken ∷ []) ≡ resumed setup number stretch [] → resumed setup number stretch (taken ∷ []) ≡ resumed setup number stretch [] ++ []
no-more setup number stretch taken e = e ∙ sym (append-nil (resumed setup number stretch []))

-- a receiver with so many edges more, whose link stands for the open edges with the item, stands for the item as well
pub receiver-more : (setup : ChannelSetup) (old : Receiver) (number : ℕ) (next : Link) (seen : List Item) (taken : Item)
    → StandsFor setup old seen → number ≡ old.number + edges_counted (taken ∷ []) → number ≤ 2 ^ 60 → LinkStandsFor setup next (open_with old.number (open_stretch seen) taken)
    → StandsFor setup (record { number = number; link = next }) (seen ++ taken ∷ [])
receiver-more setup old number next seen taken before counted few stands = record {
  few = few;
  numbered = counted ∙ ap (λ n. n + edges_counted (taken ∷ [])) before.numbered ∙ sym (counted-more seen taken);
  reads = subst (λ (s : Option (List NumberedEdge)). LinkStandsFor setup next s) (sym (open_stretch-more seen taken))
      (subst (λ (n : ℕ). LinkStandsFor setup next (open_with n (open_stretch seen) taken)) before.numbered stands);
}

-- what an item adds, where the number of the next edge is a receiver's
abbrev pub AddsAt : ChannelSetup → ℕ → List Item → Item → List Report → Type 0
AddsAt setup number seen taken answers = resumed setup number (open_stretch seen) (taken ∷ []) ≡ resumed setup number (open_stretch seen) [] ++ answers

-- the reports of a receiver's items grow by what one item more adds to those of its open edges
pub receiver-grows : (setup : ChannelSetup) (old : Receiver) (seen : List Item) (taken : Item) (answers : List Report)
    → StandsFor setup old seen → AddsAt setup old.number seen taken answers → so_far setup (seen ++ taken ∷ []) ≡ so_far setup seen ++ answers
receiver-grows setup old seen taken answers before adds = so_far-more setup seen taken answers (subst (λ (n : ℕ). AddsAt setup n seen taken answers) before.numbered adds)

-- a receiver whose link stands for no edges, with the number 0, stands for no items
pub receiver-none : (setup : ChannelSetup) (link : Link) → LinkStandsFor setup link (Some []) → StandsFor setup (record { number = 0; link = link }) []
unfolding open_stretch open_from
receiver-none setup link stands = record { numbered = refl; few = omega arith; reads = stands }

-- one edge more stays within 2^60
pub few-edge : (setup : ChannelSetup) (seen : List Item) (old : Receiver) (taken : Item) (edge : Edge) → StandsFor setup old seen → taken ≡ item.Edge edge → IsTakeable (edges_counted seen) taken → old.number + 1 ≤ 2 ^ 60
few-edge setup seen old taken edge before is may =
    let may_edge : IsTakeable (edges_counted seen) (item.Edge edge) = subst (λ (t : Item). IsTakeable (edges_counted seen) t) is may in
    omega (arith, may_edge.1, before.numbered)

-- and so does a gap
pub few-gap : (setup : ChannelSetup) (seen : List Item) (old : Receiver) (taken : Item) (first count : ℕ) → StandsFor setup old seen → taken ≡ item.Gap first count → IsTakeable (edges_counted seen) taken → old.number + count ≤ 2 ^ 60
few-gap setup seen old taken first count before is may =
    let may_gap : IsTakeable (edges_counted seen) (item.Gap first count) = subst (λ (t : Item). IsTakeable (edges_counted seen) t) is may in
    omega (arith, may_gap, before.numbered)

-- where the end changes no report and none was there, it adds none
pub none-added : (setup : ChannelSetup) (number : ℕ) (stretch : Option (List NumberedEdge)) (reports : List Report) → resumed setup number stretch (item.End ∷ []) ≡ resumed setup number stretch [] → reports ≡ []
    → resumed setup number stretch (item.End ∷ []) ≡ resumed setup number stretch [] ++ reports
none-added setup number stretch reports same none = same ∙ sym (append-nil (resumed setup number stretch [])) ∙ ap (λ l. resumed setup number stretch [] ++ l) (sym none)

-- ---- a gap: a channel that forgets its edges stands for none
pub sent-gap : (setup : ChannelSetup) (number first count : ℕ) (old new : SentChannel) (stretch : Option (List NumberedEdge)) → LinkStandsFor setup (link.Sent old) stretch → ((s : Settings) (layout : Layout) (serial : Serial) (seen : List NumberedEdge) → StandsForStretch s layout serial old seen → StandsForStretch s layout serial new [])
    → LinkStandsFor setup (link.Sent new) (open_with number stretch (item.Gap first count))
sent-gap (Sent line s layout serial) number first count old new None stands forgets = absurd stands
sent-gap (Sent line s layout serial) number first count old new (Some seen) stands forgets = forgets s layout serial seen stands
sent-gap (Psi5 line s slots init) number first count old new None stands forgets = absurd stands
sent-gap (Psi5 line s slots init) number first count old new (Some seen) stands forgets = absurd stands
sent-gap (Spc line s) number first count old new None stands forgets = absurd stands
sent-gap (Spc line s) number first count old new (Some seen) stands forgets = absurd stands
sent-gap (Tooth line s) number first count old new None stands forgets = absurd stands
sent-gap (Tooth line s) number first count old new (Some seen) stands forgets = absurd stands

pub psi5-gap : (setup : ChannelSetup) (number first count : ℕ) (old new : Psi5Channel) (stretch : Option (List NumberedEdge)) → LinkStandsFor setup (link.Psi5 old) stretch → ((s : frames.Settings) (slots : Option SyncSlots) (init : Option ℕ) (seen : List NumberedEdge) → StandsForBursts s slots init old seen → StandsForBursts s slots init new [])
    → LinkStandsFor setup (link.Psi5 new) (open_with number stretch (item.Gap first count))
psi5-gap (Sent line s layout serial) number first count old new None stands forgets = absurd stands
psi5-gap (Sent line s layout serial) number first count old new (Some seen) stands forgets = absurd stands
psi5-gap (Psi5 line s slots init) number first count old new None stands forgets = absurd stands
psi5-gap (Psi5 line s slots init) number first count old new (Some seen) stands forgets = forgets s slots init seen stands
psi5-gap (Spc line s) number first count old new None stands forgets = absurd stands
psi5-gap (Spc line s) number first count old new (Some seen) stands forgets = absurd stands
psi5-gap (Tooth line s) number first count old new None stands forgets = absurd stands
psi5-gap (Tooth line s) number first count old new (Some seen) stands forgets = absurd stands

pub spc-gap : (setup : ChannelSetup) (number first count : ℕ) (old new : SpcChannel) (stretch : Option (List NumberedEdge)) → LinkStandsFor setup (link.Spc old) stretch → ((s : spc_setup.Settings) (seen : List NumberedEdge) → StandsForAnswers s old seen → StandsForAnswers s new [])
    → LinkStandsFor setup (link.Spc new) (open_with number stretch (item.Gap first count))
spc-gap (Sent line s layout serial) number first count old new None stands forgets = absurd stands
spc-gap (Sent line s layout serial) number first count old new (Some seen) stands forgets = absurd stands
spc-gap (Psi5 line s slots init) number first count old new None stands forgets = absurd stands
spc-gap (Psi5 line s slots init) number first count old new (Some seen) stands forgets = absurd stands
spc-gap (Spc line s) number first count old new None stands forgets = absurd stands
spc-gap (Spc line s) number first count old new (Some seen) stands forgets = forgets s seen stands
spc-gap (Tooth line s) number first count old new None stands forgets = absurd stands
spc-gap (Tooth line s) number first count old new (Some seen) stands forgets = absurd stands

pub tooth-gap : (setup : ChannelSetup) (number first count : ℕ) (old new : ToothChannel) (stretch : Option (List NumberedEdge)) → LinkStandsFor setup (link.Tooth old) stretch → ((s : downlink.Settings) (seen : List NumberedEdge) → StandsForRises s old seen → StandsForRises s new [])
    → LinkStandsFor setup (link.Tooth new) (open_with number stretch (item.Gap first count))
tooth-gap (Sent line s layout serial) number first count old new None stands forgets = absurd stands
tooth-gap (Sent line s layout serial) number first count old new (Some seen) stands forgets = absurd stands
tooth-gap (Psi5 line s slots init) number first count old new None stands forgets = absurd stands
tooth-gap (Psi5 line s slots init) number first count old new (Some seen) stands forgets = absurd stands
tooth-gap (Spc line s) number first count old new None stands forgets = absurd stands
tooth-gap (Spc line s) number first count old new (Some seen) stands forgets = absurd stands
tooth-gap (Tooth line s) number first count old new None stands forgets = absurd stands
tooth-gap (Tooth line s) number first count old new (Some seen) stands forgets = forgets s seen stands
