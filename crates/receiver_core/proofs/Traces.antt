-- What a channel reports of an honest trace is exactly its messages, from the first whole frame on.
--     honest-final      the final reports
--     honest-front      those of a trace that stopped earlier
use Rattle.std.proofs.Common.{◌≡◌, ℕ, ◌+◌, Option, List, [], ◌∷◌, ◌++◌, drop, flat_map, length, map, sym, ap, subst, ◌∙◌, append-nil, append_assoc}
use Rattle.std.proofs.Math.Seq.{drop-append_seam}
use Rattle.std.proofs.lemmas.Grind.{flat_map-append}
use Rattle.std.proofs.lemmas.List.{map-append}
use Rattle.line_base.specs.Edges.{NumberedEdge}
use Rattle.line_base.specs.Streams.{IsFrontOf}
use Rattle.line_base.proofs.Fronts.{IsFrontOf-trans}
use Rattle.line_base.specs.declared.edge.Edge.{Edge}
use Rattle.line_base.specs.declared.edge.Item.{Item}
use Rattle.line_base.specs.declared.edge.Item.TheVariants as item
use Rattle.receiver_core.specs.declared.message.Message.{Message}
use Rattle.receiver_core.specs.declared.report.Report.{Report}
use Rattle.receiver_core.specs.declared.setup.ChannelSetup.{ChannelSetup}
use Rattle.receiver_core.specs.declared.setup.ChannelSetup.TheVariants.{Sent, Psi5, Spc, Tooth}
use Rattle.receiver_core.specs.Channels.{stretch_reports, end_reports, reports_from, so_far, final}
use Rattle.receiver_core.specs.Traces.{IsHonest, from_first, numbered}
use Rattle.receiver_core.proofs.ReportFronts.{final-front, so_far-front}
use Rattle.receiver_core.proofs.SentTraces.{sent-trace}
use Rattle.psi5_frame.specs.Setup.{Settings}
use Rattle.psi5_downlink.specs.Setup as tooth
use Rattle.spc_link.specs.Setup as spc
use Rattle.spc_link.specs.Reading.{spc_reading, spc_ends}
use Rattle.spc_tolerance.proofs.HeardTrains.{read_honest as read_transactions}
use Rattle.psi5_downlink_tolerance.proofs.ReadTrains.{read_honest}
use Rattle.receiver_core.specs.SpcReports.{answer_report, spc_so_far, spc_end}
use Rattle.receiver_core.specs.SpcTraces.{IsSpcTrace, spc_from_first, spc_message_in}
use Rattle.receiver_core.specs.declared.setup.SyncSlots.{SyncSlots}
use Rattle.receiver_core.specs.Psi5Reports.{burst_reports, psi5_so_far, psi5_at_end}
use Rattle.receiver_core.specs.Psi5Traces.{IsPsi5Trace, psi5_from_first, psi5_message_in}
use Rattle.receiver_core.specs.ToothReports.{down_report, rises_of, tooth_so_far}
use Rattle.receiver_core.specs.ToothTraces.{IsToothTrace, down_in, opened_at, tooth_from_first}
use Rattle.receiver_core.proofs.Psi5Stretches.{end-front}
use Rattle.receiver_core.proofs.Psi5Traces.{honest-told}

-- ---- edges alone are one stretch
edges-end : (setup : ChannelSetup) (number : ℕ) (stretch : List NumberedEdge) (edges : List Edge)
    → reports_from setup number stretch (map item.Edge edges ++ item.End ∷ []) ≡ stretch_reports setup (stretch ++ numbered number edges) ++ end_reports setup (stretch ++ numbered number edges)
unfolding reports_from numbered
edges-end setup number stretch [] = ap (λ l. stretch_reports setup l ++ end_reports setup l) (sym (append-nil stretch))
edges-end setup number stretch (edge ∷ edges) =
    let first : NumberedEdge = record { number = number; edge = edge } in
    edges-end setup (number + 1) (stretch ++ first ∷ []) edges
    ∙ ap (λ l. stretch_reports setup l ++ end_reports setup l) (append_assoc stretch (first ∷ []) (numbered (number + 1) edges))

-- the final reports of edges alone
edges-final : (setup : ChannelSetup) (edges : List Edge) → final setup (map item.Edge edges) ≡ stretch_reports setup (numbered 0 edges) ++ end_reports setup (numbered 0 edges)
unfolding final so_far
edges-final setup edges = edges-end setup 0 [] edges

-- ---- the law
-- of PSI5: at the end the frames are told
psi5-trace : (s : Settings) (slots : Option SyncSlots) (init : Option ℕ) (messages : List Message) (edges : List NumberedEdge) → IsPsi5Trace s slots messages edges
    → psi5_at_end s slots init edges ≡ psi5_from_first s slots init messages edges
unfolding psi5_at_end
psi5-trace s slots init messages edges trace = ap (burst_reports s init []) (honest-told s slots (flat_map psi5_message_in messages) edges trace.honest)

-- of SPC: what is read so far, and what the end adds
spc-trace : (s : spc.Settings) (messages : List Message) (edges : List NumberedEdge) → IsSpcTrace s messages edges → spc_so_far s edges ++ spc_end s edges ≡ spc_from_first s messages edges
unfolding spc_so_far spc_end
spc-trace s messages edges trace =
    sym (flat_map-append answer_report (spc_reading s edges) (spc_ends s edges))
    ∙ ap (flat_map answer_report) (read_transactions s (flat_map spc_message_in messages) edges trace.honest)

-- of the tooth gap
tooth-trace : (s : tooth.Settings) (messages : List Message) (edges : List NumberedEdge) → IsToothTrace s messages edges → tooth_so_far s edges ≡ tooth_from_first s messages edges
unfolding tooth_so_far
tooth-trace s messages edges trace = ap (flat_map down_report) (read_honest s (flat_map down_in messages) (opened_at edges) (rises_of edges) trace.honest)

-- of one stretch
stretch-trace : (setup : ChannelSetup) (messages : List Message) (edges : List Edge) → IsHonest setup messages edges
    → stretch_reports setup (numbered 0 edges) ++ end_reports setup (numbered 0 edges) ≡ from_first setup messages edges
unfolding stretch_reports end_reports
stretch-trace (Sent line setup layout serial) messages edges honest = append-nil _ ∙ sent-trace setup layout serial messages (numbered 0 edges) honest
stretch-trace (Psi5 line setup slots init) messages edges honest =
    let front = end-front setup slots init (numbered 0 edges) in
    ap (λ l. psi5_so_far setup slots init (numbered 0 edges) ++ l) (ap (drop (length (psi5_so_far setup slots init (numbered 0 edges)))) front.is ∙ drop-append_seam (psi5_so_far setup slots init (numbered 0 edges)) front.rest)
    ∙ sym front.is
    ∙ psi5-trace setup slots init messages (numbered 0 edges) honest
stretch-trace (Spc line setup) messages edges honest = spc-trace setup messages (numbered 0 edges) honest
stretch-trace (Tooth line setup) messages edges honest = append-nil _ ∙ tooth-trace setup messages (numbered 0 edges) honest

pub honest-final : (setup : ChannelSetup) (messages : List Message) (edges : List Edge) → IsHonest setup messages edges → final setup (map item.Edge edges) ≡ from_first setup messages edges
honest-final setup messages edges honest = edges-final setup edges ∙ stretch-trace setup messages edges honest

pub honest-front : (setup : ChannelSetup) (messages : List Message) (edges more : List Edge) → IsHonest setup messages (edges ++ more) → IsFrontOf (so_far setup (map item.Edge edges)) (from_first setup messages (edges ++ more))
honest-front setup messages edges more honest =
    let whole = map item.Edge (edges ++ more) in
    let front = subst (λ items. IsFrontOf (so_far setup (map item.Edge edges)) (so_far setup items)) (sym (map-append item.Edge edges more)) (so_far-front setup (map item.Edge edges) (map item.Edge more)) in
    subst (λ reports. IsFrontOf (so_far setup (map item.Edge edges)) reports) (honest-final setup messages (edges ++ more) honest) (IsFrontOf-trans front (final-front setup whole))

-- ---- the receiver
-- with the end the reports are those of the messages
pub tolerance-end : (setup : ChannelSetup) (messages : List Message) (edges : List Edge) (taken : Item) (reports : List Report)
    → so_far setup (map item.Edge edges ++ taken ∷ []) ≡ so_far setup (map item.Edge edges) ++ reports → taken ≡ item.End → IsHonest setup messages edges
    → so_far setup (map item.Edge edges) ++ reports ≡ from_first setup messages edges
unfolding final
tolerance-end setup messages edges taken reports grows ends honest =
    sym grows ∙ ap (λ t. so_far setup (map item.Edge edges ++ t ∷ [])) ends ∙ honest-final setup messages edges honest

-- before it they are the first of these
pub tolerance-edge : (setup : ChannelSetup) (messages : List Message) (edges more : List Edge) (edge : Edge) (taken : Item) (reports : List Report)
    → so_far setup (map item.Edge edges ++ taken ∷ []) ≡ so_far setup (map item.Edge edges) ++ reports → taken ≡ item.Edge edge → IsHonest setup messages (edges ++ edge ∷ more)
    → IsFrontOf (so_far setup (map item.Edge edges) ++ reports) (from_first setup messages (edges ++ edge ∷ more))
tolerance-edge setup messages edges more edge taken reports grows is honest =
    let longer : edges ++ edge ∷ more ≡ (edges ++ edge ∷ []) ++ more = sym (append_assoc edges (edge ∷ []) more) in
    let items : map item.Edge (edges ++ edge ∷ []) ≡ map item.Edge edges ++ taken ∷ [] = map-append item.Edge edges (edge ∷ []) ∙ ap (λ t. map item.Edge edges ++ t ∷ []) (sym is) in
    let front = honest-front setup messages (edges ++ edge ∷ []) more (subst (λ l. IsHonest setup messages l) longer honest) in
    subst (λ l. IsFrontOf l (from_first setup messages (edges ++ edge ∷ more))) (ap (so_far setup) items ∙ grows)
    (subst (λ l. IsFrontOf (so_far setup (map item.Edge (edges ++ edge ∷ []))) (from_first setup messages l)) (sym longer) front)
