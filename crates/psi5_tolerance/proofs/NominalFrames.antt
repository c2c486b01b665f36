-- Frames with nominal half-bits that are recorded without jitter are all read.
--     nominal-read      behind an opening that is early enough
use Rattle.std.proofs.Common.{◌≡◌, ℕ, ◌-◌, None, Some, List, [], ◌∷◌, length, map, drop, refl, sym, ◌∙◌, ap, subst, arith}
use Rattle.psi5_frame.specs.Setup.{Settings, fault_of}
use Rattle.psi5_frame.specs.Edges.{changes_of, changes_after}
use Rattle.link_tolerance.specs.Recorded.{AreRecorded}
use Rattle.psi5_tolerance.specs.Lines.{data_edges, told_edges}
use Rattle.psi5_tolerance.specs.Trains.{Burst, SentBefore, message_of, IdealEdge, ideal_edges, nothing_sent, IsTrainBehind}
use Rattle.psi5_tolerance.specs.Traces.{on_data, ideal_times}
use Rattle.psi5_tolerance.specs.FromFirst.{heard_from, edges_in, recorded_in, heard_of, from_first, bursts_in, said}
use Rattle.psi5_tolerance.specs.Exact.{exact_from, exact_trace, NominalBurst, nominal_train, nominal_messages, AreNominal, StartsQuietly}
use Rattle.psi5_tolerance.proofs.Intervals.{bounds-accepted}
use Rattle.psi5_tolerance.proofs.RecordedFrames.{AreEdges, edges-recorded, length-edges}
use Rattle.psi5_tolerance.proofs.HeardFrames.{next_begins}
use Rattle.psi5_tolerance.proofs.DataLines.{total-edges, all-told}
use Rattle.psi5_tolerance.proofs.ExactTraces.{one_line, all_data, all-recorded, nominal_behind, nominal-train, nominal-says}
use Rattle.psi5_tolerance.proofs.RestOfFrames.{all_said}

-- a frame ended at the opening, for all that is seen of it
abbrev at_opening : SentBefore
at_opening = record { frame_end = Some 0; sync = None; slot = None }

train_behind : (s : Settings) (bursts : List NominalBurst) → AreNominal s bursts → StartsQuietly s bursts → IsTrainBehind s None at_opening (nominal_train s bursts)
train_behind s [] nominal quiet = tt
train_behind s (burst ∷ bursts) nominal quiet = nominal_behind s at_opening burst bursts (omega (arith, quiet)) nominal

only_bursts : (bursts : List NominalBurst) → bursts_in (nominal_messages bursts) ≡ nominal_messages bursts
only_bursts [] = refl
only_bursts (burst ∷ bursts) = ap (λ l. Burst None burst.payload ∷ l) (only_bursts bursts)

exact-data : (line : ℕ) (s : Settings) (bursts : List NominalBurst) → fault_of s.bit s.parts s.jitter ≡ None → AreNominal s bursts
    → AreEdges s.jitter (on_data (ideal_edges s (nominal_train s bursts))) (data_edges None (exact_from line None 1 (ideal_edges s (nominal_train s bursts))))
exact-data line s bursts accepted nominal =
    let ideals = ideal_edges s (nominal_train s bursts) in
    let one = one_line line 1 ideals in
    let all = all_data s nothing_sent (nominal_train s bursts) (nominal-train s bursts nominal) in
    subst (λ (l : List IdealEdge). AreEdges s.jitter l (data_edges None (exact_from line None 1 ideals))) (sym all.all)
    (edges-recorded s.jitter ideals (data_edges None (exact_from line None 1 ideals))
    (subst (λ (l : List ℕ). AreRecorded s.jitter (ideal_times ideals) l) (sym one.times) (all-recorded s.jitter (ideal_times ideals) (bounds-accepted s accepted).least)) one.levels)

-- no edge is missing
none_missing : (line : ℕ) (s : Settings) (bursts : List NominalBurst) → fault_of s.bit s.parts s.jitter ≡ None → AreNominal s bursts
    → edges_in s (map message_of (nominal_train s bursts)) - recorded_in None (exact_trace line s None (nominal_train s bursts)) ≡ 0
none_missing line s bursts accepted nominal =
    let sent = nominal_train s bursts in
    let ideals = ideal_edges s sent in
    let all = all_data s nothing_sent sent (nominal-train s bursts nominal) in
    let long : length (data_edges None (exact_from line None 1 ideals)) ≡ length ideals =
    length-edges s.jitter (on_data ideals) (data_edges None (exact_from line None 1 ideals)) (exact-data line s bursts accepted nominal) ∙ ap length all.all in
    omega (arith, long, total-edges s sent)

heard_all : (line : ℕ) (s : Settings) (bursts : List NominalBurst) → fault_of s.bit s.parts s.jitter ≡ None → AreNominal s bursts → StartsQuietly s bursts
    → map said (heard_of s None (map message_of (nominal_train s bursts)) (exact_trace line s None (nominal_train s bursts))) ≡ bursts_in (map message_of (nominal_train s bursts))
unfolding heard_of changes_of
heard_all line s bursts accepted nominal quiet =
    let sent = nominal_train s bursts in
    let edges = data_edges None (exact_from line None 1 (ideal_edges s sent)) in
    let told = drop 1 (told_edges None (exact_trace line s None sent)) in
    let b = bounds-accepted s accepted in
    let train = train_behind s bursts nominal quiet in
    let recorded = exact-data line s bursts accepted nominal in
    ap (λ n. map said (heard_from s n (map message_of sent) (changes_after s.bit 0 edges) told)) (none_missing line s bursts accepted nominal)
    ∙ all_said s None at_opening sent 0 edges told b train recorded (next_begins s None at_opening sent 0 0 edges b train refl (omega arith) recorded)

pub nominal-read : (line : ℕ) (s : Settings) (bursts : List NominalBurst) → fault_of s.bit s.parts s.jitter ≡ None → AreNominal s bursts → StartsQuietly s bursts
    → map said (from_first s None (nominal_messages bursts) (exact_trace line s None (nominal_train s bursts))) ≡ nominal_messages bursts
nominal-read line s bursts accepted nominal quiet =
    let edges = exact_trace line s None (nominal_train s bursts) in
    let messages = nominal-says s bursts in
    ap (map said) (all-told s (nominal_messages bursts) edges)
    ∙ ap (λ l. map said (heard_of s None l edges)) (sym messages)
    ∙ heard_all line s bursts accepted nominal quiet ∙ ap bursts_in messages ∙ only_bursts bursts
