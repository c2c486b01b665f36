-- The pulses of an answer among recorded edges.
--     pulses_begin        they are heard
--     fall_index          how many edges stand before the fall that ends a pulse
--     fall_number         the place of a pulse is that fall's number
use Rattle.std.proofs.Common.{◌≡◌, ℕ, zero, suc, ◌+◌, ◌*◌, ◌<◌, List, [], ◌∷◌, ◌++◌, true, false, length, refl, ap, sym, ◌∙◌, subst, arith}
use Rattle.line_base.specs.Edges.{NumberedEdge}
use Rattle.sent_frame.specs.Pulses.{Fall, falls_in, pulses_after}
use Rattle.sent_frame.specs.Reading.{place_at}
use Rattle.spc_link.specs.Setup.{Settings}
use Rattle.spc_link.specs.Reading.{edges_before}
use Rattle.link_tolerance.specs.Recorded.{IsRecorded}
use Rattle.link_tolerance.proofs.HeardPulses.{heard_between}
use Rattle.spc_tolerance.specs.Trains.{AnswerRise, IdealEdge, answer_edges}
use Rattle.link_tolerance.specs.Pulses.{falls_behind}
use Rattle.spc_tolerance.specs.Traces.{AreRecordedAs}
use Rattle.spc_tolerance.specs.FromFirst.{number_at}
use Rattle.spc_tolerance.proofs.HeardAnswers.{BeginHeard}

-- the falls that end pulses of these lengths are recorded, behind a fall at this ideal time, with a rise before each
abbrev pub AreFallsRecorded : Settings → ℕ → List ℕ → List IdealEdge → List NumberedEdge → Type 0
AreFallsRecorded s last lengths more edges = AreRecordedAs s (AnswerRise ∷ (answer_edges (falls_behind last lengths) ++ more)) edges

falls_pair : (rise fall : NumberedEdge) (edges : List NumberedEdge) → rise.edge.level ≡ true → fall.edge.level ≡ false → falls_in (rise ∷ fall ∷ edges) ≡ record { number = fall.number; time = fall.edge.time } ∷ falls_in edges
falls_pair rise fall edges up down = rw (up, down) refl

pub pulses_begin : (s : Settings) (lengths : List ℕ) (last before : ℕ) (more : List IdealEdge) (edges : List NumberedEdge) → IsRecorded s.sent.jitter last before → AreFallsRecorded s last lengths more edges
    → BeginHeard s.sent.jitter lengths (pulses_after before (falls_in edges))
unfolding falls_behind
pulses_begin s [] last before more edges there recorded = tt
pulses_begin s (sent ∷ lengths) last before more [] there recorded = absurd recorded
pulses_begin s (sent ∷ lengths) last before more (rise ∷ []) there recorded = absurd recorded.2
pulses_begin s (sent ∷ lengths) last before more (rise ∷ fall ∷ edges) there recorded =
    let at_fall = recorded.2.0.1 in
    subst (λ (falls : List Fall). BeginHeard s.sent.jitter (sent ∷ lengths) (pulses_after before falls)) (sym (falls_pair rise fall edges recorded.0 recorded.2.0.0))
    (heard_between s.sent.jitter last sent before fall.edge.time there at_fall, pulses_begin s lengths (last + sent) fall.edge.time more edges at_fall recorded.2.2)

-- ---- the places of its falls
first_pair : (rise fall : NumberedEdge) (edges : List NumberedEdge) → rise.edge.level ≡ true → fall.edge.level ≡ false → edges_before zero (rise ∷ fall ∷ edges) ≡ 1
first_pair rise fall edges up down = rw (up, down) refl

next_pair : (count : ℕ) (rise fall : NumberedEdge) (edges : List NumberedEdge) → rise.edge.level ≡ true → fall.edge.level ≡ false → edges_before (suc count) (rise ∷ fall ∷ edges) ≡ suc (suc (edges_before count edges))
next_pair count rise fall edges up down = rw (up, down) refl

pub fall_index : (s : Settings) (lengths : List ℕ) (last : ℕ) (more : List IdealEdge) (count : ℕ) (edges : List NumberedEdge) → count < length lengths → AreFallsRecorded s last lengths more edges → edges_before count edges ≡ suc (2 * count)
unfolding falls_behind
fall_index s [] last more count edges within recorded = absurd (omega arith)
fall_index s (sent ∷ lengths) last more count [] within recorded = absurd recorded
fall_index s (sent ∷ lengths) last more count (rise ∷ []) within recorded = absurd recorded.2
fall_index s (sent ∷ lengths) last more zero (rise ∷ fall ∷ edges) within recorded = first_pair rise fall edges recorded.0 recorded.2.0.0
fall_index s (sent ∷ lengths) last more (suc count) (rise ∷ fall ∷ edges) within recorded =
    let later = fall_index s lengths (last + sent) more count edges (omega arith) recorded.2.2 in
    next_pair count rise fall edges recorded.0 recorded.2.0.0 ∙ omega (arith, later)

pub fall_number : (s : Settings) (lengths : List ℕ) (last before : ℕ) (more : List IdealEdge) (count : ℕ) (edges : List NumberedEdge) → count < length lengths → AreFallsRecorded s last lengths more edges
    → place_at (pulses_after before (falls_in edges)) count ≡ number_at edges (suc (2 * count))
unfolding falls_behind
fall_number s [] last before more count edges within recorded = absurd (omega arith)
fall_number s (sent ∷ lengths) last before more count [] within recorded = absurd recorded
fall_number s (sent ∷ lengths) last before more count (rise ∷ []) within recorded = absurd recorded.2
fall_number s (sent ∷ lengths) last before more zero (rise ∷ fall ∷ edges) within recorded =
    ap (λ (falls : List Fall). place_at (pulses_after before falls) zero) (falls_pair rise fall edges recorded.0 recorded.2.0.0)
fall_number s (sent ∷ lengths) last before more (suc count) (rise ∷ fall ∷ edges) within recorded =
    let index : suc (suc (suc (2 * count))) ≡ suc (2 * suc count) = omega arith in
    ap (λ (falls : List Fall). place_at (pulses_after before falls) (suc count)) (falls_pair rise fall edges recorded.0 recorded.2.0.0)
    ∙ fall_number s lengths (last + sent) fall.edge.time more count edges (omega arith) recorded.2.2
    ∙ ap (number_at (rise ∷ fall ∷ edges)) index
