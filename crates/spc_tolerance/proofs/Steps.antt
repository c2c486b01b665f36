-- What a reading does at the next edge of a line, by what stands there; its reports are taken with those that the end adds.
--     over_edge, over_report, over_last       an edge that is passed, a report, the end
--     at_passed, at_trigger, at_silent, at_answer      what stands there
use Rattle.std.proofs.Common.{◌≡◌, ℕ, zero, suc, ◌-◌, List, [], ◌∷◌, ◌++◌, true, false, Some, drop, refl, ap, ap₂, ◌∙◌}
use Rattle.line_base.specs.Edges.{NumberedEdge}
use Rattle.line_base.specs.Readings.{ended, end_on, end_past, go_on, read_past, skipped}
use Rattle.line_base.specs.Readings.Found.{Waiting}
use Rattle.line_base.proofs.Readings.{end-first, end-nil, end-waits, read-first, read-nil, read-waits}
use Rattle.sent_frame.specs.Pulses.{falls_in, pulses_after}
use Rattle.spc_link.specs.declared.step.SpcStep.{SpcStep}
use Rattle.spc_link.specs.declared.step.SpcStep.TheVariants.{NoAnswer}
use Rattle.spc_link.specs.Setup.{Settings}
use Rattle.spc_link.specs.Reading.{after_trigger, answer_of, by_code, code_of, found, is_after_quiet, lasts, spc_at_end, spc_ends, spc_reading, triggered}

pub read_none : (s : Settings) → spc_at_end s [] ≡ []
read_none s = ap₂ (λ (reports ends : List SpcStep). reports ++ ends) (read-nil (found s) tt) (end-nil (found s) tt)

read_skip : (s : Settings) (count : ℕ) (edges : List NumberedEdge) → read_past (found s) count tt edges ≡ spc_reading s (drop count edges)
unfolding read_past
read_skip s zero edges = refl
read_skip s (suc count) [] = refl
read_skip s (suc count) (e ∷ edges) = read_skip s count edges

end_skip : (s : Settings) (count : ℕ) (edges : List NumberedEdge) → end_past (found s) count tt edges ≡ spc_ends s (drop count edges)
unfolding end_past
end_skip s zero edges = refl
end_skip s (suc count) [] = refl
end_skip s (suc count) (e ∷ edges) = end_skip s count edges

pub over_edge : (s : Settings) (before : NumberedEdge) (edges : List NumberedEdge) → found s tt before edges ≡ skipped → spc_at_end s (before ∷ edges) ≡ spc_at_end s edges
over_edge s before edges e =
    ap₂ (λ (reports ends : List SpcStep). reports ++ ends)
    (read-first (found s) tt before edges ∙ ap (λ f. go_on f (λ used next. read_past (found s) used next edges)) e)
    (end-first (found s) tt before edges ∙ ap (λ f. end_on f (λ used next. end_past (found s) used next edges)) e)

pub over_report : (s : Settings) (before : NumberedEdge) (edges : List NumberedEdge) (report : SpcStep) (used : ℕ) → found s tt before edges ≡ ended report used
    → spc_at_end s (before ∷ edges) ≡ report ∷ spc_at_end s (drop used edges)
over_report s before edges report used e =
    ap₂ (λ (reports ends : List SpcStep). reports ++ ends)
    (read-first (found s) tt before edges ∙ ap (λ f. go_on f (λ used next. read_past (found s) used next edges)) e ∙ ap (λ rest. report ∷ rest) (read_skip s used edges))
    (end-first (found s) tt before edges ∙ ap (λ f. end_on f (λ used next. end_past (found s) used next edges)) e ∙ end_skip s used edges)

pub over_last : (s : Settings) (before : NumberedEdge) (edges : List NumberedEdge) (ends : List SpcStep) → found s tt before edges ≡ Waiting ends → spc_at_end s (before ∷ edges) ≡ ends
over_last s before edges ends e =
    ap₂ (λ (reports last : List SpcStep). reports ++ last) (read-waits (found s) tt before edges ends e) (end-waits (found s) tt before edges ends e)

-- ---- what stands there
pub at_last : (s : Settings) (before : NumberedEdge) → found s tt before [] ≡ Waiting []
unfolding found
at_last s before = refl

pub at_passed : (s : Settings) (before e : NumberedEdge) (edges : List NumberedEdge) → is_after_quiet s before.edge.time e.edge ≡ false → found s tt before (e ∷ edges) ≡ skipped
unfolding found
at_passed s before e edges passed = rw passed refl

at_fall_after_quiet : (s : Settings) (before fall : NumberedEdge) (edges : List NumberedEdge) → is_after_quiet s before.edge.time fall.edge ≡ true → found s tt before (fall ∷ edges) ≡ triggered s fall edges
unfolding found
at_fall_after_quiet s before fall edges quiet = rw quiet refl

pub at_trigger : (s : Settings) (before fall rise : NumberedEdge) (code : ℕ) (edges : List NumberedEdge) → is_after_quiet s before.edge.time fall.edge ≡ true → code_of s (rise.edge.time - fall.edge.time) ≡ Some code
    → found s tt before (fall ∷ rise ∷ edges) ≡ after_trigger s code rise edges
at_trigger s before fall rise code edges quiet asks = at_fall_after_quiet s before fall (rise ∷ edges) quiet ∙ ap (by_code s rise edges) asks

pub at_silent : (s : Settings) (code : ℕ) (rise next : NumberedEdge) (edges : List NumberedEdge) → is_after_quiet s rise.edge.time next.edge ≡ true → after_trigger s code rise (next ∷ edges) ≡ ended (NoAnswer rise.number code) 1
at_silent s code rise next edges quiet = rw quiet refl

pub at_answer : (s : Settings) (code : ℕ) (rise start : NumberedEdge) (edges : List NumberedEdge) → is_after_quiet s rise.edge.time start.edge ≡ false → lasts s.sent.tick s.delay (start.edge.time - rise.edge.time) ≡ true
    → after_trigger s code rise (start ∷ edges) ≡ answer_of s code edges (pulses_after start.edge.time (falls_in edges))
at_answer s code rise start edges passed inside = rw (passed, inside) refl
