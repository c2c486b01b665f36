-- How the edges of an SPC line are read (Infineon's SPC, in outline alone; the rules, and where reading goes on, are this project's own). The levels of a line alternate, so the edge before a fall is a rise or an opening with level high, and the edge behind a fall is a rise.
use Rattle.std.specs.Prelude.{ℕ, zero, suc, ◌-◌, ◌*◌, List, [], ◌∷◌, ◌++◌, Bool, not, ◌&&◌, nat_le, if◌then◌else◌, Option, None, Some, position}
use Rattle.line_base.specs.Edges.{NumberedEdge}
use Rattle.line_base.specs.Readings.{Found, read_past, end_past, skipped, ended}
use Rattle.line_base.specs.Readings.Found.{Waiting}
use Rattle.line_base.specs.declared.edge.Edge.{Edge}
use Rattle.line_base.specs.declared.edge.Span.{Span}
use Rattle.line_base.specs.declared.rule.Rule.TheVariants as rule
use Rattle.sent_frame.specs.declared.frame.SentStep.{SentStep}
use Rattle.sent_frame.specs.declared.frame.SentStep.TheVariants as sent
use Rattle.sent_frame.specs.Pulses.{Pulse, falls_in, pulses_after}
use Rattle.sent_frame.specs.Reading.{Values, Carried, Broken, Short, values_of, may_calibrate, place_at, checked_over}
use Rattle.spc_link.specs.declared.step.SpcStep.{SpcStep}
use Rattle.spc_link.specs.declared.step.SpcStep.TheVariants.{Nothing, Good, Bad, NoAnswer}
use Rattle.spc_link.specs.Setup.{Settings}

-- the edge is a fall, and the edge before it, at this time, is the quiet time earlier or more
abbrev pub is_after_quiet : Settings → ℕ → Edge → Bool
is_after_quiet s before edge = not edge.level && nat_le (s.quiet * s.sent.tick) (10 * (edge.time - before))

-- so many ns lie in this span of tenths of this tick, in ns, both ends included
abbrev pub lasts : ℕ → Span → ℕ → Bool
lasts tick span length = nat_le (span.low * tick) (10 * length) && nat_le (10 * length) (span.high * tick)

-- the code that a trigger of so many ns asks for: the number of its window, counted from 0, if it is in one
abbrev pub code_of : Settings → ℕ → Option ℕ
code_of s width = position (λ window. lasts s.sent.tick window width) s.windows

-- what an answer to this code says, where it is this as a frame of SENT
abbrev pub answered : ℕ → SentStep → SpcStep
answered code sent.Nothing = Nothing
answered code (sent.Good place frame) = Good place code frame
answered code (sent.Bad place rule) = Bad place rule

-- how many of these edges stand before the fall that comes behind so many falls
abbrev pub edges_before : ℕ → List NumberedEdge → ℕ
edges_before count [] = 0
edges_before zero (e ∷ edges) = if e.edge.level then suc (edges_before zero edges) else 0
edges_before (suc count) (e ∷ edges) = if e.edge.level then suc (edges_before (suc count) edges) else suc (edges_before count edges)

-- a report at the fall that ends an answer's pulse with this number, counted from 0, where these edges come behind the answer's first fall; that fall is read again, and may begin a trigger
abbrev pub at_fall : SpcStep → ℕ → List NumberedEdge → Found SpcStep (Unit {0})
at_fall report pulse edges = ended report (suc (suc (edges_before pulse edges)))

-- what the pulses behind an answer's calibration pulse come to, by what they say
abbrev pub frame_of : Settings → ℕ → List NumberedEdge → List Pulse → Values → Found SpcStep (Unit {0})
frame_of s code edges pulses (Carried values) = at_fall (answered code (checked_over s.cover s.sent (place_at pulses (suc s.sent.nibbles)) values)) (suc (suc s.sent.nibbles)) edges
frame_of s code edges pulses (Broken count broken) = at_fall (Bad broken.place rule.NibbleRange) (suc count) edges
frame_of s code edges pulses Short = Waiting []

-- what the pulses of an answer come to: a calibration pulse, and then the status, the data nibbles and the CRC
abbrev pub answer_of : Settings → ℕ → List NumberedEdge → List Pulse → Found SpcStep (Unit {0})
answer_of s code edges [] = Waiting []
answer_of s code edges (calibration ∷ pulses) =
    if may_calibrate s.sent calibration
    then frame_of s code edges pulses (values_of calibration.length (suc (suc s.sent.nibbles)) pulses)
    else at_fall (Bad calibration.place rule.NoCalibration) 0 edges

-- what comes behind a trigger with a code, by the fall behind its rise: nobody has answered, and this fall begins the next trigger; or the answer begins there; or it comes too soon or too late
abbrev pub after_trigger : Settings → ℕ → NumberedEdge → List NumberedEdge → Found SpcStep (Unit {0})
after_trigger s code rise [] = Waiting (NoAnswer rise.number code ∷ [])
after_trigger s code rise (start ∷ edges) =
    if is_after_quiet s rise.edge.time start.edge then ended (NoAnswer rise.number code) 1
    else (if lasts s.sent.tick s.delay (start.edge.time - rise.edge.time) then answer_of s code edges (pulses_after start.edge.time (falls_in edges))
    else ended (Bad start.number rule.Delay) 2)

-- what a trigger begins that asks for this code, or for none
abbrev pub by_code : Settings → NumberedEdge → List NumberedEdge → Option ℕ → Found SpcStep (Unit {0})
by_code s rise edges None = ended (Bad rise.number rule.TriggerWidth) 1
by_code s rise edges (Some code) = after_trigger s code rise edges

-- what a trigger begins that has this fall: the next edge is its rise
abbrev pub triggered : Settings → NumberedEdge → List NumberedEdge → Found SpcStep (Unit {0})
triggered s fall [] = Waiting []
triggered s fall (rise ∷ edges) = by_code s rise edges (code_of s (rise.edge.time - fall.edge.time))

-- what stands behind an edge, outside a transaction: a fall after quiet begins one
unfoldable pub found : Settings → Unit {0} → NumberedEdge → List NumberedEdge → Found SpcStep (Unit {0})
found s due before [] = Waiting []
found s due before (edge ∷ edges) = if is_after_quiet s before.edge.time edge.edge then triggered s edge edges else skipped

-- the reports of a line's edges, the first of which is an opening, so far
abbrev pub spc_reading : Settings → List NumberedEdge → List SpcStep
spc_reading s edges = read_past (found s) 0 tt edges

-- what the end adds: a trigger with a code that no edge follows has no answer
abbrev pub spc_ends : Settings → List NumberedEdge → List SpcStep
spc_ends s edges = end_past (found s) 0 tt edges

-- the reports of a line's edges that have ended
abbrev pub spc_at_end : Settings → List NumberedEdge → List SpcStep
spc_at_end s edges = spc_reading s edges ++ spc_ends s edges

-- the report of a step, if there is one
abbrev pub steps_of : SpcStep → List SpcStep
steps_of Nothing = []
steps_of (Good place code frame) = Good place code frame ∷ []
steps_of (Bad place rule) = Bad place rule ∷ []
steps_of (NoAnswer place code) = NoAnswer place code ∷ []
