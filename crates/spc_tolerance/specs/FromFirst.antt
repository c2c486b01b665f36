-- What is read of a trace, from the first transaction on whose trigger falls after quiet; this project's own.
use Rattle.std.specs.Prelude.{ℕ, zero, suc, ◌+◌, ◌-◌, ◌*◌, Bool, false, List, [], ◌∷◌, map, drop, slice_index, if◌then◌else◌}
use Rattle.line_base.specs.Edges.{NumberedEdge}
use Rattle.spc_link.specs.declared.step.SpcStep.{SpcStep}
use Rattle.spc_link.specs.declared.step.SpcStep.TheVariants.{Good, NoAnswer}
use Rattle.spc_link.specs.Setup.{Settings}
use Rattle.spc_link.specs.Reading.{is_after_quiet}
use Rattle.spc_tolerance.specs.Trains.{SpcMessage, Answer, Silent}

-- how many edges a message has: two of its trigger and, in an answer, two for its start, its calibration pulse, its status, each nibble and its CRC
abbrev pub edge_count : Settings → SpcMessage → ℕ
edge_count s (Answer code frame) = 2 * s.sent.nibbles + 10
edge_count s (Silent code) = 2

-- how many edges messages have
abbrev pub all_edges : Settings → List SpcMessage → ℕ
all_edges s [] = 0
all_edges s (message ∷ messages) = edge_count s message + all_edges s messages

-- how many edges these are, with the rise that is missing where the last is a fall
abbrev pub whole_count : List NumberedEdge → ℕ
whole_count [] = 0
whole_count (e ∷ []) = if e.edge.level then 1 else 2
whole_count (e ∷ next ∷ edges) = suc (whole_count (next ∷ edges))

-- the number of the edge at this place in the list, counted from 0
abbrev pub number_at : List NumberedEdge → ℕ → ℕ
number_at edges index = slice_index (map (λ (e : NumberedEdge). e.number) edges) index

-- the report of a message whose trigger falls at the second of these edges: at the fall that ends the CRC pulse, or at the rise of the trigger that nobody answers
abbrev pub step_of : Settings → List NumberedEdge → SpcMessage → SpcStep
step_of s edges (Answer code frame) = Good (number_at edges (2 * s.sent.nibbles + 9)) code frame
step_of s edges (Silent code) = NoAnswer (number_at edges 2) code

-- the reports of messages whose edges stand behind the first of these
unfoldable pub steps_from : Settings → List SpcMessage → List NumberedEdge → List SpcStep
steps_from s [] edges = []
steps_from s (message ∷ messages) edges = step_of s edges message ∷ steps_from s messages (drop (edge_count s message) edges)

-- the second of these edges is a fall after quiet
abbrev pub begins_quietly : Settings → List NumberedEdge → Bool
begins_quietly s [] = false
begins_quietly s (before ∷ []) = false
begins_quietly s (before ∷ fall ∷ edges) = is_after_quiet s before.edge.time fall.edge

-- what of these messages is reported, where the first so many of their edges aren't recorded and the others stand behind the first of these: all from the first on whose trigger falls after quiet
unfoldable pub heard_from : Settings → ℕ → List SpcMessage → List NumberedEdge → List SpcStep
heard_from s missing [] edges = []
heard_from s zero (message ∷ messages) edges =
    if begins_quietly s edges then steps_from s (message ∷ messages) edges else heard_from s zero messages (drop (edge_count s message) edges)
heard_from s (suc missing) (message ∷ messages) edges = heard_from s (suc missing - edge_count s message) messages (drop (edge_count s message - suc missing) edges)

-- what of these messages is reported of these edges, the first of which is an opening
unfoldable pub heard_of : Settings → List SpcMessage → List NumberedEdge → List SpcStep
heard_of s messages edges = heard_from s (all_edges s messages - whole_count (drop 1 edges)) messages edges
