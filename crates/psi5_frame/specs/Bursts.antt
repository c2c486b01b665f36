-- The bursts of a PSI5 data line, and what each of them says. The rules and their order are this project's own.
use Rattle.std.specs.Prelude.{ℕ, ◌+◌, ◌-◌, ◌*◌, ◌%◌, Bool, false, ◌&&◌, ◌||◌, not, nat_eq, nat_lt, if◌then◌else◌, Option, None, Some, List, [], ◌∷◌, ◌++◌, take, drop, map, filter}
use Rattle.std.specs.List.{list_any, before_first}
use Rattle.line_base.specs.Edges.{NumberedEdge}
use Rattle.line_base.specs.declared.rule.Rule.{Rule}
use Rattle.line_base.specs.declared.rule.Rule.TheVariants as rule
use Rattle.link_math.specs.declared.manchester.Halves.{Halves}
use Rattle.link_math.specs.Division.{number_of}
use Rattle.psi5_frame.specs.declared.burst.Burst.{Burst}
use Rattle.psi5_frame.specs.declared.burst.Burst.TheVariants.{Good, Bad}
use Rattle.psi5_frame.specs.Intervals.{half_bits, is_short, is_two, is_quiet}
use Rattle.psi5_frame.specs.Setup.{Settings, bit_count, payload_width}
use Rattle.psi5_frame.specs.Edges.{Change, changes_of}
use Rattle.psi5_frame.specs.Frames.{check_number, payload_of}

-- ---- one burst: its first edge, which stands at half-bit 1, and the edges after it

-- the place is the boundary of two bits, and not the middle of one
abbrev pub is_even : ℕ → Bool
is_even place = nat_eq (place % 2) 0

-- the last of these edges
abbrev pub last_of : Change → List Change → Change
last_of first [] = first
last_of first (next ∷ later) = last_of next later

-- the place of the last of these edges in half-bits, where the edge before them is at this place
unfoldable pub place_after : ℕ → List Change → ℕ
place_after before [] = before
place_after before (edge ∷ later) = place_after (before + half_bits edge.interval) later

-- one of these edges is at this place, where the edge before them is at that one
unfoldable pub has_place : ℕ → ℕ → List Change → Bool
has_place place before [] = false
has_place place before (edge ∷ later) = nat_eq (before + half_bits edge.interval) place || has_place place (before + half_bits edge.interval) later

-- the bit that an edge at this place says: in the middle of a bit a rise is 0 and a fall is 1, and between two bits it says none
abbrev pub bit_at : ℕ → Bool → List Bool
bit_at place level = if is_even place then [] else not level ∷ []

-- the bits that these edges say, where the edge before them is at this place
unfoldable pub bits_after : ℕ → List Change → List Bool
bits_after before [] = []
bits_after before (edge ∷ later) = bit_at (before + half_bits edge.interval) edge.level ++ bits_after (before + half_bits edge.interval) later

-- the bits that the edges of a burst say
abbrev pub burst_bits : Change → List Change → List Bool
burst_bits first later = not first.level ∷ bits_after 1 later

-- the rule with the least number that an edge violates, in a frame of so many bits, where the edge before it is at this place
abbrev pub fault_at : ℕ → ℕ → Halves → Bool → Option Rule
fault_at bits before interval level =
    if is_short interval then Some rule.TooShort
    else (if is_two interval && is_even before then Some rule.Phase
    else (if nat_eq (before + half_bits interval) 3 && not level then Some rule.StartBit
    else (if nat_lt (2 * bits) (before + half_bits interval) || (nat_eq (before + half_bits interval) (2 * bits) && level) then Some rule.TooLong
    else None)))

-- a violated rule, and the number of the edge that violates it
pub record Violation : Type 0 where
  pub place : ℕ
  pub rule : Rule

-- the violation at the edge of this number, if there is one, else that of later edges
abbrev pub first_of : ℕ → Option Rule → Option Violation → Option Violation
first_of number None later = later
first_of number (Some rule) later = Some (record { place = number; rule = rule })

-- the first violation by one of these edges, in a frame of so many bits, where the edge before them is at this place
unfoldable pub fault_after : ℕ → ℕ → List Change → Option Violation
fault_after bits before [] = None
fault_after bits before (edge ∷ later) =
    first_of edge.number (fault_at bits before edge.interval edge.level) (fault_after bits (before + half_bits edge.interval) later)

-- the first violation by an edge of the burst: its first edge is a rise
abbrev pub edge_fault : ℕ → Change → List Change → Option Violation
edge_fault bits first later = if first.level then fault_after bits 1 later else Some (record { place = first.number; rule = rule.FirstFall })

-- what these bits say, a frame's after its two start bits: good where the check is that of the payload
unfoldable pub checked : Settings → ℕ → List Bool → Burst
checked s place bits =
    if nat_eq (number_of (drop (payload_width s.parts) bits)) (check_number s.check (take (payload_width s.parts) bits))
    then Good place (payload_of s.parts bits)
    else Bad place rule.Psi5Check

-- what a burst says none of whose edges violates a rule, by its last edge: the middle of the last bit has to be there, and the line to be low after it
abbrev pub concluded : Settings → Bool → Change → List Bool → Burst
concluded s is_whole last bits =
    if not is_whole then Bad last.number rule.TooFew
    else (if last.level then Bad last.number rule.EndsHigh
    else checked s last.number (drop 2 bits))

-- the violation, if there is one, else what the whole burst says
abbrev pub judged_by : Option Violation → Burst → Burst
judged_by None whole = whole
judged_by (Some violation) whole = Bad violation.place violation.rule

-- what a burst says: its payload, or the first rule that is violated, by edge and then by the rule's number
unfoldable pub judged : Settings → Change → List Change → Burst
judged s first later =
    judged_by (edge_fault (bit_count s) first later)
    (concluded s (has_place (2 * bit_count s - 1) 1 later) (last_of first later) (burst_bits first later))

-- ---- the bursts of a line

-- an edge behind a quiet interval is the first of a burst that is read
abbrev pub begins : Change → Bool
begins edge = is_quiet edge.interval

-- one of these edges is the first of a burst that is read
unfoldable pub has_start : List Change → Bool
has_start edges = list_any begins edges

-- the edges before the next burst: those that go on with the burst of the edge before them
unfoldable pub run_of : List Change → List Change
run_of edges = before_first begins edges

-- what the bursts say that are complete among these edges: the first edge of another follows
unfoldable pub complete_bursts : Settings → List Change → List Burst
complete_bursts s [] = []
complete_bursts s (edge ∷ later) = if begins edge && has_start later then judged s edge (run_of later) ∷ complete_bursts s later else complete_bursts s later

-- what all bursts say once the line has ended, where the last is complete too
unfoldable pub all_bursts : Settings → List Change → List Burst
all_bursts s [] = []
all_bursts s (edge ∷ later) = if begins edge then judged s edge (run_of later) ∷ all_bursts s later else all_bursts s later

-- the numbers of the edges that are the first of a burst that is read
unfoldable pub starts_in : List Change → List ℕ
starts_in edges = map (λ (edge : Change). edge.number) (filter begins edges)

-- what the bursts of a line's edges say so far
abbrev pub bursts_so_far : Settings → List NumberedEdge → List Burst
bursts_so_far s edges = complete_bursts s (changes_of s.bit edges)

-- what the bursts of a line's edges say at its end
abbrev pub bursts_at_end : Settings → List NumberedEdge → List Burst
bursts_at_end s edges = all_bursts s (changes_of s.bit edges)

-- the numbers of the edges of a line that are the first of a burst that is read
abbrev pub burst_starts : Settings → List NumberedEdge → List ℕ
burst_starts s edges = starts_in (changes_of s.bit edges)
