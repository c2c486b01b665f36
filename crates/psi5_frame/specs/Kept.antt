-- What a burst reader has kept of the edges that it has seen; this project's own.
use Rattle.std.specs.Prelude.{◌≡◌, ℕ, ◌+◌, ◌-◌, ◌*◌, ◌/◌, ◌≤◌, Bool, true, false, nat_le, if◌then◌else◌, option_to_list, None, Some, List, [], ◌∷◌, ◌++◌, length}
use Rattle.line_base.specs.Edges.{NumberedEdge}
use Rattle.link_math.specs.Manchester.{halves_in}
use Rattle.psi5_frame.specs.declared.burst.BurstStep.{BurstStep}
use Rattle.psi5_frame.specs.declared.open.OpenBurst.{OpenBurst}
use Rattle.psi5_frame.specs.declared.open.OpenBurst.TheVariants.{Sound, Violated}
use Rattle.psi5_frame.specs.declared.reader.State.{State}
use Rattle.psi5_frame.specs.declared.reader.State.TheVariants.{Fresh, Skipping, Open}
use Rattle.psi5_frame.specs.Intervals.{is_quiet}
use Rattle.psi5_frame.specs.Setup.{Settings, bit_count}
use Rattle.psi5_frame.specs.Edges.{Change, changes_of, changes_after}
use Rattle.psi5_frame.specs.Bursts.{last_of, place_after, has_place, edge_fault, burst_bits, begins, has_start, complete_bursts, starts_in}

-- no edge of a burst violates a rule so far, and these are its last edge's number, level and place, and the bits that it says
pub record IsSound (bits number : ℕ) (level : Bool) (place : ℕ) (said : List Bool) (first : Change) (later : List Change) : Type 0 where
  pub unbroken : edge_fault bits first later ≡ None
  pub number_is : (last_of first later).number ≡ number
  pub level_is : (last_of first later).level ≡ level
  pub place_is : place_after 1 later ≡ place
  pub whole_is : has_place (2 * bits - 1) 1 later ≡ nat_le (2 * bits - 1) place
  pub bits_are : burst_bits first later ≡ said

-- what is kept of a burst agrees with its edges
abbrev pub Agrees : ℕ → OpenBurst → Change → List Change → Type 0
Agrees bits (Sound number level place said) first later = IsSound bits number level place said first later
Agrees bits (Violated place rule) first later = edge_fault bits first later ≡ Some (record { place = place; rule = rule })

-- a place within a frame of so many bits, and as many bits as are said up to it
pub record IsPlace (bits place : ℕ) (said : List Bool) : Type 0 where
  pub some : 1 ≤ place
  pub few : place ≤ 2 * bits
  pub as_many : length said ≡ (place + 1) / 2

-- what can be kept of a burst
abbrev pub IsOpenBurst : ℕ → OpenBurst → Type 0
IsOpenBurst bits (Sound number level place said) = IsPlace bits place said
IsOpenBurst bits (Violated place rule) = Unit {0}

-- a reader can have this state
abbrev pub IsState : Settings → State → Type 0
IsState s Fresh = Unit {0}
IsState s (Skipping time) = Unit {0}
IsState s (Open time burst) = IsOpenBurst (bit_count s) burst

-- a reader with this setup can have this state, and counts the bits of a frame so
pub record IsKeptBy (s : Settings) (count : ℕ) (state : State) : Type 0 where
  pub counted : count ≡ bit_count s
  pub valid : IsState s state

-- the changes that the next edges are
unfoldable pub next_changes : ℕ → State → List NumberedEdge → List Change
next_changes bit Fresh edges = changes_of bit edges
next_changes bit (Skipping time) edges = changes_after bit time edges
next_changes bit (Open time burst) edges = changes_after bit time edges

-- these changes end in a burst that isn't complete, with which what is kept agrees
pub record EndsInBurst (bits : ℕ) (burst : OpenBurst) (seen : List Change) : Type 0 where
  pub before : List Change
  pub first : Change
  pub later : List Change
  pub stands : seen ≡ before ++ first ∷ later
  pub starts : begins first ≡ true
  pub goes_on : has_start later ≡ false
  pub agrees : Agrees bits burst first later

-- what is kept agrees with these changes
abbrev pub AgreesWith : Settings → State → List Change → Type 0
AgreesWith s Fresh seen = seen ≡ []
AgreesWith s (Skipping time) seen = has_start seen ≡ false
AgreesWith s (Open time burst) seen = EndsInBurst (bit_count s) burst seen

-- an edge at this time begins anew what a reader has kept: it is the first of all, or a quiet interval stands before it
abbrev pub StartsAnew : ℕ → State → ℕ → Type 0
StartsAnew bit Fresh time = Unit {0}
StartsAnew bit (Skipping before) time = is_quiet (halves_in (time - before) bit) ≡ true
StartsAnew bit (Open before burst) time = is_quiet (halves_in (time - before) bit) ≡ true

-- the numbers of the edges that began a burst, by an answer to the edge of this number
abbrev pub began_at : ℕ → BurstStep → List ℕ
began_at number step = if step.began then number ∷ [] else []

-- one more edge leads to this answer, and what is kept then agrees
pub record Leads (s : Settings) (state next : State) (e : NumberedEdge) (seen : List Change) (step : BurstStep) : Type 0 where
  pub arrived : List Change
  pub measured : (edges : List NumberedEdge) → next_changes s.bit state (e ∷ edges) ≡ arrived ++ next_changes s.bit next edges
  pub agreed : AgreesWith s next (seen ++ arrived)
  pub grows : complete_bursts s (seen ++ arrived) ≡ complete_bursts s seen ++ option_to_list step.ended
  pub began : starts_in (seen ++ arrived) ≡ starts_in seen ++ began_at e.number step

-- what an edge is answered that is the first of no burst
abbrev pub nothing : BurstStep
nothing = record { ended = None; began = false }
