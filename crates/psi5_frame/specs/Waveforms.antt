-- When a burst is the waveform of a frame (the Manchester code: PSI5 V2.1, base standard).
use Rattle.std.specs.Prelude.{◌≡◌, ℕ, ◌+◌, Bool, true, not, List, [], ◌∷◌}
use Rattle.link_math.specs.declared.manchester.Halves.{Halves}
use Rattle.link_math.specs.declared.manchester.Halves.TheVariants.{Short, One, Two, Quiet}
use Rattle.psi5_frame.specs.declared.burst.Payload.{Payload}
use Rattle.psi5_frame.specs.Intervals.{half_bits}
use Rattle.psi5_frame.specs.Setup.{Settings}
use Rattle.psi5_frame.specs.Edges.{Change}
use Rattle.psi5_frame.specs.Frames.{Fits, frame_of, waveform}

-- the interval is one or two half-bits
abbrev pub IsStep : Halves → Type 0
IsStep Short = ⊥
IsStep One = Unit {0}
IsStep Two = Unit {0}
IsStep Quiet = ⊥

-- each of these edges is one or two half-bits behind the one before it
abbrev pub AreSteps : List Change → Type 0
AreSteps [] = Unit {0}
AreSteps (edge ∷ later) = IsStep edge.interval × AreSteps later

-- the levels alternate, behind an edge to this level
abbrev pub Alternate : Bool → List Change → Type 0
Alternate before [] = Unit {0}
Alternate before (edge ∷ later) = (edge.level ≡ not before) × Alternate edge.level later

-- the places of these edges in half-bits, where the edge before them is at this place
unfoldable pub places_after : ℕ → List Change → List ℕ
places_after before [] = []
places_after before (edge ∷ later) = (before + half_bits edge.interval) ∷ places_after (before + half_bits edge.interval) later

-- a burst is the waveform of the frame of this payload: it begins with a rise, nothing in it is too short, and its edges stand at the places of the waveform, the first at half-bit 1
pub record IsFrameBurst (s : Settings) (first : Change) (later : List Change) (payload : Payload) : Type 0 where
  pub fits : Fits s.parts payload
  pub rises : first.level ≡ true
  pub steps : AreSteps later
  pub places : 1 ∷ places_after 1 later ≡ waveform (frame_of s payload)
