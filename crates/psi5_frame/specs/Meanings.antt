-- What each burst of a PSI5 data line stands for in its edges: a frame, or the first rule that is violated. The rules and their order are this project's own.
use Rattle.std.specs.Prelude.{◌≡◌, ◌≢◌, ℕ, ◌+◌, ◌-◌, ◌*◌, ◌%◌, ◌<◌, ◌≤◌, ◌⊎◌, Bool, true, false, List, [], ◌∷◌, ◌++◌, All, take, drop}
use Rattle.line_base.specs.declared.rule.Rule.{Rule}
use Rattle.line_base.specs.declared.rule.Rule.TheVariants as rule
use Rattle.link_math.specs.declared.manchester.Halves.TheVariants.{Short, Two, Quiet}
use Rattle.link_math.specs.Division.{number_of}
use Rattle.psi5_frame.specs.declared.burst.Payload.{Payload}
use Rattle.psi5_frame.specs.declared.burst.Burst.{Burst}
use Rattle.psi5_frame.specs.declared.burst.Burst.TheVariants.{Good, Bad}
use Rattle.psi5_frame.specs.Intervals.{half_bits}
use Rattle.psi5_frame.specs.Setup.{Settings, bit_count, payload_width}
use Rattle.psi5_frame.specs.Edges.{Change}
use Rattle.psi5_frame.specs.Frames.{Fits, check_number}
use Rattle.psi5_frame.specs.Waveforms.{Alternate, IsFrameBurst}
use Rattle.psi5_frame.specs.Bursts.{last_of, place_after, burst_bits}

-- nothing follows, or what follows begins with a quiet interval
abbrev pub IsQuietAfter : List Change → Type 0
IsQuietAfter [] = Unit {0}
IsQuietAfter (edge ∷ later) = edge.interval ≡ Quiet

-- a burst that is read among a line's edges: a longest run of them with no quiet interval between two, and one before the first
pub record IsRead (edges : List Change) (first : Change) (later : List Change) : Type 0 where
  pub before : List Change
  pub after : List Change
  pub stands : edges ≡ before ++ first ∷ (later ++ after)
  pub quiet_before : first.interval ≡ Quiet
  pub none_within : All (λ (edge : Change). edge.interval ≢ Quiet) later
  pub quiet_after : IsQuietAfter after

-- ---- the edges after the first

-- the interval before the edge isn't too short, and is two half-bits only where the edge before, at this place, is in the middle of a bit
pub record IsInPhase (before : ℕ) (edge : Change) : Type 0 where
  pub long_enough : edge.interval ≢ Short
  pub from_middle : edge.interval ≡ Two → before % 2 ≡ 1

-- the edge stands within the frame, at most at its end, and there only as a fall
pub record IsWithin (bits place : ℕ) (level : Bool) : Type 0 where
  pub not_later : place ≤ 2 * bits
  pub falls_at_end : place ≡ 2 * bits → level ≡ false

-- an edge violates no rule, in a frame of so many bits, where the edge before it is at this place: it is in phase, within the frame, and a rise in the middle of the second start bit
pub record IsRight (bits before : ℕ) (edge : Change) : Type 0 where
  pub in_phase : IsInPhase before edge
  pub start_bit : before + half_bits edge.interval ≡ 3 → edge.level ≡ true
  pub within : IsWithin bits (before + half_bits edge.interval) edge.level

-- no edge of a burst violates a rule: it begins with a rise, and each edge after it is right behind those before
pub record AreRight (bits : ℕ) (first : Change) (later : List Change) : Type 0 where
  pub rises : first.level ≡ true
  pub each : (front back : List Change) (edge : Change) → later ≡ front ++ edge ∷ back → IsRight bits (place_after 1 front) edge

-- an edge of a burst with this number is the first that isn't right, and this is so of it behind an edge at its place
pub record IsFirstWrong (bits : ℕ) (first : Change) (later : List Change) (number : ℕ) (Wrong : ℕ → Change → Type 0) : Type 0 where
  pub front : List Change
  pub edge : Change
  pub back : List Change
  pub stands : later ≡ front ++ edge ∷ back
  pub none_before : AreRight bits first front
  pub here : edge.number ≡ number
  pub wrong : Wrong (place_after 1 front) edge

-- the edge is a fall in the middle of the second start bit, which is 1 then
pub record IsFalseStart (before : ℕ) (edge : Change) : Type 0 where
  pub in_phase : IsInPhase before edge
  pub at_3 : before + half_bits edge.interval ≡ 3
  pub falls : edge.level ≡ false

-- the edge stands behind the frame's end, or at it and is a rise
pub record IsBeyond (bits before : ℕ) (edge : Change) : Type 0 where
  pub in_phase : IsInPhase before edge
  pub no_false_start : before + half_bits edge.interval ≡ 3 → edge.level ≡ true
  pub beyond : (2 * bits < before + half_bits edge.interval) ⊎ ((before + half_bits edge.interval ≡ 2 * bits) × (edge.level ≡ true))

-- ---- the whole burst

-- one of the edges after the first is at this place
pub record IsReached (place : ℕ) (later : List Change) : Type 0 where
  pub front : List Change
  pub edge : Change
  pub back : List Change
  pub stands : later ≡ front ++ edge ∷ back
  pub there : place_after 1 front + half_bits edge.interval ≡ place

-- the middle of a frame's last bit
abbrev pub last_middle : ℕ → ℕ
last_middle bits = 2 * bits - 1

-- the bits that the edges of a burst say, behind the two start bits
abbrev pub said_bits : Change → List Change → List Bool
said_bits first later = drop 2 (burst_bits first later)

-- the check that the edges of a burst say isn't that of the payload bits before it
abbrev pub HasWrongCheck : Settings → List Bool → Type 0
HasWrongCheck s said = number_of (drop (payload_width s.parts) said) ≢ check_number s.check (take (payload_width s.parts) said)

-- no edge of a whole burst is wrong, and this is its last edge's number
pub record IsRightUpTo (bits : ℕ) (first : Change) (later : List Change) (number : ℕ) : Type 0 where
  pub right : AreRight bits first later
  pub last : (last_of first later).number ≡ number

-- what it means that a burst violates this rule, at the edge of this number; the rules of other links aren't told
abbrev pub Violates : Settings → Change → List Change → ℕ → Rule → Type 0
Violates s first later number rule.FirstFall = (first.number ≡ number) × (first.level ≡ false)
Violates s first later number rule.TooShort = IsFirstWrong (bit_count s) first later number (λ before edge. edge.interval ≡ Short)
Violates s first later number rule.Phase = IsFirstWrong (bit_count s) first later number (λ before edge. (edge.interval ≡ Two) × (before % 2 ≡ 0))
Violates s first later number rule.StartBit = IsFirstWrong (bit_count s) first later number IsFalseStart
Violates s first later number rule.TooLong = IsFirstWrong (bit_count s) first later number (IsBeyond (bit_count s))
Violates s first later number rule.TooFew = IsRightUpTo (bit_count s) first later number × (IsReached (last_middle (bit_count s)) later → ⊥)
Violates s first later number rule.EndsHigh =
    IsRightUpTo (bit_count s) first later number × IsReached (last_middle (bit_count s)) later × ((last_of first later).level ≡ true)
Violates s first later number rule.Psi5Check =
    IsRightUpTo (bit_count s) first later number × IsReached (last_middle (bit_count s)) later × ((last_of first later).level ≡ false) × HasWrongCheck s (said_bits first later)
Violates s first later number rule.NoCalibration = ⊥
Violates s first later number rule.Drift = ⊥
Violates s first later number rule.NibbleRange = ⊥
Violates s first later number rule.Check = ⊥
Violates s first later number rule.PauseRange = ⊥
Violates s first later number rule.Copy = ⊥
Violates s first later number rule.Restart = ⊥
Violates s first later number rule.Zero13 = ⊥
Violates s first later number rule.Zero18 = ⊥
Violates s first later number rule.SerialCheck = ⊥
Violates s first later number rule.TriggerWidth = ⊥
Violates s first later number rule.Delay = ⊥
Violates s first later number rule.NoSync = ⊥
Violates s first later number rule.NoSlot = ⊥
Violates s first later number rule.SlotTwice = ⊥
Violates s first later number rule.InitOrder = ⊥
Violates s first later number rule.InitRepeat = ⊥
Violates s first later number rule.SyncBit = ⊥
Violates s first later number rule.DownCheck = ⊥
Violates s first later number rule.StartPattern = ⊥

-- a burst that is read there is the waveform of this payload's frame, where its levels alternate, and this is its last edge's number
pub record HasFrame (s : Settings) (edges : List Change) (number : ℕ) (payload : Payload) : Type 0 where
  pub first : Change
  pub later : List Change
  pub read : IsRead edges first later
  pub frame : Alternate first.level later → IsFrameBurst s first later payload
  pub last : (last_of first later).number ≡ number

-- a burst that is read there violates this rule, at the edge of this number
pub record HasViolation (s : Settings) (edges : List Change) (number : ℕ) (rule : Rule) : Type 0 where
  pub first : Change
  pub later : List Change
  pub read : IsRead edges first later
  pub violates : Violates s first later number rule

-- what a burst that is told of a line's edges stands for among them
abbrev pub Means : Settings → List Change → Burst → Type 0
Means s edges (Good number payload) = HasFrame s edges number payload
Means s edges (Bad number rule) = HasViolation s edges number rule

-- the values of a good burst fit the widths of their parts
abbrev pub BurstFits : Settings → Burst → Type 0
BurstFits s (Good number payload) = Fits s.parts payload
BurstFits s (Bad number rule) = Unit {0}
