-- What the reports of a PSI5 channel stand for in a stretch of its edges (bursts, slots and codes: PSI5 V2.1, base standard; breaks: this project's own).
use Rattle.std.specs.Prelude.{◌≡◌, ◌≢◌, ℕ, Option, None, Some, List, [], ◌∷◌, ◌++◌, length}
use Rattle.line_base.specs.Edges.{NumberedEdge}
use Rattle.line_base.specs.declared.rule.Rule.{Rule}
use Rattle.line_base.specs.declared.rule.Rule.TheVariants as rule
use Rattle.psi5_frame.specs.declared.burst.Payload.{Payload}
use Rattle.psi5_frame.specs.declared.burst.Burst.{Burst}
use Rattle.psi5_frame.specs.declared.burst.Burst.TheVariants.{Good, Bad}
use Rattle.psi5_frame.specs.Setup.{Settings}
use Rattle.psi5_frame.specs.Edges.{changes_of}
use Rattle.psi5_frame.specs.Bursts.{bursts_at_end}
use Rattle.psi5_frame.specs.Meanings.{HasFrame, HasViolation}
use Rattle.psi5_init.specs.declared.step.InitStep.{InitStep}
use Rattle.psi5_init.specs.declared.step.InitStep.TheVariants as step
use Rattle.psi5_init.specs.Codes.{class_in}
use Rattle.psi5_init.specs.Readings.{init_reading}
use Rattle.receiver_core.specs.declared.setup.SyncSlots.{SyncSlots}
use Rattle.receiver_core.specs.declared.psi5_burst.BurstPlace.{BurstPlace}
use Rattle.receiver_core.specs.declared.psi5_burst.BurstPlace.TheVariants as at
use Rattle.receiver_core.specs.declared.psi5_burst.Told.{Told}
use Rattle.receiver_core.specs.declared.psi5_burst.Told.TheVariants as told
use Rattle.receiver_core.specs.declared.report.What.{What}
use Rattle.receiver_core.specs.declared.report.What.TheVariants as what
use Rattle.receiver_core.specs.Psi5Places.{data_edges, starts_added, burst_place, burst_places}
use Rattle.receiver_core.specs.Psi5Reports.{code_of, codes_of, slot_number, told_at_end, told_past}

-- one of the bursts that begin among these edges says this, and stands there: as many places are before its own as bursts are before it
pub record IsBurstAt (s : Settings) (slots : Option SyncSlots) (edges : List NumberedEdge) (place : BurstPlace) (burst : Burst) : Type 0 where
  pub earlier_places : List BurstPlace
  pub later_places : List BurstPlace
  pub earlier : List Burst
  pub later : List Burst
  pub places : burst_places s slots edges ≡ earlier_places ++ place ∷ later_places
  pub bursts : bursts_at_end s (data_edges slots edges) ≡ earlier ++ burst ∷ later
  pub as_many : length earlier_places ≡ length earlier

-- one of these edges is the first of a burst that stands there, by the edges before it
pub record BeginsAt (s : Settings) (slots : Option SyncSlots) (edges : List NumberedEdge) (place : BurstPlace) : Type 0 where
  pub before : List NumberedEdge
  pub first : NumberedEdge
  pub after : List NumberedEdge
  pub stands : edges ≡ before ++ first ∷ after
  pub begins : starts_added s slots before first ≢ []
  pub there : burst_place s slots before first ≡ place

-- a burst at this place answers this slot, or none
abbrev pub Answers : BurstPlace → Option ℕ → Type 0
Answers at.Unread slot = ⊥
Answers at.Free None = Unit {0}
Answers at.Free (Some slot) = ⊥
Answers (at.Slot number) None = ⊥
Answers (at.Slot number) (Some slot) = slot ≡ number
Answers (at.Outside first wrong) slot = ⊥

-- a burst that is read is the frame of this payload, ends at this edge, and answers this slot by where it begins
pub record HasBurst (s : Settings) (slots : Option SyncSlots) (edges : List NumberedEdge) (number : ℕ) (slot : Option ℕ) (payload : Payload) : Type 0 where
  pub place : BurstPlace
  pub is_there : IsBurstAt s slots edges place (Good number payload)
  pub begins : BeginsAt s slots edges place
  pub answers : Answers place slot
  pub frame : HasFrame s (changes_of s.bit (data_edges slots edges)) number payload

-- a burst that is read violates this rule of bursts, at the edge of this number
pub record HasWrongBurst (s : Settings) (slots : Option SyncSlots) (edges : List NumberedEdge) (number : ℕ) (broken : Rule) : Type 0 where
  pub place : BurstPlace
  pub is_there : IsBurstAt s slots edges place (Bad number broken)
  pub begins : BeginsAt s slots edges place
  pub is_read : place ≢ at.Unread
  pub violation : HasViolation s (changes_of s.bit (data_edges slots edges)) number broken

-- a burst that is a frame begins at the edge of this number, and by that edge its place violates this rule of slots
pub record HasWrongPlace (s : Settings) (slots : Option SyncSlots) (edges : List NumberedEdge) (first : ℕ) (broken : Rule) : Type 0 where
  pub last : ℕ
  pub payload : Payload
  pub is_there : IsBurstAt s slots edges (at.Outside first broken) (Good last payload)
  pub begins : BeginsAt s slots edges (at.Outside first broken)

-- an initialisation is read, and the codes of a slot since the last break, with that of the burst that ends at this edge last, end in this step
pub record HasStep (s : Settings) (slots : Option SyncSlots) (init : Option ℕ) (edges : List NumberedEdge) (number : ℕ) (says : InitStep) : Type 0 where
  pub repeats : ℕ
  pub is_read : init ≡ Some repeats
  pub before : List Told
  pub slot : Option ℕ
  pub payload : Payload
  pub after : List Told
  pub stands : told_at_end s slots edges ≡ before ++ told.Good number slot payload ∷ after
  pub ends : init_reading repeats (codes_of (slot_number slot) (told_past [] before) ++ class_in payload.a ∷ [])
      ≡ init_reading repeats (codes_of (slot_number slot) (told_past [] before)) ++ says ∷ []

-- what a violated rule stands for; the rules of other links are never told
abbrev pub BurstRuleStands : Settings → Option SyncSlots → Option ℕ → List NumberedEdge → ℕ → Rule → Type 0
BurstRuleStands s slots init edges number rule.FirstFall = HasWrongBurst s slots edges number rule.FirstFall
BurstRuleStands s slots init edges number rule.TooShort = HasWrongBurst s slots edges number rule.TooShort
BurstRuleStands s slots init edges number rule.Phase = HasWrongBurst s slots edges number rule.Phase
BurstRuleStands s slots init edges number rule.StartBit = HasWrongBurst s slots edges number rule.StartBit
BurstRuleStands s slots init edges number rule.TooLong = HasWrongBurst s slots edges number rule.TooLong
BurstRuleStands s slots init edges number rule.TooFew = HasWrongBurst s slots edges number rule.TooFew
BurstRuleStands s slots init edges number rule.EndsHigh = HasWrongBurst s slots edges number rule.EndsHigh
BurstRuleStands s slots init edges number rule.Psi5Check = HasWrongBurst s slots edges number rule.Psi5Check
BurstRuleStands s slots init edges number rule.NoSync = HasWrongPlace s slots edges number rule.NoSync
BurstRuleStands s slots init edges number rule.NoSlot = HasWrongPlace s slots edges number rule.NoSlot
BurstRuleStands s slots init edges number rule.SlotTwice = HasWrongPlace s slots edges number rule.SlotTwice
BurstRuleStands s slots init edges number rule.InitOrder = HasStep s slots init edges number (step.Bad rule.InitOrder)
BurstRuleStands s slots init edges number rule.InitRepeat = HasStep s slots init edges number (step.Bad rule.InitRepeat)
BurstRuleStands s slots init edges number rule.NoCalibration = ⊥
BurstRuleStands s slots init edges number rule.Drift = ⊥
BurstRuleStands s slots init edges number rule.NibbleRange = ⊥
BurstRuleStands s slots init edges number rule.Check = ⊥
BurstRuleStands s slots init edges number rule.PauseRange = ⊥
BurstRuleStands s slots init edges number rule.Copy = ⊥
BurstRuleStands s slots init edges number rule.Restart = ⊥
BurstRuleStands s slots init edges number rule.Zero13 = ⊥
BurstRuleStands s slots init edges number rule.Zero18 = ⊥
BurstRuleStands s slots init edges number rule.SerialCheck = ⊥
BurstRuleStands s slots init edges number rule.TriggerWidth = ⊥
BurstRuleStands s slots init edges number rule.Delay = ⊥
BurstRuleStands s slots init edges number rule.SyncBit = ⊥
BurstRuleStands s slots init edges number rule.DownCheck = ⊥
BurstRuleStands s slots init edges number rule.StartPattern = ⊥

-- what is said at this place stands for
abbrev pub BurstStands : Settings → Option SyncSlots → Option ℕ → List NumberedEdge → ℕ → What → Type 0
BurstStands s slots init edges number (what.Burst slot payload code) = HasBurst s slots edges number slot payload × (code ≡ code_of s payload)
BurstStands s slots init edges number (what.Block id value) = HasStep s slots init edges number (step.Block id value)
BurstStands s slots init edges number (what.Done blocks) = HasStep s slots init edges number (step.Done blocks)
BurstStands s slots init edges number (what.Bad broken) = BurstRuleStands s slots init edges number broken
BurstStands s slots init edges number (what.Frame frame) = ⊥
BurstStands s slots init edges number (what.Fast value) = ⊥
BurstStands s slots init edges number (what.Counter before now) = ⊥
BurstStands s slots init edges number (what.Short id value) = ⊥
BurstStands s slots init edges number (what.Enhanced id value wide) = ⊥
BurstStands s slots init edges number (what.Answer code frame) = ⊥
BurstStands s slots init edges number (what.NoAnswer code) = ⊥
BurstStands s slots init edges number (what.Down down) = ⊥
BurstStands s slots init edges number (what.Gap count) = ⊥
