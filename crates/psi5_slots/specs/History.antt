-- Where a burst begins behind sync pulses and earlier bursts (time slots behind a sync pulse: PSI5 V2.1, base standard); the rules are this project's own. Times and offsets are in ns.
use Rattle.std.specs.Prelude.{ℕ, suc, ◌-◌, Bool, true, false, nat_lt, if◌then◌else◌, Option, None, Some, List, [], ◌∷◌, map}
use Rattle.std.specs.List.{list_any}
use Rattle.line_base.specs.declared.edge.Span.{Span}
use Rattle.line_base.specs.declared.rule.Rule.TheVariants as rule
use Rattle.line_base.specs.Spans.{is_in}
use Rattle.psi5_slots.specs.declared.placed.Placed.{Placed}
use Rattle.psi5_slots.specs.declared.placed.Placed.TheVariants.{Before, Slot, Bad}
use Rattle.psi5_slots.specs.Setup.{last_high}

-- a sync pulse, by the time of its rise; or a start, which is the first edge of a read burst that is a rise, by its time
pub data Event : Type 0 where
  Sync : ℕ → Event
  Start : ℕ → Event

-- there is a sync pulse among these
abbrev pub has_sync : List Event → Bool
has_sync [] = false
has_sync (Event.Sync time ∷ events) = true
has_sync (Event.Start time ∷ events) = has_sync events

-- the time of the last sync pulse, if there is one
abbrev pub last_sync : List Event → Option ℕ
last_sync [] = None
last_sync (Event.Sync time ∷ events) = if has_sync events then last_sync events else Some time
last_sync (Event.Start time ∷ events) = last_sync events

-- the times of the starts since the last sync pulse, or of all of them where there is no sync pulse
abbrev pub starts_since : List Event → List ℕ
starts_since [] = []
starts_since (Event.Sync time ∷ events) = starts_since events
starts_since (Event.Start time ∷ events) = if has_sync events then starts_since events else time ∷ starts_since events

-- one of these offsets lies in the window
abbrev pub is_answered : List ℕ → Span → Bool
is_answered offsets window = list_any (is_in window) offsets

-- a start at this offset, among the windows from the one with this number on, behind starts at these offsets: in the slot of the window in which the offset lies, where none of the earlier ones does
abbrev pub slot_from : ℕ → List Span → List ℕ → ℕ → Placed
slot_from number [] earlier offset = Bad rule.NoSlot
slot_from number (window ∷ windows) earlier offset =
    if is_in window offset then (if is_answered earlier window then Bad rule.SlotTwice else Slot number)
    else slot_from (suc number) windows earlier offset

-- a start at this offset from the last sync pulse, behind starts at these offsets from it: above the last window a sync pulse is missing
abbrev pub placed_behind : List Span → List ℕ → ℕ → Placed
placed_behind windows earlier offset = if nat_lt (last_high 0 windows) offset then Bad rule.NoSync else slot_from 0 windows earlier offset

-- how long after the sync pulse each of these times is, 0 for one that is not after it
abbrev pub offsets_from : ℕ → List ℕ → List ℕ
offsets_from sync times = map (λ time. time - sync) times

-- a start at this time, behind starts at these times since the last sync pulse, if there is one
abbrev pub placed_since : List Span → Option ℕ → List ℕ → ℕ → Placed
placed_since windows None starts time = Before
placed_since windows (Some sync) starts time = placed_behind windows (offsets_from sync starts) (time - sync)

-- where a burst begins whose first edge is a rise at this time, behind these sync pulses and starts
unfoldable pub placed_in : List Span → List Event → ℕ → Placed
placed_in windows events time = placed_since windows (last_sync events) (starts_since events) time
