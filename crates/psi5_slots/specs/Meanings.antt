-- What a place stands for, in the words of a sync period; the rules are this project's own. Times and offsets are in ns.
use Rattle.std.specs.Prelude.{◌≡◌, ℕ, ◌-◌, ◌<◌, ◌≤◌, Bool, true, false, Option, None, Some, List, length, slice_index_or}
use Rattle.line_base.specs.declared.edge.Span.{Span}
use Rattle.line_base.specs.declared.rule.Rule.TheVariants as rule
use Rattle.line_base.specs.Spans.{is_in, no_span}
use Rattle.psi5_slots.specs.declared.placed.Placed.{Placed}
use Rattle.psi5_slots.specs.declared.placed.Placed.TheVariants.{Before, Slot, Bad}
use Rattle.psi5_slots.specs.Setup.{last_high}
use Rattle.psi5_slots.specs.History.{Event, is_answered, last_sync, offsets_from, starts_since}

-- the window with this number, counted from 0
abbrev pub window_at : List Span → ℕ → Span
window_at windows slot = slice_index_or windows slot no_span

-- the offset lies in the window with this number, in which one of the earlier offsets lies, or none
pub record IsInSlot (windows : List Span) (earlier : List ℕ) (offset slot : ℕ) (answered : Bool) : Type 0 where
  pub is_window : slot < length windows
  pub inside : is_in (window_at windows slot) offset ≡ true
  pub before : is_answered earlier (window_at windows slot) ≡ answered

-- the offset isn't above the last window, and lies in none
pub record IsInNone (windows : List Span) (offset : ℕ) : Type 0 where
  pub not_above : offset ≤ last_high 0 windows
  pub outside : (slot : ℕ) → slot < length windows → is_in (window_at windows slot) offset ≡ false

-- what a place says of a start at this offset from the last sync pulse, behind starts at these offsets from it
abbrev pub OffsetStands : List Span → List ℕ → ℕ → Placed → Type 0
OffsetStands windows earlier offset Before = ⊥
OffsetStands windows earlier offset (Slot slot) = IsInSlot windows earlier offset slot false
OffsetStands windows earlier offset (Bad rule.SlotTwice) = (slot : ℕ) × IsInSlot windows earlier offset slot true
OffsetStands windows earlier offset (Bad rule.NoSync) = last_high 0 windows < offset
OffsetStands windows earlier offset (Bad rule.NoSlot) = IsInNone windows offset
OffsetStands windows earlier offset (Bad other) = ⊥

-- what a place says of a start at this time, behind the last sync pulse and the starts since: there was no sync pulse, or where the offset from it lies
abbrev pub StandsSince : List Span → Option ℕ → List ℕ → ℕ → Placed → Type 0
StandsSince windows None starts time place = place ≡ Before
StandsSince windows (Some sync) starts time place = OffsetStands windows (offsets_from sync starts) (time - sync) place

-- what a place says of a start at this time, behind these sync pulses and starts
abbrev pub PlaceStands : List Span → List Event → ℕ → Placed → Type 0
PlaceStands windows history time place = StandsSince windows (last_sync history) (starts_since history) time place
