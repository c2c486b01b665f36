-- Which edges a PSI5 channel stands for between two gaps; this project's own.
use Rattle.std.specs.Prelude.{◌≡◌, ℕ, ◌<◌, ◌≤◌, Bool, true, nat_eq, Option, None, Some, List, [], length, slice_index_or}
use Rattle.std.specs.List.{last_or}
use Rattle.line_base.specs.Edges.{NumberedEdge}
use Rattle.psi5_frame.specs.Setup.{Settings}
use Rattle.psi5_frame.specs.declared.burst.Burst.{Burst}
use Rattle.psi5_frame.specs.declared.burst.Payload.{Payload}
use Rattle.psi5_frame.specs.Frames.{Fits}
use Rattle.psi5_frame.specs.Readers as frames
use Rattle.psi5_slots.specs.Readers as slot_readers
use Rattle.psi5_init.specs.Readers as init
use Rattle.psi5_init.specs.declared.reader.InitReader.{InitReader}
use Rattle.receiver_core.specs.declared.setup.SyncSlots.{SyncSlots}
use Rattle.receiver_core.specs.declared.psi5_burst.BurstPlace.{BurstPlace}
use Rattle.receiver_core.specs.declared.psi5_burst.BurstPlace.TheVariants as place
use Rattle.receiver_core.specs.declared.psi5_burst.Told.{Told}
use Rattle.receiver_core.specs.declared.psi5_burst.Told.TheVariants as told
use Rattle.receiver_core.specs.declared.sync_line.SyncLine.{SyncLine}
use Rattle.receiver_core.specs.declared.init_readers.InitReaders.{InitReaders}
use Rattle.receiver_core.specs.declared.psi5_channel.Psi5Channel.{Psi5Channel}
use Rattle.receiver_core.specs.Psi5Places.{data_edges, has_sync_edge, slot_history, burst_places}
use Rattle.receiver_core.specs.Psi5Reports.{codes_of, slot_number, told_of, told_so_far, told_past}

-- a slot has a number below 8
abbrev pub IsPlace : BurstPlace → Type 0
IsPlace place.Unread = Unit {0}
IsPlace place.Free = Unit {0}
IsPlace (place.Slot slot) = slot < 8
IsPlace (place.Outside first wrong) = Unit {0}

-- the sync line of these slots stands for its edges among these, and for what the slots are told
pub record LineStandsFor (s : Settings) (slots : SyncSlots) (sync : SyncLine) (seen : List NumberedEdge) : Type 0 where
  pub same_line : sync.line ≡ slots.line
  pub opened : sync.opened ≡ has_sync_edge (Some slots) seen
  pub reads : slot_readers.StandsFor slots.setup sync.slots (slot_history s (Some slots) seen)

-- the channel has a sync line exactly where it has slots, and it stands for these edges
abbrev pub SyncStandsFor : Settings → Option SyncSlots → Option SyncLine → List NumberedEdge → Type 0
SyncStandsFor s None None seen = Unit {0}
SyncStandsFor s None (Some sync) seen = ⊥
SyncStandsFor s (Some slots) None seen = ⊥
SyncStandsFor s (Some slots) (Some sync) seen = LineStandsFor s slots sync seen

-- each of eight readers stands for the codes of its slot, blocks being sent so many times
pub record ReadersStandFor (repeats : ℕ) (readers : InitReaders) (since : List Told) : Type 0 where
  pub same_repeats : readers.repeats ≡ repeats
  pub some : 1 ≤ repeats
  pub few : repeats ≤ 16
  pub eight : length readers.slots ≡ 8
  pub each : (number : ℕ) (other : InitReader) → number < 8 → init.StandsFor repeats (slice_index_or readers.slots number other) (codes_of number since)

-- the channel reads initialisations exactly where its setup says so, and its readers stand for these good bursts
abbrev pub InitStandsFor : Option ℕ → Option InitReaders → List Told → Type 0
InitStandsFor None None since = Unit {0}
InitStandsFor None (Some readers) since = ⊥
InitStandsFor (Some repeats) None since = ⊥
InitStandsFor (Some repeats) (Some readers) since = ReadersStandFor repeats readers since

-- data A has the 10 bits of a code where an initialisation is read
abbrev pub HasCodes : Settings → Option ℕ → Type 0
HasCodes s None = Unit {0}
HasCodes s (Some repeats) = nat_eq s.parts.a 10 ≡ true

-- data A has at most 10 bits, where an initialisation is read
abbrev pub IsSmall : Option ℕ → Payload → Type 0
IsSmall None payload = Unit {0}
IsSmall (Some repeats) payload = payload.a < 1024

-- what reads the codes of a channel with this setup stands for these good bursts
pub record ReadsCodes (s : Settings) (repeats : Option ℕ) (has_codes : Bool) (readers : Option InitReaders) (since : List Told) : Type 0 where
  pub codes : HasCodes s repeats
  pub same_codes : has_codes ≡ nat_eq s.parts.a 10
  pub has_read : InitStandsFor repeats readers since

-- a good burst that is told is in a slot below 8, and its values fit their widths
abbrev pub IsTold : Settings → Told → Type 0
IsTold s (told.Good place slot payload) = (slot_number slot < 8) × Fits s.parts payload
IsTold s (told.Bad place rule) = Unit {0}

-- what is told of a burst at its place, if there is a burst
abbrev pub told_ended : BurstPlace → Option Burst → List Told
told_ended place None = []
told_ended place (Some burst) = told_of place burst

-- the channel has this setup and stands for these edges: its reader for those of the data line, its sync line for those of that line, the place for the last burst that has begun, and its readers of initialisations for the good bursts since the last break
pub record StandsForBursts (s : Settings) (slots : Option SyncSlots) (repeats : Option ℕ) (channel : Psi5Channel) (seen : List NumberedEdge) : Type 0 where
  pub syncs : SyncStandsFor s slots channel.sync seen
  pub reads : frames.StandsFor s channel.bursts (data_edges slots seen)
  pub last : Some channel.place ≡ last_or (Some place.Unread) (burst_places s slots seen)
  pub valid : IsPlace channel.place
  pub codes : ReadsCodes s repeats channel.has_codes channel.init (told_past [] (told_so_far s slots seen))
