-- Honest traces of a PSI5 channel, and the reports that they have to give (frames, slots and codes: PSI5 V2.1, base standard; the bounds and the order of reports: this project's own).
use Rattle.std.specs.Prelude.{ℕ, Option, None, Some, List, [], ◌∷◌, All, flat_map, map}
use Rattle.line_base.specs.Edges.{NumberedEdge}
use Rattle.psi5_frame.specs.Setup.{Settings}
use Rattle.psi5_tolerance.specs.Lines.{SyncWindows}
use Rattle.psi5_tolerance.specs.Trains.{Psi5Message, Sync, Burst}
use Rattle.psi5_tolerance.specs.Traces.{IsHonest}
use Rattle.psi5_tolerance.specs.FromFirst.{HeardFrame, from_first}
use Rattle.receiver_core.specs.declared.setup.SyncSlots.{SyncSlots}
use Rattle.receiver_core.specs.declared.message.Message.{Message}
use Rattle.receiver_core.specs.declared.message.Message.TheVariants as message
use Rattle.receiver_core.specs.declared.psi5_burst.Told.{Told}
use Rattle.receiver_core.specs.declared.psi5_burst.Told.TheVariants.{Good}
use Rattle.receiver_core.specs.declared.report.Report.{Report}
use Rattle.receiver_core.specs.Psi5Reports.{burst_reports}

-- a message is a sync pulse or a burst
abbrev pub IsOfPsi5 : Message → Type 0
IsOfPsi5 message.Sync = Unit {0}
IsOfPsi5 (message.Burst slot payload) = Unit {0}
IsOfPsi5 other = ⊥

-- what a message sends on the lines of PSI5
abbrev pub psi5_message_in : Message → List Psi5Message
psi5_message_in message.Sync = Sync ∷ []
psi5_message_in (message.Burst slot payload) = Burst slot payload ∷ []
psi5_message_in other = []

-- the sync line of a channel, if it has one, and the windows of its slots
abbrev pub windows_of : Option SyncSlots → Option SyncWindows
windows_of None = None
windows_of (Some slots) = Some (record { line = slots.line; windows = slots.setup.windows })

-- the edges of both lines are an honest trace of these messages of PSI5
pub record IsPsi5Trace (s : Settings) (slots : Option SyncSlots) (messages : List Message) (edges : List NumberedEdge) : Type 0 where
  pub all_sent : All IsOfPsi5 messages
  pub honest : IsHonest s (windows_of slots) (flat_map psi5_message_in messages) edges

-- what is told of a frame: its payload in its slot, at its last edge
abbrev pub told_frame : HeardFrame → Told
told_frame f = Good f.last f.slot f.payload

-- the reports of a trace of these messages, from the first frame on that is told: each burst, and behind it the step of the initialisation that its code ends, read with the codes of its slot
abbrev pub psi5_from_first : Settings → Option SyncSlots → Option ℕ → List Message → List NumberedEdge → List Report
psi5_from_first s slots init messages edges = burst_reports s init [] (map told_frame (from_first s (windows_of slots) (flat_map psi5_message_in messages) edges))
