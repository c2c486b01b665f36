-- Which reports a PSI5 channel gives of a stretch of its edges (codes and initialisation: PSI5 V2.1, base standard; breaks: this project's own).
use Rattle.std.specs.Prelude.{ℕ, nat_eq, if◌then◌else◌, Option, None, Some, List, [], ◌∷◌, ◌++◌, flat_map}
use Rattle.line_base.specs.Edges.{NumberedEdge}
use Rattle.psi5_frame.specs.declared.burst.Payload.{Payload}
use Rattle.psi5_frame.specs.declared.burst.Burst.{Burst}
use Rattle.psi5_frame.specs.declared.burst.Burst.TheVariants.{Good, Bad}
use Rattle.psi5_frame.specs.Setup.{Settings}
use Rattle.psi5_frame.specs.Bursts.{bursts_so_far, bursts_at_end}
use Rattle.psi5_init.specs.declared.code.Code.{Code}
use Rattle.psi5_init.specs.declared.step.InitStep.{InitStep}
use Rattle.psi5_init.specs.declared.step.InitStep.TheVariants as step
use Rattle.psi5_init.specs.Codes.{class_in}
use Rattle.psi5_init.specs.Readings.{init_reading}
use Rattle.receiver_core.specs.declared.setup.SyncSlots.{SyncSlots}
use Rattle.receiver_core.specs.declared.psi5_burst.BurstPlace.{BurstPlace}
use Rattle.receiver_core.specs.declared.psi5_burst.BurstPlace.TheVariants as place
use Rattle.receiver_core.specs.declared.psi5_burst.Told.{Told}
use Rattle.receiver_core.specs.declared.psi5_burst.Told.TheVariants as told
use Rattle.receiver_core.specs.declared.report.Report.{Report}
use Rattle.receiver_core.specs.declared.report.What.TheVariants as what
use Rattle.receiver_core.specs.SentReports.{report}
use Rattle.receiver_core.specs.Psi5Places.{data_edges, burst_places, grown}

-- ---- the bursts that are told
-- what is told of a burst at its place: nothing where it isn't read, the first rule that it violates, else that its place is no slot of its own, else its payload
abbrev pub told_of : BurstPlace → Burst → List Told
told_of place.Unread burst = []
told_of place.Free (Good number payload) = told.Good number None payload ∷ []
told_of place.Free (Bad number rule) = told.Bad number rule ∷ []
told_of (place.Slot slot) (Good number payload) = told.Good number (Some slot) payload ∷ []
told_of (place.Slot slot) (Bad number rule) = told.Bad number rule ∷ []
told_of (place.Outside first wrong) (Good number payload) = told.Bad first wrong ∷ []
told_of (place.Outside first wrong) (Bad number rule) = told.Bad number rule ∷ []

-- what is told of bursts, each at its own of these places
unfoldable pub told_at : List BurstPlace → List Burst → List Told
told_at [] bursts = []
told_at (place ∷ places) [] = []
told_at (place ∷ places) (burst ∷ bursts) = told_of place burst ++ told_at places bursts

-- what is told of the bursts that are complete among these edges
unfoldable pub told_so_far : Settings → Option SyncSlots → List NumberedEdge → List Told
told_so_far s slots edges = told_at (burst_places s slots edges) (bursts_so_far s (data_edges slots edges))

-- what is told of all bursts of these edges once the lines have ended
unfoldable pub told_at_end : Settings → Option SyncSlots → List NumberedEdge → List Told
told_at_end s slots edges = told_at (burst_places s slots edges) (bursts_at_end s (data_edges slots edges))

-- ---- the codes of a slot
-- a slot's number, 0 where there are no slots
abbrev pub slot_number : Option ℕ → ℕ
slot_number None = 0
slot_number (Some slot) = slot

-- the codes that the good ones among these say in this slot
unfoldable pub codes_of : ℕ → List Told → List Code
codes_of number [] = []
codes_of number (told.Good place slot payload ∷ all) =
    if nat_eq (slot_number slot) number then class_in payload.a ∷ codes_of number all else codes_of number all
codes_of number (told.Bad place rule ∷ all) = codes_of number all

-- ---- the reports
-- what data A says, where it has 10 bits
abbrev pub code_of : Settings → Payload → Option Code
code_of s payload = if nat_eq s.parts.a 10 then Some (class_in payload.a) else None

-- the report of what a code ends in an initialisation, at this place; nothing where it ends nothing
abbrev pub init_report : ℕ → InitStep → List Report
init_report place step.Nothing = []
init_report place (step.Block id value) = report place (what.Block id value) ∷ []
init_report place (step.Done blocks) = report place (what.Done blocks) ∷ []
init_report place (step.Bad rule) = report place (what.Bad rule) ∷ []

-- the reports of the steps by which an initialisation, whose blocks are sent so many times, grows with one code more; none where it isn't read
abbrev pub init_reports : Option ℕ → ℕ → List Code → Code → List Report
init_reports None place before code = []
init_reports (Some repeats) place before code = flat_map (init_report place) (grown (init_reading repeats before) (init_reading repeats (before ++ code ∷ [])))

-- the reports of what is told, behind the good bursts since the last break: a good burst and what its code ends in its slot, or the rule that is violated
abbrev pub told_reports : Settings → Option ℕ → List Told → Told → List Report
told_reports s init since (told.Good place slot payload) =
    report place (what.Burst slot payload (code_of s payload)) ∷ init_reports init place (codes_of (slot_number slot) since) (class_in payload.a)
told_reports s init since (told.Bad place rule) = report place (what.Bad rule) ∷ []

-- the good bursts since the last break, with what is told next: a violated rule is a break
abbrev pub told_with : List Told → Told → List Told
told_with since (told.Good place slot payload) = since ++ told.Good place slot payload ∷ []
told_with since (told.Bad place rule) = []

-- the good bursts since the last break, behind all of these
unfoldable pub told_past : List Told → List Told → List Told
told_past since [] = since
told_past since (next ∷ all) = told_past (told_with since next) all

-- the reports of all that is told, behind the good bursts since the last break
unfoldable pub burst_reports : Settings → Option ℕ → List Told → List Told → List Report
burst_reports s init since [] = []
burst_reports s init since (next ∷ all) = told_reports s init since next ++ burst_reports s init (told_with since next) all

-- the reports of a stretch of a PSI5 channel's edges so far
unfoldable pub psi5_so_far : Settings → Option SyncSlots → Option ℕ → List NumberedEdge → List Report
psi5_so_far s slots init edges = burst_reports s init [] (told_so_far s slots edges)

-- the reports of a stretch of a PSI5 channel's edges, with the burst that is complete at the end
unfoldable pub psi5_at_end : Settings → Option SyncSlots → Option ℕ → List NumberedEdge → List Report
psi5_at_end s slots init edges = burst_reports s init [] (told_at_end s slots edges)
