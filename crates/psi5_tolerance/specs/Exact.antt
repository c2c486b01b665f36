-- Traces without jitter: each edge of a train is recorded at the nearest ns, behind an opening of its line; this project's own.
use Rattle.std.specs.Prelude.{◌≢◌, ℕ, suc, ◌+◌, ◌*◌, ◌/◌, ◌≤◌, Bool, false, if◌then◌else◌, Option, None, Some, List, [], ◌∷◌, map}
use Rattle.line_base.specs.Edges.{NumberedEdge}
use Rattle.psi5_frame.specs.declared.burst.Payload.{Payload}
use Rattle.psi5_frame.specs.Setup.{Settings}
use Rattle.psi5_frame.specs.Frames.{Fits}
use Rattle.psi5_tolerance.specs.Lines.{SyncWindows}
use Rattle.psi5_tolerance.specs.Trains.{Psi5Message, Burst, FrameSent, Sending, FrameAt, IdealEdge, ideal_edges, end_of}

-- the whole ns that is nearest to a time in ps
abbrev pub nearest : ℕ → ℕ
nearest ideal = (ideal + 500) / 1000

-- the number of the data line, or of the sync line
abbrev pub line_of : ℕ → Option SyncWindows → Bool → ℕ
line_of line None on_sync = line
line_of line (Some sync) on_sync = if on_sync then sync.line else line

-- the data line has another number than the sync line, if there is one
abbrev pub AreTwoLines : ℕ → Option SyncWindows → Type 0
AreTwoLines line None = Unit {0}
AreTwoLines line (Some sync) = line ≢ sync.line

-- an ideal edge, recorded at the nearest ns, with this number, where the data line has that one
abbrev pub exact_edge : ℕ → Option SyncWindows → ℕ → IdealEdge → NumberedEdge
exact_edge line sync number ideal = record { number = number; edge = record { line = line_of line sync ideal.on_sync; time = nearest ideal.time; level = ideal.level } }

-- ideal edges, recorded so, with numbers from this one on
unfoldable pub exact_from : ℕ → Option SyncWindows → ℕ → List IdealEdge → List NumberedEdge
exact_from line sync number [] = []
exact_from line sync number (ideal ∷ ideals) = exact_edge line sync number ideal ∷ exact_from line sync (suc number) ideals

-- the opening of a line with this number, at the time 0: it is low
abbrev pub opening_of : ℕ → ℕ → NumberedEdge
opening_of number line = record { number = number; edge = record { line = line; time = 0; level = false } }

-- the trace of messages, where the data line has this number: an opening of each line, and all their edges
abbrev pub exact_trace : ℕ → Settings → Option SyncWindows → List Sending → List NumberedEdge
exact_trace line s None sent = opening_of 0 line ∷ exact_from line None 1 (ideal_edges s sent)
exact_trace line s (Some sync) sent = opening_of 0 line ∷ opening_of 1 sync.line ∷ exact_from line (Some sync) 2 (ideal_edges s sent)

-- ---- frames whose half-bits are half of the nominal bit time
-- a frame of a line without slots: its payload, and the ideal time of its start in ps
pub record NominalBurst : Type 0 where
  pub payload : Payload
  pub start : ℕ

-- the frame on its way
abbrev pub nominal_frame : Settings → NominalBurst → FrameSent
nominal_frame s burst = record { slot = None; payload = burst.payload; start = burst.start; half = 500 * s.bit }

-- what is sent
abbrev pub nominal_train : Settings → List NominalBurst → List Sending
nominal_train s bursts = map (λ burst. FrameAt (nominal_frame s burst)) bursts

-- what is said
abbrev pub nominal_messages : List NominalBurst → List Psi5Message
nominal_messages bursts = map (λ (burst : NominalBurst). Burst None burst.payload) bursts

-- the next frame starts at least 1.05 nominal bit times after the end of this one
abbrev pub StartsBehind : Settings → NominalBurst → List NominalBurst → Type 0
StartsBehind s burst [] = Unit {0}
StartsBehind s burst (next ∷ bursts) = end_of s (nominal_frame s burst) + 1050 * s.bit ≤ next.start

-- the payloads of these frames fit, and there is enough quiet between two frames
abbrev pub AreNominal : Settings → List NominalBurst → Type 0
AreNominal s [] = Unit {0}
AreNominal s (burst ∷ bursts) = Fits s.parts burst.payload × StartsBehind s burst bursts × AreNominal s bursts

-- the first of these frames starts at least 1.05 nominal bit times after the opening of the line
abbrev pub StartsQuietly : Settings → List NominalBurst → Type 0
StartsQuietly s [] = Unit {0}
StartsQuietly s (burst ∷ bursts) = 1050 * s.bit ≤ burst.start
