-- Traces of frames that are sent with the nominal tick, all pauses of the same length; this project's own.
use Rattle.std.specs.Prelude.{ℕ, suc, ◌+◌, ◌*◌, ◌/◌, ◌≤◌, true, false, List, [], ◌∷◌, map, flat_map}
use Rattle.line_base.specs.Edges.{NumberedEdge}
use Rattle.sent_frame.specs.declared.frame.SentFrame.{SentFrame}
use Rattle.sent_frame.specs.Setup.{Settings}
use Rattle.sent_frame.specs.Frames.{ticks_of}
use Rattle.link_tolerance.specs.Pulses.{falls_behind}

-- the falls of these frames in ns: one at the start, and one at the end of each pulse; a pause has so many ticks, where there is one
unfoldable pub nominal_falls : Settings → ℕ → ℕ → List SentFrame → List ℕ
nominal_falls s start pause [] = []
nominal_falls s start pause (frame ∷ frames) = start ∷ falls_behind start (map (λ count. count * s.tick) (flat_map (λ frame. ticks_of s frame pause) (frame ∷ frames)))

-- falls at these times in ns and a rise four ticks behind each, numbered from here on
unfoldable pub edges_from : ℕ → ℕ → List ℕ → List NumberedEdge
edges_from tick number [] = []
edges_from tick number (time ∷ times) =
    record { number = number; edge = record { line = 0; time = time; level = false } }
    ∷ record { number = suc number; edge = record { line = 0; time = time + 4 * tick; level = true } } ∷ edges_from tick (suc (suc number)) times

-- the edges of a line that is high when it is opened, and then has falls at these times (all in ns)
abbrev pub edges_of : Settings → ℕ → List ℕ → List NumberedEdge
edges_of s opening times = record { number = 0; edge = record { line = 0; time = opening; level = true } } ∷ edges_from s.tick 1 times

-- the edges of these frames, of a line that is opened at 0
abbrev pub nominal_edges : Settings → ℕ → ℕ → List SentFrame → List NumberedEdge
nominal_edges s start pause frames = edges_of s 0 (nominal_falls s start pause frames)

-- these times in ns are off from the nominal ones by at most the jitter, one by one
abbrev pub AreJittered : ℕ → List ℕ → List ℕ → Type 0
AreJittered jitter [] [] = Unit {0}
AreJittered jitter [] (time ∷ times) = ⊥
AreJittered jitter (nominal ∷ nominals) [] = ⊥
AreJittered jitter (nominal ∷ nominals) (time ∷ times) = (nominal ≤ time + jitter) × (time ≤ nominal + jitter) × AreJittered jitter nominals times

-- ideal times in ps, as an exact clock tells them in whole ns
abbrev pub told_in_ns : List ℕ → List ℕ
told_in_ns ideals = map (λ ideal. ideal / 1000) ideals
