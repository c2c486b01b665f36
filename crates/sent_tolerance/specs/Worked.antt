-- One honest trace in numbers: two frames with pauses, of a sensor whose ticks are 3.2 and 3.216 µs, recorded from within the first frame on; this project's own.
use Rattle.std.specs.Prelude.{ℕ, true, false, List, [], ◌∷◌}
use Rattle.line_base.specs.Edges.{NumberedEdge}
use Rattle.sent_frame.specs.declared.setup.CrcForm.TheVariants as crc
use Rattle.sent_frame.specs.declared.frame.SentFrame.{SentFrame}
use Rattle.sent_frame.specs.declared.frame.SentStep.{SentStep}
use Rattle.sent_frame.specs.declared.frame.SentStep.TheVariants.{Good}
use Rattle.sent_frame.specs.Setup.{Settings}
use Rattle.sent_tolerance.specs.Trains.{Sending}

-- a nominal tick of 3 µs, a jitter of 300 ns, one data nibble, pauses, and the recommended form of the CRC
abbrev pub worked_setup : Settings
worked_setup = record { tick = 3000; jitter = 300; nibbles = 1; pause = true; crc = crc.New }

-- the frame that is cut
abbrev pub cut_frame : SentFrame
cut_frame = record { status = 0; nibbles = 7 ∷ [] }

-- the frame that is whole
abbrev pub whole_frame : SentFrame
whole_frame = record { status = 3; nibbles = 12 ∷ [] }

-- how they are sent: the second tick is off from the first by a 200th, and own ticks are off by up to a 400th
abbrev pub worked_sendings : List Sending
worked_sendings =
    record { frame = cut_frame; pause = 100; tick = 3200000; own_ticks = 3208000 ∷ 3192000 ∷ 3200000 ∷ 3205000 ∷ [] }
    ∷ record { frame = whole_frame; pause = 768; tick = 3216000; own_ticks = 3224040 ∷ 3207960 ∷ 3216000 ∷ 3224000 ∷ [] } ∷ []

-- a falling edge with this number, at this time in ns
abbrev pub fall : ℕ → ℕ → NumberedEdge
fall number time = record { number = number; edge = record { line = 0; time = time; level = false } }

-- a rising edge with this number, at this time in ns
abbrev pub rise : ℕ → ℕ → NumberedEdge
rise number time = record { number = number; edge = record { line = 0; time = time; level = true } }

-- the edges, with up to 300 ns of jitter: the line is opened in the status pulse of the first frame
abbrev pub worked_edges : List NumberedEdge
worked_edges =
    rise 0 5200000
    ∷ fall 1 5217996 ∷ rise 2 5231996 ∷ fall 3 5278045 ∷ rise 4 5292822
    ∷ fall 5 5361667 ∷ rise 6 5376321 ∷ fall 7 5681967 ∷ rise 8 5696498
    ∷ fall 9 5862439 ∷ rise 10 5876847 ∷ fall 11 5910201 ∷ rise 12 5924486
    ∷ fall 13 5987491 ∷ rise 14 6001653 ∷ fall 15 6042413 ∷ rise 16 6056452
    ∷ fall 17 8518183 ∷ []

-- what is read of them
abbrev pub worked_reports : List SentStep
worked_reports = Good 15 whole_frame ∷ []
