-- One honest trace in numbers: two short messages, whose intervals last up to a twentieth less or more than their periods, recorded from within the first frame on; this project's own.
use Rattle.std.specs.Prelude.{ℕ, List, [], ◌∷◌}
use Rattle.psi5_downlink.specs.declared.down.Form.TheVariants.{Short}
use Rattle.psi5_downlink.specs.declared.down.Down.{Down}
use Rattle.psi5_downlink.specs.declared.step.ToothStep.{ToothStep}
use Rattle.psi5_downlink.specs.declared.step.ToothStep.TheVariants.{Good}
use Rattle.psi5_downlink.specs.Setup.{Settings}
use Rattle.psi5_downlink.specs.Rises.{Rise}
use Rattle.psi5_downlink_tolerance.specs.Trains.{Sending, Span}

-- a period of 500 µs and the greatest jitter that is accepted, 31.25 µs
abbrev pub worked_setup : Settings
worked_setup = record { period = 500000; form = Short; jitter = 31250 }

-- the message whose frame is cut
abbrev pub cut_message : Down
cut_message = record { address = 3; function = 2; register = 0; value = 0 }

-- the message that is whole
abbrev pub whole_message : Down
whole_message = record { address = 0; function = 0; register = 0; value = 0 }

-- how they are sent: seven pulses are missing in the first gap, and five in the second
abbrev pub worked_sent : List Sending
worked_sent = record { down = cut_message; idle = 0; missing = 7 } ∷ record { down = whole_message; idle = 1; missing = 5 } ∷ []

-- an interval of so many periods, which lasts so many ps
abbrev pub span : ℕ → ℕ → Span
span periods length = record { periods = periods; length = length }

-- the intervals: the first gap and its frame, an interval of one period, the second gap and its frame, and an interval of one period
abbrev pub worked_spans : List Span
worked_spans =
    span 8 4200000000
    ∷ span 2 950000000 ∷ span 2 1050000000 ∷ span 1 500000000 ∷ span 1 525000000 ∷ span 2 950000000
    ∷ span 2 1050000000 ∷ span 2 1000000000 ∷ span 1 475000000 ∷ span 1 525000000
    ∷ span 1 475000000
    ∷ span 6 2850000000
    ∷ span 2 1050000000 ∷ span 4 2100000000 ∷ span 4 1900000000 ∷ span 3 1500000000 ∷ span 1 525000000
    ∷ span 1 475000000 ∷ []

-- a rise with this number, at this time in ns
abbrev pub rise : ℕ → ℕ → Rise
rise number time = record { number = number; time = time }

-- the rises, with up to 31.25 µs of jitter: the line is opened behind the second rise of the first frame, at 11.4 ms
abbrev pub worked_rises : List Rise
worked_rises =
    rise 1 11700000 ∷ rise 3 12256250 ∷ rise 5 13143751 ∷ rise 7 14256250 ∷ rise 9 15193751 ∷ rise 11 15700000 ∷ rise 13 16193751
    ∷ rise 15 16731250 ∷ rise 17 19518751
    ∷ rise 19 20568751 ∷ rise 21 22731250 ∷ rise 23 24568751 ∷ rise 25 26131250 ∷ rise 27 26625000
    ∷ rise 29 27100000 ∷ []

-- what is read of them
abbrev pub worked_steps : List ToothStep
worked_steps = Good 27 whole_message ∷ []
