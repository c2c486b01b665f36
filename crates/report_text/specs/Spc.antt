-- The lines of an SPC channel; this project's own.
use Rattle.std.specs.Prelude.{ℕ, Result, Ok, List, [], ◌∷◌, codes, decimal}
use Rattle.sent_frame.specs.declared.frame.SentFrame.{SentFrame}
use Rattle.receiver_core.specs.declared.report.What.{What}
use Rattle.receiver_core.specs.declared.report.What.TheVariants as what
use Rattle.report_text.specs.declared.fault.TextFault.{TextFault}
use Rattle.line_base.specs.Steps.{◌>>=◌}
use Rattle.report_text.specs.Fields.{value_read}
use Rattle.report_text.specs.Decimals.{IsBetween, number_between}
use Rattle.report_text.specs.Sent.{IsFrameTold, parts_fields, parts_read}

-- the fields of an answer: the code that the trigger chose, and the status and the data nibbles of the frame
abbrev pub answer_fields : ℕ → SentFrame → List (List ℕ)
answer_fields code frame = codes "answer" ∷ decimal code ∷ parts_fields frame

-- the fields of an answer that didn't come: the code that the trigger chose
abbrev pub no_answer_fields : ℕ → List (List ℕ)
no_answer_fields code = codes "noanswer" ∷ decimal code ∷ []

-- an answer that has a line: a code of 0 to 7, and a frame that has a line
abbrev pub IsAnswerTold : ℕ → SentFrame → Type 0
IsAnswerTold code frame = IsBetween 0 7 code × IsFrameTold frame

-- what is read behind `answer`: the code, the status and the data nibbles
unfoldable pub answer_read : List (List ℕ) → Result (What × List (List ℕ)) TextFault
answer_read fields = do
  code ← value_read (number_between 0 7) fields
  frame ← parts_read code.1
  Ok (what.Answer code.0 frame.0, frame.1)

-- what is read behind `noanswer`: the code
unfoldable pub no_answer_read : List (List ℕ) → Result (What × List (List ℕ)) TextFault
no_answer_read fields = do
  code ← value_read (number_between 0 7) fields
  Ok (what.NoAnswer code.0, code.1)
