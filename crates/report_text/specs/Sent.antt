-- The lines of a SENT channel; this project's own.
use Rattle.std.specs.Prelude.{ℕ, ◌<◌, ◌^◌, Bool, true, false, Result, Ok, List, [], ◌∷◌, codes, map}
use Rattle.line_base.specs.Nibbles.{AreNibbles}
use Rattle.sent_frame.specs.declared.frame.SentFrame.{SentFrame}
use Rattle.sent_fast.specs.declared.layout.Fast.{Fast}
use Rattle.sent_fast.specs.declared.layout.Fast.TheVariants as fast
use Rattle.receiver_core.specs.declared.report.What.{What}
use Rattle.receiver_core.specs.declared.report.What.TheVariants as what
use Rattle.report_text.specs.declared.fault.TextFault.{TextFault}
use Rattle.line_base.specs.Steps.{◌>>=◌}
use Rattle.report_text.specs.Fields.{value_read}
use Rattle.report_text.specs.Hex.{hex_digit, hex_text, hex_in, data_in}

-- the status and the data nibbles of a frame
abbrev pub parts_fields : SentFrame → List (List ℕ)
parts_fields frame = hex_text 1 frame.status ∷ map hex_digit frame.nibbles ∷ []

-- the fields of a frame: its status and its data nibbles
abbrev pub frame_fields : SentFrame → List (List ℕ)
frame_fields frame = codes "frame" ∷ parts_fields frame

-- the fields of a value; none where the nibbles alone are told
abbrev pub value_fields : Fast → List (List ℕ)
value_fields fast.Raw = []
value_fields (fast.One a) = codes "one" ∷ hex_text 3 a ∷ []
value_fields (fast.Two a b) = codes "two" ∷ hex_text 3 a ∷ hex_text 3 b ∷ []
value_fields (fast.Secure a counter) = codes "secure" ∷ hex_text 3 a ∷ hex_text 2 counter ∷ []
value_fields (fast.Split a b) = codes "split" ∷ hex_text 4 a ∷ hex_text 2 b ∷ []

-- the fields of a jump of the counter: the counter before, and this one
abbrev pub counter_fields : ℕ → ℕ → List (List ℕ)
counter_fields before now = codes "counter" ∷ hex_text 2 before ∷ hex_text 2 now ∷ []

-- the fields of a short serial message
abbrev pub short_fields : ℕ → ℕ → List (List ℕ)
short_fields id value = codes "short" ∷ hex_text 1 id ∷ hex_text 2 value ∷ []

-- the fields of an enhanced serial message, with 8 bits of ID and 12 of value, or with 4 and 16 where it is wide
abbrev pub enhanced_fields : ℕ → ℕ → Bool → List (List ℕ)
enhanced_fields id value false = codes "enhanced8" ∷ hex_text 2 id ∷ hex_text 3 value ∷ []
enhanced_fields id value true = codes "enhanced4" ∷ hex_text 1 id ∷ hex_text 4 value ∷ []

-- a frame that has a line: a status below 16, and 1 to 6 nibbles
pub record IsFrameTold (frame : SentFrame) : Type 0 where
  pub status : frame.status < 16
  pub nibbles : AreNibbles frame.nibbles

-- a value that has a line: each number has its digits
abbrev pub IsValueTold : Fast → Type 0
IsValueTold fast.Raw = ⊥
IsValueTold (fast.One a) = a < 16 ^ 3
IsValueTold (fast.Two a b) = (a < 16 ^ 3) × (b < 16 ^ 3)
IsValueTold (fast.Secure a counter) = (a < 16 ^ 3) × (counter < 16 ^ 2)
IsValueTold (fast.Split a b) = (a < 16 ^ 4) × (b < 16 ^ 2)

-- an enhanced serial message that has a line: its ID and its value have their digits
abbrev pub IsEnhancedTold : ℕ → ℕ → Bool → Type 0
IsEnhancedTold id value false = (id < 16 ^ 2) × (value < 16 ^ 3)
IsEnhancedTold id value true = (id < 16 ^ 1) × (value < 16 ^ 4)

-- the status and the data nibbles of a frame, as they are read
unfoldable pub parts_read : List (List ℕ) → Result (SentFrame × List (List ℕ)) TextFault
parts_read fields = do
  status ← value_read (hex_in 1) fields
  nibbles ← value_read data_in status.1
  Ok (record { status = status.0; nibbles = nibbles.0 }, nibbles.1)

-- what is read behind `frame`: the status and the data nibbles
unfoldable pub frame_read : List (List ℕ) → Result (What × List (List ℕ)) TextFault
frame_read fields = do
  frame ← parts_read fields
  Ok (what.Frame frame.0, frame.1)

-- what is read behind `one`
unfoldable pub one_read : List (List ℕ) → Result (What × List (List ℕ)) TextFault
one_read fields = do
  a ← value_read (hex_in 3) fields
  Ok (what.Fast (fast.One a.0), a.1)

-- what is read behind `two`
unfoldable pub two_read : List (List ℕ) → Result (What × List (List ℕ)) TextFault
two_read fields = do
  a ← value_read (hex_in 3) fields
  b ← value_read (hex_in 3) a.1
  Ok (what.Fast (fast.Two a.0 b.0), b.1)

-- what is read behind `secure`: the value and the counter
unfoldable pub secure_read : List (List ℕ) → Result (What × List (List ℕ)) TextFault
secure_read fields = do
  a ← value_read (hex_in 3) fields
  counter ← value_read (hex_in 2) a.1
  Ok (what.Fast (fast.Secure a.0 counter.0), counter.1)

-- what is read behind `split`
unfoldable pub split_read : List (List ℕ) → Result (What × List (List ℕ)) TextFault
split_read fields = do
  a ← value_read (hex_in 4) fields
  b ← value_read (hex_in 2) a.1
  Ok (what.Fast (fast.Split a.0 b.0), b.1)

-- what is read behind `counter`: the counter before, and this one
unfoldable pub counter_read : List (List ℕ) → Result (What × List (List ℕ)) TextFault
counter_read fields = do
  before ← value_read (hex_in 2) fields
  now ← value_read (hex_in 2) before.1
  Ok (what.Counter before.0 now.0, now.1)

-- what is read behind `short`: the ID and the value
unfoldable pub short_read : List (List ℕ) → Result (What × List (List ℕ)) TextFault
short_read fields = do
  id ← value_read (hex_in 1) fields
  value ← value_read (hex_in 2) id.1
  Ok (what.Short id.0 value.0, value.1)

-- what is read behind `enhanced8`: an ID of 8 bits and a value of 12
unfoldable pub narrow_read : List (List ℕ) → Result (What × List (List ℕ)) TextFault
narrow_read fields = do
  id ← value_read (hex_in 2) fields
  value ← value_read (hex_in 3) id.1
  Ok (what.Enhanced id.0 value.0 false, value.1)

-- what is read behind `enhanced4`: an ID of 4 bits and a value of 16
unfoldable pub wide_read : List (List ℕ) → Result (What × List (List ℕ)) TextFault
wide_read fields = do
  id ← value_read (hex_in 1) fields
  value ← value_read (hex_in 4) id.1
  Ok (what.Enhanced id.0 value.0 true, value.1)
