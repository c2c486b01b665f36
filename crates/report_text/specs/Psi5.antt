-- The lines of a PSI5 channel: bursts and initialisation; this project's own.
use Rattle.std.specs.Prelude.{ℕ, ◌<◌, ◌≤◌, ◌^◌, ◌==◌, nat_lt, Option, None, Some, Result, Ok, Err, List, [], ◌∷◌, ◌++◌, codes, decimal, if◌then◌else◌}
use Rattle.psi5_frame.specs.declared.burst.Payload.{Payload}
use Rattle.psi5_init.specs.declared.code.Code.{Code}
use Rattle.receiver_core.specs.declared.report.What.{What}
use Rattle.receiver_core.specs.declared.report.What.TheVariants as what
use Rattle.report_text.specs.declared.fault.TextFault.{TextFault}
use Rattle.report_text.specs.declared.fault.TextFault.TheVariants.{Number, Range}
use Rattle.line_base.specs.Steps.{◌>>=◌, check}
use Rattle.report_text.specs.Fields.{value_read}
use Rattle.report_text.specs.Decimals.{digit_in, number_spelled, number_between}
use Rattle.report_text.specs.Hex.{hex_text, hex_in, hex_to}
use Rattle.report_text.specs.Codes.{IsCodeTold, code_fields, code_read}

-- the slot that a burst answers: a hyphen where the channel has no slots
abbrev pub slot_text : Option ℕ → List ℕ
slot_text None = codes "-"
slot_text (Some slot) = decimal slot

-- the parts of a frame: messaging, frame control, status, data B and data A
abbrev pub payload_fields : Payload → List (List ℕ)
payload_fields payload = hex_text 1 payload.m ∷ hex_text 1 payload.f ∷ hex_text 1 payload.s ∷ hex_text 3 payload.b ∷ hex_text 6 payload.a ∷ []

-- the fields of a burst: its slot, the parts of its frame, and what data A says
abbrev pub burst_fields : Option ℕ → Payload → Option Code → List (List ℕ)
burst_fields slot payload code = codes "psi5" ∷ slot_text slot ∷ (payload_fields payload ++ code_fields code)

-- the fields of a block of an initialisation: its ID and its value
abbrev pub block_fields : ℕ → ℕ → List (List ℕ)
block_fields id value = codes "init" ∷ decimal id ∷ hex_text 1 value ∷ []

-- the fields of the end of an initialisation: how many blocks were told in it
abbrev pub done_fields : ℕ → List (List ℕ)
done_fields blocks = codes "initdone" ∷ decimal blocks ∷ []

-- a slot that has a text: none, or 0 to 7
abbrev pub IsSlotTold : Option ℕ → Type 0
IsSlotTold None = Unit {0}
IsSlotTold (Some slot) = slot < 8

-- the parts of a frame that have fields: each is in its range
pub record IsPayloadTold (payload : Payload) : Type 0 where
  pub messaging : payload.m ≤ 3
  pub control : payload.f < 16 ^ 1
  pub status : payload.s ≤ 3
  pub data_b : payload.b < 16 ^ 3
  pub data_a : payload.a < 16 ^ 6

-- a burst that has a line: its slot, its parts and what data A says are in their ranges
pub record IsBurstTold (slot : Option ℕ) (payload : Payload) (code : Option Code) : Type 0 where
  pub in_slot : IsSlotTold slot
  pub parts : IsPayloadTold payload
  pub says : IsCodeTold code

-- the slot that a field of a hyphen or of one decimal digit spells; Number for another spelling, Range from 8 on
unfoldable pub slot_in : List ℕ → Result (Option ℕ) TextFault
slot_in (byte ∷ []) = if byte == 45 then Ok None else (digit_in byte >>= λ slot. check (nat_lt slot 8) Range >>= λ _. Ok (Some slot))
slot_in _ = Err Number

-- the parts of a frame, as they are read
unfoldable pub payload_read : List (List ℕ) → Result (Payload × List (List ℕ)) TextFault
payload_read fields = do
  m ← value_read (hex_to 1 3) fields
  f ← value_read (hex_in 1) m.1
  s ← value_read (hex_to 1 3) f.1
  b ← value_read (hex_in 3) s.1
  a ← value_read (hex_in 6) b.1
  Ok (record { m = m.0; f = f.0; s = s.0; b = b.0; a = a.0 }, a.1)

-- what is read behind `psi5`: the slot, the parts of the frame, and what data A says
unfoldable pub burst_read : List (List ℕ) → Result (What × List (List ℕ)) TextFault
burst_read fields = do
  slot ← value_read slot_in fields
  payload ← payload_read slot.1
  code ← code_read payload.1
  Ok (what.Burst slot.0 payload.0 code.0, code.1)

-- what is read behind `init`: the ID and the value
unfoldable pub init_read : List (List ℕ) → Result (What × List (List ℕ)) TextFault
init_read fields = do
  id ← value_read (number_between 1 16) fields
  value ← value_read (hex_in 1) id.1
  Ok (what.Block id.0 value.0, value.1)

-- what is read behind `initdone`: how many blocks were told
unfoldable pub done_read : List (List ℕ) → Result (What × List (List ℕ)) TextFault
done_read fields = do
  blocks ← value_read number_spelled fields
  Ok (what.Done blocks.0, blocks.1)
