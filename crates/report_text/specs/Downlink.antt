-- The line of a downlink frame; this project's own.
use Rattle.std.specs.Prelude.{ℕ, ◌≤◌, Result, Ok, List, [], ◌∷◌, codes, decimal}
use Rattle.psi5_downlink.specs.declared.down.Down.{Down}
use Rattle.receiver_core.specs.declared.report.What.{What}
use Rattle.receiver_core.specs.declared.report.What.TheVariants as what
use Rattle.report_text.specs.declared.fault.TextFault.{TextFault}
use Rattle.line_base.specs.Steps.{◌>>=◌}
use Rattle.report_text.specs.Fields.{value_read}
use Rattle.report_text.specs.Decimals.{IsBetween, number_between}
use Rattle.report_text.specs.Hex.{hex_text, hex_to}

-- the fields of a downlink frame: the address, the function, the register and the value
abbrev pub down_fields : Down → List (List ℕ)
down_fields down = codes "down" ∷ decimal down.address ∷ decimal down.function ∷ hex_text 3 down.register ∷ hex_text 3 down.value ∷ []

-- a downlink frame that has a line: an address and a function of 3 bits, a register and a value of 9 bits
pub record IsDownTold (down : Down) : Type 0 where
  pub address : IsBetween 0 7 down.address
  pub function : IsBetween 0 7 down.function
  pub register : down.register ≤ 0x1FF
  pub value : down.value ≤ 0x1FF

-- what is read behind `down`: the address, the function, the register and the value
unfoldable pub down_read : List (List ℕ) → Result (What × List (List ℕ)) TextFault
down_read fields = do
  address ← value_read (number_between 0 7) fields
  function ← value_read (number_between 0 7) address.1
  register ← value_read (hex_to 3 0x1FF) function.1
  value ← value_read (hex_to 3 0x1FF) register.1
  Ok (what.Down (record { address = address.0; function = function.0; register = register.0; value = value.0 }), value.1)
