-- What a 10-bit code of a PSI5 sensor says (after the reserved codes of PSI5 V2.1, base standard; the table is this project's own).
use Rattle.std.specs.Prelude.{ℕ, ◌+◌, ◌-◌, Bool, ◌&&◌, nat_le, nat_eq, pos, ◌-ℤ◌, if◌then◌else◌}
use Rattle.psi5_init.specs.declared.code.Code.{Code}
use Rattle.psi5_init.specs.declared.code.Code.TheVariants.{Signal, Block, Value, Ready, Busy, Defect, Reserved}

-- the code is one of these, from the first to the last
abbrev pub is_among : ℕ → ℕ → ℕ → Bool
is_among first last code = nat_le first code && nat_le code last

-- what a code says: a row for each range of codes, and `Reserved` for all others
unfoldable pub class_in : ℕ → Code
class_in code =
    if is_among 0x000 0x1E0 code then Signal (pos code)
    else (if nat_eq code 0x1E7 then Ready
    else (if nat_eq code 0x1E8 then Busy
    else (if nat_eq code 0x1F4 then Defect
    else (if is_among 0x200 0x20F code then Block (code - 0x200 + 1)
    else (if is_among 0x210 0x21F code then Value (code - 0x210)
    else (if is_among 0x220 0x3FF code then Signal (pos code -ℤ pos 0x400)
    else Reserved code))))))
