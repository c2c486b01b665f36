-- The bits of a frame with a right check.
use Rattle.std.proofs.Common.{◌≡◌, ℕ, ◌+◌, ◌^◌, ◌<◌, Bool, true, false, if◌then◌else◌, List, ◌++◌, length, take, drop, sym, ◌∙◌, ap, ap₂, arith}
use Rattle.std.proofs.Math.Nat.{mod-eq_of_lt}
use Rattle.std.proofs.lemmas.List.{length-drop, take-append-drop, take_at, drop_at}
use Rattle.link_math.specs.Checks.{has_odd_ones}
use Rattle.link_math.specs.Division.{bits_of, number_of}
use Rattle.link_math.proofs.BitLists.{bits_of-number_of}
use Rattle.link_math.proofs.BitFields.{number_of-bits_of}
use Rattle.link_math.proofs.FrameRegister.{crc3-below}
use Rattle.psi5_frame.specs.declared.setup.Check.{Check}
use Rattle.psi5_frame.specs.declared.setup.Check.TheVariants.{Parity, Crc}
use Rattle.psi5_frame.specs.Setup.{check_width}
use Rattle.psi5_frame.specs.Frames.{check_number}

parity_small : (odd : Bool) → (if odd then 1 else 0) < 2
parity_small true = omega arith
parity_small false = omega arith

pub check_small : (check : Check) (fields : List Bool) → check_number check fields < 2 ^ check_width check
check_small Parity fields = parity_small (has_odd_ones fields)
check_small Crc fields = crc3-below fields

-- the check of a frame's bits is right
pub framed-checks : (check : Check) (fields : List Bool) (width : ℕ) → length fields ≡ width
    → (take width (fields ++ bits_of (check_width check) (check_number check fields)) ≡ fields)
    × (number_of (drop width (fields ++ bits_of (check_width check) (check_number check fields))) ≡ check_number check fields)
framed-checks check fields width long =
    let tail = bits_of (check_width check) (check_number check fields) in (
      take_at fields tail width long,
      ap number_of (drop_at fields tail width long) ∙ number_of-bits_of (check_width check) (check_number check fields) ∙ mod-eq_of_lt (check_small check fields),
    )

-- bits whose check is right are a frame's
pub checks-framed : (check : Check) (bits : List Bool) (width : ℕ) → length bits ≡ width + check_width check → number_of (drop width bits) ≡ check_number check (take width bits)
    → bits ≡ take width bits ++ bits_of (check_width check) (check_number check (take width bits))
checks-framed check bits width long right =
    let back = drop width bits in
    let all : length back ≡ check_width check = omega (arith, length-drop width bits) in
    sym (take-append-drop width bits)
    ∙ ap (λ l. take width bits ++ l) (sym (bits_of-number_of back) ∙ ap₂ (λ w n. bits_of w n) all right)
