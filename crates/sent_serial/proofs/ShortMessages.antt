-- What sixteen value bits say, from their number.
--     message-good, message-bad      by its CRC, right or wrong
use Rattle.std.proofs.Common.{◌≡◌, ℕ, ◌/◌, ◌%◌, ◌^◌, ◌<◌, [], ◌∷◌, true, false, cond, nat_eq, take, drop, refl, sym, ap, ◌∙◌, arith}
use Rattle.std.proofs.lemmas.Bool.{eq-eqb, ne_eqb}
use Rattle.line_base.specs.declared.rule.Rule.TheVariants.{SerialCheck}
use Rattle.link_math.specs.Checks.{crc4_of}
use Rattle.link_math.specs.Division.{bits_of, number_of}
use Rattle.link_math.proofs.BitFields.{number_of-bits_of-field}
use Rattle.sent_serial.specs.declared.step.SerialStep.TheVariants.{Short, Bad}
use Rattle.sent_serial.specs.Short.{nibble_at, short_message}

message-said : (bits : ℕ) → bits < 2 ^ 16 → short_message (bits_of 16 bits) ≡ cond (nat_eq (bits % 16) (crc4_of (bits / 4096 ∷ bits / 16 % 256 / 16 ∷ bits / 16 % 256 % 16 ∷ []))) (Short (bits / 4096) (bits / 16 % 256)) (Bad SerialCheck)
unfolding short_message
message-said bits small =
    let list = bits_of 16 bits in
    let id : nibble_at 0 list ≡ bits / 4096 = number_of-bits_of-field 16 bits 0 4 12 small refl ∙ omega arith in
    let high : nibble_at 4 list ≡ bits / 16 % 256 / 16 = number_of-bits_of-field 16 bits 4 4 8 small refl ∙ omega arith in
    let low : nibble_at 8 list ≡ bits / 16 % 256 % 16 = number_of-bits_of-field 16 bits 8 4 4 small refl ∙ omega arith in
    let check : nibble_at 12 list ≡ bits % 16 = number_of-bits_of-field 16 bits 12 4 0 small refl ∙ omega arith in
    let value : number_of (take 8 (drop 4 list)) ≡ bits / 16 % 256 = number_of-bits_of-field 16 bits 4 8 4 small refl in
    rw (check, id, high, low, value) refl

pub message-good : (bits crc : ℕ) → bits < 2 ^ 16 → crc ≡ crc4_of (bits / 4096 ∷ bits / 16 % 256 / 16 ∷ bits / 16 % 256 % 16 ∷ []) → bits % 16 ≡ crc
    → Short (bits / 4096) (bits / 16 % 256) ≡ short_message (bits_of 16 bits)
message-good bits crc small is same =
    let test : nat_eq (bits % 16) (crc4_of (bits / 4096 ∷ bits / 16 % 256 / 16 ∷ bits / 16 % 256 % 16 ∷ [])) ≡ true = eq-eqb (bits % 16) (crc4_of (bits / 4096 ∷ bits / 16 % 256 / 16 ∷ bits / 16 % 256 % 16 ∷ [])) (same ∙ is) in
    sym (message-said bits small ∙ ap (λ t. cond t (Short (bits / 4096) (bits / 16 % 256)) (Bad SerialCheck)) test)

pub message-bad : (bits crc : ℕ) → bits < 2 ^ 16 → crc ≡ crc4_of (bits / 4096 ∷ bits / 16 % 256 / 16 ∷ bits / 16 % 256 % 16 ∷ []) → (bits % 16 ≡ crc → ⊥)
    → Bad SerialCheck ≡ short_message (bits_of 16 bits)
message-bad bits crc small is other =
    let test : nat_eq (bits % 16) (crc4_of (bits / 4096 ∷ bits / 16 % 256 / 16 ∷ bits / 16 % 256 % 16 ∷ [])) ≡ false = ne_eqb (bits % 16) (crc4_of (bits / 4096 ∷ bits / 16 % 256 / 16 ∷ bits / 16 % 256 % 16 ∷ [])) (λ same. other (same ∙ sym is)) in
    sym (message-said bits small ∙ ap (λ t. cond t (Short (bits / 4096) (bits / 16 % 256)) (Bad SerialCheck)) test)
