-- Statuses with the bits of a message are those of the message.
--     short-encoded      of a short one
--     check-encoded      of an enhanced one, from the bits of its frames 7 to 18
--     wide-encoded, narrow-encoded      from its fields
use Rattle.std.proofs.Common.{◌≡◌, ℕ, ◌+◌, ◌*◌, ◌/◌, ◌%◌, ◌<◌, List, [], ◌∷◌, ◌++◌, true, false, map, refl, ap, ap₂, ◌∙◌}
use Rattle.std.specs.List.{All}
use Rattle.link_math.specs.Checks.{crc4_of, crc6_of}
use Rattle.link_math.specs.Division.{bits_of}
use Rattle.link_math.proofs.BitLists.{bits_of-mod}
use Rattle.sent_serial.specs.Statuses.{HasTwoBits, merged, start_bit, value_bit}
use Rattle.sent_serial.specs.SentStatuses.{enhanced_statuses, short_starts, short_statuses, statuses_with_check, statuses_of}
use Rattle.sent_serial.proofs.SentBits.{statuses-from}
use Rattle.sent_serial.proofs.SentFields.{front-starts, front-values, lower-starts, short_values-number, start_bits-narrow, start_bits-wide}

one_start : bits_of 16 32768 ≡ short_starts
unfolding bits_of short_starts
one_start = refl

pub short-encoded : (statuses : List ℕ) (id value check : ℕ) → id < 16 → value < 256 → check ≡ crc4_of (id ∷ value / 16 ∷ value % 16 ∷ [])
    → map value_bit statuses ≡ bits_of 16 (4096 * id + 16 * value + check) → map start_bit statuses ≡ bits_of 16 32768 → All HasTwoBits statuses → statuses ≡ short_statuses id value
unfolding short_statuses
short-encoded statuses id value check id_small value_small is values starts two =
    statuses-from statuses two
    ∙ ap₂ statuses_of
    (values ∙ ap (λ c. bits_of 16 (4096 * id + 16 * value + c)) is ∙ short_values-number id value id_small value_small)
    (starts ∙ one_start)

pub check-encoded : (statuses : List ℕ) (check values free : ℕ) → free < 2048 → values < 4096 → check < 64 → check ≡ crc6_of (merged (bits_of 12 values) (bits_of 12 (258048 + free)))
    → map value_bit statuses ≡ bits_of 18 (4096 * check + values) → map start_bit statuses ≡ bits_of 18 (258048 + free) → All HasTwoBits statuses
    → statuses ≡ statuses_with_check (bits_of 12 values) (bits_of 12 free)
unfolding statuses_with_check
check-encoded statuses check values free small values_small check_small is value_bits start_bits two =
    statuses-from statuses two
    ∙ ap₂ statuses_of
    (value_bits ∙ front-values check values check_small values_small
    ∙ ap (λ c. bits_of 6 c ++ bits_of 12 values) (is ∙ ap (λ s. crc6_of (merged (bits_of 12 values) s)) (lower-starts free)))
    (start_bits ∙ front-starts free small)

pub wide-encoded : (id value free low : ℕ) → id < 16 → value < 65536 → free ≡ 1024 + 64 * id + 2 * (value / 4096) → low ≡ value % 4096
    → statuses_with_check (bits_of 12 low) (bits_of 12 free) ≡ enhanced_statuses id value true
unfolding enhanced_statuses
wide-encoded id value free low id_small value_small free_is low_is =
    ap₂ statuses_with_check (ap (bits_of 12) low_is ∙ bits_of-mod 12 value) (ap (bits_of 12) free_is ∙ start_bits-wide id value id_small value_small)

pub narrow-encoded : (id value free low : ℕ) → id < 256 → free ≡ 64 * (id / 16) + 2 * (id % 16) → low ≡ value
    → statuses_with_check (bits_of 12 low) (bits_of 12 free) ≡ enhanced_statuses id value false
unfolding enhanced_statuses
narrow-encoded id value free low id_small free_is low_is =
    ap₂ statuses_with_check (ap (bits_of 12) low_is) (ap (bits_of 12) free_is ∙ start_bits-narrow id value id_small)
