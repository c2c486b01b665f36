-- What eighteen statuses say, from their value bits and start bits as numbers.
--     checked_is      the bits that the CRC runs over
--     at_even, at_odd, checked_more, checked_all      the same, bit by bit
--     content-is, content-wide, content-narrow      by the form bit
--     message-good, message-bad      by the CRC, right or wrong
use Rattle.std.proofs.Common.{◌≡◌, ℕ, ◌+◌, ◌-◌, ◌*◌, ◌/◌, ◌%◌, ◌^◌, ◌<◌, ◌≤◌, List, [], ◌∷◌, ◌++◌, Bool, true, false, cond, nat_eq, get_or, map, take, drop, length, refl, sym, ap, ap₂, ◌∙◌, arith, if◌then◌else◌}
use Rattle.std.specs.Prelude.{flat_map}
use Rattle.std.proofs.lemmas.Bool.{eq-eqb, ne_eqb}
use Rattle.std.proofs.Math.ListN.{set}
use Rattle.std.proofs.lemmas.List.Edits.{fill_by_more}
use Rattle.std.proofs.lemmas.List.FromFn.{fill_by_all}
use Rattle.std.proofs.lemmas.List.{drop-map, length-drop, length-take-le, take-map}
use Rattle.line_base.specs.declared.rule.Rule.TheVariants.{SerialCheck}
use Rattle.link_math.specs.Checks.{crc6_of}
use Rattle.link_math.specs.Division.{bits_of, number_of}
use Rattle.link_math.proofs.BitFields.{number_of-append, number_of-field}
use Rattle.link_math.proofs.BitLists.{bits_of-mod, bits_of-number_of}
use Rattle.sent_serial.specs.declared.step.SerialStep.{SerialStep}
use Rattle.sent_serial.specs.declared.step.SerialStep.TheVariants.{Enhanced, Bad}
use Rattle.sent_serial.specs.Statuses.{merged, start_bit, start_bits, value_bit, value_bits}
use Rattle.sent_serial.specs.Enhanced.{checked_bits, enhanced_content, enhanced_message}
use Rattle.sent_serial.specs.Messages.{HasBits}
use Rattle.sent_serial.proofs.KeptBits.{length-map}

-- ---- fields
-- the bits of so many frames from a place on, with so many behind them
field : (bit_of : ℕ → Bool) (statuses : List ℕ) (number place count behind : ℕ) → number_of (map bit_of statuses) ≡ number → length statuses ≡ 18 → place + count + behind ≡ 18
    → number_of (map bit_of (take count (drop place statuses))) ≡ number / 2 ^ behind % 2 ^ count
field bit_of statuses number place count behind is many fits =
    ap number_of (sym (take-map bit_of count (drop place statuses)) ∙ ap (take count) (sym (drop-map bit_of place statuses)))
    ∙ number_of-field (map bit_of statuses) place count behind (omega (arith, length-map bit_of statuses))
    ∙ ap (λ n. n / 2 ^ behind % 2 ^ count) is

field_length : (bit_of : ℕ → Bool) (statuses : List ℕ) (place count : ℕ) → place + count ≤ length statuses → length (map bit_of (take count (drop place statuses))) ≡ count
field_length bit_of statuses place count fits =
    length-map bit_of (take count (drop place statuses)) ∙ length-take-le count (drop place statuses) (omega (arith, length-drop place statuses))

-- ---- the checked bits
merged-map : (statuses : List ℕ) → flat_map (λ status. value_bit status ∷ start_bit status ∷ []) statuses ≡ merged (map value_bit statuses) (map start_bit statuses)
unfolding merged
merged-map [] = refl
merged-map (status ∷ later) = ap (λ bits. value_bit status ∷ start_bit status ∷ bits) (merged-map later)

lowest : (bit_of : ℕ → Bool) (statuses : List ℕ) (number : ℕ) → number_of (map bit_of statuses) ≡ number → length statuses ≡ 18 → map bit_of (take 12 (drop 6 statuses)) ≡ bits_of 12 number
lowest bit_of statuses number is many =
    let bits = map bit_of (take 12 (drop 6 statuses)) in
    let is_number : number_of bits ≡ number % 4096 = field bit_of statuses number 6 12 0 is many refl ∙ omega arith in
    sym (bits_of-number_of bits) ∙ ap₂ bits_of (field_length bit_of statuses 6 12 (omega arith)) is_number ∙ bits_of-mod 12 number

pub checked_is : (statuses : List ℕ) (values starts : ℕ) → HasBits statuses values starts → checked_bits statuses ≡ merged (bits_of 12 values) (bits_of 12 starts)
checked_is statuses values starts has =
    merged-map (take 12 (drop 6 statuses))
    ∙ ap₂ merged (lowest value_bit statuses values has.value_bits has.as_many) (lowest start_bit statuses starts has.start_bits has.as_many)

-- the checked bit at a place, by division
abbrev pub checked_bit : ℕ → ℕ → ℕ → Bool
checked_bit values starts place = nat_eq ((if nat_eq (place % 2) 0 then values else starts) / 2 ^ (11 - place / 2) % 2) 1

pub at_even : (place register values starts : ℕ) → place % 2 ≡ 0 → register ≡ values → register ≡ (if nat_eq (place % 2) 0 then values else starts)
at_even place register values starts even is = is ∙ ap (λ t. cond t values starts) (sym (eq-eqb (place % 2) 0 even))

pub at_odd : (place register values starts : ℕ) → (place % 2 ≡ 0 → ⊥) → register ≡ starts → register ≡ (if nat_eq (place % 2) 0 then values else starts)
at_odd place register values starts odd is = is ∙ ap (λ t. cond t values starts) (sym (ne_eqb (place % 2) 0 odd))

-- one more of them, from the register that its place names
pub checked_more : (values starts place : ℕ) (register : ℕ) (bits : List Bool) (bit : Bool) → register ≡ (if nat_eq (place % 2) 0 then values else starts) → bit ≡ nat_eq (register / 2 ^ (11 - place / 2) % 2) 1
    → place < length bits → ((k : ℕ) → k < place → get_or bits k false ≡ checked_bit values starts k) → (k : ℕ) → k < place + 1 → get_or (set bits place bit) k false ≡ checked_bit values starts k
checked_more values starts place register bits bit is e within before k below =
    let here : bit ≡ checked_bit values starts place = e ∙ ap (λ r. nat_eq (r / 2 ^ (11 - place / 2) % 2) 1) is in
    ap (λ b. get_or (set bits place b) k false) here ∙ fill_by_more (checked_bit values starts) bits place false within before k below

pub checked_all : (values starts : ℕ) (bits : List Bool) → length bits ≡ 24 → ((k : ℕ) → k < 24 → get_or bits k false ≡ checked_bit values starts k) → bits ≡ merged (bits_of 12 values) (bits_of 12 starts)
unfolding merged bits_of
checked_all values starts bits many each = fill_by_all (checked_bit values starts) bits 24 false many each

-- ---- what a message says
abbrev pub contents : ℕ → ℕ → SerialStep
contents values starts =
    if nat_eq (starts / 1024 % 2) 1 then Enhanced (starts / 64 % 16) (starts / 2 % 16 * 4096 + values % 4096) true
    else Enhanced (starts / 64 % 16 * 16 + starts / 2 % 16) (values % 4096) false

pub content-is : (statuses : List ℕ) (values starts : ℕ) → HasBits statuses values starts → enhanced_content statuses ≡ contents values starts
unfolding enhanced_content
content-is statuses values starts has =
    let many = has.as_many in
    let form : number_of (start_bits 8 1 statuses) ≡ starts / 1024 % 2 = field start_bit statuses starts 7 1 10 has.start_bits many refl in
    let first : number_of (start_bits 9 4 statuses) ≡ starts / 64 % 16 = field start_bit statuses starts 8 4 6 has.start_bits many refl in
    let second : number_of (start_bits 14 4 statuses) ≡ starts / 2 % 16 = field start_bit statuses starts 13 4 1 has.start_bits many refl in
    let low : number_of (value_bits 7 12 statuses) ≡ values % 4096 = field value_bit statuses values 6 12 0 has.value_bits many refl ∙ omega arith in
    let wide : number_of (start_bits 14 4 statuses ++ value_bits 7 12 statuses) ≡ starts / 2 % 16 * 4096 + values % 4096 =
    number_of-append (start_bits 14 4 statuses) (value_bits 7 12 statuses)
    ∙ ap (λ n. number_of (start_bits 14 4 statuses) * 2 ^ n + number_of (value_bits 7 12 statuses)) (field_length value_bit statuses 6 12 (omega arith))
    ∙ ap₂ (λ a b. a * 4096 + b) second low in
    let id : number_of (start_bits 9 4 statuses ++ start_bits 14 4 statuses) ≡ starts / 64 % 16 * 16 + starts / 2 % 16 =
    number_of-append (start_bits 9 4 statuses) (start_bits 14 4 statuses)
    ∙ ap (λ n. number_of (start_bits 9 4 statuses) * 2 ^ n + number_of (start_bits 14 4 statuses)) (field_length start_bit statuses 13 4 (omega arith))
    ∙ ap₂ (λ a b. a * 16 + b) first second in
    rw (form, wide, id, first, low) refl

pub content-wide : (statuses : List ℕ) (values starts second : ℕ) → HasBits statuses values starts → second ≡ starts / 2 % 16 → starts / 1024 % 2 ≡ 1
    → Enhanced (starts / 64 % 16) (second * 4096 + values % 4096) (nat_eq (starts / 1024 % 2) 1) ≡ enhanced_content statuses
content-wide statuses values starts second has is wide =
    let test : nat_eq (starts / 1024 % 2) 1 ≡ true = eq-eqb (starts / 1024 % 2) 1 wide in
    ap₂ (λ n t. Enhanced (starts / 64 % 16) (n * 4096 + values % 4096) t) is test ∙ sym (content-is statuses values starts has ∙ rw test refl)

pub content-narrow : (statuses : List ℕ) (values starts : ℕ) → HasBits statuses values starts → (starts / 1024 % 2 ≡ 1 → ⊥)
    → Enhanced (starts / 64 % 16 * 16 + starts / 2 % 16) (values % 4096) (nat_eq (starts / 1024 % 2) 1) ≡ enhanced_content statuses
content-narrow statuses values starts has narrow =
    let test : nat_eq (starts / 1024 % 2) 1 ≡ false = ne_eqb (starts / 1024 % 2) 1 narrow in
    ap (λ t. Enhanced (starts / 64 % 16 * 16 + starts / 2 % 16) (values % 4096) t) test ∙ sym (content-is statuses values starts has ∙ rw test refl)

message-is : (statuses : List ℕ) (values starts crc : ℕ) → HasBits statuses values starts → crc ≡ crc6_of (merged (bits_of 12 values) (bits_of 12 starts))
    → enhanced_message statuses ≡ (if nat_eq (values / 4096 % 64) crc then enhanced_content statuses else Bad SerialCheck)
unfolding enhanced_message
message-is statuses values starts crc has is =
    let check : number_of (value_bits 1 6 statuses) ≡ values / 4096 % 64 = field value_bit statuses values 0 6 12 has.value_bits has.as_many refl in
    let right : crc6_of (checked_bits statuses) ≡ crc = ap crc6_of (checked_is statuses values starts has) ∙ sym is in
    ap₂ (λ a b. cond (nat_eq a b) (enhanced_content statuses) (Bad SerialCheck)) check right

pub message-good : (statuses : List ℕ) (values starts crc : ℕ) (step : SerialStep) → HasBits statuses values starts → crc ≡ crc6_of (merged (bits_of 12 values) (bits_of 12 starts))
    → values / 4096 % 64 ≡ crc → step ≡ enhanced_content statuses → step ≡ enhanced_message statuses
message-good statuses values starts crc step has is same says =
    let test : nat_eq (values / 4096 % 64) crc ≡ true = eq-eqb (values / 4096 % 64) crc same in
    says ∙ sym (message-is statuses values starts crc has is ∙ ap (λ t. cond t (enhanced_content statuses) (Bad SerialCheck)) test)

pub message-bad : (statuses : List ℕ) (values starts crc : ℕ) → HasBits statuses values starts → crc ≡ crc6_of (merged (bits_of 12 values) (bits_of 12 starts))
    → (values / 4096 % 64 ≡ crc → ⊥) → Bad SerialCheck ≡ enhanced_message statuses
message-bad statuses values starts crc has is other =
    let test : nat_eq (values / 4096 % 64) crc ≡ false = ne_eqb (values / 4096 % 64) crc other in
    sym (message-is statuses values starts crc has is ∙ ap (λ t. cond t (enhanced_content statuses) (Bad SerialCheck)) test)
