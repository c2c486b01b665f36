-- Messages as they are sent are read as what they say.
--     short-sent      a short one
--     enhanced-sent      an enhanced one
--     wide-said, narrow-said      what it says
use borrow.Author.Count.{below_more, below_none}
use Rattle.std.proofs.Common.{◌≡◌, ℕ, zero, suc, ◌+◌, ◌*◌, ◌/◌, ◌%◌, ◌^◌, ◌<◌, List, [], ◌∷◌, Bool, true, false, nat_eq, get_or, map, take, length, replicate, refl, sym, ap, ap₂, ◌∙◌, append-nil, arith}
use Rattle.std.proofs.Math.Nat.{mod-eq_of_lt}
use Rattle.std.proofs.Math.Seq.{take-length}
use Rattle.std.proofs.lemmas.Bool.{eq-eqb, ne_eqb}
use Rattle.link_math.specs.Checks.{crc4_of, crc6_of}
use Rattle.link_math.specs.Division.{bits_of, number_of}
use Rattle.link_math.proofs.BitFields.{number_of-bits_of}
use Rattle.link_math.proofs.BitLists.{bits_of-mod, length-bits_of}
use Rattle.sent_serial.specs.declared.step.SerialStep.TheVariants.{Short, Enhanced}
use Rattle.sent_serial.specs.Statuses.{clear_before, merged, set_before, start_bit, value_bit}
use Rattle.line_base.specs.Readings.{ended}
use Rattle.sent_serial.specs.Short.{short_message, short_reading}
use Rattle.sent_serial.specs.Enhanced.{begun_at, enhanced_content, enhanced_message, enhanced_reading}
use Rattle.sent_serial.specs.Messages.{HasBits, IsMessageOf}
use Rattle.sent_serial.proofs.EnhancedMessages.{content-is, message-good}
use Rattle.sent_serial.proofs.EnhancedSteps.{at-begun, begun-whole, reads-ended}
use Rattle.sent_serial.proofs.KeptBits.{length-map}
use Rattle.sent_serial.proofs.Prefixes.{enhanced-none}
use Rattle.sent_serial.proofs.ShortMessages.{message-good as short-good}
use Rattle.sent_serial.proofs.ShortSteps.{reads-whole}
use Rattle.sent_serial.proofs.StartBits.{clear_here, no_clear, set_here, set_none}

-- ---- a short message
all_clear : (statuses : List ℕ) (count : ℕ) → map start_bit statuses ≡ replicate count false → clear_before statuses ≡ length statuses
all_clear [] count are = no_clear
all_clear (status ∷ later) zero are = absurd (cc)
all_clear (status ∷ later) (suc count) are =
    let first : start_bit status ≡ false = cc in
    let rest : map start_bit later ≡ replicate count false = cc in
    clear_here status later first ∙ ap suc (all_clear later count rest)

one_start : (statuses : List ℕ) → map start_bit statuses ≡ bits_of 16 32768 → map start_bit statuses ≡ true ∷ replicate 15 false
unfolding bits_of
one_start statuses are = are

alone : (statuses : List ℕ) → map start_bit statuses ≡ true ∷ replicate 15 false → short_reading statuses ≡ short_message (map value_bit statuses) ∷ []
alone [] are = absurd (cc)
alone (first ∷ later) are =
    let starts : start_bit first ≡ true = cc in
    let clears : map start_bit later ≡ replicate 15 false = cc in
    let long : length later ≡ 15 = sym (length-map start_bit later) ∙ ap length clears in
    reads-whole first later starts (all_clear later 15 clears) long

pub short-sent : (statuses : List ℕ) (id value check : ℕ) → id < 16 → value < 256 → check < 16 → check ≡ crc4_of (id ∷ value / 16 ∷ value % 16 ∷ [])
    → map value_bit statuses ≡ bits_of 16 (4096 * id + 16 * value + check) → map start_bit statuses ≡ bits_of 16 32768 → short_reading statuses ≡ Short id value ∷ []
short-sent statuses id value check id_small value_small check_small is values starts =
    let bits = 4096 * id + 16 * value + check in
    let first : bits / 4096 ≡ id = omega arith in
    let second : bits / 16 % 256 ≡ value = omega arith in
    let third : bits % 16 ≡ check = omega arith in
    let right : check ≡ crc4_of (bits / 4096 ∷ bits / 16 % 256 / 16 ∷ bits / 16 % 256 % 16 ∷ []) = is ∙ ap₂ (λ i v. crc4_of (i ∷ v / 16 ∷ v % 16 ∷ [])) (sym first) (sym second) in
    alone statuses (one_start statuses starts)
    ∙ ap (λ all. short_message all ∷ []) values
    ∙ ap (λ step. step ∷ []) (sym (short-good bits check (omega arith) right third) ∙ ap₂ Short first second)

-- ---- an enhanced message
bit_at : (bit_of : ℕ → Bool) (statuses : List ℕ) (width register : ℕ) → map bit_of statuses ≡ bits_of width register → (place later : ℕ) → place + later + 1 ≡ width
    → bit_of (get_or statuses place 0) ≡ nat_eq (register / 2 ^ later % 2) 1
unfolding bits_of
bit_at bit_of [] zero register are place later fits = absurd (omega arith)
bit_at bit_of [] (suc width) register are place later fits = absurd (cc)
bit_at bit_of (status ∷ rest) zero register are place later fits = absurd (omega arith)
bit_at bit_of (status ∷ rest) (suc width) register are zero later fits =
    let first : bit_of status ≡ nat_eq (register / 2 ^ width % 2) 1 = cc in
    let same : width ≡ later = omega arith in
    first ∙ ap (λ n. nat_eq (register / 2 ^ n % 2) 1) same
bit_at bit_of (status ∷ rest) (suc width) register are (suc place) later fits =
    let others : map bit_of rest ≡ bits_of width register = cc in
    bit_at bit_of rest width register others place later (omega arith)

pub set_from : (statuses : List ℕ) (count : ℕ) → count < length statuses → ((k : ℕ) → k < count → start_bit (get_or statuses k 0) ≡ true) → start_bit (get_or statuses count 0) ≡ false → set_before statuses ≡ count
set_from [] count within all last = absurd (omega arith)
set_from (status ∷ later) zero within all last = set_none status later last
set_from (status ∷ later) (suc count) within all last =
    set_here status later (all 0 (omega arith)) ∙ ap suc (set_from later count (omega arith) (λ k below. all (suc k) (omega arith)) last)

-- the start bits of a message as it is sent
record AreStarts (starts : ℕ) : Type 0 where
  pub free : ℕ
  pub are : starts ≡ 258048 + free
  pub small : free < 2048
  pub zero_13 : free / 32 % 2 ≡ 0
  pub zero_18 : free % 2 ≡ 0

abbrev StartAt : List ℕ → ℕ → Bool → Type 0
StartAt statuses place bit = start_bit (get_or statuses place 0) ≡ bit

is_set : (n : ℕ) → n ≡ 1 → nat_eq n 1 ≡ true
is_set n e = eq-eqb n 1 e

is_clear : (n : ℕ) → n ≡ 0 → nat_eq n 1 ≡ false
is_clear n e = ne_eqb n 1 (λ one. absurd (omega arith))

six_set : (statuses : List ℕ) (starts : ℕ) → map start_bit statuses ≡ bits_of 18 starts → AreStarts starts → length statuses ≡ 18 → set_before statuses ≡ 6
six_set statuses starts bits are long =
    let P = λ (k : ℕ). StartAt statuses k true in
    let p0 : P 0 = bit_at start_bit statuses 18 starts bits 0 17 refl ∙ is_set (starts / 131072 % 2) (omega (arith, are.are, are.small)) in
    let p1 : P 1 = bit_at start_bit statuses 18 starts bits 1 16 refl ∙ is_set (starts / 65536 % 2) (omega (arith, are.are, are.small)) in
    let p2 : P 2 = bit_at start_bit statuses 18 starts bits 2 15 refl ∙ is_set (starts / 32768 % 2) (omega (arith, are.are, are.small)) in
    let p3 : P 3 = bit_at start_bit statuses 18 starts bits 3 14 refl ∙ is_set (starts / 16384 % 2) (omega (arith, are.are, are.small)) in
    let p4 : P 4 = bit_at start_bit statuses 18 starts bits 4 13 refl ∙ is_set (starts / 8192 % 2) (omega (arith, are.are, are.small)) in
    let p5 : P 5 = bit_at start_bit statuses 18 starts bits 5 12 refl ∙ is_set (starts / 4096 % 2) (omega (arith, are.are, are.small)) in
    let last : StartAt statuses 6 false = bit_at start_bit statuses 18 starts bits 6 11 refl ∙ is_clear (starts / 2048 % 2) (omega (arith, are.are, are.small)) in
    set_from statuses 6 (omega arith)
    (below_more P 5 (below_more P 4 (below_more P 3 (below_more P 2 (below_more P 1 (below_more P 0 (below_none P) p0) p1) p2) p3) p4) p5) last

sent_length : (statuses : List ℕ) (starts : ℕ) → map start_bit statuses ≡ bits_of 18 starts → length statuses ≡ 18
sent_length statuses starts bits = sym (length-map start_bit statuses) ∙ ap length bits ∙ length-bits_of 18 starts

sent_bits : (statuses : List ℕ) (values starts : ℕ) → values < 2 ^ 18 → starts < 2 ^ 18 → map value_bit statuses ≡ bits_of 18 values → map start_bit statuses ≡ bits_of 18 starts → HasBits statuses values starts
sent_bits statuses values starts values_small starts_small value_bits start_bits = record {
  as_many = sent_length statuses starts start_bits;
  value_bits = ap number_of value_bits ∙ number_of-bits_of 18 values ∙ mod-eq_of_lt values_small;
  start_bits = ap number_of start_bits ∙ number_of-bits_of 18 starts ∙ mod-eq_of_lt starts_small;
}

sent_reads : (statuses : List ℕ) (starts : ℕ) → map start_bit statuses ≡ bits_of 18 starts → AreStarts starts → enhanced_reading statuses ≡ enhanced_message statuses ∷ []
sent_reads statuses starts bits are =
    let long = sent_length statuses starts bits in
    let clear_13 : StartAt statuses 12 false = bit_at start_bit statuses 18 starts bits 12 5 refl ∙ is_clear (starts / 32 % 2) (omega (arith, are.are, are.small, are.zero_13)) in
    let clear_18 : StartAt statuses 17 false = bit_at start_bit statuses 18 starts bits 17 0 refl ∙ is_clear (starts / 1 % 2) (omega (arith, are.are, are.zero_18)) in
    let whole : take 18 statuses ≡ statuses = ap (λ n. take n statuses) (sym long) ∙ take-length statuses in
    let ends : begun_at statuses ≡ ended (enhanced_message statuses) 17 =
    at-begun statuses (six_set statuses starts bits are long) (omega arith)
    ∙ begun-whole statuses (omega arith) clear_13 clear_18 ∙ ap (λ all. ended (enhanced_message all) 17) whole in
    ap enhanced_reading (sym (append-nil statuses))
    ∙ reads-ended statuses [] (enhanced_message statuses) 17 (omega arith) (ap begun_at (append-nil statuses) ∙ ends)
    ∙ ap (λ steps. enhanced_message statuses ∷ steps) enhanced-none

pub enhanced-sent : (statuses : List ℕ) (check values free : ℕ) → free < 2048 → free / 32 % 2 ≡ 0 → free % 2 ≡ 0 → values < 4096 → check < 64
    → check ≡ crc6_of (merged (bits_of 12 values) (bits_of 12 (258048 + free))) → map value_bit statuses ≡ bits_of 18 (4096 * check + values) → map start_bit statuses ≡ bits_of 18 (258048 + free)
    → IsMessageOf statuses (258048 + free) values
enhanced-sent statuses check values free small zero_13 zero_18 values_small check_small is value_bits start_bits =
    let all = 4096 * check + values in
    let starts = 258048 + free in
    let has : HasBits statuses all starts = sent_bits statuses all starts (omega arith) (omega arith) value_bits start_bits in
    let low : all % 4096 ≡ values = omega arith in
    let same : bits_of 12 values ≡ bits_of 12 all = ap (bits_of 12) (sym low) ∙ bits_of-mod 12 all in
    let right : check ≡ crc6_of (merged (bits_of 12 all) (bits_of 12 starts)) = is ∙ ap (λ bits. crc6_of (merged bits (bits_of 12 starts))) same in
    let high : all / 4096 % 64 ≡ check = omega arith in
    record {
      check = check;
      bits = has;
      reads = sent_reads statuses starts start_bits (record { free = free; are = refl; small = small; zero_13 = zero_13; zero_18 = zero_18 })
          ∙ ap (λ step. step ∷ []) (sym (message-good statuses all starts check (enhanced_content statuses) has right high refl));
    }

pub wide-said : (statuses : List ℕ) (id value free low : ℕ) → id < 16 → value < 65536 → free ≡ 1024 + 64 * id + 2 * (value / 4096) → low ≡ value % 4096 → IsMessageOf statuses (258048 + free) low
    → enhanced_reading statuses ≡ Enhanced id value true ∷ []
wide-said statuses id value free low id_small value_small free_is low_is sent =
    let starts = 258048 + free in
    let values = 4096 * sent.check + low in
    let form : nat_eq (starts / 1024 % 2) 1 ≡ true = is_set (starts / 1024 % 2) (omega arith) in
    let first : starts / 64 % 16 ≡ id = omega arith in
    let second : starts / 2 % 16 * 4096 + values % 4096 ≡ value = omega arith in
    sent.reads ∙ ap (λ step. step ∷ []) (content-is statuses values starts sent.bits ∙ rw form (ap₂ (λ i v. Enhanced i v true) first second))

pub narrow-said : (statuses : List ℕ) (id value free low : ℕ) → id < 256 → value < 4096 → free ≡ 64 * (id / 16) + 2 * (id % 16) → low ≡ value → IsMessageOf statuses (258048 + free) low
    → enhanced_reading statuses ≡ Enhanced id value false ∷ []
narrow-said statuses id value free low id_small value_small free_is low_is sent =
    let starts = 258048 + free in
    let values = 4096 * sent.check + low in
    let form : nat_eq (starts / 1024 % 2) 1 ≡ false = is_clear (starts / 1024 % 2) (omega arith) in
    let first : starts / 64 % 16 * 16 + starts / 2 % 16 ≡ id = omega arith in
    let second : values % 4096 ≡ value = omega arith in
    sent.reads ∙ ap (λ step. step ∷ []) (content-is statuses values starts sent.bits ∙ rw form (ap₂ (λ i v. Enhanced i v false) first second))
