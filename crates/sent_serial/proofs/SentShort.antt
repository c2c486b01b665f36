-- Short messages that are sent, as they are read.
--     short-said      what a whole one says
--     short-is_reading      what is read of a part of one
use Rattle.std.proofs.Common.{◌≡◌, ℕ, zero, suc, ◌+◌, ◌*◌, ◌/◌, ◌%◌, ◌<◌, ◌≤◌, List, [], ◌∷◌, ◌++◌, true, false, get_or, map, take, length, refl, sym, ap, ap₂, ◌∙◌, length-append, arith}
use Rattle.std.proofs.lemmas.List.{get_or-append-add, get_or-replicate, take-append-le}
use Rattle.std.proofs.Math.ListN.{get_or-map}
use Rattle.std.proofs.Math.Seq.{take-length}
use Rattle.link_math.specs.Checks.{crc4_of}
use Rattle.link_math.proofs.Nibbles.{crc_small}
use Rattle.line_base.specs.Readings.{ended}
use Rattle.line_base.proofs.Standing.{read-told}
use Rattle.sent_serial.specs.declared.step.SerialStep.{SerialStep}
use Rattle.sent_serial.specs.declared.step.SerialStep.TheVariants as step
use Rattle.sent_serial.specs.Statuses.{start_bit, value_bit, clear_before}
use Rattle.sent_serial.specs.Short.{short_found, short_message, short_reading}
use Rattle.sent_serial.specs.Meanings.{short_crc}
use Rattle.sent_serial.specs.SentStatuses.{short_starts, short_statuses, short_values, statuses_sent}
use Rattle.sent_serial.specs.Sendings.{IsShort}
use Rattle.sent_serial.proofs.KeptBits.{length-map}
use Rattle.sent_serial.proofs.Prefixes.{short-none}
use Rattle.sent_serial.proofs.SentBits.{SameBits, front_at, same_at, same_length, start_bits-of, value_bits-of}
use Rattle.sent_serial.proofs.SentFields.{short_values-length, short_values-number}
use Rattle.sent_serial.proofs.SentParts.{IsReading, StandsIn}
use Rattle.sent_serial.proofs.ShortMessages.{message-good}
use Rattle.sent_serial.proofs.ShortSteps.{found-message, reads-skipped, reads-waiting}
use Rattle.sent_serial.proofs.StartBits.{clear-append, clear_here, no_clear}

-- ---- the bits of a message
starts-length : length short_starts ≡ 16
unfolding short_starts
starts-length = refl

short-values : (id value : ℕ) → map value_bit (short_statuses id value) ≡ short_values id value
unfolding short_statuses
short-values id value = value_bits-of (short_values id value) short_starts (short_values-length id value ∙ sym starts-length)

short-starts : (id value : ℕ) → map start_bit (short_statuses id value) ≡ short_starts
unfolding short_statuses
short-starts id value = start_bits-of (short_values id value) short_starts (short_values-length id value ∙ sym starts-length)

-- the first start bit alone is set
record AreShortStarts (all : List ℕ) : Type 0 where
  long : length all ≡ 16
  first : start_bit (get_or all 0 0) ≡ true
  others : (place : ℕ) → 0 < place → place < 16 → start_bit (get_or all place 0) ≡ false

clear_at : (place : ℕ) → 0 < place → place < 16 → get_or short_starts place false ≡ false
unfolding short_starts
clear_at zero some small = absurd (omega arith)
clear_at (suc place) some small = get_or-replicate 15 place false false (omega arith)

set_first : get_or short_starts 0 false ≡ true
unfolding short_starts
set_first = refl

short_starts-are : (id value : ℕ) → AreShortStarts (short_statuses id value)
short_starts-are id value =
    let all = short_statuses id value in
    let at = λ (place : ℕ). sym (get_or-map start_bit all place 0) ∙ ap (λ bits. get_or bits place false) (short-starts id value) in
    record {
      long = sym (length-map start_bit all) ∙ ap length (short-starts id value) ∙ starts-length;
      first = at 0 ∙ set_first;
      others = λ place some small. at place ∙ clear_at place some small;
    }

sent_starts : (message : SerialStep) → IsShort message → AreShortStarts (statuses_sent message)
unfolding statuses_sent
sent_starts step.Nothing sent = absurd sent
sent_starts (step.Short id value) sent = short_starts-are id value
sent_starts (step.Enhanced id value wide) sent = absurd sent
sent_starts (step.Bad rule) sent = absurd sent

-- ---- what it says
said : (id value : ℕ) → id < 16 → value < 256 → short_message (short_values id value) ≡ step.Short id value
said id value id_small value_small =
    let check = short_crc id value in
    let bits = 4096 * id + 16 * value + check in
    let check_small : check < 16 = crc_small _ in
    let first : bits / 4096 ≡ id = omega arith in
    let second : bits / 16 % 256 ≡ value = omega arith in
    let third : bits % 16 ≡ check = omega arith in
    let right : check ≡ crc4_of (bits / 4096 ∷ bits / 16 % 256 / 16 ∷ bits / 16 % 256 % 16 ∷ []) = ap₂ (λ i v. crc4_of (i ∷ v / 16 ∷ v % 16 ∷ [])) (sym first) (sym second) in
    ap short_message (sym (short_values-number id value id_small value_small))
    ∙ sym (message-good bits check (omega arith) right third) ∙ ap₂ step.Short first second

pub short-said : (message : SerialStep) → IsShort message → short_message (map value_bit (statuses_sent message)) ≡ message
unfolding statuses_sent
short-said step.Nothing sent = absurd sent
short-said (step.Short id value) sent = ap short_message (short-values id value) ∙ said id value sent.0 sent.1
short-said (step.Enhanced id value wide) sent = absurd sent
short-said (step.Bad rule) sent = absurd sent

-- ---- how it is read
all_clear : (statuses : List ℕ) → ((place : ℕ) → place < length statuses → start_bit (get_or statuses place 0) ≡ false) → clear_before statuses ≡ length statuses
all_clear [] each = no_clear
all_clear (status ∷ later) each = clear_here status later (each 0 (omega arith)) ∙ ap suc (all_clear later (λ place within. each (suc place) (omega arith)))

reads-message : (first : ℕ) (clears later : List ℕ) → start_bit first ≡ true → clear_before clears ≡ length clears → length clears ≡ 15
    → short_reading (first ∷ clears ++ later) ≡ short_message (map value_bit (first ∷ clears)) ∷ short_reading later
unfolding short_reading
reads-message first clears later starts all fifteen =
    let enough : 15 ≤ clear_before (clears ++ later) = omega (arith, clear-append clears later all) in
    let front : take 15 (clears ++ later) ≡ clears = take-append-le 15 clears later (omega arith) ∙ ap (λ n. take n clears) (sym fifteen) ∙ take-length clears in
    read-told short_found tt tt first clears later (short_message (map value_bit (first ∷ clears)) ∷ [])
    (found-message first (clears ++ later) starts enough ∙ ap₂ (λ l used. ended (short_message (map value_bit (first ∷ l))) used) front (sym fifteen))

waits : (message : SerialStep) (kept front : List ℕ) (next : ℕ) (left : List ℕ) → IsShort message → StandsIn message front next left → SameBits kept front → short_reading kept ≡ []
waits message [] front next left sent stands same = short-none
waits message (first ∷ later) front next left sent stands same =
    let are = sent_starts message sent in
    let many : suc (length later) ≡ length front = same_length (first ∷ later) front same in
    let few : length front < 16 = omega (arith, are.long, ap length stands.is, length-append front (next ∷ left)) in
    let starts : start_bit first ≡ true = front_at (first ∷ later) front (next ∷ left) (statuses_sent message) 0 same stands.is (omega arith) ∙ are.first in
    reads-waiting first later starts
    (all_clear later (λ place within.
    front_at (first ∷ later) front (next ∷ left) (statuses_sent message) (suc place) same stands.is (omega arith) ∙ are.others (suc place) (omega arith) (omega arith)))
    (omega arith)

whole : (message : SerialStep) (kept later : List ℕ) → IsShort message → SameBits kept (statuses_sent message) → short_reading (kept ++ later) ≡ message ∷ short_reading later
whole message [] later sent same = absurd (omega (arith, (sent_starts message sent).long, same_length [] (statuses_sent message) same))
whole message (first ∷ clears) later sent same =
    let are = sent_starts message sent in
    let many : suc (length clears) ≡ 16 = same_length (first ∷ clears) (statuses_sent message) same ∙ are.long in
    reads-message first clears later (same_at (first ∷ clears) (statuses_sent message) 0 same ∙ are.first)
    (all_clear clears (λ place within. same_at (first ∷ clears) (statuses_sent message) (suc place) same ∙ are.others (suc place) (omega arith) (omega arith)))
    (omega arith)
    ∙ ap (λ bits. short_message bits ∷ short_reading later) same.values
    ∙ ap (λ said. said ∷ short_reading later) (short-said message sent)

rest : (message : SerialStep) (front : List ℕ) (next : ℕ) (left : List ℕ) (status : ℕ) (later : List ℕ) → IsShort message → StandsIn message front next left → 0 < length front
    → start_bit status ≡ start_bit next → short_reading (status ∷ later) ≡ short_reading later
rest message front next left status later sent stands some same =
    let are = sent_starts message sent in
    let few : length front < 16 = omega (arith, are.long, ap length stands.is, length-append front (next ∷ left)) in
    let place : length front + 0 ≡ length front = omega arith in
    let here : get_or (statuses_sent message) (length front) 0 ≡ next =
    ap₂ (λ all n. get_or all n 0) stands.is (sym place) ∙ get_or-append-add front (next ∷ left) 0 0 in
    reads-skipped status later (same ∙ ap start_bit (sym here) ∙ are.others (length front) some few)

pub short-is_reading : IsReading IsShort short_reading
short-is_reading = record {
  none = short-none;
  plain = reads-skipped;
  waits = waits;
  whole = whole;
  rest = λ message front next left status later sent stands some same alike. rest message front next left status later sent stands some same;
}
