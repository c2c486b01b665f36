-- The line of a message that fits is read as that message.
use Rattle.std.proofs.Common.{◌≡◌, ℕ, suc, ◌+◌, ◌^◌, ◌<◌, ◌≤◌, ◌==◌, nat_lt, not, ◌&&◌, Bool, true, false, Option, Some, None, Result, Ok, ok_or, List, [], ◌∷◌, codes, length, map, decimal, refl, ◌∙◌, ap, arith}
use Rattle.std.proofs.Math.Nat.{pow-le-pow_right}
use Rattle.std.proofs.lemmas.Bool.{and_parts, ltb-true, false≢true}
use Rattle.std.proofs.lemmas.List.{length-map}
use Rattle.std.proofs.lemmas.Fmt.{decimal_digit}
use Rattle.line_base.specs.Nibbles.{AreNibbles}
use Rattle.line_base.specs.Texts.{number_in}
use Rattle.line_base.specs.Steps.{◌>>=◌, check}
use Rattle.line_base.specs.declared.faults.LineFault.{LineFault}
use Rattle.line_base.specs.declared.faults.LineFault.TheVariants.{Number, TooLarge}
use Rattle.sent_frame.specs.declared.frame.SentFrame.{SentFrame}
use Rattle.sent_frame.specs.Setup as sent
use Rattle.sent_fast.specs.declared.layout.Layout.{Layout}
use Rattle.spc_link.specs.Setup as spc
use Rattle.psi5_frame.specs.Setup as psi5
use Rattle.psi5_downlink.specs.Setup as tooth
use Rattle.psi5_frame.specs.declared.burst.Payload.{Payload}
use Rattle.psi5_frame.specs.declared.setup.Parts.{Parts}
use Rattle.psi5_downlink.specs.declared.down.Form.{Form}
use Rattle.psi5_downlink.specs.declared.down.Form.TheVariants as form
use Rattle.psi5_downlink.specs.declared.down.Down.{Down}
use Rattle.psi5_downlink.specs.Frames.{wide}
use Rattle.receiver_core.specs.declared.message.Message.{Message}
use Rattle.receiver_core.specs.declared.message.Message.TheVariants as message
use Rattle.receiver_core.specs.declared.setup.Serial.{Serial}
use Rattle.receiver_core.specs.declared.setup.Serial.TheVariants as serial
use Rattle.receiver_core.specs.declared.setup.SyncSlots.{SyncSlots}
use Rattle.receiver_core.specs.declared.setup.ChannelSetup.{ChannelSetup}
use Rattle.receiver_core.specs.declared.setup.ChannelSetup.TheVariants.{Sent, Psi5, Spc, Tooth}
use Rattle.report_text.specs.declared.fault.TextFault.{TextFault}
use Rattle.report_text.specs.declared.fault.TextFault.TheVariants as text_fault
use Rattle.report_text.specs.Fields.{fields_of, line_of}
use Rattle.report_text.specs.Decimals.{has_leading_zero, number_spelled}
use Rattle.report_text.specs.Hex.{hex_digit, hex_text, hex_in, data_in}
use Rattle.report_text.specs.Sent.{parts_fields}
use Rattle.report_text.specs.Psi5.{slot_text, payload_fields}
use Rattle.report_text.proofs.Steps.{bind_ok, check_ok, some_ok}
use Rattle.report_text.proofs.Cutting.{are_free, fields_back}
use Rattle.report_text.proofs.Decimals.{digit_again, number_again}
use Rattle.report_text.proofs.Spellings.{hex, data_nibbles, numbers}
use Rattle.report_text.proofs.Told.{field_free}
use Rattle.message_lines.specs.Fields.{value_read}
use Rattle.message_lines.specs.Spellings.{spelled, hex_spelled, nibbles_spelled, decimal_spelled, digit_spelled, slot_spelled}
use Rattle.message_lines.specs.Messages.{status_limit, message_fits, HaveShortParts, IsMade, HasNibbles, payload_fits}
use Rattle.message_lines.specs.Lines.{frame_spelled, short_spelled, narrow_spelled, wide_spelled, answer_spelled, silent_spelled, sync_spelled, payload_spelled, burst_spelled, down_spelled, words_of, behind_word, message_spelled, message_in, message_fields, message_text}

-- ---- values from their fields

read_again : {A : Type 0} (spelling : List ℕ → Result A LineFault) (text : List ℕ) (x : A) (others : List (List ℕ)) → spelling text ≡ Ok x → value_read spelling (text ∷ others) ≡ Ok (x, others)
unfolding value_read
read_again {A} spelling text x others e = ap (λ (r : Result A LineFault). r >>= λ value. Ok (value, others)) e

hex_again : (width number : ℕ) (others : List (List ℕ)) → number < 16 ^ suc width → value_read (hex_spelled (suc width)) (hex_text (suc width) number ∷ others) ≡ Ok (number, others)
hex_again width number others low = read_again (hex_spelled (suc width)) (hex_text (suc width) number) number others (ap (λ (r : Result ℕ TextFault). spelled r) ((hex width).again number low))

decimal_read : (number : ℕ) → number < 2 ^ 64 → decimal_spelled (decimal number) ≡ Ok number
unfolding decimal_spelled number_spelled
decimal_read number low =
    let found = bind_ok (ok_or (number_in (decimal number)) text_fault.Number) (λ n. check (not (has_leading_zero (decimal number))) text_fault.Number >>= λ _. check (nat_lt n (2 ^ 64)) text_fault.Range >>= λ _. Ok n) number (number_again number low) in
    let plain = check_ok (not (has_leading_zero (decimal number))) text_fault.Number (check (nat_lt found.0 (2 ^ 64)) text_fault.Range >>= λ _. Ok found.0) number found.2 in
    let within = check_ok (nat_lt found.0 (2 ^ 64)) text_fault.Range (Ok found.0) number plain.1 in
    let own : Some found.0 ≡ Some number = (let e = within.1 in cc) in
    rw (some_ok (number_in (decimal number)) text_fault.Number found.0 found.1 ∙ own, plain.0) refl

decimal_again : (number : ℕ) (others : List (List ℕ)) → number < 2 ^ 64 → value_read decimal_spelled (decimal number ∷ others) ≡ Ok (number, others)
decimal_again number others low = read_again decimal_spelled (decimal number) number others (decimal_read number low)

nibbles_read : (count : ℕ) (nibbles : List ℕ) → AreNibbles nibbles → (length nibbles == count) ≡ true → nibbles_spelled count (map hex_digit nibbles) ≡ Ok nibbles
unfolding nibbles_spelled
nibbles_read count nibbles own long =
    ap (λ (t : Bool). check t Number >>= λ _. spelled (data_in (map hex_digit nibbles))) (ap (λ n. n == count) (length-map nibbles hex_digit) ∙ long)
    ∙ ap (λ (r : Result (List ℕ) TextFault). spelled r) (data_nibbles.again nibbles own)

nibbles_again : (count : ℕ) (nibbles : List ℕ) (others : List (List ℕ)) → AreNibbles nibbles → (length nibbles == count) ≡ true → value_read (nibbles_spelled count) (map hex_digit nibbles ∷ others) ≡ Ok (nibbles, others)
nibbles_again count nibbles others own long = read_again (nibbles_spelled count) (map hex_digit nibbles) nibbles others (nibbles_read count nibbles own long)

-- ---- no space in a field

hex_free : (width number : ℕ) (others : List (List ℕ)) → number < 16 ^ suc width → are_free others ≡ true → are_free (hex_text (suc width) number ∷ others) ≡ true
hex_free width number others low free = field_free (hex_text (suc width)) (hex_in (suc width)) (λ n. n < 16 ^ suc width) (hex width) number others low free

number_free : (number : ℕ) (others : List (List ℕ)) → number < 2 ^ 64 → are_free others ≡ true → are_free (decimal number ∷ others) ≡ true
number_free number others low free = field_free decimal number_spelled (λ n. n < 2 ^ 64) numbers number others low free

data_free : (nibbles : List ℕ) → AreNibbles nibbles → are_free (map hex_digit nibbles ∷ []) ≡ true
data_free nibbles own = field_free (map hex_digit) data_in AreNibbles data_nibbles nibbles [] own refl

-- ---- frames

-- a frame's status, whatever serial messages there are
status_low : (form : Serial) (status : ℕ) → nat_lt status (status_limit form) ≡ true → status < 16 ^ 1
status_low serial.Absent status e = ltb-true status 16 e
status_low serial.Short status e = (let low = ltb-true status 4 e in omega arith)
status_low serial.Enhanced status e = (let low = ltb-true status 4 e in omega arith)

frame_again : (count : ℕ) (frame : SentFrame) → frame.status < 16 ^ 1 → AreNibbles frame.nibbles → (length frame.nibbles == count) ≡ true → frame_spelled count (parts_fields frame) ≡ Ok (message.Frame frame)
unfolding frame_spelled
frame_again count frame low own long = rw (hex_again 0 frame.status (map hex_digit frame.nibbles ∷ []) low, nibbles_again count frame.nibbles [] own long) refl

answer_again : (count code : ℕ) (frame : SentFrame) → code < 2 ^ 64 → frame.status < 16 ^ 1 → AreNibbles frame.nibbles → (length frame.nibbles == count) ≡ true → answer_spelled count (decimal code ∷ parts_fields frame) ≡ Ok (message.Answer code frame)
unfolding answer_spelled
answer_again count code frame few low own long = rw (decimal_again code (parts_fields frame) few, hex_again 0 frame.status (map hex_digit frame.nibbles ∷ []) low, nibbles_again count frame.nibbles [] own long) refl

silent_again : (code : ℕ) → code < 2 ^ 64 → silent_spelled (decimal code ∷ []) ≡ Ok (message.Silent code)
unfolding silent_spelled
silent_again code few = rw (decimal_again code [] few) refl

frame_free : (frame : SentFrame) → frame.status < 16 ^ 1 → AreNibbles frame.nibbles → are_free (parts_fields frame) ≡ true
frame_free frame low own = hex_free 0 frame.status (map hex_digit frame.nibbles ∷ []) low (data_free frame.nibbles own)

-- ---- serial messages

short_again : (id value : ℕ) → id < 16 ^ 1 → value < 16 ^ 2 → short_spelled (hex_text 1 id ∷ hex_text 2 value ∷ []) ≡ Ok (message.Short id value)
unfolding short_spelled
short_again id value a b = rw (hex_again 0 id (hex_text 2 value ∷ []) a, hex_again 1 value [] b) refl

narrow_again : (id value : ℕ) → id < 16 ^ 2 → value < 16 ^ 3 → narrow_spelled (hex_text 2 id ∷ hex_text 3 value ∷ []) ≡ Ok (message.Enhanced id value false)
unfolding narrow_spelled
narrow_again id value a b = rw (hex_again 1 id (hex_text 3 value ∷ []) a, hex_again 2 value [] b) refl

wide_again : (id value : ℕ) → id < 16 ^ 1 → value < 16 ^ 4 → wide_spelled (hex_text 1 id ∷ hex_text 4 value ∷ []) ≡ Ok (message.Enhanced id value true)
unfolding wide_spelled
wide_again id value a b = rw (hex_again 0 id (hex_text 4 value ∷ []) a, hex_again 3 value [] b) refl

-- ---- bursts

-- a value of so few bits fits the digits of its field
bits_low : (width most value limit : ℕ) → width ≤ most → 2 ^ most ≤ limit → nat_lt value (2 ^ width) ≡ true → value < limit
bits_low width most value limit few within e =
    let below = ltb-true value (2 ^ width) e in
    let two : 0 < 2 = omega arith in
    let more : 2 ^ width ≤ 2 ^ most = pow-le-pow_right two few in
    omega (arith, below, more, within)

pub record HasDigits (p : Payload) : Type 0 where
  pub m : p.m < 16 ^ 1
  pub f : p.f < 16 ^ 1
  pub s : p.s < 16 ^ 1
  pub b : p.b < 16 ^ 3
  pub a : p.a < 16 ^ 6

has_digits : (parts : Parts) (p : Payload) → HaveShortParts parts → payload_fits parts p ≡ true → HasDigits p
has_digits parts p short fits =
    let m = and_parts (nat_lt p.m (2 ^ parts.m)) _ fits in
    let f = and_parts (nat_lt p.f (2 ^ parts.f)) _ m.1 in
    let s = and_parts (nat_lt p.s (2 ^ parts.s)) _ f.1 in
    let b = and_parts (nat_lt p.b (2 ^ parts.b)) (nat_lt p.a (2 ^ parts.a)) s.1 in
    record {
      m = bits_low parts.m 4 p.m (16 ^ 1) short.m (omega arith) m.0;
      f = bits_low parts.f 4 p.f (16 ^ 1) short.f (omega arith) f.0;
      s = bits_low parts.s 4 p.s (16 ^ 1) short.s (omega arith) s.0;
      b = bits_low parts.b 12 p.b (16 ^ 3) short.b (omega arith) b.0;
      a = bits_low parts.a 24 p.a (16 ^ 6) short.a (omega arith) b.1;
    }

payload_again : (p : Payload) → HasDigits p → payload_spelled (payload_fields p) ≡ Ok p
unfolding payload_spelled
payload_again p own =
    rw (
      hex_again 0 p.m (hex_text 1 p.f ∷ hex_text 1 p.s ∷ hex_text 3 p.b ∷ hex_text 6 p.a ∷ []) own.m,
      hex_again 0 p.f (hex_text 1 p.s ∷ hex_text 3 p.b ∷ hex_text 6 p.a ∷ []) own.f,
      hex_again 0 p.s (hex_text 3 p.b ∷ hex_text 6 p.a ∷ []) own.s,
      hex_again 2 p.b (hex_text 6 p.a ∷ []) own.b,
      hex_again 5 p.a [] own.a,
    ) refl

payload_free : (p : Payload) → HasDigits p → are_free (payload_fields p) ≡ true
payload_free p own =
    hex_free 0 p.m (hex_text 1 p.f ∷ hex_text 1 p.s ∷ hex_text 3 p.b ∷ hex_text 6 p.a ∷ []) own.m
    (hex_free 0 p.f (hex_text 1 p.s ∷ hex_text 3 p.b ∷ hex_text 6 p.a ∷ []) own.f
    (hex_free 0 p.s (hex_text 3 p.b ∷ hex_text 6 p.a ∷ []) own.s
    (hex_free 2 p.b (hex_text 6 p.a ∷ []) own.b
    (hex_free 5 p.a [] own.a refl))))

digit_read : (slot : ℕ) → slot < 8 → digit_spelled ((48 + slot) ∷ []) ≡ Ok (Some slot)
digit_read slot low = ap (λ (r : Result ℕ TextFault). spelled r >>= λ slot. Ok (Some slot)) (digit_again slot (omega (arith, low)))

-- a slot where there are slots, and none where there are none
some_slot : (slot : ℕ) → slot < 8 → slot_spelled true (slot_text (Some slot)) ≡ Ok (Some slot)
unfolding slot_spelled
some_slot slot low = ap digit_spelled (decimal_digit slot (omega (arith, low))) ∙ digit_read slot low

no_slot : slot_spelled false (slot_text None) ≡ Ok None
unfolding slot_spelled
no_slot = refl

burst_again : (has_slots : Bool) (slot : Option ℕ) (p : Payload) → slot_spelled has_slots (slot_text slot) ≡ Ok slot → HasDigits p → burst_spelled has_slots (slot_text slot ∷ payload_fields p) ≡ Ok (message.Burst slot p)
unfolding burst_spelled
burst_again has_slots slot p read own = rw (read_again (slot_spelled has_slots) (slot_text slot) slot (payload_fields p) read, payload_again p own) refl

sync_again : sync_spelled [] ≡ Ok message.Sync
unfolding sync_spelled
sync_again = refl

-- ---- downlinks

wide_few : (form : Form) → wide form ≤ 9
wide_few form.Short = omega arith
wide_few form.Long = omega arith
wide_few form.XLong = omega arith

down_again : (down : Down) → down.address < 8 → down.function < 8 → down.register < 16 ^ 3 → down.value < 16 ^ 3 → down_spelled (decimal down.address ∷ decimal down.function ∷ hex_text 3 down.register ∷ hex_text 3 down.value ∷ []) ≡ Ok (message.Down down)
unfolding down_spelled
down_again down a f r v =
    rw (
      decimal_again down.address (decimal down.function ∷ hex_text 3 down.register ∷ hex_text 3 down.value ∷ []) (omega (arith, a)),
      decimal_again down.function (hex_text 3 down.register ∷ hex_text 3 down.value ∷ []) (omega (arith, f)),
      hex_again 2 down.register (hex_text 3 down.value ∷ []) r,
      hex_again 2 down.value [] v,
    ) refl

-- ---- lines

-- a line is read by its fields, if they have no space
read_line : (setup : ChannelSetup) (m : Message) (word : List ℕ) (fields : List (List ℕ)) → message_fields m ≡ word ∷ fields → are_free (word ∷ fields) ≡ true → message_spelled (words_of setup) (word ∷ fields) ≡ Ok m → message_fits setup m ≡ true → message_in setup (message_text m) ≡ Ok m
unfolding message_in message_text
read_line setup m word fields e free said fits =
    ap (λ (fs : List (List ℕ)). message_spelled (words_of setup) fs >>= λ message. check (message_fits setup message) TooLarge >>= λ _. Ok message) (ap (λ fs. fields_of (line_of fs)) e ∙ fields_back word fields free)
    ∙ ap (λ (r : Result Message LineFault). r >>= λ message. check (message_fits setup message) TooLarge >>= λ _. Ok message) said
    ∙ ap (λ (t : Bool). check t TooLarge >>= λ _. Ok m) fits

frame_line : (line : ℕ) (setup : sent.Settings) (layout : Layout) (form : Serial) (frame : SentFrame) → AreNibbles frame.nibbles → message_fits (Sent line setup layout form) (message.Frame frame) ≡ true → message_in (Sent line setup layout form) (message_text (message.Frame frame)) ≡ Ok (message.Frame frame)
unfolding message_spelled behind_word
frame_line line setup layout form frame own fits =
    let both = and_parts (nat_lt frame.status (status_limit form)) (length frame.nibbles == setup.nibbles) fits in
    let low = status_low form frame.status both.0 in
    read_line (Sent line setup layout form) (message.Frame frame) (codes "frame") (parts_fields frame) refl (frame_free frame low own) (frame_again setup.nibbles frame low own both.1) fits

short_line : (line : ℕ) (setup : sent.Settings) (layout : Layout) (id value : ℕ) → message_fits (Sent line setup layout serial.Short) (message.Short id value) ≡ true → message_in (Sent line setup layout serial.Short) (message_text (message.Short id value)) ≡ Ok (message.Short id value)
unfolding message_spelled behind_word
short_line line setup layout id value fits =
    let both = and_parts (nat_lt id (2 ^ 4)) (nat_lt value (2 ^ 8)) fits in
    let a = ltb-true id (2 ^ 4) both.0 in
    let b = ltb-true value (2 ^ 8) both.1 in
    read_line (Sent line setup layout serial.Short) (message.Short id value) (codes "short") (hex_text 1 id ∷ hex_text 2 value ∷ []) refl
    (hex_free 0 id (hex_text 2 value ∷ []) a (hex_free 1 value [] b refl)) (short_again id value a b) fits

narrow_line : (line : ℕ) (setup : sent.Settings) (layout : Layout) (id value : ℕ) → message_fits (Sent line setup layout serial.Enhanced) (message.Enhanced id value false) ≡ true → message_in (Sent line setup layout serial.Enhanced) (message_text (message.Enhanced id value false)) ≡ Ok (message.Enhanced id value false)
unfolding message_spelled behind_word
narrow_line line setup layout id value fits =
    let both = and_parts (nat_lt id (2 ^ 8)) (nat_lt value (2 ^ 12)) fits in
    let a = ltb-true id (2 ^ 8) both.0 in
    let b = ltb-true value (2 ^ 12) both.1 in
    read_line (Sent line setup layout serial.Enhanced) (message.Enhanced id value false) (codes "enhanced8") (hex_text 2 id ∷ hex_text 3 value ∷ []) refl
    (hex_free 1 id (hex_text 3 value ∷ []) a (hex_free 2 value [] b refl)) (narrow_again id value a b) fits

wide_line : (line : ℕ) (setup : sent.Settings) (layout : Layout) (id value : ℕ) → message_fits (Sent line setup layout serial.Enhanced) (message.Enhanced id value true) ≡ true → message_in (Sent line setup layout serial.Enhanced) (message_text (message.Enhanced id value true)) ≡ Ok (message.Enhanced id value true)
unfolding message_spelled behind_word
wide_line line setup layout id value fits =
    let both = and_parts (nat_lt id (2 ^ 4)) (nat_lt value (2 ^ 16)) fits in
    let a = ltb-true id (2 ^ 4) both.0 in
    let b = ltb-true value (2 ^ 16) both.1 in
    read_line (Sent line setup layout serial.Enhanced) (message.Enhanced id value true) (codes "enhanced4") (hex_text 1 id ∷ hex_text 4 value ∷ []) refl
    (hex_free 0 id (hex_text 4 value ∷ []) a (hex_free 3 value [] b refl)) (wide_again id value a b) fits

answer_line : (line : ℕ) (setup : spc.Settings) (code : ℕ) (frame : SentFrame) → length setup.windows ≤ 8 → AreNibbles frame.nibbles → message_fits (Spc line setup) (message.Answer code frame) ≡ true → message_in (Spc line setup) (message_text (message.Answer code frame)) ≡ Ok (message.Answer code frame)
unfolding message_spelled behind_word
answer_line line setup code frame made own fits =
    let first = and_parts (nat_lt code (length setup.windows)) (nat_lt frame.status 16 && (length frame.nibbles == setup.sent.nibbles)) fits in
    let both = and_parts (nat_lt frame.status 16) (length frame.nibbles == setup.sent.nibbles) first.1 in
    let below = ltb-true code (length setup.windows) first.0 in
    let few : code < 2 ^ 64 = omega arith in
    let low : frame.status < 16 ^ 1 = ltb-true frame.status 16 both.0 in
    read_line (Spc line setup) (message.Answer code frame) (codes "answer") (decimal code ∷ parts_fields frame) refl
    (number_free code (parts_fields frame) few (frame_free frame low own)) (answer_again setup.sent.nibbles code frame few low own both.1) fits

silent_line : (line : ℕ) (setup : spc.Settings) (code : ℕ) → length setup.windows ≤ 8 → message_fits (Spc line setup) (message.Silent code) ≡ true → message_in (Spc line setup) (message_text (message.Silent code)) ≡ Ok (message.Silent code)
unfolding message_spelled behind_word
silent_line line setup code made fits =
    let below = ltb-true code (length setup.windows) fits in
    let few : code < 2 ^ 64 = omega arith in
    read_line (Spc line setup) (message.Silent code) (codes "silent") (decimal code ∷ []) refl (number_free code [] few refl) (silent_again code few) fits

no_slot_line : (line : ℕ) (setup : psi5.Settings) (init : Option ℕ) (p : Payload) → HaveShortParts setup.parts → message_fits (Psi5 line setup None init) (message.Burst None p) ≡ true → message_in (Psi5 line setup None init) (message_text (message.Burst None p)) ≡ Ok (message.Burst None p)
unfolding message_spelled behind_word
no_slot_line line setup init p short fits =
    let own = has_digits setup.parts p short fits in
    read_line (Psi5 line setup None init) (message.Burst None p) (codes "burst") (slot_text None ∷ payload_fields p) refl (payload_free p own) (burst_again false None p no_slot own) fits

slot_line : (line : ℕ) (setup : psi5.Settings) (slots : SyncSlots) (init : Option ℕ) (slot : ℕ) (p : Payload) → HaveShortParts setup.parts → length slots.setup.windows ≤ 8 → message_fits (Psi5 line setup (Some slots) init) (message.Burst (Some slot) p) ≡ true → message_in (Psi5 line setup (Some slots) init) (message_text (message.Burst (Some slot) p)) ≡ Ok (message.Burst (Some slot) p)
unfolding message_spelled behind_word
slot_line line setup slots init slot p short few fits =
    let first = and_parts (nat_lt slot (length slots.setup.windows)) (payload_fits setup.parts p) fits in
    let below = ltb-true slot (length slots.setup.windows) first.0 in
    let low : slot < 8 = omega arith in
    let own = has_digits setup.parts p short first.1 in
    read_line (Psi5 line setup (Some slots) init) (message.Burst (Some slot) p) (codes "burst") (slot_text (Some slot) ∷ payload_fields p) refl (number_free slot (payload_fields p) (omega arith) (payload_free p own)) (burst_again true (Some slot) p (some_slot slot low) own) fits

sync_line : (line : ℕ) (setup : psi5.Settings) (slots : SyncSlots) (init : Option ℕ) → message_in (Psi5 line setup (Some slots) init) (message_text message.Sync) ≡ Ok message.Sync
unfolding message_spelled behind_word
sync_line line setup slots init = read_line (Psi5 line setup (Some slots) init) message.Sync (codes "sync") [] refl refl sync_again refl

down_line : (line : ℕ) (setup : tooth.Settings) (down : Down) → message_fits (Tooth line setup) (message.Down down) ≡ true → message_in (Tooth line setup) (message_text (message.Down down)) ≡ Ok (message.Down down)
unfolding message_spelled behind_word
down_line line setup down fits =
    let a = and_parts (nat_lt down.address 8) _ fits in
    let f = and_parts (nat_lt down.function 8) _ a.1 in
    let both = and_parts (nat_lt down.register (2 ^ wide setup.form)) (nat_lt down.value (2 ^ wide setup.form)) f.1 in
    let address = ltb-true down.address 8 a.0 in
    let function = ltb-true down.function 8 f.0 in
    let register = bits_low (wide setup.form) 9 down.register (16 ^ 3) (wide_few setup.form) (omega arith) both.0 in
    let value = bits_low (wide setup.form) 9 down.value (16 ^ 3) (wide_few setup.form) (omega arith) both.1 in
    read_line (Tooth line setup) (message.Down down) (codes "down") (decimal down.address ∷ decimal down.function ∷ hex_text 3 down.register ∷ hex_text 3 down.value ∷ []) refl
    (number_free down.address (decimal down.function ∷ hex_text 3 down.register ∷ hex_text 3 down.value ∷ []) (omega arith)
    (number_free down.function (hex_text 3 down.register ∷ hex_text 3 down.value ∷ []) (omega arith)
    (hex_free 2 down.register (hex_text 3 down.value ∷ []) register (hex_free 2 down.value [] value refl))))
    (down_again down address function register value) fits

-- a message that fits a channel is read from its line
pub written_again : (setup : ChannelSetup) (m : Message) → IsMade setup → HasNibbles m → message_fits setup m ≡ true → message_in setup (message_text m) ≡ Ok m
written_again (Sent line setup layout form) (message.Frame frame) made own fits = frame_line line setup layout form frame own fits
written_again (Sent line setup layout serial.Short) (message.Short id value) made own fits = short_line line setup layout id value fits
written_again (Sent line setup layout serial.Enhanced) (message.Enhanced id value false) made own fits = narrow_line line setup layout id value fits
written_again (Sent line setup layout serial.Enhanced) (message.Enhanced id value true) made own fits = wide_line line setup layout id value fits
written_again (Spc line setup) (message.Answer code frame) made own fits = answer_line line setup code frame made own fits
written_again (Spc line setup) (message.Silent code) made own fits = silent_line line setup code made fits
written_again (Psi5 line setup (Some slots) init) message.Sync made own fits = sync_line line setup slots init
written_again (Psi5 line setup None init) (message.Burst None p) made own fits = no_slot_line line setup init p made.0 fits
written_again (Psi5 line setup (Some slots) init) (message.Burst (Some slot) p) made own fits = slot_line line setup slots init slot p made.0 made.1 fits
written_again (Tooth line setup) (message.Down down) made own fits = down_line line setup down fits
written_again setup m made own fits = absurd (false≢true fits)
