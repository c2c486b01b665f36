-- The slot of a burst and the parts of its frame are read from their own fields alone.
use Rattle.std.proofs.Common.{◌≡◌, ℕ, ◌+◌, ◌<◌, ◌≤◌, ◌^◌, ◌==◌, nat_lt, Bool, true, false, cond, Option, Some, None, Result, Ok, List, [], ◌∷◌, ◌++◌, length, refl, sym, ◌∙◌, ap, subst, arith}
use Rattle.std.specs.List.{list_all}
use Rattle.std.proofs.lemmas.Bool.{eqb-true, ne_eqb, ltb-true, lt-ltb}
use Rattle.std.proofs.lemmas.Fmt.{decimal_digit, decimal_nonempty}
use Rattle.psi5_frame.specs.declared.burst.Payload.{Payload}
use Rattle.report_text.specs.declared.fault.TextFault.{TextFault}
use Rattle.report_text.specs.declared.fault.TextFault.TheVariants.{Range}
use Rattle.line_base.specs.Steps.{◌>>=◌, check}
use Rattle.report_text.specs.Fields.{value_read}
use Rattle.report_text.specs.Decimals.{digit_in}
use Rattle.report_text.specs.Hex.{hex_text, hex_in, hex_to}
use Rattle.report_text.specs.Psi5.{slot_text, slot_in, IsSlotTold, IsPayloadTold, payload_fields, payload_read}
use Rattle.report_text.proofs.Steps.{bind_ok, check_ok, ok_is}
use Rattle.report_text.proofs.Cutting.{is_other, are_free}
use Rattle.report_text.proofs.Decimals.{digit_taken, digit_again, decimal_free}
use Rattle.report_text.proofs.Spellings.{Spells, value_again, hex, hex_tos}
use Rattle.report_text.proofs.Told.{TakenAs, at_end, after_field, field_free}

-- ---- slots

digit_slot : (byte : ℕ) (slot : Option ℕ) → (digit_in byte >>= λ digit. check (nat_lt digit 8) Range >>= λ _. Ok (Some digit)) ≡ Ok slot → (byte ∷ [] ≡ slot_text slot) × IsSlotTold slot
digit_slot byte slot e =
    let digit = bind_ok (digit_in byte) (λ digit. check (nat_lt digit 8) Range >>= λ _. Ok (Some digit)) slot e in
    let low = check_ok (nat_lt digit.0 8) Range (Ok (Some digit.0)) slot digit.2 in
    let read = digit_taken byte digit.0 digit.1 in
    subst (λ (o : Option ℕ). (byte ∷ [] ≡ slot_text o) × IsSlotTold o) (ok_is (Some digit.0) slot low.1)
    (ap (λ (b : ℕ). b ∷ []) read.0 ∙ sym (decimal_digit digit.0 read.1), ltb-true digit.0 8 low.0)

hyphen_slot : (t : Bool) (byte : ℕ) (slot : Option ℕ) → (byte == 45) ≡ t → cond t (Ok None) (digit_in byte >>= λ digit. check (nat_lt digit 8) Range >>= λ _. Ok (Some digit)) ≡ Ok slot → (byte ∷ [] ≡ slot_text slot) × IsSlotTold slot
hyphen_slot true byte slot sign e =
    subst (λ (o : Option ℕ). (byte ∷ [] ≡ slot_text o) × IsSlotTold o) (ok_is None slot e) (ap (λ (b : ℕ). b ∷ []) (eqb-true byte 45 sign), tt)
hyphen_slot false byte slot sign e = digit_slot byte slot e

slot_taken : (field : List ℕ) (slot : Option ℕ) → slot_in field ≡ Ok slot → (field ≡ slot_text slot) × IsSlotTold slot
unfolding slot_in
slot_taken [] slot e = absurd cc
slot_taken (byte ∷ []) slot e = hyphen_slot (byte == 45) byte slot refl e
slot_taken (byte ∷ next ∷ bytes) slot e = absurd cc

digit_read : (slot : ℕ) → slot < 8 → slot_in ((48 + slot) ∷ []) ≡ Ok (Some slot)
unfolding slot_in
digit_read slot low =
    ap (λ (t : Bool). cond t (Ok None) (digit_in (48 + slot) >>= λ digit. check (nat_lt digit 8) Range >>= λ _. Ok (Some digit))) (ne_eqb (48 + slot) 45 (λ e. omega (arith, e)))
    ∙ ap (λ (r : Result ℕ TextFault). r >>= λ digit. check (nat_lt digit 8) Range >>= λ _. Ok (Some digit)) (digit_again slot (omega (arith, low)))
    ∙ ap (λ (t : Bool). check t Range >>= λ _. Ok (Some slot)) (lt-ltb slot 8 low)

hyphen_read : slot_in (45 ∷ []) ≡ Ok None
unfolding slot_in
hyphen_read = refl

slot_again : (slot : Option ℕ) → IsSlotTold slot → slot_in (slot_text slot) ≡ Ok slot
slot_again None fits = hyphen_read
slot_again (Some slot) fits = ap slot_in (decimal_digit slot (omega (arith, fits))) ∙ digit_read slot fits

slot_some : (slot : Option ℕ) → IsSlotTold slot → 0 < length (slot_text slot)
slot_some None fits = omega arith
slot_some (Some slot) fits = decimal_nonempty slot (omega (arith, fits))

slot_free : (slot : Option ℕ) → IsSlotTold slot → list_all is_other (slot_text slot) ≡ true
slot_free None fits = refl
slot_free (Some slot) fits = decimal_free slot (omega (arith, fits))

pub slots : Spells slot_text slot_in IsSlotTold
slots = record { taken = slot_taken; again = slot_again; some = slot_some; free = slot_free }

-- ---- the parts of a frame

-- two bits in one digit
pub two_bits : Spells (hex_text 1) (hex_to 1 3) (λ n. n ≤ 3)
two_bits = hex_tos 0 3 (omega arith)

-- the parts of these values
abbrev parts_of : ℕ → ℕ → ℕ → ℕ → ℕ → Payload
parts_of m f s b a = record { m = m; f = f; s = s; b = b; a = a }

pub payload_taken : TakenAs payload_fields IsPayloadTold [] payload_read
unfolding payload_read
payload_taken =
    after_field payload_fields IsPayloadTold [] (hex_text 1) (hex_to 1 3) (λ n. n ≤ 3) two_bits (λ m fields. value_read (hex_in 1) fields >>= λ f. value_read (hex_to 1 3) f.1 >>= λ s. value_read (hex_in 3) s.1 >>= λ b. value_read (hex_in 6) b.1 >>= λ a. Ok (parts_of m f.0 s.0 b.0 a.0, a.1)) (λ m own_m.
    after_field payload_fields IsPayloadTold (hex_text 1 m ∷ []) (hex_text 1) (hex_in 1) (λ n. n < 16 ^ 1) (hex 0) (λ f fields. value_read (hex_to 1 3) fields >>= λ s. value_read (hex_in 3) s.1 >>= λ b. value_read (hex_in 6) b.1 >>= λ a. Ok (parts_of m f s.0 b.0 a.0, a.1)) (λ f own_f.
    after_field payload_fields IsPayloadTold (hex_text 1 m ∷ hex_text 1 f ∷ []) (hex_text 1) (hex_to 1 3) (λ n. n ≤ 3) two_bits (λ s fields. value_read (hex_in 3) fields >>= λ b. value_read (hex_in 6) b.1 >>= λ a. Ok (parts_of m f s b.0 a.0, a.1)) (λ s own_s.
    after_field payload_fields IsPayloadTold (hex_text 1 m ∷ hex_text 1 f ∷ hex_text 1 s ∷ []) (hex_text 3) (hex_in 3) (λ n. n < 16 ^ 3) (hex 2) (λ b fields. value_read (hex_in 6) fields >>= λ a. Ok (parts_of m f s b a.0, a.1)) (λ b own_b.
    after_field payload_fields IsPayloadTold (hex_text 1 m ∷ hex_text 1 f ∷ hex_text 1 s ∷ hex_text 3 b ∷ []) (hex_text 6) (hex_in 6) (λ n. n < 16 ^ 6) (hex 5) (λ a fields. Ok (parts_of m f s b a, fields)) (λ a own_a.
    at_end payload_fields IsPayloadTold (payload_fields (parts_of m f s b a)) (parts_of m f s b a) refl (record { messaging = own_m; control = own_f; status = own_s; data_b = own_b; data_a = own_a }))))))

pub payload_again : (payload : Payload) (others : List (List ℕ)) → IsPayloadTold payload → payload_read (payload_fields payload ++ others) ≡ Ok (payload, others)
unfolding payload_read
payload_again payload others own =
    rw (
      value_again (hex_text 1) (hex_to 1 3) (λ n. n ≤ 3) two_bits payload.m (hex_text 1 payload.f ∷ hex_text 1 payload.s ∷ hex_text 3 payload.b ∷ hex_text 6 payload.a ∷ others) own.messaging,
      value_again (hex_text 1) (hex_in 1) (λ n. n < 16 ^ 1) (hex 0) payload.f (hex_text 1 payload.s ∷ hex_text 3 payload.b ∷ hex_text 6 payload.a ∷ others) own.control,
      value_again (hex_text 1) (hex_to 1 3) (λ n. n ≤ 3) two_bits payload.s (hex_text 3 payload.b ∷ hex_text 6 payload.a ∷ others) own.status,
      value_again (hex_text 3) (hex_in 3) (λ n. n < 16 ^ 3) (hex 2) payload.b (hex_text 6 payload.a ∷ others) own.data_b,
      value_again (hex_text 6) (hex_in 6) (λ n. n < 16 ^ 6) (hex 5) payload.a others own.data_a,
    ) refl

pub payload_free : (payload : Payload) (others : List (List ℕ)) → IsPayloadTold payload → are_free others ≡ true → are_free (payload_fields payload ++ others) ≡ true
payload_free payload others own free =
    field_free (hex_text 1) (hex_to 1 3) (λ n. n ≤ 3) two_bits payload.m (hex_text 1 payload.f ∷ hex_text 1 payload.s ∷ hex_text 3 payload.b ∷ hex_text 6 payload.a ∷ others) own.messaging
    (field_free (hex_text 1) (hex_in 1) (λ n. n < 16 ^ 1) (hex 0) payload.f (hex_text 1 payload.s ∷ hex_text 3 payload.b ∷ hex_text 6 payload.a ∷ others) own.control
    (field_free (hex_text 1) (hex_to 1 3) (λ n. n ≤ 3) two_bits payload.s (hex_text 3 payload.b ∷ hex_text 6 payload.a ∷ others) own.status
    (field_free (hex_text 3) (hex_in 3) (λ n. n < 16 ^ 3) (hex 2) payload.b (hex_text 6 payload.a ∷ others) own.data_b
    (field_free (hex_text 6) (hex_in 6) (λ n. n < 16 ^ 6) (hex 5) payload.a others own.data_a free))))
