-- The bits of statuses that are sent.
--     SameBits, SameStarts      statuses with the same bits
--     same_length, same_at, front_at      as many, place by place, and of a front
--     value_bits-of, start_bits-of, statuses-from      statuses from their bits, and back
--     two_bits-sent      the statuses of a message have no other bits set
--     own_start, own_value, own_clear      a frame's own bits are none of them
use Rattle.std.proofs.Common.{◌≡◌, ℕ, ◌+◌, ◌/◌, ◌%◌, zero, suc, ◌*◌, ◌<◌, List, [], ◌∷◌, ◌++◌, Bool, true, false, nat_eq, get_or, map, length, refl, sym, ap, ap₂, ◌∙◌, if◌then◌else◌, arith}
use Rattle.std.proofs.Math.ListN.{get_or-append, get_or-map}
use Rattle.std.specs.List.{All}
use Rattle.std.proofs.lemmas.List.Elements.{All-cons, All-head, All-nil, All-tail}
use Rattle.sent_serial.specs.declared.step.SerialStep.{SerialStep}
use Rattle.sent_serial.specs.declared.step.SerialStep.TheVariants as step
use Rattle.sent_serial.specs.Statuses.{HasTwoBits, start_bit, value_bit}
use Rattle.sent_serial.proofs.KeptBits.{length-map}
use Rattle.sent_serial.specs.SentStatuses.{status_of, statuses_of, short_statuses, statuses_with_check, enhanced_statuses, statuses_sent}

-- these have the same value bits and the same start bits
pub record SameBits (statuses others : List ℕ) : Type 0 where
  pub values : map value_bit statuses ≡ map value_bit others
  pub starts : map start_bit statuses ≡ map start_bit others

-- these have the same start bits as far as both go
abbrev pub SameStarts : List ℕ → List ℕ → Type 0
SameStarts [] later = Unit {0}
SameStarts (bits ∷ left) [] = Unit {0}
SameStarts (bits ∷ left) (status ∷ later) = (start_bit status ≡ start_bit bits) × SameStarts left later

-- ---- no bit but two
status-two_bits : (value start : Bool) → HasTwoBits (status_of value start)
status-two_bits true true = record { is_nibble = omega arith; no_other = refl }
status-two_bits true false = record { is_nibble = omega arith; no_other = refl }
status-two_bits false true = record { is_nibble = omega arith; no_other = refl }
status-two_bits false false = record { is_nibble = omega arith; no_other = refl }

pub statuses-two_bits : (values starts : List Bool) → All HasTwoBits (statuses_of values starts)
unfolding statuses_of
statuses-two_bits [] starts = All-nil HasTwoBits
statuses-two_bits (value ∷ values) [] = All-nil HasTwoBits
statuses-two_bits (value ∷ values) (start ∷ starts) = All-cons HasTwoBits (status_of value start) (statuses_of values starts) (status-two_bits value start) (statuses-two_bits values starts)

pub two_bits-sent : (message : SerialStep) → All HasTwoBits (statuses_sent message)
unfolding statuses_sent short_statuses enhanced_statuses statuses_with_check
two_bits-sent step.Nothing = All-nil HasTwoBits
two_bits-sent (step.Short id value) = statuses-two_bits _ _
two_bits-sent (step.Enhanced id value wide) = statuses-two_bits _ _
two_bits-sent (step.Bad rule) = All-nil HasTwoBits

-- ---- a frame's own bits
pub own_start : (bits own : ℕ) → HasTwoBits bits → own < 4 → start_bit (bits + own) ≡ start_bit bits
own_start bits own two small =
    let same : (bits + own) / 8 % 2 ≡ bits / 8 % 2 = omega (arith, two.is_nibble, two.no_other) in
    ap (λ n. nat_eq n 1) same

pub own_value : (bits own : ℕ) → HasTwoBits bits → own < 4 → value_bit (bits + own) ≡ value_bit bits
own_value bits own two small =
    let same : (bits + own) / 4 % 2 ≡ bits / 4 % 2 = omega (arith, two.is_nibble, two.no_other) in
    ap (λ n. nat_eq n 1) same

pub own_clear : (own : ℕ) → own < 4 → start_bit own ≡ false
own_clear own small =
    let none : own / 8 % 2 ≡ 0 = omega arith in
    ap (λ n. nat_eq n 1) none

-- ---- place by place
pub same_length : (statuses others : List ℕ) → SameBits statuses others → length statuses ≡ length others
same_length statuses others same = sym (length-map start_bit statuses) ∙ ap length same.starts ∙ length-map start_bit others

pub same_at : (statuses others : List ℕ) (place : ℕ) → SameBits statuses others → start_bit (get_or statuses place 0) ≡ start_bit (get_or others place 0)
same_at statuses others place same =
    sym (get_or-map start_bit statuses place 0) ∙ ap (λ bits. get_or bits place (start_bit 0)) same.starts ∙ get_or-map start_bit others place 0

-- the same bits as a front of these
pub front_at : (statuses front left all : List ℕ) (place : ℕ) → SameBits statuses front → all ≡ front ++ left → place < length front → start_bit (get_or statuses place 0) ≡ start_bit (get_or all place 0)
front_at statuses front left all place same is within =
    same_at statuses front place same ∙ ap start_bit (sym (get_or-append front left 0 place within) ∙ ap (λ l. get_or l place 0) (sym is))

-- ---- statuses from their bits
value_bit-of : (value start : Bool) → value_bit (status_of value start) ≡ value
value_bit-of true true = refl
value_bit-of true false = refl
value_bit-of false true = refl
value_bit-of false false = refl

start_bit-of : (value start : Bool) → start_bit (status_of value start) ≡ start
start_bit-of true true = refl
start_bit-of true false = refl
start_bit-of false true = refl
start_bit-of false false = refl

pub value_bits-of : (values starts : List Bool) → length values ≡ length starts → map value_bit (statuses_of values starts) ≡ values
unfolding statuses_of
value_bits-of [] starts same = refl
value_bits-of (value ∷ values) [] same = absurd (omega arith)
value_bits-of (value ∷ values) (start ∷ starts) same = ap₂ (λ bit bits. bit ∷ bits) (value_bit-of value start) (value_bits-of values starts (omega arith))

pub start_bits-of : (values starts : List Bool) → length values ≡ length starts → map start_bit (statuses_of values starts) ≡ starts
unfolding statuses_of
start_bits-of [] [] same = refl
start_bits-of [] (start ∷ starts) same = absurd (omega arith)
start_bits-of (value ∷ values) [] same = absurd (omega arith)
start_bits-of (value ∷ values) (start ∷ starts) same = ap₂ (λ bit bits. bit ∷ bits) (start_bit-of value start) (start_bits-of values starts (omega arith))

-- a remainder by 2 is one bit
one_bit : (n : ℕ) → n < 2 → (if nat_eq n 1 then 1 else 0) ≡ n
one_bit zero small = refl
one_bit (suc zero) small = refl
one_bit (suc (suc n)) small = absurd (omega arith)

status_from : (status : ℕ) → HasTwoBits status → status ≡ status_of (value_bit status) (start_bit status)
status_from status two =
    let start : (if start_bit status then 1 else 0) ≡ status / 8 % 2 = one_bit (status / 8 % 2) (omega arith) in
    let value : (if value_bit status then 1 else 0) ≡ status / 4 % 2 = one_bit (status / 4 % 2) (omega arith) in
    let all : status ≡ 8 * (status / 8 % 2) + 4 * (status / 4 % 2) = omega (arith, two.is_nibble, two.no_other) in
    all ∙ ap₂ (λ s v. 8 * s + 4 * v) (sym start) (sym value)

pub statuses-from : (statuses : List ℕ) → All HasTwoBits statuses → statuses ≡ statuses_of (map value_bit statuses) (map start_bit statuses)
unfolding statuses_of
statuses-from [] two = refl
statuses-from (status ∷ later) two =
    ap₂ (λ first rest. first ∷ rest) (status_from status (All-head HasTwoBits status later two)) (statuses-from later (All-tail HasTwoBits status later two))
