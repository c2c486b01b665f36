-- The start bits of some frames in a row.
--     all_clear      where as many are clear as there are
--     set_front, clear_next      the first ones that are set, and the one behind them
--     one_frame      of one frame
--     field_bits      the value bits of a range are that range of the value bits
use Rattle.std.proofs.Common.{◌≡◌, ℕ, zero, suc, ◌<◌, ◌≤◌, List, [], ◌∷◌, Bool, true, false, length, map, take, drop, inl, inr, sym, ap, ◌∙◌, arith}
use Rattle.std.specs.Prelude.{slice_index}
use Rattle.std.specs.List.{All}
use Rattle.std.proofs.lemmas.Bool.{cases_Bool}
use Rattle.std.proofs.lemmas.List.{drop-map, take-map}
use Rattle.std.proofs.lemmas.List.Elements.{All-cons, All-nil}
use Rattle.sent_serial.specs.Statuses.{start_bit, clear_before, set_before}
use Rattle.sent_serial.proofs.StartBits.{all_clear-first, all_clear-later, set_here, set_none}

-- this status has its start bit so
abbrev HasStart : Bool → ℕ → Type 0
HasStart bit status = start_bit status ≡ bit

pub all_clear : (statuses : List ℕ) → clear_before statuses ≡ length statuses → All (λ status. start_bit status ≡ false) statuses
all_clear [] all = All-nil (HasStart false)
all_clear (status ∷ later) all = All-cons (HasStart false) status later (all_clear-first status later all) (all_clear later (all_clear-later status later all))

pub set_front : (count : ℕ) (statuses : List ℕ) → count ≤ set_before statuses → All (λ status. start_bit status ≡ true) (take count statuses)
set_front zero statuses many = All-nil (HasStart true)
set_front (suc count) [] many = All-nil (HasStart true)
set_front (suc count) (status ∷ later) many =
    elim (cases_Bool (start_bit status)) [
      | inl set ↦ All-cons (HasStart true) status (take count later) set (set_front count later (omega (arith, set_here status later set)))
      | inr clear ↦ absurd (omega (arith, set_none status later clear))
    ]

pub clear_next : (count : ℕ) (statuses : List ℕ) → set_before statuses ≡ count → count < length statuses → start_bit (slice_index statuses count) ≡ false
clear_next count [] is more = absurd (omega arith)
clear_next zero (status ∷ later) is more =
    elim (cases_Bool (start_bit status)) [ inl set ↦ absurd (omega (arith, set_here status later set)) | inr clear ↦ clear ]
clear_next (suc count) (status ∷ later) is more =
    elim (cases_Bool (start_bit status)) [
      | inl set ↦ clear_next count later (omega (arith, set_here status later set)) (omega arith)
      | inr clear ↦ absurd (omega (arith, set_none status later clear))
    ]

pub one_frame : (bit : Bool) (place : ℕ) (statuses : List ℕ) → place < length statuses → start_bit (slice_index statuses place) ≡ bit → All (λ status. start_bit status ≡ bit) (take 1 (drop place statuses))
one_frame bit place [] within is = absurd (omega arith)
one_frame bit zero (status ∷ later) within is = All-cons (HasStart bit) status [] is (All-nil (HasStart bit))
one_frame bit (suc place) (status ∷ later) within is = one_frame bit place later (omega arith) is

pub field_bits : (bit_of : ℕ → Bool) (place count : ℕ) (statuses : List ℕ) → map bit_of (take count (drop place statuses)) ≡ take count (drop place (map bit_of statuses))
field_bits bit_of place count statuses = sym (ap (take count) (drop-map bit_of place statuses) ∙ take-map bit_of count (drop place statuses))
