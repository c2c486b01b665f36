-- What the bits of a frame come to, up to each of its 1s, and how many periods lie between those.
--     ends_in_one      the last bit of a frame is a 1
--     part_unfinished      fewer bits than all of a frame's are unfinished
--     frame_few      no more than four periods lie between its 1s
use Rattle.std.proofs.Common.{◌≡◌, ℕ, zero, ◌+◌, ◌≤◌, Bool, true, false, nat_eq, if◌then◌else◌, Option, None, Some, List, [], ◌∷◌, ◌++◌, length, refl, sym, ◌∙◌, ap, arith}
use Rattle.std.proofs.lemmas.Bool.{eqb-true, ne_eqb}
use Rattle.std.proofs.lemmas.List.{length-append}
use Rattle.line_base.specs.declared.rule.Rule.{Rule}
use Rattle.line_base.specs.declared.rule.Rule.TheVariants.{SyncBit}
use Rattle.psi5_downlink.specs.declared.down.Form.{Form}
use Rattle.psi5_downlink.specs.declared.down.Down.{Down}
use Rattle.psi5_downlink.specs.declared.verdict.Verdict.TheVariants.{Unfinished, Whole}
use Rattle.psi5_downlink.specs.Frames.{Fits, checked, field_bits, frame_length, frame_of, with_ones}
use Rattle.psi5_downlink.specs.Reading.{forbidden, judged, misses_one}
use Rattle.psi5_downlink.proofs.FrameLaws.{frame_is_whole}
use Rattle.psi5_downlink_tolerance.specs.Trains.{frame_periods, periods_of}

-- ---- the last bit
-- the last of these bits is there, and is a 1
abbrev pub EndsInOne : List Bool → Type 0
EndsInOne [] = ⊥
EndsInOne (bit ∷ []) = bit ≡ true
EndsInOne (bit ∷ next ∷ bits) = EndsInOne (next ∷ bits)

ones_end : (bits : List Bool) → EndsInOne (true ∷ with_ones bits)
unfolding with_ones
ones_end [] = refl
ones_end (a ∷ []) = refl
ones_end (a ∷ b ∷ []) = refl
ones_end (a ∷ b ∷ c ∷ bits) = ones_end bits

pub ends_in_one : (form : Form) (down : Down) → EndsInOne (frame_of form down)
unfolding frame_of
ends_in_one form down = ones_end (checked (field_bits form down))

-- ---- fewer bits
front_misses : (front back : List Bool) → misses_one (front ++ back) ≡ false → misses_one front ≡ false
unfolding misses_one
front_misses [] back none = refl
front_misses (false ∷ front) back none = none
front_misses (true ∷ []) back none = refl
front_misses (true ∷ a ∷ []) back none = refl
front_misses (true ∷ a ∷ b ∷ []) back none = refl
front_misses (true ∷ a ∷ b ∷ c ∷ front) back none = front_misses front back none

front_allowed : (front back : List Bool) → forbidden (front ++ back) ≡ None → forbidden front ≡ None
front_allowed [] back none = refl
front_allowed (true ∷ front) back none = none
front_allowed (false ∷ front) back none = rw (front_misses front back (by_test (misses_one (front ++ back)) none)) refl
  where
    by_test : (misses : Bool) → (if misses then Some SyncBit else None) ≡ None → misses ≡ false
    by_test true e = absurd cc
    by_test false e = refl

-- a whole frame has no forbidden bit, and its length
record IsWhole (form : Form) (bits : List Bool) : Type 0 where
  allowed : forbidden bits ≡ None
  long : length bits ≡ frame_length form

whole_is : (form : Form) (bits : List Bool) (down : Down) → judged form bits (forbidden bits) ≡ Whole down → IsWhole form bits
whole_is form bits down whole = by_rule (forbidden bits) refl whole
  where
    by_length : (all : Bool) → nat_eq (length bits) (frame_length form) ≡ all → forbidden bits ≡ None → judged form bits None ≡ Whole down → IsWhole form bits
    by_length true is fine e = record { allowed = fine; long = eqb-true (length bits) (frame_length form) is }
    by_length false is fine e = let never : Unfinished bits ≡ Whole down = rw is at e in absurd cc

    by_rule : (rule : Option Rule) → forbidden bits ≡ rule → judged form bits rule ≡ Whole down → IsWhole form bits
    by_rule (Some rule) is e = absurd cc
    by_rule None fine e = by_length (nat_eq (length bits) (frame_length form)) refl fine e

pub part_unfinished : (form : Form) (down : Down) → Fits form down → (front : List Bool) (next : Bool) (back : List Bool) → front ++ next ∷ back ≡ frame_of form down
    → judged form front (forbidden front) ≡ Unfinished front
part_unfinished form down fits front next back is =
    let whole = whole_is form (frame_of form down) down (frame_is_whole form down fits) in
    let fine : forbidden front ≡ None = front_allowed front (next ∷ back) (ap forbidden is ∙ whole.allowed) in
    let more : length front + length (next ∷ back) ≡ frame_length form = sym (length-append front (next ∷ back)) ∙ ap length is ∙ whole.long in
    let short : nat_eq (length front) (frame_length form) ≡ false = ne_eqb (length front) (frame_length form) (λ all. omega (arith, all, more)) in
    rw (fine, short) refl

-- ---- how many periods
-- each of these is at most four
abbrev pub AreFew : List ℕ → Type 0
AreFew [] = Unit {0}
AreFew (count ∷ counts) = (count ≤ 4) × AreFew counts

ones_few : (bits : List Bool) → AreFew (periods_of zero (with_ones bits))
unfolding with_ones periods_of
ones_few [] = tt
ones_few (a ∷ []) = tt
ones_few (a ∷ b ∷ []) = tt
ones_few (true ∷ true ∷ true ∷ bits) = (omega arith, (omega arith, (omega arith, (omega arith, ones_few bits))))
ones_few (true ∷ true ∷ false ∷ bits) = (omega arith, (omega arith, (omega arith, ones_few bits)))
ones_few (true ∷ false ∷ true ∷ bits) = (omega arith, (omega arith, (omega arith, ones_few bits)))
ones_few (true ∷ false ∷ false ∷ bits) = (omega arith, (omega arith, ones_few bits))
ones_few (false ∷ true ∷ true ∷ bits) = (omega arith, (omega arith, (omega arith, ones_few bits)))
ones_few (false ∷ true ∷ false ∷ bits) = (omega arith, (omega arith, ones_few bits))
ones_few (false ∷ false ∷ true ∷ bits) = (omega arith, (omega arith, ones_few bits))
ones_few (false ∷ false ∷ false ∷ bits) = (omega arith, ones_few bits)

pub frame_few : (form : Form) (down : Down) → AreFew (frame_periods form down)
unfolding frame_of periods_of
frame_few form down = (omega arith, ones_few (checked (field_bits form down)))
