-- A list of bits comes to a whole frame exactly where it is the frame's.
--     whole_is_frame      bits that come to a whole frame
--     frame_is_whole      the bits of a frame
--     one_frame      two values don't share a frame
use Rattle.std.proofs.Common.{◌≡◌, ℕ, zero, suc, ◌+◌, ◌*◌, Bool, true, false, nat_eq, if◌then◌else◌, Option, None, Some, List, [], ◌∷◌, ◌++◌, length, take, drop, refl, sym, ◌∙◌, ap, ap₂, subst, append-nil, arith}
use Rattle.std.proofs.Math.Nat.{mod-eq_of_lt}
use Rattle.std.proofs.lemmas.Bool.{eq-eqb, eqb-true}
use Rattle.std.proofs.lemmas.List.{length-append, length-drop, length-take-le, take-append-drop, take_at, drop_at}
use Rattle.line_base.specs.declared.rule.Rule.{Rule}
use Rattle.line_base.specs.declared.rule.Rule.TheVariants.{DownCheck, SyncBit}
use Rattle.link_math.specs.Checks.{crc3_of}
use Rattle.link_math.specs.Division.{bits_of, number_of}
use Rattle.link_math.proofs.BitLists.{bits_of-number_of, length-bits_of}
use Rattle.link_math.proofs.BitFields.{number_of-bits_of}
use Rattle.link_math.proofs.FrameRegister.{crc3-below}
use Rattle.psi5_downlink.specs.declared.down.Form.{Form}
use Rattle.psi5_downlink.specs.declared.down.Down.{Down}
use Rattle.psi5_downlink.specs.declared.verdict.Verdict.TheVariants.{Broken, Unfinished, Whole}
use Rattle.psi5_downlink.specs.Frames.{Fits, checked, down_of, field_bits, field_width, frame_length, frame_of, group_count, with_ones, without_ones}
use Rattle.psi5_downlink.specs.Reading.{checked_groups, forbidden, judged, misses_one}
use Rattle.psi5_downlink.proofs.Downs.{down_of-field_bits, field_bits-down_of, fits-down_of, length-field_bits}
use Rattle.psi5_downlink.proofs.Judging.{all_groups, as_many}

-- ---- the inserted ones
without-with : (groups : ℕ) (bits : List Bool) → length bits ≡ 3 * groups → without_ones (with_ones bits) ≡ bits
unfolding with_ones without_ones
without-with zero [] e = refl
without-with zero (a ∷ bits) e = absurd (omega (arith, e))
without-with (suc groups) [] e = absurd (omega (arith, e))
without-with (suc groups) (a ∷ []) e = absurd (omega (arith, e))
without-with (suc groups) (a ∷ b ∷ []) e = absurd (omega (arith, e))
without-with (suc groups) (a ∷ b ∷ c ∷ bits) e = ap (λ l. a ∷ b ∷ c ∷ l) (without-with groups bits (omega (arith, e)))

none-missed : (groups : ℕ) (bits : List Bool) → length bits ≡ 3 * groups → misses_one (true ∷ with_ones bits) ≡ false
unfolding with_ones misses_one
none-missed zero [] e = refl
none-missed zero (a ∷ bits) e = absurd (omega (arith, e))
none-missed (suc groups) [] e = absurd (omega (arith, e))
none-missed (suc groups) (a ∷ []) e = absurd (omega (arith, e))
none-missed (suc groups) (a ∷ b ∷ []) e = absurd (omega (arith, e))
none-missed (suc groups) (a ∷ b ∷ c ∷ bits) e = none-missed groups bits (omega (arith, e))

length-with : (groups : ℕ) (bits : List Bool) → length bits ≡ 3 * groups → length (with_ones bits) ≡ 4 * groups
unfolding with_ones
length-with zero [] e = omega arith
length-with zero (a ∷ bits) e = absurd (omega (arith, e))
length-with (suc groups) [] e = absurd (omega (arith, e))
length-with (suc groups) (a ∷ []) e = absurd (omega (arith, e))
length-with (suc groups) (a ∷ b ∷ []) e = absurd (omega (arith, e))
length-with (suc groups) (a ∷ b ∷ c ∷ bits) e = omega (arith, length-with groups bits (omega (arith, e)))

with-without : (groups : ℕ) (bits : List Bool) → length bits ≡ 4 * groups → misses_one (true ∷ bits) ≡ false → with_ones (without_ones bits) ≡ bits
unfolding with_ones without_ones misses_one
with-without zero [] e ones = refl
with-without zero (a ∷ bits) e ones = absurd (omega (arith, e))
with-without (suc groups) [] e ones = absurd (omega (arith, e))
with-without (suc groups) (a ∷ []) e ones = absurd (omega (arith, e))
with-without (suc groups) (a ∷ b ∷ []) e ones = absurd (omega (arith, e))
with-without (suc groups) (a ∷ b ∷ c ∷ []) e ones = absurd (omega (arith, e))
with-without (suc groups) (a ∷ b ∷ c ∷ true ∷ bits) e ones = ap (λ l. a ∷ b ∷ c ∷ true ∷ l) (with-without groups bits (omega (arith, e)) ones)
with-without (suc groups) (a ∷ b ∷ c ∷ false ∷ bits) e ones = absurd cc

-- ---- the check
right_check : (form : Form) (groups : List Bool) (test : Bool) (down : Down) → nat_eq (number_of (drop (field_width form) groups)) (crc3_of (take (field_width form) groups)) ≡ test
    → (if test then Whole (down_of form (take (field_width form) groups)) else Broken DownCheck) ≡ Whole down
    → (number_of (drop (field_width form) groups) ≡ crc3_of (take (field_width form) groups)) × (down_of form (take (field_width form) groups) ≡ down)
right_check form groups true down is e = (eqb-true (number_of (drop (field_width form) groups)) (crc3_of (take (field_width form) groups)) is, cc)
right_check form groups false down is e = absurd cc

-- groups whose check is right are the fields and their CRC
checks-framed : (form : Form) (groups : List Bool) → length groups ≡ field_width form + 3 → number_of (drop (field_width form) groups) ≡ crc3_of (take (field_width form) groups)
    → groups ≡ checked (take (field_width form) groups)
checks-framed form groups long right =
    let width = field_width form in
    let back = drop width groups in
    let all : length back ≡ 3 = omega (arith, length-drop width groups, long) in
    sym (take-append-drop width groups) ∙ ap (λ l. take width groups ++ l) (sym (bits_of-number_of back) ∙ ap₂ (λ w n. bits_of w n) all right)

-- ---- bits that come to a whole frame
-- no bit of a frame is forbidden, and it is long enough
record IsSound (form : Form) (bits : List Bool) : Type 0 where
  groups : List Bool
  is : bits ≡ false ∷ true ∷ groups
  ones : misses_one (true ∷ groups) ≡ false
  long : length groups ≡ 4 * group_count form

sound_of : (form : Form) (bits : List Bool) → forbidden bits ≡ None → length bits ≡ frame_length form → IsSound form bits
unfolding misses_one
sound_of form [] fine long = absurd (omega (arith, long))
sound_of form (true ∷ bits) fine long = absurd cc
sound_of form (false ∷ []) fine long = absurd (omega (arith, long))
sound_of form (false ∷ false ∷ bits) fine long = absurd cc
sound_of form (false ∷ true ∷ groups) fine long = record { groups = groups; is = refl; ones = by_test (misses_one (true ∷ groups)) fine; long = omega (arith, long) }
  where
    by_test : (misses : Bool) → (if misses then Some SyncBit else None) ≡ None → misses ≡ false
    by_test true e = absurd cc
    by_test false e = refl

pub groups_are_frame : (form : Form) (bits : List Bool) (down : Down) → forbidden bits ≡ None → length bits ≡ frame_length form → checked_groups form (without_ones (drop 2 bits)) ≡ Whole down → Fits form down × (bits ≡ frame_of form down)
unfolding frame_of
groups_are_frame form bits down fine long whole =
    let sound = sound_of form bits fine long in
    let groups = without_ones (drop 2 bits) in
    let fields = take (field_width form) groups in
    let said = right_check form groups (nat_eq (number_of (drop (field_width form) groups)) (crc3_of fields)) down refl whole in
    let many : length groups ≡ field_width form + 3 = all_groups form bits long in
    let wide_enough : length fields ≡ field_width form = length-take-le (field_width form) groups (omega (arith, many)) in
    let framed : groups ≡ checked fields = checks-framed form groups many said.0 in
    let again : field_bits form down ≡ fields = ap (field_bits form) (sym said.1) ∙ field_bits-down_of form fields wide_enough in
    let kept : groups ≡ without_ones sound.groups = ap (λ l. without_ones (drop 2 l)) sound.is in
    let inner : sound.groups ≡ with_ones (checked (field_bits form down)) =
    sym (with-without (group_count form) sound.groups sound.long sound.ones) ∙ ap with_ones (sym kept ∙ framed ∙ ap checked (sym again)) in
    (subst (λ (d : Down). Fits form d) said.1 (fits-down_of form fields wide_enough), sound.is ∙ ap (λ l. false ∷ true ∷ l) inner)

pub whole_is_frame : (form : Form) (bits : List Bool) (down : Down) → judged form bits (forbidden bits) ≡ Whole down → Fits form down × (bits ≡ frame_of form down)
whole_is_frame form bits down e = by_rule (forbidden bits) refl e
  where
    by_length : (all : Bool) → nat_eq (length bits) (frame_length form) ≡ all → forbidden bits ≡ None → (if all then checked_groups form (without_ones (drop 2 bits)) else Unfinished bits) ≡ Whole down
        → Fits form down × (bits ≡ frame_of form down)
    by_length true is fine whole = groups_are_frame form bits down fine (eqb-true (length bits) (frame_length form) is) whole
    by_length false is fine whole = absurd cc

    by_rule : (rule : Option Rule) → forbidden bits ≡ rule → judged form bits rule ≡ Whole down → Fits form down × (bits ≡ frame_of form down)
    by_rule (Some rule) is whole = absurd cc
    by_rule None fine whole = by_length (nat_eq (length bits) (frame_length form)) refl fine whole

-- ---- the bits of a frame
checked_groups-checked : (form : Form) (down : Down) → Fits form down → checked_groups form (checked (field_bits form down)) ≡ Whole down
checked_groups-checked form down fits =
    let fields = field_bits form down in
    let crc = bits_of 3 (crc3_of fields) in
    let long = length-field_bits form down in
    let front : take (field_width form) (fields ++ crc) ≡ fields = take_at fields crc (field_width form) long in
    let check : number_of (drop (field_width form) (fields ++ crc)) ≡ crc3_of (take (field_width form) (fields ++ crc)) =
    ap number_of (drop_at fields crc (field_width form) long) ∙ number_of-bits_of 3 (crc3_of fields) ∙ mod-eq_of_lt (crc3-below fields) ∙ ap crc3_of (sym front) in
    let said : down_of form fields ≡ down = ap (down_of form) (sym (append-nil fields)) ∙ down_of-field_bits form down [] fits in
    rw (eq-eqb (number_of (drop (field_width form) (fields ++ crc))) (crc3_of (take (field_width form) (fields ++ crc))) check) (ap Whole (ap (down_of form) front ∙ said))

pub frame_is_whole : (form : Form) (down : Down) → Fits form down → judged form (frame_of form down) (forbidden (frame_of form down)) ≡ Whole down
unfolding frame_of
frame_is_whole form down fits =
    let row = checked (field_bits form down) in
    let many : length row ≡ 3 * group_count form =
    length-append (field_bits form down) (bits_of 3 (crc3_of (field_bits form down)))
    ∙ ap₂ (λ a b. a + b) (length-field_bits form down) (length-bits_of 3 (crc3_of (field_bits form down))) ∙ sym (as_many form) in
    let long : suc (suc (length (with_ones row))) ≡ frame_length form = omega (arith, length-with (group_count form) row many) in
    rw (none-missed (group_count form) row many, eq-eqb (suc (suc (length (with_ones row)))) (frame_length form) long, without-with (group_count form) row many) (checked_groups-checked form down fits)

whole_same : (d e : Down) → Whole d ≡ Whole e → d ≡ e
whole_same d e same = cc

pub one_frame : (form : Form) (d e : Down) → Fits form d → Fits form e → frame_of form d ≡ frame_of form e → d ≡ e
one_frame form d e fits_d fits_e same = whole_same d e (sym (frame_is_whole form d fits_d) ∙ ap (λ l. judged form l (forbidden l)) same ∙ frame_is_whole form e fits_e)
