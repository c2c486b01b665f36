-- One bit more of a value, and one group more of a frame.
--     high_more, high_all      the bits of a value, one after another
--     groups_more, groups_all      groups with their inserted ones
--     frame_is      a frame of its groups
use Rattle.std.proofs.Common.{◌≡◌, ℕ, suc, ◌+◌, ◌-◌, ◌*◌, ◌/◌, ◌%◌, ◌^◌, ◌<◌, ◌≤◌, Bool, true, false, nat_eq, List, [], ◌∷◌, ◌++◌, length, take, drop, get_or, refl, sym, ◌∙◌, ap, ap₂, append_assoc, append-nil, arith}
use Rattle.std.proofs.lemmas.List.{length-append, length-drop}
use Rattle.link_math.specs.Division.{bits_of}
use Rattle.psi5_downlink.specs.declared.down.Form.{Form}
use Rattle.psi5_downlink.specs.declared.down.Down.{Down}
use Rattle.psi5_downlink.specs.Frames.{checked, field_bits, frame_of, with_ones}

-- ---- the bits of a value
pub high_more : (bits new whole : List Bool) (width place value : ℕ) → place < width → bits ++ bits_of (width - place) value ≡ whole → new ≡ bits ++ nat_eq (value / 2 ^ (width - 1 - place) % 2) 1 ∷ []
    → new ++ bits_of (width - (place + 1)) value ≡ whole
unfolding bits_of
high_more bits new whole width place value more before n =
    let rest = width - (place + 1) in
    let next : width - place ≡ suc rest = omega arith in
    let same : width - 1 - place ≡ rest = omega arith in
    ap (λ l. l ++ bits_of rest value) (n ∙ ap (λ m. bits ++ nat_eq (value / 2 ^ m % 2) 1 ∷ []) same)
    ∙ append_assoc bits (nat_eq (value / 2 ^ rest % 2) 1 ∷ []) (bits_of rest value)
    ∙ sym (ap (λ w. bits ++ bits_of w value) next) ∙ before

pub high_all : (bits whole : List Bool) (width place value : ℕ) → width ≤ place → bits ++ bits_of (width - place) value ≡ whole → bits ≡ whole
unfolding bits_of
high_all bits whole width place value all before =
    let none : width - place ≡ 0 = omega arith in
    sym (append-nil bits) ∙ sym (ap (λ w. bits ++ bits_of w value) none) ∙ before

-- ---- groups
with-none : (row : List Bool) → length row < 3 → with_ones row ≡ []
unfolding with_ones
with-none [] few = refl
with-none (a ∷ []) few = refl
with-none (a ∷ b ∷ []) few = refl
with-none (a ∷ b ∷ c ∷ row) few = absurd (omega (arith, few))

with-more : (row : List Bool) → 3 ≤ length row → with_ones row ≡ get_or (take 3 row) 0 false ∷ get_or (take 3 row) 1 false ∷ get_or (take 3 row) 2 false ∷ true ∷ with_ones (drop 3 row)
unfolding with_ones
with-more [] many = absurd (omega (arith, many))
with-more (a ∷ []) many = absurd (omega (arith, many))
with-more (a ∷ b ∷ []) many = absurd (omega (arith, many))
with-more (a ∷ b ∷ c ∷ row) many = refl

group_more : (kept one two three four rest whole : List Bool) → one ≡ kept ++ get_or (take 3 rest) 0 false ∷ [] → two ≡ one ++ get_or (take 3 rest) 1 false ∷ [] → three ≡ two ++ get_or (take 3 rest) 2 false ∷ []
    → four ≡ three ++ true ∷ [] → 3 ≤ length rest → kept ++ with_ones rest ≡ whole → four ++ with_ones (drop 3 rest) ≡ whole
group_more kept one two three four rest whole first second third fourth many before =
    let a = get_or (take 3 rest) 0 false in
    let b = get_or (take 3 rest) 1 false in
    let c = get_or (take 3 rest) 2 false in
    let left = with_ones (drop 3 rest) in
    ap (λ l. l ++ left) fourth ∙ append_assoc three (true ∷ []) left
    ∙ ap (λ l. l ++ true ∷ left) third ∙ append_assoc two (c ∷ []) (true ∷ left)
    ∙ ap (λ l. l ++ c ∷ true ∷ left) second ∙ append_assoc one (b ∷ []) (c ∷ true ∷ left)
    ∙ ap (λ l. l ++ b ∷ c ∷ true ∷ left) first ∙ append_assoc kept (a ∷ []) (b ∷ c ∷ true ∷ left)
    ∙ ap (λ l. kept ++ l) (sym (with-more rest many)) ∙ before

pub groups_more : (kept one two three four rest group others whole : List Bool) → group ≡ take 3 rest → others ≡ drop 3 rest → one ≡ kept ++ get_or group 0 false ∷ [] → two ≡ one ++ get_or group 1 false ∷ []
    → three ≡ two ++ get_or group 2 false ∷ [] → four ≡ three ++ true ∷ [] → 3 ≤ length rest → kept ++ with_ones rest ≡ whole → 3 * length kept + 4 * length rest ≤ 120
    → (four ++ with_ones others ≡ whole) × (3 * length four + 4 * length others ≤ 120)
groups_more kept one two three four rest group others whole front back first second third fourth many before room =
    let first3 = rw front at first in
    let second3 = rw front at second in
    let third3 = rw front at third in
    let left : length others ≡ length rest - 3 = ap length back ∙ length-drop 3 rest in
    let longer : length four ≡ length kept + 4 =
    omega (arith, ap length fourth, length-append three (true ∷ []), ap length third, length-append two (get_or group 2 false ∷ []), ap length second, length-append one (get_or group 1 false ∷ []), ap length first, length-append kept (get_or group 0 false ∷ [])) in
    (ap (λ l. four ++ with_ones l) back ∙ group_more kept one two three four rest whole first3 second3 third3 fourth many before, omega (arith, longer, left, room, many))

pub groups_all : (kept rest whole : List Bool) → length rest < 3 → kept ++ with_ones rest ≡ whole → kept ≡ whole
groups_all kept rest whole few before = sym (append-nil kept) ∙ ap (λ l. kept ++ l) (sym (with-none rest few)) ∙ before

-- ---- a frame
pub frame_is : (form : Form) (down : Down) (start one two all row : List Bool) → start ≡ [] → one ≡ start ++ false ∷ [] → two ≡ one ++ true ∷ [] → row ≡ checked (field_bits form down) → all ≡ two ++ with_ones row
    → all ≡ frame_of form down
unfolding frame_of
frame_is form down start one two all row empty first second is whole =
    whole ∙ ap₂ (λ l d. l ++ with_ones d) (second ∙ ap (λ l. l ++ true ∷ []) (first ∙ ap (λ l. l ++ false ∷ []) empty)) is

pub pushed_one : (bits new : List Bool) (bit : Bool) → new ≡ bits ++ bit ∷ [] → length new ≡ length bits + 1
pushed_one bits new bit is = omega (arith, ap length is, length-append bits (bit ∷ []))
