-- What data nibbles say in a layout (two12, secure12: SAE J2716; one12, split16_8, raw: this project's own).
use Rattle.std.specs.Prelude.{◌≡◌, ◌≢◌, ℕ, ◌+◌, ◌-◌, ◌*◌, ◌≤◌, ◌==◌, List, length, slice_index, Result, Ok, Err, if◌then◌else◌}
use Rattle.line_base.specs.declared.rule.Rule.{Rule}
use Rattle.line_base.specs.declared.rule.Rule.TheVariants.{Copy}
use Rattle.line_base.specs.Nibbles.{AreNibbles}
use Rattle.sent_fast.specs.declared.layout.Layout.{Layout}
use Rattle.sent_fast.specs.declared.layout.Layout.TheVariants as layout
use Rattle.sent_fast.specs.declared.layout.Fast.{Fast}
use Rattle.sent_fast.specs.declared.layout.Fast.TheVariants as fast

-- so many nibbles fit the layout: 3 in one12, any number in raw, 6 in the others
abbrev pub FitsLayout : Layout → List ℕ → Type 0
FitsLayout layout.Raw nibbles = Unit {0}
FitsLayout layout.One12 nibbles = length nibbles ≡ 3
FitsLayout layout.Two12 nibbles = length nibbles ≡ 6
FitsLayout layout.Secure12 nibbles = length nibbles ≡ 6
FitsLayout layout.Split16x8 nibbles = length nibbles ≡ 6

-- the data nibble with this number, counted from 1
abbrev pub nibble : List ℕ → ℕ → ℕ
nibble nibbles number = slice_index nibbles (number - 1)

-- the 12-bit value of nibbles 1 to 3, the highest first
abbrev pub value_of_first_three : List ℕ → ℕ
value_of_first_three nibbles = 256 * nibble nibbles 1 + 16 * nibble nibbles 2 + nibble nibbles 3

-- what the nibbles say in the layout; in secure12 they break a rule where nibble 6 isn't 15 minus nibble 1
abbrev pub fast_of : Layout → List ℕ → Result Fast Rule
fast_of layout.Raw nibbles = Ok fast.Raw
fast_of layout.One12 nibbles = Ok (fast.One (value_of_first_three nibbles))
fast_of layout.Two12 nibbles =
    Ok (fast.Two (value_of_first_three nibbles) (nibble nibbles 4 + 16 * nibble nibbles 5 + 256 * nibble nibbles 6))
fast_of layout.Secure12 nibbles =
    if nibble nibbles 6 == 15 - nibble nibbles 1
    then Ok (fast.Secure (value_of_first_three nibbles) (16 * nibble nibbles 4 + nibble nibbles 5))
    else Err Copy
fast_of layout.Split16x8 nibbles =
    Ok
    (fast.Split (4096 * nibble nibbles 1 + 256 * nibble nibbles 2 + 16 * nibble nibbles 3 + nibble nibbles 4) (nibble nibbles 5 + 16 * nibble nibbles 6))

-- the layout that a value of this kind belongs to
abbrev pub layout_of : Fast → Layout
layout_of fast.Raw = layout.Raw
layout_of (fast.One a) = layout.One12
layout_of (fast.Two a b) = layout.Two12
layout_of (fast.Secure a counter) = layout.Secure12
layout_of (fast.Split a b) = layout.Split16x8

-- 12-bit values are at most 4,095, 16-bit values at most 65,535, and counters and 8-bit values at most 255
abbrev pub InRange : Fast → Type 0
InRange fast.Raw = Unit {0}
InRange (fast.One a) = a ≤ 4095
InRange (fast.Two a b) = (a ≤ 4095) × (b ≤ 4095)
InRange (fast.Secure a counter) = (a ≤ 4095) × (counter ≤ 255)
InRange (fast.Split a b) = (a ≤ 65535) × (b ≤ 255)

-- there are nibbles that say this value: it isn't raw, and its values are in range
abbrev pub HasNibbles : Fast → Type 0
HasNibbles said = (said ≢ fast.Raw) × InRange said

-- the nibbles say this value, in the layout that it belongs to
pub record Spells (said : Fast) (nibbles : List ℕ) : Type 0 where
  pub are_nibbles : AreNibbles nibbles
  pub fits : FitsLayout (layout_of said) nibbles
  pub value : fast_of (layout_of said) nibbles ≡ Ok said
