-- The lines that decide the unit and the form.
use Rattle.std.proofs.Common.{◌≡◌, ℕ, ◌+◌, ◌<◌, ◌≤◌, ◌==◌, ◌&&◌, Bool, true, false, nat_le, Option, Some, None, List, [], ◌∷◌, length, count_by, refl, sym, ◌∙◌, ap, arith, codes}
use Rattle.std.specs.Option.{option_map}
use Rattle.std.specs.List.{list_all}
use Rattle.std.proofs.lemmas.Bool.{le-leb, lt-leb, eq-eqb, ne_eqb}
use Rattle.line_base.specs.Texts.{capped, ◌>>=◌, after_front, before_end, number_in}
use Rattle.edge_trace.specs.EdgeLists.{in_unit_range, unit_before_ns, unit_in, columns_in, is_name_byte}

pub no_unit : (rest : List ℕ) → None ≡ after_front (codes "unit=") rest → None ≡ unit_in rest
unfolding unit_in
no_unit rest e = ap (λ text. text >>= unit_before_ns) e

pub no_end : (rest text : List ℕ) → Some text ≡ after_front (codes "unit=") rest → None ≡ before_end (codes "ns") text → None ≡ unit_in rest
unfolding unit_in
no_end rest text e f = ap (λ d. d >>= λ digits. number_in digits >>= in_unit_range) f ∙ ap (λ t. t >>= unit_before_ns) e

pub unit_number : (rest text digits : List ℕ) → Some text ≡ after_front (codes "unit=") rest → Some digits ≡ before_end (codes "ns") text → (number_in digits >>= in_unit_range) ≡ unit_in rest
unfolding unit_in
unit_number rest text digits e f = ap (λ d. d >>= λ digits. number_in digits >>= in_unit_range) f ∙ ap (λ t. t >>= unit_before_ns) e

pub no_number : (count : Option ℕ) → None ≡ option_map capped count → None ≡ (count >>= in_unit_range)
no_number None e = refl
no_number (Some unit) e = cc

fits : (unit : ℕ) → 1 ≤ unit → unit ≤ 1000000 → in_unit_range unit ≡ Some unit
fits unit low high = rw (le-leb 1 unit low, le-leb unit 1000000 high) refl

and_false : (t : Bool) → (t && false) ≡ false
and_false true = refl
and_false false = refl

small : (unit : ℕ) → unit < 1 → in_unit_range unit ≡ None
small unit low = rw (lt-leb 1 unit low) refl

large : (unit : ℕ) → 1000000 < unit → in_unit_range unit ≡ None
large unit high = rw (lt-leb unit 1000000 high, and_false (nat_le 1 unit)) refl

pub in_range : (count : Option ℕ) (unit : ℕ) → Some unit ≡ option_map capped count → 1 ≤ unit → unit ≤ 1000000 → Some unit ≡ (count >>= in_unit_range)
in_range None unit e low high = cc
in_range (Some count) unit e low high =
    let f : unit ≡ capped count = cc in
    let same : unit ≡ count = omega arith in
    ap Some same ∙ sym (fits count (omega arith) (omega arith))

pub below_range : (count : Option ℕ) (unit : ℕ) → Some unit ≡ option_map capped count → unit < 1 → None ≡ (count >>= in_unit_range)
below_range None unit e low = cc
below_range (Some count) unit e low =
    let f : unit ≡ capped count = cc in
    sym (small count (omega arith))

pub above_range : (count : Option ℕ) (unit : ℕ) → Some unit ≡ option_map capped count → 1000000 < unit → None ≡ (count >>= in_unit_range)
above_range None unit e high = cc
above_range (Some count) unit e high =
    let f : unit ≡ capped count = cc in
    sym (large count (omega arith))

-- columns
pub no_names : (names : List ℕ) → length names ≡ 0 → None ≡ columns_in names
unfolding columns_in
no_names [] e = refl
no_names (byte ∷ bytes) e = absurd (omega arith)

pub some_columns : (names : List ℕ) (first : ℕ) (rest : List ℕ) → names ≡ first ∷ rest → first ≡ 44 → list_all is_name_byte rest ≡ true → 1 + count_by (λ b. b == 44) rest ≤ 16 → Some (1 + count_by (λ b. b == 44) rest) ≡ columns_in names
unfolding columns_in
some_columns names first rest e comma all few = rw (e, eq-eqb first 44 comma, all, le-leb (1 + count_by (λ b. b == 44) rest) 16 few) refl

pub no_comma : (names : List ℕ) (first : ℕ) (rest : List ℕ) → names ≡ first ∷ rest → (first ≡ 44 → ⊥) → None ≡ columns_in names
unfolding columns_in
no_comma names first rest e other = rw (e, ne_eqb first 44 other) refl

pub bad_name : (names : List ℕ) (first : ℕ) (rest : List ℕ) → names ≡ first ∷ rest → list_all is_name_byte rest ≡ false → None ≡ columns_in names
unfolding columns_in
bad_name names first rest e bad = rw (e, bad, and_false (first == 44)) refl

pub many_columns : (names : List ℕ) (first : ℕ) (rest : List ℕ) → names ≡ first ∷ rest → 16 < 1 + count_by (λ b. b == 44) rest → None ≡ columns_in names
unfolding columns_in
many_columns names first rest e many = rw (e, lt-leb (1 + count_by (λ b. b == 44) rest) 16 many, and_false ((first == 44) && list_all is_name_byte rest)) refl
