-- The bits of one status more.
--     pushed      their number, with those of the statuses before it
--     first_bit      of this one alone
--     length-map      as many bits as statuses
use mir.Val.{bool_byte}
use Rattle.std.proofs.Common.{◌≡◌, ℕ, suc, length, ◌+◌, ◌*◌, List, [], ◌∷◌, ◌++◌, Bool, true, false, map, refl, sym, ap, ap₂, ◌∙◌, if◌then◌else◌, arith}
use Rattle.std.proofs.lemmas.List.{map-append}
use Rattle.link_math.specs.Division.{number_of}
use Rattle.link_math.proofs.BitFields.{number_of-push}

byte_of : (bit : Bool) → bool_byte bit ≡ (if bit then 1 else 0)
byte_of true = refl
byte_of false = refl

-- the number of some bit of each status
pub pushed : (bit_of : ℕ → Bool) (kept : List ℕ) (status bits one : ℕ) (bit : Bool) → number_of (map bit_of kept) ≡ bits → one ≡ bool_byte bit → bit ≡ bit_of status
    → number_of (map bit_of (kept ++ status ∷ [])) ≡ 2 * bits + one
pushed bit_of kept status bits one bit before e is =
    ap number_of (map-append bit_of kept (status ∷ []))
    ∙ number_of-push (map bit_of kept) (bit_of status)
    ∙ ap₂ (λ n m. 2 * n + m) before (sym (e ∙ ap bool_byte is ∙ byte_of (bit_of status)))

pub number_none : number_of [] ≡ 0
unfolding number_of
number_none = refl

pub first_bit : (bit_of : ℕ → Bool) (status one : ℕ) (bit : Bool) → one ≡ bool_byte bit → bit ≡ bit_of status → number_of (map bit_of (status ∷ [])) ≡ one
first_bit bit_of status one bit e is = pushed bit_of [] status 0 one bit number_none e is ∙ omega arith

pub length-map : (bit_of : ℕ → Bool) (statuses : List ℕ) → length (map bit_of statuses) ≡ length statuses
length-map bit_of [] = refl
length-map bit_of (status ∷ later) = ap suc (length-map bit_of later)
