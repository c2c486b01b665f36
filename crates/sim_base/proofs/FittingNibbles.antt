-- Nibbles and tests that pass.
--     nibbles-are      nibbles pass the test
--     are-nibbles      and what passes are nibbles
--     also             beside a test that passes another decides
--     both             two tests that pass
use Rattle.std.proofs.Common.{◌≡◌, ℕ, ◌<◌, Bool, true, false, List, [], ◌∷◌, refl, ap₂, sym, ltb, lt-ltb, ltb-true}
use Rattle.std.specs.Prelude.{◌&&◌}
use Rattle.std.specs.List.{All}
use Rattle.std.proofs.lemmas.Bool.{false≢true}
use Rattle.std.proofs.lemmas.List.Elements.{All-cons, All-head, All-nil, All-tail}
use Rattle.sim_base.specs.FittingNibbles.{are_nibbles}

pub nibbles-are : (nibbles : List ℕ) → All (λ nibble. nibble < 16) nibbles → are_nibbles nibbles ≡ true
nibbles-are [] all = refl
nibbles-are (nibble ∷ nibbles) all =
    ap₂ (λ a b. a && b) (lt-ltb nibble 16 (All-head (λ n. n < 16) nibble nibbles all)) (nibbles-are nibbles (All-tail (λ n. n < 16) nibble nibbles all))

-- a test that passes changes nothing
pub also : (one other : Bool) → other ≡ true → one ≡ (one && other)
also false other passes = refl
also true other passes = sym passes

pub both : (one other : Bool) → (one && other) ≡ true → (one ≡ true) × (other ≡ true)
both false other passes = absurd (false≢true passes)
both true other passes = (refl, passes)

-- a nibble that passes is one
pub are-nibbles : (nibbles : List ℕ) → are_nibbles nibbles ≡ true → All (λ nibble. nibble < 16) nibbles
are-nibbles [] passes = All-nil (λ n. n < 16)
are-nibbles (nibble ∷ nibbles) passes =
    let parts = both (ltb nibble 16) (are_nibbles nibbles) passes in
    All-cons (λ n. n < 16) nibble nibbles (ltb-true nibble 16 parts.0) (are-nibbles nibbles parts.1)
