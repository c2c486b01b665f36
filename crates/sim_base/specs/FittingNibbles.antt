-- Which nibbles a sensor can send: their values are the standard's (SAE J2716), their number is the setup's.
use Rattle.std.specs.Prelude.{ℕ, Bool, true, ◌&&◌, nat_eq, nat_lt, List, [], ◌∷◌, length}
use Rattle.sent_frame.specs.Setup.{Settings}

-- each of these numbers is a nibble
abbrev pub are_nibbles : List ℕ → Bool
are_nibbles [] = true
are_nibbles (nibble ∷ nibbles) = nat_lt nibble 16 && are_nibbles nibbles

-- these nibbles are as many as the setup says
abbrev pub fits_nibbles : Settings → List ℕ → Bool
fits_nibbles s nibbles = nat_eq (length nibbles) s.nibbles && are_nibbles nibbles
