-- The steps of codes stay when more codes come.
--     length-steps      one step a code
--     steps-front      the steps of a front
use Rattle.std.proofs.Common.{◌≡◌, ℕ, suc, List, [], ◌∷◌, ◌++◌, length, refl, ap}
use Rattle.line_base.specs.Streams.{IsFrontOf}
use Rattle.line_base.proofs.Fronts.{IsFrontOf-nil, IsFrontOf-after}
use Rattle.psi5_init.specs.declared.code.Code.{Code}
use Rattle.psi5_init.specs.Readings.{init_reading}
use Rattle.psi5_init.specs.Standings.{Standing, led_by, steps_from}
use Rattle.psi5_init.specs.Standings.Standing.{Fresh}
use Rattle.psi5_init.proofs.LookingBack.{reading-stands}

steps_from-length : (k : ℕ) (standing : Standing) (codes : List Code) → length (steps_from k standing codes) ≡ length codes
unfolding steps_from
steps_from-length k standing [] = refl
steps_from-length k standing (c ∷ codes) = ap suc (steps_from-length k (led_by k standing c).next codes)

steps_from-front : (k : ℕ) (standing : Standing) (codes more : List Code) → IsFrontOf (steps_from k standing codes) (steps_from k standing (codes ++ more))
unfolding steps_from
steps_from-front k standing [] more = IsFrontOf-nil (steps_from k standing more)
steps_from-front k standing (c ∷ codes) more = IsFrontOf-after ((led_by k standing c).step ∷ []) (steps_from-front k (led_by k standing c).next codes more)

pub length-steps : (k : ℕ) (codes : List Code) → length (init_reading k codes) ≡ length codes
length-steps k codes = rw (reading-stands k codes) (steps_from-length k Fresh codes)

pub steps-front : (k : ℕ) (codes more : List Code) → IsFrontOf (init_reading k codes) (init_reading k (codes ++ more))
steps-front k codes more = rw (reading-stands k codes, reading-stands k (codes ++ more)) (steps_from-front k Fresh codes more)
