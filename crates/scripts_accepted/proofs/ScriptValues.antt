-- The values of a script's messages fit.
--     value-below           a value of so many bits is below that power of two
--     nibbles-small         nibbles that are drawn are nibbles
--     length-nibbles        and as many as are drawn
--     frame-nibbles-fit     those of a frame fit its setup
use Rattle.std.proofs.Common.{◌≡◌, ℕ, zero, suc, ◌-◌, ◌/◌, ◌%◌, ◌^◌, ◌<◌, true, List, [], ◌∷◌, ◌++◌, length, map, get_or, refl, ap, ◌∙◌, ltb, lt-ltb, eqb, eqb-true, eq-eqb, append-nil, arith}
use Rattle.std.specs.Prelude.{◌&&◌}
use Rattle.std.proofs.lemmas.List.{length-append, length-map}
use Rattle.std.proofs.lemmas.Nat.{mod_below, pow_pos}
use Rattle.rand_pcg.specs.Lcg.{Lcg}
use Rattle.sent_fast.specs.declared.layout.Layout.{Layout}
use Rattle.sent_fast.specs.declared.layout.Layout.TheVariants as layout
use Rattle.sent_frame.specs.Setup.{Settings}
use Rattle.receiver_core.specs.Setups.{nibbles_fit}
use Rattle.sim_base.specs.FittingNibbles.{are_nibbles, fits_nibbles}
use Rattle.sim_base.specs.Wobbles.{words}
use Rattle.sim_base.proofs.RecordedTimes.{length-words}
use Rattle.sensor_script.specs.Draws.{nibbles_by, value}
use Rattle.sensor_script.specs.Scripts.{frame_nibbles}
use Rattle.scripts_accepted.proofs.FittingMessages.{and-true}

-- a value of so many bits is below that power of two
pub value-below : (width : ℕ) (g : Lcg) → value width g < 2 ^ width
unfolding value
value-below zero g = omega arith
value-below (suc width) g = mod_below _ (2 ^ suc width) (pow_pos (suc width))

-- so it passes the test
pub value-fits : (width : ℕ) (g : Lcg) → ltb (value width g) (2 ^ width) ≡ true
value-fits width g = lt-ltb (value width g) (2 ^ width) (value-below width g)

-- ---- nibbles
-- what is left of a word by 16 is a nibble
each-small : (drawn : List ℕ) → are_nibbles (map (λ word. word % 16) drawn) ≡ true
each-small [] = refl
each-small (word ∷ drawn) = and-true (ltb (word % 16) 16) (are_nibbles (map (λ word. word % 16) drawn)) (lt-ltb (word % 16) 16 (mod_below word 16 (omega arith))) (each-small drawn)

-- nibbles that are drawn are nibbles
pub nibbles-small : (count : ℕ) (g : Lcg) → are_nibbles (nibbles_by count g) ≡ true
nibbles-small count g = each-small (words count g)

-- they are as many as are drawn
pub length-nibbles : (count : ℕ) (g : Lcg) → length (nibbles_by count g) ≡ count
length-nibbles count g = length-map (words count g) (λ word. word % 16) ∙ length-words count g

-- so many nibbles as a setup says fit it
pub nibbles-fit-by : (s : Settings) (g : Lcg) → fits_nibbles s (nibbles_by s.nibbles g) ≡ true
nibbles-fit-by s g = and-true (eqb (length (nibbles_by s.nibbles g)) s.nibbles) (are_nibbles (nibbles_by s.nibbles g)) (eq-eqb (length (nibbles_by s.nibbles g)) s.nibbles (length-nibbles s.nibbles g)) (nibbles-small s.nibbles g)

-- nibbles behind nibbles
nibbles-behind : (nibbles more : List ℕ) → are_nibbles nibbles ≡ true → are_nibbles more ≡ true → are_nibbles (nibbles ++ more) ≡ true
nibbles-behind [] more first second = second
nibbles-behind (nibble ∷ nibbles) more first second = grind (arith, first, nibbles-behind nibbles more)

-- they fit with nothing behind them
none-behind : (s : Settings) (g : Lcg) → fits_nibbles s (nibbles_by s.nibbles g ++ []) ≡ true
none-behind s g = ap (fits_nibbles s) (append-nil (nibbles_by s.nibbles g)) ∙ nibbles-fit-by s g

-- a counter's nibbles, and 15 less a number
three-small : (counter first : ℕ) → counter < 256 → are_nibbles (counter / 16 ∷ counter % 16 ∷ (15 - first) ∷ []) ≡ true
three-small counter first small =
    and-true (ltb (counter / 16) 16) (ltb (counter % 16) 16 && (ltb (15 - first) 16 && true)) (lt-ltb (counter / 16) 16 (omega arith))
    (and-true (ltb (counter % 16) 16) (ltb (15 - first) 16 && true) (lt-ltb (counter % 16) 16 (omega arith)) (and-true (ltb (15 - first) 16) true (lt-ltb (15 - first) 16 (omega arith)) refl))

-- three nibbles fit with a counter and 15 less the first behind them
secure-fits : (s : Settings) (counter : ℕ) (g : Lcg) → counter < 256 → s.nibbles ≡ 6
    → fits_nibbles s (nibbles_by 3 g ++ counter / 16 ∷ counter % 16 ∷ (15 - get_or (nibbles_by 3 g) 0 0) ∷ []) ≡ true
secure-fits s counter g small six =
    let more = counter / 16 ∷ counter % 16 ∷ (15 - get_or (nibbles_by 3 g) 0 0) ∷ [] in
    let many : length (nibbles_by 3 g ++ more) ≡ s.nibbles = omega (arith, length-append (nibbles_by 3 g) more, length-nibbles 3 g, six) in
    and-true (eqb (length (nibbles_by 3 g ++ more)) s.nibbles) (are_nibbles (nibbles_by 3 g ++ more)) (eq-eqb (length (nibbles_by 3 g ++ more)) s.nibbles many)
    (nibbles-behind (nibbles_by 3 g) more (nibbles-small 3 g) (three-small counter (get_or (nibbles_by 3 g) 0 0) small))

-- the nibbles of a script's frame fit its setup
pub frame-nibbles-fit : (s : Settings) (form : Layout) (counter : ℕ) (g : Lcg) → counter < 256 → nibbles_fit form s.nibbles ≡ true → fits_nibbles s (frame_nibbles form s.nibbles counter g) ≡ true
unfolding frame_nibbles
frame-nibbles-fit s layout.Raw counter g small fit = none-behind s g
frame-nibbles-fit s layout.One12 counter g small fit = none-behind s g
frame-nibbles-fit s layout.Two12 counter g small fit = none-behind s g
frame-nibbles-fit s layout.Secure12 counter g small fit = secure-fits s counter g small (eqb-true s.nibbles 6 fit)
frame-nibbles-fit s layout.Split16x8 counter g small fit = none-behind s g
