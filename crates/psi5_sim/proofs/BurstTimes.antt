-- The ideal times of a burst's edges.
--     AreTimes, times-none, times-more     those of the places so far
--     times-all                            of a whole frame, which has edges
use Rattle.std.proofs.Common.{◌≡◌, ℕ, ◌+◌, ◌*◌, ◌^◌, ◌<◌, ◌≤◌, true, false, List, [], ◌∷◌, ◌++◌, length, take, map, get_or, refl, ap, sym, subst, ◌∙◌, arith}
use Rattle.std.specs.List.{All}
use Rattle.std.proofs.lemmas.List.{map_more, take_all}
use Rattle.std.proofs.lemmas.List.Elements.{All-nil, All-push}
use Rattle.std.proofs.lemmas.Nat.{mul-le}
use Rattle.psi5_frame.specs.declared.burst.Payload.{Payload}
use Rattle.psi5_frame.specs.Setup.{Settings, check_width}
use Rattle.psi5_frame.specs.Frames.{changed_at, check_number, frame_of, levels_of, payload_bits, waveform}
use Rattle.link_math.specs.Division.{bits_of}
use Rattle.spc_tolerance.specs.Trains.{last_of}

-- the time at a place
abbrev pub time_at : ℕ → ℕ → ℕ → ℕ
time_at start half place = start + place * half

pub last-push : (before time : ℕ) (times : List ℕ) → last_of before (times ++ time ∷ []) ≡ time
last-push before time [] = refl
last-push before time (next ∷ times) = last-push next time times

-- the times of these places
pub record AreTimes (start half : ℕ) (places times : List ℕ) (last : ℕ) : Type 0 where
  pub times_are : times ≡ map (time_at start half) places
  pub last_is : last ≡ last_of 0 times
  pub near : All (λ time. (start ≤ time) × (time ≤ start + 2 ^ 31)) times

pub times-none : (start half : ℕ) (places times : List ℕ) → times ≡ [] → AreTimes start half (take 0 places) times 0
times-none start half places times none =
    subst (λ l. AreTimes start half [] l 0) (sym none) (record { times_are = refl; last_is = refl; near = All-nil (λ time. (start ≤ time) × (time ≤ start + 2 ^ 31)) })

pub times-more : (start half : ℕ) (places : List ℕ) (index : ℕ) (times more : List ℕ) (last : ℕ) → half ≤ 4200000 → get_or places index 0 < 256 → index < length places → AreTimes start half (take index places) times last
    → more ≡ times ++ (start + get_or places index 0 * half) ∷ [] → AreTimes start half (take (index + 1) places) more (start + get_or places index 0 * half)
times-more start half places index times more last short small within so_far more_is =
    let place = get_or places index 0 in
    let room : place * half ≤ 256 * 4200000 = mul-le place half 256 4200000 (omega (arith, small)) short in
    subst (λ l. AreTimes start half (take (index + 1) places) l (start + place * half)) (sym more_is) (record {
      times_are = ap (λ l. l ++ (start + place * half) ∷ []) so_far.times_are ∙ sym (map_more (time_at start half) places index 0 within);
      last_is = sym (last-push 0 (start + place * half) times);
      near = All-push (λ time. (start ≤ time) × (time ≤ start + 2 ^ 31)) times (start + place * half) so_far.near (omega arith, omega (arith, room));
    })

-- the first edge of a frame is at half-bit 1
pub frame-begins : (s : Settings) (p : Payload) → waveform (frame_of s p) ≡ 1 ∷ changed_at 2 true (levels_of (false ∷ (payload_bits s.parts p ++ bits_of (check_width s.check) (check_number s.check (payload_bits s.parts p)))) ++ false ∷ [])
unfolding waveform changed_at
frame-begins s p = refl

last-least : (start before : ℕ) (half : ℕ) (places : List ℕ) → start ≤ before → start ≤ last_of before (map (time_at start half) places)
last-least start before half [] begins = begins
last-least start before half (place ∷ places) begins = last-least start (start + place * half) half places (omega arith)

pub begins-frame : (s : Settings) (p : Payload) (start half : ℕ) → start ≤ last_of 0 (map (time_at start half) (waveform (frame_of s p)))
begins-frame s p start half =
    let rest = changed_at 2 true (levels_of (false ∷ (payload_bits s.parts p ++ bits_of (check_width s.check) (check_number s.check (payload_bits s.parts p)))) ++ false ∷ []) in
    subst (λ l. start ≤ last_of 0 (map (time_at start half) l)) (sym (frame-begins s p)) (last-least start (start + 1 * half) half rest (omega arith))

-- the times of all places
pub times-all : (start half : ℕ) (places : List ℕ) (index : ℕ) (times : List ℕ) (last : ℕ) → length places ≤ index → AreTimes start half (take index places) times last → AreTimes start half places times last
times-all start half places index times last past so_far = subst (λ l. AreTimes start half l times last) (take_all index places past) so_far
