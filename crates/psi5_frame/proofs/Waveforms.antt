-- A waveform belongs to one list of bits, and to one payload.
--     one_list      the bits of a list of places
--     one_payload      the payload of a list of places
use Rattle.std.proofs.Common.{◌≡◌, ℕ, suc, Bool, true, false, List, [], ◌∷◌, ◌++◌, length, drop, refl, sym, ◌∙◌, ap, arith}
use Rattle.psi5_frame.specs.declared.burst.Payload.{Payload}
use Rattle.psi5_frame.specs.Setup.{Settings, check_width}
use Rattle.psi5_frame.specs.Frames.{check_number, payload_bits, payload_of, Fits, frame_of, changed_at, waveform, levels_of}
use Rattle.link_math.specs.Division.{bits_of}
use Rattle.psi5_frame.proofs.Payloads.{payload_of-payload_bits}
use Rattle.psi5_frame.proofs.FrameLaws.{length-framed}

same_tail : (x y : ℕ) (xs ys : List ℕ) → x ∷ xs ≡ y ∷ ys → xs ≡ ys
same_tail x y xs ys e = cc

later : (place : ℕ) (xs ys : List ℕ) {C : Type 0} → place ∷ xs ≡ suc place ∷ ys → C
later place xs ys e = let h : place ≡ suc place = cc in absurd (omega (arith, h))

one_list : (place : ℕ) (level : Bool) (xs ys : List Bool) → length xs ≡ length ys
    → changed_at place level (levels_of xs ++ false ∷ []) ≡ changed_at place level (levels_of ys ++ false ∷ []) → xs ≡ ys
unfolding changed_at
one_list place level [] [] long e = refl
one_list place level [] (y ∷ ys) long e = absurd (omega (arith, long))
one_list place level (x ∷ xs) [] long e = absurd (omega (arith, long))
one_list place true (true ∷ xs) (true ∷ ys) long e = ap (λ l. true ∷ l) (one_list (suc (suc place)) false xs ys (omega (arith, long)) (same_tail _ _ _ _ e))
one_list place false (false ∷ xs) (false ∷ ys) long e = ap (λ l. false ∷ l) (one_list (suc (suc place)) true xs ys (omega (arith, long)) (same_tail _ _ _ _ e))
one_list place true (false ∷ xs) (false ∷ ys) long e = ap (λ l. false ∷ l) (one_list (suc (suc place)) true xs ys (omega (arith, long)) (same_tail _ _ _ _ (same_tail _ _ _ _ e)))
one_list place false (true ∷ xs) (true ∷ ys) long e = ap (λ l. true ∷ l) (one_list (suc (suc place)) false xs ys (omega (arith, long)) (same_tail _ _ _ _ (same_tail _ _ _ _ e)))
one_list place true (true ∷ xs) (false ∷ ys) long e = later place _ _ (sym e)
one_list place true (false ∷ xs) (true ∷ ys) long e = later place _ _ e
one_list place false (false ∷ xs) (true ∷ ys) long e = later place _ _ (sym e)
one_list place false (true ∷ xs) (false ∷ ys) long e = later place _ _ e

pub one_payload : (s : Settings) (p q : Payload) → Fits s.parts p → Fits s.parts q → waveform (frame_of s p) ≡ waveform (frame_of s q) → p ≡ q
unfolding waveform
one_payload s p q fits_p fits_q e =
    let check_p = bits_of (check_width s.check) (check_number s.check (payload_bits s.parts p)) in
    let check_q = bits_of (check_width s.check) (check_number s.check (payload_bits s.parts q)) in
    let bits : frame_of s p ≡ frame_of s q = one_list 0 false (frame_of s p) (frame_of s q) (ap (λ n. suc (suc n)) (length-framed s p ∙ sym (length-framed s q))) e in
    sym (payload_of-payload_bits s.parts p check_p fits_p) ∙ ap (λ l. payload_of s.parts (drop 2 l)) bits ∙ payload_of-payload_bits s.parts q check_q fits_q
