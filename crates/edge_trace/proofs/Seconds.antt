-- Times in seconds, by what is read of their parts.
use Rattle.std.proofs.Common.{◌≡◌, ℕ, suc, ◌+◌, ◌-◌, ◌*◌, ◌<◌, ◌≤◌, Bool, true, false, ◌&&◌, Some, None, Option, List, [], ◌∷◌, ◌++◌, length, replicate, refl, sym, ◌∙◌, ap, arith}
use Rattle.std.proofs.lemmas.Bool.{le-leb, lt-leb}
use Rattle.std.specs.Option.{option_map}
use Rattle.line_base.specs.Texts.{is_number, number_after, capped}
use Rattle.line_base.proofs.Numbers.{capped_first, number_after_append}
use Rattle.edge_trace.specs.Fields.{seconds_at, nanoseconds}

-- one more zero
pub zero_more : (before places number counter : ℕ) → capped (number_after number (replicate (places - counter) 48)) ≡ capped (number_after before (replicate places 48)) → counter < places → capped (number_after (capped (number * 10)) (replicate (places - (counter + 1)) 48)) ≡ capped (number_after before (replicate places 48))
zero_more before places number counter so_far within =
    let e : places - counter ≡ suc (places - (counter + 1)) = omega arith in
    let z : number * 10 + 0 ≡ number * 10 = omega arith in
    capped_first (number * 10) (replicate (places - (counter + 1)) 48)
    ∙ ap (λ k. capped (number_after k (replicate (places - (counter + 1)) 48))) (sym z)
    ∙ ap (λ k. capped (number_after number (replicate k 48))) (sym e) ∙ so_far

pub no_whole : (whole : List ℕ) (decimals : Option (List ℕ)) → is_number whole ≡ false → None ≡ option_map capped (seconds_at (whole, decimals))
unfolding seconds_at
no_whole whole None e = rw e refl
no_whole whole (Some decimals) e = rw e refl

and_false : (t : Bool) → (t && false) ≡ false
and_false true = refl
and_false false = refl

pub no_decimals : (whole decimals : List ℕ) → is_number decimals ≡ false → None ≡ option_map capped (seconds_at (whole, Some decimals))
unfolding seconds_at
no_decimals whole decimals e = rw (e, and_false (is_number whole)) refl

pub long_decimals : (whole decimals : List ℕ) → 9 < length decimals → None ≡ option_map capped (seconds_at (whole, Some decimals))
unfolding seconds_at
long_decimals whole decimals long = rw (lt-leb (length decimals) 9 long, and_false (is_number whole && is_number decimals)) refl

pub empty_decimals : (whole decimals : List ℕ) → length decimals ≡ 0 → None ≡ option_map capped (seconds_at (whole, Some decimals))
empty_decimals whole [] e = no_decimals whole [] refl
empty_decimals whole (byte ∷ bytes) e = absurd (omega arith)

pub whole_only : (whole : List ℕ) (seconds found : ℕ) → is_number whole ≡ true → seconds ≡ capped (number_after 0 whole) → found ≡ capped (number_after seconds (replicate 9 48)) → Some found ≡ option_map capped (seconds_at (whole, None))
unfolding seconds_at
whole_only whole seconds found t e f =
    let read : found ≡ capped (nanoseconds whole []) = f ∙ ap (λ k. capped (number_after k (replicate 9 48))) e ∙ capped_first (number_after 0 whole) (replicate 9 48) ∙ ap capped (sym (number_after_append 0 whole (replicate 9 48))) in
    rw t (ap Some read)

pub both_parts : (whole decimals : List ℕ) (seconds number found : ℕ) → is_number whole ≡ true → is_number decimals ≡ true → length decimals ≤ 9 → seconds ≡ capped (number_after 0 whole) → number ≡ capped (number_after seconds decimals) → found ≡ capped (number_after number (replicate (9 - length decimals) 48)) → Some found ≡ option_map capped (seconds_at (whole, Some decimals))
unfolding seconds_at
both_parts whole decimals seconds number found t u few e f g =
    let zeros = replicate (9 - length decimals) 48 in
    let read : found ≡ capped (nanoseconds whole decimals) =
    g ∙ ap (λ k. capped (number_after k zeros)) (f ∙ ap (λ k. capped (number_after k decimals)) e ∙ capped_first (number_after 0 whole) decimals)
    ∙ capped_first (number_after (number_after 0 whole) decimals) zeros
    ∙ ap capped (sym (number_after_append (number_after 0 whole) decimals zeros))
    ∙ ap capped (sym (number_after_append 0 whole (decimals ++ zeros))) in
    rw (t, u, le-leb (length decimals) 9 few) (ap Some read)
