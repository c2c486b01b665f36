-- Seeds, numbers below 2^64.
use Rattle.std.proofs.Common.{◌≡◌, ℕ, ◌^◌, ◌<◌, nat_lt, Bool, true, false, cond, Option, Some, None, SomeIff, List, refl, sym, ◌∙◌, ap}
use Rattle.std.specs.Option.{option_map}
use Rattle.std.proofs.lemmas.Bool.{lt-ltb, ltb-true, false_from_ne_true}
use Rattle.line_base.specs.Texts.{◌>>=◌, is_number, number_after, number_in, capped}
use Rattle.line_base.proofs.Numbers.{a_number, not_a_number}
use Rattle.link_words.specs.Seeds.{seed_in}

-- a number, if it is below the bound
abbrev within_bound : Bool → ℕ → Option ℕ
within_bound digital number = cond digital (cond (nat_lt number (2 ^ 64)) (Some number) None) None

bind_test : (digital : Bool) (number : ℕ) → ((cond digital (Some number) None) >>= λ n. cond (nat_lt n (2 ^ 64)) (Some n) None) ≡ within_bound digital number
bind_test true number = refl
bind_test false number = refl

seed_by : (text : List ℕ) → seed_in text ≡ within_bound (is_number text) (number_after 0 text)
unfolding seed_in number_in
seed_by text = bind_test (is_number text) (number_after 0 text)

-- any other text is no seed
pub no_seed : (text : List ℕ) → None ≡ option_map capped (number_in text) → None ≡ seed_in text
no_seed text e = sym (seed_by text ∙ ap (λ t. within_bound t (number_after 0 text)) (not_a_number text e))

bounded : (r : Option ℕ) (number : ℕ) → SomeIff r (number < 2 ^ 64) number → r ≡ cond (nat_lt number (2 ^ 64)) (Some number) None
bounded (Some found) number (below, same) = ap Some same ∙ sym (ap (λ t. cond t (Some number) None) (lt-ltb number (2 ^ 64) below))
bounded None number never = sym (ap (λ t. cond t (Some number) None) (false_from_ne_true (nat_lt number (2 ^ 64)) (λ e. never (ltb-true number (2 ^ 64) e))))

-- the number of digits, if it is below the bound
pub a_seed : (text : List ℕ) (found : ℕ) (r : Option ℕ) → Some found ≡ option_map capped (number_in text) → SomeIff r (number_after 0 text < 2 ^ 64) (number_after 0 text) → r ≡ seed_in text
a_seed text found r e bound = bounded r (number_after 0 text) bound ∙ sym (seed_by text ∙ ap (λ t. within_bound t (number_after 0 text)) (a_number text found e).0)
