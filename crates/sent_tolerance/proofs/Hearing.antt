-- What is heard of a list, whatever its elements are.
--     heard-map      of what is made of each element
--     heard-rest     it is what was sent, from some element on
use Rattle.std.proofs.Common.{◌≡◌, ℕ, zero, suc, ◌-◌, ◌*◌, List, [], ◌∷◌, length, map, drop, slice_index, refl, ap, ◌∙◌}
use Rattle.std.proofs.lemmas.List.{length-map}
use Rattle.line_base.specs.Edges.{NumberedEdge}
use Rattle.sent_frame.specs.Setup.{Settings}
use Rattle.sent_frame.specs.Pulses.{Fall, falls_of}
use Rattle.sent_tolerance.specs.FromFirst.{Heard, pulse_count, heard_from, heard_of}

-- the same place, for what is made of what was sent
abbrev pub heard_as : {A B : Type 0} → (A → B) → Heard A → Heard B
heard_as f heard = record { place = heard.place; sent = f heard.sent }

from-map : {A B : Type 0} (f : A → B) (s : Settings) (missing : ℕ) (xs : List A) (falls : List ℕ) → heard_from s missing (map f xs) falls ≡ map (heard_as f) (heard_from s missing xs falls)
unfolding heard_from
from-map f s missing [] falls = refl
from-map f s zero (x ∷ xs) falls = ap (λ l. record { place = slice_index falls (suc (suc (suc s.nibbles))); sent = f x } ∷ l) (from-map f s zero xs (drop (pulse_count s) falls))
from-map f s (suc missing) (x ∷ xs) falls = from-map f s (suc missing - pulse_count s) xs (drop (pulse_count s - suc missing) falls)

pub heard-map : {A B : Type 0} (f : A → B) (s : Settings) (xs : List A) (edges : List NumberedEdge) → heard_of s (map f xs) edges ≡ map (heard_as f) (heard_of s xs edges)
unfolding heard_of
heard-map f s xs edges =
    ap (λ n. heard_from s (suc (n * pulse_count s) - length (falls_of edges)) (map f xs) (map (λ (fall : Fall). fall.number) (falls_of edges))) (length-map xs f)
    ∙ from-map f s (suc (length xs * pulse_count s) - length (falls_of edges)) xs (map (λ (fall : Fall). fall.number) (falls_of edges))

all-heard : {A : Type 0} (s : Settings) (xs : List A) (falls : List ℕ) → map (λ (heard : Heard A). heard.sent) (heard_from s zero xs falls) ≡ xs
unfolding heard_from
all-heard s [] falls = refl
all-heard s (x ∷ xs) falls = ap (λ l. x ∷ l) (all-heard s xs (drop (pulse_count s) falls))

-- the rest of a list
record IsRest {A : Type 0} (rest xs : List A) : Type 0 where
  from : ℕ
  is : rest ≡ drop from xs

later-rest : {A : Type 0} (x : A) (rest xs : List A) → IsRest rest xs → IsRest rest (x ∷ xs)
later-rest x rest xs h = record { from = suc h.from; is = h.is }

from-rest : {A : Type 0} (s : Settings) (missing : ℕ) (xs : List A) (falls : List ℕ) → IsRest (map (λ (heard : Heard A). heard.sent) (heard_from s missing xs falls)) xs
unfolding heard_from
from-rest s missing [] falls = record { from = 0; is = refl }
from-rest s zero (x ∷ xs) falls = record { from = 0; is = all-heard s (x ∷ xs) falls }
from-rest s (suc missing) (x ∷ xs) falls = later-rest x _ xs (from-rest s (suc missing - pulse_count s) xs (drop (pulse_count s - suc missing) falls))

-- what is heard is what was sent, from some element on
pub heard-rest : {A : Type 0} (s : Settings) (xs : List A) (edges : List NumberedEdge) → (from : ℕ) × (map (λ (heard : Heard A). heard.sent) (heard_of s xs edges) ≡ drop from xs)
unfolding heard_of
heard-rest s xs edges =
    let h = from-rest s (suc (length xs * pulse_count s) - length (falls_of edges)) xs (map (λ (fall : Fall). fall.number) (falls_of edges)) in (h.from, h.is)
