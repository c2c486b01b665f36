-- The words that a wobble draws (the generator: PCG, XSH RR, 64 bits of state and words of 32).
use Rattle.std.specs.Prelude.{ℕ, zero, suc, List, [], ◌∷◌}
use Rattle.rand_pcg.specs.Lcg.{Lcg}
use Rattle.rand_pcg.specs.Pcg.{pcg32}

-- the next word of a generator
unfoldable pub word : Lcg → ℕ
word g = (pcg32 g).0

-- the generator behind its next word
unfoldable pub behind_word : Lcg → Lcg
behind_word g = (pcg32 g).1

-- the generator behind so many words
unfoldable pub past : ℕ → Lcg → Lcg
past zero g = g
past (suc count) g = past count (behind_word g)

-- its next so many words
unfoldable pub words : ℕ → Lcg → List ℕ
words zero g = []
words (suc count) g = word g ∷ words count (behind_word g)
