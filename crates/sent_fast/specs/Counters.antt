-- Which counter follows which, from frame to frame (secure12: SAE J2716).
use Rattle.std.specs.Prelude.{◌≡◌, ℕ, ◌+◌, ◌%◌}

-- the counter follows the one before: it is one more, and 0 after 255
abbrev pub Follows : ℕ → ℕ → Type 0
Follows before counter = counter ≡ (before + 1) % 256
