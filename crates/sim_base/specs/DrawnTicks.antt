-- The ticks of a sensor, by words of a wobble: all in ps, the nominal tick in ns. Which words are drawn for what is this project's own.
use Rattle.std.specs.Prelude.{ℕ, ◌+◌, ◌-◌, ◌*◌, ◌/◌, ◌%◌, min, max, List, map}

-- the tick of a frame behind one of this tick, by this word: off from it by up to a 200th, and brought into 4/5 to 6/5 of the nominal tick
unfoldable pub next_tick : ℕ → ℕ → ℕ → ℕ
next_tick nominal tick word = max (800 * nominal) (min (1200 * nominal) (tick + word % (2 * (tick / 200) + 1) - tick / 200))

-- the own tick of a pulse in a frame of this tick, by this word: off from it by up to a 400th
unfoldable pub own_tick : ℕ → ℕ → ℕ
own_tick tick word = tick + word % (2 * (tick / 400) + 1) - tick / 400

-- the own ticks of pulses in a frame of this tick, by these words
abbrev pub own_ticks : ℕ → List ℕ → List ℕ
own_ticks tick words = map (own_tick tick) words

-- the length of a pause in ticks, by this word: 12 to 768
unfoldable pub pause_ticks : ℕ → ℕ
pause_ticks word = 12 + word % 757

-- any tick of 4/5 to 6/5 of the nominal one, by this word
unfoldable pub any_tick : ℕ → ℕ → ℕ
any_tick nominal word = 800 * nominal + word % (400 * nominal + 1)
