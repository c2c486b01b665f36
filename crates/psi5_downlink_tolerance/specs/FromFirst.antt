-- Which messages of a trace are whole, from the first on whose gap lies between two recorded rises; this project's own.
use Rattle.std.specs.Prelude.{ℕ, suc, ◌-◌, List, [], ◌∷◌, drop, length, map, nat_eq, slice_index, if◌then◌else◌}
use Rattle.psi5_downlink.specs.declared.down.Form.{Form}
use Rattle.psi5_downlink.specs.declared.down.Down.{Down}
use Rattle.psi5_downlink.specs.declared.step.ToothStep.{ToothStep}
use Rattle.psi5_downlink.specs.declared.step.ToothStep.TheVariants.{Nothing, Good, Bad}
use Rattle.psi5_downlink.specs.Setup.{Settings}
use Rattle.psi5_downlink.specs.Rises.{Interval, Rise, intervals_of}
use Rattle.psi5_downlink_tolerance.specs.Trains.{frame_periods}

-- how many of these intervals have six periods
unfoldable pub gap_count : List Interval → ℕ
gap_count [] = 0
gap_count (interval ∷ intervals) = if nat_eq interval.periods 6 then suc (gap_count intervals) else gap_count intervals

-- the report of a frame behind a gap: it is good at the rise that ends its last interval
abbrev pub good_behind : Form → Down → Interval → List Interval → ToothStep
good_behind form down gap later = Good (slice_index (map (λ (interval : Interval). interval.number) (gap ∷ later)) (length (frame_periods form down))) down

-- the reports of these messages, each behind one of the intervals of six periods
unfoldable pub goods_in : Form → List Down → List Interval → List ToothStep
goods_in form [] intervals = []
goods_in form (down ∷ downs) [] = []
goods_in form (down ∷ downs) (interval ∷ intervals) =
    if nat_eq interval.periods 6 then good_behind form down interval intervals ∷ goods_in form downs intervals
    else goods_in form (down ∷ downs) intervals

-- the reports of the last of these messages, as many as there are intervals of six periods
abbrev pub last_goods : Form → List Down → List Interval → List ToothStep
last_goods form messages intervals = goods_in form (drop (length messages - gap_count intervals) messages) intervals

-- the reports of the messages whose gaps lie between recorded rises
abbrev pub from_first : Settings → List Down → List Rise → List ToothStep
from_first s messages rises = last_goods s.form messages (intervals_of s.period rises)

-- what a step reports as good
abbrev pub said : ToothStep → List Down
said Nothing = []
said (Good place down) = down ∷ []
said (Bad place rule) = []
