-- What the pairs of a SPEC have set so far, as it is kept.
use Rattle.std.specs.Prelude.{◌≡◌, Option, List, length, slice_index_or}
use Rattle.link_words.specs.declared.setting.Chosen.{Chosen}
use Rattle.link_words.specs.declared.setting.Key.{Key}
use Rattle.link_words.specs.declared.setting.Setting.{Setting}
use Rattle.link_words.specs.declared.value.Value.{Value}
use Rattle.link_words.specs.Settings.{place_of, value_at}

-- what is kept at the place of each key is its first value among these settings, if it has one there
pub record Holds (chosen : Chosen) (settings : List Setting) : Type 0 where
  pub counted : length chosen.values ≡ 24
  pub each : (key : Key) (other : Option Value) → slice_index_or chosen.values (place_of key) other ≡ value_at key settings
