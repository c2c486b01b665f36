-- What the pairs of a SPEC set, as it is kept.
use Rattle.std.proofs.Common.{◌≡◌, ℕ, ◌<◌, Bool, cond, Option, Some, None, List, [], ◌∷◌, length, get_or, replicate, refl, sym, ap, ◌∙◌, inl, inr, ◌⊎◌, lit<}
use Rattle.std.proofs.Math.ListN.{set}
use Rattle.std.proofs.lemmas.Bool.{cases_eq, eq-eqb, ne_eqb}
use Rattle.std.proofs.lemmas.List.{get_or-set_same, get_or-set_other, length-set}
use Rattle.link_words.specs.declared.value.Value.{Value}
use Rattle.link_words.specs.declared.setting.Key.{Key}
use Rattle.link_words.specs.declared.setting.Key.TheVariants as key
use Rattle.link_words.specs.declared.setting.Setting.{Setting}
use Rattle.link_words.specs.Settings.{place_of, value_at}
use Rattle.link_words.specs.Choices.{Holds}

place_below : (key : Key) → place_of key < 24
unfolding place_of
place_below key.Line = lit< tt
place_below key.Tick = lit< tt
place_below key.Jitter = lit< tt
place_below key.Nibbles = lit< tt
place_below key.Pause = lit< tt
place_below key.Crc = lit< tt
place_below key.Layout = lit< tt
place_below key.Serial = lit< tt
place_below key.Rate = lit< tt
place_below key.Messaging = lit< tt
place_below key.Control = lit< tt
place_below key.Status = lit< tt
place_below key.DataB = lit< tt
place_below key.DataA = lit< tt
place_below key.Check = lit< tt
place_below key.Sync = lit< tt
place_below key.Slots = lit< tt
place_below key.Init = lit< tt
place_below key.Cover = lit< tt
place_below key.Windows = lit< tt
place_below key.Delay = lit< tt
place_below key.Quiet = lit< tt
place_below key.Period = lit< tt
place_below key.Form = lit< tt

none_at : (key : Key) (other : Option Value) → get_or (replicate 24 None) (place_of key) other ≡ None
unfolding place_of
none_at key.Line other = refl
none_at key.Tick other = refl
none_at key.Jitter other = refl
none_at key.Nibbles other = refl
none_at key.Pause other = refl
none_at key.Crc other = refl
none_at key.Layout other = refl
none_at key.Serial other = refl
none_at key.Rate other = refl
none_at key.Messaging other = refl
none_at key.Control other = refl
none_at key.Status other = refl
none_at key.DataB other = refl
none_at key.DataA other = refl
none_at key.Check other = refl
none_at key.Sync other = refl
none_at key.Slots other = refl
none_at key.Init other = refl
none_at key.Cover other = refl
none_at key.Windows other = refl
none_at key.Delay other = refl
none_at key.Quiet other = refl
none_at key.Period other = refl
none_at key.Form other = refl

-- at first nothing is set
pub none_held : Holds (record { values = replicate 24 None }) []
unfolding value_at
none_held = record { counted = refl; each = none_at }

value_same : (key : Key) (setting : Setting) (settings : List Setting) → place_of key ≡ place_of setting.key → value_at key (setting ∷ settings) ≡ Some setting.value
unfolding value_at
value_same key setting settings e = ap (λ (t : Bool). cond t (Some setting.value) (value_at key settings)) (eq-eqb _ _ e)

value_other : (key : Key) (setting : Setting) (settings : List Setting) → (place_of key ≡ place_of setting.key → ⊥) → value_at key (setting ∷ settings) ≡ value_at key settings
unfolding value_at
value_other key setting settings ne = ap (λ (t : Bool). cond t (Some setting.value) (value_at key settings)) (ne_eqb _ _ ne)

module _ (values : List (Option Value)) (settings : List Setting) (held : Holds (record { values = values }) settings) (setting : Setting) where
  set_at : (key : Key) (other : Option Value) → (place_of key ≡ place_of setting.key) ⊎ (place_of key ≡ place_of setting.key → ⊥) → get_or (set values (place_of setting.key) (Some setting.value)) (place_of key) other ≡ value_at key (setting ∷ settings)
  set_at key other (inl e) =
      let within : place_of setting.key < length values = rw held.counted (place_below setting.key) in
      ap (λ (n : ℕ). get_or (set values (place_of setting.key) (Some setting.value)) n other) e
      ∙ get_or-set_same values (place_of setting.key) (Some setting.value) other within
      ∙ sym (value_same key setting settings e)
  set_at key other (inr ne) =
      get_or-set_other values (place_of setting.key) (place_of key) (Some setting.value) other ne
      ∙ held.each key other
      ∙ sym (value_other key setting settings ne)

  -- one more setting
  pub one_held : Holds (record { values = set values (place_of setting.key) (Some setting.value) }) (setting ∷ settings)
  one_held = record {
    counted = length-set values (place_of setting.key) (Some setting.value) ∙ held.counted;
    each = λ key other. set_at key other (cases_eq (place_of key) (place_of setting.key));
  }
