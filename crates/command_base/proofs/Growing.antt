-- Outputs that grow along a text, one growth after another.
use Rattle.std.proofs.Common.{◌≡◌, ℕ, List, [], ◌++◌, Option, refl, ap, sym, subst, ◌∙◌, append_assoc, append-nil}
use Rattle.std.specs.Io.KnownBytes.{Appends}
use Rattle.std.proofs.KnownBytes.{Appends-nil, Appends-trans}
use Rattle.line_base.specs.Streams.{IsFrontOf, AppendsFront}
use Rattle.command_base.specs.Grown.{GrowsAlong, GrowsTowards}

-- nothing is written of a text that stays
pub grows-nothing : (got : Option (List ℕ)) (text : List ℕ) → GrowsAlong got got text text
grows-nothing got text = record { more = []; is = sym (append-nil text); appended = Appends-nil got }

-- what was put is what the text has more
pub grows-by : (got got' : Option (List ℕ)) (earlier later more : List ℕ) → later ≡ earlier ++ more → Appends got got' more → GrowsAlong got got' earlier later
grows-by got got' earlier later more is appended = record { more = more; is = is; appended = appended }

pub towards-by : (got got' : Option (List ℕ)) (earlier later more : List ℕ) → later ≡ earlier ++ more → AppendsFront got got' more → GrowsTowards got got' earlier later
towards-by got got' earlier later more is front = record { more = more; is = is; front = front }

-- one growth after another
pub grows-twice : (a b c : Option (List ℕ)) (x y z : List ℕ) → GrowsAlong a b x y → GrowsAlong b c y z → GrowsAlong a c x z
grows-twice a b c x y z h k = record {
  more = h.more ++ k.more;
  is = k.is ∙ ap (λ l. l ++ k.more) h.is ∙ append_assoc x h.more k.more;
  appended = Appends-trans a b c h.more k.more h.appended k.appended;
}

-- a front of what is put behind a text
pub front-behind : (a b c : Option (List ℕ)) (text more : List ℕ) → Appends a b text → AppendsFront b c more → AppendsFront a c (text ++ more)
front-behind a b c text more first cut = record {
  front = text ++ cut.front;
  is_front = record { rest = cut.is_front.rest; is = ap (λ l. text ++ l) cut.is_front.is ∙ sym (append_assoc text cut.front cut.is_front.rest) };
  appended = Appends-trans a b c text cut.front first cut.appended;
}

-- a growth, and then one that is cut off
pub grows-cut : (a b c : Option (List ℕ)) (x y z : List ℕ) → GrowsAlong a b x y → GrowsTowards b c y z → GrowsTowards a c x z
grows-cut a b c x y z h k = record {
  more = h.more ++ k.more;
  is = k.is ∙ ap (λ l. l ++ k.more) h.is ∙ append_assoc x h.more k.more;
  front = front-behind a b c h.more k.more h.appended k.front;
}

-- a front of a text is one of each longer text
pub front-longer : (got got' : Option (List ℕ)) (text longer : List ℕ) → AppendsFront got got' text → IsFrontOf text longer → AppendsFront got got' longer
front-longer got got' text longer h front = record {
  front = h.front;
  is_front = record { rest = h.is_front.rest ++ front.rest; is = front.is ∙ ap (λ l. l ++ front.rest) h.is_front.is ∙ append_assoc h.front h.is_front.rest front.rest };
  appended = h.appended;
}

-- a cut growth towards a text is one towards each longer text
pub cut-longer : (got got' : Option (List ℕ)) (x y z : List ℕ) → GrowsTowards got got' x y → IsFrontOf y z → GrowsTowards got got' x z
cut-longer got got' x y z h front = record {
  more = h.more ++ front.rest;
  is = front.is ∙ ap (λ l. l ++ front.rest) h.is ∙ append_assoc x h.more front.rest;
  front = front-longer got got' h.more (h.more ++ front.rest) h.front (record { rest = front.rest; is = refl });
}

-- what an output holds after a growth behind what was put
pub written-behind : (a b c : Option (List ℕ)) (earlier later : List ℕ) → Appends a b earlier → GrowsAlong b c earlier later → Appends a c later
written-behind a b c earlier later written grows = subst (λ (t : List ℕ). Appends a c t) (sym grows.is) (Appends-trans a b c earlier grows.more written grows.appended)

pub cut-behind : (a b c : Option (List ℕ)) (earlier later : List ℕ) → Appends a b earlier → GrowsTowards b c earlier later → AppendsFront a c later
cut-behind a b c earlier later written grows = subst (λ (t : List ℕ). AppendsFront a c t) (sym grows.is) (front-behind a b c earlier grows.more written grows.front)
