-- Texts that are written one after another, some of which are gathered first.
--     takes-nothing, takes-then, then-cut, takes-put     what was written, with a text more
--     grows-nothing, grows-twice, grows-cut, cut-longer  the same of what a later text has after an earlier one
use Rattle.std.proofs.Common.{◌≡◌, ℕ, List, [], ◌∷◌, ◌++◌, Bool, true, false, Option, ap, sym, subst, ◌∙◌, append_assoc, append-nil, refl, flat_map}
use Rattle.std.proofs.KnownBytes.{Appends-nil, Appends-trans}
use Rattle.std.specs.Io.KnownBytes.{Appends}
use Rattle.line_base.specs.Streams.{IsFrontOf, AppendsFront}
use Rattle.receiver_core.specs.declared.report.Report.{Report}
use Rattle.report_text.specs.Reports.{report_line, lines_of}
use Rattle.decode_command.specs.Channels.{told_lines}
use Rattle.decode_command.specs.Writes.{Written, Takes, TakesFront, GrowsAlong, GrowsTowards}

-- no text is written
pub takes-nothing : (at : Written) → Takes at at []
takes-nothing at = record { put = []; appended = Appends-nil at.got; parts = append-nil at.gathered }

-- one text behind another
pub takes-then : (a b c : Written) (text more : List ℕ) → Takes a b text → Takes b c more → Takes a c (text ++ more)
takes-then a b c text more first second = record {
  put = first.put ++ second.put;
  appended = Appends-trans a.got b.got c.got first.put second.put first.appended second.appended;
  parts = sym (append_assoc a.gathered text more) ∙ ap (λ l. l ++ more) first.parts ∙ append_assoc first.put b.gathered more ∙ ap (λ l. first.put ++ l) second.parts
      ∙ sym (append_assoc first.put second.put c.gathered);
}

-- a put that fails behind a text
pub then-cut : (a b : Written) (got : Option (List ℕ)) (text more : List ℕ) → Takes a b text → TakesFront b got more → TakesFront a got (text ++ more)
then-cut a b got text more first cut = record {
  front = first.put ++ cut.front;
  is_front = record {
    rest = cut.is_front.rest;
    is = sym (append_assoc a.gathered text more) ∙ ap (λ l. l ++ more) first.parts ∙ append_assoc first.put b.gathered more ∙ ap (λ l. first.put ++ l) cut.is_front.is
        ∙ sym (append_assoc first.put cut.front cut.is_front.rest);
  };
  appended = Appends-trans a.got b.got got first.put cut.front first.appended cut.appended;
}

-- a put that fails within a text fails within each longer one
pub cut-behind : (a : Written) (got : Option (List ℕ)) (text more : List ℕ) → TakesFront a got text → TakesFront a got (text ++ more)
cut-behind a got text more cut = record {
  front = cut.front;
  is_front = record {
    rest = cut.is_front.rest ++ more;
    is = sym (append_assoc a.gathered text more) ∙ ap (λ l. l ++ more) cut.is_front.is ∙ append_assoc cut.front cut.is_front.rest more;
  };
  appended = cut.appended;
}

-- what is gathered is put
pub takes-put : (a b : Written) (got : Option (List ℕ)) (text : List ℕ) → Takes a b text → Appends b.got got b.gathered → Takes a (record { got = got; gathered = [] }) text
takes-put a b got text taken put = record {
  put = taken.put ++ b.gathered;
  appended = Appends-trans a.got b.got got taken.put b.gathered taken.appended put;
  parts = taken.parts ∙ sym (append-nil (taken.put ++ b.gathered));
}

-- or a front of it
pub takes-cut : (a b : Written) (got : Option (List ℕ)) (text : List ℕ) → Takes a b text → AppendsFront b.got got b.gathered → TakesFront a got text
takes-cut a b got text taken cut = record {
  front = taken.put ++ cut.front;
  is_front = record { rest = cut.is_front.rest; is = taken.parts ∙ ap (λ l. taken.put ++ l) cut.is_front.is ∙ sym (append_assoc taken.put cut.front cut.is_front.rest) };
  appended = Appends-trans a.got b.got got taken.put cut.front taken.appended cut.appended;
}

-- a text that was written with nothing gathered, before or after, was appended
pub takes-bare : (got got' : Option (List ℕ)) (text : List ℕ) → Takes (record { got = got; gathered = [] }) (record { got = got'; gathered = [] }) text → Appends got got' text
takes-bare got got' text taken = subst (λ (t : List ℕ). Appends got got' t) (sym (taken.parts ∙ append-nil taken.put)) taken.appended

-- lines that aren't told are nothing
pub told-then : (told : Bool) (some others : List ℕ) → told_lines told some ++ told_lines told others ≡ told_lines told (some ++ others)
told-then true some others = refl
told-then false some others = refl

-- the line of a report, and then those of the others
pub lines-then : (number : ℕ) (report : Report) (others all : List Report) → all ≡ report ∷ others → report_line number report ++ lines_of number others ≡ lines_of number all
unfolding lines_of
lines-then number report others all parts = ap (flat_map (report_line number)) (sym parts)

-- no report has no line
pub no-lines : (number : ℕ) (reports : List Report) → reports ≡ [] → lines_of number reports ≡ []
unfolding lines_of
no-lines number reports none = ap (flat_map (report_line number)) none

-- nothing is written of a text
pub grows-nothing : (at : Written) (text : List ℕ) → GrowsAlong at at text text
grows-nothing at text = record { more = []; is = sym (append-nil text); taken = takes-nothing at }

-- one growth after another
pub grows-twice : (a b c : Written) (x y z : List ℕ) → GrowsAlong a b x y → GrowsAlong b c y z → GrowsAlong a c x z
grows-twice a b c x y z h k = record {
  more = h.more ++ k.more;
  is = k.is ∙ ap (λ l. l ++ k.more) h.is ∙ append_assoc x h.more k.more;
  taken = takes-then a b c h.more k.more h.taken k.taken;
}

-- a growth, and then one that is cut off
pub grows-cut : (a b : Written) (got : Option (List ℕ)) (x y z : List ℕ) → GrowsAlong a b x y → GrowsTowards b got y z → GrowsTowards a got x z
grows-cut a b got x y z h k = record {
  more = h.more ++ k.more;
  is = k.is ∙ ap (λ l. l ++ k.more) h.is ∙ append_assoc x h.more k.more;
  front = then-cut a b got h.more k.more h.taken k.front;
}

-- a cut growth towards a text is one towards each longer text
pub cut-longer : (a : Written) (got : Option (List ℕ)) (x y z : List ℕ) → GrowsTowards a got x y → IsFrontOf y z → GrowsTowards a got x z
cut-longer a got x y z h front = record {
  more = h.more ++ front.rest;
  is = front.is ∙ ap (λ l. l ++ front.rest) h.is ∙ append_assoc x h.more front.rest;
  front = cut-behind a got h.more front.rest h.front;
}
