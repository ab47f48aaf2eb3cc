-- Bytes that begin with the fields of a header and points: one point more, and all of them.
use Rattle.project_journal.proofs.Common.{◌≡◌, ℕ, zero, suc, ltb, ◌+◌, ◌-◌, ◌<◌, ◌≤◌, inl, inr, Option, Some, List, []}
use Rattle.project_journal.proofs.Common.{◌∷◌, ◌++◌, length, map, take, drop, refl, sym, ◌∙◌, ap, subst, arith}
use Rattle.project_journal.proofs.Common.{append_assoc, length-append, length-drop, append-nil, map-append}
use Rattle.project_journal.proofs.Common.{get_or_append_left, length-map, little_number}
use Rattle.project_journal.proofs.Common.{Whole, Shut, Early, Form, IsForm, IsFormat, first_failed, Contents, Row, row}
use Rattle.project_journal.proofs.Common.{bytes_in, IsRow, IsHeaded, IsCut, IsRead, body_at, next_point, header_end}
use Rattle.project_journal.proofs.Common.{placed, points_size, Damaged, Next, field, Base, IsBegun}
use Rattle.std.proofs.lemmas.List.{drop-append-le}
use Rattle.project_journal.proofs.AnyFormats.{HasBase, HasCounts, base_valid, counts_valid, format_as, numbers_valid}
use Rattle.project_journal.proofs.Parses.{form_least, not_shut, tests_front, base_front}
use Rattle.project_journal.proofs.{Bases.length-rows, Begun.HasNumbers, Begun.continued, Logs.each_more}
use Rattle.project_journal.proofs.{Logs.flat_more, Seen.field_front}
use Rattle.project_journal.proofs.{Splits.front_of}

-- one point more
unfoldable pub point_more_of : Contents → ℕ → List ℕ → Contents
point_more_of j len rest =
    record j { points = j.points ++ take len (drop 4 rest) ∷ []; end = j.end + (4 + len) }

pub headed_more : (form : Form) (bytes : List ℕ) (j : Contents) (len : ℕ) → IsForm form → (is : IsHeaded form bytes j)
    → next_point j.end is.rest ≡ Whole len → IsHeaded form bytes (point_more_of j len is.rest)
unfolding point_more_of
headed_more form bytes j len known is next =
    let here = front_of (j.end - 1) (1 ∷ is.rest) len next in
    let e = here.first in
    let r : Row = record { size = e.size; bytes = e.body } in
    let rest = drop (4 + len) is.rest in
    let step : drop (5 + len) (1 ∷ is.rest) ≡ rest =
    ap (λ (k : ℕ). drop k (1 ∷ is.rest)) (let k : 5 + len ≡ suc (4 + len) = omega arith in k) in
    let behind : is.rest ≡ row r ++ rest = ap (drop 1) here.parts ∙ ap (λ (l : List ℕ). row r ++ l) step in
    let long = form_least form known in
    let least : 32 ≤ length is.front = omega (arith, long, is.least) in
    record {
      front = is.front ++ row r;
      rest = rest;
      parts = is.parts ∙ ap (λ (l : List ℕ). is.front ++ l) behind ∙ sym (append_assoc is.front (row r) rest);
      rows = is.rows ++ r ∷ [];
      least = omega (arith, is.least, length-append is.front (row r));
      fields = drop-append-le form.header_size is.front (row r) is.least
          ∙ ap (λ (l : List ℕ). l ++ row r) is.fields ∙ sym (flat_more row is.rows r);
      each = each_more IsRow is.rows r is.each (record { size = here.whole.size; bytes = here.whole.body });
      points = map-append bytes_in is.rows (r ∷ []) ∙ ap (λ (l : List (List ℕ)). l ++ e.body ∷ []) is.points
          ∙ ap (λ (b : List ℕ). j.points ++ b ∷ []) here.body;
      base = base_front form is.front (row r) known is.least ∙ is.base;
      gate = λ shut. is.gate (sym (get_or_append_left is.front (row r) 0 0 (omega (arith, least))) ∙ shut);
      valid = ap first_failed (tests_front form is.front (row r) known is.least) ∙ is.valid;
      rate = field_front 9 4 is.front (row r) (omega arith) least ∙ is.rate;
      block_size = field_front 13 4 is.front (row r) (omega arith) least ∙ is.block_size;
      depth = field_front 17 4 is.front (row r) (omega arith) least ∙ is.depth;
      none = is.none;
      place = omega (arith, is.place, here.size, length-append is.front (row r));
    }

-- where the points end
pub headed_end : (form : Form) (bytes : List ℕ) (j : Contents) → (is : IsHeaded form bytes j)
    → j.end ≡ header_end form j.points
headed_end form bytes j is = omega (
  arith,
  is.place,
  is.least,
  length-drop form.header_size is.front,
  ap length is.fields,
  length-rows is.rows is.each,
  ap points_size is.points,
)

-- all points of a header are a header
pub headed_begun : (form : Form) (bytes : List ℕ) (j : Contents) → IsHeaded form bytes j
    → length j.points ≡ j.base.count → IsBegun form bytes j
headed_begun form bytes j is all = record {
  front = is.front;
  rest = is.rest;
  parts = is.parts;
  spelled = record {
    head = is.front;
    entries = [];
    parts = sym (append-nil is.front);
    header = record {
      rows = is.rows;
      least = is.least;
      parts = is.fields;
      each = is.each;
      points = is.points;
      count = sym (length-map is.rows bytes_in) ∙ ap length is.points ∙ all;
      base = is.base;
      gate = is.gate;
      valid = is.valid;
      rate = is.rate;
      block_size = is.block_size;
      depth = is.depth;
    };
    each = tt;
    bodies = ap (map body_at) (sym is.none);
  };
  place = is.place;
  records = is.none
      ∙ ap (λ (rs : List (ℕ × List ℕ)). placed (header_end form j.points) (map body_at rs)) (sym is.none);
}

-- its numbers and its base are in their bounds
pub headed_format : (form : Form) (bytes : List ℕ) (j : Contents) → IsForm form → IsHeaded form bytes j
    → IsFormat j.rate j.block_size j.depth
headed_format form bytes j known is =
    format_as (numbers_valid form is.front known is.valid) is.rate is.block_size is.depth

pub headed_base : (form : Form) (bytes : List ℕ) (j : Contents) → IsForm form → IsHeaded form bytes j → HasBase j.base
headed_base form bytes j known is = subst HasBase is.base (base_valid form is.front known is.valid)

pub headed_counts : (form : Form) (bytes : List ℕ) (j : Contents) → IsForm form → IsHeaded form bytes j
    → HasCounts j.depth j.base
headed_counts form bytes j known is =
    subst (λ (d : ℕ). HasCounts d j.base) is.depth
    (subst (HasCounts (field 17 4 is.front)) is.base (counts_valid form is.front known is.valid))

-- What bytes are that begin so, with the points that follow.
pub record ReadOn (form : Form) (bytes : List ℕ) (j : Contents) : Type 0 where
  pub whole : Contents
  pub is : IsRead form bytes whole
  pub more : List (List ℕ)
  pub points : whole.points ≡ j.points ++ more
  pub numbers : HasNumbers whole j.rate j.block_size j.depth j.base

all_read : (form : Form) (bytes : List ℕ) (j : Contents) → IsHeaded form bytes j
    → length j.points ≡ j.base.count → ReadOn form bytes j
all_read form bytes j is all =
    let on = continued form bytes j (headed_begun form bytes j is all) in
    record {
      whole = on.whole;
      is = inl on.is;
      more = [];
      points = on.points ∙ sym (append-nil j.points);
      numbers = on.numbers;
    }

-- the same header before other bytes, and with another end
unfoldable pub headed_as : (form : Form) (bytes : List ℕ) (j : Contents) (is : IsHeaded form bytes j)
    (early : Option Damaged) (other rest : List ℕ) → other ≡ is.front ++ rest
    → IsHeaded form other (record j { early = early })
headed_as form bytes j is early other rest parts = record {
  front = is.front;
  rest = rest;
  parts = parts;
  rows = is.rows;
  least = is.least;
  fields = is.fields;
  each = is.each;
  points = is.points;
  base = is.base;
  gate = is.gate;
  valid = is.valid;
  rate = is.rate;
  block_size = is.block_size;
  depth = is.depth;
  none = is.none;
  place = is.place;
}

-- a point that is not whole
pub cut_here : (form : Form) (bytes : List ℕ) (j : Contents) (d : Damaged) → (is : IsHeaded form bytes j)
    → length j.points < j.base.count → next_point j.end is.rest ≡ Early d
    → IsCut form bytes (record j { early = Some d })
unfolding headed_as
cut_here form bytes j d is fewer ends = record {
  headed = headed_as form bytes j is (Some d) bytes is.rest is.parts;
  fewer = fewer;
  fault = d;
  early = refl;
  ends = ends;
}

-- after a gate that is open no gate is shut
pub never_shut : (at : ℕ) (rest : List ℕ) → next_point at rest ≡ Shut → ⊥
never_shut at rest e = not_shut (ltb (length rest) 4) (ltb (length rest) (4 + little_number 4 rest)) _ _ _ e

point_step : (form : Form) (bytes : List ℕ) (j : Contents) → IsForm form → (is : IsHeaded form bytes j)
    → length j.points < j.base.count
    → ((k : Contents) → IsHeaded form bytes k → k.base ≡ j.base → length k.points ≡ length j.points + 1
    → ReadOn form bytes k) → (n : Next) → next_point j.end is.rest ≡ n → ReadOn form bytes j
unfolding point_more_of
point_step form bytes j known is fewer again Shut e = absurd (never_shut j.end is.rest e)
point_step form bytes j known is fewer again (Early d) e = record {
  whole = record j { early = Some d };
  is = inr (cut_here form bytes j d is fewer e);
  more = [];
  points = sym (append-nil j.points);
  numbers = record { rate = refl; block_size = refl; depth = refl; base = refl };
}
point_step form bytes j known is fewer again (Whole len) e =
    let one : List ℕ = take len (drop 4 is.rest) in
    let on = again (point_more_of j len is.rest) (headed_more form bytes j len known is e) refl
    (length-append j.points (one ∷ [])) in
    record {
      whole = on.whole;
      is = on.is;
      more = one ∷ on.more;
      points = on.points ∙ append_assoc j.points (one ∷ []) on.more;
      numbers = on.numbers;
    }

read_on_from : (left : ℕ) (form : Form) (bytes : List ℕ) (j : Contents) → IsForm form → IsHeaded form bytes j
    → length j.points + left ≡ j.base.count → ReadOn form bytes j
read_on_from zero form bytes j known is count = all_read form bytes j is (omega (arith, count))
read_on_from (suc n) form bytes j known is count =
    point_step form bytes j known is (omega (arith, count))
    (λ k headed base more. read_on_from n form bytes k known headed
    (omega (arith, count, more, ap (λ (b : Base). b.count) base)))
    (next_point j.end is.rest) refl

-- bytes that begin so are read somehow
pub read_on : (form : Form) (bytes : List ℕ) (j : Contents) → IsForm form → IsHeaded form bytes j
    → length j.points ≤ j.base.count → ReadOn form bytes j
read_on form bytes j known is few =
    read_on_from (j.base.count - length j.points) form bytes j known is (omega (arith, few))
