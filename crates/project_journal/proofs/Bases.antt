-- What is said of the points of a header.
use Rattle.project_journal.proofs.Common.{◌≡◌, ℕ, ◌≤◌, List, [], ◌∷◌, ◌++◌, length, map, take, drop, refl, sym, ◌∙◌, ap}
use Rattle.project_journal.proofs.Common.{arith, append_assoc, length-append, length-drop, take-append-drop, take_at}
use Rattle.project_journal.proofs.Common.{drop_at, length-take-le, flat_map, AllByRecursion, little_number, Log, Row}
use Rattle.project_journal.proofs.Common.{◌<◌, row, bytes_in, IsRow, IsHeader, points_size, header_end, Form, IsForm}
use Rattle.project_journal.proofs.Common.{no_base, form_1, Base}
use Rattle.project_journal.proofs.Parses.{form_base}

-- two cuts of one list at the same place
pub front_same : (a b x y : List ℕ) → length a ≡ length b → a ++ x ≡ b ++ y → a ≡ b
front_same a b x y len e = sym (take_at a x (length a) refl) ∙ ap (take (length a)) e ∙ take_at b y (length a) (sym len)

pub rest_same : (a b x y : List ℕ) → length a ≡ length b → a ++ x ≡ b ++ y → x ≡ y
rest_same a b x y len e = sym (drop_at a x (length a) refl) ∙ ap (drop (length a)) e ∙ drop_at b y (length a) (sym len)

no_rows : (rows : List Row) → length rows ≡ 0 → rows ≡ []
no_rows [] none = refl
no_rows (r ∷ rows) none = absurd (omega (arith, none))

-- a header of version 1 has 32 bytes, and tells nothing of the project
pub record Plain (head : List ℕ) (log : Log) : Type 0 where
  pub size : length head ≡ 32
  pub base : log.base ≡ no_base
  pub points : log.points ≡ []

pub plain : (file : ℕ) (head : List ℕ) (log : Log) → IsHeader (form_1 file) head log → Plain head log
plain file head log is =
    let none : is.rows ≡ [] = no_rows is.rows (is.count ∙ ap (λ (b : Base). b.count) (sym is.base)) in
    let behind : drop 32 head ≡ [] = is.parts ∙ ap (flat_map row) none in
    record {
      size = omega (arith, is.least, length-drop 32 head, ap length behind);
      base = sym is.base;
      points = sym is.points ∙ ap (map bytes_in) none;
    }

pub length-rows : (rows : List Row) → AllByRecursion IsRow rows
    → length (flat_map row rows) ≡ points_size (map bytes_in rows)
length-rows [] all = refl
length-rows (r ∷ rows) all = omega (
  arith,
  length-append (r.size ++ r.bytes) (flat_map row rows),
  length-append r.size r.bytes,
  all.0.size,
  length-rows rows all.1,
)

-- where the points end, the header does
pub length-head : (form : Form) (head : List ℕ) (log : Log) → IsHeader form head log
    → length head ≡ header_end form log.points
length-head form head log is = omega (
  arith,
  is.least,
  length-drop form.header_size head,
  ap length is.parts,
  length-rows is.rows is.each,
  ap points_size is.points,
)

pub record SameRows (xs ys : List Row) (x y : List ℕ) : Type 0 where
  pub points : map bytes_in xs ≡ map bytes_in ys
  pub bytes : flat_map row xs ≡ flat_map row ys
  pub rest : x ≡ y

-- two rows at the front of some bytes are one
pub record SameRow (a b : Row) (x y : List ℕ) : Type 0 where
  pub size : a.size ≡ b.size
  pub bytes : a.bytes ≡ b.bytes
  pub rest : x ≡ y

pub same_row : (a b : Row) (xs ys : List Row) (x y : List ℕ) → IsRow a → IsRow b
    → flat_map row (a ∷ xs) ++ x ≡ flat_map row (b ∷ ys) ++ y
    → SameRow a b (flat_map row xs ++ x) (flat_map row ys ++ y)
same_row a b xs ys x y p q e =
    let f : a.size ++ (a.bytes ++ (flat_map row xs ++ x)) ≡ b.size ++ (b.bytes ++ (flat_map row ys ++ y)) =
    sym (append_assoc a.size a.bytes (flat_map row xs ++ x)) ∙ sym (append_assoc (row a) (flat_map row xs) x) ∙ e
    ∙ append_assoc (row b) (flat_map row ys) y ∙ append_assoc b.size b.bytes (flat_map row ys ++ y) in
    let four : length a.size ≡ length b.size = p.size ∙ sym q.size in
    let size : a.size ≡ b.size = front_same a.size b.size _ _ four f in
    let g : a.bytes ++ (flat_map row xs ++ x) ≡ b.bytes ++ (flat_map row ys ++ y) =
    rest_same a.size b.size _ _ four f in
    let long : length a.bytes ≡ length b.bytes = sym p.bytes ∙ ap (little_number 4) size ∙ q.bytes in
    record { size = size; bytes = front_same a.bytes b.bytes _ _ long g; rest = rest_same a.bytes b.bytes _ _ long g }

pub more_rows : {a b : Row} {xs ys : List Row} {x y v w : List ℕ} → SameRow a b v w → SameRows xs ys x y
    → SameRows (a ∷ xs) (b ∷ ys) x y
more_rows one more = record {
  points = λ i. one.bytes i ∷ more.points i;
  bytes = λ i. (one.size i ++ one.bytes i) ++ more.bytes i;
  rest = more.rest;
}

-- after some rows stands one more
pub record OneMore (x : List ℕ) : Type 0 where
  pub next : Row
  pub whole : IsRow next
  pub rest : List ℕ
  pub parts : x ≡ row next ++ rest

one_more : (r : Row) (rows : List Row) (x y : List ℕ) → IsRow r → x ≡ flat_map row (r ∷ rows) ++ y → OneMore x
one_more r rows x y is e =
    let rest = flat_map row rows in
    record { next = r; whole = is; rest = rest ++ y; parts = e ∙ append_assoc (row r) rest y }

-- rows, each after its length, stand at the front of some bytes in one way at most, where no more follow the fewer
pub same_rows : (xs ys : List Row) (x y : List ℕ) → (length xs < length ys → OneMore x → ⊥)
    → (length ys < length xs → OneMore y → ⊥) → AllByRecursion IsRow xs → AllByRecursion IsRow ys
    → flat_map row xs ++ x ≡ flat_map row ys ++ y → SameRows xs ys x y
same_rows [] [] x y s t p q e = record { points = refl; bytes = refl; rest = e }
same_rows [] (b ∷ ys) x y s t p q e = absurd (s (omega arith) (one_more b ys x y q.0 e))
same_rows (a ∷ xs) [] x y s t p q e = absurd (t (omega arith) (one_more a xs y x p.0 (sym e)))
same_rows (a ∷ xs) (b ∷ ys) x y s t p q e =
    let one = same_row a b xs ys x y p.0 q.0 e in
    more_rows one (same_rows xs ys x y (λ less. s (omega (arith, less))) (λ less. t (omega (arith, less))) p.1 q.1
    one.rest)

-- the fields before the rows, where bytes begin with two headers, and what stands after the fields
pub record SameFields (n : ℕ) (g h v w : List ℕ) : Type 0 where
  pub fields : take n g ≡ take n h
  pub rest : v ≡ w

cut_at : (n : ℕ) (g xs x : List ℕ) → drop n g ≡ xs → g ++ x ≡ take n g ++ (xs ++ x)
cut_at n g xs x is = ap (λ (l : List ℕ). l ++ x) (sym (take-append-drop n g)) ∙ append_assoc (take n g) (drop n g) x
    ∙ ap (λ (l : List ℕ). take n g ++ (l ++ x)) is

pub same_fields : (n : ℕ) (g h xs ys x y : List ℕ) → n ≤ length g → n ≤ length h → drop n g ≡ xs → drop n h ≡ ys
    → g ++ x ≡ h ++ y → SameFields n g h (xs ++ x) (ys ++ y)
same_fields n g h xs ys x y g-least h-least g-rest h-rest e =
    let long : length (take n g) ≡ length (take n h) = length-take-le n g g-least ∙ sym (length-take-le n h h-least) in
    let whole : take n g ++ (xs ++ x) ≡ take n h ++ (ys ++ y) =
    sym (cut_at n g xs x g-rest) ∙ e ∙ cut_at n h ys y h-rest in
    record {
      fields = front_same (take n g) (take n h) _ _ long whole;
      rest = rest_same (take n g) (take n h) _ _ long whole;
    }

-- the same fields and the same rows after them
pub same_front : (n : ℕ) (g h xs ys : List ℕ) → take n g ≡ take n h → drop n g ≡ xs → drop n h ≡ ys → xs ≡ ys → g ≡ h
same_front n g h xs ys fields g-rest h-rest rows =
    let rest : drop n g ≡ drop n h = g-rest ∙ rows ∙ sym h-rest in
    sym (take-append-drop n g) ∙ (λ i. fields i ++ rest i) ∙ take-append-drop n h

pub same_base : (form : Form) (g h : List ℕ) → IsForm form → take form.header_size g ≡ take form.header_size h
    → form.base_at g ≡ form.base_at h
same_base form g h known fields = sym (form_base form form.header_size g known (omega arith)) ∙ ap form.base_at fields
    ∙ form_base form form.header_size h known (omega arith)

pub record SameHead (a b : Log) (g h x y : List ℕ) : Type 0 where
  pub head : g ≡ h
  pub base : a.base ≡ b.base
  pub points : a.points ≡ b.points
  pub rest : x ≡ y

-- a file begins with one header at most
pub same_head : (form : Form) (a b : Log) (g h x y : List ℕ) → IsForm form → IsHeader form g a → IsHeader form h b
    → g ++ x ≡ h ++ y → SameHead a b g h x y
same_head form a b g h x y known p q e =
    let first = same_fields form.header_size g h _ _ x y p.least q.least p.parts q.parts e in
    let base : a.base ≡ b.base = sym p.base ∙ same_base form g h known first.fields ∙ q.base in
    let count : length p.rows ≡ length q.rows = p.count ∙ ap (λ (z : Base). z.count) base ∙ sym q.count in
    let rows = same_rows p.rows q.rows x y (λ less. omega (arith, count, less)) (λ less. omega (arith, count, less))
    p.each q.each first.rest in
    record {
      head = same_front form.header_size g h _ _ first.fields p.parts q.parts rows.bytes;
      base = base;
      points = sym p.points ∙ rows.points ∙ q.points;
      rest = rows.rest;
    }
