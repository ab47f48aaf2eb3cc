-- Bytes that are read say one thing, and their header has no fault.
use Rattle.project_journal.proofs.Common.{◌≡◌, ◌≤◌, inl, inr, ℕ, None, List, ◌++◌, length, ◌∙◌, ap, flat_map, Form}
use Rattle.project_journal.proofs.Common.{IsForm, first_failed, form_of, field, Contents, IsRead, entry, log_of}
use Rattle.project_journal.proofs.{Cuts.cut_once, Cuts.never_cut, Once.journal_once, Parses.tests_front}
use Rattle.project_journal.proofs.Seen.{form_valid, header_first}

-- the fields of a header, in front of what follows
record HasFront (form : Form) (bytes : List ℕ) : Type 0 where
  front : List ℕ
  rest : List ℕ
  parts : bytes ≡ front ++ rest
  least : form.header_size ≤ length front
  valid : first_failed (form.tests front) ≡ None

read_front : (form : Form) (bytes : List ℕ) (j : Contents) → IsRead form bytes j → HasFront form bytes
read_front form bytes j (inl is) =
    let head = is.spelled.head in
    let all = flat_map entry is.spelled.entries in
    record {
      front = head;
      rest = all ++ is.rest;
      parts = header_first is.spelled bytes is.rest is.parts;
      least = is.spelled.header.least;
      valid = is.spelled.header.valid;
    }
read_front form bytes j (inr cut) = record {
  front = cut.headed.front;
  rest = cut.headed.rest;
  parts = cut.headed.parts;
  least = cut.headed.least;
  valid = cut.headed.valid;
}

pub read_valid : (form : Form) (bytes : List ℕ) (j : Contents) → IsForm form → IsRead form bytes j
    → first_failed (form.tests bytes) ≡ None
read_valid form bytes j known is =
    let has = read_front form bytes j is in
    ap (λ (l : List ℕ). first_failed (form.tests l)) has.parts
    ∙ ap first_failed (tests_front form has.front has.rest known has.least) ∙ has.valid

-- their version is that of the form
pub read_form : (form : Form) (bytes : List ℕ) (j : Contents) → IsForm form → IsRead form bytes j
    → form_of (field 5 4 bytes) form.file ≡ form
read_form form bytes j known is = form_valid form bytes known (read_valid form bytes j known is)

pub read_once : (form : Form) (bytes : List ℕ) (i j : Contents) → IsForm form → IsRead form bytes i
    → IsRead form bytes j → i ≡ j
read_once form bytes i j known (inl p) (inl q) = journal_once form bytes i j known p q
read_once form bytes i j known (inl p) (inr q) =
    absurd (never_cut form (log_of i) j p.spelled.head _ bytes known p.spelled.header
    (header_first p.spelled bytes p.rest p.parts) q)
read_once form bytes i j known (inr p) (inl q) =
    absurd (never_cut form (log_of j) i q.spelled.head _ bytes known q.spelled.header
    (header_first q.spelled bytes q.rest q.parts) p)
read_once form bytes i j known (inr p) (inr q) = cut_once form bytes i j p q
