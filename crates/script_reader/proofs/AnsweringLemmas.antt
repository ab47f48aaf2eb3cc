-- A script, one line on.
use Rattle.std.proofs.Common.{◌≡◌, ℕ, List, [], ◌∷◌, ◌++◌, Bool, true, false, ◌||◌, Option, Result, Ok, Err, take, refl}
use Rattle.std.proofs.Common.{sym, ap, ◌∙◌, subst}
use Rattle.std.proofs.lemmas.List.{flat_map_more}
use Rattle.std.specs.{Prelude.MatchBool, List.list_any, List.flat_map}
use Rattle.pcm_base.specs.{declared.answer.Answer.Answer, declared.failed.Failed.Failed}
use Rattle.script_reader.specs.Progress.{Printed, Reached, Start, WritesAnswers, reached, says_no}
use Rattle.script_reader.specs.{Place.Place, Answering.AnswersLines, Answering.Next, Answering.Answers}
use Rattle.edit_ports.specs.Told.{grown, Writes}
use Rattle.edit_ports.proofs.ToldLaws.{grown-grown, grown-nil}
use Rattle.script_text.specs.{Grammar.is_silent, Text.text_of}

-- what stands after a line may be weakened
Next-weaker : (b : Bool) (s : Place) (line : List ℕ) (answers : List Answer) (P Q : Place → List Answer → Type 0)
    → ((m : Place) (later : List Answer) → P m later → Q m later)
    → MatchBool b (P s answers) (Next s line answers P) → MatchBool b (Q s answers) (Next s line answers Q)
Next-weaker true s line answers P Q f h = f s answers h
Next-weaker false s line [] P Q f h = h
Next-weaker false s line (a ∷ answers) P Q f (t, is, h) = (t, is, f t answers h)

-- the same with one more answer at the end
Next-push : (b : Bool) (s : Place) (line : List ℕ) (answers : List Answer) (last : Answer)
    (P Q : Place → List Answer → Type 0) → ((m : Place) (later : List Answer) → P m later → Q m (later ++ last ∷ []))
    → MatchBool b (P s answers) (Next s line answers P)
    → MatchBool b (Q s (answers ++ last ∷ [])) (Next s line (answers ++ last ∷ []) Q)
Next-push true s line answers last P Q f h = f s answers h
Next-push false s line [] last P Q f h = absurd h
Next-push false s line (a ∷ answers) last P Q f (t, is, h) = (t, is, f t answers h)

pub AnswersLines-silent : (lines : List (List ℕ)) (s t : Place) (line : List ℕ) (answers : List Answer)
    → is_silent line ≡ true → AnswersLines s lines answers t → AnswersLines s (lines ++ line ∷ []) answers t
AnswersLines-silent [] s t line answers silent h = rw silent h
AnswersLines-silent (l ∷ lines) s t line answers silent h =
    Next-weaker (is_silent l) s l answers (λ mid later. AnswersLines mid lines later t)
    (λ mid later. AnswersLines mid (lines ++ line ∷ []) later t)
    (λ mid later. AnswersLines-silent lines mid t line later silent) h

pub AnswersLines-answer : (lines : List (List ℕ)) (s t u : Place) (line : List ℕ) (a : Answer) (answers : List Answer)
    → is_silent line ≡ false → Answers t line a u → AnswersLines s lines answers t
    → AnswersLines s (lines ++ line ∷ []) (answers ++ a ∷ []) u
AnswersLines-answer [] s t u line a answers spoken is h =
    rw (spoken, h.0) (u, subst (λ (x : Place). Answers x line a u) h.1 is, (refl, refl))
AnswersLines-answer (l ∷ lines) s t u line a answers spoken is h =
    Next-push (is_silent l) s l answers a (λ mid later. AnswersLines mid lines later t)
    (λ mid later. AnswersLines mid (lines ++ line ∷ []) later u)
    (λ mid later. AnswersLines-answer lines mid t u line a later spoken is) h

or_false : (b : Bool) → (b || false) ≡ b
or_false true = refl
or_false false = refl

or_assoc : (a b c : Bool) → (a || (b || c)) ≡ ((a || b) || c)
or_assoc true b c = refl
or_assoc false b c = refl

list_any-push : (p : Answer → Bool) (xs : List Answer) (x : Answer) → list_any p (xs ++ x ∷ []) ≡ (list_any p xs || p x)
list_any-push p [] x = or_false (p x)
list_any-push p (y ∷ ys) x = ap (λ b. p y || b) (list_any-push p ys x) ∙ or_assoc (p y) (list_any p ys) (p x)

pub Printed-silent : (r : Reached) (lines : List (List ℕ)) (line : List ℕ) → is_silent line ≡ true
    → Printed r (Ok tt) lines → Printed r (Ok tt) (lines ++ line ∷ [])
Printed-silent r lines line silent p = record {
  answers = p.answers;
  line_by_line = AnswersLines-silent lines r.start.place r.place line p.answers silent p.line_by_line;
  written = p.written;
  no = p.no;
}

-- one answer more is written, or breaks off
writes_answer : (result : Result (Unit {0}) Failed) (start now later : Option (List ℕ)) (answers : List Answer)
    (a : Answer) → now ≡ grown start (flat_map text_of answers) → Writes result now later (text_of a) →
    WritesAnswers result start later (answers ++ a ∷ [])
writes_answer (Ok u) start now later answers a before writes =
    writes ∙ ap (λ w. grown w (text_of a)) before ∙ grown-grown start (flat_map text_of answers) (text_of a)
    ∙ ap (grown start) (flat_map_more text_of [] answers a)
writes_answer (Err failed) start now later answers a before (n, within, is) = record {
  before = answers;
  last = a;
  whole = refl;
  count = n;
  within = within;
  written = is ∙ ap (λ w. grown w (take n (text_of a))) before
      ∙ grown-grown start (flat_map text_of answers) (take n (text_of a));
}

pub Printed-answer : (r : Reached) (u : Place) (later : Option (List ℕ)) (refused : Bool)
    (result : Result (Unit {0}) Failed) (lines : List (List ℕ)) (line : List ℕ) (a : Answer) → is_silent line ≡ false →
    Answers r.place line a u → Writes result r.written later (text_of a) → refused ≡ (r.refused || says_no a) →
    Printed r (Ok tt) lines → Printed (reached r.start u later refused) result (lines ++ line ∷ [])
Printed-answer r u later refused result lines line a spoken is writes rises p = record {
  answers = p.answers ++ a ∷ [];
  line_by_line = AnswersLines-answer lines r.start.place r.place u line a p.answers spoken is p.line_by_line;
  written = writes_answer result r.start.written r.written later p.answers a p.written writes;
  no = rises ∙ ap (λ b. b || says_no a) p.no ∙ sym (list_any-push says_no p.answers a);
}

-- nothing was answered yet
pub Printed-start : (s : Start) → Printed (reached s s.place s.written false) (Ok tt) []
Printed-start s = record { answers = []; line_by_line = (refl, refl); written = sym (grown-nil s.written); no = refl }
