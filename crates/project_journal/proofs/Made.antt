-- The journal of a new project, as it is written.
use Rattle.project_journal.proofs.Common.{◌≡◌, ◌⊎◌, inl, inr, ℕ, ◌^◌, ◌<◌, List, [], ◌∷◌, ◌++◌, length, refl, ap, ◌∙◌}
use Rattle.project_journal.proofs.Common.{arith, length-append, Files, Ghosts, IsShut, IsOpen, IsShutOrOpen, IsDurable}
use Rattle.project_journal.proofs.Common.{EachNow, fresh, HasLog, IsAt, IsFormat, form_3, header_row, IsText, NoProject}
use Rattle.project_journal.proofs.{Packed.text_log, Packed.text_there, Starts.fresh_shut, Starts.none_shut}
use Rattle.project_journal.proofs.{Texts.text_is}

module _ (rate block_size depth : ℕ) (row : List ℕ) (fits : IsFormat rate block_size depth) (below : rate < 2 ^ 32)
    (is : row ≡ header_row (fresh rate block_size depth) ++ 0 ∷ []) where
  fresh_text : IsText row (fresh rate block_size depth)
  fresh_text = text_is (fresh rate block_size depth) row is refl fits below
      (omega (arith, fits))
      refl (omega arith, tt)

  pub none_or_new : (c : Files) → NoProject 1 c → IsShutOrOpen 0 [] row c
      → NoProject 0 c ⊎ HasLog (form_3 0) (fresh rate block_size depth) c
  none_or_new c none (inl shut) = inl (none_shut 0 c shut)
  none_or_new c none (inr opened) =
      inr (text_there row (fresh rate block_size depth) 0 c fresh_text opened (λ project. absurd (none project)))

  -- what stands after the gate has 79 bytes and one gate
  fresh_size : length fresh_text.header ≡ 79
  fresh_size = omega (arith, ap length is, ap length fresh_text.parts, length-append fresh_text.header (0 ∷ []))

  pub is_new : {D : Type 0} (disk : Ghosts D) (store : D) → IsOpen 0 [] row (disk.reads store)
      → IsDurable disk store 0 → NoProject 1 (disk.reads store) → EachNow disk store (NoProject 1)
      → IsAt (form_3 0) disk store 80 (fresh rate block_size depth)
  is_new disk store opened same none each =
      let shut : IsShut 0 (opened.0 ∷ fresh_text.header) (disk.reads store) =
      fresh_shut 0 row fresh_text.header opened.0 (disk.reads store) fresh_text.parts opened.2 in
      record {
        front = opened.0 ∷ fresh_text.header;
        place = omega (arith, fresh_size);
        spelled = text_log row (fresh rate block_size depth) 0 opened.0 opened.1 fresh_text;
        read = shut;
        images = λ c now. (shut.0, same c now ∙ shut.1);
        newest = λ project. absurd (none project);
        newest_images = λ c now project. absurd (each c now project);
      }
