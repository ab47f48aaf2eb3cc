-- The entries of a recorder: pieces of one recording, and reclaims between them.
use Rattle.session_run.proofs.Common.{◌≡◌, inl, inr, ◌∙◌, refl, sym, ap, ℕ, ℤ, if◌then◌else◌, Bool, true, false, List}
use Rattle.session_run.proofs.Common.{[], ◌∷◌, ◌++◌, true≢false, Call, Entry, Each, Deed, entries_of, entry_of}
use Rattle.session_run.proofs.Common.{is_commit, deeds_of, IsPieceOf, RecorderAsks, asks_piece}
use Rattle.studio_seats.specs.{Freeing.IsFullReclaim, Freeing.makes_piece, Freeing.pieces_of}
use Rattle.session_run.proofs.PieceEntries.{call_samples, done_samples}

-- the entries that are pieces are the deeds that are
pub pieces_as : (ds : List Deed) → pieces_of (entries_of ds) ≡ entries_of (deeds_of asks_piece ds)
pieces_as [] = refl
pieces_as (d ∷ ds) = by (makes_piece d.call) (pieces_as ds)
  where
    by : (b : Bool) → pieces_of (entries_of ds) ≡ entries_of (deeds_of asks_piece ds)
        → (if b then entry_of d ∷ [] else []) ++ pieces_of (entries_of ds)
        ≡ entries_of ((if b then d ∷ [] else []) ++ deeds_of asks_piece ds)
    by true later = ap (λ (l : List Entry). entry_of d ∷ l) later
    by false later = later

module _ (track tag : ℕ) where
  piece_fits : (c : Call) → RecorderAsks track tag c → makes_piece c ≡ true → IsPieceOf track tag c
  piece_fits c (inl fit) is = fit
  piece_fits c (inr freed) is = absurd (true≢false (sym is ∙ ap makes_piece freed))

  reclaim_fits : (c : Call) → RecorderAsks track tag c → makes_piece c ≡ false → IsFullReclaim c
  reclaim_fits c (inl fit) is = absurd (true≢false (sym (ap makes_piece fit.1) ∙ is))
  reclaim_fits c (inr freed) is = freed

  -- each piece is one of the recording
  pub fit_pieces : (ds : List Deed) → Each (λ d. RecorderAsks track tag d.call) ds
      → Each (λ d. IsPieceOf track tag d.call) (deeds_of asks_piece ds)
  fit_pieces [] h = tt
  fit_pieces (d ∷ ds) h = by (makes_piece d.call) refl (fit_pieces ds h.1)
    where
      by : (b : Bool) → makes_piece d.call ≡ b → Each (λ d. IsPieceOf track tag d.call) (deeds_of asks_piece ds)
          → Each (λ d. IsPieceOf track tag d.call) ((if b then d ∷ [] else []) ++ deeds_of asks_piece ds)
      by true is later = (piece_fits d.call h.0 is, later)
      by false is later = later

  -- and each other entry a reclaim
  pub fit_reclaims : (ds : List Deed) → Each (λ d. RecorderAsks track tag d.call) ds
      → Each (λ e. makes_piece e.call ≡ false → IsFullReclaim e.call) (entries_of ds)
  fit_reclaims [] h = tt
  fit_reclaims (d ∷ ds) h = (reclaim_fits d.call h.0, fit_reclaims ds h.1)

  no_samples : (d : Deed) → IsFullReclaim d.call → (b : Bool) → (if b then call_samples d.call else []) ≡ []
  no_samples d freed true = ap call_samples freed
  no_samples d freed false = refl

  -- reclaims have no samples
  pub done_pieces : (ds : List Deed) → Each (λ d. RecorderAsks track tag d.call) ds
      → done_samples (deeds_of asks_piece ds) ≡ done_samples ds
  done_pieces [] h = refl
  done_pieces (d ∷ ds) h = by (makes_piece d.call) refl (done_pieces ds h.1)
    where
      by : (b : Bool) → makes_piece d.call ≡ b → done_samples (deeds_of asks_piece ds) ≡ done_samples ds
          → done_samples ((if b then d ∷ [] else []) ++ deeds_of asks_piece ds)
          ≡ (if is_commit d then call_samples d.call else []) ++ done_samples ds
      by true is later =
          ap (λ (l : List (List ℤ)). (if is_commit d then call_samples d.call else []) ++ l) later
      by false is later = later ∙ sym (ap (λ (l : List (List ℤ)). l ++ done_samples ds)
          (no_samples d (reclaim_fits d.call h.0 is) (is_commit d)))
