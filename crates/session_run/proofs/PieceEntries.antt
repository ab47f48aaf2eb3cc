-- The entries of a recorder: pieces of one recording, in order.
use Rattle.session_run.proofs.Common.{◌≡◌, inl, inr, ◌∙◌, refl, sym, ap, subst, ℕ, ◌+◌, nat_lt, ◌==◌, ◌≤◌, ℤ}
use Rattle.session_run.proofs.Common.{if◌then◌else◌, Bool, true, false, List, [], ◌∷◌, ◌++◌, length, take, Result, Ok}
use Rattle.session_run.proofs.Common.{Err, append_assoc, arith, eq-eqb, lt-ltb, append-nil, IsOk, pieces_of, Reply}
use Rattle.session_run.proofs.Common.{Call, Refusal, Each, commits, entries_of, is_commit, raised_by, AreDone, Asks}
use Rattle.session_run.proofs.Common.{IsPieceOf, pieces_by, Deed, by_seat, deeds_of, RecorderAsks, same_seat, ArePieces}
use Rattle.std.proofs.Common.{◌&&◌}
use Rattle.std.specs.{List.zip}
use Rattle.pcm_base.specs.Recordings.{pieces_in}
use Rattle.edit_ports.specs.Answers.{numbered_pieces}
use Rattle.studio_seats.specs.Pieces.{piece_by, piece_in}
use Rattle.session_run.proofs.EntryLemmas.{IsPlain, not_refused}
use Rattle.pcm_base.specs.declared.command.Call.TheVariants as call

-- the samples of pieces, without their numbers
abbrev pub samples_in : List (List ℤ × ℕ) → List (List ℤ)
samples_in [] = []
samples_in (x ∷ xs) = x.0 ∷ samples_in xs

pub zipped : (chunks : List (List ℤ)) (numbers : List ℕ) → length numbers ≤ length chunks
    → samples_in (zip (take (length numbers) chunks) numbers) ≡ take (length numbers) chunks
zipped chunks [] h = refl
zipped [] (n ∷ ns) h = absurd (omega (arith, h))
zipped (c ∷ cs) (n ∷ ns) h = ap (λ (l : List (List ℤ)). c ∷ l) (zipped cs ns (omega (arith, h)))

samples_append : (xs ys : List (List ℤ × ℕ)) → samples_in (xs ++ ys) ≡ samples_in xs ++ samples_in ys
samples_append [] ys = refl
samples_append (x ∷ xs) ys = ap (λ (l : List (List ℤ)). x.0 ∷ l) (samples_append xs ys)

numbered_samples : (n : ℕ) (chunks : List (List ℤ)) → samples_in (numbered_pieces n chunks) ≡ chunks
numbered_samples n [] = refl
numbered_samples n (c ∷ cs) = ap (λ (l : List (List ℤ)). c ∷ l) (numbered_samples (n + 1) cs)

-- the samples of the pieces that a call brings
abbrev pub call_samples : Call → List (List ℤ)
call_samples (call.Piece track tag samples) = pieces_of samples
call_samples _ = []

-- those of the deeds that were carried out
abbrev pub done_samples : List Deed → List (List ℤ)
done_samples [] = []
done_samples (d ∷ ds) = (if is_commit d then call_samples d.call else []) ++ done_samples ds

module _ (track tag : ℕ) where
  piece_samples : (c : Call) (n : ℕ) → IsPieceOf track tag c → samples_in (piece_in track tag c n) ≡ call_samples c
  piece_samples c n (samples, is) =
      subst (λ (x : Call). samples_in (piece_in track tag x n) ≡ call_samples x) (sym is)
      (ap (λ (b : Bool). samples_in (if b then numbered_pieces n (pieces_of samples) else []))
      (λ i. eq-eqb track track refl i && eq-eqb tag tag refl i) ∙ numbered_samples n (pieces_of samples))

  one : (d : Deed) (n : ℕ) (b : Bool) → RecorderAsks track tag d.call
      → samples_in (if b then piece_in track tag d.call n else []) ≡ (if b then call_samples d.call else [])
  one d n true (inl fit) = piece_samples d.call n fit
  one d n true (inr is) =
      ap (λ (c : Call). samples_in (piece_in track tag c n)) is ∙ sym (ap call_samples is)
  one d n false fit = refl

  -- the pieces of a recorder's seat are those that were carried out, of its own deeds
  pub own_samples : (seat n : ℕ) (ds : List Deed) → Asks (RecorderAsks track tag) seat ds
      → samples_in (pieces_by track tag seat n ds) ≡ done_samples (deeds_of (by_seat seat) ds)
  own_samples seat n [] h = refl
  own_samples seat n (d ∷ ds) h =
      samples_append (piece_by track tag seat d n) (pieces_by track tag seat m ds)
      ∙ (ap (λ (l : List (List ℤ)). samples_in (piece_by track tag seat d n) ++ l) (own_samples seat m ds h.1)
      ∙ by (seat == d.actor) refl)
    where
      m : ℕ
      m = raised_by d n

      by : (b : Bool) → (seat == d.actor) ≡ b
          → samples_in (if b && is_commit d then piece_in track tag d.call n else [])
          ++ done_samples (deeds_of (by_seat seat) ds)
          ≡ done_samples ((if b then d ∷ [] else []) ++ deeds_of (by_seat seat) ds)
      by true is = ap (λ (l : List (List ℤ)). l ++ done_samples (deeds_of (by_seat seat) ds))
          (one d n (is_commit d) (h.0 (sym (same_seat seat d.actor is))))
      by false is = refl

  piece_commits : (d : Deed) → IsPieceOf track tag d.call → IsOk d.what → is_commit d ≡ true
  piece_commits d (samples, is) ok = by d.what ok
    where
      by : (what : Result Reply Refusal) → IsOk what → nat_lt 0 (commits what d.call) ≡ true
      by (Ok r) ok = subst (λ (c : Call). nat_lt 0 (commits (Ok r) c) ≡ true) (sym is)
          (lt-ltb 0 (pieces_in (length samples)) (omega arith))
      by (Err why) ok = cc

  -- deeds that were carried out are pieces with their samples
  pub are_pieces : (ds : List Deed) → Each (λ d. IsPieceOf track tag d.call) ds → AreDone ds → Each IsPlain ds
      → ArePieces track tag (done_samples ds) (entries_of ds)
  are_pieces [] fit done plain = refl
  are_pieces (d ∷ ds) fit done plain = (
    fit.0.0,
    done_samples ds,
    ap (λ (l : List (List ℤ)). l ++ done_samples ds)
        (ap (λ (b : Bool). if b then call_samples d.call else []) (piece_commits d fit.0 done.0)
        ∙ ap call_samples fit.0.1),
    fit.0.1,
    not_refused d.what done.0 plain.0,
    are_pieces ds fit.1 done.1 plain.1,
  )

done_append : (xs ys : List Deed) → done_samples (xs ++ ys) ≡ done_samples xs ++ done_samples ys
done_append [] ys = refl
done_append (d ∷ ds) ys =
    ap (λ (l : List (List ℤ)). (if is_commit d then call_samples d.call else []) ++ l) (done_append ds ys)
    ∙ sym (append_assoc (if is_commit d then call_samples d.call else []) (done_samples ds) (done_samples ys))

-- one that was refused has none
pub refused_samples : (ds : List Deed) (d : Deed) (why : Refusal) → d.what ≡ Err why
    → done_samples (ds ++ d ∷ []) ≡ done_samples ds
refused_samples ds d why is = done_append ds (d ∷ [])
    ∙ (ap (λ (what : Result Reply Refusal). done_samples ds ++ ((if nat_lt 0 (commits what d.call) then
    call_samples d.call else []) ++ [])) is ∙ append-nil (done_samples ds))
