-- The pieces of a seat, turn by turn.
use Rattle.studio_seats.proofs.Common.{◌≡◌, ℕ, ◌+◌, ◌-◌, ◌≤◌, ◌==◌, nat_lt, if◌then◌else◌, ℤ, Bool, true}
use Rattle.studio_seats.proofs.Common.{false, List, [], ◌∷◌, ◌++◌, length, refl, sym, ◌∙◌, ap, arith}
use Rattle.studio_seats.proofs.Common.{append_assoc, eq-eqb, Result, Ok, Err, lt-ltb, append-nil, MatchResult, IfOk}
use Rattle.studio_seats.proofs.Common.{IfErr, pieces_in, pieces_of, Done, Piece, Refusal, Said, Ghosts, View, ByOthers}
use Rattle.studio_seats.proofs.Common.{Core, silent, as_reply, numbered_pieces, actor_of, deed, number_after}
use Rattle.studio_seats.proofs.Common.{raised_by, Says, Turned, asked, views, piece_by, pieces_by}
use Rattle.studio_seats.proofs.Common.{Deed, Held, origin, VaultGhosts, inl, inr}
use Rattle.studio_seats.proofs.{Grown.number_append, Turns.number_on, Turns.turned_number}

both_of : {A B : Type 0} (P : A → Type 0) (Q : B → Type 0) (r : Result A B) → MatchResult r P Q → IfOk r P × IfErr r Q
both_of P Q (Ok x) h = (h, tt)
both_of P Q (Err y) h = (tt, h)

pub pieces_append : (to by seat n : ℕ) (xs ys : List Deed)
    → pieces_by to by seat n (xs ++ ys) ≡ pieces_by to by seat n xs ++ pieces_by to by seat (number_after n xs) ys
pieces_append to by seat n [] ys = refl
pieces_append to by seat n (d ∷ ds) ys =
    ap (λ (l : List (List ℤ × ℕ)). piece_by to by seat d n ++ l) (pieces_append to by seat (raised_by d n) ds ys)
    ∙ sym (append_assoc (piece_by to by seat d n) (pieces_by to by seat
    (raised_by d n) ds) (pieces_by to by seat (number_after (raised_by d n) ds) ys))

-- a deed that counts for none of a seat is not the seat's
pub not_mine : (mine : Bool) → (if mine then 1 else 0) + 0 ≡ 0 → mine ≡ false
not_mine true h = absurd (omega (arith, h))
not_mine false h = refl

-- deeds of others have no piece of the seat
pub pieces_others : (to by seat n : ℕ) (more : List Deed) → ByOthers actor_of (seat ∷ []) more
    → pieces_by to by seat n more ≡ []
pieces_others to by seat n [] h = refl
pieces_others to by seat n (d ∷ ds) h =
    rw (not_mine (seat == d.actor) h.0) (pieces_others to by seat (raised_by d n) ds h.1)

-- one turn of the seat
one_turn : (to by seat n : ℕ) (seen between : List Deed) (d : Deed) → ByOthers actor_of (seat ∷ []) between
    → pieces_by to by seat n ((seen ++ between) ++ d ∷ []) ≡ pieces_by to by seat n seen
    ++ pieces_by to by seat (number_after n (seen ++ between)) (d ∷ [])
one_turn to by seat n seen between d others =
    pieces_append to by seat n (seen ++ between) (d ∷ [])
    ∙ rw (
      pieces_append to by seat n seen between,
      pieces_others to by seat (number_after n seen) between others,
      append-nil (pieces_by to by seat n seen),
    )

piece_taken : (seat n track tag : ℕ) (samples : List ℤ)
    → pieces_by track tag seat n (deed seat (Piece track tag samples) (Ok Done) silent ∷ [])
    ≡ numbered_pieces n (pieces_of samples)
piece_taken seat n track tag samples =
    let some : nat_lt 0 (pieces_in (length samples)) ≡ true = lt-ltb 0 (pieces_in (length samples)) (omega arith) in
    rw (eq-eqb seat seat refl, some, eq-eqb track track refl, eq-eqb tag tag refl)
    (append-nil (numbered_pieces n (pieces_of samples)))

piece_left : (seat n track tag : ℕ) (samples : List ℤ) (why : Refusal)
    → pieces_by track tag seat n (deed seat (Piece track tag samples) (Err why) silent ∷ []) ≡ []
piece_left seat n track tag samples why = rw (eq-eqb seat seat refl)

module _ {D V : Type 0} (disk : Ghosts D) (vaults : VaultGhosts V) (start : Core D) (track tag : ℕ) (samples : List ℤ)
    (v w : View (Held D V disk) Deed) where
  abbrev Pieces : View (Held D V disk) Deed → List (List ℤ × ℕ)
  Pieces x = pieces_by track tag x.number start.commit_number x.seen

  -- the pieces of these samples more, whose numbers lead to this one
  abbrev Added : ℕ → Type 0
  Added number = (Pieces w
      ≡ Pieces v ++ numbered_pieces (number - pieces_in (length samples)) (pieces_of samples))
      × (pieces_in (length samples) ≤ number)

  abbrev Then : Result ℕ Refusal → Type 0
  Then what = MatchResult what Added (λ (why : Refusal). Pieces w ≡ Pieces v)

  abbrev Took : Result ℕ Refusal → ℕ → Type 0
  Took what at =
      Turned (origin disk vaults start) (asked (Piece track tag samples) (as_reply (λ _. Done) what) silent) at
      (views v w)

  abbrev SaysPiece : Said ℕ → Type 0
  SaysPiece said =
      Says (origin disk vaults start) (asked (Piece track tag samples) (as_reply (λ _. Done) said.what) silent) said
      (views v w)

  taken : (what : Result ℕ Refusal) (at : ℕ) → Took what at → IfOk what (λ (number : ℕ). number ≡ at) → Then what
  taken (Ok number) at h is =
      let d : Deed = deed v.number (Piece track tag samples) (Ok Done) silent in
      let before : ℕ = number_after start.commit_number (v.seen ++ h.between) in
      let counts : at ≡ before + pieces_in (length samples) =
      h.number ∙ turned_number h ∙ number_append start.commit_number (v.seen ++ h.between) (d ∷ []) in
      let from : before ≡ number - pieces_in (length samples) = omega (arith, is, counts) in (
        ap Pieces h.view ∙ (one_turn track tag v.number start.commit_number v.seen h.between d h.by_others
            ∙ rw (piece_taken v.number before track tag samples, from)),
        omega (arith, is, counts),
      )
  taken (Err why) at h is =
      let d : Deed = deed v.number (Piece track tag samples) (Err why) silent in
      ap Pieces h.view ∙ (one_turn track tag v.number start.commit_number v.seen h.between d h.by_others
      ∙ rw (piece_left v.number (number_after start.commit_number (v.seen ++ h.between)) track tag samples why)
      (append-nil _))

  -- after a call at the desk the seat has those pieces more, or as many as before
  takes : (said : Said ℕ) → SaysPiece said → IfOk said.what (λ (number : ℕ). number ≡ said.at) → Then said.what
  takes said (inl x) is = taken said.what said.at x is
  takes said (inr x) is = rw x.what (ap Pieces x.view)

  pub takes_both : (said : Said ℕ) → SaysPiece said → IfOk said.what (λ (number : ℕ). number ≡ said.at)
      → IfOk said.what Added × IfErr said.what (λ (why : Refusal). Pieces w ≡ Pieces v)
  takes_both said h is = both_of Added (λ (why : Refusal). Pieces w ≡ Pieces v) said.what (takes said h is)

  -- a number to which the deeds led that it had seen is no higher than that to which they lead now
  pub tagged : (said : Said ℕ) (least : ℕ) → SaysPiece said → least ≤ number_after start.commit_number v.seen
      → least ≤ number_after start.commit_number w.seen
  tagged said least (inl x) low =
      let d : Deed = deed v.number (Piece track tag samples) (as_reply (λ _. Done) said.what) silent in
      let one = number_on start.commit_number v.seen x.between in
      let two = number_on start.commit_number (v.seen ++ x.between) (d ∷ []) in
      rw x.view (omega (arith, low, one, two))
  tagged said least (inr x) low = rw x.view low
