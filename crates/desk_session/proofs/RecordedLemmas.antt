-- The numbers of a recording are those of its commits.
use Rattle.std.proofs.Common.{◌≡◌, inl, inr, ℕ, ◌<◌, ◌≤◌, ◌==◌, ◌&&◌, ℤ, Bool, true, false, List, [], ◌∷◌, ◌++◌, length}
use Rattle.std.proofs.Common.{take, Option, Some, None, refl, sym, ◌∙◌, ap, subst, arith, eq-eqb}
use Rattle.std.proofs.lemmas.List.{append-nil}
use Rattle.std.specs.List.{zip}
use Rattle.pcm_base.specs.{declared.command.Call.Call, declared.refusal.Refusal.Refusal, Counters.commits_of}
use Rattle.disk_model.specs.declared.store.Store.{Ghosts}
use Rattle.pin_turn.specs.{declared.view.View.View, Counts.Each, Rule.ByOthers}
use Rattle.studio_seats.specs.Deeds.{actor_of, is_commit, made, number_after, raised_by}
use Rattle.studio_seats.specs.Merge.{OnlyPieces, by_seat, is_piece, numbers_if, numbers_in, numbers_of}
use Rattle.studio_seats.specs.{declared.deed.Deed.Deed, declared.held.Held.Held, Onward.Asks, Onward.IsPieceOf}
use Rattle.studio_seats.specs.{Pieces.pieces_by, Recording.RecorderAsks}
use Rattle.studio_seats.proofs.MergeLemmas.{numbers_append, numbers_others, pieces_are_chunks, lower_others}
use Rattle.studio_seats.proofs.PieceLemmas.{pieces_append, pieces_others}
use Rattle.studio_seats.proofs.{FreeingLemmas.same_seat, OnwardLemmas.each_append}
use Rattle.recorder_threads.specs.Drained.{Taken, TakerState, Takes}
use Rattle.desk_session.specs.Parts.{NewPart}
use Rattle.desk_session.proofs.ListLemmas.{quiet_deed}

no_more : (seat : ℕ) (e : Deed) → e.actor < seat → (b : Bool) → (seat == e.actor) ≡ b → (b && is_commit e) ≡ true → ⊥
no_more seat e h true is c = let same = same_seat seat e.actor is in absurd (omega (arith, h, same))
no_more seat e h false is c = cc

only_before : (to by seat : ℕ) (es : List Deed) → Each (λ e. e.actor < seat) es → OnlyPieces to by seat es
only_before to by seat [] h = tt
only_before to by seat (e ∷ es) h =
    ((λ c. absurd (no_more seat e h.0 (seat == e.actor) refl c)), only_before to by seat es h.1)

piece_of : (to by : ℕ) (c : Call) → IsPieceOf to by c → is_piece to by c ≡ true
piece_of to by c (samples, is) =
    subst (λ (x : Call). is_piece to by x ≡ true) (sym is) (λ i. eq-eqb to to refl i && eq-eqb by by refl i)

-- a commit of a recorder is a piece
commit_of : (to by : ℕ) (e : Deed) → RecorderAsks to by e.call → is_commit e ≡ true → is_piece to by e.call ≡ true
commit_of to by e (inl fit) commit = piece_of to by e.call fit
commit_of to by e (inr is) commit = absurd (quiet_deed e.call e.what (ap commits_of is) commit)

second : (a b : Bool) → (a && b) ≡ true → b ≡ true
second true b h = h
second false b h = cc

own_first : (seat : ℕ) (e : Deed) → (b : Bool) → (seat == e.actor) ≡ b → (b && is_commit e) ≡ true → e.actor ≡ seat
own_first seat e true is c = sym (same_seat seat e.actor is)
own_first seat e false is c = cc

only_asked : (to by seat : ℕ) (es : List Deed) → Asks (RecorderAsks to by) seat es → OnlyPieces to by seat es
only_asked to by seat [] h = tt
only_asked to by seat (e ∷ es) h = (
  (λ c. commit_of to by e (h.0 (own_first seat e (seat == e.actor) refl c))
      (second (seat == e.actor) (is_commit e) c)),
  only_asked to by seat es h.1,
)

zipped : (chunks : List (List ℤ)) (numbers : List ℕ) → length numbers ≤ length chunks
    → numbers_in (zip (take (length numbers) chunks) numbers) ≡ numbers
zipped chunks [] h = refl
zipped [] (n ∷ ns) h = absurd (omega (arith, h))
zipped (c ∷ cs) (n ∷ ns) h = ap (λ (l : List ℕ). n ∷ l) (zipped cs ns (omega (arith, h)))

few : (before : List (List ℤ × ℕ)) (taker : TakerState) (told : Taken) (chunks : List (List ℤ))
    → Takes before taker told chunks → length told.numbers ≤ length chunks
few before taker told chunks t = by_refusal told.refused refl
  where
    by_refusal : (refused : Option Refusal) → told.refused ≡ refused → length told.numbers ≤ length chunks
    by_refusal None is = let all = (t.all is).0 in omega (arith, all)
    by_refusal (Some reason) is = let some = (t.some reason is).0 in omega (arith, some)

none_is : (seat n : ℕ) (e : Deed) → (e.actor ≡ seat → ⊥) → (b : Bool) → (seat == e.actor) ≡ b
    → numbers_if b (made e) n ≡ []
none_is seat n e h true is = absurd (h (sym (same_seat seat e.actor is)))
none_is seat n e h false is = refl

-- a seat that asked nothing has no numbers
pub no_numbers : (fits : Call → Type 0) → ((c : Call) → fits c → ⊥) → (seat n : ℕ) (es : List Deed) → Asks fits seat es
    → numbers_of (by_seat seat) n es ≡ []
no_numbers fits never seat n [] h = refl
no_numbers fits never seat n (e ∷ es) h =
    (λ i. none_is seat n e (λ is. never e.call (h.0 is)) (seat == e.actor) refl i
    ++ no_numbers fits never seat (raised_by e n) es h.1 i)

module _ {D V : Type 0} {disk : Ghosts D} (first track tag : ℕ) (v w : View (Held D V disk) Deed)
    (h : NewPart (RecorderAsks track tag) v w)
  where
    -- it had no piece yet
    pub no_pieces : pieces_by track tag w.number first v.seen ≡ []
    no_pieces = pieces_others track tag w.number first v.seen (lower_others w.number v.seen h.unseen)

    pub piece_commits : (refused : Option Refusal) (told : Taken) (chunks : List (List ℤ))
        → Takes [] record { pieces = pieces_by track tag w.number first w.seen; refused = refused } told chunks
        → told.numbers ≡ numbers_of (by_seat w.number) (number_after first v.seen) h.part.added
    piece_commits refused told chunks t =
        let seat = w.number in
        let numbers = told.numbers in
        let took : pieces_by track tag seat first w.seen
        ≡ pieces_by track tag seat first v.seen ++ zip (take (length numbers) chunks) numbers =
        t.kept ∙ ap (λ (l : List (List ℤ × ℕ)). l ++ zip (take (length numbers) chunks) numbers) (sym no_pieces) in
        let only : OnlyPieces track tag seat (w.seen ++ []) =
        subst (λ (l : List Deed). OnlyPieces track tag seat l) (sym (append-nil w.seen ∙ h.part.seen))
        (each_append (λ e. by_seat seat e && is_commit e ≡ true → is_piece track tag e.call ≡ true) v.seen h.part.added
        (only_before track tag seat v.seen h.unseen) (only_asked track tag seat h.part.added h.part.asks)) in
        let k = (pieces_are_chunks track tag seat first v.seen w.seen [] chunks numbers h.unseen took tt only).1 in
        let own : numbers_of (by_seat seat) first (w.seen ++ [])
        ≡ numbers_of (by_seat seat) (number_after first v.seen) h.part.added =
        ap (λ (l : List Deed). numbers_of (by_seat seat) first l) (append-nil w.seen ∙ h.part.seen)
        ∙ (numbers_append (by_seat seat) first v.seen h.part.added
        ∙ ap (λ (l : List ℕ). l ++ numbers_of (by_seat seat) (number_after first v.seen) h.part.added)
        (numbers_others seat first v.seen (lower_others seat v.seen h.unseen))) in
        sym (zipped chunks numbers
        (few [] record { pieces = pieces_by track tag seat first w.seen; refused = refused } told chunks t))
        ∙ (sym k ∙ own)

-- deeds of others after what a seat saw add no pieces
pub pieces_in : (track tag seat first : ℕ) (log seen more : List Deed) → log ≡ seen ++ more
    → ByOthers actor_of (seat ∷ []) more → pieces_by track tag seat first log ≡ pieces_by track tag seat first seen
pieces_in track tag seat first log seen more is others = ap (pieces_by track tag seat first) is
    ∙ (pieces_append track tag seat first seen more
    ∙ (ap (λ (l : List (List ℤ × ℕ)). pieces_by track tag seat first seen ++ l)
    (pieces_others track tag seat (number_after first seen) more others)
    ∙ append-nil (pieces_by track tag seat first seen)))
