-- A recorder goes on, call by call.
use Rattle.studio_seats.proofs.Common.{◌≡◌, ◌⊎◌, inl, inr, ℕ, ◌+◌, ◌≤◌, ℤ, Bool, true, false, List, [], ◌∷◌}
use Rattle.studio_seats.proofs.Common.{◌++◌, length, Option, None, refl, sym, ◌∙◌, ap, arith, Result, Ok, Err}
use Rattle.studio_seats.proofs.Common.{true≢false, append-nil, is_err, OnOk, Line, Piece, pieces_in, Reply, Done, Call}
use Rattle.studio_seats.proofs.Common.{Reclaim, Entry, Refusal, Said, Ghosts, first_refusal, View, Each, Each-append}
use Rattle.studio_seats.proofs.Common.{Core, silent, as_reply, Says, Turned, asked, spent, views, RecordsOn}
use Rattle.studio_seats.proofs.Common.{asks_piece, recorder, Held, Deed, deed, entries_of, entry_of, number_after}
use Rattle.studio_seats.proofs.Common.{AreFreed, IsDue, IsFullReclaim, unfreed, by_seat, deeds_of, EndsBy}
use Rattle.studio_seats.proofs.Common.{Onward, pieces_by, origin, IfErr, VaultGhosts}
use Rattle.std.specs.Prelude.{IsOk}
use Rattle.studio_seats.specs.Recording.{Frees, FreesOnce, FreesTo, Recorder, RecorderAsks}
use Rattle.studio_seats.specs.{Onward.AreDone}
use Rattle.studio_seats.proofs.FreeingLemmas.{asked_own, freed_append, freed_ended, no_piece_among, no_pieces_by}
use Rattle.studio_seats.proofs.FreeingLemmas.{none_by, reclaim_frees, unfreed_append}
use Rattle.studio_seats.proofs.OnwardLemmas.{onward_on, onward_self, onward_spent, onward_taken}
use Rattle.studio_seats.proofs.{Grown.entries_append, MergeLemmas.deeds_append, PieceLemmas.pieces_append}
use Rattle.studio_seats.proofs.{Turns.number_on, WorkLemmas.ends_later, WorkLemmas.onward_as, WorkLemmas.own_turn}

-- a recorder that made no call
pub records_self : {D V : Type 0} {disk : Ghosts D} (track tag : ℕ) (v : Recorder D V disk)
    → RecordsOn track tag false false v v
records_self track tag v = record {
  onward = onward_self (RecorderAsks track tag) v.view;
  unrefused = λ going. refl;
  ends = λ none. rw none tt;
  freed = tt;
  since = inl refl;
}

-- some pieces more of a recorder that nothing had refused since `a`
module _ {D V : Type 0} (track tag : ℕ) (disk : Ghosts D) (vaults : VaultGhosts V) (start : Core D)
    (a : Recorder D V disk)
    (v w : View (Held D V disk) Deed) (old new : Option Refusal) (since count : ℕ) (samples : List ℤ)
    (many : pieces_in (length samples) ≡ count) (few : since + count ≤ 64)
    (h : RecordsOn track tag false false a (recorder v old since)) where
  abbrev own : List Deed
  own = deeds_of (by_seat a.view.number) h.onward.added

  abbrev c : Call
  c = Piece track tag samples

  abbrev what_of : Result ℕ Refusal → Result Reply Refusal
  what_of r = as_reply (λ (n : ℕ). Done) r

  abbrev Taken : Result ℕ Refusal → ℕ → Type 0
  Taken r at = Turned (origin disk vaults start) (asked c (what_of r) silent) at (views v w)

  abbrev done_of : Result ℕ Refusal → Deed
  done_of r = deed v.number c (what_of r) silent

  -- where nothing was refused before, nothing was since
  none_yet : a.refused ≡ None → old ≡ None
  none_yet none = h.unrefused refl ∙ none

  each_done : a.refused ≡ None → AreDone (deeds_of asks_piece own)
  each_done none = rw (none_yet none) at (h.ends none)

  -- its own deeds are one more
  own_more : (r : Result ℕ Refusal) (at : ℕ) (t : Taken r at)
      → deeds_of (by_seat a.view.number) (h.onward.added ++ (t.between ++ done_of r ∷ [])) ≡ own ++ done_of r ∷ []
  own_more r at t = own_turn (RecorderAsks track tag) a.view v h.onward t.between (done_of r) refl t.by_others

  -- as a turn was taken, one was left before
  counted : v.used_up ≡ false → unfreed a.since (entries_of own) ≡ since
  counted unspent = elim h.since [ inl is ↦ is | inr used ↦ absurd (true≢false (sym used ∙ unspent)) ]

  goes : (r : Result ℕ Refusal) (at : ℕ) (t : Taken r at) → (new' : Option Refusal) (failed : Bool)
      → (failed ≡ false → new' ≡ a.refused)
      → (a.refused ≡ None → EndsBy w.used_up new' (deeds_of asks_piece own ++ done_of r ∷ []))
      → RecordsOn track tag false failed a (recorder w new' (since + count))
  goes r at t new' failed unrefused ends =
      let e : Entry = entry_of (done_of r) in
      let is : unfreed a.since (entries_of own) ≡ since = counted t.unspent in
      let most : unfreed a.since (entries_of own) + pieces_in (length samples) ≤ 64 = omega (arith, is, many, few) in
      let entries = ap entries_of (own_more r at t) ∙ entries_append own (done_of r ∷ []) in
      record {
        onward = onward_on (RecorderAsks track tag) a.view v w h.onward
            (onward_taken (RecorderAsks track tag) disk vaults start v w c (what_of r) silent at
            (inl (samples, refl)) t);
        unrefused = unrefused;
        ends = λ none. rw (own_more r at t, deeds_append asks_piece own (done_of r ∷ [])) (ends none);
        freed = rw entries (freed_append false a.since (entries_of own) (e ∷ []) h.freed
            ((λ other. absurd (true≢false other)), most, tt));
        since = inl (ap (unfreed a.since) entries
            ∙ (unfreed_append a.since (entries_of own) (e ∷ []) ∙ (λ i. is i + many i)));
      }

  taken : (r : Result ℕ Refusal) (at : ℕ) → Taken r at → OnOk r (new ≡ old)
      → IfErr r (λ why. new ≡ first_refusal old why)
      → RecordsOn track tag false (is_err r) a (recorder w new (since + count))
  taken (Ok x) at t same first = goes (Ok x) at t new false (λ going. same ∙ h.unrefused refl)
      (λ none. rw (same ∙ none_yet none)
      (Each-append (λ d. IsOk d.what) (deeds_of asks_piece own) (done_of (Ok x) ∷ []) (each_done none) (refl, tt)))
  taken (Err why) at t same first = goes (Err why) at t new true (λ going. absurd (true≢false going))
      (λ none. rw (first, none_yet none) (inl record {
        done = deeds_of asks_piece own;
        last = done_of (Err why);
        are = refl;
        each = each_done none;
        refused = refl;
      }))

  spends : (r : Result ℕ Refusal) → r ≡ Err spent → w ≡ record v { used_up = true }
      → IfErr r (λ why. new ≡ first_refusal old why)
      → RecordsOn track tag false (is_err r) a (recorder w new (since + count))
  spends (Ok x) is view first = cc
  spends (Err why) is view first =
      let used : w.used_up ≡ true = rw view in
      let same : deeds_of (by_seat a.view.number) (h.onward.added ++ []) ≡ own =
      ap (deeds_of (by_seat a.view.number)) (append-nil h.onward.added) in
      record {
        onward = onward_on (RecorderAsks track tag) a.view v w h.onward
            (onward_spent (RecorderAsks track tag) disk vaults start v w c (what_of (Err why)) silent view);
        unrefused = λ going. absurd (true≢false going);
        ends = λ none. rw (first, none_yet none, same)
            (inr record { each = each_done none; spent_is = cc; found = used });
        freed = rw same h.freed;
        since = inr used;
      }

  pub records_turn : (said : Said ℕ)
      → Says (origin disk vaults start) (asked c (what_of said.what) silent) said (views v w)
      → OnOk said.what (new ≡ old) → IfErr said.what (λ why. new ≡ first_refusal old why)
      → RecordsOn track tag false (is_err said.what) a (recorder w new (since + count))
  records_turn said (inl t) same first = taken said.what said.at t same first
  records_turn said (inr x) same first = spends said.what x.what x.view first

-- a reclaim
pub frees_turn : {D V A : Type 0} (disk : Ghosts D) (vaults : VaultGhosts V) (start : Core D)
    (v w : View (Held D V disk) Deed) (what : Result Reply Refusal) (said : Said A)
    → Says (origin disk vaults start) (asked (Line (Reclaim None)) what silent) said (views v w) → Frees v w
frees_turn disk vaults start v w what said (inl x) =
    let e : Deed = deed v.number (Line (Reclaim None)) what silent in record {
      onward = onward_taken IsFullReclaim disk vaults start v w (Line (Reclaim None)) what silent said.at refl x;
      freed = inl (x.unspent, e, own_turn IsFullReclaim v v (onward_self IsFullReclaim v) x.between e refl x.by_others);
    }
frees_turn disk vaults start v w what said (inr x) = record {
  onward = onward_spent IsFullReclaim disk vaults start v w (Line (Reclaim None)) what silent x.view;
  freed = inr (rw x.view, refl);
}

module _ {D V : Type 0} {disk : Ghosts D} (track tag : ℕ) (v w : View (Held D V disk) Deed) where
  -- what a recorder did before a reclaim, and that
  module _ (failed : Bool) (a : Recorder D V disk) (refused : Option Refusal) (since : ℕ)
      (h : RecordsOn track tag false failed a (recorder v refused since)) where
    abbrev before : List Deed
    before = deeds_of (by_seat a.view.number) h.onward.added

    abbrev since_before : ℕ
    since_before = unfreed a.since (entries_of before)

    -- as a turn was taken, the count is right
    counted_before : v.used_up ≡ false → since_before ≡ since
    counted_before unspent = elim h.since [ inl is ↦ is | inr used ↦ absurd (true≢false (sym used ∙ unspent)) ]

    -- the entry of the reclaim, if one was made, was due
    freed_more : (ended : Bool) (more : List Deed) → Each (λ d. IsFullReclaim d.call) more → IsDue ended since
        → FreesOnce v w more → AreFreed ended since_before (entries_of more)
    freed_more ended more reclaims due (inl x) =
        rw x.2 (reclaim_frees ended since_before x.1 (rw x.2 at reclaims).0 (rw (counted_before x.0) due))
    freed_more ended more reclaims due (inr x) = rw x.1 tt

    -- and after it no piece stands
    none_more : (more : List Deed) → Each (λ d. IsFullReclaim d.call) more → FreesOnce v w more
        → (unfreed since_before (entries_of more) ≡ 0) ⊎ (w.used_up ≡ true)
    none_more more reclaims (inl x) = inl (rw x.2 (none_by since_before x.1.call (rw x.2 at reclaims).0))
    none_more more reclaims (inr x) = inr x.0

    frees : (ended : Bool) → IsDue ended since → Frees v w → RecordsOn track tag ended failed a (recorder w refused 0)
    frees ended due f =
        let n : ℕ = a.view.number in
        let more : List Deed = deeds_of (by_seat n) f.onward.added in
        let own : deeds_of (by_seat n) (h.onward.added ++ f.onward.added) ≡ before ++ more =
        deeds_append (by_seat n) h.onward.added f.onward.added in
        let reclaims : Each (λ d. IsFullReclaim d.call) more =
        asked_own IsFullReclaim n f.onward.added (rw h.onward.number at f.onward.asks) in
        let once : FreesOnce v w more = rw h.onward.number at f.freed in
        let pieces : deeds_of asks_piece (deeds_of (by_seat n) (h.onward.added ++ f.onward.added))
        ≡ deeds_of asks_piece before =
        rw (own, deeds_append asks_piece before more, no_piece_among more reclaims) (append-nil _) in
        let entries : entries_of (deeds_of (by_seat n) (h.onward.added ++ f.onward.added))
        ≡ entries_of before ++ entries_of more = ap entries_of own ∙ entries_append before more in
        record {
          onward = onward_on (RecorderAsks track tag) a.view v w h.onward
              (onward_as IsFullReclaim (RecorderAsks track tag) v w (λ c is. inr is) f.onward);
          unrefused = h.unrefused;
          ends = λ none. rw pieces
              (ends_later v.used_up w.used_up refused (deeds_of asks_piece before) f.onward.used_up (h.ends none));
          freed = rw entries (freed_append ended a.since (entries_of before) (entries_of more) h.freed
              (freed_more ended more reclaims due once));
          since = elim (none_more more reclaims once) [
            | inl none ↦ inl (rw entries (unfreed_append a.since (entries_of before) (entries_of more) ∙ none))
            | inr used ↦ inr used
          ];
        }

    -- it did nothing
    stays_freed : (ended : Bool) → RecordsOn track tag ended failed a (recorder v refused since)
    stays_freed ended = record {
      onward = h.onward;
      unrefused = h.unrefused;
      ends = h.ends;
      freed = freed_ended ended a.since (entries_of before) h.freed;
      since = h.since;
    }

    -- the same where it may have made none
    pub records_free : (ended : Bool) (left : ℕ) → FreesTo ended since v left w
        → RecordsOn track tag ended failed a (recorder w refused left)
    records_free ended left (inl stays) = rw (stays.0, stays.1) (stays_freed ended)
    records_free ended left (inr made) = rw made.0 (frees ended made.1 made.2)

  module _ (ended : Bool) (since left : ℕ) where
    -- its pieces are the same
    pub pieces_free : (first : ℕ) → FreesTo ended since v left w
        → pieces_by track tag w.number first w.seen ≡ pieces_by track tag v.number first v.seen
    pieces_free first (inl stays) = rw stays.1
    pieces_free first (inr made) =
        let on : Onward IsFullReclaim v w = made.2.onward in
        (λ i. pieces_by track tag (on.number i) first (on.seen i))
        ∙ rw (
          pieces_append track tag v.number first v.seen on.added,
          no_pieces_by track tag v.number (number_after first v.seen) on.added on.asks,
        ) (append-nil _)

    -- a number to which the deeds led is no higher than that to which they lead now
    pub number_free : (first least : ℕ) → FreesTo ended since v left w → least ≤ number_after first v.seen
        → least ≤ number_after first w.seen
    number_free first least (inl stays) low = rw stays.1 low
    number_free first least (inr made) low =
        rw made.2.onward.seen (omega (arith, low, number_on first v.seen made.2.onward.added))
