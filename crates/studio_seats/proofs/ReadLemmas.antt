-- A seat reads a pin on, call by call.
use Rattle.studio_seats.proofs.Common.{◌≡◌, inl, inr, ℕ, ◌+◌, ◌<◌, ◌≤◌, nat_lt, if◌then◌else◌, Bool, true}
use Rattle.studio_seats.proofs.Common.{false, List, [], ◌∷◌, ◌++◌, length, take, Option, refl, sym, ◌∙◌, ap, subst}
use Rattle.studio_seats.proofs.Common.{arith, Result, Ok, Err, nat_tests, append-nil, length-take-le, IfOk, OnOk}
use Rattle.studio_seats.proofs.Common.{Reply, Frames, Call, ReadPin, Refusal, Said, Frame, Ghosts, NextAt, after_read}
use Rattle.studio_seats.proofs.Common.{first_refusal, View, Core, silent, as_reply, Says, Turned, asked, spent}
use Rattle.studio_seats.proofs.Common.{views, Held, Deed, deed, by_seat, deeds_of, Onward, worker, origin, ReadsOn}
use Rattle.studio_seats.proofs.Common.{IfErr, VaultGhosts}
use Rattle.edit_ports.specs.Answers.{AtEnd, Reading, RefusedAt}
use Rattle.studio_seats.specs.{Onward.IsReadOf, Onward.Worker}
use Rattle.studio_seats.specs.Reads.{AreFullReads, EndReads, IsAsked, ReadsTo}
use Rattle.studio_seats.proofs.OnwardLemmas.{onward_on, onward_self, onward_spent, onward_taken}
use Rattle.studio_seats.proofs.WorkLemmas.{own_turn}

-- one full read more
full_more : (pin from to : ℕ) (ds : List Deed) (d : Deed) (frames : List Frame) → AreFullReads pin from to ds
    → IsAsked (length frames) → d.call ≡ ReadPin pin to (length frames) → d.what ≡ Ok (Frames frames)
    → AreFullReads pin from (to + length frames) (ds ++ d ∷ [])
full_more pin from to [] d frames is few call what = (
  frames,
  few,
  rw is at call,
  what,
  rw is,
)
full_more pin from to (x ∷ xs) d frames h few call what =
    (h.0, h.1, h.2, h.3, full_more pin (from + length h.0) to xs d frames h.4 few call what)

-- no read yet
pub reads_self : {D V : Type 0} {disk : Ghosts D} (pin : ℕ) (v : Worker D V disk) → ReadsOn pin (NextAt 0) v v
reads_self pin v = record {
  onward = onward_self (IsReadOf pin) v.view;
  reads = λ none.
      record { place = 0; full = []; last = []; are = refl; reads = refl; ends = (none, refl, refl) };
}

-- one read more of a worker that nothing had refused since `a`
module _ {D V : Type 0} (pin from : ℕ) (disk : Ghosts D) (vaults : VaultGhosts V) (start : Core D)
    (a : Worker D V disk)
    (v w : View (Held D V disk) Deed) (old new : Option Refusal) (out out' : List Frame) (few : IsAsked (length out))
    (wide : length out' ≡ length out) (h : ReadsOn pin (NextAt from) a (worker v old)) where
  abbrev own : List Deed
  own = deeds_of (by_seat a.view.number) h.onward.added

  abbrev c : Call
  c = ReadPin pin from (length out)

  abbrev what_of : Result ℕ Refusal → Result Reply Refusal
  what_of r = as_reply (λ (n : ℕ). Frames (take n out')) r

  abbrev Taken : Result ℕ Refusal → ℕ → Type 0
  Taken r at = Turned (origin disk vaults start) (asked c (what_of r) silent) at (views v w)

  abbrev done_of : Result ℕ Refusal → Deed
  done_of r = deed v.number c (what_of r) silent

  abbrev goes : (r : Result ℕ Refusal) (at : ℕ) → Taken r at → Onward (IsReadOf pin) a.view w
  goes r at t = onward_on (IsReadOf pin) a.view v w h.onward
      (onward_taken (IsReadOf pin) disk vaults start v w c (what_of r) silent at (from, length out, refl) t)

  abbrev Before : Type 0
  Before = ReadsTo v.used_up pin old (NextAt from) own

  -- what was read before were full reads
  full_before : (b : Before) → own ≡ b.full
  full_before b = b.are ∙ ap (λ (l : List Deed). b.full ++ l) b.ends.1 ∙ append-nil b.full

  -- this read is the last
  last_read : (b : Before) (refused : Option Refusal) (reading : Reading) (d : Deed)
      → EndReads w.used_up pin b.place refused reading (d ∷ [])
      → ReadsTo w.used_up pin refused reading (own ++ d ∷ [])
  last_read b refused reading d ends = record {
    place = b.place;
    full = b.full;
    last = d ∷ [];
    are = ap (λ (l : List Deed). l ++ d ∷ []) (full_before b);
    reads = b.reads;
    ends = ends;
  }

  -- frames were given: all that were asked for, or fewer
  gave : (count : ℕ) (fewer : Bool) → nat_lt count (length out) ≡ fewer → count ≤ length out' → new ≡ old → Before
      → ReadsTo w.used_up pin new (if fewer then AtEnd else NextAt (from + count)) (own ++ done_of (Ok count) ∷ [])
  gave count true test bound same b =
      let len : length (take count out') ≡ count = length-take-le count out' bound in
      let short : count < length out = grind (arith, nat_tests) in
      last_read b new AtEnd (done_of (Ok count)) (
        same ∙ b.ends.0,
        done_of (Ok count),
        refl,
        record {
          count = length out;
          few = few;
          frames = take count out';
          short = omega (arith, len, short);
          call_is = ap (λ (n : ℕ). ReadPin pin n (length out)) b.ends.2;
          what_is = refl;
        },
      )
  gave count false test bound same b =
      let len : length (take count out') ≡ count = length-take-le count out' bound in
      let all : length out ≤ count = grind (arith, nat_tests) in
      let full : length out ≡ length (take count out') = omega (arith, len, all, bound, wide) in
      record {
        place = b.place + length (take count out');
        full = b.full ++ done_of (Ok count) ∷ [];
        last = [];
        are = ap (λ (l : List Deed). l ++ done_of (Ok count) ∷ []) (full_before b)
            ∙ sym (append-nil (b.full ++ done_of (Ok count) ∷ []));
        reads = full_more pin 0 b.place b.full (done_of (Ok count)) (take count out') b.reads
            (subst IsAsked full few) (λ i. ReadPin pin (b.ends.2 i) (full i)) refl;
        ends = (same ∙ b.ends.0, refl, omega (arith, b.ends.2, len));
      }

  -- the read was refused, by a turn or because none was left
  refused : (why : Refusal) → new ≡ first_refusal old why → Before
      → ReadsTo w.used_up pin new (RefusedAt from) (own ++ done_of (Err why) ∷ [])
  refused why first b = last_read b new (RefusedAt from) (done_of (Err why)) (
    b.ends.2,
    why,
    first ∙ ap (λ (o : Option Refusal). first_refusal o why) b.ends.0,
    inl (
      done_of (Err why),
      refl,
      record {
        count = length out;
        few = few;
        call_is = ap (λ (n : ℕ). ReadPin pin n (length out)) b.ends.2;
        what_is = refl;
      },
    ),
  )

  taken : (r : Result ℕ Refusal) (at : ℕ) → Taken r at → IfOk r (λ count. count ≤ length out') → OnOk r (new ≡ old)
      → IfErr r (λ why. new ≡ first_refusal old why) → ReadsOn pin (after_read from (length out) r) a (worker w new)
  taken (Ok count) at t bound same first = record {
    onward = goes (Ok count) at t;
    reads = λ none. rw (own_turn (IsReadOf pin) a.view v h.onward t.between (done_of (Ok count)) refl t.by_others)
        (gave count (nat_lt count (length out)) refl bound same (h.reads none));
  }
  taken (Err why) at t bound same first = record {
    onward = goes (Err why) at t;
    reads = λ none. rw (own_turn (IsReadOf pin) a.view v h.onward t.between (done_of (Err why)) refl t.by_others)
        (refused why first (h.reads none));
  }

  spends : (r : Result ℕ Refusal) → r ≡ Err spent → w ≡ record v { used_up = true }
      → IfErr r (λ why. new ≡ first_refusal old why) → ReadsOn pin (after_read from (length out) r) a (worker w new)
  spends (Ok count) is view first = cc
  spends (Err why) is view first = record {
    onward = onward_on (IsReadOf pin) a.view v w h.onward
        (onward_spent (IsReadOf pin) disk vaults start v w c (what_of (Err why)) silent view);
    reads = λ none. let b = h.reads none in record {
      place = b.place;
      full = b.full;
      last = [];
      are = ap (deeds_of (by_seat a.view.number)) (append-nil h.onward.added)
          ∙ (b.are ∙ ap (λ (l : List Deed). b.full ++ l) b.ends.1);
      reads = b.reads;
      ends = (
        b.ends.2,
        why,
        first ∙ ap (λ (o : Option Refusal). first_refusal o why) b.ends.0,
        inr (refl, cc, rw view),
      );
    };
  }

  pub reads_turn : (said : Said ℕ)
      → Says (origin disk vaults start) (asked c (what_of said.what) silent) said (views v w)
      → IfOk said.what (λ count. count ≤ length out') → OnOk said.what (new ≡ old)
      → IfErr said.what (λ why. new ≡ first_refusal old why)
      → ReadsOn pin (after_read from (length out) said.what) a (worker w new)
  reads_turn said (inl t) bound same first = taken said.what said.at t bound same first
  reads_turn said (inr x) bound same first = spends said.what x.what x.view first
