-- The list of a session, by its makers.
use Rattle.std.proofs.Common.{◌≡◌, ◌≢◌, ℕ, ◌+◌, ◌<◌, nat_lt, ◌||◌, Bool, true, false, List, [], ◌∷◌, ◌++◌, length, drop}
use Rattle.std.proofs.Common.{refl, sym, ◌∙◌, ap, subst, arith, append_assoc, Result, Ok, Err}
use Rattle.std.proofs.{lemmas.List.append-nil, Math.Seq.drop-append_seam}
use Rattle.pcm_base.specs.{declared.answer.Reply.Reply, declared.command.Call.Call, declared.refusal.Refusal.Refusal}
use Rattle.pcm_base.specs.{Counters.commits_of}
use Rattle.disk_model.specs.declared.store.Store.{Ghosts}
use Rattle.pin_turn.specs.{Counts.Each, Counts.once_below, Counts.times, Rule.ByOthers}
use Rattle.pin_turn.proofs.Sums.{Each-left, Each-right}
use Rattle.studio_seats.specs.Deeds.{actor_of, commits, is_commit, number_after, raised_by}
use Rattle.studio_seats.specs.Merge.{Merged, SplitsIn, any_seat, by_seat, deeds_of, numbers_if, numbers_of, one_if}
use Rattle.studio_seats.specs.{declared.deed.Deed.Deed, Onward.Asks, Onward.places_of}
use Rattle.studio_seats.proofs.MergeLemmas.{deeds_append, deeds_others, numbers_append, numbers_others}
use Rattle.studio_seats.proofs.{FreeingLemmas.same_seat, OnwardLemmas.asks_others, OnwardLemmas.each_append}
use Rattle.script_reader.specs.Calls.{IsOfScript}
use Rattle.desk_session.specs.Makers.{Apart, Made, Parts, Seats, is_by}
use Rattle.desk_session.specs.Parts.{Parted, Rejoined}
use Rattle.desk_session.proofs.PartLemmas.{parts_made}
use Rattle.studio_seats.specs.Deeds as deeds

pub same_rest : (xs a b : List Deed) → xs ++ a ≡ xs ++ b → a ≡ b
same_rest xs a b e = sym (drop-append_seam xs a) ∙ (ap (drop (length xs)) e ∙ drop-append_seam xs b)

below_not : (a b : ℕ) → a < b → a ≢ b
below_not a b h e = absurd (omega (arith, h, e))

-- the numbers of a seat in the rest are those of what it added
own_numbers : (seat n : ℕ) (rest added more : List Deed) → rest ≡ added ++ more → ByOthers actor_of (seat ∷ []) more
    → numbers_of (by_seat seat) n added ≡ numbers_of (by_seat seat) n rest
own_numbers seat n rest added more is others = sym (ap (λ (l : List Deed). numbers_of (by_seat seat) n l) is
    ∙ (numbers_append (by_seat seat) n added more
    ∙ (ap (λ (l : List ℕ). numbers_of (by_seat seat) n added ++ l)
    (numbers_others seat (number_after n added) more others)
    ∙ append-nil (numbers_of (by_seat seat) n added))))

-- and so are its deeds
own_deeds_in : (seat : ℕ) (rest added more : List Deed) → rest ≡ added ++ more → ByOthers actor_of (seat ∷ []) more
    → deeds_of (by_seat seat) added ≡ deeds_of (by_seat seat) rest
own_deeds_in seat rest added more is others = sym (ap (deeds_of (by_seat seat)) is
    ∙ (deeds_append (by_seat seat) added more
    ∙ (ap (λ (l : List Deed). deeds_of (by_seat seat) added ++ l) (deeds_others seat more others)
    ∙ append-nil (deeds_of (by_seat seat) added))))

asked_in : (fits : Call → Type 0) (seat : ℕ) (rest added more : List Deed) → rest ≡ added ++ more → Asks fits seat added
    → ByOthers actor_of (seat ∷ []) more → Asks fits seat rest
asked_in fits seat rest added more is asks others = subst (λ (l : List Deed). Asks fits seat l) (sym is)
    (each_append (λ e. e.actor ≡ seat → fits e.call) added more asks (asks_others fits seat more others))

-- a call that is no commit makes none
pub quiet_deed : (c : Call) (what : Result Reply Refusal) → commits_of c ≡ 0 → nat_lt 0 (commits what c) ≡ true → ⊥
quiet_deed c (Ok r) none h = let clash : false ≡ true = subst (λ (n : ℕ). nat_lt 0 n ≡ true) none h in cc
quiet_deed c (Err why) none h = let clash : false ≡ true = h in cc

-- both tests, one of them, or neither
split_one : (s : Seats) (reads : Call → Type 0) → ((c : Call) → reads c → commits_of c ≡ 0) → (e : Deed) → Apart s
    → (a b c : Bool) → by_seat s.script e ≡ a → by_seat s.recorder e ≡ b → by_seat s.player e ≡ c
    → (a || (b || c)) ≡ true → (e.actor ≡ s.player → reads e.call) → is_commit e ≡ true → one_if a + one_if b ≡ 1
split_one s reads quiet e apart true true c x y z any asks commit =
    absurd (apart.script_recorder (same_seat s.script e.actor x ∙ sym (same_seat s.recorder e.actor y)))
split_one s reads quiet e apart true false c x y z any asks commit = refl
split_one s reads quiet e apart false true c x y z any asks commit = refl
split_one s reads quiet e apart false false true x y z any asks commit =
    absurd (quiet_deed e.call e.what (quiet e.call (asks (sym (same_seat s.player e.actor z)))) commit)
split_one s reads quiet e apart false false false x y z any asks commit = cc

splits : (s : Seats) (reads : Call → Type 0) → ((c : Call) → reads c → commits_of c ≡ 0) → (es : List Deed) → Apart s
    → Each (λ e. is_by s e ≡ true) es → Asks reads s.player es → SplitsIn (by_seat s.script) (by_seat s.recorder) es
splits s reads quiet [] apart any asks = tt
splits s reads quiet (e ∷ es) apart any asks = (
  (λ commit. split_one s reads quiet e apart (by_seat s.script e) (by_seat s.recorder e)
      (by_seat s.player e) refl refl refl
      any.0 asks.0 commit),
  splits s reads quiet es apart any.1 asks.1,
)

-- of the deeds that neither of two later seats made, each is by the first
only_first : (s : Seats) (e : Deed) → e.actor < s.recorder → e.actor < s.player → (a b c : Bool)
    → by_seat s.script e ≡ a
    → by_seat s.recorder e ≡ b → by_seat s.player e ≡ c → (a || (b || c)) ≡ true → a ≡ true
only_first s e low low' true b c x y z any = refl
only_first s e low low' false true c x y z any =
    let is = same_seat s.recorder e.actor y in absurd (omega (arith, low, is))
only_first s e low low' false false true x y z any =
    let is = same_seat s.player e.actor z in absurd (omega (arith, low', is))
only_first s e low low' false false false x y z any = cc

all_first : (s : Seats) (es : List Deed) → Each (λ e. e.actor < s.recorder) es → Each (λ e. e.actor < s.player) es
    → Each (λ e. is_by s e ≡ true) es → Each (λ e. by_seat s.script e ≡ true) es
all_first s [] low low' any = tt
all_first s (e ∷ es) low low' any = (
  only_first s e low.0 low'.0 (by_seat s.script e) (by_seat s.recorder e) (by_seat s.player e) refl refl refl any.0,
  all_first s es low.1 low'.1 any.1,
)

-- the numbers of deeds that are all of a kind
pub all_numbers : (kind : Deed → Bool) (n : ℕ) (es : List Deed) → Each (λ e. kind e ≡ true) es
    → numbers_of kind n es ≡ numbers_of any_seat n es
all_numbers kind n [] h = refl
all_numbers kind n (e ∷ es) h =
    (λ i. numbers_if (h.0 i) (deeds.made e) n ++ all_numbers kind (raised_by e n) es h.1 i)

module _ {D V : Type 0} {disk : Ghosts D} {pieces reads : Call → Type 0} {x : Parted D V disk}
    (h : Rejoined pieces reads x) (own : x.seat.mine ≡ places_of (by_seat x.seat.number) 0 x.seat.seen)
    (counts : (k : ℕ) → times k x.joined.mine ≡ once_below k (length x.joined.seen)) where
  abbrev pub seats : Seats
  seats = record { script = x.seat.number; recorder = x.recorder.number; player = x.player.number }

  pub apart : Apart seats
  apart = record {
    script_recorder = below_not x.seat.number x.recorder.number h.by_recorder.above;
    script_player = below_not x.seat.number x.player.number h.by_player.above;
    recorder_player = below_not x.recorder.number x.player.number h.apart;
  }

  abbrev parts : Parts seats x.joined.seen
  parts = record {
    script = x.script.seen;
    more_script = h.more_script;
    script_is = h.script_is;
    recorder = x.recorder.seen;
    more_recorder = h.more_recorder;
    recorder_is = h.recorder_is;
    player = x.player.seen;
    more_player = h.more_player;
    player_is = h.player_is;
    mine = x.joined.mine;
    mine_is = h.mine ∙ (λ i. (h.script_mine own i ++ h.by_player.mine i) ++ h.by_recorder.mine i);
    counts = counts;
  }

  pub made : Made seats x.joined.seen parts
  made = parts_made seats x.joined.seen parts apart

  abbrev pub rest : List Deed
  rest = h.by_script.added ++ h.more_script

  behind : (a b c d : List Deed) → a ≡ b ++ c → x.joined.seen ≡ a ++ d → x.joined.seen ≡ b ++ (c ++ d)
  behind a b c d is is2 = is2 ∙ (ap (λ (l : List Deed). l ++ d) is ∙ append_assoc b c d)

  pub whole : x.joined.seen ≡ x.seat.seen ++ rest
  whole = behind x.script.seen x.seat.seen h.by_script.added h.more_script h.by_script.seen h.script_is

  recorder_rest : rest ≡ h.by_recorder.part.added ++ h.more_recorder
  recorder_rest = same_rest x.seat.seen rest (h.by_recorder.part.added ++ h.more_recorder) (sym whole
      ∙ behind x.recorder.seen x.seat.seen h.by_recorder.part.added h.more_recorder h.by_recorder.part.seen
      h.recorder_is)

  player_rest : rest ≡ h.by_player.part.added ++ h.more_player
  player_rest = same_rest x.seat.seen rest (h.by_player.part.added ++ h.more_player) (sym whole
      ∙ behind x.player.seen x.seat.seen h.by_player.part.added h.more_player h.by_player.part.seen h.player_is)

  -- each deed after the opening is by one of the seats
  pub all_rest : Each (λ e. is_by seats e ≡ true) rest
  all_rest = Each-right (λ e. is_by seats e ≡ true) x.seat.seen rest
      (subst (λ (l : List Deed). Each (λ e. is_by seats e ≡ true) l) whole made.all)

  -- and each of the opening by the first
  pub all_opening : Each (λ e. by_seat x.seat.number e ≡ true) x.seat.seen
  all_opening = all_first seats x.seat.seen h.by_recorder.unseen h.by_player.unseen
      (Each-left (λ e. is_by seats e ≡ true) x.seat.seen rest
      (subst (λ (l : List Deed). Each (λ e. is_by seats e ≡ true) l) whole made.all))

  pub asks_lines : Asks IsOfScript x.seat.number rest
  asks_lines = asked_in IsOfScript x.seat.number rest h.by_script.added h.more_script refl
      (subst (λ (n : ℕ). Asks IsOfScript n h.by_script.added) h.script_number h.by_script.asks) made.script

  pub asks_pieces : Asks pieces x.recorder.number rest
  asks_pieces = asked_in pieces x.recorder.number rest h.by_recorder.part.added h.more_recorder recorder_rest
      h.by_recorder.part.asks made.recorder

  pub asks_reads : Asks reads x.player.number rest
  asks_reads = asked_in reads x.player.number rest h.by_player.part.added h.more_player player_rest
      h.by_player.part.asks made.player

  pub script_deeds : deeds_of (by_seat x.seat.number) h.by_script.added ≡ deeds_of (by_seat x.seat.number) rest
  script_deeds = own_deeds_in x.seat.number rest h.by_script.added h.more_script refl made.script

  pub recorder_deeds : deeds_of (by_seat x.recorder.number) h.by_recorder.part.added
      ≡ deeds_of (by_seat x.recorder.number) rest
  recorder_deeds = own_deeds_in x.recorder.number rest h.by_recorder.part.added h.more_recorder recorder_rest
      made.recorder

  pub player_deeds : deeds_of (by_seat x.player.number) h.by_player.part.added
      ≡ deeds_of (by_seat x.player.number) rest
  player_deeds = own_deeds_in x.player.number rest h.by_player.part.added h.more_player player_rest made.player

  pub script_numbers : (n : ℕ)
      → numbers_of (by_seat x.seat.number) n h.by_script.added ≡ numbers_of (by_seat x.seat.number) n rest
  script_numbers n = own_numbers x.seat.number n rest h.by_script.added h.more_script refl made.script

  pub recorder_numbers : (n : ℕ) → numbers_of (by_seat x.recorder.number) n h.by_recorder.part.added
      ≡ numbers_of (by_seat x.recorder.number) n rest
  recorder_numbers n = own_numbers x.recorder.number n rest h.by_recorder.part.added h.more_recorder recorder_rest
      made.recorder

  pub merged : (first : ℕ) → ((c : Call) → reads c → commits_of c ≡ 0)
      → Merged first x.joined.seen record { script = x.seat.number; recorder = x.recorder.number } record {
        opening = numbers_of any_seat first x.seat.seen;
        script = numbers_of (by_seat x.seat.number) (number_after first x.seat.seen) h.by_script.added;
        pieces = numbers_of (by_seat x.recorder.number) (number_after first x.seat.seen) h.by_recorder.part.added;
      }
  merged first quiet = record {
    opening = x.seat.seen;
    rest = rest;
    split = whole;
    kinds = splits seats reads quiet rest apart all_rest asks_reads;
    opening_is = refl;
    script_is = script_numbers (number_after first x.seat.seen);
    pieces_is = recorder_numbers (number_after first x.seat.seen);
  }
