-- Undo, redo and purge: their records, and what they leave.
use Rattle.editor_commits.proofs.Common.{rules, ◌≡◌, ◌↔◌, ⊎_elim, refl, sym, ap, ◌∙◌, subst, ℕ, ◌+◌, ◌-◌, ◌^◌, ◌≤◌, ◌<◌}
use Rattle.editor_commits.proofs.Common.{nat_lt, Bool, true, false, List, [], ◌++◌, map, length, IsSome, Option, Some}
use Rattle.editor_commits.proofs.Common.{None, Ok, Err, arith, length-drop, length-map, none-some, same_Some}
use Rattle.editor_commits.proofs.Common.{AllByRecursion, Done, Call, Line, Refusal, LONGEST_BODY, Needs, layouts_of}
use Rattle.editor_commits.proofs.Common.{History, at_cursor, purged, ◌otherwise◌, call_tests, refused_if, outside}
use Rattle.editor_commits.proofs.Common.{stop_of, Ghosts, Fewer, sources_of, Counts, count_of, Item, Undo, Redo, Purge}
use Rattle.editor_commits.proofs.Common.{Body, IsValidTagged, Track, unnumbered, AreDrawn, AreNumbered, history_tracks}
use Rattle.editor_commits.proofs.Common.{Tally, AreCounts, Becomes, MayBecome, IsHeld, IsStudio, clip_blocks}
use Rattle.editor_commits.proofs.Common.{named_blocks, pin_tracks, studio_of, studio_tracks, Adds, AddsBody, IsNoWant}
use Rattle.editor_commits.proofs.Common.{single, Core, Took, quietly, silent, all_left, all_drop, all_each, all_joined}
use Rattle.editor_commits.proofs.Common.{all_so, IsCommitCall, none_made, refuses, Covers, tracks_few, commit_frees}
use Rattle.pcm_base.specs.{Counters.no_room}
use Rattle.project_state.proofs.MeantHistories.{meant_purged}
use Rattle.record_body.proofs.Unnumbered.{purged_alike}
use Rattle.layout_uses.specs.Layouts.{points_tracks}
use Rattle.editor_commits.proofs.CommitImages.{IsCommit, clip_stays}
use Rattle.editor_commits.proofs.{CurrentProject.may_come, CommitStudios.CountsAfter, CommitSteps.grows_so}
use Rattle.editor_state.proofs.Refusals.CommitTests.{tested}
use Rattle.editor_state.proofs.{Refusals.CounterNumbers.tested_needed}
use Rattle.pcm_base.specs.declared.command.Command.TheVariants as command
use Rattle.pcm_base.specs.declared.refusal.Refusal.TheVariants as refusal
use Rattle.layout_uses.specs.{Tallies.Uses, Tallies.uses_of}
use Rattle.row_ledger.specs.Lists.{counts_of}

pub undo_call : IsCommitCall (Line command.Undo) silent 0 0
undo_call = assumption

pub redo_call : IsCommitCall (Line command.Redo) silent 0 0
redo_call = assumption

pub purge_call : (n : ℕ) → IsCommitCall (Line (command.Purge n)) silent 0 0
purge_call n = assumption

module _ {D : Type 0} (disk : Ghosts D) (s : Core D) (is : IsStudio disk s) where
  abbrev Move : Call → Body → History (List Track) → Type 1
  Move c body h = IsCommit (IsHeld disk s) disk s [] c silent 0 (single body) h s.clipboard s.next_track

  same_points : (h : History (List Track)) → h.points ≡ s.history.points → Covers (named_blocks s ++ []) h
  same_points h e P all = search (rules, all_left)

  -- tags that were given stay given
  points_later : AllByRecursion
      (IsValidTagged s.block_size s.next_block s.next_track (s.commit_number + 1)) s.history.points
  points_later = search (rules, all_so)

  pub undoes : 0 < s.history.cursor → Move (Line command.Undo) Undo (at_cursor s.history (s.history.cursor - 1))
  undoes some = record {
    call = undo_call;
    gives = omega arith;
    block_then = λ n. n;
    block_most = λ n h. h;
    tells = λ m k e room. (
      Undo,
      may_come disk s is m k Undo e (omega (arith, room)) tt
          (subst (λ (h : History (List Track)). 0 < h.cursor) (sym e.history) some),
      refl,
    );
    leads = λ m k e. λ i. record k {
      history = at_cursor (e.history i) ((e.history i).cursor - 1);
      next_track = e.next_track i;
      commit = k.commit + 1;
    };
    covers = same_points (at_cursor s.history (s.history.cursor - 1)) refl;
    clip_covers = clip_stays s [];
    clip_few = is.few_clips;
    clip_fits = is.clipboard;
    points = points_later;
    depth = refl;
    few = is.few_points;
    says = tt;
    model = λ held. refl;
    needs = λ held n one. (refl, ⊎_elim (λ e. e) (λ e. e) one);
  }

  pub redoes : s.history.cursor + 1 < length s.history.points
      → Move (Line command.Redo) Redo (at_cursor s.history (s.history.cursor + 1))
  redoes some = record {
    call = redo_call;
    gives = omega arith;
    block_then = λ n. n;
    block_most = λ n h. h;
    tells = λ m k e room. (
      Redo,
      may_come disk s is m k Redo e (omega (arith, room)) tt
          (subst (λ (h : History (List Track)). h.cursor + 1 < length h.points) (sym e.history) (omega (
            arith,
            some,
            length-map {B = List Track × ℕ} s.history.points (λ p. (map unnumbered p.0, p.1)),
          ))),
      refl,
    );
    leads = λ m k e. λ i. record k {
      history = at_cursor (e.history i) ((e.history i).cursor + 1);
      next_track = e.next_track i;
      commit = k.commit + 1;
    };
    covers = same_points (at_cursor s.history (s.history.cursor + 1)) refl;
    clip_covers = clip_stays s [];
    clip_few = is.few_clips;
    clip_fits = is.clipboard;
    points = points_later;
    depth = refl;
    few = is.few_points;
    says = tt;
    model = λ held. refl;
    needs = λ held n one. (refl, ⊎_elim (λ e. e) (λ e. e) one);
  }

  purge_covers : (n : ℕ) → Covers (named_blocks s ++ []) (purged s.history n)
  purge_covers n P all = search (rules, all_left, all_each, all_joined, all_drop)

  pub purges : (n : ℕ) → 1 ≤ n → n ≤ s.history.cursor → n < 2 ^ 64
      → Move (Line (command.Purge n)) (Purge n) (purged s.history n)
  purges n some few small = record {
    call = purge_call n;
    gives = omega arith;
    block_then = λ n. n;
    block_most = λ n h. h;
    tells = λ m k e room. (
      Purge n,
      may_come disk s is m k (Purge n) e (omega (arith, room)) small
          (subst (λ (h : History (List Track)). (1 ≤ n) × (n ≤ h.cursor)) (sym e.history) (some, few)),
      refl,
    );
    leads =
        λ m k e. λ i. record k {
          history = (ap (λ (h : History (List Track)). purged h n) e.history ∙ sym (purged_alike s.history n)) i;
          next_track = e.next_track i;
          commit = k.commit + 1;
        };
    covers = purge_covers n;
    clip_covers = clip_stays s [];
    clip_few = is.few_clips;
    clip_fits = is.clipboard;
    points = all_drop
        (IsValidTagged s.block_size s.next_block s.next_track (s.commit_number + 1)) n s.history.points points_later;
    depth = refl;
    few = omega (arith, is.few_points, length-drop n s.history.points);
    says = tt;
    model = λ held.
        let means = meant_purged (sources_of (disk.reads s.store)) s.history n in
        λ i. record (studio_of disk s).state { history = sym means i; commit = s.commit_number + 1 };
    needs = λ held n one. (refl, ⊎_elim (λ e. e) (λ e. e) one);
  }

  -- what a move leaves, where its record was added
  pub moves : (c : Call) (body : Body) (h : History (List Track)) (mid : Core D) (h' : History (List Track))
      (uses : Uses) (counts : Counts) → Move c body h
      → s.stopped ≡ None → call_tests (outside (studio_of disk s) silent) (studio_of disk s).state c ≡ None
      → layouts_of (outside (studio_of disk s) silent) (studio_of disk s).state c ≡ 0
      → s.commit_number < 2 ^ 62
      → AddsBody disk s (single body) (Ok (tt {0})) mid → h' ≡ h
      → CountsAfter s.pins h s.clipboard s.next_layout s.counts uses counts
      → Took disk s (quietly c (Ok Done)) (record mid { history = h'; uses = uses; counts = counts })
  moves c body h mid h' uses counts move going own still number adds is-h after =
      let clip = ap (λ (z : Core D). z.clipboard) adds.fields.0 in
      let took = grows_so disk s [] c silent 0 (single body) h s.clipboard s.next_track is (none_made disk s) move going own
      (omega (arith, is.counters.track_most)) (omega (arith, number)) (omega (arith, is.layouts, still))
      (tt {0}) mid adds
      h' uses counts mid.next_track s.next_layout is-h (ap (λ (z : Core D). z.next_track) adds.fields.0) after
      (omega arith, omega arith) in
      let layout = ap (λ (z : Core D). z.next_layout) adds.fields.0 in
      subst (λ (z : Option (List (List Item)) × ℕ). Took disk s (quietly c (Ok Done)) (record mid {
        history = h';
        clipboard = z.0;
        uses = uses;
        counts = counts;
        next_layout = z.1;
      })) (λ i. (sym clip i, sym layout i)) took

  -- where the points stay
  pub moved : (c : Call) (body : Body) (h : History (List Track)) (mid : Core D) (h' : History (List Track))
      → Move c body h → h.points ≡ s.history.points
      → s.stopped ≡ None → call_tests (outside (studio_of disk s) silent) (studio_of disk s).state c ≡ None
      → layouts_of (outside (studio_of disk s) silent) (studio_of disk s).state c ≡ 0
      → s.commit_number < 2 ^ 62
      → AddsBody disk s (single body) (Ok (tt {0})) mid → h' ≡ h
      → Took disk s (quietly c (Ok Done)) (record mid { history = h' })
  moved c body h mid h' move points going own still number adds is-h =
      let fields = adds.fields.0 in
      let uses : mid.uses ≡ s.uses = ap (λ (z : Core D). z.uses) fields in
      let counts : mid.counts ≡ s.counts = ap (λ (z : Core D). z.counts) fields in
      let tracks : history_tracks s.history ≡ history_tracks h =
      ap (λ (ps : List (List Track × ℕ)). points_tracks (map (λ (p : List Track × ℕ). p.0) ps)) (sym points) in
      moves c body h mid h' mid.uses mid.counts move going own still number adds is-h (record {
        layouts = is.layouts;
        numbered = subst (λ (ts : List Track). AreNumbered (ts ++ pin_tracks s.pins)) tracks is.numbered;
        drawn = subst (λ (ts : List Track). AreDrawn s.next_layout (ts ++ pin_tracks s.pins)) tracks is.drawn;
        counted = subst (λ (ts : List Track).
            AreCounts (ts ++ pin_tracks s.pins) (clip_blocks s.clipboard) mid.uses mid.counts) tracks
            (subst (λ (u : Uses). AreCounts (studio_tracks s) (clip_blocks s.clipboard) u mid.counts) (sym uses)
            (subst (λ (z : Counts). AreCounts (studio_tracks s) (clip_blocks s.clipboard) s.uses z) (sym counts)
            is.counted));
        files = λ id. (
          λ t. subst (λ (z : Counts). IsSome (z id)) counts t,
          λ t. subst (λ (z : Counts). IsSome (z id)) (sym counts) t,
        );
      })

  -- what is counted may be counted without the oldest points
  pub may_purge : (tally : Tally) → uses_of tally ≡ s.uses → counts_of tally.ledger ≡ s.counts
      → MayBecome [] (history_tracks s.history) tally
  may_purge tally uses_are counts_are = record {
    others = pin_tracks s.pins;
    blocks = clip_blocks s.clipboard;
    numbered = is.numbered;
    few = omega (arith, tracks_few disk s is);
    counted = subst (λ (u : Uses). AreCounts (studio_tracks s) (clip_blocks s.clipboard) u (counts_of tally.ledger))
        (sym uses_are)
        (subst (λ (z : Counts). AreCounts (studio_tracks s) (clip_blocks s.clipboard) s.uses z) (sym counts_are)
        is.counted);
  }

  -- the counts after a purge
  pub purged_counts : (n : ℕ) (tally tally' : Tally) → uses_of tally ≡ s.uses → counts_of tally.ledger ≡ s.counts
      → Becomes [] (history_tracks s.history) (history_tracks (purged s.history n)) tally tally'
      → CountsAfter s.pins (purged s.history n) s.clipboard s.next_layout s.counts (uses_of tally')
      (counts_of tally'.ledger)
  unfolding may_purge
  purged_counts n tally tally' uses_are counts_are becomes =
      let may = may_purge tally uses_are counts_are in record {
        layouts = is.layouts;
        numbered = becomes.numbered (pin_tracks s.pins) is.numbered;
        drawn = becomes.drawn s.next_layout (pin_tracks s.pins) is.drawn;
        counted = becomes.counted (pin_tracks s.pins) (clip_blocks s.clipboard) is.numbered may.few may.counted;
        files = λ id. subst (λ (z : Counts). IsSome (counts_of tally'.ledger id) ↔ IsSome (z id)) counts_are
            (becomes.ids id);
      }

-- a commit without new blocks that a test refuses
pub tested_out : {D : Type 0} (disk : Ghosts D) (s : Core D) (c : Call) (tracks len : ℕ) (own : Option Refusal)
    (why : Refusal) → IsStudio disk s → Fewer disk s.store
    → IsCommitCall c silent tracks 0 → len ≤ LONGEST_BODY
    → (IsHeld disk s → Needs (outside (studio_of disk s) silent) (studio_of disk s) c 0 len)
    → own ≡ call_tests (outside (studio_of disk s) silent) (studio_of disk s).state c
    → (stop_of s.stopped) otherwise own otherwise (no_room s.next_track tracks) otherwise (no_room s.commit_number 1)
    ≡ Some why → Took disk s (quietly c (Err why)) s
tested_out disk s c tracks len own why is fewer call short needs is_own h =
    let by = ap (λ (o : Option Refusal). (stop_of s.stopped) otherwise o otherwise
    (no_room s.next_track tracks) otherwise (no_room s.commit_number 1)) (sym is_own) ∙ h in
    refuses disk s c silent why is fewer (commit_frees disk s c (Err why) s call.many) refl len (λ off. short) 0 needs
    (tested (studio_of disk s) c silent tracks call 0 len is.counters.pin_most is.journal.generation_most why
    (omega (arith, is.counters.block_most)) by) (tested_needed disk s c silent tracks call own is_own why h)

-- it is not for want of memory, where the own tests' refusal is not
pub no_want : (stopped : Option ℕ) (own : Option Refusal) (track tracks number : ℕ) (why : Refusal)
    → ((r : Refusal) → own ≡ Some r → IsNoWant r)
    → (stop_of stopped) otherwise own otherwise (no_room track tracks) otherwise (no_room number 1) ≡ Some why
    → IsNoWant why
no_want (Some n) own track tracks number why h e = subst IsNoWant (same_Some (refusal.Stopped n) why e) tt
no_want None (Some r) track tracks number why h e = subst IsNoWant (same_Some r why e) (h r refl)
no_want None None track tracks number why h e = search (rules, nat_lt, same_Some, none-some)

-- a test that refuses for another reason
pub other_reason : (b : Bool) (r : Refusal) → IsNoWant r → (o : Refusal) → refused_if b r ≡ Some o → IsNoWant o
other_reason true r is o e = subst IsNoWant (same_Some r o e) is
other_reason false r is o e = absurd (none-some o e)

-- it is a range that is refused by the own tests alone
pub own_range : (stopped : Option ℕ) (own : Option Refusal) (track tracks number : ℕ) (why : Refusal)
    → (stop_of stopped) otherwise own otherwise (no_room track tracks) otherwise (no_room number 1) ≡ Some why
    → why ≡ refusal.BadRange → own ≡ Some refusal.BadRange
own_range (Some n) own track tracks number why e is = search (rules, same_Some)
own_range None (Some r) track tracks number why e is = e ∙ ap Some is
own_range None None track tracks number why e is = search (rules, nat_lt, same_Some, none-some)

-- the journal refuses no range
pub added_range : {D R : Type 0} (disk : Ghosts D) (old new : Core D) (bodies : List (List ℕ)) (count whole : ℕ)
    (why : Refusal) → Adds {R = R} disk old bodies count whole (Err why) new → why ≡ refusal.BadRange → ⊥
added_range {D} {R} disk old new bodies count whole why adds is = search rules
