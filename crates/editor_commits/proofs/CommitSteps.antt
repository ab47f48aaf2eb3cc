-- A commit whose records were added: then the studio has another history.
use Rattle.editor_commits.proofs.Common.{rules, ◌≡◌, inl, inr, refl, sym, ap, ◌∙◌, subst, ℕ, suc, ◌+◌, ◌-◌, ◌^◌, ◌≤◌}
use Rattle.editor_commits.proofs.Common.{◌<◌, IsTrue, List, ◌++◌, Option, None, IsSome, Ok, arith, AllByRecursion}
use Rattle.editor_commits.proofs.Common.{layouts_of, Done, BlockRef, Call, SoundMove, History, Outside, call_tests}
use Rattle.editor_commits.proofs.Common.{followed, outside, after, Ghosts, changed_wider, IsWhole, Counts, Item, IsAt}
use Rattle.editor_commits.proofs.Common.{with_bodies, Saved, LeadIn, version_of, after_bodies, unnumbered_body, Track}
use Rattle.editor_commits.proofs.Common.{meant_history, unnumbered_history, IsDurable, IsHeld, IsStudio, clip_cells}
use Rattle.editor_commits.proofs.Common.{named_blocks, studio_by, studio_of, AddsBody, Writing, all_bytes, all_len}
use Rattle.editor_commits.proofs.Common.{Core, form_at, Says, packed_by, Took, with_sound, NoneGoes, others_record}
use Rattle.editor_commits.proofs.Common.{TookWhere, took_so, commit_leaves_journal, commit_removes_none, HasMade}
use Rattle.editor_commits.proofs.Common.{record_within, stopped_not, sources_elsewhere}
use Rattle.pcm_base.specs.Counters.{MayDraw, record_bytes}
use Rattle.editor_commits.proofs.CommitImages.{IsCommit, IsTested, flight, images_still, matches, passes, whole_still}
use Rattle.editor_commits.proofs.CommitStudios.{CountsAfter, LeadsOn, led_studio, named_led}
use Rattle.editor_state.proofs.Images.JournalLeads.{begins_more, lead_all}
use Rattle.editor_state.proofs.Calls.FileRemovals.{ids_still, none_given}
use Rattle.editor_state.proofs.{Images.ImageProjects.keeps_now, Refusals.PurgeNumbers.done_purges}
use Rattle.editor_state.proofs.{Refusals.CommitTests.commit_bytes}
use Rattle.pcm_base.specs.Studio as model
use Rattle.layout_uses.specs.Tallies.{Uses}

module _ {D : Type 0} {Has : Type 0} {disk : Ghosts D} {s : Core D} {made : List BlockRef} {c : Call}
    {sound : SoundMove} {tracks : ℕ} {w : Writing} {h : History (List Track)} {clip : Option (List (List Item))}
    {track_then : ℕ} (t : IsTested Has disk s made c sound tracks w h clip track_then) where
  abbrev before : model.Studio
  before = studio_of disk s

  abbrev out : Outside
  out = outside before sound

  abbrev len : ℕ
  len = all_len s w

  on : LeadsOn s made h clip track_then (suc w.more)
  on = search rules

  module _ {Q : Type 0} (q : Q) (mid : Core D) (adds : AddsBody disk s w (Ok q) mid)
      (h' : History (List Track)) (uses : Uses) (counts : Counts) (next_track next_layout : ℕ) (moved : h' ≡ h)
      (tracked : next_track ≡ track_then) (counted : CountsAfter s.pins h clip next_layout s.counts uses counts) where
    abbrev pub grown : Core D
    grown = record s {
      store = mid.store;
      journal_end = s.journal_end + 5 + len;
      commit_number = s.commit_number + suc w.more;
      history = h';
      clipboard = clip;
      uses = uses;
      counts = counts;
      next_track = next_track;
      next_layout = next_layout;
    }

    end_then : s.journal_end + 5 + len ≤ 2 ^ 62
    end_then = omega (arith, adds.fields.1)

    grown_named : (P : BlockRef → Type 0) → AllByRecursion P (named_blocks s ++ made)
        → AllByRecursion P (named_blocks grown)
    grown_named =
        named_led disk s t.is made h clip track_then on mid.store
        (s.journal_end + 5 + len) end_then (omega arith) h' uses counts next_track next_layout moved tracked counted

    grown_end : mid.journal_end ≡ s.journal_end + 5 + len
    grown_end = ap (λ (z : Core D). z.journal_end) adds.fields.0

    grown_durable : Has → IsDurable disk grown
    grown_durable has =
        let d = (t.holds has).durable t.going in
        let m = d.log.block_size in
        let k : Saved = record d.kept {
          history = unnumbered_history h;
          next_block = t.move.block_then d.kept.next_block;
          next_track = track_then;
          commit = d.kept.commit + suc w.more;
        } in
        let log = with_bodies d.log (all_bytes s w) in
        let version = version_of (form_at s) in
        let led =
        lead_all version m d.base d.kept (after_bodies d.kept w.more (unnumbered_body w.body)) d.log.bodies
        (all_bytes s w) d.told (t.move.tells m d.kept (matches t d) t.number) in
        let reads = disk.reads s.store in record {
          log = log;
          base = d.base;
          kept = k;
          there =
              subst (λ (n : ℕ). IsAt (form_at s) disk mid.store n log) grown_end
              (adds.done d.log (t.holds has).tells d.there);
          generation = d.generation;
          begins = begins_more d.log (all_bytes s w) d.base d.begins;
          told = subst (λ (z : Saved). LeadIn version m d.base (d.log.bodies ++ all_bytes s w) z)
              (t.move.leads m d.kept (matches t d)) led;
          rate = d.rate;
          block_size = d.block_size;
          history = ap unnumbered_history (sym moved);
          next_block = t.move.block_most d.kept.next_block d.next_block;
          next_track = sym tracked;
          commit = ap (λ (n : ℕ). n + suc w.more) d.commit;
          blocks = λ x now.
              grown_named (λ b. x b.id ≡ disk.reads mid.store b.id) (images_still t (Ok q) mid adds has x now);
          files = λ id least most.
              let was = d.files id least most in
              let same : disk.reads mid.store id ≡ reads id =
              adds.changed.reads (t.holds has).tells id (λ e. absurd (omega (arith, e, least, t.is.journal.among))) in (
                λ have. subst IsSome (sym same) (was.0 ((counted.files id).0 have)),
                λ there. (counted.files id).1 (was.1 (subst IsSome same there)),
              );
        }

    grown_held : Has → IsHeld disk grown
    grown_held has = record {
      tells = subst IsTrue (sym adds.changed.tells) (t.holds has).tells;
      whole = grown_named (IsWhole (disk.reads mid.store)) (whole_still t (Ok q) mid adds has);
      durable = λ still. grown_durable has;
    }

    grown_studio : IsStudio disk grown
    grown_studio =
        led_studio disk s t.is made h clip track_then on mid.store
        (s.journal_end + 5 + len) end_then (omega arith) h' uses counts next_track next_layout moved tracked counted

    pub grown_state : Has → studio_of disk grown ≡ followed out before c 0 len next_layout
    grown_state has =
        let src =
        sources_elsewhere s.file (disk.reads s.store) (disk.reads mid.store) t.is.journal.among
        (adds.changed.reads (t.holds has).tells) in
        let state : (studio_of disk grown).state ≡ after out before.state c =
        (λ i. record (studio_by (src i) disk s).state {
          history = meant_history (src i) (moved i);
          clipboard = clip_cells (src i) clip;
          next_track = tracked i;
          commit = s.commit_number + suc w.more;
        }) ∙ sym (t.move.model has) in
        let none : s.next_block ≡ s.next_block + 0 = omega arith in
        let end : s.journal_end + 5 + len ≡ s.journal_end + record_bytes c len =
        omega (arith, commit_bytes c len t.move.call.many) in
        λ i. record before {
          state = state i;
          next_block = none i;
          journal_end = end i;
          next_layout = next_layout;
          read_faults = adds.read_faults i;
          change_faults = adds.fields.2 i;
        }

    pub grows : MayDraw out before c next_layout → TookWhere Has disk s c sound (Ok Done) grown
    grows draws = record {
      studio = grown_studio;
      held = grown_held;
      step = λ has. record {
        blocks = 0;
        len = len;
        layout = next_layout;
        needs = t.move.needs has len (inr refl);
        passed = passes t adds.fields.1 adds.fields.3;
        draws = draws;
        answers = t.move.call.done before.rate before.state;
        is = grown_state has;
        heard = t.move.call.heard before.rate before.state;
      };
      any_moment = λ _ has. flight t (Ok q) mid adds has adds.fields.1 adds.fields.3;
      refused = λ _ has still. tt;
      now = λ still has. keeps_now disk grown grown_studio.journal.among still (grown_held has);
      number = ap (λ (k : ℕ). s.commit_number + k) (sym t.move.call.many);
      rests = λ some. absurd (stopped_not s.stopped some t.going);
      len = len;
      needs = λ has. (0, t.move.needs has len (inr refl));
      records = inr (
        w,
        refl,
        subst (λ (k : ℕ). Says s.next_block k h' w.body) (sym tracked)
            (subst (λ (z : History (List Track)). Says s.next_block track_then z w.body) (sym moved) t.move.says),
      );
      purges = done_purges s.history c;
      changed =
          changed_wider (others_record s.file s.next_block s.next_block NoneGoes t.is.journal.among)
          (record_within (with_sound c sound (Ok Done)) (disk.reads s.store s.file) s.block_size
          (s.next_block - s.next_block) len (packed_by s c) t.move.call.many) adds.changed;
    }

-- ---- of a studio that the disk holds
module _ {D : Type 0} (disk : Ghosts D) (s : Core D) (made : List BlockRef) (c : Call) (sound : SoundMove) (tracks : ℕ)
    (w : Writing) (h : History (List Track)) (clip : Option (List (List Item))) (track_then : ℕ) (is : IsStudio disk s)
    (has_made : HasMade (IsHeld disk s) disk s made)
    (move : IsCommit (IsHeld disk s) disk s made c sound tracks w h clip track_then)
    (going : s.stopped ≡ None) (own : call_tests (outside (studio_of disk s) sound) (studio_of disk s).state c ≡ None)
    (ids : s.next_track + tracks ≤ 2 ^ 62) (number : s.commit_number + w.more < 2 ^ 62)
    (layouts : s.next_layout + layouts_of (outside (studio_of disk s) sound) (studio_of disk s).state c ≤ 2 ^ 62) where
  tested : IsTested (IsHeld disk s) disk s made c sound tracks w h clip track_then
  tested = search rules

  module _ {Q : Type 0} (q : Q) (mid : Core D) (adds : AddsBody disk s w (Ok q) mid)
      (h' : History (List Track)) (uses : Uses) (counts : Counts) (next_track next_layout : ℕ) (moved : h' ≡ h)
      (tracked : next_track ≡ track_then) (counted : CountsAfter s.pins h clip next_layout s.counts uses counts) where
    abbrev Leaves : Core D → Type 0
    Leaves z =
        Took disk s (with_sound c sound (Ok Done))
        (record z {
          history = h';
          clipboard = clip;
          uses = uses;
          counts = counts;
          next_track = next_track;
          next_layout = next_layout;
        })

    -- the studio that the code leaves
    pub grows_so : MayDraw (outside (studio_of disk s) sound) (studio_of disk s) c next_layout → Leaves mid
    grows_so draws =
        subst Leaves (sym adds.fields.0)
        (took_so disk s c sound (Ok Done)
        (grown tested q mid adds h' uses counts next_track next_layout moved tracked counted)
        (grows tested q mid adds h' uses counts next_track next_layout moved tracked counted draws)
        (commit_removes_none c move.call.many) (commit_leaves_journal c move.call.many)
        (ids_still s
        (grown tested q mid adds h' uses counts next_track next_layout moved tracked counted) counted.files refl)
        (none_given (Ok Done) s
        (grown tested q mid adds h' uses counts next_track next_layout moved tracked counted) refl) tt tt
        (inl (refl, adds.fields.2)) tt)
