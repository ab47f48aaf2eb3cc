-- A commit: the call, what it writes, and what it leads to; and what an image has while its records are added.
use Rattle.editor_commits.proofs.Common.{rules, ◌≡◌, inl, inr, ⊎_elim, refl, sym, ◌∙◌, subst, ℕ, suc, ◌+◌, ◌^◌, ◌≤◌}
use Rattle.editor_commits.proofs.Common.{◌<◌, List, ◌++◌, length, Option, None, Result, arith, AllByRecursion}
use Rattle.editor_commits.proofs.Common.{CarriesOut, followed, outside, Done, BlockRef, Call, SoundMove, Refusal, Needs}
use Rattle.editor_commits.proofs.Common.{layouts_of, History, Outside, call_tests, LONGEST_BODY, after, Ghosts}
use Rattle.editor_commits.proofs.Common.{sources_of, AllWhole, Item, EachSince, meant_history, history_blocks}
use Rattle.editor_commits.proofs.Common.{Track, unnumbered_history, Saved, LeadIn, version_of, after_bodies}
use Rattle.editor_commits.proofs.Common.{IsValidTagged, unnumbered_body, all_append, IsLength, Writing, all_bytes}
use Rattle.editor_commits.proofs.Common.{all_len, IsGiven, IsDurable, IsHeld, IsStudio, MayPaste, clip_blocks}
use Rattle.editor_commits.proofs.Common.{clip_cells, named_blocks, studio_of, AddsBody, Core, form_at, Says, KeepsOneOf}
use Rattle.editor_commits.proofs.Common.{Covers, all_left, all_right, IsCommitCall, HasMade}
use Rattle.pcm_base.specs.Run.{refusal_of}
use Rattle.disk_model.specs.{MomentLaws.upto_refl}
use Rattle.project_journal.specs.Gate.{EachNow}
use Rattle.record_body.specs.Saved.{Keeps}
use Rattle.record_body.proofs.{Unnumbered.history_blocks_alike, Unnumbered.history_meant_alike}
use Rattle.editor_state.specs.Studios.{SameBlocks, shown}
use Rattle.editor_state.proofs.Images.ImageProjects.{opened_by, form_few, one_of, same_since, shown_is, covers_kept}
use Rattle.editor_state.proofs.{Lists.all_both, Blocks.BlockSounds.blocks_same, Blocks.BlockSounds.all_whole}
use Rattle.editor_state.proofs.{Refusals.CommitTests.nothing}
use Rattle.pcm_base.specs.Studio as model

-- the studio's numbers and history are those of the records
pub record Matches {D : Type 0} (s : Core D) (m : ℕ) (k : Saved) : Type 0 where
  pub block_size : m ≡ s.block_size
  pub history : k.history ≡ unnumbered_history s.history
  pub next_block : k.next_block ≤ s.next_block
  pub next_track : k.next_track ≡ s.next_track
  pub commit : k.commit ≡ s.commit_number

-- A call that writes this, and leads from the studio's history, clipboard and next track to these; they name no blocks
-- but those that the studio names and those that were made for it. What is said by samples is so where `Has`.
pub record IsCommit {D : Type 0} (Has : Type 0) (disk : Ghosts D) (s : Core D) (made : List BlockRef) (c : Call)
    (sound : SoundMove) (tracks : ℕ) (w : Writing) (h : History (List Track)) (clip : Option (List (List Item)))
    (track_then : ℕ) : Type 1 where
  pub call : IsCommitCall c sound tracks w.more
  pub gives : track_then ≡ s.next_track + tracks
  -- what the records say of the next block
  pub block_then : ℕ → ℕ
  pub block_most : (n : ℕ) → n ≤ s.next_block → block_then n ≤ s.next_block
  pub tells : (m : ℕ) (k : Saved) → Matches s m k → s.commit_number + w.more < 2 ^ 62
      → LeadIn (version_of (form_at s)) m k (all_bytes s w) (after_bodies k w.more (unnumbered_body w.body))
  pub leads : (m : ℕ) (k : Saved) → Matches s m k → after_bodies k w.more (unnumbered_body w.body) ≡ record k {
    history = unnumbered_history h;
    next_block = block_then k.next_block;
    next_track = track_then;
    commit = k.commit + suc w.more;
  }
  pub covers : Covers (named_blocks s ++ made) h
  pub clip_covers : (P : BlockRef → Type 0) → AllByRecursion P (named_blocks s ++ made)
      → AllByRecursion P (clip_blocks clip)
  pub clip_few : length (clip_blocks clip) ≤ 2 ^ 71
  pub clip_fits : MayPaste s.block_size clip
  pub points : AllByRecursion (IsValidTagged s.block_size s.next_block track_then (s.commit_number + suc w.more)) h.points
  pub depth : h.depth ≡ s.history.depth
  pub few : length h.points ≤ h.depth
  pub says : Says s.next_block track_then h w.body
  pub model : Has → after (outside (studio_of disk s) sound) (studio_of disk s).state c
      ≡ record (studio_of disk s).state {
        history = meant_history (sources_of (disk.reads s.store)) h;
        clipboard = clip_cells (sources_of (disk.reads s.store)) clip;
        next_track = track_then;
        commit = s.commit_number + suc w.more;
      }
  pub needs : Has → (n : ℕ) → IsLength s w n → Needs (outside (studio_of disk s) sound) (studio_of disk s) c 0 n

-- the clipboard that stays names no other blocks
pub clip_stays : {D : Type 0} (s : Core D) (made : List BlockRef) (P : BlockRef → Type 0)
    → AllByRecursion P (named_blocks s ++ made) → AllByRecursion P (clip_blocks s.clipboard)
clip_stays s made P all = search (rules, all_right, all_left)

-- a commit of a studio that no test refused, on a disk that holds it where `Has`
pub record IsTested {D : Type 0} (Has : Type 0) (disk : Ghosts D) (s : Core D) (made : List BlockRef) (c : Call)
    (sound : SoundMove) (tracks : ℕ) (w : Writing) (h : History (List Track)) (clip : Option (List (List Item)))
    (track_then : ℕ) : Type 1 where
  pub is : IsStudio disk s
  pub holds : Has → IsHeld disk s
  pub has_made : HasMade Has disk s made
  pub move : IsCommit Has disk s made c sound tracks w h clip track_then
  pub going : s.stopped ≡ None
  pub own : call_tests (outside (studio_of disk s) sound) (studio_of disk s).state c ≡ None
  pub ids : s.next_track + tracks ≤ 2 ^ 62
  pub number : s.commit_number + w.more < 2 ^ 62
  pub layouts : s.next_layout + layouts_of (outside (studio_of disk s) sound) (studio_of disk s).state c ≤ 2 ^ 62

module _ {D : Type 0} {Has : Type 0} {disk : Ghosts D} {s : Core D} {made : List BlockRef} {c : Call}
    {sound : SoundMove} {tracks : ℕ} {w : Writing} {h : History (List Track)} {clip : Option (List (List Item))}
    {track_then : ℕ} (t : IsTested Has disk s made c sound tracks w h clip track_then) where
  abbrev before : model.Studio
  before = studio_of disk s

  abbrev out : Outside
  out = outside before sound

  abbrev len : ℕ
  len = all_len s w

  -- all blocks that matter
  abbrev every : List BlockRef
  every = named_blocks s ++ made

  pub every_ids : AllByRecursion (λ (b : BlockRef). IsGiven s.next_block b.id) (named_blocks s ++ made)
  every_ids = all_append (λ (b : BlockRef). IsGiven s.next_block b.id) (named_blocks s) made t.is.ids t.has_made.ids

  every_whole : Has → AllWhole (disk.reads s.store) every
  every_whole has = search (rules, all_append)

  every_same : Has → EachNow disk s.store (SameBlocks every (disk.reads s.store))
  every_same has x now =
      all_append (λ b. x b.id ≡ disk.reads s.store b.id) (named_blocks s) made
      (((t.holds has).durable t.going).blocks x now) (t.has_made.same has x now)

  pub matches : (d : IsDurable disk s) → Matches s d.log.block_size d.kept
  matches d = search rules

  covers_before : (d : IsDurable disk s) → Covers every d.kept.history
  covers_before d P all = covers_kept disk s d P (all_left P (named_blocks s) made all)

  covers_after : (d : IsDurable disk s) → Covers every (after_bodies d.kept w.more (unnumbered_body w.body)).history
  covers_after d P all =
      subst (λ (z : Saved). AllByRecursion P (history_blocks z.history))
      (sym (t.move.leads d.log.block_size d.kept (matches d)))
      (subst (AllByRecursion P) (sym (history_blocks_alike h)) (t.move.covers P all))

  -- what opening finds after it
  shown_then : (d : IsDurable disk s) → Has
      → opened_by (sources_of (disk.reads s.store)) d.log (after_bodies d.kept w.more (unnumbered_body w.body))
      ≡ shown (followed out before c 0 len before.next_layout)
  shown_then d has =
      let src = sources_of (disk.reads s.store) in
      let k : Saved = record d.kept {
        history = unnumbered_history h;
        next_block = t.move.block_then d.kept.next_block;
        next_track = track_then;
        commit = d.kept.commit + suc w.more;
      } in
      let found = record (shown before) {
        history = meant_history src h;
        next_track = track_then;
        commit = s.commit_number + suc w.more;
      } in
      let then_is : after_bodies d.kept w.more (unnumbered_body w.body) ≡ k = t.move.leads d.log.block_size d.kept
      (matches d) in
      let one : opened_by src d.log (after_bodies d.kept w.more (unnumbered_body w.body)) ≡ opened_by src d.log k =
      λ i. opened_by src d.log (then_is i) in
      let two : opened_by src d.log k ≡ found = λ i. record {
        rate = d.rate i;
        block_size = d.block_size i;
        history = history_meant_alike src h i;
        next_track = track_then;
        commit = d.commit i + suc w.more;
      } in
      let model = t.move.model has in
      let three : shown (followed out before c 0 len before.next_layout) ≡ found =
      λ i. shown (record before { state = model i }) in
      one ∙ two ∙ sym three

  pub number_left : s.commit_number + suc w.more ≤ 2 ^ 62
  number_left = omega (arith, t.number)

  pub passes : s.journal_end + (6 + len) ≤ 2 ^ 62 → len ≤ LONGEST_BODY
      → refusal_of (outside (studio_of disk s) sound) (studio_of disk s) c 0 (all_len s w) ≡ None
  passes =
      nothing before c sound tracks t.move.call 0 len t.is.counters.pin_most t.is.journal.generation_most t.going t.own
      (omega (arith, t.is.counters.block_most)) t.ids number_left t.layouts

  -- nothing refuses it, so it may be carried out
  carried : Has → s.journal_end + (6 + len) ≤ 2 ^ 62 → len ≤ LONGEST_BODY
      → CarriesOut before c sound Done (followed out before c 0 len before.next_layout)
  carried has place short = record {
    blocks = 0;
    len = len;
    layout = before.next_layout;
    needs = t.move.needs has len (inr refl);
    passed = passes place short;
    draws = (omega arith, omega arith);
    answers = t.move.call.done before.rate before.state;
    is = refl;
    heard = t.move.call.heard before.rate before.state;
  }

  -- ---- while the records are added
  module _ {Q : Type 0} (answer : Result Q Refusal) (mid : Core D) (adds : AddsBody disk s w answer mid)
      (has : Has) where
    -- each image that it may leave has the project of before or of after
    pub flight : s.journal_end + (6 + all_len s w) ≤ 2 ^ 62 → all_len s w ≤ LONGEST_BODY
        → EachSince disk s.store mid.store (KeepsOneOf (studio_of disk s) c sound)
    flight place short x since =
        let d = (t.holds has).durable t.going in
        ⊎_elim
        (λ old. inl (subst (Keeps x) (shown_is disk s d) old))
        (λ new. inr (record {
          reply = Done;
          after = followed out before c 0 len before.next_layout;
          carried = carried has place short;
          keeps = subst (Keeps x) (shown_then d has) new;
        }))
        (one_of disk s.store mid.store (form_at s) d.log d.base d.kept every s.next_block
        (form_few s t.is.journal.among) d.begins d.told every_ids (every_whole has)
        (every_same has) adds.changed.images (all_bytes s w)
        (after_bodies d.kept w.more (unnumbered_body w.body)) (t.move.tells d.log.block_size d.kept
        (matches d) t.number)
        (covers_before d) (covers_after d) (adds.any_moment d.log (t.holds has).tells d.there) x since)

    -- the blocks read as they did
    pub reads_still : SameBlocks (named_blocks s ++ made) (disk.reads s.store) (disk.reads mid.store)
    reads_still =
        blocks_same s.file (disk.reads s.store) (disk.reads mid.store) s.next_block every t.is.journal.among
        (adds.changed.reads (t.holds has).tells) every_ids

    pub whole_still : AllWhole (disk.reads mid.store) (named_blocks s ++ made)
    whole_still = all_whole (disk.reads s.store) (disk.reads mid.store) every reads_still (every_whole has)

    -- and each image has them as they read
    pub images_still : EachNow disk mid.store (SameBlocks (named_blocks s ++ made) (disk.reads mid.store))
    images_still x now =
        let d = (t.holds has).durable t.going in
        let reads = disk.reads s.store in
        let images = adds.changed.images in
        let since =
        same_since disk s.store mid.store (form_at s) d.log d.base d.kept every s.next_block
        (form_few s t.is.journal.among) d.begins d.told every_ids (every_whole has) (every_same has) images x
        (images.fewer (disk.clock s.store) (disk.clock mid.store) x images.later (upto_refl (disk.clock mid.store)) now)
        in
        all_both (λ b. x b.id ≡ reads b.id) (λ b. disk.reads mid.store b.id ≡ reads b.id)
        (λ b. x b.id ≡ disk.reads mid.store b.id) (λ b one two. one ∙ sym two) every since reads_still
