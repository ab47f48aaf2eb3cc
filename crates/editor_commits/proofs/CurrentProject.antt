-- What any edit stands on: the current project, and a new point after it.
use Rattle.editor_commits.proofs.Common.{rules, ◌≡◌, refl, sym, ap, ◌∙◌, ℕ, zero, suc, ◌+◌, ◌^◌, ◌≤◌, ◌<◌, List, []}
use Rattle.editor_commits.proofs.Common.{◌∷◌, ◌++◌, length, map, Option, subst, arith, AllByRecursion, History, edited}
use Rattle.editor_commits.proofs.Common.{kept, BlockRef, Call, SoundMove, NoTrack, Project, tracks_from, Needs, Sources}
use Rattle.editor_commits.proofs.Common.{is_empty, refused_if, outside, State, current, after, Ghosts, sources_of}
use Rattle.editor_commits.proofs.Common.{count_of, Item, current_tracks, Saved, IsNextIn, LeadIn, MayFollow, before_of}
use Rattle.editor_commits.proofs.Common.{version_of, Body, Edit, after_bodies, IsValidPoint, IsValidTagged, IsValidBody}
use Rattle.editor_commits.proofs.Common.{unnumbered_body, meant, meant_history, point_blocks, history_blocks, Track}
use Rattle.editor_commits.proofs.Common.{AllBelow, track_of, AgreeById, unnumbered, current_alike, tagged_more, Tally}
use Rattle.editor_commits.proofs.Common.{HasNumbers, AreDrawn, AreNumbered, history_tracks, AreCounts, Becomes}
use Rattle.editor_commits.proofs.Common.{MayBecome, same_numbers, IsLength, all_bytes, bodies_by, body_bytes}
use Rattle.editor_commits.proofs.Common.{single, IsHeld, IsStudio, MayPaste, clip_blocks, clip_cells, named_blocks}
use Rattle.editor_commits.proofs.Common.{pin_blocks, pin_tracks, studio_of, studio_tracks, Core, form_at, lacks}
use Rattle.editor_commits.proofs.Common.{tracks_few, all_left, all_so, IsCommitCall}
use Rattle.std.proofs.Common.{ap₂}
use Rattle.record_body.specs.{Batches.bodies_in}
use Rattle.record_body.proofs.Unnumbered.{are_unnumbered, edited_alike, valid_alike}
use Rattle.record_body.proofs.{Batched.leads, ShortEnds.valid_ends}
use Rattle.project_state.proofs.MeantHistories.{meant_edited}
use Rattle.layout_uses.proofs.{Numbers.agree_by_id}
use Rattle.editor_commits.proofs.BodyBytes.{ends_alike, next_so, spelled_in, version_is}
use Rattle.editor_commits.proofs.HistoryPoints.{all_edited, blocks_edited, current_all, current_blocks, ending_current}
use Rattle.editor_commits.proofs.HistoryPoints.{ending_few}
use Rattle.editor_commits.proofs.{CommitImages.IsCommit, CommitImages.Matches, CommitStudios.CountsAfter}
use Rattle.editor_commits.proofs.{TrackChanges.current_is, TrackChanges.lacks_is, TrackLists.given_below}
use Rattle.editor_state.proofs.{Blocks.NamedBlocks.current_among}
use Rattle.layout_uses.specs.Tallies.{uses_of}
use Rattle.row_ledger.specs.Lists.{counts_of}

-- a valid project is one still where later tracks have ids
pub valid_later : (m next_block next_track later : ℕ) (ts : List Track) → next_track ≤ later
    → IsValidPoint m next_block next_track ts → IsValidPoint m next_block later ts
valid_later m next_block next_track later ts h is =
    (tagged_more m next_block next_track 0 next_block later 0 (ts, 0) (omega arith) h (omega arith) (is, omega arith)).0

-- the bodies of an edit, as the journal's writer spells them
same_bodies : (version : ℕ) (current : List Track) (tag next_block next_track : ℕ) (point : List Track) (more : ℕ)
    → bodies_in version current more (Edit tag next_block next_track point)
    ≡ bodies_by version current more (Edit tag next_block next_track point)
same_bodies version current tag next_block next_track point zero = refl
same_bodies version current tag next_block next_track point (suc more) =
    search (rules, same_bodies version current tag next_block next_track point more)

-- whatever numbers their layouts have
plain_bodies : (version : ℕ) (current : List Track) (tag next_block next_track : ℕ) (point : List Track) (more : ℕ)
    → bodies_in version (map unnumbered current) more (Edit tag next_block next_track (map unnumbered point))
    ≡ bodies_in version current more (Edit tag next_block next_track point)
plain_bodies version current tag next_block next_track point zero =
    ap (λ (bytes : List ℕ). bytes ∷ []) (spelled_in version current (Edit tag next_block next_track point))
plain_bodies version current tag next_block next_track point (suc more) =
    ap₂ (λ (bytes : List ℕ) (rest : List (List ℕ)). bytes ∷ rest)
    (spelled_in version current (Edit tag next_block next_track current))
    (plain_bodies version current tag next_block next_track point more)

module _ {D : Type 0} (disk : Ghosts D) (s : Core D) (is : IsStudio disk s) where
  abbrev pub old : List Track
  old = current_tracks s.history

  abbrev pub now : State
  now = (studio_of disk s).state

  abbrev pub src : Sources
  src = sources_of (disk.reads s.store)

  pub current_valid : IsValidPoint s.block_size s.next_block s.next_track old
  current_valid =
      let points = all_so (IsValidTagged s.block_size s.next_block s.next_track s.commit_number)
      (λ (p : List Track × ℕ). IsValidPoint s.block_size s.next_block s.next_track p.0)
      (λ p h. h.0) s.history.points is.points in
      current_all (IsValidPoint s.block_size s.next_block s.next_track) (record {
        few = omega arith;
        rising = tt;
        valid = tt;
      }) s.history points

  pub current_below : AllBelow s.next_track old
  current_below = given_below s.block_size s.next_block s.next_track old current_valid.valid

  pub current_meant : current now ≡ meant src old
  current_meant = current_is src s.history

  -- whether there is a track
  pub track_is : (id : ℕ)
      → lacks id (track_of id old) ≡ refused_if (is_empty (tracks_from id (current now))) (NoTrack id)
  track_is id = sym (lacks_is src id old) ∙ ap (λ (q : Project). refused_if (is_empty (tracks_from id q)) (NoTrack id))
      (sym current_meant)

  pub old_names : (P : BlockRef → Type 0) → AllByRecursion P (named_blocks s) → AllByRecursion P (point_blocks old)
  old_names P all = search (rules, current_blocks, all_left)

  -- the state with a new point, and what the point means
  pub pointed : (p : List Track) (q : Project) (next : ℕ) → q ≡ meant src p
      → record now {
        history = edited now.history q 0;
        next_track = next;
        commit = s.commit_number + 1;
      } ≡ record now {
        history = meant_history src (edited s.history p 0);
        next_track = next;
        commit = s.commit_number + 1;
      }
  pointed p q next same = search (rules, meant_edited)

  -- where no track id is given
  pub pointed_so : (p : List Track) (q : Project) → q ≡ meant src p
      → record now {
        history = edited now.history q 0;
        commit = s.commit_number + 1;
      } ≡ record now {
        history = meant_history src (edited s.history p 0);
        next_track = s.next_track + 0;
        commit = s.commit_number + 1;
      }
  pointed_so p q same =
      let none : s.next_track ≡ s.next_track + 0 = omega arith in
      pointed p q s.next_track same ∙ (λ i. record now {
        history = meant_history src (edited s.history p 0);
        next_track = none i;
        commit = s.commit_number + 1;
      })

  -- the project after a state whose newest point this is
  pub then_current : (p : List Track)
      → current (record now { history = meant_history src (edited s.history p 0) }) ≡ meant src p
  then_current p = current_is src (edited s.history p 0)
      ∙ ap (meant src) (ending_current s.history (kept s.history) p 0 is.format.depth_least)

  -- the record of a valid body may come next
  pub may_come : (m : ℕ) (k : Saved) (body : Body) → Matches s m k → s.commit_number < 2 ^ 62
      → IsValidBody m (before_of k) (unnumbered_body body) → MayFollow k.history (unnumbered_body body)
      → IsNextIn (version_of (form_at s)) m k (body_bytes s body) (unnumbered_body body)
  may_come m k body e room valid follows = search (rules, next_so, valid_ends, current_valid)

  -- and the records of a batch may: those that say the current point, and then the last
  pub may_all : (m : ℕ) (k : Saved) (tag next_block next_track : ℕ) (point : List Track) (more : ℕ) → Matches s m k
      → s.commit_number + more < 2 ^ 62 → (0 < more → 1 ≤ tag)
      → IsValidBody m (before_of k) (Edit tag next_block next_track (map unnumbered old))
      → IsValidBody m (before_of k) (Edit tag next_block next_track (map unnumbered point))
      → LeadIn (version_of (form_at s)) m k (all_bytes s (record {
        more = more;
        body = Edit tag next_block next_track point;
      })) (after_bodies k more (Edit tag next_block next_track (map unnumbered point)))
  may_all m k tag next_block next_track point zero e room numbered one end =
      let last = Edit tag next_block next_track point in
      (unnumbered_body last, may_come m k last e (omega (arith, room)) end tt, refl)
  may_all m k tag next_block next_track point (suc more) e room numbered one end =
      let last = Edit tag next_block next_track point in
      let plain = unnumbered_body last in
      let now = map unnumbered old in
      let here : current_tracks k.history ≡ now = ap current_tracks e.history ∙ current_alike s.history in
      let led : LeadIn s.version m k (bodies_in s.version now (suc more) plain) (after_bodies k (suc more) plain) =
      leads s.version m tag next_block next_track now
      (map unnumbered point) is.journal.version_least is.journal.version_most
      (omega (arith, e.block_size, is.format.block_least)) (omega (arith, e.block_size, is.format.block_most))
      (numbered (omega arith))
      (ends_alike old (valid_ends s.block_size s.next_block s.next_track old is.format.block_least current_valid))
      (suc more) k here (subst (λ (h : History (List Track)). 1 ≤ h.depth) (sym e.history) is.format.depth_least)
      (omega (arith, e.commit, room)) one end in
      subst (λ (v : ℕ). LeadIn v m k (bodies_by s.version old (suc more) last) (after_bodies k (suc more) plain))
      (sym (version_is s is.journal))
      (subst (λ (bs : List (List ℕ)). LeadIn s.version m k bs (after_bodies k (suc more) plain))
      (plain_bodies s.version old tag next_block next_track point (suc more)
      ∙ same_bodies s.version old tag next_block next_track point (suc more)) led)

  -- the tracks of a new point in front of all that are there
  pub came_numbered : (p : List Track) (after : ℕ) → HasNumbers old s.next_layout p after
      → AreNumbered (p ++ (history_tracks s.history ++ pin_tracks s.pins))
  came_numbered p after has = has.numbered (studio_tracks s) is.numbered is.drawn (current_among s)

  pub came_drawn : (p : List Track) (after : ℕ) → HasNumbers old s.next_layout p after
      → AreDrawn after (p ++ (history_tracks s.history ++ pin_tracks s.pins))
  came_drawn p after has = has.drawn (studio_tracks s) is.drawn (current_among s)

  -- they agree with the current ones by the numbers of their layouts, and so do the current ones
  pub came_agrees : (p : List Track) (after : ℕ) → HasNumbers old s.next_layout p after → AgreeById old p
  came_agrees p after has = agree_by_id old p (studio_tracks s) (came_numbered p after has) (current_among s)

  pub current_agrees : AgreeById old old
  current_agrees = came_agrees old s.next_layout (same_numbers old s.next_layout)

  pub came_few : (p : List Track) → length p ≤ 64
      → length p + length (history_tracks s.history ++ pin_tracks s.pins) < 2 ^ 128
  came_few p few = omega (arith, few, tracks_few disk s is)

  -- a point may be counted, by the counts of the studio
  pub may_become : (p : List Track) (after : ℕ) → HasNumbers old s.next_layout p after → length p ≤ 64
      → (tally : Tally) → AreCounts (studio_tracks s) (clip_blocks s.clipboard) (uses_of tally)
      (counts_of tally.ledger) → MayBecome p (history_tracks s.history) tally
  may_become p after has few tally counted = search (rules, came_numbered, came_few)

  -- the counts after a new history, where pins and clipboard stay
  pub counts_then : (p : List Track) (after : ℕ) (h : History (List Track)) (tally tally' : Tally)
      → HasNumbers old s.next_layout p after → length p ≤ 64 → after ≤ 2 ^ 62
      → AreCounts (studio_tracks s) (clip_blocks s.clipboard) (uses_of tally) (counts_of tally.ledger)
      → Becomes p (history_tracks s.history) (history_tracks h) tally tally'
      → CountsAfter s.pins h s.clipboard after (counts_of tally.ledger) (uses_of tally') (counts_of tally'.ledger)
  counts_then p after h tally tally' has few most counted becomes =
      search (rules, came_numbered, came_drawn, came_few, becomes.numbered, becomes.drawn, becomes.counted)

  module _ (track_then : ℕ) (later : s.next_track ≤ track_then) (most : track_then ≤ 2 ^ 62) (p : List Track)
      (valid : IsValidPoint s.block_size s.next_block track_then p) where
    -- the points after it are valid
    points_then : AllByRecursion (IsValidTagged s.block_size s.next_block track_then (s.commit_number + 1))
        (edited s.history p 0).points
    points_then =
        let here = IsValidTagged s.block_size s.next_block track_then (s.commit_number + 1) in
        all_edited here s.history p 0
        (all_so (IsValidTagged s.block_size s.next_block s.next_track s.commit_number) here
        (λ q h. tagged_more s.block_size s.next_block s.next_track s.commit_number s.next_block track_then
        (s.commit_number + 1) q (omega arith) later (omega arith) h) s.history.points is.points)
        (valid, omega arith)

    valid_then : (m : ℕ) (k : Saved) → Matches s m k → IsValidBody m (before_of k) (Edit 0 s.next_block track_then
        (map unnumbered p))
    valid_then m k k_is = search (rules, are_unnumbered, valid_alike)

    -- A call whose record tells a new point is a commit.
    pub point_commit : (made : List BlockRef) (c : Call) (call_sound : SoundMove) (tracks : ℕ)
        (clip : Option (List (List Item)))
        → IsCommitCall c call_sound tracks 0 → track_then ≡ s.next_track + tracks
        → ((P : BlockRef → Type 0) → AllByRecursion P (named_blocks s ++ made) → AllByRecursion P (point_blocks p))
        → ((P : BlockRef → Type 0) → AllByRecursion P (named_blocks s ++ made) → AllByRecursion P (clip_blocks clip))
        → length (clip_blocks clip) ≤ 2 ^ 71 → MayPaste s.block_size clip
        → (IsHeld disk s → after (outside (studio_of disk s) call_sound) now c
        ≡ record now {
          history = meant_history src (edited s.history p 0);
          clipboard = clip_cells src clip;
          next_track = track_then;
          commit = s.commit_number + 1;
        })
        → (IsHeld disk s → (n : ℕ) → IsLength s (single (Edit 0 s.next_block track_then p)) n
        → Needs (outside (studio_of disk s) call_sound) (studio_of disk s) c 0 n)
        → IsCommit (IsHeld disk s) disk s made c call_sound tracks (single (Edit 0 s.next_block track_then p))
        (edited s.history p 0) clip track_then
    point_commit made c call_sound tracks clip call gives names clip_names few fits model needs = record {
      call = call;
      gives = gives;
      block_then = λ n. s.next_block;
      block_most = λ n h. omega arith;
      tells = λ m k k_is room.
          let body = Edit 0 s.next_block track_then p in
          (unnumbered_body body, may_come m k body k_is (omega (arith, room)) (valid_then m k k_is) tt, refl);
      leads = λ m k k_is. λ i. record {
        history = (ap (λ (h : History (List Track)). edited h (map unnumbered p) 0) k_is.history
            ∙ sym (edited_alike s.history p 0)) i;
        next_block = s.next_block;
        next_track = track_then;
        commit = k.commit + 1;
      };
      covers = λ P all.
          blocks_edited P s.history p 0 (all_left P (history_blocks s.history)
          (pin_blocks s.pins ++ clip_blocks s.clipboard) (all_left P (named_blocks s) made all)) (names P all);
      clip_covers = clip_names;
      clip_few = few;
      clip_fits = fits;
      points = points_then;
      depth = refl;
      few = ending_few s.history (kept s.history) p 0;
      says = (refl, refl, sym (ending_current s.history (kept s.history) p 0 is.format.depth_least));
      model = model;
      needs = needs;
    }
