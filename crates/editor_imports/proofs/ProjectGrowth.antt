-- A project that grows by a track for each channel.
use Rattle.std.proofs.Common.{◌≡◌, inr, refl, sym, ap, ◌∙◌, subst, ℕ, suc, ◌+◌, ◌/◌, ◌≤◌, ◌<◌, ℤ, List, [], ◌∷◌, ◌++◌}
use Rattle.std.proofs.Common.{append_assoc, length, Contains, length-append, arith, rules}
use Rattle.std.proofs.lemmas.List.Elements.{Contains-append_left, Contains-append_right}
use Rattle.std.proofs.Math.Nat.{add-mul, div-mul-le_self}
use Rattle.std.proofs.{lemmas.List.append-nil, lemmas.Grind.flat_map-append, lemmas.Nat.le-div}
use Rattle.std.specs.List.{AllByRecursion}
use Rattle.pcm_base.specs.declared.piece.Piece.TheVariants.{Old, Scaled, Zero, Given}
use Rattle.pcm_base.specs.{declared.block.BlockRef.BlockRef, declared.piece.Piece.Piece, Cells.Project, Edits.as_cells}
use Rattle.pcm_base.specs.{Pieces.Sources, Pieces.stretch, Step.channel_tracks, Step.new_track}
use Rattle.block_sequence.specs.Origins.{AllFrom}
use Rattle.clip_track.specs.Clips.{layout_blocks, layout_cells}
use Rattle.edit_ops.specs.declared.types.NewBlock.{NewBlock}
use Rattle.edit_ops.specs.Plans.{AllNewFrom, AreNew, AreWritten, ref_of}
use Rattle.project_state.specs.{declared.track.Track.Track, Meaning.meant, Meaning.meant_track, Meaning.point_blocks}
use Rattle.record_body.specs.{Saved.current_tracks, Valid.AllValidTracks, Valid.IsValidTrack}
use Rattle.record_body.proofs.SavedBounds.{all_append, tagged_more}
use Rattle.layout_uses.specs.Drawing.{HasNumbers}
use Rattle.layout_uses.proofs.{Draws.numbers_more, Putting.same_numbers}
use Rattle.editor_state.specs.{Core.Core, Edits.AreAmong, Edits.alone, Edits.beside, Studios.IsGiven}
use Rattle.editor_imports.specs.declared.growing.Growing.{Growing}
use Rattle.editor_imports.specs.Imports.{AddsChannel, AreGrown, parts_from, total_of, track_with}
use Rattle.editor_state.proofs.Blocks.BlockLists.{among_all, among_itself}
use Rattle.editor_state.proofs.Lists.{all_left, all_right, all_so}
use Rattle.editor_blocks.proofs.{StudioBlocks.refs, StudioBlocks.refs_ids, PlanBlocks.ids_clips}
use Rattle.editor_blocks.proofs.{PlanBlocks.old_or_new, LayoutBlocks.layout_given, LayoutBlocks.new_in}
use Rattle.editor_commits.proofs.TrackLists.{above_less, given_below, more_valid}
use Rattle.project_state.proofs.Points.{AreAbove-push}
use Rattle.edit_ops.proofs.Named.{AreNew-append}

-- ---- lists one after another

total_more : (counts : List ℕ) (count : ℕ) → total_of (counts ++ count ∷ []) ≡ total_of counts + count
total_more [] count = omega arith
total_more (n ∷ ns) count = omega (arith, total_more ns count)

parts_length : (given : ℕ → ℤ) (from : ℕ) (counts : List ℕ) → length (parts_from given from counts) ≡ length counts
parts_length given from [] = refl
parts_length given from (n ∷ ns) = omega (arith, parts_length given (from + n) ns)

parts_more : (given : ℕ → ℤ) (from : ℕ) (counts : List ℕ) (count : ℕ)
    → parts_from given from (counts ++ count ∷ []) ≡ parts_from given from counts
    ++ stretch given (from + total_of counts) count ∷ []
parts_more given from [] count = search (rules, given)
parts_more given from (n ∷ ns) count =
    let same : from + n + total_of ns ≡ from + (n + total_of ns) = omega arith in
    ap (λ (z : List (List ℤ)). stretch given from n ∷ z)
    (parts_more given (from + n) ns count
    ∙ ap (λ (k : ℕ). parts_from given (from + n) ns ++ stretch given k count ∷ []) same)

tracks_more : (id : ℕ) (channels : List (List ℤ)) (channel : List ℤ)
    → channel_tracks id (channels ++ channel ∷ []) ≡ channel_tracks id channels
    ++ new_track (id + length channels) (as_cells channel) ∷ []
tracks_more id [] channel = search rules
tracks_more id (c ∷ cs) channel =
    let same : id + 1 + length cs ≡ id + suc (length cs) = omega arith in
    ap (λ (z : Project). new_track id (as_cells c) ∷ z)
    (tracks_more (id + 1) cs channel
    ∙ ap (λ (k : ℕ). channel_tracks (id + 1) cs ++ new_track k (as_cells channel) ∷ []) same)

meant_more : (src : Sources) (ts : List Track) (t : Track)
    → meant src (ts ++ t ∷ []) ≡ meant src ts ++ meant_track src t ∷ []
meant_more src [] t = refl
meant_more src (x ∷ xs) t = ap (λ (z : Project). meant_track src x ∷ z) (meant_more src xs t)

-- ---- blocks after others

pieces_later : (count later : ℕ) (ps : List Piece) → count ≤ later → AllFrom [] count ps → AllFrom [] later ps
pieces_later count later [] le h = tt
pieces_later count later (Old b lo hi ∷ ps) le h = (h.0, pieces_later count later ps le h.1)
pieces_later count later (Scaled b lo hi gain ∷ ps) le h = (h.0, pieces_later count later ps le h.1)
pieces_later count later (Zero len ∷ ps) le h = (tt, pieces_later count later ps le h.1)
pieces_later count later (Given lo hi ∷ ps) le h = (omega (arith, le, h.0), pieces_later count later ps le h.1)

origin_append : (count later : ℕ) (xs ys : List NewBlock) → count ≤ later → AllNewFrom [] count xs
    → AllNewFrom [] later ys → AllNewFrom [] later (xs ++ ys)
origin_append count later [] ys le a b = b
origin_append count later (x ∷ xs) ys le a b =
    (pieces_later count later x.pieces le a.0, origin_append count later xs ys le a.1 b)

written_left : (src : Sources) (xs ys : List NewBlock) → AreWritten src (xs ++ ys) → AreWritten src xs
written_left src [] ys h = tt
written_left src (x ∷ xs) ys h = (h.0, written_left src xs ys h.1)

written_right : (src : Sources) (xs ys : List NewBlock) → AreWritten src (xs ++ ys) → AreWritten src ys
written_right src [] ys h = h
written_right src (x ∷ xs) ys h = written_right src xs ys h.1

refs_append : (xs ys : List NewBlock) → refs (xs ++ ys) ≡ refs xs ++ refs ys
refs_append [] ys = refl
refs_append (x ∷ xs) ys = ap (λ (z : List BlockRef). ref_of x ∷ z) (refs_append xs ys)

-- ---- none

pub grown_none : {D : Type 0} (s : Core D) (g : Growing) → g.point ≡ current_tracks s.history → g.makes.items ≡ []
    → g.next ≡ s.next_block → g.brought ≡ 0 → g.number ≡ s.next_layout → AreGrown s [] g
grown_none s g point makes first brought number = record {
  news = [];
  point = point ∙ sym (append-nil (current_tracks s.history));
  ids = tt;
  many = refl;
  valid = tt;
  new = subst (AreNew s.block_size s.next_block) (sym makes) tt;
  origin = subst (λ (bs : List NewBlock). AllNewFrom [] g.brought bs) (sym makes) tt;
  names = tt;
  used = subst (λ (bs : List NewBlock). AreAmong [] (refs bs)) (sym makes) tt;
  few = omega (arith, ap length makes);
  next_is = omega (arith, ap length makes, first);
  brought = brought;
  number_is = omega (arith, number);
  layouts =
      let old = current_tracks s.history in
      subst (λ (k : ℕ). HasNumbers old s.next_layout g.point k) (sym number)
      (subst (λ (q : List Track). HasNumbers old s.next_layout q s.next_layout) (sym point)
      (same_numbers old s.next_layout));
  means = λ block given written. refl;
}

-- ---- one more

div_more : (a b m : ℕ) → 0 < m → a / m + b / m ≤ (a + b) / m
div_more a b m some = le-div (a / m + b / m) (a + b) m some
    (omega (arith, add-mul (a / m) (b / m) m, div-mul-le_self a m, div-mul-le_self b m))

module _ {D : Type 0} (s : Core D) (some : 0 < s.block_size) (least : 16 ≤ s.next_block) (first : 1 ≤ s.next_track)
    (counts : List ℕ) (count : ℕ) (few : length counts < 64) (g h : Growing) (was : AreGrown s counts g)
    (a : AddsChannel s.block_size (s.next_track + length counts) count g h) where
  open s use {block_size as m, next_block as next, next_track as id}

  abbrev old : List Track
  old = current_tracks s.history

  abbrev t : Track
  t = track_with (id + length counts) g.number a.plan.layout

  abbrev xs : List NewBlock
  xs = g.makes.items

  abbrev ys : List NewBlock
  ys = a.plan.makes

  abbrev next' : ℕ
  next' = next + length h.makes.items

  abbrev track' : ℕ
  track' = id + length (counts ++ count ∷ [])

  long : length h.makes.items ≡ length xs + length ys
  long = ap length a.makes ∙ length-append xs ys

  more : length (counts ++ count ∷ []) ≡ length counts + 1
  more = length-append counts (count ∷ [])

  ys_new : AreNew m (next + length xs) ys
  ys_new = subst (λ (k : ℕ). AreNew m k ys) was.next_is a.is.plan.new

  -- the blocks of the new track
  given : AllByRecursion (λ (b : BlockRef). IsGiven next' b.id) (layout_blocks a.plan.layout)
  given = search (rules, all_so, long, refs, refs_ids, ys_new, old_or_new)

  new_valid : IsValidTrack m next' track' t
  new_valid = search (rules, given, more, ids_clips)

  old_valid : AllValidTracks m next' track' was.news
  old_valid =
      (tagged_more m (next + length xs) (id + length counts) 0 next' track' 0 (was.news, 0) (omega (arith, long))
      (omega (arith, more)) (omega arith) (
        record {
          few = omega (arith, few, was.many);
          rising = above_less 1 id was.news first was.ids;
          valid = was.valid;
        },
        omega arith,
      )).0.valid

  every_names : AreAmong (refs xs ++ refs ys) (point_blocks (was.news ++ t ∷ []))
  every_names =
      let every = refs xs ++ refs ys in
      let C : BlockRef → Type 0 = Contains every in
      let before = all_so (Contains (refs xs)) C (λ b k. Contains-append_left (refs xs) (refs ys) b k)
      (point_blocks was.news) was.names in
      let mine = all_so (Contains (refs ys)) C (λ b k. Contains-append_right (refs xs) (refs ys) b k) (refs ys)
      (among_itself (refs ys)) in
      let new = old_or_new C [] (layout_blocks a.plan.layout) ys a.is.plan.blocks tt mine in
      subst (AllByRecursion C) (sym (flat_map-append (λ (x : Track). layout_blocks x.layout) was.news (t ∷ [])))
      (all_append C (point_blocks was.news) (point_blocks (t ∷ [])) before
      (all_append C (layout_blocks a.plan.layout) [] new tt))

  track_means : (block : ℕ → ℕ → ℤ) (brings : ℕ → ℤ) → AreWritten (beside block brings) ys
      → meant_track (alone block) t ≡ new_track (id + length counts) (as_cells (stretch brings (total_of counts) count))
  track_means block brings written =
      let cells : layout_cells (alone block) a.plan.layout ≡ as_cells (stretch brings (total_of counts) count) =
      layout_given block brings t ∙ a.is.means (beside block brings) written
      ∙ ap (λ (k : ℕ). as_cells (stretch brings k count)) was.brought in
      ap (new_track (id + length counts)) cells

  all_mean : (block : ℕ → ℕ → ℤ) (brings : ℕ → ℤ) → AreWritten (beside block brings) (xs ++ ys)
      → meant (alone block) (was.news ++ t ∷ []) ≡ channel_tracks id (parts_from brings 0 (counts ++ count ∷ []))
  all_mean block brings written =
      let parts = parts_from brings 0 counts in
      let last = stretch brings (total_of counts) count in
      let many : length parts ≡ length counts = parts_length brings 0 counts in
      let same : 0 + total_of counts ≡ total_of counts = omega arith in
      meant_more (alone block) was.news t
      ∙ (λ i. was.means block brings (written_left (beside block brings) xs ys written) i
      ++ track_means block brings (written_right (beside block brings) xs ys written) i ∷ [])
      ∙ ap (λ (k : ℕ). channel_tracks id parts ++ new_track (id + k) (as_cells last) ∷ []) (sym many)
      ∙ sym (tracks_more id parts last)
      ∙ ap (λ (k : ℕ). channel_tracks id (parts ++ stretch brings k count ∷ [])) (sym same)
      ∙ ap (channel_tracks id) (sym (parts_more brings 0 counts count))

  -- each new block stands in a new track
  each_used : AreAmong (point_blocks (was.news ++ t ∷ [])) (refs xs ++ refs ys)
  each_used = search (rules, flat_map-append, among_itself, all_left, all_right, all_append, refs, among_all, new_in)

  pub grown_more : AreGrown s (counts ++ count ∷ []) h
  grown_more = record {
    news = was.news ++ t ∷ [];
    point = a.point ∙ ap (λ (z : List Track). z ++ t ∷ []) was.point ∙ append_assoc old was.news (t ∷ []);
    ids = AreAbove-push id was.news t was.ids (given_below m (next + length xs) (id + length counts) was.news was.valid)
        (omega arith);
    many = omega (arith, length-append was.news (t ∷ []), more, was.many);
    valid = more_valid m next' track' was.news t old_valid new_valid;
    new = subst (AreNew m next) (sym a.makes) (AreNew-append m next xs ys was.new ys_new);
    origin = subst (λ (bs : List NewBlock). AllNewFrom [] h.brought bs) (sym a.makes)
        (origin_append g.brought h.brought xs ys (omega (arith, a.brought)) was.origin
        (subst (λ (k : ℕ). AllNewFrom [] k ys) (sym a.brought) a.is.plan.origin));
    names = subst (λ (bs : List NewBlock). AreAmong (refs bs) (point_blocks (was.news ++ t ∷ []))) (sym a.makes)
        (subst (λ (every : List BlockRef). AreAmong every (point_blocks (was.news ++ t ∷ [])))
        (sym (refs_append xs ys)) every_names);
    used = subst (λ (bs : List NewBlock). AreAmong (point_blocks (was.news ++ t ∷ [])) (refs bs)) (sym a.makes)
        (subst (AreAmong (point_blocks (was.news ++ t ∷ []))) (sym (refs_append xs ys)) each_used);
    few =
        omega (arith, long, more, was.few, a.is.few, div_more g.brought count m some, ap (λ (k : ℕ). k / m) a.brought);
    next_is = omega (arith, a.next, a.is.plan.next_id, was.next_is, long);
    brought = a.brought ∙ ap (λ (k : ℕ). k + count) was.brought ∙ sym (total_more counts count);
    number_is = omega (arith, a.number, was.number_is, more);
    layouts = subst (λ (k : ℕ). HasNumbers old s.next_layout h.point k) (sym a.number)
        (subst (λ (q : List Track). HasNumbers old s.next_layout q (g.number + 1)) (sym a.point)
        (numbers_more old s.next_layout g.point g.number was.layouts t (inr refl) (g.number + 1) (omega arith)
        (λ e. omega arith)));
    means = λ block brings written. all_mean block brings (subst (AreWritten (beside block brings)) a.makes written);
  }
