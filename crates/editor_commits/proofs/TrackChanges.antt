-- One track put in the place of another.
use Rattle.editor_commits.proofs.Common.{◌≡◌, ⊎_elim, refl, sym, ap, ◌∙◌, subst, ℕ, ◌+◌, ◌<◌, true, false, eqb}
use Rattle.editor_commits.proofs.Common.{if◌then◌else◌, List, [], ◌∷◌, map, drop, Some, arith, eq-eqb, ne_eqb}
use Rattle.editor_commits.proofs.Common.{eqb_tells, none-some, same_Some, AllByRecursion, BlockRef, NoTrack, Sources}
use Rattle.editor_commits.proofs.Common.{tracks_from, changed_at, History, refused_if, is_empty, layout_blocks, meant}
use Rattle.editor_commits.proofs.Common.{meant_track, point_blocks, Track, AreAbove, track_of, IsValidTrack}
use Rattle.editor_commits.proofs.Common.{AllValidTracks, first_tracks, current_tracks, put_one, put_in, lacks}
use Rattle.editor_commits.proofs.Common.{all_append, all_left, all_right, rules}
use Rattle.std.proofs.{lemmas.List.drop-map}
use Rattle.pcm_base.specs.{State.first_point}
use Rattle.pcm_base.specs.Cells as cells

-- ---- the current project

first_meant : (src : Sources) (ps : List (List Track × ℕ))
    → first_point (map (λ p. (meant src p.0, p.1)) ps) ≡ meant src (first_tracks ps)
first_meant src [] = refl
first_meant src (p ∷ ps) = refl

pub current_is : (src : Sources) (h : History (List Track))
    → first_point (drop h.cursor (map (λ p. (meant src p.0, p.1)) h.points)) ≡ meant src (current_tracks h)
current_is src h = search (rules, drop-map, first_meant)

-- ---- whether there is a track

pub lacks_is : (src : Sources) (id : ℕ) (ts : List Track)
    → refused_if (is_empty (tracks_from id (meant src ts))) (NoTrack id) ≡ lacks id (track_of id ts)
lacks_is src id [] = refl
lacks_is src id (t ∷ ts) = ⊎_elim
    (λ same. rw (same.0, eq-eqb id t.id (sym same.1)) refl)
    (λ other. rw (other.0, ne_eqb id t.id (λ e. other.1 (sym e))) (lacks_is src id ts))
    (eqb_tells t.id id)

-- ---- one put in the place of another

put_above : (new : Track) (n : ℕ) (ts : List Track) → AreAbove n ts → new.id < n → put_in new ts ≡ ts
put_above new n [] above less = refl
put_above new n (t ∷ ts) above less =
    search (rules, ne_eqb, put_above new (t.id + 1) ts above.1 (omega (arith, above.0, less)))

module _ (src : Sources) (id : ℕ) (new t : Track) (f : cells.Track → cells.Track) (is : new.id ≡ id)
    (changes : meant_track src new ≡ f (meant_track src t)) where
  pub put_means : (n : ℕ) (ts : List Track) → AreAbove n ts → track_of id ts ≡ Some t
      → meant src (put_in new ts) ≡ changed_at id f (meant src ts)
  put_means n [] above found = absurd (none-some t found)
  put_means n (x ∷ xs) above found = ⊎_elim
      (λ same.
      let here : eqb id x.id ≡ true = eq-eqb id x.id (sym same.1) in
      let there : eqb x.id new.id ≡ true = eq-eqb x.id new.id (same.1 ∙ sym is) in
      let it : x ≡ t = same_Some x t (sym (ap (λ b. if b then Some x else track_of id xs) here) ∙ found) in
      let rest : put_in new xs ≡ xs = put_above new (x.id + 1) xs above.1 (omega (arith, is, same.1)) in
      let one : meant src (put_in new (x ∷ xs)) ≡ meant_track src new ∷ meant src xs =
      λ i. meant_track src (if there i then new else x) ∷ meant src (rest i) in
      let two : meant_track src new ∷ meant src xs ≡ f (meant_track src x) ∷ meant src xs =
      λ i. (changes ∙ sym (ap (λ z. f (meant_track src z)) it)) i ∷ meant src xs in
      let three : changed_at id f (meant src (x ∷ xs)) ≡ f (meant_track src x) ∷ meant src xs = ap (λ b. if b then f
      (meant_track src x) ∷ meant src xs else meant_track src x ∷ changed_at id f (meant src xs)) same.0 in
      one ∙ two ∙ sym three)
      (λ other.
      let here : eqb id x.id ≡ false = ne_eqb id x.id (λ e. other.1 (sym e)) in
      let there : eqb x.id new.id ≡ false = ne_eqb x.id new.id (λ e. other.1 (e ∙ is)) in
      let later : track_of id xs ≡ Some t = sym (ap (λ b. if b then Some x else track_of id xs) here) ∙ found in
      let rest = put_means (x.id + 1) xs above.1 later in
      let one : meant src (put_in new (x ∷ xs)) ≡ meant_track src x ∷ changed_at id f (meant src xs) =
      λ i. meant_track src (if there i then new else x) ∷ rest i in
      let three : changed_at id f (meant src (x ∷ xs)) ≡ meant_track src x ∷ changed_at id f (meant src xs) = ap
      (λ b. if b then f (meant_track src x) ∷ meant src xs else meant_track src x ∷ changed_at id f (meant src xs))
      other.0 in
      one ∙ sym three)
      (eqb_tells x.id id)

-- ---- what holds of its blocks

pub layout_of : (P : BlockRef → Type 0) (id : ℕ) (ts : List Track) (t : Track) → track_of id ts ≡ Some t
    → AllByRecursion P (point_blocks ts) → AllByRecursion P (layout_blocks t.layout)
layout_of P id [] t found all = absurd (none-some t found)
layout_of P id (x ∷ xs) t found all = ⊎_elim
    (λ same.
    let it : x ≡ t = same_Some x t (sym (ap (λ b. if b then Some x else track_of id xs) same.0) ∙ found) in
    subst (λ (z : Track). AllByRecursion P (layout_blocks z.layout)) it
    (all_left P (layout_blocks x.layout) (point_blocks xs) all))
    (λ other.
    let later : track_of id xs ≡ Some t = sym (ap (λ b. if b then Some x else track_of id xs) other.0) ∙ found in
    layout_of P id xs t later (all_right P (layout_blocks x.layout) (point_blocks xs) all))
    (eqb_tells id x.id)

put_one_all : (P : Track → Type 0) (new t : Track) → P new → P t → P (put_one new t)
put_one_all P new t a b = ⊎_elim (λ same. rw (same.0) a) (λ other. rw (other.0) b) (eqb_tells t.id new.id)

pub put_all : (P : BlockRef → Type 0) (new : Track) (ts : List Track) → AllByRecursion P (layout_blocks new.layout)
    → AllByRecursion P (point_blocks ts) → AllByRecursion P (point_blocks (put_in new ts))
put_all P new [] a all = tt
put_all P new (t ∷ ts) a all =
    search (
      rules,
      all_append,
      put_one_all,
      all_left,
      all_right,
      put_all P new ts a (all_right P (layout_blocks
          t.layout) (point_blocks ts) all),
    )

-- ---- it is valid

pub put_id : (new t : Track) → (put_one new t).id ≡ t.id
put_id new t = ⊎_elim (λ same. rw (same.0) (sym same.1)) (λ other. rw (other.0) refl) (eqb_tells t.id new.id)

pub put_rising : (new : Track) (n : ℕ) (ts : List Track) → AreAbove n ts → AreAbove n (put_in new ts)
put_rising new n [] above = tt
put_rising new n (t ∷ ts) above = search (rules, put_id, put_rising new (t.id + 1) ts above.1)

pub put_valid : (m next_block next_track : ℕ) (new : Track) (ts : List Track) → IsValidTrack m next_block next_track new
    → AllValidTracks m next_block next_track ts → AllValidTracks m next_block next_track (put_in new ts)
put_valid m next_block next_track new [] a all = tt
put_valid m next_block next_track new (t ∷ ts) a all =
    (put_one_all (IsValidTrack m next_block next_track) new t a all.0, put_valid m next_block next_track new ts a all.1)

pub valid_of : (m next_block next_track id : ℕ) (ts : List Track) (t : Track) → track_of id ts ≡ Some t
    → AllValidTracks m next_block next_track ts → IsValidTrack m next_block next_track t
valid_of m next_block next_track id [] t found all = absurd (none-some t found)
valid_of m next_block next_track id (x ∷ xs) t found all = ⊎_elim
    (λ same. subst (IsValidTrack m next_block next_track)
    (same_Some x t (sym (ap (λ b. if b then Some x else track_of id xs) same.0) ∙ found)) all.0)
    (λ other. valid_of m next_block next_track id xs t
    (sym (ap (λ b. if b then Some x else track_of id xs) other.0) ∙ found) all.1)
    (eqb_tells id x.id)
