-- The points of a header that brings a project have no fault, and are those of that project.
use Rattle.journal_replay.proofs.Common.{◌≡◌, ℕ, ◌+◌, ◌<◌, ◌≤◌, ◌^◌, List, [], ◌∷◌, length, map, Option, None, refl}
use Rattle.journal_replay.proofs.Common.{sym, ap, subst, ◌∙◌, AllByRecursion, option_or, Contents, log_of, Base}
use Rattle.journal_replay.proofs.Common.{Damaged, Form, HasBase, Track, AreUnnumbered, Begins, BeginsBy, IsHeaderBase}
use Rattle.journal_replay.proofs.Common.{Saved, point_bytes, point_at, IsValidTagged, base_by, base_of, point_before}
use Rattle.journal_replay.proofs.Common.{points_fault}
use Rattle.record_body.proofs.HeaderPoints.{point_back, point_is}

module _ (m : ℕ) (b : Base) (large : 4 ≤ m) (small : m < 2 ^ 32) (bounds : HasBase b) where
  abbrev AllValidPoints : List (List Track × ℕ) → Type 0
  AllValidPoints ps = AllByRecursion (IsValidTagged m b.next_block b.next_track b.commit) ps

  abbrev AllPlain : List (List Track × ℕ) → Type 0
  AllPlain ps = AllByRecursion (λ (p : List Track × ℕ). AreUnnumbered p.0) ps

  none_fails : (at : ℕ) (ps : List (List Track × ℕ)) → AllValidPoints ps → AllPlain ps
      → points_fault m b at (map point_bytes ps) ≡ None
  none_fails at [] all plain = refl
  none_fails at (p ∷ ps) all plain =
      let next = at + 4 + length (point_bytes p) in
      ap (λ (o : Option Damaged). option_or o (points_fault m b next (map point_bytes ps)))
      (point_back m (point_before b (at + 4)) p large small bounds.block_most bounds.track_most bounds.commit all.0
      plain.0)
      ∙ none_fails next ps all.1 plain.1

  points_back : (ps : List (List Track × ℕ)) → AllValidPoints ps → AllPlain ps → map point_at (map point_bytes ps) ≡ ps
  points_back [] all plain = refl
  points_back (p ∷ ps) all plain =
      ap (λ (q : List Track × ℕ). q ∷ map point_at (map point_bytes ps))
      (point_is m (point_before b 0) p large small bounds.block_most bounds.track_most bounds.commit all.0 plain.0)
      ∙ ap (λ (qs : List (List Track × ℕ)). p ∷ qs) (points_back ps all.1 plain.1)

pub record HeaderIs (form : Form) (j : Contents) (base : Saved) : Type 0 where
  pub none : points_fault j.block_size j.base form.header_size j.points ≡ None
  pub same : base ≡ base_of j

pub points_valid : (form : Form) (j : Contents) (base : Saved) → 4 ≤ j.block_size → j.block_size < 2 ^ 32
    → HasBase j.base → Begins (log_of j) base → HeaderIs form j base
points_valid form j base least most bounds begins = by_points j.points refl begins
  where
    all_valid : IsHeaderBase (log_of j) base → AllByRecursion (IsValidTagged j.block_size j.base.next_block j.base.next_track
        j.base.commit) base.history.points
    all_valid told =
        subst (λ (c : ℕ). AllByRecursion (IsValidTagged j.block_size j.base.next_block j.base.next_track c)
        base.history.points) told.commit
        (subst (λ (t : ℕ). AllByRecursion (IsValidTagged j.block_size j.base.next_block t base.commit)
        base.history.points) told.next_track
        (subst (λ (n : ℕ). AllByRecursion (IsValidTagged j.block_size n base.next_track base.commit)
        base.history.points) told.next_block told.valid))

    by_points : (ps : List (List ℕ)) → j.points ≡ ps → BeginsBy ps (log_of j) base → HeaderIs form j base
    by_points [] is told = record {
      none = ap (points_fault j.block_size j.base form.header_size) is;
      same = told ∙ sym (ap (λ (xs : List (List ℕ)). base_by xs j.depth j.base) is);
    }
    by_points (p ∷ ps) is told =
        let qs = base.history.points in
        let all = all_valid told in
        let points : qs ≡ map point_at (p ∷ ps) =
        sym (points_back j.block_size j.base least most bounds qs all told.unnumbered) ∙ ap (map point_at)
        (sym told.points ∙ is) in
        let same : base ≡ base_by (p ∷ ps) j.depth j.base = λ i. record {
          history = record { points = points i; cursor = told.cursor i; depth = told.depth i };
          next_block = told.next_block i;
          next_track = told.next_track i;
          commit = told.commit i;
        } in
        record {
          none = ap (points_fault j.block_size j.base form.header_size) told.points
              ∙ none_fails j.block_size j.base least most bounds form.header_size qs all told.unnumbered;
          same = same ∙ sym (ap (λ (xs : List (List ℕ)). base_by xs j.depth j.base) is);
        }
