-- A disk keeps one project at most, and the same one after its journal was put into one header.
use Rattle.record_body.proofs.Common.{◌≡◌, ℕ, ◌<◌, ◌^◌, ◌≤◌, List, [], ◌∷◌, map, sym, ap, subst, ◌∙◌, refl, arith, inr}
use Rattle.record_body.proofs.Common.{AllByRecursion, Saved, LeadIn, Begins, point_bytes, Before, point_at}
use Rattle.record_body.proofs.Common.{IsValidTagged, Track, history_blocks, AreUnnumbered}
use Rattle.std.proofs.Common.{⊎_elim}
use Rattle.disk_model.specs.Disk.{Files}
use Rattle.sample_block.specs.Sources.{IsWhole}
use Rattle.project_journal.specs.Header.{Form, IsForm, IsFormat, form_3}
use Rattle.project_journal.specs.{Choice.other_file, Journal.Log, Packing.HasEither}
use Rattle.project_journal.proofs.{Chosen.one_journal, AnyFormats.any_format, AnyFormats.any_base, AnyFormats.HasBase}
use Rattle.record_body.specs.Saved.{Opened, opened, Keeps, BeginsBy, IsHeaderBase, IsPacked, version_of}
use Rattle.record_body.proofs.{HeaderPoints.point_is, Leading.lead_once_in}

-- ---- points in a header

module _ (m block track commit : ℕ) (least : 4 ≤ m) (most : m < 2 ^ 32) (bm : block ≤ 2 ^ 62) (tm : track ≤ 2 ^ 62)
    (cm : commit ≤ 2 ^ 62) where
  abbrev Valid : List Track × ℕ → Type 0
  Valid p = IsValidTagged m block track commit p × AreUnnumbered p.0

  one_point : (p q : List Track × ℕ) → Valid p → Valid q → point_bytes p ≡ point_bytes q → p ≡ q
  one_point p q a b e =
      let before : Before = record { at = 0; next_block = block; next_track = track; commits = commit } in
      sym (point_is m before p least most bm tm cm a.0 a.1) ∙ ap point_at e
      ∙ point_is m before q least most bm tm cm b.0 b.1

  some_points : (x : List ℕ) (xs : List (List ℕ)) → [] ≡ x ∷ xs → ⊥
  some_points x xs e = cc

  head_of : List (List ℕ) → List ℕ
  head_of [] = []
  head_of (x ∷ xs) = x

  tail_of : List (List ℕ) → List (List ℕ)
  tail_of [] = []
  tail_of (x ∷ xs) = xs

  pub one_points : (ps qs : List (List Track × ℕ)) → AllByRecursion Valid ps → AllByRecursion Valid qs
      → map point_bytes ps ≡ map point_bytes qs → ps ≡ qs
  unfolding head_of tail_of
  one_points [] [] a b e = refl
  one_points [] (q ∷ qs) a b e = absurd (some_points (point_bytes q) (map point_bytes qs) e)
  one_points (p ∷ ps) [] a b e = absurd (some_points (point_bytes p) (map point_bytes ps) (sym e))
  one_points (p ∷ ps) (q ∷ qs) a b e =
      ap (λ x. x ∷ ps) (one_point p q a.0 b.0 (ap head_of e))
      ∙ ap (λ xs. q ∷ xs) (one_points ps qs a.1 b.1 (ap tail_of e))

saved_same : (a b : Saved) → a.history.points ≡ b.history.points → a.history.cursor ≡ b.history.cursor
    → a.history.depth ≡ b.history.depth → a.next_block ≡ b.next_block → a.next_track ≡ b.next_track
    → a.commit ≡ b.commit → a ≡ b
saved_same a b points cursor depth block track commit = search arith

module _ (log : Log) (format : IsFormat log.rate log.block_size log.depth) (bounds : HasBase log.base) where
  headed_once : (a b : Saved) → IsHeaderBase log a → IsHeaderBase log b → a ≡ b
  headed_once a b p q =
      let block = log.base.next_block in
      let track = log.base.next_track in
      let commit = log.base.commit in
      let all_a : AllByRecursion (IsValidTagged log.block_size block track commit) a.history.points =
      rewritten a p in
      let all_b : AllByRecursion (IsValidTagged log.block_size block track commit) b.history.points =
      rewritten b q in
      saved_same a b
      (one_points log.block_size block track commit format.block_least (omega (arith, format.block_most))
      bounds.block_most bounds.track_most bounds.commit
      a.history.points b.history.points (with_none a.history.points all_a p.unnumbered)
      (with_none b.history.points all_b q.unnumbered) (sym p.points ∙ q.points))
      (p.cursor ∙ sym q.cursor) (p.depth ∙ sym q.depth) (p.next_block ∙ sym q.next_block)
      (p.next_track ∙ sym q.next_track) (p.commit ∙ sym q.commit)
    where
      with_none : (ps : List (List Track × ℕ)) → AllByRecursion (IsValidTagged log.block_size log.base.next_block
          log.base.next_track log.base.commit) ps → AllByRecursion (λ (p : List Track × ℕ). AreUnnumbered p.0) ps
          → AllByRecursion (λ (p : List Track × ℕ). IsValidTagged log.block_size log.base.next_block
          log.base.next_track log.base.commit p × AreUnnumbered p.0) ps
      with_none [] a b = tt
      with_none (p ∷ ps) a b = ((a.0, b.0), with_none ps a.1 b.1)

      rewritten : (k : Saved) → IsHeaderBase log k → AllByRecursion (IsValidTagged log.block_size log.base.next_block
          log.base.next_track log.base.commit) k.history.points
      rewritten k is =
          subst (λ (c : ℕ). AllByRecursion (IsValidTagged log.block_size log.base.next_block log.base.next_track c)
          k.history.points) is.commit
          (subst (λ (t : ℕ). AllByRecursion (IsValidTagged log.block_size log.base.next_block t k.commit)
          k.history.points) is.next_track
          (subst (λ (b : ℕ). AllByRecursion (IsValidTagged log.block_size b k.next_track k.commit) k.history.points)
          is.next_block is.valid))

  begins_by : (points : List (List ℕ)) (a b : Saved) → BeginsBy points log a → BeginsBy points log b → a ≡ b
  begins_by [] a b p q = p ∙ sym q
  begins_by (x ∷ xs) a b p q = headed_once a b p q

  pub begins_once : (a b : Saved) → Begins log a → Begins log b → a ≡ b
  begins_once = begins_by log.points

pub keeps_once : (files : Files) (a b : Opened) → Keeps files a → Keeps files b → a ≡ b
keeps_once files a b one two =
    let p = one.keeps in
    let q = two.keeps in
    search (
      arith,
      one_journal one.form two.form p.log q.log files one.known two.known one.few two.few p.there q.there,
      any_format two.form q.log files two.known q.there,
      begins_once q.log,
      any_base two.form q.log files two.known q.there,
      lead_once_in (version_of two.form) q.log.block_size q.log.bodies q.base p.kept q.kept,
    )

-- at each moment of putting it into one header
pub either_keeps : (form : Form) (log packed : Log) (base kept : Saved) (c : Files) → IsForm form → form.file ≤ 1
    → Begins log base → LeadIn (version_of form) log.block_size base log.bodies kept → IsPacked log kept packed
    → AllByRecursion (IsWhole c) (history_blocks kept.history) → HasEither form log packed c
    → Keeps c (opened log kept c)
either_keeps form log packed base kept c known few begins told is whole = ⊎_elim
    (λ has. record {
      form = form;
      known = known;
      few = few;
      keeps = record {
        log = log;
        base = base;
        kept = kept;
        there = has;
        begins = begins;
        told = told;
        whole = whole;
        is = refl;
      };
    })
    (λ has. record {
      form = form_3 (other_file form.file);
      known = inr (inr refl);
      few = omega arith;
      keeps = record {
        log = packed;
        base = kept;
        kept = kept;
        there = has;
        begins = is.begins;
        told = subst (λ (bs : List (List ℕ)). LeadIn 3 packed.block_size kept bs kept) (sym is.none) refl;
        whole = whole;
        is = λ i. record {
          rate = sym is.rate i;
          block_size = sym is.block_size i;
          history = (opened log kept c).history;
          next_track = kept.next_track;
          commit = kept.commit;
        };
      };
    })
