-- What layouts keep of others, as lists of ids.
use Rattle.layout_uses.proofs.Common.{◌≡◌, ⊎_elim, inl, inr, refl, sym, ap, ◌∙◌, subst, ℕ, zero, suc, ◌+◌, ◌-◌, ◌≤◌}
use Rattle.layout_uses.proofs.Common.{List, [], ◌∷◌, ◌++◌, Option, None, Some, arith, length, take, drop, slice_get}
use Rattle.layout_uses.proofs.Common.{length-map}
use Rattle.layout_uses.proofs.Common.{drop-map, take-append-drop, BlockRef, Comes, IsAmong, IsListed, Tally, Track}
use Rattle.layout_uses.proofs.Common.{AreNumbered, History, RowsState, history_tracks, ids_of, layout_blocks, list_of}
use Rattle.layout_uses.proofs.Common.{points_of, track_of}
use Rattle.std.proofs.Common.{is_some, length-append, true, false}
use Rattle.std.proofs.lemmas.{List.take-map, Option.same_Some}
use Rattle.std.specs.List.{AllByRecursion}
use Rattle.clip_track.proofs.KeptLists.{keeps_none}
use Rattle.clip_track.specs.{Kept.Keeps, declared.kept.Kept.Kept}
use Rattle.project_state.specs.Kept.{KeepsTrack, KeepsTracks, StaysOrKeeps}
use Rattle.row_ledger.specs.Lists.{ids_or_none}
use Rattle.layout_uses.specs.{Occurrences.KeepsList, Staying.KeepsCounted, Staying.MayKeep, Tallies.MayBecome}
use Rattle.layout_uses.proofs.{Draws.among_all, Draws.found_among, InTurn.point_among, Listing.AreListed}
use Rattle.layout_uses.proofs.{Listing.listed_all}

-- blocks that stay have ids that stay
pub keeps_ids : (k : Kept) (old new : List BlockRef) → Keeps k old new → Keeps k (ids_of old) (ids_of new)
keeps_ids k old new keeps =
    let id : BlockRef → ℕ = λ b. b.id in
    let m = length-map old id in
    let n = length-map new id in
    record {
      in_old = omega (arith, keeps.in_old, m);
      in_new = omega (arith, keeps.in_new, n);
      front = take-map id k.front new ∙ ap ids_of keeps.front ∙ sym (take-map id k.front old);
      back =
          ap (λ (z : ℕ). drop (z - k.back) (ids_of new)) n
          ∙ drop-map id (length new - k.back) new ∙ ap ids_of keeps.back ∙ sym (drop-map id (length old - k.back) old)
          ∙ ap (λ (z : ℕ). drop (z - k.back) (ids_of old)) (sym m);
    }

-- what stays of the list of a number, if there is one
pub keeps_some : (k : Kept) (o : Option (List ℕ)) (ids : List ℕ) → ((xs : List ℕ) → o ≡ Some xs → Keeps k xs ids)
    → (o ≡ None → ⊥) → Keeps k (ids_or_none o) ids
keeps_some k None ids keeps some = absurd (some refl)
keeps_some k (Some xs) ids keeps some = keeps xs refl

pub some_not : (o : Option (List ℕ)) → true ≡ is_some o → o ≡ None → ⊥
some_not None is none = absurd cc
some_not (Some xs) is none = absurd cc

pub none_so : (o : Option (List ℕ)) → false ≡ is_some o → o ≡ None
none_so None is = refl
none_so (Some xs) is = absurd cc

-- a number without a list is not that of one
pub other_list : (k : Kept) (kept : RowsState) (base number : ℕ) (bs : List BlockRef)
    → KeepsList k kept base number bs → list_of kept number ≡ None → (xs : List ℕ) → list_of kept base ≡ Some xs
    → Keeps k xs (ids_of bs)
other_list k kept base number bs keeps none xs has = ⊎_elim
    (λ same. absurd (clash (sym none ∙ ap (list_of kept) same ∙ has)))
    (λ those. those)
    (keeps xs has)
  where
    clash : {ys : List ℕ} → None ≡ Some ys → ⊥
    clash e = absurd cc

numbered_drop : (n : ℕ) (xs ys : List Track) → AreNumbered (xs ++ ys) → AreNumbered (drop n xs ++ ys)
numbered_drop zero xs ys h = h
numbered_drop (suc n) [] ys h = h
numbered_drop (suc n) (x ∷ xs) ys h = numbered_drop n xs ys h.1

drop_less : (n : ℕ) (xs : List Track) → length (drop n xs) ≤ length xs
drop_less n xs = omega (arith, ap length (take-append-drop n xs), length-append (take n xs) (drop n xs))

listed_one : (l : ℕ → Option (List ℕ)) (t : Track) (ts : List Track) → AreListed l ts → IsAmong t ts → IsListed l t
listed_one l t [] all among = absurd among
listed_one l t (u ∷ us) all among =
    ⊎_elim (λ same. subst (IsListed l) same all.0) (λ there. listed_one l t us all.1 there) among

among_last : (t : Track) (xs ys : List Track) → IsAmong t ys → IsAmong t (xs ++ ys)
among_last t [] ys among = among
among_last t (x ∷ xs) ys among = inr (among_last t xs ys among)

among_first : (t : Track) (xs ys : List Track) → IsAmong t xs → IsAmong t (xs ++ ys)
among_first t [] ys among = absurd among
among_first t (x ∷ xs) ys among = ⊎_elim (λ same. inl same) (λ there. inr (among_first t xs ys there)) among

one_keeps : (P : Track → Type 0) (ts : List Track) (i : ℕ) (t : Track) → slice_get ts i ≡ Some t → AllByRecursion P ts
    → P t
one_keeps P [] i t here all = absurd cc
one_keeps P (u ∷ us) zero t here all = let same : u ≡ t = cc in subst P same all.0
one_keeps P (u ∷ us) (suc i) t here all = one_keeps P us i t here all.1

-- a list has the ids of its layout
keeps_listed : (k : Kept) (kept : RowsState) (old new : Track) → IsListed (list_of kept) old → StaysOrKeeps k old new
    → KeepsList k kept old.number new.number (layout_blocks new.layout)
keeps_listed k kept old new listed stays = λ xs has. ⊎_elim
    (λ same. inl same)
    (λ keeps. ⊎_elim
    (λ none. absurd (clash (sym none ∙ has)))
    (λ some. inr (subst (λ (ys : List ℕ). Keeps k ys (ids_of (layout_blocks new.layout)))
    (same_Some (ids_of (layout_blocks old.layout)) xs (sym some ∙ has))
    (keeps_ids k (layout_blocks old.layout) (layout_blocks new.layout) keeps)))
    listed)
    stays
  where
    clash : {ys : List ℕ} → None ≡ Some ys → ⊥
    clash e = absurd cc

-- the next track of a point
module _ (k : Kept) (base point : List Track) (i : ℕ) (t : Track) (here : slice_get point i ≡ Some t) (o m : Tally)
    (came : Comes (drop (i + 1) point) o m) (old : Track) (found : track_of t.id base ≡ Some old) where
  counted_here : KeepsCounted k base point o → KeepsList k m.ledger old.number t.number (layout_blocks t.layout)
  counted_here all =
      let may = all.may in
      let there = all.before ++ may.others in
      let ts = drop (i + 1) point ++ there in
      let is = came.counted there may.blocks (omega (arith, may.few, drop_less (i + 1) point)) may.counted in
      let listed = listed_all (list_of m.ledger) ts (numbered_drop (i + 1) point there may.numbered) is.listed in
      keeps_listed k m.ledger old t
      (listed_one (list_of m.ledger) old ts listed
      (among_last old (drop (i + 1) point) there
      (among_first old all.before may.others
      (among_all old base all.before all.among (found_among t.id base old found)))))
      (one_keeps (KeepsTrack k base) point i t here all.keeps old found)

  pub keeps_here : MayKeep k base point o → KeepsList k m.ledger old.number t.number (layout_blocks t.layout)
  keeps_here may = ⊎_elim
      (λ none xs has. inr (keeps_none k xs (ids_of (layout_blocks t.layout)) none.0 none.1))
      counted_here
      may

-- a point that is to stand after the current one
pub keeps_edit : (k : Kept) (h : History (List Track)) (base point : List Track) (cursor : ℕ) (t : Tally)
    → slice_get (points_of h) cursor ≡ Some base → MayBecome point (history_tracks h) t → KeepsTracks k base point
    → MayKeep k base point t
keeps_edit k h base point cursor t here may keeps = inr (record {
  before = history_tracks h;
  among = point_among (points_of h) cursor base here;
  may = may;
  keeps = keeps;
})
