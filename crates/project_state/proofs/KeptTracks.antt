-- Tracks whose new layouts keep blocks of the old ones.
use Rattle.std.proofs.Common.{◌≡◌, refl, sym, ap, ◌∙◌, subst, ℕ, ◌+◌, ◌≤◌, ◌<◌, true, false, eqb, List, [], ◌∷◌, ◌++◌}
use Rattle.std.proofs.Common.{if◌then◌else◌, inl, inr, ◌⊎◌, ⊎_elim, Some, arith}
use Rattle.std.proofs.lemmas.{Bool.eq-eqb, Bool.ne_eqb, Bool.Decides.eqb_tells, Option.none-some, Option.same_Some}
use Rattle.clip_track.proofs.KeptLists.{keeps_none}
use Rattle.clip_track.specs.{Clips.layout_blocks, Kept.Keeps, declared.kept.Kept.Kept}
use Rattle.project_state.specs.{declared.track.Track.Track, Tracks.AreAbove, Tracks.put_in, Tracks.track_of}
use Rattle.project_state.specs.Kept.{KeepsTrack, KeepsTracks, StaysOrKeeps}

-- each new track stands at the place of the old one of its id, and more may follow
abbrev pub KeepEach : Kept → List Track → List Track → Type 0
KeepEach k [] us = Unit {0}
KeepEach k (t ∷ ts) [] = ⊥
KeepEach k (t ∷ ts) (u ∷ us) = (u.id ≡ t.id) × StaysOrKeeps k t u × KeepEach k ts us

-- what is said to stay at neither end does
pub none_keep : (k : Kept) (ts us : List Track) → k.front ≡ 0 → k.back ≡ 0 → KeepsTracks k ts us
none_keep k ts [] f b = tt
none_keep k ts (u ∷ us) f b = (λ t found. inr (keeps_none k (layout_blocks t.layout) (layout_blocks u.layout) f b), none_keep k ts us f b)

none_there : (k : Kept) (us : List Track) → KeepsTracks k [] us
none_there k [] = tt
none_there k (u ∷ us) = (λ t found. absurd (none-some t found), none_there k us)

-- tracks of greater ids
keeps_past : (k : Kept) (t : Track) (ts : List Track) (n : ℕ) (us : List Track) → AreAbove n us → t.id < n
    → KeepsTracks k ts us → KeepsTracks k (t ∷ ts) us
keeps_past k t ts n [] above less h = tt
keeps_past k t ts n (u ∷ us) above less h =
    let other : eqb u.id t.id ≡ false = ne_eqb u.id t.id (λ e. omega (arith, e, above.0, less)) in (
      λ x found. h.0 x (sym (ap (λ b. if b then Some t else track_of u.id ts) other) ∙ found),
      keeps_past k t ts (u.id + 1) us above.1 (omega (arith, above.0, less)) h.1,
    )

pub keeps_each : (k : Kept) (n : ℕ) (ts us : List Track) → AreAbove n us → KeepEach k ts us → KeepsTracks k ts us
keeps_each k n [] us above h = none_there k us
keeps_each k n (t ∷ ts) [] above h = absurd h
keeps_each k n (t ∷ ts) (u ∷ us) above h =
    let here : eqb u.id t.id ≡ true = eq-eqb u.id t.id h.0 in (
      λ x found. subst (λ (z : Track). StaysOrKeeps k z u)
          (same_Some t x (sym (ap (λ b. if b then Some t else track_of u.id ts) here) ∙ found)) h.1,
      keeps_past k t ts (u.id + 1) us above.1 (omega (arith, h.0)) (keeps_each k (u.id + 1) ts us above.1 h.2),
    )

-- more tracks
pub each_same : (k : Kept) (ts us : List Track) → KeepEach k ts (ts ++ us)
each_same k [] us = tt
each_same k (t ∷ ts) us = (refl, inl refl, each_same k ts us)

pub each_here : (k : Kept) (ts : List Track) → KeepEach k ts ts
each_here k [] = tt
each_here k (t ∷ ts) = (refl, inl refl, each_here k ts)

-- ---- one put in the place of another
each_past : (k : Kept) (new : Track) (n : ℕ) (ts : List Track) → AreAbove n ts → new.id < n
    → KeepEach k ts (put_in new ts)
each_past k new n [] above less = tt
each_past k new n (x ∷ xs) above less =
    let other : eqb x.id new.id ≡ false = ne_eqb x.id new.id (λ e. omega (arith, e, above.0, less)) in
    subst (λ b. KeepEach k (x ∷ xs) ((if b then new else x) ∷ put_in new xs)) (sym other)
    (refl, inl refl, each_past k new (x.id + 1) xs above.1 (omega (arith, above.0, less)))

module _ (k : Kept) (id : ℕ) (new was : Track) (is : new.id ≡ id)
    (keeps : Keeps k (layout_blocks was.layout) (layout_blocks new.layout)) where
  pub put_each : (n : ℕ) (ts : List Track) → AreAbove n ts → track_of id ts ≡ Some was
      → KeepEach k ts (put_in new ts)
  put_each n [] above found = absurd (none-some was found)
  put_each n (x ∷ xs) above found = ⊎_elim
      (λ same.
      let here : eqb id x.id ≡ true = eq-eqb id x.id (sym same.1) in
      let there : eqb x.id new.id ≡ true = eq-eqb x.id new.id (same.1 ∙ sym is) in
      let it : x ≡ was = same_Some x was (sym (ap (λ b. if b then Some x else track_of id xs) here) ∙ found) in
      let K : Track → Type 0 = λ z. Keeps k (layout_blocks z.layout) (layout_blocks new.layout) in
      subst (λ b. KeepEach k (x ∷ xs) ((if b then new else x) ∷ put_in new xs)) (sym there) (
        is ∙ sym same.1,
        inr (subst K (sym it) keeps),
        each_past k new (x.id + 1) xs above.1 (omega (arith, is, same.1)),
      ))
      (λ other.
      let here : eqb id x.id ≡ false = ne_eqb id x.id (λ e. other.1 (sym e)) in
      let there : eqb x.id new.id ≡ false = ne_eqb x.id new.id (λ e. other.1 (e ∙ is)) in
      let later : track_of id xs ≡ Some was = sym (ap (λ b. if b then Some x else track_of id xs) here) ∙ found in
      subst (λ b. KeepEach k (x ∷ xs) ((if b then new else x) ∷ put_in new xs)) (sym there)
      (refl, inl refl, put_each (x.id + 1) xs above.1 later))
      (eqb_tells x.id id)
