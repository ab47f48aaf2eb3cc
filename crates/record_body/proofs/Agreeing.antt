-- Tracks that agree by the numbers of their layouts.
use Rattle.record_body.proofs.Common.{◌≡◌, ℕ, zero, suc, ◌==◌, nat_lt, true, List, [], ◌∷◌, slice_get, Some, subst}
use Rattle.record_body.proofs.Common.{eqb-true, ltb-true, Clip, Edit, Undo, Redo, Purge, Body, same_clips, BodyAgrees}
use Rattle.record_body.proofs.Common.{AgreesIfAny, Track, track_of}
use Rattle.record_body.specs.{Batches.with_point}
use Rattle.clip_track.specs.declared.kept.Kept.{Kept}
use Rattle.project_state.specs.{Kept.KeepsTrack, Kept.KeepsTracks}
use Rattle.project_state.specs.Numbers.{AgreeById, NumbersAgree, are_numbered_alike}
use Rattle.record_body.proofs.ChangeLaws.{both, clips_refl}

-- layouts of one number are the same clip by clip, so the numbers alone lead to the same choice
pub alike_are_same : (old new : Track) → NumbersAgree old new → are_numbered_alike old new ≡ true
    → same_clips old.layout new.layout ≡ true
alike_are_same old new agree e =
    let is = both (new.number == old.number) (nat_lt 0 new.number) e in
    subst (λ (cs : List Clip). same_clips cs new.layout ≡ true)
    (agree (eqb-true new.number old.number is.first) (ltb-true 0 new.number is.second)) (clips_refl new.layout)

-- one of the tracks that agree
pub agrees_at : (current ts : List Track) (i : ℕ) (t : Track) → AgreeById current ts → slice_get ts i ≡ Some t
    → AgreesIfAny (track_of t.id current) t
agrees_at current [] i t all e = absurd cc
agrees_at current (s ∷ ts) zero t all e =
    let same : s ≡ t = cc in
    subst (λ (x : Track). AgreesIfAny (track_of x.id current) x) same all.0
agrees_at current (s ∷ ts) (suc i) t all e = agrees_at current ts i t all.1 e

-- one of the tracks that keep blocks
pub keeps_at : (kept : Kept) (current ts : List Track) (i : ℕ) (t : Track) → KeepsTracks kept current ts
    → slice_get ts i ≡ Some t → KeepsTrack kept current t
keeps_at kept current [] i t all e = absurd cc
keeps_at kept current (s ∷ ts) zero t all e =
    let same : s ≡ t = cc in
    subst (λ (x : Track). KeepsTrack kept current x) same all.0
keeps_at kept current (s ∷ ts) (suc i) t all e = keeps_at kept current ts i t all.1 e

-- a body that says the current point again
pub again_agrees : (current : List Track) (body : Body) → AgreeById current current
    → BodyAgrees current (with_point current body)
again_agrees current (Edit tag next_block next_track point) all = all
again_agrees current Undo all = tt
again_agrees current Redo all = tt
again_agrees current (Purge n) all = tt
