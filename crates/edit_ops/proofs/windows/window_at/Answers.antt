-- The window is one of the track.
use Rattle.edit_ops.proofs.Common.{◌≡◌, ℕ, ◌-◌, ◌<◌, ◌++◌, ◌∷◌, List, length, take, drop, sym, ap, subst, ◌∙◌, Clip}
use Rattle.edit_ops.proofs.Common.{AllHalfFull}
use Rattle.std.proofs.Common.{IfSome}
use Rattle.clip_track.proofs.RestItems.{first_of}
use Rattle.edit_ops.specs.Windows.{IsWindow}
use Rattle.edit_ops.specs.declared.windows.Window.{Window}
use Rattle.edit_ops.proofs.WindowPlans.{if_some}
use Rattle.edit_ops.proofs.windows.window_at.Goals as goal

abbrev Found : List Clip → Window → Type 0
Found t w = (m : ℕ) → 0 < m → AllHalfFull m t → IsWindow m t w

pub returns-then-from-clip-clause-window : goal.returns-then-from-clip-clause-window
returns-then-from-clip-clause-window c =
    let all = sym c.split_at.ensures.by_index.0 ∙ c.as_slice-clips.ensures.value in
    if_some _ (Found c.args.t.now) c.window_between.result
    (λ w h m s k. let P : List Clip → Type 0 = λ cs. IsWindow m cs w in subst P all (h m))
    c.window_between.ensures.window

pub returns-then-from-end-clause-window : goal.returns-then-from-end-clause-window
returns-then-from-end-clause-window c =
    let before = c.split_at.result.0.now in
    let xs = c.split_at.result.1.now in
    let x : Clip = c.clip-item.result in
    let more : List Clip = take (length xs - 1) (drop 1 xs) in
    let same : xs ≡ x ∷ more =
    first_of xs x c.in-len1-up.len_at_least ∙ ap (λ (y : Clip). y ∷ more) (sym c.clip-item.is) in
    let all : before ++ x ∷ more ≡ c.args.t.now =
    ap (λ (cs : List Clip). before ++ cs) (sym same) ∙ sym c.split_at.ensures.by_index.0
    ∙ c.as_slice-clips.ensures.value in
    let P : List Clip → Type 0 = λ cs. IfSome c.window_in.result (Found cs) in
    subst P all c.window_in.ensures.window

pub returns-clause-window : goal.returns-clause-window
returns-clause-window c =
    let all = sym c.split_at-2.ensures.by_index.0 ∙ c.as_slice-clips.ensures.value in
    if_some _ (Found c.args.t.now) c.window_between-2.result
    (λ w h m s k. let P : List Clip → Type 0 = λ cs. IsWindow m cs w in subst P all (h m))
    c.window_between-2.ensures.window
