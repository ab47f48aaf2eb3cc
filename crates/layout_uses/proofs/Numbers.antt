-- Layouts that get their numbers.
use Rattle.layout_uses.proofs.Common.{◌≡◌, ⊎_elim, sym, ap, subst, ℕ, ◌+◌, ◌<◌, List, [], ◌∷◌, ◌++◌, arith}
use Rattle.layout_uses.proofs.Common.{cases_eq, ne_eqb, Track, put_in, track_of, put_same, put_other, AreAmong, IsAmong}
use Rattle.layout_uses.proofs.Common.{Agree, AgreesWith, AreDrawn, AreNumbered}
use Rattle.project_state.specs.{Numbers.AgreeById, Numbers.AgreesIfAny}
use Rattle.layout_uses.specs.Laws.{NewAgrees, SharedAgree, AnyOrder}
use Rattle.layout_uses.proofs.Moves.{agrees_back, agrees_both, counts_swapped}

-- a track that is there agrees with all
pub among_agrees : (t : Track) (ts : List Track) → AreNumbered ts → IsAmong t ts → AgreesWith t ts
among_agrees t [] numbered among = tt
among_agrees t (u ∷ us) numbered among = ⊎_elim
    (λ same. (λ e. ap (λ (x : Track). x.layout) (sym same), subst (λ (x : Track). AgreesWith x us) same numbered.0))
    (λ there. (λ e. sym (with_among u us t numbered.0 there (sym e)), among_agrees t us numbered.1 there))
    among
  where
    with_among : (u : Track) (us : List Track) (t : Track) → AgreesWith u us → IsAmong t us → u.number ≡ t.number
        → u.layout ≡ t.layout
    with_among u [] t agree among e = absurd among
    with_among u (x ∷ xs) t agree among e = ⊎_elim
        (λ same. subst (λ (y : Track). Agree u y) same agree.0 e)
        (λ there. with_among u xs t agree.1 there e)
        among

pub shared_agree : SharedAgree
shared_agree [] ts numbered among = numbered
shared_agree (x ∷ xs) ts numbered among = (
  agrees_both x xs ts (among_each x xs ts numbered among.0 among.1) (among_agrees x ts numbered among.0),
  shared_agree xs ts numbered among.1,
)
  where
    each : (t : Track) (y : Track) (ts : List Track) → AgreesWith t ts → IsAmong y ts → Agree t y
    each t y [] agree among = absurd among
    each t y (u ∷ us) agree among = ⊎_elim
        (λ same. subst (λ (z : Track). Agree t z) same agree.0)
        (λ there. each t y us agree.1 there)
        among

    among_each : (t : Track) (xs ts : List Track) → AreNumbered ts → IsAmong t ts → AreAmong xs ts → AgreesWith t xs
    among_each t [] ts numbered at all = tt
    among_each t (y ∷ ys) ts numbered at all =
        (each t y ts (among_agrees t ts numbered at) all.0, among_each t ys ts numbered at all.1)

drawn_agrees : (next : ℕ) (new : Track) (ts : List Track) → AreDrawn next ts → new.number ≡ next → AgreesWith new ts
drawn_agrees next new [] drawn e = tt
drawn_agrees next new (t ∷ ts) drawn e = search (arith, drawn_agrees next new ts drawn.1 e)

put_among : (new : Track) (current ts : List Track) → AreAmong current ts → AreAmong (put_in new current) (new ∷ ts)
put_among new [] ts among = tt
put_among new (t ∷ current) ts among =
    search (arith, put_among new current ts among.1, put_same, put_other, ne_eqb, cases_eq)

drawn_more : (next : ℕ) (ts : List Track) → AreDrawn next ts → AreDrawn (next + 1) ts
drawn_more next [] drawn = tt
drawn_more next (t ∷ ts) drawn = (omega (arith, drawn.0), drawn_more next ts drawn.1)

drawn_among : (next : ℕ) (xs ts : List Track) → AreDrawn next ts → AreAmong xs ts → AreDrawn next (xs ++ ts)
drawn_among next [] ts drawn among = drawn
drawn_among next (x ∷ xs) ts drawn among = (one x ts drawn among.0, drawn_among next xs ts drawn among.1)
  where
    one : (t : Track) (ts : List Track) → AreDrawn next ts → IsAmong t ts → t.number < next
    one t [] drawn among = absurd among
    one t (u ∷ us) drawn among = ⊎_elim
        (λ same. subst (λ (y : Track). y.number < next) same drawn.0)
        (λ there. one t us drawn.1 there)
        among

pub new_agrees : NewAgrees
new_agrees next new current ts numbered drawn e among =
    search (arith, put_among, shared_agree, drawn_agrees, drawn_among, drawn_more)

pub any_order : AnyOrder
any_order xs ys zs others uses counts numbered is = counts_swapped xs ys zs others uses counts numbered is

-- ---- tracks by their ids

-- a track that agrees with these agrees with each of them
pub agrees_one : (t u : Track) (ts : List Track) → AgreesWith t ts → IsAmong u ts → Agree t u
agrees_one t u [] agree among = absurd among
agrees_one t u (x ∷ xs) agree among = search (arith, agrees_one t u xs agree.1)

-- with the one of its id too
agrees_found : (t : Track) (current ts : List Track) → AgreesWith t ts → AreAmong current ts
    → AgreesIfAny (track_of t.id current) t
agrees_found t [] ts agree among = tt
agrees_found t (u ∷ us) ts agree among = search (arith, agrees_found t us ts agree among.1, agrees_one)

-- Tracks that are numbered with all that are there agree with the current ones by their ids.
pub agree_by_id : (current xs ts : List Track) → AreNumbered (xs ++ ts) → AreAmong current ts → AgreeById current xs
agree_by_id current [] ts numbered among = tt
agree_by_id current (x ∷ xs) ts numbered among = (
  agrees_found x current ts (agrees_back x xs ts numbered.0) among,
  agree_by_id current xs ts numbered.1 among,
)
