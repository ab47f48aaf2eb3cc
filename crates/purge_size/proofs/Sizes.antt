-- Sizes of blocks, of each id once.
use Rattle.std.proofs.Common.{◌≡◌, ⊎_elim, refl, sym, ◌∙◌, subst, ℕ, ◌≤◌, Bool, true, false, List, [], ◌∷◌, ◌++◌}
use Rattle.std.proofs.Common.{if◌then◌else◌, eqb, arith}
use Rattle.std.proofs.lemmas.Bool.{cases_eq, eq-eqb, ne_eqb}
use Rattle.pcm_base.specs.declared.block.BlockRef.{BlockRef}
use Rattle.clip_track.specs.Clips.{layout_blocks}
use Rattle.project_state.specs.declared.track.Track.{Track}
use Rattle.layout_uses.specs.Layouts.{AgreesWith, has_number, track_blocks}
use Rattle.layout_uses.proofs.Layouts.{number_other}
use Rattle.purge_size.specs.Sizes.{has_id, sizes}

pub sizes_more : (b : BlockRef) (bs : List BlockRef) → sizes bs ≤ sizes (b ∷ bs)
sizes_more b bs = omega arith

-- more blocks have no fewer bytes
pub sizes_behind : (xs bs : List BlockRef) → sizes bs ≤ sizes (xs ++ bs)
sizes_behind [] bs = omega arith
sizes_behind (x ∷ xs) bs = omega (arith, sizes_behind xs bs, sizes_more x (xs ++ bs))

pub id_here : (id : ℕ) (b : BlockRef) (bs : List BlockRef) → b.id ≡ id → has_id id (b ∷ bs) ≡ true
id_here id b bs e = rw (eq-eqb b.id id e) refl

pub id_behind : (id : ℕ) (b : BlockRef) (bs : List BlockRef) → has_id id bs ≡ true → has_id id (b ∷ bs) ≡ true
id_behind id b bs e = elim (eqb b.id id) as (λ (s : Bool). (if s then true else has_id id bs)
    ≡ true) [ true ↦ refl | false ↦ e ]

pub id_append : (id : ℕ) (xs bs : List BlockRef) → has_id id bs ≡ true → has_id id (xs ++ bs) ≡ true
id_append id [] bs e = e
id_append id (x ∷ xs) bs e = id_behind id x (xs ++ bs) (id_append id xs bs e)

-- each of these ids is there
abbrev pub AreThere : List BlockRef → List BlockRef → Type 0
AreThere [] bs = Unit {0}
AreThere (x ∷ xs) bs = (has_id x.id bs ≡ true) × AreThere xs bs

there_more : (b : BlockRef) (xs bs : List BlockRef) → AreThere xs bs → AreThere xs (b ∷ bs)
there_more b [] bs there = tt
there_more b (x ∷ xs) bs there = (id_behind x.id b bs there.0, there_more b xs bs there.1)

there_append : (ys xs bs : List BlockRef) → AreThere xs bs → AreThere xs (ys ++ bs)
there_append [] xs bs there = there
there_append (y ∷ ys) xs bs there = there_more y xs (ys ++ bs) (there_append ys xs bs there)

pub there_front : (xs bs : List BlockRef) → AreThere xs (xs ++ bs)
there_front [] bs = tt
there_front (x ∷ xs) bs = (id_here x.id x (xs ++ bs) refl, there_more x xs (xs ++ bs) (there_front xs bs))

-- blocks that are there add nothing
pub sizes_there : (xs bs : List BlockRef) → AreThere xs bs → sizes (xs ++ bs) ≡ sizes bs
sizes_there [] bs there = refl
sizes_there (x ∷ xs) bs there =
    let here : has_id x.id (xs ++ bs) ≡ true = id_append x.id xs bs there.0 in
    rw here (omega (arith, sizes_there xs bs there.1))

pub ids_there : (id : ℕ) (xs bs : List BlockRef) → AreThere xs bs → has_id id (xs ++ bs) ≡ has_id id bs
ids_there id [] bs there = refl
ids_there id (x ∷ xs) bs there = ⊎_elim
    (λ same. id_here id x (xs ++ bs) same ∙ sym (subst (λ (n : ℕ). has_id n bs ≡ true) same there.0))
    (λ ne.
    let other : has_id id (x ∷ (xs ++ bs)) ≡ has_id id (xs ++ bs) = rw (ne_eqb x.id id ne) refl in
    other ∙ ids_there id xs bs there.1)
    (cases_eq x.id id)

-- a layout that another track uses too
pub again_there : (t : Track) (ts : List Track) → AgreesWith t ts → has_number t.number ts ≡ true
    → AreThere (layout_blocks t.layout) (track_blocks ts)
again_there t [] agree is = absurd cc
again_there t (u ∷ us) agree is = ⊎_elim
    (λ same. subst (λ l. AreThere (layout_blocks l) (track_blocks (u ∷ us))) (sym (agree.0 (sym same)))
    (there_front (layout_blocks u.layout) (track_blocks us)))
    (λ ne. there_append (layout_blocks u.layout) (layout_blocks t.layout) (track_blocks us)
    (again_there t us agree.1 (sym (number_other t.number u us ne) ∙ is)))
    (cases_eq u.number t.number)
