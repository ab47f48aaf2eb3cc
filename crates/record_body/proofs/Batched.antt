-- The records of pieces that come together lead to the point of the last.
use Rattle.record_body.proofs.Common.{◌≡◌, refl, ℕ, zero, suc, ◌+◌, ◌^◌, ◌≤◌, ◌<◌, List, [], ◌∷◌}
use Rattle.record_body.proofs.Common.{◌++◌, length, drop, arith, History, recorded, Body, Edit, IsNextIn, Saved, LeadIn}
use Rattle.record_body.proofs.Common.{after_body, before_of, current_tracks, first_tracks, HasShortEnds, IsValidBody}
use Rattle.record_body.proofs.Common.{Track}
use Rattle.std.proofs.lemmas.Bool.{ne_eqb}
use Rattle.model_laws.proofs.Again.{recorded_again, recorded_depth, recorded_last}
use Rattle.record_body.specs.{Batches.after_bodies, Batches.bodies_in, Changes.spelling_in, Saved.MayFollow}
use Rattle.record_body.specs.{Laws.BatchesLead}
use Rattle.record_body.proofs.{DeltaBack.delta_read_back, DiffBack.are_short}

-- a valid body, as a journal of this version has it, may come next
pub next_in : (version m : ℕ) (k : Saved) (body : Body) → 1 ≤ version → version ≤ 3 → 4 ≤ m → m < 2 ^ 32
    → k.commit < 2 ^ 62 → HasShortEnds (current_tracks k.history) → IsValidBody m (before_of k) body
    → MayFollow k.history body
    → IsNextIn version m k (spelling_in version (current_tracks k.history) body) body
next_in zero m k body least most large small room short valid follows = absurd (omega (arith, least))
next_in (suc zero) m k body least most large small room short valid follows = search arith
next_in (suc (suc n)) m k body least most large small room short valid follows =
    search (
      arith,
      delta_read_back m (before_of k) (current_tracks k.history) body large small room,
      are_short (current_tracks k.history) short,
      ne_eqb (suc (suc n)) 1,
    )

last_tracks : (front : List (List Track × ℕ)) (x : List Track × ℕ)
    → first_tracks (drop (length front) (front ++ x ∷ [])) ≡ x.0
last_tracks [] x = refl
last_tracks (y ∷ ys) x = last_tracks ys x

-- a point that was recorded is the current one
pub recorded_tracks : (h : History (List Track)) (point : List Track) (tag : ℕ) → 1 ≤ h.depth
    → current_tracks (recorded h point tag) ≡ point
recorded_tracks h point tag some = search (arith, recorded_last h point tag some, last_tracks)

module _ (version m tag next_block next_track : ℕ) (current point : List Track) (least : 1 ≤ version) (most : version ≤ 3)
    (large : 4 ≤ m) (small : m < 2 ^ 32) (numbered : 1 ≤ tag) (short : HasShortEnds current) where
  abbrev still : Body
  still = Edit tag next_block next_track current

  abbrev last : Body
  last = Edit tag next_block next_track point

  next_by : (k : Saved) (body : Body) → current_tracks k.history ≡ current → k.commit < 2 ^ 62
      → IsValidBody m (before_of k) body → MayFollow k.history body
      → IsNextIn version m k (spelling_in version current body) body
  next_by k body is room valid follows = search (arith, next_in)

  -- what is valid stays so after one of these records
  later : (k : Saved) (ts : List Track) → IsValidBody m (before_of k) (Edit tag next_block next_track ts)
      → IsValidBody m (before_of (after_body k still)) (Edit tag next_block next_track ts)
  later k ts is = search (arith, is)

  pub leads : (more : ℕ) (k : Saved) → current_tracks k.history ≡ current → 1 ≤ k.history.depth
      → k.commit + more < 2 ^ 62 → IsValidBody m (before_of k) still → IsValidBody m (before_of k) last
      → LeadIn version m k (bodies_in version current more last) (after_bodies k more last)
  leads zero k is some room one end = (last, next_by k last is (omega (arith, room)) end tt, refl)
  leads (suc more) k is some room one end =
      search (
        arith,
        leads more (after_body k still),
        recorded_depth k.history current tag,
        recorded_again k.history current point tag some numbered,
        recorded_tracks k.history current tag some,
        later k current one,
        later k point end,
        next_by k still is,
      )

pub batches_lead : BatchesLead
batches_lead version m more k tag next_block next_track point least most large small some numbered room short one end =
    leads version m tag next_block next_track (current_tracks k.history) point least most large small numbered short more
    k refl some room one end
