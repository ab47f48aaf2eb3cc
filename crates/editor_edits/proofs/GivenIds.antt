-- The studio that a plan leads to names each new block.
use Rattle.editor_edits.proofs.Common.{◌≡◌, ⊎_elim, refl, ap, ◌∙◌, subst, ℕ, ◌+◌, ◌≤◌, ◌<◌, List, [], ◌∷◌, length}
use Rattle.editor_edits.proofs.Common.{arith, AllByRecursion, BlockRef, Ghosts, NewBlock, Track, point_blocks}
use Rattle.editor_edits.proofs.Common.{current_tracks, Core, IsPlanned, TaggedEdit, NamesGiven, IsStudio, named_blocks}
use Rattle.editor_edits.proofs.Common.{among_all, refs}
use Rattle.std.proofs.Common.{if◌then◌else◌}
use Rattle.std.proofs.{lemmas.Bool.cases_lt, lemmas.Bool.Decides.eqb_tells}
use Rattle.edit_ops.specs.{Plans.AreNew}
use Rattle.editor_state.specs.{Occurrences.times_named}
use Rattle.editor_commits.proofs.CurrentProject.{old_names}

-- each of some blocks comes among them
named_among : (every bs : List BlockRef) → ((id : ℕ) → times_named id bs ≤ times_named id every)
    → AllByRecursion (λ (b : BlockRef). 0 < times_named b.id every) bs
named_among every [] h = tt
named_among every (b ∷ bs) h = (
  ⊎_elim (λ (same : _). omega (arith, h b.id, ap {B = ℕ} (λ t. if t then 1 else 0) same.0))
      (λ other. absurd (other.1 refl)) (eqb_tells b.id b.id),
  named_among every bs (λ id. omega (arith, h id)),
)

-- what holds of the ids of new blocks holds of each id that they have
each_id : (Q : ℕ → Type 0) (m next : ℕ) (bs : List NewBlock) → AreNew m next bs
    → AllByRecursion (λ (b : BlockRef). Q b.id) (refs bs) → (id : ℕ) → next ≤ id → id < next + length bs → Q id
each_id Q m next [] new all id least less = absurd (omega (arith, least, less))
each_id Q m next (b ∷ bs) new all id least less = ⊎_elim
    (λ more. each_id Q m (next + 1) bs new.5 all.1 id (omega (arith, more)) (omega (arith, less)))
    (λ few. subst Q (new.0 ∙ omega (arith, least, few)) all.0)
    (cases_lt next id)

pub names_given : {D : Type 0} (disk : Ghosts D) (s : Core D) (e : TaggedEdit) → IsPlanned s e → (new : Core D)
    → IsStudio disk new → current_tracks new.history ≡ e.plan.point → new.next_block ≡ s.next_block + length e.plan.makes
    → NamesGiven s new
names_given disk s e plan new is current next id least less =
    let P : BlockRef → Type 0 = λ b. 0 < times_named b.id (named_blocks new) in
    let every : AllByRecursion P (named_blocks new) =
    named_among (named_blocks new) (named_blocks new) (λ id. omega arith) in
    let point = subst (λ (ts : List Track). AllByRecursion P (point_blocks ts)) current (old_names disk new is P every) in
    each_id (λ id. 0 < times_named id (named_blocks new)) s.block_size s.next_block e.plan.makes plan.new
    (among_all P (point_blocks e.plan.point) (refs e.plan.makes) plan.used point) id least (omega (arith, less, next))
