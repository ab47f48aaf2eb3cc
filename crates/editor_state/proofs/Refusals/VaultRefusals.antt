-- No vault refuses what is prepared for an edit that makes blocks, nor its records.
use Rattle.editor_state.proofs.Common.{◌≡◌, refl, ℕ, false, List, Result, Ok, Err, IfErr, Refusal, Ghosts, Outgrows}
use Rattle.editor_state.proofs.Common.{Core, NotPrepared, may_begin, rules}
use Rattle.block_writer.specs.Brought.{Brought}
use Rattle.editor_state.specs.{Adding.Adds, Vaults.IsInside, Vaults.IsInsideOr, Makes.RefusedBrought}
use Rattle.editor_state.specs.{Makes.RefusedBroughtBy}
use Rattle.editor_state.proofs.Refusals.RefusalEffects.{IsPlain}
use Rattle.pcm_base.specs.declared.refusal.Refusal.TheVariants as refusal
use Rattle.editor_state.proofs.Refusals.Tests as tests

pub outgrowing_asks : (end next layouts len : ℕ) (why : Refusal) → Outgrows end next layouts len why → IsInside why
outgrowing_asks = tests.outgrowing IsInside (λ have need. tt) (λ len. tt)

pub unprepared_asks : {D : Type 0} (s : Core D) (n tracks layouts count whole len : ℕ) (why : Refusal)
    → NotPrepared s n tracks layouts count whole len why → IsInside why
unprepared_asks s n tracks layouts count whole len why =
    tests.unprepared IsInside (λ have need. tt) (λ len. tt) s n tracks layouts count whole len why tt

-- ---- what it leaves

-- where neither the vault nor the disk refused, nothing of the disk was begun
pub inside_begins_none : (why : Refusal) → IsInside why → IsPlain why → may_begin why ≡ false
inside_begins_none refusal.DiskFault inside plain = absurd plain
inside_begins_none (refusal.Damaged file at want have) inside plain = absurd plain
inside_begins_none refusal.VaultFault inside plain = absurd inside
inside_begins_none (refusal.BadWav fault) inside plain = absurd inside
inside_begins_none why inside plain = refl

pub inside_or : (b : Brought) (why : Refusal) → IsInside why → IsInsideOr b why
inside_or b refusal.VaultFault inside = absurd inside
inside_or b (refusal.BadWav fault) inside = absurd inside
inside_or b why inside = tt

-- no vault failed, so its count stays
pub inside_counted : (why : Refusal) (n : ℕ) → IsInside why → RefusedBroughtBy why n n
inside_counted refusal.VaultFault n inside = absurd inside
inside_counted why n inside = refl

-- ---- records

adds_asks : {D R : Type 0} (disk : Ghosts D) (old new : Core D) (bodies : List (List ℕ)) (count whole : ℕ)
    (why : Refusal) → Adds {R = R} disk old bodies count whole (Err why) new → IsInside why
adds_asks disk old new bodies count whole (refusal.SpaceSpent have need) adds = tt
adds_asks disk old new bodies count whole refusal.NoMemory adds = tt
adds_asks disk old new bodies count whole (refusal.RecordLimit n) adds = tt
adds_asks disk old new bodies count whole refusal.DiskFault adds = tt
adds_asks disk old new bodies count whole why adds = absurd adds.fields

pub adds_inside : {D R : Type 0} (disk : Ghosts D) (old new : Core D) (bodies : List (List ℕ)) (count whole : ℕ)
    (b : Brought) (result : Result R Refusal) → Adds disk old bodies count whole result new
    → IfErr result (IsInsideOr b)
adds_inside disk old new bodies count whole b (Ok done) adds = tt
adds_inside disk old new bodies count whole b (Err why) adds = search (rules, inside_or, adds_asks)

pub adds_counted : {D R : Type 0} (disk : Ghosts D) (old new : Core D) (bodies : List (List ℕ)) (count whole : ℕ)
    (result : Result R Refusal) (before after : ℕ) → Adds disk old bodies count whole result new → after ≡ before
    → RefusedBrought result before after
adds_counted disk old new bodies count whole (Ok done) before after adds same = same
adds_counted disk old new bodies count whole (Err why) before after adds same =
    search (rules, inside_counted, adds_asks)
