-- The journal put into one header, or why it was not.
use Rattle.editor_core.proofs.Common.{◌≡◌, ◌∙◌, sym, ap, subst, ℕ, ◌+◌, ◌-◌, Bool, List, Result, Some, Err, Ok, length}
use Rattle.editor_core.proofs.Common.{arith, after_err, Refusal, right_before, Core, core_of, pages_of_blocks}
use Rattle.editor_core.proofs.Common.{tells_back}
use Rattle.pcm_base.specs.{declared.failed.Failed.Failed, Causes.HasCause}
use Rattle.editor_cleanup.specs.Compacts.{Compacts}
use Rattle.editor_state.specs.{Packing.packed_core, Packing.packed_size, Packing.packed_text}
use Rattle.editor_cleanup.proofs.CompactAnswers.{Packs, compact_done, compact_failed, compact_spent, compact_stopped}
use Rattle.editor_cleanup.proofs.CompactAnswers.{compact_unread, compact_wanting}
use Rattle.editor_state.proofs.Blocks.CachePages.{right_by_packing}
use Rattle.pcm_base.specs.declared.refusal.Refusal.TheVariants as refusal
use Rattle.editor_core.proofs.studio.Studio.compact.Given.{Over}
use Rattle.editor_core.proofs.studio.Studio.compact.Goals.{After-compact}
use Rattle.editor_core.proofs.studio.Studio.compact.Goals as goal

-- what the packing did
packs : (g : Over) (c : After-compact g) → Packs g.S.Store c.args.self.now.file c.in-Ok.there c.is_there.new.store
    c.compact.new.store (packed_text (core_of c.args.self.now)) c.compact.result
packs g c =
    subst (λ (l : List ℕ). Packs g.S.Store c.args.self.now.file c.in-Ok.there c.is_there.new.store c.compact.new.store l
    c.compact.result) (c.deref.ensures.value ∙ c.in_ok-text.ensures.text) (record {
      any_moment = c.compact.ensures.any_moment;
      done = c.compact.ensures.done;
      alone = c.compact.ensures.alone;
      gone = c.compact.ensures.gone;
      durable = c.compact.ensures.durable;
      one = c.compact.ensures.one;
      changed = c.compact.ensures.changed;
      faults = c.compact.ensures.faults;
      read_faults = c.compact.ensures.read_faults;
    })

pub returns-in-Some : goal.returns-in-Some
returns-in-Some g c =
    let s = core_of c.args.self.now in
    compact_stopped g.S.Store s c.requires (g.met.S.Store.may_fewer s.store) c.in-Some.faults c.in-Some.is

pub returns-then-self-eq-COUNTER_LIMIT : goal.returns-then-self-eq-COUNTER_LIMIT
returns-then-self-eq-COUNTER_LIMIT g c =
    let s = core_of c.args.self.now in
    compact_spent g.S.Store s c.requires (g.met.S.Store.may_fewer s.store) c.in_default.is
    c.if-self-eq-COUNTER_LIMIT.true

pub returns-in_err-text : goal.returns-in_err-text
returns-in_err-text g c =
    let s = core_of c.args.self.now in
    after_err (λ (r : Result ℕ Refusal). Compacts g.S.Store s r s) _ c.from_residual.result c.from_residual.ensures.1
    (compact_wanting g.S.Store s c.requires (g.met.S.Store.may_fewer s.store))

pub returns-in_default-is_there : goal.returns-in_default-is_there
returns-in_default-is_there g c =
    let s = core_of c.args.self.now in
    let store = c.is_there.new.store in
    let cause = subst (λ (r : Result Bool Failed). HasCause (g.S.Store.read_fault_count s.store)
    (g.S.Store.read_fault_count store) r) c.in_default-is_there.is c.is_there.ensures.faults in
    compact_unread g.S.Store s c.requires (g.met.S.Store.may_fewer s.store) c.in_default.is store
    c.is_there.ensures.kept cause.failed cause.later

pub returns-in-Ok-compact : goal.returns-in-Ok-compact
returns-in-Ok-compact g c =
    let s = core_of c.args.self.now in
    let mid = c.is_there.new.store in
    let new = c.compact.new.store in
    let text = c.in_ok-text.ensures in
    let there = subst (λ (r : Result Bool Failed). HasCause (g.S.Store.read_fault_count s.store)
    (g.S.Store.read_fault_count mid) r) c.in-Ok.is c.is_there.ensures.faults in
    let packs = subst (λ r. Packs g.S.Store s.file c.in-Ok.there mid new (packed_text s) r) c.in-Ok-compact.is
    (packs g (goal.at.returns-in-Ok-compact g c).After-compact) in
    let len = c.in_ok-text.text.ok.0 in
    let end : c.len.result ≡ packed_size s - 1 = omega (arith, c.len.ensures, len, text.size) in
    subst (λ (z : Core g.row.S.Denot). Compacts g.S.Store s (Ok (c.len.result + 1)) z)
    (λ i. record (packed_core s new) { journal_end = sym end i })
    (compact_done g.S.Store s c.requires (g.met.S.Store.may_fewer s.store) c.in_default.is mid c.is_there.ensures.kept
    there.kept c.in-Ok.there c.in-Ok.ensures.tells
    (omega (arith, c.if-self-eq-COUNTER_LIMIT.false, c.requires.journal.generation_most)) text.whole text.rate
    text.short (omega (arith, text.size, text.most)) new (Ok c.in-Ok-compact.field-0) packs
    packs.faults.kept packs.done packs.alone packs.gone packs.durable packs.one (g.met.S.Store.may_stay new)
    (c.len.result + 1) (omega (arith, c.len.ensures, len, ap length text.text)))

pub returns : goal.returns
returns g c =
    let s = core_of c.args.self.now in
    let mid = c.is_there.new.store in
    let new = c.compact.new.store in
    let text = c.in_ok-text.ensures in
    let packs = subst (λ r. Packs g.S.Store s.file c.in-Ok.there mid new (packed_text s) r) c.in-Err.is
    (packs g (goal.at.returns g c).After-compact) in
    let there = subst (λ (r : Result Bool Failed). HasCause (g.S.Store.read_fault_count s.store)
    (g.S.Store.read_fault_count mid) r) c.in-Ok.is c.is_there.ensures.faults in
    subst (λ (z : Core g.row.S.Denot). Compacts g.S.Store s (Err refusal.DiskFault) z)
    (λ i. record s { store = new; stopped = Some (sym c.faults.ensures i) })
    (compact_failed g.S.Store s c.requires (g.met.S.Store.may_fewer s.store) c.in_default.is mid c.is_there.ensures.kept
    there.kept c.in-Ok.there c.in-Ok.ensures.tells
    (omega (arith, c.if-self-eq-COUNTER_LIMIT.false, c.requires.journal.generation_most)) text.whole text.rate
    text.short (omega (arith, text.size, text.most)) new (Err c.in-Err.field-0) packs packs.faults.failed
    packs.faults.later)

-- the file was asked for and nothing changed
pub invariant_of-self : goal.invariant_of-self
invariant_of-self g c = record {
  right = λ still.
      let kept = c.is_there.ensures.kept in
      let told = tells_back kept still in
      right_before c.args.self.now.reader.store c.is_there.new.store c.args.self.now.reader.cache kept
      (c.args.self.now.reader.right told);
}

-- the journal is packed, in files of no block
pub invariant_of-self-2 : goal.invariant_of-self-2
invariant_of-self-2 g c =
    let s = core_of c.args.self.now in
    let kept = c.is_there.ensures.kept in
    record {
      right = right_by_packing g.S.Store _ c.is_there.new.store c.compact.new.store s.cache s.file
          c.requires.journal.among c.compact.ensures.changed (pages_of_blocks s.next_block s.cache c.requires.pages)
          (λ still. right_before c.args.self.now.reader.store c.is_there.new.store s.cache kept
          (c.args.self.now.reader.right (tells_back kept still)));
    }
