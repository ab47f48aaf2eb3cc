-- A block that was written has the samples that were brought for it.
use Rattle.editor_core.proofs.Common.{◌≡◌, ℕ, ◌+◌, Some, inl, inr, sym, subst, rules, AllPass, Ghosts, Core, core_of}
use Rattle.editor_core.proofs.Common.{Refusal, is_given}
use Rattle.block_store.specs.{declared.fault.BlockFault.BlockFault, Reads.CountedBy, Reasons.reason_of}
use Rattle.block_store.specs.declared.fault.BlockFault.TheVariants.{Damaged, DiskFault}
use Rattle.sample_block.specs.Blocks.{blocks}
use Rattle.row_ledger.specs.Lists.{counts_of}
use Rattle.block_writer.specs.{declared.fault.MakeFault.MakeFault, Making.MadeBy, Making.NotPut}
use Rattle.disk_model.specs.Frames.{Kept}
use Rattle.editor_state.specs.Makes.{NotMade, Unread}
use Rattle.editor_blocks.proofs.BroughtSamples.{filled_by}
use Rattle.editor_core.proofs.studio.Studio.write_one.Goals as goal

pub returns-in-Ok-clause-made : goal.returns-in-Ok-clause-made
returns-in-Ok-clause-made g c =
    let s = core_of c.args.self.now in
    let b = c.args.block.now in
    let done = c.in-Ok.ensures in
    let old = g.S.Store.reads c.args.self.now.reader.store in
    let by = filled_by (g.G.Brings.brings c.args.given.now) (g.S.Store.tells c.args.self.now.reader.store) old b.pieces
    (old b.id) (blocks (g.S.Store.reads c.write_new.new.reader.store) b.id) done.stored in (
      by.0,
      by.1,
      record {
        is = λ i. record s {
          store = c.write_new.new.reader.store;
          cache = done.pages i;
          uses = record {
            counts = s.uses.counts;
            lists = λ number. c.count_free.ensures.lists number i;
            singles = λ id. c.count_free.ensures.singles id i;
          };
          counts = counts_of c.count_free.new.ledger;
          next_block = s.next_block + 1;
          block_size = done.same i;
        };
        ledger = search rules;
        stored = by.2;
        changed = done.changed;
        read_faults = done.faults.0;
        change_faults = done.faults.1;
      },
    )

pub write_new-requires-clause-pages : goal.write_new-requires-clause-pages
write_new-requires-clause-pages g c =
    subst (λ (n : ℕ). AllPass (is_given n) c.args.self.now.reader.cache) (sym c.requires.id) c.requires.pages

-- a piece of it could not be read
unread : {D : Type 0} (disk : Ghosts D) (s new : Core D) (fault : BlockFault) (why : Refusal) → why ≡ reason_of fault
    → Unread disk s new → CountedBy fault (disk.read_fault_count s.store) (disk.read_fault_count new.store)
    → NotMade disk s why new
unread disk s new DiskFault why is was counted =
    subst (λ (r : Refusal). NotMade disk s r new) (sym is) (inl (was, record { rose = counted.0; later = counted.1 }))
unread disk s new (Damaged file found) why is was counted =
    subst (λ (r : Refusal). NotMade disk s r new) (sym is) (was, counted)

-- what is counted of a fault
abbrev faults_by : {D : Type 0} → Ghosts D → D → D → MakeFault → Type 0
faults_by disk old new why = MadeBy why (disk.read_fault_count old) (disk.read_fault_count new)
    (disk.change_fault_count old) (disk.change_fault_count new)

pub returns-in-Err-Read-clause-made : goal.returns-in-Err-Read-clause-made
returns-in-Err-Read-clause-made g c =
    let s = core_of c.args.self.now in
    let store = c.write_new.new.reader.store in
    let done = c.in-Err-Read.ensures in
    let is = c.in-Err-Read.field-0-is in
    let faults = subst (faults_by g.S.Store s.store store) is done.faults in
    unread g.S.Store s (record s {
      store = store;
      cache = c.write_new.new.reader.cache;
      block_size = c.write_new.new.self;
    }) _ c.from.result c.from.ensures (record {
      is = λ i. record s { store = store; cache = done.pages i; block_size = done.same i };
      kept = subst (λ (why : MakeFault). NotPut why (Kept g.S.Store s.store store)) is done.untouched;
    }) faults.0

pub returns-in-Err-Put-clause-made : goal.returns-in-Err-Put-clause-made
returns-in-Err-Put-clause-made g c =
    let s = core_of c.args.self.now in
    let store = c.write_new.new.reader.store in
    let done = c.in-Err-Put.ensures in
    let faults = subst (faults_by g.S.Store s.store store) c.in-Err-Put.field-0-is done.faults in
    inr (record {
      is = λ i. record s {
        store = store;
        cache = done.pages i;
        stopped = Some (c.faults.ensures i);
        block_size = done.same i;
      };
      changed = search rules;
      failed = record { rose = faults.1.0; later = faults.1.1 };
      read_faults = faults.0;
    })
