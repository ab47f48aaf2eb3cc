-- A write and then a sync.
use Rattle.std.proofs.Common.{◌≡◌, ◌^◌, ◌∙◌, ap, arith, Option, None, List, ℕ, nat_le, nat_lt, ◌&&◌, if◌then◌else◌}
use Rattle.std.specs.Option.{option_and_then}
use Rattle.disk_model.specs.Disk.{Files}
use Rattle.disk_model.proofs.Frames.{changed_then_stays}
use Rattle.sample_block.specs.Blocks.{block_in, blocks}
use Rattle.block_store.proofs.writes.put.Goals as goal

-- a block is known by its file alone
same_block : (files other : Files) (id : ℕ) → files id ≡ other id → blocks files id ≡ blocks other id
same_block files other id same =
    ap (λ (o : Option (List ℕ)). if nat_le 16 id && nat_lt id (2 ^ 62) then option_and_then (block_in id) o else None)
    same

pub returns-clause-stored : goal.returns-clause-stored
returns-clause-stored g c = λ told absent.
    ap (λ (f : Files). blocks f c.args.id) c.sync_block.ensures.reads ∙ c.in_ok-write_block.ensures.stored told absent

pub returns-clause-durable : goal.returns-clause-durable
returns-clause-durable g c = λ told absent files left.
    same_block files (g.S.Store.reads c.sync_block.new.store) c.args.id (c.in_ok-sync_block.ensures.durable files left)
    ∙ ap (λ (f : Files). blocks f c.args.id) c.sync_block.ensures.reads ∙ c.in_ok-write_block.ensures.stored told absent

pub returns-clause-changed : goal.returns-clause-changed
returns-clause-changed g c =
    changed_then_stays (record { files = omega arith; bytes = omega arith; calls = omega arith })
    c.write_block.ensures.changed c.sync_block.ensures.changed

pub returns-in_err-sync_block-clause-changed : goal.returns-in_err-sync_block-clause-changed
returns-in_err-sync_block-clause-changed g c =
    changed_then_stays (record { files = omega arith; bytes = omega arith; calls = omega arith })
    c.write_block.ensures.changed c.sync_block.ensures.changed
