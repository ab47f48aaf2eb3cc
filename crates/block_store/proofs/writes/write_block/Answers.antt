-- The file that was written is the spelling of the block.
use Rattle.std.proofs.Common.{◌≡◌, ◌≤◌, ◌∙◌, ap, arith, length, Option, Some, None, List, ℕ, ℤ}
use Rattle.disk_model.specs.{Disk.Files, Disk.bytes_of, Disk.written, Room.files_made}
use Rattle.disk_model.proofs.{Frames.changed_wider, Writes.written_new}
use Rattle.sample_block.specs.{Spelling.IsBlock, Spelling.IsSpelled, Blocks.blocks}
use Rattle.sample_block.proofs.BlockLaws.{blocks_put}
use Rattle.block_store.proofs.writes.write_block.Goals as goal

-- what an absent file becomes
put_there : (files : Files) (id : ℕ) (xs : List ℤ) (old : Option (List ℕ)) (row bytes : List ℕ) → IsBlock id (length xs)
    → IsSpelled id xs bytes → row ≡ bytes → old ≡ None
    → files id ≡ Some (written (bytes_of old) 0 row) → blocks files id ≡ Some xs
put_there files id xs old row bytes block spelled same absent file =
    blocks_put files id xs block spelled.0
    (file ∙ ap (λ (o : Option (List ℕ)). Some (written (bytes_of o) 0 row)) absent
    ∙ ap (λ (ys : List ℕ). Some ys) (written_new row ∙ same ∙ spelled.1))

one_file : (there : Option (List ℕ)) → files_made there ≤ 1
one_file None = omega arith
one_file (Some bytes) = omega arith

pub returns-in-Ok-write_front-clause-stored : goal.returns-in-Ok-write_front-clause-stored
returns-in-Ok-write_front-clause-stored g c = λ told absent.
    put_there (g.S.Store.reads c.write_front.new.store) c.args.id c.args.samples.now
    (g.S.Store.reads c.args.store.now c.args.id) c.deref.result.now _ c.requires.block c.in-Ok.ensures.spelled
    c.deref.ensures.value absent (c.in-Ok-write_front.ensures.written told)

pub returns-in-Ok-write_front-clause-changed : goal.returns-in-Ok-write_front-clause-changed
returns-in-Ok-write_front-clause-changed g c =
    changed_wider (λ d e w. w.others)
    (record {
      files = one_file (g.S.Store.reads c.args.store.now c.args.id);
      bytes = omega (arith, ap length c.deref.ensures.value, c.in-Ok.ensures.len);
      calls = omega arith;
    })
    c.write_front.ensures.changed

pub returns-in-Err-write_front-clause-changed : goal.returns-in-Err-write_front-clause-changed
returns-in-Err-write_front-clause-changed g c =
    changed_wider (λ d e w. w.others)
    (record {
      files = one_file (g.S.Store.reads c.args.store.now c.args.id);
      bytes = omega (arith, ap length c.deref.ensures.value, c.in-Ok.ensures.len);
      calls = omega arith;
    })
    c.write_front.ensures.changed
