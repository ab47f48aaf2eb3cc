-- What stays of a cache whose entries are of blocks whose ids pass a test.
use Rattle.block_cache.proofs.Common.{◌≡◌, ℕ, Bool, subst, IsTrue, Files, Ghosts, AllPass, Entries, IsCacheOf}
use Rattle.block_cache.proofs.Common.{IsCacheWithout}
use Rattle.disk_model.specs.{Frames.Changed, Room.Room}
use Rattle.block_cache.proofs.CacheLaws.{right_elsewhere}

-- more pass
pub pass_more : (test more : ℕ → Bool) (c : Entries) → ((id : ℕ) → IsTrue (test id) → IsTrue (more id)) → AllPass test c
    → AllPass more c
pass_more test more c wider pass = record {
  headers = λ k has. wider k.id (pass.headers k has);
  samples = λ e has. wider e.0.id (pass.samples e has);
  frames = λ e has. wider e.0.id (pass.frames e has);
}

-- without the entries of a block
pub pass_without : (test : ℕ → Bool) (id : ℕ) (a b : Entries) → IsCacheWithout id a b → AllPass test a → AllPass test b
pass_without test id a b without pass = record {
  headers = λ k has. pass.headers k ((without.headers k).0 has).0;
  samples = λ e has. pass.samples e ((without.samples e).0 has).0;
  frames = λ e has. pass.frames e ((without.frames e).0 has).0;
}

-- changes of files that do not pass
pub right_on : {D : Type 0} (disk : Ghosts D) (test : ℕ → Bool) (step : Files → Files → Type 0) (much : Room)
    (was now : D) (c : Entries) → Changed disk step much was now
    → ((files other : Files) → step files other → (id : ℕ) → IsTrue (test id) → other id ≡ files id)
    → AllPass test c → (IsTrue (disk.tells was) → IsCacheOf (disk.reads was) c) → IsTrue (disk.tells now)
    → IsCacheOf (disk.reads now) c
right_on disk test step much was now c changed same pass right still =
    let told : IsTrue (disk.tells was) = subst (λ (t : Bool). IsTrue t) changed.tells still in
    right_elsewhere (disk.reads was) (disk.reads now) test c pass
    (same (disk.reads was) (disk.reads now) (changed.reads told)) (right told)
