-- What a call that only looks leaves, and why it does not answer.
use Rattle.editor_state.proofs.Common.{rules, ◌≡◌, refl, sym, subst, ℕ, ◌≤◌, List, length, take, Ok, Err, Result, Reply}
use Rattle.editor_state.proofs.Common.{Call, Refusal, Kept, Ghosts, Fewer, kept_none, BlockFault, reason_of}
use Rattle.editor_state.proofs.Common.{IsUndamaged, Core, IsHeld, Took, quietly, Entries}
use Rattle.editor_state.specs.Reads.{Looks, Sees, Seen}
use Rattle.editor_state.specs.{Adding.IsNoWant}
use Rattle.block_store.specs.declared.fault.BlockFault.TheVariants as fault

-- a fault of a block is no want of memory
no_want : (why : BlockFault) → IsNoWant (reason_of why)
no_want fault.DiskFault = tt
no_want (fault.Damaged file found) = tt

pub undamaged : (why : BlockFault) → why ≡ fault.DiskFault → IsUndamaged (reason_of why)
undamaged why disk = subst (λ (z : BlockFault). IsUndamaged (reason_of z)) (sym disk) tt

-- what a call put into a buffer
abbrev pub seen : {A : Type 0} → Call → (List A → Reply) → List A → Result ℕ Refusal → Seen A
seen call reply out count = record { call = call; reply = reply; out = out; count = count }

module _ {D : Type 0} (disk : Ghosts D) (s : Core D) (c : Call) where
  -- nothing was asked of the disk
  pub idle_looks : Fewer disk s.store → (why : Refusal) → IsUndamaged why → Took disk s (quietly c (Err why)) s
      → Looks disk s c (Err why) s
  idle_looks fewer why fine took =
      record { took = took; same = refl; kept = kept_none s.store fewer; valid = λ held. fine }

  pub idle_sees : {A : Type 0} (reply : List A → Reply) (out : List A) → Fewer disk s.store → (why : Refusal)
      → IsUndamaged why → IsNoWant why → Took disk s (quietly c (Err why)) s
      → Sees disk s (seen c reply out (Err why)) s
  idle_sees reply out fewer why fine enough took = search (rules, idle_looks)

  module _ (store : D) (kept : Kept disk s.store store) (cache : Entries) where
    pub read_looks : (r : Reply) → Took disk s (quietly c (Ok r)) (record s { store = store; cache = cache })
        → Looks disk s c (Ok r) (record s { store = store; cache = cache })
    read_looks r took = record { took = took; same = refl; kept = kept; valid = λ held. tt }

    pub unread_looks : (why : Refusal) → (IsHeld disk s → IsUndamaged why)
        → Took disk s (quietly c (Err why)) (record s { store = store; cache = cache })
        → Looks disk s c (Err why) (record s { store = store; cache = cache })
    unread_looks why valid took = record { took = took; same = refl; kept = kept; valid = valid }

    pub read_sees : {A : Type 0} (reply : List A → Reply) (out : List A) (n : ℕ) → n ≤ length out
        → Took disk s (quietly c (Ok (reply (take n out)))) (record s { store = store; cache = cache })
        → Sees disk s (seen c reply out (Ok n)) (record s { store = store; cache = cache })
    read_sees reply out n fits took = record { looks = read_looks (reply (take n out)) took; count = fits; memory = tt }

    pub unread_sees : {A : Type 0} (reply : List A → Reply) (out : List A) (why : BlockFault)
        → (IsHeld disk s → why ≡ fault.DiskFault)
        → Took disk s (quietly c (Err (reason_of why))) (record s { store = store; cache = cache })
        → Sees disk s (seen c reply out (Err (reason_of why))) (record s { store = store; cache = cache })
    unread_sees reply out why valid took = search (rules, unread_looks, undamaged, no_want)
