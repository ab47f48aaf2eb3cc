-- What blocks that are made and a record after them ask of the disk.
use Rattle.editor_blocks.proofs.Common.{rules, ◌≡◌, sym, subst, ℕ, ◌+◌, ◌*◌, ◌≤◌, IsTrue, List, Option, Err, arith}
use Rattle.editor_blocks.proofs.Common.{Call, SoundMove, IsWithin, Room, together, Files, Changed, Ghosts, size_of}
use Rattle.editor_blocks.proofs.Common.{made_room, asks, with_sound}
use Rattle.editor_state.specs.{Took.Exchange}
use Rattle.pcm_base.specs.declared.refusal.Refusal.TheVariants as refusal

-- (the bytes over plain numbers, since the terms are long)
bytes_then : (z n p v : ℕ) → n * z + (p + (0 + v) * z) ≤ p + (n + v) * z
bytes_then z n p v = omega arith

bytes_some : (z n p v : ℕ) → n * z ≤ p + (n + v) * z
bytes_some z n p v = omega arith

bytes_last : (z n p : ℕ) → n * z + 1 * z ≤ p + (n + 1) * z
bytes_last z n p = omega arith

files_last : (n made : ℕ) → n + 1 ≤ made + (n + 1)
files_last n made = omega arith

-- n blocks and then a record, whose call may begin v more in vain
pub within_then : (m m' n p p' v a b : ℕ) → m' ≡ m → p' ≡ p → a ≡ 0 → b ≡ n
    → n * size_of m + (p' + (a + v) * size_of m') ≤ p + (b + v) * size_of m
within_then m m' n p p' v a b same alike none all =
    let z = size_of m in
    let one = subst (λ (k : ℕ). n * z + (p + (0 + v) * size_of k) ≤ p + (n + v) * z) (sym same) (bytes_then z n p v) in
    let two = subst (λ (k : ℕ). n * z + (p + (k + v) * size_of m') ≤ p + (n + v) * z) (sym none) one in
    let three = subst (λ (k : ℕ). n * z + (p + (a + v) * size_of m') ≤ p + (k + v) * z) (sym all) two in
    subst (λ (k : ℕ). n * z + (k + (a + v) * size_of m') ≤ p + (b + v) * z) (sym alike) three

pub within_some : (exchange : Exchange) (journal : Option (List ℕ)) (m n len packed b : ℕ) → b ≡ n
    → IsWithin (made_room (size_of m) n) (asks exchange journal m b len packed)
within_some exchange journal m n len packed b all = search (rules, bytes_some)

-- the disk broke the call off as the next block was made
pub within_last : (call : Call) (sound : SoundMove) (journal : Option (List ℕ)) (m m' n len packed b : ℕ) → m' ≡ m
    → b ≡ n
    → IsWithin (together (made_room (size_of m) n) (made_room (size_of m') 1))
    (asks (with_sound call sound (Err refusal.DiskFault)) journal m b len packed)
within_last call sound journal m m' n len packed b same all = search (rules, files_last, bytes_last)

-- the same said by more, where a disk that tells its bytes says how many files are made
pub changed_told : {D : Type 0} {disk : Ghosts D} {step : Files → Files → Type 0} {less more : Room} {old new : D}
    → (IsTrue (disk.tells old) → less.files ≤ more.files) → less.bytes ≤ more.bytes → less.calls ≤ more.calls
    → Changed disk step less old new → Changed disk step more old new
changed_told files bytes calls f = search rules
