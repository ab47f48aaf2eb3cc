-- The index of a list of calls by file.
use Rattle.std.specs.Prelude.{◌≡◌, ◌≢◌, ℕ, ◌+◌, ◌≤◌, ◌<◌, ◌==◌, if◌then◌else◌, Option, Some, None, IsSome, IfSome, List}
use Rattle.std.specs.Prelude.{[], ◌∷◌, length, take, slice_index, slice_index_or}
use Rattle.std.specs.{List.AllPairs, Option.option_map}
use Rattle.pcm_base.specs.declared.limits.TheConstants.{COUNTER_LIMIT}
use Rattle.disk_model.specs.Disk.{Files}
use Rattle.memory_disk.specs.{History.reads_of, Calls.history_of, declared.call.Kind.TheVariants.Write}
use Rattle.memory_disk.specs.{declared.call.Call.Call, declared.heads.Head.Head}

-- what is read after the first k of these calls
abbrev pub reads_at : List ℕ → List Call → ℕ → Files
reads_at row calls k = reads_of (history_of row (take k calls))

-- what is read past the end of a list of calls
abbrev pub no_call : Call
no_call = record { kind = Write; file = 0; at = 0; from = 0; len = 0 }

-- the file of the call of this index
abbrev pub file_at : List Call → ℕ → ℕ
file_at calls k = (slice_index_or calls k no_call).file

-- the head of a file
abbrev pub head_of : List Head → ℕ → Option Head
head_of [] file = None
head_of (head ∷ heads) file = if head.file == file then Some head else head_of heads file

-- its size by its head; a file without one is absent
abbrev pub size_from : Option Head → Option ℕ
size_from None = None
size_from (Some head) = head.size

-- heads come by the numbers of their files
abbrev pub IsBefore : Head → Head → Type 0
IsBefore head other = head.file < other.file

abbrev pub AreRising : List Head → Type 0
AreRising heads = AllPairs IsBefore heads

-- a call of the file leads to its next one, and what is between changes nothing of the file
pub record LeadsTo (reads : ℕ → Files) (file_of : ℕ → ℕ) (file i next last : ℕ) : Type 0 where
  pub later : i < next
  pub within : next ≤ last
  pub of_file : file_of next ≡ file
  pub between : reads next file ≡ reads (i + 1) file

-- the calls of a file from the one that made it on, of n calls in all
pub record IsChain (reads : ℕ → Files) (file_of : ℕ → ℕ) (n : ℕ) (links : List ℕ) (head : Head) : Type 0 where
  pub order : head.first ≤ head.last
  pub bound : head.last < n
  pub begins : file_of head.first ≡ head.file
  pub ends : file_of head.last ≡ head.file
  pub absent : reads head.first head.file ≡ None
  pub leads : (i : ℕ) → head.first ≤ i → i < head.last → file_of i ≡ head.file
      → LeadsTo reads file_of head.file i (slice_index links i) head.last
  pub behind : (i : ℕ) → head.last < i → i < n → file_of i ≢ head.file
  pub rest : reads n head.file ≡ reads (head.last + 1) head.file

-- a head has the file's size as it reads, and where the file is there its calls
pub record IsHead (reads : ℕ → Files) (file_of : ℕ → ℕ) (n : ℕ) (links : List ℕ) (head : Head) : Type 0 where
  pub size : head.size ≡ option_map length (reads n head.file)
  pub bound : IfSome head.size (λ size. size ≤ COUNTER_LIMIT)
  pub chain : IsSome head.size → IsChain reads file_of n links head

-- the heads and links of n calls: a file without a head is absent
pub record IsIndexed (reads : ℕ → Files) (file_of : ℕ → ℕ) (n : ℕ) (heads : List Head) (links : List ℕ) : Type 0 where
  pub rising : AreRising heads
  pub long : length links ≡ n
  pub known : (file : ℕ) (head : Head) → head_of heads file ≡ Some head
      → (head.file ≡ file) × IsHead reads file_of n links head
  pub unknown : (file : ℕ) → head_of heads file ≡ None → reads n file ≡ None

-- the call after the first n makes its file
pub record MakesFile (reads : ℕ → Files) (file_of : ℕ → ℕ) (n : ℕ) : Type 0 where
  pub absent : reads n (file_of n) ≡ None
  pub there : IsSome (reads (n + 1) (file_of n))

-- what is read past the end of a list of heads
abbrev pub no_head : Head
no_head = record { file = 0; first = 0; last = 0; size = None }
