-- What is read along a file's calls.
use Rattle.memory_disk.proofs.Common.{◌≡◌, ℕ, ◌+◌, ◌<◌, Option, Some, None, List, ◌∷◌, length, take, get_or, refl, sym}
use Rattle.memory_disk.proofs.Common.{◌∙◌, ap, subst, arith, take_all, is_some, option_map, Files, bytes_of, IsWindow}
use Rattle.memory_disk.proofs.Common.{step_of, history_of, IsChain, IsIndexed, reads_at, file_at, no_call}
use Rattle.memory_disk.proofs.Common.{head_of, size_from, Step, reads_of, Call, Head}
use Rattle.memory_disk.proofs.{CallsLemmas.history_next, Chains.size_is, Chains.absent_is}

-- after all of the calls
pub reads_all : (row : List ℕ) (calls : List Call) → reads_at row calls (length calls) ≡ reads_of (history_of row calls)
reads_all row calls = ap (λ (l : List Call). reads_of (history_of row l)) (take_all (length calls) calls (omega arith))

-- a window after one call more
pub shows_next : (row : List ℕ) (calls : List Call) (i at file : ℕ) (buf : List ℕ) → i < length calls
    → IsWindow (bytes_of (reads_of (step_of row (get_or calls i no_call) ∷ history_of row (take i calls)) file)) at buf
    → IsWindow (bytes_of (reads_at row calls (i + 1) file)) at buf
shows_next row calls i at file buf lt shows = subst (λ (h : List Step). IsWindow (bytes_of (reads_of h file)) at buf)
    (sym (history_next row calls i no_call lt)) shows

-- after the last call of the file
pub shows_all : (row : List ℕ) (calls : List Call) (links : List ℕ) (head : Head) (at : ℕ) (buf : List ℕ)
    → IsChain (reads_at row calls) (file_at calls) (length calls) links head
    → IsWindow (bytes_of (reads_at row calls (head.last + 1) head.file)) at buf
    → IsWindow (bytes_of (reads_of (history_of row calls) head.file)) at buf
shows_all row calls links head at buf chain shows =
    let all : reads_of (history_of row calls) head.file ≡ reads_at row calls (head.last + 1) head.file =
    ap (λ (f : Files). f head.file) (sym (reads_all row calls)) ∙ chain.rest in
    subst (λ (o : Option (List ℕ)). IsWindow (bytes_of o) at buf) (sym all) shows

-- the size that a head has, and whether the file is there
pub size_read : (row : List ℕ) (calls : List Call) (heads : List Head) (links : List ℕ)
    → IsIndexed (reads_at row calls) (file_at calls) (length calls) heads links → (file : ℕ)
    → size_from (head_of heads file) ≡ option_map length (reads_of (history_of row calls) file)
size_read row calls heads links was file = size_is (reads_at row calls) (file_at calls)
    (length calls) heads links was file ∙ ap (λ (f : Files). option_map length (f file)) (reads_all row calls)

pub there_read : (row : List ℕ) (calls : List Call) (heads : List Head) (links : List ℕ)
    → IsIndexed (reads_at row calls) (file_at calls) (length calls) heads links → (file : ℕ)
    → is_some (size_from (head_of heads file)) ≡ is_some (reads_of (history_of row calls) file)
there_read row calls heads links was file =
    ap is_some (size_read row calls heads links was file) ∙ mapped (reads_of (history_of row calls) file)
  where
    mapped : (o : Option (List ℕ)) → is_some (option_map length o) ≡ is_some o
    mapped None = refl
    mapped (Some l) = refl

pub absent_read : (row : List ℕ) (calls : List Call) (heads : List Head) (links : List ℕ)
    → IsIndexed (reads_at row calls) (file_at calls) (length calls) heads links → (file : ℕ)
    → size_from (head_of heads file) ≡ None → reads_of (history_of row calls) file ≡ None
absent_read row calls heads links was file none = ap (λ (f : Files). f file) (sym (reads_all row calls))
    ∙ absent_is (reads_at row calls) (file_at calls) (length calls) heads links was file none

-- the same of lists that are the same
pub reads_seen : (row seen_row : List ℕ) (calls seen : List Call) (file f : ℕ) → seen_row ≡ row → seen ≡ calls
    → file ≡ f → reads_of (history_of seen_row seen) file ≡ reads_of (history_of row calls) f
reads_seen row seen_row calls seen file f same_row same is = rw (same_row, same, is) refl
