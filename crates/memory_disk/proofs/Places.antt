-- Room for a file that a write makes.
use Rattle.memory_disk.proofs.Common.{◌≡◌, ◌≢◌, inr, ⊎_elim, ℕ, ◌+◌, ◌≤◌, Option, Some, None, List, length, refl, sym}
use Rattle.memory_disk.proofs.Common.{◌∙◌, ap, subst, arith, IsSome, option_map, reads_of, Log, files_after}
use Rattle.std.specs.{Prelude.IsNone}
use Rattle.memory_disk.specs.{Ram.IsFull}

unmapped : (o : Option (List ℕ)) → IsNone (option_map length o) → o ≡ None
unmapped None e = refl
unmapped (Some l) e = cc e

pub size_none : (o : Option (List ℕ)) (size : Option ℕ) → size ≡ option_map length o → o ≡ None → IsNone size
size_none o size is none = subst IsNone (sym (is ∙ ap (λ (x : Option (List ℕ)). option_map length x) none)) refl

pub none_size : (o : Option (List ℕ)) (size : Option ℕ) → size ≡ option_map length o → IsNone size → o ≡ None
none_size o size is none = unmapped o (subst IsNone is none)

-- how many files are left
pub files_are : (o : Option (List ℕ)) (size : Option ℕ) (old new : ℕ) → size ≡ option_map length o
    → (IsSome size → new ≡ old) → (IsNone size → old ≡ new + 1) → new ≡ files_after old o
files_are None size old new is there absent = let less = absent (size_none None size is refl) in omega (arith, less)
files_are (Some l) size old new is there absent = there (subst IsSome (sym is) refl)

pub full_files : (log : Log) (file n files : ℕ) (size : Option ℕ) → log.files_left ≡ files
    → size ≡ option_map length (reads_of log.history file) → files ≡ 0 → IsNone size → IsFull log file n
full_files log file n files size left is zero none =
    inr (inr (left ∙ zero, none_size (reads_of log.history file) size is none))

pub not_full : (log : Log) (file n calls bytes files new : ℕ) (size : Option ℕ)
    → log.calls_left ≡ calls → log.bytes_left ≡ bytes → log.files_left ≡ files → calls ≢ 0 → n ≤ bytes
    → size ≡ option_map length (reads_of log.history file) → (IsNone size → files ≡ new + 1)
    → IsFull log file n → ⊥
not_full log file n calls bytes files new size is_calls is_bytes is_files some fits is absent full = ⊎_elim
    (λ zero. some (sym is_calls ∙ zero))
    (λ rest. ⊎_elim
    (λ less. omega (arith, less, is_bytes, fits))
    (λ none. let more = absent (size_none (reads_of log.history file) size is none.1) in
    omega (arith, more, is_files, none.0))
    rest)
    full

pub not_both : (size : Option ℕ) → IsSome size → IsNone size → ⊥
not_both None some none = cc some
not_both (Some s) some none = cc none

-- there is room for the heads of the files that may still be made
pub heads_fit : (size : Option ℕ) (heads new_heads left new_left room new_room : ℕ) → heads + left ≤ room
    → room ≤ new_room → new_heads ≤ heads + 1 → (IsSome size → new_left ≡ left) → (IsNone size → left ≡ new_left + 1)
    → (IsSome size → new_heads ≡ heads)
    → new_heads + new_left ≤ new_room
heads_fit None heads new_heads left new_left room new_room fits grows more there absent same =
    let less = absent refl in
    omega (arith, less, fits, grows, more)
heads_fit (Some s) heads new_heads left new_left room new_room fits grows more there absent same =
    let stays = there refl in
    let no_more = same refl in
    omega (arith, stays, no_more, fits, grows)
