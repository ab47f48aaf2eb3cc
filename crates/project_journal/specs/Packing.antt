-- A journal that was put into one header, in the file that it was not in before.
use Rattle.std.specs.Prelude.{◌≡◌, ◌≢◌, ◌⊎◌, ◌↔◌, ℕ, ◌+◌, ◌^◌, ◌<◌, Bool, IsTrue, IsSome, List, [], ◌∷◌, ◌++◌, length}
use Rattle.std.specs.List.{flat_map}
use Rattle.byteorder.specs.Endian.{little_bytes}
use Rattle.disk_model.specs.{Disk.Files, Room.Room, declared.store.Store.Ghosts}
use Rattle.project_journal.specs.{Choice.other_file, Header.Form, Header.IsForm, Header.form_3, Header.base_row}
use Rattle.project_journal.specs.{Journal.Log, Journal.HasLog, Journal.IsAt, Journal.IsHeader}

-- a point after its length
abbrev pub sized : List ℕ → List ℕ
sized point = little_bytes 4 (length point) ++ point

-- what stands after the gate of a header of version 3
abbrev pub header_row : Log → List ℕ
header_row log = base_row log.rate log.block_size log.depth log.base ++ flat_map sized log.points

-- each has a length that 4 bytes tell
abbrev pub AreShort : List (List ℕ) → Type 0
AreShort [] = Unit {0}
AreShort (point ∷ points) = (length point < 2 ^ 32) × AreShort points

-- This text, after a gate, is a journal without records: a header of version 3, and the first record's gate.
pub record IsText (text : List ℕ) (log : Log) : Type 0 where
  pub header : List ℕ
  pub parts : text ≡ header ++ 0 ∷ []
  pub none : log.bodies ≡ []
  pub spelled : (file gate : ℕ) → gate ≢ 0 → IsHeader (form_3 file) (gate ∷ header) log

-- it is told whether the file is there
abbrev pub Tells : Bool → ℕ → Files → Type 0
Tells there file files = IsTrue there ↔ IsSome (files file)

-- What a journal is put into: the store has it in this file, and the text is that of a journal of a later generation.
pub record MayPack {D : Type 0} (disk : Ghosts D) (store : D) (file : ℕ) (there : Bool) (text : List ℕ)
    (form : Form) (log packed : Log) : Type 0 where
  pub tells : IsTrue (disk.tells store)
  pub known : IsForm form
  pub same : form.file ≡ file
  pub at : ℕ
  pub here : IsAt form disk store at log
  pub other : Tells there (other_file file) (disk.reads store)
  pub spells : IsText text packed
  pub later : log.base.generation < packed.base.generation

-- the files hold the journal as it was, or put into one header in the other file
abbrev pub HasEither : Form → Log → Log → Files → Type 0
HasEither form log packed files = HasLog form log files ⊎ HasLog (form_3 (other_file form.file)) packed files

-- only the files of journals change
abbrev pub OnlyJournals : ℕ → Files → Files → Type 0
OnlyJournals file d c = (n : ℕ) → n ≢ file → n ≢ other_file file → c n ≡ d n

-- what is asked of a store: the other file removed, its gate shut, the text and the gate written, the old file removed
abbrev pub pack_room : ℕ → Room
pack_room len = record { files = 1; bytes = 2 + len; calls = 11 }
