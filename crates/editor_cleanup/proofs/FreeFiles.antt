-- Files of ids of count 0 go, one after another.
use Rattle.editor_cleanup.proofs.Common.{◌≡◌, inl, refl, ℕ, Option, Some, rules, cases_eq, Line, Reclaim}
use Rattle.editor_cleanup.proofs.Common.{Files, RemoveStep, Counts, LeavesOthers, MayRemove, FreesFiles}

module _ (counts : Counts) where
  pub freed_none : (c : Files) → FreesFiles counts c c
  freed_none c = λ file. inl refl

  pub freed_then : (d e c : Files) → FreesFiles counts d e → FreesFiles counts e c → FreesFiles counts d c
  freed_then d e c one two = search rules

  pub freed_one : (id : ℕ) → counts id ≡ Some 0 → (d c : Files) → RemoveStep id d c → FreesFiles counts d c
  freed_one id free d c step file = search (rules, cases_eq)

  -- which is what a reclaim may do to the files
  pub freed_others : (limit : Option ℕ) (first last : ℕ) (d c : Files) → FreesFiles counts d c
      → LeavesOthers first last (MayRemove (Line (Reclaim limit)) counts) d c
  freed_others limit first last d c step = record { others = λ file other apart. step file }
