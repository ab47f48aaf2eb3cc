-- Which files are open.
use Rattle.std.specs.Prelude.{◌≡◌, [], None}
use Rattle.project_folder.specs.declared.open_files.OpenFiles.{OpenFiles}

-- no file is open
abbrev pub IsNoneOpen : {F : Type 0} → OpenFiles F → Type 0
IsNoneOpen files =
    (files.first ≡ None) × (files.waiting.items ≡ []) × (files.synced.items ≡ []) × (files.read.items ≡ [])
