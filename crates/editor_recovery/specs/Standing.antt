-- The project that stands in the journal of a disk, in file 0 or 1.
use Rattle.std.specs.Prelude.{◌⊎◌, ◌≤◌}
use Rattle.disk_model.specs.Disk.{Files, bytes_of}
use Rattle.project_journal.specs.Header.{Form, IsForm, IsProject}
use Rattle.project_journal.specs.{Journal.Log, Journal.HasLog, Start.NoProject}
use Rattle.record_body.specs.Saved.{Saved, Begins, LeadIn, version_of}

-- a project is there, or none
abbrev pub HasSome : Files → Type 0
HasSome files = IsProject (bytes_of (files 0)) ⊎ IsProject (bytes_of (files 1))

abbrev pub HasNone : Files → Type 0
HasNone files = NoProject 0 files × NoProject 1 files

-- A disk has a journal of this form. It begins with a project, from which its records lead to this one.
pub record Stands (files : Files) (form : Form) (log : Log) (kept : Saved) : Type 0 where
  pub known : IsForm form
  pub few : form.file ≤ 1
  pub there : HasLog form log files
  pub base : Saved
  pub begins : Begins log base
  pub told : LeadIn (version_of form) log.block_size base log.bodies kept
