-- The project that each image keeps.
use Rattle.editor_state.proofs.Common.{rules, ◌≡◌, ◌⊎◌, inl, inr, ⊎_elim, subst, ℕ, ◌≤◌, List, None, AllByRecursion}
use Rattle.editor_state.proofs.Common.{BlockRef, History, Sources, Files, SameElsewhere, Ghosts, sources_of, IsWhole}
use Rattle.editor_state.proofs.Common.{AllWhole, Log, with_bodies, EachNow, EachSince, Track, meant_history}
use Rattle.editor_state.proofs.Common.{history_blocks, Begins, Saved, LeadIn, Keeps, Core, form_at, IsGiven, SameBlocks}
use Rattle.editor_state.proofs.Common.{IsDurable, IsHeld, shown, studio_of, named_blocks}
use Rattle.disk_model.specs.{Disk.Follows}
use Rattle.project_journal.specs.Journal.{HasLog, HasOneOf}
use Rattle.project_journal.specs.{Header.Form, Header.IsForm}
use Rattle.project_journal.proofs.{Kept.each_has, Parses.form_known}
use Rattle.record_body.specs.Saved.{Opened, version_of}
use Rattle.record_body.proofs.Unnumbered.{history_blocks_alike, history_meant_alike}
use Rattle.editor_state.proofs.Blocks.BlockSounds.{same_history, all_sound, all_whole, blocks_same, trans_same}
use Rattle.editor_state.proofs.{Images.JournalLeads.begins_more, Images.JournalLeads.lead_all, Lists.all_left}

-- what opening finds of a project of blocks, by these samples
abbrev pub opened_by : Sources → Log → Saved → Opened
opened_by src log k = record {
  rate = log.rate;
  block_size = log.block_size;
  history = meant_history src k.history;
  next_track = k.next_track;
  commit = k.commit;
}

-- a form of journal in file 0 or 1
pub record IsFew (form : Form) : Type 0 where
  pub known : IsForm form
  pub few : form.file ≤ 1

pub keeps_by : (form : Form) (log : Log) (base k : Saved) (files c : Files) → IsFew form → HasLog form log c
    → Begins log base → LeadIn (version_of form) log.block_size base log.bodies k
    → SameBlocks (history_blocks k.history) files c → AllWhole files (history_blocks k.history)
    → Keeps c (opened_by (sources_of files) log k)
keeps_by form log base k files c of has begins led same whole = search (rules, same_history, all_sound, all_whole)

-- all that holds of some blocks holds of those that a history names
abbrev pub Covers : List BlockRef → History (List Track) → Type 1
Covers bs h = (P : BlockRef → Type 0) → AllByRecursion P bs → AllByRecursion P (history_blocks h)

-- records in flight, over blocks that each image has as the store reads them
module _ {D : Type 0} (disk : Ghosts D) (store new : D) (form : Form) (log : Log) (base k : Saved) (bs : List BlockRef)
    (next : ℕ) (of : IsFew form) (begins : Begins log base)
    (told : LeadIn (version_of form) log.block_size base log.bodies k)
    (ids : AllByRecursion (λ (b : BlockRef). IsGiven next b.id) bs) (whole : AllWhole (disk.reads store) bs)
    (same : EachNow disk store (SameBlocks bs (disk.reads store)))
    (follows : Follows (SameElsewhere form.file) (disk.clock store) (disk.clock new) (disk.may_leave store)
    (disk.may_leave new)) where
  -- each image since then has the blocks
  pub same_since : EachSince disk store new (SameBlocks bs (disk.reads store))
  same_since c since =
      let d = follows.from c since in
      trans_same (disk.reads store) d.0 c bs (same d.0 d.1) (blocks_same form.file d.0 c next bs of.few d.2 ids)

  pub one_of : (bodies : List (List ℕ)) (end : Saved) → LeadIn (version_of form) log.block_size k bodies end
      → Covers bs k.history
      → Covers bs end.history
      → EachSince disk store new (HasOneOf form log (with_bodies log bodies))
      → EachSince disk store new (λ c. Keeps c (opened_by (sources_of (disk.reads store)) log k)
      ⊎ Keeps c (opened_by (sources_of (disk.reads store)) log end))
  one_of bodies end leads_on old_covers new_covers any c since =
      let files = disk.reads store in
      let there = same_since c since in
      let led = lead_all (version_of form) log.block_size base k end log.bodies bodies told leads_on in
      ⊎_elim
      (λ has. inl (keeps_by form log base k files c of has begins told (old_covers (λ b. c b.id ≡ files b.id) there)
      (old_covers (IsWhole files) whole)))
      (λ has. inr (keeps_by form (with_bodies log bodies) base end files c of has
      (begins_more log bodies base begins) led
      (new_covers (λ b. c b.id ≡ files b.id) there) (new_covers (IsWhole files) whole)))
      (any c since)

-- at rest
pub form_few : {D : Type 0} (s : Core D) → s.file ≤ 1 → IsFew (form_at s)
form_few s few = record { known = form_known s.version s.file; few = few }

module _ {D : Type 0} (disk : Ghosts D) (s : Core D) where
  pub shown_is : (d : IsDurable disk s)
      → opened_by (sources_of (disk.reads s.store)) d.log d.kept ≡ shown (studio_of disk s)
  shown_is d = search (rules, history_meant_alike)

  pub covers_kept : (d : IsDurable disk s) → Covers (named_blocks s) d.kept.history
  covers_kept d P all = search (rules, history_blocks_alike, all_left)

  pub keeps_now : s.file ≤ 1 → s.stopped ≡ None → IsHeld disk s
      → EachNow disk s.store (λ c. Keeps c (shown (studio_of disk s)))
  keeps_now few going held c now =
      let d = held.durable going in
      let files = disk.reads s.store in
      subst (Keeps c) (shown_is d)
      (keeps_by (form_at s) d.log d.base d.kept files c (form_few s few) (each_has d.there c now) d.begins d.told
      (covers_kept d (λ b. c b.id ≡ files b.id) (d.blocks c now)) (covers_kept d (IsWhole files) held.whole))
