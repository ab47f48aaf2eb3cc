-- What `try` leaves of a fresh project in memory.
use Rattle.session_run.proofs.Common.{◌≡◌, ◌⊎◌, inl, inr, ⊎_elim, ℕ, List, nat_lt, if◌then◌else◌, ap, ◌∙◌, subst, arith}
use Rattle.session_run.proofs.Common.{asked, Ghosts, Core, LeavesForeign, studio_of, Deed, entries_of, DeedsAsk}
use Rattle.session_run.proofs.Common.{AreTold, Chain, Kinds, IsFresh, change, Ports, job, faults_of, tried_project}
use Rattle.session_run.proofs.Common.{Done, nothing_needed, plus, IsRefused, RunsTo}
use Rattle.studio_seats.specs.{Leads.chain_asks}
use Rattle.memory_project.specs.{declared.fresh.FreshProject.FreshProject}
use Rattle.session_run.specs.Ports.{Idle, SameVault}
use Rattle.session_run.specs.Tries.{Tried, nothing}
use Rattle.session_run.specs.{Outgrown.Outgrows, Runs.RunsOpened, Runs.Wants, Streams.Unread}
use Rattle.session_run.proofs.OutgrownLemmas.{Grows, fits}
use Rattle.session_run.proofs.RoomLemmas.{fresh_fine, much_more, spent_by}
use Rattle.script_text.specs.declared.call_fault.CallFault.TheVariants as call

-- the project that was made is that of a script that is tried
pub tried_at : {D : Type 0} (disk : Ghosts D) (p : FreshProject) (start : Core D) → p ≡ tried_project
    → IsFresh disk p start → IsFresh disk tried_project start
tried_at disk p start same fresh = subst (λ (q : FreshProject). IsFresh disk q start) same fresh

-- What `try` leaves, where the store that was handed in stands in the place of the memory disk.
module _ {D V M P C : Type 0} (k : Kinds D V M P) (start : Core D) (p : Ports V M P) (done : Done D)
    (store : C) (status : ℕ) (fresh_is : IsFresh k.disk tried_project start) (ask : DeedsAsk k.disk k.vaults) where
  abbrev disk : Ghosts D
  disk = k.disk

  abbrev given : Done C
  given = record {
    status = status;
    opened = done.opened;
    store = store;
    first_commit = done.first_commit;
    last_commit = done.last_commit;
    record_commit = done.record_commit;
    commits = done.commits;
    pieces = done.pieces;
  }

  -- no call of the memory disk failed, or the first deeds need more than its room
  served : (final : Core D) (deeds : List Deed) → Chain k.disk k.vaults start deeds final → AreTold k.vaults deeds
      → (faults_of k.disk final ≡ 0) ⊎ Outgrows tried_project (studio_of k.disk start) (entries_of deeds)
  served final deeds chain told = ⊎_elim
      (λ (none : faults_of k.disk final ≡ 0). inl none)
      (λ (g : Grows (studio_of k.disk start) (entries_of deeds) nothing_needed). inr (record {
        front = g.front;
        back = g.back;
        cut = g.cut;
        sum = g.more;
        needs = g.needs;
        over = much_more (plus nothing_needed g.more) g.more (omega arith) (omega arith) (omega arith) g.over;
      }))
      (fits k.disk k.vaults (asked k.disk start.store) start deeds final chain nothing_needed told
      (fresh_fine k.disk start fresh_is))

  ran : (final : Core D) → status ≡ (if nat_lt 0 (faults_of disk final) then 4 else done.status)
      → RunsTo k (change start final) (job p nothing) done → Tried k p given
  ran final is r = record {
    start = start;
    final = final;
    fresh_is = fresh_is;
    status = done.status;
    ran = record {
      ran = r.ran;
      status_is = r.status_is;
      opened = r.opened;
      first = r.first;
      last = r.last;
      record_is = r.record_is;
      commits = r.commits;
      pieces = r.pieces;
    };
    status_is = is;
    served = λ told. served final r.ran.session.deeds r.ran.session.stands.chain told;
    spent = spent_by k.disk start final LeavesForeign
        (chain_asks k.disk k.vaults start r.ran.session.deeds final r.ran.session.stands.chain) fresh_is
        (ask start final r.ran.session.deeds r.ran.session.stands);
  }

  -- nothing was asked of the memory disk, so it has counted nothing
  wants : (final : Core D) → status ≡ (if nat_lt 0 (faults_of disk final) then 4 else done.status)
      → Wants start final p done → IsRefused call.NoMemory p.streams given
  wants final is w =
      let reads : disk.read_fault_count final.store ≡ 0 =
      ap (λ (c : Core D). disk.read_fault_count c.store) w.same.0 ∙ fresh_is.room.reads in
      let changes : disk.change_fault_count final.store ≡ 0 =
      ap (λ (c : Core D). disk.change_fault_count c.store) w.same.0 ∙ fresh_is.room.changes in
      let none : faults_of disk final ≡ 0 = omega (arith, reads, changes) in
      let same : status ≡ done.status =
      is ∙ ap (λ (n : ℕ). if nat_lt 0 n then 4 else done.status) none in
      let d = w.refused.done_is in record {
        printed = w.refused.printed;
        done_is = record {
          status_is = same ∙ d.status_is;
          opened = d.opened;
          first = d.first;
          last = d.last;
          record_none = d.record_none;
          commits = d.commits;
          pieces = d.pieces;
        };
      }

  pub tried : (opened : RunsOpened k start (job p nothing) done)
      → status ≡ (if nat_lt 0 (faults_of disk opened.0) then 4 else done.status)
      → Tried k p given
      ⊎ (IsRefused call.NoMemory p.streams given × Unread p.streams × Idle p × SameVault p)
  tried opened is = ⊎_elim
      (λ (r : RunsTo k (change start opened.0) (job p nothing) done). inl (ran opened.0 is r))
      (λ (w : Wants start opened.0 p done). inr (wants opened.0 is w, w.unread, w.idle, w.same.1))
      opened.2
