-- Where the disk in memory of a script counts a fault, the first entries of the run need more than its room.
use Rattle.session_run.proofs.Common.{◌≡◌, ◌⊎◌, inl, inr, ⊎_elim, refl, sym, ap, ◌∙◌, subst, ℕ, ◌+◌, ◌-◌, ◌*◌, ◌≤◌}
use Rattle.session_run.proofs.Common.{Bool, true, false, IsSome, Option, List, [], ◌∷◌, ◌++◌, length, Result, Ok, Err}
use Rattle.session_run.proofs.Common.{arith, true≢false, IfErr, Answers, outside, result_of, Reply, Call, Entry}
use Rattle.session_run.proofs.Common.{Refusal, IsSpent, Room, StaysRoom, asked, Ghosts, reply_of, Core, begun_in_vain}
use Rattle.session_run.proofs.Common.{may_have_begun, IsStudio, studio_of, AllTell, AreTold, Chain, Deed, entries_of}
use Rattle.session_run.proofs.Common.{entry_of, carried_is, IsTooMuch, Sum, has_begun, nothing_needed, plus, faults_of}
use Rattle.session_run.proofs.Common.{tried_project}
use Rattle.session_run.proofs.NeedLemmas.{Began, began, idle, mixed, not_begun, vain_most, vain_none}
use Rattle.session_run.proofs.RoomLemmas.{HasAskedFor, IsFine, gone_few, much_more, room_on, too_much}
use Rattle.session_run.proofs.{GoneLemmas.more_missing, MissingLemmas.missing, PromiseLemmas.plain_of}
use Rattle.pcm_base.specs.{Run.name_in, Counters.places_of}
use Rattle.disk_model.specs.{Room.files_made, Frames.Kept}
use Rattle.editor_state.specs.Packing.{packed_by, packed_size, packs}
use Rattle.editor_state.specs.{Exchanges.exchange_of, Left.Left, Took.Took, Took.asks}
use Rattle.editor_state.proofs.Calls.RunEntries.{step_of}
use Rattle.editor_cleanup.proofs.HeaderSizes.{packed_few}
use Rattle.studio_seats.specs.{Stands.Does, Faults.AllServed}
use Rattle.studio_seats.proofs.FaultLemmas.{desks_serve}
use Rattle.session_run.specs.Outgrown.{NeedsAll, NeedsOne, packed_within}
use Rattle.memory_project.proofs.LineLemmas.{rose_not}
use Rattle.pcm_base.specs.declared.command.Call.TheVariants as call
use Rattle.pcm_base.specs.declared.command.Command.TheVariants as command
use Rattle.pcm_base.specs.Studio as model
use Rattle.edit_ports.specs.declared.vault.Vault as vault

-- The first of these entries need so much that it is too much after the rest.
pub record Grows (t : model.Studio) (es : List Entry) (before : Sum) : Type 0 where
  pub front : List Entry
  pub back : List Entry
  pub cut : es ≡ front ++ back
  pub more : Sum
  pub needs : NeedsAll t front more
  pub over : IsTooMuch tried_project (plus before more)

-- where no entry is needed for that
grows_now : (t : model.Studio) (es : List Entry) (before : Sum) → IsTooMuch tried_project (plus before nothing_needed)
    → Grows t es before
grows_now t es before over =
    record { front = []; back = es; cut = refl; more = nothing_needed; needs = refl; over = over }

-- how many bytes a journal has that a call puts into one header
abbrev packed_bytes : {D : Type 0} → Core D → Call → ℕ
packed_bytes s (call.Line command.Compact) = packed_size s
packed_bytes s c = 0

-- its first gate is written twice
packed_is : {D : Type 0} (s : Core D) (c : Call) → packed_by s c ≡ packed_bytes s c + packs c
packed_is s (call.Line command.Compact) = omega arith
packed_is s c = refl

packed_fits : {D : Type 0} (disk : Ghosts D) (s : Core D) → IsStudio disk s → (c : Call)
    → packed_bytes s c ≤ packed_within (studio_of disk s) c
packed_fits disk s is (call.Line command.Compact) = packed_few disk s is
packed_fits disk s is c = omega arith

-- ---- one deed

module _ {D V : Type 0} (disk : Ghosts D) (vaults : vault.Ghosts V) (from : Room) (old new : Core D) (d : Deed)
    (does : Does disk (AllTell vaults) old d new) (told : IsSome (name_in d.call) → AllTell vaults) (sum : Sum)
    (fine : IsFine disk from old sum) where
  abbrev t : model.Studio
  t = studio_of disk old

  abbrev u : model.Studio
  u = studio_of disk new

  took : Took disk old (exchange_of d.call d.sound d.what does.removed) new
  took = does.took told

  answers : Answers t d.call d.sound d.what u
  answers = took.step fine.held

  -- what it needs where it may have asked the disk
  abbrev one_of : Began t u d.call d.sound → Sum
  one_of b = record {
    calls = 1;
    blocks = b.blocks + packs d.call;
    journal = places_of d.call took.len + packed_bytes old d.call;
  }

  -- the same of an entry that answers so
  needs_as : (one : Sum) → NeedsOne (has_begun d.what) t (entry_of d) one
      → NeedsOne (has_begun (result_of (reply_of d.what))) t (entry_of d) one
  needs_as one n = subst (λ (w : Result Reply Refusal). NeedsOne (has_begun w) t (entry_of d) one)
      (sym (plain_of t u d.call d.sound d.what answers)) n

  needs_begun : (b : Began t u d.call d.sound) → has_begun d.what ≡ true
      → NeedsOne (has_begun d.what) t (entry_of d) (one_of b)
  needs_begun b is = let w = took.needs fine.held in
      subst (λ (x : Bool). NeedsOne x t (entry_of d) (one_of b)) (sym is)
      (record {
        calls = refl;
        blocks = b.blocks;
        len = took.len;
        packed = packed_bytes old d.call;
        needs = mixed (outside t d.sound) t d.call b.blocks b.len w.0 took.len b.needs w.1;
        within = packed_fits disk old fine.studio d.call;
        blocks_are = refl;
        journal_is = refl;
      })

  needs_idle : has_begun d.what ≡ false → NeedsOne (has_begun d.what) t (entry_of d) nothing_needed
  needs_idle is = subst (λ (x : Bool). NeedsOne x t (entry_of d) nothing_needed) (sym is) refl

  abbrev gone : ℕ
  gone = fine.gone + length does.removed

  lost : t.next_block ≤ u.next_block → gone ≤ missing new.counts 16 (new.next_block - 16)
  lost later = more_missing disk old new d.what does.removed fine.studio fine.held fine.going d.call took.frees took.ids
      later fine.gone fine.lost

  -- what was asked in all, where it may have asked
  asked_begun : (b : Began t u d.call d.sound)
      → HasAskedFor from (asked disk new.store) (plus sum (one_of b)) gone (begun_in_vain d.what)
  asked_begun b =
      let there : files_made (disk.reads old.store old.file) ≡ 0 =
      ap files_made (fine.held.durable fine.going).there.read.1 in
      let vain : ℕ = begun_in_vain d.what in
      let made : ℕ = new.next_block - old.next_block in
      let few : made ≤ b.blocks = let most = b.most in omega (arith, most) in
      let journal : Option (List ℕ) = disk.reads old.store old.file in
      let packed = packed_by old d.call in
      let packing = packed_is old d.call in
      let length_is : (asks (exchange_of d.call d.sound d.what does.removed) journal old.block_size made took.len
      packed).bytes ≡ places_of d.call took.len + packed + (made + vain) * 48 =
      ap (λ (m : ℕ). (asks (exchange_of d.call d.sound d.what does.removed) journal m made took.len packed).bytes)
      fine.size in
      let files = took.changed.files fine.held.tells in
      let bytes = took.changed.bytes in
      let calls = took.changed.calls in
      let a = fine.has_asked.files in let e = fine.has_asked.bytes in let f = fine.has_asked.calls in record {
        files = omega (arith, there, few, files, a);
        bytes = omega (arith, length_is, packing, few, bytes, e);
        calls = omega (arith, few, calls, f);
      }

  -- and where it did not
  kept : has_begun d.what ≡ false → Kept disk old.store new.store
  kept is = by d.what is took.untouched
    where
      by : (what : Result Reply Refusal) → has_begun what ≡ false
          → IfErr what (λ why. may_have_begun d.call why ≡ false → Kept disk old.store new.store)
          → Kept disk old.store new.store
      by (Ok r) is h = absurd (true≢false is)
      by (Err why) is h = h (not_begun d.call why is)

  asked_idle : has_begun d.what ≡ false
      → HasAskedFor from (asked disk new.store) (plus sum nothing_needed) gone 0
  asked_idle is =
      let k = kept is in
      let files = k.same_absent in let bytes = k.same_bytes in let calls = k.same_calls in
      let a = fine.has_asked.files in let e = fine.has_asked.bytes in let f = fine.has_asked.calls in record {
        files = omega (arith, files, a);
        bytes = omega (arith, bytes, e);
        calls = omega (arith, calls, f);
      }

  -- ---- no fault was counted

  module _ (same : disk.change_fault_count new.store ≡ disk.change_fault_count old.store) (only : AreTold vaults (d ∷ []))
    where
      changes : disk.change_fault_count new.store ≡ 0
      changes = same ∙ fine.changes

      reads : disk.read_fault_count new.store ≡ 0
      reads = took.changed.unfailing (subst (λ (r : Option Room). IsSome r) (sym fine.is) refl) ∙ fine.reads

      served : AllServed new (d ∷ [])
      served = desks_serve disk vaults old new (d ∷ [])
          (record { began = fine.studio; chain = (new, does, refl) }) only fine.held fine.going (record {
            reads = λ rose. rose_not t.read_faults u.read_faults fine.reads reads rose;
            changes = λ rose. rose_not t.change_faults u.change_faults fine.changes changes rose;
          })

      sizes : new.block_size ≡ old.block_size
      sizes = by d.what answers took.left
        where
          by : (what : Result Reply Refusal) → Answers t d.call d.sound what u
              → IfErr what (Left disk old new) → new.block_size ≡ old.block_size
          by (Ok r) h left = ap (λ (z : model.Studio). z.block_size) (carried_is t u d.call d.sound r h)
          by (Err why) h left = ap (λ (z : Core D). z.block_size) left.same

      fine_on : (one : Sum) → t.next_block ≤ u.next_block → u.next_block ≤ t.next_block + one.blocks
          → HasAskedFor from (asked disk new.store) (plus sum one) gone 0 → IsFine disk from new (plus sum one)
      fine_on one later most asks =
          let on = room_on from fine.room (disk.room new.store) fine.large
          (subst (λ (r : Option Room). StaysRoom r (disk.room new.store)) fine.is took.changed.room) in
          let before = fine.given in record {
            studio = took.studio;
            held = took.held fine.held;
            going = served.going;
            reads = reads;
            changes = changes;
            room = on.0;
            is = on.1;
            large = on.2;
            gone = gone;
            has_asked = asks;
            lost = lost later;
            given = omega (arith, before, most);
            size = sizes ∙ fine.size;
          }

      -- what it needs, and what is left then
      record Onward : Type 0 where
        one : Sum
        needs : NeedsOne (has_begun d.what) t (entry_of d) one
        stays : IsFine disk from new (plus sum one)

      onward : (b : Bool) → has_begun d.what ≡ b → Onward
      onward true is =
          let b = began t u d.call d.sound d.what is answers in record {
            one = one_of b;
            needs = needs_begun b is;
            stays = fine_on (one_of b) b.least (let most = b.most in omega (arith, most))
                (subst (λ (v : ℕ). HasAskedFor from (asked disk new.store) (plus sum (one_of b)) gone v)
                (vain_none d.call d.what served.served.0 served.unharmed.0) (asked_begun b));
          }
      onward false is =
          let next : u.next_block ≡ t.next_block =
          ap (λ (z : model.Studio). z.next_block) (idle t u d.call d.sound d.what is answers) in record {
            one = nothing_needed;
            needs = needs_idle is;
            stays = fine_on nothing_needed (omega (arith, next)) (omega (arith, next)) (asked_idle is);
          }

  -- the deed, and then others
  grown_on : (rest : List Entry) (one : Sum) → NeedsOne (has_begun d.what) t (entry_of d) one
      → Grows u rest (plus sum one) → Grows t (entry_of d ∷ rest) sum
  grown_on rest one needs g = record {
    front = entry_of d ∷ g.front;
    back = g.back;
    cut = ap (λ (z : List Entry). entry_of d ∷ z) g.cut;
    more = plus one g.more;
    needs = record {
      next = u;
      step = step_of t u d.call d.sound d.what answers;
      one = one;
      needs = needs_as one needs;
      rest = g.more;
      others = g.needs;
      are = refl;
    };
    over = much_more (plus (plus sum one) g.more) (plus sum (plus one g.more)) (omega arith) (omega arith) (omega arith)
        g.over;
  }

  -- ---- the room was spent

  grown : (rest : List Entry) → IsSpent (disk.room old.store) (asked disk new.store) → (b : Bool) → has_begun d.what ≡ b
      → Grows t (entry_of d ∷ rest) sum
  grown rest spent b is = by b is
    where
      -- so much was needed, which is more than there was
      over : (one : Sum) (vain : ℕ) → HasAskedFor from (asked disk new.store) (plus sum one) gone vain → vain ≤ 1
          → t.next_block ≤ u.next_block → u.next_block ≤ t.next_block + one.blocks
          → IsTooMuch tried_project (plus sum one)
      over one vain has few least most = let before = fine.given in
          too_much from fine.room (asked disk new.store) (plus sum one) gone vain fine.large has
          (gone_few disk new (plus sum one) gone (lost least) (omega (arith, before, most))) few
          (subst (λ (r : Option Room). IsSpent r (asked disk new.store)) fine.is spent)

      by : (b : Bool) → has_begun d.what ≡ b → Grows t (entry_of d ∷ rest) sum
      by true is =
          let b = began t u d.call d.sound d.what is answers in
          grown_on rest (one_of b) (needs_begun b is) (grows_now u rest (plus sum (one_of b))
          (much_more (plus sum (one_of b)) (plus (plus sum (one_of b)) nothing_needed) (omega arith) (omega arith)
          (omega arith) (over (one_of b) (begun_in_vain d.what) (asked_begun b) (vain_most d.what) b.least
          (let most = b.most in omega (arith, most)))))
      by false is = let next : u.next_block ≡ t.next_block =
          ap (λ (z : model.Studio). z.next_block) (idle t u d.call d.sound d.what is answers) in
          grows_now t (entry_of d ∷ rest) sum
          (over nothing_needed 0 (asked_idle is) (omega arith) (omega (arith, next)) (omega (arith, next)))

-- ---- all of them

module _ {D V : Type 0} (disk : Ghosts D) (vaults : vault.Ghosts V) (from : Room) where
  pub fits : (old : Core D) (ds : List Deed) (new : Core D) → Chain disk vaults old ds new → (sum : Sum)
      → AreTold vaults ds → IsFine disk from old sum
      → (faults_of disk new ≡ 0) ⊎ Grows (studio_of disk old) (entries_of ds) sum
  fits old [] new chain sum told fine =
      let reads = fine.reads in let changes = fine.changes in
      inl (subst (λ (z : Core D). faults_of disk z ≡ 0) (sym chain) (omega (arith, reads, changes)))
  fits old (d ∷ ds) new (mid, does, chain) sum told fine = ⊎_elim
      (λ same.
      let on = onward disk vaults from old mid d does told.0 sum fine same (told.0, tt) (has_begun d.what) refl in
      ⊎_elim (λ none. inl none)
      (λ g. inr (grown_on disk vaults from old mid d does told.0 sum fine (entries_of ds) on.one on.needs g))
      (fits mid ds new chain (plus sum on.one) told.1 on.stays))
      (λ spent.
      inr (grown disk vaults from old mid d does told.0 sum fine (entries_of ds) spent (has_begun d.what) refl))
      (does.took told.0).changed.spent
