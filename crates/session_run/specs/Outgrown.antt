-- What a run asks of a disk in memory, by the model's bounds, and where that is more than its room.
use Rattle.std.specs.Prelude.{◌≡◌, ◌⊎◌, ℕ, ◌+◌, ◌*◌, ◌<◌, ◌≤◌, Bool, true, false, List, [], ◌∷◌, ◌++◌, Result, Ok, Err}
use Rattle.pcm_base.specs.{declared.answer.Reply.Reply, declared.command.Call.Call}
use Rattle.pcm_base.specs.{declared.command.Call.TheVariants.Line, declared.command.Command.TheVariants.Compact}
use Rattle.pcm_base.specs.{declared.entry.Entry.Entry, declared.refusal.Refusal.Refusal, Counters.Needs}
use Rattle.pcm_base.specs.{Counters.places_of, Run.Step, Run.outside, Run.result_of, Studio.Studio}
use Rattle.editor_state.specs.{Exchanges.may_begin, Packing.packed_most, Packing.packs}
use Rattle.memory_project.specs.declared.fresh.FreshProject.{FreshProject}

-- What calls need in all: how many they are, the ids of blocks with the journals that are put into one header, and the
-- bytes of journals.
pub record Sum : Type 0 where
  pub calls : ℕ
  pub blocks : ℕ
  pub journal : ℕ

abbrev pub nothing_needed : Sum
nothing_needed = record { calls = 0; blocks = 0; journal = 0 }

-- both
abbrev pub plus : Sum → Sum → Sum
plus a b = record { calls = a.calls + b.calls; blocks = a.blocks + b.blocks; journal = a.journal + b.journal }

-- whether a call may have asked the disk: it was carried out, or a device broke it off
abbrev pub has_begun : Result Reply Refusal → Bool
has_begun (Ok r) = true
has_begun (Err why) = may_begin why

-- how many bytes a journal may have that a call puts into one header
abbrev pub packed_within : Studio → Call → ℕ
packed_within t (Line Compact) = packed_most t
packed_within t call = 0

-- what an entry needs that may have asked the disk
pub record BegunNeeds (t : Studio) (e : Entry) (one : Sum) : Type 0 where
  pub calls : one.calls ≡ 1
  pub blocks : ℕ
  pub len : ℕ
  pub packed : ℕ
  pub needs : Needs (outside t e.sound) t e.call blocks len
  pub within : packed ≤ packed_within t e.call
  pub blocks_are : one.blocks ≡ blocks + packs e.call
  pub journal_is : one.journal ≡ places_of e.call len + packed

-- What an entry needs. One that may have asked the disk is within the model's bounds on the blocks of a call and on its
-- record. One that a test refused, or a lack of memory, needs nothing.
abbrev pub NeedsOne : Bool → Studio → Entry → Sum → Type 0
NeedsOne true t e one = BegunNeeds t e one
NeedsOne false t e one = one ≡ nothing_needed

-- what the first entry needs, and then the others
pub record NeedsMore (t : Studio) (e : Entry) (Others : Studio → Sum → Type 0) (sum : Sum) : Type 0 where
  pub next : Studio
  pub step : Step t e.call e.sound e.reply next
  pub one : Sum
  pub needs : NeedsOne (has_begun (result_of e.reply)) t e one
  pub rest : Sum
  pub others : Others next rest
  pub are : sum ≡ plus one rest

-- From t on these entries, each a step, need so much in all.
abbrev pub NeedsAll : Studio → List Entry → Sum → Type 0
NeedsAll t [] sum = sum ≡ nothing_needed
NeedsAll t (e ∷ es) sum = NeedsMore t e (λ u rest. NeedsAll u es rest) sum

-- more than the disk of a project has room for
abbrev pub IsTooMuch : FreshProject → Sum → Type 0
IsTooMuch p sum = (p.files < 64 + sum.blocks)
    ⊎ ((p.bytes < 256 + 64 * sum.blocks + sum.journal) ⊎ (p.calls < 64 + 16 * sum.calls + 4 * sum.blocks))

-- The first entries of a run need more than the disk of a project has room for.
pub record Outgrows (p : FreshProject) (t : Studio) (entries : List Entry) : Type 0 where
  pub front : List Entry
  pub back : List Entry
  pub cut : entries ≡ front ++ back
  pub sum : Sum
  pub needs : NeedsAll t front sum
  pub over : IsTooMuch p sum
