-- Which test refuses a commit.
use Rattle.editor_state.proofs.Common.{rules, ◌≡◌, refl, sym, ap, ◌∙◌, ℕ, ◌+◌, ◌^◌, ◌≤◌, ◌<◌, suc, true, Option, Some}
use Rattle.editor_state.proofs.Common.{None, arith, true≢false, none-some, no_room, commits_of, generations_of, pins_of}
use Rattle.editor_state.proofs.Common.{places_of, counter_tests, layouts_of, record_test, ◌otherwise◌, refused_if}
use Rattle.editor_state.proofs.Common.{call_tests, outside, refusal_of, stop_of, Shape, Compact, Call, SoundMove}
use Rattle.editor_state.proofs.Common.{Refusal, Outside, LONGEST_BODY, Outgrows}
use Rattle.std.proofs.lemmas.Bool.{eqb-true, le-ltb, lt-ltb}
use Rattle.pcm_base.specs.declared.refusal.Refusal.TheVariants.{SpaceSpent, RecordLimit}
use Rattle.pcm_base.specs.Counters.{generations_by, record_bytes}
use Rattle.pcm_base.specs.Shape.{is_commit}
use Rattle.editor_state.specs.Adding.{Exceeds}
use Rattle.pcm_base.specs.declared.command.Call.TheVariants as call
use Rattle.pcm_base.specs.Studio as model
use Rattle.editor_state.specs.Commits as commits

pub fits : (have need : ℕ) → have + need ≤ 2 ^ 62 → no_room have need ≡ None
fits have need h = ap (λ b. refused_if b (SpaceSpent have need)) (le-ltb (2 ^ 62) (have + need) h)

pub spends : (have need : ℕ) → 2 ^ 62 < have + need → no_room have need ≡ Some (SpaceSpent have need)
spends have need h = ap (λ b. refused_if b (SpaceSpent have need)) (lt-ltb (2 ^ 62) (have + need) h)

-- what refuses a record refuses it too where numbers are left for its layouts
pub outgrows : (end next layouts len : ℕ) (why : Refusal) → next + layouts ≤ 2 ^ 62 → Exceeds end len why
    → Outgrows end next layouts len why
outgrows end next layouts len (SpaceSpent have need) room h = search (rules, spends)
outgrows end next layouts len (RecordLimit n) room h = search (rules, fits, lt-ltb)
outgrows end next layouts len why room h = absurd h

abbrev pub IsCommitCall : Call → SoundMove → (tracks more : ℕ) → Type 0
IsCommitCall = commits.IsCommitCall

-- the first two tests
first_two : (stop own rest : Option Refusal) (why : Refusal) → stop otherwise own ≡ Some why
    → stop otherwise own otherwise rest ≡ Some why
first_two (Some r) own rest why h = h
first_two None (Some r) rest why h = h
first_two None None rest why h = absurd (none-some why h)

-- the first three counters
first_three : (x y z rest tail : Option Refusal) (why : Refusal) → x otherwise y otherwise z ≡ Some why
    → (x otherwise y otherwise z otherwise rest) otherwise tail ≡ Some why
first_three (Some r) y z rest tail why h = h
first_three None (Some r) z rest tail why h = h
first_three None None (Some r) rest tail why h = h
first_three None None None rest tail why h = absurd (none-some why h)

-- the first two tests, or one of two counters after them
first_four : (stop own x y rest tail : Option Refusal) (why : Refusal)
    → stop otherwise own otherwise x otherwise y ≡ Some why
    → stop otherwise own otherwise (x otherwise y otherwise rest) otherwise tail ≡ Some why
first_four None None None None rest tail why h = absurd (none-some why h)
first_four _ _ _ _ rest tail why h = h

-- no commit packs the journal
line_packs_none : (shape : Shape) → is_commit shape ≡ true → generations_by shape ≡ 0
line_packs_none Compact is = absurd (true≢false (sym is))
line_packs_none _ is = refl

pub commit_packs_none : {more : ℕ} (c : Call) → commits_of c ≡ suc more → generations_of c ≡ 0
commit_packs_none {more = more} (call.Line c) many = search (rules, line_packs_none)
commit_packs_none (call.Piece track tag samples) many = refl
commit_packs_none call.Pin many = refl
commit_packs_none (call.PinLen pin) many = refl
commit_packs_none (call.ReadPin pin from count) many = refl
commit_packs_none (call.LoadPin pin from count) many = refl
commit_packs_none (call.Unpin pin) many = refl

-- the places of the journal that commits need
pub commit_places : {more : ℕ} (c : Call) (len : ℕ) → commits_of c ≡ suc more → places_of c len ≡ 6 + len
commit_places c len many = search (rules, eqb-true)

pub commit_bytes : {more : ℕ} (c : Call) (len : ℕ) → commits_of c ≡ suc more → record_bytes c len ≡ 5 + len
commit_bytes c len many = search (rules, eqb-true)

module _ (t : model.Studio) (c : Call) (sound : SoundMove) (tracks : ℕ) {more : ℕ}
    (is : IsCommitCall c sound tracks more) (blocks len : ℕ) where
  abbrev out : Outside
  out = outside t sound

  -- the studio is stopped, or an own test refuses it
  pub early : (why : Refusal) → (stop_of t.stopped) otherwise (call_tests out t.state c) ≡ Some why
      → refusal_of out t c blocks len ≡ Some why
  early why h = search (rules, first_two)

  module _ (room : t.state.next_pin ≤ 2 ^ 62) (later : t.generation ≤ 2 ^ 62) where
    places : places_of c len ≡ 6 + len
    places = commit_places c len is.many

    no_pins : no_room t.state.next_pin (pins_of c) ≡ None
    no_pins = ap (no_room t.state.next_pin) is.no_pin ∙ fits t.state.next_pin 0 (omega (arith, room))

    no_generation : no_room t.generation (generations_of c) ≡ None
    no_generation = ap (no_room t.generation) (commit_packs_none c is.many)
        ∙ fits t.generation 0 (omega (arith, later))

    -- the numbers of its layouts
    abbrev drawn : Option Refusal
    drawn = no_room t.next_layout (layouts_of out t.state c)

    -- the counters by their numbers
    counters : counter_tests out t c blocks len
        ≡ ((no_room t.next_block blocks) otherwise (no_room t.state.next_track tracks) otherwise
        (no_room t.state.commit (suc more)) otherwise (no_room t.journal_end (6 + len)) otherwise drawn)
    counters = search (rules, no_pins, places, no_generation)

    -- the studio is stopped, an own test refuses it, or a counter that comes after that of the blocks
    pub tested : (why : Refusal) → t.next_block + blocks ≤ 2 ^ 62
        → (stop_of t.stopped) otherwise (call_tests out t.state c) otherwise
        (no_room t.state.next_track tracks) otherwise (no_room t.state.commit (suc more)) ≡ Some why
        → refusal_of out t c blocks len ≡ Some why
    tested why place h = search (rules, fits, counters, first_four)

    module _ (going : t.stopped ≡ None) (own : call_tests out t.state c ≡ None) where
      only_counters : refusal_of out t c blocks len
          ≡ (((no_room t.next_block blocks) otherwise (no_room t.state.next_track tracks) otherwise
          (no_room t.state.commit (suc more)) otherwise (no_room t.journal_end (6 + len)) otherwise drawn)
          otherwise (record_test len))
      only_counters = λ i. ((is.stops t.stopped ∙ ap stop_of going) i) otherwise (own i) otherwise
          (counters i) otherwise (record_test len)

      -- the next block, the next track or the commit number
      pub counter_spent : (why : Refusal) → (no_room t.next_block blocks) otherwise
          (no_room t.state.next_track tracks) otherwise (no_room t.state.commit (suc more)) ≡ Some why
          → refusal_of out t c blocks len ≡ Some why
      counter_spent why h = search (rules, only_counters, first_three)

      module _ (place : t.next_block + blocks ≤ 2 ^ 62) (ids : t.state.next_track + tracks ≤ 2 ^ 62)
          (number : t.state.commit + suc more ≤ 2 ^ 62) where
        only_journal : refusal_of out t c blocks len
            ≡ (((no_room t.journal_end (6 + len)) otherwise drawn) otherwise (record_test len))
        only_journal = search (rules, fits, only_counters)

        -- the journal's places, the numbers of layouts, or the record's length
        pub exceeded : (why : Refusal) → Outgrows t.journal_end t.next_layout (layouts_of out t.state c) len why
            → refusal_of out t c blocks len ≡ Some why
        exceeded why h = only_journal ∙ h

        -- nothing refuses it
        pub nothing : t.next_layout + layouts_of out t.state c ≤ 2 ^ 62 → t.journal_end + (6 + len) ≤ 2 ^ 62
            → len ≤ LONGEST_BODY → refusal_of out t c blocks len ≡ None
        nothing left end short = search (rules, fits, le-ltb, only_journal)
