-- Calls without a commit, which make no blocks: what refuses them, and what they leave where they leave the studio.
use Rattle.editor_state.proofs.Common.{rules, ◌≡◌, inl, refl, sym, ap, ◌∙◌, ℕ, ◌^◌, ◌≤◌, ◌==◌, if◌then◌else◌, Option}
use Rattle.editor_state.proofs.Common.{Some, None, Ok, Err, arith, Needs, commits_of, generations_of, pins_of}
use Rattle.editor_state.proofs.Common.{places_of, layouts_of, no_room, outside, stop_of, stop_test, refusal_of}
use Rattle.editor_state.proofs.Common.{CarriesOut, MayAnswer, Reply, Call, Refusal, Outside, ◌otherwise◌, call_tests}
use Rattle.editor_state.proofs.Common.{Ghosts, Fewer, changed_none, Core, MayRemove, IsHeld, IsStudio, studio_of, Took}
use Rattle.editor_state.proofs.Common.{quietly, silent, Needed}
use Rattle.pcm_base.specs.Counters.{tracks_of}
use Rattle.pcm_base.specs.Run.{followed}
use Rattle.pcm_base.specs.Step.{after, sound_after}
use Rattle.model_laws.proofs.Answered.{answered_same, moves_of, no_generation}
use Rattle.editor_state.proofs.Calls.FileRemovals.{PacksNone, RemovesNone, frees_none, frees_refused, ids_same}
use Rattle.editor_state.proofs.Calls.FileRemovals.{no_record, none_given}
use Rattle.editor_state.proofs.Refusals.EarlyRefusals.{refuses, wants}
use Rattle.editor_state.proofs.{Images.ImageProjects.keeps_now, Calls.OtherFiles.others_none}
use Rattle.editor_state.proofs.{Refusals.PurgeNumbers.quiet_purges, Refusals.CommitTests.fits}
use Rattle.editor_state.proofs.{Refusals.CounterNumbers.tests_needed}
use Rattle.pcm_base.specs.declared.refusal.Refusal.TheVariants as refusal
use Rattle.pcm_base.specs.Studio as model

-- a call that needs no block, no record, no commit, no track and no layout
pub record IsQuiet (c : Call) : Type 0 where
  pub needs : (t : model.Studio) → Needs (outside t silent) t c 0 0
  pub no_commit : commits_of c ≡ 0
  pub no_track : (t : model.Studio) → tracks_of (outside t silent) c ≡ 0
  pub no_layout : (t : model.Studio) → layouts_of (outside t silent) t.state c ≡ 0
  -- it keeps no sound
  pub quiet : (t : model.Studio) → sound_after (outside t silent) t.state c ≡ None

-- ---- the tests

module _ (t : model.Studio) (c : Call) where
  abbrev out : Outside
  out = outside t silent

  pub stopped_first : (blocks len faults : ℕ) → stop_test t.stopped c ≡ stop_of t.stopped → t.stopped ≡ Some faults
      → refusal_of out t c blocks len ≡ Some (refusal.Stopped faults)
  stopped_first blocks len faults is at = search rules

  -- its own tests
  pub own_first : (blocks len : ℕ) (why : Refusal) → stop_test t.stopped c ≡ None → call_tests out t.state c ≡ Some why
      → refusal_of out t c blocks len ≡ Some why
  own_first blocks len why going own = search rules

  -- the counters are within their bounds
  pub record HasRoom : Type 0 where
    pub block : t.next_block ≤ 2 ^ 62
    pub track : t.state.next_track ≤ 2 ^ 62
    pub commit : t.state.commit ≤ 2 ^ 62
    pub end : t.journal_end ≤ 2 ^ 62
    pub generation : t.generation ≤ 2 ^ 62
    pub layout : t.next_layout ≤ 2 ^ 62

  module _ (is : IsQuiet c) (room : HasRoom) where
    no_places : places_of c 0 ≡ 0
    no_places = ap (λ (k : ℕ). if k == 0 then 0 else 6) is.no_commit

    block_fits : no_room t.next_block 0 ≡ None
    block_fits = fits t.next_block 0 (omega (arith, room.block))

    track_fits : no_room t.state.next_track (tracks_of out c) ≡ None
    track_fits = ap (no_room t.state.next_track) (is.no_track t) ∙ fits t.state.next_track 0 (omega (arith, room.track))

    commit_fits : no_room t.state.commit (commits_of c) ≡ None
    commit_fits = ap (no_room t.state.commit) is.no_commit ∙ fits t.state.commit 0 (omega (arith, room.commit))

    end_fits : no_room t.journal_end (places_of c 0) ≡ None
    end_fits = ap (no_room t.journal_end) no_places ∙ fits t.journal_end 0 (omega (arith, room.end))

    layout_fits : no_room t.next_layout (layouts_of out t.state c) ≡ None
    layout_fits = ap (no_room t.next_layout) (is.no_layout t) ∙ fits t.next_layout 0 (omega (arith, room.layout))

    -- its tests, by that of the generations
    pub tests_then : (last : Option Refusal) → no_room t.generation (generations_of c) ≡ last
        → stop_test t.stopped c ≡ None → call_tests out t.state c ≡ None
        → no_room t.state.next_pin (pins_of c) ≡ None
        → refusal_of out t c 0 0 ≡ ((last otherwise None) otherwise None)
    tests_then last later going own pin = search (rules, block_fits, track_fits, commit_fits, end_fits, layout_fits)

    -- what it leaves of the model
    pub quiet_follows : followed out t c 0 0 t.next_layout ≡ record t { state = after out t.state c }
    quiet_follows = search rules

    -- it needs no generation of the journal either
    module _ (stays : moves_of c ≡ 0) where
      still : generations_of c ≡ 0
      still = no_generation c stays

      later_fits : no_room t.generation (generations_of c) ≡ None
      later_fits = ap (no_room t.generation) still ∙ fits t.generation 0 (omega (arith, room.generation))

      pub quiet_passes : stop_test t.stopped c ≡ None → call_tests out t.state c ≡ None
          → no_room t.state.next_pin (pins_of c) ≡ None
          → refusal_of out t c 0 0 ≡ None
      quiet_passes going own pin = tests_then None later_fits going own pin

      -- no number of a pin is left
      pub pins_spent : (why : Refusal) → stop_test t.stopped c ≡ None → call_tests out t.state c ≡ None
          → no_room t.state.next_pin (pins_of c) ≡ Some why
          → refusal_of out t c 0 0 ≡ Some why
      pins_spent why going own pin =
          search (rules, block_fits, track_fits, commit_fits, end_fits, later_fits, layout_fits)

      -- carried out
      pub carried : (r : Reply) (u : model.Studio) → refusal_of out t c 0 0 ≡ None → MayAnswer out t.state c r
          → u ≡ record t { state = after out t.state c }
          → CarriesOut t c silent r u
      carried r u passed answers same = record {
        blocks = 0;
        len = 0;
        layout = t.next_layout;
        needs = is.needs t;
        passed = passed;
        draws = (omega arith, omega arith);
        answers = answers;
        is = same ∙ sym quiet_follows
            ∙ sym (answered_same out t.state c r answers stays (followed out t c 0 0 t.next_layout));
        heard = sym (is.quiet t);
      }

-- ---- the studio as it was

pub room_of : {D : Type 0} (disk : Ghosts D) (s : Core D) → (c : Call) → IsStudio disk s → HasRoom (studio_of disk s) c
room_of disk s c is = search rules

module _ {D : Type 0} (disk : Ghosts D) (s : Core D) (c : Call) (quiet : IsQuiet c) (none : RemovesNone c)
    (is : IsStudio disk s) (fewer : Fewer disk s.store) where
  abbrev t : model.Studio
  t = studio_of disk s

  -- refused
  pub refused_by : (why : Refusal) → refusal_of (outside t silent) t c 0 0 ≡ Some why → Needed disk s c silent why
      → Took disk s (quietly c (Err why)) s
  refused_by why first needed = search (rules, refuses, frees_refused, quiet.needs)

  -- it had stopped before
  pub refused_stopped : (faults : ℕ) → stop_test s.stopped c ≡ stop_of s.stopped → s.stopped ≡ Some faults
      → Took disk s (quietly c (Err (refusal.Stopped faults))) s
  refused_stopped faults test at = refused_by (refusal.Stopped faults) (stopped_first t c 0 0 faults test at) tt

  -- by its own test
  pub refused_own : (why : Refusal) → stop_test s.stopped c ≡ None → call_tests (outside t silent) t.state c ≡ Some why
      → Took disk s (quietly c (Err why)) s
  refused_own why going own = refused_by why (own_first t c 0 0 why going own) (tests_needed disk s c silent why own)

  -- for want of memory
  pub refused_wanting : Took disk s (quietly c (Err refusal.NoMemory)) s
  refused_wanting = wants disk s c silent is fewer none refl 0 (λ held. (0, quiet.needs t))

  -- carried out, with nothing changed
  pub stays_answered : PacksNone c → (r : Reply) → (IsHeld disk s → CarriesOut t c silent r t)
      → Took disk s (quietly c (Ok r)) s
  stays_answered plain r step = record {
    studio = is;
    held = λ held. held;
    step = step;
    any_moment = λ going held f now. inl (keeps_now disk s is.journal.among going held f now);
    refused = λ going held still. tt;
    now = λ going held f now. keeps_now disk s is.journal.among going held f now;
    number = omega (arith, quiet.no_commit);
    rests = λ some. refl;
    len = 0;
    needs = λ held. (0, quiet.needs t);
    records = no_record s (Ok r) s;
    given = none_given (Ok r) s s refl;
    needed = tt;
    changed = changed_none s.store (others_none s.next_block s.next_block (MayRemove c s.counts)) fewer;
    frees = frees_none disk s c (Ok r) s none plain;
    ids = ids_same s s refl refl;
    purges = quiet_purges s.history c (Ok r) quiet.no_commit;
    untouched = tt;
    stops = inl (refl, refl);
    left = tt;
  }
