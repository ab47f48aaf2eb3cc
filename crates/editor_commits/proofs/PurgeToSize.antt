-- A purge to a size: the purge of as many points as have to go.
use Rattle.editor_commits.proofs.Common.{rules, ◌≡◌, ◌⊎◌, inl, inr, ⊎_elim, refl, sym, subst, ℕ, ◌≤◌, Bool, true, false}
use Rattle.editor_commits.proofs.Common.{nat_lt, nat_le, List, [], ◌++◌, Option, Some, None, Result, Ok, Err, arith}
use Rattle.editor_commits.proofs.Common.{none-some, same_Some, record_test, ◌otherwise◌, bad_range, call_tests}
use Rattle.editor_commits.proofs.Common.{refused_if, CarriesOut, outside, stop_of, BlockRef, Call, Line, Refusal, after}
use Rattle.editor_commits.proofs.Common.{Ghosts, Fewer, sources_of, Track, meant_history, AreNumbered, history_tracks}
use Rattle.editor_commits.proofs.Common.{Writing, Core, WouldMake, IsStudio, pin_tracks, studio_of, KeepsOneOf, Took}
use Rattle.editor_commits.proofs.Common.{quietly, silent, all_joined, all_so, refuses, wants}
use Rattle.std.proofs.Common.{◌&&◌, not}
use Rattle.std.proofs.{lemmas.Bool.le-leb, lemmas.Bool.lt-ltb, lemmas.List.append-nil}
use Rattle.pcm_base.specs.Counters.{counter_tests}
use Rattle.pcm_base.specs.Run.{Answers, Breaks, BreaksOff, told_history}
use Rattle.pcm_base.specs.{declared.answer.Reply.Reply}
use Rattle.disk_model.specs.{Disk.Files}
use Rattle.layout_uses.specs.Layouts.{track_blocks}
use Rattle.layout_uses.proofs.Moves.{numbered_without}
use Rattle.purge_size.specs.{Fits.AreSmall, Sizes.IsPurgeTo}
use Rattle.editor_state.specs.{Left.Stops, Spent.Leads, Spent.Needed, Spent.Plans}
use Rattle.editor_state.proofs.Refusals.EarlyRefusals.{stays}
use Rattle.editor_state.proofs.{Blocks.NamedBlocks.history_named, Refusals.PurgeNumbers.refused_to}
use Rattle.editor_state.proofs.{Calls.QuietCalls.stopped_first, Blocks.BlockLengths.tracks_short}
use Rattle.pcm_base.specs.declared.answer.Reply.TheVariants as reply
use Rattle.pcm_base.specs.declared.command.Command.TheVariants as command
use Rattle.pcm_base.specs.declared.refusal.Refusal.TheVariants as refusal
use Rattle.pcm_base.specs.Studio as model

-- ---- which test refused

-- the second of some tests refused, or those without it
own_or_rest : (stop own rest : Option Refusal) (why : Refusal) → stop otherwise own otherwise rest ≡ Some why
    → ((stop ≡ None) × (own ≡ Some why)) ⊎ (stop otherwise rest ≡ Some why)
own_or_rest (Some r) own rest why h = inr h
own_or_rest None (Some r) rest why h = inl (refl, h)
own_or_rest None None rest why h = inr h

without_own : (stop own rest : Option Refusal) → stop otherwise own otherwise rest ≡ None → stop otherwise rest ≡ None
without_own (Some r) own rest h = h
without_own None (Some r) rest h = absurd (none-some r (sym h))
without_own None None rest h = h

range_is : (b : Bool) (why : Refusal) → refused_if b refusal.BadRange ≡ Some why → why ≡ refusal.BadRange
range_is true why h = sym (same_Some refusal.BadRange why h)
range_is false why h = absurd (none-some why h)

not_stopped : (stopped : Option ℕ) → stop_of stopped ≡ None → stopped ≡ None
not_stopped None h = refl
not_stopped (Some n) h = absurd (none-some (refusal.Stopped n) (sym h))

-- this many points may go
pub some_go : (n cursor : ℕ) → 1 ≤ n → n ≤ cursor → bad_range 0 n cursor ≡ Some refusal.BadRange → ⊥
some_go n cursor some few h = search (rules, nat_lt, lt-ltb, nat_le, le-leb, none-some)

zero_least : (n : ℕ) → 0 ≤ n
zero_least n = omega arith

-- the files of a block can be measured
abbrev Small : BlockRef → Type 0
Small b = b.len ≤ 262144

-- ---- of as many points as have to go

module _ {D : Type 0} (disk : Ghosts D) (s : Core D) (bytes n : ℕ) (some : 1 ≤ n) (few : n ≤ s.history.cursor) where
  abbrev t : model.Studio
  t = studio_of disk s

  abbrev counted : Call
  counted = Line (command.Purge n)

  abbrev sized : Call
  sized = Line (command.PurgeTo bytes)

  -- what each answers
  abbrev all_right : Result Reply Refusal
  all_right = Ok reply.Done

  abbrev so_many : Result Reply Refusal
  so_many = Ok (reply.Purged n)

  -- what is tested after the own tests, of both alike
  abbrev rest : ℕ → ℕ → Option Refusal
  rest blocks len = (counter_tests (outside t silent) t sized blocks len) otherwise (record_test len)

  done : (u : model.Studio) → CarriesOut t counted silent reply.Done u → CarriesOut t sized silent (reply.Purged n) u
  done u h = search (rules, without_own)

  carried : (r : Reply) (u : model.Studio) → CarriesOut t counted silent r u
      → CarriesOut t sized silent (reply.Purged n) u
  carried r u h = done u (subst (λ (z : Reply). CarriesOut t counted silent z u) h.answers h)

  still : (c : Files) → KeepsOneOf t counted silent c → KeepsOneOf t sized silent c
  still c (inl old) = inl old
  still c (inr flight) = inr (search (rules, carried))

  -- they go
  module _ (new : Core D) (took : Took disk s (quietly counted (Ok reply.Done)) new) where
    goes_on : Stops disk s all_right new → Stops disk s so_many new
    goes_on h = ⊎_elim (λ same. inl same) (λ bad. let no : ⊥ = cc bad.2 in absurd no) h

    pub purged_to : IsPurgeTo s.history bytes n → Took disk s (quietly sized (Ok (reply.Purged n))) new
    purged_to is = search (rules, done, still, goes_on, took.step, took.any_moment)

  -- ---- what they would have made

  -- a purge is no edit that makes blocks
  no_plan : (blocks : ℕ) (w : Writing) → Plans disk s counted silent blocks w → ⊥
  no_plan blocks w p =
      let call = p.means.call in
      let none : p.edit.more ≡ 0 = omega (arith, call.commit.many) in
      let needs = call.needs s.rate t 0 0 (zero_least _, omega (arith, none), zero_least _) in
      omega (arith, needs.1)

  led : (w : Writing) → Leads disk s counted silent w → Leads disk s sized silent w
  led w l = record {
    history = l.history;
    next_track = l.next_track;
    says = l.says;
    leads = l.leads;
    reply = reply.Purged n;
    answers = (n, refl, some, few);
    means = λ held. subst
        (λ (r : Reply). told_history r (after (outside t silent) t.state counted).history
        ≡ meant_history (sources_of (disk.reads s.store)) l.history) l.answers (l.means held);
  }

  would : WouldMake disk s counted silent → WouldMake disk s sized silent
  would it = search (rules, no_plan, led)

  needed_to : (why : Refusal) → Needed disk s counted silent why → Needed disk s sized silent why
  unfolding would
  needed_to (refusal.SpaceSpent have need) h =
      ⊎_elim (λ number. inl number) (λ made. inr (would made.0, made.1)) h
  needed_to (refusal.RecordLimit len) h = (would h.0, h.1, h.2)
  needed_to why h = tt

  -- they do not
  module _ (why : Refusal) (new : Core D) (took : Took disk s (quietly counted (Err why)) new) where
    off : (u : model.Studio) → BreaksOff t counted silent u → BreaksOff t sized silent u
    off u b = search rules

    breaks : (e : Refusal) (u : model.Studio) → Breaks t counted silent e u → Breaks t sized silent e u
    breaks (refusal.Damaged file at want have) u b = search (rules, off)
    breaks refusal.DiskFault u b = record { breaks = off u b.breaks; cause = b.cause }
    breaks refusal.VaultFault u b = search (rules, off)
    breaks refusal.NoMemory u b = b
    breaks e u b = absurd b

    answers : (u : model.Studio) → Answers t counted silent (Err why) u → Answers t sized silent (Err why) u
    answers u (inl r) = ⊎_elim
        (λ own. inr (inl (record {
          bytes = bytes;
          line = refl;
          going = not_stopped t.stopped own.0;
          reason = range_is (not (nat_lt 0 n && nat_le n s.history.cursor)) why own.1;
          same = r.same;
          quiet = r.quiet;
        })))
        (λ first. inl (search rules))
        (own_or_rest (stop_of t.stopped) (call_tests (outside t silent) t.state counted) (rest r.blocks r.len) why r.first)
    answers u (inr (inl left)) = let no : ⊥ = cc left.line in absurd no
    answers u (inr (inr b)) = inr (inr (breaks why u b))

    pub unpurged_to : (why ≡ refusal.BadRange → IsPurgeTo s.history bytes 0) → Took disk s (quietly sized (Err why)) new
    unpurged_to none = search (rules, answers, still, needed_to, refused_to, took.step, took.any_moment)

-- ---- before their number is known, and where none has to go

module _ {D : Type 0} (disk : Ghosts D) (s : Core D) (bytes : ℕ) (is : IsStudio disk s) where
  abbrev line : Call
  line = Line (command.PurgeTo bytes)

  module _ (fewer : Fewer disk s.store) where
    pub to_stopped : (faults : ℕ) → s.stopped ≡ Some faults
        → Took disk s (quietly line (Err (refusal.Stopped faults))) s
    to_stopped faults at =
        refuses disk s line silent (refusal.Stopped faults) is fewer refl refl 9 (λ off. omega arith) 0
        (λ held. (refl, refl)) (stopped_first (studio_of disk s) line 0 9 faults refl at) tt

    pub to_wanting : Took disk s (quietly line (Err refusal.NoMemory)) s
    to_wanting = wants disk s line silent is fewer tt refl 9 (λ held. (0, (refl, refl)))

    pub to_leaves : s.stopped ≡ None → IsPurgeTo s.history bytes 0 → Took disk s (quietly line (Err refusal.BadRange)) s
    to_leaves going none =
        stays disk s line silent refusal.BadRange is fewer refl refl 9 (λ off. omega arith) none tt
        (λ held. (0, (refl, refl))) tt
        (λ held. inr (inl (record { bytes = bytes; line = refl; going = going; reason = refl; same = refl; quiet = refl })))

  -- ---- what their number is counted by

  pub numbered_points : AreNumbered (history_tracks s.history)
  numbered_points =
      let points = history_tracks s.history in
      let pins = pin_tracks s.pins in
      subst AreNumbered (append-nil points) (numbered_without points pins []
      (subst (λ (ts : List Track). AreNumbered (points ++ ts)) (sym (append-nil pins)) is.numbered))

  pub small_blocks : AreSmall (track_blocks (history_tracks s.history))
  small_blocks = search (rules, all_so, tracks_short, history_named, all_joined)
