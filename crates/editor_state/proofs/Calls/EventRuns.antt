-- Events that are carried out one after another are a run.
use Rattle.editor_state.proofs.Common.{rules, ◌≡◌, inl, refl, sym, ap, subst, ℕ, ◌+◌, ◌≤◌, Bool, Option, Some, None}
use Rattle.editor_state.proofs.Common.{List, [], ◌∷◌, ◌++◌, take, zero, suc, Result, Ok, Err, arith, none-some}
use Rattle.editor_state.proofs.Common.{same_Some, Reply, Call, Command, Entry, Refusal, Sounds, Heard, name_in, Ghosts}
use Rattle.editor_state.proofs.Common.{Changed, Room, Fewer, changed_none, EachSince, Span, TookOver, reply_of}
use Rattle.editor_state.proofs.Common.{KeepsPrefix, IsHeld, IsStudio, studio_of, Core, LeavesForeign, number_behind}
use Rattle.std.proofs.Common.{slice_get}
use Rattle.pcm_base.specs.{declared.answer.Answer.Answer, declared.entry.Event.Event, Run.Follows}
use Rattle.disk_model.proofs.Frames.{changed_turn}
use Rattle.disk_model.proofs.{Moments.each_on, Rooms.within_refl}
use Rattle.editor_state.specs.Applied.{Applies, EndsAlike, IsTold, exchange_over, move_of}
use Rattle.editor_state.specs.Events.{AreEntries, AreTold, EventChain, IsOther, RanOver, events_ask}
use Rattle.editor_state.proofs.Calls.RunEntries.{flies, prefix_more, run_more, step_of}
use Rattle.editor_state.proofs.Lists.{all_left, all_right}
use Rattle.editor_state.proofs.Calls.OtherFiles.{foreign_of, foreign_same, foreign_then}
use Rattle.editor_state.proofs.{Calls.VaultCalls.spanned, Images.ImageProjects.keeps_now}
use Rattle.pcm_base.specs.declared.command.Call.TheVariants as call
use Rattle.pcm_base.specs.Studio as model

-- ---- one entry more

follows_more : (old mid new : Sounds) (es : List Entry) (e : Entry) → Follows old es mid
    → Heard (name_in e.call) e.sound mid new → Follows old (es ++ e ∷ []) new
follows_more old mid new [] e follows heard = search rules
follows_more old mid new (x ∷ xs) e follows heard =
    (follows.0, follows.1, follows_more follows.0 mid new xs e follows.2 heard)

entries_more : (es : List Event) (rs : List Answer) (xs : List Entry) (e : Event) (a : Answer) (x : Entry)
    → AreEntries es rs xs
    → x.actor ≡ e.actor → x.call ≡ e.call → x.reply ≡ a.reply → AreEntries (es ++ e ∷ []) (rs ++ a ∷ []) (xs ++ x ∷ [])
entries_more [] [] [] e a x are actor asked said = (actor, asked, said, tt)
entries_more (f ∷ fs) (q ∷ qs) (y ∷ ys) e a x are actor asked said =
    (are.0, are.1, are.2, entries_more fs qs ys e a x are.3 actor asked said)
entries_more _ _ _ e a x are actor asked said = absurd are

-- ---- the chain

ends_so : (told : Result Reply Refusal) → EndsAlike told told
ends_so (Ok r) = tt
ends_so (Err why) = refl

-- one event more
chain_more : {D : Type 0} (disk : Ghosts D) (tells : Bool) (old : Core D) (before : Sounds) (es : List Event)
    (rs : List Answer) (mid : Core D) (here : Sounds) → EventChain disk tells old before es rs mid here
    → (e : Event) (told : Result Reply Refusal) (a : Answer) (new : Core D) (after : Sounds)
    → Applies disk (spanned tells mid new here after) e.call told a
    → EventChain disk tells old before (es ++ e ∷ []) (rs ++ a ∷ []) new after
chain_more disk tells old before [] [] mid here chain e told a new after applies = (
  new,
  after,
  told,
  subst (λ (z : Core _). Applies disk (spanned tells z new before after) e.call told a) chain.0
      (subst (λ (z : Sounds). Applies disk (spanned tells mid new z after) e.call told a) chain.1 applies),
  (refl, refl),
)
chain_more disk tells old before [] (b ∷ bs) mid here chain e told a new after applies = absurd chain
chain_more disk tells old before (f ∷ fs) [] mid here chain e told a new after applies = absurd chain
chain_more disk tells old before (f ∷ fs) (b ∷ bs) mid here chain e told a new after applies =
    search (
      rules,
      chain.0,
      chain.1,
      chain.4,
      chain_more disk tells chain.0 chain.1 fs bs mid here chain.4 e told a
          new after applies,
    )

-- what the events leave of the disk, and what they ask of it
chain_changed : {D : Type 0} (disk : Ghosts D) (fewer : (store : D) → Fewer disk store) (tells : Bool) (old : Core D)
    (before : Sounds) (es : List Event) (rs : List Answer) (new : Core D) (after : Sounds) → IsStudio disk old
    → (chain : EventChain disk tells old before es rs new after)
    → Changed disk LeavesForeign (events_ask disk tells old before es rs new after chain) old.store new.store
chain_changed disk fewer tells old before [] [] new after is chain =
    let none : Room = record { files = 0; bytes = 0; calls = 0 } in
    subst (λ (z : Core _). Changed disk LeavesForeign none old.store z.store) (sym chain.0)
    (changed_none old.store foreign_same (fewer old.store))
chain_changed disk fewer tells old before [] (a ∷ rs) new after is chain = absurd chain
chain_changed disk fewer tells old before (e ∷ es) [] new after is chain = absurd chain
chain_changed disk fewer tells old before (e ∷ es) (a ∷ rs) new after is chain =
    let mid = chain.0 in
    let lasts = chain.3.over.lasts in
    let one = foreign_of disk old mid e.call is in
    changed_turn one (λ d x c step rest. foreign_then d x c (one d x step) rest)
    (within_refl (events_ask disk tells old before (e ∷ es) (a ∷ rs) new after chain)) lasts.changed
    (chain_changed disk fewer tells mid chain.1 es rs new after lasts.studio chain.4)

-- ---- no event

module _ {D : Type 0} (disk : Ghosts D) (fewer : (store : D) → Fewer disk store) (tells : Bool) (sounds : Sounds)
    (s : Core D) (is : IsStudio disk s) where
  pub ran_none : RanOver disk (spanned tells s s sounds sounds) [] []
  ran_none = record {
    chain = (refl, refl);
    entries = [];
    are = tt;
    studio = is;
    changed = chain_changed disk fewer tells s sounds [] [] s sounds is (refl, refl);
    number = omega arith;
    held = λ told held. held;
    run = λ told held. refl;
    follows = λ told. refl;
    any_moment = λ told going held c now.
        record {
          front = [];
          back = [];
          cut = refl;
          reached = studio_of disk s;
          run = refl;
          keeps = inl (keeps_now disk s is.journal.among going held c now);
        };
    now = λ told going held c now. keeps_now disk s is.journal.among going held c now;
  }

-- ---- one more

module _ {D : Type 0} (disk : Ghosts D) (fewer : (store : D) → Fewer disk store) (tells : Bool)
    (before mid after : Sounds) (old s new : Core D) (first_is : IsStudio disk old) (es : List Event) (rs : List Answer)
    (was : RanOver disk (spanned tells old s before mid) es rs) (e : Event) (told : Result Reply Refusal)
    (over : TookOver disk (spanned tells s new mid after) e.call told) where
  abbrev t : model.Studio
  t = studio_of disk old

  abbrev answer : Answer
  answer = record { commit = new.commit_number; reply = reply_of told }

  abbrev entry : Entry
  entry = record { actor = e.actor; call = e.call; reply = reply_of told; sound = move_of (name_in e.call) mid after }

  abbrev all : List Entry
  all = was.entries ++ entry ∷ []

  abbrev Told : Type 0
  Told = AreTold tells (es ++ e ∷ [])

  -- the events before it, and itself
  front : Told → AreTold tells es
  front = all_left (λ (x : Event). IsTold x.call tells) es (e ∷ [])

  last : Told → IsTold e.call tells
  last tell = (all_right (λ (x : Event). IsTold x.call tells) es (e ∷ []) tell).0

  first : Told → old.stopped ≡ None → IsHeld disk old → EachSince disk old.store s.store (KeepsPrefix t all)
  first tell going held c since = prefix_more t was.entries entry c (was.any_moment (front tell) going held c since)

  -- while the call is under way
  second : Told → s.stopped ≡ None → IsHeld disk old → EachSince disk s.store new.store (KeepsPrefix t all)
  second tell still held c since = record {
    front = was.entries;
    back = entry ∷ [];
    cut = refl;
    reached = studio_of disk s;
    run = was.run (front tell) held;
    keeps = flies disk s new (exchange_over (spanned tells s new mid after) e.call told over.removed)
        (over.took (last tell)) still (was.held (front tell) held) c since;
  }

  -- a studio that had stopped asks nothing more of the disk
  stays : (o : Option ℕ) → s.stopped ≡ o → Told → old.stopped ≡ None → IsHeld disk old
      → EachSince disk old.store new.store (KeepsPrefix t all)
  stays None still tell going held =
      let images = (over.took (last tell)).changed.images in
      each_on (KeepsPrefix t all) (disk.clock old.store) images was.changed.images.later (first tell going held)
      (second tell still held)
  stays (Some faults) stopped tell going held = search (rules, first)

  raised : (r : Result Reply Refusal) → s.commit_number ≤ number_behind r e.call s.commit_number
  raised (Ok r) = omega arith
  raised (Err why) = omega arith

  applies : Applies disk (spanned tells s new mid after) e.call told answer
  applies = record { told = told; over = over; commit = refl; reply = refl; ends = ends_so told }

  chain : EventChain disk tells old before (es ++ e ∷ []) (rs ++ answer ∷ []) new after
  chain = chain_more disk tells old before es rs s mid was.chain e told answer new after applies

  pub ran_more : RanOver disk (spanned tells old new before after) (es ++ e ∷ []) (rs ++ answer ∷ [])
  ran_more = record {
    chain = chain;
    entries = all;
    are = entries_more es rs was.entries e answer entry was.are refl refl refl;
    studio = over.lasts.studio;
    changed = chain_changed disk fewer tells old before (es ++ e ∷ []) (rs ++ answer ∷ []) new after first_is chain;
    number = omega (arith, was.number, raised told, over.lasts.number);
    held = λ tell held. (over.took (last tell)).held (was.held (front tell) held);
    run = λ tell held. run_more t (studio_of disk s) (studio_of disk new) was.entries entry (was.run (front tell) held)
        (step_of (studio_of disk s) (studio_of disk new) e.call entry.sound told
        ((over.took (last tell)).step (was.held (front tell) held)));
    follows = λ tell. follows_more before mid after was.entries entry (was.follows (front tell)) (over.heard (last tell));
    any_moment = λ tell going held. stays s.stopped refl tell going held;
    now = λ tell still held. (over.took (last tell)).now still (was.held (front tell) held);
  }

-- ---- items of a list

pub take_item : {A : Type 0} (i : ℕ) (xs : List A) (x : A) → slice_get xs i ≡ Some x
    → take (i + 1) xs ≡ take i xs ++ x ∷ []
take_item i [] x h = absurd (none-some x h)
take_item zero (y ∷ ys) x h = ap (λ (z : _). z ∷ []) (same_Some y x h)
take_item (suc i) (y ∷ ys) x h = search (rules, take_item i ys x h)

-- the next call's step, where the vault told as at the start
pub over_at : {D : Type 0} (disk : Ghosts D) (tells : Bool) (span : Span D) (c : Call) (told : Result Reply Refusal)
    → span.tells ≡ tells → TookOver disk span c told → TookOver disk (record span { tells = tells }) c told
over_at disk tells span c told same over = search rules

-- ---- calls that are no lines

pub other_of : (c : Call) → ((k : Command) → c ≡ call.Line k → ⊥) → IsOther c
other_of (call.Line k) not_line = not_line k refl
other_of _ not_line = tt

pub other_none : (c : Call) → IsOther c → name_in c ≡ None
other_none (call.Line k) other = absurd other
other_none _ other = refl
