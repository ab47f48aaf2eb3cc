-- Where a script stands at a desk.
use Rattle.std.specs.Prelude.{◌≡◌, ℕ, nat_lt, if◌then◌else◌, Bool, false, List, [], ◌∷◌, ◌++◌, Option, Some, None}
use Rattle.std.specs.Prelude.{Result, ◌+◌, ◌*◌, ◌<◌, true, IsTrue, IfOk, OnOk, OnErr}
use Rattle.pcm_base.specs.{declared.answer.Reply.Reply, declared.answer.Reply.TheVariants.Wrote}
use Rattle.pcm_base.specs.{declared.command.Call.TheVariants.Line, declared.command.Command.Command}
use Rattle.pcm_base.specs.{declared.limits.TheConstants.MAX_LOADED, declared.refusal.Refusal.Refusal}
use Rattle.pcm_base.specs.{Outside.SameElsewhere, Outside.Sounds, Run.Heard, Run.name_in_line}
use Rattle.disk_model.specs.declared.store.Store.{Ghosts}
use Rattle.pin_turn.specs.{declared.view.View.View, Rule.ByOthers, Counts.Each}
use Rattle.editor_state.specs.Applied.{IsTold, move_of, reply_of}
use Rattle.editor_state.specs.{Core.Core, Vaults.VaultCounted, Took.as_reply}
use Rattle.wav_pcm.specs.Written.{MayBegin}
use Rattle.studio_seats.specs.{declared.deed.Deed.Deed, declared.held.Held.Held, Deeds.actor_of, Deeds.commits}
use Rattle.studio_seats.specs.{Deeds.deed, Deeds.number_after, Merge.by_seat, Merge.deeds_of, Onward.Asks}
use Rattle.sound_bounce.specs.Bounces.{BounceDeeds, FaultsOf, IsOfBounce, IsUnread, length_in, text_by}

-- The seat of the script, the commit number with which the desk began, the project's frames in a second, the deeds that
-- the seat has seen, its own and those of others, the commit number that it told last, the numbers of its commits,
-- whether it found that no turn is left; and of the vault whether it reports its bytes, the sounds in it, and its count
-- of faults.
pub record Place : Type 0 where
  pub seat : ℕ
  pub first : ℕ
  pub rate : ℕ
  pub seen : List Deed
  pub last : ℕ
  pub commits : List ℕ
  pub used_up : Bool
  pub tells : Bool
  pub sounds : Sounds
  pub faults : ℕ

-- the place of a seat at a desk that began so
abbrev pub place_of : {D V : Type 0} {disk : Ghosts D} → Core D → View (Held D V disk) Deed → ℕ → List ℕ → Bool
    → Sounds → ℕ → Place
place_of start v last numbers tells sounds faults = record {
  seat = v.number;
  first = start.commit_number;
  rate = start.rate;
  seen = v.seen;
  last = last;
  commits = numbers;
  used_up = v.used_up;
  tells = tells;
  sounds = sounds;
  faults = faults;
}

-- whether a line that was answered so made a commit
abbrev pub made_commit : Result Reply Refusal → Command → Bool
made_commit what c = nat_lt 0 (commits what (Line c))

-- one number more, where it is a commit's
abbrev pub with_number : Bool → List ℕ → ℕ → List ℕ
with_number commit numbers n = numbers ++ (if commit then n ∷ [] else [])

-- a line, its answer, and what became of the sound that it names, where the vault has these sounds after it
abbrev pub line_deed : Place → Command → Result Reply Refusal → Sounds → Deed
line_deed p c what sounds = deed p.seat (Line c) what (move_of (name_in_line c) p.sounds sounds)

abbrev pub seen_after : Place → List Deed → Command → Result Reply Refusal → Sounds → List Deed
seen_after p between c what sounds = (p.seen ++ between) ++ line_deed p c what sounds ∷ []

-- after a turn at which these deeds of others were seen: its number is told
abbrev pub after_turn : Place → List Deed → Command → Result Reply Refusal → Sounds → ℕ → Place
after_turn p between c what sounds faults = record p {
  seen = seen_after p between c what sounds;
  last = number_after p.first (seen_after p between c what sounds);
  commits = with_number (made_commit what c) p.commits (number_after p.first (seen_after p between c what sounds));
  sounds = sounds;
  faults = faults;
}

-- The count of a vault's faults after a line that was answered so. It rises where the line names a sound and the
-- answer is that the vault failed, and stays elsewhere.
abbrev pub CountsFaults : Option (List ℕ) → Result Reply Refusal → ℕ → ℕ → Type 0
CountsFaults None what old new = new ≡ old
CountsFaults (Some name) what old new = VaultCounted what old new

-- A turn was left and was taken: after what was seen stand deeds of others, and then this one. Of the sounds none
-- changed but the one that the line names.
pub record Enters (p : Place) (c : Command) (r : Reply) (q : Place) : Type 0 where
  pub unspent : p.used_up ≡ false
  pub between : List Deed
  pub by_others : ByOthers actor_of (p.seat ∷ []) between
  pub what : Result Reply Refusal
  pub reply : r ≡ reply_of what
  pub after : q ≡ after_turn p between c what q.sounds q.faults
  pub heard : IsTold (Line c) p.tells
      → Heard (name_in_line c) (move_of (name_in_line c) p.sounds q.sounds) p.sounds q.sounds
  pub counted : CountsFaults (name_in_line c) what p.faults q.faults

-- ---- a bounce, which takes several turns

-- how many frames one of its turns loads at most
abbrev pub batch : ℕ
batch = MAX_LOADED

-- the number that is printed last after the own deeds of a bounce: that after the turn of its pin, if it had one
abbrev pub TellsBounce : Place → (added own : List Deed) → (last : ℕ) → Type 0
TellsBounce p added [] last = last ≡ p.last
TellsBounce p added (d ∷ ds) last = (front back : List Deed) × (added ≡ front ++ d ∷ back)
    × (last ≡ number_after p.first (p.seen ++ (front ++ d ∷ [])))

-- After what was seen come the turns of the bounce, with deeds of others between them. None of its own is a commit, and
-- none names a sound. After it the sound of the name is the file that its deeds make, or as much of it as was written.
-- No other changes.
pub record Bounces (p : Place) (name : List ℕ) (r : Reply) (q : Place) : Type 0 where
  pub added : List Deed
  pub what : Result ℕ Refusal
  pub asks : Asks IsOfBounce p.seat added
  pub own : BounceDeeds q.used_up batch what (deeds_of (by_seat p.seat) added)
  pub reply : r ≡ reply_of (as_reply Wrote what)
  pub after : q ≡ record p {
    seen = p.seen ++ added;
    last = q.last;
    used_up = q.used_up;
    sounds = q.sounds;
    faults = q.faults;
  }
  pub last : TellsBounce p added (deeds_of (by_seat p.seat) added) q.last
  pub spent : p.used_up ≡ true → (added ≡ []) × (q.used_up ≡ true)
  pub written : IsTrue p.tells
      → OnOk what (q.sounds name ≡ Some (text_by p.rate (deeds_of (by_seat p.seat) added)))
  pub failed : IsTrue p.tells
      → OnErr what (MayBegin (text_by p.rate (deeds_of (by_seat p.seat) added)) (p.sounds name) (q.sounds name))
  pub size : IfOk what (λ bytes. bytes ≡ 44 + 4 * length_in (deeds_of (by_seat p.seat) added))
  -- a mix that is too long leaves the sound
  pub too_long : 4294967295 < 36 + 4 * length_in (deeds_of (by_seat p.seat) added) → q.sounds ≡ p.sounds
  -- and so does one of which no length was answered
  pub unread : Each (λ (d : Deed). IsUnread d.what) (deeds_of (by_seat p.seat) added) → q.sounds ≡ p.sounds
  pub others : IsTrue p.tells → SameElsewhere name p.sounds q.sounds
  pub counted : FaultsOf what (deeds_of (by_seat p.seat) added) p.faults q.faults
