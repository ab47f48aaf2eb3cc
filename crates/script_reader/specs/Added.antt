-- What a script adds to the list of a desk, line by line.
use Rattle.std.specs.Prelude.{◌≡◌, ◌⊎◌, ℕ, ◌≤◌, Bool, IsTrue, IsSome, Option, Some, List, [], ◌∷◌, ◌++◌, Result, Ok}
use Rattle.std.specs.Prelude.{Err, IfErr}
use Rattle.std.specs.List.{flat_map}
use Rattle.pcm_base.specs.{declared.answer.Answer.Answer, declared.refusal.Refusal.Refusal, Causes.Rose}
use Rattle.pcm_base.specs.{Outside.SameElsewhere, Outside.Sounds, Run.Follows, Run.name_in}
use Rattle.pin_turn.specs.Counts.{Each}
use Rattle.studio_seats.specs.Merge.{by_seat, deeds_of, numbers_of}
use Rattle.studio_seats.specs.{declared.deed.Deed.Deed, Deeds.entries_of, Deeds.number_after}
use Rattle.sound_bounce.specs.Bounces.{BounceDeeds, text_by}
use Rattle.wav_pcm.specs.Written.{MayBegin}
use Rattle.script_reader.specs.{Place.Place, Place.batch, Answering.AnswersLines}
use Rattle.pcm_base.specs.declared.refusal.Refusal.TheVariants as refusal

-- a refusal that is not of the vault
abbrev pub IsNoVault : Refusal → Type 0
IsNoVault refusal.VaultFault = ⊥
IsNoVault why = Unit {0}

-- a deed does not tell that the vault failed, or it names no sound
abbrev pub SparesVault : Deed → Type 0
SparesVault d = IsSome (name_in d.call) → IfErr d.what IsNoVault

-- a sound after an answer: the text, or as it was, or the first bytes of the text
abbrev pub MayHold : List ℕ → Result ℕ Refusal → Option (List ℕ) → Option (List ℕ) → Type 0
MayHold text (Ok bytes) old new = new ≡ Some text
MayHold text (Err why) old new = MayBegin text old new

-- A bounce that had a turn leaves the file that its deeds make.
abbrev pub BounceMoves : (rate : ℕ) (own : List Deed) (before after : Sounds) → Type 0
BounceMoves rate [] before after = ⊥
BounceMoves rate (d ∷ ds) before after = (name : List ℕ) × (used_up : Bool) × (what : Result ℕ Refusal)
    × BounceDeeds used_up batch what (d ∷ ds) × MayHold (text_by rate (d ∷ ds)) what (before name) (after name)
    × SameElsewhere name before after

-- One line's part of the list, and what becomes of the vault's sounds: those of one turn follow its deed, and a bounce
-- leaves its file.
pub record LineMoves (rate : ℕ) (own : List Deed) (before after : Sounds) : Type 0 where
  pub moves : Follows before (entries_of own) after ⊎ BounceMoves rate own before after

-- line by line, from these own deeds to the last
abbrev pub FollowsLines : ℕ → Sounds → List (List Deed) → Sounds → Type 0
FollowsLines rate old [] new = new ≡ old
FollowsLines rate old (ds ∷ lines) new = (mid : Sounds) × LineMoves rate ds old mid × FollowsLines rate mid lines new

-- What a script adds to the list: its numbers are those of its commits, and the sounds of a vault that reports its
-- bytes follow its lines. The vault's count of faults never falls, and where it did not rise no deed that names a sound
-- says that the vault failed. Which deeds are those of its lines, `AnswersLines` says.
pub record Adds (p q : Place) : Type 0 where
  pub added : List Deed
  pub seen : q.seen ≡ p.seen ++ added
  pub seat : q.seat ≡ p.seat
  pub first : q.first ≡ p.first
  pub tells : q.tells ≡ p.tells
  pub numbers : q.commits ≡ p.commits ++ numbers_of (by_seat p.seat) (number_after p.first p.seen) added
  pub lines : List (List Deed)
  pub own : deeds_of (by_seat p.seat) added ≡ flat_map (λ (ds : List Deed). ds) lines
  pub sounds : IsTrue p.tells → FollowsLines p.rate p.sounds lines q.sounds
  pub faults : p.faults ≤ q.faults
  pub spares : (Rose p.faults q.faults → ⊥) → Each SparesVault (deeds_of (by_seat p.seat) added)

abbrev pub ScriptsAdd : Type 0
ScriptsAdd = (lines : List (List ℕ)) (answers : List Answer) (p q : Place)
    → AnswersLines p lines answers q → Adds p q
