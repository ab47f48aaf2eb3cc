-- Tests whose reasons have a property: what refuses a call has it too.
use Rattle.editor_state.proofs.Common.{◌≡◌, subst, ℕ, ◌+◌, nat_lt, Bool, true, false, Option, Some, None, rules, List}
use Rattle.editor_state.proofs.Common.{[], ◌∷◌, counter_tests, no_room, Call, COUNTER_LIMIT, length_limit, Refusal}
use Rattle.editor_state.proofs.Common.{Outside, ◌otherwise◌, refused_if, Outgrows, Core, NotPrepared}
use Rattle.pcm_base.specs.{declared.limits.TheConstants.MAX_CELLS}
use Rattle.pcm_base.specs.declared.refusal.Refusal.TheVariants as refusal
use Rattle.pcm_base.specs.Studio as model

-- a test that is passed, or tells such a reason
abbrev pub Tells : (Refusal → Type 0) → Option Refusal → Type 0
Tells P None = Unit {0}
Tells P (Some why) = P why

module _ (P : Refusal → Type 0) where
  pub told : (o : Option Refusal) (why : Refusal) → Tells P o → o ≡ Some why → P why
  told o why tells is = subst (Tells P) is tells

  pub one : (b : Bool) (r : Refusal) → P r → Tells P (refused_if b r)
  one true r is = is
  one false r is = tt

  pub either : (a b : Option Refusal) → Tells P a → Tells P b → Tells P (a otherwise b)
  either None b x y = y
  either (Some why) b x y = x

  pub lengths : ((len : ℕ) → P (refusal.LengthLimit len)) → (lens : List ℕ) → Tells P (length_limit lens)
  lengths over [] = tt
  lengths over (len ∷ lens) = either (refused_if (nat_lt MAX_CELLS len) (refusal.LengthLimit len)) (length_limit lens)
      (one (nat_lt MAX_CELLS len) (refusal.LengthLimit len) (over len)) (lengths over lens)

  module _ (spent : (have need : ℕ) → P (refusal.SpaceSpent have need)) where
    pub room : (have need : ℕ) → Tells P (no_room have need)
    room have need = one (nat_lt COUNTER_LIMIT (have + need)) (refusal.SpaceSpent have need) (spent have need)

    pub counters : (out : Outside) (t : model.Studio) (c : Call) (blocks len : ℕ)
        → Tells P (counter_tests out t c blocks len)
    counters out t c blocks len = search (rules, either, room)

    module _ (long : (len : ℕ) → P (refusal.RecordLimit len)) where
      -- a record that is too long, or has no room
      pub outgrowing : (end next layouts len : ℕ) (why : Refusal) → Outgrows end next layouts len why → P why
      outgrowing end next layouts len why h = search (rules, told, either, room, one, long)

      -- an edit that is not prepared
      pub unprepared : {D : Type 0} (s : Core D) (n tracks layouts count whole len : ℕ) (why : Refusal)
          → P refusal.NoMemory → NotPrepared s n tracks layouts count whole len why → P why
      unprepared s n tracks layouts count whole len why memory not =
          search (rules, told, either, room, outgrowing)
