-- One turn of a seat, put together.
use Rattle.studio_seats.proofs.Common.{◌≡◌, inl, inr, refl, sym, ap, ◌∙◌, subst, ℕ, ◌≤◌, false, true, List, []}
use Rattle.studio_seats.proofs.Common.{◌∷◌, ◌++◌, Result, Ok, Err, None, arith, true≢false, Reply, Call, SoundMove}
use Rattle.studio_seats.proofs.Common.{Refusal, Said, name_in, Ghosts, View, ByOthers, Core, IsStudio, Took, freeing}
use Rattle.studio_seats.proofs.Common.{silent, core_of, actor_of, deed, number_after, raised_by, Says, Turned}
use Rattle.studio_seats.proofs.Common.{asked, spent, views, AllTell, Does, Origin, origin, Deed, Held, MatchResult}
use Rattle.studio_seats.proofs.Common.{VaultGhosts, quiet}
use Rattle.std.specs.Fn.{Mut, CalledAtMut, Takes}
use Rattle.pin_turn.specs.Calls.{TakesAtMut, FitsTurn, TookTurn, addition, called_as, meaning}
use Rattle.pin_turn.specs.{declared.view.Spent.Spent}
use Rattle.studio_seats.specs.Desks.{Asked, Views, deed_of}
use Rattle.studio_seats.specs.{Holding.HeldFor}
use Rattle.studio_seats.proofs.{Chains.extends, Grown.does_silent, Grown.leads}
use denote.Ref.{MutBor}

module _ {D V : Type 0} (disk : Ghosts D) (vaults : VaultGhosts V) where
  -- the studio of a turn
  abbrev core : Held D V disk → Core D
  core x = core_of x.studio

  -- a call may be made of the studio that a turn finds, through a reference
  pub is_studio : (start x y : Held D V disk) (deeds : List Deed) → HeldFor disk vaults start x deeds → y ≡ x
      → IsStudio disk (core y)
  is_studio start x y deeds stands is =
      rw is (leads (origin disk vaults (core start)) (core x) deeds stands).studio

  -- what a call did, shown and left through a reference
  does_at : (s t s' t' : Held D V disk) (d : Deed) → Does disk (AllTell vaults) (core s') d (core t') → s' ≡ s → t' ≡ t
      → Does disk (AllTell vaults) (core s) d (core t)
  does_at s t s' t' d does a b = rw (a, b) at does

  -- what a turn returns
  abbrev SaidBy : {A : Type 0} → Result (Said A) Spent → Said A → Type 0
  SaidBy result said = MatchResult result (λ s. said ≡ s) (λ _. (said.at ≡ 0) × (said.what ≡ Err spent))

  module _ {F A : Type 0} (start : Held D V disk) (v : View (Held D V disk) Deed)
      (g : Mut F (MutBor (Held D V disk) × Unit {0}) (Said A × (MutBor (Held D V disk) × Unit {0}))) (f : F) where
    -- the turn was taken, with what the closure left and the seat then knows, or none was left
    abbrev Taken : (Said A → List Deed) → F → View (Held D V disk) Deed → Result (Said A) Spent → Type 0
    Taken added f' w result = MatchResult result (λ s. TookTurn (meaning (HeldFor disk vaults) actor_of start) g
        (called_as f s f') (addition v (added s) w)) (λ _. (w ≡ record v { used_up = true }) × (f' ≡ f))

    -- a fact of the call, where the turn was taken
    pub if_taken : (added : Said A → List Deed) (f' : F) (w : View (Held D V disk) Deed)
        (result : Result (Said A) Spent) (said : Said A) (P : Said A → Type 0) → Taken added f' w result
        → SaidBy result said → ((s : Said A) (x x' : Held D V disk) (called : CalledAtMut g f x s f' x') → P s)
        → w.used_up ≡ false → P said
    if_taken added f' w (Ok s) said P took same met unspent =
        subst P (sym same) (met s took.value took.value' took.called)
    if_taken added f' w (Err y) said P h none met unspent =
        absurd (true≢false (sym (ap (λ (z : View (Held D V disk) Deed). z.used_up) h.0) ∙ unspent))

    -- taken or not
    pub either_way : (added : Said A → List Deed) (f' : F) (w : View (Held D V disk) Deed)
        (result : Result (Said A) Spent) (P : Type 0) → Taken added f' w result → (f' ≡ f → P)
        → ((s : Said A) (x x' : Held D V disk) (called : CalledAtMut g f x s f' x') → P) → P
    either_way added f' w (Ok s) P took still met = met s took.value took.value' took.called
    either_way added f' w (Err y) P h still met = still h.1

    -- The call itself may be known only after the turn, by what the closure left.
    module _ (call : F → Call) (what : Said A → F → Result Reply Refusal) (sound : F → SoundMove) where
      -- what the turn adds
      abbrev done : Said A → F → Deed
      done s f' = deed v.number (call f') (what s f') (sound f')

      -- the closure may be called at what the turn finds, and is one call of the studio
      pub fits : ((more : List Deed) (x : Held D V disk) → ByOthers actor_of (v.number ∷ []) more
          → HeldFor disk vaults start x (v.seen ++ more) → TakesAtMut g f x)
          → ((s : Said A) (f' : F) (x x' : Held D V disk) (called : CalledAtMut g f x s f' x')
          → Does disk (AllTell vaults) (core called.shown.now) (done s f') (core called.left.now))
          → FitsTurn (meaning (HeldFor disk vaults) actor_of start) v g f (λ s f'. done s f' ∷ [])
      fits may does = record {
        may = λ more x others few stood. may more x others stood;
        leaves = λ more x others few stood s f' x' called.
            extends (origin disk vaults (core start)) (core x) (core x') (v.seen ++ more) stood (done s f')
            (does_at x x' called.shown.now called.left.now (done s f') (does s f' x x' called) called.shows
            called.leaves);
        by_seat = λ s f'. (done s f', refl, refl);
      }

      -- what the closure says of a call, and how the caller knows the call
      pub record Called (f' : F) (s : Said A) (x x' : Held D V disk) (a : Asked) : Type 0 where
        pub does : Does disk (AllTell vaults) (core x) (done s f') (core x')
        pub number : s.at ≡ (core x').commit_number
        pub is : asked (call f') (what s f') (sound f') ≡ a

      turned : (s : Said A) (f' : F) (w : View (Held D V disk) Deed) (a : Asked)
          (took : TookTurn (meaning (HeldFor disk vaults) actor_of start) g (called_as f s f')
          (addition v (done s f' ∷ []) w)) → Called f' s took.called.shown.now took.called.left.now a
          → Turned (origin disk vaults (core start)) a s.at (views v w)
      turned s f' w a took at =
          let does = does_at took.value took.value' took.called.shown.now took.called.left.now (done s f') at.does
          took.called.shows took.called.leaves in
          subst (λ (z : Asked). Turned (origin disk vaults (core start)) z s.at (views v w)) at.is record {
            between = took.between;
            by_others = took.by_others;
            few = took.few;
            unspent = took.unspent;
            view = took.view;
            before = core took.value;
            after = core took.value';
            stood = took.stood;
            does = does;
            stands = extends (origin disk vaults (core start)) (core took.value) (core took.value')
                (v.seen ++ took.between) took.stood (done s f') does;
            number = at.number ∙ ap (λ (z : Held D V disk). (core z).commit_number) took.called.leaves;
          }

      -- what the seat then says
      pub says : (f' : F) (a : Said A → Asked) (w : View (Held D V disk) Deed) (result : Result (Said A) Spent)
          (said : Said A) → Taken (λ s. done s f' ∷ []) f' w result → SaidBy result said
          → ((s : Said A) (x x' : Held D V disk) (called : CalledAtMut g f x s f' x')
          → Called f' s called.shown.now called.left.now (a s))
          → Says (origin disk vaults (core start)) (a said) said (views v w)
      says f' a w (Ok s) said took same at =
          inl (subst (λ (z : Said A). Turned (origin disk vaults (core start)) (a z) z.at (views v w)) (sym same)
          (turned s f' w (a s) took (at s took.value took.value' took.called)))
      says f' a w (Err y) said h none at = inr record { at = none.0; what = none.1; view = h.0 }

    -- a call that names no sound, and whose answer does not look at what the closure left
    module _ (call : Call) (what : Said A → Result Reply Refusal) (none : name_in call ≡ None) where
      -- the call was made, by which these files went
      abbrev Made : Said A → Held D V disk → Held D V disk → Type 0
      Made s x x' = (removed : List ℕ) × Took disk (core x) (freeing call (what s) removed) (core x')

      pub fits_quiet : ((y : MutBor (Held D V disk)) → IsStudio disk (core y.now) → Takes g f (y, tt))
          → ((s : Said A) (f' : F) (x x' : Held D V disk) (called : CalledAtMut g f x s f' x')
          → Made s called.shown.now called.left.now)
          → FitsTurn (meaning (HeldFor disk vaults) actor_of start) v g f (λ s f'. quiet v call (what s))
      fits_quiet may made = fits (λ f'. call) (λ s f'. what s) (λ f'. silent)
          (λ more x others stood y is. may y (is_studio start x y.now (v.seen ++ more) stood is))
          (λ s f' x x' called.
          let h = made s f' x x' called in
          does_silent disk _ _ call (what s) h.0 _ none h.1)

      pub says_quiet : (f' : F) (w : View (Held D V disk) Deed) (result : Result (Said A) Spent) (said : Said A)
          → Taken (λ s. quiet v call (what s)) f' w result → SaidBy result said
          → ((s : Said A) (x x' : Held D V disk) (called : CalledAtMut g f x s f' x')
          → Made s called.shown.now called.left.now × (s.at ≡ (core called.left.now).commit_number))
          → Says (origin disk vaults (core start)) (asked call (what said) silent) said (views v w)
      says_quiet f' w result said took same met =
          says (λ f'. call) (λ s f'. what s) (λ f'. silent) f' (λ s. asked call (what s) silent) w result said took same
          (λ s x x' called.
          let h = met s x x' called in
          record { does = does_silent disk _ _ call (what s) h.0.0 _ none h.0.1; number = h.1; is = refl })

-- ---- the commit number to which deeds lead

pub number_grows : (n : ℕ) (ds : List Deed) → n ≤ number_after n ds
number_grows n [] = omega arith
number_grows n (d ∷ ds) =
    let h = number_grows (raised_by d n) ds in
    omega (arith, h)

pub number_on : (n : ℕ) (ds more : List Deed) → number_after n ds ≤ number_after n (ds ++ more)
number_on n [] more = number_grows n more
number_on n (d ∷ ds) more = number_on (raised_by d n) ds more

-- the number that a turn returns is that to which the deeds lead
pub turned_number : {D V : Type 0} {disk : Ghosts D} {o : Origin D V} {a : Asked} {at : ℕ} {seat : Views D V disk}
    (x : Turned o a at seat)
    → x.after.commit_number ≡ number_after o.start.commit_number
    ((seat.before.seen ++ x.between) ++ deed_of seat.before.number a ∷ [])
turned_number {o = o} x = (leads o x.after _ x.stands).number

-- a tag that is no higher than a number to which deeds lead stays so
pub tag_fits : {D V : Type 0} (disk : Ghosts D) (vaults : VaultGhosts V) (start x y : Held D V disk) (tag : ℕ)
    (ds more : List Deed)
    → tag ≤ number_after start.studio.commit_number ds → HeldFor disk vaults start x (ds ++ more) → y ≡ x
    → tag ≤ y.studio.commit_number
tag_fits disk vaults start x y tag ds more low stands is =
    let on = number_on start.studio.commit_number ds more in
    let at = (leads (origin disk vaults (core_of start.studio)) (core_of x.studio) (ds ++ more) stands).number in
    rw is (omega (arith, low, on, at))

module _ {D V A : Type 0} (disk : Ghosts D) (vaults : VaultGhosts V) (start : Core D)
    (v w : View (Held D V disk) Deed) (call : Call) (what : Result Reply Refusal) (sound : SoundMove) (said : Said A)
  where
    -- a call leaves the seat's number, and what is away from it
    pub seat_stays : Says (origin disk vaults start) (asked call what sound) said (views v w)
        → (w.number ≡ v.number) × (w.away ≡ v.away)
    seat_stays (inl x) = rw x.view (refl, refl)
    seat_stays (inr x) = rw x.view (refl, refl)

    -- the number that is returned is none above that to which the deeds lead that the seat has seen
    pub said_number : Says (origin disk vaults start) (asked call what sound) said (views v w)
        → said.at ≤ number_after start.commit_number w.seen
    said_number (inl x) = rw x.view (omega (arith, x.number, turned_number x))
    said_number (inr x) = omega (arith, x.at)
