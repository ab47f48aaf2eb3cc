-- A bounce as a part of a script.
use Rattle.std.proofs.Common.{◌≡◌, inl, inr, ⊎_elim, ℕ, ◌+◌, ◌≤◌, ◌==◌, if◌then◌else◌, Bool, true, false, List, [], ◌∷◌}
use Rattle.std.proofs.Common.{◌++◌, IsSome, Option, None, Result, Ok, Err, MatchResult, append_assoc, refl, sym, ◌∙◌}
use Rattle.std.proofs.Common.{ap, subst, arith, max}
use Rattle.std.proofs.lemmas.Bool.{eqb-true, true≢false}
use Rattle.pcm_base.specs.declared.answer.Reply.TheVariants.{Refused, Wrote}
use Rattle.pcm_base.specs.declared.{answer.Reply.Reply, command.Call.Call, command.Command.Command}
use Rattle.pcm_base.specs.declared.{command.Command.TheVariants.Bounce, refusal.Refusal.Refusal, said.Said.Said}
use Rattle.pcm_base.specs.{Arithmetic.counted_from, Counters.commits_of, Form.IsTurn, Run.name_in}
use Rattle.disk_model.specs.declared.store.Store.{Ghosts}
use Rattle.pin_turn.specs.{declared.view.View.View, Counts.Each}
use Rattle.editor_state.specs.{Applied.reply_of, Core.Core, Took.as_reply}
use Rattle.studio_seats.specs.Deeds.{commits, made, number_after, raised_by}
use Rattle.studio_seats.specs.Desks.{spent, views}
use Rattle.studio_seats.specs.{declared.deed.Deed.Deed, declared.held.Held.Held, Leads.HadTurn, Merge.by_seat}
use Rattle.studio_seats.specs.{Merge.deeds_of, Merge.numbers_of, Merge.numbers_if, Onward.Asks, Stands.origin}
use Rattle.studio_seats.proofs.{CallLemmas.reason_or, Turns.number_on, FreeingLemmas.asked_own}
use Rattle.sound_bounce.specs.Bounces.{AfterPin, BounceDeeds, Bounced, IsOfBounce, IsRefusedBy, LoadsAll, TellsPin}
use Rattle.sound_bounce.specs.Bounces.{moved, own_in, ReadsPin}
use Rattle.script_reader.specs.Place.{Bounces, Place, TellsBounce, batch, place_of}
use Rattle.script_reader.specs.{Added.SparesVault, Answering.Turn}
use Rattle.pin_turn.proofs.Sums.{Each-map, Each-left, Each-right}
use Rattle.edit_ports.specs.declared.vault.Vault as vault

-- every line but a bounce is one turn
pub turn_of : (c : Command) → ((name : List ℕ) → c ≡ Bounce name → ⊥) → IsTurn c
turn_of (Bounce name) never = absurd (never name refl)
turn_of c never = tt

-- ---- the place after it

module _ {D V : Type 0} (disk : Ghosts D) (vaults : vault.Ghosts V) (start : Core D) (v w : View (Held D V disk) Deed)
    (name : List ℕ) (a b : V) (said : Said ℕ) (last : ℕ) (numbers : List ℕ)
    (h : Bounced (origin disk vaults start) batch said (views v w) (moved vaults name a b))
    (low : last ≤ number_after start.commit_number v.seen) where
  abbrev p : Place
  p = place_of start v last numbers (vaults.tells a) (vaults.holds a) (vaults.fault_count a)

  abbrev q : Place
  q = place_of start w (max last said.at) numbers (vaults.tells b) (vaults.holds b) (vaults.fault_count b)

  -- the number that is printed last
  tells_last : (own : List Deed) → TellsPin start.commit_number v.seen said.at h.onward.added own
      → TellsBounce p h.onward.added own (max last said.at)
  tells_last [] none = omega (arith, none)
  tells_last (d ∷ ds) (front, back, are, at) =
      let up = number_on start.commit_number v.seen (front ++ d ∷ []) in
      let same : max last said.at ≡ said.at = omega (arith, up, at, low) in
      (front, back, are, same ∙ at)

  -- it is none above that of what was seen
  low_by : (own : List Deed) → TellsPin start.commit_number v.seen said.at h.onward.added own
      → max last said.at ≤ number_after start.commit_number w.seen
  low_by [] none =
      let on = number_on start.commit_number v.seen h.onward.added in
      let seen = ap (number_after start.commit_number) h.onward.seen in
      omega (arith, none, low, on, seen)
  low_by (d ∷ ds) (front, back, are, at) =
      let up = number_on start.commit_number v.seen h.onward.added in
      let on = number_on start.commit_number (v.seen ++ (front ++ d ∷ [])) back in
      let parts : h.onward.added ≡ (front ++ d ∷ []) ++ back =
      are ∙ sym (append_assoc front (d ∷ []) back) in
      let seen : w.seen ≡ (v.seen ++ (front ++ d ∷ [])) ++ back =
      h.onward.seen ∙ ap (λ (l : List Deed). v.seen ++ l) parts
      ∙ sym (append_assoc v.seen (front ++ d ∷ []) back) in
      let number = ap (number_after start.commit_number) seen in
      let all = ap (number_after start.commit_number) h.onward.seen in
      omega (arith, at, low, up, on, number, all)

  pub bounce_low : max last said.at ≤ number_after start.commit_number w.seen
  bounce_low = low_by (own_in (views v w) h.onward) h.number

  bounce_turn : (r : Reply) → r ≡ reply_of (as_reply Wrote said.what) → Bounces p name r q
  bounce_turn r is = record {
    added = h.onward.added;
    what = said.what;
    asks = h.onward.asks;
    own = h.deeds;
    reply = is;
    after = λ i. record q {
      seat = h.onward.number i;
      seen = h.onward.seen i;
      tells = h.spares.keeps.tells i;
    };
    last = tells_last (own_in (views v w) h.onward) h.number;
    spent = λ used. (h.idle used, h.onward.used_up used);
    written = λ told. (h.spares.holds told).written;
    failed = λ told. (h.spares.holds told).failed;
    size = h.spares.size;
    too_long = λ long. ap vaults.holds (h.spares.too_long long);
    unread = λ none. ap vaults.holds (h.spares.unread none);
    others = h.spares.keeps.others;
    counted = h.spares.faults;
  }

  pub bounce_told : (res : Result Reply Refusal) → res ≡ as_reply Wrote said.what
      → MatchResult res (λ r. Bounces p name r q) (λ reason. Bounces p name (Refused reason) q)
  bounce_told (Ok r) is = bounce_turn r (ap reply_of is)
  bounce_told (Err reason) is = bounce_turn (Refused reason) (ap reply_of is)

-- as a turn of the script
pub bounce_as : (p q : Place) (name : List ℕ) (c : Command) (res : Result Reply Refusal) → c ≡ Bounce name
    → MatchResult res (λ r. Bounces p name r q) (λ reason. Bounces p name (Refused reason) q)
    → MatchResult res (λ r. Turn p (Ok c) r q) (λ reason. Turn p (Ok c) (Refused reason) q)
bounce_as p q name c (Ok r) is h = inr (inr (inr (name, is, h)))
bounce_as p q name c (Err reason) is h = inr (inr (inr (name, is, h)))

-- ---- its calls make no commit, and name no sound

quiet : (c : Call) → IsOfBounce c → (commits_of c ≡ 0) × (name_in c ≡ None)
quiet c (inl is) = (ap commits_of is, ap name_in is)
quiet c (inr (pin, inl (inl is))) = (ap commits_of is, ap name_in is)
quiet c (inr (pin, inl (inr (from, count, is)))) = (ap commits_of is, ap name_in is)
quiet c (inr (pin, inr is)) = (ap commits_of is, ap name_in is)

none_made : (what : Result Reply Refusal) (c : Call) → commits_of c ≡ 0 → commits what c ≡ 0
none_made (Ok r) c none = none
none_made (Err why) c none = refl

pub none_numbered : (seat n : ℕ) (ds : List Deed) → Asks IsOfBounce seat ds → numbers_of (by_seat seat) n ds ≡ []
none_numbered seat n [] h = refl
none_numbered seat n (d ∷ ds) h =
    (λ i. by (seat == d.actor) refl i ++ none_numbered seat (raised_by d n) ds h.1 i)
  where
    by : (b : Bool) → (seat == d.actor) ≡ b → numbers_if b (made d) n ≡ []
    by true own = ap (counted_from (n + 1))
        (none_made d.what d.call (quiet d.call (h.0 (sym (eqb-true seat d.actor own)))).0)
    by false own = refl

-- a deed of it spares the vault, as it names no sound
spares_one : (d : Deed) → IsOfBounce d.call → SparesVault d
spares_one d h =
    λ some. absurd (true≢false (sym (subst (λ (x : Option (List ℕ)). IsSome x) (quiet d.call h).1 some)))

pub bounce_spares : (seat : ℕ) (ds : List Deed) → Asks IsOfBounce seat ds
    → Each SparesVault (deeds_of (by_seat seat) ds)
bounce_spares seat ds h = Each-map (λ (d : Deed). IsOfBounce d.call) SparesVault spares_one
    (deeds_of (by_seat seat) ds) (asked_own IsOfBounce seat ds h)

-- ---- where no turn was left, the seat knows

pub each_own : (P : Deed → Type 0) (kind : Deed → Bool) (ds : List Deed) → Each P ds → Each P (deeds_of kind ds)
each_own P kind [] h = tt
each_own P kind (d ∷ ds) h = by (kind d) (each_own P kind ds h.1)
  where
    by : (b : Bool) → Each P (deeds_of kind ds) → Each P ((if b then d ∷ [] else []) ++ deeds_of kind ds)
    by true all = (h.0, all)
    by false all = all

refused_spent : {used_up : Bool} {c : Call} {ds : List Deed} → Each HadTurn ds → IsRefusedBy used_up c spent ds
    → used_up ≡ true
refused_spent had (inl (d, are, call, what)) =
    absurd ((subst (λ (l : List Deed). Each HadTurn l) are had).0 (ap reply_of what))
refused_spent had (inr (none, is, found)) = found

loads_spent : {used_up : Bool} {pin len : ℕ} {ds : List Deed} → Each HadTurn ds
    → LoadsAll {A = ℕ} used_up pin batch len (Err spent) ds → used_up ≡ true
loads_spent had h =
    let last : Each HadTurn h.last =
    Each-right HadTurn h.loads h.last (subst (λ (l : List Deed). Each HadTurn l) h.are had) in
    ⊎_elim (λ x. refused_spent last x) (λ x. absurd (cc x.0)) h.ends

after_spent : {used_up : Bool} {pin : ℕ} {ds : List Deed} → Each HadTurn ds
    → AfterPin used_up pin batch (Err spent) ds → used_up ≡ true
after_spent {used_up} {pin} had a = by a.reads_are
  where
    reads : Each HadTurn a.reads
    reads = Each-left HadTurn a.reads a.gone (subst (λ (l : List Deed). Each HadTurn l) a.are had)

    by : ReadsPin used_up pin batch (Err spent) a.reads → used_up ≡ true
    by (inl (len, h)) = loads_spent (subst (λ (l : List Deed). Each HadTurn l) h.are reads).1 h.loads
    by (inr (inl h)) = refused_spent reads h
    by (inr (inr h)) = absurd (cc h.6)

own_spent : (used_up : Bool) (what : Result ℕ Refusal) (own : List Deed) → what ≡ Err spent → Each HadTurn own
    → BounceDeeds used_up batch what own → used_up ≡ true
own_spent used_up what [] is had (inl none) = absurd (cc (sym none ∙ is))
own_spent used_up what [] is had (inr h) = h.1
own_spent used_up what (d ∷ ds) is had (call, inl (pin, pinned, a)) =
    after_spent had.1 (subst (λ (r : Result ℕ Refusal). AfterPin used_up pin batch r ds) is a)
own_spent used_up what (d ∷ ds) is had (call, inr (why, refused, told, none)) =
    absurd (had.0 (ap reply_of refused ∙ ap Refused (ap (reason_or spent) (sym told ∙ is))))

-- what was answered Spent
told_spent : (what : Result ℕ Refusal) → Refused spent ≡ reply_of (as_reply Wrote what) → what ≡ Err spent
told_spent (Ok bytes) is = absurd (cc is)
told_spent (Err why) is = let same : Refused spent ≡ Refused why = is in cc

pub bounce_spent : (p q : Place) (name : List ℕ) (r : Reply) → Bounces p name r q → Each HadTurn q.seen
    → r ≡ Refused spent → q.used_up ≡ true
bounce_spent p q name r h had is =
    let seen : Each HadTurn (p.seen ++ h.added) =
    subst (λ (l : List Deed). Each HadTurn l) (ap (λ (z : Place). z.seen) h.after) had in
    own_spent q.used_up h.what (deeds_of (by_seat p.seat) h.added) (told_spent h.what (sym is ∙ h.reply))
    (each_own HadTurn (by_seat p.seat) h.added (Each-right HadTurn p.seen h.added seen)) h.own
