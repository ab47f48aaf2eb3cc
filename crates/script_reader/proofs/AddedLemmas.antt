-- What a script adds to the list of a desk, line by line.
use Rattle.std.proofs.Common.{◌≡◌, inl, inr, ℕ, ◌+◌, nat_lt, if◌then◌else◌, Bool, true, false, IsTrue, List, [], ◌∷◌}
use Rattle.std.proofs.Common.{◌++◌, Result, Ok, Err, IfErr, Option, Some, None, IsSome, ◌≤◌, refl, sym, ◌∙◌, ap, subst}
use Rattle.std.proofs.Common.{append_assoc, eq-eqb, arith}
use Rattle.std.proofs.lemmas.List.{append-nil}
use Rattle.std.specs.{Prelude.MatchBool, Prelude.OnErr, Prelude.OnOk, List.flat_map}
use Rattle.pcm_base.specs.declared.{answer.Answer.Answer, answer.Reply.Reply, command.Call.TheVariants.Line}
use Rattle.pcm_base.specs.declared.{command.Command.Command, entry.SoundMove.SoundMove, refusal.Refusal.Refusal}
use Rattle.pcm_base.specs.{Arithmetic.counted_from, Causes.Rose, Run.Follows, Run.name_in_line, Shape.is_commit}
use Rattle.pcm_base.specs.{Shape.shape_of, Outside.SameElsewhere, Outside.Sounds}
use Rattle.pin_turn.specs.Counts.{Each}
use Rattle.pin_turn.proofs.Sums.{Each-append}
use Rattle.editor_state.specs.Vaults.{VaultCountedBy}
use Rattle.script_text.specs.Grammar.{is_silent, line_of}
use Rattle.studio_seats.specs.Deeds.{commits, deed, entries_of, number_after}
use Rattle.studio_seats.specs.{declared.deed.Deed.Deed, Merge.by_seat, Merge.deeds_of, Merge.numbers_of}
use Rattle.studio_seats.proofs.MergeLemmas.{deeds_append, numbers_append, numbers_others, own_order}
use Rattle.studio_seats.proofs.{FaultLemmas.rose_first, FaultLemmas.rose_last, Grown.number_append}
use Rattle.wav_pcm.specs.Written.{MayBegin}
use Rattle.sound_bounce.specs.Bounces.{BounceDeeds, FaultsOf, IsUnread, text_by}
use Rattle.script_reader.specs.Added.{Adds, FollowsLines, IsNoVault, LineMoves, MayHold, ScriptsAdd, SparesVault}
use Rattle.script_reader.specs.Place.{batch, Bounces, CountsFaults, Enters, Place, line_deed, made_commit, seen_after}
use Rattle.script_reader.specs.Answering.{Next, AnswersLines, Turn}
use Rattle.script_reader.proofs.BounceLemmas.{bounce_spares, none_numbered}
use Rattle.pcm_base.specs.declared.refusal.Refusal.TheVariants as refusal

-- a line is one commit or none
one_or_none : (b : Bool) (n : ℕ) → counted_from (n + 1) (if b then 1 else 0)
    ≡ (if nat_lt 0 (if b then 1 else 0) then (n + (if b then 1 else 0)) ∷ [] else [])
one_or_none true n = refl
one_or_none false n = refl

line_number : (n : ℕ) (c : Command) (what : Result Reply Refusal) → counted_from (n + 1) (commits what (Line c))
    ≡ (if made_commit what c then (n + commits what (Line c)) ∷ [] else [])
line_number n c (Ok r) = one_or_none (is_commit (shape_of c)) n
line_number n c (Err why) = refl

own_number : (seat n : ℕ) (c : Command) (what : Result Reply Refusal) (sound : SoundMove)
    → numbers_of (by_seat seat) n (deed seat (Line c) what sound ∷ [])
    ≡ (if made_commit what c then number_after n (deed seat (Line c) what sound ∷ []) ∷ [] else [])
own_number seat n c what sound =
    ap (λ (b : Bool). (if b then counted_from (n + 1) (commits what (Line c)) else []) ++ []) (eq-eqb seat seat refl)
    ∙ (append-nil (counted_from (n + 1) (commits what (Line c))) ∙ line_number n c what)

-- ---- the count of a vault's faults

later_by : (why : Refusal) (old new : ℕ) → VaultCountedBy why old new → old ≤ new
later_by refusal.VaultFault old new h = h.1
later_by why old new h = omega (arith, h)

later : (name : Option (List ℕ)) (what : Result Reply Refusal) (old new : ℕ) → CountsFaults name what old new
    → old ≤ new
later None what old new h = omega (arith, h)
later (Some name) (Ok r) old new h = omega (arith, h)
later (Some name) (Err why) old new h = later_by why old new h

spares_by : (why : Refusal) (old new : ℕ) → VaultCountedBy why old new → (Rose old new → ⊥) → IsNoVault why
spares_by refusal.VaultFault old new h calm = absurd (calm h.0)
spares_by why old new h calm = tt

spares_vault : (name : Option (List ℕ)) (what : Result Reply Refusal) (old new : ℕ) → CountsFaults name what old new
    → (Rose old new → ⊥) → IsSome name → IfErr what IsNoVault
spares_vault None what old new h calm some = cc
spares_vault (Some name) (Ok r) old new h calm some = tt
spares_vault (Some name) (Err why) old new h calm some = spares_by why old new h calm

-- what no line changes of a place
abbrev settled : Place → ℕ × ℕ × ℕ × Bool
settled p = (p.seat, p.first, p.rate, p.tells)

-- what one line adds
record AddsOne (p q : Place) : Type 0 where
  added : List Deed
  seen : q.seen ≡ p.seen ++ added
  same : settled q ≡ settled p
  numbers : q.commits ≡ p.commits ++ numbers_of (by_seat p.seat) (number_after p.first p.seen) added
  sounds : IsTrue p.tells → LineMoves p.rate (deeds_of (by_seat p.seat) added) p.sounds q.sounds
  faults : p.faults ≤ q.faults
  spares : (Rose p.faults q.faults → ⊥) → Each SparesVault (deeds_of (by_seat p.seat) added)

-- a line that took no turn
adds_none : (p q : Place) (used : Bool) → q ≡ record p { used_up = used } → AddsOne p q
adds_none p q used is = record {
  added = [];
  seen = ap (λ (z : Place). z.seen) is ∙ sym (append-nil p.seen);
  same = ap settled is;
  numbers = ap (λ (z : Place). z.commits) is ∙ sym (append-nil p.commits);
  sounds = λ told. record { moves = inl (ap (λ (z : Place). z.sounds) is) };
  faults = let same = ap (λ (z : Place). z.faults) is in omega (arith, same);
  spares = λ calm. tt;
}

module _ (p q : Place) (c : Command) (r : Reply) (h : Enters p c r q) where
  abbrev e : Deed
  e = line_deed p c h.what q.sounds

  abbrev n : ℕ
  n = number_after p.first p.seen

  own_is : deeds_of (by_seat p.seat) (h.between ++ e ∷ []) ≡ e ∷ []
  own_is = own_order p.seat [] h.between e refl h.by_others

  numbers_are : numbers_of (by_seat p.seat) n (h.between ++ e ∷ [])
      ≡ (if made_commit h.what c then number_after (number_after n h.between) (e ∷ []) ∷ [] else [])
  numbers_are = numbers_append (by_seat p.seat) n h.between (e ∷ [])
      ∙ (λ i. numbers_others p.seat n h.between h.by_others i
      ++ own_number p.seat (number_after n h.between) c h.what e.sound i)

  told_at : number_after p.first (seen_after p h.between c h.what q.sounds)
      ≡ number_after (number_after n h.between) (e ∷ [])
  told_at = number_append p.first (p.seen ++ h.between) (e ∷ [])
      ∙ ap (λ (m : ℕ). number_after m (e ∷ [])) (number_append p.first p.seen h.between)

  -- the sounds follow its deed
  pub turn_sounds : IsTrue p.tells
      → Follows p.sounds (entries_of (deeds_of (by_seat p.seat) (h.between ++ e ∷ []))) q.sounds
  turn_sounds told = subst (λ (l : List Deed). Follows p.sounds (entries_of l) q.sounds) (sym own_is)
      (q.sounds, h.heard (λ _. told), refl)

  adds_turn : AddsOne p q
  adds_turn = record {
    added = h.between ++ e ∷ [];
    seen = ap (λ (z : Place). z.seen) h.after ∙ append_assoc p.seen h.between (e ∷ []);
    same = ap settled h.after;
    numbers = ap (λ (z : Place). z.commits) h.after ∙ ap (λ (l : List ℕ). p.commits ++ l)
        (ap (λ (m : ℕ). if made_commit h.what c then m ∷ [] else []) told_at ∙ sym numbers_are);
    sounds = λ told. record { moves = inl (turn_sounds told) };
    faults = later (name_in_line c) h.what p.faults q.faults h.counted;
    spares = λ calm. subst (λ (l : List Deed). Each SparesVault l) (sym own_is)
        (spares_vault (name_in_line c) h.what p.faults q.faults h.counted calm, tt);
  }

-- a bounce
may_hold : (text : List ℕ) (what : Result ℕ Refusal) (old new : Option (List ℕ)) → OnOk what (new ≡ Some text)
    → OnErr what (MayBegin text old new) → MayHold text what old new
may_hold text (Ok bytes) old new written failed = written
may_hold text (Err why) old new written failed = failed

later_of : (what : Result ℕ Refusal) (own : List Deed) (old new : ℕ) → FaultsOf what own old new → old ≤ new
later_of (Ok bytes) own old new h = omega (arith, h)
later_of (Err why) own old new (inl h) = h.2
later_of (Err why) own old new (inr h) = let same : new ≡ old = h.0 in omega (arith, same)

moves_by : (rate : ℕ) (own : List Deed) (before after : Sounds)
    → (Each (λ (d : Deed). IsUnread d.what) own → after ≡ before)
    → ((name : List ℕ) × (used_up : Bool) × (what : Result ℕ Refusal) × BounceDeeds used_up batch what own
    × MayHold (text_by rate own) what (before name) (after name) × SameElsewhere name before after)
    → LineMoves rate own before after
moves_by rate [] before after unread h = record { moves = inl (unread tt) }
moves_by rate (d ∷ ds) before after unread h = record { moves = inr h }

adds_bounce : (p q : Place) (name : List ℕ) (r : Reply) → Bounces p name r q → AddsOne p q
adds_bounce p q name r h =
    let own : List Deed = deeds_of (by_seat p.seat) h.added in
    let n : ℕ = number_after p.first p.seen in
    record {
      added = h.added;
      seen = ap (λ (z : Place). z.seen) h.after;
      same = ap settled h.after;
      numbers = ap (λ (z : Place). z.commits) h.after ∙ sym (append-nil p.commits)
          ∙ ap (λ (l : List ℕ). p.commits ++ l) (sym (none_numbered p.seat n h.added h.asks));
      sounds = λ told. moves_by p.rate own p.sounds q.sounds h.unread (
        name,
        q.used_up,
        h.what,
        h.own,
        may_hold (text_by p.rate own) h.what (p.sounds name) (q.sounds name) (h.written told) (h.failed told),
        h.others told,
      );
      faults = later_of h.what own p.faults q.faults h.counted;
      spares = λ calm. bounce_spares p.seat h.added h.asks;
    }

adds_one : (p q : Place) (said : Result Command ℕ) (r : Reply) → Turn p said r q → AddsOne p q
adds_one p q (Err column) r h = adds_none p q p.used_up h.1
adds_one p q (Ok c) r (inl h) = adds_turn p q c r h.1
adds_one p q (Ok c) r (inr (inl h)) = adds_none p q true h.1
adds_one p q (Ok c) r (inr (inr (inl h))) = adds_none p q p.used_up h.1
adds_one p q (Ok c) r (inr (inr (inr h))) = adds_bounce p q h.0 r h.2

-- one line, and the rest
module _ (p mid q : Place) where
  abbrev deeds_in : List Deed → List Deed
  deeds_in l = deeds_of (by_seat p.seat) l

  adds_both : AddsOne p mid → Adds mid q → Adds p q
  adds_both h k =
      let seat : mid.seat ≡ p.seat = λ i. (h.same i).0 in
      let tells : mid.tells ≡ p.tells = λ i. (h.same i).3 in
      let n = number_after p.first p.seen in
      let at : number_after mid.first mid.seen ≡ number_after n h.added =
      (λ i. number_after (h.same i).1 (h.seen i)) ∙ number_append p.first p.seen h.added in
      let parts : deeds_in (h.added ++ k.added) ≡ deeds_in h.added ++ deeds_in k.added =
      deeds_append (by_seat p.seat) h.added k.added in
      record {
        added = h.added ++ k.added;
        seen = k.seen ∙ (ap (λ (l : List Deed). l ++ k.added) h.seen ∙ append_assoc p.seen h.added k.added);
        seat = k.seat ∙ seat;
        first = k.first ∙ (λ i. (h.same i).1);
        tells = k.tells ∙ tells;
        numbers = k.numbers ∙ (λ i. h.numbers i ++ numbers_of (by_seat (seat i)) (at i) k.added)
            ∙ append_assoc p.commits (numbers_of (by_seat p.seat) n h.added)
            (numbers_of (by_seat p.seat) (number_after n h.added) k.added)
            ∙ ap (λ (l : List ℕ). p.commits ++ l) (sym (numbers_append (by_seat p.seat) n h.added k.added));
        lines = deeds_in h.added ∷ k.lines;
        own = parts ∙ ap (λ (l : List Deed). deeds_in h.added ++ l)
            (subst (λ (m : ℕ). deeds_of (by_seat m) k.added ≡ flat_map (λ (ds : List Deed). ds) k.lines) seat k.own);
        sounds = λ told. (
          mid.sounds,
          h.sounds told,
          subst (λ (m : ℕ). FollowsLines m mid.sounds k.lines q.sounds) (λ i. (h.same i).2)
              (k.sounds (subst (λ (b : Bool). IsTrue b) (sym tells) told)),
        );
        faults = let a = h.faults in let b = k.faults in omega (arith, a, b);
        spares = λ calm.
            let front : Each SparesVault (deeds_in h.added) =
            h.spares (λ rose. calm (rose_first p.faults mid.faults q.faults k.faults rose)) in
            let back : Each SparesVault (deeds_in k.added) =
            subst (λ (n : ℕ). Each SparesVault (deeds_of (by_seat n) k.added)) seat
            (k.spares (λ rose. calm (rose_last p.faults mid.faults q.faults h.faults rose))) in
            subst (λ (l : List Deed). Each SparesVault l) (sym parts)
            (Each-append SparesVault (deeds_in h.added) (deeds_in k.added) front back);
      }

adds_next : (b : Bool) (p q : Place) (line : List ℕ) (lines : List (List ℕ)) (answers : List Answer)
    → ((mid : Place) (later : List Answer) → AnswersLines mid lines later q → Adds mid q)
    → MatchBool b (AnswersLines p lines answers q) (Next p line answers (λ mid later. AnswersLines mid lines later q))
    → Adds p q
adds_next true p q line lines answers goes h = goes p answers h
adds_next false p q line lines [] goes h = absurd h
adds_next false p q line lines (a ∷ answers) goes (mid, turn, h) =
    adds_both p mid q (adds_one p mid (line_of line) a.reply turn.0) (goes mid answers h)

pub scripts_add : ScriptsAdd
scripts_add [] answers p q h = record {
  added = [];
  seen = ap (λ (z : Place). z.seen) h.1 ∙ sym (append-nil p.seen);
  seat = ap (λ (z : Place). z.seat) h.1;
  first = ap (λ (z : Place). z.first) h.1;
  tells = ap (λ (z : Place). z.tells) h.1;
  numbers = ap (λ (z : Place). z.commits) h.1 ∙ sym (append-nil p.commits);
  lines = [];
  own = refl;
  sounds = λ told. ap (λ (z : Place). z.sounds) h.1;
  faults = let same = ap (λ (z : Place). z.faults) h.1 in omega (arith, same);
  spares = λ calm. tt;
}
scripts_add (line ∷ lines) answers p q h =
    adds_next (is_silent line) p q line lines answers (λ mid later k. scripts_add lines later mid q k) h
