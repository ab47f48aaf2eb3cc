-- What one call needs of the blocks and of the journal, by what it answers.
use Rattle.session_run.proofs.Common.{◌≡◌, inl, inr, refl, sym, ap, subst, ℕ, ◌+◌, ◌≤◌, Bool, true, false}
use Rattle.session_run.proofs.Common.{if◌then◌else◌, Result, Ok, Err, arith, true≢false, IfErr, Answers, CarriesOut}
use Rattle.session_run.proofs.Common.{outside, Reply, Call, SoundMove, Refusal, begun_in_vain, may_have_begun}
use Rattle.session_run.proofs.Common.{carried_is, IsServed, IsUnharmed, has_begun}
use Rattle.pcm_base.specs.Counters.{Needs, NeedsBy}
use Rattle.pcm_base.specs.Run.{Breaks, BreaksOff, Refuses}
use Rattle.pcm_base.specs.Shape.{Shape, NewTrack, shape_of}
use Rattle.pcm_base.specs.{Outside.Outside, Studio.Studio}
use Rattle.editor_state.specs.Exchanges.{is_broken_off, is_cut_off, may_begin, reads_sound}
use Rattle.pcm_base.specs.declared.command.Call.TheVariants as call
use Rattle.pcm_base.specs.declared.refusal.Refusal.TheVariants as refusal

-- ---- the bounds on blocks and on the record are apart

line_mixed : (out : Outside) (t : Studio) (c : Call) (shape : Shape) (blocks len few short : ℕ)
    → NeedsBy out t c shape blocks len → NeedsBy out t c shape few short → NeedsBy out t c shape blocks short
line_mixed out t c NewTrack blocks len few short a b = (a.0, b.1)
line_mixed out t c _ blocks len few short a b = (a.0, b.1)

pub mixed : (out : Outside) (t : Studio) (c : Call) (blocks len few short : ℕ) → Needs out t c blocks len
    → Needs out t c few short → Needs out t c blocks short
mixed out t (call.Line c) blocks len few short a b =
    line_mixed out t (call.Line c) (shape_of c) blocks len few short a b
mixed out t (call.Piece track tag samples) blocks len few short a b = (a.0, b.1, b.2)
mixed out t _ blocks len few short a b = (a.0, b.1)

-- ---- a call that may have asked the disk

-- the blocks that it may have made
pub record Began (t u : Studio) (c : Call) (sound : SoundMove) : Type 0 where
  pub blocks : ℕ
  pub len : ℕ
  pub needs : Needs (outside t sound) t c blocks len
  pub least : t.next_block ≤ u.next_block
  pub most : u.next_block ≤ t.next_block + blocks

module _ (t u : Studio) (c : Call) (sound : SoundMove) where
  carried : (r : Reply) → CarriesOut t c sound r u → Began t u c sound
  carried r h = let next : u.next_block ≡ t.next_block + h.blocks = ap (λ (z : Studio). z.next_block)
      (carried_is t u c sound r h) in record {
        blocks = h.blocks;
        len = h.len;
        needs = h.needs;
        least = omega (arith, next);
        most = omega (arith, next);
      }

  refused : (why : Refusal) → Refuses t c sound why u → Began t u c sound
  refused why h = let next : u.next_block ≡ t.next_block = ap (λ (z : Studio). z.next_block) h.same in record {
    blocks = h.blocks;
    len = h.len;
    needs = h.needs;
    least = omega (arith, next);
    most = omega (arith, next);
  }

  off : BreaksOff t c sound u → Began t u c sound
  off h = let next : u.next_block ≡ t.next_block + h.blocks = ap (λ (z : Studio). z.next_block) h.is in record {
    blocks = h.blocks;
    len = h.len;
    needs = h.needs;
    least = omega (arith, next);
    most = omega (arith, next);
  }

  broken : (why : Refusal) → has_begun (Err why) ≡ true → Breaks t c sound why u → Began t u c sound
  broken (refusal.Damaged file at want have) is h = off h.breaks
  broken refusal.DiskFault is h = off h.breaks
  broken refusal.VaultFault is h = off h.1.breaks
  broken refusal.NoMemory is h = absurd (true≢false (sym is))
  broken why is h = absurd h

  pub began : (what : Result Reply Refusal) → has_begun what ≡ true → Answers t c sound what u → Began t u c sound
  began (Ok r) is h = carried r h
  began (Err why) is (inl h) = refused why h
  began (Err why) is (inr (inl left)) =
      let no : has_begun (Err refusal.BadRange) ≡ true =
      subst (λ (w : Refusal). has_begun (Err w) ≡ true) left.reason is in
      absurd (true≢false (sym no))
  began (Err why) is (inr (inr h)) = broken why is h

  -- ---- one that asked nothing

  unbroken : (why : Refusal) → has_begun (Err why) ≡ false → Breaks t c sound why u → u ≡ t
  unbroken (refusal.Damaged file at want have) is h = absurd (true≢false is)
  unbroken refusal.DiskFault is h = absurd (true≢false is)
  unbroken refusal.VaultFault is h = absurd (true≢false is)
  unbroken refusal.NoMemory is h = h.same
  unbroken why is h = absurd h

  pub idle : (what : Result Reply Refusal) → has_begun what ≡ false → Answers t c sound what u → u ≡ t
  idle (Ok r) is h = absurd (true≢false is)
  idle (Err why) is (inl h) = h.same
  idle (Err why) is (inr (inl left)) = left.same
  idle (Err why) is (inr (inr h)) = unbroken why is h

-- ---- what no device broke off

-- a choice of two is false only where the other is
other_false : (b c : Bool) → (if b then true else c) ≡ false → c ≡ false
other_false true c is = absurd (true≢false is)
other_false false c is = is

both_false : (b c d : Bool) → c ≡ false → d ≡ false → (if b then c else d) ≡ false
both_false true c d one two = one
both_false false c d one two = two

-- then no call may have made a block
pub not_begun : (c : Call) (why : Refusal) → has_begun (Err why) ≡ false → may_have_begun c why ≡ false
not_begun c why is = both_false (reads_sound c) (may_begin why) (is_broken_off why) is
    (other_false (is_cut_off why) (is_broken_off why) is)

-- ---- what the disk broke off

-- the disk did not fail, and no file is damaged
quiet : (c : Call) (why : Refusal) → IsServed c why → IsUnharmed why → is_broken_off why ≡ false
quiet c (refusal.Damaged file at want have) served whole = absurd whole
quiet c refusal.DiskFault served whole = absurd served
quiet c why served whole = refl

pub vain_none : (c : Call) (what : Result Reply Refusal) → IfErr what (IsServed c) → IfErr what IsUnharmed
    → begun_in_vain what ≡ 0
vain_none c (Ok r) served whole = refl
vain_none c (Err why) served whole = ap (λ (b : Bool). if b then 1 else 0) (quiet c why served whole)

pub vain_most : (what : Result Reply Refusal) → begun_in_vain what ≤ 1
vain_most (Ok r) = omega arith
vain_most (Err why) = either (is_broken_off why)
  where
    either : (b : Bool) → (if b then 1 else 0) ≤ 1
    either true = omega arith
    either false = omega arith
