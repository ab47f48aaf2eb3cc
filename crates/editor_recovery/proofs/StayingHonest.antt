-- The calls of a studio leave an honest disk honest.
use Rattle.editor_recovery.proofs.Common.{◌≡◌, ◌⊎◌, ◌∙◌, inl, inr, ⊎_elim, sym, ap, refl, ℕ, ◌++◌, ◌≤◌, ◌<◌}
use Rattle.editor_recovery.proofs.Common.{Bool, true, false, Option, None, List, arith, leb-true, ltb-true}
use Rattle.editor_recovery.proofs.Common.{All-contains, All-from_recursion, Contains, IsTrue, if◌then◌else◌}
use Rattle.editor_recovery.proofs.Common.{nat_le, nat_lt, ◌&&◌, ◌||◌, COUNTER_LIMIT, FIRST_BLOCK, BlockRef, Files}
use Rattle.editor_recovery.proofs.Common.{upto_refl, Ghosts, blocks, EachNow, each_has, history_blocks, all_parts}
use Rattle.editor_recovery.proofs.Common.{history_blocks_alike, IsHeld, IsStudio, shown, studio_of, Core, NoForeign}
use Rattle.editor_recovery.proofs.Common.{is_foreign, IsHonest, Names, Stands}
use Rattle.std.specs.Option.{option_and_then}
use Rattle.sample_block.specs.Blocks.{block_in}
use Rattle.project_journal.proofs.{Parses.form_known}
use Rattle.editor_state.specs.Studios.{IsDurable, clip_blocks, pin_blocks}
use Rattle.editor_state.specs.{Core.form_at, Left.LeavesOthers, Left.MayRemove, Took.Exchange, Took.Took}
use Rattle.editor_recovery.specs.{StayingHonest.IsHonestImage, StayingHonest.StaysHonest}
use Rattle.editor_recovery.proofs.{Created.not_journal, Honest.same_saved}

-- ---- no foreign file comes

of_two : (a b c : Bool) → ((a && b) || c) ≡ true → (b ≡ true) ⊎ (c ≡ true)
of_two a b true e = inr refl
of_two true true false e = inl refl
of_two _ _ false e = absurd (cc e)

-- no number of a block is foreign
own : (file : ℕ) → FIRST_BLOCK ≤ file → file < COUNTER_LIMIT → IsTrue (is_foreign file) → ⊥
own file least most foreign = ⊎_elim
    (λ low. absurd (omega (arith, ltb-true file FIRST_BLOCK low, least)))
    (λ high. absurd (omega (arith, leb-true COUNTER_LIMIT file high, most)))
    (of_two (nat_le 2 file) (nat_lt file FIRST_BLOCK) (nat_le COUNTER_LIMIT file) foreign)

no_foreign : (first last : ℕ) (MayGo : ℕ → Type 0) (d c : Files) → 16 ≤ first → LeavesOthers first last MayGo d c
    → NoForeign d → NoForeign c
no_foreign first last MayGo d c least step before file some foreign = ⊎_elim
    (λ same. before file (rw same at some) foreign)
    (λ gone. absurd (cc (rw gone.1 at some)))
    (step.others file (not_journal file foreign)
    (λ begun. own file (omega (arith, least, begun.least)) begun.block foreign))

-- ---- blocks that images name

same_block : (c d : Files) (id : ℕ) → c id ≡ d id → blocks c id ≡ blocks d id
same_block c d id same =
    let is_block = nat_le FIRST_BLOCK id && nat_lt id COUNTER_LIMIT in
    ap (λ (o : Option (List ℕ)). if is_block then option_and_then (block_in id) o else None) same

module _ {D : Type 0} (disk : Ghosts D) (s : Core D) (few : s.file ≤ 1) (durable : IsDurable disk s) where
  -- what an image names is as the store reads
  named_same : (c : Files) → disk.may_leave s.store (disk.clock s.store) c → (id : ℕ) → Names c id
      → c id ≡ disk.reads s.store id
  named_same c now id names =
      let has = each_has durable.there c now in
      let stands : Stands c (form_at s) durable.log durable.kept = record {
        known = form_known s.version s.file;
        few = few;
        there = has;
        base = durable.base;
        begins = durable.begins;
        told = durable.told;
      } in
      let kept : names.kept ≡ durable.kept =
      same_saved c names.form (form_at s) names.log durable.log names.kept durable.kept names.stands stands in
      let blocks_are = ap history_blocks durable.history ∙ history_blocks_alike s.history in
      let there : Contains (history_blocks s.history) names.block = rw (kept, blocks_are) at names.named in
      let Same : BlockRef → Type 0 = λ b. c b.id ≡ disk.reads s.store b.id in
      let all = (all_parts Same (history_blocks s.history) (pin_blocks s.pins ++ clip_blocks s.clipboard)
      (durable.blocks c now)).0 in
      rw names.is at (All-contains Same (history_blocks s.history) names.block
      (All-from_recursion Same (history_blocks s.history) all) there)

module _ {D : Type 0} (disk : Ghosts D) (old new : Core D) (exchange : Exchange)
    (is : IsStudio disk old) (held : IsHeld disk old) (honest : IsHonest disk old.store)
    (took : Took disk old exchange new) where
  -- at any moment of it
  no_foreign_since : (c : Files) → disk.may_leave new.store (disk.clock old.store) c → NoForeign c
  no_foreign_since c since =
      let from = took.changed.images.from c since in
      no_foreign old.next_block new.next_block (MayRemove exchange.call old.counts) from.0 c is.counters.block_least
      from.2 (honest.foreign from.0 from.1)

  goes_on : new.stopped ≡ None → IsHonest disk new.store
  goes_on still =
      let images = took.changed.images in
      let durable = (took.held held).durable still in
      let few = took.studio.journal.among in
      let keeps = took.now still held in record {
        model = rw took.changed.model honest.model;
        foreign = λ c now.
            no_foreign_since c (images.fewer (disk.clock old.store) (disk.clock new.store) c images.later
            (upto_refl (disk.clock new.store)) now);
        whole = λ c now. inr (shown (studio_of disk new), keeps c now);
        same = λ c nc d nd id p q.
            same_block c d id (named_same disk new few durable c nc id p ∙ sym (named_same disk new few durable d nd id q));
      }

  pub stays_honest : StaysHonest disk old new
  stays_honest = record {
    going = goes_on;
    rested = λ some. rw (took.rests some) honest;
    any_moment = λ going c since. record {
      foreign = no_foreign_since c since;
      whole = inr (⊎_elim
          (λ before. (shown (studio_of disk old), before))
          (λ flight. (shown flight.after, flight.keeps))
          (took.any_moment going held c since));
    };
  }

-- one image alone
pub alone_honest : {D : Type 0} (disk : Ghosts D) (store : D) (files : Files) → IsHonestImage files
    → IsTrue (disk.keeps_model store)
    → EachNow disk store (λ c. c ≡ files) → IsHonest disk store
alone_honest disk store files image model alone = record {
  model = model;
  foreign = λ c now. rw (alone c now) image.foreign;
  whole = λ c now. rw (alone c now) image.whole;
  same = λ c nc d nd id p q. ap (λ (f : Files). blocks f id) (alone c nc ∙ sym (alone d nd));
}
