-- What an answer makes of the studio: another journal where it was packed, fewer points where the oldest go, and else
-- the same.
use Rattle.std.proofs.Common.{◌≡◌, ◌∙◌, refl, ap, ℕ, ◌+◌, ◌^◌, ◌≤◌, ◌<◌, arith}
use Rattle.pcm_base.specs.Shape.{Shape, PurgeTo, Look, Reclaim, Compact, Bounce, View, Tracks, shape_of}
use Rattle.pcm_base.specs.{declared.answer.Reply.Reply, declared.command.Call.Call, declared.entry.SoundMove.SoundMove}
use Rattle.pcm_base.specs.{declared.limits.TheConstants.COUNTER_LIMIT, declared.limits.TheConstants.FIRST_RECORD}
use Rattle.pcm_base.specs.{Counters.generations_by, Counters.generations_of, Outside.Outside, Run.CarriesOut}
use Rattle.pcm_base.specs.{Run.answered, Run.followed, Run.outside, Run.told_state, State.State, Step.MayAnswer}
use Rattle.pcm_base.specs.{Step.MayReplyBy, Step.after, Step.after_shape, Step.seen, Studio.Studio}
use Rattle.model_laws.specs.Bounds.{IsBoundedStudio}
use Rattle.model_laws.proofs.Histories.{purged_points}
use Rattle.pcm_base.specs.declared.answer.Reply.TheVariants as reply
use Rattle.pcm_base.specs.declared.command.Call.TheVariants as call

-- the commit number stays
pub answered_commit : (r : Reply) (t : Studio) → (answered r t).state.commit ≡ t.state.commit
answered_commit (reply.Packed bytes) t = refl
answered_commit (reply.Purged n) t = refl
answered_commit _ t = refl

-- what the answer says of the history
pub answered_replied : (r : Reply) (t : Studio) → (answered r t).state ≡ told_state r t.state
answered_replied (reply.Packed bytes) t = refl
answered_replied (reply.Purged n) t = refl
answered_replied _ t = refl

-- and all but the history and the journal
pub answered_is : (r : Reply) (t : Studio) → answered r t ≡ record t {
  state = (answered r t).state;
  file = (answered r t).file;
  version = (answered r t).version;
  generation = (answered r t).generation;
  journal_end = (answered r t).journal_end;
}
answered_is (reply.Packed bytes) t = refl
answered_is (reply.Purged n) t = refl
answered_is _ t = refl

-- so a call that is carried out leaves what it leads to, but for the history and the journal
pub carried_is : (t u : Studio) (c : Call) (sound : SoundMove) (r : Reply) (h : CarriesOut t c sound r u) →
    u ≡ record (followed (outside t sound) t c h.blocks h.len h.layout) {
      state = (answered r (followed (outside t sound) t c h.blocks h.len h.layout)).state;
      file = (answered r (followed (outside t sound) t c h.blocks h.len h.layout)).file;
      version = (answered r (followed (outside t sound) t c h.blocks h.len h.layout)).version;
      generation = (answered r (followed (outside t sound) t c h.blocks h.len h.layout)).generation;
      journal_end = (answered r (followed (outside t sound) t c h.blocks h.len h.layout)).journal_end;
    }
carried_is t u c sound r h = h.is ∙ answered_is r (followed (outside t sound) t c h.blocks h.len h.layout)

-- whether the answer of a line says what changes: 1 for a compact, and for a purge to a size
abbrev pub moves_by : Shape → ℕ
moves_by (PurgeTo bytes) = 1
moves_by Compact = 1
moves_by _ = 0

abbrev pub moves_of : Call → ℕ
moves_of (call.Line c) = moves_by (shape_of c)
moves_of _ = 0

-- what is answered by `ok` is no such line
done_line : (out : Outside) (s : State) (shape : Shape) → MayReplyBy out s shape reply.Done → moves_by shape ≡ 0
done_line out s (PurgeTo bytes) (n, e, some, most) = let no : ⊥ = cc e in absurd no
done_line out s Compact (n, e, least, most) = let no : ⊥ = cc e in absurd no
done_line out s (Bounce name) e = absurd e
done_line out s _ e = refl

pub done_stays : (out : Outside) (s : State) (c : Call) → MayAnswer out s c reply.Done → moves_of c ≡ 0
done_stays out s (call.Line c) e = done_line out s (shape_of c) e
done_stays out s _ e = refl

-- a call whose answer says nothing of what changes takes no generation
line_still : (shape : Shape) → moves_by shape ≡ 0 → generations_by shape ≡ 0
line_still Compact none = absurd (omega (arith, none))
line_still _ none = refl

pub no_generation : (c : Call) → moves_of c ≡ 0 → generations_of c ≡ 0
no_generation (call.Line c) none = line_still (shape_of c) none
no_generation _ none = refl

-- a number of bytes that a packed journal may have, and the generation that it takes
record Packs (moves generations bytes : ℕ) : Type 0 where
  moved : moves ≡ 1
  one : generations ≡ 1
  least : FIRST_RECORD < bytes
  most : bytes ≤ COUNTER_LIMIT

-- what is seen is no journal, and no number of points that go
not_seen : (s : State) (view : View) (bytes : ℕ) → reply.Packed bytes ≡ seen s view → ⊥
not_seen s Tracks bytes e = cc e
not_seen s _ bytes e = cc e

not_purged : (s : State) (view : View) (n : ℕ) → reply.Purged n ≡ seen s view → ⊥
not_purged s Tracks n e = cc e
not_purged s _ n e = cc e

same_count : (n k : ℕ) → reply.Purged n ≡ reply.Purged k → k ≡ n
same_count n k e = cc e

same_bytes : (n k : ℕ) → reply.Packed n ≡ reply.Packed k → k ≡ n
same_bytes n k e = cc e

packs_by : (out : Outside) (s : State) (shape : Shape) (bytes : ℕ) → MayReplyBy out s shape (reply.Packed bytes) →
    Packs (moves_by shape) (generations_by shape) bytes
packs_by out s (PurgeTo size) bytes (n, e, some, most) = let no : ⊥ = cc e in absurd no
packs_by out s (Look view) bytes e = absurd (not_seen s view bytes e)
packs_by out s (Reclaim limit) bytes (count, e, within) = let no : ⊥ = cc e in absurd no
packs_by out s Compact bytes (n, e, least, most) =
    let same : n ≡ bytes = same_bytes bytes n e in
    record { moved = refl; one = refl; least = omega (arith, same, least); most = omega (arith, same, most) }
packs_by out s (Bounce name) bytes e = absurd e
packs_by out s _ bytes e = let no : ⊥ = cc e in absurd no

packs : (out : Outside) (s : State) (c : Call) (bytes : ℕ) → MayAnswer out s c (reply.Packed bytes) →
    Packs (moves_of c) (generations_of c) bytes
packs out s (call.Line c) bytes e = packs_by out s (shape_of c) bytes e
packs out s (call.PinLen pin) bytes (p, at, e) = let no : ⊥ = cc e in absurd no
packs out s (call.ReadPin pin from count) bytes (p, at, e) = let no : ⊥ = cc e in absurd no
packs out s (call.LoadPin pin from count) bytes (p, at, e) = let no : ⊥ = cc e in absurd no
packs out s _ bytes e = let no : ⊥ = cc e in absurd no

-- a number of points that go, none of them the current one in the history that the line leads to
record Purges (moves cursor n : ℕ) : Type 0 where
  moved : moves ≡ 1
  within : n ≤ cursor

purges_by : (out : Outside) (s : State) (shape : Shape) (n : ℕ) → MayReplyBy out s shape (reply.Purged n) →
    Purges (moves_by shape) (after_shape out s shape).history.cursor n
purges_by out s (PurgeTo size) n (k, e, some, most) =
    let same : k ≡ n = same_count n k e in record { moved = refl; within = omega (arith, same, most) }
purges_by out s (Look view) n e = absurd (not_purged s view n e)
purges_by out s (Reclaim limit) n (count, e, within) = let no : ⊥ = cc e in absurd no
purges_by out s Compact n (k, e, least, most) = let no : ⊥ = cc e in absurd no
purges_by out s (Bounce name) n e = absurd e
purges_by out s _ n e = let no : ⊥ = cc e in absurd no

purges : (out : Outside) (s : State) (c : Call) (n : ℕ) → MayAnswer out s c (reply.Purged n) →
    Purges (moves_of c) (after out s c).history.cursor n
purges out s (call.Line c) n e = purges_by out s (shape_of c) n e
purges out s (call.PinLen pin) n (p, at, e) = let no : ⊥ = cc e in absurd no
purges out s (call.ReadPin pin from count) n (p, at, e) = let no : ⊥ = cc e in absurd no
purges out s (call.LoadPin pin from count) n (p, at, e) = let no : ⊥ = cc e in absurd no
purges out s _ n e = let no : ⊥ = cc e in absurd no

-- a call that neither packs the journal nor purges to a size leaves the studio as it is
pub answered_same : (out : Outside) (s : State) (c : Call) (r : Reply) → MayAnswer out s c r → moves_of c ≡ 0 →
    (t : Studio) → answered r t ≡ t
answered_same out s c (reply.Packed bytes) may none t =
    let is = packs out s c bytes may in absurd (omega (arith, is.moved, none))
answered_same out s c (reply.Purged n) may none t =
    let is = purges out s c n may in absurd (omega (arith, is.moved, none))
answered_same out s c _ may none t = refl

-- an answer that the call may give keeps the bounds, where its generation is within them, and the history is the one
-- that the call leads to
pub answered_bounded : (out : Outside) (t : Studio) (c : Call) (r : Reply) (u : Studio) → MayAnswer out t.state c r →
    u.generation + generations_of c ≤ 2 ^ 62 → u.state ≡ after out t.state c → IsBoundedStudio u →
    IsBoundedStudio (answered r u)
answered_bounded out t c (reply.Packed bytes) u may room led b =
    let is = packs out t.state c bytes may in
    record {
      state = b.state;
      rate = b.rate;
      block_size = b.block_size;
      next_block = b.next_block;
      file = omega arith;
      version = (omega arith, omega arith);
      generation = (omega arith, omega (arith, is.one, room));
      journal_end = (omega (arith, is.least), omega (arith, is.most));
      next_layout = b.next_layout;
    }
answered_bounded out t c (reply.Purged n) u may room led b =
    let is = purges out t.state c n may in
    record {
      state = record {
        history = purged_points u.state.next_track u.state.commit u.state.commit n u.state.history (omega arith)
            b.state.history (omega (arith, is.within, ap (λ (s : State). s.history.cursor) led));
        clipboard = b.state.clipboard;
        pins = b.state.pins;
        next_track = b.state.next_track;
        next_pin = b.state.next_pin;
        commit = b.state.commit;
      };
      rate = b.rate;
      block_size = b.block_size;
      next_block = b.next_block;
      file = b.file;
      version = b.version;
      generation = b.generation;
      journal_end = b.journal_end;
      next_layout = b.next_layout;
    }
answered_bounded out t c _ u may room led b = b
