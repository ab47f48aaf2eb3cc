-- Each line of a script at its place: nothing refuses it, it can be carried out, and it leads to the next place.
use Rattle.std.proofs.Common.{◌≡◌, ℕ, ℤ, ◌+◌, ◌-◌, ◌*◌, ◌≤◌, ◌<◌, true, false, length, None, Ok, refl, ap, sym, subst}
use Rattle.std.proofs.Common.{arith}
use Rattle.std.specs.Prelude.{◌/◌, map}
use Rattle.pcm_base.specs.Counters.{EditNeeds, LineNeeds, RecordNeeds, commits_needed, layouts_of, met_cells}
use Rattle.pcm_base.specs.State.{State, clip_of, current, new_state}
use Rattle.pcm_base.specs.Step.{MayReply, after_line, line_of_track, sound_after_line}
use Rattle.pcm_base.specs.{Counters.tracks_needed, declared.answer.Reply.Reply, declared.command.Command.Command}
use Rattle.pcm_base.specs.{Cells.cells_at, Envelope.columns_of, Form.IsInForm, Outside.Outside, Refusals.own_tests}
use Rattle.pcm_base.specs.{Refusals.track_limit, Run.result_of, Sizes.blocks_of_cells, Studio.Studio}
use Rattle.model_laws.proofs.Answered.{moves_of}
use Rattle.script_gen.proofs.Editing.{IsAt, copy-after, delete-after, gain-after, paste-after, ramp-after, redo-after}
use Rattle.script_gen.proofs.Editing.{silence-after, track-after, undo-after}
use Rattle.script_gen.proofs.Needing.{IsFew, edit-few, met-few, one-clip, record-few}
use Rattle.script_gen.proofs.Passing.{copy-passes, delete-passes, envelope-passes, gain-passes, paste-passes}
use Rattle.script_gen.proofs.Passing.{ramp-passes, redo-passes, silence-passes, undo-passes}
use Rattle.pcm_base.specs.declared.answer.Reply.TheVariants as reply
use Rattle.pcm_base.specs.declared.command.Command.TheVariants as command
use Rattle.pcm_base.specs.declared.command.Call.TheVariants as call

-- what a line may need of blocks, and of a record
pub record SomeNeeds (out : Outside) (t : Studio) (c : Command) : Type 0 where
  pub blocks : ℕ
  pub len : ℕ
  pub needs : LineNeeds out t c blocks len

pub record SomeReply (out : Outside) (s : State) (c : Command) : Type 0 where
  pub reply : Reply
  pub answered : result_of reply ≡ Ok reply
  pub may : MayReply out s c reply

-- From any state of one kind a line leads to one of another, and nothing but a counter can refuse it.
pub record Goes (P Q : State → Type 0) (c : Command) : Type 0 where
  pub form : IsInForm c
  pub tracks : (out : Outside) → tracks_needed out c ≤ 1
  pub layouts : (out : Outside) (s : State) → P s → layouts_of out s (call.Line c) ≤ 1
  pub commits : commits_needed c ≤ 1
  pub still : moves_of (call.Line c) ≡ 0
  pub passes : (out : Outside) (s : State) → P s → own_tests out s c ≡ None
  pub few : (out : Outside) (t : Studio) (blocks len : ℕ) → P t.state → LineNeeds out t c blocks len →
      IsFew t.block_size blocks len
  pub needs : (out : Outside) (t : Studio) → SomeNeeds out t c
  pub answers : (out : Outside) (s : State) → SomeReply out s c
  pub next : (out : Outside) (s : State) → P s → Q (after_line out s c)
  pub counted : (out : Outside) (s : State) → (after_line out s c).commit ≤ s.commit + 1
  pub heard : (out : Outside) (s : State) → out.sound ≡ sound_after_line out s c

-- what is so of a line in every state: it needs one number and one commit at most, and moves no sound
abbrev IsLine : Command → Type 0
IsLine c = ((out : Outside) → tracks_needed out c ≤ 1) × (commits_needed c ≤ 1) × (moves_of (call.Line c) ≡ 0)
    × ((out : Outside) (s : State) → (after_line out s c).commit ≤ s.commit + 1)
    × ((out : Outside) (s : State) → out.sound ≡ sound_after_line out s c)

-- ---- edits

-- what an edit needs: no blocks at least, and a record of no length; at most this many blocks
abbrev Needs : Command → (Studio → ℕ) → Type 0
Needs c most = ((out : Outside) (t : Studio) → LineNeeds out t c 0 0)
    × ((out : Outside) (t : Studio) (blocks len : ℕ) → LineNeeds out t c blocks len
    → EditNeeds (most t) out t (call.Line c) blocks len)
    × ((out : Outside) (s : State) → MayReply out s c reply.Done)

-- an edit that leaves a track of `len` samples, where it met `clips` clips and has `new` samples of its own
edit-goes : (P : State → Type 0) (len copied clips new : ℕ) (most : Studio → ℕ) (c : Command) → IsInForm c → IsLine c
    → Needs c most → (len ≤ 102000) × (clips ≤ 1) × (new + 1500 * clips ≤ 2000)
    → ((t : Studio) → P t.state → most t ≤ 8 + clips + new / t.block_size)
    → ((out : Outside) (s : State) → P s → layouts_of out s (call.Line c) ≤ 1)
    → ((out : Outside) (s : State) → P s → own_tests out s c ≡ None)
    → ((out : Outside) (s : State) → P s → IsAt len copied false (after_line out s c))
    → Goes P (IsAt len copied false) c
edit-goes P len copied clips new most c form line needs small few layouts passes next = record {
  form = form;
  tracks = line.0;
  layouts = layouts;
  commits = line.1;
  still = line.2;
  passes = passes;
  few = λ out t blocks bytes h needed.
      edit-few clips new len copied (most t) out t c blocks bytes (next out t.state h) small.0 small.1 small.2 (few t h)
      (needs.1 out t blocks bytes needed);
  needs = λ out t. record { blocks = 0; len = 0; needs = needs.0 out t };
  answers = λ out s. record { reply = reply.Done; answered = refl; may = needs.2 out s };
  next = next;
  counted = line.3;
  heard = line.4;
}

pub ramp-goes : (len copied at n : ℕ) (start step : ℤ) → at ≤ len → len ≤ 100000 → 0 < n → n ≤ 2000 →
    Goes (IsAt len copied false) (IsAt (len + n) copied false) (command.Ramp 1 at n start step)
ramp-goes len copied at n start step within short some few =
    edit-goes (IsAt len copied false) (len + n) copied 0 n (λ t. 8 + n / t.block_size) (command.Ramp 1 at n start step)
    (record { 0 = omega arith; 1 = omega arith; 2 = some; 3 = omega arith })
    ((λ out. omega arith), omega arith, refl, (λ out s. omega arith), λ out s. refl)
    ((λ out t. (omega arith, omega arith)), (λ out t blocks bytes needed. needed), λ out s. refl)
    (omega arith, omega arith, omega arith) (λ t h. omega arith) (λ out s h. omega arith)
    (λ out s h. ramp-passes out len copied at n start step s h within (omega arith))
    (λ out s h. ramp-after out len copied at n start step s h within)

pub delete-goes : (len copied from to : ℕ) → from < to → to ≤ len → len ≤ 102000 →
    Goes (IsAt len copied false) (IsAt (len - (to - from)) copied false) (command.Delete 1 from to)
delete-goes len copied from to order within short =
    edit-goes (IsAt len copied false) (len - (to - from)) copied 0 0 (λ t. 8) (command.Delete 1 from to)
    (record { 0 = omega arith; 1 = omega arith; 2 = omega arith })
    ((λ out. omega arith), omega arith, refl, (λ out s. omega arith), λ out s. refl)
    ((λ out t. (omega arith, omega arith)), (λ out t blocks bytes needed. needed), λ out s. refl)
    (omega arith, omega arith, omega arith) (λ t h. omega arith) (λ out s h. omega arith)
    (λ out s h. delete-passes out len copied from to s h order within)
    (λ out s h. delete-after out len copied from to s h (omega arith) within)

-- an edit of the samples of a range, which meets one clip
over-goes : (len copied from to : ℕ) (c : Command) → to ≤ from + 500 → from < to → to ≤ len → len ≤ 102000 → IsInForm c
    → IsLine c → Needs c (λ t. blocks_of_cells t.block_size (met_cells t.state 1 from to))
    → ((out : Outside) (s : State) → layouts_of out s (call.Line c) ≤ 1)
    → ((out : Outside) (s : State) → IsAt len copied false s → own_tests out s c ≡ None)
    → ((out : Outside) (s : State) → IsAt len copied false s → IsAt len copied false (after_line out s c))
    → Goes (IsAt len copied false) (IsAt len copied false) c
over-goes len copied from to c few order within short form line needs layouts passes next =
    edit-goes (IsAt len copied false) len copied 1 (to - from)
    (λ t. blocks_of_cells t.block_size (met_cells t.state 1 from to)) c form line needs
    (short, omega arith, omega arith)
    (λ t h. met-few len copied t.block_size from to t.state h (omega arith) within) (λ out s h. layouts out s)
    passes next

pub gain-goes : (len copied from to gain : ℕ) → from < to → to ≤ len → to ≤ from + 500 → len ≤ 102000 →
    gain ≤ 1048576 →
    Goes (IsAt len copied false) (IsAt len copied false) (command.Gain 1 from to gain)
gain-goes len copied from to gain order within few short low =
    over-goes len copied from to (command.Gain 1 from to gain) few order within short
    (record { 0 = omega arith; 1 = omega arith; 2 = omega arith; 3 = low })
    ((λ out. omega arith), omega arith, refl, (λ out s. omega arith), λ out s. refl)
    ((λ out t. (omega arith, omega arith)), (λ out t blocks bytes needed. needed), λ out s. refl) (λ out s. omega arith)
    (λ out s h. gain-passes out len copied from to gain s h order within)
    (λ out s h. gain-after out len copied from to gain s h (omega arith) within)

pub silence-goes : (len copied from to : ℕ) → from < to → to ≤ len → to ≤ from + 500 → len ≤ 102000 →
    Goes (IsAt len copied false) (IsAt len copied false) (command.Silence 1 from to)
silence-goes len copied from to order within few short =
    over-goes len copied from to (command.Silence 1 from to) few order within short
    (record { 0 = omega arith; 1 = omega arith; 2 = omega arith })
    ((λ out. omega arith), omega arith, refl, (λ out s. omega arith), λ out s. refl)
    ((λ out t. (omega arith, omega arith)), (λ out t blocks bytes needed. needed), λ out s. refl) (λ out s. omega arith)
    (λ out s h. silence-passes out len copied from to s h order within)
    (λ out s h. silence-after out len copied from to s h (omega arith) within)

pub paste-goes : (len copied at : ℕ) → at ≤ len → len ≤ 100000 → 0 < copied → copied ≤ 500 →
    Goes (IsAt len copied false) (IsAt (len + copied) copied false) (command.Paste 1 at)
paste-goes len copied at within short some few =
    edit-goes (IsAt len copied false) (len + copied) copied 0 0 (λ t. 8 * length (clip_of t.state)) (command.Paste 1 at)
    (omega arith, omega arith)
    ((λ out. omega arith), omega arith, refl, (λ out s. omega arith), λ out s. refl)
    ((λ out t. (omega arith, omega arith)), (λ out t blocks bytes needed. needed), λ out s. refl)
    (omega arith, omega arith, omega arith) (λ t h. omega (arith, one-clip len copied t.state h some))
    (λ out s h. omega (arith, one-clip len copied s h some))
    (λ out s h. paste-passes out len copied at s h some within (omega arith))
    (λ out s h. paste-after out len copied at s h some within)

-- the first line, in a new project
pub track-goes : (depth : ℕ) → 2 ≤ depth → Goes (λ s. s ≡ new_state depth) (IsAt 0 0 false) command.Track
track-goes depth room = edit-goes (λ s. s ≡ new_state depth) 0 0 0 0 (λ t. 0) command.Track tt
    ((λ out. omega arith), omega arith, refl, (λ out s. omega arith), λ out s. refl)
    ((λ out t. (omega arith, omega arith)), (λ out t blocks bytes needed. needed), λ out s. refl)
    (omega arith, omega arith, omega arith) (λ t e. omega arith) (λ out s e. omega arith)
    (λ out s e. ap (λ (s : State). track_limit s 1) e) (λ out s e.
    subst (λ (s : State). IsAt 0 0 false (after_line out s command.Track)) (sym e) (track-after out depth room))

-- ---- lines that make no blocks

-- a line that makes no blocks, whose record has this length
blockless-goes : (P Q : State → Type 0) (len : ℕ) (c : Command) → IsInForm c → IsLine c → len ≤ 9
    → ((out : Outside) (t : Studio) → LineNeeds out t c 0 len)
    × ((out : Outside) (t : Studio) (blocks bytes : ℕ) → LineNeeds out t c blocks bytes → RecordNeeds len blocks bytes)
    → ((out : Outside) (s : State) → layouts_of out s (call.Line c) ≤ 1)
    → ((out : Outside) (s : State) → SomeReply out s c)
    → ((out : Outside) (s : State) → P s → own_tests out s c ≡ None)
    → ((out : Outside) (s : State) → P s → Q (after_line out s c)) → Goes P Q c
blockless-goes P Q len c form line short needs layouts answers passes next = record {
  form = form;
  tracks = line.0;
  layouts = λ out s h. layouts out s;
  commits = line.1;
  still = line.2;
  passes = passes;
  few = λ out t blocks bytes h needed.
      record-few t.block_size len blocks bytes short (needs.1 out t blocks bytes needed);
  needs = λ out t. record { blocks = 0; len = len; needs = needs.0 out t };
  answers = answers;
  next = next;
  counted = line.3;
  heard = line.4;
}

pub copy-goes : (len old from to : ℕ) → from < to → to ≤ len → len ≤ 102000 →
    Goes (IsAt len old false) (IsAt len (to - from) false) (command.Copy 1 1 from to)
copy-goes len old from to order within short =
    blockless-goes (IsAt len old false) (IsAt len (to - from) false) 0 (command.Copy 1 1 from to)
    (record { 0 = omega arith; 1 = (omega arith, omega arith); 2 = omega arith; 3 = omega arith })
    ((λ out. omega arith), omega arith, refl, (λ out s. omega arith), λ out s. refl) (omega arith)
    ((λ out t. (refl, refl)), λ out t blocks bytes needed. needed) (λ out s. omega arith)
    (λ out s. record { reply = reply.Copied; answered = refl; may = refl })
    (λ out s h. copy-passes out len old from to s h order within)
    (λ out s h. copy-after out len old from to s h (omega arith) within)

pub undo-goes : (len copied : ℕ) → Goes (IsAt len copied false) (IsAt len copied true) command.Undo
undo-goes len copied = blockless-goes (IsAt len copied false) (IsAt len copied true) 1 command.Undo tt
    ((λ out. omega arith), omega arith, refl, (λ out s. omega arith), λ out s. refl) (omega arith)
    ((λ out t. (refl, refl)), λ out t blocks bytes needed. needed) (λ out s. omega arith)
    (λ out s. record { reply = reply.Done; answered = refl; may = refl })
    (λ out s h. undo-passes out len copied s h) (λ out s h. undo-after out len copied s h)

pub redo-goes : (len copied : ℕ) → Goes (IsAt len copied true) (IsAt len copied false) command.Redo
redo-goes len copied = blockless-goes (IsAt len copied true) (IsAt len copied false) 1 command.Redo tt
    ((λ out. omega arith), omega arith, refl, (λ out s. omega arith), λ out s. refl) (omega arith)
    ((λ out t. (refl, refl)), λ out t blocks bytes needed. needed) (λ out s. omega arith)
    (λ out s. record { reply = reply.Done; answered = refl; may = refl })
    (λ out s h. redo-passes out len copied s h) (λ out s h. redo-after out len copied s h)

pub tracks-goes : (len copied : ℕ) → Goes (IsAt len copied false) (IsAt len copied false) command.Tracks
tracks-goes len copied = blockless-goes (IsAt len copied false) (IsAt len copied false) 0 command.Tracks tt
    ((λ out. omega arith), omega arith, refl, (λ out s. omega arith), λ out s. refl) (omega arith)
    ((λ out t. (refl, refl)), λ out t blocks bytes needed. needed) (λ out s. omega arith)
    (λ out s. record { reply = reply.Tracks (map line_of_track (current s)); answered = refl; may = refl })
    (λ out s h. refl) (λ out s h. h)

pub envelope-goes : (len copied : ℕ) → 16 ≤ len → len ≤ 102000 →
    Goes (IsAt len copied false) (IsAt len copied false) (command.Envelope 1 0 len 16)
envelope-goes len copied wide short =
    blockless-goes (IsAt len copied false) (IsAt len copied false) 0 (command.Envelope 1 0 len 16)
    (record { 0 = omega arith; 1 = omega arith; 2 = omega arith; 3 = omega arith })
    ((λ out. omega arith), omega arith, refl, (λ out s. omega arith), λ out s. refl) (omega arith)
    ((λ out t. (refl, refl)), λ out t blocks bytes needed. needed) (λ out s. omega arith) (λ out s. record {
      reply = reply.Columns (columns_of 0 len 16 (cells_at 1 (current s)));
      answered = refl;
      may = refl;
    }) (λ out s h. envelope-passes out len copied s h wide) (λ out s h. h)
