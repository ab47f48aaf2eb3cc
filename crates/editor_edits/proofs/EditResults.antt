-- An edit whose commit was carried out, as the code takes its point, and then its clipboard.
use Rattle.editor_edits.proofs.Common.{◌≡◌, ◌∙◌, sym, ap, subst, ℕ, suc, ◌+◌, List, Option, Ok, ◌≤◌, ◌<◌, ◌^◌, None}
use Rattle.editor_edits.proofs.Common.{rules, Done, Call, SoundMove, commits_of, History, recorded, Ghosts, Fewer}
use Rattle.editor_edits.proofs.Common.{Counts, occurrences, count_of, Tally, history_tracks, Becomes, Item, Track}
use Rattle.editor_edits.proofs.Common.{point_blocks, Committed, IsEdit, IsPlanned, TaggedEdit, clip_behind}
use Rattle.editor_edits.proofs.Common.{history_behind, Lasts, Core, HasAll, HasIds, Moves, IsStudio, clip_blocks, Took}
use Rattle.editor_edits.proofs.Common.{with_sound, CountsAfter, Few}
use Rattle.layout_uses.specs.{Tallies.MayBecome}
use Rattle.editor_state.specs.Edits.{clip_then}
use Rattle.editor_state.specs.{Studios.MayPaste}
use Rattle.editor_edits.proofs.EditPlans.{point_few, point_there}
use Rattle.editor_edits.proofs.EditClipboard.{counted_mid, taken_counted, taken_named, taken_room, taken_there}
use Rattle.editor_edits.proofs.{EditBodies.commit_of, EditSteps.edit_ok, EditLasts.lasts_ok}
use Rattle.editor_commits.proofs.{CurrentProject.may_become}
use Rattle.layout_uses.specs.{Tallies.Uses, Tallies.uses_of}
use Rattle.editor_state.specs.{Occurrences.MovesSingles, Occurrences.times_named}
use Rattle.editor_edits.proofs.EditClipboard.{taken_single}
use Rattle.row_ledger.specs.Lists.{counts_of}

-- the commit of an edit carried out, and the point that came back from its body recorded
pub record IsPointed {D : Type 0} (disk : Ghosts D) (s : Core D) (e : TaggedEdit) (now : Core D) : Type 0 where
  pub new : Core D
  pub committed : Committed disk s (commit_of s e) (Ok (tt {0})) new
  pub history : new.history ≡ s.history
  pub layouts : s.next_layout + e.plan.layouts ≤ 2 ^ 62
  pub point : List Track
  pub point_is : e.plan.point ≡ point
  pub before : Tally
  pub after : Tally
  pub uses_before : uses_of before ≡ new.uses
  pub counts_before : counts_of before.ledger ≡ new.counts
  pub uses_after : uses_of after ≡ now.uses
  pub counts_after : counts_of after.ledger ≡ now.counts
  pub fields : now ≡ record new {
    history = recorded new.history point e.tag;
    uses = now.uses;
    counts = now.counts;
    next_track = new.next_track + e.plan.tracks;
    next_layout = new.next_layout + e.plan.layouts;
  }
  pub counted : Becomes point (history_tracks new.history) (history_tracks
      (recorded new.history point e.tag)) before after

module _ {D : Type 0} (disk : Ghosts D) (s : Core D) (is : IsStudio disk s) (going : s.stopped ≡ None)
    (e : TaggedEdit) (plan : IsPlanned s e) where
  -- ---- before the point is recorded

  module _ (new : Core D) (k : Committed disk s (commit_of s e) (Ok (tt {0})) new) where
    counts_are : k.mid.counts ≡ new.counts
    counts_are = sym (ap (λ (z : Core D). z.counts) k.adds.fields.0)

    pub recorded_there : HasIds new.counts (point_blocks e.plan.point)
    recorded_there = subst (λ (z : Counts). HasIds z (point_blocks e.plan.point)) counts_are
        (point_there disk s is going e plan k.mid k.making k.prepared.blocks)

    pub recorded_few : Few new.counts (point_blocks e.plan.point)
    recorded_few = subst (λ (z : Counts). Few z (point_blocks e.plan.point)) counts_are
        (point_few disk s is going e plan k.mid k.making k.prepared.blocks)

    uses_are : new.uses ≡ s.uses
    uses_are = ap (λ (z : Core D). z.uses) k.adds.fields.0 ∙ ap (λ (z : Core D). z.uses) k.making.is

    -- the point may be counted
    pub recorded_counted : (tally : Tally) → uses_of tally ≡ new.uses → counts_of tally.ledger ≡ new.counts
        → MayBecome e.plan.point (history_tracks s.history) tally
    recorded_counted tally uses counts = may_become disk s is e.plan.point (s.next_layout + e.plan.layouts) plan.layouts
        plan.valid.few tally (counted_mid disk s is going e plan k.mid k.making tally (uses ∙ uses_are)
        (counts ∙ sym counts_are))

  -- ---- after it, before the clipboard is taken

  module _ (now : Core D) (at : IsPointed disk s e now) where
    open at use {new, committed as k}

    uses_was : uses_of at.before ≡ s.uses
    uses_was = at.uses_before ∙ uses_are new k

    counts_was : counts_of at.before.ledger ≡ k.mid.counts
    counts_was = at.counts_before ∙ sym (counts_are new k)

    becomes : Becomes e.plan.point (history_tracks s.history) (history_tracks (history_behind s e)) at.before at.after
    becomes = search rules

    clip_was : now.clipboard ≡ s.clipboard
    clip_was = ap (λ (z : Core D). z.clipboard) at.fields ∙ ap (λ (z : Core D). z.clipboard) k.adds.fields.0
        ∙ ap (λ (z : Core D). z.clipboard) k.making.is

    size_was : now.block_size ≡ s.block_size
    size_was = ap (λ (z : Core D). z.block_size) at.fields ∙ ap (λ (z : Core D). z.block_size) k.adds.fields.0
        ∙ ap (λ (z : Core D). z.block_size) k.making.is

    pub out_there : HasIds now.counts (clip_blocks (clip_behind now e.plan))
    out_there = subst (λ (z : Option (List (List Item))). HasIds now.counts (clip_blocks (clip_then e.plan.clip z)))
        (sym clip_was)
        (subst (λ (z : Counts). HasIds z (clip_blocks (clip_behind s e.plan))) at.counts_after
        (taken_there disk s is going e plan k.mid k.making at.layouts at.before at.after uses_was counts_was becomes
        k.prepared.blocks))

    pub out_room : (id : ℕ) → occurrences (now.counts id) < 2 ^ 102
    out_room id = subst (λ (z : Counts). occurrences (z id) < 2 ^ 102) at.counts_after
        (taken_room disk s is going e plan k.mid k.making at.layouts at.before at.after uses_was counts_was becomes id)

    pub out_fits : MayPaste now.block_size (clip_behind now e.plan)
    out_fits = search (rules, size_was, clip_was)

    pub out_named : HasAll now.counts (clip_blocks now.clipboard)
    out_named = subst (λ (z : Option (List (List Item))). HasAll now.counts (clip_blocks z)) (sym clip_was)
        (subst (λ (z : Counts). HasAll z (clip_blocks s.clipboard)) at.counts_after
        (taken_named disk s is going e plan k.mid k.making at.layouts at.before at.after uses_was counts_was becomes))

    pub out_single : (id : ℕ) → times_named id (clip_blocks now.clipboard) ≤ now.uses.singles id
    out_single = subst (λ (z : Option (List (List Item))). (id : ℕ) → times_named id (clip_blocks z)
        ≤ now.uses.singles id) (sym clip_was)
        (subst (λ (u : Uses). (id : ℕ) → times_named id (clip_blocks s.clipboard) ≤ u.singles id) at.uses_after
        (taken_single disk s is going e plan k.mid k.making at.layouts at.before at.after uses_was counts_was becomes))

    -- ---- after it all

    module _ (last : Core D) (fields : last ≡ record now {
      clipboard = clip_behind now e.plan;
      uses = last.uses;
      counts = last.counts;
    })
        (taken : Moves now.counts last.counts (clip_blocks now.clipboard) (clip_blocks (clip_behind now e.plan)))
        (single : MovesSingles now.uses last.uses (clip_blocks now.clipboard) (clip_blocks (clip_behind now e.plan)))
      where
        takes : Moves now.counts last.counts (clip_blocks s.clipboard) (clip_blocks (clip_behind s e.plan))
        takes = subst (λ (z : Option (List (List Item))).
            Moves now.counts last.counts (clip_blocks z) (clip_blocks (clip_then e.plan.clip z))) clip_was taken

        alone : MovesSingles (uses_of at.after) last.uses (clip_blocks s.clipboard) (clip_blocks (clip_behind s e.plan))
        alone = subst (λ (u : Uses). MovesSingles u last.uses (clip_blocks s.clipboard) (clip_blocks (clip_behind s e.plan)))
            (sym at.uses_after)
            (subst (λ (z : Option (List (List Item))). MovesSingles now.uses last.uses (clip_blocks z)
            (clip_blocks (clip_then e.plan.clip z))) clip_was single)

        layout_was : s.next_layout + e.plan.layouts ≡ new.next_layout + e.plan.layouts
        layout_was = ap (λ (n : ℕ). n + e.plan.layouts) (sym (ap (λ (z : Core D). z.next_layout) k.adds.fields.0
            ∙ ap (λ (z : Core D). z.next_layout) k.making.is))

        counted_then : CountsAfter s.pins (history_behind s e) (clip_behind s e.plan) (new.next_layout + e.plan.layouts)
            k.mid.counts last.uses last.counts
        counted_then = subst (λ (n : ℕ).
            CountsAfter s.pins (history_behind s e) (clip_behind s e.plan) n k.mid.counts last.uses last.counts)
            layout_was
            (taken_counted disk s is going e plan k.mid k.making at.layouts at.before at.after uses_was counts_was becomes
            last.uses last.counts (subst (λ (z : Counts). Moves z last.counts (clip_blocks s.clipboard)
            (clip_blocks (clip_behind s e.plan))) (sym at.counts_after) takes) alone)

        abbrev history_now : History (List Track)
        history_now = recorded new.history at.point e.tag

        moved : history_now ≡ history_behind s e
        moved = λ i. recorded (at.history i) (sym at.point_is i) e.tag

        tracked : new.next_track + e.plan.tracks ≡ s.next_track + e.plan.tracks
        tracked = ap (λ (n : ℕ). n + e.plan.tracks) (ap (λ (z : Core D). z.next_track) k.adds.fields.0
            ∙ ap (λ (z : Core D). z.next_track) k.making.is)

        all : last ≡ record new {
          history = history_now;
          clipboard = clip_behind s e.plan;
          uses = last.uses;
          counts = last.counts;
          next_track = new.next_track + e.plan.tracks;
          next_layout = new.next_layout + e.plan.layouts;
        }
        all = fields ∙ (λ i. record (at.fields i) {
          clipboard = clip_then e.plan.clip (clip_was i);
          uses = last.uses;
          counts = last.counts;
        })

        pub took_so : ((store : D) → Fewer disk store) → (c : Call) (sound : SoundMove) → IsEdit disk s c sound e
            → Took disk s (with_sound c sound (Ok Done)) last
        took_so fewer c sound edit = subst (λ (z : Core D). Took disk s (with_sound c sound (Ok Done)) z) (sym all)
            (edit_ok disk s is going e plan c sound edit fewer (tt {0}) new k history_now last.uses last.counts
            (new.next_track + e.plan.tracks) (new.next_layout + e.plan.layouts) moved tracked counted_then
            (sym layout_was))

        pub lasts_so : (c : Call) (sound : SoundMove) → commits_of c ≡ suc e.more
            → Lasts disk s (with_sound c sound (Ok Done)) last
        lasts_so c sound one = subst (λ (z : Core D). Lasts disk s (with_sound c sound (Ok Done)) z) (sym all)
            (lasts_ok disk s is going e plan c sound one (tt {0}) new k history_now last.uses last.counts
            (new.next_track + e.plan.tracks) (new.next_layout + e.plan.layouts) moved tracked counted_then)
