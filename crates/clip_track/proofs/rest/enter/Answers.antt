-- The clip is the first, and lies within the track.
use Rattle.clip_track.proofs.Common.{◌+◌, ◌≤◌, sym, subst, arith, AreClips, NoneEmpty, end_of}
use Rattle.clip_track.specs.Rests.{IsWithin}
use Rattle.pcm_base.specs.declared.limits.TheConstants.{MAX_CELLS}
use Rattle.clip_track.proofs.{Layouts.AreClips-next, Layouts.end_within, RestItems.within_none}
use Rattle.clip_track.proofs.rest.enter.Goals as goal

pub overflow_add-result : goal.overflow_add-result
overflow_add-result c = omega (
  arith,
  end_within c.args.end c.args.clip.now c.args.more.now c.requires.apart,
  c.requires.few,
  c.len.ensures.value,
)

pub returns-clause-left : goal.returns-clause-left
returns-clause-left c =
    let more = c.args.more.now in
    let start = c.args.clip.now.start in
    let apart = AreClips-next c.args.end c.args.clip.now more c.requires.apart in
    record {
      within = subst (IsWithin 0) (sym c.rows.ensures.value)
          (within_none c.args.clip.now.blocks c.requires.apart.2);
      some = subst NoneEmpty (sym c.rows.ensures.value) c.requires.apart.2;
      apart = subst (λ n. AreClips (start + n) more) (sym c.len.ensures.value) apart;
      few = subst (λ n. end_of (start + n) more ≤ MAX_CELLS) (sym c.len.ensures.value) c.requires.few;
    }
