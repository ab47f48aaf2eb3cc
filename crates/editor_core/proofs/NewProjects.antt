-- The parts of a new project on a disk without blocks, with one page of each kind.
use Rattle.editor_core.proofs.Common.{◌≡◌, refl, sym, subst, ℕ, List, [], None, Some, Option, IsSome, arith}
use Rattle.editor_core.proofs.Common.{AllByRecursion, History, Stored, IsValidTagged, Track, AreDrawn}
use Rattle.editor_core.proofs.Common.{AreNumbered, history_tracks, Tally, AreParts, Parts}
use Rattle.pcm_base.specs.History.{history_of_one}
use Rattle.project_journal.specs.Header.{IsFormat}
use Rattle.layout_uses.specs.{Tallies.IsTally}
use Rattle.editor_state.proofs.Refusals.EarlyRefusals.{some_none}
use Rattle.row_ledger.specs.Lists.{counts_of}

some_not : {A : Type 0} (o : Option A) → o ≡ None → IsSome o → ⊥
some_not None none some = cc
some_not (Some x) none some = some_none x none

abbrev pub parts_of : (rate m depth : ℕ) → Stored (List Track) → Tally → Parts
parts_of rate m depth h tally = record {
  rate = rate;
  pages = 1;
  block_size = m;
  history = h;
  tally = tally;
  next_block = 16;
  next_track = 1;
  next_layout = 1;
  commit_number = 0;
  file = 0;
  version = 3;
  generation = 0;
  journal_end = 80;
}

module _ (rate m depth : ℕ) (h : Stored (List Track)) (tally : Tally) (is : h.history ≡ history_of_one [] 0 depth)
    (counted : IsTally [] [] tally) (none : (id : ℕ) → counts_of tally.ledger id ≡ None) where
  pub fresh_parts : IsFormat rate m depth → AreParts (parts_of rate m depth h tally)
  fresh_parts format = record {
    pages_least = omega arith;
    pages_most = omega arith;
    format = subst (λ (z : History (List Track)). IsFormat rate m z.depth) (sym is) format;
    counters = record {
      block_least = omega arith;
      block_most = omega arith;
      track_least = omega arith;
      track_most = omega arith;
      pin_least = omega arith;
      pin_most = omega arith;
      commit_most = omega arith;
      end_least = omega arith;
      end_most = omega arith;
    };
    journal = record {
      among = omega arith;
      version_least = omega arith;
      version_most = omega arith;
      generation_most = omega arith;
      first_version = λ is. refl;
    };
    points = subst (λ (z : History (List Track)). AllByRecursion (IsValidTagged m 16 1 0) z.points) (sym is)
        ((record { few = omega arith; rising = tt; valid = tt }, omega arith), tt);
    layouts = omega arith;
    numbered = subst (λ (z : History (List Track)). AreNumbered (history_tracks z)) (sym is) tt;
    drawn = subst (λ (z : History (List Track)). AreDrawn 1 (history_tracks z)) (sym is) tt;
    counted = subst (λ (z : History (List Track)). IsTally (history_tracks z) [] tally) (sym is) counted;
    given = λ id some. absurd (some_not (counts_of tally.ledger id) (none id) some);
  }
