-- The parts of a valid project are valid.
use Rattle.editor_recovery.proofs.Common.{◌≡◌, ℕ, ◌≤◌, List, Result, Ok, Err, sym, ap, ◌∙◌, arith}
use Rattle.editor_recovery.proofs.Common.{recursion_from_All, IfOk, find, All, counts_of}
use Rattle.editor_recovery.proofs.Common.{history_blocks, Track, HaveOneLength, is_foreign, Folded, OpenFault}
use Rattle.editor_recovery.proofs.Common.{ArePartsOf, IsValidFolded, History, IsValidTagged, Parts, None}
use Rattle.std.proofs.lemmas.List.Elements.{All-weaker}
use Rattle.editor_recovery.specs.{Bounds.IsValidParts}
use Rattle.editor_recovery.proofs.{Ledgers.given, Plain.valid_back}
use Rattle.project_journal.specs.Header.{IsFormat}
use Rattle.layout_uses.specs.Drawing.{IsNumbered}
use Rattle.record_body.proofs.SavedBounds.{tagged_more}

pub format_of : (rate rate' size size' depth depth' : ℕ) → rate ≡ rate' → size ≡ size' → depth ≡ depth'
    → IsFormat rate' size' depth' → IsFormat rate size depth
format_of rate rate' size size' depth depth' p q r f = record {
  rate_least = omega (arith, p, f.rate_least);
  even = omega (arith, q, f.even);
  block_least = omega (arith, q, f.block_least);
  block_most = omega (arith, q, f.block_most);
  depth_least = omega (arith, r, f.depth_least);
  depth_most = omega (arith, r, f.depth_most);
}

tagged_at : (m m' block block' track track' commit commit' : ℕ) (p : List Track × ℕ) → m' ≡ m → block ≤ block' → track'
    ≡ track → commit' ≡ commit → IsValidTagged m block track commit p → IsValidTagged m' block' track' commit' p
tagged_at m m' block block' track track' commit commit' p size le same_track same_commit s =
    rw size (tagged_more m block track commit block' track' commit' p le (omega (arith, same_track))
    (omega (arith, same_commit)) s)

-- their layouts have the numbers that were drawn
pub parts_numbered : (files : List ℕ) (f : Folded) (p : Parts) → IsValidFolded f → ArePartsOf files f p
    → IsNumbered p.history.history p.next_layout
parts_numbered files f p is are =
    rw (are.next_layout, are.history) is.numbers

valid_parts : (files : List ℕ) (f : Folded) (p : Parts) → IsValidFolded f → find is_foreign files ≡ None
    → HaveOneLength (history_blocks f.project.numbered.history.history)
    → ArePartsOf files f p → IsValidParts p
valid_parts files f p is known one are =
    let project = f.project in
    let h : History (List Track) = project.numbered.history.history in
    let valid = valid_back f.block_size project is.kept in
    let depth : p.history.history.depth ≡ h.depth = ap (λ (z : History (List Track)). z.depth) are.history in
    let numbers = parts_numbered files f p is are in
    let Q : List Track × ℕ → Type 0 = IsValidTagged p.block_size p.next_block p.next_track p.commit_number in
    let all : All Q h.points =
    All-weaker (IsValidTagged f.block_size project.next_block project.next_track project.commit) Q
    (λ x s. tagged_at f.block_size p.block_size project.next_block p.next_block project.next_track p.next_track
    project.commit p.commit_number x are.block_size are.next_block.no_lower are.next_track are.commit s) h.points
    valid.points in
    record {
      parts = record {
        pages_least = omega (arith, are.pages);
        pages_most = omega (arith, are.pages);
        format = format_of p.rate f.rate p.block_size f.block_size p.history.history.depth h.depth are.rate
            are.block_size depth is.format;
        counters = record {
          block_least = omega (arith, valid.block_least, are.next_block.no_lower);
          block_most = are.bound;
          track_least = omega (arith, valid.track_least, are.next_track);
          track_most = omega (arith, valid.track_most, are.next_track);
          pin_least = omega arith;
          pin_most = omega arith;
          commit_most = omega (arith, are.commit, is.commit);
          end_least = omega (arith, are.end, is.end_least);
          end_most = omega (arith, are.end, is.end_most);
        };
        journal = record {
          among = omega (arith, are.file, is.journal.among);
          version_least = omega (arith, are.version, is.journal.version_least);
          version_most = omega (arith, are.version, is.journal.version_most);
          generation_most = omega (arith, are.generation, is.journal.generation_most);
          first_version = λ first. are.generation ∙ is.journal.first_version (sym are.version ∙ first);
        };
        points = rw are.history (recursion_from_All Q h.points all);
        layouts = omega (arith, are.next_layout, are.end, is.layouts);
        numbered = numbers.numbered;
        drawn = numbers.drawn;
        counted = are.counted;
        given = given files (counts_of p.tally.ledger) project.next_block p.next_block are.ledger known are.next_block;
      };
      one_length = rw are.history one;
    }

pub valid_result : (files : List ℕ) (f : Folded) (r : Result Parts OpenFault) → IsValidFolded f
    → find is_foreign files ≡ None
    → HaveOneLength (history_blocks f.project.numbered.history.history)
    → IfOk r (ArePartsOf files f) → IfOk r IsValidParts
valid_result files f (Ok p) is known one are = valid_parts files f p is known one are
valid_result files f (Err e) is known one are = tt
