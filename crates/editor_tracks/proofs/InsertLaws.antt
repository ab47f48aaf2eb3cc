-- Samples put in at a place of a track or at its end: the calls that ask for them, and what a plan of them means.
use Rattle.editor_tracks.proofs.Common.{◌≡◌, ◌∙◌, refl, sym, subst, ℕ, ◌+◌, nat_lt, ℤ, rules, List, [], ◌∷◌, ◌++◌}
use Rattle.editor_tracks.proofs.Common.{length, get_or, Ok, Err, arith, append-nil, length_limit, Refusal, Cell}
use Rattle.editor_tracks.proofs.Common.{edited_at, EditNeeds, current, Clip, IsLayout, end_of, length-layout, Plan}
use Rattle.editor_tracks.proofs.Common.{Means, brought, brought_count, IsTrackCall, track_command, outside_at, silent}
use Rattle.editor_tracks.proofs.Common.{TellsNone, either_tells}
use Rattle.std.proofs.Common.{pos, Result, IfOk}
use Rattle.std.proofs.lemmas.List.{drop_all, take_all}
use Rattle.pcm_base.specs.Refusals.{insert_tests, inserted_length}
use Rattle.pcm_base.specs.{Cells.trimmed, Edits.as_cells, Edits.inserted, Edits.ramp_of, Pieces.stretch}
use Rattle.pcm_base.specs.{Recordings.later_pieces, Sizes.blocks_of_samples, Step.with_project}
use Rattle.edit_ops.specs.{Plans.AnswersTest}
use Rattle.block_writer.proofs.BroughtLaws.{ramp_brought, samples_brought}
use Rattle.editor_tracks.specs.Inserts.{place_cells, place_edit, place_test}
use Rattle.editor_tracks.specs.{declared.place.Place.Place, declared.place.Place.TheVariants.At}
use Rattle.editor_tracks.specs.{declared.place.Place.TheVariants.End}
use Rattle.editor_tracks.proofs.{EditCalls.one_edit, RangeLaws.all_here}
use Rattle.pcm_base.specs.declared.command.Call.TheVariants as call
use Rattle.pcm_base.specs.declared.command.Command.TheVariants as command
use Rattle.block_writer.specs.declared.given.Given as brings
use Rattle.block_writer.specs.declared.given.Given.TheVariants as given_as

-- ---- at the end

inserted_end : (cells xs : List Cell) → inserted (length cells) xs cells ≡ trimmed (cells ++ xs)
inserted_end cells xs = search (rules, drop_all, all_here, take_all, append-nil)

pub end_cells : (count : ℕ) (cs : List Clip) (r : Result Plan Refusal) → IsLayout cs
    → IfOk r (λ (p : Plan). Means (λ src. inserted (end_of 0 cs) (as_cells (stretch src.given 0 count))) cs p)
    → IfOk r (λ (p : Plan). Means (λ src. place_cells End count src.given) cs p)
end_cells count cs (Err e) is means = tt
end_cells count cs (Ok p) is means = search (rules, length-layout, inserted_end)

pub end_test : (count len : ℕ) (r : Result Plan Refusal)
    → AnswersTest (length_limit (inserted_length len count len ∷ [])) r → AnswersTest (place_test End count len) r
end_test count len r tests =
    let same : inserted_length len count len ≡ len + count = omega arith in
    subst (λ (k : ℕ). AnswersTest (length_limit (k ∷ [])) r) same tests

abbrev pub MeansPlace : ℕ → List Clip → Result Plan Refusal → Place → Type 0
MeansPlace count cs r place = IfOk r (λ (p : Plan). Means (λ src. place_cells place count src.given) cs p)

abbrev pub TestsPlace : ℕ → List Clip → Result Plan Refusal → Place → Type 0
TestsPlace count cs r place = AnswersTest (place_test place count (end_of 0 cs)) r

-- ---- what refuses it tells of no damaged file

limit_tells : (len : ℕ) → TellsNone (length_limit (len ∷ []))
limit_tells len = search (rules, either_tells, nat_lt)

pub place_tells : (place : Place) (count len : ℕ) → TellsNone (place_test place count len)
place_tells (At at) count len = limit_tells (inserted_length at count len)
place_tells End count len = limit_tells (len + count)

-- ---- the calls

-- (what is brought is given by its places, as the code has it)
module _ (xs : List ℤ) (given : brings.Given) (is : brought given ≡ (λ i. get_or xs i (pos 0)))
    (count : brought_count given ≡ length xs) where
  same : stretch (brought given) 0 (brought_count given) ≡ xs
  same = (λ i. stretch (is i) 0 (count i)) ∙ samples_brought xs

  pub put_call : (id at : ℕ)
      → IsTrackCall (call.Line (command.Put id at xs)) silent
      (track_command (place_edit (At at) (brought_count given)) given id 0 0)
  put_call id at =
      let line = call.Line (command.Put id at xs) in record {
        call = one_edit (assumption) (λ rate t blocks len. (
          subst (λ (k : ℕ).
              EditNeeds (blocks_of_samples t.block_size k) (outside_at rate silent) t line blocks len) count,
          subst (λ (k : ℕ).
              EditNeeds (blocks_of_samples t.block_size k) (outside_at rate silent) t line blocks len) (sym count),
        ));
        own = λ out s. λ i. insert_tests s id at (sym count i);
        layouts_is = λ out s. refl;
        after_is = λ out s. λ i. with_project s (edited_at id (inserted at (as_cells (sym same i))) (current s));
      }

  pub piece_call : (id tag : ℕ) → IsTrackCall (call.Piece id tag xs) silent
      (track_command (place_edit End (brought_count given)) given id tag (later_pieces (length xs)))
  piece_call id tag = search (rules, same)

ramp_call : (id at count : ℕ) (start step : ℤ) → IsTrackCall (call.Line (command.Ramp id at count start step)) silent
    (track_command (place_edit (At at) count) (given_as.Ramp start step count) id 0 0)
ramp_call id at count start step =
    let same : as_cells (stretch (brought (given_as.Ramp start step count)) 0 count) ≡ ramp_of count start step =
    ramp_brought start step count 0 count in
    record {
      call = one_edit (assumption) (assumption);
      own = λ out s. refl;
      layouts_is = λ out s. refl;
      after_is = λ out s. λ i. with_project s (edited_at id (inserted at (sym same i)) (current s));
    }

-- (the samples may come back from the machine's numbers)
pub ramp_again : (id at count : ℕ) (start step a b : ℤ) → a ≡ start → b ≡ step → IsTrackCall
    (call.Line (command.Ramp id at count start step)) silent
    (track_command (place_edit (At at) count) (given_as.Ramp a b count) id 0 0)
ramp_again id at count start step a b first each =
    let line = call.Line (command.Ramp id at count start step) in
    subst (λ (z : ℤ). IsTrackCall line silent
    (track_command (place_edit (At at) count) (given_as.Ramp z b count) id 0 0)) (sym first)
    (subst (λ (z : ℤ). IsTrackCall line silent
    (track_command (place_edit (At at) count) (given_as.Ramp start z count) id 0 0)) (sym each)
    (ramp_call id at count start step))
