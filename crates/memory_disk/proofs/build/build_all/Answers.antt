-- One file more.
use Rattle.memory_disk.proofs.Common.{rules, ◌≡◌, [], ℕ, List, length, get_or, refl, sym, ◌∙◌, subst, arith, AllHeld}
use Rattle.memory_disk.proofs.Common.{history_of, items_of, IsLeft, image_of, calls_of, Call}
use Rattle.memory_disk.proofs.{Builds.held_start, Builds.built_start, Builds.built_next, FileCalls.held_own}
use Rattle.memory_disk.proofs.{FileCalls.is_left_own, Rising.starts, Rising.goes_on, Rising.is_image}
use Rattle.memory_disk.proofs.build.build_all.Goals as goal

pub loop-file-init : goal.loop-file-init
loop-file-init c =
    let h = history_of c.args.row.now c.args.calls.now in
    let none : c.new-new_calls.result.items ≡ [] = search rules in
    record {
      held = held_start _ c.new-new_calls.result.items none;
      built = built_start c.args.numbers.now (image_of c.args.choice h) _ c.new-new_calls.result.items none;
      choice = refl;
      state = λ f below le. starts c.args.choice h c.args.numbers.now c.requires.rising c.requires.others f le;
    }

pub file_image-requires : goal.file_image-requires
file_image-requires c =
    subst (λ (l : List Call). AllHeld (length c.args.row.now) l) (sym c.file_calls-own.ensures) (held_own
    (length c.args.row.now) (get_or c.args.numbers.now c.loop-file.file-index 0) c.args.calls.now c.requires.held)

pub loop-file-preserved : goal.loop-file-preserved
loop-file-preserved c =
    let was = c.loop-file.invariant in
    let h = history_of c.args.row.now c.args.calls.now in
    let numbers = c.args.numbers.now in
    let choice = c.args.choice in
    let i = c.loop-file.file-index in
    let state = c.loop-file.draws.state in
    let now = c.file_image.new.draws.state in
    let content = items_of c.in_ok-content.content in
    let own : IsLeft c.loop-file.draws.choice (get_or numbers i 0)
    (history_of c.args.row.now (calls_of (get_or numbers i 0) c.args.calls.now)) state content now =
    subst (λ (l : List Call). IsLeft c.loop-file.draws.choice (get_or numbers i 0)
    (history_of c.args.row.now l) state content now) c.file_calls-own.ensures c.in_ok-content.ensures.left in
    let left = subst (λ (k : ℕ). IsLeft k (get_or numbers i 0) h state content now) was.choice (is_left_own
    c.args.row.now c.args.calls.now c.loop-file.draws.choice (get_or numbers i 0) state content now own) in
    record {
      held = c.in_ok-set_file.ensures.held;
      built =
          built_next numbers i (image_of choice h) _ _ content was.built (is_image choice h numbers c.requires.rising
          c.requires.others i state now content (omega arith) was.state left) c.in_ok-set_file.ensures.sets;
      choice = c.file_image.ensures.choice ∙ was.choice;
      state =
          goes_on choice h numbers c.requires.rising c.requires.others i state now content (omega arith) was.state left;
    }
