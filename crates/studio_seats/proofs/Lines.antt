-- What a line did, over a vault.
use Rattle.studio_seats.proofs.Common.{◌≡◌, ◌∙◌, refl, sym, ap, ℕ, IsTrue, List, Option, Some, None, Result, Ok}
use Rattle.studio_seats.proofs.Common.{Err, IfErr, Heard, name_in_line, Answer, Reply, Refused, Line, Refusal, Ghosts}
use Rattle.studio_seats.proofs.Common.{move_of, reply_of, as_reply, deed, Does}
use Rattle.pcm_base.specs.{declared.command.Command.Command, Outside.Sounds}
use Rattle.editor_state.specs.Applied.{Applies, EndsAlike, Span, sound_moved}

module _ {R : Type 0} where
  -- the answer and the result have what the line returned
  told_is : (told : Result Reply Refusal) (result : Result R Refusal) (reply : Reply) → reply ≡ reply_of told
      → EndsAlike told result → told ≡ as_reply (λ _. reply) result
  told_is (Ok r) (Ok x) reply is ends = ap Ok (sym is)
  told_is (Ok r) (Err why) reply is ends = absurd ends
  told_is (Err why) (Ok x) reply is ends = absurd ends
  told_is (Err why) (Err other) reply is ends = ap Err (sym ends)

  pub does_line : {D : Type 0} {actor : ℕ} (disk : Ghosts D) (told : Type 0) (span : Span D) (c : Command)
      (result : Result R Refusal) (answer : Answer) → (told → IsTrue span.tells)
      → Applies disk span (Line c) result answer
      → Does disk told span.old
      (deed actor (Line c) (as_reply (λ _. answer.reply) result) (sound_moved span (name_in_line c))) span.new
  does_line disk told span c result answer tell a =
      rw (← (told_is a.told result answer.reply a.reply a.ends)) (record {
        removed = a.over.removed;
        took = λ may. a.over.took (λ some. tell (may some));
        imported = a.over.imported;
        lasts = a.over.lasts;
      })

  -- a refusal stands in the answer too
  pub refused_reply : (told : Result Reply Refusal) (result : Result R Refusal) (reply : Reply) → reply ≡ reply_of told
      → EndsAlike told result → IfErr result (λ why. reply ≡ Refused why)
  refused_reply (Ok r) (Ok x) reply is ends = tt
  refused_reply (Ok r) (Err why) reply is ends = absurd ends
  refused_reply (Err why) (Ok x) reply is ends = absurd ends
  refused_reply (Err why) (Err other) reply is ends = is ∙ ap Refused (sym ends)

-- nothing became of a sound
pub heard_still : (name : Option (List ℕ)) (sounds : Sounds) → Heard name (move_of name sounds sounds) sounds sounds
heard_still None sounds = refl
heard_still (Some name) sounds = (refl, refl, λ other differs. refl)
