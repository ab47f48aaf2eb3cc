-- What a line's own call told is the reply to the line.
use Rattle.editor_core.proofs.Common.{◌≡◌, sym, subst, ℕ, List, Result, Reply, Command, Line, Refusal, Ghosts, Core}
use Rattle.editor_core.proofs.Common.{Call, Took, freeing, quietly}

pub replied : {D : Type 0} (disk : Ghosts D) (s new : Core D) (removed : List ℕ) {line own : Command}
    {r made : Result Reply Refusal} → line ≡ own → r ≡ made → Took disk s (freeing (Line own) made removed) new
    → Took disk s (freeing (Line line) r removed) new
replied disk s new removed is by took = subst (λ (w : Command × Result Reply Refusal).
    Took disk s (freeing (Line w.0) w.1 removed) new) (λ i. (sym is i, sym by i)) took

-- And what another call's own told is the reply to it.
pub replied_call : {D : Type 0} (disk : Ghosts D) (s new : Core D) {call own : Call} {r made : Result Reply Refusal}
    → call ≡ own → r ≡ made → Took disk s (quietly own made) new → Took disk s (quietly call r) new
replied_call disk s new is by took = subst (λ (w : Call × Result Reply Refusal).
    Took disk s (quietly w.0 w.1) new) (λ i. (sym is i, sym by i)) took
