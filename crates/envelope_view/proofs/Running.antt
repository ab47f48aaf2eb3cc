-- A summary of the first of some samples, with those that are left.
use Rattle.envelope_view.proofs.Common.{◌≡◌, ℕ, ◌+◌, ◌-◌, ◌^◌, ◌≤◌, ℤ, List, [], ◌++◌, length, refl, sym, ap, ap₂, ◌∙◌}
use Rattle.envelope_view.proofs.Common.{arith, All-nil, FitsSigned, w16, Summary, summary_of, joined, nothing}
use Rattle.envelope_view.proofs.Common.{AreSamples, joined_two}
use Rattle.std.proofs.Common.{append_assoc, append-nil, length-append}
use Rattle.std.proofs.lemmas.List.Elements.{All-append}

-- of this many cells this many are left, and among them these samples
pub record Running (all : Summary) (count left : ℕ) (more target : List ℤ) : Type 0 where
  pub done : List ℤ
  pub is : all ≡ summary_of done
  pub fit : AreSamples done
  pub few : length done + left ≤ count
  pub whole : done ++ more ≡ target

pub running_start : (count : ℕ) (target : List ℤ) → Running nothing count count target target
running_start count target =
    record { done = []; is = refl; fit = All-nil (λ s. FitsSigned w16 s); few = omega arith; whole = refl }

pub running_more : (all s : Summary) (count left size : ℕ) (xs more target : List ℤ) → count ≤ 2 ^ 32 → size ≤ left
    → AreSamples xs → length xs ≤ size
    → s ≡ summary_of xs → Running all count left (xs ++ more) target
    → Running (joined all s) count (left - size) more target
running_more all s count left size xs more target small within fit few is r =
    let short : length r.done + length xs ≤ 2 ^ 32 = omega (arith, r.few, within, few, small) in
    record {
      done = r.done ++ xs;
      is = ap₂ joined r.is is ∙ joined_two r.done xs r.fit fit short;
      fit = All-append (λ s. FitsSigned w16 s) r.done xs r.fit fit;
      few = omega (arith, length-append r.done xs, r.few, few, within);
      whole = append_assoc r.done xs more ∙ r.whole;
    }

pub running_end : (all : Summary) (count left : ℕ) (more target : List ℤ) → more ≡ []
    → Running all count left more target → all ≡ summary_of target
running_end all count left more target none r =
    r.is ∙ ap summary_of (sym (append-nil r.done) ∙ ap (λ (zs : List ℤ). r.done ++ zs) (sym none) ∙ r.whole)
