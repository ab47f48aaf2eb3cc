-- What is printed: the answers, and then the last lines.
use Rattle.session_run.proofs.Common.{◌≡◌, ◌∙◌, refl, sym, ap, subst, ℕ, ◌+◌, List, [], ◌∷◌, ◌++◌, length, take, Option}
use Rattle.session_run.proofs.Common.{append_assoc, arith, append-nil, length-append, take-append-le, flat_map-append}
use Rattle.session_run.proofs.Common.{Answer, Rose, grown, IsCauseOf, Stop, Change, change, WritesEnd, PrintsFrom}
use Rattle.std.proofs.{Math.Seq.take-append-add}
use Rattle.std.specs.Prelude.{flat_map}
use Rattle.edit_ports.proofs.ToldLaws.{grown-grown}
use Rattle.script_text.specs.Text.{text_of}
use Rattle.script_reader.specs.Progress.{BreaksOff, WritesAnswers, outcome_of}
use Rattle.session_run.specs.{Streams.PrintsThen}
use Rattle.script_reader.specs.declared.stop.Stop.TheVariants as stop

module _ (before mid now : Option (List ℕ)) (first then_ last : ℕ) (answers : List Answer) (end : List ℕ) where
  abbrev said : List ℕ
  said = flat_map text_of answers

  -- the last lines, after all answers
  both : mid ≡ grown before said → then_ ≡ first
      → PrintsFrom (record { written = change mid now; faults = change then_ last }) end
      → PrintsFrom (record { written = change before now; faults = change first last }) (said ++ end)
  both wrote quiet (part, all) = (
    (
      length said + part.0,
      let within = part.1 in let len = length-append said end in omega (arith, within, len),
      part.2 ∙ (ap (λ (o : Option (List ℕ)). grown o (take part.0 end)) wrote
          ∙ (grown-grown before said (take part.0 end)
          ∙ ap (grown before) (sym (take-append-add said end part.0)))),
    ),
    λ (stays : Rose first last → ⊥). all (subst (λ (n : ℕ). Rose n last → ⊥) (sym quiet) stays)
        ∙ (ap (λ (o : Option (List ℕ)). grown o end) wrote ∙ grown-grown before said end),
  )

  -- a part of the answers, after a fault
  broken : BreaksOff before mid answers → now ≡ mid → Rose first last
      → PrintsFrom (record { written = change before now; faults = change first last }) (said ++ end)
  broken b same rose =
      let front = flat_map text_of b.before in
      let text = text_of b.last in
      let is : said ≡ front ++ text =
      ap (flat_map text_of) b.whole ∙ (flat_map-append text_of b.before (b.last ∷ [])
      ∙ ap (λ (l : List ℕ). front ++ l) (append-nil text)) in
      let whole : said ++ end ≡ front ++ (text ++ end) =
      ap (λ (l : List ℕ). l ++ end) is ∙ append_assoc front text end in
      let within = b.within in
      let len = length-append front (text ++ end) in
      let more = length-append text end in
      let size : length (said ++ end) ≡ length (front ++ (text ++ end)) = ap length whole in (
        (
          length front + b.count,
          omega (arith, within, len, more, size),
          same ∙ (b.written ∙ ap (grown before) (sym (ap (take (length front + b.count)) whole
              ∙ (take-append-add front (text ++ end) b.count
              ∙ ap (λ (l : List ℕ). front ++ l) (take-append-le b.count text end (omega (arith, within))))))),
        ),
        λ (stays : Rose first last → ⊥). absurd (stays rose),
      )

-- whatever stopped the script
pub printed : (s : Stop) (source : Change ℕ) (before mid now : Option (List ℕ)) (first then_ last : ℕ)
    (answers : List Answer) (end : List ℕ) → WritesAnswers (outcome_of s) before mid answers
    → IsCauseOf s source (change first then_)
    → WritesEnd s (record { written = change mid now; faults = change then_ last }) end
    → PrintsFrom (record { written = change before now; faults = change first last }) (flat_map text_of answers ++ end)
printed stop.End source before mid now first then_ last answers end wrote cause ended =
    both before mid now first then_ last answers end wrote cause.1 ended
printed stop.Limit source before mid now first then_ last answers end wrote cause ended =
    both before mid now first then_ last answers end wrote cause.1 ended
printed stop.SourceFault source before mid now first then_ last answers end wrote cause ended =
    both before mid now first then_ last answers end wrote cause.2 ended
printed stop.OutFault source before mid now first then_ last answers end wrote cause ended =
    broken before mid now first then_ last answers end wrote ended.0
    (subst (λ (n : ℕ). Rose first n) (sym ended.1) cause.2)

-- where the output did not stop the script, the answers stand before what was written of the last lines
module _ (before mid now : Option (List ℕ)) (first then_ last : ℕ) (answers : List Answer) (end : List ℕ) where
  after_answers : mid ≡ grown before (flat_map text_of answers)
      → PrintsFrom (record { written = change mid now; faults = change then_ last }) end
      → PrintsThen (record { written = change before now; faults = change first last }) (flat_map text_of answers) end
  after_answers wrote (part, all) = (
    part.0,
    part.1,
    part.2 ∙ (ap (λ (o : Option (List ℕ)). grown o (take part.0 end)) wrote
        ∙ grown-grown before (flat_map text_of answers) (take part.0 end)),
  )

  pub answered_all : (s : Stop) → WritesAnswers (outcome_of s) before mid answers
      → WritesEnd s (record { written = change mid now; faults = change then_ last }) end → (s ≡ stop.OutFault → ⊥)
      → PrintsThen (record { written = change before now; faults = change first last }) (flat_map text_of answers) end
  answered_all stop.End wrote ended goes = after_answers wrote ended
  answered_all stop.Limit wrote ended goes = after_answers wrote ended
  answered_all stop.SourceFault wrote ended goes = after_answers wrote ended
  answered_all stop.OutFault wrote ended goes = absurd (goes refl)

-- where the output failed, the answer that breaks off is that of the last line
pub broke : (s : Stop) (before mid now : Option (List ℕ)) (then_ last : ℕ) (answers : List Answer) (end : List ℕ)
    → WritesAnswers (outcome_of s) before mid answers
    → WritesEnd s (record { written = change mid now; faults = change then_ last }) end → s ≡ stop.OutFault
    → BreaksOff before now answers
broke stop.End before mid now then_ last answers end wrote ended is = absurd (let clash = is in cc)
broke stop.Limit before mid now then_ last answers end wrote ended is = absurd (let clash = is in cc)
broke stop.SourceFault before mid now then_ last answers end wrote ended is = absurd (let clash = is in cc)
broke stop.OutFault before mid now then_ last answers end wrote ended is =
    subst (λ (o : Option (List ℕ)). BreaksOff before o answers) (sym ended.0) wrote
