-- Around three dots, or as numbered.
use Rattle.std.proofs.Common.{◌≡◌, ◌++◌, inl, inr, true, None, Some}
use Rattle.std.proofs.lemmas.Str.Pattern.{split_text_parts}
use Rattle.std.specs.Prelude.{codes}
use Rattle.case_text.specs.Alike.{is_numbered}
use Rattle.case_text.proofs.comparing.is_like.Goals as goal

pub returns-in-Some : goal.returns-in-Some
returns-in-Some c h =
    let parts = split_text_parts (codes "...") c.args.wanted.now (Some (c.in-Some.begins, c.in-Some.ends))
    c.in-Some.ensures.cases in
    let around = c.is_around.ensures h in
    let text : c.args.text.now ≡ c.in-Some.begins.now ++ (around.0 ++ c.in-Some.ends.now) = cc in
    inr (c.in-Some.begins.now, c.in-Some.ends.now, parts, (around.0, text))

pub returns-in-None : goal.returns-in-None
returns-in-None c h =
    let lacks = split_text_parts (codes "...") c.args.wanted.now None c.in-None.ensures.cases in
    let numbered : is_numbered c.args.wanted.now c.args.text.now ≡ true = cc in
    inl (lacks, numbered)
