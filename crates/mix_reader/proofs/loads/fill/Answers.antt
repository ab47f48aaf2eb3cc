-- The tracks that are listed are shown.
use Rattle.mix_reader.proofs.Common.{ℤ, ◌≡◌, ◌*◌, ℕ, List, length, take, sym, ap, subst, ◌∙◌, arith, unmuted, Sources}
use Rattle.mix_reader.proofs.Common.{Track, meant, stored_of, AreStretches}
use Rattle.std.proofs.{lemmas.List.with_items_is, lemmas.Result.on_ok_weaker}
use Rattle.mix_reader.proofs.HeardLaws.{count_gains, gains_heard, sides_heard}
use Rattle.mix_reader.proofs.loads.fill.Goals as goal

pub read_front-requires-clause-room : goal.read_front-requires-clause-room
read_front-requires-clause-room g c =
    ap (λ n. n * c.args.loaded.now.len)
    (c.len.ensures ∙ c.args.loaded.now.gains.ok.0 ∙ ap length c.requires.gains ∙ count_gains c.args.point.now)

pub returns-clause-stored : goal.returns-clause-stored
returns-clause-stored g c = λ told.
    let ts : List Track = c.args.point.now in
    let len : ℕ = c.args.loaded.now.len in
    let src : Sources = stored_of (g.S.Store.reads c.args.reader.now.store) in
    let xs : List ℤ = c.read_front.new.samples in
    let P : ℕ → Type 0 = λ n. AreStretches c.args.from len (unmuted (meant src ts)) (take (n * len) xs) in
    let Q : List ℤ → Type 0 = λ cs. AreStretches c.args.from len (unmuted (meant src ts))
    (take (length c.args.loaded.now.gains.items * len) cs) in
    let size : length xs ≡ c.args.loaded.now.samples.len =
    omega (arith, c.read_front.auto.samples, c.as_mut_slice.ensures.len) in
    on_ok_weaker c.read_front.result (λ are. record {
      gains = c.requires.gains ∙ gains_heard src ts;
      sides = c.requires.sides ∙ sides_heard src ts;
      samples = subst Q (sym (with_items_is c.args.loaded.now.samples xs size))
          (subst P (c.len.ensures ∙ c.args.loaded.now.gains.ok.0) are);
    }) (c.read_front.ensures.stored told)
