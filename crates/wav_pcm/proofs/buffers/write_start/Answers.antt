-- The sound is empty, and then has a part of the head.
use Rattle.wav_pcm.proofs.Common.{◌≡◌, ℕ, Bool, List, ◌++◌, length, drop, Some, sym, ap, subst, ◌∙◌, IsTrue, OnOk}
use Rattle.wav_pcm.proofs.Common.{sound_bytes, MayHaveGrown, MayBegin}
use Rattle.std.proofs.lemmas.Result.{on_ok_weaker, IfErr-weaker}
use Rattle.std.specs.Prelude.{OnErr}
use Rattle.wav_pcm.specs.{Wavs.wav_head}
use Rattle.wav_pcm.proofs.GrowLaws.{begun_empty, take_front}
use Rattle.wav_pcm.proofs.buffers.write_start.Goals as goal

pub returns-clause-started : goal.returns-clause-started
returns-clause-started g c = λ told.
    let name = c.args.name.now in
    let head : List ℕ = wav_head c.args.frames c.args.rate in
    let still : IsTrue (g.V.Vault.tells c.start.new.self) =
    subst (λ (b : Bool). IsTrue b) (sym c.start.ensures.tells) told in
    let size : length c.write_head.new.out ≡ 44 = ap length c.write_head.ensures in
    let A : List ℕ → Type 0 = λ xs. OnOk c.append.result
    (g.V.Vault.holds c.append.new.self name ≡ Some (sound_bytes (g.V.Vault.holds c.start.new.self name) ++ xs)) in
    on_ok_weaker c.append.result
    (λ got. got ∙ ap (λ o. Some (sound_bytes o ++ head)) (c.in_ok-start.ensures.started told))
    (subst A (take_front 44 c.write_head.new.out (drop 44 c.args.buf.now) size ∙ c.write_head.ensures)
    (c.append.ensures.appended still))

pub returns-clause-failed : goal.returns-clause-failed
returns-clause-failed g c = λ told.
    let name = c.args.name.now in
    let head : List ℕ = wav_head c.args.frames c.args.rate in
    let old = g.V.Vault.holds c.args.vault.now name in
    let mid = g.V.Vault.holds c.start.new.self name in
    let new = g.V.Vault.holds c.append.new.self name in
    let still : IsTrue (g.V.Vault.tells c.start.new.self) =
    subst (λ (b : Bool). IsTrue b) (sym c.start.ensures.tells) told in
    let size : length c.write_head.new.out ≡ 44 = ap length c.write_head.ensures in
    let G : List ℕ → Type 0 = λ xs. OnErr c.append.result (MayHaveGrown xs mid new) in
    IfErr-weaker c.append.result (λ _. MayHaveGrown head mid new) (λ _. MayBegin head old new)
    (λ _ grown. begun_empty old mid new head (c.in_ok-start.ensures.started told) grown)
    (subst G (take_front 44 c.write_head.new.out (drop 44 c.args.buf.now) size ∙ c.write_head.ensures)
    (c.append.ensures.failed still))
