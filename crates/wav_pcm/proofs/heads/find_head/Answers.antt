-- Each chunk is passed over, is the `data` chunk, or refuses the file.
use Rattle.wav_pcm.proofs.Common.{◌≡◌, ◌-◌, ℕ, List, Ok, take, drop, length, arith, ◌∙◌, subst, length-drop, Sounds}
use Rattle.wav_pcm.proofs.Common.{seen_after, sound_bytes, IsChunk, IsFault, seen_in}
use Rattle.wav_pcm.proofs.WalkLaws.{data_finds, data_refuses, walks_on, chunk_refuses, end_refuses}
use Rattle.wav_pcm.proofs.ReasonLaws.{end_of_some, named}
use Rattle.wav_pcm.proofs.heads.find_head.Goals as goal

pub returns-in-Ok-head_at-clause-says : goal.returns-in-Ok-head_at-clause-says
returns-in-Ok-head_at-clause-says g c = λ told.
    let inv = c.chunks.invariant in
    let name = c.args.name.now in
    let left = c.chunks.left in
    let bytes : List ℕ = sound_bytes (g.V.Vault.holds c.args.vault.now name) in
    let long : length bytes ≡ c.args.size = c.requires.size told in
    let K : Sounds → Type 0 = λ s. IsChunk c.in-Ok.chunk (drop (c.args.size - left) (sound_bytes (s name))) in
    let rest = length-drop (c.args.size - (left - 8)) bytes in
    data_finds (seen_in c.chunks.seen) c.in-Ok.chunk bytes c.args.size left _ c.in-Ok-head_at.head long
    (omega (arith, inv.within)) c.chunks-test.true (inv.says told)
    (subst K inv.same (c.in-Ok.ensures.says (inv.tells ∙ told))) c.if-chunk.true
    (c.in-Ok-head_at.ensures.says (drop (c.args.size - (left - 8)) bytes)
    (omega (arith, rest, long, inv.within, c.chunks-test.true)))

pub returns-in-Err-head_at-clause-says : goal.returns-in-Err-head_at-clause-says
returns-in-Err-head_at-clause-says g c = λ told.
    let inv = c.chunks.invariant in
    let name = c.args.name.now in
    let left = c.chunks.left in
    let bytes : List ℕ = sound_bytes (g.V.Vault.holds c.args.vault.now name) in
    let long : length bytes ≡ c.args.size = c.requires.size told in
    let K : Sounds → Type 0 = λ s. IsChunk c.in-Ok.chunk (drop (c.args.size - left) (sound_bytes (s name))) in
    let rest = length-drop (c.args.size - (left - 8)) bytes in
    data_refuses (seen_in c.chunks.seen) c.in-Ok.chunk bytes c.args.size left _ c.from.result c.in-Err-head_at.fault
    long (omega (arith, inv.within)) c.chunks-test.true (inv.says told)
    (subst K inv.same (c.in-Ok.ensures.says (inv.tells ∙ told))) c.if-chunk.true c.from.ensures
    (c.in-Err-head_at.ensures.says (drop (c.args.size - (left - 8)) bytes)
    (omega (arith, rest, long, inv.within, c.chunks-test.true)))

pub returns-in-Err-see_at-clause-says : goal.returns-in-Err-see_at-clause-says
returns-in-Err-see_at-clause-says g c = λ told.
    let inv = c.chunks.invariant in
    let name = c.args.name.now in
    let left = c.chunks.left in
    let bytes : List ℕ = sound_bytes (g.V.Vault.holds c.args.vault.now name) in
    let long : length bytes ≡ c.args.size = c.requires.size told in
    let K : Sounds → Type 0 = λ s. IsChunk c.in-Ok.chunk (drop (c.args.size - left) (sound_bytes (s name))) in
    let is = subst K inv.same (c.in-Ok.ensures.says (inv.tells ∙ told)) in
    let after = c.in-Ok.ensures.same ∙ inv.same in
    let F : Sounds → Type 0 = λ s. IsFault c.in-Err-see_at.why (seen_after (seen_in c.chunks.seen)
    (take 4 (drop (c.args.size - left) bytes)) c.in-Ok.chunk.size
    (drop (c.args.size - (left - 8)) (sound_bytes (s name)))) in
    chunk_refuses (seen_in c.chunks.seen) c.in-Ok.chunk bytes c.args.size left _ c.in-Err-see_at.why long
    (omega (arith, inv.within)) c.chunks-test.true (inv.says told) is c.if-chunk.false
    (subst F after (c.in-Err-see_at.ensures.says (c.in-Ok.ensures.tells ∙ inv.tells ∙ told)
    (take 4 (drop (c.args.size - left) bytes)) is.form))

pub chunks-preserved : goal.chunks-preserved
chunks-preserved g c =
    let inv = c.chunks.invariant in
    let name = c.args.name.now in
    let left = c.chunks.left in
    let bytes : List ℕ = sound_bytes (g.V.Vault.holds c.args.vault.now name) in
    let K : Sounds → Type 0 = λ s. IsChunk c.in-Ok.chunk (drop (c.args.size - left) (sound_bytes (s name))) in
    let after = c.in-Ok.ensures.same ∙ inv.same in
    let S : Sounds → Type 0 = λ s. seen_after (seen_in c.chunks.seen) (take 4 (drop (c.args.size - left) bytes))
    c.in-Ok.chunk.size (drop (c.args.size - (left - 8)) (sound_bytes (s name))) ≡ Ok (seen_in c.in-Ok-see_at.next) in
    let fewer = c.left_after-left.ensures in
    record {
      within = omega (arith, inv.within, fewer);
      says = λ told.
          let is = subst K inv.same (c.in-Ok.ensures.says (inv.tells ∙ told)) in
          walks_on (seen_in c.chunks.seen) (seen_in c.in-Ok-see_at.next) c.in-Ok.chunk bytes c.args.size left
          c.left_after-left.result _ (c.requires.size told) (omega (arith, inv.within)) c.chunks-test.true
          (inv.says told) is c.if-chunk.false
          (subst S after (c.in-Ok-see_at.ensures.says (c.in-Ok.ensures.tells ∙ inv.tells ∙ told)
          (take 4 (drop (c.args.size - left) bytes)) is.form)) fewer;
      same = c.in-Ok-see_at.ensures.same ∙ after;
      tells = c.in-Ok-see_at.ensures.tells ∙ (c.in-Ok.ensures.tells ∙ inv.tells);
      faults = c.in-Ok-see_at.ensures.faults ∙ (c.in-Ok.ensures.faults ∙ inv.faults);
    }

pub returns-clause-says : goal.returns-clause-says
returns-clause-says g c = λ told.
    let inv = c.chunks.invariant in
    end_refuses (seen_in c.chunks.seen) (sound_bytes (g.V.Vault.holds c.args.vault.now c.args.name.now)) c.args.size
    c.chunks.left _ c.from-2.result c.end.result (c.requires.size told) (omega (arith, inv.within)) c.chunks-test.false
    (inv.says told) c.from-2.ensures c.end.ensures

pub returns-clause-reason : goal.returns-clause-reason
returns-clause-reason g c =
    named c.from-2.result c.end.result c.from-2.ensures (end_of_some (seen_in c.chunks.seen) c.end.result c.end.ensures)
