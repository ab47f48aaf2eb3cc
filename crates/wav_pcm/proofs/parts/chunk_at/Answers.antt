-- A chunk is known by its first 8 bytes.
use Rattle.wav_pcm.proofs.Common.{◌≡◌, ℕ, List, take, length, arith, ap, ◌∙◌, take-take, codes, bytes_eq, u32_at}
use Rattle.wav_pcm.proofs.Common.{IsChunk, Chunk}
use Rattle.wav_pcm.proofs.HeadLaws.{number_in_front}
use Rattle.wav_pcm.proofs.parts.chunk_at.Goals as goal

chunk_says : (chunk : Chunk) (n : ℕ) (buf xs : List ℕ) → n ≡ 8 → buf ≡ take n xs
    → chunk.is_data ≡ bytes_eq (take 4 buf) (codes "data") → chunk.is_format ≡ bytes_eq (take 4 buf) (codes "fmt ")
    → chunk.size ≡ u32_at buf 4 → IsChunk chunk xs
chunk_says chunk n buf xs eight read is_data is_format size =
    let eight_read : buf ≡ take 8 xs = read ∙ ap (λ (m : ℕ). take m xs) eight in
    let name : take 4 buf ≡ take 4 xs = ap (take 4) eight_read ∙ take-take 4 8 xs (omega arith) in
    record {
      body = is_data ∙ ap (λ (ys : List ℕ). bytes_eq ys (codes "data")) name;
      form = is_format ∙ ap (λ (ys : List ℕ). bytes_eq ys (codes "fmt ")) name;
      size = size ∙ ap (λ (ys : List ℕ). u32_at ys 4) eight_read ∙ number_in_front xs;
    }

pub returns-in-Ok-clause-says : goal.returns-in-Ok-clause-says
returns-in-Ok-clause-says g c = λ told. chunk_says _ (length c.args.buf.now) c.read_part.new.buf _ c.requires.room
    (c.in-Ok.ensures.read told) (c.eq.ensures ∙ ap (bytes_eq (take 4 c.read_part.new.buf)) c.as_slice.ensures)
    (c.eq-in-Ok.ensures ∙ ap (bytes_eq (take 4 c.read_part.new.buf)) c.as_slice-in-Ok.ensures) c.u32_at.ensures
