-- Each reason that a reader of a sound meets, whatever its vault tells, is that of some bytes.
use Rattle.wav_pcm.proofs.Common.{◌≡◌, ◌∙◌, ℕ, List, [], ◌∷◌, ◌++◌, length, take, drop, Option, Some, None, Err, ap}
use Rattle.wav_pcm.proofs.Common.{arith, inr, refl, subst, sym, take_all, codes, WavFault, Format, ended, format_of}
use Rattle.wav_pcm.proofs.Common.{some_format, seen_after, u32_at, riff_header, format_head, format_tail, SoundFault}
use Rattle.wav_pcm.proofs.Common.{BadWav}
use Rattle.wav_pcm.specs.Parts.{IsOfSome, IsSomeReason}
use Rattle.wav_pcm.proofs.{ChunkLaws.refuses, WrittenLaws.riff_read, WrittenLaws.format_read}
use Rattle.pcm_base.specs.declared.wav.WavFault.TheVariants as wav

-- a `fmt ` chunk with this body
abbrev chunk_of : List ℕ → List ℕ
chunk_of body = codes "fmt " ++ (length body ∷ 0 ∷ 0 ∷ 0 ∷ body)

chunk_seen : (body : List ℕ) (fault : WavFault) → format_of body ≡ Err fault
    → seen_after None (take 4 (chunk_of body)) (u32_at (chunk_of body) 4) (drop 8 (chunk_of body)) ≡ Err fault
chunk_seen body fault says =
    let size : u32_at (chunk_of body) 4 ≡ length body = omega arith in
    ap (λ (n : ℕ). some_format (format_of (take n body))) size
    ∙ ap (λ (xs : List ℕ). some_format (format_of xs)) (take_all (length body) body (omega arith))
    ∙ ap some_format says

-- what refuses a body refuses a file of that one chunk
pub format_refuses : (body : List ℕ) (fault : WavFault) → format_of body ≡ Err fault → IsOfSome fault
format_refuses body fault says = inr (
  riff_header 0 ++ chunk_of body,
  riff_read 0 (chunk_of body) ∙ refuses None fault (chunk_of body) (omega arith) refl (chunk_seen body fault says),
)

-- and a file whose chunks end is refused as they are
pub end_of_some : (f : Option Format) (fault : WavFault) → ended f ≡ Err fault → IsOfSome fault
end_of_some None fault is = inr (riff_header 0 ++ [], riff_read 0 [] ∙ is)
end_of_some (Some format) fault is = inr (
  riff_header 0 ++ (format_head ++ (format_tail 1 ++ [])),
  riff_read 0 (format_head ++ (format_tail 1 ++ [])) ∙ format_read 1 [] (omega arith) (omega arith) ∙ is,
)

pub no_format : IsOfSome wav.NoFmt
no_format = end_of_some None wav.NoFmt refl

-- a fault by its name
pub named : (why : SoundFault) (fault : WavFault) → why ≡ BadWav fault → IsOfSome fault → IsSomeReason why
named why fault is some = subst IsSomeReason (sym is) some
