-- The whole frames of a `data` chunk are its sound.
use Rattle.wav_pcm.proofs.Common.{◌≡◌, ◌≢◌, ◌≤◌, ◌<◌, ◌*◌, ◌/◌, inl, inr, ℕ, List, take, length, Option, Some, Ok, Err}
use Rattle.wav_pcm.proofs.Common.{refl, arith, ap, ne_eqb, lt-ltb, Format, sound_of, data_of, Truncated, WavFault}
use Rattle.wav_pcm.proofs.Common.{seen_in}
use Rattle.wav_pcm.specs.{Heads.IsSized}
use Rattle.wav_pcm.proofs.HeadLaws.{data_found_all, data_found_sized, frames_inside}
use Rattle.wav_pcm.proofs.ReasonLaws.{no_format}
use Rattle.wav_pcm.proofs.heads.head_at.Goals as goal

head_says : (f : Format) (m at count size left : ℕ) (seen : Option Format) (rest : List ℕ) → m ≡ f.channels
    → seen ≡ Some f → length rest ≡ left → IsSized size left count
    → (at ≡ at) × (2 * f.channels * (count / (2 * m)) ≤ length rest)
    × (data_of seen size rest ≡ Ok (sound_of f (take (2 * f.channels * (count / (2 * m))) rest)))
head_says f m at count size left seen rest same is long (inl all) =
    let inside = frames_inside f.channels count (length rest) (omega (arith, all.1, long)) in
    rw (same, is) (refl, inside, data_found_all f size count rest all.0 (omega (arith, all.1, long)))
head_says f m at count size left seen rest same is long (inr sized) =
    let inside = frames_inside f.channels count (length rest) (omega (arith, sized.1, sized.2, long)) in
    rw (same, is) (refl, inside, data_found_sized f size count rest sized.0 sized.1 (omega (arith, sized.2, long)))

cut_says : (f : Format) (size left : ℕ) (seen : Option Format) (rest : List ℕ) (why : WavFault) → seen ≡ Some f
    → length rest ≡ left → size ≢ 0xFFFFFFFF → left < size → why ≡ Truncated size left
    → data_of seen size rest ≡ Err why
cut_says f size left seen rest why is long sized lt told =
    rw (is, told, ne_eqb size 4294967295 sized, lt-ltb (length rest) size (omega (arith, lt, long)), long) refl

pub returns-in-Ok-clause-says : goal.returns-in-Ok-clause-says
returns-in-Ok-clause-says c = λ rest long.
    head_says _ c.from.result c.args.tail.at c.in-Ok.count c.args.size c.args.tail.left (seen_in c.args.seen) rest
    c.from.ensures (ap seen_in c.in-Some.is) long c.in-Ok.ensures.sized

pub returns-in-Err-clause-says : goal.returns-in-Err-clause-says
returns-in-Err-clause-says c = λ rest long.
    cut_says _ c.args.size c.args.tail.left (seen_in c.args.seen) rest c.in-Err.fault
    (ap seen_in c.in-Some.is) long c.in-Err.ensures.refused.0 c.in-Err.ensures.refused.1 c.in-Err.ensures.refused.2

pub returns-in_default-clause-reason : goal.returns-in_default-clause-reason
returns-in_default-clause-reason c = no_format
