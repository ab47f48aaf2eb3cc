-- No more than 40 bytes of a body say its format.
use Rattle.wav_pcm.proofs.Common.{◌≡◌, ℕ, List, take, drop, length, min, arith, ap, sym, ◌∙◌, ◌+◌, Result, Err, subst}
use Rattle.wav_pcm.proofs.Common.{length-drop, length-take, Format, format_of, WavFault, SoundFault, BadWav, IsFault}
use Rattle.wav_pcm.proofs.{HeadLaws.format_part, ReasonLaws.format_refuses, ReasonLaws.named}
use Rattle.wav_pcm.proofs.heads.format_at.Goals as goal

-- what was read says what the body says
read_says : (at left size n count : ℕ) (buf bytes : List ℕ) → length bytes ≡ at + left → count ≡ min (min left size) 40
    → n ≡ count → buf ≡ take n (drop at bytes) → format_of buf ≡ format_of (take size (drop at bytes))
read_says at left size n count buf bytes long is same read =
    let rest = length-drop at bytes in
    ap format_of (read ∙ ap (λ (m : ℕ). take m (drop at bytes)) same)
    ∙ format_part left size count (drop at bytes) (omega (arith, rest, long)) is

fault_found : (why : SoundFault) (fault : WavFault) (told : Result Format WavFault) → why ≡ BadWav fault
    → told ≡ Err fault → IsFault why told
fault_found why fault told is says = subst (λ (w : SoundFault). IsFault w told) (sym is) says

pub returns-in-Ok-clause-says : goal.returns-in-Ok-clause-says
returns-in-Ok-clause-says g c = λ told.
    let tail = c.args.tail in
    let size : c.min-count.result ≡ min (min tail.left c.args.size) 40 =
    omega (arith, c.from.ensures, c.min.ensures, c.min-count.ensures) in
    let room = length-take c.min-count.result c.args.buf.now in
    sym (read_says tail.at tail.left c.args.size _ c.min-count.result c.read_part.new.buf _ (c.requires.left told)
    size (omega (arith, room, size, c.requires.room)) (c.in_default.ensures.read told)) ∙ c.in-Ok.ensures

pub returns-in-Err-read_format-clause-says : goal.returns-in-Err-read_format-clause-says
returns-in-Err-read_format-clause-says g c = λ told.
    let tail = c.args.tail in
    let size : c.min-count.result ≡ min (min tail.left c.args.size) 40 =
    omega (arith, c.from.ensures, c.min.ensures, c.min-count.ensures) in
    let room = length-take c.min-count.result c.args.buf.now in
    fault_found _ _ _ c.from-in-Err-read_format.ensures
    (sym (read_says tail.at tail.left c.args.size _ c.min-count.result c.read_part.new.buf _ (c.requires.left told)
    size (omega (arith, room, size, c.requires.room)) (c.in_default.ensures.read told)) ∙ c.in-Err-read_format.ensures)

pub returns-in-Err-read_format-clause-reason : goal.returns-in-Err-read_format-clause-reason
returns-in-Err-read_format-clause-reason g c =
    named c.from-in-Err-read_format.result c.in-Err-read_format.fault c.from-in-Err-read_format.ensures
    (format_refuses c.read_part.new.buf c.in-Err-read_format.fault c.in-Err-read_format.ensures)
