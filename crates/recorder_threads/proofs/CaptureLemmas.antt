-- How far the reading of the microphone has come.
use Rattle.std.proofs.Common.{◌≡◌, ℕ, ◌+◌, ◌*◌, ◌/◌, ◌<◌, ◌≤◌, min, ℤ, List, [], ◌∷◌, ◌++◌, length, take, Option, refl}
use Rattle.std.proofs.Common.{sym, ap, ◌∙◌, arith}
use Rattle.std.proofs.lemmas.List.{length-append, append-nil, length-take-le, Elements.All-push}
use Rattle.pcm_base.specs.Parts.{Part}
use Rattle.pcm_base.specs.Recordings.{samples_of_bytes, chunks_of, numbered_part, numbered, IsOpen}
use Rattle.edit_ports.specs.Told.{Open, preceded}
use Rattle.edit_ports.proofs.ToldLaws.{preceded-nil, preceded-preceded}
use Rattle.record_ring.specs.{Order.Follows, Ends.sent, Ends.SameIn, declared.ends.RecordIn.RecordIn}
use Rattle.recorder_threads.specs.Captured.{Reads, Captures, IsStoppedBy, mic_course, chunk_if}
use Rattle.recorder_threads.specs.{declared.microphone.MicEnd.MicEnd, declared.microphone.Captured.Captured}
use Rattle.recorder_threads.specs.{Blocks.mic_state}
use Rattle.recorder_threads.proofs.WaveLemmas.{chunks-more, chunks_if, length-chunks, length-numbered, numbered-push}
use Rattle.recorder_threads.proofs.WaveLemmas.{length-samples}
use Rattle.edit_ports.specs.declared.source.Source as source

pub Reads-start : (left : Option (List ℕ)) (sent : List Part) → sent ≡ [] → Reads left left sent []
Reads-start left sent none = record {
  read = sym (preceded-nil left);
  sent_is = none;
  unended = rw none (λ k d h. absurd (omega arith));
}

pub sent-length : {left left' : Option (List ℕ)} {sent : List Part} {bytes : List ℕ} → Reads left left' sent bytes
    → length sent ≡ length (chunks_of bytes)
sent-length {left = left} {left' = left'} {sent = sent} {bytes = bytes} r =
    ap length r.sent_is ∙ length-numbered 0 (chunks_of bytes)

-- the next chunk, or the end mark, may be sent
pub Reads-follows : {left left' : Option (List ℕ)} {sent : List Part} {bytes : List ℕ} (n : ℕ) (samples : List ℤ)
    → Reads left left' sent bytes → n ≡ length (chunks_of bytes) → Follows sent (numbered_part n samples)
Reads-follows n samples r e = (e ∙ sym (sent-length r), r.unended)

numbered-more : (xs : List (List ℤ)) (k : ℕ) (s : List ℤ) → length xs ≡ k
    → numbered 0 (xs ++ chunks_if s) ≡ numbered 0 xs ++ chunk_if k s
numbered-more xs k [] e = ap (numbered 0) (append-nil xs) ∙ sym (append-nil (numbered 0 xs))
numbered-more xs k (x ∷ s) e = numbered-push 0 xs (x ∷ s) k (omega arith)

IsOpen-more : (sent : List Part) (k : ℕ) (s : List ℤ) → IsOpen sent → IsOpen (sent ++ chunk_if k s)
IsOpen-more sent k [] o = rw (append-nil sent) o
IsOpen-more sent k (x ∷ s) o =
    All-push (λ (p : Part). 0 < length p.samples) sent (numbered_part k (x ∷ s)) o (omega arith)

-- whole blocks were read, and then one more
pub Reads-more : {left mid left' : Option (List ℕ)} {sent sent' : List Part} (k : ℕ) (done block : List ℕ)
    → length done ≡ 512 * k → length block ≤ 512 → Reads left mid sent done → mid ≡ preceded block left'
    → sent' ≡ sent ++ chunk_if k (samples_of_bytes block) → Reads left left' sent' (done ++ block)
Reads-more {left = left} {mid = mid} {left' = left'} {sent = sent} {sent' = sent'} k done block whole bound r moves
    new = record {
      read = r.read ∙ ap (preceded done) moves ∙ preceded-preceded left' done block;
      sent_is = new ∙ ap (λ t. t ++ chunk_if k (samples_of_bytes block)) r.sent_is
          ∙ sym (numbered-more (chunks_of done) k (samples_of_bytes block) (length-chunks k done whole))
          ∙ ap (numbered 0) (sym (chunks-more k done block whole bound));
      unended = rw new (IsOpen-more sent k (samples_of_bytes block) r.unended);
    }

length-chunks_if : (s : List ℤ) → length (chunks_if s) ≡ min 1 (length s)
length-chunks_if [] = refl
length-chunks_if (x ∷ s) = omega arith

-- how many chunks there are then
pub count-more : (k len : ℕ) (done block : List ℕ) → length done ≡ 512 * k → length block ≡ len → len ≤ 512
    → k + min 1 (len / 2) ≡ length (chunks_of (done ++ block))
count-more k len done block whole is bound =
    let a = ap length (chunks-more k done block whole (omega arith)) in
    omega (
      arith,
      a,
      length-append (chunks_of done) (chunks_if (samples_of_bytes block)),
      length-chunks k done whole,
      length-chunks_if (samples_of_bytes block),
      length-samples block,
    )

-- whole blocks were read, and then the first `len` of 512 bytes
pub record AfterBlock (left left' : Option (List ℕ)) (sent' : List Part) (k len : ℕ) (done block : List ℕ) : Type 0
  where
    pub long : length (done ++ block) ≡ 512 * k + len
    pub reads : Reads left left' sent' (done ++ block)
    pub count : k + min 1 (len / 2) ≡ length (chunks_of (done ++ block))

pub after_block : {left mid left' : Option (List ℕ)} {sent sent' : List Part} (k len : ℕ) (done bytes : List ℕ)
    → length bytes ≡ 512 → len ≤ 512 → length done ≡ 512 * k → Reads left mid sent done
    → mid ≡ preceded (take len bytes) left' → sent' ≡ sent ++ chunk_if k (samples_of_bytes (take len bytes))
    → AfterBlock left left' sent' k len done (take len bytes)
after_block k len done bytes wide bound whole reads moves new =
    let len_is : length (take len bytes) ≡ len = length-take-le len bytes (omega (arith, wide, bound)) in
    record {
      long = omega (arith, length-append done (take len bytes), whole, len_is);
      reads = Reads-more k done (take len bytes) whole (omega (arith, len_is, bound)) reads moves new;
      count = count-more k len done (take len bytes) whole len_is bound;
    }

-- the end mark was sent, and the microphone handed back
pub Captures-end : {M : Type 0} (mics : source.Ghosts M) (microphone mic' : M) (input : RecordIn) (r : Captured M)
    {before : List Part} (end : MicEnd) (n : ℕ) (bytes : List ℕ) → (r.mic ≡ mic') × (r.end ≡ end)
    → Reads (mics.left microphone) (mics.left mic') before bytes
    → n ≡ length (chunks_of bytes) → sent r.input ≡ before ++ numbered_part n [] ∷ []
    → IsStoppedBy end bytes (mic_state mics microphone) (mic_state mics mic')
    → ((first : M) → mics.follows first Open microphone → mics.follows first (mic_course end) mic')
    → SameIn input r.input → Captures mics microphone input r
Captures-end mics microphone mic' input r end n bytes back reads e new stopped goes ring = record {
  bytes = bytes;
  read = rw back.0 reads.read;
  sent_is = new ∙ ap (λ t. t ++ numbered_part n [] ∷ []) reads.sent_is
      ∙ ap (λ m. numbered 0 (chunks_of bytes) ++ numbered_part m [] ∷ []) e;
  stopped = rw (back.0, back.1) stopped;
  goes = rw (back.0, back.1) goes;
  ring = ring;
}
