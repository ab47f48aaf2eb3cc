-- One buffer more of a block of the disk is read.
use Rattle.std.proofs.Common.{◌≡◌, ◌≤◌, ◌+◌, ◌*◌, ℕ, ℤ, List, ◌++◌, take, length, arith, ◌∙◌, ap, sym, subst}
use Rattle.std.proofs.lemmas.Slice.{take-put_mid}
use Rattle.disk_model.specs.Disk.{Files, bytes_of}
use Rattle.peak_summary.specs.declared.stretch.Summary.{Summary}
use Rattle.sample_block.specs.Faults.{samples_in}
use Rattle.sample_block.proofs.Laws.{samples_more, length_samples}
use Rattle.block_store.specs.{declared.frames.Level.Level, Reads.stored_frames}
use Rattle.block_store.proofs.FrameLaws.{frames_more, length_stored}
use borrow.Rule.Slice.PartMut.{put_mid}

-- the samples so far, and those of the next buffer
pub samples_on : (was now : Files) (id at from done n m k : ℕ) (out part : List ℤ) → now ≡ was → done ≤ length out
    → at ≡ 16 + 2 * from
    → take done out ≡ samples_in (bytes_of (was id)) at done
    → part ≡ samples_in (bytes_of (now id)) (16 + 2 * (from + done)) m → m ≡ n
    → take (done + n) (put_mid done k out part) ≡ samples_in (bytes_of (was id)) at (done + n)
samples_on was now id at from done n m k out part same le place before got size =
    let here : part ≡ samples_in (bytes_of (now id)) (16 + 2 * (from + done)) n =
    got ∙ ap (samples_in (bytes_of (now id)) (16 + 2 * (from + done))) size in
    let there : part ≡ samples_in (bytes_of (was id)) (at + 2 * done) n =
    here ∙ ap (λ (f : Files). samples_in (bytes_of (f id)) (16 + 2 * (from + done)) n) same
    ∙ ap (λ (m : ℕ). samples_in (bytes_of (was id)) m n) (omega arith) in
    let long : length part ≡ n = ap length there ∙ length_samples (bytes_of (was id)) (at + 2 * done) n in
    take-put_mid done k out part (done + n) (omega (arith, long)) le ∙ ap (λ (xs : List ℤ). xs ++ part) before
    ∙ ap (λ (xs : List ℤ). samples_in (bytes_of (was id)) at done ++ xs) there
    ∙ sym (samples_more (bytes_of (was id)) at done n)

-- the file has them all
pub samples_there : (was now : Files) (id from done n m : ℕ) → now ≡ was
    → 16 + 2 * (from + done + m) ≤ length (bytes_of (now id)) → m ≡ n
    → 16 + 2 * (from + (done + n)) ≤ length (bytes_of (was id))
samples_there was now id from done n m same got size =
    let there : 16 + 2 * (from + done + m) ≤ length (bytes_of (was id)) =
    subst (λ (f : Files). 16 + 2 * (from + done + m) ≤ length (bytes_of (f id))) same got in
    omega (arith, there, size)

-- the same of frames
pub frames_on : (was now : Files) (id : ℕ) (level : Level) (len from done n m k : ℕ) (out part : List Summary)
    → now ≡ was → done ≤ length out
    → take done out ≡ stored_frames (bytes_of (was id)) level len from done
    → part ≡ stored_frames (bytes_of (now id)) level len (from + done) m → m ≡ n
    → take (done + n) (put_mid done k out part) ≡ stored_frames (bytes_of (was id)) level len from (done + n)
frames_on was now id level len from done n m k out part same le before got size =
    let there : part ≡ stored_frames (bytes_of (was id)) level len (from + done) n =
    got ∙ ap (λ (f : Files). stored_frames (bytes_of (f id)) level len (from + done) m) same
    ∙ ap (stored_frames (bytes_of (was id)) level len (from + done)) size in
    let long : length part ≡ n = ap length there ∙ length_stored (bytes_of (was id)) level len (from + done) n in
    take-put_mid done k out part (done + n) (omega (arith, long)) le ∙ ap (λ (ss : List Summary). ss ++ part) before
    ∙ ap (λ (ss : List Summary). stored_frames (bytes_of (was id)) level len from done ++ ss) there
    ∙ sym (frames_more (bytes_of (was id)) level len from done n)

pub frames_there : (was now : Files) (id place from done n m : ℕ) → now ≡ was
    → place + 12 * (from + done + m) ≤ length (bytes_of (now id)) → m ≡ n
    → place + 12 * (from + (done + n)) ≤ length (bytes_of (was id))
frames_there was now id place from done n m same got size =
    let there : place + 12 * (from + done + m) ≤ length (bytes_of (was id)) =
    subst (λ (f : Files). place + 12 * (from + done + m) ≤ length (bytes_of (f id))) same got in
    omega (arith, there, size)
