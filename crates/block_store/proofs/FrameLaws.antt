-- The frames of a block of the disk are the summaries of its stretches.
use Rattle.std.proofs.Common.{◌≡◌, ℕ, zero, suc, ◌∷◌, ◌++◌, ◌+◌, ◌*◌, ◌^◌, ◌<◌, ◌≤◌, ℤ, List, length, length-drop, take}
use Rattle.std.proofs.Common.{drop, map, Option, Some, None, sym, refl, ap, ◌∙◌, arith, subst, Result, Ok, Err}
use Rattle.std.proofs.lemmas.List.{same_lists, get_or-take, get_or-drop, length-take}
use Rattle.std.proofs.lemmas.List.FromFn.{get_or-map-range_with_len, length-map-range_with_len}
use Rattle.std.specs.{Prelude.OnOk, List.range_with_len}
use Rattle.disk_model.specs.Disk.{Files, bytes_of}
use Rattle.peak_summary.specs.{declared.stretch.Summary.Summary, Peaks.frame_count, Peaks.frame_of, Peaks.frames_of}
use Rattle.sample_block.specs.Spelling.{IsSpelled, level_fields, size_of}
use Rattle.sample_block.specs.{Faults.difference, Faults.frame_in, Blocks.blocks}
use Rattle.sample_block.proofs.{Laws.frame_part, Spellings.spelled_short, Spellings.frame_read, BlockLaws.blocks_have}
use Rattle.block_store.specs.declared.frames.Level.TheVariants.{Short, Long}
use Rattle.block_store.specs.Reads.{frame_len, frame_samples, level_place, stored_frame, stored_frames}
use Rattle.block_store.specs.{declared.fault.BlockFault.BlockFault, declared.frames.Level.Level}

level_none : (level : Level) (id : ℕ) (xs : List ℤ) (bytes : List ℕ) → id < 2 ^ 64 → length xs < 2 ^ 32
    → IsSpelled id xs bytes
    → difference bytes (level_place level (length xs)) (level_fields (frame_len level) xs) ≡ None
level_none Short id xs bytes low few spelled = (spelled_short id xs bytes low few spelled).0
level_none Long id xs bytes low few spelled = (spelled_short id xs bytes low few spelled).1

stored_is : (files : Files) (level : Level) (id len i : ℕ) (xs : List ℤ) → blocks files id ≡ Some xs → length xs ≡ len
    → i < frame_count (frame_len level) len
    → stored_frame (bytes_of (files id)) level len i ≡ frame_of (frame_len level) xs i
stored_is files level id len i xs e size lt =
    let has = blocks_have files id xs e in
    let low : id < 2 ^ 64 = omega (arith, has.block.id_high) in
    let few : length xs < 2 ^ 32 = omega (arith, has.block.few) in
    let none = level_none level id xs has.bytes low few has.spelled in
    let below : i < frame_count (frame_len level) (length xs) =
    subst (λ (n : ℕ). i < frame_count (frame_len level) n) (sym size) lt in
    ap (λ (o : Option (List ℕ)). stored_frame (bytes_of o) level len i) has.file
    ∙ ap (λ (n : ℕ). stored_frame has.bytes level n i) (sym size)
    ∙ frame_read has.bytes (level_place level (length xs)) (frame_len level) i xs has.spelled.0 below none

-- the frames of the file from a number on are those of the samples
stored_all : (files : Files) (level : Level) (id len from n : ℕ) (xs : List ℤ) → blocks files id ≡ Some xs
    → length xs ≡ len → from + n ≤ frame_count (frame_len level) len
    → stored_frames (bytes_of (files id)) level len from n ≡ take n (drop from (frames_of (frame_len level) xs))
stored_all files level id len from n xs e size le =
    let bytes : List ℕ = bytes_of (files id) in
    let all : List Summary = frames_of (frame_len level) xs in
    let c : ℕ = frame_count (frame_len level) (length xs) in
    let many : length all ≡ frame_count (frame_len level) len =
    length-map-range_with_len (frame_of (frame_len level) xs) 0 c ∙ ap (frame_count (frame_len level)) size in
    let long : length (stored_frames bytes level len from n) ≡ n =
    length-map-range_with_len (stored_frame bytes level len) from n in
    same_lists (stored_frames bytes level len from n) (take n (drop from all))
    (omega (arith, long, length-take n (drop from all), length-drop from all, many)) (λ k d lt.
    let below : k < n = omega (arith, long) in
    let here : from + k < frame_count (frame_len level) len = omega arith in
    let there : from + k < c = subst (λ (m : ℕ). from + k < frame_count (frame_len level) m) (sym size) here in
    get_or-map-range_with_len (stored_frame bytes level len) from n k (from + k) d below refl
    ∙ stored_is files level id len (from + k) xs e size here
    ∙ sym (get_or-map-range_with_len (frame_of (frame_len level) xs) 0 c (from + k) (from + k) d there (omega arith))
    ∙ sym (get_or-drop from all k d) ∙ sym (get_or-take n (drop from all) k d below))

pub frames_result : {T : Type 0} (r : Result T BlockFault) (files : Files) (level : Level) (id len from n : ℕ)
    (xs : List ℤ) (out : List Summary)
    → blocks files id ≡ Some xs → length xs ≡ len → from + n ≤ frame_count (frame_len level) len
    → OnOk r (out ≡ stored_frames (bytes_of (files id)) level len from n)
    → OnOk r (out ≡ take n (drop from (frames_of (frame_len level) xs)))
frames_result (Ok x) files level id len from n xs out e size le read =
    read ∙ stored_all files level id len from n xs e size le
frames_result (Err why) files level id len from n xs out e size le read = tt

-- lists that are made from equal items are equal
shifted : (f g : ℕ → Summary) (a b n : ℕ) → ((k : ℕ) → k < n → f (a + k) ≡ g (b + k))
    → map f (range_with_len a n) ≡ map g (range_with_len b n)
shifted f g a b n same =
    let long : length (map f (range_with_len a n)) ≡ n = length-map-range_with_len f a n in
    let wide : length (map g (range_with_len b n)) ≡ n = length-map-range_with_len g b n in
    same_lists (map f (range_with_len a n)) (map g (range_with_len b n)) (omega (arith, long, wide)) (λ k d lt.
    let below : k < n = omega (arith, long) in
    get_or-map-range_with_len f a n k (a + k) d below refl ∙ same k below
    ∙ sym (get_or-map-range_with_len g b n k (b + k) d below refl))

-- frames that stand in a part of the file
pub frames_taken : (bytes part : List ℕ) (level : Level) (len from at n size : ℕ)
    → at ≡ level_place level len + 12 * from → size ≡ 12 * n → part ≡ take size (drop at bytes)
    → map (λ k. frame_in part (12 * k) (frame_samples level len (from + k))) (range_with_len 0 n)
    ≡ stored_frames bytes level len from n
frames_taken bytes part level len from at n size place wide e =
    shifted (λ k. frame_in part (12 * k) (frame_samples level len (from + k))) (stored_frame bytes level len) 0 from n
    (λ k lt.
    let here : 0 + k ≡ k = omega arith in
    let there : at + 12 * k ≡ level_place level len + 12 * (from + k) = omega (arith, place) in
    ap (λ (m : ℕ). frame_in part (12 * m) (frame_samples level len (from + m))) here
    ∙ frame_part bytes part at size (12 * k) (frame_samples level len (from + k)) e (omega arith)
    ∙ ap (λ (m : ℕ). frame_in bytes m (frame_samples level len (from + k))) there)

-- one stretch of frames and then the next
runs : (f : ℕ → Summary) (a m n : ℕ)
    → map f (range_with_len a (m + n)) ≡ map f (range_with_len a m) ++ map f (range_with_len (a + m) n)
runs f a zero n =
    let all : 0 + n ≡ n = omega arith in
    let place : a ≡ a + 0 = omega arith in
    ap (λ (k : ℕ). map f (range_with_len a k)) all ∙ ap (λ (k : ℕ). map f (range_with_len k n)) place
runs f a (suc m) n =
    let all : suc m + n ≡ suc (m + n) = omega arith in
    let place : a + 1 + m ≡ a + suc m = omega arith in
    ap (λ (k : ℕ). map f (range_with_len a k)) all
    ∙ ap (λ (ss : List Summary). f a ∷ ss)
    (runs f (a + 1) m n ∙ ap (λ (k : ℕ). map f (range_with_len (a + 1) m) ++ map f (range_with_len k n)) place)

pub frames_more : (bytes : List ℕ) (level : Level) (len from m n : ℕ)
    → stored_frames bytes level len from (m + n) ≡ stored_frames bytes level len from m
    ++ stored_frames bytes level len (from + m) n
frames_more bytes level len from m n = runs (stored_frame bytes level len) from m n

pub length_stored : (bytes : List ℕ) (level : Level) (len from n : ℕ)
    → length (stored_frames bytes level len from n) ≡ n
length_stored bytes level len from n = length-map-range_with_len (stored_frame bytes level len) from n

-- the frames of a level end within the file
pub frames_within : (level : Level) (len from n : ℕ) → from + n ≤ frame_count (frame_len level) len
    → level_place level len + 12 * (from + n) ≤ size_of len
frames_within Short len from n le = omega (arith, le)
frames_within Long len from n le = omega (arith, le)

pub bytes_within : (level : Level) (len from n : ℕ) → 12 * from + n ≤ 12 * frame_count (frame_len level) len
    → level_place level len + 12 * from + n ≤ size_of len
bytes_within Short len from n le = omega (arith, le)
bytes_within Long len from n le = omega (arith, le)
