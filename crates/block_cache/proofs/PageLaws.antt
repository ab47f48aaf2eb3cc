-- What stands on a page, and a part of it.
use Rattle.block_cache.proofs.Common.{◌≡◌, ℕ, ◌+◌, ◌*◌, ◌-◌, ◌/◌, ◌%◌, ◌≤◌, ℤ, List, length, length-drop, take, drop}
use Rattle.block_cache.proofs.Common.{refl, sym, ap, ◌∙◌, ◌<◌, subst, arith, min, Bool, true, false, Contains, Files}
use Rattle.block_cache.proofs.Common.{bytes_of, BlockRef, Summary, frame_count, samples_in, Level, Short, Long}
use Rattle.block_cache.proofs.Common.{HasHeader, frame_len, level_place, stored_frames, PageKey, IsFramePage, IsPage}
use Rattle.block_cache.proofs.Common.{IsSamplePage, frame_key, frames_end, page_end, page_len, sample_key, Entries}
use Rattle.block_cache.proofs.Common.{IsCacheOf, frames_within, size_of}
use Rattle.std.proofs.lemmas.List.{drop-drop, drop-take, get_or-drop, get_or-take, length-take, same_lists, take-take}
use Rattle.std.proofs.lemmas.List.FromFn.{get_or-map-range_with_len}
use Rattle.std.proofs.{lemmas.List.Sums.fold-append}
use Rattle.std.specs.{Int.w16, Int.cast_signed, Prelude.fold}
use Rattle.peak_summary.specs.Peaks.{joined, nothing}
use Rattle.sample_block.specs.Faults.{number_at}
use Rattle.sample_block.proofs.Laws.{get_samples, length_samples}
use Rattle.block_store.specs.Reads.{stored_frame}
use Rattle.block_store.proofs.FrameLaws.{frames_more, frames_taken, length_stored}
use Rattle.block_cache.specs.Pages.{AreFrameBytes, run_frames}

samples_cut : (bytes : List ℕ) (at m skip n : ℕ) → skip + n ≤ m
    → take n (drop skip (samples_in bytes at m)) ≡ samples_in bytes (at + 2 * skip) n
samples_cut bytes at m skip n le =
    let size = length-take n (drop skip (samples_in bytes at m)) in
    let rest = length-drop skip (samples_in bytes at m) in
    let all = length_samples bytes at m in
    let mine = length_samples bytes (at + 2 * skip) n in
    same_lists (take n (drop skip (samples_in bytes at m))) (samples_in bytes (at + 2 * skip) n)
    (omega (arith, size, rest, all, mine)) (λ k d lt.
    get_or-take n (drop skip (samples_in bytes at m)) k d (omega arith)
    ∙ get_or-drop skip (samples_in bytes at m) k d
    ∙ get_samples bytes at m (skip + k) d (omega arith)
    ∙ ap (λ (m : ℕ). cast_signed w16 (number_at bytes m 2)) (omega arith)
    ∙ sym (get_samples bytes (at + 2 * skip) n k d (omega arith)))

-- samples of a page that is right are those of the file
pub page_samples : (files : Files) (k : PageKey) (b : BlockRef) (from n : ℕ) (xs out : List ℤ)
    → k ≡ sample_key b (from / 4096) → IsSamplePage files k xs → from % 4096 + n ≤ length xs
    → out ≡ take n (drop (from % 4096) xs)
    → out ≡ samples_in (bytes_of (files b.id)) (16 + 2 * from) n
page_samples files k b from n xs out key page le got =
    let right : IsSamplePage files (sample_key b (from / 4096)) xs = subst (λ (j : PageKey). IsSamplePage files j xs)
    key page in
    let bytes : List ℕ = bytes_of (files b.id) in
    got ∙ ap (λ (ys : List ℤ). take n (drop (from % 4096) ys)) right.samples
    ∙ samples_cut bytes (16 + 2 * (4096 * (from / 4096))) (length xs) (from % 4096) n le
    ∙ ap (λ (m : ℕ). samples_in bytes m n) (omega arith)

pub page_header : (files : Files) (k : PageKey) (b : BlockRef) (page : ℕ) (xs : List ℤ)
    → k ≡ sample_key b page → IsSamplePage files k xs → HasHeader b.id b.len (bytes_of (files b.id))
page_header files k b page xs key right =
    subst (λ (j : PageKey). HasHeader j.id j.len (bytes_of (files j.id))) key right.header

-- a page of samples that is right ends within the file
pub page_whole : (files : Files) (k : PageKey) (b : BlockRef) (from n : ℕ) (xs : List ℤ)
    → k ≡ sample_key b (from / 4096) → IsSamplePage files k xs → from % 4096 + n ≤ length xs
    → 16 + 2 * (from + n) ≤ length (bytes_of (files b.id))
page_whole files k b from n xs key page le =
    let right : IsSamplePage files (sample_key b (from / 4096)) xs = subst (λ (j : PageKey). IsSamplePage files j xs)
    key page in
    omega (arith, right.whole, le)

-- what was read of a page is right
pub page_read : (was now : Files) (b : BlockRef) (page start n : ℕ) (xs : List ℤ) → now ≡ was → start ≡ 4096 * page
    → HasHeader b.id b.len (bytes_of (was b.id)) → 16 + 2 * (start + n) ≤ length (bytes_of (now b.id))
    → xs ≡ samples_in (bytes_of (now b.id)) (16 + 2 * start) n
    → IsSamplePage was (sample_key b page) xs
page_read was now b page start n xs same place header whole got =
    let bytes : bytes_of (now b.id) ≡ bytes_of (was b.id) = ap (λ (f : Files). bytes_of (f b.id)) same in
    let size : length xs ≡ n = ap length got ∙ length_samples (bytes_of (now b.id)) (16 + 2 * start) n in
    let there : 16 + 2 * (start + n) ≤ length (bytes_of (was b.id)) =
    subst (λ (ys : List ℕ). 16 + 2 * (start + n) ≤ length ys) bytes whole in record {
      header = header;
      whole = omega (arith, there, size, place);
      samples = got ∙ ap (λ (ys : List ℕ). samples_in ys (16 + 2 * start) n) bytes
          ∙ ap (λ (m : ℕ). samples_in (bytes_of (was b.id)) (16 + 2 * m) n) place
          ∙ ap (samples_in (bytes_of (was b.id)) (16 + 2 * (4096 * page))) (sym size);
    }

-- and a part of it
pub part_read : (was now : Files) (id start from skip n m : ℕ) (xs out : List ℤ) → now ≡ was
    → start + skip ≡ from → skip + n ≤ m
    → xs ≡ samples_in (bytes_of (now id)) (16 + 2 * start) m
    → out ≡ take (skip + n - skip) (drop skip xs)
    → out ≡ samples_in (bytes_of (was id)) (16 + 2 * from) n
part_read was now id start from skip n m xs out same place le read got =
    let size : skip + n - skip ≡ n = omega arith in
    got ∙ ap (λ (k : ℕ). take k (drop skip xs)) size
    ∙ ap (λ (ys : List ℤ). take n (drop skip ys)) read
    ∙ samples_cut (bytes_of (now id)) (16 + 2 * start) m skip n le
    ∙ ap (λ (f : Files). samples_in (bytes_of (f id)) (16 + 2 * start + 2 * skip) n) same
    ∙ ap (λ (k : ℕ). samples_in (bytes_of (was id)) k n) (omega arith)

-- ---- frames

frames_cut : (bytes : List ℕ) (l : Level) (len from m skip n : ℕ) → skip + n ≤ m
    → take n (drop skip (stored_frames bytes l len from m)) ≡ stored_frames bytes l len (from + skip) n
frames_cut bytes l len from m skip n le =
    let f : ℕ → Summary = stored_frame bytes l len in
    let size = length-take n (drop skip (stored_frames bytes l len from m)) in
    let rest = length-drop skip (stored_frames bytes l len from m) in
    let all = length_stored bytes l len from m in
    let mine = length_stored bytes l len (from + skip) n in
    same_lists (take n (drop skip (stored_frames bytes l len from m))) (stored_frames bytes l len (from + skip) n)
    (omega (arith, size, rest, all, mine)) (λ k d lt.
    get_or-take n (drop skip (stored_frames bytes l len from m)) k d (omega arith)
    ∙ get_or-drop skip (stored_frames bytes l len from m) k d
    ∙ get_or-map-range_with_len f from m (skip + k) (from + skip + k) d (omega arith) (omega arith)
    ∙ sym (get_or-map-range_with_len f (from + skip) n k (from + skip + k) d (omega arith) refl))

pub frame_page_read : (was now : Files) (l : Level) (b : BlockRef) (page start n : ℕ) (fs : List Summary) → now ≡ was
    → start ≡ 256 * page → HasHeader b.id b.len (bytes_of (was b.id))
    → level_place l b.len + 12 * (start + n) ≤ length (bytes_of (now b.id))
    → fs ≡ stored_frames (bytes_of (now b.id)) l b.len start n
    → IsFramePage was l (frame_key l b page) fs
frame_page_read was now l b page start n fs same place header whole got =
    let bytes : bytes_of (now b.id) ≡ bytes_of (was b.id) = ap (λ (f : Files). bytes_of (f b.id)) same in
    let size : length fs ≡ n = ap length got ∙ length_stored (bytes_of (now b.id)) l b.len start n in
    let there : level_place l b.len + 12 * (start + n) ≤ length (bytes_of (was b.id)) =
    subst (λ (ys : List ℕ). level_place l b.len + 12 * (start + n) ≤ length ys) bytes whole in record {
      header = header;
      whole = omega (arith, there, size, place);
      frames = got ∙ ap (λ (ys : List ℕ). stored_frames ys l b.len start n) bytes
          ∙ ap (λ (m : ℕ). stored_frames (bytes_of (was b.id)) l b.len m n) place
          ∙ ap (stored_frames (bytes_of (was b.id)) l b.len (256 * page)) (sym size);
    }

pub frame_part_read : (was now : Files) (l : Level) (id len start from skip n m : ℕ) (fs out : List Summary) → now ≡ was
    → start + skip ≡ from → skip + n ≤ m
    → fs ≡ stored_frames (bytes_of (now id)) l len start m
    → out ≡ take n (drop skip fs)
    → out ≡ stored_frames (bytes_of (was id)) l len from n
frame_part_read was now l id len start from skip n m fs out same place le read got =
    got ∙ ap (λ (ys : List Summary). take n (drop skip ys)) read
    ∙ frames_cut (bytes_of (now id)) l len start m skip n le
    ∙ ap (λ (f : Files). stored_frames (bytes_of (f id)) l len (start + skip) n) same
    ∙ ap (λ (k : ℕ). stored_frames (bytes_of (was id)) l len k n) place

-- the bytes of frames stand for what stands in the file
pub run_read : (was now : Files) (l : Level) (id len from n size : ℕ) (part : List ℕ) → now ≡ was → size ≡ 12 * n
    → part ≡ take size (drop (level_place l len + 12 * from) (bytes_of (now id)))
    → run_frames part l len from n ≡ stored_frames (bytes_of (was id)) l len from n
run_read was now l id len from n size part same wide got =
    frames_taken (bytes_of (now id)) part l len from (level_place l len + 12 * from) n size refl wide got
    ∙ ap (λ (f : Files). stored_frames (bytes_of (f id)) l len from n) same

-- a piece of the front of a list
piece : (xs : List ℕ) (size k m : ℕ) → k + m ≤ size → take m (drop k (take size xs)) ≡ take m (drop k xs)
piece xs size k m le =
    let all : size ≡ k + (size - k) = omega arith in
    ap (λ (n : ℕ). take m (drop k (take n xs))) all ∙ ap (take m) (drop-take k (size - k) xs)
    ∙ take-take m (size - k) (drop k xs) (omega arith)

-- bytes of frames that were read
pub frame_bytes_read : (was now : Files) (l : Level) (b : BlockRef) (from size : ℕ) (bytes : List ℕ) → now ≡ was
    → HasHeader b.id b.len (bytes_of (was b.id))
    → level_place l b.len + 12 * from + size ≤ length (bytes_of (now b.id))
    → bytes ≡ take size (drop (level_place l b.len + 12 * from) (bytes_of (now b.id)))
    → AreFrameBytes was l b from bytes
frame_bytes_read was now l b from size bytes same header whole got =
    let at : ℕ = level_place l b.len + 12 * from in
    let file : List ℕ = bytes_of (now b.id) in
    let is : file ≡ bytes_of (was b.id) = ap (λ (f : Files). bytes_of (f b.id)) same in
    let there : at + size ≤ length (bytes_of (was b.id)) = subst (λ (ys : List ℕ). at + size ≤ length ys) is whole in
    let front = length-take size (drop at file) in
    let rest = length-drop at file in
    let long : length bytes ≡ size = ap length got ∙ omega (arith, front, rest, whole) in record {
      header = header;
      whole = omega (arith, there, long);
      taken = got ∙ ap (λ (n : ℕ). take n (drop at file)) (sym long)
          ∙ ap (λ (ys : List ℕ). take (length bytes) (drop at ys)) is;
    }

-- one page of frames whose bytes were read
pub page_among : (files : Files) (l : Level) (b : BlockRef) (from at page n : ℕ) (bytes part : List ℕ)
    → AreFrameBytes files l b from bytes → from ≤ 256 * page → at ≡ 12 * (256 * page - from)
    → at + 12 * n ≤ length bytes → part ≡ take (at + 12 * n - at) (drop at bytes)
    → IsFramePage files l (frame_key l b page) (run_frames part l b.len (256 * page) n)
page_among files l b from at page n bytes part read order place le got =
    let file : List ℕ = bytes_of (files b.id) in
    let size : at + 12 * n - at ≡ 12 * n = omega arith in
    let there : level_place l b.len + 12 * from + at ≡ level_place l b.len + 12 * (256 * page) =
    omega (arith, place, order) in
    let taken : part ≡ take (12 * n) (drop (level_place l b.len + 12 * (256 * page)) file) =
    got ∙ ap (λ (k : ℕ). take k (drop at bytes)) size
    ∙ ap (λ (ys : List ℕ). take (12 * n) (drop at ys)) read.taken
    ∙ piece (drop (level_place l b.len + 12 * from) file) (length bytes) at (12 * n) le
    ∙ ap (take (12 * n)) (drop-drop at (level_place l b.len + 12 * from) file)
    ∙ ap (λ (k : ℕ). take (12 * n) (drop k file)) there in
    frame_page_read files files l b page (256 * page) n (run_frames part l b.len (256 * page) n) refl refl read.header
    (omega (arith, read.whole, le, place, order))
    (run_read files files l b.id b.len (256 * page) n (12 * n) part refl refl taken)

-- a block has few frames
pub frames_few : (l : Level) (len : ℕ) → len ≤ 262144 → frame_count (frame_len l) len ≤ 1024
frames_few Short len le = omega (arith, le)
frames_few Long len le = omega (arith, le)

-- how many frames are on a page
pub frame_page_len : (l : Level) (b : BlockRef) (page : ℕ)
    → page_len (frame_key l b page) ≡ min 256 (frame_count (frame_len l) b.len - 256 * page)
frame_page_len Short b page = refl
frame_page_len Long b page = refl

-- frames that a page of the cache has, and where they end in the file
pub record AreKept (files : Files) (once : Bool) (l : Level) (b : BlockRef) (from n : ℕ) (out : List Summary)
    : Type 0 where
  pub frames : out ≡ stored_frames (bytes_of (files b.id)) l b.len from n
  pub header : HasHeader b.id b.len (bytes_of (files b.id))
  pub whole : frames_end once l b (from + n) ≤ length (bytes_of (files b.id))

-- frames of one page end where the page does
pub page_last : (place count from n : ℕ) → 0 < n → from % 256 + n ≤ 256
    → place + 12 * page_end 256 count (from + n - 1) ≡ place + 12 * page_end 256 count from
page_last place count from n some one =
    let same : (from + n - 1) / 256 ≡ from / 256 = omega arith in
    ap (λ (p : ℕ). place + 12 * min count (256 * (p + 1))) same

-- frames end within the file if their page does
end_within : (once : Bool) (l : Level) (b : BlockRef) (from n size whole : ℕ) → 0 < n → from % 256 + n ≤ 256
    → size ≡ min 256 (frame_count (frame_len l) b.len - 256 * (from / 256)) → from % 256 + n ≤ size
    → level_place l b.len + 12 * (256 * (from / 256) + size) ≤ whole → frames_end once l b (from + n) ≤ whole
end_within true l b from n size whole some one is le end = omega (arith, end, le)
end_within false l b from n size whole some one is le end =
    let last = page_last (level_place l b.len) (frame_count (frame_len l) b.len) from n some one in
    omega (arith, last, end, is)

-- frames end after the header
pub end_high : (once : Bool) (l : Level) (b : BlockRef) (end : ℕ) → 16 ≤ frames_end once l b end
end_high true Short b end = omega arith
end_high true Long b end = omega arith
end_high false Short b end = omega arith
end_high false Long b end = omega arith

-- what the cache has of a page is right
pub kept_frames : (files : Files) (c : Entries) (once : Bool) (l : Level) (b : BlockRef) (from n : ℕ) (k : PageKey)
    (out : List Summary) → IsCacheOf files c → k ≡ frame_key l b (from / 256) → 0 < n → from % 256 + n ≤ 256
    → from + n ≤ frame_count (frame_len l) b.len
    → (fs : List Summary) × Contains c.frames (k, fs) × IsPage k (length fs) × (out ≡ take n (drop (from % 256) fs))
    → AreKept files once l b from n out
kept_frames files c once l b from n k out right key some one within on =
    let fs : List Summary = on.0 in
    let page : IsFramePage files l (frame_key l b (from / 256)) fs = subst (λ (j : PageKey). IsFramePage files l j fs)
    key (right.frames l (k, fs) on.1 (ap (λ (j : PageKey). j.kind) key)) in
    let size = on.2.size ∙ ap page_len key ∙ frame_page_len l b (from / 256) in
    let le : from % 256 + n ≤ length fs = omega (arith, size, one, within) in
    let bytes : List ℕ = bytes_of (files b.id) in record {
      frames = on.3 ∙ ap (λ (ys : List Summary). take n (drop (from % 256) ys)) page.frames
          ∙ frames_cut bytes l b.len (256 * (from / 256)) (length fs) (from % 256) n le
          ∙ ap (λ (m : ℕ). stored_frames bytes l b.len m n) (omega arith);
      header = page.header;
      whole = end_within once l b from n (length fs) (length bytes) some one size le page.whole;
    }

-- the end of the frames so far
pub ends_on : (was now : Files) (once : Bool) (l : Level) (b : BlockRef) (from done n m : ℕ) → now ≡ was
    → frames_end once l b (from + done + m) ≤ length (bytes_of (now b.id)) → m ≡ n
    → frames_end once l b (from + (done + n)) ≤ length (bytes_of (was b.id))
ends_on was now once l b from done n m same got size =
    let end : from + done + m ≡ from + (done + n) = omega (arith, size) in
    subst (λ (f : Files). frames_end once l b (from + (done + n)) ≤ length (bytes_of (f b.id))) same
    (subst (λ (e : ℕ). frames_end once l b e ≤ length (bytes_of (now b.id))) end got)

-- frames of one page that is read end where the page does, which has so many
pub at_page_end : {len : ℕ} (P : ℕ → Type 0) (once : Bool) (l : Level) (b : BlockRef) (from n : ℕ)
    → P (level_place l b.len + 12 * (256 * (from / 256) + len)) → once ≡ false → 0 < n → from % 256 + n ≤ 256
    → from + n ≤ frame_count (frame_len l) b.len → len ≡ min 256 (frame_count (frame_len l) b.len - 256 * (from / 256))
    → P (frames_end once l b (from + n))
at_page_end {len = len} P once l b from n is kept some one within size =
    let last = page_last (level_place l b.len) (frame_count (frame_len l) b.len) from n some one in
    let end : level_place l b.len + 12 * (256 * (from / 256) + len) ≡ frames_end false l b (from + n) =
    omega (arith, last, size, within, some) in
    subst P (end ∙ ap (λ (o : Bool). frames_end o l b (from + n)) (sym kept)) is

-- frames of a block end within its file
pub end_in_file : (once : Bool) (l : Level) (b : BlockRef) (from n : ℕ) → from + n ≤ frame_count (frame_len l) b.len
    → frames_end once l b (from + n) ≤ size_of b.len
end_in_file true l b from n le = frames_within l b.len from n le
end_in_file false l b from n le =
    let within = frames_within l b.len 0 (page_end 256 (frame_count (frame_len l) b.len) (from + n - 1)) (omega arith) in
    omega (arith, within)

-- the frames so far joined, and the next ones
pub joined_on : (was now : Files) (l : Level) (b : BlockRef) (from done n : ℕ) (s : Summary) → now ≡ was
    → s ≡ fold joined nothing (stored_frames (bytes_of (was b.id)) l b.len from done)
    → fold joined s (stored_frames (bytes_of (now b.id)) l b.len (from + done) n)
    ≡ fold joined nothing (stored_frames (bytes_of (was b.id)) l b.len from (done + n))
joined_on was now l b from done n s same is =
    let bytes : List ℕ = bytes_of (was b.id) in
    let next : List Summary = stored_frames bytes l b.len (from + done) n in
    ap (λ (f : Files). fold joined s (stored_frames (bytes_of (f b.id)) l b.len (from + done) n)) same
    ∙ ap (λ (t : Summary). fold joined t next) is
    ∙ sym (fold-append joined nothing (stored_frames bytes l b.len from done) next)
    ∙ ap (fold joined nothing) (sym (frames_more bytes l b.len from done n))
