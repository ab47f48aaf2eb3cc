-- What stays right of a cache.
use Rattle.block_cache.proofs.Common.{◌≡◌, ℕ, ◌+◌, ◌*◌, ◌≤◌, refl, sym, ap, ◌∙◌, subst, List, [], ◌∷◌, Contains, ◌⊎◌}
use Rattle.block_cache.proofs.Common.{⊎_elim, Bool, ℤ, length, Option, IsTrue, Contains-head, Contains-nil, Files}
use Rattle.block_cache.proofs.Common.{bytes_of, Kept, Ghosts, BlockRef, Summary, Level, Short, Long, HasHeader}
use Rattle.block_cache.proofs.Common.{level_place, stored_frames, samples_in, PageKey, IsSamplePage, IsFramePage}
use Rattle.block_cache.proofs.Common.{sample_key, frame_key, AllPass, Entries, IsCacheOf, IsCacheWithout, KeepsCache}
use Rattle.block_cache.proofs.Common.{SameCache, no_entries}
use Rattle.disk_model.specs.{Disk.SameElsewhere}
use Rattle.block_cache.specs.Pages.{header_key, kind_of}
use Rattle.disk_model.proofs.Frames.{tells_back}

-- ---- no entries

pub none_right : (files : Files) (pages : ℕ) → IsCacheOf files (no_entries pages)
none_right files pages = record {
  headers = λ k has. absurd (Contains-nil k has);
  samples = λ e has. absurd (Contains-nil e has);
  frames = λ l e has kind. absurd (Contains-nil e has);
}

pub none_pass : (test : ℕ → Bool) (pages : ℕ) → AllPass test (no_entries pages)
none_pass test pages = record {
  headers = λ k has. absurd (Contains-nil k has);
  samples = λ e has. absurd (Contains-nil e has);
  frames = λ e has. absurd (Contains-nil e has);
}

-- ---- the same entries

pub same_none : (c : Entries) → SameCache c c
same_none c = record {
  headers = λ k. (λ h. h, λ h. h);
  samples = λ e. (λ h. h, λ h. h);
  frames = λ e. (λ h. h, λ h. h);
  pages = refl;
}

pub same_turn : (a b c : Entries) → SameCache a b → SameCache b c → SameCache a c
same_turn a b c f g = record {
  headers = λ k. (λ h. (f.headers k).0 ((g.headers k).0 h), λ h. (g.headers k).1 ((f.headers k).1 h));
  samples = λ e. (λ h. (f.samples e).0 ((g.samples e).0 h), λ h. (g.samples e).1 ((f.samples e).1 h));
  frames = λ e. (λ h. (f.frames e).0 ((g.frames e).0 h), λ h. (g.frames e).1 ((f.frames e).1 h));
  pages = g.pages ∙ f.pages;
}

pub right_same : (files : Files) (old new : Entries) → SameCache old new → IsCacheOf files old → IsCacheOf files new
right_same files old new same right = record {
  headers = λ k has. right.headers k ((same.headers k).0 has);
  samples = λ e has. right.samples e ((same.samples e).0 has);
  frames = λ l e has kind. right.frames l e ((same.frames e).0 has) kind;
}

pass_same : (test : ℕ → Bool) (old new : Entries) → SameCache old new → AllPass test old → AllPass test new
pass_same test old new same pass = record {
  headers = λ k has. pass.headers k ((same.headers k).0 has);
  samples = λ e has. pass.samples e ((same.samples e).0 has);
  frames = λ e has. pass.frames e ((same.frames e).0 has);
}

pub keeps_same : {tells : Bool} {files : Files} {bs : List BlockRef} {old new : Entries} → SameCache old new
    → KeepsCache tells files bs old new
keeps_same {files = files} {old = old} {new = new} same = record {
  right = λ told. right_same files old new same;
  ids = λ test among. pass_same test old new same;
  pages = same.pages;
}

-- ---- one read after another

pub keeps_turn : (tells : Bool) (files : Files) (bs : List BlockRef) (a b c : Entries) → KeepsCache tells files bs a b
    → KeepsCache tells files bs b c → KeepsCache tells files bs a c
keeps_turn tells files bs a b c f g = record {
  right = λ told right. g.right told (f.right told right);
  ids = λ test among pass. g.ids test among (f.ids test among pass);
  pages = g.pages ∙ f.pages;
}

-- the disk of before a read that changed nothing
pub keeps_before : {D : Type 0} {disk : Ghosts D} (was now : D) (bs : List BlockRef) (a b : Entries) → Kept disk was now
    → KeepsCache (disk.tells now) (disk.reads now) bs a b → KeepsCache (disk.tells was) (disk.reads was) bs a b
keeps_before {disk = disk} was now bs a b kept f =
    subst (λ (t : Bool). KeepsCache t (disk.reads was) bs a b) kept.same_tells
    (subst (λ (files : Files). KeepsCache (disk.tells now) files bs a b) kept.same_reads f)

-- a read, and then another on the disk that it left
pub keeps_then : {D : Type 0} {disk : Ghosts D} (was now : D) (bs : List BlockRef) (a b c : Entries) → Kept disk was now
    → KeepsCache (disk.tells was) (disk.reads was) bs a b → KeepsCache (disk.tells now) (disk.reads now) bs b c
    → KeepsCache (disk.tells was) (disk.reads was) bs a c
keeps_then {disk = disk} was now bs a b c kept f g =
    keeps_turn (disk.tells was) (disk.reads was) bs a b c f (keeps_before was now bs b c kept g)

pub right_before : {D : Type 0} {disk : Ghosts D} (was now : D) (c : Entries) → Kept disk was now
    → IsCacheOf (disk.reads was) c → IsCacheOf (disk.reads now) c
right_before {disk = disk} was now c kept right =
    subst (λ (files : Files). IsCacheOf files c) (sym kept.same_reads) right

-- reads of fewer blocks
pub keeps_more : (tells : Bool) (files : Files) (bs more : List BlockRef) (a b : Entries)
    → ((b : BlockRef) → Contains bs b → Contains more b) → KeepsCache tells files bs a b
    → KeepsCache tells files more a b
keeps_more tells files bs more a b among f = record {
  right = f.right;
  ids = λ test all. f.ids test (λ b has. all b (among b has));
  pages = f.pages;
}

-- what was right before reads is right after them
pub cached_on : {D : Type 0} {disk : Ghosts D} (was now : D) (bs : List BlockRef) (a b : Entries) → Kept disk was now
    → KeepsCache (disk.tells was) (disk.reads was) bs a b → (IsTrue (disk.tells was) → IsCacheOf (disk.reads was) a)
    → IsTrue (disk.tells now) → IsCacheOf (disk.reads now) b
cached_on {disk = disk} was now bs a b kept f cached still =
    let told = tells_back kept still in
    right_before was now b kept (f.right told (cached told))

-- ---- one entry more

pub keeps_header : (tells : Bool) (files : Files) (b : BlockRef) (old new : Entries)
    → (IsTrue tells → HasHeader b.id b.len (bytes_of (files b.id)))
    → ((k : PageKey) → Contains new.headers k → Contains old.headers k ⊎ (k ≡ header_key b))
    → new.samples ≡ old.samples → new.frames ≡ old.frames → new.pages ≡ old.pages
    → KeepsCache tells files (b ∷ []) old new
keeps_header tells files b old new has headers samples frames pages = record {
  right = λ told right. record {
    headers = λ k there. ⊎_elim (right.headers k)
        (λ (is : k ≡ header_key b). subst (λ (j : PageKey). HasHeader j.id j.len (bytes_of (files j.id))) (sym is)
        (has told))
        (headers k there);
    samples = subst (λ es. (e : PageKey × List ℤ) → Contains es e
        → IsSamplePage files e.0 e.1) (sym samples) right.samples;
    frames = subst (λ es. (l : Level) (e : PageKey × List Summary) → Contains es e → e.0.kind ≡ kind_of l
        → IsFramePage files l e.0 e.1) (sym frames) right.frames;
  };
  ids = λ test among pass. record {
    headers = λ k there. ⊎_elim (pass.headers k)
        (λ (is : k ≡ header_key b). subst (λ (j : PageKey). IsTrue (test j.id)) (sym is) (among b (Contains-head b [])))
        (headers k there);
    samples = subst (λ es. (e : PageKey × List ℤ) → Contains es e → IsTrue (test e.0.id)) (sym samples) pass.samples;
    frames = subst (λ es. (e : PageKey × List Summary) → Contains es e → IsTrue (test e.0.id)) (sym frames) pass.frames;
  };
  pages = pages;
}

pub keeps_samples : (tells : Bool) (files : Files) (b : BlockRef) (page : ℕ) (xs : List ℤ) (old new : Entries)
    → (IsTrue tells → IsSamplePage files (sample_key b page) xs)
    → ((e : PageKey × List ℤ) → Contains new.samples e → Contains old.samples e ⊎ ((e.0 ≡ sample_key b page)
    × (e.1 ≡ xs)))
    → new.headers ≡ old.headers → new.frames ≡ old.frames → new.pages ≡ old.pages
    → KeepsCache tells files (b ∷ []) old new
keeps_samples tells files b page xs old new is samples headers frames pages = record {
  right = λ told right. record {
    headers = subst (λ ks. (k : PageKey) → Contains ks k → HasHeader k.id k.len (bytes_of (files k.id))) (sym headers)
        right.headers;
    samples = λ e there. ⊎_elim (right.samples e)
        (λ (put : (e.0 ≡ sample_key b page) × (e.1 ≡ xs)). subst (λ (k : PageKey). IsSamplePage files k e.1) (sym put.0)
        (subst (λ (ys : List ℤ). IsSamplePage files (sample_key b page) ys) (sym put.1) (is told)))
        (samples e there);
    frames = subst (λ es. (l : Level) (e : PageKey × List Summary) → Contains es e → e.0.kind ≡ kind_of l
        → IsFramePage files l e.0 e.1) (sym frames) right.frames;
  };
  ids = λ test among pass. record {
    headers = subst (λ ks. (k : PageKey) → Contains ks k → IsTrue (test k.id)) (sym headers) pass.headers;
    samples = λ e there. ⊎_elim (pass.samples e)
        (λ (put : (e.0 ≡ sample_key b page) × (e.1 ≡ xs)). subst (λ (k : PageKey). IsTrue (test k.id)) (sym put.0)
        (among b (Contains-head b [])))
        (samples e there);
    frames = subst (λ es. (e : PageKey × List Summary) → Contains es e → IsTrue (test e.0.id)) (sym frames) pass.frames;
  };
  pages = pages;
}

one_level : (k l : Level) → kind_of k ≡ kind_of l → k ≡ l
one_level Short Short e = refl
one_level Short Long e = absurd cc
one_level Long Short e = absurd cc
one_level Long Long e = refl

pub keeps_frames : (tells : Bool) (files : Files) (level : Level) (b : BlockRef) (page : ℕ) (fs : List Summary)
    (old new : Entries)
    → (IsTrue tells → IsFramePage files level (frame_key level b page) fs)
    → ((e : PageKey × List Summary) → Contains new.frames e → Contains old.frames e
    ⊎ ((e.0 ≡ frame_key level b page) × (e.1 ≡ fs)))
    → new.headers ≡ old.headers → new.samples ≡ old.samples → new.pages ≡ old.pages
    → KeepsCache tells files (b ∷ []) old new
keeps_frames tells files level b page fs old new is frames headers samples pages = record {
  right = λ told right. record {
    headers = subst (λ ks. (k : PageKey) → Contains ks k → HasHeader k.id k.len (bytes_of (files k.id))) (sym headers)
        right.headers;
    samples = subst (λ es. (e : PageKey × List ℤ) → Contains es e
        → IsSamplePage files e.0 e.1) (sym samples) right.samples;
    frames = λ l e there kind. ⊎_elim (λ was. right.frames l e was kind)
        (λ (put : (e.0 ≡ frame_key level b page) × (e.1 ≡ fs)).
        subst (λ (m : Level). IsFramePage files m e.0 e.1)
        (one_level level l (sym (ap (λ (k : PageKey). k.kind) put.0) ∙ kind))
        (subst (λ (k : PageKey). IsFramePage files level k e.1) (sym put.0)
        (subst (λ (ys : List Summary). IsFramePage files level (frame_key level b page) ys) (sym put.1) (is told))))
        (frames e there);
  };
  ids = λ test among pass. record {
    headers = subst (λ ks. (k : PageKey) → Contains ks k → IsTrue (test k.id)) (sym headers) pass.headers;
    samples = subst (λ es. (e : PageKey × List ℤ) → Contains es e → IsTrue (test e.0.id)) (sym samples) pass.samples;
    frames = λ e there. ⊎_elim (pass.frames e)
        (λ (put : (e.0 ≡ frame_key level b page) × (e.1 ≡ fs)). subst (λ (k : PageKey). IsTrue (test k.id)) (sym
        put.0) (among b (Contains-head b [])))
        (frames e there);
  };
  pages = pages;
}

-- ---- where files change

-- the files of all entries are as they were
pub right_elsewhere : (old new : Files) (test : ℕ → Bool) (c : Entries) → AllPass test c
    → ((id : ℕ) → IsTrue (test id) → new id ≡ old id) → IsCacheOf old c → IsCacheOf new c
right_elsewhere old new test c pass same right = record {
  headers = λ k has. subst (λ (file : Option (List ℕ)). HasHeader k.id k.len (bytes_of file)) (sym (same k.id
      (pass.headers k has))) (right.headers k has);
  samples = λ e has. let page = right.samples e has in let file = ap bytes_of (same e.0.id (pass.samples e has)) in
      record {
        header = subst (HasHeader e.0.id e.0.len) (sym file) page.header;
        whole = subst (λ (bytes : List ℕ). 16 + 2 * (4096 * e.0.page + length e.1) ≤ length bytes) (sym file) page.whole;
        samples = page.samples ∙ ap (λ (bytes : List ℕ). samples_in bytes (16 + 2 * (4096 * e.0.page)) (length e.1)) (sym
            file);
      };
  frames = λ l e has kind. let page = right.frames l e has kind in let file = ap bytes_of (same e.0.id (pass.frames e
      has)) in record {
        header = subst (HasHeader e.0.id e.0.len) (sym file) page.header;
        whole = subst (λ (bytes : List ℕ). level_place l e.0.len + 12 * (256 * e.0.page + length e.1) ≤ length bytes) (sym
            file) page.whole;
        frames = page.frames ∙ ap (λ (bytes : List ℕ). stored_frames bytes l e.0.len (256 * e.0.page) (length e.1)) (sym
            file);
      };
}

-- without the entries of one block its file may change
pub right_without : (old new : Files) (id : ℕ) (a b : Entries) → IsCacheWithout id a b → SameElsewhere id old new
    → IsCacheOf old a → IsCacheOf new b
right_without old new id a b without same right = record {
  headers = λ k has. let was = (without.headers k).0 has in
      subst (λ (file : Option (List ℕ)). HasHeader k.id k.len (bytes_of file)) (sym (same k.id was.1)) (right.headers
      k was.0);
  samples = λ e has. let was = (without.samples e).0 has in let page = right.samples e was.0 in
      let file = ap bytes_of (same e.0.id was.1) in record {
        header = subst (HasHeader e.0.id e.0.len) (sym file) page.header;
        whole = subst (λ (bytes : List ℕ). 16 + 2 * (4096 * e.0.page + length e.1) ≤ length bytes) (sym file)
            page.whole;
        samples = page.samples ∙ ap (λ (bytes : List ℕ). samples_in bytes (16 + 2 * (4096 * e.0.page)) (length e.1))
            (sym file);
      };
  frames = λ l e has kind. let was = (without.frames e).0 has in let page = right.frames l e was.0 kind in
      let file = ap bytes_of (same e.0.id was.1) in record {
        header = subst (HasHeader e.0.id e.0.len) (sym file) page.header;
        whole = subst (λ (bytes : List ℕ). level_place l e.0.len + 12 * (256 * e.0.page + length e.1) ≤ length bytes)
            (sym file) page.whole;
        frames = page.frames ∙ ap (λ (bytes : List ℕ). stored_frames bytes l e.0.len (256 * e.0.page) (length e.1))
            (sym file);
      };
}
