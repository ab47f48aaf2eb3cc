-- That a cache is right of files has one proof at most, as a fact of a type must.
use Rattle.std.specs.Prelude.{refl, ℕ, Bool, IsTrue, ℤ, List}
use Rattle.std.specs.Coded.{Coded, Coded-set, code_by, coded×, coded_list, coded_option, coded_ℕ, coded_ℤ, le_prop}
use Rattle.std.specs.Coded.{×_prop}
use Rattle.disk_model.specs.Disk.{Files, bytes_of}
use Rattle.peak_summary.specs.declared.stretch.Summary.{Summary}
use Rattle.sample_block.specs.declared.damage.Damaged.{Damaged}
use Rattle.block_store.specs.{declared.frames.Level.Level, Reads.HasHeader}
use Rattle.block_cache.specs.{declared.keys.PageKey.PageKey, Pages.IsFramePage, Pages.IsSamplePage, Caches.Entries}
use Rattle.block_cache.specs.{Caches.IsCacheOf}

-- a field that differs, and a summary, as the tuples of their fields
damaged_coded : Coded Damaged
damaged_coded = code_by (ℕ × (ℕ × ℕ)) (coded× coded_ℕ (coded× coded_ℕ coded_ℕ)) (λ d. (d.at, (d.want, d.have)))
    (λ p. record { at = p.0; want = p.1.0; have = p.1.1 }) (λ _. refl)

summary_coded : Coded Summary
summary_coded = code_by (ℤ × (ℤ × (ℕ × ℕ))) (coded× coded_ℤ (coded× coded_ℤ (coded× coded_ℕ coded_ℕ)))
    (λ s. (s.min, (s.max, (s.squares, s.count))))
    (λ p. record { min = p.0; max = p.1.0; squares = p.1.1.0; count = p.1.1.1 }) (λ _. refl)

header_prop : (id len : ℕ) (bytes : List ℕ) → IsProp (HasHeader id len bytes)
header_prop id len bytes = ×_prop le_prop (Coded-set (coded_option damaged_coded) _ _)

sample_page_prop : (files : Files) (k : PageKey) (xs : List ℤ) → IsProp (IsSamplePage files k xs)
sample_page_prop files k xs x y = λ i. record {
  header = header_prop k.id k.len (bytes_of (files k.id)) x.header y.header i;
  whole = le_prop x.whole y.whole i;
  samples = Coded-set (coded_list coded_ℤ) _ _ x.samples y.samples i;
}

frame_page_prop : (files : Files) (l : Level) (k : PageKey) (fs : List Summary) → IsProp (IsFramePage files l k fs)
frame_page_prop files l k fs x y = λ i. record {
  header = header_prop k.id k.len (bytes_of (files k.id)) x.header y.header i;
  whole = le_prop x.whole y.whole i;
  frames = Coded-set (coded_list summary_coded) _ _ x.frames y.frames i;
}

cache_prop : (files : Files) (c : Entries) → IsProp (IsCacheOf files c)
cache_prop files c x y = λ i. record {
  headers = λ k has. header_prop k.id k.len (bytes_of (files k.id)) (x.headers k has) (y.headers k has) i;
  samples = λ e has. sample_page_prop files e.0 e.1 (x.samples e has) (y.samples e has) i;
  frames = λ l e has kind. frame_page_prop files l e.0 e.1 (x.frames l e has kind) (y.frames l e has kind) i;
}

pub right_prop : (tells : Bool) (files : Files) (c : Entries) → IsProp (IsTrue tells → IsCacheOf files c)
right_prop tells files c x y = λ i. λ told. cache_prop files c (x told) (y told) i
