-- What is known of the numbers of samples of channels that no test refuses.
use Rattle.std.proofs.Common.{◌≡◌, refl, ap, ◌∙◌, subst, ℕ, zero, suc, ◌+◌, ◌*◌, ◌^◌, ◌≤◌, ◌<◌, nat_lt, rules}
use Rattle.std.proofs.Common.{None, List, [], ◌∷◌, ◌++◌, length, take, length-append, slice_index_or, arith}
use Rattle.std.proofs.lemmas.Bool.{cases_lt, lt-ltb}
use Rattle.std.proofs.{lemmas.Option.none-some, lemmas.List.length-take, Math.Nat.div-le_self}
use Rattle.pcm_base.specs.declared.refusal.Refusal.{Refusal}
use Rattle.pcm_base.specs.Refusals.{length_limit, refused_if}
use Rattle.project_state.specs.{declared.track.Track.Track, Tracks.AllBelow}
use Rattle.record_body.specs.Saved.{current_tracks}
use Rattle.editor_state.specs.{Core.Core, declared.planned.Planned.Planned}
use Rattle.editor_imports.specs.declared.growing.Growing.{Growing}
use Rattle.editor_imports.specs.Imports.{AreGrown, IsChannelsPlan, channels_refusal, total_of}
use Rattle.project_state.proofs.Points.{AllBelow-higher}
use Rattle.editor_commits.proofs.TrackLists.{given_below}
use Rattle.model_laws.proofs.OwnTests.{both_passed}
use Rattle.pcm_base.specs.declared.refusal.Refusal.TheVariants as refusal

-- ---- tests

not_refused : (m n : ℕ) (why : Refusal) → refused_if (nat_lt m n) why ≡ None → n ≤ m
not_refused m n why e = search (rules, none-some, lt-ltb, cases_lt)

pub channels_pass : (tracks : ℕ) (counts : List ℕ) → channels_refusal tracks counts ≡ None
    → (tracks + length counts ≤ 64) × (length_limit counts ≡ None)
channels_pass tracks counts e = search (rules, both_passed, not_refused)

pub short_at : (counts : List ℕ) (i : ℕ) → length_limit counts ≡ None → i < length counts
    → length_limit (slice_index_or counts i 0 ∷ []) ≡ None
short_at [] i e less = absurd (omega (arith, less))
short_at (n ∷ ns) zero e less = search (rules, both_passed)
short_at (n ∷ ns) (suc i) e less =
    short_at ns i (both_passed (refused_if (nat_lt (2 ^ 32) n) (refusal.LengthLimit n)) (length_limit ns) e).1
    (omega (arith, less))

short_is : (n : ℕ) → length_limit (n ∷ []) ≡ None → n ≤ 2 ^ 32
short_is n e = not_refused (2 ^ 32) n (refusal.LengthLimit n)
    (both_passed (refused_if (nat_lt (2 ^ 32) n) (refusal.LengthLimit n)) None e).0

total_short : (counts : List ℕ) (i : ℕ) → length_limit counts ≡ None
    → total_of (take i counts) ≤ length counts * 4294967296
total_short [] zero e = omega arith
total_short [] (suc i) e = omega arith
total_short (n ∷ ns) zero e = omega arith
total_short (n ∷ ns) (suc i) e =
    let both = both_passed (refused_if (nat_lt (2 ^ 32) n) (refusal.LengthLimit n)) (length_limit ns) e in
    omega (arith, not_refused (2 ^ 32) n (refusal.LengthLimit n) both.0, total_short ns i both.1)

pub take_more : (counts : List ℕ) (i : ℕ) → i < length counts
    → take (i + 1) counts ≡ take i counts ++ slice_index_or counts i 0 ∷ []
take_more [] i less = absurd (omega (arith, less))
take_more (n ∷ ns) zero less = refl
take_more (n ∷ ns) (suc i) less =
    let next : suc i + 1 ≡ suc (i + 1) = omega arith in
    ap (λ (k : ℕ). take k (n ∷ ns)) next ∙ ap (λ (z : List ℕ). n ∷ z) (take_more ns i (omega (arith, less)))

-- ---- ids above those of tracks

below_append : (id : ℕ) (xs ys : List Track) → AllBelow id xs → AllBelow id ys → AllBelow id (xs ++ ys)
below_append id [] ys a b = b
below_append id (x ∷ xs) ys a b = (a.0, below_append id xs ys a.1 b)

-- ---- what grows

module _ {D : Type 0} (s : Core D) (counts : List ℕ) (i : ℕ) (g : Growing) (was : AreGrown s (take i counts) g)
    (pass : length_limit counts ≡ None) where
  open s use {block_size as m, next_block as next, next_track as id}

  abbrev old : List Track
  old = current_tracks s.history

  pub brought_few : i < length counts → length counts ≤ 64 → g.brought + slice_index_or counts i 0 ≤ 2 ^ 62
  brought_few less few = omega (
    arith,
    was.brought,
    total_short counts i pass,
    short_is (slice_index_or counts i 0) (short_at counts i pass less),
    few,
  )

  pub grown_below : (n : ℕ) → n ≡ id + i → i ≤ length counts → AllBelow id old → AllBelow n g.point
  grown_below n same less below = search (rules, length-take, AllBelow-higher, given_below, below_append)

  -- the next number is no greater than it may be
  pub number_few : s.next_layout ≤ 2 ^ 62 → i ≤ length counts → length counts ≤ 64 → g.number < 2 ^ 63
  number_few most less few = omega (arith, most, less, few, was.number_is, length-take i counts)

  -- there is a place for a track more
  pub place_left : i < length counts → length old + length counts ≤ 64 → length g.point < 64
  place_left less few = search (rules, length-take, length-append)

  -- the next id is no greater than it may be, and a plan of all channels needs
  pub ids_count : next ≤ 2 ^ 62 → length counts ≤ 64 → g.next < 2 ^ 63
  ids_count most few = search (rules, length-take, div-le_self, total_short)

pub all_grown : {D : Type 0} (s : Core D) (counts : List ℕ) (i : ℕ) (g : Growing) (p : Planned)
    → AreGrown s (take i counts) g → take i counts ≡ counts
    → p.point ≡ g.point → p.makes ≡ g.makes.items → p.next ≡ g.next → p.tracks ≡ length counts
    → p.layouts ≡ length counts → p.kept ≡ record { front = 0; back = 0 } → IsChannelsPlan s counts p
all_grown s counts i g p grown all point makes at tracks layouts kept = record {
  grown = g;
  are = subst (λ (ns : List ℕ). AreGrown s ns g) all grown;
  point_is = point;
  makes_is = makes;
  next_is = at;
  tracks_is = tracks;
  layouts_is = layouts;
  kept_is = kept;
}
