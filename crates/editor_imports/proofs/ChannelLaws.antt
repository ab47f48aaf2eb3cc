-- Tracks for the channels of a sound, as an edit that makes blocks.
use Rattle.std.proofs.Common.{◌≡◌, refl, ap, ap₂, ◌∙◌, ℕ, zero, suc, ◌+◌, ◌*◌, ◌≤◌, nat_lt, ℤ, rules}
use Rattle.std.proofs.Common.{Option, Some, None, List, [], ◌∷◌, ◌++◌, length, map, replicate, arith}
use Rattle.std.proofs.{lemmas.Bool.eq-eqb, lemmas.List.length-map}
use Rattle.pcm_base.specs.Refusals.{import_tests, length_limit, refused_if}
use Rattle.pcm_base.specs.{declared.refusal.Refusal.Refusal, Sizes.lists_length, State.State, State.current}
use Rattle.pcm_base.specs.{Step.channels_in, Step.channels_of}
use Rattle.pcm_base.proofs.Pieces.{length-stretch}
use Rattle.envelope_view.specs.Answers.{IsUndamaged}
use Rattle.project_state.specs.{declared.track.Track.Track, Tracks.AllBelow, Tracks.AreAbove}
use Rattle.record_body.specs.Valid.{AllValidTracks}
use Rattle.editor_state.specs.Vaults.{HasChannels, IsInside}
use Rattle.editor_imports.specs.Imports.{channels_refusal, parts_from, total_of}
use Rattle.editor_state.proofs.Refusals.RefusalEffects.{IsPlain}
use Rattle.editor_state.proofs.Refusals.Tests as tests
use Rattle.editor_commits.proofs.TrackLists.{above_less}
use Rattle.pcm_base.specs.declared.refusal.Refusal.TheVariants as refusal

-- ---- the channels of a sound

pub channels_are : (sound : Option (List ℕ)) (rate : ℕ) (channels : List (List ℤ)) → HasChannels sound rate channels
    → channels_of sound ≡ channels
channels_are None rate channels has = absurd has
channels_are (Some bytes) rate channels has = ap channels_in has

pub tests_are : (sound : Option (List ℕ)) (rate : ℕ) (channels : List (List ℤ)) (st : State)
    → HasChannels sound rate channels
    → import_tests rate st sound ≡ channels_refusal (length (current st)) (map length channels)
tests_are None rate channels st has = absurd has
tests_are (Some bytes) rate channels st has = search (rules, eq-eqb, nat_lt, length-map)

pub total_lists : (channels : List (List ℤ)) → total_of (map length channels) ≡ lists_length channels
total_lists [] = refl
total_lists (c ∷ cs) = ap (λ (n : ℕ). length c + n) (total_lists cs)

-- parts of what is brought have the lengths that were asked for
pub parts_counts : (given : ℕ → ℤ) (from : ℕ) (counts : List ℕ) → map length (parts_from given from counts) ≡ counts
parts_counts given from [] = refl
parts_counts given from (n ∷ ns) =
    ap₂ (λ (k : ℕ) (ks : List ℕ). k ∷ ks) (length-stretch given from n) (parts_counts given (from + n) ns)

pub total_alike : (n frames : ℕ) → total_of (replicate n frames) ≡ n * frames
total_alike zero frames = omega arith
total_alike (suc n) frames =
    let rest = total_alike n frames in
    let more : frames + n * frames ≡ suc n * frames = omega arith in
    ap (λ (k : ℕ). frames + k) rest ∙ more

-- ---- what refuses them tells of no damaged file and of no vault

channels_have : (P : Refusal → Type 0) → P refusal.TrackLimit → ((len : ℕ) → P (refusal.LengthLimit len))
    → (tracks : ℕ) (counts : List ℕ) (why : Refusal) → channels_refusal tracks counts ≡ Some why → P why
channels_have P many over tracks counts why is =
    let wide = nat_lt 64 (tracks + length counts) in
    tests.told P (channels_refusal tracks counts) why
    (tests.either P (refused_if wide refusal.TrackLimit) (length_limit counts)
    (tests.one P wide refusal.TrackLimit many) (tests.lengths P over counts)) is

pub channels_tell : (tracks : ℕ) (counts : List ℕ) (why : Refusal) → channels_refusal tracks counts ≡ Some why
    → IsUndamaged why × IsInside why
channels_tell = channels_have (λ why. IsUndamaged why × IsInside why) (tt, tt) (λ len. (tt, tt))

pub channels_plain : (tracks : ℕ) (counts : List ℕ) (why : Refusal) → channels_refusal tracks counts ≡ Some why
    → IsPlain why
channels_plain = channels_have IsPlain tt (λ len. tt)

-- ---- tracks after others

pub rising_append : (n id : ℕ) (xs ys : List Track) → n ≤ id → AreAbove n xs → AllBelow id xs → AreAbove id ys
    → AreAbove n (xs ++ ys)
rising_append n id [] ys le a b c = above_less n id ys le c
rising_append n id (x ∷ xs) ys le a b c = (a.0, rising_append (x.id + 1) id xs ys (omega (arith, b.0)) a.1 b.1 c)

pub valid_append : (m block track : ℕ) (xs ys : List Track) → AllValidTracks m block track xs
    → AllValidTracks m block track ys → AllValidTracks m block track (xs ++ ys)
valid_append m block track [] ys a b = b
valid_append m block track (x ∷ xs) ys a b = (a.0, valid_append m block track xs ys a.1 b)
