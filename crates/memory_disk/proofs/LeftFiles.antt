-- What the draws leave of a file, call by call, and that it is an image.
use Rattle.memory_disk.proofs.Common.{Kind, Write, Sync, Remove, step_by}
use Rattle.memory_disk.proofs.Common.{◌≡◌, ◌≢◌, ◌⊎◌, inl, inr, ⊎_elim, ℕ, ◌+◌, ◌-◌, ◌≤◌, ◌<◌, max, Bool, true, false}
use Rattle.memory_disk.proofs.Common.{Option, Some, None, List, [], ◌∷◌, length, replicate, get_or, refl, sym, ◌∙◌}
use Rattle.memory_disk.proofs.Common.{ap, subst, arith, length-append, cases_eq, cases_lt, get_or-take}
use Rattle.memory_disk.proofs.Common.{length-replicate, length-take-le, nat_tests, same_number_lists, bytes_of, written}
use Rattle.memory_disk.proofs.Common.{Torn, TornFile, Step, Wrote, Synced, Removed, IsImage, IsFileImage, reads_of}
use Rattle.memory_disk.proofs.Common.{reads_written, reads_removed, Left}
use Rattle.memory_disk.proofs.Common.{after_write, after_removal, left_of, image_of, IsLeft}
use Rattle.memory_disk.specs.Histories.{same_eq, length-written, reads_is_image}
use Rattle.memory_disk.specs.Images.{takes, next_state, grown, laid, left_by_write, left_by_removal, state_at}
use Rattle.memory_disk.specs.Images.{synced_of}
use Rattle.memory_disk.proofs.{Following.torn_file_none, Noted.step_other}
use Rattle.memory_disk.proofs.Images.{image_from_files, image_to_file, torn_by_index}
use Rattle.memory_disk.proofs.Windows.{get_or-zeros, written_before, written_inside, written_after}

-- one call more, on this file
pub wrote_here : (choice at : ℕ) (bytes : List ℕ) (h : List Step) (f start : ℕ)
    → left_of choice f (Wrote f at bytes ∷ h) start ≡ after_write choice at bytes (left_of choice f h start)
wrote_here choice at bytes h f start = rw (same_eq f) refl

pub synced_here : (choice : ℕ) (h : List Step) (f start : ℕ)
    → left_of choice f (Synced f ∷ h) start ≡ record { content = reads_of h f; state = start }
synced_here choice h f start = rw (same_eq f) refl

pub removed_here : (choice : ℕ) (h : List Step) (f start : ℕ)
    → left_of choice f (Removed f ∷ h) start ≡ after_removal choice (left_of choice f h start)
removed_here choice h f start = rw (same_eq f) refl

-- or on another
pub left_other : (k : Kind) (choice file at : ℕ) (bytes : List ℕ) (h : List Step) (f start : ℕ) → f ≢ file
    → left_of choice f (step_by k file at bytes ∷ h) start ≡ left_of choice f h start
left_other Write choice file at bytes h f start ne = grind (arith, nat_tests, ne)
left_other Sync choice file at bytes h f start ne = grind (arith, nat_tests, ne)
left_other Remove choice file at bytes h f start ne = grind (arith, nat_tests, ne)

content_other : (k : Kind) (choice file at : ℕ) (bytes : List ℕ) (h : List Step) (f start : ℕ) → f ≢ file
    → (left_of choice f (step_by k file at bytes ∷ h) start).content ≡ (left_of choice f h start).content
content_other k choice file at bytes h f start ne =
    ap (λ (left : Left). left.content) (left_other k choice file at bytes h f start ne)

-- how long a part of a write makes a file
pub length-grown : (b : Bool) (old : List ℕ) (end : ℕ)
    → (length old ≤ length (grown b old end)) × (length (grown b old end) ≤ max (length old) end)
length-grown true old end = omega (arith, length-append {A = ℕ}, length-replicate {A = ℕ})
length-grown false old end = omega arith

pub get_or-grown : (b : Bool) (old : List ℕ) (end i : ℕ) → get_or (grown b old end) i 0 ≡ get_or old i 0
get_or-grown true old end i = get_or-zeros old (end - length old) i
get_or-grown false old end i = refl

pub length-laid : (b : Bool) (old : List ℕ) (at : ℕ) (bytes : List ℕ) → length (laid b old at bytes) ≡ length old
length-laid true old at bytes =
    length-take-le (length old) (written old at bytes) (omega (arith, length-written old at bytes))
length-laid false old at bytes = refl

pub laid_before : (b : Bool) (old : List ℕ) (at : ℕ) (bytes : List ℕ) (i : ℕ) → i < length old → i < at
    → get_or (laid b old at bytes) i 0 ≡ get_or old i 0
laid_before true old at bytes i here lt =
    get_or-take (length old) (written old at bytes) i 0 here ∙ written_before old at bytes i lt
laid_before false old at bytes i here lt = refl

pub laid_after : (b : Bool) (old : List ℕ) (at : ℕ) (bytes : List ℕ) (i : ℕ) → i < length old → at + length bytes ≤ i
    → get_or (laid b old at bytes) i 0 ≡ get_or old i 0
laid_after true old at bytes i here le =
    get_or-take (length old) (written old at bytes) i 0 here ∙ written_after old at bytes i le
laid_after false old at bytes i here le = refl

-- a part of a write is a torn write
torn_part : (b l : Bool) (old : List ℕ) (at : ℕ) (bytes : List ℕ)
    → Torn at (length bytes) old (laid b (grown l old (at + length bytes)) at bytes)
torn_part b l old at bytes =
    let end = at + length bytes in
    let long = grown l old end in
    let size = length-laid b long at bytes in
    let bounds = length-grown l old end in
    torn_by_index at (length bytes) old (laid b long at bytes) (omega (arith, size, bounds.0))
    (omega (arith, size, bounds.1))
    (λ i here lt. laid_before b long at bytes i (omega (arith, bounds.0)) lt ∙ get_or-grown l old end i)
    (λ i here le. laid_after b long at bytes i (omega (arith, bounds.0)) le ∙ get_or-grown l old end i)

torn_made : (old : Option (List ℕ)) (new : List ℕ) (at n : ℕ) → Torn at n (bytes_of old) new
    → TornFile at n old (Some new)
torn_made None new at n torn = torn
torn_made (Some old) new at n torn = torn

left_torn : (b l : Bool) (old : Option (List ℕ)) (at : ℕ) (bytes : List ℕ)
    → TornFile at (length bytes) old (left_by_write b l old at bytes)
left_torn true l old at bytes = torn_made old _ at (length bytes) (torn_part true l (bytes_of old) at bytes)
left_torn false true old at bytes = torn_made old _ at (length bytes) (torn_part false true (bytes_of old) at bytes)
left_torn false false old at bytes = torn_file_none at (length bytes) old

left_gone : (b : Bool) (old : Option (List ℕ)) → (left_by_removal b old ≡ old) ⊎ (left_by_removal b old ≡ None)
left_gone true old = inr refl
left_gone false old = inl refl

-- what is left of a file is an image of it
pub left_is_image : (choice f start : ℕ) (h : List Step) → IsFileImage f h (left_of choice f h start).content
left_is_image choice f start [] = refl
left_is_image choice f start (Wrote file at bytes ∷ h) =
    let was = left_of choice f h start in (
      was.content,
      left_is_image choice f start h,
      (λ same. rw (← same, same_eq f) (left_torn (takes choice (next_state was.state))
          (takes choice (next_state (next_state was.state))) was.content at bytes)),
      content_other Write choice file at bytes h f start,
    )
left_is_image choice f start (Synced file ∷ h) = ⊎_elim
    (λ same. rw (← same, same_eq f) (image_to_file h (reads_of h) f (reads_is_image h), λ _. refl))
    (λ ne. (
      subst (λ (x : Option (List ℕ)). IsFileImage f h x) (sym (content_other Sync choice file 0 [] h f start ne))
          (left_is_image choice f start h),
      (λ same. absurd (ne same)),
    ))
    (cases_eq f file)
left_is_image choice f start (Removed file ∷ h) =
    let was = left_of choice f h start in (
      was.content,
      left_is_image choice f start h,
      (λ same. rw (← same, same_eq f) (left_gone (takes choice (next_state was.state)) was.content)),
      content_other Remove choice file 0 [] h f start,
    )

pub image_is_image : (choice : ℕ) (h : List Step) → IsImage h (image_of choice h)
image_is_image choice h = image_from_files h (image_of choice h) (λ f. left_is_image choice f (state_at choice h f) h)

-- Choice 0 takes all.
pub takes_all : (state : ℕ) → takes 0 state ≡ true
unfolding takes
takes_all state = refl

-- a write whose bytes and length are taken is the write
all_written : (old : List ℕ) (at : ℕ) (bytes : List ℕ)
    → laid true (grown true old (at + length bytes)) at bytes ≡ written old at bytes
all_written old at bytes =
    let end = at + length bytes in
    let long = grown true old end in
    let size = length-append old (replicate (end - length old) 0) in
    let more = length-replicate {A = ℕ} (end - length old) 0 in
    let laid_size = length-laid true long at bytes in
    let written_size = length-written old at bytes in
    same_number_lists (laid true long at bytes) (written old at bytes)
    (omega (arith, laid_size, written_size, size, more)) (λ i lt.
    get_or-take (length long) (written long at bytes) i 0 (omega (arith, laid_size))
    ∙ ⊎_elim
    (λ less. written_before long at bytes i less ∙ get_or-grown true old end i
    ∙ sym (written_before old at bytes i less))
    (λ from. ⊎_elim
    (λ within. written_inside long at bytes i from within ∙ sym (written_inside old at bytes i from within))
    (λ past. written_after long at bytes i past ∙ get_or-grown true old end i ∙ sym (written_after old at bytes i past))
    (cases_lt i end))
    (cases_lt i at))

-- What the steps leave of a file by these contents, where each draw takes its part, or none does.
record IsLeftBy (taken : Bool) (means : List Step → ℕ → Option (List ℕ)) : Type 0 where
  none : (f : ℕ) → means [] f ≡ None
  wrote : (f at : ℕ) (bytes : List ℕ) (h : List Step)
      → left_by_write taken taken (means h f) at bytes ≡ means (Wrote f at bytes ∷ h) f
  synced : (f : ℕ) (h : List Step) → reads_of h f ≡ means (Synced f ∷ h) f
  removed : (f : ℕ) (h : List Step) → left_by_removal taken (means h f) ≡ means (Removed f ∷ h) f
  other : (k : Kind) (file at : ℕ) (bytes : List ℕ) (h : List Step) (f : ℕ) → f ≢ file
      → means (step_by k file at bytes ∷ h) f ≡ means h f

module _ (choice : ℕ) (taken : Bool) (means : List Step → ℕ → Option (List ℕ)) (by : IsLeftBy taken means)
    (draws : (state : ℕ) → takes choice state ≡ taken) where
  left_means : (f start : ℕ) (h : List Step) → (left_of choice f h start).content ≡ means h f
  left_means f start [] = sym (by.none f)
  left_means f start (Wrote file at bytes ∷ h) =
      let next = next_state (left_of choice f h start).state in
      ⊎_elim
      (λ same. rw (← same, same_eq f) ((λ i. left_by_write (draws next i) (draws (next_state next) i)
      (left_means f start h i) at bytes) ∙ by.wrote f at bytes h))
      (λ ne. content_other Write choice file at bytes h f start ne ∙ left_means f start h
      ∙ sym (by.other Write file at bytes h f ne))
      (cases_eq f file)
  left_means f start (Synced file ∷ h) = ⊎_elim
      (λ same. rw (← same, same_eq f) (by.synced f h))
      (λ ne. content_other Sync choice file 0 [] h f start ne ∙ left_means f start h
      ∙ sym (by.other Sync file 0 [] h f ne))
      (cases_eq f file)
  left_means f start (Removed file ∷ h) =
      let next = next_state (left_of choice f h start).state in
      ⊎_elim
      (λ same. rw (← same, same_eq f) ((λ i. left_by_removal (draws next i) (left_means f start h i)) ∙ by.removed f h))
      (λ ne. content_other Remove choice file 0 [] h f start ne ∙ left_means f start h
      ∙ sym (by.other Remove file 0 [] h f ne))
      (cases_eq f file)

all_left : IsLeftBy true reads_of
all_left = record {
  none = λ f. refl;
  wrote = λ f at bytes h. ap (λ (x : List ℕ). Some x) (all_written (bytes_of (reads_of h f)) at bytes)
      ∙ sym (reads_written f at bytes h);
  synced = λ f h. refl;
  removed = λ f h. sym (reads_removed f h);
  other = step_other;
}

pub image_0 : (h : List Step) → image_of 0 h ≡ reads_of h
image_0 h = λ i f. left_means 0 true reads_of all_left takes_all f (state_at 0 h f) h i

-- Choice 1 takes nothing.
pub takes_nothing : (state : ℕ) → takes 1 state ≡ false
unfolding takes
takes_nothing state = refl

synced_other : (k : Kind) (file at : ℕ) (bytes : List ℕ) (h : List Step) (f : ℕ) → f ≢ file
    → synced_of (step_by k file at bytes ∷ h) f ≡ synced_of h f
synced_other Write file at bytes h f ne = refl
synced_other Sync file at bytes h f ne = grind (arith, nat_tests, ne)
synced_other Remove file at bytes h f ne = refl

none_left : IsLeftBy false synced_of
none_left = record {
  none = λ f. refl;
  wrote = λ f at bytes h. refl;
  synced = λ f h. rw (same_eq f) refl;
  removed = λ f h. refl;
  other = synced_other;
}

pub image_1 : (h : List Step) → image_of 1 h ≡ synced_of h
image_1 h = λ i f. left_means 1 false synced_of none_left takes_nothing f (state_at 1 h f) h i

pub settled_synced : (choice f start : ℕ) (h : List Step)
    → IsLeft choice f (Synced f ∷ h) start (reads_of (Synced f ∷ h) f) start
settled_synced choice f start h = record { is = synced_here choice h f start }

-- what is left after all calls of the file
pub left_content : {choice f start state : ℕ} {h : List Step} {content : Option (List ℕ)}
    → IsLeft choice f h start content state → content ≡ (left_of choice f h start).content
left_content left = ap (λ (l : Left). l.content) (sym left.is)

pub left_state : {choice f start state : ℕ} {h : List Step} {content : Option (List ℕ)}
    → IsLeft choice f h start content state → state ≡ (left_of choice f h start).state
left_state left = ap (λ (l : Left). l.state) (sym left.is)
