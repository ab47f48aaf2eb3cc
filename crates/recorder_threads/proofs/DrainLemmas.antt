-- One chunk more, and the end of a recording.
use Rattle.std.proofs.Common.{◌≡◌, ◌⊎◌, ⊎_elim, inl, inr, ℕ, ◌+◌, ◌-◌, ◌<◌, ◌≤◌, ℤ, List, [], ◌∷◌, ◌++◌, length, take}
use Rattle.std.proofs.Common.{drop, set, Option, Some, None, refl, sym, ap, ◌∙◌, subst, arith, append_assoc, sum_by}
use Rattle.std.proofs.lemmas.List.{length-append, length-map, length-take-le, take_all, take-append-le}
use Rattle.std.proofs.lemmas.List.{take-append-drop, take-take, take-map, drop-map, length-drop, map-append}
use Rattle.std.proofs.lemmas.List.{take_more_set, append-nil}
use Rattle.std.proofs.{lemmas.List.Sums.sum_by-append, Math.Seq.take-add}
use Rattle.std.specs.List.{zip}
use Rattle.pcm_base.specs.{Recordings.numbered_part, Recordings.numbered, Recordings.recording, Arithmetic.counted_from}
use Rattle.pcm_base.specs.{Parts.Part, declared.refusal.Refusal.Refusal, declared.refusal.Refusal.TheVariants.NoMemory}
use Rattle.edit_ports.specs.Answers.{first_refusal, numbered_pieces, samples_of}
use Rattle.record_ring.specs.Order.{Follows}
use Rattle.recorder_threads.specs.Drained.{Taken, TakerState, Takes}
use Rattle.recorder_threads.proofs.WaveLemmas.{numbered-push, length-numbered}

Some-inj : (a b : Refusal) → Some a ≡ Some b → a ≡ b
Some-inj a b h = ap (λ (o : Option Refusal). or_else o) h
  where
    or_else : Option Refusal → Refusal
    or_else None = a
    or_else (Some x) = x

zip-more : {A B : Type 0} (xs : List A) (ns : List B) (ys : List A) (ms : List B) → length xs ≡ length ns
    → zip (xs ++ ys) (ns ++ ms) ≡ zip xs ns ++ zip ys ms
zip-more [] [] ys ms h = refl
zip-more [] (m ∷ ns) ys ms h = absurd (omega arith)
zip-more (y ∷ xs) [] ys ms h = absurd (omega arith)
zip-more (y ∷ xs) (m ∷ ns) ys ms h = ap (λ t. (y, m) ∷ t) (zip-more xs ns ys ms (omega arith))

numbered-zip : (n : ℕ) (xs : List (List ℤ)) → numbered_pieces n xs ≡ zip xs (counted_from (n + 1) (length xs))
numbered-zip n [] = refl
numbered-zip n (x ∷ xs) = ap (λ t. (x, n + 1) ∷ t) (numbered-zip (n + 1) xs)

-- the pieces that were taken of the first chunks
pub pieces-taken : (n count places : ℕ) (chunks : List Part) → count ≤ length (samples_of (take places chunks))
    → places ≤ length chunks → numbered_pieces n (take count (samples_of (take places chunks)))
    ≡ zip (take count (samples_of chunks)) (counted_from (n + 1) count)
pieces-taken n count places chunks few room =
    let within : length (samples_of (take places chunks)) ≡ places =
    length-map (take places chunks) (λ (c : Part). c.samples) ∙ length-take-le places chunks room in
    let low : count ≤ places = omega (arith, few, within) in
    let same : take count (samples_of (take places chunks)) ≡ take count (samples_of chunks) =
    ap (take count) (sym (take-map (λ (c : Part). c.samples) places chunks))
    ∙ take-take count places (samples_of chunks) low in
    let all : length (samples_of chunks) ≡ length chunks = length-map chunks (λ (c : Part). c.samples) in
    let long : length (take count (samples_of chunks)) ≡ count =
    length-take-le count (samples_of chunks) (omega (arith, all, low, room)) in
    ap (numbered_pieces n) same ∙ numbered-zip n (take count (samples_of chunks))
    ∙ ap (λ m. zip (take count (samples_of chunks)) (counted_from (n + 1) m)) long

pub taken-few : (count places : ℕ) (chunks : List Part) → count ≤ length (samples_of (take places chunks))
    → places ≤ length chunks → count ≤ length chunks
taken-few count places chunks few room =
    let a = length-map (take places chunks) (λ (c : Part). c.samples) in
    let b = length-take-le places chunks room in
    omega (arith, few, room, a, b)

pub taken-long : (count : ℕ) (chunks : List Part) → count ≤ length chunks
    → length (take count (samples_of chunks)) ≡ count
taken-long count chunks few =
    length-take-le count (samples_of chunks)
    (let a = length-map chunks (λ (c : Part). c.samples) in omega (arith, few, a))

pub Takes-start : (pieces : List (List ℤ × ℕ)) (told : Option Refusal) (numbers : List ℕ) → numbers ≡ [] → told ≡ None
    → Takes pieces record { pieces = pieces; refused = told }
    record { numbers = numbers; samples = 0; refused = None } []
Takes-start pieces told numbers none untold = rw none (record {
  kept = sym (append-nil pieces);
  samples_is = refl;
  all = λ h. (refl, untold);
  some = λ reason h. cc;
})

-- chunks were taken
pub Takes-taken : (start : List (List ℤ × ℕ)) (taker taker' : TakerState) (told : Taken) (numbers' ns : List ℕ)
    (chunks xs : List (List ℤ)) → told.refused ≡ None → numbers' ≡ told.numbers ++ ns → length ns ≡ length xs
    → taker'.pieces ≡ taker.pieces ++ zip xs ns → taker'.refused ≡ taker.refused → Takes start taker told chunks
    → Takes start taker' record told { numbers = numbers'; samples = told.samples + sum_by length xs } (chunks ++ xs)
Takes-taken start taker taker' told numbers' ns chunks xs none more long new same t =
    let numbers = told.numbers in
    let even : length numbers ≡ length chunks = (t.all none).0 in
    let whole : take (length numbers) chunks ≡ chunks = take_all (length numbers) chunks (omega arith) in
    let even' : length (numbers ++ ns) ≡ length (chunks ++ xs) =
    omega (arith, length-append numbers ns, length-append chunks xs, even, long) in
    let whole' : take (length (numbers ++ ns)) (chunks ++ xs) ≡ chunks ++ xs =
    take_all (length (numbers ++ ns)) (chunks ++ xs) (omega arith) in
    let kept : taker.pieces ≡ start ++ zip chunks numbers = t.kept ∙ ap (λ c. start ++ zip c numbers) whole in
    let count : told.samples ≡ sum_by length chunks = t.samples_is ∙ ap (sum_by length) whole in
    rw more (record {
      kept = rw whole' (new ∙ ap (λ p. p ++ zip xs ns) kept ∙ append_assoc start (zip chunks numbers) (zip xs ns)
          ∙ ap (λ z. start ++ z) (sym (zip-more chunks numbers xs ns (sym even))));
      samples_is = rw whole' (let more = sum_by-append length chunks xs in omega (arith, more, count));
      all = λ h. (even', same ∙ (t.all none).1);
      some = λ reason h. cc (h, none);
    })

-- the first of some chunks was refused
pub Takes-refused : (start : List (List ℤ × ℕ)) (taker taker' : TakerState) (told : Taken) (numbers' : List ℕ)
    (why : Refusal) (chunks more : List (List ℤ)) → told.refused ≡ None → 0 < length more → numbers' ≡ told.numbers
    → taker'.pieces ≡ taker.pieces
    → (taker'.refused ≡ first_refusal taker.refused why) ⊎ ((why ≡ NoMemory) × (taker'.refused ≡ taker.refused))
    → Takes start taker told chunks
    → Takes start taker' record told { numbers = numbers'; refused = Some why } (chunks ++ more)
Takes-refused start taker taker' told numbers' why chunks more none some kept left cause t =
    let numbers = told.numbers in
    let even : length numbers ≡ length chunks = (t.all none).0 in
    let untold : taker.refused ≡ None = (t.all none).1 in
    let same : take (length numbers) (chunks ++ more) ≡ take (length numbers) chunks =
    take-append-le (length numbers) chunks more (omega (arith, even)) in
    let long = length-append chunks more in
    rw kept (record {
      kept = rw same (left ∙ t.kept);
      samples_is = rw same t.samples_is;
      all = λ (h : Some why ≡ None). cc;
      some = λ reason (h : Some why ≡ Some reason). (
        omega (arith, even, long, some),
        subst (λ (r : Refusal). (taker'.refused ≡ Some r) ⊎ ((r ≡ NoMemory) × (taker'.refused ≡ None)))
            (Some-inj why reason h) (⊎_elim
            (λ (e : taker'.refused ≡ first_refusal taker.refused why).
            inl (e ∙ ap (λ (o : Option Refusal). first_refusal o why) untold))
            (λ (e : (why ≡ NoMemory) × (taker'.refused ≡ taker.refused)). inr (e.0, e.1 ∙ untold)) cause),
      );
    })

-- those that are left
pub rest-is : (chunks : List Part) (at : ℕ) → take (length chunks - at) (drop at chunks) ≡ drop at chunks
rest-is chunks at =
    let left = length-drop at chunks in
    take_all (length chunks - at) (drop at chunks) (omega (arith, left))

-- chunks that were taken one after another
pub taken-more : (before : List (List ℤ)) (chunks rest : List Part) (at count : ℕ) → rest ≡ drop at chunks
    → (before ++ take at (samples_of chunks)) ++ take count (samples_of rest)
    ≡ before ++ take (at + count) (samples_of chunks)
taken-more before chunks rest at count is =
    append_assoc before (take at (samples_of chunks)) (take count (samples_of rest))
    ∙ ap (λ (l : List (List ℤ)). before ++ (take at (samples_of chunks) ++ take count l))
    (ap samples_of is ∙ sym (drop-map (λ (c : Part). c.samples) at chunks))
    ∙ ap (λ (l : List (List ℤ)). before ++ l) (sym (take-add at count (samples_of chunks)))

pub taken-rest : (before : List (List ℤ)) (chunks rest : List Part) (at : ℕ) → rest ≡ drop at chunks
    → (before ++ take at (samples_of chunks)) ++ samples_of rest ≡ before ++ samples_of chunks
taken-rest before chunks rest at is =
    append_assoc before (take at (samples_of chunks)) (samples_of rest)
    ∙ ap (λ (l : List (List ℤ)). before ++ (take at (samples_of chunks) ++ l))
    (ap samples_of is ∙ sym (drop-map (λ (c : Part). c.samples) at chunks))
    ∙ ap (λ (l : List (List ℤ)). before ++ l) (take-append-drop at (samples_of chunks))

-- the number of a chunk that may follow is how many there are
pub number-next : (received : List Part) (chunk : Part) (chunks : List (List ℤ)) → received ≡ numbered 0 chunks
    → Follows received chunk → chunk.number ≡ length chunks
number-next received chunk chunks so_far follows = follows.0 ∙ ap length so_far ∙ length-numbered 0 chunks

-- the end mark was received
pub received-end : (received received' : List Part) (mark : Part) (chunks : List (List ℤ))
    → received ≡ numbered 0 chunks → received' ≡ received ++ mark ∷ [] → Follows received mark → mark.samples ≡ []
    → received' ≡ recording chunks
received-end received received' mark chunks so_far new follows silent =
    let number : mark.number ≡ length chunks = follows.0 ∙ ap length so_far ∙ length-numbered 0 chunks in
    let is : mark ≡ numbered_part (length chunks) [] = λ i. record { number = number i; samples = silent i } in
    new ∙ ap (λ r. r ++ mark ∷ []) so_far ∙ ap (λ m. numbered 0 chunks ++ m ∷ []) is

-- one chunk more was received
pub received-more : (received received' : List Part) (chunk : Part) (chunks : List (List ℤ))
    → received ≡ numbered 0 chunks → received' ≡ received ++ chunk ∷ [] → Follows received chunk
    → received' ≡ numbered 0 (chunks ++ chunk.samples ∷ [])
received-more received received' chunk chunks so_far new follows =
    let number : chunk.number ≡ length chunks = follows.0 ∙ ap length so_far ∙ length-numbered 0 chunks in
    let counted : chunk.number ≡ 0 + length chunks = omega (arith, number) in
    new ∙ ap (λ r. r ++ chunk ∷ []) so_far ∙ sym (numbered-push 0 chunks chunk.samples chunk.number counted)

-- what was received, with a chunk that follows and is not yet in the buffer
abbrev pub Holds : List Part → List (List ℤ) → Part → Type 0
Holds received chunks chunk = (received ≡ numbered 0 chunks ++ chunk ∷ []) × Follows (numbered 0 chunks) chunk

pub holds-next : (received received' : List Part) (chunks : List (List ℤ)) (chunk : Part)
    → received ≡ numbered 0 chunks → received' ≡ received ++ chunk ∷ [] → Follows received chunk
    → Holds received' chunks chunk
holds-next received received' chunks chunk so_far new follows =
    (new ∙ ap (λ (r : List Part). r ++ chunk ∷ []) so_far, subst (λ (r : List Part). Follows r chunk) so_far follows)

-- the buffer with that chunk
pub stored : (before : List (List ℤ)) (batch : List Part) (count : ℕ) (chunk : Part) → count < length batch
    → before ++ samples_of (take (count + 1) (set batch count chunk))
    ≡ (before ++ samples_of (take count batch)) ++ chunk.samples ∷ []
stored before batch count chunk room =
    ap (λ (l : List Part). before ++ samples_of l) (take_more_set batch count chunk room)
    ∙ ap (λ (l : List (List ℤ)). before ++ l) (map-append (λ (c : Part). c.samples) (take count batch) (chunk ∷ []))
    ∙ sym (append_assoc before (samples_of (take count batch)) (chunk.samples ∷ []))

pub holds-stored : (received : List Part) (before : List (List ℤ)) (batch : List Part) (count : ℕ) (chunk : Part)
    → count < length batch → Holds received (before ++ samples_of (take count batch)) chunk
    → received ≡ numbered 0 (before ++ samples_of (take (count + 1) (set batch count chunk)))
holds-stored received before batch count chunk room h =
    received-more (numbered 0 (before ++ samples_of (take count batch))) received chunk
    (before ++ samples_of (take count batch)) refl h.0 h.1
    ∙ ap (numbered 0) (sym (stored before batch count chunk room))

pub holds-end : (received : List Part) (chunks : List (List ℤ)) (mark : Part) → mark.samples ≡ []
    → Holds received chunks mark → received ≡ recording chunks
holds-end received chunks mark silent h =
    received-end (numbered 0 chunks) received mark chunks refl h.0 h.1 silent

pub holds-number : (received : List Part) (before : List (List ℤ)) (batch : List Part) (count : ℕ) (chunk : Part)
    → count ≤ length batch → Holds received (before ++ samples_of (take count batch)) chunk
    → chunk.number ≡ length before + count
holds-number received before batch count chunk room h =
    let a = number-next (numbered 0 (before ++ samples_of (take count batch))) chunk
    (before ++ samples_of (take count batch)) refl h.1 in
    let b = length-append before (samples_of (take count batch)) in
    let c = length-map (take count batch) (λ (p : Part). p.samples) in
    let d = length-take-le count batch room in
    omega (arith, a, b, c, d)
