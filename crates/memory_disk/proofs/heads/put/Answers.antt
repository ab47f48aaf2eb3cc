-- The head takes the place of the old one, or comes among the others.
use Rattle.memory_disk.proofs.Common.{◌≡◌, ◌≢◌, ℕ, ◌≤◌, ◌<◌, Option, None, List, length, get_or, refl, sym, ap, subst}
use Rattle.memory_disk.proofs.Common.{◌∙◌, arith, IsSome, AreRising, head_of, no_head, Head}
use Rattle.memory_disk.proofs.HeadLists.{not_falling, head_nowhere, head_replaced, head_inserted, rising_replaced}
use Rattle.memory_disk.proofs.HeadLists.{rising_inserted}
use Rattle.memory_disk.proofs.heads.put.Goals as goal

none_some : {o : Option Head} → o ≡ None → IsSome o → ⊥
none_some none some = let s = subst IsSome none some in cc s

-- where the file's head stands, and that it stands nowhere
stands : (hs seen looked : List Head) (p f : ℕ)
    → seen ≡ hs → looked ≡ hs → ((k : ℕ) (d : Head) → k < p → (get_or seen k d).file < f)
    → ((d : Head) → (p < length looked) × ((get_or looked p d).file ≡ f))
    → (p < length hs) × ((d : Head) → (get_or hs p d).file ≡ f)
    × ((k : ℕ) (d : Head) → k < p → (get_or hs k d).file ≢ f)
stands hs seen looked p f saw same before there =
    let low = rw saw at before in
    let here = rw same at there in
    ((here no_head).0, (λ d. (here d).1), (λ k d lt e. omega (arith, low k d lt, e)))

lacks : (hs seen looked : List Head) (p f : ℕ)
    → seen ≡ hs → looked ≡ hs → AreRising hs → ((k : ℕ) (d : Head) → k < p → (get_or seen k d).file < f)
    → ((k : ℕ) (d : Head) → p ≤ k → k < length seen → f ≤ (get_or seen k d).file)
    → ((d : Head) → p < length looked → (get_or looked p d).file ≢ f)
    → (head_of hs f ≡ None) × ((k : ℕ) (d : Head) → k < p → (get_or hs k d).file < f)
    × ((k : ℕ) (d : Head) → p ≤ k → k < length hs → f < (get_or hs k d).file)
lacks hs seen looked p f saw same rising before behind other =
    let low = rw saw at before in
    let high = rw saw at behind in
    let apart = rw same at other in (
      head_nowhere hs p f no_head rising (λ k. low k no_head) (high p no_head (omega arith)) (apart no_head),
      low,
      (λ k d le lt. let first = high p d (omega arith) (omega arith) in let ne = apart d (omega arith) in
          let up = not_falling hs rising p k d le lt in omega (arith, first, ne, up)),
    )

pub index_mut-requires : goal.index_mut-requires
index_mut-requires c =
    let s = stands c.args.heads.now.items _ _ _ c.args.head.file c.deref.ensures.value c.deref-2.ensures.value
    c.place_of-place.ensures.before (c.if-is_at.ensures.yes refl) in
    omega (arith, s.0)

pub returns-then-is_at-clause-rising : goal.returns-then-is_at-clause-rising
returns-then-is_at-clause-rising c =
    let s = stands c.args.heads.now.items _ _ _ c.args.head.file c.deref.ensures.value c.deref-2.ensures.value
    c.place_of-place.ensures.before (c.if-is_at.ensures.yes refl) in
    rising_replaced c.args.heads.now.items _ _ s.0 s.1 c.requires

pub returns-then-is_at-clause-put : goal.returns-then-is_at-clause-put
returns-then-is_at-clause-put c = λ f.
    let s = stands c.args.heads.now.items _ _ _ c.args.head.file c.deref.ensures.value c.deref-2.ensures.value
    c.place_of-place.ensures.before (c.if-is_at.ensures.yes refl) in
    head_replaced c.args.heads.now.items _ c.args.head no_head f s.0 (s.1 no_head) (λ k. s.2 k no_head)

pub returns-in_err-insert-clause-known : goal.returns-in_err-insert-clause-known
returns-in_err-insert-clause-known c = λ some.
    let s = lacks c.args.heads.now.items _ _ _ c.args.head.file c.deref.ensures.value c.deref-2.ensures.value c.requires
    c.place_of-place.ensures.before c.place_of-place.ensures.behind (c.if-is_at.ensures.no refl) in
    absurd (none_some s.0 some)

pub returns-in_ok-insert-clause-rising : goal.returns-in_ok-insert-clause-rising
returns-in_ok-insert-clause-rising c =
    let s = lacks c.args.heads.now.items _ _ _ c.args.head.file c.deref.ensures.value c.deref-2.ensures.value c.requires
    c.place_of-place.ensures.before c.place_of-place.ensures.behind (c.if-is_at.ensures.no refl) in
    subst AreRising (sym c.in_ok-insert.ensures.items)
    (rising_inserted c.args.heads.now.items _ c.args.head (subst (λ (l : List Head). c.place_of-place.result
    ≤ length l) c.deref.ensures.value c.place_of-place.ensures.bound) s.1 s.2 c.requires)

pub returns-in_ok-insert-clause-put : goal.returns-in_ok-insert-clause-put
returns-in_ok-insert-clause-put c = λ f.
    let s = lacks c.args.heads.now.items _ _ _ c.args.head.file c.deref.ensures.value c.deref-2.ensures.value c.requires
    c.place_of-place.ensures.before c.place_of-place.ensures.behind (c.if-is_at.ensures.no refl) in
    ap (λ (l : List Head). head_of l f) c.in_ok-insert.ensures.items ∙ head_inserted c.args.heads.now.items
    _ c.args.head no_head f (subst (λ (l : List Head). c.place_of-place.result ≤ length l) c.deref.ensures.value
    c.place_of-place.ensures.bound) (λ k lt e. let b = s.1 k no_head lt in omega (arith, b, e))

pub returns-in_ok-insert-clause-known : goal.returns-in_ok-insert-clause-known
returns-in_ok-insert-clause-known c = λ some.
    let s = lacks c.args.heads.now.items _ _ _ c.args.head.file c.deref.ensures.value c.deref-2.ensures.value c.requires
    c.place_of-place.ensures.before c.place_of-place.ensures.behind (c.if-is_at.ensures.no refl) in
    absurd (none_some s.0 some)
