-- The deeds of a desk as entries of a run.
use Rattle.session_run.proofs.Common.{◌≡◌, ◌∙◌, refl, ap, ℕ, ◌+◌, ◌==◌, if◌then◌else◌, Bool, true, false, List, [], ◌∷◌}
use Rattle.session_run.proofs.Common.{◌++◌, length, suc, Result, Ok, Err, IsOk, Reply, Entry, Refusal, result_of, Each}
use Rattle.session_run.proofs.Common.{ByOthers, reply_of, is_refusal, Deed, actor_of, commits, entries_of, entry_of}
use Rattle.session_run.proofs.Common.{number_after, raised_by, by_seat, deeds_of, numbers_of, entries_by, last_number}
use Rattle.session_run.proofs.Common.{numbers_by}
use Rattle.pcm_base.specs.{Arithmetic.counted_from, Counters.commits_of}
use Rattle.studio_seats.specs.Deeds.{made}
use Rattle.studio_seats.specs.Merge.{numbers_if}
use Rattle.studio_seats.proofs.MergeLemmas.{deeds_others}
use Rattle.session_run.specs.Entries.{commits_in, number_of}
use Rattle.pcm_base.specs.declared.answer.Reply.TheVariants as reply

-- what a deed was answered is its entry's reply: no reply stands for a refusal
abbrev pub IsPlain : Deed → Type 0
IsPlain d = result_of (reply_of d.what) ≡ d.what

pub plain_reply : (r : Reply) → result_of r ≡ Ok r → is_refusal r ≡ false
plain_reply (reply.Refused why) is = cc
plain_reply _ is = refl

-- what was carried out is no refusal
pub not_refused : (what : Result Reply Refusal) → IsOk what → result_of (reply_of what) ≡ what
    → is_refusal (reply_of what) ≡ false
not_refused (Ok r) ok is = plain_reply r is
not_refused (Err why) ok is = cc

made_as : (d : Deed) → IsPlain d → commits_in (entry_of d) ≡ made d
made_as d is = by d.what is
  where
    by : (what : Result Reply Refusal) → result_of (reply_of what) ≡ what
        → (if is_refusal (reply_of what) then 0 else commits_of d.call) ≡ commits what d.call
    by (Ok r) is = ap (λ (b : Bool). if b then 0 else commits_of d.call) (plain_reply r is)
    by (Err why) is = refl

number_as : (n : ℕ) (d : Deed) → IsPlain d → number_of n (entry_of d) ≡ raised_by d n
number_as n d is = ap (λ (k : ℕ). n + k) (made_as d is)

-- the number to which entries lead is that to which the deeds lead
pub last_as : (n : ℕ) (ds : List Deed) → Each IsPlain ds → last_number n (entries_of ds) ≡ number_after n ds
last_as n [] h = refl
last_as n (d ∷ ds) h =
    ap (λ (m : ℕ). last_number m (entries_of ds)) (number_as n d h.0) ∙ last_as (raised_by d n) ds h.1

pub entries_length : (ds : List Deed) → length (entries_of ds) ≡ length ds
entries_length [] = refl
entries_length (d ∷ ds) = ap (λ (n : ℕ). suc n) (entries_length ds)

-- the entries of an actor are the deeds of its seat
pub entries_as : (a : ℕ) (ds : List Deed) → entries_by a (entries_of ds) ≡ entries_of (deeds_of (by_seat a) ds)
entries_as a [] = refl
entries_as a (d ∷ ds) = by (entries_as a ds) (a == d.actor)
  where
    by : entries_by a (entries_of ds) ≡ entries_of (deeds_of (by_seat a) ds) → (b : Bool)
        → (if b then entry_of d ∷ [] else []) ++ entries_by a (entries_of ds)
        ≡ entries_of ((if b then d ∷ [] else []) ++ deeds_of (by_seat a) ds)
    by later true = ap (λ (l : List Entry). entry_of d ∷ l) later
    by later false = later

-- and so are the numbers of its commits
pub numbers_as : (a n : ℕ) (ds : List Deed) → Each IsPlain ds
    → numbers_by a n (entries_of ds) ≡ numbers_of (by_seat a) n ds
numbers_as a n [] h = refl
numbers_as a n (d ∷ ds) h =
    let m = raised_by d n in
    (λ i. one (a == d.actor) i ++ (ap (λ (k : ℕ). numbers_by a k (entries_of ds)) (number_as n d h.0)
    ∙ numbers_as a m ds h.1) i)
  where
    one : (b : Bool) → (if b then counted_from (n + 1) (commits_in (entry_of d)) else []) ≡ numbers_if b (made d) n
    one true = ap (counted_from (n + 1)) (made_as d h.0)
    one false = refl

-- deeds by others are none of its entries
pub none_by : (a : ℕ) (ds : List Deed) → ByOthers actor_of (a ∷ []) ds → entries_by a (entries_of ds) ≡ []
none_by a ds h = entries_as a ds ∙ ap entries_of (deeds_others a ds h)
