-- Each line leaves a place within its bounds.
use Rattle.std.proofs.Common.{ℕ, zero, suc, ◌+◌, ◌-◌, ◌<◌, ◌≤◌, Bool, true, false, ◌≡◌, refl, min, arith}
use Rattle.std.proofs.{lemmas.Nat.mod_below, lemmas.Bool.cond_both, lemmas.Bool.ltb-true, lemmas.Bool.ltb-false}
use Rattle.std.proofs.lemmas.Bool.{eqb-false}
use Rattle.std.specs.Prelude.{nat_lt, ◌==◌, if◌then◌else◌}
use Rattle.script_gen.specs.Script.{drawn_on, draw_at, range_at, first_place, allowed, kind_of, kind_at, ramp_at}
use Rattle.script_gen.specs.Script.{delete_at, copy_at, paste_at, undo_at, redo_at, written_as, drawn_at, line_at}
use Rattle.script_gen.specs.{declared.draws.CellRange.CellRange, declared.kind.Kind.Kind, declared.place.Place.Place}
use Rattle.script_gen.specs.{Bounds.IsPlace, Draws.next_state, Draws.drawn}
use Rattle.script_gen.specs.declared.kind.Kind.TheVariants as kind

pub drawn-below : (n x : ℕ) → 0 < n → drawn n x < n
unfolding drawn
drawn-below n x h = mod_below _ n h

-- ---- ranges

-- a range of a track of this length, which is neither empty nor long
pub record IsRange (len : ℕ) (r : CellRange) : Type 0 where
  pub order : r.from < r.to
  pub within : r.to ≤ len
  pub few : r.to ≤ r.from + 500

pub range-drawn : (p : Place) → IsPlace p → IsRange p.len (range_at p)
range-drawn p b =
    let least = b.least in
    let from : draw_at p.len p < p.len = drawn-below p.len (next_state p.state) (omega arith) in
    let most = min (p.len - draw_at p.len p) 500 in
    let more : draw_at most (drawn_on p) < most = drawn-below most (next_state (next_state p.state)) (omega arith) in
    record { order = omega arith; within = omega arith; few = omega arith }

-- ---- kinds

-- a track that grows is not long, one that falls not short, and what is pasted was copied
abbrev pub Fits : Place → Kind → Type 0
Fits p kind.Ramp = p.len ≤ 100000
Fits p kind.Delete = 2000 ≤ p.len
Fits p kind.Paste = (0 < p.copied) × (p.len ≤ 100000)
Fits p _ = Unit {0}

ramp-fits : (p : Place) → Fits p (allowed p kind.Ramp)
ramp-fits p = cond_both (nat_lt 100000 p.len) _ _ (Fits p)
    (λ e. let h = ltb-true 100000 p.len e in omega arith) (λ e. ltb-false 100000 p.len e)

delete-fits : (p : Place) → Fits p (allowed p kind.Delete)
delete-fits p = cond_both (nat_lt p.len 2000) _ _ (Fits p)
    (λ e. let h = ltb-true p.len 2000 e in omega arith) (λ e. ltb-false p.len 2000 e)

paste-fits : (p : Place) → Fits p (allowed p kind.Paste)
paste-fits p = by (p.copied == 0) (nat_lt 100000 p.len) refl refl
  where
    by : (none long : Bool) → (p.copied == 0) ≡ none → nat_lt 100000 p.len ≡ long →
        Fits p (if none then kind.Copy else if long then kind.Delete else kind.Paste)
    by true long e f = tt
    by false true e f = let h = ltb-true 100000 p.len f in omega arith
    by false false e f =
        let some = eqb-false p.copied 0 e in
        let short = ltb-false 100000 p.len f in
        (omega arith, short)

pub allowed-fits : (p : Place) (k : Kind) → Fits p (allowed p k)
allowed-fits p kind.Ramp = ramp-fits p
allowed-fits p kind.Delete = delete-fits p
allowed-fits p kind.Paste = paste-fits p
allowed-fits p _ = tt

-- ---- places

pub first_place-bounds : (number : ℕ) → IsPlace (first_place number)
first_place-bounds number = record { least = omega arith; most = omega arith; copied = omega arith }

pub drawn_on-bounds : (p : Place) → IsPlace p → IsPlace (drawn_on p)
drawn_on-bounds p b = record { least = b.least; most = b.most; copied = b.copied }

pub ramp-count : (x : ℕ) → drawn 2000 x < 2000
ramp-count x = drawn-below 2000 x (omega arith)

ramp-bounds : (p : Place) → IsPlace p → p.len ≤ 100000 → IsPlace (ramp_at p).place
ramp-bounds p b few =
    let count = ramp-count (next_state (next_state p.state)) in
    record { least = omega (arith, b.least); most = omega arith; copied = b.copied }

delete-bounds : (p : Place) → IsPlace p → 2000 ≤ p.len → IsPlace (delete_at p).place
delete-bounds p b many =
    let few = (range-drawn p b).few in
    record { least = omega arith; most = omega (arith, b.most); copied = b.copied }

copy-bounds : (p : Place) → IsPlace p → IsPlace (copy_at p).place
copy-bounds p b = record { least = b.least; most = b.most; copied = omega (arith, (range-drawn p b).few) }

paste-bounds : (p : Place) → IsPlace p → p.len ≤ 100000 → IsPlace (paste_at p).place
paste-bounds p b few =
    record { least = omega (arith, b.least); most = omega (arith, b.copied); copied = b.copied }

undo-bounds : (left : ℕ) (p : Place) → IsPlace p → IsPlace (undo_at left p).place
undo-bounds zero p b = b
undo-bounds (suc left) p b = record { least = b.least; most = b.most; copied = b.copied }

pub written-bounds : (k : Kind) (left : ℕ) (p : Place) → IsPlace p → Fits p k → IsPlace (written_as k left p).place
written-bounds kind.Ramp left p b f = ramp-bounds p b f
written-bounds kind.Delete left p b f = delete-bounds p b f
written-bounds kind.Gain left p b f = record { least = b.least; most = b.most; copied = b.copied }
written-bounds kind.Silence left p b f = record { least = b.least; most = b.most; copied = b.copied }
written-bounds kind.Copy left p b f = copy-bounds p b
written-bounds kind.Paste left p b f = paste-bounds p b f.1
written-bounds kind.Undo left p b f = undo-bounds left p b
written-bounds kind.Envelope left p b f = b

-- the draw of the kind leaves the lengths
pub kind-fits : (p : Place) → Fits (drawn_on p) (kind_at p)
kind-fits p = allowed-fits (drawn_on p) (kind_of (draw_at 8 p))

pub line-bounds : (left : ℕ) (p : Place) → IsPlace p → IsPlace (line_at left p).place
line-bounds left p b = cond_both p.undone (redo_at p) (drawn_at left p) (λ w. IsPlace w.place)
    (λ _. record { least = b.least; most = b.most; copied = b.copied })
    (λ _. written-bounds (kind_at p) left (drawn_on p) (drawn_on-bounds p b) (kind-fits p))
