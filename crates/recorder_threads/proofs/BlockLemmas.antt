-- Reads into the rest of a block.
use Rattle.std.proofs.Common.{◌≡◌, ℕ, ◌+◌, ◌≤◌, List, ◌++◌, length, take, Option, refl, sym, ap, ◌∙◌, arith}
use Rattle.std.proofs.Math.Seq.{take-add, take-append_seam, drop-append_seam}
use Rattle.std.proofs.{lemmas.List.length-take-le, lemmas.List.take-append-le, lemmas.Slice.take-put_mid_below}
use Rattle.edit_ports.specs.Told.{preceded}
use Rattle.edit_ports.proofs.ToldLaws.{preceded-preceded, preceded-nil}
use borrow.Rule.Slice.PartMut.{put_mid, post_of}

-- the front of what was written after the first len bytes
pub take-behind : (bytes new : List ℕ) (len rest count : ℕ) → len ≤ length bytes → count ≤ length new
    → take (len + count) (put_mid len rest bytes new) ≡ take len bytes ++ take count new
take-behind bytes new len rest count room within =
    let front : length (take len bytes) ≡ len = length-take-le len bytes room in
    ap (λ n. take (n + count) (take len bytes ++ (new ++ post_of len rest bytes))) (sym front)
    ∙ take-add (length (take len bytes)) count (take len bytes ++ (new ++ post_of len rest bytes))
    ∙ rw (
      take-append_seam (take len bytes) (new ++ post_of len rest bytes),
      drop-append_seam (take len bytes) (new ++ post_of len rest bytes),
      take-append-le count new (post_of len rest bytes) within,
    ) refl

pub read-more : (start mid end : Option (List ℕ)) (bytes new : List ℕ) (len rest count : ℕ) → len ≤ length bytes
    → count ≤ length new → start ≡ preceded (take len bytes) mid → mid ≡ preceded (take count new) end
    → start ≡ preceded (take (len + count) (put_mid len rest bytes new)) end
read-more start mid end bytes new len rest count room within before now =
    before ∙ ap (preceded (take len bytes)) now ∙ preceded-preceded end (take len bytes) (take count new)
    ∙ ap (λ t. preceded t end) (sym (take-behind bytes new len rest count room within))

pub read-none : (start mid end : Option (List ℕ)) (bytes new : List ℕ) (len rest count : ℕ)
    → count ≡ 0 → len ≤ length bytes → start ≡ preceded (take len bytes) mid → mid ≡ preceded (take count new) end
    → start ≡ preceded (take len (put_mid len rest bytes new)) end
read-none start mid end bytes new len rest count zero room before now =
    let none : mid ≡ end = rw zero at now ∙ preceded-nil end in
    before ∙ ap (preceded (take len bytes)) none
    ∙ ap (λ t. preceded t end) (sym (take-put_mid_below len rest bytes new len (omega arith) room))
