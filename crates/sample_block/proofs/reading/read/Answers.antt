-- The first difference of the whole file, from those of its parts.
use Rattle.std.proofs.Common.{◌≡◌, ◌+◌, ◌*◌, arith, length, List, ℕ, ◌∙◌, Some, None, Err, ◌++◌}
use Rattle.sample_block.specs.Spelling.{size_of, level_fields, header_fields}
use Rattle.sample_block.specs.Faults.{difference, damage_of, samples_in, size_difference, Gives, IsFoundAs}
use Rattle.sample_block.specs.declared.damage.BadBlock.{BadBlock}
use Rattle.sample_block.proofs.{Numerals.IsBytes, Laws.front_found, Laws.frames_found}
use Rattle.sample_block.specs.declared.damage.BadBlock.TheVariants as bad
use Rattle.sample_block.proofs.reading.read.Goals as goal

pub returns-in-Err-clause-exact : goal.returns-in-Err-clause-exact
returns-in-Err-clause-exact c = front_found c.args.id c.args.len c.args.bytes.now _ c.in-Err.ensures.fields

-- what the frames were refused for is what the whole file is refused for
refused_for : (id n : ℕ) (bytes : List ℕ) (why : BadBlock) → IsBytes bytes → length bytes ≡ size_of n
    → size_difference n bytes (difference bytes 0 (header_fields id n)) ≡ None
    → IsFoundAs (difference bytes (16 + 2 * n)
    (level_fields 256 (samples_in bytes 16 n) ++ level_fields 65536 (samples_in bytes 16 n))) why
    → Gives (Err why) (damage_of id n bytes, samples_in bytes 16 n)
refused_for id n bytes bad.NoMemory fit size front found = tt
refused_for id n bytes (bad.Damaged fault) fit size front found =
    frames_found id n bytes (Some fault) fit size front found

pub returns-in-Err-take_checked-clause-exact : goal.returns-in-Err-take_checked-clause-exact
returns-in-Err-take_checked-clause-exact c =
    let fit : IsBytes c.args.bytes.now = record { below = λ i. omega (arith, c.type_inv.bytes i) } in
    refused_for c.args.id c.args.len c.args.bytes.now c.in-Err-take_checked.bad fit c.in_default.ensures.size
    c.in_default.ensures.fields c.in-Err-take_checked.ensures.fault

pub returns-clause-exact : goal.returns-clause-exact
returns-clause-exact c =
    let fit : IsBytes c.args.bytes.now = record { below = λ i. omega (arith, c.type_inv.bytes i) } in
    let none = frames_found c.args.id c.args.len c.args.bytes.now None fit c.in_default.ensures.size
    c.in_default.ensures.fields c.in-Ok.ensures.none in
    (none, c.new.ensures ∙ c.in-Ok.ensures.samples)
