-- What a word of the command line looks like.
use Rattle.std.specs.Prelude.{ℕ, ◌&&◌, ◌==◌, Bool, false, not, List, [], ◌∷◌, Option, Some, None, is_some}
use Rattle.std.specs.Prelude.{if◌then◌else◌, option_map}
use Rattle.std.specs.List.{list_any, before_first, after_first}

abbrev pub Text : Type 0
Text = List ℕ

abbrev pub is_equals_sign : ℕ → Bool
is_equals_sign b = b == 61

-- `NAME`, or `NAME=VALUE`, which is cut at the first `=`
abbrev pub name_and_value : Text → Text × Option Text
name_and_value text = (
  before_first is_equals_sign text,
  if list_any is_equals_sign text then Some (after_first is_equals_sign text) else None,
)

-- what stands after two hyphens, where anything does
abbrev pub behind_hyphens : Text → Option Text
behind_hyphens (a ∷ b ∷ c ∷ rest) = if a == 45 && b == 45 then Some (c ∷ rest) else None
behind_hyphens _ = None

-- the name of an option `--NAME` or `--NAME=VALUE`, and its value where it has one
abbrev pub option_in : Text → Option (Text × Option Text)
option_in word = option_map name_and_value (behind_hyphens word)

abbrev pub begins_with_hyphen : Text → Bool
begins_with_hyphen [] = false
begins_with_hyphen (x ∷ xs) = x == 45

-- it begins with a hyphen and is no option, as `-r`, `-` and `--`: no command has such a word
abbrev pub is_odd : Text → Bool
is_odd word = begins_with_hyphen word && not (is_some (option_in word))
