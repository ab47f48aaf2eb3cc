-- The bytes of a name are ASCII, and so a text.
use Rattle.std.proofs.Common.{◌≡◌, ◌<◌, ℕ, Bool, true, List, length, arith}
use Rattle.std.proofs.{lemmas.List.Sums.AllPass-from_list_all, lemmas.Str.IsUtf8-from_ascii}
use Rattle.std.proofs.{lemmas.Str.Ascii.IsAscii-from_all}
use Rattle.std.specs.{Prelude.IsTrue, Prelude.◌&&◌, Prelude.nat_le, List.list_all, Str.IsUtf8}
use Rattle.pcm_base.specs.Form.{is_name_byte, begins_well, IsName}

byte_is_ascii : (b : ℕ) → is_name_byte b ≡ true → b < 128
byte_is_ascii b h = grind arith

third : (x y z : Bool) → IsTrue (x && y && z) → z ≡ true
third x y z h = grind arith

pub name_is_text : (name : List ℕ) → IsName name → IsUtf8 name
name_is_text name h =
    let all = AllPass-from_list_all is_name_byte name
    (third (nat_le (length name) 255) (begins_well name) (list_all is_name_byte name) h) in
    IsUtf8-from_ascii name (IsAscii-from_all name (λ i d lt. byte_is_ascii _ (all i d lt)))
