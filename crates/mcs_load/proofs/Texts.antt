-- The test whether bytes are text.
use Rattle.std.proofs.Common.{◌≡◌, ℕ, Bool, true, false, List, IsUtf8, refl}
use Rattle.std.proofs.lemmas.Str.{IsUtf8-from_is_utf8, is_utf8-from_IsUtf8}
use Rattle.std.specs.Str.{is_utf8}

pub is_text : (bytes : List ℕ) → IsUtf8 bytes → is_utf8 bytes ≡ true
is_text bytes h = is_utf8-from_IsUtf8 bytes h

not_text_as : (b : Bool) (bytes : List ℕ) → is_utf8 bytes ≡ b → ¬ IsUtf8 bytes → b ≡ false
not_text_as true bytes e h = absurd (h (IsUtf8-from_is_utf8 bytes e))
not_text_as false bytes e h = refl

pub not_text : (bytes : List ℕ) → ¬ IsUtf8 bytes → is_utf8 bytes ≡ false
not_text bytes h = not_text_as (is_utf8 bytes) bytes refl h
