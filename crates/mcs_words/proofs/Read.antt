-- The value read from a match.
use Rattle.std.proofs.Common.{◌≡◌, ap, ℕ, List, Option, Some, None, refl}
use Rattle.std.specs.Prelude.{Result, Ok, Err}
use Rattle.std.specs.Str.Parse.{ParsesUnsigned, digits_value, without_leading_plus}
use Rattle.clap.specs.Words.{ReadsOne, Row, Text, first_of, IsUnsignedIn}
use Rattle.mcs_words.specs.CommandLine.{number_of}

-- a text that passed its range reads as its number
pub number_read : (E : Type 0) (G : List ℕ → Result ℕ E → Type 0) (least most : ℕ) (t : Text) (r : Option ℕ)
    → ReadsOne G t r → ((u : List ℕ) (x : Result ℕ E) → G u x → ParsesUnsigned 64 10 u x)
    → IsUnsignedIn least most t → r ≡ Some (digits_value 10 (without_leading_plus t))
number_read E G least most t (Some v) read parses passed = ap (λ n. Some n) (parses t (Ok v) read).1
number_read E G least most t None read parses passed = absurd (parses t (Err read.0) read.1 (passed.0, passed.1))

-- the number of an option whose text is known
pub number_at : (id t : Text) (rows : List Row) → first_of id rows ≡ Some t → number_of id rows ≡ digits_value 10 (without_leading_plus t)
number_at id t rows e = rw e refl
