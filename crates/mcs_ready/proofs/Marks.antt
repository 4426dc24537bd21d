-- Bits of a set of priorities, set, cleared and found.
use Rattle.std.proofs.Common.{◌≡◌, ◌≢◌, ℕ, suc, ◌+◌, ◌-◌, ◌*◌, ◌/◌, ◌%◌, ◌^◌, ◌<◌, ◌≤◌, ◌==◌, if◌then◌else◌, Bool, true, false, List, length, get_or, set, bit_and, bit_or, ap, ◌∙◌, arith, get_or-set_same, get_or-set_other}
use Rattle.std.specs.Int.{w64, bit_at, bit_not}
use Rattle.std.proofs.lemmas.Bool.Decides.{nat_tests}
use Rattle.std.proofs.lemmas.Nat.Bits.{bit_at_set_same, bit_at_set_other, bit_at_clear_same, bit_at_clear_other, bit_at_above}
use Rattle.std.proofs.Math.Nat.{pow-suc}
use Rattle.std.proofs.lemmas.Nat.{shr_high}
use Rattle.mcs_ready.specs.stored.Priorities.{has}

-- a word is written: at a priority of another word nothing changes
has-other : (words : List ℕ) (p q word : ℕ) → q / 64 ≢ p / 64 → has (set words (p / 64) word) q ≡ has words q
has-other words p q word ne = ap (λ (w : ℕ). bit_at w (q % 64) == 1) (get_or-set_other words (p / 64) (q / 64) word 0 ne)

-- and at one of that word its bit decides
has-same : (words : List ℕ) (p q word : ℕ) → p / 64 < length words → q / 64 ≡ p / 64 → has (set words (p / 64) word) q ≡ (bit_at word (q % 64) == 1)
has-same words p q word below e =
    ap (λ (w : ℕ). bit_at w (q % 64) == 1) (ap (λ (k : ℕ). get_or (set words (p / 64) word) k 0) e ∙ get_or-set_same words (p / 64) word 0 below)

-- a word is written in which one bit is changed and the others stay
has-changed : (b : Bool) (words : List ℕ) (p q word : ℕ) → p / 64 < length words → (bit_at word (p % 64) == 1) ≡ b →
    ((i : ℕ) → i < 64 → i ≢ p % 64 → bit_at word i ≡ bit_at (get_or words (p / 64) 0) i) →
    has (set words (p / 64) word) q ≡ (if q == p then b else has words q)
has-changed b words p q word below at_p others = grind (arith, nat_tests, has-other words p q word, has-same words p q word below, others (q % 64))

-- the bit of a priority is set, and cleared
pub has-set : (words : List ℕ) (p q : ℕ) → p / 64 < length words →
    has (set words (p / 64) (bit_or (get_or words (p / 64) 0) (1 * 2 ^ (p % 64) % 2 ^ 64))) q ≡ (if q == p then true else has words q)
has-set words p q below =
    let word = get_or words (p / 64) 0 in
    let low : p % 64 < 64 = omega arith in
    has-changed true words p q _ below (ap (λ (bit : ℕ). bit == 1) (bit_at_set_same w64 word (p % 64) low)) (λ i _ ne. bit_at_set_other w64 word (p % 64) low i ne)

pub has-cleared : (words : List ℕ) (p q : ℕ) → p / 64 < length words →
    has (set words (p / 64) (bit_and (get_or words (p / 64) 0) (bit_not w64 (1 * 2 ^ (p % 64) % 2 ^ 64)))) q ≡ (if q == p then false else has words q)
has-cleared words p q below =
    let word = get_or words (p / 64) 0 in
    let low : p % 64 < 64 = omega arith in
    has-changed false words p q _ below (ap (λ (bit : ℕ). bit == 1) (bit_at_clear_same w64 word (p % 64) low)) (λ i within ne. bit_at_clear_other w64 word (p % 64) low i within ne)

-- the highest bit of a word is 1
bit_at-highest : (n k : ℕ) → 2 ^ k ≤ n → n < 2 * 2 ^ k → bit_at n k ≡ 1
bit_at-highest n k low high =
    let split : n ≡ 1 * 2 ^ k + (n - 2 ^ k) = omega arith in
    ap (λ (m : ℕ). m / 2 ^ k % 2) split ∙ ap (λ (m : ℕ). m % 2) (shr_high 1 k (n - 2 ^ k) (omega arith))

-- the priority of the highest bit of the highest word that is not 0: it is in the set ..
pub has-highest : (words : List ℕ) (word k : ℕ) → k < 64 → 2 ^ k ≤ get_or words word 0 → get_or words word 0 < 2 * 2 ^ k → has words (word * 64 + k) ≡ true
has-highest words word k below low high =
    let e : (word * 64 + k) / 64 ≡ word = omega arith in
    let f : (word * 64 + k) % 64 ≡ k = omega arith in
    rw (e, f) (ap (λ (bit : ℕ). bit == 1) (bit_at-highest (get_or words word 0) k low high))

-- .. and none above it in that word is
pub has_above : (words : List ℕ) (word k q : ℕ) → get_or words word 0 < 2 * 2 ^ k → word * 64 + k < q → q < word * 64 + 64 → has words q ≡ false
has_above words word k q high above within =
    let e : q / 64 ≡ word = omega arith in
    let f : get_or words (q / 64) 0 < 2 ^ suc k = rw (e, pow-suc 2 k) (omega arith) in
    ap (λ (bit : ℕ). bit == 1) (bit_at_above (get_or words (q / 64) 0) (suc k) (q % 64) f (omega arith))
