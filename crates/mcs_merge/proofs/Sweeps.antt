-- Cores that are put into the sets of a sweep, and taken out.
use Rattle.std.proofs.Common.{◌≡◌, ◌≢◌, ℕ, zero, suc, ◌+◌, ◌-◌, ◌*◌, ◌%◌, ◌^◌, ◌<◌, ◌≤◌, ◌==◌, ◌&&◌, if◌then◌else◌, Bool, true, false, List, length, get_or, set, bit_and, bit_or, Option, Some, None, refl, sym, ap, ◌∙◌, inl, inr, arith, get_or-set_same, get_or-set_other}
use Rattle.std.specs.Prelude.{nat_lt, nat_le, replicate}
use Rattle.std.specs.Int.{w64, bit_at, bit_not}
use Rattle.std.proofs.lemmas.Bool.{cases_eq, eq-eqb, ne_eqb}
use Rattle.std.proofs.lemmas.Bool.Decides.{nat_tests}
use Rattle.std.proofs.lemmas.Nat.Bits.{bit_at_set_same, bit_at_set_other, bit_at_clear_same, bit_at_clear_other, bit_at-zero}
use Rattle.std.proofs.lemmas.Option.{none-some, cond_some}
use Rattle.mcs_ticks.specs.Soonest.{before}
use Rattle.mcs_merge.specs.stored.Sweep.{Sweep, has, IsLowest, IsPut, IsTaken}

-- sets without cores
pub none-of : (n place d : ℕ) → has (replicate n 0) place d ≡ false
none-of zero place d = ap (λ (bit : ℕ). bit == 1) (bit_at-zero d)
none-of (suc n) zero d = ap (λ (bit : ℕ). bit == 1) (bit_at-zero d)
none-of (suc n) (suc place) d = none-of n place d

-- a set is written in which the bit of one core is changed, and the others stay
has-changed : (b : Bool) (sets : List ℕ) (at core word place d : ℕ) → at < length sets → d < 64 → (bit_at word core == 1) ≡ b →
    ((i : ℕ) → i < 64 → i ≢ core → bit_at word i ≡ bit_at (get_or sets at 0) i) →
    has (set sets at word) place d ≡ (if d == core && place == at then b else has sets place d)
has-changed b sets at core word place d within few is others = elim (cases_eq d core) [
  | inl m ↦ elim (cases_eq place at) [
    | inl e ↦
        rw (eq-eqb d core m, eq-eqb place at e) (
        ap (λ (k : ℕ). bit_at (get_or (set sets at word) k 0) d == 1) e ∙ ap (λ (w : ℕ). bit_at w d == 1) (get_or-set_same sets at word 0 within)
        ∙ ap (λ (i : ℕ). bit_at word i == 1) m ∙ is
        )
    | inr ne ↦ rw (eq-eqb d core m, ne_eqb place at ne) (ap (λ (w : ℕ). bit_at w d == 1) (get_or-set_other sets at place word 0 ne))
  ]
  | inr n ↦ elim (cases_eq place at) [
    | inl e ↦
        rw (ne_eqb d core n) (
        ap (λ (k : ℕ). bit_at (get_or (set sets at word) k 0) d == 1) e ∙ ap (λ (w : ℕ). bit_at w d == 1) (get_or-set_same sets at word 0 within)
        ∙ ap (λ (bit : ℕ). bit == 1) (others d few n) ∙ ap (λ (k : ℕ). bit_at (get_or sets k 0) d == 1) (sym e)
        )
    | inr ne ↦ rw (ne_eqb d core n) (ap (λ (w : ℕ). bit_at w d == 1) (get_or-set_other sets at place word 0 ne))
  ]
]

has-put : (sets : List ℕ) (at core place d : ℕ) → at < length sets → core < 64 → d < 64 →
    has (set sets at (bit_or (get_or sets at 0) (1 * 2 ^ core % 2 ^ 64))) place d ≡ (if d == core && place == at then true else has sets place d)
has-put sets at core place d within low few =
    let word = get_or sets at 0 in
    has-changed true sets at core _ place d within few (ap (λ (bit : ℕ). bit == 1) (bit_at_set_same w64 word core low)) (λ i _ ne. bit_at_set_other w64 word core low i ne)

has-taken : (sets : List ℕ) (at core place d : ℕ) → at < length sets → core < 64 → d < 64 →
    has (set sets at (bit_and (get_or sets at 0) (bit_not w64 (1 * 2 ^ core % 2 ^ 64)))) place d ≡ (if d == core && place == at then false else has sets place d)
has-taken sets at core place d within low few =
    let word = get_or sets at 0 in
    has-changed false sets at core _ place d within few (ap (λ (bit : ℕ). bit == 1) (bit_at_clear_same w64 word core low)) (λ i l ne. bit_at_clear_other w64 word core low i l ne)

-- a next moment that is before another
pub before-is : (to t : ℕ) (next : Option ℕ) → Some t ≡ before to next → (next ≡ Some t) × (t < to)
before-is to t None e = absurd (none-some t (sym e))
before-is to t (Some m) e =
    let is = cond_some (nat_lt m to) m t (sym e) in
    let same : m ≡ t = is.1 in
    let early : nat_lt m to ≡ true = is.0 in
    (ap Some same, grind (arith, nat_tests))

pub put-is : (s : Sweep) (core t at : ℕ) → core < 64 → t < s.end → s.start + s.at ≤ t → at ≡ t - s.start → at < length s.sets →
    IsPut s core (Some t) (record s { sets = set s.sets at (bit_or (get_or s.sets at 0) (1 * 2 ^ core % 2 ^ 64)) })
put-is s core t at low early late is within =
    let is_early : nat_lt t s.end ≡ true = grind (arith, nat_tests) in
    let is_late : nat_le (s.start + s.at) t ≡ true = grind (arith, nat_tests) in
    record {
      same = (refl, refl, refl);
      sets = λ place d few. rw (is_early, is_late, sym is) (has-put s.sets at core place d within low few);
    }

pub taken-is : (s : Sweep) (at core : ℕ) → at < length s.sets → s.at ≤ at → ((place d : ℕ) → s.at ≤ place → place < at → has s.sets place d ≡ false) → IsLowest (get_or s.sets at 0) core →
    IsTaken s core (record s { sets = set s.sets at (bit_and (get_or s.sets at 0) (bit_not w64 (1 * 2 ^ core % 2 ^ 64))); at = at })
taken-is s at core within later none lowest =
    record {
      same = (refl, refl);
      later = later;
      few = lowest.0;
      was = ap (λ (bit : ℕ). bit == 1) lowest.1;
      none = none;
      lower = λ d l. ap (λ (bit : ℕ). bit == 1) (lowest.2 d l);
      sets = λ place d few. has-taken s.sets at core place d within lowest.0 few;
    }
