-- The numbers of an item that is read lie within their limits.
use Rattle.std.proofs.Common.{◌≡◌, ℕ, ◌-◌, ◌^◌, ◌<◌, ◌≤◌, nat_le, Bool, true, false, cond, ◌&&◌, List, [], ◌∷◌, Some, None, Ok, Err, refl, subst, arith}
use Rattle.std.proofs.lemmas.Bool.{and_parts, leb-true}
use Rattle.mcs_script.specs.declared.fault.ItemFault.TheVariants.{UnknownWord}
use Rattle.mcs_script.specs.Raw.{Raw, Compute, Signal, Wait, Yield, On, Call, Spin, parts, is_numeral, value_of, number_up_to, with_number, compute_of, signal_of, wait_of, yield_of, on_of, call_of, spin_of, item_of, new_item_of, read_as, read_new_as}
use Rattle.mcs_load.specs.Script.{read_text}

-- the numbers of an item are within their limits
abbrev pub IsRaw : Raw → Type 0
IsRaw (Compute ticks) = (1 ≤ ticks) × (ticks ≤ 2 ^ 40)
IsRaw (Signal name badge) = (1 ≤ badge) × (badge < 2 ^ 32)
IsRaw (Wait name) = Unit {0}
IsRaw Yield = Unit {0}
IsRaw (On badges) = (1 ≤ badges) × (badges < 2 ^ 32)
IsRaw (Call name badge) = Unit {0}
IsRaw Spin = Unit {0}

same_raw : (a b : Raw) → a ≡ b → IsRaw a → IsRaw b
same_raw a b e h = let P : Raw → Type 0 = λ r. IsRaw r in subst P e h

module _ (item : ℕ → Raw) (most : ℕ) (each : (n : ℕ) → 1 ≤ n → n ≤ most → IsRaw (item n)) where
  number_by : (b numeral : Bool) (n : ℕ) (raw : Raw) → (numeral && (nat_le 1 n && nat_le n most)) ≡ b → with_number item (cond b (Some n) None) ≡ Ok raw → IsRaw raw
  number_by true numeral n raw e h =
      let p = and_parts numeral (nat_le 1 n && nat_le n most) e in
      let q = and_parts (nat_le 1 n) (nat_le n most) p.1 in
      same_raw (item n) raw (cc) (each n (leb-true 1 n q.0) (leb-true n most q.1))
  number_by false numeral n raw e h = cc

  number_raw : (digits : List ℕ) (raw : Raw) → with_number item (number_up_to most digits) ≡ Ok raw → IsRaw raw
  number_raw digits raw h = number_by _ (is_numeral digits) (value_of digits) raw refl h

compute_raw : (others : List (List ℕ)) (raw : Raw) → compute_of others ≡ Ok raw → IsRaw raw
compute_raw [] raw h = cc
compute_raw (ticks ∷ []) raw h = number_raw Compute (2 ^ 40) (λ n low high. (low, high)) ticks raw h
compute_raw (ticks ∷ extra ∷ others) raw h = cc

signal_raw : (others : List (List ℕ)) (raw : Raw) → signal_of others ≡ Ok raw → IsRaw raw
signal_raw [] raw h = cc
signal_raw (note ∷ []) raw h = cc
signal_raw (note ∷ badge ∷ []) raw h = number_raw (Signal note) (2 ^ 32 - 1) (λ n low high. (low, omega arith)) badge raw h
signal_raw (note ∷ badge ∷ extra ∷ others) raw h = cc

wait_raw : (others : List (List ℕ)) (raw : Raw) → wait_of others ≡ Ok raw → IsRaw raw
wait_raw [] raw h = cc
wait_raw (note ∷ []) raw h = same_raw (Wait note) raw (cc) tt
wait_raw (note ∷ extra ∷ others) raw h = cc

yield_raw : (others : List (List ℕ)) (raw : Raw) → yield_of others ≡ Ok raw → IsRaw raw
yield_raw [] raw h = same_raw Yield raw (cc) tt
yield_raw (extra ∷ others) raw h = cc

word_raw : (computes signals waits yields : Bool) (others : List (List ℕ)) (raw : Raw)
    → cond computes (compute_of others) (cond signals (signal_of others) (cond waits (wait_of others) (cond yields (yield_of others) (Err UnknownWord)))) ≡ Ok raw → IsRaw raw
word_raw true signals waits yields others raw h = compute_raw others raw h
word_raw false true waits yields others raw h = signal_raw others raw h
word_raw false false true yields others raw h = wait_raw others raw h
word_raw false false false true others raw h = yield_raw others raw h
word_raw false false false false others raw h = cc

item_raw : (parts : List (List ℕ)) (raw : Raw) → item_of parts ≡ Ok raw → IsRaw raw
item_raw [] raw h = cc
item_raw (word ∷ others) raw h = word_raw _ _ _ _ others raw h

on_raw : (others : List (List ℕ)) (raw : Raw) → on_of others ≡ Ok raw → IsRaw raw
on_raw [] raw h = cc
on_raw (badges ∷ []) raw h = number_raw On (2 ^ 32 - 1) (λ n low high. (low, omega arith)) badges raw h
on_raw (badges ∷ extra ∷ others) raw h = cc

call_raw : (others : List (List ℕ)) (raw : Raw) → call_of others ≡ Ok raw → IsRaw raw
call_raw [] raw h = cc
call_raw (server ∷ []) raw h = cc
call_raw (server ∷ badge ∷ []) raw h = number_raw (Call server) (2 ^ 32 - 1) (λ n low high. tt) badge raw h
call_raw (server ∷ badge ∷ extra ∷ others) raw h = cc

spin_raw : (others : List (List ℕ)) (raw : Raw) → spin_of others ≡ Ok raw → IsRaw raw
spin_raw [] raw h = same_raw Spin raw (cc) tt
spin_raw (extra ∷ others) raw h = cc

new_word_raw : (ons calls spins : Bool) (word : List ℕ) (others : List (List ℕ)) (raw : Raw)
    → cond ons (on_of others) (cond calls (call_of others) (cond spins (spin_of others) (item_of (word ∷ others)))) ≡ Ok raw → IsRaw raw
new_word_raw true calls spins word others raw h = on_raw others raw h
new_word_raw false true spins word others raw h = call_raw others raw h
new_word_raw false false true word others raw h = spin_raw others raw h
new_word_raw false false false word others raw h = item_raw (word ∷ others) raw h

new_item_raw : (parts : List (List ℕ)) (raw : Raw) → new_item_of parts ≡ Ok raw → IsRaw raw
new_item_raw [] raw h = cc
new_item_raw (word ∷ others) raw h = new_word_raw _ _ _ word others raw h

-- in a file of any version
pub text_raw : (is_new : Bool) (text : List ℕ) (raw : Raw) → read_text is_new text ≡ Ok raw → IsRaw raw
text_raw true text raw h = new_item_raw (parts text) raw h
text_raw false text raw h = item_raw (parts text) raw h
