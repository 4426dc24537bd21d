-- The accounts of all cores put together.
use Rattle.std.proofs.Common.{◌≡◌, ℕ, ◌+◌, ◌<◌, ◌≤◌, List, length, get_or, set, map, sym, ◌∙◌, arith}
use Rattle.std.specs.List.{range_with_len}
use Rattle.std.proofs.lemmas.Grind.{common_steps}
use Rattle.std.proofs.lemmas.List.{get_or-set_other, ext_get_or}
use Rattle.std.proofs.lemmas.List.FromFn.{get_or-map-range_with_len, length-map-range_with_len}
use Rattle.mcs_report.specs.declared.account.Account.{Account}
use Rattle.mcs_report.specs.Tally.{no_account}

module _ (account : ℕ → Account) where
  -- the first n accounts are in place
  pub record ArePut (accounts : List Account) (n : ℕ) : Type 0 where
    pub each : (k : ℕ) → k < n → get_or accounts k no_account ≡ account k

  pub put-none : (accounts : List Account) → ArePut accounts 0
  put-none accounts = record { each = λ k l. absurd (omega arith) }

  pub put-more : (accounts : List Account) (n : ℕ) (a : Account) → ArePut accounts n → n < length accounts → a ≡ account n → ArePut (set accounts n a) (n + 1)
  put-more accounts n a put within is = record { each = λ k l. grind (arith, common_steps, is, put.each k, get_or-set_other accounts n k a no_account) }

  pub put-all : (accounts : List Account) (n many : ℕ) → ArePut accounts n → many ≤ n → length accounts ≡ many → accounts ≡ map account (range_with_len 0 many)
  put-all accounts n many put all long =
      ext_get_or no_account accounts (map account (range_with_len 0 many))
      (long ∙ sym (length-map-range_with_len account 0 many))
      (λ k l. put.each k (omega (arith, l, long, all)) ∙ sym (get_or-map-range_with_len account 0 many k k no_account (omega (arith, l, long)) (omega arith)))
