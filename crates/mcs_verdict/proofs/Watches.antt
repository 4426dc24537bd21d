-- The accounts of all threads after one row more.
use Rattle.std.proofs.Common.{◌≡◌, ◌≢◌, ℕ, suc, zero, ◌+◌, ◌-◌, ◌≤◌, ◌<◌, ◌^◌, false, eqb, List, [], ◌∷◌, get_or, set, length, map, Option, Some, None, refl, sym, ap, ◌∙◌, arith}
use Rattle.std.proofs.lemmas.Bool.{eq-eqb}
use Rattle.std.proofs.lemmas.Bool.Decides.{nat_tests}
use Rattle.mcs_ticks.specs.declared.row.Row.{Row}
use Rattle.mcs_ticks.specs.declared.row.What.{What}
use Rattle.mcs_ticks.specs.declared.row.What.TheVariants as row
use Rattle.mcs_system.specs.declared.part.ThreadPart.{ThreadPart}
use Rattle.mcs_system.specs.System.{System, no_thread}
use Rattle.mcs_verdict.specs.declared.account.Account.{Account}
use Rattle.mcs_verdict.specs.declared.held.Held.{Held}
use Rattle.mcs_verdict.specs.Standing.{telling}
use Rattle.mcs_verdict.specs.Stood.{no_ticks, all_ticks}
use Rattle.mcs_verdict.specs.Findings.{UpTo}
use Rattle.mcs_verdict.specs.Calls.{first_wait}
use Rattle.mcs_verdict.specs.Rounds.{begun_at}
use Rattle.mcs_verdict.specs.Words.{firsts_of, word_for}
use Rattle.mcs_verdict.specs.Account.{since_of, stood_of, active_of, counting, set_before, all_kept, account_of, seen_own, subject, is_some_of, is_about}
use Rattle.mcs_verdict.specs.Watch.{accounts_of, words_of, watch_of}
use Rattle.mcs_verdict.proofs.Counts.{all-stood_for}
use Rattle.mcs_verdict.proofs.Orders.{since-up_to}
use Rattle.mcs_verdict.proofs.Accounts.{same, own}
use Rattle.mcs_verdict.proofs.Words.{says_none, words_opened, words_unsaid}

-- no more ticks are counted than have passed
pub all-stood_of : (began : Option ℕ) (rows : List Row) → all_ticks (stood_of began rows) ≤ since_of rows
all-stood_of None rows = omega arith
all-stood_of (Some from) [] = omega arith
all-stood_of (Some from) (r ∷ rows) = omega (arith, all-stood_for rows from (r.moment - from))

accounts_same : (firsts : List Held) (n : ℕ) (parts : List ThreadPart) (r : Row) (past : List Row) → ((k : ℕ) → n ≤ k → k < n + length parts → is_about k r.what ≡ false)
    → accounts_of firsts n parts (r ∷ past) ≡ accounts_of firsts n parts past
accounts_same firsts n [] r past h = refl
accounts_same firsts n (part ∷ parts) r past h =
    cc (
      same firsts part n past r.moment r.core r.what (h n (omega arith) (omega arith)),
      accounts_same firsts (suc n) parts r past (λ k g l. h k (omega arith) (omega arith)),
    )

about : (what : What) (x k : ℕ) → subject what ≡ Some x → is_about k what ≡ eqb x k
about what x k e = ap (λ s. is_some_of s k) e

about_other : (what : What) (x k : ℕ) → subject what ≡ Some x → x ≢ k → is_about k what ≡ false
about_other what x k e h = about what x k e ∙ grind (arith, nat_tests)

accounts_at : (firsts : List Held) (x n y put : ℕ) (parts : List ThreadPart) (r : Row) (past : List Row) (new : Account) → subject r.what ≡ Some x → x ≡ n + y
    → (y < length parts → put ≡ (word_for firsts (first_wait (get_or parts y no_thread)) past).since) → UpTo r.moment past
    → (y < length parts → new ≡ seen_own put r.moment r.what (account_of firsts (get_or parts y no_thread) x past))
    → set (accounts_of firsts n parts past) y new ≡ accounts_of firsts n parts (r ∷ past)
accounts_at firsts x n y put [] r past new on e put_is h is = refl
accounts_at firsts x n zero put (part ∷ parts) r past new on e put_is h is =
    let here : x ≡ n = omega arith in
    cc (
      here,
      is (omega arith),
      own firsts part x past r.moment r.core put r.what (about r.what x x on ∙ eq-eqb x x refl) (put_is (omega arith)) h,
      accounts_same firsts (suc n) parts r past (λ k g l. about_other r.what x k on (omega arith)),
    )
accounts_at firsts x n (suc y) put (part ∷ parts) r past new on e put_is h is =
    cc (
      same firsts part n past r.moment r.core r.what (about_other r.what x n on (omega arith)),
      accounts_at firsts x (suc n) y put parts r past new on (omega arith) (λ g. put_is (omega arith)) h (λ g. is (omega arith)),
    )

pub length-accounts : (firsts : List Held) (n : ℕ) (parts : List ThreadPart) (past : List Row) → length (accounts_of firsts n parts past) ≡ length parts
length-accounts firsts n [] past = refl
length-accounts firsts n (part ∷ parts) past = ap suc (length-accounts firsts (suc n) parts past)

account_from : (firsts : List Held) (n y x : ℕ) (parts : List ThreadPart) (past : List Row) (d : Account) → x ≡ n + y → y < length parts
    → get_or (accounts_of firsts n parts past) y d ≡ account_of firsts (get_or parts y no_thread) x past
account_from firsts n y x [] past d e h = absurd (omega arith)
account_from firsts n zero x (part ∷ parts) past d e h = ap (λ k. account_of firsts part k past) (omega arith)
account_from firsts n (suc y) x (part ∷ parts) past d e h = account_from firsts (suc n) y x parts past d (omega arith) (omega arith)

-- the account that is kept
pub account_kept : (firsts : List Held) (x : ℕ) (parts : List ThreadPart) (past : List Row) (d : Account) → x < length parts
    → get_or (accounts_of firsts 0 parts past) x d ≡ account_of firsts (get_or parts x no_thread) x past
account_kept firsts x parts past d h = account_from firsts 0 x x parts past d (omega arith) h

-- a sum of what is kept and the moment of the next row is small
pub kept_small : (firsts : List Held) (x m : ℕ) (part : ThreadPart) (past : List Row) → UpTo m past → m ≤ 2 ^ 42 → all_kept (account_of firsts part x past) + m < 2 ^ 64
kept_small firsts x m part past up small =
    let account = account_of firsts part x past in
    let from = counting account.waits account.begun account.free account.called account.active (set_before firsts (first_wait part) x past) in
    omega (
      arith,
      all-stood_of from (telling x past),
      all-stood_of (Some 0) (telling x past),
      since-up_to x m past up,
    )

-- a row of no thread
pub accounts_unseen : (firsts : List Held) (parts : List ThreadPart) (r : Row) (past : List Row) → subject r.what ≡ None
    → accounts_of firsts 0 parts (r ∷ past) ≡ accounts_of firsts 0 parts past
accounts_unseen firsts parts r past e = accounts_same firsts 0 parts r past (λ k h l. ap (λ s. is_some_of s k) e)

-- a row of this thread
pub accounts_told : (firsts : List Held) (x put : ℕ) (parts : List ThreadPart) (r : Row) (past : List Row) (accounts : List Account) (new d other : Account)
    → accounts ≡ accounts_of firsts 0 parts past → subject r.what ≡ Some x → put ≡ (word_for firsts (get_or accounts x other).waits past).since → UpTo r.moment past → r.moment ≤ 2 ^ 42
    → (all_kept (get_or accounts x d) + r.moment < 2 ^ 64 → new ≡ seen_own put r.moment r.what (get_or accounts x d))
    → set accounts x new ≡ accounts_of firsts 0 parts (r ∷ past)
accounts_told firsts x put parts r past accounts new d other e on put_is up small is =
    let lies : (d : Account) → x < length parts → get_or accounts x d ≡ account_of firsts (get_or parts x no_thread) x past =
    λ d h. rw e (account_kept firsts x parts past d h)
    in
    rw e (accounts_at firsts x 0 x put parts r past new on (omega arith)
    (λ h. put_is ∙ ap (λ (account : Account). (word_for firsts account.waits past).since) (lies other h)) up
    (λ h. is (rw (lies d h) (kept_small firsts x r.moment (get_or parts x no_thread) past up small)) ∙ ap (seen_own put r.moment r.what) (lies d h)))

-- a row of a thread that the system does not have
pub accounts_untold : (firsts : List Held) (x : ℕ) (parts : List ThreadPart) (r : Row) (past : List Row) (accounts : List Account)
    → accounts ≡ accounts_of firsts 0 parts past → subject r.what ≡ Some x → UpTo r.moment past → length accounts ≤ x
    → accounts ≡ accounts_of firsts 0 parts (r ∷ past)
accounts_untold firsts x parts r past accounts e on up h =
    e ∙ sym (accounts_same firsts 0 parts r past (λ k g l. about_other r.what x k on (omega (arith, ap length e, length-accounts firsts 0 parts past))))

-- an account at first counts no tick, and depends on no word
account_opened : (firsts : List Held) (n : ℕ) (part : ThreadPart) → account_of [] part 0 [] ≡ account_of firsts part n []
account_opened firsts n part = cc (none (from []), none (from firsts))
  where
    from : List Held → Option ℕ
    from firsts =
        let waits = first_wait part in
        counting waits (begun_at waits part.start) part.start None (active_of (begun_at waits part.start) []) (set_before firsts waits n [])

    none : (from : Option ℕ) → stood_of from [] ≡ no_ticks
    none None = refl
    none (Some from) = refl

-- the accounts at first
pub accounts_opened : (firsts : List Held) (n : ℕ) (parts : List ThreadPart) → map (λ part. account_of [] part 0 []) parts ≡ accounts_of firsts n parts []
accounts_opened firsts n [] = refl
accounts_opened firsts n (part ∷ parts) = cc (account_opened firsts n part, accounts_opened firsts (suc n) parts)

-- what is kept at first
pub watch_opened : (system parts : System) (accounts : List Account) (words : List Held) → parts ≡ system
    → accounts ≡ map (λ part. account_of [] part 0 []) parts.threads → words ≡ firsts_of parts
    → record { accounts = accounts; words = words } ≡ watch_of system []
watch_opened system parts accounts words same a w =
    cc (accounts_opened (firsts_of system) 0 parts.threads, words_opened 0 (firsts_of parts))
