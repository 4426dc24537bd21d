-- The account of a thread after one more row.
use Rattle.std.proofs.Common.{◌≡◌, ℕ, ◌-◌, ◌≤◌, ◌<◌, max, true, false, List, [], ◌∷◌, Option, Some, None, refl, sym, ap, ◌∙◌, arith}
use Rattle.std.proofs.lemmas.Bool.Decides.{nat_tests}
use Rattle.mcs_ticks.specs.declared.row.Row.{Row}
use Rattle.mcs_ticks.specs.declared.row.What.{What}
use Rattle.mcs_ticks.specs.declared.row.What.TheVariants as row
use Rattle.mcs_ticks.specs.declared.row.Why.TheVariants as why
use Rattle.mcs_system.specs.declared.part.ThreadPart.{ThreadPart}
use Rattle.mcs_verdict.specs.declared.account.Account.{Account}
use Rattle.mcs_verdict.specs.declared.held.Held.{Held}
use Rattle.mcs_verdict.specs.Activation.{is_active, first_for}
use Rattle.mcs_verdict.specs.Standing.{telling, standing_after}
use Rattle.mcs_verdict.specs.Stood.{no_ticks, stood_for}
use Rattle.mcs_verdict.specs.Calls.{first_wait, bits_of}
use Rattle.mcs_verdict.specs.Parts.{free}
use Rattle.mcs_verdict.specs.Words.{held_of, word_for}
use Rattle.mcs_verdict.specs.Rounds.{begun_at, begun_by_word, begun, called_by, called, rounds_of}
use Rattle.mcs_verdict.specs.Jobs.{preemptions}
use Rattle.mcs_verdict.specs.Findings.{UpTo}
use Rattle.mcs_verdict.specs.Account.{standing_of, since_of, stood_of, active_of, counting, set_before, kept, account_of, stood_from, stood_since, or_first, active_since, total_at, told, ends, given, seen_own, is_about}
use Rattle.mcs_verdict.proofs.Stretches.{stretch, stretch_pending, stretch_first, first_pending}
use Rattle.mcs_verdict.proofs.Orders.{since-up_to, set_stays}

-- no tick has passed
pub none_passed : (rows : List Row) (from n : ℕ) → n ≡ 0 → stood_for rows from n ≡ no_ticks
none_passed rows from n e = ap (stood_for rows from) e

pub none_active : (rows : List Row) (from n : ℕ) → n ≡ 0 → first_for rows from n ≡ None
none_active rows from n e = ap (first_for rows from) e

-- if the round begins at the time of the latest row or later
pub none_yet : (rows : List Row) (m : ℕ) → since_of rows ≤ m → (stood_of (Some m) rows ≡ no_ticks) × (active_of (Some m) rows ≡ None)
none_yet [] m h = (refl, refl)
none_yet (r ∷ rows) m h = (none_passed rows m (r.moment - m) (omega arith), none_active rows m (r.moment - m) (omega arith))

-- an account is enough to say how the thread stood from some time on, if it has the ticks up to its
-- latest telling row
pub record Keeps (rows : List Row) (from : ℕ) (account : Account) : Type 0 where
  pub stands : account.standing ≡ standing_of rows
  pub since : account.since ≡ since_of rows
  pub stood : from < since_of rows → account.stood ≡ stood_of (Some from) rows

left : (rows : List Row) (from : ℕ) (account : Account) → Keeps rows from account → stood_from from account ≡ stood_of (Some from) rows
left rows from account k = grind (arith, nat_tests, k.since, k.stood, none_yet rows from)

pub since-kept : (from m : ℕ) (account : Account) (rows : List Row) → since_of rows ≤ m → Keeps rows from account
    → stood_since (Some from) m (standing_of rows) account ≡ stood_for rows from (m - from)
since-kept from m account [] h k = grind (arith, k.since, left [] from account k, stretch_pending from (m - from))
since-kept from m account (r ∷ rows) h k = grind (arith, k.since, left (r ∷ rows) from account k, stretch r rows from m h)

-- when it was first ready or running
pub active-kept : (began : Option ℕ) (m : ℕ) (account : Account) (r : Row) (rows : List Row) → r.moment ≡ m → since_of rows ≤ m
    → account.active ≡ active_of began rows → account.since ≡ since_of rows
    → active_since began m (standing_of rows) account ≡ active_of began (r ∷ rows)
active-kept None m account r rows at h a s = a
active-kept (Some from) m account r [] at h a s = grind (arith, a, s, at, first_pending from (r.moment - from))
active-kept (Some from) m account r (r' ∷ rows) at h a s = grind (arith, a, s, at, stretch_first r' rows from m h)

-- how it stood from time 0 on
pub total-kept : (m : ℕ) (account : Account) (rows : List Row) → since_of rows ≤ m
    → account.total ≡ stood_of (Some 0) rows → account.since ≡ since_of rows
    → total_at m (standing_of rows) account ≡ stood_for rows 0 (m - 0)
total-kept m account [] h t s = grind (arith, t, s, stretch_pending 0 m)
total-kept m account (r ∷ rows) h t s = grind (arith, t, s, stretch r rows 0 m h)

-- a first tick of the round that is below the time of the latest telling row was one before
pub active_earlier : (began : Option ℕ) (a m : ℕ) (r : Row) (rows : List Row) → r.moment ≡ m → since_of rows ≤ m
    → active_of began (r ∷ rows) ≡ Some a → a < since_of rows → active_of began rows ≡ Some a
active_earlier None a m r rows at h e less = e
active_earlier (Some from) a m r [] at h e less = absurd (omega (arith, less))
active_earlier (Some from) a m r (r' ∷ rows) at h e less =
    let first = stretch_first r' rows from r.moment (omega (arith, at, h)) in
    let one : or_first (first_for rows from (r'.moment - from)) (is_active (standing_after r'.what)) (max r'.moment from) r.moment ≡ Some a = sym first ∙ e in
    let s : r'.moment ≤ max r'.moment from = omega arith in
    grind (arith, nat_tests, one, less, s)

-- what was counted from some time on before a row is counted from then on after it
counts_on : (waits began : Option ℕ) (free : ℕ) (word : Option ℕ) (set put from m : ℕ) (r : Row) (rows : List Row) → r.moment ≡ m → since_of rows ≤ m
    → (max put free < since_of rows → set ≡ put)
    → counting waits began free word (active_of began (r ∷ rows)) put ≡ Some from → from < since_of rows
    → counting waits began free word (active_of began rows) set ≡ Some from
counts_on (Some note) (Some b) free word set put from m r rows at h same e less = e
counts_on (Some note) None free word set put from m r rows at h same e less = grind (arith, e, less, same)
counts_on None began free word set put from m r rows at h same e less = by (active_of began (r ∷ rows)) refl
  where
    by : (a : Option ℕ) → active_of began (r ∷ rows) ≡ a → counting None began free word (active_of began rows) set ≡ Some from
    by None is = grind (arith, e, is)
    by (Some a) is =
        let at_from : max a free ≡ from = grind (arith, e, is) in
        let before = active_earlier began a m r rows at h is (omega (arith, at_from, less)) in
        grind (arith, before, at_from)

-- the parts of a round after a telling row
stood-kept : (waits began : Option ℕ) (free : ℕ) (word : Option ℕ) (set put m : ℕ) (account : Account) (r : Row) (rows : List Row) (from : Option ℕ)
    → r.moment ≡ m → since_of rows ≤ m → (max put free < since_of rows → set ≡ put)
    → account.standing ≡ standing_of rows → account.since ≡ since_of rows
    → account.stood ≡ stood_of (counting waits began free word (active_of began rows) set) rows
    → counting waits began free word (active_of began (r ∷ rows)) put ≡ from
    → stood_since from m (standing_of rows) account ≡ stood_of from (r ∷ rows)
stood-kept waits began free word set put m account r rows None at h same st si so e = refl
stood-kept waits began free word set put m account r rows (Some from) at h same st si so e =
    let has : Keeps rows from account = record {
      stands = st;
      since = si;
      stood = λ less. so ∙ ap (λ from. stood_of from rows) (counts_on waits began free word set put from m r rows at h same e less);
    } in
    since-kept from m account rows h has ∙ ap (λ m. stood_for rows from (m - from)) (sym at)

-- a telling row
told-kept : (deadline : ℕ) (waits bits : Option ℕ) (free rounds : ℕ) (began word : Option ℕ) (set put k : ℕ) (r : Row) (rows : List Row) → since_of rows ≤ r.moment
    → (max put free < since_of rows → set ≡ put)
    → told put r.moment r.what (kept deadline waits bits free rounds began word set k rows) ≡ kept deadline waits bits free rounds began word put k (r ∷ rows)
told-kept deadline waits bits free rounds began word set put k r rows h same =
    let account = kept deadline waits bits free rounds began word set k rows in
    let active = active-kept began r.moment account r rows refl h refl refl in
    let stood = stood-kept waits began free word set put r.moment account r rows (counting waits began free word (active_of began (r ∷ rows)) put) refl h same refl refl refl refl in
    let total = total-kept r.moment account rows h refl refl in
    cc (active, stood, total)

-- an end at the moment of a row
ends-kept : (deadline : ℕ) (waits bits : Option ℕ) (free rounds number : ℕ) (began word : Option ℕ) (set k m : ℕ) (rows : List Row) → since_of rows ≤ m
    → ends m number (begun_at waits m) (kept deadline waits bits free rounds began word set k rows)
    ≡ kept deadline waits bits m number (begun_at waits m) word set 0 rows
ends-kept deadline None bits free rounds number began word set k m rows h = cc ((none_yet rows m h).1)
ends-kept deadline (Some note) bits free rounds number began word set k m rows h = cc ((none_yet rows (max set m) (omega (arith, h))).0)

done-kept : (deadline : ℕ) (waits bits : Option ℕ) (free rounds : ℕ) (began word : Option ℕ) (set k m : ℕ) (rows : List Row) → since_of rows ≤ m
    → ends m rounds None (kept deadline waits bits free rounds began word set k rows) ≡ kept deadline waits bits m rounds None word set 0 rows
done-kept deadline None bits free rounds began word set k m rows h = refl
done-kept deadline (Some note) bits free rounds began word set k m rows h = cc ((none_yet rows (max set m) (omega (arith, h))).0)

-- a word that is given at the moment of a row, or later
given-kept : (deadline : ℕ) (waits bits : Option ℕ) (free rounds : ℕ) (began word : Option ℕ) (set put k m note w : ℕ) (rows : List Row) → since_of rows ≤ m
    → (max put free < since_of rows → set ≡ put)
    → given m put note w (kept deadline waits bits free rounds began word set k rows)
    ≡ kept deadline waits bits free rounds (begun_by_word waits bits note w m began) (called_by waits bits note w put began word) set k rows
given-kept deadline None bits free rounds began word set put k m note w rows h same = grind arith
given-kept deadline (Some first) bits free rounds (Some b) word set put k m note w rows h same = grind arith
given-kept deadline (Some first) bits free rounds None word set put k m note w rows h same =
    let account = kept deadline (Some first) bits free rounds None word set k rows in
    let has : Keeps rows (max put free) account = record {
      stands = refl;
      since = refl;
      stood = λ less. ap (λ set. stood_of (Some (max set free)) rows) (same less);
    } in
    grind (arith, left rows (max put free) account has, (none_yet rows m h).1)

-- the word that begins a round is the one for which the script waits first
called_first : (firsts : List Held) (waits bits : Option ℕ) (note w : ℕ) (began word : Option ℕ) (past : List Row)
    → called_by waits bits note w (word_for firsts waits past).since began word ≡ called_by waits bits note w (held_of firsts note past).since began word
called_first firsts None bits note w None word past = refl
called_first firsts (Some first) bits note w None word past = grind (arith, nat_tests)
called_first firsts waits bits note w (Some b) word past = refl

-- if the row is about another thread
pub same : (firsts : List Held) (part : ThreadPart) (thread : ℕ) (past : List Row) (m core : ℕ) (what : What) → is_about thread what ≡ false
    → account_of firsts part thread (record { moment = m; core = core; what = what } ∷ past) ≡ account_of firsts part thread past
same firsts part thread past m core what e = grind (arith, nat_tests)

-- a row of the thread
pub own : (firsts : List Held) (part : ThreadPart) (thread : ℕ) (past : List Row) (m core put : ℕ) (what : What) → is_about thread what ≡ true
    → put ≡ (word_for firsts (first_wait part) past).since → UpTo m past
    → seen_own put m what (account_of firsts part thread past) ≡ account_of firsts part thread (record { moment = m; core = core; what = what } ∷ past)
own firsts part thread past m core put what e is up = by what e
  where
    waits : Option ℕ
    waits = first_wait part

    bits : Option ℕ
    bits = bits_of part

    loose : ℕ
    loose = free part.start thread past

    rounds : ℕ
    rounds = rounds_of thread past

    began : Option ℕ
    began = begun waits bits part.start thread past

    word : Option ℕ
    word = called firsts waits bits part.start thread past

    set : ℕ
    set = set_before firsts waits thread past

    breaks : ℕ
    breaks = preemptions waits bits part.start thread past

    rows : List Row
    rows = telling thread past

    h : since_of rows ≤ m
    h = since-up_to thread m past up

    stays : max put loose < since_of rows → set ≡ put
    stays less = set_stays firsts waits thread m loose past up (omega (arith, is, less)) ∙ sym is

    told_is : (what : What) → told put m what (account_of firsts part thread past)
        ≡ kept part.deadline waits bits loose rounds began word put breaks (record { moment = m; core = core; what = what } ∷ rows)
    told_is what = told-kept part.deadline waits bits loose rounds began word set put breaks (record { moment = m; core = core; what = what }) rows h stays

    by : (what : What) → is_about thread what ≡ true
        → seen_own put m what (account_of firsts part thread past) ≡ account_of firsts part thread (record { moment = m; core = core; what = what } ∷ past)
    by (row.Release x) e = grind (arith, e, is, told_is (row.Release x))
    by (row.Run x) e = grind (arith, e, is, told_is (row.Run x))
    by (row.Stop x why.Done charged until) e =
        let r : Row = record { moment = m; core = core; what = row.Stop x why.Done charged until } in
        grind (
          arith,
          e,
          is,
          told_is r.what,
          done-kept part.deadline waits bits loose rounds began word put breaks m (r ∷ rows) (omega arith),
        )
    by (row.Stop x cause charged until) e = grind (arith, e, is, told_is (row.Stop x cause charged until))
    by (row.Wake x note w until) e =
        let r : Row = record { moment = m; core = core; what = row.Wake x note w until } in
        grind (
          arith,
          e,
          is,
          told_is r.what,
          given-kept part.deadline waits bits loose rounds began word put m breaks m note w (r ∷ rows) (omega arith) (λ less. absurd (omega (arith, less))),
        )
    by (row.Got x note w) e =
        grind (
          arith,
          e,
          is,
          given-kept part.deadline waits bits loose rounds began word set put breaks m note w rows h stays,
          called_first firsts waits bits note w began word past,
        )
    by (row.Round x number response) e =
        grind (arith, e, is, ends-kept part.deadline waits bits loose rounds number began word set breaks m rows h)
    by (row.Signal x note badge) e = absurd (grind (arith, e))
    by (row.Arrive note badge maker) e = absurd (grind (arith, e))
    by (row.Hold note w) e = absurd (grind (arith, e))
    by (row.Order context) e = absurd (grind (arith, e))
    by (row.Interrupt source note badge) e = absurd (grind (arith, e))
