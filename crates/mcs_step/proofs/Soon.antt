-- Mail that arrives later leaves the turns before it quiet.
use Rattle.std.proofs.Common.{◌≡◌, ◌≢◌, ℕ, get_or, ◌+◌, ◌-◌, ◌<◌, ◌≤◌, ◌⊎◌, Bool, true, false, cond, List, [], ◌∷◌, ◌++◌, length, min, set, take, inl, inr, refl, sym, ap, ◌∙◌, subst, arith}
use Rattle.std.specs.Prelude.{filter, nat_lt, slice_index, ◌==◌}
use Rattle.std.proofs.lemmas.Bool.Decides.{eqb_tells, nat_tests}
use Rattle.std.proofs.lemmas.List.{get_or-set_same, get_or-set_other, length-set, take_more}
use Rattle.std.proofs.lemmas.List.Elements.{filter-append}
use Rattle.mcs_mail.specs.declared.mail.Mail.{Mail}
use Rattle.mcs_mail.specs.Box.{is_before, put, put_all, arriving, IsIn}
use Rattle.mcs_mail.proofs.Members.{in_filter}
use Rattle.mcs_mail.proofs.Orders.{in_put}
use Rattle.mcs_ticks.specs.Queue.{in_one_list}
use Rattle.mcs_system.specs.System.{System, note_part}
use Rattle.mcs_core.specs.Core.{Core}
use Rattle.mcs_core.specs.Quiet.{AreQuiet, IsQuiet, counted_times}
use Rattle.mcs_core.proofs.Quiet.{no_mail}
use Rattle.mcs_stretch.specs.Inbox.{is_home}
use Rattle.mcs_step.specs.stored.Cores.{lowered, AreLowered}

other : (a t : ℕ) → a ≢ t → (a == t) ≡ false
other a t h = grind (arith, nat_tests)

arriving-put : (t : ℕ) (mail : Mail) (box : List Mail) → mail.arrives ≢ t → arriving t (put mail box) ≡ arriving t box
arriving-put t mail [] h = rw (other mail.arrives t h) refl
arriving-put t mail (first ∷ others) h = by (is_before mail first) (arriving-put t mail others h)
  where
    by : (u : Bool) → arriving t (put mail others) ≡ arriving t others →
        arriving t (cond u (mail ∷ first ∷ others) (first ∷ put mail others)) ≡ arriving t (first ∷ others)
    by true i = rw (other mail.arrives t h) refl
    by false i = ap (λ xs. cond (first.arrives == t) (first ∷ xs) xs) i

arriving-put_all : (t : ℕ) (mails box : List Mail) → ((mail : Mail) → IsIn mail mails → mail.arrives ≢ t) → arriving t (put_all mails box) ≡ arriving t box
arriving-put_all t [] box h = refl
arriving-put_all t (mail ∷ mails) box h = arriving-put_all t mails (put mail box) (λ x i. h x (inr i)) ∙ arriving-put t mail box (h mail (inl refl))

pub lowered-le : (mails : List Mail) (next : ℕ) → lowered mails next ≤ next
lowered-le [] next = omega arith
lowered-le (mail ∷ mails) next = let i = lowered-le mails (min next mail.arrives) in omega arith

lowered-each : (mails : List Mail) (next : ℕ) (mail : Mail) → IsIn mail mails → lowered mails next ≤ mail.arrives
lowered-each [] next mail k = absurd k
lowered-each (first ∷ mails) next mail (inl e) =
    let i = lowered-le mails (min next first.arrives) in
    let same : mail.arrives ≡ first.arrives = ap (λ (m : Mail). m.arrives) e in
    omega arith
lowered-each (first ∷ mails) next mail (inr k) = lowered-each mails (min next first.arrives) mail k

pub lowered-from : (mails : List Mail) (next least : ℕ) → least ≤ next → ((mail : Mail) → IsIn mail mails → least ≤ mail.arrives) → least ≤ lowered mails next
lowered-from [] next least l h = l
lowered-from (first ∷ mails) next least l h =
    let k = h first (inl refl) in
    lowered-from mails (min next first.arrives) least (omega arith) (λ mail i. h mail (inr i))

pub lowered-append : (mails more : List Mail) (next : ℕ) → lowered (mails ++ more) next ≡ lowered more (lowered mails next)
lowered-append [] more next = refl
lowered-append (first ∷ mails) more next = lowered-append mails more (min next first.arrives)

-- more mail was put into the box, and the next busy time is lowered to its first arrival
pub quiet-lowered : (system : System) (c clock next : ℕ) (core : Core) (box mails : List Mail) → AreQuiet system c clock box core (next - clock) →
    AreQuiet system c clock (put_all mails box) core (lowered mails next - clock)
quiet-lowered system c clock next core box mails quiet n l =
    subst (λ ms. IsQuiet system c (clock + n) ms (counted_times system c n core))
    (sym (arriving-put_all (clock + n) mails box (λ mail k. let late = lowered-each mails next mail k in omega arith)))
    (quiet n (let most = lowered-le mails next in omega arith))

-- a busy time is the arrival of a signal, or the one before the signals were sent
lowered-is : (mails : List Mail) (next : ℕ) → lowered mails next < next → (mail : Mail) × IsIn mail mails × (mail.arrives ≡ lowered mails next)
lowered-is [] next l = absurd (omega arith)
lowered-is (first ∷ mails) next l = by (lowered-is mails (min next first.arrives)) (nat_lt (lowered mails (min next first.arrives)) (min next first.arrives)) refl
  where
    by : (lowered mails (min next first.arrives) < min next first.arrives → (mail : Mail) × IsIn mail mails × (mail.arrives ≡ lowered mails (min next first.arrives))) →
        (u : Bool) → nat_lt (lowered mails (min next first.arrives)) (min next first.arrives) ≡ u → (mail : Mail) × IsIn mail (first ∷ mails) × (mail.arrives ≡ lowered mails (min next first.arrives))
    by others true e =
        let k : lowered mails (min next first.arrives) < min next first.arrives = grind (arith, nat_tests) in
        let (mail, i, is) = others k in
        (mail, inr i, is)
    by others false e =
        let k : min next first.arrives ≤ lowered mails (min next first.arrives) = grind (arith, nat_tests) in
        let most = lowered-le mails (min next first.arrives) in
        (first, inl refl, omega arith)

some-or-none : (t : ℕ) (mails : List Mail) → ((mail : Mail) × IsIn mail mails × (mail.arrives ≡ t)) ⊎ ((mail : Mail) → IsIn mail mails → mail.arrives ≢ t)
some-or-none t [] = inr (λ mail k. absurd k)
some-or-none t (first ∷ mails) = elim (eqb_tells first.arrives t) [
  | inl e ↦ inl (first, inl refl, e.1)
  | inr e ↦ elim (some-or-none t mails) [
    | inl k ↦ inl (k.0, inr k.1, k.2)
    | inr none ↦ inr (λ mail k. elim k [ inl f ↦ (λ g. e.1 (ap (λ (m : Mail). m.arrives) (sym f) ∙ g)) | inr i ↦ none mail i ])
  ]
]

in-put_all : (mail : Mail) (mails box : List Mail) → IsIn mail mails ⊎ IsIn mail box → IsIn mail (put_all mails box)
in-put_all mail [] box (inl k) = absurd k
in-put_all mail [] box (inr k) = k
in-put_all mail (first ∷ mails) box (inl (inl e)) = in-put_all mail mails (put first box) (inr (in_put mail first box (inl e)))
in-put_all mail (first ∷ mails) box (inl (inr k)) = in-put_all mail mails (put first box) (inl k)
in-put_all mail (first ∷ mails) box (inr k) = in-put_all mail mails (put first box) (inr (in_put mail first box (inr k)))

same-time : (a t : ℕ) → a ≡ t → (a == t) ≡ true
same-time a t e = grind (arith, nat_tests)

-- a core does more than count at the lowered time
pub busy-lowered : (system : System) (c clock next : ℕ) (core : Core) (box mails : List Mail) → clock ≤ lowered mails next →
    (lowered mails next ≡ next → ¬ AreQuiet system c clock box core (next + 1 - clock)) →
    ¬ AreQuiet system c clock (put_all mails box) core (lowered mails next + 1 - clock)
busy-lowered system c clock next core box mails from busy quiet = elim (some-or-none (lowered mails next) mails) [
  | inl k ↦ arrives k.0 k.1 k.2
  | inr none ↦ (let e = at-next none in busy e (λ n l. subst (λ ms. IsQuiet system c (clock + n) ms (counted_times system c n core))
      (arriving-put_all (clock + n) mails box (other-time none n (omega arith)))
      (quiet n (omega arith))))
]
  where
    arrives : (mail : Mail) → IsIn mail mails → mail.arrives ≡ lowered mails next → ⊥
    arrives mail i e =
        let t = lowered mails next in
        let at : clock + (t - clock) ≡ t = omega arith in
        let none : arriving (clock + (t - clock)) (put_all mails box) ≡ [] = no_mail in_one_list system c (clock + (t - clock)) (arriving (clock + (t - clock)) (put_all mails box)) (counted_times system c (t - clock) core) (quiet (t - clock) (omega arith)) in
        let there : IsIn mail (arriving t (put_all mails box)) = in_filter (λ m. m.arrives == t) mail (put_all mails box) (in-put_all mail mails box (inl i)) (same-time mail.arrives t e) in
        subst (λ ms. IsIn mail ms) (ap (λ u. arriving u (put_all mails box)) (sym at) ∙ none) there

    other-time : ((mail : Mail) → IsIn mail mails → mail.arrives ≢ lowered mails next) → (n : ℕ) → clock + n ≤ lowered mails next → (mail : Mail) → IsIn mail mails → mail.arrives ≢ clock + n
    other-time none n l mail i e = (let late = lowered-each mails next mail i in none mail i (omega arith))

    at-next : ((mail : Mail) → IsIn mail mails → mail.arrives ≢ lowered mails next) → lowered mails next ≡ next
    at-next none = by (nat_lt (lowered mails next) next) refl
      where
        by : (u : Bool) → nat_lt (lowered mails next) next ≡ u → lowered mails next ≡ next
        by true e =
            let k : lowered mails next < next = grind (arith, nat_tests) in
            let (mail, i, is) = lowered-is mails next k in
            absurd (none mail i is)
        by false e =
            let k : next ≤ lowered mails next = grind (arith, nat_tests) in
            let most = lowered-le mails next in
            omega arith

-- one more signal is on its way
module _ (system : System) (signals : List Mail) (i h : ℕ) (mail : Mail) (before next : List ℕ) (so_far : AreLowered system (take i signals) before next) (l : i < length signals)
    (is : mail ≡ get_or signals i mail) (home : h ≡ (note_part system mail.note).core) (known : h < length before) (at_home : h < system.cores) where
  abbrev least : ℕ
  least = min (slice_index next h) mail.arrives

  takes : take (i + 1) signals ≡ take i signals ++ mail ∷ []
  takes = take_more signals i mail l ∙ ap (λ m. take i signals ++ m ∷ []) (sym is)

  same_test : (c : ℕ) → (h == c) ≡ ((note_part system mail.note).core == c)
  same_test c = ap (λ home. home == c) home

  own : (c : ℕ) → c < length before → h ≡ c → slice_index (set next h least) c ≡ min (lowered (filter (is_home system c) (take i signals)) (slice_index before c)) mail.arrives
  own c k e =
      ap (slice_index (set next h least)) (sym e) ∙ get_or-set_same next h least 0 (let many = so_far.many in omega arith)
      ∙ ap (λ t. min t mail.arrives) (ap (slice_index next) e ∙ so_far.each c k)

  other_core : (c : ℕ) → c < length before → h ≢ c → slice_index (set next h least) c ≡ lowered (filter (is_home system c) (take i signals)) (slice_index before c)
  other_core c k e = get_or-set_other next h c least 0 (λ f. e (sym f)) ∙ so_far.each c k

  by : (c : ℕ) → c < length before → (u : Bool) → (h == c) ≡ u →
      slice_index (set next h least) c ≡ lowered (filter (is_home system c) (mail ∷ [])) (lowered (filter (is_home system c) (take i signals)) (slice_index before c))
  by c k true e =
      let f : h ≡ c = grind (arith, nat_tests) in
      rw (← same_test c, e) (own c k f)
  by c k false e =
      let f : h ≢ c = grind (arith, nat_tests) in
      rw (← same_test c, e) (other_core c k f)

  pub lowered-more : AreLowered system (take (i + 1) signals) before (set next h least)
  lowered-more = record { many = length-set next h least ∙ so_far.many; each = λ c k. rw (takes, filter-append, lowered-append) (by c k (h == c) refl); rest = λ c k. get_or-set_other next h c least 0 (omega arith) ∙ so_far.rest c k }
