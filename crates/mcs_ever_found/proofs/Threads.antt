-- Each thread of a group that recurs in its findings goes on as is known at the end of the first
-- period.
use Rattle.std.proofs.Common.{◌≡◌, ◌≢◌, ℕ, zero, suc, ◌+◌, ◌-◌, ◌^◌, ◌<◌, ◌≤◌, Bool, true, false, cond, not, ◌==◌, ◌&&◌, ◌||◌, List, [], ◌∷◌, length, refl, sym, ap, subst, ◌∙◌, Option, Some, None, arith}
use Rattle.std.specs.Prelude.{nat_lt, nat_le}
use Rattle.std.specs.List.{AllByRecursion, list_any}
use Rattle.std.proofs.lemmas.Bool.Decides.{nat_tests}
use Rattle.mcs_ticks.specs.Capped.{one_more}
use Rattle.mcs_ticks.specs.declared.row.Row.{Row}
use Rattle.mcs_ticks.specs.declared.row.What.{What}
use Rattle.mcs_system.specs.System.{System, no_thread, thread_part, note_part, core_of}
use Rattle.mcs_system.specs.WellFormed.{IsWellFormed}
use Rattle.mcs_core.specs.Clock.{schedule, turn_of}
use Rattle.mcs_verdict.specs.declared.finding.Finding.{Finding}
use Rattle.mcs_verdict.specs.declared.finding.Finding.TheVariants.{Overdue, Never}
use Rattle.mcs_verdict.specs.declared.held.Held.{Held}
use Rattle.mcs_verdict.specs.declared.standing.Standing.{Standing}
use Rattle.mcs_verdict.specs.declared.standing.Stood.{Stood}
use Rattle.mcs_verdict.specs.Account.{since_of, standing_of}
use Rattle.mcs_verdict.specs.Activation.{is_active, first_for, first_active}
use Rattle.mcs_verdict.specs.Calls.{first_wait, bits_of, is_set}
use Rattle.mcs_verdict.specs.Findings.{UpTo, past_of}
use Rattle.mcs_verdict.specs.Misses.{is_reached, overdue_at, overdue_since, overdue, first_word, was_activated, never_at, never}
use Rattle.mcs_verdict.specs.Parts.{free_of, queued_in, parts_in}
use Rattle.mcs_verdict.specs.Rounds.{begun_after, begun_of, called_of, activated_by, activated, activated_in, activated_of, rounds_of}
use Rattle.mcs_verdict.specs.Standing.{telling, standing_at}
use Rattle.mcs_verdict.specs.Stood.{stood_for, stood_in}
use Rattle.mcs_verdict.specs.Words.{word_for, firsts_of}
use Rattle.mcs_verdict.proofs.Orders.{since-up_to}
use Rattle.mcs_verdict_laws.specs.laws.Horizons.{has_miss_of}
use Rattle.mcs_verdict_laws.proofs.Fits.{JustEnded, held_in}
use Rattle.mcs_verdict_laws.proofs.Horizons.{overdue-stays, activation-stays}
use Rattle.mcs_verdict_laws.proofs.Order.{in_order}
use Rattle.mcs_verdict_laws.proofs.Overdue.{first-longer, active-longer}
use Rattle.mcs_verdict_laws.proofs.Steps.{contrary}
use Rattle.mcs_ever.specs.Later.{later_what}
use Rattle.mcs_ever.specs.Recurs.{Shifts, shift_of}
use Rattle.mcs_ever.specs.laws.Home.{IsOfOwn}
use Rattle.mcs_ever.specs.laws.Repeats.{ends_round, EndsNoRound}
use Rattle.mcs_ever.proofs.Repeats.{no-round-ends-again}
use Rattle.mcs_ever.proofs.Schedules.{each-turn}
use Rattle.mcs_ever_found.specs.Period.{far, ends_in_period, endless_round}
use Rattle.mcs_ever_found.specs.Recurs.{past_before, FindingsRecur}
use Rattle.mcs_ever_found.specs.laws.GoOn.{overdue_up_to, never_up_to, IsOverdueRound, ThreadGoesOn, ThreadsGoOn}
use Rattle.mcs_ever_found.specs.laws.Never.{told_up_to, IsInTime}
use Rattle.mcs_ever_found.proofs.Alike.{at, held-known}
use Rattle.mcs_ever_found.proofs.Carried.{all-map, carried}
use Rattle.mcs_ever_found.proofs.Given.{never-given}
use Rattle.mcs_ever_found.proofs.Late.{ends-none-after}
use Rattle.mcs_ever_found.proofs.Lows.{called-low}
use Rattle.mcs_ever_found.proofs.Moments.{up_to}
use Rattle.mcs_ever_found.proofs.Never.{no-deadline-is-missed}
use Rattle.mcs_ever_found.proofs.Open.{some-same, none-some, begun-pair, begun-apart, begun-by, IsQuiet, Under, under-row, Begun, begun-row, none-row}
use Rattle.mcs_ever_found.proofs.Periods.{told, told-rows, done-told, not-in-period}
use Rattle.mcs_ever_found.proofs.Quiet.{later-ends, away-about, away-ends, ends-none}
use Rattle.mcs_ever_found.proofs.Scripts.{waits-first}
use Rattle.mcs_ever_found.proofs.Ticks.{none-each, each-none, first-cut, first-high, active_ticks, count-none, none-count, standing-now, stands, tick-stands, never-active}
use Rattle.mcs_ever_found.proofs.Twice.{twice}

-- what is overdue, by whether the deadline is reached
at-not : (h x number deadline free a : ℕ) (stood : Stood) → is_reached deadline (h - a) ≡ false → overdue_at h x number deadline free a stood ≡ None
at-not h x number deadline free a stood e = ap (λ b. cond b (Some (Overdue x number (h - a) deadline a (queued_in free a) stood)) None) e

at-is : (h x number deadline free a : ℕ) (stood : Stood) → is_reached deadline (h - a) ≡ true
    → overdue_at h x number deadline free a stood ≡ Some (Overdue x number (h - a) deadline a (queued_in free a) stood)
at-is h x number deadline free a stood e = ap (λ b. cond b (Some (Overdue x number (h - a) deadline a (queued_in free a) stood)) None) e

reached-by : (d p : ℕ) → (d == 0) ≡ false → d ≤ p → is_reached d p ≡ true
reached-by d p e l = let f : nat_le d p ≡ true = grind (arith, nat_tests) in ap (λ b. not b && nat_le d p) e ∙ f

-- no row so far ended a round at a later moment
quiet-by : (x h : ℕ) (past : List Row) → UpTo h past → (m : ℕ) → suc h ≤ m → JustEnded x m past → ⊥
quiet-by x h [] up m l ended = ended
quiet-by x h (r ∷ past) up m l ended = let a = up.0 in let b = ended.1 in omega (arith, a, b, l)

module _ (system : System) (group : ℕ → Bool) (shifts : Shifts) (from : ℕ) (well : IsWellFormed system) (recur : FindingsRecur system group shifts from)
    (x : ℕ) (known : x < length system.threads) (own : group (core_of system (thread_part system x)) ≡ true) where
  abbrev d : ℕ
  d = shifts.by

  abbrev end : ℕ
  end = from + shifts.by

  abbrev last : ℕ
  last = from + shifts.by - 1

  abbrev past : ℕ → List Row
  past t = past_before system t

  abbrev deadline : ℕ
  deadline = (thread_part system x).deadline

  abbrev waits : Option ℕ
  waits = first_wait (thread_part system x)

  abbrev bits : Option ℕ
  bits = bits_of (thread_part system x)

  some : 1 ≤ shifts.by
  some = recur.recurs.some

  last-is : suc last ≡ end
  last-is = omega (arith, some)

  up-last : UpTo last (past end)
  up-last = let P : ℕ → Type 0 = λ t. UpTo last (past_before system t) in subst P last-is (in_order system well last).1

  near : from + shifts.by ≤ 2 ^ 41
  near = recur.near

  started : (thread_part system x).start ≤ from
  started = recur.started x known own

  within : deadline ≤ 2 ^ 40
  within = (well.threads x no_thread known).deadline

  -- when a round was activated, by its beginning
  active-is : (rows : List Row) (m b : ℕ) → begun_of system x rows ≡ Some b → activated_of system x rows m ≡ activated system x rows b m
  active-is rows m b e = ap (activated_in system x rows m) e

  active-none : (rows : List Row) (m : ℕ) → begun_of system x rows ≡ None → activated_of system x rows m ≡ None
  active-none rows m e = ap (activated_in system x rows m) e

  overdue-none : (rows : List Row) (h : ℕ) → activated_of system x rows h ≡ None → overdue system rows h x ≡ None
  overdue-none rows h e = ap (overdue_since system rows h x) e

  overdue-not : (rows : List Row) (h a : ℕ) → activated_of system x rows h ≡ Some a → is_reached deadline (h - a) ≡ false → overdue system rows h x ≡ None
  overdue-not rows h a e f = ap (overdue_since system rows h x) e ∙ at-not h x _ deadline _ a _ f

  -- without a deadline nothing is overdue
  zero-overdue : (rows : List Row) (h : ℕ) → (deadline == 0) ≡ true → overdue system rows h x ≡ None
  zero-overdue rows h e = by (activated_of system x rows h) refl
    where
      by : (o : Option ℕ) → activated_of system x rows h ≡ o → overdue system rows h x ≡ None
      by None f = overdue-none rows h f
      by (Some a) f = overdue-not rows h a f (ap (λ b. not b && nat_le deadline (h - a)) e)

  -- no deadline is ever missed
  module _ (missed : has_miss_of x (told_up_to system last) ≡ false) where
    no-miss : (k : ℕ) → has_miss_of x (told_up_to system k) ≡ false
    no-miss k = no-deadline-is-missed system group shifts from well recur x own last (omega (arith, some)) missed k

    -- a round ends in each period
    ends-in-time : ends_in_period system shifts.by from x ≡ true → (h : ℕ) → overdue system (past (suc h)) h x ≡ None
    ends-in-time ends h = by (activated_of system x (past (suc h)) h) refl
      where
        by : (o : Option ℕ) → activated_of system x (past (suc h)) h ≡ o → overdue system (past (suc h)) h x ≡ None
        by None e = overdue-none (past (suc h)) h e
        by (Some a) e = or (is_reached deadline (h - a)) refl
          where
            or : (b : Bool) → is_reached deadline (h - a) ≡ b → overdue system (past (suc h)) h x ≡ None
            or false f = overdue-not (past (suc h)) h a e f
            or true f =
                absurd
                (contrary (ends_in_period system shifts.by from x)
                (not-in-period system group shifts from well recur.recurs (ends_round x) (λ shift what. later-ends shift x what)
                (λ c what away o. away-ends system group x c what own away o) (suc h) (ends-none-after system well x h a known f e no-miss)) ends)

  -- no round ends in the period
  module _ (none : ends_in_period system shifts.by from x ≡ false) where
    first : EndsNoRound system x from (from + shifts.by)
    first =
        ends-none system group shifts from well recur.recurs (told system well from shifts.by) (told-rows system well from shifts.by) x own
        (ap (list_any (ends_round x)) (sym (done-told system well from shifts.by)) ∙ none)

    come : (t : ℕ) → from ≤ t → nat_le from t ≡ true
    come t l = grind (arith, nat_tests)

    facts : (t c : ℕ) → from ≤ t → c < system.cores → AllByRecursion (λ what. ends_round x what ≡ false) (turn_of system c t).rows
    facts t c l k =
        all-map (λ what. (nat_le from t && ends_round x what) ≡ false) (λ what. ends_round x what ≡ false)
        (λ what e. sym (ap (λ b. b && ends_round x what) (come t l)) ∙ e) (turn_of system c t).rows
        (each-turn (λ (r : Row). (nat_le from r.moment && ends_round x r.what) ≡ false) system well (suc t) t c (omega arith) k
        (no-round-ends-again system group shifts from well recur.recurs x own first t))

    quiet-start : (t : ℕ) → IsQuiet system x t (past t)
    quiet-start zero m l ended = ended
    quiet-start (suc h) m l ended = quiet-by x h (past (suc h)) (in_order system well h).1 m l ended

    -- a round that is under way goes on
    begun-on : (s t b : ℕ) → from ≤ s → s ≤ t → begun_of system x (past s) ≡ Some b → begun_of system x (past t) ≡ Some b
    begun-on s t b l m e =
        let q = carried system well x s (λ c what. ends_round x what ≡ false) (Begun system x s b)
        (λ c k what rows n fact fits q. begun-row system x s b c k what rows n fact fits q) (λ k c n known. facts k c (omega (arith, l, n)) known)
        s t (omega arith) m (record { begun = e; quiet = quiet-start s }) in
        q.begun

    -- none begins where none is under way at the end of the period
    early : (t : ℕ) → from ≤ t → t ≤ end → begun_of system x (past end) ≡ None → begun_of system x (past t) ≡ None
    early t l m e = by (begun_of system x (past t)) refl
      where
        by : (o : Option ℕ) → begun_of system x (past t) ≡ o → o ≡ None
        by None f = refl
        by (Some b) f = absurd (none-some b (sym e ∙ begun-on t end b l m f))

    abbrev Pair : List Row → List Row → Type 0
    Pair rows rows' = begun_of system x rows ≡ None → begun_of system x rows' ≡ None

    pairs : (t : ℕ) → from ≤ t → begun_of system x (past end) ≡ None → Pair (past t) (past (t + shifts.by))
    pairs t l e =
        twice system group shifts from well recur.recurs (λ what. ends_round x what ≡ false) Pair
        (λ c m what rows rows' fact q f. begun-pair (shift_of shifts c) waits bits x m (m + shifts.by) what (begun_of system x rows) (begun_of system x rows') fact q f)
        (λ c m what rows rows' away o q f.
        q (sym (begun-apart waits bits x m what (begun_of system x rows) (away-about system group x c what own away o)) ∙ f))
        (λ c m what rows rows' away o q f.
        begun-apart waits bits x m what (begun_of system x rows') (away-about system group x c what own away o) ∙ q f)
        (λ m c k known is. facts m c k known) t l (λ f. e)

    none-ever : begun_of system x (past end) ≡ None → (t : ℕ) → from ≤ t → begun_of system x (past t) ≡ None
    none-ever e t l = below (suc t) t (omega arith) l
      where
        below : (n t : ℕ) → t < n → from ≤ t → begun_of system x (past t) ≡ None
        below zero t m l = absurd (omega (arith, m))
        below (suc n) t m l = by (below n (t - d)) (nat_lt t end) refl
          where
            by : (t - d < n → from ≤ t - d → begun_of system x (past (t - d)) ≡ None) → (b : Bool) → nat_lt t end ≡ b → begun_of system x (past t) ≡ None
            by rest true f = early t l (let less : t < end = grind (arith, nat_tests) in omega (arith, less)) e
            by rest false f =
                let k : end ≤ t = grind (arith, nat_tests) in
                let g : t - d + d ≡ t = omega (arith, k) in
                let P : ℕ → Type 0 = λ t. begun_of system x (past t) ≡ None in
                subst P g (pairs (t - d) (omega (arith, k)) e (rest (omega (arith, m, k, some)) (omega (arith, k))))

    -- the round that is under way at the end of the period, for ever
    under : (b : ℕ) → begun_of system x (past end) ≡ Some b → (t : ℕ) → end ≤ t
        → Under system x end b (rounds_of x (past end)) (activated system x (past end) b end) (past t)
    under b e t l =
        carried system well x end (λ c what. ends_round x what ≡ false) (Under system x end b (rounds_of x (past end)) (activated system x (past end) b end))
        (λ c k what rows n fact fits q. under-row system x end b (rounds_of x (past end)) (activated system x (past end) b end) c k what rows n fact fits q)
        (λ k c n known. facts k c (omega (arith, n)) known) end t (omega arith) l
        (record { begun = e; active = refl; rounds = refl; quiet = quiet-start end })

    begun-last : (b : ℕ) → begun_of system x (past end) ≡ Some b → b ≤ last
    begun-last b e = begun-by system x last (past end) up-last (let l = started in omega (arith, l, some)) b e

    -- if the script begins with no wait, it began before the period
    begun-early : (b : ℕ) → waits ≡ None → begun_of system x (past end) ≡ Some b → b ≤ from
    begun-early b w e = by (begun_of system x (past from)) refl
      where
        by : (o : Option ℕ) → begun_of system x (past from) ≡ o → b ≤ from
        by (Some c) f =
            let same = some-same c b (sym (begun-on from end c (omega arith) (omega arith) f) ∙ e) in
            let low = begun-by system x from (past from) (up_to system well from) started c f in
            omega (arith, same, low)
        by None f =
            absurd
            (none-some b
            (sym (carried system well x from (λ c what. ends_round x what ≡ false) (λ rows. begun_of system x rows ≡ None)
            (λ c k what rows n fact fits q. none-row system x c k what rows w fact q) (λ k c n known. facts k c n known) from end (omega arith) (omega arith) f)
            ∙ e))

    abbrev active : Option ℕ
    active = activated_of system x (past end) end

    abbrev rows : List Row
    rows = telling x (past end)

    -- by a word
    called-same : (past : List Row) (note m k b : ℕ) → waits ≡ Some note → activated system x past b m ≡ activated system x past b k
    called-same past note m k b w =
        ap (λ w. activated_by w (called_of system x past) (first_active x past b m)) w
        ∙ sym (ap (λ w. activated_by w (called_of system x past) (first_active x past b k)) w)

    -- and by the ticks
    ticks-are : (past : List Row) (m b : ℕ) → waits ≡ None → activated system x past b m ≡ first_for (telling x past) b (m - b)
    ticks-are past m b w = ap (λ w. activated_by w (called_of system x past) (first_active x past b m)) w

    since-last : since_of rows ≤ last
    since-last = since-up_to x last (past end) up-last

    -- at a far horizon it was activated when it was at the end of the period
    first-far : (b : ℕ) → b ≤ last → first_for rows b (far - b) ≡ first_for rows b (end - b)
    first-far b low = by (first_for rows b (end - b)) refl
      where
        by : (o : Option ℕ) → first_for rows b (end - b) ≡ o → first_for rows b (far - b) ≡ o
        by (Some j) e = first-longer rows b (end - b) (far - b) j (let l = near in omega (arith, l)) e
        by None e = each-none rows b (far - b) (λ i l. or i (nat_lt i (end - b)) refl)
          where
            at-last : is_active (standing_at last rows) ≡ false
            at-last =
                let g : b + (last - b) ≡ last = omega (arith, low) in
                ap (λ t. is_active (standing_at t rows)) (sym g) ∙ none-each rows b (end - b) (last - b) e (omega (arith, low, some))

            or : (i : ℕ) (c : Bool) → nat_lt i (end - b) ≡ c → is_active (standing_at (b + i) rows) ≡ false
            or i true f = none-each rows b (end - b) i e (grind (arith, nat_tests))
            or i false f =
                let k : end - b ≤ i = grind (arith, nat_tests) in
                let s = since-last in
                ap is_active (standing-now x (b + i) rows (omega (arith, k, s, low, some)))
                ∙ sym (ap is_active (standing-now x last rows since-last)) ∙ at-last

    far-same : activated_of system x (past end) far ≡ active
    far-same = by (begun_of system x (past end)) refl
      where
        by : (o : Option ℕ) → begun_of system x (past end) ≡ o → activated_of system x (past end) far ≡ active
        by None e = active-none (past end) far e ∙ sym (active-none (past end) end e)
        by (Some b) e = active-is (past end) far b e ∙ or waits refl ∙ sym (active-is (past end) end b e)
          where
            or : (w : Option ℕ) → waits ≡ w → activated system x (past end) b far ≡ activated system x (past end) b end
            or (Some note) f = called-same (past end) note far end b f
            or None f = ticks-are (past end) far b f ∙ first-far b (begun-last b e) ∙ sym (ticks-are (past end) end b f)

    active-low : (a : ℕ) → active ≡ Some a → a ≤ last
    active-low a e = by (begun_of system x (past end)) refl
      where
        by : (o : Option ℕ) → begun_of system x (past end) ≡ o → a ≤ last
        by None f = absurd (none-some a (sym (active-none (past end) end f) ∙ e))
        by (Some b) f = or waits refl
          where
            is : activated system x (past end) b end ≡ Some a
            is = sym (active-is (past end) end b f) ∙ e

            or : (w : Option ℕ) → waits ≡ w → a ≤ last
            or (Some note) g =
                called-low system x last a (past end) up-last
                (sym (ap (λ w. activated_by w (called_of system x (past end)) (first_active x (past end) b end)) g) ∙ is)
            or None g =
                let high = first-high rows b (end - b) a (sym (ticks-are (past end) end b g) ∙ is) in
                let low = begun-last b f in
                omega (arith, high, low, some)

    -- a round that was activated is, at each later horizon
    still-active : (a : ℕ) → active ≡ Some a → (h : ℕ) → end ≤ suc h → a < h → activated_of system x (past (suc h)) h ≡ Some a
    still-active a e h l m = by (begun_of system x (past end)) refl
      where
        by : (o : Option ℕ) → begun_of system x (past end) ≡ o → activated_of system x (past (suc h)) h ≡ Some a
        by None f = absurd (none-some a (sym (active-none (past end) end f) ∙ e))
        by (Some b) f = or (nat_le end h) refl
          where
            u : Under system x end b (rounds_of x (past end)) (activated system x (past end) b end) (past (suc h))
            u = under b f (suc h) l

            at-end : activated system x (past (suc h)) b end ≡ Some a
            at-end = u.active ∙ sym (active-is (past end) end b f) ∙ e

            or : (c : Bool) → nat_le end h ≡ c → activated_of system x (past (suc h)) h ≡ Some a
            or true g =
                active-longer system x end h a (past (suc h)) (grind (arith, nat_tests)) (active-is (past (suc h)) end b u.begun ∙ at-end)
            or false g = active-is (past (suc h)) h b u.begun ∙ cut waits refl
              where
                less : h < end
                less = grind (arith, nat_tests)

                cut : (w : Option ℕ) → waits ≡ w → activated system x (past (suc h)) b h ≡ Some a
                cut (Some note) k = called-same (past (suc h)) note h end b k ∙ at-end
                cut None k =
                    let low = begun-last b f in
                    ticks-are (past (suc h)) h b k
                    ∙ first-cut (telling x (past (suc h))) b (end - b) (h - b) a (sym (ticks-are (past (suc h)) end b k) ∙ at-end)
                    (omega (arith, less)) (omega (arith, m, low, l))

    -- if none was, none ever is
    never-active-again : active ≡ None → (h : ℕ) → end ≤ suc h → activated_of system x (past (suc h)) h ≡ None
    never-active-again e h l = by (begun_of system x (past end)) refl
      where
        by : (o : Option ℕ) → begun_of system x (past end) ≡ o → activated_of system x (past (suc h)) h ≡ None
        by None f = active-none (past (suc h)) h (none-ever f (suc h) (omega (arith, l)))
        by (Some b) f = active-is (past (suc h)) h b u.begun ∙ or waits refl
          where
            u : Under system x end b (rounds_of x (past end)) (activated system x (past end) b end) (past (suc h))
            u = under b f (suc h) l

            at-end : activated system x (past end) b end ≡ None
            at-end = sym (active-is (past end) end b f) ∙ e

            or : (w : Option ℕ) → waits ≡ w → activated system x (past (suc h)) b h ≡ None
            or (Some note) g = called-same (past (suc h)) note h end b g ∙ u.active ∙ at-end
            or None g =
                ticks-are (past (suc h)) h b g
                ∙ each-none (telling x (past (suc h))) b (h - b)
                (λ i k. ap is_active (tick-stands system well x h (b + i) (omega (arith, k)))
                ∙ never-active system well x group shifts from recur.recurs own b (begun-early b g f) quiet (b + i) (omega arith))
              where
                quiet : (t : ℕ) → b ≤ t → t < end → is_active (stands system well x t) ≡ false
                quiet t m n =
                    let P : ℕ → Type 0 = λ s. is_active (standing_at t (telling x (past_before system s))) ≡ false in
                    let same : b + (t - b) ≡ t = omega (arith, m) in
                    sym (ap is_active (tick-stands system well x last t (omega (arith, n))))
                    ∙ subst P (sym last-is)
                    (ap (λ t. is_active (standing_at t rows)) (sym same)
                    ∙ none-each rows b (end - b) (t - b) (sym (ticks-are (past end) end b g) ∙ at-end) (omega (arith, m, n)))

    -- nothing is overdue at a far horizon
    none-far : (deadline == 0) ≡ false → overdue system (past end) far x ≡ None → active ≡ None
    none-far e f = by active refl
      where
        none-found : (found : Finding) → None ≡ Some found → ⊥
        none-found found g = cc

        by : (o : Option ℕ) → active ≡ o → o ≡ None
        by None g = refl
        by (Some a) g =
            let low = active-low a g in
            let l = near in
            let w = within in
            absurd
            (none-found _
            (sym f ∙ ap (overdue_since system (past end) far x) (far-same ∙ g)
            ∙ at-is far x _ deadline _ a _ (reached-by deadline (far - a) e (omega (arith, low, l, w, some)))))

    none-overdue : (deadline == 0) ≡ false → overdue system (past end) far x ≡ None → has_miss_of x (told_up_to system last) ≡ false
        → (h : ℕ) → overdue system (past (suc h)) h x ≡ None
    none-overdue e f missed h = by (nat_le h last) refl
      where
        later-none : (h : ℕ) → end ≤ suc h → overdue system (past (suc h)) h x ≡ None
        later-none h l = overdue-none (past (suc h)) h (never-active-again (none-far e f) h l)

        by : (c : Bool) → nat_le h last ≡ c → overdue system (past (suc h)) h x ≡ None
        by true g =
            overdue-stays system well x h last (grind (arith, nat_tests)) (no-miss missed last) (later-none last (omega (arith, some)))
        by false g = let k : last < h = grind (arith, nat_tests) in later-none h (omega (arith, k, some))

    -- what is overdue at a far horizon
    pub record IsFar (number limit since : ℕ) : Type 0 where
      pub active_at : activated_of system x (past end) end ≡ Some since
      pub number_is : one_more (rounds_of x (past end)) ≡ number
      pub limit_is : deadline ≡ limit
      pub some_limit : (deadline == 0) ≡ false

    some-far : (number age limit since queued : ℕ) (stood : Stood) → overdue system (past end) far x ≡ Some (Overdue x number age limit since queued stood)
        → IsFar number limit since
    some-far number age limit since queued stood e = by active refl
      where
        none-found : (found : Finding) → None ≡ Some found → ⊥
        none-found found g = cc

        by : (o : Option ℕ) → active ≡ o → IsFar number limit since
        by None g = absurd (none-found _ (sym (overdue-none (past end) far (far-same ∙ g)) ∙ e))
        by (Some a) g = or (is_reached deadline (far - a)) refl
          where
            free : ℕ
            free = free_of system x (past end)

            found : Option Finding
            found = overdue_at far x (one_more (rounds_of x (past end))) deadline free a (parts_in x (past end) free a far)

            is : found ≡ Some (Overdue x number age limit since queued stood)
            is = sym (ap (overdue_since system (past end) far x) (far-same ∙ g)) ∙ e

            or : (b : Bool) → is_reached deadline (far - a) ≡ b → IsFar number limit since
            or false f = absurd (none-found _ (sym (at-not far x _ deadline _ a _ f) ∙ is))
            or true f =
                let same : Some (Overdue x (one_more (rounds_of x (past end))) (far - a) deadline a (queued_in free a) (parts_in x (past end) free a far))
                ≡ Some (Overdue x number age limit since queued stood) = sym (at-is far x _ deadline _ a _ f) ∙ is in
                let since_is : a ≡ since = cc in
                record {
                  active_at = g ∙ ap Some since_is;
                  number_is = cc;
                  limit_is = cc;
                  some_limit = not-zero (deadline == 0) refl f;
                }
              where
                no : false ≡ true → ⊥
                no e = cc

                not-zero : (c : Bool) → (deadline == 0) ≡ c → is_reached deadline (far - a) ≡ true → c ≡ false
                not-zero false h f = refl
                not-zero true h f = absurd (no (sym (ap (λ b. not b && nat_le deadline (far - a)) h) ∙ f))

    pub overdue-on : (number limit since : ℕ) → IsFar number limit since → (h : ℕ) → end ≤ suc h → limit ≤ h - since
        → IsOverdueRound system h x number limit since
    overdue-on number limit since is h l m =
        let P : ℕ → Type 0 = λ n. IsOverdueRound system h x n limit since in
        let Q : ℕ → Type 0 = λ n. IsOverdueRound system h x (one_more (rounds_of x (past end))) n since in
        subst P is.number_is (subst Q is.limit_is by)
      where
        limit_is : deadline ≡ limit
        limit_is = is.limit_is

        long : deadline ≤ h - since
        long = omega (arith, m, limit_is)

        more : 1 ≤ deadline
        more = positive deadline is.some_limit
          where
            positive : (n : ℕ) → (n == 0) ≡ false → 1 ≤ n
            positive n e = grind (arith, nat_tests)

        now : activated_of system x (past (suc h)) h ≡ Some since
        now = still-active since is.active_at h l (omega (arith, long, more))

        free : ℕ
        free = free_of system x (past (suc h))

        rounds : rounds_of x (past (suc h)) ≡ rounds_of x (past end)
        rounds = at-begin (begun_of system x (past end)) refl
          where
            at-begin : (o : Option ℕ) → begun_of system x (past end) ≡ o → rounds_of x (past (suc h)) ≡ rounds_of x (past end)
            at-begin None f = absurd (none-some since (sym (active-none (past end) end f) ∙ is.active_at))
            at-begin (Some b) f = (under b f (suc h) l).rounds

        by : IsOverdueRound system h x (one_more (rounds_of x (past end))) deadline since
        by =
            record {
              queued = queued_in free since;
              stood = parts_in x (past (suc h)) free since h;
              found =
                  ap (overdue_since system (past (suc h)) h x) now
                  ∙ at-is h x (one_more (rounds_of x (past (suc h)))) deadline free since (parts_in x (past (suc h)) free since h)
                  (reached-by deadline (h - since) is.some_limit long)
                  ∙ ap (λ n. Some (Overdue x (one_more n) (h - since) deadline since (queued_in free since) (parts_in x (past (suc h)) free since h))) rounds;
            }

  -- a thread that was never activated by the end of the period never is
  abbrev once : ℕ → Bool
  once h =
      was_activated waits bits (first_word system x (past (suc h))) (standing_at h (telling x (past (suc h)))) (stood_in x (past (suc h)) 0 h)

  never-so : (h : ℕ) (b : Bool) → once h ≡ b → never system (past (suc h)) h x ≡ never_at x deadline b
  never-so h b e = ap (never_at x deadline) e

  never-zero : (b : Bool) → (deadline == 0) ≡ true → never_at x deadline b ≡ None
  never-zero b e = ap (λ c. cond (not c && not b) (Some (Never x deadline)) None) e

  never-once : never_at x deadline true ≡ None
  never-once = by (deadline == 0)
    where
      by : (c : Bool) → cond (not c && not true) (Some (Never x deadline)) None ≡ None
      by true = refl
      by false = refl

  -- by the ticks, if the script begins with no wait
  ticks-none : waits ≡ None → once last ≡ false → (h : ℕ) → last ≤ h → once h ≡ false
  ticks-none w e h l =
      ap (λ w. was_activated w bits (first_word system x (past (suc h))) (standing_at h rows) (stood_in x (past (suc h)) 0 h)) w
      ∙ ap (λ a. a || not (active_ticks (stood_in x (past (suc h)) 0 h) == 0)) (ap is_active (tick-stands system well x h h (omega arith)) ∙ ever h)
      ∙ zero-ticks (active_ticks (stood_in x (past (suc h)) 0 h)) (ap active_ticks (from-zero h) ∙ none-count rows 0 h (λ i k. ap is_active (tick-stands system well x h (0 + i) (omega (arith, k))) ∙ ever (0 + i)))
    where
      rows : List Row
      rows = telling x (past (suc h))

      before : List Row
      before = telling x (past (suc last))

      from-zero : (n : ℕ) → stood_for rows 0 (n - 0) ≡ stood_for rows 0 n
      from-zero n = ap (stood_for rows 0) (let e : n - 0 ≡ n = omega arith in e)

      last-zero : stood_for before 0 (last - 0) ≡ stood_for before 0 last
      last-zero = ap (stood_for before 0) (let e : last - 0 ≡ last = omega arith in e)

      zero-ticks : (n : ℕ) → n ≡ 0 → not (n == 0) ≡ false
      zero-ticks n f = ap (λ n. not (n == 0)) f

      split : (a : Bool) (n : ℕ) → (a || not (n == 0)) ≡ false → (a ≡ false) × (n ≡ 0)
      split true n f = absurd (contrary true f refl)
      split false n f = (refl, none n f)
        where
          none : (n : ℕ) → not (n == 0) ≡ false → n ≡ 0
          none n f = grind (arith, nat_tests)

      halves : (is_active (standing_at last before) ≡ false) × (active_ticks (stood_in x (past (suc last)) 0 last) ≡ 0)
      halves =
          split (is_active (standing_at last before)) (active_ticks (stood_in x (past (suc last)) 0 last))
          (sym (ap (λ w. was_activated w bits (first_word system x (past (suc last))) (standing_at last before) (stood_in x (past (suc last)) 0 last)) w) ∙ e)

      ever : (t : ℕ) → is_active (stands system well x t) ≡ false
      ever t = never-active system well x group shifts from recur.recurs own 0 (omega arith) quiet t (omega arith)
        where
          quiet : (t : ℕ) → 0 ≤ t → t < from + shifts.by → is_active (stands system well x t) ≡ false
          quiet t m n = sym (ap is_active (tick-stands system well x last t (omega (arith, n)))) ∙ by (nat_lt t last) refl
            where
              by : (c : Bool) → nat_lt t last ≡ c → is_active (standing_at t before) ≡ false
              by true f =
                  let g : 0 + t ≡ t = omega arith in
                  ap (λ t. is_active (standing_at t before)) (sym g) ∙ count-none before 0 last t (sym (ap active_ticks (last-zero)) ∙ halves.1) (grind (arith, nat_tests))
              by false f =
                  let low : last ≤ t = grind (arith, nat_tests) in
                  let same : t ≡ last = omega (arith, low, n) in
                  ap (λ t. is_active (standing_at t before)) same ∙ halves.0

  -- and by the words that its notification gave, if it begins with a wait
  given-none : (note : ℕ) → waits ≡ Some note → once last ≡ false → (h : ℕ) → last ≤ h → once h ≡ false
  given-none note w e h l =
      at-word h ∙ never-given system note bits group shifts from well recur.recurs mine (sym (word-end) ∙ e) (suc h) (omega (arith, l, some))
    where
      there : (note < length system.notes)
      there = (waits-first system (core_of system (thread_part system x)) (thread_part system x).script note (well.threads x no_thread known).items w).0

      mine : group (note_part system note).core ≡ true
      mine = ap group (waits-first system (core_of system (thread_part system x)) (thread_part system x).script note (well.threads x no_thread known).items w).1 ∙ own

      at-word : (h : ℕ) → once h ≡ is_set bits (held_in system note (past (suc h))).given
      at-word h =
          ap (λ w. was_activated w bits (word_for (firsts_of system) w (past (suc h))) (standing_at h (telling x (past (suc h)))) (stood_in x (past (suc h)) 0 h)) w
          ∙ ap (λ (held : Held). is_set bits held.given) (held-known system note (past (suc h)) there)

      word-end : once last ≡ is_set bits (held_in system note (past end)).given
      word-end = at-word last ∙ ap (λ t. is_set bits (held_in system note (past t)).given) last-is

  once-none : once last ≡ false → (h : ℕ) → last ≤ h → once h ≡ false
  once-none e h l = by waits refl
    where
      by : (w : Option ℕ) → waits ≡ w → once h ≡ false
      by None f = ticks-none f e h l
      by (Some note) f = given-none note f e h l

  never-on : (h : ℕ) → end ≤ suc h → never system (past (suc h)) h x ≡ never system (past (suc last)) last x
  never-on h l = by (deadline == 0) (once last) refl refl
    where
      by : (c b : Bool) → (deadline == 0) ≡ c → once last ≡ b → never system (past (suc h)) h x ≡ never system (past (suc last)) last x
      by true b e f = never-zero (once h) e ∙ sym (never-zero (once last) e)
      by false true e f =
          let none = never-so last true f ∙ never-once in
          activation-stays system well x last h (omega (arith, l)) none ∙ sym none
      by false false e f =
          never-so h false (once-none f h (omega (arith, l))) ∙ sym (never-so last false f)

  pub goes-on : ThreadGoesOn system shifts.by from x
  goes-on =
      record {
        in_time = λ none missed h. record { missed = no-miss missed h; overdue = in-time none missed h };
        endless = λ number age limit since queued stood e h l m. endless number age limit since queued stood e h l m;
        never = λ h l. never-on h l;
      }
    where
      ends : Bool
      ends = ends_in_period system shifts.by from x

      in-time : endless_round system shifts.by from x ≡ None → has_miss_of x (told_up_to system last) ≡ false → (h : ℕ) → overdue system (past (suc h)) h x ≡ None
      in-time none missed h = by ends (deadline == 0) refl refl
        where
          by : (b c : Bool) → ends_in_period system shifts.by from x ≡ b → (deadline == 0) ≡ c → overdue system (past (suc h)) h x ≡ None
          by b true e f = zero-overdue (past (suc h)) h f
          by true false e f = ends-in-time missed e h
          by false false e f =
              none-overdue e f (sym (ap (λ b. cond b None (overdue system (past end) far x)) e) ∙ none) missed h

      none-found : (found : Finding) → None ≡ Some found → ⊥
      none-found found e = cc

      endless : (number age limit since queued : ℕ) (stood : Stood) → endless_round system shifts.by from x ≡ Some (Overdue x number age limit since queued stood)
          → (h : ℕ) → from + shifts.by ≤ suc h → limit ≤ h - since → IsOverdueRound system h x number limit since
      endless number age limit since queued stood e h l m = by (ends_in_period system shifts.by from x) refl
        where
          by : (b : Bool) → ends_in_period system shifts.by from x ≡ b → IsOverdueRound system h x number limit since
          by true f = absurd (none-found _ (sym (ap (λ b. cond b None (overdue system (past end) far x)) f) ∙ e))
          by false f =
              overdue-on f number limit since
              (some-far f number age limit since queued stood (sym (ap (λ b. cond b None (overdue system (past end) far x)) f) ∙ e)) h l m

pub threads-go-on : ThreadsGoOn
threads-go-on system group shifts from well recur x known own = goes-on system group shifts from well recur x known own
