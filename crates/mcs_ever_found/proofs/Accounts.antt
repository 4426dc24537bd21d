-- A later row changes a later account as the row changes the account, and ends the same round,
-- later.
use Rattle.std.proofs.Common.{◌≡◌, ℕ, ◌+◌, ◌-◌, ◌≤◌, max, Bool, true, false, cond, ◌&&◌, refl, sym, ap, ◌∙◌, Option, Some, None, option_map, arith}
use Rattle.std.specs.Prelude.{nat_lt, nat_le}
use Rattle.std.proofs.lemmas.Bool.Decides.{nat_tests}
use Rattle.mcs_ticks.specs.declared.row.What.{What}
use Rattle.mcs_ticks.specs.declared.row.What.TheVariants as row
use Rattle.mcs_ticks.specs.declared.row.Why.{Why}
use Rattle.mcs_ticks.specs.declared.row.Why.TheVariants as why
use Rattle.mcs_verdict.specs.declared.account.Account.{Account}
use Rattle.mcs_verdict.specs.declared.finding.Finding.{Finding}
use Rattle.mcs_verdict.specs.declared.finding.Finding.TheVariants.{Miss}
use Rattle.mcs_verdict.specs.declared.job.Job.{Job}
use Rattle.mcs_verdict.specs.declared.standing.Standing.{Standing}
use Rattle.mcs_verdict.specs.declared.standing.Stood.{Stood}
use Rattle.mcs_verdict.specs.Activation.{is_active}
use Rattle.mcs_verdict.specs.Standing.{standing_stopped, standing_until, standing_after}
use Rattle.mcs_verdict.specs.Stood.{no_ticks, counted}
use Rattle.mcs_verdict.specs.Parts.{counted_from, queued_in}
use Rattle.mcs_verdict.specs.Rounds.{begun_at, begins_round, activated_by}
use Rattle.mcs_verdict.specs.Jobs.{with_preemption, or_now, ended}
use Rattle.mcs_verdict.specs.Misses.{is_above, missed}
use Rattle.mcs_verdict.specs.Account.{counting, stood_from, stood_since, or_first, active_since, counting_at, told, ends, preempted, given_by, given, turned, seen_own, activated_if, activated_since, parts_since, job_by}
use Rattle.mcs_verdict.specs.Later.{later_moment, later_account, without_total, IsLaterAccount}
use Rattle.mcs_ever.specs.Later.{Shift, later_what, more_rounds}
use Rattle.mcs_ever_found.specs.Later.{later_job, later_finding}

-- how a thread stood in its round, if one is under way
abbrev pub stood_if : Option ℕ → Stood → Stood
stood_if None stood = no_ticks
stood_if (Some begun) stood = stood

-- an account without what grows, and between rounds without the ticks of the round that the held
-- word begins, which depend on when the word was set
abbrev pub quiet : Account → Account
quiet account = record account { rounds = 0; total = no_ticks; stood = stood_if account.begun account.stood }

abbrev pub IsLaterQuiet : ℕ → Account → Account → Type 0
IsLaterQuiet by before after = quiet after ≡ later_account by (quiet before)

-- the ticks that are counted, by what they depend on
abbrev stood_by : Option ℕ → Option ℕ → ℕ → ℕ → Account → Stood
stood_by waits begun set m a =
    stood_since (counting waits begun a.free a.called (active_since begun m a.standing a) set) m a.standing a

module _ (shift : Shift) where
  abbrev d : ℕ
  d = shift.by

  abbrev later : Account → Account
  later account = later_account shift.by account

  abbrev bare : Account → Account
  bare account = without_total account

  -- numbers
  max-later : (a b d : ℕ) → max (a + d) (b + d) ≡ max a b + d
  max-later a b d = omega arith

  less-later : (a b d : ℕ) → nat_lt (a + d) (b + d) ≡ nat_lt a b
  less-later a b d = grind (arith, nat_tests)

  most-later : (a b d : ℕ) → nat_le (a + d) (b + d) ≡ nat_le a b
  most-later a b d = grind (arith, nat_tests)

  past-later : (m from since d : ℕ) → m + d - max (since + d) (from + d) ≡ m - max since from
  past-later m from since d = omega arith

  under-max : (a b c : ℕ) → a ≤ b → nat_le a (max b c) ≡ true
  under-max a b c l = let m : a ≤ max b c = omega (arith, l) in grind (arith, nat_tests)

  -- the first tick
  first-later : (earlier : Option ℕ) (active : Bool) (from since m : ℕ) →
      or_first (later_moment d earlier) active (max (since + d) (from + d)) (m + d) ≡ later_moment d (or_first earlier active (max since from) m)
  first-later (Some earlier) active from since m = refl
  first-later None active from since m =
      ap (λ n. cond (active && nat_lt n (m + d)) (Some n) None) (max-later since from d)
      ∙ ap (λ b. cond (active && b) (Some (max since from + d)) None) (less-later (max since from) m d)
      ∙ by (active && nat_lt (max since from) m)
    where
      by : (b : Bool) → cond b (Some (max since from + d)) None ≡ later_moment d (cond b (Some (max since from)) None)
      by true = refl
      by false = refl

  active-later : (begun : Option ℕ) (m : ℕ) (s : Standing) (a : Account) →
      active_since (later_moment d begun) (m + d) s (later a) ≡ later_moment d (active_since begun m s a)
  active-later None m s a = refl
  active-later (Some from) m s a = first-later a.active (is_active s) from a.since m

  -- from when ticks are counted
  from-later : (free : ℕ) (activated : Option ℕ) → counted_from (free + d) (later_moment d activated) ≡ later_moment d (counted_from free activated)
  from-later free None = refl
  from-later free (Some activated) = ap Some (max-later activated free d)

  counting-later : (waits begun : Option ℕ) (free : ℕ) (called active : Option ℕ) (set : ℕ) →
      counting waits (later_moment d begun) (free + d) (later_moment d called) (later_moment d active) (set + d)
      ≡ later_moment d (counting waits begun free called active set)
  counting-later (Some note) (Some begun) free called active set = from-later free called
  counting-later (Some note) None free called active set = from-later free (Some set)
  counting-later None (Some begun) free called active set = from-later free active
  counting-later None None free called active set = from-later free active

  -- the ticks from then on
  stood-later : (from : Option ℕ) (m : ℕ) (s : Standing) (a : Account) → stood_since (later_moment d from) (m + d) s (later a) ≡ stood_since from m s a
  stood-later None m s a = refl
  stood-later (Some from) m s a =
      ap (λ n. counted s n (stood_from (from + d) (later a))) (past-later m from a.since d)
      ∙ ap (λ b. counted s (m - max a.since from) (cond b no_ticks a.stood)) (most-later a.since from d)

  kept-later : (waits begun : Option ℕ) (set m : ℕ) (a : Account) →
      stood_by waits (later_moment d begun) (set + d) (m + d) (later a) ≡ stood_by waits begun set m a
  kept-later waits begun set m a =
      ap (λ active. stood_since (counting waits (later_moment d begun) (a.free + d) (later_moment d a.called) active (set + d)) (m + d) a.standing (later a))
      (active-later begun m a.standing a)
      ∙ ap (λ from. stood_since from (m + d) a.standing (later a)) (counting-later waits begun a.free a.called (active_since begun m a.standing a) set)
      ∙ stood-later (counting waits begun a.free a.called (active_since begun m a.standing a) set) m a.standing a

  -- neither depends on what grows
  active-bare : (begun : Option ℕ) (m : ℕ) (s : Standing) (a : Account) → active_since begun m s (bare a) ≡ active_since begun m s a
  active-bare None m s a = refl
  active-bare (Some from) m s a = refl

  since-bare : (from : Option ℕ) (m : ℕ) (s : Standing) (a : Account) → stood_since from m s (bare a) ≡ stood_since from m s a
  since-bare None m s a = refl
  since-bare (Some from) m s a = refl

  stood-bare : (waits begun : Option ℕ) (set m : ℕ) (a : Account) → stood_by waits begun set m (bare a) ≡ stood_by waits begun set m a
  stood-bare waits begun set m a =
      ap (λ active. stood_since (counting waits begun a.free a.called active set) m a.standing (bare a)) (active-bare begun m a.standing a)
      ∙ since-bare (counting waits begun a.free a.called (active_since begun m a.standing a) set) m a.standing a

  -- a later row gives the same standing
  until-later : (until : Option ℕ) → standing_until (option_map (λ date. date + d) until) ≡ standing_until until
  until-later None = refl
  until-later (Some date) = refl

  pub after-later : (what : What) → standing_after (later_what shift what) ≡ standing_after what
  after-later (row.Stop x cause k until) = by cause
    where
      by : (cause : Why) → standing_stopped cause (option_map (λ date. date + d) until) ≡ standing_stopped cause until
      by why.Wait = refl
      by why.Call = refl
      by why.Done = refl
      by why.Spent = until-later until
      by why.Yield = until-later until
      by why.Preempt = until-later until
      by why.Order = until-later until
  after-later (row.Wake x note word until) = until-later until
  after-later (row.Release x) = refl
  after-later (row.Run x) = refl
  after-later (row.Signal x note badge) = refl
  after-later (row.Arrive note badge maker) = refl
  after-later (row.Hold note word) = refl
  after-later (row.Got x note word) = refl
  after-later (row.Round x number response) = refl
  after-later (row.Order context) = refl
  after-later (row.Interrupt source at_note badge) = refl

  -- a row that decides the standing, after which the thread stands so
  abbrev stood_so : Account → Option ℕ → Stood → Standing → ℕ → Account
  stood_so account active stood standing since =
      record account { active = active; stood = stood; standing = standing; since = since; rounds = 0; total = no_ticks }

  bare-told : (set m : ℕ) (what : What) (a : Account) → bare (told set m what (bare a)) ≡ bare (told set m what a)
  bare-told set m what a =
      ap (λ active. stood_so a active (stood_by a.waits a.begun set m (bare a)) (standing_after what) m) (active-bare a.begun m a.standing a)
      ∙ ap (λ stood. stood_so a (active_since a.begun m a.standing a) stood (standing_after what) m) (stood-bare a.waits a.begun set m a)

  told-later : (set m : ℕ) (what : What) (a : Account) → bare (told (set + d) (m + d) (later_what shift what) (later a)) ≡ later (bare (told set m what a))
  told-later set m what a =
      ap (λ s. stood_so (later a) (active_since (later_moment d a.begun) (m + d) a.standing (later a)) (stood_by a.waits (later_moment d a.begun) (set + d) (m + d) (later a)) s (m + d)) (after-later what)
      ∙ ap (λ active. stood_so (later a) active (stood_by a.waits (later_moment d a.begun) (set + d) (m + d) (later a)) (standing_after what) (m + d)) (active-later a.begun m a.standing a)
      ∙ ap (λ stood. stood_so (later a) (later_moment d (active_since a.begun m a.standing a)) stood (standing_after what) (m + d)) (kept-later a.waits a.begun set m a)

  -- between rounds it does not matter when the word was set
  if-later : (waits begun : Option ℕ) (set set' m : ℕ) (a : Account) →
      stood_if (later_moment d begun) (stood_by waits (later_moment d begun) set' (m + d) (later a)) ≡ stood_if begun (stood_by waits begun set m a)
  if-later waits None set set' m a = refl
  if-later (Some note) (Some begun) set set' m a = kept-later (Some note) (Some begun) set m a
  if-later None (Some begun) set set' m a = kept-later None (Some begun) set m a

  if-quiet : (waits begun : Option ℕ) (set m : ℕ) (a : Account) →
      stood_if begun (stood_by waits begun set m (record a { rounds = 0; total = no_ticks; stood = stood_if begun a.stood })) ≡ stood_if begun (stood_by waits begun set m a)
  if-quiet waits None set m a = refl
  if-quiet waits (Some begun) set m a = stood-bare waits (Some begun) set m a

  active-quiet : (begun : Option ℕ) (m : ℕ) (s : Standing) (a : Account) → active_since begun m s (quiet a) ≡ active_since begun m s a
  active-quiet None m s a = refl
  active-quiet (Some from) m s a = refl

  quiet-told : (set m : ℕ) (what : What) (a : Account) → quiet (told set m what (quiet a)) ≡ quiet (told set m what a)
  quiet-told set m what a =
      ap (λ active. stood_so a active (stood_if a.begun (stood_by a.waits a.begun set m (quiet a))) (standing_after what) m) (active-quiet a.begun m a.standing a)
      ∙ ap (λ stood. stood_so a (active_since a.begun m a.standing a) stood (standing_after what) m) (if-quiet a.waits a.begun set m a)

  told-quiet : (set set' m : ℕ) (what : What) (a : Account) → quiet (told set' (m + d) (later_what shift what) (later a)) ≡ later (quiet (told set m what a))
  told-quiet set set' m what a =
      ap (λ s. stood_so (later a) (active_since (later_moment d a.begun) (m + d) a.standing (later a)) (stood_if (later_moment d a.begun) (stood_by a.waits (later_moment d a.begun) set' (m + d) (later a))) s (m + d)) (after-later what)
      ∙ ap (λ active. stood_so (later a) active (stood_if (later_moment d a.begun) (stood_by a.waits (later_moment d a.begun) set' (m + d) (later a))) (standing_after what) (m + d)) (active-later a.begun m a.standing a)
      ∙ ap (λ stood. stood_so (later a) (later_moment d (active_since a.begun m a.standing a)) stood (standing_after what) (m + d)) (if-later a.waits a.begun set set' m a)

  -- a word that is given
  abbrev begun_so : Account → ℕ → ℕ → Stood → Account
  begun_so account m set stood =
      record account { begun = Some m; called = Some set; active = None; stood = stood; rounds = 0; total = no_ticks }

  bare-given : (m set note word : ℕ) (a : Account) → bare (given m set note word (bare a)) ≡ bare (given m set note word a)
  bare-given m set note word a = by (begins_round a.waits a.bits note word) a.begun
    where
      by : (c : Bool) (begun : Option ℕ) → bare (given_by m set c begun (bare a)) ≡ bare (given_by m set c begun a)
      by true None = refl
      by true (Some from) = refl
      by false None = refl
      by false (Some from) = refl

  given-later : (m set note word : ℕ) (a : Account) → bare (given (m + d) (set + d) note word (later a)) ≡ later (bare (given m set note word a))
  given-later m set note word a = by (begins_round a.waits a.bits note word) a.begun
    where
      by : (c : Bool) (begun : Option ℕ) → bare (given_by (m + d) (set + d) c (later_moment d begun) (later a)) ≡ later (bare (given_by m set c begun a))
      by true None =
          ap (λ n. begun_so (later a) (m + d) (set + d) (stood_from n (later a))) (max-later set a.free d)
          ∙ ap (λ b. begun_so (later a) (m + d) (set + d) (cond b no_ticks a.stood)) (most-later a.since (max set a.free) d)
      by true (Some from) = refl
      by false None = refl
      by false (Some from) = refl

  -- a word that wakes the thread, right after that has decided its standing: no tick is counted
  wake-later : (set set' m note word : ℕ) (what : What) (a : Account) →
      quiet (given (m + d) (m + d) note word (told set' (m + d) (later_what shift what) (later a))) ≡ later (quiet (given m m note word (told set m what a)))
  wake-later set set' m note word what a = by (begins_round a.waits a.bits note word) a.begun
    where
      after : Account
      after = told set' (m + d) (later_what shift what) (later a)

      before : Account
      before = told set m what a

      by : (c : Bool) (begun : Option ℕ) → quiet (given_by (m + d) (m + d) c (later_moment d begun) after) ≡ later (quiet (given_by m m c begun before))
      by true None =
          ap (λ b. begun_so after (m + d) (m + d) (cond b no_ticks after.stood)) (under-max (m + d) (m + d) (a.free + d) (omega arith))
          ∙ ap (λ s. begun_so (record (later a) { standing = s; since = m + d }) (m + d) (m + d) no_ticks) (after-later what)
          ∙ sym (ap (λ b. later (begun_so before m m (cond b no_ticks before.stood))) (under-max m m a.free (omega arith)))
      by true (Some from) = told-quiet set set' m what a
      by false None = told-quiet set set' m what a
      by false (Some from) = told-quiet set set' m what a

  wake-quiet : (set m note word : ℕ) (what : What) (a : Account) →
      quiet (given m m note word (told set m what (quiet a))) ≡ quiet (given m m note word (told set m what a))
  wake-quiet set m note word what a = by (begins_round a.waits a.bits note word) a.begun
    where
      after : Account
      after = told set m what (quiet a)

      before : Account
      before = told set m what a

      by : (c : Bool) (begun : Option ℕ) → quiet (given_by m m c begun after) ≡ quiet (given_by m m c begun before)
      by true None =
          ap (λ b. begun_so after m m (cond b no_ticks after.stood)) (under-max m m a.free (omega arith))
          ∙ sym (ap (λ b. begun_so before m m (cond b no_ticks before.stood)) (under-max m m a.free (omega arith)))
      by true (Some from) = quiet-told set m what a
      by false None = quiet-told set m what a
      by false (Some from) = quiet-told set m what a

  -- a round that ends
  begun-later : (waits : Option ℕ) (m : ℕ) → begun_at waits (m + d) ≡ later_moment d (begun_at waits m)
  begun-later (Some note) m = refl
  begun-later None m = refl

  abbrev ended_so : Account → ℕ → Option ℕ → Account
  ended_so account m begun =
      record account { free = m; rounds = 0; begun = begun; active = None; preemptions = 0; stood = no_ticks; total = no_ticks }

  none-stood : (begun : Option ℕ) → stood_if begun no_ticks ≡ no_ticks
  none-stood None = refl
  none-stood (Some from) = refl

  ends-later : (m n k : ℕ) (a : Account) → bare (ends (m + d) n (begun_at a.waits (m + d)) (later a)) ≡ later (bare (ends m k (begun_at a.waits m) a))
  ends-later m n k a = ap (ended_so (later a) (m + d)) (begun-later a.waits m)

  ends-quiet : (m n k : ℕ) (a : Account) → quiet (ends (m + d) n (begun_at a.waits (m + d)) (later a)) ≡ later (quiet (ends m k (begun_at a.waits m) a))
  ends-quiet m n k a = by a.waits
    where
      by : (waits : Option ℕ) → quiet (ends (m + d) n (begun_at waits (m + d)) (later a)) ≡ later (quiet (ends m k (begun_at waits m) a))
      by (Some note) = refl
      by None = refl

  with-later : (begun : Option ℕ) (n : ℕ) → with_preemption (later_moment d begun) n ≡ with_preemption begun n
  with-later None n = refl
  with-later (Some from) n = refl

  preempted-later : (a : Account) → bare (preempted (later a)) ≡ later (bare (preempted a))
  preempted-later a = ap (λ preemptions. record (bare (later a)) { preemptions = preemptions }) (with-later a.begun a.preemptions)

  if-if : (begun : Option ℕ) (stood : Stood) → stood_if (later_moment d begun) stood ≡ stood_if begun stood
  if-if None stood = refl
  if-if (Some from) stood = refl

  preempted-quiet : (a : Account) → quiet (preempted (later a)) ≡ later (quiet (preempted a))
  preempted-quiet a =
      ap (λ n. record (quiet (later a)) { preemptions = n }) (with-later a.begun a.preemptions)
      ∙ ap (λ stood. record (quiet (later a)) { preemptions = with_preemption a.begun a.preemptions; stood = stood }) (if-if a.begun a.stood)

  -- a row that decides the standing, and then counts a preemption or ends the last round
  told-preempted : (set m : ℕ) (what : What) (a : Account) →
      bare (preempted (told (set + d) (m + d) (later_what shift what) (later a))) ≡ later (bare (preempted (told set m what a)))
  told-preempted set m what a =
      ap (λ (b : Account). bare (preempted b)) (told-later set m what a) ∙ preempted-later (bare (told set m what a))

  quiet-preempted : (set set' m : ℕ) (what : What) (a : Account) →
      quiet (preempted (told set' (m + d) (later_what shift what) (later a))) ≡ later (quiet (preempted (told set m what a)))
  quiet-preempted set set' m what a =
      ap (λ n. record (quiet (told set' (m + d) (later_what shift what) (later a))) { preemptions = n }) (with-later a.begun a.preemptions)
      ∙ ap (λ (b : Account). record b { preemptions = with_preemption a.begun a.preemptions }) (told-quiet set set' m what a)

  quiet-done : (set set' m : ℕ) (what : What) (n k : ℕ) (a : Account) →
      quiet (ends (m + d) n None (told set' (m + d) (later_what shift what) (later a))) ≡ later (quiet (ends m k None (told set m what a)))
  quiet-done set set' m what n k a =
      ap (λ s. record (ended_so (later a) (m + d) None) { standing = s; since = m + d }) (after-later what)

  -- one row more: its effect does not depend on what grows
  seen-bare : (set m : ℕ) (what : What) (a : Account) → bare (seen_own set m what (bare a)) ≡ bare (seen_own set m what a)
  seen-bare set m (row.Got x note word) a = bare-given m set note word a
  seen-bare set m (row.Round x number response) a = refl
  seen-bare set m (row.Stop x why.Done k until) a = refl
  seen-bare set m (row.Stop x why.Preempt k until) a = ap (λ (b : Account). bare (preempted b)) (bare-told set m (row.Stop x why.Preempt k until) a)
  seen-bare set m (row.Stop x why.Spent k until) a = bare-told set m (row.Stop x why.Spent k until) a
  seen-bare set m (row.Stop x why.Yield k until) a = bare-told set m (row.Stop x why.Yield k until) a
  seen-bare set m (row.Stop x why.Wait k until) a = bare-told set m (row.Stop x why.Wait k until) a
  seen-bare set m (row.Stop x why.Call k until) a = bare-told set m (row.Stop x why.Call k until) a
  seen-bare set m (row.Stop x why.Order k until) a = bare-told set m (row.Stop x why.Order k until) a
  seen-bare set m (row.Wake x note word until) a =
      sym (bare-given m m note word (told set m (row.Wake x note word until) (bare a)))
      ∙ ap (λ (b : Account). bare (given m m note word b)) (bare-told set m (row.Wake x note word until) a)
      ∙ bare-given m m note word (told set m (row.Wake x note word until) a)
  seen-bare set m (row.Release x) a = bare-told set m (row.Release x) a
  seen-bare set m (row.Run x) a = bare-told set m (row.Run x) a
  seen-bare set m (row.Signal x note badge) a = bare-told set m (row.Signal x note badge) a
  seen-bare set m (row.Arrive note badge maker) a = bare-told set m (row.Arrive note badge maker) a
  seen-bare set m (row.Hold note word) a = bare-told set m (row.Hold note word) a
  seen-bare set m (row.Order context) a = bare-told set m (row.Order context) a
  seen-bare set m (row.Interrupt source at_note badge) a = bare-told set m (row.Interrupt source at_note badge) a

  seen-later : (set m : ℕ) (what : What) (a : Account) → bare (seen_own (set + d) (m + d) (later_what shift what) (later a)) ≡ later (bare (seen_own set m what a))
  seen-later set m (row.Got x note word) a = given-later m set note word a
  seen-later set m (row.Round x number response) a = ends-later m (more_rounds (shift.rounds x) number) number a
  seen-later set m (row.Stop x why.Done k until) a = refl
  seen-later set m (row.Stop x why.Preempt k until) a = told-preempted set m (row.Stop x why.Preempt k until) a
  seen-later set m (row.Stop x why.Spent k until) a = told-later set m (row.Stop x why.Spent k until) a
  seen-later set m (row.Stop x why.Yield k until) a = told-later set m (row.Stop x why.Yield k until) a
  seen-later set m (row.Stop x why.Wait k until) a = told-later set m (row.Stop x why.Wait k until) a
  seen-later set m (row.Stop x why.Call k until) a = told-later set m (row.Stop x why.Call k until) a
  seen-later set m (row.Stop x why.Order k until) a = told-later set m (row.Stop x why.Order k until) a
  seen-later set m (row.Wake x note word until) a =
      sym (bare-given (m + d) (m + d) note word (told (set + d) (m + d) (later_what shift (row.Wake x note word until)) (later a)))
      ∙ ap (λ (b : Account). bare (given (m + d) (m + d) note word b)) (told-later set m (row.Wake x note word until) a)
      ∙ given-later m m note word (bare (told set m (row.Wake x note word until) a))
      ∙ ap later (bare-given m m note word (told set m (row.Wake x note word until) a))
  seen-later set m (row.Release x) a = told-later set m (row.Release x) a
  seen-later set m (row.Run x) a = told-later set m (row.Run x) a
  seen-later set m (row.Signal x note badge) a = told-later set m (row.Signal x note badge) a
  seen-later set m (row.Arrive note badge maker) a = told-later set m (row.Arrive note badge maker) a
  seen-later set m (row.Hold note word) a = told-later set m (row.Hold note word) a
  seen-later set m (row.Order context) a = told-later set m (row.Order context) a
  seen-later set m (row.Interrupt source at_note badge) a = told-later set m (row.Interrupt source at_note badge) a

  pub account-seen : (set m : ℕ) (what : What) (a b : Account) → IsLaterAccount d a b →
      IsLaterAccount d (seen_own set m what a) (seen_own (set + d) (m + d) (later_what shift what) b)
  account-seen set m what a b h =
      sym (seen-bare (set + d) (m + d) (later_what shift what) b)
      ∙ ap (λ (c : Account). bare (seen_own (set + d) (m + d) (later_what shift what) c)) h
      ∙ seen-later set m what (bare a)
      ∙ ap later (seen-bare set m what a)

  -- the same of what is kept between rounds, whenever the word was set; a word that is taken begins
  -- no round
  abbrev pub BeginsNone : What → Account → Type 0
  BeginsNone (row.Got x note word) a = begins_round a.waits a.bits note word ≡ false
  BeginsNone (row.Release x) a = Unit {0}
  BeginsNone (row.Run x) a = Unit {0}
  BeginsNone (row.Stop x cause k until) a = Unit {0}
  BeginsNone (row.Signal x note badge) a = Unit {0}
  BeginsNone (row.Arrive note badge maker) a = Unit {0}
  BeginsNone (row.Wake x note word until) a = Unit {0}
  BeginsNone (row.Hold note word) a = Unit {0}
  BeginsNone (row.Round x number response) a = Unit {0}
  BeginsNone (row.Order context) a = Unit {0}
  BeginsNone (row.Interrupt source at_note badge) a = Unit {0}

  idle-given : (m set note word : ℕ) (a : Account) → begins_round a.waits a.bits note word ≡ false → given m set note word a ≡ a
  idle-given m set note word a e = ap (λ c. given_by m set c a.begun a) e ∙ by a.begun
    where
      by : (begun : Option ℕ) → given_by m set false begun a ≡ a
      by None = refl
      by (Some from) = refl

  seen-quiet : (set m : ℕ) (what : What) (a : Account) → BeginsNone what a → quiet (seen_own set m what (quiet a)) ≡ quiet (seen_own set m what a)
  seen-quiet set m (row.Got x note word) a e =
      ap quiet (idle-given m set note word (quiet a) e) ∙ again a.begun ∙ ap quiet (sym (idle-given m set note word a e))
    where
      again : (begun : Option ℕ) → record a { rounds = 0; total = no_ticks; stood = stood_if a.begun (stood_if a.begun a.stood) } ≡ quiet a
      again begun = ap (λ stood. record a { rounds = 0; total = no_ticks; stood = stood }) (twice a.begun)
        where
          twice : (begun : Option ℕ) → stood_if begun (stood_if begun a.stood) ≡ stood_if begun a.stood
          twice None = refl
          twice (Some from) = refl
  seen-quiet set m (row.Round x number response) a e = refl
  seen-quiet set m (row.Stop x why.Done k until) a e = refl
  seen-quiet set m (row.Stop x why.Preempt k until) a e =
      ap (λ (b : Account). record b { preemptions = with_preemption a.begun a.preemptions }) (quiet-told set m (row.Stop x why.Preempt k until) a)
  seen-quiet set m (row.Stop x why.Spent k until) a e = quiet-told set m (row.Stop x why.Spent k until) a
  seen-quiet set m (row.Stop x why.Yield k until) a e = quiet-told set m (row.Stop x why.Yield k until) a
  seen-quiet set m (row.Stop x why.Wait k until) a e = quiet-told set m (row.Stop x why.Wait k until) a
  seen-quiet set m (row.Stop x why.Call k until) a e = quiet-told set m (row.Stop x why.Call k until) a
  seen-quiet set m (row.Stop x why.Order k until) a e = quiet-told set m (row.Stop x why.Order k until) a
  seen-quiet set m (row.Wake x note word until) a e = wake-quiet set m note word (row.Wake x note word until) a
  seen-quiet set m (row.Release x) a e = quiet-told set m (row.Release x) a
  seen-quiet set m (row.Run x) a e = quiet-told set m (row.Run x) a
  seen-quiet set m (row.Signal x note badge) a e = quiet-told set m (row.Signal x note badge) a
  seen-quiet set m (row.Arrive note badge maker) a e = quiet-told set m (row.Arrive note badge maker) a
  seen-quiet set m (row.Hold note word) a e = quiet-told set m (row.Hold note word) a
  seen-quiet set m (row.Order context) a e = quiet-told set m (row.Order context) a
  seen-quiet set m (row.Interrupt source at_note badge) a e = quiet-told set m (row.Interrupt source at_note badge) a

  quiet-later : (set set' m : ℕ) (what : What) (a : Account) → BeginsNone what a →
      quiet (seen_own set' (m + d) (later_what shift what) (later a)) ≡ later (quiet (seen_own set m what a))
  quiet-later set set' m (row.Got x note word) a e =
      ap quiet (idle-given (m + d) set' note word (later a) e)
      ∙ ap (λ stood. record (quiet (later a)) { stood = stood }) (if-if a.begun a.stood)
      ∙ ap (λ (b : Account). later (quiet b)) (sym (idle-given m set note word a e))
  quiet-later set set' m (row.Round x number response) a e = ends-quiet m (more_rounds (shift.rounds x) number) number a
  quiet-later set set' m (row.Stop x why.Done k until) a e = quiet-done set set' m (row.Stop x why.Done k until) a.rounds a.rounds a
  quiet-later set set' m (row.Stop x why.Preempt k until) a e = quiet-preempted set set' m (row.Stop x why.Preempt k until) a
  quiet-later set set' m (row.Stop x why.Spent k until) a e = told-quiet set set' m (row.Stop x why.Spent k until) a
  quiet-later set set' m (row.Stop x why.Yield k until) a e = told-quiet set set' m (row.Stop x why.Yield k until) a
  quiet-later set set' m (row.Stop x why.Wait k until) a e = told-quiet set set' m (row.Stop x why.Wait k until) a
  quiet-later set set' m (row.Stop x why.Call k until) a e = told-quiet set set' m (row.Stop x why.Call k until) a
  quiet-later set set' m (row.Stop x why.Order k until) a e = told-quiet set set' m (row.Stop x why.Order k until) a
  quiet-later set set' m (row.Wake x note word until) a e = wake-later set set' m note word (row.Wake x note word until) a
  quiet-later set set' m (row.Release x) a e = told-quiet set set' m (row.Release x) a
  quiet-later set set' m (row.Run x) a e = told-quiet set set' m (row.Run x) a
  quiet-later set set' m (row.Signal x note badge) a e = told-quiet set set' m (row.Signal x note badge) a
  quiet-later set set' m (row.Arrive note badge maker) a e = told-quiet set set' m (row.Arrive note badge maker) a
  quiet-later set set' m (row.Hold note word) a e = told-quiet set set' m (row.Hold note word) a
  quiet-later set set' m (row.Order context) a e = told-quiet set set' m (row.Order context) a
  quiet-later set set' m (row.Interrupt source at_note badge) a e = told-quiet set set' m (row.Interrupt source at_note badge) a

  none-later : (what : What) (a b : Account) → b.waits ≡ a.waits → b.bits ≡ a.bits → BeginsNone what a → BeginsNone (later_what shift what) b
  none-later (row.Got x note word) a b e f h = ap (λ waits. begins_round waits b.bits note word) e ∙ ap (λ bits. begins_round a.waits bits note word) f ∙ h
  none-later (row.Release x) a b e f h = tt
  none-later (row.Run x) a b e f h = tt
  none-later (row.Stop x cause k until) a b e f h = tt
  none-later (row.Signal x note badge) a b e f h = tt
  none-later (row.Arrive note badge maker) a b e f h = tt
  none-later (row.Wake x note word until) a b e f h = tt
  none-later (row.Hold note word) a b e f h = tt
  none-later (row.Round x number response) a b e f h = tt
  none-later (row.Order context) a b e f h = tt
  none-later (row.Interrupt source at_note badge) a b e f h = tt

  quiet-none : (what : What) (a : Account) → BeginsNone what a → BeginsNone what (quiet a)
  quiet-none (row.Got x note word) a h = h
  quiet-none (row.Release x) a h = tt
  quiet-none (row.Run x) a h = tt
  quiet-none (row.Stop x cause k until) a h = tt
  quiet-none (row.Signal x note badge) a h = tt
  quiet-none (row.Arrive note badge maker) a h = tt
  quiet-none (row.Wake x note word until) a h = tt
  quiet-none (row.Hold note word) a h = tt
  quiet-none (row.Round x number response) a h = tt
  quiet-none (row.Order context) a h = tt
  quiet-none (row.Interrupt source at_note badge) a h = tt

  pub quiet-seen : (set set' m : ℕ) (what : What) (a b : Account) → BeginsNone what a → IsLaterQuiet d a b →
      IsLaterQuiet d (seen_own set m what a) (seen_own set' (m + d) (later_what shift what) b)
  quiet-seen set set' m what a b none h =
      sym (seen-quiet set' (m + d) (later_what shift what) b (none-later what a b (ap (λ (c : Account). c.waits) h) (ap (λ (c : Account). c.bits) h) none))
      ∙ ap (λ (c : Account). quiet (seen_own set' (m + d) (later_what shift what) c)) h
      ∙ quiet-later set set' m what (quiet a) (quiet-none what a none)
      ∙ ap later (seen-quiet set m what a none)

  -- if the script does not begin with a wait, it does not matter what was set
  unset-told : (set set' m : ℕ) (what : What) (a : Account) → a.waits ≡ None → told set m what a ≡ told set' m what a
  unset-told set set' m what a e =
      ap (λ waits. record (told set m what a) { stood = stood_by waits a.begun set m a }) e
      ∙ sym (ap (λ waits. record (told set m what a) { stood = stood_by waits a.begun set' m a }) e)

  none-begins : (waits bits : Option ℕ) (note word : ℕ) → waits ≡ None → begins_round waits bits note word ≡ false
  none-begins waits bits note word e = ap (λ waits. begins_round waits bits note word) e

  pub unset-seen : (set set' m : ℕ) (what : What) (a : Account) → a.waits ≡ None → seen_own set m what a ≡ seen_own set' m what a
  unset-seen set set' m (row.Got x note word) a e =
      let none = none-begins a.waits a.bits note word e in
      idle-given m set note word a none ∙ sym (idle-given m set' note word a none)
  unset-seen set set' m (row.Round x number response) a e = refl
  unset-seen set set' m (row.Stop x why.Done k until) a e = ap (turned m (row.Stop x why.Done k until)) (unset-told set set' m (row.Stop x why.Done k until) a e)
  unset-seen set set' m (row.Stop x why.Preempt k until) a e = ap (turned m (row.Stop x why.Preempt k until)) (unset-told set set' m (row.Stop x why.Preempt k until) a e)
  unset-seen set set' m (row.Stop x why.Spent k until) a e = unset-told set set' m (row.Stop x why.Spent k until) a e
  unset-seen set set' m (row.Stop x why.Yield k until) a e = unset-told set set' m (row.Stop x why.Yield k until) a e
  unset-seen set set' m (row.Stop x why.Wait k until) a e = unset-told set set' m (row.Stop x why.Wait k until) a e
  unset-seen set set' m (row.Stop x why.Call k until) a e = unset-told set set' m (row.Stop x why.Call k until) a e
  unset-seen set set' m (row.Stop x why.Order k until) a e = unset-told set set' m (row.Stop x why.Order k until) a e
  unset-seen set set' m (row.Wake x note word until) a e = ap (turned m (row.Wake x note word until)) (unset-told set set' m (row.Wake x note word until) a e)
  unset-seen set set' m (row.Release x) a e = unset-told set set' m (row.Release x) a e
  unset-seen set set' m (row.Run x) a e = unset-told set set' m (row.Run x) a e
  unset-seen set set' m (row.Signal x note badge) a e = unset-told set set' m (row.Signal x note badge) a e
  unset-seen set set' m (row.Arrive note badge maker) a e = unset-told set set' m (row.Arrive note badge maker) a e
  unset-seen set set' m (row.Hold note word) a e = unset-told set set' m (row.Hold note word) a e
  unset-seen set set' m (row.Order context) a e = unset-told set set' m (row.Order context) a e
  unset-seen set set' m (row.Interrupt source at_note badge) a e = unset-told set set' m (row.Interrupt source at_note badge) a e

  -- what is later is so between rounds, too
  quiet-bare : (a : Account) → quiet (bare a) ≡ quiet a
  quiet-bare a = refl

  quiet-account : (a : Account) → quiet (later a) ≡ later (quiet a)
  quiet-account a = ap (λ stood. record (quiet (later a)) { stood = stood }) (if-if a.begun a.stood)

  pub later-quiet : (a b : Account) → IsLaterAccount d a b → IsLaterQuiet d a b
  later-quiet a b h = ap quiet h ∙ quiet-account (bare a)

  -- a round that ends: its activation
  by-later : (waits called active : Option ℕ) → activated_by waits (later_moment d called) (later_moment d active) ≡ later_moment d (activated_by waits called active)
  by-later (Some note) called active = refl
  by-later None called active = refl

  if-activated : (begun activated : Option ℕ) → activated_if (later_moment d begun) (later_moment d activated) ≡ later_moment d (activated_if begun activated)
  if-activated None activated = refl
  if-activated (Some from) activated = refl

  now-later : (m : ℕ) (o : Option ℕ) → or_now (m + d) (later_moment d o) ≡ or_now m o + d
  now-later m None = refl
  now-later m (Some earlier) = refl

  since-later : (m : ℕ) (a : Account) → activated_since (m + d) (later a) ≡ later_moment d (activated_since m a)
  since-later m a =
      ap (λ active. activated_if (later_moment d a.begun) (activated_by a.waits (later_moment d a.called) active)) (active-later a.begun m a.standing a)
      ∙ ap (activated_if (later_moment d a.begun)) (by-later a.waits a.called (active_since a.begun m a.standing a))
      ∙ if-activated a.begun (activated_by a.waits a.called (active_since a.begun m a.standing a))

  parts-later : (activated m : ℕ) (a : Account) → parts_since (activated + d) (m + d) (later a) ≡ parts_since activated m a
  parts-later activated m a =
      ap (λ n. stood_since (Some n) (m + d) a.standing (later a)) (max-later activated a.free d)
      ∙ stood-later (Some (max activated a.free)) m a.standing a

  -- by its beginning, its activation and its ticks
  ended-later : (m x number free begun activated preemptions : ℕ) (stood : Stood) →
      ended (m + d) x (more_rounds (shift.rounds x) number) (free + d) (begun + d) (activated + d) preemptions stood ≡ later_job shift (ended m x number free begun activated preemptions stood)
  ended-later m x number free begun activated preemptions stood =
      ap (λ response. record job { response = response; queued = queued_in (free + d) (activated + d) }) (moved m activated)
      ∙ ap (λ queued. record job { queued = queued }) (moved free activated)
    where
      job : Job
      job = later_job shift (ended m x number free begun activated preemptions stood)

      moved : (a b : ℕ) → a + d - (b + d) ≡ a - b
      moved a b = omega arith

  job-later : (m x number : ℕ) (a : Account) → job_by (m + d) x (more_rounds (shift.rounds x) number) (later a) ≡ later_job shift (job_by m x number a)
  job-later m x number a =
      ap (λ begun. ended (m + d) x more (a.free + d) begun (or_now (m + d) (activated_since (m + d) (later a))) a.preemptions (parts_since (or_now (m + d) (activated_since (m + d) (later a))) (m + d) (later a))) (now-later m a.begun)
      ∙ ap (λ activated. ended (m + d) x more (a.free + d) (or_now m a.begun + d) activated a.preemptions (parts_since activated (m + d) (later a))) activated
      ∙ ap (ended (m + d) x more (a.free + d) (or_now m a.begun + d) (or_now m (activated_since m a) + d) a.preemptions) (parts-later (or_now m (activated_since m a)) m a)
      ∙ ended-later m x number a.free (or_now m a.begun) (or_now m (activated_since m a)) a.preemptions (parts_since (or_now m (activated_since m a)) m a)
    where
      more : ℕ
      more = more_rounds (shift.rounds x) number

      activated : or_now (m + d) (activated_since (m + d) (later a)) ≡ or_now m (activated_since m a) + d
      activated = ap (or_now (m + d)) (since-later m a) ∙ now-later m (activated_since m a)

  -- its ticks do not depend on what is kept between rounds
  job-quiet : (m x number : ℕ) (a : Account) → a.since ≤ m → job_by m x number (quiet a) ≡ job_by m x number a
  job-quiet m x number a l =
      ap (λ active. ended m x number a.free (or_now m a.begun) (or_now m (activated_if a.begun (activated_by a.waits a.called active))) a.preemptions
      (parts_since (or_now m (activated_if a.begun (activated_by a.waits a.called active))) m (quiet a))) (active-quiet a.begun m a.standing a)
      ∙ ap (ended m x number a.free (or_now m a.begun) (or_now m (activated_since m a)) a.preemptions) (by a.begun (activated_by a.waits a.called (active_since a.begun m a.standing a)))
    where
      none : nat_le a.since (max m a.free) ≡ true
      none = under-max a.since m a.free l

      by : (begun : Option ℕ) (activated : Option ℕ) →
          parts_since (or_now m (activated_if begun activated)) m (record a { rounds = 0; total = no_ticks; stood = stood_if begun a.stood })
          ≡ parts_since (or_now m (activated_if begun activated)) m a
      by None activated =
          ap (λ b. counted a.standing (m - max a.since (max m a.free)) (cond b no_ticks no_ticks)) none
          ∙ sym (ap (λ b. counted a.standing (m - max a.since (max m a.free)) (cond b no_ticks a.stood)) none)
      by (Some from) activated = refl

  pub account-jobs : (m x number : ℕ) (a b : Account) → a.since ≤ m → b.since ≤ m + d → IsLaterQuiet d a b →
      job_by (m + d) x (more_rounds (shift.rounds x) number) b ≡ later_job shift (job_by m x number a)
  account-jobs m x number a b l l' h =
      sym (job-quiet (m + d) x (more_rounds (shift.rounds x) number) b l')
      ∙ ap (job_by (m + d) x (more_rounds (shift.rounds x) number)) h
      ∙ job-later m x number (quiet a)
      ∙ ap (later_job shift) (job-quiet m x number a l)

  -- the later round missed its deadline exactly if the round did
  pub missed-later : (deadline : ℕ) (job : Job) → missed deadline (later_job shift job) ≡ option_map (later_finding shift) (missed deadline job)
  missed-later deadline job = by (is_above deadline job.response)
    where
      tells : Option Finding
      tells = Some (Miss job.thread (more_rounds (shift.rounds job.thread) job.number) job.response deadline (job.activated + d) job.queued job.stood)

      by : (b : Bool) → cond b tells None ≡ option_map (later_finding shift) (cond b (Some (Miss job.thread job.number job.response deadline job.activated job.queued job.stood)) None)
      by true = refl
      by false = refl
