-- Each stop charges at least a tick, as the histories of contexts tell, and each round is one of a thread that there is.
use Rattle.std.proofs.Common.{◌≡◌, ℕ, ◌<◌, ◌≤◌, Bool, true, false, cond, List, [], ◌∷◌, ◌++◌, length, sym, subst, Option, arith}
use Rattle.std.specs.Prelude.{◌==◌}
use Rattle.std.specs.List.{AllByRecursion}
use Rattle.std.proofs.lemmas.Bool.Decides.{nat_tests}
use Rattle.mcs_control.specs.Context.{Context}
use Rattle.mcs_ticks.specs.declared.row.What.{What}
use Rattle.mcs_ticks.specs.declared.row.What.TheVariants as row
use Rattle.mcs_ticks.specs.declared.row.Why.{Why}
use Rattle.mcs_system.specs.System.{System, thread_part, no_thread}
use Rattle.mcs_system.specs.WellFormed.{IsWellFormed}
use Rattle.mcs_core.specs.Clock as clocks
use Rattle.mcs_laws.specs.Changes.{Change, charges_of, changed, AreSound}
use Rattle.mcs_laws.specs.Changes.Change.{Charged, Woken, Picked, Ordered}
use Rattle.mcs_laws.specs.Histories as told
use Rattle.mcs_laws.proofs.Histories.{histories}
use Rattle.mcs_ever.specs.Later.{Shift}
use Rattle.mcs_ever.specs.laws.Home.{IsOwnThread, IsOfOwn}
use Rattle.mcs_ever.proofs.Home.{rows-of-own}
use Rattle.mcs_ever.proofs.Sound.{IsProper}

abbrev AllSome : List ℕ → Type 0
AllSome ks = AllByRecursion (λ k. 1 ≤ k) ks

-- what sound changes charge
sound-some : (least : ℕ) (changes : List Change) (context : Context) → AreSound least changes context → AllSome (charges_of changes)
sound-some least [] context h = tt
sound-some least (Charged k ∷ changes) context h = (h.0.0, sound-some least changes (changed least context (Charged k)) h.1)
sound-some least (Woken t ∷ changes) context h = sound-some least changes (changed least context (Woken t)) h.1
sound-some least (Picked t ∷ changes) context h = sound-some least changes (changed least context (Picked t)) h.1
sound-some least (Ordered order ∷ changes) context h = sound-some least changes (changed least context (Ordered order)) h.1

second : (xs ys : List ℕ) → AllSome (xs ++ ys) → AllSome ys
second [] ys h = h
second (x ∷ xs) ys h = second xs ys h.1

module _ (system : System) (well : IsWellFormed system) (shift : Shift) (c t : ℕ) (known : c < system.cores) where
  -- the charges of each of the core's contexts in the rows
  abbrev AreCharged : List What → Type 0
  AreCharged rows = (x : ℕ) → IsOwnThread system c x → AllSome (told.charges_told system (thread_part system x).context rows)

  charged : AreCharged (clocks.turn_of system c t).rows
  charged x own =
      let P : ℕ → Type 0 = λ b. AllSome (told.charges_told system context (clocks.turn_of system b t).rows) in
      subst P own.home
      (subst AllSome (sym ((histories system well context within).charges t))
      (sound-some system.min_budget ((histories system well context within).changes t) (told.context_before system context t) ((histories system well context within).sound t)))
    where
      context : ℕ
      context = (thread_part system x).context

      within : context < length system.contexts
      within = (well.threads x no_thread own.known).bound

  -- the rows after the first
  others : (what : What) (rows : List What) → AreCharged (what ∷ rows) → AreCharged rows
  others what rows h x own = second (told.charge_told system (thread_part system x).context what) (told.charges_told system (thread_part system x).context rows) (h x own)

  -- a stop has a charge of its thread's context
  stop-some : (x : ℕ) (cause : Why) (k : ℕ) (until : Option ℕ) (rows : List What) → IsOwnThread system c x → AreCharged (row.Stop x cause k until ∷ rows) → 1 ≤ k
  stop-some x cause k until rows own h = by (context == context) (itself context) (h x own)
    where
      context : ℕ
      context = (thread_part system x).context

      itself : (n : ℕ) → (n == n) ≡ true
      itself n = grind (arith, nat_tests)

      by : (b : Bool) → b ≡ true → AllSome (cond b (k ∷ []) [] ++ told.charges_told system context rows) → 1 ≤ k
      by true e s = s.0
      by false e s = cc

  all-proper : (rows : List What) → AllByRecursion (IsOfOwn system c) rows → AreCharged rows → AllByRecursion (IsProper system shift) rows
  all-proper [] own h = tt
  all-proper (what ∷ rows) own h = (by what own.0 h, all-proper rows own.1 (others what rows h))
    where
      by : (what : What) → IsOfOwn system c what → AreCharged (what ∷ rows) → IsProper system shift what
      by (row.Stop x cause k until) own h = stop-some x cause k until rows own h
      by (row.Round x number response) own h = own.known
      by (row.Release x) own h = tt
      by (row.Run x) own h = tt
      by (row.Signal x note badge) own h = tt
      by (row.Arrive note badge maker) own h = tt
      by (row.Wake x note word until) own h = tt
      by (row.Hold note word) own h = tt
      by (row.Got x note word) own h = tt
      by (row.Order context) own h = tt
      by (row.Interrupt source note badge) own h = tt

  pub proper : AllByRecursion (IsProper system shift) (clocks.turn_of system c t).rows
  proper = all-proper (clocks.turn_of system c t).rows (rows-of-own system well c t known) charged
