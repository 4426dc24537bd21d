-- The account of a thread in the tally of its core is that of the whole tally, of the same rows.
use Rattle.std.proofs.Common.{◌≡◌, ℕ, ◌<◌, true, cond, ◌==◌, List, [], ◌∷◌, length, get_or, map, fold, refl, sym, ap, ◌∙◌, arith}
use Rattle.std.specs.Prelude.{slice_index}
use Rattle.std.proofs.Math.ListN as listn
use Rattle.std.proofs.lemmas.Bool.Decides.{nat_tests}
use Rattle.std.proofs.lemmas.Grind.{common_steps}
use Rattle.std.proofs.lemmas.List.{length-map, get_or-map, get_or-set_same, get_or-set_other}
use Rattle.std.proofs.lemmas.List.FromFn.{get_or-map-range_with_len, length-map-range_with_len}
use Rattle.mcs_ticks.specs.declared.row.Row.{Row}
use Rattle.mcs_ticks.specs.declared.row.What.{What}
use Rattle.mcs_ticks.specs.declared.row.What.TheVariants as row
use Rattle.mcs_system.specs.System.{System, thread_part, core_of, no_thread}
use Rattle.mcs_system.specs.WellFormed.{IsWellFormed}
use Rattle.mcs_report.specs.declared.account.Account.{Account}
use Rattle.mcs_report.specs.Tally.{no_account, opened, begun, stopped, responded, changed_at, told_at, opened_tally}
use Rattle.mcs_report.specs.Places.{is_on, threads_on, place_of, place_on}
use Rattle.mcs_report.specs.CoreTally.{CoreTally, opened_on, core_added, core_tally_of, account_of, joined}
use Rattle.mcs_report.specs.laws.Agreement.{tally_of}
use Rattle.mcs_report.specs.laws.ByCore.{home_of, rows_within}
use Rattle.mcs_report.specs.laws.CoreTallies.{GivenAreAddedByCore, AreOfCores, JoinedCount, CoreTalliesGiveReports}
use Rattle.mcs_report.proofs.Alone.{alone, told_alone}
use Rattle.mcs_report.proofs.Homes.{filter-at, place-within, places-differ}
use Rattle.mcs_report.proofs.ByCore.{length-opened, account-fold, home_known, cores-counted}

pub given_to_a_core : GivenAreAddedByCore
given_to_a_core before after [] g = sym g
given_to_a_core before after (row ∷ rows) g =
    given_to_a_core g.0 after rows g.2 ∙ ap (λ tally. fold core_added tally rows) g.1.1

length-told : (system : System) (c h m : ℕ) (what : What) (accounts : List Account) → length (told_at (place_on system c) h m what accounts) ≡ length accounts
length-told system c h m what accounts = grind (arith, common_steps)

-- thread x and its core
module _ (system : System) (x : ℕ) (known : x < length system.threads) where
  -- what changes at the place of a thread
  changed-place : (y : ℕ) (f : Account → Account) (accounts : List Account) → place_of system x < length accounts
      → get_or (changed_at (place_on system (core_of system (thread_part system x)) y) f accounts) (place_of system x) no_account
      ≡ cond (y == x) (f (get_or accounts (place_of system x) no_account)) (get_or accounts (place_of system x) no_account)
  changed-place y f accounts within =
      let other = place_of system y in
      grind (
        arith,
        nat_tests,
        places-differ system x y known,
        get_or-set_same accounts (place_of system x) (f (get_or accounts (place_of system x) no_account)) no_account within,
        get_or-set_other accounts other (place_of system x) (f (get_or accounts other no_account)) no_account,
      )

  told-place : (h m : ℕ) (what : What) (accounts : List Account) → place_of system x < length accounts
      → get_or (told_at (place_on system (core_of system (thread_part system x))) h m what accounts) (place_of system x) no_account
      ≡ alone h x m what (get_or accounts (place_of system x) no_account)
  told-place h m (row.Run y) accounts within = changed-place y (begun m) accounts within
  told-place h m (row.Stop y cause charged until) accounts within = changed-place y (stopped h m cause until) accounts within
  told-place h m (row.Round y number response) accounts within = changed-place y (responded response) accounts within
  told-place h m what accounts within = refl

  core-fold : (h : ℕ) (rows : List Row) (accounts : List Account) → place_of system x < length accounts
      → get_or (fold core_added (record { system = system; core = core_of system (thread_part system x); horizon = h; accounts = accounts }) rows).accounts (place_of system x) no_account
      ≡ fold (told_alone h x) (get_or accounts (place_of system x) no_account) rows
  core-fold h [] accounts within = refl
  core-fold h (r ∷ rows) accounts within =
      core-fold h rows (told_at (place_on system (core_of system (thread_part system x))) h r.moment r.what accounts)
      (omega (arith, within, length-told system (core_of system (thread_part system x)) h r.moment r.what accounts))
      ∙ ap (λ a. fold (told_alone h x) a rows) (told-place h r.moment r.what accounts within)

  opened-within : place_of system x < length (opened_on system (core_of system (thread_part system x)))
  opened-within = omega (arith, place-within system x known, length-map (threads_on system (core_of system (thread_part system x))) (λ thread. opened (core_of system thread) thread.deadline))

  opened-place : (h : ℕ) → get_or (opened_on system (core_of system (thread_part system x))) (place_of system x) no_account
      ≡ get_or (opened_tally system h).accounts x no_account
  opened-place h =
      let c = core_of system (thread_part system x) in
      let passes : is_on system c (get_or system.threads x no_thread) ≡ true = grind (arith, nat_tests) in
      get_or-map (λ thread. opened (core_of system thread) thread.deadline) (threads_on system c) (place_of system x) no_thread no_account (place-within system x known)
      ∙ ap (λ thread. opened (core_of system thread) thread.deadline) (filter-at (is_on system c) system.threads x no_thread known passes)
      ∙ sym (get_or-map (λ thread. opened (core_of system thread) thread.deadline) system.threads x no_thread no_account known)

  pub core-account : (h : ℕ) (rows : List Row) → get_or (core_tally_of system (core_of system (thread_part system x)) h rows).accounts (place_of system x) no_account
      ≡ get_or (tally_of system h rows).accounts x no_account
  core-account h rows =
      core-fold h rows (opened_on system (core_of system (thread_part system x))) opened-within
      ∙ ap (λ a. fold (told_alone h x) a rows) (opened-place h)
      ∙ sym (account-fold rows (opened_tally system h) x (omega (arith, known, length-opened system h)))

-- the accounts of a core among those of all
accounts-of : (system : System) (h : ℕ) (pasts : List ℕ) (tallies : List CoreTally) → AreOfCores system h pasts tallies → (c : ℕ) → c < system.cores
    → get_or (map (λ tally. tally.accounts) tallies) c [] ≡ (core_tally_of system c h (rows_within system c 0 (slice_index pasts c))).accounts
accounts-of system h pasts tallies are c known =
    let rows = rows_within system c 0 (slice_index pasts c) in
    let other : CoreTally = record (core_tally_of system c h rows) { accounts = [] } in
    listn.get_or-map (λ (tally : CoreTally). tally.accounts) tallies c other ∙ ap (λ (tally : CoreTally). tally.accounts) (are c other known)

joined-count : (system : System) → IsWellFormed system → (h : ℕ) → JoinedCount system h
joined-count system well h pasts tallies are =
    record {
      horizon_is = refl;
      cores_are = refl;
      many_are = length-map-range_with_len (account_of system tallies) 0 (length system.threads);
      own = λ x known.
          get_or-map-range_with_len (account_of system tallies) 0 (length system.threads) x x no_account known (omega arith)
          ∙ ap (λ accounts. get_or accounts (place_of system x) no_account) (accounts-of system h pasts tallies are (home_of system x) (home_known system well x))
          ∙ core-account system x known h (rows_within system (home_of system x) 0 (slice_index pasts (home_of system x)));
    }

pub core-tallies-report : CoreTalliesGiveReports
core-tallies-report system well h = (
  joined-count system well h,
  λ pasts tallies ends are. (cores-counted system well).2 h pasts (joined system h tallies) ends (joined-count system well h pasts tallies are),
)
