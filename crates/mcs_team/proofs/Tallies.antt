-- The tallies of all cores. Each has counted the rows of one core.
use Rattle.std.proofs.Common.{◌≡◌, ℕ, ◌+◌, ◌<◌, List, length, map, replicate, sym, ap, ◌∙◌, arith}
use Rattle.std.specs.Prelude.{slice_index_or}
use Rattle.std.proofs.lemmas.List.{get_or-map, get_or-replicate}
use Rattle.mcs_ticks.specs.declared.row.Row.{Row}
use Rattle.mcs_core.specs.Clock.{schedule}
use Rattle.mcs_report.specs.CoreTally.{CoreTally, core_tally_of, joined, HoldsRows}
use Rattle.mcs_report.specs.Reports.{reports_of}
use Rattle.mcs_report.specs.Tally.{finished}
use Rattle.mcs_report.specs.declared.reports.Reports.{Reports}
use Rattle.mcs_report.specs.laws.CoreTallies.{CoreTalliesGiveReports}
use Rattle.mcs_system.specs.System.{System}
use Rattle.mcs_system.specs.WellFormed.{IsWellFormed}
use Rattle.mcs_window.specs.Desk.{Table, clock_of, taken_of, AreEmpty, IsFinished}
use Rattle.mcs_window.proofs.Lists.{some-of}
use Rattle.mcs_stretch.specs.Stretch.{rows_between}
use Rattle.mcs_team.specs.Counts.{many_of, AreWhole}

-- tallies of no rows, for the cores below this number
abbrev pub AreFirst : {S : Type 0} → List S → (S → CoreTally) → (S → ℕ) → ℕ → Type 0
AreFirst told tally_of rows_of many = AreEmpty (λ own rows. HoldsRows (tally_of own) rows × (rows_of own ≡ many_of rows)) many told

-- the tallies alone
abbrev pub tallies_of : {S : Type 0} → List S → (S → CoreTally) → List CoreTally
tallies_of told tally_of = map tally_of told

-- what is known of a tally is known by the names of its run
its-own : (system : System) (c horizon : ℕ) (rows : List Row) (tally : CoreTally) → tally.system ≡ system → tally.core ≡ c → tally.horizon ≡ horizon →
    HoldsRows tally rows → tally ≡ core_tally_of system c horizon rows
its-own system c horizon rows tally s k h holds =
    holds ∙ ap (λ x. core_tally_of x tally.core tally.horizon rows) s ∙ ap (λ n. core_tally_of system n tally.horizon rows) k ∙ ap (λ n. core_tally_of system c n rows) h

-- the tallies of a desk on which all turns were taken and no rows were taken, each at the index of
-- its core
pub tallies-whole : {S : Type 0} (told : List S) (tally_of : S → CoreTally) (desk : Table) (system : System) (horizon : ℕ) →
    desk.system ≡ system → desk.horizon ≡ horizon → IsFinished desk → ((c : ℕ) → c < desk.system.cores → taken_of desk c ≡ 0) →
    length told ≡ desk.system.cores →
    ((c : ℕ) (x : S) → c < desk.system.cores → HoldsRows (tally_of (slice_index_or told c x)) (rows_between desk.system c (taken_of desk c) (clock_of desk c))) →
    ((c : ℕ) (x : S) → c < length told → (tally_of (slice_index_or told c x)).core ≡ c) →
    ((x : S) → (tally_of x).system ≡ system) → ((x : S) → (tally_of x).horizon ≡ horizon) →
    AreWhole system horizon (tallies_of told tally_of)
tallies-whole {S} told tally_of desk system horizon s h ended none many holds cores systems horizons c other l =
    let n : desk.system.cores ≡ system.cores = ap (λ (y : System). y.cores) s in
    let x = some-of told c (omega arith) in
    let its = slice_index_or told c x in
    get_or-map tally_of told c x other (omega arith)
    ∙ its-own system c horizon (rows_between desk.system c (taken_of desk c) (clock_of desk c)) (tally_of its) (systems its) (cores c x (omega arith)) (horizons its) (holds c x (omega arith))
    ∙ ap (λ (y : System). core_tally_of system c horizon (rows_between y c (taken_of desk c) (clock_of desk c))) s
    ∙ ap (λ n. core_tally_of system c horizon (rows_between system c n (clock_of desk c))) (none c (omega arith))
    ∙ ap (λ n. core_tally_of system c horizon (rows_between system c 0 n)) (ended c (omega arith) ∙ ap (λ n. n + 1) h ∙ sym (get_or-replicate system.cores c (horizon + 1) 0 l))

-- put together they give the reports of the schedule
pub whole-reported : CoreTalliesGiveReports → (system : System) (horizon : ℕ) → IsWellFormed system → (tallies : List CoreTally) → AreWhole system horizon tallies →
    (reports : Reports) → reports ≡ finished (joined system horizon tallies) → reports ≡ reports_of system horizon (schedule system horizon)
whole-reported law system horizon well tallies whole reports result =
    result ∙ (law system well horizon).1 (replicate system.cores (horizon + 1)) tallies (λ c l. get_or-replicate system.cores c (horizon + 1) 0 l) whole
