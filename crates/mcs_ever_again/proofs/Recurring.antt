-- A group that is in its earlier state, but later, recurs if the marked dates keep up.
use Rattle.std.proofs.Common.{◌≡◌, ℕ, ◌+◌, ◌<◌, ◌≤◌, Bool, true, List, length, map, get_or, Option, sym, ap, subst, ◌∙◌, arith}
use Rattle.std.specs.Prelude.{filter}
use Rattle.std.specs.List.{AllByRecursion}
use Rattle.std.proofs.lemmas.List.FromFn.{get_or-map-range_with_len, length-map-range_with_len}
use Rattle.mcs_system.specs.System.{System}
use Rattle.mcs_system.specs.WellFormed.{IsWellFormed}
use Rattle.mcs_core.specs.Core.{Core, opening_core}
use Rattle.mcs_core.specs.Clock.{core_shown, world, turn_of}
use Rattle.mcs_ever.specs.Later.{later_core, later_mail, KeepsUp}
use Rattle.mcs_ever.specs.Recurs.{is_for, IsLater, Recurs}
use Rattle.mcs_ever.specs.Closed.{has}
use Rattle.mcs_ever.specs.Marks.{marks_of, MarkedKeepUp}
use Rattle.mcs_ever.specs.declared.marks.Mark.{Mark}
use Rattle.mcs_ever.specs.laws.Home.{IsOfOwn, RowsAreOfOwn}
use Rattle.mcs_ever.specs.laws.Marked.{MarksTell}
use Rattle.mcs_ever_again.specs.declared.image.lags.Lags.{Lags}
use Rattle.mcs_ever_again.specs.Group.{AreLater}
use Rattle.mcs_ever_again.specs.Snapshot.{Snapshot, IsOfClock}
use Rattle.mcs_ever_again.specs.Told.{shift_told, shifts_told, GroupIsAgain}
use Rattle.mcs_ever_again.specs.Period.{told_between, AreOfRun}
use Rattle.mcs_ever_again.specs.Sources.{AlarmsAreLater}
use Rattle.mcs_ever_again.proofs.Again.{all-shifts}
use Rattle.mcs_ever_again.proofs.Rows.{all-turn, all-apply}

-- a core of a snapshot
shown-at : (system : System) (snapshot : Snapshot) (past : Core) (c : ℕ) → IsOfClock system snapshot → c < system.cores →
    get_or snapshot.each c past ≡ core_shown system (world system snapshot.moment) c
shown-at system snapshot past c clock known =
    ap (λ cores. get_or cores c past) clock.each
    ∙ get_or-map-range_with_len (core_shown system (world system snapshot.moment)) 0 system.cores c c past known (omega arith)

many : (system : System) (snapshot : Snapshot) → IsOfClock system snapshot → length snapshot.each ≡ system.cores
many system snapshot clock =
    ap length clock.each ∙ length-map-range_with_len (core_shown system (world system snapshot.moment)) 0 system.cores

module _ (system : System) (group : List Bool) (before after : Snapshot) (marks : List Mark) (by : ℕ) (lags : List (Option Lags)) where
  module _ (run : AreOfRun system group before after marks) (told : GroupIsAgain system by group before.each after.each lags) where
    core-later : (c : ℕ) → c < system.cores → has group c ≡ true → core_shown system (world system after.moment) c
        ≡ later_core (shift_told by lags c) (core_shown system (world system before.moment) c)
    core-later c known own =
        let past : Core = opening_core system c in
        let within : c < length before.each = omega (arith, known, many system before run.earlier) in
        sym (shown-at system after past c run.later known)
        ∙ (told.each past c within).again own
        ∙ ap (later_core (shift_told by lags c)) (shown-at system before past c run.earlier known)

    is-later : AreLater system group by before.mails after.mails →
        IsLater system (has group) (shifts_told by lags) (world system before.moment) (world system after.moment)
    is-later mails = record {
      cores = core-later;
      mails =
          ap (filter (is_for system (has group))) (sym run.later.mails)
          ∙ mails
          ∙ ap (λ mails. map (later_mail by) (filter (is_for system (has group)) mails)) run.earlier.mails;
    }

    rows-keep-up : RowsAreOfOwn → MarksTell → IsWellFormed system →
        ((core : ℕ) → has group core ≡ true → MarkedKeepUp system core (shift_told by lags core) marks) → (t c : ℕ) → before.moment ≤ t →
        t < after.moment → c < system.cores → has group c ≡ true → AllByRecursion (KeepsUp system (shift_told by lags c)) (turn_of system c t).rows
    rows-keep-up own tell well keep t c from within known is =
        let between = told_between system before.moment after.moment in
        let marked : MarkedKeepUp system c (shift_told by lags c) (marks_of system between) =
        subst (λ (marks : List Mark). MarkedKeepUp system c (shift_told by lags c) marks) run.marked (keep c is) in
        all-apply (IsOfOwn system c) (KeepsUp system (shift_told by lags c)) (turn_of system c t).rows
        (all-turn system (λ what. IsOfOwn system c what → KeepsUp system (shift_told by lags c) what) before.moment after.moment t c
        (tell system c (shift_told by lags c) between marked) from within known)
        (own system well c t known)

    pub recurs : RowsAreOfOwn → MarksTell → IsWellFormed system → 1 ≤ by → before.moment + by ≡ after.moment →
        AlarmsAreLater system group before.moment by → AreLater system group by before.mails after.mails →
        ((core : ℕ) → has group core ≡ true → MarkedKeepUp system core (shift_told by lags core) marks) →
        Recurs system (has group) (shifts_told by lags) before.moment
    recurs own tell well some period alarms mails keep = record {
      closed = run.closed;
      some = some;
      shift = all-shifts system by group before.each after.each lags (opening_core system 0) told;
      orders = run.orders;
      again =
          subst (λ (t : ℕ). IsLater system (has group) (shifts_told by lags) (world system before.moment) (world system t)) (sym period) (is-later mails);
      alarms = λ c known is. alarms c is;
      rows = λ t c from within. rows-keep-up own tell well keep t c from (omega (arith, within, period));
    }
