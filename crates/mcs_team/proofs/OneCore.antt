-- A run of one core, round after round.
use Rattle.std.proofs.Common.{◌≡◌, ℕ, suc, ◌+◌, ◌-◌, ◌<◌, ◌≤◌, ◌⊎◌, inl, inr, Bool, false, is_le, nat_cmp, List, [], ◌++◌, length, sym, ap, ◌∙◌, subst, append-nil, arith, rules}
use Rattle.std.specs.Prelude.{flat_map, slice_index, sum_by}
use Rattle.std.specs.List.{range_with_len}
use Rattle.std.proofs.lemmas.List.{get_or-set_same, length-set}
use Rattle.mcs_ticks.specs.declared.row.Row.{Row}
use Rattle.mcs_merge.proofs.Merges.{flat_map-same}
use Rattle.mcs_system.specs.System.{System, TakesTime}
use Rattle.mcs_core.specs.Clock.{clock, rows_of, schedule}
use Rattle.mcs_window.specs.Desk.{Table, clock_of, taken_of, taken_at, turns_left, AllAreHere, IsFinished, IsLater}
use Rattle.mcs_stretch.specs.Stretch.{rows_between}
use Rattle.mcs_stretch.proofs.Merging.{clock-later, rows-later}
use Rattle.mcs_ticks.specs.Given.{Given, GivenUntil, GivenSome}
use Rattle.mcs_team.proofs.Giving.{given-append, until-append, until-more}

-- a moment that does not come before another or with it
pub beyond : (t u : ℕ) → is_le (nat_cmp t u) ≡ false → u < t
beyond t u e = search rules

-- between two rounds: the output was given what the core told before its clock, and the rest is still to be told
pub record IsBetween {S O : Type 0} (takes : O → Row → Bool → O → Type 0) (holds : S → List Row → Type 0) (system : System) (horizon : ℕ) (before : O)
    (desk : Table) (reached : ℕ) (room : S) (out : O) : Type 0 where
  pub system_is : desk.system ≡ system
  pub horizon_is : desk.horizon ≡ horizon
  pub sound : desk.lost ≡ false
  pub here : AllAreHere desk
  pub long : 1 ≤ length desk.taken
  pub clock_is : clock_of desk 0 ≡ reached
  pub taken_is : taken_of desk 0 ≡ reached
  pub early : reached ≤ horizon + 1
  pub empty : holds room []
  pub given : Given takes before (clock system reached).rows out

module _ (system : System) (one : system.cores ≡ 1) (takes_time : TakesTime system) where
  -- the rows of the one core are the clock's
  between-is : (t u : ℕ) → rows-later system t u ≡ rows_between system 0 t u
  between-is t u =
      flat_map-same (λ m. flat_map (λ c. rows_of system c m) (range_with_len 0 system.cores)) (rows_of system 0) (u - t) t
      (λ m k l. ap (λ n. flat_map (λ c. rows_of system c m) (range_with_len 0 n)) one ∙ append-nil (rows_of system 0 m))

  clock-on : (t u : ℕ) → t ≤ u → (clock system u).rows ≡ (clock system t).rows ++ rows_between system 0 t u
  clock-on t u l = clock-later system takes_time t u l ∙ ap (λ xs. (clock system t).rows ++ xs) (between-is t u)

  module _ {O : Type 0} (takes : O → Row → Bool → O → Type 0) (horizon : ℕ) (before out after : O) (t u : ℕ) (l : t ≤ u)
      (given : Given takes before (clock system t).rows out) where
    given-on : Given takes out (rows_between system 0 t u) after → Given takes before (clock system u).rows after
    given-on more =
        subst (λ xs. Given takes before xs after) (sym (clock-on t u l))
        (given-append takes before out after (clock system t).rows (rows_between system 0 t u) given more)

    given-until : u ≤ horizon + 1 → GivenUntil takes out (rows_between system 0 t u) after → GivenUntil takes before (schedule system horizon) after
    given-until k refused =
        subst (λ xs. GivenUntil takes before xs after)
        (ap (λ xs. xs ++ rows-later system u (suc horizon)) (sym (clock-on t u l)) ∙ sym (clock-later system takes_time u (suc horizon) (omega arith)))
        (until-more takes before after ((clock system t).rows ++ rows_between system 0 t u) (rows-later system u (suc horizon))
        (until-append takes before out after (clock system t).rows (rows_between system 0 t u) given refused))

module _ (system : System) (takes_time : TakesTime system) {O : Type 0} (takes : O → Row → Bool → O → Type 0) (horizon : ℕ) (before out : O) (t : ℕ)
    (given : Given takes before (clock system t).rows out) where
  -- there is no memory for the next round
  pub given-some : t ≤ horizon + 1 → GivenSome takes before (schedule system horizon) out
  given-some l = ((clock system t).rows, rows-later system t (suc horizon), clock-later system takes_time t (suc horizon) (omega arith), given)

  -- no round is left
  pub given-all : t ≡ horizon + 1 → Given takes before (schedule system horizon) out
  given-all e = let g : t ≡ suc horizon = omega arith in subst (λ n. Given takes before (clock system n).rows out) g given

-- turns were taken on the desk
module _ (desk ran : Table) (one : desk.system.cores ≡ 1) (later : IsLater desk ran) (reached now : ℕ) (at : clock_of desk 0 ≡ reached) (to : now ≡ clock_of ran 0) where
  one-ran : ran.system.cores ≡ 1
  one-ran = ap (λ (x : System). x.cores) later.system_is ∙ one

  turns-one : (table : Table) → table.system.cores ≡ 1 → turns_left table ≡ table.horizon + 1 - clock_of table 0
  turns-one table e = ap (λ n. sum_by (λ c. table.horizon + 1 - clock_of table c) (range_with_len 0 n)) e ∙ (omega arith)

  pub fewer-left : reached ≤ desk.horizon → IsFinished ran ⊎ (turns_left ran < turns_left desk) → desk.horizon + 1 - now < desk.horizon + 1 - reached
  fewer-left l (inl fin) = let e = fin 0 (let o = one-ran in omega arith) in let h = later.horizon_is in omega arith
  fewer-left l (inr less) = let a = turns-one desk one in let b = turns-one ran one-ran in let h = later.horizon_is in omega arith

-- what was told in a round is given
module _ {S O : Type 0} (takes : O → Row → Bool → O → Type 0) (holds : S → List Row → Type 0) (system : System) (horizon : ℕ) (before : O)
    (desk : Table) (reached : ℕ) (room : S) (out : O) (is : IsBetween takes holds system horizon before desk reached room out) (one : system.cores ≡ 1) (takes_time : TakesTime system)
    (ran : Table) (later : IsLater desk ran) (now : ℕ) (to : now ≡ clock_of ran 0) (in_time : now ≤ ran.horizon + 1) (in_order : taken_of ran 0 ≤ clock_of ran 0) where
  system_same : ran.system ≡ system
  system_same = later.system_is ∙ is.system_is

  horizon_same : ran.horizon ≡ horizon
  horizon_same = later.horizon_is ∙ is.horizon_is

  from : taken_of ran 0 ≡ reached
  from = ap (λ xs. slice_index xs 0) later.taken_are ∙ is.taken_is

  further : reached ≤ now
  further = let f = from in omega arith

  told-is : rows_between ran.system 0 (taken_of ran 0) (clock_of ran 0) ≡ rows_between system 0 reached now
  told-is =
      ap (λ (y : System). rows_between y 0 (taken_of ran 0) (clock_of ran 0)) system_same
      ∙ ap (λ n. rows_between system 0 n (clock_of ran 0)) from
      ∙ ap (rows_between system 0 reached) (sym to)

  pub between-next : (next : Table) → next ≡ taken_at ran 0 → (more : S) → holds more [] → (after : O) →
      Given takes out (rows_between ran.system 0 (taken_of ran 0) (clock_of ran 0)) after → IsBetween takes holds system horizon before next now more after
  between-next next taken more empty after given =
      record {
        system_is = ap (λ (x : Table). x.system) taken ∙ system_same;
        horizon_is = ap (λ (x : Table). x.horizon) taken ∙ horizon_same;
        sound = ap (λ (x : Table). x.lost) taken ∙ later.sound;
        here = subst AllAreHere (sym taken) later.here;
        long = let e = ap (λ (x : Table). length x.taken) taken ∙ length-set ran.taken 0 (clock_of ran 0) in let l = long in omega arith;
        clock_is = ap (λ (x : Table). clock_of x 0) taken ∙ sym to;
        taken_is = ap (λ (x : Table). taken_of x 0) taken ∙ get_or-set_same ran.taken 0 (clock_of ran 0) 0 (let l = long in omega arith) ∙ sym to;
        early = let h = horizon_same in omega arith;
        empty = empty;
        given = given-on system one takes_time takes horizon before out after reached now further is.given (subst (λ xs. Given takes out xs after) told-is given);
      }
    where
      long : 1 ≤ length ran.taken
      long = let e : length ran.taken ≡ length desk.taken = ap length later.taken_are in let l = is.long in omega arith

  pub between-refused : (after : O) → GivenUntil takes out (rows_between ran.system 0 (taken_of ran 0) (clock_of ran 0)) after → GivenUntil takes before (schedule system horizon) after
  between-refused after refused =
      given-until system one takes_time takes horizon before out after reached now further is.given (let h = horizon_same in omega arith)
      (subst (λ xs. GivenUntil takes out xs after) told-is refused)
