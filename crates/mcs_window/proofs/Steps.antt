-- The turns of a desk's steps.
use Rattle.std.proofs.Common.{◌≡◌, ◌≢◌, ℕ, zero, suc, ◌+◌, ◌-◌, ◌<◌, ◌≤◌, Option, Some, None, List, [], ◌∷◌, length, set, replicate, inl, inr, refl, sym, ap, ◌∙◌, subst, arith}
use Rattle.std.specs.Prelude.{slice_index}
use Rattle.std.proofs.lemmas.Bool.Decides.{eqb_tells}
use Rattle.std.proofs.lemmas.List.{get_or-set_same, get_or-set_other, length-set, length-replicate}
use Rattle.mcs_system.specs.System.{System, delay_between, TakesTime}
use Rattle.mcs_laws.specs.Links.{Signals}
use Rattle.mcs_stretch.specs.Safe.{IsSafe}
use Rattle.mcs_stretch.specs.ByScripts.{clocks_after}
use Rattle.mcs_window.specs.Desk.{Table, clock_of, loan_of, opening_table, lent_to, settled_at}
use Rattle.mcs_window.specs.laws.Steps as steps
use Rattle.mcs_window.specs.laws.Steps.{Step, Lend, Settle, Forfeit, TakeRows, Skip, Go, Spend, settled_loan, after_step, after_steps, turns_until, turns_of_loan, turns_of, turns_in, MayTake, MayLendTo, AreTaken, IsNoGo, NoneGoes, IsNoLoss, NoneIsSpent}
use Rattle.mcs_window.specs.declared.slot.Loan.{Loan}
use Rattle.mcs_window.proofs.Lending.{past_by-in_time, past_by-reached}
use Rattle.mcs_stretch.proofs.Openings.{zero_at}
use Rattle.mcs_stretch.proofs.Leading.{IsSafeBy, Leads, leads-none, leads-append, leads-stretch, leads-idle}
use Rattle.mcs_stretch.proofs.Safe.{safe-by, by-scripts}

module _ (R : ℕ → ℕ → Type 0) where
  -- the clocks allow core c to come up to before `past`
  record IsFarBy (table : Table) (c past : ℕ) : Type 0 where
    ahead : clock_of table c ≤ past
    in_time : past ≤ table.horizon + 1
    far : (b : ℕ) → b < table.system.cores → b ≢ c → R b c → past ≤ clock_of table b + delay_between table.system b c

  -- and this holds for every loan
  record IsSound (table : Table) : Type 0 where
    many : table.system.cores ≤ length table.clocks
    loans_of : table.system.cores ≤ length table.loans
    loans : (c : ℕ) (loan : Loan) → c < table.system.cores → loan_of table c ≡ Some loan → IsFarBy table c loan.past

  abbrev LeadsOn : Table → List ℕ → Table → Type 0
  LeadsOn table turns after = Leads table.system table.horizon R (clock_of table) turns (clock_of after)

  -- a core that is not lent moves to a later moment
  module _ (table : Table) (c past : ℕ) (sound : IsSound table) (known : c < table.system.cores) (ahead : clock_of table c ≤ past) where
    own : slice_index (set table.clocks c past) c ≡ past
    own = get_or-set_same table.clocks c past 0 (let m = sound.many in omega arith)

    others : (b : ℕ) → b ≢ c → slice_index (set table.clocks c past) b ≡ clock_of table b
    others b other = get_or-set_other table.clocks c b past 0 other

    rises : (b : ℕ) → clock_of table b ≤ slice_index (set table.clocks c past) b
    rises b = elim (eqb_tells b c) [
      | inl e ↦ (let f : slice_index (set table.clocks c past) b ≡ slice_index (set table.clocks c past) c = ap (slice_index (set table.clocks c past)) e.1 in
          let g : clock_of table b ≡ clock_of table c = ap (clock_of table) e.1 in omega (arith, own, ahead))
      | inr e ↦ (let f = others b e.1 in omega arith)
    ]

    settled-leads : IsFarBy table c past → LeadsOn table (turns_until table c past) (settled_at table c past)
    settled-leads is =
        leads-stretch table.system table.horizon R (past - clock_of table c) (clock_of table) (clock_of (settled_at table c past)) c past known (omega (arith, ahead)) is.in_time is.far own (λ b l other. others b other)

    settled-sound : IsSound (settled_at table c past)
    settled-sound =
        record {
          many = (let m = sound.many in let e = length-set table.clocks c past in omega arith);
          loans_of = (let m = sound.loans_of in let e = length-set table.loans c None in omega arith);
          loans = λ k loan l e. elim (eqb_tells k c) [
            | inl p ↦ absurd (none loan (sym (ap (loan_of (settled_at table c past)) p.1 ∙ get_or-set_same table.loans c None None (let m = sound.loans_of in omega arith)) ∙ e))
            | inr p ↦ (let old = sound.loans k loan l (sym (get_or-set_other table.loans c k None None p.1) ∙ e) in
                record {
                  ahead = (let h = old.ahead in let f = others k p.1 in omega arith);
                  in_time = old.in_time;
                  far = λ b i other r. let h = old.far b i other r in let f = rises b in omega arith;
                })
          ];
        }
      where
        none : (loan : Loan) → None ≡ Some loan → ⊥
        none loan e = cc

  -- a core is lent
  lent-sound : (table : Table) (c past : ℕ) → IsSound table → c < table.system.cores → IsFarBy table c past → IsSound (lent_to table c past)
  lent-sound table c past sound known is =
      record {
        many = sound.many;
        loans_of = (let m = sound.loans_of in let e = length-set table.loans c (Some (record { past = past; front = table.clocks })) in omega arith);
        loans = λ k loan l e. elim (eqb_tells k c) [
          | inl p ↦ subst (λ b. IsFarBy (lent_to table c past) b loan.past) (sym p.1)
              (subst (IsFarBy (lent_to table c past) c) (same loan (sym (ap (loan_of (lent_to table c past)) p.1 ∙ get_or-set_same table.loans c _ None (let m = sound.loans_of in omega arith)) ∙ e)) new)
          | inr p ↦ (let old = sound.loans k loan l (sym (get_or-set_other table.loans c k _ None p.1) ∙ e) in
              record { ahead = old.ahead; in_time = old.in_time; far = old.far })
        ];
      }
    where
      same : (loan : Loan) → Some (record { past = past; front = table.clocks }) ≡ Some loan → past ≡ loan.past
      same loan e = by (record { past = past; front = table.clocks }) loan e refl
        where
          by : (x y : Loan) → Some x ≡ Some y → x.past ≡ past → past ≡ y.past
          by x y e f = cc

      new : IsFarBy (lent_to table c past) c past
      new = record { ahead = is.ahead; in_time = is.in_time; far = is.far }

  near : (table : Table) (c past : ℕ) → MayLendTo table c past → IsFarBy table c past
  near table c past may =
      record {
        ahead = may.ahead;
        in_time = (let a = may.in_time in let b = past_by-in_time table c table.system.cores in omega arith);
        far = λ b l other r. let a = may.in_time in let f = past_by-reached table c table.system.cores b l other in omega arith;
      }

  -- the condition for a core that takes turns on the desk
  abbrev IsFine : Table → Step → Type 0
  IsFine table (Lend c past) = Unit {0}
  IsFine table (Settle c) = Unit {0}
  IsFine table Forfeit = Unit {0}
  IsFine table (TakeRows c) = Unit {0}
  IsFine table (Skip moment later) = Unit {0}
  IsFine table (Go c past) = (b : ℕ) → b < table.system.cores → b ≢ c → R b c → past ≤ clock_of table b + delay_between table.system b c
  IsFine table (Spend c past) = (b : ℕ) → b < table.system.cores → b ≢ c → R b c → past ≤ clock_of table b + delay_between table.system b c

  abbrev AreFine : Table → List Step → Type 0
  AreFine table [] = Unit {0}
  AreFine table (step ∷ steps) = IsFine table step × AreFine (after_step table step) steps

  loan-leads : (table : Table) (c : ℕ) (loan : Option Loan) → IsSound table → c < table.system.cores → loan_of table c ≡ loan →
      LeadsOn table (turns_of_loan table c loan) (settled_loan table c loan) × IsSound (settled_loan table c loan)
  loan-leads table c None sound known e = (leads-none table.system table.horizon R (clock_of table) (clock_of table) (λ b l. refl), sound)
  loan-leads table c (Some loan) sound known e =
      let is = sound.loans c loan known e in
      (settled-leads table c loan.past sound known is.ahead is, settled-sound table c loan.past sound known is.ahead)

  step-leads : (table : Table) (step : Step) → TakesTime table.system → IsSound table → MayTake table step → IsFine table step →
      LeadsOn table (turns_of table step) (after_step table step) × IsSound (after_step table step)
  step-leads table (Lend c past) takes_time sound may fine = (
    leads-none table.system table.horizon R (clock_of table) (clock_of table) (λ b l. refl),
    lent-sound table c past sound may.may.known (near table c past may),
  )
  step-leads table (Settle c) takes_time sound may fine = loan-leads table c (loan_of table c) sound may.0 refl
  step-leads table Forfeit takes_time sound may fine = (
    leads-none table.system table.horizon R (clock_of table) (clock_of table) (λ b l. refl),
    record { many = sound.many; loans_of = sound.loans_of; loans = λ k loan l e. let old = sound.loans k loan l e in record { ahead = old.ahead; in_time = old.in_time; far = old.far } },
  )
  step-leads table (TakeRows c) takes_time sound may fine = (
    leads-none table.system table.horizon R (clock_of table) (clock_of table) (λ b l. refl),
    record { many = sound.many; loans_of = sound.loans_of; loans = λ k loan l e. let old = sound.loans k loan l e in record { ahead = old.ahead; in_time = old.in_time; far = old.far } },
  )
  step-leads table (Skip moment later) takes_time sound may fine = (
    leads-idle table.system table.horizon R takes_time (clock_of table) moment (slice_index later) may.in_time may.set,
    record { many = may.many; loans_of = sound.loans_of; loans = λ k loan l e. absurd (none loan (sym (may.here k l) ∙ e)) },
  )
    where
      none : (loan : Loan) → None ≡ Some loan → ⊥
      none loan e = cc
  step-leads table (Go c past) takes_time sound may fine =
      let is : IsFarBy table c past = record { ahead = may.ahead; in_time = may.in_time; far = fine } in
      (settled-leads table c past sound may.known may.ahead is, settled-sound table c past sound may.known may.ahead)
  step-leads table (Spend c past) takes_time sound may fine = (
    leads-none table.system table.horizon R (clock_of table) (clock_of table) (λ b l. refl),
    (let lent = lent-sound table c past sound may.known (record { ahead = may.ahead; in_time = may.in_time; far = fine }) in
        record { many = lent.many; loans_of = lent.loans_of; loans = λ k loan l e. let old = lent.loans k loan l e in record { ahead = old.ahead; in_time = old.in_time; far = old.far } }),
  )

  same-loan : (table : Table) (c : ℕ) (loan : Option Loan) → ((settled_loan table c loan).system ≡ table.system) × ((settled_loan table c loan).horizon ≡ table.horizon)
  same-loan table c None = (refl, refl)
  same-loan table c (Some loan) = (refl, refl)

  same-run : (table : Table) (step : Step) → ((after_step table step).system ≡ table.system) × ((after_step table step).horizon ≡ table.horizon)
  same-run table (Lend c past) = (refl, refl)
  same-run table (Settle c) = same-loan table c (loan_of table c)
  same-run table Forfeit = (refl, refl)
  same-run table (TakeRows c) = (refl, refl)
  same-run table (Skip moment later) = (refl, refl)
  same-run table (Go c past) = (refl, refl)
  same-run table (Spend c past) = (refl, refl)

  steps-lead : (table : Table) (steps : List Step) → TakesTime table.system → IsSound table → AreTaken table steps → AreFine table steps → LeadsOn table (turns_in table steps) (after_steps table steps)
  steps-lead table [] takes_time sound may fine = leads-none table.system table.horizon R (clock_of table) (clock_of table) (λ b l. refl)
  steps-lead table (step ∷ steps) takes_time sound may fine =
      let run = same-run table step in
      let one = step-leads table step takes_time sound may.0 fine.0 in
      let more = steps-lead (after_step table step) steps (subst TakesTime (sym run.0) takes_time) one.1 may.1 fine.1 in
      leads-append table.system table.horizon R (clock_of table) (clock_of (after_step table step)) (clock_of (after_steps (after_step table step) steps)) (turns_of table step) (turns_in (after_step table step) steps)
      one.0
      (subst (λ s. Leads s table.horizon R (clock_of (after_step table step)) (turns_in (after_step table step) steps) (clock_of (after_steps (after_step table step) steps))) run.0
      (subst (λ h. Leads (after_step table step).system h R (clock_of (after_step table step)) (turns_in (after_step table step) steps) (clock_of (after_steps (after_step table step) steps))) run.1 more))

  sound-all : (table : Table) (steps : List Step) → TakesTime table.system → IsSound table → AreTaken table steps → AreFine table steps → IsSound (after_steps table steps)
  sound-all table [] takes_time sound may fine = sound
  sound-all table (step ∷ steps) takes_time sound may fine =
      sound-all (after_step table step) steps (subst TakesTime (sym (same-run table step).0) takes_time) (step-leads table step takes_time sound may.0 fine.0).1 may.1 fine.1

  same-system : (table : Table) (steps : List Step) → (after_steps table steps).system ≡ table.system
  same-system table [] = refl
  same-system table (step ∷ steps) = same-system (after_step table step) steps ∙ (same-run table step).0

  opening-sound : (system : System) (horizon : ℕ) → system.cores ≤ 64 → IsSound (opening_table system horizon)
  opening-sound system horizon few =
      record {
        many = (let e = length-replicate {A = ℕ} 64 0 in omega arith);
        loans_of = (let e = length-replicate system.cores (let n : Option Loan = None in n) in omega arith);
        loans = λ c loan l e. absurd (none loan (sym (no_loan system.cores c) ∙ e));
      }
    where
      none : (loan : Loan) → None ≡ Some loan → ⊥
      none loan e = cc

      no_loan : (n c : ℕ) → loan_of (record (opening_table system horizon) { loans = replicate n None }) c ≡ None
      no_loan zero c = refl
      no_loan (suc n) zero = refl
      no_loan (suc n) (suc c) = no_loan n c

  opening-leads : (system : System) (horizon : ℕ) (turns : List ℕ) (after : ℕ → ℕ) → Leads system horizon R (clock_of (opening_table system horizon)) turns after →
      IsSafeBy system horizon R (replicate system.cores 0) turns × ((c : ℕ) → c < system.cores → after c ≡ slice_index (clocks_after (replicate system.cores 0) turns) c)
  opening-leads system horizon turns after leads =
      let all = leads (replicate system.cores 0)
      (record { many = (let e = length-replicate {A = ℕ} system.cores 0 in omega arith); each = λ b l. zero_at system.cores b ∙ sym (zero_at 64 b) }) in
      (all.0, λ c l. sym (all.1.each c l))

-- no core takes turns on the desk
none-fine : (table : Table) (steps : List Step) → NoneGoes steps → AreFine (λ b c. Unit {0}) table steps
none-fine table [] h = tt
none-fine table (step ∷ steps) h = (one step h.0, none-fine (after_step table step) steps h.1)
  where
    one : (s : Step) → IsNoGo s → IsFine (λ b c. Unit {0}) table s
    one (Lend c past) g = tt
    one (Settle c) g = tt
    one Forfeit g = tt
    one (TakeRows c) g = tt
    one (Skip moment later) g = tt
    one (Go c past) g = absurd g
    one (Spend c past) g = absurd g

pub safe-order : steps.DeskStepsAreASafeOrder
safe-order system horizon ss takes_time few taken none =
    let R : ℕ → ℕ → Type 0 = λ b c. Unit {0} in
    let opening = opening_table system horizon in
    safe-by system horizon (replicate system.cores 0) (turns_in opening ss)
    (opening-leads R system horizon (turns_in opening ss) (clock_of (after_steps opening ss))
    (steps-lead R opening ss takes_time (opening-sound R system horizon few) taken (none-fine opening ss none))).0

-- by the scripts
said-fine : (system : System) (table : Table) (steps : List Step) → table.system ≡ system → AreTaken table steps → AreFine (Signals system) table steps
said-fine system table [] is h = tt
said-fine system table (step ∷ steps) is h = (one step h.0, said-fine system (after_step table step) steps ((same-run (Signals system) table step).0 ∙ is) h.1)
  where
    one : (s : Step) → MayTake table s → IsFine (Signals system) table s
    one (Lend c past) g = tt
    one (Settle c) g = tt
    one Forfeit g = tt
    one (TakeRows c) g = tt
    one (Skip moment later) g = tt
    one (Go c past) g = λ b l other r. g.far b l other (subst (λ s. Signals s b c) (sym is) r)
    one (Spend c past) g = λ b l other r. g.far b l other (subst (λ s. Signals s b c) (sym is) r)

pub scripts-order : steps.DeskStepsAreSafeByScripts
scripts-order system horizon ss takes_time few taken =
    let opening = opening_table system horizon in
    let all = opening-leads (Signals system) system horizon (turns_in opening ss) (clock_of (after_steps opening ss))
    (steps-lead (Signals system) opening ss takes_time (opening-sound (Signals system) system horizon few) taken (said-fine system opening ss refl taken)) in (
      by-scripts system horizon (replicate system.cores 0) (turns_in opening ss) all.0,
      subst (λ n. (c : ℕ) → c < n.cores → clock_of (after_steps opening ss) c ≡ slice_index (clocks_after (replicate n.cores 0) (turns_in opening ss)) c) (sym (same-system (Signals system) opening ss)) all.1,
    )

-- loans stay safe in the first sense while other cores take turns
sound-step : (table : Table) (step : Step) → TakesTime table.system → IsSound (λ b c. Unit {0}) table → MayTake table step → IsNoLoss step → IsSound (λ b c. Unit {0}) (after_step table step)
sound-step table (Lend c past) takes_time sound may no_loss = (step-leads (λ b c. Unit {0}) table (Lend c past) takes_time sound may tt).1
sound-step table (Settle c) takes_time sound may no_loss = (step-leads (λ b c. Unit {0}) table (Settle c) takes_time sound may tt).1
sound-step table Forfeit takes_time sound may no_loss = (step-leads (λ b c. Unit {0}) table Forfeit takes_time sound may tt).1
sound-step table (TakeRows c) takes_time sound may no_loss = (step-leads (λ b c. Unit {0}) table (TakeRows c) takes_time sound may tt).1
sound-step table (Skip moment later) takes_time sound may no_loss = (step-leads (λ b c. Unit {0}) table (Skip moment later) takes_time sound may tt).1
sound-step table (Go c past) takes_time sound may no_loss = settled-sound (λ b c. Unit {0}) table c past sound may.known may.ahead
sound-step table (Spend c past) takes_time sound may no_loss = absurd no_loss

sound-steps : (table : Table) (steps : List Step) → TakesTime table.system → IsSound (λ b c. Unit {0}) table → AreTaken table steps → NoneIsSpent steps → IsSound (λ b c. Unit {0}) (after_steps table steps)
sound-steps table [] takes_time sound taken none = sound
sound-steps table (step ∷ steps) takes_time sound taken none =
    sound-steps (after_step table step) steps (subst TakesTime (sym (same-run (λ b c. Unit {0}) table step).0) takes_time) (sound-step table step takes_time sound taken.0 none.0) taken.1 none.1

settles-safe : (table : Table) (c : ℕ) → IsSound (λ b c. Unit {0}) table → MayTake table (Settle c) → IsSafe table.system table.horizon table.clocks (turns_of table (Settle c))
settles-safe table c sound may =
    safe-by table.system table.horizon table.clocks (turns_of table (Settle c))
    ((loan-leads (λ b c. Unit {0}) table c (loan_of table c) sound may.0 refl).0 table.clocks (record { many = sound.many; each = λ b l. refl })).0

same-horizon : (table : Table) (steps : List Step) → (after_steps table steps).horizon ≡ table.horizon
same-horizon table [] = refl
same-horizon table (step ∷ steps) = same-horizon (after_step table step) steps ∙ (same-run (λ b c. Unit {0}) table step).1

pub settled-safe : steps.SettledLoansAreSafe
settled-safe system horizon ss c takes_time few taken none may =
    let opening = opening_table system horizon in
    let table = after_steps opening ss in
    let safe = settles-safe table c (sound-steps opening ss takes_time (opening-sound (λ b c. Unit {0}) system horizon few) taken none) may in
    subst (λ s. IsSafe s horizon table.clocks (turns_of table (Settle c))) (same-system (λ b c. Unit {0}) opening ss)
    (subst (λ h. IsSafe table.system h table.clocks (turns_of table (Settle c))) (same-horizon opening ss) safe)

-- there is a clock for each core
pub clocks-many : (system : System) (horizon : ℕ) (ss : List Step) → TakesTime system → system.cores ≤ 64 → AreTaken (opening_table system horizon) ss →
    (after_steps (opening_table system horizon) ss).system.cores ≤ length (after_steps (opening_table system horizon) ss).clocks
clocks-many system horizon ss takes_time few taken =
    (sound-all (Signals system) (opening_table system horizon) ss takes_time (opening-sound (Signals system) system horizon few) taken (said-fine system (opening_table system horizon) ss refl taken)).many
