-- A run on the caller's thread, round after round.
use Rattle.std.proofs.Common.{◌≡◌, ◌≢◌, ℕ, zero, suc, ◌+◌, ◌-◌, ◌<◌, ◌≤◌, ◌⊎◌, inl, inr, Bool, true, false, cond, List, [], ◌∷◌, ◌++◌, length, replicate, min, refl, sym, ap, ◌∙◌, subst, append-nil, append_assoc, arith}
use Rattle.std.specs.Prelude.{◌==◌, fold, slice_index}
use Rattle.std.specs.List.{range_with_len}
use Rattle.std.proofs.lemmas.Bool.Decides.{nat_tests}
use Rattle.std.proofs.lemmas.List.{get_or-replicate, length-replicate}
use Rattle.mcs_ticks.specs.declared.row.Row.{Row}
use Rattle.mcs_system.specs.System.{System, TakesTime}
use Rattle.mcs_system.specs.WellFormed.{IsWellFormed}
use Rattle.mcs_core.specs.Clock.{clock, schedule}
use Rattle.mcs_window.specs.Desk.{Table, clock_of, turns_left, opening_table, IsFinished, IsLater}
use Rattle.mcs_stretch.proofs.Merging.{clock-later, rows-later}
use Rattle.mcs_stretch.proofs.Openings.{zero_at}
use Rattle.mcs_ticks.specs.Given.{Given}
use Rattle.mcs_ticks.specs.declared.sink.FlowFault.{FlowFault}
use Rattle.mcs_ticks.specs.declared.sink.FlowFault.TheVariants as fault
use Rattle.mcs_team.specs.Flow.{AreAtClocks, FailsFrom, IsClear, IsGivenBetween, Waits}
use Rattle.mcs_team.proofs.Giving.{given-append}

-- turns that are left, and one more if rows are left to give
abbrev pub rounds_left : Table → ℕ → ℕ → ℕ
rounds_left desk reached end = turns_left desk + cond (reached == end) 0 1

pub sum-none : (f : ℕ → ℕ) (n a acc : ℕ) → ((c : ℕ) → c < a + n → f c ≡ 0) → fold (λ s x. s + f x) acc (range_with_len a n) ≡ acc
sum-none f zero a acc h = refl
sum-none f (suc n) a acc h = sum-none f n (a + 1) (acc + f a) (λ c l. h c (omega arith)) ∙ (let e = h a (omega arith) in omega arith)

pub least-same : (end : ℕ) (clks : List ℕ) → ((i : ℕ) → i < length clks → slice_index clks i ≡ end) → fold min end clks ≡ end
least-same end [] h = refl
least-same end (clk ∷ clks) h =
    let e : min end clk ≡ end = (let g : clk ≡ end = h 0 (omega arith) in omega arith) in
    ap (λ m. fold min m clks) e ∙ least-same end clks (λ i l. h (suc i) (omega arith))

module _ (system : System) (horizon : ℕ) (desk : Table) (pasts : List ℕ) (end : ℕ) (is : IsClear system horizon desk pasts end) (ran : Table) (later : IsLater desk ran) where
  cores-same : ran.system.cores ≡ desk.system.cores
  cores-same = ap (λ (x : System). x.cores) later.system_is

  -- turns were taken on the desk
  pub clear-later : IsClear system horizon ran pasts end
  clear-later =
      record {
        system_is = later.system_is ∙ is.system_is;
        horizon_is = later.horizon_is ∙ is.horizon_is;
        sound = later.sound;
        here = later.here;
        long = let a = cores-same in let b : length ran.taken ≡ length desk.taken = ap length later.taken_are in let c = is.long in omega arith;
        taken = record {
          many_are = is.taken.many_are ∙ sym cores-same;
          each = λ c l. ap (λ xs. slice_index xs c) later.taken_are ∙ is.taken.each c (let a = cores-same in omega arith);
        };
        end_is = is.end_is;
      }

  module _ (next : Table) (news : List ℕ) (last : ℕ) (clocks : AreAtClocks news ran) (clear : IsClear system horizon next news last) (rest : next ≡ record ran { taken = next.taken }) where
    turns-same : turns_left next ≡ turns_left ran
    turns-same = ap turns_left rest

    pub fewer-left : (reached now : ℕ) → last ≡ end → reached ≢ end → now ≡ fold min end news → IsFinished ran ⊎ (turns_left ran < turns_left desk) →
        rounds_left next now last < rounds_left desk reached end
    fewer-left reached now last_is more least way = by (reached == end) refl (now == last) refl
      where
        none-left : IsFinished ran → turns_left ran ≡ 0
        none-left fin = sum-none (λ c. ran.horizon + 1 - clock_of ran c) ran.system.cores 0 0 (λ c l. let e = fin c (omega arith) in omega arith)

        all-ended : IsFinished ran → now ≡ end
        all-ended fin =
            least ∙ least-same end news (λ i l.
            let m : length news ≡ next.system.cores = clear.taken.many_are in
            let e : next.system.cores ≡ ran.system.cores = ap (λ (x : Table). x.system.cores) rest in
            let h : ran.horizon ≡ horizon = later.horizon_is ∙ is.horizon_is in
            let c = clocks i (omega arith) in
            let f = fin i (omega arith) in
            let g = is.end_is in omega arith)

        by : (b : Bool) → (reached == end) ≡ b → (c : Bool) → (now == last) ≡ c → turns_left next + cond c 0 1 < turns_left desk + cond b 0 1
        by true e c f = absurd (more (grind (arith, nat_tests)))
        by false e true f = on-way way
          where
            on-way : IsFinished ran ⊎ (turns_left ran < turns_left desk) → turns_left next + 0 < turns_left desk + 1
            on-way (inl fin) = let z = none-left fin in let q = turns-same in omega arith
            on-way (inr less) = let q = turns-same in omega arith
        by false e false f = on-way way
          where
            on-way : IsFinished ran ⊎ (turns_left ran < turns_left desk) → turns_left next + 1 < turns_left desk + 1
            on-way (inl fin) = absurd (let z = all-ended fin in let g = last_is in let h : now ≢ last = grind (arith, nat_tests) in h (omega arith))
            on-way (inr less) = let q = turns-same in omega arith

-- between two rounds: since the first one an output was given what the cores told before a moment,
-- and the rest waits
pub record IsRound {O P : Type 0} (takes : O → Row → Bool → O → Type 0) (holds : O → P → List Row → Type 0) (system : System) (horizon first : ℕ) (before : O)
    (desk : Table) (pasts : List ℕ) (parts : List (List P)) (reached end : ℕ) (out : O) : Type 0 where
  pub clear : IsClear system horizon desk pasts end
  pub waits : Waits holds system horizon reached pasts parts out
  pub given : IsGivenBetween takes system first reached before out

module _ {O : Type 0} (takes : O → Row → Bool → O → Type 0) (system : System) where
  pub given-none : (t : ℕ) (out : O) → IsGivenBetween takes system t t out out
  given-none t out = ([], append-nil (clock system t).rows, refl)

  pub given-further : (t u v : ℕ) (before out after : O) → IsGivenBetween takes system t u before out → IsGivenBetween takes system u v out after → IsGivenBetween takes system t v before after
  given-further t u v before out after g h = (
    g.0 ++ h.0,
    sym (append_assoc (clock system t).rows g.0 h.0) ∙ ap (λ xs. xs ++ h.0) g.1 ∙ h.1,
    given-append takes before out after g.0 h.0 g.2 h.2,
  )

  -- after the rows before the first of the moments
  pub given-behind : (t u : ℕ) (s before out : O) → Given takes s (clock system t).rows before → IsGivenBetween takes system t u before out → Given takes s (clock system u).rows out
  given-behind t u s before out given g = subst (λ xs. Given takes s xs out) g.1 (given-append takes s before out (clock system t).rows g.0 given g.2)

  module _ (horizon : ℕ) where
    -- all of it
    pub given-whole : (before out : O) → IsGivenBetween takes system 0 (horizon + 1) before out → Given takes before (schedule system horizon) out
    given-whole before out g =
        let e : horizon + 1 ≡ suc horizon = omega arith in
        subst (λ n. Given takes before (clock system n).rows out) e (given-behind 0 (horizon + 1) before before out refl g)

    pub fails-further : (t u : ℕ) (before out after : O) (why : FlowFault) → IsGivenBetween takes system t u before out → FailsFrom takes system horizon u out after why →
        FailsFrom takes system horizon t before after why
    fails-further t u before out after why g h s given = h s (given-behind t u s before out given g)

    -- what was given before a moment is the beginning of the schedule
    pub stops-at : TakesTime system → (t : ℕ) (out : O) → t ≤ horizon + 1 → FailsFrom takes system horizon t out out fault.NoMemory
    stops-at takes_time t out l s given =
        ((clock system t).rows, rows-later system t (suc horizon), clock-later system takes_time t (suc horizon) (omega arith), given)

module _ {O P : Type 0} (takes : O → Row → Bool → O → Type 0) (holds : O → P → List Row → Type 0) (system : System) (horizon : ℕ) (takes_time : TakesTime system) (some : 1 ≤ system.cores)
    (first : ℕ) (before : O) (desk : Table) (pasts : List ℕ) (parts : List (List P)) (reached end : ℕ) (out : O)
    (is : IsRound takes holds system horizon first before desk pasts parts reached end out) where
  -- there is no memory for the next round
  pub round-stops : FailsFrom takes system horizon first before out fault.NoMemory
  round-stops =
      fails-further takes system horizon first reached before out out fault.NoMemory is.given
      (stops-at takes system horizon takes_time reached out (let a = is.waits.passed 0 (omega arith) in let b = is.waits.early 0 (omega arith) in omega arith))

  -- no round is left
  pub rounds-end : reached ≡ end → IsGivenBetween takes system first (horizon + 1) before out
  rounds-end e = subst (λ t. IsGivenBetween takes system first t before out) (e ∙ is.clear.end_is) is.given

-- a desk on which nothing has happened yet
pub clear-first : (system : System) (horizon : ℕ) (desk : Table) (pasts : List ℕ) (end : ℕ) → IsWellFormed system → desk ≡ opening_table system horizon →
    pasts ≡ replicate system.cores 0 → end ≡ horizon + 1 → IsClear system horizon desk pasts end
clear-first system horizon desk pasts end well e none last =
    rw e
    (record {
      system_is = refl;
      horizon_is = refl;
      sound = refl;
      here = λ c p. get_or-replicate system.cores c _ _ p;
      long = let l = well.limits.cores.1 in let e = length-replicate {A = ℕ} 64 0 in omega arith;
      taken = record {
        many_are = ap length none ∙ length-replicate system.cores 0;
        each = λ c l. zero_at 64 c ∙ sym (ap (λ xs. slice_index xs c) none ∙ zero_at system.cores c);
      };
      end_is = last;
    })
