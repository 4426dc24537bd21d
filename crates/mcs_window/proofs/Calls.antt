-- A desk's calls are steps.
use Rattle.std.proofs.Common.{◌≡◌, ℕ, suc, ◌-◌, ◌<◌, ◌≤◌, false, Some, None, List, [], ◌∷◌, ◌++◌, length, set, replicate, inl, inr, refl, sym, ap, ◌∙◌, subst, arith, append_assoc}
use Rattle.std.proofs.lemmas.List.{set-get_or}
use Rattle.mcs_stretch.specs.ByScripts.{IsSafeByScripts, clocks_after}
use Rattle.mcs_window.specs.Desk.{Table, AllAreHere, IsSkipped, IsAwake, MayLend, IsLent, IsLentWithin, IsLoan, IsSpent, WentByScripts, clock_of, past_of, past_within, loan_of, lent_at, lent_to, settled_at}
use Rattle.mcs_window.specs.Pieces.{Outcome}
use Rattle.mcs_window.specs.declared.slot.Loan.{Loan}
use Rattle.mcs_window.specs.laws.Steps.{Step, Lend, Settle, Skip, Go, Spend, settled_loan, after_step, after_steps, turns_of_loan, turns_of, turns_in, MaySkipTo, AreTaken, NoneGoes, NoneIsSpent}
use Rattle.mcs_window.proofs.Steps.{clocks-many}
use Rattle.mcs_window.proofs.Waking.{awake-lost}
use Rattle.mcs_window.specs.laws.Calls as calls
use Rattle.mcs_window.specs.laws.Calls.{IsBy, IsByLoans, CallsAreSteps, GoingIsSteps}

taken-append : (table : Table) (first second : List Step) → AreTaken table first → AreTaken (after_steps table first) second → AreTaken table (first ++ second)
taken-append table [] second p q = q
taken-append table (step ∷ first) second p q = (p.0, taken-append (after_step table step) first second p.1 q)

steps-append : (table : Table) (first second : List Step) → after_steps table (first ++ second) ≡ after_steps (after_steps table first) second
steps-append table [] second = refl
steps-append table (step ∷ first) second = steps-append (after_step table step) first second

turns-append : (table : Table) (first second : List Step) → turns_in table (first ++ second) ≡ turns_in table first ++ turns_in (after_steps table first) second
turns-append table [] second = refl
turns-append table (step ∷ first) second =
    ap (λ xs. turns_of table step ++ xs) (turns-append (after_step table step) first second)
    ∙ sym (append_assoc (turns_of table step) (turns_in (after_step table step) first) (turns_in (after_steps (after_step table step) first) second))

pub steps-join : calls.StepsJoin
steps-join before table after first second p q = (
  record {
    taken = taken-append before first second p.taken (subst (λ t. AreTaken t second) p.after_is q.taken);
    after_is = q.after_is ∙ ap (λ t. after_steps t second) p.after_is ∙ sym (steps-append before first second);
  },
  turns-append before first second ∙ ap (λ t. turns_in before first ++ turns_in t second) (sym p.after_is),
)

-- idle time is skipped
skip-to : (before after : Table) → before.system.cores ≤ length before.clocks → AllAreHere before → (s : IsSkipped before after) → MaySkipTo before s.moment after.clocks
skip-to before after many here s =
    record { here = here; in_time = s.until.in_time; many = (let e = s.many in omega arith); set = s.clocks }

by-skip : (before after : Table) → before.system.cores ≤ length before.clocks → AllAreHere before → IsSkipped before after → IsByLoans before after
by-skip before after many here s = (Skip s.moment after.clocks ∷ [], record { taken = (skip-to before after many here s, tt); after_is = s.rest }, (tt, tt))

by-awake : (before after : Table) → before.system.cores ≤ length before.clocks → IsAwake before after → IsByLoans before after
by-awake before after many (inl p) = by-skip before after many p.1 p.2
by-awake before after many (inr p) = ([], record { taken = tt; after_is = p.1 }, tt)

-- then a core is lent
by-lend : (table after : Table) (c past : ℕ) → table.lost ≡ false → MayLend table c → clock_of table c ≤ past → past ≤ past_of table c → after ≡ lent_to table c past → IsBy table after (Lend c past ∷ [])
by-lend table after c past sound may ahead in_time e =
    record { taken = (record { sound = sound; may = may; ahead = ahead; in_time = in_time }, tt); after_is = e }

none-append : (first second : List Step) → NoneGoes first → NoneGoes second → NoneGoes (first ++ second)
none-append [] second p q = q
none-append (step ∷ first) second p q = (p.0, none-append first second p.1 q)

by-lent-to : (before table after : Table) (c past : ℕ) → before.system.cores ≤ length before.clocks → IsAwake before table → before.lost ≡ false → MayLend table c → clock_of table c ≤ past → past ≤ past_of table c
    → after ≡ lent_to table c past → IsByLoans before after
by-lent-to before table after c past many awake sound may ahead in_time e =
    let first = by-awake before table many awake in
    let second = by-lend table after c past (awake-lost before table awake ∙ sound) may ahead in_time e in (
      first.0 ++ Lend c past ∷ [],
      (steps-join before table after first.0 (Lend c past ∷ []) first.1 second).0,
      none-append first.0 (Lend c past ∷ []) first.2 (tt, tt),
    )

by-lent : (before after : Table) (c : ℕ) → before.system.cores ≤ length before.clocks → IsLent before c after → IsByLoans before after
by-lent before after c many lent =
    let ahead = lent.chosen.may.ahead in
    by-lent-to before lent.table after c (past_of lent.table c) many lent.awake lent.sound lent.chosen.may (omega arith) (omega arith) lent.lent

by-lent-within : (before after : Table) (span c : ℕ) → before.system.cores ≤ length before.clocks → IsLentWithin before span c after → IsByLoans before after
by-lent-within before after span c many lent =
    let ahead = lent.chosen.may.ahead in
    by-lent-to before lent.table after c (past_within lent.table span c) many lent.awake lent.sound lent.chosen.may (omega arith) (omega arith) lent.lent

by-core-lent : (before after : Table) (c : ℕ) → before.lost ≡ false → MayLend before c → after ≡ lent_at before c → IsByLoans before after
by-core-lent before after c sound may e =
    let ahead = may.ahead in
    (Lend c (past_of before c) ∷ [], by-lend before after c (past_of before c) sound may (omega arith) (omega arith) e, (tt, tt))

-- a loan is settled
by-settle : (before after : Table) (done : Outcome) → done.core < before.system.cores → IsLoan before done → after ≡ settled_at before done.core done.past →
    IsBy before after (Settle done.core ∷ []) × (turns_of before (Settle done.core) ≡ replicate (done.past - done.first) done.core)
by-settle before after done known is e = (
  record { taken = ((known, λ none. apart (record { past = done.past; front = done.front }) (sym none ∙ is.loan)), tt); after_is = e ∙ ap (settled_loan before done.core) (sym is.loan) },
  ap (turns_of_loan before done.core) is.loan ∙ ap (λ first. replicate (done.past - first) done.core) (sym is.first),
)
  where
    apart : (loan : Loan) → None ≡ Some loan → ⊥
    apart loan f = cc

-- turns on the desk itself, one by one
go_steps : Table → List ℕ → List Step
go_steps table [] = []
go_steps table (c ∷ cs) = Go c (suc (clock_of table c)) ∷ go_steps (settled_at table c (suc (clock_of table c))) cs

here-same : (table : Table) (c to : ℕ) → loan_of table c ≡ None → settled_at table c to ≡ record table { clocks = set table.clocks c to }
here-same table c to here = ap (λ loans. record table { clocks = set table.clocks c to; loans = loans }) (ap (set table.loans c) (sym here) ∙ set-get_or table.loans c None)

record AreGone (table : Table) (turns : List ℕ) : Type 0 where
  taken : AreTaken table (go_steps table turns)
  none : NoneIsSpent (go_steps table turns)
  after_is : after_steps table (go_steps table turns) ≡ record table { clocks = clocks_after table.clocks turns }
  turns_are : turns_in table (go_steps table turns) ≡ turns

are-gone : (table : Table) (turns : List ℕ) → AllAreHere table → IsSafeByScripts table.system table.horizon table.clocks turns → AreGone table turns
unfolding go_steps
are-gone table [] here safe = record { taken = tt; none = tt; after_is = refl; turns_are = refl }
are-gone table (c ∷ cs) here safe =
    let to = suc (clock_of table c) in
    let next = record table { clocks = set table.clocks c to } in
    let more = are-gone next cs here safe.1 in
    let e = sym (here-same table c to (here c safe.0.known)) in
    record {
      taken = (
        record {
          known = safe.0.known;
          here = here c safe.0.known;
          ahead = omega arith;
          in_time = (let l = safe.0.in_time in omega arith);
          far = λ b l other r. let s = safe.0.safe b l other r in omega arith;
        },
        subst (λ t. AreTaken t (go_steps t cs)) e more.taken,
      );
      none = (tt, subst (λ t. NoneIsSpent (go_steps t cs)) e more.none);
      after_is = subst (λ t. after_steps t (go_steps t cs) ≡ record table { clocks = clocks_after (set table.clocks c to) cs }) e more.after_is;
      turns_are = ap (λ n. replicate n c ++ turns_in (settled_at table c to) (go_steps (settled_at table c to) cs)) (let one : to - clock_of table c ≡ 1 = omega arith in one)
          ∙ ap (λ xs. c ∷ xs) (subst (λ t. turns_in t (go_steps t cs) ≡ cs) e more.turns_are);
    }

by-went : (before after : Table) → AllAreHere before → (w : WentByScripts before after) →
    (steps : List Step) × IsBy before after steps × NoneIsSpent steps × (turns_in before steps ≡ w.turns)
by-went before after here w =
    let gone = are-gone before w.turns here w.safe in
    (go_steps before w.turns, record { taken = gone.taken; after_is = w.rest ∙ sym gone.after_is }, gone.none, gone.turns_are)

by-spent : (before after : Table) → AllAreHere before → IsSpent before after → (steps : List Step) × IsBy before after steps
by-spent before after here s =
    let first = by-went before s.table here s.later.went in
    let second : IsBy s.table after (Spend s.core s.past ∷ []) =
    record {
      taken = (record { known = s.may.known; here = s.may.here; ahead = (let a = s.may.ahead in omega arith); in_time = s.may.in_time; far = s.may.far }, tt);
      after_is = s.spent;
    } in
    (first.0 ++ Spend s.core s.past ∷ [], (steps-join before s.table after first.0 (Spend s.core s.past ∷ []) first.1 second).0)

calls-here : (before after : Table) → before.system.cores ≤ length before.clocks → CallsAreSteps before after × (AllAreHere before → GoingIsSteps before after)
calls-here before after many = (
  record {
    lent = λ c l. by-lent before after c many l;
    lent_within = λ span c _ l. by-lent-within before after span c many l;
    core_lent = by-core-lent before after;
    not_lent = by-awake before after many;
    skipped = by-skip before after many;
    settled = by-settle before after;
    forfeited = λ e. record { taken = (tt, tt); after_is = e };
    rows_taken = λ c l e. record { taken = (l, tt); after_is = e };
  },
  λ here. record { went = λ later. by-went before after here later.went; spent = by-spent before after here },
)

pub calls-steps : calls.DeskCallsAreSteps
calls-steps system horizon so_far before after takes_time few by =
    calls-here before after (subst (λ (t : Table). t.system.cores ≤ length t.clocks) (sym by.after_is) (clocks-many system horizon so_far takes_time few by.taken))
