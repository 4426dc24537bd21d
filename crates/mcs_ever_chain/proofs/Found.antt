-- A chain that is later a period after the kept moment recurs, and its result is true.
use Rattle.std.proofs.Common.{◌≡◌, ℕ, suc, ◌+◌, ◌-◌, ◌*◌, ◌^◌, ◌<◌, ◌≤◌, ◌⊎◌, inl, inr, Bool, true, false, not, List, [], length, Option, Some, None, refl, sym, ap, subst, ◌∙◌, arith}
use Rattle.std.specs.Prelude.{◌==◌, if◌then◌else◌}
use Rattle.std.specs.List.{AllByRecursion}
use Rattle.std.proofs.lemmas.Bool.{eqb-true}
use Rattle.mcs_ticks.specs.Capped.{capped}
use Rattle.mcs_ticks.specs.declared.row.Row.{Row}
use Rattle.mcs_system.specs.declared.part.ChainPart.{ChainPart}
use Rattle.mcs_system.specs.System.{System}
use Rattle.mcs_system.specs.WellFormed.{IsWellFormed}
use Rattle.mcs_core.specs.Clock.{schedule}
use Rattle.mcs_verdict.specs.Findings.{past_of}
use Rattle.mcs_table.specs.Rounds.{greatest}
use Rattle.mcs_chain.specs.Answers.{earliest, latencies, origins, unanswered, unanswered_for}
use Rattle.mcs_origins.specs.Later.{later_origins}
use Rattle.mcs_chain.specs.Later.{AreLater, StepsAreSame}
use Rattle.mcs_chain.specs.Origins.{Origins}
use Rattle.mcs_chain.specs.State.{State}
use Rattle.mcs_chain.specs.Watch.{slow_sum}
use Rattle.mcs_chain.specs.declared.step.Gone.{Gone}
use Rattle.mcs_ever.specs.Closed.{has}
use Rattle.mcs_ever.specs.Recurs.{Shifts}
use Rattle.mcs_ever.specs.laws.Repeats.{TurnsRepeat}
use Rattle.mcs_ever_found.specs.Recurs.{past_before}
use Rattle.mcs_ever_found.specs.laws.Course.{is_at_most}
use Rattle.mcs_ever_told.specs.declared.line.Often.{Often}
use Rattle.mcs_ever_told.specs.declared.line.Often.TheVariants.{Forever}
use Rattle.mcs_ever_told.specs.declared.outlook.told.Period.{Period}
use Rattle.mcs_ever_told.specs.ForEver.{IsOften}
use Rattle.mcs_ever_told.specs.Lines.{is_some}
use Rattle.mcs_ever_chain.specs.declared.often.Counts.{Counts}
use Rattle.mcs_ever_chain.specs.declared.look.Kept.{Kept}
use Rattle.mcs_ever_chain.specs.declared.look.Look.{Look}
use Rattle.mcs_ever_chain.specs.Recurs.{ChainRecurs, gone_before, origins_before}
use Rattle.mcs_ever_chain.specs.Told.{AreLeft, ChainRepeats, IsNeverLonger, many_answers, many_left, past_up_to}
use Rattle.mcs_ever_chain.specs.laws.Repeats.{AnswersAreAdded, InterruptsAreAdded, SlowAreAdded, GreatestIsForever, NoneIsLonger, NoneIsLeft, NoneIsSlow, answers_before, interrupts_before, slow_before, latencies_before, latencies_up_to}
use Rattle.mcs_ever_chain.specs.stored.Looks.{IsFound, TurnsStandAlone}
use Rattle.mcs_ever_chain.specs.stored.Runs.{left_at}
use Rattle.mcs_ever_chain.proofs.Adding.{adds-each, often-capped, happens, left-adds}

none-below : (n : ℕ) → capped n ≡ 0 → n ≡ 0
none-below n e = omega (arith, e)

-- without a deadline nothing is unanswered
none-left : (horizon : ℕ) (first : Option ℕ) → unanswered_for 0 horizon first ≡ None
none-left horizon None = refl
none-left horizon (Some origin) = refl

no-left : (system : System) (chain : ChainPart) (past : List Row) (horizon : ℕ) → chain.deadline ≡ 0 → unanswered system chain past horizon ≡ None
no-left system chain past horizon none =
    let left = (origins system chain past).unanswered in
    ap (λ (d : ℕ). unanswered_for d horizon (earliest left)) none ∙ none-left horizon (earliest left)

module _ (system : System) (well : IsWellFormed system) (l : Look) (before now : Kept) (f : IsFound system l before now) where
  abbrev chain : ChainPart
  chain = f.pair.chain

  abbrev group : ℕ → Bool
  group = has l.home.set

  abbrev shifts : Shifts
  shifts = f.pair.home.recurs.shifts

  abbrev ticks : ℕ
  ticks = l.home.period.ticks

  abbrev p : Period
  p = record { from = before.at; ticks = ticks }

  by : shifts.by ≡ ticks
  by = f.pair.home.recurs.by

  ends : before.at + shifts.by ≡ now.at
  ends = ap (λ (n : ℕ). before.at + n) by ∙ f.period

  gone-was : before.state.gone ≡ gone_before system chain before.at
  gone-was = ap (λ (s : State). s.gone) f.pair.is_before.state

  gone-is : now.state.gone ≡ gone_before system chain (before.at + shifts.by)
  gone-is = ap (λ (s : State). s.gone) f.pair.is_now.state ∙ ap (λ (t : ℕ). gone_before system chain t) (sym ends)

  origins-were : before.state.origins ≡ origins_before system chain before.at
  origins-were = ap (λ (s : State). s.origins) f.pair.is_before.state

  origins-are : now.state.origins ≡ origins_before system chain (before.at + shifts.by)
  origins-are = ap (λ (s : State). s.origins) f.pair.is_now.state ∙ ap (λ (t : ℕ). origins_before system chain t) (sym ends)

  recurs : TurnsRepeat → ChainRecurs system chain group shifts before.at
  recurs law =
      let home = f.pair.home in
      let floor = f.pair.is_before.floor in
      let from = home.from in
      let T : ℕ → Type 0 = λ (u : ℕ). TurnsStandAlone system l.home.set before.at u in
      let S : List Gone → Type 0 = λ (g : List Gone). StepsAreSame system group g now.state.gone in
      let R : List Gone → Type 0 = λ (g : List Gone). StepsAreSame system group (gone_before system chain before.at) g in
      let A : Origins → Type 0 = λ (o : Origins). AreLater system group ticks o now.state.origins in
      let B : Origins → Type 0 = λ (o : Origins). AreLater system group ticks (origins_before system chain before.at) o in
      let C : ℕ → Type 0 = λ (n : ℕ). AreLater system group n (origins_before system chain before.at) (origins_before system chain (before.at + shifts.by)) in
      record {
        some = home.recurs.recurs.some;
        rows = λ t c late known own. law system group shifts l.home.period.from well home.recurs.recurs t c (omega (arith, late, floor, from)) known own;
        alone = subst T (sym ends) f.pair.turns;
        delays = λ maker core. (let d = home.delays maker core in omega (arith, d, floor));
        answerer = home.answerer;
        steps = subst R gone-is (subst S gone-was f.steps);
        later = subst C (sym by) (subst B origins-are (subst A origins-were f.later));
      }

  module _ (turns : TurnsRepeat) (known : chain.thread < length system.threads) where
    own : ChainRecurs system chain group shifts before.at
    own = recurs turns

    answers-add : AnswersAreAdded → (k : ℕ) → answers_before system chain (before.at + (k + 1) * ticks)
        ≡ answers_before system chain (before.at + k * ticks) + (answers_before system chain (before.at + ticks) - answers_before system chain before.at)
    answers-add law = adds-each shifts ticks before.at (answers_before system chain) by (law system chain group shifts before.at well known own)

    slow-add : SlowAreAdded → (k : ℕ) → slow_before system chain (before.at + (k + 1) * ticks)
        ≡ slow_before system chain (before.at + k * ticks) + (slow_before system chain (before.at + ticks) - slow_before system chain before.at)
    slow-add law = adds-each shifts ticks before.at (slow_before system chain) by (law system chain group shifts before.at well known own)

    interrupts-add : InterruptsAreAdded → (k : ℕ) → interrupts_before system chain (before.at + (k + 1) * ticks)
        ≡ interrupts_before system chain (before.at + k * ticks) + (interrupts_before system chain (before.at + ticks) - interrupts_before system chain before.at)
    interrupts-add law = adds-each shifts ticks before.at (interrupts_before system chain) by (law system chain group shifts before.at well known own f.pair.home.source)

    at-end : (count : ℕ → ℕ) → count now.at ≡ count (before.at + ticks)
    at-end count = ap count (sym f.period)

    answers-often : AnswersAreAdded → IsOften system p (many_answers system chain) (Forever before.counts.answers (now.counts.answers - before.counts.answers))
    answers-often law =
        often-capped system p (many_answers system chain) (answers-add law) before.counts.answers now.counts.answers
        (ap (λ (c : Counts). c.answers) f.pair.is_before.counts)
        (ap (λ (c : Counts). c.answers) f.pair.is_now.counts ∙ at-end (λ t. capped (many_answers system chain (past_before system t))))

    slow-often : SlowAreAdded → IsOften system p (slow_sum system chain) (Forever before.counts.slow (now.counts.slow - before.counts.slow))
    slow-often law =
        often-capped system p (slow_sum system chain) (slow-add law) before.counts.slow now.counts.slow
        (ap (λ (c : Counts). c.slow) f.pair.is_before.counts)
        (ap (λ (c : Counts). c.slow) f.pair.is_now.counts ∙ at-end (λ t. capped (slow_sum system chain (past_before system t))))

    exact : (n m : ℕ) → m ≡ capped n → m < 2 ^ 64 - 1 → n ≡ m
    exact n m e few = omega (arith, e, few)

    left-often : AnswersAreAdded → InterruptsAreAdded → IsOften system p (many_left system chain)
        (Forever (before.counts.interrupts - before.counts.answers) ((now.counts.interrupts - now.counts.answers) - (before.counts.interrupts - before.counts.answers)))
    left-often answers all few =
        let I = interrupts_before system chain in
        let A = answers_before system chain in
        let w = f.whole in
        let a0 : A before.at ≡ before.counts.answers =
        exact (A before.at) before.counts.answers (ap (λ (c : Counts). c.answers) f.pair.is_before.counts) (let x = w.answers in let y = w.few_answers in omega (arith, x, y)) in
        let a1 : A (before.at + ticks) ≡ now.counts.answers =
        exact (A (before.at + ticks)) now.counts.answers (ap (λ (c : Counts). c.answers) f.pair.is_now.counts ∙ at-end (λ t. capped (A t))) w.few_answers in
        let i0 : I before.at ≡ before.counts.interrupts =
        exact (I before.at) before.counts.interrupts (ap (λ (c : Counts). c.interrupts) f.pair.is_before.counts) (let x = w.interrupts in let y = w.few_interrupts in omega (arith, x, y)) in
        let i1 : I (before.at + ticks) ≡ now.counts.interrupts =
        exact (I (before.at + ticks)) now.counts.interrupts (ap (λ (c : Counts). c.interrupts) f.pair.is_now.counts ∙ at-end (λ t. capped (I t))) w.few_interrupts in
        let x = w.fewer in
        let y = w.between in
        let adds = left-adds I A before.at ticks (interrupts-add all) (answers-add answers) (omega (arith, a0, i0, x)) (omega (arith, a0, a1, i0, i1, y)) in
        let first : I before.at - A before.at ≡ before.counts.interrupts - before.counts.answers = omega (arith, a0, i0) in
        let more : (I (before.at + ticks) - A (before.at + ticks)) - (I before.at - A before.at)
        ≡ (now.counts.interrupts - now.counts.answers) - (before.counts.interrupts - before.counts.answers) = omega (arith, a0, a1, i0, i1) in
        happens system p (many_left system chain) adds (before.counts.interrupts - before.counts.answers)
        ((now.counts.interrupts - now.counts.answers) - (before.counts.interrupts - before.counts.answers)) first more

    longest : NoneIsLonger → IsNeverLonger system chain now.counts.greatest
    longest law h =
        let G : Option ℕ → Type 0 = λ (g : Option ℕ). AllByRecursion (λ latency. is_at_most g latency ≡ true) (latencies_up_to system chain h) in
        let same : greatest (latencies_before system chain (before.at + shifts.by)) ≡ now.counts.greatest =
        ap (λ (t : ℕ). greatest (latencies_before system chain t)) ends ∙ sym (ap (λ (c : Counts). c.greatest) f.pair.is_now.counts) in
        subst G same (law system chain group shifts before.at well known own h)

    reached : GreatestIsForever → (h : ℕ) → before.at + ticks ≤ h + 1 → greatest (latencies system chain (past_up_to system chain h)) ≡ now.counts.greatest
    reached law h past =
        let b = by in
        law system chain group shifts before.at well known own h (omega (arith, past, b))
        ∙ ap (λ (t : ℕ). greatest (latencies_before system chain t)) ends ∙ sym (ap (λ (c : Counts). c.greatest) f.pair.is_now.counts)

    never-slow : NoneIsSlow → is_some (Forever before.counts.slow (now.counts.slow - before.counts.slow)) ≡ false → (h : ℕ) →
        slow_sum system chain (past_up_to system chain h) ≡ 0
    never-slow law none h =
        let zero : before.counts.slow + (now.counts.slow - before.counts.slow) ≡ 0 = eqb-true _ _ (not-false (before.counts.slow + (now.counts.slow - before.counts.slow) == 0) none) in
        let after : now.counts.slow ≡ 0 = omega (arith, zero) in
        let same : capped (slow_before system chain now.at) ≡ 0 = sym (ap (λ (c : Counts). c.slow) f.pair.is_now.counts) ∙ after in
        law system chain group shifts before.at well known own
        (ap (λ (t : ℕ). slow_before system chain t) ends ∙ none-below (slow_before system chain now.at) same) h
      where
        not-false : (b : Bool) → not b ≡ false → b ≡ true
        not-false true e = refl
        not-false false e = absurd (cc)

    never-left : NoneIsLeft → (chain.deadline ≡ 0) ⊎ ((l.late ≡ false) × (now.state.origins.unanswered ≡ later_origins ticks before.state.origins.unanswered)) →
        (h : ℕ) → unanswered system chain (past_up_to system chain h) h ≡ None
    never-left law (inl none) h = no-left system chain (past_up_to system chain h) h none
    never-left law (inr so) h =
        let left : (origins_before system chain (before.at + shifts.by)).unanswered ≡ later_origins shifts.by (origins_before system chain before.at).unanswered =
        sym (ap (λ (o : Origins). o.unanswered) origins-are) ∙ so.1 ∙ ap (λ (o : Origins). later_origins ticks o.unanswered) origins-were
        ∙ ap (λ (n : ℕ). later_origins n (origins_before system chain before.at).unanswered) (sym by) in
        let e = ends in
        law system chain group shifts before.at well known (record { recurs = own; source = f.pair.home.source; unanswered = left })
        (λ horizon early. up-to horizon (f.pair.late so.0 horizon (omega (arith, early, e)))) h
      where
        up-to : (horizon : ℕ) → left_at system chain (horizon + 1) horizon ≡ None → unanswered system chain (past_of [] (schedule system horizon)) horizon ≡ None
        up-to horizon is =
            let next : horizon + 1 ≡ suc horizon = omega arith in
            let P : ℕ → Type 0 = λ (t : ℕ). left_at system chain t horizon ≡ None in
            subst P next is

    -- the result of the chain
    told-repeats : AnswersAreAdded → InterruptsAreAdded → SlowAreAdded → GreatestIsForever → NoneIsLonger → NoneIsLeft → NoneIsSlow →
        (in_time : Bool) → (in_time ≡ true → (chain.deadline ≡ 0) ⊎ ((l.late ≡ false) × (now.state.origins.unanswered ≡ later_origins ticks before.state.origins.unanswered))) →
        (left : Option Often) →
        left ≡ (if in_time then None else Some (Forever (before.counts.interrupts - before.counts.answers)
        ((now.counts.interrupts - now.counts.answers) - (before.counts.interrupts - before.counts.answers)))) →
        ChainRepeats system chain p (record {
          chain = l.chain;
          period = Some p;
          greatest = now.counts.greatest;
          answers = Forever before.counts.answers (now.counts.answers - before.counts.answers);
          slow = Forever before.counts.slow (now.counts.slow - before.counts.slow);
          unanswered = left;
        })
    told-repeats answers all slow greater longer unleft unslow true so left is =
        let L : Option Often → Type 0 = λ (often : Option Often). AreLeft system chain p often in
        record {
          longest = longest longer;
          reached = reached greater;
          answers = answers-often answers;
          slow = slow-often slow;
          left = subst L (sym is) tt;
          clean = λ none empty. record { slow = never-slow unslow none; unanswered = never-left unleft (so refl) };
        }
    told-repeats answers all slow greater longer unleft unslow false so left is =
        let L : Option Often → Type 0 = λ (often : Option Often). AreLeft system chain p often in
        record {
          longest = longest longer;
          reached = reached greater;
          answers = answers-often answers;
          slow = slow-often slow;
          left = subst L (sym is) (left-often answers all);
          clean = λ none empty. absurd (cc);
        }

    pub repeats : AnswersAreAdded → InterruptsAreAdded → SlowAreAdded → GreatestIsForever → NoneIsLonger → NoneIsLeft → NoneIsSlow →
        (in_time : Bool) → (in_time ≡ true → (chain.deadline ≡ 0) ⊎ ((l.late ≡ false) × (now.state.origins.unanswered ≡ later_origins ticks before.state.origins.unanswered))) →
        (a s : Often) (left : Option Often) →
        a ≡ Forever before.counts.answers (now.counts.answers - before.counts.answers) →
        s ≡ Forever before.counts.slow (now.counts.slow - before.counts.slow) →
        left ≡ (if in_time then None else Some (Forever (before.counts.interrupts - before.counts.answers)
        ((now.counts.interrupts - now.counts.answers) - (before.counts.interrupts - before.counts.answers)))) →
        ChainRepeats system chain p (record { chain = l.chain; period = Some p; greatest = now.counts.greatest; answers = a; slow = s; unanswered = left })
    repeats answers all slow greater longer unleft unslow in_time so a s left a-is s-is is =
        let A : Often → Type 0 = λ (x : Often). ChainRepeats system chain p (record {
          chain = l.chain;
          period = Some p;
          greatest = now.counts.greatest;
          answers = x;
          slow = Forever before.counts.slow (now.counts.slow - before.counts.slow);
          unanswered = left;
        }) in
        let S : Often → Type 0 = λ (x : Often). ChainRepeats system chain p (record {
          chain = l.chain;
          period = Some p;
          greatest = now.counts.greatest;
          answers = a;
          slow = x;
          unanswered = left;
        }) in
        subst S (sym s-is) (subst A (sym a-is) (told-repeats answers all slow greater longer unleft unslow in_time so left is))
