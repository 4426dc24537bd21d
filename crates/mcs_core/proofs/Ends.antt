-- When the thread that runs ends its item or uses up its head, or is to give way.
use Rattle.std.proofs.Common.{◌≡◌, ◌≢◌, ℕ, zero, suc, ◌+◌, ◌-◌, ◌<◌, ◌≤◌, ◌^◌, Bool, true, false, cond, List, [], ◌∷◌, length, set, refl, sym, ap, subst, ◌∙◌, arith}
use Rattle.std.specs.Prelude.{◌==◌, nat_lt, not, min, Option, Some, None, IfSome, IsTrue, ◌↔◌}
use Rattle.std.proofs.lemmas.Bool.Decides.{nat_tests}
use Rattle.mcs_ticks.specs.Queue.{by_priority, first_of, rest_of}
use Rattle.mcs_ticks.specs.Soonest.{HasCome, sooner}
use Rattle.mcs_ticks.specs.declared.queue.Queued.{Queued}
use Rattle.mcs_ticks.specs.declared.row.Why.TheVariants as why
use Rattle.mcs_ready.specs.Ready.{thread_of as thread_of_queued}
use Rattle.mcs_control.specs.Context.{Context, context_chosen, head_amount}
use Rattle.mcs_system.specs.System.{System, thread_part}
use Rattle.mcs_core.specs.declared.standing.Chosen.{Chosen}
use Rattle.mcs_core.specs.declared.standing.Standing.TheVariants.{Running}
use Rattle.mcs_core.specs.declared.standing.Thread.{Thread}
use Rattle.mcs_script.specs.Script.{left_after}
use Rattle.mcs_core.specs.Busy.{IsFirst, IsBest, GoesOnAfter, counted_by}
use Rattle.mcs_core.specs.Contexts.{is_own, held}
use Rattle.mcs_core.specs.Core.{Core, thread_of, off}
use Rattle.mcs_core.specs.Turn.{silent, its_context, stops_to_front, charged, date_of, enters_front, preempts, preempts_by, after_count}
use Rattle.mcs_core.specs.stored.Ends.{IsUnspent, HoldsOn, IsEnd, started, better}
use Rattle.mcs_core.specs.stored.Sound.{Phase, slack, IsContextOf, IsSound}
use Rattle.mcs_core.proofs.Budgets.{accepted-is, kept-head-most}
use Rattle.mcs_core.proofs.Busy.{first-end, first-now}
use Rattle.mcs_core.proofs.Firsts.{first-both, first-same, not_le}
use Rattle.mcs_core.proofs.Quiet.{set-same}
use Rattle.mcs_core.proofs.Soundness.{IsOneEach}
use Rattle.mcs_core.proofs.Stopping.{chosen-budget}
use Rattle.mcs_core.proofs.Ticks.{runner, runner-placed}

-- at a moment before the first one it holds
holds-before : (clock n moment : ℕ) (P : ℕ → Type 0) (o : Option ℕ) → IsFirst clock P o → moment ≡ clock + n → moment ≤ 2 ^ 42 → (HasCome moment o → ⊥) → P n
holds-before clock n moment P None h e l f = h n (omega arith)
holds-before clock n moment P (Some first) h e l f = h.3 n (let i = h.1 in let j = not_le first moment f in omega arith)

-- what has not come, as the code tells it
pub not-come : (b : Bool) (P : Type 0) → (IsTrue b ↔ P) → not b ≡ true → P → ⊥
not-come true P h e p = cc
not-come false P h e p = let f : false ≡ true = h.1 p in cc

-- if no thread is taken, no thread is left
pub nothing-ready : (queue : List Queued) → thread_of_queued (first_of queue) ≡ None → first_of (rest_of queue) ≡ None
nothing-ready [] e = refl
nothing-ready (x ∷ xs) e = cc

-- the head of a context is no longer than a period may be
head-short : (system : System) (k : ℕ) (context : Context) → IsContextOf system k context → head_amount context ≤ 2 ^ 40
head-short system k context h =
    let a = accepted-is system.min_budget context.config h.accepted in
    let most : head_amount context ≤ context.config.budget = kept-head-most context.config context.budget h.kept in
    omega (arith, most, a.within, a.short)

-- and that of one that was chosen
pub chosen-short : (system : System) (k t : ℕ) (context : Context) → IsContextOf system k context → head_amount (context_chosen t context) ≤ 2 ^ 40
chosen-short system k t context h =
    let b = chosen-budget system k t context.mode context h in
    let a = accepted-is system.min_budget (context_chosen t context).config b.accepted in
    let most : head_amount (context_chosen t context) ≤ (context_chosen t context).config.budget = kept-head-most (context_chosen t context).config (context_chosen t context).budget b.kept in
    omega (arith, most, a.within, a.short)

-- a context that a core holds, when it is another
kept-context : (k : ℕ) (context : Context) (contexts : List (Option Context)) → is_own k contexts ≡ true → held k (set contexts k (Some context)) ≡ context
kept-context k context [] own = cc
kept-context zero context (x ∷ xs) own = refl
kept-context (suc k) context (x ∷ xs) own = kept-context k context xs own

module _ (system : System) where
  -- no thread runs and no thread is ready
  pub never-ends : (from : ℕ) (core : Core) → core.running ≡ None → first_of core.ready ≡ None → IsEnd system from core None
  never-ends from core e f = rw (e, f) (λ n l. (tt, tt))

  -- the running thread continues
  pub goes-ends : (from : ℕ) (core : Core) (ends : Option ℕ) → (core.running ≡ None → ⊥) → HoldsOn system core → IsFirst from (λ n. GoesOnAfter system n core.running core) ends → IsEnd system from core ends
  goes-ends from core ends e h first = first-same from (λ n. GoesOnAfter system n core.running core) _ ends (λ n p. (p, by core.running e h)) (λ n q. q.0) first
    where
      by : (o : Option Chosen) → (o ≡ None → ⊥) → IfSome o (λ chosen. IsBest core (Some chosen) (first_of core.ready)) → IsBest core o (first_of core.ready)
      by (Some x) f g = g
      by None f g = absurd (f refl)

  -- after a preemption no ready thread is better than the running one
  pub preempted-holds : (t : ℕ) (core : Core) → HoldsOn system (preempts by_priority system t core).core
  preempted-holds t core = by core.running (first_of core.ready) refl refl
    where
      idle : (thread : ℕ) (date : Option ℕ) (core : Core) → HoldsOn system (enters_front by_priority thread date (off core))
      idle thread None core = tt
      idle thread (Some moment) core = tt

      by : (o : Option Chosen) (q : Option Queued) → core.running ≡ o → first_of core.ready ≡ q → HoldsOn system (preempts_by by_priority system t o q core).core
      by None q e f = rw e tt
      by (Some chosen) None e f = rw (e, f) tt
      by (Some chosen) (Some best) e f = cases (nat_lt (thread_of core chosen.thread).place.priority best.priority) refl
        where
          cases : (b : Bool) → nat_lt (thread_of core chosen.thread).place.priority best.priority ≡ b →
              HoldsOn system (cond b (stops_to_front by_priority system t chosen.thread why.Preempt chosen.using (charged system chosen.thread chosen.using core)) (silent core)).core
          cases true g = let after : Core = charged system chosen.thread chosen.using core in idle chosen.thread (date_of system t chosen.thread after) after
          cases false g = rw (e, f) g

  -- a thread that has not used up its head
  pub unspent : (c from : ℕ) (each : IsOneEach system) (phase : Phase) (core : Core) → slack phase ≡ 0 → IsSound system c from phase None core → IfSome core.running (IsUnspent system core)
  unspent c from each phase core e h = by core.running refl
    where
      by : (o : Option Chosen) → core.running ≡ o → IfSome o (IsUnspent system core)
      by None f = tt
      by (Some chosen) f =
          let r = runner system c from each phase chosen core h f in
          let p = runner-placed system c from each phase chosen core h f in
          let u : chosen.using < head_amount (its_context system chosen.thread core) + slack phase = r.unspent in
          let k = (thread_part system chosen.thread).context in
          record {
            known = rw h.threads p.known;
            part = p.known;
            has = p.has;
            unspent = omega arith;
            short = head-short system k (its_context system chosen.thread core) (h.budgets k p.has);
          }

  -- after the count of a tick with which the thread continues, nothing follows
  pub counted-goes : (c t n used : ℕ) (chosen : Chosen) (core left : Core) → chosen.thread < length core.threads → used ≡ chosen.using + n + 1 → left ≡ counted_by (n + 1) chosen core →
      GoesOnAfter system n (Some chosen) core → after_count by_priority system c t chosen.thread used left ≡ silent left
  counted-goes c t n used chosen core left known e f h =
      rw (
        ap (λ k. k == 0) (ap (λ (k : Core). (thread_of k chosen.thread).place.left) f ∙ ap (λ (thread : Thread). thread.place.left) (set-same chosen.thread (record (thread_of core chosen.thread) { place = record ((thread_of core chosen.thread).place) { left = left_after (n + 1) (thread_of core chosen.thread).place.left } }) core.threads known))
            ∙ over (thread_of core chosen.thread).place.left n h.0,
        other used chosen.using n (head_amount (its_context system chosen.thread left)) (head_amount (its_context system chosen.thread core)) e
            (ap (λ (k : Core). head_amount (its_context system chosen.thread k)) f) h.1,
      ) refl
    where
      over : (k n : ℕ) → 1 < left_after n k → (left_after (n + 1) k == 0) ≡ false
      over k n h = grind (arith, nat_tests)

      other : (used using n m k : ℕ) → used ≡ using + n + 1 → m ≡ k → using + n + 1 ≢ k → (used == m) ≡ false
      other used using n m k e f h = grind (arith, nat_tests)

  -- the first end of a thread that is chosen at moment t
  module _ (t thread left head : ℕ) (core : Core) (known : thread < length core.threads) (own : is_own (thread_part system thread).context core.contexts ≡ true) where
    abbrev chosen : Chosen
    chosen = record { thread = thread; using = 0 }

    abbrev context : Context
    context = context_chosen t (its_context system thread core)

    pub started-ends : t ≤ 2 ^ 40 → 1 ≤ head → left ≡ (thread_of core thread).place.left → head ≡ head_amount (context_chosen t (its_context system thread core)) →
        head ≤ 2 ^ 40 →
        IsEnd system (t + 1) (started system t thread core)
        (sooner (Some (t + 1 + min (left - 1) (head - 0 - 1))) (better (thread_of core thread).place.priority (t + 1) (first_of core.ready)))
    started-ends soon some e f few =
        first-both (t + 1) (λ n. GoesOnAfter system n (Some chosen) (started system t thread core)) (λ n. IsBest (started system t thread core) (Some chosen) (first_of core.ready)) (Some (t + 1 + min (left - 1) (head - 0 - 1)))
        (better (thread_of core thread).place.priority (t + 1) (first_of core.ready))
        (let P : ℕ → Type 0 = λ k. IsFirst (t + 1) (λ n. (1 < left_after n k) × (0 + n + 1 ≢ head)) (Some (t + 1 + min (left - 1) (head - 0 - 1))) in
        let Q : ℕ → Type 0 = λ k. IsFirst (t + 1) (λ n. (1 < left_after n (thread_of (started system t thread core) thread).place.left) × (0 + n + 1 ≢ k)) (Some (t + 1 + min (left - 1) (head - 0 - 1))) in
        subst Q head_same (subst P left_same (first-end (t + 1) left 0 head (Some (t + 1 + min (left - 1) (head - 0 - 1))) (omega arith) (λ h. omega arith, λ h. refl) refl)))
        (best (first_of core.ready))
      where
        left_same : left ≡ (thread_of (started system t thread core) thread).place.left
        left_same = e ∙ sym (ap (λ (state : Thread). state.place.left) (set-same thread (record (thread_of core thread) { standing = Running }) core.threads known))

        head_same : head ≡ head_amount (its_context system thread (started system t thread core))
        head_same = f ∙ ap head_amount (sym (kept-context (thread_part system thread).context context core.contexts own))

        same_priority : (thread_of (started system t thread core) thread).place.priority ≡ (thread_of core thread).place.priority
        same_priority = ap (λ (state : Thread). state.place.priority) (set-same thread (record (thread_of core thread) { standing = Running }) core.threads known)

        best : (q : Option Queued) → IsFirst (t + 1) (λ n. IsBest (started system t thread core) (Some chosen) q) (better (thread_of core thread).place.priority (t + 1) q)
        best None = λ n l. tt
        best (Some first) =
            let P : ℕ → Type 0 = λ p. IsFirst (t + 1) (λ n. nat_lt p first.priority ≡ false) (better (thread_of core thread).place.priority (t + 1) (Some first)) in
            subst P (sym same_priority) (by (nat_lt (thread_of core thread).place.priority first.priority) refl)
          where
            by : (k : Bool) → nat_lt (thread_of core thread).place.priority first.priority ≡ k →
                IsFirst (t + 1) (λ n. nat_lt (thread_of core thread).place.priority first.priority ≡ false) (cond k (Some (t + 1)) None)
            by true g = first-now (t + 1) (λ n. nat_lt (thread_of core thread).place.priority first.priority ≡ false) (omega arith) (λ h. cc)
            by false g = λ n l. g
