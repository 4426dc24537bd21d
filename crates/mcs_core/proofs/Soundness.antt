-- Changes that keep a core sound: threads that leave their place and enter another, and contexts,
-- places and words that change.
use Rattle.std.proofs.Common.{◌≡◌, ℕ, ◌+◌, ◌^◌, ◌<◌, ◌≤◌, ◌≢◌, ◌⊎◌, inl, inr, Bool, true, false, cond, List, [], ◌∷◌, length, refl, sym, ap, subst, ◌∙◌, arith}
use Rattle.std.specs.Prelude.{◌==◌, Option, Some, None, unwrap_or}
use Rattle.std.specs.List.{AllByRecursion}
use Rattle.std.proofs.lemmas.Bool.{cases_eq}
use Rattle.std.proofs.lemmas.Bool.Decides.{nat_tests}
use Rattle.std.proofs.lemmas.Grind.{common_steps}
use Rattle.std.proofs.lemmas.List.{get_or-set_same, get_or-set_other}
use Rattle.std.proofs.Math.ListN.{length-set}
use Rattle.mcs_ticks.specs.declared.queue.Queued.{Queued}
use Rattle.mcs_control.specs.Context.{Context, head_moment}
use Rattle.mcs_notify.specs.Note.{Note}
use Rattle.mcs_release.specs.declared.dated.Dated.{Dated}
use Rattle.mcs_core.specs.declared.standing.Chosen.{Chosen}
use Rattle.mcs_core.specs.declared.standing.Standing.{Standing}
use Rattle.mcs_core.specs.declared.standing.Standing.TheVariants.{Running}
use Rattle.mcs_core.specs.declared.standing.Thread.{Thread}
use Rattle.mcs_system.specs.System.{System, thread_part}
use Rattle.mcs_core.specs.Contexts.{no_server}
use Rattle.mcs_core.specs.Core.{Core, thread_of, context_of, with_thread, with_context, no_state}
use Rattle.mcs_core.specs.stored.Sound.{times_ready, times_pending, times_blocked, is_here, may_run, Loose, Phase, standing_of, has_context, IsPlaced, IsEarly, AreEarly, IsContextOf, RunsRight, IsSound}
use Rattle.mcs_core.specs.Places.{times_queued, times_dated, times_waiting}

-- no two threads have one context
abbrev pub IsOneEach : System → Type 0
IsOneEach system =
    (x y : ℕ) → x < length system.threads → y < length system.threads → (thread_part system x).context ≡ (thread_part system y).context → x ≡ y

-- a thread on its way, and how often it is then in a queue
one_way : (f : Standing → ℕ) (x y : ℕ) (s s' old : Standing) (before after : ℕ) →
    after + cond (x == y) (f s) 0 ≡ before + cond (x == y) (f s') 0 → before ≡ f (cond (x == y) s old) → after ≡ f (cond (x == y) s' old)
one_way f x y s s' old before after e h = grind (arith, nat_tests)

-- a thread with this standing, as it counts on its way
its-standing : (x y : ℕ) (s : Standing) (core : Core) → (thread_of core x).standing ≡ s → cond (x == y) s (thread_of core y).standing ≡ (thread_of core y).standing
its-standing x y s core e = grind (arith, nat_tests)

-- of the thread on its way itself
pub itself : (x : ℕ) (s old : Standing) → cond (x == x) s old ≡ s
itself x s old = grind (arith, nat_tests)

module _ (system : System) where
  -- what a core with the same contexts has of a thread with the same item, of the same dates, and of a thread that still runs
  module _ (core core' : Core) (same : core.contexts ≡ core'.contexts) where
    pub placed-same : (x : ℕ) → (thread_of core x).place.item ≡ (thread_of core' x).place.item → IsPlaced system x core → IsPlaced system x core'
    placed-same x item p = record { known = p.known; item = rw (← item) p.item; bound = p.bound; has = rw (← same) p.has }

    pub dates-same : (ds : List Dated) → AreEarly system core ds → AreEarly system core' ds
    dates-same [] p = tt
    dates-same (d ∷ ds) p = (rw (← same) p.0, dates-same ds p.1)

    pub runs-same : (phase : Phase) → ((x : ℕ) → (thread_of core x).standing ≡ Running → (thread_of core' x).standing ≡ Running) → (o : Option Chosen) →
        RunsRight system phase o core → RunsRight system phase o core'
    runs-same phase runs None p = tt
    runs-same phase runs (Some chosen) p = record { stands = runs chosen.thread p.stands; used = p.used; unspent = rw (← same) p.unspent; early = rw (← same) p.early }

module _ (system : System) (number from : ℕ) where
  -- the thread on its way counts with another standing, and its queues agree
  pub re_stands : (phase : Phase) (x : ℕ) (s s' : Standing) (core : Core) (running : Option Chosen) (ready : List Queued) (releases : List Dated) (notes : List Note) →
      IsSound system number from phase (Some (record { thread = x; standing = s })) core →
      ((y : ℕ) → times_queued y ready + cond (x == y) (times_ready s) 0 ≡ times_queued y core.ready + cond (x == y) (times_ready s') 0) →
      ((y : ℕ) → times_dated y releases + cond (x == y) (times_pending s) 0 ≡ times_dated y core.releases + cond (x == y) (times_pending s') 0) →
      ((y : ℕ) → times_waiting y notes + cond (x == y) (times_blocked s) 0 ≡ times_waiting y core.notes + cond (x == y) (times_blocked s') 0) →
      length notes ≡ length core.notes → is_here s ≡ true → (may_run s' ≡ true → IsEarly system x core) → AreEarly system core releases → AllByRecursion (λ dated. from ≤ dated.date) releases →
      RunsRight system phase running core →
      IsSound system number from phase (Some (record { thread = x; standing = s' })) (record core { running = running; ready = ready; releases = releases; notes = notes })
  re_stands phase x s s' core running ready releases notes h a b d many here early dates later runs = record {
    threads = h.threads;
    contexts = h.contexts;
    notes = many ∙ h.notes;
    ready = λ y. one_way times_ready x y s s' (thread_of core y).standing (times_queued y core.ready) (times_queued y ready) (a y) (h.ready y);
    pending = λ y. one_way times_pending x y s s' (thread_of core y).standing (times_dated y core.releases) (times_dated y releases) (b y) (h.pending y);
    blocked = λ y. one_way times_blocked x y s s' (thread_of core y).standing (times_waiting y core.notes) (times_waiting y notes) (d y) (h.blocked y);
    here = λ y g. placed-same system core new refl y refl (h.here y (here_is (x == y) (thread_of core y).standing g));
    early = λ y g. grind (arith, nat_tests, h.early y, early);
    dates = dates-same system core new refl releases dates;
    running = runs-same system core new refl phase (λ y e. e) running runs;
    budgets = h.budgets;
    own = h.own;
    later = later;
  }
    where
      new : Core
      new = record core { running = running; ready = ready; releases = releases; notes = notes }

      here_is : (t : Bool) (old : Standing) → is_here (cond t s' old) ≡ true → is_here (cond t s old) ≡ true
      here_is true old g = here
      here_is false old g = g

  -- the same threads counted in another way, or with another running thread or other words, in
  -- another phase or before another moment
  pub retold : (later : ℕ) (phase phase' : Phase) (a b : Option Loose) (core : Core) (running : Option Chosen) (notes : List Note) →
      ((y : ℕ) → standing_of a y core ≡ standing_of b y (record core { running = running; notes = notes })) → length notes ≡ length core.notes →
      ((y : ℕ) → times_waiting y notes ≡ times_waiting y core.notes) → IsSound system number from phase a core → RunsRight system phase' running core →
      AllByRecursion (λ dated. later ≤ dated.date) core.releases → IsSound system number later phase' b (record core { running = running; notes = notes })
  retold later phase phase' a b core running notes same many waiting h runs yet = record {
    threads = h.threads;
    contexts = h.contexts;
    notes = many ∙ h.notes;
    ready = λ y. h.ready y ∙ ap times_ready (same y);
    pending = λ y. h.pending y ∙ ap times_pending (same y);
    blocked = λ y. waiting y ∙ h.blocked y ∙ ap times_blocked (same y);
    here = λ y e. placed-same system core new refl y refl (h.here y (ap is_here (same y) ∙ e));
    early = λ y e. h.early y (ap may_run (same y) ∙ e);
    dates = dates-same system core new refl core.releases h.dates;
    running = runs-same system core new refl phase' (λ y e. e) running runs;
    budgets = h.budgets;
    own = h.own;
    later = yet;
  }
    where
      new : Core
      new = record core { running = running; notes = notes }

  -- so of another thread that runs, or in another phase
  pub re_runs : (phase phase' : Phase) (loose : Option Loose) (core : Core) (running : Option Chosen) → ((y : ℕ) → standing_of loose y core ≡ standing_of loose y (record core { running = running })) →
      IsSound system number from phase loose core → RunsRight system phase' running core → IsSound system number from phase' loose (record core { running = running })
  re_runs phase phase' loose core running same h runs = retold from phase phase' loose loose core running core.notes same refl (λ y. refl) h runs h.later

  -- a thread that stands somewhere may be taken to be on its way
  pub loosened : (phase : Phase) (x : ℕ) (s : Standing) (core : Core) → (thread_of core x).standing ≡ s → IsSound system number from phase None core →
      IsSound system number from phase (Some (record { thread = x; standing = s })) core
  loosened phase x s core e h =
      retold from phase phase None (Some (record { thread = x; standing = s })) core core.running core.notes (λ y. sym (its-standing x y s core e)) refl (λ y. refl) h h.running h.later

  -- the state of one thread changes, and its standing as it counts
  pub thread-same : (x y : ℕ) (state : Thread) (core : Core) → x < length core.threads → y ≡ x → thread_of (with_thread x state core) y ≡ state
  thread-same x y state core l e = rw e (get_or-set_same core.threads x state no_state l)

  pub thread-other : (x y : ℕ) (state : Thread) (core : Core) → y ≢ x → thread_of (with_thread x state core) y ≡ thread_of core y
  thread-other x y state core e = get_or-set_other core.threads x y state no_state e

  -- the state of a thread on its way changes
  pub rethreaded : (phase : Phase) (x : ℕ) (s : Standing) (state : Thread) (core : Core) → IsSound system number from phase (Some (record { thread = x; standing = s })) core →
      x < length core.threads → (is_here s ≡ true → state.place.item < length (thread_part system x).script) →
      RunsRight system phase core.running (with_thread x state core) →
      IsSound system number from phase (Some (record { thread = x; standing = s })) (with_thread x state core)
  rethreaded phase x s state core h l item runs = record {
    threads = length-set core.threads x state ∙ h.threads;
    contexts = h.contexts;
    notes = h.notes;
    ready = λ y. h.ready y ∙ ap times_ready (same y);
    pending = λ y. h.pending y ∙ ap times_pending (same y);
    blocked = λ y. h.blocked y ∙ ap times_blocked (same y);
    here = λ y p. placed y (ap is_here (same y) ∙ p) (h.here y (ap is_here (same y) ∙ p));
    early = λ y p. h.early y (ap may_run (same y) ∙ p);
    dates = dates-same system core (with_thread x state core) refl core.releases h.dates;
    running = runs;
    budgets = h.budgets;
    own = h.own;
    later = h.later;
  }
    where
      same : (y : ℕ) → cond (x == y) s (thread_of core y).standing ≡ cond (x == y) s (thread_of (with_thread x state core) y).standing
      same y = grind (arith, nat_tests, thread-other x y state core)

      placed : (y : ℕ) → is_here (cond (x == y) s (thread_of core y).standing) ≡ true → IsPlaced system y core → IsPlaced system y (with_thread x state core)
      placed y q p = record {
        known = p.known;
        item = grind (arith, nat_tests, thread-same x y state core l, thread-other x y state core, item, p.item);
        bound = p.bound;
        has = p.has;
      }

  -- the thread has the standing with which it counted, and is no longer on its way
  pub arrived : (phase : Phase) (x : ℕ) (s : Standing) (state : Thread) (core : Core) → IsSound system number from phase (Some (record { thread = x; standing = s })) core →
      x < length core.threads → state.standing ≡ s → (is_here s ≡ true → state.place.item < length (thread_part system x).script) →
      RunsRight system phase core.running (with_thread x state core) →
      IsSound system number from phase None (with_thread x state core)
  arrived phase x s state core h l e item runs =
      let new : Core = with_thread x state core in
      let stands : (thread_of new x).standing ≡ s = ap (λ (k : Thread). k.standing) (thread-same x x state core l refl) ∙ e in
      retold from phase phase (Some (record { thread = x; standing = s })) None new core.running core.notes (λ y. its-standing x y s new stands) refl (λ y. refl) (rethreaded phase x s state core h l item runs) runs h.later

  -- a running thread other than this one still runs
  pub runs-other : (phase : Phase) (x : ℕ) (state : Thread) (core : Core) (o : Option Chosen) → (thread_of core x).standing ≢ Running → RunsRight system phase o core → RunsRight system phase o (with_thread x state core)
  runs-other phase x state core o n h =
      runs-same system core (with_thread x state core) refl phase
      (λ y e. ap (λ (k : Thread). k.standing) (thread-other x y state core (λ i. n (ap (λ z. (thread_of core z).standing) (sym i) ∙ e))) ∙ e) o h

  -- a context changes: the head of a thread that is bound to it, and that may be chosen or released, is early still
  context-same : (k j : ℕ) (context : Context) (core : Core) → k < length core.contexts → j ≡ k → context_of (with_context k context core) j ≡ context
  context-same k j context core l e = rw e (ap (λ o. unwrap_or o no_server) (get_or-set_same core.contexts k (Some context) None l))

  pub context-other : (k j : ℕ) (context : Context) (core : Core) → j ≢ k → context_of (with_context k context core) j ≡ context_of core j
  context-other k j context core e = ap (λ o. unwrap_or o no_server) (get_or-set_other core.contexts k j (Some context) None e)

  has-context : (k j : ℕ) (context : Context) (core : Core) → k < length core.contexts → has_context k core ≡ true → has_context j (with_context k context core) ≡ has_context j core
  has-context k j context core l h = grind (arith, common_steps)

  -- what a change of context k must keep of its threads' heads
  abbrev pub KeepsEarly : Option Loose → ℕ → Context → Core → Type 0
  KeepsEarly loose k context core =
      (y : ℕ) → (thread_part system y).context ≡ k → (may_run (standing_of loose y core) ≡ true) ⊎ (1 ≤ times_dated y core.releases) →
      head_moment (context_of core k) ≤ 2 ^ 40 → head_moment context ≤ 2 ^ 40

  pub recontexted : (phase : Phase) (k : ℕ) (loose : Option Loose) (context : Context) (core : Core) → IsSound system number from phase loose core →
      has_context k core ≡ true → k < length core.contexts → IsContextOf system k context → KeepsEarly loose k context core →
      RunsRight system phase core.running (with_context k context core) →
      IsSound system number from phase loose (with_context k context core)
  recontexted phase k loose context core h has l budget keeps runs = record {
    threads = h.threads;
    contexts = length-set core.contexts k (Some context) ∙ h.contexts;
    notes = h.notes;
    ready = λ y. h.ready y ∙ ap times_ready (stands loose y);
    pending = λ y. h.pending y ∙ ap times_pending (stands loose y);
    blocked = λ y. h.blocked y ∙ ap times_blocked (stands loose y);
    here = λ y p. placed y (h.here y (ap is_here (stands loose y) ∙ p));
    early = λ y p. early_is y (inl (ap may_run (stands loose y) ∙ p)) (h.early y (ap may_run (stands loose y) ∙ p));
    dates = dates_are core.releases (λ y. omega arith) h.dates;
    running = runs;
    budgets = λ j p. budget_is j (j == k) refl (sym (has-context k j context core l has) ∙ p);
    own = λ j p. has-context k j context core l has ∙ h.own j p;
    later = h.later;
  }
    where
      stands : (o : Option Loose) (y : ℕ) → standing_of o y core ≡ standing_of o y (with_context k context core)
      stands None y = refl
      stands (Some loose) y = refl

      placed : (y : ℕ) → IsPlaced system y core → IsPlaced system y (with_context k context core)
      placed y p = record { known = p.known; item = p.item; bound = p.bound; has = has-context k (thread_part system y).context context core l has ∙ p.has }

      early_is : (y : ℕ) → (may_run (standing_of loose y core) ≡ true) ⊎ (1 ≤ times_dated y core.releases) → IsEarly system y core → IsEarly system y (with_context k context core)
      early_is y may old = elim (cases_eq (thread_part system y).context k) [
        | inl e ↦
            let g : head_moment (context_of core k) ≤ 2 ^ 40 = let P : ℕ → Type 0 = λ n. head_moment (context_of core n) ≤ 2 ^ 40 in subst P e old in
            rw (context-same k (thread_part system y).context context core l e) (keeps y e may g)
        | inr ne ↦ rw (context-other k (thread_part system y).context context core ne) old
      ]

      dates_are : (ds : List Dated) → ((y : ℕ) → times_dated y ds ≤ times_dated y core.releases) → AreEarly system core ds → AreEarly system (with_context k context core) ds
      dates_are [] m p = tt
      dates_are (z ∷ ds) m p = (λ d. early_is z.thread (inr (one z.thread (times_dated z.thread ds) (times_dated z.thread core.releases) (m z.thread))) (p.0 d), dates_are ds (λ y. omega (arith, m y)) p.1)
        where
          one : (a n k : ℕ) → cond (a == a) 1 0 + n ≤ k → 1 ≤ k
          one a n k h = grind (arith, nat_tests)

      budget_is : (j : ℕ) (t : Bool) → (j == k) ≡ t → has_context j core ≡ true → IsContextOf system j (context_of (with_context k context core) j)
      budget_is j true e p =
          let f : j ≡ k = grind (arith, nat_tests) in
          rw (context-same k j context core l f) (rw f budget)
      budget_is j false e p =
          let f : j ≢ k = grind (arith, nat_tests) in
          rw (context-other k j context core f) (h.budgets j p)

  -- the head stays early
  pub keeps_if : (loose : Option Loose) (k : ℕ) (context : Context) (core : Core) → (head_moment (context_of core k) ≤ 2 ^ 40 → head_moment context ≤ 2 ^ 40) → KeepsEarly loose k context core
  keeps_if loose k context core h y e m old = h old

  -- no thread that may be chosen or released is bound to it: it is that of a thread on its way
  pub keeps_alone : (phase : Phase) (x : ℕ) (s : Standing) (context : Context) (core : Core) → IsOneEach system → IsSound system number from phase (Some (record { thread = x; standing = s })) core →
      x < length system.threads → may_run s ≡ false → times_pending s ≡ 0 →
      KeepsEarly (Some (record { thread = x; standing = s })) (thread_part system x).context context core
  keeps_alone phase x s context core each h known still away y e m old =
      let placed : is_here (cond (x == y) s (thread_of core y).standing) ≡ true → y < length system.threads = λ q. (h.here y q).known in
      absurd (grind (arith, nat_tests, h.pending y, placed, each x y known))

  -- the running thread, when another thread's context changes
  pub runs-context : (phase : Phase) (k : ℕ) (context : Context) (core : Core) (o : Option Chosen) →
      ((chosen : Chosen) → o ≡ Some chosen → (thread_part system chosen.thread).context ≢ k) → RunsRight system phase o core → RunsRight system phase o (with_context k context core)
  runs-context phase k context core None n h = tt
  runs-context phase k context core (Some chosen) n h =
      let e = context-other k (thread_part system chosen.thread).context context core (n chosen refl) in
      record { stands = h.stands; used = h.used; unspent = rw e h.unspent; early = rw e h.early }
