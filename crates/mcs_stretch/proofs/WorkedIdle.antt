-- Idle time of a small system, worked by hand: it is said of the one list of ready threads.
use native.Mathlib.Omega.{arith}
use Rattle.std.proofs.Common.{sym, ap, subst, ◌∙◌}
use Rattle.std.specs.Prelude.{◌≡◌, ◌<◌, ℕ, zero, suc, List, [], ◌∷◌, Some, None, refl}
use Rattle.mcs_ticks.specs.declared.queue.Queued.{Queued}
use Rattle.mcs_ticks.specs.declared.row.What.{What}
use Rattle.mcs_ticks.specs.declared.row.What.TheVariants as row
use Rattle.mcs_ticks.specs.declared.row.Why.TheVariants as why
use Rattle.mcs_control.specs.declared.config.Mode.TheVariants as mode
use Rattle.mcs_mail.specs.declared.mail.Mail.{Mail}
use Rattle.mcs_script.specs.declared.item.Item.TheVariants.{Compute}
use Rattle.mcs_system.specs.declared.part.ContextPart.{ContextPart}
use Rattle.mcs_system.specs.declared.part.ThreadPart.{ThreadPart}
use Rattle.mcs_system.specs.System.{System}
use Rattle.mcs_core.specs.declared.standing.Standing.{Standing}
use Rattle.mcs_core.specs.declared.standing.Standing.TheVariants.{Elsewhere, Ready, Running}
use Rattle.mcs_core.specs.declared.standing.Thread.{Thread}
use Rattle.mcs_core.specs.Core.{Core, opening_core}
use Rattle.mcs_core.specs.Clock.{world, core_at, core_shown}
use Rattle.mcs_core.specs.Quiet.{AreQuiet, IsQuiet, counted_times}
use Rattle.mcs_core.specs.Turn.{Turn, silent}
use Rattle.mcs_stretch.specs.Inbox.{inbox}
use Rattle.mcs_stretch.specs.Idle.{AreIdle, IsIdleUntil}

-- 5 in 10 on this core, and a thread that computes once on such a context
abbrev context_on : ℕ → ContextPart
context_on core = record { name = []; core = core; config = record { budget = 5; period = 10; extra = 0 }; mode = mode.Sporadic }

abbrev computes : ℕ → ℕ → ℕ → ℕ → ThreadPart
computes context priority start ticks =
    record { name = []; context = context; priority = priority; start = start; rounds = 1; deadline = 0; script = Compute ticks ∷ [] }

-- On core 0 a thread of priority 9 runs from 0 to 4; one of priority 1 is released at 1, and one of priority 5 at 2. On core 1 a thread
-- starts at 6.
abbrev two : System
two =
    record {
      cores = 2;
      delay = 2;
      call = 1;
      min_budget = 1;
      contexts = context_on 0 ∷ context_on 0 ∷ context_on 0 ∷ context_on 1 ∷ [];
      notes = [];
      threads = computes 0 9 0 4 ∷ computes 1 1 1 1 ∷ computes 2 5 2 1 ∷ computes 3 5 6 1 ∷ [];
      orders = [];
      links = [];
      servers = 0;
      sources = [];
      beats = [];
      chains = [];
    }

abbrev clocks : List ℕ
clocks = 3 ∷ 3 ∷ []

abbrev queued : ℕ → ℕ → Queued
queued thread priority = record { thread = thread; priority = priority }

-- a thread in its first round, which began then
abbrev stands_so : Standing → ℕ → ℕ → ℕ → Thread
stands_so standing left since priority =
    record { standing = standing; place = record { round = 1; item = 0; left = left; word = 0; priority = priority }; since = since }

-- Before moment 3 the first thread has run for 2 ticks, and the other two are in order of entering; their core's state shows them by
-- priority, the other way round.
abbrev first : Core
first =
    record (opening_core two 0) {
      running = Some (record { thread = 0; using = 2 });
      threads = stands_so Running 2 0 9 ∷ stands_so Ready 1 1 1 ∷ stands_so Ready 1 2 5 ∷ stands_so Elsewhere 1 6 5 ∷ [];
      ready = queued 1 1 ∷ queued 2 5 ∷ [];
      releases = [];
    }

first_is : core_at two (world two 3) 0 ≡ first
first_is = refl

by_priority : (core_shown two (world two 3) 0).ready ≡ queued 2 5 ∷ queued 1 1 ∷ []
by_priority = refl

second_is : core_at two (world two 3) 1 ≡ opening_core two 1
second_is = refl

first_counts : AreQuiet two 0 3 [] first 1
first_counts zero l = refl
first_counts (suc n) l = absurd (omega arith)

second_counts : AreQuiet two 1 3 [] (opening_core two 1) 1
second_counts zero l = refl
second_counts (suc n) l = absurd (omega arith)

no_mail : (c : ℕ) → c < 2 → inbox two c 3 clocks ≡ []
no_mail zero l = refl
no_mail (suc zero) l = refl
no_mail (suc (suc c)) l = absurd (omega arith)

-- both cores only count a tick from 3 to 4 ..
count_to_4 : AreIdle two clocks 4
count_to_4 zero l =
    let P : List Mail → Core → Type 0 = λ box core. AreQuiet two 0 3 box core 1 in
    subst (λ box. P box (core_at two (world two 3) 0)) (sym (no_mail 0 (omega arith))) (subst (P []) (sym first_is) first_counts)
count_to_4 (suc zero) l =
    let P : List Mail → Core → Type 0 = λ box core. AreQuiet two 1 3 box core 1 in
    subst (λ box. P box (core_at two (world two 3) 1)) (sym (no_mail 1 (omega arith))) (subst (P []) (sym second_is) second_counts)
count_to_4 (suc (suc c)) l = absurd (omega arith)

tells : (made : Turn) (after : Core) (what : What) (others : List What) → made.rows ≡ what ∷ others → made ≡ silent after → ⊥
tells made after what others told quiet =
    let none : what ∷ others ≡ [] = sym told ∙ ap (λ (made : Turn). made.rows) quiet in cc

-- .. and at 4 the first thread's round ends
first_ends : IsQuiet two 0 4 [] (counted_times two 0 1 first) → ⊥
first_ends quiet = tells _ _ (row.Round 0 1 4) (row.Stop 0 why.Done 4 None ∷ row.Run 2 ∷ []) refl quiet

two_counts : AreQuiet two 0 3 [] first 2 → ⊥
two_counts quiet = first_ends (quiet 1 (omega arith))

idle_until_4 : IsIdleUntil two clocks 9 4
idle_until_4 =
    record {
      in_time = omega arith;
      idle = count_to_4;
      busy = λ early all.
          let P : List Mail → Core → Type 0 = λ box core. AreQuiet two 0 3 box core 2 in
          two_counts (subst (P []) first_is (subst (λ box. P box (core_at two (world two 3) 0)) (no_mail 0 (omega arith)) (all 0 (omega arith))));
    }
