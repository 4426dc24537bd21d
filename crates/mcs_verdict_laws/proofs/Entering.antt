-- The thread itself enters, stops, and goes through its script.
use Rattle.std.proofs.Common.{◌≡◌, ℕ, ◌+◌, ◌<◌, ◌≤◌, ◌⊎◌, inl, inr, Bool, true, false, cond, ◌==◌, length, Option, Some, None, refl, sym, ap, ◌∙◌, arith}
use Rattle.std.proofs.lemmas.Bool.Decides.{nat_tests}
use Rattle.std.proofs.lemmas.List.{get_or-set_same}
use Rattle.std.proofs.Math.ListN.{length-set}
use Rattle.mcs_ticks.specs.Queue.{by_priority}
use Rattle.mcs_ticks.specs.declared.row.What.{What}
use Rattle.mcs_ticks.specs.declared.row.What.TheVariants as row
use Rattle.mcs_ticks.specs.declared.row.Why.{Why}
use Rattle.mcs_ticks.specs.declared.row.Why.TheVariants as why
use Rattle.mcs_control.specs.Context.{head_amount}
use Rattle.mcs_system.specs.System.{System}
use Rattle.mcs_core.specs.declared.standing.AfterItem.{AfterItem}
use Rattle.mcs_core.specs.declared.standing.AfterItem.TheVariants as after
use Rattle.mcs_core.specs.declared.standing.Standing as core_standing
use Rattle.mcs_core.specs.declared.standing.Thread.{Thread}
use Rattle.mcs_core.specs.Core.{Core, no_state, thread_of, with_thread, stands, off}
use Rattle.mcs_core.specs.Places.{times_queued, times_dated}
use Rattle.mcs_core.specs.Turn as turns
use Rattle.mcs_core.specs.Turn.{Turn, silent, says, ◌followed_by◌, each}
use Rattle.mcs_core.proofs.Counts.{times_queued-back, times_queued-front, times_dated-append}
use Rattle.mcs_verdict.specs.declared.standing.Standing.{Standing}
use Rattle.mcs_verdict.specs.declared.standing.Standing.TheVariants.{Pending, Ready, Running, Throttled, Blocked, AtServer, Done}
use Rattle.mcs_verdict.specs.Rounds.{begun_at, begun_by_word, begun_after}
use Rattle.mcs_verdict.specs.Standing.{standing_until, standing_stopped}
use Rattle.mcs_verdict_laws.proofs.Steps.{TakesAt, told_of, First, EndsAfter, Turns, Passes, Step}
use Rattle.mcs_verdict_laws.proofs.Holds.{beginning_of, first, start_at, IsUnderWay, IsStarted, Holds, Loose, same-context, holds-same, Goes, goes_if}

pub self : (x : ℕ) → (x == x) ≡ true
self x = grind (arith, nat_tests)

pub equal : (a b : ℕ) → (a == b) ≡ true → a ≡ b
equal a b e = grind (arith, nat_tests)

-- a stop after which the thread enters again
pub record IsPlain (x : ℕ) (first : First) (t : ℕ) (cause : Why) : Type 0 where
  pub standing : (date : Option ℕ) → standing_until date ≡ standing_stopped cause date
  pub begun : (n : ℕ) (date begun : Option ℕ) → begun ≡ begun_after first.waits first.bits x t (row.Stop x cause n date) begun
  pub ended : (before : Option What) (n : ℕ) (date : Option ℕ) → EndsAfter x before (row.Stop x cause n date)

module _ (x : ℕ) (first : First) (t : ℕ) where
  pub plain_spent : IsPlain x first t why.Spent
  plain_spent = record { standing = λ date. refl; begun = λ n date begun. refl; ended = λ before n date. tt }

  pub plain_yield : IsPlain x first t why.Yield
  plain_yield = record { standing = λ date. refl; begun = λ n date begun. refl; ended = λ before n date. tt }

  pub plain_preempt : IsPlain x first t why.Preempt
  plain_preempt = record { standing = λ date. refl; begun = λ n date begun. refl; ended = λ before n date. tt }

  pub plain_order : IsPlain x first t why.Order
  plain_order = record { standing = λ date. refl; begun = λ n date begun. refl; ended = λ before n date. tt }

  -- steps of the thread itself
  passes_own : (b : Bool) (before after : Standing) (what : What) → b ≡ true → Turns before what after → Passes b before what after
  passes_own true before after what e h = h
  passes_own false before after what e h = absurd (let g : false ≡ true = e in cc)

  pub step-stop : (n : ℕ) (cause : Why) (date : Option ℕ) (standing : Standing) (begun ended : Option ℕ) → standing ≡ standing_stopped cause date
      → ended ≡ begun_after first.waits first.bits x t (row.Stop x cause n date) begun
      → Step x first t (told_of Running begun) (row.Stop x cause n date) (told_of standing ended)
  step-stop n cause date standing begun ended e f =
      record {
        passes = passes_own (x == x) Running standing (row.Stop x cause n date) (self x) (refl, e);
        begins = f;
        timed = tt;
        alive = λ g. absurd (cc);
        allows = tt;
        takes = tt;
      }

  pub step-round : (number response beginning : ℕ) (begun : Option ℕ) → begun ≡ Some beginning → t ≡ beginning + response
      → Step x first t (told_of Running begun) (row.Round x number response) (told_of Running (begun_at first.waits t))
  step-round number response beginning begun e f =
      record {
        passes = refl;
        begins = sym (ap (λ b. cond b (begun_at first.waits t) begun) (self x));
        timed = λ g. (beginning, e, f);
        alive = λ g. absurd (cc);
        allows = λ g. refl;
        takes = tt;
      }

  pub step-got : (note word : ℕ) (begun : Option ℕ) → (begun ≡ None → first.waits ≡ Some note) → TakesAt first.script note begun
      → Step x first t (told_of Running begun) (row.Got x note word) (told_of Running (begun_by_word first.waits first.bits note word t begun))
  step-got note word begun taken place =
      record {
        passes = refl;
        begins = sym (ap (λ b. cond b (begun_by_word first.waits first.bits note word t begun) begun) (self x));
        timed = tt;
        alive = λ g. absurd (cc);
        allows = λ g. refl;
        takes = λ own. (taken, place);
      }

  pub step-wake : (note word : ℕ) (standing : Standing) (date begun : Option ℕ) → (standing ≡ Blocked) ⊎ (standing ≡ AtServer)
      → (begun ≡ None → first.waits ≡ Some note)
      → Step x first t (told_of standing begun) (row.Wake x note word date)
      (told_of (standing_until date) (begun_by_word first.waits first.bits note word t begun))
  step-wake note word standing date begun h taken =
      record {
        passes = passes_own (x == x) standing (standing_until date) (row.Wake x note word date) (self x) (h, refl);
        begins = sym (ap (λ b. cond b (begun_by_word first.waits first.bits note word t begun) begun) (self x));
        timed = tt;
        alive = λ g. absurd (by h g);
        allows = tt;
        takes = λ own. taken;
      }
    where
      by : (standing ≡ Blocked) ⊎ (standing ≡ AtServer) → standing ≡ Done → ⊥
      by (inl e) g = let f : Blocked ≡ Done = sym e ∙ g in cc
      by (inr e) g = let f : AtServer ≡ Done = sym e ∙ g in cc

  pub step-run : (begun : Option ℕ) → Step x first t (told_of Ready begun) (row.Run x) (told_of Running begun)
  step-run begun =
      record {
        passes = passes_own (x == x) Ready Running (row.Run x) (self x) (refl, refl);
        begins = refl;
        timed = tt;
        alive = λ g. absurd (cc);
        allows = tt;
        takes = tt;
      }

  pub step-release : (standing : Standing) (begun : Option ℕ) → (standing ≡ Pending) ⊎ (standing ≡ Throttled)
      → (standing ≡ Pending → t ≡ first.start)
      → Step x first t (told_of standing begun) (row.Release x) (told_of Ready begun)
  step-release standing begun h early =
      record {
        passes = passes_own (x == x) standing Ready (row.Release x) (self x) (h, refl);
        begins = refl;
        timed = tt;
        alive = λ g. absurd (by h g);
        allows = λ own. early;
        takes = tt;
      }
    where
      by : (standing ≡ Pending) ⊎ (standing ≡ Throttled) → standing ≡ Done → ⊥
      by (inl e) g = let f : Pending ≡ Done = sym e ∙ g in cc
      by (inr e) g = let f : Throttled ≡ Done = sym e ∙ g in cc

module _ (system : System) (x : ℕ) where
  -- the state of the thread changes
  pub under-thread : (begun : Option ℕ) (state : Thread) (k : Core) → x < length system.threads → x < length k.threads
      → length k.notes ≡ length system.notes
      → begun ≡ beginning_of (first system x).waits state.place.item state.since → IsUnderWay system x begun (with_thread x state k)
  under-thread begun state k known has notes e =
      record {
        known = known;
        has = let l = length-set k.threads x state in omega arith;
        notes = notes;
        begins = e ∙ ap (λ (s : Thread). beginning_of (first system x).waits s.place.item s.since) (sym (get_or-set_same k.threads x state no_state has));
      }

  pub started-thread : (now : ℕ) (state : Thread) (k : Core) → x < length k.threads → start_at system x ≤ now → state.since ≤ now
      → IsStarted system x now (with_thread x state k)
  started-thread now state k has start since =
      let e = ap (λ (s : Thread). s.since) (get_or-set_same k.threads x state no_state has) in
      record { start = start; since = omega arith }

  -- it stands otherwise
  pub under-stands : (begun : Option ℕ) (standing : core_standing.Standing) (k : Core) → IsUnderWay system x begun k
      → IsUnderWay system x begun (stands x standing k)
  under-stands begun standing k u = under-thread begun (record (thread_of k x) { standing = standing }) k u.known u.has u.notes u.begins

  pub started-stands : (now : ℕ) (standing : core_standing.Standing) (k : Core) → x < length k.threads → IsStarted system x now k
      → IsStarted system x now (stands x standing k)
  started-stands now standing k has s = started-thread now (record (thread_of k x) { standing = standing }) k has s.start s.since

  one_self : (n : ℕ) → n ≡ 0 → cond (x == x) 1 0 + n ≡ 1
  one_self n e = ap (λ b. cond b 1 0 + n) (self x) ∙ omega arith

  -- it enters
  pub enters-back : (from now : ℕ) (date begun : Option ℕ) (k : Core) → Loose system x now begun k
      → Holds system x from now (told_of (standing_until date) begun) (turns.enters_back by_priority x date k)
  enters-back from now None begun k l =
      let under = under-stands begun core_standing.TheVariants.Ready k l.under in
      let started = started-stands now core_standing.TheVariants.Ready k l.under.has l.started in
      record {
        runs = l.runs;
        ready = times_queued-back x (turns.queued x k) k.ready ∙ one_self (times_queued x k.ready) l.ready;
        dated = l.dated;
        waits = l.waits;
        own = (
          record { known = under.known; has = under.has; notes = under.notes; begins = under.begins },
          record { start = started.start; since = started.since },
        );
      }
  enters-back from now (Some date) begun k l =
      let under = under-stands begun core_standing.TheVariants.Pending k l.under in
      let started = started-stands now core_standing.TheVariants.Pending k l.under.has l.started in
      record {
        runs = l.runs;
        ready = l.ready;
        dated = times_dated-append x k.releases (record { thread = x; date = date }) ∙ one_self (times_dated x k.releases) l.dated;
        waits = l.waits;
        own = (
          record { known = under.known; has = under.has; notes = under.notes; begins = under.begins },
          record { start = started.start; since = started.since },
        );
      }

  pub enters-front : (from now : ℕ) (date begun : Option ℕ) (k : Core) → Loose system x now begun k
      → Holds system x from now (told_of (standing_until date) begun) (turns.enters_front by_priority x date k)
  enters-front from now None begun k l =
      let under = under-stands begun core_standing.TheVariants.Ready k l.under in
      let started = started-stands now core_standing.TheVariants.Ready k l.under.has l.started in
      record {
        runs = l.runs;
        ready = times_queued-front x (turns.queued x k) k.ready ∙ one_self (times_queued x k.ready) l.ready;
        dated = l.dated;
        waits = l.waits;
        own = (
          record { known = under.known; has = under.has; notes = under.notes; begins = under.begins },
          record { start = started.start; since = started.since },
        );
      }
  enters-front from now (Some date) begun k l =
      let under = under-stands begun core_standing.TheVariants.Pending k l.under in
      let started = started-stands now core_standing.TheVariants.Pending k l.under.has l.started in
      record {
        runs = l.runs;
        ready = l.ready;
        dated = times_dated-append x k.releases (record { thread = x; date = date }) ∙ one_self (times_dated x k.releases) l.dated;
        waits = l.waits;
        own = (
          record { known = under.known; has = under.has; notes = under.notes; begins = under.begins },
          record { start = started.start; since = started.since },
        );
      }

  -- the running thread leaves the core
  pub loose-off : (from now : ℕ) (begun : Option ℕ) (k : Core) → Holds system x from now (told_of Running begun) k → Loose system x now begun (off k)
  loose-off from now begun k h =
      record {
        runs = refl;
        ready = h.ready;
        dated = h.dated;
        waits = h.waits;
        under = record { known = h.own.0.known; has = h.own.0.has; notes = h.own.0.notes; begins = h.own.0.begins };
        started = record { start = h.own.1.start; since = h.own.1.since };
      }

  -- and enters again
  pub leaves-goes : (from t n : ℕ) (cause : Why) (begun : Option ℕ) (enters : ℕ → Option ℕ → Core → Core) (k : Core)
      → IsPlain x (first system x) t cause
      → ((date : Option ℕ) (core : Core) → Loose system x t begun core → Holds system x from t (told_of (standing_until date) begun) (enters x date core))
      → Holds system x from t (told_of Running begun) k
      → Goes system x from t (told_of Running begun) (turns.leaves by_priority system t enters x cause n k)
  leaves-goes from t n cause begun enters k plain enter h =
      let date = turns.date_of system t x k in
      record {
        last = told_of (standing_until date) begun;
        walks = (
          told_of (standing_until date) begun,
          step-stop x (first system x) t n cause date (standing_until date) begun begun (plain.standing date) (plain.begun n date begun),
          refl,
        );
        holds = enter date (off k) (loose-off from t begun k h);
        ended = λ before. (plain.ended before n date, tt);
      }

  pub stops_to_back-goes : (from t n : ℕ) (cause : Why) (begun : Option ℕ) (k : Core) → IsPlain x (first system x) t cause
      → Holds system x from t (told_of Running begun) k
      → Goes system x from t (told_of Running begun) (turns.stops_to_back by_priority system t x cause n k)
  stops_to_back-goes from t n cause begun k plain h =
      leaves-goes from t n cause begun (turns.enters_back by_priority) (turns.charged system x n k) plain
      (λ date core l. enters-back from t date begun core l)
      (holds-same system x from t (told_of Running begun) k (turns.charged system x n k) (same-context system x _ _ k) h)

  pub stops_to_front-goes : (from t n : ℕ) (cause : Why) (begun : Option ℕ) (k : Core) → IsPlain x (first system x) t cause
      → Holds system x from t (told_of Running begun) k
      → Goes system x from t (told_of Running begun) (turns.stops_to_front by_priority system t x cause n k)
  stops_to_front-goes from t n cause begun k plain h =
      leaves-goes from t n cause begun (turns.enters_front by_priority) k plain (λ date core l. enters-front from t date begun core l) h

  spent-goes : (from t using : ℕ) (begun : Option ℕ) (k : Core) → Holds system x from t (told_of Running begun) k
      → Goes system x from t (told_of Running begun) (turns.may_stop by_priority system t x using after.GoesOn k)
  spent-goes from t using begun k h =
      goes_if system x from t (told_of Running begun) (using == head_amount (turns.its_context system x k))
      (turns.stops_to_back by_priority system t x why.Spent using k)
      (silent k)
      (stops_to_back-goes from t using why.Spent begun k (plain_spent x (first system x) t) h)
      record { last = told_of Running begun; walks = refl; holds = h; ended = λ before. tt }

  -- what may follow an item if the thread neither ends nor blocks
  abbrev pub IsCalm : AfterItem → Type 0
  IsCalm after.GoesOn = Unit {0}
  IsCalm after.Yields = Unit {0}
  IsCalm after.Ends = ⊥
  IsCalm after.Blocks = ⊥
  IsCalm after.Calls = ⊥

  pub calm-goes : (cause : AfterItem) → IsCalm cause → (from t using : ℕ) (begun : Option ℕ) (k : Core)
      → Holds system x from t (told_of Running begun) k
      → Goes system x from t (told_of Running begun) (turns.may_stop by_priority system t x using cause k)
  calm-goes after.GoesOn calm from t using begun k h = spent-goes from t using begun k h
  calm-goes after.Yields calm from t using begun k h =
      stops_to_back-goes from t (head_amount (turns.its_context system x k)) why.Yield begun k (plain_yield x (first system x) t) h
  calm-goes after.Ends calm from t using begun k h = absurd calm
  calm-goes after.Blocks calm from t using begun k h = absurd calm
  calm-goes after.Calls calm from t using begun k h = absurd calm
