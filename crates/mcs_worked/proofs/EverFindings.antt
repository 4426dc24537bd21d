-- Worked systems that recur in their findings. In the first one H has 2 ticks of 4, and L has the
-- rest. L's rounds of 3 ticks end at 7, 12, 19 and 24, 12 ticks later at 31 and 36, and so on, each
-- after 7 or 5 ticks.
use Rattle.std.proofs.Common.{◌≡◌, ℕ, zero, suc, ◌+◌, ◌^◌, ◌<◌, ◌≤◌, ◌⊎◌, inl, inr, Bool, true, false, [], ◌∷◌, get_or, map, refl, sym, ap, subst, ◌∙◌, Some, None, arith}
use Rattle.std.specs.Prelude.{◌==◌, filter, ◌||◌, not, nat_le}
use Rattle.std.specs.List.{AllByRecursion}
use Rattle.std.proofs.lemmas.Bool.Decides.{nat_tests}
use Rattle.mcs_control.specs.declared.config.Mode.TheVariants.{Sporadic}
use Rattle.mcs_control.specs.Context.Budget.{Dates}
use Rattle.mcs_script.specs.declared.item.Item.TheVariants.{Compute, Signal}
use Rattle.mcs_system.specs.System.{System, thread_part}
use Rattle.mcs_system.specs.WellFormed.{IsWellFormed}
use Rattle.mcs_core.specs.Core.{Core}
use Rattle.mcs_core.specs.Clock.{turn_of, world, core_shown}
use Rattle.mcs_core.specs.declared.standing.Standing.TheVariants.{Pending}
use Rattle.mcs_verdict.specs.declared.account.Account.{Account}
use Rattle.mcs_verdict.specs.declared.held.Held.{Held}
use Rattle.mcs_verdict.specs.declared.job.Job.{Job}
use Rattle.mcs_verdict.specs.declared.finding.Finding.TheVariants.{Miss, Lost}
use Rattle.mcs_verdict.specs.declared.standing.Standing.{Standing}
use Rattle.mcs_verdict.specs.declared.standing.Standing.TheVariants.{Ready, Running, Throttled}
use Rattle.mcs_verdict.specs.declared.standing.Stood.{Stood}
use Rattle.mcs_verdict.specs.Later.{later_account, without_total}
use Rattle.mcs_ever.specs.Later.{KeepsUp, later_core, later_mail}
use Rattle.mcs_ever.specs.Recurs.{Shifts, shift_of, is_for}
use Rattle.mcs_ever.specs.laws.Repeats.{EndsNoRound}
use Rattle.mcs_ever.proofs.Worked.{worked, shifts, all, recurs, only, ended, at_rest, rests}
use Rattle.mcs_ever_found.specs.Later.{later_found}
use Rattle.mcs_ever_found.specs.Recurs.{FindingsRecur, ThreadIsLater, TakesNoWord, watch_before}
use Rattle.mcs_ever_found.specs.laws.GoOn.{never_up_to, ThreadGoesOn}
use Rattle.mcs_ever_found.specs.laws.Never.{IsInTime}
use Rattle.mcs_ever_found.specs.laws.Repeats.{found_at_moment, found_up_to, later_job_of, jobs_at_moment, jobs_up_to}
use Rattle.mcs_ever_found.proofs.Findings.{findings-repeat, nothing-is-found, jobs-repeat, job-tests-are-forever}
use Rattle.mcs_ever_found.proofs.Threads.{threads-go-on}

-- a period that ends early enough
pub soon : (n : ℕ) → nat_le n (2 ^ 41) ≡ true → n ≤ 2 ^ 41
soon n e = least n (2 ^ 41) e
  where
    least : (a b : ℕ) → nat_le a b ≡ true → a ≤ b
    least a b e = grind (arith, nat_tests)

abbrev parts : ℕ → ℕ → ℕ → Stood
parts ready running throttled = record { pending = 0; ready = ready; running = running; throttled = throttled; blocked = 0; server = 0; done = 0 }

-- the account of a thread whose round began then, and whose latest row came then, but for the ticks
-- since time 0
abbrev account : ℕ → Standing → ℕ → ℕ → ℕ → Stood → Account
account deadline standing since began preemptions stood =
    record {
      deadline = deadline;
      waits = None;
      bits = Some 0;
      standing = standing;
      since = since;
      free = began;
      rounds = 0;
      begun = Some began;
      called = None;
      active = None;
      preemptions = preemptions;
      stood = stood;
      total = parts 0 0 0;
    }

abbrev kept : System → ℕ → ℕ → Account → Account
kept system t x d = without_total (get_or (watch_before system t).accounts x d)

-- H has just been chosen, after it had waited 2 ticks for its budget, in a round that is yet to be
-- activated; the head of L's refills was exhausted when its round began, and the next had come
H-13 : (deadline : ℕ) (d : Account) → kept (worked deadline) 13 0 d ≡ account 4 Running 12 10 0 (parts 0 0 0)
H-13 deadline d = refl

H-25 : (deadline : ℕ) (d : Account) → kept (worked deadline) 25 0 d ≡ account 4 Running 24 22 0 (parts 0 0 0)
H-25 deadline d = refl

L-13 : (deadline : ℕ) (d : Account) → kept (worked deadline) 13 1 d ≡ account deadline Ready 12 12 0 (parts 0 0 0)
L-13 deadline d = refl

L-25 : (deadline : ℕ) (d : Account) → kept (worked deadline) 25 1 d ≡ account deadline Ready 24 24 0 (parts 0 0 0)
L-25 deadline d = refl

-- their accounts before 25 are those before 13, but later
later : (deadline x : ℕ) → x < 2 → ThreadIsLater (worked deadline) 12 13 x
later deadline zero l d = H-25 deadline d ∙ ap (later_account 12) (sym (H-13 deadline d))
later deadline (suc zero) l d = L-25 deadline d ∙ ap (later_account 12) (sym (L-13 deadline d))
later deadline (suc (suc x)) l d = absurd (omega (arith, l))

started : (deadline x : ℕ) → x < 2 → (thread_part (worked deadline) x).start ≤ 13
started deadline zero l = omega arith
started deadline (suc zero) l = omega arith
started deadline (suc (suc x)) l = absurd (omega (arith, l))

pub findings-recur : (deadline : ℕ) → FindingsRecur (worked deadline) all shifts 13
findings-recur deadline =
    record {
      recurs = recurs deadline;
      near = soon _ refl;
      started = λ x known own. started deadline x known;
      threads = λ x known own. inl (later deadline x known);
      words = λ n known own. absurd (omega (arith, known));
      taken = λ n known own. absurd (omega (arith, known));
    }

-- every other round of L misses a deadline of 6
third : found_at_moment (worked 6) all 19 ≡ record { moment = 19; core = 0; finding = Miss 1 3 7 6 12 0 (parts 4 3 0) } ∷ []
third = refl

fourth : found_at_moment (worked 6) all 24 ≡ []
fourth = refl

fifth : found_at_moment (worked 6) all 31 ≡ record { moment = 31; core = 0; finding = Miss 1 5 7 6 24 0 (parts 4 3 0) } ∷ []
fifth = refl

-- with a deadline of 7 there is no finding before 25, and therefore none for ever
pub nothing : IsWellFormed (worked 7) → (horizon : ℕ) → found_up_to (worked 7) all horizon ≡ []
nothing well horizon = nothing-is-found (worked 7) all shifts 13 well (findings-recur 7) refl horizon

-- neither H nor L is ever overdue: each ends a round in the period
goes : IsWellFormed (worked 7) → (x : ℕ) → x < 2 → ThreadGoesOn (worked 7) 12 13 x
goes well x l = threads-go-on (worked 7) all shifts 13 well (findings-recur 7) x l refl

pub in-time : IsWellFormed (worked 7) → (x : ℕ) → x < 2 → (horizon : ℕ) → IsInTime (worked 7) horizon x
in-time well zero l horizon = (goes well 0 l).in_time refl refl horizon
in-time well (suc zero) l horizon = (goes well 1 l).in_time refl refl horizon
in-time well (suc (suc x)) l horizon = absurd (omega (arith, l))

-- and each was activated by the end of the period
pub activated : IsWellFormed (worked 7) → (x : ℕ) → x < 2 → (horizon : ℕ) → 24 ≤ horizon → never_up_to (worked 7) horizon x ≡ None
activated well zero l horizon m = (goes well 0 l).never horizon (omega (arith, m))
activated well (suc zero) l horizon m = (goes well 1 l).never horizon (omega (arith, m))
activated well (suc (suc x)) l horizon m = absurd (omega (arith, l))

-- a thread that is done ends no round, and none of it is under way
at-rest : FindingsRecur ended all at_rest 2
at-rest =
    record {
      recurs = rests;
      near = soon _ refl;
      started = λ x known own. let P : ℕ → Type 0 = λ x. (thread_part ended x).start ≤ 2 in subst P (only x known) (omega arith);
      threads = λ x known own. inr (let P : ℕ → Type 0 = λ x. EndsNoRound ended x 2 3 in subst P (only x known) (refl, (refl, (refl, (refl, tt)))));
      words = λ n known own. absurd (omega (arith, known));
      taken = λ n known own. absurd (omega (arith, known));
    }

pub done-in-time : IsWellFormed ended → (horizon : ℕ) → IsInTime ended horizon 0
done-in-time well horizon = (threads-go-on ended all at_rest 2 well at-rest 0 (omega arith) refl).in_time refl refl horizon

-- the round of L that ends at 19 recurs at 31, with the same parts
third-job : jobs_at_moment (worked 7) all 19
    ≡ record { thread = 1; number = 3; activated = 12; begun = 12; ended = 19; response = 7; queued = 0; preemptions = 1; stood = parts 4 3 0 } ∷ []
third-job = refl

fifth-job : IsWellFormed (worked 7) → jobs_at_moment (worked 7) all 31
    ≡ record { thread = 1; number = 5; activated = 24; begun = 24; ended = 31; response = 7; queued = 0; preemptions = 1; stood = parts 4 3 0 } ∷ []
fifth-job well = jobs-repeat (worked 7) all shifts 13 well (findings-recur 7) 19 (omega arith) ∙ ap (map (later_job_of (worked 7) shifts)) third-job

-- no response of L is ever above 7
abbrev within : Job → Bool
within job = not (job.thread == 1) || nat_le job.response 7

pub never-above : IsWellFormed (worked 7) → (horizon : ℕ) → AllByRecursion (λ job. within job ≡ true) (jobs_up_to (worked 7) all horizon)
never-above well =
    job-tests-are-forever (worked 7) all shifts 13 well (findings-recur 7) within (λ job h. h)
    (refl, (refl, (refl, (refl, (refl, (refl, (refl, (refl, (refl, (refl, tt))))))))))

-- in each of its periods S signals a notification for which nobody waits: each signal but the first
-- is lost
abbrev pub signals : System
signals =
    record {
      cores = 1;
      delay = 1;
      call = 1;
      min_budget = 1;
      contexts = record { name = 115 ∷ []; core = 0; config = record { budget = 2; period = 4; extra = 0 }; mode = Sporadic } ∷ [];
      notes = record { name = 110 ∷ []; core = 0; word = 0 } ∷ [];
      threads = record { name = 83 ∷ []; context = 0; priority = 5; start = 0; rounds = 0; deadline = 0; script = Signal 0 1 ∷ Compute 1 ∷ [] } ∷ [];
      orders = [];
      links = [];
      servers = 0;
      sources = [];
      beats = [];
      chains = [];
    }

abbrev period : Shifts
period = record { by = 4; contexts = λ c k. 4; threads = λ c x. 4; rounds = λ c x. 1 }

-- before 3 and before 7 S waits for its budget, and the word is 1. Nobody waits for it, so the word
-- calls nobody, and its time is that of the latest signal
abbrev core_as : ℕ → ℕ → ℕ → Core
core_as round since date =
    record {
      running = None;
      threads = record { standing = Pending; place = record { round = round; item = 0; left = 1; word = 0; priority = 5 }; since = since } ∷ [];
      ready = [];
      releases = record { thread = 0; date = date } ∷ [];
      contexts = Some (record { config = record { budget = 2; period = 4; extra = 0 }; mode = Sporadic; budget = Dates (date ∷ (date + 1) ∷ []) }) ∷ [];
      notes = record { word = 1; waiters = [] } ∷ [];
    }

S-3 : core_shown signals (world signals 3) 0 ≡ core_as 2 2 4
S-3 = refl

S-7 : core_shown signals (world signals 7) 0 ≡ core_as 3 6 8
S-7 = refl

moved : core_as 3 6 8 ≡ later_core (shift_of period 0) (core_as 2 2 4)
moved = refl

again : core_shown signals (world signals 7) 0 ≡ later_core (shift_of period 0) (core_shown signals (world signals 3) 0)
again = S-7 ∙ moved ∙ ap (later_core (shift_of period 0)) (sym S-3)

none-3 : (world signals 3).mails ≡ []
none-3 = refl

none-7 : (world signals 7).mails ≡ []
none-7 = refl

kept-3 : (d : Account) → kept signals 3 0 d ≡ record (account 0 Throttled 2 2 0 (parts 0 0 0)) { bits = None }
kept-3 d = refl

kept-7 : (d : Account) → kept signals 7 0 d ≡ record (account 0 Throttled 6 6 0 (parts 0 0 0)) { bits = None }
kept-7 d = refl

word-3 : (d : Held) → get_or (watch_before signals 3).words 0 d ≡ record { word = 1; since = 1; bits = Some 0; due = None; given = 0 }
word-3 d = refl

word-7 : (d : Held) → get_or (watch_before signals 7).words 0 d ≡ record { word = 1; since = 5; bits = Some 0; due = None; given = 0 }
word-7 d = refl

-- nobody takes the word
nobody-takes : TakesNoWord signals 0 3 7
nobody-takes = (refl, (refl, (refl, (refl, (refl, (refl, (refl, (refl, (refl, (refl, (refl, (refl, tt))))))))))))

abbrev KeepUp : ℕ → Type 0
KeepUp t = AllByRecursion (KeepsUp signals (shift_of period 0)) (turn_of signals 0 t).rows

keep-up : (t : ℕ) → 3 ≤ t → t < 7 → KeepUp t
keep-up t l m = by (t == 3) (t == 4) (t == 5) refl refl refl
  where
    by : (a b c : Bool) → (t == 3) ≡ a → (t == 4) ≡ b → (t == 5) ≡ c → KeepUp t
    by true b c e f g = let same : 3 ≡ t = grind (arith, nat_tests) in subst KeepUp same tt
    by false true c e f g = let same : 4 ≡ t = grind (arith, nat_tests) in subst KeepUp same (tt, (inr refl, tt))
    by false false true e f g = let same : 5 ≡ t = grind (arith, nat_tests) in subst KeepUp same (tt, (tt, tt))
    by false false false e f g = let same : 6 ≡ t = grind (arith, nat_tests) in subst KeepUp same (refl, (refl, tt))

pub signals-recur : FindingsRecur signals all period 3
signals-recur =
    record {
      recurs = record {
        closed = λ thread place note badge known item own. refl;
        some = omega arith;
        shift = λ c. record { lags = λ k. omega arith; endless = endless };
        orders = tt;
        again = record {
          cores = λ c l own. let P : ℕ → Type 0 = λ c. core_shown signals (world signals 7) c ≡ later_core (shift_of period c) (core_shown signals (world signals 3) c) in subst P (only c l) again;
          mails = ap (filter (is_for signals all)) none-7 ∙ sym (ap (λ mails. map (later_mail 4) (filter (is_for signals all) mails)) none-3);
        };
        alarms = λ c known own. refl;
        rows = λ t c l m known own.
            let P : ℕ → Type 0 = λ c. AllByRecursion (KeepsUp signals (shift_of period c)) (turn_of signals c t).rows in
            subst P (only c known) (keep-up t l m);
      };
      near = soon _ refl;
      started = λ x known own. let P : ℕ → Type 0 = λ x. (thread_part signals x).start ≤ 3 in subst P (only x known) (omega arith);
      threads = λ x known own. inl (λ d. let P : ℕ → Type 0 = λ x. kept signals 7 x d ≡ later_account 4 (kept signals 3 x d) in
          subst P (only x known) (kept-7 d ∙ ap (later_account 4) (sym (kept-3 d))));
      words = λ n known own d. let P : ℕ → Type 0 = λ n. (get_or (watch_before signals 7).words n d).word ≡ (get_or (watch_before signals 3).words n d).word in
          subst P (only n known) (ap (λ (held : Held). held.word) (word-7 d) ∙ sym (ap (λ (held : Held). held.word) (word-3 d)));
      taken = λ n known own. inr (inl (let P : ℕ → Type 0 = λ n. TakesNoWord signals n 3 7 in subst P (only n known) nobody-takes));
    }
  where
    endless : (x : ℕ) → (period.rounds 0 x ≡ 0) ⊎ ((thread_part signals x).rounds ≡ 0)
    endless zero = inr refl
    endless (suc x) = inr refl

-- the first signal is held, the second is lost, and so is each after it
first : found_at_moment signals all 1 ≡ []
first = refl

second : found_at_moment signals all 5 ≡ record { moment = 5; core = 0; finding = Lost 0 1 } ∷ []
second = refl

later-ones : IsWellFormed signals → found_at_moment signals all 9 ≡ record { moment = 9; core = 0; finding = Lost 0 1 } ∷ []
later-ones well = findings-repeat signals all period 3 well signals-recur 5 (omega arith) ∙ ap (map (later_found period)) second
