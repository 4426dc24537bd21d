-- An endless round and an abandoned word, by hand.
use Rattle.std.proofs.Common.{◌≡◌, ℕ, zero, suc, ◌-◌, ◌<◌, ◌≤◌, inl, inr, [], ◌∷◌, ◌++◌, get_or, refl, sym, ap, subst, ◌∙◌, Some, None, arith}
use Rattle.std.specs.Prelude.{filter, map, flat_map}
use Rattle.std.specs.List.{AllByRecursion, range_with_len}
use Rattle.mcs_control.specs.declared.config.Mode.TheVariants.{Sporadic}
use Rattle.mcs_script.specs.declared.item.Item.TheVariants.{Compute, Signal, Wait}
use Rattle.mcs_system.specs.System.{System, thread_part}
use Rattle.mcs_system.specs.WellFormed.{IsWellFormed}
use Rattle.mcs_control.specs.Context.Budget.{Dates, Slice}
use Rattle.mcs_core.specs.Core.{Core}
use Rattle.mcs_core.specs.declared.standing.Standing.TheVariants.{Blocked, Done}
use Rattle.mcs_core.specs.Clock.{clock, turn_of, rows_of, world, core_shown}
use Rattle.mcs_core.proofs.Clock.{rows-clock}
use Rattle.mcs_laws.proofs.Histories.{takes-time}
use Rattle.mcs_verdict.specs.declared.held.Held.{Held}
use Rattle.mcs_verdict.specs.declared.finding.Finding.TheVariants.{Untaken}
use Rattle.mcs_ever.specs.Later.{KeepsUp, later_core, later_mail}
use Rattle.mcs_ever.specs.Recurs.{Recurs, shift_of, is_for}
use Rattle.mcs_ever.specs.laws.Repeats.{EndsNoRound}
use Rattle.mcs_ever.proofs.Worked.{all, only, at_rest}
use Rattle.mcs_ever_found.specs.Period.{far, abandoned_word}
use Rattle.mcs_ever_found.specs.Recurs.{FindingsRecur, TakesNoWord, WordIsSame, watch_before}
use Rattle.mcs_ever_found.specs.laws.GoOn.{untaken_up_to, never_up_to, IsOverdueRound}
use Rattle.mcs_ever_found.proofs.Quiet.{ends-none, takes-none}
use Rattle.mcs_ever_found.proofs.Threads.{overdue-on, goes-on}
use Rattle.mcs_worked.proofs.EverFindings.{soon}
use Rattle.mcs_ever_found.proofs.Words.{words-go-on}

-- T computes a tick and then waits for a signal that never comes: its first round never ends
abbrev stuck : System
stuck =
    record {
      cores = 1;
      delay = 1;
      call = 1;
      min_budget = 1;
      contexts = record { name = 107 ∷ []; core = 0; config = record { budget = 2; period = 4; extra = 0 }; mode = Sporadic } ∷ [];
      notes = record { name = 110 ∷ []; core = 0; word = 0 } ∷ [];
      threads = record { name = 84 ∷ []; context = 0; priority = 5; start = 0; rounds = 0; deadline = 4; script = Compute 1 ∷ Wait 0 ∷ Compute 1 ∷ [] } ∷ [];
      orders = [];
      links = [];
      servers = 0;
      sources = [];
      beats = [];
      chains = [];
    }

-- it waits from 2 on
abbrev stuck_core : Core
stuck_core =
    record {
      running = None;
      threads = record { standing = Blocked; place = record { round = 1; item = 1; left = 0; word = 0; priority = 5 }; since = 0 } ∷ [];
      ready = [];
      releases = [];
      contexts = Some (record { config = record { budget = 2; period = 4; extra = 0 }; mode = Sporadic; budget = Dates (4 ∷ 5 ∷ []) }) ∷ [];
      notes = record { word = 0; waiters = record { thread = 0; priority = 5 } ∷ [] } ∷ [];
    }

stuck-6 : core_shown stuck (world stuck 6) 0 ≡ stuck_core
stuck-6 = refl

stuck-7 : core_shown stuck (world stuck 7) 0 ≡ stuck_core
stuck-7 = refl

stuck-moved : stuck_core ≡ later_core (shift_of at_rest 0) stuck_core
stuck-moved = refl

stuck-again : core_shown stuck (world stuck 7) 0 ≡ later_core (shift_of at_rest 0) (core_shown stuck (world stuck 6) 0)
stuck-again = stuck-7 ∙ stuck-moved ∙ ap (later_core (shift_of at_rest 0)) (sym stuck-6)

stuck-none-6 : (world stuck 6).mails ≡ []
stuck-none-6 = refl

stuck-none-7 : (world stuck 7).mails ≡ []
stuck-none-7 = refl

stuck-rests : Recurs stuck all at_rest 6
stuck-rests =
    record {
      closed = λ thread place note badge known item own. refl;
      some = omega arith;
      shift = λ c. record { lags = λ k. omega arith; endless = λ x. inl refl };
      orders = tt;
      again = record {
        cores = λ c l own.
            let P : ℕ → Type 0 = λ c. core_shown stuck (world stuck 7) c ≡ later_core (shift_of at_rest c) (core_shown stuck (world stuck 6) c) in
            subst P (only c l) stuck-again;
        mails = ap (filter (is_for stuck all)) stuck-none-7 ∙ sym (ap (λ mails. map (later_mail 1) (filter (is_for stuck all) mails)) stuck-none-6);
      };
      alarms = λ c known own. refl;
      rows = λ t c l m known own.
          let same : 6 ≡ t = omega (arith, l, m) in
          let P : ℕ → Type 0 = λ c. AllByRecursion (KeepsUp stuck (shift_of at_rest c)) (turn_of stuck c t).rows in
          let Q : ℕ → Type 0 = λ t. AllByRecursion (KeepsUp stuck (shift_of at_rest 0)) (turn_of stuck 0 t).rows in
          subst P (only c known) (subst Q same tt);
    }

stuck-ends : EndsNoRound stuck 0 6 7
stuck-ends = (refl, (refl, (refl, tt)))

stuck-word-6 : (d : Held) → (get_or (watch_before stuck 6).words 0 d).word ≡ 0
stuck-word-6 d = refl

stuck-word-7 : (d : Held) → (get_or (watch_before stuck 7).words 0 d).word ≡ 0
stuck-word-7 d = refl

stuck-words : WordIsSame stuck 1 6 0
stuck-words d = stuck-word-7 d ∙ sym (stuck-word-6 d)

stuck-takes : TakesNoWord stuck 0 6 7
stuck-takes = (refl, (refl, (refl, tt)))

stuck-recurs : FindingsRecur stuck all at_rest 6
stuck-recurs =
    record {
      recurs = stuck-rests;
      near = soon _ refl;
      started = λ x known own. let P : ℕ → Type 0 = λ x. (thread_part stuck x).start ≤ 6 in subst P (only x known) (omega arith);
      threads = λ x known own. inr (let P : ℕ → Type 0 = λ x. EndsNoRound stuck x 6 7 in subst P (only x known) stuck-ends);
      words = λ n known own. let P : ℕ → Type 0 = λ n. WordIsSame stuck 1 6 n in subst P (only n known) stuck-words;
      taken = λ n known own. inr (inl (let P : ℕ → Type 0 = λ n. TakesNoWord stuck n 6 7 in subst P (only n known) stuck-takes));
    }

-- it was activated at 0, and is overdue at each horizon from 6 on; its deadline is 4
pub never-ends : IsWellFormed stuck → (horizon : ℕ) → 7 ≤ suc horizon → IsOverdueRound stuck horizon 0 1 4 0
never-ends well horizon l =
    overdue-on stuck all at_rest 6 well stuck-recurs 0 (omega arith) refl refl 1 4 0
    (record { active_at = refl; number_is = refl; limit_is = refl; some_limit = refl }) horizon l (omega (arith, l))

-- and it was activated
pub is-activated : IsWellFormed stuck → (horizon : ℕ) → 7 ≤ suc horizon → never_up_to stuck horizon 0 ≡ None
is-activated well horizon l = (goes-on stuck all at_rest 6 well stuck-recurs 0 (omega arith) refl).never horizon l

-- S signals twice. T, whose script has one round, takes the first signal; the second one is held, and
-- nobody takes it
abbrev left : System
left =
    record {
      cores = 1;
      delay = 1;
      call = 1;
      min_budget = 1;
      contexts = record { name = 107 ∷ []; core = 0; config = record { budget = 2; period = 4; extra = 0 }; mode = Sporadic }
          ∷ record { name = 109 ∷ []; core = 0; config = record { budget = 20; period = 20; extra = 0 }; mode = Sporadic } ∷ [];
      notes = record { name = 110 ∷ []; core = 0; word = 0 } ∷ [];
      threads = record { name = 84 ∷ []; context = 0; priority = 9; start = 0; rounds = 1; deadline = 3; script = Wait 0 ∷ Compute 1 ∷ [] }
          ∷ record { name = 83 ∷ []; context = 1; priority = 5; start = 0; rounds = 2; deadline = 0; script = Signal 0 1 ∷ Compute 1 ∷ [] } ∷ [];
      orders = [];
      links = [];
      servers = 0;
      sources = [];
      beats = [];
      chains = [];
    }

-- both are done from 6 on
abbrev left_core : Core
left_core =
    record {
      running = None;
      threads = record { standing = Done; place = record { round = 1; item = 1; left = 0; word = 0; priority = 9 }; since = 2 }
          ∷ record { standing = Done; place = record { round = 2; item = 1; left = 0; word = 0; priority = 5 }; since = 4 } ∷ [];
      ready = [];
      releases = [];
      contexts = Some (record { config = record { budget = 2; period = 4; extra = 0 }; mode = Sporadic; budget = Dates (4 ∷ 6 ∷ []) })
          ∷ Some (record { config = record { budget = 20; period = 20; extra = 0 }; mode = Sporadic; budget = Slice 16 }) ∷ [];
      notes = record { word = 1; waiters = [] } ∷ [];
    }

left-7 : core_shown left (world left 7) 0 ≡ left_core
left-7 = refl

left-8 : core_shown left (world left 8) 0 ≡ left_core
left-8 = refl

left-moved : left_core ≡ later_core (shift_of at_rest 0) left_core
left-moved = refl

left-again : core_shown left (world left 8) 0 ≡ later_core (shift_of at_rest 0) (core_shown left (world left 7) 0)
left-again = left-8 ∙ left-moved ∙ ap (later_core (shift_of at_rest 0)) (sym left-7)

left-none-7 : (world left 7).mails ≡ []
left-none-7 = refl

left-none-8 : (world left 8).mails ≡ []
left-none-8 = refl

left-rests : Recurs left all at_rest 7
left-rests =
    record {
      closed = λ thread place note badge known item own. refl;
      some = omega arith;
      shift = λ c. record { lags = λ k. omega arith; endless = λ x. inl refl };
      orders = tt;
      again = record {
        cores = λ c l own.
            let P : ℕ → Type 0 = λ c. core_shown left (world left 8) c ≡ later_core (shift_of at_rest c) (core_shown left (world left 7) c) in
            subst P (only c l) left-again;
        mails = ap (filter (is_for left all)) left-none-8 ∙ sym (ap (λ mails. map (later_mail 1) (filter (is_for left all) mails)) left-none-7);
      };
      alarms = λ c known own. refl;
      rows = λ t c l m known own.
          let same : 7 ≡ t = omega (arith, l, m) in
          let P : ℕ → Type 0 = λ c. AllByRecursion (KeepsUp left (shift_of at_rest c)) (turn_of left c t).rows in
          let Q : ℕ → Type 0 = λ t. AllByRecursion (KeepsUp left (shift_of at_rest 0)) (turn_of left 0 t).rows in
          subst P (only c known) (subst Q same tt);
    }

left-started : (x : ℕ) → x < 2 → (thread_part left x).start ≤ 7
left-started zero l = omega arith
left-started (suc zero) l = omega arith
left-started (suc (suc x)) l = absurd (omega (arith, l))

left-word-7 : (d : Held) → (get_or (watch_before left 7).words 0 d).word ≡ 1
left-word-7 d = refl

left-word-8 : (d : Held) → (get_or (watch_before left 8).words 0 d).word ≡ 1
left-word-8 d = refl

left-words : WordIsSame left 1 7 0
left-words d = left-word-8 d ∙ sym (left-word-7 d)

-- no row comes at 7
left-none : flat_map (λ c. rows_of left c 7) (range_with_len 0 1) ≡ []
left-none = refl

left-on : IsWellFormed left → (clock left 8).rows ≡ (clock left 7).rows ++ []
left-on well = rows-clock left (takes-time left well) 7 ∙ ap (λ rows. (clock left 7).rows ++ rows) left-none

left-recurs : IsWellFormed left → FindingsRecur left all at_rest 7
left-recurs well =
    record {
      recurs = left-rests;
      near = soon _ refl;
      started = λ x known own. left-started x known;
      threads = λ x known own. inr (ends-none left all at_rest 7 well left-rests [] (left-on well) x own refl);
      words = λ n known own. let P : ℕ → Type 0 = λ n. WordIsSame left 1 7 n in subst P (only n known) left-words;
      taken = λ n known own. inr (inl (takes-none left all at_rest 7 well left-rests [] (left-on well) n own refl));
    }

left-word : abandoned_word left 1 7 0 ≡ Some (Untaken 0 1 (far - 5) 3 5)
left-word = refl

-- word 1 was set at 5: it is untaken at each horizon from 8 on, as T's deadline is 3
pub never-taken : IsWellFormed left → (horizon : ℕ) → 8 ≤ horizon → untaken_up_to left horizon 0 ≡ Some (Untaken 0 1 (horizon - 5) 3 5)
never-taken well horizon l =
    (words-go-on left all at_rest 7 well (left-recurs well) 0 (omega arith) refl).abandoned 1 (far - 5) 3 5 left-word horizon (omega (arith, l)) (omega (arith, l))
