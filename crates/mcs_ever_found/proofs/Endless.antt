-- The endless round of a thread and the abandoned word of a notification, by what is kept of a
-- period.
use Rattle.std.proofs.Common.{◌≡◌, ℕ, ◌+◌, ◌-◌, ◌^◌, ◌<◌, ◌≤◌, Bool, true, false, cond, not, ◌==◌, ◌&&◌, List, length, get_or, refl, sym, ap, ◌∙◌, Option, Some, None, arith}
use Rattle.std.specs.Prelude.{drop}
use Rattle.std.specs.List.{list_any}
use Rattle.std.proofs.Math.Seq.{drop-append_seam}
use Rattle.mcs_ticks.specs.declared.row.Row.{Row}
use Rattle.mcs_ticks.specs.declared.row.What.{What}
use Rattle.mcs_system.specs.System.{System, thread_part}
use Rattle.mcs_system.specs.WellFormed.{IsWellFormed}
use Rattle.mcs_core.specs.Clock.{clock}
use Rattle.mcs_verdict.specs.declared.finding.Finding.{Finding}
use Rattle.mcs_verdict.specs.declared.finding.Finding.TheVariants.{Overdue, Never}
use Rattle.mcs_verdict.specs.declared.standing.Stood.{Stood}
use Rattle.mcs_verdict.specs.Due.{untaken}
use Rattle.mcs_verdict.specs.Findings.{UpTo}
use Rattle.mcs_verdict.specs.Misses.{is_reached, overdue_at, overdue_since, overdue, never_at, never, first_of, unended}
use Rattle.mcs_verdict.specs.Parts.{queued_in}
use Rattle.mcs_verdict.specs.Rounds.{activated_of}
use Rattle.mcs_verdict.specs.Watch.{Watch, watch_of}
use Rattle.mcs_verdict.proofs.Orders.{up_to-later}
use Rattle.mcs_ever.specs.laws.Repeats.{ends_round}
use Rattle.mcs_ever_found.specs.Doings.{Doings}
use Rattle.mcs_ever_found.specs.Period.{whats, AreKept, far, done_in_period, ends_in_period, is_taken_in_period, endless_round, abandoned_word}
use Rattle.mcs_ever_found.specs.Recurs.{takes_word, past_before}
use Rattle.mcs_ever_found.specs.stored.Endless.{only_overdue}
use Rattle.mcs_ever_found.proofs.Flags.{flag-at}
use Rattle.mcs_ever_found.proofs.Moments.{up_to}

-- of the two findings of a thread at a horizon
never-only : (x deadline : ℕ) (once : Bool) → only_overdue (never_at x deadline once) ≡ None
never-only x deadline once = by (not (deadline == 0) && not once)
  where
    by : (b : Bool) → only_overdue (cond b (Some (Never x deadline)) None) ≡ None
    by true = refl
    by false = refl

overdue-only : (h x number deadline free a : ℕ) (stood : Stood) (other : Option Finding) → only_overdue other ≡ None
    → only_overdue (first_of (overdue_at h x number deadline free a stood) other) ≡ overdue_at h x number deadline free a stood
overdue-only h x number deadline free a stood other e = by (is_reached deadline (h - a))
  where
    found : Finding
    found = Overdue x number (h - a) deadline a (queued_in free a) stood

    by : (b : Bool) → only_overdue (first_of (cond b (Some (Overdue x number (h - a) deadline a (queued_in free a) stood)) None) other)
        ≡ cond b (Some (Overdue x number (h - a) deadline a (queued_in free a) stood)) None
    by true = refl
    by false = e

pub only-unended : (system : System) (past : List Row) (h x : ℕ) → only_overdue (unended system past h x) ≡ overdue system past h x
only-unended system past h x = by (activated_of system x past h)
  where
    by : (o : Option ℕ) → only_overdue (first_of (overdue_since system past h x o) (never system past h x)) ≡ overdue_since system past h x o
    by None = never-only x (thread_part system x).deadline _
    by (Some a) = overdue-only h x _ (thread_part system x).deadline _ a _ (never system past h x) (never-only x (thread_part system x).deadline _)

module _ (system : System) (by from : ℕ) (before after : Watch) (doings : Doings) (kept : AreKept system by from before after doings) where
  done-between : done_in_period system by from ≡ whats kept.between
  done-between =
      ap (λ rows. whats (drop (length (clock system from).rows) rows)) kept.on
      ∙ ap whats (drop-append_seam (clock system from).rows kept.between)

  ended-is : (x : ℕ) → x < length system.threads → get_or doings.ended x false ≡ ends_in_period system by from x
  ended-is x known =
      ap (λ (doings : Doings). get_or doings.ended x false) kept.done ∙ flag-at ends_round (length system.threads) (whats kept.between) x false known
      ∙ sym (ap (list_any (ends_round x)) done-between)

  taken-is : (n : ℕ) → n < length system.notes → get_or doings.taken n false ≡ is_taken_in_period system by from n
  taken-is n known =
      ap (λ (doings : Doings). get_or doings.taken n false) kept.done ∙ flag-at takes_word (length system.notes) (whats kept.between) n false known
      ∙ sym (ap (list_any (takes_word n)) done-between)

  -- a thread that ends a round
  pub endless-ends : (x : ℕ) → x < length system.threads → (b : Bool) → b ≡ get_or doings.ended x false → b ≡ true → None ≡ endless_round system by from x
  endless-ends x known b e f =
      sym (ap (λ c. cond c None (overdue system (past_before system (from + by)) far x)) (sym (ended-is x known) ∙ sym e ∙ f))

  -- and one that ends none
  pub endless-is : (x : ℕ) → x < length system.threads → (b : Bool) → b ≡ get_or doings.ended x false → b ≡ false → (found : Option Finding)
      → found ≡ unended system (past_before system (from + by)) far x → only_overdue found ≡ endless_round system by from x
  endless-is x known b e f found g =
      ap only_overdue g ∙ only-unended system (past_before system (from + by)) far x
      ∙ sym (ap (λ c. cond c None (overdue system (past_before system (from + by)) far x)) (sym (ended-is x known) ∙ sym e ∙ f))

  -- a word that somebody takes, and one that nobody takes
  pub abandoned-taken : (n : ℕ) → n < length system.notes → (b : Bool) → b ≡ get_or doings.taken n false → b ≡ true → None ≡ abandoned_word system by from n
  abandoned-taken n known b e f =
      sym (ap (λ c. cond c None (untaken system (past_before system (from + by)) far n)) (sym (taken-is n known) ∙ sym e ∙ f))

  pub abandoned-is : (n : ℕ) → n < length system.notes → (b : Bool) → b ≡ get_or doings.taken n false → b ≡ false → (found : Option Finding)
      → found ≡ untaken system (past_before system (from + by)) far n → found ≡ abandoned_word system by from n
  abandoned-is n known b e f found g =
      g ∙ sym (ap (λ c. cond c None (untaken system (past_before system (from + by)) far n)) (sym (taken-is n known) ∙ sym e ∙ f))

  -- the rows before the end of the period are up to a far horizon
  pub up-far : IsWellFormed system → from + by ≤ 2 ^ 41 → UpTo far (past_before system (from + by))
  up-far well near = up_to-later (from + by) far (past_before system (from + by)) (omega (arith, near)) (up_to system well (from + by))
