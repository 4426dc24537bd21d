-- Which threads only compute, and a small system with its spun one, worked by hand from the rules
-- of the turn.
use Rattle.std.specs.Prelude.{◌≡◌, ℕ, true, false, List, [], ◌∷◌, ◌++◌, filter, Some, None, refl}
use Rattle.mcs_ticks.specs.declared.row.Row.{Row}
use Rattle.mcs_ticks.specs.declared.row.What.{What}
use Rattle.mcs_ticks.specs.declared.row.What.TheVariants as row
use Rattle.mcs_ticks.specs.declared.row.Why.TheVariants as why
use Rattle.mcs_script.specs.declared.item.Item.{Item}
use Rattle.mcs_script.specs.declared.item.Item.TheVariants.{Compute, Signal, Yield, Spin}
use Rattle.mcs_control.specs.declared.config.Mode.TheVariants.{Sporadic}
use Rattle.mcs_system.specs.declared.part.ContextPart.{ContextPart}
use Rattle.mcs_system.specs.declared.part.ThreadPart.{ThreadPart}
use Rattle.mcs_system.specs.System.{System}
use Rattle.mcs_core.specs.Clock.{schedule}
use Rattle.mcs_spin.specs.Spun.{only_computes, spun_part, spun, stays}

-- a thread of a context, with its priority, rounds, deadline and script
abbrev thread : ℕ → ℕ → ℕ → ℕ → List Item → ThreadPart
thread context priority rounds deadline script =
    record { name = []; context = context; priority = priority; start = 0; rounds = rounds; deadline = deadline; script = script }

computes_on : only_computes (thread 0 1 0 0 (Compute 2 ∷ Compute 7 ∷ [])) ≡ true
computes_on = refl

-- .. but not with a last round, with a deadline, or with an item that does something else
has_a_last_round : only_computes (thread 0 1 3 0 (Compute 2 ∷ [])) ≡ false
has_a_last_round = refl

has_a_deadline : only_computes (thread 0 1 0 5 (Compute 2 ∷ [])) ≡ false
has_a_deadline = refl

yields : only_computes (thread 0 1 0 0 (Compute 2 ∷ Yield ∷ [])) ≡ false
yields = refl

signals_late : only_computes (thread 0 1 0 0 (Compute 1000000 ∷ Signal 0 1 ∷ [])) ≡ false
signals_late = refl

its_script_spins : spun_part (thread 0 1 0 0 (Compute 2 ∷ Compute 7 ∷ [])) ≡ thread 0 1 0 0 (Spin ∷ [])
its_script_spins = refl

others_stay : spun_part (thread 0 1 0 5 (Compute 2 ∷ [])) ≡ thread 0 1 0 5 (Compute 2 ∷ [])
others_stay = refl

abbrev context : ℕ → ℕ → ContextPart
context budget period = record { name = []; core = 0; config = record { budget = budget; period = period; extra = 0 }; mode = Sporadic }

abbrev at : ℕ → What → Row
at moment what = record { moment = moment; core = 0; what = what }

-- Thread 0 only computes, round robin with slices of 5 ticks. Thread 1 has a greater priority, a
-- budget of 1 in 3 ticks, and a deadline.
abbrev guest : System
guest =
    record {
      cores = 1;
      delay = 1;
      call = 1;
      min_budget = 1;
      contexts = context 5 5 ∷ context 1 3 ∷ [];
      notes = [];
      threads = thread 0 1 0 0 (Compute 2 ∷ []) ∷ thread 1 2 0 3 (Compute 1 ∷ []) ∷ [];
      orders = [];
      links = [];
      servers = 0;
      sources = [];
      beats = [];
      chains = [];
    }

-- the rows up to the end of the guest's first round, and those after it
abbrev before : List Row
before =
    at 0 (row.Release 0)
    ∷ at 0 (row.Release 1)
    ∷ at 0 (row.Run 1)
    ∷ at 1 (row.Round 1 1 1)
    ∷ at 1 (row.Stop 1 why.Spent 1 (Some 3))
    ∷ at 1 (row.Run 0)
    ∷ []

abbrev behind : List Row
behind =
    at 3 (row.Release 1)
    ∷ at 3 (row.Stop 0 why.Preempt 2 None)
    ∷ at 3 (row.Run 1)
    ∷ at 4 (row.Round 1 2 3)
    ∷ at 4 (row.Stop 1 why.Spent 1 (Some 6))
    ∷ at 4 (row.Run 0)
    ∷ []

guest_at_work : schedule guest 4 ≡ before ++ at 3 (row.Round 0 1 3) ∷ behind
guest_at_work = refl

guest_spins : schedule (spun guest) 4 ≡ before ++ behind
guest_spins = refl

the_rest_stays : filter (stays guest) (before ++ at 3 (row.Round 0 1 3) ∷ behind) ≡ before ++ behind
the_rest_stays = refl
