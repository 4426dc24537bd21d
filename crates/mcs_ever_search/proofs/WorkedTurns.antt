-- A small system, worked by hand: on each of two cores a thread runs for a tick, from time 0 on.
use Rattle.std.specs.Prelude.{◌≡◌, ℕ, [], ◌∷◌, ◌++◌, None, refl}
use Rattle.mcs_ticks.specs.declared.row.What.TheVariants as row
use Rattle.mcs_ticks.specs.declared.row.Why.TheVariants as why
use Rattle.mcs_control.specs.declared.config.Mode.TheVariants as mode
use Rattle.mcs_script.specs.declared.item.Item.TheVariants.{Compute}
use Rattle.mcs_system.specs.declared.part.ContextPart.{ContextPart}
use Rattle.mcs_system.specs.declared.part.ThreadPart.{ThreadPart}
use Rattle.mcs_system.specs.System.{System}
use Rattle.mcs_ever_search.specs.Together.{clocks_at, rows_at, rows_before}

abbrev context_on : ℕ → ContextPart
context_on core = record { name = []; core = core; config = record { budget = 5; period = 10; extra = 0 }; mode = mode.Sporadic }

abbrev computes : ℕ → ThreadPart
computes context = record { name = []; context = context; priority = 5; start = 0; rounds = 1; deadline = 0; script = Compute 1 ∷ [] }

abbrev two : System
two =
    record {
      cores = 2;
      delay = 2;
      call = 1;
      min_budget = 1;
      contexts = context_on 0 ∷ context_on 1 ∷ [];
      notes = [];
      threads = computes 0 ∷ computes 1 ∷ [];
      orders = [];
      links = [];
      servers = 0;
      sources = [];
      beats = [];
      chains = [];
    }

clocks_are : clocks_at two 3 ≡ 3 ∷ 3 ∷ []
clocks_are = refl

-- both are released and run, core 0 first ..
first_rows : rows_at two 0 ≡ record { moment = 0; core = 0; what = row.Release 0 } ∷ record { moment = 0; core = 0; what = row.Run 0 }
    ∷ record { moment = 0; core = 1; what = row.Release 1 } ∷ record { moment = 0; core = 1; what = row.Run 1 } ∷ []
first_rows = refl

-- .. and end a tick later
last_rows : rows_at two 1 ≡ record { moment = 1; core = 0; what = row.Round 0 1 1 } ∷ record { moment = 1; core = 0; what = row.Stop 0 why.Done 1 None }
    ∷ record { moment = 1; core = 1; what = row.Round 1 1 1 } ∷ record { moment = 1; core = 1; what = row.Stop 1 why.Done 1 None } ∷ []
last_rows = refl

-- after that no core makes a row
none_later : rows_at two 2 ≡ []
none_later = refl

-- and what the schedule has so far are the rows of both moments
two_moments : rows_before two 2 ≡ rows_at two 0 ++ rows_at two 1
two_moments = refl
