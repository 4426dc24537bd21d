-- A small system, worked by hand: a thread runs for a tick, from time 0 on, and an order comes at
-- 5.
use Rattle.std.specs.Prelude.{[], ◌∷◌, ◌++◌, List, None, refl}
use Rattle.std.proofs.Common.{inl, inr, arith}
use Rattle.mcs_ticks.specs.declared.row.Row.{Row}
use Rattle.mcs_ticks.specs.declared.row.What.TheVariants as row
use Rattle.mcs_ticks.specs.declared.row.Why.TheVariants as why
use Rattle.mcs_control.specs.declared.config.Config.{Config}
use Rattle.mcs_control.specs.declared.config.Mode.TheVariants as mode
use Rattle.mcs_script.specs.declared.item.Item.TheVariants.{Compute}
use Rattle.mcs_system.specs.System.{System}
use Rattle.mcs_ever_search.specs.Compared.{opening, at_moment, with_kept, OrdersComeBefore}
use Rattle.mcs_ever_search.specs.Sampling.{GoesOn}

abbrev budget : Config
budget = record { budget = 5; period = 10; extra = 0 }

abbrev one : System
one =
    record {
      cores = 1;
      delay = 1;
      call = 1;
      min_budget = 1;
      contexts = record { name = []; core = 0; config = budget; mode = mode.Sporadic } ∷ [];
      notes = [];
      threads = record { name = []; context = 0; priority = 5; start = 0; rounds = 1; deadline = 0; script = Compute 1 ∷ [] } ∷ [];
      orders = record { moment = 5; context = 0; config = budget } ∷ [];
      links = [];
      servers = 0;
      sources = [];
      beats = [];
      chains = [];
    }

-- the order comes before 6, and not before 5
orders_before_6 : OrdersComeBefore one 6
orders_before_6 = (omega arith, tt)

no_orders_before_5 : ¬ OrdersComeBefore one 5
no_orders_before_5 all = let l = all.0 in omega (arith, l)

abbrev first_rows : List Row
first_rows = record { moment = 0; core = 0; what = row.Release 0 } ∷ record { moment = 0; core = 0; what = row.Run 0 } ∷ []

abbrev last_rows : List Row
last_rows = record { moment = 1; core = 0; what = row.Round 0 1 1 } ∷ record { moment = 1; core = 0; what = row.Stop 0 why.Done 1 None } ∷ []

-- the thread is released and runs ..
goes_to_1 : GoesOn (opening one 9) (at_moment (opening one 9) 1) [] first_rows
goes_to_1 =
    record { system = refl; horizon = refl; going = refl; later = omega arith; kept = inl refl; rows = refl; schedule = refl }

-- .. and ends a tick later. The search may keep the moment before that, and skips idle time up to
-- the order
goes_to_5 : GoesOn (at_moment (opening one 9) 1) (at_moment (with_kept (at_moment (opening one 9) 1)) 5) first_rows (first_rows ++ last_rows)
goes_to_5 =
    record { system = refl; horizon = refl; going = refl; later = omega arith; kept = inr refl; rows = refl; schedule = refl }
