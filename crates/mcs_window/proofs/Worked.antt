-- The views of a small system, worked by hand.
use native.Mathlib.Omega.{arith}
use Rattle.std.specs.Prelude.{◌≡◌, ℕ, [], ◌∷◌, Some, None, refl}
use Rattle.mcs_control.specs.declared.config.Config.{Config}
use Rattle.mcs_control.specs.declared.config.Mode.TheVariants as mode
use Rattle.mcs_system.specs.System.{System}
use Rattle.mcs_window.specs.Views.{views_before, AreShownBefore}

-- Two cores. The first context of the file is at home on core 1 and has 2 in 5; the second is round robin, on core 0; the third has 4 in
-- 20, on core 1, and from moment 3 on 6 in 30. No thread is bound to any.
abbrev config : ℕ → ℕ → Config
config budget period = record { budget = budget; period = period; extra = 0 }

abbrev mixed : System
mixed =
    record {
      cores = 2;
      delay = 1;
      call = 1;
      min_budget = 1;
      contexts =
          record { name = []; core = 1; config = config 2 5; mode = mode.Sporadic } ∷ record { name = []; core = 0; config = config 3 3; mode = mode.Sporadic }
          ∷ record { name = []; core = 1; config = config 4 20; mode = mode.Sporadic } ∷ [];
      notes = [];
      threads = [];
      orders = record { moment = 3; context = 2; config = config 6 30 } ∷ [];
      links = [];
      servers = 0;
      sources = [];
      beats = [];
      chains = [];
    }

-- each context once, in file order, whichever its core
views_at_first :
    views_before mixed 0
    ≡ record { context = 0; refills = record { begins = 0; amount = 2 } ∷ []; left = None; using = 0 }
    ∷ record { context = 1; refills = []; left = Some 3; using = 0 }
    ∷ record { context = 2; refills = record { begins = 0; amount = 4 } ∷ []; left = None; using = 0 }
    ∷ []
views_at_first = refl

-- the order leaves the head of 4 at moment 3, and the 2 ticks that it lacks end a period later, at 33
views_after_the_order :
    views_before mixed 4
    ≡ record { context = 0; refills = record { begins = 0; amount = 2 } ∷ []; left = None; using = 0 }
    ∷ record { context = 1; refills = []; left = Some 3; using = 0 }
    ∷ record { context = 2; refills = record { begins = 3; amount = 4 } ∷ record { begins = 31; amount = 2 } ∷ []; left = None; using = 0 }
    ∷ []
views_after_the_order = refl

-- views that leave out a context are not those of the system
a_context_left_out :
    AreShownBefore mixed 0
    (record { context = 0; refills = record { begins = 0; amount = 2 } ∷ []; left = None; using = 0 } ∷ record { context = 1; refills = []; left = Some 3; using = 0 } ∷ []) → ⊥
a_context_left_out h = omega (arith, h.many)
