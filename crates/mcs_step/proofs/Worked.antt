-- Steps of a small system, worked by hand: on each of two cores a thread runs for a tick, from time 0 on.
use Rattle.std.specs.Prelude.{◌≡◌, ℕ, [], ◌∷◌, ◌++◌, None, refl}
use Rattle.mcs_ticks.specs.declared.row.What.TheVariants as row
use Rattle.mcs_ticks.specs.declared.row.Why.TheVariants as why
use Rattle.mcs_control.specs.declared.config.Mode.TheVariants as mode
use Rattle.mcs_mail.specs.declared.mail.Mail.{Mail}
use Rattle.mcs_script.specs.declared.item.Item.TheVariants.{Compute}
use Rattle.mcs_system.specs.declared.part.ContextPart.{ContextPart}
use Rattle.mcs_system.specs.declared.part.ThreadPart.{ThreadPart}
use Rattle.mcs_system.specs.System.{System}
use Rattle.mcs_step.specs.Steps.{Steps, opening_steps, places_left, rows_before, rows_so_far}
use Rattle.mcs_step.specs.stored.Cores.{lowered}

abbrev context_on : ℕ → ContextPart
context_on core = record { name = []; core = core; config = record { budget = 5; period = 10; extra = 0 }; mode = mode.Sporadic }

abbrev computes : ℕ → ThreadPart
computes context = record { name = []; context = context; priority = 5; start = 0; rounds = 1; deadline = 0; script = Compute 1 ∷ [] }

abbrev two : System
two =
    record {
      cores = 2;
      delay = 2;
      call = 1;
      min_budget = 1;
      contexts = context_on 0 ∷ context_on 1 ∷ [];
      notes = [];
      threads = computes 0 ∷ computes 1 ∷ [];
      orders = [];
      links = [];
      servers = 0;
      sources = [];
      beats = [];
      chains = [];
    }

-- at the start nothing was told
none_yet : rows_so_far (opening_steps two 7) ≡ []
none_yet = refl

-- before the turn of core 1 at time 0 there are the rows of core 0 ..
before_core_1 : rows_before two 0 1 ≡ record { moment = 0; core = 0; what = row.Release 0 } ∷ record { moment = 0; core = 0; what = row.Run 0 } ∷ []
before_core_1 = refl

-- .. behind the last core those of both, and no others before the first turn at time 1
before_time_1 : rows_before two 1 0 ≡ rows_before two 0 2
before_time_1 = refl

-- at time 1 both threads end
before_core_1_ends : rows_before two 1 1 ≡ rows_before two 0 2 ++ record { moment = 1; core = 0; what = row.Round 0 1 1 } ∷ record { moment = 1; core = 0; what = row.Stop 0 why.Done 1 None } ∷ []
before_core_1_ends = refl

-- from then on only turns without rows are left
none_later : rows_before two 3 1 ≡ rows_before two 1 2
none_later = refl

-- three places at each of the eight moments up to the horizon; the place behind core 1 at time 7 is the last, and none is left at the end
abbrev at : ℕ → ℕ → Steps
at moment core = record (opening_steps two 7) { moment = moment; core = core }

all_places : places_left (opening_steps two 7) ≡ 24
all_places = refl

last_place : places_left (at 7 2) ≡ 1
last_place = refl

no_place : places_left (at 8 0) ≡ 0
no_place = refl

-- of signals that arrive at 9 and 6 the sooner one counts, unless the core is busy before
abbrev arrives_at : ℕ → Mail
arrives_at moment = record { arrives = moment; made = 1; maker = 0; note = 0; badge = 1 }

to_the_first : lowered (arrives_at 9 ∷ arrives_at 6 ∷ []) 8 ≡ 6
to_the_first = refl

not_lowered : lowered (arrives_at 9 ∷ arrives_at 6 ∷ []) 4 ≡ 4
not_lowered = refl
