-- Values worked by hand.
use Rattle.std.specs.Prelude.{◌≡◌, ℕ, ◌+◌, true, false, [], ◌∷◌, Some, None, refl}
use Rattle.mcs_ticks.specs.declared.row.Row.{Row}
use Rattle.mcs_ticks.specs.declared.row.What.{What}
use Rattle.mcs_ticks.specs.declared.row.What.TheVariants as row
use Rattle.mcs_mail.specs.declared.mail.Mail.{Mail}
use Rattle.mcs_control.specs.declared.config.Mode.TheVariants.{Sporadic}
use Rattle.mcs_script.specs.declared.item.Item.TheVariants.{Compute, Signal}
use Rattle.mcs_system.specs.System.{System}
use Rattle.mcs_core.specs.Clock.{clock, world}
use Rattle.mcs_ever_again.specs.UnderWay.{mail_of, under_way}
use Rattle.mcs_ever_again.specs.Group.{for_group, AreLater}

-- core 0 signals notification 0, at home on core 1, after two ticks, and its own notification 1 a
-- tick later. The delay between the cores is three ticks
abbrev two_cores : System
two_cores =
    record {
      cores = 2;
      delay = 3;
      call = 1;
      min_budget = 1;
      contexts = record { name = []; core = 0; config = record { budget = 10; period = 10; extra = 0 }; mode = Sporadic } ∷ [];
      notes = record { name = []; core = 1; word = 0 } ∷ record { name = []; core = 0; word = 0 } ∷ [];
      threads = record { name = []; context = 0; priority = 5; start = 0; rounds = 1; deadline = 0; script = Compute 1 ∷ Signal 0 4 ∷ Signal 1 2 ∷ [] } ∷ [];
      orders = [];
      links = [];
      servers = 0;
      sources = [];
      beats = [];
      chains = [];
    }

abbrev at_5 : What → Row
at_5 what = record { moment = 5; core = 0; what = what }

abbrev signal_at : ℕ → Mail
signal_at t = record { arrives = t + 3; made = t; maker = 0; note = 0; badge = 4 }

-- a signal for core 1 is under way for three ticks
to_another_core : mail_of two_cores (at_5 (row.Signal 0 0 4)) ≡ Some (signal_at 5)
to_another_core = refl

-- a signal for its own core is not under way, and no other row makes a signal
to_its_own_core : mail_of two_cores (at_5 (row.Signal 0 1 2)) ≡ None
to_its_own_core = refl

an_arrival_is_none : mail_of two_cores (at_5 (row.Arrive 0 4 1)) ≡ None
an_arrival_is_none = refl

-- it is under way before time 8, at which it arrives, and not after it
until_it_arrives : under_way two_cores 8 (at_5 (row.Signal 0 0 4) ∷ at_5 (row.Signal 0 1 2) ∷ []) ≡ signal_at 5 ∷ []
until_it_arrives = refl

and_no_longer : under_way two_cores 9 (at_5 (row.Signal 0 0 4) ∷ []) ≡ []
and_no_longer = refl

-- in the schedule the signal is made at time 2
not_yet_made : (world two_cores 2).mails ≡ []
not_yet_made = refl

made : (world two_cores 3).mails ≡ signal_at 2 ∷ []
made = refl

told : under_way two_cores 3 (clock two_cores 3).rows ≡ signal_at 2 ∷ []
told = refl

taken : (world two_cores 6).mails ≡ []
taken = refl

told_to_be_taken : under_way two_cores 6 (clock two_cores 6).rows ≡ []
told_to_be_taken = refl

-- for a group with core 1 the signal made at 5 is that made at 2, later by 3; signals for core 0
-- play no part
abbrev to_core_0 : Mail
to_core_0 = record { arrives = 9; made = 6; maker = 1; note = 1; badge = 1 }

later : AreLater two_cores (false ∷ true ∷ []) 3 (signal_at 2 ∷ []) (to_core_0 ∷ signal_at 5 ∷ [])
later = refl

only_for_core_0 : for_group two_cores (true ∷ false ∷ []) (to_core_0 ∷ signal_at 5 ∷ []) ≡ to_core_0 ∷ []
only_for_core_0 = refl

-- no core past the end of the group is in it
none_past : for_group two_cores [] (to_core_0 ∷ signal_at 5 ∷ []) ≡ []
none_past = refl
