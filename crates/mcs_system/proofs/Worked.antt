-- The delays of small systems.
use Rattle.std.proofs.Common.{◌≡◌, List, [], ◌∷◌, refl}
use Rattle.mcs_system.specs.declared.part.Link.{Link}
use Rattle.mcs_system.specs.System.{System, delay_between}

-- four cores with a delay of 5 ticks, except between linked cores
linked : List Link → System
linked links = record {
  cores = 4;
  delay = 5;
  call = 1;
  min_budget = 1;
  contexts = [];
  notes = [];
  threads = [];
  orders = [];
  links = links;
  servers = 0;
  sources = [];
  beats = [];
  chains = [];
}

-- a slower link, and a faster one
two_links : System
two_links = linked (record { maker = 1; home = 2; delay = 9 } ∷ record { maker = 0; home = 3; delay = 2 } ∷ [])

without_a_link : delay_between (linked []) 1 2 ≡ 5
unfolding linked
without_a_link = refl

by_a_slower_link : delay_between two_links 1 2 ≡ 9
unfolding two_links linked
by_a_slower_link = refl

by_a_faster_link : delay_between two_links 0 3 ≡ 2
unfolding two_links linked
by_a_faster_link = refl

-- a link goes one way
back_without_a_link : delay_between two_links 2 1 ≡ 5
unfolding two_links linked
back_without_a_link = refl

between_other_cores : delay_between two_links 0 2 ≡ 5
unfolding two_links linked
between_other_cores = refl
