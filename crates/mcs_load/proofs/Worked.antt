-- Results of some files, by the definitions alone.
use Rattle.std.proofs.Common.{◌≡◌, [], ◌∷◌, codes, Ok, Err, refl}
use Rattle.mcs_control.specs.declared.config.ControlFault.TheVariants as refused
use Rattle.mcs_control.specs.declared.config.Mode.TheVariants as modes
use Rattle.mcs_script.specs.declared.item.Item.TheVariants as items
use Rattle.mcs_script.specs.declared.fault.ItemFault.TheVariants as bad
use Rattle.mcs_load.specs.declared.fault.FaultKind.TheVariants as kind
use Rattle.mcs_load.specs.declared.spot.Key.TheVariants as key
use Rattle.mcs_load.specs.declared.spot.Section.TheVariants as section
use Rattle.std.specs.Fmt.{digits}
use Rattle.mcs_load.specs.Checks.{answer}
use Rattle.mcs_load.specs.Memory.{no_memory}
use Rattle.mcs_load.specs.Text.{load_fault_text}
use Rattle.mcs_load.specs.Walk.{file}
use Rattle.mcs_load.proofs.OnLiterals.{load_on_literals}

empty_file : answer (file (codes "")) ≡ Err (record { kind = kind.MissingKey; spot = record { section = section.Top; row = 0; key = key.Version; item = 0 } })
unfolding load_on_literals
empty_file = refl

cut_file : answer (file (codes "version = ")) ≡ Err (record { kind = kind.NotToml; spot = record { section = section.File; row = 0; key = key.Whole; item = 0 } })
unfolding load_on_literals
cut_file = refl

-- the first of three faults in the walk's order, not in the file's
first_fault_wins : answer (file (codes "cores = 0\nversion = 1.0\ndelay = 0\n")) ≡ Err (record { kind = kind.WrongKind; spot = record { section = section.Top; row = 0; key = key.Version; item = 0 } })
unfolding load_on_literals
first_fault_wins = refl

budget_zero : answer (file (codes "version = 1\ncores = 1\ndelay = 1\n[[context]]\nname = \"a\"\ncore = 0\nbudget = 0\nperiod = 5\n"))
    ≡ Err (record { kind = kind.Control refused.ZeroBudget; spot = record { section = section.Context; row = 1; key = key.Budget; item = 0 } })
unfolding load_on_literals
budget_zero = refl

-- a wait on another core's notification
wait_elsewhere : answer (file (codes "version = 1\ncores = 2\ndelay = 1\n[[context]]\nname = \"a\"\ncore = 0\nbudget = 2\nperiod = 5\n[[note]]\nname = \"n\"\ncore = 1\n[[thread]]\nname = \"A\"\ncontext = \"a\"\npriority = 5\nscript = [\"yield\", \"wait n\", \"yield\"]\n"))
    ≡ Err (record { kind = kind.OtherCore; spot = record { section = section.Thread; row = 1; key = key.Script; item = 2 } })
unfolding load_on_literals
wait_elsewhere = refl

bad_number : answer (file (codes "version = 1\ncores = 1\ndelay = 1\n[[context]]\nname = \"a\"\ncore = 0\nbudget = 2\nperiod = 5\n[[thread]]\nname = \"A\"\ncontext = \"a\"\npriority = 5\nscript = [\"compute 05\"]\n"))
    ≡ Err (record { kind = kind.BadItem bad.BadNumber; spot = record { section = section.Thread; row = 1; key = key.Script; item = 1 } })
unfolding load_on_literals
bad_number = refl

-- a thread that computes for 5 ticks of a budget of 2 in 5, and an order for its context
system_of_a_file : answer (file (codes "version = 1\ncores = 1\ndelay = 1\n\n[[context]]\nname = \"a\"\ncore = 0\nbudget = 2\nperiod = 5\n\n[[thread]]\nname = \"A\"\ncontext = \"a\"\npriority = 5\nrounds = 1\nscript = [\"compute 5\"]\n\n[[order]]\nat = 7\ncore = 0\ncontext = \"a\"\nbudget = 3\nperiod = 6\nextra_refills = 1\n"))
    ≡ Ok (record {
      cores = 1;
      delay = 1;
      call = 1;
      min_budget = 1;
      contexts = record { name = codes "a"; core = 0; config = record { budget = 2; period = 5; extra = 0 }; mode = modes.Sporadic } ∷ [];
      notes = [];
      threads = record { name = codes "A"; context = 0; priority = 5; start = 0; rounds = 1; deadline = 0; script = items.Compute 5 ∷ [] } ∷ [];
      orders = record { moment = 7; context = 0; config = record { budget = 3; period = 6; extra = 1 } } ∷ [];
      links = [];
      servers = 0;
      sources = [];
      beats = [];
      chains = [];
    })
unfolding load_on_literals
system_of_a_file = refl

-- links are of version 2 alone
link_in_version_1 : answer (file (codes "version = 1\ncores = 2\ndelay = 1\n[[link]]\nmaker = 0\nhome = 1\ndelay = 3\n"))
    ≡ Err (record { kind = kind.UnknownKey; spot = record { section = section.Top; row = 0; key = key.Other; item = 0 } })
unfolding load_on_literals
link_in_version_1 = refl

link_in_version_2 : answer (file (codes "version = 2\ncores = 2\ndelay = 1\n[[link]]\nmaker = 0\nhome = 1\ndelay = 3\n"))
    ≡ Ok (record {
      cores = 2;
      delay = 1;
      call = 1;
      min_budget = 1;
      contexts = [];
      notes = [];
      threads = [];
      orders = [];
      links = record { maker = 0; home = 1; delay = 3 } ∷ [];
      servers = 0;
      sources = [];
      beats = [];
      chains = [];
    })
unfolding load_on_literals
link_in_version_2 = refl

link_to_itself : answer (file (codes "version = 2\ncores = 2\ndelay = 1\n[[link]]\nmaker = 1\nhome = 1\ndelay = 1\n"))
    ≡ Err (record { kind = kind.SelfLink; spot = record { section = section.Link; row = 1; key = key.Home; item = 0 } })
unfolding load_on_literals
link_to_itself = refl

-- the way back is no second link, the same way again is one
link_twice : answer (file (codes "version = 2\ncores = 2\ndelay = 1\nlink = [{maker=0,home=1,delay=1},{maker=1,home=0,delay=1},{maker=0,home=1,delay=2}]\n"))
    ≡ Err (record { kind = kind.DoubleLink; spot = record { section = section.Link; row = 3; key = key.Home; item = 0 } })
unfolding load_on_literals
link_twice = refl

-- the lines of faults
bad_item_is_told : load_fault_text (record { kind = kind.BadItem bad.BadNumber; spot = record { section = section.Thread; row = 2; key = key.Script; item = 3 } })
    ≡ codes "bad item: bad number at thread 2 script item 3"
unfolding digits
bad_item_is_told = refl

refused_configuration_is_told : load_fault_text (record { kind = kind.Control refused.BudgetTooSmall; spot = record { section = section.Order; row = 4096; key = key.ExtraRefills; item = 0 } })
    ≡ codes "control: budget too small at order 4096 extra_refills"
unfolding digits
refused_configuration_is_told = refl

other_key_is_told : load_fault_text (record { kind = kind.UnknownKey; spot = record { section = section.Top; row = 0; key = key.Other; item = 0 } })
    ≡ codes "unknown key at top ?"
other_key_is_told = refl

array_is_told : load_fault_text (record { kind = kind.TooMany; spot = record { section = section.Note; row = 0; key = key.Whole; item = 0 } })
    ≡ codes "too many at note"
array_is_told = refl

no_memory_has_no_place : load_fault_text no_memory ≡ codes "no memory"
no_memory_has_no_place = refl

-- so are modes
mode_in_version_1 : answer (file (codes "version = 1\ncores = 1\ndelay = 1\n[[context]]\nname = \"a\"\ncore = 0\nbudget = 4\nperiod = 10\nmode = \"bandwidth\"\n"))
    ≡ Err (record { kind = kind.UnknownKey; spot = record { section = section.Context; row = 1; key = key.Other; item = 0 } })
unfolding load_on_literals
mode_in_version_1 = refl

mode_in_version_2 : answer (file (codes "version = 2\ncores = 1\ndelay = 1\n[[context]]\nname = \"a\"\ncore = 0\nbudget = 4\nperiod = 10\nmode = \"bandwidth\"\n"))
    ≡ Ok (record {
      cores = 1;
      delay = 1;
      call = 1;
      min_budget = 1;
      contexts = record { name = codes "a"; core = 0; config = record { budget = 4; period = 10; extra = 0 }; mode = modes.Bandwidth } ∷ [];
      notes = [];
      threads = [];
      orders = [];
      links = [];
      servers = 0;
      sources = [];
      beats = [];
      chains = [];
    })
unfolding load_on_literals
mode_in_version_2 = refl

unknown_mode : answer (file (codes "version = 2\ncores = 1\ndelay = 1\n[[context]]\nname = \"a\"\ncore = 0\nbudget = 4\nperiod = 10\nmode = \"fast\"\n"))
    ≡ Err (record { kind = kind.OutOfRange; spot = record { section = section.Context; row = 1; key = key.Mode; item = 0 } })
unfolding load_on_literals
unknown_mode = refl

mode_of_a_slice : answer (file (codes "version = 2\ncores = 1\ndelay = 1\n[[context]]\nname = \"a\"\ncore = 0\nbudget = 3\nperiod = 3\nmode = \"bandwidth\"\n"))
    ≡ Err (record { kind = kind.ModeOfSlice; spot = record { section = section.Context; row = 1; key = key.Mode; item = 0 } })
unfolding load_on_literals
mode_of_a_slice = refl

-- the configuration is tested before its mode is
no_budget_of_a_slice : answer (file (codes "version = 2\ncores = 1\ndelay = 1\n[[context]]\nname = \"a\"\ncore = 0\nbudget = 0\nperiod = 0\nmode = \"bandwidth\"\n"))
    ≡ Err (record { kind = kind.Control refused.ZeroBudget; spot = record { section = section.Context; row = 1; key = key.Budget; item = 0 } })
unfolding load_on_literals
no_budget_of_a_slice = refl

-- in version 3 a context that says no mode has bandwidth mode, and one that is round robin the
-- other one
mode_by_default_in_version_3 : answer (file (codes "version = 3\ncores = 1\ndelay = 1\n[[context]]\nname = \"d\"\ncore = 0\nbudget = 9\nperiod = 20\n"))
    ≡ Ok (record {
      cores = 1;
      delay = 1;
      call = 1;
      min_budget = 1;
      contexts = record { name = codes "d"; core = 0; config = record { budget = 9; period = 20; extra = 0 }; mode = modes.Bandwidth } ∷ [];
      notes = [];
      servers = 0;
      threads = [];
      orders = [];
      links = [];
      sources = [];
      beats = [];
      chains = [];
    })
unfolding load_on_literals
mode_by_default_in_version_3 = refl

mode_by_default_of_a_slice : answer (file (codes "version = 3\ncores = 1\ndelay = 1\n[[context]]\nname = \"d\"\ncore = 0\nbudget = 3\nperiod = 3\n"))
    ≡ Ok (record {
      cores = 1;
      delay = 1;
      call = 1;
      min_budget = 1;
      contexts = record { name = codes "d"; core = 0; config = record { budget = 3; period = 3; extra = 0 }; mode = modes.Sporadic } ∷ [];
      notes = [];
      servers = 0;
      threads = [];
      orders = [];
      links = [];
      sources = [];
      beats = [];
      chains = [];
    })
unfolding load_on_literals
mode_by_default_of_a_slice = refl

-- the word that a notification holds at first
first_word : answer (file (codes "version = 3\ncores = 1\ndelay = 1\n[[note]]\nname = \"n\"\ncore = 0\nword = 6\n"))
    ≡ Ok (record {
      cores = 1;
      delay = 1;
      call = 1;
      min_budget = 1;
      contexts = [];
      notes = record { name = codes "n"; core = 0; word = 6 } ∷ [];
      servers = 0;
      threads = [];
      orders = [];
      links = [];
      sources = [];
      beats = [];
      chains = [];
    })
unfolding load_on_literals
first_word = refl

word_in_version_2 : answer (file (codes "version = 2\ncores = 1\ndelay = 1\n[[note]]\nname = \"n\"\ncore = 0\nword = 6\n"))
    ≡ Err (record { kind = kind.UnknownKey; spot = record { section = section.Note; row = 1; key = key.Other; item = 0 } })
unfolding load_on_literals
word_in_version_2 = refl

-- handlers; the last never ends
handlers : answer (file (codes "version = 3\ncores = 1\ndelay = 1\n[[context]]\nname = \"d\"\ncore = 0\nbudget = 9\nperiod = 20\n[[note]]\nname = \"n\"\ncore = 0\n[[thread]]\nname = \"D\"\ncontext = \"d\"\npriority = 5\nscript = [\"wait n\", \"on 1\", \"compute 2\", \"on 2\", \"spin\"]\n"))
    ≡ Ok (record {
      cores = 1;
      delay = 1;
      call = 1;
      min_budget = 1;
      contexts = record { name = codes "d"; core = 0; config = record { budget = 9; period = 20; extra = 0 }; mode = modes.Bandwidth } ∷ [];
      notes = record { name = codes "n"; core = 0; word = 0 } ∷ [];
      servers = 0;
      threads = record { name = codes "D"; context = 0; priority = 5; start = 0; rounds = 0; deadline = 0; script = items.Wait 0 ∷ items.On 1 ∷ items.Compute 2 ∷ items.On 2 ∷ items.Spin ∷ [] } ∷ [];
      orders = [];
      links = [];
      sources = [];
      beats = [];
      chains = [];
    })
unfolding load_on_literals
handlers = refl

-- a call becomes the steps before the first handler and those of the handlers that have a bit of
-- its badge
a_call_becomes_the_steps_of_its_badge : answer (file (codes "version = 3\ncores = 1\ndelay = 1\n[[context]]\nname = \"d\"\ncore = 0\nbudget = 9\nperiod = 20\n[[server]]\nname = \"v\"\ncore = 0\npriority = 40\nscript = [\"compute 4\", \"on 1\", \"yield\", \"on 6\", \"compute 7\"]\n[[thread]]\nname = \"D\"\ncontext = \"d\"\npriority = 5\nscript = [\"call v 2\", \"compute 1\"]\n"))
    ≡ Ok (record {
      cores = 1;
      delay = 1;
      call = 1;
      min_budget = 1;
      contexts = record { name = codes "d"; core = 0; config = record { budget = 9; period = 20; extra = 0 }; mode = modes.Bandwidth } ∷ [];
      notes = record { name = codes "v"; core = 0; word = 1 } ∷ [];
      servers = 1;
      threads = record { name = codes "D"; context = 0; priority = 5; start = 0; rounds = 0; deadline = 0; script = items.Enter 0 40 ∷ items.Compute 4 ∷ items.Compute 7 ∷ items.Leave 0 5 ∷ items.Compute 1 ∷ [] } ∷ [];
      orders = [];
      links = [];
      sources = [];
      beats = [];
      chains = [];
    })
unfolding load_on_literals
a_call_becomes_the_steps_of_its_badge = refl

-- a server that calls another one: the priority after a call is the one before it
servers_that_call : answer (file (codes "version = 3\ncores = 1\ndelay = 1\n[[context]]\nname = \"d\"\ncore = 0\nbudget = 9\nperiod = 20\n[[note]]\nname = \"n\"\ncore = 0\n[[server]]\nname = \"v\"\ncore = 0\npriority = 40\nscript = [\"compute 4\", \"on 1\", \"yield\", \"on 6\", \"compute 7\"]\n[[server]]\nname = \"w\"\ncore = 0\npriority = 50\nscript = [\"call v 8\", \"compute 2\"]\n[[thread]]\nname = \"D\"\ncontext = \"d\"\npriority = 5\nscript = [\"call w 1\"]\n"))
    ≡ Ok (record {
      cores = 1;
      delay = 1;
      call = 1;
      min_budget = 1;
      contexts = record { name = codes "d"; core = 0; config = record { budget = 9; period = 20; extra = 0 }; mode = modes.Bandwidth } ∷ [];
      notes = record { name = codes "n"; core = 0; word = 0 } ∷ record { name = codes "v"; core = 0; word = 1 } ∷ record { name = codes "w"; core = 0; word = 1 } ∷ [];
      servers = 2;
      threads = record { name = codes "D"; context = 0; priority = 5; start = 0; rounds = 0; deadline = 0; script = items.Enter 2 50 ∷ items.Enter 1 40 ∷ items.Compute 4 ∷ items.Leave 1 50 ∷ items.Compute 2 ∷ items.Leave 2 5 ∷ [] } ∷ [];
      orders = [];
      links = [];
      sources = [];
      beats = [];
      chains = [];
    })
unfolding load_on_literals
servers_that_call = refl

-- a server calls earlier ones alone
call_of_itself : answer (file (codes "version = 3\ncores = 1\ndelay = 1\n[[server]]\nname = \"v\"\ncore = 0\npriority = 40\nscript = [\"yield\", \"call v 1\"]\n"))
    ≡ Err (record { kind = kind.UnknownName; spot = record { section = section.Server; row = 1; key = key.Script; item = 2 } })
unfolding load_on_literals
call_of_itself = refl

call_of_another_core : answer (file (codes "version = 3\ncores = 2\ndelay = 1\n[[context]]\nname = \"d\"\ncore = 0\nbudget = 9\nperiod = 20\n[[server]]\nname = \"v\"\ncore = 1\npriority = 40\nscript = [\"yield\"]\n[[thread]]\nname = \"D\"\ncontext = \"d\"\npriority = 5\nscript = [\"call v 1\"]\n"))
    ≡ Err (record { kind = kind.OtherCore; spot = record { section = section.Thread; row = 1; key = key.Script; item = 1 } })
unfolding load_on_literals
call_of_another_core = refl

-- notifications and servers have one name space
server_of_a_notification_s_name : answer (file (codes "version = 3\ncores = 1\ndelay = 1\n[[note]]\nname = \"n\"\ncore = 0\n[[server]]\nname = \"n\"\ncore = 0\npriority = 40\nscript = [\"yield\"]\n"))
    ≡ Err (record { kind = kind.DoubleName; spot = record { section = section.Server; row = 1; key = key.Name; item = 0 } })
unfolding load_on_literals
server_of_a_notification_s_name = refl

on_in_version_2 : answer (file (codes "version = 2\ncores = 1\ndelay = 1\n[[context]]\nname = \"d\"\ncore = 0\nbudget = 9\nperiod = 20\n[[note]]\nname = \"n\"\ncore = 0\n[[thread]]\nname = \"D\"\ncontext = \"d\"\npriority = 5\nscript = [\"wait n\", \"on 1\", \"compute 2\"]\n"))
    ≡ Err (record { kind = kind.BadItem bad.UnknownWord; spot = record { section = section.Thread; row = 1; key = key.Script; item = 2 } })
unfolding load_on_literals
on_in_version_2 = refl

on_without_wait : answer (file (codes "version = 3\ncores = 1\ndelay = 1\n[[context]]\nname = \"d\"\ncore = 0\nbudget = 9\nperiod = 20\n[[thread]]\nname = \"D\"\ncontext = \"d\"\npriority = 5\nscript = [\"compute 1\", \"on 1\", \"compute 2\"]\n"))
    ≡ Err (record { kind = kind.OnWithoutWait; spot = record { section = section.Thread; row = 1; key = key.Script; item = 2 } })
unfolding load_on_literals
on_without_wait = refl

-- of the waits only the first of several items stands last or directly before a handler
wait_before_on : answer (file (codes "version = 3\ncores = 1\ndelay = 1\n[[context]]\nname = \"d\"\ncore = 0\nbudget = 9\nperiod = 20\n[[note]]\nname = \"n\"\ncore = 0\n[[thread]]\nname = \"D\"\ncontext = \"d\"\npriority = 5\nscript = [\"wait n\", \"on 1\", \"wait n\", \"on 2\", \"compute 2\"]\n"))
    ≡ Err (record { kind = kind.WaitLast; spot = record { section = section.Thread; row = 1; key = key.Script; item = 3 } })
unfolding load_on_literals
wait_before_on = refl

wait_alone : answer (file (codes "version = 3\ncores = 1\ndelay = 1\n[[context]]\nname = \"d\"\ncore = 0\nbudget = 9\nperiod = 20\n[[note]]\nname = \"n\"\ncore = 0\n[[thread]]\nname = \"D\"\ncontext = \"d\"\npriority = 5\nscript = [\"wait n\"]\n"))
    ≡ Err (record { kind = kind.WaitLast; spot = record { section = section.Thread; row = 1; key = key.Script; item = 1 } })
unfolding load_on_literals
wait_alone = refl

-- a place names items, not steps
wait_behind_a_call : answer (file (codes "version = 3\ncores = 1\ndelay = 1\n[[context]]\nname = \"d\"\ncore = 0\nbudget = 9\nperiod = 20\n[[note]]\nname = \"n\"\ncore = 0\n[[server]]\nname = \"v\"\ncore = 0\npriority = 40\nscript = [\"compute 4\", \"on 1\", \"yield\", \"on 6\", \"compute 7\"]\n[[thread]]\nname = \"D\"\ncontext = \"d\"\npriority = 5\nscript = [\"call v 2\", \"wait n\"]\n"))
    ≡ Err (record { kind = kind.WaitLast; spot = record { section = section.Thread; row = 1; key = key.Script; item = 2 } })
unfolding load_on_literals
wait_behind_a_call = refl

-- three dates at 1, 4 and 11, and dates without end
sources_and_chains : answer (file (codes "version = 3\ncores = 1\ndelay = 1\n[[context]]\nname = \"d\"\ncore = 0\nbudget = 9\nperiod = 20\n[[note]]\nname = \"n\"\ncore = 0\n[[source]]\nname = \"s\"\nnote = \"n\"\nbadge = 2\nperiod = 10\nstart = 1\ncount = 3\nat = [0, 3]\n[[source]]\nname = \"k\"\nnote = \"n\"\nbadge = 1\nperiod = 7\n[[chain]]\nname = \"e\"\nsource = \"k\"\nthread = \"D\"\nbadges = 3\ndeadline = 8\n[[thread]]\nname = \"D\"\ncontext = \"d\"\npriority = 5\nscript = [\"wait n\", \"on 1\", \"compute 2\"]\n"))
    ≡ Ok (record {
      cores = 1;
      delay = 1;
      call = 1;
      min_budget = 1;
      contexts = record { name = codes "d"; core = 0; config = record { budget = 9; period = 20; extra = 0 }; mode = modes.Bandwidth } ∷ [];
      notes = record { name = codes "n"; core = 0; word = 0 } ∷ [];
      servers = 0;
      threads = record { name = codes "D"; context = 0; priority = 5; start = 0; rounds = 0; deadline = 0; script = items.Wait 0 ∷ items.On 1 ∷ items.Compute 2 ∷ [] } ∷ [];
      orders = [];
      links = [];
      sources = record { name = codes "s"; note = 0; badge = 2 } ∷ record { name = codes "k"; note = 0; badge = 1 } ∷ [];
      beats = record { source = 0; first = 1; period = 10; count = 2 } ∷ record { source = 0; first = 4; period = 10; count = 1 } ∷ record { source = 1; first = 0; period = 7; count = 0 } ∷ [];
      chains = record { name = codes "e"; source = 1; thread = 0; badges = 3; deadline = 8 } ∷ [];
    })
unfolding load_on_literals
sources_and_chains = refl

source_in_version_2 : answer (file (codes "version = 2\ncores = 1\ndelay = 1\n[[note]]\nname = \"n\"\ncore = 0\n[[source]]\nname = \"s\"\nnote = \"n\"\nbadge = 2\nperiod = 10\n"))
    ≡ Err (record { kind = kind.UnknownKey; spot = record { section = section.Top; row = 0; key = key.Other; item = 0 } })
unfolding load_on_literals
source_in_version_2 = refl

at_does_not_rise : answer (file (codes "version = 3\ncores = 1\ndelay = 1\n[[note]]\nname = \"n\"\ncore = 0\n[[source]]\nname = \"s\"\nnote = \"n\"\nbadge = 2\nperiod = 10\nat = [0, 3, 3]\n"))
    ≡ Err (record { kind = kind.OutOfRange; spot = record { section = section.Source; row = 1; key = key.At; item = 3 } })
unfolding load_on_literals
at_does_not_rise = refl

at_beyond_the_period : answer (file (codes "version = 3\ncores = 1\ndelay = 1\n[[note]]\nname = \"n\"\ncore = 0\n[[source]]\nname = \"s\"\nnote = \"n\"\nbadge = 2\nperiod = 10\nat = [10]\n"))
    ≡ Err (record { kind = kind.OutOfRange; spot = record { section = section.Source; row = 1; key = key.At; item = 1 } })
unfolding load_on_literals
at_beyond_the_period = refl

at_has_no_number : answer (file (codes "version = 3\ncores = 1\ndelay = 1\n[[note]]\nname = \"n\"\ncore = 0\n[[source]]\nname = \"s\"\nnote = \"n\"\nbadge = 2\nperiod = 10\nat = []\n"))
    ≡ Err (record { kind = kind.OutOfRange; spot = record { section = section.Source; row = 1; key = key.At; item = 0 } })
unfolding load_on_literals
at_has_no_number = refl

chain_to_a_thread_that_never_waits : answer (file (codes "version = 3\ncores = 1\ndelay = 1\n[[context]]\nname = \"d\"\ncore = 0\nbudget = 9\nperiod = 20\n[[note]]\nname = \"n\"\ncore = 0\n[[source]]\nname = \"s\"\nnote = \"n\"\nbadge = 2\nperiod = 10\n[[thread]]\nname = \"D\"\ncontext = \"d\"\npriority = 5\nscript = [\"compute 1\"]\n[[chain]]\nname = \"e\"\nsource = \"s\"\nthread = \"D\"\n"))
    ≡ Err (record { kind = kind.NoWait; spot = record { section = section.Chain; row = 1; key = key.Thread; item = 0 } })
unfolding load_on_literals
chain_to_a_thread_that_never_waits = refl

chain_of_badges_to_an_inner_wait : answer (file (codes "version = 3\ncores = 1\ndelay = 1\n[[context]]\nname = \"d\"\ncore = 0\nbudget = 9\nperiod = 20\n[[note]]\nname = \"n\"\ncore = 0\n[[source]]\nname = \"s\"\nnote = \"n\"\nbadge = 2\nperiod = 10\n[[thread]]\nname = \"D\"\ncontext = \"d\"\npriority = 5\nscript = [\"compute 1\", \"wait n\", \"compute 1\"]\n[[chain]]\nname = \"e\"\nsource = \"s\"\nthread = \"D\"\nbadges = 1\n"))
    ≡ Err (record { kind = kind.NoWait; spot = record { section = section.Chain; row = 1; key = key.Badges; item = 0 } })
unfolding load_on_literals
chain_of_badges_to_an_inner_wait = refl
