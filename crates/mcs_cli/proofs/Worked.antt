-- The whole output of a small system, lines that are taken and refused, and lines of faults, evaluated.
use Rattle.std.proofs.Common.{◌≡◌, ◌≤◌, ◌<◌, ◌-◌, ◌^◌, ℕ, length, refl, codes, [], ◌∷◌, None, Some, true, false, arith}
use Rattle.mcs_script.specs.declared.item.Item.TheVariants.{Compute}
use Rattle.mcs_script.specs.declared.fault.ItemFault.TheVariants as bad
use Rattle.mcs_control.specs.declared.config.Mode.TheVariants as mode
use Rattle.mcs_load.specs.declared.fault.FaultKind.TheVariants as kind
use Rattle.mcs_load.specs.declared.spot.Key.TheVariants as key
use Rattle.mcs_load.specs.declared.spot.Section.TheVariants as section
use Rattle.mcs_load.specs.Memory.{no_memory}
use Rattle.mcs_system.specs.System.{System}
use Rattle.std.specs.Fmt.{digits}
use Rattle.mcs_cli.specs.Flow.{TakesLine}
use Rattle.mcs_cli.specs.Fault.{run_fault_text}
use Rattle.mcs_cli.specs.Devices.{IsCounted}
use Rattle.mcs_cli.specs.Run.{output_of, IsTooLong}
use Rattle.mcs_words.specs.declared.asked.Show.TheVariants.{Both}
use Rattle.mcs_cli.specs.declared.fault.RunFault.TheVariants as fault

one_thread : System
one_thread =
    record {
      cores = 1;
      delay = 1;
      call = 1;
      min_budget = 1;
      contexts = record { name = codes "a"; core = 0; config = record { budget = 2; period = 5; extra = 0 }; mode = mode.Sporadic } ∷ [];
      notes = [];
      threads =
          record { name = codes "A"; context = 0; priority = 5; start = 0; rounds = 1; deadline = 0; script = Compute 5 ∷ [] } ∷ [];
      orders = [];
      links = [];
      servers = 0;
      sources = [];
      beats = [];
      chains = [];
    }

-- a horizon of 2: the first head is spent
both_to_two : output_of Both one_thread 2 ≡ codes "0 0 release A\n0 0 run A\n2 0 stop A spent 2 until 5\nthread A ran 2 rounds 0 least 0 greatest 0 total 0 late 0 spent 1 throttled 0 longest 0\ncore 0 busy 2 idle 0\n"
unfolding one_thread digits
both_to_two = refl

-- a text of one byte waits, and a line of two comes: two bytes are written, and one waits
line_taken : TakesLine (Some (codes "x")) (Some (codes "xab")) (codes "a") (codes "c") (codes "bc") true
line_taken = (codes "ab", refl, refl)

-- a source that does not tell its bytes and has counted 2^26 of them or less is not blamed for a text that is too long ..
short_is_no_fault : (given : ℕ) → given ≤ 2 ^ 26 → IsTooLong None None 0 given → ⊥
short_is_no_fault given few h = no (length h.0) h.1.1 h.2
  where
    no : (n : ℕ) → IsCounted 0 given n → 2 ^ 26 < n → ⊥
    no n c l = omega (arith, few, c.least, l)

-- .. and what it counted is as much as was read
counts_what_was_read : (given n : ℕ) → given < 2 ^ 64 - 1 → IsCounted 0 given n → given ≡ n
counts_what_was_read given n l c = omega (arith, l, c.most, c.least)

-- the target fails after one byte
line_refused : TakesLine (Some (codes "x")) (Some (codes "xa")) (codes "a") (codes "abc") (codes "bc") false
line_refused = (1, refl)

double_name_line : run_fault_text (fault.Load (record { kind = kind.DoubleName; spot = record { section = section.Context; row = 2; key = key.Name; item = 0 } }))
    ≡ codes "mcsim: double name at context 2 name"
unfolding digits
double_name_line = refl

bad_number_line : run_fault_text (fault.Load (record { kind = kind.BadItem bad.BadNumber; spot = record { section = section.Thread; row = 2; key = key.Script; item = 3 } }))
    ≡ codes "mcsim: bad item: bad number at thread 2 script item 3"
unfolding digits
bad_number_line = refl

no_memory_line : run_fault_text (fault.Load no_memory) ≡ codes "mcsim: no memory"
no_memory_line = refl
