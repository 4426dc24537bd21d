-- Written by checks/proofs/theorems.py from crates/mcs_corpus/data/random_one and crates/mcs_corpus/data/random_several: schedules of systems, each by computing.
use Rattle.std.specs.Prelude.{◌≡◌, List, [], ◌∷◌, Some, None, refl, codes}
use Rattle.mcs_ticks.specs.declared.row.Row.{Row}
use Rattle.mcs_ticks.specs.declared.row.What.TheVariants as row
use Rattle.mcs_ticks.specs.declared.row.Why.TheVariants as why
use Rattle.mcs_script.specs.declared.item.Item.TheVariants.{Compute, Signal, Wait, Yield}
use Rattle.mcs_system.specs.System.{System}
use Rattle.mcs_core.specs.Clock.{schedule}
use Rattle.mcs_worked.specs.Parts.{context, note, thread, order, at}

abbrev pub random_one_01_system : System
random_one_01_system = record {
  cores = 1;
  delay = 2;
  call = 1;
  min_budget = 1;
  contexts =
      context (codes "s00") 0 4 63 0
      ∷ context (codes "r00") 0 3 3 0
      ∷ [];
  notes =
      note (codes "n00") 0
      ∷ [];
  threads =
      thread (codes "S00") 0 5 0 0 0 ((Wait 0) ∷ (Compute 1) ∷ [])
      ∷ thread (codes "R00") 1 2 4 0 0 ((Compute 3) ∷ (Signal 0 6) ∷ (Compute 12) ∷ (Signal 0 9) ∷ [])
      ∷ [];
  orders = [];
  links = [];
  servers = 0;
  sources = [];
  beats = [];
  chains = [];
}

abbrev pub random_one_01_rows : List Row
random_one_01_rows =
    at 0 0 (row.Release 0)
    ∷ at 0 0 (row.Run 0)
    ∷ at 1 0 (row.Stop 0 why.Wait 1 None)
    ∷ at 4 0 (row.Release 1)
    ∷ at 4 0 (row.Run 1)
    ∷ at 7 0 (row.Stop 1 why.Spent 3 None)
    ∷ at 7 0 (row.Run 1)
    ∷ at 8 0 (row.Signal 1 0 6)
    ∷ at 8 0 (row.Wake 0 0 6 None)
    ∷ at 8 0 (row.Stop 1 why.Preempt 1 None)
    ∷ at 8 0 (row.Run 0)
    ∷ at 9 0 (row.Round 0 1 1)
    ∷ at 10 0 (row.Stop 0 why.Wait 2 None)
    ∷ at 10 0 (row.Run 1)
    ∷ at 12 0 (row.Stop 1 why.Spent 2 None)
    ∷ at 12 0 (row.Run 1)
    ∷ at 15 0 (row.Stop 1 why.Spent 3 None)
    ∷ at 15 0 (row.Run 1)
    ∷ at 18 0 (row.Stop 1 why.Spent 3 None)
    ∷ at 18 0 (row.Run 1)
    ∷ at 21 0 (row.Stop 1 why.Spent 3 None)
    ∷ at 21 0 (row.Run 1)
    ∷ at 23 0 (row.Signal 1 0 9)
    ∷ at 23 0 (row.Wake 0 0 9 None)
    ∷ at 23 0 (row.Round 1 1 19)
    ∷ at 23 0 (row.Stop 1 why.Preempt 2 None)
    ∷ at 23 0 (row.Run 0)
    ∷ at 24 0 (row.Round 0 2 1)
    ∷ at 24 0 (row.Stop 0 why.Spent 1 (Some 70))
    ∷ at 24 0 (row.Run 1)
    ∷ at 25 0 (row.Stop 1 why.Spent 1 None)
    ∷ at 25 0 (row.Run 1)
    ∷ at 28 0 (row.Signal 1 0 6)
    ∷ at 28 0 (row.Hold 0 6)
    ∷ at 28 0 (row.Stop 1 why.Spent 3 None)
    ∷ at 28 0 (row.Run 1)
    ∷ at 31 0 (row.Stop 1 why.Spent 3 None)
    ∷ at 31 0 (row.Run 1)
    ∷ at 34 0 (row.Stop 1 why.Spent 3 None)
    ∷ at 34 0 (row.Run 1)
    ∷ at 37 0 (row.Stop 1 why.Spent 3 None)
    ∷ at 37 0 (row.Run 1)
    ∷ at 40 0 (row.Stop 1 why.Spent 3 None)
    ∷ at 40 0 (row.Run 1)
    ∷ at 41 0 (row.Signal 1 0 9)
    ∷ at 41 0 (row.Hold 0 15)
    ∷ at 41 0 (row.Round 1 2 18)
    ∷ at 43 0 (row.Stop 1 why.Spent 3 None)
    ∷ at 43 0 (row.Run 1)
    ∷ at 45 0 (row.Signal 1 0 6)
    ∷ at 45 0 (row.Hold 0 15)
    ∷ at 46 0 (row.Stop 1 why.Spent 3 None)
    ∷ at 46 0 (row.Run 1)
    ∷ []

random_one_01 : schedule random_one_01_system 48 ≡ random_one_01_rows
random_one_01 = refl

abbrev pub random_one_02_system : System
random_one_02_system = record {
  cores = 1;
  delay = 3;
  call = 1;
  min_budget = 1;
  contexts =
      context (codes "s00") 0 14 61 2
      ∷ context (codes "r00") 0 5 6 3
      ∷ context (codes "r01") 0 3 3 0
      ∷ [];
  notes =
      note (codes "n00") 0
      ∷ [];
  threads =
      thread (codes "S00") 0 5 0 0 0 ((Wait 0) ∷ (Compute 3) ∷ (Compute 2) ∷ (Wait 0) ∷ (Compute 1) ∷ [])
      ∷ thread (codes "R00") 1 7 5 0 0 ((Compute 8) ∷ (Signal 0 3) ∷ [])
      ∷ thread (codes "R01") 2 1 1 0 0 ((Compute 9) ∷ (Signal 0 9) ∷ [])
      ∷ [];
  orders = [];
  links = [];
  servers = 0;
  sources = [];
  beats = [];
  chains = [];
}

abbrev pub random_one_02_rows : List Row
random_one_02_rows =
    at 0 0 (row.Release 0)
    ∷ at 0 0 (row.Run 0)
    ∷ at 1 0 (row.Stop 0 why.Wait 1 None)
    ∷ at 1 0 (row.Release 2)
    ∷ at 1 0 (row.Run 2)
    ∷ at 4 0 (row.Stop 2 why.Spent 3 None)
    ∷ at 4 0 (row.Run 2)
    ∷ at 5 0 (row.Release 1)
    ∷ at 5 0 (row.Stop 2 why.Preempt 1 None)
    ∷ at 5 0 (row.Run 1)
    ∷ at 10 0 (row.Stop 1 why.Spent 5 (Some 11))
    ∷ at 10 0 (row.Run 2)
    ∷ at 11 0 (row.Release 1)
    ∷ at 11 0 (row.Stop 2 why.Preempt 1 None)
    ∷ at 11 0 (row.Run 1)
    ∷ at 15 0 (row.Signal 1 0 3)
    ∷ at 15 0 (row.Wake 0 0 3 None)
    ∷ at 15 0 (row.Round 1 1 10)
    ∷ at 16 0 (row.Stop 1 why.Spent 5 (Some 17))
    ∷ at 16 0 (row.Run 0)
    ∷ at 17 0 (row.Release 1)
    ∷ at 17 0 (row.Stop 0 why.Preempt 1 None)
    ∷ at 17 0 (row.Run 1)
    ∷ at 22 0 (row.Stop 1 why.Spent 5 (Some 23))
    ∷ at 22 0 (row.Run 0)
    ∷ at 23 0 (row.Release 1)
    ∷ at 23 0 (row.Stop 0 why.Preempt 1 None)
    ∷ at 23 0 (row.Run 1)
    ∷ at 26 0 (row.Signal 1 0 3)
    ∷ at 26 0 (row.Hold 0 3)
    ∷ at 26 0 (row.Round 1 2 11)
    ∷ at 28 0 (row.Stop 1 why.Spent 5 (Some 29))
    ∷ at 28 0 (row.Run 0)
    ∷ at 29 0 (row.Release 1)
    ∷ at 29 0 (row.Stop 0 why.Preempt 1 None)
    ∷ at 29 0 (row.Run 1)
    ∷ at 34 0 (row.Stop 1 why.Spent 5 (Some 35))
    ∷ at 34 0 (row.Run 0)
    ∷ at 35 0 (row.Release 1)
    ∷ at 35 0 (row.Stop 0 why.Preempt 1 None)
    ∷ at 35 0 (row.Run 1)
    ∷ at 37 0 (row.Signal 1 0 3)
    ∷ at 37 0 (row.Hold 0 3)
    ∷ at 37 0 (row.Round 1 3 11)
    ∷ at 40 0 (row.Stop 1 why.Spent 5 (Some 41))
    ∷ at 40 0 (row.Run 0)
    ∷ at 41 0 (row.Release 1)
    ∷ at 41 0 (row.Stop 0 why.Preempt 1 None)
    ∷ at 41 0 (row.Run 1)
    ∷ at 46 0 (row.Stop 1 why.Spent 5 (Some 47))
    ∷ at 46 0 (row.Run 0)
    ∷ at 47 0 (row.Got 0 0 3)
    ∷ at 47 0 (row.Release 1)
    ∷ at 47 0 (row.Stop 0 why.Preempt 1 None)
    ∷ at 47 0 (row.Run 1)
    ∷ at 48 0 (row.Signal 1 0 3)
    ∷ at 48 0 (row.Hold 0 3)
    ∷ at 48 0 (row.Round 1 4 11)
    ∷ []

random_one_02 : schedule random_one_02_system 49 ≡ random_one_02_rows
random_one_02 = refl

abbrev pub random_one_03_system : System
random_one_03_system = record {
  cores = 1;
  delay = 4;
  call = 1;
  min_budget = 1;
  contexts =
      context (codes "s00") 0 13 84 0
      ∷ context (codes "s01") 0 4 79 2
      ∷ context (codes "r00") 0 7 9 0
      ∷ [];
  notes =
      note (codes "n00") 0
      ∷ note (codes "n01") 0
      ∷ [];
  threads =
      thread (codes "S00") 0 6 0 0 0 ((Wait 0) ∷ (Compute 3) ∷ [])
      ∷ thread (codes "S01") 1 5 0 0 0 ((Wait 1) ∷ (Compute 4) ∷ (Compute 1) ∷ (Wait 1) ∷ (Compute 2) ∷ [])
      ∷ thread (codes "R00") 2 7 5 0 0 ((Compute 6) ∷ (Signal 1 5) ∷ [])
      ∷ [];
  orders = [];
  links = [];
  servers = 0;
  sources = [];
  beats = [];
  chains = [];
}

abbrev pub random_one_03_rows : List Row
random_one_03_rows =
    at 0 0 (row.Release 0)
    ∷ at 0 0 (row.Release 1)
    ∷ at 0 0 (row.Run 0)
    ∷ at 1 0 (row.Stop 0 why.Wait 1 None)
    ∷ at 1 0 (row.Run 1)
    ∷ at 2 0 (row.Stop 1 why.Wait 1 None)
    ∷ at 5 0 (row.Release 2)
    ∷ at 5 0 (row.Run 2)
    ∷ at 12 0 (row.Signal 2 1 5)
    ∷ at 12 0 (row.Wake 1 1 5 None)
    ∷ at 12 0 (row.Round 2 1 7)
    ∷ at 12 0 (row.Stop 2 why.Spent 7 (Some 14))
    ∷ at 12 0 (row.Run 1)
    ∷ at 14 0 (row.Release 2)
    ∷ at 14 0 (row.Stop 1 why.Preempt 2 None)
    ∷ at 14 0 (row.Run 2)
    ∷ at 21 0 (row.Signal 2 1 5)
    ∷ at 21 0 (row.Hold 1 5)
    ∷ at 21 0 (row.Round 2 2 9)
    ∷ at 21 0 (row.Stop 2 why.Spent 7 (Some 23))
    ∷ at 21 0 (row.Run 1)
    ∷ at 22 0 (row.Stop 1 why.Spent 1 (Some 79))
    ∷ at 23 0 (row.Release 2)
    ∷ at 23 0 (row.Run 2)
    ∷ at 30 0 (row.Signal 2 1 5)
    ∷ at 30 0 (row.Hold 1 5)
    ∷ at 30 0 (row.Round 2 3 9)
    ∷ at 30 0 (row.Stop 2 why.Spent 7 (Some 32))
    ∷ at 32 0 (row.Release 2)
    ∷ at 32 0 (row.Run 2)
    ∷ at 39 0 (row.Signal 2 1 5)
    ∷ at 39 0 (row.Hold 1 5)
    ∷ at 39 0 (row.Round 2 4 9)
    ∷ at 39 0 (row.Stop 2 why.Spent 7 (Some 41))
    ∷ at 41 0 (row.Release 2)
    ∷ at 41 0 (row.Run 2)
    ∷ at 48 0 (row.Signal 2 1 5)
    ∷ at 48 0 (row.Hold 1 5)
    ∷ at 48 0 (row.Round 2 5 9)
    ∷ at 48 0 (row.Stop 2 why.Spent 7 (Some 50))
    ∷ at 50 0 (row.Release 2)
    ∷ at 50 0 (row.Run 2)
    ∷ []

random_one_03 : schedule random_one_03_system 52 ≡ random_one_03_rows
random_one_03 = refl

abbrev pub random_one_04_system : System
random_one_04_system = record {
  cores = 1;
  delay = 2;
  call = 1;
  min_budget = 4;
  contexts =
      context (codes "s00") 0 11 58 2
      ∷ context (codes "s01") 0 16 32 0
      ∷ context (codes "r00") 0 6 9 3
      ∷ context (codes "r01") 0 6 6 0
      ∷ [];
  notes =
      note (codes "n00") 0
      ∷ note (codes "n01") 0
      ∷ [];
  threads =
      thread (codes "S00") 0 6 0 0 0 ((Compute 1) ∷ [])
      ∷ thread (codes "S01") 1 5 0 0 0 ((Wait 1) ∷ (Compute 1) ∷ [])
      ∷ thread (codes "R00") 2 10 2 0 0 ((Compute 2) ∷ (Signal 1 3) ∷ (Compute 11) ∷ (Signal 0 3) ∷ (Compute 5) ∷ (Signal 0 6) ∷ [])
      ∷ thread (codes "R01") 3 1 1 0 0 ((Compute 1) ∷ (Signal 1 5) ∷ [])
      ∷ [];
  orders = [];
  links = [];
  servers = 0;
  sources = [];
  beats = [];
  chains = [];
}

abbrev pub random_one_04_rows : List Row
random_one_04_rows =
    at 0 0 (row.Release 0)
    ∷ at 0 0 (row.Release 1)
    ∷ at 0 0 (row.Run 0)
    ∷ at 1 0 (row.Round 0 1 1)
    ∷ at 1 0 (row.Release 3)
    ∷ at 2 0 (row.Round 0 2 1)
    ∷ at 2 0 (row.Release 2)
    ∷ at 2 0 (row.Stop 0 why.Preempt 2 None)
    ∷ at 2 0 (row.Run 2)
    ∷ at 5 0 (row.Signal 2 1 3)
    ∷ at 5 0 (row.Hold 1 3)
    ∷ at 8 0 (row.Stop 2 why.Spent 6 (Some 11))
    ∷ at 8 0 (row.Run 0)
    ∷ at 9 0 (row.Round 0 3 7)
    ∷ at 10 0 (row.Round 0 4 1)
    ∷ at 11 0 (row.Round 0 5 1)
    ∷ at 11 0 (row.Release 2)
    ∷ at 11 0 (row.Stop 0 why.Preempt 3 None)
    ∷ at 11 0 (row.Run 2)
    ∷ at 17 0 (row.Stop 2 why.Spent 6 (Some 20))
    ∷ at 17 0 (row.Run 0)
    ∷ at 18 0 (row.Round 0 6 7)
    ∷ at 19 0 (row.Round 0 7 1)
    ∷ at 20 0 (row.Round 0 8 1)
    ∷ at 20 0 (row.Release 2)
    ∷ at 20 0 (row.Stop 0 why.Preempt 3 (Some 55))
    ∷ at 20 0 (row.Run 2)
    ∷ at 23 0 (row.Signal 2 0 3)
    ∷ at 23 0 (row.Hold 0 3)
    ∷ at 26 0 (row.Stop 2 why.Spent 6 (Some 29))
    ∷ at 26 0 (row.Run 1)
    ∷ at 27 0 (row.Got 1 1 3)
    ∷ at 28 0 (row.Round 1 1 1)
    ∷ at 29 0 (row.Stop 1 why.Wait 3 None)
    ∷ at 29 0 (row.Release 2)
    ∷ at 29 0 (row.Run 2)
    ∷ at 32 0 (row.Signal 2 0 6)
    ∷ at 32 0 (row.Hold 0 7)
    ∷ at 32 0 (row.Round 2 1 30)
    ∷ at 35 0 (row.Signal 2 1 3)
    ∷ at 35 0 (row.Wake 1 1 3 None)
    ∷ at 35 0 (row.Stop 2 why.Spent 6 (Some 38))
    ∷ at 35 0 (row.Run 1)
    ∷ at 36 0 (row.Round 1 2 1)
    ∷ at 37 0 (row.Stop 1 why.Wait 2 None)
    ∷ at 37 0 (row.Run 3)
    ∷ at 38 0 (row.Release 2)
    ∷ at 38 0 (row.Stop 3 why.Preempt 1 None)
    ∷ at 38 0 (row.Run 2)
    ∷ at 44 0 (row.Stop 2 why.Spent 6 (Some 47))
    ∷ at 44 0 (row.Run 3)
    ∷ at 45 0 (row.Signal 3 1 5)
    ∷ at 45 0 (row.Wake 1 1 5 None)
    ∷ at 45 0 (row.Round 3 1 44)
    ∷ at 45 0 (row.Stop 3 why.Preempt 1 None)
    ∷ at 45 0 (row.Run 1)
    ∷ at 46 0 (row.Round 1 3 1)
    ∷ at 47 0 (row.Stop 1 why.Wait 2 None)
    ∷ at 47 0 (row.Release 2)
    ∷ at 47 0 (row.Run 2)
    ∷ at 53 0 (row.Signal 2 0 3)
    ∷ at 53 0 (row.Hold 0 7)
    ∷ at 53 0 (row.Stop 2 why.Spent 6 (Some 56))
    ∷ at 53 0 (row.Run 3)
    ∷ []

random_one_04 : schedule random_one_04_system 53 ≡ random_one_04_rows
random_one_04 = refl

abbrev pub random_one_05_system : System
random_one_05_system = record {
  cores = 1;
  delay = 1;
  call = 1;
  min_budget = 1;
  contexts =
      context (codes "w") 0 10 13 3
      ∷ context (codes "h") 0 60 60 0
      ∷ context (codes "x") 0 3 5 0
      ∷ [];
  notes =
      note (codes "n") 0
      ∷ [];
  threads =
      thread (codes "H") 1 5 0 0 0 ((Signal 0 9) ∷ (Compute 6) ∷ (Signal 0 5) ∷ (Compute 9) ∷ (Signal 0 1) ∷ (Compute 9) ∷ Yield ∷ [])
      ∷ thread (codes "W") 0 1 0 0 0 ((Wait 0) ∷ (Compute 3) ∷ (Wait 0) ∷ (Compute 1) ∷ [])
      ∷ thread (codes "X") 2 6 4 0 0 ((Compute 4) ∷ (Signal 0 1) ∷ Yield ∷ [])
      ∷ [];
  orders =
      order 89 0 13 21 2
      ∷ order 138 0 3 21 2
      ∷ order 64 0 2 20 0
      ∷ order 145 0 1 22 2
      ∷ order 79 0 10 14 0
      ∷ [];
  links = [];
  servers = 0;
  sources = [];
  beats = [];
  chains = [];
}

abbrev pub random_one_05_rows : List Row
random_one_05_rows =
    at 0 0 (row.Release 0)
    ∷ at 0 0 (row.Release 1)
    ∷ at 0 0 (row.Run 0)
    ∷ at 1 0 (row.Signal 0 0 9)
    ∷ at 1 0 (row.Hold 0 9)
    ∷ at 4 0 (row.Release 2)
    ∷ at 4 0 (row.Stop 0 why.Preempt 4 None)
    ∷ at 4 0 (row.Run 2)
    ∷ at 7 0 (row.Stop 2 why.Spent 3 (Some 9))
    ∷ at 7 0 (row.Run 0)
    ∷ at 9 0 (row.Release 2)
    ∷ at 9 0 (row.Stop 0 why.Preempt 2 None)
    ∷ at 9 0 (row.Run 2)
    ∷ at 11 0 (row.Signal 2 0 1)
    ∷ at 11 0 (row.Hold 0 9)
    ∷ at 12 0 (row.Round 2 1 8)
    ∷ at 12 0 (row.Stop 2 why.Yield 3 (Some 14))
    ∷ at 12 0 (row.Run 0)
    ∷ at 14 0 (row.Signal 0 0 5)
    ∷ at 14 0 (row.Hold 0 13)
    ∷ at 14 0 (row.Release 2)
    ∷ at 14 0 (row.Stop 0 why.Preempt 2 None)
    ∷ at 14 0 (row.Run 2)
    ∷ at 17 0 (row.Stop 2 why.Spent 3 (Some 19))
    ∷ at 17 0 (row.Run 0)
    ∷ at 19 0 (row.Release 2)
    ∷ at 19 0 (row.Stop 0 why.Preempt 2 None)
    ∷ at 19 0 (row.Run 2)
    ∷ at 21 0 (row.Signal 2 0 1)
    ∷ at 21 0 (row.Hold 0 13)
    ∷ at 22 0 (row.Round 2 2 10)
    ∷ at 22 0 (row.Stop 2 why.Yield 3 (Some 24))
    ∷ at 22 0 (row.Run 0)
    ∷ at 24 0 (row.Release 2)
    ∷ at 24 0 (row.Stop 0 why.Preempt 2 None)
    ∷ at 24 0 (row.Run 2)
    ∷ at 27 0 (row.Stop 2 why.Spent 3 (Some 29))
    ∷ at 27 0 (row.Run 0)
    ∷ at 29 0 (row.Release 2)
    ∷ at 29 0 (row.Stop 0 why.Preempt 2 None)
    ∷ at 29 0 (row.Run 2)
    ∷ at 31 0 (row.Signal 2 0 1)
    ∷ at 31 0 (row.Hold 0 13)
    ∷ at 32 0 (row.Round 2 3 10)
    ∷ at 32 0 (row.Stop 2 why.Yield 3 (Some 34))
    ∷ at 32 0 (row.Run 0)
    ∷ at 34 0 (row.Release 2)
    ∷ at 34 0 (row.Stop 0 why.Preempt 2 None)
    ∷ at 34 0 (row.Run 2)
    ∷ at 37 0 (row.Stop 2 why.Spent 3 (Some 39))
    ∷ at 37 0 (row.Run 0)
    ∷ at 39 0 (row.Signal 0 0 1)
    ∷ at 39 0 (row.Hold 0 13)
    ∷ at 39 0 (row.Release 2)
    ∷ at 39 0 (row.Stop 0 why.Preempt 2 None)
    ∷ at 39 0 (row.Run 2)
    ∷ at 41 0 (row.Signal 2 0 1)
    ∷ at 41 0 (row.Hold 0 13)
    ∷ at 42 0 (row.Round 2 4 10)
    ∷ at 42 0 (row.Stop 2 why.Yield 3 (Some 44))
    ∷ at 42 0 (row.Run 0)
    ∷ at 44 0 (row.Release 2)
    ∷ at 44 0 (row.Stop 0 why.Preempt 2 None)
    ∷ at 44 0 (row.Run 2)
    ∷ at 47 0 (row.Stop 2 why.Spent 3 (Some 49))
    ∷ at 47 0 (row.Run 0)
    ∷ at 49 0 (row.Release 2)
    ∷ at 49 0 (row.Stop 0 why.Preempt 2 None)
    ∷ at 49 0 (row.Run 2)
    ∷ at 51 0 (row.Signal 2 0 1)
    ∷ at 51 0 (row.Hold 0 13)
    ∷ at 52 0 (row.Round 2 5 10)
    ∷ at 52 0 (row.Stop 2 why.Yield 3 (Some 54))
    ∷ at 52 0 (row.Run 0)
    ∷ at 54 0 (row.Release 2)
    ∷ at 54 0 (row.Stop 0 why.Preempt 2 None)
    ∷ at 54 0 (row.Run 2)
    ∷ []

random_one_05 : schedule random_one_05_system 55 ≡ random_one_05_rows
random_one_05 = refl

abbrev pub random_one_06_system : System
random_one_06_system = record {
  cores = 1;
  delay = 1;
  call = 3;
  min_budget = 1;
  contexts =
      context (codes "b") 0 12 45 5
      ∷ context (codes "d") 0 9 30 2
      ∷ context (codes "a") 0 9 48 0
      ∷ context (codes "c") 0 13 15 0
      ∷ [];
  notes =
      note (codes "a") 0
      ∷ [];
  threads =
      thread (codes "A") 0 2 0 0 7 ((Wait 0) ∷ (Compute 2) ∷ (Compute 3) ∷ [])
      ∷ thread (codes "T3") 3 255 2 1 1 ((Wait 0) ∷ (Compute 1) ∷ (Signal 0 5) ∷ (Compute 3) ∷ [])
      ∷ thread (codes "T2") 2 2 16 2 5 ((Wait 0) ∷ (Signal 0 5) ∷ (Compute 2) ∷ (Compute 22) ∷ Yield ∷ (Signal 0 1048460717) ∷ [])
      ∷ [];
  orders =
      order 1 1 7 8 3
      ∷ order 4 2 2 3 0
      ∷ [];
  links = [];
  servers = 0;
  sources = [];
  beats = [];
  chains = [];
}

abbrev pub random_one_06_rows : List Row
random_one_06_rows =
    at 0 0 (row.Release 0)
    ∷ at 0 0 (row.Run 0)
    ∷ at 1 0 (row.Order 1)
    ∷ at 2 0 (row.Release 1)
    ∷ at 2 0 (row.Stop 0 why.Preempt 2 None)
    ∷ at 2 0 (row.Run 1)
    ∷ at 4 0 (row.Order 2)
    ∷ at 5 0 (row.Stop 1 why.Wait 3 None)
    ∷ at 5 0 (row.Run 0)
    ∷ at 6 0 (row.Stop 0 why.Wait 1 None)
    ∷ at 16 0 (row.Release 2)
    ∷ at 16 0 (row.Run 2)
    ∷ at 18 0 (row.Stop 2 why.Spent 2 (Some 19))
    ∷ at 19 0 (row.Release 2)
    ∷ at 19 0 (row.Run 2)
    ∷ at 20 0 (row.Stop 2 why.Wait 1 None)
    ∷ []

random_one_06 : schedule random_one_06_system 56 ≡ random_one_06_rows
random_one_06 = refl

abbrev pub random_one_07_system : System
random_one_07_system = record {
  cores = 1;
  delay = 3;
  call = 1;
  min_budget = 1;
  contexts =
      context (codes "b") 0 7 35 3
      ∷ context (codes "c") 0 8 17 3
      ∷ context (codes "d") 0 13 29 0
      ∷ context (codes "a") 0 12 40 2
      ∷ [];
  notes =
      note (codes "a") 0
      ∷ note (codes "b") 0
      ∷ note (codes "c") 0
      ∷ [];
  threads =
      thread (codes "T2") 2 0 1 2 0 ((Wait 2) ∷ Yield ∷ [])
      ∷ thread (codes "T1") 1 2 1 2 10 ((Compute 1) ∷ (Compute 2) ∷ [])
      ∷ thread (codes "T0") 0 1 0 2 0 ((Wait 0) ∷ (Signal 1 7) ∷ (Compute 3) ∷ (Compute 1) ∷ (Wait 2) ∷ (Compute 3) ∷ (Compute 5) ∷ (Compute 1) ∷ [])
      ∷ thread (codes "T3") 3 84 2 3 5 ((Compute 1) ∷ (Compute 8) ∷ (Signal 0 5) ∷ (Signal 1 2) ∷ [])
      ∷ [];
  orders =
      order 7 2 3 6 0
      ∷ order 19 3 5 6 0
      ∷ [];
  links = [];
  servers = 0;
  sources = [];
  beats = [];
  chains = [];
}

abbrev pub random_one_07_rows : List Row
random_one_07_rows =
    at 0 0 (row.Release 2)
    ∷ at 0 0 (row.Run 2)
    ∷ at 1 0 (row.Stop 2 why.Wait 1 None)
    ∷ at 1 0 (row.Release 0)
    ∷ at 1 0 (row.Release 1)
    ∷ at 1 0 (row.Run 1)
    ∷ at 2 0 (row.Release 3)
    ∷ at 2 0 (row.Stop 1 why.Preempt 1 None)
    ∷ at 2 0 (row.Run 3)
    ∷ at 7 0 (row.Order 2)
    ∷ at 12 0 (row.Signal 3 0 5)
    ∷ at 12 0 (row.Wake 2 0 5 None)
    ∷ at 13 0 (row.Signal 3 1 2)
    ∷ at 13 0 (row.Hold 1 2)
    ∷ at 13 0 (row.Round 3 1 11)
    ∷ at 14 0 (row.Stop 3 why.Spent 12 (Some 42))
    ∷ at 14 0 (row.Run 1)
    ∷ at 16 0 (row.Round 1 1 15)
    ∷ at 19 0 (row.Round 1 2 3)
    ∷ at 19 0 (row.Stop 1 why.Done 5 None)
    ∷ at 19 0 (row.Order 3)
    ∷ at 19 0 (row.Run 2)
    ∷ at 20 0 (row.Signal 2 1 7)
    ∷ at 20 0 (row.Hold 1 7)
    ∷ at 25 0 (row.Stop 2 why.Wait 6 None)
    ∷ at 25 0 (row.Run 0)
    ∷ at 26 0 (row.Stop 0 why.Wait 1 None)
    ∷ at 42 0 (row.Release 3)
    ∷ at 42 0 (row.Run 3)
    ∷ at 47 0 (row.Stop 3 why.Spent 5 (Some 48))
    ∷ at 48 0 (row.Release 3)
    ∷ at 48 0 (row.Run 3)
    ∷ at 52 0 (row.Signal 3 0 5)
    ∷ at 52 0 (row.Hold 0 5)
    ∷ at 53 0 (row.Signal 3 1 2)
    ∷ at 53 0 (row.Hold 1 7)
    ∷ at 53 0 (row.Round 3 2 40)
    ∷ at 53 0 (row.Stop 3 why.Spent 5 (Some 54))
    ∷ at 54 0 (row.Release 3)
    ∷ at 54 0 (row.Run 3)
    ∷ at 59 0 (row.Stop 3 why.Spent 5 (Some 60))
    ∷ []

random_one_07 : schedule random_one_07_system 59 ≡ random_one_07_rows
random_one_07 = refl

abbrev pub random_one_08_system : System
random_one_08_system = record {
  cores = 1;
  delay = 1;
  call = 1;
  min_budget = 2;
  contexts =
      context (codes "w") 0 11 25 3
      ∷ context (codes "h") 0 60 70 0
      ∷ context (codes "x") 0 4 10 0
      ∷ [];
  notes =
      note (codes "n") 0
      ∷ [];
  threads =
      thread (codes "H") 1 5 0 0 0 ((Signal 0 6) ∷ (Compute 4) ∷ (Signal 0 6) ∷ (Compute 9) ∷ Yield ∷ [])
      ∷ thread (codes "W") 0 4 0 0 0 ((Wait 0) ∷ (Compute 2) ∷ (Wait 0) ∷ (Compute 2) ∷ [])
      ∷ thread (codes "X") 2 6 4 0 0 ((Compute 3) ∷ (Signal 0 1) ∷ Yield ∷ [])
      ∷ [];
  orders =
      order 44 0 7 32 0
      ∷ [];
  links = [];
  servers = 0;
  sources = [];
  beats = [];
  chains = [];
}

abbrev pub random_one_08_rows : List Row
random_one_08_rows =
    at 0 0 (row.Release 0)
    ∷ at 0 0 (row.Release 1)
    ∷ at 0 0 (row.Run 0)
    ∷ at 1 0 (row.Signal 0 0 6)
    ∷ at 1 0 (row.Hold 0 6)
    ∷ at 4 0 (row.Release 2)
    ∷ at 4 0 (row.Stop 0 why.Preempt 4 None)
    ∷ at 4 0 (row.Run 2)
    ∷ at 8 0 (row.Signal 2 0 1)
    ∷ at 8 0 (row.Hold 0 7)
    ∷ at 8 0 (row.Stop 2 why.Spent 4 (Some 14))
    ∷ at 8 0 (row.Run 0)
    ∷ at 10 0 (row.Signal 0 0 6)
    ∷ at 10 0 (row.Hold 0 7)
    ∷ at 14 0 (row.Release 2)
    ∷ at 14 0 (row.Stop 0 why.Preempt 6 None)
    ∷ at 14 0 (row.Run 2)
    ∷ at 15 0 (row.Round 2 1 11)
    ∷ at 15 0 (row.Stop 2 why.Yield 4 (Some 24))
    ∷ at 15 0 (row.Run 0)
    ∷ at 21 0 (row.Round 0 1 21)
    ∷ at 21 0 (row.Stop 0 why.Yield 50 (Some 70))
    ∷ at 21 0 (row.Run 1)
    ∷ at 22 0 (row.Got 1 0 7)
    ∷ at 24 0 (row.Release 2)
    ∷ at 24 0 (row.Stop 1 why.Preempt 3 None)
    ∷ at 24 0 (row.Run 2)
    ∷ at 28 0 (row.Signal 2 0 1)
    ∷ at 28 0 (row.Hold 0 1)
    ∷ at 28 0 (row.Stop 2 why.Spent 4 (Some 34))
    ∷ at 28 0 (row.Run 1)
    ∷ at 29 0 (row.Got 1 0 1)
    ∷ at 31 0 (row.Round 1 1 9)
    ∷ at 32 0 (row.Stop 1 why.Wait 4 None)
    ∷ at 34 0 (row.Release 2)
    ∷ at 34 0 (row.Run 2)
    ∷ at 35 0 (row.Round 2 2 20)
    ∷ at 35 0 (row.Stop 2 why.Yield 4 (Some 44))
    ∷ at 44 0 (row.Order 0)
    ∷ at 44 0 (row.Release 2)
    ∷ at 44 0 (row.Run 2)
    ∷ at 48 0 (row.Signal 2 0 1)
    ∷ at 48 0 (row.Wake 1 0 1 None)
    ∷ at 48 0 (row.Stop 2 why.Spent 4 (Some 54))
    ∷ at 48 0 (row.Run 1)
    ∷ at 51 0 (row.Stop 1 why.Wait 3 None)
    ∷ at 54 0 (row.Release 2)
    ∷ at 54 0 (row.Run 2)
    ∷ at 55 0 (row.Round 2 3 20)
    ∷ at 55 0 (row.Stop 2 why.Yield 4 (Some 64))
    ∷ []

random_one_08 : schedule random_one_08_system 60 ≡ random_one_08_rows
random_one_08 = refl

abbrev pub random_one_09_system : System
random_one_09_system = record {
  cores = 1;
  delay = 1;
  call = 1;
  min_budget = 3;
  contexts =
      context (codes "a") 0 3 3 5
      ∷ context (codes "c") 0 3 3 0
      ∷ context (codes "b") 0 5 5 3
      ∷ [];
  notes =
      note (codes "a") 0
      ∷ [];
  threads =
      thread (codes "A") 0 1 5 1 5 ((Signal 0 1093719817) ∷ (Compute 5) ∷ (Signal 0 3535178076) ∷ [])
      ∷ thread (codes "B") 1 3 2 3 5 (Yield ∷ [])
      ∷ thread (codes "C") 2 1 4 2 10 (Yield ∷ (Wait 0) ∷ (Signal 0 1) ∷ Yield ∷ (Compute 1) ∷ (Signal 0 5) ∷ [])
      ∷ [];
  orders =
      order 16 2 3 3 3
      ∷ order 1 2 4 4 0
      ∷ [];
  links = [];
  servers = 0;
  sources = [];
  beats = [];
  chains = [];
}

abbrev pub random_one_09_rows : List Row
random_one_09_rows =
    at 1 0 (row.Order 2)
    ∷ at 2 0 (row.Release 1)
    ∷ at 2 0 (row.Run 1)
    ∷ at 3 0 (row.Round 1 1 1)
    ∷ at 3 0 (row.Stop 1 why.Yield 3 None)
    ∷ at 3 0 (row.Run 1)
    ∷ at 4 0 (row.Round 1 2 1)
    ∷ at 4 0 (row.Stop 1 why.Yield 3 None)
    ∷ at 4 0 (row.Release 2)
    ∷ at 4 0 (row.Run 1)
    ∷ at 5 0 (row.Round 1 3 1)
    ∷ at 5 0 (row.Stop 1 why.Done 1 None)
    ∷ at 5 0 (row.Release 0)
    ∷ at 5 0 (row.Run 2)
    ∷ at 6 0 (row.Stop 2 why.Yield 4 None)
    ∷ at 6 0 (row.Run 0)
    ∷ at 7 0 (row.Signal 0 0 1093719817)
    ∷ at 7 0 (row.Hold 0 1093719817)
    ∷ at 9 0 (row.Stop 0 why.Spent 3 None)
    ∷ at 9 0 (row.Run 2)
    ∷ at 10 0 (row.Got 2 0 1093719817)
    ∷ at 11 0 (row.Signal 2 0 1)
    ∷ at 11 0 (row.Hold 0 1)
    ∷ at 12 0 (row.Stop 2 why.Yield 4 None)
    ∷ at 12 0 (row.Run 0)
    ∷ at 15 0 (row.Stop 0 why.Spent 3 None)
    ∷ at 15 0 (row.Run 2)
    ∷ at 16 0 (row.Order 2)
    ∷ at 16 0 (row.Stop 2 why.Order 1 None)
    ∷ at 16 0 (row.Run 2)
    ∷ at 17 0 (row.Signal 2 0 5)
    ∷ at 17 0 (row.Hold 0 5)
    ∷ at 17 0 (row.Round 2 1 13)
    ∷ at 18 0 (row.Stop 2 why.Yield 3 None)
    ∷ at 18 0 (row.Run 0)
    ∷ at 19 0 (row.Signal 0 0 3535178076)
    ∷ at 19 0 (row.Hold 0 3535178077)
    ∷ at 19 0 (row.Round 0 1 14)
    ∷ at 19 0 (row.Stop 0 why.Done 1 None)
    ∷ at 19 0 (row.Run 2)
    ∷ at 20 0 (row.Got 2 0 3535178077)
    ∷ at 21 0 (row.Signal 2 0 1)
    ∷ at 21 0 (row.Hold 0 1)
    ∷ at 22 0 (row.Stop 2 why.Yield 3 None)
    ∷ at 22 0 (row.Run 2)
    ∷ at 24 0 (row.Signal 2 0 5)
    ∷ at 24 0 (row.Hold 0 5)
    ∷ at 24 0 (row.Round 2 2 7)
    ∷ at 24 0 (row.Stop 2 why.Done 2 None)
    ∷ []

random_one_09 : schedule random_one_09_system 61 ≡ random_one_09_rows
random_one_09 = refl

abbrev pub random_one_10_system : System
random_one_10_system = record {
  cores = 1;
  delay = 1;
  call = 1;
  min_budget = 2;
  contexts =
      context (codes "w") 0 8 16 0
      ∷ context (codes "h") 0 60 70 0
      ∷ context (codes "x") 0 4 8 0
      ∷ [];
  notes =
      note (codes "n") 0
      ∷ [];
  threads =
      thread (codes "H") 1 5 0 0 0 ((Signal 0 3) ∷ (Compute 4) ∷ (Signal 0 7) ∷ (Compute 2) ∷ (Signal 0 6) ∷ (Compute 8) ∷ (Signal 0 2) ∷ (Compute 8) ∷ Yield ∷ [])
      ∷ thread (codes "W") 0 9 0 0 0 ((Wait 0) ∷ (Compute 3) ∷ (Wait 0) ∷ (Compute 2) ∷ [])
      ∷ thread (codes "X") 2 6 8 0 0 ((Compute 1) ∷ (Signal 0 1) ∷ Yield ∷ [])
      ∷ [];
  orders =
      order 8 0 11 26 0
      ∷ order 45 0 5 17 0
      ∷ order 3 0 4 24 2
      ∷ order 57 0 9 27 0
      ∷ order 30 0 8 14 2
      ∷ order 19 0 2 9 0
      ∷ [];
  links = [];
  servers = 0;
  sources = [];
  beats = [];
  chains = [];
}

abbrev pub random_one_10_rows : List Row
random_one_10_rows =
    at 0 0 (row.Release 0)
    ∷ at 0 0 (row.Release 1)
    ∷ at 0 0 (row.Run 1)
    ∷ at 1 0 (row.Stop 1 why.Wait 1 None)
    ∷ at 1 0 (row.Run 0)
    ∷ at 2 0 (row.Signal 0 0 3)
    ∷ at 2 0 (row.Wake 1 0 3 None)
    ∷ at 2 0 (row.Stop 0 why.Preempt 1 None)
    ∷ at 2 0 (row.Run 1)
    ∷ at 3 0 (row.Order 0)
    ∷ at 3 0 (row.Stop 1 why.Order 1 None)
    ∷ at 3 0 (row.Run 1)
    ∷ at 6 0 (row.Stop 1 why.Wait 3 None)
    ∷ at 6 0 (row.Run 0)
    ∷ at 8 0 (row.Order 0)
    ∷ at 8 0 (row.Release 2)
    ∷ at 8 0 (row.Stop 0 why.Preempt 2 None)
    ∷ at 8 0 (row.Run 2)
    ∷ at 10 0 (row.Signal 2 0 1)
    ∷ at 10 0 (row.Wake 1 0 1 (Some 26))
    ∷ at 11 0 (row.Round 2 1 3)
    ∷ at 11 0 (row.Stop 2 why.Yield 4 (Some 16))
    ∷ at 11 0 (row.Run 0)
    ∷ at 14 0 (row.Signal 0 0 7)
    ∷ at 14 0 (row.Hold 0 7)
    ∷ at 16 0 (row.Release 2)
    ∷ at 16 0 (row.Stop 0 why.Preempt 5 None)
    ∷ at 16 0 (row.Run 2)
    ∷ at 18 0 (row.Signal 2 0 1)
    ∷ at 18 0 (row.Hold 0 7)
    ∷ at 19 0 (row.Round 2 2 8)
    ∷ at 19 0 (row.Stop 2 why.Yield 4 (Some 24))
    ∷ at 19 0 (row.Order 0)
    ∷ at 19 0 (row.Run 0)
    ∷ at 20 0 (row.Signal 0 0 6)
    ∷ at 20 0 (row.Hold 0 7)
    ∷ at 24 0 (row.Release 2)
    ∷ at 24 0 (row.Stop 0 why.Preempt 5 None)
    ∷ at 24 0 (row.Run 2)
    ∷ at 26 0 (row.Signal 2 0 1)
    ∷ at 26 0 (row.Hold 0 7)
    ∷ at 26 0 (row.Release 1)
    ∷ at 26 0 (row.Stop 2 why.Preempt 2 None)
    ∷ at 26 0 (row.Run 1)
    ∷ at 28 0 (row.Round 1 1 26)
    ∷ at 28 0 (row.Stop 1 why.Spent 2 (Some 35))
    ∷ at 28 0 (row.Run 2)
    ∷ at 29 0 (row.Round 2 3 10)
    ∷ at 29 0 (row.Stop 2 why.Yield 2 (Some 32))
    ∷ at 29 0 (row.Run 0)
    ∷ at 30 0 (row.Order 0)
    ∷ at 32 0 (row.Release 2)
    ∷ at 32 0 (row.Stop 0 why.Preempt 3 None)
    ∷ at 32 0 (row.Run 2)
    ∷ at 34 0 (row.Signal 2 0 1)
    ∷ at 34 0 (row.Hold 0 7)
    ∷ at 35 0 (row.Round 2 4 6)
    ∷ at 35 0 (row.Stop 2 why.Yield 4 (Some 40))
    ∷ at 35 0 (row.Release 1)
    ∷ at 35 0 (row.Run 1)
    ∷ at 36 0 (row.Got 1 0 7)
    ∷ at 37 0 (row.Stop 1 why.Spent 2 (Some 43))
    ∷ at 37 0 (row.Run 0)
    ∷ at 39 0 (row.Signal 0 0 2)
    ∷ at 39 0 (row.Hold 0 2)
    ∷ at 40 0 (row.Release 2)
    ∷ at 40 0 (row.Stop 0 why.Preempt 3 None)
    ∷ at 40 0 (row.Run 2)
    ∷ at 42 0 (row.Signal 2 0 1)
    ∷ at 42 0 (row.Hold 0 3)
    ∷ at 43 0 (row.Round 2 5 8)
    ∷ at 43 0 (row.Stop 2 why.Yield 4 (Some 48))
    ∷ at 43 0 (row.Release 1)
    ∷ at 43 0 (row.Run 1)
    ∷ at 45 0 (row.Order 0)
    ∷ at 45 0 (row.Stop 1 why.Order 2 None)
    ∷ at 45 0 (row.Run 1)
    ∷ at 46 0 (row.Got 1 0 3)
    ∷ at 48 0 (row.Round 1 2 12)
    ∷ at 48 0 (row.Release 2)
    ∷ at 49 0 (row.Stop 1 why.Wait 4 None)
    ∷ at 49 0 (row.Run 2)
    ∷ at 51 0 (row.Signal 2 0 1)
    ∷ at 51 0 (row.Wake 1 0 1 (Some 61))
    ∷ at 52 0 (row.Round 2 6 9)
    ∷ at 52 0 (row.Stop 2 why.Yield 4 (Some 56))
    ∷ at 52 0 (row.Run 0)
    ∷ at 56 0 (row.Release 2)
    ∷ at 56 0 (row.Stop 0 why.Preempt 4 None)
    ∷ at 56 0 (row.Run 2)
    ∷ at 57 0 (row.Order 0)
    ∷ at 58 0 (row.Signal 2 0 1)
    ∷ at 58 0 (row.Hold 0 1)
    ∷ at 59 0 (row.Round 2 7 7)
    ∷ at 59 0 (row.Stop 2 why.Yield 4 (Some 64))
    ∷ at 59 0 (row.Run 0)
    ∷ at 61 0 (row.Release 1)
    ∷ at 61 0 (row.Stop 0 why.Preempt 2 None)
    ∷ at 61 0 (row.Run 1)
    ∷ []

random_one_10 : schedule random_one_10_system 62 ≡ random_one_10_rows
random_one_10 = refl

abbrev pub random_one_11_system : System
random_one_11_system = record {
  cores = 1;
  delay = 3;
  call = 1;
  min_budget = 3;
  contexts =
      context (codes "b") 0 3 10 1
      ∷ context (codes "a") 0 7 14 3
      ∷ [];
  notes =
      note (codes "a") 0
      ∷ [];
  threads =
      thread (codes "T1") 1 2 2 1 10 (Yield ∷ Yield ∷ [])
      ∷ thread (codes "T0") 0 2 5 1 10 ((Compute 7) ∷ [])
      ∷ [];
  orders =
      order 0 1 9 28 0
      ∷ order 1 1 6 29 0
      ∷ [];
  links = [];
  servers = 0;
  sources = [];
  beats = [];
  chains = [];
}

abbrev pub random_one_11_rows : List Row
random_one_11_rows =
    at 0 0 (row.Order 1)
    ∷ at 1 0 (row.Order 1)
    ∷ at 2 0 (row.Release 0)
    ∷ at 2 0 (row.Run 0)
    ∷ at 3 0 (row.Stop 0 why.Yield 6 (Some 31))
    ∷ at 5 0 (row.Release 1)
    ∷ at 5 0 (row.Run 1)
    ∷ at 8 0 (row.Stop 1 why.Spent 3 (Some 15))
    ∷ at 15 0 (row.Release 1)
    ∷ at 15 0 (row.Run 1)
    ∷ at 18 0 (row.Stop 1 why.Spent 3 (Some 25))
    ∷ at 25 0 (row.Release 1)
    ∷ at 25 0 (row.Run 1)
    ∷ at 26 0 (row.Round 1 1 21)
    ∷ at 26 0 (row.Stop 1 why.Done 1 None)
    ∷ at 31 0 (row.Release 0)
    ∷ at 31 0 (row.Run 0)
    ∷ at 32 0 (row.Round 0 1 30)
    ∷ at 32 0 (row.Stop 0 why.Done 1 None)
    ∷ []

random_one_11 : schedule random_one_11_system 65 ≡ random_one_11_rows
random_one_11 = refl

abbrev pub random_one_12_system : System
random_one_12_system = record {
  cores = 1;
  delay = 1;
  call = 1;
  min_budget = 6;
  contexts =
      context (codes "s00") 0 9 52 0
      ∷ context (codes "r00") 0 7 11 3
      ∷ context (codes "r01") 0 8 8 0
      ∷ [];
  notes =
      note (codes "n00") 0
      ∷ [];
  threads =
      thread (codes "S00") 0 5 0 0 0 ((Wait 0) ∷ (Compute 4) ∷ [])
      ∷ thread (codes "R00") 1 10 1 0 0 ((Compute 11) ∷ (Signal 0 5) ∷ [])
      ∷ thread (codes "R01") 2 10 5 0 0 ((Compute 3) ∷ (Signal 0 2) ∷ (Compute 1) ∷ (Signal 0 3) ∷ (Compute 5) ∷ (Signal 0 9) ∷ [])
      ∷ [];
  orders = [];
  links = [];
  servers = 0;
  sources = [];
  beats = [];
  chains = [];
}

abbrev pub random_one_12_rows : List Row
random_one_12_rows =
    at 0 0 (row.Release 0)
    ∷ at 0 0 (row.Run 0)
    ∷ at 1 0 (row.Stop 0 why.Wait 1 None)
    ∷ at 1 0 (row.Release 1)
    ∷ at 1 0 (row.Run 1)
    ∷ at 5 0 (row.Release 2)
    ∷ at 8 0 (row.Stop 1 why.Spent 7 (Some 12))
    ∷ at 8 0 (row.Run 2)
    ∷ at 12 0 (row.Signal 2 0 2)
    ∷ at 12 0 (row.Wake 0 0 2 None)
    ∷ at 12 0 (row.Release 1)
    ∷ at 14 0 (row.Signal 2 0 3)
    ∷ at 14 0 (row.Hold 0 3)
    ∷ at 16 0 (row.Stop 2 why.Spent 8 None)
    ∷ at 16 0 (row.Run 1)
    ∷ at 21 0 (row.Signal 1 0 5)
    ∷ at 21 0 (row.Hold 0 7)
    ∷ at 21 0 (row.Round 1 1 20)
    ∷ at 23 0 (row.Stop 1 why.Spent 7 None)
    ∷ at 23 0 (row.Run 2)
    ∷ at 27 0 (row.Signal 2 0 9)
    ∷ at 27 0 (row.Hold 0 15)
    ∷ at 27 0 (row.Round 2 1 22)
    ∷ at 31 0 (row.Signal 2 0 2)
    ∷ at 31 0 (row.Hold 0 15)
    ∷ at 31 0 (row.Stop 2 why.Spent 8 None)
    ∷ at 31 0 (row.Run 1)
    ∷ at 38 0 (row.Stop 1 why.Spent 7 None)
    ∷ at 38 0 (row.Run 2)
    ∷ at 40 0 (row.Signal 2 0 3)
    ∷ at 40 0 (row.Hold 0 15)
    ∷ at 46 0 (row.Signal 2 0 9)
    ∷ at 46 0 (row.Hold 0 15)
    ∷ at 46 0 (row.Round 2 2 19)
    ∷ at 46 0 (row.Stop 2 why.Spent 8 None)
    ∷ at 46 0 (row.Run 1)
    ∷ at 49 0 (row.Signal 1 0 5)
    ∷ at 49 0 (row.Hold 0 15)
    ∷ at 49 0 (row.Round 1 2 28)
    ∷ at 53 0 (row.Stop 1 why.Spent 7 None)
    ∷ at 53 0 (row.Run 2)
    ∷ at 57 0 (row.Signal 2 0 2)
    ∷ at 57 0 (row.Hold 0 15)
    ∷ at 59 0 (row.Signal 2 0 3)
    ∷ at 59 0 (row.Hold 0 15)
    ∷ at 61 0 (row.Stop 2 why.Spent 8 None)
    ∷ at 61 0 (row.Run 1)
    ∷ []

random_one_12 : schedule random_one_12_system 66 ≡ random_one_12_rows
random_one_12 = refl

abbrev pub random_one_13_system : System
random_one_13_system = record {
  cores = 1;
  delay = 2;
  call = 3;
  min_budget = 3;
  contexts =
      context (codes "c") 0 7 9 3
      ∷ context (codes "a") 0 3 3 0
      ∷ context (codes "b") 0 7 14 1
      ∷ [];
  notes =
      note (codes "a") 0
      ∷ note (codes "b") 0
      ∷ [];
  threads =
      thread (codes "A") 0 0 5 3 5 (Yield ∷ [])
      ∷ thread (codes "T1") 1 0 0 1 0 ((Wait 1) ∷ (Signal 1 1) ∷ [])
      ∷ thread (codes "C") 2 2 0 0 4 (Yield ∷ [])
      ∷ [];
  orders = [];
  links = [];
  servers = 0;
  sources = [];
  beats = [];
  chains = [];
}

abbrev pub random_one_13_rows : List Row
random_one_13_rows =
    at 0 0 (row.Release 1)
    ∷ at 0 0 (row.Release 2)
    ∷ at 0 0 (row.Run 2)
    ∷ at 3 0 (row.Round 2 1 3)
    ∷ at 3 0 (row.Stop 2 why.Yield 7 (Some 14))
    ∷ at 3 0 (row.Run 1)
    ∷ at 5 0 (row.Release 0)
    ∷ at 6 0 (row.Stop 1 why.Wait 3 None)
    ∷ at 6 0 (row.Run 0)
    ∷ at 9 0 (row.Round 0 1 4)
    ∷ at 9 0 (row.Stop 0 why.Yield 7 (Some 14))
    ∷ at 14 0 (row.Release 2)
    ∷ at 14 0 (row.Release 0)
    ∷ at 14 0 (row.Run 2)
    ∷ at 17 0 (row.Round 2 2 14)
    ∷ at 17 0 (row.Stop 2 why.Yield 7 (Some 28))
    ∷ at 17 0 (row.Run 0)
    ∷ at 20 0 (row.Round 0 2 11)
    ∷ at 20 0 (row.Stop 0 why.Yield 7 (Some 23))
    ∷ at 23 0 (row.Release 0)
    ∷ at 23 0 (row.Run 0)
    ∷ at 26 0 (row.Round 0 3 6)
    ∷ at 26 0 (row.Stop 0 why.Done 3 None)
    ∷ at 28 0 (row.Release 2)
    ∷ at 28 0 (row.Run 2)
    ∷ at 31 0 (row.Round 2 3 14)
    ∷ at 31 0 (row.Stop 2 why.Yield 7 (Some 42))
    ∷ at 42 0 (row.Release 2)
    ∷ at 42 0 (row.Run 2)
    ∷ at 45 0 (row.Round 2 4 14)
    ∷ at 45 0 (row.Stop 2 why.Yield 7 (Some 56))
    ∷ at 56 0 (row.Release 2)
    ∷ at 56 0 (row.Run 2)
    ∷ at 59 0 (row.Round 2 5 14)
    ∷ at 59 0 (row.Stop 2 why.Yield 7 (Some 70))
    ∷ []

random_one_13 : schedule random_one_13_system 68 ≡ random_one_13_rows
random_one_13 = refl

abbrev pub random_one_14_system : System
random_one_14_system = record {
  cores = 1;
  delay = 2;
  call = 1;
  min_budget = 1;
  contexts =
      context (codes "s00") 0 13 61 0
      ∷ context (codes "s01") 0 13 24 5
      ∷ context (codes "r00") 0 3 3 0
      ∷ [];
  notes =
      note (codes "n00") 0
      ∷ note (codes "n01") 0
      ∷ [];
  threads =
      thread (codes "S00") 0 7 0 0 0 ((Wait 0) ∷ (Compute 4) ∷ (Compute 3) ∷ (Wait 0) ∷ (Compute 1) ∷ [])
      ∷ thread (codes "S01") 1 5 0 0 0 ((Wait 1) ∷ (Compute 2) ∷ [])
      ∷ thread (codes "R00") 2 7 0 0 0 ((Compute 3) ∷ (Signal 1 8) ∷ (Compute 9) ∷ (Signal 0 7) ∷ (Compute 4) ∷ (Signal 1 8) ∷ [])
      ∷ [];
  orders = [];
  links = [];
  servers = 0;
  sources = [];
  beats = [];
  chains = [];
}

abbrev pub random_one_14_rows : List Row
random_one_14_rows =
    at 0 0 (row.Release 0)
    ∷ at 0 0 (row.Release 1)
    ∷ at 0 0 (row.Release 2)
    ∷ at 0 0 (row.Run 0)
    ∷ at 1 0 (row.Stop 0 why.Wait 1 None)
    ∷ at 1 0 (row.Run 2)
    ∷ at 4 0 (row.Stop 2 why.Spent 3 None)
    ∷ at 4 0 (row.Run 2)
    ∷ at 5 0 (row.Signal 2 1 8)
    ∷ at 5 0 (row.Hold 1 8)
    ∷ at 7 0 (row.Stop 2 why.Spent 3 None)
    ∷ at 7 0 (row.Run 2)
    ∷ at 10 0 (row.Stop 2 why.Spent 3 None)
    ∷ at 10 0 (row.Run 2)
    ∷ at 13 0 (row.Stop 2 why.Spent 3 None)
    ∷ at 13 0 (row.Run 2)
    ∷ at 15 0 (row.Signal 2 0 7)
    ∷ at 15 0 (row.Wake 0 0 7 None)
    ∷ at 16 0 (row.Stop 2 why.Spent 3 None)
    ∷ at 16 0 (row.Run 0)
    ∷ at 24 0 (row.Stop 0 why.Wait 8 None)
    ∷ at 24 0 (row.Run 2)
    ∷ at 27 0 (row.Stop 2 why.Spent 3 None)
    ∷ at 27 0 (row.Run 2)
    ∷ at 28 0 (row.Signal 2 1 8)
    ∷ at 28 0 (row.Hold 1 8)
    ∷ at 28 0 (row.Round 2 1 28)
    ∷ at 30 0 (row.Stop 2 why.Spent 3 None)
    ∷ at 30 0 (row.Run 2)
    ∷ at 32 0 (row.Signal 2 1 8)
    ∷ at 32 0 (row.Hold 1 8)
    ∷ at 33 0 (row.Stop 2 why.Spent 3 None)
    ∷ at 33 0 (row.Run 2)
    ∷ at 36 0 (row.Stop 2 why.Spent 3 None)
    ∷ at 36 0 (row.Run 2)
    ∷ at 39 0 (row.Stop 2 why.Spent 3 None)
    ∷ at 39 0 (row.Run 2)
    ∷ at 42 0 (row.Signal 2 0 7)
    ∷ at 42 0 (row.Wake 0 0 7 None)
    ∷ at 42 0 (row.Stop 2 why.Spent 3 None)
    ∷ at 42 0 (row.Run 0)
    ∷ at 43 0 (row.Round 0 1 28)
    ∷ at 44 0 (row.Stop 0 why.Wait 2 None)
    ∷ at 44 0 (row.Run 2)
    ∷ at 47 0 (row.Stop 2 why.Spent 3 None)
    ∷ at 47 0 (row.Run 2)
    ∷ at 49 0 (row.Signal 2 1 8)
    ∷ at 49 0 (row.Hold 1 8)
    ∷ at 49 0 (row.Round 2 2 21)
    ∷ at 50 0 (row.Stop 2 why.Spent 3 None)
    ∷ at 50 0 (row.Run 2)
    ∷ at 53 0 (row.Signal 2 1 8)
    ∷ at 53 0 (row.Hold 1 8)
    ∷ at 53 0 (row.Stop 2 why.Spent 3 None)
    ∷ at 53 0 (row.Run 2)
    ∷ at 56 0 (row.Stop 2 why.Spent 3 None)
    ∷ at 56 0 (row.Run 2)
    ∷ at 59 0 (row.Stop 2 why.Spent 3 None)
    ∷ at 59 0 (row.Run 2)
    ∷ at 62 0 (row.Stop 2 why.Spent 3 None)
    ∷ at 62 0 (row.Run 2)
    ∷ at 63 0 (row.Signal 2 0 7)
    ∷ at 63 0 (row.Wake 0 0 7 None)
    ∷ at 65 0 (row.Stop 2 why.Spent 3 None)
    ∷ at 65 0 (row.Run 0)
    ∷ at 67 0 (row.Stop 0 why.Spent 2 (Some 94))
    ∷ at 67 0 (row.Run 2)
    ∷ at 70 0 (row.Signal 2 1 8)
    ∷ at 70 0 (row.Hold 1 8)
    ∷ at 70 0 (row.Round 2 3 21)
    ∷ at 70 0 (row.Stop 2 why.Spent 3 None)
    ∷ at 70 0 (row.Run 2)
    ∷ []

random_one_14 : schedule random_one_14_system 71 ≡ random_one_14_rows
random_one_14 = refl

abbrev pub random_one_15_system : System
random_one_15_system = record {
  cores = 1;
  delay = 2;
  call = 1;
  min_budget = 1;
  contexts =
      context (codes "c") 0 6 14 3
      ∷ context (codes "b") 0 10 13 1
      ∷ context (codes "d") 0 9 44 2
      ∷ context (codes "a") 0 11 19 1
      ∷ [];
  notes =
      note (codes "a") 0
      ∷ [];
  threads =
      thread (codes "T1") 1 1 2 3 0 ((Wait 0) ∷ (Wait 0) ∷ (Signal 0 1) ∷ (Compute 3) ∷ [])
      ∷ thread (codes "T2") 2 3 0 1 0 ((Wait 0) ∷ (Compute 3) ∷ [])
      ∷ thread (codes "T0") 0 2 1 2 0 (Yield ∷ [])
      ∷ thread (codes "T3") 3 0 2 2 0 ((Wait 0) ∷ (Compute 1) ∷ (Compute 1) ∷ (Compute 1) ∷ (Compute 2) ∷ (Wait 0) ∷ (Signal 0 5) ∷ (Compute 3) ∷ [])
      ∷ [];
  orders = [];
  links = [];
  servers = 0;
  sources = [];
  beats = [];
  chains = [];
}

abbrev pub random_one_15_rows : List Row
random_one_15_rows =
    at 0 0 (row.Release 1)
    ∷ at 0 0 (row.Run 1)
    ∷ at 1 0 (row.Stop 1 why.Wait 1 None)
    ∷ at 1 0 (row.Release 2)
    ∷ at 1 0 (row.Run 2)
    ∷ at 2 0 (row.Round 2 1 1)
    ∷ at 2 0 (row.Stop 2 why.Yield 6 (Some 15))
    ∷ at 2 0 (row.Release 0)
    ∷ at 2 0 (row.Release 3)
    ∷ at 2 0 (row.Run 0)
    ∷ at 3 0 (row.Stop 0 why.Wait 1 None)
    ∷ at 3 0 (row.Run 3)
    ∷ at 4 0 (row.Stop 3 why.Wait 1 None)
    ∷ at 15 0 (row.Release 2)
    ∷ at 15 0 (row.Run 2)
    ∷ at 16 0 (row.Round 2 2 14)
    ∷ at 16 0 (row.Stop 2 why.Done 1 None)
    ∷ []

random_one_15 : schedule random_one_15_system 72 ≡ random_one_15_rows
random_one_15 = refl

abbrev pub random_one_16_system : System
random_one_16_system = record {
  cores = 1;
  delay = 1;
  call = 3;
  min_budget = 1;
  contexts =
      context (codes "b") 0 8 51 0
      ∷ context (codes "c") 0 4 59 0
      ∷ context (codes "a") 0 2 4 0
      ∷ context (codes "d") 0 3 5 0
      ∷ [];
  notes =
      note (codes "a") 0
      ∷ note (codes "b") 0
      ∷ [];
  threads =
      thread (codes "A") 0 3 0 0 5 (Yield ∷ [])
      ∷ thread (codes "D") 3 31 0 1 0 ((Signal 0 7) ∷ [])
      ∷ thread (codes "C") 2 1 17 3 0 ((Compute 8) ∷ [])
      ∷ thread (codes "B") 1 3 5 0 10 (Yield ∷ [])
      ∷ [];
  orders =
      order 7 3 3 5 0
      ∷ [];
  links = [];
  servers = 0;
  sources = [];
  beats = [];
  chains = [];
}

abbrev pub random_one_16_rows : List Row
random_one_16_rows =
    at 0 0 (row.Release 0)
    ∷ at 0 0 (row.Release 1)
    ∷ at 0 0 (row.Run 1)
    ∷ at 3 0 (row.Signal 1 0 7)
    ∷ at 3 0 (row.Hold 0 7)
    ∷ at 3 0 (row.Round 1 1 3)
    ∷ at 3 0 (row.Stop 1 why.Done 3 None)
    ∷ at 3 0 (row.Run 0)
    ∷ at 5 0 (row.Release 3)
    ∷ at 6 0 (row.Round 0 1 6)
    ∷ at 6 0 (row.Stop 0 why.Yield 8 (Some 51))
    ∷ at 6 0 (row.Run 3)
    ∷ at 7 0 (row.Order 3)
    ∷ at 9 0 (row.Round 3 1 4)
    ∷ at 9 0 (row.Stop 3 why.Yield 4 (Some 64))
    ∷ at 17 0 (row.Release 2)
    ∷ at 17 0 (row.Run 2)
    ∷ at 19 0 (row.Stop 2 why.Spent 2 (Some 21))
    ∷ at 21 0 (row.Release 2)
    ∷ at 21 0 (row.Run 2)
    ∷ at 23 0 (row.Stop 2 why.Spent 2 (Some 25))
    ∷ at 25 0 (row.Release 2)
    ∷ at 25 0 (row.Run 2)
    ∷ at 27 0 (row.Stop 2 why.Spent 2 (Some 29))
    ∷ at 29 0 (row.Release 2)
    ∷ at 29 0 (row.Run 2)
    ∷ at 31 0 (row.Round 2 1 14)
    ∷ at 31 0 (row.Stop 2 why.Spent 2 (Some 33))
    ∷ at 33 0 (row.Release 2)
    ∷ at 33 0 (row.Run 2)
    ∷ at 35 0 (row.Stop 2 why.Spent 2 (Some 37))
    ∷ at 37 0 (row.Release 2)
    ∷ at 37 0 (row.Run 2)
    ∷ at 39 0 (row.Stop 2 why.Spent 2 (Some 41))
    ∷ at 41 0 (row.Release 2)
    ∷ at 41 0 (row.Run 2)
    ∷ at 43 0 (row.Stop 2 why.Spent 2 (Some 45))
    ∷ at 45 0 (row.Release 2)
    ∷ at 45 0 (row.Run 2)
    ∷ at 47 0 (row.Round 2 2 16)
    ∷ at 47 0 (row.Stop 2 why.Spent 2 (Some 49))
    ∷ at 49 0 (row.Release 2)
    ∷ at 49 0 (row.Run 2)
    ∷ at 51 0 (row.Stop 2 why.Spent 2 (Some 53))
    ∷ at 51 0 (row.Release 0)
    ∷ at 51 0 (row.Run 0)
    ∷ at 53 0 (row.Release 2)
    ∷ at 54 0 (row.Round 0 2 48)
    ∷ at 54 0 (row.Stop 0 why.Yield 8 (Some 102))
    ∷ at 54 0 (row.Run 2)
    ∷ at 56 0 (row.Stop 2 why.Spent 2 (Some 57))
    ∷ at 57 0 (row.Release 2)
    ∷ at 57 0 (row.Run 2)
    ∷ at 59 0 (row.Stop 2 why.Spent 2 (Some 61))
    ∷ at 61 0 (row.Release 2)
    ∷ at 61 0 (row.Run 2)
    ∷ at 63 0 (row.Round 2 3 16)
    ∷ at 63 0 (row.Stop 2 why.Done 2 None)
    ∷ at 64 0 (row.Release 3)
    ∷ at 64 0 (row.Run 3)
    ∷ at 67 0 (row.Round 3 2 58)
    ∷ at 67 0 (row.Stop 3 why.Yield 4 (Some 123))
    ∷ []

random_one_16 : schedule random_one_16_system 74 ≡ random_one_16_rows
random_one_16 = refl

abbrev pub random_one_17_system : System
random_one_17_system = record {
  cores = 1;
  delay = 2;
  call = 1;
  min_budget = 1;
  contexts =
      context (codes "s00") 0 7 52 1
      ∷ context (codes "r00") 0 3 3 0
      ∷ context (codes "r01") 0 7 9 0
      ∷ [];
  notes =
      note (codes "n00") 0
      ∷ [];
  threads =
      thread (codes "S00") 0 5 0 0 0 ((Wait 0) ∷ (Compute 4) ∷ [])
      ∷ thread (codes "R00") 1 1 5 0 0 ((Compute 6) ∷ (Signal 0 6) ∷ (Compute 6) ∷ (Signal 0 2) ∷ (Compute 7) ∷ (Signal 0 4) ∷ [])
      ∷ thread (codes "R01") 2 1 4 0 0 ((Compute 5) ∷ (Signal 0 8) ∷ [])
      ∷ [];
  orders = [];
  links = [];
  servers = 0;
  sources = [];
  beats = [];
  chains = [];
}

abbrev pub random_one_17_rows : List Row
random_one_17_rows =
    at 0 0 (row.Release 0)
    ∷ at 0 0 (row.Run 0)
    ∷ at 1 0 (row.Stop 0 why.Wait 1 None)
    ∷ at 4 0 (row.Release 2)
    ∷ at 4 0 (row.Run 2)
    ∷ at 5 0 (row.Release 1)
    ∷ at 10 0 (row.Signal 2 0 8)
    ∷ at 10 0 (row.Wake 0 0 8 None)
    ∷ at 10 0 (row.Round 2 1 6)
    ∷ at 10 0 (row.Stop 2 why.Preempt 6 None)
    ∷ at 10 0 (row.Run 0)
    ∷ at 14 0 (row.Round 0 1 4)
    ∷ at 15 0 (row.Stop 0 why.Wait 5 None)
    ∷ at 15 0 (row.Run 2)
    ∷ at 16 0 (row.Stop 2 why.Spent 1 None)
    ∷ at 16 0 (row.Run 1)
    ∷ at 19 0 (row.Stop 1 why.Spent 3 None)
    ∷ at 19 0 (row.Run 2)
    ∷ at 24 0 (row.Signal 2 0 8)
    ∷ at 24 0 (row.Wake 0 0 8 None)
    ∷ at 24 0 (row.Round 2 2 14)
    ∷ at 24 0 (row.Stop 2 why.Preempt 5 None)
    ∷ at 24 0 (row.Run 0)
    ∷ at 25 0 (row.Stop 0 why.Spent 1 (Some 52))
    ∷ at 25 0 (row.Run 2)
    ∷ at 27 0 (row.Stop 2 why.Spent 2 None)
    ∷ at 27 0 (row.Run 1)
    ∷ at 30 0 (row.Stop 1 why.Spent 3 None)
    ∷ at 30 0 (row.Run 2)
    ∷ at 34 0 (row.Signal 2 0 8)
    ∷ at 34 0 (row.Hold 0 8)
    ∷ at 34 0 (row.Round 2 3 10)
    ∷ at 37 0 (row.Stop 2 why.Spent 7 None)
    ∷ at 37 0 (row.Run 1)
    ∷ at 38 0 (row.Signal 1 0 6)
    ∷ at 38 0 (row.Hold 0 14)
    ∷ at 40 0 (row.Stop 1 why.Spent 3 None)
    ∷ at 40 0 (row.Run 2)
    ∷ at 43 0 (row.Signal 2 0 8)
    ∷ at 43 0 (row.Hold 0 14)
    ∷ at 43 0 (row.Round 2 4 9)
    ∷ at 47 0 (row.Stop 2 why.Spent 7 None)
    ∷ at 47 0 (row.Run 1)
    ∷ at 50 0 (row.Stop 1 why.Spent 3 None)
    ∷ at 50 0 (row.Run 2)
    ∷ at 52 0 (row.Signal 2 0 8)
    ∷ at 52 0 (row.Hold 0 14)
    ∷ at 52 0 (row.Round 2 5 9)
    ∷ at 52 0 (row.Release 0)
    ∷ at 52 0 (row.Stop 2 why.Preempt 2 None)
    ∷ at 52 0 (row.Run 0)
    ∷ at 53 0 (row.Stop 0 why.Spent 1 (Some 62))
    ∷ at 53 0 (row.Run 2)
    ∷ at 58 0 (row.Stop 2 why.Spent 5 None)
    ∷ at 58 0 (row.Run 1)
    ∷ at 60 0 (row.Signal 1 0 2)
    ∷ at 60 0 (row.Hold 0 14)
    ∷ at 61 0 (row.Stop 1 why.Spent 3 None)
    ∷ at 61 0 (row.Run 2)
    ∷ at 62 0 (row.Signal 2 0 8)
    ∷ at 62 0 (row.Hold 0 14)
    ∷ at 62 0 (row.Round 2 6 10)
    ∷ at 62 0 (row.Release 0)
    ∷ at 62 0 (row.Stop 2 why.Preempt 1 None)
    ∷ at 62 0 (row.Run 0)
    ∷ at 64 0 (row.Round 0 2 40)
    ∷ at 65 0 (row.Got 0 0 14)
    ∷ at 67 0 (row.Stop 0 why.Spent 5 (Some 76))
    ∷ at 67 0 (row.Run 2)
    ∷ at 73 0 (row.Signal 2 0 8)
    ∷ at 73 0 (row.Hold 0 8)
    ∷ at 73 0 (row.Round 2 7 11)
    ∷ at 73 0 (row.Stop 2 why.Spent 6 None)
    ∷ at 73 0 (row.Run 1)
    ∷ []

random_one_17 : schedule random_one_17_system 75 ≡ random_one_17_rows
random_one_17 = refl

abbrev pub random_one_18_system : System
random_one_18_system = record {
  cores = 1;
  delay = 3;
  call = 1;
  min_budget = 1;
  contexts =
      context (codes "s00") 0 9 26 1
      ∷ context (codes "r00") 0 3 3 0
      ∷ context (codes "r01") 0 3 3 0
      ∷ [];
  notes =
      note (codes "n00") 0
      ∷ [];
  threads =
      thread (codes "S00") 0 7 0 0 0 ((Wait 0) ∷ (Compute 1) ∷ [])
      ∷ thread (codes "R00") 1 2 1 0 0 ((Compute 4) ∷ (Signal 0 1) ∷ (Compute 12) ∷ (Signal 0 5) ∷ [])
      ∷ thread (codes "R01") 2 10 2 0 0 ((Compute 7) ∷ (Signal 0 4) ∷ (Compute 2) ∷ (Signal 0 6) ∷ [])
      ∷ [];
  orders = [];
  links = [];
  servers = 0;
  sources = [];
  beats = [];
  chains = [];
}

abbrev pub random_one_18_rows : List Row
random_one_18_rows =
    at 0 0 (row.Release 0)
    ∷ at 0 0 (row.Run 0)
    ∷ at 1 0 (row.Stop 0 why.Wait 1 None)
    ∷ at 1 0 (row.Release 1)
    ∷ at 1 0 (row.Run 1)
    ∷ at 2 0 (row.Release 2)
    ∷ at 2 0 (row.Stop 1 why.Preempt 1 None)
    ∷ at 2 0 (row.Run 2)
    ∷ at 5 0 (row.Stop 2 why.Spent 3 None)
    ∷ at 5 0 (row.Run 2)
    ∷ at 8 0 (row.Stop 2 why.Spent 3 None)
    ∷ at 8 0 (row.Run 2)
    ∷ at 10 0 (row.Signal 2 0 4)
    ∷ at 10 0 (row.Wake 0 0 4 None)
    ∷ at 11 0 (row.Stop 2 why.Spent 3 None)
    ∷ at 11 0 (row.Run 2)
    ∷ at 13 0 (row.Signal 2 0 6)
    ∷ at 13 0 (row.Hold 0 6)
    ∷ at 13 0 (row.Round 2 1 11)
    ∷ at 14 0 (row.Stop 2 why.Spent 3 None)
    ∷ at 14 0 (row.Run 2)
    ∷ at 17 0 (row.Stop 2 why.Spent 3 None)
    ∷ at 17 0 (row.Run 2)
    ∷ at 20 0 (row.Stop 2 why.Spent 3 None)
    ∷ at 20 0 (row.Run 2)
    ∷ at 21 0 (row.Signal 2 0 4)
    ∷ at 21 0 (row.Hold 0 6)
    ∷ at 23 0 (row.Stop 2 why.Spent 3 None)
    ∷ at 23 0 (row.Run 2)
    ∷ at 24 0 (row.Signal 2 0 6)
    ∷ at 24 0 (row.Hold 0 6)
    ∷ at 24 0 (row.Round 2 2 11)
    ∷ at 26 0 (row.Stop 2 why.Spent 3 None)
    ∷ at 26 0 (row.Run 2)
    ∷ at 29 0 (row.Stop 2 why.Spent 3 None)
    ∷ at 29 0 (row.Run 2)
    ∷ at 32 0 (row.Signal 2 0 4)
    ∷ at 32 0 (row.Hold 0 6)
    ∷ at 32 0 (row.Stop 2 why.Spent 3 None)
    ∷ at 32 0 (row.Run 2)
    ∷ at 35 0 (row.Signal 2 0 6)
    ∷ at 35 0 (row.Hold 0 6)
    ∷ at 35 0 (row.Round 2 3 11)
    ∷ at 35 0 (row.Stop 2 why.Spent 3 None)
    ∷ at 35 0 (row.Run 2)
    ∷ at 38 0 (row.Stop 2 why.Spent 3 None)
    ∷ at 38 0 (row.Run 2)
    ∷ at 41 0 (row.Stop 2 why.Spent 3 None)
    ∷ at 41 0 (row.Run 2)
    ∷ at 43 0 (row.Signal 2 0 4)
    ∷ at 43 0 (row.Hold 0 6)
    ∷ at 44 0 (row.Stop 2 why.Spent 3 None)
    ∷ at 44 0 (row.Run 2)
    ∷ at 46 0 (row.Signal 2 0 6)
    ∷ at 46 0 (row.Hold 0 6)
    ∷ at 46 0 (row.Round 2 4 11)
    ∷ at 47 0 (row.Stop 2 why.Spent 3 None)
    ∷ at 47 0 (row.Run 2)
    ∷ at 50 0 (row.Stop 2 why.Spent 3 None)
    ∷ at 50 0 (row.Run 2)
    ∷ at 53 0 (row.Stop 2 why.Spent 3 None)
    ∷ at 53 0 (row.Run 2)
    ∷ at 54 0 (row.Signal 2 0 4)
    ∷ at 54 0 (row.Hold 0 6)
    ∷ at 56 0 (row.Stop 2 why.Spent 3 None)
    ∷ at 56 0 (row.Run 2)
    ∷ at 57 0 (row.Signal 2 0 6)
    ∷ at 57 0 (row.Hold 0 6)
    ∷ at 57 0 (row.Round 2 5 11)
    ∷ at 59 0 (row.Stop 2 why.Spent 3 None)
    ∷ at 59 0 (row.Run 2)
    ∷ at 62 0 (row.Stop 2 why.Spent 3 None)
    ∷ at 62 0 (row.Run 2)
    ∷ at 65 0 (row.Signal 2 0 4)
    ∷ at 65 0 (row.Hold 0 6)
    ∷ at 65 0 (row.Stop 2 why.Spent 3 None)
    ∷ at 65 0 (row.Run 2)
    ∷ at 68 0 (row.Signal 2 0 6)
    ∷ at 68 0 (row.Hold 0 6)
    ∷ at 68 0 (row.Round 2 6 11)
    ∷ at 68 0 (row.Stop 2 why.Spent 3 None)
    ∷ at 68 0 (row.Run 2)
    ∷ at 71 0 (row.Stop 2 why.Spent 3 None)
    ∷ at 71 0 (row.Run 2)
    ∷ at 74 0 (row.Stop 2 why.Spent 3 None)
    ∷ at 74 0 (row.Run 2)
    ∷ at 76 0 (row.Signal 2 0 4)
    ∷ at 76 0 (row.Hold 0 6)
    ∷ at 77 0 (row.Stop 2 why.Spent 3 None)
    ∷ at 77 0 (row.Run 2)
    ∷ []

random_one_18 : schedule random_one_18_system 78 ≡ random_one_18_rows
random_one_18 = refl

abbrev pub random_one_19_system : System
random_one_19_system = record {
  cores = 1;
  delay = 5;
  call = 3;
  min_budget = 1;
  contexts =
      context (codes "a") 0 8 26 2
      ∷ context (codes "b") 0 1 10 0
      ∷ [];
  notes = [];
  threads =
      thread (codes "T1") 1 2 28 0 10 (Yield ∷ (Compute 4) ∷ Yield ∷ [])
      ∷ thread (codes "T0") 0 1 0 3 5 (Yield ∷ [])
      ∷ [];
  orders = [];
  links = [];
  servers = 0;
  sources = [];
  beats = [];
  chains = [];
}

abbrev pub random_one_19_rows : List Row
random_one_19_rows =
    at 0 0 (row.Release 1)
    ∷ at 0 0 (row.Run 1)
    ∷ at 3 0 (row.Round 1 1 3)
    ∷ at 3 0 (row.Stop 1 why.Yield 8 (Some 26))
    ∷ at 26 0 (row.Release 1)
    ∷ at 26 0 (row.Run 1)
    ∷ at 28 0 (row.Release 0)
    ∷ at 28 0 (row.Stop 1 why.Preempt 2 None)
    ∷ at 28 0 (row.Run 0)
    ∷ at 29 0 (row.Stop 0 why.Spent 1 (Some 38))
    ∷ at 29 0 (row.Run 1)
    ∷ at 30 0 (row.Round 1 2 27)
    ∷ at 30 0 (row.Stop 1 why.Yield 6 (Some 52))
    ∷ at 38 0 (row.Release 0)
    ∷ at 38 0 (row.Run 0)
    ∷ at 39 0 (row.Stop 0 why.Spent 1 (Some 48))
    ∷ []

random_one_19 : schedule random_one_19_system 40 ≡ random_one_19_rows
random_one_19 = refl

abbrev pub random_one_20_system : System
random_one_20_system = record {
  cores = 1;
  delay = 9;
  call = 2;
  min_budget = 5;
  contexts =
      context (codes "d") 0 9 16 2
      ∷ context (codes "a") 0 9 44 0
      ∷ context (codes "c") 0 9 17 0
      ∷ context (codes "b") 0 8 10 0
      ∷ [];
  notes =
      note (codes "a") 0
      ∷ [];
  threads =
      thread (codes "B") 1 2 0 3 10 ((Compute 2) ∷ (Compute 8) ∷ [])
      ∷ thread (codes "T2") 2 2 0 2 5 ((Wait 0) ∷ (Wait 0) ∷ (Signal 0 1) ∷ (Compute 3) ∷ Yield ∷ (Compute 2) ∷ [])
      ∷ thread (codes "D") 3 255 1 6 28 ((Compute 5) ∷ Yield ∷ [])
      ∷ [];
  orders =
      order 118 0 9 19 0
      ∷ order 118 2 9 10 0
      ∷ [];
  links = [];
  servers = 0;
  sources = [];
  beats = [];
  chains = [];
}

abbrev pub random_one_20_rows : List Row
random_one_20_rows =
    at 0 0 (row.Release 0)
    ∷ at 0 0 (row.Release 1)
    ∷ at 0 0 (row.Run 0)
    ∷ at 1 0 (row.Release 2)
    ∷ at 1 0 (row.Stop 0 why.Preempt 1 None)
    ∷ at 1 0 (row.Run 2)
    ∷ at 8 0 (row.Round 2 1 7)
    ∷ at 8 0 (row.Stop 2 why.Yield 8 (Some 11))
    ∷ at 8 0 (row.Run 0)
    ∷ at 11 0 (row.Release 2)
    ∷ at 11 0 (row.Stop 0 why.Preempt 3 None)
    ∷ at 11 0 (row.Run 2)
    ∷ at 18 0 (row.Round 2 2 10)
    ∷ at 18 0 (row.Stop 2 why.Yield 8 (Some 21))
    ∷ at 18 0 (row.Run 0)
    ∷ at 21 0 (row.Release 2)
    ∷ at 21 0 (row.Stop 0 why.Preempt 3 (Some 42))
    ∷ at 21 0 (row.Run 2)
    ∷ at 28 0 (row.Round 2 3 10)
    ∷ at 28 0 (row.Stop 2 why.Yield 8 (Some 31))
    ∷ at 28 0 (row.Run 1)
    ∷ at 30 0 (row.Stop 1 why.Wait 2 None)
    ∷ at 31 0 (row.Release 2)
    ∷ at 31 0 (row.Run 2)
    ∷ at 38 0 (row.Round 2 4 10)
    ∷ at 38 0 (row.Stop 2 why.Yield 8 (Some 41))
    ∷ at 41 0 (row.Release 2)
    ∷ at 41 0 (row.Run 2)
    ∷ []

random_one_20 : schedule random_one_20_system 41 ≡ random_one_20_rows
random_one_20 = refl

abbrev pub random_one_21_system : System
random_one_21_system = record {
  cores = 1;
  delay = 2;
  call = 1;
  min_budget = 5;
  contexts =
      context (codes "c") 0 9 16 1
      ∷ context (codes "b") 0 5 5 3
      ∷ context (codes "a") 0 10 62 5
      ∷ [];
  notes =
      note (codes "a") 0
      ∷ note (codes "b") 0
      ∷ [];
  threads =
      thread (codes "T2") 2 2 21 6 0 ((Compute 2) ∷ Yield ∷ [])
      ∷ thread (codes "T1") 1 14 0 3 6 ((Compute 5) ∷ (Compute 3) ∷ (Compute 4) ∷ [])
      ∷ thread (codes "A") 0 0 0 0 0 ((Compute 1) ∷ (Signal 0 643562955) ∷ (Compute 2) ∷ [])
      ∷ [];
  orders =
      order 2 0 7 14 0
      ∷ [];
  links = [];
  servers = 0;
  sources = [];
  beats = [];
  chains = [];
}

abbrev pub random_one_21_rows : List Row
random_one_21_rows =
    at 0 0 (row.Release 1)
    ∷ at 0 0 (row.Release 2)
    ∷ at 0 0 (row.Run 1)
    ∷ at 2 0 (row.Order 0)
    ∷ at 5 0 (row.Stop 1 why.Spent 5 None)
    ∷ at 5 0 (row.Run 1)
    ∷ at 10 0 (row.Stop 1 why.Spent 5 None)
    ∷ at 10 0 (row.Run 1)
    ∷ at 12 0 (row.Round 1 1 12)
    ∷ at 15 0 (row.Stop 1 why.Spent 5 None)
    ∷ at 15 0 (row.Run 1)
    ∷ at 20 0 (row.Stop 1 why.Spent 5 None)
    ∷ at 20 0 (row.Run 1)
    ∷ at 21 0 (row.Release 0)
    ∷ at 24 0 (row.Round 1 2 12)
    ∷ at 25 0 (row.Stop 1 why.Spent 5 None)
    ∷ at 25 0 (row.Run 1)
    ∷ at 30 0 (row.Stop 1 why.Spent 5 None)
    ∷ at 30 0 (row.Run 1)
    ∷ at 35 0 (row.Stop 1 why.Spent 5 None)
    ∷ at 35 0 (row.Run 1)
    ∷ at 36 0 (row.Round 1 3 12)
    ∷ at 36 0 (row.Stop 1 why.Done 1 None)
    ∷ at 36 0 (row.Run 0)
    ∷ at 39 0 (row.Round 0 1 18)
    ∷ at 39 0 (row.Stop 0 why.Yield 10 (Some 83))
    ∷ at 39 0 (row.Run 2)
    ∷ at 41 0 (row.Signal 2 0 643562955)
    ∷ at 41 0 (row.Hold 0 643562955)
    ∷ []

random_one_21 : schedule random_one_21_system 42 ≡ random_one_21_rows
random_one_21 = refl

abbrev pub random_one_22_system : System
random_one_22_system = record {
  cores = 1;
  delay = 3;
  call = 1;
  min_budget = 1;
  contexts =
      context (codes "b") 0 9 41 3
      ∷ context (codes "c") 0 3 19 0
      ∷ context (codes "a") 0 1 34 0
      ∷ [];
  notes =
      note (codes "a") 0
      ∷ note (codes "b") 0
      ∷ note (codes "c") 0
      ∷ [];
  threads =
      thread (codes "T0") 0 255 5 0 0 ((Compute 1) ∷ (Wait 1) ∷ (Compute 8) ∷ (Signal 1 3528643588) ∷ [])
      ∷ thread (codes "B") 1 0 5 0 7 ((Wait 0) ∷ (Wait 2) ∷ (Signal 2 1) ∷ (Compute 4) ∷ (Compute 1) ∷ (Signal 1 195527531) ∷ [])
      ∷ thread (codes "T2") 2 3 5 1 5 ((Compute 5) ∷ Yield ∷ [])
      ∷ [];
  orders = [];
  links = [];
  servers = 0;
  sources = [];
  beats = [];
  chains = [];
}

abbrev pub random_one_22_rows : List Row
random_one_22_rows =
    at 5 0 (row.Release 0)
    ∷ at 5 0 (row.Release 1)
    ∷ at 5 0 (row.Release 2)
    ∷ at 5 0 (row.Run 0)
    ∷ at 7 0 (row.Stop 0 why.Wait 2 None)
    ∷ at 7 0 (row.Run 2)
    ∷ at 8 0 (row.Stop 2 why.Spent 1 (Some 39))
    ∷ at 8 0 (row.Run 1)
    ∷ at 9 0 (row.Stop 1 why.Wait 1 None)
    ∷ at 39 0 (row.Release 2)
    ∷ at 39 0 (row.Run 2)
    ∷ at 40 0 (row.Stop 2 why.Spent 1 (Some 73))
    ∷ []

random_one_22 : schedule random_one_22_system 43 ≡ random_one_22_rows
random_one_22 = refl

abbrev pub random_one_23_system : System
random_one_23_system = record {
  cores = 1;
  delay = 4;
  call = 1;
  min_budget = 2;
  contexts =
      context (codes "s00") 0 15 33 0
      ∷ context (codes "s01") 0 9 76 0
      ∷ context (codes "r00") 0 8 11 3
      ∷ context (codes "r01") 0 3 6 3
      ∷ [];
  notes =
      note (codes "n00") 0
      ∷ note (codes "n01") 0
      ∷ [];
  threads =
      thread (codes "S00") 0 5 0 0 0 ((Wait 0) ∷ (Compute 1) ∷ [])
      ∷ thread (codes "S01") 1 6 0 0 0 ((Wait 1) ∷ (Compute 3) ∷ [])
      ∷ thread (codes "R00") 2 10 0 0 0 ((Compute 5) ∷ (Signal 0 1) ∷ (Compute 11) ∷ (Signal 0 4) ∷ [])
      ∷ thread (codes "R01") 3 10 0 0 0 ((Compute 9) ∷ (Signal 1 4) ∷ [])
      ∷ [];
  orders = [];
  links = [];
  servers = 0;
  sources = [];
  beats = [];
  chains = [];
}

abbrev pub random_one_23_rows : List Row
random_one_23_rows =
    at 0 0 (row.Release 0)
    ∷ at 0 0 (row.Release 1)
    ∷ at 0 0 (row.Release 2)
    ∷ at 0 0 (row.Release 3)
    ∷ at 0 0 (row.Run 2)
    ∷ at 6 0 (row.Signal 2 0 1)
    ∷ at 6 0 (row.Hold 0 1)
    ∷ at 8 0 (row.Stop 2 why.Spent 8 (Some 11))
    ∷ at 8 0 (row.Run 3)
    ∷ at 11 0 (row.Stop 3 why.Spent 3 None)
    ∷ at 11 0 (row.Release 2)
    ∷ at 11 0 (row.Run 3)
    ∷ at 14 0 (row.Stop 3 why.Spent 3 None)
    ∷ at 14 0 (row.Run 2)
    ∷ at 22 0 (row.Stop 2 why.Spent 8 None)
    ∷ at 22 0 (row.Run 3)
    ∷ at 25 0 (row.Stop 3 why.Spent 3 None)
    ∷ at 25 0 (row.Run 2)
    ∷ at 27 0 (row.Signal 2 0 4)
    ∷ at 27 0 (row.Hold 0 5)
    ∷ at 27 0 (row.Round 2 1 27)
    ∷ at 33 0 (row.Signal 2 0 1)
    ∷ at 33 0 (row.Hold 0 5)
    ∷ at 33 0 (row.Stop 2 why.Spent 8 None)
    ∷ at 33 0 (row.Run 3)
    ∷ at 34 0 (row.Signal 3 1 4)
    ∷ at 34 0 (row.Hold 1 4)
    ∷ at 34 0 (row.Round 3 1 34)
    ∷ at 36 0 (row.Stop 3 why.Spent 3 None)
    ∷ at 36 0 (row.Run 2)
    ∷ at 44 0 (row.Stop 2 why.Spent 8 None)
    ∷ at 44 0 (row.Run 3)
    ∷ []

random_one_23 : schedule random_one_23_system 46 ≡ random_one_23_rows
random_one_23 = refl

abbrev pub random_one_24_system : System
random_one_24_system = record {
  cores = 1;
  delay = 1;
  call = 3;
  min_budget = 5;
  contexts =
      context (codes "a") 0 5 62 0
      ∷ context (codes "b") 0 5 15 0
      ∷ [];
  notes =
      note (codes "a") 0
      ∷ note (codes "b") 0
      ∷ note (codes "c") 0
      ∷ [];
  threads =
      thread (codes "A") 0 1 5 0 5 ((Compute 1) ∷ (Compute 2) ∷ [])
      ∷ thread (codes "T1") 1 255 0 6 10 ((Compute 16) ∷ (Compute 15) ∷ (Compute 1) ∷ (Compute 2) ∷ (Signal 1 2) ∷ (Signal 2 2) ∷ [])
      ∷ [];
  orders =
      order 54 0 5 7 0
      ∷ [];
  links = [];
  servers = 0;
  sources = [];
  beats = [];
  chains = [];
}

abbrev pub random_one_24_rows : List Row
random_one_24_rows =
    at 0 0 (row.Release 1)
    ∷ at 0 0 (row.Run 1)
    ∷ at 5 0 (row.Stop 1 why.Spent 5 (Some 15))
    ∷ at 5 0 (row.Release 0)
    ∷ at 5 0 (row.Run 0)
    ∷ at 8 0 (row.Round 0 1 3)
    ∷ at 10 0 (row.Stop 0 why.Spent 5 (Some 67))
    ∷ at 15 0 (row.Release 1)
    ∷ at 15 0 (row.Run 1)
    ∷ at 20 0 (row.Stop 1 why.Spent 5 (Some 30))
    ∷ at 30 0 (row.Release 1)
    ∷ at 30 0 (row.Run 1)
    ∷ at 35 0 (row.Stop 1 why.Spent 5 (Some 45))
    ∷ at 45 0 (row.Release 1)
    ∷ at 45 0 (row.Run 1)
    ∷ []

random_one_24 : schedule random_one_24_system 49 ≡ random_one_24_rows
random_one_24 = refl

abbrev pub random_one_25_system : System
random_one_25_system = record {
  cores = 1;
  delay = 1;
  call = 3;
  min_budget = 2;
  contexts =
      context (codes "c") 0 2 2 0
      ∷ context (codes "b") 0 3 23 0
      ∷ context (codes "a") 0 2 18 3
      ∷ [];
  notes = [];
  threads =
      thread (codes "T0") 0 2 2 0 10 ((Compute 1) ∷ Yield ∷ [])
      ∷ thread (codes "C") 2 1 2 3 10 (Yield ∷ [])
      ∷ thread (codes "B") 1 2 0 0 0 (Yield ∷ (Compute 5) ∷ (Compute 4) ∷ (Compute 8) ∷ [])
      ∷ [];
  orders = [];
  links = [];
  servers = 0;
  sources = [];
  beats = [];
  chains = [];
}

abbrev pub random_one_25_rows : List Row
random_one_25_rows =
    at 0 0 (row.Release 2)
    ∷ at 0 0 (row.Run 2)
    ∷ at 2 0 (row.Release 0)
    ∷ at 2 0 (row.Release 1)
    ∷ at 3 0 (row.Stop 2 why.Yield 3 (Some 23))
    ∷ at 3 0 (row.Run 0)
    ∷ at 5 0 (row.Stop 0 why.Spent 2 None)
    ∷ at 5 0 (row.Run 0)
    ∷ at 7 0 (row.Round 0 1 5)
    ∷ at 7 0 (row.Stop 0 why.Yield 2 None)
    ∷ at 7 0 (row.Run 0)
    ∷ at 9 0 (row.Stop 0 why.Spent 2 None)
    ∷ at 9 0 (row.Run 0)
    ∷ at 11 0 (row.Round 0 2 4)
    ∷ at 11 0 (row.Stop 0 why.Yield 2 None)
    ∷ at 11 0 (row.Run 0)
    ∷ at 13 0 (row.Stop 0 why.Spent 2 None)
    ∷ at 13 0 (row.Run 0)
    ∷ at 15 0 (row.Round 0 3 4)
    ∷ at 15 0 (row.Stop 0 why.Yield 2 None)
    ∷ at 15 0 (row.Run 0)
    ∷ at 17 0 (row.Stop 0 why.Spent 2 None)
    ∷ at 17 0 (row.Run 0)
    ∷ at 19 0 (row.Round 0 4 4)
    ∷ at 19 0 (row.Stop 0 why.Yield 2 None)
    ∷ at 19 0 (row.Run 0)
    ∷ at 21 0 (row.Stop 0 why.Spent 2 None)
    ∷ at 21 0 (row.Run 0)
    ∷ at 23 0 (row.Round 0 5 4)
    ∷ at 23 0 (row.Stop 0 why.Yield 2 None)
    ∷ at 23 0 (row.Release 2)
    ∷ at 23 0 (row.Run 0)
    ∷ at 25 0 (row.Stop 0 why.Spent 2 None)
    ∷ at 25 0 (row.Run 2)
    ∷ at 28 0 (row.Stop 2 why.Spent 3 (Some 46))
    ∷ at 28 0 (row.Run 0)
    ∷ at 30 0 (row.Round 0 6 7)
    ∷ at 30 0 (row.Stop 0 why.Yield 2 None)
    ∷ at 30 0 (row.Run 0)
    ∷ at 32 0 (row.Stop 0 why.Spent 2 None)
    ∷ at 32 0 (row.Run 0)
    ∷ at 34 0 (row.Round 0 7 4)
    ∷ at 34 0 (row.Stop 0 why.Yield 2 None)
    ∷ at 34 0 (row.Run 0)
    ∷ at 36 0 (row.Stop 0 why.Spent 2 None)
    ∷ at 36 0 (row.Run 0)
    ∷ at 38 0 (row.Round 0 8 4)
    ∷ at 38 0 (row.Stop 0 why.Yield 2 None)
    ∷ at 38 0 (row.Run 0)
    ∷ at 40 0 (row.Stop 0 why.Spent 2 None)
    ∷ at 40 0 (row.Run 0)
    ∷ at 42 0 (row.Round 0 9 4)
    ∷ at 42 0 (row.Stop 0 why.Yield 2 None)
    ∷ at 42 0 (row.Run 0)
    ∷ at 44 0 (row.Stop 0 why.Spent 2 None)
    ∷ at 44 0 (row.Run 0)
    ∷ at 46 0 (row.Round 0 10 4)
    ∷ at 46 0 (row.Stop 0 why.Yield 2 None)
    ∷ at 46 0 (row.Release 2)
    ∷ at 46 0 (row.Run 0)
    ∷ at 48 0 (row.Stop 0 why.Spent 2 None)
    ∷ at 48 0 (row.Run 2)
    ∷ at 51 0 (row.Stop 2 why.Spent 3 (Some 69))
    ∷ at 51 0 (row.Run 0)
    ∷ []

random_one_25 : schedule random_one_25_system 52 ≡ random_one_25_rows
random_one_25 = refl

abbrev pub random_one_26_system : System
random_one_26_system = record {
  cores = 1;
  delay = 4;
  call = 1;
  min_budget = 1;
  contexts =
      context (codes "s00") 0 4 80 0
      ∷ context (codes "r00") 0 5 8 3
      ∷ context (codes "r01") 0 5 8 0
      ∷ [];
  notes =
      note (codes "n00") 0
      ∷ [];
  threads =
      thread (codes "S00") 0 9 0 0 0 ((Wait 0) ∷ (Compute 1) ∷ [])
      ∷ thread (codes "R00") 1 7 0 0 0 ((Compute 6) ∷ (Signal 0 4) ∷ [])
      ∷ thread (codes "R01") 2 1 0 0 0 ((Compute 7) ∷ (Signal 0 2) ∷ (Compute 12) ∷ (Signal 0 5) ∷ [])
      ∷ [];
  orders =
      order 182 0 3 7 0
      ∷ [];
  links = [];
  servers = 0;
  sources = [];
  beats = [];
  chains = [];
}

abbrev pub random_one_26_rows : List Row
random_one_26_rows =
    at 0 0 (row.Release 0)
    ∷ at 0 0 (row.Release 1)
    ∷ at 0 0 (row.Release 2)
    ∷ at 0 0 (row.Run 0)
    ∷ at 1 0 (row.Stop 0 why.Wait 1 None)
    ∷ at 1 0 (row.Run 1)
    ∷ at 6 0 (row.Stop 1 why.Spent 5 (Some 8))
    ∷ at 6 0 (row.Run 2)
    ∷ at 8 0 (row.Release 1)
    ∷ at 8 0 (row.Stop 2 why.Preempt 2 None)
    ∷ at 8 0 (row.Run 1)
    ∷ at 10 0 (row.Signal 1 0 4)
    ∷ at 10 0 (row.Wake 0 0 4 None)
    ∷ at 10 0 (row.Round 1 1 10)
    ∷ at 10 0 (row.Stop 1 why.Preempt 2 None)
    ∷ at 10 0 (row.Run 0)
    ∷ at 11 0 (row.Round 0 1 1)
    ∷ at 12 0 (row.Stop 0 why.Wait 2 None)
    ∷ at 12 0 (row.Run 1)
    ∷ at 15 0 (row.Stop 1 why.Spent 3 (Some 16))
    ∷ at 15 0 (row.Run 2)
    ∷ at 16 0 (row.Release 1)
    ∷ at 16 0 (row.Stop 2 why.Preempt 1 None)
    ∷ at 16 0 (row.Run 1)
    ∷ at 20 0 (row.Signal 1 0 4)
    ∷ at 20 0 (row.Wake 0 0 4 None)
    ∷ at 20 0 (row.Round 1 2 10)
    ∷ at 20 0 (row.Stop 1 why.Preempt 4 None)
    ∷ at 20 0 (row.Run 0)
    ∷ at 21 0 (row.Round 0 2 1)
    ∷ at 21 0 (row.Stop 0 why.Spent 1 (Some 89))
    ∷ at 21 0 (row.Run 1)
    ∷ at 22 0 (row.Stop 1 why.Spent 1 (Some 24))
    ∷ at 22 0 (row.Run 2)
    ∷ at 24 0 (row.Stop 2 why.Spent 2 None)
    ∷ at 24 0 (row.Release 1)
    ∷ at 24 0 (row.Run 1)
    ∷ at 29 0 (row.Stop 1 why.Spent 5 (Some 32))
    ∷ at 29 0 (row.Run 2)
    ∷ at 32 0 (row.Signal 2 0 2)
    ∷ at 32 0 (row.Hold 0 2)
    ∷ at 32 0 (row.Release 1)
    ∷ at 32 0 (row.Stop 2 why.Preempt 3 None)
    ∷ at 32 0 (row.Run 1)
    ∷ at 33 0 (row.Signal 1 0 4)
    ∷ at 33 0 (row.Hold 0 6)
    ∷ at 33 0 (row.Round 1 3 13)
    ∷ at 37 0 (row.Stop 1 why.Spent 5 (Some 40))
    ∷ at 37 0 (row.Run 2)
    ∷ at 39 0 (row.Stop 2 why.Spent 2 None)
    ∷ at 39 0 (row.Run 2)
    ∷ at 40 0 (row.Release 1)
    ∷ at 40 0 (row.Stop 2 why.Preempt 1 None)
    ∷ at 40 0 (row.Run 1)
    ∷ at 43 0 (row.Signal 1 0 4)
    ∷ at 43 0 (row.Hold 0 6)
    ∷ at 43 0 (row.Round 1 4 10)
    ∷ at 45 0 (row.Stop 1 why.Spent 5 (Some 48))
    ∷ at 45 0 (row.Run 2)
    ∷ at 48 0 (row.Release 1)
    ∷ at 48 0 (row.Stop 2 why.Preempt 3 None)
    ∷ at 48 0 (row.Run 1)
    ∷ at 53 0 (row.Signal 1 0 4)
    ∷ at 53 0 (row.Hold 0 6)
    ∷ at 53 0 (row.Round 1 5 10)
    ∷ at 53 0 (row.Stop 1 why.Spent 5 (Some 56))
    ∷ at 53 0 (row.Run 2)
    ∷ []

random_one_26 : schedule random_one_26_system 53 ≡ random_one_26_rows
random_one_26 = refl

abbrev pub random_one_27_system : System
random_one_27_system = record {
  cores = 1;
  delay = 1;
  call = 1;
  min_budget = 1;
  contexts =
      context (codes "w") 0 5 8 3
      ∷ context (codes "h") 0 60 70 0
      ∷ [];
  notes =
      note (codes "n") 0
      ∷ [];
  threads =
      thread (codes "H") 1 5 3 0 0 ((Signal 0 7) ∷ (Compute 6) ∷ (Signal 0 8) ∷ (Compute 6) ∷ (Signal 0 1) ∷ (Compute 2) ∷ Yield ∷ [])
      ∷ thread (codes "W") 0 9 0 0 0 ((Wait 0) ∷ (Compute 3) ∷ (Wait 0) ∷ (Compute 2) ∷ [])
      ∷ [];
  orders =
      order 25 0 7 19 0
      ∷ order 2 0 12 26 2
      ∷ order 37 0 2 24 0
      ∷ [];
  links = [];
  servers = 0;
  sources = [];
  beats = [];
  chains = [];
}

abbrev pub random_one_27_rows : List Row
random_one_27_rows =
    at 0 0 (row.Release 1)
    ∷ at 0 0 (row.Run 1)
    ∷ at 1 0 (row.Stop 1 why.Wait 1 None)
    ∷ at 2 0 (row.Order 0)
    ∷ at 3 0 (row.Release 0)
    ∷ at 3 0 (row.Run 0)
    ∷ at 4 0 (row.Signal 0 0 7)
    ∷ at 4 0 (row.Wake 1 0 7 None)
    ∷ at 4 0 (row.Stop 0 why.Preempt 1 None)
    ∷ at 4 0 (row.Run 1)
    ∷ at 8 0 (row.Stop 1 why.Wait 4 None)
    ∷ at 8 0 (row.Run 0)
    ∷ at 15 0 (row.Signal 0 0 8)
    ∷ at 15 0 (row.Wake 1 0 8 (Some 20))
    ∷ at 20 0 (row.Release 1)
    ∷ at 20 0 (row.Stop 0 why.Preempt 12 None)
    ∷ at 20 0 (row.Run 1)
    ∷ at 22 0 (row.Round 1 1 18)
    ∷ at 23 0 (row.Stop 1 why.Wait 3 None)
    ∷ at 23 0 (row.Run 0)
    ∷ at 25 0 (row.Signal 0 0 1)
    ∷ at 25 0 (row.Wake 1 0 1 None)
    ∷ at 25 0 (row.Order 0)
    ∷ at 25 0 (row.Stop 0 why.Preempt 2 None)
    ∷ at 25 0 (row.Run 1)
    ∷ at 29 0 (row.Stop 1 why.Wait 4 None)
    ∷ at 29 0 (row.Run 0)
    ∷ at 32 0 (row.Round 0 1 29)
    ∷ at 32 0 (row.Stop 0 why.Yield 45 (Some 73))
    ∷ at 37 0 (row.Order 0)
    ∷ []

random_one_27 : schedule random_one_27_system 58 ≡ random_one_27_rows
random_one_27 = refl

abbrev pub random_one_28_system : System
random_one_28_system = record {
  cores = 1;
  delay = 4;
  call = 1;
  min_budget = 1;
  contexts =
      context (codes "s00") 0 5 27 0
      ∷ context (codes "s01") 0 4 20 2
      ∷ context (codes "r00") 0 3 3 0
      ∷ context (codes "r01") 0 3 5 0
      ∷ [];
  notes =
      note (codes "n00") 0
      ∷ note (codes "n01") 0
      ∷ [];
  threads =
      thread (codes "S00") 0 5 0 0 0 ((Compute 3) ∷ [])
      ∷ thread (codes "S01") 1 9 0 0 0 ((Wait 1) ∷ (Compute 1) ∷ [])
      ∷ thread (codes "R00") 2 10 4 0 0 ((Compute 5) ∷ (Signal 1 5) ∷ (Compute 7) ∷ (Signal 0 7) ∷ [])
      ∷ thread (codes "R01") 3 1 0 0 0 ((Compute 8) ∷ (Signal 0 8) ∷ (Compute 10) ∷ (Signal 0 3) ∷ [])
      ∷ [];
  orders =
      order 25 3 2 32 0
      ∷ order 24 0 5 35 0
      ∷ order 30 1 5 15 0
      ∷ order 0 1 6 21 0
      ∷ [];
  links = [];
  servers = 0;
  sources = [];
  beats = [];
  chains = [];
}

abbrev pub random_one_28_rows : List Row
random_one_28_rows =
    at 0 0 (row.Order 1)
    ∷ at 0 0 (row.Release 0)
    ∷ at 0 0 (row.Release 1)
    ∷ at 0 0 (row.Release 3)
    ∷ at 0 0 (row.Run 1)
    ∷ at 1 0 (row.Stop 1 why.Wait 1 None)
    ∷ at 1 0 (row.Run 0)
    ∷ at 4 0 (row.Round 0 1 4)
    ∷ at 4 0 (row.Release 2)
    ∷ at 4 0 (row.Stop 0 why.Preempt 3 None)
    ∷ at 4 0 (row.Run 2)
    ∷ at 7 0 (row.Stop 2 why.Spent 3 None)
    ∷ at 7 0 (row.Run 2)
    ∷ at 10 0 (row.Signal 2 1 5)
    ∷ at 10 0 (row.Wake 1 1 5 None)
    ∷ at 10 0 (row.Stop 2 why.Spent 3 None)
    ∷ at 10 0 (row.Run 2)
    ∷ at 13 0 (row.Stop 2 why.Spent 3 None)
    ∷ at 13 0 (row.Run 2)
    ∷ at 16 0 (row.Stop 2 why.Spent 3 None)
    ∷ at 16 0 (row.Run 2)
    ∷ at 18 0 (row.Signal 2 0 7)
    ∷ at 18 0 (row.Hold 0 7)
    ∷ at 18 0 (row.Round 2 1 14)
    ∷ at 19 0 (row.Stop 2 why.Spent 3 None)
    ∷ at 19 0 (row.Run 2)
    ∷ at 22 0 (row.Stop 2 why.Spent 3 None)
    ∷ at 22 0 (row.Run 2)
    ∷ at 24 0 (row.Signal 2 1 5)
    ∷ at 24 0 (row.Hold 1 5)
    ∷ at 24 0 (row.Order 0)
    ∷ at 25 0 (row.Stop 2 why.Spent 3 None)
    ∷ at 25 0 (row.Order 3)
    ∷ at 25 0 (row.Run 2)
    ∷ at 28 0 (row.Stop 2 why.Spent 3 None)
    ∷ at 28 0 (row.Run 2)
    ∷ at 30 0 (row.Order 1)
    ∷ at 31 0 (row.Stop 2 why.Spent 3 None)
    ∷ at 31 0 (row.Run 2)
    ∷ at 32 0 (row.Signal 2 0 7)
    ∷ at 32 0 (row.Hold 0 7)
    ∷ at 32 0 (row.Round 2 2 14)
    ∷ at 34 0 (row.Stop 2 why.Spent 3 None)
    ∷ at 34 0 (row.Run 2)
    ∷ at 37 0 (row.Stop 2 why.Spent 3 None)
    ∷ at 37 0 (row.Run 2)
    ∷ at 38 0 (row.Signal 2 1 5)
    ∷ at 38 0 (row.Hold 1 5)
    ∷ at 40 0 (row.Stop 2 why.Spent 3 None)
    ∷ at 40 0 (row.Run 2)
    ∷ at 43 0 (row.Stop 2 why.Spent 3 None)
    ∷ at 43 0 (row.Run 2)
    ∷ at 46 0 (row.Signal 2 0 7)
    ∷ at 46 0 (row.Hold 0 7)
    ∷ at 46 0 (row.Round 2 3 14)
    ∷ at 46 0 (row.Stop 2 why.Spent 3 None)
    ∷ at 46 0 (row.Run 2)
    ∷ at 49 0 (row.Stop 2 why.Spent 3 None)
    ∷ at 49 0 (row.Run 2)
    ∷ at 52 0 (row.Signal 2 1 5)
    ∷ at 52 0 (row.Hold 1 5)
    ∷ at 52 0 (row.Stop 2 why.Spent 3 None)
    ∷ at 52 0 (row.Run 2)
    ∷ at 55 0 (row.Stop 2 why.Spent 3 None)
    ∷ at 55 0 (row.Run 2)
    ∷ at 58 0 (row.Stop 2 why.Spent 3 None)
    ∷ at 58 0 (row.Run 2)
    ∷ at 60 0 (row.Signal 2 0 7)
    ∷ at 60 0 (row.Hold 0 7)
    ∷ at 60 0 (row.Round 2 4 14)
    ∷ []

random_one_28 : schedule random_one_28_system 60 ≡ random_one_28_rows
random_one_28 = refl

abbrev pub random_one_29_system : System
random_one_29_system = record {
  cores = 1;
  delay = 1;
  call = 1;
  min_budget = 3;
  contexts =
      context (codes "a") 0 3 13 0
      ∷ context (codes "c") 0 9 21 0
      ∷ context (codes "b") 0 11 11 0
      ∷ [];
  notes =
      note (codes "a") 0
      ∷ note (codes "b") 0
      ∷ [];
  threads =
      thread (codes "T0") 0 255 2 0 0 ((Compute 5) ∷ Yield ∷ [])
      ∷ thread (codes "C") 2 255 0 9 1 ((Wait 0) ∷ (Signal 1 2138514147) ∷ [])
      ∷ thread (codes "B") 1 3 0 0 21 (Yield ∷ (Compute 2) ∷ [])
      ∷ [];
  orders =
      order 0 0 6 9 0
      ∷ order 0 1 3 9 0
      ∷ [];
  links = [];
  servers = 0;
  sources = [];
  beats = [];
  chains = [];
}

abbrev pub random_one_29_rows : List Row
random_one_29_rows =
    at 0 0 (row.Order 0)
    ∷ at 0 0 (row.Order 1)
    ∷ at 0 0 (row.Release 1)
    ∷ at 0 0 (row.Release 2)
    ∷ at 0 0 (row.Run 1)
    ∷ at 1 0 (row.Stop 1 why.Wait 1 None)
    ∷ at 1 0 (row.Run 2)
    ∷ at 2 0 (row.Stop 2 why.Yield 3 (Some 9))
    ∷ at 2 0 (row.Release 0)
    ∷ at 2 0 (row.Run 0)
    ∷ at 5 0 (row.Stop 0 why.Spent 3 (Some 8))
    ∷ at 8 0 (row.Release 0)
    ∷ at 8 0 (row.Run 0)
    ∷ at 9 0 (row.Release 2)
    ∷ at 11 0 (row.Round 0 1 9)
    ∷ at 11 0 (row.Stop 0 why.Yield 6 (Some 17))
    ∷ at 11 0 (row.Run 2)
    ∷ at 13 0 (row.Round 2 1 13)
    ∷ at 14 0 (row.Stop 2 why.Yield 3 (Some 18))
    ∷ at 17 0 (row.Release 0)
    ∷ at 17 0 (row.Run 0)
    ∷ at 18 0 (row.Release 2)
    ∷ at 23 0 (row.Round 0 2 12)
    ∷ at 23 0 (row.Stop 0 why.Yield 6 (Some 26))
    ∷ at 23 0 (row.Run 2)
    ∷ at 25 0 (row.Round 2 2 12)
    ∷ at 26 0 (row.Stop 2 why.Yield 3 (Some 27))
    ∷ at 26 0 (row.Release 0)
    ∷ at 26 0 (row.Run 0)
    ∷ at 27 0 (row.Release 2)
    ∷ at 32 0 (row.Round 0 3 9)
    ∷ at 32 0 (row.Stop 0 why.Yield 6 (Some 35))
    ∷ at 32 0 (row.Run 2)
    ∷ at 34 0 (row.Round 2 3 9)
    ∷ at 35 0 (row.Stop 2 why.Yield 3 (Some 36))
    ∷ at 35 0 (row.Release 0)
    ∷ at 35 0 (row.Run 0)
    ∷ at 36 0 (row.Release 2)
    ∷ at 41 0 (row.Round 0 4 9)
    ∷ at 41 0 (row.Stop 0 why.Yield 6 (Some 44))
    ∷ at 41 0 (row.Run 2)
    ∷ at 43 0 (row.Round 2 4 9)
    ∷ at 44 0 (row.Stop 2 why.Yield 3 (Some 45))
    ∷ at 44 0 (row.Release 0)
    ∷ at 44 0 (row.Run 0)
    ∷ at 45 0 (row.Release 2)
    ∷ at 50 0 (row.Round 0 5 9)
    ∷ at 50 0 (row.Stop 0 why.Yield 6 (Some 53))
    ∷ at 50 0 (row.Run 2)
    ∷ at 52 0 (row.Round 2 5 9)
    ∷ at 53 0 (row.Stop 2 why.Yield 3 (Some 54))
    ∷ at 53 0 (row.Release 0)
    ∷ at 53 0 (row.Run 0)
    ∷ at 54 0 (row.Release 2)
    ∷ at 59 0 (row.Round 0 6 9)
    ∷ at 59 0 (row.Stop 0 why.Yield 6 (Some 62))
    ∷ at 59 0 (row.Run 2)
    ∷ at 61 0 (row.Round 2 6 9)
    ∷ []

random_one_29 : schedule random_one_29_system 61 ≡ random_one_29_rows
random_one_29 = refl

abbrev pub random_one_30_system : System
random_one_30_system = record {
  cores = 1;
  delay = 2;
  call = 3;
  min_budget = 5;
  contexts =
      context (codes "d") 0 6 7 5
      ∷ context (codes "c") 0 9 11 3
      ∷ context (codes "a") 0 8 15 0
      ∷ context (codes "b") 0 6 6 0
      ∷ context (codes "e") 0 8 10 3
      ∷ [];
  notes =
      note (codes "a") 0
      ∷ [];
  threads =
      thread (codes "T2") 2 1 0 1 5 ((Wait 0) ∷ (Compute 13) ∷ [])
      ∷ thread (codes "T0") 0 234 0 1 0 ((Signal 0 4) ∷ Yield ∷ [])
      ∷ thread (codes "B") 1 255 5 0 5 ((Signal 0 1) ∷ [])
      ∷ thread (codes "T3") 3 157 5 3 0 ((Signal 0 7) ∷ (Signal 0 4) ∷ (Compute 8) ∷ (Compute 1) ∷ (Signal 0 1) ∷ (Signal 0 2161095563) ∷ [])
      ∷ thread (codes "E") 4 3 0 1 0 ((Wait 0) ∷ (Compute 1) ∷ (Signal 0 4) ∷ (Compute 2) ∷ (Compute 2) ∷ Yield ∷ [])
      ∷ [];
  orders = [];
  links = [];
  servers = 0;
  sources = [];
  beats = [];
  chains = [];
}

abbrev pub random_one_30_rows : List Row
random_one_30_rows =
    at 0 0 (row.Release 0)
    ∷ at 0 0 (row.Release 1)
    ∷ at 0 0 (row.Release 4)
    ∷ at 0 0 (row.Run 1)
    ∷ at 3 0 (row.Signal 1 0 4)
    ∷ at 3 0 (row.Hold 0 4)
    ∷ at 5 0 (row.Release 2)
    ∷ at 5 0 (row.Release 3)
    ∷ at 5 0 (row.Stop 1 why.Preempt 5 (Some 6))
    ∷ at 5 0 (row.Run 2)
    ∷ at 6 0 (row.Release 1)
    ∷ at 8 0 (row.Signal 2 0 1)
    ∷ at 8 0 (row.Hold 0 5)
    ∷ at 8 0 (row.Round 2 1 3)
    ∷ at 11 0 (row.Signal 2 0 1)
    ∷ at 11 0 (row.Hold 0 5)
    ∷ at 11 0 (row.Round 2 2 3)
    ∷ at 14 0 (row.Signal 2 0 1)
    ∷ at 14 0 (row.Hold 0 5)
    ∷ at 14 0 (row.Round 2 3 3)
    ∷ at 14 0 (row.Stop 2 why.Spent 9 (Some 16))
    ∷ at 14 0 (row.Run 1)
    ∷ at 15 0 (row.Round 1 1 15)
    ∷ at 15 0 (row.Stop 1 why.Done 1 None)
    ∷ at 15 0 (row.Run 3)
    ∷ at 16 0 (row.Release 2)
    ∷ at 16 0 (row.Stop 3 why.Preempt 1 None)
    ∷ at 16 0 (row.Run 2)
    ∷ at 19 0 (row.Signal 2 0 1)
    ∷ at 19 0 (row.Hold 0 5)
    ∷ at 19 0 (row.Round 2 4 5)
    ∷ at 22 0 (row.Signal 2 0 1)
    ∷ at 22 0 (row.Hold 0 5)
    ∷ at 22 0 (row.Round 2 5 3)
    ∷ at 25 0 (row.Signal 2 0 1)
    ∷ at 25 0 (row.Hold 0 5)
    ∷ at 25 0 (row.Round 2 6 3)
    ∷ at 25 0 (row.Stop 2 why.Spent 9 (Some 27))
    ∷ at 25 0 (row.Run 3)
    ∷ at 27 0 (row.Signal 3 0 7)
    ∷ at 27 0 (row.Hold 0 7)
    ∷ at 27 0 (row.Release 2)
    ∷ at 27 0 (row.Stop 3 why.Preempt 2 None)
    ∷ at 27 0 (row.Run 2)
    ∷ at 30 0 (row.Signal 2 0 1)
    ∷ at 30 0 (row.Hold 0 7)
    ∷ at 30 0 (row.Round 2 7 5)
    ∷ at 33 0 (row.Signal 2 0 1)
    ∷ at 33 0 (row.Hold 0 7)
    ∷ at 33 0 (row.Round 2 8 3)
    ∷ at 36 0 (row.Signal 2 0 1)
    ∷ at 36 0 (row.Hold 0 7)
    ∷ at 36 0 (row.Round 2 9 3)
    ∷ at 36 0 (row.Stop 2 why.Spent 9 (Some 38))
    ∷ at 36 0 (row.Run 3)
    ∷ at 38 0 (row.Release 2)
    ∷ at 38 0 (row.Stop 3 why.Preempt 2 None)
    ∷ at 38 0 (row.Run 2)
    ∷ at 41 0 (row.Signal 2 0 1)
    ∷ at 41 0 (row.Hold 0 7)
    ∷ at 41 0 (row.Round 2 10 5)
    ∷ at 44 0 (row.Signal 2 0 1)
    ∷ at 44 0 (row.Hold 0 7)
    ∷ at 44 0 (row.Round 2 11 3)
    ∷ at 47 0 (row.Signal 2 0 1)
    ∷ at 47 0 (row.Hold 0 7)
    ∷ at 47 0 (row.Round 2 12 3)
    ∷ at 47 0 (row.Stop 2 why.Spent 9 (Some 49))
    ∷ at 47 0 (row.Run 3)
    ∷ at 48 0 (row.Signal 3 0 4)
    ∷ at 48 0 (row.Hold 0 7)
    ∷ at 48 0 (row.Stop 3 why.Spent 1 None)
    ∷ at 48 0 (row.Run 3)
    ∷ at 49 0 (row.Release 2)
    ∷ at 49 0 (row.Stop 3 why.Preempt 1 None)
    ∷ at 49 0 (row.Run 2)
    ∷ at 52 0 (row.Signal 2 0 1)
    ∷ at 52 0 (row.Hold 0 7)
    ∷ at 52 0 (row.Round 2 13 5)
    ∷ at 55 0 (row.Signal 2 0 1)
    ∷ at 55 0 (row.Hold 0 7)
    ∷ at 55 0 (row.Round 2 14 3)
    ∷ at 58 0 (row.Signal 2 0 1)
    ∷ at 58 0 (row.Hold 0 7)
    ∷ at 58 0 (row.Round 2 15 3)
    ∷ at 58 0 (row.Stop 2 why.Spent 9 (Some 60))
    ∷ at 58 0 (row.Run 3)
    ∷ at 60 0 (row.Release 2)
    ∷ at 60 0 (row.Stop 3 why.Preempt 2 None)
    ∷ at 60 0 (row.Run 2)
    ∷ []

random_one_30 : schedule random_one_30_system 62 ≡ random_one_30_rows
random_one_30 = refl

abbrev pub random_several_01_system : System
random_several_01_system = record {
  cores = 3;
  delay = 3;
  call = 1;
  min_budget = 1;
  contexts =
      context (codes "c0") 0 3 5 0
      ∷ context (codes "c1") 1 3 3 0
      ∷ context (codes "w0") 2 2 4 0
      ∷ [];
  notes =
      note (codes "n") 2
      ∷ [];
  threads =
      thread (codes "C1") 1 3 2 1 0 ((Compute 2) ∷ (Signal 0 2048) ∷ [])
      ∷ thread (codes "C0") 0 3 0 4 0 ((Compute 2) ∷ (Signal 0 8192) ∷ (Signal 0 1024) ∷ (Signal 0 67108864) ∷ [])
      ∷ thread (codes "W0") 2 1 0 0 0 ((Wait 0) ∷ (Compute 1) ∷ [])
      ∷ [];
  orders = [];
  links = [];
  servers = 0;
  sources = [];
  beats = [];
  chains = [];
}

abbrev pub random_several_01_rows : List Row
random_several_01_rows =
    at 0 0 (row.Release 1)
    ∷ at 0 0 (row.Run 1)
    ∷ at 0 2 (row.Release 2)
    ∷ at 0 2 (row.Run 2)
    ∷ at 1 2 (row.Stop 2 why.Wait 1 None)
    ∷ at 2 1 (row.Release 0)
    ∷ at 2 1 (row.Run 0)
    ∷ at 3 0 (row.Signal 1 0 8192)
    ∷ at 3 0 (row.Stop 1 why.Spent 3 (Some 5))
    ∷ at 5 0 (row.Release 1)
    ∷ at 5 0 (row.Run 1)
    ∷ at 5 1 (row.Signal 0 0 2048)
    ∷ at 5 1 (row.Round 0 1 3)
    ∷ at 5 1 (row.Stop 0 why.Done 3 None)
    ∷ at 6 0 (row.Signal 1 0 1024)
    ∷ at 6 2 (row.Arrive 0 8192 0)
    ∷ at 6 2 (row.Wake 2 0 8192 None)
    ∷ at 6 2 (row.Run 2)
    ∷ at 7 0 (row.Signal 1 0 67108864)
    ∷ at 7 0 (row.Round 1 1 7)
    ∷ at 7 2 (row.Round 2 1 1)
    ∷ at 8 0 (row.Stop 1 why.Spent 3 (Some 10))
    ∷ at 8 2 (row.Stop 2 why.Wait 2 None)
    ∷ at 8 2 (row.Arrive 0 2048 1)
    ∷ at 8 2 (row.Wake 2 0 2048 (Some 10))
    ∷ at 9 2 (row.Arrive 0 1024 0)
    ∷ at 9 2 (row.Hold 0 1024)
    ∷ at 10 0 (row.Release 1)
    ∷ at 10 0 (row.Run 1)
    ∷ at 10 2 (row.Arrive 0 67108864 0)
    ∷ at 10 2 (row.Hold 0 67109888)
    ∷ at 10 2 (row.Release 2)
    ∷ at 10 2 (row.Run 2)
    ∷ at 11 2 (row.Round 2 2 3)
    ∷ at 12 0 (row.Signal 1 0 8192)
    ∷ at 12 2 (row.Got 2 0 67109888)
    ∷ at 12 2 (row.Stop 2 why.Spent 2 (Some 14))
    ∷ at 13 0 (row.Signal 1 0 1024)
    ∷ at 13 0 (row.Stop 1 why.Spent 3 (Some 15))
    ∷ at 14 2 (row.Release 2)
    ∷ at 14 2 (row.Run 2)
    ∷ at 15 0 (row.Release 1)
    ∷ at 15 0 (row.Run 1)
    ∷ at 15 2 (row.Round 2 3 3)
    ∷ at 15 2 (row.Arrive 0 8192 0)
    ∷ at 15 2 (row.Hold 0 8192)
    ∷ at 16 0 (row.Signal 1 0 67108864)
    ∷ at 16 0 (row.Round 1 2 9)
    ∷ at 16 2 (row.Got 2 0 8192)
    ∷ at 16 2 (row.Stop 2 why.Spent 2 (Some 18))
    ∷ at 16 2 (row.Arrive 0 1024 0)
    ∷ at 16 2 (row.Hold 0 1024)
    ∷ at 18 0 (row.Stop 1 why.Spent 3 (Some 20))
    ∷ at 18 2 (row.Release 2)
    ∷ at 18 2 (row.Run 2)
    ∷ at 19 2 (row.Round 2 4 3)
    ∷ at 19 2 (row.Arrive 0 67108864 0)
    ∷ at 19 2 (row.Hold 0 67109888)
    ∷ at 20 0 (row.Release 1)
    ∷ at 20 0 (row.Run 1)
    ∷ at 20 2 (row.Got 2 0 67109888)
    ∷ at 20 2 (row.Stop 2 why.Spent 2 (Some 22))
    ∷ at 21 0 (row.Signal 1 0 8192)
    ∷ at 22 0 (row.Signal 1 0 1024)
    ∷ at 22 2 (row.Release 2)
    ∷ at 22 2 (row.Run 2)
    ∷ at 23 0 (row.Signal 1 0 67108864)
    ∷ at 23 0 (row.Round 1 3 7)
    ∷ at 23 0 (row.Stop 1 why.Spent 3 (Some 25))
    ∷ at 23 2 (row.Round 2 5 3)
    ∷ at 24 2 (row.Stop 2 why.Wait 2 None)
    ∷ at 24 2 (row.Arrive 0 8192 0)
    ∷ at 24 2 (row.Wake 2 0 8192 (Some 26))
    ∷ at 25 0 (row.Release 1)
    ∷ at 25 0 (row.Run 1)
    ∷ at 25 2 (row.Arrive 0 1024 0)
    ∷ at 25 2 (row.Hold 0 1024)
    ∷ at 26 2 (row.Arrive 0 67108864 0)
    ∷ at 26 2 (row.Hold 0 67109888)
    ∷ at 26 2 (row.Release 2)
    ∷ at 26 2 (row.Run 2)
    ∷ at 27 2 (row.Round 2 6 3)
    ∷ at 28 0 (row.Signal 1 0 8192)
    ∷ at 28 0 (row.Stop 1 why.Spent 3 (Some 30))
    ∷ at 28 2 (row.Got 2 0 67109888)
    ∷ at 28 2 (row.Stop 2 why.Spent 2 (Some 30))
    ∷ at 30 0 (row.Release 1)
    ∷ at 30 0 (row.Run 1)
    ∷ at 30 2 (row.Release 2)
    ∷ at 30 2 (row.Run 2)
    ∷ at 31 0 (row.Signal 1 0 1024)
    ∷ at 31 2 (row.Round 2 7 3)
    ∷ at 31 2 (row.Arrive 0 8192 0)
    ∷ at 31 2 (row.Hold 0 8192)
    ∷ at 32 0 (row.Signal 1 0 67108864)
    ∷ at 32 0 (row.Round 1 4 9)
    ∷ at 32 0 (row.Stop 1 why.Done 2 None)
    ∷ at 32 2 (row.Got 2 0 8192)
    ∷ at 32 2 (row.Stop 2 why.Spent 2 (Some 34))
    ∷ at 34 2 (row.Arrive 0 1024 0)
    ∷ at 34 2 (row.Hold 0 1024)
    ∷ at 34 2 (row.Release 2)
    ∷ at 34 2 (row.Run 2)
    ∷ at 35 2 (row.Round 2 8 3)
    ∷ at 35 2 (row.Arrive 0 67108864 0)
    ∷ at 35 2 (row.Hold 0 67109888)
    ∷ at 36 2 (row.Got 2 0 67109888)
    ∷ at 36 2 (row.Stop 2 why.Spent 2 (Some 38))
    ∷ at 38 2 (row.Release 2)
    ∷ at 38 2 (row.Run 2)
    ∷ at 39 2 (row.Round 2 9 3)
    ∷ at 40 2 (row.Stop 2 why.Wait 2 None)
    ∷ []

random_several_01 : schedule random_several_01_system 50 ≡ random_several_01_rows
random_several_01 = refl

abbrev pub random_several_02_system : System
random_several_02_system = record {
  cores = 2;
  delay = 2;
  call = 1;
  min_budget = 1;
  contexts =
      context (codes "a") 0 3 10 1
      ∷ context (codes "b") 1 1 1 0
      ∷ context (codes "c") 1 6 7 0
      ∷ [];
  notes =
      note (codes "a") 1
      ∷ note (codes "b") 1
      ∷ [];
  threads =
      thread (codes "T0") 0 1 0 1 1 ((Signal 1 4) ∷ (Signal 1 1) ∷ (Compute 4) ∷ Yield ∷ Yield ∷ Yield ∷ [])
      ∷ thread (codes "T2") 2 255 6 3 20 ((Compute 5) ∷ (Compute 3) ∷ (Wait 1) ∷ Yield ∷ [])
      ∷ thread (codes "B") 1 2 20 5 0 ((Signal 1 7) ∷ (Compute 1) ∷ [])
      ∷ [];
  orders =
      order 15 0 8 18 3
      ∷ [];
  links = [];
  servers = 0;
  sources = [];
  beats = [];
  chains = [];
}

abbrev pub random_several_02_rows : List Row
random_several_02_rows =
    at 0 0 (row.Release 0)
    ∷ at 0 0 (row.Run 0)
    ∷ at 1 0 (row.Signal 0 1 4)
    ∷ at 2 0 (row.Signal 0 1 1)
    ∷ at 3 0 (row.Stop 0 why.Spent 3 (Some 10))
    ∷ at 3 1 (row.Arrive 1 4 0)
    ∷ at 3 1 (row.Hold 1 4)
    ∷ at 4 1 (row.Arrive 1 1 0)
    ∷ at 4 1 (row.Hold 1 5)
    ∷ at 6 1 (row.Release 1)
    ∷ at 6 1 (row.Run 1)
    ∷ at 10 0 (row.Release 0)
    ∷ at 10 0 (row.Run 0)
    ∷ at 12 1 (row.Stop 1 why.Spent 6 (Some 13))
    ∷ at 13 0 (row.Stop 0 why.Spent 3 (Some 20))
    ∷ at 13 1 (row.Release 1)
    ∷ at 13 1 (row.Run 1)
    ∷ at 15 0 (row.Order 0)
    ∷ at 16 1 (row.Got 1 1 5)
    ∷ at 17 1 (row.Round 1 1 11)
    ∷ at 17 1 (row.Stop 1 why.Yield 6 (Some 20))
    ∷ at 20 0 (row.Release 0)
    ∷ at 20 0 (row.Run 0)
    ∷ at 20 1 (row.Release 2)
    ∷ at 20 1 (row.Release 1)
    ∷ at 20 1 (row.Run 1)
    ∷ at 21 0 (row.Stop 0 why.Yield 3 (Some 33))
    ∷ at 26 1 (row.Stop 1 why.Spent 6 (Some 27))
    ∷ at 26 1 (row.Run 2)
    ∷ at 27 1 (row.Signal 2 1 7)
    ∷ at 27 1 (row.Hold 1 7)
    ∷ at 27 1 (row.Stop 2 why.Spent 1 None)
    ∷ at 27 1 (row.Release 1)
    ∷ at 27 1 (row.Run 1)
    ∷ at 30 1 (row.Got 1 1 7)
    ∷ at 31 1 (row.Round 1 2 14)
    ∷ at 31 1 (row.Stop 1 why.Yield 6 (Some 34))
    ∷ at 31 1 (row.Run 2)
    ∷ at 32 1 (row.Round 2 1 12)
    ∷ at 32 1 (row.Stop 2 why.Spent 1 None)
    ∷ at 32 1 (row.Run 2)
    ∷ at 33 0 (row.Release 0)
    ∷ at 33 0 (row.Run 0)
    ∷ at 33 1 (row.Signal 2 1 7)
    ∷ at 33 1 (row.Hold 1 7)
    ∷ at 33 1 (row.Stop 2 why.Spent 1 None)
    ∷ at 33 1 (row.Run 2)
    ∷ at 34 0 (row.Stop 0 why.Yield 8 (Some 51))
    ∷ at 34 1 (row.Round 2 2 2)
    ∷ at 34 1 (row.Stop 2 why.Spent 1 None)
    ∷ at 34 1 (row.Release 1)
    ∷ at 34 1 (row.Run 1)
    ∷ at 40 1 (row.Stop 1 why.Spent 6 (Some 41))
    ∷ at 40 1 (row.Run 2)
    ∷ at 41 1 (row.Signal 2 1 7)
    ∷ at 41 1 (row.Hold 1 7)
    ∷ at 41 1 (row.Stop 2 why.Spent 1 None)
    ∷ at 41 1 (row.Release 1)
    ∷ at 41 1 (row.Run 1)
    ∷ at 44 1 (row.Got 1 1 7)
    ∷ at 45 1 (row.Round 1 3 14)
    ∷ at 45 1 (row.Stop 1 why.Done 4 None)
    ∷ at 45 1 (row.Run 2)
    ∷ at 46 1 (row.Round 2 3 12)
    ∷ at 46 1 (row.Stop 2 why.Spent 1 None)
    ∷ at 46 1 (row.Run 2)
    ∷ at 47 1 (row.Signal 2 1 7)
    ∷ at 47 1 (row.Hold 1 7)
    ∷ at 47 1 (row.Stop 2 why.Spent 1 None)
    ∷ at 47 1 (row.Run 2)
    ∷ at 48 1 (row.Round 2 4 2)
    ∷ at 48 1 (row.Stop 2 why.Spent 1 None)
    ∷ at 48 1 (row.Run 2)
    ∷ at 49 1 (row.Signal 2 1 7)
    ∷ at 49 1 (row.Hold 1 7)
    ∷ at 49 1 (row.Stop 2 why.Spent 1 None)
    ∷ at 49 1 (row.Run 2)
    ∷ at 50 1 (row.Round 2 5 2)
    ∷ at 50 1 (row.Stop 2 why.Done 1 None)
    ∷ at 51 0 (row.Release 0)
    ∷ at 51 0 (row.Run 0)
    ∷ at 52 0 (row.Round 0 1 52)
    ∷ at 52 0 (row.Stop 0 why.Done 1 None)
    ∷ []

random_several_02 : schedule random_several_02_system 54 ≡ random_several_02_rows
random_several_02 = refl

abbrev pub random_several_03_system : System
random_several_03_system = record {
  cores = 3;
  delay = 3;
  call = 3;
  min_budget = 1;
  contexts =
      context (codes "d") 2 3 15 0
      ∷ context (codes "b") 1 3 12 0
      ∷ context (codes "a") 0 6 19 0
      ∷ context (codes "c") 1 2 5 0
      ∷ [];
  notes =
      note (codes "a") 2
      ∷ note (codes "b") 2
      ∷ note (codes "c") 2
      ∷ note (codes "d") 1
      ∷ note (codes "e") 0
      ∷ [];
  threads =
      thread (codes "T2") 2 1 0 0 10 ((Compute 2) ∷ (Compute 4) ∷ [])
      ∷ thread (codes "A") 0 0 29 2 0 ((Compute 5) ∷ (Compute 1) ∷ (Signal 1 7) ∷ (Wait 2) ∷ (Signal 3 2) ∷ Yield ∷ [])
      ∷ thread (codes "T3") 3 0 0 2 40 ((Signal 3 1) ∷ Yield ∷ (Compute 5) ∷ [])
      ∷ thread (codes "T1") 1 1 0 0 1 ((Signal 2 5) ∷ [])
      ∷ [];
  orders =
      order 3 0 1 2 0
      ∷ order 3 3 5 14 1
      ∷ [];
  links = [];
  servers = 0;
  sources = [];
  beats = [];
  chains = [];
}

abbrev pub random_several_03_rows : List Row
random_several_03_rows =
    at 0 0 (row.Release 0)
    ∷ at 0 0 (row.Run 0)
    ∷ at 0 1 (row.Release 2)
    ∷ at 0 1 (row.Release 3)
    ∷ at 0 1 (row.Run 3)
    ∷ at 3 1 (row.Signal 3 2 5)
    ∷ at 3 1 (row.Round 3 1 3)
    ∷ at 3 1 (row.Stop 3 why.Spent 3 (Some 12))
    ∷ at 3 1 (row.Order 3)
    ∷ at 3 1 (row.Run 2)
    ∷ at 3 2 (row.Order 0)
    ∷ at 5 1 (row.Stop 2 why.Spent 2 (Some 14))
    ∷ at 6 0 (row.Round 0 1 6)
    ∷ at 6 0 (row.Stop 0 why.Spent 6 (Some 19))
    ∷ at 6 2 (row.Arrive 2 5 1)
    ∷ at 6 2 (row.Hold 2 5)
    ∷ at 12 1 (row.Release 3)
    ∷ at 12 1 (row.Run 3)
    ∷ at 14 1 (row.Release 2)
    ∷ at 15 1 (row.Signal 3 2 5)
    ∷ at 15 1 (row.Round 3 2 12)
    ∷ at 15 1 (row.Stop 3 why.Spent 3 (Some 24))
    ∷ at 15 1 (row.Run 2)
    ∷ at 16 1 (row.Signal 2 3 1)
    ∷ at 16 1 (row.Hold 3 1)
    ∷ at 18 2 (row.Arrive 2 5 1)
    ∷ at 18 2 (row.Hold 2 5)
    ∷ at 19 0 (row.Release 0)
    ∷ at 19 0 (row.Run 0)
    ∷ at 19 1 (row.Stop 2 why.Yield 5 (Some 28))
    ∷ at 24 1 (row.Release 3)
    ∷ at 24 1 (row.Run 3)
    ∷ at 25 0 (row.Round 0 2 19)
    ∷ at 25 0 (row.Stop 0 why.Spent 6 (Some 38))
    ∷ at 27 1 (row.Signal 3 2 5)
    ∷ at 27 1 (row.Round 3 3 12)
    ∷ at 27 1 (row.Stop 3 why.Spent 3 (Some 36))
    ∷ at 28 1 (row.Release 2)
    ∷ at 28 1 (row.Run 2)
    ∷ at 29 2 (row.Release 1)
    ∷ at 29 2 (row.Run 1)
    ∷ at 30 2 (row.Stop 1 why.Spent 1 (Some 31))
    ∷ at 30 2 (row.Arrive 2 5 1)
    ∷ at 30 2 (row.Hold 2 5)
    ∷ at 31 2 (row.Release 1)
    ∷ at 31 2 (row.Run 1)
    ∷ at 32 2 (row.Stop 1 why.Spent 1 (Some 33))
    ∷ at 33 1 (row.Round 2 1 33)
    ∷ at 33 1 (row.Stop 2 why.Spent 5 (Some 42))
    ∷ at 33 2 (row.Release 1)
    ∷ at 33 2 (row.Run 1)
    ∷ at 34 2 (row.Stop 1 why.Spent 1 (Some 35))
    ∷ at 35 2 (row.Release 1)
    ∷ at 35 2 (row.Run 1)
    ∷ at 36 1 (row.Release 3)
    ∷ at 36 1 (row.Run 3)
    ∷ at 36 2 (row.Stop 1 why.Spent 1 (Some 37))
    ∷ at 37 2 (row.Release 1)
    ∷ at 37 2 (row.Run 1)
    ∷ at 38 0 (row.Release 0)
    ∷ at 38 0 (row.Run 0)
    ∷ at 38 2 (row.Stop 1 why.Spent 1 (Some 39))
    ∷ at 39 1 (row.Signal 3 2 5)
    ∷ at 39 1 (row.Round 3 4 12)
    ∷ at 39 1 (row.Stop 3 why.Spent 3 (Some 48))
    ∷ at 39 2 (row.Release 1)
    ∷ at 39 2 (row.Run 1)
    ∷ at 40 2 (row.Stop 1 why.Spent 1 (Some 41))
    ∷ at 41 2 (row.Release 1)
    ∷ at 41 2 (row.Run 1)
    ∷ at 42 1 (row.Release 2)
    ∷ at 42 1 (row.Run 2)
    ∷ at 42 2 (row.Stop 1 why.Spent 1 (Some 43))
    ∷ at 42 2 (row.Arrive 2 5 1)
    ∷ at 42 2 (row.Hold 2 5)
    ∷ at 43 2 (row.Release 1)
    ∷ at 43 2 (row.Run 1)
    ∷ at 44 0 (row.Round 0 3 19)
    ∷ at 44 0 (row.Stop 0 why.Spent 6 (Some 57))
    ∷ at 44 2 (row.Stop 1 why.Spent 1 (Some 45))
    ∷ at 45 1 (row.Signal 2 3 1)
    ∷ at 45 1 (row.Hold 3 1)
    ∷ at 45 2 (row.Release 1)
    ∷ at 45 2 (row.Run 1)
    ∷ at 46 2 (row.Signal 1 1 7)
    ∷ at 46 2 (row.Hold 1 7)
    ∷ at 46 2 (row.Stop 1 why.Spent 1 (Some 47))
    ∷ at 47 1 (row.Stop 2 why.Spent 5 (Some 56))
    ∷ at 47 2 (row.Release 1)
    ∷ at 47 2 (row.Run 1)
    ∷ at 48 1 (row.Release 3)
    ∷ at 48 1 (row.Run 3)
    ∷ at 48 2 (row.Stop 1 why.Spent 1 (Some 49))
    ∷ at 49 2 (row.Release 1)
    ∷ at 49 2 (row.Run 1)
    ∷ at 50 2 (row.Stop 1 why.Spent 1 (Some 51))
    ∷ at 51 1 (row.Signal 3 2 5)
    ∷ at 51 1 (row.Round 3 5 12)
    ∷ at 51 1 (row.Stop 3 why.Spent 3 (Some 60))
    ∷ at 51 2 (row.Release 1)
    ∷ at 51 2 (row.Run 1)
    ∷ at 52 2 (row.Got 1 2 5)
    ∷ at 52 2 (row.Stop 1 why.Spent 1 (Some 53))
    ∷ at 53 2 (row.Release 1)
    ∷ at 53 2 (row.Run 1)
    ∷ at 54 2 (row.Stop 1 why.Spent 1 (Some 55))
    ∷ at 54 2 (row.Arrive 2 5 1)
    ∷ at 54 2 (row.Hold 2 5)
    ∷ at 55 2 (row.Release 1)
    ∷ at 55 2 (row.Run 1)
    ∷ at 56 1 (row.Release 2)
    ∷ at 56 1 (row.Run 2)
    ∷ at 56 2 (row.Stop 1 why.Spent 1 (Some 57))
    ∷ at 57 0 (row.Release 0)
    ∷ at 57 0 (row.Run 0)
    ∷ at 57 1 (row.Stop 2 why.Yield 5 (Some 70))
    ∷ at 57 2 (row.Release 1)
    ∷ at 57 2 (row.Run 1)
    ∷ []

random_several_03 : schedule random_several_03_system 57 ≡ random_several_03_rows
random_several_03 = refl

abbrev pub random_several_04_system : System
random_several_04_system = record {
  cores = 4;
  delay = 3;
  call = 1;
  min_budget = 1;
  contexts =
      context (codes "c0") 0 3 5 0
      ∷ context (codes "c1") 1 3 4 0
      ∷ context (codes "c2") 2 3 5 0
      ∷ context (codes "w0") 3 2 12 0
      ∷ context (codes "w1") 3 2 5 0
      ∷ context (codes "w2") 3 3 5 0
      ∷ [];
  notes =
      note (codes "n") 3
      ∷ [];
  threads =
      thread (codes "C0") 0 3 2 1 0 ((Signal 0 2) ∷ (Signal 0 16384) ∷ (Signal 0 131072) ∷ [])
      ∷ thread (codes "C2") 2 3 1 4 0 ((Signal 0 262144) ∷ (Signal 0 8388608) ∷ (Signal 0 8192) ∷ [])
      ∷ thread (codes "C1") 1 3 2 1 0 ((Signal 0 131072) ∷ [])
      ∷ thread (codes "W1") 4 2 0 0 0 ((Wait 0) ∷ (Compute 1) ∷ [])
      ∷ thread (codes "W2") 5 2 0 0 0 ((Wait 0) ∷ (Compute 2) ∷ [])
      ∷ thread (codes "W0") 3 3 0 0 0 ((Wait 0) ∷ (Compute 1) ∷ [])
      ∷ [];
  orders = [];
  links = [];
  servers = 0;
  sources = [];
  beats = [];
  chains = [];
}

abbrev pub random_several_04_rows : List Row
random_several_04_rows =
    at 0 3 (row.Release 3)
    ∷ at 0 3 (row.Release 4)
    ∷ at 0 3 (row.Release 5)
    ∷ at 0 3 (row.Run 5)
    ∷ at 1 2 (row.Release 1)
    ∷ at 1 2 (row.Run 1)
    ∷ at 1 3 (row.Stop 5 why.Wait 1 None)
    ∷ at 1 3 (row.Run 3)
    ∷ at 2 0 (row.Release 0)
    ∷ at 2 0 (row.Run 0)
    ∷ at 2 1 (row.Release 2)
    ∷ at 2 1 (row.Run 2)
    ∷ at 2 2 (row.Signal 1 0 262144)
    ∷ at 2 3 (row.Stop 3 why.Wait 1 None)
    ∷ at 2 3 (row.Run 4)
    ∷ at 3 0 (row.Signal 0 0 2)
    ∷ at 3 1 (row.Signal 2 0 131072)
    ∷ at 3 1 (row.Round 2 1 1)
    ∷ at 3 1 (row.Stop 2 why.Done 1 None)
    ∷ at 3 2 (row.Signal 1 0 8388608)
    ∷ at 3 3 (row.Stop 4 why.Wait 1 None)
    ∷ at 4 0 (row.Signal 0 0 16384)
    ∷ at 4 2 (row.Signal 1 0 8192)
    ∷ at 4 2 (row.Round 1 1 3)
    ∷ at 4 2 (row.Stop 1 why.Spent 3 (Some 6))
    ∷ at 5 0 (row.Signal 0 0 131072)
    ∷ at 5 0 (row.Round 0 1 3)
    ∷ at 5 0 (row.Stop 0 why.Done 3 None)
    ∷ at 5 3 (row.Arrive 0 262144 2)
    ∷ at 5 3 (row.Wake 5 0 262144 None)
    ∷ at 5 3 (row.Run 5)
    ∷ at 6 2 (row.Release 1)
    ∷ at 6 2 (row.Run 1)
    ∷ at 6 3 (row.Round 5 1 1)
    ∷ at 6 3 (row.Stop 5 why.Spent 1 (Some 12))
    ∷ at 6 3 (row.Arrive 0 2 0)
    ∷ at 6 3 (row.Wake 3 0 2 None)
    ∷ at 6 3 (row.Arrive 0 131072 1)
    ∷ at 6 3 (row.Wake 4 0 131072 None)
    ∷ at 6 3 (row.Arrive 0 8388608 2)
    ∷ at 6 3 (row.Hold 0 8388608)
    ∷ at 6 3 (row.Run 3)
    ∷ at 7 2 (row.Signal 1 0 262144)
    ∷ at 7 3 (row.Round 3 1 1)
    ∷ at 7 3 (row.Arrive 0 16384 0)
    ∷ at 7 3 (row.Hold 0 8404992)
    ∷ at 7 3 (row.Arrive 0 8192 2)
    ∷ at 7 3 (row.Hold 0 8413184)
    ∷ at 8 2 (row.Signal 1 0 8388608)
    ∷ at 8 3 (row.Got 3 0 8413184)
    ∷ at 8 3 (row.Stop 3 why.Spent 2 (Some 11))
    ∷ at 8 3 (row.Arrive 0 131072 0)
    ∷ at 8 3 (row.Hold 0 131072)
    ∷ at 8 3 (row.Run 4)
    ∷ at 9 2 (row.Signal 1 0 8192)
    ∷ at 9 2 (row.Round 1 2 5)
    ∷ at 9 2 (row.Stop 1 why.Spent 3 (Some 11))
    ∷ at 10 3 (row.Round 4 1 4)
    ∷ at 10 3 (row.Arrive 0 262144 2)
    ∷ at 10 3 (row.Hold 0 393216)
    ∷ at 11 2 (row.Release 1)
    ∷ at 11 2 (row.Run 1)
    ∷ at 11 3 (row.Got 4 0 393216)
    ∷ at 11 3 (row.Stop 4 why.Spent 3 None)
    ∷ at 11 3 (row.Arrive 0 8388608 2)
    ∷ at 11 3 (row.Hold 0 8388608)
    ∷ at 11 3 (row.Release 3)
    ∷ at 11 3 (row.Run 4)
    ∷ at 12 2 (row.Signal 1 0 262144)
    ∷ at 12 3 (row.Arrive 0 8192 2)
    ∷ at 12 3 (row.Hold 0 8396800)
    ∷ at 12 3 (row.Release 5)
    ∷ at 12 3 (row.Stop 4 why.Preempt 1 None)
    ∷ at 12 3 (row.Run 5)
    ∷ at 13 2 (row.Signal 1 0 8388608)
    ∷ at 13 3 (row.Got 5 0 8396800)
    ∷ at 13 3 (row.Stop 5 why.Spent 1 (Some 17))
    ∷ at 13 3 (row.Run 4)
    ∷ at 14 2 (row.Signal 1 0 8192)
    ∷ at 14 2 (row.Round 1 3 5)
    ∷ at 14 2 (row.Stop 1 why.Spent 3 (Some 16))
    ∷ at 14 3 (row.Round 4 2 3)
    ∷ at 15 3 (row.Stop 4 why.Wait 2 None)
    ∷ at 15 3 (row.Arrive 0 262144 2)
    ∷ at 15 3 (row.Wake 4 0 262144 (Some 16))
    ∷ at 15 3 (row.Run 3)
    ∷ at 16 2 (row.Release 1)
    ∷ at 16 2 (row.Run 1)
    ∷ at 16 3 (row.Round 3 2 8)
    ∷ at 16 3 (row.Arrive 0 8388608 2)
    ∷ at 16 3 (row.Hold 0 8388608)
    ∷ at 16 3 (row.Release 4)
    ∷ at 17 2 (row.Signal 1 0 262144)
    ∷ at 17 3 (row.Got 3 0 8388608)
    ∷ at 17 3 (row.Stop 3 why.Spent 2 None)
    ∷ at 17 3 (row.Arrive 0 8192 2)
    ∷ at 17 3 (row.Hold 0 8192)
    ∷ at 17 3 (row.Release 5)
    ∷ at 17 3 (row.Run 5)
    ∷ at 18 2 (row.Signal 1 0 8388608)
    ∷ at 18 3 (row.Round 5 2 5)
    ∷ at 18 3 (row.Stop 5 why.Spent 1 (Some 24))
    ∷ at 18 3 (row.Run 4)
    ∷ at 19 2 (row.Signal 1 0 8192)
    ∷ at 19 2 (row.Round 1 4 5)
    ∷ at 19 2 (row.Stop 1 why.Done 3 None)
    ∷ at 20 3 (row.Round 4 3 5)
    ∷ at 20 3 (row.Arrive 0 262144 2)
    ∷ at 20 3 (row.Hold 0 270336)
    ∷ at 21 3 (row.Got 4 0 270336)
    ∷ at 21 3 (row.Stop 4 why.Spent 3 None)
    ∷ at 21 3 (row.Arrive 0 8388608 2)
    ∷ at 21 3 (row.Hold 0 8388608)
    ∷ at 21 3 (row.Run 3)
    ∷ at 22 3 (row.Round 3 3 5)
    ∷ at 22 3 (row.Arrive 0 8192 2)
    ∷ at 22 3 (row.Hold 0 8396800)
    ∷ at 23 3 (row.Got 3 0 8396800)
    ∷ at 23 3 (row.Stop 3 why.Spent 2 None)
    ∷ at 23 3 (row.Run 4)
    ∷ at 24 3 (row.Release 5)
    ∷ at 24 3 (row.Stop 4 why.Preempt 1 None)
    ∷ at 24 3 (row.Run 5)
    ∷ at 25 3 (row.Stop 5 why.Wait 1 None)
    ∷ at 25 3 (row.Run 4)
    ∷ at 26 3 (row.Round 4 4 5)
    ∷ at 27 3 (row.Stop 4 why.Wait 2 None)
    ∷ at 27 3 (row.Run 3)
    ∷ at 28 3 (row.Round 3 4 5)
    ∷ at 29 3 (row.Stop 3 why.Wait 2 None)
    ∷ []

random_several_04 : schedule random_several_04_system 58 ≡ random_several_04_rows
random_several_04 = refl

abbrev pub random_several_05_system : System
random_several_05_system = record {
  cores = 2;
  delay = 1;
  call = 3;
  min_budget = 1;
  contexts =
      context (codes "c") 0 5 9 3
      ∷ context (codes "a") 0 1 44 2
      ∷ context (codes "e") 1 7 8 0
      ∷ context (codes "g") 1 3 4 0
      ∷ context (codes "f") 1 8 66 1
      ∷ context (codes "b") 0 1 3 5
      ∷ context (codes "d") 0 1 3 5
      ∷ [];
  notes =
      note (codes "a") 0
      ∷ note (codes "b") 0
      ∷ note (codes "c") 0
      ∷ note (codes "d") 1
      ∷ note (codes "e") 0
      ∷ [];
  threads =
      thread (codes "T1") 1 0 2 1 0 ((Compute 5) ∷ (Signal 3 4) ∷ [])
      ∷ thread (codes "G") 6 1 2 1 5 ((Compute 2) ∷ (Signal 0 7) ∷ [])
      ∷ thread (codes "F") 5 2 1 0 1 ((Compute 3) ∷ (Signal 2 7) ∷ (Compute 4) ∷ [])
      ∷ thread (codes "T3") 3 0 12 4 10 ((Compute 2) ∷ Yield ∷ [])
      ∷ thread (codes "T4") 4 255 0 3 5 ((Signal 4 5) ∷ (Compute 4) ∷ (Signal 2 5) ∷ (Signal 2 4) ∷ [])
      ∷ [];
  orders = [];
  links = [];
  servers = 0;
  sources = [];
  beats = [];
  chains = [];
}

abbrev pub random_several_05_rows : List Row
random_several_05_rows =
    at 0 1 (row.Release 4)
    ∷ at 0 1 (row.Run 4)
    ∷ at 1 0 (row.Release 2)
    ∷ at 1 0 (row.Run 2)
    ∷ at 2 0 (row.Stop 2 why.Spent 1 (Some 4))
    ∷ at 2 0 (row.Release 0)
    ∷ at 2 0 (row.Release 1)
    ∷ at 2 0 (row.Run 1)
    ∷ at 3 0 (row.Stop 1 why.Spent 1 (Some 5))
    ∷ at 3 0 (row.Run 0)
    ∷ at 3 1 (row.Signal 4 4 5)
    ∷ at 4 0 (row.Stop 0 why.Spent 1 (Some 46))
    ∷ at 4 0 (row.Arrive 4 5 1)
    ∷ at 4 0 (row.Hold 4 5)
    ∷ at 4 0 (row.Release 2)
    ∷ at 4 0 (row.Run 2)
    ∷ at 5 0 (row.Stop 2 why.Spent 1 (Some 7))
    ∷ at 5 0 (row.Release 1)
    ∷ at 5 0 (row.Run 1)
    ∷ at 6 0 (row.Stop 1 why.Spent 1 (Some 8))
    ∷ at 7 0 (row.Release 2)
    ∷ at 7 0 (row.Run 2)
    ∷ at 8 0 (row.Stop 2 why.Spent 1 (Some 10))
    ∷ at 8 0 (row.Release 1)
    ∷ at 8 0 (row.Run 1)
    ∷ at 8 1 (row.Stop 4 why.Spent 8 (Some 66))
    ∷ at 9 0 (row.Stop 1 why.Spent 1 (Some 11))
    ∷ at 10 0 (row.Release 2)
    ∷ at 10 0 (row.Run 2)
    ∷ at 11 0 (row.Stop 2 why.Spent 1 (Some 13))
    ∷ at 11 0 (row.Release 1)
    ∷ at 11 0 (row.Run 1)
    ∷ at 12 0 (row.Stop 1 why.Spent 1 (Some 14))
    ∷ at 12 1 (row.Release 3)
    ∷ at 12 1 (row.Run 3)
    ∷ at 13 0 (row.Release 2)
    ∷ at 13 0 (row.Run 2)
    ∷ at 14 0 (row.Stop 2 why.Spent 1 (Some 16))
    ∷ at 14 0 (row.Release 1)
    ∷ at 14 0 (row.Run 1)
    ∷ at 15 0 (row.Signal 1 0 7)
    ∷ at 15 0 (row.Hold 0 7)
    ∷ at 15 0 (row.Round 1 1 13)
    ∷ at 15 0 (row.Stop 1 why.Done 1 None)
    ∷ at 15 1 (row.Stop 3 why.Spent 3 (Some 16))
    ∷ at 16 0 (row.Release 2)
    ∷ at 16 0 (row.Run 2)
    ∷ at 16 1 (row.Release 3)
    ∷ at 16 1 (row.Run 3)
    ∷ at 17 0 (row.Signal 2 2 7)
    ∷ at 17 0 (row.Hold 2 7)
    ∷ at 17 0 (row.Stop 2 why.Spent 1 (Some 19))
    ∷ at 18 1 (row.Round 3 1 6)
    ∷ at 18 1 (row.Stop 3 why.Yield 3 (Some 20))
    ∷ at 19 0 (row.Release 2)
    ∷ at 19 0 (row.Run 2)
    ∷ at 20 0 (row.Stop 2 why.Spent 1 (Some 22))
    ∷ at 20 1 (row.Release 3)
    ∷ at 20 1 (row.Run 3)
    ∷ at 22 0 (row.Release 2)
    ∷ at 22 0 (row.Run 2)
    ∷ at 23 0 (row.Stop 2 why.Spent 1 (Some 25))
    ∷ at 23 1 (row.Stop 3 why.Spent 3 (Some 24))
    ∷ at 24 1 (row.Release 3)
    ∷ at 24 1 (row.Run 3)
    ∷ at 25 0 (row.Release 2)
    ∷ at 25 0 (row.Run 2)
    ∷ at 26 0 (row.Stop 2 why.Spent 1 (Some 28))
    ∷ at 26 1 (row.Round 3 2 8)
    ∷ at 26 1 (row.Stop 3 why.Yield 3 (Some 28))
    ∷ at 28 0 (row.Release 2)
    ∷ at 28 0 (row.Run 2)
    ∷ at 28 1 (row.Release 3)
    ∷ at 28 1 (row.Run 3)
    ∷ at 29 0 (row.Round 2 1 28)
    ∷ at 29 0 (row.Stop 2 why.Spent 1 (Some 31))
    ∷ at 31 0 (row.Release 2)
    ∷ at 31 0 (row.Run 2)
    ∷ at 31 1 (row.Stop 3 why.Spent 3 (Some 32))
    ∷ at 32 0 (row.Stop 2 why.Spent 1 (Some 34))
    ∷ at 32 1 (row.Release 3)
    ∷ at 32 1 (row.Run 3)
    ∷ at 34 0 (row.Release 2)
    ∷ at 34 0 (row.Run 2)
    ∷ at 34 1 (row.Round 3 3 8)
    ∷ at 34 1 (row.Stop 3 why.Yield 3 (Some 36))
    ∷ at 35 0 (row.Stop 2 why.Spent 1 (Some 37))
    ∷ at 36 1 (row.Release 3)
    ∷ at 36 1 (row.Run 3)
    ∷ at 37 0 (row.Release 2)
    ∷ at 37 0 (row.Run 2)
    ∷ at 38 0 (row.Stop 2 why.Spent 1 (Some 40))
    ∷ at 39 1 (row.Stop 3 why.Spent 3 (Some 40))
    ∷ at 40 0 (row.Release 2)
    ∷ at 40 0 (row.Run 2)
    ∷ at 40 1 (row.Release 3)
    ∷ at 40 1 (row.Run 3)
    ∷ at 41 0 (row.Stop 2 why.Spent 1 (Some 43))
    ∷ at 42 1 (row.Round 3 4 8)
    ∷ at 42 1 (row.Stop 3 why.Done 2 None)
    ∷ at 43 0 (row.Release 2)
    ∷ at 43 0 (row.Run 2)
    ∷ at 44 0 (row.Stop 2 why.Spent 1 (Some 46))
    ∷ at 46 0 (row.Release 0)
    ∷ at 46 0 (row.Release 2)
    ∷ at 46 0 (row.Run 2)
    ∷ at 47 0 (row.Signal 2 2 7)
    ∷ at 47 0 (row.Hold 2 7)
    ∷ at 47 0 (row.Stop 2 why.Spent 1 (Some 49))
    ∷ at 47 0 (row.Run 0)
    ∷ at 48 0 (row.Stop 0 why.Spent 1 (Some 90))
    ∷ at 49 0 (row.Release 2)
    ∷ at 49 0 (row.Run 2)
    ∷ at 50 0 (row.Stop 2 why.Spent 1 (Some 52))
    ∷ at 52 0 (row.Release 2)
    ∷ at 52 0 (row.Run 2)
    ∷ at 53 0 (row.Stop 2 why.Spent 1 (Some 55))
    ∷ at 55 0 (row.Release 2)
    ∷ at 55 0 (row.Run 2)
    ∷ at 56 0 (row.Stop 2 why.Spent 1 (Some 58))
    ∷ at 58 0 (row.Release 2)
    ∷ at 58 0 (row.Run 2)
    ∷ at 59 0 (row.Round 2 2 30)
    ∷ at 59 0 (row.Stop 2 why.Spent 1 (Some 61))
    ∷ at 61 0 (row.Release 2)
    ∷ at 61 0 (row.Run 2)
    ∷ at 62 0 (row.Stop 2 why.Spent 1 (Some 64))
    ∷ []

random_several_05 : schedule random_several_05_system 63 ≡ random_several_05_rows
random_several_05 = refl

abbrev pub random_several_06_system : System
random_several_06_system = record {
  cores = 2;
  delay = 1;
  call = 3;
  min_budget = 5;
  contexts =
      context (codes "a") 0 9 21 0
      ∷ context (codes "b") 1 9 17 1
      ∷ [];
  notes =
      note (codes "a") 0
      ∷ note (codes "b") 1
      ∷ note (codes "c") 1
      ∷ note (codes "d") 0
      ∷ note (codes "e") 0
      ∷ [];
  threads =
      thread (codes "B") 1 3 0 0 0 ((Compute 1) ∷ (Compute 4) ∷ (Compute 4) ∷ [])
      ∷ thread (codes "T0") 0 2 14 0 1 ((Compute 3) ∷ Yield ∷ [])
      ∷ [];
  orders = [];
  links = [];
  servers = 0;
  sources = [];
  beats = [];
  chains = [];
}

abbrev pub random_several_06_rows : List Row
random_several_06_rows =
    at 0 1 (row.Release 0)
    ∷ at 0 1 (row.Run 0)
    ∷ at 9 1 (row.Round 0 1 9)
    ∷ at 9 1 (row.Stop 0 why.Spent 9 (Some 17))
    ∷ at 14 0 (row.Release 1)
    ∷ at 14 0 (row.Run 1)
    ∷ at 17 1 (row.Release 0)
    ∷ at 17 1 (row.Run 0)
    ∷ at 20 0 (row.Round 1 1 6)
    ∷ at 20 0 (row.Stop 1 why.Yield 9 (Some 35))
    ∷ at 26 1 (row.Round 0 2 17)
    ∷ at 26 1 (row.Stop 0 why.Spent 9 (Some 34))
    ∷ at 34 1 (row.Release 0)
    ∷ at 34 1 (row.Run 0)
    ∷ at 35 0 (row.Release 1)
    ∷ at 35 0 (row.Run 1)
    ∷ at 41 0 (row.Round 1 2 21)
    ∷ at 41 0 (row.Stop 1 why.Yield 9 (Some 56))
    ∷ at 43 1 (row.Round 0 3 17)
    ∷ at 43 1 (row.Stop 0 why.Spent 9 (Some 51))
    ∷ at 51 1 (row.Release 0)
    ∷ at 51 1 (row.Run 0)
    ∷ at 56 0 (row.Release 1)
    ∷ at 56 0 (row.Run 1)
    ∷ at 60 1 (row.Round 0 4 17)
    ∷ at 60 1 (row.Stop 0 why.Spent 9 (Some 68))
    ∷ at 62 0 (row.Round 1 3 21)
    ∷ at 62 0 (row.Stop 1 why.Yield 9 (Some 77))
    ∷ []

random_several_06 : schedule random_several_06_system 64 ≡ random_several_06_rows
random_several_06 = refl

abbrev pub random_several_07_system : System
random_several_07_system = record {
  cores = 4;
  delay = 1;
  call = 1;
  min_budget = 1;
  contexts =
      context (codes "c") 1 8 18 1
      ∷ context (codes "d") 2 3 8 0
      ∷ context (codes "f") 3 3 12 0
      ∷ context (codes "e") 2 5 6 3
      ∷ context (codes "a") 0 5 10 0
      ∷ context (codes "b") 0 1 3 0
      ∷ [];
  notes =
      note (codes "a") 2
      ∷ note (codes "b") 1
      ∷ note (codes "c") 0
      ∷ note (codes "d") 2
      ∷ note (codes "e") 3
      ∷ note (codes "f") 2
      ∷ note (codes "g") 0
      ∷ note (codes "h") 3
      ∷ note (codes "k-1") 1
      ∷ [];
  threads =
      thread (codes "D") 3 2 8 2 0 ((Compute 4) ∷ [])
      ∷ thread (codes "T4") 4 0 28 0 10 ((Compute 2) ∷ [])
      ∷ thread (codes "C") 2 2 2 0 0 ((Wait 4) ∷ (Compute 5) ∷ [])
      ∷ thread (codes "B") 1 3 1 0 26 ((Wait 3) ∷ (Compute 4) ∷ (Wait 0) ∷ (Compute 4) ∷ Yield ∷ (Compute 2) ∷ [])
      ∷ thread (codes "T5") 5 2 0 1 0 ((Wait 2) ∷ (Signal 8 1) ∷ [])
      ∷ [];
  orders = [];
  links = [];
  servers = 0;
  sources = [];
  beats = [];
  chains = [];
}

abbrev pub random_several_07_rows : List Row
random_several_07_rows =
    at 0 0 (row.Release 4)
    ∷ at 0 0 (row.Run 4)
    ∷ at 1 0 (row.Stop 4 why.Wait 1 None)
    ∷ at 1 2 (row.Release 3)
    ∷ at 1 2 (row.Run 3)
    ∷ at 2 2 (row.Stop 3 why.Wait 1 None)
    ∷ at 2 3 (row.Release 2)
    ∷ at 2 3 (row.Run 2)
    ∷ at 3 3 (row.Stop 2 why.Wait 1 None)
    ∷ at 8 2 (row.Release 0)
    ∷ at 8 2 (row.Run 0)
    ∷ at 12 2 (row.Round 0 1 4)
    ∷ at 13 2 (row.Stop 0 why.Spent 5 (Some 14))
    ∷ at 14 2 (row.Release 0)
    ∷ at 14 2 (row.Run 0)
    ∷ at 17 2 (row.Round 0 2 5)
    ∷ at 17 2 (row.Stop 0 why.Done 3 None)
    ∷ at 28 0 (row.Release 1)
    ∷ at 28 0 (row.Run 1)
    ∷ at 30 0 (row.Round 1 1 2)
    ∷ at 32 0 (row.Round 1 2 2)
    ∷ at 33 0 (row.Stop 1 why.Spent 5 (Some 38))
    ∷ at 38 0 (row.Release 1)
    ∷ at 38 0 (row.Run 1)
    ∷ at 39 0 (row.Round 1 3 7)
    ∷ at 41 0 (row.Round 1 4 2)
    ∷ at 43 0 (row.Round 1 5 2)
    ∷ at 43 0 (row.Stop 1 why.Spent 5 (Some 48))
    ∷ at 48 0 (row.Release 1)
    ∷ at 48 0 (row.Run 1)
    ∷ at 50 0 (row.Round 1 6 7)
    ∷ at 52 0 (row.Round 1 7 2)
    ∷ at 53 0 (row.Stop 1 why.Spent 5 (Some 58))
    ∷ at 58 0 (row.Release 1)
    ∷ at 58 0 (row.Run 1)
    ∷ at 59 0 (row.Round 1 8 7)
    ∷ at 61 0 (row.Round 1 9 2)
    ∷ at 63 0 (row.Round 1 10 2)
    ∷ at 63 0 (row.Stop 1 why.Spent 5 (Some 68))
    ∷ at 68 0 (row.Release 1)
    ∷ at 68 0 (row.Run 1)
    ∷ []

random_several_07 : schedule random_several_07_system 69 ≡ random_several_07_rows
random_several_07 = refl

abbrev pub random_several_08_system : System
random_several_08_system = record {
  cores = 3;
  delay = 1;
  call = 3;
  min_budget = 3;
  contexts =
      context (codes "b") 1 5 15 5
      ∷ context (codes "d") 2 3 20 0
      ∷ context (codes "e") 2 7 9 0
      ∷ context (codes "a") 0 3 10 3
      ∷ context (codes "c") 1 3 3 0
      ∷ [];
  notes =
      note (codes "a") 0
      ∷ note (codes "b") 1
      ∷ note (codes "c") 2
      ∷ note (codes "d") 1
      ∷ [];
  threads =
      thread (codes "T2") 2 0 2 0 1 ((Wait 2) ∷ (Compute 1) ∷ (Wait 2) ∷ Yield ∷ (Wait 2) ∷ (Signal 1 2) ∷ [])
      ∷ thread (codes "T4") 4 255 5 1 1 ((Signal 0 5) ∷ [])
      ∷ thread (codes "A") 0 205 5 1 0 ((Wait 1) ∷ (Compute 5) ∷ (Signal 0 5) ∷ (Signal 2 2547155486) ∷ Yield ∷ (Signal 3 1) ∷ [])
      ∷ thread (codes "D") 3 1 0 0 1 ((Compute 2) ∷ (Signal 0 2) ∷ [])
      ∷ thread (codes "B") 1 2 0 2 0 (Yield ∷ (Wait 2) ∷ (Compute 4) ∷ (Wait 2) ∷ (Compute 2) ∷ Yield ∷ [])
      ∷ [];
  orders = [];
  links = [];
  servers = 0;
  sources = [];
  beats = [];
  chains = [];
}

abbrev pub random_several_08_rows : List Row
random_several_08_rows =
    at 0 0 (row.Release 3)
    ∷ at 0 0 (row.Run 3)
    ∷ at 0 2 (row.Release 4)
    ∷ at 0 2 (row.Run 4)
    ∷ at 2 2 (row.Release 0)
    ∷ at 3 0 (row.Stop 3 why.Spent 3 (Some 10))
    ∷ at 3 2 (row.Stop 4 why.Yield 3 (Some 20))
    ∷ at 3 2 (row.Run 0)
    ∷ at 5 1 (row.Release 1)
    ∷ at 5 1 (row.Release 2)
    ∷ at 5 1 (row.Run 1)
    ∷ at 6 2 (row.Stop 0 why.Wait 3 None)
    ∷ at 8 1 (row.Signal 1 0 5)
    ∷ at 8 1 (row.Round 1 1 3)
    ∷ at 8 1 (row.Stop 1 why.Done 3 None)
    ∷ at 8 1 (row.Run 2)
    ∷ at 9 0 (row.Arrive 0 5 1)
    ∷ at 9 0 (row.Hold 0 5)
    ∷ at 10 0 (row.Release 3)
    ∷ at 10 0 (row.Run 3)
    ∷ at 11 1 (row.Stop 2 why.Wait 3 None)
    ∷ at 12 0 (row.Signal 3 0 2)
    ∷ at 12 0 (row.Hold 0 7)
    ∷ at 12 0 (row.Round 3 1 12)
    ∷ at 13 0 (row.Stop 3 why.Spent 3 (Some 20))
    ∷ at 20 0 (row.Release 3)
    ∷ at 20 0 (row.Run 3)
    ∷ at 20 2 (row.Release 4)
    ∷ at 20 2 (row.Run 4)
    ∷ at 23 0 (row.Stop 3 why.Spent 3 (Some 30))
    ∷ at 23 2 (row.Stop 4 why.Wait 3 None)
    ∷ at 30 0 (row.Release 3)
    ∷ at 30 0 (row.Run 3)
    ∷ at 31 0 (row.Signal 3 0 2)
    ∷ at 31 0 (row.Hold 0 7)
    ∷ at 31 0 (row.Round 3 2 19)
    ∷ at 33 0 (row.Stop 3 why.Spent 3 (Some 40))
    ∷ at 40 0 (row.Release 3)
    ∷ at 40 0 (row.Run 3)
    ∷ at 43 0 (row.Signal 3 0 2)
    ∷ at 43 0 (row.Hold 0 7)
    ∷ at 43 0 (row.Round 3 3 12)
    ∷ at 43 0 (row.Stop 3 why.Spent 3 (Some 50))
    ∷ at 50 0 (row.Release 3)
    ∷ at 50 0 (row.Run 3)
    ∷ at 53 0 (row.Stop 3 why.Spent 3 (Some 60))
    ∷ at 60 0 (row.Release 3)
    ∷ at 60 0 (row.Run 3)
    ∷ at 62 0 (row.Signal 3 0 2)
    ∷ at 62 0 (row.Hold 0 7)
    ∷ at 62 0 (row.Round 3 4 19)
    ∷ at 63 0 (row.Stop 3 why.Spent 3 (Some 70))
    ∷ at 70 0 (row.Release 3)
    ∷ at 70 0 (row.Run 3)
    ∷ at 73 0 (row.Stop 3 why.Spent 3 (Some 80))
    ∷ []

random_several_08 : schedule random_several_08_system 73 ≡ random_several_08_rows
random_several_08 = refl

abbrev pub random_several_09_system : System
random_several_09_system = record {
  cores = 2;
  delay = 3;
  call = 1;
  min_budget = 1;
  contexts =
      context (codes "K_1") 1 7 13 5
      ∷ context (codes "b") 0 5 14 2
      ∷ context (codes "f") 1 5 6 1
      ∷ context (codes "e") 1 1 6 0
      ∷ context (codes "d") 0 6 6 1
      ∷ context (codes "g") 1 4 5 5
      ∷ context (codes "h") 1 1 1 1
      ∷ context (codes "k-1") 1 2 6 0
      ∷ context (codes "c") 0 5 63 5
      ∷ context (codes "a") 0 1 4 3
      ∷ [];
  notes =
      note (codes "a") 1
      ∷ note (codes "b") 0
      ∷ note (codes "c") 1
      ∷ note (codes "d") 0
      ∷ note (codes "e") 1
      ∷ [];
  threads =
      thread (codes "T5") 5 2 0 2 1 ((Wait 2) ∷ (Signal 2 1) ∷ Yield ∷ [])
      ∷ thread (codes "G") 6 2 0 3 5 ((Compute 8) ∷ [])
      ∷ thread (codes "A") 0 0 1 3 10 ((Compute 4) ∷ [])
      ∷ thread (codes "K-1") 8 120 27 3 5 ((Compute 1) ∷ (Compute 1) ∷ [])
      ∷ thread (codes "T1") 1 255 2 0 16 (Yield ∷ Yield ∷ [])
      ∷ thread (codes "C") 2 2 1 0 10 ((Compute 8) ∷ (Compute 5) ∷ [])
      ∷ thread (codes "K_1") 9 0 5 2 1 ((Compute 2) ∷ (Compute 2) ∷ (Compute 1) ∷ [])
      ∷ thread (codes "T4") 4 255 2 2 0 (Yield ∷ [])
      ∷ [];
  orders =
      order 2 6 1 1 0
      ∷ [];
  links = [];
  servers = 0;
  sources = [];
  beats = [];
  chains = [];
}

abbrev pub random_several_09_rows : List Row
random_several_09_rows =
    at 0 1 (row.Release 0)
    ∷ at 0 1 (row.Release 1)
    ∷ at 0 1 (row.Run 0)
    ∷ at 1 1 (row.Stop 0 why.Wait 1 None)
    ∷ at 1 1 (row.Release 2)
    ∷ at 1 1 (row.Release 5)
    ∷ at 1 1 (row.Run 1)
    ∷ at 2 0 (row.Release 4)
    ∷ at 2 0 (row.Release 7)
    ∷ at 2 0 (row.Run 4)
    ∷ at 2 1 (row.Stop 1 why.Spent 1 None)
    ∷ at 2 1 (row.Order 6)
    ∷ at 2 1 (row.Run 5)
    ∷ at 3 0 (row.Stop 4 why.Yield 5 (Some 16))
    ∷ at 3 0 (row.Run 7)
    ∷ at 4 0 (row.Round 7 1 2)
    ∷ at 4 0 (row.Stop 7 why.Yield 6 None)
    ∷ at 4 0 (row.Run 7)
    ∷ at 5 0 (row.Round 7 2 1)
    ∷ at 5 0 (row.Stop 7 why.Done 1 None)
    ∷ at 5 0 (row.Release 6)
    ∷ at 5 0 (row.Run 6)
    ∷ at 6 0 (row.Stop 6 why.Spent 1 (Some 9))
    ∷ at 7 1 (row.Stop 5 why.Spent 5 None)
    ∷ at 7 1 (row.Run 1)
    ∷ at 8 1 (row.Stop 1 why.Spent 1 None)
    ∷ at 8 1 (row.Run 5)
    ∷ at 9 0 (row.Release 6)
    ∷ at 9 0 (row.Run 6)
    ∷ at 10 0 (row.Stop 6 why.Spent 1 (Some 13))
    ∷ at 13 0 (row.Release 6)
    ∷ at 13 0 (row.Run 6)
    ∷ at 13 1 (row.Stop 5 why.Spent 5 None)
    ∷ at 13 1 (row.Run 1)
    ∷ at 14 0 (row.Stop 6 why.Spent 1 (Some 17))
    ∷ at 14 1 (row.Stop 1 why.Spent 1 None)
    ∷ at 14 1 (row.Run 5)
    ∷ at 16 0 (row.Release 4)
    ∷ at 16 0 (row.Run 4)
    ∷ at 17 0 (row.Round 4 1 15)
    ∷ at 17 0 (row.Stop 4 why.Yield 5 (Some 30))
    ∷ at 17 0 (row.Release 6)
    ∷ at 17 0 (row.Run 6)
    ∷ at 17 1 (row.Round 5 1 16)
    ∷ at 18 0 (row.Stop 6 why.Spent 1 (Some 21))
    ∷ at 19 1 (row.Stop 5 why.Spent 5 None)
    ∷ at 19 1 (row.Run 1)
    ∷ at 20 1 (row.Stop 1 why.Spent 1 None)
    ∷ at 20 1 (row.Run 5)
    ∷ at 21 0 (row.Release 6)
    ∷ at 21 0 (row.Run 6)
    ∷ at 22 0 (row.Round 6 1 17)
    ∷ at 22 0 (row.Stop 6 why.Spent 1 (Some 25))
    ∷ at 25 0 (row.Release 6)
    ∷ at 25 0 (row.Run 6)
    ∷ at 25 1 (row.Stop 5 why.Spent 5 None)
    ∷ at 25 1 (row.Run 1)
    ∷ at 26 0 (row.Stop 6 why.Spent 1 (Some 29))
    ∷ at 26 1 (row.Stop 1 why.Spent 1 None)
    ∷ at 26 1 (row.Run 5)
    ∷ at 27 0 (row.Release 3)
    ∷ at 27 0 (row.Run 3)
    ∷ at 29 0 (row.Round 3 1 2)
    ∷ at 29 0 (row.Release 6)
    ∷ at 30 0 (row.Release 4)
    ∷ at 30 0 (row.Stop 3 why.Preempt 3 None)
    ∷ at 30 0 (row.Run 4)
    ∷ at 31 0 (row.Stop 4 why.Yield 5 (Some 44))
    ∷ at 31 0 (row.Run 3)
    ∷ at 31 1 (row.Stop 5 why.Spent 5 None)
    ∷ at 31 1 (row.Run 1)
    ∷ at 32 0 (row.Round 3 2 3)
    ∷ at 32 1 (row.Stop 1 why.Spent 1 None)
    ∷ at 32 1 (row.Run 5)
    ∷ at 33 0 (row.Stop 3 why.Spent 2 (Some 90))
    ∷ at 33 0 (row.Run 6)
    ∷ at 33 1 (row.Round 5 2 16)
    ∷ at 34 0 (row.Stop 6 why.Spent 1 None)
    ∷ at 34 0 (row.Run 6)
    ∷ at 35 0 (row.Stop 6 why.Spent 1 (Some 37))
    ∷ at 37 0 (row.Release 6)
    ∷ at 37 0 (row.Run 6)
    ∷ at 37 1 (row.Stop 5 why.Spent 5 None)
    ∷ at 37 1 (row.Run 1)
    ∷ at 38 0 (row.Stop 6 why.Spent 1 (Some 41))
    ∷ at 38 1 (row.Stop 1 why.Spent 1 None)
    ∷ at 38 1 (row.Run 5)
    ∷ at 41 0 (row.Release 6)
    ∷ at 41 0 (row.Run 6)
    ∷ at 42 0 (row.Round 6 2 20)
    ∷ at 42 0 (row.Stop 6 why.Done 1 None)
    ∷ at 43 1 (row.Stop 5 why.Spent 5 None)
    ∷ at 43 1 (row.Run 1)
    ∷ at 44 0 (row.Release 4)
    ∷ at 44 0 (row.Run 4)
    ∷ at 44 1 (row.Round 1 1 44)
    ∷ at 44 1 (row.Stop 1 why.Spent 1 None)
    ∷ at 44 1 (row.Run 5)
    ∷ at 45 0 (row.Round 4 2 28)
    ∷ at 45 0 (row.Stop 4 why.Yield 5 (Some 58))
    ∷ at 48 1 (row.Round 5 3 15)
    ∷ at 49 1 (row.Stop 5 why.Spent 5 None)
    ∷ at 49 1 (row.Run 1)
    ∷ at 50 1 (row.Stop 1 why.Spent 1 None)
    ∷ at 50 1 (row.Run 5)
    ∷ at 55 1 (row.Stop 5 why.Spent 5 None)
    ∷ at 55 1 (row.Run 1)
    ∷ at 56 1 (row.Stop 1 why.Spent 1 None)
    ∷ at 56 1 (row.Run 5)
    ∷ at 58 0 (row.Release 4)
    ∷ at 58 0 (row.Run 4)
    ∷ at 59 0 (row.Stop 4 why.Yield 5 (Some 72))
    ∷ at 61 1 (row.Stop 5 why.Spent 5 None)
    ∷ at 61 1 (row.Run 1)
    ∷ at 62 1 (row.Stop 1 why.Spent 1 None)
    ∷ at 62 1 (row.Run 5)
    ∷ at 64 1 (row.Round 5 4 16)
    ∷ at 67 1 (row.Stop 5 why.Spent 5 None)
    ∷ at 67 1 (row.Run 1)
    ∷ at 68 1 (row.Stop 1 why.Spent 1 None)
    ∷ at 68 1 (row.Run 5)
    ∷ at 72 0 (row.Release 4)
    ∷ at 72 0 (row.Run 4)
    ∷ at 73 0 (row.Round 4 3 28)
    ∷ at 73 0 (row.Stop 4 why.Yield 5 (Some 86))
    ∷ at 73 1 (row.Stop 5 why.Spent 5 None)
    ∷ at 73 1 (row.Run 1)
    ∷ at 74 1 (row.Stop 1 why.Spent 1 None)
    ∷ at 74 1 (row.Run 5)
    ∷ at 79 1 (row.Round 5 5 15)
    ∷ at 79 1 (row.Stop 5 why.Spent 5 None)
    ∷ at 79 1 (row.Run 1)
    ∷ []

random_several_09 : schedule random_several_09_system 79 ≡ random_several_09_rows
random_several_09 = refl

abbrev pub random_several_10_system : System
random_several_10_system = record {
  cores = 2;
  delay = 1;
  call = 1;
  min_budget = 4;
  contexts =
      context (codes "s00") 0 10 38 5
      ∷ context (codes "s01") 0 17 23 0
      ∷ context (codes "r00") 0 6 7 0
      ∷ context (codes "s10") 1 17 67 0
      ∷ context (codes "r10") 1 6 6 0
      ∷ [];
  notes =
      note (codes "n00") 0
      ∷ note (codes "n01") 0
      ∷ note (codes "n10") 1
      ∷ [];
  threads =
      thread (codes "S00") 0 5 0 0 0 ((Wait 0) ∷ (Compute 2) ∷ [])
      ∷ thread (codes "S01") 1 7 0 0 0 ((Wait 1) ∷ (Compute 4) ∷ (Compute 2) ∷ (Wait 1) ∷ (Compute 1) ∷ [])
      ∷ thread (codes "R00") 2 7 5 0 0 ((Compute 9) ∷ (Signal 1 7) ∷ [])
      ∷ thread (codes "S10") 3 5 0 0 0 ((Wait 2) ∷ (Compute 3) ∷ [])
      ∷ thread (codes "R10") 4 7 4 0 0 ((Compute 10) ∷ (Signal 2 7) ∷ [])
      ∷ [];
  orders =
      order 18 1 7 19 0
      ∷ order 123 1 7 11 1
      ∷ order 61 3 11 29 1
      ∷ order 1 3 5 25 0
      ∷ [];
  links = [];
  servers = 0;
  sources = [];
  beats = [];
  chains = [];
}

abbrev pub random_several_10_rows : List Row
random_several_10_rows =
    at 0 0 (row.Release 0)
    ∷ at 0 0 (row.Release 1)
    ∷ at 0 0 (row.Run 1)
    ∷ at 0 1 (row.Release 3)
    ∷ at 0 1 (row.Run 3)
    ∷ at 1 0 (row.Stop 1 why.Wait 1 None)
    ∷ at 1 0 (row.Run 0)
    ∷ at 1 1 (row.Stop 3 why.Wait 1 None)
    ∷ at 1 1 (row.Order 3)
    ∷ at 2 0 (row.Stop 0 why.Wait 1 None)
    ∷ at 4 1 (row.Release 4)
    ∷ at 4 1 (row.Run 4)
    ∷ at 5 0 (row.Release 2)
    ∷ at 5 0 (row.Run 2)
    ∷ at 10 1 (row.Stop 4 why.Spent 6 None)
    ∷ at 10 1 (row.Run 4)
    ∷ at 11 0 (row.Stop 2 why.Spent 6 (Some 12))
    ∷ at 12 0 (row.Release 2)
    ∷ at 12 0 (row.Run 2)
    ∷ at 15 1 (row.Signal 4 2 7)
    ∷ at 15 1 (row.Wake 3 2 7 None)
    ∷ at 15 1 (row.Round 4 1 11)
    ∷ at 16 0 (row.Signal 2 1 7)
    ∷ at 16 0 (row.Wake 1 1 7 None)
    ∷ at 16 0 (row.Round 2 1 11)
    ∷ at 16 1 (row.Stop 4 why.Spent 6 None)
    ∷ at 16 1 (row.Run 4)
    ∷ at 18 0 (row.Stop 2 why.Spent 6 (Some 19))
    ∷ at 18 0 (row.Order 1)
    ∷ at 18 0 (row.Run 1)
    ∷ at 19 0 (row.Release 2)
    ∷ at 22 1 (row.Stop 4 why.Spent 6 None)
    ∷ at 22 1 (row.Run 4)
    ∷ at 25 0 (row.Stop 1 why.Wait 7 None)
    ∷ at 25 0 (row.Run 2)
    ∷ at 26 1 (row.Signal 4 2 7)
    ∷ at 26 1 (row.Hold 2 7)
    ∷ at 26 1 (row.Round 4 2 11)
    ∷ at 28 1 (row.Stop 4 why.Spent 6 None)
    ∷ at 28 1 (row.Run 4)
    ∷ at 31 0 (row.Stop 2 why.Spent 6 None)
    ∷ at 31 0 (row.Run 2)
    ∷ at 33 0 (row.Signal 2 1 7)
    ∷ at 33 0 (row.Wake 1 1 7 (Some 37))
    ∷ at 33 0 (row.Round 2 2 17)
    ∷ at 34 1 (row.Stop 4 why.Spent 6 None)
    ∷ at 34 1 (row.Run 4)
    ∷ at 37 0 (row.Stop 2 why.Spent 6 None)
    ∷ at 37 0 (row.Release 1)
    ∷ at 37 0 (row.Run 2)
    ∷ at 37 1 (row.Signal 4 2 7)
    ∷ at 37 1 (row.Hold 2 7)
    ∷ at 37 1 (row.Round 4 3 11)
    ∷ at 40 1 (row.Stop 4 why.Spent 6 None)
    ∷ at 40 1 (row.Run 4)
    ∷ at 43 0 (row.Signal 2 1 7)
    ∷ at 43 0 (row.Hold 1 7)
    ∷ at 43 0 (row.Round 2 3 10)
    ∷ at 43 0 (row.Stop 2 why.Spent 6 None)
    ∷ at 43 0 (row.Run 1)
    ∷ at 44 0 (row.Round 1 1 28)
    ∷ at 45 0 (row.Got 1 1 7)
    ∷ at 46 1 (row.Stop 4 why.Spent 6 None)
    ∷ at 46 1 (row.Run 4)
    ∷ at 48 1 (row.Signal 4 2 7)
    ∷ at 48 1 (row.Hold 2 7)
    ∷ at 48 1 (row.Round 4 4 11)
    ∷ at 50 0 (row.Stop 1 why.Spent 7 (Some 56))
    ∷ at 50 0 (row.Run 2)
    ∷ at 52 1 (row.Stop 4 why.Spent 6 None)
    ∷ at 52 1 (row.Run 4)
    ∷ at 56 0 (row.Stop 2 why.Spent 6 None)
    ∷ at 56 0 (row.Release 1)
    ∷ at 56 0 (row.Run 2)
    ∷ at 58 1 (row.Stop 4 why.Spent 6 None)
    ∷ at 58 1 (row.Run 4)
    ∷ at 59 1 (row.Signal 4 2 7)
    ∷ at 59 1 (row.Hold 2 7)
    ∷ at 59 1 (row.Round 4 5 11)
    ∷ at 60 0 (row.Signal 2 1 7)
    ∷ at 60 0 (row.Hold 1 7)
    ∷ at 60 0 (row.Round 2 4 17)
    ∷ at 61 1 (row.Order 3)
    ∷ at 62 0 (row.Stop 2 why.Spent 6 None)
    ∷ at 62 0 (row.Run 1)
    ∷ at 64 0 (row.Got 1 1 7)
    ∷ at 64 1 (row.Stop 4 why.Spent 6 None)
    ∷ at 64 1 (row.Run 4)
    ∷ at 65 0 (row.Round 1 2 20)
    ∷ at 66 0 (row.Stop 1 why.Wait 4 None)
    ∷ at 66 0 (row.Run 2)
    ∷ at 70 1 (row.Signal 4 2 7)
    ∷ at 70 1 (row.Hold 2 7)
    ∷ at 70 1 (row.Round 4 6 11)
    ∷ at 70 1 (row.Stop 4 why.Spent 6 None)
    ∷ at 70 1 (row.Run 4)
    ∷ at 72 0 (row.Stop 2 why.Spent 6 None)
    ∷ at 72 0 (row.Run 2)
    ∷ at 74 0 (row.Signal 2 1 7)
    ∷ at 74 0 (row.Wake 1 1 7 None)
    ∷ at 74 0 (row.Round 2 5 14)
    ∷ at 76 1 (row.Stop 4 why.Spent 6 None)
    ∷ at 76 1 (row.Run 4)
    ∷ at 78 0 (row.Stop 2 why.Spent 6 None)
    ∷ at 78 0 (row.Run 1)
    ∷ []

random_several_10 : schedule random_several_10_system 80 ≡ random_several_10_rows
random_several_10 = refl

abbrev pub random_several_11_system : System
random_several_11_system = record {
  cores = 2;
  delay = 1;
  call = 1;
  min_budget = 1;
  contexts =
      context (codes "c") 1 4 14 5
      ∷ context (codes "d") 1 4 11 3
      ∷ context (codes "b") 0 1 1 1
      ∷ context (codes "a") 0 4 9 1
      ∷ [];
  notes =
      note (codes "a") 0
      ∷ note (codes "b") 1
      ∷ note (codes "c") 0
      ∷ [];
  threads =
      thread (codes "T3") 3 57 0 4 1 ((Signal 1 5) ∷ Yield ∷ [])
      ∷ thread (codes "T1") 1 2 0 0 37 ((Compute 1) ∷ (Wait 1) ∷ Yield ∷ [])
      ∷ thread (codes "A") 0 2 0 0 2 ((Wait 1) ∷ (Compute 2) ∷ Yield ∷ [])
      ∷ [];
  orders =
      order 0 1 6 26 0
      ∷ [];
  links = [];
  servers = 0;
  sources = [];
  beats = [];
  chains = [];
}

abbrev pub random_several_11_rows : List Row
random_several_11_rows =
    at 0 0 (row.Release 0)
    ∷ at 0 0 (row.Run 0)
    ∷ at 0 1 (row.Order 1)
    ∷ at 0 1 (row.Release 1)
    ∷ at 0 1 (row.Release 2)
    ∷ at 0 1 (row.Run 1)
    ∷ at 1 0 (row.Signal 0 1 5)
    ∷ at 2 0 (row.Round 0 1 2)
    ∷ at 2 0 (row.Stop 0 why.Yield 4 (Some 9))
    ∷ at 2 1 (row.Stop 1 why.Wait 2 None)
    ∷ at 2 1 (row.Arrive 1 5 0)
    ∷ at 2 1 (row.Wake 1 1 5 None)
    ∷ at 2 1 (row.Run 2)
    ∷ at 3 1 (row.Stop 2 why.Wait 1 None)
    ∷ at 3 1 (row.Run 1)
    ∷ at 4 1 (row.Round 1 1 4)
    ∷ at 4 1 (row.Stop 1 why.Yield 2 (Some 24))
    ∷ at 9 0 (row.Release 0)
    ∷ at 9 0 (row.Run 0)
    ∷ at 10 0 (row.Signal 0 1 5)
    ∷ at 11 0 (row.Round 0 2 9)
    ∷ at 11 0 (row.Stop 0 why.Yield 4 (Some 18))
    ∷ at 11 1 (row.Arrive 1 5 0)
    ∷ at 11 1 (row.Wake 2 1 5 None)
    ∷ at 11 1 (row.Run 2)
    ∷ at 14 1 (row.Round 2 1 3)
    ∷ at 14 1 (row.Stop 2 why.Yield 4 (Some 25))
    ∷ at 18 0 (row.Release 0)
    ∷ at 18 0 (row.Run 0)
    ∷ at 19 0 (row.Signal 0 1 5)
    ∷ at 20 0 (row.Round 0 3 9)
    ∷ at 20 0 (row.Stop 0 why.Yield 4 (Some 27))
    ∷ at 20 1 (row.Arrive 1 5 0)
    ∷ at 20 1 (row.Hold 1 5)
    ∷ at 24 1 (row.Release 1)
    ∷ at 24 1 (row.Run 1)
    ∷ at 25 1 (row.Release 2)
    ∷ at 26 1 (row.Got 1 1 5)
    ∷ at 27 0 (row.Release 0)
    ∷ at 27 0 (row.Run 0)
    ∷ at 27 1 (row.Round 1 2 23)
    ∷ at 27 1 (row.Stop 1 why.Yield 6 (Some 50))
    ∷ at 27 1 (row.Run 2)
    ∷ at 28 0 (row.Signal 0 1 5)
    ∷ at 28 1 (row.Stop 2 why.Wait 1 None)
    ∷ at 29 0 (row.Round 0 4 9)
    ∷ at 29 0 (row.Stop 0 why.Done 2 None)
    ∷ at 29 1 (row.Arrive 1 5 0)
    ∷ at 29 1 (row.Wake 2 1 5 None)
    ∷ at 29 1 (row.Run 2)
    ∷ at 32 1 (row.Round 2 2 3)
    ∷ at 32 1 (row.Stop 2 why.Yield 3 (Some 39))
    ∷ at 39 1 (row.Release 2)
    ∷ at 39 1 (row.Run 2)
    ∷ at 40 1 (row.Stop 2 why.Wait 1 None)
    ∷ []

random_several_11 : schedule random_several_11_system 44 ≡ random_several_11_rows
random_several_11 = refl

abbrev pub random_several_12_system : System
random_several_12_system = record {
  cores = 2;
  delay = 5;
  call = 1;
  min_budget = 1;
  contexts =
      context (codes "a") 0 4 28 0
      ∷ context (codes "d") 1 6 8 0
      ∷ context (codes "b") 0 7 8 0
      ∷ context (codes "c") 1 2 2 0
      ∷ [];
  notes =
      note (codes "a") 1
      ∷ note (codes "b") 0
      ∷ note (codes "c") 1
      ∷ note (codes "d") 1
      ∷ note (codes "e") 0
      ∷ [];
  threads =
      thread (codes "B") 1 1 0 3 12 ((Wait 0) ∷ (Wait 3) ∷ (Wait 0) ∷ (Compute 1) ∷ Yield ∷ [])
      ∷ thread (codes "T2") 2 63 0 1 1 (Yield ∷ [])
      ∷ thread (codes "A") 0 2 2 1 10 (Yield ∷ [])
      ∷ thread (codes "D") 3 3 1 0 10 ((Compute 24) ∷ (Wait 2) ∷ (Compute 4) ∷ (Compute 22) ∷ [])
      ∷ [];
  orders = [];
  links = [];
  servers = 0;
  sources = [];
  beats = [];
  chains = [];
}

abbrev pub random_several_12_rows : List Row
random_several_12_rows =
    at 0 0 (row.Release 1)
    ∷ at 0 0 (row.Run 1)
    ∷ at 0 1 (row.Release 0)
    ∷ at 0 1 (row.Run 0)
    ∷ at 1 0 (row.Round 1 1 1)
    ∷ at 1 0 (row.Stop 1 why.Done 1 None)
    ∷ at 1 1 (row.Stop 0 why.Wait 1 None)
    ∷ at 1 1 (row.Release 3)
    ∷ at 1 1 (row.Run 3)
    ∷ at 2 0 (row.Release 2)
    ∷ at 2 0 (row.Run 2)
    ∷ at 3 0 (row.Round 2 1 1)
    ∷ at 3 0 (row.Stop 2 why.Done 1 None)
    ∷ at 3 1 (row.Stop 3 why.Spent 2 None)
    ∷ at 3 1 (row.Run 3)
    ∷ at 5 1 (row.Stop 3 why.Spent 2 None)
    ∷ at 5 1 (row.Run 3)
    ∷ at 7 1 (row.Stop 3 why.Spent 2 None)
    ∷ at 7 1 (row.Run 3)
    ∷ at 9 1 (row.Stop 3 why.Spent 2 None)
    ∷ at 9 1 (row.Run 3)
    ∷ at 11 1 (row.Stop 3 why.Spent 2 None)
    ∷ at 11 1 (row.Run 3)
    ∷ at 13 1 (row.Stop 3 why.Spent 2 None)
    ∷ at 13 1 (row.Run 3)
    ∷ at 15 1 (row.Stop 3 why.Spent 2 None)
    ∷ at 15 1 (row.Run 3)
    ∷ at 17 1 (row.Stop 3 why.Spent 2 None)
    ∷ at 17 1 (row.Run 3)
    ∷ at 19 1 (row.Stop 3 why.Spent 2 None)
    ∷ at 19 1 (row.Run 3)
    ∷ at 21 1 (row.Stop 3 why.Spent 2 None)
    ∷ at 21 1 (row.Run 3)
    ∷ at 23 1 (row.Stop 3 why.Spent 2 None)
    ∷ at 23 1 (row.Run 3)
    ∷ at 25 1 (row.Stop 3 why.Spent 2 None)
    ∷ at 25 1 (row.Run 3)
    ∷ at 26 1 (row.Stop 3 why.Wait 1 None)
    ∷ []

random_several_12 : schedule random_several_12_system 48 ≡ random_several_12_rows
random_several_12 = refl

abbrev pub random_several_13_system : System
random_several_13_system = record {
  cores = 4;
  delay = 7;
  call = 2;
  min_budget = 1;
  contexts =
      context (codes "a") 0 7 26 1
      ∷ context (codes "e") 2 6 25 3
      ∷ context (codes "h") 3 1 15 1
      ∷ context (codes "b") 0 2 11 1
      ∷ context (codes "d") 1 4 6 0
      ∷ context (codes "c") 0 1 5 0
      ∷ context (codes "g") 3 6 8 0
      ∷ context (codes "f") 2 6 18 0
      ∷ [];
  notes =
      note (codes "a") 2
      ∷ note (codes "b") 0
      ∷ note (codes "c") 0
      ∷ [];
  threads =
      thread (codes "G") 6 1 0 0 5 (Yield ∷ (Compute 2) ∷ (Compute 4) ∷ Yield ∷ (Compute 4) ∷ Yield ∷ [])
      ∷ thread (codes "H") 7 0 1 0 0 ((Wait 0) ∷ (Compute 5) ∷ [])
      ∷ thread (codes "T0") 0 0 14 0 0 ((Wait 1) ∷ (Compute 5) ∷ (Wait 1) ∷ Yield ∷ [])
      ∷ thread (codes "T5") 5 1 1 0 10 ((Wait 1) ∷ (Compute 8) ∷ (Compute 17) ∷ [])
      ∷ thread (codes "D") 3 3 0 2 10 ((Compute 8) ∷ [])
      ∷ thread (codes "T1") 1 1 1 2 0 ((Wait 0) ∷ (Compute 1) ∷ (Compute 2) ∷ (Compute 23) ∷ (Compute 2) ∷ [])
      ∷ thread (codes "C") 2 175 0 3 40 ((Compute 1) ∷ (Compute 2) ∷ [])
      ∷ thread (codes "E") 4 255 0 0 1 ((Compute 5) ∷ [])
      ∷ [];
  orders = [];
  links = [];
  servers = 0;
  sources = [];
  beats = [];
  chains = [];
}

abbrev pub random_several_13_rows : List Row
random_several_13_rows =
    at 0 0 (row.Release 4)
    ∷ at 0 0 (row.Run 4)
    ∷ at 0 1 (row.Release 7)
    ∷ at 0 1 (row.Run 7)
    ∷ at 0 3 (row.Release 0)
    ∷ at 0 3 (row.Release 6)
    ∷ at 0 3 (row.Run 6)
    ∷ at 1 0 (row.Release 3)
    ∷ at 1 2 (row.Release 1)
    ∷ at 1 2 (row.Release 5)
    ∷ at 1 2 (row.Run 5)
    ∷ at 1 3 (row.Stop 6 why.Spent 1 (Some 15))
    ∷ at 1 3 (row.Run 0)
    ∷ at 2 0 (row.Stop 4 why.Spent 2 (Some 11))
    ∷ at 2 0 (row.Run 3)
    ∷ at 3 0 (row.Stop 3 why.Spent 1 (Some 6))
    ∷ at 3 2 (row.Stop 5 why.Wait 2 None)
    ∷ at 3 2 (row.Run 1)
    ∷ at 3 3 (row.Stop 0 why.Yield 6 (Some 8))
    ∷ at 4 1 (row.Stop 7 why.Spent 4 (Some 6))
    ∷ at 5 2 (row.Stop 1 why.Wait 2 None)
    ∷ at 6 0 (row.Release 3)
    ∷ at 6 0 (row.Run 3)
    ∷ at 6 1 (row.Release 7)
    ∷ at 6 1 (row.Run 7)
    ∷ at 7 0 (row.Stop 3 why.Wait 1 None)
    ∷ at 7 1 (row.Round 7 1 7)
    ∷ at 8 3 (row.Release 0)
    ∷ at 8 3 (row.Run 0)
    ∷ at 10 1 (row.Stop 7 why.Spent 4 (Some 12))
    ∷ at 11 0 (row.Release 4)
    ∷ at 11 0 (row.Run 4)
    ∷ at 12 1 (row.Release 7)
    ∷ at 12 1 (row.Run 7)
    ∷ at 13 0 (row.Stop 4 why.Spent 2 (Some 22))
    ∷ at 14 0 (row.Release 2)
    ∷ at 14 0 (row.Run 2)
    ∷ at 14 1 (row.Round 7 2 7)
    ∷ at 14 3 (row.Stop 0 why.Spent 6 (Some 16))
    ∷ at 15 3 (row.Release 6)
    ∷ at 15 3 (row.Run 6)
    ∷ at 16 0 (row.Stop 2 why.Wait 2 None)
    ∷ at 16 1 (row.Stop 7 why.Spent 4 (Some 18))
    ∷ at 16 3 (row.Stop 6 why.Spent 1 (Some 30))
    ∷ at 16 3 (row.Release 0)
    ∷ at 16 3 (row.Run 0)
    ∷ at 18 1 (row.Release 7)
    ∷ at 18 1 (row.Run 7)
    ∷ at 18 3 (row.Stop 0 why.Yield 6 (Some 24))
    ∷ at 21 1 (row.Round 7 3 7)
    ∷ at 22 0 (row.Release 4)
    ∷ at 22 0 (row.Run 4)
    ∷ at 22 1 (row.Stop 7 why.Spent 4 (Some 24))
    ∷ at 24 0 (row.Stop 4 why.Spent 2 (Some 33))
    ∷ at 24 1 (row.Release 7)
    ∷ at 24 1 (row.Run 7)
    ∷ at 24 3 (row.Release 0)
    ∷ at 24 3 (row.Run 0)
    ∷ at 28 1 (row.Round 7 4 7)
    ∷ at 28 1 (row.Stop 7 why.Spent 4 (Some 30))
    ∷ at 30 1 (row.Release 7)
    ∷ at 30 1 (row.Run 7)
    ∷ at 30 3 (row.Round 0 1 30)
    ∷ at 30 3 (row.Stop 0 why.Yield 6 (Some 32))
    ∷ at 30 3 (row.Release 6)
    ∷ at 30 3 (row.Run 6)
    ∷ at 31 3 (row.Round 6 1 31)
    ∷ at 31 3 (row.Stop 6 why.Spent 1 (Some 45))
    ∷ at 32 3 (row.Release 0)
    ∷ at 32 3 (row.Run 0)
    ∷ at 33 0 (row.Release 4)
    ∷ at 33 0 (row.Run 4)
    ∷ at 34 1 (row.Stop 7 why.Spent 4 (Some 36))
    ∷ at 34 3 (row.Stop 0 why.Yield 6 (Some 40))
    ∷ at 35 0 (row.Round 4 1 35)
    ∷ at 35 0 (row.Stop 4 why.Spent 2 (Some 44))
    ∷ at 36 1 (row.Release 7)
    ∷ at 36 1 (row.Run 7)
    ∷ at 37 1 (row.Round 7 5 9)
    ∷ at 40 1 (row.Stop 7 why.Spent 4 (Some 42))
    ∷ at 40 3 (row.Release 0)
    ∷ at 40 3 (row.Run 0)
    ∷ at 42 1 (row.Release 7)
    ∷ at 42 1 (row.Run 7)
    ∷ at 44 0 (row.Release 4)
    ∷ at 44 0 (row.Run 4)
    ∷ at 44 1 (row.Round 7 6 7)
    ∷ at 45 3 (row.Release 6)
    ∷ at 45 3 (row.Stop 0 why.Preempt 5 None)
    ∷ at 45 3 (row.Run 6)
    ∷ at 46 0 (row.Stop 4 why.Spent 2 (Some 55))
    ∷ at 46 1 (row.Stop 7 why.Spent 4 (Some 48))
    ∷ at 46 3 (row.Stop 6 why.Spent 1 (Some 60))
    ∷ at 46 3 (row.Run 0)
    ∷ at 47 3 (row.Stop 0 why.Spent 1 (Some 48))
    ∷ at 48 1 (row.Release 7)
    ∷ at 48 1 (row.Run 7)
    ∷ at 48 3 (row.Release 0)
    ∷ at 48 3 (row.Run 0)
    ∷ at 50 3 (row.Stop 0 why.Yield 6 (Some 56))
    ∷ []

random_several_13 : schedule random_several_13_system 50 ≡ random_several_13_rows
random_several_13 = refl

abbrev pub random_several_14_system : System
random_several_14_system = record {
  cores = 3;
  delay = 1;
  call = 2;
  min_budget = 3;
  contexts =
      context (codes "b") 1 4 23 0
      ∷ context (codes "d") 2 7 15 0
      ∷ context (codes "a") 0 7 17 0
      ∷ context (codes "c") 1 9 10 3
      ∷ [];
  notes =
      note (codes "a") 0
      ∷ note (codes "b") 1
      ∷ [];
  threads =
      thread (codes "C") 2 3 0 2 10 ((Signal 0 1) ∷ (Compute 3) ∷ (Wait 0) ∷ Yield ∷ [])
      ∷ thread (codes "T1") 1 2 0 0 0 ((Signal 0 7) ∷ [])
      ∷ thread (codes "T0") 0 2 5 0 0 ((Wait 1) ∷ (Compute 5) ∷ (Wait 1) ∷ (Signal 0 1) ∷ (Compute 1) ∷ (Signal 0 1) ∷ [])
      ∷ [];
  orders =
      order 3 2 6 11 0
      ∷ [];
  links = [];
  servers = 0;
  sources = [];
  beats = [];
  chains = [];
}

abbrev pub random_several_14_rows : List Row
random_several_14_rows =
    at 0 0 (row.Release 0)
    ∷ at 0 0 (row.Run 0)
    ∷ at 0 2 (row.Release 1)
    ∷ at 0 2 (row.Run 1)
    ∷ at 2 0 (row.Signal 0 0 1)
    ∷ at 2 0 (row.Hold 0 1)
    ∷ at 2 2 (row.Signal 1 0 7)
    ∷ at 2 2 (row.Round 1 1 2)
    ∷ at 3 0 (row.Arrive 0 7 2)
    ∷ at 3 0 (row.Hold 0 7)
    ∷ at 3 0 (row.Order 2)
    ∷ at 3 0 (row.Stop 0 why.Order 3 None)
    ∷ at 3 0 (row.Run 0)
    ∷ at 4 2 (row.Signal 1 0 7)
    ∷ at 4 2 (row.Round 1 2 2)
    ∷ at 5 0 (row.Arrive 0 7 2)
    ∷ at 5 0 (row.Hold 0 7)
    ∷ at 5 1 (row.Release 2)
    ∷ at 5 1 (row.Run 2)
    ∷ at 6 2 (row.Signal 1 0 7)
    ∷ at 6 2 (row.Round 1 3 2)
    ∷ at 7 0 (row.Got 0 0 7)
    ∷ at 7 0 (row.Stop 0 why.Spent 4 (Some 12))
    ∷ at 7 0 (row.Arrive 0 7 2)
    ∷ at 7 0 (row.Hold 0 7)
    ∷ at 7 1 (row.Stop 2 why.Wait 2 None)
    ∷ at 7 2 (row.Stop 1 why.Spent 7 (Some 15))
    ∷ at 12 0 (row.Release 0)
    ∷ at 12 0 (row.Run 0)
    ∷ at 14 0 (row.Round 0 1 14)
    ∷ at 14 0 (row.Stop 0 why.Yield 6 (Some 23))
    ∷ at 15 2 (row.Release 1)
    ∷ at 15 2 (row.Run 1)
    ∷ at 16 2 (row.Signal 1 0 7)
    ∷ at 16 2 (row.Round 1 4 10)
    ∷ at 17 0 (row.Arrive 0 7 2)
    ∷ at 17 0 (row.Hold 0 7)
    ∷ at 18 2 (row.Signal 1 0 7)
    ∷ at 18 2 (row.Round 1 5 2)
    ∷ at 19 0 (row.Arrive 0 7 2)
    ∷ at 19 0 (row.Hold 0 7)
    ∷ at 20 2 (row.Signal 1 0 7)
    ∷ at 20 2 (row.Round 1 6 2)
    ∷ at 21 0 (row.Arrive 0 7 2)
    ∷ at 21 0 (row.Hold 0 7)
    ∷ at 22 2 (row.Signal 1 0 7)
    ∷ at 22 2 (row.Round 1 7 2)
    ∷ at 22 2 (row.Stop 1 why.Spent 7 (Some 30))
    ∷ at 23 0 (row.Arrive 0 7 2)
    ∷ at 23 0 (row.Hold 0 7)
    ∷ at 23 0 (row.Release 0)
    ∷ at 23 0 (row.Run 0)
    ∷ at 25 0 (row.Signal 0 0 1)
    ∷ at 25 0 (row.Hold 0 7)
    ∷ at 29 0 (row.Stop 0 why.Spent 6 (Some 34))
    ∷ at 30 2 (row.Release 1)
    ∷ at 30 2 (row.Run 1)
    ∷ at 32 2 (row.Signal 1 0 7)
    ∷ at 32 2 (row.Round 1 8 10)
    ∷ at 33 0 (row.Arrive 0 7 2)
    ∷ at 33 0 (row.Hold 0 7)
    ∷ at 34 0 (row.Release 0)
    ∷ at 34 0 (row.Run 0)
    ∷ at 34 2 (row.Signal 1 0 7)
    ∷ at 34 2 (row.Round 1 9 2)
    ∷ at 35 0 (row.Got 0 0 7)
    ∷ at 35 0 (row.Arrive 0 7 2)
    ∷ at 35 0 (row.Hold 0 7)
    ∷ at 36 2 (row.Signal 1 0 7)
    ∷ at 36 2 (row.Round 1 10 2)
    ∷ at 37 0 (row.Round 0 2 23)
    ∷ at 37 0 (row.Stop 0 why.Done 3 None)
    ∷ at 37 0 (row.Arrive 0 7 2)
    ∷ at 37 0 (row.Hold 0 7)
    ∷ at 37 2 (row.Stop 1 why.Spent 7 (Some 45))
    ∷ at 45 2 (row.Release 1)
    ∷ at 45 2 (row.Run 1)
    ∷ at 46 2 (row.Signal 1 0 7)
    ∷ at 46 2 (row.Round 1 11 10)
    ∷ at 47 0 (row.Arrive 0 7 2)
    ∷ at 47 0 (row.Hold 0 7)
    ∷ at 48 2 (row.Signal 1 0 7)
    ∷ at 48 2 (row.Round 1 12 2)
    ∷ at 49 0 (row.Arrive 0 7 2)
    ∷ at 49 0 (row.Hold 0 7)
    ∷ at 50 2 (row.Signal 1 0 7)
    ∷ at 50 2 (row.Round 1 13 2)
    ∷ at 51 0 (row.Arrive 0 7 2)
    ∷ at 51 0 (row.Hold 0 7)
    ∷ []

random_several_14 : schedule random_several_14_system 51 ≡ random_several_14_rows
random_several_14 = refl

abbrev pub random_several_15_system : System
random_several_15_system = record {
  cores = 2;
  delay = 1;
  call = 1;
  min_budget = 2;
  contexts =
      context (codes "a") 0 4 8 0
      ∷ context (codes "b") 1 6 13 3
      ∷ context (codes "c") 1 3 4 1
      ∷ [];
  notes =
      note (codes "a") 0
      ∷ [];
  threads =
      thread (codes "A") 0 76 0 0 5 ((Wait 0) ∷ Yield ∷ [])
      ∷ thread (codes "C") 2 2 0 0 5 ((Compute 3) ∷ Yield ∷ (Compute 1) ∷ (Signal 0 2) ∷ [])
      ∷ [];
  orders =
      order 2 1 8 23 0
      ∷ order 2 0 3 5 0
      ∷ [];
  links = [];
  servers = 0;
  sources = [];
  beats = [];
  chains = [];
}

abbrev pub random_several_15_rows : List Row
random_several_15_rows =
    at 0 0 (row.Release 0)
    ∷ at 0 0 (row.Run 0)
    ∷ at 0 1 (row.Release 1)
    ∷ at 0 1 (row.Run 1)
    ∷ at 1 0 (row.Stop 0 why.Wait 1 None)
    ∷ at 2 0 (row.Order 0)
    ∷ at 2 1 (row.Order 1)
    ∷ at 3 1 (row.Stop 1 why.Spent 3 (Some 4))
    ∷ at 4 1 (row.Release 1)
    ∷ at 4 1 (row.Run 1)
    ∷ at 5 1 (row.Stop 1 why.Yield 3 (Some 8))
    ∷ at 8 1 (row.Release 1)
    ∷ at 8 1 (row.Run 1)
    ∷ at 10 1 (row.Signal 1 0 2)
    ∷ at 10 1 (row.Round 1 1 10)
    ∷ at 11 0 (row.Arrive 0 2 1)
    ∷ at 11 0 (row.Wake 0 0 2 None)
    ∷ at 11 0 (row.Run 0)
    ∷ at 11 1 (row.Stop 1 why.Spent 3 (Some 12))
    ∷ at 12 0 (row.Round 0 1 1)
    ∷ at 12 0 (row.Stop 0 why.Yield 3 (Some 16))
    ∷ at 12 1 (row.Release 1)
    ∷ at 12 1 (row.Run 1)
    ∷ at 15 1 (row.Stop 1 why.Yield 3 (Some 16))
    ∷ at 16 0 (row.Release 0)
    ∷ at 16 0 (row.Run 0)
    ∷ at 16 1 (row.Release 1)
    ∷ at 16 1 (row.Run 1)
    ∷ at 17 0 (row.Stop 0 why.Wait 1 None)
    ∷ at 18 1 (row.Signal 1 0 2)
    ∷ at 18 1 (row.Round 1 2 8)
    ∷ at 19 0 (row.Arrive 0 2 1)
    ∷ at 19 0 (row.Wake 0 0 2 None)
    ∷ at 19 0 (row.Run 0)
    ∷ at 19 1 (row.Stop 1 why.Spent 3 (Some 20))
    ∷ at 20 0 (row.Round 0 2 1)
    ∷ at 20 0 (row.Stop 0 why.Yield 3 (Some 24))
    ∷ at 20 1 (row.Release 1)
    ∷ at 20 1 (row.Run 1)
    ∷ at 23 1 (row.Stop 1 why.Yield 3 (Some 24))
    ∷ at 24 0 (row.Release 0)
    ∷ at 24 0 (row.Run 0)
    ∷ at 24 1 (row.Release 1)
    ∷ at 24 1 (row.Run 1)
    ∷ at 25 0 (row.Stop 0 why.Wait 1 None)
    ∷ at 26 1 (row.Signal 1 0 2)
    ∷ at 26 1 (row.Round 1 3 8)
    ∷ at 27 0 (row.Arrive 0 2 1)
    ∷ at 27 0 (row.Wake 0 0 2 None)
    ∷ at 27 0 (row.Run 0)
    ∷ at 27 1 (row.Stop 1 why.Spent 3 (Some 28))
    ∷ at 28 0 (row.Round 0 3 1)
    ∷ at 28 0 (row.Stop 0 why.Yield 3 (Some 32))
    ∷ at 28 1 (row.Release 1)
    ∷ at 28 1 (row.Run 1)
    ∷ at 31 1 (row.Stop 1 why.Yield 3 (Some 32))
    ∷ at 32 0 (row.Release 0)
    ∷ at 32 0 (row.Run 0)
    ∷ at 32 1 (row.Release 1)
    ∷ at 32 1 (row.Run 1)
    ∷ at 33 0 (row.Stop 0 why.Wait 1 None)
    ∷ at 34 1 (row.Signal 1 0 2)
    ∷ at 34 1 (row.Round 1 4 8)
    ∷ at 35 0 (row.Arrive 0 2 1)
    ∷ at 35 0 (row.Wake 0 0 2 None)
    ∷ at 35 0 (row.Run 0)
    ∷ at 35 1 (row.Stop 1 why.Spent 3 (Some 36))
    ∷ at 36 0 (row.Round 0 4 1)
    ∷ at 36 0 (row.Stop 0 why.Yield 3 (Some 40))
    ∷ at 36 1 (row.Release 1)
    ∷ at 36 1 (row.Run 1)
    ∷ at 39 1 (row.Stop 1 why.Yield 3 (Some 40))
    ∷ at 40 0 (row.Release 0)
    ∷ at 40 0 (row.Run 0)
    ∷ at 40 1 (row.Release 1)
    ∷ at 40 1 (row.Run 1)
    ∷ at 41 0 (row.Stop 0 why.Wait 1 None)
    ∷ at 42 1 (row.Signal 1 0 2)
    ∷ at 42 1 (row.Round 1 5 8)
    ∷ at 43 0 (row.Arrive 0 2 1)
    ∷ at 43 0 (row.Wake 0 0 2 None)
    ∷ at 43 0 (row.Run 0)
    ∷ at 43 1 (row.Stop 1 why.Spent 3 (Some 44))
    ∷ at 44 0 (row.Round 0 5 1)
    ∷ at 44 0 (row.Stop 0 why.Yield 3 (Some 48))
    ∷ at 44 1 (row.Release 1)
    ∷ at 44 1 (row.Run 1)
    ∷ at 47 1 (row.Stop 1 why.Yield 3 (Some 48))
    ∷ at 48 0 (row.Release 0)
    ∷ at 48 0 (row.Run 0)
    ∷ at 48 1 (row.Release 1)
    ∷ at 48 1 (row.Run 1)
    ∷ at 49 0 (row.Stop 0 why.Wait 1 None)
    ∷ at 50 1 (row.Signal 1 0 2)
    ∷ at 50 1 (row.Round 1 6 8)
    ∷ at 51 0 (row.Arrive 0 2 1)
    ∷ at 51 0 (row.Wake 0 0 2 None)
    ∷ at 51 0 (row.Run 0)
    ∷ at 51 1 (row.Stop 1 why.Spent 3 (Some 52))
    ∷ at 52 0 (row.Round 0 6 1)
    ∷ at 52 0 (row.Stop 0 why.Yield 3 (Some 56))
    ∷ at 52 1 (row.Release 1)
    ∷ at 52 1 (row.Run 1)
    ∷ []

random_several_15 : schedule random_several_15_system 54 ≡ random_several_15_rows
random_several_15 = refl

abbrev pub random_several_16_system : System
random_several_16_system = record {
  cores = 2;
  delay = 3;
  call = 1;
  min_budget = 1;
  contexts =
      context (codes "b") 1 6 8 1
      ∷ context (codes "d") 1 2 5 5
      ∷ context (codes "c") 1 3 9 0
      ∷ context (codes "a") 0 5 11 3
      ∷ [];
  notes =
      note (codes "a") 1
      ∷ note (codes "b") 0
      ∷ note (codes "c") 1
      ∷ note (codes "d") 1
      ∷ [];
  threads =
      thread (codes "A") 0 1 0 3 0 (Yield ∷ [])
      ∷ thread (codes "T1") 1 0 1 1 0 ((Wait 0) ∷ (Compute 3) ∷ (Wait 0) ∷ (Wait 0) ∷ (Wait 0) ∷ (Compute 5) ∷ (Compute 1) ∷ [])
      ∷ thread (codes "D") 3 1 1 6 5 ((Wait 1) ∷ (Compute 8) ∷ [])
      ∷ thread (codes "T2") 2 1 1 0 17 ((Wait 2) ∷ (Compute 25) ∷ (Compute 3) ∷ (Signal 1 1) ∷ (Compute 2) ∷ (Signal 1 1) ∷ Yield ∷ [])
      ∷ [];
  orders = [];
  links = [];
  servers = 0;
  sources = [];
  beats = [];
  chains = [];
}

abbrev pub random_several_16_rows : List Row
random_several_16_rows =
    at 0 1 (row.Release 0)
    ∷ at 0 1 (row.Run 0)
    ∷ at 1 0 (row.Release 2)
    ∷ at 1 0 (row.Run 2)
    ∷ at 1 1 (row.Round 0 1 1)
    ∷ at 1 1 (row.Stop 0 why.Yield 6 (Some 8))
    ∷ at 1 1 (row.Release 1)
    ∷ at 1 1 (row.Release 3)
    ∷ at 1 1 (row.Run 3)
    ∷ at 2 0 (row.Stop 2 why.Wait 1 None)
    ∷ at 2 1 (row.Stop 3 why.Wait 1 None)
    ∷ at 2 1 (row.Run 1)
    ∷ at 3 1 (row.Stop 1 why.Wait 1 None)
    ∷ at 8 1 (row.Release 0)
    ∷ at 8 1 (row.Run 0)
    ∷ at 9 1 (row.Round 0 2 8)
    ∷ at 9 1 (row.Stop 0 why.Yield 6 (Some 16))
    ∷ at 16 1 (row.Release 0)
    ∷ at 16 1 (row.Run 0)
    ∷ at 17 1 (row.Round 0 3 8)
    ∷ at 17 1 (row.Stop 0 why.Done 1 None)
    ∷ []

random_several_16 : schedule random_several_16_system 55 ≡ random_several_16_rows
random_several_16 = refl

abbrev pub random_several_17_system : System
random_several_17_system = record {
  cores = 2;
  delay = 1;
  call = 1;
  min_budget = 1;
  contexts =
      context (codes "a") 0 2 24 0
      ∷ context (codes "b") 1 3 5 0
      ∷ [];
  notes =
      note (codes "a") 1
      ∷ note (codes "b") 1
      ∷ note (codes "c") 1
      ∷ note (codes "d") 0
      ∷ note (codes "e") 0
      ∷ [];
  threads =
      thread (codes "T1") 1 1 16 0 10 ((Compute 2) ∷ (Compute 9) ∷ (Wait 0) ∷ (Compute 2) ∷ (Signal 3 1) ∷ (Signal 1 4) ∷ [])
      ∷ thread (codes "T0") 0 2 1 0 1 ((Compute 4) ∷ (Wait 4) ∷ (Signal 2 7) ∷ (Wait 3) ∷ (Compute 1) ∷ (Signal 2 3811281368) ∷ [])
      ∷ [];
  orders = [];
  links = [];
  servers = 0;
  sources = [];
  beats = [];
  chains = [];
}

abbrev pub random_several_17_rows : List Row
random_several_17_rows =
    at 1 0 (row.Release 1)
    ∷ at 1 0 (row.Run 1)
    ∷ at 3 0 (row.Stop 1 why.Spent 2 (Some 25))
    ∷ at 16 1 (row.Release 0)
    ∷ at 16 1 (row.Run 0)
    ∷ at 19 1 (row.Stop 0 why.Spent 3 (Some 21))
    ∷ at 21 1 (row.Release 0)
    ∷ at 21 1 (row.Run 0)
    ∷ at 24 1 (row.Stop 0 why.Spent 3 (Some 26))
    ∷ at 25 0 (row.Release 1)
    ∷ at 25 0 (row.Run 1)
    ∷ at 26 1 (row.Release 0)
    ∷ at 26 1 (row.Run 0)
    ∷ at 27 0 (row.Stop 1 why.Spent 2 (Some 49))
    ∷ at 29 1 (row.Stop 0 why.Spent 3 (Some 31))
    ∷ at 31 1 (row.Release 0)
    ∷ at 31 1 (row.Run 0)
    ∷ at 34 1 (row.Stop 0 why.Wait 3 None)
    ∷ at 49 0 (row.Release 1)
    ∷ at 49 0 (row.Run 1)
    ∷ at 50 0 (row.Stop 1 why.Wait 1 None)
    ∷ []

random_several_17 : schedule random_several_17_system 63 ≡ random_several_17_rows
random_several_17 = refl

abbrev pub random_several_18_system : System
random_several_18_system = record {
  cores = 2;
  delay = 1;
  call = 1;
  min_budget = 3;
  contexts =
      context (codes "b") 1 5 8 0
      ∷ context (codes "a") 0 6 24 5
      ∷ context (codes "e") 1 7 26 5
      ∷ context (codes "d") 1 6 8 1
      ∷ context (codes "c") 1 8 20 0
      ∷ [];
  notes =
      note (codes "a") 0
      ∷ note (codes "b") 1
      ∷ note (codes "c") 1
      ∷ note (codes "d") 0
      ∷ note (codes "e") 0
      ∷ [];
  threads =
      thread (codes "C") 2 1 2 7 5 ((Compute 2) ∷ [])
      ∷ thread (codes "D") 3 3 2 1 1 ((Signal 1 2599164713) ∷ (Compute 2) ∷ [])
      ∷ thread (codes "T1") 1 1 2 1 0 ((Signal 0 1018130127) ∷ [])
      ∷ [];
  orders =
      order 18 1 4 7 0
      ∷ order 2 0 10 27 0
      ∷ order 18 2 7 29 0
      ∷ order 1 2 10 22 0
      ∷ order 1 3 3 15 3
      ∷ order 1 0 9 10 0
      ∷ order 18 2 5 6 1
      ∷ order 14 4 4 13 0
      ∷ [];
  links = [];
  servers = 0;
  sources = [];
  beats = [];
  chains = [];
}

abbrev pub random_several_18_rows : List Row
random_several_18_rows =
    at 1 1 (row.Order 2)
    ∷ at 1 1 (row.Order 3)
    ∷ at 1 1 (row.Order 0)
    ∷ at 2 0 (row.Release 2)
    ∷ at 2 0 (row.Run 2)
    ∷ at 2 1 (row.Order 0)
    ∷ at 2 1 (row.Release 0)
    ∷ at 2 1 (row.Release 1)
    ∷ at 2 1 (row.Run 1)
    ∷ at 3 0 (row.Signal 2 0 1018130127)
    ∷ at 3 0 (row.Hold 0 1018130127)
    ∷ at 3 0 (row.Round 2 1 1)
    ∷ at 3 0 (row.Stop 2 why.Done 1 None)
    ∷ at 3 1 (row.Signal 1 1 2599164713)
    ∷ at 3 1 (row.Hold 1 2599164713)
    ∷ at 5 1 (row.Round 1 1 3)
    ∷ at 5 1 (row.Stop 1 why.Done 3 None)
    ∷ at 5 1 (row.Run 0)
    ∷ at 7 1 (row.Round 0 1 5)
    ∷ at 9 1 (row.Round 0 2 2)
    ∷ at 11 1 (row.Round 0 3 2)
    ∷ at 12 1 (row.Stop 0 why.Spent 7 (Some 21))
    ∷ at 14 1 (row.Order 4)
    ∷ at 18 0 (row.Order 1)
    ∷ at 18 1 (row.Order 2)
    ∷ at 18 1 (row.Order 2)
    ∷ at 21 1 (row.Release 0)
    ∷ at 21 1 (row.Run 0)
    ∷ at 22 1 (row.Round 0 4 11)
    ∷ at 24 1 (row.Round 0 5 2)
    ∷ at 26 1 (row.Round 0 6 2)
    ∷ at 26 1 (row.Stop 0 why.Spent 5 (Some 27))
    ∷ at 27 1 (row.Release 0)
    ∷ at 27 1 (row.Run 0)
    ∷ at 29 1 (row.Round 0 7 3)
    ∷ at 29 1 (row.Stop 0 why.Done 2 None)
    ∷ []

random_several_18 : schedule random_several_18_system 76 ≡ random_several_18_rows
random_several_18 = refl

abbrev pub random_several_19_system : System
random_several_19_system = record {
  cores = 6;
  delay = 9;
  call = 1;
  min_budget = 1;
  contexts =
      context (codes "h") 3 1 9 2
      ∷ context (codes "d") 1 6 6 3
      ∷ context (codes "a") 0 1 9 5
      ∷ context (codes "K_1") 4 8 27 0
      ∷ context (codes "0") 4 3 4 3
      ∷ context (codes "f") 2 3 13 1
      ∷ context (codes "c") 1 5 22 3
      ∷ context (codes "g") 2 1 3 5
      ∷ context (codes "xxxxxxxxxxxxxxxxxxxxxxxxxxxxxxxx") 5 6 25 3
      ∷ context (codes "b") 0 2 2 0
      ∷ context (codes "k-1") 4 7 8 0
      ∷ context (codes "e") 1 2 11 3
      ∷ [];
  notes =
      note (codes "a") 1
      ∷ note (codes "b") 4
      ∷ note (codes "c") 5
      ∷ note (codes "d") 1
      ∷ note (codes "e") 4
      ∷ note (codes "f") 4
      ∷ note (codes "g") 3
      ∷ [];
  threads =
      thread (codes "T3") 3 2 0 3 0 ((Compute 8) ∷ [])
      ∷ thread (codes "T2") 2 255 0 0 24 (Yield ∷ (Compute 4) ∷ (Compute 1) ∷ (Compute 1) ∷ Yield ∷ (Compute 5) ∷ [])
      ∷ thread (codes "XXXXXXXXXXXXXXXXXXXXXXXXXXXXXXXX") 11 255 2 1 33 (Yield ∷ [])
      ∷ thread (codes "G") 6 2 0 1 10 (Yield ∷ [])
      ∷ thread (codes "E") 4 1 0 3 1 ((Wait 1) ∷ (Compute 2) ∷ (Compute 4) ∷ (Signal 3 3771296332) ∷ Yield ∷ [])
      ∷ thread (codes "H") 7 2 0 3 10 (Yield ∷ [])
      ∷ thread (codes "T0") 0 255 0 0 5 ((Compute 4) ∷ [])
      ∷ thread (codes "F") 5 255 24 1 27 (Yield ∷ Yield ∷ (Compute 1) ∷ Yield ∷ (Compute 19) ∷ Yield ∷ [])
      ∷ thread (codes "K_1") 9 2 3 1 19 ((Signal 0 2) ∷ (Signal 3 5) ∷ (Compute 1) ∷ (Compute 1) ∷ [])
      ∷ thread (codes "K-1") 8 3 0 0 0 ((Compute 2) ∷ Yield ∷ [])
      ∷ thread (codes "0") 10 2 2 0 0 ((Wait 1) ∷ (Compute 16) ∷ [])
      ∷ thread (codes "B") 1 0 27 1 0 ((Wait 0) ∷ (Signal 0 1) ∷ Yield ∷ (Compute 4) ∷ (Signal 3 5) ∷ (Wait 3) ∷ (Signal 6 1) ∷ [])
      ∷ [];
  orders =
      order 1 7 6 18 0
      ∷ [];
  links = [];
  servers = 0;
  sources = [];
  beats = [];
  chains = [];
}

abbrev pub random_several_19_rows : List Row
random_several_19_rows =
    at 0 0 (row.Release 1)
    ∷ at 0 0 (row.Run 1)
    ∷ at 0 1 (row.Release 3)
    ∷ at 0 1 (row.Run 3)
    ∷ at 0 2 (row.Release 5)
    ∷ at 0 2 (row.Run 5)
    ∷ at 0 3 (row.Release 6)
    ∷ at 0 3 (row.Run 6)
    ∷ at 0 4 (row.Release 0)
    ∷ at 0 4 (row.Release 4)
    ∷ at 0 4 (row.Run 0)
    ∷ at 0 5 (row.Release 9)
    ∷ at 0 5 (row.Run 9)
    ∷ at 1 0 (row.Stop 1 why.Yield 1 (Some 9))
    ∷ at 1 1 (row.Round 3 1 1)
    ∷ at 1 1 (row.Stop 3 why.Done 1 None)
    ∷ at 1 2 (row.Round 5 1 1)
    ∷ at 1 2 (row.Stop 5 why.Yield 1 (Some 3))
    ∷ at 1 2 (row.Order 7)
    ∷ at 1 3 (row.Stop 6 why.Spent 1 (Some 9))
    ∷ at 2 1 (row.Release 2)
    ∷ at 2 1 (row.Run 2)
    ∷ at 2 4 (row.Release 10)
    ∷ at 3 0 (row.Release 8)
    ∷ at 3 0 (row.Run 8)
    ∷ at 3 1 (row.Round 2 1 1)
    ∷ at 3 1 (row.Stop 2 why.Done 1 None)
    ∷ at 3 2 (row.Release 5)
    ∷ at 3 2 (row.Run 5)
    ∷ at 3 5 (row.Round 9 1 3)
    ∷ at 3 5 (row.Stop 9 why.Yield 6 (Some 25))
    ∷ at 4 0 (row.Signal 8 0 2)
    ∷ at 4 2 (row.Round 5 2 3)
    ∷ at 4 2 (row.Stop 5 why.Yield 1 (Some 16))
    ∷ at 5 0 (row.Signal 8 3 5)
    ∷ at 5 0 (row.Stop 8 why.Spent 2 None)
    ∷ at 5 0 (row.Run 8)
    ∷ at 7 0 (row.Round 8 1 4)
    ∷ at 7 0 (row.Stop 8 why.Done 2 None)
    ∷ at 8 4 (row.Round 0 1 8)
    ∷ at 8 4 (row.Stop 0 why.Spent 8 (Some 27))
    ∷ at 8 4 (row.Run 10)
    ∷ at 9 0 (row.Release 1)
    ∷ at 9 0 (row.Run 1)
    ∷ at 9 3 (row.Release 6)
    ∷ at 9 3 (row.Run 6)
    ∷ at 9 4 (row.Stop 10 why.Wait 1 None)
    ∷ at 9 4 (row.Run 4)
    ∷ at 10 0 (row.Stop 1 why.Spent 1 (Some 18))
    ∷ at 10 3 (row.Stop 6 why.Spent 1 (Some 18))
    ∷ at 10 4 (row.Stop 4 why.Wait 1 None)
    ∷ at 13 1 (row.Arrive 0 2 0)
    ∷ at 13 1 (row.Hold 0 2)
    ∷ at 14 1 (row.Arrive 3 5 0)
    ∷ at 14 1 (row.Hold 3 5)
    ∷ at 16 2 (row.Release 5)
    ∷ at 16 2 (row.Run 5)
    ∷ at 17 2 (row.Round 5 3 13)
    ∷ at 17 2 (row.Stop 5 why.Done 1 None)
    ∷ at 18 0 (row.Release 1)
    ∷ at 18 0 (row.Run 1)
    ∷ at 18 3 (row.Release 6)
    ∷ at 18 3 (row.Run 6)
    ∷ at 19 0 (row.Stop 1 why.Spent 1 (Some 27))
    ∷ at 19 3 (row.Stop 6 why.Spent 1 (Some 27))
    ∷ at 24 2 (row.Release 7)
    ∷ at 24 2 (row.Run 7)
    ∷ at 25 2 (row.Stop 7 why.Yield 3 (Some 37))
    ∷ at 25 5 (row.Release 9)
    ∷ at 25 5 (row.Run 9)
    ∷ at 27 0 (row.Release 1)
    ∷ at 27 0 (row.Run 1)
    ∷ at 27 1 (row.Release 11)
    ∷ at 27 1 (row.Run 11)
    ∷ at 27 3 (row.Release 6)
    ∷ at 27 3 (row.Run 6)
    ∷ at 27 4 (row.Release 0)
    ∷ at 27 4 (row.Run 0)
    ∷ at 28 0 (row.Stop 1 why.Spent 1 (Some 36))
    ∷ at 28 1 (row.Got 11 0 2)
    ∷ at 28 3 (row.Round 6 1 28)
    ∷ at 28 3 (row.Stop 6 why.Spent 1 (Some 36))
    ∷ at 28 5 (row.Round 9 2 25)
    ∷ at 28 5 (row.Stop 9 why.Yield 6 (Some 50))
    ∷ at 29 1 (row.Signal 11 0 1)
    ∷ at 29 1 (row.Hold 0 1)
    ∷ at 30 1 (row.Stop 11 why.Yield 6 None)
    ∷ at 30 1 (row.Run 11)
    ∷ at 35 1 (row.Signal 11 3 5)
    ∷ at 35 1 (row.Hold 3 5)
    ∷ at 35 4 (row.Round 0 2 27)
    ∷ at 35 4 (row.Stop 0 why.Spent 8 (Some 54))
    ∷ at 36 0 (row.Release 1)
    ∷ at 36 0 (row.Run 1)
    ∷ at 36 1 (row.Got 11 3 5)
    ∷ at 36 1 (row.Stop 11 why.Spent 6 None)
    ∷ at 36 1 (row.Run 11)
    ∷ at 36 3 (row.Release 6)
    ∷ at 36 3 (row.Run 6)
    ∷ at 37 0 (row.Stop 1 why.Spent 1 (Some 45))
    ∷ at 37 1 (row.Signal 11 6 1)
    ∷ at 37 1 (row.Round 11 1 9)
    ∷ at 37 1 (row.Stop 11 why.Done 1 None)
    ∷ at 37 2 (row.Release 7)
    ∷ at 37 2 (row.Run 7)
    ∷ at 37 3 (row.Stop 6 why.Spent 1 (Some 45))
    ∷ at 38 2 (row.Stop 7 why.Yield 3 (Some 50))
    ∷ []

random_several_19 : schedule random_several_19_system 40 ≡ random_several_19_rows
random_several_19 = refl

abbrev pub random_several_20_system : System
random_several_20_system = record {
  cores = 6;
  delay = 3;
  call = 1;
  min_budget = 3;
  contexts =
      context (codes "c") 1 11 29 2
      ∷ context (codes "a") 0 8 9 0
      ∷ context (codes "e") 2 6 24 5
      ∷ context (codes "d") 2 9 11 2
      ∷ context (codes "f") 3 9 24 2
      ∷ context (codes "h") 5 7 17 3
      ∷ context (codes "g") 4 6 13 3
      ∷ context (codes "b") 1 3 3 1
      ∷ [];
  notes =
      note (codes "a") 0
      ∷ note (codes "b") 0
      ∷ note (codes "c") 1
      ∷ note (codes "d") 3
      ∷ note (codes "e") 4
      ∷ note (codes "f") 2
      ∷ note (codes "g") 1
      ∷ note (codes "h") 3
      ∷ note (codes "k-1") 4
      ∷ note (codes "K_1") 0
      ∷ note (codes "0") 1
      ∷ note (codes "xxxxxxxxxxxxxxxxxxxxxxxxxxxxxxxx") 4
      ∷ [];
  threads =
      thread (codes "A") 0 2 0 8 1 ((Signal 6 2) ∷ (Compute 2) ∷ [])
      ∷ thread (codes "T1") 1 71 0 8 5 (Yield ∷ [])
      ∷ thread (codes "F") 5 181 5 1 36 ((Compute 22) ∷ Yield ∷ [])
      ∷ thread (codes "T4") 4 192 0 1 0 ((Wait 7) ∷ (Signal 10 2) ∷ [])
      ∷ thread (codes "G") 6 0 1 0 1 ((Wait 11) ∷ (Signal 6 1) ∷ (Wait 8) ∷ Yield ∷ (Signal 10 2) ∷ (Compute 1) ∷ [])
      ∷ thread (codes "H") 7 0 1 1 0 ((Wait 6) ∷ (Compute 4) ∷ Yield ∷ [])
      ∷ thread (codes "T3") 3 1 1 0 0 ((Compute 3) ∷ (Compute 14) ∷ (Signal 6 5) ∷ [])
      ∷ thread (codes "C") 2 1 1 0 5 ((Compute 8) ∷ (Compute 2) ∷ (Compute 3) ∷ Yield ∷ [])
      ∷ [];
  orders = [];
  links = [];
  servers = 0;
  sources = [];
  beats = [];
  chains = [];
}

abbrev pub random_several_20_rows : List Row
random_several_20_rows =
    at 0 0 (row.Release 1)
    ∷ at 0 0 (row.Run 1)
    ∷ at 0 1 (row.Release 0)
    ∷ at 0 1 (row.Run 0)
    ∷ at 0 3 (row.Release 3)
    ∷ at 0 3 (row.Run 3)
    ∷ at 1 0 (row.Round 1 1 1)
    ∷ at 1 0 (row.Stop 1 why.Yield 8 (Some 9))
    ∷ at 1 1 (row.Signal 0 6 2)
    ∷ at 1 1 (row.Hold 6 2)
    ∷ at 1 1 (row.Release 5)
    ∷ at 1 2 (row.Release 6)
    ∷ at 1 2 (row.Release 7)
    ∷ at 1 2 (row.Run 6)
    ∷ at 1 3 (row.Stop 3 why.Wait 1 None)
    ∷ at 1 4 (row.Release 4)
    ∷ at 1 4 (row.Run 4)
    ∷ at 2 4 (row.Stop 4 why.Wait 1 None)
    ∷ at 3 1 (row.Round 0 1 3)
    ∷ at 4 1 (row.Signal 0 6 2)
    ∷ at 4 1 (row.Hold 6 2)
    ∷ at 5 5 (row.Release 2)
    ∷ at 5 5 (row.Run 2)
    ∷ at 6 1 (row.Round 0 2 3)
    ∷ at 7 1 (row.Signal 0 6 2)
    ∷ at 7 1 (row.Hold 6 2)
    ∷ at 9 0 (row.Release 1)
    ∷ at 9 0 (row.Run 1)
    ∷ at 9 1 (row.Round 0 3 3)
    ∷ at 10 0 (row.Round 1 2 9)
    ∷ at 10 0 (row.Stop 1 why.Yield 8 (Some 18))
    ∷ at 10 1 (row.Signal 0 6 2)
    ∷ at 10 1 (row.Hold 6 2)
    ∷ at 10 2 (row.Stop 6 why.Spent 9 (Some 12))
    ∷ at 10 2 (row.Run 7)
    ∷ at 11 1 (row.Stop 0 why.Spent 11 (Some 29))
    ∷ at 11 1 (row.Run 5)
    ∷ at 12 1 (row.Got 5 6 2)
    ∷ at 12 2 (row.Release 6)
    ∷ at 12 5 (row.Stop 2 why.Spent 7 (Some 22))
    ∷ at 14 1 (row.Stop 5 why.Spent 3 None)
    ∷ at 14 1 (row.Run 5)
    ∷ at 16 2 (row.Stop 7 why.Spent 6 (Some 25))
    ∷ at 16 2 (row.Run 6)
    ∷ at 17 1 (row.Round 5 1 5)
    ∷ at 17 1 (row.Stop 5 why.Done 3 None)
    ∷ at 18 0 (row.Release 1)
    ∷ at 18 0 (row.Run 1)
    ∷ at 19 0 (row.Round 1 3 9)
    ∷ at 19 0 (row.Stop 1 why.Yield 8 (Some 27))
    ∷ at 22 5 (row.Release 2)
    ∷ at 22 5 (row.Run 2)
    ∷ at 25 2 (row.Signal 6 6 5)
    ∷ at 25 2 (row.Round 6 1 24)
    ∷ at 25 2 (row.Stop 6 why.Spent 9 None)
    ∷ at 25 2 (row.Release 7)
    ∷ at 25 2 (row.Run 6)
    ∷ at 27 0 (row.Release 1)
    ∷ at 27 0 (row.Run 1)
    ∷ at 28 0 (row.Round 1 4 9)
    ∷ at 28 0 (row.Stop 1 why.Yield 8 (Some 36))
    ∷ at 28 1 (row.Arrive 6 5 2)
    ∷ at 28 1 (row.Hold 6 5)
    ∷ at 29 1 (row.Release 0)
    ∷ at 29 1 (row.Run 0)
    ∷ at 29 5 (row.Stop 2 why.Spent 7 (Some 39))
    ∷ at 30 1 (row.Round 0 4 21)
    ∷ at 31 1 (row.Signal 0 6 2)
    ∷ at 31 1 (row.Hold 6 7)
    ∷ at 33 1 (row.Round 0 5 3)
    ∷ at 34 1 (row.Signal 0 6 2)
    ∷ at 34 1 (row.Hold 6 7)
    ∷ at 34 2 (row.Stop 6 why.Spent 9 None)
    ∷ at 34 2 (row.Run 7)
    ∷ at 36 0 (row.Release 1)
    ∷ at 36 0 (row.Run 1)
    ∷ at 36 1 (row.Round 0 6 3)
    ∷ at 37 0 (row.Round 1 5 9)
    ∷ at 37 0 (row.Stop 1 why.Yield 8 (Some 45))
    ∷ at 37 1 (row.Signal 0 6 2)
    ∷ at 37 1 (row.Hold 6 7)
    ∷ at 39 1 (row.Round 0 7 3)
    ∷ at 39 5 (row.Release 2)
    ∷ at 39 5 (row.Run 2)
    ∷ at 40 1 (row.Signal 0 6 2)
    ∷ at 40 1 (row.Hold 6 7)
    ∷ at 40 1 (row.Stop 0 why.Spent 11 (Some 58))
    ∷ at 40 2 (row.Stop 7 why.Spent 6 (Some 49))
    ∷ at 40 2 (row.Run 6)
    ∷ []

random_several_20 : schedule random_several_20_system 44 ≡ random_several_20_rows
random_several_20 = refl

abbrev pub random_several_21_system : System
random_several_21_system = record {
  cores = 4;
  delay = 3;
  call = 2;
  min_budget = 1;
  contexts =
      context (codes "b") 1 9 18 0
      ∷ context (codes "d") 3 4 8 0
      ∷ context (codes "a") 0 6 9 1
      ∷ context (codes "c") 2 4 8 2
      ∷ context (codes "e") 3 7 18 0
      ∷ [];
  notes =
      note (codes "a") 0
      ∷ note (codes "b") 2
      ∷ [];
  threads =
      thread (codes "D") 3 164 1 7 0 ((Wait 1) ∷ (Compute 3) ∷ (Compute 1) ∷ [])
      ∷ thread (codes "A") 0 3 5 2 10 (Yield ∷ [])
      ∷ thread (codes "C") 2 1 0 1 0 ((Compute 2) ∷ [])
      ∷ thread (codes "B") 1 2 0 0 1 (Yield ∷ [])
      ∷ thread (codes "T4") 4 255 2 0 10 (Yield ∷ (Signal 0 5) ∷ [])
      ∷ [];
  orders = [];
  links = [];
  servers = 0;
  sources = [];
  beats = [];
  chains = [];
}

abbrev pub random_several_21_rows : List Row
random_several_21_rows =
    at 0 0 (row.Release 2)
    ∷ at 0 0 (row.Run 2)
    ∷ at 0 3 (row.Release 3)
    ∷ at 0 3 (row.Run 3)
    ∷ at 1 2 (row.Release 0)
    ∷ at 1 2 (row.Run 0)
    ∷ at 2 0 (row.Round 2 1 2)
    ∷ at 2 0 (row.Stop 2 why.Done 2 None)
    ∷ at 2 3 (row.Round 3 1 2)
    ∷ at 2 3 (row.Stop 3 why.Yield 4 (Some 8))
    ∷ at 2 3 (row.Release 4)
    ∷ at 2 3 (row.Run 4)
    ∷ at 3 2 (row.Stop 0 why.Wait 2 None)
    ∷ at 4 3 (row.Stop 4 why.Yield 7 (Some 20))
    ∷ at 5 1 (row.Release 1)
    ∷ at 5 1 (row.Run 1)
    ∷ at 7 1 (row.Round 1 1 2)
    ∷ at 7 1 (row.Stop 1 why.Yield 9 (Some 23))
    ∷ at 8 3 (row.Release 3)
    ∷ at 8 3 (row.Run 3)
    ∷ at 10 3 (row.Round 3 2 8)
    ∷ at 10 3 (row.Stop 3 why.Yield 4 (Some 16))
    ∷ at 16 3 (row.Release 3)
    ∷ at 16 3 (row.Run 3)
    ∷ at 18 3 (row.Round 3 3 8)
    ∷ at 18 3 (row.Stop 3 why.Yield 4 (Some 24))
    ∷ at 20 3 (row.Release 4)
    ∷ at 20 3 (row.Run 4)
    ∷ at 22 3 (row.Signal 4 0 5)
    ∷ at 22 3 (row.Round 4 1 20)
    ∷ at 23 1 (row.Release 1)
    ∷ at 23 1 (row.Run 1)
    ∷ at 24 3 (row.Stop 4 why.Yield 7 (Some 38))
    ∷ at 24 3 (row.Release 3)
    ∷ at 24 3 (row.Run 3)
    ∷ at 25 0 (row.Arrive 0 5 3)
    ∷ at 25 0 (row.Hold 0 5)
    ∷ at 25 1 (row.Round 1 2 18)
    ∷ at 25 1 (row.Stop 1 why.Done 2 None)
    ∷ at 26 3 (row.Round 3 4 8)
    ∷ at 26 3 (row.Stop 3 why.Yield 4 (Some 32))
    ∷ at 32 3 (row.Release 3)
    ∷ at 32 3 (row.Run 3)
    ∷ at 34 3 (row.Round 3 5 8)
    ∷ at 34 3 (row.Stop 3 why.Yield 4 (Some 40))
    ∷ at 38 3 (row.Release 4)
    ∷ at 38 3 (row.Run 4)
    ∷ at 40 3 (row.Signal 4 0 5)
    ∷ at 40 3 (row.Round 4 2 18)
    ∷ at 40 3 (row.Release 3)
    ∷ at 42 3 (row.Stop 4 why.Yield 7 (Some 56))
    ∷ at 42 3 (row.Run 3)
    ∷ at 43 0 (row.Arrive 0 5 3)
    ∷ at 43 0 (row.Hold 0 5)
    ∷ at 44 3 (row.Round 3 6 10)
    ∷ at 44 3 (row.Stop 3 why.Yield 4 (Some 48))
    ∷ []

random_several_21 : schedule random_several_21_system 47 ≡ random_several_21_rows
random_several_21 = refl

abbrev pub random_several_22_system : System
random_several_22_system = record {
  cores = 2;
  delay = 1;
  call = 3;
  min_budget = 2;
  contexts =
      context (codes "c") 1 2 3 3
      ∷ context (codes "b") 1 2 10 5
      ∷ context (codes "a") 0 2 25 5
      ∷ [];
  notes =
      note (codes "a") 0
      ∷ [];
  threads =
      thread (codes "A") 0 0 7 0 27 (Yield ∷ Yield ∷ [])
      ∷ thread (codes "C") 2 255 5 1 5 ((Signal 0 1) ∷ Yield ∷ [])
      ∷ [];
  orders =
      order 1 0 4 9 1
      ∷ order 0 0 8 17 0
      ∷ [];
  links = [];
  servers = 0;
  sources = [];
  beats = [];
  chains = [];
}

abbrev pub random_several_22_rows : List Row
random_several_22_rows =
    at 0 1 (row.Order 0)
    ∷ at 1 1 (row.Order 0)
    ∷ at 5 0 (row.Release 1)
    ∷ at 5 0 (row.Run 1)
    ∷ at 7 0 (row.Stop 1 why.Spent 2 (Some 30))
    ∷ at 7 1 (row.Release 0)
    ∷ at 7 1 (row.Run 0)
    ∷ at 9 1 (row.Stop 0 why.Spent 2 (Some 14))
    ∷ at 14 1 (row.Release 0)
    ∷ at 14 1 (row.Run 0)
    ∷ at 15 1 (row.Stop 0 why.Yield 4 (Some 23))
    ∷ at 23 1 (row.Release 0)
    ∷ at 23 1 (row.Run 0)
    ∷ at 26 1 (row.Round 0 1 19)
    ∷ at 26 1 (row.Stop 0 why.Yield 4 (Some 32))
    ∷ at 30 0 (row.Release 1)
    ∷ at 30 0 (row.Run 1)
    ∷ at 31 0 (row.Signal 1 0 1)
    ∷ at 31 0 (row.Hold 0 1)
    ∷ at 32 0 (row.Stop 1 why.Spent 2 (Some 55))
    ∷ at 32 1 (row.Release 0)
    ∷ at 32 1 (row.Run 0)
    ∷ at 35 1 (row.Stop 0 why.Yield 4 (Some 41))
    ∷ at 41 1 (row.Release 0)
    ∷ at 41 1 (row.Run 0)
    ∷ at 44 1 (row.Round 0 2 18)
    ∷ at 44 1 (row.Stop 0 why.Yield 4 (Some 50))
    ∷ []

random_several_22 : schedule random_several_22_system 48 ≡ random_several_22_rows
random_several_22 = refl

abbrev pub random_several_23_system : System
random_several_23_system = record {
  cores = 6;
  delay = 2;
  call = 1;
  min_budget = 3;
  contexts =
      context (codes "k-1") 5 11 11 0
      ∷ context (codes "e") 3 3 28 0
      ∷ context (codes "d") 2 4 5 5
      ∷ context (codes "b") 0 7 17 1
      ∷ context (codes "f") 3 8 10 1
      ∷ context (codes "a") 0 5 10 0
      ∷ context (codes "g") 4 6 6 1
      ∷ context (codes "h") 4 6 6 1
      ∷ context (codes "c") 1 4 13 0
      ∷ [];
  notes =
      note (codes "a") 0
      ∷ note (codes "b") 0
      ∷ note (codes "c") 0
      ∷ note (codes "d") 3
      ∷ [];
  threads =
      thread (codes "G") 6 1 1 0 10 (Yield ∷ Yield ∷ (Compute 1) ∷ (Compute 3) ∷ [])
      ∷ thread (codes "T0") 0 96 15 1 1 ((Compute 3) ∷ (Signal 2 4) ∷ (Compute 2) ∷ (Compute 2) ∷ (Compute 2) ∷ (Compute 8) ∷ [])
      ∷ thread (codes "T2") 2 1 2 2 21 ((Signal 2 1) ∷ [])
      ∷ thread (codes "F") 5 2 22 0 5 (Yield ∷ [])
      ∷ thread (codes "T1") 1 77 1 0 5 ((Wait 3) ∷ (Compute 4) ∷ [])
      ∷ thread (codes "T7") 7 2 5 2 0 (Yield ∷ Yield ∷ [])
      ∷ thread (codes "E") 4 3 5 3 0 ((Signal 3 7) ∷ Yield ∷ [])
      ∷ thread (codes "T8") 8 2 0 1 26 ((Compute 5) ∷ [])
      ∷ thread (codes "T3") 3 3 25 4 38 (Yield ∷ [])
      ∷ [];
  orders = [];
  links = [];
  servers = 0;
  sources = [];
  beats = [];
  chains = [];
}

abbrev pub random_several_23_rows : List Row
random_several_23_rows =
    at 0 1 (row.Release 7)
    ∷ at 0 1 (row.Run 7)
    ∷ at 1 3 (row.Release 4)
    ∷ at 1 3 (row.Run 4)
    ∷ at 1 4 (row.Release 0)
    ∷ at 1 4 (row.Run 0)
    ∷ at 2 2 (row.Release 2)
    ∷ at 2 2 (row.Run 2)
    ∷ at 2 3 (row.Stop 4 why.Wait 1 None)
    ∷ at 2 4 (row.Stop 0 why.Yield 6 None)
    ∷ at 2 4 (row.Run 0)
    ∷ at 3 2 (row.Signal 2 2 1)
    ∷ at 3 2 (row.Round 2 1 1)
    ∷ at 3 4 (row.Stop 0 why.Yield 6 None)
    ∷ at 3 4 (row.Run 0)
    ∷ at 4 1 (row.Stop 7 why.Spent 4 (Some 13))
    ∷ at 4 2 (row.Signal 2 2 1)
    ∷ at 4 2 (row.Round 2 2 1)
    ∷ at 4 2 (row.Stop 2 why.Done 2 None)
    ∷ at 5 0 (row.Arrive 2 1 2)
    ∷ at 5 0 (row.Hold 2 1)
    ∷ at 5 3 (row.Release 6)
    ∷ at 5 3 (row.Run 6)
    ∷ at 5 4 (row.Release 5)
    ∷ at 5 4 (row.Stop 0 why.Preempt 2 None)
    ∷ at 5 4 (row.Run 5)
    ∷ at 6 0 (row.Arrive 2 1 2)
    ∷ at 6 0 (row.Hold 2 1)
    ∷ at 6 3 (row.Signal 6 3 7)
    ∷ at 6 3 (row.Wake 4 3 7 (Some 27))
    ∷ at 6 4 (row.Stop 5 why.Yield 6 None)
    ∷ at 6 4 (row.Run 5)
    ∷ at 7 3 (row.Round 6 1 2)
    ∷ at 7 3 (row.Stop 6 why.Yield 8 (Some 15))
    ∷ at 7 4 (row.Round 5 1 2)
    ∷ at 7 4 (row.Stop 5 why.Yield 6 None)
    ∷ at 7 4 (row.Run 5)
    ∷ at 8 4 (row.Stop 5 why.Yield 6 None)
    ∷ at 8 4 (row.Run 5)
    ∷ at 9 4 (row.Round 5 2 2)
    ∷ at 9 4 (row.Stop 5 why.Done 1 None)
    ∷ at 9 4 (row.Run 0)
    ∷ at 11 4 (row.Round 0 1 10)
    ∷ at 12 4 (row.Stop 0 why.Yield 4 None)
    ∷ at 12 4 (row.Run 0)
    ∷ at 13 1 (row.Release 7)
    ∷ at 13 1 (row.Run 7)
    ∷ at 13 4 (row.Stop 0 why.Yield 6 None)
    ∷ at 13 4 (row.Run 0)
    ∷ at 14 1 (row.Round 7 1 14)
    ∷ at 14 1 (row.Stop 7 why.Done 1 None)
    ∷ at 15 3 (row.Release 6)
    ∷ at 15 3 (row.Run 6)
    ∷ at 15 5 (row.Release 1)
    ∷ at 15 5 (row.Run 1)
    ∷ at 16 3 (row.Signal 6 3 7)
    ∷ at 16 3 (row.Hold 3 7)
    ∷ at 17 3 (row.Round 6 2 10)
    ∷ at 17 3 (row.Stop 6 why.Yield 8 (Some 25))
    ∷ at 17 4 (row.Round 0 2 6)
    ∷ at 18 4 (row.Stop 0 why.Yield 6 None)
    ∷ at 18 4 (row.Run 0)
    ∷ at 19 4 (row.Stop 0 why.Yield 6 None)
    ∷ at 19 4 (row.Run 0)
    ∷ at 19 5 (row.Signal 1 2 4)
    ∷ at 21 0 (row.Arrive 2 4 5)
    ∷ at 21 0 (row.Hold 2 5)
    ∷ at 22 0 (row.Release 3)
    ∷ at 22 0 (row.Run 3)
    ∷ at 23 0 (row.Round 3 1 1)
    ∷ at 23 0 (row.Stop 3 why.Yield 5 (Some 32))
    ∷ at 23 4 (row.Round 0 3 6)
    ∷ at 24 4 (row.Stop 0 why.Yield 6 None)
    ∷ at 24 4 (row.Run 0)
    ∷ at 25 0 (row.Release 8)
    ∷ at 25 0 (row.Run 8)
    ∷ at 25 3 (row.Release 6)
    ∷ at 25 3 (row.Run 6)
    ∷ at 25 4 (row.Stop 0 why.Yield 6 None)
    ∷ at 25 4 (row.Run 0)
    ∷ at 26 0 (row.Round 8 1 1)
    ∷ at 26 0 (row.Stop 8 why.Yield 7 (Some 42))
    ∷ at 26 3 (row.Signal 6 3 7)
    ∷ at 26 3 (row.Hold 3 7)
    ∷ at 26 5 (row.Stop 1 why.Spent 11 None)
    ∷ at 26 5 (row.Run 1)
    ∷ at 27 3 (row.Round 6 3 10)
    ∷ at 27 3 (row.Stop 6 why.Done 2 None)
    ∷ at 27 3 (row.Release 4)
    ∷ at 27 3 (row.Run 4)
    ∷ at 29 4 (row.Round 0 4 6)
    ∷ at 30 3 (row.Stop 4 why.Spent 3 (Some 55))
    ∷ at 30 4 (row.Stop 0 why.Yield 6 None)
    ∷ at 30 4 (row.Run 0)
    ∷ at 31 4 (row.Stop 0 why.Yield 6 None)
    ∷ at 31 4 (row.Run 0)
    ∷ at 32 0 (row.Release 3)
    ∷ at 32 0 (row.Run 3)
    ∷ at 33 0 (row.Round 3 2 10)
    ∷ at 33 0 (row.Stop 3 why.Yield 5 (Some 42))
    ∷ at 33 5 (row.Round 1 1 18)
    ∷ at 33 5 (row.Stop 1 why.Done 7 None)
    ∷ at 35 4 (row.Round 0 5 6)
    ∷ at 36 4 (row.Stop 0 why.Yield 6 None)
    ∷ at 36 4 (row.Run 0)
    ∷ at 37 4 (row.Stop 0 why.Yield 6 None)
    ∷ at 37 4 (row.Run 0)
    ∷ at 41 4 (row.Round 0 6 6)
    ∷ at 42 0 (row.Release 8)
    ∷ at 42 0 (row.Release 3)
    ∷ at 42 0 (row.Run 8)
    ∷ at 42 4 (row.Stop 0 why.Yield 6 None)
    ∷ at 42 4 (row.Run 0)
    ∷ at 43 0 (row.Round 8 2 17)
    ∷ at 43 0 (row.Stop 8 why.Yield 7 (Some 59))
    ∷ at 43 0 (row.Run 3)
    ∷ at 43 4 (row.Stop 0 why.Yield 6 None)
    ∷ at 43 4 (row.Run 0)
    ∷ at 44 0 (row.Round 3 3 11)
    ∷ at 44 0 (row.Stop 3 why.Yield 5 (Some 52))
    ∷ at 47 4 (row.Round 0 7 6)
    ∷ at 48 4 (row.Stop 0 why.Yield 6 None)
    ∷ at 48 4 (row.Run 0)
    ∷ at 49 4 (row.Stop 0 why.Yield 6 None)
    ∷ at 49 4 (row.Run 0)
    ∷ at 52 0 (row.Release 3)
    ∷ at 52 0 (row.Run 3)
    ∷ at 53 0 (row.Round 3 4 9)
    ∷ at 53 0 (row.Stop 3 why.Yield 5 (Some 62))
    ∷ at 53 4 (row.Round 0 8 6)
    ∷ at 54 4 (row.Stop 0 why.Yield 6 None)
    ∷ at 54 4 (row.Run 0)
    ∷ at 55 3 (row.Release 4)
    ∷ at 55 3 (row.Run 4)
    ∷ at 55 4 (row.Stop 0 why.Yield 6 None)
    ∷ at 55 4 (row.Run 0)
    ∷ []

random_several_23 : schedule random_several_23_system 55 ≡ random_several_23_rows
random_several_23 = refl

abbrev pub random_several_24_system : System
random_several_24_system = record {
  cores = 2;
  delay = 1;
  call = 3;
  min_budget = 1;
  contexts =
      context (codes "e") 1 4 5 0
      ∷ context (codes "d") 1 2 12 3
      ∷ context (codes "b") 0 5 15 0
      ∷ context (codes "a") 0 4 20 1
      ∷ context (codes "c") 0 2 8 0
      ∷ context (codes "f") 1 4 12 1
      ∷ context (codes "g") 1 5 12 0
      ∷ [];
  notes =
      note (codes "a") 1
      ∷ note (codes "b") 0
      ∷ note (codes "c") 0
      ∷ note (codes "d") 0
      ∷ note (codes "e") 1
      ∷ [];
  threads =
      thread (codes "T5") 5 2 0 1 0 (Yield ∷ (Signal 1 3813221376) ∷ Yield ∷ [])
      ∷ thread (codes "G") 6 0 0 2 0 ((Signal 0 1) ∷ (Compute 2) ∷ (Compute 1) ∷ (Signal 3 5) ∷ [])
      ∷ thread (codes "B") 1 1 2 3 0 ((Compute 2) ∷ [])
      ∷ thread (codes "D") 3 1 0 3 0 ((Compute 2) ∷ [])
      ∷ thread (codes "C") 2 207 2 9 0 ((Compute 1) ∷ (Wait 1) ∷ (Wait 2) ∷ (Signal 2 4) ∷ (Wait 2) ∷ Yield ∷ [])
      ∷ thread (codes "E") 4 1 0 2 5 ((Compute 4) ∷ (Signal 1 2750972590) ∷ (Compute 3) ∷ [])
      ∷ [];
  orders =
      order 36 5 7 8 0
      ∷ [];
  links = [];
  servers = 0;
  sources = [];
  beats = [];
  chains = [];
}

abbrev pub random_several_24_rows : List Row
random_several_24_rows =
    at 0 0 (row.Release 3)
    ∷ at 0 0 (row.Release 5)
    ∷ at 0 0 (row.Run 3)
    ∷ at 0 1 (row.Release 0)
    ∷ at 0 1 (row.Release 1)
    ∷ at 0 1 (row.Run 0)
    ∷ at 2 0 (row.Round 3 1 2)
    ∷ at 2 0 (row.Release 4)
    ∷ at 2 0 (row.Stop 3 why.Preempt 2 None)
    ∷ at 2 0 (row.Run 4)
    ∷ at 2 1 (row.Release 2)
    ∷ at 3 1 (row.Stop 0 why.Yield 4 (Some 12))
    ∷ at 3 1 (row.Run 2)
    ∷ at 5 1 (row.Round 2 1 3)
    ∷ at 5 1 (row.Stop 2 why.Spent 2 (Some 14))
    ∷ at 5 1 (row.Run 1)
    ∷ at 6 0 (row.Stop 4 why.Wait 4 None)
    ∷ at 6 0 (row.Run 3)
    ∷ at 8 0 (row.Round 3 2 6)
    ∷ at 8 0 (row.Stop 3 why.Spent 2 (Some 20))
    ∷ at 8 0 (row.Run 5)
    ∷ at 8 1 (row.Signal 1 0 1)
    ∷ at 8 1 (row.Hold 0 1)
    ∷ at 10 0 (row.Stop 5 why.Spent 2 None)
    ∷ at 10 0 (row.Run 5)
    ∷ at 10 1 (row.Stop 1 why.Spent 5 (Some 12))
    ∷ at 12 0 (row.Stop 5 why.Spent 2 (Some 16))
    ∷ at 12 1 (row.Release 0)
    ∷ at 12 1 (row.Release 1)
    ∷ at 12 1 (row.Run 0)
    ∷ at 14 1 (row.Release 2)
    ∷ at 15 1 (row.Signal 0 1 3813221376)
    ∷ at 16 0 (row.Arrive 1 3813221376 1)
    ∷ at 16 0 (row.Wake 4 1 3813221376 None)
    ∷ at 16 0 (row.Release 5)
    ∷ at 16 0 (row.Run 4)
    ∷ at 16 1 (row.Stop 0 why.Spent 4 (Some 24))
    ∷ at 16 1 (row.Run 2)
    ∷ at 18 1 (row.Round 2 2 13)
    ∷ at 18 1 (row.Stop 2 why.Spent 2 (Some 26))
    ∷ at 18 1 (row.Run 1)
    ∷ at 19 0 (row.Stop 4 why.Wait 3 None)
    ∷ at 19 0 (row.Run 5)
    ∷ at 20 0 (row.Release 3)
    ∷ at 21 0 (row.Stop 5 why.Spent 2 (Some 24))
    ∷ at 21 0 (row.Run 3)
    ∷ at 22 1 (row.Signal 1 3 5)
    ∷ at 22 1 (row.Round 1 1 22)
    ∷ at 23 0 (row.Round 3 3 15)
    ∷ at 23 0 (row.Stop 3 why.Done 2 None)
    ∷ at 23 0 (row.Arrive 3 5 1)
    ∷ at 23 0 (row.Hold 3 5)
    ∷ at 23 1 (row.Stop 1 why.Spent 5 (Some 24))
    ∷ at 24 0 (row.Release 5)
    ∷ at 24 0 (row.Run 5)
    ∷ at 24 1 (row.Release 0)
    ∷ at 24 1 (row.Release 1)
    ∷ at 24 1 (row.Run 0)
    ∷ at 25 0 (row.Signal 5 1 2750972590)
    ∷ at 25 0 (row.Hold 1 2750972590)
    ∷ at 26 0 (row.Stop 5 why.Spent 2 (Some 32))
    ∷ at 26 1 (row.Round 0 1 26)
    ∷ at 26 1 (row.Stop 0 why.Done 2 None)
    ∷ at 26 1 (row.Release 2)
    ∷ at 26 1 (row.Run 2)
    ∷ at 28 1 (row.Round 2 3 10)
    ∷ at 28 1 (row.Stop 2 why.Done 2 None)
    ∷ at 28 1 (row.Run 1)
    ∷ at 30 1 (row.Signal 1 0 1)
    ∷ at 30 1 (row.Hold 0 1)
    ∷ at 32 0 (row.Release 5)
    ∷ at 32 0 (row.Run 5)
    ∷ at 33 1 (row.Stop 1 why.Spent 5 (Some 36))
    ∷ at 34 0 (row.Round 5 1 34)
    ∷ at 34 0 (row.Stop 5 why.Spent 2 (Some 40))
    ∷ at 36 1 (row.Order 5)
    ∷ at 36 1 (row.Release 1)
    ∷ at 36 1 (row.Run 1)
    ∷ at 39 1 (row.Signal 1 3 5)
    ∷ at 39 1 (row.Round 1 2 17)
    ∷ at 39 1 (row.Stop 1 why.Done 3 None)
    ∷ at 40 0 (row.Arrive 3 5 1)
    ∷ at 40 0 (row.Hold 3 5)
    ∷ at 40 0 (row.Release 5)
    ∷ at 40 0 (row.Run 5)
    ∷ at 42 0 (row.Stop 5 why.Spent 2 (Some 48))
    ∷ at 48 0 (row.Release 5)
    ∷ at 48 0 (row.Run 5)
    ∷ at 50 0 (row.Stop 5 why.Spent 2 (Some 56))
    ∷ at 56 0 (row.Release 5)
    ∷ at 56 0 (row.Run 5)
    ∷ at 58 0 (row.Stop 5 why.Spent 2 (Some 64))
    ∷ at 64 0 (row.Release 5)
    ∷ at 64 0 (row.Run 5)
    ∷ at 65 0 (row.Signal 5 1 2750972590)
    ∷ at 65 0 (row.Hold 1 2750972590)
    ∷ at 66 0 (row.Stop 5 why.Spent 2 (Some 72))
    ∷ []

random_several_24 : schedule random_several_24_system 69 ≡ random_several_24_rows
random_several_24 = refl

abbrev pub random_several_25_system : System
random_several_25_system = record {
  cores = 2;
  delay = 1;
  call = 1;
  min_budget = 4;
  contexts =
      context (codes "s00") 0 10 24 5
      ∷ context (codes "s01") 0 10 56 0
      ∷ context (codes "r00") 0 6 6 0
      ∷ context (codes "s10") 1 13 82 0
      ∷ context (codes "s11") 1 14 21 0
      ∷ context (codes "r10") 1 6 6 0
      ∷ [];
  notes =
      note (codes "n00") 0
      ∷ note (codes "n01") 0
      ∷ note (codes "n10") 1
      ∷ note (codes "n11") 1
      ∷ [];
  threads =
      thread (codes "S00") 0 7 0 0 0 ((Wait 0) ∷ (Compute 2) ∷ (Compute 3) ∷ (Wait 0) ∷ (Compute 1) ∷ [])
      ∷ thread (codes "S01") 1 5 0 0 0 ((Wait 1) ∷ (Compute 1) ∷ (Compute 2) ∷ (Wait 1) ∷ (Compute 1) ∷ [])
      ∷ thread (codes "R00") 2 2 5 0 0 ((Compute 11) ∷ (Signal 0 5) ∷ [])
      ∷ thread (codes "S10") 3 9 0 0 0 ((Wait 2) ∷ (Compute 4) ∷ (Compute 1) ∷ (Wait 2) ∷ (Compute 1) ∷ [])
      ∷ thread (codes "S11") 4 7 0 0 0 ((Wait 3) ∷ (Compute 1) ∷ [])
      ∷ thread (codes "R10") 5 2 0 0 0 ((Compute 7) ∷ (Signal 3 4) ∷ (Compute 2) ∷ (Signal 3 4) ∷ (Compute 3) ∷ (Signal 1 9) ∷ [])
      ∷ [];
  orders =
      order 172 3 7 38 0
      ∷ order 6 1 6 51 1
      ∷ order 93 5 13 13 0
      ∷ [];
  links = [];
  servers = 0;
  sources = [];
  beats = [];
  chains = [];
}

abbrev pub random_several_25_rows : List Row
random_several_25_rows =
    at 0 0 (row.Release 0)
    ∷ at 0 0 (row.Release 1)
    ∷ at 0 0 (row.Run 0)
    ∷ at 0 1 (row.Release 3)
    ∷ at 0 1 (row.Release 4)
    ∷ at 0 1 (row.Release 5)
    ∷ at 0 1 (row.Run 3)
    ∷ at 1 0 (row.Stop 0 why.Wait 1 None)
    ∷ at 1 0 (row.Run 1)
    ∷ at 1 1 (row.Stop 3 why.Wait 1 None)
    ∷ at 1 1 (row.Run 4)
    ∷ at 2 0 (row.Stop 1 why.Wait 1 None)
    ∷ at 2 1 (row.Stop 4 why.Wait 1 None)
    ∷ at 2 1 (row.Run 5)
    ∷ at 5 0 (row.Release 2)
    ∷ at 5 0 (row.Run 2)
    ∷ at 6 0 (row.Order 1)
    ∷ at 8 1 (row.Stop 5 why.Spent 6 None)
    ∷ at 8 1 (row.Run 5)
    ∷ at 10 1 (row.Signal 5 3 4)
    ∷ at 10 1 (row.Wake 4 3 4 None)
    ∷ at 10 1 (row.Stop 5 why.Preempt 2 None)
    ∷ at 10 1 (row.Run 4)
    ∷ at 11 0 (row.Stop 2 why.Spent 6 None)
    ∷ at 11 0 (row.Run 2)
    ∷ at 11 1 (row.Round 4 1 1)
    ∷ at 12 1 (row.Stop 4 why.Wait 2 None)
    ∷ at 12 1 (row.Run 5)
    ∷ at 15 1 (row.Signal 5 3 4)
    ∷ at 15 1 (row.Wake 4 3 4 None)
    ∷ at 15 1 (row.Stop 5 why.Preempt 3 None)
    ∷ at 15 1 (row.Run 4)
    ∷ at 16 1 (row.Round 4 2 1)
    ∷ at 17 0 (row.Signal 2 0 5)
    ∷ at 17 0 (row.Wake 0 0 5 None)
    ∷ at 17 0 (row.Round 2 1 12)
    ∷ at 17 0 (row.Stop 2 why.Spent 6 None)
    ∷ at 17 0 (row.Run 0)
    ∷ at 17 1 (row.Stop 4 why.Wait 2 None)
    ∷ at 17 1 (row.Run 5)
    ∷ at 18 1 (row.Stop 5 why.Spent 1 None)
    ∷ at 18 1 (row.Run 5)
    ∷ at 21 1 (row.Signal 5 1 9)
    ∷ at 21 1 (row.Round 5 1 21)
    ∷ at 22 0 (row.Arrive 1 9 1)
    ∷ at 22 0 (row.Wake 1 1 9 None)
    ∷ at 23 0 (row.Stop 0 why.Wait 6 None)
    ∷ at 23 0 (row.Run 1)
    ∷ at 24 1 (row.Stop 5 why.Spent 6 None)
    ∷ at 24 1 (row.Run 5)
    ∷ at 27 0 (row.Stop 1 why.Wait 4 None)
    ∷ at 27 0 (row.Run 2)
    ∷ at 29 1 (row.Signal 5 3 4)
    ∷ at 29 1 (row.Wake 4 3 4 None)
    ∷ at 29 1 (row.Stop 5 why.Preempt 5 None)
    ∷ at 29 1 (row.Run 4)
    ∷ at 30 1 (row.Round 4 3 1)
    ∷ at 31 1 (row.Stop 4 why.Wait 2 None)
    ∷ at 31 1 (row.Run 5)
    ∷ at 32 1 (row.Stop 5 why.Spent 1 None)
    ∷ at 32 1 (row.Run 5)
    ∷ at 33 0 (row.Stop 2 why.Spent 6 None)
    ∷ at 33 0 (row.Run 2)
    ∷ at 34 1 (row.Signal 5 3 4)
    ∷ at 34 1 (row.Wake 4 3 4 None)
    ∷ at 34 1 (row.Stop 5 why.Preempt 2 None)
    ∷ at 34 1 (row.Run 4)
    ∷ at 35 1 (row.Round 4 4 1)
    ∷ at 36 1 (row.Stop 4 why.Wait 2 None)
    ∷ at 36 1 (row.Run 5)
    ∷ at 39 0 (row.Signal 2 0 5)
    ∷ at 39 0 (row.Wake 0 0 5 None)
    ∷ at 39 0 (row.Round 2 2 22)
    ∷ at 39 0 (row.Stop 2 why.Spent 6 None)
    ∷ at 39 0 (row.Run 0)
    ∷ at 40 0 (row.Round 0 1 23)
    ∷ at 40 1 (row.Signal 5 1 9)
    ∷ at 40 1 (row.Round 5 2 19)
    ∷ at 40 1 (row.Stop 5 why.Spent 4 None)
    ∷ at 40 1 (row.Run 5)
    ∷ at 41 0 (row.Stop 0 why.Wait 2 None)
    ∷ at 41 0 (row.Arrive 1 9 1)
    ∷ at 41 0 (row.Wake 1 1 9 (Some 71))
    ∷ at 41 0 (row.Run 2)
    ∷ at 46 1 (row.Stop 5 why.Spent 6 None)
    ∷ at 46 1 (row.Run 5)
    ∷ at 47 0 (row.Stop 2 why.Spent 6 None)
    ∷ at 47 0 (row.Run 2)
    ∷ at 48 1 (row.Signal 5 3 4)
    ∷ at 48 1 (row.Wake 4 3 4 None)
    ∷ at 48 1 (row.Stop 5 why.Preempt 2 None)
    ∷ at 48 1 (row.Run 4)
    ∷ at 49 1 (row.Round 4 5 1)
    ∷ at 50 1 (row.Stop 4 why.Wait 2 None)
    ∷ at 50 1 (row.Run 5)
    ∷ at 53 0 (row.Signal 2 0 5)
    ∷ at 53 0 (row.Wake 0 0 5 None)
    ∷ at 53 0 (row.Round 2 3 14)
    ∷ at 53 0 (row.Stop 2 why.Spent 6 None)
    ∷ at 53 0 (row.Run 0)
    ∷ at 53 1 (row.Signal 5 3 4)
    ∷ at 53 1 (row.Wake 4 3 4 None)
    ∷ at 53 1 (row.Stop 5 why.Preempt 3 None)
    ∷ at 53 1 (row.Run 4)
    ∷ at 54 1 (row.Round 4 6 1)
    ∷ at 55 1 (row.Stop 4 why.Wait 2 None)
    ∷ at 55 1 (row.Run 5)
    ∷ at 56 1 (row.Stop 5 why.Spent 1 None)
    ∷ at 56 1 (row.Run 5)
    ∷ at 59 0 (row.Stop 0 why.Wait 6 None)
    ∷ at 59 0 (row.Run 2)
    ∷ at 59 1 (row.Signal 5 1 9)
    ∷ at 59 1 (row.Round 5 3 19)
    ∷ at 60 0 (row.Arrive 1 9 1)
    ∷ at 60 0 (row.Hold 1 9)
    ∷ at 62 1 (row.Stop 5 why.Spent 6 None)
    ∷ at 62 1 (row.Run 5)
    ∷ at 65 0 (row.Stop 2 why.Spent 6 None)
    ∷ at 65 0 (row.Run 2)
    ∷ at 67 1 (row.Signal 5 3 4)
    ∷ at 67 1 (row.Wake 4 3 4 None)
    ∷ at 67 1 (row.Stop 5 why.Preempt 5 None)
    ∷ at 67 1 (row.Run 4)
    ∷ at 68 1 (row.Round 4 7 1)
    ∷ at 69 1 (row.Stop 4 why.Wait 2 None)
    ∷ at 69 1 (row.Run 5)
    ∷ at 70 1 (row.Stop 5 why.Spent 1 None)
    ∷ at 70 1 (row.Run 5)
    ∷ at 71 0 (row.Signal 2 0 5)
    ∷ at 71 0 (row.Wake 0 0 5 None)
    ∷ at 71 0 (row.Round 2 4 18)
    ∷ at 71 0 (row.Stop 2 why.Spent 6 None)
    ∷ at 71 0 (row.Release 1)
    ∷ at 71 0 (row.Run 0)
    ∷ []

random_several_25 : schedule random_several_25_system 71 ≡ random_several_25_rows
random_several_25 = refl

abbrev pub random_several_26_system : System
random_several_26_system = record {
  cores = 2;
  delay = 1;
  call = 3;
  min_budget = 3;
  contexts =
      context (codes "b") 0 3 8 1
      ∷ context (codes "a") 0 10 23 1
      ∷ context (codes "c") 1 4 4 3
      ∷ [];
  notes =
      note (codes "a") 1
      ∷ note (codes "b") 1
      ∷ [];
  threads =
      thread (codes "T2") 2 0 2 2 5 ((Wait 0) ∷ (Compute 8) ∷ (Compute 1) ∷ (Compute 4) ∷ [])
      ∷ thread (codes "T0") 0 2 5 7 5 ((Signal 1 1) ∷ Yield ∷ (Compute 2) ∷ [])
      ∷ thread (codes "T1") 1 255 1 1 0 ((Signal 0 1) ∷ [])
      ∷ [];
  orders = [];
  links = [];
  servers = 0;
  sources = [];
  beats = [];
  chains = [];
}

abbrev pub random_several_26_rows : List Row
random_several_26_rows =
    at 1 0 (row.Release 2)
    ∷ at 1 0 (row.Run 2)
    ∷ at 2 1 (row.Release 0)
    ∷ at 2 1 (row.Run 0)
    ∷ at 4 0 (row.Signal 2 0 1)
    ∷ at 4 0 (row.Round 2 1 3)
    ∷ at 4 0 (row.Stop 2 why.Done 3 None)
    ∷ at 5 0 (row.Release 1)
    ∷ at 5 0 (row.Run 1)
    ∷ at 5 1 (row.Stop 0 why.Wait 3 None)
    ∷ at 5 1 (row.Arrive 0 1 0)
    ∷ at 5 1 (row.Wake 0 0 1 None)
    ∷ at 5 1 (row.Run 0)
    ∷ at 6 1 (row.Stop 0 why.Spent 1 None)
    ∷ at 6 1 (row.Run 0)
    ∷ at 8 0 (row.Signal 1 1 1)
    ∷ at 8 0 (row.Stop 1 why.Spent 3 (Some 13))
    ∷ at 9 1 (row.Arrive 1 1 0)
    ∷ at 9 1 (row.Hold 1 1)
    ∷ at 10 1 (row.Stop 0 why.Spent 4 None)
    ∷ at 10 1 (row.Run 0)
    ∷ at 13 0 (row.Release 1)
    ∷ at 13 0 (row.Run 1)
    ∷ at 14 1 (row.Stop 0 why.Spent 4 None)
    ∷ at 14 1 (row.Run 0)
    ∷ at 16 0 (row.Stop 1 why.Yield 3 (Some 21))
    ∷ at 18 1 (row.Round 0 1 13)
    ∷ at 18 1 (row.Stop 0 why.Spent 4 None)
    ∷ at 18 1 (row.Run 0)
    ∷ at 21 0 (row.Release 1)
    ∷ at 21 0 (row.Run 1)
    ∷ at 21 1 (row.Stop 0 why.Wait 3 None)
    ∷ at 23 0 (row.Round 1 1 18)
    ∷ at 24 0 (row.Stop 1 why.Spent 3 (Some 29))
    ∷ at 29 0 (row.Release 1)
    ∷ at 29 0 (row.Run 1)
    ∷ at 31 0 (row.Signal 1 1 1)
    ∷ at 32 0 (row.Stop 1 why.Spent 3 (Some 37))
    ∷ at 32 1 (row.Arrive 1 1 0)
    ∷ at 32 1 (row.Hold 1 1)
    ∷ at 37 0 (row.Release 1)
    ∷ at 37 0 (row.Run 1)
    ∷ at 39 0 (row.Stop 1 why.Yield 3 (Some 45))
    ∷ at 45 0 (row.Release 1)
    ∷ at 45 0 (row.Run 1)
    ∷ at 47 0 (row.Round 1 2 24)
    ∷ at 48 0 (row.Stop 1 why.Spent 3 (Some 53))
    ∷ at 53 0 (row.Release 1)
    ∷ at 53 0 (row.Run 1)
    ∷ at 55 0 (row.Signal 1 1 1)
    ∷ at 56 0 (row.Stop 1 why.Spent 3 (Some 61))
    ∷ at 56 1 (row.Arrive 1 1 0)
    ∷ at 56 1 (row.Hold 1 1)
    ∷ at 61 0 (row.Release 1)
    ∷ at 61 0 (row.Run 1)
    ∷ at 63 0 (row.Stop 1 why.Yield 3 (Some 69))
    ∷ at 69 0 (row.Release 1)
    ∷ at 69 0 (row.Run 1)
    ∷ at 71 0 (row.Round 1 3 24)
    ∷ at 72 0 (row.Stop 1 why.Spent 3 (Some 77))
    ∷ []

random_several_26 : schedule random_several_26_system 73 ≡ random_several_26_rows
random_several_26 = refl

abbrev pub random_several_27_system : System
random_several_27_system = record {
  cores = 3;
  delay = 1;
  call = 1;
  min_budget = 5;
  contexts =
      context (codes "d") 2 10 21 2
      ∷ context (codes "a") 0 12 22 0
      ∷ context (codes "c") 2 8 32 1
      ∷ context (codes "b") 1 10 35 0
      ∷ [];
  notes =
      note (codes "a") 2
      ∷ [];
  threads =
      thread (codes "C") 2 255 0 3 5 ((Wait 0) ∷ (Signal 0 1) ∷ (Compute 22) ∷ Yield ∷ [])
      ∷ thread (codes "D") 3 2 2 0 5 ((Compute 1) ∷ [])
      ∷ thread (codes "T0") 0 2 5 3 0 ((Wait 0) ∷ (Compute 2) ∷ [])
      ∷ thread (codes "B") 1 2 22 9 0 ((Compute 2) ∷ Yield ∷ (Compute 1) ∷ (Compute 1) ∷ [])
      ∷ [];
  orders = [];
  links = [];
  servers = 0;
  sources = [];
  beats = [];
  chains = [];
}

abbrev pub random_several_27_rows : List Row
random_several_27_rows =
    at 0 2 (row.Release 0)
    ∷ at 0 2 (row.Run 0)
    ∷ at 1 2 (row.Stop 0 why.Wait 1 None)
    ∷ at 2 1 (row.Release 1)
    ∷ at 2 1 (row.Run 1)
    ∷ at 3 1 (row.Round 1 1 1)
    ∷ at 4 1 (row.Round 1 2 1)
    ∷ at 5 1 (row.Round 1 3 1)
    ∷ at 5 2 (row.Release 2)
    ∷ at 5 2 (row.Run 2)
    ∷ at 6 1 (row.Round 1 4 1)
    ∷ at 6 2 (row.Stop 2 why.Wait 1 None)
    ∷ at 7 1 (row.Round 1 5 1)
    ∷ at 8 1 (row.Round 1 6 1)
    ∷ at 9 1 (row.Round 1 7 1)
    ∷ at 10 1 (row.Round 1 8 1)
    ∷ at 11 1 (row.Round 1 9 1)
    ∷ at 12 1 (row.Round 1 10 1)
    ∷ at 12 1 (row.Stop 1 why.Spent 10 (Some 37))
    ∷ at 22 0 (row.Release 3)
    ∷ at 22 0 (row.Run 3)
    ∷ at 25 0 (row.Stop 3 why.Yield 12 (Some 44))
    ∷ at 37 1 (row.Release 1)
    ∷ at 37 1 (row.Run 1)
    ∷ at 38 1 (row.Round 1 11 26)
    ∷ at 39 1 (row.Round 1 12 1)
    ∷ at 40 1 (row.Round 1 13 1)
    ∷ at 41 1 (row.Round 1 14 1)
    ∷ at 42 1 (row.Round 1 15 1)
    ∷ at 43 1 (row.Round 1 16 1)
    ∷ at 44 0 (row.Release 3)
    ∷ at 44 0 (row.Run 3)
    ∷ at 44 1 (row.Round 1 17 1)
    ∷ at 45 1 (row.Round 1 18 1)
    ∷ at 46 0 (row.Round 3 1 24)
    ∷ at 46 1 (row.Round 1 19 1)
    ∷ at 47 1 (row.Round 1 20 1)
    ∷ at 47 1 (row.Stop 1 why.Spent 10 (Some 72))
    ∷ at 49 0 (row.Stop 3 why.Yield 12 (Some 66))
    ∷ at 66 0 (row.Release 3)
    ∷ at 66 0 (row.Run 3)
    ∷ at 68 0 (row.Round 3 2 22)
    ∷ at 71 0 (row.Stop 3 why.Yield 12 (Some 88))
    ∷ at 72 1 (row.Release 1)
    ∷ at 72 1 (row.Run 1)
    ∷ at 73 1 (row.Round 1 21 26)
    ∷ at 74 1 (row.Round 1 22 1)
    ∷ at 75 1 (row.Round 1 23 1)
    ∷ at 76 1 (row.Round 1 24 1)
    ∷ at 77 1 (row.Round 1 25 1)
    ∷ at 78 1 (row.Round 1 26 1)
    ∷ at 79 1 (row.Round 1 27 1)
    ∷ []

random_several_27 : schedule random_several_27_system 79 ≡ random_several_27_rows
random_several_27 = refl

abbrev pub random_several_28_system : System
random_several_28_system = record {
  cores = 2;
  delay = 1;
  call = 3;
  min_budget = 5;
  contexts =
      context (codes "b") 1 7 8 3
      ∷ context (codes "a") 0 10 11 5
      ∷ [];
  notes =
      note (codes "a") 0
      ∷ [];
  threads =
      thread (codes "A") 0 255 0 2 10 ((Signal 0 1) ∷ Yield ∷ [])
      ∷ thread (codes "T1") 1 3 0 2 1 ((Compute 1) ∷ [])
      ∷ [];
  orders = [];
  links = [];
  servers = 0;
  sources = [];
  beats = [];
  chains = [];
}

abbrev pub random_several_28_rows : List Row
random_several_28_rows =
    at 0 0 (row.Release 1)
    ∷ at 0 0 (row.Run 1)
    ∷ at 0 1 (row.Release 0)
    ∷ at 0 1 (row.Run 0)
    ∷ at 1 0 (row.Round 1 1 1)
    ∷ at 2 0 (row.Round 1 2 1)
    ∷ at 2 0 (row.Stop 1 why.Done 2 None)
    ∷ at 3 1 (row.Signal 0 0 1)
    ∷ at 4 0 (row.Arrive 0 1 1)
    ∷ at 4 0 (row.Hold 0 1)
    ∷ at 6 1 (row.Round 0 1 6)
    ∷ at 6 1 (row.Stop 0 why.Yield 7 (Some 8))
    ∷ at 8 1 (row.Release 0)
    ∷ at 8 1 (row.Run 0)
    ∷ at 11 1 (row.Signal 0 0 1)
    ∷ at 12 0 (row.Arrive 0 1 1)
    ∷ at 12 0 (row.Hold 0 1)
    ∷ at 14 1 (row.Round 0 2 8)
    ∷ at 14 1 (row.Stop 0 why.Done 6 None)
    ∷ []

random_several_28 : schedule random_several_28_system 41 ≡ random_several_28_rows
random_several_28 = refl

abbrev pub random_several_29_system : System
random_several_29_system = record {
  cores = 4;
  delay = 2;
  call = 1;
  min_budget = 1;
  contexts =
      context (codes "a") 0 3 3 5
      ∷ context (codes "c") 2 1 10 1
      ∷ context (codes "e") 3 2 7 1
      ∷ context (codes "d") 3 4 7 0
      ∷ context (codes "b") 1 2 17 1
      ∷ [];
  notes =
      note (codes "a") 2
      ∷ note (codes "b") 0
      ∷ [];
  threads =
      thread (codes "T3") 3 2 5 1 0 ((Compute 1) ∷ (Signal 0 1) ∷ [])
      ∷ thread (codes "T2") 2 56 19 1 30 (Yield ∷ (Signal 0 158333824) ∷ (Compute 2) ∷ Yield ∷ (Signal 1 5) ∷ Yield ∷ [])
      ∷ thread (codes "E") 4 3 0 2 0 ((Compute 2) ∷ [])
      ∷ thread (codes "A") 0 2 0 1 5 ((Compute 2) ∷ (Compute 8) ∷ (Compute 2) ∷ [])
      ∷ [];
  orders = [];
  links = [];
  servers = 0;
  sources = [];
  beats = [];
  chains = [];
}

abbrev pub random_several_29_rows : List Row
random_several_29_rows =
    at 0 0 (row.Release 3)
    ∷ at 0 0 (row.Run 3)
    ∷ at 0 1 (row.Release 2)
    ∷ at 0 1 (row.Run 2)
    ∷ at 2 1 (row.Round 2 1 2)
    ∷ at 2 1 (row.Stop 2 why.Spent 2 (Some 17))
    ∷ at 3 0 (row.Stop 3 why.Spent 3 None)
    ∷ at 3 0 (row.Run 3)
    ∷ at 5 3 (row.Release 0)
    ∷ at 5 3 (row.Run 0)
    ∷ at 6 0 (row.Stop 3 why.Spent 3 None)
    ∷ at 6 0 (row.Run 3)
    ∷ at 7 3 (row.Signal 0 0 1)
    ∷ at 7 3 (row.Round 0 1 2)
    ∷ at 7 3 (row.Stop 0 why.Done 2 None)
    ∷ at 9 0 (row.Stop 3 why.Spent 3 None)
    ∷ at 9 0 (row.Run 3)
    ∷ at 9 2 (row.Arrive 0 1 3)
    ∷ at 9 2 (row.Hold 0 1)
    ∷ at 12 0 (row.Round 3 1 12)
    ∷ at 12 0 (row.Stop 3 why.Done 3 None)
    ∷ at 17 1 (row.Release 2)
    ∷ at 17 1 (row.Run 2)
    ∷ at 19 1 (row.Round 2 2 17)
    ∷ at 19 1 (row.Stop 2 why.Done 2 None)
    ∷ at 19 3 (row.Release 1)
    ∷ at 19 3 (row.Run 1)
    ∷ at 20 3 (row.Stop 1 why.Yield 2 (Some 26))
    ∷ at 26 3 (row.Release 1)
    ∷ at 26 3 (row.Run 1)
    ∷ at 27 3 (row.Signal 1 0 158333824)
    ∷ at 28 3 (row.Stop 1 why.Spent 2 (Some 33))
    ∷ at 29 2 (row.Arrive 0 158333824 3)
    ∷ at 29 2 (row.Hold 0 158333825)
    ∷ at 33 3 (row.Release 1)
    ∷ at 33 3 (row.Run 1)
    ∷ at 35 3 (row.Stop 1 why.Yield 2 (Some 40))
    ∷ at 40 3 (row.Release 1)
    ∷ at 40 3 (row.Run 1)
    ∷ at 41 3 (row.Signal 1 1 5)
    ∷ at 42 3 (row.Round 1 1 23)
    ∷ at 42 3 (row.Stop 1 why.Done 2 None)
    ∷ at 43 0 (row.Arrive 1 5 3)
    ∷ at 43 0 (row.Hold 1 5)
    ∷ []

random_several_29 : schedule random_several_29_system 43 ≡ random_several_29_rows
random_several_29 = refl

abbrev pub random_several_30_system : System
random_several_30_system = record {
  cores = 2;
  delay = 1;
  call = 1;
  min_budget = 1;
  contexts =
      context (codes "s00") 0 7 74 5
      ∷ context (codes "s01") 0 9 42 5
      ∷ context (codes "r00") 0 3 7 3
      ∷ context (codes "s10") 1 6 17 0
      ∷ context (codes "r10") 1 1 4 3
      ∷ [];
  notes =
      note (codes "n00") 0
      ∷ note (codes "n01") 0
      ∷ note (codes "n10") 1
      ∷ [];
  threads =
      thread (codes "S00") 0 9 0 0 0 ((Compute 6) ∷ [])
      ∷ thread (codes "S01") 1 5 0 0 0 ((Wait 1) ∷ (Compute 1) ∷ [])
      ∷ thread (codes "R00") 2 7 3 0 0 ((Compute 10) ∷ (Signal 1 8) ∷ (Compute 12) ∷ (Signal 1 3) ∷ [])
      ∷ thread (codes "S10") 3 7 0 0 0 ((Wait 2) ∷ (Compute 1) ∷ (Compute 3) ∷ (Wait 2) ∷ (Compute 2) ∷ [])
      ∷ thread (codes "R10") 4 7 4 0 0 ((Compute 4) ∷ (Signal 0 4) ∷ (Compute 2) ∷ (Signal 2 7) ∷ [])
      ∷ [];
  orders = [];
  links = [];
  servers = 0;
  sources = [];
  beats = [];
  chains = [];
}

abbrev pub random_several_30_rows : List Row
random_several_30_rows =
    at 0 0 (row.Release 0)
    ∷ at 0 0 (row.Release 1)
    ∷ at 0 0 (row.Run 0)
    ∷ at 0 1 (row.Release 3)
    ∷ at 0 1 (row.Run 3)
    ∷ at 1 1 (row.Stop 3 why.Wait 1 None)
    ∷ at 3 0 (row.Release 2)
    ∷ at 4 1 (row.Release 4)
    ∷ at 4 1 (row.Run 4)
    ∷ at 5 1 (row.Stop 4 why.Spent 1 (Some 8))
    ∷ at 6 0 (row.Round 0 1 6)
    ∷ at 7 0 (row.Stop 0 why.Spent 7 (Some 74))
    ∷ at 7 0 (row.Run 2)
    ∷ at 8 1 (row.Release 4)
    ∷ at 8 1 (row.Run 4)
    ∷ at 9 1 (row.Stop 4 why.Spent 1 (Some 12))
    ∷ at 10 0 (row.Stop 2 why.Spent 3 None)
    ∷ at 10 0 (row.Run 2)
    ∷ at 12 1 (row.Release 4)
    ∷ at 12 1 (row.Run 4)
    ∷ at 13 0 (row.Stop 2 why.Spent 3 (Some 17))
    ∷ at 13 0 (row.Run 1)
    ∷ at 13 1 (row.Stop 4 why.Spent 1 (Some 16))
    ∷ at 14 0 (row.Stop 1 why.Wait 1 None)
    ∷ at 16 1 (row.Release 4)
    ∷ at 16 1 (row.Run 4)
    ∷ at 17 0 (row.Release 2)
    ∷ at 17 0 (row.Run 2)
    ∷ at 17 1 (row.Stop 4 why.Spent 1 (Some 20))
    ∷ at 20 0 (row.Stop 2 why.Spent 3 (Some 24))
    ∷ at 20 1 (row.Release 4)
    ∷ at 20 1 (row.Run 4)
    ∷ at 21 1 (row.Signal 4 0 4)
    ∷ at 21 1 (row.Stop 4 why.Spent 1 (Some 24))
    ∷ at 22 0 (row.Arrive 0 4 1)
    ∷ at 22 0 (row.Hold 0 4)
    ∷ at 24 0 (row.Release 2)
    ∷ at 24 0 (row.Run 2)
    ∷ at 24 1 (row.Release 4)
    ∷ at 24 1 (row.Run 4)
    ∷ at 25 1 (row.Stop 4 why.Spent 1 (Some 28))
    ∷ at 26 0 (row.Signal 2 1 8)
    ∷ at 26 0 (row.Wake 1 1 8 None)
    ∷ at 27 0 (row.Stop 2 why.Spent 3 (Some 31))
    ∷ at 27 0 (row.Run 1)
    ∷ at 28 0 (row.Round 1 1 2)
    ∷ at 28 1 (row.Release 4)
    ∷ at 28 1 (row.Run 4)
    ∷ at 29 0 (row.Stop 1 why.Wait 2 None)
    ∷ at 29 1 (row.Stop 4 why.Spent 1 (Some 32))
    ∷ at 31 0 (row.Release 2)
    ∷ at 31 0 (row.Run 2)
    ∷ at 32 1 (row.Release 4)
    ∷ at 32 1 (row.Run 4)
    ∷ at 33 1 (row.Signal 4 2 7)
    ∷ at 33 1 (row.Wake 3 2 7 None)
    ∷ at 33 1 (row.Round 4 1 29)
    ∷ at 33 1 (row.Stop 4 why.Spent 1 (Some 36))
    ∷ at 33 1 (row.Run 3)
    ∷ at 34 0 (row.Stop 2 why.Spent 3 (Some 38))
    ∷ at 36 1 (row.Release 4)
    ∷ at 38 0 (row.Release 2)
    ∷ at 38 0 (row.Run 2)
    ∷ at 38 1 (row.Stop 3 why.Wait 5 None)
    ∷ at 38 1 (row.Run 4)
    ∷ at 39 1 (row.Stop 4 why.Spent 1 (Some 40))
    ∷ at 40 1 (row.Release 4)
    ∷ at 40 1 (row.Run 4)
    ∷ at 41 0 (row.Stop 2 why.Spent 3 (Some 45))
    ∷ at 41 1 (row.Stop 4 why.Spent 1 (Some 44))
    ∷ at 44 1 (row.Release 4)
    ∷ at 44 1 (row.Run 4)
    ∷ at 45 0 (row.Release 2)
    ∷ at 45 0 (row.Run 2)
    ∷ at 45 1 (row.Stop 4 why.Spent 1 (Some 48))
    ∷ at 48 0 (row.Stop 2 why.Spent 3 (Some 52))
    ∷ at 48 1 (row.Release 4)
    ∷ at 48 1 (row.Run 4)
    ∷ at 49 1 (row.Stop 4 why.Spent 1 (Some 52))
    ∷ []

random_several_30 : schedule random_several_30_system 50 ≡ random_several_30_rows
random_several_30 = refl
