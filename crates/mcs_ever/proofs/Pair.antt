-- A worked system of two cores; core 0 signals core 1. Core 0 may recur alone, and core 1 only
-- together with core 0.
use Rattle.std.proofs.Common.{◌≡◌, ℕ, zero, suc, ◌<◌, Bool, true, false, List, [], ◌∷◌, get_or, refl, Some, arith}
use Rattle.std.specs.List.{slice_get}
use Rattle.mcs_control.specs.declared.config.Mode.TheVariants.{Sporadic}
use Rattle.mcs_script.specs.declared.item.Item.TheVariants.{Compute, Signal, Wait}
use Rattle.mcs_system.specs.System.{System}
use Rattle.mcs_ever.specs.Recurs.{IsClosed}
use Rattle.mcs_ever.specs.Closed.{has, IsLeastClosed, AreLeastClosed}

abbrev pub pair : System
pair =
    record {
      cores = 2;
      delay = 1;
      call = 1;
      min_budget = 1;
      contexts = record { name = 99 ∷ []; core = 0; config = record { budget = 2; period = 4; extra = 0 }; mode = Sporadic }
          ∷ record { name = 100 ∷ []; core = 1; config = record { budget = 2; period = 4; extra = 0 }; mode = Sporadic } ∷ [];
      notes = record { name = 110 ∷ []; core = 1; word = 0 } ∷ [];
      threads = record { name = 83 ∷ []; context = 0; priority = 5; start = 0; rounds = 0; deadline = 0; script = Compute 1 ∷ Signal 0 1 ∷ [] }
          ∷ record { name = 87 ∷ []; context = 1; priority = 5; start = 0; rounds = 0; deadline = 0; script = Wait 0 ∷ Compute 1 ∷ [] } ∷ [];
      orders = [];
      links = [];
      servers = 0;
      sources = [];
      beats = [];
      chains = [];
    }

abbrev alone : List Bool
alone = true ∷ false ∷ []

abbrev with_maker : List Bool
with_maker = true ∷ true ∷ []

no : {P : Type 0} → false ≡ true → P
no e = absurd (never e)
  where
    never : false ≡ true → ⊥
    never e = cc

-- W signals nobody
waits : (place note badge : ℕ) → slice_get (Wait 0 ∷ Compute 1 ∷ []) place ≡ Some (Signal note badge) → ⊥
waits zero note badge e = cc
waits (suc zero) note badge e = cc
waits (suc (suc place)) note badge e = cc

alone-closed : IsClosed pair (has alone)
alone-closed zero place note badge known item own = refl
alone-closed (suc zero) place note badge known item own = absurd (waits place note badge item)
alone-closed (suc (suc thread)) place note badge known item own = refl

both-closed : IsClosed pair (has with_maker)
both-closed zero place note badge known item own = refl
both-closed (suc zero) place note badge known item own = refl
both-closed (suc (suc thread)) place note badge known item own = refl

alone-least : (other : ℕ → Bool) → other 0 ≡ true → (c : ℕ) → has alone c ≡ true → other c ≡ true
alone-least other own zero e = own
alone-least other own (suc zero) e = no e
alone-least other own (suc (suc c)) e = no e

both-least : (other : ℕ → Bool) → IsClosed pair other → other 1 ≡ true → (c : ℕ) → has with_maker c ≡ true → other c ≡ true
both-least other closed own zero e = closed 0 1 0 1 (omega arith) refl own
both-least other closed own (suc zero) e = own
both-least other closed own (suc (suc c)) e = no e

pub least : AreLeastClosed pair (alone ∷ with_maker ∷ [])
least = record { many = refl; each = each }
  where
    each : (core : ℕ) → core < 2 → IsLeastClosed pair core (has (get_or (alone ∷ with_maker ∷ []) core []))
    each zero known = record { own = refl; closed = alone-closed; least = λ other closed own c e. alone-least other own c e }
    each (suc zero) known = record { own = refl; closed = both-closed; least = both-least }
    each (suc (suc core)) known = absurd (omega (arith, known))
