-- The clock with the ready threads in one list makes what the clock with them by priority makes.
use Rattle.std.proofs.Common.{◌≡◌, ℕ, zero, suc, List, [], ◌∷◌, ◌++◌, map, refl, sym, ap, ◌∙◌}
use Rattle.std.specs.Prelude.{filter, fold, set, not}
use Rattle.std.specs.List.{range_with_len}
use Rattle.std.proofs.lemmas.List.{map-set}
use Rattle.std.proofs.Math.ListN.{get_or-map}
use Rattle.mcs_ticks.specs.Queue.{by_priority, in_one_list}
use Rattle.mcs_system.specs.System.{System}
use Rattle.mcs_core.specs.Core.{Core, opening_core}
use Rattle.mcs_core.specs.Turn as turns
use Rattle.mcs_core.specs.Turn.{Turn}
use Rattle.mcs_core.specs.Clock as clocks
use Rattle.mcs_core.specs.Clock.{Clock, shown}
use Rattle.mcs_core.proofs.Alike.{turn_shown, turn-alike, shown-runs}
use Rattle.mcs_laws.specs.Disciplines.{DisciplinesAgree, RunsAgree}

-- the clock
abbrev sorted_clock : Clock → Clock
sorted_clock clock = record { world = record { cores = map shown clock.world.cores; mails = clock.world.mails }; rows = clock.rows }

fold-alike : (f g : Clock → ℕ → Clock) → ((k : Clock) (c : ℕ) → sorted_clock (f k c) ≡ g (sorted_clock k) c) →
    (cs : List ℕ) (k : Clock) → sorted_clock (fold f k cs) ≡ fold g (sorted_clock k) cs
fold-alike f g h [] k = refl
fold-alike f g h (c ∷ cs) k = fold-alike f g h cs (f k c) ∙ ap (λ l. fold g l cs) (h k c)

module _ (system : System) where
  turn_at-alike : (t c : ℕ) (k : Clock) → turn_shown (clocks.turn_at_with in_one_list system t c k.world) ≡ clocks.turn_at_with by_priority system t c (sorted_clock k).world
  turn_at-alike t c k =
      turn-alike system c t (filter (clocks.arrives_at system t c) k.world.mails) (clocks.core_at system k.world c)
      ∙ ap (turns.turn_with by_priority system c t (filter (clocks.arrives_at system t c) k.world.mails))
      (sym (get_or-map shown k.world.cores c (opening_core system c)))

  takes_turn-alike : (t : ℕ) (k : Clock) (c : ℕ) → sorted_clock (clocks.takes_turn_with in_one_list system t k c) ≡ clocks.takes_turn_with by_priority system t (sorted_clock k) c
  takes_turn-alike t k c =
      let made = clocks.turn_at_with in_one_list system t c k.world in
      ap (λ cores. with_cores cores (turn_shown made)) (map-set shown k.world.cores c made.core)
      ∙ ap (λ (other : Turn). with_cores (set (map shown k.world.cores) c other.core) other) (turn_at-alike t c k)
    where
      with_cores : List Core → Turn → Clock
      with_cores cores made =
          record {
            world = record { cores = cores; mails = filter (λ mail. not (clocks.arrives_at system t c mail)) k.world.mails ++ made.mails };
            rows = k.rows ++ map (λ what. record { moment = t; core = c; what = what }) made.rows;
          }

  opening-alike : (cs : List ℕ) → map shown (map (opening_core system) cs) ≡ map (opening_core system) cs
  opening-alike [] = refl
  opening-alike (c ∷ cs) = ap (λ cores. opening_core system c ∷ cores) (opening-alike cs)

  clock-alike : (t : ℕ) → sorted_clock (clocks.clock_with in_one_list system t) ≡ clocks.clock_with by_priority system t
  clock-alike zero =
      ap (λ cores. record { world = record { cores = cores; mails = [] }; rows = [] }) (opening-alike (range_with_len 0 system.cores))
  clock-alike (suc t) =
      fold-alike _ _ (takes_turn-alike t) (range_with_len 0 system.cores) (clocks.clock_with in_one_list system t)
      ∙ ap (λ (k : Clock). clocks.takes_moment_with by_priority system t k) (clock-alike t)

-- the two disciplines agree on every system
pub disciplines-agree : (system : System) → DisciplinesAgree system
disciplines-agree system =
    record {
      rows = λ horizon. ap (λ (k : Clock). k.rows) (clock-alike system (suc horizon));
      signals = λ t. ap (λ (k : Clock). k.world.mails) (clock-alike system t);
      cores = λ t. ap (λ (k : Clock). k.world.cores) (clock-alike system t);
    }

-- and so do the turns of one core alone
pub runs-agree : RunsAgree
runs-agree system c n t core box = sym (shown-runs system c n t core box)
