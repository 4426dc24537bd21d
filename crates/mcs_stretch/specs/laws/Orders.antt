-- Cores that take their turns one by one in some order, each with its own state and box.
use Rattle.std.specs.Prelude.{◌≡◌, ℕ, suc, ◌<◌, List, [], ◌∷◌, ◌++◌, ◌==◌, if◌then◌else◌, filter, map, replicate, slice_index, slice_set}
use Rattle.std.specs.List.{range_with_len}
use Rattle.mcs_ticks.specs.declared.row.Row.{Row}
use Rattle.mcs_mail.specs.declared.mail.Mail.{Mail}
use Rattle.mcs_mail.specs.Box.{put_all}
use Rattle.mcs_merge.specs.Merge.{merged}
use Rattle.mcs_system.specs.System.{System}
use Rattle.mcs_core.specs.Core.{Core, opening_core}
use Rattle.mcs_core.specs.Clock.{world, core_shown, schedule}
use Rattle.mcs_core.specs.Run.{Ran, ran}
use Rattle.mcs_stretch.specs.Inbox.{inbox, is_home}
use Rattle.mcs_stretch.specs.Stretch.{rows_between}
use Rattle.mcs_stretch.specs.ByScripts.{IsSafeByScripts, clocks_after}

-- the clocks, and for each core its state, its box and the rows that it made
pub record Apart : Type 0 where
  pub clocks : List ℕ
  pub states : ℕ → Core
  pub boxes : ℕ → List Mail
  pub rows : ℕ → List Row

-- x at number c, and f at the others
abbrev pub with_at : {A : Type 0} → ℕ → A → (ℕ → A) → ℕ → A
with_at c x f b = if b == c then x else f b

module _ (system : System) where
  abbrev pub opening_apart : Apart
  opening_apart =
      record {
        clocks = replicate system.cores 0;
        states = opening_core system;
        boxes = λ c. [];
        rows = λ c. [];
      }

  -- the turn of core c at its clock, with the mail of its box
  abbrev pub turn_now : Apart → ℕ → Ran
  turn_now apart c = ran system c 1 (slice_index apart.clocks c) (apart.states c) (apart.boxes c)

  -- its signals are put into the boxes of their homes
  abbrev pub with_turn_of : Apart → ℕ → Ran → Apart
  with_turn_of apart c made =
      record {
        clocks = slice_set apart.clocks c (suc (slice_index apart.clocks c));
        states = with_at c made.core apart.states;
        boxes = λ b. put_all (filter (is_home system b) made.mails) (with_at c made.box apart.boxes b);
        rows = with_at c (apart.rows c ++ made.rows) apart.rows;
      }

  abbrev pub after_turns : Apart → List ℕ → Apart
  after_turns apart [] = apart
  after_turns apart (c ∷ cs) = after_turns (with_turn_of apart c (turn_now apart c)) cs

  -- core c is as the clock has it at the moment of the core's clock
  pub record IsAsTheClock (apart : Apart) (c : ℕ) : Type 0 where
    pub state_is : apart.states c ≡ core_shown system (world system (slice_index apart.clocks c)) c
    pub box_is : apart.boxes c ≡ inbox system c (slice_index apart.clocks c) apart.clocks
    pub rows_are : apart.rows c ≡ rows_between system c 0 (slice_index apart.clocks c)

  -- after turns in any order that is safe by the scripts each core is as the clock has it; once all
  -- cores have taken the turn at the horizon, their rows merge into the schedule
  abbrev pub OrdersGiveTheSchedule : Type 0
  OrdersGiveTheSchedule =
      (horizon : ℕ) (turns : List ℕ) → IsSafeByScripts system horizon (replicate system.cores 0) turns →
      let apart = after_turns opening_apart turns in
      (apart.clocks ≡ clocks_after (replicate system.cores 0) turns)
      × ((c : ℕ) → c < system.cores → IsAsTheClock apart c)
      × (((c : ℕ) → c < system.cores → slice_index apart.clocks c ≡ suc horizon) →
      merged (map apart.rows (range_with_len 0 system.cores)) ≡ schedule system horizon)
