-- How far the clocks of the others allow a core to go.
use Rattle.std.proofs.Common.{◌≡◌, ◌≢◌, ℕ, ◌+◌, ◌<◌, ◌≤◌, List, sym, ap, ◌∙◌, arith}
use Rattle.std.specs.Prelude.{slice_index}
use Rattle.mcs_system.specs.System.{System, delay_between}
use Rattle.mcs_stretch.specs.Stretch.{NothingArrivesBefore}
use Rattle.mcs_stretch.proofs.Inboxes.{of_turn}

module _ (system : System) (c past : ℕ) (front : List ℕ) where
  -- a signal of another core is under way for its delay
  pub by-delays : ((b : ℕ) → b < system.cores → b ≢ c → past ≤ slice_index front b + delay_between system b c) → NothingArrivesBefore system c past front
  by-delays far b m mail known l i home =
      let made = of_turn system b m mail i in
      let other : b ≢ c = λ e. made.away (home ∙ sym e) in
      let arrives : mail.arrives ≡ m + delay_between system b c = made.arrives ∙ ap (λ h. m + delay_between system b h) home in
      let reach = far b known other in
      omega arith

  -- what is still to be made from later moments on is no more
  pub reached-later : (later : List ℕ) → ((b : ℕ) → b < system.cores → slice_index front b ≤ slice_index later b) → NothingArrivesBefore system c past front → NothingArrivesBefore system c past later
  reached-later later rises reached b m mail known from made home = reached b m mail known (let r = rises b known in omega arith) made home
