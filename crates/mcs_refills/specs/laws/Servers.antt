-- Properties that each call keeps for a server, and the minimum at its head.
use Rattle.std.specs.Prelude.{ℕ, ◌<◌, ◌≤◌, length}
use Rattle.mcs_refills.specs.Server.{Server, new_server, server_charged, server_unblocked, server_reconfigured, refills_of, head_amount}
use Rattle.mcs_refills.specs.laws.Spacing.{AreKept}

-- a server in good order with this budget: its dates are kept, and it has at most `max_refills`
-- refills
pub record IsServer (budget : ℕ) (server : Server) : Type 0 where
  pub kept : AreKept budget server.period server.dates
  pub few : length (refills_of server.dates) ≤ server.max_refills

-- a new server is in good order; a charge and unblocking keep it so; an order makes it so with the
-- new budget and period
abbrev pub ServersAreKept : Type 0
ServersAreKept =
    ((at budget period max_refills room : ℕ) → budget ≤ period → 1 ≤ max_refills
    → IsServer budget (new_server at budget period max_refills room))
    × ((k min_budget budget : ℕ) (server : Server) → IsServer budget server → 1 ≤ k → k ≤ head_amount server.dates
    → IsServer budget (server_charged k min_budget server))
    × ((t budget : ℕ) (server : Server) → IsServer budget server → IsServer budget (server_unblocked t server))
    × ((t budget period max_refills : ℕ) (server : Server) → budget ≤ period → 2 ≤ max_refills
    → IsServer budget (server_reconfigured t budget period max_refills server))

-- the head has at least `min_budget` if the budget has: after a charge, and after unblocking or an
-- order if it had before
abbrev pub HeadsHaveEnough : Type 0
HeadsHaveEnough =
    (min_budget budget : ℕ) (server : Server) → IsServer budget server →
    ((k : ℕ) → 1 ≤ k → min_budget ≤ budget → min_budget ≤ head_amount (server_charged k min_budget server).dates)
    × ((t : ℕ) → min_budget ≤ head_amount server.dates → min_budget ≤ head_amount (server_unblocked t server).dates)
    × ((t next period max_refills : ℕ) → next < period → min_budget ≤ next → min_budget ≤ head_amount server.dates →
    min_budget ≤ head_amount (server_reconfigured t next period max_refills server).dates)
