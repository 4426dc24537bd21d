-- The packets that a limiter lets pass.
use Rattle.std.specs.Prelude.{ℕ, ◌<◌, ◌≤◌, if◌then◌else◌, List, [], ◌∷◌}
use Rattle.mcs_refills.specs.Server.{Server, new_server, is_ready, server_charged, server_unblocked}
use Rattle.mcs_refills.specs.laws.Spacing.{IsSpaced}

-- the limiter after a packet that passes at t: unblocked, and charged one tick
abbrev pub after_packet : ℕ → Server → Server
after_packet t limiter = server_charged 1 1 (server_unblocked t limiter)

-- the moments at which packets pass, among those at which they are offered
abbrev pub passed : List ℕ → Server → List ℕ
passed [] limiter = []
passed (t ∷ offers) limiter =
    if is_ready t limiter.dates then t ∷ passed offers (after_packet t limiter) else passed offers limiter

-- a packet that passes and the one that passes a whole budget later are at least a period apart
abbrev pub PacketsAreSpaced : Type 0
PacketsAreSpaced =
    (budget period : ℕ) (offers : List ℕ) → 1 ≤ budget → budget < period →
    IsSpaced budget period (passed offers (new_server 0 budget period 66 66))
