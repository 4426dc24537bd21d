-- The invariant of the type is kept.
use Rattle.std.proofs.Common.{◌≡◌, ◌≢◌, ℕ, ◌<◌, ◌≤◌, List, refl, subst, arith}
use Rattle.mcs_refills.specs.Server.{Server, new_server, server_charged, server_reconfigured, charged, with_enough}
use Rattle.mcs_refills.specs.Slice.{TimeSlice, full_slice, charged_slice, reconfigured_slice}
use Rattle.mcs_refills.proofs.Servers.{servers-kept}
use Rattle.mcs_control.specs.declared.config.Config.{Config}
use Rattle.mcs_control.specs.declared.config.Mode.{Mode}
use Rattle.mcs_control.specs.declared.context.Budget.{Budget}
use Rattle.mcs_control.specs.declared.context.Budget.TheVariants.{Sporadic, RoundRobin}
use Rattle.mcs_control.specs.Control.{IsConfig, kind_of}
use Rattle.mcs_control.specs.Context.{head_amount, max_refills_of}
use Rattle.mcs_control.specs.Context.Budget.{Dates}
use Rattle.mcs_control.specs.laws.Contexts.{IsContext}
use Rattle.mcs_control.specs.stored.Context.{held, unblocked, IsHeld}
use Rattle.mcs_control.proofs.Contexts.{contexts-kept}

pub new-slice : (config : Config) (mode : Mode) (room : ℕ) (slice : TimeSlice) → IsConfig config → config.budget ≡ config.period → slice ≡ full_slice config.budget → IsHeld config mode (RoundRobin slice) room
new-slice config mode room slice h e f = rw f (record { context = record { config = h; budget = (e, h.some, omega arith) }; configured = refl })

pub new-refills : (config : Config) (mode : Mode) (at room : ℕ) (server : Server) → IsConfig config → config.budget ≢ config.period → server ≡ new_server at config.budget config.period (max_refills_of config) room →
    IsHeld config mode (Sporadic server) room
new-refills config mode at room server h n e =
    let l : config.budget < config.period = omega (arith, h.within) in
    let i = servers-kept.0 at config.budget config.period (max_refills_of config) room h.within (omega arith) in
    rw e (record { context = record { config = h; budget = (l, i.kept, i.few) }; configured = (refl, refl, refl) })

pub charged-refills : (config : Config) (mode : Mode) (room k min_budget : ℕ) (server next : Server) → next ≡ server_charged k min_budget server → 1 ≤ k → k ≤ head_amount (held config mode (Sporadic server)) → IsHeld config mode (Sporadic server) room →
    IsHeld config mode (Sporadic next) room
charged-refills config mode room k min_budget server next e p l h =
    let d : with_enough min_budget (charged k config.period (max_refills_of config) server.dates) ≡ next.dates =
    rw (e, ← h.configured.0, ← h.configured.1) refl in
    record {
      context = let P : List ℕ → Type 0 = λ dates. IsContext (record { config = config; mode = mode; budget = Dates dates }) in subst P d (contexts-kept.1 k min_budget (held config mode (Sporadic server)) h.context p l);
      configured = rw e h.configured;
    }

pub charged-slice : (config : Config) (mode : Mode) (room k min_budget : ℕ) (slice next : TimeSlice) → next ≡ charged_slice k slice → 1 ≤ k → k ≤ head_amount (held config mode (RoundRobin slice)) → IsHeld config mode (RoundRobin slice) room →
    IsHeld config mode (RoundRobin next) room
charged-slice config mode room k min_budget slice next e p l h =
    let i = contexts-kept.1 k min_budget (held config mode (RoundRobin slice)) h.context p l in
    rw e (record { context = rw h.configured i; configured = h.configured })

pub unblocked-held : (config : Config) (mode : Mode) (room t : ℕ) (budget next : Budget) → next ≡ unblocked t budget → IsHeld config mode budget room → IsHeld config mode next room
unblocked-held config mode room t (Sporadic server) next e h = rw e (record { context = contexts-kept.2 t (held config mode (Sporadic server)) h.context; configured = h.configured })
unblocked-held config mode room t (RoundRobin slice) next e h = rw e h

module _ (next config : Config) (mode : Mode) (room t : ℕ) (n : IsConfig next) (s : kind_of next ≡ kind_of config) where
  pub ordered-refills : (server made : Server) → made ≡ server_reconfigured t next.budget next.period (max_refills_of next) server → IsHeld config mode (Sporadic server) room → IsHeld next mode (Sporadic made) room
  ordered-refills server made e h =
      rw e (record { context = contexts-kept.5 t next (held config mode (Sporadic server)) h.context n s; configured = (refl, refl, h.configured.2) })

  pub ordered-slice : (slice made : TimeSlice) → made ≡ reconfigured_slice next.budget slice → IsHeld config mode (RoundRobin slice) room → IsHeld next mode (RoundRobin made) room
  ordered-slice slice made e h = rw e (record { context = contexts-kept.5 t next (held config mode (RoundRobin slice)) h.context n s; configured = refl })
