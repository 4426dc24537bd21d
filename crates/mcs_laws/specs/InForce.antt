-- The configuration of a context that is in force at a moment.
use Rattle.std.specs.Prelude.{◌≡◌, ℕ, ◌<◌, ◌&&◌, nat_lt, List, [], ◌∷◌, filter, length}
use Rattle.mcs_control.specs.declared.config.Config.{Config}
use Rattle.mcs_control.specs.declared.config.Order.{Order}
use Rattle.mcs_control.specs.laws.Contexts.{IsContext}
use Rattle.mcs_system.specs.System.{System, context_part}
use Rattle.mcs_core.specs.Orders.{by_moment}
use Rattle.mcs_laws.specs.Histories.{is_order_for, context_before, IsUnordered, IsNeverReconfigured}

-- the configuration of the last order, or `config` if there is no order
abbrev pub last_config : Config → List Order → Config
last_config config [] = config
last_config config (order ∷ orders) = last_config order.config orders

module _ (system : System) where
  -- the orders for the context before moment t, by moment, and in file order within one moment
  abbrev pub orders_before : ℕ → ℕ → List Order
  orders_before context t =
      by_moment (filter (λ order. is_order_for context order && nat_lt order.moment t) system.orders)

  -- the configuration in force before moment t: that of the last of these orders, or else the
  -- file's
  abbrev pub config_in_force : ℕ → ℕ → Config
  config_in_force context t = last_config (context_part system context).config (orders_before context t)

  -- before moment t the context has the configuration in force, and is valid under it
  pub record HasTheBudgetInForce (context t : ℕ) : Type 0 where
    pub config : (context_before system context t).config ≡ config_in_force context t
    pub whole : IsContext (context_before system context t)

  abbrev pub ContextsHaveTheBudgetInForce : Type 0
  ContextsHaveTheBudgetInForce = (context t : ℕ) → context < length system.contexts → HasTheBudgetInForce context t

  -- if no order names the context, none comes at any moments, and the file's configuration stays in
  -- force
  abbrev pub FilesStayInForce : Type 0
  FilesStayInForce =
      (context from moments : ℕ) → context < length system.contexts → IsNeverReconfigured system context →
      IsUnordered system context from moments × (config_in_force context from ≡ (context_part system context).config)
