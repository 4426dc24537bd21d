-- Shares of a core in ppm.
use Rattle.std.specs.Prelude.{ℕ, ◌*◌, ◌/◌}
use Rattle.mcs_control.specs.declared.config.Config.{Config}
use Rattle.mcs_table.specs.declared.figures.Share.{Share}

-- a part of a whole, rounded down; 0 if the whole is 0
abbrev pub millionths : ℕ → ℕ → ℕ
millionths part whole = part * 1000000 / whole

-- the share of a context with this configuration, with `running` ticks before the horizon
abbrev pub share_of : Config → ℕ → ℕ → Share
share_of config horizon running =
    record {
      budget = config.budget;
      period = config.period;
      granted = millionths config.budget config.period;
      used = millionths running horizon;
    }
