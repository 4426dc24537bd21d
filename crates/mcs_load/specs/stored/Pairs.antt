-- The pairs of cores that have a link, as the reader of links marks them.
use Rattle.std.specs.Prelude.{◌≡◌, ℕ, ◌+◌, ◌*◌, ◌<◌, Bool, false, List, length, get_or}
use Rattle.mcs_system.specs.declared.part.Link.{Link}
use Rattle.mcs_load.specs.Walk.{is_linked}

pub record AreMarked (marks : List Bool) (links : List Link) : Type 0 where
  pub room : length marks ≡ 4096
  pub marked : (maker home : ℕ) → maker < 64 → home < 64 →
      get_or marks (maker * 64 + home) false ≡ is_linked links maker home
