-- Origins, later: each by the same number of ticks.
use Rattle.std.specs.Prelude.{ℕ, ◌+◌, List, map}
use Rattle.mcs_origins.specs.declared.mark.Mark.{Mark}

abbrev pub later_mark : ℕ → Mark → Mark
later_mark by mark = record mark { origin = mark.origin + by }

abbrev pub later_set : ℕ → List Mark → List Mark
later_set by set = map (later_mark by) set

abbrev pub later_origins : ℕ → List ℕ → List ℕ
later_origins by origins = map (λ origin. origin + by) origins
