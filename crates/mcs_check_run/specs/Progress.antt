-- How often the progress is reported.
use Rattle.std.specs.Prelude.{ℕ, ◌+◌, nat_lt, if◌then◌else◌}

-- the rows since the last report, with one more: there is a report after every 4,096 rows
abbrev pub unreported : ℕ → ℕ
unreported rows = if nat_lt (rows + 1) 4096 then rows + 1 else 0
