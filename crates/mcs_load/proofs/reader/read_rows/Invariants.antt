use Rattle.std.proofs.Common.{◌≡◌, ◌≤◌, [], length, drop, vec_capacity}
use Rattle.toml.specs.View.{items_view}
use Rattle.mcs_load.specs.Checks.{first_failed}
use Rattle.mcs_load.specs.Words.{row, each}
use Rattle.mcs_load.proofs.reader.read_rows.Given as goal

abbrev pub invariant-loop-i : goal.invariant-loop-i
invariant-loop-i g l =
    let step = row l.section (g.R.RowReader.reads l.initial.reader) in
    let rest = each step l.parts.items (items_view (drop l.i l.rows)) in
    let all = each step [] (items_view l.rows) in
    record {
      tests : first_failed rest.tests ≡ first_failed all.tests;
      value : rest.value ≡ all.value;
      same : g.R.RowReader.reads l.reader ≡ g.R.RowReader.reads l.initial.reader;
      keeps : g.R.RowReader.keeps l.reader l.parts.items;
      count : length l.parts.items ≡ l.i;
      room : length l.rows ≤ vec_capacity l.parts;
    }
