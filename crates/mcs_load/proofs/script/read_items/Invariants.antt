use Rattle.std.proofs.Common.{◌≡◌, length, drop}
use Rattle.toml.specs.View.{items_view}
use Rattle.mcs_load.specs.Checks.{first_failed}
use Rattle.mcs_load.specs.Script.{next_item, no_items_yet}
use Rattle.mcs_load.specs.Words.{each_from}
use Rattle.mcs_load.specs.stored.Reading.{reading_view}
use Rattle.mcs_load.proofs.script.read_items.Given as goal

abbrev pub invariant-loop-i : goal.invariant-loop-i
invariant-loop-i l =
    let step = next_item l.known.notes.now l.known.servers.now l.known.core l.known.priority l.known.is_new l.known.is_server l.at in
    let rest = each_from step (reading_view l.reading) (items_view (drop l.i l.values)) in
    let all = each_from step no_items_yet (items_view l.values) in
    record {
      tests : first_failed rest.tests ≡ first_failed all.tests;
      value : rest.value ≡ all.value;
      count : length l.reading.firsts.items ≡ l.i;
    }
