-- The parts read before the threads, with the names that later rows use.
use Rattle.std.specs.Prelude.{◌≡◌, ◌≤◌, length, map}
use Rattle.mcs_load.specs.declared.file.Start.{Start}
use Rattle.mcs_load.specs.Walk.{Base}
use Rattle.mcs_load.specs.stored.Ready.{AreReady}

abbrev pub base_view : Start → Base
base_view start = record {
  top = start.top;
  links = start.links.items;
  contexts = start.contexts.items;
  notes = start.notes.items;
  servers = start.servers.items;
}

pub record HasNames (start : Start) : Type 0 where
  pub cores : (1 ≤ start.top.cores) × (start.top.cores ≤ 64)
  pub contexts : start.context_names ≡ map (λ c. c.name) start.contexts.items
  pub notes : start.note_names ≡ map (λ n. n.name) start.notes.items
  pub servers : start.server_names ≡ map (λ s. s.name) start.servers.items
  pub ready : AreReady start.notes.items start.servers.items
  pub few : (length start.notes.items ≤ 4096) × (length start.servers.items ≤ 4096)
