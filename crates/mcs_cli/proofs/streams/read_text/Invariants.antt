use Rattle.std.proofs.Common.{◌≡◌, ◌≤◌, ◌^◌, false, length}
use Rattle.std.specs.Io.KnownBytes.{Consumes}
use Rattle.mcs_cli.specs.Devices.{IsCounted}
use Rattle.mcs_cli.proofs.streams.read_text.Given as goal

abbrev pub invariant-loop : goal.invariant-loop
invariant-loop g l = record {
  read : Consumes (g.S.Source.remaining l.initial.source) (g.S.Source.remaining l.source) l.text.items;
  given : IsCounted (g.S.Source.given l.initial.source) (g.S.Source.given l.source) (length l.text.items);
  counted : l.counter ≤ length l.text.items;
  short : length l.text.items ≤ 2 ^ 26;
  working : g.S.Source.has_failed l.source ≡ false;
}
