use Rattle.std.proofs.Common.{List, subst}
use Rattle.mcs_system.specs.declared.part.NotePart.{NotePart}
use Rattle.mcs_load.specs.stored.Ready.{AreReady}
use Rattle.mcs_load.proofs.file.base.Goals as goal

pub returns-clause-names : goal.returns-clause-names
returns-clause-names c =
    let P : List NotePart → Type 0 = λ ns. AreReady ns c.in_ok-servers.servers.items in
    record {
      cores = c.in_ok-top.ensures.range;
      contexts = c.in_ok-contexts.ensures.kept;
      notes = c.in_ok-notes.ensures.kept;
      servers = c.in_ok-servers.ensures.kept;
      ready = subst P c.deref.ensures.value c.in_ok-servers.ensures.ready;
      few = (c.in_ok-notes.ensures.few, c.in_ok-servers.ensures.few);
    }
