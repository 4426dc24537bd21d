-- The steps of servers that are read are those of their cores.
use Rattle.std.proofs.Common.{◌≡◌, ℕ, suc, ◌-◌, List, [], ◌∷◌, ◌++◌, length, map, None, arith}
use Rattle.std.proofs.lemmas.List.Elements.{All-nil}
use Rattle.toml.specs.Data.{Data, Items, Members}
use Rattle.mcs_system.specs.declared.part.NotePart.{NotePart}
use Rattle.mcs_load.specs.declared.at.At.{At}
use Rattle.mcs_load.specs.declared.server.Server.{Server}
use Rattle.mcs_load.specs.declared.spot.Key.TheVariants as key
use Rattle.mcs_load.specs.declared.spot.Section.TheVariants as section
use Rattle.mcs_load.specs.Checks.{first_failed}
use Rattle.mcs_load.specs.Words.{only_keys, new_name, whole_number, row, row_table, each}
use Rattle.mcs_load.specs.Script.{server_script}
use Rattle.mcs_load.specs.Walk.{server}
use Rattle.mcs_load.specs.stored.Ready.{AreSteps, AreReady}
use Rattle.mcs_load.proofs.Calls.{ready_more}
use Rattle.mcs_load.proofs.Passed.{both_passed, each_keeps}
use Rattle.mcs_load.proofs.Scripts.{server_script_passed}

module _ (notes : List NotePart) (cores : ℕ) where
  server_ready : (at : At) (earlier : List Server) (members : Members) → AreReady notes earlier → first_failed (server notes cores at earlier members).tests ≡ None
      → AreReady notes (earlier ++ (server notes cores at earlier members).value ∷ [])
  unfolding server
  server_ready at earlier members ready h =
      let before = map (λ (n : NotePart). n.name) notes ++ map (λ (s : Server). s.name) earlier in
      let core_is = whole_number at key.Core 0 (cores - 1) members in
      let priority_is = whole_number at key.Priority 0 255 members in
      let keys = both_passed (only_keys at (key.Name ∷ key.Core ∷ key.Priority ∷ key.Script ∷ []) members).tests _ h in
      let name = both_passed (new_name at before members).tests _ keys.1 in
      let core = both_passed core_is.tests _ name.1 in
      let priority = both_passed priority_is.tests _ core.1 in
      let last = both_passed (server_script notes earlier core_is.value priority_is.value at members).tests [] priority.1 in
      ready_more notes earlier (server notes cores at earlier members).value ready (server_script_passed notes earlier core_is.value priority_is.value at members ready last.0)

  next_ready : (earlier : List Server) (d : Data) → AreReady notes earlier → first_failed (row section.Server (server notes cores) earlier d).tests ≡ None
      → AreReady notes (earlier ++ (row section.Server (server notes cores) earlier d).value ∷ [])
  next_ready earlier d ready h =
      let at : At = record { section = section.Server; row = suc (length earlier) } in
      server_ready at earlier (row_table at d).value ready (both_passed (row_table at d).tests _ h).1

  pub rows_ready : (values : Items) → first_failed (each (row section.Server (server notes cores)) [] values).tests ≡ None
      → AreReady notes (each (row section.Server (server notes cores)) [] values).value
  rows_ready values h = each_keeps (row section.Server (server notes cores)) (AreReady notes) next_ready values [] (All-nil (λ (s : Server). AreSteps notes [] s.core s.steps)) h
