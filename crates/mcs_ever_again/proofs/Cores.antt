-- A core that is later in each part is later.
use Rattle.std.proofs.Common.{◌≡◌, List, map, Option}
use Rattle.mcs_ticks.specs.declared.queue.Queued.{Queued}
use Rattle.mcs_control.specs.Context.{Context}
use Rattle.mcs_notify.specs.Note.{Note}
use Rattle.mcs_release.specs.declared.dated.Dated.{Dated}
use Rattle.mcs_core.specs.declared.standing.Thread.{Thread}
use Rattle.mcs_core.specs.declared.standing.Chosen.{Chosen}
use Rattle.mcs_core.specs.Core.{Core}
use Rattle.mcs_ever.specs.Later.{Shift, later_core, later_dated, later_threads, later_contexts}

core-of-parts : (a b : Option Chosen) (c d : List Thread) (e f : List Queued) (g h : List Dated) (i j : List (Option Context)) (k l : List Note) →
    a ≡ b → c ≡ d → e ≡ f → g ≡ h → i ≡ j → k ≡ l →
    let one : Core = record { running = a; threads = c; ready = e; releases = g; contexts = i; notes = k } in
    let other : Core = record { running = b; threads = d; ready = f; releases = h; contexts = j; notes = l } in one ≡ other
core-of-parts a b c d e f g h i j k l running threads ready releases contexts notes = cc

pub later-by-parts : (shift : Shift) (before after : Core) →
    after.running ≡ before.running →
    after.threads ≡ later_threads shift.threads shift.rounds 0 before.threads →
    after.ready ≡ before.ready →
    after.releases ≡ map (later_dated shift.by) before.releases →
    after.contexts ≡ later_contexts shift.contexts 0 before.contexts →
    after.notes ≡ before.notes →
    after ≡ later_core shift before
later-by-parts shift before after running threads ready releases contexts notes =
    core-of-parts _ _ _ _ _ _ _ _ _ _ _ _ running threads ready releases contexts notes
