-- The longest wait found by a sink that was given rows in order.
use Rattle.std.proofs.Common.{◌≡◌, max, Bool, true, List, [], ◌∷◌, map, fold, refl, subst}
use Rattle.mcs_ticks.specs.declared.row.Row.{Row}
use Rattle.mcs_ticks.specs.Given.{Given}
use Rattle.example_longest_wait.specs.Waits.{wait_after}
use Rattle.example_longest_wait.specs.declared.sink.LongestWait.{LongestWait}

-- how a row changes the sink
abbrev pub Counts : LongestWait → Row → Bool → LongestWait → Type 0
Counts before row taken after =
    (taken ≡ true) × (after.thread ≡ before.thread) × (after.longest ≡ max before.longest (wait_after before.thread row))

-- the maximum wait of the rows and of those before them
pub counted : (s t : LongestWait) (rows : List Row) → Given Counts s rows t →
    t.longest ≡ fold max s.longest (map (wait_after s.thread) rows)
counted s t [] given = subst (λ a. a.longest ≡ s.longest) given refl
counted s t (row ∷ rows) given =
    let step = given.1 in
    subst (λ most. t.longest ≡ fold max most (map (wait_after s.thread) rows)) step.2
    (subst (λ thread. t.longest ≡ fold max given.0.longest (map (wait_after thread) rows)) step.1
    (counted given.0 t rows given.2))
