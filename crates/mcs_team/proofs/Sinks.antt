-- The rows given to a sink that keeps them, and to one that counts those which another one takes.
use Rattle.std.proofs.Common.{◌≡◌, ℕ, Bool, true, List, [], ◌∷◌, ◌++◌, inl, inr, refl, sym, ap, ◌∙◌, subst, append-nil}
use Rattle.std.specs.Prelude.{fold}
use Rattle.std.proofs.lemmas.List.{append_assoc}
use Rattle.mcs_ticks.specs.declared.row.Row.{Row}
use Rattle.mcs_report.specs.Tally.{added}
use Rattle.mcs_system.specs.System.{System}
use Rattle.mcs_ticks.specs.Given.{Given, GivenUntil, GivenSome}
use Rattle.mcs_team.specs.Flow.{IsFlowFault}
use Rattle.mcs_team.specs.declared.to_sink.Counted.{Counted}
use Rattle.mcs_ticks.specs.declared.sink.FlowFault.{FlowFault}
use Rattle.mcs_ticks.specs.declared.sink.FlowFault.TheVariants as fault
use Rattle.mcs_team.specs.declared.whole.Kept.{Kept}

-- each row is appended to those that it had
abbrev Keeps : Kept → Row → Bool → Kept → Type 0
Keeps before row taken after = taken ≡ true → after.rows.items ≡ before.rows.items ++ row ∷ []

pub keeps : (s t : Kept) (rows : List Row) → Given Keeps s rows t → t.rows.items ≡ s.rows.items ++ rows
keeps s t [] g = ap (λ (k : Kept). k.rows.items) (sym g) ∙ sym (append-nil s.rows.items)
keeps s t (row ∷ rows) g =
    keeps g.0 t rows g.2 ∙ ap (λ xs. xs ++ rows) (g.1 refl) ∙ append_assoc s.rows.items (row ∷ []) rows

-- the state of a sink at the end
pub at-sink : {W : Type 0} (P : W → Type 0) (a b : W) → b ≡ a → P a → P b
at-sink P a b e p = subst P (sym e) p

-- the other sink and the tally stay the same ones
abbrev pub IsOver : {S : Type 0} → Counted S → Counted S → Type 0
IsOver first last = (last.sink.ghost_name ≡ first.sink.ghost_name) × (last.tally.ghost_name ≡ first.tally.ghost_name)

module _ {S : Type 0} (takes : S → Row → Bool → S → Type 0) where
  -- each row goes to the other sink, and is counted if that takes it
  abbrev Counts : Counted S → Row → Bool → Counted S → Type 0
  Counts before row taken after =
      (after.sink.ghost_name ≡ before.sink.ghost_name)
      × (after.tally.ghost_name ≡ before.tally.ghost_name)
      × takes before.sink.now row taken after.sink.now
      × (taken ≡ true → after.tally.now ≡ added before.tally.now row)

  pub counted-given : (s t : Counted S) (rows : List Row) → Given Counts s rows t →
      IsOver s t × Given takes s.sink.now rows t.sink.now × (t.tally.now ≡ fold added s.tally.now rows)
  counted-given s t [] g = (
    (ap (λ (c : Counted S). c.sink.ghost_name) (sym g), ap (λ (c : Counted S). c.tally.ghost_name) (sym g)),
    ap (λ (c : Counted S). c.sink.now) g,
    ap (λ (c : Counted S). c.tally.now) (sym g),
  )
  counted-given s t (row ∷ rows) g =
      let rest = counted-given g.0 t rows g.2 in (
        (rest.0.0 ∙ g.1.0, rest.0.1 ∙ g.1.1),
        (g.0.sink.now, g.1.2, rest.1),
        rest.2 ∙ ap (λ tally. fold added tally rows) (g.1.3 refl),
      )

  counted-until : (s t : Counted S) (rows : List Row) → GivenUntil Counts s rows t → IsOver s t × GivenUntil takes s.sink.now rows t.sink.now
  counted-until s t [] g = absurd g
  counted-until s t (row ∷ rows) (inl refused) = ((refused.0, refused.1), inl refused.2)
  counted-until s t (row ∷ rows) (inr g) =
      let rest = counted-until g.0 t rows g.2 in ((rest.0.0 ∙ g.1.0, rest.0.1 ∙ g.1.1), inr (g.0.sink.now, g.1.2, rest.1))

  counted-some : (s t : Counted S) (rows : List Row) → GivenSome Counts s rows t → IsOver s t × GivenSome takes s.sink.now rows t.sink.now
  counted-some s t rows g = let given = counted-given s t g.0 g.3 in (given.0, (g.0, g.1, g.2, given.1))

  pub counted-fault : (system : System) (horizon : ℕ) (s t : Counted S) (why : FlowFault) → IsFlowFault Counts system horizon s t why →
      IsOver s t × IsFlowFault takes system horizon s.sink.now t.sink.now why
  counted-fault system horizon s t fault.Sink h = counted-until s t _ h
  counted-fault system horizon s t fault.NoMemory h = counted-some s t _ h
