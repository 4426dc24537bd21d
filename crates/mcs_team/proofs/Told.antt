-- The rows that a collector holds, as its core records more.
use Rattle.std.proofs.Common.{◌≡◌, ℕ, ◌≤◌, List, [], ◌++◌, sym, ap, ◌∙◌, subst, append-nil, arith}
use Rattle.mcs_ticks.specs.declared.row.Row.{Row}
use Rattle.mcs_system.specs.System.{System}
use Rattle.mcs_stretch.specs.Stretch.{rows_between}
use Rattle.mcs_stretch.proofs.Ranges.{rows-join}

module _ {S : Type 0} (holds : S → List Row → Type 0) where
  -- the rows of a core, behind those up to the first of its moments
  pub told-on : (system : System) (c core first from past : ℕ) (rows : List Row) (t u : S) → core ≡ c → from ≡ first →
      (start : ℕ) → start ≤ first → from ≤ past → rows ≡ rows_between system core from past →
      holds t (rows_between system c start first) → ((held : List Row) → holds t held → holds u (held ++ rows)) → holds u (rows_between system c start past)
  told-on system c core first from past rows t u k f start before after are h more =
      subst (holds u)
      (ap (λ xs. rows_between system c start first ++ xs)
      (are ∙ ap (λ n. rows_between system n from past) k ∙ ap (λ n. rows_between system c n past) f)
      ∙ rows-join system c start first past before (omega arith))
      (more (rows_between system c start first) h)

  -- a time in which the core makes no row
  pub told-silent : (system : System) (c start first past : ℕ) (t : S) → start ≤ first → first ≤ past → rows_between system c first past ≡ [] →
      holds t (rows_between system c start first) → holds t (rows_between system c start past)
  told-silent system c start first past t before after silent h =
      subst (holds t)
      (sym (append-nil (rows_between system c start first))
      ∙ ap (λ xs. rows_between system c start first ++ xs) (sym silent)
      ∙ rows-join system c start first past before after)
      h
