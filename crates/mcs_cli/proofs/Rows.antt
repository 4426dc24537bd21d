-- A target's bytes, and those that wait, after rows were given to the sink that writes their lines.
use Rattle.std.proofs.Common.{◌≡◌, ◌∙◌, ◌++◌, ℕ, Bool, true, List, [], Option, Result, Err, IfErr, refl, ap, sym, subst}
use Rattle.mcs_ticks.specs.declared.row.Row.{Row}
use Rattle.mcs_system.specs.System.{System}
use Rattle.mcs_core.specs.Clock.{schedule}
use Rattle.mcs_text.specs.Text.{row_text, schedule_text}
use Rattle.mcs_ticks.specs.Given.{Given, GivenUntil, GivenSome}
use Rattle.mcs_cli.specs.Devices.{AppendsPrefix}
use Rattle.mcs_cli.specs.Flow.{AppendsBefore, TakesLine}
use Rattle.mcs_cli.specs.Lines.{PutsRow}
use Rattle.mcs_cli.specs.declared.sink.Lines.{Lines}
use Rattle.mcs_cli.proofs.Flow.{given_streams, until_streams, some_streams, until_ends}

pub at-last : {W V : Type 0} (P : W → V → Type 0) (a b : W) (s t : V) → b ≡ a → t ≡ s → P a s → P b t
at-last P a b s t e f p = subst (λ w. P w t) (sym e) (subst (P a) (sym f) p)

pub at-target : {W : Type 0} (P : W → Type 0) (a b : W) → b ≡ a → P a → P b
at-target P a b e p = subst P (sym e) p

pub err-is : {T E : Type 0} (P : E → Type 0) (r : Result T E) (e : E) → r ≡ Err e → IfErr r P → P e
err-is P r e is p = subst (λ r. IfErr r P) is p

-- a target's bytes and whether it has failed
module _ {W : Type 0} (contents : W → Option (List ℕ)) (failed : W → Bool) where
  -- if a row is refused, the target has failed
  pub lines_fail : (s t : Lines W) (rows : List Row) → GivenUntil (PutsRow contents failed) s rows t → failed t.target.now ≡ true
  lines_fail s t rows given = until_ends (PutsRow contents failed) (λ l. failed l.target.now ≡ true) (λ s t row takes. takes.4 refl) s t rows given

  -- before the first row and after some
  module _ (first : Lines W) where
    -- the sink is still over the same target and text
    pub record IsStill (l : Lines W) : Type 0 where
      pub target_is : l.target.ghost_name ≡ first.target.ghost_name
      pub page_is : l.page.ghost_name ≡ first.page.ghost_name
      pub names_is : l.names ≡ first.names

    still : IsStill first
    still = record { target_is = refl; page_is = refl; names_is = refl }

    abbrev IsWorking : Lines W → Type 0
    IsWorking l = failed l.target.now ≡ failed first.target.now

    step : (s t : Lines W) (row : Row) (taken : Bool) → IsStill s → PutsRow contents failed s row taken t →
        IsStill t × (taken ≡ true → IsWorking s → IsWorking t)
        × TakesLine (contents s.target.now) (contents t.target.now) s.page.now t.page.now (row_text first.names.now row) taken
    step s t row taken is takes =
        let e : s.names.now ≡ first.names.now = ap (λ b. b.now) is.names_is in (
          record {
            target_is = takes.0 ∙ is.target_is;
            page_is = takes.1 ∙ is.page_is;
            names_is = takes.2 ∙ is.names_is;
          },
          λ so working. takes.3 so ∙ working,
          subst (λ system. TakesLine (contents s.target.now) (contents t.target.now) s.page.now t.page.now (row_text system row) taken) e takes.5,
        )

    -- the text is empty at first, and the rows are those of the system's schedule
    module _ (last : Lines W) (system shared : System) (horizon : ℕ) (target : W)
        (empty : first.page.now ≡ []) (system_is : first.names.now ≡ system) (shared_is : shared ≡ system)
        (target_is : first.target.now ≡ target) where
      abbrev pub output : List ℕ
      output = schedule_text system (schedule system horizon)

      output-is : first.page.now ++ schedule_text first.names.now (schedule shared horizon) ≡ output
      output-is = rw (empty, system_is, shared_is) refl

      pub lines_given : Given (PutsRow contents failed) first (schedule shared horizon) last →
          IsStill last × (failed last.target.now ≡ failed target) × AppendsBefore (contents target) (contents last.target.now) output last.page.now
      lines_given given =
          let ended = given_streams (PutsRow contents failed) (λ l. contents l.target.now) (λ l. l.page.now) (row_text first.names.now) IsStill IsWorking step
          first last (schedule shared horizon) still refl given in
          let before : AppendsBefore (contents target) (contents last.target.now) (first.page.now ++ schedule_text first.names.now (schedule shared horizon)) last.page.now =
          rw (← target_is) ended.2 in
          (ended.0, ended.1 ∙ ap failed target_is, subst (λ xs. AppendsBefore (contents target) (contents last.target.now) xs last.page.now) output-is before)

      pub lines_some : GivenSome (PutsRow contents failed) first (schedule shared horizon) last →
          IsStill last × (failed last.target.now ≡ failed target) × AppendsPrefix (contents target) (contents last.target.now) output
      lines_some given =
          let ended = some_streams (PutsRow contents failed) (λ l. contents l.target.now) (λ l. l.page.now) (row_text first.names.now) IsStill IsWorking step
          first last (schedule shared horizon) still refl given in
          let before : AppendsPrefix (contents target) (contents last.target.now) (first.page.now ++ schedule_text first.names.now (schedule shared horizon)) =
          rw (← target_is) ended.2 in
          (ended.0, ended.1 ∙ ap failed target_is, subst (AppendsPrefix (contents target) (contents last.target.now)) output-is before)

      pub lines_until : GivenUntil (PutsRow contents failed) first (schedule shared horizon) last →
          IsStill last × AppendsPrefix (contents target) (contents last.target.now) output
      lines_until given =
          let ended = until_streams (PutsRow contents failed) (λ l. contents l.target.now) (λ l. l.page.now) (row_text first.names.now) IsStill IsWorking step
          first last (schedule shared horizon) still given in
          let before : AppendsPrefix (contents target) (contents last.target.now) (first.page.now ++ schedule_text first.names.now (schedule shared horizon)) =
          rw (← target_is) ended.1 in
          (ended.0, subst (AppendsPrefix (contents target) (contents last.target.now)) output-is before)
