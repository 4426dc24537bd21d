use Rattle.std.proofs.Common.{◌≡◌, ◌+◌, ◌++◌, ◌≤◌, ◌^◌, ℕ, List, [], length, take, drop, sym, ap, subst, ◌∙◌, arith, rules}
use Rattle.std.specs.Arc.{arc_value}
use Rattle.std.specs.List.{AllByRecursion}
use Rattle.std.proofs.Math.Seq.{drop-append_seam, take-append_seam}
use Rattle.mcs_ticks.specs.declared.row.Row.{Row}
use Rattle.mcs_ticks.specs.declared.row.What.{What}
use Rattle.mcs_system.specs.System.{System}
use Rattle.mcs_ever_again.specs.Schedule.{whats}
use Rattle.mcs_verdict.specs.Findings.{UpTo, past_of}
use Rattle.mcs_ever_search.specs.Together.{Together, rows_at, rows_before}
use Rattle.mcs_ever_search.specs.Compared.{Compared}
use Rattle.mcs_ever_search.specs.stored.Seen.{IsOfRows}
use Rattle.mcs_ever_search.proofs.Keeping.{err-holds, lockstep-is, failed-kept, turned-kept}
use Rattle.mcs_ever_search.proofs.search.Search.turn.Goals as goal

pub turn-requires : goal.turn-requires
turn-requires c =
    let P : Compared → Type 0 = λ t. t.clock ≤ t.horizon in
    let Q : Together → Type 0 = λ t. t.clock ≤ t.horizon in
    subst Q (sym (lockstep-is c.self.inside c.self.invariant c.if-self.false)) (subst P (sym c.self.view_is) c.requires)

pub invariant_of-self : goal.invariant_of-self
invariant_of-self c = failed-kept c.self.inside c.self.invariant c.turn.new.self c.self.inside.seen

pub invariant_of-self-in_err-see_from : goal.invariant_of-self-in_err-see_from
invariant_of-self-in_err-see_from c = failed-kept c.self.inside c.self.invariant c.turn.new.self c.see_from.new.self

pub invariant_of-self-2 : goal.invariant_of-self-2
invariant_of-self-2 c =
    let a = c.self.inside in
    let s = arc_value a.system in
    let start = c.len-start.result in
    let many : start ≡ length c.args.rows.now.items = omega (arith, c.len-start.ensures, c.args.rows.now.ok.0) in
    let before = c.args.rows.now.items in
    let here = rows_at a.lockstep.system a.lockstep.clock in
    let made = drop start c.turn.new.rows.items in
    let made-is : made ≡ here =
    ap (λ (n : ℕ). drop n c.turn.new.rows.items) many ∙ ap (λ (rows : List Row). drop (length before) rows) c.in_ok-turn.ensures.rows
    ∙ drop-append_seam before here in
    let P : Compared → Type 0 = λ t. t.clock ≤ t.horizon in
    let S : System → Type 0 = λ s. (before : List Row) (since : List What) (t : ℕ) → IsOfRows s before since t a.seen → UpTo t (past_of [] before) → t ≤ 2 ^ 40 →
    AllByRecursion (λ (row : Row). row.moment ≡ t) made → IsOfRows s (before ++ made) (since ++ whats made) t c.see_from.new.self in
    turned-kept a c.self.invariant c.if-self.false (c.rows_tell_turns.ensures s c.self.invariant.well_formed) c.schedules_are_in_order.ensures c.unwrap-self-inside.result
    c.turn.new.self made c.see_from.new.self c.go_to.new.self (subst P (sym c.self.view_is) c.requires) (search rules) c.in_ok-turn.ensures.together
    c.in_ok-turn.ensures.schedule made-is (subst S c.deref.ensures c.in_ok-see_from.ensures.seen) c.go_to.ensures

pub returns-clause-rows : goal.returns-clause-rows
returns-clause-rows c =
    let before = c.args.rows.now.items in
    let P : Together → Type 0 = λ t. c.see_from.new.rows.items ≡ before ++ rows_at t.system t.clock in
    let Q : Compared → Type 0 = λ t. c.see_from.new.rows.items ≡ before ++ rows_at t.system t.clock in
    subst Q c.self.view_is (subst P (lockstep-is c.self.inside c.self.invariant c.if-self.false) (c.in_ok-see_from.ensures.rows ∙ c.in_ok-turn.ensures.rows))

pub returns-clause-schedule : goal.returns-clause-schedule
returns-clause-schedule c =
    let P : Together → Type 0 = λ t. rows_before t.system (t.clock + 1) ≡ rows_before t.system t.clock ++ rows_at t.system t.clock in
    let Q : Compared → Type 0 = λ t. rows_before t.system (t.clock + 1) ≡ rows_before t.system t.clock ++ rows_at t.system t.clock in
    subst Q c.self.view_is (subst P (lockstep-is c.self.inside c.self.invariant c.if-self.false) c.in_ok-turn.ensures.schedule)

pub returns-in_err-see_from-clause-refused : goal.returns-in_err-see_from-clause-refused
returns-in_err-see_from-clause-refused c =
    let before = c.args.rows.now.items in
    let here = rows_at c.self.inside.lockstep.system c.self.inside.lockstep.clock in
    let many : c.len-start.result ≡ length before = omega (arith, c.len-start.ensures, c.args.rows.now.ok.0) in
    err-holds c.from_residual-in_err-see_from.result
    (c.in_err-see_from.ensures.refused ∙ ap (λ (n : ℕ). take n c.turn.new.rows.items) many
    ∙ ap (λ (rows : List Row). take (length before) rows) c.in_ok-turn.ensures.rows ∙ take-append_seam before here)
