use Rattle.std.proofs.Common.{◌≡◌, ℕ, ◌+◌, ◌^◌, ◌≤◌, List, [], ◌∷◌, ◌++◌, take, sym, ap, subst, ◌∙◌}
use Rattle.std.proofs.lemmas.List.{take_more, take_all}
use Rattle.mcs_ticks.specs.declared.row.Row.{Row}
use Rattle.mcs_ever_again.specs.Schedule.{whats}
use Rattle.mcs_ever_search.specs.stored.Seen.{IsOfRows}
use Rattle.mcs_ever_search.proofs.Seeing.{Sees, all-at, sees-none, sees-more}
use Rattle.mcs_ever_search.proofs.seen.Seen.see_all.Goals as goal

pub loop-row-init : goal.loop-row-init
loop-row-init c = λ before since t is up early all. sees-none c.args.system.now before since t c.args.self.now is up

pub loop-row-preserved : goal.loop-row-preserved
loop-row-preserved c = λ before since t is up early all.
    let rows = c.args.rows.now in
    let i = c.loop-row.row-index in
    let r = c.row-item.result in
    let P : Row → Type 0 = λ row. row.moment ≡ t in
    let at : r.moment ≡ t = subst P (sym c.row-item.is) (all-at P rows i r c.loop-row-test.true all) in
    let E : ℕ → Type 0 = λ t. t ≤ 2 ^ 40 in
    let more = sees-more c.args.system.now before since t (take i rows) r c.loop-row.self c.see.new.self (c.loop-row.invariant before since t is up early all) at
    (λ so so_far. c.in_ok-see.ensures (before ++ take i rows) (since ++ whats (take i rows)) so so_far (subst E (sym at) early)) in
    let next : take i rows ++ r ∷ [] ≡ take (i + 1) rows =
    ap (λ (x : Row). take i rows ++ x ∷ []) c.row-item.is ∙ sym (take_more rows i r c.loop-row-test.true) in
    let Q : List Row → Type 0 = λ rows. Sees c.args.system.now before since t rows c.see.new.self in
    subst Q next more

pub returns : goal.returns
returns c = λ before since t is up early all.
    let rows = c.args.rows.now in
    let P : List Row → Type 0 = λ rows. IsOfRows c.args.system.now (before ++ rows) (since ++ whats rows) t c.loop-row.self in
    subst P (take_all c.loop-row.row-index rows c.loop-row-test.false) (c.loop-row.invariant before since t is up early all).so_far
