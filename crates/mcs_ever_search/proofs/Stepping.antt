-- One step of a search: it may keep the moment, takes the turns, and idle time passes.
use Rattle.std.proofs.Common.{◌≡◌, ℕ, ◌+◌, ◌≤◌, ◌⊎◌, inl, inr, true, false, List, Result, Ok, Err, IfOk, OnErr, ◌++◌, refl, sym, ap, subst, ◌∙◌, arith}
use Rattle.mcs_ticks.specs.declared.memory.NoMemory.{NoMemory}
use Rattle.mcs_ticks.specs.declared.row.Row.{Row}
use Rattle.mcs_ever_search.specs.Together.{rows_at, rows_before}
use Rattle.mcs_ever_search.specs.Compared.{Compared, at_moment, with_kept}
use Rattle.mcs_ever_search.specs.Sampling.{StandsOn, GoesOn}

pub stands-here : (compared : Compared) → StandsOn compared compared
stands-here compared = record { same = refl; later = omega arith; rows = refl }

pub stands-later : (compared after : Compared) (moment : ℕ) → compared.clock ≤ moment → after ≡ at_moment compared moment →
    rows_before compared.system moment ≡ rows_before compared.system compared.clock → StandsOn compared after
stands-later compared after moment later at rows =
    let P : Compared → Type 0 = λ after. StandsOn compared after in
    subst P (sym at) (record { same = refl; later = later; rows = rows })

pub stands-skipped : (compared after : Compared) (r : Result ℕ NoMemory) → IfOk r (λ moment. compared.clock ≤ moment) →
    IfOk r (λ moment. after ≡ at_moment compared moment) →
    IfOk r (λ moment. rows_before compared.system moment ≡ rows_before compared.system compared.clock) →
    OnErr r ((compared.failed ≡ true) × (after ≡ compared)) → StandsOn compared after
stands-skipped compared after (Ok moment) later at rows refused = stands-later compared after moment later at rows
stands-skipped compared after (Err e) later at rows refused =
    let P : Compared → Type 0 = λ after. StandsOn compared after in
    subst P (sym refused.1) (stands-here compared)

-- a kept moment leaves the clock in time
pub in-time : (before kept : Compared) → (kept ≡ before) ⊎ (kept ≡ with_kept before) → before.clock ≤ before.horizon → kept.clock ≤ kept.horizon
in-time before kept which l =
    let P : Compared → Type 0 = λ compared. compared.clock ≤ compared.horizon in
    elim which [ inl e ↦ subst P (sym e) l | inr e ↦ subst P (sym e) l ]

-- a kept moment does not change which rows there are
module _ (before kept turned after : Compared) (old new : List Row) where
  goes : (k : ℕ) → kept ≡ record before { kept = k } → (k ≡ before.kept) ⊎ (k ≡ before.clock) → kept.failed ≡ false → turned ≡ at_moment kept (kept.clock + 1) →
      new ≡ old ++ rows_at kept.system kept.clock →
      rows_before kept.system (kept.clock + 1) ≡ rows_before kept.system kept.clock ++ rows_at kept.system kept.clock →
      StandsOn turned after → GoesOn before after old new
  goes k is which going at rows schedule on =
      let P : Compared → Type 0 = λ x. new ≡ old ++ rows_at x.system x.clock in
      let Q : Compared → Type 0 = λ x. rows_before x.system (x.clock + 1) ≡ rows_before x.system x.clock ++ rows_at x.system x.clock in
      let turned-is : turned ≡ record before { kept = k; clock = before.clock + 1 } = at ∙ ap (λ (x : Compared). at_moment x (x.clock + 1)) is in
      let after-is : after ≡ record before { kept = k; clock = after.clock } = on.same ∙ ap (λ (x : Compared). at_moment x after.clock) turned-is in
      let R : Compared → Type 0 = λ x. rows_before x.system after.clock ≡ rows_before x.system x.clock in
      let from : turned.clock ≡ before.clock + 1 = ap (λ (x : Compared). x.clock) turned-is in
      let kept-is : after.kept ≡ k = ap (λ (x : Compared). x.kept) after-is in
      record {
        system = ap (λ (x : Compared). x.system) after-is;
        horizon = ap (λ (x : Compared). x.horizon) after-is;
        going = ap (λ (x : Compared). x.failed) after-is ∙ sym (ap (λ (x : Compared). x.failed) is) ∙ going;
        later = (let l = on.later in omega (arith, l, from));
        kept = elim which [ inl e ↦ inl (kept-is ∙ e) | inr e ↦ inr (kept-is ∙ e) ];
        rows = subst P is rows;
        schedule = subst R turned-is on.rows ∙ subst Q is schedule;
      }

  pub goes-on : (kept ≡ before) ⊎ (kept ≡ with_kept before) → kept.failed ≡ false → turned ≡ at_moment kept (kept.clock + 1) →
      new ≡ old ++ rows_at kept.system kept.clock →
      rows_before kept.system (kept.clock + 1) ≡ rows_before kept.system kept.clock ++ rows_at kept.system kept.clock →
      StandsOn turned after → GoesOn before after old new
  goes-on which going at rows schedule on =
      elim which [
        | inl e ↦ goes before.kept e (inl refl) going at rows schedule on
        | inr e ↦ goes before.clock e (inr refl) going at rows schedule on
      ]
