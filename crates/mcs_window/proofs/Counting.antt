-- How much lies on a desk.
use Rattle.std.proofs.Common.{◌≡◌, ℕ, suc, ◌+◌, ◌-◌, ◌<◌, ◌^◌, List, min, get_or, ap, ◌∙◌, arith}
use Rattle.std.specs.Prelude.{sum_by}
use Rattle.std.specs.List.{range_with_len}
use Rattle.std.specs.Arc.{arc_value}
use Rattle.mcs_ticks.specs.declared.row.Row.{Row}
use Rattle.mcs_window.specs.Desk.{Table, clock_of, taken_of}
use Rattle.mcs_stretch.specs.Stretch.{rows_between}
use Rattle.mcs_window.specs.stored.Slots.{table_of, IsKept}
use Rattle.mcs_window.specs.declared.desk.Desk.TheInside.{Inside}
use Rattle.mcs_window.proofs.Lending.{sum-more}

module _ (amount : List Row → ℕ) where
  -- what core c told
  abbrev pub kept_of : Table → ℕ → ℕ
  kept_of table c = amount (rows_between table.system c (taken_of table c) (clock_of table c))

  -- what the first cores told
  abbrev pub kept_by : Table → ℕ → ℕ
  kept_by table n = sum_by (kept_of table) (range_with_len 0 n)

  pub kept-more : (table : Table) (n so_far size next : ℕ) → so_far ≡ min (kept_by table n) (2 ^ 64 - 1) → size ≡ kept_of table n → next ≡ min (so_far + size) (2 ^ 64 - 1)
      → next ≡ min (kept_by table (n + 1)) (2 ^ 64 - 1)
  kept-more table n so_far size next e f g =
      let more : kept_by table (n + 1) ≡ kept_by table n + kept_of table n = ap (kept_by table) (let h : n + 1 ≡ suc n = omega arith in h) ∙ sum-more (kept_of table) n in
      omega (arith, more)

-- a collector's size is that of what its core told
pub size_at : {S : Type 0} {holds : S → List Row → Type 0} (size : S → ℕ) (amount : List Row → ℕ) → ((s : S) (held : List Row) → holds s held → size s ≡ amount held)
    → (a : Inside S) → IsKept holds a → (k : ℕ) (x : S) → k < (arc_value a.system).cores → x ≡ get_or a.told.items k x → size x ≡ kept_of amount (table_of a) k
size_at size amount is_measured a kept k x known at = ap size at ∙ is_measured (get_or a.told.items k x) _ (kept.since.told_are.each k x known)
