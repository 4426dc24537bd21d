-- Counts to which each period adds as much as the first one.
use Rattle.std.proofs.Common.{◌≡◌, ℕ, zero, suc, ◌+◌, ◌-◌, ◌*◌, ◌^◌, ◌<◌, ◌≤◌, List, sym, ap, subst, ◌∙◌, arith}
use Rattle.mcs_ticks.specs.Capped.{capped}
use Rattle.mcs_ticks.specs.declared.row.Row.{Row}
use Rattle.mcs_system.specs.System.{System}
use Rattle.mcs_ever.specs.Recurs.{Shifts}
use Rattle.mcs_ever_found.specs.Recurs.{past_before}
use Rattle.mcs_ever_told.specs.declared.line.Often.TheVariants.{Forever}
use Rattle.mcs_ever_told.specs.declared.outlook.told.Period.{Period}
use Rattle.mcs_ever_told.specs.ForEver.{Happens, IsOften}
use Rattle.mcs_ever_chain.specs.laws.Repeats.{IsAddedInEach}

-- what a period adds, with the number of its ticks
abbrev AddsEach : (ℕ → ℕ) → ℕ → ℕ → Type 0
AddsEach count from ticks =
    (k : ℕ) → count (from + (k + 1) * ticks) ≡ count (from + k * ticks) + (count (from + ticks) - count from)

module _ (count : ℕ → ℕ) (from ticks : ℕ) (adds : AddsEach count from ticks) where
  first : count (from + ticks) ≡ count from + (count (from + ticks) - count from)
  first =
      let e : from + (0 + 1) * ticks ≡ from + ticks = omega arith in
      let f : from + 0 * ticks ≡ from = omega arith in
      sym (ap count e) ∙ adds 0 ∙ ap (λ (n : ℕ). n + (count (from + ticks) - count from)) (ap count f)

  pub rising : count from ≤ count (from + ticks)
  rising = let e = first in omega (arith, e)

pub adds-each : (shifts : Shifts) (ticks from : ℕ) (count : ℕ → ℕ) → shifts.by ≡ ticks → IsAddedInEach shifts from count → AddsEach count from ticks
adds-each shifts ticks from count by law =
    let P : ℕ → Type 0 = λ (b : ℕ). (k : ℕ) → count (from + (k + 1) * b) ≡ count (from + k * b) + (count (from + b) - count from) in
    subst P by law

-- two capped numbers whose difference is not too great
capped-low : (a b : ℕ) → a ≤ b → capped a + (capped b - capped a) < 2 ^ 64 - 1 → a ≡ capped a
capped-low a b l h = omega (arith, l, h)

capped-high : (a b : ℕ) → a ≤ b → capped a + (capped b - capped a) < 2 ^ 64 - 1 → b ≡ capped b
capped-high a b l h = omega (arith, l, h)

module _ (system : System) (p : Period) (many : List Row → ℕ) where
  abbrev count_at : ℕ → ℕ
  count_at t = many (past_before system t)

  -- the numbers before the first period and at its end say how often it happens
  pub happens : AddsEach count_at p.from p.ticks → (before more : ℕ) → count_at p.from ≡ before →
      count_at (p.from + p.ticks) - count_at p.from ≡ more → Happens system p many before more
  happens adds before more e f =
      record { first = e; each = λ k. adds k ∙ ap (λ (n : ℕ). count_at (p.from + k * p.ticks) + n) f }

  pub often-capped : AddsEach count_at p.from p.ticks → (before after : ℕ) → before ≡ capped (count_at p.from) → after ≡ capped (count_at (p.from + p.ticks)) →
      IsOften system p many (Forever before (after - before))
  often-capped adds before after e f few =
      let a = count_at p.from in
      let b = count_at (p.from + p.ticks) in
      let l : a ≤ b = rising count_at p.from p.ticks adds in
      let few_here : capped a + (capped b - capped a) < 2 ^ 64 - 1 = rw (← e, ← f) few in
      let low : a ≡ before = capped-low a b l few_here ∙ sym e in
      let high : b ≡ after = capped-high a b l few_here ∙ sym f in
      happens adds before (after - before) low (let x = low in let y = high in omega (arith, x, y))

-- what is left of one count without another, if that is never more
module _ (all some : ℕ → ℕ) (from ticks : ℕ) (alls : AddsEach all from ticks) (somes : AddsEach some from ticks)
    (fewer : some from ≤ all from) (between : some (from + ticks) - some from ≤ all (from + ticks) - all from) where
  never-more : (k : ℕ) → some (from + k * ticks) ≤ all (from + k * ticks)
  never-more zero =
      let e : from + 0 * ticks ≡ from = omega arith in
      let P : ℕ → Type 0 = λ (t : ℕ). some t ≤ all t in
      subst P (sym e) fewer
  never-more (suc k) =
      let next : k + 1 ≡ suc k = omega arith in
      let e : from + (k + 1) * ticks ≡ from + suc k * ticks = ap (λ (n : ℕ). from + n * ticks) next in
      let P : ℕ → Type 0 = λ (t : ℕ). some t ≤ all t in
      let before = never-more k in
      let x = alls k in
      let y = somes k in
      subst P e (omega (arith, before, x, y, between))

  pub left-adds : AddsEach (λ t. all t - some t) from ticks
  left-adds k =
      let before = never-more k in
      let x = alls k in
      let y = somes k in
      let r = rising all from ticks alls in
      let s = rising some from ticks somes in
      let d = first all from ticks alls in
      let c = first some from ticks somes in
      omega (arith, before, x, y, fewer, between, r, s)
