use Rattle.std.proofs.Common.{◌≡◌, ◌≢◌, ℕ, length, get_or, None}
use Rattle.std.specs.Prelude.{IfSome}
use Rattle.mcs_ever_search.specs.Repeats.{AreTold}
use Rattle.mcs_ever_search.specs.declared.repeats.Repeats.{Repeats}
use Rattle.mcs_ever_search.proofs.repeats.compare.Given as goal

abbrev pub invariant-loop-i : goal.invariant-loop-i
invariant-loop-i l = record {
  many : length l.told ≡ length l.groups;
  told : AreTold l.compared.system l.compared.horizon l.groups l.initial.told → AreTold l.compared.system l.compared.horizon l.groups l.told;
  stays : (i : ℕ) → get_or l.initial.told i None ≢ None → get_or l.told i None ≡ get_or l.initial.told i None;
  from : (i : ℕ) → get_or l.initial.told i None ≡ None → IfSome (get_or l.told i None) (λ (repeats : Repeats). repeats.from ≡ l.compared.kept);
}
