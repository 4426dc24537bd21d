use Rattle.std.proofs.Common.{◌≡◌, ℕ, ◌+◌, ◌<◌, ◌≤◌, length, get_or, None}
use Rattle.mcs_ever_told.specs.stored.Looks.{AreToldSoFar, AreToldBelow}
use Rattle.mcs_ever_told.proofs.outlook.tell.all_told.Given as goal

abbrev pub invariant-loop-i : goal.invariant-loop-i
invariant-loop-i l = record {
  left : (k : ℕ) → l.i ≤ k → get_or l.told k None ≡ get_or l.initial.told k None;
  kept : (horizon : ℕ) → AreToldSoFar l.look.system.now l.look.allowed.now horizon l.groups l.initial.told →
      AreToldSoFar l.look.system.now l.look.allowed.now horizon l.groups l.told;
  told : (horizon : ℕ) →
      ((i : ℕ) → i < length l.groups → get_or l.initial.told i None ≡ None → l.look.search.now.clock ≡ horizon + 1) →
      AreToldSoFar l.look.system.now l.look.allowed.now horizon l.groups l.initial.told →
      AreToldBelow l.look.system.now l.look.allowed.now horizon l.groups l.i l.all.items;
}
