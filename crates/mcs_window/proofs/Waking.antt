-- A core is lent when idle time was skipped.
use Rattle.std.proofs.Common.{◌≡◌, ℕ, ◌≤◌, ◌+◌, ◌⊎◌, true, false, Option, Some, None, inl, inr, sym, ap, ◌∙◌, subst, arith}
use Rattle.std.specs.Prelude.{IfSome, IfNone}
use Rattle.mcs_window.specs.Pieces.{Work}
use Rattle.mcs_window.specs.Desk.{Table, IsAwake, IsLent, IsLentWithin, IsChosen, MayLend, lent_to, clock_of, past_of, past_within}
use Rattle.mcs_window.proofs.Lending.{past_by-in_time}

awake-system : (before table : Table) → IsAwake before table → table.system ≡ before.system
awake-system before table (inl p) = ap (λ (t : Table). t.system) p.2.rest
awake-system before table (inr p) = ap (λ (t : Table). t.system) p.1

pub awake-lost : (before table : Table) → IsAwake before table → table.lost ≡ before.lost
awake-lost before table (inl p) = ap (λ (t : Table). t.lost) p.2.rest
awake-lost before table (inr p) = ap (λ (t : Table). t.lost) p.1

pub lent-some : (span : ℕ) (before table after : Table) (result : Option Work) → IsAwake before table →
    IfSome result (λ piece. (table.lost ≡ false) × IsChosen table piece.core × (after ≡ lent_to table piece.core (past_within table span piece.core))) →
    IfSome result (λ piece. IsLentWithin before span piece.core after)
lent-some span before table after None awake h = tt
lent-some span before table after (Some piece) awake h =
    record { table = table; awake = awake; sound = sym (awake-lost before table awake) ∙ h.0; chosen = h.1; lent = h.2 }

pub lent-piece : (span : ℕ) (before table after : Table) (result : Option Work) → IsAwake before table →
    IfSome result (λ piece. (table.lost ≡ false) × IsChosen table piece.core × (after ≡ lent_to table piece.core (past_within table span piece.core))) →
    IfSome result (λ piece. (piece.system ≡ table.system) × (piece.first ≡ clock_of table piece.core) × (piece.past ≡ past_within table span piece.core) × (piece.front ≡ table.clocks)) →
    IfSome result (λ piece. (piece.system ≡ before.system) × (piece.first ≡ clock_of after piece.core) × (piece.past ≡ past_within after span piece.core) × (piece.front ≡ after.clocks))
lent-piece span before table after None awake h p = tt
lent-piece span before table after (Some piece) awake h p = (
  p.0 ∙ awake-system before table awake,
  p.1 ∙ ap (λ t. clock_of t piece.core) (sym h.2),
  p.2 ∙ ap (λ t. past_within t span piece.core) (sym h.2),
  p.3 ∙ ap (λ (t : Table). t.clocks) (sym h.2),
)

pub lent-none : (before table after : Table) (result : Option Work) → IsAwake before table → IfNone result ((after ≡ table) × ((table.lost ≡ true) ⊎ ((c : ℕ) → ¬ MayLend table c))) →
    IfNone result (IsAwake before after × ((before.lost ≡ true) ⊎ ((c : ℕ) → ¬ MayLend after c)))
lent-none before table after (Some piece) awake h = tt
lent-none before table after None awake h = (
  subst (IsAwake before) (sym h.0) awake,
  elim h.1 [
    | inl lost ↦ inl (sym (awake-lost before table awake) ∙ lost)
    | inr none ↦ inr (subst (λ t. (c : ℕ) → ¬ MayLend t c) (sym h.0) none)
  ],
)

-- more moments than the run has are no bound
pub within-all : (table : Table) (span c : ℕ) → table.horizon + 1 ≤ span → past_within table span c ≡ past_of table c
within-all table span c long = let in_time = past_by-in_time table c table.system.cores in omega arith

awake-horizon : (before table : Table) → IsAwake before table → table.horizon ≡ before.horizon
awake-horizon before table (inl p) = ap (λ (t : Table). t.horizon) p.2.rest
awake-horizon before table (inr p) = ap (λ (t : Table). t.horizon) p.1

pub lent-all : (span : ℕ) (before after : Table) (result : Option Work) → before.horizon + 1 ≤ span → IfSome result (λ piece. IsLentWithin before span piece.core after) → IfSome result (λ piece. IsLent before piece.core after)
lent-all span before after None long h = tt
lent-all span before after (Some piece) long h =
    let same = awake-horizon before h.table h.awake in
    record {
      table = h.table;
      awake = h.awake;
      sound = h.sound;
      chosen = h.chosen;
      lent = h.lent ∙ ap (lent_to h.table piece.core) (within-all h.table span piece.core (omega arith));
    }

pub piece-all : (span : ℕ) (before after : Table) (result : Option Work) → before.horizon + 1 ≤ span → after.horizon ≡ before.horizon →
    IfSome result (λ piece. (piece.system ≡ before.system) × (piece.first ≡ clock_of after piece.core) × (piece.past ≡ past_within after span piece.core) × (piece.front ≡ after.clocks)) →
    IfSome result (λ piece. (piece.system ≡ before.system) × (piece.first ≡ clock_of after piece.core) × (piece.past ≡ past_of after piece.core) × (piece.front ≡ after.clocks))
piece-all span before after None long same h = tt
piece-all span before after (Some piece) long same h = (h.0, h.1, h.2 ∙ within-all after span piece.core (omega arith), h.3)
