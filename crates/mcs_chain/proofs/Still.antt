-- A row that moves nothing leaves all as it is, if the row before it posts and answers nothing.
use Rattle.std.proofs.Common.{◌≡◌, ℕ, suc, true, false, List, [], ◌∷◌, Option, map, refl, ap₂, sym}
use Rattle.std.specs.Prelude.{Bool, if◌then◌else◌}
use Rattle.mcs_ticks.specs.declared.row.Row.{Row}
use Rattle.mcs_ticks.specs.declared.row.What.{What}
use Rattle.mcs_ticks.specs.declared.row.What.TheVariants as row
use Rattle.mcs_system.specs.declared.part.ChainPart.{ChainPart}
use Rattle.mcs_system.specs.System.{System}
use Rattle.mcs_chain.specs.declared.moves.Move.TheVariants.{Nothing}
use Rattle.mcs_chain.specs.declared.step.Gone.{Gone}
use Rattle.mcs_chain.specs.Answers.{gone_after}
use Rattle.mcs_chain.specs.Moves.{moves_by}
use Rattle.mcs_chain.specs.Steps.{all_go}
use Rattle.mcs_chain.specs.Watch.{One, all_due, gone_for, one_of, watch_of}
use Rattle.mcs_chain.specs.stored.Still.{are_still, have_late, is_none, is_quiet, is_still}
use Rattle.mcs_chain.proofs.Apart.{first-of, none-is, one-stays, second-of}

moves-none : (system : System) (all : List Gone) (r : Row) (what : What) → is_quiet what ≡ true → moves_by system all r what ≡ Nothing
moves-none system all r (row.Release x) e = refl
moves-none system all r (row.Run x) e = refl
moves-none system all r (row.Stop x cause charged until) e = refl
moves-none system all r (row.Order context) e = refl
moves-none system all r (row.Signal x note badge) e = absurd (cc)
moves-none system all r (row.Arrive note badge maker) e = absurd (cc)
moves-none system all r (row.Wake x note word until) e = absurd (cc)
moves-none system all r (row.Hold note word) e = absurd (cc)
moves-none system all r (row.Got x note word) e = absurd (cc)
moves-none system all r (row.Round x number response) e = absurd (cc)
moves-none system all r (row.Interrupt source note badge) e = absurd (cc)

goes-none : (system : System) (what : What) (all : List Gone) → is_quiet what ≡ true → all_go system what all ≡ all
goes-none system (row.Release x) all e = refl
goes-none system (row.Run x) all e = refl
goes-none system (row.Stop x cause charged until) all e = refl
goes-none system (row.Order context) all e = refl
goes-none system (row.Signal x note badge) all e = absurd (cc)
goes-none system (row.Arrive note badge maker) all e = absurd (cc)
goes-none system (row.Wake x note word until) all e = absurd (cc)
goes-none system (row.Hold note word) all e = absurd (cc)
goes-none system (row.Got x note word) all e = absurd (cc)
goes-none system (row.Round x number response) all e = absurd (cc)
goes-none system (row.Interrupt source note badge) all e = absurd (cc)

module _ (system : System) (past : List Row) (r : Row) (quiet : is_quiet r.what ≡ true) where
  one-quiet : (chain : ChainPart) → is_still (one_of system chain past) ≡ true → one_of system chain past ≡ one_of system chain (r ∷ past)
  one-quiet chain still = one-stays system past r chain Nothing (sym (moves-none system (gone_after system past) r r.what quiet)) still refl

  all-stay : (chains : List ChainPart) → are_still (map (λ chain. one_of system chain past) chains) ≡ true
      → map (λ chain. one_of system chain past) chains ≡ map (λ chain. one_of system chain (r ∷ past)) chains
  all-stay [] still = refl
  all-stay (chain ∷ chains) still = ap₂ (λ one each. one ∷ each) (one-quiet chain (first-of _ _ still)) (all-stay chains (second-of _ _ still))

  gone-stay : (chains : List ChainPart) → gone_for system past chains ≡ gone_for system (r ∷ past) chains
  gone-stay [] = refl
  gone-stay (chain ∷ chains) = sym (goes-none system r.what (gone_after system past) quiet)

  pub watch-stays : are_still (watch_of system past).each ≡ true → watch_of system past ≡ watch_of system (r ∷ past)
  watch-stays still = ap₂ (λ g e. record { gone = g; each = e }) (gone-stay system.chains) (all-stay system.chains still)

-- without slow answers none is due
pub none-due : (before : Option ℕ) (n : ℕ) (each : List One) → have_late each ≡ false → all_due before n each ≡ []
none-due before n [] e = refl
none-due before n (one ∷ each) e = by (is_none one.late) refl e (none-due before (suc n) each)
  where
    by : (b : Bool) → is_none one.late ≡ b → (if b then have_late each else true) ≡ false
        → (have_late each ≡ false → all_due before (suc n) each ≡ []) → all_due before n (one ∷ each) ≡ []
    by true none rest others = rw (none-is one.late none) (others rest)
    by false none rest others = absurd (cc)
