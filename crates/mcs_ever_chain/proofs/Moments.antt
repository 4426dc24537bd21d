-- What a moment adds to the answers of a chain that recurs the moment a period later adds, too.
use Rattle.std.proofs.Common.{◌≡◌, ◌∙◌, ℕ, suc, ◌+◌, ◌≤◌, Bool, true, false, List, [], ◌++◌, refl, sym, ap}
use Rattle.mcs_system.specs.declared.part.ChainPart.{ChainPart}
use Rattle.mcs_system.specs.System.{System}
use Rattle.mcs_system.specs.WellFormed.{IsWellFormed}
use Rattle.mcs_ever.specs.Recurs.{Shifts}
use Rattle.mcs_ever_found.specs.Recurs.{past_before}
use Rattle.mcs_ever_found.specs.laws.Repeats.{rows_at}
use Rattle.mcs_ever_found.proofs.Moments.{past-next}
use Rattle.mcs_ever_chain.specs.Later.{later_origins}
use Rattle.mcs_ever_chain.specs.Recurs.{AnswersRecur, ChainRecurs, origins_before}
use Rattle.mcs_ever_chain.specs.laws.Repeats.{latencies_before}
use Rattle.mcs_ever_chain.proofs.Answered.{all-latencies, latencies-steady, latencies_of}
use Rattle.mcs_ever_chain.proofs.Turns.{alike, same-at, told, total, total-told}

contrary : {A : Type 0} → false ≡ true → A
contrary e = absurd (cc)

module _ (system : System) (chain : ChainPart) (well : IsWellFormed system) where
  -- the numbers that a moment adds
  abbrev pub new : (ℕ → List ℕ → List ℕ) → ℕ → List ℕ
  new value t = told system chain value (past_before system t) (rows_at system t)

  pub more : (value : ℕ → List ℕ → List ℕ) (t : ℕ) →
      total system chain value (past_before system (suc t))
      ≡ told system chain value (past_before system t) (rows_at system t) ++ total system chain value (past_before system t)
  more value t =
      ap (total system chain value) (past-next system well t) ∙ total-told system chain value (past_before system t) (rows_at system t)

  pub more-latencies : (t : ℕ) →
      latencies_before system chain (suc t) ≡ told system chain latencies_of (past_before system t) (rows_at system t) ++ latencies_before system chain t
  more-latencies t =
      all-latencies system chain (past_before system (suc t)) ∙ more latencies_of t
      ∙ ap (λ others. new latencies_of t ++ others) (sym (all-latencies system chain (past_before system t)))

  module _ (group : ℕ → Bool) (shifts : Shifts) (from : ℕ) where
    pub again : ChainRecurs system chain group shifts from → (value : ℕ → List ℕ → List ℕ)
        → ((m : ℕ) (answered : List ℕ) → value (m + shifts.by) (later_origins shifts.by answered) ≡ value m answered)
        → ((m : ℕ) → value m [] ≡ []) → (t : ℕ) → from ≤ t
        → told system chain value (past_before system (t + shifts.by)) (rows_at system (t + shifts.by)) ≡ told system chain value (past_before system t) (rows_at system t)
    again recurs value steady none t l = same-at system chain group shifts from well recurs false contrary value steady none tt t l

    -- so are the interrupts without an answer
    pub left-later : AnswersRecur system chain group shifts from → (t : ℕ) → from ≤ t
        → (origins_before system chain (t + shifts.by)).unanswered ≡ later_origins shifts.by (origins_before system chain t).unanswered
    left-later h t l =
        let now = alike system chain group shifts from well h.recurs true (λ e. h.source) latencies_of (latencies-steady shifts.by) (λ m. refl) h.unanswered t l in
        now.left
