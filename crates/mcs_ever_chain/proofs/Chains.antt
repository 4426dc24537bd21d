-- The chain with a number, and what a run keeps of it.
use Rattle.std.proofs.Common.{◌≡◌, ℕ, zero, suc, ◌<◌, List, [], ◌∷◌, length, get_or, Some, ap, subst, ◌∙◌, arith}
use Rattle.std.specs.Prelude.{slice_get}
use Rattle.std.proofs.lemmas.List.{length-map}
use Rattle.mcs_system.specs.declared.part.ChainPart.{ChainPart}
use Rattle.mcs_system.specs.System.{System}
use Rattle.mcs_system.specs.WellFormed.{IsWellFormed, IsChain}
use Rattle.mcs_chain.specs.Figures.{Tally, tally_of}
use Rattle.mcs_chain.specs.Watch.{Watch, one_of}
use Rattle.mcs_ever_found.specs.Recurs.{past_before}
use Rattle.mcs_ever_chain.specs.declared.run.Run.{Run}
use Rattle.mcs_ever_chain.specs.stored.Runs.{IsRun}

pub within : (chains : List ChainPart) (n : ℕ) (chain : ChainPart) → slice_get chains n ≡ Some chain → n < length chains
within [] n chain e = absurd (cc)
within (x ∷ chains) zero chain e = omega arith
within (x ∷ chains) (suc n) chain e = let l = within chains n chain e in omega (arith, l)

pub is-at : (chains : List ChainPart) (n : ℕ) (chain : ChainPart) → slice_get chains n ≡ Some chain → get_or chains n chain ≡ chain
is-at [] n chain e = absurd (cc)
is-at (x ∷ chains) zero chain e = cc
is-at (x ∷ chains) (suc n) chain e = is-at chains n chain e

pub there : (chains : List ChainPart) (n : ℕ) (d : ChainPart) → n < length chains → slice_get chains n ≡ Some (get_or chains n d)
there [] n d l = absurd (omega (arith, l))
there (x ∷ chains) zero d l = cc
there (x ∷ chains) (suc n) d l = there chains n d (omega (arith, l))

pub is-chain : (system : System) → IsWellFormed system → (n : ℕ) (chain : ChainPart) → slice_get system.chains n ≡ Some chain → IsChain system chain
is-chain system well n chain e =
    let P : ChainPart → Type 0 = λ (c : ChainPart). IsChain system c in
    subst P (is-at system.chains n chain e) (well.chains.chains n chain (within system.chains n chain e))

pub watch-long : (system : System) (run : Run) → IsRun system run → length run.watch.each ≡ length system.chains
watch-long system run is =
    ap (λ (w : Watch). length w.each) is.watch ∙ length-map system.chains (λ chain. one_of system chain (past_before system run.lockstep.clock))

pub tallies-long : (system : System) (run : Run) → IsRun system run → length run.tallies ≡ length system.chains
tallies-long system run is =
    ap (λ (l : List Tally). length l) is.tallies
    ∙ length-map system.chains (λ chain. tally_of run.lockstep.horizon system chain (past_before system run.lockstep.clock))

-- each number below is that of a chain
pub record Has (chains : List ChainPart) (n : ℕ) : Type 0 where
  pub part : ChainPart
  pub is : slice_get chains n ≡ Some part

pub has-chain : (chains : List ChainPart) (n : ℕ) → n < length chains → Has chains n
has-chain [] n l = absurd (omega (arith, l))
has-chain (x ∷ chains) zero l = record { part = x; is = cc }
has-chain (x ∷ chains) (suc n) l = let h = has-chain chains n (omega (arith, l)) in record { part = h.part; is = h.is }
