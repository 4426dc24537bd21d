-- Packets that pass take the dates of their moments, so they are spaced as dates that charges take.
use Rattle.std.proofs.Common.{◌≡◌, ℕ, ◌≤◌, Bool, true, false, List, [], ◌∷◌, ◌++◌, length, max, take, refl, ap, ◌∙◌, subst, arith}
use Rattle.std.specs.Prelude.{nat_le, if◌then◌else◌}
use Rattle.std.proofs.lemmas.Bool.Decides.{nat_tests}
use Rattle.mcs_refills.specs.Server.{Server, new_server, is_ready, unblocked}
use Rattle.mcs_refills.specs.laws.Spacing.{AreKept, AreProper, IsSpaced, Step, consumed}
use Rattle.mcs_refills.specs.laws.Spacing.Step.{Charge, Unblock}
use Rattle.mcs_refills.proofs.Spaces.{consumed-spaced, kept-new, kept-step}
use Rattle.example_refills.specs.Passing.{PacketsAreSpaced, after_packet, passed}

-- what these offers do to a limiter
abbrev pub steps_of : List ℕ → Server → List Step
steps_of [] limiter = []
steps_of (t ∷ offers) limiter =
    if is_ready t limiter.dates then Unblock t ∷ Charge 1 1 ∷ steps_of offers (after_packet t limiter) else steps_of offers limiter

latest : (date t : ℕ) → nat_le date t ≡ true → max date t ≡ t
latest date t ready = grind (arith, nat_tests)

-- the date that a packet takes is its moment
takes-moment : (t : ℕ) (dates : List ℕ) → 1 ≤ length dates → is_ready t dates ≡ true → take 1 (unblocked t dates) ≡ t ∷ []
takes-moment t [] some ready = absurd (omega (arith, some))
takes-moment t (date ∷ dates) some ready = ap (λ first. first ∷ []) (latest date t ready)

-- one offer, if the others take their moments
offer-takes : (t : ℕ) (offers : List ℕ) (limiter : Server) (ready : Bool) → 1 ≤ length limiter.dates → is_ready t limiter.dates ≡ ready →
    consumed limiter.period limiter.max_refills (steps_of offers (after_packet t limiter)) (after_packet t limiter).dates ≡ passed offers (after_packet t limiter) →
    consumed limiter.period limiter.max_refills (steps_of offers limiter) limiter.dates ≡ passed offers limiter →
    consumed limiter.period limiter.max_refills (if ready then Unblock t ∷ Charge 1 1 ∷ steps_of offers (after_packet t limiter) else steps_of offers limiter) limiter.dates
    ≡ (if ready then t ∷ passed offers (after_packet t limiter) else passed offers limiter)
offer-takes t offers limiter true some is passes waits =
    ap (λ first. first ++ consumed limiter.period limiter.max_refills (steps_of offers (after_packet t limiter)) (after_packet t limiter).dates)
    (takes-moment t limiter.dates some is)
    ∙ ap (λ others. t ∷ others) passes
offer-takes t offers limiter false some is passes waits = waits

offers-take : (budget : ℕ) (offers : List ℕ) (limiter : Server) → 1 ≤ budget → AreKept budget limiter.period limiter.dates →
    consumed limiter.period limiter.max_refills (steps_of offers limiter) limiter.dates ≡ passed offers limiter
offers-take budget [] limiter some kept = refl
offers-take budget (t ∷ offers) limiter some kept =
    let first : AreKept budget limiter.period (unblocked t limiter.dates) =
    kept-step budget limiter.period limiter.max_refills (Unblock t) limiter.dates tt kept in
    let after : AreKept budget limiter.period (after_packet t limiter).dates =
    kept-step budget limiter.period limiter.max_refills (Charge 1 1) (unblocked t limiter.dates) (omega arith) first in
    offer-takes t offers limiter (is_ready t limiter.dates) (omega (arith, kept.all, some)) refl
    (offers-take budget offers (after_packet t limiter) some after) (offers-take budget offers limiter some kept)

offer-proper : (t : ℕ) (passing waiting : List Step) (ready : Bool) → AreProper passing → AreProper waiting →
    AreProper (if ready then Unblock t ∷ Charge 1 1 ∷ passing else waiting)
offer-proper t passing waiting true p w = (tt, (omega arith, p))
offer-proper t passing waiting false p w = w

offers-proper : (offers : List ℕ) (limiter : Server) → AreProper (steps_of offers limiter)
offers-proper [] limiter = tt
offers-proper (t ∷ offers) limiter =
    offer-proper t (steps_of offers (after_packet t limiter)) (steps_of offers limiter) (is_ready t limiter.dates)
    (offers-proper offers (after_packet t limiter)) (offers-proper offers limiter)

pub packets-spaced : PacketsAreSpaced
packets-spaced budget period offers some within =
    let limiter = new_server 0 budget period 66 66 in
    let kept : AreKept budget period limiter.dates = kept-new budget period 0 (omega (arith, within)) in
    subst (λ moments. IsSpaced budget period moments) (offers-take budget offers limiter some kept)
    (consumed-spaced budget period 66 (steps_of offers limiter) limiter.dates kept (offers-proper offers limiter))
