-- A core to which no signal comes and whose turns only count ticks.
use Rattle.std.proofs.Common.{◌≡◌, ℕ, List, [], Option, None, subst}
use Rattle.mcs_mail.specs.declared.mail.Mail.{Mail}
use Rattle.mcs_system.specs.System.{System}
use Rattle.mcs_core.specs.Clock.{core_at, world}
use Rattle.mcs_core.specs.Quiet.{IsNextBusy}

pub never-busy : (system own : System) (core t number clock : ℕ) (mails : List Mail) (next : Option ℕ) → own ≡ system → number ≡ core → clock ≡ t →
    mails ≡ [] → next ≡ None → IsNextBusy system number clock mails (core_at own (world own t) core) next →
    IsNextBusy system core t [] (core_at system (world system t) core) None
never-busy system own core t number clock mails next same number-is clock-is none-come none busy =
    let N : ℕ → Type 0 = λ number. IsNextBusy system number clock mails (core_at own (world own t) core) next in
    let C : ℕ → Type 0 = λ clock. IsNextBusy system core clock mails (core_at own (world own t) core) next in
    let M : List Mail → Type 0 = λ mails. IsNextBusy system core t mails (core_at own (world own t) core) next in
    let X : Option ℕ → Type 0 = λ next. IsNextBusy system core t [] (core_at own (world own t) core) next in
    let S : System → Type 0 = λ own. IsNextBusy system core t [] (core_at own (world own t) core) None in
    subst S same (subst X none (subst M none-come (subst C clock-is (subst N number-is busy))))
