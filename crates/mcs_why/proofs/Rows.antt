-- A list of rows that is seen, one after another.
use Rattle.std.proofs.Common.{◌≡◌, ℕ, List, [], ◌∷◌, sym, ap, subst, ◌∙◌}
use Rattle.mcs_ticks.specs.declared.row.Row.{Row}
use Rattle.mcs_system.specs.System.{System}
use Rattle.mcs_verdict.specs.Findings.{UpTo, InOrder, past_of}
use Rattle.mcs_verdict.specs.Watch.{Watch, watch_of}
use Rattle.mcs_why.specs.declared.trail.Trail.{Trail}
use Rattle.mcs_why.specs.Search.{trail_of}
use Rattle.mcs_why.specs.Account.{Account, account_of}

-- so far these rows were seen by a search; the rest is still to come
pub record Searches (system : System) (thread number : ℕ) (past rows rest : List Row) (watch : Watch) (trail : Trail) : Type 0 where
  pub seen : List Row
  pub watched : watch ≡ watch_of system seen
  pub kept : trail ≡ trail_of system thread number seen
  pub in_order : InOrder seen rest
  pub past_is : past_of seen rest ≡ past_of past rows

-- one row more
pub searches-row : (system : System) (thread number : ℕ) (past rows rest more : List Row) (r : Row) (watch watch' : Watch) (trail trail' : Trail)
    → rest ≡ r ∷ more
    → Searches system thread number past rows rest watch trail
    → ((seen : List Row) → watch ≡ watch_of system seen → UpTo r.moment seen → watch' ≡ watch_of system (r ∷ seen))
    → ((seen : List Row) → watch ≡ watch_of system seen → trail ≡ trail_of system thread number seen → UpTo r.moment seen
    → trail' ≡ trail_of system thread number (r ∷ seen))
    → Searches system thread number past rows more watch' trail'
searches-row system thread number past rows rest more r watch watch' trail trail' e s w t =
    let P : List Row → Type 0 = λ rest. InOrder s.seen rest in
    let order = subst P e s.in_order in
    record {
      seen = r ∷ s.seen;
      watched = w s.seen s.watched order.0;
      kept = t s.seen s.watched s.kept order.0;
      in_order = order.1;
      past_is = sym (ap (past_of s.seen) e) ∙ s.past_is;
    }

-- no row is left
pub searches-all : (system : System) (thread number : ℕ) (past rows rest : List Row) (watch : Watch) (trail : Trail) → rest ≡ []
    → Searches system thread number past rows rest watch trail
    → (watch ≡ watch_of system (past_of past rows)) × (trail ≡ trail_of system thread number (past_of past rows))
searches-all system thread number past rows rest watch trail e s =
    let all : s.seen ≡ past_of past rows = sym (ap (past_of s.seen) e) ∙ s.past_is in
    (s.watched ∙ ap (watch_of system) all, s.kept ∙ ap (trail_of system thread number) all)

-- the same of an account
pub record Tells (threads core from to : ℕ) (past rows rest : List Row) (account : Account) : Type 0 where
  pub seen : List Row
  pub kept : account ≡ account_of threads core from to seen
  pub in_order : InOrder seen rest
  pub past_is : past_of seen rest ≡ past_of past rows

pub tells-row : (threads core from to : ℕ) (past rows rest more : List Row) (r : Row) (account account' : Account) → rest ≡ r ∷ more
    → Tells threads core from to past rows rest account
    → ((seen : List Row) → account ≡ account_of threads core from to seen → UpTo r.moment seen
    → account' ≡ account_of threads core from to (r ∷ seen))
    → Tells threads core from to past rows more account'
tells-row threads core from to past rows rest more r account account' e s t =
    let P : List Row → Type 0 = λ rest. InOrder s.seen rest in
    let order = subst P e s.in_order in
    record {
      seen = r ∷ s.seen;
      kept = t s.seen s.kept order.0;
      in_order = order.1;
      past_is = sym (ap (past_of s.seen) e) ∙ s.past_is;
    }

pub tells-all : (threads core from to : ℕ) (past rows rest : List Row) (account : Account) → rest ≡ []
    → Tells threads core from to past rows rest account
    → account ≡ account_of threads core from to (past_of past rows)
tells-all threads core from to past rows rest account e s =
    let all : s.seen ≡ past_of past rows = sym (ap (past_of s.seen) e) ∙ s.past_is in
    s.kept ∙ ap (account_of threads core from to) all
