-- Servers stay in good order.
use Rattle.std.proofs.Common.{◌≡◌, ℕ, ◌+◌, ◌≤◌, List, [], ◌∷◌, length, refl, subst, ap, ◌∙◌, arith}
use Rattle.std.proofs.lemmas.Bool.Decides.{nat_tests}
use Rattle.mcs_refills.specs.declared.refill.Refill.{Refill}
use Rattle.mcs_refills.specs.laws.Apart.{AreApart, last_end}
use Rattle.mcs_refills.specs.stored.Refills.{IsKept, after_unblock}
use Rattle.mcs_refills.specs.Server.{Server, dates_of, with_date, refills_of, first_amount, head_amount, charged, with_enough, unblocked}
use Rattle.mcs_refills.specs.laws.Spacing.{IsWithin}
use Rattle.mcs_refills.specs.laws.Servers.{IsServer, ServersAreKept}
use Rattle.mcs_refills.proofs.Charges.{IsLike-charge, dates_of-charge}
use Rattle.mcs_refills.proofs.Heads.{refills-shown}
use Rattle.mcs_refills.proofs.Unblocks.{dates_of-after_unblock, few-unblocked}
use Rattle.mcs_refills.proofs.Spaces.{IsLaid, laid-refills_of, within-dates_of, dates_of-refills_of, kept-charged, kept-unblocked, kept-reconfigured, few-reconfigured, kept-new, few-new}

-- the refills of dates that ascend lie apart
apart-with_date : (high date : ℕ) (rs : List Refill) → IsLaid (date + 1) high rs → AreApart rs → AreApart (with_date date rs)
apart-with_date high date [] l a = let p : 1 ≤ 1 = omega arith in (p, tt, tt)
apart-with_date high date (r ∷ []) l a = grind (arith, nat_tests)
apart-with_date high date (r ∷ z ∷ rs) l a = grind (arith, nat_tests)

pub apart-refills_of : (low high : ℕ) (us : List ℕ) → IsWithin low high us → AreApart (refills_of us)
apart-refills_of low high [] h = tt
apart-refills_of low high (u ∷ us) h =
    apart-with_date high u (refills_of us) (laid-refills_of (u + 1) high us (omega (arith, h.1)) h.2) (apart-refills_of (u + 1) high us h.2)

pub laid-ends : (low high : ℕ) (r : Refill) (rs : List Refill) → IsLaid low high (r ∷ rs) → last_end (r ∷ rs) ≤ high
laid-ends low high r [] h = h.1
laid-ends low high r (s ∷ rs) h = laid-ends (r.begins + r.amount) high s rs h.1

laid-apart : (low high : ℕ) (r : Refill) (rs : List Refill) → AreApart (r ∷ rs) → low ≤ r.begins → last_end (r ∷ rs) ≤ high → IsLaid low high (r ∷ rs)
laid-apart low high r [] a l e = (l, e)
laid-apart low high r (s ∷ rs) a l e = (l, laid-apart (r.begins + r.amount) high s rs a.2 (omega (arith, a.1)) e)

-- a list that is kept is in good order
pub in-good-order : (server : Server) (rs : List Refill) → IsKept rs server.period server.max_refills → dates_of rs ≡ server.dates → IsServer (length server.dates) server
in-good-order server [] h e = absurd (omega (arith, h.some))
in-good-order server (r ∷ rs) h e =
    let laid = laid-apart r.begins (r.begins + server.period) r rs h.apart (omega arith) h.spans in
    let within : IsWithin r.begins (r.begins + server.period) server.dates =
    let P : List ℕ → Type 0 = λ us. IsWithin r.begins (r.begins + server.period) us in subst P e (within-dates_of r.begins (r.begins + server.period) (r ∷ rs) laid) in
    record {
      kept = record { all = refl; low = r.begins; within = within };
      few = omega (arith, h.few, ap length (refills-shown (r ∷ rs) server.dates h.apart e));
    }

-- a charge leaves at most `max_refills` refills
few-charged : (k min_budget period max_refills low : ℕ) (us : List ℕ) → IsWithin low (low + period) us → length (refills_of us) ≤ max_refills → 1 ≤ k → k ≤ head_amount us →
    length (refills_of (with_enough min_budget (charged k period max_refills us))) ≤ max_refills
few-charged k min_budget period max_refills low us h few p le =
    by (refills_of us) (dates_of-refills_of us) (apart-refills_of low (low + period) us h) (laid-refills_of low (low + period) us (omega arith) h) few le
  where
    by : (rs : List Refill) → dates_of rs ≡ us → AreApart rs → IsLaid low (low + period) rs → length rs ≤ max_refills → k ≤ first_amount rs →
        length (refills_of (with_enough min_budget (charged k period max_refills us))) ≤ max_refills
    by [] e a l f m = absurd (omega arith)
    by (r ∷ rs) e a l f m =
        let ends : last_end (r ∷ rs) ≤ r.begins + period = omega (arith, laid-ends low (low + period) r rs l, l.0) in
        let i = IsLike-charge k period max_refills r rs p m a f ends min_budget in
        let shown = refills-shown _ _ i.apart (dates_of-charge k period max_refills r rs p m a f ends min_budget ∙ ap (λ xs. with_enough min_budget (charged k period max_refills xs)) e) in
        omega (arith, ap length shown, i.few)

-- unblocking makes no more refills
pub refills-unblocked : (t low high : ℕ) (us : List ℕ) → IsWithin low high us → after_unblock t (refills_of us) ≡ refills_of (unblocked t us)
refills-unblocked t low high us h =
    let a = apart-refills_of low high us h in
    refills-shown _ _ (few-unblocked t (refills_of us) a).0 (dates_of-after_unblock t (refills_of us) a ∙ ap (unblocked t) (dates_of-refills_of us))

fewer-unblocked : (t low high : ℕ) (us : List ℕ) → IsWithin low high us → length (refills_of (unblocked t us)) ≤ length (refills_of us)
fewer-unblocked t low high us h = omega (arith, ap length (refills-unblocked t low high us h), (few-unblocked t (refills_of us) (apart-refills_of low high us h)).1)

pub servers-kept : ServersAreKept
servers-kept = (
  λ at budget period max_refills room l m. record { kept = kept-new budget period at l; few = omega (arith, few-new budget at) },
  λ k min_budget budget server h p le. record {
    kept = (kept-charged budget server.period server.max_refills k min_budget server.dates p h.kept).1;
    few = few-charged k min_budget server.period server.max_refills h.kept.low server.dates h.kept.within h.few p le;
  },
  λ t budget server h. record {
    kept = kept-unblocked budget server.period t server.dates h.kept;
    few = omega (arith, h.few, fewer-unblocked t h.kept.low (h.kept.low + server.period) server.dates h.kept.within);
  },
  λ t budget period max_refills server l m. record { kept = kept-reconfigured budget period t server.dates l; few = omega (arith, few-reconfigured budget period t server.dates) },
)
