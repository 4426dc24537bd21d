-- The counts of findings are 0 only if there are no findings.
use Rattle.std.proofs.Common.{◌≡◌, ℕ, ◌+◌, ◌<◌, ◌≤◌, Bool, true, false, cond, ◌||◌, List, [], ◌∷◌, length, get_or, Option, Some, None, refl, sym, ap, ◌∙◌, arith}
use Rattle.std.specs.List.{list_any}
use Rattle.std.proofs.lemmas.List.Folds.{list_any-append}
use Rattle.std.proofs.lemmas.List.FromFn.{get_or-map-range_with_len}
use Rattle.mcs_ticks.specs.Capped.{capped}
use Rattle.mcs_ticks.specs.declared.row.Row.{Row}
use Rattle.mcs_system.specs.System.{System}
use Rattle.mcs_core.specs.Clock.{schedule}
use Rattle.mcs_verdict.specs.declared.finding.Finding.{Finding}
use Rattle.mcs_verdict.specs.declared.finding.Finding.TheVariants.{Miss, Overdue, Untaken, Lost, Never}
use Rattle.mcs_verdict.specs.declared.finding.Found.{Found}
use Rattle.mcs_verdict.specs.Findings.{finding, past_of, found_at, found_in}
use Rattle.mcs_verdict_laws.specs.laws.Horizons.{is_miss_of, has_miss_of}
use Rattle.mcs_ever_found.specs.laws.Never.{is_lost_of, has_lost_of, told_up_to}
use Rattle.mcs_ever_found.specs.Course.{is_miss, is_loss, times, misses, losses}
use Rattle.mcs_ever_told.specs.Outlook.{course_up_to}

or-false : (b : Bool) → (b || false) ≡ b
or-false true = refl
or-false false = refl

module _ (system : System) (test : Option Finding → Bool) where
  -- more rows have no smaller count
  no-fewer : (rows past : List Row) → times system test past ≤ times system test (past_of past rows)
  no-fewer [] past = omega arith
  no-fewer (r ∷ rows) past =
      let more : times system test (r ∷ past) ≤ times system test (past_of (r ∷ past) rows) = no-fewer rows (r ∷ past) in
      let here : times system test past ≤ times system test (r ∷ past) = omega arith in
      omega arith

  module _ (of : Finding → Bool) (same : (f : Finding) → test (Some f) ≡ of f) where
    not-one : (b : Bool) (n : ℕ) → cond b 1 0 + n ≡ 0 → b ≡ false
    not-one true n e = absurd (omega (arith, e))
    not-one false n e = refl

    first : (moment core : ℕ) (o : Option Finding) (n : ℕ) → cond (test o) 1 0 + n ≡ 0 →
        list_any (λ (f : Found). of f.finding) (found_at moment core o) ≡ false
    first moment core None n e = refl
    first moment core (Some f) n e = or-false (of f) ∙ sym (same f) ∙ not-one (test (Some f)) n e

    pub none-found : (rows past : List Row) → times system test (past_of past rows) ≡ 0 →
        list_any (λ (f : Found). of f.finding) (found_in system past rows) ≡ false
    none-found [] past e = refl
    none-found (r ∷ rows) past e =
        let few : times system test (r ∷ past) ≡ 0 = omega (arith, no-fewer rows (r ∷ past), e) in
        list_any-append (λ (f : Found). of f.finding) (found_at r.moment r.core (finding system past r.moment r.what)) (found_in system (r ∷ past) rows)
        ∙ ap (λ b. b || list_any (λ (f : Found). of f.finding) (found_in system (r ∷ past) rows))
        (first r.moment r.core (finding system past r.moment r.what) (times system test past) few)
        ∙ none-found rows (r ∷ past) e

same-miss : (thread : ℕ) (f : Finding) → is_miss thread (Some f) ≡ is_miss_of thread f
same-miss thread (Miss x number response deadline activated queued stood) = refl
same-miss thread (Overdue x number age deadline activated queued stood) = refl
same-miss thread (Untaken note word age deadline set) = refl
same-miss thread (Lost note word) = refl
same-miss thread (Never x deadline) = refl

same-loss : (note : ℕ) (f : Finding) → is_loss note (Some f) ≡ is_lost_of note f
same-loss note (Miss x number response deadline activated queued stood) = refl
same-loss note (Overdue x number age deadline activated queued stood) = refl
same-loss note (Untaken x word age deadline set) = refl
same-loss note (Lost x word) = refl
same-loss note (Never x deadline) = refl

none-capped : (n : ℕ) → capped n ≡ 0 → n ≡ 0
none-capped n e = grind arith

module _ (system : System) (h : ℕ) where
  abbrev past : List Row
  past = past_of [] (schedule system h)

  -- if no miss of a thread is counted, it has none
  pub no-miss : (thread : ℕ) → thread < length system.threads → get_or (course_up_to system h).misses thread 0 ≡ 0 →
      has_miss_of thread (told_up_to system h) ≡ false
  no-miss thread l e =
      none-found system (is_miss thread) (is_miss_of thread) (same-miss thread) (schedule system h) []
      (none-capped (misses system thread past)
      (sym (get_or-map-range_with_len (λ (x : ℕ). capped (misses system x past)) 0 (length system.threads) thread thread 0 l (omega arith)) ∙ e))

  -- if no lost signal of a notification is counted, it lost none
  pub no-loss : (note : ℕ) → note < length system.notes → get_or (course_up_to system h).losses note 0 ≡ 0 →
      has_lost_of note (told_up_to system h) ≡ false
  no-loss note l e =
      none-found system (is_loss note) (is_lost_of note) (same-loss note) (schedule system h) []
      (none-capped (losses system note past)
      (sym (get_or-map-range_with_len (λ (x : ℕ). capped (losses system x past)) 0 (length system.notes) note note 0 l (omega arith)) ∙ e))
