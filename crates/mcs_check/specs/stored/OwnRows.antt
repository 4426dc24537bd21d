-- The rows that a core has seen, and its findings in them from some time on.
use Rattle.std.specs.Prelude.{◌≡◌, ℕ, Bool, true, false, List, [], ◌∷◌, ◌++◌, filter, nat_le, nat_lt, Option, Some, None}
use Rattle.std.proofs.Common.{◌∙◌, ap, append-nil, append_assoc, refl, sym}
use Rattle.std.proofs.lemmas.List.Elements.{filter-append}
use Rattle.std.proofs.lemmas.List.Sums.{fold-append}
use Rattle.mcs_ticks.specs.declared.row.Row.{Row}
use Rattle.mcs_system.specs.System.{System}
use Rattle.mcs_team.specs.Counts.{many_of, one_more}
use Rattle.mcs_verdict.specs.declared.finding.Found.{Found}
use Rattle.mcs_verdict.specs.Findings.{InOrder, UpTo, past_of}
use Rattle.mcs_verdict_laws.proofs.Standings.{past-append}
use Rattle.mcs_check.specs.declared.core_watch.CoreWatch.{CoreWatch}
use Rattle.mcs_check.specs.stored.Found.{counts_so_far, told_by, told_in}
use Rattle.mcs_check.specs.stored.Rows.{counted_at}
use Rattle.mcs_check.specs.stored.Threads.{threads_of}

-- the findings at this time or later
abbrev pub since : ℕ → List Found → List Found
since from found = filter (λ f. nat_le from f.moment) found

-- the findings before this time
abbrev pub until : ℕ → List Found → List Found
until to found = filter (λ f. nat_lt f.moment to) found

-- the number of rows seen
abbrev pub rows_seen : Option CoreWatch → ℕ
rows_seen None = 0
rows_seen (Some own) = own.rows

module _ (system : System) (allowed : List Bool) (from : ℕ) where
  -- the state kept of these rows, with the findings from `from` on
  pub record HasSeen (rows : List Row) (own : CoreWatch) : Type 0 where
    pub watch : own.watch ≡ threads_of system (past_of [] rows)
    pub counts : own.counts ≡ counts_so_far system allowed (past_of [] rows)
    pub found : own.found.items ≡ since from (told_in system allowed [] rows)

  -- a finder holds rows in order; a closed one holds no row
  abbrev pub HoldsOwn : Option CoreWatch → List Row → Type 0
  HoldsOwn None rows = rows ≡ []
  HoldsOwn (Some own) rows = (own.rows ≡ many_of rows) × (InOrder [] rows → HasSeen rows own)

-- one more row is seen, or refused because there is no memory for its finding
abbrev pub SeesMore : List Bool → ℕ → CoreWatch → Row → Bool → CoreWatch → Type 0
SeesMore allowed from before row taken after =
    (after.rows ≡ one_more before.rows)
    × ((system : System) (past : List Row) → before.watch ≡ threads_of system past → UpTo row.moment past →
    (after.watch ≡ threads_of system (row ∷ past))
    × (after.counts ≡ counted_at system allowed past row before.counts)
    × (taken ≡ true → after.found.items ≡ before.found.items ++ since from (told_by system allowed past row)))

-- a closed finder takes no row
abbrev pub TakesOwn : List Bool → ℕ → Option CoreWatch → Row → Bool → Option CoreWatch → Type 0
TakesOwn allowed from None row taken after = taken ≡ false
TakesOwn allowed from (Some before) row taken None = taken ≡ false
TakesOwn allowed from (Some before) row taken (Some after) = SeesMore allowed from before row taken after

order-but-one : (past rows : List Row) (r : Row) → InOrder past (rows ++ r ∷ []) → InOrder past rows × UpTo r.moment (past_of past rows)
order-but-one past [] r order = (tt, order.0)
order-but-one past (q ∷ rows) r order = let rest = order-but-one (q ∷ past) rows r order.1 in ((order.0, rest.0), rest.1)

-- the findings of rows, followed by those of further rows
pub told-append : (system : System) (allowed : List Bool) (past rows more : List Row)
    → told_in system allowed past (rows ++ more) ≡ told_in system allowed past rows ++ told_in system allowed (past_of past rows) more
told-append system allowed past [] more = refl
told-append system allowed past (r ∷ rows) more =
    ap (λ l. told_by system allowed past r ++ l) (told-append system allowed (r ∷ past) rows more)
    ∙ sym (append_assoc (told_by system allowed past r) (told_in system allowed (r ∷ past) rows) (told_in system allowed (past_of (r ∷ past) rows) more))

module _ (system : System) (allowed : List Bool) (from : ℕ) where
  seen-next : (before after : CoreWatch) (held : List Row) (row : Row) → HasSeen system allowed from held before → InOrder [] (held ++ row ∷ [])
      → SeesMore allowed from before row true after → HasSeen system allowed from (held ++ row ∷ []) after
  seen-next before after held row has order sees =
      let now = sees.1 system (past_of [] held) has.watch (order-but-one [] held row order).1 in
      let next : row ∷ past_of [] held ≡ past_of [] (held ++ row ∷ []) = sym (past-append [] held (row ∷ [])) in
      let told : told_in system allowed [] (held ++ row ∷ []) ≡ told_in system allowed [] held ++ told_by system allowed (past_of [] held) row =
      told-append system allowed [] held (row ∷ []) ∙ ap (λ l. told_in system allowed [] held ++ l) (append-nil (told_by system allowed (past_of [] held) row)) in
      record {
        watch = now.0 ∙ ap (threads_of system) next;
        counts = now.1 ∙ ap (counted_at system allowed (past_of [] held) row) has.counts ∙ ap (counts_so_far system allowed) next;
        found = now.2 refl ∙ ap (λ l. l ++ since from (told_by system allowed (past_of [] held) row)) has.found
            ∙ sym (filter-append (λ (f : Found). nat_le from f.moment) (told_in system allowed [] held) (told_by system allowed (past_of [] held) row))
            ∙ ap (since from) (sym told);
      }

  -- a row that is taken is held after the others
  pub seen_more : (before after : Option CoreWatch) (held : List Row) (row : Row) → HoldsOwn system allowed from before held → TakesOwn allowed from before row true after
      → HoldsOwn system allowed from after (held ++ row ∷ [])
  seen_more None after held row holds takes = cc
  seen_more (Some before) None held row holds takes = cc
  seen_more (Some before) (Some after) held row holds takes = (
    takes.0 ∙ ap one_more holds.0 ∙ sym (fold-append (λ k _. one_more k) 0 held (row ∷ [])),
    λ order. seen-next before after held row (holds.1 (order-but-one [] held row order).0) order takes,
  )

  pub are_counted : (own : Option CoreWatch) (held : List Row) → HoldsOwn system allowed from own held → rows_seen own ≡ many_of held
  are_counted None held holds = ap many_of (sym holds)
  are_counted (Some own) held holds = holds.0
