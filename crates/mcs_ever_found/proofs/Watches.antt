-- Facts of the run, by the watches of two moments.
use Rattle.std.proofs.Common.{◌≡◌, ℕ, ◌+◌, ◌^◌, ◌<◌, ◌≤◌, ◌⊎◌, inl, inr, Bool, true, false, List, length, get_or, sym, ap, subst, ◌∙◌}
use Rattle.std.specs.List.{list_any}
use Rattle.mcs_ticks.specs.declared.row.What.{What}
use Rattle.mcs_system.specs.System.{System, thread_part, note_part, core_of, is_server}
use Rattle.mcs_system.specs.WellFormed.{IsWellFormed}
use Rattle.mcs_verdict.specs.Later.{later_account, without_total, IsLaterThread, IsSameWord, IsLaterWord}
use Rattle.mcs_verdict.specs.Watch.{Watch}
use Rattle.mcs_ever.specs.Recurs.{Shifts, Recurs}
use Rattle.mcs_ever.specs.laws.Repeats.{ends_round, EndsNoRound}
use Rattle.mcs_ever_found.specs.Recurs.{takes_word, TakesNoWord, ThreadIsLater, WordIsSame, WordIsLater, FindingsRecur}
use Rattle.mcs_ever_found.specs.Doings.{Doings}
use Rattle.mcs_ever_found.specs.Period.{whats, AreKept}
use Rattle.mcs_ever_found.specs.Tests.{ThreadsRecur, WordsRecur}
use Rattle.mcs_ever_found.proofs.Flags.{flag-at}
use Rattle.mcs_ever_found.proofs.Quiet.{ends-none, takes-none}

module _ (system : System) (by from : ℕ) (before after : Watch) (doings : Doings) (kept : AreKept system by from before after doings) where
  abbrev period : List What
  period = whats kept.between

  -- a flag that is not set: no row did this
  pub ended-none : (x : ℕ) → x < length system.threads → get_or doings.ended x false ≡ false → list_any (ends_round x) period ≡ false
  ended-none x known none =
      sym (ap (λ (doings : Doings). get_or doings.ended x false) kept.done ∙ flag-at ends_round (length system.threads) period x false known) ∙ none

  pub taken-none : (n : ℕ) → n < length system.notes → get_or doings.taken n false ≡ false → list_any (takes_word n) period ≡ false
  taken-none n known none =
      sym (ap (λ (doings : Doings). get_or doings.taken n false) kept.done ∙ flag-at takes_word (length system.notes) period n false known) ∙ none

  -- an account or a word that is later in the watches is later in the run
  pub thread-later : (x : ℕ) → IsLaterThread by before after x → ThreadIsLater system by from x
  thread-later x is d =
      sym (ap (λ (watch : Watch). without_total (get_or watch.accounts x d)) kept.later) ∙ is.later d
      ∙ ap (λ (watch : Watch). later_account by (without_total (get_or watch.accounts x d))) kept.earlier

  pub word-same : (n : ℕ) → IsSameWord before after n → WordIsSame system by from n
  word-same n is d =
      sym (ap (λ (watch : Watch). (get_or watch.words n d).word) kept.later) ∙ is.same d
      ∙ ap (λ (watch : Watch). (get_or watch.words n d).word) kept.earlier

  pub word-later : (n : ℕ) → IsLaterWord by before after n → WordIsLater system by from n
  word-later n is d =
      sym (ap (λ (watch : Watch). (get_or watch.words n d).since) kept.later) ∙ is.later d
      ∙ ap (λ (watch : Watch). (get_or watch.words n d).since + by) kept.earlier

module _ (system : System) (group : ℕ → Bool) (shifts : Shifts) (from : ℕ) (well : IsWellFormed system) (recurs : Recurs system group shifts from)
    (before after : Watch) (doings : Doings) where
  recur : AreKept system shifts.by from before after doings → from + shifts.by ≤ 2 ^ 41 → ThreadsRecur system group shifts.by from before after doings (length system.threads) →
      WordsRecur system group shifts.by from before after doings (length system.notes) → FindingsRecur system group shifts from
  recur kept near threads words = record {
    recurs = recurs;
    near = near;
    started = λ x known own. (threads x known own).started;
    threads = λ x known own. thread x known own (threads x known own).later;
    words = λ n known own. word-same system shifts.by from before after doings kept n (words n known own).same;
    taken = λ n known own. taken n known own (words n known own).taken;
  }
    where
      thread : (x : ℕ) → x < length system.threads → group (core_of system (thread_part system x)) ≡ true →
          IsLaterThread shifts.by before after x ⊎ (get_or doings.ended x false ≡ false) →
          ThreadIsLater system shifts.by from x ⊎ EndsNoRound system x from (from + shifts.by)
      thread x known own (inl is) = inl (thread-later system shifts.by from before after doings kept x is)
      thread x known own (inr none) = inr (ends-none system group shifts from well recurs kept.between kept.on x own (ended-none system shifts.by from before after doings kept x known none))

      taken : (n : ℕ) → n < length system.notes → group (note_part system n).core ≡ true → IsLaterWord shifts.by before after n ⊎ ((get_or doings.taken n false ≡ false) ⊎ (is_server system n ≡ true)) →
          WordIsLater system shifts.by from n ⊎ (TakesNoWord system n from (from + shifts.by) ⊎ (is_server system n ≡ true))
      taken n known own (inl is) = inl (word-later system shifts.by from before after doings kept n is)
      taken n known own (inr (inr served)) = inr (inr served)
      taken n known own (inr (inl none)) = inr (inl (takes-none system group shifts from well recurs kept.between kept.on n own (taken-none system shifts.by from before after doings kept n known none)))

  pub findings-recur : (by : ℕ) → shifts.by ≡ by → AreKept system by from before after doings → from + by ≤ 2 ^ 41 → ThreadsRecur system group by from before after doings (length system.threads) →
      WordsRecur system group by from before after doings (length system.notes) → FindingsRecur system group shifts from
  findings-recur by same =
      let P : ℕ → Type 0 = λ by. AreKept system by from before after doings → from + by ≤ 2 ^ 41 → ThreadsRecur system group by from before after doings (length system.threads) →
      WordsRecur system group by from before after doings (length system.notes) → FindingsRecur system group shifts from in
      subst P same recur

-- a thread or a notification of another core
pub skip : (P : Type 0) (result own : Bool) → result ≡ own → result ≡ false → own ≡ true → P
skip P result own is none h = absurd (no (sym none ∙ is ∙ h))
  where
    no : false ≡ true → ⊥
    no e = cc
