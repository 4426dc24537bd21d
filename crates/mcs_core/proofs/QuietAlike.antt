-- Whether a turn is quiet does not ask how the ready threads are kept: a turn without a row leaves them as they were.
use Rattle.std.proofs.Common.{◌≡◌, ℕ, zero, suc, ◌+◌, List, [], refl, sym, ap, ◌∙◌, arith}
use Rattle.std.specs.Prelude.{◌↔◌, Option, Some, None, filter}
use Rattle.mcs_ticks.specs.Queue.{Discipline, by_priority, in_one_list}
use Rattle.mcs_ticks.specs.declared.queue.Queued.{Queued}
use Rattle.mcs_mail.specs.declared.mail.Mail.{Mail}
use Rattle.mcs_mail.specs.Box.{arriving}
use Rattle.mcs_release.specs.Release.{is_due}
use Rattle.mcs_system.specs.System.{System}
use Rattle.mcs_core.specs.Core.{Core}
use Rattle.mcs_core.specs.declared.standing.Chosen.{Chosen}
use Rattle.mcs_core.specs.Turn as turns
use Rattle.mcs_core.specs.Turn.{Turn, silent}
use Rattle.mcs_core.specs.Clock.{shown}
use Rattle.mcs_core.specs.Quiet.{counted, counted_of, counted_times, IsQuiet, IsQuietWith, AreQuiet, AreQuietWith, IsNextBusy, IsNextBusyWith}
use Rattle.mcs_core.specs.State.{State}
use Rattle.mcs_core.proofs.Alike.{turn_shown, turn-alike}
use Rattle.mcs_core.proofs.Quiet.{none-each, no-row}

-- if it makes no row, it leaves the ready threads as they are on this core
abbrev Keeps : Turn → Core → Type 0
Keeps made k = made.rows ≡ [] → made.core.ready ≡ k.ready

module _ (queue : Discipline) (system : System) (c t : ℕ) where
  tick_of-keep : (o : Option Chosen) (k : Core) → Keeps (turns.tick_of queue system c t o k) k
  tick_of-keep o k e = grind arith

  releases-keep : (k : Core) → Keeps (turns.releases queue system t k) k
  releases-keep k e = rw (none-each queue system c (turns.released queue) (λ d l e. cc) (filter (is_due t) k.releases) _ e) refl

  preempts_by-keep : (o : Option Chosen) (best : Option Queued) (k : Core) → Keeps (turns.preempts_by queue system t o best k) k
  preempts_by-keep o best k e = grind arith

  chooses_of-keep : (o : Option Chosen) (best : Option Queued) (k : Core) → Keeps (turns.chooses_of queue system t o best k) k
  chooses_of-keep o best k e = grind arith

  turn-keeps : (mails : List Mail) (k : Core) → Keeps (turns.turn_with queue system c t mails k) k
  turn-keeps mails k e =
      let none = no-row queue system c t mails (turns.tick queue system c t k) e in
      rw (none.no_alarm, none.no_mail, none.no_order)
      (let k0 = (turns.tick queue system c t k).core in
      let k1 = (turns.releases queue system t k0).core in
      let k2 = (turns.preempts queue system t k1).core in
      chooses_of-keep k2.running (queue.best k2.ready) k2 none.chosen ∙ preempts_by-keep k1.running (queue.best k1.ready) k1 none.preempted ∙ releases-keep k0 none.released ∙ tick_of-keep k.running k none.ticked)

-- a core is what is shown of it, and its list
same-core : (a b : Core) → shown a ≡ shown b → a.ready ≡ b.ready → a ≡ b
same-core a b e f = ap (λ (k : Core). record k { ready = a.ready }) e ∙ ap (λ ready. record b { ready = ready }) f

same-turn : (made : Turn) (k : Core) → made.core ≡ k → made.rows ≡ [] → made.mails ≡ [] → made ≡ silent k
same-turn made k e f g = rw (e, f, g) refl

module _ (system : System) (c : ℕ) where
  counted-shown : (o : Option Chosen) (k : Core) → shown (counted_of system c o k) ≡ counted_of system c o (shown k)
  counted-shown o k = grind arith

  counted-ready : (o : Option Chosen) (k : Core) → (counted_of system c o k).ready ≡ k.ready
  counted-ready o k = grind arith

  -- the turn of a core that keeps one list is quiet exactly if that of the shown core is
  pub quiet-alike : (t : ℕ) (mails : List Mail) (k : Core) → IsQuiet system c t mails k ↔ IsQuietWith by_priority system c t mails (shown k)
  quiet-alike t mails k = (
    λ q. sym (turn-alike system c t mails k) ∙ ap turn_shown q ∙ ap silent (counted-shown k.running k),
    λ q.
        let made = turns.turn_with in_one_list system c t mails k in
        let both : turn_shown made ≡ silent (shown (counted system c k)) = turn-alike system c t mails k ∙ q ∙ ap silent (sym (counted-shown k.running k)) in
        let none : made.rows ≡ [] = ap (λ (turn : Turn). turn.rows) both in
        same-turn made (counted system c k)
        (same-core made.core (counted system c k) (ap (λ (turn : Turn). turn.core) both)
        (turn-keeps in_one_list system c t mails k none ∙ sym (counted-ready k.running k)))
        none (ap (λ (turn : Turn). turn.mails) both),
  )

  pub counted-times-shown : (n : ℕ) (k : Core) → counted_times system c n (shown k) ≡ shown (counted_times system c n k)
  counted-times-shown zero k = refl
  counted-times-shown (suc n) k =
      let before = counted_times system c n k in
      ap (counted system c) (counted-times-shown n k) ∙ sym (counted-shown before.running before)

  later-shown : (t n : ℕ) (mails : List Mail) (k : Core) → IsQuiet system c t mails (counted_times system c n k) →
      IsQuietWith by_priority system c t mails (counted_times system c n (shown k))
  later-shown t n mails k q =
      rw (counted-times-shown n k) ((quiet-alike t mails (counted_times system c n k)).0 q)

  later-kept : (t n : ℕ) (mails : List Mail) (k : Core) → IsQuietWith by_priority system c t mails (counted_times system c n (shown k)) →
      IsQuiet system c t mails (counted_times system c n k)
  later-kept t n mails k q =
      (quiet-alike t mails (counted_times system c n k)).1 (rw (counted-times-shown n k) at q)

  -- so are many turns, and the next busy moment is the same
  pub quiet-shown : (clock : ℕ) (box : List Mail) (k : Core) (many : ℕ) → AreQuiet system c clock box k many → AreQuietWith by_priority system c clock box (shown k) many
  quiet-shown clock box k many q = λ n l. later-shown (clock + n) n (arriving (clock + n) box) k (q n l)

  quiet-kept : (clock : ℕ) (box : List Mail) (k : Core) (many : ℕ) → AreQuietWith by_priority system c clock box (shown k) many → AreQuiet system c clock box k many
  quiet-kept clock box k many q = λ n l. later-kept (clock + n) n (arriving (clock + n) box) k (q n l)

  busy-kept : (clock : ℕ) (box : List Mail) (k : Core) (o : Option ℕ) → IsNextBusyWith by_priority system c clock box (shown k) o → IsNextBusy system c clock box k o
  busy-kept clock box k None h = λ n l. later-kept (clock + n) n (arriving (clock + n) box) k (h n l)
  busy-kept clock box k (Some moment) h =
      (h.0, h.1, h.2, quiet-kept clock box k h.0 h.3, λ q. h.4 (later-shown moment h.0 (arriving moment box) k q))

-- what is so of the core of a state is so of each core that keeps one list and that the state shows
module _ (system : System) (state : State) (core : Core) (e : state.core ≡ shown core) where
  pub busy-of-one-list : (box : List Mail) (o : Option ℕ) → IsNextBusyWith by_priority system state.number state.clock box state.core o →
      IsNextBusy system state.number state.clock box core o
  busy-of-one-list box o h = busy-kept system state.number state.clock box core o (rw e at h)

  pub quiet-of-one-list : (box : List Mail) (many : ℕ) → AreQuietWith by_priority system state.number state.clock box state.core many →
      AreQuiet system state.number state.clock box core many
  quiet-of-one-list box many h = quiet-kept system state.number state.clock box core many (rw e at h)

  pub counted-of-one-list : (n : ℕ) → counted_times system state.number n state.core ≡ shown (counted_times system state.number n core)
  counted-of-one-list n = ap (counted_times system state.number n) e ∙ counted-times-shown system state.number n core
