-- Interrupts and signals are for notifications, and never for servers.
use Rattle.std.proofs.Common.{◌≡◌, ℕ, zero, suc, ◌<◌, Bool, true, false, cond, not, List, [], ◌∷◌, ◌++◌, map, length, get_or, refl, arith}
use Rattle.std.specs.Prelude.{filter, fold}
use Rattle.std.specs.List.{AllByRecursion, range_with_len}
use Rattle.mcs_mail.specs.declared.mail.Mail.{Mail}
use Rattle.mcs_system.specs.declared.part.Beat.{Beat}
use Rattle.mcs_system.specs.System.{System, is_server, note_part, source_part, no_source, thread_part, core_of}
use Rattle.mcs_system.specs.WellFormed.{IsWellFormed, IsBeat, IsItem}
use Rattle.mcs_script.specs.declared.item.Item.TheVariants.{Signal}
use Rattle.mcs_core.specs.declared.alarm.Alarm.{Alarm}
use Rattle.mcs_core.specs.Alarms.{alarm_of, is_at_home, rung, rings, ringing, past, before_moment, alarms_at}
use Rattle.mcs_core.specs.Clock as clocks
use Rattle.mcs_core.specs.Clock.{Clock}
use Rattle.mcs_ticks.specs.Queue.{in_one_list}
use Rattle.mcs_core.proofs.Mails.{IsMadeNow, IsOutgoing, turn-out}
use Rattle.mcs_verdict_laws.proofs.Entering.{equal}
use Rattle.mcs_verdict_laws.proofs.Finishing.{item_home}

all-filter : {A : Type 0} (C : A → Type 0) (p : A → Bool) (xs : List A) → AllByRecursion C xs → AllByRecursion C (filter p xs)
all-filter C p [] all = tt
all-filter C p (x ∷ xs) all = by (p x) (all-filter C p xs all.1)
  where
    by : (b : Bool) → AllByRecursion C (filter p xs) → AllByRecursion C (cond b (x ∷ filter p xs) (filter p xs))
    by true rest = (all.0, rest)
    by false rest = rest

all-append : {A : Type 0} (C : A → Type 0) (xs ys : List A) → AllByRecursion C xs → AllByRecursion C ys → AllByRecursion C (xs ++ ys)
all-append C [] ys all more = more
all-append C (x ∷ xs) ys all more = (all.0, all-append C xs ys all.1 more)

module _ (system : System) (well : IsWellFormed system) where
  -- the alarms of a core ring on notifications of it
  pub record IsHeard (c : ℕ) (alarm : Alarm) : Type 0 where
    pub home : (note_part system alarm.note).core ≡ c
    pub signalled : is_server system alarm.note ≡ false

  first-heard : (c : ℕ) (beats : List Beat) → AllByRecursion (IsBeat system) beats
      → AllByRecursion (IsHeard c) (map (alarm_of system) (filter (is_at_home system c) beats))
  first-heard c [] all = tt
  first-heard c (beat ∷ beats) all = by (is_at_home system c beat) refl (first-heard c beats all.1)
    where
      by : (b : Bool) → is_at_home system c beat ≡ b
          → AllByRecursion (IsHeard c) (map (alarm_of system) (filter (is_at_home system c) beats))
          → AllByRecursion (IsHeard c) (map (alarm_of system) (cond b (beat ∷ filter (is_at_home system c) beats) (filter (is_at_home system c) beats)))
      by true e rest = (
        record {
          home = equal (note_part system (source_part system beat.source).note).core c e;
          signalled = (well.sources.sources beat.source no_source all.0.source).signalled;
        },
        rest,
      )
      by false e rest = rest

  past-heard : (c t : ℕ) (alarms : List Alarm) → AllByRecursion (IsHeard c) alarms → AllByRecursion (IsHeard c) (past t alarms)
  past-heard c t [] all = tt
  past-heard c t (alarm ∷ alarms) all = (by (rings t alarm), past-heard c t alarms all.1)
    where
      by : (b : Bool) → IsHeard c (cond b (rung alarm) alarm)
      by true = record { home = all.0.home; signalled = all.0.signalled }
      by false = all.0

  before-heard : (c t : ℕ) (alarms : List Alarm) → AllByRecursion (IsHeard c) alarms → AllByRecursion (IsHeard c) (before_moment t alarms)
  before-heard c zero alarms all = all
  before-heard c (suc t) alarms all = past-heard c t (before_moment t alarms) (before-heard c t alarms all)

  each-beat : (beats : List Beat) → ((k : ℕ) (d : Beat) → k < length beats → IsBeat system (get_or beats k d)) → AllByRecursion (IsBeat system) beats
  each-beat [] h = tt
  each-beat (beat ∷ beats) h = (h 0 beat (omega arith), each-beat beats (λ k d l. h (suc k) d (omega arith)))

  pub alarms-heard : (c t : ℕ) → AllByRecursion (IsHeard c) (ringing t (alarms_at system c t))
  alarms-heard c t =
      all-filter (IsHeard c) (rings t) (alarms_at system c t)
      (before-heard c t (map (alarm_of system) (filter (is_at_home system c) system.beats)) (first-heard c system.beats (each-beat system.beats well.sources.beats)))

  -- signals under way are for notifications
  abbrev pub IsSignalled : Mail → Type 0
  IsSignalled mail = is_server system mail.note ≡ false

  made-signalled : (c t : ℕ) (mail : Mail) → IsMadeNow system c t mail → IsSignalled mail
  made-signalled c t mail made =
      let is : IsItem system (core_of system (thread_part system made.said.thread)) (Signal mail.note mail.badge) =
      item_home system well made.said.thread made.said.place (Signal mail.note mail.badge) made.said.item
      in
      is.1

  out-signalled : (c t : ℕ) (mails : List Mail) → IsOutgoing in_one_list system c t mails → AllByRecursion IsSignalled mails
  out-signalled c t [] out = tt
  out-signalled c t (mail ∷ []) out = (made-signalled c t mail out, tt)
  out-signalled c t (mail ∷ next ∷ mails) out = absurd out

  turn-signalled : (t c : ℕ) (clock : Clock) → AllByRecursion IsSignalled clock.world.mails
      → AllByRecursion IsSignalled (clocks.takes_turn_with in_one_list system t clock c).world.mails
  turn-signalled t c clock all =
      all-append IsSignalled (filter (λ mail. not (clocks.arrives_at system t c mail)) clock.world.mails)
      (clocks.turn_at_with in_one_list system t c clock.world).mails
      (all-filter IsSignalled (λ mail. not (clocks.arrives_at system t c mail)) clock.world.mails all)
      (out-signalled c t (clocks.turn_at_with in_one_list system t c clock.world).mails
      (turn-out in_one_list system c t (filter (clocks.arrives_at system t c) clock.world.mails) (clocks.core_at system clock.world c)))

  moment-signalled : (t : ℕ) (cores : List ℕ) (clock : Clock) → AllByRecursion IsSignalled clock.world.mails
      → AllByRecursion IsSignalled (fold (clocks.takes_turn_with in_one_list system t) clock cores).world.mails
  moment-signalled t [] clock all = all
  moment-signalled t (c ∷ cores) clock all =
      moment-signalled t cores (clocks.takes_turn_with in_one_list system t clock c) (turn-signalled t c clock all)

  under-way-signalled : (t : ℕ) → AllByRecursion IsSignalled (clocks.world system t).mails
  under-way-signalled zero = tt
  under-way-signalled (suc t) =
      moment-signalled t (range_with_len 0 system.cores) (clocks.clock system t) (under-way-signalled t)

  pub mails-signalled : (t c : ℕ) → AllByRecursion IsSignalled (filter (clocks.arrives_at system t c) (clocks.world system t).mails)
  mails-signalled t c = all-filter IsSignalled (clocks.arrives_at system t c) (clocks.world system t).mails (under-way-signalled t)
