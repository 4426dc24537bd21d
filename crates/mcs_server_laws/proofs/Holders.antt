-- At each moment each server has at most one holder: at first it is free, and each turn of its core keeps it so.
use Rattle.std.proofs.Common.{◌≡◌, ◌⊎◌, inl, inr, ℕ, zero, suc, ◌+◌, ◌-◌, ◌<◌, ◌≤◌, Bool, true, false, cond, not, ◌==◌, List, [], ◌∷◌, ◌++◌, length, map, get_or, Some, None, refl, sym, ap, subst, ◌∙◌, arith}
use Rattle.std.specs.Prelude.{filter, flat_map, nat_le}
use Rattle.std.specs.List.{AllByRecursion, range_with_len, slice_get}
use Rattle.std.proofs.lemmas.Bool.{cases_lt}
use Rattle.std.proofs.lemmas.Bool.Decides.{nat_tests}
use Rattle.std.proofs.lemmas.List.{get_or_past, get_or-drop, length-map, length-drop}
use Rattle.mcs_ticks.specs.Queue.{in_one_list}
use Rattle.mcs_notify.specs.Note.{quiet_note}
use Rattle.mcs_script.specs.declared.item.Item.{Item}
use Rattle.mcs_script.specs.declared.item.Item.TheVariants.{Signal, Enter}
use Rattle.mcs_script.specs.declared.place.Place.{Place}
use Rattle.mcs_script.specs.Script.{move_after, place_after}
use Rattle.mcs_mail.specs.declared.mail.Mail.{Mail}
use Rattle.mcs_system.specs.declared.part.Beat.{Beat}
use Rattle.mcs_system.specs.declared.part.NotePart.{NotePart}
use Rattle.mcs_system.specs.declared.part.ThreadPart.{ThreadPart}
use Rattle.mcs_system.specs.System.{System, no_note, no_thread, no_source, note_part, thread_part, source_part, core_of, is_server}
use Rattle.mcs_system.specs.WellFormed.{IsWellFormed, IsBeat}
use Rattle.mcs_core.specs.Alarms.{is_at_home, rung, rings, ringing, alarms_at}
use Rattle.mcs_core.specs.declared.alarm.Alarm.{Alarm}
use Rattle.mcs_core.specs.declared.standing.Standing.TheVariants.{Pending, Elsewhere}
use Rattle.mcs_core.specs.Core.{thread_of, Core, no_state, opening_core, opening_thread, opening_note}
use Rattle.mcs_core.specs.Clock as clocks
use Rattle.mcs_core.proofs.Clock.{core_shown-first, core_shown-kept, mails-world}
use Rattle.mcs_core.proofs.Counts.{times_waiting-at}
use Rattle.mcs_core.proofs.Mails.{IsOutgoing, turn-out}
use Rattle.mcs_laws.specs.Places.{places}
use Rattle.mcs_laws.proofs.Histories.{takes-time}
use Rattle.mcs_laws.proofs.Places.{one-shown, quiet-waiting}
use Rattle.mcs_laws.proofs.Ranges.{by_recursion}
use Rattle.mcs_server_laws.specs.Nesting.{is_in, inside, nests, ScriptsNest}
use Rattle.mcs_server_laws.specs.Exclusion.{is_done, ServersExclude, NoneEntersTwice}
use Rattle.mcs_server_laws.proofs.Dates.{alarm_before, before-map}
use Rattle.mcs_server_laws.proofs.Nesting.{may-stand}
use Rattle.mcs_server_laws.proofs.Calm.{item-is}
use Rattle.mcs_server_laws.proofs.Exclusion.{Good, turn-good}
use Rattle.mcs_server_laws.proofs.Tests.{all-filter}

-- what holds of each
all-append : {A : Type 0} (C : A → Type 0) (xs ys : List A) → AllByRecursion C xs → AllByRecursion C ys → AllByRecursion C (xs ++ ys)
all-append C [] ys all more = more
all-append C (x ∷ xs) ys all more = (all.0, all-append C xs ys all.1 more)

all-made : {A : Type 0} (C : A → Type 0) (f : ℕ → List A) (ns : List ℕ) → ((n : ℕ) → AllByRecursion C (f n)) → AllByRecursion C (flat_map f ns)
all-made C f [] h = tt
all-made C f (n ∷ ns) h = all-append C (f n) (flat_map f ns) (h n) (all-made C f ns h)

-- interrupts and signals are for notifications
module _ (system : System) (well : IsWellFormed system) where
  alarm-note : (beat : Beat) (t : ℕ) → (alarm_before system beat t).note ≡ (source_part system beat.source).note
  alarm-note beat zero = refl
  alarm-note beat (suc t) = by (rings t (alarm_before system beat t)) (alarm-note beat t)
    where
      by : (b : Bool) → (alarm_before system beat t).note ≡ (source_part system beat.source).note
          → (cond b (rung (alarm_before system beat t)) (alarm_before system beat t)).note ≡ (source_part system beat.source).note
      by true e = e
      by false e = e

  abbrev IsHeard : Alarm → Type 0
  IsHeard alarm = is_server system alarm.note ≡ false

  beats-heard : (t : ℕ) (beats : List Beat) → AllByRecursion (IsBeat system) beats → AllByRecursion IsHeard (map (λ beat. alarm_before system beat t) beats)
  beats-heard t [] all = tt
  beats-heard t (beat ∷ beats) all =
      (ap (is_server system) (alarm-note beat t) ∙ (well.sources.sources beat.source no_source all.0.source).signalled, beats-heard t beats all.1)

  pub alarms-heard : (c t : ℕ) → AllByRecursion (λ (alarm : Alarm). is_server system alarm.note ≡ false) (ringing t (alarms_at system c t))
  alarms-heard c t =
      let own = filter (is_at_home system c) system.beats in
      all-filter IsHeard (rings t) (alarms_at system c t)
      (subst (AllByRecursion IsHeard) (sym (before-map system own t))
      (beats-heard t own (all-filter (IsBeat system) (is_at_home system c) system.beats (by_recursion (IsBeat system) system.beats well.sources.beats))))

  abbrev IsSignalled : Mail → Type 0
  IsSignalled mail = is_server system mail.note ≡ false

  out-signalled : (c t : ℕ) (mails : List Mail) → IsOutgoing in_one_list system c t mails → AllByRecursion IsSignalled mails
  out-signalled c t [] out = tt
  out-signalled c t (mail ∷ []) out = ((item-is system well out.said.thread out.said.place (Signal mail.note mail.badge) out.said.item).1, tt)
  out-signalled c t (mail ∷ next ∷ mails) out = absurd out

  pub mails-signalled : (c t : ℕ) → AllByRecursion (λ (mail : Mail). is_server system mail.note ≡ false) (filter (clocks.arrives_at system t c) (clocks.world system t).mails)
  mails-signalled c t =
      subst (AllByRecursion IsSignalled) (sym (mails-world system (takes-time system well) t t c (omega arith)))
      (all-made IsSignalled _ (range_with_len 0 t)
      (λ u. all-made IsSignalled _ (range_with_len 0 system.cores)
      (λ b. all-filter IsSignalled (clocks.arrives_at system t c) (clocks.turn_of system b u).mails
      (out-signalled b u (clocks.turn_of system b u).mails
      (turn-out in_one_list system b u (filter (clocks.arrives_at system u b) (clocks.world system u).mails) (clocks.core_at system (clocks.world system u) b))))))

-- the threads of an opening core are not done, and stand at their first item
module _ (system : System) (c : ℕ) where
  opens : (parts : List ThreadPart) (x : ℕ)
      → (is_done (get_or (map (opening_thread system c) parts) x no_state).standing ≡ false) × ((get_or (map (opening_thread system c) parts) x no_state).place.item ≡ 0)
  opens [] x = (refl, refl)
  opens (part ∷ parts) zero = (by (core_of system part == c), refl)
    where
      by : (b : Bool) → is_done (cond b Pending Elsewhere) ≡ false
      by true = refl
      by false = refl
  opens (part ∷ parts) (suc x) = opens parts x

  opens-at : (parts : List ThreadPart) (x : ℕ) → (get_or (map (opening_thread system c) parts) x no_state).place.priority ≡ (get_or parts x no_thread).priority
  opens-at [] x = refl
  opens-at (part ∷ parts) zero = refl
  opens-at (part ∷ parts) (suc x) = opens-at parts x

opening-word : (notes : List NotePart) (n : ℕ) → n < length notes → (get_or (map opening_note notes) n quiet_note).word ≡ (get_or notes n no_note).word
opening-word [] n l = absurd (omega (arith, l))
opening-word (note ∷ notes) zero l = refl
opening-word (note ∷ notes) (suc n) l = opening-word notes n (omega (arith, l))

pub nested-each : (system : System) → ScriptsNest system → (x : ℕ) → nests (thread_part system x).script ≡ true
nested-each system h x = by (cases_lt x (length system.threads))
  where
    by : (x < length system.threads) ⊎ (length system.threads ≤ x) → nests (thread_part system x).script ≡ true
    by (inl within) = h x no_thread within
    by (inr past) = ap (λ (part : ThreadPart). nests part.script) (get_or_past system.threads x no_thread past)

module _ (system : System) (well : IsWellFormed system) (nest : ScriptsNest system) (Fits : ℕ → ℕ → ℕ → Type 0)
    (fits-first : (x : ℕ) → Fits x 0 (thread_part system x).priority)
    (fits-next : (x : ℕ) (item : Item) (place : Place) → slice_get (thread_part system x).script place.item ≡ Some item → Fits x place.item place.priority →
    let later = place_after system.call (thread_part system x).script (move_after (thread_part system x).script (thread_part system x).rounds place) place in
    Fits x later.item later.priority)
    (server : ℕ) (known : server < length system.notes) (is : is_server system server ≡ true) where
  abbrev pub GoodCore : Core → Type 0
  GoodCore k = Good system well (nested-each system nest) Fits fits-next server is k

  abbrev pub home : ℕ
  home = (note_part system server).core

  home-known : home < system.cores
  home-known = well.notes server no_note known

  free-word : (note_part system server).word ≡ 1
  free-word =
      let first = length system.notes - system.servers in
      let behind : first ≤ server = last (length system.notes) server system.servers is in
      let e : first + (server - first) ≡ server = omega (arith, behind) in
      sym (ap (λ n. (get_or system.notes n no_note).word) e) ∙ sym (ap (λ (note : NotePart). note.word) (get_or-drop first system.notes (server - first) no_note))
      ∙ well.servers.free (server - first) no_note (omega (arith, behind, known, length-drop first system.notes))
    where
      last : (all n servers : ℕ) → nat_le all (n + servers) ≡ true → all - servers ≤ n
      last all n servers e = grind (arith, nat_tests)

  fits-opening : (c x : ℕ) → Fits x (thread_of (opening_core system c) x).place.item (thread_of (opening_core system c) x).place.priority
  fits-opening c x =
      subst (λ p. Fits x (thread_of (opening_core system c) x).place.item p) (sym (opens-at system c system.threads x))
      (subst (λ i. Fits x i (thread_part system x).priority) (sym (opens system c system.threads x).1) (fits-first x))

  opening-good : (c : ℕ) → c < system.cores → GoodCore (opening_core system c)
  opening-good c on =
      record {
        kept = record {
          waits = λ n x l. absurd (omega (arith, l, times_waiting-at x n (map opening_note system.notes), quiet-waiting x system.notes));
          one = λ x. subst (λ k. places x k ≤ 1) (core_shown-first system c on) (one-shown system (takes-time system well) c 0 x on);
          alive = λ x l. (opens system c system.threads x).0;
          there = omega (arith, known, length-map system.notes opening_note);
          many = length-map system.threads (opening_thread system c);
          line = (tt, tt);
          fits = fits-opening c;
        };
        holder = None;
        held = record {
          word = opening-word system.notes server known ∙ free-word;
          inside = λ x. rw ((opens system c system.threads x).0, (opens system c system.threads x).1) refl;
        };
      }

  pub good-at : (t : ℕ) → GoodCore (clocks.core_shown system (clocks.world system t) home)
  good-at zero = subst GoodCore (sym (core_shown-first system home home-known)) (opening-good home home-known)
  good-at (suc t) =
      subst GoodCore (sym (core_shown-kept system (takes-time system well) t home home-known))
      (turn-good system well (nested-each system nest) Fits fits-next server is t home (filter (clocks.arrives_at system t home) (clocks.world system t).mails)
      (clocks.core_shown system (clocks.world system t) home) (alarms-heard system well home t) (mails-signalled system well home t) (good-at t))

pub servers-exclude : (system : System) → IsWellFormed system → ScriptsNest system → ServersExclude system
servers-exclude system well nest server t known is =
    let g = good-at system well nest (λ x i p. Unit {0}) (λ x. tt) (λ x item place e h. tt) server known is t in
    (g.holder, record { word = g.held.word; inside = g.held.inside })

pub none-enters-twice : (system : System) → ScriptsNest system → NoneEntersTwice system
none-enters-twice system nest thread item server priority e =
    by (is_in server (inside item (thread_part system thread).script)) (may-stand (thread_part system thread).script (nested-each system nest thread) (Enter server priority) item e)
  where
    by : (b : Bool) → not b ≡ true → b ≡ false
    by true f = absurd (cc)
    by false f = refl
