-- The worlds of the spun system, moment by moment, and its schedule.
use Rattle.std.proofs.Common.{◌≡◌, ℕ, zero, suc, ◌+◌, Bool, true, false, cond, not, List, [], ◌∷◌, ◌++◌, map, set, get_or, refl, sym, ap, ◌∙◌, Option, Some, None}
use Rattle.std.specs.Prelude.{filter, fold, ◌==◌}
use Rattle.std.specs.List.{range_with_len, AllByRecursion}
use Rattle.std.proofs.lemmas.List.Elements.{filter-append}
use Rattle.std.proofs.lemmas.List.{length-map}
use Rattle.std.proofs.Math.ListN.{get_or-map}
use Rattle.mcs_ticks.specs.Queue.{Discipline, in_one_list}
use Rattle.mcs_ticks.specs.declared.row.Row.{Row}
use Rattle.mcs_ticks.specs.declared.row.What.{What}
use Rattle.mcs_control.specs.Context.{Context, new_context}
use Rattle.mcs_script.specs.declared.item.Item.TheVariants.{Spin}
use Rattle.mcs_mail.specs.declared.mail.Mail.{Mail}
use Rattle.mcs_system.specs.declared.part.ContextPart.{ContextPart}
use Rattle.mcs_system.specs.declared.part.ThreadPart.{ThreadPart}
use Rattle.mcs_system.specs.System.{System, core_of, start_of}
use Rattle.mcs_core.specs.Core.{Core, opening_thread, opening_releases, opening_contexts, opening_note, opening_core}
use Rattle.mcs_release.specs.declared.dated.Dated.{Dated}
use Rattle.mcs_core.specs.Turn.{Turn, turn_with, stamped}
use Rattle.mcs_core.specs.Clock as clocks
use Rattle.mcs_core.specs.Clock.{World, Clock}
use Rattle.mcs_spin.specs.Spun.{only_computes, spun_part, spun, stays_as, stays}
use Rattle.mcs_spin.proofs.FirstWords.{core-spun}
use Rattle.mcs_spin.proofs.Parts.{spinning, spun_state, spun_states, context-part}
use Rattle.mcs_spin.proofs.Waiters.{WaitsOther, IsSound}
use Rattle.mcs_spin.proofs.Turns.{spun_core, Goes, turn-goes}

start-part : (part : ThreadPart) → (spun_part part).start ≡ part.start
start-part part = by (only_computes part)
  where
    by : (b : Bool) → (cond b (record part { script = Spin ∷ [] }) part).start ≡ part.start
    by true = refl
    by false = refl

map-set : {A B : Type 0} (f : A → B) (xs : List A) (i : ℕ) (x : A) → map f (set xs i x) ≡ set (map f xs) i (f x)
map-set f [] zero x = refl
map-set f [] (suc i) x = refl
map-set f (y ∷ xs) zero x = refl
map-set f (y ∷ xs) (suc i) x = ap (λ ys. f y ∷ ys) (map-set f xs i x)

map-both : {A B C : Type 0} (f : A → B) (g : B → C) (h : A → C) → ((x : A) → h x ≡ g (f x)) → (xs : List A) → map h xs ≡ map g (map f xs)
map-both f g h e [] = refl
map-both f g h e (x ∷ xs) = ap (λ y. y ∷ map h xs) (e x) ∙ ap (λ ys. g (f x) ∷ ys) (map-both f g h e xs)

all-got : {A : Type 0} (P : A → Type 0) (xs : List A) (i : ℕ) (d : A) → AllByRecursion P xs → P d → P (get_or xs i d)
all-got P [] zero d h p = p
all-got P [] (suc i) d h p = p
all-got P (x ∷ xs) zero d h p = h.0
all-got P (x ∷ xs) (suc i) d h p = all-got P xs i d h.1 p

all-set : {A : Type 0} (P : A → Type 0) (xs : List A) (i : ℕ) (x : A) → AllByRecursion P xs → P x → AllByRecursion P (set xs i x)
all-set P [] zero x h p = tt
all-set P [] (suc i) x h p = tt
all-set P (y ∷ xs) zero x h p = (p, h.1)
all-set P (y ∷ xs) (suc i) x h p = (h.0, all-set P xs i x h.1 p)

all-map : {A B : Type 0} (P : B → Type 0) (f : A → B) → ((x : A) → P (f x)) → (xs : List A) → AllByRecursion P (map f xs)
all-map P f h [] = tt
all-map P f h (x ∷ xs) = (h x, all-map P f h xs)

filter-stamped : (system : System) (c t : ℕ) (rows : List What) → filter (stays system) (stamped c t rows) ≡ stamped c t (filter (stays_as system) rows)
filter-stamped system c t [] = refl
filter-stamped system c t (what ∷ rows) = by (stays_as system what) (filter-stamped system c t rows)
  where
    first : Row
    first = record { moment = t; core = c; what = what }

    by : (b : Bool) → filter (stays system) (stamped c t rows) ≡ stamped c t (filter (stays_as system) rows) →
        cond b (first ∷ filter (stays system) (stamped c t rows)) (filter (stays system) (stamped c t rows)) ≡ stamped c t (cond b (what ∷ filter (stays_as system) rows) (filter (stays_as system) rows))
    by true e = ap (λ rows. first ∷ rows) e
    by false e = e

module _ (system : System) where
  abbrev other : System
  other = spun system

  module _ (c : ℕ) where
    opened-thread : (part : ThreadPart) → opening_thread other c (spun_part part) ≡ spun_state part (opening_thread system c part)
    opened-thread part = by (only_computes part)
      where
        by : (b : Bool) → opening_thread other c (cond b (record part { script = Spin ∷ [] }) part) ≡ cond b (spinning part (opening_thread system c part)) (opening_thread system c part)
        by true = refl
        by false = refl

    opened-threads : (parts : List ThreadPart) → map (opening_thread other c) (map spun_part parts) ≡ spun_states parts (map (opening_thread system c) parts)
    opened-threads [] = refl
    opened-threads (part ∷ parts) =
        ap (λ first. first ∷ map (opening_thread other c) (map spun_part parts)) (opened-thread part)
        ∙ ap (λ others. spun_state part (opening_thread system c part) ∷ others) (opened-threads parts)

    opened-releases : (number : ℕ) (parts : List ThreadPart) → opening_releases other c number (map spun_part parts) ≡ opening_releases system c number parts
    opened-releases number [] = refl
    opened-releases number (part ∷ parts) =
        ap (λ core. made core (spun_part part).start (opening_releases other c (number + 1) (map spun_part parts))) (core-spun system part)
        ∙ ap (λ start. made (core_of system part) start (opening_releases other c (number + 1) (map spun_part parts))) (start-part part)
        ∙ ap (made (core_of system part) part.start) (opened-releases (number + 1) parts)
      where
        made : ℕ → ℕ → List Dated → List Dated
        made core start others = cond (core == c) (record { thread = number; date = start } ∷ others) others

    starts : (parts : List ThreadPart) (context : ℕ) → start_of (map spun_part parts) context ≡ start_of parts context
    starts [] context = refl
    starts (part ∷ parts) context =
        ap (λ own. cond (own == context) (spun_part part).start (start_of (map spun_part parts) context)) (context-part part)
        ∙ ap (λ start. cond (part.context == context) start (start_of (map spun_part parts) context)) (start-part part)
        ∙ ap (cond (part.context == context) part.start) (starts parts context)

    opened-contexts : (number : ℕ) (contexts : List ContextPart) → opening_contexts other c number contexts ≡ opening_contexts system c number contexts
    opened-contexts number [] = refl
    opened-contexts number (context ∷ contexts) =
        ap (λ start. made start (opening_contexts other c (number + 1) contexts)) (starts system.threads number)
        ∙ ap (made (start_of system.threads number)) (opened-contexts (number + 1) contexts)
      where
        made : ℕ → List (Option Context) → List (Option Context)
        made start others = cond (context.core == c) (Some (new_context context.config context.mode start)) None ∷ others

    opened : opening_core other c ≡ spun_core system (opening_core system c)
    opened =
        ap (λ threads. record (opening_core other c) { threads = threads }) (opened-threads system.threads)
        ∙ ap (λ releases. record (spun_core system (opening_core system c)) { releases = releases; contexts = opening_contexts other c 0 system.contexts }) (opened-releases 0 system.threads)
        ∙ ap (λ contexts. record (spun_core system (opening_core system c)) { contexts = contexts }) (opened-contexts 0 system.contexts)

    opened-sound : IsSound system (opening_core system c)
    opened-sound =
        record {
          threads = length-map system.threads (opening_thread system c);
          waiters = all-map (WaitsOther system) opening_note (λ note. tt) system.notes;
        }

  module _ (queue : Discipline) where
    abbrev spun_world : World → World
    spun_world world = record { cores = map (spun_core system) world.cores; mails = world.mails }

    abbrev spun_clock : Clock → Clock
    spun_clock clock = record { world = spun_world clock.world; rows = filter (stays system) clock.rows }

    -- a clock of the system, and the clock of the spun one at the same moment
    record Follows (a b : Clock) : Type 0 where
      sound : AllByRecursion (IsSound system) a.world.cores
      alike : spun_clock a ≡ b

    core-at : (world : World) (c : ℕ) → clocks.core_at other (spun_world world) c ≡ spun_core system (clocks.core_at system world c)
    core-at world c = ap (get_or (map (spun_core system) world.cores) c) (opened c) ∙ get_or-map (spun_core system) world.cores c (opening_core system c)

    module _ (t : ℕ) where
      made-goes : (c : ℕ) (world : World) → AllByRecursion (IsSound system) world.cores →
          Goes queue system t (clocks.turn_at_with queue system t c world) (clocks.turn_at_with queue other t c (spun_world world))
      made-goes c world s =
          let goes = turn-goes queue system t c (filter (clocks.arrives_at system t c) world.mails) (clocks.core_at system world c) (all-got (IsSound system) world.cores c (opening_core system c) s (opened-sound c)) in
          record { sound = goes.sound; alike = goes.alike ∙ ap (turn_with queue other c t (filter (clocks.arrives_at system t c) world.mails)) (sym (core-at world c)) }

      takes-turn : (clock : Clock) (c : ℕ) → AllByRecursion (IsSound system) clock.world.cores →
          Follows (clocks.takes_turn_with queue system t clock c) (clocks.takes_turn_with queue other t (spun_clock clock) c)
      takes-turn clock c s =
          record {
            sound = all-set (IsSound system) clock.world.cores c made.core s goes.sound;
            alike =
                ap (λ cores. after cores (filter (stays system) (clock.rows ++ stamped c t made.rows)) made.mails) (map-set (spun_core system) clock.world.cores c made.core)
                ∙ ap (λ rows. after (set (map (spun_core system) clock.world.cores) c (spun_core system made.core)) rows made.mails)
                (filter-append (stays system) clock.rows (stamped c t made.rows) ∙ ap (λ rows. filter (stays system) clock.rows ++ rows) (filter-stamped system c t made.rows))
                ∙ ap (λ (turn : Turn). after (set (map (spun_core system) clock.world.cores) c turn.core) (filter (stays system) clock.rows ++ stamped c t turn.rows) turn.mails) goes.alike;
          }
        where
          made : Turn
          made = clocks.turn_at_with queue system t c clock.world

          goes : Goes queue system t made (clocks.turn_at_with queue other t c (spun_world clock.world))
          goes = made-goes c clock.world s

          after : List Core → List Row → List Mail → Clock
          after cores rows mails =
              record {
                world = record { cores = cores; mails = filter (λ mail. not (clocks.arrives_at system t c mail)) clock.world.mails ++ mails };
                rows = rows;
              }

      takes-turns : (cs : List ℕ) (a b : Clock) → Follows a b → Follows (fold (clocks.takes_turn_with queue system t) a cs) (fold (clocks.takes_turn_with queue other t) b cs)
      takes-turns [] a b f = f
      takes-turns (c ∷ cs) a b f =
          let first = takes-turn a c f.sound in
          takes-turns cs (clocks.takes_turn_with queue system t a c) (clocks.takes_turn_with queue other t b c)
          (record { sound = first.sound; alike = first.alike ∙ ap (λ clock. clocks.takes_turn_with queue other t clock c) f.alike })

    follows : (t : ℕ) → Follows (clocks.clock_with queue system t) (clocks.clock_with queue other t)
    follows zero =
        record {
          sound = all-map (IsSound system) (opening_core system) opened-sound (range_with_len 0 system.cores);
          alike = ap first (sym (map-both (opening_core system) (spun_core system) (opening_core other) opened (range_with_len 0 system.cores)));
        }
      where
        first : List Core → Clock
        first cores = record { world = record { cores = cores; mails = [] }; rows = [] }
    follows (suc t) = takes-turns t (range_with_len 0 system.cores) (clocks.clock_with queue system t) (clocks.clock_with queue other t) (follows t)

  -- the rows of both schedules
  pub rows-spun : (horizon : ℕ) → filter (stays system) (clocks.schedule system horizon) ≡ clocks.schedule (spun system) horizon
  rows-spun horizon = ap (λ (clock : Clock). clock.rows) (follows in_one_list (suc horizon)).alike
