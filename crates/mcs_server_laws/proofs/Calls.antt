-- A thread that stops with `call` is about to enter a server that another one has.
use Rattle.std.proofs.Common.{◌≡◌, ◌⊎◌, inl, inr, ℕ, ◌+◌, ◌<◌, ◌≤◌, Bool, true, false, not, cond, ◌==◌, ◌&&◌, List, [], ◌∷◌, ◌++◌, length, get_or, Option, Some, None, refl, sym, ap, subst, ◌∙◌, arith}
use Rattle.std.specs.Prelude.{filter}
use Rattle.std.specs.List.{slice_get, AllByRecursion}
use Rattle.std.proofs.lemmas.Bool.{cases_lt}
use Rattle.mcs_ticks.specs.Queue.{in_one_list}
use Rattle.mcs_ticks.specs.declared.row.What.{What}
use Rattle.mcs_ticks.specs.declared.row.What.TheVariants as row
use Rattle.mcs_ticks.specs.declared.row.Why.TheVariants as why
use Rattle.mcs_notify.specs.Note.{Note, quiet_note, waited}
use Rattle.mcs_notify.specs.declared.posted.Waited.{Waited}
use Rattle.mcs_notify.specs.declared.posted.Waited.TheVariants.{Got, Blocks}
use Rattle.mcs_script.specs.declared.item.Item.{Item}
use Rattle.mcs_script.specs.declared.item.Item.TheVariants.{Compute, Signal, Wait, Yield, On, Spin, Enter, Leave}
use Rattle.mcs_script.specs.declared.moved.Moved.{Moved}
use Rattle.mcs_script.specs.declared.moved.Moved.TheVariants.{Next, RoundEnds, AllDone}
use Rattle.mcs_system.specs.System.{System, note_part, thread_part, is_server}
use Rattle.mcs_system.specs.WellFormed.{IsWellFormed}
use Rattle.mcs_core.specs.Alarms.{ringing, alarms_at}
use Rattle.mcs_core.specs.declared.standing.AfterItem.{AfterItem}
use Rattle.mcs_core.specs.declared.standing.AfterItem.TheVariants as after
use Rattle.mcs_core.specs.declared.standing.Chosen.{Chosen}
use Rattle.mcs_core.specs.declared.standing.Thread.{Thread}
use Rattle.mcs_core.specs.Core.{Core, note_of, thread_of}
use Rattle.mcs_core.specs.Places.{times_queued}
use Rattle.mcs_core.specs.Turn as turns
use Rattle.mcs_core.specs.Turn.{Turn, says, ◌followed_by◌, each, is_for_now}
use Rattle.mcs_core.specs.Clock as clocks
use Rattle.mcs_laws.proofs.Links.{runs-at-home}
use Rattle.mcs_server_laws.specs.Nesting.{is_in, inside, ScriptsNest}
use Rattle.mcs_server_laws.specs.Exclusion.{is_done, is_inside, IsHeldBy, home_of}
use Rattle.mcs_server_laws.specs.Ceiling.{AreCeilings, IsBehind, TellsCall, CallsWait}
use Rattle.mcs_server_laws.proofs.Rows as rows
use Rattle.mcs_server_laws.proofs.Rows.{IsPlain}
use Rattle.mcs_server_laws.proofs.Calm.{view-set, item-is}
use Rattle.mcs_server_laws.proofs.Holders.{servers-exclude, none-enters-twice}
use Rattle.mcs_server_laws.proofs.Ceiling.{none-calls}
use Rattle.mcs_server_laws.proofs.Tests.{itself, is_zero}

abbrev is_call : What → Bool
is_call (row.Stop thread why.Call charged until) = true
is_call _ = false

plain : (what : What) → IsPlain what → is_call what ≡ false
plain (row.Stop thread why.Call charged until) h = absurd h
plain what h = refl

abbrev told : List What → List What
told whats = filter is_call whats

module _ (system : System) (well : IsWellFormed system) (nest : ScriptsNest system) (ceiling : ℕ → ℕ) (are : AreCeilings system ceiling) (c t : ℕ) (known : c < system.cores) where
  abbrev Tells : List What → Type 0
  Tells whats = AllByRecursion (TellsCall system ceiling t) whats

  none-tells : (whats : List What) → told whats ≡ [] → Tells whats
  none-tells [] e = tt
  none-tells (row.Stop thread why.Call charged until ∷ whats) e = absurd (cc)
  none-tells (what ∷ whats) e = (tt, none-tells whats e)

  tells-append : (xs ys : List What) → Tells xs → Tells ys → Tells (xs ++ ys)
  tells-append [] ys p q = q
  tells-append (x ∷ xs) ys p q = (p.0, tells-append xs ys p.1 q)

  abbrev core : Core
  core = clocks.core_at system (clocks.world system t) c

  no-word : (note : Note) → waited note ≡ Blocks → note.word ≡ 0
  no-word note e = by (note.word == 0) refl e
    where
      by : (b : Bool) → (note.word == 0) ≡ b → cond b Blocks (Got note.word) ≡ Blocks → note.word ≡ 0
      by true f g = is_zero note.word f
      by false f g = absurd (cc)

  none-or : (n : ℕ) → (1 ≤ n → ⊥) → n ≡ 0
  none-or n h = by (cases_lt 0 n)
    where
      by : (0 < n) ⊎ (n ≤ 0) → n ≡ 0
      by (inl some) = absurd (h (omega (arith, some)))
      by (inr none) = omega (arith, none)

  -- a thread that is about to enter a server is not in it
  no-circle : (x server priority : ℕ) (k : Core) → slice_get (thread_part system x).script (thread_of k x).place.item ≡ Some (Enter server priority)
      → is_inside system server x (thread_of k x) ≡ true → ⊥
  no-circle x server priority k at within =
      one (is_done (thread_of k x).standing) (is_in server (inside (thread_of k x).place.item (thread_part system x).script))
      (none-enters-twice system nest x (thread_of k x).place.item server priority at) within
    where
      one : (a b : Bool) → b ≡ false → (not a && b) ≡ true → ⊥
      one true b f g = cc
      one false true f g = cc
      one false false f g = cc

  -- a thread that runs, at an item that enters a server that is taken
  behind : (chosen : Chosen) (server priority : ℕ) → core.running ≡ Some chosen
      → slice_get (thread_part system chosen.thread).script (thread_of core chosen.thread).place.item ≡ Some (Enter server priority)
      → waited (note_of core server) ≡ Blocks → IsBehind system ceiling chosen.thread t
  behind chosen server priority runs e w =
      let is = item-is system well chosen.thread (thread_of core chosen.thread).place.item (Enter server priority) e in
      let home : c ≡ (note_part system server).core = sym (is.1 ∙ runs-at-home system well c t known chosen runs) in
      let g = servers-exclude system well nest server t is.0 is.2 in
      by (ap (clocks.core_at system (clocks.world system t)) home) is.0 is.2 g.0 g.1
    where
      by : core ≡ home_of system server t → server < length system.notes → is_server system server ≡ true → (o : Option ℕ)
          → IsHeldBy system server o (home_of system server t) → IsBehind system ceiling chosen.thread t
      by same l is None held =
          let zero-word : (note_of (home_of system server t) server).word ≡ 0 = no-word (note_of (home_of system server t) server) (subst (λ k. waited (note_of k server) ≡ Blocks) same w) in
          absurd (omega (arith, zero-word, held.word))
      by same l is (Some holder) held =
          let runs-there : (home_of system server t).running ≡ Some chosen = subst (λ (k : Core). k.running ≡ Some chosen) same runs in
          let enters-there = subst (λ k. slice_get (thread_part system chosen.thread).script (thread_of k chosen.thread).place.item ≡ Some (Enter server priority)) same e in
          record {
            server = server;
            priority = priority;
            holder = holder;
            using = chosen.using;
            other = λ self. no-circle chosen.thread server priority (home_of system server t) enters-there (held.inside chosen.thread ∙ subst (λ z. (holder == z) ≡ true) self (itself holder));
            held = held;
            not_ready = none-or (times_queued holder (home_of system server t).ready) (λ some.
                none-calls system well nest ceiling are server t holder priority chosen record { known = l; is = is; held = held; ready = some; runs = runs-there } enters-there);
            runs = runs-there;
            enters = enters-there;
          }

  -- at most one stop follows an item
  stop-tells : (x using : ℕ) (cause : AfterItem) (k : Core) → (cause ≡ after.Calls → IsBehind system ceiling x t) → Tells (turns.may_stop in_one_list system t x using cause k).rows
  stop-tells x using after.Calls k h = (h refl, tt)
  stop-tells x using after.Ends k h = (tt, tt)
  stop-tells x using after.Blocks k h = (tt, tt)
  stop-tells x using after.Yields k h = (tt, tt)
  stop-tells x using after.GoesOn k h = none-tells _ (rows.may_stop-none is_call plain in_one_list system c t x using after.GoesOn k tt)

  moved-calls : (m : Moved) (cause : AfterItem) → (cause ≡ after.Calls → ⊥) → turns.after_move m cause ≡ after.Calls → ⊥
  moved-calls Next cause h e = h e
  moved-calls RoundEnds cause h e = h e
  moved-calls AllDone cause h e = cc

  goes-on : after.GoesOn ≡ after.Calls → ⊥
  goes-on e = cc

  yields : after.Yields ≡ after.Calls → ⊥
  yields e = cc

  -- only the entering of a server that is taken lets a thread wait for it
  which-item : (chosen : Chosen) (k : Core) (o : Option Item) → core.running ≡ Some chosen
      → slice_get (thread_part system chosen.thread).script (thread_of core chosen.thread).place.item ≡ o → k.notes ≡ core.notes
      → turns.after_item system chosen.thread o k ≡ after.Calls → IsBehind system ceiling chosen.thread t
  which-item chosen k (Some (Enter server priority)) runs e same f = by (waited (note_of k server)) refl f
    where
      by : (w : Waited) → waited (note_of k server) ≡ w → turns.after_entered w ≡ after.Calls → IsBehind system ceiling chosen.thread t
      by (Got word) g h = absurd (goes-on h)
      by Blocks g h = behind chosen server priority runs e (subst (λ (notes : List Note). waited (get_or notes server quiet_note) ≡ Blocks) same g)
  which-item chosen k (Some (Wait note)) runs e same f = absurd (by (waited (note_of k note)) f)
    where
      by : (w : Waited) → turns.after_waited w ≡ after.Calls → ⊥
      by (Got word) h = goes-on h
      by Blocks h = cc
  which-item chosen k (Some Yield) runs e same f = absurd (moved-calls (turns.move_of system chosen.thread k) after.Yields yields f)
  which-item chosen k (Some (Compute ticks)) runs e same f = absurd (moved-calls (turns.move_of system chosen.thread k) after.GoesOn goes-on f)
  which-item chosen k (Some (Signal note badge)) runs e same f = absurd (moved-calls (turns.move_of system chosen.thread k) after.GoesOn goes-on f)
  which-item chosen k (Some (On badges)) runs e same f = absurd (moved-calls (turns.move_of system chosen.thread k) after.GoesOn goes-on f)
  which-item chosen k (Some Spin) runs e same f = absurd (moved-calls (turns.move_of system chosen.thread k) after.GoesOn goes-on f)
  which-item chosen k (Some (Leave server priority)) runs e same f = absurd (moved-calls (turns.move_of system chosen.thread k) after.GoesOn goes-on f)
  which-item chosen k None runs e same f = absurd (goes-on f)

  -- the end of the tick
  tick-tells : (o : Option Chosen) → core.running ≡ o → Tells (turns.tick_of in_one_list system c t o core).rows
  tick-tells None e = tt
  tick-tells (Some chosen) e = by ((thread_of counted chosen.thread).place.left == 0)
    where
      counted : Core
      counted = turns.counts chosen core

      item : Option Item
      item = turns.item_of system chosen.thread counted

      same-item : (thread_of counted chosen.thread).place.item ≡ (thread_of core chosen.thread).place.item
      same-item = view-set (λ (s : Thread). s.place.item) core.threads chosen.thread chosen.thread _ refl

      by : (b : Bool) → Tells
          (cond b (turns.finishes in_one_list system c t chosen.thread (chosen.using + 1) item counted)
          (turns.may_stop in_one_list system t chosen.thread (chosen.using + 1) after.GoesOn counted)).rows
      by true =
          tells-append (turns.takes_effect in_one_list system c t chosen.thread item counted).rows _
          (none-tells _ (rows.effect-none is_call plain in_one_list system c t chosen.thread item counted))
          (stop-tells chosen.thread (chosen.using + 1) (turns.after_item system chosen.thread item counted) (turns.takes_effect in_one_list system c t chosen.thread item counted).core
          (which-item chosen counted item e (ap (slice_get (thread_part system chosen.thread).script) (sym same-item)) refl))
      by false = stop-tells chosen.thread (chosen.using + 1) after.GoesOn counted (λ f. absurd (goes-on f))

  turn-tells : Tells (clocks.turn_of system c t).rows
  turn-tells =
      let mails = filter (clocks.arrives_at system t c) (clocks.world system t).mails in
      let first = turns.tick in_one_list system c t core in
      let rang = each (turns.interrupts in_one_list system t) (ringing t (alarms_at system c t)) first.core in
      let came = each (turns.arrives in_one_list system t) mails rang.core in
      let obeyed = each (turns.obeys in_one_list system t) (filter (is_for_now system c t) system.orders) came.core in
      let freed = turns.releases in_one_list system t obeyed.core in
      let gave = turns.preempts in_one_list system t freed.core in
      let chosen = turns.chooses in_one_list system t gave.core in
      all first.rows rang.rows came.rows obeyed.rows freed.rows gave.rows chosen.rows
      (tick-tells core.running refl)
      (rows.none-each is_call plain (turns.interrupts in_one_list system t) (λ alarm k. rows.posts-none is_call plain in_one_list system c t alarm.note alarm.badge k) (ringing t (alarms_at system c t)) first.core)
      (rows.none-each is_call plain (turns.arrives in_one_list system t) (rows.arrives-none is_call plain in_one_list system c t) mails rang.core)
      (rows.none-each is_call plain (turns.obeys in_one_list system t) (rows.obeys-none is_call plain in_one_list system c t) (filter (is_for_now system c t) system.orders) came.core)
      (rows.releases-none is_call plain in_one_list system c t obeyed.core)
      (rows.preempts-none is_call plain in_one_list system c t freed.core.running (in_one_list.best freed.core.ready) freed.core)
      (rows.chooses-none is_call plain in_one_list system c t gave.core.running (in_one_list.best gave.core.ready) gave.core)
    where
      more : (xs ys : List What) → Tells xs → told ys ≡ [] → Tells (xs ++ ys)
      more xs ys p e = tells-append xs ys p (none-tells ys e)

      all : (a i b d e f g : List What) → Tells a → told i ≡ [] → told b ≡ [] → told d ≡ [] → told e ≡ [] → told f ≡ [] → told g ≡ [] → Tells (a ++ i ++ b ++ d ++ e ++ f ++ g)
      all a i b d e f g p q r s u v w =
          more (a ++ i ++ b ++ d ++ e ++ f) g (more (a ++ i ++ b ++ d ++ e) f (more (a ++ i ++ b ++ d) e (more (a ++ i ++ b) d (more (a ++ i) b (more a i p q) r) s) u) v) w

pub calls-wait : (system : System) → IsWellFormed system → ScriptsNest system → (ceiling : ℕ → ℕ) → AreCeilings system ceiling → CallsWait system ceiling
calls-wait system well nest ceiling are c t known = turn-tells system well nest ceiling are c t known
