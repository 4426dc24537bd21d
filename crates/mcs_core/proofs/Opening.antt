-- The core with which a run opens is sound.
use Rattle.std.proofs.Common.{◌≡◌, ℕ, zero, suc, ◌+◌, ◌^◌, ◌<◌, ◌≤◌, ◌⊎◌, inl, inr, Bool, true, false, cond, List, [], ◌∷◌, ◌++◌, length, take, replicate, set, map, get_or, add-one, refl, sym, ap, ◌∙◌, arith}
use Rattle.std.specs.Prelude.{◌==◌, Option, Some, None, unwrap_or, option_map, All}
use Rattle.std.specs.List.{AllByRecursion}
use Rattle.std.proofs.lemmas.Bool.{cases_lt}
use Rattle.std.proofs.lemmas.Bool.Decides.{nat_tests}
use Rattle.std.proofs.lemmas.List.{get_or-map, get_or_past, length-map}
use Rattle.mcs_ticks.specs.declared.queue.Queued.{Queued}
use Rattle.mcs_refills.specs.Server.{first_date, dates_from}
use Rattle.mcs_refills.proofs.Spaces.{kept-new}
use Rattle.mcs_control.specs.laws.Contexts.{IsWhole}
use Rattle.mcs_control.specs.declared.config.Config.{Config}
use Rattle.mcs_control.specs.declared.config.Mode.{Mode}
use Rattle.mcs_control.specs.declared.config.Kind.{Kind}
use Rattle.mcs_control.specs.declared.config.Kind.TheVariants.{Sporadic, RoundRobin}
use Rattle.mcs_control.specs.Control.{kind_of}
use Rattle.mcs_control.specs.Context.{Context, new_context, first_budget, head_moment, moment_of}
use Rattle.mcs_notify.specs.Note.{Note, quiet_note, posted, after_post}
use Rattle.mcs_notify.specs.declared.posted.Posted.{Posted}
use Rattle.std.specs.Int.Bits.{or_zero_l}
use Rattle.mcs_release.specs.declared.dated.Dated.{Dated}
use Rattle.mcs_system.specs.declared.part.ContextPart.{ContextPart}
use Rattle.mcs_system.specs.declared.part.NotePart.{NotePart}
use Rattle.mcs_system.specs.declared.part.ThreadPart.{ThreadPart}
use Rattle.mcs_core.specs.declared.standing.Standing.TheVariants.{Pending, Elsewhere}
use Rattle.mcs_core.specs.declared.standing.Thread.{Thread}
use Rattle.mcs_system.specs.System.{System, context_part, thread_part, no_context, no_thread, core_of, start_of}
use Rattle.mcs_core.specs.stored.Contexts.{Kept, unboxed, seen_contexts, HasRoom, HaveRoom}
use Rattle.mcs_core.specs.Contexts.{no_server, is_some, is_own}
use Rattle.mcs_core.specs.Core.{Core, no_state, thread_of, context_of, opening_thread, opening_releases, opening_contexts, opening_note, opening_core}
use Rattle.mcs_core.specs.stored.Sound.{times_pending, is_here, has_context, IsPlaced, AreEarly, IsContextOf, IsSound}
use Rattle.mcs_core.specs.Alarms.{alarms_of}
use Rattle.mcs_core.specs.declared.alarm.Alarm.{Alarm}
use Rattle.mcs_core.specs.Places.{times_dated, times_waiting}
use Rattle.mcs_core.specs.stored.Sound.Phase.{Between}
use Rattle.mcs_system.specs.WellFormed.{IsWellFormed, IsContext, IsThread}
use Rattle.mcs_control.specs.declared.config.Order.{Order}
use Rattle.mcs_core.specs.Orders.{orders_of}
use Rattle.mcs_core.specs.State.{State, Fits, delays_from, opening_state}
use Rattle.mcs_core.proofs.Budgets.{IsAccepted, accepted-is}
use Rattle.mcs_core.proofs.Counts.{either}
use Rattle.mcs_core.proofs.Plans.{to_come-all}

-- no start is later than a moment of a run
pub start-early : (system : System) (threads : List ThreadPart) (k : ℕ) → All (IsThread system) threads → start_of threads k ≤ 2 ^ 40
start-early system [] k h = omega arith
start-early system (thread ∷ threads) k h =
    let t : IsThread system thread = h 0 thread (omega arith) in
    either (λ n. n ≤ 2 ^ 40) (thread.context == k) thread.start (start_of threads k) t.start (start-early system threads k (λ i d l. h (suc i) d (omega arith)))

-- nor is the head of a new context
new-early : (config : Config) (mode : Mode) (at : ℕ) → at ≤ 2 ^ 40 → head_moment (new_context config mode at) ≤ 2 ^ 40
new-early config mode at l = by (kind_of config)
  where
    first : (n : ℕ) → first_date (dates_from at n) ≤ 2 ^ 40
    first zero = omega arith
    first (suc n) = l

    by : (kind : Kind) → moment_of (first_budget kind at config.budget) ≤ 2 ^ 40
    by Sporadic = first config.budget
    by RoundRobin = omega arith

-- a new context's budget is kept
new-kept : (min_budget : ℕ) (config : Config) (mode : Mode) (at : ℕ) → IsAccepted min_budget config → IsWhole config (new_context config mode at).budget
new-kept min_budget config mode at a = by (kind_of config)
  where
    by : (kind : Kind) → IsWhole config (first_budget kind at config.budget)
    by Sporadic = kept-new config.budget config.period at a.within
    by RoundRobin = (a.some, omega arith)

-- no thread waits on a quiet notification
none-waits : (x : ℕ) (notes : List NotePart) → times_waiting x (map opening_note notes) ≡ 0
none-waits x [] = refl
none-waits x (note ∷ notes) = let i = none-waits x notes in omega arith

module _ (system : System) (c : ℕ) where
  -- the release queue has no thread before the first, and each thread of the core once
  none-before : (x n : ℕ) (threads : List ThreadPart) → x < n → times_dated x (opening_releases system c n threads) ≡ 0
  none-before x n [] l = refl
  none-before x n (thread ∷ threads) l = grind (arith, nat_tests, none-before x (n + 1) threads (omega arith))

  once-each : (x n k : ℕ) (threads : List ThreadPart) → x ≡ n + k →
      times_dated x (opening_releases system c n threads) ≡ times_pending (get_or (map (opening_thread system c) threads) k no_state).standing
  once-each x n k [] e = refl
  once-each x n zero (thread ∷ threads) e = grind (arith, nat_tests, none-before x (n + 1) threads (omega arith))
  once-each x n (suc k) (thread ∷ threads) e = grind (arith, nat_tests, once-each x (n + 1) k threads (omega arith))

  -- the contexts by number
  many-contexts : (n : ℕ) (contexts : List ContextPart) → length (opening_contexts system c n contexts) ≡ length contexts
  many-contexts n [] = refl
  many-contexts n (context ∷ contexts) = ap suc (many-contexts (n + 1) contexts)

  abbrev own_context : ℕ → ContextPart → Option Context
  own_context number context = cond (context.core == c) (Some (new_context context.config context.mode (start_of system.threads number))) None

  context-at : (j n k : ℕ) (contexts : List ContextPart) → j ≡ n + k → k < length contexts →
      get_or (opening_contexts system c n contexts) k None ≡ own_context j (get_or contexts k no_context)
  context-at j n k [] e l = absurd (omega arith)
  context-at j n zero (context ∷ contexts) e l = let same : n ≡ j = omega arith in ap (λ m. own_context m context) same
  context-at j n (suc k) (context ∷ contexts) e l = context-at j (n + 1) k contexts (omega arith) (omega arith)

  context-own : (k : ℕ) → k < length system.contexts → has_context k (opening_core system c) ≡ ((context_part system k).core == c)
  context-own k l = ap is_some (context-at k 0 k system.contexts (omega arith) l) ∙ grind arith

  context-within : (k : ℕ) → has_context k (opening_core system c) ≡ true → k < length system.contexts
  context-within k h = within k 0 system.contexts h
    where
      within : (k n : ℕ) (contexts : List ContextPart) → is_own k (opening_contexts system c n contexts) ≡ true → k < length contexts
      within k n [] h = cc
      within zero n (context ∷ contexts) h = omega arith
      within (suc k) n (context ∷ contexts) h = let i = within k (n + 1) contexts h in omega arith

  context-new : (k : ℕ) → has_context k (opening_core system c) ≡ true →
      context_of (opening_core system c) k ≡ new_context (context_part system k).config (context_part system k).mode (start_of system.threads k)
  context-new k h =
      let l : k < length system.contexts = context-within k h in
      ap (λ o. unwrap_or o no_server) (context-at k 0 k system.contexts (omega arith) l) ∙ rw (sym (context-own k l) ∙ h) refl

  -- the standing of a thread, and its state then
  record IsOwn (x : ℕ) : Type 0 where
    known : x < length system.threads
    own : (core_of system (thread_part system x) == c) ≡ true
    state : thread_of (opening_core system c) x ≡ opening_thread system c (thread_part system x)

  opens : (x : ℕ) → IsOwn x ⊎ ((thread_of (opening_core system c) x).standing ≡ Elsewhere)
  opens x = elim (cases_lt x (length system.threads)) [
    | inl l ↦ own (core_of system (thread_part system x) == c) refl l (get_or-map (opening_thread system c) system.threads x no_thread no_state l)
    | inr l ↦
        let past : length (map (opening_thread system c) system.threads) ≤ x = rw (length-map system.threads (opening_thread system c)) l in
        inr (ap (λ (k : Thread). k.standing) (get_or_past (map (opening_thread system c) system.threads) x no_state past))
  ]
    where
      own : (b : Bool) → (core_of system (thread_part system x) == c) ≡ b → x < length system.threads →
          thread_of (opening_core system c) x ≡ opening_thread system c (thread_part system x) → IsOwn x ⊎ ((thread_of (opening_core system c) x).standing ≡ Elsewhere)
      own true e l s = inl (record { known = l; own = e; state = s })
      own false e l s = inr (ap (λ (k : Thread). k.standing) s ∙ ap (λ b. cond b Pending Elsewhere) e)

  -- the core with which a run opens
  opening : IsWellFormed system → IsSound system c 0 Between None (opening_core system c)
  opening w = record {
    threads = length-map system.threads (opening_thread system c);
    contexts = many-contexts 0 system.contexts;
    notes = length-map system.notes opening_note;
    ready = λ x. grind (arith, rests x);
    pending = λ x. once-each x 0 x system.threads (omega arith);
    blocked = λ x. none-waits x system.notes ∙ grind (arith, rests x);
    here = λ x h. placed x (opens x) h;
    early = λ x h. absurd (grind (arith, rests x));
    dates = dates (opening_releases system c 0 system.threads);
    running = tt;
    budgets = budgets;
    own = context-own;
    later = later (opening_releases system c 0 system.threads);
  }
    where
      rests : (x : ℕ) → ((thread_of (opening_core system c) x).standing ≡ Pending) ⊎ ((thread_of (opening_core system c) x).standing ≡ Elsewhere)
      rests x = elim (opens x) [
        | inl h ↦ inl (ap (λ (k : Thread). k.standing) h.state ∙ ap (λ b. cond b Pending Elsewhere) h.own)
        | inr h ↦ inr h
      ]

      placed : (x : ℕ) → IsOwn x ⊎ ((thread_of (opening_core system c) x).standing ≡ Elsewhere) → is_here (thread_of (opening_core system c) x).standing ≡ true → IsPlaced system x (opening_core system c)
      placed x (inl h) g =
          let t : IsThread system (thread_part system x) = w.threads x no_thread h.known in
          let item : (thread_of (opening_core system c) x).place.item ≡ 0 = ap (λ (k : Thread). k.place.item) h.state in
          record { known = h.known; item = rw item t.script.some; bound = t.bound; has = context-own (thread_part system x).context t.bound ∙ h.own }
      placed x (inr h) g = let f : false ≡ true = ap is_here (sym h) ∙ g in absurd (let no : ⊥ = cc in no)

      head : (k : ℕ) → head_moment (context_of (opening_core system c) k) ≤ 2 ^ 40
      head k =
          grind (arith, context-new k, new-early (context_part system k).config (context_part system k).mode (start_of system.threads k) (start-early system system.threads k w.threads))

      dates : (ds : List Dated) → AreEarly system (opening_core system c) ds
      dates [] = tt
      dates (d ∷ ds) = (λ _. head (thread_part system d.thread).context, dates ds)

      later : (ds : List Dated) → AllByRecursion (λ dated. 0 ≤ dated.date) ds
      later [] = tt
      later (d ∷ ds) = (omega arith, later ds)

      budgets : (k : ℕ) → has_context k (opening_core system c) ≡ true → IsContextOf system k (context_of (opening_core system c) k)
      budgets k h =
          let part : IsContext system (context_part system k) = w.contexts k no_context (context-within k h) in
          rw (context-new k h)
          (record {
            accepted = part.accepted;
            same_kind = refl;
            kept = new-kept system.min_budget (context_part system k).config (context_part system k).mode (start_of system.threads k) (accepted-is system.min_budget (context_part system k).config part.accepted);
          })

-- the core with which a run opens is sound
pub opening-sound : (system : System) → IsWellFormed system → (c : ℕ) → c < system.cores → IsSound system c 0 Between None (opening_core system c)
opening-sound system w c l = opening system c w

-- and with the orders of the core it is a first state
pub fits-opening : (system : System) → IsWellFormed system → (c : ℕ) → c < system.cores → (core : Core) (orders : List Order) (alarms : List Alarm) (delays : List ℕ) →
    core ≡ opening_core system c → orders ≡ orders_of system c → alarms ≡ alarms_of system c → delays ≡ delays_from system c →
    Fits system (record { number = c; clock = 0; core = core; orders = orders; alarms = alarms; delays = delays; failed = false })
fits-opening system w c l core orders alarms delays e f a d = rw (e, f, a, d) record {
  known = l;
  early = omega arith;
  sound = λ g. opening-sound system w c l;
  orders = λ g. sym (to_come-all (orders_of system c));
  alarms = λ g. refl;
  delays = λ g. refl;
}

pub state-opening : (system : System) (c : ℕ) (core : Core) (orders : List Order) (alarms : List Alarm) (delays : List ℕ) →
    core ≡ opening_core system c → orders ≡ orders_of system c → alarms ≡ alarms_of system c → delays ≡ delays_from system c →
    (let state : State = record { number = c; clock = 0; core = core; orders = orders; alarms = alarms; delays = delays; failed = false } in state) ≡ opening_state system c
state-opening system c core orders alarms delays e f a d = rw (e, f, a, d) refl

-- how the code makes it: the release queue thread by thread
module _ (system : System) (c : ℕ) where
  pub none-after : (x n : ℕ) (threads : List ThreadPart) → n + length threads ≤ x → times_dated x (opening_releases system c n threads) ≡ 0
  none-after x n [] l = refl
  none-after x n (thread ∷ threads) l = grind (arith, nat_tests, none-after x (n + 1) threads (omega arith))

  next-release : (n k : ℕ) (threads : List ThreadPart) (i : ℕ) (x : ThreadPart) → i < length threads → x ≡ get_or threads i x → k ≡ n + i →
      opening_releases system c n (take (suc i) threads)
      ≡ opening_releases system c n (take i threads) ++ cond (core_of system x == c) (record { thread = k; date = x.start } ∷ []) []
  next-release n k [] i x l e f = absurd (omega arith)
  next-release n k (y ∷ threads) zero x l e f =
      let same : n ≡ k = omega arith in
      rw (← e, ← same) refl
  next-release n k (y ∷ threads) (suc i) x l e f = grind (arith, next-release (n + 1) k threads i x (omega arith) e (omega arith))

  pub released-next : (threads : List ThreadPart) (i : ℕ) (x : ThreadPart) (b : Bool) → i < length threads → x ≡ get_or threads i x → (core_of system x == c) ≡ b →
      opening_releases system c 0 (take (i + 1) threads) ≡ opening_releases system c 0 (take i threads) ++ cond b (record { thread = i; date = x.start } ∷ []) []
  released-next threads i x b l e f = rw (add-one, ← f) (next-release 0 i threads i x l e (omega arith))

  -- and the contexts one by one
  next-context : (n k : ℕ) (contexts : List ContextPart) (i : ℕ) (x : ContextPart) → i < length contexts → x ≡ get_or contexts i x → k ≡ n + i →
      opening_contexts system c n (take (suc i) contexts)
      ≡ opening_contexts system c n (take i contexts) ++ cond (x.core == c) (Some (new_context x.config x.mode (start_of system.threads k))) None ∷ []
  next-context n k [] i x l e f = absurd (omega arith)
  next-context n k (y ∷ contexts) zero x l e f =
      let same : n ≡ k = omega arith in
      rw (← e, ← same) refl
  next-context n k (y ∷ contexts) (suc i) x l e f =
      ap (λ os. cond (y.core == c) (Some (new_context y.config y.mode (start_of system.threads n))) None ∷ os) (next-context (n + 1) k contexts i x (omega arith) e (omega arith))

  pub made-next : (contexts : List ContextPart) (i : ℕ) (x : ContextPart) (kept : List (Option Kept)) (more : Option Kept) → i < length contexts → x ≡ get_or contexts i x →
      seen_contexts kept ≡ opening_contexts system c 0 (take i contexts) →
      option_map (λ own. own.context) (unboxed more) ≡ cond (x.core == c) (Some (new_context x.config x.mode (start_of system.threads i))) None →
      seen_contexts (kept ++ more ∷ []) ≡ opening_contexts system c 0 (take (i + 1) contexts)
  made-next contexts i x kept more l e f g =
      rw add-one
      (seen-append kept more ∙ ap (λ xs. xs ++ option_map (λ own. own.context) (unboxed more) ∷ []) f
      ∙ ap (λ o. opening_contexts system c 0 (take i contexts) ++ o ∷ []) g ∙ sym (next-context 0 i contexts i x l e (omega arith)))
    where
      seen-append : (xs : List (Option Kept)) (y : Option Kept) → seen_contexts (xs ++ y ∷ []) ≡ seen_contexts xs ++ option_map (λ own. own.context) (unboxed y) ∷ []
      seen-append [] y = refl
      seen-append (x ∷ xs) y = ap (λ ys. option_map (λ own. own.context) (unboxed x) ∷ ys) (seen-append xs y)

-- each with its room
pub room-next : (kept : List (Option Kept)) (more : Option Kept) → HaveRoom kept → HasRoom (unboxed more) → HaveRoom (kept ++ more ∷ [])
room-next [] more h r = (r, tt)
room-next (x ∷ kept) more h r = (h.0, room-next kept more h.1 r)

-- and the notifications: the first n have their first words, and the others are still quiet
abbrev pub opened_notes : ℕ → List NotePart → List Note
opened_notes n [] = []
opened_notes zero (note ∷ notes) = quiet_note ∷ opened_notes zero notes
opened_notes (suc n) (note ∷ notes) = opening_note note ∷ opened_notes n notes

pub opened-many : (n : ℕ) (notes : List NotePart) → length (opened_notes n notes) ≡ length notes
opened-many n [] = refl
opened-many zero (note ∷ notes) = ap suc (opened-many zero notes)
opened-many (suc n) (note ∷ notes) = ap suc (opened-many n notes)

pub opened-none : (notes : List NotePart) → replicate (length notes) quiet_note ≡ opened_notes zero notes
opened-none [] = refl
opened-none (note ∷ notes) = ap (λ made. quiet_note ∷ made) (opened-none notes)

pub opened-all : (n : ℕ) (notes : List NotePart) → length notes ≤ n → opened_notes n notes ≡ map opening_note notes
opened-all n [] l = refl
opened-all zero (note ∷ notes) l = absurd (omega arith)
opened-all (suc n) (note ∷ notes) l = ap (λ made. opening_note note ∷ made) (opened-all n notes (omega arith))

-- a word that is posted on a quiet notification is held
pub held-word : (word : ℕ) (note : Note) (answer : Posted) → note ≡ quiet_note → answer ≡ posted word note → after_post answer note ≡ record { word = word; waiters = [] }
held-word word note answer e f = rw (f, e) (ap (λ w. let made : Note = record { word = w; waiters = [] } in made) (or_zero_l word))

-- the next one is posted its first word
pub opened-here : (n : ℕ) (notes : List NotePart) → n < length notes → get_or (opened_notes n notes) n quiet_note ≡ quiet_note
opened-here n [] l = absurd (omega arith)
opened-here zero (note ∷ notes) l = refl
opened-here (suc n) (note ∷ notes) l = opened-here n notes (omega arith)

pub opened-more : (n : ℕ) (notes : List NotePart) (part : NotePart) → n < length notes → part ≡ get_or notes n part →
    set (opened_notes n notes) n (record { word = part.word; waiters = [] }) ≡ opened_notes (suc n) notes
opened-more n [] part l e = absurd (omega arith)
opened-more zero (note ∷ notes) part l e = ap (λ (p : NotePart). opening_note p ∷ opened_notes zero notes) e
opened-more (suc n) (note ∷ notes) part l e = ap (λ made. opening_note note ∷ made) (opened-more n notes part (omega arith) e)

-- the parts together
pub opened : (system : System) (c : ℕ) (core : Core) (threads : List Thread) (ready : List Queued) (releases : List Dated) (contexts : List (Option Context)) (notes : List Note) →
    core ≡ record { running = None; threads = threads; ready = ready; releases = releases; contexts = contexts; notes = notes } →
    threads ≡ map (opening_thread system c) system.threads → ready ≡ [] → releases ≡ opening_releases system c 0 system.threads →
    contexts ≡ opening_contexts system c 0 system.contexts → notes ≡ map opening_note system.notes → core ≡ opening_core system c
opened system c core threads ready releases contexts notes e a b d f g = e ∙ rw (a, b, d, f, g) refl
