-- Changes of a context by turns: charges, which are those in the rows, unblocking, and orders.
use Rattle.std.proofs.Common.{◌≡◌, ◌≢◌, ℕ, ◌+◌, ◌<◌, ◌≤◌, Bool, true, false, not, cond, List, [], ◌∷◌, ◌++◌, length, set, get_or, Option, Some, None, refl, sym, ap, ◌∙◌, append-nil, arith}
use Rattle.std.specs.Prelude.{filter, flat_map, ◌==◌, ◌&&◌, nat_lt, unwrap_or}
use Rattle.std.specs.List.{AllByRecursion}
use Rattle.std.proofs.lemmas.Bool.Decides.{nat_tests}
use Rattle.std.proofs.lemmas.List.{get_or-set_same, get_or-set_other}
use Rattle.std.proofs.lemmas.List.Concat.{flat_map-append}
use Rattle.std.proofs.lemmas.List.Elements.{filter-append}
use Rattle.std.proofs.Math.ListN.{length-set}
use Rattle.mcs_ticks.specs.Queue.{Discipline}
use Rattle.mcs_ticks.specs.declared.queue.Queued.{Queued}
use Rattle.mcs_ticks.specs.declared.row.What.{What}
use Rattle.mcs_ticks.specs.declared.row.What.TheVariants as row
use Rattle.mcs_ticks.specs.declared.row.Why.{Why}
use Rattle.mcs_ticks.specs.declared.row.Why.TheVariants as why
use Rattle.mcs_control.specs.declared.config.Order.{Order}
use Rattle.mcs_control.specs.Context.{Context, Budget, head_amount, head_moment, moment_of, context_charged, context_woken, woken_by, chosen_by, budget_unblocked, context_ordered}
use Rattle.mcs_control.specs.Context.Budget.{Dates, Slice}
use Rattle.mcs_control.specs.laws.Contexts.{IsWhole}
use Rattle.mcs_control.specs.declared.config.Mode.{Mode}
use Rattle.mcs_control.specs.declared.config.Mode.TheVariants.{Sporadic, Bandwidth}
use Rattle.mcs_notify.specs.Note.{posted, after_post, waited, after_wait}
use Rattle.mcs_notify.specs.declared.posted.Posted.{Posted}
use Rattle.mcs_notify.specs.declared.posted.Posted.TheVariants.{Woke, Held}
use Rattle.mcs_notify.specs.declared.posted.Waited.{Waited}
use Rattle.mcs_notify.specs.declared.posted.Waited.TheVariants.{Got, Blocks}
use Rattle.mcs_script.specs.declared.item.Item.{Item}
use Rattle.mcs_script.specs.declared.item.Item.TheVariants.{Compute, Signal, Wait, Yield, On, Spin, Enter, Leave}
use Rattle.mcs_script.specs.declared.moved.Moved.{Moved}
use Rattle.mcs_script.specs.declared.moved.Moved.TheVariants.{Next, RoundEnds, AllDone}
use Rattle.mcs_mail.specs.declared.mail.Mail.{Mail}
use Rattle.mcs_system.specs.System.{System, note_part, thread_part, context_part}
use Rattle.mcs_core.specs.Alarms.{ringing, alarms_at}
use Rattle.mcs_core.specs.declared.alarm.Alarm.{Alarm}
use Rattle.mcs_core.specs.Core.{Core, context_of, note_of, thread_of, with_note, off}
use Rattle.mcs_core.specs.Contexts.{no_server}
use Rattle.mcs_core.specs.declared.standing.AfterItem.{AfterItem}
use Rattle.mcs_core.specs.declared.standing.AfterItem.TheVariants as after
use Rattle.mcs_core.specs.declared.standing.Chosen.{Chosen}
use Rattle.mcs_release.specs.declared.dated.Dated.{Dated}
use Rattle.mcs_core.specs.declared.standing.Standing.{Standing}
use Rattle.mcs_release.specs.Release.{is_due}
use Rattle.mcs_core.specs.Turn as turns
use Rattle.mcs_core.specs.Turn.{Turn, each, silent, says, ◌followed_by◌, is_for_now}
use Rattle.mcs_laws.specs.Changes.{Change, charges_of, wakes_of, choices_of, orders_of, GivesBudget, KeepsItsBudget, changed, changed_by, IsSound, AreSound}
use Rattle.mcs_laws.specs.Changes.Change.{Charged, Woken, Picked, Ordered}
use Rattle.mcs_laws.specs.Histories.{charges_told, wakes_told, choices_told, is_order_for}
use Rattle.mcs_laws.proofs.Taken.{IsDates}
use Rattle.mcs_laws.proofs.Kept.{head_amount-woken, head_amount-some, keeps-change, keeps-changes, changed_by-append, sound-append}

-- whether two numbers are equal
pub data Same (a b : ℕ) : Type 0 where
  Are : (a == b) ≡ true → a ≡ b → Same a b
  Differ : (a == b) ≡ false → a ≢ b → Same a b

pub same : (a b : ℕ) → Same a b
same a b = by (a == b) refl
  where
    by : (e : Bool) → (a == b) ≡ e → Same a b
    by true e = Are e (grind (arith, nat_tests))
    by false e = Differ e (grind (arith, nat_tests))

pub carry : (P : Context → Type 0) (a b : Context) → a ≡ b → P a → P b
carry P a b e p = rw (sym e) p

-- a context that is set, and the others
pub set-same : (x n : ℕ) (contexts : List (Option Context)) (k : Context) → n ≡ x → x < length contexts → unwrap_or (get_or (set contexts n (Some k)) x None) no_server ≡ k
set-same x n contexts k e l =
    ap (λ m. unwrap_or (get_or (set contexts m (Some k)) x None) no_server) e ∙ ap (λ o. unwrap_or o no_server) (get_or-set_same contexts x (Some k) None l)

pub set-other : (x n : ℕ) (contexts : List (Option Context)) (k : Context) → n ≢ x → unwrap_or (get_or (set contexts n (Some k)) x None) no_server ≡ unwrap_or (get_or contexts x None) no_server
set-other x n contexts k e = ap (λ o. unwrap_or o no_server) (get_or-set_other contexts n x (Some k) None (λ f. e (sym f)))

pub orders_of-append : (xs ys : List Change) → orders_of (xs ++ ys) ≡ orders_of xs ++ orders_of ys
orders_of-append xs ys = flat_map-append _ xs ys

pub charges_of-append : (xs ys : List Change) → charges_of (xs ++ ys) ≡ charges_of xs ++ charges_of ys
charges_of-append xs ys = flat_map-append _ xs ys

-- the changes but orders
abbrev deed_of : Change → List Change
deed_of (Charged k) = Charged k ∷ []
deed_of (Woken t) = Woken t ∷ []
deed_of (Picked t) = Picked t ∷ []
deed_of (Ordered order) = []

abbrev pub deeds_of : List Change → List Change
deeds_of changes = flat_map deed_of changes

deeds_of-append : (xs ys : List Change) → deeds_of (xs ++ ys) ≡ deeds_of xs ++ deeds_of ys
deeds_of-append xs ys = flat_map-append deed_of xs ys

-- the charges, the wakes and the choices of a context in rows of moment t
module _ (system : System) (t x : ℕ) where
  abbrev deed_told : What → List Change
  deed_told (row.Stop thread why k until) = cond ((thread_part system thread).context == x) (Charged k ∷ []) []
  deed_told (row.Wake thread note word until) = cond ((thread_part system thread).context == x) (Woken t ∷ []) []
  deed_told (row.Run thread) = cond ((thread_part system thread).context == x) (Picked t ∷ []) []
  deed_told (row.Release thread) = []
  deed_told (row.Signal thread note badge) = []
  deed_told (row.Arrive note badge maker) = []
  deed_told (row.Hold note word) = []
  deed_told (row.Got thread note word) = []
  deed_told (row.Round thread number response) = []
  deed_told (row.Order ordered) = []
  deed_told (row.Interrupt source note badge) = []

  abbrev pub deeds_told : List What → List Change
  deeds_told rows = flat_map deed_told rows

  charges-told : (rows : List What) → charges_told system x rows ≡ charges_of (deeds_told rows)
  charges-told [] = refl
  charges-told (what ∷ rows) = by what (charges-told rows)
    where
      by : (what : What) → charges_told system x rows ≡ charges_of (deeds_told rows) → charges_told system x (what ∷ rows) ≡ charges_of (deeds_told (what ∷ rows))
      by (row.Stop thread why k until) i = here ((thread_part system thread).context == x)
        where
          here : (b : Bool) → cond b (k ∷ []) [] ++ charges_told system x rows ≡ charges_of (cond b (Charged k ∷ []) [] ++ deeds_told rows)
          here true = ap (λ ns. k ∷ ns) i
          here false = i
      by (row.Wake thread note word until) i = here ((thread_part system thread).context == x)
        where
          here : (b : Bool) → charges_told system x rows ≡ charges_of (cond b (Woken t ∷ []) [] ++ deeds_told rows)
          here true = i
          here false = i
      by (row.Run thread) i = here ((thread_part system thread).context == x)
        where
          here : (b : Bool) → charges_told system x rows ≡ charges_of (cond b (Picked t ∷ []) [] ++ deeds_told rows)
          here true = i
          here false = i
      by (row.Release thread) i = i
      by (row.Signal thread note badge) i = i
      by (row.Arrive note badge maker) i = i
      by (row.Hold note word) i = i
      by (row.Got thread note word) i = i
      by (row.Round thread number response) i = i
      by (row.Order ordered) i = i
      by (row.Interrupt source note badge) i = i

  wakes-told : (rows : List What) → wakes_told system x t rows ≡ wakes_of (deeds_told rows)
  wakes-told [] = refl
  wakes-told (what ∷ rows) = by what (wakes-told rows)
    where
      by : (what : What) → wakes_told system x t rows ≡ wakes_of (deeds_told rows) → wakes_told system x t (what ∷ rows) ≡ wakes_of (deeds_told (what ∷ rows))
      by (row.Stop thread why k until) i = here ((thread_part system thread).context == x)
        where
          here : (b : Bool) → wakes_told system x t rows ≡ wakes_of (cond b (Charged k ∷ []) [] ++ deeds_told rows)
          here true = i
          here false = i
      by (row.Wake thread note word until) i = here ((thread_part system thread).context == x)
        where
          here : (b : Bool) → cond b (t ∷ []) [] ++ wakes_told system x t rows ≡ wakes_of (cond b (Woken t ∷ []) [] ++ deeds_told rows)
          here true = ap (λ ns. t ∷ ns) i
          here false = i
      by (row.Run thread) i = here ((thread_part system thread).context == x)
        where
          here : (b : Bool) → wakes_told system x t rows ≡ wakes_of (cond b (Picked t ∷ []) [] ++ deeds_told rows)
          here true = i
          here false = i
      by (row.Release thread) i = i
      by (row.Signal thread note badge) i = i
      by (row.Arrive note badge maker) i = i
      by (row.Hold note word) i = i
      by (row.Got thread note word) i = i
      by (row.Round thread number response) i = i
      by (row.Order ordered) i = i
      by (row.Interrupt source note badge) i = i

  choices-told : (rows : List What) → choices_told system x t rows ≡ choices_of (deeds_told rows)
  choices-told [] = refl
  choices-told (what ∷ rows) = by what (choices-told rows)
    where
      by : (what : What) → choices_told system x t rows ≡ choices_of (deeds_told rows) → choices_told system x t (what ∷ rows) ≡ choices_of (deeds_told (what ∷ rows))
      by (row.Stop thread why k until) i = here ((thread_part system thread).context == x)
        where
          here : (b : Bool) → choices_told system x t rows ≡ choices_of (cond b (Charged k ∷ []) [] ++ deeds_told rows)
          here true = i
          here false = i
      by (row.Wake thread note word until) i = here ((thread_part system thread).context == x)
        where
          here : (b : Bool) → choices_told system x t rows ≡ choices_of (cond b (Woken t ∷ []) [] ++ deeds_told rows)
          here true = i
          here false = i
      by (row.Run thread) i = here ((thread_part system thread).context == x)
        where
          here : (b : Bool) → cond b (t ∷ []) [] ++ choices_told system x t rows ≡ choices_of (cond b (Picked t ∷ []) [] ++ deeds_told rows)
          here true = ap (λ ns. t ∷ ns) i
          here false = i
      by (row.Release thread) i = i
      by (row.Signal thread note badge) i = i
      by (row.Arrive note badge maker) i = i
      by (row.Hold note word) i = i
      by (row.Got thread note word) i = i
      by (row.Round thread number response) i = i
      by (row.Order ordered) i = i
      by (row.Interrupt source note badge) i = i

charges-deeds : (changes : List Change) → charges_of (deeds_of changes) ≡ charges_of changes
charges-deeds [] = refl
charges-deeds (Charged k ∷ changes) = ap (λ ns. k ∷ ns) (charges-deeds changes)
charges-deeds (Woken t ∷ changes) = charges-deeds changes
charges-deeds (Picked t ∷ changes) = charges-deeds changes
charges-deeds (Ordered order ∷ changes) = charges-deeds changes

wakes-deeds : (changes : List Change) → wakes_of (deeds_of changes) ≡ wakes_of changes
wakes-deeds [] = refl
wakes-deeds (Charged k ∷ changes) = wakes-deeds changes
wakes-deeds (Woken t ∷ changes) = ap (λ ns. t ∷ ns) (wakes-deeds changes)
wakes-deeds (Picked t ∷ changes) = wakes-deeds changes
wakes-deeds (Ordered order ∷ changes) = wakes-deeds changes

choices-deeds : (changes : List Change) → choices_of (deeds_of changes) ≡ choices_of changes
choices-deeds [] = refl
choices-deeds (Charged k ∷ changes) = choices-deeds changes
choices-deeds (Woken t ∷ changes) = choices-deeds changes
choices-deeds (Picked t ∷ changes) = ap (λ ns. t ∷ ns) (choices-deeds changes)
choices-deeds (Ordered order ∷ changes) = choices-deeds changes

module _ (queue : Discipline) (system : System) (c t x : ℕ) where
  abbrev least : ℕ
  least = system.min_budget

  -- the thread is bound to the context
  abbrev pub Own : ℕ → Type 0
  Own y = (thread_part system y).context ≡ x

  abbrev pub holds : (Option Chosen → Context → Type 0) → Core → Type 0
  holds P core = P core.running (context_of core x)

  -- in bandwidth mode the choice moved the head to its moment, so the head's dates in use reach
  -- this moment, or one that many ticks earlier
  abbrev pub Reaches : ℕ → ℕ → Context → Type 0
  Reaches late using context = context.mode ≡ Bandwidth → IsDates context.budget → t ≤ head_moment context + using + late

  -- the running thread, if it is the context's, has used at least `low`, and at most `gap` less than the head
  abbrev pub Uses : ℕ → ℕ → ℕ → Option Chosen → Context → Type 0
  Uses low gap late None context = Unit {0}
  Uses low gap late (Some chosen) context = Own chosen.thread → (low ≤ chosen.using) × (chosen.using + gap ≤ head_amount context) × Reaches late chosen.using context

  -- what a part of a turn does to the context; P is known of the running thread before it, and Q after it
  pub record Traced (P Q : Option Chosen → Context → Type 0) (obeyed : List Order) (core : Core) (made : Turn) : Type 0 where
    pub changes : List Change
    pub many : length made.core.contexts ≡ length core.contexts
    pub after : x < length core.contexts → context_of made.core x ≡ changed_by least changes (context_of core x)
    pub told : deeds_told system t x made.rows ≡ deeds_of changes
    pub ordered : obeyed ≡ orders_of changes
    pub sound : x < length core.contexts → KeepsItsBudget (context_of core x) → holds P core → AreSound least changes (context_of core x)
    pub runs : x < length core.contexts → KeepsItsBudget (context_of core x) → holds P core → holds Q made.core

  plain : (P Q : Option Chosen → Context → Type 0) (core : Core) (made : Turn) → made.core.contexts ≡ core.contexts → deeds_told system t x made.rows ≡ [] →
      (KeepsItsBudget (context_of core x) → holds P core → holds Q made.core) → Traced P Q [] core made
  plain P Q core made e f h =
      record {
        changes = [];
        many = ap length e;
        after = λ l. ap (λ cs. unwrap_or (get_or cs x None) no_server) e;
        told = f;
        ordered = refl;
        sound = λ l k p. tt;
        runs = λ l k p. h k p;
      }

  -- a part that says nothing of the context and leaves it and the running thread
  still : (P : Option Chosen → Context → Type 0) (core : Core) (made : Turn) → made.core.contexts ≡ core.contexts → made.core.running ≡ core.running → deeds_told system t x made.rows ≡ [] → Traced P P [] core made
  still P core made e g f = plain P P core made e f (λ k p. both _ _ _ _ (sym g) (sym e) p)
    where
      both : (a b : Option Chosen) (us vs : List (Option Context)) → a ≡ b → us ≡ vs → P a (unwrap_or (get_or us x None) no_server) → P b (unwrap_or (get_or vs x None) no_server)
      both a b us vs e f p = rw (sym e, sym f) p

  -- one part, and then another
  then_made : (P Q R : Option Chosen → Context → Type 0) (os us : List Order) (core : Core) (first : Turn) (part : Core → Turn) →
      Traced P Q os core first → Traced Q R us first.core (part first.core) → Traced P R (os ++ us) core (first followed_by part)
  then_made P Q R os us core first part f s =
      record {
        changes = f.changes ++ s.changes;
        many = s.many ∙ f.many;
        after = λ l. s.after (within l) ∙ ap (changed_by least s.changes) (f.after l) ∙ sym (changed_by-append least f.changes s.changes (context_of core x));
        told = flat_map-append (deed_told system t x) first.rows (part first.core).rows ∙ both _ _ _ _ f.told s.told ∙ sym (deeds_of-append f.changes s.changes);
        ordered = joined _ _ _ _ f.ordered s.ordered ∙ sym (orders_of-append f.changes s.changes);
        sound = λ l k p. sound-append least f.changes s.changes (context_of core x) (f.sound l k p)
            (carry (AreSound least s.changes) (context_of first.core x) (changed_by least f.changes (context_of core x)) (f.after l) (s.sound (within l) (kept l k p) (f.runs l k p)));
        runs = λ l k p. s.runs (within l) (kept l k p) (f.runs l k p);
      }
    where
      both : (xs ys zs ws : List Change) → xs ≡ ys → zs ≡ ws → xs ++ zs ≡ ys ++ ws
      both xs ys zs ws p q = cc

      joined : (xs ys zs ws : List Order) → xs ≡ ys → zs ≡ ws → xs ++ zs ≡ ys ++ ws
      joined xs ys zs ws p q = cc

      within : x < length core.contexts → x < length first.core.contexts
      within l = rw f.many l

      kept : x < length core.contexts → KeepsItsBudget (context_of core x) → holds P core → KeepsItsBudget (context_of first.core x)
      kept l k p = carry KeepsItsBudget (changed_by least f.changes (context_of core x)) (context_of first.core x) (sym (f.after l)) (keeps-changes least f.changes (context_of core x) k (f.sound l k p))

  then_part : (P Q R : Option Chosen → Context → Type 0) (os us : List Order) (core : Core) (first : Turn) (part : Core → Turn) →
      Traced P Q os core first → ((k : Core) → Traced Q R us k (part k)) → Traced P R (os ++ us) core (first followed_by part)
  then_part P Q R os us core first part f h = then_made P Q R os us core first part f (h first.core)

  by_test : (P Q : Option Chosen → Context → Type 0) (os : List Order) (b : Bool) (core : Core) (u v : Turn) → Traced P Q os core u → Traced P Q os core v → Traced P Q os core (cond b u v)
  by_test P Q os true core u v p q = p
  by_test P Q os false core u v p q = q

  each_part : (P : Option Chosen → Context → Type 0) {A : Type 0} (part : A → Core → Turn) → ((y : A) (k : Core) → Traced P P [] k (part y k)) → (ys : List A) (core : Core) → Traced P P [] core (each part ys core)
  each_part P part h [] core = still P core (silent core) refl refl refl
  each_part P part h (y ∷ ys) core = then_part P P P [] [] core (part y core) (each part ys) (h y core) (λ k. each_part P part h ys k)

  -- a charge that a stop tells, after which nobody runs
  charging : (P Q : Option Chosen → Context → Type 0) (y k : ℕ) (cause : Why) (until : Option ℕ) (core : Core) (made : Turn) →
      made.core.contexts ≡ (turns.charged system y k core).contexts → made.rows ≡ row.Stop y cause k until ∷ [] →
      (Own y → KeepsItsBudget (context_of core x) → holds P core → (1 ≤ k) × (k ≤ head_amount (context_of core x))) →
      holds Q made.core → Traced P Q [] core made
  charging P Q y k cause until core made e f h q = by (same (thread_part system y).context x)
    where
      n : ℕ
      n = (thread_part system y).context

      told_is : (b : Bool) → (n == x) ≡ b → deeds_told system t x made.rows ≡ cond b (Charged k ∷ []) [] ++ []
      told_is b g = ap (deeds_told system t x) f ∙ ap (λ u. cond u (Charged k ∷ []) [] ++ []) g

      many_is : length made.core.contexts ≡ length core.contexts
      many_is = ap length e ∙ length-set core.contexts n (Some (context_charged k least (turns.its_context system y core)))

      now : context_of made.core x ≡ unwrap_or (get_or (set core.contexts n (Some (context_charged k least (turns.its_context system y core)))) x None) no_server
      now = ap (λ cs. unwrap_or (get_or cs x None) no_server) e

      by : Same n x → Traced P Q [] core made
      by (Are g s) = record {
        changes = Charged k ∷ [];
        many = many_is;
        after = λ l. now ∙ set-same x n core.contexts (context_charged k least (turns.its_context system y core)) s l ∙ ap (λ m. context_charged k least (context_of core m)) s;
        told = told_is true g;
        ordered = refl;
        sound = λ l kept p. (h s kept p, tt);
        runs = λ l kept p. q;
      }
      by (Differ g s) = record {
        changes = [];
        many = many_is;
        after = λ l. now ∙ set-other x n core.contexts (context_charged k least (turns.its_context system y core)) s;
        told = told_is false g;
        ordered = refl;
        sound = λ l kept p. tt;
        runs = λ l kept p. q;
      }

  -- a wake or a choice of a thread, which a row tells and which takes nothing from its context
  touching : (P Q : Option Chosen → Context → Type 0) (deed : Change) → deeds_of (deed ∷ []) ≡ deed ∷ [] → orders_of (deed ∷ []) ≡ [] → ((k : Context) → IsSound least deed k) →
      (y : ℕ) (core : Core) (made : Turn) →
      made.core.contexts ≡ (turns.with_its_context system y (changed least (turns.its_context system y core) deed) core).contexts →
      ((k : Context) → KeepsItsBudget k → P core.running k → Q made.core.running (changed least k deed)) →
      ((thread_part system y).context ≢ x → (k : Context) → KeepsItsBudget k → P core.running k → Q made.core.running k) →
      deeds_told system t x made.rows ≡ cond ((thread_part system y).context == x) (deed ∷ []) [] ++ [] → Traced P Q [] core made
  touching P Q deed only none sure y core made e steady leaves f = by (same (thread_part system y).context x)
    where
      n : ℕ
      n = (thread_part system y).context

      many_is : length made.core.contexts ≡ length core.contexts
      many_is = ap length e ∙ length-set core.contexts n (Some (changed least (turns.its_context system y core) deed))

      now : context_of made.core x ≡ unwrap_or (get_or (set core.contexts n (Some (changed least (turns.its_context system y core) deed))) x None) no_server
      now = ap (λ cs. unwrap_or (get_or cs x None) no_server) e

      told_is : (b : Bool) → (n == x) ≡ b → deeds_told system t x made.rows ≡ cond b (deed ∷ []) [] ++ []
      told_is b d = f ∙ ap (λ u. cond u (deed ∷ []) [] ++ []) d

      by : Same n x → Traced P Q [] core made
      by (Are d s) =
          let done : x < length core.contexts → context_of made.core x ≡ changed least (context_of core x) deed =
          λ l. now ∙ set-same x n core.contexts (changed least (turns.its_context system y core) deed) s l ∙ ap (λ m. changed least (context_of core m) deed) s in
          record {
            changes = deed ∷ [];
            many = many_is;
            after = done;
            told = told_is true d ∙ sym only;
            ordered = sym none;
            sound = λ l kept p. (sure (context_of core x), tt);
            runs = λ l kept p. carry (Q made.core.running) (changed least (context_of core x) deed) (context_of made.core x) (sym (done l)) (steady (context_of core x) kept p);
          }
      by (Differ d s) =
          let left : context_of made.core x ≡ context_of core x = now ∙ set-other x n core.contexts (changed least (turns.its_context system y core) deed) s in
          record {
            changes = [];
            many = many_is;
            after = λ l. left;
            told = told_is false d;
            ordered = refl;
            sound = λ l kept p. tt;
            runs = λ l kept p. carry (Q made.core.running) (context_of core x) (context_of made.core x) (sym left) (leaves s (context_of core x) kept p);
          }

  -- an order, of this moment
  ordering : (P Q : Option Chosen → Context → Type 0) (order : Order) (core : Core) (made : Turn) → order.moment ≡ t → GivesBudget order.config →
      made.core.contexts ≡ (turns.applied t order core).contexts → deeds_told system t x made.rows ≡ [] →
      ((order.context ≢ x → context_of made.core x ≡ context_of core x) → holds P core → holds Q made.core) →
      Traced P Q (filter (is_order_for x) (order ∷ [])) core made
  ordering P Q order core made m budget e f h = by (same order.context x)
    where
      n : ℕ
      n = order.context

      many_is : length made.core.contexts ≡ length core.contexts
      many_is = ap length e ∙ length-set core.contexts n (Some (context_ordered t order.config (context_of core n)))

      now : context_of made.core x ≡ unwrap_or (get_or (set core.contexts n (Some (context_ordered t order.config (context_of core n)))) x None) no_server
      now = ap (λ cs. unwrap_or (get_or cs x None) no_server) e

      left : n ≢ x → context_of made.core x ≡ context_of core x
      left s = now ∙ set-other x n core.contexts (context_ordered t order.config (context_of core n)) s

      obeyed : (b : Bool) → (n == x) ≡ b → filter (is_order_for x) (order ∷ []) ≡ cond b (order ∷ []) []
      obeyed b g = ap (λ u. cond u (order ∷ []) []) g

      by : Same n x → Traced P Q (filter (is_order_for x) (order ∷ [])) core made
      by (Are g s) = record {
        changes = Ordered order ∷ [];
        many = many_is;
        after = λ l. now ∙ set-same x n core.contexts (context_ordered t order.config (context_of core n)) s l
            ∙ ap (λ i. context_ordered t order.config (context_of core i)) s ∙ ap (λ u. context_ordered u order.config (context_of core x)) (sym m);
        told = f;
        ordered = obeyed true g;
        sound = λ l kept p. (budget, tt);
        runs = λ l kept p. h left p;
      }
      by (Differ g s) = record {
        changes = [];
        many = many_is;
        after = λ l. left s;
        told = f;
        ordered = obeyed false g;
        sound = λ l kept p. tt;
        runs = λ l kept p. h left p;
      }

  -- a part that is made otherwise but does the same to the context
  as_made : (P Q R : Option Chosen → Context → Type 0) (os : List Order) (core : Core) (first made : Turn) → made.core.contexts ≡ first.core.contexts →
      deeds_told system t x made.rows ≡ deeds_told system t x first.rows → holds R made.core → Traced P Q os core first → Traced P R os core made
  as_made P Q R os core first made e f r h =
      record {
        changes = h.changes;
        many = ap length e ∙ h.many;
        after = λ l. ap (λ cs. unwrap_or (get_or cs x None) no_server) e ∙ h.after l;
        told = f ∙ h.told;
        ordered = h.ordered;
        sound = h.sound;
        runs = λ l kept p. r;
      }

  enters_back-same : (y : ℕ) (o : Option ℕ) (core : Core) → (turns.enters_back queue y o core).contexts ≡ core.contexts
  enters_back-same y (Some date) core = refl
  enters_back-same y None core = refl

  enters_back-running : (y : ℕ) (o : Option ℕ) (core : Core) → (turns.enters_back queue y o core).running ≡ core.running
  enters_back-running y (Some date) core = refl
  enters_back-running y None core = refl

  enters_front-same : (y : ℕ) (o : Option ℕ) (core : Core) → (turns.enters_front queue y o core).contexts ≡ core.contexts
  enters_front-same y (Some date) core = refl
  enters_front-same y None core = refl

  enters_front-running : (y : ℕ) (o : Option ℕ) (core : Core) → (turns.enters_front queue y o core).running ≡ core.running
  enters_front-running y (Some date) core = refl
  enters_front-running y None core = refl

  idle : (low gap late : ℕ) (core : Core) → core.running ≡ None → holds (Uses low gap late) core
  idle low gap late core e = as_none core.running e
    where
      as_none : (o : Option Chosen) → o ≡ None → Uses low gap late o (context_of core x)
      as_none None e = tt
      as_none (Some chosen) e = absurd (no e)
        where
          no : Some chosen ≡ None → ⊥
          no e = cc

  -- what is kept of the running thread over wakes is kept over the parts in which no thread stops
  module _ (P : Option Chosen → Context → Type 0) (steady : (o : Option Chosen) (k : Context) → P o k → P o (context_woken t k)) where
    moves-traced : (y : ℕ) (m : Moved) (core : Core) → Traced P P [] core (turns.moves system t y m core)
    moves-traced y Next core = still P core _ refl refl refl
    moves-traced y RoundEnds core = still P core _ refl refl refl
    moves-traced y AllDone core = still P core _ refl refl refl

    moves_on-traced : (y : ℕ) (core : Core) → Traced P P [] core (turns.moves_on system t y core)
    moves_on-traced y core = moves-traced y (turns.move_of system y core) core

    waking : (core : Core) (y : ℕ) (made : Turn) → made.core.contexts ≡ (turns.with_woken_context system t y core).contexts → made.core.running ≡ core.running →
        deeds_told system t x made.rows ≡ cond ((thread_part system y).context == x) (Woken t ∷ []) [] ++ [] → Traced P P [] core made
    waking core y made e g f =
        touching P P (Woken t) refl refl (λ k. tt) y core made e (λ k kept p. still_runs core.running made.core.running (context_woken t k) g (steady core.running k p))
        (λ differs k kept p. still_runs core.running made.core.running k g p) f
      where
        still_runs : (o u : Option Chosen) (k : Context) → u ≡ o → P o k → P u k
        still_runs o u k e p = rw e p

    posts_as-traced : (note : ℕ) (p : Posted) (core : Core) → Traced P P [] core (turns.posts_as queue system t note p core)
    posts_as-traced note (Woke y word) core =
        then_part P P P [] [] core (says (row.Wake y note word (turns.woken_until system t y core)) noted followed_by λ k. turns.moves_on system t y (turns.given system t y word (turns.with_woken_context system t y k)))
        (λ k. silent (turns.enters_back queue y (turns.date_of system t y k) k))
        (moved (turns.move_of system y given))
        (λ k. still P k _ (enters_back-same y (turns.date_of system t y k) k) (enters_back-running y (turns.date_of system t y k) k) refl)
      where
        noted : Core
        noted = with_note note (after_post (Woke y word) (note_of core note)) core

        given : Core
        given = turns.given system t y word (turns.with_woken_context system t y noted)

        moved : (m : Moved) → Traced P P [] core (says (row.Wake y note word (turns.woken_until system t y core)) noted followed_by λ k. turns.moves system t y m (turns.given system t y word (turns.with_woken_context system t y k)))
        moved Next = waking core y _ refl refl refl
        moved RoundEnds = waking core y _ refl refl refl
        moved AllDone = waking core y _ refl refl refl
    posts_as-traced note (Held word) core = still P core _ refl refl refl

    posts-traced : (note badge : ℕ) (core : Core) → Traced P P [] core (turns.posts queue system t note badge core)
    posts-traced note badge core = posts_as-traced note (posted badge (note_of core note)) core

    arrives-traced : (mail : Mail) (core : Core) → Traced P P [] core (turns.arrives queue system t mail core)
    arrives-traced mail core =
        then_part P P P [] [] core (says (row.Arrive mail.note mail.badge mail.maker) core) (turns.posts queue system t mail.note mail.badge)
        (still P core _ refl refl refl) (λ k. posts-traced mail.note mail.badge k)

    frees_as-traced : (server : ℕ) (p : Posted) (core : Core) → Traced P P [] core (turns.frees_as queue system t server p core)
    frees_as-traced server (Woke y word) core =
        then_part P P P [] [] core (says (row.Wake y server word (turns.woken_until system t y core)) noted followed_by λ k. turns.moves_on system t y (turns.with_woken_context system t y k))
        (λ k. silent (turns.enters_front queue y (turns.date_of system t y k) k))
        (moved (turns.move_of system y woken))
        (λ k. still P k _ (enters_front-same y (turns.date_of system t y k) k) (enters_front-running y (turns.date_of system t y k) k) refl)
      where
        noted : Core
        noted = with_note server (after_post (Woke y word) (note_of core server)) core

        woken : Core
        woken = turns.with_woken_context system t y noted

        moved : (m : Moved) → Traced P P [] core (says (row.Wake y server word (turns.woken_until system t y core)) noted followed_by λ k. turns.moves system t y m (turns.with_woken_context system t y k))
        moved Next = waking core y _ refl refl refl
        moved RoundEnds = waking core y _ refl refl refl
        moved AllDone = waking core y _ refl refl refl
    frees_as-traced server (Held word) core = still P core _ refl refl refl

    frees-traced : (y server : ℕ) (core : Core) → Traced P P [] core (turns.frees queue system t y server core)
    frees-traced y server core =
        then_part P P P [] [] core (says (row.Signal y server 1) core) (λ k. turns.frees_as queue system t server (posted 1 (note_of k server)) k)
        (still P core _ refl refl refl) (λ k. frees_as-traced server (posted 1 (note_of k server)) k)

    enters_as-traced : (y server : ℕ) (w : Waited) (core : Core) → Traced P P [] core (turns.enters_as system t y server w core)
    enters_as-traced y server (Got word) core =
        let first = says (row.Got y server word) (with_note server (after_wait (Got word) (turns.queued y core) (note_of core server)) core) in
        then_part P P P [] [] core first (turns.moves_on system t y) (still P core first refl refl refl) (λ k. moves_on-traced y k)
    enters_as-traced y server Blocks core = still P core _ refl refl refl

    interrupts-traced : (alarm : Alarm) (core : Core) → Traced P P [] core (turns.interrupts queue system t alarm core)
    interrupts-traced alarm core =
        then_part P P P [] [] core (says (row.Interrupt alarm.source alarm.note alarm.badge) core) (turns.posts queue system t alarm.note alarm.badge)
        (still P core _ refl refl refl) (λ k. posts-traced alarm.note alarm.badge k)

    signals-traced : (y note badge : ℕ) (core : Core) → Traced P P [] core (turns.signals queue system c t y note badge core)
    signals-traced y note badge core =
        then_part P P P [] [] core (says (row.Signal y note badge) core) (λ k. cond ((note_part system note).core == c) (turns.posts queue system t note badge k) (sent k))
        (still P core _ refl refl refl)
        (λ k. by_test P P [] ((note_part system note).core == c) k (turns.posts queue system t note badge k) (sent k) (posts-traced note badge k) (still P k (sent k) refl refl refl))
      where
        sent : Core → Turn
        sent k = record { core = k; rows = []; mails = turns.mail_to system c t note badge ∷ [] }

    waits_as-traced : (y note : ℕ) (w : Waited) (core : Core) → Traced P P [] core (turns.waits_as system t y note w core)
    waits_as-traced y note (Got word) core =
        let first = says (row.Got y note word) (turns.given system t y word (with_note note (after_wait (Got word) (turns.queued y core) (note_of core note)) core)) in
        then_part P P P [] [] core first (turns.moves_on system t y) (still P core first refl refl refl) (λ k. moves_on-traced y k)
    waits_as-traced y note Blocks core = still P core _ refl refl refl

    takes_effect-traced : (y : ℕ) (item : Option Item) (core : Core) → Traced P P [] core (turns.takes_effect queue system c t y item core)
    takes_effect-traced y (Some (Signal note badge)) core =
        then_part P P P [] [] core (turns.signals queue system c t y note badge core) (turns.moves_on system t y) (signals-traced y note badge core) (λ k. moves_on-traced y k)
    takes_effect-traced y (Some (Wait note)) core = waits_as-traced y note (waited (note_of core note)) core
    takes_effect-traced y (Some (Compute ticks)) core = moves_on-traced y core
    takes_effect-traced y (Some Yield) core = moves_on-traced y core
    takes_effect-traced y (Some (On badges)) core = moves_on-traced y core
    takes_effect-traced y (Some Spin) core = moves_on-traced y core
    takes_effect-traced y (Some (Enter server priority)) core = enters_as-traced y server (waited (note_of core server)) core
    takes_effect-traced y (Some (Leave server priority)) core =
        then_part P P P [] [] core (turns.frees queue system t y server core) (turns.moves_on system t y) (frees-traced y server core) (λ k. moves_on-traced y k)
    takes_effect-traced y None core = still P core _ refl refl refl

  -- a wake does nothing in bandwidth mode
  reaches-woken : (late using : ℕ) (mode : Mode) (k : Context) → k.mode ≡ mode → Reaches late using k → Reaches late using (woken_by mode t k)
  reaches-woken late using Sporadic k e h = λ m d. absurd (no (sym e ∙ m))
    where
      no : Sporadic ≡ Bandwidth → ⊥
      no f = cc
  reaches-woken late using Bandwidth k e h = h

  -- and a choice moves the head to its moment
  reaches-chosen : (mode : Mode) (k : Context) → k.mode ≡ mode → KeepsItsBudget k → Reaches 0 0 (chosen_by mode t k)
  reaches-chosen Sporadic k e kept = λ m d. absurd (no (sym e ∙ m))
    where
      no : Sporadic ≡ Bandwidth → ⊥
      no f = cc
  reaches-chosen Bandwidth k e kept = λ m d. by k.budget kept.whole d
    where
      by : (budget : Budget) → IsWhole k.config budget → IsDates (budget_unblocked t budget) → t ≤ moment_of (budget_unblocked t budget) + 0 + 0
      by (Dates []) w d = absurd (omega (arith, w.all, kept.config.some))
      by (Dates (date ∷ dates)) w d = omega arith
      by (Slice left) w d = absurd d

  uses-steady : (low gap late : ℕ) (o : Option Chosen) (k : Context) → Uses low gap late o k → Uses low gap late o (context_woken t k)
  uses-steady low gap late None k p = tt
  uses-steady low gap late (Some chosen) k p = λ own. ((p own).0, omega (arith, (p own).1, head_amount-woken t k), reaches-woken late chosen.using k.mode k refl (p own).2)

  -- thread y runs and has used this many ticks of the head, the last tick counted
  record Counts (y using : ℕ) (o : Option Chosen) (k : Context) : Type 0 where
    runs : o ≡ Some (record { thread = y; using = using })
    uses : Own y → (1 ≤ using) × (using ≤ head_amount k) × Reaches 0 using k

  counts-steady : (y using : ℕ) (o : Option Chosen) (k : Context) → Counts y using o k → Counts y using o (context_woken t k)
  counts-steady y using o k p = record { runs = p.runs; uses = λ own. ((p.uses own).0, omega (arith, (p.uses own).1, head_amount-woken t k), reaches-woken 0 using k.mode k refl (p.uses own).2) }

  -- a stop, of what the running thread has used or of the whole head
  stops-traced : (y using : ℕ) (cause : Why) (standing : Standing) (core : Core) → Traced (Counts y using) (Uses 1 1 0) [] core (turns.stops system y cause using standing core)
  stops-traced y using cause standing core = charging (Counts y using) (Uses 1 1 0) y using cause None core _ refl refl (λ own kept p. ((p.uses own).0, (p.uses own).1)) tt

  stops_to_back-traced : (P : Option Chosen → Context → Type 0) (y k : ℕ) (cause : Why) (core : Core) →
      (Own y → KeepsItsBudget (context_of core x) → holds P core → (1 ≤ k) × (k ≤ head_amount (context_of core x))) →
      Traced P (Uses 1 1 0) [] core (turns.stops_to_back queue system t y cause k core)
  stops_to_back-traced P y k cause core h =
      charging P (Uses 1 1 0) y k cause (turns.date_of system t y (turns.charged system y k core)) core _
      (enters_back-same y (turns.date_of system t y (turns.charged system y k core)) (off (turns.charged system y k core))) refl h
      (idle 1 1 0 (turns.stops_to_back queue system t y cause k core).core
      (enters_back-running y (turns.date_of system t y (turns.charged system y k core)) (off (turns.charged system y k core))))

  spent-traced : (y using : ℕ) (core : Core) → Traced (Counts y using) (Uses 1 1 0) [] core (turns.may_stop queue system t y using after.GoesOn core)
  spent-traced y using core = by (same using (head_amount (turns.its_context system y core)))
    where
      stopped : Turn
      stopped = turns.stops_to_back queue system t y why.Spent using core

      on : (b : Bool) → (using == head_amount (turns.its_context system y core)) ≡ b → Traced (Counts y using) (Uses 1 1 0) [] core (cond b stopped (silent core)) →
          Traced (Counts y using) (Uses 1 1 0) [] core (turns.may_stop queue system t y using after.GoesOn core)
      on b e p = rw e p

      less : using ≢ head_amount (turns.its_context system y core) → (o : Option Chosen) → o ≡ core.running → Counts y using o (context_of core x) → Uses 1 1 0 o (context_of core x)
      less d o e p = rw p.runs (λ own. ((p.uses own).0, one_less own, (p.uses own).2))
        where
          one_less : Own y → using + 1 ≤ head_amount (context_of core x)
          one_less own = fewer using (head_amount (context_of core x)) (rw own at d) (p.uses own).1
            where
              fewer : (a b : ℕ) → a ≢ b → a ≤ b → a + 1 ≤ b
              fewer a b e l = omega arith

      by : Same using (head_amount (turns.its_context system y core)) → Traced (Counts y using) (Uses 1 1 0) [] core (turns.may_stop queue system t y using after.GoesOn core)
      by (Are e d) = on true e (stops_to_back-traced (Counts y using) y using why.Spent core (λ own kept p. ((p.uses own).0, (p.uses own).1)))
      by (Differ e d) = on false e (plain (Counts y using) (Uses 1 1 0) core (silent core) refl refl (λ kept p. less d core.running refl p))

  may_stop-traced : (y using : ℕ) (cause : AfterItem) (core : Core) → Traced (Counts y using) (Uses 1 1 0) [] core (turns.may_stop queue system t y using cause core)
  may_stop-traced y using after.Ends core = stops-traced y using _ _ core
  may_stop-traced y using after.Blocks core = stops-traced y using _ _ core
  may_stop-traced y using after.Calls core = stops-traced y using _ _ core
  may_stop-traced y using after.Yields core =
      stops_to_back-traced (Counts y using) y (head_amount (turns.its_context system y core)) why.Yield core (λ own kept p. whole own kept)
    where
      whole : Own y → KeepsItsBudget (context_of core x) → (1 ≤ head_amount (turns.its_context system y core)) × (head_amount (turns.its_context system y core) ≤ head_amount (context_of core x))
      whole own kept = rw own (head_amount-some (context_of core x) kept, omega arith)
  may_stop-traced y using after.GoesOn core = spent-traced y using core

  after_count-traced : (y using : ℕ) (core : Core) → Traced (Counts y using) (Uses 1 1 0) [] core (turns.after_count queue system c t y using core)
  after_count-traced y using core =
      by_test (Counts y using) (Uses 1 1 0) [] ((thread_of core y).place.left == 0) core
      (turns.finishes queue system c t y using (turns.item_of system y core) core) (turns.may_stop queue system t y using after.GoesOn core)
      (
      then_part (Counts y using) (Counts y using) (Uses 1 1 0) [] [] core (turns.takes_effect queue system c t y (turns.item_of system y core) core)
      (turns.may_stop queue system t y using (turns.after_item system y (turns.item_of system y core) core))
      (takes_effect-traced (Counts y using) (counts-steady y using) y (turns.item_of system y core) core)
      (λ k. may_stop-traced y using (turns.after_item system y (turns.item_of system y core) core) k)
      )
      (spent-traced y using core)

  -- the end of the tick
  tick_of-traced : (o : Option Chosen) (core : Core) → core.running ≡ o → Traced (Uses 0 1 1) (Uses 1 1 0) [] core (turns.tick_of queue system c t o core)
  tick_of-traced None core e = plain (Uses 0 1 1) (Uses 1 1 0) core (silent core) refl refl (λ kept p. idle 1 1 0 core e)
  tick_of-traced (Some chosen) core e =
      then_part (Uses 0 1 1) (Counts chosen.thread (chosen.using + 1)) (Uses 1 1 0) [] [] core (silent (turns.counts chosen core))
      (turns.after_count queue system c t chosen.thread (chosen.using + 1))
      (plain (Uses 0 1 1) (Counts chosen.thread (chosen.using + 1)) core (silent (turns.counts chosen core)) refl refl (λ kept p. counted core.running e p))
      (λ k. after_count-traced chosen.thread (chosen.using + 1) k)
    where
      counted : (o : Option Chosen) → o ≡ Some chosen → Uses 0 1 1 o (context_of core x) → Counts chosen.thread (chosen.using + 1) (Some (record { thread = chosen.thread; using = chosen.using + 1 })) (context_of core x)
      counted o e p =
          let q : Uses 0 1 1 (Some chosen) (context_of core x) = rw e at p in
          record { runs = refl; uses = λ own. (omega arith, (q own).1, λ m d. omega (arith, (q own).2 m d)) }

  -- an order, of this moment
  orders_running-traced : (order : Order) → order.moment ≡ t → GivesBudget order.config → (o : Option Chosen) (core : Core) → core.running ≡ o →
      Traced (Uses 1 1 0) (Uses 1 1 0) (filter (is_order_for x) (order ∷ [])) core (turns.orders_running queue system t order o core)
  orders_running-traced order m budget None core e =
      ordering (Uses 1 1 0) (Uses 1 1 0) order core (silent (turns.applied t order core)) m budget refl refl (λ left p. idle 1 1 0 (turns.applied t order core) e)
  orders_running-traced order m budget (Some chosen) core e = by (same (thread_part system chosen.thread).context order.context)
    where
      y : ℕ
      y = chosen.thread

      charged : Turn
      charged =
          record {
            core = off (turns.charged system y chosen.using core);
            rows = row.Stop y why.Order chosen.using (turns.date_of system t y (turns.applied t order (turns.charged system y chosen.using core))) ∷ [];
            mails = [];
          }

      stopped : Turn
      stopped = turns.stops_to_front queue system t y why.Order chosen.using (turns.applied t order (turns.charged system y chosen.using core))

      os : List Order
      os = filter (is_order_for x) (order ∷ [])

      on : (b : Bool) → ((thread_part system y).context == order.context) ≡ b → Traced (Uses 1 1 0) (Uses 1 1 0) os core (cond b stopped (silent (turns.applied t order core))) →
          Traced (Uses 1 1 0) (Uses 1 1 0) os core (turns.orders_running queue system t order (Some chosen) core)
      on b f p = rw f p

      uses : (o : Option Chosen) → o ≡ Some chosen → Uses 1 1 0 o (context_of core x) → Own y → (1 ≤ chosen.using) × (chosen.using ≤ head_amount (context_of core x))
      uses o f p own =
          let q : Uses 1 1 0 (Some chosen) (context_of core x) = rw f at p in
          ((q own).0, omega (arith, (q own).1))

      elsewhere : (thread_part system y).context ≢ order.context → (order.context ≢ x → context_of (turns.applied t order core) x ≡ context_of core x) →
          Uses 1 1 0 (Some chosen) (context_of core x) → Uses 1 1 0 (Some chosen) (context_of (turns.applied t order core) x)
      elsewhere d left q = λ own. carry (λ k. (1 ≤ chosen.using) × (chosen.using + 1 ≤ head_amount k) × Reaches 0 chosen.using k) (context_of core x) (context_of (turns.applied t order core) x) (sym (left (λ f. d (own ∙ sym f)))) (q own)

      by : Same (thread_part system y).context order.context → Traced (Uses 1 1 0) (Uses 1 1 0) os core (turns.orders_running queue system t order (Some chosen) core)
      by (Are f d) =
          on true f
          (
          as_made (Uses 1 1 0) (Uses 1 1 0) (Uses 1 1 0) os core (charged followed_by λ k. silent (turns.applied t order k)) stopped
          (enters_front-same y (turns.date_of system t y (turns.applied t order (turns.charged system y chosen.using core))) (off (turns.applied t order (turns.charged system y chosen.using core))))
          refl
          (idle 1 1 0 stopped.core (enters_front-running y (turns.date_of system t y (turns.applied t order (turns.charged system y chosen.using core))) (off (turns.applied t order (turns.charged system y chosen.using core)))))
          (
          then_part (Uses 1 1 0) (λ o k. o ≡ None) (Uses 1 1 0) [] os core charged (λ k. silent (turns.applied t order k))
          (charging (Uses 1 1 0) (λ o k. o ≡ None) y chosen.using why.Order _ core charged refl refl (λ own kept p. uses core.running e p own) refl)
          (λ k. ordering (λ o k. o ≡ None) (Uses 1 1 0) order k (silent (turns.applied t order k)) m budget refl refl (λ left p. idle 1 1 0 (turns.applied t order k) p))
          )
          )
      by (Differ f d) =
          on false f
          (ordering (Uses 1 1 0) (Uses 1 1 0) order core (silent (turns.applied t order core)) m budget refl refl
          (λ left p. again core.running e (elsewhere d left (rw e at p))))
        where
          again : (o : Option Chosen) → o ≡ Some chosen → Uses 1 1 0 (Some chosen) (context_of (turns.applied t order core) x) → Uses 1 1 0 o (context_of (turns.applied t order core) x)
          again o f q = rw f q

  pub obeys-traced : (order : Order) → order.moment ≡ t → GivesBudget order.config → (core : Core) →
      Traced (Uses 1 1 0) (Uses 1 1 0) (filter (is_order_for x) (order ∷ [])) core (turns.obeys queue system t order core)
  obeys-traced order m budget core =
      then_made (Uses 1 1 0) (Uses 1 1 0) (Uses 1 1 0) [] (filter (is_order_for x) (order ∷ [])) core (says (row.Order order.context) core)
      (λ k. turns.orders_running queue system t order core.running k)
      (still (Uses 1 1 0) core (says (row.Order order.context) core) refl refl refl) (orders_running-traced order m budget core.running core refl)

  -- the orders of this moment, in file order
  told_as : (P Q : Option Chosen → Context → Type 0) (os us : List Order) (core : Core) (made : Turn) → os ≡ us → Traced P Q os core made → Traced P Q us core made
  told_as P Q os us core made e h =
      record { changes = h.changes; many = h.many; after = h.after; told = h.told; ordered = sym e ∙ h.ordered; sound = h.sound; runs = h.runs }

  orders-traced : (orders : List Order) → AllByRecursion (λ (order : Order). GivesBudget order.config) orders → (core : Core) →
      Traced (Uses 1 1 0) (Uses 1 1 0) (filter (is_order_for x) (filter (is_for_now system c t) orders)) core (each (turns.obeys queue system t) (filter (is_for_now system c t) orders) core)
  orders-traced [] h core = still (Uses 1 1 0) core (silent core) refl refl refl
  orders-traced (order ∷ orders) h core = by (is_for_now system c t order) refl (λ k. orders-traced orders h.1 k)
    where
      now : (moment home : ℕ) → (moment == t) && (home == c) ≡ true → moment ≡ t
      now moment home e = grind (arith, nat_tests)

      others : List Order
      others = filter (is_for_now system c t) orders

      by : (b : Bool) → is_for_now system c t order ≡ b → ((k : Core) → Traced (Uses 1 1 0) (Uses 1 1 0) (filter (is_order_for x) others) k (each (turns.obeys queue system t) others k)) →
          Traced (Uses 1 1 0) (Uses 1 1 0) (filter (is_order_for x) (cond b (order ∷ others) others)) core (each (turns.obeys queue system t) (cond b (order ∷ others) others) core)
      by true e i =
          told_as (Uses 1 1 0) (Uses 1 1 0) _ _ core _ (sym (filter-append (is_order_for x) (order ∷ []) others))
          (
          then_part (Uses 1 1 0) (Uses 1 1 0) (Uses 1 1 0) (filter (is_order_for x) (order ∷ [])) (filter (is_order_for x) others) core
          (turns.obeys queue system t order core) (each (turns.obeys queue system t) others)
          (obeys-traced order (now order.moment (context_part system order.context).core e) h.0 core) i
          )
      by false e i = i core

  released-traced : (due : Dated) (core : Core) → Traced (Uses 1 1 0) (Uses 1 1 0) [] core (turns.released queue due core)
  released-traced due core = still (Uses 1 1 0) core _ refl refl refl

  releases-traced : (core : Core) → Traced (Uses 1 1 0) (Uses 1 1 0) [] core (turns.releases queue system t core)
  releases-traced core =
      then_part (Uses 1 1 0) (Uses 1 1 0) (Uses 1 1 0) [] [] core (silent (record core { releases = filter (λ dated. not (is_due t dated)) core.releases }))
      (each (turns.released queue) (filter (is_due t) core.releases))
      (still (Uses 1 1 0) core _ refl refl refl)
      (λ k. each_part (Uses 1 1 0) (turns.released queue) released-traced (filter (is_due t) core.releases) k)

  preempts_by-traced : (o : Option Chosen) (best : Option Queued) (core : Core) → core.running ≡ o → Traced (Uses 1 1 0) (Uses 1 1 0) [] core (turns.preempts_by queue system t o best core)
  preempts_by-traced (Some chosen) (Some best) core e =
      by_test (Uses 1 1 0) (Uses 1 1 0) [] (nat_lt (thread_of core chosen.thread).place.priority best.priority) core stopped (silent core)
      (charging (Uses 1 1 0) (Uses 1 1 0) chosen.thread chosen.using why.Preempt (turns.date_of system t chosen.thread (turns.charged system chosen.thread chosen.using core)) core stopped
      (enters_front-same chosen.thread (turns.date_of system t chosen.thread (turns.charged system chosen.thread chosen.using core)) (off (turns.charged system chosen.thread chosen.using core)))
      refl (λ own kept p. uses core.running e p own)
      (idle 1 1 0 stopped.core (enters_front-running chosen.thread (turns.date_of system t chosen.thread (turns.charged system chosen.thread chosen.using core)) (off (turns.charged system chosen.thread chosen.using core)))))
      (still (Uses 1 1 0) core (silent core) refl refl refl)
    where
      stopped : Turn
      stopped = turns.stops_to_front queue system t chosen.thread why.Preempt chosen.using (turns.charged system chosen.thread chosen.using core)

      uses : (o : Option Chosen) → o ≡ Some chosen → Uses 1 1 0 o (context_of core x) → Own chosen.thread → (1 ≤ chosen.using) × (chosen.using ≤ head_amount (context_of core x))
      uses o f p own =
          let q : Uses 1 1 0 (Some chosen) (context_of core x) = rw f at p in
          ((q own).0, omega (arith, (q own).1))
  preempts_by-traced (Some chosen) None core e = still (Uses 1 1 0) core (silent core) refl refl refl
  preempts_by-traced None best core e = still (Uses 1 1 0) core (silent core) refl refl refl

  chooses_of-traced : (o : Option Chosen) (best : Option Queued) (core : Core) → core.running ≡ o → Traced (Uses 1 1 0) (Uses 0 1 0) [] core (turns.chooses_of queue system t o best core)
  chooses_of-traced (Some chosen) best core e = plain (Uses 1 1 0) (Uses 0 1 0) core (silent core) refl refl (λ kept p. weaker core.running p)
    where
      weaker : (o : Option Chosen) → Uses 1 1 0 o (context_of core x) → Uses 0 1 0 o (context_of core x)
      weaker None p = tt
      weaker (Some chosen) p = λ own. (omega arith, (p own).1, (p own).2)
  chooses_of-traced None None core e = plain (Uses 1 1 0) (Uses 0 1 0) core (silent core) refl refl (λ kept p. idle 0 1 0 core e)
  chooses_of-traced None (Some best) core e =
      touching (Uses 1 1 0) (Uses 0 1 0) (Picked t) refl refl (λ k. tt) best.thread core (turns.chooses_of queue system t None (Some best) core) refl
      (λ k kept p own. (omega arith, omega (arith, head_amount-some (changed least k (Picked t)) (keeps-change least (Picked t) k kept tt)), reaches-chosen k.mode k refl kept))
      (λ differs k kept p own. absurd (differs own)) refl

  -- a turn up to its orders
  pub before-orders : (mails : List Mail) (core : Core) →
      Traced (Uses 0 1 1) (Uses 1 1 0) [] core
      (turns.tick queue system c t core followed_by each (turns.interrupts queue system t) (ringing t (alarms_at system c t)) followed_by each (turns.arrives queue system t) mails)
  before-orders mails core =
      then_part (Uses 0 1 1) (Uses 1 1 0) (Uses 1 1 0) [] [] core _ (each (turns.arrives queue system t) mails)
      (
      then_part (Uses 0 1 1) (Uses 1 1 0) (Uses 1 1 0) [] [] core (turns.tick queue system c t core) (each (turns.interrupts queue system t) (ringing t (alarms_at system c t)))
      (tick_of-traced core.running core refl)
      (λ k. each_part (Uses 1 1 0) (turns.interrupts queue system t) (interrupts-traced (Uses 1 1 0) (uses-steady 1 1 0)) (ringing t (alarms_at system c t)) k)
      )
      (λ k. each_part (Uses 1 1 0) (turns.arrives queue system t) (arrives-traced (Uses 1 1 0) (uses-steady 1 1 0)) mails k)

  -- a whole turn
  pub turn-traced : AllByRecursion (λ (order : Order). GivesBudget order.config) system.orders → (mails : List Mail) (core : Core) →
      Traced (Uses 0 1 1) (Uses 0 1 0) (filter (is_order_for x) (filter (is_for_now system c t) system.orders)) core (turns.turn_with queue system c t mails core)
  turn-traced budgets mails core =
      told_as (Uses 0 1 1) (Uses 0 1 0) _ orders core _ (append-nil _ ∙ append-nil _ ∙ append-nil _)
      (
      then_part (Uses 0 1 1) (Uses 1 1 0) (Uses 0 1 0) (([] ++ [] ++ [] ++ orders) ++ [] ++ []) [] core _ (turns.chooses queue system t)
      (
      then_part (Uses 0 1 1) (Uses 1 1 0) (Uses 1 1 0) _ [] core _ (turns.preempts queue system t)
      (
      then_part (Uses 0 1 1) (Uses 1 1 0) (Uses 1 1 0) _ [] core _ (turns.releases queue system t)
      (
      then_part (Uses 0 1 1) (Uses 1 1 0) (Uses 1 1 0) _ orders core _ (each (turns.obeys queue system t) (filter (is_for_now system c t) system.orders))
      (before-orders mails core)
      (λ k. orders-traced system.orders budgets k)
      )
      releases-traced
      )
      (λ k. preempts_by-traced k.running (queue.best k.ready) k refl)
      )
      (λ k. chooses_of-traced k.running (queue.best k.ready) k refl)
      )
    where
      orders : List Order
      orders = filter (is_order_for x) (filter (is_for_now system c t) system.orders)

-- what such changes say of charges and of unblocking
module _ (queue : Discipline) (system : System) (c t x : ℕ) (P Q : Option Chosen → Context → Type 0) (obeyed : List Order) (core : Core) (made : Turn)
    (traced : Traced queue system c t x P Q obeyed core made) where
  pub told-charges : charges_told system x made.rows ≡ charges_of traced.changes
  told-charges = charges-told system t x made.rows ∙ ap charges_of traced.told ∙ charges-deeds traced.changes

  pub told-wakes : wakes_told system x t made.rows ≡ wakes_of traced.changes
  told-wakes = wakes-told system t x made.rows ∙ ap wakes_of traced.told ∙ wakes-deeds traced.changes

  pub told-choices : choices_told system x t made.rows ≡ choices_of traced.changes
  told-choices = choices-told system t x made.rows ∙ ap choices_of traced.told ∙ choices-deeds traced.changes
