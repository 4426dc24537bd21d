-- Each signal of a turn is an item of the thread that runs, which is one of the core's own.
use Rattle.std.proofs.Common.{◌≡◌, ◌≢◌, ℕ, ◌+◌, ◌<◌, ◌≤◌, Bool, true, false, cond, ◌==◌, ◌⊎◌, inl, inr, List, [], ◌∷◌, ◌++◌, length, Option, Some, None, refl, sym, ap, subst, ◌∙◌, append-nil, arith}
use Rattle.std.specs.List.{slice_get}
use Rattle.std.proofs.lemmas.Bool.{cases_lt}
use Rattle.std.proofs.lemmas.Bool.Decides.{nat_tests}
use Rattle.std.proofs.lemmas.List.{get_or_past}
use Rattle.mcs_ticks.specs.Queue.{by_priority}
use Rattle.mcs_notify.specs.Note.{posted, waited}
use Rattle.mcs_notify.specs.declared.posted.Posted.{Posted}
use Rattle.mcs_notify.specs.declared.posted.Posted.TheVariants.{Woke, Held}
use Rattle.mcs_notify.specs.declared.posted.Waited.{Waited}
use Rattle.mcs_notify.specs.declared.posted.Waited.TheVariants.{Got, Blocks}
use Rattle.mcs_script.specs.declared.item.Item.{Item}
use Rattle.mcs_script.specs.declared.item.Item.TheVariants.{Compute, Signal, Wait, Yield, On, Spin, Enter, Leave}
use Rattle.mcs_script.specs.declared.moved.Moved.{Moved}
use Rattle.mcs_script.specs.declared.moved.Moved.TheVariants.{Next, RoundEnds, AllDone}
use Rattle.mcs_mail.specs.declared.mail.Mail.{Mail}
use Rattle.mcs_mail.specs.Box.{IsIn}
use Rattle.mcs_system.specs.declared.part.ThreadPart.{ThreadPart}
use Rattle.mcs_system.specs.System.{System, no_thread, note_part, thread_part, core_of}
use Rattle.mcs_system.specs.WellFormed.{IsWellFormed}
use Rattle.mcs_core.specs.Core.{Core, note_of, thread_of}
use Rattle.mcs_core.specs.declared.standing.AfterItem.TheVariants as after
use Rattle.mcs_core.specs.declared.standing.Chosen.{Chosen}
use Rattle.mcs_core.specs.Turn as turns
use Rattle.mcs_core.specs.Turn.{Turn}
use Rattle.mcs_core.specs.Clock as clocks
use Rattle.mcs_core.proofs.Clock.{turn_of-kept}
use Rattle.mcs_core.proofs.Mails.{mails-turn, may_stop-none}
use Rattle.mcs_laws.specs.Places.{times_running, places}
use Rattle.mcs_laws.specs.Links.{Signals, SignalsAreSaid}
use Rattle.mcs_laws.proofs.Histories.{takes-time}
use Rattle.mcs_laws.proofs.Homes.{one_if, own_core, away}

-- what is no signal for another core
module _ (system : System) (t : ℕ) where
  moves-none : (x : ℕ) (m : Moved) (core : Core) → (turns.moves system t x m core).mails ≡ []
  moves-none x Next core = refl
  moves-none x RoundEnds core = refl
  moves-none x AllDone core = refl

  posts_as-none : (note : ℕ) (p : Posted) (core : Core) → (turns.posts_as by_priority system t note p core).mails ≡ []
  posts_as-none note (Woke x word) core = append-nil _ ∙ moves-none x _ _
  posts_as-none note (Held word) core = refl

  moves_on-none : (x : ℕ) (core : Core) → (turns.moves_on system t x core).mails ≡ []
  moves_on-none x core = moves-none x (turns.move_of system x core) core

  waits_as-none : (x note : ℕ) (w : Waited) (core : Core) → (turns.waits_as system t x note w core).mails ≡ []
  waits_as-none x note (Got word) core = moves_on-none x _
  waits_as-none x note Blocks core = refl

module _ (system : System) (c t x : ℕ) where
  -- a signal that is an item of thread x
  record IsSaidBy (mail : Mail) : Type 0 where
    place : ℕ
    item : slice_get (thread_part system x).script place ≡ Some (Signal mail.note mail.badge)

  abbrev AreSaidBy : List Mail → Type 0
  AreSaidBy [] = Unit {0}
  AreSaidBy (mail ∷ mails) = IsSaidBy mail × AreSaidBy mails

  said-none : (mails : List Mail) → mails ≡ [] → AreSaidBy mails
  said-none mails e = rw e tt

  said-append : (xs ys : List Mail) → AreSaidBy xs → ys ≡ [] → AreSaidBy (xs ++ ys)
  said-append xs ys h e = rw (e, append-nil) h

  said-cond : (b : Bool) (u v : Turn) → AreSaidBy u.mails → AreSaidBy v.mails → AreSaidBy (cond b u v).mails
  said-cond true u v p q = p
  said-cond false u v p q = q

  takes_effect-said : (i : ℕ) (item : Option Item) (core : Core) → slice_get (thread_part system x).script i ≡ item →
      AreSaidBy (turns.takes_effect by_priority system c t x item core).mails
  takes_effect-said i (Some (Signal note badge)) core e =
      said-append _ _
      (said-cond ((note_part system note).core == c) (turns.posts by_priority system t note badge core) (record { core = core; rows = []; mails = turns.mail_to system c t note badge ∷ [] })
      (said-none _ (posts_as-none system t note (posted badge (note_of core note)) core))
      (record { place = i; item = e }, tt))
      (moves_on-none system t x _)
  takes_effect-said i (Some (Wait note)) core e = said-none _ (waits_as-none system t x note (waited (note_of core note)) core)
  takes_effect-said i (Some (Compute ticks)) core e = said-none _ (moves_on-none system t x core)
  takes_effect-said i (Some Yield) core e = said-none _ (moves_on-none system t x core)
  takes_effect-said i (Some (On badges)) core e = said-none _ (moves_on-none system t x core)
  takes_effect-said i (Some Spin) core e = said-none _ (moves_on-none system t x core)
  takes_effect-said i (Some (Enter server priority)) core e = said-none _ (enters_none (waited (note_of core server)))
    where
      enters_none : (w : Waited) → (turns.enters_as system t x server w core).mails ≡ []
      enters_none w = grind arith
  takes_effect-said i (Some (Leave server priority)) core e = said-append _ _ (said-none _ frees_none) (moves_on-none system t x _)
    where
      frees_none : (turns.frees by_priority system t x server core).mails ≡ []
      frees_none = grind arith
  takes_effect-said i None core e = tt

  finishes-said : (i using : ℕ) (item : Option Item) (core : Core) → slice_get (thread_part system x).script i ≡ item →
      AreSaidBy (turns.finishes by_priority system c t x using item core).mails
  finishes-said i using item core e =
      said-append (turns.takes_effect by_priority system c t x item core).mails _ (takes_effect-said i item core e)
      (may_stop-none by_priority system c t x using (turns.after_item system x item core) _)

  -- the end of the tick if x runs
  after_count-said : (using : ℕ) (core : Core) → AreSaidBy (turns.after_count by_priority system c t x using core).mails
  after_count-said using core =
      said-cond ((thread_of core x).place.left == 0) _ _
      (finishes-said (thread_of core x).place.item using (turns.item_of system x core) core refl)
      (said-none _ (may_stop-none by_priority system c t x using after.GoesOn core))

  one-said : (mail : Mail) (mails : List Mail) → AreSaidBy mails → IsIn mail mails → IsSaidBy mail
  one-said mail [] h k = absurd k
  one-said mail (first ∷ mails) h (inl e) = rw e h.0
  one-said mail (first ∷ mails) h (inr k) = one-said mail mails h.1 k

-- a thread that runs has a place
one-runs : (k : Core) (chosen : Chosen) → k.running ≡ Some chosen → places chosen.thread k ≡ 0 → ⊥
one-runs k chosen e none =
    let f : times_running chosen.thread (Some chosen) ≡ times_running chosen.thread k.running = ap (times_running chosen.thread) (sym e) in
    differs chosen.thread (omega (arith, none, f))
  where
    differs : (x : ℕ) → one_if (x == x) ≡ 0 → ⊥
    differs x e = grind (arith, nat_tests)

module _ (system : System) (well : IsWellFormed system) where
  -- a thread that runs on core b is one of core b's threads
  pub runs-at-home : (b t : ℕ) → b < system.cores → (chosen : Chosen) → (clocks.core_shown system (clocks.world system t) b).running ≡ Some chosen →
      core_of system (thread_part system chosen.thread) ≡ b
  unfolding own_core
  runs-at-home b t known chosen e = by (b == own_core system chosen.thread) refl
    where
      same : (a d : ℕ) → (a == d) ≡ true → d ≡ a
      same a d e = grind (arith, nat_tests)

      differ : (a d : ℕ) → (a == d) ≡ false → a ≢ d
      differ a d e = grind (arith, nat_tests)

      by : (u : Bool) → (b == own_core system chosen.thread) ≡ u → own_core system chosen.thread ≡ b
      by true f = same b (own_core system chosen.thread) f
      by false f =
          absurd
          (one-runs (clocks.core_shown system (clocks.world system t) b) chosen e
          (away system (takes-time system well) chosen.thread t b known (differ b (own_core system chosen.thread) f)))

-- a thread with an item is one that there is
with-item : (system : System) (x i : ℕ) (item : Item) → slice_get (thread_part system x).script i ≡ Some item → x < length system.threads
with-item system x i item e = by (cases_lt x (length system.threads))
  where
    by : (x < length system.threads) ⊎ (length system.threads ≤ x) → x < length system.threads
    by (inl within) = within
    by (inr past) =
        let none : slice_get no_thread.script i ≡ Some item =
        subst (λ (thread : ThreadPart). slice_get thread.script i ≡ Some item) (get_or_past system.threads x no_thread past) e in
        cc

pub signals-said : SignalsAreSaid
signals-said system well b t mail known k = by core.running refl (subst (IsIn mail) (ap (λ (made : Turn). made.mails) (turn_of-kept system b t) ∙ mails-turn by_priority system b t _ core) k)
  where
    core : Core
    core = clocks.core_shown system (clocks.world system t) b

    by : (o : Option Chosen) → core.running ≡ o → IsIn mail (turns.tick_of by_priority system b t o core).mails → Signals system b (note_part system mail.note).core
    by None e k = absurd k
    by (Some chosen) e k =
        let said = one-said system b t chosen.thread mail _ (after_count-said system b t chosen.thread (chosen.using + 1) (turns.counts chosen core)) k in
        record {
          thread = chosen.thread;
          place = said.place;
          note = mail.note;
          badge = mail.badge;
          known = with-item system chosen.thread said.place (Signal mail.note mail.badge) said.item;
          maker = runs-at-home system well b t known chosen e;
          item = said.item;
          home = refl;
        }
