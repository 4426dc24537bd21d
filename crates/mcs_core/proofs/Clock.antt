-- The order of the cores within a moment does not matter: each takes the turn of the world before the moment.
use Rattle.std.proofs.Common.{◌≡◌, ℕ, zero, suc, ◌+◌, ◌<◌, ◌≤◌, ◌≢◌, Bool, true, false, not, ◌&&◌, List, [], ◌∷◌, ◌++◌, length, map, ◌⊎◌, inl, inr, refl, sym, ap, ◌∙◌, append-nil, append_assoc, arith}
use Rattle.std.specs.Prelude.{filter, fold, flat_map, ◌==◌}
use Rattle.std.specs.List.{range_with_len}
use Rattle.std.proofs.lemmas.Bool.{cases_eq}
use Rattle.std.proofs.lemmas.Bool.Decides.{nat_tests}
use Rattle.std.proofs.lemmas.List.{get_or-set_same, get_or-set_other}
use Rattle.std.proofs.lemmas.List.Elements.{filter-append}
use Rattle.std.proofs.Math.ListN.{length-set}
use Rattle.std.proofs.lemmas.List.FromFn.{length-map-range_with_len, get_or-map-range_with_len}
use Rattle.mcs_ticks.specs.Queue.{Discipline, in_one_list}
use Rattle.mcs_ticks.specs.declared.row.Row.{Row}
use Rattle.mcs_mail.specs.declared.mail.Mail.{Mail}
use Rattle.mcs_system.specs.System.{System, note_part, delay_between, TakesTime}
use Rattle.mcs_core.specs.Core.{opening_core}
use Rattle.mcs_core.specs.Turn.{Turn, turn, turn_with}
use Rattle.mcs_core.specs.Clock as clocks
use Rattle.mcs_core.specs.Clock.{World, Clock}
use Rattle.mcs_core.proofs.Mails as mails
use Rattle.mcs_core.proofs.Alike.{turn_shown, turn-alike}

-- what one test takes out is nothing that another, which it excludes, asks for
filter-filter_not : (p q : Mail → Bool) → ((m : Mail) → p m ≡ true → q m ≡ true → ⊥) → (ms : List Mail) → filter p (filter (λ m. not (q m)) ms) ≡ filter p ms
filter-filter_not p q h [] = refl
filter-filter_not p q h (m ∷ ms) = grind (arith, h m, filter-filter_not p q h ms)

-- of each number from a on two functions make the same
flat_map-same : {A : Type 0} (f g : ℕ → List A) (n a : ℕ) → ((b : ℕ) → a ≤ b → f b ≡ g b) → flat_map f (range_with_len a n) ≡ flat_map g (range_with_len a n)
flat_map-same f g zero a h = refl
flat_map-same f g (suc n) a h = ap (λ xs. xs ++ flat_map f (range_with_len (a + 1) n)) (h a (omega arith)) ∙ ap (λ xs. g a ++ xs) (flat_map-same f g n (a + 1) (λ b l. h b (omega arith)))

home-same : (t a b c h : ℕ) → (a == t) && (h == c) ≡ true → (a == t) && (h == b) ≡ true → c ≡ b
home-same t a b c h p q = grind (arith, nat_tests)

not_now : (a t d h c : ℕ) → a ≡ t + d → 1 ≤ d → (a == t) && (h == c) ≡ false
not_now a t d h c p q = grind (arith, nat_tests)

module _ (queue : Discipline) (system : System) (takes_time : TakesTime system) where
  filter-outgoing : (c t b : ℕ) (ms : List Mail) → mails.IsOutgoing queue system b t ms → filter (clocks.arrives_at system t c) ms ≡ []
  filter-outgoing c t b [] h = refl
  filter-outgoing c t b (m ∷ []) h = rw (not_now m.arrives t (delay_between system b (note_part system m.note).core) (note_part system m.note).core c h.arrives (takes_time b (note_part system m.note).core)) refl
  filter-outgoing c t b (m ∷ n ∷ ms) h = absurd h

  -- a core's turn leaves the arrivals of the others
  arrivals-other : (t b c : ℕ) (k : Clock) → c ≢ b →
      filter (clocks.arrives_at system t c) (clocks.takes_turn_with queue system t k b).world.mails ≡ filter (clocks.arrives_at system t c) k.world.mails
  arrivals-other t b c k h =
      filter-append (clocks.arrives_at system t c) (filter (λ m. not (clocks.arrives_at system t b m)) k.world.mails) (clocks.turn_at_with queue system t b k.world).mails
      ∙ rw (
        filter-filter_not (clocks.arrives_at system t c) (clocks.arrives_at system t b) (λ m p q. h (home-same t m.arrives b c (note_part system m.note).core p q)) k.world.mails,
        filter-outgoing c t b (clocks.turn_at_with queue system t b k.world).mails (mails.turn-out queue system b t (filter (clocks.arrives_at system t b) k.world.mails) (clocks.core_at system k.world b)),
        append-nil,
      ) refl

  core-other : (t b c : ℕ) (k : Clock) → c ≢ b → clocks.core_at system (clocks.takes_turn_with queue system t k b).world c ≡ clocks.core_at system k.world c
  core-other t b c k h = get_or-set_other k.world.cores b c (clocks.turn_at_with queue system t b k.world).core (opening_core system c) h

  -- so another core's turn is the same before and after it
  turn-other : (t b c : ℕ) (k : Clock) → c ≢ b → clocks.turn_at_with queue system t c (clocks.takes_turn_with queue system t k b).world ≡ clocks.turn_at_with queue system t c k.world
  turn-other t b c k h =
      ap (λ ms. turn_with queue system c t ms (clocks.core_at system (clocks.takes_turn_with queue system t k b).world c)) (arrivals-other t b c k h)
      ∙ ap (turn_with queue system c t (filter (clocks.arrives_at system t c) k.world.mails)) (core-other t b c k h)

  after : (t : ℕ) (k : Clock) (a n : ℕ) → Clock
  after t k a n = fold (clocks.takes_turn_with queue system t) k (range_with_len a n)

  -- cores that take no turn stay
  core-after_other : (n t a c : ℕ) (k : Clock) → (c < a) ⊎ (a + n ≤ c) → clocks.core_at system (after t k a n).world c ≡ clocks.core_at system k.world c
  unfolding after
  core-after_other zero t a c k h = refl
  core-after_other (suc n) t a c k h =
      core-after_other n t (a + 1) c (clocks.takes_turn_with queue system t k a) (grind arith) ∙ core-other t a c k (grind arith)

  core-own_at : (t a c : ℕ) (k : Clock) → c ≡ a → a < length k.world.cores → clocks.core_at system (clocks.takes_turn_with queue system t k a).world c ≡ (clocks.turn_at_with queue system t c k.world).core
  core-own_at t a c k e h = rw e (get_or-set_same k.world.cores a (clocks.turn_at_with queue system t a k.world).core (opening_core system a) h)

  length-after_one : (t b : ℕ) (k : Clock) → length (clocks.takes_turn_with queue system t k b).world.cores ≡ length k.world.cores
  length-after_one t b k = length-set k.world.cores b (clocks.turn_at_with queue system t b k.world).core

  length-after : (n t a : ℕ) (k : Clock) → length (after t k a n).world.cores ≡ length k.world.cores
  unfolding after
  length-after zero t a k = refl
  length-after (suc n) t a k = length-after n t (a + 1) (clocks.takes_turn_with queue system t k a) ∙ length-after_one t a k

  -- a core that takes its turn takes that of the world before the moment
  core-after : (n t a c : ℕ) (k : Clock) → a ≤ c → c < a + n → a + n ≤ length k.world.cores → clocks.core_at system (after t k a n).world c ≡ (clocks.turn_at_with queue system t c k.world).core
  unfolding after
  core-after zero t a c k l h f = absurd (omega arith)
  core-after (suc n) t a c k l h f =
      let next : Clock = clocks.takes_turn_with queue system t k a in
      elim (cases_eq c a) [
        | inl same ↦ core-after_other n t (a + 1) c next (inl (omega arith)) ∙ core-own_at t a c k same (omega arith)
        | inr other ↦ core-after n t (a + 1) c next (omega arith) (omega arith) (rw (length-after_one t a k) (omega arith)) ∙ ap (λ (made : Turn). made.core) (turn-other t a c k other)
      ]

  -- the rows of a turn
  abbrev pub rows_in : ℕ → World → ℕ → List Row
  rows_in t world c = map (λ what. record { moment = t; core = c; what = what }) (clocks.turn_at_with queue system t c world).rows

  rows_in-other : (n t b a : ℕ) (k : Clock) → b < a → flat_map (rows_in t (clocks.takes_turn_with queue system t k b).world) (range_with_len a n) ≡ flat_map (rows_in t k.world) (range_with_len a n)
  rows_in-other n t b a k h =
      flat_map-same (rows_in t (clocks.takes_turn_with queue system t k b).world) (rows_in t k.world) n a
      (λ c l. ap (λ (made : Turn). map (λ what. record { moment = t; core = c; what = what }) made.rows) (turn-other t b c k (omega arith)))

  -- the rows of a moment are those of the turns of the world before it, in order of the cores
  rows-after : (n t a : ℕ) (k : Clock) → (after t k a n).rows ≡ k.rows ++ flat_map (rows_in t k.world) (range_with_len a n)
  unfolding after
  rows-after zero t a k = sym (append-nil k.rows)
  rows-after (suc n) t a k =
      rows-after n t (a + 1) (clocks.takes_turn_with queue system t k a)
      ∙ ap (λ xs. (clocks.takes_turn_with queue system t k a).rows ++ xs) (rows_in-other n t a (a + 1) k (omega arith))
      ∙ append_assoc k.rows (rows_in t k.world a) (flat_map (rows_in t k.world) (range_with_len (a + 1) n))

  length-clock : (t : ℕ) → length (clocks.clock_with queue system t).world.cores ≡ system.cores
  unfolding after
  length-clock zero = length-map-range_with_len (opening_core system) 0 system.cores
  length-clock (suc t) = length-after system.cores t 0 (clocks.clock_with queue system t) ∙ length-clock t

  -- core c before moment t + 1 is what its turn at t makes of core c before moment t and its arrivals
  pub core-next : (t c : ℕ) → c < system.cores → clocks.core_at system ((clocks.clock_with queue system (suc t)).world) c ≡ (clocks.turn_at_with queue system t c (clocks.clock_with queue system t).world).core
  unfolding after
  core-next t c h = core-after system.cores t 0 c (clocks.clock_with queue system t) (omega arith) (omega arith) (rw (length-clock t) (omega arith))

  -- the schedule grows by the rows of each core's turn at t
  pub rows-next : (t : ℕ) → (clocks.clock_with queue system (suc t)).rows ≡ (clocks.clock_with queue system t).rows ++ flat_map (rows_in t (clocks.clock_with queue system t).world) (range_with_len 0 system.cores)
  unfolding after
  rows-next t = rows-after system.cores t 0 (clocks.clock_with queue system t)

  -- a turn at t takes no signal that arrives later, and adds its own
  mails-one : (t later c b : ℕ) (k : Clock) → t < later →
      filter (clocks.arrives_at system later c) (clocks.takes_turn_with queue system t k b).world.mails
      ≡ filter (clocks.arrives_at system later c) k.world.mails ++ filter (clocks.arrives_at system later c) (clocks.turn_at_with queue system t b k.world).mails
  mails-one t later c b k h =
      filter-append (clocks.arrives_at system later c) (filter (λ m. not (clocks.arrives_at system t b m)) k.world.mails) (clocks.turn_at_with queue system t b k.world).mails
      ∙ rw (filter-filter_not (clocks.arrives_at system later c) (clocks.arrives_at system t b) (λ m p q. not_both m.arrives t later (note_part system m.note).core c b h p q) k.world.mails) refl
    where
      not_both : (a t later h c b : ℕ) → t < later → (a == later) && (h == c) ≡ true → (a == t) && (h == b) ≡ true → ⊥
      not_both a t later h c b l p q = grind (arith, nat_tests)

  -- the signals of core b's turn that arrive later on core c
  abbrev pub sent : ℕ → ℕ → ℕ → World → ℕ → List Mail
  sent later c t world b = filter (clocks.arrives_at system later c) (clocks.turn_at_with queue system t b world).mails

  sent-other : (n t later c b a : ℕ) (k : Clock) → b < a → flat_map (sent later c t (clocks.takes_turn_with queue system t k b).world) (range_with_len a n) ≡ flat_map (sent later c t k.world) (range_with_len a n)
  sent-other n t later c b a k h =
      flat_map-same (sent later c t (clocks.takes_turn_with queue system t k b).world) (sent later c t k.world) n a
      (λ d l. ap (λ (made : Turn). filter (clocks.arrives_at system later c) made.mails) (turn-other t b d k (omega arith)))

  mails-after : (n t later c a : ℕ) (k : Clock) → t < later →
      filter (clocks.arrives_at system later c) (after t k a n).world.mails
      ≡ filter (clocks.arrives_at system later c) k.world.mails ++ flat_map (sent later c t k.world) (range_with_len a n)
  unfolding after
  mails-after zero t later c a k h = sym (append-nil (filter (clocks.arrives_at system later c) k.world.mails))
  mails-after (suc n) t later c a k h =
      mails-after n t later c (a + 1) (clocks.takes_turn_with queue system t k a) h
      ∙ ap (λ xs. xs ++ flat_map (sent later c t (clocks.takes_turn_with queue system t k a).world) (range_with_len (a + 1) n)) (mails-one t later c a k h)
      ∙ ap (λ xs. (filter (clocks.arrives_at system later c) k.world.mails ++ sent later c t k.world a) ++ xs) (sent-other n t later c a (a + 1) k (omega arith))
      ∙ append_assoc (filter (clocks.arrives_at system later c) k.world.mails) (sent later c t k.world a) (flat_map (sent later c t k.world) (range_with_len (a + 1) n))

  -- the signals that arrive at `later` on core c, of those that the cores make at t
  abbrev pub sent_with : ℕ → ℕ → ℕ → List Mail
  sent_with later c t = flat_map (λ b. filter (clocks.arrives_at system later c) (clocks.turn_at_with queue system t b (clocks.clock_with queue system t).world).mails) (range_with_len 0 system.cores)

  flat_map-more : (f : ℕ → List Mail) (n a : ℕ) → flat_map f (range_with_len a (suc n)) ≡ flat_map f (range_with_len a n) ++ f (a + n)
  flat_map-more f zero a = append-nil (f a) ∙ ap f (omega arith)
  flat_map-more f (suc n) a =
      let e : a + 1 + n ≡ a + suc n = omega arith in
      ap (λ xs. f a ++ xs) (flat_map-more f n (a + 1)) ∙ sym (append_assoc (f a) (flat_map f (range_with_len (a + 1) n)) (f (a + 1 + n)))
      ∙ ap (λ m. (f a ++ flat_map f (range_with_len (a + 1) n)) ++ f m) e

  -- what is under way before moment n and arrives at `later` on core c is what the cores' turns before n sent, by moment and then core
  pub mails-next : (n later c : ℕ) → n ≤ later →
      filter (clocks.arrives_at system later c) (clocks.clock_with queue system n).world.mails ≡ flat_map (sent_with later c) (range_with_len 0 n)
  unfolding after
  mails-next zero later c h = refl
  mails-next (suc n) later c h =
      let e : 0 + n ≡ n = omega arith in
      mails-after system.cores n later c 0 (clocks.clock_with queue system n) (omega arith)
      ∙ ap (λ xs. xs ++ sent_with later c n) (mails-next n later c (omega arith))
      ∙ ap (λ m. flat_map (sent_with later c) (range_with_len 0 n) ++ sent_with later c m) (sym e)
      ∙ sym (flat_map-more (sent_with later c) n 0)

-- the clock, whose cores have their ready threads in one list
module _ (system : System) where
  -- core c at first
  pub core_shown-first : (c : ℕ) → c < system.cores → clocks.core_shown system (clocks.world system 0) c ≡ opening_core system c
  core_shown-first c h = ap clocks.shown (get_or-map-range_with_len (opening_core system) 0 system.cores c c (opening_core system c) h (omega arith))

  -- the turn that core c takes at t as its state shows it, with the ready threads by priority
  abbrev pub turn_kept : ℕ → ℕ → Turn
  turn_kept c t = turn system c t (filter (clocks.arrives_at system t c) (clocks.world system t).mails) (clocks.core_shown system (clocks.world system t) c)

  -- it is the clock's: here, and nowhere else, the two ways to keep the ready threads meet
  pub turn_of-kept : (c t : ℕ) → turn_shown (clocks.turn_of system c t) ≡ turn_kept c t
  turn_of-kept c t = turn-alike system c t (filter (clocks.arrives_at system t c) (clocks.world system t).mails) (clocks.core_at system (clocks.world system t) c)

module _ (system : System) (takes_time : TakesTime system) where
  -- core c before moment t + 1 is what its turn at t makes of core c before moment t and its arrivals
  pub core_at-world : (t c : ℕ) → c < system.cores → clocks.core_at system (clocks.world system (suc t)) c ≡ (clocks.turn_of system c t).core
  core_at-world t c h = core-next in_one_list system takes_time t c h

  pub core_shown-world : (t c : ℕ) → c < system.cores → clocks.core_shown system (clocks.world system (suc t)) c ≡ clocks.shown (clocks.turn_of system c t).core
  core_shown-world t c h = ap clocks.shown (core_at-world t c h)

  pub core_shown-kept : (t c : ℕ) → c < system.cores → clocks.core_shown system (clocks.world system (suc t)) c ≡ (turn_kept system c t).core
  core_shown-kept t c h = core_shown-world t c h ∙ ap (λ (made : Turn). made.core) (turn_of-kept system c t)

  -- the schedule grows by the rows of each core's turn at t
  pub rows-clock : (t : ℕ) → (clocks.clock system (suc t)).rows ≡ (clocks.clock system t).rows ++ flat_map (λ c. clocks.rows_of system c t) (range_with_len 0 system.cores)
  rows-clock t = rows-next in_one_list system takes_time t

  -- the signals that arrive at `later` on core c, of those that the cores make at t
  abbrev pub sent_at : ℕ → ℕ → ℕ → List Mail
  sent_at later c t = sent_with in_one_list system takes_time later c t

  -- what is under way before moment n and arrives at `later` on core c is what the cores' turns before n sent, by moment and then core
  pub mails-world : (n later c : ℕ) → n ≤ later →
      filter (clocks.arrives_at system later c) (clocks.world system n).mails ≡ flat_map (sent_at later c) (range_with_len 0 n)
  mails-world n later c h = mails-next in_one_list system takes_time n later c h
