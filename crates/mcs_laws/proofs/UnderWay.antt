-- The signals under way before a moment: what the turns before it sent and no turn took.
use Rattle.std.proofs.Common.{◌≡◌, ℕ, zero, suc, ◌+◌, ◌<◌, ◌≤◌, ◌≢◌, Bool, true, false, not, ◌&&◌, cond, List, [], ◌∷◌, ◌++◌, refl, sym, ap, ◌∙◌, append-nil, append_assoc, arith}
use Rattle.std.specs.Prelude.{filter, fold, flat_map, ◌==◌, nat_lt, nat_le}
use Rattle.std.specs.List.{range_with_len}
use Rattle.std.proofs.lemmas.Bool.Decides.{nat_tests}
use Rattle.std.proofs.lemmas.List.{get_or-set_other}
use Rattle.std.proofs.lemmas.List.Elements.{filter-append}
use Rattle.mcs_ticks.specs.Queue.{in_one_list}
use Rattle.mcs_mail.specs.declared.mail.Mail.{Mail}
use Rattle.mcs_system.specs.System.{System, note_part, delay_between, TakesTime}
use Rattle.mcs_core.specs.Core.{Core, opening_core}
use Rattle.mcs_core.specs.Turn.{turn_with}
use Rattle.mcs_core.specs.Clock as clocks
use Rattle.mcs_core.specs.Clock.{World, Clock}
use Rattle.mcs_core.proofs.Mails.{IsMadeNow, IsOutgoing, turn-out}
use Rattle.mcs_laws.specs.Turns as laws
use Rattle.mcs_laws.proofs.Ranges.{flat_map-moments-more}

-- two tests, one after the other
filter_both : (p q r : Mail → Bool) → ((m : Mail) → p m && q m ≡ r m) → (ms : List Mail) → filter q (filter p ms) ≡ filter r ms
filter_both p q r h [] = refl
filter_both p q r h (m ∷ ms) = by (p m) (q m) refl (filter_both p q r h ms) ∙ ap (λ b. cond b (m ∷ filter r ms) (filter r ms)) (h m)
  where
    by : (a b : Bool) → q m ≡ b → filter q (filter p ms) ≡ filter r ms →
        filter q (cond a (m ∷ filter p ms) (filter p ms)) ≡ cond (a && b) (m ∷ filter r ms) (filter r ms)
    by true true e i = rw e (ap (λ xs. m ∷ xs) i)
    by true false e i = rw e i
    by false b e i = i

filter_all : (p : Mail → Bool) → ((m : Mail) → p m ≡ true) → (ms : List Mail) → filter p ms ≡ ms
filter_all p h [] = refl
filter_all p h (m ∷ ms) = ap (λ b. cond b (m ∷ filter p ms) (filter p ms)) (h m) ∙ ap (λ xs. m ∷ xs) (filter_all p h ms)

flat_map-filter : (p : Mail → Bool) (f : ℕ → List Mail) → ((c : ℕ) → filter p (f c) ≡ f c) → (n a : ℕ) →
    filter p (flat_map f (range_with_len a n)) ≡ flat_map f (range_with_len a n)
flat_map-filter p f h zero a = refl
flat_map-filter p f h (suc n) a =
    filter-append p (f a) (flat_map f (range_with_len (a + 1) n)) ∙ both _ _ _ _ (h a) (flat_map-filter p f h n (a + 1))
  where
    both : (xs ys us vs : List Mail) → xs ≡ ys → us ≡ vs → xs ++ us ≡ ys ++ vs
    both xs ys us vs e f = cc

-- tests of the core and the moment at which a signal arrives
other_core : (arrives t home b c : ℕ) → c ≢ b → not ((arrives == t) && (home == b)) && ((arrives == t) && (home == c)) ≡ (arrives == t) && (home == c)
other_core arrives t home b c e = grind (arith, nat_tests)

-- whether it arrives at t on one of the n cores from a on
abbrev is_among : ℕ → ℕ → ℕ → ℕ → ℕ → Bool
is_among a n t arrives home = (arrives == t) && nat_le a home && nat_lt home (a + n)

among_one_more : (a n t arrives home : ℕ) → not ((arrives == t) && (home == a)) && not (is_among (a + 1) n t arrives home) ≡ not (is_among a (suc n) t arrives home)
among_one_more a n t arrives home = grind (arith, nat_tests)

among_none : (a t arrives home : ℕ) → not (is_among a zero t arrives home) ≡ true
among_none a t arrives home = grind (arith, nat_tests)

taken_next : (t cores arrives home : ℕ) →
    not (nat_lt arrives t && nat_lt home cores) && not (is_among 0 cores t arrives home) ≡ not (nat_lt arrives (suc t) && nat_lt home cores)
taken_next t cores arrives home = grind (arith, nat_tests)

not_yet : (t delay arrives home c : ℕ) → arrives ≡ t + delay → 1 ≤ delay → (arrives == t) && (home == c) ≡ false
not_yet t delay arrives home c e l = grind (arith, nat_tests)

not_among : (a n t delay arrives home : ℕ) → arrives ≡ t + delay → 1 ≤ delay → not (is_among a n t arrives home) ≡ true
not_among a n t delay arrives home e l = grind (arith, nat_tests)

not_taken : (t cores delay arrives home : ℕ) → arrives ≡ t + delay → 1 ≤ delay → not (nat_lt arrives (suc t) && nat_lt home cores) ≡ true
not_taken t cores delay arrives home e l = grind (arith, nat_tests)

still_there : (t moment cores c arrives home : ℕ) → t ≤ moment →
    not (nat_lt arrives t && nat_lt home cores) && ((arrives == moment) && (home == c)) ≡ (arrives == moment) && (home == c)
still_there t moment cores c arrives home l = grind (arith, nat_tests)

module _ (system : System) (takes_time : TakesTime system) where
  abbrev home_of : Mail → ℕ
  home_of mail = (note_part system mail.note).core

  abbrev is_due_among : ℕ → ℕ → ℕ → Mail → Bool
  is_due_among a n t mail = is_among a n t mail.arrives (home_of mail)

  abbrev IsSent : ℕ → ℕ → Mail → Type 0
  IsSent c t mail = IsMadeNow system c t mail

  -- what a turn makes passes each test that its signals pass
  outgoing-pass : (p : Mail → Bool) (c t : ℕ) → ((m : Mail) → IsSent c t m → p m ≡ true) → (ms : List Mail) → IsOutgoing in_one_list system c t ms → filter p ms ≡ ms
  outgoing-pass p c t h [] o = refl
  outgoing-pass p c t h (m ∷ []) o = ap (λ b. cond b (m ∷ []) []) (h m o)
  outgoing-pass p c t h (m ∷ n ∷ ms) o = absurd o

  outgoing-fail : (p : Mail → Bool) (c t : ℕ) → ((m : Mail) → IsSent c t m → p m ≡ false) → (ms : List Mail) → IsOutgoing in_one_list system c t ms → filter p ms ≡ []
  outgoing-fail p c t h [] o = refl
  outgoing-fail p c t h (m ∷ []) o = ap (λ b. cond b (m ∷ []) []) (h m o)
  outgoing-fail p c t h (m ∷ n ∷ ms) o = absurd o

  delay_of : (c : ℕ) (m : Mail) → 1 ≤ delay_between system c (home_of m)
  delay_of c m = takes_time c (home_of m)

  abbrev made_at : ℕ → World → ℕ → List Mail
  made_at t world c = (clocks.turn_at_with in_one_list system t c world).mails

  made-out : (t c : ℕ) (world : World) → IsOutgoing in_one_list system c t (made_at t world c)
  made-out t c world = turn-out in_one_list system c t (filter (clocks.arrives_at system t c) world.mails) (clocks.core_at system world c)

  -- another core's turn changes neither what arrives on core c now nor the core
  made-other : (t b c : ℕ) (k : Clock) → c ≢ b → made_at t (clocks.takes_turn_with in_one_list system t k b).world c ≡ made_at t k.world c
  made-other t b c k e =
      same _ _ _ _
      (
      filter-append (clocks.arrives_at system t c) (filter (λ m. not (clocks.arrives_at system t b m)) k.world.mails) (made_at t k.world b)
      ∙ rw (
        filter_both (λ m. not (clocks.arrives_at system t b m)) (clocks.arrives_at system t c) (clocks.arrives_at system t c) (λ m. other_core m.arrives t (home_of m) b c e) k.world.mails,
        outgoing-fail (clocks.arrives_at system t c) b t (λ m o. not_yet t _ m.arrives (home_of m) c o.arrives (delay_of b m)) (made_at t k.world b) (made-out t b k.world),
        append-nil,
      ) refl
      )
      (get_or-set_other k.world.cores b c (clocks.turn_at_with in_one_list system t b k.world).core (opening_core system c) e)
    where
      same : (ms ns : List Mail) (x y : Core) → ms ≡ ns → x ≡ y → (turn_with in_one_list system c t ms x).mails ≡ (turn_with in_one_list system c t ns y).mails
      same ms ns x y p q = cc

  made-others : (n t b a : ℕ) (k : Clock) → b < a → flat_map (made_at t (clocks.takes_turn_with in_one_list system t k b).world) (range_with_len a n) ≡ flat_map (made_at t k.world) (range_with_len a n)
  made-others zero t b a k l = refl
  made-others (suc n) t b a k l =
      let other : a ≢ b = omega arith in
      both _ _ _ _ (made-other t b a k other) (made-others n t b (a + 1) k (omega arith))
    where
      both : (xs ys us vs : List Mail) → xs ≡ ys → us ≡ vs → xs ++ us ≡ ys ++ vs
      both xs ys us vs e f = cc

  -- the turns of some cores at t take what arrives now on them and send what each makes of the world before the moment
  mails-among : (n t a : ℕ) (k : Clock) →
      (fold (clocks.takes_turn_with in_one_list system t) k (range_with_len a n)).world.mails
      ≡ filter (λ m. not (is_due_among a n t m)) k.world.mails ++ flat_map (made_at t k.world) (range_with_len a n)
  mails-among zero t a k = sym (append-nil _ ∙ filter_all (λ m. not (is_due_among a zero t m)) (λ m. among_none a t m.arrives (home_of m)) k.world.mails)
  mails-among (suc n) t a k =
      mails-among n t (a + 1) (clocks.takes_turn_with in_one_list system t k a)
      ∙ both _ _ _ _ (
      filter-append stays (filter (λ m. not (clocks.arrives_at system t a m)) k.world.mails) (made_at t k.world a)
      ∙ both _ _ _ _
      (filter_both (λ m. not (clocks.arrives_at system t a m)) stays (λ m. not (is_due_among a (suc n) t m)) (λ m. among_one_more a n t m.arrives (home_of m)) k.world.mails)
      (outgoing-pass stays a t (λ m o. not_among (a + 1) n t _ m.arrives (home_of m) o.arrives (delay_of a m)) (made_at t k.world a) (made-out t a k.world))
      ) (made-others n t a (a + 1) k (omega arith))
      ∙ append_assoc (filter (λ m. not (is_due_among a (suc n) t m)) k.world.mails) (made_at t k.world a) (flat_map (made_at t k.world) (range_with_len (a + 1) n))
    where
      stays : Mail → Bool
      stays m = not (is_due_among (a + 1) n t m)

      both : (xs ys us vs : List Mail) → xs ≡ ys → us ≡ vs → xs ++ us ≡ ys ++ vs
      both xs ys us vs e f = cc

  abbrev is_left : ℕ → Mail → Bool
  is_left t mail = not (laws.was_taken system t mail)

  -- what is sent at t is not taken before the next moment
  sent-stays : (t : ℕ) → filter (is_left (suc t)) (laws.sent_at system t) ≡ laws.sent_at system t
  sent-stays t =
      flat_map-filter (is_left (suc t)) (λ c. made_at t (clocks.world system t) c)
      (λ c. outgoing-pass (is_left (suc t)) c t (λ m o. not_taken t system.cores _ m.arrives (home_of m) o.arrives (delay_of c m)) _ (made-out t c (clocks.world system t)))
      system.cores 0

  pub signals-of-turns : laws.SignalsAreOfTurns system
  signals-of-turns zero = refl
  signals-of-turns (suc t) =
      mails-among system.cores t 0 (clocks.clock system t)
      ∙ both _ _ _ _
      (
      ap (filter (λ m. not (is_due_among 0 system.cores t m))) (signals-of-turns t)
      ∙ filter_both (is_left t) (λ m. not (is_due_among 0 system.cores t m)) (is_left (suc t)) (λ m. taken_next t system.cores m.arrives (home_of m)) (laws.sent_before system t)
      ) (sym (sent-stays t))
      ∙ sym (filter-append (is_left (suc t)) (laws.sent_before system t) (laws.sent_at system t))
      ∙ ap (filter (is_left (suc t))) (sym (flat_map-moments-more (laws.sent_at system) t))
    where
      both : (xs ys us vs : List Mail) → xs ≡ ys → us ≡ vs → xs ++ us ≡ ys ++ vs
      both xs ys us vs e f = cc

  pub arrivals-of-turns : laws.ArrivalsAreOfTurns system
  arrivals-of-turns t moment c l =
      ap (filter (clocks.arrives_at system moment c)) (signals-of-turns t)
      ∙ filter_both (is_left t) (clocks.arrives_at system moment c) (clocks.arrives_at system moment c) (λ m. still_there t moment system.cores c m.arrives (home_of m) l) (laws.sent_before system t)
