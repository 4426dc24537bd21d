-- An inbox, a moment of arrival at a time.
use Rattle.std.proofs.Common.{◌≡◌, ◌≢◌, ℕ, zero, suc, ◌+◌, ◌-◌, ◌<◌, ◌≤◌, Bool, true, false, not, ◌&&◌, cond, List, [], ◌∷◌, ◌++◌, max, refl, ap, ◌∙◌, arith, append-nil}
use Rattle.std.specs.Prelude.{filter, flat_map, fold, ◌==◌, nat_lt, slice_index}
use Rattle.std.specs.List.{range_with_len}
use Rattle.std.proofs.lemmas.Bool.Decides.{nat_tests}
use Rattle.std.proofs.lemmas.List.Elements.{filter-append}
use Rattle.mcs_ticks.specs.Queue.{in_one_list}
use Rattle.mcs_mail.specs.declared.mail.Mail.{Mail}
use Rattle.mcs_mail.specs.Box.{arriving, staying}
use Rattle.mcs_system.specs.System.{System, note_part, delay_between}
use Rattle.mcs_core.specs.Clock as clocks
use Rattle.mcs_core.proofs.Mails as mails
use Rattle.mcs_stretch.specs.Inbox.{known_at, known_until, inbox}

-- parts that are all empty, all kept by a test, or all refused by it
pub flat_map-none : (f : ℕ → List Mail) (n a : ℕ) → ((i : ℕ) → a ≤ i → i < a + n → f i ≡ []) → flat_map f (range_with_len a n) ≡ []
flat_map-none f zero a h = refl
flat_map-none f (suc n) a h = rw (h a (omega arith) (omega arith)) (flat_map-none f n (a + 1) (λ i p q. h i (omega arith) (omega arith)))

pub filter-flat_map-all : (p : Mail → Bool) (f : ℕ → List Mail) (n a : ℕ) → ((i : ℕ) → a ≤ i → i < a + n → filter p (f i) ≡ f i) → filter p (flat_map f (range_with_len a n)) ≡ flat_map f (range_with_len a n)
filter-flat_map-all p f zero a h = refl
filter-flat_map-all p f (suc n) a h =
    filter-append p (f a) (flat_map f (range_with_len (a + 1) n))
    ∙ both _ _ _ _ (h a (omega arith) (omega arith)) (filter-flat_map-all p f n (a + 1) (λ i q r. h i (omega arith) (omega arith)))
  where
    both : (xs ys us vs : List Mail) → xs ≡ ys → us ≡ vs → xs ++ us ≡ ys ++ vs
    both xs ys us vs e g = cc

pub filter-flat_map-none : (p : Mail → Bool) (f : ℕ → List Mail) (n a : ℕ) → ((i : ℕ) → a ≤ i → i < a + n → filter p (f i) ≡ []) → filter p (flat_map f (range_with_len a n)) ≡ []
filter-flat_map-none p f zero a h = refl
filter-flat_map-none p f (suc n) a h =
    filter-append p (f a) (flat_map f (range_with_len (a + 1) n))
    ∙ both _ _ (h a (omega arith) (omega arith)) (filter-flat_map-none p f n (a + 1) (λ i q r. h i (omega arith) (omega arith)))
  where
    both : (xs us : List Mail) → xs ≡ [] → us ≡ [] → xs ++ us ≡ []
    both xs us e g = cc

filter-filter_all : (p q : Mail → Bool) → ((m : Mail) → q m ≡ true → p m ≡ true) → (ms : List Mail) → filter p (filter q ms) ≡ filter q ms
filter-filter_all p q h [] = refl
filter-filter_all p q h (m ∷ ms) = by (q m) refl (filter-filter_all p q h ms)
  where
    by : (b : Bool) → q m ≡ b → filter p (filter q ms) ≡ filter q ms → filter p (cond b (m ∷ filter q ms) (filter q ms)) ≡ cond b (m ∷ filter q ms) (filter q ms)
    by true e i = rw (h m e) (ap (λ xs. m ∷ xs) i)
    by false e i = i

filter-filter_none : (p q : Mail → Bool) → ((m : Mail) → q m ≡ true → p m ≡ false) → (ms : List Mail) → filter p (filter q ms) ≡ []
filter-filter_none p q h [] = refl
filter-filter_none p q h (m ∷ ms) = by (q m) refl (filter-filter_none p q h ms)
  where
    by : (b : Bool) → q m ≡ b → filter p (filter q ms) ≡ [] → filter p (cond b (m ∷ filter q ms) (filter q ms)) ≡ []
    by true e i = rw (h m e) i
    by false e i = i

at_moment : (a t h c : ℕ) → (a == t) && (h == c) ≡ true → a ≡ t
at_moment a t h c e = grind (arith, nat_tests)

module _ (system : System) (c : ℕ) (front : List ℕ) where
  arrives_then : (t : ℕ) (m : Mail) → clocks.arrives_at system t c m ≡ true → m.arrives ≡ t
  arrives_then t m e = at_moment m.arrives t (note_part system m.note).core c e

  -- a test that what arrives at t passes, or fails
  known-all : (p : Mail → Bool) (t : ℕ) → ((m : Mail) → m.arrives ≡ t → p m ≡ true) → filter p (known_at system c t front) ≡ known_at system c t front
  known-all p t h =
      filter-flat_map-all p _ t 0 (λ m _ _. filter-flat_map-all p _ system.cores 0 (λ b _ _. by m b (nat_lt m (slice_index front b))))
    where
      by : (m b : ℕ) (u : Bool) → filter p (cond u (filter (clocks.arrives_at system t c) (clocks.turn_of system b m).mails) []) ≡ cond u (filter (clocks.arrives_at system t c) (clocks.turn_of system b m).mails) []
      by m b true = filter-filter_all p (clocks.arrives_at system t c) (λ x e. h x (arrives_then t x e)) (clocks.turn_of system b m).mails
      by m b false = refl

  known-none : (p : Mail → Bool) (t : ℕ) → ((m : Mail) → m.arrives ≡ t → p m ≡ false) → filter p (known_at system c t front) ≡ []
  known-none p t h =
      filter-flat_map-none p _ t 0 (λ m _ _. filter-flat_map-none p _ system.cores 0 (λ b _ _. by m b (nat_lt m (slice_index front b))))
    where
      by : (m b : ℕ) (u : Bool) → filter p (cond u (filter (clocks.arrives_at system t c) (clocks.turn_of system b m).mails) []) ≡ []
      by m b true = filter-filter_none p (clocks.arrives_at system t c) (λ x e. h x (arrives_then t x e)) (clocks.turn_of system b m).mails
      by m b false = refl

  at : (a t : ℕ) → a ≡ t → (a == t) ≡ true
  at a t e = grind (arith, nat_tests)

  past : (a u t : ℕ) → t < u → a ≡ u → (a == t) ≡ false
  past a u t l e = grind (arith, nat_tests)

  inbox-later : (t n u : ℕ) → t < u → filter (λ m. m.arrives == t) (flat_map (λ v. known_at system c v front) (range_with_len u n)) ≡ []
  inbox-later t n u l = filter-flat_map-none _ _ n u (λ v q r. known-none _ v (λ m e. past m.arrives v t (omega arith) e))

  inbox-later_stays : (t n u : ℕ) → t < u → filter (λ m. not (m.arrives == t)) (flat_map (λ v. known_at system c v front) (range_with_len u n)) ≡ flat_map (λ v. known_at system c v front) (range_with_len u n)
  inbox-later_stays t n u l = filter-flat_map-all _ _ n u (λ v q r. known-all _ v (λ m e. ap not (past m.arrives v t (omega arith) e)))

  -- the clocks' bound
  abbrev later : ℕ → ℕ → ℕ
  later latest b = max latest (slice_index front b + delay_between system b c)

  fold-below : (n a latest : ℕ) → latest ≤ fold later latest (range_with_len a n)
  fold-below zero a latest = omega arith
  fold-below (suc n) a latest =
      let h : later latest a ≤ fold later (later latest a) (range_with_len (a + 1) n) = fold-below n (a + 1) (later latest a) in
      omega arith

  fold-each : (n a latest b : ℕ) → a ≤ b → b < a + n → slice_index front b + delay_between system b c ≤ fold later latest (range_with_len a n)
  fold-each zero a latest b p q = absurd (omega arith)
  fold-each (suc n) a latest b p q = by (b == a) refl (λ l. fold-each n (a + 1) (later latest a) b l (omega arith)) (fold-below n (a + 1) (later latest a))
    where
      own : b ≡ a → later latest a ≤ fold later (later latest a) (range_with_len (a + 1) n) → slice_index front b + delay_between system b c ≤ fold later (later latest a) (range_with_len (a + 1) n)
      own e h = rw e (omega arith)

      by : (u : Bool) → (b == a) ≡ u → (a + 1 ≤ b → slice_index front b + delay_between system b c ≤ fold later (later latest a) (range_with_len (a + 1) n)) →
          later latest a ≤ fold later (later latest a) (range_with_len (a + 1) n) → slice_index front b + delay_between system b c ≤ fold later (later latest a) (range_with_len (a + 1) n)
      by true e i h =
          let f : b ≡ a = grind (arith, nat_tests) in
          own f h
      by false e i h =
          let f : b ≢ a = grind (arith, nat_tests) in
          i (omega arith)

  pub known_until-each : (b : ℕ) → b < system.cores → slice_index front b + delay_between system b c ≤ known_until system c front
  known_until-each b h = fold-each system.cores 0 0 b (omega arith) (omega arith)

  -- nothing known arrives at that moment or later
  not_after : (t a m b h : ℕ) → a ≡ m + delay_between system b h → m + delay_between system b c < t → (a == t) && (h == c) ≡ false
  not_after t a m b h e l = by (h == c) refl
    where
      differs : (d : ℕ) → a ≡ m + d → m + d < t → (a == t) && true ≡ false
      differs d p q = grind (arith, nat_tests)

      never : (u : Bool) → u && false ≡ false
      never true = refl
      never false = refl

      by : (u : Bool) → (h == c) ≡ u → (a == t) && u ≡ false
      by true f =
          let same : h ≡ c = grind (arith, nat_tests) in
          differs (delay_between system b c) (e ∙ ap (λ x. m + delay_between system b x) same) l
      by false f = never (a == t)

  none_after : (t m b : ℕ) (ms : List Mail) → m + delay_between system b c < t → mails.IsOutgoing in_one_list system b m ms → filter (clocks.arrives_at system t c) ms ≡ []
  none_after t m b [] l h = refl
  none_after t m b (mail ∷ []) l h = rw (not_after t mail.arrives m b (note_part system mail.note).core h.arrives l) refl
  none_after t m b (mail ∷ next ∷ ms) l h = absurd h

  pub out_of_turn : (b m : ℕ) → mails.IsOutgoing in_one_list system b m (clocks.turn_of system b m).mails
  out_of_turn b m = mails.turn-out in_one_list system b m (filter (clocks.arrives_at system m b) (clocks.world system m).mails) (clocks.core_at system (clocks.world system m) b)

  known-end : (t : ℕ) → known_until system c front ≤ t → known_at system c t front ≡ []
  known-end t l = flat_map-none _ t 0 (λ m _ _. flat_map-none _ system.cores 0 (λ b _ q. by m b (omega arith) (nat_lt m (slice_index front b)) refl))
    where
      by : (m b : ℕ) → b < system.cores → (u : Bool) → nat_lt m (slice_index front b) ≡ u → cond u (filter (clocks.arrives_at system t c) (clocks.turn_of system b m).mails) [] ≡ []
      by m b h true e =
          let f : m < slice_index front b = grind (arith, nat_tests) in
          let g = known_until-each b h in
          none_after t m b (clocks.turn_of system b m).mails (omega arith) (out_of_turn b m)
      by m b h false e = refl

  -- first what arrives at t, and then the rest
  pub inbox-step : (t : ℕ) → inbox system c t front ≡ known_at system c t front ++ inbox system c (t + 1) front
  inbox-step t = by (known_until system c front - t) refl
    where
      by : (n : ℕ) → known_until system c front - t ≡ n → inbox system c t front ≡ known_at system c t front ++ inbox system c (t + 1) front
      by zero e =
          let f : known_until system c front - (t + 1) ≡ 0 = omega arith in
          rw (e, f, known-end t (omega arith)) refl
      by (suc n) e =
          let f : known_until system c front - (t + 1) ≡ n = omega arith in
          rw (e, f) refl

  pub arriving-inbox : (t : ℕ) → arriving t (inbox system c t front) ≡ known_at system c t front
  arriving-inbox t =
      ap (arriving t) (inbox-step t) ∙ filter-append (λ m. m.arrives == t) (known_at system c t front) (inbox system c (t + 1) front)
      ∙ both _ _ _ (known-all (λ m. m.arrives == t) t (λ m e. at m.arrives t e)) (inbox-later t (known_until system c front - (t + 1)) (t + 1) (omega arith))
    where
      both : (xs ys us : List Mail) → xs ≡ ys → us ≡ [] → xs ++ us ≡ ys
      both xs ys us e f = rw (e, f) (append-nil ys)

  pub staying-inbox : (t : ℕ) → staying t (inbox system c t front) ≡ inbox system c (t + 1) front
  staying-inbox t =
      ap (staying t) (inbox-step t) ∙ filter-append (λ m. not (m.arrives == t)) (known_at system c t front) (inbox system c (t + 1) front)
      ∙ both _ _ _ (known-none (λ m. not (m.arrives == t)) t (λ m e. ap not (at m.arrives t e))) (inbox-later_stays t (known_until system c front - (t + 1)) (t + 1) (omega arith))
    where
      both : (xs us vs : List Mail) → xs ≡ [] → us ≡ vs → xs ++ us ≡ vs
      both xs us vs e f = cc
