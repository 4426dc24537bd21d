-- The signals of an inbox, and their order.
use Rattle.std.proofs.Common.{◌≡◌, ℕ, ◌+◌, ◌-◌, ◌<◌, ◌≤◌, Bool, true, false, ◌&&◌, ◌||◌, cond, List, [], ◌∷◌, inl, inr, refl, sym, ap, ◌∙◌, arith}
use Rattle.std.specs.Prelude.{filter, ◌==◌, nat_lt, slice_index}
use Rattle.std.proofs.lemmas.Bool.Decides.{nat_tests}
use Rattle.mcs_ticks.specs.Queue.{in_one_list}
use Rattle.mcs_mail.specs.declared.mail.Mail.{Mail}
use Rattle.mcs_mail.specs.Box.{is_before, IsIn, ArePairwise, IsInOrder}
use Rattle.mcs_mail.proofs.Members.{in_filter, from_filter, in_flat_map, from_flat_map, pairwise-filter, pairwise-flat_map}
use Rattle.mcs_system.specs.System.{System, note_part, delay_between, TakesTime}
use Rattle.mcs_core.specs.Clock as clocks
use Rattle.mcs_core.proofs.Mails as mails
use Rattle.mcs_core.proofs.Mails.{IsMadeNow}
use Rattle.mcs_stretch.specs.Inbox as boxes
use Rattle.mcs_stretch.specs.Inbox.{known_of, known_at, known_until, inbox, IsMade, IsFor}
use Rattle.mcs_stretch.proofs.Boxes.{out_of_turn, known_until-each}

module _ (system : System) where
  made_now : (b m : ℕ) (x : Mail) (ms : List Mail) → mails.IsOutgoing in_one_list system b m ms → IsIn x ms → IsMadeNow system b m x
  made_now b m x [] h k = absurd k
  made_now b m x (y ∷ []) h (inl e) = rw e h
  made_now b m x (y ∷ []) h (inr k) = absurd k
  made_now b m x (y ∷ z ∷ ms) h k = absurd h

  pub of_turn : (b m : ℕ) (x : Mail) → IsIn x (clocks.turn_of system b m).mails → IsMadeNow system b m x
  of_turn b m x k = made_now b m x (clocks.turn_of system b m).mails (out_of_turn system 0 [] b m) k

  pub alone : (R : Mail → Mail → Type 0) (b m : ℕ) (ms : List Mail) → mails.IsOutgoing in_one_list system b m ms → ArePairwise R ms
  alone R b m [] h = tt
  alone R b m (y ∷ []) h = (λ x k. absurd k, tt)
  alone R b m (y ∷ z ∷ ms) h = absurd h

  module _ (c : ℕ) (front : List ℕ) where
    -- what is known to arrive at t: its maker and its moment of making
    record IsKnown (t m b : ℕ) (x : Mail) : Type 0 where
      soon : m < slice_index front b
      is : IsIn x (clocks.turn_of system b m).mails
      arrives : x.arrives ≡ t
      home : (note_part system x.note).core ≡ c
      made : x.made ≡ m
      maker : x.maker ≡ b

    here : (a t h : ℕ) → (a == t) && (h == c) ≡ true → (a ≡ t) × (h ≡ c)
    here a t h e = (let f : a ≡ t = grind (arith, nat_tests) in f, let g : h ≡ c = grind (arith, nat_tests) in g)

    of_known : (t m b : ℕ) (x : Mail) → IsIn x (known_of system c t front m b) → IsKnown t m b x
    of_known t m b x k = by (nat_lt m (slice_index front b)) refl k
      where
        by : (u : Bool) → nat_lt m (slice_index front b) ≡ u → IsIn x (cond u (filter (clocks.arrives_at system t c) (clocks.turn_of system b m).mails) []) → IsKnown t m b x
        by true e k =
            let f : m < slice_index front b = grind (arith, nat_tests) in
            let g = from_filter (clocks.arrives_at system t c) x (clocks.turn_of system b m).mails k in
            let h = here x.arrives t (note_part system x.note).core g.1 in
            let i = of_turn b m x g.0 in
            record { soon = f; is = g.0; arrives = h.0; home = h.1; made = i.made; maker = i.maker }
        by false e k = absurd k

    -- it arrives by the test
    passes : (a t h : ℕ) → a ≡ t → h ≡ c → (a == t) && (h == c) ≡ true
    passes a t h e f = grind (arith, nat_tests)

    to_known : (t m b : ℕ) (x : Mail) → m < slice_index front b → IsIn x (clocks.turn_of system b m).mails → x.arrives ≡ t → (note_part system x.note).core ≡ c → IsIn x (known_of system c t front m b)
    to_known t m b x l k e f = by (nat_lt m (slice_index front b)) refl
      where
        by : (u : Bool) → nat_lt m (slice_index front b) ≡ u → IsIn x (cond u (filter (clocks.arrives_at system t c) (clocks.turn_of system b m).mails) [])
        by true g = in_filter (clocks.arrives_at system t c) x (clocks.turn_of system b m).mails k (passes x.arrives t (note_part system x.note).core e f)
        by false g = absurd (no m (slice_index front b) l g)
          where
            no : (p q : ℕ) → p < q → nat_lt p q ≡ false → ⊥
            no p q i j = grind (arith, nat_tests)

    abbrev Before : Mail → Mail → Type 0
    Before a b = is_before a b ≡ true

    by_arrival : (a b x y : Mail) → a.arrives < b.arrives → Before a b
    by_arrival a b x y l = first a.arrives b.arrives _ l
      where
        first : (p q : ℕ) (u : Bool) → p < q → nat_lt p q || u ≡ true
        first p q u l = grind (arith, nat_tests)

    by_making : (a b : Mail) → a.arrives ≡ b.arrives → a.made < b.made → Before a b
    by_making a b e l = second a.arrives b.arrives a.made b.made _ e l
      where
        second : (p q r s : ℕ) (u : Bool) → p ≡ q → r < s → nat_lt p q || ((p == q) && (nat_lt r s || u)) ≡ true
        second p q r s u e l = grind (arith, nat_tests)

    by_maker : (a b : Mail) → a.arrives ≡ b.arrives → a.made ≡ b.made → a.maker < b.maker → Before a b
    by_maker a b e f l = third a.arrives b.arrives a.made b.made a.maker b.maker e f l
      where
        third : (p q r s u v : ℕ) → p ≡ q → r ≡ s → u < v → nat_lt p q || ((p == q) && (nat_lt r s || ((r == s) && nat_lt u v))) ≡ true
        third p q r s u v e f l = grind (arith, nat_tests)

    -- of those that are made at m, and of all that arrive at t
    record IsOne (t m : ℕ) (x : Mail) : Type 0 where
      maker : ℕ
      in_range : maker < system.cores
      known : IsKnown t m maker x

    record IsSome (t : ℕ) (x : Mail) : Type 0 where
      made : ℕ
      early : made < t
      one : IsOne t made x

    of_made : (t m : ℕ) (x : Mail) → IsIn x (boxes.known_made system c t front m) → IsOne t m x
    of_made t m x k = by (from_flat_map (known_of system c t front m) x system.cores 0 k)
      where
        by : (b : ℕ) × (0 ≤ b) × (b < 0 + system.cores) × IsIn x (known_of system c t front m b) → IsOne t m x
        by (b, p, q, i) = record { maker = b; in_range = omega arith; known = of_known t m b x i }

    of_moment : (t : ℕ) (x : Mail) → IsIn x (known_at system c t front) → IsSome t x
    of_moment t x k = by (from_flat_map (boxes.known_made system c t front) x t 0 k)
      where
        by : (m : ℕ) × (0 ≤ m) × (m < 0 + t) × IsIn x (boxes.known_made system c t front m) → IsSome t x
        by (m, p, q, i) = record { made = m; early = omega arith; one = of_made t m x i }

    order-of : (t m b : ℕ) → ArePairwise Before (known_of system c t front m b)
    order-of t m b = by (nat_lt m (slice_index front b))
      where
        by : (u : Bool) → ArePairwise Before (cond u (filter (clocks.arrives_at system t c) (clocks.turn_of system b m).mails) [])
        by true = pairwise-filter Before (clocks.arrives_at system t c) (clocks.turn_of system b m).mails (alone Before b m (clocks.turn_of system b m).mails (out_of_turn system 0 [] b m))
        by false = tt

    order-made : (t m : ℕ) → ArePairwise Before (boxes.known_made system c t front m)
    order-made t m =
        pairwise-flat_map Before (known_of system c t front m) system.cores 0 (λ b _ _. order-of t m b)
        (λ b d x y _ l _ k i. two b d x y l (of_known t m b x k) (of_known t m d y i))
      where
        two : (b d : ℕ) (x y : Mail) → b < d → IsKnown t m b x → IsKnown t m d y → Before x y
        two b d x y l p q = by_maker x y (p.arrives ∙ sym q.arrives) (p.made ∙ sym q.made) (omega (arith, p.maker, q.maker))

    order-moment : (t : ℕ) → ArePairwise Before (known_at system c t front)
    order-moment t =
        pairwise-flat_map Before (boxes.known_made system c t front) t 0 (λ m _ _. order-made t m)
        (λ m n x y _ l _ k i. two m n x y l (of_made t m x k) (of_made t n y i))
      where
        two : (m n : ℕ) (x y : Mail) → m < n → IsOne t m x → IsOne t n y → Before x y
        two m n x y l p q = by_making x y (p.known.arrives ∙ sym q.known.arrives) (omega (arith, p.known.made, q.known.made))

    pub order-inbox : (from : ℕ) → IsInOrder (inbox system c from front)
    order-inbox from =
        pairwise-flat_map Before (λ t. known_at system c t front) (known_until system c front - from) from (λ t _ _. order-moment t)
        (λ t u x y _ l _ k i. two t u x y l (of_moment t x k) (of_moment u y i))
      where
        two : (t u : ℕ) (x y : Mail) → t < u → IsSome t x → IsSome u y → Before x y
        two t u x y l p q = by_arrival x y x y (omega (arith, p.one.known.arrives, q.one.known.arrives))

    -- what an inbox has
    pub from_inbox : (from : ℕ) (x : Mail) → IsIn x (inbox system c from front) → IsMade system (λ b. 0) (slice_index front) x × IsFor system c from x
    from_inbox from x k = by (from_flat_map (λ t. known_at system c t front) x (known_until system c front - from) from k)
      where
        parts : (t : ℕ) → from ≤ t → IsSome t x → IsMade system (λ b. 0) (slice_index front) x × IsFor system c from x
        parts t l s = (
          record { maker = s.one.maker; made = s.made; known = s.one.in_range; from = omega arith; before = s.one.known.soon; is = s.one.known.is },
          record { home = s.one.known.home; arrives = omega (arith, s.one.known.arrives) },
        )

        by : (t : ℕ) × (from ≤ t) × (t < from + (known_until system c front - from)) × IsIn x (known_at system c t front) → IsMade system (λ b. 0) (slice_index front) x × IsFor system c from x
        by (t, p, q, i) = parts t p (of_moment t x i)

    pub in_inbox : TakesTime system → (from : ℕ) (x : Mail) → IsMade system (λ b. 0) (slice_index front) x → IsFor system c from x → IsIn x (inbox system c from front)
    in_inbox takes_time from x p q =
        let i = of_turn p.maker p.made x p.is in
        let e : x.arrives ≡ p.made + delay_between system p.maker c = i.arrives ∙ ap (λ h. p.made + delay_between system p.maker h) q.home in
        let l = known_until-each system c front p.maker p.known in
        let one = takes_time p.maker c in
        in_flat_map (λ t. known_at system c t front) x (known_until system c front - from) from x.arrives q.arrives (omega (arith, p.before, q.arrives))
        (in_flat_map (boxes.known_made system c x.arrives front) x x.arrives 0 p.made (omega arith) (omega arith)
        (in_flat_map (known_of system c x.arrives front p.made) x system.cores 0 p.maker (omega arith) (omega (arith, p.known))
        (to_known x.arrives p.made p.maker x p.before p.is refl q.home)))
