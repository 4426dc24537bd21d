-- Worlds that recur: turn by turn, and then for ever.
use Rattle.std.proofs.Common.{◌≡◌, ℕ, zero, suc, ◌+◌, ◌-◌, ◌<◌, ◌≤◌, inl, inr, Bool, true, false, cond, not, ◌&&◌, List, [], ◌∷◌, ◌++◌, map, refl, sym, ap, subst, ◌∙◌, Option, Some, None, option_map, arith}
use Rattle.std.specs.Prelude.{filter, flat_map, ◌==◌, nat_lt, nat_le}
use Rattle.std.specs.List.{range_with_len, AllByRecursion}
use Rattle.std.proofs.lemmas.Bool.Decides.{nat_tests}
use Rattle.std.proofs.lemmas.List.{map-append}
use Rattle.std.proofs.lemmas.List.Elements.{filter-append}
use Rattle.mcs_ticks.specs.Queue.{by_priority}
use Rattle.mcs_ticks.specs.declared.row.What.{What}
use Rattle.mcs_ticks.specs.declared.row.What.TheVariants as row
use Rattle.mcs_control.specs.declared.config.Order.{Order}
use Rattle.mcs_mail.specs.declared.mail.Mail.{Mail}
use Rattle.mcs_system.specs.System.{System, note_part}
use Rattle.mcs_system.specs.WellFormed.{IsWellFormed}
use Rattle.mcs_core.specs.Alarms.{later_by, rung, rings, past, alarms_at}
use Rattle.mcs_core.specs.declared.alarm.Alarm.{Alarm}
use Rattle.mcs_core.specs.Core.{Core}
use Rattle.mcs_core.specs.Orders.{is_for_core}
use Rattle.mcs_core.specs.Turn as turns
use Rattle.mcs_core.specs.Turn.{Turn, turn}
use Rattle.mcs_core.specs.Clock as clocks
use Rattle.mcs_core.specs.Clock.{World, Clock}
use Rattle.mcs_core.proofs.Alike.{turn_shown}
use Rattle.mcs_core.proofs.Clock.{turn_kept, turn_of-kept, core_shown-world}
use Rattle.mcs_laws.specs.Turns as laws
use Rattle.mcs_mail.specs.Box.{IsIn}
use Rattle.mcs_laws.specs.Links.{Signals}
use Rattle.mcs_laws.proofs.Links.{signals-said}
use Rattle.mcs_laws.proofs.UnderWay.{signals-of-turns}
use Rattle.mcs_laws.proofs.Ranges.{flat_map-moments-more}
use Rattle.mcs_laws.proofs.Histories.{takes-time}
use Rattle.mcs_ever.specs.Later.{Shift, later_core, later_mail, later_alarm, later_what}
use Rattle.mcs_ever.specs.Recurs.{Shifts, shift_of, is_for, IsLater, Recurs}
use Rattle.mcs_ever.proofs.Sound.{Agrees, AllAgree, all-agree}
use Rattle.mcs_ever.proofs.Turns.{later_turn, turn-goes, Goes, rings-later}
use Rattle.mcs_ever.proofs.Always.{core-order}
use Rattle.mcs_ever.proofs.Proper.{proper}

-- two tests, one after the other
filter_both : (p q r : Mail → Bool) → ((m : Mail) → p m && q m ≡ r m) → (ms : List Mail) → filter q (filter p ms) ≡ filter r ms
filter_both p q r h [] = refl
filter_both p q r h (m ∷ ms) = by (p m) (q m) refl (filter_both p q r h ms) ∙ ap (λ b. cond b (m ∷ filter r ms) (filter r ms)) (h m)
  where
    by : (a b : Bool) → q m ≡ b → filter q (filter p ms) ≡ filter r ms →
        filter q (cond a (m ∷ filter p ms) (filter p ms)) ≡ cond (a && b) (m ∷ filter r ms) (filter r ms)
    by true true e i = rw e (ap (λ xs. m ∷ xs) i)
    by true false e i = rw e i
    by false b e i = i

filter-swap : (p q : Mail → Bool) (ms : List Mail) → filter q (filter p ms) ≡ filter p (filter q ms)
filter-swap p q ms =
    filter_both p q (λ m. p m && q m) (λ m. refl) ms ∙ sym (filter_both q p (λ m. p m && q m) (λ m. swapped (q m) (p m)) ms)
  where
    swapped : (a b : Bool) → a && b ≡ b && a
    swapped true true = refl
    swapped true false = refl
    swapped false true = refl
    swapped false false = refl

filter-flat_map : (p : Mail → Bool) (f : ℕ → List Mail) (n a : ℕ) → filter p (flat_map f (range_with_len a n)) ≡ flat_map (λ c. filter p (f c)) (range_with_len a n)
filter-flat_map p f zero a = refl
filter-flat_map p f (suc n) a =
    filter-append p (f a) (flat_map f (range_with_len (a + 1) n)) ∙ ap (λ ms. filter p (f a) ++ ms) (filter-flat_map p f n (a + 1))

none-pass : (p : Mail → Bool) (ms : List Mail) → ((m : Mail) → IsIn m ms → p m ≡ false) → filter p ms ≡ []
none-pass p [] h = refl
none-pass p (m ∷ ms) h = ap (λ b. cond b (m ∷ filter p ms) (filter p ms)) (h m (inl refl)) ∙ none-pass p ms (λ n i. h n (inr i))

filter-later : (d : ℕ) (p q : Mail → Bool) → ((m : Mail) → q (later_mail d m) ≡ p m) → (ms : List Mail) → map (later_mail d) (filter p ms) ≡ filter q (map (later_mail d) ms)
filter-later d p q h [] = refl
filter-later d p q h (m ∷ ms) =
    by (p m) (filter-later d p q h ms) ∙ ap (λ b. cond b (later_mail d m ∷ filter q (map (later_mail d) ms)) (filter q (map (later_mail d) ms))) (sym (h m))
  where
    by : (b : Bool) → map (later_mail d) (filter p ms) ≡ filter q (map (later_mail d) ms) →
        map (later_mail d) (cond b (m ∷ filter p ms) (filter p ms)) ≡ cond b (later_mail d m ∷ filter q (map (later_mail d) ms)) (filter q (map (later_mail d) ms))
    by true e = ap (λ xs. later_mail d m ∷ xs) e
    by false e = e

-- tests of when a signal arrives
arrives-later : (arrives t d home c : ℕ) → ((arrives + d == t + d) && (home == c)) ≡ ((arrives == t) && (home == c))
arrives-later arrives t d home c = grind (arith, nat_tests)

stays-later : (arrives t d home cores : ℕ) → not ((arrives + d == t + d) && nat_lt home cores) ≡ not ((arrives == t) && nat_lt home cores)
stays-later arrives t d home cores = grind (arith, nat_tests)

left-later : (arrives t d home cores : ℕ) → not (nat_lt (arrives + d) (suc (t + d)) && nat_lt home cores) ≡ not (nat_lt arrives (suc t) && nat_lt home cores)
left-later arrives t d home cores = grind (arith, nat_tests)

left-next : (t cores arrives home : ℕ) →
    not (nat_lt arrives t && nat_lt home cores) && not ((arrives == t) && nat_lt home cores) ≡ not (nat_lt arrives (suc t) && nat_lt home cores)
left-next t cores arrives home = grind (arith, nat_tests)

flat_map-later : (d : ℕ) (f g : ℕ → List Mail) (n a : ℕ) → ((c : ℕ) → a ≤ c → c < a + n → map (later_mail d) (f c) ≡ g c) →
    map (later_mail d) (flat_map f (range_with_len a n)) ≡ flat_map g (range_with_len a n)
flat_map-later d f g zero a h = refl
flat_map-later d f g (suc n) a h =
    map-append (later_mail d) (f a) (flat_map f (range_with_len (a + 1) n))
    ∙ both _ _ _ _ (h a (omega arith) (omega arith)) (flat_map-later d f g n (a + 1) (λ c l m. h c (omega (arith, l)) (omega (arith, m))))
  where
    both : (xs ys us vs : List Mail) → xs ≡ ys → us ≡ vs → xs ++ us ≡ ys ++ vs
    both xs ys us vs e f = cc

-- what agrees still does when it comes again
agrees-later : (system : System) (shift : Shift) (what : What) → Agrees system shift what → Agrees system shift (later_what shift what)
agrees-later system shift (row.Stop thread why k None) a = a
agrees-later system shift (row.Stop thread why k (Some date)) a = a
agrees-later system shift (row.Round thread number response) a = a
agrees-later system shift (row.Release thread) a = a
agrees-later system shift (row.Run thread) a = a
agrees-later system shift (row.Signal thread note badge) a = a
agrees-later system shift (row.Arrive note badge maker) a = a
agrees-later system shift (row.Wake thread note word until) a = a
agrees-later system shift (row.Hold note word) a = a
agrees-later system shift (row.Got thread note word) a = a
agrees-later system shift (row.Order context) a = a
agrees-later system shift (row.Interrupt source note badge) a = a

all-later : (system : System) (shift : Shift) (rows : List What) → AllAgree system shift rows → AllAgree system shift (map (later_what shift) rows)
all-later system shift [] a = tt
all-later system shift (what ∷ rows) a = (agrees-later system shift what a.0, all-later system shift rows a.1)

-- alarms that are later are so at the next moment, too
rung-later : (d : ℕ) (alarm : Alarm) → rung (later_alarm d alarm) ≡ later_alarm d (rung alarm)
rung-later d alarm = ap (λ date. record (rung alarm) { date = date }) (by (alarm.left == 0) alarm.date)
  where
    swapped : (date period d : ℕ) → date + d + period ≡ date + period + d
    swapped date period d = omega arith

    by : (b : Bool) (o : Option ℕ) → cond b None (later_by alarm.period (option_map (λ date. date + d) o)) ≡ option_map (λ date. date + d) (cond b None (later_by alarm.period o))
    by true o = refl
    by false None = refl
    by false (Some date) = ap Some (swapped date alarm.period d)

past-later : (t d : ℕ) (alarms : List Alarm) → past (t + d) (map (later_alarm d) alarms) ≡ map (later_alarm d) (past t alarms)
past-later t d [] = refl
past-later t d (alarm ∷ alarms) =
    ap (λ b. cond b (rung (later_alarm d alarm)) (later_alarm d alarm) ∷ past (t + d) (map (later_alarm d) alarms)) (rings-later t d alarm)
    ∙ ap (λ others. cond (rings t alarm) (rung (later_alarm d alarm)) (later_alarm d alarm) ∷ others) (past-later t d alarms)
    ∙ ap (λ first. first ∷ map (later_alarm d) (past t alarms)) (by (rings t alarm))
  where
    by : (b : Bool) → cond b (rung (later_alarm d alarm)) (later_alarm d alarm) ≡ later_alarm d (cond b (rung alarm) alarm)
    by true = rung-later d alarm
    by false = refl

-- no order is for a moment from a on
no-orders : (system : System) (c a t : ℕ) → a ≤ t → (orders : List Order) → AllByRecursion (λ (order : Order). order.moment < a) orders → filter (turns.is_for_now system c t) orders ≡ []
no-orders system c a t l [] h = refl
no-orders system c a t l (order ∷ orders) h =
    ap (λ b. cond (b && is_for_core system c order) (order ∷ filter (turns.is_for_now system c t) orders) (filter (turns.is_for_now system c t) orders)) (past order.moment h.0)
    ∙ no-orders system c a t l orders h.1
  where
    past : (moment : ℕ) → moment < a → (moment == t) ≡ false
    past moment m = grind (arith, nat_tests)

module _ (system : System) (group : ℕ → Bool) (shifts : Shifts) (a : ℕ) (well : IsWellFormed system) (recurs : Recurs system group shifts a) where
  abbrev d : ℕ
  d = shifts.by

  abbrev shift : ℕ → Shift
  shift c = shift_of shifts c

  -- the alarms at t, and those at t + d
  abbrev RingsLater : ℕ → Type 0
  RingsLater t = (c : ℕ) → c < system.cores → group c ≡ true → alarms_at system c (t + d) ≡ map (later_alarm d) (alarms_at system c t)

  rings-on : (n : ℕ) → RingsLater (a + n)
  rings-on zero c known own =
      let here : a + zero ≡ a = omega arith in
      let P : ℕ → Type 0 = λ m. alarms_at system c (m + d) ≡ map (later_alarm d) (alarms_at system c m) in
      subst P (sym here) (recurs.alarms c known own)
  rings-on (suc n) c known own =
      let P : ℕ → Type 0 = λ m. alarms_at system c (m + d) ≡ map (later_alarm d) (alarms_at system c m) in
      subst P (next-moment a n) (then-moment (rings-on n c known own))
    where
      next-moment : (a n : ℕ) → suc (a + n) ≡ a + suc n
      next-moment a n = omega arith

      same : (t e : ℕ) → suc t + e ≡ suc (t + e)
      same t e = omega arith

      then-moment : alarms_at system c (a + n + d) ≡ map (later_alarm d) (alarms_at system c (a + n)) →
          alarms_at system c (suc (a + n) + d) ≡ map (later_alarm d) (alarms_at system c (suc (a + n)))
      then-moment e =
          ap (alarms_at system c) (same (a + n) d)
          ∙ ap (past (a + n + d)) e ∙ past-later (a + n) d (alarms_at system c (a + n))

  rings-at : (t : ℕ) → a ≤ t → RingsLater t
  rings-at t l = let e : a + (t - a) ≡ t = omega (arith, l) in subst RingsLater e (rings-on (t - a))

  -- the world at t, and that at t + d
  record Holds (t : ℕ) : Type 0 where
    again : IsLater system group shifts (clocks.world system t) (clocks.world system (t + d))

  abbrev AgreeAt : ℕ → Type 0
  AgreeAt t = (c : ℕ) → c < system.cores → group c ≡ true → AllAgree system (shift c) (clocks.turn_of system c t).rows

  abbrev made : ℕ → ℕ → Turn
  made t c = clocks.turn_of system c t

  -- what arrives on a core of the group is for the group
  arriving-own : (t c : ℕ) → group c ≡ true → (ms : List Mail) → filter (clocks.arrives_at system t c) (filter (is_for system group) ms) ≡ filter (clocks.arrives_at system t c) ms
  arriving-own t c own ms =
      filter_both (is_for system group) (clocks.arrives_at system t c) (clocks.arrives_at system t c) (λ m. by (m.arrives == t) (note_part system m.note).core ((note_part system m.note).core == c) refl) ms
    where
      by : (now : Bool) (home : ℕ) (b : Bool) → (home == c) ≡ b → group home && (now && b) ≡ now && b
      by now home true e =
          let same : c ≡ home = grind (arith, nat_tests) in
          let P : ℕ → Type 0 = λ k. group k && (now && true) ≡ now && true in
          subst P same (ap (λ b. b && (now && true)) own)
      by true home false e = never (group home)
        where
          never : (b : Bool) → b && false ≡ false
          never true = refl
          never false = refl
      by false home false e = never (group home)
        where
          never : (b : Bool) → b && false ≡ false
          never true = refl
          never false = refl

  -- what a core outside the group sends is not for it
  sent-away : (t c : ℕ) → c < system.cores → group c ≡ false → filter (is_for system group) (made t c).mails ≡ []
  sent-away t c known other = none-pass (is_for system group) (made t c).mails (λ m is_in. away m (signals-said system well c t m known is_in))
    where
      away : (m : Mail) → Signals system c (note_part system m.note).core → is_for system group m ≡ false
      away m s = by (group (note_part system m.note).core) refl
        where
          by : (b : Bool) → group (note_part system m.note).core ≡ b → b ≡ false
          by false e = refl
          by true e = sym (sym other ∙ ap group (sym s.maker) ∙ recurs.closed s.thread s.place s.note s.badge s.known s.item (ap group s.home ∙ e))

  -- the turn as the state of the core shows it, which is the turn of the core that is shown
  abbrev seen : ℕ → ℕ → Turn
  seen t c = turn_shown (made t c)

  turn-later : (t c : ℕ) → a ≤ t → c < system.cores → group c ≡ true → Holds t → AgreeAt t →
      later_turn (shift c) (seen t c) ≡ seen (t + d) c
  turn-later t c l known own h agree =
      ap (later_turn (shift c)) (turn_of-kept system c t)
      ∙ goes.alike
      ∙ ap (λ mails. turn system c (t + d) mails (later_core (shift c) core)) mails
      ∙ ap (turn system c (t + d) (filter (clocks.arrives_at system (t + d) c) (clocks.world system (t + d)).mails)) (sym (h.again.cores c known own))
      ∙ sym (turn_of-kept system c (t + d))
    where
      core : Core
      core = clocks.core_shown system (clocks.world system t) c

      agrees : AllAgree system (shift c) (turn_kept system c t).rows
      agrees = let Q : Turn → Type 0 = λ turn. AllAgree system (shift c) turn.rows in subst Q (turn_of-kept system c t) (agree c known own)

      goes : Goes by_priority system (shift c) (recurs.shift c) t (turn_kept system c t)
          (turn system c (t + d) (map (later_mail d) (filter (clocks.arrives_at system t c) (clocks.world system t).mails)) (later_core (shift c) core))
      goes =
          turn-goes by_priority system (shift c) (recurs.shift c) t c (filter (clocks.arrives_at system t c) (clocks.world system t).mails) core
          (no-orders system c a t l system.orders recurs.orders) (no-orders system c a (t + d) (omega (arith, l)) system.orders recurs.orders) (rings-at t l c known own)
          (core-order system well (shift c) c known t) agrees

      mails : map (later_mail d) (filter (clocks.arrives_at system t c) (clocks.world system t).mails) ≡ filter (clocks.arrives_at system (t + d) c) (clocks.world system (t + d)).mails
      mails =
          ap (map (later_mail d)) (sym (arriving-own t c own (clocks.world system t).mails))
          ∙ filter-later d (clocks.arrives_at system t c) (clocks.arrives_at system (t + d) c) (λ m. arrives-later m.arrives t d (note_part system m.note).core c) (filter (is_for system group) (clocks.world system t).mails)
          ∙ ap (filter (clocks.arrives_at system (t + d) c)) (sym h.again.mails)
          ∙ arriving-own (t + d) c own (clocks.world system (t + d)).mails

  -- the signals under way before the next moment
  abbrev stays : ℕ → Mail → Bool
  stays t m = not ((m.arrives == t) && nat_lt (note_part system m.note).core system.cores)

  abbrev left : ℕ → Mail → Bool
  left t m = not (laws.was_taken system t m)

  mails-next : (t : ℕ) → (clocks.world system (suc t)).mails ≡ filter (stays t) (clocks.world system t).mails ++ filter (left (suc t)) (laws.sent_at system t)
  mails-next t =
      signals-of-turns system (takes-time system well) (suc t)
      ∙ ap (filter (left (suc t))) (flat_map-moments-more (laws.sent_at system) t)
      ∙ filter-append (left (suc t)) (laws.sent_before system t) (laws.sent_at system t)
      ∙ ap (λ ms. ms ++ filter (left (suc t)) (laws.sent_at system t))
      (sym (filter_both (left t) (stays t) (left (suc t)) (λ m. left-next t system.cores m.arrives (note_part system m.note).core) (laws.sent_before system t))
      ∙ ap (filter (stays t)) (sym (signals-of-turns system (takes-time system well) t)))

  -- of these, those for the group
  mails-own : (t : ℕ) → filter (is_for system group) (clocks.world system (suc t)).mails
      ≡ filter (stays t) (filter (is_for system group) (clocks.world system t).mails) ++ filter (left (suc t)) (flat_map (λ c. filter (is_for system group) (made t c).mails) (range_with_len 0 system.cores))
  mails-own t =
      ap (filter (is_for system group)) (mails-next t)
      ∙ filter-append (is_for system group) (filter (stays t) (clocks.world system t).mails) (filter (left (suc t)) (laws.sent_at system t))
      ∙ both _ _ _ _ (filter-swap (stays t) (is_for system group) (clocks.world system t).mails)
      (filter-swap (left (suc t)) (is_for system group) (laws.sent_at system t) ∙ ap (filter (left (suc t))) (filter-flat_map (is_for system group) (λ c. (made t c).mails) system.cores 0))
    where
      both : (xs ys us vs : List Mail) → xs ≡ ys → us ≡ vs → xs ++ us ≡ ys ++ vs
      both xs ys us vs e f = cc

  sent-later : (t c : ℕ) → a ≤ t → c < system.cores → Holds t → AgreeAt t → map (later_mail d) (filter (is_for system group) (made t c).mails) ≡ filter (is_for system group) (made (t + d) c).mails
  sent-later t c l known h agree = by (group c) refl
    where
      by : (b : Bool) → group c ≡ b → map (later_mail d) (filter (is_for system group) (made t c).mails) ≡ filter (is_for system group) (made (t + d) c).mails
      by true own =
          filter-later d (is_for system group) (is_for system group) (λ m. refl) (made t c).mails
          ∙ ap (λ (turn : Turn). filter (is_for system group) turn.mails) (turn-later t c l known own h agree)
      by false other = ap (map (later_mail d)) (sent-away t c known other) ∙ sym (sent-away (t + d) c known other)

  next : (t : ℕ) → a ≤ t → Holds t → AgreeAt t → Holds (suc t)
  next t l h agree =
      record {
        again = let P : ℕ → Type 0 = λ n. IsLater system group shifts (clocks.world system (suc t)) (clocks.world system n) in subst P (same t d) after;
      }
    where
      same : (t e : ℕ) → suc (t + e) ≡ suc t + e
      same t e = omega arith

      after : IsLater system group shifts (clocks.world system (suc t)) (clocks.world system (suc (t + d)))
      after =
          record {
            cores = λ c known own.
                core_shown-world system (takes-time system well) (t + d) c known
                ∙ ap (λ (turn : Turn). turn.core) (sym (turn-later t c l known own h agree))
                ∙ ap (later_core (shift c)) (sym (core_shown-world system (takes-time system well) t c known));
            mails =
                mails-own (t + d)
                ∙ sym
                (
                ap (map (later_mail d)) (mails-own t)
                ∙ map-append (later_mail d) (filter (stays t) (filter (is_for system group) (clocks.world system t).mails)) (filter (left (suc t)) (sent t))
                ∙ both _ _ _ _
                (filter-later d (stays t) (stays (t + d)) (λ m. stays-later m.arrives t d (note_part system m.note).core system.cores) (filter (is_for system group) (clocks.world system t).mails)
                ∙ ap (filter (stays (t + d))) (sym h.again.mails))
                (filter-later d (left (suc t)) (left (suc (t + d))) (λ m. left-later m.arrives t d (note_part system m.note).core system.cores) (sent t)
                ∙ ap (filter (left (suc (t + d)))) (flat_map-later d (λ c. filter (is_for system group) (made t c).mails) (λ c. filter (is_for system group) (made (t + d) c).mails) system.cores 0
                (λ c _ known. sent-later t c l (omega (arith, known)) h agree)))
                );
          }
        where
          sent : ℕ → List Mail
          sent t = flat_map (λ c. filter (is_for system group) (made t c).mails) (range_with_len 0 system.cores)

          both : (xs ys us vs : List Mail) → xs ≡ ys → us ≡ vs → xs ++ us ≡ ys ++ vs
          both xs ys us vs e f = cc

  -- all moments up to a + n
  record Upto (n : ℕ) : Type 0 where
    worlds : (m : ℕ) → m ≤ n → Holds (a + m)
    agree : (m : ℕ) → m < n → AgreeAt (a + m)

  agree-next : (n : ℕ) → Upto n → AgreeAt (a + n)
  agree-next n h c known own = by (nat_lt n d) refl
    where
      some : 1 ≤ d
      some = recurs.some

      by : (b : Bool) → nat_lt n d ≡ b → AllAgree system (shift c) (made (a + n) c).rows
      by true e =
          let l : n < d = grind (arith, nat_tests) in
          all-agree system (shift c) (made (a + n) c).rows (recurs.rows (a + n) c (omega arith) (omega (arith, l)) known own) (proper system well (shift c) c (a + n) known)
      by false e =
          let l : d ≤ n = grind (arith, nat_tests) in
          let m : ℕ = n - d in
          let less : m < n = omega (arith, l, some) in
          let e : a + m + d ≡ a + n = omega (arith, l) in
          let P : ℕ → Type 0 = λ t. AllAgree system (shift c) (made t c).rows in
          let Q : Turn → Type 0 = λ turn. AllAgree system (shift c) turn.rows in
          subst P e
          (subst Q (turn-later (a + m) c (omega arith) known own (h.worlds m (omega (arith, l))) (h.agree m less))
          (all-later system (shift c) (made (a + m) c).rows (h.agree m less c known own)))

  upto-next : (n : ℕ) → Upto n → Upto (suc n)
  upto-next n before = record { worlds = worlds; agree = agree }
    where
      agrees : AgreeAt (a + n)
      agrees = agree-next n before

      after : Holds (suc (a + n))
      after = next (a + n) (omega arith) (before.worlds n (omega arith)) agrees

      worlds : (m : ℕ) → m ≤ suc n → Holds (a + m)
      worlds m l = by (nat_le m n) refl
        where
          by : (b : Bool) → nat_le m n ≡ b → Holds (a + m)
          by true e = before.worlds m (grind (arith, nat_tests))
          by false e =
              let more : n < m = grind (arith, nat_tests) in
              let f : suc (a + n) ≡ a + m = omega (arith, more, l) in
              subst Holds f after

      agree : (m : ℕ) → m < suc n → AgreeAt (a + m)
      agree m l = by (nat_lt m n) refl
        where
          by : (b : Bool) → nat_lt m n ≡ b → AgreeAt (a + m)
          by true e = before.agree m (grind (arith, nat_tests))
          by false e =
              let more : n ≤ m = grind (arith, nat_tests) in
              let f : a + n ≡ a + m = omega (arith, more, l) in
              subst AgreeAt f agrees

  upto : (n : ℕ) → Upto n
  upto zero =
      record {
        worlds = λ m l. let e : a ≡ a + m = omega (arith, l) in subst Holds e (record { again = recurs.again });
        agree = λ m l. absurd (omega (arith, l));
      }
  upto (suc n) = upto-next n (upto n)

  -- each turn from a on comes again, as the state of the core shows it
  pub again : (t c : ℕ) → a ≤ t → c < system.cores → group c ≡ true → later_turn (shift c) (seen t c) ≡ seen (t + d) c
  again t c l known own =
      let e : a + (t - a) ≡ t = omega (arith, l) in
      let P : ℕ → Type 0 = λ m. later_turn (shift c) (seen m c) ≡ seen (m + d) c in
      subst P e
      (turn-later (a + (t - a)) c (omega arith) known own ((upto (t - a)).worlds (t - a) (omega arith)) (agree-next (t - a) (upto (t - a))))

  pub rows-again : (t c : ℕ) → a ≤ t → c < system.cores → group c ≡ true → (made (t + d) c).rows ≡ map (later_what (shift c)) (made t c).rows
  rows-again t c l known own = ap (λ (turn : Turn). turn.rows) (sym (again t c l known own))
