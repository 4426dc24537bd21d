-- How soon a core may reach another one, by the scripts of its threads.
use Rattle.std.proofs.Common.{◌≡◌, ◌≢◌, ℕ, zero, suc, ◌+◌, ◌<◌, ◌≤◌, ◌^◌, ◌⊎◌, Option, Some, None, List, [], ◌∷◌, ◌++◌, length, get_or, set, inl, inr, refl, sym, ap, ◌∙◌, subst, min, Bool, true, false, arith}
use Rattle.std.specs.Prelude.{nat_lt, slice_index}
use Rattle.std.specs.Arc.{arc_value}
use Rattle.std.specs.List.{slice_get}
use Rattle.std.proofs.lemmas.Bool.Decides.{eqb_tells, nat_tests}
use Rattle.std.proofs.lemmas.List.{get_or-set_same, get_or-set_other, get_or_append_left, get_or_push, length_push, length-set}
use Rattle.mcs_ticks.specs.declared.row.Row.{Row}
use Rattle.mcs_script.specs.declared.item.Item.{Item}
use Rattle.mcs_script.specs.declared.item.Item.TheVariants.{Compute, Signal, Wait, Yield, On, Spin, Enter, Leave}
use Rattle.mcs_system.specs.System.{System, note_part, thread_part, core_of, delay_between}
use Rattle.mcs_system.specs.WellFormed.{IsWellFormed}
use Rattle.mcs_laws.specs.Links.{Signals}
use Rattle.mcs_laws.proofs.Links.{signals-said}
use Rattle.mcs_window.specs.Desk.{Table, clock_of}
use Rattle.mcs_stretch.specs.Stretch.{NothingArrivesBefore}
use Rattle.mcs_window.specs.declared.desk.Desk.TheInside.{Inside}
use Rattle.mcs_window.specs.stored.Slots.{IsKept}
use Rattle.mcs_window.specs.stored.Reaches.{home_signalled, IsReach, SignalsUntil, AreReachesOf, AreReachesUntil, AreDelaysFrom}
use Rattle.mcs_stretch.proofs.Inboxes.{of_turn}
use Rattle.mcs_window.proofs.Lending.{past_by, past_by-own, past_by-other}

-- the reach under a premise Q that implies P
pub reach-less : (system : System) (maker home reach : ℕ) (P Q : Type 0) → (Q → P) → IsReach system maker home P reach → IsReach system maker home Q reach
reach-less system maker home reach P Q f is = record { least = is.least; most = is.most; is_delay = λ q. is.is_delay (f q) }

-- how far the first cores allow a core to go
pub record IsFarBy (table : Table) (c n far : ℕ) : Type 0 where
  pub in_time : far ≤ table.horizon + 1
  pub no_less : past_by table c n ≤ far
  pub said : (b : ℕ) → b < n → b ≢ c → Signals table.system b c → far ≤ clock_of table b + delay_between table.system b c

module _ (table : Table) (c n far : ℕ) (is : IsFarBy table c n far) where
  pub far_by-own : n ≡ c → IsFarBy table c (suc n) far
  far_by-own e =
      record {
        in_time = is.in_time;
        no_less = (let own = past_by-own table c n e in let before = is.no_less in omega arith);
        said = λ b l other signals. is.said b (let ne : b ≢ n = λ f. other (f ∙ e) in omega arith) other signals;
      }

  pub far_by-other : (reach : ℕ) → n ≢ c → IsReach table.system n c (Signals table.system n c) reach → IsFarBy table c (suc n) (min far (clock_of table n + reach))
  far_by-other reach other r =
      record {
        in_time = (let most = is.in_time in omega arith);
        no_less = (let next = past_by-other table c n other in let before = is.no_less in let least = r.least in omega arith);
        said = λ b l ne signals. elim (eqb_tells b n) [
          | inl e ↦ (let same : clock_of table b + delay_between table.system b c ≡ clock_of table n + delay_between table.system n c = ap (λ d. clock_of table d + delay_between table.system d c) e.1 in
              let said = r.is_delay (subst (λ d. Signals table.system d c) e.1 signals) in omega arith)
          | inr e ↦ (let f : b ≢ n = e.1 in let before = is.said b (omega arith) ne signals in omega arith)
        ];
      }

-- so far no signal arrives that is still to be made
pub far_by-reached : (table : Table) (c far : ℕ) → IsWellFormed table.system → IsFarBy table c table.system.cores far → NothingArrivesBefore table.system c far table.clocks
far_by-reached table c far well is b m mail known l i home =
    let made = of_turn table.system b m mail i in
    let other : b ≢ c = λ e. made.away (home ∙ sym e) in
    let signals = subst (Signals table.system b) home (signals-said table.system well b m mail known i) in
    let reach = is.said b known other signals in
    let arrives : mail.arrives ≡ m + delay_between table.system b c = made.arrives ∙ ap (λ h. m + delay_between table.system b h) home in
    omega arith

-- what an item signals
no_home : (system : System) (item : Option Item) (note badge : ℕ) → home_signalled system item ≡ None → item ≡ Some (Signal note badge) → ⊥
no_home system item note badge e f = by (sym (ap (home_signalled system) f) ∙ e)
  where
    by : Some (note_part system note).core ≡ None → ⊥
    by g = cc

-- a signal for this home
record IsSignalFor (system : System) (item : Option Item) (home : ℕ) : Type 0 where
  note : ℕ
  badge : ℕ
  item_is : item ≡ Some (Signal note badge)
  home_is : home ≡ (note_part system note).core

a_home : (system : System) (item : Option Item) (home : ℕ) → home_signalled system item ≡ Some home → IsSignalFor system item home
a_home system (Some (Signal note badge)) home e = record { note = note; badge = badge; item_is = refl; home_is = by e }
  where
    by : Some (note_part system note).core ≡ Some home → home ≡ (note_part system note).core
    by f = cc
a_home system (Some (Compute ticks)) home e = absurd (none e)
  where
    none : None ≡ Some home → ⊥
    none f = cc
a_home system (Some (Wait note)) home e = absurd (none e)
  where
    none : None ≡ Some home → ⊥
    none f = cc
a_home system (Some Yield) home e = absurd (none e)
  where
    none : None ≡ Some home → ⊥
    none f = cc
a_home system (Some (On badges)) home e = absurd (none e)
  where
    none : None ≡ Some home → ⊥
    none f = cc
a_home system (Some Spin) home e = absurd (none e)
  where
    none : None ≡ Some home → ⊥
    none f = cc
a_home system (Some (Enter server priority)) home e = absurd (none e)
  where
    none : None ≡ Some home → ⊥
    none f = cc
a_home system (Some (Leave server priority)) home e = absurd (none e)
  where
    none : None ≡ Some home → ⊥
    none f = cc
a_home system None home e = absurd (none e)
  where
    none : None ≡ Some home → ⊥
    none f = cc

-- rows of delays
pub delays_from-more : (system : System) (many : ℕ) (rows more : List (List ℕ)) (row : List ℕ) → AreDelaysFrom system many rows → ((home : ℕ) → home < 64 → slice_index row home ≡ delay_between system many home) →
    more ≡ rows ++ row ∷ [] → AreDelaysFrom system (many + 1) more
delays_from-more system many rows more row h is e =
    record {
      many_are = ap length e ∙ length_push rows row ∙ ap (λ n. n + 1) h.many_are;
      each = λ maker home x l m. ap (λ (xs : List (List ℕ)). slice_index (get_or xs maker x) home) e ∙ by maker home x l m (nat_lt maker many) refl;
    }
  where
    by : (maker home : ℕ) (x : List ℕ) → maker < many + 1 → home < 64 → (u : Bool) → nat_lt maker many ≡ u → slice_index (get_or (rows ++ row ∷ []) maker x) home ≡ delay_between system maker home
    by maker home x l m true f =
        let below : maker < many = grind (arith, nat_tests) in
        ap (λ (y : List ℕ). slice_index y home) (get_or_append_left rows (row ∷ []) x maker (let many_are = h.many_are in omega arith)) ∙ h.each maker home x below m
    by maker home x l m false f =
        let same : maker ≡ many = grind (arith, nat_tests) in
        ap (λ (y : List ℕ). slice_index y home) (get_or_push rows row x maker (let many_are = h.many_are in omega arith)) ∙ is home m ∙ ap (λ b. delay_between system b home) (sym same)

-- rows of makers before any script was read
pub record AreNever (many : ℕ) (rows : List (List ℕ)) : Type 0 where
  pub many_are : length rows ≡ many
  pub each : (maker home : ℕ) (x : List ℕ) → maker < many → home < 64 → slice_index (get_or rows maker x) home ≡ 2 ^ 41

pub never-more : (many : ℕ) (rows more : List (List ℕ)) (row : List ℕ) → AreNever many rows → ((home : ℕ) → home < 64 → slice_index row home ≡ 2 ^ 41) → more ≡ rows ++ row ∷ [] → AreNever (many + 1) more
never-more many rows more row h is e =
    record {
      many_are = ap length e ∙ length_push rows row ∙ ap (λ n. n + 1) h.many_are;
      each = λ maker home x l m. ap (λ (xs : List (List ℕ)). slice_index (get_or xs maker x) home) e ∙ by maker home x l m (nat_lt maker many) refl;
    }
  where
    by : (maker home : ℕ) (x : List ℕ) → maker < many + 1 → home < 64 → (u : Bool) → nat_lt maker many ≡ u → slice_index (get_or (rows ++ row ∷ []) maker x) home ≡ 2 ^ 41
    by maker home x l m true f =
        let below : maker < many = grind (arith, nat_tests) in
        ap (λ (y : List ℕ). slice_index y home) (get_or_append_left rows (row ∷ []) x maker (let many_are = h.many_are in omega arith)) ∙ h.each maker home x below m
    by maker home x l m false f =
        let same : maker ≡ many = grind (arith, nat_tests) in
        ap (λ (y : List ℕ). slice_index y home) (get_or_push rows row x maker (let many_are = h.many_are in omega arith)) ∙ is home m

pub never-read : (system : System) (rows : List (List ℕ)) → ((maker home : ℕ) → delay_between system maker home ≤ 2 ^ 20) → AreNever system.cores rows → AreReachesUntil system 0 rows
never-read system rows short h =
    record {
      many_are = h.many_are;
      each = λ maker x l home m.
          let value = h.each maker home x l m in
          let delay = short maker home in
          record { least = omega arith; most = omega arith; is_delay = λ s. absurd (early s) };
    }
  where
    early : {maker home : ℕ} → SignalsUntil system maker home 0 0 → ⊥
    early s = elim s.early [ inl l ↦ omega arith | inr l ↦ (let k = l.1 in omega arith) ]

-- the scripts of a thread's items, one by one
module _ (system : System) (n : ℕ) (short : (maker home : ℕ) → delay_between system maker home ≤ 2 ^ 20) where
  abbrev maker : ℕ
  maker = core_of system (thread_part system n)

  abbrev script : List Item
  script = (thread_part system n).script

  -- an item that is no signal for this home
  silent-item : (i home : ℕ) → ((note badge : ℕ) → slice_get script i ≡ Some (Signal note badge) → (note_part system note).core ≢ home) → SignalsUntil system maker home n (i + 1) → SignalsUntil system maker home n i
  silent-item i home none s = record { signal = s.signal; early = by s.early }
    where
      by : (s.signal.thread < n) ⊎ ((s.signal.thread ≡ n) × (s.signal.place < i + 1)) → (s.signal.thread < n) ⊎ ((s.signal.thread ≡ n) × (s.signal.place < i))
      by (inl l) = inl l
      by (inr l) = elim (eqb_tells s.signal.place i) [
        | inl e ↦ absurd (none s.signal.note s.signal.badge
            (ap (slice_get script) (sym e.1) ∙ ap (λ x. slice_get (thread_part system x).script s.signal.place) (sym l.0) ∙ s.signal.item) s.signal.home)
        | inr e ↦ inr (l.0, let ne : s.signal.place ≢ i = e.1 in let k = l.1 in omega arith)
      ]

  pub items-same : (i : ℕ) (row : List ℕ) → home_signalled system (slice_get script i) ≡ None → AreReachesOf system maker n i row → AreReachesOf system maker n (i + 1) row
  items-same i row none before home l =
      reach-less system maker home _ (SignalsUntil system maker home n i) (SignalsUntil system maker home n (i + 1)) (silent-item i home (λ note badge e f. no_home system (slice_get script i) note badge none e)) (before home l)

  pub items-more : (i home ticks : ℕ) (row : List ℕ) → home_signalled system (slice_get script i) ≡ Some home → home < length row → ticks ≡ delay_between system maker home
      → AreReachesOf system maker n i row → AreReachesOf system maker n (i + 1) (set row home ticks)
  items-more i home ticks row signals in_row delay before other l = elim (eqb_tells other home) [
    | inl e ↦ (let value : slice_index (set row home ticks) other ≡ delay_between system maker other =
        ap (slice_index (set row home ticks)) e.1 ∙ get_or-set_same row home ticks 0 in_row ∙ delay ∙ ap (delay_between system maker) (sym e.1) in
        let k = short maker other in
        record { least = omega arith; most = omega arith; is_delay = λ s. value })
    | inr e ↦ subst (IsReach system maker other (SignalsUntil system maker other n (i + 1))) (sym (get_or-set_other row home other ticks 0 e.1))
        (reach-less system maker other _ (SignalsUntil system maker other n i) (SignalsUntil system maker other n (i + 1))
        (silent-item i other (λ m b f g. e.1 (sym g ∙ ap (λ k. (note_part system k).core) (note-same m b f) ∙ sym signal.home_is))) (before other l))
  ]
    where
      signal : IsSignalFor system (slice_get script i) home
      signal = a_home system (slice_get script i) home signals

      note-same : (m b : ℕ) → slice_get script i ≡ Some (Signal m b) → m ≡ signal.note
      note-same m b f = by (sym f ∙ signal.item_is)
        where
          by : Some (Signal m b) ≡ Some (Signal signal.note signal.badge) → m ≡ signal.note
          by g = cc

  -- the whole script
  pub items-all : (i : ℕ) (row : List ℕ) → length script ≤ i → AreReachesOf system maker n i row → AreReachesOf system maker (n + 1) 0 row
  items-all i row all before home l =
      reach-less system maker home _ (SignalsUntil system maker home n i) (SignalsUntil system maker home (n + 1) 0) read (before home l)
    where
      past : (xs : List Item) (p : ℕ) (x : Item) → slice_get xs p ≡ Some x → p < length xs
      past [] p x e = absurd (by e)
        where
          by : slice_get [] p ≡ Some x → ⊥
          by e = cc
      past (y ∷ ys) zero x e = omega arith
      past (y ∷ ys) (suc p) x e = (let k = past ys p x e in omega arith)

      read : SignalsUntil system maker home (n + 1) 0 → SignalsUntil system maker home n i
      read s = record { signal = s.signal; early = by s.early }
        where
          by : (s.signal.thread < n + 1) ⊎ ((s.signal.thread ≡ n + 1) × (s.signal.place < 0)) → (s.signal.thread < n) ⊎ ((s.signal.thread ≡ n) × (s.signal.place < i))
          by (inr k) = absurd (let z = k.1 in omega arith)
          by (inl k) = elim (eqb_tells s.signal.thread n) [
            | inl e ↦ inr (e.1, let q = past script s.signal.place _ (ap (λ x. slice_get (thread_part system x).script s.signal.place) (sym e.1) ∙ s.signal.item) in omega arith)
            | inr e ↦ inl (let ne : s.signal.thread ≢ n = e.1 in omega arith)
          ]

-- one thread more
module _ (system : System) (n : ℕ) (rows : List (List ℕ)) (before : AreReachesUntil system n rows) where
  pub reaches-more : (maker : ℕ) (row : List ℕ) → maker ≡ core_of system (thread_part system n) → maker < system.cores → AreReachesOf system maker (n + 1) 0 row → AreReachesUntil system (n + 1) (set rows maker row)
  reaches-more maker row is known own =
      record {
        many_are = length-set rows maker row ∙ before.many_are;
        each = λ b x l. elim (eqb_tells b maker) [
          | inl e ↦ subst (λ d. AreReachesOf system d (n + 1) 0 (get_or (set rows maker row) d x)) (sym e.1)
              (subst (AreReachesOf system maker (n + 1) 0) (sym (get_or-set_same rows maker row x (let many = before.many_are in omega arith))) own)
          | inr e ↦ subst (AreReachesOf system b (n + 1) 0) (sym (get_or-set_other rows maker b row x e.1))
              (λ home k. reach-less system b home _ (SignalsUntil system b home n 0) (SignalsUntil system b home (n + 1) 0) (other b home e.1) (before.each b x l home k))
        ];
      }
    where
      other : (b home : ℕ) → b ≢ maker → SignalsUntil system b home (n + 1) 0 → SignalsUntil system b home n 0
      other b home ne s = record { signal = s.signal; early = by s.early }
        where
          by : (s.signal.thread < n + 1) ⊎ ((s.signal.thread ≡ n + 1) × (s.signal.place < 0)) → (s.signal.thread < n) ⊎ ((s.signal.thread ≡ n) × (s.signal.place < 0))
          by (inr k) = absurd (let z = k.1 in omega arith)
          by (inl k) = elim (eqb_tells s.signal.thread n) [
            | inl e ↦ absurd (ne (sym s.signal.maker ∙ ap (λ x. core_of system (thread_part system x)) e.1 ∙ sym is))
            | inr e ↦ inl (let nn : s.signal.thread ≢ n = e.1 in omega arith)
          ]

-- what the desk keeps
pub reach-said : {S : Type 0} {holds : S → List Row → Type 0} (a : Inside S) → IsKept holds a → (maker home : ℕ) (row : List ℕ) → maker < (arc_value a.system).cores → home < (arc_value a.system).cores → row ≡ get_or a.reaches.items maker row →
    IsReach (arc_value a.system) maker home (Signals (arc_value a.system) maker home) (slice_index row home)
reach-said a kept maker home row l k is =
    let system = arc_value a.system in
    subst (λ (r : List ℕ). IsReach system maker home (Signals system maker home) (slice_index r home)) (sym is)
    (reach-less system maker home _ (SignalsUntil system maker home (length system.threads) 0) (Signals system maker home) (λ s. record { signal = s; early = inl s.known })
    (kept.reaches_are.each maker row l home (let few = kept.few in omega arith)))
