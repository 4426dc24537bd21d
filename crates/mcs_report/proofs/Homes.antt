-- The place of each thread among those of its core.
use Rattle.std.proofs.Common.{◌≡◌, ◌≢◌, ℕ, zero, suc, ◌+◌, ◌<◌, ◌≤◌, Bool, true, cond, List, [], ◌∷◌, ◌++◌, length, get_or, take, map, replicate, slice_index, slice_set, sym, ap, ◌∙◌, Some, None, arith}
use Rattle.std.specs.Prelude.{filter, count_by}
use Rattle.std.specs.List.{range_with_len}
use Rattle.std.proofs.lemmas.Bool.Decides.{nat_tests}
use Rattle.std.proofs.lemmas.Grind.{common_steps}
use Rattle.std.proofs.lemmas.List.{get_or-replicate, length-replicate, length-set, get_or_default}
use Rattle.std.proofs.lemmas.List.FromFn.{get_or-map-range_with_len, length-map-range_with_len, map-range_with_len_more}
use Rattle.std.proofs.lemmas.List.Sums.{sum_by-cons, sum_by-take-le, count_by_more_yes, count_by_more_no, length-filter}
use Rattle.mcs_system.specs.declared.part.ThreadPart.{ThreadPart}
use Rattle.mcs_system.specs.System.{System, thread_part, core_of, no_thread}
use Rattle.mcs_system.specs.WellFormed.{IsWellFormed}
use Rattle.mcs_report.specs.declared.places.Home.{Home}
use Rattle.mcs_report.specs.Places.{is_on, threads_on, place_of, place_on}
use Rattle.mcs_report.specs.stored.Places.{home_in, AreHomes}
use Rattle.mcs_laws.proofs.Homes.{core_of_context}

-- how many of the first ones pass a test, and what follows them among all that pass it
module _ {A : Type 0} (p : A → Bool) where
  count-cons : (x : A) (xs : List A) → count_by p (x ∷ xs) ≡ cond (p x) 1 0 + count_by p xs
  count-cons x xs = sum_by-cons (λ y. cond (p y) 1 0) x xs

  count-le : (xs : List A) (m n : ℕ) → m ≤ n → count_by p (take m xs) ≤ count_by p (take n xs)
  count-le xs zero n l = omega arith
  count-le xs (suc m) zero l = absurd (omega arith)
  count-le [] (suc m) (suc n) l = omega arith
  count-le (x ∷ xs) (suc m) (suc n) l = omega (arith, count-cons x (take m xs), count-cons x (take n xs), count-le xs m n (omega arith))

  pub count-rises : (xs : List A) (x y : ℕ) (d : A) → x < y → x < length xs → p (get_or xs x d) ≡ true → count_by p (take x xs) < count_by p (take y xs)
  count-rises xs x y d l within passes = omega (arith, count_by_more_yes p xs x d within passes, count-le xs (x + 1) y (omega arith))

  pub count-within : (xs : List A) (x : ℕ) (d : A) → x < length xs → p (get_or xs x d) ≡ true → count_by p (take x xs) < length (filter p xs)
  count-within xs x d within passes =
      omega (arith, count_by_more_yes p xs x d within passes, sum_by-take-le (λ y. cond (p y) 1 0) xs (x + 1), length-filter p xs)

  pub filter-at : (xs : List A) (x : ℕ) (d : A) → x < length xs → p (get_or xs x d) ≡ true → get_or (filter p xs) (count_by p (take x xs)) d ≡ get_or xs x d
  filter-at [] x d within passes = absurd (omega arith)
  filter-at (y ∷ xs) zero d within passes = ap (λ b. get_or (cond b (y ∷ filter p xs) (filter p xs)) 0 d) passes
  filter-at (y ∷ xs) (suc x) d within passes = grind (arith, count-cons y (take x xs), filter-at xs x d (omega arith) passes)

module _ (system : System) where
  -- the table has each thread
  pub homes-length : (homes : List Home) → AreHomes system homes → length homes ≡ length system.threads
  homes-length homes e = ap length e ∙ length-map-range_with_len (home_in system) 0 (length system.threads)

  pub homes-at : (homes : List Home) (x : ℕ) (other : Home) → AreHomes system homes → x < length system.threads → get_or homes x other ≡ home_in system x
  homes-at homes x other e known =
      ap (λ hs. get_or hs x other) e ∙ get_or-map-range_with_len (home_in system) 0 (length system.threads) x x other known (omega arith)

  -- by the table
  pub kept-here : (homes : List Home) (c x : ℕ) (home : Home) → AreHomes system homes → x < length homes → home ≡ get_or homes x home → home.core ≡ c
      → Some home.place ≡ place_on system c x
  kept-here homes c x home are within is here =
      let known : x < length system.threads = omega (arith, homes-length homes are) in
      grind (arith, nat_tests, homes-at homes x home are known)

  pub kept-away : (homes : List Home) (c x : ℕ) (home : Home) → AreHomes system homes → x < length homes → home ≡ get_or homes x home → home.core ≢ c
      → None ≡ place_on system c x
  kept-away homes c x home are within is away =
      let known : x < length system.threads = omega (arith, homes-length homes are) in
      grind (arith, nat_tests, homes-at homes x home are known)

  pub kept-past : (homes : List Home) (c x : ℕ) → AreHomes system homes → length homes ≤ x → None ≡ place_on system c x
  kept-past homes c x are past = grind (arith, nat_tests, homes-length homes are)

  -- two threads of one core have two places there, and each place has an account
  pub places-differ : (x y : ℕ) → x < length system.threads → y < length system.threads → core_of system (thread_part system x) ≡ core_of system (thread_part system y)
      → x ≢ y → place_of system x ≢ place_of system y
  places-differ x y x_known y_known same differ =
      let c = core_of system (thread_part system x) in
      grind (
        arith,
        nat_tests,
        same,
        count-rises (is_on system c) system.threads x y no_thread,
        count-rises (is_on system c) system.threads y x no_thread,
      )

  pub place-within : (x : ℕ) → x < length system.threads → place_of system x < length (threads_on system (core_of system (thread_part system x)))
  place-within x known = count-within (is_on system (core_of system (thread_part system x))) system.threads x no_thread known (grind (arith, nat_tests))

-- counting the threads of each core, one after another
module _ (system : System) (well : IsWellFormed system) where
  pub core-known : (thread : ThreadPart) → core_of system thread < 64
  core-known thread = omega (arith, core_of_context system well thread.context, well.limits.cores.1)

-- of each core its threads among the first n were counted
pub record AreCounted (system : System) (many : List ℕ) (n : ℕ) : Type 0 where
  pub room : length many ≡ 64
  pub each : (c : ℕ) → c < 64 → slice_index many c ≡ count_by (is_on system c) (take n system.threads)

pub none-counted : (system : System) → AreCounted system (replicate 64 0) 0
none-counted system = record { room = length-replicate {A = ℕ} 64 0; each = λ c l. get_or-replicate {A = ℕ} 64 c 0 0 l }

module _ (system : System) (well : IsWellFormed system) (many : List ℕ) (n : ℕ) (thread : ThreadPart) (counted : AreCounted system many n)
    (known : n < length system.threads) (is : thread ≡ get_or system.threads n thread) where
  -- the thread after them
  its-home : core_of system (thread_part system n) ≡ core_of system thread
  its-home = ap (core_of system) (get_or_default system.threads n no_thread thread known ∙ sym is)

  pub place-counted : slice_index many (core_of system thread) ≡ place_of system n
  place-counted = counted.each (core_of system thread) (core-known system well thread) ∙ ap (λ c. count_by (is_on system c) (take n system.threads)) (sym its-home)

  pub home-added : (homes : List Home) → homes ≡ map (home_in system) (range_with_len 0 n)
      → homes ++ record { core = core_of system thread; place = slice_index many (core_of system thread) } ∷ [] ≡ map (home_in system) (range_with_len 0 (n + 1))
  home-added homes e =
      let one : record { core = core_of system thread; place = slice_index many (core_of system thread) } ≡ home_in system n = grind (arith, its-home, place-counted) in
      ap (λ hs. hs ++ record { core = core_of system thread; place = slice_index many (core_of system thread) } ∷ []) e
      ∙ ap (λ home. map (home_in system) (range_with_len 0 n) ++ home ∷ []) one
      ∙ sym (map-range_with_len_more (home_in system) 0 n n (omega arith))

  pub one-counted : AreCounted system (slice_set many (core_of system thread) (slice_index many (core_of system thread) + 1)) (n + 1)
  one-counted = record {
    room = length-set many (core_of system thread) _ ∙ counted.room;
    each = λ c l. grind (
      arith,
      common_steps,
      nat_tests,
      its-home,
      core-known system well thread,
      counted.room,
      counted.each c l,
      count_by_more_yes (is_on system c) system.threads n no_thread known,
      count_by_more_no (is_on system c) system.threads n no_thread known,
    );
  }
