-- The counts of each thread and of each notification, row by row.
use Rattle.std.proofs.Common.{◌≡◌, ◌≢◌, ℕ, zero, suc, ◌+◌, ◌<◌, Bool, true, false, cond, ◌||◌, List, [], ◌∷◌, length, map, get_or, set, replicate, refl, sym, ap, ◌∙◌, Option, Some, None, arith}
use Rattle.std.specs.Prelude.{◌==◌}
use Rattle.std.specs.List.{range_with_len}
use Rattle.std.proofs.lemmas.Bool.Decides.{nat_tests}
use Rattle.std.proofs.lemmas.List.{length-set, get_or-set_same, get_or-set_other}
use Rattle.std.proofs.lemmas.List.FromFn.{get_or-map-range_with_len, length-map-range_with_len, fill_by_all}
use Rattle.mcs_ticks.specs.Capped.{capped, one_more}
use Rattle.mcs_ticks.specs.declared.row.Row.{Row}
use Rattle.mcs_ticks.specs.declared.row.What.{What}
use Rattle.mcs_ticks.specs.declared.row.What.TheVariants as row
use Rattle.mcs_ticks.specs.declared.row.Why.TheVariants as why
use Rattle.mcs_system.specs.System.{System}
use Rattle.mcs_verdict.specs.declared.finding.Finding.{Finding}
use Rattle.mcs_verdict.specs.declared.finding.Finding.TheVariants.{Miss, Overdue, Untaken, Lost, Never}
use Rattle.mcs_verdict.specs.declared.job.Job.{Job}
use Rattle.mcs_verdict.specs.Account.{is_some_of}
use Rattle.mcs_verdict.specs.Findings.{finding}
use Rattle.mcs_verdict.specs.Jobs.{job_of}
use Rattle.mcs_ever_found.specs.Course.{is_miss, is_loss, is_spent, greater, or_greater, misses, losses, greatest, was_spent, Course, course_of}
use Rattle.mcs_ever_found.specs.stored.Places.{missed_by, lost_at, spent_by, counted, raised, marked}

-- lists by numbers
module _ {T : Type 0} (f g : ℕ → T) (n : ℕ) (d : T) where
  still : ((x : ℕ) → f x ≡ g x) → map f (range_with_len 0 n) ≡ map g (range_with_len 0 n)
  still same =
      fill_by_all g (map f (range_with_len 0 n)) n d (length-map-range_with_len f 0 n)
      (λ x l. get_or-map-range_with_len f 0 n x x d l (omega arith) ∙ same x)

  told : (y : ℕ) (v : T) → ((x : ℕ) → (y == x) ≡ false → f x ≡ g x) → (y < n → v ≡ g y) → set (map f (range_with_len 0 n)) y v ≡ map g (range_with_len 0 n)
  told y v same here =
      fill_by_all g (set (map f (range_with_len 0 n)) y v) n d
      (length-set (map f (range_with_len 0 n)) y v ∙ length-map-range_with_len f 0 n) (λ x l. at x l (y == x) refl)
    where
      at : (x : ℕ) → x < n → (b : Bool) → (y == x) ≡ b → get_or (set (map f (range_with_len 0 n)) y v) x d ≡ g x
      at x l true e =
          let is : y ≡ x = grind (arith, nat_tests) in
          let within : y < length (map f (range_with_len 0 n)) = omega (arith, l, is, length-map-range_with_len f 0 n) in
          ap (λ z. get_or (set (map f (range_with_len 0 n)) y v) z d) (sym is)
          ∙ get_or-set_same (map f (range_with_len 0 n)) y v d within ∙ here (omega (arith, l, is)) ∙ ap g is
      at x l false e =
          let other : x ≢ y = grind (arith, nat_tests) in
          get_or-set_other (map f (range_with_len 0 n)) y x v d other
          ∙ get_or-map-range_with_len f 0 n x x d l (omega arith) ∙ same x e

-- one more of a count, as far as 64 bits hold it
capped-more : (n : ℕ) → one_more (capped n) ≡ capped (1 + n)
capped-more n = grind arith

or-true : (b : Bool) → true ≡ (true || b)
or-true b = refl

module _ (f : ℕ → ℕ) (n : ℕ) where
  abbrev counts : List ℕ
  counts = map (λ x. capped (f x)) (range_with_len 0 n)

  count-more : (o : Option ℕ) → counted o counts ≡ map (λ x. capped (cond (is_some_of o x) 1 0 + f x)) (range_with_len 0 n)
  count-more None = still (λ x. capped (f x)) (λ x. capped (0 + f x)) n 0 (λ x. ap capped (zeroth (f x)))
    where
      zeroth : (m : ℕ) → m ≡ 0 + m
      zeroth m = omega arith
  count-more (Some y) =
      told (λ x. capped (f x)) (λ x. capped (cond (y == x) 1 0 + f x)) n 0 y (one_more (get_or counts y 0))
      (λ x e. ap capped (zeroth (f x)) ∙ ap (λ b. capped (cond b 1 0 + f x)) (sym e))
      (λ l. ap one_more (get_or-map-range_with_len (λ x. capped (f x)) 0 n y y 0 l (omega arith)) ∙ capped-more (f y)
      ∙ ap (λ b. capped (cond b 1 0 + f y)) (sym (same y)))
    where
      zeroth : (m : ℕ) → m ≡ 0 + m
      zeroth m = omega arith

      same : (y : ℕ) → (y == y) ≡ true
      same y = grind (arith, nat_tests)

module _ (f : ℕ → Option ℕ) (n : ℕ) where
  abbrev all : List (Option ℕ)
  all = map f (range_with_len 0 n)

  raise-more : (o : Option Job) → raised o all ≡ map (λ x. or_greater x o (f x)) (range_with_len 0 n)
  raise-more None = refl
  raise-more (Some job) =
      told f (λ x. or_greater x (Some job) (f x)) n None job.thread (Some (greater (get_or all job.thread None) job.response))
      (λ x e. sym (ap (λ b. cond b (Some (greater (f x) job.response)) (f x)) e))
      (λ l. ap (λ before. Some (greater before job.response)) (get_or-map-range_with_len f 0 n job.thread job.thread None l (omega arith))
      ∙ ap (λ b. cond b (Some (greater (f job.thread) job.response)) (f job.thread)) (sym (same job.thread)))
    where
      same : (y : ℕ) → (y == y) ≡ true
      same y = grind (arith, nat_tests)

module _ (f : ℕ → Bool) (n : ℕ) where
  abbrev marks : List Bool
  marks = map f (range_with_len 0 n)

  mark-more : (o : Option ℕ) → marked o marks ≡ map (λ x. is_some_of o x || f x) (range_with_len 0 n)
  mark-more None = refl
  mark-more (Some y) =
      told f (λ x. (y == x) || f x) n false y true (λ x e. ap (λ b. b || f x) (sym e)) (λ l. ap (λ b. b || f y) (sym (same y)))
    where
      same : (y : ℕ) → (y == y) ≡ true
      same y = grind (arith, nat_tests)

-- the thread or the notification that a row names
whose-miss : (x : ℕ) (found : Option Finding) → is_some_of (missed_by found) x ≡ is_miss x found
whose-miss x None = refl
whose-miss x (Some (Miss y number response deadline activated queued stood)) = refl
whose-miss x (Some (Overdue y number age deadline activated queued stood)) = refl
whose-miss x (Some (Untaken note word age deadline set)) = refl
whose-miss x (Some (Lost note word)) = refl
whose-miss x (Some (Never y deadline)) = refl

whose-loss : (x : ℕ) (found : Option Finding) → is_some_of (lost_at found) x ≡ is_loss x found
whose-loss x None = refl
whose-loss x (Some (Miss y number response deadline activated queued stood)) = refl
whose-loss x (Some (Overdue y number age deadline activated queued stood)) = refl
whose-loss x (Some (Untaken note word age deadline set)) = refl
whose-loss x (Some (Lost note word)) = refl
whose-loss x (Some (Never y deadline)) = refl

whose-spent : (x : ℕ) (what : What) → is_some_of (spent_by what) x ≡ is_spent x what
whose-spent x (row.Stop y why.Spent k until) = refl
whose-spent x (row.Stop y why.Yield k until) = refl
whose-spent x (row.Stop y why.Wait k until) = refl
whose-spent x (row.Stop y why.Call k until) = refl
whose-spent x (row.Stop y why.Done k until) = refl
whose-spent x (row.Stop y why.Preempt k until) = refl
whose-spent x (row.Stop y why.Order k until) = refl
whose-spent x (row.Round y number response) = refl
whose-spent x (row.Release y) = refl
whose-spent x (row.Run y) = refl
whose-spent x (row.Signal y note badge) = refl
whose-spent x (row.Arrive note badge maker) = refl
whose-spent x (row.Wake y note word until) = refl
whose-spent x (row.Hold note word) = refl
whose-spent x (row.Got y note word) = refl
whose-spent x (row.Order context) = refl
whose-spent x (row.Interrupt source at_note badge) = refl

-- the counts, by these lists
abbrev pub course : List ℕ → List (Option ℕ) → List Bool → List ℕ → Course
course misses greatest spent losses = record { misses = misses; greatest = greatest; spent = spent; losses = losses }

pub same_course : (a a' : List ℕ) (b b' : List (Option ℕ)) (c c' : List Bool) (e e' : List ℕ) → a ≡ a' → b ≡ b' → c ≡ c' → e ≡ e' →
    course a b c e ≡ course a' b' c' e'
same_course a a' b b' c c' e e' p q r s = cc

module _ (system : System) where
  abbrev threads : ℕ
  threads = length system.threads

  abbrev notes : ℕ
  notes = length system.notes

  -- before the first row
  pub course-first : course (replicate threads 0) (replicate threads None) (replicate threads false) (replicate notes 0) ≡ course_of system []
  course-first = same_course _ _ _ _ _ _ _ _ (first 0 threads 0) (first None threads 0) (first false threads 0) (first 0 notes 0)
    where
      first : {T : Type 0} (d : T) (n a : ℕ) → replicate n d ≡ map (λ x. d) (range_with_len a n)
      first d zero a = refl
      first d (suc n) a = ap (λ xs. d ∷ xs) (first d n (a + 1))

  -- a row more
  pub course-more : (past : List Row) (r : Row) (found : Option Finding) (job : Option Job) (a : List ℕ) (b : List (Option ℕ)) (c : List Bool) (e : List ℕ) →
      course a b c e ≡ course_of system past →
      found ≡ finding system past r.moment r.what → job ≡ job_of system past r.moment r.what →
      course (counted (missed_by found) a) (raised job b) (marked (spent_by r.what) c) (counted (lost_at found) e) ≡ course_of system (r ∷ past)
  course-more past r found job a b c e is finds ends =
      same_course _ _ _ _ _ _ _ _
      (ap (λ (course : Course). counted (missed_by found) course.misses) is ∙ count-more (λ x. misses system x past) threads (missed_by found)
      ∙ still _ (λ x. capped (misses system x (r ∷ past))) threads 0
      (λ x. ap (λ b. capped (cond b 1 0 + misses system x past)) (whose-miss x found ∙ ap (is_miss x) finds)))
      (ap (λ (course : Course). raised job course.greatest) is ∙ raise-more (λ x. greatest system x past) threads job
      ∙ still _ (λ x. greatest system x (r ∷ past)) threads None (λ x. ap (λ job. or_greater x job (greatest system x past)) ends))
      (ap (λ (course : Course). marked (spent_by r.what) course.spent) is ∙ mark-more (λ x. was_spent x past) threads (spent_by r.what)
      ∙ still _ (λ x. was_spent x (r ∷ past)) threads false (λ x. ap (λ b. b || was_spent x past) (whose-spent x r.what)))
      (ap (λ (course : Course). counted (lost_at found) course.losses) is ∙ count-more (λ x. losses system x past) notes (lost_at found)
      ∙ still _ (λ x. capped (losses system x (r ∷ past))) notes 0
      (λ x. ap (λ b. capped (cond b 1 0 + losses system x past)) (whose-loss x found ∙ ap (is_loss x) finds)))
