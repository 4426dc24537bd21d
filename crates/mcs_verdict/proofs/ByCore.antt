-- What is found of a thread, or of a notification, is that of the rows of its core.
use Rattle.std.proofs.Common.{◌≡◌, ℕ, Bool, true, false, cond, eqb, nat_lt, List, [], ◌∷◌, length, get_or, Option, Some, None, refl, sym, ap, ◌∙◌, arith}
use Rattle.std.proofs.lemmas.Bool.{cond_both, eqb-true, eq-eqb}
use Rattle.std.proofs.lemmas.Bool.Decides.{nat_tests}
use Rattle.std.proofs.lemmas.List.Elements.{filter-append}
use Rattle.mcs_ticks.specs.declared.row.Row.{Row}
use Rattle.mcs_ticks.specs.declared.row.What.{What}
use Rattle.mcs_ticks.specs.declared.row.What.TheVariants as row
use Rattle.mcs_system.specs.System.{System, thread_part}
use Rattle.mcs_verdict.specs.declared.finding.Finding.{Finding}
use Rattle.mcs_verdict.specs.declared.finding.Finding.TheVariants.{Lost}
use Rattle.mcs_verdict.specs.declared.finding.Found.{Found}
use Rattle.mcs_verdict.specs.declared.held.Held.{Held}
use Rattle.mcs_verdict.specs.Standing.{tells, telling}
use Rattle.mcs_verdict.specs.Calls.{first_wait, bits_of}
use Rattle.mcs_verdict.specs.Parts.{free_after, free_of}
use Rattle.mcs_verdict.specs.Rounds.{begun_after, begun_of, called_after, called_of, activated_in, activated_of, rounds_after, rounds_of}
use Rattle.mcs_verdict.specs.Jobs.{preemptions_after, preemptions_of, job}
use Rattle.mcs_verdict.specs.Words.{no_word, held, held_after, held_of, leaves, firsts_of}
use Rattle.mcs_verdict.specs.Misses.{missed, overdue_since, overdue, unended, word_for}
use Rattle.mcs_verdict.specs.Due.{calls_each, untaken_by, untaken}
use Rattle.mcs_verdict.specs.Findings.{UpTo, past_of, found_at, finding, found_in}
use Rattle.mcs_verdict.specs.Account.{subject, is_some_of, is_about}
use Rattle.mcs_verdict.specs.laws.ByCore.{rows_on, found_on, word_told, home_of, note_home_of, IsAtHome, ComeHome, WaitsAtHome, CoresAreWatched}

-- a row that changes another word
held_after-other : (note m : ℕ) (what : What) (before : Held) → (word_told what ≡ Some note → ⊥) → held_after note m what before ≡ before
held_after-other note m what before other = grind (arith, nat_tests, other)

about-some : (s : Option ℕ) (thread : ℕ) → is_some_of s thread ≡ true → s ≡ Some thread
about-some None thread e = cc
about-some (Some x) thread e = ap Some (eqb-true x thread e)

-- a row about another thread
tells-other : (thread : ℕ) (what : What) → is_about thread what ≡ false → tells thread what ≡ false
tells-other thread what e = grind (arith, nat_tests)

begun-other : (waits bits : Option ℕ) (thread m : ℕ) (what : What) (begun : Option ℕ) → is_about thread what ≡ false → begun_after waits bits thread m what begun ≡ begun
begun-other waits bits thread m what begun e = grind (arith, nat_tests)

called-other : (firsts : List Held) (waits bits : Option ℕ) (thread : ℕ) (past : List Row) (m : ℕ) (what : What) (begun before : Option ℕ) → is_about thread what ≡ false
    → called_after firsts waits bits thread past m what begun before ≡ before
called-other firsts waits bits thread past m what begun before e = grind (arith, nat_tests)

free-other : (thread m : ℕ) (what : What) (before : ℕ) → is_about thread what ≡ false → free_after thread m what before ≡ before
free-other thread m what before e = grind (arith, nat_tests)

preemptions-other : (thread : ℕ) (begun : Option ℕ) (what : What) (n : ℕ) → is_about thread what ≡ false → preemptions_after thread begun what n ≡ n
preemptions-other thread begun what n e = grind (arith, nat_tests)

rounds-other : (thread : ℕ) (what : What) (before : ℕ) → is_about thread what ≡ false → rounds_after thread what before ≡ before
rounds-other thread what before e = grind (arith, nat_tests)

-- a word that is taken is the same in some of the rows
called-same : (firsts : List Held) (waits bits : Option ℕ) (thread : ℕ) (some all : List Row) (m : ℕ) (what : What) (begun before : Option ℕ)
    → ((n : ℕ) → word_told what ≡ Some n → held_of firsts n some ≡ held_of firsts n all)
    → called_after firsts waits bits thread some m what begun before ≡ called_after firsts waits bits thread all m what begun before
called-same firsts waits bits thread some all m (row.Got x note word) begun before same = rw (same note refl) refl
called-same firsts waits bits thread some all m (row.Release x) begun before same = refl
called-same firsts waits bits thread some all m (row.Run x) begun before same = refl
called-same firsts waits bits thread some all m (row.Stop x cause charged until) begun before same = refl
called-same firsts waits bits thread some all m (row.Signal x n badge) begun before same = refl
called-same firsts waits bits thread some all m (row.Arrive n badge maker) begun before same = refl
called-same firsts waits bits thread some all m (row.Wake x n word until) begun before same = refl
called-same firsts waits bits thread some all m (row.Hold n word) begun before same = refl
called-same firsts waits bits thread some all m (row.Round x number response) begun before same = refl
called-same firsts waits bits thread some all m (row.Order context) begun before same = refl
called-same firsts waits bits thread some all m (row.Interrupt source n badge) begun before same = refl

-- what is known of a thread by some rows is what is known by all
record Same (system : System) (thread : ℕ) (some all : List Row) : Type 0 where
  pub telling_is : telling thread some ≡ telling thread all
  pub begun_is : begun_of system thread some ≡ begun_of system thread all
  pub called_is : called_of system thread some ≡ called_of system thread all
  pub free_is : free_of system thread some ≡ free_of system thread all
  pub preemptions_is : preemptions_of system thread some ≡ preemptions_of system thread all
  pub rounds_is : rounds_of thread some ≡ rounds_of thread all

module _ (system : System) where
  abbrev firsts : List Held
  firsts = firsts_of system

  -- rows at home, the latest first
  abbrev AreHome : List Row → Type 0
  AreHome [] = Unit {0}
  AreHome (r ∷ past) = IsAtHome system r × UpTo r.moment past × AreHome past

  -- the word of a notification of the core
  held-on : (first : Held) (c note : ℕ) (past : List Row) → note_home_of system note ≡ c → AreHome past
      → held first note (rows_on c past) ≡ held first note past
  held-on first c note [] home h = refl
  held-on first c note (r ∷ past) home h =
      let before = held-on first c note past home h.2 in
      cond_both (eqb r.core c) (r ∷ rows_on c past) (rows_on c past) (λ rows. held first note rows ≡ held first note (r ∷ past))
      (λ e. ap (held_after note r.moment r.what) before)
      (λ e. before ∙ sym (held_after-other note r.moment r.what (held first note past) (λ t. grind (arith, nat_tests, h.0.note note t))))

  held_of-on : (c note : ℕ) (past : List Row) → note_home_of system note ≡ c → AreHome past → held_of firsts note (rows_on c past) ≡ held_of firsts note past
  held_of-on c note past home h =
      ap (λ (held : Held). cond (nat_lt note (length firsts)) held no_word) (held-on (get_or firsts note no_word) c note past home h)

  -- a row about another thread changes nothing of this one
  other : (thread : ℕ) (r : Row) (past : List Row) → is_about thread r.what ≡ false → Same system thread (r ∷ past) past
  other thread r past e =
      let part = thread_part system thread in
      let waits = first_wait part in
      let bits = bits_of part in
      record {
        telling_is = rw (tells-other thread r.what e) refl;
        begun_is = begun-other waits bits thread r.moment r.what (begun_of system thread past) e;
        called_is = called-other firsts waits bits thread past r.moment r.what (begun_of system thread past) (called_of system thread past) e;
        free_is = free-other thread r.moment r.what (free_of system thread past) e;
        preemptions_is = preemptions-other thread (begun_of system thread past) r.what (preemptions_of system thread past) e;
        rounds_is = rounds-other thread r.what (rounds_of thread past) e;
      }

  trans : (thread : ℕ) (a b d : List Row) → Same system thread a b → Same system thread b d → Same system thread a d
  trans thread a b d f g =
      record {
        telling_is = f.telling_is ∙ g.telling_is;
        begun_is = f.begun_is ∙ g.begun_is;
        called_is = f.called_is ∙ g.called_is;
        free_is = f.free_is ∙ g.free_is;
        preemptions_is = f.preemptions_is ∙ g.preemptions_is;
        rounds_is = f.rounds_is ∙ g.rounds_is;
      }

  back : (thread : ℕ) (a b : List Row) → Same system thread a b → Same system thread b a
  back thread a b f =
      record {
        telling_is = sym f.telling_is;
        begun_is = sym f.begun_is;
        called_is = sym f.called_is;
        free_is = sym f.free_is;
        preemptions_is = sym f.preemptions_is;
        rounds_is = sym f.rounds_is;
      }

  -- a row of both
  both : (thread : ℕ) (r : Row) (some all : List Row) → ((n : ℕ) → word_told r.what ≡ Some n → held_of firsts n some ≡ held_of firsts n all)
      → Same system thread some all → Same system thread (r ∷ some) (r ∷ all)
  both thread r some all words f =
      let part = thread_part system thread in
      let waits = first_wait part in
      let bits = bits_of part in
      record {
        telling_is = ap (λ rows. cond (tells thread r.what) (r ∷ rows) rows) f.telling_is;
        begun_is = ap (begun_after waits bits thread r.moment r.what) f.begun_is;
        called_is =
            called-same firsts waits bits thread some all r.moment r.what (begun_of system thread some) (called_of system thread some) words
            ∙ ap (λ begun. called_after firsts waits bits thread all r.moment r.what begun (called_of system thread some)) f.begun_is
            ∙ ap (called_after firsts waits bits thread all r.moment r.what (begun_of system thread all)) f.called_is;
        free_is = ap (free_after thread r.moment r.what) f.free_is;
        preemptions_is =
            ap (λ begun. preemptions_after thread begun r.what (preemptions_of system thread some)) f.begun_is
            ∙ ap (preemptions_after thread (begun_of system thread all) r.what) f.preemptions_is;
        rounds_is = ap (rounds_after thread r.what) f.rounds_is;
      }

  -- a thread of the core
  same-on : (c thread : ℕ) (past : List Row) → home_of system thread ≡ c → AreHome past → Same system thread (rows_on c past) past
  same-on c thread [] home h = record { telling_is = refl; begun_is = refl; called_is = refl; free_is = refl; preemptions_is = refl; rounds_is = refl }
  same-on c thread (r ∷ past) home h = by (is_about thread r.what) refl (same-on c thread past home h.2)
    where
      some : List Row
      some = rows_on c past

      by : (a : Bool) → is_about thread r.what ≡ a → Same system thread some past → Same system thread (rows_on c (r ∷ past)) (r ∷ past)
      by true a before =
          let at : r.core ≡ c = sym (h.0.thread thread (about-some (subject r.what) thread a)) ∙ home in
          rw (eq-eqb r.core c at) (both thread r some past (λ n t. held_of-on c n past (h.0.note n t ∙ at) h.2) before)
      by false a before =
          let rest = back thread (r ∷ past) past (other thread r past a) in
          cond_both (eqb r.core c) (r ∷ some) some (λ rows. Same system thread rows (r ∷ past))
          (λ e. trans thread (r ∷ some) some (r ∷ past) (other thread r some a) (trans thread some past (r ∷ past) before rest))
          (λ e. trans thread some past (r ∷ past) before rest)

  activated-same : (thread m : ℕ) (some all : List Row) → Same system thread some all → activated_of system thread some m ≡ activated_of system thread all m
  activated-same thread m some all f = ap (activated_in system thread some m) f.begun_is ∙ by (begun_of system thread all)
    where
      by : (begun : Option ℕ) → activated_in system thread some m begun ≡ activated_in system thread all m begun
      by None = refl
      by (Some begun) = cc (f.called_is, f.telling_is)

  job-same : (thread moment number : ℕ) (some all : List Row) → Same system thread some all → job system some moment thread number ≡ job system all moment thread number
  job-same thread moment number some all f =
      cc (activated-same thread moment some all f, f.begun_is, f.free_is, f.preemptions_is, f.telling_is)

  overdue-same : (thread horizon : ℕ) (some all : List Row) → Same system thread some all → overdue system some horizon thread ≡ overdue system all horizon thread
  overdue-same thread horizon some all f =
      ap (overdue_since system some horizon thread) (activated-same thread horizon some all f) ∙ by (activated_of system thread all horizon)
    where
      by : (activated : Option ℕ) → overdue_since system some horizon thread activated ≡ overdue_since system all horizon thread activated
      by None = refl
      by (Some activated) = cc (f.free_is, f.rounds_is, f.telling_is)

  job-on : (c thread moment number : ℕ) (past : List Row) → home_of system thread ≡ c → AreHome past
      → job system (rows_on c past) moment thread number ≡ job system past moment thread number
  job-on c thread moment number past home h = job-same thread moment number (rows_on c past) past (same-on c thread past home h)

  -- what a row of the core tells
  finding-on : (c moment : ℕ) (past : List Row) (what : What) → ((x : ℕ) → subject what ≡ Some x → home_of system x ≡ c)
      → ((n : ℕ) → word_told what ≡ Some n → note_home_of system n ≡ c) → AreHome past
      → finding system (rows_on c past) moment what ≡ finding system past moment what
  finding-on c moment past (row.Release x) thread note h = refl
  finding-on c moment past (row.Run x) thread note h = refl
  finding-on c moment past (row.Stop x cause charged until) thread note h = refl
  finding-on c moment past (row.Signal x n badge) thread note h = refl
  finding-on c moment past (row.Arrive n badge maker) thread note h = refl
  finding-on c moment past (row.Wake x n word until) thread note h = refl
  finding-on c moment past (row.Hold n word) thread note h =
      ap (λ (held : Held). cond (leaves held.word word) (Some (Lost n word)) None) (held_of-on c n past (note n refl) h)
  finding-on c moment past (row.Got x n word) thread note h = refl
  finding-on c moment past (row.Round x number response) thread note h =
      ap (missed (thread_part system x).deadline) (job-on c x moment number past (thread x refl) h)
  finding-on c moment past (row.Order context) thread note h = refl
  finding-on c moment past (row.Interrupt source n badge) thread note h = refl

  found_at-on : (c moment core : ℕ) (finding : Option Finding)
      → found_on c (found_at moment core finding) ≡ cond (eqb core c) (found_at moment core finding) []
  found_at-on c moment core finding = grind arith

  found-on : (c : ℕ) (past rows : List Row) → AreHome past → ComeHome system past rows
      → found_in system (rows_on c past) (rows_on c rows) ≡ found_on c (found_in system past rows)
  found-on c past [] h come = refl
  found-on c past (r ∷ rows) h come =
      let told = found_at r.moment r.core (finding system past r.moment r.what) in
      grind (
        arith,
        nat_tests,
        found-on c (r ∷ past) rows (come.0, come.1, h) come.2,
        found_at-on c r.moment r.core (finding system past r.moment r.what),
        filter-append (λ (f : Found). eqb f.core c) told (found_in system (r ∷ past) rows),
        λ (at : r.core ≡ c). finding-on c r.moment past r.what (λ x t. come.0.thread x t ∙ at) (λ n t. come.0.note n t ∙ at) h,
      )

  past-on : (c : ℕ) (past rows : List Row) → past_of (rows_on c past) (rows_on c rows) ≡ rows_on c (past_of past rows)
  past-on c past [] = refl
  past-on c past (r ∷ rows) = grind (arith, past-on c (r ∷ past) rows)

  come-home : (past rows : List Row) → AreHome past → ComeHome system past rows → AreHome (past_of past rows)
  come-home past [] h come = h
  come-home past (r ∷ rows) h come = come-home (r ∷ past) rows (come.0, come.1, h) come.2

  word-on : (c : ℕ) (waits : Option ℕ) (past : List Row) → ((n : ℕ) → waits ≡ Some n → note_home_of system n ≡ c) → AreHome past
      → word_for firsts waits (rows_on c past) ≡ word_for firsts waits past
  word-on c None past home h = refl
  word-on c (Some n) past home h = held_of-on c n past (home n refl) h

  unended-on : (thread horizon : ℕ) (past : List Row) → WaitsAtHome system thread → AreHome past
      → unended system (rows_on (home_of system thread) past) horizon thread ≡ unended system past horizon thread
  unended-on thread horizon past waits h =
      let c = home_of system thread in
      let same = same-on c thread past refl h in
      cc (
        overdue-same thread horizon (rows_on c past) past same,
        word-on c (first_wait (thread_part system thread)) past waits h,
        same.telling_is,
      )

  untaken-on : (note horizon : ℕ) (past : List Row) → AreHome past
      → untaken system (rows_on (note_home_of system note) past) horizon note ≡ untaken system past horizon note
  untaken-on note horizon past h =
      ap (λ (held : Held). untaken_by horizon note held held.due (calls_each note held.word system.threads)) (held_of-on (note_home_of system note) note past refl h)

pub cores_watched : CoresAreWatched
cores_watched system = (
  λ rows c come. found-on system c [] rows tt come,
  λ rows horizon thread come up waits.
      ap (λ past. unended system past horizon thread) (past-on system (home_of system thread) [] rows)
      ∙ unended-on system thread horizon (past_of [] rows) waits (come-home system [] rows tt come),
  λ rows horizon note come up.
      ap (λ past. untaken system past horizon note) (past-on system (note_home_of system note) [] rows)
      ∙ untaken-on system note horizon (past_of [] rows) (come-home system [] rows tt come),
)
