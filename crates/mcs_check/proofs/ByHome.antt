-- What the core of a thread says of it: rounds that ended, and the activation of the one under way.
use Rattle.std.proofs.Common.{◌≡◌, ◌∙◌, ℕ, suc, ◌+◌, ◌<◌, Bool, true, false, cond, eqb, nat_lt, List, [], ◌∷◌, length, get_or, replicate, Option, Some, None, refl, sym, ap, subst, arith}
use Rattle.std.specs.Prelude.{slice_index, slice_index_or, ◌==◌, ◌&&◌, not, is_some, if◌then◌else◌}
use Rattle.std.proofs.lemmas.Bool.{cond_both, eqb-true, eq-eqb}
use Rattle.std.proofs.lemmas.Bool.Decides.{nat_tests}
use Rattle.std.proofs.lemmas.List.{get_or-replicate}
use Rattle.mcs_ticks.specs.declared.row.Row.{Row}
use Rattle.mcs_ticks.specs.declared.row.What.{What}
use Rattle.mcs_ticks.specs.declared.row.What.TheVariants as row
use Rattle.mcs_system.specs.System.{System, core_of, thread_part}
use Rattle.mcs_system.specs.WellFormed.{IsWellFormed}
use Rattle.mcs_core.specs.Clock.{clock}
use Rattle.mcs_laws.proofs.Homes.{core_of_context}
use Rattle.mcs_stretch.specs.Stretch.{rows_between}
use Rattle.mcs_verdict.specs.declared.finding.Finding.{Finding}
use Rattle.mcs_verdict.specs.declared.held.Held.{Held}
use Rattle.mcs_verdict.specs.Account.{subject, is_some_of, is_about}
use Rattle.mcs_verdict.specs.Calls.{bits_of}
use Rattle.mcs_verdict.specs.Findings.{UpTo, past_of}
use Rattle.mcs_verdict.specs.Misses.{unended}
use Rattle.mcs_verdict.specs.Rounds.{activated_in, activated_of, begun_after, begun_of, called_after, called_of, first_wait}
use Rattle.mcs_verdict.specs.Standing.{telling, tells}
use Rattle.mcs_verdict.specs.Words.{no_word, held, held_after, held_of, firsts_of}
use Rattle.mcs_verdict.specs.laws.ByCore.{rows_on, word_told, home_of, note_home_of, IsAtHome, ComeHome, CoresAreWatched}
use Rattle.mcs_check_lines.specs.declared.unjudged.Unjudged.{Unjudged}
use Rattle.mcs_check_lines.specs.Deadlines.{has_deadline}
use Rattle.mcs_check.specs.declared.core_watch.CoreWatch.{CoreWatch}
use Rattle.mcs_check.specs.Judged.{by_then, ended, ends, unjudged}
use Rattle.mcs_check.specs.stored.ByCore.{before_on}
use Rattle.mcs_check.specs.stored.Found.{before_of}
use Rattle.mcs_check.specs.stored.Rounds.{AreWatched}
use Rattle.mcs_check.specs.stored.Threads.{threads_of}
use Rattle.mcs_check.proofs.ByCore.{unended-home}
use Rattle.mcs_check.proofs.Cores.{home-known, up-on}
use Rattle.mcs_check.proofs.EndedRounds.{ended-more}
use Rattle.mcs_check.proofs.Homes.{come-home, on-core, waits-home}

-- a row that changes another word
held_after-other : (note m : ℕ) (what : What) (before : Held) → (word_told what ≡ Some note → ⊥) → held_after note m what before ≡ before
held_after-other note m what before other = grind (arith, nat_tests, other)

about-some : (s : Option ℕ) (thread : ℕ) → is_some_of s thread ≡ true → s ≡ Some thread
about-some None thread e = cc
about-some (Some x) thread e = ap Some (eqb-true x thread e)

-- a row about another thread
tells-other : (thread : ℕ) (what : What) → is_about thread what ≡ false → tells thread what ≡ false
tells-other thread what e = grind (arith, nat_tests)

begun-other : (waits bits : Option ℕ) (thread m : ℕ) (what : What) (begun : Option ℕ) → is_about thread what ≡ false → begun_after waits bits thread m what begun ≡ begun
begun-other waits bits thread m what begun e = grind (arith, nat_tests)

called-other : (firsts : List Held) (waits bits : Option ℕ) (thread : ℕ) (past : List Row) (m : ℕ) (what : What) (begun before : Option ℕ) → is_about thread what ≡ false
    → called_after firsts waits bits thread past m what begun before ≡ before
called-other firsts waits bits thread past m what begun before e = grind (arith, nat_tests)

-- a word that is taken is the same in some of the rows
called-same : (firsts : List Held) (waits bits : Option ℕ) (thread : ℕ) (some all : List Row) (m : ℕ) (what : What) (begun before : Option ℕ)
    → ((n : ℕ) → word_told what ≡ Some n → held_of firsts n some ≡ held_of firsts n all)
    → called_after firsts waits bits thread some m what begun before ≡ called_after firsts waits bits thread all m what begun before
called-same firsts waits bits thread some all m (row.Got x note word) begun before same = rw (same note refl) refl
called-same firsts waits bits thread some all m (row.Release x) begun before same = refl
called-same firsts waits bits thread some all m (row.Run x) begun before same = refl
called-same firsts waits bits thread some all m (row.Stop x cause charged until) begun before same = refl
called-same firsts waits bits thread some all m (row.Signal x n badge) begun before same = refl
called-same firsts waits bits thread some all m (row.Arrive n badge maker) begun before same = refl
called-same firsts waits bits thread some all m (row.Wake x n word until) begun before same = refl
called-same firsts waits bits thread some all m (row.Hold n word) begun before same = refl
called-same firsts waits bits thread some all m (row.Round x number response) begun before same = refl
called-same firsts waits bits thread some all m (row.Order context) begun before same = refl
called-same firsts waits bits thread some all m (row.Interrupt source n badge) begun before same = refl

past-on : (c : ℕ) (past rows : List Row) → past_of (rows_on c past) (rows_on c rows) ≡ rows_on c (past_of past rows)
past-on c past [] = refl
past-on c past (r ∷ rows) = grind (arith, past-on c (r ∷ past) rows)

zero-more : (n : ℕ) → 0 + n ≡ n
zero-more n = omega arith

-- a row that ends a round is one of its thread
ends-about : (n : ℕ) (what : What) → ends n what ≡ true → subject what ≡ Some n
ends-about n (row.Round x number response) e = ap Some (eqb-true x n e)
ends-about n (row.Release x) e = cc
ends-about n (row.Run x) e = cc
ends-about n (row.Stop x why charged until) e = cc
ends-about n (row.Signal x m badge) e = cc
ends-about n (row.Arrive m badge maker) e = cc
ends-about n (row.Wake x m word until) e = cc
ends-about n (row.Hold m word) e = cc
ends-about n (row.Got x m word) e = cc
ends-about n (row.Order context) e = cc
ends-about n (row.Interrupt source m badge) e = cc

-- the round under way is the same by some rows and by all
record Same (system : System) (thread : ℕ) (some all : List Row) : Type 0 where
  pub telling_is : telling thread some ≡ telling thread all
  pub begun_is : begun_of system thread some ≡ begun_of system thread all
  pub called_is : called_of system thread some ≡ called_of system thread all

module _ (system : System) where
  abbrev firsts : List Held
  firsts = firsts_of system

  -- rows at home, the latest first
  abbrev AreHome : List Row → Type 0
  AreHome [] = Unit {0}
  AreHome (r ∷ past) = IsAtHome system r × AreHome past

  home-past : (past rows : List Row) → AreHome past → ComeHome system past rows → AreHome (past_of past rows)
  home-past past [] h come = h
  home-past past (r ∷ rows) h come = home-past (r ∷ past) rows (come.0, h) come.2

  -- the word of a notification of the core
  held-on : (first : Held) (c note : ℕ) (past : List Row) → note_home_of system note ≡ c → AreHome past
      → held first note (rows_on c past) ≡ held first note past
  held-on first c note [] home h = refl
  held-on first c note (r ∷ past) home h =
      let before = held-on first c note past home h.1 in
      cond_both (eqb r.core c) (r ∷ rows_on c past) (rows_on c past) (λ rows. held first note rows ≡ held first note (r ∷ past))
      (λ e. ap (held_after note r.moment r.what) before)
      (λ e. before ∙ sym (held_after-other note r.moment r.what (held first note past) (λ t. grind (arith, nat_tests, h.0.note note t))))

  held_of-on : (c note : ℕ) (past : List Row) → note_home_of system note ≡ c → AreHome past → held_of firsts note (rows_on c past) ≡ held_of firsts note past
  held_of-on c note past home h =
      ap (λ (held : Held). cond (nat_lt note (length firsts)) held no_word) (held-on (get_or firsts note no_word) c note past home h)

  -- a row about another thread
  other : (thread : ℕ) (r : Row) (past : List Row) → is_about thread r.what ≡ false → Same system thread (r ∷ past) past
  other thread r past e =
      let part = thread_part system thread in
      record {
        telling_is = rw (tells-other thread r.what e) refl;
        begun_is = begun-other (first_wait part) (bits_of part) thread r.moment r.what (begun_of system thread past) e;
        called_is = called-other firsts (first_wait part) (bits_of part) thread past r.moment r.what (begun_of system thread past) (called_of system thread past) e;
      }

  trans : (thread : ℕ) (a b d : List Row) → Same system thread a b → Same system thread b d → Same system thread a d
  trans thread a b d f g = record {
    telling_is = f.telling_is ∙ g.telling_is;
    begun_is = f.begun_is ∙ g.begun_is;
    called_is = f.called_is ∙ g.called_is;
  }

  back : (thread : ℕ) (a b : List Row) → Same system thread a b → Same system thread b a
  back thread a b f = record { telling_is = sym f.telling_is; begun_is = sym f.begun_is; called_is = sym f.called_is }

  -- a row of both
  both : (thread : ℕ) (r : Row) (some all : List Row) → ((n : ℕ) → word_told r.what ≡ Some n → held_of firsts n some ≡ held_of firsts n all)
      → Same system thread some all → Same system thread (r ∷ some) (r ∷ all)
  both thread r some all words f =
      let part = thread_part system thread in
      let waits = first_wait part in
      let bits = bits_of part in
      record {
        telling_is = ap (λ rows. cond (tells thread r.what) (r ∷ rows) rows) f.telling_is;
        begun_is = ap (begun_after waits bits thread r.moment r.what) f.begun_is;
        called_is =
            called-same firsts waits bits thread some all r.moment r.what (begun_of system thread some) (called_of system thread some) words
            ∙ ap (λ begun. called_after firsts waits bits thread all r.moment r.what begun (called_of system thread some)) f.begun_is
            ∙ ap (called_after firsts waits bits thread all r.moment r.what (begun_of system thread all)) f.called_is;
      }

  -- the rows of the thread's core
  same-on : (c thread : ℕ) (past : List Row) → home_of system thread ≡ c → AreHome past → Same system thread (rows_on c past) past
  same-on c thread [] home h = record { telling_is = refl; begun_is = refl; called_is = refl }
  same-on c thread (r ∷ past) home h = by (is_about thread r.what) refl (same-on c thread past home h.1)
    where
      some : List Row
      some = rows_on c past

      by : (a : Bool) → is_about thread r.what ≡ a → Same system thread some past → Same system thread (rows_on c (r ∷ past)) (r ∷ past)
      by true a before =
          let at : r.core ≡ c = sym (h.0.thread thread (about-some (subject r.what) thread a)) ∙ home in
          rw (eq-eqb r.core c at) (both thread r some past (λ n t. held_of-on c n past (h.0.note n t ∙ at) h.1) before)
      by false a before =
          let rest = back thread (r ∷ past) past (other thread r past a) in
          cond_both (eqb r.core c) (r ∷ some) some (λ rows. Same system thread rows (r ∷ past))
          (λ e. trans thread (r ∷ some) some (r ∷ past) (other thread r some a) (trans thread some past (r ∷ past) before rest))
          (λ e. trans thread some past (r ∷ past) before rest)

  activated-same : (thread m : ℕ) (some all : List Row) → Same system thread some all → activated_of system thread some m ≡ activated_of system thread all m
  activated-same thread m some all f = ap (activated_in system thread some m) f.begun_is ∙ by (begun_of system thread all)
    where
      by : (begun : Option ℕ) → activated_in system thread some m begun ≡ activated_in system thread all m begun
      by None = refl
      by (Some begun) = cc (f.called_is, f.telling_is)

  ended-on : (c n : ℕ) (past : List Row) → home_of system n ≡ c → AreHome past → ended n (rows_on c past) ≡ ended n past
  ended-on c n [] home h = refl
  ended-on c n (r ∷ past) home h = by (ends n r.what) refl (ended-on c n past home h.1)
    where
      by : (b : Bool) → ends n r.what ≡ b → ended n (rows_on c past) ≡ ended n past → ended n (rows_on c (r ∷ past)) ≡ ended n (r ∷ past)
      by true e before =
          let at : r.core ≡ c = sym (h.0.thread n (ends-about n r.what e)) ∙ home in
          rw (eq-eqb r.core c at)
          (ended-more n r (rows_on c past) ∙ ap (λ k. cond (ends n r.what) 1 0 + k) before ∙ sym (ended-more n r past))
      by false e before =
          let none : ended n (r ∷ past) ≡ ended n past = ended-more n r past ∙ ap (λ b. cond b 1 0 + ended n past) e ∙ zero-more (ended n past) in
          let own : ended n (r ∷ rows_on c past) ≡ ended n (rows_on c past) =
          ended-more n r (rows_on c past) ∙ ap (λ b. cond b 1 0 + ended n (rows_on c past)) e ∙ zero-more (ended n (rows_on c past)) in
          cond_both (eqb r.core c) (r ∷ rows_on c past) (rows_on c past) (λ rows. ended n rows ≡ ended n (r ∷ past))
          (λ e. own ∙ before ∙ sym none) (λ e. before ∙ sym none)

  -- up to the horizon
  module _ (well : IsWellFormed system) (watched : CoresAreWatched) (horizon thread : ℕ) where
    abbrev all : List Row
    all = before_of system (suc horizon)

    abbrev alone : List Row
    alone = before_on system (home_of system thread) (suc horizon)

    alone-is : alone ≡ rows_on (home_of system thread) all
    alone-is =
        ap (past_of []) (sym (on-core system well (home_of system thread) (suc horizon) (core_of_context system well (thread_part system thread).context)))
        ∙ past-on (home_of system thread) [] (clock system (suc horizon)).rows

    are-home : AreHome all
    are-home = home-past [] (clock system (suc horizon)).rows tt (come-home system well (suc horizon))

    pub ended-home : ended thread alone ≡ ended thread all
    ended-home = ap (ended thread) alone-is ∙ ended-on (home_of system thread) thread all refl are-home

    activated-home : activated_of system thread alone horizon ≡ activated_of system thread all horizon
    activated-home =
        ap (λ past. activated_of system thread past horizon) alone-is
        ∙ activated-same thread horizon (rows_on (home_of system thread) all) all (same-on (home_of system thread) thread all refl are-home)

    pub unjudged-home : unjudged system alone horizon thread ≡ unjudged system all horizon thread
    unjudged-home =
        let part = thread_part system thread in
        let made : ℕ → Option Finding → Option ℕ → Option Unjudged = λ rounds found activated.
        if has_deadline part && (rounds == 0 && not (is_some found))
        then Some (record { moment = horizon; core = core_of system part; thread = thread; deadline = part.deadline; activated = by_then horizon (first_wait part) activated })
        else None in
        let found = unended-home system well (come-home system well) (on-core system well) watched (waits-home system well) horizon thread in
        ap (λ n. made n (unended system alone horizon thread) (activated_of system thread alone horizon)) ended-home
        ∙ ap (λ f. made (ended thread all) f (activated_of system thread alone horizon)) found
        ∙ ap (λ a. made (ended thread all) (unended system all horizon thread) a) activated-home

  -- what the core of a thread kept of its rows
  module _ (well : IsWellFormed system) (allowed : List Bool) (from horizon thread c : ℕ) (watches : List CoreWatch) (own : CoreWatch)
      (are : AreWatched system allowed from (replicate system.cores (horizon + 1)) watches) (home : c ≡ home_of system thread) (is : own ≡ slice_index_or watches c own) where
    pub kept-at-home : (own.watch ≡ threads_of system (before_on system (home_of system thread) (suc horizon))) × UpTo horizon (before_on system (home_of system thread) (suc horizon))
    kept-at-home =
        let l : c < system.cores = (let k = home-known system allowed well thread in omega arith) in
        let its = are.each c own l in
        let to : slice_index (replicate system.cores (horizon + 1)) c ≡ suc horizon = get_or-replicate system.cores c (horizon + 1) 0 l ∙ (let e : horizon + 1 ≡ suc horizon = omega arith in e) in
        subst (λ n. (own.watch ≡ threads_of system (before_on system n (suc horizon))) × UpTo horizon (before_on system n (suc horizon))) home
        (ap (λ (w : CoreWatch). w.watch) is ∙ its.seen.watch ∙ ap (λ n. threads_of system (past_of [] (rows_between system c 0 n))) to, up-on system c horizon)
