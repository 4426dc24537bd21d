-- The word of a notification, as the rows of a schedule tell it, goes along with the one that its core has.
use Rattle.std.proofs.Common.{◌≡◌, ◌≢◌, ℕ, zero, suc, ◌+◌, ◌<◌, ◌≤◌, ◌⊎◌, inl, inr, Bool, true, false, cond, ◌==◌, List, [], ◌∷◌, ◌++◌, length, get_or, slice_get, Option, Some, None, refl, sym, ap, subst, ◌∙◌, arith}
use Rattle.std.specs.Prelude.{filter, flat_map, map}
use Rattle.std.specs.List.{AllByRecursion, range_with_len}
use Rattle.std.proofs.lemmas.Bool.{cases_lt}
use Rattle.std.proofs.lemmas.List.{length-map, get_or-map}
use Rattle.mcs_ticks.specs.Queue.{by_priority}
use Rattle.mcs_ticks.specs.declared.row.Row.{Row}
use Rattle.mcs_ticks.specs.declared.row.What.{What}
use Rattle.mcs_ticks.specs.declared.row.What.TheVariants as row
use Rattle.mcs_notify.specs.Note.{Note, quiet_note, waited}
use Rattle.mcs_script.specs.declared.item.Item.{Item}
use Rattle.mcs_script.specs.declared.item.Item.TheVariants.{Compute, Signal, Wait, Yield, On, Spin, Enter, Leave}
use Rattle.mcs_mail.specs.declared.mail.Mail.{Mail}
use Rattle.mcs_system.specs.declared.part.NotePart.{NotePart}
use Rattle.mcs_system.specs.declared.part.ThreadPart.{ThreadPart}
use Rattle.mcs_system.specs.System.{System, TakesTime, no_note, thread_part, note_part, core_of, is_server}
use Rattle.mcs_system.specs.WellFormed.{IsWellFormed}
use Rattle.mcs_system.proofs.Linked.{takes_time}
use Rattle.mcs_core.specs.Core.{Core, note_of, opening_note}
use Rattle.mcs_core.specs.Turn as turns
use Rattle.mcs_core.specs.Turn.{Turn, stamped}
use Rattle.mcs_core.specs.Clock as clocks
use Rattle.mcs_core.proofs.Clock.{core_shown-first, turn_of-kept, core_shown-kept, rows-clock}
use Rattle.mcs_verdict.specs.declared.held.Held.{Held}
use Rattle.mcs_verdict.specs.Findings.{past_of}
use Rattle.mcs_verdict.specs.Calls.{waited_on, first_wait}
use Rattle.mcs_verdict.specs.Words.{no_word, held_with, gave, taken, held_after, firsts_from}
use Rattle.mcs_verdict_laws.proofs.Fits.{first_held, held_in}
use Rattle.mcs_verdict_laws.proofs.Finishing.{item_home}
use Rattle.mcs_verdict_laws.proofs.Steps.{contrary}
use Rattle.mcs_verdict_laws.proofs.Entering.{equal}
use Rattle.mcs_verdict_laws.proofs.Signals.{wait_home, whole-turn}
use Rattle.mcs_verdict_laws.proofs.Words.{word_after, IsRight, Words, IsSound, word_in, Sounds, plain-sounds, sounds-then, posts-sounds, waits-sounds, enters_as-sounds, frees-sounds, IsStill, still-words, still-append, plain-still, posts-still, waits-still, enters_as-still, frees-still}
use Rattle.mcs_verdict_laws.proofs.Homes.{mails-home, home_known, runs-home}

-- the word of a notification is what the rows tell
held-next : (note m : ℕ) (what : What) (before : Held) → (held_after note m what before).word ≡ word_after note what before.word
held-next note m (row.Hold n w) before = by (n == note)
  where
    by : (b : Bool) → (cond b (held_with m w before) before).word ≡ cond b w before.word
    by true = refl
    by false = refl
held-next note m (row.Got y n w) before = by (n == note)
  where
    by : (b : Bool) → (cond b (taken w before) before).word ≡ cond b 0 before.word
    by true = refl
    by false = refl
held-next note m (row.Wake y n w until) before = by (n == note)
  where
    by : (b : Bool) → (cond b (gave w before) before).word ≡ before.word
    by true = refl
    by false = refl
held-next note m (row.Release y) before = refl
held-next note m (row.Run y) before = refl
held-next note m (row.Stop y cause charged until) before = refl
held-next note m (row.Signal y n badge) before = refl
held-next note m (row.Arrive n badge maker) before = refl
held-next note m (row.Round y number response) before = refl
held-next note m (row.Order context) before = refl
held-next note m (row.Interrupt source at_note badge) before = refl

-- the word at first
first-from : (n y : ℕ) (threads : List ThreadPart) (parts : List NotePart) → y < length parts
    → (get_or (firsts_from n threads parts) y no_word).word ≡ (get_or parts y no_note).word
first-from n y threads [] h = absurd (omega (arith, h))
first-from n zero threads (part ∷ parts) h = refl
first-from n (suc y) threads (part ∷ parts) h = first-from (suc n) y threads parts (omega (arith, h))

first-word : (system : System) (note : ℕ) → note < length system.notes → (first_held system note).word ≡ (note_part system note).word
first-word system note h = first-from 0 note system.threads system.notes h

module _ (system : System) (note : ℕ) where
  abbrev pub AreRight : List Row → List Row → Type 0
  AreRight past [] = Unit {0}
  AreRight past (r ∷ rows) = IsRight note (held_in system note past).word r.what × AreRight (r ∷ past) rows

  -- the later ones of them
  pub right-later : (past rows more : List Row) → AreRight past (rows ++ more) → AreRight (past_of past rows) more
  right-later past [] more all = all
  right-later past (r ∷ rows) more all = right-later (r ∷ past) rows more all.1

  -- rows by which the word becomes this one
  record Leaves (past rows : List Row) (last : ℕ) : Type 0 where
    right : AreRight past rows
    word : (held_in system note (past_of past rows)).word ≡ last

  leaves-append : (past rows more : List Row) (middle last : ℕ) → Leaves past rows middle → Leaves (past_of past rows) more last
      → Leaves past (rows ++ more) last
  leaves-append past [] more middle last first second = second
  leaves-append past (r ∷ rows) more middle last first second =
      let rest = leaves-append (r ∷ past) rows more middle last record { right = first.right.1; word = first.word } second in
      record { right = (first.right.0, rest.right); word = rest.word }

  leaves-stamped : (c t : ℕ) (past : List Row) (rows : List What) (before last : ℕ) → (held_in system note past).word ≡ before → Words note before rows last
      → Leaves past (stamped c t rows) last
  leaves-stamped c t past [] before last e words = record { right = tt; word = e ∙ words }
  leaves-stamped c t past (what ∷ rows) before last e words =
      let r : Row = record { moment = t; core = c; what = what } in
      let P : ℕ → Type 0 = λ w. IsRight note w what in
      let rest =
      leaves-stamped c t (r ∷ past) rows (word_after note what before) last (held-next note t what (held_in system note past) ∙ ap (word_after note what) e)
      words.1
      in
      record { right = (subst P (sym e) words.0, rest.right); word = rest.word }

pub waits-item : (o : Option Item) (note : ℕ) → waited_on o ≡ Some note → o ≡ Some (Wait note)
waits-item None note e = absurd (cc)
waits-item (Some (Wait n)) note e = let f : n ≡ note = cc in ap (λ n. Some (Wait n)) f
waits-item (Some (Compute ticks)) note e = absurd (cc)
waits-item (Some (Signal n badge)) note e = absurd (cc)
waits-item (Some Yield) note e = absurd (cc)
waits-item (Some (On badges)) note e = absurd (cc)
waits-item (Some Spin) note e = absurd (cc)
waits-item (Some (Enter server priority)) note e = absurd (cc)
waits-item (Some (Leave server priority)) note e = absurd (cc)

module _ (system : System) (well : IsWellFormed system) (x : ℕ) where
  takes : TakesTime system
  takes = takes_time system well

  abbrev home : ℕ
  home = core_of system (thread_part system x)

  abbrev rows_from : ℕ → ℕ → ℕ → List Row
  rows_from t a n = flat_map (λ c. clocks.rows_of system c t) (range_with_len a n)

  -- the word of a notification of its core
  module _ (note : ℕ) (there : note < length system.notes) (own : (note_part system note).core ≡ core_of system (thread_part system x))
      (signalled : is_server system note ≡ false) where
    -- it is no server
    apart : (n : ℕ) → is_server system n ≡ true → (n == note) ≡ false
    apart n served = by (n == note) refl
      where
        by : (b : Bool) → (n == note) ≡ b → b ≡ false
        by true e = absurd (contrary (is_server system note) signalled (ap (is_server system) (sym (equal n note e)) ∙ served))
        by false e = refl

    abbrev notes_before : ℕ → List Note
    notes_before t = (clocks.core_shown system (clocks.world system t) (core_of system (thread_part system x))).notes

    mails : ℕ → ℕ → List Mail
    mails t c = filter (clocks.arrives_at system t c) (clocks.world system t).mails

    home-turn : (t : ℕ) → IsSound note (notes_before t)
        → Words note (word_in note (notes_before t)) (clocks.turn_of system home t).rows (word_in note (notes_before (suc t)))
        × IsSound note (notes_before (suc t))
    unfolding mails
    home-turn t sound =
        let k = clocks.core_shown system (clocks.world system t) home in
        let made =
        whole-turn system well home t (IsSound note) (Sounds note) (λ notes made s. s.sound) (plain-sounds note) (sounds-then note)
        (λ n badge k e s. posts-sounds note system t n badge k s) (λ y item n k there e s. waits-sounds note system t y n k s)
        (λ y n k served home s. enters_as-sounds note system t y n (waited (note_of k n)) k (apart n served) s)
        (λ y n k served home s. frees-sounds note system t y n k (apart n served) s)
        (mails t home) k (mails-home system t home (clocks.world system t).mails) (runs-home system well x t home (home_known system well x)) sound
        in
        let P : Turn → Type 0 = λ turn. Words note (word_in note k.notes) turn.rows (word_in note (notes_before (suc t))) in
        let Q : Core → Type 0 = λ core. Words note (word_in note k.notes) (turns.turn_with by_priority system home t (mails t home) k).rows (word_in note core.notes) in
        let R : Core → Type 0 = λ core. IsSound note core.notes in
        let kept = core_shown-kept system takes t home (home_known system well x) in
        (subst P (sym (turn_of-kept system home t)) (subst Q (sym kept) made.words), subst R (sym kept) made.sound)

    other-turn : (t c : ℕ) → c < system.cores → c ≢ home → AllByRecursion (IsStill note) (clocks.turn_of system c t).rows
    unfolding mails
    other-turn t c known other =
        let k = clocks.core_shown system (clocks.world system t) c in
        let I : List Note → Type 0 = λ notes. Unit {0} in
        let Q : List Note → Turn → Type 0 = λ notes made. AllByRecursion (IsStill note) made.rows in
        let made =
        whole-turn system well c t I Q (λ notes made s. tt) (λ notes made i plain. plain-still note made.rows plain.rows)
        (λ notes made part p q. still-append note made.rows (part made.core).rows p q)
        (λ n badge k e i. posts-still note system t n badge k (differs n e)) (λ y item n k there e i. waits-still note system t y n k (differs n e))
        (λ y n k served home i. enters_as-still note system t y n (waited (note_of k n)) k (apart n served))
        (λ y n k served home i. frees-still note system t y n k (apart n served))
        (mails t c) k (mails-home system t c (clocks.world system t).mails) (runs-home system well x t c known) tt
        in
        let P : Turn → Type 0 = λ turn. AllByRecursion (IsStill note) turn.rows in
        subst P (sym (turn_of-kept system c t)) made
      where
        differs : (n : ℕ) → (note_part system n).core ≡ c → (n == note) ≡ false
        differs n e = by (n == note) refl
          where
            by : (b : Bool) → (n == note) ≡ b → b ≡ false
            by true f = absurd (other (sym e ∙ ap (λ m. (note_part system m).core) (equal n note f) ∙ own))
            by false f = refl

    words-past : (t n a : ℕ) (past : List Row) → home < a → a + n ≤ system.cores → Leaves system note past (rows_from t a n) (held_in system note past).word
    words-past t zero a past over l = record { right = tt; word = refl }
    words-past t (suc n) a past over l =
        let still = other-turn t a (omega (arith, l)) (λ e. omega (arith, over, e)) in
        let first : Leaves system note past (clocks.rows_of system a t) (held_in system note past).word =
        leaves-stamped system note a t past (clocks.turn_of system a t).rows (held_in system note past).word (held_in system note past).word refl
        (still-words note (held_in system note past).word (clocks.turn_of system a t).rows still)
        in
        let rest = words-past t n (a + 1) (past_of past (clocks.rows_of system a t)) (omega (arith, over)) (omega (arith, l)) in
        leaves-append system note past (clocks.rows_of system a t) (rows_from t (a + 1) n) (held_in system note past).word (held_in system note past).word first
        record { right = rest.right; word = rest.word ∙ first.word }

    words-from : (t n a before last : ℕ) (past : List Row) → (held_in system note past).word ≡ before
        → Words note before (clocks.turn_of system home t).rows last → a ≤ home → home < a + n → a + n ≤ system.cores
        → Leaves system note past (rows_from t a n) last
    words-from t zero a before last past e words from to l = absurd (omega (arith, from, to))
    words-from t (suc n) a before last past e words from to l =
        by (cases_lt a home)
        (λ less word.
        words-from t n (a + 1) before last (past_of past (clocks.rows_of system a t)) word words (omega (arith, less)) (omega (arith, to)) (omega (arith, l)))
      where
        by : (a < home) ⊎ (home ≤ a)
            → (a < home → (held_in system note (past_of past (clocks.rows_of system a t))).word ≡ before
            → Leaves system note (past_of past (clocks.rows_of system a t)) (rows_from t (a + 1) n) last)
            → Leaves system note past (clocks.rows_of system a t ++ rows_from t (a + 1) n) last
        by (inl less) rest =
            let still = other-turn t a (omega (arith, l)) (λ e. omega (arith, less, e)) in
            let first : Leaves system note past (clocks.rows_of system a t) before =
            leaves-stamped system note a t past (clocks.turn_of system a t).rows before before e
            (still-words note before (clocks.turn_of system a t).rows still)
            in
            leaves-append system note past (clocks.rows_of system a t) (rows_from t (a + 1) n) before last first (rest less first.word)
        by (inr at) rest =
            let same : home ≡ a = omega (arith, at, from) in
            let P : ℕ → Type 0 = λ c. Words note before (clocks.turn_of system c t).rows last in
            let first : Leaves system note past (clocks.rows_of system a t) last =
            leaves-stamped system note a t past (clocks.turn_of system a t).rows before last e (subst P same words)
            in
            let more = words-past t n (a + 1) (past_of past (clocks.rows_of system a t)) (omega (arith, at)) (omega (arith, l)) in
            leaves-append system note past (clocks.rows_of system a t) (rows_from t (a + 1) n) last last first
            record { right = more.right; word = more.word ∙ first.word }

    record WordsReached (t : ℕ) : Type 0 where
      leaves : Leaves system note [] (clocks.clock system t).rows (word_in note (notes_before t))
      sound : IsSound note (notes_before t)

    words-clock : (t : ℕ) → WordsReached t
    words-clock zero =
        let k = core_shown-first system home (home_known system well x) in
        let P : Core → Type 0 = λ core. IsSound note core.notes in
        let quiet : get_or (map opening_note system.notes) note quiet_note ≡ opening_note (note_part system note) =
        get_or-map opening_note system.notes note no_note quiet_note there
        in
        let word : (first_held system note).word ≡ (note_part system note).word = first-word system note there in
        record {
          leaves = record { right = tt; word = word ∙ sym (ap (λ (core : Core). word_in note core.notes) k ∙ ap (λ (n : Note). n.word) quiet) };
          sound = subst P (sym k)
              record {
                there = let e = length-map system.notes opening_note in omega (arith, e, there);
                quiet = inl (ap (λ (n : Note). n.waiters) quiet);
              };
        }
    words-clock (suc t) =
        let before = words-clock t in
        let turn = home-turn t before.sound in
        let now =
        words-from t system.cores 0 (word_in note (notes_before t)) (word_in note (notes_before (suc t))) (past_of [] (clocks.clock system t).rows)
        before.leaves.word turn.0 (omega arith) (let l = home_known system well x in omega (arith, l)) (omega arith)
        in
        let P : List Row → Type 0 = λ rows. Leaves system note [] rows (word_in note (notes_before (suc t))) in
        record {
          leaves = subst P (sym (rows-clock system takes t))
              (leaves-append system note [] (clocks.clock system t).rows (rows_from t 0 system.cores) (word_in note (notes_before t))
              (word_in note (notes_before (suc t))) before.leaves now);
          sound = turn.1;
        }

  pub right-clock : (t note : ℕ) → first_wait (thread_part system x) ≡ Some note → AreRight system note [] (clocks.clock system t).rows
  right-clock t note e =
      let at = wait_home system well x 0 note (waits-item (slice_get (thread_part system x).script 0) note e) in
      let is = item_home system well x 0 (Wait note) (waits-item (slice_get (thread_part system x).script 0) note e) in
      (words-clock note at.0 at.1 is.2 t).leaves.right
