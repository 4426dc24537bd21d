-- The word of a notification, as its core has it, is the one that the rows tell, and it is 0 while a thread waits.
use Rattle.std.proofs.Common.{◌≡◌, ◌≢◌, ℕ, ◌<◌, ◌⊎◌, inl, inr, Bool, true, false, cond, ◌==◌, List, [], ◌∷◌, ◌++◌, length, get_or, set, refl, sym, ap, subst, ◌∙◌, arith}
use Rattle.std.specs.Prelude.{bit_or}
use Rattle.std.specs.List.{AllByRecursion}
use Rattle.std.proofs.lemmas.Bool.Decides.{nat_tests}
use Rattle.std.proofs.lemmas.List.{get_or-set_same, get_or-set_other}
use Rattle.std.proofs.Math.ListN.{length-set}
use Rattle.mcs_ticks.specs.Queue.{by_priority}
use Rattle.mcs_ticks.specs.declared.queue.Queued.{Queued}
use Rattle.mcs_ticks.specs.declared.row.What.{What}
use Rattle.mcs_ticks.specs.declared.row.What.TheVariants as row
use Rattle.mcs_notify.specs.Note.{Note, quiet_note, posted, after_post, waited, after_wait}
use Rattle.mcs_notify.specs.declared.posted.Posted.{Posted}
use Rattle.mcs_notify.specs.declared.posted.Posted.TheVariants.{Woke, Held}
use Rattle.mcs_notify.specs.declared.posted.Waited.{Waited}
use Rattle.mcs_notify.specs.declared.posted.Waited.TheVariants.{Got, Blocks}
use Rattle.mcs_system.specs.System.{System}
use Rattle.mcs_core.specs.Core.{Core, note_of, with_note}
use Rattle.mcs_core.specs.Turn as turns
use Rattle.mcs_core.specs.Turn.{Turn, silent, says, ◌followed_by◌, stamped}
use Rattle.mcs_verdict_laws.proofs.Steps.{contrary}
use Rattle.mcs_verdict_laws.proofs.Entering.{equal}
use Rattle.mcs_verdict_laws.proofs.Signals.{IsPlain, Plain, moves-plain, wakes-plain, let_in-plain}

differ : (a b : ℕ) → (a == b) ≡ false → a ≢ b
differ a b e = grind (arith, nat_tests)

module _ (note : ℕ) where
  -- the word after a row
  abbrev pub word_after : What → ℕ → ℕ
  word_after (row.Hold n word) before = cond (n == note) word before
  word_after (row.Got y n word) before = cond (n == note) 0 before
  word_after _ before = before

  -- a signal adds its badge, and wakes a thread only while the word is 0; who takes the word takes all of it
  abbrev pub IsRight : ℕ → What → Type 0
  IsRight before (row.Hold n word) = (n == note) ≡ true → (badge : ℕ) × (word ≡ bit_or before badge)
  IsRight before (row.Wake y n word until) = (n == note) ≡ true → before ≡ 0
  IsRight before (row.Got y n word) = (n == note) ≡ true → word ≡ before
  IsRight before _ = Unit {0}

  abbrev pub Words : ℕ → List What → ℕ → Type 0
  Words before [] last = before ≡ last
  Words before (what ∷ rows) last = IsRight before what × Words (word_after what before) rows last

  words-append : (before middle last : ℕ) (rows more : List What) → Words before rows middle → Words middle more last → Words before (rows ++ more) last
  words-append before middle last [] more first second = let P : ℕ → Type 0 = λ w. Words w more last in subst P (sym first) second
  words-append before middle last (what ∷ rows) more first second =
      (first.0, words-append (word_after what before) middle last rows more first.1 second)

  plain-words : (before : ℕ) (rows : List What) → AllByRecursion IsPlain rows → Words before rows before
  plain-words before [] all = refl
  plain-words before (row.Hold n word ∷ rows) all = absurd all.0
  plain-words before (row.Got y n word ∷ rows) all = absurd all.0
  plain-words before (row.Wake y n word until ∷ rows) all = absurd all.0
  plain-words before (row.Release y ∷ rows) all = (tt, plain-words before rows all.1)
  plain-words before (row.Run y ∷ rows) all = (tt, plain-words before rows all.1)
  plain-words before (row.Stop y cause charged until ∷ rows) all = (tt, plain-words before rows all.1)
  plain-words before (row.Signal y n badge ∷ rows) all = (tt, plain-words before rows all.1)
  plain-words before (row.Arrive n badge maker ∷ rows) all = (tt, plain-words before rows all.1)
  plain-words before (row.Round y number response ∷ rows) all = (tt, plain-words before rows all.1)
  plain-words before (row.Order context ∷ rows) all = (tt, plain-words before rows all.1)
  plain-words before (row.Interrupt source at_note badge ∷ rows) all = (tt, plain-words before rows all.1)

  -- a notification that there is, on which no thread waits while its word is set
  pub record IsSound (notes : List Note) : Type 0 where
    pub there : note < length notes
    pub quiet : ((get_or notes note quiet_note).waiters ≡ []) ⊎ ((get_or notes note quiet_note).word ≡ 0)

  abbrev pub word_in : List Note → ℕ
  word_in notes = (get_or notes note quiet_note).word

  pub record Sounds (notes : List Note) (made : Turn) : Type 0 where
    pub words : Words (word_in notes) made.rows (word_in made.core.notes)
    pub sound : IsSound made.core.notes

  pub plain-sounds : (notes : List Note) (made : Turn) → IsSound notes → Plain notes made → Sounds notes made
  plain-sounds notes made sound plain =
      let P : List Note → Type 0 = λ after. Words (word_in notes) made.rows (word_in after) in
      record {
        words = subst P (sym plain.same) (plain-words (word_in notes) made.rows plain.rows);
        sound = subst IsSound (sym plain.same) sound;
      }

  pub sounds-then : (notes : List Note) (made : Turn) (part : Core → Turn) → Sounds notes made → Sounds made.core.notes (part made.core)
      → Sounds notes (made followed_by part)
  sounds-then notes made part p q =
      record {
        words = words-append (word_in notes) (word_in made.core.notes) (word_in (part made.core).core.notes) made.rows (part made.core).rows p.words q.words;
        sound = q.sound;
      }

  -- a notification is made otherwise, which may be this one
  set-sound : (notes : List Note) (n : ℕ) (state : Note) → IsSound notes → ((n == note) ≡ true → (state.waiters ≡ []) ⊎ (state.word ≡ 0))
      → (word_in (set notes n state) ≡ cond (n == note) state.word (word_in notes)) × IsSound (set notes n state)
  set-sound notes n state sound quiet = by (n == note) refl quiet
    where
      there : note < length (set notes n state)
      there = let l = sound.there in let e = length-set notes n state in omega (arith, l, e)

      by : (b : Bool) → (n == note) ≡ b → (b ≡ true → (state.waiters ≡ []) ⊎ (state.word ≡ 0))
          → (word_in (set notes n state) ≡ cond b state.word (word_in notes)) × IsSound (set notes n state)
      by true e quiet =
          let P : ℕ → Type 0 = λ m. get_or (set notes m state) note quiet_note ≡ state in
          let now : get_or (set notes n state) note quiet_note ≡ state =
          subst P (sym (equal n note e)) (get_or-set_same notes note state quiet_note sound.there)
          in
          let Q : Note → Type 0 = λ made. (made.waiters ≡ []) ⊎ (made.word ≡ 0) in
          (ap (λ (made : Note). made.word) now, record { there = there; quiet = subst Q (sym now) (quiet refl) })
      by false e quiet =
          let now : get_or (set notes n state) note quiet_note ≡ get_or notes note quiet_note =
          get_or-set_other notes n note state quiet_note (λ f. differ n note e (sym f))
          in
          let Q : Note → Type 0 = λ made. (made.waiters ≡ []) ⊎ (made.word ≡ 0) in
          (ap (λ (made : Note). made.word) now, record { there = there; quiet = subst Q (sym now) sound.quiet })

  -- a row of it
  said-sounds : (n : ℕ) (state : Note) (what : What) (k : Core) → IsSound k.notes → IsRight (word_in k.notes) what
      → word_after what (word_in k.notes) ≡ cond (n == note) state.word (word_in k.notes)
      → ((n == note) ≡ true → (state.waiters ≡ []) ⊎ (state.word ≡ 0))
      → Sounds k.notes (says what (with_note n state k))
  said-sounds n state what k sound right word quiet =
      let now = set-sound k.notes n state sound quiet in
      record { words = (right, word ∙ sym now.0); sound = now.1 }

  -- who is woken waits
  woke-waits : (badge y word : ℕ) (state : Note) → posted badge state ≡ Woke y word → state.waiters ≡ [] → ⊥
  woke-waits badge y word state e none = by state.word state.waiters e none
    where
      by : (w : ℕ) (waiters : List Queued) → posted badge (record { word = w; waiters = waiters }) ≡ Woke y word → waiters ≡ [] → ⊥
      by w [] f none = cc
      by w (first ∷ others) f none = cc

  held-none : (badge word : ℕ) (state : Note) → posted badge state ≡ Held word → (state.waiters ≡ []) × (word ≡ bit_or state.word badge)
  held-none badge word state e = by state.word state.waiters e
    where
      by : (w : ℕ) (waiters : List Queued) → posted badge (record { word = w; waiters = waiters }) ≡ Held word
          → (waiters ≡ []) × (word ≡ bit_or w badge)
      by w [] f = (refl, cc)
      by w (first ∷ others) f = absurd (cc)

  posts_as-sounds : (system : System) (t n badge : ℕ) (post : Posted) (k : Core) → posted badge (note_of k n) ≡ post → IsSound k.notes
      → Sounds k.notes (turns.posts_as by_priority system t n post k)
  posts_as-sounds system t n badge (Woke y word) k e sound =
      let noted = with_note n (after_post (Woke y word) (note_of k n)) k in
      let first =
      said-sounds n (after_post (Woke y word) (note_of k n)) (row.Wake y n word (turns.woken_until system t y k)) k sound (λ f. zero-word f)
      (same-word (n == note) refl) (λ f. inr (same (equal n note f) ∙ zero-word f))
      in
      sounds-then k.notes (says (row.Wake y n word (turns.woken_until system t y k)) noted) (turns.wakes by_priority system t y word) first
      (plain-sounds noted.notes (turns.wakes by_priority system t y word noted) first.sound (wakes-plain system t y word noted))
    where
      same : n ≡ note → (note_of k n).word ≡ word_in k.notes
      same f = ap (λ m. (note_of k m).word) f

      zero-word : (n == note) ≡ true → word_in k.notes ≡ 0
      zero-word f = by sound.quiet
        where
          by : ((get_or k.notes note quiet_note).waiters ≡ []) ⊎ ((get_or k.notes note quiet_note).word ≡ 0) → word_in k.notes ≡ 0
          by (inl none) =
              let P : ℕ → Type 0 = λ m. posted badge (note_of k m) ≡ Woke y word in
              absurd (woke-waits badge y word (get_or k.notes note quiet_note) (subst P (equal n note f) e) none)
          by (inr none) = none

      same-word : (b : Bool) → (n == note) ≡ b → word_in k.notes ≡ cond b (note_of k n).word (word_in k.notes)
      same-word true f = sym (same (equal n note f))
      same-word false f = refl
  posts_as-sounds system t n badge (Held word) k e sound =
      let held = held-none badge word (note_of k n) e in
      said-sounds n (after_post (Held word) (note_of k n)) (row.Hold n word) k sound
      (λ f. (badge, held.1 ∙ ap (λ m. bit_or (note_of k m).word badge) (equal n note f)))
      refl (λ f. inl held.0)

  pub posts-sounds : (system : System) (t n badge : ℕ) (k : Core) → IsSound k.notes → Sounds k.notes (turns.posts by_priority system t n badge k)
  posts-sounds system t n badge k sound = posts_as-sounds system t n badge (posted badge (note_of k n)) k refl sound

  waits_as-sounds : (system : System) (t y n : ℕ) (w : Waited) (k : Core) → waited (note_of k n) ≡ w → IsSound k.notes
      → Sounds k.notes (turns.waits_as system t y n w k)
  waits_as-sounds system t y n (Got word) k e sound =
      let state = after_wait (Got word) (turns.queued y k) (note_of k n) in
      let noted = with_note n state k in
      let first =
      said-sounds n state (row.Got y n word) k sound (λ f. all-taken (note_of k n) e ∙ ap (λ m. (note_of k m).word) (equal n note f)) refl (λ f. inr refl)
      in
      let given = turns.given system t y word noted in
      let start : Sounds k.notes (says (row.Got y n word) given) = record { words = first.words; sound = first.sound } in
      sounds-then k.notes (says (row.Got y n word) given) (turns.moves_on system t y) start
      (plain-sounds given.notes (turns.moves_on system t y given) first.sound (moves-plain system t y (turns.move_of system y given) given))
    where
      all-taken : (state : Note) → waited state ≡ Got word → word ≡ state.word
      all-taken state f = by (state.word == 0) f
        where
          by : (b : Bool) → cond b Blocks (Got state.word) ≡ Got word → word ≡ state.word
          by true f = absurd (cc)
          by false f = cc
  waits_as-sounds system t y n Blocks k e sound =
      let state = after_wait Blocks (turns.queued y k) (note_of k n) in
      let now = set-sound k.notes n state sound (λ f. inr (zero-word (note_of k n) e)) in
      record { words = same-word (n == note) refl ∙ sym now.0; sound = now.1 }
    where
      zero-word : (state : Note) → waited state ≡ Blocks → state.word ≡ 0
      zero-word state f = by (state.word == 0) refl f
        where
          by : (b : Bool) → (state.word == 0) ≡ b → cond b Blocks (Got state.word) ≡ Blocks → state.word ≡ 0
          by true g f = equal state.word 0 g
          by false g f = absurd (cc)

      same-word : (b : Bool) → (n == note) ≡ b → word_in k.notes ≡ cond b (note_of k n).word (word_in k.notes)
      same-word true f = sym (ap (λ m. (note_of k m).word) (equal n note f))
      same-word false f = refl

  pub waits-sounds : (system : System) (t y n : ℕ) (k : Core) → IsSound k.notes
      → Sounds k.notes (turns.waits_as system t y n (waited (note_of k n)) k)
  waits-sounds system t y n k sound = waits_as-sounds system t y n (waited (note_of k n)) k refl sound

  -- another note is entered, or left
  pub enters_as-sounds : (system : System) (t y n : ℕ) (w : Waited) (k : Core) → (n == note) ≡ false → IsSound k.notes
      → Sounds k.notes (turns.enters_as system t y n w k)
  enters_as-sounds system t y n (Got word) k e sound =
      let state = after_wait (Got word) (turns.queued y k) (note_of k n) in
      let noted = with_note n state k in
      let first =
      said-sounds n state (row.Got y n word) k sound (λ f. absurd (contrary (n == note) e f)) refl (λ f. absurd (contrary (n == note) e f))
      in
      sounds-then k.notes (says (row.Got y n word) noted) (turns.moves_on system t y) first
      (plain-sounds noted.notes (turns.moves_on system t y noted) first.sound (moves-plain system t y (turns.move_of system y noted) noted))
  enters_as-sounds system t y n Blocks k e sound =
      let state = after_wait Blocks (turns.queued y k) (note_of k n) in
      let now = set-sound k.notes n state sound (λ f. absurd (contrary (n == note) e f)) in
      record { words = sym (now.0 ∙ ap (λ b. cond b state.word (word_in k.notes)) e); sound = now.1 }

  frees_as-sounds : (system : System) (t n : ℕ) (post : Posted) (k : Core) → (n == note) ≡ false → IsSound k.notes
      → Sounds k.notes (turns.frees_as by_priority system t n post k)
  frees_as-sounds system t n (Woke y word) k e sound =
      let state = after_post (Woke y word) (note_of k n) in
      let noted = with_note n state k in
      let first =
      said-sounds n state (row.Wake y n word (turns.woken_until system t y k)) k sound (λ f. absurd (contrary (n == note) e f))
      (sym (ap (λ b. cond b state.word (word_in k.notes)) e)) (λ f. absurd (contrary (n == note) e f))
      in
      sounds-then k.notes (says (row.Wake y n word (turns.woken_until system t y k)) noted) (turns.let_in by_priority system t y) first
      (plain-sounds noted.notes (turns.let_in by_priority system t y noted) first.sound (let_in-plain system t y noted))
  frees_as-sounds system t n (Held word) k e sound =
      let state = after_post (Held word) (note_of k n) in
      let now = set-sound k.notes n state sound (λ f. absurd (contrary (n == note) e f)) in
      record { words = sym (now.0 ∙ ap (λ b. cond b state.word (word_in k.notes)) e); sound = now.1 }

  pub frees-sounds : (system : System) (t y n : ℕ) (k : Core) → (n == note) ≡ false → IsSound k.notes
      → Sounds k.notes (turns.frees by_priority system t y n k)
  frees-sounds system t y n k e sound =
      sounds-then k.notes (says (row.Signal y n 1) k) (λ core. turns.frees_as by_priority system t n (posted 1 (note_of core n)) core)
      (plain-sounds k.notes (says (row.Signal y n 1) k) sound record { rows = (tt, tt); same = refl })
      (frees_as-sounds system t n (posted 1 (note_of k n)) k e sound)

  -- rows about other notifications
  abbrev pub IsStill : What → Type 0
  IsStill (row.Hold n word) = (n == note) ≡ false
  IsStill (row.Got y n word) = (n == note) ≡ false
  IsStill (row.Wake y n word until) = (n == note) ≡ false
  IsStill _ = Unit {0}

  pub still-words : (before : ℕ) (rows : List What) → AllByRecursion IsStill rows → Words before rows before
  still-words before [] all = refl
  still-words before (row.Hold n word ∷ rows) all =
      let P : ℕ → Type 0 = λ w. Words w rows before in
      ((λ f. absurd (contrary (n == note) all.0 f)), subst P (sym (ap (λ b. cond b word before) all.0)) (still-words before rows all.1))
  still-words before (row.Got y n word ∷ rows) all =
      let P : ℕ → Type 0 = λ w. Words w rows before in
      ((λ f. absurd (contrary (n == note) all.0 f)), subst P (sym (ap (λ b. cond b 0 before) all.0)) (still-words before rows all.1))
  still-words before (row.Wake y n word until ∷ rows) all = ((λ f. absurd (contrary (n == note) all.0 f)), still-words before rows all.1)
  still-words before (row.Release y ∷ rows) all = (tt, still-words before rows all.1)
  still-words before (row.Run y ∷ rows) all = (tt, still-words before rows all.1)
  still-words before (row.Stop y cause charged until ∷ rows) all = (tt, still-words before rows all.1)
  still-words before (row.Signal y n badge ∷ rows) all = (tt, still-words before rows all.1)
  still-words before (row.Arrive n badge maker ∷ rows) all = (tt, still-words before rows all.1)
  still-words before (row.Round y number response ∷ rows) all = (tt, still-words before rows all.1)
  still-words before (row.Order context ∷ rows) all = (tt, still-words before rows all.1)
  still-words before (row.Interrupt source at_note badge ∷ rows) all = (tt, still-words before rows all.1)

  pub still-append : (rows more : List What) → AllByRecursion IsStill rows → AllByRecursion IsStill more → AllByRecursion IsStill (rows ++ more)
  still-append [] more here there = there
  still-append (what ∷ rows) more here there = (here.0, still-append rows more here.1 there)

  pub plain-still : (rows : List What) → AllByRecursion IsPlain rows → AllByRecursion IsStill rows
  plain-still [] all = tt
  plain-still (row.Hold n word ∷ rows) all = absurd all.0
  plain-still (row.Got y n word ∷ rows) all = absurd all.0
  plain-still (row.Wake y n word until ∷ rows) all = absurd all.0
  plain-still (row.Release y ∷ rows) all = (tt, plain-still rows all.1)
  plain-still (row.Run y ∷ rows) all = (tt, plain-still rows all.1)
  plain-still (row.Stop y cause charged until ∷ rows) all = (tt, plain-still rows all.1)
  plain-still (row.Signal y n badge ∷ rows) all = (tt, plain-still rows all.1)
  plain-still (row.Arrive n badge maker ∷ rows) all = (tt, plain-still rows all.1)
  plain-still (row.Round y number response ∷ rows) all = (tt, plain-still rows all.1)
  plain-still (row.Order context ∷ rows) all = (tt, plain-still rows all.1)
  plain-still (row.Interrupt source at_note badge ∷ rows) all = (tt, plain-still rows all.1)

  posts_as-still : (system : System) (t n : ℕ) (post : Posted) (k : Core) → (n == note) ≡ false
      → AllByRecursion IsStill (turns.posts_as by_priority system t n post k).rows
  posts_as-still system t n (Woke y word) k e =
      let noted = with_note n (after_post (Woke y word) (note_of k n)) k in
      (e, plain-still (turns.wakes by_priority system t y word noted).rows (wakes-plain system t y word noted).rows)
  posts_as-still system t n (Held word) k e = (e, tt)

  waits_as-still : (system : System) (t y n : ℕ) (w : Waited) (k : Core) → (n == note) ≡ false
      → AllByRecursion IsStill (turns.waits_as system t y n w k).rows
  waits_as-still system t y n (Got word) k e =
      let given = turns.given system t y word (with_note n (after_wait (Got word) (turns.queued y k) (note_of k n)) k) in
      (e, plain-still (turns.moves_on system t y given).rows (moves-plain system t y (turns.move_of system y given) given).rows)
  waits_as-still system t y n Blocks k e = tt

  pub enters_as-still : (system : System) (t y n : ℕ) (w : Waited) (k : Core) → (n == note) ≡ false
      → AllByRecursion IsStill (turns.enters_as system t y n w k).rows
  enters_as-still system t y n (Got word) k e =
      let noted = with_note n (after_wait (Got word) (turns.queued y k) (note_of k n)) k in
      (e, plain-still (turns.moves_on system t y noted).rows (moves-plain system t y (turns.move_of system y noted) noted).rows)
  enters_as-still system t y n Blocks k e = tt

  pub enters-still : (system : System) (t y n : ℕ) (k : Core) → (n == note) ≡ false
      → AllByRecursion IsStill (turns.enters_as system t y n (waited (note_of k n)) k).rows
  enters-still system t y n k e = enters_as-still system t y n (waited (note_of k n)) k e

  frees_as-still : (system : System) (t n : ℕ) (post : Posted) (k : Core) → (n == note) ≡ false
      → AllByRecursion IsStill (turns.frees_as by_priority system t n post k).rows
  frees_as-still system t n (Woke y word) k e =
      let noted = with_note n (after_post (Woke y word) (note_of k n)) k in
      (e, plain-still (turns.let_in by_priority system t y noted).rows (let_in-plain system t y noted).rows)
  frees_as-still system t n (Held word) k e = tt

  pub frees-still : (system : System) (t y n : ℕ) (k : Core) → (n == note) ≡ false
      → AllByRecursion IsStill (turns.frees by_priority system t y n k).rows
  frees-still system t y n k e = (tt, frees_as-still system t n (posted 1 (note_of k n)) k e)

  pub posts-still : (system : System) (t n badge : ℕ) (k : Core) → (n == note) ≡ false
      → AllByRecursion IsStill (turns.posts by_priority system t n badge k).rows
  posts-still system t n badge k e = posts_as-still system t n (posted badge (note_of k n)) k e

  pub waits-still : (system : System) (t y n : ℕ) (k : Core) → (n == note) ≡ false
      → AllByRecursion IsStill (turns.waits_as system t y n (waited (note_of k n)) k).rows
  waits-still system t y n k e = waits_as-still system t y n (waited (note_of k n)) k e
