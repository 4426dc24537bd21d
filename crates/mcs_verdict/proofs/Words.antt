-- The words of notifications after one row more.
use Rattle.std.proofs.Common.{◌≡◌, ◌≢◌, ℕ, suc, zero, ◌+◌, ◌<◌, ◌≤◌, eqb, cond, List, [], ◌∷◌, ◌++◌, get_or, set, length, Option, refl, sym, ap, ◌∙◌, append_assoc, arith}
use Rattle.std.proofs.lemmas.Bool.Decides.{nat_tests}
use Rattle.std.proofs.lemmas.List.{set_past}
use Rattle.mcs_ticks.specs.declared.row.Row.{Row}
use Rattle.mcs_ticks.specs.declared.row.What.{What}
use Rattle.mcs_ticks.specs.declared.row.What.TheVariants as row
use Rattle.mcs_system.specs.declared.part.NotePart.{NotePart}
use Rattle.mcs_system.specs.declared.part.ThreadPart.{ThreadPart}
use Rattle.mcs_verdict.specs.declared.held.Held.{Held}
use Rattle.mcs_verdict.specs.Words.{no_word, held_with, gave, taken, held_after, held, held_of, heard_at, firsts_from}
use Rattle.mcs_verdict.specs.Takers.{due_of}
use Rattle.mcs_verdict.specs.Watch.{words_of}

-- what a row makes of a notification: this of this one, and nothing of the others
abbrev pub Makes : ℕ → (Held → Held) → Row → Type 0
Makes note made r = (k : ℕ) (before : Held) → held_after k r.moment r.what before ≡ cond (eqb note k) (made before) before

pub words_unsaid : (n : ℕ) (firsts : List Held) (r : Row) (past : List Row)
    → ((k : ℕ) (before : Held) → n ≤ k → held_after k r.moment r.what before ≡ before)
    → words_of n firsts (r ∷ past) ≡ words_of n firsts past
words_unsaid n [] r past says = refl
words_unsaid n (first ∷ firsts) r past says =
    cc (says n (held first n past) (omega arith), words_unsaid (suc n) firsts r past (λ k before h. says k before (omega arith)))

makes_none : (note : ℕ) (made : Held → Held) (r : Row) (k : ℕ) (before : Held) → Makes note made r → note ≢ k → held_after k r.moment r.what before ≡ before
makes_none note made r k before makes other = makes k before ∙ grind (arith, nat_tests)

words_at : (note : ℕ) (made : Held → Held) (n y : ℕ) (firsts : List Held) (r : Row) (past : List Row) (new d : Held) → Makes note made r → note ≡ n + y
    → (y < length firsts → new ≡ made (get_or (words_of n firsts past) y d))
    → set (words_of n firsts past) y new ≡ words_of n firsts (r ∷ past)
words_at note made n y [] r past new d makes e is = refl
words_at note made n zero (first ∷ firsts) r past new d makes e is =
    grind (
      arith,
      nat_tests,
      is (omega arith),
      makes n (held first n past),
      words_unsaid (suc n) firsts r past (λ k before h. makes_none note made r k before makes (omega arith)),
    )
words_at note made n (suc y) (first ∷ firsts) r past new d makes e is =
    cc (
      makes_none note made r n (held first n past) makes (omega arith),
      words_at note made (suc n) y firsts r past new d makes (omega arith) (λ h. is (omega arith)),
    )

pub length-words : (n : ℕ) (firsts : List Held) (past : List Row) → length (words_of n firsts past) ≡ length firsts
length-words n [] past = refl
length-words n (first ∷ firsts) past = ap suc (length-words (suc n) firsts past)

word_from : (n y note : ℕ) (firsts : List Held) (past : List Row) (d : Held) → note ≡ n + y → y < length firsts
    → get_or (words_of n firsts past) y d ≡ held (get_or firsts y no_word) note past
word_from n y note [] past d e h = absurd (omega arith)
word_from n zero note (first ∷ firsts) past d e h = ap (λ k. held first k past) (omega arith)
word_from n (suc y) note (first ∷ firsts) past d e h = word_from (suc n) y note firsts past d (omega arith) (omega arith)

-- the word that is kept
pub word_kept : (note : ℕ) (firsts : List Held) (past : List Row) (words : List Held) (d : Held) → words ≡ words_of 0 firsts past → note < length words
    → get_or words note d ≡ held (get_or firsts note no_word) note past
word_kept note firsts past words d e h =
    ap (λ words. get_or words note d) e ∙ word_from 0 note note firsts past d (omega arith) (omega (arith, ap length e, length-words 0 firsts past))

-- the word of one of these notifications
pub word_of : (place note : ℕ) (firsts : List Held) (past : List Row) (words : List Held) (d : Held) → place ≡ note → words ≡ words_of 0 firsts past
    → place < length words → d ≡ get_or words place d → d ≡ held_of firsts note past
word_of place note firsts past words d same e h is =
    grind (arith, nat_tests, ap length e, length-words 0 firsts past, word_kept place firsts past words d e h)

pub word_of_none : (place note : ℕ) (firsts : List Held) (past : List Row) (words : List Held) → place ≡ note → words ≡ words_of 0 firsts past
    → length words ≤ place → no_word ≡ held_of firsts note past
word_of_none place note firsts past words same e h = grind (arith, nat_tests, ap length e, length-words 0 firsts past)

-- when the word was set for which a script waits first
pub since_of_word : (place note : ℕ) (firsts : List Held) (past : List Row) (words : List Held) (d : Held) → place ≡ note → words ≡ words_of 0 firsts past
    → place < length words → d ≡ get_or words place d → d.since ≡ (held_of firsts note past).since
since_of_word place note firsts past words d same e h is = ap (λ (held : Held). held.since) (word_of place note firsts past words d same e h is)

pub since_of_none : (place note : ℕ) (firsts : List Held) (past : List Row) (words : List Held) → place ≡ note → words ≡ words_of 0 firsts past
    → length words ≤ place → 0 ≡ (held_of firsts note past).since
since_of_none place note firsts past words same e h = ap (λ (held : Held). held.since) (word_of_none place note firsts past words same e h)

-- a row of another kind says no word
pub says_none : (what : What) → ((n w : ℕ) → what ≡ row.Hold n w → ⊥) → ((t n w : ℕ) → what ≡ row.Got t n w → ⊥)
    → ((t n w : ℕ) (until : Option ℕ) → what ≡ row.Wake t n w until → ⊥)
    → (moment k : ℕ) (before : Held) → held_after k moment what before ≡ before
says_none what hold got wake m k before = grind (arith, hold, got, wake)

-- a row of this notification
pub words_told : (note : ℕ) (made : Held → Held) (firsts : List Held) (r : Row) (past : List Row) (words : List Held) (new d : Held)
    → words ≡ words_of 0 firsts past → Makes note made r → new ≡ made (get_or words note d)
    → set words note new ≡ words_of 0 firsts (r ∷ past)
words_told note made firsts r past words new d e makes is =
    ap (λ words. set words note new) e
    ∙ words_at note made 0 note firsts r past new d makes (omega arith) (λ h. is ∙ ap (λ words. made (get_or words note d)) e)

-- a row of a notification that the system does not have
pub words_untold : (note : ℕ) (made : Held → Held) (firsts : List Held) (r : Row) (past : List Row) (words : List Held) → words ≡ words_of 0 firsts past
    → Makes note made r → length words ≤ note → words ≡ words_of 0 firsts (r ∷ past)
words_untold note made firsts r past words e makes h =
    sym (set_past words note no_word h) ∙ ap (λ words. set words note no_word) e
    ∙ words_at note made 0 note firsts r past no_word no_word makes (omega arith) (λ less. absurd (omega (arith, ap length e, length-words 0 firsts past)))

pub makes_held : (r : Row) (note word : ℕ) → r.what ≡ row.Hold note word → Makes note (held_with r.moment word) r
makes_held r note word e = rw e (λ k before. refl)

pub makes_taken : (r : Row) (thread note word : ℕ) → r.what ≡ row.Got thread note word → Makes note (taken word) r
makes_taken r thread note word e = rw e (λ k before. refl)

pub makes_given : (r : Row) (thread note word : ℕ) (until : Option ℕ) → r.what ≡ row.Wake thread note word until → Makes note (gave word) r
makes_given r thread note word until e = rw e (λ k before. refl)

-- the words at first
pub words_opened : (n : ℕ) (firsts : List Held) → firsts ≡ words_of n firsts []
words_opened n [] = refl
words_opened n (first ∷ firsts) = ap (λ words. first ∷ words) (words_opened (suc n) firsts)

-- one notification more
pub words_added : (n next : ℕ) (threads : List ThreadPart) (notes rest : List NotePart) (part : NotePart) (words words' all : List Held) (new : Held) → next ≡ suc n
    → notes ≡ part ∷ rest → words' ≡ words ++ new ∷ []
    → new ≡ record { word = part.word; since = 0; bits = heard_at n threads; due = due_of n threads; given = 0 }
    → words ++ firsts_from n threads notes ≡ all → words' ++ firsts_from next threads rest ≡ all
words_added n next threads notes rest part words words' all new more e w is so =
    rw more
    (ap (λ words. words ++ firsts_from (suc n) threads rest) w ∙ append_assoc words (new ∷ []) (firsts_from (suc n) threads rest)
    ∙ ap (λ new. words ++ new ∷ firsts_from (suc n) threads rest) is
    ∙ sym (ap (λ notes. words ++ firsts_from n threads notes) e) ∙ so)
