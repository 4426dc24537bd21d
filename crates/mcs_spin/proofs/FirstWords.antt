-- A thread that only computes waits for nothing. So both systems have the same words at first, with
-- the same deadlines, and the same threads take them.
use Rattle.std.proofs.Common.{◌≡◌, ℕ, zero, suc, true, false, cond, List, [], ◌∷◌, map, get_or, slice_get, fold, Option, Some, None, refl, sym, ap, ◌∙◌, arith}
use Rattle.std.specs.Prelude.{◌&&◌, ◌||◌, not}
use Rattle.std.specs.List.{list_all, list_any}
use Rattle.std.proofs.lemmas.Bool.{cond_both}
use Rattle.std.proofs.lemmas.Bool.Decides.{nat_tests}
use Rattle.mcs_script.specs.declared.item.Item.{Item}
use Rattle.mcs_script.specs.declared.item.Item.TheVariants.{Spin}
use Rattle.mcs_system.specs.declared.part.NotePart.{NotePart}
use Rattle.mcs_system.specs.declared.part.ThreadPart.{ThreadPart}
use Rattle.mcs_system.specs.System.{System, no_thread, thread_part, core_of}
use Rattle.mcs_verdict.specs.Calls.{waited_on, first_wait, calls, bits_of, either}
use Rattle.mcs_verdict.specs.Takers.{waits_for, waits_on, takers, due_by, due_of}
use Rattle.mcs_verdict.specs.Words.{hears, firsts_from, firsts_of}
use Rattle.mcs_verdict.specs.Due.{calls_each}
use Rattle.mcs_spin.specs.Spun.{is_compute, computes, only_computes, spun_part, spun}

-- a thread that only computes has no deadline, and its items are all `compute`
pub no-deadline : (part : ThreadPart) → only_computes part ≡ true → part.deadline ≡ 0
no-deadline part e = grind (arith, nat_tests, e)

script-computes : (part : ThreadPart) → only_computes part ≡ true → computes part.script ≡ true
script-computes part e = grind (arith, nat_tests, e)

-- none of these items is a wait
compute-waits : (note : ℕ) (item : Item) → is_compute item ≡ true → waits_on note item ≡ false
compute-waits note item e = grind (arith, e)

all-wait : (note : ℕ) (items : List Item) → list_all is_compute items ≡ true → list_any (waits_on note) items ≡ false
all-wait note [] e = refl
all-wait note (item ∷ items) e = grind (arith, compute-waits note item, all-wait note items, e)

computes-waits : (note : ℕ) (items : List Item) → computes items ≡ true → list_any (waits_on note) items ≡ false
computes-waits note [] e = refl
computes-waits note (item ∷ items) e = all-wait note (item ∷ items) e

computes-first : (items : List Item) → computes items ≡ true → waited_on (slice_get items 0) ≡ None
computes-first [] e = refl
computes-first (item ∷ items) e = grind (arith, e)

pub takes-nothing : (note : ℕ) (part : ThreadPart) → only_computes part ≡ true → list_any (waits_on note) part.script ≡ false
takes-nothing note part e = computes-waits note part.script (script-computes part e)

pub first-none : (part : ThreadPart) → only_computes part ≡ true → first_wait part ≡ None
first-none part e = computes-first part.script (script-computes part e)

-- either the thread spins now, or its part is as it was
pub by-spun : (P : ThreadPart → Type 0) (part : ThreadPart) → (only_computes part ≡ true → P (record part { script = Spin ∷ [] }))
    → (only_computes part ≡ false → P part) → P (spun_part part)
by-spun P part = cond_both (only_computes part) (record part { script = Spin ∷ [] }) part P

-- the threads that take a word
takers-spun : (note : ℕ) (threads : List ThreadPart) → takers note (map spun_part threads) ≡ takers note threads
takers-spun note [] = refl
takers-spun note (part ∷ parts) =
    let rest = takers-spun note parts in
    by-spun (λ p. takers note (p ∷ map spun_part parts) ≡ takers note (part ∷ parts)) part
    (λ e. rest ∙ sym (ap (λ takes. cond takes (part ∷ takers note parts) (takers note parts)) (takes-nothing note part e)))
    (λ e. ap (λ rest. cond (list_any (waits_on note) part.script) (part ∷ rest) rest) rest)

pub due-spun : (note : ℕ) (threads : List ThreadPart) → due_of note (map spun_part threads) ≡ due_of note threads
due-spun note threads = ap (due_by note) (takers-spun note threads)

-- the words that leave a thread something to do
hears-spun : (note : ℕ) (bits : Option ℕ) (part : ThreadPart) → hears note bits (spun_part part) ≡ hears note bits part
hears-spun note bits part =
    by-spun (λ p. hears note bits p ≡ hears note bits part) part
    (λ e. sym (ap (λ waits. cond (waits_for note waits) (either bits (bits_of part)) bits) (first-none part e)))
    (λ e. refl)

heard-spun : (note : ℕ) (bits : Option ℕ) (threads : List ThreadPart) → fold (hears note) bits (map spun_part threads) ≡ fold (hears note) bits threads
heard-spun note bits [] = refl
heard-spun note bits (part ∷ parts) =
    ap (λ bits. fold (hears note) bits (map spun_part parts)) (hears-spun note bits part) ∙ heard-spun note (hears note bits part) parts

firsts_from-spun : (n : ℕ) (threads : List ThreadPart) (notes : List NotePart) → firsts_from n (map spun_part threads) notes ≡ firsts_from n threads notes
firsts_from-spun n threads [] = refl
firsts_from-spun n threads (note ∷ notes) =
    cc (heard-spun n (Some 0) threads, due-spun n threads, firsts_from-spun (suc n) threads notes)

pub firsts-spun : (system : System) → firsts_of (spun system) ≡ firsts_of system
firsts-spun system = firsts_from-spun 0 system.threads system.notes

-- whether a word leaves something to do to each thread that waits first for it
pub calls-spun : (note word : ℕ) (threads : List ThreadPart) → calls_each note word (map spun_part threads) ≡ calls_each note word threads
calls-spun note word [] = refl
calls-spun note word (part ∷ parts) =
    let rest = calls-spun note word parts in
    by-spun (λ p. calls_each note word (p ∷ map spun_part parts) ≡ calls_each note word (part ∷ parts)) part
    (λ e. rest ∙ sym (ap (λ waits. (not (waits_for note waits) || calls (bits_of part) word) && calls_each note word parts) (first-none part e)))
    (λ e. ap (λ rest. (not (waits_for note (first_wait part)) || calls (bits_of part) word) && rest) rest)

-- the deadline of each thread
deadline-at : (threads : List ThreadPart) (x : ℕ) → (get_or (map spun_part threads) x no_thread).deadline ≡ (get_or threads x no_thread).deadline
deadline-at [] x = refl
deadline-at (part ∷ parts) zero = by-spun (λ p. p.deadline ≡ part.deadline) part (λ e. refl) (λ e. refl)
deadline-at (part ∷ parts) (suc x) = deadline-at parts x

pub deadline-spun : (system : System) (x : ℕ) → (thread_part (spun system) x).deadline ≡ (thread_part system x).deadline
deadline-spun system x = deadline-at system.threads x

-- each thread is on its core
pub core-spun : (system : System) (part : ThreadPart) → core_of (spun system) (spun_part part) ≡ core_of system part
core-spun system part = by-spun (λ p. core_of system p ≡ core_of system part) part (λ e. refl) (λ e. refl)
