-- Words that are set stay so until a thread takes them, and which threads may take one.
use Rattle.std.proofs.Common.{◌≡◌, ℕ, zero, suc, ◌+◌, ◌<◌, ◌≤◌, ◌⊎◌, inl, inr, Bool, true, false, cond, not, ◌&&◌, ◌==◌, nat_lt, List, [], ◌∷◌, length, get_or, slice_get, Option, Some, None, refl, ap, ◌∙◌, arith}
use Rattle.std.specs.Prelude.{◌||◌, bit_and, bit_or, fold}
use Rattle.std.specs.List.{list_all, list_any}
use Rattle.std.proofs.lemmas.Bool.Decides.{nat_tests}
use Rattle.std.proofs.lemmas.Nat.{and_comm}
use Rattle.mcs_ticks.specs.declared.row.Row.{Row}
use Rattle.mcs_ticks.specs.declared.row.What.{What}
use Rattle.mcs_ticks.specs.declared.row.What.TheVariants as row
use Rattle.mcs_script.specs.declared.item.Item.{Item}
use Rattle.mcs_script.specs.declared.item.Item.TheVariants.{Compute, Signal, Wait, Yield, On, Spin, Enter, Leave}
use Rattle.mcs_system.specs.declared.part.NotePart.{NotePart}
use Rattle.mcs_system.specs.declared.part.ThreadPart.{ThreadPart}
use Rattle.mcs_system.specs.System.{System, no_thread, thread_part}
use Rattle.mcs_verdict.specs.declared.held.Held.{Held}
use Rattle.mcs_verdict.specs.Calls.{waited_on, first_wait, calls, is_set, bits_of, either}
use Rattle.mcs_verdict.specs.Due.{calls_each}
use Rattle.mcs_verdict.specs.Takers.{waits_for, waits_on, waits_first_alone, takers, begins_with_deadline, greatest, due_by, due_of}
use Rattle.mcs_verdict.specs.Words.{no_word, held_with, gave, taken, held_after, held, held_of, hears, heard_at, firsts_from, firsts_of}
use Rattle.mcs_verdict_laws.proofs.Entering.{self, equal}
use Rattle.mcs_verdict_laws.proofs.Steps.{contrary}
use Rattle.mcs_verdict_laws.proofs.Fits.{first_held, held_in}
use Rattle.mcs_verdict_laws.proofs.Handlers.{zero-or, or-some}

pub none-some : {A : Type 0} (a : A) → None ≡ Some a → ⊥
none-some a e = cc

-- both are true, and the one or the other
pub both : (a b : Bool) → (a && b) ≡ true → (a ≡ true) × (b ≡ true)
both true b e = (refl, e)
both false b e = absurd (contrary false refl e)

pub both-are : (a b : Bool) → a ≡ true → b ≡ true → (a && b) ≡ true
both-are true b e f = f
both-are false b e f = absurd (contrary false refl e)

pub first-of : (a b : Bool) → a ≡ true → (a || b) ≡ true
first-of true b e = refl
first-of false b e = absurd (contrary false refl e)

pub second-of : (a b : Bool) → b ≡ true → (a || b) ≡ true
second-of true b e = refl
second-of false b e = e

pub one-of : (a b : Bool) → (a || b) ≡ true → (a ≡ true) ⊎ (b ≡ true)
one-of true b e = inl refl
one-of false b e = inr e

-- a word that leaves something to do does so with more bits
pub calls-or : (bits : Option ℕ) (word badge : ℕ) → calls bits word ≡ true → calls bits (bit_or word badge) ≡ true
calls-or None word badge e = refl
calls-or (Some bits) word badge e = by (bit_and word bits == 0) refl e
  where
    by : (p : Bool) → (bit_and word bits == 0) ≡ p → not p ≡ true → not (bit_and (bit_or word badge) bits == 0) ≡ true
    by true f e = absurd (contrary false refl e)
    by false f e =
        ap not
        (ap (λ n. n == 0) (and_comm (bit_or word badge) bits) ∙ zero-or bits word badge
        ∙ ap (λ b. b && (bit_and bits badge == 0)) (ap (λ n. n == 0) (and_comm bits word) ∙ f))

-- a word that is not 0, and leaves something to do
pub set-is : (bits : Option ℕ) (word : ℕ) → (word == 0) ≡ false → calls bits word ≡ true → is_set bits word ≡ true
set-is bits word e f = ap (λ b. not b && calls bits word) e ∙ f

set-none : (bits : Option ℕ) (word : ℕ) → is_set bits word ≡ true → (word == 0) ≡ false
set-none bits word e = by (word == 0) (calls bits word) e
  where
    by : (z c : Bool) → (not z && c) ≡ true → z ≡ false
    by true c e = absurd (contrary false refl e)
    by false c e = refl

set-calls : (bits : Option ℕ) (word : ℕ) → is_set bits word ≡ true → calls bits word ≡ true
set-calls bits word e = (both (not (word == 0)) (calls bits word) e).1

-- one more bit
pub set-or : (bits : Option ℕ) (word badge : ℕ) → is_set bits word ≡ true → is_set bits (bit_or word badge) ≡ true
set-or bits word badge e =
    set-is bits (bit_or word badge) (or-some word badge (set-none bits word e)) (calls-or bits word badge (set-calls bits word e))

-- the bits that begin a round, and the deadline, are kept
pub bits-kept : (first : Held) (note : ℕ) (past : List Row) → (held first note past).bits ≡ first.bits
bits-kept first note [] = refl
bits-kept first note (r ∷ past) = bits-after note r.moment r.what (held first note past) ∙ bits-kept first note past
  where
    bits-after : (note m : ℕ) (what : What) (before : Held) → (held_after note m what before).bits ≡ before.bits
    bits-after note m (row.Hold n w) before = by (n == note)
      where
        by : (b : Bool) → (cond b (held_with m w before) before).bits ≡ before.bits
        by true = refl
        by false = refl
    bits-after note m (row.Got y n w) before = by (n == note)
      where
        by : (b : Bool) → (cond b (taken w before) before).bits ≡ before.bits
        by true = refl
        by false = refl
    bits-after note m (row.Wake y n w until) before = by (n == note)
      where
        by : (b : Bool) → (cond b (gave w before) before).bits ≡ before.bits
        by true = refl
        by false = refl
    bits-after note m (row.Release y) before = refl
    bits-after note m (row.Run y) before = refl
    bits-after note m (row.Stop y cause charged until) before = refl
    bits-after note m (row.Signal y n badge) before = refl
    bits-after note m (row.Arrive n badge maker) before = refl
    bits-after note m (row.Round y number response) before = refl
    bits-after note m (row.Order context) before = refl
    bits-after note m (row.Interrupt source at_note badge) before = refl

pub due-kept : (first : Held) (note : ℕ) (past : List Row) → (held first note past).due ≡ first.due
due-kept first note [] = refl
due-kept first note (r ∷ past) = due-after note r.moment r.what (held first note past) ∙ due-kept first note past
  where
    due-after : (note m : ℕ) (what : What) (before : Held) → (held_after note m what before).due ≡ before.due
    due-after note m (row.Hold n w) before = by (n == note)
      where
        by : (b : Bool) → (cond b (held_with m w before) before).due ≡ before.due
        by true = refl
        by false = refl
    due-after note m (row.Got y n w) before = by (n == note)
      where
        by : (b : Bool) → (cond b (taken w before) before).due ≡ before.due
        by true = refl
        by false = refl
    due-after note m (row.Wake y n w until) before = by (n == note)
      where
        by : (b : Bool) → (cond b (gave w before) before).due ≡ before.due
        by true = refl
        by false = refl
    due-after note m (row.Release y) before = refl
    due-after note m (row.Run y) before = refl
    due-after note m (row.Stop y cause charged until) before = refl
    due-after note m (row.Signal y n badge) before = refl
    due-after note m (row.Arrive n badge maker) before = refl
    due-after note m (row.Round y number response) before = refl
    due-after note m (row.Order context) before = refl
    due-after note m (row.Interrupt source at_note badge) before = refl

pub length-firsts : (n : ℕ) (threads : List ThreadPart) (parts : List NotePart) → length (firsts_from n threads parts) ≡ length parts
length-firsts n threads [] = refl
length-firsts n threads (part ∷ parts) = ap suc (length-firsts (suc n) threads parts)

bits-from : (n y note : ℕ) (threads : List ThreadPart) (parts : List NotePart) → note ≡ n + y → y < length parts
    → (get_or (firsts_from n threads parts) y no_word).bits ≡ heard_at note threads
bits-from n y note threads [] e h = absurd (omega (arith, h))
bits-from n zero note threads (part ∷ parts) e h = ap (λ k. heard_at k threads) (omega (arith, e))
bits-from n (suc y) note threads (part ∷ parts) e h = bits-from (suc n) y note threads parts (omega (arith, e)) (omega (arith, h))

bits-first : (system : System) (note : ℕ) → note < length system.notes → (first_held system note).bits ≡ heard_at note system.threads
bits-first system note h = bits-from 0 note note system.threads system.notes (omega arith) h

due-from : (n y note : ℕ) (threads : List ThreadPart) (parts : List NotePart) → note ≡ n + y → y < length parts
    → (get_or (firsts_from n threads parts) y no_word).due ≡ due_of note threads
due-from n y note threads [] e h = absurd (omega (arith, h))
due-from n zero note threads (part ∷ parts) e h = ap (λ k. due_of k threads) (omega (arith, e))
due-from n (suc y) note threads (part ∷ parts) e h = due-from (suc n) y note threads parts (omega (arith, e)) (omega (arith, h))

-- the deadline of a notification
pub due-there : (system : System) (note : ℕ) (past : List Row) → note < length system.notes → (held_in system note past).due ≡ due_of note system.threads
due-there system note past h = due-kept (first_held system note) note past ∙ due-from 0 note note system.threads system.notes (omega arith) h

-- a notification that the system has
pub known-held : (system : System) (note : ℕ) (past : List Row) → note < length system.notes
    → held_of (firsts_of system) note past ≡ held_in system note past
known-held system note past h =
    ap (λ b. cond b (held_in system note past) no_word)
    (inside note (length (firsts_of system)) (omega (arith, h, length-firsts 0 system.threads system.notes)))
  where
    inside : (p q : ℕ) → p < q → nat_lt p q ≡ true
    inside p q e = grind (arith, nat_tests)

-- a word that one of two calls for is one that either does
set-either : (bits others : Option ℕ) (word : ℕ) → (is_set bits word ≡ true) ⊎ (is_set others word ≡ true) → is_set (either bits others) word ≡ true
set-either None others word (inl e) = set-is None word (set-none None word e) refl
set-either (Some bits) None word (inl e) = set-is None word (set-none (Some bits) word e) refl
set-either None (Some others) word (inr e) = set-is None word (set-none (Some others) word e) refl
set-either None None word (inr e) = e
set-either (Some bits) None word (inr e) = e
set-either (Some bits) (Some others) word h =
    ap (λ b. not (word == 0) && not b) (zero-or word bits others) ∙ by (word == 0) (bit_and word bits == 0) (bit_and word others == 0) h
  where
    by : (z p q : Bool) → ((not z && not p) ≡ true) ⊎ ((not z && not q) ≡ true) → (not z && not (p && q)) ≡ true
    by true p q (inl e) = absurd (contrary false refl e)
    by true p q (inr e) = absurd (contrary false refl e)
    by false true q (inl e) = absurd (contrary false refl e)
    by false false q (inl e) = refl
    by false true q (inr e) = e
    by false false q (inr e) = refl

-- the bits of one of the threads that wait first for the notification are among all of them
heard-more : (note word : ℕ) (threads : List ThreadPart) (bits : Option ℕ) → is_set bits word ≡ true → is_set (fold (hears note) bits threads) word ≡ true
heard-more note word [] bits e = e
heard-more note word (part ∷ threads) bits e = heard-more note word threads (hears note bits part) (by (waits_for note (first_wait part)))
  where
    by : (b : Bool) → is_set (cond b (either bits (bits_of part)) bits) word ≡ true
    by true = set-either bits (bits_of part) word (inl e)
    by false = e

heard-one : (note word y : ℕ) (threads : List ThreadPart) (bits : Option ℕ) → first_wait (get_or threads y no_thread) ≡ Some note
    → is_set (bits_of (get_or threads y no_thread)) word ≡ true → is_set (fold (hears note) bits threads) word ≡ true
heard-one note word y [] bits first e = absurd (cc)
heard-one note word zero (part ∷ threads) bits first e =
    heard-more note word threads (hears note bits part)
    (ap (λ b. is_set (cond b (either bits (bits_of part)) bits) word) (ap (waits_for note) first ∙ self note)
    ∙ set-either bits (bits_of part) word (inr e))
heard-one note word (suc y) (part ∷ threads) bits first e = heard-one note word y threads (hears note bits part) first e

-- what calls a thread calls one of those that wait first for the notification
pub heard-there : (system : System) (x note word : ℕ) (past : List Row) → first_wait (thread_part system x) ≡ Some note → note < length system.notes
    → is_set (bits_of (thread_part system x)) word ≡ true → is_set (held_in system note past).bits word ≡ true
heard-there system x note word past first known e =
    ap (λ bits. is_set bits word) (bits-kept (first_held system note) note past ∙ bits-first system note known)
    ∙ heard-one note word x system.threads (Some 0) first e

-- whether a row takes the word
abbrev pub takes : ℕ → What → Bool
takes note (row.Got y n w) = n == note
takes note _ = false

-- the threads that may take a word
abbrev pub may_take : ℕ → ThreadPart → Bool
may_take note part = list_any (waits_on note) part.script

wait-among : (items : List Item) (place note : ℕ) → slice_get items place ≡ Some (Wait note) → list_any (waits_on note) items ≡ true
wait-among [] place note e = absurd (cc)
wait-among (item ∷ items) zero note e =
    let same : item ≡ Wait note = cc in
    first-of (waits_on note item) (list_any (waits_on note) items) (ap (waits_on note) same ∙ self note)
wait-among (item ∷ items) (suc place) note e =
    second-of (waits_on note item) (list_any (waits_on note) items) (wait-among items place note e)

pub wait-takes : (note place : ℕ) (part : ThreadPart) → slice_get part.script place ≡ Some (Wait note) → may_take note part ≡ true
wait-takes note place part e = wait-among part.script place note e

-- a wait that is the first item and no other
pub alone-first : (items : List Item) (place note : ℕ) → waits_first_alone note items ≡ true → slice_get items place ≡ Some (Wait note) → place ≡ 0
alone-first [] place note alone e = absurd (cc)
alone-first (item ∷ items) zero note alone e = refl
alone-first (item ∷ items) (suc place) note alone e =
    absurd (contrary (not (list_any (waits_on note) items)) (ap not (wait-among items place note e)) alone)

is-wait : (note : ℕ) (item : Item) → waits_on note item ≡ true → item ≡ Wait note
is-wait note (Wait n) e = ap Wait (equal n note e)
is-wait note (Compute ticks) e = absurd (contrary false refl e)
is-wait note (Signal n badge) e = absurd (contrary false refl e)
is-wait note Yield e = absurd (contrary false refl e)
is-wait note (On badges) e = absurd (contrary false refl e)
is-wait note Spin e = absurd (contrary false refl e)
is-wait note (Enter server priority) e = absurd (contrary false refl e)
is-wait note (Leave server priority) e = absurd (contrary false refl e)

first-alone : (note : ℕ) (items : List Item) → list_any (waits_on note) items ≡ true → waits_first_alone note items ≡ true
    → slice_get items 0 ≡ Some (Wait note)
first-alone note [] e alone = absurd (contrary false refl e)
first-alone note (item ∷ items) e alone = ap Some (is-wait note item (by (waits_on note item) (list_any (waits_on note) items) e alone))
  where
    by : (a b : Bool) → (a || b) ≡ true → not b ≡ true → a ≡ true
    by true b e f = refl
    by false true e f = absurd (contrary false refl f)
    by false false e f = absurd (contrary false refl e)

-- what is known of each thread that may take a word, if the notification has a deadline
pub record MayTake (note due : ℕ) (part : ThreadPart) : Type 0 where
  pub waits : first_wait part ≡ Some note
  pub alone : waits_first_alone note part.script ≡ true
  pub some : (part.deadline == 0) ≡ false
  pub within : part.deadline ≤ due

due-all : (note due : ℕ) (parts : List ThreadPart) → due_by note parts ≡ Some due
    → (list_all (begins_with_deadline note) parts ≡ true) × (greatest parts ≡ due)
due-all note due [] e = absurd (none-some due e)
due-all note due (part ∷ parts) e = by (list_all (begins_with_deadline note) (part ∷ parts)) e
  where
    by : (b : Bool) → cond b (Some (greatest (part ∷ parts))) None ≡ Some due → (b ≡ true) × (greatest (part ∷ parts) ≡ due)
    by true e = (refl, (let f : Some (greatest (part ∷ parts)) ≡ Some due = e in cc))
    by false e = absurd (none-some due e)

taker-begins : (note x : ℕ) (threads : List ThreadPart) → may_take note (get_or threads x no_thread) ≡ true
    → list_all (begins_with_deadline note) (takers note threads) ≡ true
    → (begins_with_deadline note (get_or threads x no_thread) ≡ true) × ((get_or threads x no_thread).deadline ≤ greatest (takers note threads))
taker-begins note x [] takes all = absurd (contrary false refl takes)
taker-begins note zero (part ∷ threads) takes all = by (may_take note part) takes all
  where
    by : (b : Bool) → b ≡ true → list_all (begins_with_deadline note) (cond b (part ∷ takers note threads) (takers note threads)) ≡ true
        → (begins_with_deadline note part ≡ true) × (part.deadline ≤ greatest (cond b (part ∷ takers note threads) (takers note threads)))
    by true e all = ((both (begins_with_deadline note part) (list_all (begins_with_deadline note) (takers note threads)) all).0, omega arith)
    by false e all = absurd (contrary false refl e)
taker-begins note (suc x) (part ∷ threads) takes all = by (may_take note part) (λ all. taker-begins note x threads takes all) all
  where
    by : (b : Bool)
        → (list_all (begins_with_deadline note) (takers note threads) ≡ true
        → (begins_with_deadline note (get_or threads x no_thread) ≡ true) × ((get_or threads x no_thread).deadline ≤ greatest (takers note threads)))
        → list_all (begins_with_deadline note) (cond b (part ∷ takers note threads) (takers note threads)) ≡ true
        → (begins_with_deadline note (get_or threads x no_thread) ≡ true)
        × ((get_or threads x no_thread).deadline ≤ greatest (cond b (part ∷ takers note threads) (takers note threads)))
    by true rest all =
        let own = rest (both (begins_with_deadline note part) (list_all (begins_with_deadline note) (takers note threads)) all).1 in
        let l = own.1 in
        (own.0, omega (arith, l))
    by false rest all = rest all

may-take : (note due : ℕ) (part : ThreadPart) → may_take note part ≡ true → begins_with_deadline note part ≡ true → part.deadline ≤ due → MayTake note due part
may-take note due part takes begins l =
    let halves = both (not (part.deadline == 0)) (waits_first_alone note part.script) begins in
    record {
      waits = by (slice_get part.script 0) (first-alone note part.script takes halves.1);
      alone = halves.1;
      some = negated (part.deadline == 0) halves.0;
      within = l;
    }
  where
    negated : (b : Bool) → not b ≡ true → b ≡ false
    negated true e = absurd (contrary false refl e)
    negated false e = refl

    by : (o : Option Item) → o ≡ Some (Wait note) → waited_on o ≡ Some note
    by o e = ap waited_on e

pub taker : (system : System) (note due x place : ℕ) → due_of note system.threads ≡ Some due
    → slice_get (thread_part system x).script place ≡ Some (Wait note) → MayTake note due (thread_part system x)
taker system note due x place e item =
    let all = due-all note due (takers note system.threads) e in
    let takes = wait-takes note place (thread_part system x) item in
    let own = taker-begins note x system.threads takes all.0 in
    let l = own.1 in
    let is = all.1 in
    may-take note due (thread_part system x) takes own.0 (omega (arith, l, is))

-- and that there is one
some-taker : (note due : ℕ) (threads : List ThreadPart) → due_by note (takers note threads) ≡ Some due
    → (x : ℕ) × (may_take note (get_or threads x no_thread) ≡ true)
some-taker note due [] e = absurd (none-some due e)
some-taker note due (part ∷ threads) e = by (may_take note part) refl (λ e. some-taker note due threads e) e
  where
    by : (b : Bool) → may_take note part ≡ b
        → (due_by note (takers note threads) ≡ Some due → (x : ℕ) × (may_take note (get_or threads x no_thread) ≡ true))
        → due_by note (cond b (part ∷ takers note threads) (takers note threads)) ≡ Some due
        → (x : ℕ) × (may_take note (get_or (part ∷ threads) x no_thread) ≡ true)
    by true f rest e = (0, f)
    by false f rest e = let one = rest e in (suc one.0, one.1)

pub one-taker : (system : System) (note due : ℕ) → due_of note system.threads ≡ Some due → (x : ℕ) × MayTake note due (thread_part system x)
one-taker system note due e =
    let one = some-taker note due system.threads e in
    let all = due-all note due (takers note system.threads) e in
    let own = taker-begins note one.0 system.threads one.1 all.0 in
    let l = own.1 in
    let is = all.1 in
    (one.0, may-take note due (thread_part system one.0) one.1 own.0 (omega (arith, l, is)))

-- a word that leaves something to do to each thread that waits first for it
pub calls-one : (note word x : ℕ) (threads : List ThreadPart) → calls_each note word threads ≡ true → first_wait (get_or threads x no_thread) ≡ Some note
    → calls (bits_of (get_or threads x no_thread)) word ≡ true
calls-one note word x [] e first = absurd (cc)
calls-one note word zero (part ∷ threads) e first =
    by (waits_for note (first_wait part)) (ap (waits_for note) first ∙ self note)
    (both (not (waits_for note (first_wait part)) || calls (bits_of part) word) (calls_each note word threads) e).0
  where
    by : (b : Bool) → b ≡ true → (not b || calls (bits_of part) word) ≡ true → calls (bits_of part) word ≡ true
    by true f e = e
    by false f e = absurd (contrary false refl f)
calls-one note word (suc x) (part ∷ threads) e first =
    calls-one note word x threads (both (not (waits_for note (first_wait part)) || calls (bits_of part) word) (calls_each note word threads) e).1 first

pub calls-each-or : (note word badge : ℕ) (threads : List ThreadPart) → calls_each note word threads ≡ true → calls_each note (bit_or word badge) threads ≡ true
calls-each-or note word badge [] e = refl
calls-each-or note word badge (part ∷ threads) e =
    let halves = both (not (waits_for note (first_wait part)) || calls (bits_of part) word) (calls_each note word threads) e in
    both-are (not (waits_for note (first_wait part)) || calls (bits_of part) (bit_or word badge)) (calls_each note (bit_or word badge) threads)
    (by (not (waits_for note (first_wait part))) halves.0)
    (calls-each-or note word badge threads halves.1)
  where
    by : (b : Bool) → (b || calls (bits_of part) word) ≡ true → (b || calls (bits_of part) (bit_or word badge)) ≡ true
    by true e = refl
    by false e = calls-or (bits_of part) word badge e
