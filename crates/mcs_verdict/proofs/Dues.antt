-- One pass over the scripts finds the deadline of each notification.
use Rattle.std.proofs.Common.{◌≡◌, ◌≢◌, ℕ, suc, zero, ◌+◌, ◌<◌, ◌≤◌, max, Bool, false, ◌==◌, ◌&&◌, not, if◌then◌else◌, List, [], ◌∷◌, get_or, set, length, replicate, Some, None, refl, sym, ap, ◌∙◌, arith}
use Rattle.std.specs.List.{list_all, list_any}
use Rattle.std.proofs.lemmas.Bool.Decides.{nat_tests}
use Rattle.std.proofs.lemmas.List.{get_or-replicate, length-replicate}
use Rattle.mcs_script.specs.declared.item.Item.{Item}
use Rattle.mcs_script.specs.declared.item.Item.TheVariants.{Wait}
use Rattle.mcs_system.specs.declared.part.ThreadPart.{ThreadPart}
use Rattle.mcs_verdict.specs.declared.due.Due.{Due}
use Rattle.mcs_verdict.specs.declared.due.Due.TheVariants.{Unused, Within, Without}
use Rattle.mcs_verdict.specs.Calls.{waited_on}
use Rattle.mcs_verdict.specs.Takers.{waits_on, waits_first_alone, takers, begins_with_deadline, greatest, due_of}
use Rattle.mcs_verdict.specs.Dues.{due_first, due_wait, due_item, due_items, due_part, due_parts, each_due, known_due}

-- one step after another
pub each_twice : (n : ℕ) (f g : ℕ → Due → Due) (dues : List Due) → each_due n f (each_due n g dues) ≡ each_due n (λ k due. f k (g k due)) dues
each_twice n f g [] = refl
each_twice n f g (due ∷ dues) = ap (λ rest. f n (g n due) ∷ rest) (each_twice (suc n) f g dues)

-- a step that changes none
pub each_none : (n : ℕ) (f : ℕ → Due → Due) (dues : List Due) → ((k : ℕ) (due : Due) → n ≤ k → k < n + length dues → f k due ≡ due) → each_due n f dues ≡ dues
each_none n f [] same = refl
each_none n f (due ∷ dues) same =
    cc (same n due (omega arith) (omega arith), each_none (suc n) f dues (λ k due h less. same k due (omega arith) (omega arith)))

-- a step that changes one
pub each_at : (n x y : ℕ) (f : ℕ → Due → Due) (dues : List Due) (new d : Due) → x ≡ n + y → y < length dues → new ≡ f x (get_or dues y d)
    → ((k : ℕ) (due : Due) → k ≢ x → f k due ≡ due) → set dues y new ≡ each_due n f dues
each_at n x y f [] new d e h is same = absurd (omega (arith, h))
each_at n x zero f (due ∷ dues) new d e h is same =
    let here : x ≡ n = omega (arith, e) in
    cc (here, is, each_none (suc n) f dues (λ k due h less. same k due (λ at. absurd (omega (arith, at, here, h)))))
each_at n x (suc y) f (due ∷ dues) new d e h is same =
    cc (
      same n due (λ at. absurd (omega (arith, at, e))),
      each_at (suc n) x y f dues new d (omega (arith, e)) (omega (arith, h)) is same,
    )

pub length-each : (n : ℕ) (f : ℕ → Due → Due) (dues : List Due) → length (each_due n f dues) ≡ length dues
length-each n f [] = refl
length-each n f (due ∷ dues) = ap suc (length-each (suc n) f dues)

each_from : (n x y : ℕ) (f : ℕ → Due → Due) (dues : List Due) (d : Due) → x ≡ n + y → y < length dues → get_or (each_due n f dues) y d ≡ f x (get_or dues y d)
each_from n x y f [] d e h = absurd (omega (arith, h))
each_from n x zero f (due ∷ dues) d e h = ap (λ k. f k due) (omega (arith, e))
each_from n x (suc y) f (due ∷ dues) d e h = each_from (suc n) x y f dues d (omega (arith, e)) (omega (arith, h))

-- a wait for a notification changes its deadline alone
pub item_other : (note x deadline : ℕ) (first : Bool) (due : Due) → note ≢ x → due_item note first deadline (Wait x) due ≡ due
item_other note x deadline first due other = grind (arith, nat_tests)

pub item_same : (x deadline : ℕ) (first : Bool) (due : Due) → due_item x first deadline (Wait x) due ≡ due_wait first deadline due
item_same x deadline first due = grind (arith, nat_tests)

-- an item that is a wait, and one that is none
wait_is : (item : Item) (x : ℕ) → waited_on (Some item) ≡ Some x → item ≡ Wait x
wait_is item x e = grind (arith, e)

wait_none : (note : ℕ) (item : Item) → waited_on (Some item) ≡ None → waits_on note item ≡ false
wait_none note item e = grind (arith, e)

pub seen_wait : (x deadline : ℕ) (first : Bool) (item : Item) (dues : List Due) (new d : Due) → waited_on (Some item) ≡ Some x → x < length dues
    → new ≡ due_wait first deadline (get_or dues x d)
    → set dues x new ≡ each_due 0 (λ note due. due_item note first deadline item due) dues
seen_wait x deadline first item dues new d e h is =
    rw (wait_is item x e)
    (each_at 0 x x (λ note due. due_item note first deadline (Wait x) due) dues new d (omega arith) h
    (is ∙ sym (item_same x deadline first (get_or dues x d)))
    (λ k due other. item_other k x deadline first due other))

pub unseen_wait : (x deadline : ℕ) (first : Bool) (item : Item) (dues : List Due) → waited_on (Some item) ≡ Some x → length dues ≤ x
    → dues ≡ each_due 0 (λ note due. due_item note first deadline item due) dues
unseen_wait x deadline first item dues e h =
    rw (wait_is item x e)
    (sym (each_none 0 (λ note due. due_item note first deadline (Wait x) due) dues (λ k due at less. item_other k x deadline first due (λ e. absurd (omega (arith, e, h, less))))))

pub seen_other : (deadline : ℕ) (first : Bool) (item : Item) (dues : List Due) → waited_on (Some item) ≡ None
    → dues ≡ each_due 0 (λ note due. due_item note first deadline item due) dues
seen_other deadline first item dues e =
    sym (each_none 0 (λ note due. due_item note first deadline item due) dues (λ k due at less. rw (wait_none k item e) refl))

-- what a script leaves: each wait behind its first item is one within a round
rest-due : (note i deadline : ℕ) (items : List Item) (due : Due) → due_items note (suc i) deadline items due ≡ (if list_any (waits_on note) items then Without else due)
rest-due note i deadline [] due = refl
rest-due note i deadline (item ∷ items) due =
    grind (
      arith,
      nat_tests,
      rest-due note (suc i) deadline items due,
      rest-due note (suc i) deadline items Without,
    )

-- what a thread makes of a deadline
abbrev taken_by : ℕ → ThreadPart → Due → Due
taken_by note part due = if begins_with_deadline note part then due_first part.deadline due else Without

part-due : (note : ℕ) (part : ThreadPart) (due : Due) → due_part note part due ≡ (if list_any (waits_on note) part.script then taken_by note part due else due)
part-due note part due = by part.script part.deadline
  where
    by : (items : List Item) (deadline : ℕ) → due_items note 0 deadline items due
        ≡ (if list_any (waits_on note) items then (if not (deadline == 0) && waits_first_alone note items then due_first deadline due else Without) else due)
    by [] deadline = refl
    by (item ∷ items) deadline =
        grind (
          arith,
          nat_tests,
          rest-due note 0 deadline items due,
          rest-due note 0 deadline items (due_first deadline due),
        )

-- a deadline that is lost stays so
parts-without : (note : ℕ) (parts : List ThreadPart) → due_parts note parts Without ≡ Without
parts-without note [] = refl
parts-without note (part ∷ parts) = grind (arith, part-due note part Without, parts-without note parts)

parts-within : (note : ℕ) (parts : List ThreadPart) (most : ℕ)
    → due_parts note parts (Within most)
    ≡ (if list_all (begins_with_deadline note) (takers note parts) then Within (max most (greatest (takers note parts))) else Without)
parts-within note [] most = ap Within (omega arith)
parts-within note (part ∷ parts) most =
    grind (
      arith,
      nat_tests,
      part-due note part (Within most),
      parts-without note parts,
      parts-within note parts most,
      parts-within note parts (max most part.deadline),
    )

pub parts-due : (note : ℕ) (parts : List ThreadPart) → known_due (due_parts note parts Unused) ≡ due_of note parts
parts-due note [] = refl
parts-due note (part ∷ parts) =
    grind (
      arith,
      nat_tests,
      part-due note part Unused,
      parts-without note parts,
      parts-within note parts part.deadline,
      parts-due note parts,
    )

-- the deadline that is kept of a notification
pub known-due : (note place count : ℕ) (parts : List ThreadPart) (dues : List Due) (d : Due) → place ≡ note → place < count
    → dues ≡ each_due 0 (λ note due. due_parts note parts due) (replicate count Unused) → d ≡ get_or dues place d → known_due d ≡ due_of note parts
known-due note place count parts dues d same h e is =
    let step : ℕ → Due → Due = λ note due. due_parts note parts due in
    let long : place < length (replicate count Unused) = omega (arith, h, length-replicate count Unused) in
    let at : get_or dues place d ≡ due_parts place parts Unused =
    ap (λ (dues : List Due). get_or dues place d) e ∙ each_from 0 place place step (replicate count Unused) d (omega arith) long
    ∙ ap (λ due. due_parts place parts due) (get_or-replicate count place Unused d h)
    in
    ap known_due (is ∙ at) ∙ parts-due place parts ∙ ap (λ note. due_of note parts) same

-- one item more, and no item is left
pub items-step : (i next deadline : ℕ) (items rest : List Item) (item : Item) (dues dues' all : List Due) → next ≡ suc i → items ≡ item ∷ rest
    → dues' ≡ each_due 0 (λ note due. due_item note (i == 0) deadline item due) dues
    → each_due 0 (λ note due. due_items note i deadline items due) dues ≡ all → each_due 0 (λ note due. due_items note next deadline rest due) dues' ≡ all
items-step i next deadline items rest item dues dues' all n e is so =
    rw n
    (ap (each_due 0 (λ note due. due_items note (suc i) deadline rest due)) is
    ∙ each_twice 0 (λ note due. due_items note (suc i) deadline rest due) (λ note due. due_item note (i == 0) deadline item due) dues
    ∙ sym (ap (λ items. each_due 0 (λ note due. due_items note i deadline items due) dues) e) ∙ so)

pub items-done : (i deadline : ℕ) (items : List Item) (dues all : List Due) → items ≡ []
    → each_due 0 (λ note due. due_items note i deadline items due) dues ≡ all → dues ≡ all
items-done i deadline items dues all e so =
    sym (each_none 0 (λ note due. due) dues (λ k due h less. refl)) ∙ sym (ap (λ items. each_due 0 (λ note due. due_items note i deadline items due) dues) e) ∙ so

-- one thread more, and no thread is left
pub parts-step : (parts rest : List ThreadPart) (part : ThreadPart) (dues dues' all : List Due) → parts ≡ part ∷ rest
    → dues' ≡ each_due 0 (λ note due. due_part note part due) dues
    → each_due 0 (λ note due. due_parts note parts due) dues ≡ all → each_due 0 (λ note due. due_parts note rest due) dues' ≡ all
parts-step parts rest part dues dues' all e is so =
    ap (each_due 0 (λ note due. due_parts note rest due)) is
    ∙ each_twice 0 (λ note due. due_parts note rest due) (λ note due. due_part note part due) dues
    ∙ sym (ap (λ parts. each_due 0 (λ note due. due_parts note parts due) dues) e) ∙ so

pub parts-done : (parts : List ThreadPart) (dues all : List Due) → parts ≡ []
    → each_due 0 (λ note due. due_parts note parts due) dues ≡ all → dues ≡ all
parts-done parts dues all e so =
    sym (each_none 0 (λ note due. due) dues (λ k due h less. refl)) ∙ sym (ap (λ parts. each_due 0 (λ note due. due_parts note parts due) dues) e) ∙ so

pub known-many : (count : ℕ) (parts : List ThreadPart) (dues : List Due) → dues ≡ each_due 0 (λ note due. due_parts note parts due) (replicate count Unused)
    → length dues ≡ count
known-many count parts dues e =
    ap length e ∙ length-each 0 (λ note due. due_parts note parts due) (replicate count Unused) ∙ length-replicate count Unused
