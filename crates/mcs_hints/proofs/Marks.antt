-- Marks of notifications after one item more.
use Rattle.std.proofs.Common.{◌≡◌, ◌≢◌, ℕ, ◌+◌, ◌<◌, ◌≤◌, Bool, true, false, ◌||◌, eqb, List, [], ◌∷◌, ◌++◌, length, get_or, set, take, Some, None, refl, sym, ap, ◌∙◌, arith, append_assoc}
use Rattle.std.specs.List.{list_any, slice_get}
use Rattle.std.proofs.Math.Bool.{or-false}
use Rattle.std.proofs.lemmas.Bool.{or_right, ne_eqb, eq-eqb}
use Rattle.std.proofs.lemmas.List.{set_past, take_more}
use Rattle.std.proofs.lemmas.List.Folds.{list_any-append}
use Rattle.std.proofs.lemmas.Option.{get_or_from_slice_get, slice_get-get_or}
use Rattle.mcs_script.specs.declared.item.Item.{Item}
use Rattle.mcs_script.specs.declared.item.Item.TheVariants.{Signal, Wait}
use Rattle.mcs_system.specs.declared.part.SourcePart.{SourcePart}
use Rattle.mcs_hints.specs.declared.notes.Mark.{Mark}
use Rattle.mcs_hints.specs.Notes.{waits_on, signals, interrupts}
use Rattle.mcs_hints.specs.stored.Marks.{mark_of, marks_of, marked_of, all_marks_of, waits_with, signals_with}
use Rattle.mcs_hints.proofs.Numbers.{set_number, same_numbers, at_number, length-numbers}

pub any_push : {X : Type 0} (p : X → Bool) (xs : List X) (x : X) (b : Bool) → p x ≡ b → list_any p (xs ++ x ∷ []) ≡ (list_any p xs || b)
any_push p xs x b e = list_any-append p xs (x ∷ []) ∙ ap (λ c. list_any p xs || c) (or-false (p x) ∙ e)

-- an element that does not pass changes nothing, and one that does settles it
pub any_push_no : {X : Type 0} (p : X → Bool) (xs : List X) (x : X) → p x ≡ false → list_any p (xs ++ x ∷ []) ≡ list_any p xs
any_push_no p xs x e = any_push p xs x false e ∙ or-false (list_any p xs)

pub any_push_yes : {X : Type 0} (p : X → Bool) (xs : List X) (x : X) → p x ≡ true → list_any p (xs ++ x ∷ []) ≡ true
any_push_yes p xs x e = any_push p xs x true e ∙ or_right (list_any p xs) true refl

abbrev made : Bool → Bool → Mark
made waits signals = record { waits = waits; signals = signals }

same_marks : (a b c d : Bool) → a ≡ b → c ≡ d → made a c ≡ made b d
same_marks a b c d e f = ap (λ x. made x c) e ∙ ap (λ x. made b x) f

-- an item that neither waits on the notification nor signals it
unsaid : (items : List Item) (item : Item) (k : ℕ) → waits_on k item ≡ false → signals k item ≡ false → mark_of items k ≡ mark_of (items ++ item ∷ []) k
unsaid items item k w s =
    sym (same_marks (list_any (waits_on k) (items ++ item ∷ [])) (list_any (waits_on k) items) (list_any (signals k) (items ++ item ∷ [])) (list_any (signals k) items) (any_push_no (waits_on k) items item w) (any_push_no (signals k) items item s))

other : (note k : ℕ) → k ≢ note → eqb note k ≡ false
other note k differ = ne_eqb note k (λ e. differ (sym e))

pub marks_waited : (note notes : ℕ) (items : List Item) (marks : List Mark) (new d : Mark) → marks ≡ marks_of notes items
    → (note < length marks → new ≡ waits_with (get_or marks note d))
    → set marks note new ≡ marks_of notes (items ++ Wait note ∷ [])
marks_waited note notes items marks new d e is =
    ap (λ marks. set marks note new) e
    ∙ set_number (mark_of items) (mark_of (items ++ Wait note ∷ [])) notes note new here (λ k differ. unsaid items (Wait note) k (other note k differ) refl)
  where
    here : note < notes → new ≡ mark_of (items ++ Wait note ∷ []) note
    here h =
        let l : length marks ≡ notes = ap length e ∙ length-numbers (mark_of items) notes in
        let at : get_or marks note d ≡ mark_of items note = ap (λ marks. get_or marks note d) e ∙ at_number (mark_of items) notes note d h in
        is (omega (arith, l))
        ∙ ap waits_with at
        ∙ sym (same_marks (list_any (waits_on note) (items ++ Wait note ∷ [])) true (list_any (signals note) (items ++ Wait note ∷ [])) (list_any (signals note) items)
        (any_push_yes (waits_on note) items (Wait note) (eq-eqb note note refl)) (any_push_no (signals note) items (Wait note) refl))

pub marks_signalled : (note badge notes : ℕ) (items : List Item) (marks : List Mark) (new d : Mark) → marks ≡ marks_of notes items
    → (note < length marks → new ≡ signals_with (get_or marks note d))
    → set marks note new ≡ marks_of notes (items ++ Signal note badge ∷ [])
marks_signalled note badge notes items marks new d e is =
    ap (λ marks. set marks note new) e
    ∙ set_number (mark_of items) (mark_of (items ++ Signal note badge ∷ [])) notes note new here (λ k differ. unsaid items (Signal note badge) k refl (other note k differ))
  where
    here : note < notes → new ≡ mark_of (items ++ Signal note badge ∷ []) note
    here h =
        let l : length marks ≡ notes = ap length e ∙ length-numbers (mark_of items) notes in
        let at : get_or marks note d ≡ mark_of items note = ap (λ marks. get_or marks note d) e ∙ at_number (mark_of items) notes note d h in
        is (omega (arith, l))
        ∙ ap signals_with at
        ∙ sym (same_marks (list_any (waits_on note) (items ++ Signal note badge ∷ [])) (list_any (waits_on note) items) (list_any (signals note) (items ++ Signal note badge ∷ [])) true
        (any_push_no (waits_on note) items (Signal note badge) refl) (any_push_yes (signals note) items (Signal note badge) (eq-eqb note note refl)))

-- a notification that the system does not have
pub marks_unwaited : (note notes : ℕ) (items : List Item) (marks : List Mark) → marks ≡ marks_of notes items → length marks ≤ note
    → marks ≡ marks_of notes (items ++ Wait note ∷ [])
marks_unwaited note notes items marks e h =
    sym (set_past marks note (made true true) h) ∙ marks_waited note notes items marks (made true true) (made true true) e (λ less. absurd (omega arith))

pub marks_unsignalled : (note badge notes : ℕ) (items : List Item) (marks : List Mark) → marks ≡ marks_of notes items → length marks ≤ note
    → marks ≡ marks_of notes (items ++ Signal note badge ∷ [])
marks_unsignalled note badge notes items marks e h =
    sym (set_past marks note (made true true) h) ∙ marks_signalled note badge notes items marks (made true true) (made true true) e (λ less. absurd (omega arith))

-- the next item of a script
pub item_taken : (items script : List Item) (n : ℕ) (item : Item) → n < length script → slice_get script n ≡ Some item
    → items ++ take n script ++ item ∷ [] ≡ items ++ take (n + 1) script
item_taken items script n item h e =
    let is = get_or_from_slice_get script n item item e in
    append_assoc items (take n script) (item ∷ [])
    ∙ ap (λ xs. items ++ xs) (ap (λ x. take n script ++ x ∷ []) (sym is) ∙ sym (take_more script n item h))

pub none_left : (script : List Item) (n : ℕ) → n < length script → slice_get script n ≡ None → ⊥
none_left script n h e = let known = slice_get-get_or script n (Wait 0) h in cc

-- no source yet
pub marks_by_scripts : (notes : ℕ) (items : List Item) → marks_of notes items ≡ all_marks_of notes items []
marks_by_scripts notes items =
    same_numbers (mark_of items) (marked_of items []) notes (made true true)
    (λ k. same_marks (list_any (waits_on k) items) (list_any (waits_on k) items) (list_any (signals k) items) (list_any (signals k) items || false) refl
    (sym (or-false (list_any (signals k) items))))

-- a source more
pub marks_posted : (note notes : ℕ) (items : List Item) (sources : List SourcePart) (source : SourcePart) (marks : List Mark) (new d : Mark)
    → marks ≡ all_marks_of notes items sources → source.note ≡ note → (note < length marks → new ≡ signals_with (get_or marks note d))
    → set marks note new ≡ all_marks_of notes items (sources ++ source ∷ [])
marks_posted note notes items sources source marks new d e same is =
    ap (λ marks. set marks note new) e
    ∙ set_number (marked_of items sources) (marked_of items (sources ++ source ∷ [])) notes note new here
    (λ k differ. ap (λ b. made (list_any (waits_on k) items) (list_any (signals k) items || b))
    (sym (any_push_no (interrupts k) sources source (ne_eqb source.note k (λ at. differ (sym at ∙ same))))))
  where
    here : note < notes → new ≡ marked_of items (sources ++ source ∷ []) note
    here h =
        let l : length marks ≡ notes = ap length e ∙ length-numbers (marked_of items sources) notes in
        let at : get_or marks note d ≡ marked_of items sources note = ap (λ marks. get_or marks note d) e ∙ at_number (marked_of items sources) notes note d h in
        is (omega (arith, l))
        ∙ ap signals_with at
        ∙ ap (λ b. made (list_any (waits_on note) items) b)
        (sym (ap (λ b. list_any (signals note) items || b) (any_push_yes (interrupts note) sources source (eq-eqb source.note note same))
        ∙ or_right (list_any (signals note) items) true refl))

pub marks_unposted : (note notes : ℕ) (items : List Item) (sources : List SourcePart) (source : SourcePart) (marks : List Mark)
    → marks ≡ all_marks_of notes items sources → source.note ≡ note → length marks ≤ note
    → marks ≡ all_marks_of notes items (sources ++ source ∷ [])
marks_unposted note notes items sources source marks e same h =
    sym (set_past marks note (made true true) h)
    ∙ marks_posted note notes items sources source marks (made true true) (made true true) e same (λ less. absurd (omega arith))
