-- If the tests of a script pass, its steps are those of a script of its core.
use Rattle.std.proofs.Common.{◌≡◌, ℕ, suc, ◌+◌, ◌<◌, ◌≤◌, ◌==◌, nat_le, Bool, true, false, not, ◌||◌, ◌⊎◌, inl, inr, List, [], ◌∷◌, ◌++◌, length, length-append, Option, Some, None, is_some, option_and_then, Result, Ok, Err, All, refl, ap, sym, ◌∙◌, arith}
use Rattle.std.specs.Prelude.{fold, bit_or}
use Rattle.std.specs.List.{slice_get}
use Rattle.std.proofs.lemmas.Bool.{leb-true, eqb-true}
use Rattle.std.proofs.lemmas.List.{length-map}
use Rattle.std.proofs.lemmas.List.Elements.{All-append, All-nil, All-cons, All-head, All-tail}
use Rattle.std.proofs.lemmas.List.Sums.{fold-append}
use Rattle.toml.specs.Data.{Data, Items, no_items, item, Members, get_member, as_str, as_array}
use Rattle.mcs_script.specs.declared.item.Item.{Item}
use Rattle.mcs_script.specs.declared.item.Item.TheVariants as items
use Rattle.mcs_script.specs.Script.{IsScript, is_wait, is_on, badges_in, badges_of, listens, AreNotBare}
use Rattle.mcs_script.specs.Raw.{Raw, Compute, Signal, Wait, Yield, On, Call, Spin}
use Rattle.mcs_script.specs.declared.fault.ItemFault.{ItemFault}
use Rattle.mcs_system.specs.declared.part.NotePart.{NotePart}
use Rattle.mcs_load.specs.declared.at.At.{At}
use Rattle.mcs_load.specs.declared.script.Resolved.{Resolved}
use Rattle.mcs_load.specs.declared.script.Resolved.TheVariants.{Step, CallOf}
use Rattle.mcs_load.specs.declared.server.Server.{Server}
use Rattle.mcs_load.specs.declared.spot.Key.TheVariants as key
use Rattle.mcs_load.specs.Checks.{Checked, first_failed}
use Rattle.mcs_load.specs.Keys.{key_name}
use Rattle.mcs_load.specs.Words.{each_from, if_there, place_of, bytes_or_none, item_count, items_or_none}
use Rattle.mcs_load.specs.Script.{read_text, said, place_named, core_of, server_at, note_names, server_names, named, read_item, Body, no_items_yet, begins_handler, may_stand, hears, first_step, steps_of, with_item, heard_item, few_steps, next_item, first_bare, no_bare_wait, texts, body, script, server_script}
use Rattle.mcs_load.proofs.Bare.{are_not_bare}
use Rattle.mcs_load.specs.stored.Ready.{IsStep, AreSteps, AreReady}
use Rattle.mcs_load.proofs.Calls.{IsKnownItem, further_steps, steps_are, are_further, steps_known, goes_nil, goes_append}
use Rattle.mcs_load.proofs.Items.{IsRaw, text_raw}
use Rattle.mcs_load.proofs.Passed.{passed_test, both_passed, each_from_keeps, place_within}
use Rattle.mcs_load.proofs.Shapes.{HasShape, no_shape, shape_more, steps_not_bare}

said_by : (at : At) (number : ℕ) (is_new : Bool) (text : List ℕ) (r : Result Raw ItemFault) → read_text is_new text ≡ r → first_failed (said at number r).tests ≡ None → IsRaw (said at number r).value
unfolding said
said_by at number is_new text (Ok raw) e h = text_raw is_new text raw e
said_by at number is_new text (Err fault) e h = cc

said_passed : (at : At) (number : ℕ) (is_new : Bool) (text : List ℕ) → first_failed (said at number (read_text is_new text)).tests ≡ None → IsRaw (said at number (read_text is_new text)).value
said_passed at number is_new text h = said_by at number is_new text (read_text is_new text) refl h

place_named_passed : (at : At) (number : ℕ) (names : List (List ℕ)) (name : List ℕ) → first_failed (place_named at number names name).tests ≡ None
    → (place_named at number names name).value < length names
unfolding place_named
place_named_passed at number names name h =
    place_within name names (passed_test (is_some (place_of name names)) _ _ h).0

-- the badges of handlers
none_in : (step : Item) → is_on step ≡ false → badges_in step ≡ 0
none_in (items.On badges) h = cc
none_in (items.Compute ticks) h = refl
none_in (items.Signal note badge) h = refl
none_in (items.Wait note) h = refl
none_in items.Yield h = refl
none_in items.Spin h = refl
none_in (items.Enter number priority) h = refl
none_in (items.Leave number priority) h = refl

no_badges : (xs : List Item) → All (λ s. is_on s ≡ false) xs → badges_of xs ≡ 0
no_badges [] h = refl
no_badges (x ∷ xs) h = rw (none_in x (All-head (λ s. is_on s ≡ false) x xs h)) (no_badges xs (All-tail (λ s. is_on s ≡ false) x xs h))

still_no_badges : (xs ys : List Item) → badges_of xs ≡ 0 → badges_of ys ≡ 0 → badges_of (xs ++ ys) ≡ 0
still_no_badges xs ys p q =
    let step = λ (badges : ℕ) (s : Item). bit_or badges (badges_in s) in
    fold-append step 0 xs ys ∙ (ap (λ (n : ℕ). fold step n ys) p ∙ q)

module _ (notes : List NotePart) (servers : List Server) (core priority : ℕ) where
  named_passed : (at : At) (number : ℕ) (raw : Raw) → IsRaw raw → first_failed (named notes servers core priority at number raw).tests ≡ None
      → IsKnownItem notes servers core priority (named notes servers core priority at number raw).value
  unfolding named
  named_passed at number (Compute ticks) r h = (r, refl)
  named_passed at number (Signal name badge) r h =
      let names = note_names notes servers core priority in
      let p = both_passed (place_named at number names name).tests [] h in
      let within = place_named_passed at number names name p.0 in
      ((omega (arith, within, length-map notes (λ n. n.name)), r.0, r.1), refl)
  named_passed at number (Wait name) r h =
      let names = note_names notes servers core priority in
      let p = both_passed (place_named at number names name).tests _ h in
      let within = place_named_passed at number names name p.0 in
      let home = passed_test (core_of notes (place_named at number names name).value == core) _ _ p.1 in
      ((omega (arith, within, length-map notes (λ n. n.name)), eqb-true _ core home.0), refl)
  named_passed at number Yield r h = (tt, refl)
  named_passed at number (On badges) r h = (r, refl)
  named_passed at number (Call name badge) r h =
      let names = server_names notes servers core priority in
      let p = both_passed (place_named at number names name).tests _ h in
      let within = place_named_passed at number names name p.0 in
      let home = passed_test ((server_at servers (place_named at number names name).value).core == core) _ _ p.1 in
      (omega (arith, within, length-map servers (λ s. s.name)), eqb-true _ core home.0)
  named_passed at number Spin r h = (tt, refl)

  read_item_passed : (is_new : Bool) (at : At) (number : ℕ) (d : Data) → first_failed (read_item notes servers core priority is_new at number d).tests ≡ None
      → IsKnownItem notes servers core priority (read_item notes servers core priority is_new at number d).value
  unfolding read_item
  read_item_passed is_new at number d h =
      let text = bytes_or_none (as_str d) in
      let p = passed_test (is_some (as_str d)) _ _ h in
      let q = both_passed (said at number (read_text is_new text)).tests _ p.1 in
      named_passed at number (said at number (read_text is_new text)).value (said_passed at number is_new text q.0) q.1

  abbrev next : Bool → Bool → At → Body → Data → Checked Body
  next = next_item notes servers core priority

  -- at most 1,024 steps so far, and of a thread only a first wait lets handlers stand
  record IsHeard (is_server : Bool) (read : Body) : Type 0 where
    most : length read.steps ≤ 1024
    heard : is_server ≡ false → (badges_of read.steps ≡ 0) ⊎ (is_wait (slice_get read.firsts 0) ≡ true)

  may_wait : (is_server b w : Bool) → is_server ≡ false → (is_server || (not b || w)) ≡ true → b ≡ true → w ≡ true
  may_wait true b w e h g = cc
  may_wait false false w e h g = cc
  may_wait false true w e h g = h

  none_on : (item : Resolved) → begins_handler item ≡ false → All (λ s. is_on s ≡ false) (steps_of notes servers core priority item)
  none_on (Step step) h = All-cons (λ s. is_on s ≡ false) step [] h (All-nil (λ s. is_on s ≡ false))
  none_on (CallOf place badge) h =
      All-cons (λ s. is_on s ≡ false) (first_step notes servers core priority (CallOf place badge)) (further_steps notes servers core priority (CallOf place badge)) refl
      (are_further notes servers core priority (CallOf place badge)).none_begins

  wait_stays : (xs : List Item) (x : Item) → is_wait (slice_get xs 0) ≡ true → is_wait (slice_get (xs ++ x ∷ []) 0) ≡ true
  wait_stays [] x h = cc
  wait_stays (y ∷ ys) x h = h

  heard_more : (is_server : Bool) (before : Body) (it : Resolved) → may_stand is_server before.firsts it ≡ true → is_server ≡ false
      → (badges_of before.steps ≡ 0) ⊎ (is_wait (slice_get before.firsts 0) ≡ true)
      → (badges_of (with_item notes servers core priority before it).steps ≡ 0) ⊎ (is_wait (slice_get (with_item notes servers core priority before it).firsts 0) ≡ true)
  heard_more is_server before it may e (inr waits) = inr (wait_stays before.firsts (first_step notes servers core priority it) waits)
  heard_more is_server before it may e (inl none) = by (begins_handler it) refl
    where
      by : (b : Bool) → begins_handler it ≡ b
          → (badges_of (with_item notes servers core priority before it).steps ≡ 0) ⊎ (is_wait (slice_get (with_item notes servers core priority before it).firsts 0) ≡ true)
      by true f = inr (wait_stays before.firsts (first_step notes servers core priority it) (may_wait is_server (begins_handler it) (is_wait (slice_get before.firsts 0)) e may f))
      by false f = inl (still_no_badges before.steps (steps_of notes servers core priority it) none (no_badges (steps_of notes servers core priority it) (none_on it f)))

  next_heard : (is_new is_server : Bool) (at : At) (before : Body) (d : Data) → IsHeard is_server before → first_failed (next is_new is_server at before d).tests ≡ None
      → IsHeard is_server (next is_new is_server at before d).value
  unfolding next_item heard_item hears few_steps
  next_heard is_new is_server at before d so_far h =
      let item = (read_item notes servers core priority is_new at (suc (length before.firsts)) d).value in
      let p = both_passed (heard_item notes servers core priority is_new is_server at before.firsts d).tests _ h in
      let o = both_passed (read_item notes servers core priority is_new at (suc (length before.firsts)) d).tests _ p.0 in
      let q = passed_test (may_stand is_server before.firsts item) _ _ o.1 in
      let r = passed_test (nat_le (length (with_item notes servers core priority before item).steps) 1024) _ _ p.1 in
      record {
        most = leb-true (length (with_item notes servers core priority before item).steps) 1024 r.0;
        heard = λ e. heard_more is_server before item q.0 e (so_far.heard e);
      }

  next_known : (is_new is_server : Bool) (at : At) (before : Body) (d : Data) → AreReady notes servers → AreSteps notes servers core before.steps
      → first_failed (next is_new is_server at before d).tests ≡ None → AreSteps notes servers core (next is_new is_server at before d).value.steps
  unfolding next_item heard_item
  next_known is_new is_server at before d ready so_far h =
      let read = (read_item notes servers core priority is_new at (suc (length before.firsts)) d).value in
      let p = both_passed (heard_item notes servers core priority is_new is_server at before.firsts d).tests _ h in
      let o = both_passed (read_item notes servers core priority is_new at (suc (length before.firsts)) d).tests _ p.0 in
      let known = read_item_passed is_new at (suc (length before.firsts)) d o.0 in
      let more = steps_known notes servers core priority read ready known in
      record {
        known = All-append (IsStep notes servers core) before.steps (steps_of notes servers core priority read) so_far.known more.known;
        entering = goes_append before.steps (steps_of notes servers core priority read) so_far.entering more.entering;
      }

  -- the steps have the shape of a script
  record IsShaped (read : Body) : Type 0 where
    shape : HasShape read.firsts read.steps
    first : slice_get read.firsts 0 ≡ slice_get read.steps 0

  first_stays : (firsts steps : List Item) (f : Item) (rest : List Item) → slice_get firsts 0 ≡ slice_get steps 0 → slice_get (firsts ++ f ∷ []) 0 ≡ slice_get (steps ++ (f ∷ rest)) 0
  first_stays [] [] f rest h = refl
  first_stays [] (y ∷ ys) f rest h = cc
  first_stays (x ∷ xs) [] f rest h = cc
  first_stays (x ∷ xs) (y ∷ ys) f rest h = h

  shaped_more : (before : Body) (it : Resolved) → IsShaped before → IsShaped (with_item notes servers core priority before it)
  shaped_more before it so_far =
      let f = first_step notes servers core priority it in
      let rest = further_steps notes servers core priority it in
      rw (steps_are notes servers core priority it)
      (record {
        shape = shape_more before.firsts before.steps so_far.shape f rest (are_further notes servers core priority it);
        first = first_stays before.firsts before.steps f rest so_far.first;
      })

  next_shaped : (is_new is_server : Bool) (at : At) (before : Body) (d : Data) → IsShaped before → first_failed (next is_new is_server at before d).tests ≡ None
      → IsShaped (next is_new is_server at before d).value
  unfolding next_item heard_item
  next_shaped is_new is_server at before d so_far h =
      shaped_more before (read_item notes servers core priority is_new at (suc (length before.firsts)) d).value so_far

  -- each item has a first step
  count_firsts : (is_new is_server : Bool) (at : At) (items : Items) (before : Body)
      → length (each_from (next is_new is_server at) before items).value.firsts ≡ length before.firsts + item_count items
  unfolding next_item heard_item
  count_firsts is_new is_server at no_items before = omega arith
  count_firsts is_new is_server at (item d others) before =
      let read = (read_item notes servers core priority is_new at (suc (length before.firsts)) d).value in
      let one : length (before.firsts ++ first_step notes servers core priority read ∷ []) ≡ length before.firsts + 1 = length-append before.firsts (first_step notes servers core priority read ∷ []) in
      count_firsts is_new is_server at others (with_item notes servers core priority before read) ∙ (ap (λ n. n + item_count others) one ∙ omega arith)

at_least : (least : ℕ) (values : Option Items) → is_some values ≡ true → if_there (λ ds. nat_le least (item_count ds)) values ≡ true → least ≤ item_count (items_or_none values)
at_least least None s h = cc
at_least least (Some items) s h = leb-true least (item_count items) h

is_array : (found : Option Data) → is_some found ≡ true → if_there (λ d. is_some (as_array d)) found ≡ true → is_some (option_and_then as_array found) ≡ true
is_array None s h = cc
is_array (Some d) s h = h

-- there is one text or more
texts_passed : (at : At) (row : Members) → first_failed (texts at row).tests ≡ None → 1 ≤ item_count (texts at row).value
unfolding texts
texts_passed at row h =
    let found = get_member (key_name key.Script) row in
    let values = option_and_then as_array found in
    let p = passed_test (is_some found) _ _ h in
    let q = passed_test (if_there (λ d. is_some (as_array d)) found) _ _ p.1 in
    let r = passed_test (if_there (λ ds. nat_le 1 (item_count ds)) values) _ _ q.1 in
    at_least 1 values (is_array found p.0 q.0) r.0

some_steps : (firsts steps : List Item) → slice_get firsts 0 ≡ slice_get steps 0 → 1 ≤ length firsts → 1 ≤ length steps
some_steps [] steps h some = absurd (omega arith)
some_steps (x ∷ xs) [] h some = cc
some_steps (x ∷ xs) (y ∷ ys) h some = omega arith

listens_by : (w : Bool) (n : ℕ) → (n ≡ 0) ⊎ (w ≡ true) → (w || (n == 0)) ≡ true
listens_by true n h = refl
listens_by false n (inl e) = rw e refl
listens_by false n (inr e) = cc

no_bare_passed : (at : At) (r : Option ℕ) → first_failed (no_bare_wait at r).tests ≡ None → r ≡ None
unfolding no_bare_wait
no_bare_passed at None h = refl
no_bare_passed at (Some number) h = cc

module _ (notes : List NotePart) (servers : List Server) (core priority : ℕ) (is_new is_server : Bool) (at : At) where
  abbrev one : Body → Data → Checked Body
  one = next_item notes servers core priority is_new is_server at

  abbrev whole : Members → Checked Body
  whole = body notes servers core priority is_new is_server at

  body_heard : (row : Members) → first_failed (whole row).tests ≡ None → IsHeard notes servers core priority is_server (whole row).value
  unfolding body
  body_heard row h =
      let p = both_passed (texts at row).tests _ h in
      let none : IsHeard notes servers core priority is_server no_items_yet = record { most = omega arith; heard = λ e. inl refl } in
      each_from_keeps one (IsHeard notes servers core priority is_server) (next_heard notes servers core priority is_new is_server at) (texts at row).value no_items_yet none p.1

  body_shaped : (row : Members) → first_failed (whole row).tests ≡ None → IsShaped notes servers core priority (whole row).value
  unfolding body
  body_shaped row h =
      let p = both_passed (texts at row).tests _ h in
      let none : IsShaped notes servers core priority no_items_yet = record { shape = no_shape; first = refl } in
      each_from_keeps one (IsShaped notes servers core priority) (next_shaped notes servers core priority is_new is_server at) (texts at row).value no_items_yet none p.1

  body_known : (row : Members) → AreReady notes servers → first_failed (whole row).tests ≡ None → AreSteps notes servers core (whole row).value.steps
  unfolding body
  body_known row ready h =
      let p = both_passed (texts at row).tests _ h in
      let none : AreSteps notes servers core [] = record { known = All-nil (IsStep notes servers core); entering = goes_nil } in
      each_from_keeps one (λ read. AreSteps notes servers core read.steps) (λ before d so_far q. next_known notes servers core priority is_new is_server at before d ready so_far q) (texts at row).value no_items_yet none p.1

  body_some : (row : Members) → first_failed (whole row).tests ≡ None → 1 ≤ length (whole row).value.firsts
  unfolding body
  body_some row h =
      let p = both_passed (texts at row).tests _ h in
      let some = texts_passed at row p.0 in
      omega (arith, count_firsts notes servers core priority is_new is_server at (texts at row).value no_items_yet, some)

-- the steps of a thread whose items have no bare wait
pub body_is_script : (notes : List NotePart) (servers : List Server) (core priority : ℕ) (is_new : Bool) (at : At) (row : Members) → AreReady notes servers
    → first_failed (body notes servers core priority is_new false at row).tests ≡ None
    → first_failed (no_bare_wait at (first_bare (body notes servers core priority is_new false at row).value.firsts)).tests ≡ None
    → IsScript (body notes servers core priority is_new false at row).value.steps
body_is_script notes servers core priority is_new at row ready h bare =
    let read = (body notes servers core priority is_new false at row).value in
    let heard = body_heard notes servers core priority is_new false at row h in
    let shaped = body_shaped notes servers core priority is_new false at row h in
    let some = body_some notes servers core priority is_new false at row h in
    let first : slice_get read.firsts 0 ≡ slice_get read.steps 0 = shaped.first in
    record {
      some = some_steps read.firsts read.steps first some;
      most = heard.most;
      waits = steps_not_bare read.firsts read.steps shaped.shape (are_not_bare read.firsts (no_bare_passed at (first_bare read.firsts) bare));
      entering = (body_known notes servers core priority is_new false at row ready h).entering;
      listening = ap (λ o. is_wait o || (badges_of read.steps == 0)) (sym first) ∙ listens_by (is_wait (slice_get read.firsts 0)) (badges_of read.steps) (heard.heard refl);
    }

pub script_passed : (notes : List NotePart) (servers : List Server) (core priority : ℕ) (is_new : Bool) (at : At) (row : Members) → AreReady notes servers
    → first_failed (script notes servers core priority is_new at row).tests ≡ None
    → IsScript (script notes servers core priority is_new at row).value × AreSteps notes servers core (script notes servers core priority is_new at row).value
unfolding script
script_passed notes servers core priority is_new at row ready h =
    let read = body notes servers core priority is_new false at row in
    let p = both_passed read.tests _ h in
    let q = both_passed (no_bare_wait at (first_bare read.value.firsts)).tests [] p.1 in
    (body_is_script notes servers core priority is_new at row ready p.0 q.0, body_known notes servers core priority is_new false at row ready p.0)

pub server_script_passed : (notes : List NotePart) (servers : List Server) (core priority : ℕ) (at : At) (row : Members) → AreReady notes servers
    → first_failed (server_script notes servers core priority at row).tests ≡ None
    → AreSteps notes servers core (server_script notes servers core priority at row).value
unfolding server_script
server_script_passed notes servers core priority at row ready h =
    let read = body notes servers core priority true true at row in
    let p = both_passed read.tests [] h in
    body_known notes servers core priority true true at row ready p.0
