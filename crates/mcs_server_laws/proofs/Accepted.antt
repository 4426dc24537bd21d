-- Calls that are unfolded into a script nest: what is called within a server is an earlier one.
use Rattle.std.proofs.Common.{◌≡◌, ◌⊎◌, inl, inr, ℕ, zero, suc, ◌+◌, ◌-◌, ◌<◌, ◌≤◌, Bool, true, false, cond, not, ◌==◌, ◌&&◌, ◌||◌, List, [], ◌∷◌, ◌++◌, length, length-append, map, get_or, All, Some, None, is_some, refl, sym, ap, subst, ◌∙◌, append-nil, append_assoc, arith}
use Rattle.std.specs.List.{slice_get}
use Rattle.std.proofs.Math.ListN.{get_or-append}
use Rattle.std.proofs.lemmas.Bool.{cases_lt}
use Rattle.std.proofs.lemmas.Bool.Decides.{nat_tests}
use Rattle.std.proofs.lemmas.List.{length-map, get_or_push}
use Rattle.std.proofs.lemmas.List.Elements.{All-push, All-nil, All-cons, All-head, All-tail}
use Rattle.toml.specs.Data.{Data, Members, as_str}
use Rattle.mcs_script.specs.declared.item.Item.{Item}
use Rattle.mcs_script.specs.declared.item.Item.TheVariants as items
use Rattle.mcs_script.specs.Raw.{Raw, Compute, Signal, Wait, Yield, On, Call, Spin}
use Rattle.mcs_script.specs.Script.{is_on, passes_after}
use Rattle.mcs_system.specs.declared.part.ContextPart.{ContextPart}
use Rattle.mcs_system.specs.declared.part.ThreadPart.{ThreadPart}
use Rattle.mcs_load.specs.declared.spot.Key.TheVariants as key
use Rattle.mcs_load.specs.declared.spot.Section.TheVariants as section
use Rattle.mcs_load.specs.Checks.{first_failed}
use Rattle.mcs_load.specs.Words.{only_keys, whole_number, new_name, row, row_table, rows, array_of, place_of, bytes_or_none}
use Rattle.mcs_load.specs.Script.{server_names, Body, no_items_yet, server_at, no_server, called, call_steps, said, read_text, place_named, named, read_item, heard_item, next_item, steps_of, texts, body, script, server_script}
use Rattle.mcs_load.specs.Walk.{top, is_version_2_or_3, is_version_3, own_context, part_at, times, thread, threads, server, few_notes, servers, numbers, links, contexts, notes, Base, base, others, walk, document, file}
use Rattle.mcs_load.proofs.Calls.{called_none_on}
use Rattle.mcs_load.proofs.Passed.{passed_test, both_passed, each_keeps, each_from_keeps, place_within}
use Rattle.mcs_server_laws.specs.Nesting.{is_in, are_none, without_last, inside_after, inside_from, may_stand, nests_from}
use Rattle.mcs_load.proofs.WellFormed.{accepted_is_well_formed}
use Rattle.mcs_system.specs.System.{no_thread, thread_part}
use Rattle.mcs_server_laws.specs.Ceiling.{priority_in}
use Rattle.mcs_server_laws.specs.Accepted.{AcceptedScriptsNest, AcceptedServersExclude, AcceptedHavePriorities}
use Rattle.mcs_server_laws.proofs.Calm.{with-item}
use Rattle.mcs_server_laws.proofs.Holders.{servers-exclude}
use Rattle.mcs_server_laws.proofs.Tests.{equal, itself, left-true, right-true}

both-true : (a b : Bool) → a ≡ true → b ≡ true → (a && b) ≡ true
both-true a b e f = rw (e, f) refl

same : (a b : ℕ) → a ≡ b → (a == b) ≡ true
same a b e = grind (arith, nat_tests)

apart : (a b : ℕ) → b < a → (a == b) ≡ false
apart a b l = grind (arith, nat_tests)

-- each of these servers has a number from the bound on
abbrev Avoids : ℕ → List ℕ → Type 0
Avoids bound servers = (n : ℕ) → n < bound → is_in n servers ≡ false

module _ (ceiling : ℕ → ℕ) where
  -- a server is entered with its priority, and left for the one before
  abbrev pub goes : ℕ → Item → List ℕ → Bool
  goes own (items.Enter number priority) servers = priority == ceiling number
  goes own (items.Leave number priority) servers = priority == priority_in ceiling own (without_last servers)
  goes own _ servers = true

  -- a script nests, and goes so
  abbrev pub steps_from : ℕ → List Item → List ℕ → Bool
  steps_from own [] servers = are_none servers
  steps_from own (x ∷ xs) servers = may_stand x servers && goes own x servers && steps_from own xs (inside_after x servers)

  -- steps after which a script continues as before them, in servers that avoid the bound and give
  -- this priority
  abbrev pub IsSealed : ℕ → ℕ → List Item → Type 0
  IsSealed bound base xs =
      (own : ℕ) (servers : List ℕ) (ys : List Item) → Avoids bound servers → priority_in ceiling own servers ≡ base → steps_from own ys servers ≡ true
      → steps_from own (xs ++ ys) servers ≡ true

  sealed-nil : (bound base : ℕ) → IsSealed bound base []
  sealed-nil bound base own servers ys a b h = h

  sealed-append : (bound base : ℕ) (xs zs : List Item) → IsSealed bound base xs → IsSealed bound base zs → IsSealed bound base (xs ++ zs)
  sealed-append bound base xs zs p q own servers ys a b h =
      subst (λ all. steps_from own all servers ≡ true) (sym (append_assoc xs zs ys)) (p own servers (zs ++ ys) a b (q own servers ys a b h))

  -- an item that is no call's, and begins no handler
  abbrev IsPlain : Item → Type 0
  IsPlain (items.Enter number priority) = ⊥
  IsPlain (items.Leave number priority) = ⊥
  IsPlain (items.On badges) = ⊥
  IsPlain _ = Unit {0}

  sealed-one : (bound base : ℕ) (x : Item) → IsPlain x → IsSealed bound base (x ∷ [])
  sealed-one bound base (items.Compute ticks) p own servers ys a b h = h
  sealed-one bound base (items.Signal note badge) p own servers ys a b h = h
  sealed-one bound base (items.Wait note) p own servers ys a b h = h
  sealed-one bound base items.Yield p own servers ys a b h = h
  sealed-one bound base items.Spin p own servers ys a b h = h
  sealed-one bound base (items.On badges) p own servers ys a b h = absurd p
  sealed-one bound base (items.Enter number priority) p own servers ys a b h = absurd p
  sealed-one bound base (items.Leave number priority) p own servers ys a b h = absurd p

  -- a call of a server below the bound
  sealed-call : (bound base number priority back : ℕ) (between : List Item) → number < bound → priority ≡ ceiling number → back ≡ base
      → IsSealed number (ceiling number) between → IsSealed bound base (items.Enter number priority ∷ (between ++ items.Leave number back ∷ []))
  sealed-call bound base number priority back between l e f p own servers ys a b h =
      both-true (not (is_in number servers) && (priority == ceiling number)) _
      (both-true (not (is_in number servers)) (priority == ceiling number) (ap not (a number l)) (same priority (ceiling number) e))
      (subst (λ all. steps_from own all (number ∷ servers) ≡ true) (sym (append_assoc between (items.Leave number back ∷ []) ys))
      (p own (number ∷ servers) (items.Leave number back ∷ ys) (λ n m. ap (λ b. b || is_in n servers) (apart number n m) ∙ a n (omega (arith, l, m))) refl
      (both-true ((number == number) && (back == priority_in ceiling own servers)) (steps_from own ys servers)
      (both-true (number == number) (back == priority_in ceiling own servers) (itself number) (same back (priority_in ceiling own servers) (f ∙ sym b))) h)))

  -- what a call goes through
  abbrev passed_at : ℕ → Bool → List Item → Bool
  passed_at badge passes [] = passes
  passed_at badge passes (x ∷ xs) = cond (passes || is_on x) (passed_at badge (passes_after badge passes x) xs) (passed_at badge passes xs)

  called-append : (badge : ℕ) (passes : Bool) (xs zs : List Item) → called badge passes (xs ++ zs) ≡ called badge passes xs ++ called badge (passed_at badge passes xs) zs
  called-append badge passes [] zs = refl
  called-append badge passes (x ∷ xs) zs = by (passes || is_on x) (called-append badge (passes_after badge passes x) xs zs) (called-append badge passes xs zs)
    where
      by : (b : Bool) → called badge (passes_after badge passes x) (xs ++ zs) ≡ called badge (passes_after badge passes x) xs ++ called badge (passed_at badge (passes_after badge passes x) xs) zs
          → called badge passes (xs ++ zs) ≡ called badge passes xs ++ called badge (passed_at badge passes xs) zs
          → cond b (called badge (passes_after badge passes x) (xs ++ zs)) (x ∷ called badge passes (xs ++ zs))
          ≡ cond b (called badge (passes_after badge passes x) xs) (x ∷ called badge passes xs)
          ++ called badge (cond b (passed_at badge (passes_after badge passes x) xs) (passed_at badge passes xs)) zs
      by true p q = p
      by false p q = ap (λ ys. x ∷ ys) q

  -- steps that begin no handler are gone through all, or none
  called-all : (badge : ℕ) (xs : List Item) → All (λ s. is_on s ≡ false) xs → (called badge true xs ≡ []) × (called badge false xs ≡ xs)
  called-all badge [] h = (refl, refl)
  called-all badge (x ∷ xs) h =
      let rest = called-all badge xs (All-tail (λ s. is_on s ≡ false) x xs h) in
      let off = All-head (λ s. is_on s ≡ false) x xs h in
      (passed x off rest.0, ap (λ b. cond b (called badge (passes_after badge false x) xs) (x ∷ called badge false xs)) off ∙ ap (λ ys. x ∷ ys) rest.1)
    where
      passed : (x : Item) → is_on x ≡ false → called badge true xs ≡ [] → called badge (passes_after badge true x) xs ≡ []
      passed (items.On badges) e f = absurd (cc)
      passed x e f = f

  -- what any call of a server goes through is sealed
  abbrev pub AreCalled : ℕ → ℕ → List Item → Type 0
  AreCalled bound base xs = (badge : ℕ) (passes : Bool) → IsSealed bound base (called badge passes xs)

  called-more : (bound base : ℕ) (xs zs : List Item) → AreCalled bound base xs → AreCalled bound base zs → AreCalled bound base (xs ++ zs)
  called-more bound base xs zs p q badge passes =
      subst (IsSealed bound base) (sym (called-append badge passes xs zs)) (sealed-append bound base (called badge passes xs) (called badge (passed_at badge passes xs) zs) (p badge passes) (q badge (passed_at badge passes xs)))

  called-sealed : (bound base : ℕ) (xs : List Item) → All (λ s. is_on s ≡ false) xs → IsSealed bound base xs → AreCalled bound base xs
  called-sealed bound base xs off p badge true = subst (IsSealed bound base) (sym (called-all badge xs off).0) (sealed-nil bound base)
  called-sealed bound base xs off p badge false = subst (IsSealed bound base) (sym (called-all badge xs off).1) p

  called-on : (bound base badges : ℕ) → AreCalled bound base (items.On badges ∷ [])
  called-on bound base badges badge true = sealed-nil bound base
  called-on bound base badges badge false = sealed-nil bound base

  -- steps of a thread's script so far, in which a handler may begin
  abbrev pub IsWhole : ℕ → List Item → Type 0
  IsWhole own xs = (ys : List Item) → steps_from own ys [] ≡ true → steps_from own (xs ++ ys) [] ≡ true

  whole-more : (own : ℕ) (xs zs : List Item) → IsWhole own xs → IsWhole own zs → IsWhole own (xs ++ zs)
  whole-more own xs zs p q ys h = subst (λ all. steps_from own all [] ≡ true) (sym (append_assoc xs zs ys)) (p (zs ++ ys) (q ys h))

  -- a name that is known stands at a place
  name-there : (at : _) (number : ℕ) (names : List (List ℕ)) (name : List ℕ) → first_failed (place_named at number names name).tests ≡ None
      → (place_named at number names name).value < length names
  unfolding place_named
  name-there at number names name h = place_within name names (passed_test (is_some (place_of name names)) _ _ h).0

  -- the servers that may be called
  abbrev pub MayBeCalled : Base → Type 0
  MayBeCalled base =
      (place : ℕ) → place < length base.servers →
      (ceiling (length base.notes + place) ≡ (server_at base.servers place).priority)
      × AreCalled (length base.notes + place) (server_at base.servers place).priority (server_at base.servers place).steps

  module _ (base : Base) (core priority : ℕ) (ready : MayBeCalled base) where
    abbrev bound : ℕ
    bound = length base.notes + length base.servers

    off-one : (x : Item) → IsPlain x → All (λ s. is_on s ≡ false) (x ∷ [])
    off-one x p = All-cons (λ s. is_on s ≡ false) x [] (off x p) (All-nil (λ s. is_on s ≡ false))
      where
        off : (x : Item) → IsPlain x → is_on x ≡ false
        off (items.On badges) p = absurd p
        off x p = refl

    call-sealed : (place badge : ℕ) → place < length base.servers
        → IsSealed bound priority (call_steps (length base.notes + place) (server_at base.servers place) badge priority)
    call-sealed place badge l =
        sealed-call bound priority (length base.notes + place) (server_at base.servers place).priority priority (called badge false (server_at base.servers place).steps) (omega (arith, l)) (sym (ready place l).0) refl
        (subst (λ n. IsSealed (length base.notes + place) n (called badge false (server_at base.servers place).steps)) (sym (ready place l).0) ((ready place l).1 badge false))

    call-off : (place badge : ℕ) → All (λ s. is_on s ≡ false) (call_steps (length base.notes + place) (server_at base.servers place) badge priority)
    call-off place badge =
        All-cons (λ s. is_on s ≡ false) (items.Enter (length base.notes + place) (server_at base.servers place).priority) _ refl
        (All-push (λ s. is_on s ≡ false) (called badge false (server_at base.servers place).steps) (items.Leave (length base.notes + place) priority) (called_none_on badge false (server_at base.servers place).steps) refl)

    -- the steps of an item
    record AreDone (xs : List Item) : Type 0 where
      called-is : AreCalled bound priority xs
      whole : IsWhole priority xs

    plain-done : (x : Item) → IsPlain x → AreDone (x ∷ [])
    plain-done x p =
        record {
          called-is = called-sealed bound priority (x ∷ []) (off-one x p) (sealed-one bound priority x p);
          whole = λ ys h. sealed-one bound priority x p priority [] ys (λ n l. refl) refl h;
        }

    call-done : (place badge : ℕ) → place < length base.servers → AreDone (call_steps (length base.notes + place) (server_at base.servers place) badge priority)
    call-done place badge l =
        let steps = call_steps (length base.notes + place) (server_at base.servers place) badge priority in
        record {
          called-is = called-sealed bound priority steps (call-off place badge) (call-sealed place badge l);
          whole = λ ys h. call-sealed place badge l priority [] ys (λ n m. refl) refl h;
        }

    named-done : (at : _) (number : ℕ) (raw : Raw) → first_failed (named base.notes base.servers core priority at number raw).tests ≡ None
        → AreDone (steps_of base.notes base.servers core priority (named base.notes base.servers core priority at number raw).value)
    unfolding named
    named-done at number (Compute ticks) h = plain-done (items.Compute ticks) tt
    named-done at number (Signal name badge) h = plain-done _ tt
    named-done at number (Wait name) h = plain-done _ tt
    named-done at number Yield h = plain-done items.Yield tt
    named-done at number (On badges) h = record { called-is = called-on bound priority badges; whole = λ ys h. h }
    named-done at number (Call name badge) h =
        let names = server_names base.notes base.servers core priority in
        let p = both_passed (place_named at number names name).tests _ h in
        let there = name-there at number names name p.0 in
        call-done (place_named at number names name).value badge (omega (arith, there, length-map base.servers (λ s. s.name)))
    named-done at number Spin h = plain-done items.Spin tt

    read-done : (is_new : Bool) (at : _) (number : ℕ) (d : Data) → first_failed (read_item base.notes base.servers core priority is_new at number d).tests ≡ None
        → AreDone (steps_of base.notes base.servers core priority (read_item base.notes base.servers core priority is_new at number d).value)
    unfolding read_item
    read-done is_new at number d h =
        let text = bytes_or_none (as_str d) in
        let p = passed_test (is_some (as_str d)) _ _ h in
        let q = both_passed (said at number (read_text is_new text)).tests _ p.1 in
        named-done at number (said at number (read_text is_new text)).value q.1

    next-done : (is_new is_server : Bool) (at : _) (before : Body) (d : Data) → AreDone before.steps
        → first_failed (next_item base.notes base.servers core priority is_new is_server at before d).tests ≡ None
        → AreDone (next_item base.notes base.servers core priority is_new is_server at before d).value.steps
    unfolding next_item heard_item
    next-done is_new is_server at before d so_far h =
        let read = (read_item base.notes base.servers core priority is_new at (suc (length before.firsts)) d).value in
        let p = both_passed (heard_item base.notes base.servers core priority is_new is_server at before.firsts d).tests _ h in
        let o = both_passed (read_item base.notes base.servers core priority is_new at (suc (length before.firsts)) d).tests _ p.0 in
        let more = read-done is_new at (suc (length before.firsts)) d o.0 in
        record {
          called-is = called-more bound priority before.steps (steps_of base.notes base.servers core priority read) so_far.called-is more.called-is;
          whole = whole-more priority before.steps (steps_of base.notes base.servers core priority read) so_far.whole more.whole;
        }

    body-done : (is_new is_server : Bool) (at : _) (row : Members) → first_failed (body base.notes base.servers core priority is_new is_server at row).tests ≡ None
        → AreDone (body base.notes base.servers core priority is_new is_server at row).value.steps
    unfolding body
    body-done is_new is_server at row h =
        let p = both_passed (texts at row).tests _ h in
        each_from_keeps (next_item base.notes base.servers core priority is_new is_server at) (λ read. AreDone read.steps)
        (λ before d so_far q. next-done is_new is_server at before d so_far q) (texts at row).value no_items_yet
        record { called-is = λ badge passes. sealed-nil bound priority; whole = λ ys h. h } p.1

    script-goes : (is_new : Bool) (at : _) (row : Members) → first_failed (script base.notes base.servers core priority is_new at row).tests ≡ None
        → steps_from priority (script base.notes base.servers core priority is_new at row).value [] ≡ true
    unfolding script
    script-goes is_new at row h =
        let read = body base.notes base.servers core priority is_new false at row in
        let p = both_passed read.tests _ h in
        let whole = (body-done is_new false at row p.0).whole [] refl in
        subst (λ xs. steps_from priority xs [] ≡ true) (append-nil read.value.steps) whole

    server-called : (at : _) (row : Members) → first_failed (server_script base.notes base.servers core priority at row).tests ≡ None
        → AreCalled bound priority (server_script base.notes base.servers core priority at row).value
    unfolding server_script
    server-called at row h =
        let read = body base.notes base.servers core priority true true at row in
        let p = both_passed read.tests [] h in
        (body-done true true at row p.0).called-is

  -- the servers that are read may be called
  module _ (base : Base) (cores : ℕ) where
    server-row : (at : _) (earlier : _) (row : Members) → MayBeCalled (record base { servers = earlier }) → first_failed (server base.notes cores at earlier row).tests ≡ None
        → AreCalled (length base.notes + length earlier) (server base.notes cores at earlier row).value.priority (server base.notes cores at earlier row).value.steps
    unfolding server
    server-row at earlier row so_far h =
        let core_is = whole_number at key.Core 0 (cores - 1) row in
        let priority_is = whole_number at key.Priority 0 255 row in
        let keys = both_passed (only_keys at (key.Name ∷ key.Core ∷ key.Priority ∷ key.Script ∷ []) row).tests _ h in
        let name = both_passed (new_name at (map (λ n. n.name) base.notes ++ map (λ s. s.name) earlier) row).tests _ keys.1 in
        let core = both_passed core_is.tests _ name.1 in
        let priority = both_passed priority_is.tests _ core.1 in
        let last = both_passed (server_script base.notes earlier core_is.value priority_is.value at row).tests [] priority.1 in
        server-called (record base { servers = earlier }) core_is.value priority_is.value so_far at row last.0

    -- one server more
    callable-more : (earlier : _) (one : _) → MayBeCalled (record base { servers = earlier })
        → ceiling (length base.notes + length earlier) ≡ (server_at (one ∷ []) 0).priority
        → AreCalled (length base.notes + length earlier) (server_at (one ∷ []) 0).priority (server_at (one ∷ []) 0).steps
        → MayBeCalled (record base { servers = earlier ++ one ∷ [] })
    callable-more earlier one so_far e h place l = by (cases_lt place (length earlier))
      where
        by : (place < length earlier) ⊎ (length earlier ≤ place)
            → (ceiling (length base.notes + place) ≡ (server_at (earlier ++ one ∷ []) place).priority)
            × AreCalled (length base.notes + place) (server_at (earlier ++ one ∷ []) place).priority (server_at (earlier ++ one ∷ []) place).steps
        by (inl before) =
            subst (λ s. (ceiling (length base.notes + place) ≡ (server_at (s ∷ []) 0).priority) × AreCalled (length base.notes + place) (server_at (s ∷ []) 0).priority (server_at (s ∷ []) 0).steps)
            (sym (get_or-append earlier (one ∷ []) no_server place before)) (so_far place before)
        by (inr here) =
            let q : length earlier ≡ place = omega (arith, here, l, length-append earlier (one ∷ [])) in
            subst (λ s. (ceiling (length base.notes + place) ≡ (server_at (s ∷ []) 0).priority) × AreCalled (length base.notes + place) (server_at (s ∷ []) 0).priority (server_at (s ∷ []) 0).steps)
            (sym (get_or_push earlier one no_server place q))
            (subst (λ n. (ceiling (length base.notes + n) ≡ (server_at (one ∷ []) 0).priority) × AreCalled (length base.notes + n) (server_at (one ∷ []) 0).priority (server_at (one ∷ []) 0).steps) q (e, h))

    servers-callable : (file : Members) → first_failed (servers base.notes cores file).tests ≡ None
        → ((place : ℕ) → place < length (servers base.notes cores file).value → ceiling (length base.notes + place) ≡ (server_at (servers base.notes cores file).value place).priority)
        → MayBeCalled (record base { servers = (servers base.notes cores file).value })
    unfolding servers few_notes
    servers-callable file h =
        let p = both_passed (rows section.Server key.Server file).tests _ h in
        let q = passed_test _ _ _ p.1 in
        each_keeps (row section.Server (server base.notes cores))
        (λ earlier. ((place : ℕ) → place < length earlier → ceiling (length base.notes + place) ≡ (server_at earlier place).priority) → MayBeCalled (record base { servers = earlier }))
        (λ earlier d so_far f.
        let at = record (top) { section = section.Server; row = suc (length earlier) } in
        let g = (both_passed (row_table at d).tests _ f).1 in
        let one = (server base.notes cores at earlier (row_table at d).value).value in
        λ agree.
        let ready = so_far (λ place l.
        agree place (omega (arith, l, length-append earlier (one ∷ []))) ∙ ap (λ s. (server_at (s ∷ []) 0).priority) (get_or-append earlier (one ∷ []) no_server place l)) in
        callable-more earlier one ready
        (agree (length earlier) (omega (arith, length-append earlier (one ∷ []))) ∙ ap (λ s. (server_at (s ∷ []) 0).priority) (get_or_push earlier one no_server (length earlier) refl))
        (server-row at earlier (row_table at d).value ready g))
        (rows section.Server key.Server file).value [] (λ agree place l. absurd (omega (arith, l))) q.1

  -- the scripts of threads that are read
  module _ (base : Base) (contexts : List ContextPart) (is_new : Bool) (ready : MayBeCalled base) where
    thread-row : (at : _) (earlier : List ThreadPart) (row : Members) → first_failed (thread contexts base.notes base.servers is_new at earlier row).tests ≡ None
        → steps_from (thread contexts base.notes base.servers is_new at earlier row).value.priority (thread contexts base.notes base.servers is_new at earlier row).value.script [] ≡ true
    unfolding thread
    thread-row at earlier row h =
        let own = own_context (map (λ (c : ContextPart). c.name) contexts) at (map (λ (t : ThreadPart). t.context) earlier) row in
        let keys = both_passed (only_keys at (key.Name ∷ key.Context ∷ key.Priority ∷ key.Start ∷ key.Rounds ∷ key.Deadline ∷ key.Script ∷ []) row).tests _ h in
        let name = both_passed (new_name at (map (λ (t : ThreadPart). t.name) earlier) row).tests _ keys.1 in
        let context = both_passed own.tests _ name.1 in
        let priority = both_passed (whole_number at key.Priority 0 255 row).tests _ context.1 in
        let timing = both_passed (times at row).tests _ priority.1 in
        let last = both_passed (script base.notes base.servers (part_at contexts own.value).core (whole_number at key.Priority 0 255 row).value is_new at row).tests [] timing.1 in
        script-goes base (part_at contexts own.value).core (whole_number at key.Priority 0 255 row).value ready is_new at row last.0

    threads-go : (file : Members) → first_failed (threads contexts base.notes base.servers is_new file).tests ≡ None
        → All (λ (t : ThreadPart). steps_from t.priority t.script [] ≡ true) (threads contexts base.notes base.servers is_new file).value
    unfolding threads array_of
    threads-go file h =
        let p = both_passed (rows section.Thread key.Thread file).tests _ h in
        each_keeps (row section.Thread (thread contexts base.notes base.servers is_new)) (λ earlier. All (λ (t : ThreadPart). steps_from t.priority t.script [] ≡ true) earlier)
        (λ earlier d so_far f.
        let at = record (top) { section = section.Thread; row = suc (length earlier) } in
        let g = (both_passed (row_table at d).tests _ f).1 in
        All-push (λ (t : ThreadPart). steps_from t.priority t.script [] ≡ true) earlier (thread contexts base.notes base.servers is_new at earlier (row_table at d).value).value so_far
        (thread-row at earlier (row_table at d).value g))
        (rows section.Thread key.Thread file).value [] (All-nil (λ (t : ThreadPart). steps_from t.priority t.script [] ≡ true)) p.1

-- so they nest, and go from priority to priority
module _ (ceiling : ℕ → ℕ) (own : ℕ) where
  nests-so : (xs : List Item) (servers : List ℕ) → steps_from ceiling own xs servers ≡ true → nests_from xs servers ≡ true
  nests-so [] servers h = h
  nests-so (x ∷ xs) servers h =
      let both = left-true (may_stand x servers && goes ceiling own x servers) (steps_from ceiling own xs (inside_after x servers)) h in
      both-true (may_stand x servers) (nests_from xs (inside_after x servers)) (left-true (may_stand x servers) (goes ceiling own x servers) both)
      (nests-so xs (inside_after x servers) (right-true (may_stand x servers && goes ceiling own x servers) (steps_from ceiling own xs (inside_after x servers)) h))

  goes-at : (xs : List Item) (servers : List ℕ) (i : ℕ) (item : Item) → steps_from ceiling own xs servers ≡ true → slice_get xs i ≡ Some item
      → goes ceiling own item (inside_from i xs servers) ≡ true
  goes-at [] servers i item h e = absurd (cc)
  goes-at (x ∷ xs) servers zero item h e =
      let f : x ≡ item = cc in
      let both = left-true (may_stand x servers && goes ceiling own x servers) (steps_from ceiling own xs (inside_after x servers)) h in
      subst (λ y. goes ceiling own y servers ≡ true) f (right-true (may_stand x servers) (goes ceiling own x servers) both)
  goes-at (x ∷ xs) servers (suc i) item h e =
      goes-at xs (inside_after x servers) i item (right-true (may_stand x servers && goes ceiling own x servers) (steps_from ceiling own xs (inside_after x servers)) h) e

walk-goes : (file : Members) → first_failed (walk file).tests ≡ None
    → (ceiling : ℕ → ℕ) × All (λ (t : ThreadPart). steps_from ceiling t.priority t.script [] ≡ true) (walk file).value.threads
unfolding walk base others
walk-goes file h =
    let is_new = is_version_3 file in
    let read = (base file).value in
    let in_base = both_passed (base file).tests _ h in
    let top_numbers = both_passed (numbers file).tests _ in_base.0 in
    let in_links = both_passed (links read.top.cores file).tests _ top_numbers.1 in
    let in_contexts = both_passed (contexts (is_version_2_or_3 file) is_new read.top.cores read.top.min_budget file).tests _ in_links.1 in
    let in_notes = both_passed (notes is_new read.top.cores file).tests _ in_contexts.1 in
    let in_servers = both_passed (servers read.notes read.top.cores file).tests [] in_notes.1 in
    let in_threads = both_passed (threads read.contexts read.notes read.servers is_new file).tests _ in_base.1 in
    let ceiling : ℕ → ℕ = λ n. (server_at read.servers (n - length read.notes)).priority in
    let agree : (place : ℕ) → place < length read.servers → ceiling (length read.notes + place) ≡ (server_at read.servers place).priority =
    λ place l. ap (λ n. (server_at read.servers n).priority) (omega arith)
    in
    (ceiling, threads-go ceiling read read.contexts is_new (servers-callable ceiling read read.top.cores file in_servers.0 agree) file in_threads.0)

file-goes : (text : List ℕ) → first_failed (file text).tests ≡ None
    → (ceiling : ℕ → ℕ) × All (λ (t : ThreadPart). steps_from ceiling t.priority t.script [] ≡ true) (file text).value.threads
unfolding file
file-goes text h =
    let p = both_passed (document text).tests _ h in
    walk-goes (document text).value p.1

pub accepted-nest : AcceptedScriptsNest
accepted-nest text h =
    let g = file-goes text h in
    λ k d l. nests-so g.0 (get_or (file text).value.threads k d).priority (get_or (file text).value.threads k d).script [] (g.1 k d l)

pub accepted-exclude : AcceptedServersExclude
accepted-exclude text h = servers-exclude (file text).value (accepted_is_well_formed text h) (accepted-nest text h)

pub accepted-priorities : AcceptedHavePriorities
accepted-priorities text h =
    let g = file-goes text h in
    let system = (file text).value in
    let at = λ (x i : ℕ) (item : Item) (e : slice_get (thread_part system x).script i ≡ Some item).
    goes-at g.0 (thread_part system x).priority (thread_part system x).script [] i item (g.1 x no_thread (with-item system x i item e)) e
    in (
      g.0,
      record {
        given = λ thread item server priority e. equal priority (g.0 server) (at thread item (items.Enter server priority) e);
        back = λ thread item server priority e. equal priority _ (at thread item (items.Leave server priority) e);
      },
    )
