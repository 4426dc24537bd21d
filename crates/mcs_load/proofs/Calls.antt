-- The steps that an item becomes.
use Rattle.std.proofs.Common.{◌≡◌, ℕ, zero, suc, ◌+◌, ◌-◌, ◌^◌, ◌<◌, ◌≤◌, Bool, true, false, cond, ◌||◌, ◌&&◌, List, [], ◌∷◌, ◌++◌, length, length-append, get_or, map, Some, None, All, refl, ap, sym, ◌∙◌, subst, arith}
use Rattle.std.specs.List.{slice_get}
use Rattle.std.proofs.Math.ListN.{get_or-append}
use Rattle.std.proofs.lemmas.List.{get_or_push}
use Rattle.std.proofs.lemmas.List.Elements.{All-nil, All-cons, All-head, All-tail, All-push, All-weaker, All-get_or}
use Rattle.mcs_script.specs.declared.item.Item.{Item}
use Rattle.mcs_script.specs.declared.item.Item.TheVariants as items
use Rattle.mcs_script.specs.Script.{is_wait, is_on, passes_after, ends_handler, is_enter, is_left_open, GoOn}
use Rattle.mcs_system.specs.declared.part.NotePart.{NotePart}
use Rattle.mcs_load.specs.declared.script.Resolved.{Resolved}
use Rattle.mcs_load.specs.declared.script.Resolved.TheVariants.{Step, CallOf}
use Rattle.mcs_load.specs.declared.server.Server.{Server}
use Rattle.mcs_load.specs.Script.{core_of, server_at, no_server, called, call_steps, first_step, steps_of}
use Rattle.mcs_load.specs.stored.Ready.{IsServerAt, IsStep, AreSteps, AreReady}
use Rattle.mcs_load.proofs.Shapes.{waits_at, AreFurther}

-- further servers change nothing
module _ (notes : List NotePart) (servers more : List Server) (core : ℕ) where
  server_stays : (number : ℕ) → IsServerAt notes servers core number → IsServerAt notes (servers ++ more) core number
  server_stays number h =
      let there : h.place < length servers = h.within in
      record {
        place = h.place;
        number_is = h.number_is;
        within = omega (arith, length-append servers more);
        home = ap (λ (s : Server). s.core) (get_or-append servers more no_server h.place there) ∙ h.home;
      }

  pub step_stays : (step : Item) → IsStep notes servers core step → IsStep notes (servers ++ more) core step
  step_stays (items.Compute ticks) h = h
  step_stays (items.Signal note badge) h = h
  step_stays (items.Wait note) h = h
  step_stays items.Yield h = h
  step_stays (items.On badges) h = h
  step_stays items.Spin h = h
  step_stays (items.Enter number priority) h = server_stays number h
  step_stays (items.Leave number priority) h = server_stays number h

pub steps_stay : (notes : List NotePart) (servers more : List Server) (core : ℕ) (steps : List Item) → All (IsStep notes servers core) steps → All (IsStep notes (servers ++ more) core) steps
steps_stay notes servers more core steps h =
    All-weaker (IsStep notes servers core) (IsStep notes (servers ++ more) core) (step_stays notes servers more core) steps h

stay : (notes : List NotePart) (servers more : List Server) (core : ℕ) (steps : List Item) → AreSteps notes servers core steps → AreSteps notes (servers ++ more) core steps
stay notes servers more core steps h = record { known = steps_stay notes servers more core steps h.known; entering = h.entering }

pub ready_more : (notes : List NotePart) (servers : List Server) (server : Server) → AreReady notes servers → AreSteps notes servers server.core server.steps → AreReady notes (servers ++ server ∷ [])
ready_more notes servers server ready h =
    All-push (λ (s : Server). AreSteps notes (servers ++ server ∷ []) s.core s.steps) servers server
    (All-weaker (λ (s : Server). AreSteps notes servers s.core s.steps) (λ (s : Server). AreSteps notes (servers ++ server ∷ []) s.core s.steps) (λ s p. stay notes servers (server ∷ []) s.core s.steps p) servers ready)
    (stay notes servers (server ∷ []) server.core server.steps h)

-- steps that go on behind each entering
one_more : (k : ℕ) → suc k + 1 ≡ suc (k + 1)
one_more k = omega arith

open_behind : (x : Item) (xs : List Item) (k : ℕ) → is_left_open (x ∷ xs) (suc k) ≡ is_left_open xs k
open_behind x xs k = ap (λ n. is_enter (slice_get xs k) && ends_handler (slice_get (x ∷ xs) n)) (one_more k)

pub goes_nil : GoOn [] 0
goes_nil k within = absurd (omega arith)

goes_cons : (x : Item) (xs : List Item) → (is_enter (Some x) && ends_handler (slice_get xs 0)) ≡ false → GoOn xs (length xs) → GoOn (x ∷ xs) (length (x ∷ xs))
goes_cons x xs first h zero within = first
goes_cons x xs first h (suc k) within = open_behind x xs k ∙ h k (omega arith)

goes_first : (x : Item) (xs : List Item) → GoOn (x ∷ xs) (length (x ∷ xs)) → (is_enter (Some x) && ends_handler (slice_get xs 0)) ≡ false
goes_first x xs h = h 0 (omega arith)

goes_rest : (x : Item) (xs : List Item) → GoOn (x ∷ xs) (length (x ∷ xs)) → GoOn xs (length xs)
goes_rest x xs h k within = sym (open_behind x xs k) ∙ h (suc k) (omega arith)

no_enter : (e f : Bool) → (e && true) ≡ false → (e && f) ≡ false
no_enter true f h = cc
no_enter false f h = refl

first_append : (x : Item) (xs ys : List Item) → (is_enter (Some x) && ends_handler (slice_get xs 0)) ≡ false → (is_enter (Some x) && ends_handler (slice_get (xs ++ ys) 0)) ≡ false
first_append x [] ys h = no_enter (is_enter (Some x)) (ends_handler (slice_get ys 0)) h
first_append x (z ∷ zs) ys h = h

pub goes_append : (xs ys : List Item) → GoOn xs (length xs) → GoOn ys (length ys) → GoOn (xs ++ ys) (length (xs ++ ys))
goes_append [] ys p q = q
goes_append (x ∷ xs) ys p q =
    goes_cons x (xs ++ ys) (first_append x xs ys (goes_first x xs p)) (goes_append xs ys (goes_rest x xs p) q)

-- the steps that a call goes through are steps of the server, and they begin no handler
module _ (badge : ℕ) where
  called_by : (P : Item → Type 0) (b : Bool) (xs ys : List Item) (x : Item) → All P xs → P x → All P ys → All P (cond b xs (x ∷ ys))
  called_by P true xs ys x p q r = p
  called_by P false xs ys x p q r = All-cons P x ys q r

  pub called_all : (P : Item → Type 0) (passes : Bool) (steps : List Item) → All P steps → All P (called badge passes steps)
  called_all P passes [] h = All-nil P
  called_all P passes (x ∷ xs) h =
      let t = All-tail P x xs h in
      called_by P (passes || is_on x) _ _ x (called_all P (passes_after badge passes x) xs t) (All-head P x xs h) (called_all P passes xs t)

  none_on_by : (p b : Bool) (xs ys : List Item) (x : Item) → is_on x ≡ b → All (λ s. is_on s ≡ false) xs → All (λ s. is_on s ≡ false) ys → All (λ s. is_on s ≡ false) (cond (p || b) xs (x ∷ ys))
  none_on_by true b xs ys x e p q = p
  none_on_by false true xs ys x e p q = p
  none_on_by false false xs ys x e p q = All-cons (λ s. is_on s ≡ false) x ys e q

  pub called_none_on : (passes : Bool) (steps : List Item) → All (λ s. is_on s ≡ false) (called badge passes steps)
  called_none_on passes [] = All-nil (λ s. is_on s ≡ false)
  called_none_on passes (x ∷ xs) =
      none_on_by passes (is_on x) _ _ x refl (called_none_on (passes_after badge passes x) xs) (called_none_on passes xs)

-- if a server's steps continue after each enter, so do those that a call goes through
module _ (badge : ℕ) where
  next_kept : (e b : Bool) (y : Item) (us vs : List Item) → is_on y ≡ b → (e && b) ≡ false → (e && ends_handler (slice_get (cond b us (y ∷ vs)) 0)) ≡ false
  next_kept e true y us vs is h = no_enter e (ends_handler (slice_get us 0)) h
  next_kept e false y us vs is h = ap (λ f. e && f) is ∙ h

  first_called : (x : Item) (xs : List Item) → (is_enter (Some x) && ends_handler (slice_get xs 0)) ≡ false
      → (is_enter (Some x) && ends_handler (slice_get (called badge false xs) 0)) ≡ false
  first_called x [] h = h
  first_called x (y ∷ ys) h = next_kept (is_enter (Some x)) (is_on y) y (called badge (passes_after badge false y) ys) (called badge false ys) refl h

  goes_by : (p b : Bool) (x : Item) (us xs : List Item) → GoOn us (length us)
      → (is_enter (Some x) && ends_handler (slice_get (called badge false xs) 0)) ≡ false → GoOn (called badge p xs) (length (called badge p xs))
      → GoOn (cond (p || b) us (x ∷ called badge p xs)) (length (cond (p || b) us (x ∷ called badge p xs)))
  goes_by true b x us xs g first h = g
  goes_by false true x us xs g first h = g
  goes_by false false x us xs g first h = goes_cons x (called badge false xs) first h

  pub called_goes : (passes : Bool) (steps : List Item) → GoOn steps (length steps) → GoOn (called badge passes steps) (length (called badge passes steps))
  called_goes passes [] h = goes_nil
  called_goes passes (x ∷ xs) h =
      let rest = goes_rest x xs h in
      goes_by passes (is_on x) x (called badge (passes_after badge passes x) xs) xs (called_goes (passes_after badge passes x) xs rest) (first_called x xs (goes_first x xs h)) (called_goes passes xs rest)

module _ (notes : List NotePart) (servers : List Server) (core priority : ℕ) where
  -- the steps of an item but the first
  abbrev pub further_steps : Resolved → List Item
  further_steps (Step item) = []
  further_steps (CallOf place badge) = called badge false (server_at servers place).steps ++ items.Leave (length notes + place) priority ∷ []

  pub steps_are : (item : Resolved) → steps_of notes servers core priority item ≡ first_step notes servers core priority item ∷ further_steps item
  steps_are (Step item) = refl
  steps_are (CallOf place badge) = refl

  pub are_further : (item : Resolved) → AreFurther (further_steps item)
  are_further (Step item) = record { none_begins = All-nil (λ s. is_on s ≡ false); no_wait = λ i e. absurd (omega arith) }
  are_further (CallOf place badge) =
      let between = called badge false (server_at servers place).steps in
      let leave : Item = items.Leave (length notes + place) priority in
      record {
        none_begins = All-push (λ s. is_on s ≡ false) between leave (called_none_on badge false (server_at servers place).steps) refl;
        no_wait = λ i e. ap (λ x. is_wait (Some x)) (get_or_push between leave items.Yield i (omega (arith, length-append between (leave ∷ []))));
      }

  -- an item whose notification or server exists, and that enters no server
  abbrev pub IsKnownItem : Resolved → Type 0
  IsKnownItem (Step step) = IsStep notes servers core step × (is_enter (Some step) ≡ false)
  IsKnownItem (CallOf place badge) = (place < length servers) × ((server_at servers place).core ≡ core)

  plain_goes : (step : Item) → is_enter (Some step) ≡ false → GoOn (step ∷ []) 1
  plain_goes step h = goes_cons step [] (ap (λ e. e && true) h) goes_nil

  first_entered : (between : List Item) (leave : Item) → All (λ s. is_on s ≡ false) between → is_on leave ≡ false → ends_handler (slice_get (between ++ leave ∷ []) 0) ≡ false
  first_entered [] leave h last = last
  first_entered (z ∷ zs) leave h last = All-head (λ s. is_on s ≡ false) z zs h

  pub steps_known : (item : Resolved) → AreReady notes servers → IsKnownItem item → AreSteps notes servers core (steps_of notes servers core priority item)
  steps_known (Step step) ready h = record {
    known = All-cons (IsStep notes servers core) step [] h.0 (All-nil (IsStep notes servers core));
    entering = plain_goes step h.1;
  }
  steps_known (CallOf place badge) ready h =
      let server = server_at servers place in
      let are : AreSteps notes servers server.core server.steps = All-get_or (λ (s : Server). AreSteps notes servers s.core s.steps) servers place no_server h.0 ready in
      let P : ℕ → Type 0 = λ c. All (IsStep notes servers c) server.steps in
      let steps : All (IsStep notes servers core) server.steps = subst P h.1 are.known in
      let at : IsServerAt notes servers core (length notes + place) = record { place = place; number_is = refl; within = h.0; home = h.1 } in
      let between = called badge false server.steps in
      let enter : Item = items.Enter (length notes + place) server.priority in
      let leave : Item = items.Leave (length notes + place) priority in
      record {
        known = All-cons (IsStep notes servers core) enter (between ++ leave ∷ []) at
            (All-push (IsStep notes servers core) between leave (called_all badge (IsStep notes servers core) false server.steps steps) at);
        entering = goes_cons enter (between ++ leave ∷ []) (first_entered between leave (called_none_on badge false server.steps) refl)
            (goes_append between (leave ∷ []) (called_goes badge false server.steps are.entering) (plain_goes leave refl));
      }
