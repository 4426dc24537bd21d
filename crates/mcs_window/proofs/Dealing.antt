-- The views of the cores, dealt out in file order.
use Rattle.std.proofs.Common.{◌≡◌, ◌≢◌, ℕ, zero, suc, ◌+◌, ◌<◌, ◌≤◌, Bool, true, false, List, [], ◌∷◌, ◌++◌, length, get_or, set, drop, Option, Some, None, inl, inr, refl, sym, ap, ◌∙◌, subst, arith}
use Rattle.std.specs.Prelude.{map, nat_lt, slice_index, unwrap_or, ◌==◌}
use Rattle.std.specs.List.{range_with_len}
use Rattle.std.specs.declared.alloc.Global.{Global}
use Rattle.std.specs.declared.collections.VecDeque.{VecDeque}
use Rattle.std.proofs.lemmas.Bool.Decides.{eqb_tells, nat_tests}
use Rattle.std.proofs.lemmas.List.{get_or-set_same, get_or-set_other, get_or_default, get_or_append_left, get_or_push, get_or-map, length-map, length-set, length_push}
use Rattle.std.proofs.lemmas.List.FromFn.{map-range_with_len_more}
use Rattle.mcs_control.specs.declared.view.ContextView.{ContextView}
use Rattle.mcs_control.specs.Context.{Context, view_of}
use Rattle.mcs_core.specs.declared.standing.Chosen.{Chosen}
use Rattle.mcs_system.specs.declared.part.ContextPart.{ContextPart}
use Rattle.mcs_system.specs.declared.part.SystemParts.{SystemParts}
use Rattle.mcs_system.specs.System.{System, context_part, no_context}
use Rattle.mcs_system.specs.WellFormed.{IsWellFormed}
use Rattle.mcs_core.specs.Core.{Core, context_of}
use Rattle.mcs_core.specs.Clock.{world, core_shown}
use Rattle.mcs_core.specs.Contexts.{is_some, no_server}
use Rattle.mcs_core.specs.stored.Sound.{has_context}
use Rattle.mcs_core.specs.State.{State, Fits, opening_state}
use Rattle.mcs_core.specs.Views.{using_of, own_view, views_from, views_of}
use Rattle.mcs_window.specs.stored.Views.{AreQueued, AreBegun, state_in}
use Rattle.mcs_window.specs.stored.Cores.{AreAt}
use Rattle.mcs_stretch.specs.Stretch.{StandsAt}
use Rattle.mcs_window.specs.stored.Slots.{StandsIn, AllStand}
use Rattle.mcs_window.specs.declared.slot.Slot.{Slot}
use Rattle.mcs_window.specs.declared.slot.Slot.TheVariants.{Here, Away}
use Rattle.mcs_window.specs.Views.{view_in, views_in, views_at, views_before, AreShownAt, AreStates}
use Rattle.mcs_window.proofs.Shown.{views-shown}

abbrev Queue : Type 0
Queue = VecDeque ContextView Global

-- the state of the core at this number, which is in `place`
pub state-at : {T : Type 0} (state : T → State) (places : List T) (n : ℕ) (place : T) (d : State) → n < length places → place ≡ get_or places n place → get_or (map state places) n d ≡ state place
state-at state places n place d l at = get_or-map state places n place d l ∙ ap state (sym at)

pub state-fits : {T : Type 0} (system : System) (state : T → State) (places : List T) (n : ℕ) (place : T) → AreStates system (map state places) → n < length places → place ≡ get_or places n place → Fits system (state place)
state-fits system state places n place are l at =
    subst (Fits system) (state-at state places n place (state place) l at) (are.fit n (state place) (let many = are.many in let same = length-map places state in omega arith))

pub begun-more : (system : System) (states : List State) (n : ℕ) (queues more : List Queue) (state : State) (queue : Queue) → AreBegun system states n queues → n < length states →
    state ≡ get_or states n state → queue.items ≡ views_of system state.core → more ≡ queues ++ queue ∷ [] → AreBegun system states (n + 1) more
begun-more system states n queues more state queue h l at is e =
    record { many = ap length e ∙ length_push queues queue ∙ ap (λ m. m + 1) h.many; each = λ c q x k. ap (λ xs. (get_or xs c q).items) e ∙ by c q x k (nat_lt c n) refl }
  where
    by : (c : ℕ) (q : Queue) (x : State) → c < n + 1 → (u : Bool) → nat_lt c n ≡ u → (get_or (queues ++ queue ∷ []) c q).items ≡ views_of system (get_or states c x).core
    by c q x k true f =
        let below : c < n = grind (arith, nat_tests) in
        ap (λ (v : Queue). v.items) (get_or_append_left queues (queue ∷ []) q c (let many = h.many in omega arith)) ∙ h.each c q x below
    by c q x k false f =
        let same : c ≡ n = grind (arith, nat_tests) in
        ap (λ (v : Queue). v.items) (get_or_push queues queue q c (let many = h.many in omega arith)) ∙ is
        ∙ ap (λ (s : State). views_of system s.core) (at ∙ get_or_default states n state x l) ∙ ap (λ d. views_of system (get_or states d x).core) (sym same)

pub all-begun : (system : System) (states : List State) (queues : List Queue) → AreStates system states → AreBegun system states (length states) queues → AreQueued system states 0 queues
all-begun system states queues are h =
    record { many = h.many ∙ are.many; each = λ c q x l. h.each c q x (let many = are.many in omega arith) }

module _ (system : System) where
  -- the view of the next context, and then the others
  next-views : (x : ℕ) (running : Option Chosen) (contexts : List (Option Context)) → x < length contexts →
      views_from system x running (drop x contexts) ≡ own_view system x running (get_or contexts x None) ++ views_from system (suc x) running (drop (x + 1) contexts)
  next-views x running contexts l = ap (views_from system x running) (drop_at x contexts l)
    where
      drop_at : (x : ℕ) (contexts : List (Option Context)) → x < length contexts → drop x contexts ≡ get_or contexts x None ∷ drop (x + 1) contexts
      drop_at zero [] l = absurd (omega arith)
      drop_at zero (context ∷ contexts) l = refl
      drop_at (suc x) [] l = absurd (omega arith)
      drop_at (suc x) (context ∷ contexts) l = let e : suc x + 1 ≡ suc (x + 1) = omega arith in drop_at x contexts (omega arith) ∙ ap (λ n. get_or contexts x None ∷ drop n (context ∷ contexts)) (sym e)

  none_owned : (x : ℕ) (running : Option Chosen) (context : Option Context) → is_some context ≡ false → own_view system x running context ≡ []
  none_owned x running None e = refl
  none_owned x running (Some context) e = cc

  one_owned : (x : ℕ) (running : Option Chosen) (context : Option Context) → is_some context ≡ true →
      own_view system x running context ≡ view_of x (using_of system x running) (unwrap_or context no_server) ∷ []
  one_owned x running None e = cc
  one_owned x running (Some context) e = refl

  module _ (states : List State) (are : AreStates system states) where
    abbrev cores : State → ℕ → Core
    cores d c = (get_or states c d).core

    -- a core has the contexts that are its own
    owns : (d : State) (c x : ℕ) → c < system.cores → x < length system.contexts → has_context x (cores d c) ≡ ((context_part system x).core == c)
    owns d c x l k = ((are.fit c d l).sound (are.whole c d l)).own x k ∙ ap (λ n. (context_part system x).core == n) (are.number_is c d l)

    as_many : (d : State) (c : ℕ) → c < system.cores → length (cores d c).contexts ≡ length system.contexts
    as_many d c l = ((are.fit c d l).sound (are.whole c d l)).contexts

    -- the core of the next context has its view, and the others do not
    next-own : (d : State) (x : ℕ) → (context_part system x).core < system.cores → x < length system.contexts →
        own_view system x (cores d (context_part system x).core).running (get_or (cores d (context_part system x).core).contexts x None) ≡ view_in system (cores d) x ∷ []
    next-own d x l k =
        one_owned x (cores d (context_part system x).core).running (get_or (cores d (context_part system x).core).contexts x None)
        (owns d (context_part system x).core x l k ∙ same (context_part system x).core)
      where
        same : (n : ℕ) → (n == n) ≡ true
        same n = grind (arith, nat_tests)

    next-other : (d : State) (c x : ℕ) → c < system.cores → x < length system.contexts → c ≢ (context_part system x).core → own_view system x (cores d c).running (get_or (cores d c).contexts x None) ≡ []
    next-other d c x l k n = none_owned x (cores d c).running (get_or (cores d c).contexts x None) (owns d c x l k ∙ differs (context_part system x).core c n)
      where
        differs : (p q : ℕ) → q ≢ p → (p == q) ≡ false
        differs p q n = grind (arith, nat_tests)

    -- what the queue of the next context's core has
    at-head : (d : State) (x : ℕ) (queues : List Queue) (queue : Queue) → (context_part system x).core < system.cores → x < length system.contexts → AreQueued system states x queues →
        queue ≡ get_or queues (context_part system x).core queue →
        queue.items ≡ view_in system (cores d) x ∷ views_from system (suc x) (cores d (context_part system x).core).running (drop (x + 1) (cores d (context_part system x).core).contexts)
    at-head d x queues queue l k left at =
        ap (λ (q : Queue). q.items) at ∙ left.each (context_part system x).core queue d l
        ∙ next-views x (cores d (context_part system x).core).running (cores d (context_part system x).core).contexts (let many = as_many d (context_part system x).core l in omega arith)
        ∙ ap (λ xs. xs ++ views_from system (suc x) (cores d (context_part system x).core).running (drop (x + 1) (cores d (context_part system x).core).contexts)) (next-own d x l k)

    -- it is not empty
    pub has-head : (d : State) (x : ℕ) (queues : List Queue) (queue : Queue) → (context_part system x).core < system.cores → x < length system.contexts → AreQueued system states x queues →
        queue ≡ get_or queues (context_part system x).core queue → queue.items ≡ [] → ⊥
    has-head d x queues queue l k left at none =
        let rest = views_from system (suc x) (cores d (context_part system x).core).running (drop (x + 1) (cores d (context_part system x).core).contexts) in
        let g : [] ≡ view_in system (cores d) x ∷ rest = sym none ∙ at-head d x queues queue l k left at in
        cc

    module _ (x : ℕ) (queues : List Queue) (queue next : Queue) (view : ContextView) (l : (context_part system x).core < system.cores) (k : x < length system.contexts) (left : AreQueued system states x queues)
        (at : queue ≡ get_or queues (context_part system x).core queue) (taken : queue.items ≡ view ∷ next.items) where
      dealt-view : (d : State) → (view_in system (cores d) x ≡ view) × (next.items ≡ views_from system (suc x) (cores d (context_part system x).core).running (drop (x + 1) (cores d (context_part system x).core).contexts))
      dealt-view d =
          let rest = views_from system (suc x) (cores d (context_part system x).core).running (drop (x + 1) (cores d (context_part system x).core).contexts) in
          let g : view ∷ next.items ≡ view_in system (cores d) x ∷ rest = sym taken ∙ at-head d x queues queue l k left at in
          (let same : view_in system (cores d) x ≡ view = cc in same, let others : next.items ≡ rest = cc in others)

      pub dealt-left : AreQueued system states (x + 1) (set queues (context_part system x).core next)
      dealt-left =
          record {
            many = length-set queues (context_part system x).core next ∙ left.many;
            each = λ c q d h. elim (eqb_tells c (context_part system x).core) [
              | inl e ↦ ap (λ n. (get_or (set queues (context_part system x).core next) n q).items) e.1
                  ∙ ap (λ (v : Queue). v.items) (get_or-set_same queues (context_part system x).core next q (let many = left.many in omega arith))
                  ∙ (dealt-view d).1 ∙ ap (λ n. views_from system n (cores d (context_part system x).core).running (drop (x + 1) (cores d (context_part system x).core).contexts)) one
                  ∙ ap (λ n. views_from system (x + 1) (cores d n).running (drop (x + 1) (cores d n).contexts)) (sym e.1)
              | inr e ↦ ap (λ (v : Queue). v.items) (get_or-set_other queues (context_part system x).core c next q e.1) ∙ left.each c q d h
                  ∙ next-views x (cores d c).running (cores d c).contexts (let many = as_many d c h in omega arith)
                  ∙ ap (λ xs. xs ++ views_from system (suc x) (cores d c).running (drop (x + 1) (cores d c).contexts)) (next-other d c x h k e.1)
                  ∙ ap (λ n. views_from system n (cores d c).running (drop (x + 1) (cores d c).contexts)) one
            ];
          }
        where
          one : suc x ≡ x + 1
          one = omega arith

      pub dealt-more : (views more : List ContextView) → ((d : State) → views ≡ map (view_in system (cores d)) (range_with_len 0 x)) → more ≡ views ++ view ∷ [] →
          (d : State) → more ≡ map (view_in system (cores d)) (range_with_len 0 (x + 1))
      dealt-more views more h e d =
          e ∙ ap (λ xs. xs ++ view ∷ []) (h d)
          ∙ ap (λ v. map (view_in system (cores d)) (range_with_len 0 x) ++ v ∷ []) (sym (dealt-view d).0)
          ∙ sym (map-range_with_len_more (view_in system (cores d)) 0 x x (omega arith))

-- the part of the context that is next
pub part-at : (system : System) (x k : ℕ) (parts : SystemParts) (contexts : List ContextPart) (part : ContextPart) → parts ≡ system → contexts ≡ parts.contexts → x < length contexts →
    part ≡ get_or contexts x part → k ≡ part.core → (k ≡ (context_part system x).core) × (x < length system.contexts)
part-at system x k parts contexts part same e l at is =
    let f : contexts ≡ system.contexts = e ∙ ap (λ (p : SystemParts). p.contexts) same in (
      is ∙ ap (λ (p : ContextPart). p.core) (at ∙ get_or_default contexts x part no_context l ∙ ap (λ xs. get_or xs x no_context) f),
      subst (λ xs. x < length xs) f l,
    )

pub core-known : (system : System) → IsWellFormed system → (x : ℕ) → x < length system.contexts → (context_part system x).core < system.cores
core-known system well x l = (well.contexts x no_context l).core

-- cores that are here have states
pub states-here : (system : System) (clocks : List ℕ) (states : List State) → length states ≡ system.cores → AreAt system clocks states → AreStates system states
states-here system clocks states many stand =
    record {
      many = many;
      number_is = λ c x l. (stand c x l).number_is;
      whole = λ c x l. (stand c x l).whole;
      fit = λ c x l. (stand c x l).fits;
    }

map-same : (f g : ℕ → ContextView) (n a : ℕ) → ((i : ℕ) → a ≤ i → i < a + n → f i ≡ g i) → map f (range_with_len a n) ≡ map g (range_with_len a n)
map-same f g zero a h = refl
map-same f g (suc n) a h = both _ _ _ _ (h a (omega arith) (omega arith)) (map-same f g n (a + 1) (λ i p q. h i (omega arith) (omega arith)))
  where
    both : (x y : ContextView) (xs ys : List ContextView) → x ≡ y → xs ≡ ys → x ∷ xs ≡ y ∷ ys
    both x y xs ys e k = cc

-- the states of a list are those of its items
pub own-states : (states : List State) → map (λ (state : State). state) states ≡ states
own-states [] = refl
own-states (state ∷ states) = ap (λ xs. state ∷ xs) (own-states states)

-- the states in slots whose cores are all here
pub slots-at : (system : System) (clocks : List ℕ) (slots : List Slot) → length slots ≡ system.cores → AllStand system clocks slots → AreAt system clocks (map state_in slots)
slots-at system clocks slots many stand c x l =
    subst (StandsAt system c (slice_index clocks c)) (sym (get_or-map state_in slots c some_slot x (omega arith))) (stands-in (get_or slots c some_slot) (stand c some_slot l))
  where
    some_slot : Slot
    some_slot = Away (record { past = 0; front = [] })

    stands-in : (slot : Slot) → StandsIn system c (slice_index clocks c) slot → StandsAt system c (slice_index clocks c) (state_in slot)
    stands-in (Here spare state) stands = stands.1
    stands-in (Away loan) stands = absurd stands

-- the views of states of the global clock are those of the clock
pub views-here : (system : System) → IsWellFormed system → (clocks : List ℕ) (states : List State) → AreAt system clocks states → (views : List ContextView) → ((d : State) → views ≡ views_in system (λ c. (get_or states c d).core)) →
    views ≡ views_at system clocks
views-here system well clocks states stand views are =
    are d
    ∙ map-same (view_in system (λ c. (get_or states c d).core)) (view_in system (λ c. core_shown system (world system (slice_index clocks c)) c)) (length system.contexts) 0
    (λ x _ l.
    let k = core-known system well x (omega arith) in
    ap (λ (core : Core). view_of x (using_of system x core.running) (context_of core x)) (stand (context_part system x).core d k).core_is)
  where
    d : State
    d = opening_state system 0

-- these views show the whole budgets
pub shown-here : (system : System) → IsWellFormed system → (clocks : List ℕ) (views : List ContextView) → views ≡ views_at system clocks → AreShownAt system clocks views
shown-here system well clocks views e = subst (AreShownAt system clocks) (sym e) (views-shown system well (slice_index clocks))

-- if all clocks are at one moment, the views are those before it
pub views-at_one : (system : System) → IsWellFormed system → (clocks : List ℕ) (t : ℕ) → ((c : ℕ) → c < system.cores → slice_index clocks c ≡ t) → views_at system clocks ≡ views_before system t
views-at_one system well clocks t at =
    map-same (view_in system (λ c. core_shown system (world system (slice_index clocks c)) c)) (view_in system (λ c. core_shown system (world system t) c)) (length system.contexts) 0
    (λ x _ l.
    let k = core-known system well x (omega arith) in
    ap (λ m. let core = core_shown system (world system m) (context_part system x).core in view_of x (using_of system x core.running) (context_of core x)) (at (context_part system x).core k))
