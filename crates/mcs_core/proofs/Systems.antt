-- Facts that a well-formed system gives its cores.
use Rattle.std.proofs.Common.{◌≡◌, ℕ, zero, suc, ◌^◌, ◌<◌, ◌≤◌, inl, inr, ◌+◌, List, [], ◌∷◌, length, sym, ap, ◌∙◌, arith}
use Rattle.std.specs.Prelude.{Some, All, slice_index}
use Rattle.std.specs.List.{slice_get, AllByRecursion}
use Rattle.std.proofs.lemmas.Bool.{cases_eq, cases_lt}
use Rattle.std.proofs.lemmas.List.{get_or_past, ext_get_or}
use Rattle.std.proofs.lemmas.List.FromFn.{get_or-map-range_with_len, length-map-range_with_len}
use Rattle.mcs_control.specs.declared.config.Order.{Order}
use Rattle.mcs_script.specs.declared.item.Item.{Item}
use Rattle.mcs_script.specs.declared.item.Item.TheVariants.{Compute, Signal, Wait, Yield, On, Spin, Enter, Leave}
use Rattle.mcs_system.specs.System.{System, thread_part, no_thread, note_part, no_note, core_of, delay_between}
use Rattle.mcs_system.proofs.Linked.{delays_within}
use Rattle.mcs_system.specs.WellFormed.{IsWellFormed, IsItem, IsOrder}
use Rattle.mcs_core.specs.State.{delays_from}
use Rattle.mcs_core.specs.declared.log.Here.{Here}
use Rattle.mcs_core.specs.stored.Items.{IsNoted}
use Rattle.mcs_core.specs.stored.Parts.{HasDelays}
use Rattle.mcs_core.proofs.Soundness.{IsOneEach}
use Rattle.mcs_core.proofs.Turning.{IsProperOrder}

-- no two threads have one context
pub one-each : (system : System) → IsWellFormed system → IsOneEach system
one-each system w x y l m e = elim (cases_eq x y) [
  | inl same ↦ same
  | inr ne ↦ elim (cases_lt x y) [
    | inl h ↦ absurd (w.one_each x y no_thread h m e)
    | inr h ↦ absurd (w.one_each y x no_thread (omega arith) l (sym e))
  ]
]

-- each order is a proper one
pub orders-proper : (system : System) → IsWellFormed system → AllByRecursion (IsProperOrder system) system.orders
orders-proper system w = each system.orders w.orders
  where
    each : (orders : List Order) → All (IsOrder system) orders → AllByRecursion (IsProperOrder system) orders
    each [] h = tt
    each (order ∷ orders) h =
        let o : IsOrder system order = h 0 order (omega arith) in
        (record { accepted = o.accepted; same_kind = o.same_kind; known = o.context }, each orders (λ k d l. h (suc k) d (omega arith)))

-- the notifications of all items are the system's
pub all-noted : (system : System) → IsWellFormed system → (x i : ℕ) → IsNoted (length system.notes) (slice_get (thread_part system x).script i)
all-noted system w x i = elim (cases_lt x (length system.threads)) [
  | inl h ↦ items (core_of system (thread_part system x)) (thread_part system x).script i (w.threads x no_thread h).items
  | inr h ↦ rw (get_or_past system.threads x no_thread h) tt
]
  where
    noted : (core : ℕ) (item : Item) → IsItem system core item → IsNoted (length system.notes) (Some item)
    noted core (Compute ticks) h = tt
    noted core (Signal note badge) h = h.0
    noted core (Wait note) h = h.0
    noted core Yield h = tt
    noted core (On badges) h = tt
    noted core Spin h = tt
    noted core (Enter server priority) h = h.0
    noted core (Leave server priority) h = h.0

    items : (core : ℕ) (script : List Item) (i : ℕ) → All (IsItem system core) script → IsNoted (length system.notes) (slice_get script i)
    items core [] i h = tt
    items core (item ∷ script) zero h = noted core item (h 0 item (omega arith))
    items core (item ∷ script) (suc i) h = items core script i (λ k d l. h (suc k) d (omega arith))

-- how long a signal is under way
pub delay-short : (system : System) → IsWellFormed system → (maker home : ℕ) → delay_between system maker home ≤ 2 ^ 20
delay-short system w maker home = (delays_within system w maker home).1

-- there are at most 64 cores
pub home-known : (system : System) → IsWellFormed system → (note : ℕ) → note < length system.notes → (note_part system note).core < 64
home-known system w note h =
    let home : (note_part system note).core < system.cores = w.notes note no_note h in
    let few = w.limits.cores.1 in
    omega arith

-- the row of a core's delays
pub delay-at : (system : System) (c home : ℕ) → home < 64 → slice_index (delays_from system c) home ≡ delay_between system c home
delay-at system c home h = let e : 0 + home ≡ home = omega arith in get_or-map-range_with_len (delay_between system c) 0 64 home home 0 h e

pub delays-are : (system : System) (c : ℕ) (delays : List ℕ) → length delays ≡ 64 → ((home : ℕ) → home < 64 → slice_index delays home ≡ delay_between system c home) → delays ≡ delays_from system c
delays-are system c delays many each =
    ext_get_or 0 delays (delays_from system c) (many ∙ sym (length-map-range_with_len (delay_between system c) 0 64))
    (λ home h. let l : home < 64 = omega (arith, h, many) in each home l ∙ sym (delay-at system c home l))

-- what a turn knows of its row
pub has-delays : (here : Here) → IsWellFormed here.system.now → here.delays.now ≡ delays_from here.system.now here.core → HasDelays here
has-delays here well row = λ note h.
    let home : ℕ = (note_part here.system.now note).core in
    let known : home < 64 = home-known here.system.now well note h in
    let is : slice_index here.delays.now home ≡ delay_between here.system.now here.core home = ap (λ (delays : List ℕ). slice_index delays home) row ∙ delay-at here.system.now here.core home known in
    let short : delay_between here.system.now here.core home ≤ 2 ^ 20 = delay-short here.system.now well here.core home in
    record { known = known; is = is; short = omega (arith, is, short) }
