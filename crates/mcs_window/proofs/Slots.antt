-- The slots of a desk: at the beginning, and when one of them is written.
use Rattle.std.proofs.Common.{◌≡◌, ℕ, suc, ◌+◌, ◌<◌, ◌≤◌, ◌^◌, Bool, true, false, Option, None, List, [], ◌∷◌, ◌++◌, length, map, replicate, get_or, refl, sym, ap, ◌∙◌, subst, arith}
use Rattle.std.specs.Prelude.{nat_lt, slice_index}
use Rattle.std.specs.Arc.{arc_value}
use Rattle.std.proofs.lemmas.Bool.Decides.{nat_tests}
use Rattle.std.proofs.lemmas.List.{get_or_append_left, get_or_push, length_push, length-replicate}
use Rattle.mcs_ticks.specs.declared.row.Row.{Row}
use Rattle.mcs_mail.specs.declared.mail.Mail.{Mail}
use Rattle.mcs_system.specs.System.{System}
use Rattle.mcs_system.specs.WellFormed.{IsWellFormed}
use Rattle.mcs_window.specs.stored.Reaches.{AreReaches}
use Rattle.mcs_window.specs.stored.Opening.{AreEmptyBoxes, AreDelays}
use Rattle.mcs_window.specs.stored.Slots.{slot_loan, IsPlaced, IsKept, IsFresh, AreFresh}
use Rattle.mcs_stretch.specs.Stretch.{rows_between}
use Rattle.mcs_window.specs.Desk.{Table, opening_table, AreEmpty}
use Rattle.mcs_window.specs.declared.slot.Loan.{Loan}
use Rattle.mcs_window.specs.declared.slot.Slot.{Slot}
use Rattle.mcs_window.specs.declared.slot.Slot.TheVariants.{Here, Away}
use Rattle.mcs_window.specs.declared.desk.Desk.TheInside.{Inside}
use Rattle.mcs_stretch.proofs.Openings.{zero_at, opening_stands, inbox-opening}
use Rattle.mcs_stretch.proofs.Ranges.{rows-none}

pub fresh-more : (system : System) (many : ℕ) (slots more : List Slot) (slot : Slot) → AreFresh system many slots → IsFresh system many slot → more ≡ slots ++ slot ∷ [] → AreFresh system (many + 1) more
fresh-more system many slots more slot h fresh e =
    record { many_are = ap length e ∙ length_push slots slot ∙ ap (λ n. n + 1) h.many_are; each = λ c x l. subst (λ xs. IsFresh system c (get_or xs c x)) (sym e) (by c x l (nat_lt c many) refl) }
  where
    by : (c : ℕ) (x : Slot) → c < many + 1 → (u : Bool) → nat_lt c many ≡ u → IsFresh system c (get_or (slots ++ slot ∷ []) c x)
    by c x l true f =
        let below : c < many = grind (arith, nat_tests) in
        subst (IsFresh system c) (sym (get_or_append_left slots (slot ∷ []) x c (let many_are = h.many_are in omega arith))) (h.each c x below)
    by c x l false f =
        let last : length slots ≡ c = (let many_are = h.many_are in grind (arith, nat_tests)) in
        let same : many ≡ c = omega (arith, h.many_are) in
        subst (IsFresh system c) (sym (get_or_push slots slot x c last)) (subst (λ k. IsFresh system k slot) same fresh)

-- a core that was not lent yet
fresh_loan : (system : System) (c : ℕ) (slot : Slot) → IsFresh system c slot → slot_loan slot ≡ None
fresh_loan system c (Here spare state) fresh = refl
fresh_loan system c (Away loan) fresh = absurd fresh

pub no_loans : (slots : List Slot) → ((c : ℕ) (x : Slot) → c < length slots → slot_loan (get_or slots c x) ≡ None) → map slot_loan slots ≡ replicate (length slots) None
no_loans [] h = refl
no_loans (slot ∷ slots) h = rw (h 0 slot (omega arith), no_loans slots (λ c x l. h (suc c) x (omega arith))) refl

fresh_placed : (system : System) (horizon c : ℕ) (clocks : List ℕ) (box : List Mail) (slot : Slot) → c < system.cores → ((b : ℕ) → slice_index clocks b ≡ 0) → box ≡ [] → IsFresh system c slot →
    IsPlaced system horizon c clocks box slot
fresh_placed system horizon c clocks box (Here spare state) l zeros none fresh = (
  fresh.0,
  record {
    reached = λ b m x _ _ _ _. let e = zeros c in omega arith;
    state_is = rw (zeros c) (opening_stands system c state.value l fresh.1 fresh.2);
    box_is = none ∙ sym (inbox-opening system c (slice_index clocks c) clocks (λ b _. zeros b));
  },
)
fresh_placed system horizon c clocks box (Away loan) l zeros none fresh = absurd fresh

-- a desk at the beginning
pub opened_desk : {S : Type 0} (holds : S → List Row → Type 0) (a : Inside S) → a.horizon ≤ 2 ^ 40 → IsWellFormed (arc_value a.system) → a.clocks ≡ replicate 64 0 → a.taken ≡ replicate 64 0 →
    AreFresh (arc_value a.system) (arc_value a.system).cores a.slots.items → AreEmptyBoxes (arc_value a.system).cores a.boxes.items → AreEmpty holds (arc_value a.system).cores a.told.items →
    AreDelays (arc_value a.system) (arc_value a.system).cores a.delays.items → AreReaches (arc_value a.system) a.reaches.items → IsKept holds a
opened_desk holds a in_time well clocks_are taken_are slots boxes told delays reaches =
    record {
      horizon = in_time;
      well_formed = well;
      few = well.limits.cores.1;
      clocks_of = ap length clocks_are ∙ length-replicate {A = ℕ} 64 0;
      taken_of = ap length taken_are ∙ length-replicate {A = ℕ} 64 0;
      idle = λ b _. clock b;
      slots_of = slots.many_are;
      boxes_of = boxes.many_are;
      delays_are = delays;
      reaches_are = reaches;
      since = record {
        in_time = λ c _. let e = clock c in omega arith;
        in_order = λ c _. let e = clock c in let f = taken c in omega arith;
        told_are = record { many_are = told.many_are; each = λ c x l. subst (holds (get_or a.told.items c x)) (both c (sym (taken c)) (sym (clock c))) (told.each c x l) };
      };
      placed = λ c slot box l. fresh_placed (arc_value a.system) a.horizon c a.clocks _ _ l clock (boxes.each c box l) (slots.each c slot l);
    }
  where
    clock : (c : ℕ) → slice_index a.clocks c ≡ 0
    clock c = ap (λ xs. slice_index xs c) clocks_are ∙ zero_at 64 c

    taken : (c : ℕ) → slice_index a.taken c ≡ 0
    taken c = ap (λ xs. slice_index xs c) taken_are ∙ zero_at 64 c

    both : (c : ℕ) {p q : ℕ} → 0 ≡ p → 0 ≡ q → [] ≡ rows_between (arc_value a.system) c p q
    both c e f = rw (← e, ← f) (sym (rows-none (arc_value a.system) c 0))

-- the table at the beginning, with these loans
abbrev pub with_loans : System → ℕ → List (Option Loan) → Table
with_loans system horizon loans = record (opening_table system horizon) { loans = loans }

pub opened_loans : (system : System) (slots : List Slot) → AreFresh system system.cores slots → map slot_loan slots ≡ replicate system.cores None
opened_loans system slots fresh =
    no_loans slots (λ c x l. fresh_loan system c (get_or slots c x) (fresh.each c x (omega (arith, fresh.many_are)))) ∙ ap (λ n. replicate n None) fresh.many_are
