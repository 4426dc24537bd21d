-- The threads of a system and of its spun one, and the states that they have in both.
use Rattle.std.proofs.Common.{◌≡◌, ℕ, zero, suc, Bool, true, false, cond, List, [], ◌∷◌, length, set, get_or, refl, sym, ap, ◌∙◌, Option, Some, None, arith}
use Rattle.std.specs.Prelude.{◌&&◌, ◌==◌}
use Rattle.std.specs.List.{slice_get, list_all}
use Rattle.std.proofs.lemmas.Bool.Decides.{nat_tests}
use Rattle.std.proofs.Math.ListN.{get_or-map}
use Rattle.mcs_script.specs.declared.item.Item.{Item}
use Rattle.mcs_script.specs.declared.item.Item.TheVariants.{Compute, Signal, Wait, Yield, On, Spin, Enter, Leave}
use Rattle.mcs_script.specs.Script.{first_place, never, left_after}
use Rattle.mcs_system.specs.declared.part.ThreadPart.{ThreadPart}
use Rattle.mcs_system.specs.System.{System, thread_part, no_thread}
use Rattle.mcs_core.specs.Core.{no_state}
use Rattle.mcs_core.specs.declared.standing.Standing.{Standing}
use Rattle.mcs_core.specs.declared.standing.Thread.{Thread}
use Rattle.mcs_spin.specs.Spun.{is_compute, computes, only_computes, spun_part, spun, is_spun}

-- the state of a thread that spins since its start
abbrev pub spinning : ThreadPart → Thread → Thread
spinning part state = record state { place = first_place 0 state.place.priority (Spin ∷ []); since = part.start }

abbrev pub spun_state : ThreadPart → Thread → Thread
spun_state part state = cond (only_computes part) (spinning part state) state

abbrev pub spun_states : List ThreadPart → List Thread → List Thread
spun_states [] states = states
spun_states (part ∷ parts) [] = []
spun_states (part ∷ parts) (state ∷ states) = spun_state part state ∷ spun_states parts states

-- the parts
pub part-spun : (system : System) (x : ℕ) → thread_part (spun system) x ≡ spun_part (thread_part system x)
part-spun system x = get_or-map spun_part system.threads x no_thread

pub part-other : (system : System) (x : ℕ) → is_spun system x ≡ false → thread_part (spun system) x ≡ thread_part system x
part-other system x e =
    part-spun system x ∙ ap (λ b. cond b (record (thread_part system x) { script = Spin ∷ [] }) (thread_part system x)) e

pub context-part : (part : ThreadPart) → (spun_part part).context ≡ part.context
context-part part = by (only_computes part)
  where
    by : (b : Bool) → (cond b (record part { script = Spin ∷ [] }) part).context ≡ part.context
    by true = refl
    by false = refl

pub context-same : (system : System) (x : ℕ) → (thread_part (spun system) x).context ≡ (thread_part system x).context
context-same system x = ap (λ (part : ThreadPart). part.context) (part-spun system x) ∙ context-part (thread_part system x)

-- there is no item there, or it computes
abbrev pub IsCompute : Option Item → Type 0
IsCompute None = Unit {0}
IsCompute (Some (Compute ticks)) = Unit {0}
IsCompute (Some (Signal note badge)) = ⊥
IsCompute (Some (Wait note)) = ⊥
IsCompute (Some Yield) = ⊥
IsCompute (Some (On badges)) = ⊥
IsCompute (Some Spin) = ⊥
IsCompute (Some (Enter server priority)) = ⊥
IsCompute (Some (Leave server priority)) = ⊥

no : {P : Type 0} → false ≡ true → P
no e = absurd (never e)
  where
    never : false ≡ true → ⊥
    never e = cc

both : (a b : Bool) → a && b ≡ true → (a ≡ true) × (b ≡ true)
both true b e = (refl, e)
both false b e = no e

computing : (item : Item) → is_compute item ≡ true → IsCompute (Some item)
computing (Compute ticks) e = tt
computing (Signal note badge) e = no e
computing (Wait note) e = no e
computing Yield e = no e
computing (On badges) e = no e
computing Spin e = no e
computing (Enter server priority) e = no e
computing (Leave server priority) e = no e

all-compute : (items : List Item) (i : ℕ) → list_all is_compute items ≡ true → IsCompute (slice_get items i)
all-compute [] i e = tt
all-compute (item ∷ items) zero e = computing item (both (is_compute item) (list_all is_compute items) e).0
all-compute (item ∷ items) (suc i) e = all-compute items i (both (is_compute item) (list_all is_compute items) e).1

script-compute : (items : List Item) (i : ℕ) → computes items ≡ true → IsCompute (slice_get items i)
script-compute [] i e = no e
script-compute (item ∷ items) i e = all-compute (item ∷ items) i e

pub items-compute : (part : ThreadPart) (i : ℕ) → only_computes part ≡ true → IsCompute (slice_get part.script i)
items-compute part i e = script-compute part.script i (both (part.rounds == 0 && part.deadline == 0) (computes part.script) e).1

pub endless : (part : ThreadPart) → only_computes part ≡ true → part.rounds ≡ 0
endless part e =
    zeroes part.rounds (both (part.rounds == 0) (part.deadline == 0) (both (part.rounds == 0 && part.deadline == 0) (computes part.script) e).0).0
  where
    zeroes : (n : ℕ) → (n == 0) ≡ true → n ≡ 0
    zeroes n e = grind (arith, nat_tests)

-- the states
pub state-same : {A : Type 0} (P : Thread → A) → ((part : ThreadPart) (s : Thread) → P (spun_state part s) ≡ P s) →
    (parts : List ThreadPart) (i : ℕ) (ss : List Thread) → P (get_or (spun_states parts ss) i no_state) ≡ P (get_or ss i no_state)
state-same P h [] i ss = refl
state-same P h (part ∷ parts) zero [] = refl
state-same P h (part ∷ parts) (suc i) [] = refl
state-same P h (part ∷ parts) zero (s ∷ ss) = h part s
state-same P h (part ∷ parts) (suc i) (s ∷ ss) = state-same P h parts i ss

pub state-other : (parts : List ThreadPart) (i : ℕ) (ss : List Thread) → only_computes (get_or parts i no_thread) ≡ false →
    get_or (spun_states parts ss) i no_state ≡ get_or ss i no_state
state-other [] i ss e = refl
state-other (part ∷ parts) zero [] e = refl
state-other (part ∷ parts) (suc i) [] e = refl
state-other (part ∷ parts) zero (s ∷ ss) e = ap (λ b. cond b (spinning part s) s) e
state-other (part ∷ parts) (suc i) (s ∷ ss) e = state-other parts i ss e

-- past the last thread none only computes
none-there : (i : ℕ) → only_computes (get_or [] i no_thread) ≡ true → ⊥
none-there zero e = cc
none-there (suc i) e = cc

pub left-spun : (parts : List ThreadPart) (i : ℕ) (ss : List Thread) → length ss ≡ length parts → only_computes (get_or parts i no_thread) ≡ true →
    (get_or (spun_states parts ss) i no_state).place.left ≡ never
left-spun [] i ss l e = absurd (none-there i e)
left-spun (part ∷ parts) i [] l e = absurd (omega (arith, l))
left-spun (part ∷ parts) zero (s ∷ ss) l e = ap (λ b. (cond b (spinning part s) s).place.left) e
left-spun (part ∷ parts) (suc i) (s ∷ ss) l e = left-spun parts i ss (omega (arith, l)) e

-- the state of a thread changes in both
pub set-states : (F G : Thread → Thread) (parts : List ThreadPart) (i : ℕ) (ss : List Thread) →
    ((s : Thread) → spun_state (get_or parts i no_thread) (F s) ≡ G (spun_state (get_or parts i no_thread) s)) →
    spun_states parts (set ss i (F (get_or ss i no_state))) ≡ set (spun_states parts ss) i (G (get_or (spun_states parts ss) i no_state))
set-states F G [] zero ss h = ap (set ss zero) (h (get_or ss zero no_state))
set-states F G [] (suc i) ss h = ap (set ss (suc i)) (h (get_or ss (suc i) no_state))
set-states F G (part ∷ parts) zero [] h = refl
set-states F G (part ∷ parts) (suc i) [] h = refl
set-states F G (part ∷ parts) zero (s ∷ ss) h = ap (λ first. first ∷ spun_states parts ss) (h s)
set-states F G (part ∷ parts) (suc i) (s ∷ ss) h = ap (λ others. spun_state part s ∷ others) (set-states F G parts i ss h)

-- or it changes for a thread that spins in the other, and so not there
pub kept-states : (F : Thread → Thread) (parts : List ThreadPart) (i : ℕ) (ss : List Thread) → only_computes (get_or parts i no_thread) ≡ true →
    ((s : Thread) → spun_state (get_or parts i no_thread) (F s) ≡ spun_state (get_or parts i no_thread) s) →
    spun_states parts (set ss i (F (get_or ss i no_state))) ≡ spun_states parts ss
kept-states F [] i ss e h = absurd (none-there i e)
kept-states F (part ∷ parts) zero [] e h = refl
kept-states F (part ∷ parts) (suc i) [] e h = refl
kept-states F (part ∷ parts) zero (s ∷ ss) e h = ap (λ first. first ∷ spun_states parts ss) (h s)
kept-states F (part ∷ parts) (suc i) (s ∷ ss) e h = ap (λ others. spun_state part s ∷ others) (kept-states F parts i ss e h)

-- a change that keeps the priority
pub spinning-kept : (part : ThreadPart) (F : Thread → Thread) → only_computes part ≡ true → ((s : Thread) → (F s).standing ≡ s.standing) →
    ((s : Thread) → (F s).place.priority ≡ s.place.priority) → (s : Thread) → spun_state part (F s) ≡ spun_state part s
spinning-kept part F e f g s =
    ap (λ b. cond b (spinning part (F s)) (F s)) e
    ∙ alike (F s).standing s.standing (F s).place.priority s.place.priority (f s) (g s)
    ∙ sym (ap (λ b. cond b (spinning part s) s) e)
  where
    state : Standing → ℕ → Thread
    state standing priority = record { standing = standing; place = first_place 0 priority (Spin ∷ []); since = part.start }

    alike : (a b : Standing) (p q : ℕ) → a ≡ b → p ≡ q → state a p ≡ state b q
    alike a b p q e f = cc

-- a tick counts for a thread; of an item that spins as much is left
pub counted-state : (part : ThreadPart) (s : Thread) →
    spun_state part (record s { place = record (s.place) { left = left_after 1 s.place.left } })
    ≡ record (spun_state part s) { place = record ((spun_state part s).place) { left = left_after 1 (spun_state part s).place.left } }
counted-state part s = by (only_computes part)
  where
    by : (b : Bool) →
        cond b (spinning part (record s { place = record (s.place) { left = left_after 1 s.place.left } })) (record s { place = record (s.place) { left = left_after 1 s.place.left } })
        ≡ record (cond b (spinning part s) s) { place = record ((cond b (spinning part s) s).place) { left = left_after 1 (cond b (spinning part s) s).place.left } }
    by true = refl
    by false = refl

pub standing-state : (part : ThreadPart) (standing : Standing) (s : Thread) →
    spun_state part (record s { standing = standing }) ≡ record (spun_state part s) { standing = standing }
standing-state part standing s = by (only_computes part)
  where
    by : (b : Bool) →
        cond b (spinning part (record s { standing = standing })) (record s { standing = standing }) ≡ record (cond b (spinning part s) s) { standing = standing }
    by true = refl
    by false = refl

pub priority-state : (part : ThreadPart) (s : Thread) → (spun_state part s).place.priority ≡ s.place.priority
priority-state part s = by (only_computes part)
  where
    by : (b : Bool) → (cond b (spinning part s) s).place.priority ≡ s.place.priority
    by true = refl
    by false = refl
