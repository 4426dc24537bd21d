-- Contexts and threads, each later by its own number.
use Rattle.std.proofs.Common.{◌≡◌, ℕ, zero, suc, ◌+◌, ◌-◌, ◌<◌, ◌≤◌, ◌⊎◌, inl, inr, Bool, true, false, cond, List, [], ◌∷◌, length, set, get_or, min, ◌^◌, refl, sym, ap, subst, ◌∙◌, Option, Some, None, option_map, arith}
use Rattle.std.specs.Prelude.{nat_le, unwrap_or}
use Rattle.std.proofs.lemmas.Bool.Decides.{nat_tests}
use Rattle.mcs_refills.proofs.Spaces.{kept-charged, kept-unblocked}
use Rattle.mcs_control.specs.declared.config.Mode.{Mode}
use Rattle.mcs_control.specs.declared.config.Mode.TheVariants as modes
use Rattle.mcs_control.specs.Context.{Context, Budget, context_charged, context_woken, context_chosen, context_unblocked, woken_by, chosen_by, head_amount, amount_of, max_refills_of, date_from}
use Rattle.mcs_control.specs.Context.Budget.{Dates, Slice}
use Rattle.mcs_script.specs.declared.item.Item.{Item}
use Rattle.mcs_script.specs.Script.{next_of, move_by, move_after}
use Rattle.mcs_script.specs.declared.place.Place.{Place}
use Rattle.mcs_ticks.specs.declared.row.What.TheVariants as row
use Rattle.mcs_ticks.specs.declared.row.Why.{Why}
use Rattle.mcs_system.specs.System.{System, thread_part}
use Rattle.mcs_core.specs.Contexts.{no_server}
use Rattle.mcs_core.specs.Core.{no_state}
use Rattle.mcs_core.specs.declared.standing.Thread.{Thread}
use Rattle.mcs_ever.specs.Later.{Shift, later_budget, later_context, later_contexts, later_thread, later_threads, later_place, more_rounds}
use Rattle.mcs_ever.proofs.Sound.{Agrees, IsFit, IsInOrder, AreInOrder}
use Rattle.mcs_ever.proofs.Dates.{charge-later, unblocked-later, head_amount-later}

-- a context
module _ (d : ℕ) where
  pub charged-context : (system : System) (shift : Shift) (x k min_budget : ℕ) (c : Context) → 1 ≤ k → IsInOrder system shift x c →
      later_context d (context_charged k min_budget c) ≡ context_charged k min_budget (later_context d c)
  charged-context system shift x k min_budget c l h = by c.budget h.fit
    where
      by : (budget : Budget) → IsFit system shift c.config budget →
          later_context d (context_charged k min_budget (record c { budget = budget })) ≡ context_charged k min_budget (later_context d (record c { budget = budget }))
      by (Dates dates) w =
          ap (λ dates. record c { budget = Dates dates }) (sym (charge-later d k min_budget c.config.budget c.config.period (max_refills_of c.config) dates l w))
      by (Slice left) w = refl

  unblocked-context : (t : ℕ) (c : Context) → later_context d (context_unblocked t c) ≡ context_unblocked (t + d) (later_context d c)
  unblocked-context t c = by c.budget
    where
      by : (budget : Budget) → later_context d (context_unblocked t (record c { budget = budget })) ≡ context_unblocked (t + d) (later_context d (record c { budget = budget }))
      by (Dates dates) = ap (λ dates. record c { budget = Dates dates }) (sym (unblocked-later d t dates))
      by (Slice left) = refl

  pub woken-context : (t : ℕ) (c : Context) → later_context d (context_woken t c) ≡ context_woken (t + d) (later_context d c)
  woken-context t c = by c.mode
    where
      by : (mode : Mode) → later_context d (woken_by mode t c) ≡ woken_by mode (t + d) (later_context d c)
      by modes.Sporadic = unblocked-context t c
      by modes.Bandwidth = refl

  pub chosen-context : (t : ℕ) (c : Context) → later_context d (context_chosen t c) ≡ context_chosen (t + d) (later_context d c)
  chosen-context t c = by c.mode
    where
      by : (mode : Mode) → later_context d (chosen_by mode t c) ≡ chosen_by mode (t + d) (later_context d c)
      by modes.Sporadic = refl
      by modes.Bandwidth = unblocked-context t c

  -- in mode sporadic a choice does nothing, whenever it is
  pub chosen-sporadic : (t u : ℕ) (c : Context) → c.mode ≡ modes.Sporadic → later_context d (context_chosen t c) ≡ context_chosen u (later_context d c)
  chosen-sporadic t u c e = rw e refl

  pub head-context : (c : Context) → head_amount (later_context d c) ≡ head_amount c
  head-context c = by c.budget
    where
      by : (budget : Budget) → amount_of (later_budget d budget) ≡ amount_of budget
      by (Dates dates) = head_amount-later d dates
      by (Slice left) = refl

-- each change keeps a context in order
module _ (system : System) (shift : Shift) (x : ℕ) where
  pub charged-order : (k min_budget : ℕ) (c : Context) → 1 ≤ k → IsInOrder system shift x c → IsInOrder system shift x (context_charged k min_budget c)
  charged-order k min_budget c l h = record { fit = by c.budget h.fit; mode = h.mode }
    where
      by : (budget : Budget) → IsFit system shift c.config budget → IsFit system shift c.config (context_charged k min_budget (record c { budget = budget })).budget
      by (Dates dates) w = (kept-charged c.config.budget c.config.period (max_refills_of c.config) k min_budget dates l w).1
      by (Slice left) w = tt

  unblocked-order : (t : ℕ) (c : Context) → IsInOrder system shift x c → IsInOrder system shift x (context_unblocked t c)
  unblocked-order t c h = record { fit = by c.budget h.fit; mode = h.mode }
    where
      by : (budget : Budget) → IsFit system shift c.config budget → IsFit system shift c.config (context_unblocked t (record c { budget = budget })).budget
      by (Dates dates) w = kept-unblocked c.config.budget c.config.period t dates w
      by (Slice left) w = tt

  pub woken-order : (t : ℕ) (c : Context) → IsInOrder system shift x c → IsInOrder system shift x (context_woken t c)
  woken-order t c h = by c.mode
    where
      by : (mode : Mode) → IsInOrder system shift x (woken_by mode t c)
      by modes.Sporadic = unblocked-order t c h
      by modes.Bandwidth = h

  pub chosen-order : (t : ℕ) (c : Context) → IsInOrder system shift x c → IsInOrder system shift x (context_chosen t c)
  chosen-order t c h = by c.mode
    where
      by : (mode : Mode) → IsInOrder system shift x (chosen_by mode t c)
      by modes.Sporadic = h
      by modes.Bandwidth = unblocked-order t c h

  pub none-order : IsInOrder system shift x no_server
  none-order = record { fit = tt; mode = λ e. refl }

-- the date with which a thread must wait, if the row of its stop agrees
module _ (system : System) (shift : Shift) (x : ℕ) (cause : Why) (k t : ℕ) where
  pub date-later : (c : Context) → shift.contexts (thread_part system x).context ≤ shift.by → Agrees system shift (row.Stop x cause k (date_from t c)) →
      option_map (λ date. date + shift.by) (date_from t c) ≡ date_from (t + shift.by) (later_context (shift.contexts (thread_part system x).context) c)
  date-later c l a = by c.budget a
    where
      e : ℕ
      e = shift.contexts (thread_part system x).context

      none : (t : ℕ) → nat_le 0 t ≡ true
      none t = grind (arith, nat_tests)

      past : (u : ℕ) → nat_le u t ≡ true → nat_le (u + e) (t + shift.by) ≡ true
      past u f = grind (arith, nat_tests)

      moved : (u d f : ℕ) → f ≡ d → nat_le u t ≡ false → nat_le (u + f) (t + d) ≡ false
      moved u d f g h = grind (arith, nat_tests)

      test : (u : ℕ) (b : Bool) → nat_le u t ≡ b → Agrees system shift (row.Stop x cause k (cond b None (Some u))) →
          option_map (λ date. date + shift.by) (cond b None (Some u)) ≡ cond (nat_le (u + e) (t + shift.by)) None (Some (u + e))
      test u true f a = ap (λ b. cond b None (Some (u + e))) (sym (past u f))
      test u false f a = ap (λ date. Some (u + date)) (sym a.1) ∙ ap (λ b. cond b None (Some (u + e))) (sym (moved u shift.by e a.1 f))

      by : (budget : Budget) → Agrees system shift (row.Stop x cause k (date_from t (record c { budget = budget }))) →
          option_map (λ date. date + shift.by) (date_from t (record c { budget = budget })) ≡ date_from (t + shift.by) (later_context e (record c { budget = budget }))
      by (Dates []) a =
          ap (λ b. option_map (λ date. date + shift.by) (cond b None (Some 0))) (none t) ∙ ap (λ b. cond b None (Some 0)) (sym (none (t + shift.by)))
      by (Dates (u ∷ us)) a = test u (nat_le u t) refl a
      by (Slice left) a = refl

-- the contexts of a core
module _ (f : ℕ → ℕ) where
  got-context : (k i j : ℕ) (cs : List (Option Context)) → k + i ≡ j → get_or (later_contexts f k cs) i None ≡ option_map (later_context (f j)) (get_or cs i None)
  got-context k zero j [] e = refl
  got-context k (suc i) j [] e = refl
  got-context k zero j (c ∷ cs) e = ap (λ m. option_map (later_context (f m)) c) (omega (arith, e))
  got-context k (suc i) j (c ∷ cs) e = got-context (k + 1) i j cs (omega (arith, e))

  pub held-later : (i : ℕ) (cs : List (Option Context)) → unwrap_or (get_or (later_contexts f 0 cs) i None) no_server ≡ later_context (f i) (unwrap_or (get_or cs i None) no_server)
  held-later i cs = ap (λ c. unwrap_or c no_server) (got-context 0 i i cs (omega arith)) ∙ by (get_or cs i None)
    where
      by : (c : Option Context) → unwrap_or (option_map (later_context (f i)) c) no_server ≡ later_context (f i) (unwrap_or c no_server)
      by None = refl
      by (Some c) = refl

  set-context : (k i j : ℕ) (cs : List (Option Context)) (c : Context) → k + i ≡ j →
      later_contexts f k (set cs i (Some c)) ≡ set (later_contexts f k cs) i (Some (later_context (f j) c))
  set-context k zero j [] c e = refl
  set-context k (suc i) j [] c e = refl
  set-context k zero j (o ∷ cs) c e = ap (λ m. Some (later_context (f m) c) ∷ later_contexts f (k + 1) cs) (omega (arith, e))
  set-context k (suc i) j (o ∷ cs) c e = ap (λ others. option_map (later_context (f k)) o ∷ others) (set-context (k + 1) i j cs c (omega (arith, e)))

  pub set-later : (i : ℕ) (cs : List (Option Context)) (c : Context) → later_contexts f 0 (set cs i (Some c)) ≡ set (later_contexts f 0 cs) i (Some (later_context (f i) c))
  set-later i cs c = set-context 0 i i cs c (omega arith)

module _ (system : System) (shift : Shift) where
  got-order : (k i j : ℕ) (cs : List (Option Context)) → k + i ≡ j → AreInOrder system shift k cs → IsInOrder system shift j (unwrap_or (get_or cs i None) no_server)
  got-order k zero j [] e h = none-order system shift j
  got-order k (suc i) j [] e h = none-order system shift j
  got-order k zero j (c ∷ cs) e h = let f : k ≡ j = omega (arith, e) in let P : ℕ → Type 0 = λ m. IsInOrder system shift m (unwrap_or c no_server) in subst P f h.0
  got-order k (suc i) j (c ∷ cs) e h = got-order (k + 1) i j cs (omega (arith, e)) h.1

  pub held-order : (i : ℕ) (cs : List (Option Context)) → AreInOrder system shift 0 cs → IsInOrder system shift i (unwrap_or (get_or cs i None) no_server)
  held-order i cs h = got-order 0 i i cs (omega arith) h

  set-order : (k i j : ℕ) (cs : List (Option Context)) (c : Context) → k + i ≡ j → AreInOrder system shift k cs → IsInOrder system shift j c → AreInOrder system shift k (set cs i (Some c))
  set-order k zero j [] c e h o = tt
  set-order k (suc i) j [] c e h o = tt
  set-order k zero j (b ∷ cs) c e h o = (let f : j ≡ k = omega (arith, e) in let P : ℕ → Type 0 = λ m. IsInOrder system shift m c in subst P f o, h.1)
  set-order k (suc i) j (b ∷ cs) c e h o = (h.0, set-order (k + 1) i j cs c (omega (arith, e)) h.1 o)

  pub kept-order : (i : ℕ) (cs : List (Option Context)) (c : Context) → AreInOrder system shift 0 cs → IsInOrder system shift i c → AreInOrder system shift 0 (set cs i (Some c))
  kept-order i cs c h o = set-order 0 i i cs c (omega arith) h o

-- the threads of a core
module _ (g n : ℕ → ℕ) where
  same-of : {A : Type 0} (P : Thread → A) (k i j : ℕ) (ts : List Thread) → k + i ≡ j → ((s : Thread) → P (later_thread (g j) (n j) s) ≡ P s) →
      P (get_or (later_threads g n k ts) i no_state) ≡ P (get_or ts i no_state)
  same-of P k zero j [] e h = refl
  same-of P k (suc i) j [] e h = refl
  same-of P k zero j (s ∷ ts) e h = ap (λ m. P (later_thread (g m) (n m) s)) (omega (arith, e)) ∙ h s
  same-of P k (suc i) j (s ∷ ts) e h = same-of P (k + 1) i j ts (omega (arith, e)) h

  -- what a thread has, later or not
  pub thread-same : {A : Type 0} (P : Thread → A) (i : ℕ) (ts : List Thread) → ((s : Thread) → P (later_thread (g i) (n i) s) ≡ P s) →
      P (get_or (later_threads g n 0 ts) i no_state) ≡ P (get_or ts i no_state)
  thread-same P i ts h = same-of P 0 i i ts (omega arith) h

  got-thread : (k i j : ℕ) (ts : List Thread) → k + i ≡ j → i < length ts → get_or (later_threads g n k ts) i no_state ≡ later_thread (g j) (n j) (get_or ts i no_state)
  got-thread k i j [] e l = absurd (omega (arith, l))
  got-thread k zero j (s ∷ ts) e l = ap (λ m. later_thread (g m) (n m) s) (omega (arith, e))
  got-thread k (suc i) j (s ∷ ts) e l = got-thread (k + 1) i j ts (omega (arith, e)) (omega (arith, l))

  pub thread-later : (i : ℕ) (ts : List Thread) → i < length ts → get_or (later_threads g n 0 ts) i no_state ≡ later_thread (g i) (n i) (get_or ts i no_state)
  thread-later i ts l = got-thread 0 i i ts (omega arith) l

  set-of : (F G : Thread → Thread) (k i j : ℕ) (ts : List Thread) → k + i ≡ j → ((s : Thread) → later_thread (g j) (n j) (F s) ≡ G (later_thread (g j) (n j) s)) →
      later_threads g n k (set ts i (F (get_or ts i no_state))) ≡ set (later_threads g n k ts) i (G (get_or (later_threads g n k ts) i no_state))
  set-of F G k zero j [] e h = refl
  set-of F G k (suc i) j [] e h = refl
  set-of F G k zero j (s ∷ ts) e h =
      let f : j ≡ k = omega (arith, e) in
      let P : ℕ → Type 0 = λ m. later_thread (g m) (n m) (F s) ≡ G (later_thread (g m) (n m) s) in
      ap (λ first. first ∷ later_threads g n (k + 1) ts) (subst P f (h s))
  set-of F G k (suc i) j (s ∷ ts) e h = ap (λ others. later_thread (g k) (n k) s ∷ others) (set-of F G (k + 1) i j ts (omega (arith, e)) h)

  pub thread-set : (F G : Thread → Thread) (i : ℕ) (ts : List Thread) → ((s : Thread) → later_thread (g i) (n i) (F s) ≡ G (later_thread (g i) (n i) s)) →
      later_threads g n 0 (set ts i (F (get_or ts i no_state))) ≡ set (later_threads g n 0 ts) i (G (get_or (later_threads g n 0 ts) i no_state))
  thread-set F G i ts h = set-of F G 0 i i ts (omega arith) h

-- rounds
top : (r n m : ℕ) → min (min (r + 1) m + suc n) m ≡ min (min (r + suc n) m + 1) m
top r n m = omega arith

pub round-ends : (n r : ℕ) → more_rounds n (min (r + 1) (2 ^ 64 - 1)) ≡ min (more_rounds n r + 1) (2 ^ 64 - 1)
round-ends zero r = refl
round-ends (suc n) r = top r n (2 ^ 64 - 1)

-- a thread with no last round, or that has begun no more rounds, moves as it would
pub moves-same : (script : List Item) (rounds n : ℕ) (place : Place) → (n ≡ 0) ⊎ (rounds ≡ 0) → move_after script rounds (later_place n place) ≡ move_after script rounds place
moves-same script rounds n place (inl e) = rw e refl
moves-same script rounds n place (inr e) = rw e (by (next_of script place))
  where
    by : (o : Option ℕ) → move_by o 0 (later_place n place) ≡ move_by o 0 place
    by (Some next) = refl
    by None = refl
