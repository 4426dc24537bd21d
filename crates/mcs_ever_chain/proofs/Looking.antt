-- What the search keeps of a chain, from one moment to the next.
use Rattle.std.proofs.Common.{◌≡◌, ℕ, ◌+◌, ◌-◌, ◌<◌, ◌≤◌, inl, inr, Bool, true, false, not, List, Option, Some, None, refl, sym, ap, subst, ◌∙◌, arith}
use Rattle.std.specs.Prelude.{◌==◌, ◌&&◌, if◌then◌else◌, nat_le, IfSome, slice_get}
use Rattle.std.proofs.lemmas.Bool.{cases_lt}
use Rattle.std.proofs.lemmas.Bool.Decides.{nat_tests}
use Rattle.mcs_ticks.specs.declared.row.Row.{Row}
use Rattle.mcs_system.specs.declared.part.ChainPart.{ChainPart}
use Rattle.mcs_system.specs.System.{System}
use Rattle.mcs_system.specs.WellFormed.{IsWellFormed}
use Rattle.mcs_core.specs.Clock.{turn_of}
use Rattle.mcs_chain.specs.declared.finding.Finding.TheVariants.{Unanswered}
use Rattle.mcs_chain.specs.Answers.{earliest, origins, unanswered_for, unanswered_of}
use Rattle.mcs_chain.specs.State.{State, state_of}
use Rattle.mcs_ever.specs.Closed.{has}
use Rattle.mcs_ever_found.specs.Recurs.{past_before}
use Rattle.mcs_ever_search.specs.Together.{rows_at, rows_before}
use Rattle.mcs_ever_chain.specs.declared.often.Counts.{Counts}
use Rattle.mcs_ever_chain.specs.declared.home.Home.{Home}
use Rattle.mcs_ever_chain.specs.declared.look.Kept.{Kept}
use Rattle.mcs_ever_chain.specs.declared.look.Look.{Look}
use Rattle.mcs_ever_chain.specs.Recurs.{StandAlone}
use Rattle.mcs_ever_chain.specs.stored.Alone.{AreAlone}
use Rattle.mcs_ever_chain.specs.stored.Looks.{IsInTime, IsKept, IsKeptSince, IsLook, IsNow, IsPair, TurnsStandAlone}
use Rattle.mcs_ever_chain.specs.stored.Runs.{counts_of, left_at}
use Rattle.mcs_ever_chain.proofs.Idle.{past-still, alone-still}
use Rattle.mcs_ever_chain.proofs.Apart.{turns-alone}

pub some-maps : {X : Type 0} (P Q : X → Type 0) → ((x : X) → P x → Q x) → (o : Option X) → IfSome o P → IfSome o Q
some-maps P Q f (Some x) h = f x h
some-maps P Q f None h = tt

-- a deadline that has not passed at a horizon has not at an earlier one
not-then : {X : Type 0} (b : Bool) (x : X) → (if b then Some x else None) ≡ None → b ≡ false
not-then true x e = absurd (cc)
not-then false x e = refl

else-none : {X : Type 0} (b : Bool) (x : X) → b ≡ false → (if b then Some x else None) ≡ None
else-none true x e = absurd (cc)
else-none false x e = refl

le-less : (due a b : ℕ) → a ≤ b → nat_le due b ≡ false → nat_le due a ≡ false
le-less due a b l e = grind (arith, nat_tests)

and-less : (c p q : Bool) → (q ≡ false → p ≡ false) → (c && q) ≡ false → (c && p) ≡ false
and-less true p q f e = f e
and-less false p q f e = refl

unanswered-for-less : (deadline a b : ℕ) (first : Option ℕ) → a ≤ b → unanswered_for deadline b first ≡ None → unanswered_for deadline a first ≡ None
unanswered-for-less deadline a b None l e = refl
unanswered-for-less deadline a b (Some origin) l e =
    else-none (not (deadline == 0) && nat_le (origin + deadline) a) (Unanswered deadline origin)
    (and-less (not (deadline == 0)) (nat_le (origin + deadline) a) (nat_le (origin + deadline) b) (le-less (origin + deadline) a b l)
    (not-then (not (deadline == 0) && nat_le (origin + deadline) b) (Unanswered deadline origin) e))

unanswered-less : (system : System) (chain : ChainPart) (t a b : ℕ) → a ≤ b → left_at system chain t b ≡ None → left_at system chain t a ≡ None
unanswered-less system chain t a b l e =
    unanswered-for-less chain.deadline a b (earliest (origins system chain (past_before system t)).unanswered) l e

module _ (system : System) where
  -- the turns of a moment are taken
  pub look-seen : (t : ℕ) (l : Look) (stands : Bool) → IsLook system t t l → (stands ≡ true → (l.alone ≡ true) × AreAlone (has l.home.set) None (rows_at system t)) →
      IsLook system (t + 1) t (record l { alone = stands })
  look-seen t l stands h alone =
      record {
        chain = h.chain;
        is = h.is;
        home = h.home;
        late = h.late;
        kept =
            some-maps (IsKeptSince system h.chain l.home l.alone t) (IsKeptSince system h.chain l.home stands (t + 1))
            (λ kept k.
            record {
              is = k.is;
              in_order = (let o = k.in_order in omega (arith, o));
              turns = λ yes. one-more kept.at (k.turns (alone yes).0) (alone yes).1;
            })
            l.kept h.kept;
      }
    where
      one-more : (from : ℕ) → TurnsStandAlone system l.home.set from t → AreAlone (has l.home.set) None (rows_at system t) → TurnsStandAlone system l.home.set from (t + 1)
      one-more from so_far here s c late early known own = elim (cases_lt s t) [
        | inl before ↦ so_far s c late before known own
        | inr now ↦
            let same : t ≡ s = omega (arith, now, early) in
            let P : ℕ → Type 0 = λ (u : ℕ). StandAlone (has l.home.set) (turn_of system c u).rows in
            subst P same (turns-alone system (has l.home.set) t here c known own)
      ]

module _ (system : System) (well : IsWellFormed system) where
  -- no row comes up to a later moment
  module _ (from t : ℕ) (later : from ≤ t) (still : rows_before system t ≡ rows_before system from) where
    in-time : (chain : ChainPart) (late : Bool) → IsInTime system chain late (from - 1) → (late ≡ false) → left_at system chain t (t - 1) ≡ None →
        (h : ℕ) → h < t → left_at system chain (h + 1) h ≡ None
    in-time chain late so_far early none h before = elim (cases_lt h (from - 1)) [
      | inl old ↦ so_far early h old
      | inr new ↦
          let at : past_before system (h + 1) ≡ past_before system t =
          past-still system well from (h + 1) t (omega (arith, new)) (omega (arith, before)) still
          ∙ sym (past-still system well from t t later (omega arith) still) in
          let P : List Row → Type 0 = λ (past : List Row). unanswered_of chain.deadline h (origins system chain past).unanswered ≡ None in
          subst P (sym at) (unanswered-less system chain t h (t - 1) (omega (arith, before)) none)
    ]

    pub look-moved : (l : Look) (late : Bool) → IsLook system from (from - 1) l →
        ((chain : ChainPart) → slice_get system.chains l.chain ≡ Some chain → late ≡ false → (l.late ≡ false) × (left_at system chain t (t - 1) ≡ None)) →
        IsLook system t t (record l { late = late })
    look-moved l late h none =
        record {
          chain = h.chain;
          is = h.is;
          home = h.home;
          late = λ early. in-time h.chain l.late h.late (none h.chain h.is early).0 (none h.chain h.is early).1;
          kept =
              some-maps (IsKeptSince system h.chain l.home l.alone from) (IsKeptSince system h.chain l.home l.alone t)
              (λ kept k.
              record {
                is = k.is;
                in_order = (let o = k.in_order in omega (arith, o, later));
                turns = λ alone. alone-still system well l.home.set kept.at from t still (k.turns alone);
              })
              l.kept h.kept;
        }

  -- the chain at a moment since which no row came
  module _ (at t : ℕ) (past : at ≤ t) (still : rows_before system t ≡ rows_before system at) where
    same : past_before system t ≡ past_before system at
    same = past-still system well at t t past (omega arith) still

    pub is-kept : (chain : ChainPart) (home : Home) (state : State) (counts : Counts) → home.floor ≤ at → state ≡ state_of system chain (past_before system t) →
        counts ≡ counts_of system chain (past_before system t) → IsKept system chain home (record { at = at; state = state; counts = counts })
    is-kept chain home state counts floor e f =
        record {
          floor = floor;
          state = e ∙ ap (λ (rows : List Row). state_of system chain rows) same;
          counts = f ∙ ap (λ (rows : List Row). counts_of system chain rows) same;
        }

    pub look-kept : (l : Look) (next : ℕ) (now : Kept) (h : IsLook system t t l) → now.at ≡ at → IsKept system h.chain l.home now →
        IsLook system t t (record l { next = next; kept = Some now; alone = true })
    look-kept l next now h at-is is =
        record {
          chain = h.chain;
          is = h.is;
          home = h.home;
          late = h.late;
          kept = record { is = is; in_order = omega (arith, at-is, past); turns = λ yes. subst T (sym at-is) since };
        }
      where
        T : ℕ → Type 0
        T u = TurnsStandAlone system l.home.set u t

        since : TurnsStandAlone system l.home.set at t
        since = alone-still system well l.home.set at at t still (λ s c late early known own. absurd (omega (arith, late, early)))

-- the kept moment and this one
pub look-pair : (system : System) (l : Look) (now kept : Kept) → IsNow system l now → l.kept ≡ Some kept → l.alone ≡ true → IsPair system l kept now
look-pair system l now kept h is alone =
    let O : Option Kept → Type 0 = λ (o : Option Kept). IfSome o (IsKeptSince system h.look.chain l.home l.alone h.clock) in
    let k : IsKeptSince system h.look.chain l.home l.alone h.clock kept = subst O is h.look.kept in
    let past = h.past in
    record {
      chain = h.look.chain;
      is = h.look.is;
      home = h.look.home;
      late = λ early r before. h.look.late early r (omega (arith, before, past));
      is_before = k.is;
      is_now = h.is;
      turns = λ t c late early known own. k.turns alone t c late (omega (arith, early, past)) known own;
    }
