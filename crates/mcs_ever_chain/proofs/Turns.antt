-- Turns of a chain that recurs: each moment from then on leaves the group's steps as a period before
-- and its origins later, and answers as it did a period before.
use Rattle.std.proofs.Common.{◌≡◌, ◌∙◌, ℕ, zero, suc, ◌+◌, ◌-◌, ◌<◌, ◌≤◌, Bool, true, false, List, [], ◌∷◌, ◌++◌, length, map, refl, sym, ap, ap₂, subst, append_assoc, arith}
use Rattle.std.specs.Prelude.{flat_map, nat_lt}
use Rattle.std.specs.List.{range_with_len, AllByRecursion}
use Rattle.std.proofs.lemmas.Bool.Decides.{nat_tests}
use Rattle.std.proofs.lemmas.List.{length-map}
use Rattle.mcs_ticks.specs.declared.row.Row.{Row}
use Rattle.mcs_ticks.specs.declared.row.What.{What}
use Rattle.mcs_ticks.specs.declared.row.What.TheVariants as row
use Rattle.mcs_system.specs.declared.part.ChainPart.{ChainPart}
use Rattle.mcs_system.specs.System.{System, thread_part, note_part, source_part, core_of, delay_between}
use Rattle.mcs_system.specs.WellFormed.{IsWellFormed}
use Rattle.mcs_core.specs.Turn.{stamped}
use Rattle.mcs_core.specs.Clock.{turn_of, rows_of}
use Rattle.mcs_verdict.specs.Findings.{past_of}
use Rattle.mcs_verdict_laws.proofs.Standings.{past-append}
use Rattle.mcs_chain.specs.declared.step.Gone.{Gone}
use Rattle.mcs_chain.specs.Answers.{gone_after, origins}
use Rattle.mcs_chain.specs.Moves.{moves}
use Rattle.mcs_chain.specs.Steps.{gone_of}
use Rattle.mcs_ever.specs.Later.{Shift, later_what}
use Rattle.mcs_ever.specs.Recurs.{Shifts, shift_of}
use Rattle.mcs_ever.specs.laws.Home.{IsOfOwn}
use Rattle.mcs_ever.proofs.Home.{rows-of-own}
use Rattle.mcs_ever_found.specs.Recurs.{past_before}
use Rattle.mcs_ever_found.specs.laws.Repeats.{rows_at}
use Rattle.mcs_ever_found.proofs.Alike.{at}
use Rattle.mcs_ever_found.proofs.Moments.{past-next}
use Rattle.mcs_ever_chain.specs.Later.{AreLater, StepsAreSame, later_origins, later_set}
use Rattle.mcs_ever_chain.specs.Recurs.{ChainRecurs, StandAlone, is_from, takes_first, takes_posted}
use Rattle.mcs_ever_chain.proofs.Outside.{IsOfSource, AreSame, later-same, same-refl, same-then, steps-stay, origins-stay-same, answers-none, left-stays}
use Rattle.mcs_ever_chain.proofs.Rows.{AfterRow, carried-long, goes-same, gone-long, held-long, moved-later, unanswered-later}
use Rattle.mcs_ever_chain.proofs.Sources.{rows-of-source}

-- a row stands alone later, too
takes-later : (shift : Shift) (what : What) → takes_posted (later_what shift what) ≡ takes_posted what
takes-later shift (row.Hold note word) = refl
takes-later shift (row.Wake x note word until) = refl
takes-later shift (row.Got x note word) = refl
takes-later shift (row.Round x number response) = refl
takes-later shift (row.Stop x why charged until) = refl
takes-later shift (row.Release x) = refl
takes-later shift (row.Run x) = refl
takes-later shift (row.Signal x note badge) = refl
takes-later shift (row.Arrive note badge maker) = refl
takes-later shift (row.Order context) = refl
takes-later shift (row.Interrupt source note badge) = refl

from-later : (group : ℕ → Bool) (shift : Shift) (what : What) → is_from group (later_what shift what) ≡ is_from group what
from-later group shift (row.Arrive note badge maker) = refl
from-later group shift (row.Hold note word) = refl
from-later group shift (row.Wake x note word until) = refl
from-later group shift (row.Got x note word) = refl
from-later group shift (row.Round x number response) = refl
from-later group shift (row.Stop x why charged until) = refl
from-later group shift (row.Release x) = refl
from-later group shift (row.Run x) = refl
from-later group shift (row.Signal x note badge) = refl
from-later group shift (row.Order context) = refl
from-later group shift (row.Interrupt source note badge) = refl

makers-later : (group : ℕ → Bool) (shift : Shift) (rows : List What) → AllByRecursion (λ what. is_from group what ≡ true) rows
    → AllByRecursion (λ what. is_from group what ≡ true) (map (later_what shift) rows)
makers-later group shift [] h = tt
makers-later group shift (what ∷ rows) h = (from-later group shift what ∙ h.0, makers-later group shift rows h.1)

alone-later : (group : ℕ → Bool) (shift : Shift) (rows : List What) → StandAlone group rows → StandAlone group (map (later_what shift) rows)
alone-later group shift [] h = record { first = refl; makers = tt }
alone-later group shift (what ∷ rows) h =
    record { first = takes-later shift what ∙ h.first; makers = makers-later group shift (what ∷ rows) h.makers }

module _ (system : System) (chain : ChainPart) where
  -- the sets and the steps are as many as the system has notifications and threads
  held-all : (past : List Row) → length (origins system chain past).held ≡ length system.notes
  held-all [] = length-map system.notes (λ _. [])
  held-all (r ∷ past) = held-long chain r.moment (origins system chain past) (moves system (gone_after system past) r) ∙ held-all past

  carried-all : (past : List Row) → length (origins system chain past).carried ≡ length system.threads
  carried-all [] = length-map system.threads (λ _. [])
  carried-all (r ∷ past) = carried-long chain r.moment (origins system chain past) (moves system (gone_after system past) r) ∙ carried-all past

  gone-all : (past : List Row) → length (gone_after system past) ≡ length system.threads
  gone-all [] = length-map system.threads _
  gone-all (r ∷ past) = gone-long system r.what (gone_after system past) ∙ gone-all past

  -- numbers that are told of each row's answers, those of the latest row first
  module _ (value : ℕ → List ℕ → List ℕ) where
    abbrev pub of_row : List Row → Row → List ℕ
    of_row past r = value r.moment (origins system chain (r ∷ past)).answered

    -- of all rows
    abbrev pub total : List Row → List ℕ
    total [] = []
    total (r ∷ past) = of_row past r ++ total past

    -- of rows that come after others
    abbrev pub told : List Row → List Row → List ℕ
    told past [] = []
    told past (r ∷ rows) = told (r ∷ past) rows ++ of_row past r

    pub total-told : (past rows : List Row) → total (past_of past rows) ≡ told past rows ++ total past
    total-told past [] = refl
    total-told past (r ∷ rows) = total-told (r ∷ past) rows ∙ sym (append_assoc (told (r ∷ past) rows) (of_row past r) (total past))

    told-append : (past xs ys : List Row) → told past (xs ++ ys) ≡ told (past_of past xs) ys ++ told past xs
    told-append past [] ys = sym (append-none (told past ys))
      where
        append-none : (zs : List ℕ) → zs ++ [] ≡ zs
        append-none [] = refl
        append-none (z ∷ zs) = ap (λ rest. z ∷ rest) (append-none zs)
    told-append past (x ∷ xs) ys =
        ap (λ others. others ++ of_row past x) (told-append (x ∷ past) xs ys)
        ∙ append_assoc (told (past_of (x ∷ past) xs) ys) (told (x ∷ past) xs) (of_row past x)

module _ (system : System) (chain : ChainPart) (group : ℕ → Bool) (shifts : Shifts) (from : ℕ) (well : IsWellFormed system)
    (recurs : ChainRecurs system chain group shifts from) (counts : Bool)
    (source : counts ≡ true → group (note_part system (source_part system chain.source).note).core ≡ true) where
  abbrev d : ℕ
  d = shifts.by

  abbrev after : List Row → List Gone
  after past = gone_after system past

  abbrev whats : ℕ → ℕ → List What
  whats t c = (turn_of system c t).rows

  -- each turn of the group stands alone
  alone-below : (n t c : ℕ) → t < n → from ≤ t → c < system.cores → group c ≡ true → StandAlone group (whats t c)
  alone-below zero t c l more known own = absurd (omega (arith, l))
  alone-below (suc n) t c l more known own = by (alone-below n (t - d) c) (nat_lt t (from + d)) refl
    where
      some : 1 ≤ d
      some = recurs.some

      by : (t - d < n → from ≤ t - d → c < system.cores → group c ≡ true → StandAlone group (whats (t - d) c)) → (b : Bool) → nat_lt t (from + d) ≡ b
          → StandAlone group (whats t c)
      by i true e = recurs.alone t c more (grind (arith, nat_tests)) known own
      by i false e =
          let m : from + d ≤ t = grind (arith, nat_tests) in
          let f : t - d + d ≡ t = omega (arith, m) in
          let P : ℕ → Type 0 = λ s. StandAlone group (whats s c) in
          let Q : List What → Type 0 = λ rows. StandAlone group rows in
          subst P f
          (subst Q (sym (recurs.rows (t - d) c (omega (arith, m)) known own))
          (alone-later group (shift_of shifts c) (whats (t - d) c) (i (omega (arith, l, m, some)) (omega (arith, m)) known own)))

  alone : (t c : ℕ) → from ≤ t → c < system.cores → group c ≡ true → StandAlone group (whats t c)
  alone t c more known own = alone-below (suc t) t c (omega arith) more known own

  -- the interrupts without an answer are later, if they are looked at
  abbrev pub AreLeft : Bool → List ℕ → List ℕ → Type 0
  AreLeft true before after = after ≡ later_origins shifts.by before
  AreLeft false before after = Unit {0}

  -- rows after which the group is as after others, but later
  pub record Alike (past past' : List Row) : Type 0 where
    pub steps : StepsAreSame system group (gone_after system past) (gone_after system past')
    pub later : AreLater system group shifts.by (origins system chain past) (origins system chain past')
    pub left : AreLeft counts (origins system chain past).unanswered (origins system chain past').unanswered

  -- after more rows the group is as it was
  record Stays (past past' : List Row) : Type 0 where
    steps : (thread : ℕ) → group (core_of system (thread_part system thread)) ≡ true →
        gone_of (gone_after system past') thread ≡ gone_of (gone_after system past) thread
    sets : AreSame system group (origins system chain past) (origins system chain past')
    left : counts ≡ true → (origins system chain past').unanswered ≡ (origins system chain past).unanswered

  alike-stays : (a b a' b' : List Row) → Alike a b → Stays a a' → Stays b b' → Alike a' b'
  alike-stays a b a' b' h one two =
      record {
        steps = λ thread known own. two.steps thread own ∙ h.steps thread known own ∙ sym (one.steps thread own);
        later =
            later-same system group shifts.by (origins system chain a) (origins system chain b) (origins system chain a') (origins system chain b')
            one.sets two.sets h.later;
        left = by counts refl h.left;
      }
    where
      by : (look : Bool) → counts ≡ look → AreLeft look (origins system chain a).unanswered (origins system chain b).unanswered
          → AreLeft look (origins system chain a').unanswered (origins system chain b').unanswered
      by true e same = two.left e ∙ same ∙ ap (later_origins shifts.by) (sym (one.left e))
      by false e same = tt

  -- the rows of a core outside the group
  stays-turn : (c t : ℕ) (rows : List What) (past : List Row) → group c ≡ false → AllByRecursion (IsOfOwn system c) rows
      → AllByRecursion (IsOfSource system) rows → Stays past (past_of past (stamped c t rows))
  stays-turn c t [] past away own of =
      record { steps = λ thread h. refl; sets = same-refl system group (origins system chain past); left = λ e. refl }
  stays-turn c t (what ∷ rows) past away own of =
      let rest = stays-turn c t rows (at t c what ∷ past) away own.1 of.1 in
      let now : List Row = at t c what ∷ past in
      let end : List Row = past_of now (stamped c t rows) in
      record {
        steps = λ thread h. rest.steps thread h ∙ steps-stay system group c away what (after past) own.0 thread h;
        sets =
            same-then system group (origins system chain past) (origins system chain now) (origins system chain end)
            (origins-stay-same system group c away chain recurs.answerer t (after past) (origins system chain past) what own.0) rest.sets;
        left = λ e. rest.left e ∙ left-stays system group c away chain recurs.answerer t (after past) (origins system chain past) what own.0 of.0 (source e);
      }

  -- one row of the group
  record Goes (past past' : List Row) : Type 0 where
    alike : Alike past past'
    posted : (origins system chain past').posted ≡ later_set shifts.by (origins system chain past).posted
    answered : (origins system chain past').answered ≡ later_origins shifts.by (origins system chain past).answered

  goes-row : (c t : ℕ) (what : What) (past past' : List Row) → group c ≡ true → from ≤ t → IsOfOwn system c what → is_from group what ≡ true
      → (takes_posted what ≡ true → (origins system chain past').posted ≡ later_set shifts.by (origins system chain past).posted) → Alike past past'
      → Goes (at t c what ∷ past) (at (t + shifts.by) c (later_what (shift_of shifts c) what) ∷ past')
  goes-row c t what past past' own l home is_own takes h =
      record {
        alike = record { steps = steps; later = row.later; left = by counts h.left };
        posted = row.posted;
        answered = row.answered;
      }
    where
      shift : Shift
      shift = shift_of shifts c

      delays : (maker home : ℕ) → delay_between system maker home ≤ t
      delays maker home = let few = recurs.delays maker home in omega (arith, few, l)

      steps : StepsAreSame system group (gone_after system (at t c what ∷ past)) (gone_after system (at (t + d) c (later_what shift what) ∷ past'))
      steps = goes-same system group shift (after past) (after past') c what own home (gone-all system chain past) (gone-all system chain past') h.steps

      row : AfterRow system group d (origins system chain (at t c what ∷ past)) (origins system chain (at (t + d) c (later_what shift what) ∷ past'))
      row =
          moved-later system chain group shift (after past) (after past') (origins system chain past) (origins system chain past') c t what own home is_own delays
          (held-all system chain past) (held-all system chain past') (carried-all system chain past) (carried-all system chain past') h.steps h.later takes

      by : (look : Bool) → AreLeft look (origins system chain past).unanswered (origins system chain past').unanswered
          → AreLeft look (origins system chain (at t c what ∷ past)).unanswered (origins system chain (at (t + d) c (later_what shift what) ∷ past')).unanswered
      by true same =
          unanswered-later system chain group shift (after past) (after past') (origins system chain past) (origins system chain past') c t what own home is_own delays
          h.steps h.later same
      by false same = tt

  -- numbers that do not depend on the time
  module _ (value : ℕ → List ℕ → List ℕ)
      (steady : (m : ℕ) (answered : List ℕ) → value (m + shifts.by) (later_origins shifts.by answered) ≡ value m answered)
      (none : (m : ℕ) → value m [] ≡ []) where
    abbrev tells : List Row → List Row → List ℕ
    tells past rows = told system chain value past rows

    -- more rows, and those a period later
    pub record Go (past past' rows rows' : List Row) : Type 0 where
      pub alike : Alike (past_of past rows) (past_of past' rows')
      pub same : told system chain value past' rows' ≡ told system chain value past rows

    go-turn : (c t : ℕ) (rows : List What) (past past' : List Row) → group c ≡ true → from ≤ t → AllByRecursion (IsOfOwn system c) rows
        → AllByRecursion (λ what. is_from group what ≡ true) rows
        → (takes_first rows ≡ true → (origins system chain past').posted ≡ later_set shifts.by (origins system chain past).posted) → Alike past past'
        → Go past past' (stamped c t rows) (stamped c (t + shifts.by) (map (later_what (shift_of shifts c)) rows))
    go-turn c t [] past past' own l home makers takes h = record { alike = h; same = refl }
    go-turn c t (what ∷ rows) past past' own l home makers takes h =
        let now = goes-row c t what past past' own l home.0 makers.0 takes h in
        let rest =
        go-turn c t rows (at t c what ∷ past) (at (t + d) c (later_what (shift_of shifts c) what) ∷ past') own l home.1 makers.1 (λ e. now.posted) now.alike in
        let here : value (t + d) (origins system chain (at (t + d) c (later_what (shift_of shifts c) what) ∷ past')).answered
        ≡ value t (origins system chain (at t c what ∷ past)).answered =
        ap (value (t + d)) now.answered ∙ steady t (origins system chain (at t c what ∷ past)).answered in
        record { alike = rest.alike; same = ap₂ (λ xs ys. xs ++ ys) rest.same here }

    none-told : (c t : ℕ) (rows : List What) (past : List Row) → group c ≡ false → AllByRecursion (IsOfOwn system c) rows → tells past (stamped c t rows) ≡ []
    none-told c t [] past away own = refl
    none-told c t (what ∷ rows) past away own =
        ap₂ (λ xs ys. xs ++ ys) (none-told c t rows (at t c what ∷ past) away own.1)
        (ap (value t) (answers-none system group c away chain recurs.answerer t (after past) (origins system chain past) what own.0) ∙ none t)

    go-core : (c t : ℕ) (past past' : List Row) → from ≤ t → c < system.cores → Alike past past' → Go past past' (rows_of system c t) (rows_of system c (t + shifts.by))
    go-core c t past past' l known h = by (group c) refl
      where
        own : (m : ℕ) → AllByRecursion (IsOfOwn system c) (whats m c)
        own m = rows-of-own system well c m known

        by : (b : Bool) → group c ≡ b → Go past past' (rows_of system c t) (rows_of system c (t + d))
        by true here =
            let P : List What → Type 0 = λ rows. Go past past' (rows_of system c t) (stamped c (t + d) rows) in
            let alone_is = alone t c l known here in
            subst P (sym (recurs.rows t c l known here))
            (go-turn c t (whats t c) past past' here l (own t) alone_is.makers (λ e. absurd (never (sym alone_is.first ∙ e))) h)
          where
            never : false ≡ true → ⊥
            never e = cc
        by false away =
            record {
              alike =
                  alike-stays past past' (past_of past (rows_of system c t)) (past_of past' (rows_of system c (t + d))) h
                  (stays-turn c t (whats t c) past away (own t) (rows-of-source system c t))
                  (stays-turn c (t + d) (whats (t + d) c) past' away (own (t + d)) (rows-of-source system c (t + d)));
              same = none-told c (t + d) (whats (t + d) c) past' away (own (t + d)) ∙ sym (none-told c t (whats t c) past away (own t));
            }

    go-then : (past past' a a' b b' : List Row) → Go past past' a a' → Go (past_of past a) (past_of past' a') b b' → Go past past' (a ++ b) (a' ++ b')
    go-then past past' a a' b b' one two =
        record {
          alike = moved _ _ _ _ (sym (past-append past a b)) (sym (past-append past' a' b')) two.alike;
          same =
              told-append system chain value past' a' b' ∙ ap₂ (λ xs ys. xs ++ ys) two.same one.same ∙ sym (told-append system chain value past a b);
        }
      where
        moved : (p q p' q' : List Row) → p ≡ p' → q ≡ q' → Alike p q → Alike p' q'
        moved p q p' q' e f h = rw (sym e, sym f) h

    -- all turns of a moment, from core a on
    go-cores : (n a t : ℕ) (past past' : List Row) → from ≤ t → a + n ≤ system.cores → Alike past past'
        → Go past past' (flat_map (λ c. rows_of system c t) (range_with_len a n)) (flat_map (λ c. rows_of system c (t + shifts.by)) (range_with_len a n))
    go-cores zero a t past past' l few h = record { alike = h; same = refl }
    go-cores (suc n) a t past past' l few h =
        let now = go-core a t past past' l (omega (arith, few)) h in
        go-then past past' (rows_of system a t) (rows_of system a (t + d)) (flat_map (λ c. rows_of system c t) (range_with_len (a + 1) n))
        (flat_map (λ c. rows_of system c (t + d)) (range_with_len (a + 1) n)) now
        (go-cores n (a + 1) t (past_of past (rows_of system a t)) (past_of past' (rows_of system a (t + d))) l (omega (arith, few)) now.alike)

    -- and all moments from then on
    module _ (first : AreLeft counts (origins system chain (past_before system from)).unanswered (origins system chain (past_before system (from + shifts.by))).unanswered) where
      abbrev AlikeAt : ℕ → Type 0
      AlikeAt t = Alike (past_before system t) (past_before system (t + shifts.by))

      alike-next : (t : ℕ) → from ≤ t → AlikeAt t → AlikeAt (suc t)
      alike-next t l h =
          let now = go-cores system.cores 0 t (past_before system t) (past_before system (t + d)) l (omega arith) h in
          let e : suc (t + d) ≡ suc t + d = omega arith in
          let P : ℕ → Type 0 = λ n. Alike (past_before system (suc t)) (past_before system n) in
          subst P e (moved _ _ _ _ (sym (past-next system well t)) (sym (past-next system well (t + d))) now.alike)
        where
          moved : (p q p' q' : List Row) → p ≡ p' → q ≡ q' → Alike p q → Alike p' q'
          moved p q p' q' e f h = rw (sym e, sym f) h

      alike-from : (n : ℕ) → AlikeAt (from + n)
      alike-from zero =
          let e : from ≡ from + 0 = omega arith in
          let h : AlikeAt from = record { steps = recurs.steps; later = recurs.later; left = first } in
          subst AlikeAt e h
      alike-from (suc n) =
          let e : suc (from + n) ≡ from + suc n = omega arith in
          subst AlikeAt e (alike-next (from + n) (omega arith) (alike-from n))

      pub alike : (t : ℕ) → from ≤ t → AlikeAt t
      alike t l = let e : from + (t - from) ≡ t = omega (arith, l) in subst AlikeAt e (alike-from (t - from))

      -- the numbers of a moment are those of the moment a period before
      pub same-at : (t : ℕ) → from ≤ t
          → told system chain value (past_before system (t + shifts.by)) (rows_at system (t + shifts.by)) ≡ told system chain value (past_before system t) (rows_at system t)
      same-at t l =
          let now = go-cores system.cores 0 t (past_before system t) (past_before system (t + d)) l (omega arith) (alike t l) in
          now.same
