-- A word that is set stays so until a thread takes it, whose round of that activation goes on until
-- it ends.
use Rattle.std.proofs.Common.{◌≡◌, ℕ, suc, ◌-◌, ◌<◌, ◌≤◌, ◌⊎◌, inl, inr, Bool, true, false, cond, not, ◌&&◌, ◌==◌, nat_lt, nat_le, List, [], ◌∷◌, length, slice_get, Option, Some, None, refl, sym, ap, subst, ◌∙◌, arith}
use Rattle.std.specs.Prelude.{bit_or}
use Rattle.std.specs.List.{AllByRecursion}
use Rattle.std.proofs.lemmas.Bool.Decides.{nat_tests}
use Rattle.mcs_ticks.specs.declared.row.Row.{Row}
use Rattle.mcs_ticks.specs.declared.row.What.{What}
use Rattle.mcs_ticks.specs.declared.row.What.TheVariants as row
use Rattle.mcs_script.specs.declared.item.Item.TheVariants.{Enter}
use Rattle.mcs_system.specs.declared.part.ThreadPart.{ThreadPart}
use Rattle.mcs_system.specs.System.{System, thread_part}
use Rattle.mcs_verdict.specs.declared.finding.Finding.TheVariants.{Untaken}
use Rattle.mcs_verdict.specs.declared.held.Held.{Held}
use Rattle.mcs_verdict.specs.Activation.{first_active}
use Rattle.mcs_verdict.specs.Calls.{first_wait, calls, bits_of}
use Rattle.mcs_verdict.specs.Due.{calls_each, untaken_by, untaken}
use Rattle.mcs_verdict.specs.Findings.{past_of}
use Rattle.mcs_verdict.specs.Misses.{is_reached}
use Rattle.mcs_verdict.specs.Rounds.{begun_by_word, begun_of, called_by, called_of, activated_by, activated_in, activated_of}
use Rattle.mcs_verdict.specs.Takers.{waits_for, due_of}
use Rattle.mcs_verdict.specs.Words.{no_word, held_with, gave, taken, held_after, held_of, firsts_of}
use Rattle.mcs_verdict_laws.specs.laws.Fate.{untaken_from}
use Rattle.mcs_verdict_laws.proofs.Entering.{self, equal}
use Rattle.mcs_verdict_laws.proofs.Steps.{TakesAt}
use Rattle.mcs_verdict_laws.proofs.Words.{IsRight}
use Rattle.mcs_verdict_laws.proofs.WordsTold.{AreRight}
use Rattle.mcs_verdict_laws.proofs.Fits.{held_in, AreFit, IsPlaced, ArePlaced}
use Rattle.mcs_verdict_laws.proofs.Due.{none-some, both-are, set-is, length-firsts, heard-there, due-there, known-held, MayTake, alone-first, taker, one-taker, calls-one, calls-each-or}
use Rattle.mcs_verdict_laws.proofs.Handlers.{or-some}
use Rattle.mcs_verdict_laws.proofs.Overdue.{stamp, IsOpen, EndsIn, open-rows}

-- a thread that waits first takes a word that leaves it something to do: its round is under way,
-- and was activated when the word was set
begins-round : (note word moment : ℕ) (waits bits begun : Option ℕ) → waits ≡ Some note → calls bits word ≡ true → begun ≡ None
    → begun_by_word waits bits note word moment begun ≡ Some moment
begins-round note word moment waits bits begun e c f =
    ap (begun_by_word waits bits note word moment) f
    ∙ ap (λ b. cond b (Some moment) None) (both-are (waits_for note waits) (calls bits word) (ap (waits_for note) e ∙ self note) c)

calls-round : (note word since : ℕ) (waits bits begun before : Option ℕ) → waits ≡ Some note → calls bits word ≡ true → begun ≡ None
    → called_by waits bits note word since begun before ≡ Some since
calls-round note word since waits bits begun before e c f =
    ap (λ begun. called_by waits bits note word since begun before) f
    ∙ ap (λ b. cond b (Some since) before) (both-are (waits_for note waits) (calls bits word) (ap (waits_for note) e ∙ self note) c)

taken-open : (system : System) (y note word m core h s : ℕ) (past : List Row) → note < length system.notes → first_wait (thread_part system y) ≡ Some note
    → calls (bits_of (thread_part system y)) word ≡ true → begun_of system y past ≡ None → (held_in system note past).since ≡ s
    → activated_of system y (stamp m core (row.Got y note word) ∷ past) h ≡ Some s
taken-open system y note word m core h s past known first c none since =
    let waits = first_wait (thread_part system y) in
    let bits = bits_of (thread_part system y) in
    let r = stamp m core (row.Got y note word) in
    let began : begun_of system y (r ∷ past) ≡ Some m =
    ap (λ b. cond b (begun_by_word waits bits note word m (begun_of system y past)) (begun_of system y past)) (self y)
    ∙ begins-round note word m waits bits (begun_of system y past) first c none
    in
    let called : called_of system y (r ∷ past) ≡ Some s =
    ap
    (λ b. cond b (called_by waits bits note word (held_of (firsts_of system) note past).since (begun_of system y past) (called_of system y past))
    (called_of system y past)) (self y)
    ∙ calls-round note word (held_of (firsts_of system) note past).since waits bits (begun_of system y past) (called_of system y past) first c none
    ∙ ap (λ (held : Held). Some held.since) (known-held system note past known) ∙ ap Some since
    in
    ap (activated_in system y (r ∷ past) h) began
    ∙ ap (λ waits. activated_by waits (called_of system y (r ∷ past)) (first_active y (r ∷ past) m h)) first
    ∙ called

-- the word of the notification, which has a deadline, was set at s, a deadline before the horizon h
module _ (system : System) (note due h s : ℕ) (known : note < length system.notes) (own : due_of note system.threads ≡ Some due)
    (late : nat_le due (h - s) ≡ true) where
  pub record IsSet (past : List Row) : Type 0 where
    pub word : ((held_in system note past).word == 0) ≡ false
    pub each : calls_each note (held_in system note past).word system.threads ≡ true
    pub since : (held_in system note past).since ≡ s

  -- it was taken by a thread that waits first for it
  pub record IsTaken (past rows : List Row) : Type 0 where
    pub thread : ℕ
    pub may : MayTake note due (thread_part system thread)
    pub goes : IsOpen system thread h s (past_of past rows) ⊎ EndsIn system thread h s past rows

  -- whoever takes it then misses its deadline
  pub late-one : (part : ThreadPart) → MayTake note due part → is_reached part.deadline (h - s) ≡ true
  late-one part may =
      both-are (not (part.deadline == 0)) (nat_le part.deadline (h - s)) (ap not may.some)
      (let l = may.within in more part.deadline due (h - s) l late)
    where
      more : (d e p : ℕ) → d ≤ e → nat_le e p ≡ true → nat_le d p ≡ true
      more d e p l f = grind (arith, nat_tests)

  -- a row that takes it
  abbrev Takes : List Row → Row → Type 0
  Takes past r = (y : ℕ) × MayTake note due (thread_part system y) × IsOpen system y h s (r ∷ past)

  got-row : (y m core word : ℕ) (past : List Row) → word ≡ (held_in system note past).word → TakesAt (thread_part system y).script note (begun_of system y past)
      → ((priority : ℕ) (place : ℕ) → slice_get (thread_part system y).script place ≡ Some (Enter note priority) → ⊥) → IsSet past
      → Takes past (stamp m core (row.Got y note word))
  got-row y m core word past same (inr enter) none is = absurd (none enter.1 enter.0 enter.2)
  got-row y m core word past same (inl wait) none is =
      let part = thread_part system y in
      let may = taker system note due y wait.0 own wait.1 in (
        y,
        may,
        taken-open system y note word m core h s past known may.waits
            (ap (calls (bits_of part)) same ∙ calls-one note (held_in system note past).word y system.threads is.each may.waits)
            (wait.2 (alone-first part.script wait.0 note may.alone wait.1)) is.since,
      )

  held-row : (m badge word : ℕ) (past : List Row) → word ≡ bit_or (held_in system note past).word badge → IsSet past
      → ((word == 0) ≡ false) × (calls_each note word system.threads ≡ true) × ((held_with m word (held_in system note past)).since ≡ s)
  held-row m badge word past more is =
      let before = held_in system note past in
      let one = one-taker system note due own in (
        ap (λ w. w == 0) more ∙ or-some before.word badge is.word,
        ap (λ w. calls_each note w system.threads) more ∙ calls-each-or note before.word badge system.threads is.each,
        ap (λ b. cond b before.since m)
            (heard-there system one.0 note before.word past one.1.waits known
            (set-is (bits_of (thread_part system one.0)) before.word is.word (calls-one note before.word one.0 system.threads is.each one.1.waits)))
            ∙ is.since,
      )

  same-set : (m core : ℕ) (what : What) (past : List Row) → held_after note m what (held_in system note past) ≡ held_in system note past → IsSet past
      → IsSet (stamp m core what ∷ past)
  same-set m core what past e is =
      record {
        word = ap (λ (held : Held). held.word == 0) e ∙ is.word;
        each = ap (λ (held : Held). calls_each note held.word system.threads) e ∙ is.each;
        since = ap (λ (held : Held). held.since) e ∙ is.since;
      }

  -- no thread enters the notification as a server
  abbrev NoServer : Type 0
  NoServer = (y priority place : ℕ) → slice_get (thread_part system y).script place ≡ Some (Enter note priority) → ⊥

  set-row : (m core : ℕ) (what : What) (past : List Row) → NoServer → IsRight note (held_in system note past).word what
      → ((y : ℕ) → IsPlaced system y past what) → IsSet past → IsSet (stamp m core what ∷ past) ⊎ Takes past (stamp m core what)
  set-row m core (row.Hold n word) past free right placed is = by (n == note) refl
    where
      by : (b : Bool) → (n == note) ≡ b → IsSet (stamp m core (row.Hold n word) ∷ past) ⊎ Takes past (stamp m core (row.Hold n word))
      by false e =
          inl
          (same-set m core (row.Hold n word) past
          (ap (λ b. cond b (held_with m word (held_in system note past)) (held_in system note past)) e) is)
      by true e =
          let badge = right e in
          let more = held-row m badge.0 word past badge.1 is in
          let after : held_in system note (stamp m core (row.Hold n word) ∷ past) ≡ held_with m word (held_in system note past) =
          ap (λ b. cond b (held_with m word (held_in system note past)) (held_in system note past)) e
          in
          inl record {
            word = ap (λ (held : Held). held.word == 0) after ∙ more.0;
            each = ap (λ (held : Held). calls_each note held.word system.threads) after ∙ more.1;
            since = ap (λ (held : Held). held.since) after ∙ more.2;
          }
  set-row m core (row.Got y n word) past free right placed is = by (n == note) refl
    where
      by : (b : Bool) → (n == note) ≡ b → IsSet (stamp m core (row.Got y n word) ∷ past) ⊎ Takes past (stamp m core (row.Got y n word))
      by false e =
          inl
          (same-set m core (row.Got y n word) past
          (ap (λ b. cond b (taken word (held_in system note past)) (held_in system note past)) e) is)
      by true e =
          let same = equal n note e in
          let P : ℕ → Type 0 = λ n. Takes past (stamp m core (row.Got y n word)) in
          let Q : ℕ → Type 0 = λ n. TakesAt (thread_part system y).script n (begun_of system y past) in
          inr
          (subst P (sym same)
          (got-row y m core word past (right e) (subst Q same (placed y (self y))) (λ priority place. free y priority place) is))
  set-row m core (row.Wake y n word until) past free right placed is =
      inl record {
        word = ap (λ w. w == 0) (kept-word (n == note)) ∙ is.word;
        each = ap (λ w. calls_each note w system.threads) (kept-word (n == note)) ∙ is.each;
        since = kept-since (n == note) ∙ is.since;
      }
    where
      kept-word : (b : Bool) → (cond b (gave word (held_in system note past)) (held_in system note past)).word ≡ (held_in system note past).word
      kept-word true = refl
      kept-word false = refl

      kept-since : (b : Bool) → (cond b (gave word (held_in system note past)) (held_in system note past)).since ≡ (held_in system note past).since
      kept-since true = refl
      kept-since false = refl
  set-row m core (row.Release y) past free right placed is = inl (same-set m core (row.Release y) past refl is)
  set-row m core (row.Run y) past free right placed is = inl (same-set m core (row.Run y) past refl is)
  set-row m core (row.Stop y cause charged until) past free right placed is = inl (same-set m core (row.Stop y cause charged until) past refl is)
  set-row m core (row.Signal y n badge) past free right placed is = inl (same-set m core (row.Signal y n badge) past refl is)
  set-row m core (row.Arrive n badge maker) past free right placed is = inl (same-set m core (row.Arrive n badge maker) past refl is)
  set-row m core (row.Round y number response) past free right placed is = inl (same-set m core (row.Round y number response) past refl is)
  set-row m core (row.Order context) past free right placed is = inl (same-set m core (row.Order context) past refl is)
  set-row m core (row.Interrupt source at_note badge) past free right placed is = inl (same-set m core (row.Interrupt source at_note badge) past refl is)

  -- and after all rows
  pub set-rows : NoServer → (past rows : List Row) → AllByRecursion (λ (r : Row). suc h ≤ r.moment) rows
      → ((y : ℕ) → AreFit system y past rows) → ((y : ℕ) → ArePlaced system y past rows) → AreRight system note past rows
      → IsSet past → IsSet (past_of past rows) ⊎ IsTaken past rows
  set-rows free past [] after fits placed right is = inl is
  set-rows free past (r ∷ rows) after fits placed right is =
      by (set-row r.moment r.core r.what past free right.0 (λ y. (placed y).0) is)
      (λ is. set-rows free (r ∷ past) rows after.1 (λ y. (fits y).1) (λ y. (placed y).1) right.1 is)
    where
      further : IsSet (past_of (r ∷ past) rows) ⊎ IsTaken (r ∷ past) rows → IsSet (past_of (r ∷ past) rows) ⊎ IsTaken past (r ∷ rows)
      further (inl is) = inl is
      further (inr taken) = inr record { thread = taken.thread; may = taken.may; goes = goes taken.goes }
        where
          goes : IsOpen system taken.thread h s (past_of (r ∷ past) rows) ⊎ EndsIn system taken.thread h s (r ∷ past) rows
              → IsOpen system taken.thread h s (past_of (r ∷ past) rows) ⊎ EndsIn system taken.thread h s past (r ∷ rows)
          goes (inl e) = inl e
          goes (inr ends) = inr (inr ends)

      from : (y : ℕ) → IsOpen system y h s (past_of (r ∷ past) rows) ⊎ EndsIn system y h s (r ∷ past) rows
          → IsOpen system y h s (past_of (r ∷ past) rows) ⊎ EndsIn system y h s past (r ∷ rows)
      from y (inl e) = inl e
      from y (inr ends) = inr (inr ends)

      by : IsSet (r ∷ past) ⊎ Takes past r
          → (IsSet (r ∷ past) → IsSet (past_of (r ∷ past) rows) ⊎ IsTaken (r ∷ past) rows)
          → IsSet (past_of (r ∷ past) rows) ⊎ IsTaken past (r ∷ rows)
      by (inl is) rest = further (rest is)
      by (inr taken) rest =
          inr record {
            thread = taken.0;
            may = taken.1;
            goes = from taken.0 (open-rows system taken.0 h s (r ∷ past) rows after.1 (fits taken.0).1 (placed taken.0).1 taken.2);
          }

-- what an untaken line says
pub record IsUntakenBy (system : System) (note h s : ℕ) (past : List Row) : Type 0 where
  pub due : ℕ
  pub known : note < length system.notes
  pub own : due_of note system.threads ≡ Some due
  pub late : nat_le due (h - s) ≡ true
  pub is : IsSet system note due h s known own late past

untaken-by : (h note s : ℕ) (held : Held) (due : Option ℕ) (called : Bool) → untaken_from (untaken_by h note held due called) ≡ Some s
    → (d : ℕ) × (due ≡ Some d) × ((held.word == 0) ≡ false) × (called ≡ true) × (nat_le d (h - s) ≡ true) × (held.since ≡ s)
untaken-by h note s held None called e = absurd (none-some s e)
untaken-by h note s held (Some d) called e = by (held.word == 0) called (nat_le d (h - held.since)) refl refl refl e
  where
    by : (a b c : Bool) → (held.word == 0) ≡ a → called ≡ b → nat_le d (h - held.since) ≡ c
        → untaken_from (cond ((not a && b) && c) (Some (Untaken note held.word (h - held.since) d held.since)) None) ≡ Some s
        → (e : ℕ) × (Some d ≡ Some e) × ((held.word == 0) ≡ false) × (called ≡ true) × (nat_le e (h - s) ≡ true) × (held.since ≡ s)
    by false true true f g i e =
        let same : held.since ≡ s = let k : Some held.since ≡ Some s = e in cc in
        (d, refl, f, g, ap (λ n. nat_le d (h - n)) (sym same) ∙ i, same)
    by true b c f g i e = absurd (none-some s e)
    by false false c f g i e = absurd (none-some s e)
    by false true false f g i e = absurd (none-some s e)

pub untaken-is : (system : System) (note h s : ℕ) (past : List Row) → untaken_from (untaken system past h note) ≡ Some s → IsUntakenBy system note h s past
untaken-is system note h s past e = by (nat_lt note (length (firsts_of system))) refl
  where
    inside : (p q : ℕ) → nat_lt p q ≡ true → p < q
    inside p q e = grind (arith, nat_tests)

    by : (b : Bool) → nat_lt note (length (firsts_of system)) ≡ b → IsUntakenBy system note h s past
    by true f =
        let l = length-firsts 0 system.threads system.notes in
        let m = inside note (length (firsts_of system)) f in
        let known : note < length system.notes = omega (arith, l, m) in
        let held = held_in system note past in
        let P : Held → Type 0 = λ held. untaken_from (untaken_by h note held held.due (calls_each note held.word system.threads)) ≡ Some s in
        let all = untaken-by h note s held held.due (calls_each note held.word system.threads) (subst P (known-held system note past known) e) in
        record {
          due = all.0;
          known = known;
          own = sym (due-there system note past known) ∙ all.1;
          late = all.4;
          is = record { word = all.2; each = all.3; since = all.5 };
        }
    by false f =
        let none : held_of (firsts_of system) note past ≡ no_word = ap (λ b. cond b (held_in system note past) no_word) f in
        let P : Held → Type 0 = λ held. untaken_from (untaken_by h note held held.due (calls_each note held.word system.threads)) ≡ Some s in
        absurd (none-some s (subst P none e))

pub is-untaken : (system : System) (note due h s k : ℕ) (known : note < length system.notes) (own : due_of note system.threads ≡ Some due)
    (late : nat_le due (h - s) ≡ true) (past : List Row) → h ≤ k → IsSet system note due h s known own late past
    → untaken_from (untaken system past k note) ≡ Some s
is-untaken system note due h s k known own late past l is =
    let held = held_in system note past in
    let since = is.since in
    ap (λ (held : Held). untaken_from (untaken_by k note held held.due (calls_each note held.word system.threads))) (known-held system note past known)
    ∙ ap (λ due. untaken_from (untaken_by k note held due (calls_each note held.word system.threads))) (due-there system note past known ∙ own)
    ∙ ap (λ b. untaken_from (cond b (Some (Untaken note held.word (k - held.since) due held.since)) None))
    (both-are (not (held.word == 0) && calls_each note held.word system.threads) (nat_le due (k - held.since))
    (both-are (not (held.word == 0)) (calls_each note held.word system.threads) (ap not is.word) is.each)
    (more due (h - s) (k - held.since) late (omega (arith, since, l))))
    ∙ ap Some is.since
  where
    more : (d p q : ℕ) → nat_le d p ≡ true → p ≤ q → nat_le d q ≡ true
    more d p q e l = grind (arith, nat_tests)
