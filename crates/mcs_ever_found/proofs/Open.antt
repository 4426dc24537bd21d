-- A round that no row ends stays under way, with its activation and its number, and between rounds
-- a row begins one only by the word for which the script waits first.
use Rattle.std.proofs.Common.{◌≡◌, ℕ, zero, suc, ◌+◌, ◌-◌, ◌<◌, ◌≤◌, Bool, true, false, cond, ◌==◌, ◌&&◌, List, [], ◌∷◌, refl, sym, ap, subst, ◌∙◌, Option, Some, None, arith}
use Rattle.std.proofs.lemmas.Bool.Decides.{nat_tests}
use Rattle.mcs_ticks.specs.declared.row.Row.{Row}
use Rattle.mcs_ticks.specs.declared.row.What.{What}
use Rattle.mcs_ticks.specs.declared.row.What.TheVariants as row
use Rattle.mcs_ticks.specs.declared.row.Why.{Why}
use Rattle.mcs_ticks.specs.declared.row.Why.TheVariants as why
use Rattle.mcs_system.specs.System.{System, thread_part}
use Rattle.mcs_verdict.specs.declared.held.Held.{Held}
use Rattle.mcs_verdict.specs.Account.{is_about}
use Rattle.mcs_verdict.specs.Activation.{first_for, first_active}
use Rattle.mcs_verdict.specs.Calls.{first_wait, bits_of, calls}
use Rattle.mcs_verdict.specs.Findings.{UpTo}
use Rattle.mcs_verdict.specs.Rounds.{begins_round, begun_at, begun_by_word, begun_after, begun, begun_of, called_by, called_after, called_of, activated_by, activated, rounds_after, rounds_of}
use Rattle.mcs_verdict.specs.Standing.{tells, telling}
use Rattle.mcs_verdict.specs.Words.{firsts_of}
use Rattle.mcs_verdict.proofs.Orders.{up_to-later}
use Rattle.mcs_verdict_laws.proofs.Steps.{contrary, ends_round as ends_there}
use Rattle.mcs_verdict_laws.proofs.Fits.{JustEnded, Fits}
use Rattle.mcs_verdict_laws.proofs.Overdue.{first-before}
use Rattle.mcs_ever.specs.Later.{Shift, later_what}
use Rattle.mcs_ever.specs.laws.Repeats.{ends_round}
use Rattle.mcs_ever_found.proofs.Alike.{at}

pub some-same : (a b : ℕ) → Some a ≡ Some b → a ≡ b
some-same a b e = cc

pub none-some : (a : ℕ) → None ≡ Some a → ⊥
none-some a e = cc

pub ends-there : (x : ℕ) (what : What) → ends_there x what ≡ ends_round x what
ends-there x (row.Round y number response) = refl
ends-there x (row.Stop y cause charged until) = refl
ends-there x (row.Got y note word) = refl
ends-there x (row.Wake y note word until) = refl
ends-there x (row.Release y) = refl
ends-there x (row.Run y) = refl
ends-there x (row.Signal y note badge) = refl
ends-there x (row.Arrive note badge maker) = refl
ends-there x (row.Hold note word) = refl
ends-there x (row.Order context) = refl
ends-there x (row.Interrupt source at_note badge) = refl

-- whether the thread is done at this row
abbrev is_done : ℕ → What → Bool
is_done x (row.Stop y why.Done charged until) = y == x
is_done x _ = false

done-ended : (system : System) (x m : ℕ) (what : What) (past : List Row) → Fits system x past m what → is_done x what ≡ true → JustEnded x m past
done-ended system x m (row.Stop y why.Done charged until) past fits e = fits e
done-ended system x m (row.Stop y why.Spent charged until) past fits e = absurd (contrary false refl e)
done-ended system x m (row.Stop y why.Yield charged until) past fits e = absurd (contrary false refl e)
done-ended system x m (row.Stop y why.Wait charged until) past fits e = absurd (contrary false refl e)
done-ended system x m (row.Stop y why.Call charged until) past fits e = absurd (contrary false refl e)
done-ended system x m (row.Stop y why.Preempt charged until) past fits e = absurd (contrary false refl e)
done-ended system x m (row.Stop y why.Order charged until) past fits e = absurd (contrary false refl e)
done-ended system x m (row.Round y number response) past fits e = absurd (contrary false refl e)
done-ended system x m (row.Got y note word) past fits e = absurd (contrary false refl e)
done-ended system x m (row.Wake y note word until) past fits e = absurd (contrary false refl e)
done-ended system x m (row.Release y) past fits e = absurd (contrary false refl e)
done-ended system x m (row.Run y) past fits e = absurd (contrary false refl e)
done-ended system x m (row.Signal y note badge) past fits e = absurd (contrary false refl e)
done-ended system x m (row.Arrive note badge maker) past fits e = absurd (contrary false refl e)
done-ended system x m (row.Hold note word) past fits e = absurd (contrary false refl e)
done-ended system x m (row.Order context) past fits e = absurd (contrary false refl e)
done-ended system x m (row.Interrupt source at_note badge) past fits e = absurd (contrary false refl e)

-- a round that is under way
same-if : {A : Type 0} (b : Bool) (a : A) → cond b a a ≡ a
same-if true a = refl
same-if false a = refl

begun-kept : (waits bits : Option ℕ) (x m b : ℕ) (what : What) → ends_round x what ≡ false → is_done x what ≡ false
    → begun_after waits bits x m what (Some b) ≡ Some b
begun-kept waits bits x m b (row.Round y number response) e f = ap (λ c. cond c (begun_at waits m) (Some b)) e
begun-kept waits bits x m b (row.Stop y why.Done charged until) e f = ap (λ c. cond c None (Some b)) f
begun-kept waits bits x m b (row.Stop y why.Spent charged until) e f = refl
begun-kept waits bits x m b (row.Stop y why.Yield charged until) e f = refl
begun-kept waits bits x m b (row.Stop y why.Wait charged until) e f = refl
begun-kept waits bits x m b (row.Stop y why.Call charged until) e f = refl
begun-kept waits bits x m b (row.Stop y why.Preempt charged until) e f = refl
begun-kept waits bits x m b (row.Stop y why.Order charged until) e f = refl
begun-kept waits bits x m b (row.Got y note word) e f = same-if (y == x) (Some b)
begun-kept waits bits x m b (row.Wake y note word until) e f = same-if (y == x) (Some b)
begun-kept waits bits x m b (row.Release y) e f = refl
begun-kept waits bits x m b (row.Run y) e f = refl
begun-kept waits bits x m b (row.Signal y note badge) e f = refl
begun-kept waits bits x m b (row.Arrive note badge maker) e f = refl
begun-kept waits bits x m b (row.Hold note word) e f = refl
begun-kept waits bits x m b (row.Order context) e f = refl
begun-kept waits bits x m b (row.Interrupt source at_note badge) e f = refl

called-kept : (firsts : List Held) (waits bits : Option ℕ) (x m b : ℕ) (past : List Row) (what : What) (before : Option ℕ)
    → called_after firsts waits bits x past m what (Some b) before ≡ before
called-kept firsts waits bits x m b past (row.Got y note word) before = same-if (y == x) before
called-kept firsts waits bits x m b past (row.Wake y note word until) before = same-if (y == x) before
called-kept firsts waits bits x m b past (row.Round y number response) before = refl
called-kept firsts waits bits x m b past (row.Stop y cause charged until) before = refl
called-kept firsts waits bits x m b past (row.Release y) before = refl
called-kept firsts waits bits x m b past (row.Run y) before = refl
called-kept firsts waits bits x m b past (row.Signal y note badge) before = refl
called-kept firsts waits bits x m b past (row.Arrive note badge maker) before = refl
called-kept firsts waits bits x m b past (row.Hold note word) before = refl
called-kept firsts waits bits x m b past (row.Order context) before = refl
called-kept firsts waits bits x m b past (row.Interrupt source at_note badge) before = refl

rounds-kept : (x k : ℕ) (what : What) → ends_round x what ≡ false → rounds_after x what k ≡ k
rounds-kept x k (row.Round y number response) e = ap (λ c. cond c number k) e
rounds-kept x k (row.Stop y cause charged until) e = refl
rounds-kept x k (row.Got y note word) e = refl
rounds-kept x k (row.Wake y note word until) e = refl
rounds-kept x k (row.Release y) e = refl
rounds-kept x k (row.Run y) e = refl
rounds-kept x k (row.Signal y note badge) e = refl
rounds-kept x k (row.Arrive note badge maker) e = refl
rounds-kept x k (row.Hold note word) e = refl
rounds-kept x k (row.Order context) e = refl
rounds-kept x k (row.Interrupt source at_note badge) e = refl

-- a thread that is yet to begin a round, if the script begins with no wait
none-kept : (bits : Option ℕ) (x m : ℕ) (what : What) → ends_round x what ≡ false → begun_after None bits x m what None ≡ None
none-kept bits x m (row.Round y number response) e = ap (λ c. cond c (begun_at None m) None) e
none-kept bits x m (row.Stop y why.Done charged until) e = same-if (y == x) None
none-kept bits x m (row.Stop y why.Spent charged until) e = refl
none-kept bits x m (row.Stop y why.Yield charged until) e = refl
none-kept bits x m (row.Stop y why.Wait charged until) e = refl
none-kept bits x m (row.Stop y why.Call charged until) e = refl
none-kept bits x m (row.Stop y why.Preempt charged until) e = refl
none-kept bits x m (row.Stop y why.Order charged until) e = refl
none-kept bits x m (row.Got y note word) e = same-if (y == x) None
none-kept bits x m (row.Wake y note word until) e = same-if (y == x) None
none-kept bits x m (row.Release y) e = refl
none-kept bits x m (row.Run y) e = refl
none-kept bits x m (row.Signal y note badge) e = refl
none-kept bits x m (row.Arrive note badge maker) e = refl
none-kept bits x m (row.Hold note word) e = refl
none-kept bits x m (row.Order context) e = refl
none-kept bits x m (row.Interrupt source at_note badge) e = refl

-- if no round is under way after a row, none is after the same row later, where none was before
given-pair : (waits bits : Option ℕ) (note word m m' : ℕ) (now now' : Option ℕ) → (now ≡ None → now' ≡ None)
    → begun_by_word waits bits note word m now ≡ None → begun_by_word waits bits note word m' now' ≡ None
given-pair waits bits note word m m' None now' h e = ap (begun_by_word waits bits note word m') (h refl) ∙ by (begins_round waits bits note word) e
  where
    by : (b : Bool) → cond b (Some m) None ≡ None → cond b (Some m') None ≡ None
    by true e = absurd (none-some m (sym e))
    by false e = refl
given-pair waits bits note word m m' (Some from) now' h e = absurd (none-some from (sym e))

pub begun-pair : (shift : Shift) (waits bits : Option ℕ) (x m m' : ℕ) (what : What) (now now' : Option ℕ) → ends_round x what ≡ false
    → (now ≡ None → now' ≡ None) → begun_after waits bits x m what now ≡ None → begun_after waits bits x m' (later_what shift what) now' ≡ None
begun-pair shift waits bits x m m' (row.Round y number response) now now' e h f =
    ap (λ c. cond c (begun_at waits m') now') e ∙ h (sym (ap (λ c. cond c (begun_at waits m) now) e) ∙ f)
begun-pair shift waits bits x m m' (row.Stop y why.Done charged until) now now' e h f = by (y == x) f
  where
    by : (b : Bool) → cond b None now ≡ None → cond b None now' ≡ None
    by true f = refl
    by false f = h f
begun-pair shift waits bits x m m' (row.Stop y why.Spent charged until) now now' e h f = h f
begun-pair shift waits bits x m m' (row.Stop y why.Yield charged until) now now' e h f = h f
begun-pair shift waits bits x m m' (row.Stop y why.Wait charged until) now now' e h f = h f
begun-pair shift waits bits x m m' (row.Stop y why.Call charged until) now now' e h f = h f
begun-pair shift waits bits x m m' (row.Stop y why.Preempt charged until) now now' e h f = h f
begun-pair shift waits bits x m m' (row.Stop y why.Order charged until) now now' e h f = h f
begun-pair shift waits bits x m m' (row.Got y note word) now now' e h f = by (y == x) f
  where
    by : (b : Bool) → cond b (begun_by_word waits bits note word m now) now ≡ None → cond b (begun_by_word waits bits note word m' now') now' ≡ None
    by true f = given-pair waits bits note word m m' now now' h f
    by false f = h f
begun-pair shift waits bits x m m' (row.Wake y note word until) now now' e h f = by (y == x) f
  where
    by : (b : Bool) → cond b (begun_by_word waits bits note word m now) now ≡ None → cond b (begun_by_word waits bits note word m' now') now' ≡ None
    by true f = given-pair waits bits note word m m' now now' h f
    by false f = h f
begun-pair shift waits bits x m m' (row.Release y) now now' e h f = h f
begun-pair shift waits bits x m m' (row.Run y) now now' e h f = h f
begun-pair shift waits bits x m m' (row.Signal y note badge) now now' e h f = h f
begun-pair shift waits bits x m m' (row.Arrive note badge maker) now now' e h f = h f
begun-pair shift waits bits x m m' (row.Hold note word) now now' e h f = h f
begun-pair shift waits bits x m m' (row.Order context) now now' e h f = h f
begun-pair shift waits bits x m m' (row.Interrupt source at_note badge) now now' e h f = h f

-- a row that is not about the thread
pub begun-apart : (waits bits : Option ℕ) (x m : ℕ) (what : What) (now : Option ℕ) → is_about x what ≡ false → begun_after waits bits x m what now ≡ now
begun-apart waits bits x m (row.Round y number response) now e = ap (λ c. cond c (begun_at waits m) now) e
begun-apart waits bits x m (row.Stop y why.Done charged until) now e = ap (λ c. cond c None now) e
begun-apart waits bits x m (row.Stop y why.Spent charged until) now e = refl
begun-apart waits bits x m (row.Stop y why.Yield charged until) now e = refl
begun-apart waits bits x m (row.Stop y why.Wait charged until) now e = refl
begun-apart waits bits x m (row.Stop y why.Call charged until) now e = refl
begun-apart waits bits x m (row.Stop y why.Preempt charged until) now e = refl
begun-apart waits bits x m (row.Stop y why.Order charged until) now e = refl
begun-apart waits bits x m (row.Got y note word) now e = ap (λ c. cond c (begun_by_word waits bits note word m now) now) e
begun-apart waits bits x m (row.Wake y note word until) now e = ap (λ c. cond c (begun_by_word waits bits note word m now) now) e
begun-apart waits bits x m (row.Release y) now e = refl
begun-apart waits bits x m (row.Run y) now e = refl
begun-apart waits bits x m (row.Signal y note badge) now e = refl
begun-apart waits bits x m (row.Arrive note badge maker) now e = refl
begun-apart waits bits x m (row.Hold note word) now e = refl
begun-apart waits bits x m (row.Order context) now e = refl
begun-apart waits bits x m (row.Interrupt source at_note badge) now e = refl

pub tells-apart : (x : ℕ) (what : What) → is_about x what ≡ false → tells x what ≡ false
tells-apart x (row.Round y number response) e = refl
tells-apart x (row.Stop y cause charged until) e = e
tells-apart x (row.Got y note word) e = refl
tells-apart x (row.Wake y note word until) e = e
tells-apart x (row.Release y) e = e
tells-apart x (row.Run y) e = e
tells-apart x (row.Signal y note badge) e = refl
tells-apart x (row.Arrive note badge maker) e = refl
tells-apart x (row.Hold note word) e = refl
tells-apart x (row.Order context) e = refl
tells-apart x (row.Interrupt source at_note badge) e = refl

pub tells-later : (shift : Shift) (x : ℕ) (what : What) → tells x (later_what shift what) ≡ tells x what
tells-later shift x (row.Round y number response) = refl
tells-later shift x (row.Stop y cause charged until) = refl
tells-later shift x (row.Got y note word) = refl
tells-later shift x (row.Wake y note word until) = refl
tells-later shift x (row.Release y) = refl
tells-later shift x (row.Run y) = refl
tells-later shift x (row.Signal y note badge) = refl
tells-later shift x (row.Arrive note badge maker) = refl
tells-later shift x (row.Hold note word) = refl
tells-later shift x (row.Order context) = refl
tells-later shift x (row.Interrupt source at_note badge) = refl

-- a round begins at the time of a row, or when the thread starts
word-low : (waits bits : Option ℕ) (x y note word m n b : ℕ) (now : Option ℕ) → m ≤ n → ((a : ℕ) → now ≡ Some a → a ≤ n)
    → cond (y == x) (begun_by_word waits bits note word m now) now ≡ Some b → b ≤ n
word-low waits bits x y note word m n b now l h e = by (y == x) e
  where
    or : (c : Bool) → cond c (Some m) None ≡ Some b → b ≤ n
    or true g = let same = some-same m b g in omega (arith, same, l)
    or false g = absurd (none-some b g)

    given-low : (now : Option ℕ) → ((a : ℕ) → now ≡ Some a → a ≤ n) → begun_by_word waits bits note word m now ≡ Some b → b ≤ n
    given-low (Some a) h f = let same = some-same a b f in let k = h a refl in omega (arith, same, k)
    given-low None h f = or (begins_round waits bits note word) f

    by : (c : Bool) → cond c (begun_by_word waits bits note word m now) now ≡ Some b → b ≤ n
    by true f = given-low now h f
    by false f = h b f

begun-low : (waits bits : Option ℕ) (x m n b : ℕ) (what : What) (now : Option ℕ) → m ≤ n → ((a : ℕ) → now ≡ Some a → a ≤ n)
    → begun_after waits bits x m what now ≡ Some b → b ≤ n
begun-low waits bits x m n b (row.Round y number response) now l h e = by (y == x) e
  where
    at-begin : (waits : Option ℕ) → begun_at waits m ≡ Some b → b ≤ n
    at-begin (Some note) f = absurd (none-some b f)
    at-begin None f = let same = some-same m b f in omega (arith, same, l)

    by : (c : Bool) → cond c (begun_at waits m) now ≡ Some b → b ≤ n
    by true f = at-begin waits f
    by false f = h b f
begun-low waits bits x m n b (row.Stop y why.Done charged until) now l h e = by (y == x) e
  where
    by : (c : Bool) → cond c None now ≡ Some b → b ≤ n
    by true f = absurd (none-some b f)
    by false f = h b f
begun-low waits bits x m n b (row.Stop y why.Spent charged until) now l h e = h b e
begun-low waits bits x m n b (row.Stop y why.Yield charged until) now l h e = h b e
begun-low waits bits x m n b (row.Stop y why.Wait charged until) now l h e = h b e
begun-low waits bits x m n b (row.Stop y why.Call charged until) now l h e = h b e
begun-low waits bits x m n b (row.Stop y why.Preempt charged until) now l h e = h b e
begun-low waits bits x m n b (row.Stop y why.Order charged until) now l h e = h b e
begun-low waits bits x m n b (row.Got y note word) now l h e = word-low waits bits x y note word m n b now l h e
begun-low waits bits x m n b (row.Wake y note word until) now l h e = word-low waits bits x y note word m n b now l h e
begun-low waits bits x m n b (row.Release y) now l h e = h b e
begun-low waits bits x m n b (row.Run y) now l h e = h b e
begun-low waits bits x m n b (row.Signal y note badge) now l h e = h b e
begun-low waits bits x m n b (row.Arrive note badge maker) now l h e = h b e
begun-low waits bits x m n b (row.Hold note word) now l h e = h b e
begun-low waits bits x m n b (row.Order context) now l h e = h b e
begun-low waits bits x m n b (row.Interrupt source at_note badge) now l h e = h b e

module _ (system : System) (x : ℕ) where
  abbrev waits : Option ℕ
  waits = first_wait (thread_part system x)

  abbrev bits : Option ℕ
  bits = bits_of (thread_part system x)

  pub begun-by : (n : ℕ) (past : List Row) → UpTo n past → (thread_part system x).start ≤ n → (b : ℕ) → begun_of system x past ≡ Some b → b ≤ n
  begun-by n [] up l b e = by waits e
    where
      by : (waits : Option ℕ) → begun_at waits (thread_part system x).start ≡ Some b → b ≤ n
      by (Some note) f = absurd (none-some b f)
      by None f = let same = some-same (thread_part system x).start b f in omega (arith, same, l)
  begun-by n (r ∷ past) up l b e =
      begun-low waits bits x r.moment n b r.what (begun_of system x past) up.0
      (λ a f. begun-by n past (up_to-later r.moment n past up.0 up.1) l a f) e

  -- no row since g ended a round of it: the latest one did not
  abbrev pub IsQuiet : ℕ → List Row → Type 0
  IsQuiet g past = (m : ℕ) → g ≤ m → JustEnded x m past → ⊥

  pub quiet-row : (c t g : ℕ) (what : What) (past : List Row) → ends_round x what ≡ false → IsQuiet g (at t c what ∷ past)
  quiet-row c t g what past e m l ended = contrary (ends_round x what) e (sym (ends-there x what) ∙ ended.0)

  pub not-done : (t g : ℕ) (what : What) (past : List Row) → g ≤ t → Fits system x past t what → IsQuiet g past → is_done x what ≡ false
  not-done t g what past l fits quiet = by (is_done x what) refl
    where
      by : (b : Bool) → is_done x what ≡ b → b ≡ false
      by false e = refl
      by true e = absurd (quiet t l (done-ended system x t what past fits e))

  -- the round that began at b is under way, with this activation, by moment g
  pub record Under (g b k : ℕ) (activation : Option ℕ) (past : List Row) : Type 0 where
    pub begun : begun_of system x past ≡ Some b
    pub active : activated system x past b g ≡ activation
    pub rounds : rounds_of x past ≡ k
    pub quiet : IsQuiet g past

  pub under-row : (g b k : ℕ) (activation : Option ℕ) (c t : ℕ) (what : What) (past : List Row) → g ≤ t → ends_round x what ≡ false
      → Fits system x past t what → Under g b k activation past → Under g b k activation (at t c what ∷ past)
  under-row g b k activation c t what past l none fits u =
      record {
        begun = ap (begun_after waits bits x t what) u.begun ∙ begun-kept waits bits x t b what none (not-done t g what past l fits u.quiet);
        active =
            ap (λ called. activated_by waits called (first_active x (at t c what ∷ past) b g)) called
            ∙ ap (activated_by waits (called_of system x past)) (first-before x t c b (g - b) what past (λ i m. omega (arith, m, l)))
            ∙ u.active;
        rounds = ap (rounds_after x what) u.rounds ∙ rounds-kept x k what none;
        quiet = quiet-row c t g what past none;
      }
    where
      called : called_of system x (at t c what ∷ past) ≡ called_of system x past
      called =
          ap (λ now. called_after (firsts_of system) waits bits x past t what now (called_of system x past)) u.begun
          ∙ called-kept (firsts_of system) waits bits x t b past what (called_of system x past)

  -- the beginning alone
  pub record Begun (g b : ℕ) (past : List Row) : Type 0 where
    pub begun : begun_of system x past ≡ Some b
    pub quiet : IsQuiet g past

  pub begun-row : (g b c t : ℕ) (what : What) (past : List Row) → g ≤ t → ends_round x what ≡ false
      → Fits system x past t what → Begun g b past → Begun g b (at t c what ∷ past)
  begun-row g b c t what past l none fits u =
      record {
        begun = ap (begun_after waits bits x t what) u.begun ∙ begun-kept waits bits x t b what none (not-done t g what past l fits u.quiet);
        quiet = quiet-row c t g what past none;
      }

  -- no round is under way, and the script begins with no wait
  pub none-row : (c t : ℕ) (what : What) (past : List Row) → waits ≡ None → ends_round x what ≡ false → begun_of system x past ≡ None
      → begun_of system x (at t c what ∷ past) ≡ None
  none-row c t what past e none f =
      ap (begun_after waits bits x t what) f ∙ ap (λ waits. begun_after waits bits x t what None) e ∙ none-kept bits x t what none
