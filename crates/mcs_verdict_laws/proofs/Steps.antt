-- How a thread proceeds from row to row: as its core has it, and not only as its rows say.
use Rattle.std.proofs.Common.{◌≡◌, ℕ, ◌+◌, ◌⊎◌, Bool, true, false, ◌==◌, List, [], ◌∷◌, ◌++◌, slice_get, Option, Some, None, refl, sym, subst, ◌∙◌}
use Rattle.mcs_ticks.specs.declared.row.Row.{Row}
use Rattle.mcs_ticks.specs.declared.row.What.{What}
use Rattle.mcs_ticks.specs.declared.row.What.TheVariants as row
use Rattle.mcs_ticks.specs.declared.row.Why.{Why}
use Rattle.mcs_ticks.specs.declared.row.Why.TheVariants as why
use Rattle.mcs_script.specs.declared.item.Item.{Item}
use Rattle.mcs_script.specs.declared.item.Item.TheVariants.{Wait, Enter}
use Rattle.mcs_core.specs.Turn.{stamped}
use Rattle.mcs_verdict.specs.declared.standing.Standing.{Standing}
use Rattle.mcs_verdict.specs.declared.standing.Standing.TheVariants.{Pending, Ready, Running, Throttled, Blocked, AtServer, Done}
use Rattle.mcs_verdict.specs.Rounds.{begun_after}
use Rattle.mcs_verdict.specs.Standing.{tells, standing_until, standing_stopped}

pub contrary : (b : Bool) → b ≡ false → b ≡ true → ⊥
contrary true e f = let g : true ≡ false = e in cc
contrary false e f = let g : false ≡ true = f in cc

-- the place of a thread on its core, and when its round began by the rows so far
pub record Told : Type 0 where
  pub standing : Standing
  pub begun : Option ℕ

abbrev pub told_of : Standing → Option ℕ → Told
told_of standing begun = record { standing = standing; begun = begun }

-- a row of the thread that decides its state from then on
abbrev pub Turns : Standing → What → Standing → Type 0
Turns before (row.Release y) after = ((before ≡ Pending) ⊎ (before ≡ Throttled)) × (after ≡ Ready)
Turns before (row.Run y) after = (before ≡ Ready) × (after ≡ Running)
Turns before (row.Stop y cause charged until) after = (before ≡ Running) × (after ≡ standing_stopped cause until)
Turns before (row.Wake y note word until) after = ((before ≡ Blocked) ⊎ (before ≡ AtServer)) × (after ≡ standing_until until)
Turns before _ after = ⊥

abbrev pub Passes : Bool → Standing → What → Standing → Type 0
Passes true before what after = Turns before what after
Passes false before what after = after ≡ before

module _ (x : ℕ) where
  -- a row of another thread, or of none
  abbrev pub IsOther : What → Type 0
  IsOther (row.Release y) = (y == x) ≡ false
  IsOther (row.Run y) = (y == x) ≡ false
  IsOther (row.Stop y cause charged until) = (y == x) ≡ false
  IsOther (row.Wake y note word until) = (y == x) ≡ false
  IsOther (row.Got y note word) = (y == x) ≡ false
  IsOther (row.Round y number response) = (y == x) ≡ false
  IsOther _ = Unit {0}

  abbrev pub AreOther : List What → Type 0
  AreOther [] = Unit {0}
  AreOther (what ∷ rows) = IsOther what × AreOther rows

  pub other-append : (rows more : List What) → AreOther rows → AreOther more → AreOther (rows ++ more)
  other-append [] more first second = second
  other-append (what ∷ rows) more first second = (first.0, other-append rows more first.1 second)

  -- whether a row ends a round of the thread
  abbrev pub ends_round : What → Bool
  ends_round (row.Round y number response) = y == x
  ends_round _ = false

  abbrev pub ended_last : Option What → Bool
  ended_last None = false
  ended_last (Some what) = ends_round what

  -- the thread is done right after one of its rounds: the row before is its end
  abbrev pub EndsAfter : Option What → What → Type 0
  EndsAfter last (row.Stop y why.Done charged until) = (y == x) ≡ true → ended_last last ≡ true
  EndsAfter last _ = Unit {0}

  abbrev pub AreEnded : Option What → List What → Type 0
  AreEnded last [] = Unit {0}
  AreEnded last (what ∷ rows) = EndsAfter last what × AreEnded (Some what) rows

  pub ended-append : (last : Option What) (rows more : List What) → AreEnded last rows → ((last : Option What) → AreEnded last more)
      → AreEnded last (rows ++ more)
  ended-append last [] more first second = second last
  ended-append last (what ∷ rows) more first second = (first.0, ended-append (Some what) rows more first.1 second)

  ends-other : (last : Option What) (what : What) → IsOther what → EndsAfter last what
  ends-other last (row.Stop y why.Done charged until) e = λ own. absurd (contrary (y == x) e own)
  ends-other last (row.Stop y why.Spent charged until) e = tt
  ends-other last (row.Stop y why.Yield charged until) e = tt
  ends-other last (row.Stop y why.Wait charged until) e = tt
  ends-other last (row.Stop y why.Call charged until) e = tt
  ends-other last (row.Stop y why.Preempt charged until) e = tt
  ends-other last (row.Stop y why.Order charged until) e = tt
  ends-other last (row.Release y) e = tt
  ends-other last (row.Run y) e = tt
  ends-other last (row.Signal y note badge) e = tt
  ends-other last (row.Arrive note badge maker) e = tt
  ends-other last (row.Wake y note word until) e = tt
  ends-other last (row.Hold note word) e = tt
  ends-other last (row.Got y note word) e = tt
  ends-other last (row.Round y number response) e = tt
  ends-other last (row.Order context) e = tt
  ends-other last (row.Interrupt source at_note badge) e = tt

  pub ended-other : (last : Option What) (rows : List What) → AreOther rows → AreEnded last rows
  ended-other last [] other = tt
  ended-other last (what ∷ rows) other = (ends-other last what other.0, ended-other (Some what) rows other.1)

  -- a round of the thread that ends at moment t: its response is counted from its beginning
  abbrev pub IsTimed : ℕ → What → Option ℕ → Type 0
  IsTimed t (row.Round y number response) begun =
      (y == x) ≡ true → (beginning : ℕ) × (begun ≡ Some beginning) × (t ≡ beginning + response)
  IsTimed t _ begun = Unit {0}

-- a thread takes a word at a wait, and if that is its first item no round of it is under way; or it enters a server
abbrev pub TakesAt : List Item → ℕ → Option ℕ → Type 0
TakesAt script note begun =
    ((place : ℕ) × (slice_get script place ≡ Some (Wait note)) × (place ≡ 0 → begun ≡ None))
    ⊎ ((place : ℕ) × (priority : ℕ) × (slice_get script place ≡ Some (Enter note priority)))

-- the notification for which a script waits first, which of its words begin a round, when its thread starts, and its items
pub record First : Type 0 where
  pub waits : Option ℕ
  pub bits : Option ℕ
  pub start : ℕ
  pub script : List Item

-- the thread, and what its script waits for first
module _ (x : ℕ) (first : First) where
  -- a thread whose round is yet to begin takes no other word, and is woken by no other signal
  abbrev pub Takes : What → Told → Type 0
  Takes (row.Got y note word) told = (y == x) ≡ true → (told.begun ≡ None → first.waits ≡ Some note) × TakesAt first.script note told.begun
  Takes (row.Wake y note word until) told = (y == x) ≡ true → told.begun ≡ None → first.waits ≡ Some note
  Takes _ told = Unit {0}

  -- a round ends and a word is taken while the thread runs, and a thread that is pending is released at its start
  abbrev pub Allows : ℕ → What → Told → Type 0
  Allows t (row.Got y note word) told = (y == x) ≡ true → told.standing ≡ Running
  Allows t (row.Round y number response) told = (y == x) ≡ true → told.standing ≡ Running
  Allows t (row.Release y) told = (y == x) ≡ true → told.standing ≡ Pending → t ≡ first.start
  Allows t _ told = Unit {0}

  -- one row more
  pub record Step (t : ℕ) (before : Told) (what : What) (after : Told) : Type 0 where
    pub passes : Passes (tells x what) before.standing what after.standing
    pub begins : after.begun ≡ begun_after first.waits first.bits x t what before.begun
    pub timed : IsTimed x t what before.begun
    pub alive : before.standing ≡ Done → IsOther x what
    pub allows : Allows t what before
    pub takes : Takes what before

  -- the rows of a moment
  abbrev pub Walks : ℕ → Told → List What → Told → Type 0
  Walks t before [] last = before ≡ last
  Walks t before (what ∷ rows) last = (next : Told) × Step t before what next × Walks t next rows last

  pub walks-append : (t : ℕ) (rows more : List What) (a b c : Told) → Walks t a rows b → Walks t b more c → Walks t a (rows ++ more) c
  walks-append t [] more a b c first second = let P : Told → Type 0 = λ d. Walks t d more c in subst P (sym first) second
  walks-append t (what ∷ rows) more a b c first second = (first.0, first.1, walks-append t rows more first.0 b c first.2 second)

  -- rows of others change nothing
  untold : (b : Bool) (s : Standing) (what : What) → b ≡ false → Passes b s what s
  untold true s what e = absurd (let g : true ≡ false = e in cc)
  untold false s what e = refl

  not_stopped : (t charged y : ℕ) (cause : Why) (until begun : Option ℕ) → (y == x) ≡ false
      → begun ≡ begun_after first.waits first.bits x t (row.Stop y cause charged until) begun
  not_stopped t charged y why.Spent until begun e = refl
  not_stopped t charged y why.Yield until begun e = refl
  not_stopped t charged y why.Wait until begun e = refl
  not_stopped t charged y why.Call until begun e = refl
  not_stopped t charged y why.Done until begun e = rw e refl
  not_stopped t charged y why.Preempt until begun e = refl
  not_stopped t charged y why.Order until begun e = refl

  pub step-other : (t : ℕ) (told : Told) (what : What) → IsOther x what → Step t told what told
  step-other t told (row.Release y) e =
      record {
        passes = untold (y == x) told.standing (row.Release y) e;
        begins = refl;
        timed = tt;
        alive = λ f. e;
        allows = λ f. absurd (contrary (y == x) e f);
        takes = tt;
      }
  step-other t told (row.Run y) e =
      record { passes = untold (y == x) told.standing (row.Run y) e; begins = refl; timed = tt; alive = λ f. e; allows = tt; takes = tt }
  step-other t told (row.Stop y cause charged until) e =
      record {
        passes = untold (y == x) told.standing (row.Stop y cause charged until) e;
        begins = not_stopped t charged y cause until told.begun e;
        timed = tt;
        alive = λ f. e;
        allows = tt;
        takes = tt;
      }
  step-other t told (row.Wake y note word until) e =
      record {
        passes = untold (y == x) told.standing (row.Wake y note word until) e;
        begins = rw e refl;
        timed = tt;
        alive = λ f. e;
        allows = tt;
        takes = λ f. absurd (contrary (y == x) e f);
      }
  step-other t told (row.Got y note word) e =
      record {
        passes = refl;
        begins = rw e refl;
        timed = tt;
        alive = λ f. e;
        allows = λ f. absurd (contrary (y == x) e f);
        takes = λ f. absurd (contrary (y == x) e f);
      }
  step-other t told (row.Round y number response) e =
      record {
        passes = refl;
        begins = rw e refl;
        timed = λ f. absurd (contrary (y == x) e f);
        alive = λ f. e;
        allows = λ f. absurd (contrary (y == x) e f);
        takes = tt;
      }
  step-other t told (row.Signal y note badge) e = record { passes = refl; begins = refl; timed = tt; alive = λ f. tt; allows = tt; takes = tt }
  step-other t told (row.Arrive note badge maker) e = record { passes = refl; begins = refl; timed = tt; alive = λ f. tt; allows = tt; takes = tt }
  step-other t told (row.Hold note word) e = record { passes = refl; begins = refl; timed = tt; alive = λ f. tt; allows = tt; takes = tt }
  step-other t told (row.Order context) e = record { passes = refl; begins = refl; timed = tt; alive = λ f. tt; allows = tt; takes = tt }
  step-other t told (row.Interrupt source at_note badge) e = record { passes = refl; begins = refl; timed = tt; alive = λ f. tt; allows = tt; takes = tt }

  pub walks-other : (t : ℕ) (told : Told) (rows : List What) → AreOther x rows → Walks t told rows told
  walks-other t told [] other = refl
  walks-other t told (what ∷ rows) other = (told, step-other t told what other.0, walks-other t told rows other.1)

  -- a thread that is done has no row more
  pub still_done : (t : ℕ) (before after : Told) (what : What) → Step t before what after → before.standing ≡ Done → after.standing ≡ Done
  still_done t before after what step e = by (tells x what) step.passes (not_told what (step.alive e))
    where
      not_told : (what : What) → IsOther x what → tells x what ≡ false
      not_told (row.Release y) o = o
      not_told (row.Run y) o = o
      not_told (row.Stop y cause charged until) o = o
      not_told (row.Wake y note word until) o = o
      not_told (row.Got y note word) o = refl
      not_told (row.Round y number response) o = refl
      not_told (row.Signal y note badge) o = refl
      not_told (row.Arrive note badge maker) o = refl
      not_told (row.Hold note word) o = refl
      not_told (row.Order context) o = refl
      not_told (row.Interrupt source at_note badge) o = refl

      by : (b : Bool) → Passes b before.standing what after.standing → b ≡ false → after.standing ≡ Done
      by true p f = absurd (let g : true ≡ false = f in cc)
      by false p f = p ∙ e

  pub walks-done : (t : ℕ) (before last : Told) (rows : List What) → Walks t before rows last → before.standing ≡ Done → AreOther x rows
  walks-done t before last [] walks e = tt
  walks-done t before last (what ∷ rows) walks e =
      (walks.1.alive e, walks-done t walks.0 last rows walks.2 (still_done t before walks.0 what walks.1 e))

  -- the rows of a schedule
  abbrev pub Leads : Told → List Row → Told → Type 0
  Leads before [] last = before ≡ last
  Leads before (r ∷ rows) last = (next : Told) × Step r.moment before r.what next × Leads next rows last

  pub leads-append : (rows more : List Row) (a b c : Told) → Leads a rows b → Leads b more c → Leads a (rows ++ more) c
  leads-append [] more a b c first second = let P : Told → Type 0 = λ d. Leads d more c in subst P (sym first) second
  leads-append (r ∷ rows) more a b c first second = (first.0, first.1, leads-append rows more first.0 b c first.2 second)

  pub leads-stamped : (c t : ℕ) (rows : List What) (before last : Told) → Walks t before rows last → Leads before (stamped c t rows) last
  leads-stamped c t [] before last walks = walks
  leads-stamped c t (what ∷ rows) before last walks = (walks.0, walks.1, leads-stamped c t rows walks.0 last walks.2)
