-- Which threads have the origin after a row: those that had it before, but for the row's own thread.
use Rattle.std.proofs.Common.{◌≡◌, ◌∙◌, ℕ, ◌<◌, ◌≤◌, ◌⊎◌, inl, inr, Bool, true, false, List, length, get_or, set, Option, Some, None, refl, sym, ap, subst, arith}
use Rattle.std.specs.Prelude.{if◌then◌else◌, ◌==◌}
use Rattle.std.proofs.lemmas.Bool.{cases_lt}
use Rattle.std.proofs.lemmas.Bool.Decides.{nat_tests}
use Rattle.std.proofs.lemmas.List.{length-set, get_or-set_same, get_or-set_other, get_or_past, set_past}
use Rattle.mcs_ticks.specs.declared.row.Row.{Row}
use Rattle.mcs_ticks.specs.declared.row.What.{What}
use Rattle.mcs_ticks.specs.declared.row.What.TheVariants as row
use Rattle.mcs_system.specs.System.{System, is_server, note_part}
use Rattle.mcs_verdict.specs.declared.standing.Stood.{Stood}
use Rattle.mcs_verdict.specs.Account.{subject}
use Rattle.mcs_chain.specs.declared.moves.Move.TheVariants.{Nothing, Give, Send}
use Rattle.mcs_origins.specs.declared.taking.Taking.{Taking}
use Rattle.mcs_origins.specs.declared.taking.Taking.TheVariants.{First, Later}
use Rattle.mcs_chain.specs.declared.step.Gone.{Gone}
use Rattle.mcs_chain.specs.Moves.{moves_by}
use Rattle.mcs_way.specs.declared.aim.Aim.{Aim}
use Rattle.mcs_way.specs.Trace.{Trace, is_at, left_note, taken, joined, since_of}
use Rattle.mcs_way.specs.Course.{Course, come_to, moved}
use Rattle.mcs_way.specs.Stances.{IsNext, AreNext}

-- an origin that comes at this moment, if one comes
abbrev pub IsNew : ℕ → Option Trace → Type 0
IsNew moment None = Unit {0}
IsNew moment (Some trace) = trace.since ≡ moment

left_note-new : (note moment places : ℕ) (trace : Trace) → (left_note note moment places trace).since ≡ moment
left_note-new note moment places trace = grind (arith, nat_tests)

new-if : (b : Bool) (moment : ℕ) (trace : Trace) → trace.since ≡ moment → IsNew moment (if b then Some trace else None)
new-if true moment trace e = e
new-if false moment trace e = tt

pub taken-new : (taking : Taking) (note moment : ℕ) (spot : Option Trace) → IsNew moment (taken taking note moment spot)
taken-new (First bits) note moment None = tt
taken-new (Later places) note moment None = tt
taken-new (First bits) note moment (Some trace) =
    new-if (is_at bits trace) moment (left_note note moment _ trace) (left_note-new note moment _ trace)
taken-new (Later places) note moment (Some trace) = left_note-new note moment places trace

same-next : (moment : ℕ) (since : Option ℕ) → IsNext moment since since
same-next moment None = tt
same-next moment (Some from) = refl

join-next : (moment : ℕ) (new old : Option Trace) → IsNew moment new → IsNext moment (since_of old) (since_of (joined new old))
join-next moment None old e = same-next moment (since_of old)
join-next moment (Some new) None e = e
join-next moment (Some new) (Some old) e = refl

-- another origin is set at a thread's place
set-next : (moment thread : ℕ) (spot : Option Trace) (spots : List (Option Trace))
    → IsNext moment (since_of (get_or spots thread None)) (since_of spot) → AreNext thread moment spots (set spots thread spot)
set-next moment thread spot spots e =
    record {
      long = length-set spots thread spot;
      own = by (cases_lt thread (length spots));
      others = λ k differ. ap since_of (get_or-set_other spots thread k spot None differ);
    }
  where
    by : (thread < length spots) ⊎ (length spots ≤ thread)
        → IsNext moment (since_of (get_or spots thread None)) (since_of (get_or (set spots thread spot) thread None))
    by (inl h) =
        subst (λ s. IsNext moment (since_of (get_or spots thread None)) (since_of s)) (sym (get_or-set_same spots thread spot None h)) e
    by (inr h) =
        subst (λ s. IsNext moment (since_of (get_or spots thread None)) (since_of s))
        (sym (ap (λ xs. get_or xs thread None) (set_past spots thread spot h) ∙ get_or_past spots thread None h)) tt

come-next : (moment thread : ℕ) (new : Option Trace) (spots : List (Option Trace)) → IsNew moment new
    → AreNext thread moment spots (come_to thread new spots)
come-next moment thread new spots e =
    set-next moment thread (joined new (get_or spots thread None)) spots (join-next moment new (get_or spots thread None) e)

lose-next : (moment thread : ℕ) (spots : List (Option Trace)) → AreNext thread moment spots (set spots thread None)
lose-next moment thread spots = set-next moment thread None spots tt

stay-next : (moment thread : ℕ) (spots : List (Option Trace)) → AreNext thread moment spots spots
stay-next moment thread spots =
    record { long = refl; own = same-next moment (since_of (get_or spots thread None)); others = λ k differ. refl }

either-carried : (b : Bool) (c d : Course) (spots : List (Option Trace)) → c.carried ≡ spots → d.carried ≡ spots → (if b then c else d).carried ≡ spots
either-carried true c d spots e f = e
either-carried false c d spots e f = f

some-is : (x y : ℕ) → Some x ≡ Some y → x ≡ y
some-is x y e = cc

-- a row of this thread
pub carried-next : (system : System) (aim : Aim) (all : List Gone) (r : Row) (stood : Stood) (c : Course) (what : What) (thread : ℕ)
    → subject what ≡ Some thread → AreNext thread r.moment c.carried (moved aim r stood (moves_by system all r what) c).carried
carried-next system aim all r stood c (row.Release x) thread e = stay-next r.moment thread c.carried
carried-next system aim all r stood c (row.Run x) thread e = stay-next r.moment thread c.carried
carried-next system aim all r stood c (row.Stop x cause charged until) thread e = stay-next r.moment thread c.carried
carried-next system aim all r stood c (row.Wake x note word until) thread e =
    subst (λ t. AreNext t r.moment c.carried (moved aim r stood (moves_by system all r (row.Wake x note word until)) c).carried) (some-is x thread e)
    (come-next r.moment x (taken _ _ r.moment c.posted) c.carried (taken-new _ _ r.moment c.posted))
carried-next system aim all r stood c (row.Got x note word) thread e =
    subst (λ t. AreNext t r.moment c.carried (moved aim r stood (moves_by system all r (row.Got x note word)) c).carried) (some-is x thread e)
    (come-next r.moment x (taken _ note r.moment (get_or c.held note None)) c.carried (taken-new _ note r.moment (get_or c.held note None)))
carried-next system aim all r stood c (row.Round x number response) thread e =
    subst (λ t. AreNext t r.moment c.carried (moved aim r stood (moves_by system all r (row.Round x number response)) c).carried) (some-is x thread e)
    (subst (λ spots. AreNext x r.moment c.carried spots) (sym (either-carried _ _ _ (set c.carried x None) refl refl)) (lose-next r.moment x c.carried))
carried-next system aim all r stood c (row.Signal x note badge) thread e = absurd (cc)
carried-next system aim all r stood c (row.Arrive note badge maker) thread e = absurd (cc)
carried-next system aim all r stood c (row.Hold note word) thread e = absurd (cc)
carried-next system aim all r stood c (row.Order context) thread e = absurd (cc)
carried-next system aim all r stood c (row.Interrupt source note badge) thread e = absurd (cc)

-- a signal moves nothing, or posts
signal-carried : (b d : Bool) (aim : Aim) (r : Row) (stood : Stood) (c : Course) (thread places badge note maker made : ℕ)
    → (moved aim r stood (if b then Nothing else if d then Give thread places badge else Send thread places badge note maker made) c).carried ≡ c.carried
signal-carried true d aim r stood c thread places badge note maker made = refl
signal-carried false true aim r stood c thread places badge note maker made = refl
signal-carried false false aim r stood c thread places badge note maker made = refl

-- a row of no thread, and a signal
pub carried-same : (system : System) (aim : Aim) (all : List Gone) (r : Row) (stood : Stood) (c : Course) (what : What)
    → subject what ≡ None → (moved aim r stood (moves_by system all r what) c).carried ≡ c.carried
carried-same system aim all r stood c (row.Signal x note badge) e =
    signal-carried (is_server system note) ((note_part system note).core == r.core) aim r stood c x _ badge note r.core r.moment
carried-same system aim all r stood c (row.Arrive note badge maker) e = refl
carried-same system aim all r stood c (row.Hold note word) e = refl
carried-same system aim all r stood c (row.Order context) e = refl
carried-same system aim all r stood c (row.Interrupt source note badge) e = either-carried _ _ _ c.carried refl refl
carried-same system aim all r stood c (row.Release x) e = absurd (cc)
carried-same system aim all r stood c (row.Run x) e = absurd (cc)
carried-same system aim all r stood c (row.Stop x cause charged until) e = absurd (cc)
carried-same system aim all r stood c (row.Wake x note word until) e = absurd (cc)
carried-same system aim all r stood c (row.Got x note word) e = absurd (cc)
carried-same system aim all r stood c (row.Round x number response) e = absurd (cc)
