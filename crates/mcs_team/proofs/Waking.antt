-- The collector of each core passes the idle time that is skipped when a piece is lent.
use Rattle.std.proofs.Common.{◌≡◌, ℕ, ◌<◌, ◌≤◌, length, min, Option, Some, None, List, [], inl, inr, ap, sym, ◌∙◌, subst, arith}
use Rattle.std.specs.Prelude.{slice_index, slice_index_or, IfSome, IfNone}
use Rattle.std.proofs.lemmas.List.{get_or_default}
use Rattle.mcs_system.specs.System.{System}
use Rattle.mcs_stretch.specs.Idle.{OnlyCounts}
use Rattle.mcs_stretch.specs.Stretch.{rows_between}
use Rattle.mcs_stretch.proofs.Ranges.{rows-none}
use Rattle.mcs_window.specs.Desk.{Table, clock_of, AllAreHere, IsAwake, IsLentWithin, IsSkipped}
use Rattle.mcs_window.specs.Pieces.{Work}

-- a core makes no row from one clock to a later one
abbrev pub IsSilent : Table → Table → ℕ → Type 0
IsSilent before after c =
    (clock_of before c ≤ clock_of after c) × (rows_between before.system c (clock_of before c) (clock_of after c) ≡ [])

pub awake-silent : (before after : Table)
    → (AllAreHere before → (later : Table) → IsSkipped before later → (c : ℕ) → c < before.system.cores → OnlyCounts before.system before.clocks later.clocks c)
    → IsAwake before after → (c : ℕ) → c < before.system.cores → IsSilent before after c
awake-silent before after law (inl (sound, here, skipped)) c l =
    (let set = skipped.clocks c l in omega arith, (law here after skipped c l).no_rows)
awake-silent before after law (inr (_, same)) c l =
    subst (λ (t : Table). IsSilent before t c) (sym same) (omega arith, rows-none before.system c (clock_of before c))

-- whether or not a piece was lent
pub lent-silent : (before after : Table) (span : ℕ) (lent : Option Work) (X : Type 0)
    → (AllAreHere before → (later : Table) → IsSkipped before later → (c : ℕ) → c < before.system.cores → OnlyCounts before.system before.clocks later.clocks c)
    → IfSome lent (λ piece. IsLentWithin before span piece.core after) → IfNone lent (IsAwake before after × X)
    → (c : ℕ) → c < before.system.cores → IsSilent before after c
lent-silent before after span (Some piece) X law some none c l =
    subst (λ (t : Table). IsSilent before t c) (sym some.lent) (awake-silent before some.table law some.awake c l)
lent-silent before after span None X law some none c l = awake-silent before after law none.0 c l

-- by moments at which the clocks stood
pub caught-up : (system : System) (before after : Table) (front : List ℕ) → before.system ≡ system → after.system ≡ before.system
    → ((c : ℕ) → c < before.system.cores → c < 64 → slice_index front c ≡ clock_of before c)
    → ((c : ℕ) → c < before.system.cores → IsSilent before after c)
    → (c : ℕ) → c < after.system.cores → c < 64
    → (slice_index front c ≤ clock_of after c) × (rows_between system c (slice_index front c) (clock_of after c) ≡ [])
caught-up system before after front own same at silent c l few =
    let known : c < before.system.cores = subst (λ (s : System). c < s.cores) same l in
    let from = at c known few in
    let quiet = silent c known in (
      (let order = quiet.0 in omega arith),
      ap (λ n. rows_between system c n (clock_of after c)) from
          ∙ ap (λ (s : System). rows_between s c (clock_of before c) (clock_of after c)) (sym own)
          ∙ quiet.1,
    )

-- what there is to pass at one of the moments, as a list of 64 gives it
pub passed-at : (system : System) (before : List ℕ) (started desk : Table) (number end cores past other : ℕ) → desk ≡ started → length before ≡ 64
    → ((c : ℕ) → c < started.system.cores → c < 64
    → (slice_index before c ≤ clock_of started c) × (rows_between system c (slice_index before c) (clock_of started c) ≡ []))
    → cores ≡ started.system.cores → end ≡ min cores 64 → number < end → past ≡ clock_of desk number
    → (slice_index_or before number other ≤ past) × (rows_between system number (slice_index_or before number other) past ≡ [])
passed-at system before started desk number end cores past other same long law many last below at =
    let known : number < started.system.cores = omega arith in
    let few : number < 64 = omega arith in
    let quiet = law number known few in
    let from : slice_index_or before number other ≡ slice_index before number = get_or_default before number other 0 (omega arith) in
    let to : past ≡ clock_of started number = at ∙ ap (λ (t : Table). clock_of t number) same in (
      (let order = quiet.0 in omega arith),
      ap (λ n. rows_between system number n past) from ∙ ap (rows_between system number (slice_index before number)) to ∙ quiet.1,
    )
