-- The utilisation of contexts, and the range of a core's sum.
use Rattle.std.proofs.Common.{◌≡◌, ◌≢◌, ℕ, ◌+◌, ◌*◌, ◌<◌, ◌≤◌, ◌⊎◌, inl, inr, Bool, true, false, cond, eqb, List, [], ◌∷◌, length, get_or, Result, Ok, Err, IsOk, refl, sym, ap, subst, ◌∙◌, arith}
use Rattle.std.specs.List.{filter, sum_by}
use Rattle.std.proofs.Math.Nat.{zero-add, mul-le-mul_right, div-le_of_le-mul}
use Rattle.std.proofs.lemmas.Bool.{cases_lt}
use Rattle.std.proofs.lemmas.Bool.Decides.{nat_tests}
use Rattle.std.proofs.lemmas.List.{get_or_past}
use Rattle.std.proofs.lemmas.List.Elements.{filter-append}
use Rattle.std.proofs.lemmas.List.Sums.{sum_by-append, sum_by-le, length-filter, count_by-le-length}
use Rattle.std.proofs.lemmas.List.FromFn.{length-range_with_len}
use Rattle.mcs_control.specs.declared.config.Config.{Config}
use Rattle.mcs_control.specs.declared.config.Kind.{Kind}
use Rattle.mcs_control.specs.declared.config.Kind.TheVariants.{Sporadic, RoundRobin}
use Rattle.mcs_control.specs.declared.config.ControlFault.{ControlFault}
use Rattle.mcs_control.specs.Control.{checked, kind_of, IsConfig}
use Rattle.mcs_control.proofs.Configs.{passed-configs}
use Rattle.mcs_system.specs.declared.part.ContextPart.{ContextPart}
use Rattle.mcs_system.specs.System.{System, context_part, no_context}
use Rattle.mcs_system.specs.WellFormed.{IsWellFormed}
use Rattle.mcs_hints.specs.Numbers.{numbers}
use Rattle.mcs_hints.specs.Contexts.{is_bound, share_by, share_where, share_of}
use Rattle.mcs_hints.proofs.Numbers.{numbers_more, read_known}

-- what SchedControl accepts is in range
pub accepted-config : (least : ℕ) (config : Config) → IsOk (checked least config) → IsConfig config
accepted-config least config h = by (checked least config) refl h
  where
    by : (r : Result Kind ControlFault) → checked least config ≡ r → IsOk r → IsConfig config
    by (Ok kind) e h = (passed-configs least config kind e).0
    by (Err fault) e h = absurd (cc)

-- what is read of the contexts
pub part_known : (system : System) (contexts : List ContextPart) (n : ℕ) (part : ContextPart) → contexts ≡ system.contexts → n < length contexts
    → part ≡ get_or contexts n part → part ≡ context_part system n
part_known system contexts n part same h is = read_known contexts system.contexts n part no_context same h is

pub config_known : (system : System) (n : ℕ) (part : ContextPart) → IsWellFormed system → n < length system.contexts → part ≡ context_part system n
    → IsConfig part.config
config_known system n part well h is =
    subst (λ (part : ContextPart). IsConfig part.config) (sym is)
    (accepted-config system.min_budget (context_part system n).config (well.contexts n no_context h).accepted)

-- no context is granted more than all of the time
share_by_le : (kind : Kind) (config : Config) → config.budget ≤ config.period → share_by kind config ≤ 1000000
share_by_le RoundRobin config h = omega arith
share_by_le Sporadic config h = div-le_of_le-mul config.period (mul-le-mul_right 1000000 h)

share_where_le : (bound : Bool) (config : Config) → config.budget ≤ config.period → share_where bound config ≤ 1000000
share_where_le true config h = share_by_le (kind_of config) config h
share_where_le false config h = omega arith

module _ (system : System) (well : IsWellFormed system) where
  within : (context : ℕ) → (context_part system context).config.budget ≤ (context_part system context).config.period
  within context = by (cases_lt context (length system.contexts))
    where
      by : (context < length system.contexts) ⊎ (length system.contexts ≤ context) → (context_part system context).config.budget ≤ (context_part system context).config.period
      by (inl known) = (accepted-config system.min_budget (context_part system context).config (well.contexts context no_context known).accepted).within
      by (inr past) = subst (λ (part : ContextPart). part.config.budget ≤ part.config.period) (sym (get_or_past system.contexts context no_context past)) (omega arith)

  pub share_of_le : (context : ℕ) → share_of system context ≤ 1000000
  share_of_le context = share_where_le (is_bound system.threads context) (context_part system context).config (within context)

-- the shares of a core's contexts below this number
abbrev pub granted_below : System → ℕ → ℕ → ℕ
granted_below system core n = sum_by (share_of system) (filter (λ context. eqb (context_part system context).core core) (numbers n))

pub granted_le : (system : System) (core n : ℕ) → IsWellFormed system → granted_below system core n ≤ n * 1000000
granted_le system core n well =
    let on : ℕ → Bool = λ context. eqb (context_part system context).core core in
    let few : length (filter on (numbers n)) ≤ n = omega (arith, length-filter on (numbers n), count_by-le-length on (numbers n), length-range_with_len 0 n) in
    let sum : granted_below system core n ≤ length (filter on (numbers n)) * 1000000 =
    sum_by-le (share_of system) 1000000 (filter on (numbers n)) (λ k d h. share_of_le system well (get_or (filter on (numbers n)) k d))
    in
    omega arith

granted_more : (system : System) (core n : ℕ) (b : Bool) → eqb (context_part system n).core core ≡ b
    → granted_below system core (n + 1) ≡ granted_below system core n + sum_by (share_of system) (cond b (n ∷ []) [])
granted_more system core n b e =
    let on : ℕ → Bool = λ context. eqb (context_part system context).core core in
    ap (λ xs. sum_by (share_of system) (filter on xs)) (numbers_more n)
    ∙ ap (sum_by (share_of system)) (filter-append on (numbers n) (n ∷ []))
    ∙ sum_by-append (share_of system) (filter on (numbers n)) (filter on (n ∷ []))
    ∙ ap (λ b. granted_below system core n + sum_by (share_of system) (cond b (n ∷ []) [])) e

pub granted_more_yes : (system : System) (core n : ℕ) → (context_part system n).core ≡ core
    → granted_below system core (n + 1) ≡ granted_below system core n + share_of system n
granted_more_yes system core n e =
    let yes : eqb (context_part system n).core core ≡ true = grind (arith, nat_tests) in
    let one : sum_by (share_of system) (n ∷ []) ≡ share_of system n = zero-add (share_of system n) in
    granted_more system core n true yes ∙ ap (λ x. granted_below system core n + x) one

pub granted_more_no : (system : System) (core n : ℕ) → (context_part system n).core ≢ core
    → granted_below system core (n + 1) ≡ granted_below system core n
granted_more_no system core n e =
    let no : eqb (context_part system n).core core ≡ false = grind (arith, nat_tests) in
    granted_more system core n false no ∙ omega arith
