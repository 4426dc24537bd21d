-- A command line that is made by adding one argument after another.
use Rattle.std.proofs.Common.{zero, suc, ◌≡◌, ◌∙◌, ◌<◌, subst, ap, ap₂, ℕ, true, false, List, [], ◌∷◌, length, Some, sym, arith, inl, inr, map, drop, true≢false}
use Rattle.std.specs.List.{All, IsDistinct, slice_index_or}
use Rattle.std.specs.Str.{bytes_eq}
use Rattle.std.proofs.lemmas.Bool.{cases_lt}
use Rattle.std.proofs.lemmas.Map.Keys.{apart_from_distinct}
use Rattle.std.proofs.lemmas.Slice.Eq.{bytes_eq-Decides}
use Rattle.clap.specs.Matches.{first_value, one_text}
use Rattle.clap.specs.Words.{AddsArg, IsParsedFrom, Rule, Text, args_of, found_of, groups_of, rows_of, rule_of}
use Rattle.clap.specs.declared.builder.command.Command.TheViews.{out-Command}
use Rattle.clap.specs.Built.{AddsInTurn, FitsChain, HasDistinctIds}
use Rattle.clap.specs.declared.Arg.{Arg}
use Rattle.clap.specs.declared.ArgMatches.{ArgMatches}
use Rattle.clap.specs.declared.Command.{Command}
use Rattle.clap.specs.declared.builder.ValueParser.TheVariants as parser
use Rattle.clap.proofs.WalkLemmas.{first_value-rows, one_text-rows}
use Rattle.mcs_words.specs.CommandLine.{HasNumber, HasOneOrDefault, number_rule}
use Rattle.mcs_words.proofs.Defaults.{default_in_chain}

id_at : (xs : List Arg) (ids : List Text) (j : ℕ) (d : Arg) → map (λ a. a.id.now) xs ≡ ids → j < length xs
    → (j < length ids) × ((slice_index_or xs j d).id.now ≡ slice_index_or ids j [])
id_at [] ids j d same lt = absurd (omega arith)
id_at (x ∷ xs) [] j d same lt = cc
id_at (x ∷ xs) (i ∷ ids) zero d same lt = (omega arith, ap (λ l. slice_index_or l 0 []) same)
id_at (x ∷ xs) (i ∷ ids) (suc j) d same lt =
    let rest = id_at xs ids j d (ap (λ l. drop 1 l) same) (omega arith) in
    (omega (arith, rest.0), rest.1)

-- an earlier text and a later one
apart : (ids : List Text) (j k : ℕ) → IsDistinct bytes_eq ids → j < k → k < length ids → bytes_eq (slice_index_or ids j []) (slice_index_or ids k []) ≡ true → ⊥
apart ids j k distinct earlier lt same = true≢false (sym same ∙ apart_from_distinct bytes_eq ids j k [] distinct earlier lt)

turned : (xs ys : Text) → bytes_eq xs ys ≡ true → bytes_eq ys xs ≡ true
turned xs ys same =
    let equal : xs ≡ ys = (bytes_eq-Decides xs ys).0 same in
    ap₂ bytes_eq (sym equal) equal ∙ same

-- arguments whose ids are these texts, which differ
pub distinct_ids : (xs : List Arg) (ids : List Text) → map (λ a. a.id.now) xs ≡ ids → IsDistinct bytes_eq ids → HasDistinctIds xs
distinct_ids xs ids is distinct j k d e lt lt' same =
    let at_j = id_at xs ids j e is lt in
    let at_k = id_at xs ids k d is lt' in
    let equal : bytes_eq (slice_index_or ids j []) (slice_index_or ids k []) ≡ true = ap₂ bytes_eq (sym at_j.1) (sym at_k.1) ∙ same in
    elim (cases_lt j k) [
      | inl earlier ↦ absurd (apart ids j k distinct earlier at_k.0 equal)
      | inr rest ↦ elim (cases_lt k j) [
        | inl later ↦ absurd (apart ids k j distinct later at_j.0 (turned (slice_index_or ids j []) (slice_index_or ids k []) equal))
        | inr none ↦ omega arith
      ]
    ]

-- the option at place k has a number after each parse that succeeds
pub number_in_chain : (start line : Command) (xs : List Arg) → AddsInTurn AddsArg start xs line
    → args_of start ≡ [] → groups_of start ≡ [] → (out-Command start).has_globals ≡ false → All FitsChain xs → HasDistinctIds xs
    → (k : ℕ) (a : Arg) (id default : Text) (least most : ℕ) → k < length xs → slice_index_or xs k a ≡ a
    → rule_of a ≡ number_rule id default least most → HasOneOrDefault a
    → (m : ArgMatches) → IsParsedFrom line m → HasNumber id least most (rows_of (found_of m))
number_in_chain start line xs chain args groups globals fits distinct k a id default least most lt at is has m parsed =
    let rule_is : rule_of (slice_index_or xs k a) ≡ number_rule id default least most = ap rule_of at ∙ is in
    let reads = default_in_chain start line xs k a m (parser.Unsigned least most) chain args groups globals fits distinct lt
    (subst HasOneOrDefault (sym at) has) (ap (λ (r : Rule). r.parser) rule_is) parsed in
    let id_is : (slice_index_or xs k a).id.now ≡ id = ap (λ (r : Rule). r.id) rule_is in (
      reads.0,
      sym (first_value-rows (found_of m) id) ∙ subst (λ (i : Text). first_value (found_of m) i ≡ Some reads.0) id_is reads.1,
      sym (one_text-rows (found_of m) id) ∙ subst (λ (i : Text). one_text (found_of m) i ≡ Some reads.0) id_is reads.2,
      reads.3,
    )
