-- After a successful parse, an argument with a default and one value has a text that its parser
-- accepts.
use Rattle.std.proofs.Common.{zero, suc, ◌≡◌, ◌∙◌, ◌++◌, subst, ◌<◌, ◌≤◌, ap, ◌||◌, ℕ, Bool, true, false, List, [], ◌∷◌, length, Some, None, refl, sym, inl, inr, arith}
use Rattle.std.specs.Prelude.{find, option_map}
use Rattle.std.specs.List.{All, slice_index_or}
use Rattle.std.specs.Str.{bytes_eq}
use Rattle.std.specs.Borrow.{Bor}
use Rattle.std.proofs.lemmas.List.Elements.{All-get_or, All-nil}
use Rattle.std.proofs.lemmas.List.{append-nil, append_assoc}
use Rattle.std.proofs.lemmas.Slice.Eq.{bytes_eq-Decides}
use Rattle.clap.specs.Texts.{items_of}
use Rattle.clap.specs.Facts.{args_of, groups_of, Entry, EntryPasses, HasIn, HasReading, PassesArg, least_values, parser_of, parser_of_value}
use Rattle.clap.specs.Built.{AddsArg, AddsInTurn, FitsChain, HasDistinctIds, IsAuto, IsParsedFrom, IsPlain, IsPlainArg, KeepsList, SameRules}
use Rattle.clap.specs.Matches.{matched_of, first_value, one_text, found_of}
use Rattle.clap.specs.Values.{Accepts, read_as, reading_of}
use Rattle.clap.specs.declared.builder.value_parser.Reading.{Reading}
use Rattle.clap.specs.declared.builder.action.ArgAction.TheVariants.{Count, Set}
use Rattle.clap.specs.declared.builder.arg.Arg.{Arg}
use Rattle.clap.specs.declared.builder.command.Command.{Command}
use Rattle.clap.specs.declared.builder.command.Command.TheViews.{out-Command}
use Rattle.clap.specs.declared.builder.value_parser.ValueParser.{ValueParser}
use Rattle.clap.specs.declared.parser.matches.ArgMatches.{ArgMatches}
use Rattle.clap.specs.declared.parser.matches.Found.{Found}
use Rattle.clap.specs.declared.parser.matches.MatchedArg.{MatchedArg}
use Rattle.mcs_words.specs.CommandLine.{HasOneOrDefault}
use Rattle.clap.proofs.CallerLemmas.{added_plain, default_present, entry_by_id, same_rules_by_id}

-- the first value of the id is a text that the parser accepts, read as that parser says
abbrev pub Reads : Found → List ℕ → Bool → ValueParser → Type 0
Reads f id ignore_case q = (t : List ℕ) × (first_value f id ≡ Some t) × (one_text f id ≡ Some (read_as (reading_of q) t)) × Accepts ignore_case q t

-- an id that an entry has is found
found_in : (xs : List Entry) (id : List ℕ) → HasIn xs id → (a : MatchedArg) × (option_map (λ e. e.1) (find (λ e. bytes_eq e.0.now id) xs) ≡ Some a)
found_in [] id has = absurd (omega (arith, has.1))
found_in (x ∷ xs) id has = go (bytes_eq x.0.now id) refl (λ later. found_in xs id later)
  where
    rest : (i : ℕ) → i < length (x ∷ xs) → ((d : Entry) → bytes_eq (slice_index_or (x ∷ xs) i d).0.now id ≡ true) → bytes_eq x.0.now id ≡ false → HasIn xs id
    rest zero lt at other =
        let bad : true ≡ false = sym (at x) ∙ other in
        cc
    rest (suc n) lt at other = (n, omega arith, at)

    go : (t : Bool) → bytes_eq x.0.now id ≡ t
        → (HasIn xs id → (a : MatchedArg) × (option_map (λ e. e.1) (find (λ e. bytes_eq e.0.now id) xs) ≡ Some a))
        → (a : MatchedArg) × (option_map (λ e. e.1) (find (λ e. bytes_eq e.0.now id) (x ∷ xs)) ≡ Some a)
    go true t later = (x.1, rw t refl)
    go false t later =
        let found = later (rest has.0 has.1 has.2 t) in
        (found.0, rw t found.1)

module _ (old : Command) (m : ArgMatches) (p : IsParsedFrom old m) (k : ℕ) (d : Arg) (lt : k < length (args_of old))
    (unique : (j : ℕ) (e : Arg) → j < length (args_of old) → bytes_eq (slice_index_or (args_of old) j e).id.now (slice_index_or (args_of old) k d).id.now ≡ true → j ≡ k)
    (own : IsAuto (slice_index_or (args_of old) k d) → ⊥) where
  value_passes : (q : ValueParser) (t : List ℕ) → (slice_index_or (args_of old) k d).value_parser ≡ Some q
      → PassesArg p.built (slice_index_or (args_of old) k d).id.now t → Accepts (slice_index_or (args_of old) k d).ignore_case q t
  value_passes q t parser pass =
      let s = same_rules_by_id old m p k d lt unique own pass.0 pass.1 pass.2 pass.3 pass.4.0 in
      let is_q : parser_of pass.1 ≡ q = ap parser_of_value (s.parser q parser) in
      let as_q : Accepts pass.1.ignore_case q t = subst (λ (w : ValueParser). Accepts pass.1.ignore_case w t) is_q pass.4.1 in
      subst (λ (b : Bool). Accepts b q t) s.ignore_case as_q

  value_read : (q : ValueParser) (r : Reading) → (slice_index_or (args_of old) k d).value_parser ≡ Some q
      → HasReading p.built (slice_index_or (args_of old) k d).id.now r → r ≡ reading_of q
  value_read q r parser any =
      let s = same_rules_by_id old m p k d lt unique own any.0 any.1 any.2 any.3 any.4.0 in
      let is_q : parser_of any.1 ≡ q = ap parser_of_value (s.parser q parser) in
      sym any.4.1 ∙ ap reading_of is_q

  entry_filled : (e : Entry) → groups_of p.built ≡ [] → ((slice_index_or (args_of old) k d).id.now ≡ [] → ⊥) → HasOneOrDefault (slice_index_or (args_of old) k d)
      → e.0.now ≡ (slice_index_or (args_of old) k d).id.now → EntryPasses p.built e → 0 < length e.1.vals.items
  entry_filled e no_groups named one key_id passes = elim passes.1 [
    | inl h ↦ elim h.1 [
      | inl empty ↦ absurd (named (sym key_id ∙ empty))
      | inr has ↦
          let bad : 0 < 0 = rw no_groups at has in
          absurd (omega arith)
    ]
    | inr (inl v) ↦ v
    | inr (inr (inl h)) ↦
        let any = h.1 in
        let s = same_rules_by_id old m p k d lt unique own any.0 any.1 any.2 any.3 (rw key_id at any.4.0) in
        let is_set : any.1.action ≡ Some Set = s.action Set one.1 in
        let bad : Set ≡ Count = rw is_set at any.4.1 in
        cc
    | inr (inr (inr h)) ↦
        let s = same_rules_by_id old m p k d lt unique own h.0 h.1 h.2 h.3 (rw key_id at h.4.0) in
        elim h.4.1 [
          | inl none ↦
              let least = s.least one.1 one.3 in
              absurd (omega arith)
          | inr has ↦
              let bad : false ≡ true = rw (s.val_delim, one.2) at has in
              cc
        ]
  ]

  -- the value read if the entry of the id has a first value
  head_reads : (q : ValueParser) (x : MatchedArg) (vs : List (Bor (List ℕ))) → x.vals.items ≡ vs → 0 < length vs
      → matched_of (found_of m) (slice_index_or (args_of old) k d).id.now ≡ Some x
      → (slice_index_or (args_of old) k d).value_parser ≡ Some q → x.reading ≡ reading_of q
      → All (λ v. PassesArg p.built (slice_index_or (args_of old) k d).id.now v.now) vs
      → Reads (found_of m) (slice_index_or (args_of old) k d).id.now (slice_index_or (args_of old) k d).ignore_case q
  head_reads q x [] is some found parser reading all = absurd (omega arith)
  head_reads q x (v ∷ vs) is some found parser reading all =
      let pass = All-get_or (λ x. PassesArg p.built (slice_index_or (args_of old) k d).id.now x.now) (v ∷ vs) 0 v (omega arith) all in
      (v.now, rw (found, is) refl, rw (found, is, reading) refl, value_passes q v.now parser pass)

  entry_reads : (q : ValueParser) (x : MatchedArg) (e : Entry) → groups_of p.built ≡ [] → ((slice_index_or (args_of old) k d).id.now ≡ [] → ⊥)
      → HasOneOrDefault (slice_index_or (args_of old) k d) → (slice_index_or (args_of old) k d).value_parser ≡ Some q
      → matched_of (found_of m) (slice_index_or (args_of old) k d).id.now ≡ Some x → e.1 ≡ x
      → e.0.now ≡ (slice_index_or (args_of old) k d).id.now → EntryPasses p.built e
      → Reads (found_of m) (slice_index_or (args_of old) k d).id.now (slice_index_or (args_of old) k d).ignore_case q
  entry_reads q x e no_groups named one parser found same key_id passes =
      let filled : 0 < length x.vals.items = rw same at (entry_filled e no_groups named one key_id passes) in
      let no_group : e.1.is_group ≡ true → ⊥ = λ g. elim (passes.3 g) [
        | inl empty ↦ named (sym key_id ∙ empty)
        | inr lots ↦
            let bad : 0 < 0 = rw no_groups at lots in
            absurd (omega arith)
      ] in
      let all : All (λ v. PassesArg p.built (slice_index_or (args_of old) k d).id.now v.now) x.vals.items = elim passes.0 [
        | inl g ↦ absurd (no_group g)
        | inr vals ↦ subst (λ (w : List ℕ). All (λ v. PassesArg p.built w v.now) x.vals.items) key_id (rw same at vals)
      ] in
      let read : e.1.reading ≡ reading_of q = elim passes.4 [
        | inl g ↦ absurd (no_group g)
        | inr h ↦ value_read q e.1.reading parser (subst (λ (w : List ℕ). HasReading p.built w e.1.reading) key_id h)
      ] in
      head_reads q x x.vals.items refl filled found parser (ap (λ (y : MatchedArg). y.reading) (sym same) ∙ read) all

  -- an argument with a default has a text that its parser accepts
  pub default_reads : (q : ValueParser) → IsPlain old → (out-Command old).has_globals ≡ false → ((slice_index_or (args_of old) k d).id.now ≡ [] → ⊥)
      → HasOneOrDefault (slice_index_or (args_of old) k d) → (slice_index_or (args_of old) k d).value_parser ≡ Some q
      → Reads (found_of m) (slice_index_or (args_of old) k d).id.now (slice_index_or (args_of old) k d).ignore_case q
  default_reads q plain globals named one parser =
      let id = (slice_index_or (args_of old) k d).id.now in
      let parsed = p.parsed (p.from.globals ∙ globals) in
      let found = found_in (found_of m).entries.items id (default_present old m p globals k d lt one.0) in
      let got = entry_by_id (EntryPasses p.built) (found_of m).entries.items id found.0 parsed.values found.1 in
      entry_reads q found.0 got.0 (p.from.plain plain).1 named one parser found.1 got.1 ((bytes_eq-Decides _ _).0 got.2) got.3

-- ---- a chain of arguments

all_rest : {X : Type 0} (P : X → Type 0) (x : X) (xs : List X) → All P (x ∷ xs) → All P xs
all_rest P x xs h = λ k d lt. h (suc k) d (omega arith)

chain_places : (x y : Arg) (xs ys : List Arg) → SameRules x y
    → ((k : ℕ) (e g : Arg) → k < length xs → SameRules (slice_index_or xs k e) (slice_index_or ys k g))
    → (k : ℕ) (e g : Arg) → k < length (x ∷ xs) → SameRules (slice_index_or (x ∷ xs) k e) (slice_index_or (y ∷ ys) k g)
chain_places x y xs ys r rest zero e g lt = r
chain_places x y xs ys r rest (suc n) e g lt = rest n e g (omega arith)

chain_facts : (c d : Command) (xs : List Arg) → AddsInTurn AddsArg c xs d → All FitsChain xs → IsPlain c → (out-Command c).has_globals ≡ false
    → (ys : List Arg) × (args_of d ≡ args_of c ++ ys) × KeepsList xs ys × IsPlain d × ((out-Command d).has_globals ≡ false)
chain_facts c d [] h all plain globals =
    ([], rw h (sym (append-nil _)), (refl, (λ k e f lt. absurd (omega arith))), rw (← h) plain, rw (← h) globals)
chain_facts c d (x ∷ xs) h all plain globals =
    let added = h.1 in
    let fit = all 0 x (omega arith) in
    let plain2 = added_plain c h.0 x added plain fit.0 in
    let globals2 = added.globals ∙ (ap (λ b. b || x.global) globals ∙ ap (λ b. false || b) fit.1) in
    let f = chain_facts h.0 d xs h.2 (all_rest FitsChain x xs all) plain2 globals2 in (
      added.arg ∷ f.0,
      f.1 ∙ (ap (λ l. l ++ f.0) added.args ∙ append_assoc (args_of c) (added.arg ∷ []) f.0),
      (ap suc f.2.0, chain_places x added.arg xs f.0 added.rules f.2.1),
      f.3,
      f.4,
    )

pub default_in_chain : (start cmd : Command) (xs : List Arg) (k : ℕ) (d : Arg) (m : ArgMatches) (q : ValueParser) → AddsInTurn AddsArg start xs cmd
    → args_of start ≡ [] → groups_of start ≡ [] → (out-Command start).has_globals ≡ false
    → All FitsChain xs → HasDistinctIds xs → k < length xs → HasOneOrDefault (slice_index_or xs k d)
    → (slice_index_or xs k d).value_parser ≡ Some q → IsParsedFrom cmd m
    → Reads (found_of m) (slice_index_or xs k d).id.now (slice_index_or xs k d).ignore_case q
default_in_chain start cmd xs k d m q chain args groups globals all distinct lt one parser p =
    let start-plain : IsPlain start = (subst (All IsPlainArg) (sym args) (All-nil IsPlainArg), groups) in
    let f = chain_facts start cmd xs chain all start-plain globals in
    let list : args_of cmd ≡ f.0 = f.1 ∙ ap (λ l. l ++ f.0) args in
    let a = slice_index_or xs k d in
    let b = slice_index_or (args_of cmd) k d in
    let elem : b ≡ slice_index_or f.0 k d = ap (λ l. slice_index_or l k d) list in
    let rules = f.2.1 k d d lt in
    let fit = all k d lt in
    let len : length (args_of cmd) ≡ length xs = ap length list ∙ f.2.0 in
    let in-cmd : k < length (args_of cmd) = omega arith in
    let same-id : b.id ≡ a.id = ap (λ x. x.id) elem ∙ rules.id in
    let same-now : b.id.now ≡ a.id.now = ap (λ x. x.now) same-id in
    let same-case : b.ignore_case ≡ a.ignore_case = ap (λ x. x.ignore_case) elem ∙ rules.ignore_case in
    let same-parser : b.value_parser ≡ Some q = ap (λ x. x.value_parser) elem ∙ rules.parser q parser in
    let is-set : b.action ≡ Some Set = ap (λ x. x.action) elem ∙ rules.action Set one.1 in
    let no-delim : b.val_delim ≡ None = ap (λ x. x.val_delim) elem ∙ (rules.val_delim ∙ one.2) in
    let some-value : 1 ≤ least_values b = subst (λ x. 1 ≤ least_values x) (sym elem) (rules.least one.1 one.3) in
    let ifs : b.default_vals_ifs.items ≡ [] = ap (λ x. x.default_vals_ifs.items) elem ∙ (rules.ifs ∙ one.0.0) in
    let defaults : items_of b.default_vals ≡ items_of a.default_vals = ap (λ x. items_of x.default_vals) elem ∙ rules.defaults one.0.1 in
    let some-default : 0 < length (items_of b.default_vals) = rw defaults one.0.1 in
    let only : (j : ℕ) (e : Arg) → j < length (args_of cmd) → bytes_eq (slice_index_or (args_of cmd) j e).id.now b.id.now ≡ true → j ≡ k =
    λ j e low same.
    let in-xs : j < length xs = omega arith in
    let there : (slice_index_or (args_of cmd) j e).id ≡ (slice_index_or xs j e).id =
    ap (λ x. x.id) (ap (λ l. slice_index_or l j e) list) ∙ (f.2.1 j e e in-xs).id in
    distinct j k d e in-xs lt (rw (← ap (λ x. x.now) there, ← same-now) same) in
    let reads : Reads (found_of m) b.id.now b.ignore_case q =
    default_reads cmd m p k d in-cmd only
    (λ auto. fit.3 (elim auto [ inl h ↦ inl (sym same-now ∙ h) | inr h ↦ inr (sym same-now ∙ h) ]))
    q f.3 f.4 (λ empty. fit.2 (sym same-now ∙ empty))
    ((ifs, some-default), is-set, no-delim, some-value) same-parser in
    let by-case : Reads (found_of m) b.id.now a.ignore_case q = subst (λ (c : Bool). Reads (found_of m) b.id.now c q) same-case reads in
    subst (λ (i : List ℕ). Reads (found_of m) i a.ignore_case q) same-now by-case
