-- What is left of stretches, and the next origins of two sets that are joined.
use Rattle.std.proofs.Common.{◌≡◌, ℕ, zero, suc, ◌+◌, ◌-◌, ◌*◌, ◌<◌, ◌≤◌, ◌⊎◌, inl, inr, List, [], ◌∷◌, ◌++◌, length, take, get_or, sym, ap, ap₂, ◌∙◌, arith, append-nil}
use Rattle.std.specs.Prelude.{bit_or}
use Rattle.std.proofs.Math.Seq.{take-suc}
use Rattle.std.proofs.lemmas.List.{length-append}
use Rattle.mcs_origins.specs.declared.mark.Mark.{Mark}
use Rattle.mcs_origins.specs.declared.stretch.Stretch.{Stretch}
use Rattle.mcs_origins.specs.declared.rests.Rest.{Rest}
use Rattle.mcs_origins.specs.Sets.{join}
use Rattle.mcs_origins.specs.stored.Stretches.{run, all_of, flat, left}
use Rattle.mcs_origins.proofs.Joins.{join-both-run, join-none, join-others-run, join-set-run}
use Rattle.mcs_origins.proofs.Lists.{last-is}
use Rattle.mcs_origins.proofs.Runs.{flat-last, length-run, same-run}

left-none : (xs : List Stretch) (many : ℕ) (top : Stretch) → many ≡ 0 → left xs (record { many = many; top = top }) ≡ []
left-none xs many top e = ap (λ n. left xs (record { many = n; top = top })) e

-- the whole top is taken
pub below-whole : (xs : List Stretch) (many more : ℕ) (top x : Stretch) → 1 < many → many ≤ length xs → more ≡ top.more → x ≡ get_or xs (many - 2) x →
    left xs (record { many = many; top = top }) ≡ all_of (record top { more = more }) ++ left xs (record { many = many - 1; top = x })
below-whole xs zero more top x h within whole is = absurd (omega arith)
below-whole xs (suc zero) more top x h within whole is = absurd (omega arith)
below-whole xs (suc (suc k)) more top x h within whole is =
    let one : suc k ≡ suc (suc k) - 1 = omega arith in
    let two : suc (suc k) - 2 ≡ k = omega arith in
    let there : k < length xs = omega arith in
    let same : get_or xs k x ≡ x = sym (is ∙ ap (λ i. get_or xs i x) two) in
    ap (λ l. all_of top ++ flat l) (take-suc xs k x there)
    ∙ ap (λ l. all_of top ++ l) (flat-last (take k xs) (get_or xs k x))
    ∙ ap (λ y. all_of top ++ (all_of y ++ flat (take k xs))) same
    ∙ ap (λ n. all_of top ++ left xs (record { many = n; top = x })) one
    ∙ ap (λ m. all_of (record top { more = m }) ++ left xs (record { many = suc (suc k) - 1; top = x })) (sym whole)

pub fewer : (xs rest : List Mark) (l s p n : ℕ) → xs ≡ run l s (suc n) p ++ rest → length rest < length xs
fewer xs rest l s p n e = omega (arith, ap length e, length-append (run l s (suc n) p) rest, length-run l s p (suc n))

run-over-rest : (l s p more : ℕ) (set : List Mark) (xs : List Stretch) (many : ℕ) (top : Stretch) → top.last < l - s * more →
    join (run l s (suc more) p ++ set) (left xs (record { many = many; top = top })) ≡ run l s (suc more) p ++ join set (left xs (record { many = many; top = top }))
run-over-rest l s p more set xs zero top h = join-none (run l s (suc more) p ++ set) ∙ ap (λ rest. run l s (suc more) p ++ rest) (sym (join-none set))
run-over-rest l s p more set xs (suc many) top h =
    join-set-run l s p more set (record { origin = top.last; places = top.places }) (run (top.last - top.step) top.step top.more top.places ++ flat (take many xs)) h

rest-over-run : (l s p more : ℕ) (others : List Mark) (xs : List Stretch) (many : ℕ) (top : Stretch) → 0 < many → top.last < l - s * more →
    join (left xs (record { many = many; top = top })) (run l s (suc more) p ++ others) ≡ run l s (suc more) p ++ join (left xs (record { many = many; top = top })) others
rest-over-run l s p more others xs zero top some h = absurd (omega arith)
rest-over-run l s p more others xs (suc many) top some h =
    join-others-run l s p more (record { origin = top.last; places = top.places }) (run (top.last - top.step) top.step top.more top.places ++ flat (take many xs)) others h

module _ (set others : List Stretch) (a b : Rest) (more : ℕ) where
  pub set-first : (a' : Rest) → left set a ≡ all_of (record a.top { more = more }) ++ left set a' → (b.many ≡ 0) ⊎ (b.top.last < a.top.last - a.top.step * more) →
      join (left set a) (left others b) ≡ all_of (record a.top { more = more }) ++ join (left set a') (left others b)
  set-first a' e (inl none) =
      let nothing = left-none others b.many b.top none in
      let top = all_of (record a.top { more = more }) in
      ap₂ join e nothing ∙ join-none (top ++ left set a') ∙ ap (λ rest. top ++ rest) (sym (ap (join (left set a')) nothing ∙ join-none (left set a')))
  set-first a' e (inr h) =
      ap (λ l. join l (left others b)) e ∙ run-over-rest a.top.last a.top.step a.top.places more (left set a') others b.many b.top h

  pub others-first : (b' : Rest) → left others b ≡ all_of (record b.top { more = more }) ++ left others b' → 0 < a.many → a.top.last < b.top.last - b.top.step * more →
      join (left set a) (left others b) ≡ all_of (record b.top { more = more }) ++ join (left set a) (left others b')
  others-first b' e some h =
      ap (join (left set a)) e ∙ rest-over-run b.top.last b.top.step b.top.places more (left others b') set a.many a.top some h

  pub both-first : (a' b' : Rest) → left set a ≡ all_of (record a.top { more = more }) ++ left set a' → left others b ≡ all_of (record b.top { more = more }) ++ left others b' →
      a.top.last ≡ b.top.last → (more ≡ 0) ⊎ (b.top.step ≡ a.top.step) →
      join (left set a) (left others b) ≡ run a.top.last a.top.step (suc more) (bit_or a.top.places b.top.places) ++ join (left set a') (left others b')
  both-first a' b' ea eb last step =
      let theirs = ap (λ l. run l b.top.step (suc more) b.top.places) (sym last) ∙ same-run a.top.last b.top.step a.top.step b.top.places more step in
      ap₂ join ea (eb ∙ ap (λ top. top ++ left others b') theirs)
      ∙ join-both-run a.top.last a.top.step a.top.places b.top.places (suc more) (left set a') (left others b')

-- a stretch is later than all others, and two stretches of the same origins
pub join-over : (a : Stretch) (b : Mark) (others : List Mark) → b.origin < a.last - a.step * a.more → join (all_of a) (b ∷ others) ≡ all_of a ++ b ∷ others
join-over a b others h = ap (λ l. join l (b ∷ others)) (sym (append-nil (all_of a))) ∙ join-set-run a.last a.step a.places a.more [] b others h

pub join-after : (a x : Stretch) (xs : List Stretch) (n : ℕ) → length xs ≡ n + 1 → x ≡ get_or xs n x → x.last < a.last - a.step * a.more →
    join (all_of a) (flat xs) ≡ all_of a ++ flat xs
join-after a x xs n many is h =
    let others = ap flat (last-is xs n x many is) ∙ flat-last (take n xs) x in
    ap (join (all_of a)) others
    ∙ join-over a (record { origin = x.last; places = x.places }) (run (x.last - x.step) x.step x.more x.places ++ flat (take n xs)) h
    ∙ ap (λ l. all_of a ++ l) (sym others)

pub join-alike : (a b : Stretch) → a.last ≡ b.last → a.more ≡ b.more → (a.more ≡ 0) ⊎ (a.step ≡ b.step) →
    all_of (record a { places = bit_or a.places b.places }) ≡ join (all_of a) (all_of b)
join-alike a b last more step =
    let mine = run a.last a.step (suc a.more) a.places in
    let theirs : all_of b ≡ run a.last a.step (suc a.more) b.places =
    sym (ap (λ l. run l b.step (suc b.more) b.places) last) ∙ sym (ap (λ n. run a.last b.step (suc n) b.places) more) ∙ sym (same-run a.last a.step b.step b.places a.more step) in
    let whole = run a.last a.step (suc a.more) (bit_or a.places b.places) in
    sym (append-nil whole)
    ∙ sym (join-both-run a.last a.step a.places b.places (suc a.more) [] [])
    ∙ ap₂ join (append-nil mine) (append-nil (run a.last a.step (suc a.more) b.places) ∙ sym theirs)
