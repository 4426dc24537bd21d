-- Runs of origins at other places.
use Rattle.std.proofs.Common.{◌≡◌, ℕ, zero, suc, ◌-◌, ◌*◌, true, false, not, cond, List, [], ◌∷◌, ◌++◌, map, refl, sym, ap, ap₂, ◌∙◌, append_assoc}
use Rattle.std.specs.Prelude.{◌==◌, bit_and}
use Rattle.std.proofs.lemmas.List.{map-append}
use Rattle.std.proofs.lemmas.List.Elements.{filter-append}
use Rattle.mcs_origins.specs.declared.mark.Mark.{Mark}
use Rattle.mcs_origins.specs.declared.taking.Taking.{Taking}
use Rattle.mcs_origins.specs.declared.taking.Taking.TheVariants.{First, Later}
use Rattle.mcs_origins.specs.declared.stretch.Stretch.{Stretch}
use Rattle.mcs_origins.specs.Sets.{at_places, given, is_at, keep_at, put_at, taken}
use Rattle.mcs_origins.specs.stored.Stretches.{run, all_of}
use Rattle.mcs_origins.proofs.Runs.{run-last}

at-all : (places l s p n : ℕ) → not (bit_and p places == 0) ≡ true → at_places places (run l s n p) ≡ run l s n p
at-all places l s p zero e = refl
at-all places l s p (suc n) e =
    let mark : Mark = record { origin = l; places = p } in
    let rest = at_places places (run (l - s) s n p) in
    ap (λ b. cond b (mark ∷ rest) rest) e ∙ ap (λ rest. mark ∷ rest) (at-all places (l - s) s p n e)

at-none : (places l s p n : ℕ) → not (bit_and p places == 0) ≡ false → at_places places (run l s n p) ≡ []
at-none places l s p zero e = refl
at-none places l s p (suc n) e =
    let mark : Mark = record { origin = l; places = p } in
    let rest = at_places places (run (l - s) s n p) in
    ap (λ b. cond b (mark ∷ rest) rest) e ∙ at-none places (l - s) s p n e

put-run : (q l s p n : ℕ) → map (put_at q) (run l s n p) ≡ run l s n q
put-run q l s p zero = refl
put-run q l s p (suc n) = ap (λ rest. record { origin = l; places = q } ∷ rest) (put-run q (l - s) s p n)

keep-run : (bits l s p n : ℕ) → map (keep_at bits) (run l s n p) ≡ run l s n (bit_and p bits)
keep-run bits l s p zero = refl
keep-run bits l s p (suc n) = ap (λ rest. record { origin = l; places = bit_and p bits } ∷ rest) (keep-run bits (l - s) s p n)

module _ (stretch : Stretch) where
  pub stretch-at : (places : ℕ) → not (bit_and stretch.places places == 0) ≡ true → at_places places (all_of stretch) ≡ all_of stretch
  stretch-at places e = at-all places stretch.last stretch.step stretch.places (suc stretch.more) e

  pub stretch-not-at : (places : ℕ) → not (bit_and stretch.places places == 0) ≡ false → at_places places (all_of stretch) ≡ []
  stretch-not-at places e = at-none places stretch.last stretch.step stretch.places (suc stretch.more) e

  pub all-put : (q : ℕ) → map (put_at q) (all_of stretch) ≡ all_of (record stretch { places = q })
  all-put q = put-run q stretch.last stretch.step stretch.places (suc stretch.more)

  pub all-given : (places badge : ℕ) → not (bit_and stretch.places places == 0) ≡ true → given places badge (all_of stretch) ≡ all_of (record stretch { places = badge })
  all-given places badge e = ap (map (put_at badge)) (stretch-at places e) ∙ all-put badge

  pub none-given : (places badge : ℕ) → not (bit_and stretch.places places == 0) ≡ false → given places badge (all_of stretch) ≡ []
  none-given places badge e = ap (map (put_at badge)) (stretch-not-at places e)

  pub all-kept : (bits : ℕ) → not (bit_and stretch.places bits == 0) ≡ true → taken (First bits) (all_of stretch) ≡ all_of (record stretch { places = bit_and stretch.places bits })
  all-kept bits e = ap (map (keep_at bits)) (stretch-at bits e) ∙ keep-run bits stretch.last stretch.step stretch.places (suc stretch.more)

  pub none-kept : (bits : ℕ) → not (bit_and stretch.places bits == 0) ≡ false → taken (First bits) (all_of stretch) ≡ []
  none-kept bits e = ap (map (keep_at bits)) (stretch-not-at bits e)

pub given-append : (places badge : ℕ) (a b : List Mark) → given places badge (a ++ b) ≡ given places badge a ++ given places badge b
given-append places badge a b = ap (map (put_at badge)) (filter-append (is_at places) a b) ∙ map-append (put_at badge) (at_places places a) (at_places places b)

pub taken-append : (taking : Taking) (a b : List Mark) → taken taking (a ++ b) ≡ taken taking a ++ taken taking b
taken-append (First bits) a b = ap (map (keep_at bits)) (filter-append (is_at bits) a b) ∙ map-append (keep_at bits) (at_places bits a) (at_places bits b)
taken-append (Later places) a b = map-append (put_at places) a b

-- the origins of two sets at these places
pub origins-append : (places : ℕ) (a b : List Mark) →
    map (λ mark. mark.origin) (at_places places (a ++ b)) ≡ map (λ mark. mark.origin) (at_places places a) ++ map (λ mark. mark.origin) (at_places places b)
origins-append places a b =
    ap (map (λ (mark : Mark). mark.origin)) (filter-append (is_at places) a b) ∙ map-append (λ (mark : Mark). mark.origin) (at_places places a) (at_places places b)

-- one origin of a run more
pub run-push : {B : Type 0} (f : Mark → B) (old now later : List B) (l s p n m : ℕ) (mark : Mark) → now ≡ old ++ map f (run l s n p) → later ≡ now ++ f mark ∷ []
    → mark ≡ record { origin = l - s * n; places = p } → m ≡ suc n → later ≡ old ++ map f (run l s m p)
run-push f old now later l s p n m mark before e is more =
    let last : Mark = record { origin = l - s * n; places = p } in
    e ∙ ap₂ (λ all x. all ++ f x ∷ []) before is ∙ append_assoc old (map f (run l s n p)) (f last ∷ [])
    ∙ ap (λ all. old ++ all) (sym (ap (map f) (run-last l s p n) ∙ map-append f (run l s n p) (last ∷ []))) ∙ ap (λ k. old ++ map f (run l s k p)) (sym more)
