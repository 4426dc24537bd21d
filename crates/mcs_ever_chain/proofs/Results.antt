-- The looks and the results, after one more.
use Rattle.std.proofs.Common.{◌≡◌, ◌≢◌, ℕ, ◌+◌, ◌<◌, ◌≤◌, ◌⊎◌, inl, inr, List, [], ◌∷◌, ◌++◌, length, get_or, set, replicate, Option, None, refl, sym, subst, ◌∙◌, arith}
use Rattle.std.specs.Prelude.{IfSome}
use Rattle.std.proofs.lemmas.Bool.{cases_lt}
use Rattle.std.proofs.lemmas.List.{get_or-set_other, get_or-replicate, length-set, length-replicate}
use Rattle.std.proofs.Math.ListN.{get_or-eq_default}
use Rattle.mcs_system.specs.System.{System}
use Rattle.mcs_ever_told.proofs.Places.{pushed, written}
use Rattle.mcs_ever_chain.specs.declared.look.Look.{Look}
use Rattle.mcs_ever_chain.specs.declared.told.ChainTold.{ChainTold}
use Rattle.mcs_ever_chain.specs.stored.Looks.{AreLooks, AreLooksTo, AreResults, IsLook, IsResult}

module _ (system : System) where
  pub looks-pushed : (t s : ℕ) (looks : List Look) (look : Look) → AreLooks system t s looks → IsLook system t s look → AreLooks system t s (looks ++ look ∷ [])
  looks-pushed t s looks look are is i d l =
      pushed (λ k x. IsLook system t s x) d looks (length looks) look refl (λ k less. are k d less) is i (omega (arith, l, length_more looks look))
    where
      length_more : (xs : List Look) (x : Look) → length (xs ++ x ∷ []) ≡ length xs + 1
      length_more [] x = refl
      length_more (y ∷ xs) x = let e = length_more xs x in omega (arith, e)

  -- one more
  pub looks-set : (t s u v n : ℕ) (looks : List Look) (look : Look) → n < length looks → AreLooksTo system t s u v looks n → IsLook system u v look →
      AreLooksTo system t s u v (set looks n look) (n + 1)
  looks-set t s u v n looks look known are is i d l = (first, later)
    where
      within : i < length looks
      within = let e = length-set looks n look in omega (arith, l, e)

      first : i < n + 1 → IsLook system u v (get_or (set looks n look) i d)
      first less =
          written (λ k x. IsLook system u v x) d looks n look known i (λ other. (are i d within).0 (omega (arith, less, other))) is

      later : n + 1 ≤ i → IsLook system t s (get_or (set looks n look) i d)
      later more =
          let other : i ≢ n = omega (arith, more) in
          let P : Look → Type 0 = λ (x : Look). IsLook system t s x in
          subst P (sym (get_or-set_other looks n i look d other)) ((are i d within).1 (omega (arith, more)))

  pub results-none : (horizon many : ℕ) → many ≡ length system.chains → AreResults system horizon (replicate many None)
  results-none horizon many e =
      record { many = length-replicate many None ∙ e; each = λ n. by n (cases_lt n many) }
    where
      by : (n : ℕ) → (n < many) ⊎ (many ≤ n) → IfSome (get_or (replicate many None) n None) (IsResult system horizon n)
      by n (inl less) =
          let P : Option ChainTold → Type 0 = λ (o : Option ChainTold). IfSome o (IsResult system horizon n) in
          subst P (sym (get_or-replicate many n None None less)) tt
      by n (inr more) =
          let P : Option ChainTold → Type 0 = λ (o : Option ChainTold). IfSome o (IsResult system horizon n) in
          let none : Option ChainTold = None in
          let long : length (replicate many none) ≤ n = (let e = length-replicate many none in omega (arith, e, more)) in
          subst P (sym (get_or-eq_default (replicate many none) none long)) tt

  pub results-set : (horizon n : ℕ) (told : List (Option ChainTold)) (found : Option ChainTold) → n < length told → IfSome found (IsResult system horizon n) →
      AreResults system horizon told → AreResults system horizon (set told n found)
  results-set horizon n told found known is are =
      record {
        many = length-set told n found ∙ are.many;
        each = λ k. written (λ k o. IfSome o (IsResult system horizon k)) None told n found known k (λ other. are.each k) is;
      }
