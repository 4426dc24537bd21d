use Rattle.std.proofs.Common.{rules, ◌≡◌, ◌∙◌, Bool, true, false, cond, ◌||◌, List, [], ◌∷◌, map, refl, sym, ap}
use Rattle.std.specs.List.{list_any}
use Rattle.mcs_script.specs.declared.item.Item.TheVariants.{Spin}
use Rattle.mcs_system.specs.declared.part.ThreadPart.{ThreadPart}
use Rattle.mcs_spin.specs.Spun.{only_computes, spun_part}
use Rattle.mcs_spin.proofs.spun.spin.Goals as goal

-- if no thread only computes, none becomes another one
none-spun : (threads : List ThreadPart) → list_any only_computes threads ≡ false → map spun_part threads ≡ threads
none-spun [] e = refl
none-spun (part ∷ threads) e = by (only_computes part) refl (λ none. none-spun threads none) e
  where
    by : (b : Bool) → only_computes part ≡ b → (list_any only_computes threads ≡ false → map spun_part threads ≡ threads) →
        (b || list_any only_computes threads) ≡ false → map spun_part (part ∷ threads) ≡ part ∷ threads
    by true is rest e = cc
    by false is rest e =
        ap (λ (p : ThreadPart). p ∷ map spun_part threads) (ap (λ b. cond b (record part { script = Spin ∷ [] }) part) is)
        ∙ ap (λ (others : List ThreadPart). part ∷ others) (rest e)

pub returns-then-not-any_computes : goal.returns-then-not-any_computes
returns-then-not-any_computes c =
    let system = c.args.system in
    let threads_are : c.as_slice.result.now ≡ system.threads = search rules in
    let none = ap (list_any only_computes) (sym threads_are) ∙ sym c.if-not-any_computes.ensures in
    ap (λ (threads : List ThreadPart). record system { threads = threads }) (sym (none-spun system.threads none))
