-- Once a pass changes no word, further passes change none.
use Rattle.std.proofs.Common.{◌≡◌, ℕ, zero, suc, ◌+◌, ◌≤◌, ◌-◌, List, add-one, sym, ap, ◌∙◌, arith}
use Rattle.mcs_system.specs.declared.part.SourcePart.{SourcePart}
use Rattle.mcs_system.specs.System.{System}
use Rattle.mcs_hints.specs.Chains.{carried_on, words_after}

-- so many passes more
later : (system : System) (source : SourcePart) (n : ℕ) → carried_on system (words_after system source n) ≡ words_after system source n
    → (more : ℕ) → words_after system source (more + n) ≡ words_after system source n
later system source n still zero = ap (words_after system source) (let e : 0 + n ≡ n = omega arith in e)
later system source n still (suc more) =
    let e : suc more + n ≡ suc (more + n) = omega arith in
    ap (words_after system source) e ∙ ap (carried_on system) (later system source n still more) ∙ still

pub settled : (system : System) (source : SourcePart) (n all : ℕ) (words : List ℕ) → n ≤ all → words ≡ words_after system source n
    → carried_on system words ≡ words
    → words ≡ words_after system source all
settled system source n all words before is still =
    let e : all ≡ (all - n) + n = omega arith in
    is ∙ sym (later system source n (sym (ap (carried_on system) is) ∙ still ∙ is) (all - n)) ∙ sym (ap (words_after system source) e)
