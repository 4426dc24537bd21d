-- A row that answers no origin drops none, and a set that is joined with none stays.
use Rattle.std.proofs.Common.{◌≡◌, ℕ, zero, suc, not, List, [], ◌∷◌, length, get_or, set, map, refl, sym, ap, ap₂, ◌∙◌}
use Rattle.std.specs.Prelude.{filter}
use Rattle.std.proofs.lemmas.List.{set-get_or}
use Rattle.mcs_origins.specs.declared.mark.Mark.{Mark}
use Rattle.mcs_chain.specs.declared.sent.Sent.{Sent}
use Rattle.mcs_origins.specs.Sets.{is_one_of, join, without}
use Rattle.mcs_chain.specs.Origins.{Origins, ends, rest}

without-none : (marks : List Mark) → without [] marks ≡ marks
without-none [] = refl
without-none (mark ∷ marks) = ap (λ rest. mark ∷ rest) (without-none marks)

sets-none : (sets : List (List Mark)) → map (without []) sets ≡ sets
sets-none [] = refl
sets-none (marks ∷ sets) = ap (λ one. one ∷ map (without []) sets) (without-none marks) ∙ ap (λ rest. marks ∷ rest) (sets-none sets)

sent-none : (all : List Sent) → filter (λ sent. not (is_one_of [] sent.mark.origin)) all ≡ all
sent-none [] = refl
sent-none (sent ∷ all) = ap (λ rest. sent ∷ rest) (sent-none all)

origins-none : (all : List ℕ) → filter (λ origin. not (is_one_of [] origin)) all ≡ all
origins-none [] = refl
origins-none (origin ∷ all) = ap (λ rest. origin ∷ rest) (origins-none all)

pub sets-stay : (answered : List ℕ) (sets : List (List Mark)) → answered ≡ [] → sets ≡ map (without answered) sets
sets-stay answered sets e = sym (ap (λ a. map (without a) sets) e ∙ sets-none sets)

pub sent-stay : (answered : List ℕ) (all : List Sent) → answered ≡ [] → all ≡ filter (λ sent. not (is_one_of answered sent.mark.origin)) all
sent-stay answered all e = sym (ap (λ a. filter (λ (s : Sent). not (is_one_of a s.mark.origin)) all) e ∙ sent-none all)

pub origins-stay : (answered : List ℕ) (all : List ℕ) → answered ≡ [] → all ≡ filter (λ origin. not (is_one_of answered origin)) all
origins-stay answered all e = sym (ap (λ a. filter (λ (o : ℕ). not (is_one_of a o)) all) e ∙ origins-none all)

-- the end of a round that answers nothing
pub ends-nothing : (thread : ℕ) (answered : List ℕ) (o : Origins) → answered ≡ [] → record (rest o) { carried = set o.carried thread [] } ≡ ends thread answered o
ends-nothing thread answered o e =
    sym (ap (λ a. ends thread a o) e ∙ rw (sets-none o.held, sets-none (set o.carried thread []), sent-none o.under_way, origins-none o.unanswered) refl)

pub joins-none : (marks : List Mark) (sets : List (List Mark)) (i : ℕ) → marks ≡ [] → sets ≡ set sets i (join marks (get_or sets i []))
joins-none marks sets i e = sym (ap (λ m. set sets i (join m (get_or sets i []))) e ∙ set-get_or sets i [])

-- a set that is past the end, and one that is emptied before or after
set-past : {A : Type 0} (xs : List A) (x : A) → set xs (length xs) x ≡ xs
set-past [] x = refl
set-past (y ∷ xs) x = ap (λ rest. y ∷ rest) (set-past xs x)

pub emptied : (answered : List ℕ) (sets : List (List Mark)) (i : ℕ) → set (map (without answered) sets) i [] ≡ map (without answered) (set sets i [])
emptied answered [] i = refl
emptied answered (marks ∷ sets) zero = refl
emptied answered (marks ∷ sets) (suc i) = ap (λ rest. without answered marks ∷ rest) (emptied answered sets i)

pub untouched : (answered : List ℕ) (sets xs : List (List Mark)) (n : ℕ) → xs ≡ sets → n ≡ length sets → map (without answered) (set xs n []) ≡ set xs n [] → sets ≡ map (without answered) sets
untouched answered sets xs n same end e =
    let past = ap₂ (λ l k. set l k []) same end ∙ set-past sets [] in
    sym past ∙ sym e ∙ ap (map (without answered)) past
