-- Which words leave something to do to each thread, by what is kept of them.
use Rattle.std.proofs.Common.{◌≡◌, ℕ, suc, Bool, true, false, ◌==◌, ◌&&◌, ◌||◌, not, List, [], ◌∷◌, Some, refl, sym, ap, ◌∙◌, arith}
use Rattle.std.specs.List.{list_all}
use Rattle.mcs_ticks.specs.declared.row.Row.{Row}
use Rattle.mcs_system.specs.declared.part.ThreadPart.{ThreadPart}
use Rattle.mcs_verdict.specs.declared.account.Account.{Account}
use Rattle.mcs_verdict.specs.declared.held.Held.{Held}
use Rattle.mcs_verdict.specs.Calls.{calls}
use Rattle.mcs_verdict.specs.Takers.{waits_for}
use Rattle.mcs_verdict.specs.Due.{calls_each}
use Rattle.mcs_verdict.specs.Watch.{accounts_of}

-- whether the word leaves something to do to the thread, if it waits first for the notification
abbrev pub called : ℕ → ℕ → Account → Bool
called note word account = not (waits_for note account.waits) || calls account.bits word

pub all_called : (firsts : List Held) (n note word : ℕ) (parts : List ThreadPart) (past : List Row)
    → list_all (called note word) (accounts_of firsts n parts past) ≡ calls_each note word parts
all_called firsts n note word [] past = refl
all_called firsts n note word (part ∷ parts) past = grind (arith, all_called firsts (suc n) note word parts past)

-- a thread that it leaves nothing to do
pub not_called : (note word first : ℕ) (account : Account) → account.waits ≡ Some first → (first == note) ≡ true → calls account.bits word ≡ false
    → called note word account ≡ false
not_called note word first account w e none = grind (arith, w, e, none)

-- at the first such thread, and behind the last thread
pub calls_one_not : (firsts : List Held) (note word : ℕ) (parts : List ThreadPart) (past : List Row) (accounts rest more : List Account) (account : Account)
    → accounts ≡ accounts_of firsts 0 parts past → rest ≡ account ∷ more → called note word account ≡ false
    → list_all (called note word) rest ≡ list_all (called note word) accounts → false ≡ calls_each note word parts
calls_one_not firsts note word parts past accounts rest more account e r none so =
    sym (ap (λ a. a && list_all (called note word) more) none) ∙ sym (ap (list_all (called note word)) r) ∙ so
    ∙ ap (list_all (called note word)) e ∙ all_called firsts 0 note word parts past

pub calls_all : (firsts : List Held) (note word : ℕ) (parts : List ThreadPart) (past : List Row) (accounts rest : List Account)
    → accounts ≡ accounts_of firsts 0 parts past → rest ≡ [] → list_all (called note word) rest ≡ list_all (called note word) accounts → true ≡ calls_each note word parts
calls_all firsts note word parts past accounts rest e r so =
    sym (ap (list_all (called note word)) r) ∙ so ∙ ap (list_all (called note word)) e ∙ all_called firsts 0 note word parts past
