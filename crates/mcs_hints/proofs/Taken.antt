-- The badges that are taken from notifications after one item more.
use Rattle.std.proofs.Common.{◌≡◌, ◌≢◌, ℕ, ◌+◌, ◌<◌, ◌≤◌, List, length, get_or, set, take, map, fold, bit_or, if◌then◌else◌, refl, sym, ap, ◌∙◌}
use Rattle.std.proofs.lemmas.Bool.{ne_eqb, eq-eqb}
use Rattle.std.proofs.lemmas.List.{set_past}
use Rattle.std.proofs.lemmas.List.Sums.{fold_more}
use Rattle.mcs_script.specs.declared.item.Item.{Item}
use Rattle.mcs_script.specs.declared.item.Item.TheVariants.{Wait}
use Rattle.mcs_system.specs.declared.part.ThreadPart.{ThreadPart}
use Rattle.mcs_hints.specs.Numbers.{numbers}
use Rattle.mcs_hints.specs.Handlers.{with_item, with_script, taken_from}
use Rattle.mcs_hints.proofs.Numbers.{set_number, at_number}

module _ (so_far : ℕ → ℕ) (note notes badges : ℕ) (taken : List ℕ) (is : taken ≡ map so_far (numbers notes)) where
  there : note < notes → bit_or (get_or taken note 0) badges ≡ with_item note badges (so_far note) (Wait note)
  there known =
      ap (λ n. bit_or n badges) (ap (λ taken. get_or taken note 0) is ∙ at_number so_far notes note 0 known)
      ∙ sym (ap (λ b. if b then bit_or (so_far note) badges else so_far note) (eq-eqb note note refl))

  elsewhere : (k : ℕ) → k ≢ note → so_far k ≡ with_item k badges (so_far k) (Wait note)
  elsewhere k differ = sym (ap (λ b. if b then bit_or (so_far k) badges else so_far k) (ne_eqb note k (λ e. differ (sym e))))

  -- a wait on this notification
  pub with_wait : set taken note (bit_or (get_or taken note 0) badges) ≡ map (λ k. with_item k badges (so_far k) (Wait note)) (numbers notes)
  with_wait =
      ap (λ taken'. set taken' note (bit_or (get_or taken note 0) badges)) is
      ∙ set_number so_far (λ k. with_item k badges (so_far k) (Wait note)) notes note (bit_or (get_or taken note 0) badges) there elsewhere

  -- a notification that the system does not have
  pub without_wait : length taken ≤ note → taken ≡ map (λ k. with_item k badges (so_far k) (Wait note)) (numbers notes)
  without_wait past = sym (set_past taken note (bit_or (get_or taken note 0) badges) past) ∙ with_wait

-- an item more
pub item_more : (note badges start : ℕ) (items : List Item) (n : ℕ) (item : Item) → n < length items → item ≡ get_or items n item
    → with_item note badges (fold (with_item note badges) start (take n items)) item ≡ fold (with_item note badges) start (take (n + 1) items)
item_more note badges start items n item known is =
    ap (with_item note badges (fold (with_item note badges) start (take n items))) is ∙ sym (fold_more (with_item note badges) start items n item known)

-- a thread more
pub thread_more : (note : ℕ) (threads : List ThreadPart) (n : ℕ) (thread : ThreadPart) → n < length threads → thread ≡ get_or threads n thread
    → with_script note (taken_from (take n threads) note) thread.script ≡ taken_from (take (n + 1) threads) note
thread_more note threads n thread known is =
    ap (λ (thread : ThreadPart). with_script note (taken_from (take n threads) note) thread.script) is
    ∙ sym (fold_more (λ so_far (thread : ThreadPart). with_script note so_far thread.script) 0 threads n thread known)
