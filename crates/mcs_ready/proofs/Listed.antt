-- The threads of a line are appended, one after another.
use Rattle.std.proofs.Common.{◌≡◌, ◌≢◌, ℕ, zero, suc, ◌+◌, ◌-◌, ◌<◌, ◌≤◌, ◌==◌, if◌then◌else◌, List, [], ◌∷◌, ◌++◌, length, get_or, drop, refl, sym, ap, ◌∙◌, inl, inr, arith, drop-cons}
use Rattle.std.proofs.lemmas.Bool.{cases_eq, eq-eqb, ne_eqb}
use Rattle.std.proofs.lemmas.List.{append_assoc, get_or-map, length-append, length-map, length_push}
use Rattle.mcs_ticks.specs.declared.queue.Queued.{Queued}
use Rattle.mcs_ready.specs.stored.Lines.{line_to, threads_of, all_threads, queued_at, queue_from, times}
use Rattle.mcs_ready.specs.Ready.{queued}
use Rattle.mcs_ready.proofs.Times.{times-cons_same}

-- after i of the threads of a line: the listed threads and those from x on are all of them, and
-- each has a place
pub record IsListing (start items : List Queued) (next : List ℕ) (priority last x i : ℕ) : Type 0 where
  pub rest : items ++ queued_at priority (line_to next last (suc (length next) - i) x) ≡ start ++ queued_at priority (threads_of next last)
  pub listed : length items ≡ length start + i
  pub within : (y : ℕ) → 0 < times y (line_to next last (suc (length next) - i) x) → y < length next

module _ (start items : List Queued) (next : List ℕ) (priority last x i : ℕ) (listing : IsListing start items next priority last x i) where
  module _ (more : i < length next) where
    split : line_to next last (suc (length next) - i) x ≡ x ∷ (if x == last then [] else line_to next last (suc (length next) - (i + 1)) (get_or next x 0))
    split =
        let e : suc (length next) - i ≡ suc (suc (length next) - (i + 1)) = omega arith in
        rw e refl

    -- the next thread has a place
    pub listed-below : x < length next
    listed-below =
        let stands : 0 < times x (line_to next last (suc (length next) - i) x) =
        rw split (omega (arith, times-cons_same x (if x == last then [] else line_to next last (suc (length next) - (i + 1)) (get_or next x 0))))
        in
        listing.within x stands

    -- it is the last
    pub listed-last : x ≡ last → items ++ queued x priority ∷ [] ≡ start ++ queued_at priority (threads_of next last)
    listed-last e =
        let only : line_to next last (suc (length next) - i) x ≡ x ∷ [] = split ∙ rw (eq-eqb x last e) refl in
        ap (λ (xs : List ℕ). items ++ queued_at priority xs) (sym only) ∙ listing.rest

    -- it is listed, and is not the last
    pub IsListing-next : x ≢ last → (x' : ℕ) → x' ≡ get_or next x 0 → IsListing start (items ++ queued x priority ∷ []) next priority last x' (i + 1)
    IsListing-next ne x' behind =
        let threads = line_to next last (suc (length next) - (i + 1)) (get_or next x 0) in
        let on : line_to next last (suc (length next) - i) x ≡ x ∷ threads = split ∙ rw (ne_eqb x last ne) refl in
        rw behind (record {
          rest = append_assoc items (queued x priority ∷ []) (queued_at priority threads)
              ∙ ap (λ (xs : List ℕ). items ++ queued_at priority xs) (sym on) ∙ listing.rest;
          listed = omega (arith, length_push items (queued x priority), listing.listed);
          within = λ y some.
              let stands : 0 < times y (line_to next last (suc (length next) - i) x) = rw on (omega (arith, some)) in
              listing.within y stands;
        })

  -- the last was found, since there are no more threads than places
  pub last-found : length (threads_of next last) ≤ length next → length next ≤ i → ⊥
  last-found few all =
      let here = line_to next last (suc (length next) - i) x in
      let total : length items + length here ≡ length start + length (threads_of next last) =
      omega (
        arith,
        length-append items (queued_at priority here),
        length-append start (queued_at priority (threads_of next last)),
        length-map here (λ (thread : ℕ). queued thread priority),
        length-map (threads_of next last) (λ (thread : ℕ). queued thread priority),
        ap (λ (queue : List Queued). length queue) listing.rest,
      )
      in
      elim (cases_eq i (length next)) [
        | inl e ↦
            let one : suc (length next) - i ≡ suc zero = omega arith in
            let some : 0 < length here = rw one (omega arith) in
            absurd (omega (arith, total, some, listing.listed))
        | inr ne ↦ absurd (omega (arith, total, listing.listed))
      ]

-- at the start
pub IsListing-none : (start : List Queued) (next : List ℕ) (priority last x : ℕ) → threads_of next last ≡ line_to next last (suc (length next)) x →
    ((y : ℕ) → 0 < times y (threads_of next last) → y < length next) → IsListing start start next priority last x 0
IsListing-none start next priority last x line within =
    let all : suc (length next) - 0 ≡ suc (length next) = omega arith in
    record {
      rest = rw all (ap (λ (xs : List ℕ). start ++ queued_at priority xs) (sym line));
      listed = omega arith;
      within = rw all (rw line at within);
    }

-- a line among all
module _ (next lasts : List ℕ) (p last : ℕ) (below : p < length lasts) (read : last ≡ get_or lasts p last) where
  -- the threads of the lines from this one on: those of greater priority, and then its own
  pub queue-line : queue_from p (drop p (all_threads next lasts)) ≡ queue_from (suc p) (drop (suc p) (all_threads next lasts)) ++ queued_at p (threads_of next last)
  queue-line =
      let all = all_threads next lasts in
      let among : p < length all = omega (arith, below, length-map lasts (threads_of next)) in
      let line : get_or all p [] ≡ threads_of next last = get_or-map (threads_of next) lasts p last [] below ∙ ap (threads_of next) (sym read) in
      ap (queue_from p) (drop-cons all p [] among)
      ∙ ap (λ (xs : List ℕ). queue_from (suc p) (drop (suc p) all) ++ queued_at p xs) line
