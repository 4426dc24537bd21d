-- Start and end of each time's lines.
use Rattle.std.proofs.Common.{◌≡◌, ℕ, ◌+◌, ◌-◌, ◌<◌, ◌≤◌, Bool, true, false, List, [], ◌∷◌, ◌++◌, length, take, drop, get_or, refl, sym, ap, subst, ◌∙◌, length-append, append_assoc, arith, take-take}
use Rattle.std.specs.Prelude.{Option, Some, None, if◌then◌else◌}
use Rattle.std.specs.List.{last_or}
use Rattle.std.proofs.lemmas.List.{get_or_append_left, get_or_default, get_or_past, drop-take, length-take, length-take-le}
use Rattle.std.proofs.Math.Seq.{get_or-append_seam}
use Rattle.std.proofs.lemmas.Bool.{eqb-true}
use Rattle.mcs_text.specs.declared.mark.Mark.{Mark}
use Rattle.mcs_system.specs.System.{System}
use Rattle.mcs_text.specs.Lines.{is_of, marked, start_of, end_of, text_at}
use Rattle.mcs_text.specs.stored.Lines.{IsReached, AreInOrder, AreKept}

-- a part of the text is a part of the bytes in which it is kept
pub same_part : (bytes : List ℕ) (used start end : ℕ) → start ≤ end → end ≤ used →
    take (end - start) (drop start (take used bytes)) ≡ take (end - start) (drop start bytes)
same_part bytes used start end a b =
    let m : start + (used - start) ≡ used = omega arith in
    ap (λ n. take (end - start) (drop start (take n bytes))) (sym m)
    ∙ ap (λ xs. take (end - start) xs) (drop-take start (used - start) bytes)
    ∙ take-take (end - start) (used - start) (drop start bytes) (omega arith)

pub last-append : (o : Option Mark) (marks : List Mark) (mark : Mark) → last_or o (marks ++ mark ∷ []) ≡ Some mark
last-append o [] mark = refl
last-append o (x ∷ xs) mark = last-append (Some x) xs mark

abbrev pub mark_at : ℕ → ℕ → Mark
mark_at moment start = record { moment = moment; start = start }

-- the start of a mark that was read
pub read_start : (marks : List Mark) (place : ℕ) (mark : Mark) → place < length marks → mark ≡ get_or marks place mark → mark.start ≡ start_of marks place
read_start marks place mark lt e = ap (λ (m : Mark). m.start) (e ∙ get_or_default marks place mark (mark_at 0 0) lt)

-- a mark before the last one ends at the start of the next
pub end_known : (end : ℕ) (marks : List Mark) (place : ℕ) → place + 1 < length marks → end_of end marks place ≡ start_of marks (place + 1)
end_known end marks place h = ap (λ (m : Mark). m.start) (get_or_default marks (place + 1) (mark_at 0 end) (mark_at 0 0) h)

-- the last one ends with all lines
pub end_last : (end : ℕ) (marks : List Mark) (place : ℕ) → length marks ≤ place + 1 → end_of end marks place ≡ end
end_last end marks place h = ap (λ (m : Mark). m.start) (get_or_past marks (place + 1) (mark_at 0 end) h)

pub order_more : (used more : ℕ) (marks : List Mark) → used ≤ more → AreInOrder used marks → AreInOrder more marks
order_more used more marks le h place lt =
    grind (arith, h place lt, end_known used marks place, end_known more marks place, end_last used marks place, end_last more marks place)

pub start-append : (marks rest : List Mark) (place : ℕ) → place < length marks → start_of (marks ++ rest) place ≡ start_of marks place
start-append marks rest place lt = ap (λ (m : Mark). m.start) (get_or_append_left marks rest (mark_at 0 0) place lt)

pub start-last : (marks : List Mark) (moment used : ℕ) → start_of (marks ++ mark_at moment used ∷ []) (length marks) ≡ used
start-last marks moment used = ap (λ (m : Mark). m.start) (get_or-append_seam marks (mark_at moment used) [] (mark_at 0 0))

pub order_marked : (used more moment : ℕ) (marks : List Mark) → used ≤ more → AreInOrder used marks →
    AreInOrder more (marks ++ mark_at moment used ∷ [])
order_marked used more moment marks le h place lt =
    let new = mark_at moment used ∷ [] in
    grind (
      arith,
      h place,
      length-append marks new,
      start-append marks new place,
      start-append marks new (place + 1),
      start-last marks moment used,
      end_known used marks place,
      end_last used marks place,
      end_known more (marks ++ new) place,
      end_last more (marks ++ new) place,
    )

reached_same : (more moment : ℕ) (last : Option Mark) → 0 < more → is_of moment last ≡ true → IsReached more moment last
reached_same more moment None lt h = cc
reached_same more moment (Some mark) lt h = (lt, eqb-true mark.moment moment h)

kept-cases : (bytes : List ℕ) (used more moment : ℕ) (marks : List Mark) (same : Bool) → is_of moment (last_or None marks) ≡ same →
    used < more → more ≤ length bytes → AreInOrder used marks →
    AreKept bytes more (if same then marks else marks ++ mark_at moment used ∷ []) moment
kept-cases bytes used more moment marks true e lt within order = record {
  within = within;
  reached = reached_same more moment (last_or None marks) (omega arith) e;
  in_order = order_more used more marks (omega arith) order;
}
kept-cases bytes used more moment marks false e lt within order = record {
  within = within;
  reached = subst (λ last. IsReached more moment last) (sym (last-append None marks (mark_at moment used))) (omega arith, refl);
  in_order = order_marked used more moment marks (omega arith) order;
}

-- a further line, and a mark if its time is another
pub kept-more : (old bytes : List ℕ) (used more moment digits : ℕ) (marks : List Mark) → AreKept old used marks digits → used < more →
    more ≤ length bytes → AreKept bytes more (marked moment used marks) moment
kept-more old bytes used more moment digits marks k lt within =
    kept-cases bytes used more moment marks (is_of moment (last_or None marks)) refl lt within k.in_order

-- what stands from a mark on is a part of the bytes
pub text_part : (system : System) (bytes : List ℕ) (used start end : ℕ) (marks : List Mark) (place : ℕ) → used ≤ length bytes →
    AreInOrder used marks → place < length marks → start ≡ start_of marks place → end ≡ end_of used marks place →
    take (end - start) (drop start bytes) ≡ text_at (record { system = system; bytes = take used bytes; marks = marks }) place
text_part system bytes used start end marks place within order lt s e =
    let o = order place lt in
    let from = start_of marks place in
    let long : length (take used bytes) ≡ used = length-take-le used bytes within in
    let there : take (end_of (length (take used bytes)) marks place - from) (drop from (take used bytes))
    ≡ take (end_of used marks place - from) (drop from (take used bytes)) =
    ap (λ n. take (end_of n marks place - from) (drop from (take used bytes))) long in
    let part = same_part bytes used from (end_of used marks place) o.0 o.1 in
    let here : take (end - start) (drop start bytes) ≡ take (end_of used marks place - from) (drop from bytes) = cc in
    here ∙ sym (there ∙ part)

-- bytes up to the end of a text that was written into them are no fewer
pub grows : (bytes old text : List ℕ) (more at : ℕ) → at ≤ length old → take more bytes ≡ take at old ++ text → at + length text ≤ more
grows bytes old text more at long e =
    let most = length-take more bytes in
    let all : length (take more bytes) ≡ length (take at old ++ text) = ap (λ (xs : List ℕ). length xs) e in
    omega (arith, length-append (take at old) text, length-take-le at old long)

-- and more, if a line feed ends it
pub grows_by_line : (bytes mid old word words : List ℕ) (more core at : ℕ) → at ≤ length old → core ≤ length mid →
    take core mid ≡ take at old ++ word → take more bytes ≡ (take core mid ++ words) ++ 10 ∷ [] → at < more
grows_by_line bytes mid old word words more core at long further e f =
    let text = f ∙ append_assoc (take core mid) words (10 ∷ []) in
    omega (arith, grows mid old word core at long e, grows bytes mid (words ++ 10 ∷ []) more core further text, length-append words (10 ∷ []))

-- what was written into bytes stands within them
pub written_within : (new old : List ℕ) (n more : ℕ) → length new ≡ length old → n ≡ length old → more ≤ length old →
    more ≤ length (take n (new ++ drop (length new) old))
written_within new old n more e f le =
    omega (arith, length-take n (new ++ drop (length new) old), length-append new (drop (length new) old))
