-- Lines of findings that are put behind others, one after another.
use Rattle.std.proofs.Common.{◌≡◌, ◌∙◌, ◌++◌, ◌+◌, ◌<◌, ◌∷◌, [], ℕ, Bool, true, false, List, Option, Some, None, append-nil, append_assoc, ap, ap₂, drop, get_or, length, refl, subst, sym, take, take-append-drop}
use Rattle.std.proofs.lemmas.List.{take_more}
use Rattle.std.proofs.lemmas.List.Concat.{flat_map-append}
use Rattle.mcs_ticks.specs.declared.sink.FlowFault.TheVariants as fault
use Rattle.mcs_ticks.specs.declared.row.Row.{Row}
use Rattle.mcs_system.specs.System.{System}
use Rattle.mcs_verdict.specs.declared.finding.Finding.{Finding}
use Rattle.mcs_verdict.specs.declared.finding.Found.{Found}
use Rattle.mcs_verdict.specs.Findings.{finding, found_at}
use Rattle.mcs_cli.proofs.Flow.{before-longer, before-none, before-then, prefix-before, prefix-longer, prefix-then}
use Rattle.mcs_cli.specs.Devices.{AppendsPrefix}
use Rattle.mcs_cli.specs.Flow.{AppendsBefore}
use Rattle.mcs_check_words.specs.declared.asked.Format.{Format}
use Rattle.mcs_check_words.specs.declared.asked.Show.TheVariants as show
use Rattle.mcs_check.specs.declared.found_lines.FoundLines.{FoundLines}
use Rattle.mcs_check_lines.specs.Counts.{told_of}
use Rattle.mcs_check_lines.specs.Formats.{found_line}
use Rattle.mcs_check.specs.stored.Found.{told_by, told_in}
use Rattle.mcs_check.specs.stored.Pages.{founds_text, PutsLines, PutsSome}
use Rattle.mcs_check_run.specs.Lines.{failed_after}
use Rattle.mcs_check.specs.stored.Rows.{lines_in, shown_found, told_at, told_line}

-- the lines of the findings of rows
module _ (how : Format) (system : System) (allowed : List Bool) where
  one-told : (moment core : ℕ) (f : Option Finding) → founds_text how system (found_at moment core f) ≡ told_line how system (shown_found moment core f)
  one-told moment core None = refl
  one-told moment core (Some f) = append-nil (found_line how system (record { moment = moment; core = core; finding = f }))

  pub told-text : (past rows : List Row) → founds_text how system (told_in system allowed past rows) ≡ lines_in system allowed how show.Findings past rows
  told-text past [] = refl
  told-text past (r ∷ rows) =
      flat_map-append (found_line how system) (told_by system allowed past r) (told_in system allowed (r ∷ past) rows)
      ∙ ap (λ l. l ++ founds_text how system (told_in system allowed (r ∷ past) rows)) (one-told r.moment r.core (told_of allowed (finding system past r.moment r.what)))
      ∙ ap (λ l. told_at system allowed how show.Findings past r ++ l) (told-text (r ∷ past) rows)

-- a target's bytes, and whether it has failed
module _ {W P : Type 0} (contents : W → Option (List ℕ)) (failed : W → Bool) where
  pub puts-none : (p : FoundLines W P) → PutsLines contents failed p [] true p
  puts-none p = (
    refl,
    refl,
    refl,
    refl,
    λ _. refl,
    λ e. cc,
    subst (λ l. AppendsBefore (contents p.lines.target.now) (contents p.lines.target.now) l p.text.now.items) (sym (append-nil p.text.now.items))
        (before-none (contents p.lines.target.now) p.text.now.items),
  )

  -- lines, and then others
  pub puts-then : (a b c : FoundLines W P) (xs ys : List ℕ) (taken : Bool) → PutsLines contents failed a xs true b → PutsLines contents failed b ys taken c
      → PutsLines contents failed a (xs ++ ys) taken c
  puts-then a b c xs ys true p q = (
    q.0 ∙ p.0,
    q.1 ∙ p.1,
    q.2 ∙ p.2,
    q.3 ∙ p.3,
    λ e. q.4 e ∙ p.4 refl,
    λ e. q.5 e ∙ ap (failed_after c.lines.is_out_of_memory) (p.4 refl),
    subst (λ l. AppendsBefore (contents a.lines.target.now) (contents c.lines.target.now) l c.text.now.items) (append_assoc a.text.now.items xs ys)
        (before-then _ _ _ _ _ _ (before-longer _ _ _ _ ys p.6) q.6),
  )
  puts-then a b c xs ys false p q = (
    q.0 ∙ p.0,
    q.1 ∙ p.1,
    q.2 ∙ p.2,
    q.3 ∙ p.3,
    λ e. q.4 e ∙ p.4 refl,
    λ e. q.5 e ∙ ap (failed_after c.lines.is_out_of_memory) (p.4 refl),
    subst (AppendsPrefix (contents a.lines.target.now) (contents c.lines.target.now)) (append_assoc a.text.now.items xs ys)
        (prefix-then _ _ _ _ _ (before-longer _ _ _ _ ys p.6) q.6),
  )

  -- of more lines no more are put
  pub puts-longer : (a b : FoundLines W P) (xs ys : List ℕ) → PutsLines contents failed a xs false b → PutsLines contents failed a (xs ++ ys) false b
  puts-longer a b xs ys p = (
    p.0,
    p.1,
    p.2,
    p.3,
    p.4,
    p.5,
    subst (AppendsPrefix (contents a.lines.target.now) (contents b.lines.target.now)) (append_assoc a.text.now.items xs ys) (prefix-longer _ _ _ ys p.6),
  )

  -- there is no memory for more of them
  pub puts-some : (a b : FoundLines W P) (xs ys : List ℕ) → PutsLines contents failed a xs true b → PutsSome contents failed a (xs ++ ys) fault.NoMemory b
  puts-some a b xs ys p = (
    p.0,
    p.4 refl,
    subst (AppendsPrefix (contents a.lines.target.now) (contents b.lines.target.now)) (append_assoc a.text.now.items xs ys)
        (prefix-longer _ _ _ ys (prefix-before _ _ _ _ p.6)),
  )

  -- the line of one more of a list
  module _ (first p q : FoundLines W P) (found : List Found) (i : ℕ) (one : Found) (l : i < length found) (is : one ≡ get_or found i one)
      (put : PutsLines contents failed first (founds_text first.format first.system.now (take i found)) true p) where
    one-more : founds_text first.format first.system.now (take i found) ++ found_line first.format first.system.now one
        ≡ founds_text first.format first.system.now (take (i + 1) found)
    one-more =
        ap (λ x. founds_text first.format first.system.now (take i found) ++ x) (sym (append-nil (found_line first.format first.system.now one)))
        ∙ sym (flat_map-append (found_line first.format first.system.now) (take i found) (one ∷ []))
        ∙ ap (founds_text first.format first.system.now) (sym (take_more found i one l ∙ ap (λ x. take i found ++ x ∷ []) (sym is)))

    pub put-next : (taken : Bool) → PutsLines contents failed p (found_line p.format p.system.now one) taken q
        → PutsLines contents failed first (founds_text first.format first.system.now (take (i + 1) found)) taken q
    put-next taken next =
        subst (λ text. PutsLines contents failed first text taken q) one-more
        (puts-then first p q (founds_text first.format first.system.now (take i found)) (found_line first.format first.system.now one) taken put
        (subst (λ text. PutsLines contents failed p text taken q) (ap₂ (λ form s. found_line form s.now one) put.2 put.3) next))

    pub put-refused : PutsLines contents failed p (found_line p.format p.system.now one) false q
        → PutsLines contents failed first (founds_text first.format first.system.now found) false q
    put-refused next =
        subst (λ text. PutsLines contents failed first text false q)
        (sym (flat_map-append (found_line first.format first.system.now) (take (i + 1) found) (drop (i + 1) found))
        ∙ ap (founds_text first.format first.system.now) (take-append-drop (i + 1) found))
        (puts-longer first q (founds_text first.format first.system.now (take (i + 1) found)) (founds_text first.format first.system.now (drop (i + 1) found)) (put-next false next))
