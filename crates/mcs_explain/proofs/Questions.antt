-- What there is of the question, and the output for a system.
use Rattle.std.proofs.Common.{◌≡◌, ◌∙◌, ℕ, Bool, true, false, List, [], Option, Some, None, refl, ap, sym, subst}
use Rattle.std.specs.Prelude.{Result, Ok, Err}
use Rattle.std.specs.Io.KnownBytes.{Appends, Keeps}
use Rattle.std.proofs.KnownBytes.{Appends-nil}
use Rattle.mcs_system.specs.System.{System}
use Rattle.mcs_core.specs.Clock.{schedule}
use Rattle.mcs_verdict.specs.Findings.{past_of}
use Rattle.mcs_cli.specs.Devices.{AppendsPrefix}
use Rattle.mcs_cli.specs.Flow.{IsWriteFault}
use Rattle.mcs_cli.specs.Run.{IsRead}
use Rattle.mcs_cli.specs.declared.fault.RunFault.{RunFault}
use Rattle.mcs_cli.specs.declared.fault.RunFault.TheVariants as run
use Rattle.mcs_team.specs.declared.run.SimFault.TheVariants.{NoMemory}
use Rattle.mcs_chain.specs.declared.answer.Answer.{Answer}
use Rattle.mcs_why.specs.declared.span.Span.{Span}
use Rattle.mcs_why.specs.declared.span.Sought.{Sought}
use Rattle.mcs_why.specs.declared.span.Sought.TheVariants as why
use Rattle.mcs_why.specs.Spans.{sought}
use Rattle.mcs_way.specs.declared.sought.Sought.{Sought as AnswerSought}
use Rattle.mcs_way.specs.declared.sought.Sought.TheVariants as way
use Rattle.mcs_way.specs.Sought.{sought as answer_sought}
use Rattle.mcs_check_words.specs.declared.asked.Options.{Options}
use Rattle.mcs_explain.specs.declared.asked.Asked.{Asked}
use Rattle.mcs_explain.specs.declared.asked.Asked.TheVariants as asked
use Rattle.mcs_explain.specs.declared.found.Found.{Found}
use Rattle.mcs_explain.specs.declared.found.Found.TheVariants as found
use Rattle.mcs_explain.specs.declared.why_fault.WhyFault.{WhyFault}
use Rattle.mcs_explain.specs.declared.why_fault.WhyFault.TheVariants.{Run, Mixed, NoThread, NoName, NoRound, NoAnswer}
use Rattle.mcs_explain.specs.Asked.{IsNoAnswer, IsNoRound, IsNobody, asked_of, round_number}
use Rattle.mcs_explain.specs.Explained.{IsExplained, IsTold}
use Rattle.mcs_explain.specs.Why.{answer_found, answer_text, found_by, found_of, found_text, is_mixed, is_there, round_found, round_text, why_text}

keeps : (w : Option (List ℕ)) → Keeps w w
keeps None = tt
keeps (Some xs) = refl

-- memory ran out before a byte was written
pub memory-fault : (a : Option (List ℕ)) (failed : Bool) (text : List ℕ) (f : RunFault) → f ≡ run.Sim NoMemory → failed ≡ false
    → IsWriteFault a a failed text f
memory-fault a failed text f is working = subst (IsWriteFault a a failed text) (sym is) (working, (0, Appends-nil a))

no-round : (s : Sought) → round_found s ≡ found.Nobody → ⊥
no-round (why.There span) e = cc
no-round (why.Missing rounds) e = cc

no-answer : (s : AnswerSought) → answer_found s ≡ found.Nobody → ⊥
no-answer (way.There answer) e = cc
no-answer (way.Missing answers) e = cc

module _ (system : System) (horizon : ℕ) (question : List ℕ × List ℕ) where
  -- what there is of what the name asks about
  pub found-is : (a : Asked) → asked_of system question.0 ≡ a
      → found_of system horizon question ≡ found_by system horizon (round_number question.1) (past_of [] (schedule system horizon)) a
  found-is a is = ap (found_by system horizon (round_number question.1) (past_of [] (schedule system horizon))) is

  pub round-is : (thread : ℕ) (there : Sought) → asked_of system question.0 ≡ asked.Round thread
      → there ≡ sought system horizon (past_of [] (schedule system horizon)) thread (round_number question.1)
      → round_found there ≡ found_of system horizon question
  round-is thread there asks is = ap round_found is ∙ sym (found-is (asked.Round thread) asks)

  pub answer-is : (chain : ℕ) (there : AnswerSought) → asked_of system question.0 ≡ asked.Answer chain
      → there ≡ answer_sought system chain (round_number question.1) (past_of [] (schedule system horizon))
      → answer_found there ≡ found_of system horizon question
  answer-is chain there asks is = ap answer_found is ∙ sym (found-is (asked.Answer chain) asks)

  -- what was found in an equal system
  pub found-there : (own : System) → own ≡ system → (f g : Found) → f ≡ found_of own horizon question → f ≡ g → found_of system horizon question ≡ g
  found-there own same f g is there = ap (λ s. found_of s horizon question) (sym same) ∙ sym is ∙ there

  -- nothing is found of a name only if nobody has it
  nobody-by : (a : Asked) → found_by system horizon (round_number question.1) (past_of [] (schedule system horizon)) a ≡ found.Nobody → a ≡ asked.Nobody
  nobody-by (asked.Round thread) e = absurd (no-round _ e)
  nobody-by (asked.Answer chain) e = absurd (no-answer _ e)
  nobody-by asked.Nobody e = refl

  pub nobody-is : found_of system horizon question ≡ found.Nobody → asked_of system question.0 ≡ asked.Nobody
  nobody-is e = nobody-by (asked_of system question.0) e

module _ (options : Options) (question : List ℕ × List ℕ) (system : System) where
  -- no byte is written if memory ran out, or if it is not there
  pub memory-told : (a : Option (List ℕ)) (failed : Bool) (f : RunFault) → f ≡ run.Sim NoMemory → IsTold a a failed options question system (Err (Run f))
  memory-told a failed f is = subst (λ f. IsTold a a failed options question system (Err (Run f))) (sym is) (0, Appends-nil a)

  pub nobody-told : (a : Option (List ℕ)) (failed : Bool) (f : WhyFault) → found_of system options.horizon question ≡ found.Nobody
      → IsNobody system question.0 f → IsTold a a failed options question system (Err f)
  nobody-told a failed (NoThread name nearest) none is = (keeps a, (nobody-is system options.horizon question none, is))
  nobody-told a failed (NoName name nearest) none is = (keeps a, (nobody-is system options.horizon question none, is))
  nobody-told a failed (Run (run.Sim s)) none is = (0, Appends-nil a)
  nobody-told a failed (Run run.Read) none is = absurd is
  nobody-told a failed (Run (run.Load l)) none is = absurd is
  nobody-told a failed (Run run.Write) none is = absurd is
  nobody-told a failed Mixed none is = absurd is
  nobody-told a failed (NoRound thread round rounds) none is = absurd is
  nobody-told a failed (NoAnswer chain number answers) none is = absurd is

  pub round-told : (a : Option (List ℕ)) (failed : Bool) (f : WhyFault) (rounds : ℕ) → found_of system options.horizon question ≡ found.NoRound rounds
      → IsNoRound question rounds f → IsTold a a failed options question system (Err f)
  round-told a failed (NoRound thread round n) rounds missing is = (keeps a, (missing ∙ ap (λ n. found.NoRound n) (sym is.2), is.0, is.1))
  round-told a failed (Run (run.Sim s)) rounds missing is = (0, Appends-nil a)
  round-told a failed (Run run.Read) rounds missing is = absurd is
  round-told a failed (Run (run.Load l)) rounds missing is = absurd is
  round-told a failed (Run run.Write) rounds missing is = absurd is
  round-told a failed Mixed rounds missing is = absurd is
  round-told a failed (NoThread name nearest) rounds missing is = absurd is
  round-told a failed (NoName name nearest) rounds missing is = absurd is
  round-told a failed (NoAnswer chain number n) rounds missing is = absurd is

  pub answer-told : (a : Option (List ℕ)) (failed : Bool) (f : WhyFault) (answers : ℕ) → found_of system options.horizon question ≡ found.NoAnswer answers
      → IsNoAnswer question answers f → IsTold a a failed options question system (Err f)
  answer-told a failed (NoAnswer chain number n) answers missing is = (keeps a, (missing ∙ ap (λ n. found.NoAnswer n) (sym is.2), is.0, is.1))
  answer-told a failed (Run (run.Sim s)) answers missing is = (0, Appends-nil a)
  answer-told a failed (Run run.Read) answers missing is = absurd is
  answer-told a failed (Run (run.Load l)) answers missing is = absurd is
  answer-told a failed (Run run.Write) answers missing is = absurd is
  answer-told a failed Mixed answers missing is = absurd is
  answer-told a failed (NoThread name nearest) answers missing is = absurd is
  answer-told a failed (NoName name nearest) answers missing is = absurd is
  answer-told a failed (NoRound thread round n) answers missing is = absurd is

  pub round-text : (span : Span) → found_of system options.horizon question ≡ found.Round span
      → why_text options.format system options.horizon question ≡ round_text options.format system span (schedule system options.horizon)
  round-text span there = ap (found_text options.format system options.horizon) there

  pub answer-text : (answer : Answer) → found_of system options.horizon question ≡ found.Answer answer
      → why_text options.format system options.horizon question ≡ answer_text options.format system answer (schedule system options.horizon)
  answer-text answer there = ap (found_text options.format system options.horizon) there

  -- it is there, and this is its text
  module _ (a b : Option (List ℕ)) (failed : Bool) (text : List ℕ) (is-text : why_text options.format system options.horizon question ≡ text) where
    pub fault-told : (f : RunFault) → IsWriteFault a b failed text f → IsTold a b failed options question system (Err (Run f))
    fault-told (run.Sim s) is = subst (AppendsPrefix a b) (sym is-text) is.1
    fault-told run.Write is = (is.0, subst (AppendsPrefix a b) (sym is-text) is.1)
    fault-told run.Read is = absurd is
    fault-told (run.Load l) is = absurd is

    pub all-told : (done : Unit {0}) → is_there (found_of system options.horizon question) ≡ true → Appends a b text
        → IsTold a b failed options question system (Ok done)
    all-told done there is = (there, subst (Appends a b) (sym is-text) is)

-- the output for a system that was read
module _ (a b : Option (List ℕ)) (failed : Bool) (options : Options) (question : List ℕ × List ℕ)
    (read_old read_new : Option (List ℕ)) (given_old given_new : ℕ) (read_failed : Bool) (system : System) (alone : is_mixed options ≡ false)
    (read : IsRead read_old read_new given_old given_new system) where
  pub explained : (r : Result (Unit {0}) WhyFault) → IsTold a b failed options question system r
      → IsExplained a b failed options question read_old read_new given_old given_new read_failed r
  explained (Ok done) told = (alone, system, read, told)
  explained (Err (NoThread name nearest)) told = (alone, system, read, told)
  explained (Err (NoName name nearest)) told = (alone, system, read, told)
  explained (Err (NoRound thread round rounds)) told = (alone, system, read, told)
  explained (Err (NoAnswer chain number answers)) told = (alone, system, read, told)
  explained (Err (Run (run.Sim s))) told = (alone, system, read, told)
  explained (Err (Run run.Write)) told = (alone, system, read, told)
  explained (Err (Run run.Read)) told = absurd told
  explained (Err (Run (run.Load l))) told = absurd told
  explained (Err Mixed) told = absurd told.1
