use Rattle.std.proofs.Common.{◌≡◌, ℕ, ◌^◌, ◌≤◌, sym, ap, subst, ◌∙◌, arith}
use Rattle.mcs_system.specs.System.{System, thread_part, context_part, core_of}
use Rattle.mcs_system.specs.declared.part.ThreadPart.{ThreadPart}
use Rattle.mcs_system.specs.declared.part.ContextPart.{ContextPart}
use Rattle.mcs_verdict.specs.declared.standing.Stood.{Stood}
use Rattle.mcs_verdict.specs.Rounds.{first_wait}
use Rattle.mcs_verdict.specs.Stood.{stood_in}
use Rattle.mcs_verdict.specs.Findings.{UpTo}
use Rattle.mcs_table.specs.declared.account.Account.{Account}
use Rattle.mcs_table.specs.Rounds.{responses_of, late_in, greatest, margin}
use Rattle.mcs_table.specs.Shares.{share_of}
use Rattle.mcs_table.specs.Signals.{signals_for}
use Rattle.mcs_table.specs.Table.{Table, account_of}
use Rattle.mcs_table.proofs.Kept.{same_figures, running-le, read_account}
use Rattle.mcs_table.proofs.table.Table.figures.Goals as goal

pub returns : goal.returns
returns c past kept watched up =
    let system : System = c.args.system.now in
    let thread : ℕ = c.args.thread in
    let horizon : ℕ = c.args.self.now.horizon in
    let same = c.parts-parts.ensures.same in
    let part : c.thread-part.result.now ≡ thread_part system thread = c.thread-part.ensures ∙ ap (λ system. thread_part system thread) same in
    let until : c.self.inside.horizon ≡ horizon = ap (λ (table : Table). table.horizon) c.self.view_is in
    let core : c.core_of_thread.result ≡ core_of system (thread_part system thread) =
    c.core_of_thread.ensures ∙ ap (λ system. core_of system c.thread-part.result.now) same ∙ ap (core_of system) part
    in
    let P : ℕ → Type 0 = λ moment. UpTo moment past in
    let stood : c.stood-stood.result ≡ stood_in thread past 0 horizon =
    c.stood-stood.ensures system past watched (subst P (sym until) up) ∙ ap (stood_in thread past 0) until
    in
    let small : c.stood-stood.result.running ≤ 2 ^ 42 =
    let few = running-le thread past horizon in
    let running : c.stood-stood.result.running ≡ (stood_in thread past 0 horizon).running = ap (λ (stood : Stood). stood.running) stood in
    omega (arith, few, running, until, c.get.ensures.value, c.get.ensures.in_range)
    in
    let context : c.context.result.now ≡ context_part system (thread_part system thread).context =
    c.context.ensures ∙ ap (λ system. context_part system c.thread-part.result.now.context) same
    ∙ ap (λ (part : ThreadPart). context_part system part.context) part
    in
    let share :
    c.share.result ≡ share_of (context_part system (thread_part system thread).context).config horizon (stood_in thread past 0 horizon).running =
    c.share.ensures small ∙ ap (λ (context : ContextPart). share_of context.config c.self.inside.horizon c.stood-stood.result.running) context
    ∙ ap (λ horizon. share_of (context_part system (thread_part system thread).context).config horizon c.stood-stood.result.running) until
    ∙ ap (λ (stood : Stood). share_of (context_part system (thread_part system thread).context).config horizon stood.running) stood
    in
    let account : c.index-account.result.now ≡ account_of system horizon (thread_part system thread).deadline thread past =
    read_account system horizon c.thread.inside.0 thread c.self.inside.accounts.items past c.index-account.result.now
    (ap (λ (table : Table). table.accounts) (c.self.view_is ∙ kept)) c.thread.view_is c.requires.known c.index-account.ensures
    in
    let rounds =
    c.rounds.ensures horizon (thread_part system thread).deadline (late_in (thread_part system thread).deadline thread past)
    (responses_of system thread past) account
    in
    let far : c.margin.result ≡ margin (thread_part system thread).deadline (greatest (responses_of system thread past)) =
    c.margin.ensures ∙ ap (λ (part : ThreadPart). margin part.deadline c.index-account.result.now.greatest) part
    ∙ ap (λ (account : Account). margin (thread_part system thread).deadline account.greatest) account
    in
    let signals : c.signals_for.result ≡ signals_for system (first_wait (thread_part system thread)) past =
    c.signals_for.ensures system horizon past kept ∙ ap (λ waits. signals_for system waits past) (c.first_wait.ensures ∙ ap first_wait part)
    in
    same_figures c.core_of_thread.result _ c.thread-part.result.now.priority _ c.thread-part.result.now.deadline _ c.share.result _ c.rounds.result _
    c.margin.result _ c.signals_for.result _ c.stood-stood.result _ core (ap (λ (part : ThreadPart). part.priority) part)
    (ap (λ (part : ThreadPart). part.deadline) part) share rounds far signals stood
