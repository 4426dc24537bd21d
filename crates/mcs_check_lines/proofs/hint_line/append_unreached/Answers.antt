use Rattle.std.proofs.Common.{◌∷◌, [], ◌++◌, codes}
use Rattle.std.proofs.lemmas.Result.{on_ok_weaker}
use Rattle.mcs_text.specs.Text.{source_name, thread_name}
use Rattle.mcs_check_lines.specs.Names.{chain_name}
use Rattle.mcs_check_lines.proofs.Words.{then-words, with-colon}
use Rattle.mcs_check_lines.proofs.hint_line.append_unreached.Goals as goal

pub returns-clause-ok : goal.returns-clause-ok
returns-clause-ok c =
    let system = c.args.system.now in
    let chain = rw (c.chain_name.ensures) at c.in_ok-append_named.ensures.ok in
    let colon = with-colon _ _ _ (codes "chain") (chain_name system c.args.chain) chain c.in_ok-push.ensures.items in
    let source = rw (c.source_name.ensures.name) at c.in_ok-append_named-2.ensures.ok in
    let thread = rw (c.thread_name.ensures.name) at c.append_named-3.ensures.ok in
    let subject = codes "chain" ∷ (chain_name system c.args.chain ++ codes ":") ∷ [] in
    let from = codes "no signal leads from" ∷ source_name system c.args.source ∷ [] in
    on_ok_weaker c.append_named-3.result (λ last. then-words _ _ _ (subject ++ from) (codes "to" ∷ thread_name system c.args.thread ∷ [])
    (then-words _ _ _ subject from colon source) last) thread
