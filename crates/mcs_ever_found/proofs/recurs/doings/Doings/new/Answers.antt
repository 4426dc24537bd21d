use Rattle.std.proofs.Common.{◌≡◌, false, length, replicate, ap, ◌∙◌, rules}
use Rattle.mcs_ever_found.proofs.Flags.{same_doings, doings-first}
use Rattle.mcs_ever_found.proofs.recurs.doings.Doings.new.Goals as goal

pub returns : goal.returns
returns c =
    let threads : c.len-threads.result ≡ length c.args.system.now.threads = search rules in
    let notes : c.len-notes.result ≡ length c.args.system.now.notes = search rules in
    let ended : c.in_ok-vec.field-0.items ≡ replicate c.len-threads.result false = search rules in
    let taken : c.in_ok-vec-2.field-0.items ≡ replicate c.len-notes.result false = search rules in
    same_doings _ _ _ _ (ended ∙ ap (λ n. replicate n false) threads) (taken ∙ ap (λ n. replicate n false) notes)
    ∙ doings-first c.args.system.now
