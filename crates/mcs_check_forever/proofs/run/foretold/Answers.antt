use Rattle.std.proofs.Common.{rules, ◌≡◌, ◌∙◌, List, Bool, ap, map, string_bytes, subst, sym}
use Rattle.std.specs.Arc.{arc_value}
use Rattle.mcs_system.specs.System.{System}
use Rattle.mcs_spin.specs.Spun.{spun}
use Rattle.mcs_check_run.specs.Allowed.{flags_of, names_of}
use Rattle.mcs_ever_told.specs.Outlook.{AreTold}
use Rattle.mcs_ever_told.specs.declared.outlook.told.Told.{Told}
use Rattle.mcs_ever_chain.specs.Sets.{SetsRecur}
use Rattle.mcs_ever_chain.specs.Told.{AreChainsTold}
use Rattle.mcs_check_forever.specs.Verdict.{told_text, verdict_of}
use Rattle.mcs_check_forever.proofs.run.foretold.Goals as goal

-- the sets that were told recur
pub tell_chains-requires-clause-told : goal.tell_chains-requires-clause-told
tell_chains-requires-clause-told g c =
    let told = c.in_ok-told.told.items in
    let shared_is : arc_value c.in_ok-shared.shared ≡ c.in_ok-spinning.spinning = search rules in
    let again_is : arc_value c.in_ok-again.again ≡ c.in_ok-spinning.spinning = search rules in
    let asked_is : c.as_slice-3.result.now ≡ told = search rules in
    let recur = c.told_sets_recur.ensures _ _ _ _ c.in_ok-told.ensures in
    subst (λ (t : List Told). SetsRecur (arc_value c.in_ok-again.again) t) (sym asked_is) (subst (λ s. SetsRecur s told) (shared_is ∙ sym again_is) recur)

pub returns : goal.returns
returns g c =
    let options = c.args.options.now in
    let horizon = options.horizon in
    let told = c.in_ok-told.told.items in
    let chains = c.in_ok-chains.chains.items in
    let names_are : c.as_slice.result.now ≡ options.allowed.items = search rules in
    let parts_is : c.parts.result.now ≡ c.args.system = search rules in
    let flags = c.in_ok-allowed.ensures ∙ ap (λ (s : System). flags_of (map (λ name. string_bytes name) c.as_slice.result.now) s.notes) parts_is
    ∙ ap (λ names. flags_of (map (λ name. string_bytes name) names) c.args.system.notes) names_are in
    let allowed_is : c.as_slice-2.result.now ≡ c.in_ok-allowed.allowed.items = search rules in
    let spinning_is : c.in_ok-spinning.spinning ≡ spun c.args.system = c.in_ok-spinning.ensures in
    let shared_is : arc_value c.in_ok-shared.shared ≡ c.in_ok-spinning.spinning = search rules in
    let again_is : arc_value c.in_ok-again.again ≡ c.in_ok-spinning.spinning = search rules in
    let system_is : c.deref.result.now ≡ c.in_ok-spinning.spinning = search rules in
    let own_is : c.deref-2.result.now ≡ c.in_ok-spinning.spinning = search rules in
    let sets_are : c.as_slice-sets.result.now ≡ told = search rules in
    let chains_are : c.as_slice-chains.result.now ≡ chains = search rules in
    let found = subst (λ (a : List Bool). AreTold (arc_value c.in_ok-shared.shared) a horizon told) (allowed_is ∙ flags) c.in_ok-told.ensures in
    let so = subst (λ s. AreTold s (flags_of (names_of options) c.args.system.notes) horizon told) (shared_is ∙ spinning_is) found in
    let chains_so = subst (λ s. AreChainsTold s horizon chains) (again_is ∙ spinning_is) c.in_ok-chains.ensures in
    let text_is = c.in_ok-text.ensures ∙ ap (λ s. told_text options.format s horizon c.as_slice-sets.result.now c.as_slice-chains.result.now) (system_is ∙ spinning_is)
    ∙ ap (λ t. told_text options.format (spun c.args.system) horizon t c.as_slice-chains.result.now) sets_are
    ∙ ap (told_text options.format (spun c.args.system) horizon told) chains_are in
    let verdict_is = c.verdict_of.ensures ∙ ap (λ s. verdict_of s c.as_slice-sets.result.now c.as_slice-chains.result.now) (own_is ∙ spinning_is)
    ∙ ap (λ t. verdict_of (spun c.args.system) t c.as_slice-chains.result.now) sets_are
    ∙ ap (verdict_of (spun c.args.system) told) chains_are in
    record { told = told; so = so; chains = chains; chains_so = chains_so; text_is = text_is; verdict_is = verdict_is }
