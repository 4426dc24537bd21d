use Rattle.std.proofs.Common.{◌≡◌, map, take, string_bytes}
use Rattle.mcs_c.proofs.options.owned.Given as goal

abbrev pub invariant-loop-text : goal.invariant-loop-text
invariant-loop-text l = map (λ text. string_bytes text) l.own.items ≡ map (λ text. text.now) (take l.text-index l.texts)
