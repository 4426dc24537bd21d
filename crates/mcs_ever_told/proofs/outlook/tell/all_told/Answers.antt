use Rattle.std.proofs.Common.{◌≡◌, ◌≢◌, ℕ, ◌+◌, ◌<◌, List, [], length, get_or, Option, None, sym, ap, subst, ◌∙◌, arith}
use Rattle.std.specs.Prelude.{IfSome}
use Rattle.std.proofs.lemmas.List.{get_or-set_other, length_push}
use Rattle.mcs_ever_told.specs.Outlook.{IsTold}
use Rattle.mcs_ever_told.specs.declared.outlook.sets.Group.{Group}
use Rattle.mcs_ever_told.specs.declared.outlook.told.Told.{Told}
use Rattle.mcs_ever_told.specs.stored.Looks.{AreToldBelow}
use Rattle.mcs_ever_told.proofs.Places.{written, pushed, same-at}
use Rattle.mcs_ever_told.proofs.outlook.tell.all_told.Goals as goal

pub loop-i-preserved : goal.loop-i-preserved
loop-i-preserved c =
    let s = c.args.look.now.system.now in
    let al = c.args.look.now.allowed.now in
    let groups = c.args.groups.now in
    let i = c.loop-i.i in
    let g : Group = record { set = []; own = [] } in
    let test = c.loop-i-test.true in
    let within : i < length c.loop-i.told = (let e = c.loop-i.auto.told in omega (arith, e, c.requires.many, c.loop-i-test.true)) in
    let old-is = same-at c.loop-i.told i c.index-told-i.result None within in
    record {
      left = λ k l.
          let other : k ≢ i = omega (arith, l) in
          get_or-set_other c.loop-i.told i k c.told_or_open.new.told None other ∙ c.loop-i.invariant.left k (omega (arith, l));
      kept = λ horizon so k d l.
          let P : ℕ → Option Told → Type 0 = λ i one. IfSome one (IsTold s al horizon (get_or groups i d).set (get_or groups i d).own) in
          let N : Option Told → Type 0 = λ one. P i one in
          written P None c.loop-i.told i c.told_or_open.new.told within k (λ other. c.loop-i.invariant.kept horizon so k d l)
          (subst N (sym c.in_ok-told_or_open.ensures.left) tt);
      told = λ horizon over so.
          let before = c.loop-i.invariant.told horizon over so in
          let O : Option Told → Type 0 = λ one. IfSome one (IsTold s al horizon (get_or groups i g).set (get_or groups i g).own) in
          let old = subst O (sym old-is) (c.loop-i.invariant.kept horizon so i g test) in
          let met = λ (e : get_or c.loop-i.told i c.index-told-i.result ≡ None).
          over i test (sym (c.loop-i.invariant.left i (omega arith)) ∙ sym old-is ∙ e) in
          let here = c.in_ok-told_or_open.ensures.told horizon met old in
          let A : List Told → Type 0 = λ all. AreToldBelow s al horizon groups (i + 1) all in
          subst A (sym c.in_ok-push.ensures.items)
          (record {
            many = length_push c.loop-i.all.items c.in_ok-told_or_open.field-0 ∙ ap (λ (n : ℕ). n + 1) before.many;
            each = λ d e.
                let G : Group → Type 0 = λ group. IsTold s al horizon group.set group.own c.in_ok-told_or_open.field-0 in
                pushed (λ k one. IsTold s al horizon (get_or groups k d).set (get_or groups k d).own one) e c.loop-i.all.items i c.in_ok-told_or_open.field-0
                before.many (before.each d e) (subst G (same-at groups i g d test) here);
          });
    }

pub returns-clause-told : goal.returns-clause-told
returns-clause-told c = λ horizon over so.
    let groups = c.args.groups.now in
    let N : ℕ → Type 0 = λ n. AreToldBelow c.args.look.now.system.now c.args.look.now.allowed.now horizon groups n c.loop-i.all.items in
    let all : c.loop-i.i ≡ length groups = (let e = c.loop-i.auto.i-end in omega (arith, e, c.loop-i-test.false)) in
    subst N all (c.loop-i.invariant.told horizon over so)
