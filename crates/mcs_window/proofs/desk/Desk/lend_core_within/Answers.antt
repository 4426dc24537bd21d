use Rattle.std.proofs.Common.{◌≡◌, ◌∙◌, sym, ap, subst, refl, get_or, rules}
use Rattle.mcs_mail.specs.Box.{Content}
use Rattle.mcs_window.specs.Desk.{Table, MayLend, MayGoOn, lent_to, past_within}
use Rattle.mcs_window.specs.stored.Slots.{table_of}
use Rattle.mcs_window.proofs.Lends.{here_at, may_go_within, lent_work, lent_kept, lent_shows}
use Rattle.mcs_window.proofs.desk.Desk.lend_core_within.Goals as goal

lendable : (g : _) (c : goal.After-result-1 g) → MayLend c.args.self.now c.args.core
lendable g c = c.may_lend.ensures.0 c.if-not-may_lend.false

past_is : (g : _) (c : goal.After-result-1 g) → c.past_within-past.result ≡ past_within (table_of c.self.inside) c.args.span c.args.core
past_is g c = rw (sym c.self.view_is) at c.past_within-past.ensures

may : (g : _) (c : goal.After-result-1 g) → MayGoOn (table_of c.self.inside) c.args.core c.past_within-past.result
may g c =
    subst (MayGoOn (table_of c.self.inside) c.args.core) (sym (past_is g c))
    (may_go_within c.self.inside c.self.invariant c.args.core c.args.span (subst (λ t. MayLend t c.args.core) (sym c.self.view_is) (lendable g c)) c.requires.some)

slot_at : (g : _) (c : goal.After-result-1 g) → c.index_mut.result.now ≡ get_or c.self.inside.slots.items c.args.core c.index_mut.result.now
slot_at g c = c.index_mut.ensures.value ∙ ap (λ k. get_or c.self.inside.slots.items k c.index_mut.result.now) c.core.view_is

box_at : (g : _) (c : goal.After-result-1 g) → c.replace-mail.result ≡ get_or c.self.inside.boxes.items c.args.core c.replace-mail.result
box_at g c =
    let P : Content → Type 0 = λ box. box ≡ get_or c.self.inside.boxes.items c.args.core box in
    subst P (sym c.replace-mail.ensures.value) (c.index_mut-2.ensures.value ∙ ap (λ k. get_or c.self.inside.boxes.items k c.index_mut-2.result.now) c.core.view_is)

pub invariant_of-result : goal.invariant_of-result
invariant_of-result g c =
    lent_work c.self.inside c.self.invariant c.args.core c.index_mut.result.now c.replace-mail.result c.in-Here.spare c.in-Here.state c.clock-first.result c.past_within-past.result
    (may g c) (sym c.in-Here.ensures.value) (slot_at g c) (box_at g c)
    (rw (sym c.self.view_is) at c.clock-first.ensures.value)

pub invariant_of-self-2 : goal.invariant_of-self-2
invariant_of-self-2 g c =
    rw c.core.view_is
    (lent_kept c.self.inside c.self.invariant c.args.core c.replace-slot.new.dest (record { past = c.past_within-past.result; front = c.self.inside.clocks }) c.replace-mail.new.dest
    (may g c) c.in-Here.ensures.after refl (ap (λ (y : Content). y.mails) c.replace-mail.ensures.after ∙ c.new.ensures))

pub returns-clause-some : goal.returns-clause-some
returns-clause-some g c = (
  search rules,
  refl,
  lendable g c,
  rw c.core.view_is
      (lent_shows c.self.inside c.self.invariant c.args.core (past_within c.args.self.now c.args.span c.args.core) c.replace-slot.new.dest (record { past = c.past_within-past.result; front = c.self.inside.clocks })
      c.replace-mail.new.dest c.in-Here.ensures.after c.past_within-past.ensures refl
      ∙ ap (λ t. lent_to t c.args.core (past_within c.args.self.now c.args.span c.args.core)) c.self.view_is),
)

pub returns-clause-piece : goal.returns-clause-piece
returns-clause-piece g c = (
  (here_at c.self.inside c.self.invariant c.args.core c.index_mut.result.now c.replace-mail.result c.in-Here.spare c.in-Here.state (may g c).known (sym c.in-Here.ensures.value) (slot_at g c) (box_at g c)).0
      ∙ ap (λ (t : Table). t.system) c.self.view_is,
  c.clock-first.ensures.value,
  c.past_within-past.ensures,
  ap (λ (t : Table). t.clocks) c.self.view_is,
)
