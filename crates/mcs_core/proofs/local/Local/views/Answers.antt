use Rattle.std.proofs.Common.{◌≡◌, ℕ, zero, suc, ◌+◌, ◌<◌, List, [], ◌∷◌, ◌++◌, length, take, get_or, append-nil, append_assoc, add-one, refl, ap, sym, ◌∙◌, arith}
use Rattle.std.specs.Prelude.{Option, Some, None, option_map}
use Rattle.mcs_control.specs.Context.{Context, view_of}
use Rattle.mcs_control.specs.declared.view.ContextView.{ContextView}
use Rattle.mcs_system.specs.System.{System}
use Rattle.mcs_core.specs.declared.standing.Chosen.{Chosen}
use Rattle.mcs_core.specs.Views.{using_of, own_view, views_from}
use Rattle.mcs_core.proofs.local.Local.views.Goals as goal
use Rattle.mcs_core.proofs.local.Local.views.Goals.{in-Some+in_ok-push, in_default}

-- one context more
next-view : (system : System) (running : Option Chosen) (n m : ℕ) (contexts : List (Option Context)) (k : ℕ) → k < length contexts → m ≡ n + k →
    views_from system n running (take (suc k) contexts) ≡ views_from system n running (take k contexts) ++ own_view system m running (get_or contexts k None)
next-view system running n m [] k l e = absurd (omega arith)
next-view system running n m (context ∷ contexts) zero l e =
    let same : n ≡ m = omega arith in
    append-nil (own_view system n running context) ∙ ap (λ j. own_view system j running context) same
next-view system running n m (context ∷ contexts) (suc k) l e =
    ap (λ views. own_view system n running context ++ views) (next-view system running (suc n) m contexts k (omega arith) (omega arith))
    ∙ sym (append_assoc (own_view system n running context) (views_from system (suc n) running (take k contexts)) (own_view system m running (get_or contexts k None)))

-- the view, if the core holds it and if not
shown-some : (system : System) (running : Option Chosen) (n : ℕ) (context : Option Context) (view : ContextView) →
    option_map (view_of n (using_of system n running)) context ≡ Some view → own_view system n running context ≡ view ∷ []
shown-some system running n None view e = cc
shown-some system running n (Some context) view e = cc

shown-none : (system : System) (running : Option Chosen) (n : ℕ) (context : Option Context) →
    option_map (view_of n (using_of system n running)) context ≡ None → own_view system n running context ≡ []
shown-none system running n None e = refl
shown-none system running n (Some context) e = cc

pub loop-k-preserved : goal.loop-k-preserved
loop-k-preserved c =
    let system : System = c.args.system.now in
    let running : Option Chosen = c.args.self.now.running in
    let contexts : List (Option Context) = c.args.self.now.contexts in
    let k = c.loop-k.k in
    let earlier : List ContextView = views_from system 0 running (take k contexts) in
    let l : k < length contexts = omega (arith, c.len-k-end.ensures, c.requires.contexts, c.loop-k-test.true) in
    let context : Option Context = get_or contexts k None in
    let view : c.in_ok-view.field-0 ≡ option_map (view_of k (using_of system k running)) context =
    c.in_ok-view.ensures ∙ ap (λ used. option_map (view_of k used) context) c.in_use-in_use.ensures in
    let next = next-view system running 0 k contexts k l (omega arith) in
    elim c.match-branch-2.branch [
      | in-Some+in_ok-push w ↦
          rw (w.views-is, add-one)
          (w.in_ok-push.ensures.items ∙ ap (λ views. views ++ w.in-Some.view ∷ []) c.loop-k.invariant
          ∙ sym (next ∙ ap (λ views. earlier ++ views) (shown-some system running k context w.in-Some.view (sym view ∙ w.in-Some.is))))
      | in_default w ↦
          rw (w.views-is, add-one)
          (c.loop-k.invariant ∙ sym (next ∙ ap (λ views. earlier ++ views) (shown-none system running k context (sym view ∙ w.in_default.is)) ∙ append-nil earlier))
    ]
