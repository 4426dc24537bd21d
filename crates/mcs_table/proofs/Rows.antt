-- A list of rows that is seen, one after another.
use Rattle.std.proofs.Common.{◌≡◌, ℕ, List, [], ◌∷◌, sym, ap, subst, ◌∙◌}
use Rattle.mcs_ticks.specs.declared.row.Row.{Row}
use Rattle.mcs_system.specs.System.{System}
use Rattle.mcs_verdict.specs.Findings.{UpTo, InOrder, past_of}
use Rattle.mcs_verdict.specs.Watch.{Watch, watch_of}
use Rattle.mcs_table.specs.Table.{Table, table_of}

-- so far these rows were seen; the rest is still to come
pub record Follows (system : System) (horizon : ℕ) (past rows rest : List Row) (watch : Watch) (table : Table) : Type 0 where
  pub seen : List Row
  pub watched : watch ≡ watch_of system seen
  pub kept : table ≡ table_of system horizon seen
  pub in_order : InOrder seen rest
  pub past_is : past_of seen rest ≡ past_of past rows

-- one row more
pub follows-row : (system : System) (horizon : ℕ) (past rows rest more : List Row) (r : Row) (watch watch' : Watch) (table table' : Table)
    → rest ≡ r ∷ more
    → Follows system horizon past rows rest watch table
    → ((seen : List Row) → watch ≡ watch_of system seen → UpTo r.moment seen → watch' ≡ watch_of system (r ∷ seen))
    → ((seen : List Row) → watch ≡ watch_of system seen → table ≡ table_of system horizon seen → UpTo r.moment seen
    → table' ≡ table_of system horizon (r ∷ seen))
    → Follows system horizon past rows more watch' table'
follows-row system horizon past rows rest more r watch watch' table table' e s w t =
    let P : List Row → Type 0 = λ rest. InOrder s.seen rest in
    let order = subst P e s.in_order in
    record {
      seen = r ∷ s.seen;
      watched = w s.seen s.watched order.0;
      kept = t s.seen s.watched s.kept order.0;
      in_order = order.1;
      past_is = sym (ap (past_of s.seen) e) ∙ s.past_is;
    }

-- no row is left
pub follows-all : (system : System) (horizon : ℕ) (past rows rest : List Row) (watch : Watch) (table : Table) → rest ≡ []
    → Follows system horizon past rows rest watch table
    → (watch ≡ watch_of system (past_of past rows)) × (table ≡ table_of system horizon (past_of past rows))
follows-all system horizon past rows rest watch table e s =
    let all : s.seen ≡ past_of past rows = sym (ap (past_of s.seen) e) ∙ s.past_is in
    (s.watched ∙ ap (watch_of system) all, s.kept ∙ ap (table_of system horizon) all)
