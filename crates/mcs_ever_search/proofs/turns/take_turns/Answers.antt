use Rattle.std.proofs.Common.{◌≡◌, ◌+◌, ◌++◌, Vec, ap, ◌∙◌, arith}
use Rattle.std.specs.declared.alloc.Global.{Global}
use Rattle.mcs_ticks.specs.declared.row.Row.{Row}
use Rattle.mcs_ticks.proofs.Givens.{given_to_a_list}
use Rattle.mcs_stretch.proofs.Later.{takes_time}
use Rattle.mcs_ever_search.proofs.Turning.{ok-both, rows-made}
use Rattle.mcs_ever_search.proofs.turns.take_turns.Goals as goal

pub go_past-requires : goal.go_past-requires
go_past-requires c =
    let at : c.moment-moment.result ≡ c.args.steps.now.moment = c.moment-moment.ensures.value in
    record { going = c.requires.before.going; in_time = (let l = c.requires.in_time in omega arith); moment_is = omega arith; over = λ e. absurd (omega arith) }

pub returns-clause-turned : goal.returns-clause-turned
returns-clause-turned c = ok-both c.go_past.result
    (λ going after. record {
      system_is = c.go_past.ensures.run.0;
      horizon_is = c.go_past.ensures.run.1;
      moment_is = after.moment_is ∙ ap (λ t. t + 1) c.moment-moment.ensures.value;
      is_before = record { core_is = after.core_is; going = going };
    })
    c.go_past.ensures.going c.go_past.ensures.after

pub returns-clause-rows : goal.returns-clause-rows
returns-clause-rows c = ok-both c.go_past.result
    (λ told after.
    given_to_a_list (λ (v : Vec Row Global). v.items) c.args.rows.now c.go_past.new.told told.0 told.2
    ∙ ap (λ rows. c.args.rows.now.items ++ rows)
    (rows-made c.args.steps.now c.go_past.new.self told.0 (takes_time c.args.steps.now.system c.requires.well_formed) c.requires.before c.go_past.ensures.run.0
    (record { moment_is = after.moment_is ∙ ap (λ t. t + 1) c.moment-moment.ensures.value; core_is = after.core_is }) told.1))
    c.go_past.ensures.told c.go_past.ensures.after
