use Rattle.std.proofs.Common.{◌∷◌, ◌++◌, [], codes, decimal}
use Rattle.mcs_check_lines.proofs.Words.{then-words}
use Rattle.mcs_check_lines.proofs.line.write_ways.Goals as goal

pub returns-clause-written : goal.returns-clause-written
returns-clause-written c =
    let stood = c.args.stood.now in
    let ready = codes "ready" ∷ decimal stood.ready ∷ [] in
    let running = codes "running" ∷ decimal stood.running ∷ [] in
    let throttled = codes "throttled" ∷ decimal stood.throttled ∷ [] in
    let blocked = codes "blocked" ∷ decimal stood.blocked ∷ [] in
    let two = then-words _ _ _ ready running c.write_counted-running.ensures.written c.write_counted-throttled.ensures.written in
    let three = then-words _ _ _ (ready ++ running) throttled two c.write_counted-blocked.ensures.written in
    let four = then-words _ _ _ (ready ++ running ++ throttled) blocked three c.write_counted-server.ensures.written in
    then-words _ _ _ (ready ++ running ++ throttled ++ blocked) (codes "server" ∷ decimal stood.server ∷ []) four c.write_counted.ensures.written
