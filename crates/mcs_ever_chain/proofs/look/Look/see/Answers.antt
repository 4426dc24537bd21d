use Rattle.std.proofs.Common.{None, List, subst}
use Rattle.mcs_ticks.specs.declared.row.Row.{Row}
use Rattle.mcs_ever.specs.Closed.{has}
use Rattle.mcs_ever_chain.specs.stored.Alone.{AreAlone}
use Rattle.mcs_ever_chain.proofs.Looking.{look-seen}
use Rattle.mcs_ever_chain.proofs.look.Look.see.Goals as goal

pub returns : goal.returns
returns c = λ system t rows is.
    let P : List Row → Type 0 = λ (rows : List Row). AreAlone (has c.args.self.now.home.set) None rows in
    look-seen system t c.args.self.now c.still_alone-self.result is (λ yes. let h = c.still_alone-self.ensures yes in (h.0, subst P rows h.1))
