use Rattle.mcs_ever_chain_lines.proofs.text.append_repeats.Goals as goal

pub returns-clause-ok : goal.returns-clause-ok
returns-clause-ok c =
    rw (c.chain_name.ensures, c.get.ensures.value, c.known_listed.ensures, c.times_of.ensures) at c.append_line.ensures.ok
