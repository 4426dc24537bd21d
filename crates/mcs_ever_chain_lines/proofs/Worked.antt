-- The lines of chains, worked by hand.
use Rattle.std.specs.Prelude.{◌≡◌, ◌++◌, [], ◌∷◌, Some, None, codes, refl}
use Rattle.std.specs.Fmt.{digits}
use Rattle.serde_json.proofs.OnLiterals.{serde_json_on_literals}
use Rattle.mcs_system.specs.System.{System}
use Rattle.mcs_ever_told.specs.declared.line.LineFormat.TheVariants as format
use Rattle.mcs_ever_told.specs.declared.line.Often.TheVariants.{Forever, SoFar}
use Rattle.mcs_ever_chain.specs.declared.told.ChainTold.{ChainTold}
use Rattle.mcs_ever_chain_lines.specs.Lines.{chains_text, findings_of}

-- two chains
system : System
system =
    record {
      cores = 1;
      delay = 1;
      call = 1;
      min_budget = 1;
      contexts = [];
      notes = [];
      threads = [];
      orders = [];
      links = [];
      servers = 0;
      sources = [];
      beats = [];
      chains =
          record { name = codes "packet"; source = 0; thread = 0; badges = 0; deadline = 9 }
          ∷ record { name = codes "C"; source = 0; thread = 0; badges = 0; deadline = 0 } ∷ [];
    }

-- a chain whose answers recur: one answer in each period, and none of them slow
fast : ChainTold
fast =
    record {
      chain = 1;
      period = Some (record { from = 72; ticks = 20 });
      greatest = Some 11;
      answers = Forever 3 1;
      slow = Forever 0 0;
      unanswered = None;
    }

-- the same of the other chain, with slow answers, and interrupts without an answer
late : ChainTold
late = record fast { chain = 0; answers = Forever 3 2; slow = Forever 1 2; unanswered = Some (Forever 3 1) }

-- a chain that was not found to recur
seen : ChainTold
seen = record { chain = 0; period = None; greatest = Some 11; answers = SoFar 12; slow = SoFar 12; unanswered = Some (SoFar 3) }

-- no answer so far, and nothing is late
silent : ChainTold
silent = record { chain = 1; period = None; greatest = None; answers = SoFar 0; slow = SoFar 0; unanswered = None }

-- each answer is slow, and none is under way between two periods
between : ChainTold
between = record late { slow = Forever 0 2; unanswered = Some (Forever 0 0) }

as_text : chains_text system format.Text 100000 (fast ∷ late ∷ [])
    ≡ codes "chain C: repeats from 72 with period 20, greatest latency 11, answers 1 in each period\n"
    ++ codes "chain packet: repeats from 72 with period 20, greatest latency 11, answers 2 in each period\n"
    ++ codes "slow packet: 2 in each period, 1 before\n"
    ++ codes "unanswered packet: 1 in each period, 3 before\n"
unfolding system fast late digits
as_text = refl

so_far : chains_text system format.Text 100000 (seen ∷ silent ∷ [])
    ≡ codes "chain packet: no repetition found up to 100000, greatest latency 11 so far, answers 12 so far\n"
    ++ codes "slow packet: 12 so far\n"
    ++ codes "unanswered packet: 3 so far\n"
    ++ codes "chain C: no repetition found up to 100000, greatest latency - so far, answers 0 so far\n"
unfolding system seen silent digits
so_far = refl

-- a period without an answer
no_answer : chains_text system format.Text 9 (record fast { greatest = None; answers = Forever 0 0 } ∷ [])
    ≡ codes "chain C: repeats from 72 with period 20, greatest latency -, answers 0 in each period\n"
unfolding system fast digits
no_answer = refl

no_chains : chains_text system format.Json 9 [] ≡ []
no_chains = refl

as_objects : chains_text system format.Json 100000 (fast ∷ late ∷ [])
    ≡ codes "{\"kind\":\"chain\",\"chain\":\"C\",\"from\":72,\"period\":20,\"greatest\":11,\"answers\":1}\n"
    ++ codes "{\"kind\":\"chain\",\"chain\":\"packet\",\"from\":72,\"period\":20,\"greatest\":11,\"answers\":2,\"deadline\":9}\n"
    ++ codes "{\"kind\":\"slow\",\"chain\":\"packet\",\"each_period\":2,\"before\":1}\n"
    ++ codes "{\"kind\":\"unanswered\",\"chain\":\"packet\",\"each_period\":1,\"before\":3}\n"
unfolding system fast late digits serde_json_on_literals
as_objects = refl

objects_so_far : chains_text system format.Json 100000 (seen ∷ silent ∷ [])
    ≡ codes "{\"kind\":\"chain\",\"chain\":\"packet\",\"horizon\":100000,\"greatest\":11,\"answers\":12,\"deadline\":9}\n"
    ++ codes "{\"kind\":\"slow\",\"chain\":\"packet\",\"so_far\":12}\n"
    ++ codes "{\"kind\":\"unanswered\",\"chain\":\"packet\",\"so_far\":3}\n"
    ++ codes "{\"kind\":\"chain\",\"chain\":\"C\",\"horizon\":100000,\"answers\":0}\n"
unfolding system seen silent digits serde_json_on_literals
objects_so_far = refl

-- a count of 0 has no line if a slow answer tells that one was late, and has one if nothing else does
between_text : chains_text system format.Text 9 (between ∷ [])
    ≡ codes "chain packet: repeats from 72 with period 20, greatest latency 11, answers 2 in each period\n"
    ++ codes "slow packet: 2 in each period, 0 before\n"
unfolding system between late fast digits
between_text = refl

alone_text : chains_text system format.Text 9 (record fast { unanswered = Some (Forever 0 0) } ∷ [])
    ≡ codes "chain C: repeats from 72 with period 20, greatest latency 11, answers 1 in each period\n"
    ++ codes "unanswered C: 0 in each period, 0 before\n"
unfolding system fast digits
alone_text = refl

many : (findings_of fast ≡ 0) × (findings_of late ≡ 2) × (findings_of silent ≡ 0) × (findings_of between ≡ 1)
unfolding between late fast silent
many = (refl, refl, refl, refl)
