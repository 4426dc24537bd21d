-- The lines of ways, worked by hand.
use Rattle.std.specs.Prelude.{◌≡◌, ◌++◌, ℕ, List, [], ◌∷◌, codes, refl}
use Rattle.std.specs.Fmt.{digits}
use Rattle.serde_json.proofs.OnLiterals.{serde_json_on_literals}
use Rattle.mcs_control.specs.declared.config.Mode.TheVariants as mode
use Rattle.mcs_system.specs.declared.part.ContextPart.{ContextPart}
use Rattle.mcs_system.specs.declared.part.ThreadPart.{ThreadPart}
use Rattle.mcs_system.specs.System.{System}
use Rattle.mcs_verdict.specs.declared.standing.Stood.{Stood}
use Rattle.mcs_way.specs.declared.leg.Carrier.{Carrier}
use Rattle.mcs_way.specs.declared.leg.Carrier.TheVariants as by
use Rattle.mcs_way.specs.declared.leg.Leg.{Leg}
use Rattle.mcs_way_lines.specs.Lines.{leg_object, way_objects, way_text}

abbrev context : ℕ → ContextPart
context core = record { name = []; core = core; config = record { budget = 9; period = 20; extra = 0 }; mode = mode.Sporadic }

abbrev thread : List ℕ → ℕ → ThreadPart
thread name context = record { name = name; context = context; priority = 5; start = 0; rounds = 0; deadline = 0; script = [] }

-- a camera on core 0, which a notification of that core wakes, and an actuator on core 1
system : System
system =
    record {
      cores = 2;
      delay = 3;
      call = 1;
      min_budget = 1;
      contexts = context 0 ∷ context 1 ∷ [];
      notes = record { name = codes "frame"; core = 0; word = 0 } ∷ [];
      threads = thread (codes "Camera") 0 ∷ thread (codes "Actuator") 1 ∷ [];
      orders = [];
      links = [];
      servers = 0;
      sources = [];
      beats = [];
      chains = [];
    }

abbrev stood : ℕ → ℕ → Stood
stood ready running = record { pending = 0; ready = ready; running = running; throttled = 0; blocked = 0; server = 0; done = 0 }

abbrev leg : ℕ → Carrier → ℕ → Leg
leg from carrier to = record { carrier = carrier; from = from; to = to }

-- 2 ticks held, 8 of the camera, 3 under way, 6 of the actuator: 19 ticks
abbrev way : List Leg
way =
    leg 40 (by.Note 0) 42 ∷ leg 42 (by.Thread 0 (stood 1 7)) 50 ∷ leg 50 (by.Signal 0 1) 53 ∷ leg 53 (by.Thread 1 (stood 0 6)) 59 ∷ []

as_text : way_text system way
    ≡ codes "40 0 held frame to 42 ticks 2\n"
    ++ codes "42 0 ran Camera to 50 ticks 8 ready 1 running 7 throttled 0 blocked 0 server 0\n"
    ++ codes "50 0 delay core 1 to 53 ticks 3\n"
    ++ codes "53 1 ran Actuator to 59 ticks 6 ready 0 running 6 throttled 0 blocked 0 server 0\n"
    ++ codes "sum ticks 19 held 2 delay 3 ready 1 running 13 throttled 0 blocked 0 server 0\n"
unfolding system digits
as_text = refl

-- no legs
as_no_text : way_text system [] ≡ codes "sum ticks 0 held 0 delay 0 ready 0 running 0 throttled 0 blocked 0 server 0\n"
unfolding system digits
as_no_text = refl

held_object : leg_object system (leg 40 (by.Note 0) 42)
    ≡ codes "{\"moment\":40,\"core\":0,\"kind\":\"held\",\"note\":\"frame\",\"to\":42,\"ticks\":2}\n"
unfolding system digits serde_json_on_literals
held_object = refl

ran_object : leg_object system (leg 53 (by.Thread 1 (stood 0 6)) 59)
    ≡ codes "{\"moment\":53,\"core\":1,\"kind\":\"ran\",\"thread\":\"Actuator\",\"to\":59,\"ticks\":6,"
    ++ codes "\"ready\":0,\"running\":6,\"throttled\":0,\"blocked\":0,\"server\":0}\n"
unfolding system digits serde_json_on_literals
ran_object = refl

delay_object : leg_object system (leg 50 (by.Signal 0 1) 53)
    ≡ codes "{\"moment\":50,\"core\":0,\"kind\":\"delay\",\"home\":1,\"to\":53,\"ticks\":3}\n"
unfolding system digits serde_json_on_literals
delay_object = refl

sum_object : way_objects system (leg 50 (by.Signal 0 1) 53 ∷ [])
    ≡ codes "{\"moment\":50,\"core\":0,\"kind\":\"delay\",\"home\":1,\"to\":53,\"ticks\":3}\n"
    ++ codes "{\"kind\":\"sum\",\"ticks\":3,\"held\":0,\"delay\":3,\"ready\":0,\"running\":0,\"throttled\":0,\"blocked\":0,\"server\":0}\n"
unfolding system digits serde_json_on_literals
sum_object = refl
