-- Lines of named values, worked by hand.
use Rattle.std.proofs.Common.{◌≡◌, ◌∷◌, [], List, codes, false, refl}
use Rattle.std.specs.Fmt.{digits}
use Rattle.serde_json.proofs.OnLiterals.{serde_json_on_literals}
use Rattle.mcs_fields.specs.Fields.{Text, Value, amount, below, empty, joined, listed, name, names_text, object_text, row_text}

-- a signal that was lost has a word and no response
abbrev lost : List (Text × Value)
lost = (codes "moment", amount 20) ∷ (codes "kind", name (codes "lost")) ∷ (codes "response", empty) ∷ (codes "word", amount 1) ∷ []

row : row_text (amount 20 ∷ name (codes "lost") ∷ empty ∷ amount 1 ∷ []) ≡ codes "20,lost,,1\n"
unfolding digits
row = refl

names : names_text (codes "moment" ∷ codes "kind" ∷ codes "response" ∷ codes "word" ∷ []) ≡ codes "moment,kind,response,word\n"
names = refl

member : object_text lost ≡ codes "{\"moment\":20,\"kind\":\"lost\",\"word\":1}\n"
unfolding serde_json_on_literals digits
member = refl

-- a margin that is below 0, and one of 0
margins : row_text (below 3 ∷ below 0 ∷ []) ≡ codes "-3,0\n"
unfolding digits
margins = refl

margin : object_text ((codes "margin", below 3) ∷ []) ≡ codes "{\"margin\":-3}\n"
unfolding serde_json_on_literals digits
margin = refl

-- names, and no name
takers : object_text ((codes "by", listed (codes "Worker" ∷ codes "Other" ∷ [])) ∷ (codes "word", amount 1) ∷ []) ≡ codes "{\"by\":[\"Worker\",\"Other\"],\"word\":1}\n"
unfolding serde_json_on_literals digits
takers = refl

nobody : object_text ((codes "by", listed []) ∷ []) ≡ codes "{\"by\":[]}\n"
unfolding serde_json_on_literals
nobody = refl

takers_joined : joined false (codes "Worker" ∷ codes "Other" ∷ []) ≡ codes "Worker,Other"
takers_joined = refl
