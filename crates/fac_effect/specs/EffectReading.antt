-- How far the tokens of an effect are read: what may come next, or that the effect is whole, or why it can't go on.
use Rattle.std.specs.Prelude.{◌≡◌, Result, Ok, Err, ℕ, suc, nat_lt, Bool, true, false, ◌&&◌, List, [], ◌∷◌, if◌then◌else◌}
use Rattle.fac_base.specs.declared.memory.Memory.{Memory}
use Rattle.fac_source.specs.declared.token.Token.{Token}
use Rattle.fac_effect.specs.declared.spelling.Spelling.{Spelling}
use Rattle.fac_effect.specs.declared.spelling.Spelling.TheVariants as spelled
use Rattle.fac_effect.specs.declared.effect_reader.Side.{Side}
use Rattle.fac_effect.specs.declared.effect_reader.Side.TheVariants.{Inputs, Outputs}
use Rattle.fac_effect.specs.declared.effect_reader.Spot.{Spot}
use Rattle.fac_effect.specs.declared.effect_reader.Spot.TheVariants.{Start, First, Behind, Described}
use Rattle.fac_effect.specs.declared.effect_reader.EffectWhy.{EffectWhy}
use Rattle.fac_effect.specs.declared.effect_reader.EffectWhy.TheVariants.{RowPlace, TooWide, Form}
use Rattle.fac_effect.specs.declared.effect_reader.EffectReader.{EffectReader}
use Rattle.fac_effect.specs.declared.effect_reader.EffectStep.{EffectStep}
use Rattle.fac_effect.specs.declared.effect_reader.EffectStep.TheVariants.{More, Whole, Refused}
use Rattle.fac_effect.specs.Spellings.{token_spelling}
use Rattle.fac_effect.specs.WrittenEffects.{most_names, is_row, is_colon}

-- how far tokens are read as those of an effect
pub data Progress : Type 0 where
  reads : EffectReader → Progress
  whole : Progress
  refused : EffectWhy → Progress

-- before the first token
abbrev pub start : EffectReader
start = record { side = Inputs; spot = Start; outer = []; names = 0 }

-- behind the `(` of the whole effect
abbrev pub opened : EffectReader
opened = record { side = Inputs; spot = First; outer = []; names = 0 }

-- behind the name of an entry, which ends in a colon or doesn't
abbrev pub behind_name : Bool → Spot
behind_name true = Described
behind_name false = Behind

-- one more name, of the entry or the class that may stand at a spot
abbrev pub place_name : Spot → Bool → EffectReader → Progress
place_name Start colon r = refused Form
place_name First colon r = reads (record { side = r.side; spot = behind_name colon; outer = r.outer; names = suc r.names })
place_name Behind colon r = reads (record { side = r.side; spot = behind_name colon; outer = r.outer; names = suc r.names })
place_name Described true r = refused Form
place_name Described false r = reads (record { side = r.side; spot = Behind; outer = r.outer; names = suc r.names })

-- whether an entry stands before a spot on its side, and is whole
abbrev pub is_behind : Spot → Bool
is_behind Behind = true
is_behind _ = false

abbrev pub name_step : EffectReader → (row : Bool) → (colon : Bool) → Progress
name_step r row colon = (if is_behind r.spot && row then refused RowPlace else if nat_lt r.names most_names then place_name r.spot colon r else refused TooWide)

abbrev pub opens_step : Spot → EffectReader → Progress
opens_step Start r = reads (record { side = Inputs; spot = First; outer = r.outer; names = r.names })
opens_step Described r = reads (record { side = Inputs; spot = First; outer = r.side ∷ r.outer; names = r.names })
opens_step _ r = refused Form

-- whether a side may end at a spot
abbrev pub may_end : Spot → Bool
may_end First = true
may_end Behind = true
may_end _ = false

abbrev pub dashes_step : Bool → Side → EffectReader → Progress
dashes_step true Inputs r = reads (record { side = Outputs; spot = First; outer = r.outer; names = r.names })
dashes_step _ _ r = refused Form

-- behind an effect: it is whole, or it describes an entry of the effect around it
abbrev pub closed : List Side → ℕ → Progress
closed [] names = whole
closed (side ∷ outer) names = reads (record { side = side; spot = Behind; outer = outer; names = names })

abbrev pub closes_step : Bool → Side → EffectReader → Progress
closes_step true Outputs r = closed r.outer r.names
closes_step _ _ r = refused Form

-- behind one more token of this spelling
abbrev pub step : EffectReader → Spelling → Token → Progress
step r spelled.Name t = name_step r (is_row t) (is_colon t)
step r spelled.Opens t = opens_step r.spot r
step r spelled.Dashes t = dashes_step (may_end r.spot) r.side r
step r spelled.Closes t = closes_step (may_end r.spot) r.side r
step r _ t = refused Form

abbrev pub go_on : Progress → Token → Progress
go_on (reads r) t = step r (token_spelling t.kind) t
go_on whole t = refused Form
go_on (refused why) t = refused why

abbrev pub run : Progress → List Token → Progress
run p [] = p
run p (t ∷ ts) = run (go_on p t) ts

-- whether each of these tokens passes a test where it is read
abbrev pub all_pass : (EffectReader → Spelling → Token → Bool) → Progress → List Token → Bool
all_pass test p [] = true
all_pass test (reads r) (t ∷ ts) = test r (token_spelling t.kind) t && all_pass test (step r (token_spelling t.kind) t) ts
all_pass test _ (t ∷ ts) = true

-- how far these tokens are read
abbrev pub after : List Token → Progress
after tokens = run (reads start) tokens

-- What a reader answers to one more token. Only where the effect goes on it isn't as it was.
abbrev pub Takes : Progress → EffectReader → EffectReader → Result EffectStep Memory → Type 0
Takes p before now (Err memory) = now ≡ before
Takes (reads r) before now (Ok More) = now ≡ r
Takes whole before now (Ok Whole) = now ≡ before
Takes (refused why) before now (Ok (Refused other)) = (why ≡ other) × (now ≡ before)
Takes p before now (Ok taken) = ⊥
