-- Words as they are at the end of the program.
use Rattle.std.specs.Prelude.{ℕ, [], ◌∷◌, List, length, Option, Some, None}
use Rattle.fac_lang.specs.Classes.{slots_within}
use Rattle.fac_base.specs.Signatures.{Signature}
use Rattle.fac_lang.specs.Whole.{plain_effect}
use Rattle.fac_lang.specs.declared.program.ClassDef.{ClassDef}
use Rattle.fac_lang.specs.declared.program.Sort.{Sort}
use Rattle.fac_lang.specs.declared.program.Sort.TheVariants.{Body as body, Method as method}
use Rattle.fac_lang.specs.declared.program.WordDef.{WordDef}
use Rattle.fac_source.specs.declared.tok.Ref.{Ref}
use Rattle.fac_source.specs.Toks.{number}
use Rattle.fac_endings.specs.declared.draft.Draft.{Draft}
use Rattle.fac_endings.specs.declared.draft.Late.{Late}
use Rattle.fac_endings.specs.declared.draft.Late.TheVariants.{Settled as settled, Deferred as deferred, Maker as maker, Method as method_of}
use Rattle.fac_endings.specs.Words.{no_effect}
use Rattle.fac_endings.specs.ClassTable.{class_at, word_at}

-- the effect of a `C:`: the slots of its class, and its value
abbrev pub maker_effect : List ClassDef → Ref → ℕ → Signature
maker_effect cs r c = plain_effect (slots_within (length cs) cs c) (r.tok.text ∷ [])

abbrev pub effect_of_word : Option WordDef → Signature
effect_of_word None = no_effect
effect_of_word (Some d) = d.effect

abbrev pub with_maker : List ClassDef → Ref → Option ℕ → WordDef → WordDef
with_maker cs r None w = w
with_maker cs r (Some c) w = record w { effect = maker_effect cs r c }

-- a word whose phrase is a method's on a class, of the generic with this number and effect
abbrev pub as_method : Option ℕ → ℕ → Signature → Sort → WordDef → WordDef
as_method (Some c) g e (body t) w = record w { sort = method c g t; effect = e }
as_method _ g e s w = w

abbrev pub finished_by : List Draft → List ClassDef → WordDef → Late → WordDef
finished_by ds cs w settled = w
finished_by ds cs w deferred = w
finished_by ds cs w (maker r) = with_maker cs r (class_at ds r) w
finished_by ds cs w (method_of c g) = as_method (class_at ds c) (number g.word) (effect_of_word (word_at ds g)) w.sort w

-- a word at the end of the program
abbrev pub finished : List Draft → List ClassDef → Draft → WordDef
finished ds cs d = finished_by ds cs d.word d.late
