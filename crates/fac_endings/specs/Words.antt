-- Words as forms tell them.
use Rattle.std.specs.Prelude.{ℕ, List, [], None, false, codes}
use Rattle.fac_lang.specs.Phrases.{Phrase}
use Rattle.fac_base.specs.Signatures.{Signature, signature, no_inputs, leaves}
use Rattle.fac_base.specs.declared.place.Place.{Place}
use Rattle.fac_lang.specs.declared.program.Sort.{Sort}
use Rattle.fac_lang.specs.declared.program.Sort.TheVariants.{Body as body}
use Rattle.fac_lang.specs.declared.program.WordDef.{WordDef}

abbrev pub no_effect : Signature
no_effect = signature None no_inputs (leaves None [])

abbrev pub plain_word : List ℕ → List ℕ → Sort → Signature → Place → WordDef
plain_word vocab name sort effect place = record { name = record { vocab = vocab; name = name }; sort = sort; effect = effect; inline = false; recursive = false; place = place }

-- where a word stands that no source defines
abbrev pub nowhere : Place
nowhere = record { file = 0; token = 0 }

-- the word of the top-level phrase
abbrev pub top_word : Phrase → WordDef
top_word phrase = plain_word [] (codes "top-level") (body phrase) no_effect nowhere
