-- The words that the words of a small program lead to, and which of them break the rule.
use Rattle.std.proofs.Common.{◌≡◌, List, [], ◌∷◌, Bool, true, false, None, refl}
use Rattle.std.specs.Prelude.{codes}
use Rattle.fac_lang.specs.declared.program.Program.{Program}
use Rattle.fac_lang.specs.declared.program.WordDef.{WordDef}
use Rattle.fac_lang.specs.declared.program.Sort.TheVariants.{Body as body}
use Rattle.fac_base.specs.Signatures.{signature, no_inputs, leaves}
use Rattle.fac_lang.specs.Phrases.{Item, word}
use Rattle.fac_lang.proofs.DemoWords.{phrase, quotation, itself}
use Rattle.fac_lang.proofs.DemoPrelude.{word_of}
use Rattle.fac_check.specs.inner.UndeclaredRecursion.{edges_from}
use Rattle.fac_check.specs.Judged.{undeclared_from}

-- a word with this phrase, marked `inline` or not, and `recursive` or not
abbrev written : Bool → Bool → List Item → WordDef
written inline recursive is = word_of (codes "scratchpad") (codes "w") (body (phrase is)) (signature None no_inputs (leaves None [])) inline recursive

-- 0 and 1 lead to each other, 2 is recursive, 3 is ordinary, and 4 leads to all of them
abbrev words : List WordDef
words = written true false (word 1 ∷ []) ∷ written true false (itself (word 0) ∷ word 3 ∷ []) ∷ written true true (quotation (word 2 ∷ []) ∷ word 2 ∷ []) ∷ written false false (word 3 ∷ word 0 ∷ []) ∷ written true false (word 3 ∷ quotation (quotation (word 2 ∷ []) ∷ word 0 ∷ []) ∷ word 1 ∷ []) ∷ []

abbrev program : Program
program = record { words = words; arrays = []; classes = []; top = 3 }

-- ordinary words aren't followed, and a recursive word's own mention is left out
pub edges_are : edges_from program 0 words ≡ (1 ∷ []) ∷ (0 ∷ []) ∷ [] ∷ [] ∷ (2 ∷ 0 ∷ 1 ∷ []) ∷ []
edges_are = refl

pub breaking_are : undeclared_from program 0 words ≡ true ∷ true ∷ false ∷ false ∷ false ∷ []
breaking_are = refl
