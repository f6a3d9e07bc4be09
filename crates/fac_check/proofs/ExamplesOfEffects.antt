-- Examples of the effects of literals, in a program with no words of its own.
use Rattle.std.proofs.Common.{◌≡◌, ℕ, List, [], ◌∷◌, ◌++◌, true, false, Option, Some, None, refl}
use Rattle.std.specs.Prelude.{codes, pos}
use Rattle.fac_base.specs.declared.height.Height.{Height}
use Rattle.fac_lang.specs.declared.program.Program.{Program}
use Rattle.fac_lang.specs.declared.program.Sort.TheVariants.{Body as body}
use Rattle.fac_base.specs.Signatures.{Signature, signature, no_inputs, quoted, leaves}
use Rattle.fac_lang.specs.Phrases.{int, end, Item, held, plain, of_phrase}
use Rattle.fac_lang.specs.Primitives.{prim_numbered}
use Rattle.fac_lang.proofs.DemoPrelude.{word_of, shared_words, built_in_classes}
use Rattle.fac_lang.proofs.DemoWords.{phrase, quotation, drop, + as plus, throw, call, if, own_number, own}
use Rattle.fac_abs.specs.Marks.{mark_eq}
use Rattle.fac_check.specs.CallableEffects.{callable_height}

abbrev program : Program
program = record { words = shared_words ++ word_of (codes "scratchpad") (codes "top-level") (body end) (signature None no_inputs (leaves None [])) false false ∷ []; arrays = []; classes = built_in_classes; top = own_number 0 }

abbrev effect_of : List Item → Option Height
effect_of is = callable_height program (of_phrase (phrase is))

abbrev height : ℕ → ℕ → Option Height
height i o = Some (record { ins = i; outs = Some o })

-- [ + ]
of_plus : effect_of (plus ∷ []) ≡ height 2 1
unfolding prim_numbered mark_eq
of_plus = refl

-- [ ]
of_nothing : effect_of [] ≡ height 0 0
unfolding prim_numbered mark_eq
of_nothing = refl

-- [ drop drop ]: with one input the second item finds none
of_drops : effect_of (drop ∷ drop ∷ []) ≡ height 2 0
unfolding prim_numbered mark_eq
of_drops = refl

-- [ [ drop ] [ drop ] if ]
of_branches : effect_of (quotation (drop ∷ []) ∷ quotation (drop ∷ []) ∷ if ∷ []) ≡ height 2 0
unfolding prim_numbered mark_eq
of_branches = refl

-- [ [ throw ] [ ] if ]: the branch that returns tells what is left
of_one_branch : effect_of (quotation (throw ∷ []) ∷ quotation ([]) ∷ if ∷ []) ≡ height 2 1
unfolding prim_numbered mark_eq
of_one_branch = refl

-- [ throw + ] never returns, so nothing of what stands behind is looked at
of_throw : effect_of (throw ∷ plus ∷ []) ≡ Some (record { ins = 1; outs = None })
unfolding prim_numbered mark_eq
of_throw = refl

-- [ [ + ] ] leaves the quotation, and [ [ + ] call ] runs it
of_quotation : effect_of (quotation (plus ∷ []) ∷ []) ≡ height 0 1
unfolding prim_numbered mark_eq
of_quotation = refl

of_called : effect_of (quotation (plus ∷ []) ∷ call ∷ []) ≡ height 2 1
unfolding prim_numbered mark_eq
of_called = refl

-- [ a + ] where it holds 1 for a, which is no input
of_held : effect_of (held (plain (int (pos 1))) ∷ plus ∷ []) ≡ height 1 1
unfolding prim_numbered mark_eq
of_held = refl

-- [ call ]: nothing is known of an input
of_call : effect_of (call ∷ []) ≡ None
unfolding prim_numbered mark_eq
of_call = refl

-- A row word whose quotation has to leave one value more than it hands on: : w ( ..a q: ( ..a -- ..b x ) -- ..b ) call drop ; inline
abbrev effect_of_w : Signature
effect_of_w = signature (Some (codes "a")) (quoted (codes "q") (signature (Some (codes "a")) no_inputs (leaves (Some (codes "b")) (codes "x" ∷ []))) no_inputs) (leaves (Some (codes "b")) [])

abbrev with_w : Program
with_w = record {
  words = shared_words ++ word_of (codes "scratchpad") (codes "w") (body (phrase (call ∷ drop ∷ []))) effect_of_w true false ∷ word_of (codes "scratchpad") (codes "top-level") (body end) (signature None no_inputs (leaves None [])) false false ∷ [];
  arrays = [];
  classes = built_in_classes;
  top = own_number 1;
}

-- [ [ ] w ]: with no input the quotation leaves too few values for the rows, and with one it leaves that
of_rows : callable_height with_w (of_phrase (phrase (quotation ([]) ∷ own 0 ∷ []))) ≡ height 1 0
unfolding prim_numbered mark_eq
of_rows = refl
