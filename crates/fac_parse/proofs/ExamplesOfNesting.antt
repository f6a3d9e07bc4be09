-- Levels, elements, locals and holes of small nodes.
use Rattle.std.specs.Prelude.{◌≡◌, Some, None, [], ◌∷◌, codes}
use Rattle.std.proofs.Common.{refl, arith}
use Rattle.fac_source.specs.declared.tree.Term.TheVariants as term
use Rattle.fac_source.specs.declared.tree.Bracket.TheVariants.{Quotation, Array, Fry}
use Rattle.fac_parse.specs.Nesting.{Node, single, enclosed, with_inputs, Nodes, nothing, more, levels, holes, scope_behind, LocalsFit, HolesFit}
use Rattle.fac_parse.proofs.ExamplesOfArrays.{here, w}

abbrev alone : Node → Nodes
alone x = more x nothing

abbrev in_quotation : Nodes → Node
in_quotation xs = enclosed Quotation here xs here

abbrev in_fry : Nodes → Node
in_fry xs = enclosed Fry here xs here

abbrev in_array : Nodes → Node
in_array xs = enclosed Array here xs here

abbrev hole : Node
hole = single (term.Hole here)

abbrev binding : Node
binding = single (term.Bind here (w (codes "x")))

-- `[ { } ] '[ ]`
pub two_levels : levels (more (in_quotation (alone (in_array nothing))) (alone (in_fry nothing))) ≡ 2
two_levels = refl

-- `_ [ _ ] '[ _ ]` in a fry: two of its own
pub own_holes : holes (more hole (more (in_quotation (alone hole)) (alone (in_fry (alone hole))))) ≡ 2
own_holes = refl

-- a hole in a quotation of an array in a fry is refused
pub no_hole_in_array : HolesFit (alone (in_fry (alone (in_array (alone (in_quotation (alone hole))))))) → ⊥
no_hole_in_array h = let one : 1 ≡ 0 = h.0.1.0.0 in omega (arith, one)

-- `_` in a fry in a quotation of an array is that fry's
pub hole_of_fry : HolesFit (alone (in_array (alone (in_quotation (alone (in_fry (alone hole)))))))
hole_of_fry = ((refl, ((tt, ((omega arith, (tt, tt)), tt)), tt)), tt)

-- `:> x` where no local may be bound, and in a quotation with locals
pub no_binding : LocalsFit None (alone binding) → ⊥
no_binding h = h.0

pub bound_inside : LocalsFit None (alone (with_inputs here (w (codes "a") ∷ []) here (more binding (alone (in_quotation (alone binding)))) here))
bound_inside = ((omega arith, (omega arith, ((omega arith, tt), tt))), tt)

-- a local of a quotation ends with it
pub one_local : scope_behind (Some 3) (in_quotation (alone binding)) ≡ Some 3
one_local = refl
