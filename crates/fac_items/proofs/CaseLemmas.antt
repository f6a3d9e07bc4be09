-- Whether the elements of an array are those that `cond` reads.
use Rattle.std.proofs.Common.{◌≡◌, Bool, true, false, refl, ap, ◌∙◌}
use Rattle.fac_items.specs.declared.cases.Cases.{Cases}
use Rattle.fac_items.specs.declared.cases.Cases.TheVariants.{Nothing, OneQuotation, TwoQuotations, Pairs, Other}
use Rattle.fac_items.specs.declared.cases.Child.{Child}
use Rattle.fac_items.specs.declared.cases.Child.TheVariants as child
use Rattle.fac_items.specs.Written.{Node, n_array, n_quot, Nodes, nothing, more}
use Rattle.fac_items.specs.Readings.{are_pairs}
use Rattle.fac_items.specs.inner.CaseLists.{are_cases, array_child, with_child}

-- what nodes are as elements
abbrev mutual
  pub cases_in : Nodes → Cases
  cases_in nothing = Nothing
  cases_in (more n ns) = with_child (child_node n) (cases_in ns)

  pub child_node : Node → Child
  child_node (n_quot ns p) = child.Quotation
  child_node (n_array es p) = array_child (cases_in es)
  child_node n = child.Other

abbrev is_nothing : Cases → Bool
is_nothing Nothing = true
is_nothing cs = false

some_child : (c : Child) (cs : Cases) → is_nothing (with_child c cs) ≡ false
some_child child.Quotation Nothing = refl
some_child child.Quotation OneQuotation = refl
some_child child.Quotation TwoQuotations = refl
some_child child.Quotation Pairs = refl
some_child child.Quotation Other = refl
some_child child.Pair Nothing = refl
some_child child.Pair OneQuotation = refl
some_child child.Pair TwoQuotations = refl
some_child child.Pair Pairs = refl
some_child child.Pair Other = refl
some_child child.Other cs = refl

some_nodes : (n : Node) (ns : Nodes) → is_nothing (cases_in (more n ns)) ≡ false
some_nodes n ns = some_child (child_node n) (cases_in ns)

-- a quotation is the last case
quotation_last : (cs : Cases) → is_nothing cs ≡ false → are_cases (with_child child.Quotation cs) ≡ false
quotation_last Nothing h = absurd (cc)
quotation_last OneQuotation h = refl
quotation_last TwoQuotations h = refl
quotation_last Pairs h = refl
quotation_last Other h = refl

-- no third element makes a pair
third_child : (cs : Cases) → is_nothing cs ≡ false → array_child (with_child child.Quotation (with_child child.Quotation cs)) ≡ child.Other
third_child Nothing h = absurd (cc)
third_child OneQuotation h = refl
third_child TwoQuotations h = refl
third_child Pairs h = refl
third_child Other h = refl

-- nor does a pair
pair_child : (cs : Cases) → array_child (with_child child.Pair cs) ≡ child.Other
pair_child Nothing = refl
pair_child OneQuotation = refl
pair_child TwoQuotations = refl
pair_child Pairs = refl
pair_child Other = refl

-- nor a pair behind a quotation
pair_second : (cs : Cases) → array_child (with_child child.Quotation (with_child child.Pair cs)) ≡ child.Other
pair_second Nothing = refl
pair_second OneQuotation = refl
pair_second TwoQuotations = refl
pair_second Pairs = refl
pair_second Other = refl

array_first : (xs cs : Cases) → array_child (with_child (array_child xs) cs) ≡ child.Other
array_first TwoQuotations cs = pair_child cs
array_first Nothing cs = refl
array_first OneQuotation cs = refl
array_first Pairs cs = refl
array_first Other cs = refl

array_second : (xs cs : Cases) → array_child (with_child child.Quotation (with_child (array_child xs) cs)) ≡ child.Other
array_second TwoQuotations cs = pair_second cs
array_second Nothing cs = refl
array_second OneQuotation cs = refl
array_second Pairs cs = refl
array_second Other cs = refl

-- a pair before cases
pair_before : (cs : Cases) → are_cases (with_child child.Pair cs) ≡ are_cases cs
pair_before Nothing = refl
pair_before OneQuotation = refl
pair_before TwoQuotations = refl
pair_before Pairs = refl
pair_before Other = refl

no_pair : (c : Child) (cs : Cases) → c ≡ child.Other → are_cases (with_child c cs) ≡ false
no_pair c cs h = ap (λ (x : Child). are_cases (with_child x cs)) h

pub all_cases : (es : Nodes) → are_cases (cases_in es) ≡ are_pairs es
all_cases nothing = refl
all_cases (more (n_quot d p) nothing) = refl
all_cases (more (n_quot d p) (more n ns)) = quotation_last (cases_in (more n ns)) (some_nodes n ns)
all_cases (more (n_array nothing r) es) = refl
all_cases (more (n_array (more (n_quot t p) nothing) r) es) = refl
all_cases (more (n_array (more (n_quot t p) (more (n_quot b q) nothing)) r) es) = pair_before (cases_in es) ∙ all_cases es
all_cases (more (n_array (more (n_quot t p) (more (n_quot b q) (more n ns))) r) es) = no_pair _ (cases_in es) (third_child (cases_in (more n ns)) (some_nodes n ns))
all_cases (more (n_array (more (n_quot t p) (more (n_array xs q) ns)) r) es) = no_pair _ (cases_in es) (array_second (cases_in xs) (cases_in ns))
all_cases (more (n_array (more (n_quot t p) (more n ns)) r) es) = refl
all_cases (more (n_array (more (n_array xs q) ns) r) es) = no_pair _ (cases_in es) (array_first (cases_in xs) (cases_in ns))
all_cases (more (n_array (more n ns) r) es) = refl
all_cases (more n es) = refl
