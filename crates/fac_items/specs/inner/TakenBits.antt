-- What bits come to, one after another, and the first refusal in them.
use Rattle.std.specs.Prelude.{ℕ, zero, suc, ◌-◌, List, [], ◌∷◌, ◌++◌, length, drop, fold, map, reverse, Option, Some, None, codes, Bool}
use Rattle.fac_lang.specs.PhraseView.{items_phrase}
use Rattle.fac_lang.specs.Phrases.{Plain, wrd, Phrase, end, then, Item, lit, lit_arr, quot, word, bind, local, fry, hole, call_effect, execute_effect, next_method}
use Rattle.fac_lang.specs.RunningLaws.{append}
use Rattle.fac_base.specs.declared.place.Place.{Place}
use Rattle.fac_lang.specs.declared.program.Lit.{Lit}
use Rattle.fac_lang.specs.declared.program.Lit.TheVariants as literal_is
use Rattle.fac_source.specs.declared.tree.Bracket.{Bracket}
use Rattle.fac_source.specs.declared.tree.Bracket.TheVariants.{Quotation, Array, Fry}
use Rattle.fac_source.specs.declared.tree.Element.{Element}
use Rattle.fac_source.specs.declared.refusal.NameFault.{NameFault}
use Rattle.fac_source.specs.declared.refusal.NameKind.TheVariants.{Twice}
use Rattle.fac_source.specs.Refusals.{fault_if, sooner}
use Rattle.fac_source.specs.Toks.{is_among, number}
use Rattle.fac_vocab.specs.Scopes.{Scope, word_held}
use Rattle.fac_items.specs.declared.content.Content.{Content}
use Rattle.fac_items.specs.declared.content.Content.TheVariants.{Items, Elements}
use Rattle.fac_items.specs.declared.added.Added.{Added}
use Rattle.fac_items.specs.declared.added.Added.TheVariants as add
use Rattle.fac_items.specs.declared.spelled.NameAt.{NameAt}
use Rattle.fac_items.specs.declared.nest.Around.{Around as AroundTaken}
use Rattle.fac_items.specs.declared.nest.Around.TheVariants as around_is
use Rattle.fac_items.specs.declared.nest.At.{At}
use Rattle.fac_items.specs.declared.nest.At.TheVariants.{Inside, Cases}
use Rattle.fac_items.specs.declared.nest.Spot.{Spot}
use Rattle.fac_items.specs.declared.nest.Spot.TheVariants.{Between, BeforeFirst, BeforeSecond, BehindSecond, BehindLast}
use Rattle.fac_items.specs.Written.{Tok, Node, n_lit, n_ref, n_name, n_call_effect, n_execute_effect, n_next, n_bind, n_hole, n_at}
use Rattle.fac_items.specs.Items.{is_cond, literal, local_of, search_fault, word_of}
use Rattle.fac_items.specs.inner.Behind.{all_scanned, none_scanned}
use Rattle.fac_items.specs.inner.Bits.{Bit, all_bits, leaf, opens, opens_array, opens_locals, closes}

-- What a phrase or an array has so far.
pub data Kept : Type 0 where
  a_phrase : Phrase → Kept
  some_elements : List Lit → Kept

abbrev pub content_seen : Content → Kept
content_seen (Items items) = a_phrase (items_phrase items.items)
content_seen (Elements elements) = some_elements elements.items

-- the locals of names of which the last one is the innermost
abbrev pub locals_seen : List NameAt → List (List ℕ)
locals_seen ns = reverse (map (λ (n : NameAt). n.text.now) ns)

-- A bracket that is open: what stands before it, its place, and what comes back behind it.
pub data Around : Type 0 where
  -- a quotation in a phrase: how many locals there were, a word that is added behind it, and where one stood among pairs
  in_quotation : Kept → Place → ℕ → Option (Added × Place) → At → Around
  -- a fry, or a quotation in an array: how many locals, and the holes of around
  in_fresh : Kept → Place → ℕ → ℕ → Around
  -- an array: the locals and the holes of around
  in_array : Kept → Place → List (List ℕ) → ℕ → Around
  -- the last quotation before a `cond`, whose items stand where the array stands
  in_last : ℕ → At → Around

abbrev pub around_seen : AroundTaken → Around
around_seen (around_is.Quotation before place count added at) = in_quotation (content_seen before) place count added at
around_seen (around_is.Fresh before place count holes) = in_fresh (content_seen before) place count holes
around_seen (around_is.Array before place locals holes) = in_array (content_seen before) place (locals_seen locals.items) holes
around_seen (around_is.Last count at) = in_last count at

-- what was taken, where the innermost bracket that is open comes first
pub record Taken : Type 0 where
  pub outer : List Around
  pub at : At
  pub content : Kept
  pub locals : List (List ℕ)
  pub holes : ℕ
  pub arrays : List (List Lit)
  pub first : Option NameFault

-- Items without a bracket.

-- an item, which stands in no array
abbrev pub with_item : Item → Place → Kept → Kept
with_item i p (a_phrase t) = a_phrase (append t (then i p end))
with_item i p (some_elements ls) = some_elements ls

abbrev pub with_literal : Plain → Place → Kept → Kept
with_literal l p (a_phrase t) = a_phrase (append t (then (lit l) p end))
with_literal l p (some_elements ls) = some_elements (ls ++ literal l ∷ [])

-- a word as a value
abbrev pub with_reference : ℕ → Place → Kept → Kept
with_reference w p (a_phrase t) = a_phrase (append t (then (lit (wrd w)) p end))
with_reference w p (some_elements ls) = some_elements (ls ++ literal_is.Wref w ∷ [])

abbrev pub item_taken : Item → Place → Taken → Taken
item_taken i p n = record n { content = with_item i p n.content }

-- a name that is no local
abbrev pub searched : Scope → Tok → Taken → Taken
searched s t n = record n { first = fold sooner n.first (search_fault s t) }

abbrev pub name_as : Scope → Tok → Place → Option ℕ → Taken → Taken
name_as s t p (Some x) n = item_taken (local x) p n
name_as s t p None n = item_taken (word (word_of s t)) p (searched s t n)

abbrev pub name_in : Scope → Tok → Place → Kept → Taken → Taken
name_in s t p (a_phrase u) n = name_as s t p (local_of n.locals t.text) n
name_in s t p (some_elements ls) n = searched s t (record n { content = some_elements (ls ++ literal_is.Wref (word_of s t) ∷ []) })

abbrev pub reference_taken : Scope → Tok → Place → Taken → Taken
reference_taken s t p n = searched s t (record n { content = with_reference (word_of s t) p n.content })

abbrev pub bound_taken : Tok → Bool → Place → Taken → Taken
bound_taken t twice p n = record n { content = with_item (bind (length n.locals)) p n.content; locals = t.text ∷ n.locals; first = fold sooner n.first (fault_if twice Twice t) }

-- the inputs of a quotation or definition, of which the last one is bound first; `earlier` are the inputs before these
abbrev pub all_bound : List Tok → List (List ℕ) → Taken → Taken
all_bound [] earlier n = n
all_bound (t ∷ ts) earlier n = bound_taken t (is_among t.text earlier) t.place (all_bound ts (t.text ∷ earlier) n)

abbrev pub hole_taken : Place → Taken → Taken
hole_taken p n = record n { content = with_item (hole n.holes) p n.content; holes = suc n.holes }

-- The words that readings add.

abbrev pub added_vocab : Added → List ℕ
added_vocab add.Call = codes "kernel"
added_vocab add.If = codes "kernel"
added_vocab add.NoCond = codes "combinators.private"

abbrev pub added_name : Added → List ℕ
added_name add.Call = codes "call"
added_name add.If = codes "if"
added_name add.NoCond = codes "(no-cond)"

abbrev pub added_item : Scope → Added → Item
added_item s a = word (number (word_held s.table (added_vocab a) (added_name a)))

abbrev pub added_taken : Scope → Added → Place → Taken → Taken
added_taken s a p n = item_taken (added_item s a) p n

abbrev pub leaf_inside : Scope → Node → Taken → Taken
leaf_inside s (n_lit l p) n = record n { content = with_literal l p n.content }
leaf_inside s (n_name t p) n = name_in s t p n.content n
leaf_inside s (n_ref t p) n = reference_taken s t p n
leaf_inside s (n_call_effect h p) n = item_taken (call_effect h) p n
leaf_inside s (n_execute_effect h p) n = item_taken (execute_effect h) p n
leaf_inside s (n_next p) n = item_taken next_method p n
leaf_inside s (n_bind t twice p) n = bound_taken t twice p n
leaf_inside s (n_hole p) n = hole_taken p n
leaf_inside s (n_at p) n = added_taken s add.Call p (hole_taken p n)
leaf_inside s _ n = n

-- Brackets that open.

abbrev pub quotation_opened : Option (Added × Place) → Place → At → Taken → Taken
quotation_opened added p at n = record n { outer = in_quotation n.content p (length n.locals) added at ∷ n.outer; at = Inside; content = a_phrase end }

abbrev pub fresh_opened : Place → Taken → Taken
fresh_opened p n = record n { outer = in_fresh n.content p (length n.locals) n.holes ∷ n.outer; at = Inside; content = a_phrase end; holes = 0 }

abbrev pub array_opened : Place → Taken → Taken
array_opened p n = record n { outer = in_array n.content p n.locals n.holes ∷ n.outer; at = Inside; content = some_elements []; locals = [] }

abbrev pub last_opened : At → Taken → Taken
last_opened at n = record n { outer = in_last (length n.locals) at ∷ n.outer; at = Inside }

-- among pairs before a `cond` at a place, behind so many of them
abbrev pub case_opened : Place → Spot → ℕ → Place → Taken → Taken
case_opened q Between k p n = last_opened (Cases q BehindLast k) n
case_opened q BeforeFirst k p n = quotation_opened (Some ((add.Call, q))) p (Cases q BeforeSecond k) n
case_opened q BeforeSecond k p n = quotation_opened None p (Cases q BehindSecond k) n
case_opened q BehindSecond k p n = n
case_opened q BehindLast k p n = n

abbrev pub quotation_in : Kept → Place → Taken → Taken
quotation_in (a_phrase t) p n = quotation_opened None p Inside n
quotation_in (some_elements ls) p n = fresh_opened p n

-- a bracket that isn't an array's
abbrev pub opened_inside : Bracket → Place → Taken → Taken
opened_inside Quotation p n = quotation_in n.content p n
opened_inside Fry p n = fresh_opened p n
opened_inside Array p n = n

abbrev pub opened_at : At → Bracket → Place → Taken → Taken
opened_at Inside b p n = opened_inside b p n
opened_at (Cases q spot k) b p n = case_opened q spot k p n

abbrev pub bracket_opened : Bracket → Place → Taken → Taken
bracket_opened b p n = opened_at n.at b p n

abbrev pub locals_at : At → List Tok → Place → Taken → Taken
locals_at Inside ts p n = all_bound ts [] (opened_inside Quotation p n)
locals_at (Cases q spot k) ts p n = case_opened q spot k p n

-- the place of `cond` where it stands behind an array and is no local
abbrev pub seen_place : Option ℕ → Tok → Option Place
seen_place (Some x) t = None
seen_place None t = Some t.place

abbrev pub cond_place : List (List ℕ) → Option Tok → Option Place
cond_place locals None = None
cond_place locals (Some t) = seen_place (local_of locals t.text) t

abbrev pub array_or_cases : Option Place → Place → Taken → Taken
array_or_cases None p n = array_opened p n
array_or_cases (Some q) p n = record n { at = Cases q Between 0 }

abbrev pub array_in : Kept → Option Tok → Place → Taken → Taken
array_in (a_phrase t) o p n = array_or_cases (cond_place n.locals o) p n
array_in (some_elements ls) o p n = array_opened p n

abbrev pub array_at : At → Option Tok → Place → Taken → Taken
array_at Inside o p n = array_in n.content o p n
array_at (Cases q spot k) o p n = record n { at = Cases q BeforeFirst k }

abbrev pub array_taken : Option Tok → Place → Taken → Taken
array_taken o p n = array_at n.at o p n

-- Brackets that close.

-- the outermost locals, so many of them
abbrev pub kept_locals : ℕ → List (List ℕ) → List (List ℕ)
kept_locals k xs = drop (length xs - k) xs

abbrev pub phrase_in : Kept → Phrase
phrase_in (a_phrase t) = t
phrase_in (some_elements ls) = end

abbrev pub elements_in : Kept → List Lit
elements_in (a_phrase t) = []
elements_in (some_elements ls) = ls

abbrev pub added_behind : Scope → Option (Added × Place) → Taken → Taken
added_behind s None n = n
added_behind s (Some ap) n = added_taken s ap.0 ap.1 n

-- a fry in a phrase, or a quotation in an array
abbrev pub with_fresh : Place → Phrase → ℕ → Kept → Kept
with_fresh p u holes (a_phrase t) = a_phrase (append t (then (fry u holes) p end))
with_fresh p u holes (some_elements ls) = some_elements (ls ++ literal_is.Quot u ∷ [])

abbrev pub with_array : Place → ℕ → Kept → Kept
with_array p a (a_phrase t) = a_phrase (append t (then (lit_arr a) p end))
with_array p a (some_elements ls) = some_elements (ls ++ literal_is.Arr a ∷ [])

abbrev pub quotation_closed : Kept → Place → ℕ → At → Taken → Taken
quotation_closed before p count at n = record n { at = at; content = with_item (quot (phrase_in n.content)) p before; locals = kept_locals count n.locals }

abbrev pub fresh_closed : Kept → Place → ℕ → ℕ → Taken → Taken
fresh_closed before p count holes n = record n { at = Inside; content = with_fresh p (phrase_in n.content) n.holes before; locals = kept_locals count n.locals; holes = holes }

abbrev pub array_closed : Kept → Place → List (List ℕ) → ℕ → Taken → Taken
array_closed before p locals holes n = record n { at = Inside; content = with_array p (length n.arrays) before; locals = locals; holes = holes; arrays = n.arrays ++ elements_in n.content ∷ [] }

abbrev pub around_closed : Scope → Around → Taken → Taken
around_closed s (in_quotation before p count added at) n = added_behind s added (quotation_closed before p count at n)
around_closed s (in_fresh before p count holes) n = fresh_closed before p count holes n
around_closed s (in_array before p locals holes) n = array_closed before p locals holes n
around_closed s (in_last count at) n = record n { at = at; locals = kept_locals count n.locals }

abbrev pub closed_in : Scope → List Around → Taken → Taken
closed_in s [] n = n
closed_in s (o ∷ os) n = around_closed s o (record n { outer = os })

abbrev pub bracket_closed : Scope → Taken → Taken
bracket_closed s n = closed_in s n.outer n

-- behind a pair what stands for the further cases begins, which is a quotation
abbrev pub case_closed : Place → Spot → ℕ → Taken → Taken
case_closed q BehindSecond k n = record (quotation_opened (Some ((add.If, q))) q Inside n) { at = Cases q Between (suc k) }
case_closed q spot k n = n

abbrev pub closed_at : Scope → At → Taken → Taken
closed_at s Inside n = bracket_closed s n
closed_at s (Cases q spot k) n = case_closed q spot k n

-- `cond`, behind its cases

abbrev pub closed_times : Scope → ℕ → Taken → Taken
closed_times s zero n = n
closed_times s (suc k) n = closed_times s k (bracket_closed s n)

abbrev pub with_no_cond : Scope → Place → Spot → Taken → Taken
with_no_cond s q Between n = added_taken s add.NoCond q n
with_no_cond s q spot n = n

abbrev pub cases_ended : Scope → Place → Spot → ℕ → Taken → Taken
cases_ended s q spot k n = closed_times s k (with_no_cond s q spot (record n { at = Inside }))

abbrev pub leaf_at : Scope → At → Node → Taken → Taken
leaf_at s Inside x n = leaf_inside s x n
leaf_at s (Cases q spot k) x n = cases_ended s q spot k n

-- Bits.

abbrev pub bit_taken : Scope → Taken → Bit → Taken
bit_taken s n (leaf x) = leaf_at s n.at x n
bit_taken s n (opens b p) = bracket_opened b p n
bit_taken s n (opens_locals ts p) = locals_at n.at ts p n
bit_taken s n (opens_array o p) = array_taken o p n
bit_taken s n closes = closed_at s n.at n

abbrev pub bits_taken : Scope → Taken → List Bit → Taken
bits_taken s n bits = fold (bit_taken s) n bits

-- before the first item
abbrev pub begun : List (List Lit) → Option NameFault → Taken
begun arrays first = record { outer = []; at = Inside; content = a_phrase end; locals = []; holes = 0; arrays = arrays; first = first }

-- the bits of elements, with the names behind their arrays
abbrev pub bits_of : Scope → List Element → List Bit
bits_of s es = all_bits (all_scanned (is_cond s) es none_scanned).names es
