-- What items mean, token by token, where no `cond` reads its cases.
use Rattle.std.specs.Prelude.{◌≡◌, ℕ, suc, List, [], ◌∷◌, ◌++◌, map, length, Option, None, Bool, if◌then◌else◌}
use Rattle.fac_lang.specs.Phrases.{lit, wrd, word, bind, hole, next_method}
use Rattle.fac_lang.specs.declared.program.Lit.TheVariants as literal
use Rattle.fac_source.specs.declared.tree.Bracket.{Bracket}
use Rattle.fac_source.specs.declared.tree.Bracket.TheVariants.{Quotation, Array, Fry}
use Rattle.fac_source.specs.declared.tree.Element.{Element}
use Rattle.fac_source.specs.declared.tree.Element.TheVariants as element
use Rattle.fac_source.specs.declared.tree.Term.{Term}
use Rattle.fac_source.specs.declared.tree.Term.TheVariants as term
use Rattle.fac_source.specs.Toks.{texts_of}
use Rattle.fac_effect.specs.Spellings.{token_text}
use Rattle.fac_parse.specs.Trees.{AreItems}
use Rattle.fac_items.specs.Written.{Tok, Node, n_array, n_quot, n_locals, n_fry, Nodes, nothing, more}
use Rattle.fac_items.specs.FromElements.{literal_value, nested, tok}
use Rattle.fac_items.specs.Items.{literal as element_of}
use Rattle.fac_items.specs.Readings.{are_pairs, bound, cond_first}
use Rattle.fac_meanings.specs.Signs.{Sign, closes, filled, one, opens, place_in, tested_item, value}
use Rattle.fac_meanings.specs.Meanings.{Words, bindings_signs, meanings, named_item}

-- Where elements stand: in which bracket, which locals are in scope, the innermost first, and how many holes the fry around has so far.
pub record Level : Type 0 where
  pub bracket : Bracket
  pub locals : List (List ℕ)
  pub holes : ℕ

-- items as a whole, where these inputs are locals
abbrev pub outermost : List Tok → Level
outermost inputs = record { bracket = Quotation; locals = texts_of inputs; holes = 0 }

-- Inside of a bracket. An array sees no locals of around and has no holes, and a fry has holes of its own.

abbrev pub locals_inside : Bracket → List (List ℕ) → List (List ℕ)
locals_inside Quotation locals = locals
locals_inside Fry locals = locals
locals_inside Array locals = []

abbrev pub holes_inside : Bracket → ℕ → ℕ
holes_inside Quotation holes = holes
holes_inside Fry holes = 0
holes_inside Array holes = 0

abbrev pub inside : Bracket → Level → Level
inside b l = record { bracket = b; locals = locals_inside b l.locals; holes = holes_inside b l.holes }

-- inside of a quotation whose inputs have these names
abbrev pub inside_locals : List Tok → Level → Level
inside_locals ts l = record { bracket = Quotation; locals = texts_of ts ++ l.locals; holes = l.holes }

-- Behind a bracket that closes, the holes of a quotation are those of what is around it.

abbrev pub holes_of : Bracket → ℕ → ℕ → ℕ
holes_of Quotation inner outer = inner
holes_of Fry inner outer = outer
holes_of Array inner outer = outer

abbrev pub holes_beyond : Bracket → Bracket → ℕ → ℕ → ℕ
holes_beyond Quotation b inner outer = holes_of b inner outer
holes_beyond Fry b inner outer = holes_of b inner outer
holes_beyond Array b inner outer = outer

abbrev pub closing : Level → Level → Level
closing inner l = record l { holes = holes_beyond l.bracket inner.bracket inner.holes l.holes }

-- the end of a bracket
abbrev pub end_by : Bracket → ℕ → List Sign
end_by Quotation holes = closes Quotation ∷ []
end_by Fry holes = filled holes ∷ closes Fry ∷ []
end_by Array holes = closes Array ∷ []

abbrev pub end_signs : Level → List Sign
end_signs l = end_by l.bracket l.holes

-- an item that isn't directly in an array
abbrev pub item_signs : Words → Level → Term → List Sign
item_signs ws l (term.Name t) = one (named_item ws l.locals (token_text t.kind)) t.place ∷ []
item_signs ws l (term.Wrapped sign name) = one (lit (wrd (ws.named (token_text name.kind)))) sign ∷ []
item_signs ws l (term.EffectCall callee sign tokens height) = one (tested_item callee height) sign ∷ []
item_signs ws l (term.Literal t x) = one (lit (literal_value (token_text t.kind) x)) t.place ∷ []
item_signs ws l (term.NextMethod place) = one next_method place ∷ []
item_signs ws l (term.Bind sign name) = one (bind (length l.locals)) sign ∷ []
item_signs ws l (term.Hole place) = one (hole l.holes) place ∷ []
item_signs ws l (term.CalledHole place) = one (hole l.holes) place ∷ one (word ws.calling) place ∷ []

-- a value directly in an array
abbrev pub value_signs : Words → Term → List Sign
value_signs ws (term.Name t) = value (literal.Wref (ws.named (token_text t.kind))) ∷ []
value_signs ws (term.Wrapped sign name) = value (literal.Wref (ws.named (token_text name.kind))) ∷ []
value_signs ws (term.Literal t x) = value (element_of (literal_value (token_text t.kind) x)) ∷ []
value_signs ws _ = []

abbrev pub term_signs : Words → Bracket → Level → Term → List Sign
term_signs ws Quotation l t = item_signs ws l t
term_signs ws Fry l t = item_signs ws l t
term_signs ws Array l t = value_signs ws t

-- what stands behind an item
abbrev pub behind_term : Term → Level → Level
behind_term (term.Bind sign name) l = record l { locals = token_text name.kind ∷ l.locals }
behind_term (term.Hole place) l = record l { holes = suc l.holes }
behind_term (term.CalledHole place) l = record l { holes = suc l.holes }
behind_term _ l = l

-- elements, token by token; the list has the levels around this one, the innermost first
abbrev pub standing : Words → Level → List Level → List Element → List Sign
standing ws l around [] = []
standing ws l around (element.Item t ∷ es) = term_signs ws l.bracket l t ++ standing ws (behind_term t l) around es
standing ws l around (element.Opens b place ∷ es) = opens b (place_in l.bracket place) ∷ standing ws (inside b l) (l ∷ around) es
standing ws l around (element.OpensLocals place names bar ∷ es) =
    opens Quotation (place_in l.bracket place) ∷ bindings_signs (length l.locals) (map tok names) ++ standing ws (inside_locals (map tok names) l) (l ∷ around) es
standing ws l [] (element.Closes b place ∷ es) = []
standing ws l (o ∷ around) (element.Closes b place ∷ es) = end_signs l ++ standing ws (closing l o) around es

-- Items before which no array of cases is read: a `cond` behind it that does so is read as `if` in `if`.
abbrev mutual
  pub HasNoCases : (List ℕ → Bool) → List (List ℕ) → Nodes → Type 0
  HasNoCases is_cond locals nothing = Unit {0}
  HasNoCases is_cond locals (more n ns) = HasNone is_cond locals n ns × HasNoCases is_cond (bound n locals) ns

  -- a node before others
  pub HasNone : (List ℕ → Bool) → List (List ℕ) → Node → Nodes → Type 0
  HasNone is_cond locals (n_array es p) ns = ((if are_pairs es then cond_first is_cond locals ns else None) ≡ None) × HaveNoCases is_cond es
  HasNone is_cond locals (n_quot ms p) ns = HasNoCases is_cond locals ms
  HasNone is_cond locals (n_fry ms p) ns = HasNoCases is_cond locals ms
  HasNone is_cond locals (n_locals ts ms p) ns = HasNoCases is_cond (texts_of ts ++ locals) ms
  HasNone is_cond locals n ns = Unit {0}

  -- the elements of an array
  pub HaveNoCases : (List ℕ → Bool) → Nodes → Type 0
  HaveNoCases is_cond nothing = Unit {0}
  HaveNoCases is_cond (more n ns) = HasNoneInside is_cond n × HaveNoCases is_cond ns

  pub HasNoneInside : (List ℕ → Bool) → Node → Type 0
  HasNoneInside is_cond (n_array es p) = HaveNoCases is_cond es
  HasNoneInside is_cond (n_quot ms p) = HasNoCases is_cond [] ms
  HasNoneInside is_cond n = Unit {0}

-- Where no `cond` reads its cases, items mean what their tokens mean one after another.
abbrev pub ItemsStand : Type 0
ItemsStand =
    (ws : Words) (locals : Option ℕ) (inputs : List Tok) (items : List Element) → AreItems locals items → HasNoCases ws.is_cond (texts_of inputs) (nested items) →
    meanings ws (texts_of inputs) 0 (nested items) ≡ standing ws (outermost inputs) [] items
