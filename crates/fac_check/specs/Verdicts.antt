-- The verdict on each word and on the program.
use Rattle.std.specs.Prelude.{ℕ, zero, suc, List, [], ◌∷◌, ◌++◌, length, Bool, true, false, ◌&&◌, ◌||◌, not, nat_eq, Option, Some, None, slice_get}
use Rattle.fac_base.specs.declared.place.Place.{Place}
use Rattle.fac_lang.specs.Phrases.{wrd, Phrase, end, then, Item, lit, quot, word, fry}
use Rattle.fac_base.specs.Signatures.{Signature, Inputs, no_inputs, value, quoted, Leaving, never, leaves}
use Rattle.fac_base.specs.Effects.{inputs_count}
use Rattle.fac_lang.specs.Substitution.{of_method}
use Rattle.fac_lang.specs.declared.program.Program.{Program}
use Rattle.fac_lang.specs.declared.program.WordDef.{WordDef}
use Rattle.fac_lang.specs.declared.program.Sort.{Sort}
use Rattle.fac_lang.specs.declared.program.Sort.TheVariants.{Body as body, Past as past, Generic as generic, Method as method}
use Rattle.fac_abs.specs.RowVariables.{Row, effect_inputs, effect_leaving, outer_in, outer_out, has_rows, bindable, is_row}
use Rattle.fac_abs.specs.Marks.{AbstractStack, dead, on, base_eq, unknowns}
use Rattle.fac_abs.specs.declared.rule.Rule.{Rule}
use Rattle.fac_abs.specs.declared.rule.Rule.TheVariants.{UndeclaredRecursion, RowDeclaration, MethodEffect, Outputs, MustReturn}
use Rattle.fac_rows.specs.RowBinding.{inputs_marks}
use Rattle.fac_graph.specs.Paths.{one_of}
use Rattle.fac_check.specs.declared.refusal.Broken.{Broken}
use Rattle.fac_check.specs.Flow.{Walked, found, refused, walked}

-- this rule is broken there
abbrev pub broken_at : Rule → Place → Option Broken
broken_at r p = Some (record { rule = r; place = p })

-- the numbers of the first list that aren't in the second, put before it
abbrev pub more_of : List ℕ → List ℕ → List ℕ
more_of [] ys = ys
more_of (x ∷ xs) ys = elim (one_of x ys) [ true ↦ more_of xs ys | false ↦ more_of xs (x ∷ ys) ]

-- whether an input has an effect
abbrev pub any_quoted : Inputs → Bool
any_quoted no_inputs = false
any_quoted (value x is) = any_quoted is
any_quoted (quoted x e is) = true

-- whether an effect is none for a generic
abbrev pub no_generic_effect : Signature → Bool
no_generic_effect e = nat_eq (inputs_count (effect_inputs e)) 0 || (has_rows e || any_quoted (effect_inputs e))

-- whether a word of this sort and effect is a generic that breaks `method-effect`
abbrev pub bad_generic : Sort → Signature → Bool
bad_generic generic e = no_generic_effect e
bad_generic _ e = false

module _ (P : Program) where
  -- the number of a word, where it is an inline word with a phrase
  abbrev pub inline_body : ℕ → Option WordDef → List ℕ
  inline_body w None = []
  inline_body w (Some d) = elim d.sort [ body t ↦ elim d.inline [ true ↦ w ∷ [] | false ↦ [] ] | _ ↦ [] ]

  -- The inline words that a phrase names, as items or by `\`, also in its quotations and fry bodies. What stands in a literal array isn't followed.
  abbrev mutual
    pub inline_words : Phrase → List ℕ
    inline_words end = []
    inline_words (then i p t) = item_words i ++ inline_words t

    pub item_words : Item → List ℕ
    item_words (word w) = inline_body w (slice_get P.words w)
    item_words (lit (wrd w)) = inline_body w (slice_get P.words w)
    item_words (quot t) = inline_words t
    item_words (fry t n) = inline_words t
    item_words _ = []

  -- the inline words that a word's phrase names
  abbrev pub body_words : Option WordDef → List ℕ
  body_words None = []
  body_words (Some d) = elim d.sort [ body t ↦ inline_words t | _ ↦ [] ]

  -- these words, and those that their phrases name
  abbrev pub named_by : List ℕ → List ℕ → List ℕ
  named_by [] seen = seen
  named_by (w ∷ ws) seen = more_of (body_words (slice_get P.words w)) (named_by ws seen)

  -- all words that these lead to, in at most so many steps
  abbrev pub led_to : ℕ → List ℕ → List ℕ
  led_to zero ws = ws
  led_to (suc n) ws = led_to n (named_by ws ws)

  -- a list without one number
  abbrev pub without : ℕ → List ℕ → List ℕ
  without w [] = []
  without w (v ∷ vs) = elim (nat_eq w v) [ true ↦ without w vs | false ↦ v ∷ without w vs ]

  -- whether the phrase of an inline word leads back to it, otherwise than directly where it is marked recursive
  abbrev pub leads_back : ℕ → Bool → Phrase → Bool
  leads_back w recursive t = one_of w (led_to (length P.words) (elim recursive [ true ↦ without w (inline_words t) | false ↦ inline_words t ]))

  -- whether a word breaks `undeclared-recursion`
  abbrev pub undeclared : ℕ → WordDef → Bool
  undeclared w d = elim d.sort [ body t ↦ d.inline && leads_back w d.recursive t | _ ↦ false ]

  -- whether a word is inline
  abbrev pub is_inline_body : WordDef → Bool
  is_inline_body d = elim d.sort [ body t ↦ d.inline | _ ↦ false ]

  -- whether a word breaks `row-declaration`; past and top-level phrases are spared
  abbrev pub bad_rows : ℕ → WordDef → Bool
  bad_rows w d = elim d.sort [ past t ↦ false | _ ↦ not (nat_eq w P.top) && (has_rows d.effect && not (is_inline_body d && bindable d.effect)) ]

  -- What a word breaks that leaves this stack, where it declares to leave these outputs on this row. What never returns leaves what any word declares.
  abbrev pub kept_word : Leaving → Option Row → Place → AbstractStack → Option Broken
  kept_word l r p dead = None
  kept_word never r p (on b ms) = broken_at MustReturn p
  kept_word (leaves s names) r p (on b ms) = elim (base_eq b r && nat_eq (length ms) (length names)) [ true ↦ None | false ↦ broken_at (Outputs (length names) (length ms)) p ]

  -- the verdict on a walk
  abbrev pub end_of : Walked AbstractStack → (AbstractStack → Option Broken) → Option Broken
  end_of (found A n) go = go A
  end_of (refused r p) go = broken_at r p

  -- an ordinary word or a method starts from its inputs, of which nothing is known, over no base
  abbrev pub ordinary_verdict : ℕ → Phrase → WordDef → Option Broken
  ordinary_verdict w t d = end_of (walked P None None w t None (unknowns (inputs_count (effect_inputs d.effect)) [])) (kept_word (effect_leaving d.effect) None d.place)

  -- a row word starts from its input row, with a mark of its own for each quotation input
  abbrev pub row_verdict : ℕ → Phrase → WordDef → Option Broken
  row_verdict w t d = end_of (walked P (Some d.effect) (Some w) w t (outer_in d.effect) (inputs_marks 1 (effect_inputs d.effect) [])) (kept_word (effect_leaving d.effect) (outer_out d.effect) d.place)

  -- an expanded word isn't walked at its definition
  abbrev pub inline_verdict : Bool → ℕ → Phrase → WordDef → Option Broken
  inline_verdict true w t d = row_verdict w t d
  inline_verdict false w t d = None

  -- a word with a phrase, by its mark `inline`
  abbrev pub body_verdict : Bool → ℕ → Phrase → WordDef → Option Broken
  body_verdict true w t d = inline_verdict (is_row d.recursive d.effect) w t d
  body_verdict false w t d = ordinary_verdict w t d

  -- the top-level phrase starts on so many values, and promises nothing
  abbrev pub top_verdict : ℕ → ℕ → Phrase → Option Broken
  top_verdict start w t = end_of (walked P None None w t None (unknowns start [])) (λ A. None)

  -- the top-level word, or another with a phrase
  abbrev pub phrase_verdict : Bool → ℕ → ℕ → Phrase → WordDef → Option Broken
  phrase_verdict true start w t d = top_verdict start w t
  phrase_verdict false start w t d = body_verdict d.inline w t d

  -- by the walk of the word's phrase; earlier top-level phrases are accepted, and words without a phrase have none to walk
  abbrev pub sort_verdict : ℕ → ℕ → WordDef → Sort → Option Broken
  sort_verdict start w d (body t) = phrase_verdict (nat_eq w P.top) start w t d
  sort_verdict start w d (method c g t) = ordinary_verdict w (of_method w t) d
  sort_verdict start w d _ = None

  -- The rules that need no walk, each with whether the word breaks it. They come first, in this order, and stand at the word's name.
  abbrev pub head_rules : ℕ → WordDef → List (Bool × Rule)
  head_rules w d = (undeclared w d, UndeclaredRecursion) ∷ (bad_rows w d, RowDeclaration) ∷ (bad_generic d.sort d.effect, MethodEffect) ∷ []

  -- by the first of these rules that is broken, and by the walk where none is
  abbrev pub ruled_verdict : List (Bool × Rule) → ℕ → ℕ → WordDef → Option Broken
  ruled_verdict [] start w d = sort_verdict start w d d.sort
  ruled_verdict (r ∷ rs) start w d = elim r.0 [ true ↦ broken_at r.1 d.place | false ↦ ruled_verdict rs start w d ]

  -- the verdict on word w
  abbrev pub word_verdict : ℕ → ℕ → WordDef → Option Broken
  word_verdict start w d = ruled_verdict (head_rules w d) start w d

  -- the first refused word, counted from w
  abbrev pub verdict_from : ℕ → ℕ → List WordDef → Option (ℕ × Broken)
  verdict_from start w [] = None
  verdict_from start w (d ∷ ds) = elim (word_verdict start w d) [ Some r ↦ Some (w, r) | None ↦ verdict_from start (suc w) ds ]

  -- accepted, or the first refused word in the order of numbers with its first rule and place; the top-level phrase starts on so many values
  abbrev pub verdict : ℕ → Option (ℕ × Broken)
  verdict start = verdict_from start 0 P.words
