-- What is told of each word and of the program: its verdict, with the stack where it fails and the way there.
use Rattle.std.specs.Prelude.{ℕ, suc, List, [], ◌∷◌, Bool, true, false, nat_eq, Option, Some, None}
use Rattle.fac_base.specs.declared.place.Place.{Place}
use Rattle.fac_base.specs.Effects.{inputs_count}
use Rattle.fac_lang.specs.Phrases.{Phrase}
use Rattle.fac_lang.specs.Substitution.{of_method}
use Rattle.fac_lang.specs.declared.program.Program.{Program}
use Rattle.fac_lang.specs.declared.program.Sort.{Sort}
use Rattle.fac_lang.specs.declared.program.Sort.TheVariants.{Body as body, Method as method}
use Rattle.fac_lang.specs.declared.program.WordDef.{WordDef}
use Rattle.fac_abs.specs.Marks.{AbstractStack, unknowns}
use Rattle.fac_abs.specs.RowVariables.{effect_inputs, effect_leaving, outer_in, outer_out, is_row}
use Rattle.fac_abs.specs.declared.rule.Rule.{Rule}
use Rattle.fac_rows.specs.RowBinding.{inputs_marks}
use Rattle.fac_check.specs.Verdicts.{kept_word, head_rules}
use Rattle.fac_check.specs.declared.refusal.Broken.{Broken}
use Rattle.fac_trace.specs.Origins.{inputs_upto, Listed, listed}
use Rattle.fac_trace.specs.Traced.{Fault, Traced, found, refused, Stack, traced}

-- a rule that a word breaks, at its name
abbrev pub at_name : Rule → Place → Option Listed → Option Fault
at_name r p stack = Some (record { rule = r; place = p; before = stack; callable = None; way = [] })

-- what a word breaks by the stack at its end
abbrev pub at_end : Option Broken → Stack → Option Fault
at_end None A = None
at_end (Some b) A = at_name b.rule b.place (Some (listed A.0 A.1))

-- what is told of a walk, where its end breaks this
abbrev pub told : Traced Stack → (AbstractStack → Option Broken) → Option Fault
told (found A n) ends = at_end (ends A.0) A
told (refused f) ends = Some f

module _ (P : Program) where
  abbrev pub ordinary_trace : ℕ → Phrase → WordDef → Option Fault
  ordinary_trace w t d = told (traced P None None w t None (unknowns (inputs_count (effect_inputs d.effect)) []) (inputs_upto (inputs_count (effect_inputs d.effect)))) (kept_word P (effect_leaving d.effect) None d.place)

  abbrev pub row_trace : ℕ → Phrase → WordDef → Option Fault
  row_trace w t d = told (traced P (Some d.effect) (Some w) w t (outer_in d.effect) (inputs_marks 1 (effect_inputs d.effect) []) (inputs_upto (inputs_count (effect_inputs d.effect)))) (kept_word P (effect_leaving d.effect) (outer_out d.effect) d.place)

  abbrev pub inline_trace : Bool → ℕ → Phrase → WordDef → Option Fault
  inline_trace true w t d = row_trace w t d
  inline_trace false w t d = None

  abbrev pub body_trace : Bool → ℕ → Phrase → WordDef → Option Fault
  body_trace true w t d = inline_trace (is_row d.recursive d.effect) w t d
  body_trace false w t d = ordinary_trace w t d

  -- the values that the top-level phrase starts on count as its inputs
  abbrev pub top_trace : ℕ → ℕ → Phrase → Option Fault
  top_trace start w t = told (traced P None None w t None (unknowns start []) (inputs_upto start)) (λ A. None)

  abbrev pub phrase_trace : Bool → ℕ → ℕ → Phrase → WordDef → Option Fault
  phrase_trace true start w t d = top_trace start w t
  phrase_trace false start w t d = body_trace d.inline w t d

  abbrev pub sort_trace : ℕ → ℕ → WordDef → Sort → Option Fault
  sort_trace start w d (body t) = phrase_trace (nat_eq w P.top) start w t d
  sort_trace start w d (method c g t) = ordinary_trace w (of_method w t) d
  sort_trace start w d _ = None

  -- the rules that need no walk have no stack
  abbrev pub ruled_trace : List (Bool × Rule) → ℕ → ℕ → WordDef → Option Fault
  ruled_trace [] start w d = sort_trace start w d d.sort
  ruled_trace (r ∷ rs) start w d = elim r.0 [ true ↦ at_name r.1 d.place None | false ↦ ruled_trace rs start w d ]

  -- what is told of word w
  abbrev pub word_trace : ℕ → ℕ → WordDef → Option Fault
  word_trace start w d = ruled_trace (head_rules P w d) start w d

  -- what is told of the first refused word, counted from w
  abbrev pub trace_from : ℕ → ℕ → List WordDef → Option (ℕ × Fault)
  trace_from start w [] = None
  trace_from start w (d ∷ ds) = elim (word_trace start w d) [ Some f ↦ Some (w, f) | None ↦ trace_from start (suc w) ds ]

  -- of the first refused word in the order of numbers
  abbrev pub first_trace : ℕ → Option (ℕ × Fault)
  first_trace start = trace_from start 0 P.words
