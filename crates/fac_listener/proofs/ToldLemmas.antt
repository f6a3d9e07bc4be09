-- What is told of a machine's values is told of those for which they stand.
use Rattle.std.proofs.Common.{◌≡◌, ◌++◌, ℕ, List, [], ◌∷◌, map, reverse, None, Some, refl, sym, ap, ap₂, subst, ◌∙◌}
use Rattle.std.specs.Prelude.{slice_get, codes}
use Rattle.std.specs.declared.option.Option.{Option}
use Rattle.std.specs.Option.{option_map}
use Rattle.std.proofs.lemmas.List.{map-append}
use mathlib.Core.List.{reverse-cons}
use Rattle.fac_lang.specs.Phrases.{Value}
use Rattle.fac_lang.specs.Meaning.{meaning_values, names}
use Rattle.fac_lang.specs.Printed.{Names, printed}
use Rattle.fac_lang.specs.World.{World, Error}
use Rattle.fac_lang.specs.declared.program.Program.{Program}
use Rattle.fac_lang.specs.declared.program.WordDef.{WordDef}
use Rattle.fac_code.specs.Images.{tables_of}
use Rattle.fac_code.specs.ImageNames.{image_names, text_of}
use Rattle.fac_code.specs.declared.image.Image.{Image}
use Rattle.fac_code.specs.declared.image.WordRow.{WordRow}
use Rattle.fac_store.specs.MachineValues.{MValue, machine_values}
use Rattle.fac_store.specs.ValueTrees.{value_in, objects_of, trees_of}
use Rattle.fac_store.specs.declared.value.Value.{Value as StoredValue}
use Rattle.fac_store.proofs.ForwardingLemmas.{map_turned}
use Rattle.fac_machine.specs.Renaming.{Renaming, renamed, renamed_values, renamed_error, RenamesWorld}
use Rattle.fac_machine.proofs.RenamingSeen.{printed_renamed}
use Rattle.fac_vm.specs.Runs.{error_of}
use Rattle.fac_vm.specs.SeenMachine.{MachineSeen, callables_in, stack_in}
use Rattle.fac_vm.specs.declared.machine.RunError.{RunError}
use Rattle.fac_carry.specs.Carries.{image_full_name, full_name_of}
use Rattle.fac_carry.specs.MachineView.{template_phrases, value_view, values_view, world_view, error_view, option_view}
use Rattle.fac_carry.specs.PrintedForms.{PrintedFormsAreEqual}
use Rattle.fac_notes.specs.Told.{error_report, shown, shown_text, stack_lines}
use Rattle.fac_notes.specs.WordNames.{defined_as, defined_or, image_word_name, name_in}
use Rattle.fac_notes.specs.declared.report.Report.{Report}
use Rattle.fac_notes.specs.declared.report.Report.TheVariants as report
use Rattle.fac_session.specs.SessionLines.{stack_text}
use Rattle.fac_listener.specs.MachineTexts.{AreStackTexts, IsReportOf, machine_text}
use Rattle.fac_listener.specs.StackTexts.{lines_with_header}
use Rattle.fac_listener.proofs.TextLemmas.{reverse_map}

-- Under other addresses.

module _ (M : Image) (ρ : Renaming) (x y : World MValue) (r : RenamesWorld ρ x y) where
  value_renamed : (v : MValue) → machine_text M y v ≡ machine_text M x (renamed ρ v)
  value_renamed v = ap shown_text (sym (printed_renamed ρ x y r (image_names M) v))

  values_renamed : (vs : List MValue) → map (machine_text M y) vs ≡ map (machine_text M x) (renamed_values ρ vs)
  values_renamed [] = refl
  values_renamed (v ∷ vs) = ap₂ (λ (t : List ℕ) (ts : List (List ℕ)). t ∷ ts) (value_renamed v) (values_renamed vs)

  pub stack_renamed : (vs : List MValue) → map (machine_text M y) (reverse vs) ≡ map (machine_text M x) (reverse (renamed_values ρ vs))
  stack_renamed vs = values_renamed (reverse vs) ∙ ap (map (machine_text M x)) (map_turned (renamed ρ) vs)

  pub option_renamed : (o : Option MValue) → option_map (machine_text M y) o ≡ option_map (machine_text M x) (option_map (renamed ρ) o)
  option_renamed None = refl
  option_renamed (Some v) = ap Some (value_renamed v)

-- In the meaning.

shown_one : {A : Type 0} (f : A → List ℕ) (B : Type 0) (g : B → List ℕ) (h : A → B) (xs : List A) → map f xs ≡ map g (map h xs) → map (λ x. shown_text (f x)) xs ≡ map (λ y. shown_text (g y)) (map h xs)
shown_one f B g h [] e = refl
shown_one f B g h (x ∷ xs) e =
    let first : f x ≡ g (h x) = cc in
    let rest : map f xs ≡ map g (map h xs) = cc in
    rw (first, shown_one f B g h xs rest) refl

module _ (law : PrintedFormsAreEqual) (P : Program) (M : Image) (named : image_names M ≡ names P) (w : World MValue) where
  texts_same : (vs : List MValue) → map (machine_text M w) vs ≡ map (shown P (world_view (template_phrases P) w)) (values_view (template_phrases P) vs)
  texts_same vs =
      let forms = ap (λ (N : Names). map (printed machine_values N w) vs) named ∙ sym (law (names P) (template_phrases P) w vs) in
      shown_one (printed machine_values (image_names M) w) Value (printed meaning_values (names P) (world_view (template_phrases P) w)) (value_view (template_phrases P)) vs forms

  text_same : (v : MValue) → machine_text M w v ≡ shown P (world_view (template_phrases P) w) (value_view (template_phrases P) v)
  text_same v = let listed = texts_same (v ∷ []) in cc

  pub stack_same : (stack : List MValue) → map (machine_text M w) (reverse stack) ≡ map (shown P (world_view (template_phrases P) w)) (reverse (values_view (template_phrases P) stack))
  stack_same stack = texts_same (reverse stack) ∙ ap (map (shown P (world_view (template_phrases P) w))) (sym (reverse_map (value_view (template_phrases P)) stack))

  pub option_same : (v : Option MValue) → option_map (machine_text M w) v ≡ option_map (shown P (world_view (template_phrases P) w)) (option_view (template_phrases P) v)
  option_same None = refl
  option_same (Some v) = ap Some (text_same v)

-- The names of words.

-- the vocabulary and the name of a word, by its row in an image and as it is defined
abbrev row_pair : Image → WordRow → List ℕ × List ℕ
row_pair M r = (text_of (tables_of M) r.vocab, text_of (tables_of M) r.name)

abbrev definition_pair : WordDef → List ℕ × List ℕ
definition_pair d = (d.name.vocab, d.name.name)

abbrev row_name : Image → Option WordRow → Option (List ℕ × List ℕ)
row_name M r = elim r [ Some r ↦ Some (row_pair M r) | None ↦ None ]

abbrev definition_name : Option WordDef → Option (List ℕ × List ℕ)
definition_name d = elim d [ Some d ↦ Some (definition_pair d) | None ↦ None ]

named_by : (M : Image) (w : ℕ) (r : Option WordRow) (d : Option WordDef) → row_name M r ≡ definition_name d → name_in M w r ≡ defined_or w d
named_by M w (Some r) (Some d) e =
    let same : row_pair M r ≡ definition_pair d = cc in λ i. record { vocab = (same i).0; name = (same i).1 }
named_by M w (Some r) None e = absurd (cc)
named_by M w None (Some d) e = absurd (cc)
named_by M w None None e = refl

pub named_same : (P : Program) (M : Image) → ((w : ℕ) → image_full_name M w ≡ full_name_of P w) → (w : ℕ) → image_word_name M w ≡ defined_as P w
named_same P M full w = named_by M w (slice_get M.words w) (slice_get P.words w) (full w)

-- Stacks.

some_lines : (ts : List (List ℕ)) (t : List ℕ) → lines_with_header (ts ++ t ∷ []) ≡ codes "--- Data stack:\n" ++ stack_lines (ts ++ t ∷ [])
some_lines [] t = refl
some_lines (u ∷ ts) t = refl

-- the texts of a stack as lines are what the definition writes
pub lines_are : (P : Program) (w : World Value) (vs : List Value) (texts : List (List ℕ)) → texts ≡ map (shown P w) (reverse vs) → lines_with_header texts ≡ stack_text P w vs
lines_are P w [] texts e = ap lines_with_header e
lines_are P w (v ∷ vs) texts e =
    let split : map (shown P w) (reverse (v ∷ vs)) ≡ map (shown P w) (reverse vs) ++ shown P w v ∷ [] = rw (reverse-cons, map-append) refl in
    ap lines_with_header (e ∙ split) ∙ some_lines (map (shown P w) (reverse vs)) (shown P w v) ∙ ap (λ (ts : List (List ℕ)). codes "--- Data stack:\n" ++ stack_lines ts) (sym split)

-- An error of a machine, by its number and its value.

mapped : (m : MachineSeen) (M : Image) (w : World MValue) (v : Option StoredValue) → option_map (λ v. machine_text M w (value_in (trees_of m.store) v)) v ≡ option_map (machine_text M w) (option_map (value_in (trees_of m.store)) v)
mapped m M w None = refl
mapped m M w (Some v) = refl

pub report_is :
    PrintedFormsAreEqual → (P : Program) (M : Image) → image_names M ≡ names P → ((w : ℕ) → image_full_name M w ≡ full_name_of P w) →
    (m : MachineSeen) (err : RunError) (why : Report) (ρ σ : Renaming) (w x y : World MValue) → m.image ≡ M → RenamesWorld ρ w x → RenamesWorld σ x y → IsReportOf m err why → y.objects ≡ objects_of m.store →
    why ≡ error_report P (world_view (template_phrases P) w) (error_view (template_phrases P) (renamed_error ρ (renamed_error σ (error_of (callables_in m) err))))
report_is law P M named full m err why ρ σ w x y image first second told there =
    let e = error_of (callables_in m) err in
    told y there
    ∙ ap (λ (N : Image). report.Error err.name (image_word_name N err.word) (option_map (λ v. machine_text N y (value_in (trees_of m.store) v)) err.value)) image
    ∙ ap (λ v. report.Error err.name (image_word_name M err.word) v)
    (mapped m M y err.value ∙ option_renamed M σ x y second e.value ∙ option_renamed M ρ w x first (option_map (renamed σ) e.value) ∙ option_same law P M named w (option_map (renamed ρ) (option_map (renamed σ) e.value)))
    ∙ ap (λ n. report.Error err.name n (option_map (shown P (world_view (template_phrases P) w)) (option_view (template_phrases P) (option_map (renamed ρ) (option_map (renamed σ) e.value))))) (named_same P M full err.word)

-- The texts of a machine's stack.
pub texts_are :
    PrintedFormsAreEqual → (P : Program) (M : Image) → image_names M ≡ names P → (m : MachineSeen) (texts : List (List ℕ)) (τ : Renaming) (x y : World MValue) (stack : List MValue) → m.image ≡ M → RenamesWorld τ x y → AreStackTexts m texts → y.objects ≡ objects_of m.store →
    stack ≡ renamed_values τ (stack_in m) → texts ≡ map (shown P (world_view (template_phrases P) x)) (reverse (values_view (template_phrases P) stack))
texts_are law P M named m texts τ x y stack image r are there is =
    are y there
    ∙ ap (λ (N : Image). map (machine_text N y) (reverse (stack_in m))) image
    ∙ stack_renamed M τ x y r (stack_in m)
    ∙ ap (λ (vs : List MValue). map (machine_text M x) (reverse vs)) (sym is)
    ∙ stack_same law P M named x stack
