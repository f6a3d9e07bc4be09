-- What the forms of accepted programs mean.
use Rattle.std.proofs.Common.{◌≡◌, ℕ, List, [], ◌∷◌, ◌++◌, length, slice_get, Some, None, Bool, false, refl, ap, sym, ◌∙◌, subst, append_assoc}
use Rattle.std.specs.Prelude.{codes, get_or}
use Rattle.std.proofs.lemmas.List.Sums.{fold-append}
use Rattle.std.proofs.lemmas.Option.{slice_get-get_or}
use Rattle.fac_lang.specs.Phrases.{Phrase}
use Rattle.fac_lang.specs.RunningLaws.{append}
use Rattle.fac_lang.specs.Whole.{plain_effect}
use Rattle.fac_lang.specs.declared.program.Lit.{Lit}
use Rattle.fac_lang.specs.declared.program.Program.{Program}
use Rattle.fac_lang.specs.declared.program.Sort.TheVariants.{Body as body}
use Rattle.fac_source.specs.declared.tree.Form.{Form as Flat}
use Rattle.fac_parse.specs.Trees.{AreWellFormed}
use Rattle.fac_vocab.specs.Scopes.{begun}
use Rattle.fac_items.specs.FromElements.{nested}
use Rattle.fac_items.specs.Items.{ref}
use Rattle.fac_items.specs.Made.{made}
use Rattle.fac_items.specs.Readings.{read_form, with_inputs}
use Rattle.fac_items.proofs.PhraseLemmas.{append_three}
use Rattle.fac_items.specs.Written.{Tok, n_full, n_name, Nodes, nothing, more, Declared, given, makes, Form, f_constant, f_define, f_maker, f_method}
use Rattle.fac_endings.specs.Words.{no_effect, top_word}
use Rattle.fac_endings.specs.declared.draft.Draft.{Draft}
use Rattle.fac_endings.specs.declared.draft.Late.TheVariants.{Method as method_of}
use Rattle.fac_names.specs.Forms.{Reading, declared_effect, declared_late, draft_of, own, scoped, take, with_told}
use Rattle.fac_names.specs.FromFlat.{first_node}
use Rattle.fac_names.specs.Resolution.{first_reading, resolved}
use Rattle.fac_names.specs.TakenForms.{take_flat, take_front, taken}
use Rattle.fac_names.proofs.BracketLemmas.{items_closing}
use Rattle.fac_names.proofs.BuiltForms.{BuiltUp, classes_in}
use Rattle.fac_names.proofs.DefinedNames.{changed_here, own_built}
use Rattle.fac_names.proofs.KnownBuilt.{first_built}
use Rattle.fac_known.specs.Laws.{IsReadOf}
use Rattle.fac_known.proofs.KeptPhrases.{fronts_built, programs_keep}
use Rattle.fac_meanings.specs.Accepted.{ConstantRuns, DefinitionRuns, ItemsRun, MakerRuns, MethodRuns, ProgramsRunTheirForms, RunsPhrase}
use Rattle.fac_meanings.specs.Meanings.{HasPhrase}
use Rattle.fac_meanings.specs.SearchOrder.{latest_first}
use Rattle.fac_meanings.specs.Signs.{Sign, array_signs, phrase_signs}
use Rattle.fac_meanings.proofs.MeaningLemmas.{constants_are_meant, definitions_are_meant, makers_are_meant, methods_are_meant, top_items_are_meant}

-- a phrase behind a form is that of the program
runs : (q : Reading) (P : Program) (w : ℕ) (d : Draft) (signs : List Sign) → IsReadOf q P → slice_get q.words w ≡ Some d → HasPhrase q w signs → RunsPhrase P w signs
runs q P w d signs k at h =
    let has = h d at in
    let x = k.phrases w d has.0 at has.1 in
    record { def = x.0; at = x.1; phrase = has.0; runs = x.2; written = ap (λ (arrays : List (List Lit)). phrase_signs (array_signs arrays) has.0) k.arrays.is ∙ has.2 k.arrays.rest }

-- The word that a form tells.

own_there : (n : Tok) (r : Reading) → BuiltUp r → (d : Draft) × (slice_get (own n r).reading.words (own n r).word ≡ Some d)
own_there n r b =
    let o = own n r in
    let b_then = own_built (classes_in r) (classes_in r) n r b in
    (get_or o.reading.words o.word (draft_of [] n), slice_get-get_or o.reading.words o.word (draft_of [] n) b_then.begins.fresh.within)

definition_there : (n : Tok) (e : Declared) (ns : Nodes) (inline recursive : Bool) (r : Reading) → BuiltUp r → (d : Draft) × (slice_get (take (f_define n e ns inline recursive) r).words (own n r).word ≡ Some d)
definition_there n e ns inline recursive r b =
    let o = own n r in
    let s = o.reading.scope in
    let there = own_there n r b in
    let f : Draft → Draft = with_told (body (made s ns o.reading.arrays).phrase) (declared_effect e) inline recursive (declared_late s e) in
    (f there.0, changed_here f o.word o.reading.words there.0 there.1)

last_there : (xs : List Draft) (x : Draft) → slice_get (xs ++ x ∷ []) (length xs) ≡ Some x
last_there [] x = refl
last_there (y ∷ xs) x = last_there xs x

method_there : (c g : Tok) (ns : Nodes) (r : Reading) → (d : Draft) × (slice_get (take (f_method c g ns) r).words (length r.words) ≡ Some d)
method_there c g ns r =
    let s = r.scope in
    let f : Draft → Draft = with_told (body (made s ns r.arrays).phrase) no_effect false false (method_of (ref s c) (ref s g)) in
    (f (draft_of [] g), changed_here f (length r.words) (r.words ++ draft_of [] g ∷ []) (draft_of [] g) (last_there r.words (draft_of [] g)))

-- Each form.

definition_runs : (P : Program) (r : Reading) (forms : List Flat) (form : Flat) → (take_front r forms).first ≡ None → BuiltUp (take_front r forms) → IsReadOf (take_flat (take_front r forms) form) P → DefinitionRuns P (take_front r forms) (latest_first [] forms) form
definition_runs P r forms form none b k n e locals inputs items inline recursive fits is =
    let x = take_front r forms in
    let ns = with_inputs inputs (nested items) in
    let there = definition_there n e ns inline recursive x b in
    runs (take (f_define n e ns inline recursive) x) P (own n x).word there.0 _ (subst (λ (f : Form). IsReadOf (take f x) P) is k) there.1 (definitions_are_meant r forms inputs items none (items_closing locals items fits) n e inline recursive)

constant_runs : (P : Program) (r : Reading) (forms : List Flat) (form : Flat) → (take_front r forms).first ≡ None → BuiltUp (take_front r forms) → IsReadOf (take_flat (take_front r forms) form) P → ConstantRuns P (take_front r forms) (latest_first [] forms) form
constant_runs P r forms form none b k n items fits is =
    let x = take_front r forms in
    let there = definition_there n (given (plain_effect [] (codes "value" ∷ []))) (more (first_node (nested items)) nothing) false false x b in
    runs (take (read_form (f_constant n (first_node (nested items)))) x) P (own n x).word there.0 _ (subst (λ (f : Form). IsReadOf (take (read_form f) x) P) is k) there.1 (constants_are_meant r forms none n items fits)

maker_runs : (P : Program) (r : Reading) (forms : List Flat) (form : Flat) → (take_front r forms).first ≡ None → BuiltUp (take_front r forms) → IsReadOf (take_flat (take_front r forms) form) P → MakerRuns P (take_front r forms) (latest_first [] forms) form
maker_runs P r forms form none b k n c is =
    let x = take_front r forms in
    let there = definition_there n (makes c) (more (n_name c n.place) (more (n_full (codes "kernel") (codes "boa") n.place) nothing)) false false x b in
    runs (take (read_form (f_maker n c)) x) P (own n x).word there.0 _ (subst (λ (f : Form). IsReadOf (take (read_form f) x) P) is k) there.1 (makers_are_meant r forms none n c)

method_runs : (P : Program) (r : Reading) (forms : List Flat) (form : Flat) → (take_front r forms).first ≡ None → IsReadOf (take_flat (take_front r forms) form) P → MethodRuns P (take_front r forms) (latest_first [] forms) form
method_runs P r forms form none k c g locals items fits is =
    let x = take_front r forms in
    let there = method_there c g (nested items) x in
    runs (take (f_method c g (nested items)) x) P (length x.words) there.0 _ (subst (λ (f : Form). IsReadOf (take (read_form f) x) P) is k) there.1 (methods_are_meant r forms items none (items_closing locals items fits) c g)

items_run : (P : Program) (r : Reading) (forms : List Flat) (form : Flat) → (take_front r forms).first ≡ None → IsReadOf (take_flat (take_front r forms) form) P → ItemsRun P (take_front r forms) (latest_first [] forms) form
items_run P r forms form none k locals items fits is =
    let x = take_front r forms in
    let here = subst (λ (f : Form). IsReadOf (take (read_form f) x) P) is k in
    let has = top_items_are_meant r forms items none (items_closing locals items fits) in
    let last = here.top in
    record {
      phrase = has.0;
      behind = last.2.rest;
      at = last.1 ∙ ap (λ (t : Phrase). Some (top_word t)) (last.2.is ∙ ap (λ (t : Phrase). append t last.2.rest) has.1 ∙ append_three x.top has.0 last.2.rest);
      written = ap (λ (arrays : List (List Lit)). phrase_signs (array_signs arrays) has.0) here.arrays.is ∙ has.2 here.arrays.rest;
    }

pub programs_run : ProgramsRunTheirForms
unfolding taken
programs_run P files later forms rest form fits h =
    let start = taken files in
    let r = take_front start forms in
    let one_more = append_assoc forms (form ∷ []) rest in
    let all : List Flat → List (List Flat) = λ fs. files ++ fs ∷ later in
    let before = programs_keep P files later forms (form ∷ rest) fits h in
    let behind = programs_keep P files later (forms ++ form ∷ []) rest (subst (λ (fs : List Flat). AreWellFormed (all fs)) (sym one_more) fits) (ap (λ (fs : List Flat). resolved (all fs)) one_more ∙ h) in
    let here = subst (λ (x : Reading). IsReadOf x P) (fold-append take_flat (scoped begun start) forms (form ∷ [])) behind in
    let b = fronts_built files later forms (form ∷ rest) first_reading fits first_built in (
      definition_runs P start forms form before.first b here,
      constant_runs P start forms form before.first b here,
      maker_runs P start forms form before.first b here,
      method_runs P start forms form before.first here,
      items_run P start forms form before.first here,
    )
