-- What is read behind some forms of files is of the program that the files come to.
use Rattle.std.proofs.Common.{◌≡◌, ◌+◌, ℕ, zero, suc, List, [], ◌∷◌, ◌++◌, map, fold, length, slice_get, Option, Some, None, Result, Ok, Err, Bool, true, false, refl, ap, sym, ◌∙◌, subst, arith}
use Rattle.std.specs.Option.{option_map}
use Rattle.std.proofs.lemmas.List.{length-map}
use Rattle.std.proofs.lemmas.List.Sums.{fold-append}
use Rattle.std.proofs.lemmas.Option.{slice_get-map}
use Rattle.fac_base.specs.Signatures.{Signature}
use Rattle.fac_lang.specs.Phrases.{Phrase}
use Rattle.fac_lang.specs.RunningLaws.{append}
use Rattle.fac_lang.specs.declared.program.ClassDef.{ClassDef}
use Rattle.fac_lang.specs.declared.program.Program.{Program}
use Rattle.fac_lang.specs.declared.program.Sort.{Sort}
use Rattle.fac_lang.specs.declared.program.Sort.TheVariants.{Body as body, Itself as itself}
use Rattle.fac_lang.specs.declared.program.WordDef.{WordDef}
use Rattle.fac_source.specs.declared.refusal.NameFault.{NameFault}
use Rattle.fac_source.specs.declared.tok.Ref.{Ref}
use Rattle.fac_source.specs.declared.tree.Form.{Form as Flat}
use Rattle.fac_parse.specs.Trees.{AreForms, AreWellFormed, IsWellFormed}
use Rattle.fac_vocab.specs.Scopes.{begun}
use Rattle.fac_vocab.specs.declared.entry.Entry.{Entry}
use Rattle.fac_items.specs.Readings.{read_form}
use Rattle.fac_items.proofs.PhraseLemmas.{append_three}
use Rattle.fac_endings.specs.ClassTable.{class_at, classes_of, word_at}
use Rattle.fac_endings.specs.FinishedWords.{as_method, effect_of_word, finished, finished_by, with_maker}
use Rattle.fac_endings.specs.LastRefusals.{last_faults}
use Rattle.fac_endings.specs.Words.{top_word}
use Rattle.fac_endings.specs.declared.draft.Draft.{Draft}
use Rattle.fac_endings.specs.declared.draft.Late.{Late}
use Rattle.fac_endings.specs.declared.draft.Late.TheVariants.{Settled as settled, Deferred as deferred, Maker as maker, Method as method_of}
use Rattle.fac_source.specs.Toks.{number}
use Rattle.fac_names.specs.Forms.{Reading, scoped}
use Rattle.fac_names.specs.FromFlat.{form_of}
use Rattle.fac_names.specs.Resolution.{first_reading, program_alone, resolved}
use Rattle.fac_names.specs.Resolved.{answer, first_fault, program_of, top_phrase}
use Rattle.fac_names.specs.TakenForms.{take_flat, take_front, taken}
use Rattle.fac_names.proofs.ArrayReadings.{IsUntold, Spared}
use Rattle.fac_names.proofs.BuiltForms.{BuiltUp, begun_built, take_built}
use Rattle.fac_names.proofs.DefinedNames.{none_before}
use Rattle.fac_names.proofs.EntryLemmas.{all_spare}
use Rattle.fac_names.proofs.FileLemmas.{files_taken}
use Rattle.fac_names.proofs.KnownBuilt.{first_built}
use Rattle.fac_names.proofs.PlainForms.{form_plain}
use Rattle.fac_known.specs.Laws.{Grows, IsReadOf, ProgramsKeepPhrases, phrase_in}
use Rattle.fac_known.proofs.Growing.{forms_grow, grows_fold, grows_then, scoped_grows}
use Rattle.fac_known.proofs.Staying.{At, form_at, there_still}

-- Forms as they are taken.

flat_grows : (r : Reading) (f : Flat) → Grows r (take_flat r f)
flat_grows r f = forms_grow (read_form (form_of f)) r

front_grows : (r : Reading) (forms : List Flat) → Grows r (take_front r forms)
front_grows r forms = grows_then (scoped_grows begun r) (grows_fold take_flat flat_grows forms (scoped begun r))

flats_at : {w : ℕ} {d : Draft} (forms : List Flat) (r : Reading) → At w d r → At w d (fold take_flat r forms)
flats_at [] r a = a
flats_at (f ∷ forms) r a = flats_at forms (take_flat r f) (form_at (read_form (form_of f)) r a)

begun_at : {w : ℕ} {d : Draft} (r : Reading) → At w d r → At w d (scoped begun r)
begun_at {w} {d} r a = record { is = a.is; spared = a.spared }

fronts_at : {w : ℕ} {d : Draft} (files : List (List Flat)) (r : Reading) → At w d r → At w d (fold take_front r files)
fronts_at [] r a = a
fronts_at (forms ∷ files) r a = fronts_at files (take_front r forms) (flats_at forms (scoped begun r) (begun_at r a))

forms_before : (forms rest : List Flat) → IsWellFormed (forms ++ rest) → AreForms forms
forms_before [] rest h = tt
forms_before (f ∷ forms) rest h = (h.0, forms_before forms rest h.2)

each_form : (forms : List Flat) → IsWellFormed forms → AreForms forms
each_form [] h = tt
each_form (f ∷ forms) h = (h.0, each_form forms h.2)

flats_built : (forms : List Flat) (r : Reading) → AreForms forms → BuiltUp r → BuiltUp (fold take_flat r forms)
flats_built [] r h b = b
flats_built (f ∷ forms) r h b = flats_built forms (take_flat r f) h.1 (take_built (read_form (form_of f)) r (form_plain f h.0) b)

front_built : (forms : List Flat) (r : Reading) → AreForms forms → BuiltUp r → BuiltUp (take_front r forms)
front_built forms r h b = flats_built forms (scoped begun r) h (begun_built r b)

-- what is read behind whole files, and behind the first forms of the next one
pub fronts_built : (files later : List (List Flat)) (forms rest : List Flat) (r : Reading) → AreWellFormed (files ++ (forms ++ rest) ∷ later) → BuiltUp r → BuiltUp (take_front (fold take_front r files) forms)
fronts_built [] later forms rest r h b = front_built forms r (forms_before forms rest h.0) b
fronts_built (file ∷ files) later forms rest r h b = fronts_built files later forms rest (take_front r file) h.1 (front_built file r (each_form file h.0) b)

-- What the end makes of a word.

method_phrase : (o : Option ℕ) (g : ℕ) (e : Signature) (s : Sort) (w : WordDef) (t : Phrase) → s ≡ body t → w.sort ≡ s → phrase_in (as_method o g e s w).sort ≡ Some t
method_phrase o g e s w t h k = subst (λ (x : Sort). phrase_in (as_method o g e x w).sort ≡ Some t) (sym h) (one o)
  where
    one : (o : Option ℕ) → phrase_in (as_method o g e (body t) w).sort ≡ Some t
    one (Some c) = refl
    one None = ap phrase_in (k ∙ h)

maker_phrase : (cs : List ClassDef) (o : Option ℕ) (r : Ref) (w : WordDef) → (with_maker cs r o w).sort ≡ w.sort
maker_phrase cs (Some c) r w = refl
maker_phrase cs None r w = refl

finished_phrase : (ds : List Draft) (cs : List ClassDef) (w : WordDef) (late : Late) (t : Phrase) → w.sort ≡ body t → phrase_in (finished_by ds cs w late).sort ≡ Some t
finished_phrase ds cs w settled t h = ap phrase_in h
finished_phrase ds cs w deferred t h = ap phrase_in h
finished_phrase ds cs w (maker r) t h = ap phrase_in (maker_phrase cs (class_at ds r) r w ∙ h)
finished_phrase ds cs w (method_of c g) t h = method_phrase (class_at ds c) (number g.word) (effect_of_word (word_at ds g)) w.sort w t h refl

-- What is known of one word.
spared_at : (k n : ℕ) (ds : List Draft) (table : List Entry) (d : Draft) → Spared k ds table → slice_get ds n ≡ Some d → all_spare (n + k) table ≡ false → IsUntold d
spared_at k n [] table d h is out = absurd (cc)
spared_at k zero (x ∷ ds) table d h is out = let same : x ≡ d = cc in subst IsUntold same (h.0 (ap (λ (m : ℕ). all_spare m table) (let e : k ≡ 0 + k = omega arith in e) ∙ out))
spared_at k (suc n) (x ∷ ds) table d h is out = spared_at (suc k) n ds table d h.1 is (ap (λ (m : ℕ). all_spare m table) (let e : n + suc k ≡ suc n + k = omega arith in e) ∙ out)

-- All of it.

told_spared : (b : Bool) → (b ≡ false → ⊥) → b ≡ true
told_spared true h = refl
told_spared false h = absurd (h refl)

no_body : (s : Sort) (t : Phrase) → s ≡ body t → s ≡ itself → ⊥
no_body s t h k = let e : body t ≡ itself = sym h ∙ k in cc

word_at_end : (q : Reading) (w : ℕ) (d : Draft) (t : Phrase) → slice_get q.words w ≡ Some d → d.word.sort ≡ body t → (x : WordDef) × (slice_get (program_of false q).words w ≡ Some x) × (phrase_in x.sort ≡ Some t)
word_at_end q w d t at h =
    let cs = classes_of q.words q.old_classes q.classes in
    let finish : Draft → WordDef = finished q.words cs in (
      finish d,
      there_still (map finish q.words) (top_word (top_phrase false q) ∷ []) w (finish d) (slice_get-map finish q.words w ∙ ap (option_map finish) at),
      finished_phrase q.words cs d.word d.late t h,
    )

last_there : (xs : List WordDef) (x : WordDef) → slice_get (xs ++ x ∷ []) (length xs) ≡ Some x
last_there [] x = refl
last_there (y ∷ xs) x = last_there xs x

last_word : (q : Reading) → slice_get (program_of false q).words (program_of false q).top ≡ Some (top_word (top_phrase false q))
last_word q =
    let ws = map (finished q.words (classes_of q.words q.old_classes q.classes)) q.words in
    let last = top_word (top_phrase false q) in
    ap (λ (n : ℕ). slice_get (ws ++ last ∷ []) n) (sym (length-map q.words (finished q.words (classes_of q.words q.old_classes q.classes)))) ∙ last_there ws last

program_kept : (r q : Reading) (o : Option NameFault) (P : Program) → BuiltUp r → ((w : ℕ) (d : Draft) → At w d r → At w d q) → Grows r q → first_fault q ≡ o → program_alone (answer false q o) ≡ Ok P → IsReadOf r P
program_kept r q (Some f) P b go grows is h = absurd (err_ok f P h)
  where
    err_ok : (f : NameFault) (P : Program) → Err f ≡ Ok P → ⊥
    err_ok f P e = cc
program_kept r q None P b go grows is h =
    let same : program_of false q ≡ P = ap (λ (x : Result Program NameFault). elim x [ Ok Q ↦ Q | Err f ↦ P ]) h in
    subst (λ (Q : Program). IsReadOf r Q) same (record {
      first = none_before r.first grows.first.more (sym grows.first.is ∙ none_before q.first (last_faults q.words q.old_classes q.classes) is);
      phrases = λ w d t at has.
          let spared = told_spared (all_spare w r.scope.table) (λ out. no_body d.word.sort t has (spared_at 0 w r.words r.scope.table d b.counted.spared at (ap (λ (n : ℕ). all_spare n r.scope.table) (let e : w + 0 ≡ w = omega arith in e) ∙ out)).0) in
          word_at_end q w d t (go w d (record { is = at; spared = spared })).is has;
      arrays = grows.arrays;
      top = (top_phrase false q, last_word q, record { rest = append grows.top.rest q.main; is = ap (λ (t : Phrase). append t q.main) grows.top.is ∙ append_three r.top grows.top.rest q.main });
    })

pub programs_keep : ProgramsKeepPhrases
unfolding resolved taken
programs_keep P files later forms rest fits h =
    let r = take_front (fold take_front first_reading files) forms in
    let q = fold take_front (fold take_flat r rest) later in
    let all = files ++ (forms ++ rest) ∷ later in
    let joint : fold take_front first_reading all ≡ q =
    fold-append take_front first_reading files ((forms ++ rest) ∷ later)
    ∙ ap (λ (x : Reading). fold take_front x later) (fold-append take_flat (scoped begun (fold take_front first_reading files)) forms rest) in
    let read = sym (files_taken all first_reading fits) ∙ joint in
    let grows : Grows r q = grows_then (grows_fold take_flat flat_grows rest r) (grows_fold take_front front_grows later (fold take_flat r rest)) in
    program_kept r q (first_fault q) P (fronts_built files later forms rest first_reading fits first_built)
    (λ w d a. fronts_at later (fold take_flat r rest) (flats_at rest r a))
    grows refl (ap (λ (x : Reading). program_alone (answer false x (first_fault x))) (sym read) ∙ h)
