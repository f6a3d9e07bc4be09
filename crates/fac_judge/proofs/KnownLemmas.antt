-- What is known behind texts.
use Rattle.std.proofs.Common.{◌≡◌, ◌<◌, ◌≤◌, ◌+◌, ℕ, List, [], ◌∷◌, ◌++◌, map, length, take, Result, Ok, Err, refl, sym, ap, subst, ◌∙◌, false}
use Rattle.std.specs.Prelude.{get_or}
use Rattle.std.proofs.lemmas.List.{take_all, take_more}
use Rattle.fac_source.specs.declared.tree.Form.{Form}
use Rattle.fac_source.specs.declared.refusal.NameFault.{NameFault}
use Rattle.fac_source.specs.declared.refusal.ResolveFault.{ResolveFault}
use Rattle.fac_source.specs.declared.refusal.ResolveFault.TheVariants as name
use Rattle.fac_parse.specs.declared.reader.Why.{Why}
use Rattle.fac_parse.specs.declared.reader.Why.TheVariants.{End, Other}
use Rattle.fac_notes.specs.declared.report.ByteFault.{ByteFault}
use Rattle.fac_notes.specs.declared.report.Report.TheVariants as report
use Rattle.fac_names.specs.TakenTexts.{Knows}
use Rattle.fac_parse.specs.Trees.{AreForms, IsWellFormed}
use Rattle.fac_prelude.specs.PreludeText.{prelude_text}
use Rattle.fac_vocab.specs.Scopes.{begun, using_all}
use Rattle.fac_names.specs.FromFlat.{form_of}
use Rattle.fac_known.specs.KnownPrograms.{IsKnown}
use Rattle.fac_known.specs.Laws.{FilesAreKnown, KnownGoesOn, SessionsBeginKnown}
use Rattle.fac_names.specs.Resolution.{first_reading}
use Rattle.fac_names.specs.Resolved.{going_on, read_files}
use Rattle.fac_names.specs.declared.known.Known.{Known}
use Rattle.fac_notes.specs.Sources.{no_tokens, no_tree, tree}
use Rattle.fac_session.specs.Sessions.{on_first_names, on_names, refuses, waits}
use Rattle.fac_judge.specs.TextSources.{IsReadAs, OneSource}
use Rattle.fac_judge.specs.KnownTexts.{BeginsWith, GoOn, GoesOn, GoesOnWith, IsFirst, IsKnownBehind, IsPreludeRefusal, RefusesSession}
use Rattle.fac_judge.specs.MeantTexts.{ComesTo, Means}
use Rattle.fac_judge.specs.declared.known_texts.NoNext.{NoNext}
use Rattle.fac_judge.specs.declared.known_texts.NoNext.TheVariants as none
use Rattle.fac_judge.specs.inner.NamedTexts.{KnowsBeginning, KnowsNext, KnowsPrelude, NamesForms, NamesText}

-- the forms of a tree, each by itself
pub are_forms : (forms : List Form) → IsWellFormed forms → AreForms forms
are_forms [] fits = tt
are_forms (form ∷ forms) fits = (fits.0, are_forms forms fits.2)

-- a text that is read has a tree
pub read_fits : (file : ℕ) (text : List ℕ) (forms : List Form) → IsReadAs file text (tree forms) → IsWellFormed forms
read_fits file text forms read = read.2.fits

-- One text.

same_tree : (forms others : List Form) → tree forms ≡ tree others → forms ≡ others
same_tree forms others e = cc

same_forms : OneSource → (file : ℕ) (text : List ℕ) (forms others : List Form) → IsReadAs file text (tree forms) → IsReadAs file text (tree others) → forms ≡ others
same_forms law file text forms others h k = same_tree forms others (law file text (tree forms) (tree others) h k)

abbrev it : Known → Result Known NameFault
it k = Ok k

same_known : (k q : Known) → it k ≡ it q → k ≡ q
same_known k q e = cc

one_beginning : (forms : List Form) (k q : Known) → BeginsWith forms k → BeginsWith forms q → k ≡ q
unfolding BeginsWith
one_beginning forms k q e d = same_known k q (sym e ∙ d)

one_going : (k : Known) (forms : List Form) (p q : Known) → GoesOnWith k forms p → GoesOnWith k forms q → p ≡ q
unfolding GoesOnWith
one_going k forms p q e d = same_known p q (sym e ∙ d)

one_first : OneSource → (k q : Known) → IsFirst k → IsFirst q → k ≡ q
one_first law k q h j =
    let same = same_forms law 0 prelude_text h.forms j.forms h.is_read j.is_read in
    one_beginning j.forms k q (subst (λ (fs : List Form). BeginsWith fs k) same h.begins) j.begins

one_next : OneSource → (k : Known) (text : List ℕ) (p q : Known) → GoesOn k text p → GoesOn k text q → p ≡ q
one_next law k text p q h j =
    let same = same_forms law 1 text h.forms j.forms h.is_read j.is_read in
    one_going k j.forms p q (subst (λ (fs : List Form). GoesOnWith k fs p) same h.goes_on) j.goes_on

one_behind : OneSource → (texts : List (List ℕ)) (k l p q : Known) → k ≡ l → GoOn k texts p → GoOn l texts q → p ≡ q
one_behind law [] k l p q same h j = h ∙ same ∙ sym j
one_behind law (text ∷ texts) k l p q same h j =
    let first : GoesOn l text h.0 = subst (λ (x : Known). GoesOn x text h.0) same h.1 in
    one_behind law texts h.0 j.0 p q (one_next law l text h.0 j.0 first j.1) h.2 j.2

pub one_known : OneSource → (texts : List (List ℕ)) (k q : Known) → IsKnownBehind texts k → IsKnownBehind texts q → k ≡ q
one_known law texts k q h j = one_behind law texts h.first j.first k q (one_first law h.first j.first h.is_first j.is_first) h.go_on j.go_on

-- One text more.

one_text_more : (k : Known) (texts : List (List ℕ)) (p : Known) (text : List ℕ) (q : Known) → GoOn k texts p → GoesOn p text q → GoOn k (texts ++ text ∷ []) q
one_text_more k [] p text q h next = (q, subst (λ (x : Known). GoesOn x text q) h next, refl)
one_text_more k (first ∷ texts) p text q h next = (h.0, h.1, one_text_more h.0 texts p text q h.2 next)

pub one_more_text : (texts : List (List ℕ)) (p : Known) (text : List ℕ) (q : Known) → IsKnownBehind texts p → GoesOn p text q → IsKnownBehind (texts ++ text ∷ []) q
one_more_text texts p text q h next = record { first = h.first; is_first = h.is_first; go_on = one_text_more h.first texts p text q h.go_on next }

pub behind_none : (k : Known) → IsFirst k → IsKnownBehind [] k
behind_none k first = record { first = k; is_first = first; go_on = refl }

-- What is known belongs together.

abbrev with_all : Known → Known
with_all k = record { scope = using_all (begun k.scope); program = k.program }

-- a scope with a program
pub session_begins : (k first : Known) → first.scope ≡ using_all (begun k.scope) → first.program ≡ k.program → first ≡ with_all k
session_begins k first scope program = λ i. record { scope = scope i; program = program i }

abbrev session_on : Result Known NameFault → Result Known NameFault
session_on r = elim r [ Err fault ↦ Err fault | Ok k ↦ Ok (with_all k) ]

begun_on : (r : Result Known NameFault) (k : Known) → session_on r ≡ Ok k → (p : Known) × (r ≡ Ok p) × (with_all p ≡ k)
begun_on (Err fault) k e = absurd cc
begun_on (Ok p) k e = (p, refl, same_known (with_all p) k e)

begins_on : (forms : List Form) (k : Known) → BeginsWith forms k → (p : Known) × (read_files first_reading (map form_of forms ∷ []) false ≡ Ok p) × (with_all p ≡ k)
unfolding BeginsWith
begins_on forms k e = begun_on (read_files first_reading (map form_of forms ∷ []) false) k e

first_is_known : FilesAreKnown → SessionsBeginKnown → (k : Known) → IsFirst k → IsKnown k
first_is_known files begins k h =
    let on = begins_on h.forms k h.begins in
    subst IsKnown on.2 (begins on.0 (files (h.forms ∷ []) on.0 (read_fits 0 prelude_text h.forms h.is_read, tt) on.1))

pub next_is_known : KnownGoesOn → (k q : Known) (forms : List Form) → IsWellFormed forms → IsKnown k → GoesOnWith k forms q → IsKnown q
unfolding GoesOnWith
next_is_known law k q forms fits known e = law k q forms fits known e

go_on_known : KnownGoesOn → (k : Known) (texts : List (List ℕ)) (q : Known) → IsKnown k → GoOn k texts q → IsKnown q
go_on_known law k [] q known h = subst IsKnown (sym h) known
go_on_known law k (text ∷ texts) q known h = go_on_known law h.0 texts q (next_is_known law k h.0 h.1.forms (read_fits 1 text h.1.forms h.1.is_read) known h.1.goes_on) h.2

pub behind_is_known : FilesAreKnown → KnownGoesOn → SessionsBeginKnown → (texts : List (List ℕ)) (k : Known) → IsKnownBehind texts k → IsKnown k
behind_is_known files law begins texts k h = go_on_known law h.first texts k (first_is_known files begins h.first h.is_first) h.go_on

-- What the code answers.

pub knows_prelude : (forms : List Form) (r : Result Known ResolveFault) → Knows (read_files first_reading (map (map form_of) (forms ∷ [])) false) r → KnowsPrelude forms r
unfolding KnowsPrelude
knows_prelude forms r h = h

knows_on : (first : Result Known NameFault) (p : Known) (q : Known) → first ≡ Ok p → q ≡ with_all p → session_on first ≡ Ok q
knows_on first p q e same = ap session_on e ∙ ap (λ (k : Known). Ok k) (sym same)

pub knows_beginning : (forms : List Form) (p q : Known) → KnowsPrelude forms (Ok p) → q ≡ with_all p → KnowsBeginning forms (Ok q)
unfolding KnowsPrelude KnowsBeginning
knows_beginning forms p q e same = knows_on (read_files first_reading (map form_of forms ∷ []) false) p q e same

refused_on : (first : Result Known NameFault) (fault : NameFault) → first ≡ Err fault → session_on first ≡ Err fault
refused_on first fault e = ap session_on e

pub refuses_beginning : (forms : List Form) (fault : ResolveFault) → KnowsPrelude forms (Err fault) → KnowsBeginning forms (Err fault)
unfolding KnowsPrelude KnowsBeginning
refuses_beginning forms (name.Name fault) e = refused_on (read_files first_reading (map form_of forms ∷ []) false) fault e
refuses_beginning forms name.Memory e = tt

pub wanted_beginning : (forms : List Form) → KnowsBeginning forms (Err name.Memory)
unfolding KnowsBeginning
wanted_beginning forms = tt

pub wanted_prelude : (forms : List Form) → KnowsPrelude forms (Err name.Memory)
unfolding KnowsPrelude
wanted_prelude forms = tt

begins_by : (forms : List Form) (k : Known) → KnowsBeginning forms (Ok k) → BeginsWith forms k
unfolding KnowsBeginning BeginsWith
begins_by forms k e = e

pub is_first : (forms : List Form) (k : Known) → IsReadAs 0 prelude_text (tree forms) → KnowsBeginning forms (Ok k) → IsFirst k
is_first forms k read e = record { forms = forms; is_read = read; begins = begins_by forms k e }

name_refused : (forms : List Form) (fault : NameFault) → KnowsBeginning forms (Err (name.Name fault)) → RefusesSession (tree forms) (report.Name fault)
unfolding KnowsBeginning RefusesSession
name_refused forms fault e = ap on_first_names e

pub first_refused : (forms : List Form) (fault : NameFault) → IsReadAs 0 prelude_text (tree forms) → KnowsBeginning forms (Err (name.Name fault)) → IsPreludeRefusal (report.Name fault)
first_refused forms fault read e = record { source = tree forms; is_read = read; refuses = name_refused forms fault e }

no_tokens_refused : (at : ℕ) (why : ByteFault) → RefusesSession (no_tokens at why) (report.Bytes 0 at why)
unfolding RefusesSession
no_tokens_refused at why = refl

pub tokens_refused : (at : ℕ) (why : ByteFault) → IsReadAs 0 prelude_text (no_tokens at why) → IsPreludeRefusal (report.Bytes 0 at why)
tokens_refused at why read = record { source = no_tokens at why; is_read = read; refuses = no_tokens_refused at why }

no_tree_refused : (at : ℕ) (why : Why) → RefusesSession (no_tree at why) (report.Syntax 0 at why)
unfolding RefusesSession
no_tree_refused at why = refl

pub tree_refused : (at : ℕ) (why : Why) → IsReadAs 0 prelude_text (no_tree at why) → IsPreludeRefusal (report.Syntax 0 at why)
tree_refused at why read = record { source = no_tree at why; is_read = read; refuses = no_tree_refused at why }

pub knows_next : (k : Known) (forms : List Form) (r : Result Known ResolveFault) → Knows (going_on k forms) r → KnowsNext k forms r
unfolding KnowsNext
knows_next k forms r h = h

pub wanted_next : (k : Known) (forms : List Form) → KnowsNext k forms (Err name.Memory)
unfolding KnowsNext
wanted_next k forms = tt

pub next_by : (k : Known) (forms : List Form) (q : Known) → KnowsNext k forms (Ok q) → GoesOnWith k forms q
unfolding KnowsNext GoesOnWith
next_by k forms q e = e

pub next_refused : (k : Known) (forms : List Form) (fault : NameFault) → KnowsNext k forms (Err (name.Name fault)) → (count : ℕ) → Means k count (tree forms) (refuses (report.Name fault))
unfolding KnowsNext Means
next_refused k forms fault e = λ count. ap (on_names count) e

bytes_mean : (k : Known) (count at : ℕ) (why : ByteFault) → Means k count (no_tokens at why) (refuses (report.Bytes 1 at why))
unfolding Means
bytes_mean k count at why = refl

end_means : (k : Known) (count at : ℕ) → Means k count (no_tree at End) (waits at)
unfolding Means
end_means k count at = refl

other_means : (k : Known) (count at : ℕ) → Means k count (no_tree at Other) (refuses (report.Syntax 1 at Other))
unfolding Means
other_means k count at = refl

pub bytes_refused : (k : Known) (text : List ℕ) (at : ℕ) (why : ByteFault) → IsReadAs 1 text (no_tokens at why) → (count : ℕ) → ComesTo k count text (refuses (report.Bytes 1 at why))
bytes_refused k text at why read = λ count. record { source = no_tokens at why; is_read = read; means = bytes_mean k count at why }

pub end_waits : (k : Known) (text : List ℕ) (at : ℕ) → IsReadAs 1 text (no_tree at End) → (count : ℕ) → ComesTo k count text (waits at)
end_waits k text at read = λ count. record { source = no_tree at End; is_read = read; means = end_means k count at }

pub syntax_refused : (k : Known) (text : List ℕ) (at : ℕ) → IsReadAs 1 text (no_tree at Other) → (count : ℕ) → ComesTo k count text (refuses (report.Syntax 1 at Other))
syntax_refused k text at read = λ count. record { source = no_tree at Other; is_read = read; means = other_means k count at }

-- what a text comes to is what its forms come to
pub text_named : (k : Known) (text : List ℕ) (forms : List Form) (r : Result Known NoNext) → IsReadAs 1 text (tree forms) → NamesForms k forms r → NamesText k text r
text_named k text forms (Ok q) read h = record { forms = forms; is_read = read; goes_on = h }
text_named k text forms (Err (none.Waits at)) read h = absurd h
text_named k text forms (Err (none.Refused why)) read h = λ count. record { source = tree forms; is_read = read; means = h count }
text_named k text forms (Err none.Memory) read h = tt

-- one text more of those that are gone through
pub one_step :
    (texts : List (List ℕ)) (i : ℕ) (p q : Known) (text : List ℕ) → i < length texts → text ≡ get_or texts i text → IsKnownBehind (take i texts) p → GoesOn p text q → IsKnownBehind (take (i + 1) texts) q
one_step texts i p q text below is before next =
    let there = get_or texts i text in
    let first : GoesOn p there q = subst (λ (t : List ℕ). GoesOn p t q) is next in
    subst (λ (ts : List (List ℕ)). IsKnownBehind ts q) (sym (take_more texts i text below)) (one_more_text (take i texts) p there q before first)

-- all of them
pub all_texts : (texts : List (List ℕ)) (i : ℕ) (k : Known) → length texts ≤ i → IsKnownBehind (take i texts) k → IsKnownBehind texts k
all_texts texts i k past h = subst (λ (ts : List (List ℕ)). IsKnownBehind ts k) (take_all i texts past) h
