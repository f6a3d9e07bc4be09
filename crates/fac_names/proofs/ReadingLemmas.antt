-- What forms do with the items that they read.
use Rattle.std.proofs.Common.{◌≡◌, ℕ, List, [], ◌∷◌, Option, Result, Ok, Err, Bool, false, ap, sym, ◌∙◌, fold, append-nil}
use Rattle.std.specs.Prelude.{codes, OnOk}
use Rattle.fac_lang.specs.Phrases.{Phrase, end, then, word}
use Rattle.fac_lang.specs.PhraseView.{items_phrase}
use Rattle.fac_lang.specs.RunningLaws.{append}
use Rattle.fac_base.specs.Signatures.{Signature}
use Rattle.fac_lang.specs.declared.program.Sort.{Sort}
use Rattle.fac_lang.specs.declared.program.Sort.TheVariants.{Body as body}
use Rattle.fac_source.specs.declared.refusal.NameFault.{NameFault}
use Rattle.fac_source.specs.Refusals.{sooner}
use Rattle.fac_source.specs.Toks.{number}
use Rattle.fac_vocab.specs.Scopes.{home, word_held}
use Rattle.fac_items.specs.Items.{ref, search_fault, search_faults}
use Rattle.fac_items.specs.Made.{made}
use Rattle.fac_items.specs.Readings.{read_form}
use Rattle.fac_items.specs.Written.{Tok, Nodes, f_define, f_items, f_maker, f_method, given}
use Rattle.fac_endings.specs.Words.{no_effect}
use Rattle.fac_endings.specs.declared.draft.Draft.{Draft}
use Rattle.fac_endings.specs.declared.draft.Late.{Late}
use Rattle.fac_endings.specs.declared.draft.Late.TheVariants.{Settled as settled, Maker as maker, Method as method_of}
use Rattle.fac_names.specs.declared.drafts.WordFacts.{WordFacts}
use Rattle.fac_names.specs.declared.so_far.SoFar.{SoFar}
use Rattle.fac_names.specs.Forms.{Numbered, Reading, added, changed, defined, own, read_phrase, refused, take, told, with_told}
use Rattle.fac_names.specs.inner.State.{Owns, Reads, reading_of}

pub on_ok : {A B P Q : Type 0} (r : Result A B) → (P → Q) → OnOk r P → OnOk r Q
on_ok (Ok x) f h = f h
on_ok (Err e) f h = tt

-- what is told, by its parts
pub told_parts : (t : WordFacts) (sort : Sort) (e : Signature) (inline recursive : Bool) (late : Late) (number : ℕ) (ds words : List Draft) → t.sort ≡ sort → t.effect ≡ e → t.inline ≡ inline → t.recursive ≡ recursive → t.late ≡ late →
    words ≡ changed (with_told t.sort t.effect t.inline t.recursive t.late) number ds → words ≡ changed (with_told sort e inline recursive late) number ds
told_parts t sort e inline recursive late number ds words a b c d f h =
    h
    ∙ ap (λ (x : Sort). changed (with_told x t.effect t.inline t.recursive t.late) number ds) a
    ∙ ap (λ (x : Signature). changed (with_told sort x t.inline t.recursive t.late) number ds) b
    ∙ ap (λ (x : Bool). changed (with_told sort e x t.recursive t.late) number ds) c
    ∙ ap (λ (x : Bool). changed (with_told sort e inline x t.late) number ds) d
    ∙ ap (λ (x : Late). changed (with_told sort e inline recursive x) number ds) f

-- what is told of a word that was named
pub named_told : (s mid : SoFar) (vocab : List ℕ) (t : Tok) (number : ℕ) (sort : Sort) (e : Signature) (words : List Draft) → Owns s vocab t number mid → words ≡ changed (with_told sort e false false settled) number mid.drafts →
    record (reading_of mid) { words = words } ≡ told sort e false false settled (defined vocab t (reading_of s))
named_told s mid vocab t number sort e words owned more = ap (λ (ds : List Draft). record (reading_of mid) { words = ds }) more ∙ ap (told sort e false false settled) owned

-- what is done with items that were read
pub phrase_told : (mid after : SoFar) (es : Nodes) (phrase : Phrase) (f : Phrase → Reading → Reading) → Reads mid es phrase after → f phrase (reading_of after) ≡ read_phrase es f (reading_of mid)
phrase_told mid after es phrase f h = ap (λ (t : Phrase). f t (reading_of after)) h.phrase_is ∙ ap (f (made mid.scope es mid.arrays).phrase) h.reading_is

-- what is told of a word whose items were read
abbrev telling : Signature → Bool → Bool → Late → ℕ → Phrase → Reading → Reading
telling e inline recursive late n t q = told (body t) e inline recursive late (record { word = n; reading = q })

abbrev reads_told : Signature → Bool → Bool → Late → Nodes → Numbered → Reading
reads_told e inline recursive late ns d = read_phrase ns (telling e inline recursive late d.word) d.reading

body_told : (mid after : SoFar) (number : ℕ) (e : Signature) (es : Nodes) (inline recursive : Bool) (late : Late) (phrase : Phrase) (words : List Draft) (d : Numbered) → record { word = number; reading = reading_of mid } ≡ d → Reads mid es phrase after →
    words ≡ changed (with_told (body phrase) e inline recursive late) number after.drafts → record (reading_of after) { words = words } ≡ reads_told e inline recursive late es d
body_told mid after number e es inline recursive late phrase words d is h more =
    ap (λ (ds : List Draft). record (reading_of after) { words = ds }) more
    ∙ phrase_told mid after es phrase (telling e inline recursive late number) h
    ∙ ap (reads_told e inline recursive late es) is

pub define_taken : (s mid after : SoFar) (t : Tok) (number : ℕ) (e : Signature) (es : Nodes) (inline recursive : Bool) (phrase : Phrase) (words : List Draft) → Owns s (home s.scope) t number mid → Reads mid es phrase after →
    words ≡ changed (with_told (body phrase) e inline recursive settled) number after.drafts → record (reading_of after) { words = words } ≡ take (f_define t (given e) es inline recursive) (reading_of s)
define_taken s mid after t number e es inline recursive phrase words owned h more = body_told mid after number e es inline recursive settled phrase words (own t (reading_of s)) owned h more

pub method_taken : (s referred mid after : SoFar) (c g : Tok) (number : ℕ) (es : Nodes) (phrase : Phrase) (words : List Draft) → reading_of referred ≡ refused (search_faults s.scope (c ∷ g ∷ [])) (reading_of s) →
    record { word = number; reading = reading_of mid } ≡ added [] g (reading_of referred) → Reads mid es phrase after → words ≡ changed (with_told (body phrase) no_effect false false (method_of (ref s.scope c) (ref s.scope g))) number after.drafts →
    record (reading_of after) { words = words } ≡ take (f_method c g es) (reading_of s)
method_taken s referred mid after c g number es phrase words both new h more =
    body_told mid after number no_effect es false false (method_of (ref s.scope c) (ref s.scope g)) phrase words (added [] g (refused (search_faults s.scope (c ∷ g ∷ [])) (reading_of s))) (new ∙ ap (added [] g) both) h more

pub items_taken : (s after : SoFar) (es : Nodes) (top phrase : Phrase) → Reads s es phrase after → top ≡ append (items_phrase after.items.items) phrase → record (reading_of after) { top = top } ≡ take (f_items es) (reading_of s)
items_taken s after es top phrase h more =
    ap (λ (t : Phrase). record (reading_of after) { top = t }) more
    ∙ phrase_told s after es phrase (λ t q. record q { top = append q.top t }) h

-- The word of a `C:`.

abbrev making : Tok → Tok → Numbered → Reading
making n c d =
    let s = d.reading.scope in
    let boa = number (word_held s.table (codes "kernel") (codes "boa")) in
    told (body (then (word (number (ref s c).word)) n.place (then (word boa) n.place end))) no_effect false false (maker (ref s c)) (record { word = d.word; reading = refused (search_fault s c) d.reading })

-- the refusals of a sole name
sole_fault : (n c : Tok) (r : Reading) → making n c (own n r) ≡ take (read_form (f_maker n c)) r
sole_fault n c r =
    let d = own n r in
    let s = d.reading.scope in
    let boa = number (word_held s.table (codes "kernel") (codes "boa")) in
    let t = then (word (number (ref s c).word)) n.place (then (word boa) n.place end) in
    ap (λ (fs : List NameFault). told (body t) no_effect false false (maker (ref s c)) (record { word = d.word; reading = refused fs d.reading })) (sym (append-nil (search_fault s c)))

pub maker_taken : (s mid : SoFar) (n c : Tok) (number_of : ℕ) (phrase : Phrase) (first : Option NameFault) (words : List Draft) → Owns s (home s.scope) n number_of mid → first ≡ fold sooner mid.first (search_fault mid.scope c) →
    phrase ≡ then (word (number (ref mid.scope c).word)) n.place (then (word (number (word_held mid.scope.table (codes "kernel") (codes "boa")))) n.place end) →
    words ≡ changed (with_told (body phrase) no_effect false false (maker (ref mid.scope c))) number_of mid.drafts → record (reading_of mid) { words = words; first = first } ≡ take (read_form (f_maker n c)) (reading_of s)
maker_taken s mid n c number_of phrase first words owned more is said =
    ap (λ (o : Option NameFault). record (reading_of mid) { words = words; first = o }) more
    ∙ ap (λ (ds : List Draft). record (refused (search_fault mid.scope c) (reading_of mid)) { words = ds }) said
    ∙ ap (λ (t : Phrase). told (body t) no_effect false false (maker (ref mid.scope c)) (record { word = number_of; reading = refused (search_fault mid.scope c) (reading_of mid) })) is
    ∙ ap (making n c) owned
    ∙ sole_fault n c (reading_of s)
