-- What the forms of classes do.
use Rattle.std.proofs.Common.{◌≡◌, ℕ, List, [], ◌∷◌, ◌++◌, ◌+◌, length, Option, false, fold, ap, ◌∙◌}
use Rattle.std.specs.Prelude.{◌&&◌, codes, nat_le, nat_lt}
use Rattle.fac_base.specs.Signatures.{Signature}
use Rattle.fac_lang.specs.Whole.{plain_effect}
use Rattle.fac_lang.specs.declared.program.Sort.TheVariants.{Class as class, Isa as isa}
use Rattle.fac_source.specs.declared.refusal.NameFault.{NameFault}
use Rattle.fac_source.specs.declared.refusal.NameKind.TheVariants.{TooMany}
use Rattle.fac_source.specs.Refusals.{fault_if, sooner}
use Rattle.fac_vocab.specs.Scopes.{Scope, home}
use Rattle.fac_items.specs.Items.{search_faults}
use Rattle.fac_items.specs.Written.{Tok}
use Rattle.fac_endings.specs.declared.draft.Draft.{Draft}
use Rattle.fac_endings.specs.declared.draft.Late.TheVariants.{Settled as settled}
use Rattle.fac_endings.specs.declared.draft.Named.{Named}
use Rattle.fac_endings.specs.declared.draft.NewClass.{NewClass}
use Rattle.fac_names.specs.declared.so_far.SoFar.{SoFar}
use Rattle.fac_names.specs.Forms.{Numbered, Reading, changed, class_form, class_words, counted, most_classes, own, plainly, refused, with_told}
use Rattle.fac_names.specs.inner.State.{IsClassWord, Owns, reading_of}

-- the word of a class is told
pub class_told : (s mid : SoFar) (t : Tok) (c number : ℕ) (e : Signature) (words : List Draft) → Owns s (home s.scope) t number mid → e ≡ plain_effect [] (codes "value" ∷ []) → words ≡ changed (with_told (class c) e false false settled) number mid.drafts →
    (let n = own t (reading_of s) in record { word = number; reading = record (reading_of mid) { words = words } } ≡ record n { reading = plainly (class c) [] (codes "value" ∷ []) n })
class_told s mid t c number e words owned is more =
    ap (λ (ds : List Draft). record { word = number; reading = record (reading_of mid) { words = ds } }) (more ∙ ap (λ (f : Signature). changed (with_told (class c) f false false settled) number mid.drafts) is)
    ∙ ap (λ (n : Numbered). record n { reading = plainly (class c) [] (codes "value" ∷ []) n }) owned

-- the predicate of a class
abbrev pub predicated : ℕ → Tok → Reading → Reading
predicated c t r = plainly (isa c) (codes "object" ∷ []) (codes "?" ∷ []) (own (record { text = t.text ++ codes "?"; place = t.place }) r)

abbrev many_before : ℕ → Tok → List NameFault
many_before n t = fault_if (nat_lt 0 t.place.file && nat_le most_classes n) TooMany t

abbrev with_predicate : ℕ → ℕ → Tok → Numbered → Numbered
with_predicate c before t n = record n { reading = predicated c t (refused (many_before before t) n.reading) }

-- the words of a class form
pub class_worded : (s mid after : SoFar) (t : Tok) (c before number : ℕ) (first : Option NameFault) → IsClassWord s t c number mid → c ≡ length s.old_classes + length s.classes → before ≡ counted s.drafts → first ≡ fold sooner mid.first (many_before before t) →
    reading_of after ≡ predicated c t (record (reading_of mid) { first = first }) → record { word = number; reading = reading_of after } ≡ class_words t (reading_of s)
class_worded s mid after t c before number first named is counted_is more made =
    let n = own t (reading_of s) in
    ap (λ (r : Reading). record { word = number; reading = r }) (made ∙ ap (λ (o : Option NameFault). predicated c t (record (reading_of mid) { first = o })) more)
    ∙ ap (with_predicate c before t) named
    ∙ ap (λ (k : ℕ). with_predicate k before t (record n { reading = plainly (class k) [] (codes "value" ∷ []) n })) is
    ∙ ap (λ (b : ℕ). with_predicate (length s.old_classes + length s.classes) b t (record n { reading = plainly (class (length s.old_classes + length s.classes)) [] (codes "value" ∷ []) n })) counted_is

-- a class behind its words
pub class_taken : (mid : SoFar) (word : ℕ) (t : Tok) (searched : List Tok) (names : Scope → Named) (named : Named) (first : Option NameFault) (classes : List NewClass) (r : Reading) → record { word = word; reading = reading_of mid } ≡ class_words t r →
    first ≡ fold sooner mid.first (search_faults mid.scope searched) → named ≡ names mid.scope → classes ≡ mid.classes ++ (record { tok = t; word = word; names = named }) ∷ [] →
    record (reading_of mid) { first = first; classes = classes } ≡ class_form t searched names r
class_taken mid word t searched names named first classes r is more fits added =
    ap (λ (o : Option NameFault). record (reading_of mid) { first = o; classes = classes }) more
    ∙ ap (λ (cs : List NewClass). refused (search_faults mid.scope searched) (record (reading_of mid) { classes = cs })) (added ∙ ap (λ (x : Named). mid.classes ++ (record { tok = t; word = word; names = x }) ∷ []) fits)
    ∙ ap (λ (n : Numbered). refused (search_faults n.reading.scope searched) (record n.reading { classes = n.reading.classes ++ (record { tok = t; word = n.word; names = names n.reading.scope }) ∷ [] })) is
