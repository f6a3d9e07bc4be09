-- What a name finds behind forms of a file, of which the latest is the first here: it is looked for among them from the place on backwards.
use Rattle.std.specs.Prelude.{◌≡◌, ℕ, List, [], ◌∷◌, length, fold, Option, Some, None, codes, if◌then◌else◌}
use Rattle.fac_source.specs.declared.tree.Form.{Form as Flat}
use Rattle.fac_source.specs.Toks.{is_among, texts_of}
use Rattle.fac_vocab.specs.declared.entry.Entry.{Entry}
use Rattle.fac_vocab.specs.declared.brought.Brought.TheVariants.{Prefixed as prefixed}
use Rattle.fac_vocab.specs.Scopes.{word_held, or_else, given_by, companion, all_used, with_vocab, Found, the, only_one, found, home, holders}
use Rattle.fac_items.specs.Written.{Tok, Form, f_in, f_use, f_using, f_from, f_qualified, f_defer, f_symbol, f_define, f_tuple, f_union, f_single, f_generic}
use Rattle.fac_items.specs.Readings.{read_form}
use Rattle.fac_names.specs.Forms.{Reading, own, take}
use Rattle.fac_names.specs.FromFlat.{form_of}
use Rattle.fac_names.specs.TakenForms.{take_front}

-- the current vocabulary: that of the nearest `IN:`, or `scratchpad`
abbrev pub current_at : List Form → List ℕ
current_at [] = codes "scratchpad"
current_at (f_in v ∷ before) = v.text
current_at (_ ∷ before) = current_at before

-- the vocabularies in use, each once: `syntax`, and those of each `USE:` and `USING:`
abbrev pub used_at : List Form → List (List ℕ)
used_at [] = codes "syntax" ∷ []
used_at (f_use v ∷ before) = with_vocab (used_at before) v.text
used_at (f_using vs ∷ before) = fold with_vocab (used_at before) (texts_of vs)
used_at (_ ∷ before) = used_at before

-- the word that the nearest form brought under this name: `FROM:` brings its names, and `QUALIFIED-WITH:` those of its vocabulary behind the prefix
abbrev pub brought_at : List Entry → List ℕ → List Form → Option ℕ
brought_at table name [] = None
brought_at table name (f_from v ns ∷ before) = (if is_among name (texts_of ns) then word_held table v.text name else brought_at table name before)
brought_at table name (f_qualified v p ∷ before) = or_else (given_by table name (prefixed v.text p.text)) (brought_at table name before)
brought_at table name (_ ∷ before) = brought_at table name before

-- The word of a name: that of the current vocabulary, or else of its companion, or else the one that was brought last, or else the one word of that name that the
-- vocabularies in use have.
abbrev pub found_at : List Entry → List ℕ → List Form → Found
found_at table name before =
    elim (or_else (word_held table (current_at before) name) (or_else (word_held table (companion (current_at before)) name) (brought_at table name before))) [
      | Some w ↦ the w
      | None ↦ only_one (all_used table name (used_at before))
    ]

-- forms in the order in which they stand, the latest first, before others
abbrev pub latest_first : List Form → List Flat → List Form
latest_first before [] = before
latest_first before (f ∷ fs) = latest_first (read_form (form_of f) ∷ before) fs

-- Behind forms of a file of which none is refused a name finds what it finds among these forms, whatever files come before. So it does in the phrase of a word that
-- is defined next, whose own name is known there.
abbrev pub NamesAreFound : Type 0
NamesAreFound =
    (r : Reading) (forms : List Flat) (name : List ℕ) → (take_front r forms).first ≡ None →
    (let s = (take_front r forms).scope in found s name ≡ found_at s.table name (latest_first [] forms)) × ((n : Tok) → (let s = (own n (take_front r forms)).reading.scope in found s name ≡ found_at s.table name (latest_first [] forms)))

-- the name that a form defines in the vocabulary in which it stands, behind its reading
abbrev pub own_name : Form → Option Tok
own_name (f_defer n) = Some n
own_name (f_symbol n) = Some n
own_name (f_define n e ns inline recursive) = Some n
own_name (f_tuple n parent slots) = Some n
own_name (f_union n members) = Some n
own_name (f_single n) = Some n
own_name (f_generic n e) = Some n
own_name _ = None

-- Where neither the vocabulary nor its companion has the name of a form, the name finds there the first word that the form adds,
abbrev pub FormsDefine : Type 0
FormsDefine = (r : Reading) (form : Form) (n : Tok) → own_name form ≡ Some n → holders r.scope.table (home r.scope) n.text ≡ [] → word_held (take form r).scope.table (home r.scope) n.text ≡ Some (length r.words)

-- and a vocabulary has for good what it has under a name.
abbrev pub NamesKeepWords : Type 0
NamesKeepWords = (r : Reading) (forms : List Flat) (vocab name : List ℕ) (w : ℕ) → word_held r.scope.table vocab name ≡ Some w → word_held (take_front r forms).scope.table vocab name ≡ Some w
