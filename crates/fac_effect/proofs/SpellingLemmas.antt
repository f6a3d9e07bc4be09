-- The tokens that forms are made of, and how they are spelled.
use Rattle.std.proofs.Common.{◌≡◌, ◌∙◌, ℕ, ℤ, Bool, true, false, cond, List, [], Option, Some, None, refl, ap, sym, subst}
use Rattle.std.specs.Prelude.{◌&&◌, not, is_some, map, ◌∷◌}
use Rattle.std.specs.Str.{bytes_eq}
use Rattle.std.proofs.lemmas.Slice.Eq.{bytes_eq-Decides}
use Rattle.fac_base.specs.declared.place.Place.{Place}
use Rattle.fac_source.specs.declared.token.Token.{Token}
use Rattle.fac_source.specs.declared.token.TokKind.{TokKind}
use Rattle.fac_source.specs.declared.token.TokKind.TheVariants.{Plain, Str}
use Rattle.fac_source.specs.declared.tree.FormKind.TheVariants.{In, Use, Using, From, QualifiedWith, Defer, Symbol, Constant, Private, Public, Main, Define, DefineLocals, Tuple, Union, Singleton, Generic, Method, Maker}
use Rattle.fac_source.specs.declared.tree.Bracket.TheVariants.{Quotation, Array, Fry}
use Rattle.fac_source.specs.declared.tree.Callee.TheVariants.{Callable, Word}
use Rattle.fac_source.specs.declared.tree.Key.TheVariants.{Arrow}
use Rattle.fac_source.specs.declared.tree.Literal.TheVariants.{Integer, Text, True, False}
use Rattle.fac_effect.specs.declared.spelling.Spelling.{Spelling}
use Rattle.fac_effect.specs.declared.spelling.Spelling.TheVariants.{Begins, Fixed, Semi, Opens, Closes, Dashes, OpensBracket, ClosesBracket, OpensLocals, Bar, Binds, Hole, CalledHole, Inline, Recursive, NextMethod, Wraps, EffectCall, Literal, Name, Other}
use Rattle.fac_base.specs.Numbers.{signed_in, integer_in, in_range}
use Rattle.fac_source.specs.declared.tree.FormKind.{FormKind}
use Rattle.fac_source.specs.declared.form_table.TheConstants.{FORMS}
use Rattle.fac_source.specs.FormRows.{head_of, begins, kind_among, kind_begun}
use Rattle.fac_effect.specs.declared.reserved.TheConstants.{RESERVED}
use Rattle.fac_effect.specs.Spellings.{has_integer_form, sign_text, sign_among, in_groups, group_seen, begun_or, reserved_spelling, sign_spelling, word_spelling, integer_spelling, spelling_of, string_spelling, token_spelling, token_text, plain_token}

-- spellings of one text, by which a token is told: a fry is closed by the token of a quotation
abbrev pub is_sign : Spelling → Bool
is_sign (Literal (Integer z)) = false
is_sign (Literal Text) = false
is_sign Name = false
is_sign Other = false
is_sign (ClosesBracket Fry) = false
is_sign _ = true

abbrev pub Holds : Bool → Type 0
Holds true = Unit {0}
Holds false = ⊥

abbrev pub IsSign : Spelling → Type 0
IsSign s = Holds (is_sign s)

-- a sign is spelled as its text says
pub sign_is : (s : Spelling) → IsSign s → spelling_of (sign_text s) ≡ s
unfolding spelling_of has_integer_form word_spelling sign_spelling kind_begun reserved_spelling
sign_is (Begins In) h = refl
sign_is (Begins Use) h = refl
sign_is (Begins Using) h = refl
sign_is (Begins From) h = refl
sign_is (Begins QualifiedWith) h = refl
sign_is (Begins Defer) h = refl
sign_is (Begins Symbol) h = refl
sign_is (Begins Constant) h = refl
sign_is (Begins Private) h = refl
sign_is (Begins Public) h = refl
sign_is (Begins Main) h = refl
sign_is (Begins Define) h = refl
sign_is (Begins DefineLocals) h = refl
sign_is (Begins Tuple) h = refl
sign_is (Begins Union) h = refl
sign_is (Begins Singleton) h = refl
sign_is (Begins Generic) h = refl
sign_is (Begins Method) h = refl
sign_is (Begins Maker) h = refl
sign_is (Fixed Arrow) h = refl
sign_is Semi h = refl
sign_is Opens h = refl
sign_is Closes h = refl
sign_is Dashes h = refl
sign_is (OpensBracket Quotation) h = refl
sign_is (OpensBracket Array) h = refl
sign_is (ClosesBracket Quotation) h = refl
sign_is (ClosesBracket Array) h = refl
sign_is (OpensBracket Fry) h = refl
sign_is (ClosesBracket Fry) h = absurd h
sign_is OpensLocals h = refl
sign_is Bar h = refl
sign_is Binds h = refl
sign_is Hole h = refl
sign_is CalledHole h = refl
sign_is (Literal True) h = refl
sign_is (Literal False) h = refl
sign_is Inline h = refl
sign_is Recursive h = refl
sign_is NextMethod h = refl
sign_is Wraps h = refl
sign_is (EffectCall Callable) h = refl
sign_is (EffectCall Word) h = refl
sign_is (Literal (Integer z)) h = absurd h
sign_is (Literal Text) h = absurd h
sign_is Name h = absurd h
sign_is Other h = absurd h

abbrev is_integer : Spelling → Bool
is_integer (Literal (Integer z)) = true
is_integer _ = false

-- what a token's text says where it is one of the table
abbrev Says : List ℕ → Option Spelling → Type 0
Says text None = Unit {0}
Says text (Some s) = (is_integer s ≡ false) × (IsSign s → text ≡ sign_text s)

-- a row whose token is spelled as its text says
abbrev tells : List ℕ × Spelling → Bool
tells row = not (is_integer row.1) && cond (is_sign row.1) (bytes_eq row.0 (sign_text row.1)) true

abbrev all_tell : List (List ℕ × Spelling) → Bool
all_tell [] = true
all_tell (row ∷ rows) = tells row && all_tell rows

both_hold : (a b : Bool) → (a && b) ≡ true → (a ≡ true) × (b ≡ true)
both_hold true b h = (refl, h)
both_hold false b h = cc

is_not : (a : Bool) → not a ≡ true → a ≡ false
is_not true h = cc
is_not false h = refl

where_sign : (a b : Bool) → cond a b true ≡ true → Holds a → b ≡ true
where_sign true b h k = h
where_sign false b h k = absurd k

row_says : (text sign : List ℕ) (s : Spelling) → tells (sign, s) ≡ true → text ≡ sign → Says text (Some s)
row_says text sign s h is =
    let parts = both_hold (not (is_integer s)) (cond (is_sign s) (bytes_eq sign (sign_text s)) true) h in
    (is_not (is_integer s) parts.0, λ k. is ∙ (bytes_eq-Decides sign (sign_text s)).0 (where_sign (is_sign s) (bytes_eq sign (sign_text s)) parts.1 k))

one_says : (text sign : List ℕ) (s : Spelling) (rest : Option Spelling) (b : Bool) → bytes_eq text sign ≡ b → tells (sign, s) ≡ true → Says text rest → Says text (cond b (Some s) rest)
one_says text sign s rest true is h later = row_says text sign s h ((bytes_eq-Decides text sign).0 is)
one_says text sign s rest false is h later = later

among_says : (rows : List (List ℕ × Spelling)) (text : List ℕ) → all_tell rows ≡ true → Says text (sign_among rows text)
among_says [] text h = tt
among_says (row ∷ rows) text h =
    let parts = both_hold (tells row) (all_tell rows) h in
    one_says text row.0 row.1 (sign_among rows text) (bytes_eq text row.0) refl parts.0 (among_says rows text parts.1)

reserved_says : (text : List ℕ) → Says text (reserved_spelling text)
unfolding reserved_spelling
reserved_says text = among_says (in_groups (map group_seen RESERVED)) text refl

-- The tokens that begin forms, in the same way.
abbrev all_begin : List (List ℕ × FormKind) → Bool
all_begin [] = true
all_begin (row ∷ rows) = bytes_eq row.0 (head_of row.1) && all_begin rows

one_begins : (text head : List ℕ) (kind : FormKind) (rest : Option FormKind) (later : Option Spelling) (b : Bool) → bytes_eq text head ≡ b → bytes_eq head (head_of kind) ≡ true → Says text (begun_or rest later) → Says text (begun_or (cond b (Some kind) rest) later)
one_begins text head kind rest later true is h says = (refl, λ k. (bytes_eq-Decides text head).0 is ∙ (bytes_eq-Decides head (head_of kind)).0 h)
one_begins text head kind rest later false is h says = says

heads_say : (rows : List (List ℕ × FormKind)) (text : List ℕ) (later : Option Spelling) → all_begin rows ≡ true → Says text later → Says text (begun_or (kind_among rows text) later)
heads_say [] text later h says = says
heads_say (row ∷ rows) text later h says =
    let parts = both_hold (bytes_eq row.0 (head_of row.1)) (all_begin rows) h in
    one_begins text row.0 row.1 (kind_among rows text) later (bytes_eq text row.0) refl parts.0 (heads_say rows text later parts.1 says)

says : (text : List ℕ) → Says text (sign_spelling text)
unfolding sign_spelling kind_begun
says text = heads_say (map begins FORMS) text (reserved_spelling text) refl (reserved_says text)

sign_picked : (b : Bool) (o : Option ℤ) (s : Option Spelling) → IsSign (cond b (integer_spelling o) (elim s [ Some s ↦ s | None ↦ Name ])) → s ≡ Some (cond b (integer_spelling o) (elim s [ Some s ↦ s | None ↦ Name ]))
sign_picked true None s h = absurd h
sign_picked true (Some z) s h = absurd h
sign_picked false o (Some s) h = refl
sign_picked false o None h = absurd h

sign_only : (text : List ℕ) → IsSign (spelling_of text) → sign_spelling text ≡ Some (spelling_of text)
unfolding spelling_of word_spelling
sign_only text h = sign_picked (has_integer_form text) (integer_in text) (sign_spelling text) h

no_sign : (b : Bool) → IsSign (cond b (Literal Text) Other) → ⊥
no_sign true h = h
no_sign false h = h

no_sign_string : (content : List ℕ) → IsSign (string_spelling content) → ⊥
unfolding string_spelling
no_sign_string content h = no_sign _ h

sign_kind : (p : Place) (k : TokKind) → IsSign (token_spelling k) → record { place = p; kind = k } ≡ plain_token p (sign_text (token_spelling k))
sign_kind p (Plain text) h = ap (plain_token p) ((subst (Says text) (sign_only text h) (says text)).1 h)
sign_kind p (Str text) h = absurd (no_sign_string text h)

-- a token that is spelled as a sign is that sign
pub sign_token : (t : Token) (s : Spelling) → token_spelling t.kind ≡ s → IsSign s → t ≡ plain_token t.place (sign_text s)
sign_token t s e h = subst (λ (s : Spelling). t ≡ plain_token t.place (sign_text s)) e (sign_kind t.place t.kind (subst IsSign (sym e) h))

-- A name is a plain token.
no_name_picked : (b : Bool) → cond b (Literal Text) Other ≡ Name → ⊥
no_name_picked true h = cc
no_name_picked false h = cc

no_name_string : (content : List ℕ) → string_spelling content ≡ Name → ⊥
unfolding string_spelling
no_name_string content h = no_name_picked _ h

name_kind : (p : Place) (k : TokKind) → token_spelling k ≡ Name → record { place = p; kind = k } ≡ plain_token p (token_text k)
name_kind p (Plain text) h = refl
name_kind p (Str text) h = absurd (no_name_string text h)

pub name_token : (t : Token) → token_spelling t.kind ≡ Name → t ≡ plain_token t.place (token_text t.kind)
name_token t h = name_kind t.place t.kind h

-- Integers.
no_integer_sign : (text : List ℕ) (z : ℤ) → sign_spelling text ≡ Some (Literal (Integer z)) → ⊥
no_integer_sign text z e = no_both (subst (Says text) e (says text)).0 where
  no_both : true ≡ false → ⊥
  no_both e = cc

word_picked : (s : Option Spelling) (z : ℤ) → (s ≡ Some (Literal (Integer z)) → ⊥) → elim s [ Some s ↦ s | None ↦ Name ] ≡ Literal (Integer z) → ⊥
word_picked (Some s) z h e = h (ap Some e)
word_picked None z h e = cc

no_integer_word : (text : List ℕ) (z : ℤ) → word_spelling text ≡ Literal (Integer z) → ⊥
unfolding word_spelling
no_integer_word text z e = word_picked (sign_spelling text) z (no_integer_sign text z) e

read_integer : (b : Bool) (o : Option ℤ) (w : Spelling) (z : ℤ) → (w ≡ Literal (Integer z) → ⊥) → cond b (integer_spelling o) w ≡ Literal (Integer z) → o ≡ Some z
read_integer true None w z h e = cc
read_integer true (Some y) w z h e = cc
read_integer false o w z h e = absurd (h e)

written_integer : (o : Option ℤ) (w : Spelling) (z : ℤ) → elim o [ None ↦ None | Some y ↦ in_range y ] ≡ Some z → cond (is_some o) (integer_spelling (elim o [ None ↦ None | Some y ↦ in_range y ])) w ≡ Literal (Integer z)
written_integer None w z e = cc
written_integer (Some y) w z e = ap integer_spelling e

pub literals_are_integers : (text : List ℕ) (z : ℤ) → (spelling_of text ≡ Literal (Integer z) → integer_in text ≡ Some z) × (integer_in text ≡ Some z → spelling_of text ≡ Literal (Integer z))
unfolding spelling_of has_integer_form
literals_are_integers text z =
    (λ e. read_integer (has_integer_form text) (integer_in text) (word_spelling text) z (no_integer_word text z) e, λ e. written_integer (signed_in text) (word_spelling text) z e)
