-- How an effect is made of its tokens.
use Rattle.std.proofs.Common.{◌≡◌, ℕ, ◌≤◌, ◌+◌, ◌-◌, Bool, true, false, cond, ◌&&◌, Option, Some, None, List, [], ◌∷◌, ◌++◌, length, take, drop, Result, Ok, Err, IfOk, MatchOption, IsCharBoundary, Bor, refl, ap, sym, ◌∙◌, subst, append_assoc, append-nil, take-append-drop, length-append, arith}
use Rattle.std.specs.Prelude.{codes, nat_le, suc}
use Rattle.std.specs.Global.{Vec}
use Rattle.std.specs.Str.{bytes_eq, chars}
use Rattle.std.proofs.Math.Seq.{drop-append_seam}
use Rattle.std.proofs.lemmas.Bool.{false_from_ne_true}
use Rattle.std.proofs.lemmas.Slice.Eq.{bytes_eq-Decides}
use Rattle.fac_base.specs.declared.limits.TheConstants.{MOST_ELEMENTS}
use Rattle.fac_base.specs.declared.memory.Memory.{Memory}
use Rattle.fac_base.specs.declared.place.Place.{Place}
use Rattle.fac_source.specs.declared.token.Token.{Token}
use Rattle.fac_source.specs.declared.token.TokKind.{TokKind}
use Rattle.fac_source.specs.declared.token.TokKind.TheVariants.{Plain, Str}
use Rattle.fac_base.specs.declared.effect.Input.{Input}
use Rattle.fac_base.specs.declared.effect.Outs.{Outs}
use Rattle.fac_base.specs.declared.effect.Outs.TheVariants.{Never}
use Rattle.fac_base.specs.Signatures.{Signature, signature, Inputs, no_inputs, value, quoted, Leaving, never, leaves}
use Rattle.fac_base.specs.EffectView.{inputs_tree, outs_leaving}
use Rattle.fac_source.specs.declared.tree.Literal.TheVariants.{Text}
use Rattle.fac_effect.specs.declared.spelling.Spelling.TheVariants as spelled
use Rattle.fac_effect.specs.Spellings.{token_text, token_spelling, plain_token, spelling_of, string_spelling, is_row_name, is_described_name}
use Rattle.fac_effect.specs.WrittenEffects.{Written, written, Entries, no_entries, plain, described, detailed, written_tokens, entries_tokens, is_row, is_colon, IsColonName, IsWritten, IsSide, AreValues, without_colon, plain_name, colon_name, row_if, row_in, values_in, output_names, leaving_in, side_inputs, inputs_of, said}
use Rattle.fac_effect.specs.EffectReading.{after, whole}
use Rattle.fac_effect.specs.SaidEffects.{effect_of}
use Rattle.fac_effect.specs.inner.EffectParts.{first_row, without_row, names_of, leaving_of, behind_first, is_text, first_unless, begins_with, begins_never, AreNamed, Describes, GivesDescribed, GivesEntry, GivesEntries, GivesOuts, GivesEffect}
use Rattle.fac_effect.proofs.SpellingLemmas.{sign_is}
use Rattle.fac_effect.proofs.EffectsReadBack.{grouped}
use Rattle.fac_effect.proofs.EffectLemmas.{whole_is_effect}

-- Names that end in a colon.

with_colon : (s stem : List ℕ) → s ≡ stem ++ codes ":" → is_described_name s ≡ true
with_colon s stem e =
    let long = length-append stem (codes ":") in
    let n : length (stem ++ codes ":") - 1 ≡ length stem = omega (arith, long) in
    (bytes_eq-Decides (drop (length s - 1) s) (codes ":")).1 (ap (λ (t : List ℕ). drop (length t - 1) t) e ∙ ap (λ (k : ℕ). drop k (stem ++ codes ":")) n ∙ drop-append_seam stem (codes ":"))

colon_split : (s : List ℕ) → is_described_name s ≡ true → s ≡ without_colon s ++ codes ":"
colon_split s h = sym (take-append-drop (length s - 1) s) ∙ ap (λ (t : List ℕ). without_colon s ++ t) ((bytes_eq-Decides (drop (length s - 1) s) (codes ":")).0 h)

no_stem : (s : List ℕ) → ((front : List ℕ) → s ≡ front ++ codes ":" → ⊥) → is_described_name s ≡ false
no_stem s h = false_from_ne_true (is_described_name s) (λ d. h (without_colon s) (colon_split s d))

stem : (s x : List ℕ) (k : ℕ) → k ≡ 1 → s ≡ take (length s - k) s ++ codes ":" → x ≡ take (length s - k) s → (is_described_name s ≡ true) × (x ≡ without_colon s)
stem s x k one e h = (with_colon s (take (length s - k) s) e, h ∙ ap (λ (n : ℕ). take (length s - n) s) one)

-- what `strip_suffix` finds
pub stem_found : (s : List ℕ) (r : Option (Bor (List ℕ))) → MatchOption r ((front : List ℕ) → s ≡ front ++ codes ":" → ⊥) (λ x. (k : ℕ) × ((k ≡ length (codes ":")) × (s ≡ take (length s - k) s ++ codes ":") × IsCharBoundary s (length s - length (codes ":"))) × (x.now ≡ take (length s - k) s) × (length x.now + k ≡ length s)) → MatchOption r (is_described_name s ≡ false) (λ x. (is_described_name s ≡ true) × (x.now ≡ without_colon s))
stem_found s None h = no_stem s h
stem_found s (Some x) h = stem s x.now h.0 h.1.0 h.1.1 h.2

row_before_colon : (stem : List ℕ) → is_row_name stem ≡ is_row_name (stem ++ codes ":")
row_before_colon [] = refl
row_before_colon (a ∷ []) = refl
row_before_colon (a ∷ b ∷ stem) = refl

colon_row : (t : Token) → IsColonName t → is_row_name (colon_name t) ≡ is_row t
colon_row t h = row_before_colon (colon_name t) ∙ ap is_row_name (sym (colon_split (token_text t.kind) h.1))

-- All entries of a side as inputs.

side_row : (es : Entries) → IsSide es → first_row (inputs_of es) ≡ row_in es
side_row no_entries h = refl
side_row (plain name es) h = refl
side_row (described name class es) h = ap (λ (b : Bool). row_if b (colon_name name)) (colon_row name h.0)
side_row (detailed name w es) h = ap (λ (b : Bool). row_if b (colon_name name)) (colon_row name h.0)

side_values : (es : Entries) → IsSide es → without_row (inputs_of es) ≡ side_inputs es
side_values no_entries h = refl
side_values (plain name es) h = refl
side_values (described name class es) h = ap (λ (b : Bool). cond b (inputs_of es) (value (colon_name name) (inputs_of es))) (colon_row name h.0)
side_values (detailed name w es) h = ap (λ (b : Bool). cond b (inputs_of es) (quoted (colon_name name) (said w) (inputs_of es))) (colon_row name h.0)

inputs_names : (es : Entries) → names_of (inputs_of es) ≡ output_names es
inputs_names no_entries = refl
inputs_names (plain name es) = ap (λ (ns : List (List ℕ)). plain_name name ∷ ns) (inputs_names es)
inputs_names (described name class es) = ap (λ (ns : List (List ℕ)). colon_name name ∷ ns) (inputs_names es)
inputs_names (detailed name w es) = ap (λ (ns : List (List ℕ)). colon_name name ∷ ns) (inputs_names es)

picked_names : (b : Bool) (is js : Inputs) (es fs : Entries) → names_of is ≡ output_names es → names_of js ≡ output_names fs → names_of (cond b is js) ≡ output_names (cond b es fs)
picked_names true is js es fs h k = h
picked_names false is js es fs h k = k

side_names : (es : Entries) → IsSide es → names_of (without_row (inputs_of es)) ≡ output_names (values_in es)
side_names no_entries h = refl
side_names (plain name es) h = picked_names (is_row name) (inputs_of es) (inputs_of (plain name es)) es (plain name es) (inputs_names es) (inputs_names (plain name es))
side_names (described name class es) h =
    ap (λ (b : Bool). names_of (cond b (inputs_of es) (inputs_of (described name class es)))) (colon_row name h.0) ∙
    picked_names (is_row name) (inputs_of es) (inputs_of (described name class es)) es (described name class es) (inputs_names es) (inputs_names (described name class es))
side_names (detailed name w es) h =
    ap (λ (b : Bool). names_of (cond b (inputs_of es) (inputs_of (detailed name w es)))) (colon_row name h.0) ∙
    picked_names (is_row name) (inputs_of es) (inputs_of (detailed name w es)) es (detailed name w es) (inputs_names es) (inputs_names (detailed name w es))

side_leaves : (es : Entries) → IsSide es → leaving_of (inputs_of es) ≡ leaves (row_in es) (output_names (values_in es))
side_leaves es h = ap (λ (r : Option (List ℕ)). leaves r (names_of (without_row (inputs_of es)))) (side_row es h) ∙ ap (leaves (row_in es)) (side_names es h)

values_named : (es : Entries) → AreValues es → AreNamed es
values_named no_entries h = tt
values_named (plain name es) h = (h.0, values_named es h.2)
values_named (described name class es) h = (h.0, h.2, values_named es h.3)
values_named (detailed name w es) h = (h.0, h.2, values_named es h.3)

pub side_named : (es : Entries) → IsSide es → AreNamed es
side_named no_entries h = tt
side_named (plain name es) h = (h.0, values_named es h.1)
side_named (described name class es) h = (h.0, h.1, values_named es h.2)
side_named (detailed name w es) h = (h.0, h.1, values_named es h.2)

-- No name is of a sign's text.

no_string_name : (b : Bool) → cond b (spelled.Literal Text) spelled.Other ≡ spelled.Name → ⊥
no_string_name true h = cc
no_string_name false h = cc

string_no_name : (content : List ℕ) → string_spelling content ≡ spelled.Name → ⊥
unfolding string_spelling
string_no_name content h = no_string_name (nat_le (length (chars content)) MOST_ELEMENTS) h

text_no_sign : (k : TokKind) (end : List ℕ) → token_spelling k ≡ spelled.Name → (spelling_of end ≡ spelled.Name → ⊥) → token_text k ≡ end → ⊥
text_no_sign (Plain text) end h n e = n (ap spelling_of (sym e) ∙ h)
text_no_sign (Str content) end h n e = string_no_name content h

pub no_sign : (t : Token) (end : List ℕ) → token_spelling t.kind ≡ spelled.Name → (spelling_of end ≡ spelled.Name → ⊥) → is_text t end ≡ false
no_sign t end h n = false_from_ne_true (is_text t end) (λ b. text_no_sign t.kind end h n ((bytes_eq-Decides (token_text t.kind) end).0 b))

pub opens_no_name : spelling_of (codes "(") ≡ spelled.Name → ⊥
opens_no_name h = let e : spelled.Opens ≡ spelled.Name = sym (sign_is spelled.Opens tt) ∙ h in cc

pub dashes_no_name : spelling_of (codes "--") ≡ spelled.Name → ⊥
dashes_no_name h = let e : spelled.Dashes ≡ spelled.Name = sym (sign_is spelled.Dashes tt) ∙ h in cc

pub closes_no_name : spelling_of (codes ")") ≡ spelled.Name → ⊥
closes_no_name h = let e : spelled.Closes ≡ spelled.Name = sym (sign_is spelled.Closes tt) ∙ h in cc

-- Inputs.

one_name : (n : List ℕ) (q : _) (is : List Input) → names_of (inputs_tree (record { name = n; quot = q } ∷ is)) ≡ n ∷ names_of (inputs_tree is)
one_name n None is = refl
one_name n (Some e) is = refl

pub more_names : (is : List Input) (i : Input) → names_of (inputs_tree (is ++ i ∷ [])) ≡ names_of (inputs_tree is) ++ i.name ∷ []
more_names [] i = one_name i.name i.quot []
more_names (j ∷ is) i = one_name j.name j.quot (is ++ i ∷ []) ∙ ap (λ (ns : List (List ℕ)). j.name ∷ ns) (more_names is i) ∙ ap (λ (ns : List (List ℕ)). ns ++ i.name ∷ []) (sym (one_name j.name j.quot is))

abbrev value_name : Inputs → List ℕ
value_name no_inputs = []
value_name (value x is) = x
value_name (quoted x e is) = x

abbrev quoted_effect : Inputs → Signature
quoted_effect (quoted x e is) = e
quoted_effect _ = signature None no_inputs never

-- an input before others
front_value : (n : List ℕ) (q : _) (x : List ℕ) (js : List Input) → inputs_tree (record { name = n; quot = q } ∷ []) ≡ value x no_inputs → inputs_tree (record { name = n; quot = q } ∷ js) ≡ value x (inputs_tree js)
front_value n None x js h = ap (λ (y : List ℕ). value y (inputs_tree js)) (ap value_name h)
front_value n (Some e) x js h = cc

front_quoted : (n : List ℕ) (q : _) (x : List ℕ) (g : Signature) (js : List Input) → inputs_tree (record { name = n; quot = q } ∷ []) ≡ quoted x g no_inputs → inputs_tree (record { name = n; quot = q } ∷ js) ≡ quoted x g (inputs_tree js)
front_quoted n None x g js h = cc
front_quoted n (Some e) x g js h = ap (λ (y : List ℕ). quoted y e.value (inputs_tree js)) (ap value_name h) ∙ ap (λ (y : Signature). quoted x y (inputs_tree js)) (ap quoted_effect h)

-- Tokens that are passed.

pub passed_shorter : (ts : List Token) → length (behind_first ts) ≤ length ts
passed_shorter [] = omega arith
passed_shorter (t ∷ ts) = omega arith

pub found_shorter : (end : List ℕ) (ts : List Token) (t : Token) → Some t ≡ first_unless end ts → suc (length (behind_first ts)) ≤ length ts
found_shorter end [] t h = cc
found_shorter end (u ∷ ts) t h = omega arith

-- Entries.

-- a name that an effect describes
pub by_effect : (name : List ℕ) (before now : List Token) (entry : Inputs) (e : Signature) → begins_with (codes "(") before ≡ true → GivesEffect before now (Ok e) → entry ≡ quoted name e no_inputs → Describes name before now entry
by_effect name before now entry e opens gives made = (
  λ class rest h k.
      let no : is_text class (codes "(") ≡ false = no_sign class (codes "(") h.0 opens_no_name in
      let yes : is_text class (codes "(") ≡ true = subst (λ (ts : List Token). begins_with (codes "(") ts ≡ true) k opens in
      cc,
  λ w rest h k. let g = gives w rest h k in (made ∙ ap (λ (x : Signature). quoted name x no_inputs) g.0, g.1),
)

written_opens : (w : Written) (rest : List Token) → begins_with (codes "(") (written_tokens w ++ rest) ≡ true
written_opens (written o ins d outs c) rest = refl

-- a name that a class describes
pub by_class : (name : List ℕ) (before now : List Token) (r : Result Input Memory) → begins_with (codes "(") before ≡ false → now ≡ behind_first before → IfOk r (λ input. inputs_tree (input ∷ []) ≡ value name no_inputs) → GivesDescribed name before now r
by_class name before now (Err memory) opens passed made = tt
by_class name before now (Ok input) opens passed made = (
  λ class rest h k. (made, passed ∙ ap behind_first k),
  λ w rest h k. let no : begins_with (codes "(") (written_tokens w ++ rest) ≡ false = subst (λ (ts : List Token). begins_with (codes "(") ts ≡ false) k opens in let yes = written_opens w rest in cc,
)

pub entry_described : (t : Token) (x : List ℕ) (before now : List Token) (r : Result Input Memory) → is_described_name (token_text t.kind) ≡ true → x ≡ colon_name t → GivesDescribed x before now r → GivesEntry t before now r
entry_described t x before now (Err memory) colon h gives = tt
entry_described t x before now (Ok input) colon h gives = (λ k. let no = k.1 in cc, λ k. subst (λ (n : List ℕ). Describes n before now (inputs_tree (input ∷ []))) h gives)

pub entry_plain : (t : Token) (before : List Token) (r : Result Input Memory) → is_described_name (token_text t.kind) ≡ false → IfOk r (λ input. inputs_tree (input ∷ []) ≡ value (token_text t.kind) no_inputs) → GivesEntry t before before r
entry_plain t before (Err memory) colon h = tt
entry_plain t before (Ok input) colon h = (λ k. (h, refl), λ k. let no = k.1 in cc)

-- entries up to a token of this text, as far as inputs are made of them
pub record Left (end : List ℕ) (es : Entries) (place : Place) (rest : List Token) (items : List Input) (now : List Token) : Type 0 where
  pub left : Entries
  pub named : AreNamed left
  pub tokens : now ≡ entries_tokens left ++ plain_token place end ∷ rest
  pub made : (js : List Input) → inputs_tree js ≡ inputs_of left → inputs_tree (items ++ js) ≡ inputs_of es

pub none_made : (end : List ℕ) (es : Entries) (place : Place) (rest : List Token) (items : List Input) (now : List Token) → items ≡ [] → AreNamed es → now ≡ entries_tokens es ++ plain_token place end ∷ rest → Left end es place rest items now
none_made end es place rest items now none h k = record { left = es; named = h; tokens = k; made = λ js e. ap (λ (is : List Input). inputs_tree (is ++ js)) none ∙ e }

picked_other : (b : Bool) (t u : Token) → b ≡ false → cond b None (Some u) ≡ Some t → u ≡ t
picked_other true t u h e = cc
picked_other false t u h e = cc

end_found : (end : List ℕ) (place : Place) (rest : List Token) (t : Token) → first_unless end (plain_token place end ∷ rest) ≡ Some t → ⊥
end_found end place rest t h =
    let same : bytes_eq end end ≡ true = (bytes_eq-Decides end end).1 refl in
    let none : None ≡ Some t = ap (λ (b : Bool). cond b None (Some (plain_token place end))) (sym same) ∙ h in
    cc

-- one more input
one_more : (end : List ℕ) (es : Entries) (place : Place) (rest : List Token) (items : List Input) (left : Entries) (t : Token) (input : Input) (now : List Token) → (spelling_of end ≡ spelled.Name → ⊥) → AreNamed left → ((js : List Input) → inputs_tree js ≡ inputs_of left → inputs_tree (items ++ js) ≡ inputs_of es) → first_unless end (entries_tokens left ++ plain_token place end ∷ rest) ≡ Some t → GivesEntry t (behind_first (entries_tokens left ++ plain_token place end ∷ rest)) now (Ok input) → Left end es place rest (items ++ input ∷ []) now
one_more end es place rest items no_entries t input now n h made found gives = absurd (end_found end place rest t found)
one_more end es place rest items (plain name fs) t input now n h made found gives =
    let is : name ≡ t = picked_other (is_text name end) t name (no_sign name end h.0.0 n) found in
    let g = subst (λ (u : Token). GivesEntry u (entries_tokens fs ++ plain_token place end ∷ rest) now (Ok input)) (sym is) gives in
    let i = g.0 h.0 in
    record {
      left = fs;
      named = h.1;
      tokens = i.1;
      made = λ js e. ap inputs_tree (append_assoc items (input ∷ []) js) ∙ made (input ∷ js) (front_value input.name input.quot (plain_name name) js i.0 ∙ ap (value (plain_name name)) e);
    }
one_more end es place rest items (described name class fs) t input now n h made found gives =
    let is : name ≡ t = picked_other (is_text name end) t name (no_sign name end h.0.0 n) found in
    let g = subst (λ (u : Token). GivesEntry u (class ∷ (entries_tokens fs ++ plain_token place end ∷ rest)) now (Ok input)) (sym is) gives in
    let i = (g.1 h.0).0 class (entries_tokens fs ++ plain_token place end ∷ rest) h.1 refl in
    record {
      left = fs;
      named = h.2;
      tokens = i.1;
      made = λ js e. ap inputs_tree (append_assoc items (input ∷ []) js) ∙ made (input ∷ js) (front_value input.name input.quot (colon_name name) js i.0 ∙ ap (value (colon_name name)) e);
    }
one_more end es place rest items (detailed name w fs) t input now n h made found gives =
    let is : name ≡ t = picked_other (is_text name end) t name (no_sign name end h.0.0 n) found in
    let before = (written_tokens w ++ entries_tokens fs) ++ plain_token place end ∷ rest in
    let g = subst (λ (u : Token). GivesEntry u before now (Ok input)) (sym is) gives in
    let i = (g.1 h.0).1 w (entries_tokens fs ++ plain_token place end ∷ rest) h.1 (append_assoc (written_tokens w) (entries_tokens fs) (plain_token place end ∷ rest)) in
    record {
      left = fs;
      named = h.2;
      tokens = i.1;
      made = λ js e. ap inputs_tree (append_assoc items (input ∷ []) js) ∙ made (input ∷ js) (front_quoted input.name input.quot (colon_name name) (said w) js i.0 ∙ ap (quoted (colon_name name) (said w)) e);
    }

pub input_made : (end : List ℕ) (es : Entries) (place : Place) (rest : List Token) (items : List Input) (before : List Token) (t : Token) (passed : List Token) (input : Input) (more : List Input) (now : List Token) → (spelling_of end ≡ spelled.Name → ⊥) → Left end es place rest items before → Some t ≡ first_unless end before → passed ≡ behind_first before → GivesEntry t passed now (Ok input) → more ≡ items ++ input ∷ [] → Left end es place rest more now
input_made end es place rest items before t passed input more now n l found p gives pushed =
    let made = one_more end es place rest items l.left t input now n l.named l.made (subst (λ (ts : List Token). first_unless end ts ≡ Some t) l.tokens (sym found)) (subst (λ (ts : List Token). GivesEntry t ts now (Ok input)) (p ∙ ap behind_first l.tokens) gives) in
    subst (λ (is : List Input). Left end es place rest is now) (sym pushed) made

picked_none : (b : Bool) (u : Token) → b ≡ false → cond b None (Some u) ≡ None → ⊥
picked_none true u h e = cc
picked_none false u h e = cc

at_end : (end : List ℕ) (es : Entries) (place : Place) (rest : List Token) (items : List Input) (left : Entries) → (spelling_of end ≡ spelled.Name → ⊥) → AreNamed left → ((js : List Input) → inputs_tree js ≡ inputs_of left → inputs_tree (items ++ js) ≡ inputs_of es) → first_unless end (entries_tokens left ++ plain_token place end ∷ rest) ≡ None → (inputs_tree items ≡ inputs_of es) × (behind_first (entries_tokens left ++ plain_token place end ∷ rest) ≡ rest)
at_end end es place rest items no_entries n h made found = (ap inputs_tree (sym (append-nil items)) ∙ made [] refl, refl)
at_end end es place rest items (plain name fs) n h made found = absurd (picked_none (is_text name end) name (no_sign name end h.0.0 n) found)
at_end end es place rest items (described name class fs) n h made found = absurd (picked_none (is_text name end) name (no_sign name end h.0.0 n) found)
at_end end es place rest items (detailed name w fs) n h made found = absurd (picked_none (is_text name end) name (no_sign name end h.0.0 n) found)

pub all_made : (end : List ℕ) (es : Entries) (place : Place) (rest : List Token) (items : List Input) (before now : List Token) → (spelling_of end ≡ spelled.Name → ⊥) → Left end es place rest items before → None ≡ first_unless end before → now ≡ behind_first before → (inputs_tree items ≡ inputs_of es) × (now ≡ rest)
all_made end es place rest items before now n l found p =
    let e = at_end end es place rest items l.left n l.named l.made (subst (λ (ts : List Token). first_unless end ts ≡ None) l.tokens (sym found)) in
    (e.0, p ∙ ap behind_first l.tokens ∙ e.1)

-- What an effect leaves.

abbrev NeverOr : Bool → Entries → List Token → List Token → Type 0
NeverOr true es ts rest = (leaving_in es ≡ never) × (behind_first (behind_first ts) ≡ rest)
NeverOr false es ts rest = leaving_in es ≡ leaves (row_in es) (output_names (values_in es))

lone : (b : Bool) (name : Token) (place : Place) (rest : List Token) → bytes_eq (plain_name name) (codes "*") ≡ b → NeverOr (b && true) (plain name no_entries) (name ∷ plain_token place (codes ")") ∷ rest) rest
lone true name place rest h = (ap (λ (c : Bool). cond c never (leaves (row_in (plain name no_entries)) (output_names (values_in (plain name no_entries))))) h, refl)
lone false name place rest h = ap (λ (c : Bool). cond c never (leaves (row_in (plain name no_entries)) (output_names (values_in (plain name no_entries))))) h

not_lone : (b c : Bool) (es : Entries) (ts rest : List Token) → c ≡ false → leaving_in es ≡ leaves (row_in es) (output_names (values_in es)) → NeverOr (b && c) es ts rest
not_lone b true es ts rest h k = cc
not_lone true false es ts rest h k = k
not_lone false false es ts rest h k = k

no_star : (t : Token) → is_colon t ≡ true → is_text t (codes "*") ≡ false
no_star t h = false_from_ne_true (is_text t (codes "*")) (λ b. let e : is_described_name (codes "*") ≡ true = subst (λ (x : List ℕ). is_described_name x ≡ true) ((bytes_eq-Decides (token_text t.kind) (codes "*")).0 b) h in cc)

not_lone_first : (b c : Bool) (es : Entries) (ts rest : List Token) → b ≡ false → leaving_in es ≡ leaves (row_in es) (output_names (values_in es)) → NeverOr (b && c) es ts rest
not_lone_first true c es ts rest h k = cc
not_lone_first false c es ts rest h k = k

never_or : (es : Entries) (place : Place) (rest : List Token) → IsSide es → NeverOr (begins_never (entries_tokens es ++ plain_token place (codes ")") ∷ rest)) es (entries_tokens es ++ plain_token place (codes ")") ∷ rest) rest
never_or no_entries place rest h = refl
never_or (plain name no_entries) place rest h = lone (is_text name (codes "*")) name place rest refl
never_or (plain name (plain other es)) place rest h = not_lone (is_text name (codes "*")) (is_text other (codes ")")) (plain name (plain other es)) _ rest (no_sign other (codes ")") h.1.0.0 closes_no_name) refl
never_or (plain name (described other class es)) place rest h = not_lone (is_text name (codes "*")) (is_text other (codes ")")) (plain name (described other class es)) _ rest (no_sign other (codes ")") h.1.0.0 closes_no_name) refl
never_or (plain name (detailed other w es)) place rest h = not_lone (is_text name (codes "*")) (is_text other (codes ")")) (plain name (detailed other w es)) _ rest (no_sign other (codes ")") h.1.0.0 closes_no_name) refl
never_or (described name class es) place rest h = not_lone_first (is_text name (codes "*")) (is_text class (codes ")")) (described name class es) _ rest (no_star name h.0.1) refl
never_or (detailed name w es) place rest h = not_lone_first (is_text name (codes "*")) _ (detailed name w es) _ rest (no_star name h.0.1) refl

never_now : (b : Bool) (es : Entries) (ts rest : List Token) → b ≡ true → NeverOr b es ts rest → (leaving_in es ≡ never) × (behind_first (behind_first ts) ≡ rest)
never_now true es ts rest h k = k
never_now false es ts rest h k = cc

leaves_now : (b : Bool) (es : Entries) (ts rest : List Token) → b ≡ false → NeverOr b es ts rest → leaving_in es ≡ leaves (row_in es) (output_names (values_in es))
leaves_now true es ts rest h k = cc
leaves_now false es ts rest h k = k

pub never_left : (before now : List Token) → begins_never before ≡ true → now ≡ behind_first (behind_first before) → GivesOuts before now (Ok Never)
never_left before now b p = λ es place rest h k.
    let ts = entries_tokens es ++ plain_token place (codes ")") ∷ rest in
    let e = never_now (begins_never ts) es ts rest (subst (λ (us : List Token). begins_never us ≡ true) k b) (never_or es place rest h) in
    (sym e.0, p ∙ ap (λ (us : List Token). behind_first (behind_first us)) k ∙ e.1)

pub outs_left : (before now : List Token) (outputs : Vec Input) (r : Result Outs Memory) → begins_never before ≡ false → GivesEntries (codes ")") before now (Ok outputs) → IfOk r (λ outs. outs_leaving outs ≡ leaving_of (inputs_tree outputs.items)) → GivesOuts before now r
outs_left before now outputs (Err memory) b gives made = tt
outs_left before now outputs (Ok outs) b gives made = λ es place rest h k.
    let ts = entries_tokens es ++ plain_token place (codes ")") ∷ rest in
    let g = gives es place rest closes_no_name (side_named es h) k in
    let e = leaves_now (begins_never ts) es ts rest (subst (λ (us : List Token). begins_never us ≡ false) k b) (never_or es place rest h) in
    (made ∙ ap leaving_of g.0 ∙ side_leaves es h ∙ sym e, g.1)

-- Effects.

said_of : (o d c : Place) (ins outs : Entries) (is : Inputs) (l : Leaving) → IsSide ins → is ≡ inputs_of ins → l ≡ leaving_in outs → signature (first_row is) (without_row is) l ≡ said (written o ins d outs c)
said_of o d c ins outs is l h e k =
    ap (λ (js : Inputs). signature (first_row js) (without_row js) l) e ∙ ap (λ (r : Option (List ℕ)). signature r (without_row (inputs_of ins)) l) (side_row ins h) ∙ ap (λ (js : Inputs). signature (row_in ins) js l) (side_values ins h) ∙ ap (signature (row_in ins) (side_inputs ins)) k

parts_given : (w : Written) (rest before a b now : List Token) (inputs : Vec Input) (outs : Outs) → a ≡ behind_first before → GivesEntries (codes "--") a b (Ok inputs) → GivesOuts b now (Ok outs) → IsWritten w → before ≡ written_tokens w ++ rest → (signature (first_row (inputs_tree inputs.items)) (without_row (inputs_tree inputs.items)) (outs_leaving outs) ≡ said w) × (now ≡ rest)
parts_given (written o ins d outs c) rest before a b now inputs left p gives given h k =
    let D = plain_token d (codes "--") in
    let C = plain_token c (codes ")") in
    let e : a ≡ entries_tokens ins ++ D ∷ (entries_tokens outs ++ C ∷ rest) = p ∙ ap behind_first (k ∙ grouped (plain_token o (codes "(")) (entries_tokens ins) (entries_tokens outs) rest D C) in
    let g = gives ins d (entries_tokens outs ++ C ∷ rest) dashes_no_name (side_named ins h.0) e in
    let l = given outs c rest h.1 g.1 in
    (said_of o d c ins outs (inputs_tree inputs.items) (outs_leaving left) h.0 g.0 l.0, l.1)

pub effect_given : (before a b now : List Token) (inputs : Vec Input) (outs : Outs) (e : Signature) → a ≡ behind_first before → GivesEntries (codes "--") a b (Ok inputs) → GivesOuts b now (Ok outs) → e ≡ signature (first_row (inputs_tree inputs.items)) (without_row (inputs_tree inputs.items)) (outs_leaving outs) → GivesEffect before now (Ok e)
effect_given before a b now inputs outs e p gives given made = λ w rest h k.
    let g = parts_given w rest before a b now inputs outs p gives given h k in
    (made ∙ g.0, g.1)

pub effect_made : (tokens now : List Token) (r : Result Signature Memory) → after tokens ≡ whole → GivesEffect tokens now r → IfOk r (λ effect. effect ≡ effect_of tokens)
effect_made tokens now (Err memory) h gives = tt
effect_made tokens now (Ok effect) h gives =
    let is = whole_is_effect tokens h in
    (gives is.tree [] is.fits (sym is.spelled ∙ sym (append-nil (written_tokens is.tree)))).0 ∙ is.says
