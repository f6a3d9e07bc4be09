-- The inputs of an effect are found among its tokens.
use Rattle.std.proofs.Common.{◌≡◌, ◌-◌, ℕ, suc, List, [], ◌∷◌, ◌++◌, fold, Bool, true, false, refl, ap, sym, ◌∙◌, append_assoc, append-nil, arith}
use Rattle.std.specs.Prelude.{◌&&◌, codes, if◌then◌else◌}
use Rattle.std.specs.Str.{bytes_eq}
use Rattle.fac_base.specs.Signatures.{Signature}
use Rattle.fac_source.specs.declared.token.Token.{Token}
use Rattle.fac_effect.specs.declared.spelling.Spelling.TheVariants as spelled
use Rattle.fac_effect.specs.SaidEffects.{read_back}
use Rattle.fac_effect.specs.Spellings.{plain_token, token_spelling, token_text}
use Rattle.fac_effect.specs.WrittenEffects.{AreValues, Entries, no_entries, plain, described, detailed, IsEffect, IsSide, IsWritten, Written, written, colon_name, entries_tokens, is_colon, is_row, plain_name, values_in, written_tokens}
use Rattle.fac_effect.specs.inner.EffectParts.{AreNamed}
use Rattle.fac_effect.proofs.EffectsReadBack.{written_back}
use Rattle.fac_effect.proofs.PartLemmas.{closes_no_name, dashes_no_name, no_sign, opens_no_name, side_named}
use Rattle.fac_items.specs.Written.{Tok, f_define, given}
use Rattle.fac_items.specs.FromElements.{nested, tok}
use Rattle.fac_items.specs.Readings.{read_form, with_inputs}
use Rattle.fac_names.specs.Forms.{Reading, take}
use Rattle.fac_names.specs.FromFlat.{is_inline, is_recursive, row}
use Rattle.fac_names.specs.inner.Parts.{IsLocals}
use Rattle.fac_source.specs.declared.tree.Element.{Element}
use Rattle.fac_source.specs.declared.tree.FormKind.TheVariants.{DefineLocals}
use Rattle.fac_source.specs.declared.tree.DefinitionMark.{DefinitionMark}
use Rattle.fac_source.specs.declared.tree.Part.{Part}
use Rattle.fac_source.specs.declared.tree.WrittenEffect.{WrittenEffect}
use Rattle.fac_names.specs.WrittenInputs.{entry_toks, inputs_of, written_inputs}
use Rattle.fac_names.specs.declared.inputs.Sign.{Sign}
use Rattle.fac_names.specs.declared.inputs.Sign.TheVariants.{Opens, Closes, Dashes, Name}
use Rattle.fac_names.specs.inner.Walks.{Walked, begun, entry_taken, sign_of, sign_taken, token_if, token_taken}

-- No name is a sign.

name_sign : (t : Token) → token_spelling t.kind ≡ spelled.Name → sign_of t ≡ Name
name_sign t h =
    ap (λ (b : Bool). if b then Opens else if bytes_eq (token_text t.kind) (codes ")") then Closes else if bytes_eq (token_text t.kind) (codes "--") then Dashes else Name) (no_sign t (codes "(") h opens_no_name)
    ∙ ap (λ (b : Bool). if b then Closes else if bytes_eq (token_text t.kind) (codes "--") then Dashes else Name) (no_sign t (codes ")") h closes_no_name)
    ∙ ap (λ (b : Bool). if b then Dashes else Name) (no_sign t (codes "--") h dashes_no_name)

-- Tokens one after another.

abbrev walked_at : ℕ → Bool → Bool → List Tok → Walked
walked_at depth is_described first names = record { depth = depth; described = is_described; first = first; done = false; names = names }

abbrev walk : Walked → List Token → Walked
walk w ts = fold token_taken w ts

-- a name in an effect behind the outermost one
inner_name : (d : ℕ) (f : Bool) (ns : List Tok) (t : Token) → token_spelling t.kind ≡ spelled.Name → token_taken (walked_at (suc (suc d)) false f ns) t ≡ walked_at (suc (suc d)) false f ns
inner_name d f ns t h = ap (λ (s : Sign). sign_taken s t (walked_at (suc (suc d)) false f ns)) (name_sign t h)

mutual
  -- an effect that describes an entry
  skip_written : (w : Written) → IsWritten w → (d : ℕ) (b f : Bool) (ns : List Tok) (ts : List Token) → walk (walked_at (suc d) b f ns) (written_tokens w ++ ts) ≡ walk (walked_at (suc d) false f ns) ts
  skip_written (written opens ins dashes outs closes) h d b f ns ts =
      let c = plain_token closes (codes ")") in
      let m = plain_token dashes (codes "--") in
      ap (walk (walked_at (suc (suc d)) false f ns)) (append_assoc (entries_tokens ins) (m ∷ (entries_tokens outs ++ c ∷ [])) ts)
      ∙ skip_entries ins (side_named ins h.0) d f ns (m ∷ ((entries_tokens outs ++ c ∷ []) ++ ts))
      ∙ ap (walk (walked_at (suc (suc d)) false f ns)) (append_assoc (entries_tokens outs) (c ∷ []) ts)
      ∙ skip_entries outs (side_named outs h.1) d f ns (c ∷ ts)
      ∙ ap (λ (n : ℕ). walk (walked_at n false f ns) ts) (let e : suc (suc d) - 1 ≡ suc d = omega arith in e)

  skip_entries : (es : Entries) → AreNamed es → (d : ℕ) (f : Bool) (ns : List Tok) (ts : List Token) → walk (walked_at (suc (suc d)) false f ns) (entries_tokens es ++ ts) ≡ walk (walked_at (suc (suc d)) false f ns) ts
  skip_entries no_entries h d f ns ts = refl
  skip_entries (plain name es) h d f ns ts = ap (λ (w : Walked). walk w (entries_tokens es ++ ts)) (inner_name d f ns name h.0.0) ∙ skip_entries es h.1 d f ns ts
  skip_entries (described name class es) h d f ns ts =
      ap (λ (w : Walked). walk w (class ∷ (entries_tokens es ++ ts))) (inner_name d f ns name h.0.0)
      ∙ ap (λ (w : Walked). walk w (entries_tokens es ++ ts)) (inner_name d f ns class h.1.0)
      ∙ skip_entries es h.2 d f ns ts
  skip_entries (detailed name w es) h d f ns ts =
      ap (λ (x : Walked). walk x ((written_tokens w ++ entries_tokens es) ++ ts)) (inner_name d f ns name h.0.0)
      ∙ ap (walk (walked_at (suc (suc d)) false f ns)) (append_assoc (written_tokens w) (entries_tokens es) ts)
      ∙ skip_written w h.1 (suc d) false f ns (entries_tokens es ++ ts)
      ∙ skip_entries es h.2 d f ns ts

-- The entries of the outermost effect.

-- the name of an entry
entry_named : (f : Bool) (ns : List Tok) (t : Token) (row colon : Bool) → token_spelling t.kind ≡ spelled.Name → (f && is_row t) ≡ row → is_colon t ≡ colon →
    token_taken (walked_at 1 false f ns) t ≡ walked_at 1 colon false (if row then ns else ns ++ (record { text = (if colon then colon_name t else plain_name t); place = t.place }) ∷ [])
entry_named f ns t true colon h r e =
    ap (λ (s : Sign). sign_taken s t (walked_at 1 false f ns)) (name_sign t h) ∙ ap (λ (b : Bool). entry_taken b t (walked_at 1 false f ns)) r ∙ ap (λ (b : Bool). walked_at 1 b false ns) e
entry_named f ns t false colon h r e =
    ap (λ (s : Sign). sign_taken s t (walked_at 1 false f ns)) (name_sign t h)
    ∙ ap (λ (b : Bool). entry_taken b t (walked_at 1 false f ns)) r
    ∙ ap (λ (b : Bool). walked_at 1 b false (ns ++ (record { text = (if b then colon_name t else plain_name t); place = t.place }) ∷ [])) e

class_named : (f : Bool) (ns : List Tok) (t : Token) → token_spelling t.kind ≡ spelled.Name → token_taken (walked_at 1 true f ns) t ≡ walked_at 1 false f ns
class_named f ns t h = ap (λ (s : Sign). sign_taken s t (walked_at 1 true f ns)) (name_sign t h)

-- behind a name, and what describes it
abbrev AllNamed : Entries → Type 0
AllNamed es = (ns : List Tok) (ts : List Token) → walk (walked_at 1 false false ns) (entries_tokens es ++ ts) ≡ walk (walked_at 1 false false (ns ++ entry_toks es)) ts

one_more : (ns : List Tok) (t : Tok) (es : Entries) (ts : List Token) → AllNamed es → walk (walked_at 1 false false (ns ++ t ∷ [])) (entries_tokens es ++ ts) ≡ walk (walked_at 1 false false (ns ++ t ∷ entry_toks es)) ts
one_more ns t es ts h = h (ns ++ t ∷ []) ts ∙ ap (λ (xs : List Tok). walk (walked_at 1 false false xs) ts) (append_assoc ns (t ∷ []) (entry_toks es))

values_named : (es : Entries) → AreValues es → AllNamed es
values_named no_entries h ns ts = ap (λ (xs : List Tok). walk (walked_at 1 false false xs) ts) (sym (append-nil ns))
values_named (plain name es) h ns ts =
    ap (λ (w : Walked). walk w (entries_tokens es ++ ts)) (entry_named false ns name false false h.0.0 refl h.0.1) ∙ one_more ns (record { text = plain_name name; place = name.place }) es ts (values_named es h.2)
values_named (described name class es) h ns ts =
    let t : Tok = record { text = colon_name name; place = name.place } in
    ap (λ (w : Walked). walk w (class ∷ (entries_tokens es ++ ts))) (entry_named false ns name false true h.0.0 refl h.0.1)
    ∙ ap (λ (w : Walked). walk w (entries_tokens es ++ ts)) (class_named false (ns ++ t ∷ []) class h.2.0)
    ∙ one_more ns t es ts (values_named es h.3)
values_named (detailed name w es) h ns ts =
    let t : Tok = record { text = colon_name name; place = name.place } in
    ap (λ (x : Walked). walk x ((written_tokens w ++ entries_tokens es) ++ ts)) (entry_named false ns name false true h.0.0 refl h.0.1)
    ∙ ap (walk (walked_at 1 true false (ns ++ t ∷ []))) (append_assoc (written_tokens w) (entries_tokens es) ts)
    ∙ skip_written w h.2 0 true false (ns ++ t ∷ []) (entries_tokens es ++ ts)
    ∙ one_more ns t es ts (values_named es h.3)

-- the inputs, behind which no input is
record InputsNamed (ins : Entries) (ts : List Token) : Type 0 where
  first : Bool
  is : walk (walked_at 1 false true []) (entries_tokens ins ++ ts) ≡ walk (walked_at 1 false first (entry_toks (values_in ins))) ts

-- the first entry may be a row variable
inputs_named : (ins : Entries) (ts : List Token) → IsSide ins → InputsNamed ins ts
inputs_named no_entries ts h = record { first = true; is = refl }
inputs_named (plain name es) ts h = record { first = false; is = one (is_row name) refl }
  where
    one : (b : Bool) → is_row name ≡ b → walk (walked_at 1 false true []) (name ∷ (entries_tokens es ++ ts)) ≡ walk (walked_at 1 false false (entry_toks (if b then es else plain name es))) ts
    one true e = ap (λ (w : Walked). walk w (entries_tokens es ++ ts)) (entry_named true [] name true false h.0.0 e h.0.1) ∙ values_named es h.1 [] ts
    one false e = ap (λ (w : Walked). walk w (entries_tokens es ++ ts)) (entry_named true [] name false false h.0.0 e h.0.1) ∙ values_named es h.1 ((record { text = plain_name name; place = name.place }) ∷ []) ts
inputs_named (described name class es) ts h = record { first = false; is = one (is_row name) refl }
  where
    one : (b : Bool) → is_row name ≡ b → walk (walked_at 1 false true []) (name ∷ class ∷ (entries_tokens es ++ ts)) ≡ walk (walked_at 1 false false (entry_toks (if b then es else described name class es))) ts
    one true e =
        ap (λ (w : Walked). walk w (class ∷ (entries_tokens es ++ ts))) (entry_named true [] name true true h.0.0 e h.0.1)
        ∙ ap (λ (w : Walked). walk w (entries_tokens es ++ ts)) (class_named false [] class h.1.0)
        ∙ values_named es h.2 [] ts
    one false e =
        ap (λ (w : Walked). walk w (class ∷ (entries_tokens es ++ ts))) (entry_named true [] name false true h.0.0 e h.0.1)
        ∙ ap (λ (w : Walked). walk w (entries_tokens es ++ ts)) (class_named false ((record { text = colon_name name; place = name.place }) ∷ []) class h.1.0)
        ∙ values_named es h.2 ((record { text = colon_name name; place = name.place }) ∷ []) ts
inputs_named (detailed name w es) ts h = record { first = false; is = one (is_row name) refl }
  where
    one : (b : Bool) → is_row name ≡ b → walk (walked_at 1 false true []) (name ∷ ((written_tokens w ++ entries_tokens es) ++ ts)) ≡ walk (walked_at 1 false false (entry_toks (if b then es else detailed name w es))) ts
    one true e =
        ap (λ (x : Walked). walk x ((written_tokens w ++ entries_tokens es) ++ ts)) (entry_named true [] name true true h.0.0 e h.0.1)
        ∙ ap (walk (walked_at 1 true false [])) (append_assoc (written_tokens w) (entries_tokens es) ts)
        ∙ skip_written w h.1 0 true false [] (entries_tokens es ++ ts)
        ∙ values_named es h.2 [] ts
    one false e =
        let t : Tok = record { text = colon_name name; place = name.place } in
        ap (λ (x : Walked). walk x ((written_tokens w ++ entries_tokens es) ++ ts)) (entry_named true [] name false true h.0.0 e h.0.1)
        ∙ ap (walk (walked_at 1 true false (t ∷ []))) (append_assoc (written_tokens w) (entries_tokens es) ts)
        ∙ skip_written w h.1 0 true false (t ∷ []) (entries_tokens es ++ ts)
        ∙ values_named es h.2 (t ∷ []) ts

-- behind the inputs nothing is taken
done_stays : (w : Walked) (ts : List Token) → w.done ≡ true → walk w ts ≡ w
done_stays w [] h = refl
done_stays w (t ∷ ts) h = ap (λ (b : Bool). walk (token_if b t w) ts) h ∙ done_stays w ts h

tree_inputs : (w : Written) → IsWritten w → (walk begun (written_tokens w)).names ≡ inputs_of (read_back (written_tokens w))
tree_inputs (written opens ins dashes outs closes) h =
    let w = written opens ins dashes outs closes in
    let behind = plain_token dashes (codes "--") ∷ (entries_tokens outs ++ plain_token closes (codes ")") ∷ []) in
    let named = inputs_named ins behind h.0 in
    ap (λ (x : Walked). x.names) (named.is ∙ done_stays (record { depth = 1; described = false; first = named.first; done = true; names = entry_toks (values_in ins) }) (entries_tokens outs ++ plain_token closes (codes ")") ∷ []) refl)
    ∙ sym (ap (λ (ts : List Token). inputs_of (read_back ts)) (sym (append-nil (written_tokens w))) ∙ ap inputs_of (written_back w [] h))

pub inputs_found : (tokens : List Token) (effect : Signature) → IsEffect tokens effect → (fold token_taken begun tokens).names ≡ written_inputs tokens
inputs_found tokens effect h =
    ap (λ (ts : List Token). (fold token_taken begun ts).names) (sym h.spelled) ∙ tree_inputs h.tree h.fits ∙ ap (λ (ts : List Token). inputs_of (read_back ts)) h.spelled

-- what is defined is what the row says
pub locals_row : (parts : List Part) (name : Token) (w : WrittenEffect) (es : List Element) (marks : List DefinitionMark) (toks : List Tok) (e : Signature) (i r : Bool) (q : Reading) → IsLocals parts name w es marks → toks ≡ written_inputs w.tokens → e ≡ w.effect → i ≡ is_inline marks → r ≡ is_recursive marks →
    take (f_define (tok name) (given e) (with_inputs toks (nested es)) i r) q ≡ take (read_form (row DefineLocals parts)) q
locals_row parts name w es marks toks e i r q h inputs effect inlined recurs =
    ap (λ (ts : List Tok). take (f_define (tok name) (given e) (with_inputs ts (nested es)) i r) q) inputs
    ∙ ap (λ (s : Signature). take (f_define (tok name) (given s) (with_inputs (written_inputs w.tokens) (nested es)) i r) q) effect
    ∙ ap (λ (b : Bool). take (f_define (tok name) (given w.effect) (with_inputs (written_inputs w.tokens) (nested es)) b r) q) inlined
    ∙ ap (λ (b : Bool). take (f_define (tok name) (given w.effect) (with_inputs (written_inputs w.tokens) (nested es)) (is_inline marks) b) q) recurs
    ∙ sym (ap (λ (ps : List Part). take (read_form (row DefineLocals ps)) q) h.are)
