-- What readings make of items.
use Rattle.std.proofs.Common.{◌≡◌, List, [], ◌∷◌, ◌++◌, Option, Some, None, Bool, true, false, refl, ap, sym, ◌∙◌}
use Rattle.std.specs.Prelude.{ℕ, is_some, not, ◌&&◌, if◌then◌else◌}
use Rattle.fac_base.specs.declared.place.Place.{Place}
use Rattle.fac_source.specs.Toks.{is_among, texts_of}
use Rattle.fac_items.specs.Written.{Tok, n_lit, n_array, n_quot, n_ref, n_name, n_locals, n_fry, n_call_effect, n_execute_effect, n_bind, n_hole, n_at, n_next, Nodes, nothing, more}
use Rattle.fac_items.specs.Readings.{are_pairs, behind_first, bindings, cond_first, joined, read_elements, read_items, read_pairs}
use Rattle.fac_items.specs.Items.{local_of}
use Rattle.fac_items.specs.inner.Behind.{cond_name}
use Rattle.fac_items.specs.inner.CaseLists.{are_cases}
use Rattle.fac_items.specs.inner.TakenBits.{cond_place, seen_place}
use Rattle.fac_items.proofs.CaseLemmas.{all_cases, cases_in}
use Rattle.fac_items.proofs.LocalLemmas.{among_local}
use Rattle.fac_items.proofs.RawNodes.{AreRaw}
use Rattle.fac_items.proofs.SpellLemmas.{first_name, mark}

-- Inputs are bound before the items are read.
pub bindings_read : (c : List ℕ → Bool) (locals : List (List ℕ)) (ts : List Tok) (earlier : List (List ℕ)) (ns : Nodes) → read_items c locals (bindings ts earlier ns) ≡ bindings ts earlier (read_items c (texts_of ts ++ locals) ns)
bindings_read c locals [] earlier ns = refl
bindings_read c locals (t ∷ ts) earlier ns = bindings_read c locals ts (t.text ∷ earlier) (more (n_bind t (is_among t.text earlier) t.place) ns)

-- an array before items that are read, where a `cond` that reads it stands at this place or nowhere
abbrev pub with_pairs : (List ℕ → Bool) → List (List ℕ) → Nodes → Place → Nodes → Option Place → Nodes
with_pairs c locals es q rest o = elim o [ Some p ↦ joined (read_pairs c locals p es) (behind_first rest) | None ↦ more (n_array (read_elements c es) q) rest ]

-- Readings begin with no `cond` but one that is written first.

first_pairs : (c : List ℕ → Bool) (locals : List (List ℕ)) (p : Place) (es x : Nodes) → are_pairs es ≡ true → cond_first c locals (joined (read_pairs c locals p es) x) ≡ None
first_pairs c locals p nothing x h = refl
first_pairs c locals p (more (n_quot d q) nothing) x h = refl
first_pairs c locals p (more (n_array (more (n_quot t q) (more (n_quot b r) nothing)) s) es) x h = refl
first_pairs c locals p (more n es) x h = absurd (cc)

first_array : (c : List ℕ → Bool) (locals : List (List ℕ)) (es : Nodes) (q : Place) (rest : Nodes) (b : Bool) (o : Option Place) → are_pairs es ≡ b → cond_first c locals (with_pairs c locals es q rest (if b then o else None)) ≡ None
first_array c locals es q rest true (Some p) h = first_pairs c locals p es (behind_first rest) h
first_array c locals es q rest true None h = refl
first_array c locals es q rest false o h = refl

-- `cond` is read of a name behind an array where the name is no local
pub cond_behind : (c : List ℕ → Bool) (locals : List (List ℕ)) (fry : Bool) (ns : Nodes) → AreRaw fry ns → cond_first c locals (read_items c locals ns) ≡ cond_place locals (cond_name c (first_name ns))
cond_behind c locals fry nothing h = refl
cond_behind c locals fry (more (n_name t p) ns) h = ap (λ (b : Bool). if not b && c t.text then Some p else None) (among_local t.text locals) ∙ one (c t.text) (local_of locals t.text) refl
  where
    one : (b : Bool) (o : Option ℕ) → local_of locals t.text ≡ o → (if not (is_some o) && b then Some p else None) ≡ cond_place locals (if b then Some (record { text = t.text; place = p }) else None)
    one true None e = ap (λ (x : Option ℕ). seen_place x (record { text = t.text; place = p })) (sym e)
    one true (Some x) e = ap (λ (x : Option ℕ). seen_place x (record { text = t.text; place = p })) (sym e)
    one false None e = refl
    one false (Some x) e = refl
cond_behind c locals fry (more (n_array es q) ns) h = first_array c locals es q (read_items c locals ns) (are_pairs es) (cond_first c locals (read_items c locals ns)) refl
cond_behind c locals fry (more (n_lit l p) ns) h = refl
cond_behind c locals fry (more (n_ref t p) ns) h = refl
cond_behind c locals fry (more (n_call_effect e p) ns) h = refl
cond_behind c locals fry (more (n_execute_effect e p) ns) h = refl
cond_behind c locals fry (more (n_next p) ns) h = refl
cond_behind c locals fry (more (n_bind t twice p) ns) h = refl
cond_behind c locals fry (more (n_hole p) ns) h = refl
cond_behind c locals fry (more (n_at p) ns) h = refl
cond_behind c locals fry (more (n_quot ms p) ns) h = refl
cond_behind c locals fry (more (n_locals ts ms p) ns) h = refl
cond_behind c locals fry (more (n_fry ms p) ns) h = refl
cond_behind c locals fry (more n ns) h = absurd h.0

-- the place of the `cond` that reads an array, where there is one
pub cond_is : (c : List ℕ → Bool) (locals : List (List ℕ)) (fry : Bool) (es ns : Nodes) → AreRaw fry ns → (if are_pairs es then cond_first c locals (read_items c locals ns) else None) ≡ cond_place locals (mark c es ns)
cond_is c locals fry es ns h =
    ap (λ (b : Bool). if b then cond_first c locals (read_items c locals ns) else None) (sym (all_cases es))
    ∙ ap (λ (o : Option Place). if are_cases (cases_in es) then o else None) (cond_behind c locals fry ns h)
    ∙ one (are_cases (cases_in es))
  where
    one : (b : Bool) → (if b then cond_place locals (cond_name c (first_name ns)) else None) ≡ cond_place locals (if b then cond_name c (first_name ns) else None)
    one true = refl
    one false = refl

-- and then the array has pairs and stands before a name
pub record BeforeName (ns : Nodes) : Type 0 where
  pub name : Tok
  pub place : Place
  pub rest : Nodes
  pub is : ns ≡ more (n_name name place) rest

pub pairs_before : (c : List ℕ → Bool) (locals : List (List ℕ)) (es ns : Nodes) (p : Place) → cond_place locals (mark c es ns) ≡ Some p → are_pairs es ≡ true
pairs_before c locals es ns p h = sym (all_cases es) ∙ cases_true (are_cases (cases_in es)) h
  where
    cases_true : (b : Bool) → cond_place locals (if b then cond_name c (first_name ns) else None) ≡ Some p → b ≡ true
    cases_true true k = refl
    cases_true false k = absurd (cc)

no_name : (b : Bool) (c : List ℕ → Bool) (locals : List (List ℕ)) (p : Place) → cond_place locals (if b then cond_name c None else None) ≡ Some p → ⊥
no_name true c locals p h = cc
no_name false c locals p h = cc

pub name_before : (c : List ℕ → Bool) (locals : List (List ℕ)) (es ns : Nodes) (p : Place) → cond_place locals (mark c es ns) ≡ Some p → BeforeName ns
name_before c locals es nothing p h = absurd (no_name (are_cases (cases_in es)) c locals p h)
name_before c locals es (more (n_name t q) ns) p h = record { name = t; place = q; rest = ns; is = refl }
name_before c locals es (more n ns) p h = absurd (no_name (are_cases (cases_in es)) c locals p h)
