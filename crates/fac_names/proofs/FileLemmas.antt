-- The forms of a file, in order.
use Rattle.std.proofs.Common.{◌≡◌, List, [], ◌∷◌, map, fold, false, refl, ap, sym, ◌∙◌, subst}
use Rattle.fac_source.specs.declared.tree.Form.{Form as Flat}
use Rattle.fac_source.specs.declared.tree.Form.TheVariants.{Row, Items}
use Rattle.fac_source.specs.declared.tree.FormKind.{FormKind}
use Rattle.fac_source.specs.declared.tree.FormKind.TheVariants.{In, Use, Using, From, QualifiedWith, Defer, Symbol, Constant, Private, Public, Main, Define, DefineLocals, Tuple, Union, Singleton, Generic, Method, Maker}
use Rattle.fac_source.specs.declared.tree.Part.{Part}
use Rattle.fac_source.specs.declared.tree.Tree.{Tree}
use Rattle.fac_parse.specs.Trees.{AreForms, AreWellFormed, IsForm, IsWellFormed, MayStandBefore, forms_of}
use Rattle.fac_vocab.specs.Scopes.{begun}
use Rattle.fac_items.specs.Written.{Nodes, Form, f_items}
use Rattle.fac_items.specs.Readings.{read_form, read_forms, with_items}
use Rattle.fac_names.specs.Forms.{Reading, scoped, take, take_file}
use Rattle.fac_names.specs.FromFlat.{form_of, row}
use Rattle.fac_items.specs.FromElements.{nested}
use Rattle.fac_names.specs.TakenForms.{take_flat, take_front}
use Rattle.fac_names.specs.inner.Taking.{take_all}

-- the next form of those that are left
pub next_form : (left rest : List Flat) (f : Flat) → AreForms left → left ≡ f ∷ rest → IsForm f × AreForms rest
next_form left rest f h e = subst AreForms e h

-- a form more is taken
pub form_taken : (r q : Reading) (left rest : List Flat) (f : Flat) → left ≡ f ∷ rest → q ≡ take_flat r f → fold take_flat r left ≡ fold take_flat q rest
form_taken r q left rest f next is = ap (fold take_flat r) next ∙ sym (ap (λ (x : Reading). fold take_flat x rest) is)

-- Rows aren't items.

row_read : (kind : FormKind) (ps : List Part) (fs : List Form) → read_forms (row kind ps ∷ fs) ≡ read_form (row kind ps) ∷ read_forms fs
row_read In ps fs = refl
row_read Use ps fs = refl
row_read Using ps fs = refl
row_read From ps fs = refl
row_read QualifiedWith ps fs = refl
row_read Defer ps fs = refl
row_read Symbol ps fs = refl
row_read Constant ps fs = refl
row_read Private ps fs = refl
row_read Public ps fs = refl
row_read Main ps fs = refl
row_read Define ps fs = refl
row_read DefineLocals ps fs = refl
row_read Tuple ps fs = refl
row_read Union ps fs = refl
row_read Singleton ps fs = refl
row_read Generic ps fs = refl
row_read Method ps fs = refl
row_read Maker ps fs = refl

-- items before a row
row_behind : (ns : Nodes) (kind : FormKind) (ps : List Part) (fs : List Form) → with_items ns (read_form (row kind ps) ∷ fs) ≡ f_items ns ∷ read_form (row kind ps) ∷ fs
row_behind ns In ps fs = refl
row_behind ns Use ps fs = refl
row_behind ns Using ps fs = refl
row_behind ns From ps fs = refl
row_behind ns QualifiedWith ps fs = refl
row_behind ns Defer ps fs = refl
row_behind ns Symbol ps fs = refl
row_behind ns Constant ps fs = refl
row_behind ns Private ps fs = refl
row_behind ns Public ps fs = refl
row_behind ns Main ps fs = refl
row_behind ns Define ps fs = refl
row_behind ns DefineLocals ps fs = refl
row_behind ns Tuple ps fs = refl
row_behind ns Union ps fs = refl
row_behind ns Singleton ps fs = refl
row_behind ns Generic ps fs = refl
row_behind ns Method ps fs = refl
row_behind ns Maker ps fs = refl

-- forms are read one by one
read_one : (f : Flat) (forms : List Flat) → MayStandBefore f forms → read_forms (map form_of (f ∷ forms)) ≡ read_form (form_of f) ∷ read_forms (map form_of forms)
read_one (Row kind opens parts) forms before = row_read kind parts (map form_of forms)
read_one (Items es) [] before = refl
read_one (Items es) (Items others ∷ forms) before = absurd before
read_one (Items es) (Row kind opens parts ∷ forms) before =
    ap (with_items (nested es)) (row_read kind parts (map form_of forms))
    ∙ row_behind (nested es) kind parts (read_forms (map form_of forms))
    ∙ sym (ap (λ (fs : List Form). f_items (nested es) ∷ fs) (row_read kind parts (map form_of forms)))

pub take_one : (r : Reading) (f : Flat) (forms : List Flat) → IsWellFormed (f ∷ forms) → take_all r (map form_of (f ∷ forms)) ≡ take_all (take (read_form (form_of f)) r) (map form_of forms)
take_one r f forms h = ap (fold (λ q form. take form q) r) (read_one f forms h.1)

-- one behind the other
pub forms_taken : (forms : List Flat) (r : Reading) → IsWellFormed forms → take_all r (map form_of forms) ≡ fold take_flat r forms
forms_taken [] r h = refl
forms_taken (f ∷ forms) r h = take_one r f forms h ∙ forms_taken forms (take_flat r f) h.2

-- and each of them is a form
are_forms : (forms : List Flat) → IsWellFormed forms → AreForms forms
are_forms [] h = tt
are_forms (f ∷ forms) h = (h.0, are_forms forms h.2)

-- Files.

pub files_taken : (files : List (List Flat)) (r : Reading) → AreWellFormed files → fold take_front r files ≡ fold (take_file false) r (map (map form_of) files)
files_taken [] r h = refl
files_taken (forms ∷ files) r h =
    files_taken files (take_front r forms) h.1
    ∙ sym (ap (λ (x : Reading). fold (take_file false) x (map (map form_of) files)) (forms_taken forms (scoped begun r) h.0))

-- the next file of those that are left
pub next_tree : (left rest : List Tree) (t : Tree) → AreWellFormed (forms_of left) → left ≡ t ∷ rest → AreForms t.forms × AreWellFormed (forms_of rest)
next_tree left rest t h e = let fits = subst (λ (ts : List Tree). AreWellFormed (forms_of ts)) e h in (are_forms t.forms fits.0, fits.1)

pub tree_taken : (r q : Reading) (left rest : List Tree) (t : Tree) → left ≡ t ∷ rest → q ≡ take_front r t.forms →
    fold take_front r (forms_of left) ≡ fold take_front q (forms_of rest)
tree_taken r q left rest t next is =
    ap (λ (ts : List Tree). fold take_front r (forms_of ts)) next
    ∙ sym (ap (λ (x : Reading). fold take_front x (forms_of rest)) is)
