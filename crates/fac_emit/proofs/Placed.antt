-- Where the code of templates and words stands in plain code, and their rows.
use Rattle.std.proofs.Common.{◌≡◌, ◌<◌, ℕ, zero, suc, ◌+◌, List, [], ◌∷◌, ◌++◌, length, drop, Option, Some, None, refl, ap, sym, subst, ◌∙◌, arith, append_assoc}
use Rattle.std.specs.Prelude.{slice_get}
use Rattle.fac_base.specs.declared.height.Height.{Height}
use Rattle.fac_lang.specs.declared.phrase.Template.{Template}
use Rattle.fac_lang.specs.declared.program.Program.{Program}
use Rattle.fac_lang.specs.declared.program.WordDef.{WordDef}
use Rattle.fac_locals.specs.Literals.{Quoted, literals, literal_or, literal_numbered}
use Rattle.fac_locals.specs.Cells.{captured, hole_count}
use Rattle.fac_locals.specs.Closed.{Closes, ClosesLiteral}
use Rattle.fac_locals.specs.declared.closing.Closed.{Closed}
use Rattle.fac_locals.proofs.Lookups.{template_closed, template_closed_none, templates_count}
use Rattle.fac_code.specs.declared.image.Instr.{Instr}
use Rattle.fac_code.specs.declared.image.Instr.TheVariants.{Ret}
use Rattle.fac_code.specs.declared.image.TemplateRow.{TemplateRow}
use Rattle.fac_code.specs.declared.image.WordRow.{WordRow}
use Rattle.fac_store.specs.CallableHeights.{height_there}
use Rattle.fac_emit.specs.ProgramCode.{made_instr, phrase_code, templates_code, row_at, template_rows, word_row, word_code, code_from, words_from, program_code, program_templates, program_words}
use Rattle.fac_carry.specs.Stands.{making}
use Rattle.fac_emit.proofs.LiteralWords.{in_a_word, is_listed}
use Rattle.fac_emit.proofs.Closings.{drop_behind, get_at}

-- the code from a place on
pub code_at : (code : List Instr) (pc : ℕ) (i : Instr) (rest : List Instr) → drop pc code ≡ i ∷ rest → (slice_get code pc ≡ Some i) × (drop (pc + 1) code ≡ rest)
code_at code pc i rest e = (get_at code pc i rest e, drop_behind code pc (i ∷ []) rest e)

get_other : {A B : Type 0} (xs : List A) (ys : List B) (k : ℕ) (x : A) → length xs ≡ length ys → slice_get xs k ≡ Some x → (y : B) × (slice_get ys k ≡ Some y)
get_other [] ys k x n e = absurd (cc)
get_other (z ∷ xs) [] k x n e = absurd (omega (arith, n))
get_other (z ∷ xs) (y ∷ ys) zero x n e = (y, refl)
get_other (z ∷ xs) (y ∷ ys) (suc k) x n e = get_other xs ys k x (omega (arith, n)) e

pub regroup : (code xs ys zs : List Instr) → code ≡ (xs ++ ys) ++ zs → code ≡ xs ++ (ys ++ zs)
regroup code xs ys zs e = e ∙ append_assoc xs ys zs

-- Where the rows of templates are, and the code of each.
module _ (C : Closed) (code : List Instr) where
  pub record IsRowOf (r : TemplateRow) (t : Template) : Type 0 where
    pub at : ℕ
    pub height : Option Height
    pub row : r ≡ row_at height at t
    pub more : List Instr
    pub there : drop at code ≡ phrase_code C Ret t.body ++ more

  abbrev pub Rows : List TemplateRow → List Template → Type 0
  Rows [] [] = Unit {0}
  Rows (r ∷ rs) (t ∷ ts) = IsRowOf r t × Rows rs ts
  Rows _ _ = ⊥

  pub record RowThere (rs : List TemplateRow) (k : ℕ) (t : Template) : Type 0 where
    pub row : TemplateRow
    pub there : slice_get rs k ≡ Some row
    pub of : IsRowOf row t

  pub row_of : (rs : List TemplateRow) (ts : List Template) (k : ℕ) (t : Template) → Rows rs ts → slice_get ts k ≡ Some t → RowThere rs k t
  row_of [] [] k t h e = absurd (cc)
  row_of [] (u ∷ ts) k t h e = absurd h
  row_of (r ∷ rs) [] k t h e = absurd h
  row_of (r ∷ rs) (u ∷ ts) zero t h e = let same : u ≡ t = cc in record { row = r; there = refl; of = subst (IsRowOf r) same h.0 }
  row_of (r ∷ rs) (u ∷ ts) (suc k) t h e = let later = row_of rs ts k t h.1 e in record { row = later.row; there = later.there; of = later.of }

  pub record TemplateThere (ts : List Template) (k : ℕ) (r : TemplateRow) : Type 0 where
    pub template : Template
    pub there : slice_get ts k ≡ Some template
    pub of : IsRowOf r template

  pub template_at : (rs : List TemplateRow) (ts : List Template) (k : ℕ) (r : TemplateRow) → Rows rs ts → slice_get rs k ≡ Some r → TemplateThere ts k r
  template_at [] [] k r h e = absurd (cc)
  template_at [] (u ∷ ts) k r h e = absurd h
  template_at (q ∷ rs) [] k r h e = absurd h
  template_at (q ∷ rs) (u ∷ ts) zero r h e = let same : q ≡ r = cc in record { template = u; there = refl; of = subst (λ (r : TemplateRow). IsRowOf r u) same h.0 }
  template_at (q ∷ rs) (u ∷ ts) (suc k) r h e = let later = template_at rs ts k r h.1 e in record { template = later.template; there = later.there; of = later.of }

  -- templates whose code stands one behind the other
  pub rows_placed : (heights : List (Option Height)) (at q : ℕ) (ts : List Template) (more : List Instr) → drop at code ≡ templates_code C ts ++ more → Rows (template_rows C heights at q ts) ts
  rows_placed heights at q [] more e = tt
  rows_placed heights at q (t ∷ ts) more e =
      let own = phrase_code C Ret t.body in
      let there = regroup (drop at code) own (templates_code C ts) more e in (
        record { at = at; height = height_there (slice_get heights q); row = refl; more = templates_code C ts ++ more; there = there },
        rows_placed heights (at + length own) (suc q) ts more (drop_behind code at own (templates_code C ts ++ more) there),
      )

module _ (C : Closed) (code : List Instr) where
  -- a word's row, and the place of its code
  pub record Placed (rows : List WordRow) (w v : ℕ) (d : WordDef) : Type 0 where
    pub at : ℕ
    pub row : slice_get rows w ≡ Some (word_row C at v d)
    pub more : List Instr
    pub there : drop at code ≡ word_code C v d ++ more

  pub placed : (at v : ℕ) (ds : List WordDef) (w : ℕ) (d : WordDef) → drop at code ≡ code_from C v ds → slice_get ds w ≡ Some d → Placed (words_from C at v ds) w (v + w) d
  placed at v [] w d e found = absurd (cc)
  placed at v (x ∷ ds) zero d e found =
      let same : x ≡ d = cc in
      let number : v + zero ≡ v = omega arith in
      let others = code_from C (suc v) ds in
      record {
        at = at;
        row = ap (λ (d : WordDef). Some (word_row C at v d)) same ∙ ap (λ (k : ℕ). Some (word_row C at k d)) (sym number);
        more = others;
        there = e ∙ ap (λ (d : WordDef). word_code C v d ++ others) same ∙ ap (λ (k : ℕ). word_code C k d ++ others) (sym number);
      }
  placed at v (x ∷ ds) (suc w) d e found =
      let own = word_code C v x in
      let later = placed (at + length own) (suc v) ds w d (drop_behind code at own (code_from C (suc v) ds) e) found in
      let number : suc v + w ≡ v + suc w = omega arith in
      record { at = later.at; row = later.row ∙ ap (λ (k : ℕ). Some (word_row C later.at k d)) number; more = later.more; there = later.there ∙ ap (λ (k : ℕ). word_code C k d ++ later.more) number }

-- all words, behind the templates
pub behind_templates : (C : Closed) (code : List Instr) → code ≡ program_code C → drop (length (templates_code C C.templates)) code ≡ code_from C 0 C.program.words
behind_templates C code e =
    let first = templates_code C C.templates in
    let front : 0 + length first ≡ length first = omega arith in
    ap (λ (k : ℕ). drop k code) (sym front) ∙ drop_behind code 0 first (code_from C 0 C.program.words) e

pub words_placed : (C : Closed) (code : List Instr) → code ≡ program_code C → (w : ℕ) (d : WordDef) → slice_get C.program.words w ≡ Some d → Placed C code (program_words C) w w d
words_placed C code is w d found =
    let n : 0 + w ≡ w = omega arith in
    subst (λ (v : ℕ). Placed C code (program_words C) w v d) n (placed C code (length (templates_code C C.templates)) 0 C.program.words w d (behind_templates C code is) found)

-- The effect in the row of each template.
pub row_height_is :
    (C : Closed) (heights : List (Option Height)) (at q : ℕ) (ts : List Template) (k : ℕ) (r : TemplateRow) → slice_get (template_rows C heights at q ts) k ≡ Some r → r.height ≡ height_there (slice_get heights (q + k))
row_height_is C heights at q [] k r e = absurd (cc)
row_height_is C heights at q (t ∷ ts) zero r e =
    let same : row_at (height_there (slice_get heights q)) at t ≡ r = cc in
    let number : q ≡ q + 0 = omega arith in
    sym (ap (λ (x : TemplateRow). x.height) same) ∙ ap (λ (j : ℕ). height_there (slice_get heights j)) number
row_height_is C heights at q (t ∷ ts) (suc k) r e =
    let number : suc q + k ≡ q + suc k = omega arith in
    row_height_is C heights (at + length (phrase_code C Ret t.body)) (suc q) ts k r e ∙ ap (λ (j : ℕ). height_there (slice_get heights j)) number

-- The rows of the templates of a closed program.
module _ (P : Program) (C : Closed) (closes : Closes P C.program C.templates) where
  -- each template is that of a literal in a word
  pub literal_of : (q : ℕ) (t : Template) → slice_get C.templates q ≡ Some t → (literal_numbered P q).at.word < length P.words
  literal_of q t e = let found = get_other C.templates (literals P) q t (templates_count P C.program C.templates closes) e in subst (λ (l : Quoted). l.at.word < length P.words) (sym (ap (literal_or P q) found.1)) (in_a_word P q found.0 found.1)

  module _ (heights : List (Option Height)) (code : List Instr) (rows : List TemplateRow) (code_is : code ≡ program_code C) (rows_are : rows ≡ program_templates C heights) where
    pub all_rows : Rows C code rows C.templates
    all_rows = subst (λ (rs : List TemplateRow). Rows C code rs C.templates) (sym rows_are) (rows_placed C code heights 0 0 C.templates (code_from C 0 C.program.words) code_is)

    -- the template of a literal, and its row
    pub record RowFor (q : ℕ) (l : Quoted) : Type 0 where
      pub template : Template
      pub found : slice_get C.templates q ≡ Some template
      pub row : TemplateRow
      pub there : slice_get rows q ≡ Some row
      pub cells : row.cells ≡ captured l.cells l.item
      pub holes : row.holes ≡ hole_count l.item

    row_or : (q : ℕ) (l : Quoted) (o : Option Template) → slice_get (literals P) q ≡ Some l → slice_get C.templates q ≡ o → RowFor q l
    row_or q l None listed e = let none = template_closed_none P C.program C.templates closes q e in absurd (let clash : None ≡ Some l = sym none ∙ listed in cc)
    row_or q l (Some t) listed e =
        let found = row_of C code rows C.templates q t all_rows e in
        let closed = subst (λ (m : Quoted). ClosesLiteral P m t) (ap (literal_or P q) listed) (template_closed P C.program C.templates closes q t e) in
        record { template = t; found = e; row = found.row; there = found.there; cells = ap (λ (r : TemplateRow). r.cells) found.of.row ∙ closed.captures; holes = ap (λ (r : TemplateRow). r.holes) found.of.row ∙ closed.holes }

    -- and of each literal that is listed
    pub listed_row : (q : ℕ) (l : Quoted) → slice_get (literals P) q ≡ Some l → RowFor q l
    listed_row q l listed = row_or q l (slice_get C.templates q) listed refl

    pub literal_row : (q : ℕ) (l : Quoted) → l.at.word < length P.words → literal_numbered P q ≡ l → RowFor q l
    literal_row q l lt e = row_or q l (slice_get C.templates q) (is_listed P q l lt e) refl

  -- the instruction that makes it
  made_or : (q : ℕ) (l : Quoted) (o : Option Template) → slice_get (literals P) q ≡ Some l → slice_get C.templates q ≡ o → made_instr q o ≡ making q (hole_count l.item)
  made_or q l None listed e = let none = template_closed_none P C.program C.templates closes q e in absurd (let clash : None ≡ Some l = sym none ∙ listed in cc)
  made_or q l (Some t) listed e = let closed = subst (λ (m : Quoted). ClosesLiteral P m t) (ap (literal_or P q) listed) (template_closed P C.program C.templates closes q t e) in ap (making q) closed.holes

  pub literal_instr : (q : ℕ) (l : Quoted) → l.at.word < length P.words → literal_numbered P q ≡ l → made_instr q (slice_get C.templates q) ≡ making q (hole_count l.item)
  literal_instr q l lt e = made_or q l (slice_get C.templates q) (is_listed P q l lt e) refl
