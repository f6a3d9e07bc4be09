-- Steps of the loops that emit code and rows.
use Rattle.std.proofs.Common.{◌≡◌, ◌<◌, ℕ, suc, ◌+◌, List, [], ◌∷◌, ◌++◌, length, drop, get_or, Option, ap, sym, subst, ◌∙◌, append_assoc, length-append, add-one, drop-cons}
use Rattle.std.specs.Prelude.{nat_eq, slice_get, map}
use Rattle.fac_base.specs.declared.height.Height.{Height}
use Rattle.fac_lang.specs.declared.phrase.Template.{Template}
use Rattle.fac_lang.specs.declared.program.WordDef.{WordDef}
use Rattle.fac_locals.specs.declared.closing.Closed.{Closed}
use Rattle.fac_code.specs.declared.image.Instr.{Instr}
use Rattle.fac_code.specs.declared.image.Instr.TheVariants.{Ret}
use Rattle.fac_code.specs.declared.image.TemplateRow.{TemplateRow}
use Rattle.fac_code.specs.declared.image.WordRow.{WordRow}
use Rattle.fac_store.specs.CallableHeights.{height_there}
use Rattle.fac_emit.specs.ProgramCode.{phrase_code, templates_code, row_at, template_rows, word_row, sort_code, word_code, code_from, words_from}

-- the element that a loop is at
pub next_element : {A : Type 0} (xs : List A) (i : ℕ) (x : A) → i < length xs → x ≡ get_or xs i x → drop i xs ≡ x ∷ drop (i + 1) xs
next_element xs i x lt e = rw (add-one, drop-cons xs i x) (ap (λ y. y ∷ drop (suc i) xs) (sym e))

-- among the elements of a list
pub next_of : {A : Type 0} (xs : List A) (i : ℕ) (x : A) (items : List A) → items ≡ xs → i < length items → x ≡ get_or items i x → drop i xs ≡ x ∷ drop (i + 1) xs
next_of xs i x items are lt is = subst (λ (us : List _). drop i us ≡ x ∷ drop (i + 1) us) are (next_element items i x lt is)

-- one more element of a list that is mapped
pub mapped_step :
    {A B : Type 0} (f : A → B) (xs : List A) (i : ℕ) (x : A) (items : List A) → items ≡ xs → i < length items → x ≡ get_or items i x → (whole made pushed : List B) (y : B) → whole ≡ made ++ map f (drop i xs) → y ≡ f x → pushed ≡ made ++ y ∷ [] → whole ≡ pushed ++ map f (drop (i + 1) xs)
mapped_step f xs i x items are lt is whole made pushed y all made_is is_pushed =
    rw (is_pushed, made_is) (all ∙ ap (λ (us : List _). made ++ map f us) (next_of xs i x items are lt is) ∙ sym (append_assoc made (f x ∷ []) (map f (drop (i + 1) xs))))

-- one more template
module _ (C : Closed) (i : ℕ) (t : Template) (items : List Template) (are : items ≡ C.templates) (lt : i < length items) (is : t ≡ get_or items i t) where
  pub template_code_step : (whole code pushed : List Instr) → whole ≡ code ++ templates_code C (drop i C.templates) → pushed ≡ code ++ phrase_code C Ret t.body → whole ≡ pushed ++ templates_code C (drop (i + 1) C.templates)
  template_code_step whole code pushed all is_pushed =
      rw is_pushed (all ∙ ap (λ (us : List Template). code ++ templates_code C us) (next_of C.templates i t items are lt is) ∙ sym (append_assoc code (phrase_code C Ret t.body) (templates_code C (drop (i + 1) C.templates))))

  pub template_rows_step : (heights : List (Option Height)) (q : ℕ) (code pushed : List Instr) (whole rows pushed_rows : List TemplateRow) → whole ≡ rows ++ template_rows C heights (length code) q (drop i C.templates) → pushed ≡ code ++ phrase_code C Ret t.body →
      pushed_rows ≡ rows ++ row_at (height_there (slice_get heights q)) (length code) t ∷ [] → whole ≡ pushed_rows ++ template_rows C heights (length pushed) (q + 1) (drop (i + 1) C.templates)
  template_rows_step heights q code pushed whole rows pushed_rows all is_pushed are_pushed =
      let own = phrase_code C Ret t.body in
      let count : length pushed ≡ length code + length own = ap length is_pushed ∙ length-append code own in
      let row = row_at (height_there (slice_get heights q)) (length code) t in
      rw (are_pushed, count, add-one q) (all ∙ ap (λ (us : List Template). rows ++ template_rows C heights (length code) q us) (next_of C.templates i t items are lt is) ∙ sym (append_assoc rows (row ∷ []) (template_rows C heights (length code + length own) (suc q) (drop (i + 1) C.templates))))

-- one more word
module _ (C : Closed) (number i : ℕ) (word : WordDef) (items : List WordDef) (are : items ≡ C.program.words) (lt : i < length items) (is : word ≡ get_or items i word) where
  pub word_code_step : (whole code pushed : List Instr) → whole ≡ code ++ code_from C number (drop i C.program.words) → pushed ≡ code ++ sort_code C (nat_eq number C.program.top) word.sort → whole ≡ pushed ++ code_from C (number + 1) (drop (i + 1) C.program.words)
  word_code_step whole code pushed all is_pushed =
      rw (is_pushed, add-one number)
      (all ∙ ap (λ (ds : List WordDef). code ++ code_from C number ds) (next_of C.program.words i word items are lt is) ∙ sym (append_assoc code (word_code C number word) (code_from C (suc number) (drop (i + 1) C.program.words))))

  pub word_rows_step : (code pushed : List Instr) (whole rows pushed_rows : List WordRow) → whole ≡ rows ++ words_from C (length code) number (drop i C.program.words) → pushed ≡ code ++ sort_code C (nat_eq number C.program.top) word.sort →
      pushed_rows ≡ rows ++ word_row C (length code) number word ∷ [] → whole ≡ pushed_rows ++ words_from C (length pushed) (number + 1) (drop (i + 1) C.program.words)
  word_rows_step code pushed whole rows pushed_rows all is_pushed are_pushed =
      let own = word_code C number word in
      let count : length pushed ≡ length code + length own = ap length is_pushed ∙ length-append code own in
      let row : WordRow = word_row C (length code) number word in
      let others = words_from C (length code + length own) (suc number) (drop (i + 1) C.program.words) in
      rw (are_pushed, count, add-one number) (all ∙ ap (λ (ds : List WordDef). rows ++ words_from C (length code) number ds) (next_of C.program.words i word items are lt is) ∙ sym (append_assoc rows (row ∷ []) others))
