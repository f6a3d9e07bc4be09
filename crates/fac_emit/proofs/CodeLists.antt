-- Code in lists, one for each word or template, and the pieces that make them.
use Rattle.std.proofs.Common.{◌≡◌, ◌<◌, ◌≤◌, ℕ, zero, suc, ◌+◌, List, [], ◌∷◌, ◌++◌, length, map, drop, get_or, Some, refl, ap, sym, ◌∙◌, arith, append_assoc, add-one}
use Rattle.std.specs.Prelude.{slice_get}
use Rattle.std.proofs.lemmas.List.{append-nil, at_drop_all, map_push}
use Rattle.fac_lang.specs.declared.phrase.Template.{Template}
use Rattle.fac_lang.specs.declared.program.WordDef.{WordDef}
use Rattle.fac_locals.specs.declared.closing.Closed.{Closed}
use Rattle.fac_code.specs.declared.image.Instr.{Instr}
use Rattle.fac_par.specs.Pieces.{MeetEach}
use Rattle.fac_emit.specs.ProgramCode.{word_code}
use Rattle.fac_emit.specs.declared.pieces.TemplatePiece.{TemplatePiece}
use Rattle.fac_emit.specs.declared.pieces.WordPiece.{WordPiece}
use Rattle.fac_emit.specs.inner.Pieces.{template_code, template_codes, codes_from, word_codes, found_template_code, found_word_code, template_piece_code, word_piece_code, code_there}
use Rattle.fac_emit.proofs.Closings.{get_at}
use Rattle.fac_emit.proofs.EmitLemmas.{next_of}

-- what pieces have as their results
abbrev pub MeetsWord : WordPiece → List Instr → Type 0
MeetsWord p code = code ≡ word_piece_code p

abbrev pub MeetsTemplate : TemplatePiece → List Instr → Type 0
MeetsTemplate p code = code ≡ template_piece_code p

-- so their results are these, in their order
pub all_met : {P O : Type 0} (f : P → O) (ps : List P) (os : List O) → MeetEach (λ p o. o ≡ f p) ps os → os ≡ map f ps
all_met f [] [] met = refl
all_met f [] (o ∷ os) met = absurd met
all_met f (p ∷ ps) [] met = absurd met
all_met f (p ∷ ps) (o ∷ os) met = ap (λ (x : _). x ∷ os) met.0 ∙ ap (λ (xs : List _). f p ∷ xs) (all_met f ps os met.1)

-- one more piece, whose result comes next
one_more : {P O : Type 0} (f : P → O) (ps pushed : List P) (p : P) (o : O) (whole rest : List O) → whole ≡ map f ps ++ o ∷ rest → pushed ≡ ps ++ p ∷ [] → f p ≡ o → whole ≡ map f pushed ++ rest
one_more f ps pushed p o whole rest all is_pushed is =
    let made : map f pushed ≡ map f ps ++ o ∷ [] = ap (map f) is_pushed ∙ map_push f ps p ∙ ap (λ (x : _). map f ps ++ x ∷ []) is in
    rw made (all ∙ sym (append_assoc (map f ps) (o ∷ []) rest))

-- the element at a place of a list
element_at : {X : Type 0} (xs : List X) (k : ℕ) → k < length xs → (x : X) × (slice_get xs k ≡ Some x) × (drop k xs ≡ x ∷ drop (suc k) xs)
element_at [] k lt = absurd (omega (arith, lt))
element_at (x ∷ xs) zero lt = (x, refl, refl)
element_at (x ∷ xs) (suc k) lt = element_at xs k (omega (arith, lt))

module _ (C : Closed) where
  -- one more piece of a word
  pub word_piece_step : (k : ℕ) (ps pushed : List WordPiece) (p : WordPiece) → k < length C.program.words → word_codes C ≡ map word_piece_code ps ++ codes_from C k (drop k C.program.words) → pushed ≡ ps ++ p ∷ [] →
      word_piece_code p ≡ found_word_code C k (slice_get C.program.words k) → word_codes C ≡ map word_piece_code pushed ++ codes_from C (k + 1) (drop (k + 1) C.program.words)
  word_piece_step k ps pushed p lt all is_pushed is =
      let found = element_at C.program.words k lt in
      rw (add-one k)
      (one_more word_piece_code ps pushed p (word_code C k found.0) (word_codes C) (codes_from C (suc k) (drop (suc k) C.program.words)) (all ∙ ap (λ (ds : List WordDef). map word_piece_code ps ++ codes_from C k ds) found.2) is_pushed (is ∙ ap (found_word_code C k) found.1))

  -- and the last one
  pub all_word_pieces : (k : ℕ) (ps : List WordPiece) → length C.program.words ≤ k → word_codes C ≡ map word_piece_code ps ++ codes_from C k (drop k C.program.words) → map word_piece_code ps ≡ word_codes C
  all_word_pieces k ps le all = sym (all ∙ at_drop_all (λ (ds : List WordDef). map word_piece_code ps ++ codes_from C k ds) C.program.words k le ∙ append-nil (map word_piece_code ps))

  -- one more piece of a template
  pub template_piece_step : (k : ℕ) (ps pushed : List TemplatePiece) (p : TemplatePiece) → k < length C.templates → template_codes C ≡ map template_piece_code ps ++ map (template_code C) (drop k C.templates) → pushed ≡ ps ++ p ∷ [] →
      template_piece_code p ≡ found_template_code C (slice_get C.templates k) → template_codes C ≡ map template_piece_code pushed ++ map (template_code C) (drop (k + 1) C.templates)
  template_piece_step k ps pushed p lt all is_pushed is =
      let found = element_at C.templates k lt in
      rw (add-one k)
      (one_more template_piece_code ps pushed p (template_code C found.0) (template_codes C) (map (template_code C) (drop (suc k) C.templates)) (all ∙ ap (λ (ts : List Template). map template_piece_code ps ++ map (template_code C) ts) found.2) is_pushed (is ∙ ap (found_template_code C) found.1))

  pub all_template_pieces : (k : ℕ) (ps : List TemplatePiece) → length C.templates ≤ k → template_codes C ≡ map template_piece_code ps ++ map (template_code C) (drop k C.templates) → map template_piece_code ps ≡ template_codes C
  all_template_pieces k ps le all = sym (all ∙ at_drop_all (λ (ts : List Template). map template_piece_code ps ++ map (template_code C) ts) C.templates k le ∙ append-nil (map template_piece_code ps))

  -- what stands at a place of these lists
  word_code_from : (w k : ℕ) (ds : List WordDef) (d : WordDef) → slice_get ds k ≡ Some d → code_there (slice_get (codes_from C w ds) k) ≡ word_code C (w + k) d
  word_code_from w k [] d e = absurd (cc)
  word_code_from w zero (x ∷ ds) d e = let n : w + 0 ≡ w = omega arith in let same : x ≡ d = cc in rw (n, same) refl
  word_code_from w (suc k) (x ∷ ds) d e = let n : w + suc k ≡ suc w + k = omega arith in rw n (word_code_from (suc w) k ds d e)

  template_code_at : (k : ℕ) (ts : List Template) (t : Template) → slice_get ts k ≡ Some t → code_there (slice_get (map (template_code C) ts) k) ≡ template_code C t
  template_code_at k [] t e = absurd (cc)
  template_code_at zero (x ∷ ts) t e = let same : x ≡ t = cc in ap (template_code C) same
  template_code_at (suc k) (x ∷ ts) t e = template_code_at k ts t e

  -- at the place that a loop is at
  pub word_code_there :
      (n i : ℕ) (word : WordDef) (items : List WordDef) (codes : List (List Instr)) → items ≡ C.program.words → i < length items → word ≡ get_or items i word → n ≡ i → codes ≡ word_codes C → code_there (slice_get codes n) ≡ word_code C n word
  word_code_there n i word items codes are lt is same all =
      let at = get_at C.program.words i word (drop (i + 1) C.program.words) (next_of C.program.words i word items are lt is) in
      let place : slice_get C.program.words n ≡ Some word = ap (slice_get C.program.words) same ∙ at in
      let number : 0 + n ≡ n = omega arith in
      ap (λ (cs : List (List Instr)). code_there (slice_get cs n)) all ∙ word_code_from 0 n C.program.words word place ∙ ap (λ (w : ℕ). word_code C w word) number

  pub template_code_there :
      (n i : ℕ) (t : Template) (items : List Template) (codes : List (List Instr)) → items ≡ C.templates → i < length items → t ≡ get_or items i t → n ≡ i → codes ≡ template_codes C → code_there (slice_get codes n) ≡ template_code C t
  template_code_there n i t items codes are lt is same all =
      let at = get_at C.templates i t (drop (i + 1) C.templates) (next_of C.templates i t items are lt is) in
      let place : slice_get C.templates n ≡ Some t = ap (slice_get C.templates) same ∙ at in
      ap (λ (cs : List (List Instr)). code_there (slice_get cs n)) all ∙ template_code_at n C.templates t place
