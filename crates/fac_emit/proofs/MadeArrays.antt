-- The literal arrays of an image of plain code are made as those of its program.
use Rattle.std.proofs.Common.{◌≡◌, ℕ, suc, List, [], ◌∷◌, ◌++◌, length, true, false, Option, refl, ap, sym, subst, ◌∙◌, arith}
use Rattle.std.proofs.lemmas.List.{length-map}
use Rattle.std.specs.Prelude.{map}
use Rattle.fac_base.specs.declared.height.Height.{Height}
use Rattle.fac_lang.specs.declared.program.Program.{Program}
use Rattle.fac_lang.specs.declared.program.Lit.{Lit}
use Rattle.fac_lang.specs.declared.program.Lit.TheVariants.{Int as l_int, True as l_yes, False as l_no, Str as l_str, Arr as l_arr, Wref as l_word, Quot as l_quot, Made as l_made}
use Rattle.fac_lang.specs.Phrases.{str, Literal, Phrase, quot, Value, plain, fun, of_phrase}
use Rattle.fac_lang.specs.World.{Object, array, World}
use Rattle.fac_lang.specs.Printed.{or_empty}
use Rattle.fac_lang.proofs.SourcePrograms.{IsSessionProgram, IsElementOf, AreElementsOf, AreArraysOf, may_name}
use Rattle.fac_lang.specs.Meaning.{array_method, is_top_phrase, of_method_if, literal_value, with_arrays as meaning_arrays, start}
use Rattle.fac_locals.specs.Literals.{Quoted, behind, first_in_array, element_item}
use Rattle.fac_locals.specs.Closed.{IsMadeBy, Closes, ClosesElement, CloseElements, CloseArrays}
use Rattle.fac_locals.specs.declared.closing.Closed.{Closed}
use Rattle.fac_locals.proofs.OpeningLaws.{programs_open}
use Rattle.fac_code.specs.declared.image.Elem.{Elem}
use Rattle.fac_code.specs.declared.image.Image.{Image}
use Rattle.fac_store.specs.MachineValues.{MValue, m_fun, m_lit, none_kept}
use Rattle.fac_machine.specs.Machine.{element_value, with_arrays, first_world}
use Rattle.fac_carry.specs.MachineView.{Templates, template_phrases, value_view, values_view, object_view, world_view}
use Rattle.fac_carry.specs.WholeValues.{Whole, AllWhole, WholeObjects}
use Rattle.fac_emit.specs.ProgramTexts.{own_elements_texts, arrays_texts, program_texts}
use Rattle.fac_emit.specs.ProgramCode.{elem_of, elems_of, IsPlain}
use Rattle.fac_carry.proofs.KeptPrimitives.{object_added}
use Rattle.fac_emit.proofs.LiteralWords.{is_listed_in_array}
use Rattle.fac_emit.proofs.Placed.{listed_row}
use Rattle.fac_emit.proofs.PlacedWords.{text_in}
use Rattle.fac_lang.proofs.SessionWords.{may_name_no_phrase}
use Rattle.fac_carry.proofs.SamePrimitives.{map_more}
use Rattle.fac_emit.proofs.TextLemmas.{AreAmong, both_among, first_element, all_arrays_named}

pub has_first : (xs : List ℕ) (x : ℕ) → (i : ℕ) × (is : List ℕ) × (xs ++ x ∷ [] ≡ i ∷ is)
has_first [] x = (x, [], refl)
has_first (y ∷ xs) x = (y, xs ++ x ∷ [], refl)

module _ (P : Program) (C : Closed) (heights : List (Option Height)) (M : Image) (b : IsSessionProgram P) (closes : Closes P C.program C.templates) (is_plain : IsPlain C heights M) where
  abbrev T : Templates
  T = template_phrases P

  phrase_made : (m : Option ℕ) (q : ℕ) (at : Literal) (t : Phrase) → IsMadeBy P [] at (quot (of_method_if m t)) q → T q [] ≡ of_method_if m t
  unfolding template_phrases
  phrase_made m q at t e = (programs_open P C.program C.templates closes).alone at (of_method_if m t) q e

  element_made : (m : Option ℕ) (addresses : List ℕ) (at : Literal) (l c : Lit) → ClosesElement P m at l c → AreAmong (program_texts C) (own_elements_texts (c ∷ [])) → value_view T (element_value M addresses (elem_of C c)) ≡ literal_value P addresses m l
  element_made m addresses at (l_int z) c h named = rw h refl
  element_made m addresses at l_yes c h named = rw h refl
  element_made m addresses at l_no c h named = rw h refl
  element_made m addresses at (l_str bs) c h named =
      let own = subst (λ (l : Lit). AreAmong (program_texts C) (own_elements_texts (l ∷ []))) h named in
      rw h (ap (λ (o : Option (List ℕ)). plain (str (or_empty o))) (text_in P C heights M b closes is_plain bs own.0))
  element_made m addresses at (l_arr a) c h named = rw h refl
  element_made m addresses at (l_word w) c h named = rw h refl
  element_made m addresses at (l_quot t) c h named = rw h.1 (ap (λ (u : Phrase). fun (of_phrase u)) (phrase_made m h.0 at t h.2))
  element_made m addresses at (l_made k) c h named = absurd h

  elements_made : (m : Option ℕ) (addresses : List ℕ) (at : Literal) (ls cs : List Lit) → CloseElements P m at ls cs → AreAmong (program_texts C) (own_elements_texts cs) → values_view T (map (element_value M addresses) (elems_of C cs)) ≡ map (literal_value P addresses m) ls
  elements_made m addresses at [] cs h named = rw h refl
  elements_made m addresses at (l ∷ ls) cs h named =
      let parts = first_element C h.0 h.1 (subst (λ (xs : List Lit). AreAmong (program_texts C) (own_elements_texts xs)) h.2 named) in
      rw h.2 (rw (element_made m addresses at l h.0 h.3 parts.0, elements_made m addresses (behind at (element_item m l)) ls h.1 h.4 parts.1) refl)

  pub same_made : (a : ℕ) (lss css : List (List Lit)) → CloseArrays P a lss css → AreAmong (program_texts C) (arrays_texts css) → (w : World MValue) → world_view T (with_arrays M (map (elems_of C) css) w) ≡ meaning_arrays P a lss (world_view T w)
  same_made a [] css h named w = rw h refl
  same_made a (ls ∷ lss) css h named w =
      let m = array_method P (length P.arrays) a in
      let parts = both_among (program_texts C) (own_elements_texts h.1) (arrays_texts h.2) (subst (λ (xss : List (List Lit)). AreAmong (program_texts C) (arrays_texts xss)) h.3 named) in
      let own = elements_made m w.literals (first_in_array h.0) ls h.1 h.4 parts.0 in
      let made : Object MValue = array (map (element_value M w.literals) (elems_of C h.1)) in
      let w' : World MValue = record w { objects = w.objects ++ made ∷ []; literals = w.literals ++ length w.objects ∷ [] } in
      let objects : map (object_view T) (w.objects ++ made ∷ []) ≡ map (object_view T) w.objects ++ array (map (literal_value P w.literals m) ls) ∷ [] = map_more (object_view T) w.objects (made ∷ []) ∙ ap (λ (vs : List Value). map (object_view T) w.objects ++ array vs ∷ []) own in
      let count : length w.objects ≡ length (map (object_view T) w.objects) = sym (length-map w.objects (object_view T)) in
      let view : world_view T w' ≡ record (world_view T w) { objects = map (object_view T) w.objects ++ array (map (literal_value P w.literals m) ls) ∷ []; literals = w.literals ++ length (map (object_view T) w.objects) ∷ [] } =
      ap (λ (os : List (Object Value)). record (world_view T w) { objects = os; literals = w.literals ++ length w.objects ∷ [] }) objects
      ∙ ap (λ (n : ℕ). record (world_view T w) { objects = map (object_view T) w.objects ++ array (map (literal_value P w.literals m) ls) ∷ []; literals = w.literals ++ n ∷ [] }) count in
      rw h.3 (same_made (suc a) lss h.2 h.5 parts.1 w' ∙ ap (meaning_arrays P (suc a) lss) view)

  -- Of the program, and of each of whose top-level phrases none is a word that the program's phrases may name.
  module _ (R : Program) (spares : (w : ℕ) → may_name P w ≡ true → is_top_phrase R w ≡ false) where
    -- callables in arrays are of the image's templates
    template_whole : (i : ℕ) (is : List ℕ) (at : Literal) (u : Phrase) (q : ℕ) → at.around ≡ i ∷ is → IsMadeBy P [] at (quot u) q → Whole R M (m_fun (m_lit q none_kept))
    template_whole i is at u q around e =
        let l : Quoted = record { at = at; cells = []; item = quot u } in
        let row = listed_row P C closes heights M.code M.templates is_plain.code is_plain.template_rows_are q l (is_listed_in_array P q l i is around e) in
        let cells : length row.row.cells ≡ 0 = ap length row.cells in
        let holes : row.row.holes ≡ 0 = row.holes in
        (row.row, row.there, omega (arith, cells, holes), tt)

    element_whole : (m : Option ℕ) (addresses : List ℕ) (i : ℕ) (is : List ℕ) (at : Literal) (l c : Lit) → at.around ≡ i ∷ is → IsElementOf (may_name P) l → ClosesElement P m at l c → Whole R M (element_value M addresses (elem_of C c))
    element_whole m addresses i is at (l_int z) c around g h = rw h tt
    element_whole m addresses i is at l_yes c around g h = rw h tt
    element_whole m addresses i is at l_no c around g h = rw h tt
    element_whole m addresses i is at (l_str bs) c around g h = rw h tt
    element_whole m addresses i is at (l_arr a) c around g h = rw h tt
    element_whole m addresses i is at (l_word w) c around g h = rw h (spares w g)
    element_whole m addresses i is at (l_quot t) c around g h = rw h.1 (template_whole i is at _ h.0 around h.2)
    element_whole m addresses i is at (l_made k) c around g h = absurd h

    elements_whole : (m : Option ℕ) (addresses : List ℕ) (i : ℕ) (is : List ℕ) (at : Literal) (ls cs : List Lit) → at.around ≡ i ∷ is → AreElementsOf (may_name P) ls → CloseElements P m at ls cs → AllWhole R M (map (element_value M addresses) (elems_of C cs))
    elements_whole m addresses i is at [] cs around g h = rw h tt
    elements_whole m addresses i is at (l ∷ ls) cs around g h = rw h.2 (element_whole m addresses i is at l h.0 around g.0 h.3, elements_whole m addresses i is (behind at (element_item m l)) ls h.1 around g.1 h.4)

    pub all_whole : (a : ℕ) (lss css : List (List Lit)) → AreArraysOf (may_name P) lss → CloseArrays P a lss css → (w : World MValue) → WholeObjects R M w.objects → WholeObjects R M (with_arrays M (map (elems_of C) css) w).objects
    all_whole a [] css g h w os = rw h os
    all_whole a (ls ∷ lss) css g h w os =
        let m = array_method P (length P.arrays) a in
        let first = has_first h.0.around h.0.index in
        let own = elements_whole m w.literals first.0 first.1 (first_in_array h.0) ls h.1 first.2 g.0 h.4 in
        let made : Object MValue = array (map (element_value M w.literals) (elems_of C h.1)) in
        rw h.3 (all_whole (suc a) lss h.2 g.1 h.5 (record w { objects = w.objects ++ made ∷ []; literals = w.literals ++ length w.objects ∷ [] }) (object_added R M w.objects made os own))

  -- The world before the first item.
  pub record FirstWorld (input : List ℕ) : Type 0 where
    pub same : world_view T (first_world M input) ≡ (start P input).world
    pub whole : WholeObjects P M (first_world M input).objects

  pub arrays_made : (input : List ℕ) → FirstWorld input
  arrays_made input =
      let empty : World MValue = record { objects = []; literals = []; input = input; asked = 0; output = [] } in
      record {
        same = ap (λ (ess : List (List Elem)). world_view T (with_arrays M ess empty)) is_plain.arrays ∙ same_made 0 P.arrays C.program.arrays closes.arrays (all_arrays_named C) empty;
        whole = subst (λ (ess : List (List Elem)). WholeObjects P M (with_arrays M ess empty).objects) (sym is_plain.arrays) (all_whole P (may_name_no_phrase P) 0 P.arrays C.program.arrays b.arrays_from_source closes.arrays empty tt);
      }
