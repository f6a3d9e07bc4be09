-- The tables of an expanded image agree with a program where those of the plain one do.
use Rattle.std.proofs.Common.{◌≡◌, ℕ, ◌+◌, List, [], ◌∷◌, ◌++◌, length, map, Option, Some, None, refl, ap, sym, subst, ◌∙◌}
use Rattle.std.specs.Prelude.{slice_get}
use Rattle.fac_base.specs.declared.height.Height.{Height}
use Rattle.fac_lang.specs.declared.program.Program.{Program}
use Rattle.fac_lang.specs.Phrases.{str, Callable}
use Rattle.fac_lang.specs.World.{array, World}
use Rattle.fac_code.specs.declared.image.Elem.{Elem}
use Rattle.fac_code.specs.declared.image.Elem.TheVariants as elem
use Rattle.fac_code.specs.declared.image.WordRow.{WordRow}
use Rattle.fac_code.specs.declared.image.TemplateRow.{TemplateRow}
use Rattle.fac_code.specs.declared.image.Tables.{Tables}
use Rattle.fac_code.specs.declared.image.Image.{Image}
use Rattle.fac_code.specs.Images.{tables_of}
use Rattle.fac_code.specs.ImageNames.{text_of, names_in, image_names}
use Rattle.fac_lang.specs.Printed.{or_empty}
use Rattle.fac_store.specs.MachineValues.{MValue, m_plain}
use Rattle.fac_machine.specs.Machine.{fits_in, row_height, element_value, with_arrays, first_world}
use Rattle.fac_carry.specs.MachineView.{template_phrases, world_view}
use Rattle.fac_carry.specs.WholeValues.{WholeObjects}
use Rattle.fac_carry.specs.Carries.{image_full_name}
use Rattle.fac_carry.specs.Agrees.{Agrees}
use Rattle.fac_expand.specs.SameButPlaces.{word_without_place, template_without_place, SameButPlaces}
use Rattle.fac_expand.specs.Expands.{Expands}
use Rattle.fac_expand.proofs.MappedLists.{map_some, get_map}
use Rattle.fac_expand.proofs.WholeElsewhere.{HasTemplates, objects_too}

-- what is said of a row but for its place
same_of : {A B : Type 0} (f : A → A) (g : Option A → B) → ((o : Option A) → g (map_some f o) ≡ g o) → (xs ys : List A) → map f xs ≡ map f ys → (k : ℕ) → g (slice_get xs k) ≡ g (slice_get ys k)
same_of f g without xs ys e k =
    sym (without (slice_get xs k)) ∙ ap g (sym (get_map f xs k)) ∙ ap (λ zs. g (slice_get zs k)) e ∙ ap g (get_map f ys k) ∙ without (slice_get ys k)

-- a row that is the same but for its place
pub of_row : {A : Type 0} (f : A → A) (xs ys : List A) → map f xs ≡ map f ys → (k : ℕ) (x : A) → slice_get xs k ≡ Some x → (y : A) × (slice_get ys k ≡ Some y) × (f y ≡ f x)
of_row f xs ys same k x e = by (slice_get ys k) refl (sym (get_map f ys k) ∙ ap (λ zs. slice_get zs k) (sym same) ∙ get_map f xs k ∙ ap (map_some f) e)
  where
    by : (o : Option _) → slice_get ys k ≡ o → map_some f o ≡ Some (f x) → (y : _) × (slice_get ys k ≡ Some y) × (f y ≡ f x)
    by None there found = absurd (cc)
    by (Some y) there found = let alike : f y ≡ f x = cc in (y, there, alike)

module _ (N M : Image) (same : SameButPlaces N M) where
  -- what is said of a word but for its place
  word_same : {B : Type 0} (g : Option WordRow → B) → ((o : Option WordRow) → g (map_some word_without_place o) ≡ g o) → (w : ℕ) → g (slice_get M.words w) ≡ g (slice_get N.words w)
  word_same g without w = same_of word_without_place g without M.words N.words same.words w

  text_same : (k : ℕ) → text_of (tables_of M) k ≡ text_of (tables_of N) k
  text_same k = ap (λ (ts : List (List ℕ)). or_empty (slice_get ts k)) same.texts

  pub templates_in : HasTemplates N M
  templates_in q r e =
      let found = of_row template_without_place N.templates M.templates (sym same.templates) q r e in
      (found.0, found.1, ap (λ (x : TemplateRow). length x.cells + x.holes) found.2)

  -- literal arrays
  element_same : (addresses : List ℕ) (x : Elem) → element_value M addresses x ≡ element_value N addresses x
  element_same addresses (elem.Int z) = refl
  element_same addresses elem.True = refl
  element_same addresses elem.False = refl
  element_same addresses (elem.Text k) = ap (λ (ts : List (List ℕ)). m_plain (str (or_empty (slice_get ts k)))) same.texts
  element_same addresses (elem.Array a) = refl
  element_same addresses (elem.Word w) = refl
  element_same addresses (elem.Template q) = refl

  elements_same : (addresses : List ℕ) (xs : List Elem) → map (element_value M addresses) xs ≡ map (element_value N addresses) xs
  elements_same addresses [] = refl
  elements_same addresses (x ∷ xs) = rw (element_same addresses x, elements_same addresses xs) refl

  arrays_same : (xss : List (List Elem)) (w : World MValue) → with_arrays M xss w ≡ with_arrays N xss w
  arrays_same [] w = refl
  arrays_same (xs ∷ xss) w =
      arrays_same xss _
      ∙ ap (λ (vs : List MValue). with_arrays N xss (record { objects = w.objects ++ array vs ∷ []; literals = w.literals ++ length w.objects ∷ []; input = w.input; asked = w.asked; output = w.output })) (elements_same w.literals xs)

  pub first_same : (input : List ℕ) → first_world M input ≡ first_world N input
  first_same input =
      let empty : World MValue = record { objects = []; literals = []; input = input; asked = 0; output = [] } in
      ap (λ (xss : List (List Elem)). with_arrays M xss empty) same.arrays ∙ arrays_same N.arrays empty

  -- names
  abbrev full_name : Option WordRow → Option (List ℕ × List ℕ)
  full_name o = elim o [ Some r ↦ Some (text_of (tables_of M) r.vocab, text_of (tables_of M) r.name) | None ↦ None ]

  full_name_without : (o : Option WordRow) → full_name (map_some word_without_place o) ≡ full_name o
  full_name_without None = refl
  full_name_without (Some r) = refl

  pub full_names_same : (w : ℕ) → image_full_name M w ≡ image_full_name N w
  full_names_same w =
      word_same full_name full_name_without w
      ∙ ap (λ (ts : List (List ℕ)). elim (slice_get N.words w) as (λ z. Option (List ℕ × List ℕ)) [ Some r ↦ Some (or_empty (slice_get ts r.vocab), or_empty (slice_get ts r.name)) | None ↦ None ]) same.texts

  height_without : (o : Option WordRow) → row_height (map_some word_without_place o) ≡ row_height o
  height_without None = refl
  height_without (Some r) = refl

  pub heights_same : (w : ℕ) → row_height (slice_get M.words w) ≡ row_height (slice_get N.words w)
  heights_same w = word_same row_height height_without w

  -- the tables of the one with the rows of the other
  abbrev mixed : Tables
  mixed = record { texts = N.texts; arrays = N.arrays; kinds = N.kinds; sets = N.sets; templates = M.templates; words = M.words; generics = M.generics; pairs = N.pairs }

  mixed_same : tables_of M ≡ mixed
  mixed_same = λ i. record { texts = same.texts i; arrays = same.arrays i; kinds = same.kinds i; sets = same.sets i; templates = M.templates; words = M.words; generics = M.generics; pairs = same.pairs i }

  abbrev short_name : Option WordRow → List ℕ
  short_name o = elim o [ Some r ↦ text_of (tables_of N) r.name | None ↦ [] ]

  short_name_without : (o : Option WordRow) → short_name (map_some word_without_place o) ≡ short_name o
  short_name_without None = refl
  short_name_without (Some r) = refl

  rows_named : names_in mixed ≡ image_names N
  rows_named = λ i. record {
    word_name = λ w. word_same short_name short_name_without w i;
    kind_name = (image_names N).kind_name;
    kind_slots = (image_names N).kind_slots;
    word_kind = (image_names N).word_kind;
    tuple_class = (image_names N).tuple_class;
  }

  pub names_same : image_names M ≡ image_names N
  names_same = ap names_in mixed_same ∙ rows_named

pub agrees_too : (top : ℕ) (P : Program) (callable_height : Callable → Option Height) (N M : Image) → Agrees P callable_height N → Expands top N M → Agrees P callable_height M
agrees_too top P callable_height N M agrees expands =
    let same = expands.same in
    record {
      named = names_same N M same ∙ agrees.named;
      same_full_names = λ w. full_names_same N M same w ∙ agrees.same_full_names w;
      words = λ w h. ap (fits_in h) (heights_same N M same w) ∙ agrees.words w h;
      literals = λ tests q r vs e many.
          let before = of_row template_without_place M.templates N.templates same.templates q r e in
          let size : length (before.0).cells + (before.0).holes ≡ length r.cells + r.holes = ap (λ (x : TemplateRow). length x.cells + x.holes) before.2 in
          agrees.literals (expands.tests tests) q before.0 vs before.1 (many ∙ sym size) ∙ ap (λ (x : TemplateRow). x.height) before.2;
      curried = agrees.curried;
      composed = agrees.composed;
      same_first = λ input. ap (world_view (template_phrases P)) (first_same N M same input) ∙ agrees.same_first input;
      first_whole = λ input.
          let whole = objects_too P N M (templates_in N M same) (first_world N input).objects (agrees.first_whole input) in
          subst (λ (w : World MValue). WholeObjects P M w.objects) (sym (first_same N M same input)) whole;
    }
