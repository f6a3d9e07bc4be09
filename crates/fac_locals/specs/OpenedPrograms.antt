-- How a closed program opens to the one for which it stands: each of its phrases, with items in its frame, stands for a phrase of the program with these items put.
use Rattle.std.specs.Prelude.{◌≡◌, ℕ, ◌+◌, List, [], length, Some, slice_get}
use Rattle.fac_lang.specs.Phrases.{Literal, Phrase, Item, quot}
use Rattle.fac_lang.specs.Substitution.{of_method}
use Rattle.fac_lang.specs.declared.phrase.Template.{Template}
use Rattle.fac_lang.specs.declared.program.Program.{Program}
use Rattle.fac_lang.specs.declared.program.WordDef.{WordDef}
use Rattle.fac_lang.specs.declared.program.Sort.{Sort}
use Rattle.fac_lang.specs.declared.program.Sort.TheVariants.{Body as body, Past as past, Method as method}
use Rattle.fac_locals.specs.Literals.{first_of_word, first_of_literal, literal_numbered}
use Rattle.fac_locals.specs.Closed.{IsMadeBy, Closes}
use Rattle.fac_locals.specs.Frames.{ArePut, items_at, template_phrase, Opens}

-- what word w is in a closed program, for what it is in the program: its phrase opens under the empty frame
abbrev pub OpensSort : Program → List Template → ℕ → Sort → Sort → Type 0
OpensSort P templates w (body t) s = (c : Phrase) × (s ≡ body c) × Opens P templates [] (first_of_word w) c t
OpensSort P templates w (past t) s = (c : Phrase) × (s ≡ past c) × Opens P templates [] (first_of_word w) c t
OpensSort P templates w (method n g t) s = (c : Phrase) × (s ≡ method n g c) × Opens P templates [] (first_of_word w) c (of_method w t)
OpensSort P templates w o s = s ≡ o

-- A closed program with these templates opens to a program.
pub record OpensProgram (P C : Program) (templates : List Template) : Type 0 where
  pub words : (w : ℕ) (d c : WordDef) → slice_get P.words w ≡ Some d → slice_get C.words w ≡ Some c → OpensSort P templates w d.sort c.sort
  -- a template's phrase with items in its frame, as many as it captures and takes
  pub bodies :
      (k : ℕ) (t : Template) (is : List Item) → slice_get templates k ≡ Some t → ArePut is → length is ≡ length t.captures + t.holes → Opens P templates is (first_of_literal (literal_numbered P k).at) t.body (template_phrase P k is)
  -- what a template captures of a frame are items that are put, one for each cell
  pub captured : (k : ℕ) (t : Template) (frame is : List Item) → slice_get templates k ≡ Some t → items_at t.captures frame ≡ Some is → ArePut frame → ArePut is × (length is ≡ length t.captures)
  -- a quotation under no cells is the phrase of its template
  pub alone : (at : Literal) (t : Phrase) (k : ℕ) → IsMadeBy P [] at (quot t) k → template_phrase P k [] ≡ t

-- each closed program opens to the one for which it stands
abbrev pub ClosedProgramsOpen : Type 0
ClosedProgramsOpen = (P C : Program) (templates : List Template) → Closes P C templates → OpensProgram P C templates
