-- The pieces of the checker's work.
use Rattle.std.specs.Prelude.{◌≡◌, ◌<◌, ℕ, List, length, map}
use Rattle.fac_abs.specs.InTurn.{FitsInTurn}
use Rattle.fac_locals.specs.declared.closing.Closed.{Closed}
use Rattle.fac_rows.specs.NumberedRows.{row_entry}
use Rattle.fac_check.specs.Judged.{StandsForWhole, AreUndeclared}
use Rattle.fac_check.specs.declared.pieces.WordPiece.{WordPiece}
use Rattle.fac_check.specs.declared.pieces.TemplatePiece.{TemplatePiece}

-- a piece for one of the words of a closed program that stands for a whole one, with what was found before of all of its words
pub record IsReadyWord (p : WordPiece) : Type 0 where
  pub stands : StandsForWhole p.closed.now
  pub entries : p.rows.now.entries ≡ map row_entry p.closed.now.program.words
  pub flags : AreUndeclared p.closed.now.program p.closed.now.templates p.undeclared.now
  pub word : p.number < length p.closed.now.program.words

-- one for the word of this number of this closed program
pub record IsWordPiece (closed : Closed) (word : ℕ) (p : WordPiece) : Type 0 where
  pub same : p.closed.now ≡ closed
  pub number_is : p.number ≡ word
  pub ready : IsReadyWord p

-- one for each word, in their order
pub record AreWordPieces (closed : Closed) (pieces : List WordPiece) : Type 0 where
  pub each : FitsInTurn (IsWordPiece closed) 0 pieces
  pub all : length pieces ≡ length closed.program.words

-- a piece for one of the templates of a closed program that stands for a whole one
pub record IsReadyTemplate (p : TemplatePiece) : Type 0 where
  pub stands : StandsForWhole p.closed.now
  pub entries : p.rows.now.entries ≡ map row_entry p.closed.now.program.words
  pub template : p.number < length p.closed.now.templates

-- one for the template of this number of this closed program
pub record IsTemplatePiece (closed : Closed) (template : ℕ) (p : TemplatePiece) : Type 0 where
  pub same : p.closed.now ≡ closed
  pub number_is : p.number ≡ template
  pub ready : IsReadyTemplate p

-- one for each template, in their order
pub record AreTemplatePieces (closed : Closed) (pieces : List TemplatePiece) : Type 0 where
  pub each : FitsInTurn (IsTemplatePiece closed) 0 pieces
  pub all : length pieces ≡ length closed.templates
