-- A session: what stands between two lines, and what a text comes to behind it.
use Rattle.std.specs.Prelude.{ℕ, List, [], ◌∷◌, map, Option, Some, None, Result, Ok, Err, false}
use Rattle.fac_lang.specs.Phrases.{Value}
use Rattle.fac_lang.specs.World.{Object}
use Rattle.fac_lang.specs.Meaning.{with_arrays}
use Rattle.fac_source.specs.declared.tree.Form.{Form}
use Rattle.fac_source.specs.declared.refusal.NameFault.{NameFault}
use Rattle.fac_parse.specs.declared.reader.Why.{Why}
use Rattle.fac_parse.specs.declared.reader.Why.TheVariants as why
use Rattle.fac_vocab.specs.Scopes.{begun, using_all}
use Rattle.fac_names.specs.FromFlat.{form_of}
use Rattle.fac_names.specs.Resolution.{first_reading}
use Rattle.fac_names.specs.Resolved.{going_on, read_files}
use Rattle.fac_names.specs.declared.known.Known.{Known}
use Rattle.fac_check.specs.Verdicts.{verdict}
use Rattle.fac_check.specs.declared.refusal.Broken.{Broken}
use Rattle.fac_notes.specs.declared.report.Report.{Report}
use Rattle.fac_notes.specs.declared.report.Report.TheVariants as report
use Rattle.fac_notes.specs.Sources.{Source, no_tokens, no_tree, tree}
use Rattle.fac_notes.specs.Told.{refusal_of}
use Rattle.fac_notes.specs.WordNames.{word_name, name_text}

-- What stands between two lines: the program with the scope in which the next text goes on, the text that waits for its end, where one does, the stack with its top
-- first, the objects in order of making, and the addresses of the literal arrays.
pub record Session : Type 0 where
  pub known : Known
  pub waiting : List ℕ
  pub stack : List Value
  pub objects : List (Object Value)
  pub literals : List ℕ

-- Texts. Each text of a session is file 1, so that notes tell of the token or byte of the text at hand.

-- what a text comes to: it waits for its end, which is wanted at a token, it is refused, or the program goes on with it
pub data Meant : Type 0 where
  waits : ℕ → Meant
  refuses : Report → Meant
  goes_on : Known → Meant

-- by the verdict on a program
abbrev pub on_verdict : Known → Option (ℕ × Broken) → Meant
on_verdict k (Some first) = refuses (report.Check (refusal_of first) (name_text (word_name k.program first.0)))
on_verdict k None = goes_on k

-- by the names, where the top-level phrase starts on so many values
abbrev pub on_names : ℕ → Result Known NameFault → Meant
on_names count (Err fault) = refuses (report.Name fault)
on_names count (Ok k) = on_verdict k (verdict k.program count)

-- a text without a tree waits where a tree begins with it
abbrev pub on_no_tree : ℕ → Why → Meant
on_no_tree at why.End = waits at
on_no_tree at why.Other = refuses (report.Syntax 1 at why.Other)

-- a text behind what is known, on a stack of so many values, by what its bytes come to
abbrev pub meant : Known → ℕ → Source → Meant
meant k count (no_tokens at fault) = refuses (report.Bytes 1 at fault)
meant k count (no_tree at reason) = on_no_tree at reason
meant k count (tree forms) = on_names count (going_on k forms)

-- Before the first line.

-- What is known where the prelude has these forms. The scope is that in which a file begins, and uses all vocabularies besides whose names don't end in `.private`.
abbrev pub first_known : List Form → Result Known NameFault
first_known forms = elim (read_files first_reading (map form_of forms ∷ []) false) [ Err fault ↦ Err fault | Ok k ↦ Ok (record { scope = using_all (begun k.scope); program = k.program }) ]

-- the session on what is known, with nothing on its stack
abbrev pub first_session : Known → Session
first_session k = let w = with_arrays k.program 0 k.program.arrays (record { objects = []; literals = []; input = []; asked = 0; output = [] }) in record { known = k; waiting = []; stack = []; objects = w.objects; literals = w.literals }

abbrev pub on_first_verdict : Known → Option (ℕ × Broken) → Result Session Report
on_first_verdict k (Some first) = Err (report.Check (refusal_of first) (name_text (word_name k.program first.0)))
on_first_verdict k None = Ok (first_session k)

abbrev pub on_first_names : Result Known NameFault → Result Session Report
on_first_names (Err fault) = Err (report.Name fault)
on_first_names (Ok k) = on_first_verdict k (verdict k.program 0)

-- the session before the first line, or the refusal of the prelude, which is file 0, by what its text comes to
abbrev pub session_of : Source → Result Session Report
session_of (no_tokens at fault) = Err (report.Bytes 0 at fault)
session_of (no_tree at reason) = Err (report.Syntax 0 at reason)
session_of (tree forms) = on_first_names (first_known forms)
