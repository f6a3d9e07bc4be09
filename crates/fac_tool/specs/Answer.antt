-- What a command answers, as a function of what its files come to and of its input.
use Rattle.std.specs.Prelude.{ℕ, ◌+◌, ◌-◌, Bool, true, false, List, [], ◌∷◌, ◌++◌, drop, map, reverse, None, Some, codes, decimal, Result, Ok, Err}
use Rattle.std.specs.List.{count_by, sum_by}
use Rattle.std.specs.declared.option.Option.{Option}
use Rattle.fac_base.specs.declared.limits.TheConstants.{MOST_SOURCE_BYTES}
use Rattle.fac_lang.specs.declared.program.Program.{Program}
use Rattle.fac_source.specs.declared.tree.Form.{Form}
use Rattle.fac_source.specs.declared.tree.Form.TheVariants as form
use Rattle.fac_source.specs.FormRows.{gives_phrase}
use Rattle.fac_lang.specs.Eval.{Result as Run, Done, Failed, Spent, Stuck}
use Rattle.fac_lang.specs.Meaning.{run, start, word_phrase}
use Rattle.fac_parse.specs.declared.reader.Why.{Why}
use Rattle.fac_source.specs.declared.refusal.NameFault.{NameFault}
use Rattle.fac_names.specs.Resolution.{resolved}
use Rattle.fac_check.specs.CallableEffects.{callable_height}
use Rattle.fac_base.specs.HeightArithmetic.{fits}
use Rattle.fac_check.specs.Verdicts.{verdict}
use Rattle.fac_check.specs.declared.refusal.Broken.{Broken}
use Rattle.fac_notes.specs.declared.status.TheConstants.{SUCCESS, RUN_ERROR, BUDGET_SPENT, BAD_IMAGE}
use Rattle.fac_notes.specs.declared.report.ByteFault.{ByteFault}
use Rattle.fac_notes.specs.declared.report.Report.{Report}
use Rattle.fac_notes.specs.declared.report.Report.TheVariants as report
use Rattle.fac_notes.specs.Statuses.{status_of}
use Rattle.fac_notes.specs.WordNames.{word_name, name_text}
use Rattle.fac_notes.specs.Sources.{Source, no_tokens, no_tree, tree}
use Rattle.fac_notes.specs.Told.{shown, error_report, stack_lines, refusal_of}

-- the most bytes of the files of a command together; those of the prelude don't count
abbrev pub limit : ℕ
limit = MOST_SOURCE_BYTES

-- what the prelude and the files of a command come to: a fault of the tokens of the file with a number, at a byte; a refusal of that file, at a
-- token; or the forms of each file
pub data Sources : Type 0 where
  no_tokens_in : ℕ → ℕ → ByteFault → Sources
  no_tree_in : ℕ → ℕ → Why → Sources
  trees : List (List Form) → Sources

-- Where these forms were read, and the files from this number on come to these: the first of them without tokens or without a tree decides.
abbrev pub together : List (List Form) → ℕ → List Source → Sources
together read file [] = trees read
together read file (no_tokens at why ∷ sources) = no_tokens_in file at why
together read file (no_tree at why ∷ sources) = no_tree_in file at why
together read file (tree forms ∷ sources) = together (read ++ forms ∷ []) (file + 1) sources

-- what files come to that each come to this; they are numbered from 0, which is the prelude
abbrev pub come_to : List Source → Sources
come_to sources = together [] 0 sources

-- a status with the ticks of the run, the stack's texts from the bottom to the top, the refusal, the bytes that are written, and those that are left of the input
pub record Answer : Type 0 where
  pub status : ℕ
  pub ticks : ℕ
  pub stack : Option (List (List ℕ))
  pub refusal : Option Report
  pub output : List ℕ
  pub left : List ℕ

-- nothing runs, nothing is written, and nothing is taken of this input
abbrev pub refused : Report → List ℕ → Answer
refused why input = record { status = status_of why; ticks = 0; stack = None; refusal = Some why; output = []; left = input }

-- a run of the top-level phrase on this input with so many ticks, where callables are tested by the effects that the checker finds
abbrev pub meaning : Program → List ℕ → ℕ → Run
meaning P input n = run P fits (callable_height P) n (word_phrase P P.top) (start P input)

-- the answer of a run with this budget; an accepted program is never stuck
abbrev pub of_run : Program → ℕ → Run → Answer
of_run P budget (Done st more) = record { status = SUCCESS; ticks = budget - more; stack = Some (map (shown P st.world) (reverse st.stack)); refusal = None; output = st.world.output; left = st.world.input }
of_run P budget (Failed e st more) = record { status = RUN_ERROR; ticks = budget - more; stack = None; refusal = Some (error_report P st.world e); output = st.world.output; left = st.world.input }
of_run P budget (Spent st i) = record { status = BUDGET_SPENT; ticks = budget; stack = None; refusal = Some (report.Spent budget); output = st.world.output; left = st.world.input }
of_run P budget Stuck = record { status = BAD_IMAGE; ticks = 0; stack = None; refusal = None; output = []; left = [] }

-- the answer of a program's run on this input with this budget
abbrev pub run_answer : Program → List ℕ → ℕ → Answer
run_answer P input budget = of_run P budget (meaning P input budget)

-- what is written behind a run that is done, by its ticks and by the texts of its stack from the bottom to the top
abbrev pub Behind : Type 0
Behind = ℕ → List (List ℕ) → List ℕ

-- the stack, each value on a line
abbrev pub stack_behind : Behind
stack_behind ticks texts = stack_lines texts

-- a line that sums up a text of so many words and bytes, and its run
abbrev pub summary_line : ℕ → ℕ → ℕ → List ℕ
summary_line words bytes ticks = codes "words " ++ decimal words ++ codes " bytes " ++ decimal bytes ++ codes " ticks " ++ decimal ticks ++ codes "\n"

abbrev pub summary_behind : ℕ → ℕ → Behind
summary_behind words bytes ticks texts = summary_line words bytes ticks

-- that of an answer, which is done where it has a stack
abbrev pub lines_if : Behind → ℕ → Option (List (List ℕ)) → List ℕ
lines_if behind ticks None = []
lines_if behind ticks (Some texts) = behind ticks texts

-- the answer of a run behind which that is written
abbrev pub with_lines : Behind → Answer → Answer
with_lines behind answer = record { status = answer.status; ticks = answer.ticks; stack = answer.stack; refusal = answer.refusal; output = answer.output ++ lines_if behind answer.ticks answer.stack; left = answer.left }

-- that of a program's run on this input with this budget
abbrev pub written_answer : Behind → Program → List ℕ → ℕ → Answer
written_answer behind P input budget = with_lines behind (run_answer P input budget)

-- whether a form defines a word that has a phrase
abbrev pub is_definition : Form → Bool
is_definition (form.Row kind opens parts) = gives_phrase kind
is_definition (form.Items elements) = false

-- how many definitions files have
abbrev pub definitions_in : List (List Form) → ℕ
definitions_in files = sum_by (λ forms. count_by is_definition forms) files

-- those of the files of a command, which stand behind the prelude
abbrev pub own_definitions : List (List Form) → ℕ
own_definitions files = definitions_in (drop 1 files)

-- the answer of `check`
abbrev pub checked_line : ℕ → List ℕ
checked_line count = codes "checked " ++ decimal count ++ codes " definitions\n"

abbrev pub checked_answer : ℕ → List ℕ → Answer
checked_answer count input = record { status = SUCCESS; ticks = 0; stack = None; refusal = None; output = checked_line count; left = input }

-- the answer of what is done with an accepted program, by how many definitions its files have, and by the input
abbrev pub OnAccepted : Type 0
OnAccepted = ℕ → Program → List ℕ → Answer

-- the first refused word by its number, with its refusal, or an accepted program
abbrev pub on_verdict : OnAccepted → ℕ → Program → Option (ℕ × Broken) → List ℕ → Answer
on_verdict on count P (Some first) input = refused (report.Check (refusal_of first) (name_text (word_name P first.0))) input
on_verdict on count P None input = on count P input

-- a refused name, or a program, whose top-level phrase starts from no value
abbrev pub on_resolved : OnAccepted → ℕ → Result Program NameFault → List ℕ → Answer
on_resolved on count (Err fault) input = refused (report.Name fault) input
on_resolved on count (Ok P) input = on_verdict on count P (verdict P 0) input

-- by what the files come to, on this input
abbrev pub answer_on : OnAccepted → Sources → List ℕ → Answer
answer_on on (no_tokens_in file at why) input = refused (report.Bytes file at why) input
answer_on on (no_tree_in file at why) input = refused (report.Syntax file at why) input
answer_on on (trees files) input = on_resolved on (own_definitions files) (resolved files) input

-- the accepted program of the files, where there is one
abbrev pub if_accepted : Program → Option (ℕ × Broken) → Option Program
if_accepted P (Some first) = None
if_accepted P None = Some P

abbrev pub accepted_of : Result Program NameFault → Option Program
accepted_of (Err fault) = None
accepted_of (Ok P) = if_accepted P (verdict P 0)

abbrev pub accepted : Sources → Option Program
accepted (no_tokens_in file at why) = None
accepted (no_tree_in file at why) = None
accepted (trees files) = accepted_of (resolved files)
