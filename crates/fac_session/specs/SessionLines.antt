-- A line of a session: what is said of it, what it writes and takes, and what stands behind it.
use Rattle.std.specs.Prelude.{ℕ, ◌-◌, List, [], ◌∷◌, ◌++◌, drop, length, map, reverse, codes}
use Rattle.fac_base.specs.declared.limits.TheConstants.{TICKS}
use Rattle.fac_base.specs.HeightArithmetic.{fits}
use Rattle.fac_lang.specs.declared.program.Program.{Program}
use Rattle.fac_lang.specs.Phrases.{Phrase, end, then, Value}
use Rattle.fac_lang.specs.World.{World}
use Rattle.fac_lang.specs.Eval.{Result as Run, Done, Failed, Spent, Stuck}
use Rattle.fac_lang.specs.Meaning.{run, with_arrays, word_phrase}
use Rattle.fac_parse.specs.declared.reader.Why.TheVariants as why
use Rattle.fac_names.specs.declared.known.Known.{Known}
use Rattle.fac_check.specs.CallableEffects.{callable_height}
use Rattle.fac_notes.specs.declared.report.Report.{Report}
use Rattle.fac_notes.specs.declared.report.Report.TheVariants as report
use Rattle.fac_notes.specs.Sources.{Source}
use Rattle.fac_notes.specs.Told.{error_report, shown, stack_lines}
use Rattle.fac_session.specs.Sessions.{Session, Meant, waits, refuses, goes_on, meant}

-- a line behind the text that waits, where one does
abbrev pub behind_waiting : List ℕ → List ℕ → List ℕ
behind_waiting [] bytes = bytes
behind_waiting (b ∷ bs) bytes = (b ∷ bs) ++ 10 ∷ bytes

-- What is said of a line: its text waits for more, it has definitions alone, its phrase ran with so many ticks, its text is refused, or its phrase failed or spent its
-- budget.
pub data Said : Type 0 where
  more : Report → Said
  defined : Said
  ran : ℕ → Said
  refused : Report → Said
  failed : Report → ℕ → Said
  spent : ℕ → Said

-- what a line comes to: what is said, the session behind it, what it writes, and what is left of the input
pub record Behind : Type 0 where
  pub said : Said
  pub session : Session
  pub output : List ℕ
  pub left : List ℕ

-- The world in which a line's phrase begins: the literal arrays of the line are made behind those of the lines before. The output and the count of lines that
-- were asked for begin with each line.
abbrev pub line_world : Session → Program → List ℕ → World Value
line_world s P input = with_arrays P (length s.known.program.arrays) (drop (length s.known.program.arrays) P.arrays) (record { objects = s.objects; literals = s.literals; input = input; asked = 0; output = [] })

-- the run of a line's phrase on the stack that stands, with so many ticks
abbrev pub line_run : Session → Program → List ℕ → ℕ → Run
line_run s P input n = run P fits (callable_height P) n (word_phrase P P.top) (record { stack = s.stack; world = line_world s P input })

-- the stack as it is written behind a phrase, from the bottom to the top; nothing where it is empty
abbrev pub stack_text : Program → World Value → List Value → List ℕ
stack_text P w [] = []
stack_text P w (v ∷ vs) = codes "--- Data stack:\n" ++ stack_lines (map (shown P w) (reverse (v ∷ vs)))

-- the session that goes on with this program, stack and world
abbrev pub session_with : Known → List Value → World Value → Session
session_with k stack w = record { known = k; waiting = []; stack = stack; objects = w.objects; literals = w.literals }

-- the session in which a text waits
abbrev pub with_waiting : Session → List ℕ → Session
with_waiting s text = record s { waiting = text }

-- By the run of the phrase. Behind one that failed or spent its budget the stack is as it was before, and the objects are as the phrase left them.
abbrev pub of_run : Session → Known → ℕ → Run → Behind
of_run s k budget (Done st left) = record { said = ran (budget - left); session = session_with k st.stack st.world; output = st.world.output ++ stack_text k.program st.world st.stack; left = st.world.input }
of_run s k budget (Failed e st left) = record { said = failed (error_report k.program st.world e) (budget - left); session = session_with k s.stack st.world; output = st.world.output; left = st.world.input }
of_run s k budget (Spent st i) = record { said = spent budget; session = session_with k s.stack st.world; output = st.world.output; left = st.world.input }
-- no accepted phrase is stuck
of_run s k budget Stuck = record { said = defined; session = with_waiting s []; output = []; left = [] }

-- definitions alone run nothing, but their literal arrays are made
abbrev pub of_phrase : Session → Known → Phrase → List ℕ → Behind
of_phrase s k end input = record { said = defined; session = session_with k s.stack (line_world s k.program input); output = []; left = input }
of_phrase s k (then i p t) input = of_run s k TICKS (line_run s k.program input TICKS)

-- by what the text comes to; a refused one leaves all as it was before the text
abbrev pub on_meant : Session → List ℕ → List ℕ → Meant → Behind
on_meant s text input (waits at) = record { said = more (report.Syntax 1 at why.End); session = with_waiting s text; output = []; left = input }
on_meant s text input (refuses r) = record { said = refused r; session = with_waiting s []; output = []; left = input }
on_meant s text input (goes_on k) = of_phrase s k (word_phrase k.program k.program.top) input

-- a line with what is left of the input behind it, for what texts come to as file 1
abbrev pub line : (List ℕ → Source) → Session → List ℕ → List ℕ → Behind
line source s bytes input = let text = behind_waiting s.waiting bytes in on_meant s text input (meant s.known (length s.stack) (source text))
