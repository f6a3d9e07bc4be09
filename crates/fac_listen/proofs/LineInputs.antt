-- A line takes a byte of the input at least, and puts none back.
use Rattle.std.proofs.Common.{◌≡◌, ◌<◌, ◌≤◌, ◌+◌, ℕ, suc, List, [], ◌∷◌, length, drop, Bool, true, false, cond, refl, sym, ap, ◌∙◌, subst, arith, length-drop}
use Rattle.std.specs.Prelude.{nat_le, take}
use Rattle.fac_base.specs.HeightArithmetic.{fits}
use Rattle.fac_base.specs.declared.limits.TheConstants.{TICKS, MOST_LINE_BYTES}
use Rattle.fac_lang.specs.declared.program.Lit.{Lit}
use Rattle.fac_lang.specs.declared.program.Program.{Program}
use Rattle.fac_lang.specs.Phrases.{Phrase, end, then, Value}
use Rattle.fac_lang.specs.World.{array, World}
use Rattle.fac_lang.specs.Eval.{Result as Run, Done, Failed, Spent, Stuck}
use Rattle.fac_lang.specs.Meaning.{with_arrays, word_phrase}
use Rattle.fac_check.specs.CallableEffects.{callable_height}
use Rattle.fac_lines.specs.LineReads.{LineRead, NoLine, Line, LineTooLong, line_length, line_within, line_of}
use Rattle.fac_names.specs.declared.known.Known.{Known}
use Rattle.fac_notes.specs.Sources.{Source}
use Rattle.fac_session.specs.Sessions.{Session, Meant, waits, refuses, goes_on, meant}
use Rattle.fac_session.specs.SessionLines.{behind_waiting, line_world, line_run, of_run, of_phrase, on_meant, line}
use Rattle.fac_listen.proofs.RunInputs.{LeavesAtMost, run_falls}

-- making literal arrays takes nothing
arrays_take_nothing : (P : Program) (k : ℕ) (lss : List (List Lit)) (w : World Value) → (with_arrays P k lss w).input ≡ w.input
arrays_take_nothing P k [] w = refl
arrays_take_nothing P k (ls ∷ lss) w = arrays_take_nothing P (suc k) lss _

run_leaves : (s : Session) (k : Known) (budget most : ℕ) (r : Run) → LeavesAtMost most r → length (of_run s k budget r).left ≤ most
run_leaves s k budget most (Done st n) h = h
run_leaves s k budget most (Failed e st n) h = h
run_leaves s k budget most (Spent st i) h = h
run_leaves s k budget most Stuck h = omega arith

-- a run with any number of ticks
line_run_leaves : (s : Session) (P : Program) (input : List ℕ) (n : ℕ) → LeavesAtMost (length input) (line_run s P input n)
line_run_leaves s P input n =
    let world : World Value = record { objects = s.objects; literals = s.literals; input = input; asked = 0; output = [] } in
    subst (λ (bytes : List ℕ). LeavesAtMost (length bytes) (line_run s P input n)) (arrays_take_nothing P (length s.known.program.arrays) (drop (length s.known.program.arrays) P.arrays) world)
    (run_falls P fits (callable_height P) n (word_phrase P P.top) (record { stack = s.stack; world = line_world s P input }))

phrase_leaves : (s : Session) (k : Known) (t : Phrase) (input : List ℕ) → length (of_phrase s k t input).left ≤ length input
phrase_leaves s k end input = omega arith
phrase_leaves s k (then i p t) input = run_leaves s k TICKS (length input) (line_run s k.program input TICKS) (line_run_leaves s k.program input TICKS)

text_leaves : (s : Session) (text input : List ℕ) (m : Meant) → length (on_meant s text input m).left ≤ length input
text_leaves s text input (waits at) = omega arith
text_leaves s text input (refuses r) = omega arith
text_leaves s text input (goes_on k) = phrase_leaves s k (word_phrase k.program k.program.top) input

pub line_falls : (source : List ℕ → Source) (s : Session) (bytes input : List ℕ) → length (line source s bytes input).left ≤ length input
line_falls source s bytes input = text_leaves s (behind_waiting s.waiting bytes) input (meant s.known (length s.stack) (source (behind_waiting s.waiting bytes)))

-- by whether the line is short enough
cut_shorter : (t : Bool) (line left long bytes rest : List ℕ) (k : ℕ) → length left < k → cond t (Line line left) (LineTooLong long) ≡ Line bytes rest → length rest < k
cut_shorter true line left long bytes rest k h e = let same : left ≡ rest = cc in rw (← same) h
cut_shorter false line left long bytes rest k h e = absurd (cc)

within_shorter : (most : ℕ) (input bytes rest : List ℕ) → line_within most input ≡ Line bytes rest → length rest < length input
unfolding line_within
within_shorter most [] bytes rest e = absurd (cc)
within_shorter most (b ∷ bs) bytes rest e =
    cut_shorter (nat_le (line_length (b ∷ bs)) most) (take (line_length (b ∷ bs)) (b ∷ bs)) (drop (line_length (b ∷ bs) + 1) (b ∷ bs)) (drop (most + 1) (b ∷ bs)) bytes rest (length (b ∷ bs)) (omega (arith, length-drop (line_length (b ∷ bs) + 1) (b ∷ bs))) e

pub rest_shorter : (input bytes rest : List ℕ) → line_of input ≡ Line bytes rest → length rest < length input
rest_shorter input bytes rest e = within_shorter MOST_LINE_BYTES input bytes rest e
