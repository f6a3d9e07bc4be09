use Rattle.std.proofs.Common.{◌≡◌, ◌++◌, drop, length}
use Rattle.fac_emit.specs.ProgramCode.{code_from, words_from}
use Rattle.fac_emit.proofs.compiler.place_words.Given as goal

abbrev pub invariant-loop-word : goal.invariant-loop-word
invariant-loop-word l =
    let C = l.emission in record {
      count : l.number ≡ l.word-index;
      code_is : l.initial.parts.code ++ code_from C 0 C.program.words ≡ l.parts.code ++ code_from C l.number (drop l.word-index C.program.words);
      templates_are : l.parts.templates ≡ l.initial.parts.templates;
      words_are : l.initial.parts.words ++ words_from C (length l.initial.parts.code) 0 C.program.words ≡ l.parts.words ++ words_from C (length l.parts.code) l.number (drop l.word-index C.program.words);
    }
