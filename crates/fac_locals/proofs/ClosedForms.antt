-- What closing makes of words and literal arrays, as functions that compute.
use Rattle.std.proofs.Common.{List, [], length, replicate, None}
use Rattle.fac_lang.specs.Phrases.{end, quot}
use Rattle.fac_lang.specs.Meaning.{nowhere}
use Rattle.fac_lang.specs.declared.phrase.Template.{Template}
use Rattle.fac_lang.specs.declared.program.Lit.{Lit}
use Rattle.fac_lang.specs.declared.program.WordDef.{WordDef}
use Rattle.fac_locals.specs.inner.Numbering.{put_all, template_of, start_of, closed_words, words_behind, words_templates, words_starts, counts_from, Stage, arrays_closed}

abbrev pub made_words : List WordDef → List (List Lit) → List WordDef
made_words ds lss = closed_words (counts_from [] lss) 0 0 ds

-- the stage at which all is closed
abbrev pub last_stage : List WordDef → List (List Lit) → Stage
last_stage ds lss =
    let counts = counts_from [] lss in
    arrays_closed counts (length lss) (record { arrays = lss; templates = put_all (replicate (words_behind counts 0 ds) (template_of [] nowhere (quot end) end)) (words_templates counts 0 0 ds); starts = put_all (replicate (length lss) (start_of 0 nowhere None)) (words_starts counts 0 0 ds) })

abbrev pub made_templates : List WordDef → List (List Lit) → List Template
made_templates ds lss = (last_stage ds lss).templates

abbrev pub made_arrays : List WordDef → List (List Lit) → List (List Lit)
made_arrays ds lss = (last_stage ds lss).arrays
