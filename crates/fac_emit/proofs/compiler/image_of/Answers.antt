use Rattle.std.proofs.Common.{◌≡◌, List, true, ap, sym, subst, ◌∙◌}
use Rattle.std.specs.Prelude.{nat_eq}
use Rattle.std.specs.List.{IsDistinct, list_all}
use Rattle.fac_lang.specs.declared.program.Program.{Program}
use Rattle.fac_lang.proofs.SourcePrograms.{session_of_whole}
use Rattle.fac_code.specs.declared.image.GenericRow.{GenericRow}
use Rattle.fac_code.specs.declared.image.Instr.{Instr}
use Rattle.fac_code.specs.declared.image.WordRow.{WordRow}
use Rattle.fac_bytes.specs.Spellable.{method_numbers, leaves_few}
use Rattle.fac_generic.proofs.MethodLawLemmas.{lawful}
use Rattle.fac_emit.specs.ProgramCode.{code_place, program_words}
use Rattle.fac_emit.proofs.BuiltCode.{code_built}
use Rattle.fac_emit.proofs.ClosedTables.{has_methods}
use Rattle.fac_emit.proofs.ReferenceLemmas.{plain_refers}
use Rattle.fac_emit.proofs.SpellableImages.{few_left, numbers_differ}
use Rattle.fac_emit.proofs.compiler.image_of.Goals as goal

pub invariant_of-result : goal.invariant_of-result
invariant_of-result c =
    let given = c.requires.closed in
    let closed = c.args.emission.now in
    let parts = c.requires.parts in
    let tables = c.requires.tables in
    let start = c.place_of-start.ensures ∙ ap (λ (P : Program). code_place c.args.parts.words P.top) c.program.ensures ∙ ap (λ (rows : List WordRow). code_place rows closed.program.top) parts.word_rows in
    record {
      built = rw parts.code (code_built given.0 closed (session_of_whole given.0 given.1.1) given.1.0);
      refers = rw (tables.texts, tables.arrays, tables.kinds, tables.sets, parts.template_rows_are, parts.word_rows, tables.generics, tables.pairs, parts.code)
          (plain_refers given.0 closed c.args.heights.now (session_of_whole given.0 given.1.1) given.1.1 given.2 given.1.0 c.place_of-start.result start);
    }

pub returns-clause-plain : goal.returns-clause-plain
returns-clause-plain c =
    let closed = c.args.emission.now in
    let parts = c.requires.parts in
    let tables = c.requires.tables in
    record {
      code = parts.code;
      texts = tables.texts;
      arrays = tables.arrays;
      template_rows_are = parts.template_rows_are;
      word_rows_are = parts.word_rows;
      kinds = tables.kinds;
      sets = tables.sets;
      generics = tables.generics;
      pairs = tables.pairs;
      starts = c.place_of-start.ensures ∙ ap (λ (P : Program). code_place c.args.parts.words P.top) c.program.ensures ∙ ap (λ (rows : List WordRow). code_place rows closed.program.top) parts.word_rows;
    }

pub returns-clause-spellable : goal.returns-clause-spellable
returns-clause-spellable c =
    let given = c.requires.closed in
    let closed = c.args.emission.now in
    let laws = lawful closed.program (has_methods given.0 closed given.1.0 given.1.1) in
    record {
      numbers_differ = subst (λ (gs : List GenericRow). IsDistinct nat_eq (method_numbers gs)) (sym c.requires.tables.generics) (numbers_differ closed.program laws (code_place (program_words closed)));
      texts_short = c.requires.tables.short;
      few_left = subst (λ (is : List Instr). list_all leaves_few is ≡ true) (sym c.requires.parts.code) (few_left given.0 closed given.1.1 given.1.0);
    }
